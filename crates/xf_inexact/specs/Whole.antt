-- The words of the policy database: those of the list, and directly behind them those of the trees.
use Rattle.std.specs.Prelude.{ℕ, List}
use Rattle.xf_types.specs.declared.policy.Policy.{Policy}
use Rattle.xf_types.specs.Machine.{Shown}
use Rattle.xf_image.specs.declared.area.PolicyArea.{PolicyArea}
use Rattle.xf_image.specs.Layout.{end_of as policies_end}
use Rattle.xf_image.specs.Policies.{PoliciesStand}
use Rattle.xf_inexact.specs.declared.inexact.Inexact.{Inexact}
use Rattle.xf_inexact.specs.Holds.{HoldPart}
use Rattle.xf_inexact.specs.Places.{Fits, end_of}

-- the trees behind the words of the list
abbrev pub trees_of : PolicyArea → Inexact
trees_of a = record { area = a; base = policies_end a }

-- the first place behind all
abbrev pub whole_end : PolicyArea → ℕ
whole_end a = end_of (trees_of a)

-- all lies in so many words
abbrev pub WholeFits : PolicyArea → ℕ → Type 0
WholeFits a size = Fits (trees_of a) size

-- The words stand for the policies, the counters and the thresholds of what a machine shows, with these policies in these slots, and
-- the trees have those that the exact part doesn't take.
pub record SpdStands (a : PolicyArea) (image : List ℕ) (s : Shown) (entries : List (ℕ × Policy)) : Type 0 where
  pub list : PoliciesStand a image s entries
  pub part : HoldPart (trees_of a) image s.hthresh4 s.hthresh6 entries
