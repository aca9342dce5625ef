-- What holds of words and a pool before each call and after it.
use Rattle.std.specs.Prelude.{◌≡◌, ℕ, ◌<◌, ◌^◌, List, slice_index}
use Rattle.xf_types.specs.declared.call.Reply.{Reply}
use Rattle.xf_types.specs.declared.policy.Policy.{Policy}
use Rattle.xf_types.specs.IsMachine.{IsMachine}
use Rattle.xf_types.specs.Machine.{Machine, Outcome}
use Rattle.xf_image.specs.declared.area.PolicyArea.{PolicyArea}
use Rattle.xf_image.specs.Layout.{next_number_place}
use Rattle.xf_inexact.specs.Whole.{SpdStands, WholeFits}
use Rattle.xf_image.specs.Readings.{listed_in}
use Rattle.xf_spd.specs.Slots.{PoolFits}

-- The words stand for the policies of this machine, whose time it is.
pub record StandsFor (a : PolicyArea) (words : List ℕ) (now : ℕ) (m : Machine) : Type 0 where
  pub entries : List (ℕ × Policy)
  pub stands : SpdStands a words m.shown entries
  pub is : IsMachine m
  pub time : m.shown.time ≡ now

-- They stand for some machine, and a pool with so many slots, so many of which are out, fits.
pub record Stood (a : PolicyArea) (words : List ℕ) (now all out : ℕ) (gives takes : ℕ → Type 0) : Type 0 where
  pub machine : Machine
  pub for_it : StandsFor a words now machine
  pub pool : PoolFits all out gives takes a.slots (listed_in a words)

-- far fewer policies were listed than there are numbers
abbrev pub IsYoung : PolicyArea → List ℕ → Type 0
IsYoung a words = slice_index words (next_number_place a) < 2 ^ 62

-- The reply is that of the rule, and the words stand for the machine after it.
pub record Answers (a : PolicyArea) (words : List ℕ) (now : ℕ) (answer : Reply) (rule : Outcome) : Type 0 where
  pub reply : answer ≡ rule.reply
  pub stands : StandsFor a words now rule.machine

-- The words lie in so many, and stand at time 0 for some machine.
pub record IsBeside (a : PolicyArea) (size : ℕ) (words : List ℕ) (all out : ℕ) (gives takes : ℕ → Type 0) : Type 0 where
  pub fits : WholeFits a size
  pub stood : Stood a words 0 all out gives takes
