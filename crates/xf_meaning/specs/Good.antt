-- When the words of an image stand for what is told.
use Rattle.std.specs.Prelude.{◌≡◌, ℕ, List, length, slice_index}
use Rattle.xf_types.specs.declared.policy.Policy.{Policy}
use Rattle.xf_types.specs.declared.state.Sa.{Sa}
use Rattle.xf_index.specs.Indexes.{slots_in}
use Rattle.xf_inexact.specs.Whole.{SpdStands}
use Rattle.xf_sadimage.specs.States.{StatesStand}
use Rattle.xf_invariant.specs.Meaning.{Told}
use Rattle.xf_meaning.specs.Places.{policies_of, states_of, layout_of, size_of}
use Rattle.xf_meaning.specs.Marks.{AreMarked, AreIds}

-- There are as many words as such a database has. They stand for all that is shown, with these policies and these states in their slots, of
-- which alone the status is that of a listed one; and for the ids.
pub record Good (p s : ℕ) (image : List ℕ) (t : Told) : Type 0 where
  pub policies : List (ℕ × Policy)
  pub states : List (ℕ × Sa)
  pub on_policies : SpdStands (policies_of p s) image t.shown policies
  pub on_states : StatesStand (states_of p s) image t.shown states
  pub time : slice_index image (layout_of p s).clock ≡ t.shown.time
  pub policies_marked : AreMarked 0 p image (slots_in policies)
  pub states_marked : AreMarked p s image (slots_in states)
  pub ids : AreIds p s image t.ids
  pub size : length image ≡ size_of p s
