-- When words stand for states in slots.
use Rattle.std.specs.Prelude.{ℕ, List, Option, Some, reverse}
use Rattle.xf_types.specs.declared.state.Sa.{Sa}
use Rattle.xf_index.specs.Indexes.{Indexed, Holds}
use Rattle.xf_doubling.specs.Heads.{head_of}
use Rattle.xf_sadidx.specs.declared.area.StateArea.{StateArea}
use Rattle.xf_sadidx.specs.declared.kind.Kind.{Kind}
use Rattle.xf_sadidx.specs.Layout.{chains_of, record_at, doubling_in}
use Rattle.xf_sadidx.specs.Keys.{key_of}

-- the head of a state, of a kind, where so many heads of half are split
abbrev pub head_by : ℕ → ℕ → Kind → Sa → Option ℕ
head_by half moved kind s = head_of half moved (key_of kind s)

-- Each chain of each kind passes just the slots whose states stand there, the last state first, where the heads are so far doubled.
pub record ChainsStand (a : StateArea) (image : List ℕ) (half moved : ℕ) (entries : List (ℕ × Sa)) : Type 0 where
  pub chains : (kind : Kind) → Indexed (chains_of a kind) image (head_by half moved kind) (reverse entries)

-- the same as far as the words tell that they are doubled
abbrev pub StatesIndexed : StateArea → List ℕ → List (ℕ × Sa) → Type 0
StatesIndexed a image entries = ChainsStand a image (doubling_in a image).half (doubling_in a image).moved entries

-- In each slot stands its state.
abbrev pub RecordsStand : StateArea → List ℕ → List (ℕ × Sa) → Type 0
RecordsStand a image entries = Holds (λ slot. record_at a image slot) (λ s. Some s) entries
