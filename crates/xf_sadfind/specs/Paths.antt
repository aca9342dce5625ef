-- What templates come to, with the slots of states in the place of hops.
use Rattle.std.specs.Prelude.{◌≡◌, ℕ, ⊤, List, [], ◌∷◌, ◌++◌, Option, None, Some}
use Rattle.xf_types.specs.declared.call.Hop.{Hop}
use Rattle.xf_types.specs.declared.state.Sa.{Sa}
use Rattle.xf_types.specs.Resolution.{Resolution, Through, Waits, Wants, hop_of}
use Rattle.xf_chain.specs.Lists.{Within}
use Rattle.xf_sadfind.specs.declared.resolved.Resolved.{Resolved}
use Rattle.xf_sadfind.specs.declared.resolved.Resolved.TheVariants as found

-- The state in the slot is one of those in the list, and a path goes through it by this hop.
pub record IsHop (entries : List (ℕ × Sa)) (slot : ℕ) (hop : Hop) : Type 0 where
  pub front : List (ℕ × Sa)
  pub back : List (ℕ × Sa)
  pub state : Sa
  pub whole : entries ≡ front ++ ((slot, state) ∷ back)
  pub step : hop_of state ≡ hop

-- the states in the slots give these hops, in order
abbrev pub IsPath : List (ℕ × Sa) → List ℕ → List Hop → Type 0
IsPath entries [] [] = ⊤
IsPath entries [] (hop ∷ hops) = ⊥
IsPath entries (slot ∷ slots) [] = ⊥
IsPath entries (slot ∷ slots) (hop ∷ hops) = IsHop entries slot hop × IsPath entries slots hops

-- what was found is what the templates come to
abbrev pub IsResolved : List (ℕ × Sa) → Resolved → Resolution → Type 0
IsResolved entries (found.Path slots) (Through path) = IsPath entries slots.items path
IsResolved entries (found.Path slots) (Waits seq) = ⊥
IsResolved entries (found.Path slots) (Wants t place src dst) = ⊥
IsResolved entries (found.Waiting seq) (Through path) = ⊥
IsResolved entries (found.Waiting seq) (Waits wanted) = seq ≡ wanted
IsResolved entries (found.Waiting seq) (Wants t place src dst) = ⊥
IsResolved entries (found.Wanting template src dst) (Through path) = ⊥
IsResolved entries (found.Wanting template src dst) (Waits seq) = ⊥
IsResolved entries (found.Wanting template src dst) (Wants t place used_src used_dst) =
    (template ≡ place) × (src ≡ used_src) × (dst ≡ used_dst)

-- the slots of a path are some of so many
abbrev pub IsWithin : ℕ → Resolved → Type 0
IsWithin count (found.Path slots) = Within count slots.items
IsWithin count (found.Waiting seq) = ⊤
IsWithin count (found.Wanting template src dst) = ⊤

-- the sequence number of a state, and 0 where there is none
abbrev pub seq_of : Option Sa → ℕ
seq_of None = 0
seq_of (Some s) = s.spec.seq
