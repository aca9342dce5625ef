-- A slot that is retired while a seat is pinned isn't listed again before the seat's unpin.
use Rattle.std.specs.Prelude.{◌≡◌, ℕ, ◌<◌, ◌≤◌, List, [], ◌∷◌, ◌++◌}
use Rattle.xf_proto.specs.declared.step.Kind.{Kind}
use Rattle.xf_proto.specs.declared.step.Kind.TheVariants as kind
use Rattle.xf_proto.specs.declared.step.Step.{Step}
use Rattle.xf_proto.specs.ProtocolState.{ProtocolState, first_state}
use Rattle.xf_proto.specs.Table.{LeadTo}

-- a step of this seat
abbrev pub step_of : ℕ → Kind → Step
step_of i j = record { actor = i; kind = j }

-- each step of the list is so
abbrev pub EachStep : (Step → Type 0) → List Step → Type 0
EachStep P [] = Unit {0}
EachStep P (step ∷ steps) = P step × EachStep P steps

-- the step isn't the seat's Unpin
abbrev pub LeavesPin : ℕ → Step → Type 0
LeavesPin k step = step.actor ≡ k → step.kind ≡ kind.Unpin → ⊥

-- a list in which the seat pins, then a slot is retired, by a store of 2 or more as its status, and then listed, by a store of 1; and the
-- seat stays pinned until then
pub record Reuses (k slot : ℕ) (steps : List Step) : Type 0 where
  pub before : List Step
  pub between : List Step
  pub after : List Step
  pub rest : List Step
  pub retirer : ℕ
  pub lister : ℕ
  pub word : ℕ
  pub retires : 2 ≤ word
  pub whole : before ++ (step_of k kind.Pin ∷ (between ++ (step_of retirer (kind.Store slot word) ∷ (after ++ (step_of lister (kind.Store slot 1) ∷ rest))))) ≡ steps
  pub pinned_between : EachStep (LeavesPin k) between
  pub pinned_after : EachStep (LeavesPin k) after

-- in no list are all steps legal then
abbrev pub NoReuse : Type 0
NoReuse =
    (seats words slots k slot : ℕ) (steps : List Step) (p : ProtocolState) → 1 ≤ seats → seats ≤ 16 → slot < slots
    → LeadTo (first_state seats words slots) steps p → Reuses k slot steps → ⊥
