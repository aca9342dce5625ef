-- A moment of a history, as the code keeps it.
use Rattle.std.specs.Prelude.{◌≡◌, ℕ, ◌+◌, ◌*◌, ◌^◌, ◌≤◌, List, ◌∷◌, length}
use Rattle.xf_types.specs.declared.call.Receipt.{Receipt}
use Rattle.xf_types.specs.declared.call.Reply.TheVariants as reply
use Rattle.xf_types.specs.History.{Moment, next_moment, IsHeldBack, with_policies, with_states}
use Rattle.xf_types.specs.Steps.{step}
use Rattle.xf_hist.specs.declared.moment.Moment.{Moment as Kept}

-- the definition's moment after these receipts, the latest first
abbrev pub at : Kept → List Receipt → Moment
at m past = record {
  machine = m.machine;
  policies_removed = m.policies_removed;
  states_removed = m.states_removed;
  past = past;
}

-- one receipt later
abbrev pub IsNext : Kept → List Receipt → Receipt → Kept → Type 0
IsNext old past r new = at new (r ∷ past) ≡ next_moment (at old past) r

-- what has room at a moment after so many receipts
pub record IsEarly (m : Kept) (count : ℕ) : Type 0 where
  pub numbers : m.machine.shown.next_number ≤ 2 ^ 62 + count
  pub sids : m.machine.shown.next_sid ≤ 2 ^ 62 + count
  pub policies : m.policies_removed ≤ count * 2 ^ 32
  pub states : m.states_removed ≤ count * 2 ^ 32

-- slots for policies are held back, and the policies that are listed fill the others
abbrev pub PoliciesAreHeldBack : Kept → Receipt → ℕ → ℕ → Type 0
PoliciesAreHeldBack m r live waiting =
    let listed = length m.machine.shown.policies in
    IsHeldBack live waiting listed m.machine.shown.max_policies m.policies_removed
    × ((step (with_policies m.machine listed) r.call).reply ≡ reply.Full live 0)

-- the same of states
abbrev pub StatesAreHeldBack : Kept → Receipt → ℕ → ℕ → Type 0
StatesAreHeldBack m r live waiting =
    let listed = length m.machine.shown.states in
    IsHeldBack live waiting listed m.machine.shown.max_states m.states_removed
    × ((step (with_states m.machine listed) r.call).reply ≡ reply.Full live 0)
