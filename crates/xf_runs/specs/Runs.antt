-- What lists of legal steps lead to.
use Rattle.std.specs.Prelude.{◌≡◌, ℕ, ◌+◌, ◌≤◌, List, Option, replicate}
use Rattle.xf_types.specs.declared.state.Sa.{Sa}
use Rattle.xf_types.specs.Machine.{Machine}
use Rattle.xf_types.specs.ChangeIds.{ChangeIds}
use Rattle.xf_types.specs.Steps.{empty}
use Rattle.xf_types.specs.History.{IsLegalHistory}
use Rattle.xf_invariant.specs.Meaning.{Told, told}
use Rattle.xf_proto.specs.declared.step.Step.{Step}
use Rattle.xf_proto.specs.ProtocolState.{ProtocolState, first_state}
use Rattle.xf_proto.specs.Table.{LeadTo}
use Rattle.xf_runs.specs.Known.{Known, first_start, first_known, LearnTo}
use Rattle.xf_runs.specs.Holds.{AlwaysHolds, HonestHolds}
use Rattle.xf_runs.specs.Honest.{IsHonest}

-- a list all steps of which are legal leads from the first state to one of which the turn part holds, whatever slots list
abbrev pub TurnsStay : Type 0
TurnsStay =
    (lists : List ℕ → ℕ → Option (Sa × ℕ)) (start : Machine) (seats words slots : ℕ) (steps : List Step) (p : ProtocolState) → 1 ≤ seats → seats ≤ 16
    → LeadTo (first_state seats words slots) steps p
    → (k : Known) × LearnTo lists start (first_known seats words slots (first_start seats words slots 0)) steps k × (k.state ≡ p) × AlwaysHolds seats k

-- the layout of a database: its slots have words, and words that are all 0 stand for the empty machine with as many records at most as slots
pub record IsLayout (good : List ℕ → Told → Type 0) (policies states words : ℕ) : Type 0 where
  pub few_policies : policies ≤ 4096
  pub few_states : states ≤ 8192
  pub room : policies + states ≤ words
  pub ids : ChangeIds
  pub zeros : good (replicate words 0) (told (empty policies states).shown ids)

module _ (bucket_of : Sa → ℕ) (good : List ℕ → Told → Type 0) (lists : List ℕ → ℕ → Option (Sa × ℕ)) (id_place : ℕ → ℕ) (index_at : List ℕ → ℕ → Option ℕ) (policies states : ℕ) where
  -- an honest list, all steps of which are legal, leads from the first state here
  pub record LeadsHonestly (seats words : ℕ) (steps : List Step) (p : ProtocolState) : Type 0 where
    pub some_seat : 1 ≤ seats
    pub few_seats : seats ≤ 16
    pub layout : IsLayout good policies states words
    pub led : LeadTo (first_state seats words (policies + states)) steps p
    pub honest : IsHonest bucket_of good lists id_place index_at policies states (replicate words 0) (empty policies states) (first_known seats words (policies + states) (first_start seats words policies states)) steps

  -- then all parts hold of what is known after it, and so after each of its steps, since a front of such a list is one
  abbrev pub PartsStay : Type 0
  PartsStay =
      (seats words : ℕ) (steps : List Step) (p : ProtocolState) → LeadsHonestly seats words steps p
      → (k : Known) × LearnTo lists (empty policies states) (first_known seats words (policies + states) (first_start seats words policies states)) steps k × (k.state ≡ p)
      × HonestHolds bucket_of good lists id_place policies states seats (replicate words 0) (empty policies states) k

  -- and the receipts are a legal history of the empty machine
  abbrev pub RunsAreLegal : Type 0
  RunsAreLegal =
      (seats words : ℕ) (steps : List Step) (p : ProtocolState) → LeadsHonestly seats words steps p
      → IsLegalHistory (empty policies states) p.receipts
