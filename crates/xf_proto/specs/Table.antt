-- The table of the protocol: which step has a row, and where it leads.
use Rattle.std.specs.Prelude.{◌≡◌, ℕ, if◌then◌else◌, List, [], ◌∷◌, Option, Some, None, slice_get}
use Rattle.xf_proto.specs.declared.step.Kind.{Kind}
use Rattle.xf_proto.specs.declared.step.Step.{Step}
use Rattle.xf_proto.specs.SeatState.{SeatState}
use Rattle.xf_proto.specs.ProtocolState.{ProtocolState}
use Rattle.xf_proto.specs.Legality.{may_step}
use Rattle.xf_proto.specs.Effects.{state_after}

-- the state after a step of seat i, where the table has a row for it
abbrev pub row_for : ProtocolState → ℕ → Option SeatState → Kind → Option ProtocolState
row_for p i None k = None
row_for p i (Some s) k = if may_step p i s.hand k then Some (state_after p i s k) else None

-- the row of a step; one whose actor isn't a seat has none
abbrev pub row_of : ProtocolState → Step → Option ProtocolState
row_of p step = row_for p step.actor (slice_get p.seats step.actor) step.kind

-- the table has a row for the step
abbrev pub IsLegalStep : ProtocolState → Step → Type 0
IsLegalStep p step = (q : ProtocolState) × (row_of p step ≡ Some q)

-- all steps have their rows, and lead there
abbrev pub LeadTo : ProtocolState → List Step → ProtocolState → Type 0
LeadTo p [] q = p ≡ q
LeadTo p (step ∷ steps) q = (next : ProtocolState) × (row_of p step ≡ Some next) × LeadTo next steps q
