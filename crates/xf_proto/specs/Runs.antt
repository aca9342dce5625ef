-- Why steps end early, and what was made by then.
use Rattle.std.specs.Prelude.{◌≡◌, ℕ, ◌<◌, true, List, ◌∷◌, ◌++◌, length, Some, None, slice_get}
use Rattle.xf_proto.specs.declared.step.Kind.{Kind}
use Rattle.xf_proto.specs.declared.step.Step.{Step}
use Rattle.xf_proto.specs.declared.step.StepFault.{StepFault}
use Rattle.xf_proto.specs.declared.step.StepFault.TheVariants as fault
use Rattle.xf_proto.specs.SeatState.{SeatState}
use Rattle.xf_proto.specs.ProtocolState.{ProtocolState}
use Rattle.xf_proto.specs.Legality.{may_step}
use Rattle.xf_proto.specs.Effects.{state_after}
use Rattle.xf_proto.specs.Table.{row_for, row_of, IsLegalStep, LeadTo}

-- at which step it came
abbrev pub place_of_fault : StepFault → ℕ
place_of_fault (fault.Illegal at) = at
place_of_fault (fault.NoMemory at) = at

-- its cause: the table has no row for the step, or it has one and memory was refused
abbrev pub HasCause : ProtocolState → Step → StepFault → Type 0
HasCause p step (fault.Illegal at) = row_of p step ≡ None
HasCause p step (fault.NoMemory at) = IsLegalStep p step

-- the steps before the fault are made, and that one isn't
pub record StopsAt (old : ProtocolState) (steps : List Step) (f : StepFault) (new : ProtocolState) : Type 0 where
  pub before : List Step
  pub step : Step
  pub rest : List Step
  pub whole : before ++ step ∷ rest ≡ steps
  pub place : length before ≡ place_of_fault f
  pub led : LeadTo old before new
  pub cause : HasCause new step f

-- the table has a row for the step of the seat at this place
pub record HasRow (p : ProtocolState) (i : ℕ) (k : Kind) : Type 0 where
  pub seat : SeatState
  pub there : slice_get p.seats i ≡ Some seat
  pub within : i < length p.seats
  pub legal : (s : SeatState) → slice_get p.seats i ≡ Some s → may_step p i s.hand k ≡ true
  pub row : row_for p i (slice_get p.seats i) k ≡ Some (state_after p i seat k)
