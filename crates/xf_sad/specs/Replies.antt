-- What a result is as a reply of the machine.
use Rattle.std.specs.Prelude.{◌≡◌, ⊤, ℕ, ◌+◌, List, Option, None, Some, Ok, Err, length}
use Rattle.std.specs.Option.{option_map}
use Rattle.std.specs.declared.result.Result.{Result}
use Rattle.xf_types.specs.declared.call.Reply.{Reply}
use Rattle.xf_types.specs.declared.call.Reply.TheVariants as reply
use Rattle.xf_types.specs.Machine.{Shown}
use Rattle.xf_sadidx.specs.declared.area.StateArea.{StateArea}
use Rattle.xf_sadidx.specs.Layout.{record_at}
use Rattle.xf_sad.specs.declared.faults.SadFault.{SadFault}
use Rattle.xf_sad.specs.declared.faults.SadFault.TheVariants.{Invalid, Exists, NoState, NoSpi, Full}

-- the slot, or that there is no state
abbrev pub found_reply : Option ℕ → Result ℕ SadFault
found_reply None = Err NoState
found_reply (Some slot) = Ok slot

-- why a call was refused
abbrev pub fault_reply : SadFault → Reply
fault_reply Invalid = reply.Invalid
fault_reply (Exists sid) = reply.StateExists sid
fault_reply NoState = reply.NoState
fault_reply NoSpi = reply.NoSpi
fault_reply (Full live waiting) = reply.Full live waiting

-- All slots are out or wait, of which there are so many, and a machine with as much less room is full.
pub record IsFull (s : Shown) (rule : Shown → Reply) (held live waiting : ℕ) : Type 0 where
  pub all : live ≡ length s.states
  pub waits : waiting ≡ held
  pub room : live + waiting ≡ s.max_states
  pub reply : reply.Full live 0 ≡ rule (record s { max_states = live })

abbrev pub FaultIs : ℕ → Shown → (Shown → Reply) → SadFault → Type 0
FaultIs held s rule Invalid = reply.Invalid ≡ rule s
FaultIs held s rule (Exists sid) = reply.StateExists sid ≡ rule s
FaultIs held s rule NoState = reply.NoState ≡ rule s
FaultIs held s rule NoSpi = reply.NoSpi ≡ rule s
FaultIs held s rule (Full live waiting) = IsFull s rule held live waiting

-- the result is the reply of the rule, which the record in the slot tells; where it is full, that of the machine whose room is less by what waits
abbrev pub ReplyIs : ℕ → Shown → (Shown → Reply) → (ℕ → Option Reply) → Result ℕ SadFault → Type 0
ReplyIs held s rule told (Ok slot) = told slot ≡ Some (rule s)
ReplyIs held s rule told (Err fault) = FaultIs held s rule fault

-- Each slot is out or waits, so no state more has room.
pub record IsOutOfRoom (s : Shown) (held : ℕ) (fault : SadFault) : Type 0 where
  pub live : ℕ
  pub is : fault ≡ Full live held
  pub all : live ≡ length s.states
  pub room : live + held ≡ s.max_states

-- why a new state may be refused once it is known that it may come
abbrev pub IsRoomFault : SadFault → Type 0
IsRoomFault Invalid = ⊥
IsRoomFault (Exists sid) = ⊥
IsRoomFault NoState = ⊥
IsRoomFault NoSpi = ⊥
IsRoomFault (Full live waiting) = ⊤

-- why a state may not be added
abbrev pub IsAddFault : SadFault → Type 0
IsAddFault Invalid = ⊥
IsAddFault (Exists sid) = ⊤
IsAddFault NoState = ⊥
IsAddFault NoSpi = ⊥
IsAddFault (Full live waiting) = ⊤

-- the state id that the record in a slot tells, as a reply
abbrev pub sid_told : StateArea → List ℕ → ℕ → Option Reply
sid_told a words slot = option_map (λ r. reply.DoneSid r.sid) (record_at a words slot)

-- why a state may not be updated
abbrev pub IsUpdateFault : SadFault → Type 0
IsUpdateFault Invalid = ⊥
IsUpdateFault (Exists sid) = ⊥
IsUpdateFault NoState = ⊤
IsUpdateFault NoSpi = ⊥
IsUpdateFault (Full live waiting) = ⊤

-- why no SPI may be given
abbrev pub IsAllocFault : SadFault → Type 0
IsAllocFault Invalid = ⊤
IsAllocFault (Exists sid) = ⊥
IsAllocFault NoState = ⊥
IsAllocFault NoSpi = ⊤
IsAllocFault (Full live waiting) = ⊤

-- the SPI and the state id that the record in a slot tells, as a reply
abbrev pub spi_told : StateArea → List ℕ → ℕ → Option Reply
spi_told a words slot = option_map (λ r. reply.DoneSpi r.spec.spi r.sid) (record_at a words slot)

-- the sequence number that the record in a slot tells, as a reply
abbrev pub seq_told : StateArea → List ℕ → ℕ → Option Reply
seq_told a words slot = option_map (λ r. reply.Acquire r.spec.seq) (record_at a words slot)
