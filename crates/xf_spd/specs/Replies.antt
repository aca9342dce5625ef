-- What a result is as a reply of the machine.
use Rattle.std.specs.Prelude.{◌≡◌, ⊤, ℕ, ◌+◌, Option, None, Some, Ok, Err, length}
use Rattle.std.specs.declared.result.Result.{Result}
use Rattle.xf_types.specs.declared.call.Reply.{Reply}
use Rattle.xf_types.specs.declared.call.Reply.TheVariants as reply
use Rattle.xf_types.specs.declared.policy.Policy.{Policy}
use Rattle.xf_types.specs.Machine.{Shown}
use Rattle.xf_listing.specs.declared.entry.Entry.{Entry}
use Rattle.xf_spd.specs.declared.faults.SpdFault.{SpdFault}
use Rattle.xf_spd.specs.declared.faults.SpdFault.TheVariants.{Invalid, Exists, NoEntry, Full}

-- why a call was refused
abbrev pub fault_reply : SpdFault → Reply
fault_reply Invalid = reply.Invalid
fault_reply (Exists index) = reply.PolicyExists index
fault_reply NoEntry = reply.NoEntry
fault_reply (Full live waiting) = reply.Full live waiting

-- the index of what was listed or removed
abbrev pub index_reply : Result ℕ SpdFault → Reply
index_reply (Ok index) = reply.DoneIndex index
index_reply (Err fault) = fault_reply fault

-- the policy that was asked for
abbrev pub policy_reply : Result Policy SpdFault → Reply
policy_reply (Ok p) = reply.PolicyShown p
policy_reply (Err fault) = fault_reply fault

-- the answer to who asks for it
abbrev pub named_reply : Option Entry → Result Policy SpdFault
named_reply None = Err NoEntry
named_reply (Some f) = Ok f.policy

-- All slots are out or wait, of which there are so many, and a machine with as much less room is full.
pub record IsFull (s : Shown) (rule : Shown → Reply) (held live waiting : ℕ) : Type 0 where
  pub all : live ≡ length s.policies
  pub waits : waiting ≡ held
  pub room : live + waiting ≡ s.max_policies
  pub reply : reply.Full live 0 ≡ rule (record s { max_policies = live })

abbrev pub FaultIs : ℕ → Shown → (Shown → Reply) → SpdFault → Type 0
FaultIs held s rule Invalid = reply.Invalid ≡ rule s
FaultIs held s rule (Exists index) = reply.PolicyExists index ≡ rule s
FaultIs held s rule NoEntry = reply.NoEntry ≡ rule s
FaultIs held s rule (Full live waiting) = IsFull s rule held live waiting

-- the result is the reply of the rule; where it is full, that of the machine whose room is less by what waits
abbrev pub ReplyIs : ℕ → Shown → (Shown → Reply) → Result ℕ SpdFault → Type 0
ReplyIs held s rule (Ok index) = reply.DoneIndex index ≡ rule s
ReplyIs held s rule (Err fault) = FaultIs held s rule fault

-- why a new policy may be refused once it is known that it is new
abbrev pub IsRoomFault : SpdFault → Type 0
IsRoomFault Invalid = ⊥
IsRoomFault (Exists index) = ⊥
IsRoomFault NoEntry = ⊥
IsRoomFault (Full live waiting) = ⊤

-- why a new policy may be refused
abbrev pub IsAddFault : SpdFault → Type 0
IsAddFault Invalid = ⊤
IsAddFault (Exists index) = ⊤
IsAddFault NoEntry = ⊥
IsAddFault (Full live waiting) = ⊤

-- why an update may be refused
abbrev pub IsUpdateFault : SpdFault → Type 0
IsUpdateFault Invalid = ⊤
IsUpdateFault (Exists index) = ⊥
IsUpdateFault NoEntry = ⊥
IsUpdateFault (Full live waiting) = ⊤

-- why what a key names may be refused
abbrev pub IsKeyFault : SpdFault → Type 0
IsKeyFault Invalid = ⊤
IsKeyFault (Exists index) = ⊥
IsKeyFault NoEntry = ⊤
IsKeyFault (Full live waiting) = ⊥
