-- A call that the words refuse is refused by the machine.
use Rattle.std.proofs.Common.{arith, ℕ, zero, suc, ◌≡◌, ◌+◌, Bool, true, false, List, length, refl, ap, sym, ◌∙◌, subst, nat_lt, IsTrue}
use Rattle.std.specs.Prelude.{MatchBool}
use Rattle.std.proofs.lemmas.Bool.{lt-ltb}
use Rattle.xf_types.specs.declared.call.Call.{Call}
use Rattle.xf_types.specs.declared.call.Reply.{Reply}
use Rattle.xf_types.specs.declared.call.Reply.TheVariants as reply
use Rattle.xf_types.specs.Changes.{Answer}
use Rattle.xf_types.specs.Codes.{is_refusal_of}
use Rattle.xf_types.specs.History.{adds_policy, is_contended, with_policies, with_states}
use Rattle.xf_types.specs.Machine.{Machine, Shown}
use Rattle.xf_types.specs.Steps.{step}
use Rattle.xf_laws.proofs.StepLemmas.{step-refused}
use Rattle.xf_sad.specs.declared.faults.SadFault.{SadFault}
use Rattle.xf_sad.specs.declared.faults.SadFault.TheVariants.{Invalid, Exists, NoState, NoSpi, Full}
use Rattle.xf_sad.specs.Replies.{fault_reply, FaultIs, IsFull}
use Rattle.xf_rows.specs.declared.layout.Layout.{Layout}
use Rattle.xf_rows.specs.Values.{Beside}
use Rattle.xf_rows.specs.Replies.{Answers, IsShort, IsFullFor}
use Rattle.xf_rows.specs.Stands.{Stands}
use Rattle.xf_rows.proofs.Telling.{answers, excused}

-- the call is answered by the rule, whatever is shown
abbrev pub IsBy : Machine → Call → (Shown → Answer) → Type 0
IsBy m call rule = (t : Shown) → (step (record { shown = t; own = m.own }) call).reply ≡ (rule t).reply

-- where the machine's reply refuses, the machine stays
pub refusal : (layout : Layout) (i : List ℕ) (b : Beside) (m : Machine) (call : Call) (r : Reply) → IsTrue (is_refusal_of r) → r ≡ (step m call).reply → Stands layout i b m
    → Answers layout i b m call r
refusal layout i b m call r refuses is st =
    answers layout i b m call r is
    (subst (λ (n : Machine). Stands layout i b n) (sym (step-refused m call (subst (λ (x : Reply). IsTrue (is_refusal_of x)) is refuses))) st)

less_room : (s : Shown) (live : ℕ) → live ≡ s.max_states → record s { max_states = live } ≡ s
less_room s live e =
    let small : Shown = record s { max_states = live } in
    let same : small ≡ s = λ k. record s { max_states = e k } in
    same

no_waits : (live room : ℕ) → live + 0 ≡ room → live ≡ room
no_waits live room e = omega (arith, e)

-- no slot waits
full_now : (layout : Layout) (i : List ℕ) (b : Beside) (m : Machine) (call : Call) (rule : Shown → Answer) (held live : ℕ) → IsBy m call rule → Stands layout i b m
    → IsFull m.shown (λ t. (rule t).reply) held live 0 → Answers layout i b m call (reply.Full live 0)
full_now layout i b m call rule held live by st full =
    refusal layout i b m call (reply.Full live 0) refl
    (full.reply ∙ ap (λ (t : Shown). (rule t).reply) (less_room m.shown live (no_waits live m.shown.max_states full.room)) ∙ sym (by m.shown)) st

-- some do
full_waiting : (layout : Layout) (i : List ℕ) (b : Beside) (m : Machine) (call : Call) (rule : Shown → Answer) (held live waiting : ℕ) → IsBy m call rule → adds_policy call ≡ false
    → Stands layout i b m → IsFull m.shown (λ t. (rule t).reply) held live (suc waiting) → Answers layout i b m call (reply.Full live (suc waiting))
full_waiting layout i b m call rule held live waiting by states st full =
    let some : nat_lt 0 (suc waiting) ≡ true = lt-ltb 0 (suc waiting) (omega arith) in
    let n : ℕ = length m.shown.states in
    let short : IsShort live (suc waiting) n m.shown.max_states (with_states m n) call = record {
      live_is = full.all;
      sum_is = full.room;
      full = full.reply ∙ ap (λ (k : ℕ). (rule (record m.shown { max_states = k })).reply) full.all ∙ sym (by (record m.shown { max_states = n }));
    } in
    let is : IsFullFor m call live (suc waiting) =
    subst (λ (t : Bool). MatchBool t (IsShort live (suc waiting) (length m.shown.policies) m.shown.max_policies (with_policies m (length m.shown.policies)) call)
    (IsShort live (suc waiting) n m.shown.max_states (with_states m n) call)) (sym states) short in
    excused layout i b m call (reply.Full live (suc waiting)) some is st

full_refused : (layout : Layout) (i : List ℕ) (b : Beside) (m : Machine) (call : Call) (rule : Shown → Answer) (held live waiting : ℕ) → IsBy m call rule → adds_policy call ≡ false
    → Stands layout i b m → IsFull m.shown (λ t. (rule t).reply) held live waiting → Answers layout i b m call (reply.Full live waiting)
full_refused layout i b m call rule held live zero by states st full = full_now layout i b m call rule held live by st full
full_refused layout i b m call rule held live (suc waiting) by states st full = full_waiting layout i b m call rule held live waiting by states st full

-- for whatever cause
pub refused : (layout : Layout) (i : List ℕ) (b : Beside) (m : Machine) (call : Call) (rule : Shown → Answer) (held : ℕ) (fault : SadFault) → IsBy m call rule → adds_policy call ≡ false
    → Stands layout i b m → FaultIs held m.shown (λ t. (rule t).reply) fault → Answers layout i b m call (fault_reply fault)
refused layout i b m call rule held Invalid by states st is = refusal layout i b m call reply.Invalid refl (is ∙ sym (by m.shown)) st
refused layout i b m call rule held (Exists sid) by states st is = refusal layout i b m call (reply.StateExists sid) refl (is ∙ sym (by m.shown)) st
refused layout i b m call rule held NoState by states st is = refusal layout i b m call reply.NoState refl (is ∙ sym (by m.shown)) st
refused layout i b m call rule held NoSpi by states st is = refusal layout i b m call reply.NoSpi refl (is ∙ sym (by m.shown)) st
refused layout i b m call rule held (Full live waiting) by states st is = full_refused layout i b m call rule held live waiting by states st is

-- each fault refuses
pub fault_refuses : (fault : SadFault) → IsTrue (is_refusal_of (fault_reply fault))
fault_refuses Invalid = refl
fault_refuses (Exists sid) = refl
fault_refuses NoState = refl
fault_refuses NoSpi = refl
fault_refuses (Full live waiting) = refl

pub fault_remembers : (fault : SadFault) → fault_reply fault ≡ reply.NoMemory → ⊥
fault_remembers Invalid = λ e. absurd (cc)
fault_remembers (Exists sid) = λ e. absurd (cc)
fault_remembers NoState = λ e. absurd (cc)
fault_remembers NoSpi = λ e. absurd (cc)
fault_remembers (Full live waiting) = λ e. absurd (cc)

full_settled : (waiting held : ℕ) → waiting ≡ held → held ≡ 0 → nat_lt 0 waiting ≡ false
full_settled zero held = λ e f. refl
full_settled (suc waiting) held = λ e f. absurd (omega (arith, e, f))

-- where no slot waits nobody else has to do with it
pub fault_settled : (held : ℕ) (s : Shown) (rule : Shown → Reply) (fault : SadFault) → FaultIs held s rule fault → held ≡ 0 → is_contended (fault_reply fault) ≡ false
fault_settled held s rule Invalid = λ is none. refl
fault_settled held s rule (Exists sid) = λ is none. refl
fault_settled held s rule NoState = λ is none. refl
fault_settled held s rule NoSpi = λ is none. refl
fault_settled held s rule (Full live waiting) = λ is none. full_settled waiting held is.waits none
