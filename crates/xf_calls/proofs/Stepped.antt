-- Words and values that stand for the machine after a call make a step of the call.
use Rattle.std.proofs.Common.{arith, ℕ, zero, suc, ◌≡◌, ◌≢◌, ◌⊎◌, inl, inr, Bool, true, false, cond, List, refl, ap, sym, ◌∙◌, nat_lt}
use Rattle.std.proofs.lemmas.Bool.{lt-ltb}
use Rattle.xf_types.specs.declared.call.Call.{Call}
use Rattle.xf_types.specs.declared.call.Reply.{Reply}
use Rattle.xf_types.specs.declared.call.Reply.TheVariants as reply
use Rattle.xf_types.specs.History.{is_contended, is_exception}
use Rattle.xf_types.specs.Machine.{Machine, Outcome, outcome}
use Rattle.xf_types.specs.Steps.{step}
use Rattle.xf_laws.proofs.LaterLemmas.{step-later}
use Rattle.xf_plain.specs.Growth.{GrowsLittle}
use Rattle.xf_rows.specs.declared.layout.Layout.{Layout}
use Rattle.xf_rows.specs.Readings.{machine_in}
use Rattle.xf_rows.specs.Replies.{IsReplyOf, Answers, machine_left}
use Rattle.xf_rows.specs.Values.{Beside}
use Rattle.xf_rows.proofs.Reading.{machine_told}
use Rattle.xf_calls.specs.Stepping.{IsStep}

pub memory_or_not : (r : Reply) → (r ≡ reply.NoMemory) ⊎ (r ≢ reply.NoMemory)
memory_or_not reply.NoMemory = inl refl
memory_or_not _ = inr (λ e. absurd cc)

-- a reply that comes of no other thread, where memory suffices, is the machine's
ours : (r : Reply) → r ≢ reply.NoMemory → is_contended r ≡ false → is_exception r ≡ false
ours reply.NoMemory h s = absurd (h refl)
ours _ h s = s

replied : (m : Machine) (c : Call) (r : Reply) → r ≢ reply.NoMemory → is_contended r ≡ false → IsReplyOf m c r → r ≡ (step m c).reply
replied m c (reply.Again tries) = λ h s is. absurd is
replied m c reply.NoMemory = λ h s is. absurd (h refl)
replied m c (reply.Full live zero) = λ h s is. is
replied m c (reply.Full live (suc waiting)) = λ h s is.
    let some : nat_lt 0 (suc waiting) ≡ true = lt-ltb 0 (suc waiting) (omega arith) in
    absurd (cc)
replied m c r = λ h s is. is

pub outcomes : (r : Reply) (n : Machine) (o : Outcome) → r ≡ o.reply → n ≡ o.machine → outcome r n ≡ o
outcomes r n o e f = ap (λ (x : Reply). outcome x n) e ∙ ap (λ (k : Machine). outcome o.reply k) f

-- what they stand for is what they tell
pub told : {layout : Layout} {image : List ℕ} {b : Beside} {m : Machine} {c : Call} {r : Reply} → ((slot : ℕ) → b.held slot ≡ true) → Answers layout image b m c r
    → machine_left m c r ≡ machine_in layout image b.values
told {layout = layout} {image = image} {b = b} {m = m} {c = c} {r = r} held a = machine_told layout image b (machine_left m c r) a.stands held

pub is_step : {layout : Layout} {image : List ℕ} {b : Beside} {m : Machine} {c : Call} {r : Reply} → ((slot : ℕ) → b.held slot ≡ true) → is_contended r ≡ false
    → Answers layout image b m c r → IsStep m (machine_in layout image b.values) c r
is_step {layout = layout} {image = image} {b = b} {m = m} {c = c} {r = r} held settled a =
    let same : machine_left m c r ≡ machine_in layout image b.values = told held a in
    record {
      answer = λ h.
          outcomes r (machine_in layout image b.values) (step m c) (replied m c r h settled a.is_reply)
          (sym same ∙ ap (λ (t : Bool). cond t m (step m c).machine) (ours r h settled));
      memory = λ e. sym same ∙ ap (λ (x : Reply). machine_left m c x) e;
      settled = settled;
    }

-- a step raises the two counters little
pub grows : (m n : Machine) (c : Call) (r : Reply) → IsStep m n c r → GrowsLittle m.shown n.shown
grows m n c r is = elim (memory_or_not r) [
  | inl e ↦ same m n (is.memory e)
  | inr h ↦ later m n (step m c) (is.answer h) (record { numbers = (step-later m c).number_next; sids = (step-later m c).sid_next })
]
  where
    same : (m n : Machine) → n ≡ m → GrowsLittle m.shown n.shown
    same m n e =
        let numbers : n.shown.next_number ≡ m.shown.next_number = ap (λ (k : Machine). k.shown.next_number) e in
        let sids : n.shown.next_sid ≡ m.shown.next_sid = ap (λ (k : Machine). k.shown.next_sid) e in
        record { numbers = omega (arith, numbers); sids = omega (arith, sids) }

    later : (m n : Machine) (o : Outcome) → outcome r n ≡ o → GrowsLittle m.shown o.machine.shown → GrowsLittle m.shown n.shown
    later m n o e g =
        let numbers : n.shown.next_number ≡ o.machine.shown.next_number = ap (λ (x : Outcome). x.machine.shown.next_number) e in
        let sids : n.shown.next_sid ≡ o.machine.shown.next_sid = ap (λ (x : Outcome). x.machine.shown.next_sid) e in
        let few = g.numbers in
        let less = g.sids in
        record { numbers = omega (arith, numbers, few); sids = omega (arith, sids, less) }
