-- A call that only reads is a step.
use Rattle.std.proofs.Common.{ℕ, ◌≡◌, ◌≢◌, inl, inr, false, List, ap, sym, ◌∙◌}
use Rattle.xf_types.specs.declared.call.Call.{Call}
use Rattle.xf_types.specs.declared.call.Reply.{Reply}
use Rattle.xf_types.specs.declared.call.Reply.TheVariants as reply
use Rattle.xf_types.specs.Changes.{Answer, Change, Stays, applied, machine_after}
use Rattle.xf_types.specs.History.{is_contended}
use Rattle.xf_types.specs.Machine.{Machine, Outcome, outcome}
use Rattle.xf_types.specs.Steps.{step}
use Rattle.xf_laws.proofs.StepLemmas.{step-alone}
use Rattle.xf_rows.specs.declared.layout.Layout.{Layout}
use Rattle.xf_rows.specs.Readings.{machine_in}
use Rattle.xf_rows.specs.Values.{Beside}
use Rattle.xf_calls.specs.Stepping.{IsStep}
use Rattle.xf_calls.proofs.Stepped.{memory_or_not}

settled_read : (n : Machine) (c : Call) (r : Reply) → (r ≢ reply.NoMemory → r ≡ (step n c).reply) → is_contended r ≡ false
settled_read n c r is = elim (memory_or_not r) [
  | inl e ↦ ap (λ (x : Reply). is_contended x) e
  | inr h ↦ ap (λ (x : Reply). is_contended x) (is h) ∙ step-alone n c
]

-- the words and the values are as they were, and the reply is the rule's unless memory ran out
pub reads : (layout : Layout) {i j : List ℕ} {b d : Beside} {n : Machine} {r : Reply} (c : Call) (a : Answer)
    → machine_in layout i b.values ≡ n → j ≡ i → d ≡ b → step n c ≡ applied n a → a.change ≡ Stays → (r ≢ reply.NoMemory → r ≡ a.reply)
    → IsStep n (machine_in layout j d.values) c r
reads layout {i = i} {j = j} {b = b} {d = d} {n = n} {r = r} c a now e f whole still is =
    let same : machine_in layout j d.values ≡ n =
    ap (λ (k : List ℕ). machine_in layout k d.values) e ∙ ap (λ (x : Beside). machine_in layout i x.values) f ∙ now in
    let left : step n c ≡ outcome a.reply n = whole ∙ ap (λ (k : Change). outcome a.reply (machine_after n k)) still in
    record {
      answer = λ h. ap (λ (x : Reply). outcome x (machine_in layout j d.values)) (is h) ∙ ap (λ (k : Machine). outcome a.reply k) same ∙ sym left;
      memory = λ h. same;
      settled = settled_read n c r (λ h. is h ∙ ap (λ (o : Outcome). o.reply) (sym whole));
    }
