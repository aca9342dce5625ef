-- What an answer says of a reply.
use Rattle.std.proofs.Common.{arith, ◌≡◌, ◌↔◌, ℕ, zero, suc, Bool, true, false, lt-ltb, sym, ◌∙◌, subst}
use Rattle.std.proofs.lemmas.Bool.{true≢false}
use Rattle.std.specs.Prelude.{IsTrue, IfOk, Result, Ok, Err, nat_lt}
use Rattle.xf_types.specs.declared.status.NoMemory.{NoMemory}
use Rattle.xf_types.specs.declared.call.Receipt.{Receipt}
use Rattle.xf_types.specs.declared.call.Reply.{Reply}
use Rattle.xf_types.specs.declared.call.Reply.TheVariants as reply
use Rattle.xf_types.specs.Steps.{step}
use Rattle.xf_types.specs.History.{Moment, is_exception, MayReply, IsFullWithWaiting}

-- a reply that is no exception may stand where it is the machine's
pub may-machine : (t : Moment) (r : Receipt) (x : Reply) → is_exception x ≡ false
    → MayReply t r x ↔ (x ≡ (step t.machine r.call).reply)
may-machine t r (reply.Again tries) e = absurd cc
may-machine t r reply.NoMemory e = absurd cc
may-machine t r (reply.Full live zero) e = (λ h. h, λ h. h)
may-machine t r (reply.Full live (suc waiting)) e = absurd (true≢false (sym (lt-ltb 0 (suc waiting) (omega arith)) ∙ e))
may-machine t r _ e = (λ h. h, λ h. h)

-- one that says that slots are held back, where they are
pub may-full : (t : Moment) (r : Receipt) (live waiting : ℕ) → nat_lt 0 waiting ≡ true
    → IsFullWithWaiting t r live waiting ↔ MayReply t r (reply.Full live waiting)
may-full t r live zero some = absurd (true≢false (sym some))
may-full t r live (suc waiting) some = (λ h. h, λ h. h)

-- an answer that tells the one of two like facts tells the other
pub like : (A B : Type 0) (o : Result Bool NoMemory) → A ↔ B → IfOk o (λ b. IsTrue b ↔ A) → IfOk o (λ b. IsTrue b ↔ B)
like A B (Ok b) both h = (λ t. both.0 (h.0 t), λ p. h.1 (both.1 p))
like A B (Err e) both h = tt

-- one that tells a fact tells it together with one that holds
pub with-fact : (A B : Type 0) (o : Result Bool NoMemory) → A → IfOk o (λ b. IsTrue b ↔ B) → IfOk o (λ b. IsTrue b ↔ (A × B))
with-fact A B (Ok b) a h = (λ t. (a, h.0 t), λ p. h.1 p.1)
with-fact A B (Err e) a h = tt

-- what a given answer says
pub told : (P : Bool → Type 0) (o : Result Bool NoMemory) (b : Bool) → o ≡ Ok b → IfOk o P → P b
told P o b is h = subst (λ (x : Result Bool NoMemory). IfOk x P) is h
