-- A policy that stays listed keeps its slot.
use Rattle.std.proofs.Common.{◌≡◌, ◌≢◌, ℕ, zero, suc, ◌==◌, Bool, true, false, not, cond, List, [], ◌∷◌, ◌++◌, insert, refl, ap, sym, ◌∙◌, subst}
use Rattle.std.specs.List.{position_or_len}
use Rattle.xf_types.specs.declared.policy.Policy.{Policy}
use Rattle.xf_types.specs.PolicyList.{comes_after}
use Rattle.xf_records.specs.Policies.{warned}
use Rattle.xf_image.specs.Entries.{IsEntry, entries_with, slot_left, slot_warned}
use Rattle.xf_image.proofs.Parts.{other_slot}

-- beside one that is listed anew

put_between : (slot : ℕ) (p : Policy) (new : ℕ × Policy) (place : ℕ) (front behind : List (ℕ × Policy))
    → IsEntry (insert (front ++ ((slot, p) ∷ behind)) place new) slot p
put_between slot p new zero front behind = record { front = new ∷ front; behind = behind; whole = refl }
put_between slot p new (suc place) [] behind = record { front = []; behind = insert behind place new; whole = refl }
put_between slot p new (suc place) (e ∷ front) behind =
    let k : IsEntry (insert (front ++ ((slot, p) ∷ behind)) place new) slot p = put_between slot p new place front behind in
    record { front = e ∷ k.front; behind = k.behind; whole = ap (λ (l : List (ℕ × Policy)). e ∷ l) k.whole }

pub stays_added : (entries : List (ℕ × Policy)) (slot new : ℕ) (p r : Policy) → IsEntry entries slot p → IsEntry (entries_with new r entries) slot p
stays_added entries slot new p r is =
    subst (λ (es : List (ℕ × Policy)). IsEntry (entries_with new r es) slot p) (sym is.whole)
    (put_between slot p (new, r) (position_or_len (λ e. comes_after e.1 r) (is.front ++ ((slot, p) ∷ is.behind))) is.front is.behind)

-- beside one that leaves

left_step : (b : Bool) (e : ℕ × Policy) (xs ys zs : List (ℕ × Policy)) → zs ≡ xs ++ ys → cond b (e ∷ zs) zs ≡ cond b (e ∷ xs) xs ++ ys
left_step true e xs ys zs h = ap (λ (l : List (ℕ × Policy)). e ∷ l) h
left_step false e xs ys zs h = h

left_append : (slot : ℕ) (xs ys : List (ℕ × Policy)) → slot_left slot (xs ++ ys) ≡ slot_left slot xs ++ slot_left slot ys
left_append slot [] ys = refl
left_append slot (e ∷ xs) ys = left_step (not (e.0 == slot)) e (slot_left slot xs) (slot_left slot ys) (slot_left slot (xs ++ ys)) (left_append slot xs ys)

pub stays_left : (entries : List (ℕ × Policy)) (slot gone : ℕ) (p : Policy) → slot ≢ gone → IsEntry entries slot p
    → IsEntry (slot_left gone entries) slot p
stays_left entries slot gone p n is = record {
  front = slot_left gone is.front;
  behind = slot_left gone is.behind;
  whole = ap (λ (es : List (ℕ × Policy)). slot_left gone es) is.whole
      ∙ (left_append gone is.front ((slot, p) ∷ is.behind)
      ∙ ap (λ (b : Bool). slot_left gone is.front ++ cond (not b) ((slot, p) ∷ slot_left gone is.behind) (slot_left gone is.behind)) (other_slot gone slot (λ e. n (sym e))));
}

-- beside one that is warned of

warned_append : (slot : ℕ) (xs ys : List (ℕ × Policy)) → slot_warned slot (xs ++ ys) ≡ slot_warned slot xs ++ slot_warned slot ys
warned_append slot [] ys = refl
warned_append slot (e ∷ xs) ys = ap (λ (l : List (ℕ × Policy)). cond (e.0 == slot) (e.0, warned e.1) e ∷ l) (warned_append slot xs ys)

pub stays_warned : (entries : List (ℕ × Policy)) (slot warned_slot : ℕ) (p : Policy) → slot ≢ warned_slot → IsEntry entries slot p
    → IsEntry (slot_warned warned_slot entries) slot p
stays_warned entries slot warned_slot p n is = record {
  front = slot_warned warned_slot is.front;
  behind = slot_warned warned_slot is.behind;
  whole = ap (λ (es : List (ℕ × Policy)). slot_warned warned_slot es) is.whole
      ∙ (warned_append warned_slot is.front ((slot, p) ∷ is.behind)
      ∙ ap (λ (b : Bool). slot_warned warned_slot is.front ++ (cond b (slot, warned p) (slot, p) ∷ slot_warned warned_slot is.behind)) (other_slot warned_slot slot (λ e. n (sym e))));
}
