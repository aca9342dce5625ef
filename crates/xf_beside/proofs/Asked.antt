-- A walk that lists goes on.
use Rattle.std.proofs.Common.{◌≡◌, ℕ, ◌-◌, Bool, true, false, cond, List, [], ◌∷◌, ◌++◌, Option, None, Some, length, filter, refl, ap, sym, ◌∙◌, subst, arith, append_assoc}
use Rattle.xf_types.specs.declared.policy.Policy.{Policy}
use Rattle.xf_types.specs.Machine.{Shown}
use Rattle.xf_chain.specs.Lists.{first_of}
use Rattle.xf_index.specs.Indexes.{slots_in, records_in}
use Rattle.xf_image.specs.declared.area.PolicyArea.{PolicyArea}
use Rattle.xf_inexact.specs.Whole.{SpdStands}
use Rattle.xf_beside.specs.Passing.{Asking}
use Rattle.xf_beside.proofs.Passed.{records_length, append_nil, same_slot, no_more, none_comes}

pub asking_begins : (a : PolicyArea) (words : List ℕ) (test : Policy → Bool) (s : Shown) (es : List (ℕ × Policy)) (at : Option ℕ) (count : ℕ)
    → SpdStands a words s es → at ≡ first_of (slots_in es) → count ≡ length s.policies → Asking test es at count []
asking_begins a words test s es at count st first all = record {
  front = [];
  back = es;
  at_is = first;
  left_is = records_length es ∙ (ap (λ (ps : List Policy). length ps) st.list.listed ∙ sym all);
  whole = refl;
  asked = refl;
}

found_by : (b : Bool) (found : List Policy) (p : Policy) (rest all : List Policy) → found ++ cond b (p ∷ rest) rest ≡ all → (found ++ cond b (p ∷ []) []) ++ rest ≡ all
found_by true found p rest all e = append_assoc found (p ∷ []) rest ∙ e
found_by false found p rest all e = ap (λ (l : List Policy). l ++ rest) (append_nil found) ∙ e

asks_by : (test : Policy → Bool) (es : List (ℕ × Policy)) (slot : ℕ) (next : Option ℕ) (left : ℕ) (found more : List Policy) (front back : List (ℕ × Policy))
    → Some slot ≡ first_of (slots_in back) → length back ≡ left → es ≡ front ++ back → found ++ filter test (records_in back) ≡ filter test (records_in es)
    → ((front back : List (ℕ × Policy)) (p : Policy) → es ≡ front ++ ((slot, p) ∷ back) → next ≡ first_of (slots_in back))
    → ((front back : List (ℕ × Policy)) (p : Policy) → es ≡ front ++ ((slot, p) ∷ back) → more ≡ found ++ filter test (p ∷ []))
    → Asking test es next (left - 1) more
asks_by test es slot next left found more front [] e len whole asked at kept = absurd (cc)
asks_by test es slot next left found more front (x ∷ back) e len whole asked at kept =
    let own : x.0 ≡ slot = sym (same_slot slot x.0 e) in
    let old : es ≡ front ++ ((slot, x.1) ∷ back) = subst (λ (n : ℕ). es ≡ front ++ ((n, x.1) ∷ back)) own whole in
    record {
      front = front ++ (slot, x.1) ∷ [];
      back = back;
      at_is = at front back x.1 old;
      left_is = omega (arith, len);
      whole = old ∙ sym (append_assoc front ((slot, x.1) ∷ []) back);
      asked = ap (λ (l : List Policy). l ++ filter test (records_in back)) (kept front back x.1 old)
          ∙ found_by (test x.1) found x.1 (filter test (records_in back)) (filter test (records_in es)) asked;
    }

pub asking_goes : (test : Policy → Bool) (es : List (ℕ × Policy)) (slot : ℕ) (next : Option ℕ) (left : ℕ) (found more : List Policy) → Asking test es (Some slot) left found
    → ((front back : List (ℕ × Policy)) (p : Policy) → es ≡ front ++ ((slot, p) ∷ back) → next ≡ first_of (slots_in back))
    → ((front back : List (ℕ × Policy)) (p : Policy) → es ≡ front ++ ((slot, p) ∷ back) → more ≡ found ++ filter test (p ∷ []))
    → Asking test es next (left - 1) more
asking_goes test es slot next left found more k at kept = asks_by test es slot next left found more k.front k.back k.at_is k.left_is k.whole k.asked at kept

ends_by : (test : Policy → Bool) (es : List (ℕ × Policy)) (found : List Policy) (back : List (ℕ × Policy)) → back ≡ [] → found ++ filter test (records_in back) ≡ filter test (records_in es) → found ≡ filter test (records_in es)
ends_by test es found [] e asked = sym (append_nil found) ∙ asked
ends_by test es found (x ∷ back) e asked = absurd (cc)

pub asking_ends : (a : PolicyArea) (words : List ℕ) (test : Policy → Bool) (s : Shown) (es : List (ℕ × Policy)) (at : Option ℕ) (left : ℕ) (found : List Policy) → left ≡ 0 → SpdStands a words s es
    → Asking test es at left found → found ≡ filter test s.policies
asking_ends a words test s es at left found e st k = ends_by test es found k.back (no_more k.back (k.left_is ∙ e)) k.asked ∙ ap (λ (ps : List Policy). filter test ps) st.list.listed

pub asking_stops : (a : PolicyArea) (words : List ℕ) (test : Policy → Bool) (s : Shown) (es : List (ℕ × Policy)) (at : Option ℕ) (left : ℕ) (found : List Policy) → at ≡ None → SpdStands a words s es
    → Asking test es at left found → found ≡ filter test s.policies
asking_stops a words test s es at left found e st k = ends_by test es found k.back (none_comes k.back (sym e ∙ k.at_is)) k.asked ∙ ap (λ (ps : List Policy). filter test ps) st.list.listed
