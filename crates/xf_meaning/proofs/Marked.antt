-- What is told of marked slots, where just the slots of entries are marked.
use Rattle.std.proofs.Common.{◌≡◌, ◌≤◌, ℕ, ◌+◌, ◌-◌, ◌<◌, Bool, true, false, List, length, refl, sym, ap, ◌∙◌, subst, arith, AllPairs, Contains, Option, Some, None, ◌⊎◌, inl, inr, eqb-true, cond}
use Rattle.std.specs.Prelude.{◌==◌, ◌&&◌, nat_le, nat_lt, slice_index}
use Rattle.std.proofs.lemmas.Bool.{eq-eqb, ne_eqb, le-leb, leb-true, lt-ltb, ltb-true}
use Rattle.std.proofs.lemmas.List.Elements.{All-weaker}
use Rattle.xf_chain.specs.Lists.{Misses, Apart, Within}
use Rattle.xf_index.specs.Indexes.{slots_in, records_in}
use Rattle.xf_index.proofs.Entries.{slots_length, records_length}
use Rattle.xf_retired.specs.Pools.{IsPool}
use Rattle.xf_meaning.specs.Marks.{AreMarked, is_marked, told_at}
use Rattle.xf_meaning.proofs.Entries.{IsEntry, find_entry, entry_all, entry_within, entry_contains, contains_entry, entry_once, count_marked}

pub marked_is : (first size : ℕ) (image : List ℕ) (slot : ℕ) → first ≤ slot → slot < first + size → slice_index image slot ≡ 1
    → is_marked first size image slot ≡ true
marked_is first size image slot a b c =
    ap (λ x. x && nat_lt slot (first + size) && (slice_index image slot == 1)) (le-leb first slot a)
    ∙ ap (λ x. x && (slice_index image slot == 1)) (lt-ltb slot (first + size) b)
    ∙ eq-eqb (slice_index image slot) 1 c

-- a marked slot is one of them, by its number
pub record Marked (first size : ℕ) (image : List ℕ) (slot : ℕ) : Type 0 where
  pub number : ℕ
  pub below : number < size
  pub is : slot ≡ first + number
  pub status : slice_index image (first + number) ≡ 1

pub marked_says : (first size : ℕ) (image : List ℕ) (slot : ℕ) → is_marked first size image slot ≡ true → Marked first size image slot
marked_says first size image slot e = at (nat_le first slot) refl (nat_lt slot (first + size)) refl (slice_index image slot == 1) refl e
  where
    at : (a : Bool) → nat_le first slot ≡ a → (b : Bool) → nat_lt slot (first + size) ≡ b → (c : Bool) → (slice_index image slot == 1) ≡ c → (a && b && c) ≡ true
        → Marked first size image slot
    at false ae b be c ce is = absurd cc
    at true ae false be c ce is = absurd cc
    at true ae true be false ce is = absurd cc
    at true ae true be true ce is =
        let low : first ≤ slot = leb-true first slot ae in
        let high : slot < first + size = ltb-true slot (first + size) be in
        let same : slot ≡ first + (slot - first) = omega (arith, low) in
        record {
          number = slot - first;
          below = omega (arith, low, high);
          is = same;
          status = subst (λ (k : ℕ). slice_index image k ≡ 1) same (eqb-true (slice_index image slot) 1 ce);
        }

pub told_true : {B : Type 0} (first size : ℕ) (image : List ℕ) (read : ℕ → Option B) (slot : ℕ) → is_marked first size image slot ≡ true
    → told_at first size image read slot ≡ read slot
told_true {B = B} first size image read slot e = ap (λ b. cond b (read slot) None) e

pub told_false : {B : Type 0} (first size : ℕ) (image : List ℕ) (read : ℕ → Option B) (slot : ℕ) → is_marked first size image slot ≡ false
    → told_at first size image read slot ≡ None
told_false {B = B} first size image read slot e = ap (λ b. cond b (read slot) None) e

-- what holds of the entries of a list whose slots begin at a first one
pub record Stand {A : Type 0} (first size : ℕ) (image : List ℕ) (es : List (ℕ × A)) : Type 0 where
  pub marked : AreMarked first size image (slots_in es)
  pub apart : Apart (slots_in es)
  pub within : Within size (slots_in es)

pub entry_status : {A : Type 0} (first size : ℕ) (image : List ℕ) (es : List (ℕ × A)) → Stand first size image es → (k : ℕ) (r : A) → IsEntry es k r
    → slice_index image (first + k) ≡ 1
entry_status first size image es st k r h = entry_all (λ x. slice_index image (first + x) ≡ 1) es k r st.marked.listed h

pub entry_marked : {A : Type 0} (first size : ℕ) (image : List ℕ) (es : List (ℕ × A)) → Stand first size image es → (k : ℕ) (r : A) → IsEntry es k r
    → is_marked first size image (first + k) ≡ true
entry_marked first size image es st k r h =
    let l : k < size = entry_within size es k r st.within h in
    marked_is first size image (first + k) (omega arith) (omega (arith, l)) (entry_status first size image es st k r h)

-- a slot with the status of a listed one has an entry
pub marked_entry : {A : Type 0} (first size : ℕ) (image : List ℕ) (es : List (ℕ × A)) → Stand first size image es → (k : ℕ) → k < size
    → slice_index image (first + k) ≡ 1 → (r : A) × IsEntry es k r
marked_entry {A = A} first size image es st k l e = at (find_entry es k)
  where
    at : Misses k (slots_in es) ⊎ ((r : A) × IsEntry es k r) → (r : A) × IsEntry es k r
    at (inl miss) = absurd (st.marked.others k l miss e)
    at (inr found) = found

none_some : {B X : Type 0} (y : B) → None ≡ Some y → X
none_some y e = absurd cc

-- what is told of a slot is read of an entry there
pub told_entry : {A B : Type 0} (first size : ℕ) (image : List ℕ) (es : List (ℕ × A)) (read : ℕ → Option B) → Stand first size image es → (slot : ℕ) (y : B)
    → told_at first size image read slot ≡ Some y → (k : ℕ) × (r : A) × IsEntry es k r × (slot ≡ first + k) × (read (first + k) ≡ Some y)
told_entry {A = A} first size image es read st slot y e = at (is_marked first size image slot) refl
  where
    at : (b : Bool) → is_marked first size image slot ≡ b → (k : ℕ) × (r : A) × IsEntry es k r × (slot ≡ first + k) × (read (first + k) ≡ Some y)
    at false is = none_some y (sym (told_false first size image read slot is) ∙ e)
    at true is =
        let m : Marked first size image slot = marked_says first size image slot is in
        let f : (r : A) × IsEntry es m.number r = marked_entry first size image es st m.number m.below m.status in
        (m.number, f.0, f.1, m.is, ap read (sym m.is) ∙ sym (told_true first size image read slot is) ∙ e)

-- a list whose records are told by their keys has a pool of slots
pub pool_is : {A : Type 0} (key : A → ℕ) (at : List ℕ → ℕ → Option ℕ) (first size : ℕ) (image : List ℕ) (es : List (ℕ × A)) (records : List A) (capacity : ℕ)
    → Stand first size image es → records_in es ≡ records → AllPairs (λ (a b : A). key a ≡ key b → ⊥) records → capacity ≡ size
    → ((k : ℕ) (r : A) → IsEntry es k r → at image (first + k) ≡ Some (key r))
    → ((slot n : ℕ) → at image slot ≡ Some n → (k : ℕ) × (r : A) × IsEntry es k r × (slot ≡ first + k) × (key r ≡ n))
    → IsPool key at first size image records capacity
pool_is {A = A} key at first size image es records capacity st same apart room there says = record {
  listed = λ slot low high status.
      let e : slot ≡ first + (slot - first) = omega (arith, low) in
      let f : (r : A) × IsEntry es (slot - first) r = marked_entry first size image es st (slot - first) (omega (arith, low, high))
      (subst (λ (k : ℕ). slice_index image k ≡ 1) e status) in
      (f.0, subst (λ (xs : List A). Contains xs f.0) same (entry_contains es (slot - first) f.0 f.1), ap (λ (k : ℕ). at image k) e ∙ there (slot - first) f.0 f.1);
  placed = λ x c.
      let f : (k : ℕ) × IsEntry es k x = contains_entry es x (subst (λ (xs : List A). Contains xs x) (sym same) c) in
      (first + f.0, there f.0 x f.1, entry_status first size image es st f.0 x f.1);
  once = λ j k n a b.
      let f = says j n a in
      let g = says k n b in
      let e : f.0 ≡ g.0 = entry_once key es f.0 g.0 f.1 g.1 (subst (λ (xs : List A). AllPairs (λ (x y : A). key x ≡ key y → ⊥) xs) (sym same) apart) f.2 g.2 (f.4 ∙ sym g.4) in
      f.3 ∙ ap (λ (x : ℕ). first + x) e ∙ sym g.3;
  live = count_marked size (λ k. slice_index image (first + k) == 1) (slots_in es) st.apart st.within
      (All-weaker (λ x. slice_index image (first + x) ≡ 1) (λ x. (slice_index image (first + x) == 1) ≡ true) (λ x e. eq-eqb (slice_index image (first + x)) 1 e) (slots_in es) st.marked.listed)
      (λ k l miss. ne_eqb (slice_index image (first + k)) 1 (st.marked.others k l miss))
      ∙ slots_length es ∙ sym (records_length es) ∙ ap length same;
  room = room;
}
