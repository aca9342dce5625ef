-- The order of policies, and where a new one goes.
use Rattle.std.proofs.Common.{◌≡◌, ℕ, suc, ◌<◌, Bool, true, false, not, List, [], ◌∷◌, ◌++◌, length, get_or, refl, ap, sym, ◌∙◌, arith, rules, All}
use Rattle.std.proofs.lemmas.Bool.Decides.{nat_tests}
use Rattle.xf_types.specs.declared.policy.Policy.{Policy}
use Rattle.xf_types.specs.PolicyList.{comes_after, IsPolicyOrder, inserted}
use Rattle.xf_index.proofs.Entries.{records_append}
use Rattle.xf_index.proofs.Parts.{inserted_between}
use Rattle.xf_index.specs.Indexes.{records_in, AllAre}
use Rattle.xf_index.specs.Parts.{AllOf, Falls}
use Rattle.xf_image.specs.Placing.{comes}
use Rattle.xf_image.specs.Entries.{entries_with}

-- what comes after one that comes after the newest comes after the newest
later-comes : (a m b n c o : ℕ) → n < m → comes b n a m ≡ true → comes c o b n ≡ true → comes c o a m ≡ true
later-comes a m b n c o lt h k = grind (arith, nat_tests)

not_false : (b : Bool) → not b ≡ false → b ≡ true
not_false true e = refl
not_false false e = sym e

not_true : (b : Bool) → not b ≡ true → b ≡ false
not_true true e = sym e
not_true false e = refl

later : (r x : Policy) (xs : List Policy) → x.number < r.number → comes_after x r ≡ true
    → ((j : ℕ) (d : Policy) → j < length xs → comes_after (get_or xs j d) x ≡ true) → AllOf (λ q. not (comes_after q r)) false xs
later r x [] n h f = search rules
later r x (y ∷ ys) n h f = (
  ap not (later-comes r.spec.priority r.number x.spec.priority x.number y.spec.priority y.number n h (f 0 x (omega arith))),
  later r x ys n h (λ j d l. f (suc j) d (omega arith)),
)

-- behind one that is asked after the newest all are
pub falls : (r : Policy) (rs : List Policy) → IsPolicyOrder rs → All (λ q. q.number < r.number) rs → Falls (λ q. not (comes_after q r)) rs
falls r [] o n = search rules
falls r (x ∷ xs) o n = (
  (λ h. later r x xs (n 0 x (omega arith)) (not_false (comes_after x r) h) (λ j d l. o 0 (suc j) d (omega arith) (omega arith))),
  falls r xs (λ i j d lt within. o (suc i) (suc j) d (omega arith) (omega arith)) (λ i d l. n (suc i) d (omega arith)),
)

afters : (r : Policy) (es : List (ℕ × Policy)) → AllAre (λ q. not (comes_after q r)) true es → AllOf (λ q. comes_after q r) false (records_in es)
afters r [] a = search rules
afters r (e ∷ es) a = (not_true (comes_after e.1 r) a.0, afters r es a.1)

befores : (r : Policy) (es : List (ℕ × Policy)) → AllAre (λ q. not (comes_after q r)) false es → AllOf (λ q. comes_after q r) true (records_in es)
befores r [] a = search rules
befores r (e ∷ es) a = (not_false (comes_after e.1 r) a.0, befores r es a.1)

-- the machine's list has the policy where the entries are parted
pub inserted_is : (r : Policy) (slot : ℕ) (front back : List (ℕ × Policy)) → AllAre (λ q. not (comes_after q r)) true front
    → AllAre (λ q. not (comes_after q r)) false back
    → records_in (front ++ ((slot, r) ∷ back)) ≡ inserted r (records_in (front ++ back))
inserted_is r slot front back a b =
    records_append front ((slot, r) ∷ back)
    ∙ (sym (inserted_between (λ q. comes_after q r) r (records_in front) (records_in back) (afters r front a) (befores r back b))
    ∙ ap (λ rs. inserted r rs) (sym (records_append front back)))

entries_before : (r : Policy) (es : List (ℕ × Policy)) → AllAre (λ q. not (comes_after q r)) true es
    → AllOf (λ (e : ℕ × Policy). comes_after e.1 r) false es
entries_before r [] a = search rules
entries_before r (e ∷ es) a = (not_true (comes_after e.1 r) a.0, entries_before r es a.1)

entries_behind : (r : Policy) (es : List (ℕ × Policy)) → AllAre (λ q. not (comes_after q r)) false es
    → AllOf (λ (e : ℕ × Policy). comes_after e.1 r) true es
entries_behind r [] a = search rules
entries_behind r (e ∷ es) a = (not_false (comes_after e.1 r) a.0, entries_behind r es a.1)

-- and so have the entries
pub entries_with_is : (r : Policy) (slot : ℕ) (front back : List (ℕ × Policy)) → AllAre (λ q. not (comes_after q r)) true front
    → AllAre (λ q. not (comes_after q r)) false back
    → entries_with slot r (front ++ back) ≡ front ++ ((slot, r) ∷ back)
entries_with_is r slot front back a b =
    inserted_between (λ (e : ℕ × Policy). comes_after e.1 r) (slot, r) front back (entries_before r front a) (entries_behind r back b)
