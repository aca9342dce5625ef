-- A walk that removes goes on.
use Rattle.std.proofs.Common.{◌≡◌, ℕ, ◌+◌, ◌-◌, Bool, true, false, not, cond, List, [], ◌∷◌, ◌++◌, Option, None, Some, length, refl, ap, sym, ◌∙◌, subst, arith, append_assoc}
use Rattle.std.specs.Prelude.{count_by}
use Rattle.std.proofs.lemmas.List.Sums.{sum_by-cons}
use Rattle.xf_types.specs.declared.policy.Policy.{Policy}
use Rattle.xf_types.specs.Machine.{Shown}
use Rattle.xf_types.specs.PolicyList.{without}
use Rattle.xf_chain.specs.Lists.{first_of}
use Rattle.xf_index.specs.Indexes.{slots_in, records_in}
use Rattle.xf_image.specs.declared.area.PolicyArea.{PolicyArea}
use Rattle.xf_image.specs.Entries.{slot_left, with_policies, IsEntry}
use Rattle.xf_inexact.specs.Whole.{SpdStands}
use Rattle.xf_image.proofs.Parts.{left_is}
use Rattle.xf_spd.proofs.Alone.{parts_miss}
use Rattle.xf_beside.specs.Passing.{StandsWith, Passes, Removing}

-- ---- one policy

pub left_passed : (a : PolicyArea) (words image : List ℕ) (s : Shown) (front back : List (ℕ × Policy)) (slot : ℕ) (p : Policy) (gone : Bool)
    → StandsWith a words s (front ++ ((slot, p) ∷ back)) → StandsWith a image s (slot_left slot (front ++ ((slot, p) ∷ back))) → gone ≡ true
    → Passes a image s front slot p back gone 1
left_passed a words image s front back slot p gone st new e =
    let m = parts_miss a words (with_policies s (records_in (front ++ ((slot, p) ∷ back)))) slot p front back st in
    let l : slot_left slot (front ++ ((slot, p) ∷ back)) ≡ front ++ back = left_is slot p front back m.0 m.1 in
    subst (λ (b : Bool). Passes a image s front slot p back b 1) (sym e)
    (record { count_is = refl; stands = subst (λ (es : List (ℕ × Policy)). StandsWith a image s es) l new })

pub stayed_passed : (a : PolicyArea) (image : List ℕ) (s : Shown) (front back : List (ℕ × Policy)) (slot : ℕ) (p : Policy) (gone : Bool)
    → StandsWith a image s (front ++ ((slot, p) ∷ back)) → gone ≡ false → Passes a image s front slot p back gone 0
stayed_passed a image s front back slot p gone st e =
    subst (λ (b : Bool). Passes a image s front slot p back b 0) (sym e) (record { count_is = refl; stands = st })

pub between_parts : (front back : List (ℕ × Policy)) (slot : ℕ) (p : Policy) → IsEntry (front ++ ((slot, p) ∷ back)) slot p
between_parts front back slot p = record { front = front; behind = back; whole = refl }

-- ---- the walk begins

pub records_length : (es : List (ℕ × Policy)) → length es ≡ length (records_in es)
records_length [] = refl
records_length (e ∷ es) = let h : length es ≡ length (records_in es) = records_length es in omega (arith, h)

pub removing_begins : (a : PolicyArea) (words : List ℕ) (test : Policy → Bool) (s : Shown) (es : List (ℕ × Policy)) (at : Option ℕ) (count : ℕ)
    → SpdStands a words s es → at ≡ first_of (slots_in es) → count ≡ length s.policies → Removing a words test s at count 0
removing_begins a words test s es at count st first all = record {
  front = [];
  back = es;
  at_is = first;
  left_is = records_length es ∙ (ap (λ (ps : List Policy). length ps) st.list.listed ∙ sym all);
  stands = subst (λ (ps : List Policy). SpdStands a words (with_policies s ps) es) (sym st.list.listed) st;
  stayed = ap (λ (ps : List Policy). without test ps) st.list.listed;
  counted = (let c : count_by test (records_in es) ≡ count_by test s.policies = ap (λ (ps : List Policy). count_by test ps) st.list.listed in omega (arith, c));
}

-- ---- it goes on

records_more : (front : List (ℕ × Policy)) (e : ℕ × Policy) → records_in (front ++ e ∷ []) ≡ records_in front ++ e.1 ∷ []
records_more [] e = refl
records_more (f ∷ front) e = ap (λ (l : List Policy). f.1 ∷ l) (records_more front e)

going : (a : PolicyArea) (image : List ℕ) (test : Policy → Bool) (s : Shown) (slot : ℕ) (next : Option ℕ) (left removed one : ℕ) (front back : List (ℕ × Policy)) (p : Policy) (gone : Bool)
    → test p ≡ gone → length back + 1 ≡ left → records_in front ++ without test (p ∷ records_in back) ≡ without test s.policies
    → removed + count_by test (p ∷ records_in back) ≡ count_by test s.policies → next ≡ first_of (slots_in back)
    → Passes a image s front slot p back gone one → Removing a image test s next (left - 1) (removed + one)
going a image test s slot next left removed one front back p true e len stay count at d =
    let rest : records_in front ++ without test (records_in back) ≡ without test s.policies =
    sym (ap (λ (b : Bool). records_in front ++ cond (not b) (p ∷ without test (records_in back)) (without test (records_in back))) e) ∙ stay in
    let more : count_by test (p ∷ records_in back) ≡ cond (test p) 1 0 + count_by test (records_in back) = sum_by-cons (λ q. cond (test q) 1 0) p (records_in back) in
    let this : ◌≡◌ {A = ℕ} (cond (test p) 1 0) 1 = ap (λ (b : Bool). cond {A = ℕ} b 1 0) e in
    let o = d.count_is in
    record { front = front; back = back; at_is = at; left_is = omega (arith, len); stands = d.stands; stayed = rest; counted = omega (arith, count, more, this, o) }
going a image test s slot next left removed one front back p false e len stay count at d =
    let rest : records_in front ++ (p ∷ without test (records_in back)) ≡ without test s.policies =
    sym (ap (λ (b : Bool). records_in front ++ cond (not b) (p ∷ without test (records_in back)) (without test (records_in back))) e) ∙ stay in
    let more : count_by test (p ∷ records_in back) ≡ cond (test p) 1 0 + count_by test (records_in back) = sum_by-cons (λ q. cond (test q) 1 0) p (records_in back) in
    let this : ◌≡◌ {A = ℕ} (cond (test p) 1 0) 0 = ap (λ (b : Bool). cond {A = ℕ} b 1 0) e in
    let o = d.count_is in
    record {
      front = front ++ (slot, p) ∷ [];
      back = back;
      at_is = at;
      left_is = omega (arith, len);
      stands = subst (λ (es : List (ℕ × Policy)). StandsWith a image s es) (sym (append_assoc front ((slot, p) ∷ []) back)) d.stands;
      stayed = ap (λ (l : List Policy). l ++ without test (records_in back)) (records_more front (slot, p))
          ∙ (append_assoc (records_in front) (p ∷ []) (without test (records_in back)) ∙ rest);
      counted = omega (arith, count, more, this, o);
    }

pub same_slot : (slot other : ℕ) → Some slot ≡ Some other → slot ≡ other
same_slot slot other e = cc

going_by : (a : PolicyArea) (words image : List ℕ) (test : Policy → Bool) (s : Shown) (slot : ℕ) (next : Option ℕ) (left removed one : ℕ) (front back : List (ℕ × Policy))
    → Some slot ≡ first_of (slots_in back) → length back ≡ left → StandsWith a words s (front ++ back)
    → records_in front ++ without test (records_in back) ≡ without test s.policies → removed + count_by test (records_in back) ≡ count_by test s.policies
    → ((t : Shown) (front back : List (ℕ × Policy)) (p : Policy) → SpdStands a words t (front ++ ((slot, p) ∷ back)) → next ≡ first_of (slots_in back))
    → ((t : Shown) (front back : List (ℕ × Policy)) (p : Policy) → StandsWith a words t (front ++ ((slot, p) ∷ back)) → Passes a image t front slot p back (test p) one)
    → Removing a image test s next (left - 1) (removed + one)
going_by a words image test s slot next left removed one front [] e len st stay count at pass = absurd (cc)
going_by a words image test s slot next left removed one front (x ∷ back) e len st stay count at pass =
    let own : x.0 ≡ slot = sym (same_slot slot x.0 e) in
    let old : StandsWith a words s (front ++ ((slot, x.1) ∷ back)) = subst (λ (n : ℕ). StandsWith a words s (front ++ ((n, x.1) ∷ back))) own st in
    going a image test s slot next left removed one front back x.1 (test x.1) refl (omega (arith, len)) stay count
    (at (with_policies s (records_in (front ++ ((slot, x.1) ∷ back)))) front back x.1 old) (pass s front back x.1 old)

pub removing_goes : (a : PolicyArea) (words image : List ℕ) (test : Policy → Bool) (s : Shown) (slot : ℕ) (next : Option ℕ) (left removed one : ℕ)
    → Removing a words test s (Some slot) left removed
    → ((t : Shown) (front back : List (ℕ × Policy)) (p : Policy) → SpdStands a words t (front ++ ((slot, p) ∷ back)) → next ≡ first_of (slots_in back))
    → ((t : Shown) (front back : List (ℕ × Policy)) (p : Policy) → StandsWith a words t (front ++ ((slot, p) ∷ back)) → Passes a image t front slot p back (test p) one)
    → Removing a image test s next (left - 1) (removed + one)
removing_goes a words image test s slot next left removed one k at pass =
    going_by a words image test s slot next left removed one k.front k.back k.at_is k.left_is k.stands k.stayed k.counted at pass

-- ---- the slot that comes next is one of an entry's

-- The policy in the slot stands between others.
pub record Comes (a : PolicyArea) (words : List ℕ) (slot : ℕ) : Type 0 where
  pub shown : Shown
  pub entries : List (ℕ × Policy)
  pub policy : Policy
  pub is : IsEntry entries slot policy
  pub stands : SpdStands a words shown entries

comes_by : (a : PolicyArea) (words : List ℕ) (s : Shown) (slot : ℕ) (front back : List (ℕ × Policy)) → Some slot ≡ first_of (slots_in back) → StandsWith a words s (front ++ back) → Comes a words slot
comes_by a words s slot front [] e st = absurd (cc)
comes_by a words s slot front (x ∷ back) e st =
    let own : x.0 ≡ slot = sym (same_slot slot x.0 e) in
    record {
      shown = with_policies s (records_in (front ++ ((slot, x.1) ∷ back)));
      entries = front ++ ((slot, x.1) ∷ back);
      policy = x.1;
      is = between_parts front back slot x.1;
      stands = subst (λ (n : ℕ). StandsWith a words s (front ++ ((n, x.1) ∷ back))) own st;
    }

pub comes : (a : PolicyArea) (words : List ℕ) (test : Policy → Bool) (s : Shown) (slot left removed : ℕ) → Removing a words test s (Some slot) left removed → Comes a words slot
comes a words test s slot left removed k = comes_by a words s slot k.front k.back k.at_is k.stands

-- ---- it ends

pub append_nil : (ps : List Policy) → ps ++ [] ≡ ps
append_nil [] = refl
append_nil (p ∷ ps) = ap (λ (l : List Policy). p ∷ l) (append_nil ps)

entries_nil : (es : List (ℕ × Policy)) → es ++ [] ≡ es
entries_nil [] = refl
entries_nil (e ∷ es) = ap (λ (l : List (ℕ × Policy)). e ∷ l) (entries_nil es)

-- All were passed.
pub record Removed (a : PolicyArea) (words : List ℕ) (test : Policy → Bool) (s : Shown) (removed : ℕ) : Type 0 where
  pub entries : List (ℕ × Policy)
  pub stands : SpdStands a words (with_policies s (without test s.policies)) entries
  pub count : removed ≡ count_by test s.policies

ends_at : (a : PolicyArea) (words : List ℕ) (test : Policy → Bool) (s : Shown) (removed : ℕ) (front back : List (ℕ × Policy)) → back ≡ [] → StandsWith a words s (front ++ back)
    → records_in front ++ without test (records_in back) ≡ without test s.policies → removed + count_by test (records_in back) ≡ count_by test s.policies → Removed a words test s removed
ends_at a words test s removed front [] e st stay count =
    let r : records_in front ≡ without test s.policies = sym (append_nil (records_in front)) ∙ stay in
    let one : StandsWith a words s front = subst (λ (es : List (ℕ × Policy)). StandsWith a words s es) (entries_nil front) st in
    record {
      entries = front;
      stands = subst (λ (ps : List Policy). SpdStands a words (with_policies s ps) front) r one;
      count = omega (arith, count);
    }
ends_at a words test s removed front (x ∷ back) e st stay count = absurd (cc)

pub no_more : (back : List (ℕ × Policy)) → length back ≡ 0 → back ≡ []
no_more [] e = refl
no_more (x ∷ back) e = absurd (omega (arith, e))

pub none_comes : (back : List (ℕ × Policy)) → None ≡ first_of (slots_in back) → back ≡ []
none_comes [] e = refl
none_comes (x ∷ back) e = absurd (cc)

pub removing_ends : (a : PolicyArea) (words : List ℕ) (test : Policy → Bool) (s : Shown) (at : Option ℕ) (left removed : ℕ) → left ≡ 0 → Removing a words test s at left removed → Removed a words test s removed
removing_ends a words test s at left removed e k = ends_at a words test s removed k.front k.back (no_more k.back (k.left_is ∙ e)) k.stands k.stayed k.counted

pub removing_stops : (a : PolicyArea) (words : List ℕ) (test : Policy → Bool) (s : Shown) (at : Option ℕ) (left removed : ℕ) → at ≡ None → Removing a words test s at left removed → Removed a words test s removed
removing_stops a words test s at left removed e k = ends_at a words test s removed k.front k.back (none_comes k.back (sym e ∙ k.at_is)) k.stands k.stayed k.counted
