-- What is put is got, and what is got was put.
use Rattle.std.proofs.Common.{◌≡◌, ℕ, ◌+◌, ◌*◌, ◌<◌, ◌≤◌, slice_set, length-append, rules, Bool, true, false, cond, List, [], ◌∷◌, ◌++◌, length, replicate, Option, None, Some, slice_index, nat_le, IfSome, IsNone, refl, ap, sym, ◌∙◌, subst, arith}
use Rattle.std.specs.Str.{bytes_eq}
use Rattle.std.proofs.lemmas.Slice.Eq.{bytes_eq-Decides}
use Rattle.std.proofs.lemmas.Option.{cond_some, none-some}
use Rattle.std.proofs.lemmas.Bool.Decides.{nat_tests}
use Rattle.xf_types.specs.declared.policy.Policy.{Policy}
use Rattle.xf_types.specs.declared.policy.Template.{Template}
use Rattle.xf_records.specs.Blocks.{fetched, stored, Stands}
use Rattle.xf_records.specs.Codes.{small_fits}
use Rattle.xf_records.specs.Policies.{plain_words, policy_of, PlainFits, PolicyFits, templates_at, templates_words, TemplatesFit, templates_counted, policy_words, checked, policy_at, warned}
use Rattle.xf_records.proofs.BlockLaws.{stored_append, stored_below, stored_above, stored_stands, stands_unchanged, stands_stored, stands_front, stands_back, stands_both, stands_at, stands_changed, fetched_size, fetched_same}
use Rattle.xf_records.proofs.CodeLaws.{small_is, flag_is, dir_is, ptype_is, action_is, selector_fits, selector_back, limits_back}
use Rattle.xf_records.proofs.TemplateLaws.{templates_stand, ReadAs, templates_read, templates_words-size, templates_got_fit, templates_same}

pub plain_size : (p : Policy) → length (plain_words p) ≡ 34
unfolding plain_words
plain_size p = refl

pub policy_back : (p : Policy) → PlainFits p → policy_of (plain_words p) p.spec.templates ≡ p
unfolding policy_of plain_words
policy_back p f = λ i. record {
  number = p.number;
  index = small_is p.index f.index i;
  added = p.added;
  soft = flag_is p.soft i;
  spec = record {
    dir = dir_is p.spec.dir i;
    ptype = ptype_is p.spec.ptype i;
    sel = selector_back (plain_words p) 3 p.spec.sel f.sel refl i;
    mark = record { value = small_is p.spec.mark.value f.value i; mask = small_is p.spec.mark.mask f.mask i };
    if_id = small_is p.spec.if_id f.if_id i;
    priority = small_is p.spec.priority f.priority i;
    action = action_is p.spec.action i;
    index = small_is p.spec.index f.asked i;
    limits = limits_back (plain_words p) 22 p.spec.limits refl i;
    templates = p.spec.templates;
  };
}

-- ---- the record

le_read : (a b : ℕ) → nat_le a b ≡ true → a ≤ b
le_read a b h = grind (arith, nat_tests)

some_if : {X : Type 0} (b : Bool) (o : Option X) (x : X) → cond b o None ≡ Some x → (b ≡ true) × (o ≡ Some x)
some_if true o x h = (refl, h)
some_if false o x h = absurd (none-some x h)

counted_yes : (image : List ℕ) (at count : ℕ) → count ≤ 6 → templates_counted image at count ≡ templates_at image at count
counted_yes image at count h = grind (arith, nat_tests)

counted_some : (image : List ℕ) (at count : ℕ) (ts : List Template) → templates_counted image at count ≡ Some ts
    → (nat_le count 6 ≡ true) × (templates_at image at count ≡ Some ts)
counted_some image at count ts h = some_if (nat_le count 6) (templates_at image at count) ts h

pub policy_stands : (image : List ℕ) (at : ℕ) (p : Policy) → PolicyFits p → Stands image at (policy_words p) → policy_at image at ≡ Some p
policy_stands image at p f s =
    let ts : List Template = p.spec.templates in
    let behind : Stands image (at + 34) (length ts ∷ templates_words ts) =
    subst (λ n. Stands image (at + n) (length ts ∷ templates_words ts)) (plain_size p) (stands_back image at (plain_words p) (length ts ∷ templates_words ts) s) in
    let count : slice_index image (at + 34) ≡ length ts = ap (slice_index image) (omega arith) ∙ stands_at image (at + 34) (length ts ∷ templates_words ts) behind 0 (omega arith) in
    let last : Stands image (at + 35) (templates_words ts) =
    subst (λ q. Stands image q (templates_words ts)) (omega arith) (stands_back image (at + 34) (length ts ∷ []) (templates_words ts) behind) in
    let w : fetched image at (replicate 34 0) ≡ plain_words p =
    fetched_size image at (replicate 34 0) (plain_words p) (sym (plain_size p)) ∙ stands_front image at (plain_words p) (length ts ∷ templates_words ts) s in
    let e : bytes_eq (plain_words p) (plain_words p) ≡ true = (bytes_eq-Decides (plain_words p) (plain_words p)).1 refl in
    rw (count, counted_yes image (at + 35) (length ts) f.count, templates_stand image (at + 35) ts f.templates last, w, policy_back p f.plain, e) refl

-- the words of a policy are told by its fields
templates_of : (words : List ℕ) (ts : List Template) → (policy_of words ts).spec.templates ≡ ts
unfolding policy_of
templates_of words ts = refl

checked_some : {P : Type 0} (words : List ℕ) (o : Option (List Template)) (p : Policy) → checked words o ≡ Some p
    → ((ts : List Template) → o ≡ Some ts → plain_words p ≡ words → p.spec.templates ≡ ts → P) → P
checked_some words None p h k = absurd (none-some p h)
checked_some words (Some ts) p h k =
    let c : (bytes_eq (plain_words (policy_of words ts)) words ≡ true) × (policy_of words ts ≡ p) = cond_some _ _ _ h in
    k ts refl (ap plain_words (sym c.1) ∙ (bytes_eq-Decides _ _).0 c.0) (ap (λ (q : Policy). q.spec.templates) (sym c.1) ∙ templates_of words ts)

pub policy_read : (image : List ℕ) (at : ℕ) (p : Policy) → policy_at image at ≡ Some p → Stands image at (policy_words p)
policy_read image at p h =
    checked_some (fetched image at (replicate 34 0)) (templates_counted image (at + 35) (slice_index image (at + 34))) p h (λ ts o w t.
    let c : (nat_le (slice_index image (at + 34)) 6 ≡ true) × (templates_at image (at + 35) (slice_index image (at + 34)) ≡ Some ts) = counted_some _ _ _ _ o in
    let r : ReadAs image (at + 35) (slice_index image (at + 34)) ts = templates_read image (at + 35) (slice_index image (at + 34)) ts c.1 in
    let front : Stands image at (plain_words p) = fetched_size image at (plain_words p) (replicate 34 0) (plain_size p) ∙ sym w in
    let one : Stands image (at + 34) (length ts ∷ []) = ap (λ n. n ∷ []) r.size in
    let last : Stands image (at + 34 + 1) (templates_words ts) = subst (λ q. Stands image q (templates_words ts)) (omega arith) r.words in
    let behind : Stands image (at + 34) (length ts ∷ templates_words ts) = stands_both image (at + 34) (length ts ∷ []) (templates_words ts) one last in
    let moved : Stands image (at + length (plain_words p)) (length ts ∷ templates_words ts) =
    subst (λ n. Stands image (at + n) (length ts ∷ templates_words ts)) (sym (plain_size p)) behind in
    subst (λ us. Stands image at (plain_words p ++ (length us ∷ templates_words us))) (sym t)
    (stands_both image at (plain_words p) (length ts ∷ templates_words ts) front moved))

-- both, as an answer says them
pub read_or : (image : List ℕ) (at : ℕ) (o : Option Policy) → o ≡ policy_at image at → IfSome o (λ p. Stands image at (policy_words p))
read_or image at None e = tt
read_or image at (Some p) e = policy_read image at p (sym e)

pub none_or : (image : List ℕ) (at : ℕ) (o : Option Policy) → o ≡ policy_at image at → IsNone o
    → (p : Policy) → PolicyFits p → Stands image at (policy_words p) → ⊥
none_or image at None e n p f s = none-some p (e ∙ policy_stands image at p f s)
none_or image at (Some q) e n p f s = grind (rules, n)

-- ---- the parts of a policy are put

pub stored_policy : (image : List ℕ) (at count : ℕ) (p : Policy) → count ≡ length p.spec.templates
    → stored (slice_set (stored image at (plain_words p)) (at + 34) count) (at + 35) (templates_words p.spec.templates) ≡ stored image at (policy_words p)
stored_policy image at count p e =
    let ts : List Template = p.spec.templates in
    let a : stored (stored image at (plain_words p)) (at + 34) (length ts ∷ templates_words ts) ≡ stored image at (policy_words p) =
    subst (λ n. stored (stored image at (plain_words p)) (at + n) (length ts ∷ templates_words ts) ≡ stored image at (policy_words p))
    (plain_size p) (stored_append image at (plain_words p) (length ts ∷ templates_words ts)) in
    let q : at + 35 ≡ at + 34 + 1 = omega arith in
    rw (e, q) a

pub policy_size : (p : Policy) → length (policy_words p) ≡ 35 + 11 * length p.spec.templates
policy_size p =
    let ts : List Template = p.spec.templates in
    let a : length (plain_words p ++ (length ts ∷ templates_words ts)) ≡ length (plain_words p) + length (length ts ∷ templates_words ts) = length-append _ _ in
    let b : length (templates_words ts) ≡ 11 * length ts = templates_words-size ts in
    let k : length (plain_words p) ≡ 34 = plain_size p in
    omega arith

-- what is put is got
pub policy_put : (image : List ℕ) (at : ℕ) (p : Policy) → PolicyFits p → at + 101 ≤ length image
    → policy_at (stored image at (policy_words p)) at ≡ Some p
policy_put image at p f h =
    let s : length (policy_words p) ≡ 35 + 11 * length p.spec.templates = policy_size p in
    let c : length p.spec.templates ≤ 6 = f.count in
    policy_stands (stored image at (policy_words p)) at p f (stands_stored image at (policy_words p) (omega arith))

-- the same, with a name for the words after each call
pub put_all : (image first second last ws : List ℕ) (at count : ℕ) (ts : List Template) (p : Policy)
    → ws ≡ plain_words p → ts ≡ p.spec.templates → count ≡ length ts → first ≡ stored image at ws
    → second ≡ slice_set first (at + 34) count → last ≡ stored second (at + 35) (templates_words ts)
    → last ≡ stored image at (policy_words p)
put_all image first second last ws at count ts p a b e f s l =
    l ∙ rw (s, f, a, b) (stored_policy image at count p (e ∙ ap length b))

pub policy_got : (image new : List ℕ) (at : ℕ) (p : Policy) → PolicyFits p → at + 101 ≤ length image
    → new ≡ stored image at (policy_words p) → policy_at new at ≡ Some p
policy_got image new at p f h e = rw e (policy_put image at p f h)

-- ---- what is got has the ranges of its types

plain_fits : (words : List ℕ) (ts : List Template) → PlainFits (policy_of words ts)
unfolding policy_of
plain_fits words ts = record {
  if_id = small_fits _;
  sel = selector_fits words 3;
  value = small_fits _;
  mask = small_fits _;
  priority = small_fits _;
  index = small_fits _;
  asked = small_fits _;
}

plain_got_fits : {P : Type 0} (words : List ℕ) (o : Option (List Template)) (p : Policy) → checked words o ≡ Some p
    → ((ts : List Template) → o ≡ Some ts → PlainFits p → p.spec.templates ≡ ts → P) → P
plain_got_fits words None p h k = absurd (none-some p h)
plain_got_fits words (Some ts) p h k =
    let c : (bytes_eq (plain_words (policy_of words ts)) words ≡ true) × (policy_of words ts ≡ p) = cond_some _ _ _ h in
    k ts refl (subst PlainFits c.1 (plain_fits words ts)) (ap (λ (q : Policy). q.spec.templates) (sym c.1) ∙ templates_of words ts)

pub policy_fits : (image : List ℕ) (at : ℕ) (p : Policy) → policy_at image at ≡ Some p → PolicyFits p
policy_fits image at p h =
    plain_got_fits (fetched image at (replicate 34 0)) (templates_counted image (at + 35) (slice_index image (at + 34))) p h (λ ts o f t.
    let c : (nat_le (slice_index image (at + 34)) 6 ≡ true) × (templates_at image (at + 35) (slice_index image (at + 34)) ≡ Some ts) = counted_some _ _ _ _ o in
    let r : ReadAs image (at + 35) (slice_index image (at + 34)) ts = templates_read image (at + 35) (slice_index image (at + 34)) ts c.1 in
    let n : length ts ≤ 6 = subst (λ n. n ≤ 6) r.size (le_read _ _ c.0) in
    record {
      plain = f;
      templates = subst TemplatesFit (sym t) (templates_got_fit image (at + 35) (slice_index image (at + 34)) ts c.1);
      count = subst (λ us. length us ≤ 6) (sym t) n;
    })

-- ---- one flag

warned_words : (p : Policy) → slice_set (policy_words p) 21 1 ≡ policy_words (warned p)
unfolding plain_words
warned_words p = refl

pub policy_warned : (image : List ℕ) (at : ℕ) (p : Policy) → at + 101 ≤ length image → policy_at image at ≡ Some p
    → policy_at (slice_set image (at + 21) 1) at ≡ Some (warned p)
policy_warned image at p h e =
    let f : PolicyFits p = policy_fits image at p e in
    let n : length (policy_words p) ≡ 35 + 11 * length p.spec.templates = policy_size p in
    let m : length p.spec.templates ≤ 6 = f.count in
    let s : Stands (slice_set image (at + 21) 1) at (slice_set (policy_words p) 21 1) =
    stands_changed image at (policy_words p) 21 1 (omega arith) (omega arith) (policy_read image at p e) in
    let plain : PlainFits (warned p) = record {
      if_id = f.plain.if_id;
      sel = f.plain.sel;
      value = f.plain.value;
      mask = f.plain.mask;
      priority = f.plain.priority;
      index = f.plain.index;
      asked = f.plain.asked;
    } in
    policy_stands (slice_set image (at + 21) 1) at (warned p) (record { plain = plain; templates = f.templates; count = f.count })
    (subst (Stands (slice_set image (at + 21) 1) at) (warned_words p) s)

-- ---- other words

counted_by : (b : Bool) (i j : List ℕ) (at count : ℕ) → b ≡ nat_le count 6 → ((q : ℕ) → at ≤ q → q < at + 66 → slice_index j q ≡ slice_index i q)
    → cond b (templates_at j at count) None ≡ cond b (templates_at i at count) None
counted_by false i j at count e f = refl
counted_by true i j at count e f =
    let n : count ≤ 6 = le_read count 6 (sym e) in templates_same i j at count (λ q l h. f q l (omega arith))

counted_same : (i j : List ℕ) (at count : ℕ) → ((q : ℕ) → at ≤ q → q < at + 66 → slice_index j q ≡ slice_index i q)
    → templates_counted j at count ≡ templates_counted i at count
counted_same i j at count f = counted_by (nat_le count 6) i j at count refl f

pub policy_frame : (i j : List ℕ) (at : ℕ) → ((q : ℕ) → at ≤ q → q < at + 101 → slice_index j q ≡ slice_index i q) → policy_at j at ≡ policy_at i at
policy_frame i j at f =
    let a : fetched j at (replicate 34 0) ≡ fetched i at (replicate 34 0) = fetched_same i j at (replicate 34 0) (λ q l h. f q l (omega arith)) in
    let b : slice_index j (at + 34) ≡ slice_index i (at + 34) = f (at + 34) (omega arith) (omega arith) in
    let c : templates_counted j (at + 35) (slice_index i (at + 34)) ≡ templates_counted i (at + 35) (slice_index i (at + 34)) =
    counted_same i j (at + 35) (slice_index i (at + 34)) (λ q l h. f q (omega arith) (omega arith)) in
    rw (a, b, c) refl

-- ---- words are a record exactly where putting some policy there changes none of them

policy_lies : (image : List ℕ) (at : ℕ) (p : Policy) → length p.spec.templates ≤ 6 → at + 101 ≤ length image → at + length (policy_words p) ≤ length image
policy_lies image at p c h = let s : length (policy_words p) ≡ 35 + 11 * length p.spec.templates = policy_size p in omega arith

pub policy_unchanged : (image : List ℕ) (at : ℕ) (p : Policy) → at + 101 ≤ length image → policy_at image at ≡ Some p
    → stored image at (policy_words p) ≡ image
policy_unchanged image at p h e =
    stored_stands image at (policy_words p) (policy_lies image at p (policy_fits image at p e).count h) (policy_read image at p e)

pub policy_recorded : (image : List ℕ) (at : ℕ) (p : Policy) → PolicyFits p → at + 101 ≤ length image
    → stored image at (policy_words p) ≡ image → policy_at image at ≡ Some p
policy_recorded image at p f h e =
    policy_stands image at p f (stands_unchanged image at (policy_words p) (policy_lies image at p f.count h) e)

-- ---- other words

pub put_below : (image new : List ℕ) (at : ℕ) (p : Policy) → new ≡ stored image at (policy_words p)
    → (q : ℕ) → q < at → slice_index new q ≡ slice_index image q
put_below image new at p e q h = ap (λ j. slice_index j q) e ∙ stored_below image at (policy_words p) q h

pub put_above : (image new : List ℕ) (at : ℕ) (p : Policy) → length p.spec.templates ≤ 6 → new ≡ stored image at (policy_words p)
    → (q : ℕ) → at + 101 ≤ q → slice_index new q ≡ slice_index image q
put_above image new at p c e q h =
    let s : length (policy_words p) ≡ 35 + 11 * length p.spec.templates = policy_size p in
    ap (λ j. slice_index j q) e ∙ stored_above image at (policy_words p) q (omega arith)
