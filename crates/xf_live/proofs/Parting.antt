-- Lists in which each slot stands once: the value of one of them, and what is left without it.
use Rattle.std.proofs.Common.{◌≡◌, ℕ, zero, suc, ◌+◌, ◌<◌, ◌≤◌, ◌==◌, ◌||◌, ◌&&◌, not, if◌then◌else◌, Bool, true, false, List, [], ◌∷◌, ◌++◌, length, map, filter, drop, slice_index, Option, Some, refl, sym, ap, ◌∙◌, subst, arith, rules}
use Rattle.std.specs.List.{list_any}
use Rattle.std.proofs.Math.Seq.{drop-cons}
use Rattle.std.proofs.lemmas.Bool.Decides.{nat_tests}
use Rattle.xf_cells.specs.Frees.{is_among, are_apart}
use Rattle.xf_live.specs.Values.{slots_in, home_at, with_home}

-- the first slot isn't behind itself, and those behind it stand once
pub once_in : (slot : ℕ) (rest : List ℕ) → are_apart (slot ∷ rest) ≡ true → is_among slot rest ≡ false
once_in slot rest h = by (is_among slot rest) refl h
  where
    by : (b : Bool) → is_among slot rest ≡ b → (not b && are_apart rest) ≡ true → is_among slot rest ≡ false
    by false e h = e
    by true e h = absurd (grind (rules, h))

pub once_more : (slot : ℕ) (rest : List ℕ) → are_apart (slot ∷ rest) ≡ true → are_apart rest ≡ true
once_more slot rest h = by (is_among slot rest) h
  where
    by : (b : Bool) → (not b && are_apart rest) ≡ true → are_apart rest ≡ true
    by false h = h
    by true h = absurd (grind (rules, h))

pub same : (n : ℕ) → (n == n) ≡ true
same n = grind (arith, nat_tests)

pub among_at : (slots : List ℕ) (j : ℕ) → j < length slots → is_among (slice_index slots j) slots ≡ true
among_at [] j h = absurd (omega arith)
among_at (s ∷ slots) zero h = grind (arith, nat_tests)
among_at (s ∷ slots) (suc j) h = let e = among_at slots j (omega arith) in grind (rules, nat_tests, e)

-- what is there isn't the slot that isn't
pub other : (slot s : ℕ) (slots : List ℕ) → is_among s slots ≡ false → is_among slot slots ≡ true → (slot == s) ≡ false
other slot s slots out in' = by (slot == s) refl
  where
    by : (b : Bool) → (slot == s) ≡ b → (slot == s) ≡ false
    by false e = e
    by true e = let k : slot ≡ s = grind (arith, nat_tests, e) in absurd (let z : is_among s slots ≡ true = subst (λ q. is_among q slots ≡ true) k in' in grind (rules, z, out))

pub flip : (a b : ℕ) → (a == b) ≡ false → (b == a) ≡ false
flip a b h = grind (arith, nat_tests, h)

-- the test the other way round
pub turned_test : (slot : ℕ) (slots : List ℕ) → list_any (λ y. y == slot) slots ≡ is_among slot slots
turned_test slot [] = refl
turned_test slot (s ∷ slots) =
    let e : (s == slot) ≡ (slot == s) = grind (arith, nat_tests) in
    ap (λ c. c || list_any (λ y. y == slot) slots) e ∙ ap (λ c. (slot == s) || c) (turned_test slot slots)

-- a slot that is here or further on, and isn't here, is further on
pub further_on : (slots : List ℕ) (place slot : ℕ) → place < length slots → is_among slot (drop place slots) ≡ true → (slice_index slots place == slot) ≡ false → is_among slot (drop (place + 1) slots) ≡ true
further_on slots place slot h a e =
    let one : place + 1 ≡ suc place = omega arith in
    let b : is_among slot (slice_index slots place ∷ drop (place + 1) slots) ≡ true =
    subst (λ (l : List ℕ). is_among slot l ≡ true) (drop-cons slots place 0 h ∙ ap (λ n. slice_index slots place ∷ drop n slots) (sym one)) a in
    not_first slot (slice_index slots place) (drop (place + 1) slots) (flip (slice_index slots place) slot e) b
  where
    not_first : (slot s : ℕ) (rest : List ℕ) → (slot == s) ≡ false → is_among slot (s ∷ rest) ≡ true → is_among slot rest ≡ true
    not_first slot s rest e h = ap (λ b. b || is_among slot rest) (sym e) ∙ h

-- nothing is behind the end
pub none_behind : (slots : List ℕ) (place slot : ℕ) → length slots ≤ place → is_among slot (drop place slots) ≡ true → ⊥
none_behind [] zero slot h a = absurd (grind (rules, a))
none_behind [] (suc place) slot h a = absurd (grind (rules, a))
none_behind (s ∷ slots) zero slot h a = absurd (omega arith)
none_behind (s ∷ slots) (suc place) slot h a = none_behind slots place slot (omega arith) a

-- neither the first nor those behind it
pub first_not : (slot s : ℕ) (slots : List ℕ) → is_among slot (s ∷ slots) ≡ false → (slot == s) ≡ false
first_not slot s slots h = by (slot == s) h
  where
    by : (b : Bool) → (b || is_among slot slots) ≡ false → b ≡ false
    by false h = refl
    by true h = h

pub rest_not : (slot s : ℕ) (slots : List ℕ) → is_among slot (s ∷ slots) ≡ false → is_among slot slots ≡ false
rest_not slot s slots h = by (slot == s) h
  where
    by : (b : Bool) → (b || is_among slot slots) ≡ false → is_among slot slots ≡ false
    by false h = h
    by true h = absurd (grind (rules, h))

not_cons : (slot s : ℕ) (slots : List ℕ) → (slot == s) ≡ false → is_among slot slots ≡ false → is_among slot (s ∷ slots) ≡ false
not_cons slot s slots e h = ap (λ b. b || is_among slot slots) e ∙ h

module _ {X : Type 0} where
  -- what stands at a slot, and what stands before and behind it
  pub record Parted (xs : List (ℕ × Option X)) (slot j : ℕ) : Type 0 where
    pub before : List (ℕ × Option X)
    pub home : Option X
    pub behind : List (ℕ × Option X)
    pub is : xs ≡ before ++ (slot, home) ∷ behind
    pub count : length before ≡ j
    pub early : is_among slot (slots_in before) ≡ false
    pub late : is_among slot (slots_in behind) ≡ false

  pub parted : (xs : List (ℕ × Option X)) (slot j : ℕ) → are_apart (slots_in xs) ≡ true → j < length (slots_in xs) → slice_index (slots_in xs) j ≡ slot → Parted xs slot j
  parted [] slot j a h e = absurd (omega arith)
  parted (x ∷ xs) slot zero a h e = record {
    before = [];
    home = x.1;
    behind = xs;
    is = ap (λ (s : ℕ). (s, x.1) ∷ xs) e;
    count = refl;
    early = refl;
    late = subst (λ (s : ℕ). is_among s (slots_in xs) ≡ false) e (once_in x.0 (slots_in xs) a);
  }
  parted (x ∷ xs) slot (suc j) a h e =
      let r = parted xs slot j (once_more x.0 (slots_in xs) a) (omega arith) e in
      let there : is_among slot (slots_in xs) ≡ true = subst (λ (s : ℕ). is_among s (slots_in xs) ≡ true) e (among_at (slots_in xs) j (omega arith)) in
      record {
        before = x ∷ r.before;
        home = r.home;
        behind = r.behind;
        is = ap (λ (l : List (ℕ × Option X)). x ∷ l) r.is;
        count = ap suc r.count;
        early = not_cons slot x.0 (slots_in r.before) (other slot x.0 (slots_in xs) (once_in x.0 (slots_in xs) a) there) r.early;
        late = r.late;
      }

  pub home_parted : (before : List (ℕ × Option X)) (slot : ℕ) (o : Option X) (behind : List (ℕ × Option X)) → is_among slot (slots_in before) ≡ false
      → home_at (before ++ (slot, o) ∷ behind) slot ≡ Some o
  home_parted [] slot o behind h = ap (λ b. if b then Some o else home_at behind slot) (same slot)
  home_parted (x ∷ before) slot o behind h =
      ap (λ b. if b then Some x.1 else home_at (before ++ (slot, o) ∷ behind) slot) (flip slot x.0 (first_not slot x.0 (slots_in before) h))
      ∙ home_parted before slot o behind (rest_not slot x.0 (slots_in before) h)

  with_none : (xs : List (ℕ × Option X)) (slot : ℕ) (w : Option X) → is_among slot (slots_in xs) ≡ false → with_home xs slot w ≡ xs
  with_none [] slot w h = refl
  with_none (x ∷ xs) slot w h =
      ap (λ b. (if b then (slot, w) else x) ∷ with_home xs slot w) (flip slot x.0 (first_not slot x.0 (slots_in xs) h))
      ∙ ap (λ (l : List (ℕ × Option X)). x ∷ l) (with_none xs slot w (rest_not slot x.0 (slots_in xs) h))

  pub with_parted : (before : List (ℕ × Option X)) (slot : ℕ) (o w : Option X) (behind : List (ℕ × Option X)) → is_among slot (slots_in before) ≡ false → is_among slot (slots_in behind) ≡ false
      → with_home (before ++ (slot, o) ∷ behind) slot w ≡ before ++ (slot, w) ∷ behind
  with_parted [] slot o w behind h t =
      ap (λ b. (if b then (slot, w) else (slot, o)) ∷ with_home behind slot w) (same slot) ∙ ap (λ (l : List (ℕ × Option X)). (slot, w) ∷ l) (with_none behind slot w t)
  with_parted (x ∷ before) slot o w behind h t =
      ap (λ b. (if b then (slot, w) else x) ∷ with_home (before ++ (slot, o) ∷ behind) slot w) (flip slot x.0 (first_not slot x.0 (slots_in before) h))
      ∙ ap (λ (l : List (ℕ × Option X)). x ∷ l) (with_parted before slot o w behind (rest_not slot x.0 (slots_in before) h) t)

  -- another value changes no slot
  pub slots_parted : (before : List (ℕ × Option X)) (slot : ℕ) (o w : Option X) (behind : List (ℕ × Option X)) → slots_in (before ++ (slot, w) ∷ behind) ≡ slots_in (before ++ (slot, o) ∷ behind)
  slots_parted [] slot o w behind = refl
  slots_parted (x ∷ before) slot o w behind = ap (λ (l : List ℕ). x.0 ∷ l) (slots_parted before slot o w behind)

-- the list without the elements of a slot
pub kept_if : {A : Type 0} (b : Bool) (x : A) (rest : List A) → b ≡ false → (if not b then x ∷ rest else rest) ≡ x ∷ rest
kept_if b x rest h = ap (λ c. if not c then x ∷ rest else rest) h

pub gone_if : {A : Type 0} (b : Bool) (x : A) (rest : List A) → b ≡ true → (if not b then x ∷ rest else rest) ≡ rest
gone_if b x rest h = ap (λ c. if not c then x ∷ rest else rest) h

module _ {A : Type 0} (slot_of : A → ℕ) (slot : ℕ) where
  abbrev left : List A → List A
  left xs = filter (λ x. not (slot_of x == slot)) xs

  left_none : (xs : List A) → is_among slot (map slot_of xs) ≡ false → left xs ≡ xs
  left_none [] h = refl
  left_none (x ∷ xs) h =
      kept_if (slot_of x == slot) x (left xs) (flip slot (slot_of x) (first_not slot (slot_of x) (map slot_of xs) h))
      ∙ ap (λ (l : List A). x ∷ l) (left_none xs (rest_not slot (slot_of x) (map slot_of xs) h))

  pub left_parted : (before : List A) (one : A) (behind : List A) → slot_of one ≡ slot → is_among slot (map slot_of before) ≡ false → is_among slot (map slot_of behind) ≡ false
      → left (before ++ one ∷ behind) ≡ before ++ behind
  left_parted [] one behind e h t = gone_if (slot_of one == slot) one (left behind) (ap (λ s. s == slot) e ∙ same slot) ∙ left_none behind t
  left_parted (x ∷ before) one behind e h t =
      kept_if (slot_of x == slot) x (left (before ++ one ∷ behind)) (flip slot (slot_of x) (first_not slot (slot_of x) (map slot_of before) h))
      ∙ ap (λ (l : List A). x ∷ l) (left_parted before one behind e (rest_not slot (slot_of x) (map slot_of before) h) t)

  map_if : (b : Bool) (x : A) (rest : List A) → map slot_of (if not b then x ∷ rest else rest) ≡ (if not b then slot_of x ∷ map slot_of rest else map slot_of rest)
  map_if true x rest = refl
  map_if false x rest = refl

  -- the slots that are left are the slots without it
  pub map_left : (xs : List A) → map slot_of (left xs) ≡ filter (λ s. not (s == slot)) (map slot_of xs)
  map_left [] = refl
  map_left (x ∷ xs) = map_if (slot_of x == slot) x (left xs) ∙ ap (λ (l : List ℕ). if not (slot_of x == slot) then slot_of x ∷ l else l) (map_left xs)

-- what is left of a list is among it, and still stands once
pub left_among : (slot s : ℕ) (slots : List ℕ) → is_among s (filter (λ x. not (x == slot)) slots) ≡ true → is_among s slots ≡ true
left_among slot s [] h = h
left_among slot s (x ∷ slots) h = by (x == slot) (left_among slot s slots) h
  where
    rest : List ℕ
    rest = filter (λ x. not (x == slot)) slots

    case : (b : Bool) → (is_among s rest ≡ true → is_among s slots ≡ true) → (b || is_among s rest) ≡ true → (b || is_among s slots) ≡ true
    case true go h = refl
    case false go h = go h

    by : (b : Bool) → (is_among s rest ≡ true → is_among s slots ≡ true) → is_among s (if not b then x ∷ rest else rest) ≡ true → is_among s (x ∷ slots) ≡ true
    by true go h = let e = go h in grind (rules, e)
    by false go h = case (s == x) go h

not_left : (slot s : ℕ) (slots : List ℕ) → is_among s slots ≡ false → is_among s (filter (λ x. not (x == slot)) slots) ≡ false
not_left slot s slots h = by (is_among s (filter (λ x. not (x == slot)) slots)) refl
  where
    by : (b : Bool) → is_among s (filter (λ x. not (x == slot)) slots) ≡ b → b ≡ false
    by false e = refl
    by true e = let k = left_among slot s slots e in absurd (grind (rules, k, h))

pub left_apart : (slot : ℕ) (slots : List ℕ) → are_apart slots ≡ true → are_apart (filter (λ x. not (x == slot)) slots) ≡ true
left_apart slot [] h = h
left_apart slot (x ∷ slots) h = by (x == slot) (left_apart slot slots (once_more x slots h))
  where
    by : (b : Bool) → are_apart (filter (λ x. not (x == slot)) slots) ≡ true → are_apart (if not b then x ∷ filter (λ x. not (x == slot)) slots else filter (λ x. not (x == slot)) slots) ≡ true
    by true rest = rest
    by false rest = ap (λ b. not b && are_apart (filter (λ x. not (x == slot)) slots)) (not_left slot x slots (once_in x slots h)) ∙ rest
