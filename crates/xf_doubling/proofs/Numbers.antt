-- The head of a hash, before and after one head more is split.
use Rattle.std.proofs.Common.{◌≡◌, ◌≢◌, ℕ, ◌+◌, ◌-◌, ◌*◌, ◌/◌, ◌%◌, ◌<◌, ◌≤◌, ◌⊎◌, inl, inr, Bool, true, false, cond, nat_lt, refl, ap, sym, ◌∙◌, subst, arith}
use Rattle.std.proofs.lemmas.Bool.Decides.{nat_tests}
use Rattle.std.proofs.lemmas.Nat.{mod_below}
use Rattle.std.proofs.Math.Nat.{div-add-mod, mul-add-mod_self_left, add-mod_right, mod-eq_of_lt, mod-mod}
use Rattle.xf_doubling.specs.Heads.{head_number, old_count}

below_by : (q at : ℕ) (b : Bool) → nat_lt q at ≡ b → (q < at) ⊎ (at ≤ q)
below_by q at true e = inl (grind (arith, nat_tests))
below_by q at false e = inr (grind (arith, nat_tests))

pub below_or : (q at : ℕ) → (q < at) ⊎ (at ≤ q)
below_or q at = below_by q at (nat_lt q at) refl

low_part : (r half : ℕ) → r < half + half → ((r < half) ⊎ (half ≤ r)) → (r ≡ r % half) ⊎ (r ≡ r % half + half)
low_part r half b (inl l) = inl (sym (mod-eq_of_lt l))
low_part r half b (inr g) =
    let d : ℕ = r - half in
    let e : r ≡ d + half = omega arith in
    let f : d < half = omega arith in
    let m : r % half ≡ d = ap (λ x. x % half) e ∙ (add-mod_right d half ∙ mod-eq_of_lt f) in
    inr (e ∙ sym (ap (λ x. x + half) m))

mod_half : (h half : ℕ) → h % (half + half) % half ≡ h % half
mod_half h half =
    let q : ℕ = h / (half + half) in
    let r : ℕ = h % (half + half) in
    let e : (half + half) * q + r ≡ h = div-add-mod h (half + half) in
    let f : half * (q + q) + r ≡ h = omega arith in
    sym (mul-add-mod_self_left half (q + q) r) ∙ ap (λ x. x % half) f

-- by twice as many: the remainder stays, or grows by as many as there were
mod_twice : (h half : ℕ) → 0 < half → (h % (half + half) ≡ h % half) ⊎ (h % (half + half) ≡ h % half + half)
mod_twice h half p =
    let r : ℕ = h % (half + half) in
    let b : r < half + half = mod_below h (half + half) (omega arith) in
    subst (λ (x : ℕ). (r ≡ x) ⊎ (r ≡ x + half)) (mod_half h half) (low_part r half b (below_or r half))

low : (x y m : ℕ) → x < m → cond (nat_lt x m) y x ≡ y
low x y m h = grind (arith, nat_tests)

high : (x y m : ℕ) → m ≤ x → cond (nat_lt x m) y x ≡ x
high x y m h = grind (arith, nat_tests)

pub head_below : (half moved h : ℕ) → 0 < half → head_number half moved h < half + half
head_below half moved h p =
    let a : h % half < half = mod_below h half p in
    let b : h % (half + half) < half + half = mod_below h (half + half) (omega arith) in
    below (h % half) (h % (half + half)) a b (below_or (h % half) moved)
  where
    below : (x y : ℕ) → x < half → y < half + half → ((x < moved) ⊎ (moved ≤ x)) → cond (nat_lt x moved) y x < half + half
    below x y a b (inl l) = subst (λ (z : ℕ). z < half + half) (sym (low x y moved l)) b
    below x y a b (inr g) = subst (λ (z : ℕ). z < half + half) (sym (high x y moved g)) (omega arith)

-- before, no hash goes to the new head
pub head_fresh : (half moved h : ℕ) → moved < half → head_number half moved h ≢ half + moved
head_fresh half moved h p =
    fresh (h % half) (h % (half + half)) (mod_below h half (omega arith)) (mod_twice h half (omega arith)) (below_or (h % half) moved)
  where
    fresh : (x y : ℕ) → x < half → ((y ≡ x) ⊎ (y ≡ x + half)) → ((x < moved) ⊎ (moved ≤ x)) → cond (nat_lt x moved) y x ≢ half + moved
    fresh x y a (inl e) (inl l) = λ f. let k : cond (nat_lt x moved) y x ≡ y = low x y moved l in omega (arith, a, e, f, k)
    fresh x y a (inr e) (inl l) = λ f. let k : cond (nat_lt x moved) y x ≡ y = low x y moved l in omega (arith, l, e, f, k)
    fresh x y a e (inr g) = λ f. let k : cond (nat_lt x moved) y x ≡ x = high x y moved g in omega (arith, a, f, k)

-- a hash of another head stays there
pub head_stays : (half moved h : ℕ) → head_number half moved h ≢ moved → head_number half (moved + 1) h ≡ head_number half moved h
head_stays half moved h n = stay (h % half) (h % (half + half)) n (below_or (h % half) moved)
  where
    stay : (x y : ℕ) → cond (nat_lt x moved) y x ≢ moved → ((x < moved) ⊎ (moved ≤ x)) → cond (nat_lt x (moved + 1)) y x ≡ cond (nat_lt x moved) y x
    stay x y n (inl l) = low x y (moved + 1) (omega arith) ∙ sym (low x y moved l)
    stay x y n (inr g) =
        let k : cond (nat_lt x moved) y x ≡ x = high x y moved g in
        let d : x ≢ moved = λ e. n (k ∙ e) in
        high x y (moved + 1) (omega (arith, g, d)) ∙ sym k

-- one of the head that is split stays there or goes to the new head
pub head_parts : (half moved h : ℕ) → moved < half → head_number half moved h ≡ moved
    → (head_number half (moved + 1) h ≡ moved) ⊎ (head_number half (moved + 1) h ≡ half + moved)
head_parts half moved h p e = part (h % half) (h % (half + half)) (mod_twice h half (omega arith)) e (below_or (h % half) moved)
  where
    here : (x y : ℕ) → ((y ≡ x) ⊎ (y ≡ x + half)) → x ≡ moved → (cond (nat_lt x (moved + 1)) y x ≡ moved) ⊎ (cond (nat_lt x (moved + 1)) y x ≡ half + moved)
    here x y (inl f) e = inl (low x y (moved + 1) (omega (arith, e)) ∙ f ∙ e)
    here x y (inr f) e = inr (low x y (moved + 1) (omega (arith, e)) ∙ omega (arith, f, e))

    part : (x y : ℕ) → ((y ≡ x) ⊎ (y ≡ x + half)) → cond (nat_lt x moved) y x ≡ moved → ((x < moved) ⊎ (moved ≤ x))
        → (cond (nat_lt x (moved + 1)) y x ≡ moved) ⊎ (cond (nat_lt x (moved + 1)) y x ≡ half + moved)
    part x y (inl f) e (inl l) = absurd (let k : cond (nat_lt x moved) y x ≡ y = low x y moved l in omega (arith, f, e, l, k))
    part x y (inr f) e (inl l) = absurd (let k : cond (nat_lt x moved) y x ≡ y = low x y moved l in omega (arith, f, e, p, k))
    part x y f e (inr g) = here x y f (sym (high x y moved g) ∙ e)

-- a doubling that begins moves nothing
pub head_grown : (half h : ℕ) → 0 < half → head_number (half + half) 0 h ≡ head_number half half h
head_grown half h p =
    high (h % (half + half)) (h % (half + half + (half + half))) 0 (omega arith) ∙ sym (low (h % half) (h % (half + half)) half (mod_below h half p))

-- the head of a hash, by the count of old heads
head_mod : (half moved h : ℕ) → head_number half moved h % half ≡ h % half
head_mod half moved h = by (below_or (h % half) moved)
  where
    by : ((h % half < moved) ⊎ (moved ≤ h % half)) → head_number half moved h % half ≡ h % half
    by (inl l) = ap (λ x. x % half) (low (h % half) (h % (half + half)) moved l) ∙ mod_half h half
    by (inr g) = ap (λ x. x % half) (high (h % half) (h % (half + half)) moved g) ∙ mod-mod h half

-- hashes of one head are equal by the count of heads, or by the old one
pub head_bucket : (half moved h k : ℕ) → 0 < half → moved ≤ half → head_number half moved h ≡ head_number half moved k
    → h % old_count half moved ≡ k % old_count half moved
head_bucket half moved h k p m e = by (below_or moved half)
  where
    by : ((moved < half) ⊎ (half ≤ moved)) → h % old_count half moved ≡ k % old_count half moved
    by (inl l) =
        let c : old_count half moved ≡ half = grind (arith, nat_tests) in
        subst (λ (n : ℕ). h % n ≡ k % n) (sym c) (sym (head_mod half moved h) ∙ ap (λ x. x % half) e ∙ head_mod half moved k)
    by (inr g) =
        let c : old_count half moved ≡ half + half = grind (arith, nat_tests) in
        let a : h % half < half = mod_below h half p in
        let b : k % half < half = mod_below k half p in
        subst (λ (n : ℕ). h % n ≡ k % n) (sym c)
        (sym (low (h % half) (h % (half + half)) moved (omega (arith, a, g))) ∙ e ∙ low (k % half) (k % (half + half)) moved (omega (arith, b, g)))
