-- One value more at a later time.
use Rattle.std.proofs.Common.{arith, ℕ, ◌+◌, ◌≡◌, ◌≢◌, ◌<◌, ◌≤◌, ◌==◌, Bool, true, false, length, length-set, cond, refl, ap, sym, ◌∙◌, subst, eqb-true, eq-eqb, get_or-set_same, get_or-set_other}
use Rattle.xf_local.specs.View.{LocalView, Dead, aged}
use Rattle.xf_rows.specs.Values.{Beside, at, value_put}
use Rattle.xf_rows.specs.Ticks.{AreAged}
use Rattle.xf_parts.specs.Aged.{aged_if_held}

-- The values of the slots below one are at a later time where their turns are held, and the others stay.
pub record AgedBelow (now below : ℕ) (old new : Beside) : Type 0 where
  pub held : new.held ≡ old.held
  pub count : length new.values ≡ length old.values
  pub later : (slot : ℕ) → slot < below → slot < length old.values → old.held slot ≡ true → at new slot ≡ aged now (at old slot)
  pub behind : (slot : ℕ) → below ≤ slot → at new slot ≡ at old slot
  pub others : (slot : ℕ) → old.held slot ≡ false → at new slot ≡ at old slot

pub aging_begins : (now : ℕ) (b : Beside) → AgedBelow now 0 b b
aging_begins now b = record {
  held = refl;
  count = refl;
  later = λ slot w within mine. absurd (omega (arith, w));
  behind = λ slot w. refl;
  others = λ slot free. refl;
}

pub aging_ends : (now below : ℕ) (b c : Beside) → length b.values ≤ below → AgedBelow now below b c → AreAged now b c
aging_ends now below b c l k = record {
  held = k.held;
  count = k.count;
  later = λ slot within mine. k.later slot (omega (arith, l, within)) within mine;
  others = k.others;
}

differ : (slot other : ℕ) → (slot == other) ≡ false → slot ≢ other
differ slot other e s = let t = eq-eqb slot other s in absurd (cc)

below_then : (slot k : ℕ) → slot < k + 1 → slot ≢ k → slot < k
below_then slot k w n = omega (arith, w, n)

-- the turn of the next slot is held
goes_held : (now k : ℕ) (b c : Beside) → k < length b.values → b.held k ≡ true → AgedBelow now k b c → AgedBelow now (k + 1) b (value_put c k (aged now (at c k)))
goes_held now k b c within mine w = record {
  held = w.held;
  count = length-set c.values k (aged now (at c k)) ∙ w.count;
  later = λ slot l inside held. by slot l inside held (slot == k) refl;
  behind = λ slot l. other slot (λ (e : slot ≡ k). omega (arith, e, l)) ∙ w.behind slot (omega (arith, l));
  others = λ slot free. other slot (λ (e : slot ≡ k). let h : b.held slot ≡ true = subst (λ (n : ℕ). b.held n ≡ true) (sym e) mine in absurd (cc)) ∙ w.others slot free;
}
  where
    other : (slot : ℕ) → slot ≢ k → at (value_put c k (aged now (at c k))) slot ≡ at c slot
    other slot n = get_or-set_other c.values k slot (aged now (at c k)) Dead n

    this : at (value_put c k (aged now (at c k))) k ≡ aged now (at b k)
    this =
        get_or-set_same c.values k (aged now (at c k)) Dead (subst (λ (n : ℕ). k < n) (sym w.count) within)
        ∙ ap (λ (v : LocalView). aged now v) (w.behind k (omega arith))

    by : (slot : ℕ) → slot < k + 1 → slot < length b.values → b.held slot ≡ true → (t : Bool) → (slot == k) ≡ t
        → at (value_put c k (aged now (at c k))) slot ≡ aged now (at b slot)
    by slot l inside held true e = subst (λ (n : ℕ). at (value_put c k (aged now (at c k))) n ≡ aged now (at b n)) (sym (eqb-true slot k e)) this
    by slot l inside held false e = other slot (differ slot k e) ∙ w.later slot (below_then slot k l (differ slot k e)) inside held

-- it isn't
goes_free : (now k : ℕ) (b c : Beside) → b.held k ≡ false → AgedBelow now k b c → AgedBelow now (k + 1) b c
goes_free now k b c free w = record {
  held = w.held;
  count = w.count;
  later = λ slot l inside held. by slot l inside held (slot == k) refl;
  behind = λ slot l. w.behind slot (omega (arith, l));
  others = w.others;
}
  where
    by : (slot : ℕ) → slot < k + 1 → slot < length b.values → b.held slot ≡ true → (t : Bool) → (slot == k) ≡ t → at c slot ≡ aged now (at b slot)
    by slot l inside held true e = let h : b.held slot ≡ false = subst (λ (n : ℕ). b.held n ≡ false) (sym (eqb-true slot k e)) free in absurd (cc)
    by slot l inside held false e = w.later slot (below_then slot k l (differ slot k e)) inside held

pub aging_goes : (now k : ℕ) (b c d : Beside) → k < length b.values → d ≡ aged_if_held now c k → AgedBelow now k b c → AgedBelow now (k + 1) b d
aging_goes now k b c d within is w = subst (λ (x : Beside). AgedBelow now (k + 1) b x) (sym is) (by (c.held k) refl)
  where
    mine : (t : Bool) → c.held k ≡ t → b.held k ≡ t
    mine t e = subst (λ (h : ℕ → Bool). h k ≡ t) w.held e

    by : (t : Bool) → c.held k ≡ t → AgedBelow now (k + 1) b (cond t (value_put c k (aged now (at c k))) c)
    by true e = goes_held now k b c within (mine true e) w
    by false e = goes_free now k b c (mine false e) w
