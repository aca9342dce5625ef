-- Lists of overtaken reads.
use Rattle.std.proofs.Common.{◌≡◌, ℕ, ◌+◌, ◌*◌, ◌%◌, ◌<◌, ◌≤◌, Bool, true, false, List, [], ◌∷◌, ◌++◌, length, cond, Some, None, Option, refl, arith, eqb-true}
use Rattle.std.specs.Prelude.{◌&&◌, ◌==◌, nat_lt}
use Rattle.std.proofs.lemmas.Bool.{ltb-true}
use Rattle.xf_views.specs.Views.{overtaken_after}
use Rattle.xf_legalpart.specs.AgainPart.{AreOvertaken}

-- up to a later generation
pub overtaken-raise : (low : ℕ) (ps : List (ℕ × ℕ)) (high more : ℕ) → high ≤ more → AreOvertaken low ps high → AreOvertaken low ps more
overtaken-raise low [] high more le h = tt
overtaken-raise low (p ∷ ps) high more le h = let last = h.3 in (h.0, h.1, h.2, omega arith, overtaken-raise p.1 ps high more le h.4)

-- one more
pub overtaken-more : (low : ℕ) (ps : List (ℕ × ℕ)) (b g : ℕ) → low ≤ b → b % 2 ≡ 0 → b < g → AreOvertaken low ps b → AreOvertaken low (ps ++ (b, g) ∷ []) g
overtaken-more low [] b g le even less h = (even, le, less, omega arith, tt)
overtaken-more low (p ∷ ps) b g le even less h = let last = h.3 in (h.0, h.1, h.2, omega arith, overtaken-more p.1 ps b g last even less h.4)

-- each stands for a move
pub overtaken-many : (low : ℕ) (p : ℕ × ℕ) (ps : List (ℕ × ℕ)) (high : ℕ) → high % 2 ≡ 0 → AreOvertaken low (p ∷ ps) high → p.0 + 2 * (1 + length ps) ≤ high
overtaken-many low p [] high even h = let a = h.0 in let b = h.2 in let c = h.3 in omega arith
overtaken-many low p (q ∷ qs) high even h =
    let a = h.0 in let b = h.2 in let c = h.4.0 in let d = h.4.1 in
    let rest = overtaken-many p.1 q qs high even h.4 in
    omega arith

pub overtaken-count : (low : ℕ) (ps : List (ℕ × ℕ)) (high tries : ℕ) → high % 2 ≡ 0 → 1 ≤ tries → tries ≤ length ps → AreOvertaken low ps high → low + 2 * tries ≤ high
overtaken-count low [] high tries even least few h = absurd (omega arith)
overtaken-count low (p ∷ ps) high tries even least few h =
    let many = overtaken-many low p ps high even h in
    let le = h.1 in
    omega arith

-- those after a read that ends
pub overtaken-read : (anew : Bool) (trial began : Option ℕ) (g : ℕ) (ps : List (ℕ × ℕ)) (low : ℕ) → AreOvertaken low ps g
    → ((b : ℕ) → anew ≡ true → began ≡ Some b → b % 2 ≡ 0 → (low ≤ b) × AreOvertaken low ps b)
    → AreOvertaken low (overtaken_after anew trial began g ps) g
overtaken-read false trial began g ps low all current = all
overtaken-read true None began g ps low all current = all
overtaken-read true (Some x) None g ps low all current = all
overtaken-read true (Some x) (Some b) g ps low all current = by (b % 2 == 0) (nat_lt b g) refl refl
  where
    by : (c d : Bool) → (b % 2 == 0) ≡ c → nat_lt b g ≡ d → AreOvertaken low (cond (c && d) (ps ++ (b, g) ∷ []) ps) g
    by true true even less =
        let e = eqb-true (b % 2) 0 even in
        let h = current b refl refl e in
        overtaken-more low ps b g h.0 e (ltb-true b g less) h.1
    by true false even less = all
    by false d even less = all
