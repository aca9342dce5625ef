-- A scan of statuses, one slot further.
use Rattle.std.proofs.Common.{◌≡◌, ◌≢◌, ℕ, suc, ◌+◌, List, refl, sym, ap, ◌∙◌, subst, arith, Option, Some, None}
use Rattle.std.specs.Prelude.{◌==◌, slice_index}
use Rattle.std.proofs.lemmas.Bool.{eq-eqb, ne_eqb}
use Rattle.xf_views.specs.TurnPart.{one_if}
use Rattle.xf_retired.specs.Pools.{listed_slots}
use Rattle.xf_desk.specs.Pools.{IsScan}

pub none_yet : (first : ℕ) (image : List ℕ) → IsScan first 0 image 0 None
none_yet first image = record { listed = refl; unlisted = λ slot e. absurd cc; all = λ e. refl }

more : (first n : ℕ) (image : List ℕ) → listed_slots image first (n + 1) ≡ listed_slots image first n + one_if (slice_index image (first + n) == 1)
more first n image = let e : n + 1 ≡ suc n = omega arith in ap (λ k. listed_slots image first k) e

pub one_listed : (first n live : ℕ) (free : Option ℕ) (image : List ℕ) → IsScan first n image live free → slice_index image (first + n) ≡ 1
    → IsScan first (n + 1) image (live + 1) free
one_listed first n live free image s is = record {
  listed = ap (λ k. k + 1) s.listed ∙ ap (λ b. listed_slots image first n + one_if b) (sym (eq-eqb (slice_index image (first + n)) 1 is)) ∙ sym (more first n image);
  unlisted = λ slot e. (omega (arith, (s.unlisted slot e).0), (s.unlisted slot e).1);
  all = λ e. ap (λ k. k + 1) (s.all e);
}

pub one_free : (first n live : ℕ) (free : Option ℕ) (image : List ℕ) → IsScan first n image live free → slice_index image (first + n) ≢ 1
    → IsScan first (n + 1) image live (Some n)
one_free first n live free image s isnt = record {
  listed = s.listed ∙ omega arith ∙ ap (λ b. listed_slots image first n + one_if b) (sym (ne_eqb (slice_index image (first + n)) 1 isnt)) ∙ sym (more first n image);
  unlisted = λ slot e. let same : n ≡ slot = cc in (omega (arith, same), subst (λ k. slice_index image (first + k) ≢ 1) same isnt);
  all = λ e. absurd cc;
}
