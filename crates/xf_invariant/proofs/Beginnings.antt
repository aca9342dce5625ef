-- The image part and the pin part hold at the beginning.
use Rattle.std.proofs.Common.{◌≡◌, ℕ, zero, suc, ◌<◌, ◌≤◌, true≢false, List, [], refl, sym, ap, ◌∙◌, subst, arith}
use Rattle.std.specs.Prelude.{replicate, slice_index}
use mathlib.Core.Option.{some, some-ne-none}
use lib.ListN.{get_elem?}
use Rattle.xf_types.specs.declared.state.Sa.{Sa}
use Rattle.xf_views.specs.declared.view.View.{View}
use Rattle.xf_views.specs.declared.view.Start.{Start}
use Rattle.xf_views.specs.Starts.{first_view, first_views}
use Rattle.xf_views.proofs.Beginnings.{at_first}
use Rattle.xf_invariant.specs.Meaning.{Told}
use Rattle.xf_invariant.specs.ImagePart.{IsInImage, ImagePart}
use Rattle.xf_invariant.specs.PinPart.{Holds, IsInPin, PinPart}

pub image_begins : (bucket_of : Sa → ℕ) (good : List ℕ → Told → Type 0) (base : List ℕ) (made : ℕ) (start : Start) → ImagePart bucket_of good base 0 [] base base (first_views start made)
image_begins bucket_of good base made start = record {
  stands = λ t o. o.3;
  calm = λ h. refl;
  each = λ i v e h. subst (IsInImage 0 [] base base) (sym (at_first start made i v e).1) (fits i);
}
  where
    fits : (i : ℕ) → IsInImage 0 [] base base (first_view start i 0)
    fits i = record {
      image = λ h. absurd (true≢false (sym h));
      settled = λ h. absurd (true≢false (sym h));
      read = λ g q. absurd (cc);
      trial = λ x g q. absurd (cc);
    }

at_zeros : (n k : ℕ) → k < n → get_elem? {A = ℕ} (replicate n 0) k ≡ some 0
at_zeros zero k h = absurd (omega arith)
at_zeros (suc n) zero h = refl
at_zeros (suc n) (suc k) h = at_zeros n k (omega arith)

pub pins_begin : (id_place : ℕ → ℕ) (policies slots : ℕ) (base : List ℕ) (made : ℕ) (start : Start) → ((s : ℕ) → s < slots → slice_index base s ≤ 1)
    → PinPart policies slots id_place 0 base base (replicate made 0) (first_views start made)
pins_begin id_place policies slots base made start low = record {
  retired = λ s inside. let h = low s inside in omega arith;
  each = λ i v e h. let a = at_first start made i v e in subst (IsInPin policies slots id_place 0 base base (replicate made 0)) (sym a.1) (fits i a.0);
  clear = λ i j v u e h turn f g s pin sid old seen ok hold. held_none u.pins.shows s sid (shows_none j u f) hold;
  fresh = λ i j v u e h opens f g s sid seen hold. held_none u.pins.shows s sid (shows_none j u f) hold;
}
  where
    shows_none : (j : ℕ) (u : View) → get_elem? (first_views start made) j ≡ some u → u.pins.shows ≡ []
    shows_none j u f = ap (λ (z : View). z.pins.shows) (at_first start made j u f).1

    held_none : (shows : List (List (ℕ × ℕ))) (s sid : ℕ) → shows ≡ [] → Holds policies slots id_place shows s sid → ⊥
    held_none shows s sid none hold = some-ne-none hold.0 (sym (ap (λ (l : List (List (ℕ × ℕ))). get_elem? l hold.1.0) (sym none) ∙ hold.1.1))

    fits : (i : ℕ) → i < made → IsInPin policies slots id_place 0 base base (replicate made 0) (first_view start i 0)
    fits i h = record {
      word = at_zeros made i h;
      low = omega arith;
      bare = λ z. refl;
      holds = λ s sid hold. absurd (held_none [] s sid refl hold);
    }
