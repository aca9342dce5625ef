-- Zeros and slots that are all free stand for the empty machine.
use Rattle.std.proofs.Common.{◌≡◌, ℕ, ◌+◌, ◌≤◌, List, [], refl, sym, subst, arith}
use Rattle.xf_types.specs.Steps.{empty}
use Rattle.xf_laws.proofs.KeepLemmas.{empty-is}
use Rattle.xf_cells.specs.Pools.{IsFull}
use Rattle.xf_cells.specs.Words.{zeros}
use Rattle.xf_image.specs.declared.area.PolicyArea.{PolicyArea}
use Rattle.xf_image.specs.Layout.{IsArea}
use Rattle.xf_image.proofs.Empties.{zeros_stand}
use Rattle.xf_inexact.specs.Whole.{WholeFits, trees_of, whole_end}
use Rattle.xf_inexact.proofs.Empties.{part_empty, zeros_empty}
use Rattle.xf_listing.proofs.Wholes.{whole_fits}
use Rattle.xf_spd.proofs.Fitting.{new_fits}
use Rattle.xf_beside.specs.Standing.{Stood, IsBeside}

pub begun : (a : PolicyArea) (n all out : ℕ) (gives takes : ℕ → Type 0) → a.slots ≤ 4096 → IsFull a.slots all out gives → Stood a (zeros n) 0 all out gives takes
begun a n all out gives takes most full = record {
  machine = empty a.slots 0;
  for_it = record { entries = []; stands = record { list = zeros_stand a n 0; part = part_empty (trees_of a) (zeros n) (32, 32) (128, 128) (zeros_empty (trees_of a) n) }; is = empty-is a.slots 0 most (omega arith); time = refl };
  pool = new_fits a n all out gives takes full;
}

-- words from the first place on, as many as there are
pub fits_in : (a : PolicyArea) (size n : ℕ) → IsArea a → size ≡ n → a.base + n ≡ whole_end a → a.base ≡ 0 → WholeFits a size
fits_in a size n area e last first =
    let m = area.most in
    whole_fits a size area (omega (arith, e, last, first)) (omega (arith, e, last, first, m))

pub full_of : (slots policies all out : ℕ) (gives : ℕ → Type 0) → slots ≡ policies → IsFull policies all out gives → IsFull slots all out gives
full_of slots policies all out gives e full = subst (λ (n : ℕ). IsFull n all out gives) (sym e) full

pub is_begun : (a : PolicyArea) (words : List ℕ) (size n policies all out : ℕ) (gives takes : ℕ → Type 0) → IsArea a → words ≡ zeros n → size ≡ n → a.base + n ≡ whole_end a → a.base ≡ 0
    → a.slots ≡ policies → policies ≤ 4096 → IsFull policies all out gives → IsBeside a size words all out gives takes
is_begun a words size n policies all out gives takes area w e last first slots most full = record {
  fits = fits_in a size n area e last first;
  stood = subst (λ (i : List ℕ). Stood a i 0 all out gives takes) (sym w) (begun a n all out gives takes (omega (arith, slots, most)) (full_of a.slots policies all out gives slots full));
}
