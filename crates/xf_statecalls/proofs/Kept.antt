-- Loads of cells leave their words.
use Rattle.std.proofs.Common.{◌≡◌, ℕ, List, subst}
use Rattle.xf_cells.specs.Words.{Narrows}

-- the words from before agree after loads
pub answer_kept : (before now : List ℕ → Type 0) (words last : List ℕ) → Narrows before now → ((image : List ℕ) → before image → image ≡ words) → now last → now words
answer_kept before now words last among only h = subst (λ (w : List ℕ). now w) (only last (among.among last h)) h
