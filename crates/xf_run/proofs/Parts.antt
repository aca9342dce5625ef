-- What stands of a text that is written piece by piece.
use Rattle.std.proofs.Common.{◌≡◌, ℕ, List, ◌++◌, take, drop, sym, ap, ◌∙◌, append_assoc, take-append-drop}
use Rattle.std.specs.Prelude.{Option}
use Rattle.std.specs.Io.KnownBytes.{Appends}
use Rattle.std.proofs.KnownBytes.{Appends-trans}
use Rattle.xf_run.specs.Outcome.{PartOf}

-- a piece and what follows it are what was left
rest_of : (n : ℕ) (rest line after : List ℕ) → line ≡ take n rest → after ≡ drop n rest → line ++ after ≡ rest
rest_of n rest line after l a =
    ap (λ (x : List ℕ). x ++ after) l ∙ (ap (λ (x : List ℕ). take n rest ++ x) a ∙ take-append-drop n rest)

-- the next piece is written
pub piece_more : (n : ℕ) (whole front rest line after : List ℕ) → front ++ rest ≡ whole → line ≡ take n rest
    → after ≡ drop n rest → (front ++ line) ++ after ≡ whole
piece_more n whole front rest line after e l a =
    append_assoc front line after ∙ (ap (λ (x : List ℕ). front ++ x) (rest_of n rest line after l a) ∙ e)

-- a part of the next piece is written
pub PartOf-piece : (n : ℕ) (whole front rest line after : List ℕ) (old mid new : Option (List ℕ)) → front ++ rest ≡ whole
    → line ≡ take n rest → after ≡ drop n rest → Appends old mid front → PartOf line mid new → PartOf whole old new
PartOf-piece n whole front rest line after old mid new e l a text part = record {
  front = front ++ part.front;
  more = part.more ++ after;
  is_front =
      append_assoc front part.front (part.more ++ after)
      ∙ (ap (λ (x : List ℕ). front ++ x)
      (sym (append_assoc part.front part.more after)
      ∙ (ap (λ (x : List ℕ). x ++ after) part.is_front ∙ rest_of n rest line after l a))
      ∙ e);
  text = Appends-trans old mid new front part.front text part.text;
}
