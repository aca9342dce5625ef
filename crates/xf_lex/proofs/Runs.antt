-- Bytes that go on with a word may be taken together.
use Rattle.std.proofs.Common.{◌≡◌, ℕ, ◌+◌, ◌<◌, ◌≤◌, ◌==◌, Bool, true, false, ◌&&◌, ◌||◌, cond, refl, ap, ◌∙◌, arith, suc, zero, List, [], ◌∷◌, ◌++◌, append_assoc, length, take, drop, Option, None, Some, unwrap_or, nat_lt}
use Rattle.std.proofs.lemmas.Bool.Decides.{nat_tests}
use Rattle.xf_lex.specs.declared.quoting.Quoting.{Quoting}
use Rattle.xf_lex.specs.declared.quoting.Quoting.TheVariants.{Bare, Single, Double, Comment, BareSlash, SingleSlash, DoubleSlash}
use Rattle.xf_lex.specs.Lexing.{Word, Lexed, keep, onto, extended, turn, turn_at}
use Rattle.xf_lex.specs.Lines.{Scanned, scan_turn, run_turn, scanned_from}
use Rattle.xf_lex.specs.Quotes.{counted, is_slash, is_strange, run_count}
use Rattle.xf_bytes.specs.Runs.{is_mild, is_plain, mild_count, plain_count}

-- a byte that goes on with a word
onto_is : (w : Option Word) (b : ℕ) → onto w b ≡ Some (unwrap_or w [] ++ b ∷ [])
onto_is None b = refl
onto_is (Some w) b = refl

-- the byte goes on with its word, leaves what stands behind it as it is, counts for one, and may stand there
record IsKept (m : Quoting) (b : ℕ) : Type 0 where
  on : (s : Lexed) → turn_at s m b ≡ keep s m b
  one : counted m b ≡ 1
  stands : is_strange m b ≡ false
  whole : is_slash m ≡ false

plain_kept : (b : ℕ) → is_plain b ≡ true → IsKept Bare b
plain_kept b plain = record {
  on = λ s. grind (arith, nat_tests);
  one = grind (arith, nat_tests);
  stands = grind (arith, nat_tests);
  whole = refl;
}

single_kept : (b : ℕ) → is_mild b ≡ true → IsKept Single b
single_kept b mild = record {
  on = λ s. grind (arith, nat_tests);
  one = grind (arith, nat_tests);
  stands = grind (arith, nat_tests);
  whole = refl;
}

double_kept : (b : ℕ) → is_mild b ≡ true → IsKept Double b
double_kept b mild = record {
  on = λ s. grind (arith, nat_tests);
  one = grind (arith, nat_tests);
  stands = grind (arith, nat_tests);
  whole = refl;
}

-- the first byte passes the test by which a run is counted, and so many more are behind it
first_passes : (t : Bool) (k n : ℕ) → suc k ≤ cond t (1 + n) 0 → (t ≡ true) × (k ≤ n)
first_passes true k n low = (refl, omega (arith, low))
first_passes false k n low = absurd (omega (arith, low))

first_kept : (m : Quoting) (b : ℕ) (bs : List ℕ) (k : ℕ) → suc k ≤ run_count m (b ∷ bs) → IsKept m b × (k ≤ run_count m bs)
first_kept Bare b bs k low = let first = first_passes (is_plain b) k (plain_count bs) low in (plain_kept b first.0, first.1)
first_kept Single b bs k low = let first = first_passes (is_mild b) k (mild_count bs) low in (single_kept b first.0, first.1)
first_kept Double b bs k low = let first = first_passes (is_mild b) k (mild_count bs) low in (double_kept b first.0, first.1)
first_kept Comment b bs k low = absurd (omega (arith, low))
first_kept BareSlash b bs k low = absurd (omega (arith, low))
first_kept SingleSlash b bs k low = absurd (omega (arith, low))
first_kept DoubleSlash b bs k low = absurd (omega (arith, low))

run_count-nil : (m : Quoting) → run_count m [] ≡ 0
run_count-nil Bare = refl
run_count-nil Single = refl
run_count-nil Double = refl
run_count-nil Comment = refl
run_count-nil BareSlash = refl
run_count-nil SingleSlash = refl
run_count-nil DoubleSlash = refl

-- the words after such a byte
turned : (s : Lexed) (b : ℕ) → IsKept s.quoting b → turn s b ≡ extended s (b ∷ [])
turned s b kept = kept.on s ∙ (λ i. record { quoting = s.quoting; words = s.words; word = onto_is s.word b i })

-- a test that holds or doesn't
or_false : (x : Bool) → (x || false) ≡ x
or_false true = refl
or_false false = refl

-- one such byte
kept_turn : (s : Scanned) (b : ℕ) → IsKept s.lexed.quoting b → scan_turn s b ≡ run_turn s (b ∷ [])
kept_turn s b kept =
    let words : turn s.lexed b ≡ extended s.lexed (b ∷ []) = turned s.lexed b kept in
    let stands : (s.strange || is_strange s.lexed.quoting b) ≡ s.strange =
    ap (λ t. s.strange || t) kept.stands ∙ or_false s.strange in
    let joins : (is_slash s.lexed.quoting && (b == 10)) ≡ false = ap (λ t. t && (b == 10)) kept.whole in
    λ i. record { lexed = words i; length = s.length + kept.one i; strange = stands i; joined = joins i }

-- a byte and then more
run_more : (s : Scanned) (b : ℕ) (run : List ℕ) → run_turn (run_turn s (b ∷ [])) run ≡ run_turn s (b ∷ run)
run_more s b run =
    let word : ((unwrap_or s.lexed.word [] ++ b ∷ []) ++ run) ≡ (unwrap_or s.lexed.word [] ++ b ∷ run) =
    append_assoc (unwrap_or s.lexed.word []) (b ∷ []) run in
    let count : (s.length + length (b ∷ [])) + length run ≡ s.length + length (b ∷ run) = omega arith in
    λ i. record {
      lexed = record { quoting = s.lexed.quoting; words = s.lexed.words; word = Some (word i) };
      length = count i;
      strange = s.strange;
      joined = false;
    }

-- a line that isn't long goes on
goes_on : (n : ℕ) → n ≤ 4096 → nat_lt 4096 n ≡ false
goes_on n le = grind (arith, nat_tests)

-- one such byte is read
one_taken : (s : Scanned) (b : ℕ) (bs : List ℕ) → IsKept s.lexed.quoting b → s.length + 1 ≤ 4096
    → scanned_from s (b ∷ bs) ≡ scanned_from (run_turn s (b ∷ [])) bs
one_taken s b bs kept room =
    let e : scan_turn s b ≡ run_turn s (b ∷ []) = kept_turn s b kept in
    let count : (scan_turn s b).length ≡ s.length + length (b ∷ []) = ap (λ (x : Scanned). x.length) e in
    let short : (scan_turn s b).length ≤ 4096 = omega (arith, count, room) in
    rw (goes_on (scan_turn s b).length short) (ap (λ (x : Scanned). scanned_from x bs) e)

-- a run is taken as its bytes are, one after another
pub run_taken : (s : Scanned) (bytes : List ℕ) (n : ℕ) → n ≤ run_count s.lexed.quoting bytes → 0 < n → s.length + n ≤ 4096
    → scanned_from s bytes ≡ scanned_from (run_turn s (take n bytes)) (drop n bytes)
run_taken s [] n few some room = absurd (omega (arith, few, some, run_count-nil s.lexed.quoting))
run_taken s (b ∷ bs) zero few some room = absurd (omega (arith, some))
run_taken s (b ∷ bs) (suc zero) few some room =
    one_taken s b bs (first_kept s.lexed.quoting b bs 0 few).0 (omega (arith, room))
run_taken s (b ∷ bs) (suc (suc m)) few some room =
    let first = first_kept s.lexed.quoting b bs (suc m) few in
    one_taken s b bs first.0 (omega (arith, room))
    ∙ run_taken (run_turn s (b ∷ [])) bs (suc m) first.1 (omega arith) (omega (arith, room))
    ∙ ap (λ (x : Scanned). scanned_from x (drop (suc m) bs)) (run_more s b (take (suc m) bs))
