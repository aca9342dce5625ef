-- The words of a plain line stand between the gaps of its front.
use Rattle.std.proofs.Common.{◌≡◌, ℕ, ◌+◌, ◌≤◌, Bool, true, false, ◌&&◌, ◌||◌, ◌⊎◌, inl, inr, refl, sym, ap, subst, ◌∙◌, arith, List, [], ◌∷◌, ◌++◌, append_assoc, append-nil, length, take, drop, Option, None, Some, Ok, nat_lt, eqb}
use Rattle.std.proofs.lemmas.Bool.Decides.{nat_tests}
use Rattle.xf_lex.specs.declared.quoting.Quoting.{Quoting}
use Rattle.xf_lex.specs.declared.quoting.Quoting.TheVariants.{Bare, Comment}
use Rattle.xf_lex.specs.Lexing.{Word, Lexed, close, closed, is_blank, keep, onto, bare_turn}
use Rattle.xf_lex.specs.Lines.{Scanned, scan_turn, scanned_from, words_of}
use Rattle.xf_lex.specs.Quotes.{counted, is_strange}
use Rattle.xf_bytes.specs.Runs.{is_mild, is_plain, mild_count}
use Rattle.xf_lex.specs.Plain.{is_gap, split_from, split, is_empty, is_end}
use Rattle.xf_lex.proofs.Splits.{one_more}

-- a scan that has met nothing strange, and where no backslash is kept apart
abbrev calm : Quoting → List Word → Option Word → ℕ → Scanned
calm m ws w n = record { lexed = record { quoting = m; words = ws; word = w }; length = n; strange = false; joined = false }

-- a word that is begun comes behind the others
closed_is : (ws : List Word) (w : Option Word) → closed ws w ≡ ws ++ closed [] w
closed_is ws None = sym (append-nil ws)
closed_is ws (Some w) = refl

-- a line that isn't long goes on
short : (n m : ℕ) → n + m ≤ 4096 → nat_lt 4096 n ≡ false
short n m le = grind (arith, nat_tests)

-- one byte is read
one : (s t : Scanned) (b : ℕ) (bs : List ℕ) → scan_turn s b ≡ t → nat_lt 4096 t.length ≡ false
    → scanned_from s (b ∷ bs) ≡ scanned_from t bs
one s t b bs e fits =
    rw (ap (λ (x : Scanned). nat_lt 4096 x.length) e ∙ fits) (ap (λ (x : Scanned). scanned_from x bs) e)

-- ---- the end of the words

-- in a comment a byte counts for one at most
comment_counts : (b : ℕ) → counted Comment b ≤ 1
comment_counts b = grind (arith, nat_tests)

-- a comment has no words
in_comment : (ws : List Word) (n : ℕ) (bytes : List ℕ) → n + length bytes ≤ 4096
    → scanned_from (calm Comment ws None n) bytes ≡ Ok ws
in_comment ws n [] fits = refl
in_comment ws n (b ∷ bs) fits =
    one (calm Comment ws None n) (calm Comment ws None (n + counted Comment b)) b bs refl
    (short (n + counted Comment b) (length bs) (omega (arith, fits, comment_counts b)))
    ∙ in_comment ws (n + counted Comment b) bs (omega (arith, fits, comment_counts b))

-- one of two tests holds
either : (x y : Bool) → (x || y) ≡ true → (x ≡ true) ⊎ (y ≡ true)
either true y e = inl refl
either false y e = inr e

-- both tests hold
both : (x y : Bool) → (x && y) ≡ true → (x ≡ true) × (y ≡ true)
both true y e = (refl, e)
both false y e = absurd cc

-- the number that a test is for
number_is : (b n : ℕ) → eqb b n ≡ true → b ≡ n
number_is b n e = grind (arith, nat_tests)

-- no byte is left
none_left : (bytes : List ℕ) → is_empty bytes ≡ true → bytes ≡ []
none_left [] e = refl
none_left (b ∷ bs) e = absurd cc

-- a comment follows
hash_ends : (ws : List Word) (w : Option Word) (n : ℕ) (bs : List ℕ) → n + length (35 ∷ bs) ≤ 4096
    → scanned_from (calm Bare ws w n) (35 ∷ bs) ≡ Ok (closed ws w)
hash_ends ws w n bs fits =
    one (calm Bare ws w n) (calm Comment (closed ws w) None (n + 1)) 35 bs refl (short (n + 1) (length bs) (omega (arith, fits)))
    ∙ in_comment (closed ws w) (n + 1) bs (omega (arith, fits))

-- the line's own line feed follows
feed_ends : (ws : List Word) (w : Option Word) (n : ℕ) → n + 1 ≤ 4096
    → scanned_from (calm Bare ws w n) (10 ∷ []) ≡ Ok (closed ws w)
feed_ends ws w n fits =
    one (calm Bare ws w n) (calm Bare (closed ws w) None (n + 0)) 10 [] refl (short (n + 0) 0 (omega (arith, fits)))

-- at the end of the words the last one is closed
at_end : (ws : List Word) (w : Option Word) (n : ℕ) (bytes : List ℕ) → is_end bytes ≡ true → n + length bytes ≤ 4096
    → scanned_from (calm Bare ws w n) bytes ≡ Ok (closed ws w)
at_end ws w n [] ends fits = refl
at_end ws w n (b ∷ bs) ends fits =
    elim (either (eqb b 35) (eqb b 10 && is_empty bs) ends) [
      | inl hash ↦
          let P : ℕ → Type 0 = λ x. scanned_from (calm Bare ws w n) (x ∷ bs) ≡ Ok (closed ws w) in
          subst P (sym (number_is b 35 hash)) (hash_ends ws w n bs fits)
      | inr feed ↦
          let parts = both (eqb b 10) (is_empty bs) feed in
          let P : ℕ → Type 0 = λ x. scanned_from (calm Bare ws w n) (x ∷ bs) ≡ Ok (closed ws w) in
          let Q : List ℕ → Type 0 = λ x. scanned_from (calm Bare ws w n) (10 ∷ x) ≡ Ok (closed ws w) in
          subst P (sym (number_is b 10 parts.0))
          (subst Q (sym (none_left bs parts.1)) (feed_ends ws w n (omega (arith, fits))))
    ]

-- ---- the bytes before it

-- a byte that parts words is a blank
gap_blank : (b : ℕ) → is_mild b ≡ true → is_gap b ≡ true → is_blank b ≡ true
gap_blank b mild gap = grind (arith, nat_tests)

-- any other goes on with its word
word_plain : (b : ℕ) → is_mild b ≡ true → is_gap b ≡ false → is_plain b ≡ true
word_plain b mild gap = grind (arith, nat_tests)

-- a blank that is no line feed counts for one
blank_counts : (b : ℕ) → is_blank b ≡ true → counted Bare b ≤ 1
blank_counts b is = grind (arith, nat_tests)

blank_stands : (b : ℕ) → is_blank b ≡ true → is_strange Bare b ≡ false
blank_stands b is = grind (arith, nat_tests)

blank_bare : (s : Lexed) (b : ℕ) → is_blank b ≡ true → bare_turn s b ≡ close s Bare
blank_bare s b is = rw is refl

-- a blank closes a word
blank_turn : (ws : List Word) (w : Option Word) (n b : ℕ) → is_blank b ≡ true
    → scan_turn (calm Bare ws w n) b ≡ calm Bare (closed ws w) None (n + counted Bare b)
blank_turn ws w n b is = λ i. record {
  lexed = blank_bare (record { quoting = Bare; words = ws; word = w }) b is i;
  length = n + counted Bare b;
  strange = blank_stands b is i;
  joined = false;
}

plain_counts : (b : ℕ) → is_plain b ≡ true → counted Bare b ≡ 1
plain_counts b is = grind (arith, nat_tests)

plain_stands : (b : ℕ) → is_plain b ≡ true → is_strange Bare b ≡ false
plain_stands b is = grind (arith, nat_tests)

plain_bare : (s : Lexed) (b : ℕ) → is_plain b ≡ true → bare_turn s b ≡ keep s Bare b
plain_bare s b is = grind (arith, nat_tests)

-- a byte of a word goes on with it
plain_turn : (ws : List Word) (w : Option Word) (n b : ℕ) → is_plain b ≡ true
    → scan_turn (calm Bare ws w n) b ≡ calm Bare ws (onto w b) (n + 1)
plain_turn ws w n b is = λ i. record {
  lexed = plain_bare (record { quoting = Bare; words = ws; word = w }) b is i;
  length = n + plain_counts b is i;
  strange = plain_stands b is i;
  joined = false;
}

-- from some words on, those of the line's front come behind them
front_split : (ws : List Word) (w : Option Word) (n : ℕ) (bytes : List ℕ) → is_end (drop (mild_count bytes) bytes) ≡ true
    → n + length bytes ≤ 4096 → scanned_from (calm Bare ws w n) bytes ≡ Ok (ws ++ split_from w (take (mild_count bytes) bytes))
front_split ws w n [] ends fits = ap Ok (closed_is ws w)
front_split ws w n (b ∷ bs) ends fits =
    let front : List ℕ = take (mild_count bs) bs in
    let Claim : Type 0 = scanned_from (calm Bare ws w n) (b ∷ bs) ≡ Ok (ws ++ split_from w (take (mild_count (b ∷ bs)) (b ∷ bs))) in
    let Inner : Type 0 = scanned_from (calm Bare ws w n) (b ∷ bs) ≡ Ok (ws ++ split_from w (b ∷ front)) in
    let inner : is_mild b ≡ true → is_end (drop (mild_count bs) bs) ≡ true → (t : Bool) → is_gap b ≡ t → Inner =
    λ mild more t. elim t as (λ t. is_gap b ≡ t → Inner) [
      | true ↦ λ is.
          let blank : is_blank b ≡ true = gap_blank b mild is in
          rw is
          (one (calm Bare ws w n) (calm Bare (closed ws w) None (n + counted Bare b)) b bs (blank_turn ws w n b blank)
          (short (n + counted Bare b) (length bs) (omega (arith, fits, blank_counts b blank)))
          ∙ front_split (closed ws w) None (n + counted Bare b) bs more (omega (arith, fits, blank_counts b blank))
          ∙ ap (λ (l : List Word). Ok (l ++ split_from None front)) (closed_is ws w)
          ∙ ap (λ (l : List Word). Ok l) (append_assoc ws (closed [] w) (split_from None front)))
      | false ↦ λ isnt.
          rw isnt
          (one (calm Bare ws w n) (calm Bare ws (onto w b) (n + 1)) b bs (plain_turn ws w n b (word_plain b mild isnt))
          (short (n + 1) (length bs) (omega (arith, fits)))
          ∙ front_split ws (onto w b) (n + 1) bs more (omega (arith, fits)))
    ]
    in
    let go : (t : Bool) → is_mild b ≡ t → Claim =
    λ t. elim t as (λ t. is_mild b ≡ t → Claim) [
      | true ↦ λ mild.
          let more : is_end (drop (mild_count bs) bs) ≡ true = rw (mild, one_more (mild_count bs)) at ends in
          rw (mild, one_more (mild_count bs)) (inner mild more (is_gap b) refl)
      | false ↦ λ isnt.
          let whole : is_end (b ∷ bs) ≡ true = rw isnt at ends in
          rw isnt (at_end ws w n (b ∷ bs) whole fits ∙ ap Ok (closed_is ws w))
    ]
    in go (is_mild b) refl

-- a plain line's words are those of its front
pub front_words : (bytes : List ℕ) → is_end (drop (mild_count bytes) bytes) ≡ true → length bytes ≤ 4096
    → words_of bytes ≡ Ok (split (take (mild_count bytes) bytes))
unfolding words_of
front_words bytes ends fits = front_split [] None 0 bytes ends (omega (arith, fits))
