-- What a word looks like that some command may have, to the definition and to clap.
use Rattle.std.proofs.Common.{◌≡◌, ◌==◌, Bool, true, false, refl, [], ◌∷◌, Some, None, true≢false}
use Rattle.std.specs.Str.{bytes_eq}
use Rattle.clap.specs.Lexer.{long_of, short_of}
use Rattle.xf_words.specs.Numbers.{Word}
use Rattle.xf_words.specs.Uses.{begins_with_hyphen, option_text, name_in, value_in}
use Rattle.xf_words.specs.Applications.{is_stray}

-- no hyphen is in front
pub record IsPlain (w : Word) : Type 0 where
  pub hyphen : begins_with_hyphen w ≡ false
  pub text : option_text w ≡ None
  pub long : long_of w ≡ None
  pub short : short_of w ≡ None
  pub ends : bytes_eq w (45 ∷ 45 ∷ []) ≡ false

-- it is `--text`
pub record IsDashed (w text : Word) : Type 0 where
  pub hyphen : begins_with_hyphen w ≡ true
  pub text_is : option_text w ≡ Some text
  pub long : long_of w ≡ Some (name_in text, value_in text)
  pub ends : bytes_eq w (45 ∷ 45 ∷ []) ≡ false

pub data Look (w : Word) : Type 0 where
  plain : IsPlain w → Look w
  dashed : (text : Word) → IsDashed w text → Look w

-- a word that isn't stray is one or the other
pub look : (w : Word) → is_stray w ≡ false → Look w
look [] e = plain (record { hyphen = refl; text = refl; long = refl; short = refl; ends = refl })
look (c ∷ []) e = go (c == 45) refl
  where
    go : (b : Bool) → (c == 45) ≡ b → Look (c ∷ [])
    go true t = absurd (true≢false (rw t at e))
    go false t = plain (record { hyphen = rw t refl; text = rw t refl; long = rw t refl; short = rw t refl; ends = rw t refl })
look (c ∷ d ∷ cs) e = go (c == 45) (d == 45) cs refl refl e
  where
    go : (a b : Bool) (cs : Word) → (c == 45) ≡ a → (d == 45) ≡ b → is_stray (c ∷ d ∷ cs) ≡ false → Look (c ∷ d ∷ cs)
    go false b cs t u e =
        plain (record { hyphen = rw t refl; text = rw t refl; long = rw t refl; short = rw t refl; ends = rw t refl })
    go true false cs t u e = absurd (true≢false (rw (t, u) at e))
    go true true [] t u e = absurd (true≢false (rw (t, u) at e))
    go true true (x ∷ xs) t u e =
        dashed (x ∷ xs) (record { hyphen = rw t refl; text_is = rw (t, u) refl; long = rw (t, u) refl; ends = rw (t, u) refl })
