-- Words among which one is stray are no command.
use Rattle.std.proofs.Common.{◌≡◌, ◌∙◌, ◌||◌, not, Bool, cond, true, false, refl, sym, ap, List, [], ◌∷◌, Option, Some, None, is_some, true≢false}
use Rattle.std.specs.Prelude.{option_and_then}
use Rattle.std.specs.List.{find, list_any, list_all}
use Rattle.clap.specs.Walk.{Text}
use Rattle.clap.proofs.WalkLemmas.{both}
use Rattle.xf_words.specs.Uses.{OptionRow, UsesSoFar, after_text, after_word, after_word_by, no_uses, one_more, option_text, uses_from, uses_of, with_required}
use Rattle.xf_words.specs.Commands.{CommandRow, chosen_by, chosen_of, is_called, with_uses}
use Rattle.xf_words.specs.Applications.{is_stray}
use Rattle.xf_words.proofs.KindLemmas.{second_true}
use Rattle.xf_words.proofs.Names.{found_named}

no_text : (o : Option Text) → not (is_some o) ≡ true → o ≡ None
no_text None e = refl
no_text (Some x) e = absurd (true≢false (sym e))

after_stray : (options : List OptionRow) (s : UsesSoFar) (word : Text) → is_stray word ≡ true → after_word options s word ≡ None
after_stray options s word e = go s.waiting
  where
    go : (waiting : Option OptionRow) → after_word_by options s.uses waiting word ≡ None
    go None = ap (after_text options s.uses) (no_text (option_text word) (both _ _ e).1)
    go (Some o) = ap (λ b. cond b None (one_more s.uses o word)) (both _ _ e).0

stray_uses : (options : List OptionRow) (s : UsesSoFar) (words : List Text) → list_any is_stray words ≡ true → uses_from options s words ≡ None
stray_uses options s [] e = absurd (true≢false (sym e))
stray_uses options s (word ∷ rest) e = go (is_stray word) refl e (λ t. stray_uses options t rest)
  where
    go : (b : Bool) → is_stray word ≡ b → (b || list_any is_stray rest) ≡ true
        → ((t : UsesSoFar) → list_any is_stray rest ≡ true → uses_from options t rest ≡ None)
        → uses_from options s (word ∷ rest) ≡ None
    go true t f more = ap (option_and_then (λ u. uses_from options u rest)) (after_stray options s word t)
    go false t f more = after (after_word options s word) (λ u. more u f)
      where
        after : (o : Option UsesSoFar) → ((u : UsesSoFar) → uses_from options u rest ≡ None) → option_and_then (λ u. uses_from options u rest) o ≡ None
        after None h = refl
        after (Some u) h = h u

stray_refused : (options : List OptionRow) (words : List Text) → list_any is_stray words ≡ true → uses_of options words ≡ None
stray_refused options words e = ap (option_and_then (with_required options)) (stray_uses options no_uses words e)

pub stray_chosen : (rows : List CommandRow) (words : List Text) → list_all (λ c. not (is_stray c.name)) rows ≡ true
    → list_any is_stray words ≡ true → chosen_of rows words ≡ None
stray_chosen rows [] names e = absurd (true≢false (sym e))
stray_chosen rows (word ∷ rest) names e = go (find (is_called word) rows) refl
  where
    go : (o : Option CommandRow) → find (is_called word) rows ≡ o → chosen_by o rest ≡ None
    go None f = refl
    go (Some c) f =
        let named = found_named word rows c f in
        ap (with_uses c) (stray_refused c.options rest (second_true _ _ e (ap is_stray (sym named.name) ∙ named.no_stray names)))
