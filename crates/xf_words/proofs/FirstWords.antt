-- The first word: clap's turn there.
use Rattle.std.proofs.Common.{◌≡◌, ◌∙◌, ◌&&◌, if◌then◌else◌, Bool, cond, true, false, refl, sym, ap, List, [], ◌∷◌, Some, None, option_map, codes}
use Rattle.std.specs.List.{find}
use Rattle.std.specs.Str.{bytes_eq}
use Rattle.clap.specs.Lexer.{long_of}
use Rattle.clap.specs.Walk.{Held, Step, Text, Walk, after_step, idle, long_or_other, nothing_held, plain_word, short_or_plain, subcommand_met, subcommand_or_other, trailing, walk_from, walked, word_met}
use Rattle.clap.specs.Kinds.{or_else}
use Rattle.clap.specs.Faults.{flag_word_fault, other_fault, step_fault, turn_fault}
use Rattle.clap.specs.declared.error.kind.ErrorKind.TheVariants as kind
use Rattle.xf_words.specs.Commands.{CommandRow, is_called}
use Rattle.xf_words.specs.Applications.{is_stray, top_built}
use Rattle.xf_words.proofs.KindLemmas.{first_none, second_none}
use Rattle.xf_words.proofs.Looks.{Look, dashed, look, plain}
use Rattle.xf_words.proofs.Names.{find-names, label, names}

-- before the first word
abbrev pub begin : Walk
begin = walk_from nothing_held

module _ (rows : List CommandRow) where
  none_met : (word : Text) → find (is_called word) rows ≡ None → subcommand_met (names rows) idle word ≡ None
  none_met word e = ap (option_map (λ (s : Text × List Text). s.0)) (find-names rows word ∙ ap (option_map label) e)

  some_met : (word : Text) (c : CommandRow) → find (is_called word) rows ≡ Some c → subcommand_met (names rows) idle word ≡ Some c.name
  some_met word c e = ap (option_map (λ (s : Text × List Text). s.0)) (find-names rows word ∙ ap (option_map label) e)

  -- a word that names no command is refused
  pub first_refused : (word : Text) → find (is_called word) rows ≡ None → is_stray word ≡ false → turn_fault top_built (names rows) begin word ≡ [] → ⊥
  first_refused word none stray = go (look word stray)
    where
      go : Look word → turn_fault top_built (names rows) begin word ≡ [] → ⊥
      go (dashed text d) e =
          let f : kind.UnknownArgument ∷ [] ≡ [] =
          ap (λ o. flag_word_fault [] false o word nothing_held) (sym d.long)
          ∙ ap (λ b. cond b [] (flag_word_fault [] false (long_of word) word nothing_held)) (sym d.ends)
          ∙ ap (λ o. other_fault top_built o word nothing_held) (sym (none_met word none))
          ∙ first_none (other_fault top_built (subcommand_met (names rows) idle word) word nothing_held) _ e in
          cc
      go (plain p) e =
          let met : word_met [] (names rows) false idle 1 word nothing_held ≡ plain_word [] idle word nothing_held =
          ap (λ o. subcommand_or_other [] o idle 1 word nothing_held) (none_met word none)
          ∙ ap (λ b. cond b (nothing_held, trailing 1) (long_or_other [] idle word (long_of word) nothing_held)) p.ends
          ∙ ap (λ o. long_or_other [] idle word o nothing_held) p.long
          ∙ ap (λ o. short_or_plain [] idle word o nothing_held) p.short in
          let f : kind.UnknownArgument ∷ kind.InvalidSubcommand ∷ [] ≡ [] =
          ap (λ (m : Held × Step). step_fault top_built 1 m.0 m.1) (sym met)
          ∙ second_none (other_fault top_built (subcommand_met (names rows) idle word) word nothing_held) _ e in
          cc

  -- a command's name is taken, and the walk stops there
  pub first_taken : (word : Text) (c : CommandRow) → find (is_called word) rows ≡ Some c → turn_fault top_built (names rows) begin word ≡ []
  first_taken word c e =
      ap (λ o. or_else (other_fault top_built o word nothing_held)
      (step_fault top_built 1 (subcommand_or_other [] o idle 1 word nothing_held).0 (subcommand_or_other [] o idle 1 word nothing_held).1)) (some_met word c e)
      ∙ go (bytes_eq c.name (codes "help"))
    where
      go : (b : Bool) → or_else (if b && false then kind.DisplayHelp ∷ kind.InvalidSubcommand ∷ [] else []) [] ≡ []
      go true = refl
      go false = refl

  pub first_walked : (word : Text) (c : CommandRow) → find (is_called word) rows ≡ Some c
      → ◌≡◌ {A = Walk} (walked [] (names rows) begin word) (record begin { stopped = Some (c.name, []) })
  unfolding walked
  first_walked word c e =
      ap (λ o. after_step [] word begin (subcommand_or_other [] o idle 1 word nothing_held).0 (subcommand_or_other [] o idle 1 word nothing_held).1)
      (some_met word c e)
