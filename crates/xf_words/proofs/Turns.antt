-- clap's turn at one word, where a command's options are met.
use Rattle.std.proofs.Common.{◌≡◌, ◌∙◌, Bool, cond, true, false, refl, sym, ap, List, [], ◌∷◌, map, Option, Some, None, option_map, codes}
use Rattle.std.specs.List.{find, fold}
use Rattle.std.specs.Option.{option_map_or}
use Rattle.clap.specs.Lexer.{long_of}
use Rattle.clap.specs.Walk.{Held, Row, Rule, Step, Text, Waiting, Walk, after_flag, idle, long_met, long_or_other, option, plain_word, positional, settled, short_or_plain, subcommand_met, subcommand_or_other, trailing, walked, word_met, value as positional_value}
use Rattle.clap.specs.Simple.{Shape}
use Rattle.clap.specs.Kinds.{Kinds, or_else}
use Rattle.clap.specs.Faults.{bundle_fault, flag_word_fault, long_fault, other_fault, positional_fault, settle_fault, step_fault, stray_fault, turn_fault, walk_fault, word_fault}
use Rattle.clap.specs.declared.error.kind.ErrorKind.TheVariants as kind
use Rattle.xf_words.specs.Numbers.{Word}
use Rattle.xf_words.specs.Uses.{OptionRow, is_named, name_in, value_in}
use Rattle.xf_words.specs.Applications.{level_built, rule_built}
use Rattle.xf_words.proofs.KindLemmas.{first_none, or_else-assoc, second_none}
use Rattle.xf_words.proofs.Looks.{IsDashed, IsPlain}
use Rattle.xf_words.proofs.OptionLemmas.{arg_by_index-options, arg_by_long-options}

module _ (options : List OptionRow) where
  abbrev pub rules : List Rule
  rules = map rule_built options

  -- the walk looks at the rules of a command, and not at its name
  abbrev pub shape : Shape
  shape = level_built (codes "xfrm") options

  -- what clap holds between two words; the last use is settled late, at the next word or the end
  abbrev pub held : List Row → Option (Text × List Text) → Held
  held rows pending = record { rows = rows; pending = pending; skip = 0 }

  abbrev pub at : List Row → Option (Text × List Text) → Waiting → Walk
  at rows pending waiting = record { held = held rows pending; waiting = waiting; position = 1; is_trailing = false; stopped = None }

  -- the fault of a walk over these words, or of the use that is pending after it
  abbrev pub fault_from : Walk → List Text → Kinds
  fault_from w words =
      or_else (walk_fault shape [] w words) (settle_fault rules false (fold (walked rules []) w words).held)

  -- the entries after these words
  abbrev pub rows_from : Walk → List Text → List Row
  rows_from w words = (settled rules (fold (walked rules []) w words).held).rows

  pub fault_from-word : (w : Walk) (word : Text) (rest : List Text)
      → fault_from w (word ∷ rest) ≡ or_else (turn_fault shape [] w word) (fault_from (walked rules [] w word) rest)
  unfolding walk_fault
  fault_from-word w word rest =
      or_else-assoc (turn_fault shape [] w word) (walk_fault shape [] (walked rules [] w word) rest)
      (settle_fault rules false (fold (walked rules []) (walked rules [] w word) rest).held)

  no_command : (waiting : Waiting) (word : Text) → subcommand_met [] waiting word ≡ None
  no_command idle word = refl
  no_command (option id) word = refl
  no_command positional word = refl

  -- ---- a word `--text`

  abbrev pub option_of : Word → Option OptionRow
  option_of text = find (is_named (name_in text)) options

  abbrev pub met_of : Option OptionRow → Option Word → Held → Waiting → Word → Held × Step
  met_of found value h waiting word =
      after_flag rules waiting word (long_met rules (option_map rule_built found) value h).0 (long_met rules (option_map rule_built found) value h).1

  pub word_fault-dashed : (h : Held) (waiting : Waiting) (word text : Word) → IsDashed word text
      → word_fault shape [] false waiting word h ≡ long_fault rules false (option_map rule_built (option_of text)) (value_in text) h
  word_fault-dashed h waiting word text d =
      ap (λ o. other_fault shape o word h) (no_command waiting word)
      ∙ ap (λ b. cond b [] (flag_word_fault rules false (long_of word) word h)) d.ends
      ∙ ap (λ o. flag_word_fault rules false o word h) d.long
      ∙ ap (λ o. long_fault rules false o (value_in text) h) (arg_by_long-options (name_in text) options)

  pub word_met-dashed : (h : Held) (waiting : Waiting) (word text : Word) → IsDashed word text
      → word_met rules [] false waiting 1 word h ≡ met_of (option_of text) (value_in text) h waiting word
  word_met-dashed h waiting word text d =
      ap (λ o. subcommand_or_other rules o waiting 1 word h) (no_command waiting word)
      ∙ ap (λ b. cond b (h, trailing 1) (long_or_other rules waiting word (long_of word) h)) d.ends
      ∙ ap (λ o. long_or_other rules waiting word o h) d.long
      ∙ ap (λ o. after_flag rules waiting word (long_met rules o (value_in text) h).0 (long_met rules o (value_in text) h).1)
      (arg_by_long-options (name_in text) options)

  -- a pending use that fails is found out there
  long_fault-settles : (h : Held) (found : Option OptionRow) (value : Option Text) → (settle_fault rules false h ≡ [] → ⊥)
      → long_fault rules false (option_map rule_built found) value h ≡ [] → ⊥
  long_fault-settles h None value bad = λ e. cc
  long_fault-settles h (Some o) value bad = go o.has_value refl value
    where
      go : (b : Bool) → o.has_value ≡ b → (value : Option Text) → long_fault rules false (Some (rule_built o)) value h ≡ [] → ⊥
      go true t (Some v) e = bad (first_none _ _ (rw t at e))
      go true t None e = bad (rw t at e)
      go false t (Some v) e = let f : kind.TooManyValues ∷ [] ≡ [] = rw t at e in cc
      go false t None e = bad (first_none _ _ (rw t at e))

  pub dashed_settles : (rows : List Row) (pending : Option (Text × List Text)) (waiting : Waiting) (word text : Text)
      → IsDashed word text → (settle_fault rules false (held rows pending) ≡ [] → ⊥)
      → turn_fault shape [] (at rows pending waiting) word ≡ [] → ⊥
  dashed_settles rows pending waiting word text d bad e =
      long_fault-settles (held rows pending) (option_of text) (value_in text) bad
      (sym (word_fault-dashed (held rows pending) waiting word text d) ∙ first_none _ _ e)

  -- ---- a word with no hyphen in front

  pub word_fault-plain : (h : Held) (waiting : Waiting) (word : Word) → IsPlain word → word_fault shape [] false waiting word h ≡ []
  word_fault-plain h waiting word p =
      ap (λ o. other_fault shape o word h) (no_command waiting word)
      ∙ ap (λ b. cond b [] (flag_word_fault rules false (long_of word) word h)) p.ends
      ∙ ap (λ o. flag_word_fault rules false o word h) p.long
      ∙ ap (λ o. option_map_or (λ flags. bundle_fault rules false flags h) o []) p.short

  pub word_met-plain : (h : Held) (waiting : Waiting) (word : Word) → IsPlain word
      → word_met rules [] false waiting 1 word h ≡ plain_word rules waiting word h
  word_met-plain h waiting word p =
      ap (λ o. subcommand_or_other rules o waiting 1 word h) (no_command waiting word)
      ∙ ap (λ b. cond b (h, trailing 1) (long_or_other rules waiting word (long_of word) h)) p.ends
      ∙ ap (λ o. long_or_other rules waiting word o h) p.long
      ∙ ap (λ o. short_or_plain rules waiting word o h) p.short

  -- it is refused where no value is waited for
  pub plain_refused : (rows : List Row) (pending : Option (Text × List Text)) (word : Text) → IsPlain word
      → turn_fault shape [] (at rows pending idle) word ≡ [] → ⊥
  plain_refused rows pending word p e =
      let h = held rows pending in
      let met = word_met rules [] false idle 1 word h in
      let step : step_fault shape 1 h positional_value ≡ [] =
      ap (λ (m : Held × Step). step_fault shape 1 m.0 m.1) (sym (word_met-plain h idle word p))
      ∙ second_none (word_fault shape [] false idle word h) (step_fault shape 1 met.0 met.1) e in
      let f : kind.UnknownArgument ∷ [] ≡ [] =
      ap (λ o. option_map_or (λ a. positional_fault rules false a h) o (stray_fault shape)) (sym (arg_by_index-options options)) ∙ step in
      cc
