-- The whole parse of all words.
use Rattle.std.proofs.Common.{◌≡◌, ◌∙◌, if◌then◌else◌, drop, true, false, refl, sym, ap, ap₂, subst, List, [], ◌∷◌, map, Option, Some, None, is_some, option_map}
use Rattle.std.specs.List.{find, fold, list_any}
use Rattle.std.specs.Option.{option_map_or}
use Rattle.clap.specs.Walk.{Row, Text, Walk, answers_to, finished, nothing_held, rows_after, settled, stop_after, walk, walked}
use Rattle.clap.specs.Simple.{App, Shape, argument_words, entered, label_of, names_of, rows_at, subcommand_of}
use Rattle.clap.specs.Kinds.{Kinds, or_else}
use Rattle.clap.specs.Faults.{built_fault, check_fault, defaults_fault, entered_fault, fault_of, level_fault, settle_fault, turn_fault, walk_fault}
use Rattle.clap.proofs.FaultLemmas.{stopped_fault}
use Rattle.clap.proofs.WalkLemmas.{walk_stopped}
use Rattle.clap.specs.declared.error.kind.ErrorKind.TheVariants as kind
use Rattle.xf_words.specs.Uses.{Use, uses_of}
use Rattle.xf_words.specs.Commands.{CommandRow, chosen_by, chosen_of, is_called, with_uses}
use Rattle.xf_words.specs.Applications.{HasCommands, app_built, entries_of, is_stray, rule_built, shape_built, top_built}
use Rattle.xf_words.proofs.KindLemmas.{both_none, first_false, first_none, or_else-nil, second_false}
use Rattle.xf_words.proofs.Levels as level
use Rattle.xf_words.proofs.Names.{called_again, find-shapes, names}
use Rattle.xf_words.proofs.FirstWords.{begin, first_refused, first_taken, first_walked}

-- clap refuses the words exactly where they choose no command, and else has its name and the entries of the uses
abbrev pub Outcome : Option (CommandRow × List Use) → Kinds → Option (Text × List Row) → Type 0
Outcome None fault found = fault ≡ [] → ⊥
Outcome (Some p) fault found = (fault ≡ []) × (found ≡ Some (p.0.name, entries_of p.0.options p.1))

module _ (rows : List CommandRow) where
  abbrev app : App
  app = app_built rows

  -- the fault of a parse, by where its walk ended and that walk's fault
  abbrev fault_at : Walk → Kinds → Kinds
  fault_at w fault =
      or_else fault (or_else (entered_fault app w.stopped) (or_else (settle_fault [] false w.held)
      (or_else (defaults_fault (settled [] w.held).rows []) (check_fault top_built (finished [] w.held) (is_some (entered app w.stopped))))))

  no_words : built_fault app nothing_held [] ≡ [] → ⊥
  unfolding walk_fault defaults_fault
  no_words e = let f : kind.MissingSubcommand ∷ [] ≡ [] = e in cc

  no_command : (word : Text) (rest : List Text) → find (is_called word) rows ≡ None → is_stray word ≡ false
      → built_fault app nothing_held (word ∷ rest) ≡ [] → ⊥
  unfolding walk_fault
  no_command word rest none stray e =
      first_refused rows word none stray
      (first_none (turn_fault top_built (names rows) begin word) (walk_fault top_built (names rows) (walked [] (names rows) begin word) rest)
      (first_none (walk_fault top_built (names rows) begin (word ∷ rest)) _ e))

  -- ---- the first word names a command

  shape_found : (word : Text) (c : CommandRow) → find (is_called word) rows ≡ Some c
      → find (λ s. answers_to c.name (label_of s)) app.subs ≡ Some (shape_built c)
  shape_found word c e = find-shapes c.name rows ∙ ap (option_map shape_built) (called_again rows word c e)

  entered_is : (word : Text) (rest : List Text) (c : CommandRow) → find (is_called word) rows ≡ Some c
      → entered app (Some (c.name, rest)) ≡ Some (rows_at (shape_built c) rest)
  entered_is word rest c e = ap (option_map (λ (s : Shape). rows_at s rest)) (shape_found word c e)

  level_is : (word : Text) (rest : List Text) (c : CommandRow) → find (is_called word) rows ≡ Some c
      → entered_fault app (Some (c.name, rest)) ≡ level_fault (shape_built c) [] nothing_held rest false []
  level_is word rest c e = ap (λ o. option_map_or (λ (s : Shape). level_fault s [] nothing_held rest false []) o []) (shape_found word c e)

  walk_is : (word : Text) (rest : List Text) (c : CommandRow) → find (is_called word) rows ≡ Some c
      → ◌≡◌ {A = Walk} (walk [] (names rows) nothing_held (word ∷ rest)) (record begin { stopped = Some (c.name, rest) })
  walk_is word rest c e =
      ap (λ (w : Walk). fold (walked [] (names rows)) w rest) (first_walked rows word c e)
      ∙ sym (walk_stopped [] (names rows) begin c.name [] rest)

  walk_passes : (word : Text) (rest : List Text) (c : CommandRow) → find (is_called word) rows ≡ Some c
      → walk_fault top_built (names rows) begin (word ∷ rest) ≡ []
  unfolding walk_fault
  walk_passes word rest c e =
      both_none _ _ (first_taken rows word c e)
      (ap (λ (w : Walk). walk_fault top_built (names rows) w rest) (first_walked rows word c e)
      ∙ stopped_fault top_built (names rows) begin (c.name, []) rest)

  no_other_fault : (below : Kinds) → or_else below (or_else (defaults_fault [] []) (check_fault top_built [] true)) ≡ below
  unfolding defaults_fault
  no_other_fault below = or_else-nil below

  -- the fault is that of the words after it
  fault_is : (word : Text) (rest : List Text) (c : CommandRow) → find (is_called word) rows ≡ Some c
      → built_fault app nothing_held (word ∷ rest) ≡ level_fault (shape_built c) [] nothing_held rest false []
  fault_is word rest c e =
      ap₂ fault_at (walk_is word rest c e) (walk_passes word rest c e)
      ∙ ap (λ o. or_else (entered_fault app (Some (c.name, rest))) (or_else (defaults_fault [] []) (check_fault top_built [] (is_some o)))) (entered_is word rest c e)
      ∙ no_other_fault (entered_fault app (Some (c.name, rest)))
      ∙ level_is word rest c e

  found_is : (word : Text) (rest : List Text) (c : CommandRow) → find (is_called word) rows ≡ Some c
      → entered app (stop_after [] (names rows) (word ∷ rest)) ≡ Some (c.name, rows_after (map rule_built c.options) [] rest)
  found_is word rest c e = ap (λ (w : Walk). entered app w.stopped) (walk_is word rest c e) ∙ entered_is word rest c e

  -- ---- all words

  outcome_built : (words : List Text) → list_any is_stray words ≡ false
      → Outcome (chosen_of rows words) (built_fault app nothing_held words) (entered app (stop_after [] (names rows) words))
  outcome_built [] stray = no_words
  outcome_built (word ∷ rest) stray = go (find (is_called word) rows) refl
    where
      used : (c : CommandRow) → find (is_called word) rows ≡ Some c → (o : Option (List Use))
          → level.Outcome c.options o (level_fault (shape_built c) [] nothing_held rest false []) (rows_after (map rule_built c.options) [] rest)
          → Outcome (with_uses c o) (built_fault app nothing_held (word ∷ rest)) (entered app (stop_after [] (names rows) (word ∷ rest)))
      used c e None out = λ f. out (sym (fault_is word rest c e) ∙ f)
      used c e (Some uses) out = (fault_is word rest c e ∙ out.0, found_is word rest c e ∙ ap (λ entries. Some (c.name, entries)) out.1)

      go : (o : Option CommandRow) → find (is_called word) rows ≡ o
          → Outcome (chosen_by o rest) (built_fault app nothing_held (word ∷ rest)) (entered app (stop_after [] (names rows) (word ∷ rest)))
      go None e = λ f. no_command word rest e (first_false _ _ stray) f
      go (Some c) e = used c e (uses_of c.options rest) (level.outcome c.name c.options rest (second_false _ _ stray))

pub outcome : (rows : List CommandRow) (a : App) (words : List Text) → HasCommands rows a → list_any is_stray words ≡ false
    → Outcome (chosen_of rows words) (fault_of a words) (subcommand_of a words)
outcome rows a words h stray =
    let fault : fault_of a words ≡ built_fault (app_built rows) nothing_held words =
    ap (λ b. built_fault b nothing_held (argument_words a words)) h.is_built
    ∙ ap (λ b. built_fault (app_built rows) nothing_held (if b then words else drop 1 words)) h.no_name in
    let found : subcommand_of a words ≡ entered (app_built rows) (stop_after [] (names rows) words) =
    ap (λ (b : App). entered b (stop_after b.top.rules (names_of b) (argument_words a words))) h.is_built
    ∙ ap (λ b. entered (app_built rows) (stop_after [] (names rows) (if b then words else drop 1 words))) h.no_name in
    subst (λ f. Outcome (chosen_of rows words) f (subcommand_of a words)) (sym fault)
    (subst (Outcome (chosen_of rows words) (built_fault (app_built rows) nothing_held words)) (sym found) (outcome_built rows words stray))
