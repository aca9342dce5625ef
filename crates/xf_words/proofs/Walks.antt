-- clap's walk over the words after a command, beside the definition's.
use Rattle.std.proofs.Common.{◌≡◌, ◌∙◌, false, sym, ap, subst, List, [], ◌∷◌, map, Option, Some, None}
use Rattle.std.specs.Prelude.{option_and_then}
use Rattle.std.specs.List.{list_any}
use Rattle.clap.specs.Walk.{Row, Text, Walk, idle, settled, walked}
use Rattle.clap.specs.Kinds.{Kinds, or_else}
use Rattle.clap.specs.Faults.{settle_fault, turn_fault, walk_fault}
use Rattle.xf_words.specs.Uses.{OptionRow, Use, UsesSoFar, after_word, after_word_by, ended, uses_from}
use Rattle.xf_words.specs.Applications.{entry_of, is_stray}
use Rattle.xf_words.proofs.KindLemmas.{first_false, first_none, second_false, second_none}
use Rattle.xf_words.proofs.Looks.{Look, dashed, look, plain}
use Rattle.xf_words.proofs.Turns.{at, dashed_settles, fault_from, fault_from-word, plain_refused, rows_from, rules, shape}
use Rattle.xf_words.proofs.UseSteps.{Follows, IsFailing, Steps, idle_step}
use Rattle.xf_words.proofs.ValueSteps.{found_valued, value_missing, waiting_step}

module _ (options : List OptionRow) where
  step : (s : UsesSoFar) (w : Walk) (word : Text) → Follows options s.uses s.waiting w → is_stray word ≡ false
      → Steps options (after_word options s word) (turn_fault (shape options) [] w word) (walked (rules options) [] w word)
  step s w word = go s.waiting
    where
      go : (waiting : Option OptionRow) → Follows options s.uses waiting w → is_stray word ≡ false
          → Steps options (after_word_by options s.uses waiting word) (turn_fault (shape options) [] w word) (walked (rules options) [] w word)
      go None i stray = idle_step options s.uses w word i stray
      go (Some o) i stray = waiting_step options s.uses o w word i stray

  -- a pending use that is a fault is found out by whatever word follows, or by the end
  failing_fails : (w : Walk) (words : List Text) → IsFailing options w → list_any is_stray words ≡ false → fault_from options w words ≡ [] → ⊥
  unfolding walk_fault
  failing_fails w [] b stray e = b.fails (ap (λ (v : Walk). settle_fault (rules options) false v.held) (sym b.is) ∙ e)
  failing_fails w (word ∷ rest) b stray e =
      let turn : turn_fault (shape options) [] w word ≡ [] = first_none _ _ (sym (fault_from-word options w word rest) ∙ e) in
      go (look word (first_false _ _ stray)) (ap (λ (v : Walk). turn_fault (shape options) [] v word) (sym b.is) ∙ turn)
    where
      go : Look word → turn_fault (shape options) [] (at options b.rows b.pending idle) word ≡ [] → ⊥
      go (plain p) f = plain_refused options b.rows b.pending word p f
      go (dashed text d) f = dashed_settles options b.rows b.pending idle word text d b.fails f

  -- clap's walk is a fault exactly where the definition's has no uses, and else has the entries of these uses
  abbrev pub Agrees : Option (List Use) → Kinds → List Row → Type 0
  Agrees None fault rows = fault ≡ [] → ⊥
  Agrees (Some uses) fault rows = (fault ≡ []) × (rows ≡ map entry_of uses)

  agrees_at_end : (uses : List Use) (waiting : Option OptionRow) (w : Walk) → Follows options uses waiting w
      → Agrees (ended uses waiting) (fault_from options w []) (rows_from options w [])
  unfolding walk_fault
  agrees_at_end uses None w i = (
    ap (λ (v : Walk). settle_fault (rules options) false v.held) i.is ∙ i.settled.settles,
    ap (λ (v : Walk). (settled (rules options) v.held).rows) i.is ∙ i.settled.same,
  )
  agrees_at_end uses (Some o) w i = λ e.
      value_missing options o.name o.is_required (map entry_of uses) (found_valued options uses o w i)
      (ap (λ (v : Walk). settle_fault (rules options) false v.held) (sym i.is) ∙ e)

  pub agrees : (s : UsesSoFar) (w : Walk) (words : List Text) → Follows options s.uses s.waiting w → list_any is_stray words ≡ false
      → Agrees (uses_from options s words) (fault_from options w words) (rows_from options w words)
  agrees s w [] i stray = agrees_at_end s.uses s.waiting w i
  agrees s w (word ∷ rest) i stray =
      go (after_word options s word) (fault_from-word options w word rest) (step s w word i (first_false _ _ stray))
      (λ t follows. agrees t (walked (rules options) [] w word) rest follows (second_false _ _ stray))
    where
      go : (o : Option UsesSoFar)
          → let v = walked (rules options) [] w word in
          fault_from options w (word ∷ rest) ≡ or_else (turn_fault (shape options) [] w word) (fault_from options v rest)
          → Steps options o (turn_fault (shape options) [] w word) v
          → ((t : UsesSoFar) → Follows options t.uses t.waiting v → Agrees (uses_from options t rest) (fault_from options v rest) (rows_from options v rest))
          → Agrees (option_and_then (λ t. uses_from options t rest) o) (fault_from options w (word ∷ rest)) (rows_from options w (word ∷ rest))
      go None more turn onward = λ e.
          failing_fails (walked (rules options) [] w word) rest (turn (first_none _ _ (sym more ∙ e))) (second_false _ _ stray) (second_none _ _ (sym more ∙ e))
      go (Some t) more turn onward =
          let v = walked (rules options) [] w word in
          subst (λ (k : Kinds). Agrees (uses_from options t rest) k (rows_from options v rest))
          (sym (more ∙ ap (λ k. or_else k (fault_from options v rest)) turn.0)) (onward t turn.1)
