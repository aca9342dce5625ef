-- One word where no value is waited for, to clap and to the definition.
use Rattle.std.proofs.Common.{◌≡◌, ◌∙◌, Bool, cond, true, false, refl, sym, ap, ap₂, subst, List, [], ◌∷◌, ◌++◌, map, Option, Some, None, option_map, true≢false, codes}
use Rattle.std.specs.List.{find}
use Rattle.clap.specs.Walk.{Held, Row, Step, Text, Walk, after_step, has_row, idle, option, reacted, settled_rows, used, walked}
use Rattle.clap.specs.Kinds.{Kinds, or_else}
use Rattle.clap.specs.Faults.{long_fault, react_fault, settle_fault, step_fault, turn_fault}
use Rattle.xf_words.specs.Numbers.{Word}
use Rattle.xf_words.specs.Uses.{OptionRow, Use, UsesSoFar, after_option, after_text, has_use, is_named, name_in, one_more, option_text, value_in, with_use}
use Rattle.xf_words.specs.Applications.{entry_of, is_stray, rule_built}
use Rattle.xf_words.proofs.KindLemmas.{both_none, or_else-nil, second_none}
use Rattle.xf_words.proofs.Looks.{Look, dashed, look, plain}
use Rattle.xf_words.proofs.OptionLemmas.{found_again}
use Rattle.xf_words.proofs.EntryLemmas.{given_values, has_row-uses, map-last, use_fault-again, use_fault-first, used-first}
use Rattle.xf_words.proofs.Turns.{at, held, met_of, option_of, plain_refused, rules, shape, word_fault-dashed, word_met-dashed}

-- what is pending has no fault, and with it the uses are these
pub record IsSettled (options : List OptionRow) (uses : List Use) (rows : List Row) (pending : Option (Text × List Text)) : Type 0 where
  pub settles : settle_fault (rules options) false (held options rows pending) ≡ []
  pub same : settled_rows (rules options) pending rows ≡ map entry_of uses

-- clap waits for no value, and has these uses
pub record IsIdle (options : List OptionRow) (uses : List Use) (w : Walk) : Type 0 where
  pub rows : List Row
  pub pending : Option (Text × List Text)
  pub is : w ≡ at options rows pending idle
  pub settled : IsSettled options uses rows pending

-- clap waits for the value of this option
pub record IsWaiting (options : List OptionRow) (uses : List Use) (o : OptionRow) (w : Walk) : Type 0 where
  pub is : w ≡ at options (map entry_of uses) (Some (o.name, [])) (option o.name)
  pub found : find (is_named o.name) options ≡ Some o
  pub has_value : o.has_value ≡ true

-- what is pending is a fault, which clap finds at the next word or at the end
pub record IsFailing (options : List OptionRow) (w : Walk) : Type 0 where
  pub rows : List Row
  pub pending : Option (Text × List Text)
  pub is : w ≡ at options rows pending idle
  pub fails : settle_fault (rules options) false (held options rows pending) ≡ [] → ⊥

module _ (options : List OptionRow) where
  -- clap is where the definition is
  abbrev pub Follows : List Use → Option OptionRow → Walk → Type 0
  Follows uses None w = IsIdle options uses w
  Follows uses (Some o) w = IsWaiting options uses o w

  -- a word brings both on, or is a fault, which clap finds now or later
  abbrev pub Steps : Option UsesSoFar → Kinds → Walk → Type 0
  Steps None fault w = fault ≡ [] → IsFailing options w
  Steps (Some s) fault w = (fault ≡ []) × Follows s.uses s.waiting w

  pub steps_as : (s : Option UsesSoFar) (e f : Kinds) (w v : Walk) → e ≡ f → w ≡ v → Steps s f v → Steps s e w
  steps_as s e f w v same there h = subst (λ x. Steps s x w) (sym same) (subst (λ x. Steps s f x) (sym there) h)

  -- an option is used, with the value that is at hand
  use_step : (uses : List Use) (o : OptionRow) (v : Text) (rows : List Row) (pending : Option (Text × List Text))
      → (o.has_value ≡ false → v ≡ codes "true") → IsSettled options uses rows pending
      → Steps (one_more uses o v) (react_fault (rules options) false (rule_built o) (given_values o.has_value v) (held options rows pending))
      (record (at options rows pending idle) { held = reacted (rules options) (rule_built o) (given_values o.has_value v) (held options rows pending) })
  use_step uses o v rows pending flag i = go (has_use o.name uses) refl
    where
      has : has_row o.name (settled_rows (rules options) pending rows) ≡ has_use o.name uses
      has = ap (has_row o.name) i.same ∙ has_row-uses o.name uses

      go : (b : Bool) → has_use o.name uses ≡ b
          → Steps (cond b None (Some (with_use uses o v)))
          (react_fault (rules options) false (rule_built o) (given_values o.has_value v) (held options rows pending))
          (record (at options rows pending idle) { held = reacted (rules options) (rule_built o) (given_values o.has_value v) (held options rows pending) })
      go true t = λ e. absurd (use_fault-again o v (settled_rows (rules options) pending rows) (has ∙ t) (second_none _ _ e))
      go false t = (
        both_none _ _ i.settles (use_fault-first o v (settled_rows (rules options) pending rows) (has ∙ t)),
        record {
          rows = used (rule_built o) (given_values o.has_value v) (settled_rows (rules options) pending rows);
          pending = None;
          is = refl;
          settled = record {
            settles = refl;
            same = used-first o v (settled_rows (rules options) pending rows) flag (has ∙ t)
                ∙ ap (λ xs. xs ++ entry_of (record { option = o; value = v }) ∷ []) i.same
                ∙ sym (map-last uses (record { option = o; value = v }));
          };
        },
      )

  -- a word names this option, or none
  named_step : (uses : List Use) (rows : List Row) (pending : Option (Text × List Text)) (word : Text) → IsSettled options uses rows pending
      → (found : Option OptionRow) (v : Option Text) → ((o : OptionRow) → found ≡ Some o → find (is_named o.name) options ≡ Some o)
      → let h = held options rows pending in
      let m = met_of options found v h idle word in
      Steps (after_option uses found v) (or_else (long_fault (rules options) false (option_map rule_built found) v h) (step_fault (shape options) 1 m.0 m.1))
      (after_step (rules options) word (at options rows pending idle) m.0 m.1)
  named_step uses rows pending word i None v again = λ e. cc
  named_step uses rows pending word i (Some o) v again = go o.name o.has_value o.is_required v (again o refl)
    where
      go : (name : Word) (has_value is_required : Bool) (v : Option Text)
          → let o : OptionRow = record { name = name; has_value = has_value; is_required = is_required } in
          let h = held options rows pending in
          let m = met_of options (Some o) v h idle word in
          find (is_named name) options ≡ Some o
          → Steps (after_option uses (Some o) v) (or_else (long_fault (rules options) false (Some (rule_built o)) v h) (step_fault (shape options) 1 m.0 m.1))
          (after_step (rules options) word (at options rows pending idle) m.0 m.1)
      go name true r None found = (
        or_else-nil _ ∙ i.settles,
        record {
          is = ap (λ xs. at options xs (Some (name, [])) (option name)) i.same;
          found = found;
          has_value = refl;
        },
      )
      go name true r (Some v) found =
          steps_as _ _ _ _ _ (or_else-nil _) refl
          (use_step uses (record { name = name; has_value = true; is_required = r }) v rows pending (λ e. absurd (true≢false e)) i)
      go name false r None found =
          steps_as _ _ _ _ _ (or_else-nil _) refl
          (use_step uses (record { name = name; has_value = false; is_required = r }) (codes "true") rows pending (λ e. refl) i)
      go name false r (Some v) found = λ e. cc

  pub idle_step : (uses : List Use) (w : Walk) (word : Text) → IsIdle options uses w → is_stray word ≡ false
      → Steps (after_text options uses (option_text word)) (turn_fault (shape options) [] w word) (walked (rules options) [] w word)
  unfolding walked
  idle_step uses w word i stray =
      subst (λ (v : Walk). Steps (after_text options uses (option_text word)) (turn_fault (shape options) [] v word) (walked (rules options) [] v word))
      (sym i.is) (go (look word stray))
    where
      go : Look word
          → let v = at options i.rows i.pending idle in
          Steps (after_text options uses (option_text word)) (turn_fault (shape options) [] v word) (walked (rules options) [] v word)
      go (plain p) =
          let v = at options i.rows i.pending idle in
          subst (λ (o : Option UsesSoFar). Steps o (turn_fault (shape options) [] v word) (walked (rules options) [] v word))
          (sym (ap (after_text options uses) p.text)) (λ e. absurd (plain_refused options i.rows i.pending word p e))
      go (dashed text d) =
          let v = at options i.rows i.pending idle in
          let met = word_met-dashed options v.held idle word text d in
          subst (λ (o : Option UsesSoFar). Steps o (turn_fault (shape options) [] v word) (walked (rules options) [] v word))
          (sym (ap (after_text options uses) d.text_is))
          (steps_as (after_text options uses (Some text)) _ _ _ _
          (ap₂ or_else (word_fault-dashed options v.held idle word text d) (ap (λ (m : Held × Step). step_fault (shape options) 1 m.0 m.1) met))
          (ap (λ (m : Held × Step). after_step (rules options) word v m.0 m.1) met)
          (named_step uses i.rows i.pending word i.settled (option_of options text) (value_in text) (λ o e. found_again (name_in text) options o e)))
