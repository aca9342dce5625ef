-- One word where an option's value is waited for, to clap and to the definition.
use Rattle.std.proofs.Common.{◌≡◌, ◌∙◌, nat_lt, if◌then◌else◌, Bool, cond, true, false, refl, sym, ap, ap₂, subst, List, [], ◌∷◌, map, Some, None, option_map, true≢false}
use Rattle.std.specs.List.{find}
use Rattle.std.specs.Option.{option_map_or}
use Rattle.std.proofs.lemmas.Slice.Eq.{bytes_eq-Decides}
use Rattle.clap.specs.Walk.{Held, Row, Step, Text, Walk, after_step, arg_by_id, idle, next, option, option_word, plain_word, used_by_id, walked}
use Rattle.clap.specs.Kinds.{or_else}
use Rattle.clap.specs.Faults.{settle_fault, step_fault, turn_fault, use_fault}
use Rattle.clap.specs.declared.error.kind.ErrorKind.TheVariants as kind
use Rattle.xf_words.specs.Numbers.{Word}
use Rattle.xf_words.specs.Uses.{OptionRow, Use, after_word_by, has_use, is_named, one_more, with_use}
use Rattle.xf_words.specs.Applications.{entry_of, is_stray, rule_built}
use Rattle.xf_words.proofs.Looks.{Look, dashed, look, plain}
use Rattle.xf_words.proofs.OptionLemmas.{arg_by_id-options}
use Rattle.xf_words.proofs.EntryLemmas.{has_row-uses, map-last, use_fault-again, use_fault-first, used-first}
use Rattle.xf_words.proofs.Turns.{at, dashed_settles, held, rules, shape, word_fault-plain, word_met-plain}
use Rattle.xf_words.proofs.UseSteps.{IsWaiting, Steps, steps_as}

-- an option that has a value
abbrev pub valued : Word → Bool → OptionRow
valued name required = record { name = name; has_value = true; is_required = required }

module _ (options : List OptionRow) where
  rule_of_id : (o : OptionRow) → find (is_named o.name) options ≡ Some o → arg_by_id (rules options) o.name ≡ Some (rule_built o)
  rule_of_id o found = arg_by_id-options o.name options ∙ ap (option_map rule_built) found

  -- the value is still missing
  pub value_missing : (name : Text) (r : Bool) (rows : List Row) → find (is_named name) options ≡ Some (valued name r)
      → settle_fault (rules options) false (held options rows (Some (name, []))) ≡ [] → ⊥
  value_missing name r rows found e =
      let f : kind.InvalidValue ∷ [] ≡ [] =
      ap (λ o. option_map_or (λ a. use_fault false a [] rows) o []) (sym (rule_of_id (valued name r) found)) ∙ e in
      cc

  -- the word is the value
  value_met : (name : Text) (r : Bool) (rows : List Row) (word : Text) → find (is_named name) options ≡ Some (valued name r)
      → plain_word (rules options) (option name) word (held options rows (Some (name, []))) ≡ (held options rows (Some (name, word ∷ [])), next idle)
  value_met name r rows word found =
      let h = held options rows (Some (name, [])) in
      ap (λ f. ((option_word f name word h).0, next (option_word f name word h).1)) (rule_of_id (valued name r) found)
      ∙ ap (λ b. (held options rows (Some (name, word ∷ [])), next (if nat_lt (if b then 1 else 0) 1 then option name else idle)))
      ((bytes_eq-Decides name name).1 refl)

  -- it is one more use
  value_step : (uses : List Use) (name : Text) (r : Bool) (word : Text) → find (is_named name) options ≡ Some (valued name r)
      → Steps options (one_more uses (valued name r) word) [] (at options (map entry_of uses) (Some (name, word ∷ [])) idle)
  value_step uses name r word found = go (has_use name uses) refl
    where
      settle_is : settle_fault (rules options) false (held options (map entry_of uses) (Some (name, word ∷ [])))
          ≡ use_fault false (rule_built (valued name r)) (word ∷ []) (map entry_of uses)
      settle_is =
          ap (λ o. option_map_or (λ a. use_fault false a (word ∷ []) (map entry_of uses)) o []) (rule_of_id (valued name r) found)

      go : (b : Bool) → has_use name uses ≡ b
          → Steps options (cond b None (Some (with_use uses (valued name r) word))) [] (at options (map entry_of uses) (Some (name, word ∷ [])) idle)
      go true t = λ e. record {
        rows = map entry_of uses;
        pending = Some (name, word ∷ []);
        is = refl;
        fails = λ f. use_fault-again (valued name r) word (map entry_of uses) (has_row-uses name uses ∙ t) (sym settle_is ∙ f);
      }
      go false t = (
        refl,
        record {
          rows = map entry_of uses;
          pending = Some (name, word ∷ []);
          is = refl;
          settled = record {
            settles = settle_is ∙ use_fault-first (valued name r) word (map entry_of uses) (has_row-uses name uses ∙ t);
            same = ap (λ o. used_by_id o (word ∷ []) (map entry_of uses)) (rule_of_id (valued name r) found)
                ∙ used-first (valued name r) word (map entry_of uses) (λ e. absurd (true≢false e)) (has_row-uses name uses ∙ t)
                ∙ sym (map-last uses (record { option = valued name r; value = word }));
          };
        },
      )

  step_by : (uses : List Use) (name : Text) (r : Bool) (word : Text) → find (is_named name) options ≡ Some (valued name r) → Look word
      → let w = at options (map entry_of uses) (Some (name, [])) (option name) in
      Steps options (after_word_by options uses (Some (valued name r)) word) (turn_fault (shape options) [] w word) (walked (rules options) [] w word)
  unfolding walked
  step_by uses name r word found (plain p) =
      let w = at options (map entry_of uses) (Some (name, [])) (option name) in
      let met = word_met-plain options w.held (option name) word p ∙ value_met name r (map entry_of uses) word found in
      subst (λ (b : Bool). Steps options (cond b None (one_more uses (valued name r) word)) (turn_fault (shape options) [] w word) (walked (rules options) [] w word))
      (sym p.hyphen)
      (steps_as options (one_more uses (valued name r) word) _ _ _ _
      (ap₂ or_else (word_fault-plain options w.held (option name) word p) (ap (λ (m : Held × Step). step_fault (shape options) 1 m.0 m.1) met))
      (ap (λ (m : Held × Step). after_step (rules options) word w m.0 m.1) met)
      (value_step uses name r word found))
  step_by uses name r word found (dashed text d) =
      let w = at options (map entry_of uses) (Some (name, [])) (option name) in
      subst (λ (b : Bool). Steps options (cond b None (one_more uses (valued name r) word)) (turn_fault (shape options) [] w word) (walked (rules options) [] w word))
      (sym d.hyphen)
      (λ e. absurd (dashed_settles options (map entry_of uses) (Some (name, [])) (option name) word text d (value_missing name r (map entry_of uses) found) e))

  pub found_valued : (uses : List Use) (o : OptionRow) (w : Walk) → IsWaiting options uses o w
      → find (is_named o.name) options ≡ Some (valued o.name o.is_required)
  found_valued uses o w i = i.found ∙ ap (λ b. Some (record o { has_value = b })) i.has_value

  pub waiting_step : (uses : List Use) (o : OptionRow) (w : Walk) (word : Text) → IsWaiting options uses o w → is_stray word ≡ false
      → Steps options (after_word_by options uses (Some o) word) (turn_fault (shape options) [] w word) (walked (rules options) [] w word)
  waiting_step uses o w word i stray =
      let v = at options (map entry_of uses) (Some (o.name, [])) (option o.name) in
      subst (λ (x : Walk). Steps options (after_word_by options uses (Some o) word) (turn_fault (shape options) [] x word) (walked (rules options) [] x word))
      (sym i.is)
      (subst (λ (b : Bool). Steps options (after_word_by options uses (Some (record o { has_value = b })) word) (turn_fault (shape options) [] v word) (walked (rules options) [] v word))
      (sym i.has_value)
      (step_by uses o.name o.is_required word (found_valued uses o w i) (look word stray)))
