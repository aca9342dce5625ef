-- The whole parse of the words after a command.
use Rattle.std.proofs.Common.{◌≡◌, ◌∙◌, ◌&&◌, ◌||◌, not, if◌then◌else◌, Bool, true, false, refl, sym, ap, ap₂, subst, List, [], ◌∷◌, map, Option, Some, None}
use Rattle.std.specs.Prelude.{option_and_then}
use Rattle.std.specs.List.{fold, list_any}
use Rattle.clap.specs.Walk.{Row, Rule, Text, Walk, idle, nothing_held, rows_after, walk, walked, with_default}
use Rattle.clap.specs.Takes.{is_given}
use Rattle.clap.specs.Kinds.{Kinds, or_else}
use Rattle.clap.specs.Faults.{check_fault, defaults_fault, level_fault, settle_fault, turn_fault, walk_fault}
use Rattle.clap.specs.declared.error.kind.ErrorKind.TheVariants as kind
use Rattle.xf_words.specs.Uses.{OptionRow, Use, has_required, has_use, no_uses, uses_from, uses_of, with_required}
use Rattle.xf_words.specs.Applications.{entries_of, is_stray, level_built, rule_built}
use Rattle.xf_words.proofs.KindLemmas.{both_none, first_none, or_else-assoc, second_none}
use Rattle.xf_words.proofs.Turns.{at, fault_from, rows_from, rules, shape}
use Rattle.xf_words.proofs.UseSteps.{IsIdle}
use Rattle.xf_words.proofs.Walks.{Agrees, agrees}
use Rattle.xf_words.proofs.Defaults.{defaults_fault-options, is_given-entries}

-- clap misses an option exactly where the definition does
missing-options : (options : List OptionRow) (rows : List Row) (uses : List Use) → ((name : Text) → is_given name rows ≡ has_use name uses)
    → list_any (λ (a : Rule). a.required && not (is_given a.id rows)) (map rule_built options) ≡ not (has_required options uses)
missing-options [] rows uses same = refl
missing-options (o ∷ os) rows uses same =
    ap₂ (λ a b. (o.is_required && not a) || b) (same o.name) (missing-options os rows uses same) ∙ go o.is_required (has_use o.name uses)
  where
    go : (a b : Bool) → ((a && not b) || not (has_required os uses)) ≡ not ((not a || b) && has_required os uses)
    go true true = refl
    go true false = refl
    go false b = refl

-- clap refuses the words exactly where they have no uses, and else has the entries of these
abbrev pub Outcome : List OptionRow → Option (List Use) → Kinds → List Row → Type 0
Outcome options None fault rows = fault ≡ [] → ⊥
Outcome options (Some uses) fault rows = (fault ≡ []) × (rows ≡ entries_of options uses)

abbrev with_defaults : List OptionRow → List Row → List Row
with_defaults options rows = fold with_default rows (map rule_built options)

-- the faults behind the walk
abbrev end_fault : List OptionRow → List Row → Kinds
end_fault options rows =
    or_else (defaults_fault rows (map rule_built options)) (check_fault (shape options) (with_defaults options rows) false)

abbrev missing_kinds : Bool → Kinds
missing_kinds b = if b then kind.MissingRequiredArgument ∷ [] else []

outcome_after : (options : List OptionRow) (o : Option (List Use)) (fault : Kinds) (rows : List Row) → Agrees options o fault rows
    → Outcome options (option_and_then (with_required options) o) (or_else fault (end_fault options rows)) (with_defaults options rows)
outcome_after options None fault rows a = λ e. a (first_none _ _ e)
outcome_after options (Some uses) fault rows a = go (has_required options uses) refl
  where
    same : with_defaults options rows ≡ entries_of options uses
    same = ap (with_defaults options) a.1

    check : check_fault (shape options) (with_defaults options rows) false ≡ missing_kinds (not (has_required options uses))
    check = ap (λ rs. check_fault (shape options) rs false) same
        ∙ ap missing_kinds (missing-options options (entries_of options uses) uses (λ name. is_given-entries name options uses))

    go : (b : Bool) → has_required options uses ≡ b
        → Outcome options (if b then Some uses else None) (or_else fault (end_fault options rows)) (with_defaults options rows)
    go true t = (
      both_none _ _ a.0 (both_none _ _ (defaults_fault-options rows options) (check ∙ ap (λ b. missing_kinds (not b)) t)),
      same,
    )
    go false t = λ e.
        let f : kind.MissingRequiredArgument ∷ [] ≡ [] =
        ap (λ b. missing_kinds (not b)) (sym t) ∙ sym check
        ∙ second_none (defaults_fault rows (map rule_built options)) _ (second_none fault _ e) in
        cc

-- the faults of a walk don't depend on the command's name
walk_fault-name : (name : Text) (options : List OptionRow) (w : Walk) (words : List Text)
    → walk_fault (level_built name options) [] w words ≡ walk_fault (shape options) [] w words
unfolding walk_fault
walk_fault-name name options w [] = refl
walk_fault-name name options w (word ∷ rest) =
    ap (or_else (turn_fault (shape options) [] w word)) (walk_fault-name name options (walked (rules options) [] w word) rest)

pub outcome : (name : Text) (options : List OptionRow) (words : List Text) → list_any is_stray words ≡ false
    → Outcome options (uses_of options words) (level_fault (level_built name options) [] nothing_held words false [])
    (rows_after (map rule_built options) [] words)
outcome name options words stray =
    let w : Walk = at options [] None idle in
    let start : IsIdle options [] w = record { rows = []; pending = None; is = refl; settled = record { settles = refl; same = refl } } in
    let ends : Kinds = end_fault options (rows_from options w words) in
    let settles : Kinds = settle_fault (rules options) false (walk (rules options) [] nothing_held words).held in
    let fault_is : level_fault (level_built name options) [] nothing_held words false [] ≡ or_else (fault_from options w words) ends =
    ap (λ k. or_else k (or_else settles ends)) (walk_fault-name name options w words)
    ∙ sym (or_else-assoc (walk_fault (shape options) [] w words) settles ends) in
    subst (λ f. Outcome options (uses_of options words) f (rows_after (map rule_built options) [] words)) (sym fault_is)
    (outcome_after options (uses_from options no_uses words) (fault_from options w words) (rows_from options w words)
    (agrees options no_uses w words start stray))
