-- From clap's answer to the command: the two arms of a parse, and what the getters give.
use Rattle.std.proofs.Common.{◌≡◌, ◌∙◌, ◌⊎◌, inl, inr, true, refl, ap, subst, List, [], ◌∷◌, Option, Some, None}
use Rattle.std.specs.List.{find}
use Rattle.std.specs.Option.{option_map_or}
use Rattle.clap.specs.Walk.{Row, Text, first_of}
use Rattle.clap.specs.Simple.{subcommand_rows_of}
use Rattle.clap.specs.Kinds.{IsAmong, Kinds}
use Rattle.clap.specs.declared.error.kind.ErrorKind.{ErrorKind}
use Rattle.clap.specs.declared.error.kind.ErrorKind.TheVariants as kind
use Rattle.clap.specs.declared.parser.matches.ArgMatches.{ArgMatches}
use Rattle.xf_words.specs.Uses.{OptionRow, Use, value_of}
use Rattle.xf_words.specs.Commands.{CommandRow, chosen_by, chosen_of, is_called, with_uses}
use Rattle.xf_words.specs.Applications.{IsFound, entries_of}
use Rattle.xf_words.proofs.Defaults.{first_of-entries, is_valued}
use Rattle.xf_words.proofs.Names.{called_again}
use Rattle.xf_words.proofs.Outcomes.{Outcome}

-- an error that isn't want of memory comes only where the words are no command
pub none_chosen : (o : Option (CommandRow × List Use)) (fault : Kinds) (found : Option (Text × List Row)) (k : ErrorKind) → Outcome o fault found
    → (k ≡ kind.OutOfMemory → ⊥) → (k ≡ kind.OutOfMemory) ⊎ IsAmong k fault → o ≡ None
none_chosen None fault found k out no_memory is = refl
none_chosen (Some p) fault found k out no_memory (inl e) = absurd (no_memory e)
none_chosen (Some p) fault found k out no_memory (inr among) = absurd (subst (λ f. IsAmong k f) out.0 among)

chosen_called : (rows : List CommandRow) (words : List Text) (c : CommandRow) (uses : List Use) → chosen_of rows words ≡ Some (c, uses)
    → find (is_called c.name) rows ≡ Some c
chosen_called rows [] c uses e = cc
chosen_called rows (word ∷ rest) c uses e = go (find (is_called word) rows) refl e
  where
    same_row : (d : CommandRow) (o : Option (List Use)) → with_uses d o ≡ Some (c, uses) → d ≡ c
    same_row d None f = cc
    same_row d (Some x) f = ap (λ (o : Option (CommandRow × List Use)). option_map_or (λ (p : CommandRow × List Use). p.0) o d) f

    go : (o : Option CommandRow) → find (is_called word) rows ≡ o → chosen_by o rest ≡ Some (c, uses) → find (is_called c.name) rows ≡ Some c
    go None f g = cc
    go (Some d) f g =
        let same : d ≡ c = same_row d _ g in
        subst (λ (x : CommandRow). find (is_called x.name) rows ≡ Some x) same (called_again rows word d f)

-- matches come only where the words are a command, and hold it
pub found : (rows : List CommandRow) (words : List Text) (fault : Kinds) (sub : Option (Text × List Row)) (m : ArgMatches)
    → Outcome (chosen_of rows words) fault sub → fault ≡ [] → subcommand_rows_of m ≡ sub → IsFound rows words m
found rows words fault sub m out no_fault same = go (chosen_of rows words) refl out
  where
    go : (o : Option (CommandRow × List Use)) → chosen_of rows words ≡ o → Outcome o fault sub → IsFound rows words m
    go None e h = absurd (h no_fault)
    go (Some p) e h = record { row = p.0; uses = p.1; chosen = e; called = chosen_called rows words p.0 p.1 e; entries = same ∙ h.1 }

-- a value that was found is the use's
pub value_found : (name : Text) (options : List OptionRow) (uses : List Use) (rows : List Row) (value : Option Text)
    → value ≡ first_of name rows → rows ≡ entries_of options uses → is_valued name options ≡ true → value ≡ value_of name uses
value_found name options uses rows value e same v = e ∙ ap (first_of name) same ∙ first_of-entries name options uses v
