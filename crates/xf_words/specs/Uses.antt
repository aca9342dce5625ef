-- Which uses of a command's options the words after it make.
use Rattle.std.specs.Prelude.{Bool, true, false, not, ◌==◌, ◌||◌, List, [], ◌∷◌, ◌++◌, Option, None, Some, is_some, find, codes, if◌then◌else◌, option_and_then, option_map}
use Rattle.std.specs.Str.{bytes_eq}
use Rattle.std.specs.List.{list_any, list_all, before_first, after_first}
use Rattle.xf_words.specs.Numbers.{Word}

-- an option of a command: its name, whether it has a value, and whether it must be there
pub record OptionRow : Type 0 where
  pub name : Word
  pub has_value : Bool
  pub is_required : Bool

-- one use of an option, with its value; an option that has none is used with `true`
pub record Use : Type 0 where
  pub option : OptionRow
  pub value : Word

-- the option has this name
abbrev pub is_named : Word → OptionRow → Bool
is_named name o = bytes_eq o.name name

-- it is a use of the option with this name
abbrev pub is_use_of : Word → Use → Bool
is_use_of name u = bytes_eq u.option.name name

-- the option with this name was used
abbrev pub has_use : Word → List Use → Bool
has_use name uses = list_any (is_use_of name) uses

-- the value that the option with this name was given
abbrev pub value_of : Word → List Use → Option Word
value_of name uses = option_map (λ u. u.value) (find (is_use_of name) uses)

-- ---- one word

-- what follows a first hyphen (45)
abbrev pub after_hyphen : Word → Option Word
after_hyphen [] = None
after_hyphen (c ∷ cs) = if c == 45 then Some cs else None

-- the first byte is a hyphen
abbrev pub begins_with_hyphen : Word → Bool
begins_with_hyphen word = is_some (after_hyphen word)

-- a text that is there
abbrev pub nonempty : Word → Option Word
nonempty [] = None
nonempty (c ∷ cs) = Some (c ∷ cs)

-- what follows the two hyphens of `--text`
abbrev pub option_text : Word → Option Word
option_text word = option_and_then nonempty (option_and_then after_hyphen (after_hyphen word))

-- the name, which ends before the first `=` (61)
abbrev pub name_in : Word → Word
name_in text = before_first (λ c. c == 61) text

-- the value behind the first `=`, where there is one
abbrev pub value_in : Word → Option Word
value_in text = if list_any (λ c. c == 61) text then Some (after_first (λ c. c == 61) text) else None

-- ---- the words from the left

-- the uses so far, and the option whose value is the next word
pub record UsesSoFar : Type 0 where
  pub uses : List Use
  pub waiting : Option OptionRow

-- before the first word
abbrev pub no_uses : UsesSoFar
no_uses = record { uses = []; waiting = None }

-- one more use
abbrev pub with_use : List Use → OptionRow → Word → UsesSoFar
with_use uses o value = record { uses = uses ++ record { option = o; value = value } ∷ []; waiting = None }

-- one more use, of an option that was not used before
abbrev pub one_more : List Use → OptionRow → Word → Option UsesSoFar
one_more uses o value = if has_use o.name uses then None else Some (with_use uses o value)

-- an option's name was met, and what stands behind its `=`
abbrev pub used_by : Bool → List Use → OptionRow → Option Word → Option UsesSoFar
used_by true uses o None = Some (record { uses = uses; waiting = Some o })
used_by true uses o (Some value) = one_more uses o value
used_by false uses o None = one_more uses o (codes "true")
used_by false uses o (Some value) = None

-- the name may be no option's
abbrev pub after_option : List Use → Option OptionRow → Option Word → Option UsesSoFar
after_option uses None value = None
after_option uses (Some o) value = used_by o.has_value uses o value

-- the word is `--name` or `--name=value`, or it names no option
abbrev pub after_text : List OptionRow → List Use → Option Word → Option UsesSoFar
after_text options uses None = None
after_text options uses (Some text) = after_option uses (find (is_named (name_in text)) options) (value_in text)

-- the next word; no value has a hyphen in front
abbrev pub after_word_by : List OptionRow → List Use → Option OptionRow → Word → Option UsesSoFar
after_word_by options uses None word = after_text options uses (option_text word)
after_word_by options uses (Some o) word = if begins_with_hyphen word then None else one_more uses o word

-- the next word, by what was before it
abbrev pub after_word : List OptionRow → UsesSoFar → Word → Option UsesSoFar
after_word options s word = after_word_by options s.uses s.waiting word

-- the words end, and no value may be missing
abbrev pub ended : List Use → Option OptionRow → Option (List Use)
ended uses None = Some uses
ended uses (Some o) = None

-- the uses with those of these words
abbrev pub uses_from : List OptionRow → UsesSoFar → List Word → Option (List Use)
uses_from options s [] = ended s.uses s.waiting
uses_from options s (word ∷ rest) = option_and_then (λ t. uses_from options t rest) (after_word options s word)

-- each option that must be there was used
abbrev pub has_required : List OptionRow → List Use → Bool
has_required options uses = list_all (λ o. not o.is_required || has_use o.name uses) options

-- the uses, if none is missing
abbrev pub with_required : List OptionRow → List Use → Option (List Use)
with_required options uses = if has_required options uses then Some uses else None

-- the uses that the words make of the options, each at most once; None where the words are something else
abbrev pub uses_of : List OptionRow → List Word → Option (List Use)
uses_of options words = option_and_then (with_required options) (uses_from options no_uses words)
