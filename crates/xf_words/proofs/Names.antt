-- The commands by their names, to clap and to the definition.
use Rattle.std.proofs.Common.{◌≡◌, ◌∙◌, not, Bool, cond, true, false, refl, sym, ap, List, [], ◌∷◌, map, Some, option_map}
use Rattle.std.specs.List.{find, list_all}
use Rattle.std.specs.Str.{bytes_eq}
use Rattle.std.proofs.lemmas.Slice.Eq.{bytes_eq-Decides}
use Rattle.clap.specs.Walk.{Names, Text, answers_to}
use Rattle.clap.specs.Simple.{label_of, names_of}
use Rattle.clap.proofs.WalkLemmas.{both}
use Rattle.xf_words.specs.Commands.{CommandRow, is_called}
use Rattle.xf_words.specs.Applications.{app_built, is_stray, shape_built}

-- the name by which clap knows a command; it has no other
abbrev pub label : CommandRow → Text × List Text
label row = (row.name, [])

find-labels : (word : Text) (rows : List CommandRow) → find (answers_to word) (map label rows) ≡ option_map label (find (is_called word) rows)
find-labels word [] = refl
find-labels word (c ∷ cs) = go (bytes_eq c.name word) refl (find-labels word cs)
  where
    go : (b : Bool) → bytes_eq c.name word ≡ b → find (answers_to word) (map label cs) ≡ option_map label (find (is_called word) cs)
        → find (answers_to word) (map label (c ∷ cs)) ≡ option_map label (find (is_called word) (c ∷ cs))
    go true t rest = rw t refl
    go false t rest = rw t rest

pub find-shapes : (word : Text) (rows : List CommandRow)
    → find (λ s. answers_to word (label_of s)) (map shape_built rows) ≡ option_map shape_built (find (is_called word) rows)
find-shapes word [] = refl
find-shapes word (c ∷ cs) = go (bytes_eq c.name word) refl (find-shapes word cs)
  where
    go : (b : Bool) → bytes_eq c.name word ≡ b
        → find (λ s. answers_to word (label_of s)) (map shape_built cs) ≡ option_map shape_built (find (is_called word) cs)
        → find (λ s. answers_to word (label_of s)) (map shape_built (c ∷ cs)) ≡ option_map shape_built (find (is_called word) (c ∷ cs))
    go true t rest = rw t refl
    go false t rest = rw t rest

labels-shapes : (rows : List CommandRow) → map label_of (map shape_built rows) ≡ map label rows
labels-shapes [] = refl
labels-shapes (c ∷ cs) = ap (λ xs. label c ∷ xs) (labels-shapes cs)

-- the names that clap knows
abbrev pub names : List CommandRow → Names
names rows = names_of (app_built rows)

pub find-names : (rows : List CommandRow) (word : Text) → find (answers_to word) (names rows) ≡ option_map label (find (is_called word) rows)
find-names rows word = ap (find (answers_to word)) (labels-shapes rows) ∙ find-labels word rows

-- a command that was found has the name, and one that isn't stray where none is
pub record IsNamed (word : Text) (rows : List CommandRow) (row : CommandRow) : Type 0 where
  pub name : row.name ≡ word
  pub no_stray : list_all (λ d. not (is_stray d.name)) rows ≡ true → is_stray row.name ≡ false

not_true : (b : Bool) → not b ≡ true → b ≡ false
not_true true e = sym e
not_true false e = refl

pub found_named : (word : Text) (rows : List CommandRow) (c : CommandRow) → find (is_called word) rows ≡ Some c → IsNamed word rows c
found_named word [] c e = cc
found_named word (d ∷ ds) c e = go (bytes_eq d.name word) refl e (found_named word ds c)
  where
    go : (b : Bool) → bytes_eq d.name word ≡ b → cond b (Some d) (find (is_called word) ds) ≡ Some c
        → (find (is_called word) ds ≡ Some c → IsNamed word ds c) → IsNamed word (d ∷ ds) c
    go true t f rest =
        let same : d ≡ c = cc in
        record {
          name = ap (λ (q : CommandRow). q.name) (sym same) ∙ (bytes_eq-Decides d.name word).0 t;
          no_stray = λ all. ap (λ (q : CommandRow). is_stray q.name) (sym same) ∙ not_true _ (both _ _ all).0;
        }
    go false t f rest = record { name = (rest f).name; no_stray = λ all. (rest f).no_stray (both _ _ all).1 }

-- it is found again by its own name
pub called_again : (rows : List CommandRow) (word : Text) (c : CommandRow) → find (is_called word) rows ≡ Some c → find (is_called c.name) rows ≡ Some c
called_again rows word c e = ap (λ n. find (is_called n) rows) (found_named word rows c e).name ∙ e
