-- What clap finds of a command's options by a name.
use Rattle.std.proofs.Common.{◌≡◌, ◌∙◌, Bool, cond, true, false, refl, sym, ap, List, [], ◌∷◌, map, Some, None, option_map}
use Rattle.std.specs.List.{find}
use Rattle.std.specs.Str.{bytes_eq}
use Rattle.std.proofs.lemmas.Slice.Eq.{bytes_eq-Decides}
use Rattle.clap.specs.Walk.{Text, arg_by_id, arg_by_index, arg_by_long}
use Rattle.xf_words.specs.Uses.{OptionRow, is_named}
use Rattle.xf_words.specs.Applications.{rule_built}

-- no option goes by its place
pub arg_by_index-options : (options : List OptionRow) → arg_by_index (map rule_built options) 1 ≡ None
arg_by_index-options [] = refl
arg_by_index-options (o ∷ os) = arg_by_index-options os

pub arg_by_id-options : (id : Text) (options : List OptionRow)
    → arg_by_id (map rule_built options) id ≡ option_map rule_built (find (is_named id) options)
arg_by_id-options id [] = refl
arg_by_id-options id (o ∷ os) = go (bytes_eq o.name id) refl (arg_by_id-options id os)
  where
    go : (b : Bool) → bytes_eq o.name id ≡ b
        → arg_by_id (map rule_built os) id ≡ option_map rule_built (find (is_named id) os)
        → arg_by_id (map rule_built (o ∷ os)) id ≡ option_map rule_built (find (is_named id) (o ∷ os))
    go true t rest = rw t refl
    go false t rest = rw t rest

pub arg_by_long-options : (name : Text) (options : List OptionRow)
    → arg_by_long (map rule_built options) name ≡ option_map rule_built (find (is_named name) options)
arg_by_long-options name [] = refl
arg_by_long-options name (o ∷ os) = go (bytes_eq o.name name) refl (arg_by_long-options name os)
  where
    go : (b : Bool) → bytes_eq o.name name ≡ b
        → arg_by_long (map rule_built os) name ≡ option_map rule_built (find (is_named name) os)
        → arg_by_long (map rule_built (o ∷ os)) name ≡ option_map rule_built (find (is_named name) (o ∷ os))
    go true t rest = rw t refl
    go false t rest = rw t rest

found_name : (name : Text) (options : List OptionRow) (o : OptionRow) → find (is_named name) options ≡ Some o → o.name ≡ name
found_name name [] o e = cc
found_name name (p ∷ ps) o e = go (bytes_eq p.name name) refl e (found_name name ps o)
  where
    go : (b : Bool) → bytes_eq p.name name ≡ b → cond b (Some p) (find (is_named name) ps) ≡ Some o
        → (find (is_named name) ps ≡ Some o → o.name ≡ name) → o.name ≡ name
    go true t f rest =
        let same : p ≡ o = cc in
        ap (λ (q : OptionRow). q.name) (sym same) ∙ (bytes_eq-Decides p.name name).0 t
    go false t f rest = rest f

-- an option that was found is found again by its own name
pub found_again : (name : Text) (options : List OptionRow) (o : OptionRow) → find (is_named name) options ≡ Some o
    → find (is_named o.name) options ≡ Some o
found_again name options o e = ap (λ n. find (is_named n) options) (found_name name options o e) ∙ e
