-- Templates that are read one after the other.
use Rattle.std.proofs.Common.{◌≡◌, refl, ap, sym, List, [], ◌∷◌, ◌++◌, Result, Ok, Err}
use Rattle.std.proofs.lemmas.List.{append_assoc}
use Rattle.xf_types.specs.declared.policy.Template.{Template}
use Rattle.xf_types.specs.declared.status.Reason.{Reason}
use Rattle.xf_grammar.specs.Grammar.{◌>>=◌}

-- those that were read, and then the rest
abbrev pub joined : List Template → Result (List Template) Reason → Result (List Template) Reason
joined front (Ok rest) = Ok (front ++ rest)
joined front (Err e) = Err e

-- the first of the rest is the next one
pub joined_next : (front : List Template) (template : Template) (rest : Result (List Template) Reason)
    → joined front (rest >>= λ ts. Ok (template ∷ ts)) ≡ joined (front ++ template ∷ []) rest
joined_next front template (Ok ts) = ap Ok (sym (append_assoc front (template ∷ []) ts))
joined_next front template (Err e) = refl
