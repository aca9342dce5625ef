-- What has to come next doesn't bear on a value that is taken.
use Rattle.std.proofs.Common.{◌≡◌, refl, Option, None, Some, Result, Ok, Err}
use Rattle.xf_types.specs.declared.status.Reason.{Reason}
use Rattle.xf_lex.specs.Lexing.{Word}
use Rattle.xf_grammar.specs.declared.row.Arg.{Arg}
use Rattle.xf_grammar.specs.declared.row.Args.{Args}
use Rattle.xf_grammar.specs.declared.row.Slot.{Slot}
use Rattle.xf_grammar.specs.declared.row.Value.{Value}
use Rattle.xf_grammar.specs.Grammar.{Progress, ◌>>=◌, put, take_value, value_in}

put_with : (s : Progress) (rest : Args) (read : Result (Option (Slot × Value)) Reason)
    → (read >>= λ v. Ok (put (record s { pending = rest }) rest v)) ≡ (read >>= λ v. Ok (put s rest v))
put_with s rest (Ok None) = refl
put_with s rest (Ok (Some v)) = refl
put_with s rest (Err e) = refl

-- it may be pending before the value is taken
pub taken_with : (s : Progress) (a : Arg) (rest : Args) (w : Word)
    → take_value (record s { pending = rest }) a rest w ≡ take_value s a rest w
taken_with s a rest w = put_with s rest (value_in a w)
