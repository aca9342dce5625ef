use Rattle.std.proofs.Common.{◌∙◌, sym, map, string_bytes}
use Rattle.clap.specs.Simple.{app_of}
use Rattle.xf_words.proofs.Found.{found, none_chosen}
use Rattle.xf_words.proofs.Outcomes.{outcome}
use Rattle.xf_words.proofs.Strays.{stray_chosen}
use Rattle.xf_words.proofs.parser.parse.Goals as goal

pub returns-then-has_stray : goal.returns-then-has_stray
returns-then-has_stray c rows h = stray_chosen rows (map string_bytes c.args.words.now) h.names (sym c.if-has_stray.ensures)

pub returns-in-Ok : goal.returns-in-Ok
returns-in-Ok c rows h =
    let words = map string_bytes c.args.words.now in
    found rows words _ _ c.in-Ok.matches (outcome rows (app_of c.args.command) words h (sym c.if-has_stray.ensures))
    (c.in-Ok.ensures.kinds h.is_free) (c.in-Ok.ensures.matches h.is_simple).1

pub returns : goal.returns
returns c rows h =
    let words = map string_bytes c.args.words.now in
    none_chosen _ _ _ c.in-Err.error.kind (outcome rows (app_of c.args.command) words h (sym c.if-has_stray.ensures))
    (λ e. c.in_default.not-OutOfMemory (c.kind.ensures ∙ e)) (c.in-Err.ensures.kinds h.is_free)
