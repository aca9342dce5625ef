use Rattle.std.proofs.Common.{◌≡◌, ℕ, Option, ap, ◌∙◌, subst}
use Rattle.xf_asked.specs.Fields.{sid_at}
use Rattle.xf_sadidx.specs.Layout.{record_place}
use Rattle.xf_sadfind.specs.Slots.{IsThere}
use Rattle.xf_sadfind.proofs.Besides.{beside_none, beside_some}
use Rattle.xf_sadfind.proofs.finder.StateFinder.named_beside.Goals as goal

pub returns-in-None-clause-state : goal.returns-in-None-clause-state
returns-in-None-clause-state g c = λ image entries old agrees st records there.
    let a = c.args.self.now.area in
    c.living.ensures.state image entries agrees st records
    ∙ beside_none a image c.args.id.now old entries (subst (λ (o : Option ℕ). IsThere a image o old) c.in-None.is there)

pub returns-in-Some-clause-state : goal.returns-in-Some-clause-state
returns-in-Some-clause-state g c = λ image entries old agrees st records there.
    let a = c.args.self.now.area in
    let told : c.sid_at-sid.result ≡ sid_at image (record_place a c.in-Some.slot) =
    c.sid_at-sid.ensures.answer image (c.beside.ensures.among.among image agrees) ∙ ap (sid_at image) c.record_place.ensures in
    c.beside.ensures.state image entries agrees st records
    ∙ beside_some a image c.args.id.now old c.in-Some.slot c.sid_at-sid.result entries (subst (λ (o : Option ℕ). IsThere a image o old) c.in-Some.is there) told
