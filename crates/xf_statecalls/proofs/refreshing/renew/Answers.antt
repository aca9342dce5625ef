use Rattle.std.proofs.Common.{ℕ, ◌≡◌, ◌<◌, true, length, ap, sym, ◌∙◌, subst}
use Rattle.std.proofs.lemmas.List.{length-set}
use Rattle.xf_local.specs.View.{LocalView, Dead, MayHave, renewed}
use Rattle.xf_rows.specs.Values.{Beside, value_put}
use Rattle.xf_statecalls.proofs.Renewed.{put_over}
use Rattle.xf_statecalls.proofs.refreshing.renew.Goals as goal

pub renew-requires : goal.renew-requires
renew-requires g c = subst (λ (v : LocalView). MayHave v c.args.state.now) (sym c.take-value.ensures.value) c.requires.record_

pub put-requires-clause-slot : goal.put-requires-clause-slot
put-requires-clause-slot g c =
    subst (λ (b : Beside). c.args.slot < length b.values) (sym c.take-value.ensures.beside)
    (subst (λ (n : ℕ). c.args.slot < n) (sym (length-set (g.D.Parts.beside c.args.parts.now).values c.args.slot Dead)) c.requires.slot)

pub put-requires-clause-held : goal.put-requires-clause-held
put-requires-clause-held g c = subst (λ (b : Beside). b.held c.args.slot ≡ true) (sym c.take-value.ensures.beside) c.requires.held

pub returns-clause-beside : goal.returns-clause-beside
returns-clause-beside g c =
    c.put.ensures.beside ∙ ap (λ (b : Beside). value_put b c.args.slot c.renew.new.self) c.take-value.ensures.beside
    ∙ put_over (g.D.Parts.beside c.args.parts.now) c.args.slot Dead c.renew.new.self
    ∙ ap (λ (v : LocalView). value_put (g.D.Parts.beside c.args.parts.now) c.args.slot v) (c.renew.ensures ∙ ap (λ (v : LocalView). renewed c.args.state.now v) c.take-value.ensures.value)
