use Rattle.std.proofs.Common.{refl, ap, sym}
use Rattle.xf_types.specs.declared.call.Call.TheVariants.{StateGet}
use Rattle.xf_types.specs.StateRules.{state_get}
use Rattle.xf_parts.specs.Held.{all_held}
use Rattle.xf_calls.proofs.Reading.{reads}
use Rattle.xf_calls.proofs.Rules.{state_get_stays}
use Rattle.xf_calls.proofs.Wholes.{stands_now, whole_read}
use Rattle.xf_calls.proofs.database.Database.state_get.Goals as goal

pub state_get-requires : goal.state_get-requires
state_get-requires c = c.self.invariant.fits

pub invariant_of-self : goal.invariant_of-self
invariant_of-self c = whole_read (c.state_get.ensures.among.among _ refl) (ap all_held c.state_get.ensures.rest) c.self.invariant

pub returns : goal.returns
returns c =
    let n = c.args.self.now in
    let st = stands_now c.self.invariant c.self.view_is in
    let same = c.state_get.ensures.among.among _ refl in
    reads c.self.inside.layout (StateGet c.args.id.now) (state_get n.shown c.args.id.now) c.self.view_is same (ap all_held c.state_get.ensures.rest) refl (state_get_stays n.shown c.args.id.now) (λ h. c.state_get.ensures.answer _ n.shown _ (sym same) st.on_states)
