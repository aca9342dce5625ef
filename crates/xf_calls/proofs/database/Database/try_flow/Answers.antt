use Rattle.std.proofs.Common.{refl, ap, sym}
use Rattle.xf_types.specs.declared.call.Call.TheVariants.{TryFlow}
use Rattle.xf_types.specs.Changes.{Answer, applied, stays}
use Rattle.xf_parts.specs.Held.{all_held}
use Rattle.xf_calls.proofs.Reading.{reads}
use Rattle.xf_calls.proofs.Wholes.{stands_now, whole_read}
use Rattle.xf_calls.proofs.database.Database.try_flow.Goals as goal

pub try_flow-requires : goal.try_flow-requires
try_flow-requires c = c.self.invariant.fits

pub invariant_of-self : goal.invariant_of-self
invariant_of-self c = whole_read (c.try_flow.ensures.among.among _ refl) (ap all_held c.try_flow.ensures.rest) c.self.invariant

pub returns : goal.returns
returns c =
    let n = c.args.self.now in
    let st = stands_now c.self.invariant c.self.view_is in
    let same = c.try_flow.ensures.among.among _ refl in
    reads c.self.inside.layout (TryFlow c.args.flow.now) (stays c.try_flow.result) c.self.view_is same (ap all_held c.try_flow.ensures.rest)
    (ap (λ (a : Answer). applied n a)
    (c.try_flow.ensures.answer _ n.shown st.policies _ (sym same) st.machine.shown.policies.ordered st.on_policies st.on_states))
    refl (λ h. refl)
