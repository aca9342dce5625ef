use Rattle.std.proofs.Common.{refl, ap, sym}
use Rattle.xf_types.specs.declared.call.Call.TheVariants.{StateCount}
use Rattle.xf_types.specs.StateRules.{state_count}
use Rattle.xf_parts.specs.Held.{all_held}
use Rattle.xf_calls.proofs.Reading.{reads}
use Rattle.xf_calls.proofs.Wholes.{stands_now, whole_read}
use Rattle.xf_calls.proofs.database.Database.state_count.Goals as goal

pub state_count-requires : goal.state_count-requires
state_count-requires c = c.self.invariant.fits

pub invariant_of-self : goal.invariant_of-self
invariant_of-self c = whole_read (c.state_count.ensures.among.among _ refl) (ap all_held c.state_count.ensures.rest) c.self.invariant

pub returns : goal.returns
returns c =
    let n = c.args.self.now in
    let st = stands_now c.self.invariant c.self.view_is in
    let same = c.state_count.ensures.among.among _ refl in
    reads c.self.inside.layout StateCount (state_count n.shown) c.self.view_is same (ap all_held c.state_count.ensures.rest) refl refl (λ h. c.state_count.ensures.answer _ n.shown _ (sym same) st.on_states)
