use Rattle.std.proofs.Common.{◌∙◌, ap, arith}
use Rattle.xf_resize.specs.Rooms.{StatesChained}
use Rattle.xf_sadimage.specs.States.{StatesStand}
use Rattle.xf_sad.specs.Replies.{found_reply}
use Rattle.xf_sad.proofs.sad.Sad.find.Goals as goal

pub returns-clause-loads : goal.returns-clause-loads
returns-clause-loads g c = λ image s entries agrees st.
    let a = c.living-slot.ensures.loads image entries agrees (StatesChained.indexed (StatesStand.chained st)) in
    omega (arith, a)

pub returns-clause-state : goal.returns-clause-state
returns-clause-state g c = λ image s entries agrees st.
    c.found_reply.ensures ∙ ap found_reply (c.living-slot.ensures.state image entries agrees (StatesChained.indexed (StatesStand.chained st)) (StatesChained.records (StatesStand.chained st)))
