use Rattle.std.proofs.Common.{ℕ, List, refl, sym, ◌∙◌, subst}
use Rattle.xf_types.specs.declared.policy.Policy.{Policy}
use Rattle.xf_types.specs.Machine.{Shown}
use Rattle.xf_types.specs.PolicyRules.{policy_added_if_room}
use Rattle.xf_chain.specs.Lists.{Misses}
use Rattle.xf_index.specs.Indexes.{slots_in}
use Rattle.xf_inexact.specs.Whole.{SpdStands}
use Rattle.xf_spd.specs.declared.faults.SpdFault.{SpdFault}
use Rattle.xf_spd.specs.Replies.{IsRoomFault}
use Rattle.xf_spd.specs.Changes.{IsAt, Adds}
use Rattle.xf_image.specs.Readings.{listed_in}
use Rattle.xf_image.specs.Entries.{new_policy}
use Rattle.xf_spd.specs.Slots.{PoolFits}
use Rattle.xf_spd.proofs.Inserted.{full_is, free_entry, room_rule, with_splits}
use Rattle.xf_spd.proofs.Pools.{pool_added}
use Rattle.xf_image.proofs.Listed.{listed_is}
use Rattle.xf_spd.proofs.spd.Spd.add_new.Given as given
use Rattle.xf_spd.proofs.spd.Spd.add_new.Goals as goal

pub returns-in-Err-clause-reply : goal.returns-in-Err-clause-reply
returns-in-Err-clause-reply g c = λ s es at stands fits.
    full_is c.args.self.now.area (g.C.Cells.words c.args.c.now) s es c.args.spec.now (g.P.Pool.taken c.args.pool.now) (g.P.Pool.held c.taken.new.pool) c.in-Err.fault stands
    c.in-Err.ensures.answer.0 fits.taken (c.in-Err.ensures.full.0 refl ∙ fits.capacity)

miss : (g : given.Over) (c : goal.After-add g) (s : Shown) (es : List (ℕ × Policy)) → SpdStands c.args.self.now.area (g.C.Cells.words c.args.c.now) s es
    → PoolFits (g.P.Pool.capacity c.args.pool.now) (g.P.Pool.taken c.args.pool.now) (g.P.Pool.gives c.args.pool.now) (g.P.Pool.takes c.args.pool.now) c.args.self.now.area.slots (listed_in c.args.self.now.area (g.C.Cells.words c.args.c.now)) → Misses c.in-Ok.slot (slots_in es)
miss g c s es stands fits =
    free_entry c.args.self.now.area (g.C.Cells.words c.args.c.now) s es c.in-Ok.slot stands (fits.free c.in-Ok.slot c.in-Ok.ensures.answer.could)

adds : (g : given.Over) (c : goal.After-add g) (s : Shown) (es : List (ℕ × Policy)) → IsAt s c.args.now → SpdStands c.args.self.now.area (g.C.Cells.words c.args.c.now) s es
    → PoolFits (g.P.Pool.capacity c.args.pool.now) (g.P.Pool.taken c.args.pool.now) (g.P.Pool.gives c.args.pool.now) (g.P.Pool.takes c.args.pool.now) c.args.self.now.area.slots (listed_in c.args.self.now.area (g.C.Cells.words c.args.c.now))
    → Adds c.args.self.now.area (g.C.Cells.words c.add.new.c) s es c.in-Ok.slot c.add.result c.args.spec.now (policy_added_if_room s c.args.spec.now)
adds g c s es at stands fits =
    let m = miss g c s es stands fits in
    room_rule c.args.self.now.area (g.C.Cells.words c.args.c.now) (g.C.Cells.words c.add.new.c) s es c.in-Ok.slot c.add.result c.args.spec.now stands
    (c.requires.below c.in-Ok.slot c.in-Ok.ensures.answer.could) m (c.add.ensures.adds s es at stands m)

pub returns-in-Ok-clause-reply : goal.returns-in-Ok-clause-reply
returns-in-Ok-clause-reply g c = λ s es at stands fits. sym (adds g c s es at stands fits).reply

pub returns-in-Ok-clause-adds : goal.returns-in-Ok-clause-adds
returns-in-Ok-clause-adds g c = λ s es at stands fits.
    record { slot = c.in-Ok.slot; given = c.in-Ok.ensures.answer.could; adds = adds g c s es at stands fits }

pub returns-in-Ok-clause-pool : goal.returns-in-Ok-clause-pool
returns-in-Ok-clause-pool g c = λ s es lasts at stands fits.
    let k = adds g c s es at stands fits in
    let split = with_splits c.in-Ok.slot (new_policy s c.args.spec.now c.add.result) es in
    pool_added _ _ _ _ _ c.in-Ok.slot _ _ _ _ _ _ _ split.front split.back c.in-Ok.ensures.capacity fits c.in-Ok.ensures.answer lasts
    (listed_is c.args.self.now.area (g.C.Cells.words c.args.c.now) s es stands.list ∙ split.old)
    (listed_is c.args.self.now.area (g.C.Cells.words c.add.new.c) _ _ k.stands.list ∙ split.whole)

pub returns-in-Err-clause-fault : goal.returns-in-Err-clause-fault
returns-in-Err-clause-fault g c = subst (λ (f : SpdFault). IsRoomFault f) (sym c.in-Err.ensures.answer.0) tt

pub returns-in-Err-clause-pool : goal.returns-in-Err-clause-pool
returns-in-Err-clause-pool g c = λ s es lasts at stands fits.
    let k = c.in-Err.ensures.answer.1 in
    record {
      capacity = c.in-Err.ensures.capacity ∙ fits.capacity;
      taken = k.count ∙ fits.taken;
      below = λ x h. fits.below x (k.fewer x h);
      free = λ x h. fits.free x (k.fewer x h);
      back = λ x h. k.still x (fits.back x h);
    }
