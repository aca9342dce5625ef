use Rattle.std.proofs.Common.{ℕ, List, [], ◌∷◌, ◌++◌, refl, sym, ◌∙◌, subst}
use Rattle.xf_types.specs.declared.state.Sa.{Sa}
use Rattle.xf_types.specs.Machine.{Shown}
use Rattle.xf_chain.specs.Lists.{Misses}
use Rattle.xf_index.specs.Indexes.{slots_in}
use Rattle.xf_index.proofs.Entries.{slots_append}
use Rattle.xf_sadimage.specs.States.{StatesStand}
use Rattle.xf_sad.specs.declared.faults.SadFault.{SadFault}
use Rattle.xf_sad.specs.Changes.{entries_but, new_state}
use Rattle.xf_sad.specs.Replies.{IsRoomFault}
use Rattle.xf_sad.specs.Slots.{PoolFits, listed_in}
use Rattle.xf_sad.proofs.Pools.{pool_added, pool_kept}
use Rattle.xf_sad.proofs.Found.{listed_is, listed_length, room_left, stands_apart, stands_within}
use Rattle.xf_sad.proofs.Placings.{where_weaker, pool_replaced}
use Rattle.xf_sad.proofs.sad.Sad.place.Given as given
use Rattle.xf_sad.proofs.sad.Sad.place.Goals as goal

-- ---- no slot

pub returns-in-Err-clause-full : goal.returns-in-Err-clause-full
returns-in-Err-clause-full g c = λ s es st fits. record {
  live = g.P.Pool.taken c.args.pool.now;
  is = c.in-Err.ensures.answer.0;
  all = fits.taken ∙ listed_length c.args.self.now.area (g.C.Cells.words c.args.c.now) s es st;
  room = c.in-Err.ensures.full.0 refl ∙ fits.capacity ∙ sym st.room;
}

pub returns-in-Err-clause-fault : goal.returns-in-Err-clause-fault
returns-in-Err-clause-fault g c = subst (λ (f : SadFault). IsRoomFault f) (sym c.in-Err.ensures.answer.0) tt

pub returns-in-Err-clause-pool : goal.returns-in-Err-clause-pool
returns-in-Err-clause-pool g c = λ s es lasts small time listed st fits.
    let a = c.args.self.now.area in
    let xs : List ℕ = listed_in a (g.C.Cells.words c.args.c.now) in
    subst (λ (n : ℕ). PoolFits n (g.P.Pool.taken c.taken.new.pool) (g.P.Pool.gives c.taken.new.pool) (g.P.Pool.takes c.taken.new.pool) a.slots xs) (sym c.in-Err.ensures.capacity)
    (pool_kept _ _ _ _ _ _ _ _ _ _ xs fits c.in-Err.ensures.answer.1)

-- ---- a slot

pub give_back-requires : goal.give_back-requires
give_back-requires g c =
    where_weaker (g.P.Pool.takes c.args.pool.now) (g.P.Pool.takes c.taken.new.pool) c.args.gone c.in-Ok.ensures.answer.still c.requires.back

miss : (g : given.Over) (c : goal.After-give_back g) (s : Shown) (es : List (ℕ × Sa)) → StatesStand c.args.self.now.area (g.C.Cells.words c.args.c.now) s es
    → PoolFits (g.P.Pool.capacity c.args.pool.now) (g.P.Pool.taken c.args.pool.now) (g.P.Pool.gives c.args.pool.now) (g.P.Pool.takes c.args.pool.now) c.args.self.now.area.slots (listed_in c.args.self.now.area (g.C.Cells.words c.args.c.now))
    → Misses c.in-Ok.slot (slots_in es)
miss g c s es st fits =
    subst (λ (xs : List ℕ). Misses c.in-Ok.slot xs) (listed_is c.args.self.now.area (g.C.Cells.words c.args.c.now) s es st) (fits.free c.in-Ok.slot c.in-Ok.ensures.answer.could)

pub returns-in-Ok-clause-placed : goal.returns-in-Ok-clause-placed
returns-in-Ok-clause-placed g c = λ s es small time listed st fits.
    let a = c.args.self.now.area in
    let m = miss g c s es st fits in
    record {
      given = c.in-Ok.ensures.answer.could;
      fresh = m;
      room = room_left a (g.C.Cells.words c.args.c.now) s es c.in-Ok.slot st (c.requires.below c.in-Ok.slot c.in-Ok.ensures.answer.could) m;
      stands = c.replace.ensures.stands s es small time m listed st;
    }

pub returns-in-Ok-clause-pool : goal.returns-in-Ok-clause-pool
returns-in-Ok-clause-pool g c = λ s es lasts small time listed st fits.
    let a = c.args.self.now.area in
    let i : List ℕ = g.C.Cells.words c.args.c.now in
    let m = miss g c s es st fits in
    let old = c.args.pool.now in
    let mid = c.taken.new.pool in
    let new = c.give_back.new.pool in
    let slot = c.in-Ok.slot in
    let one : PoolFits (g.P.Pool.capacity old) (g.P.Pool.taken mid) (g.P.Pool.gives mid) (g.P.Pool.takes mid) a.slots (slots_in es ++ (slot ∷ [])) =
    pool_added _ _ _ _ slot _ _ _ _ _ (slots_in es)
    (subst (λ (xs : List ℕ). PoolFits (g.P.Pool.capacity old) (g.P.Pool.taken old) (g.P.Pool.gives old) (g.P.Pool.takes old) a.slots xs) (listed_is a i s es st) fits)
    c.in-Ok.ensures.answer lasts in
    let two : PoolFits (g.P.Pool.capacity old) (g.P.Pool.taken new) (g.P.Pool.gives new) (g.P.Pool.takes new) a.slots (slots_in (entries_but c.args.gone es) ++ (slot ∷ [])) =
    pool_replaced _ _ _ _ slot _ _ _ _ _ _ _ c.args.gone es listed (stands_apart a i s es st) (stands_within a i s es st) m one c.give_back.ensures.back (c.in-Ok.ensures.lasts ∙ lasts) in
    let new_slots = listed_is a (g.C.Cells.words c.replace.new.c) _ _ (c.replace.ensures.stands s es small time m listed st)
    ∙ slots_append (entries_but c.args.gone es) ((slot, new_state s (record { spec = c.args.spec.now; larval = c.args.larval })) ∷ []) in
    subst (λ (n : ℕ). PoolFits n (g.P.Pool.taken new) (g.P.Pool.gives new) (g.P.Pool.takes new) a.slots (listed_in a (g.C.Cells.words c.replace.new.c)))
    (sym (c.give_back.ensures.capacity ∙ c.in-Ok.ensures.capacity))
    (subst (λ (xs : List ℕ). PoolFits (g.P.Pool.capacity old) (g.P.Pool.taken new) (g.P.Pool.gives new) (g.P.Pool.takes new) a.slots xs) (sym new_slots) two)
