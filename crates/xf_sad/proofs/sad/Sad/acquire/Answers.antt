use Rattle.std.proofs.Common.{◌≡◌, ℕ, ◌<◌, true, List, [], ◌∷◌, ◌++◌, Option, Some, length, refl, ap, sym, ◌∙◌, subst}
use Rattle.std.specs.Option.{option_map}
use Rattle.xf_types.specs.declared.call.Reply.TheVariants as reply
use Rattle.xf_types.specs.declared.state.Sa.{Sa}
use Rattle.xf_types.specs.declared.state.SaSpec.{SaSpec}
use Rattle.xf_types.specs.Changes.{Answer}
use Rattle.xf_types.specs.Counters.{next_in}
use Rattle.xf_types.specs.FlowRules.{last_seq, free_seq, acquired_spec, acquired}
use Rattle.xf_types.specs.Machine.{Shown}
use Rattle.xf_chain.specs.Lists.{Misses}
use Rattle.xf_index.specs.Indexes.{slots_in}
use Rattle.xf_index.proofs.Entries.{slots_append}
use Rattle.xf_sadimage.specs.States.{StatesStand}
use Rattle.xf_sadlist.specs.Listed.{with_state, with_next_seq}
use Rattle.xf_sad.specs.declared.faults.SadFault.{SadFault}
use Rattle.xf_sad.specs.Changes.{IsAt, new_state}
use Rattle.xf_sad.specs.Replies.{IsRoomFault, FaultIs}
use Rattle.xf_sad.specs.Slots.{PoolFits, listed_in}
use Rattle.xf_sad.proofs.Pools.{pool_added, pool_kept}
use Rattle.xf_sad.proofs.Found.{state_is, listed_is, listed_length, room_left}
use Rattle.xf_sad.proofs.Acquired.{acquired_new, acquired_room, acquired_full, acquired_comes}
use Rattle.xf_sad.proofs.sad.Sad.acquire.Given as given
use Rattle.xf_sad.proofs.sad.Sad.acquire.Goals as goal

-- ---- no slot

pub returns-in-Err-clause-reply : goal.returns-in-Err-clause-reply
returns-in-Err-clause-reply g c = λ s es at st fits.
    let a = c.args.self.now.area in
    let all : g.P.Pool.taken c.args.pool.now ≡ length s.states = fits.taken ∙ listed_length a (g.C.Cells.words c.args.c.now) s es st in
    subst (λ (f : SadFault). FaultIs (g.P.Pool.held c.taken.new.pool) s (λ m. (acquired m c.args.p.now c.args.t.now c.args.src.now c.args.dst.now).reply) f) (sym c.in-Err.ensures.answer.0)
    (record {
      all = all;
      waits = refl;
      room = c.in-Err.ensures.full.0 refl ∙ fits.capacity ∙ sym st.room;
      reply = acquired_full s c.args.p.now c.args.t.now c.args.src.now c.args.dst.now (g.P.Pool.taken c.args.pool.now) all;
    })

pub returns-in-Err-clause-fault : goal.returns-in-Err-clause-fault
returns-in-Err-clause-fault g c = subst (λ (f : SadFault). IsRoomFault f) (sym c.in-Err.ensures.answer.0) tt

pub returns-in-Err-clause-pool : goal.returns-in-Err-clause-pool
returns-in-Err-clause-pool g c = λ s es lasts at st fits.
    let a = c.args.self.now.area in
    subst (λ (i : List ℕ). PoolFits (g.P.Pool.capacity c.taken.new.pool) (g.P.Pool.taken c.taken.new.pool) (g.P.Pool.gives c.taken.new.pool) (g.P.Pool.takes c.taken.new.pool) a.slots (listed_in a i)) (sym c.free_seq_here-seq.ensures.words)
    (subst (λ (n : ℕ). PoolFits n (g.P.Pool.taken c.taken.new.pool) (g.P.Pool.gives c.taken.new.pool) (g.P.Pool.takes c.taken.new.pool) a.slots (listed_in a (g.C.Cells.words c.args.c.now))) (sym c.in-Err.ensures.capacity)
    (pool_kept _ _ _ _ _ _ _ _ _ _ (listed_in a (g.C.Cells.words c.args.c.now)) fits c.in-Err.ensures.answer.1))

-- ---- a slot

miss : (g : given.Over) (c : goal.After-list_acquired g) (s : Shown) (es : List (ℕ × Sa)) → StatesStand c.args.self.now.area (g.C.Cells.words c.args.c.now) s es
    → PoolFits (g.P.Pool.capacity c.args.pool.now) (g.P.Pool.taken c.args.pool.now) (g.P.Pool.gives c.args.pool.now) (g.P.Pool.takes c.args.pool.now) c.args.self.now.area.slots (listed_in c.args.self.now.area (g.C.Cells.words c.args.c.now))
    → Misses c.in-Ok.slot (slots_in es)
miss g c s es st fits =
    subst (λ (xs : List ℕ). Misses c.in-Ok.slot xs) (listed_is c.args.self.now.area (g.C.Cells.words c.args.c.now) s es st) (fits.free c.in-Ok.slot c.in-Ok.ensures.answer.could)

-- the sequence number is the first free one
seq_is : (g : given.Over) (c : goal.After-list_acquired g) (s : Shown) (es : List (ℕ × Sa)) → IsAt s c.args.now → StatesStand c.args.self.now.area (g.C.Cells.words c.args.c.now) s es
    → c.free_seq_here-seq.result ≡ free_seq s
seq_is g c s es at st = c.free_seq_here-seq.ensures.state s es at.range st

stands : (g : given.Over) (c : goal.After-list_acquired g) (s : Shown) (es : List (ℕ × Sa)) → IsAt s c.args.now → StatesStand c.args.self.now.area (g.C.Cells.words c.args.c.now) s es
    → Misses c.in-Ok.slot (slots_in es)
    → StatesStand c.args.self.now.area (g.C.Cells.words c.list_acquired.new.c)
    (with_state (with_next_seq s (next_in last_seq (free_seq s))) (new_state s (acquired_new c.args.p.now c.args.t.now c.args.src.now c.args.dst.now (free_seq s))))
    (es ++ ((c.in-Ok.slot, new_state s (acquired_new c.args.p.now c.args.t.now c.args.src.now c.args.dst.now (free_seq s))) ∷ []))
stands g c s es at st m =
    let a = c.args.self.now.area in
    let w : List ℕ = g.C.Cells.words c.list_acquired.new.c in
    let seq = seq_is g c s es at st in
    let next : c.seq_after-next.result ≡ next_in last_seq (free_seq s) = c.seq_after-next.ensures.is ∙ ap (λ (n : ℕ). next_in last_seq n) seq in
    let spec : c.acquired_spec-spec.result ≡ acquired_spec c.args.p.now c.args.t.now c.args.src.now c.args.dst.now (free_seq s) =
    c.acquired_spec-spec.ensures ∙ ap (λ (n : ℕ). acquired_spec c.args.p.now c.args.t.now c.args.src.now c.args.dst.now n) seq in
    subst (λ (n : ℕ). StatesStand a w (with_state (with_next_seq s n) (new_state s (acquired_new c.args.p.now c.args.t.now c.args.src.now c.args.dst.now (free_seq s))))
    (es ++ ((c.in-Ok.slot, new_state s (acquired_new c.args.p.now c.args.t.now c.args.src.now c.args.dst.now (free_seq s))) ∷ []))) next
    (subst (λ (x : SaSpec). StatesStand a w (with_state (with_next_seq s c.seq_after-next.result) (new_state s (record { spec = x; larval = true })))
    (es ++ ((c.in-Ok.slot, new_state s (record { spec = x; larval = true })) ∷ []))) spec
    (c.list_acquired.ensures.stands s es at.sid at.time m (subst (λ (i : List ℕ). StatesStand a i s es) (sym c.free_seq_here-seq.ensures.words) st)))

room : (g : given.Over) (c : goal.After-list_acquired g) (s : Shown) (es : List (ℕ × Sa)) → StatesStand c.args.self.now.area (g.C.Cells.words c.args.c.now) s es
    → Misses c.in-Ok.slot (slots_in es) → length s.states < s.max_states
room g c s es st m =
    room_left c.args.self.now.area (g.C.Cells.words c.args.c.now) s es c.in-Ok.slot st (c.requires.below c.in-Ok.slot c.in-Ok.ensures.answer.could) m

pub returns-in-Ok-clause-reply : goal.returns-in-Ok-clause-reply
returns-in-Ok-clause-reply g c = λ s es at st fits.
    let a = c.args.self.now.area in
    let m = miss g c s es st fits in
    ap (λ (o : Option Sa). option_map (λ (r : Sa). reply.Acquire r.spec.seq) o)
    (state_is a (g.C.Cells.words c.list_acquired.new.c) _ c.in-Ok.slot es [] (new_state s (acquired_new c.args.p.now c.args.t.now c.args.src.now c.args.dst.now (free_seq s))) (stands g c s es at st m))
    ∙ ap (λ (x : Answer). Some x.reply) (sym (acquired_room s c.args.p.now c.args.t.now c.args.src.now c.args.dst.now (room g c s es st m)))

pub returns-in-Ok-clause-stands : goal.returns-in-Ok-clause-stands
returns-in-Ok-clause-stands g c = λ s es at st fits.
    let m = miss g c s es st fits in
    acquired_comes c.args.self.now.area (g.C.Cells.words c.args.c.now) (g.C.Cells.words c.list_acquired.new.c) s es (g.P.Pool.gives c.args.pool.now) c.in-Ok.slot
    c.args.p.now c.args.t.now c.args.src.now c.args.dst.now st c.in-Ok.ensures.answer.could m (room g c s es st m) (stands g c s es at st m)

pub returns-in-Ok-clause-pool : goal.returns-in-Ok-clause-pool
returns-in-Ok-clause-pool g c = λ s es lasts at st fits.
    let a = c.args.self.now.area in
    let m = miss g c s es st fits in
    let old = c.args.pool.now in
    let new = c.taken.new.pool in
    let one : PoolFits (g.P.Pool.capacity old) (g.P.Pool.taken new) (g.P.Pool.gives new) (g.P.Pool.takes new) a.slots (slots_in es ++ (c.in-Ok.slot ∷ [])) =
    pool_added _ _ _ _ c.in-Ok.slot _ _ _ _ _ (slots_in es)
    (subst (λ (xs : List ℕ). PoolFits (g.P.Pool.capacity old) (g.P.Pool.taken old) (g.P.Pool.gives old) (g.P.Pool.takes old) a.slots xs) (listed_is a (g.C.Cells.words c.args.c.now) s es st) fits)
    c.in-Ok.ensures.answer lasts in
    let slots = listed_is a (g.C.Cells.words c.list_acquired.new.c) _ _ (stands g c s es at st m)
    ∙ slots_append es ((c.in-Ok.slot, new_state s (acquired_new c.args.p.now c.args.t.now c.args.src.now c.args.dst.now (free_seq s))) ∷ []) in
    subst (λ (n : ℕ). PoolFits n (g.P.Pool.taken new) (g.P.Pool.gives new) (g.P.Pool.takes new) a.slots (listed_in a (g.C.Cells.words c.list_acquired.new.c))) (sym c.in-Ok.ensures.capacity)
    (subst (λ (xs : List ℕ). PoolFits (g.P.Pool.capacity old) (g.P.Pool.taken new) (g.P.Pool.gives new) (g.P.Pool.takes new) a.slots xs) (sym slots) one)
