use Rattle.std.proofs.Common.{◌≡◌, ℕ, ◌<◌, false, List, ◌∷◌, ◌++◌, Option, Some, length, refl, ap, sym, ◌∙◌, subst, AllPairs, ◌⊎◌, inl, inr}
use Rattle.std.specs.Option.{option_map}
use Rattle.std.proofs.lemmas.Result.{IfOk-weaker, IfErr-weaker}
use Rattle.xf_types.specs.declared.call.Reply.TheVariants as reply
use Rattle.xf_types.specs.declared.state.Sa.{Sa}
use Rattle.xf_types.specs.Changes.{Answer, answer, LeaveThen, shown_after}
use Rattle.xf_types.specs.Machine.{Shown}
use Rattle.xf_types.specs.StateList.{has_sid, changed}
use Rattle.xf_types.specs.StateRules.{refreshed_record, state_updated}
use Rattle.xf_index.specs.Indexes.{records_in}
use Rattle.xf_index.proofs.Entries.{slots_append}
use Rattle.xf_sadidx.specs.Keys.{key_of}
use Rattle.xf_sadimage.specs.States.{StatesStand}
use Rattle.xf_sadlist.specs.Listed.{with_states}
use Rattle.xf_sad.specs.Changes.{IsAt, Comes, Placed}
use Rattle.xf_sad.specs.Replies.{IsRoomFault, IsUpdateFault, sid_told}
use Rattle.xf_sad.specs.Slots.{PoolFits, IsListed, listed_in}
use Rattle.xf_sad.proofs.Found.{state_is, refreshed_keys, stands_apart, listed_is}
use Rattle.xf_sad.proofs.Rules.{entry_tests, if_room, if_full, comes_is, placed_record, placed_reply, room_update}
use Rattle.xf_sad.proofs.Updates.{changed_is, if_larval, if_used}
use Rattle.xf_sad.proofs.sad.Sad.update_state.Given as given
use Rattle.xf_sad.proofs.sad.Sad.update_state.Goals as goal

-- no two states of the list share a state id
pairs : (a : List Sa) (s : Shown) (now : ℕ) → IsAt s now → a ≡ s.states → AllPairs (λ (x y : Sa). x.sid ≡ y.sid → ⊥) a
pairs a s now at e = subst (λ (xs : List Sa). AllPairs (λ (x y : Sa). x.sid ≡ y.sid → ⊥) xs) (sym e) at.states.sids

-- ---- a larval one

listed : (g : given.Over) (c : goal.After-place g) (front back : List (ℕ × Sa)) → IsListed (front ++ ((c.args.slot, c.args.old.now) ∷ back)) c.args.slot
listed g c front back = record { front = front; behind = back; state = c.args.old.now; whole = refl }

room_rule : (g : given.Over) (c : goal.After-place g) (s : Shown) → length s.states < s.max_states
    → state_updated s c.args.spec.now (Some c.args.old.now)
    ≡ answer (reply.DoneSid s.next_sid) (LeaveThen s (has_sid c.args.old.now.sid) (Some (record { spec = c.args.spec.now; larval = false })))
room_rule g c s room = if_larval s c.args.spec.now c.args.old.now c.if-old.true ∙ if_room s (has_sid c.args.old.now.sid) c.args.spec.now room

pub returns-then-old-clause-reply : goal.returns-then-old-clause-reply
returns-then-old-clause-reply g c = λ s front back at st fits.
    let a = c.args.self.now.area in
    let spec = c.args.spec.now in
    let old = c.args.old.now in
    let es : List (ℕ × Sa) = front ++ ((c.args.slot, old) ∷ back) in
    placed_reply (g.P.Pool.held c.place.new.pool) s (λ t. (state_updated t spec (Some old)).reply) (sid_told a (g.C.Cells.words c.place.new.c)) c.place.result
    (c.place.ensures.full s es st fits)
    (λ live e. if_full s (has_sid old.sid) spec live e ∙ ap (λ (x : Answer). x.reply) (sym (if_larval (record s { max_states = live }) spec old c.if-old.true)))
    (IfOk-weaker c.place.result
    (λ slot. Placed a (g.C.Cells.words c.place.new.c) s es (g.P.Pool.gives c.args.pool.now) (Some c.args.slot) slot (record { spec = spec; larval = false }))
    (λ slot. sid_told a (g.C.Cells.words c.place.new.c) slot ≡ Some (state_updated s spec (Some old)).reply)
    (λ slot p.
    ap (λ (o : Option Sa). option_map (λ (r : Sa). reply.DoneSid r.sid) o)
    (placed_record a (g.C.Cells.words c.place.new.c) s es (g.P.Pool.gives c.args.pool.now) (Some c.args.slot) slot (record { spec = spec; larval = false }) p)
    ∙ ap (λ (x : Answer). Some x.reply) (sym (room_rule g c s p.room)))
    (c.place.ensures.placed s es at.sid at.time (listed g c front back) st fits))

pub returns-then-old-clause-larval : goal.returns-then-old-clause-larval
returns-then-old-clause-larval g c = λ s front back larval at st fits.
    let a = c.args.self.now.area in
    let spec = c.args.spec.now in
    let old = c.args.old.now in
    let es : List (ℕ × Sa) = front ++ ((c.args.slot, old) ∷ back) in
    IfOk-weaker c.place.result
    (λ slot. Placed a (g.C.Cells.words c.place.new.c) s es (g.P.Pool.gives c.args.pool.now) (Some c.args.slot) slot (record { spec = spec; larval = false }))
    (λ slot. Comes a (g.C.Cells.words c.place.new.c) s es (g.P.Pool.gives c.args.pool.now) (Some c.args.slot) slot (state_updated s spec (Some old)))
    (λ slot p.
    comes_is a (g.C.Cells.words c.args.c.now) (g.C.Cells.words c.place.new.c) s es (g.P.Pool.gives c.args.pool.now) (Some c.args.slot) slot
    (has_sid old.sid) (record { spec = spec; larval = false }) (reply.DoneSid s.next_sid) (state_updated s spec (Some old)) st p
    (entry_tests s es c.args.slot old (record { front = front; behind = back; whole = refl }) (stands_apart a (g.C.Cells.words c.args.c.now) s es st) (pairs (records_in es) s c.args.now at st.listed))
    (room_rule g c s p.room))
    (c.place.ensures.placed s es at.sid at.time (listed g c front back) st fits)

pub returns-then-old-clause-pool : goal.returns-then-old-clause-pool
returns-then-old-clause-pool g c = λ s front back lasts at st fits.
    c.place.ensures.pool s (front ++ ((c.args.slot, c.args.old.now) ∷ back)) lasts at.sid at.time (listed g c front back) st fits

pub returns-then-old-clause-fault : goal.returns-then-old-clause-fault
returns-then-old-clause-fault g c = IfErr-weaker c.place.result IsRoomFault IsUpdateFault room_update c.place.ensures.fault

pub returns-then-old-clause-given : goal.returns-then-old-clause-given
returns-then-old-clause-given g c =
    IfOk-weaker c.place.result (λ slot. g.P.Pool.gives c.args.pool.now slot) (λ new. g.P.Pool.gives c.args.pool.now new ⊎ (new ≡ c.args.slot)) (λ new h. inl h) c.place.ensures.given

-- ---- one in use

pub returns-clause-given : goal.returns-clause-given
returns-clause-given g c = inr refl

fresh_is : (g : given.Over) (c : goal.After-rewrite g) → c.refreshed-fresh.result ≡ refreshed_record c.args.spec.now c.args.old.now
fresh_is g c = c.refreshed-fresh.ensures

fresh : (g : given.Over) (c : goal.After-rewrite g) (s : Shown) (front back : List (ℕ × Sa)) → StatesStand c.args.self.now.area (g.C.Cells.words c.args.c.now) s (front ++ ((c.args.slot, c.args.old.now) ∷ back))
    → StatesStand c.args.self.now.area (g.C.Cells.words c.rewrite.new.c) (with_states s (records_in (front ++ ((c.args.slot, refreshed_record c.args.spec.now c.args.old.now) ∷ back))))
    (front ++ ((c.args.slot, refreshed_record c.args.spec.now c.args.old.now) ∷ back))
fresh g c s front back st =
    let a = c.args.self.now.area in
    let f : c.refreshed-fresh.result ≡ refreshed_record c.args.spec.now c.args.old.now = fresh_is g c in
    subst (λ (x : Sa). StatesStand a (g.C.Cells.words c.rewrite.new.c) (with_states s (records_in (front ++ ((c.args.slot, x) ∷ back)))) (front ++ ((c.args.slot, x) ∷ back))) f
    (c.rewrite.ensures.stands s front back c.args.old.now (λ kind. ap (key_of kind) f ∙ refreshed_keys c.args.spec.now c.args.old.now kind) st)

pub returns-clause-reply : goal.returns-clause-reply
returns-clause-reply g c = λ s front back at st fits.
    let a = c.args.self.now.area in
    let spec = c.args.spec.now in
    let old = c.args.old.now in
    ap (λ (o : Option Sa). option_map (λ (r : Sa). reply.DoneSid r.sid) o)
    (state_is a (g.C.Cells.words c.rewrite.new.c) _ c.args.slot front back (refreshed_record spec old) (fresh g c s front back st))
    ∙ ap (λ (x : Answer). Some x.reply) (sym (if_used s spec old c.if-old.false))

pub returns-clause-used : goal.returns-clause-used
returns-clause-used g c = λ s front back used at st.
    let a = c.args.self.now.area in
    let spec = c.args.spec.now in
    let old = c.args.old.now in
    let e : records_in (front ++ ((c.args.slot, refreshed_record spec old) ∷ back)) ≡ changed old.sid (refreshed_record spec) s.states =
    sym (changed_is c.args.slot old (refreshed_record spec) front back (pairs (records_in (front ++ ((c.args.slot, old) ∷ back))) s c.args.now at st.listed))
    ∙ ap (λ (xs : List Sa). changed old.sid (refreshed_record spec) xs) st.listed in (
      refl,
      subst (λ (x : Answer). StatesStand a (g.C.Cells.words c.rewrite.new.c) (shown_after s x.change) (front ++ ((c.args.slot, refreshed_record spec old) ∷ back))) (sym (if_used s spec old used))
          (subst (λ (rs : List Sa). StatesStand a (g.C.Cells.words c.rewrite.new.c) (with_states s rs) (front ++ ((c.args.slot, refreshed_record spec old) ∷ back))) e (fresh g c s front back st)),
    )

pub returns-clause-pool : goal.returns-clause-pool
returns-clause-pool g c = λ s front back lasts at st fits.
    let a = c.args.self.now.area in
    let old = c.args.old.now in
    let new : Sa = refreshed_record c.args.spec.now old in
    let same : listed_in a (g.C.Cells.words c.args.c.now) ≡ listed_in a (g.C.Cells.words c.rewrite.new.c) =
    listed_is a (g.C.Cells.words c.args.c.now) s (front ++ ((c.args.slot, old) ∷ back)) st ∙ slots_append front ((c.args.slot, old) ∷ back)
    ∙ sym (slots_append front ((c.args.slot, new) ∷ back)) ∙ sym (listed_is a (g.C.Cells.words c.rewrite.new.c) _ (front ++ ((c.args.slot, new) ∷ back)) (fresh g c s front back st)) in
    subst (λ (xs : List ℕ). PoolFits (g.P.Pool.capacity c.args.pool.now) (g.P.Pool.taken c.args.pool.now) (g.P.Pool.gives c.args.pool.now) (g.P.Pool.takes c.args.pool.now) a.slots xs) same fits
