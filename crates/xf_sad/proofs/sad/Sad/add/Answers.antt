use Rattle.std.proofs.Common.{◌≡◌, ℕ, ◌<◌, false, List, Option, None, Some, length, refl, ap, sym, ◌∙◌, subst}
use Rattle.std.specs.Option.{option_map}
use Rattle.std.proofs.lemmas.Result.{IfOk-weaker, IfErr-weaker}
use Rattle.xf_types.specs.declared.call.Reply.TheVariants as reply
use Rattle.xf_types.specs.declared.state.Sa.{Sa}
use Rattle.xf_types.specs.Changes.{Answer, answer, LeaveThen}
use Rattle.xf_types.specs.Machine.{Shown}
use Rattle.xf_types.specs.StateList.{is_that, larval_replaced}
use Rattle.xf_types.specs.StateRules.{state_add}
use Rattle.xf_index.specs.Finds.{slot_found}
use Rattle.xf_sadimage.specs.States.{StatesStand}
use Rattle.xf_sadfind.specs.Replaced.{larval_in, in_the_way}
use Rattle.xf_sad.specs.Changes.{Comes, Placed}
use Rattle.xf_sad.specs.Replies.{IsAddFault, IsRoomFault, sid_told}
use Rattle.xf_sad.specs.Slots.{PoolFits, IsListed, Where, listed_in}
use Rattle.xf_sad.proofs.Found.{stands_apart}
use Rattle.xf_sad.proofs.Rules.{replaced_is, larval_listed, larval_tests, if_room, if_full, comes_is, placed_record, add_exists, add_rule, way_none, placed_reply, room_add}
use Rattle.xf_sad.proofs.sad.Sad.add.Given as given
use Rattle.xf_sad.proofs.sad.Sad.add.Goals as goal

pub place-requires-clause-back : goal.place-requires-clause-back
place-requires-clause-back g c = subst (λ (o : Option ℕ). Where (g.P.Pool.takes c.args.pool.now) o) (sym c.replaced_here-gone.ensures.answer) c.requires.back

-- ---- another one is in the way

pub returns-in-Some-clause-reply : goal.returns-in-Some-clause-reply
returns-in-Some-clause-reply g c = λ s es at st fits.
    let a = c.args.self.now.area in
    let e : c.replaced_here-gone.result ≡ slot_found (larval_in c.args.spec.now es) =
    c.replaced_here-gone.ensures.answer ∙ replaced_is a (g.C.Cells.words c.args.c.now) s es c.args.spec.now st in
    add_exists s c.args.spec.now c.in-Some.sid (in_the_way s.states c.args.spec.now) refl
    (sym (c.in_the_way_here.ensures.state s es (subst (λ (i : List ℕ). StatesStand a i s es) (sym c.replaced_here-gone.ensures.words) st) e) ∙ c.in-Some.is)

-- ---- none is

same : (g : given.Over) (c : goal.After-place g) → g.C.Cells.words c.in_the_way_here.new.c ≡ g.C.Cells.words c.args.c.now
same g c = c.in_the_way_here.ensures.words ∙ c.replaced_here-gone.ensures.words

gone_is : (g : given.Over) (c : goal.After-place g) (s : Shown) (es : List (ℕ × Sa)) → StatesStand c.args.self.now.area (g.C.Cells.words c.args.c.now) s es
    → c.replaced_here-gone.result ≡ slot_found (larval_in c.args.spec.now es)
gone_is g c s es st = c.replaced_here-gone.ensures.answer ∙ replaced_is c.args.self.now.area (g.C.Cells.words c.args.c.now) s es c.args.spec.now st

rule_is : (g : given.Over) (c : goal.After-place g) (s : Shown) (es : List (ℕ × Sa)) → StatesStand c.args.self.now.area (g.C.Cells.words c.args.c.now) s es
    → in_the_way s.states c.args.spec.now ≡ None
rule_is g c s es st =
    way_none (in_the_way s.states c.args.spec.now)
    (sym (c.in_the_way_here.ensures.state s es (subst (λ (i : List ℕ). StatesStand c.args.self.now.area i s es) (sym c.replaced_here-gone.ensures.words) st) (gone_is g c s es st)) ∙ c.in-None.is)

still : (g : given.Over) (c : goal.After-place g) (s : Shown) (es : List (ℕ × Sa)) → StatesStand c.args.self.now.area (g.C.Cells.words c.args.c.now) s es
    → StatesStand c.args.self.now.area (g.C.Cells.words c.in_the_way_here.new.c) s es
still g c s es st = subst (λ (i : List ℕ). StatesStand c.args.self.now.area i s es) (sym (same g c)) st

fits_still : (g : given.Over) (c : goal.After-place g) → PoolFits (g.P.Pool.capacity c.args.pool.now) (g.P.Pool.taken c.args.pool.now) (g.P.Pool.gives c.args.pool.now) (g.P.Pool.takes c.args.pool.now) c.args.self.now.area.slots (listed_in c.args.self.now.area (g.C.Cells.words c.args.c.now))
    → PoolFits (g.P.Pool.capacity c.args.pool.now) (g.P.Pool.taken c.args.pool.now) (g.P.Pool.gives c.args.pool.now) (g.P.Pool.takes c.args.pool.now) c.args.self.now.area.slots (listed_in c.args.self.now.area (g.C.Cells.words c.in_the_way_here.new.c))
fits_still g c fits =
    subst (λ (i : List ℕ). PoolFits (g.P.Pool.capacity c.args.pool.now) (g.P.Pool.taken c.args.pool.now) (g.P.Pool.gives c.args.pool.now) (g.P.Pool.takes c.args.pool.now) c.args.self.now.area.slots (listed_in c.args.self.now.area i)) (sym (same g c)) fits

listed : (g : given.Over) (c : goal.After-place g) (s : Shown) (es : List (ℕ × Sa)) → StatesStand c.args.self.now.area (g.C.Cells.words c.args.c.now) s es
    → Where (IsListed es) c.replaced_here-gone.result
listed g c s es st = subst (λ (o : Option ℕ). Where (IsListed es) o) (sym (gone_is g c s es st)) (larval_listed c.args.spec.now es)

-- what the rule does where there is room
room_rule : (g : given.Over) (c : goal.After-place g) (s : Shown) (es : List (ℕ × Sa)) → StatesStand c.args.self.now.area (g.C.Cells.words c.args.c.now) s es
    → length s.states < s.max_states
    → state_add s c.args.spec.now ≡ answer (reply.DoneSid s.next_sid) (LeaveThen s (is_that (larval_replaced s.states c.args.spec.now)) (Some (record { spec = c.args.spec.now; larval = false })))
room_rule g c s es st room = add_rule s c.args.spec.now (rule_is g c s es st) ∙ if_room s (is_that (larval_replaced s.states c.args.spec.now)) c.args.spec.now room

pub returns-in-None-clause-reply : goal.returns-in-None-clause-reply
returns-in-None-clause-reply g c = λ s es at st fits.
    let a = c.args.self.now.area in
    let spec = c.args.spec.now in
    placed_reply (g.P.Pool.held c.place.new.pool) s (λ t. (state_add t spec).reply) (sid_told a (g.C.Cells.words c.place.new.c)) c.place.result
    (c.place.ensures.full s es (still g c s es st) (fits_still g c fits))
    (λ live e. if_full s (is_that (larval_replaced s.states spec)) spec live e ∙ ap (λ (x : Answer). x.reply) (sym (add_rule (record s { max_states = live }) spec (rule_is g c s es st))))
    (IfOk-weaker c.place.result
    (λ slot. Placed a (g.C.Cells.words c.place.new.c) s es (g.P.Pool.gives c.args.pool.now) c.replaced_here-gone.result slot (record { spec = spec; larval = false }))
    (λ slot. sid_told a (g.C.Cells.words c.place.new.c) slot ≡ Some (state_add s spec).reply)
    (λ slot placed.
    ap (λ (o : Option Sa). option_map (λ (r : Sa). reply.DoneSid r.sid) o)
    (placed_record a (g.C.Cells.words c.place.new.c) s es (g.P.Pool.gives c.args.pool.now) c.replaced_here-gone.result slot (record { spec = spec; larval = false }) placed)
    ∙ ap (λ (x : Answer). Some x.reply) (sym (room_rule g c s es st placed.room)))
    (c.place.ensures.placed s es at.sid at.time (listed g c s es st) (still g c s es st) (fits_still g c fits)))

pub returns-in-None-clause-stands : goal.returns-in-None-clause-stands
returns-in-None-clause-stands g c = λ s es at st fits.
    let a = c.args.self.now.area in
    let spec = c.args.spec.now in
    IfOk-weaker c.place.result
    (λ slot. Placed a (g.C.Cells.words c.place.new.c) s es (g.P.Pool.gives c.args.pool.now) c.replaced_here-gone.result slot (record { spec = spec; larval = false }))
    (λ slot. Comes a (g.C.Cells.words c.place.new.c) s es (g.P.Pool.gives c.args.pool.now) (slot_found (larval_in spec es)) slot (state_add s spec))
    (λ slot placed.
    comes_is a (g.C.Cells.words c.args.c.now) (g.C.Cells.words c.place.new.c) s es (g.P.Pool.gives c.args.pool.now) (slot_found (larval_in spec es)) slot
    (is_that (larval_replaced s.states spec)) (record { spec = spec; larval = false }) (reply.DoneSid s.next_sid) (state_add s spec) st
    (subst (λ (o : Option ℕ). Placed a (g.C.Cells.words c.place.new.c) s es (g.P.Pool.gives c.args.pool.now) o slot (record { spec = spec; larval = false })) (gone_is g c s es st) placed)
    (larval_tests s es spec st.listed (stands_apart a (g.C.Cells.words c.args.c.now) s es st) at.states.sids)
    (room_rule g c s es st placed.room))
    (c.place.ensures.placed s es at.sid at.time (listed g c s es st) (still g c s es st) (fits_still g c fits))

pub returns-in-None-clause-pool : goal.returns-in-None-clause-pool
returns-in-None-clause-pool g c = λ s es lasts at st fits.
    c.place.ensures.pool s es lasts at.sid at.time (listed g c s es st) (still g c s es st) (fits_still g c fits)

pub returns-in-None-clause-fault : goal.returns-in-None-clause-fault
returns-in-None-clause-fault g c = IfErr-weaker c.place.result IsRoomFault IsAddFault room_add c.place.ensures.fault

pub returns-in-None-clause-returned : goal.returns-in-None-clause-returned
returns-in-None-clause-returned g c = λ ok. subst (λ (o : Option ℕ). Where (g.P.Pool.returned c.place.new.pool) o) c.replaced_here-gone.ensures.answer (c.place.ensures.returned ok)
