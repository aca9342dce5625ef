use Rattle.std.proofs.Common.{◌≡◌, ℕ, ◌<◌, true, List, Option, None, Some, length, ap, sym, ◌∙◌, subst}
use Rattle.std.specs.Option.{option_map}
use Rattle.std.specs.Prelude.{IfOk}
use Rattle.std.proofs.lemmas.Result.{IfOk-weaker, IfErr-weaker}
use Rattle.xf_types.specs.declared.call.Reply.TheVariants as reply
use Rattle.xf_types.specs.declared.state.Sa.{Sa}
use Rattle.xf_types.specs.declared.state.SaSpec.{SaSpec}
use Rattle.xf_types.specs.Changes.{Answer, answer, LeaveThen}
use Rattle.xf_types.specs.Machine.{Shown}
use Rattle.xf_types.specs.StateList.{is_none}
use Rattle.xf_types.specs.StateRules as rule
use Rattle.xf_sadimage.specs.States.{StatesStand}
use Rattle.xf_sad.specs.Changes.{IsAt, Comes, Placed}
use Rattle.xf_sad.specs.Replies.{IsAllocFault, IsRoomFault, spi_told}
use Rattle.xf_sad.specs.Slots.{PoolFits, listed_in}
use Rattle.xf_sad.proofs.Rules.{comes_is, placed_record, placed_reply, no_tests, room_alloc}
use Rattle.xf_sad.proofs.Fresh.{alloc_bad, alloc_rule, alloc_room, alloc_full}
use Rattle.xf_sad.proofs.sad.Sad.alloc_spi.Given as given
use Rattle.xf_sad.proofs.sad.Sad.alloc_spi.Goals as goal

pub returns-then-is_empty_range-clause-reply : goal.returns-then-is_empty_range-clause-reply
returns-then-is_empty_range-clause-reply g c = λ s es at st fits. alloc_bad s c.args.spec.now (sym c.is_empty_range.ensures ∙ c.if-is_empty_range.true)

pub returns-in-None-clause-reply : goal.returns-in-None-clause-reply
returns-in-None-clause-reply g c = λ s es at st fits.
    sym (ap (λ (x : Answer). x.reply) (alloc_rule s c.args.spec.now None (sym c.is_empty_range.ensures ∙ c.if-is_empty_range.false)
    (sym (c.free_spi_here.ensures.state s es st) ∙ c.in-None.is)))

-- ---- there is a free one

rule_is : (g : given.Over) (c : goal.After-place g) (s : Shown) (es : List (ℕ × Sa)) → StatesStand c.args.self.now.area (g.C.Cells.words c.args.c.now) s es → (m : ℕ)
    → rule.alloc_spi (record s { max_states = m }) c.args.spec.now ≡ rule.allocated (record s { max_states = m }) c.args.spec.now (Some c.in-Some.spi)
rule_is g c s es st m =
    alloc_rule (record s { max_states = m }) c.args.spec.now (Some c.in-Some.spi) (sym c.is_empty_range.ensures ∙ c.if-is_empty_range.false)
    (sym (c.free_spi_here.ensures.state s es st) ∙ c.in-Some.is)

room_rule : (g : given.Over) (c : goal.After-place g) (s : Shown) (es : List (ℕ × Sa)) → StatesStand c.args.self.now.area (g.C.Cells.words c.args.c.now) s es
    → length s.states < s.max_states
    → rule.alloc_spi s c.args.spec.now
    ≡ answer (reply.DoneSpi c.in-Some.spi s.next_sid) (LeaveThen s is_none (Some (record { spec = rule.larval_spec c.args.spec.now c.in-Some.spi; larval = true })))
room_rule g c s es st room = rule_is g c s es st s.max_states ∙ alloc_room s c.args.spec.now c.in-Some.spi room

still : (g : given.Over) (c : goal.After-place g) (s : Shown) (es : List (ℕ × Sa)) → StatesStand c.args.self.now.area (g.C.Cells.words c.args.c.now) s es
    → StatesStand c.args.self.now.area (g.C.Cells.words c.free_spi_here.new.c) s es
still g c s es st = subst (λ (i : List ℕ). StatesStand c.args.self.now.area i s es) (sym c.free_spi_here.ensures.words) st

fits_still : (g : given.Over) (c : goal.After-place g) → PoolFits (g.P.Pool.capacity c.args.pool.now) (g.P.Pool.taken c.args.pool.now) (g.P.Pool.gives c.args.pool.now) (g.P.Pool.takes c.args.pool.now) c.args.self.now.area.slots (listed_in c.args.self.now.area (g.C.Cells.words c.args.c.now))
    → PoolFits (g.P.Pool.capacity c.args.pool.now) (g.P.Pool.taken c.args.pool.now) (g.P.Pool.gives c.args.pool.now) (g.P.Pool.takes c.args.pool.now) c.args.self.now.area.slots (listed_in c.args.self.now.area (g.C.Cells.words c.free_spi_here.new.c))
fits_still g c fits =
    subst (λ (i : List ℕ). PoolFits (g.P.Pool.capacity c.args.pool.now) (g.P.Pool.taken c.args.pool.now) (g.P.Pool.gives c.args.pool.now) (g.P.Pool.takes c.args.pool.now) c.args.self.now.area.slots (listed_in c.args.self.now.area i)) (sym c.free_spi_here.ensures.words) fits

placed : (g : given.Over) (c : goal.After-place g) (s : Shown) (es : List (ℕ × Sa)) → IsAt s c.args.now → StatesStand c.args.self.now.area (g.C.Cells.words c.args.c.now) s es
    → PoolFits (g.P.Pool.capacity c.args.pool.now) (g.P.Pool.taken c.args.pool.now) (g.P.Pool.gives c.args.pool.now) (g.P.Pool.takes c.args.pool.now) c.args.self.now.area.slots (listed_in c.args.self.now.area (g.C.Cells.words c.args.c.now))
    → IfOk c.place.result (λ slot. Placed c.args.self.now.area (g.C.Cells.words c.place.new.c) s es (g.P.Pool.gives c.args.pool.now) None slot (record { spec = rule.larval_spec c.args.spec.now c.in-Some.spi; larval = true }))
placed g c s es at st fits =
    subst (λ (x : SaSpec). IfOk c.place.result (λ slot. Placed c.args.self.now.area (g.C.Cells.words c.place.new.c) s es (g.P.Pool.gives c.args.pool.now) None slot (record { spec = x; larval = true })))
    c.larval_spec-larval.ensures
    (c.place.ensures.placed s es at.sid at.time tt (still g c s es st) (fits_still g c fits))

pub returns-in-Some-clause-reply : goal.returns-in-Some-clause-reply
returns-in-Some-clause-reply g c = λ s es at st fits.
    let a = c.args.self.now.area in
    let spec = c.args.spec.now in
    placed_reply (g.P.Pool.held c.place.new.pool) s (λ t. (rule.alloc_spi t spec).reply) (spi_told a (g.C.Cells.words c.place.new.c)) c.place.result
    (c.place.ensures.full s es (still g c s es st) (fits_still g c fits))
    (λ live e. alloc_full s spec c.in-Some.spi live e ∙ ap (λ (x : Answer). x.reply) (sym (rule_is g c s es st live)))
    (IfOk-weaker c.place.result
    (λ slot. Placed a (g.C.Cells.words c.place.new.c) s es (g.P.Pool.gives c.args.pool.now) None slot (record { spec = rule.larval_spec spec c.in-Some.spi; larval = true }))
    (λ slot. spi_told a (g.C.Cells.words c.place.new.c) slot ≡ Some (rule.alloc_spi s spec).reply)
    (λ slot p.
    ap (λ (o : Option Sa). option_map (λ (r : Sa). reply.DoneSpi r.spec.spi r.sid) o)
    (placed_record a (g.C.Cells.words c.place.new.c) s es (g.P.Pool.gives c.args.pool.now) None slot (record { spec = rule.larval_spec spec c.in-Some.spi; larval = true }) p)
    ∙ ap (λ (x : Answer). Some x.reply) (sym (room_rule g c s es st p.room)))
    (placed g c s es at st fits))

pub returns-in-Some-clause-stands : goal.returns-in-Some-clause-stands
returns-in-Some-clause-stands g c = λ s es at st fits.
    let a = c.args.self.now.area in
    let spec = c.args.spec.now in
    IfOk-weaker c.place.result
    (λ slot. Placed a (g.C.Cells.words c.place.new.c) s es (g.P.Pool.gives c.args.pool.now) None slot (record { spec = rule.larval_spec spec c.in-Some.spi; larval = true }))
    (λ slot. Comes a (g.C.Cells.words c.place.new.c) s es (g.P.Pool.gives c.args.pool.now) None slot (rule.alloc_spi s spec))
    (λ slot p.
    comes_is a (g.C.Cells.words c.args.c.now) (g.C.Cells.words c.place.new.c) s es (g.P.Pool.gives c.args.pool.now) None slot
    is_none (record { spec = rule.larval_spec spec c.in-Some.spi; larval = true }) (reply.DoneSpi c.in-Some.spi s.next_sid) (rule.alloc_spi s spec) st p (no_tests es) (room_rule g c s es st p.room))
    (placed g c s es at st fits)

pub returns-in-Some-clause-pool : goal.returns-in-Some-clause-pool
returns-in-Some-clause-pool g c = λ s es lasts at st fits. c.place.ensures.pool s es lasts at.sid at.time tt (still g c s es st) (fits_still g c fits)

pub returns-in-Some-clause-fault : goal.returns-in-Some-clause-fault
returns-in-Some-clause-fault g c = IfErr-weaker c.place.result IsRoomFault IsAllocFault room_alloc c.place.ensures.fault
