use Rattle.std.proofs.Common.{◌≡◌, ℕ, List, Option, ap, sym, ◌∙◌, subst}
use Rattle.std.specs.Prelude.{IfOk}
use Rattle.xf_types.specs.declared.policy.Policy.{Policy}
use Rattle.xf_types.specs.Changes.{Answer}
use Rattle.xf_types.specs.Machine.{Shown}
use Rattle.xf_types.specs.PolicyRules.{policy_add, policy_added_if_room}
use Rattle.xf_inexact.specs.Whole.{SpdStands}
use Rattle.xf_image.specs.Readings.{listed_in}
use Rattle.xf_spd.specs.Slots.{PoolFits}
use Rattle.xf_listing.specs.declared.entry.Entry.{Entry}
use Rattle.xf_listing.specs.Calls.{found_policy}
use Rattle.xf_spd.specs.Changes.{AddsGiven}
use Rattle.std.proofs.lemmas.Result.{IfErr-weaker}
use Rattle.xf_spd.specs.Replies.{IsRoomFault, IsAddFault}
use Rattle.xf_spd.proofs.Inserted.{add_exists, add_rule, reply_as, plain_reply, room_add}
use Rattle.xf_listing.proofs.Named.{same_found}
use Rattle.xf_spd.proofs.spd.Spd.insert.Given as given
use Rattle.xf_spd.proofs.spd.Spd.insert.Goals as goal

-- ---- the same policy is listed

pub returns-in-Some-clause-reply : goal.returns-in-Some-clause-reply
returns-in-Some-clause-reply g c = λ s es at stands fits.
    add_exists s c.args.spec.now c.in-Some.entry.policy (sym c.is_bad_index.ensures ∙ c.if-is_bad_index.false)
    (sym (same_found c.args.self.now.area (g.C.Cells.words c.args.c.now) s es c.args.spec.now stands)
    ∙ ap (λ (o : Option Entry). found_policy o) (sym c.same_here.ensures.answer ∙ c.in-Some.is))

pub returns-in-Some-clause-plain : goal.returns-in-Some-clause-plain
returns-in-Some-clause-plain g c = λ s es none at stands fits. returns-in-Some-clause-reply g c s es at stands fits

-- ---- none is

rule_is : (g : given.Over) (c : goal.After-add_new g) (s : Shown) (es : List (ℕ × Policy)) → SpdStands c.args.self.now.area (g.C.Cells.words c.args.c.now) s es → (m : ℕ)
    → policy_added_if_room (record s { max_policies = m }) c.args.spec.now ≡ policy_add (record s { max_policies = m }) c.args.spec.now
rule_is g c s es stands m =
    add_rule (record s { max_policies = m }) c.args.spec.now (sym c.is_bad_index.ensures ∙ c.if-is_bad_index.false)
    (sym (same_found c.args.self.now.area (g.C.Cells.words c.args.c.now) s es c.args.spec.now stands)
    ∙ ap (λ (o : Option Entry). found_policy o) (sym c.same_here.ensures.answer ∙ c.in-None.is))

still : (g : given.Over) (c : goal.After-add_new g) (s : Shown) (es : List (ℕ × Policy)) → SpdStands c.args.self.now.area (g.C.Cells.words c.args.c.now) s es
    → SpdStands c.args.self.now.area (g.C.Cells.words c.same_here.new.c) s es
still g c s es stands = subst (λ (i : List ℕ). SpdStands c.args.self.now.area i s es) (sym c.same_here.ensures.words) stands

fits_still : (g : given.Over) (c : goal.After-add_new g) → PoolFits (g.P.Pool.capacity c.args.pool.now) (g.P.Pool.taken c.args.pool.now) (g.P.Pool.gives c.args.pool.now) (g.P.Pool.takes c.args.pool.now) c.args.self.now.area.slots (listed_in c.args.self.now.area (g.C.Cells.words c.args.c.now))
    → PoolFits (g.P.Pool.capacity c.args.pool.now) (g.P.Pool.taken c.args.pool.now) (g.P.Pool.gives c.args.pool.now) (g.P.Pool.takes c.args.pool.now) c.args.self.now.area.slots (listed_in c.args.self.now.area (g.C.Cells.words c.same_here.new.c))
fits_still g c fits =
    (subst (λ (i : List ℕ). PoolFits (g.P.Pool.capacity c.args.pool.now) (g.P.Pool.taken c.args.pool.now) (g.P.Pool.gives c.args.pool.now) (g.P.Pool.takes c.args.pool.now) c.args.self.now.area.slots (listed_in c.args.self.now.area i)) (sym c.same_here.ensures.words) fits)

pub returns-in-None-clause-reply : goal.returns-in-None-clause-reply
returns-in-None-clause-reply g c = λ s es at stands fits.
    reply_as (g.P.Pool.held c.add_new.new.pool) s (λ t. (policy_added_if_room t c.args.spec.now).reply) (λ t. (policy_add t c.args.spec.now).reply) c.add_new.result
    (λ m. ap (λ (x : Answer). x.reply) (rule_is g c s es stands m)) (c.add_new.ensures.reply s es at (still g c s es stands) (fits_still g c fits))

pub returns-in-None-clause-plain : goal.returns-in-None-clause-plain
returns-in-None-clause-plain g c = λ s es none at stands fits.
    plain_reply (g.P.Pool.held c.add_new.new.pool) s (λ t. (policy_add t c.args.spec.now).reply) c.add_new.result none (returns-in-None-clause-reply g c s es at stands fits)

pub returns-in-None-clause-stands : goal.returns-in-None-clause-stands
returns-in-None-clause-stands g c = λ s es at stands fits.
    subst (λ (rule : Answer). IfOk c.add_new.result (λ index. AddsGiven c.args.self.now.area (g.C.Cells.words c.add_new.new.c) s es (g.P.Pool.gives c.args.pool.now) index c.args.spec.now rule))
    (rule_is g c s es stands s.max_policies) (c.add_new.ensures.adds s es at (still g c s es stands) (fits_still g c fits))

pub returns-in-None-clause-pool : goal.returns-in-None-clause-pool
returns-in-None-clause-pool g c = λ s es lasts at stands fits. c.add_new.ensures.pool s es lasts at (still g c s es stands) (fits_still g c fits)

pub returns-in-None-clause-fault : goal.returns-in-None-clause-fault
returns-in-None-clause-fault g c = IfErr-weaker c.add_new.result IsRoomFault IsAddFault room_add c.add_new.ensures.fault
