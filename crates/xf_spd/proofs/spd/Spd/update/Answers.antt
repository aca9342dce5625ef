use Rattle.std.proofs.Common.{◌≡◌, ℕ, List, Option, None, Some, ap, sym, ◌∙◌, subst}
use Rattle.std.specs.Prelude.{IfOk}
use Rattle.xf_types.specs.declared.policy.Policy.{Policy}
use Rattle.xf_types.specs.Changes.{Answer}
use Rattle.xf_types.specs.Machine.{Shown}
use Rattle.xf_types.specs.PolicyList.{is_same}
use Rattle.xf_types.specs.PolicyRules.{policy_update, policy_added_if_room, policy_replaced_or_added, policy_same_as}
use Rattle.xf_index.specs.Finds.{Found}
use Rattle.xf_image.specs.Entries.{new_policy, entries_without}
use Rattle.xf_inexact.specs.Whole.{SpdStands}
use Rattle.xf_image.specs.Readings.{listed_in}
use Rattle.xf_spd.specs.Slots.{PoolFits}
use Rattle.xf_listing.specs.declared.entry.Entry.{Entry}
use Rattle.xf_listing.specs.Calls.{found_policy}
use Rattle.xf_spd.specs.Changes.{IsAt, Adds, AddsGiven}
use Rattle.std.proofs.lemmas.Result.{IfErr-weaker}
use Rattle.xf_spd.specs.Replies.{IsRoomFault, IsUpdateFault}
use Rattle.xf_spd.proofs.Inserted.{reply_as, plain_reply, room_update}
use Rattle.xf_listing.proofs.Named.{same_found, same_between}
use Rattle.xf_spd.proofs.Updated.{update_rule, new_replaces, own_replaces, own_pool}
use Rattle.xf_spd.proofs.spd.Spd.update.Given as given
use Rattle.xf_spd.proofs.spd.Spd.update.Goals as goal

-- ---- the same policy is listed

own_rule : (g : given.Over) (c : goal.After-replace g) (s : Shown) (es : List (ℕ × Policy)) → SpdStands c.args.self.now.area (g.C.Cells.words c.args.c.now) s es
    → policy_replaced_or_added s c.args.spec.now (Some c.in-Some.entry.policy) ≡ policy_update s c.args.spec.now
own_rule g c s es stands =
    update_rule s c.args.spec.now (Some c.in-Some.entry.policy) (sym c.is_bad_index.ensures ∙ c.if-is_bad_index.false)
    (sym (same_found c.args.self.now.area (g.C.Cells.words c.args.c.now) s es c.args.spec.now stands)
    ∙ ap (λ (o : Option Entry). found_policy o) (sym c.same_here.ensures.answer ∙ c.in-Some.is))

own_found : (g : given.Over) (c : goal.After-replace g) (s : Shown) (es : List (ℕ × Policy)) → SpdStands c.args.self.now.area (g.C.Cells.words c.args.c.now) s es
    → Found (λ p. is_same p.spec c.args.spec.now) c.in-Some.entry.slot c.in-Some.entry.policy es
own_found g c s es stands =
    same_between c.args.self.now.area (g.C.Cells.words c.args.c.now) s es c.args.spec.now c.in-Some.entry stands (sym c.same_here.ensures.answer ∙ c.in-Some.is)

own_adds : (g : given.Over) (c : goal.After-replace g) (s : Shown) (es : List (ℕ × Policy)) → IsAt s c.args.now → SpdStands c.args.self.now.area (g.C.Cells.words c.args.c.now) s es
    → Adds c.args.self.now.area (g.C.Cells.words c.replace.new.c) s (entries_without (λ p. is_same p.spec c.args.spec.now) es) c.in-Some.entry.slot c.replace.result c.args.spec.now (policy_update s c.args.spec.now)
own_adds g c s es at stands =
    subst (λ (rule : Answer). Adds c.args.self.now.area (g.C.Cells.words c.replace.new.c) s (entries_without (λ p. is_same p.spec c.args.spec.now) es) c.in-Some.entry.slot c.replace.result c.args.spec.now rule)
    (own_rule g c s es stands)
    (c.replace.ensures.replaces s es at (subst (λ (i : List ℕ). SpdStands c.args.self.now.area i s es) (sym c.same_here.ensures.words) stands) (own_found g c s es stands))

pub returns-in-Some-clause-reply : goal.returns-in-Some-clause-reply
returns-in-Some-clause-reply g c = λ s es at stands fits. sym (own_adds g c s es at stands).reply

pub returns-in-Some-clause-plain : goal.returns-in-Some-clause-plain
returns-in-Some-clause-plain g c = λ s es none at stands fits. sym (own_adds g c s es at stands).reply

pub returns-in-Some-clause-stands : goal.returns-in-Some-clause-stands
returns-in-Some-clause-stands g c = λ s es at stands fits.
    own_replaces c.args.self.now.area (g.C.Cells.words c.args.c.now) (g.C.Cells.words c.replace.new.c) s es (g.P.Pool.gives c.args.pool.now) c.args.spec.now c.replace.result c.in-Some.entry
    (policy_update s c.args.spec.now) stands (sym c.same_here.ensures.answer ∙ c.in-Some.is) (own_adds g c s es at stands)

pub returns-in-Some-clause-pool : goal.returns-in-Some-clause-pool
returns-in-Some-clause-pool g c = λ s es lasts at stands fits.
    own_pool c.args.self.now.area (g.C.Cells.words c.args.c.now) (g.C.Cells.words c.replace.new.c) s _ es c.args.spec.now (new_policy s c.args.spec.now c.replace.result) c.in-Some.entry
    (g.P.Pool.capacity c.args.pool.now) (g.P.Pool.taken c.args.pool.now) (g.P.Pool.gives c.args.pool.now) (g.P.Pool.takes c.args.pool.now)
    at.policies stands (own_found g c s es stands) (own_adds g c s es at stands).stands fits

-- ---- none is

none_is : (g : given.Over) (c : goal.After-add_new g) (s : Shown) (es : List (ℕ × Policy)) → SpdStands c.args.self.now.area (g.C.Cells.words c.args.c.now) s es → policy_same_as s c.args.spec.now ≡ None
none_is g c s es stands =
    sym (same_found c.args.self.now.area (g.C.Cells.words c.args.c.now) s es c.args.spec.now stands)
    ∙ ap (λ (o : Option Entry). found_policy o) (sym c.same_here.ensures.answer ∙ c.in-None.is)

rule_is : (g : given.Over) (c : goal.After-add_new g) (s : Shown) (es : List (ℕ × Policy)) → SpdStands c.args.self.now.area (g.C.Cells.words c.args.c.now) s es → (m : ℕ)
    → policy_added_if_room (record s { max_policies = m }) c.args.spec.now ≡ policy_update (record s { max_policies = m }) c.args.spec.now
rule_is g c s es stands m =
    update_rule (record s { max_policies = m }) c.args.spec.now None (sym c.is_bad_index.ensures ∙ c.if-is_bad_index.false) (none_is g c s es stands)

still : (g : given.Over) (c : goal.After-add_new g) (s : Shown) (es : List (ℕ × Policy)) → SpdStands c.args.self.now.area (g.C.Cells.words c.args.c.now) s es
    → SpdStands c.args.self.now.area (g.C.Cells.words c.same_here.new.c) s es
still g c s es stands = subst (λ (i : List ℕ). SpdStands c.args.self.now.area i s es) (sym c.same_here.ensures.words) stands

fits_still : (g : given.Over) (c : goal.After-add_new g) → PoolFits (g.P.Pool.capacity c.args.pool.now) (g.P.Pool.taken c.args.pool.now) (g.P.Pool.gives c.args.pool.now) (g.P.Pool.takes c.args.pool.now) c.args.self.now.area.slots (listed_in c.args.self.now.area (g.C.Cells.words c.args.c.now))
    → PoolFits (g.P.Pool.capacity c.args.pool.now) (g.P.Pool.taken c.args.pool.now) (g.P.Pool.gives c.args.pool.now) (g.P.Pool.takes c.args.pool.now) c.args.self.now.area.slots (listed_in c.args.self.now.area (g.C.Cells.words c.same_here.new.c))
fits_still g c fits =
    (subst (λ (i : List ℕ). PoolFits (g.P.Pool.capacity c.args.pool.now) (g.P.Pool.taken c.args.pool.now) (g.P.Pool.gives c.args.pool.now) (g.P.Pool.takes c.args.pool.now) c.args.self.now.area.slots (listed_in c.args.self.now.area i)) (sym c.same_here.ensures.words) fits)

pub returns-in-None-clause-reply : goal.returns-in-None-clause-reply
returns-in-None-clause-reply g c = λ s es at stands fits.
    reply_as (g.P.Pool.held c.add_new.new.pool) s (λ t. (policy_added_if_room t c.args.spec.now).reply) (λ t. (policy_update t c.args.spec.now).reply) c.add_new.result
    (λ m. ap (λ (x : Answer). x.reply) (rule_is g c s es stands m)) (c.add_new.ensures.reply s es at (still g c s es stands) (fits_still g c fits))

pub returns-in-None-clause-plain : goal.returns-in-None-clause-plain
returns-in-None-clause-plain g c = λ s es none at stands fits.
    plain_reply (g.P.Pool.held c.add_new.new.pool) s (λ t. (policy_update t c.args.spec.now).reply) c.add_new.result none (returns-in-None-clause-reply g c s es at stands fits)

pub returns-in-None-clause-stands : goal.returns-in-None-clause-stands
returns-in-None-clause-stands g c = λ s es at stands fits.
    new_replaces c.args.self.now.area (g.C.Cells.words c.args.c.now) (g.C.Cells.words c.add_new.new.c) s es (g.P.Pool.gives c.args.pool.now) c.args.spec.now c.add_new.result
    (policy_update s c.args.spec.now) stands (none_is g c s es stands)
    (subst (λ (rule : Answer). IfOk c.add_new.result (λ index. AddsGiven c.args.self.now.area (g.C.Cells.words c.add_new.new.c) s es (g.P.Pool.gives c.args.pool.now) index c.args.spec.now rule))
    (rule_is g c s es stands s.max_policies) (c.add_new.ensures.adds s es at (still g c s es stands) (fits_still g c fits)))

pub returns-in-None-clause-pool : goal.returns-in-None-clause-pool
returns-in-None-clause-pool g c = λ s es lasts at stands fits. c.add_new.ensures.pool s es lasts at (still g c s es stands) (fits_still g c fits)

pub returns-in-None-clause-fault : goal.returns-in-None-clause-fault
returns-in-None-clause-fault g c = IfErr-weaker c.add_new.result IsRoomFault IsUpdateFault room_update c.add_new.ensures.fault
