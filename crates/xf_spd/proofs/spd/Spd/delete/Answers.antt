use Rattle.std.proofs.Common.{◌≡◌, ℕ, List, Option, None, Some, ap, sym, ◌∙◌, subst}
use Rattle.xf_types.specs.declared.policy.Policy.{Policy}
use Rattle.xf_types.specs.Changes.{Answer, shown_after}
use Rattle.xf_types.specs.Machine.{Shown}
use Rattle.xf_types.specs.PolicyList.{has_key}
use Rattle.xf_types.specs.PolicyRules.{policy_delete, policy_deleted}
use Rattle.xf_index.specs.Finds.{Found}
use Rattle.xf_image.specs.Entries.{entries_without}
use Rattle.xf_inexact.specs.Whole.{SpdStands}
use Rattle.xf_image.specs.Readings.{listed_in}
use Rattle.xf_listing.specs.declared.entry.Entry.{Entry}
use Rattle.xf_listing.specs.Calls.{found_policy}
use Rattle.xf_spd.specs.Slots.{PoolFits}
use Rattle.xf_spd.proofs.Alone.{entry_of, key_alone}
use Rattle.xf_listing.proofs.Named.{named_found, named_between}
use Rattle.xf_spd.proofs.Removed.{delete_rule, gone_stands}
use Rattle.xf_spd.proofs.spd.Spd.delete.Given as given
use Rattle.xf_spd.proofs.spd.Spd.delete.Goals as goal

pub returns-in-None-clause-reply : goal.returns-in-None-clause-reply
returns-in-None-clause-reply g c = λ s es stands.
    sym (ap (λ (x : Answer). x.reply) (delete_rule s c.args.key.now None (sym c.is_bad_key.ensures ∙ c.if-is_bad_key.false)
    (sym (named_found c.args.self.now.area (g.C.Cells.words c.args.c.now) s es c.args.key.now stands)
    ∙ ap (λ (o : Option Entry). found_policy o) (sym c.named_here.ensures.answer ∙ c.in-None.is))))

rule_is : (g : given.Over) (c : goal.After-remove_entry g) (s : Shown) (es : List (ℕ × Policy)) → SpdStands c.args.self.now.area (g.C.Cells.words c.args.c.now) s es
    → policy_delete s c.args.key.now ≡ policy_deleted s c.args.key.now (Some c.in-Some.entry.policy)
rule_is g c s es stands =
    delete_rule s c.args.key.now (Some c.in-Some.entry.policy) (sym c.is_bad_key.ensures ∙ c.if-is_bad_key.false)
    (sym (named_found c.args.self.now.area (g.C.Cells.words c.args.c.now) s es c.args.key.now stands)
    ∙ ap (λ (o : Option Entry). found_policy o) (sym c.named_here.ensures.answer ∙ c.in-Some.is))

found_is : (g : given.Over) (c : goal.After-remove_entry g) (s : Shown) (es : List (ℕ × Policy)) → SpdStands c.args.self.now.area (g.C.Cells.words c.args.c.now) s es
    → Found (has_key c.args.key.now) c.in-Some.entry.slot c.in-Some.entry.policy es
found_is g c s es stands =
    named_between c.args.self.now.area (g.C.Cells.words c.args.c.now) s es c.args.key.now c.in-Some.entry stands (sym c.named_here.ensures.answer ∙ c.in-Some.is)

still : (g : given.Over) (c : goal.After-remove_entry g) (s : Shown) (es : List (ℕ × Policy)) → SpdStands c.args.self.now.area (g.C.Cells.words c.args.c.now) s es
    → SpdStands c.args.self.now.area (g.C.Cells.words c.named_here.new.c) s es
still g c s es stands = subst (λ (i : List ℕ). SpdStands c.args.self.now.area i s es) (sym c.named_here.ensures.words) stands

pub returns-in-Some-clause-reply : goal.returns-in-Some-clause-reply
returns-in-Some-clause-reply g c = λ s es stands. sym (ap (λ (x : Answer). x.reply) (rule_is g c s es stands))

pub returns-in-Some-clause-stands : goal.returns-in-Some-clause-stands
returns-in-Some-clause-stands g c = λ s es ok sound stands.
    let a = c.args.self.now.area in
    let f = found_is g c s es stands in
    subst (λ (x : Answer). SpdStands a (g.C.Cells.words c.remove_entry.new.c) (shown_after s x.change) (entries_without (has_key c.args.key.now) es)) (sym (rule_is g c s es stands))
    (gone_stands a (g.C.Cells.words c.args.c.now) (g.C.Cells.words c.remove_entry.new.c) s (has_key c.args.key.now) c.in-Some.entry es stands (key_alone s c.args.key.now sound) f
    (c.remove_entry.ensures.removes s es (entry_of (has_key c.args.key.now) c.in-Some.entry es f) (still g c s es stands)))

pub returns-in-Some-clause-pool : goal.returns-in-Some-clause-pool
returns-in-Some-clause-pool g c = λ s es lasts stands fits.
    let a = c.args.self.now.area in
    c.remove_entry.ensures.pool s es lasts (entry_of (has_key c.args.key.now) c.in-Some.entry es (found_is g c s es stands)) (still g c s es stands)
    (subst (λ (i : List ℕ). PoolFits (g.P.Pool.capacity c.args.pool.now) (g.P.Pool.taken c.args.pool.now) (g.P.Pool.gives c.args.pool.now) (g.P.Pool.takes c.args.pool.now) a.slots (listed_in a i)) (sym c.named_here.ensures.words) fits)
