use Rattle.std.proofs.Common.{ℕ, List, ◌∷◌, ◌++◌, ◌∙◌, subst}
use Rattle.xf_types.specs.declared.policy.Policy.{Policy}
use Rattle.xf_types.specs.Machine.{Shown}
use Rattle.xf_index.specs.Indexes.{records_in}
use Rattle.xf_image.specs.Entries.{IsEntry, slot_left, with_policies}
use Rattle.xf_image.specs.Frames.{Frame}
use Rattle.xf_image.proofs.Listed.{listed_is}
use Rattle.xf_inexact.specs.Whole.{SpdStands, whole_end}
use Rattle.xf_spd.proofs.Pools.{pool_removed}
use Rattle.xf_spd.proofs.Removed.{entry_cut}
use Rattle.xf_policies.specs.Standing.{StandsWith}
use Rattle.xf_policies.proofs.Others.{others_of, others_hidden, others_twice, below_all, stands_beside}
use Rattle.xf_policies.proofs.Swept.{entry_between, left_between, out_less}
use Rattle.xf_policies.proofs.sweeping.remove.Given as given
use Rattle.xf_policies.proofs.sweeping.remove.Goals as goal

frees : (g : given.Over) (c : goal.After-give g) → Frame 0 (g.C.PolicySlots.hidden c.args.c.now) (g.C.Cells.words c.delist.new.c) (g.C.Cells.words c.policy_freed.new.self)
frees g c =
    subst (λ (n : ℕ). Frame 0 n (g.C.Cells.words c.delist.new.c) (g.C.Cells.words c.policy_freed.new.self)) (g.met.C.PolicySlots.kept c.delist.new.c c.args.c.now c.delist.ensures.rest)
    c.policy_freed.ensures.frame

leaves : (g : given.Over) (c : goal.After-give g) (s : Shown) (es : List (ℕ × Policy)) → IsEntry es c.args.entry.now.slot c.args.entry.now.policy
    → SpdStands c.args.spd.now.area (g.C.Cells.words c.args.c.now) s es
    → SpdStands c.args.spd.now.area (g.C.Cells.words c.policy_freed.new.self) (with_policies s (records_in (slot_left c.args.entry.now.slot es))) (slot_left c.args.entry.now.slot es)
leaves g c s es is st =
    let slot = c.args.entry.now.slot in
    stands_beside c.args.spd.now.area (g.C.Cells.words c.delist.new.c) (g.C.Cells.words c.policy_freed.new.self) (g.C.Load.size c.args.c.now) (g.C.PolicySlots.hidden c.args.c.now)
    (with_policies s (records_in (slot_left slot es))) (slot_left slot es) c.requires.fits c.requires.hidden (frees g c) (c.delist.ensures.delists s es is st)

removes : (g : given.Over) (c : goal.After-give g) (s : Shown) (front back : List (ℕ × Policy))
    → StandsWith c.args.spd.now.area (g.C.Cells.words c.args.c.now) s (front ++ ((c.args.entry.now.slot, c.args.entry.now.policy) ∷ back))
    → StandsWith c.args.spd.now.area (g.C.Cells.words c.policy_freed.new.self) s (front ++ back)
removes g c s front back st =
    let f = c.args.entry.now in
    let es : List (ℕ × Policy) = front ++ ((f.slot, f.policy) ∷ back) in
    left_between c.args.spd.now.area (g.C.Cells.words c.args.c.now) (g.C.Cells.words c.policy_freed.new.self) s front back f.slot f.policy st
    (leaves g c (with_policies s (records_in es)) es (entry_between front back f.slot f.policy) st)

pub returns-clause-others : goal.returns-clause-others
returns-clause-others g c =
    let a = c.args.spd.now.area in
    others_twice (g.C.PolicySlots.hidden c.args.c.now) a.base (whole_end a) (g.C.Cells.words c.args.c.now) (g.C.Cells.words c.delist.new.c) (g.C.Cells.words c.policy_freed.new.self)
    (others_of (g.C.PolicySlots.hidden c.args.c.now) a.base (whole_end a) (g.C.Cells.words c.args.c.now) (g.C.Cells.words c.delist.new.c) c.delist.ensures.frame)
    (others_hidden (g.C.PolicySlots.hidden c.args.c.now) a.base (whole_end a) (g.C.Cells.words c.delist.new.c) (g.C.Cells.words c.policy_freed.new.self) c.requires.hidden (below_all a) (frees g c))

pub returns-clause-stands : goal.returns-clause-stands
returns-clause-stands g c = λ s front back st. removes g c s front back st

pub returns-clause-pool : goal.returns-clause-pool
returns-clause-pool g c = λ s front back lasts st fits.
    let a = c.args.spd.now.area in
    let f = c.args.entry.now in
    let es : List (ℕ × Policy) = front ++ ((f.slot, f.policy) ∷ back) in
    let shown = with_policies s (records_in es) in
    let is : IsEntry es f.slot f.policy = entry_between front back f.slot f.policy in
    let cut = entry_cut a (g.C.Cells.words c.args.c.now) shown es f.slot f.policy is st in
    pool_removed _ _ _ _ _ f.slot _ _ _ _ _ _ _ cut.front cut.back c.give.ensures.capacity fits
    (record { less = c.give.ensures.taken; gives_ = c.give.ensures.gives; takes_ = c.give.ensures.takes }) lasts cut.below cut.miss
    (listed_is a (g.C.Cells.words c.args.c.now) shown es st.list ∙ cut.whole)
    (listed_is a (g.C.Cells.words c.policy_freed.new.self) _ _ (leaves g c shown es is st).list ∙ cut.left)

pub returns-clause-out : goal.returns-clause-out
returns-clause-out g c = λ s front back st was.
    out_less c.args.spd.now.area (g.C.Cells.words c.args.c.now) (g.C.Cells.words c.policy_freed.new.self) s front back c.args.entry.now.slot c.args.entry.now.policy _ _ st
    (removes g c s front back st) c.give.ensures.taken was
