use Rattle.std.proofs.Common.{ℕ, List, ◌∷◌, ◌++◌}
use Rattle.xf_types.specs.declared.policy.Policy.{Policy}
use Rattle.xf_types.specs.Machine.{Shown}
use Rattle.xf_records.specs.Policies.{warned}
use Rattle.xf_index.specs.Indexes.{records_in}
use Rattle.xf_image.specs.Entries.{with_policies}
use Rattle.xf_policies.specs.Standing.{StandsWith}
use Rattle.xf_policies.proofs.Others.{list_alone}
use Rattle.xf_policies.proofs.Swept.{entry_between, warned_between, warned_slots}
use Rattle.xf_policies.proofs.sweeping.warn.Given as given
use Rattle.xf_policies.proofs.sweeping.warn.Goals as goal

pub returns-clause-frame : goal.returns-clause-frame
returns-clause-frame g c = list_alone c.args.spd.now.area (g.C.Cells.words c.args.c.now) (g.C.Cells.words c.set_soft_in.new.c) c.set_soft_in.ensures.frame

warns : (g : given.Over) (c : goal.After-set_soft_in g) (s : Shown) (front back : List (ℕ × Policy)) (p : Policy)
    → StandsWith c.args.spd.now.area (g.C.Cells.words c.args.c.now) s (front ++ ((c.args.slot, p) ∷ back))
    → StandsWith c.args.spd.now.area (g.C.Cells.words c.set_soft_in.new.c) s (front ++ ((c.args.slot, warned p) ∷ back))
warns g c s front back p st =
    let es : List (ℕ × Policy) = front ++ ((c.args.slot, p) ∷ back) in
    warned_between c.args.spd.now.area (g.C.Cells.words c.args.c.now) (g.C.Cells.words c.set_soft_in.new.c) s front back c.args.slot p st
    (c.set_soft_in.ensures.warns (with_policies s (records_in es)) es p (entry_between front back c.args.slot p) st)

pub returns-clause-stands : goal.returns-clause-stands
returns-clause-stands g c = λ s front back p st. warns g c s front back p st

pub returns-clause-slots : goal.returns-clause-slots
returns-clause-slots g c = λ s front back p st.
    warned_slots c.args.spd.now.area (g.C.Cells.words c.args.c.now) (g.C.Cells.words c.set_soft_in.new.c) s front back c.args.slot p st (warns g c s front back p st)
