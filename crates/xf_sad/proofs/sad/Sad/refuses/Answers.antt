use Rattle.std.proofs.Common.{ℕ, Option, ap, ◌∙◌}
use Rattle.std.specs.Option.{option_map}
use Rattle.xf_sad.specs.declared.faults.SadFault.TheVariants.{Exists}
use Rattle.xf_sad.proofs.sad.Sad.refuses.Goals as goal

pub returns-clause-state : goal.returns-clause-state
returns-clause-state g c = λ image s es agrees st.
    c.exists_fault.ensures
    ∙ ap (λ (o : Option ℕ). option_map (λ (n : ℕ). Exists n) o)
    (c.in_the_way-sid.ensures.state image s es agrees st (c.replaced-gone.ensures.state image s es (c.in_the_way-sid.ensures.among.among image agrees) st))
