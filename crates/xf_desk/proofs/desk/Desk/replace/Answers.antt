use Rattle.std.proofs.Common.{◌≡◌, ℕ, ◌+◌, ◌<◌, true, List, length, Option, Some, None, sym, ap, ◌∙◌, subst}
use Rattle.xf_values.specs.declared.state_value.StateValue.{StateValue}
use Rattle.xf_live.specs.Passes.{LiveView, PassView, IsHere, holding}
use Rattle.xf_live.specs.Values.{with_home, home_at, holds}
use Rattle.xf_desk.specs.Lending.{IsLent}
use Rattle.xf_desk.specs.Values.{beside_of}
use Rattle.xf_desk.proofs.Homes.{held_home, home_put, put_twice}
use Rattle.xf_desk.proofs.Besides.{count, at_home, put_beside}
use Rattle.xf_desk.proofs.Takes.{put_lent}
use Rattle.xf_desk.proofs.desk.Desk.replace.Goals as goal

-- src/desk.rt:113:36
pub value_out-local-requires-clause-home : goal.value_out-local-requires-clause-home
value_out-local-requires-clause-home g c =
    held_home c.args.self.now.pass.values c.place-place.result (subst (λ (n : ℕ). holds c.args.self.now.pass.values n ≡ true) (sym c.place-place.ensures) c.requires.held)
    (c.args.self.now.lent.home c.place-place.result)

-- src/desk.rt:114:9
pub value_in-requires-clause-out : goal.value_in-requires-clause-out
value_in-requires-clause-out g c =
    ap (λ (p : PassView StateValue). home_at p.values c.place-place.result) c.value_out-local.ensures.row
    ∙ home_put c.args.self.now.pass.values c.place-place.result None
    (subst (λ (n : ℕ). holds c.args.self.now.pass.values n ≡ true) (sym c.place-place.ensures) c.requires.held)

-- src/desk.rt:104:5
pub returns-clause-pass : goal.returns-clause-pass
returns-clause-pass g c =
    c.value_in.ensures.row
    ∙ ap (λ (p : PassView StateValue). holding p (with_home p.values c.place-place.result (Some (record { local = c.args.value })))) c.value_out-local.ensures.row
    ∙ ap (λ (xs : List (ℕ × Option StateValue)). holding c.args.self.now.pass xs) (put_twice c.args.self.now.pass.values c.place-place.result None (Some (record { local = c.args.value })))
    ∙ ap (λ (n : ℕ). holding c.args.self.now.pass (with_home c.args.self.now.pass.values n (Some (record { local = c.args.value })))) c.place-place.ensures

-- src/desk.rt:114:9
pub invariant_of-self : goal.invariant_of-self
invariant_of-self g c =
    let as_put : c.value_in.new.pass ≡ holding c.args.self.now.pass (with_home c.args.self.now.pass.values (g.B.From.live.start.policies + c.args.slot) (Some (record { local = c.args.value }))) =
    c.value_in.ensures.row
    ∙ ap (λ (p : PassView StateValue). holding p (with_home p.values c.place-place.result (Some (record { local = c.args.value })))) c.value_out-local.ensures.row
    ∙ ap (λ (xs : List (ℕ × Option StateValue)). holding c.args.self.now.pass xs) (put_twice c.args.self.now.pass.values c.place-place.result None (Some (record { local = c.args.value })))
    ∙ ap (λ (n : ℕ). holding c.args.self.now.pass (with_home c.args.self.now.pass.values n (Some (record { local = c.args.value })))) c.place-place.ensures in
    record {
      table = c.args.self.now.table;
      here = subst (λ (l : LiveView). IsHere l c.value_in.new.pass) c.args.self.now.table c.value_in.ensures.table;
      slots = c.args.self.now.slots;
      size = ap (λ (p : PassView StateValue). length p.view.image.words) as_put ∙ c.args.self.now.size;
      lent = subst (λ (p : PassView StateValue). IsLent g.B.From.live.start.policies g.B.From.pass p c.args.self.now.writing) (sym as_put)
          (put_lent g.B.From.live.start.policies g.B.From.pass c.args.self.now.pass c.args.self.now.writing (g.B.From.live.start.policies + c.args.slot)
          (record { local = c.args.value }) c.requires.held c.args.self.now.lent);
    }

-- src/desk.rt:104:5
pub returns-clause-value : goal.returns-clause-value
returns-clause-value g c =
    sym (at_home g.B.From.live.start c.args.self.now.pass.values c.args.slot c.value_out-local.result
    (subst (λ (k : ℕ). c.args.slot < k) (count g.B.From.live.start c.args.self.now.pass.values) c.requires.slot)
    (ap (λ (n : ℕ). home_at c.args.self.now.pass.values n) (sym c.place-place.ensures) ∙ c.value_out-local.ensures.value))

-- src/desk.rt:104:5
pub returns-clause-beside : goal.returns-clause-beside
returns-clause-beside g c =
    ap (λ (p : PassView StateValue). beside_of g.B.From.live.start p.values) (returns-clause-pass g c)
    ∙ put_beside g.B.From.live.start c.args.self.now.pass.values c.args.slot (Some (record { local = c.args.value }))
    (subst (λ (k : ℕ). c.args.slot < k) (count g.B.From.live.start c.args.self.now.pass.values) c.requires.slot) c.requires.held
