use Rattle.std.proofs.Common.{◌≡◌, ℕ, ◌+◌, ◌<◌, true, false, Bool, ◌∷◌, Some, refl, sym, ap, ◌∙◌, subst}
use Rattle.xf_values.specs.declared.state_value.StateValue.{StateValue}
use Rattle.xf_seats.specs.Opened.{slots_of}
use Rattle.xf_rows.specs.Values.{at}
use Rattle.xf_live.specs.Passes.{LiveView, PassView}
use Rattle.xf_live.specs.Values.{holds}
use Rattle.xf_desk.specs.Values.{beside_of}
use Rattle.xf_desk.proofs.Besides.{count, below}
use Rattle.xf_desk.proofs.Takes.{took_at}
use Rattle.xf_desk.proofs.desk.DeskParts.enter.Goals as goal

pub returns-then-not-has_turn-clause-count : goal.returns-then-not-has_turn-clause-count
returns-then-not-has_turn-clause-count g c = count g.B.From.live.start c.enter_slot.new.pass.values ∙ sym (count g.B.From.live.start c.args.self.now.pass.values)

shut : (writing held : Bool) → (writing ≡ true → held ≡ true) → held ≡ false → writing ≡ false
shut false held early free = refl
shut true held early free = sym (early refl) ∙ free

pub enter_slot-requires-clause-row : goal.enter_slot-requires-clause-row
enter_slot-requires-clause-row g c =
    let free : holds c.args.self.now.pass.values c.place-place.result ≡ false = sym c.has_turn.ensures ∙ c.if-not-has_turn.true in
    let inside = (below g.B.From.live.start c.args.self.now.pass.values g.B.From.live c.args.self.now.policies c.args.self.now.states c.args.slot c.args.self.now.slots refl c.requires.slot).1 in
    record {
      inside = subst (λ (n : ℕ). n < slots_of c.args.self.now.live.now.start) (ap (λ n. n + c.args.slot) c.args.self.now.slots.policies_are ∙ sym c.place-place.ensures)
          (subst (λ (l : LiveView). c.args.self.now.policies + c.args.slot < slots_of l.start) (sym c.args.self.now.table) inside);
      free = free;
      shut = c.args.self.now.lent.opened
          ∙ shut c.args.self.now.writing (holds c.args.self.now.pass.values (g.B.From.live.start.policies + c.args.slot)) c.requires.early
          (ap (λ (n : ℕ). holds c.args.self.now.pass.values n) (sym c.place-place.ensures) ∙ free);
    }

pub returns-then-not-has_turn-clause-at : goal.returns-then-not-has_turn-clause-at
returns-then-not-has_turn-clause-at g c =
    λ other held.
    let row = c.enter_slot.ensures.row in
    let free : holds c.args.self.now.pass.values (g.B.From.live.start.policies + c.args.slot) ≡ false =
    ap (λ (n : ℕ). holds c.args.self.now.pass.values n) (sym c.place-place.ensures) ∙ sym c.has_turn.ensures ∙ c.if-not-has_turn.true in
    ap (λ (p : PassView StateValue). at (beside_of g.B.From.live.start p.values) other) row.after
    ∙ ap (λ (n : ℕ). at (beside_of g.B.From.live.start ((n, Some row.value) ∷ c.args.self.now.pass.values)) other) c.place-place.ensures
    ∙ took_at g.B.From.live.start c.args.self.now.pass.values c.args.slot row.value other free held
