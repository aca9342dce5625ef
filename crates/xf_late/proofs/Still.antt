-- Receipts that don't move, one after another.
use Rattle.std.proofs.Common.{◌≡◌, ℕ, false, List, [], ◌∷◌, refl, sym, ap, ◌∙◌, subst, Contains}
use Rattle.std.proofs.lemmas.List.Elements.{All-head, All-tail}
use Rattle.xf_types.specs.declared.call.Receipt.{Receipt}
use Rattle.xf_types.specs.declared.state.Sa.{Sa}
use Rattle.xf_types.specs.Machine.{Own, Shown}
use Rattle.xf_types.specs.OwnParts.{own_of, own_in, new_own}
use Rattle.xf_types.specs.Moves.{is_moving}
use Rattle.xf_types.specs.History.{Moment, MayReply, machine_next, next_moment, moment_of, IsLegalFrom}
use Rattle.xf_types.specs.IsMachine.{IsMachine}
use Rattle.xf_laws.specs.StepLaws.{beside}
use Rattle.xf_laws.proofs.LeaveLemmas.{receipt-still}
use Rattle.xf_laws.proofs.RemovalLemmas.{receipt-removes}
use Rattle.xf_laws.proofs.MachineLemmas.{next-kept}
use Rattle.xf_late.specs.Rests.{rests_on, own_touched}
use Rattle.xf_late.specs.LateLaws.{AreStill, RestElsewhere}
use Rattle.xf_late.proofs.Owns.{own-stays}
use Rattle.xf_late.proofs.Touches.{touches, touches-none}

-- a moment from its parts
abbrev pub moment : Shown → List Own → ℕ → ℕ → List Receipt → Moment
moment s a p n l = record { machine = beside s a; policies_removed = p; states_removed = n; past = l }

-- the own parts after a receipt
abbrev pub own_next : Shown → List Own → Receipt → List Own
own_next s a q = (machine_next (beside s a) q).own

module _ (s : Shown) (a : List Own) (p n : ℕ) (l : List Receipt) (q : Receipt) (is : IsMachine (beside s a)) (may : MayReply (moment s a p n l) q q.reply) (still : is_moving q.reply ≡ false) where
  shown-still : (machine_next (beside s a) q).shown ≡ s
  shown-still = (receipt-still (moment s a p n l) q is may still).shown

  -- one receipt later
  pub next-is : next_moment (moment s a p n l) q ≡ moment s (own_next s a q) p n (q ∷ l)
  next-is =
      let counts = receipt-removes (moment s a p n l) q may still in
      λ i. record { machine = record { shown = shown-still i; own = own_next s a q }; policies_removed = counts.policies_removed i; states_removed = counts.states_removed i; past = q ∷ l }

  pub next-machine : IsMachine (beside s (own_next s a q))
  next-machine = subst (λ (z : Shown). IsMachine (record { shown = z; own = own_next s a q })) shown-still (next-kept (beside s a) q is)

  -- each listed state has the own part that the receipt makes of it
  pub next-own : (x : Sa) → Contains s.states x → own_in (beside s (own_next s a q)) x ≡ own_touched (rests_on s q) q.call s.time x (own_in (beside s a) x)
  next-own x here =
      ap (λ (z : Shown). own_of x.sid z.states (own_next s a q) (new_own x.spec)) (sym shown-still)
      ∙ own-stays (beside s a) q x x is here (subst (λ (z : Shown). Contains z.states x) (sym shown-still) here) refl

-- what is shown after all of them, and each own part
pub walk : (s : Shown) (a : List Own) (p n : ℕ) (l : List Receipt) (rs : List Receipt) → IsMachine (beside s a) → AreStill rs → IsLegalFrom (moment s a p n l) rs
    → ((moment_of (moment s a p n l) rs).machine.shown ≡ s)
    × ((x : Sa) → Contains s.states x → own_in (moment_of (moment s a p n l) rs).machine x ≡ touches s x (own_in (beside s a) x) rs)
walk s a p n l [] is still legal = (refl, λ x here. refl)
walk s a p n l (q ∷ qs) is still legal =
    let first = All-head (λ (r : Receipt). is_moving r.reply ≡ false) q qs still in
    let next = next-is s a p n l q is legal.0 first in
    let rest = walk s (own_next s a q) p n (q ∷ l) qs (next-machine s a p n l q is legal.0 first) (All-tail (λ (r : Receipt). is_moving r.reply ≡ false) q qs still) (subst (λ (t : Moment). IsLegalFrom t qs) next legal.1) in (
      ap (λ (t : Moment). (moment_of t qs).machine.shown) next ∙ rest.0,
      λ x here. ap (λ (t : Moment). own_in (moment_of t qs).machine x) next ∙ rest.1 x here ∙ ap (λ (o : Own). touches s x o qs) (next-own s a p n l q is legal.0 first x here),
    )

pub still-shown : (t : Moment) (rs : List Receipt) → IsMachine t.machine → IsLegalFrom t rs → AreStill rs → (moment_of t rs).machine.shown ≡ t.machine.shown
still-shown t rs is legal still = (walk t.machine.shown t.machine.own t.policies_removed t.states_removed t.past rs is still legal).0

pub still-own : (t : Moment) (rs : List Receipt) → IsMachine t.machine → IsLegalFrom t rs → AreStill rs → (x : Sa) → Contains t.machine.shown.states x
    → own_in (moment_of t rs).machine x ≡ touches t.machine.shown x (own_in t.machine x) rs
still-own t rs is legal still = (walk t.machine.shown t.machine.own t.policies_removed t.states_removed t.past rs is still legal).1

pub still-left : (t : Moment) (rs : List Receipt) (x : Sa) → IsMachine t.machine → IsLegalFrom t rs → AreStill rs → Contains t.machine.shown.states x → RestElsewhere t.machine.shown x.sid rs
    → own_in (moment_of t rs).machine x ≡ own_in t.machine x
still-left t rs x is legal still here elsewhere = still-own t rs is legal still x here ∙ touches-none t.machine.shown x (own_in t.machine x) rs elsewhere
