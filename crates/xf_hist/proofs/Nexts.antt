-- The moment after a receipt.
use Rattle.std.proofs.Common.{◌≡◌, ◌+◌, Bool, true, false, cond, List, ◌∷◌, refl, ap, sym, ◌∙◌, inl, inr}
use Rattle.std.proofs.lemmas.Bool.{true≢false}
use Rattle.xf_types.specs.declared.call.Receipt.{Receipt}
use Rattle.xf_types.specs.Machine.{Machine}
use Rattle.xf_types.specs.Moves.{is_moving}
use Rattle.xf_types.specs.Steps.{step}
use Rattle.xf_types.specs.History.{MayReply, is_exception, machine_next, next_moment, policies_gone, states_gone}
use Rattle.xf_laws.proofs.FoldLemmas.{ruled}
use Rattle.xf_laws.proofs.RemovalLemmas.{receipt-removes}
use Rattle.xf_hist.specs.declared.moment.Moment.{Moment as Kept}
use Rattle.xf_hist.specs.Moments.{at, IsNext}

-- the moment with this machine and these counts is the next one
next-by : (m new : Kept) (past : List Receipt) (r : Receipt) → new.machine ≡ machine_next m.machine r
    → new.policies_removed ≡ (next_moment (at m past) r).policies_removed → new.states_removed ≡ (next_moment (at m past) r).states_removed
    → IsNext m past r new
next-by m new past r machine policies states =
    λ i. record { machine = machine i; policies_removed = policies i; states_removed = states i; past = r ∷ past }

-- where the reply is the machine's, and what is gone was counted
pub counted-next : (m new : Kept) (past : List Receipt) (r : Receipt) → is_exception r.reply ≡ false
    → new.machine ≡ (step m.machine r.call).machine
    → new.policies_removed ≡ m.policies_removed + policies_gone m.machine new.machine
    → new.states_removed ≡ m.states_removed + states_gone m.machine new.machine → IsNext m past r new
counted-next m new past r inside is policies states =
    let machine : new.machine ≡ machine_next m.machine r =
    is ∙ ap (λ (b : Bool). cond b m.machine (step m.machine r.call).machine) (sym inside) in
    next-by m new past r machine
    (policies ∙ ap (λ (n : Machine). m.policies_removed + policies_gone m.machine n) machine)
    (states ∙ ap (λ (n : Machine). m.states_removed + states_gone m.machine n) machine)

-- a reply that may stand and doesn't move leaves the counts
still-next : (m new : Kept) (past : List Receipt) (r : Receipt) → MayReply (at m past) r r.reply → is_moving r.reply ≡ false
    → new.machine ≡ machine_next m.machine r → new.policies_removed ≡ m.policies_removed → new.states_removed ≡ m.states_removed
    → IsNext m past r new
still-next m new past r may still machine policies states =
    let none = receipt-removes (at m past) r may still in
    next-by m new past r machine (policies ∙ sym none.policies_removed) (states ∙ sym none.states_removed)

-- where it is the machine's
pub stepped-next : (m new : Kept) (past : List Receipt) (r : Receipt) → MayReply (at m past) r r.reply → is_exception r.reply ≡ false
    → is_moving r.reply ≡ false → new.machine ≡ (step m.machine r.call).machine
    → new.policies_removed ≡ m.policies_removed → new.states_removed ≡ m.states_removed → IsNext m past r new
stepped-next m new past r may inside still is policies states =
    still-next m new past r may still (is ∙ ap (λ (b : Bool). cond b m.machine (step m.machine r.call).machine) (sym inside)) policies states

-- and where it isn't, all stays
pub stays-next : (m : Kept) (past : List Receipt) (r : Receipt) → MayReply (at m past) r r.reply → is_exception r.reply ≡ true → IsNext m past r m
stays-next m past r may outside =
    let still : is_moving r.reply ≡ false =
    elim (ruled (at m past) r r.reply may) [ inl x ↦ x.still | inr x ↦ absurd (true≢false (sym outside ∙ x.inside)) ] in
    still-next m m past r may still
    (ap (λ (b : Bool). cond b m.machine (step m.machine r.call).machine) (sym outside)) refl refl
