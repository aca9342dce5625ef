-- Lists of legal steps keep what holds in each list; and it holds at the beginning.
use Rattle.std.proofs.Common.{◌≡◌, ℕ, zero, suc, ◌<◌, ◌≤◌, Bool, true, false, List, [], ◌∷◌, length, Some, None, Option, refl, sym, ap, ◌∙◌, subst, arith, length-append}
use Rattle.std.specs.Prelude.{if◌then◌else◌, slice_get}
use Rattle.std.proofs.lemmas.Option.{none-some}
use Rattle.std.proofs.lemmas.List.{length-replicate}
use mathlib.Core.Option.{some}
use mathlib.Core.Logic.{dite}
use native.Mathlib.Decide.{ℕ_discrete}
use lib.ListN.{get_elem?}
use Rattle.xf_types.specs.declared.state.Sa.{Sa}
use Rattle.xf_types.specs.Machine.{Machine}
use Rattle.xf_views.specs.declared.hand.Hand.{Hand}
use Rattle.xf_views.specs.declared.view.View.{View}
use Rattle.xf_views.specs.declared.view.Start.{Start}
use Rattle.xf_views.specs.Starts.{first_view, first_views}
use Rattle.xf_views.proofs.Lists.{at_longer, at_last}
use Rattle.xf_views.proofs.Beginnings.{turn_begins}
use Rattle.xf_proto.specs.declared.step.Kind.{Kind}
use Rattle.xf_proto.specs.declared.step.Step.{Step}
use Rattle.xf_proto.specs.SeatState.{SeatState, first_seat}
use Rattle.xf_proto.specs.ProtocolState.{ProtocolState}
use Rattle.xf_proto.specs.Legality.{may_step}
use Rattle.xf_proto.specs.Effects.{state_after}
use Rattle.xf_proto.specs.Table.{row_for, row_of, LeadTo}
use Rattle.xf_runs.specs.Known.{Known, first_start, first_known, known_after, LearnTo}
use Rattle.xf_runs.specs.Holds.{FitsSeat, AlwaysHolds}
use Rattle.xf_runs.specs.Runs.{TurnsStay}
use Rattle.xf_runs.proofs.Lookups.{get_replicated}
use Rattle.xf_runs.proofs.Always.{seated, step_keeps}

-- what a row says
pub record IsRow (p : ProtocolState) (step : Step) (q : ProtocolState) : Type 0 where
  pub seat : SeatState
  pub there : slice_get p.seats step.actor ≡ Some seat
  pub legal : may_step p step.actor seat.hand step.kind ≡ true
  pub leads : state_after p step.actor seat step.kind ≡ q

pub row-is : (p : ProtocolState) (step : Step) (q : ProtocolState) → row_of p step ≡ Some q → IsRow p step q
row-is p step q = by (slice_get p.seats step.actor) refl
  where
    by_legal : (s : SeatState) → slice_get p.seats step.actor ≡ Some s → (b : Bool) → may_step p step.actor s.hand step.kind ≡ b
        → (if b then Some (state_after p step.actor s step.kind) else None) ≡ Some q → IsRow p step q
    by_legal s at true is e = record { seat = s; there = at; legal = is; leads = cc }
    by_legal s at false is e = absurd (none-some q e)

    by : (o : Option SeatState) → slice_get p.seats step.actor ≡ o → row_for p step.actor o step.kind ≡ Some q → IsRow p step q
    by None at e = absurd (none-some q e)
    by (Some s) at e = by_legal s at (may_step p step.actor s.hand step.kind) refl e

-- a seat whose hand is known
pub seated-is : (i : ℕ) (s : SeatState) (v : View) → FitsSeat i s v → seated v s.pending ≡ s
seated-is i s v f = ap (λ (x : Hand). record { hand = x; pending = s.pending }) (sym f.known)

module _ (lists : List ℕ → ℕ → Option (Sa × ℕ)) (start : Machine) (made : ℕ) where
  pub always_step : (k : Known) → AlwaysHolds made k → (i : ℕ) (v : View) (s : SeatState) (j : Kind) → get_elem? k.views i ≡ some v → FitsSeat i s v → may_step k.state i s.hand j ≡ true
      → AlwaysHolds made (known_after lists start k i v s j)
  always_step k h i v s j at f legal =
      subst (λ (t : SeatState). AlwaysHolds made (known_after lists start k i v t j)) (seated-is i s v f)
      (step_keeps lists start made k h i v s.pending at
      (subst (λ (t : SeatState). FitsSeat i t v) (sym (seated-is i s v f)) f) j
      (subst (λ (x : Hand). may_step k.state i x j ≡ true) f.known legal))

  pub always_runs : (k : Known) (steps : List Step) (q : ProtocolState) → AlwaysHolds made k → LeadTo k.state steps q
      → (z : Known) × LearnTo lists start k steps z × (z.state ≡ q) × AlwaysHolds made z
  always_runs k [] q h led = (k, refl, led, h)
  always_runs k (step ∷ steps) q h led =
      let r = row-is k.state step led.0 led.1 in
      let t = h.told.seats step.actor r.seat r.there in
      let rest = always_runs (known_after lists start k step.actor t.0 r.seat step.kind) steps q
      (always_step k h step.actor t.0 r.seat step.kind t.1 t.2 r.legal)
      (subst (λ (z : ProtocolState). LeadTo z steps q) (sym r.leads) led.2) in
      (rest.0, (t.0, r.seat, t.1, r.there, rest.1), rest.2, rest.3)

first-count : (start : Start) (n : ℕ) → length (first_views start n) ≡ n
first-count start zero = refl
first-count start (suc n) = length-append (first_views start n) (first_view start n 0 ∷ []) ∙ (let h = first-count start n in omega arith)

first-is : (start : Start) (n i : ℕ) → i < n → get_elem? (first_views start n) i ≡ some (first_view start i 0)
first-is start zero i h = absurd (omega arith)
first-is start (suc n) i h = dite (ℕ_discrete i n)
    (λ e. subst (λ j. get_elem? (first_views start (suc n)) j ≡ some (first_view start j 0)) (sym e) (at_last (first_views start n) (first_view start n 0) n (first-count start n)))
    (λ ne. at_longer (first_views start n) (first_view start n 0 ∷ []) i (first_view start i 0) (first-is start n i (omega arith)))

pub always_begins : (seats words slots : ℕ) (start : Start) → 1 ≤ seats → seats ≤ 16 → AlwaysHolds seats (first_known seats words slots start)
always_begins seats words slots start some_seat few = record {
  turn = turn_begins 0 seats start some_seat few;
  told = record {
    seats = λ i s e.
        let r = get_replicated seats i first_seat s e in
        (first_view start i 0, first-is start seats i r.0, subst (λ (t : SeatState). FitsSeat i t (first_view start i 0)) r.1 (fits i));
    count = length-replicate seats first_seat;
    receipts = refl;
  };
}
  where
    fits : (i : ℕ) → FitsSeat i first_seat (first_view start i 0)
    fits i = record { here = refl; named = refl; known = refl; held = refl; waiting = λ r e. absurd (none-some r e) }

pub turns_stay : TurnsStay
turns_stay lists start seats words slots steps p some_seat few led =
    always_runs lists start seats (first_known seats words slots (first_start seats words slots 0)) steps p (always_begins seats words slots (first_start seats words slots 0) some_seat few) led
