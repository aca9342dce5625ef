-- What a legal step says of its places, and which steps have rows.
use Rattle.std.proofs.Common.{◌≡◌, ℕ, ◌<◌, ◌≤◌, Bool, true, false, length, Some, None, refl, sym, ap, ◌∙◌, get_or, arith, ⊎_elim, true≢false}
use Rattle.std.specs.Prelude.{◌&&◌, ◌||◌, not, is_none, nat_lt, slice_get, if◌then◌else◌, MatchBool}
use Rattle.std.proofs.lemmas.Bool.{ltb-true}
use Rattle.std.proofs.lemmas.Option.{slice_get_cases, slice_get_past}
use Rattle.xf_proto.specs.declared.step.Kind.{Kind}
use Rattle.xf_proto.specs.declared.step.Kind.TheVariants as kind
use Rattle.xf_proto.specs.SeatState.{SeatState}
use Rattle.xf_proto.specs.ProtocolState.{ProtocolState}
use Rattle.xf_proto.specs.Statuses.{may_store}
use Rattle.xf_proto.specs.Legality.{has_slot, may_step}
use Rattle.xf_proto.specs.Effects.{state_after}
use Rattle.xf_proto.specs.Table.{row_for}
use Rattle.xf_proto.specs.Runs.{HasRow}

right : (a b : Bool) → (a && b) ≡ true → b ≡ true
right true b e = e
right false b e = absurd (true≢false (sym e))

left : (a b : Bool) → (a && b) ≡ true → a ≡ true
left true b e = refl
left false b e = absurd (true≢false (sym e))

first : (a b c : Bool) → (a && b && c) ≡ true → a ≡ true
first a b c h = left a b (left (a && b) c h)

fourth : (a b c d e : Bool) → (a && b && c && d && e) ≡ true → d ≡ true
fourth a b c d e h = right (a && b && c) d (left (a && b && c && d) e h)

-- the step is legal for the seat at this place
abbrev pub MayStep : ProtocolState → ℕ → Kind → Type 0
MayStep p i k = (s : SeatState) → slice_get p.seats i ≡ Some s → may_step p i s.hand k ≡ true

seat_there : (p : ProtocolState) (i : ℕ) → i < length p.seats → (s : SeatState) × (slice_get p.seats i ≡ Some s)
seat_there p i h = ⊎_elim
    (λ (t : (x : SeatState) × (i < length p.seats) × (slice_get p.seats i ≡ Some x) × (get_or p.seats i x ≡ x)). (t.0, t.2))
    (λ (t : (length p.seats ≤ i) × (slice_get p.seats i ≡ None)). let z = t.0 in absurd (omega arith))
    (slice_get_cases p.seats i).1

module _ (p : ProtocolState) (i : ℕ) (h : i < length p.seats) where
  pub store_within : (place word : ℕ) → MayStep p i (kind.Store place word) → place < length p.words
  store_within place word l =
      let s = seat_there p i h in
      let hand = s.0.hand in
      ltb-true place (length p.words) (fourth hand.has_turn hand.writing (not hand.drawn) (nat_lt place (length p.words)) (may_store p hand place word) (l s.0 s.1))

  pub load_pin_within : (k : ℕ) → MayStep p i (kind.LoadPin k) → k < length p.seats
  load_pin_within k l = let s = seat_there p i h in ltb-true k (length p.seats) (right s.0.hand.has_turn (nat_lt k (length p.seats)) (l s.0 s.1))

  pub take_within : (slot : ℕ) → MayStep p i (kind.TakeTurn slot) → slot < length p.turns
  take_within slot l =
      let s = seat_there p i h in
      ltb-true slot (length p.turns) (first (nat_lt slot (length p.turns)) (not (has_slot slot s.0.hand.slots)) (not s.0.hand.writing) (l s.0 s.1))

  pub give_within : (slot : ℕ) → MayStep p i (kind.GiveTurn slot) → slot < length p.turns
  give_within slot l =
      let s = seat_there p i h in
      let lt = nat_lt slot (length p.turns) in
      let has = has_slot slot s.0.hand.slots in
      let none = is_none s.0.hand.trial in
      ltb-true slot (length p.turns) (first lt has none (left (lt && has && none) (not s.0.hand.writing || s.0.hand.drawn) (l s.0 s.1)))

-- no row past the seats
pub no_row_past : (p : ProtocolState) (i : ℕ) (k : Kind) → length p.seats ≤ i → row_for p i (slice_get p.seats i) k ≡ None
no_row_past p i k h = ap (λ o. row_for p i o k) (slice_get_past p.seats i h)

row_if : (p : ProtocolState) (i : ℕ) (k : Kind) (s : SeatState) (b : Bool) → slice_get p.seats i ≡ Some s → may_step p i s.hand k ≡ b
    → row_for p i (slice_get p.seats i) k ≡ (if b then Some (state_after p i s k) else None)
row_if p i k s b e h = ap (λ o. row_for p i o k) e ∙ ap (λ (c : Bool). if c then Some (state_after p i s k) else None) h

pub row_cases : (p : ProtocolState) (i : ℕ) (k : Kind) (legal : Bool) → i < length p.seats → ((s : SeatState) → slice_get p.seats i ≡ Some s → legal ≡ may_step p i s.hand k)
    → MatchBool legal (HasRow p i k) (row_for p i (slice_get p.seats i) k ≡ None)
row_cases p i k true h l = let s = seat_there p i h in record {
  seat = s.0;
  there = s.1;
  within = h;
  legal = λ t e. sym (l t e);
  row = row_if p i k s.0 true s.1 (sym (l s.0 s.1));
}
row_cases p i k false h l = let s = seat_there p i h in row_if p i k s.0 false s.1 (sym (l s.0 s.1))
