-- What each step makes of the hand of its seat, of the generation and of the turns.
use Rattle.std.proofs.Common.{◌≡◌, ◌≢◌, ℕ, zero, suc, ◌+◌, ◌≤◌, Bool, true, false, true≢false, List, length, set, Some, None, Option, refl, sym, ◌∙◌, subst, subst₂, arith, ⊎_elim}
use Rattle.std.specs.Prelude.{if◌then◌else◌, slice_get, slice_index}
use Rattle.std.proofs.lemmas.Option.{same_Some}
use Rattle.std.proofs.lemmas.List.{length-set}
use Rattle.xf_types.specs.declared.call.Receipt.{Receipt}
use Rattle.xf_views.specs.declared.hand.Hand.{Hand}
use Rattle.xf_views.specs.Hands.{hand_after_ticket, hand_after_serving, hand_after_begin, hand_after_store, hand_after_draw, hand_after_trial, hand_after_finish, hand_after_leave, hand_after_generation, hand_after_look, hand_after_pin, hand_after_load_pin, hand_after_take, hand_after_give}
use Rattle.xf_proto.specs.declared.step.Kind.{Kind}
use Rattle.xf_proto.specs.declared.step.Kind.TheVariants as kind
use Rattle.xf_proto.specs.SeatState.{SeatState}
use Rattle.xf_proto.specs.ProtocolState.{ProtocolState}
use Rattle.xf_proto.specs.Legality.{is_by_move, is_by_trial}
use Rattle.xf_proto.specs.Effects.{pin_after, pin_of, drawn_later, drawn_now, taken_by, state_after}
use Rattle.xf_runs.proofs.Lookups.{get_set}

abbrev pub taken_hand : Hand → ℕ → ℕ → Hand
taken_hand h slot zero = hand_after_take h slot
taken_hand h slot (suc other) = hand_after_look h

abbrev pub hand_next : ProtocolState → Hand → Kind → Hand
hand_next p h kind.Ticket = hand_after_ticket h p.numbers.ticket
hand_next p h kind.Serving = hand_after_serving h p.numbers.serving
hand_next p h kind.Begin = hand_after_begin h
hand_next p h (kind.Store place value) = hand_after_store (length p.turns) h place value
hand_next p h (kind.Draw None) = hand_after_trial h p.numbers.draw
hand_next p h (kind.Draw (Some r)) = if is_by_trial h r then hand_after_trial h p.numbers.draw else hand_after_draw h (is_by_move h r)
hand_next p h kind.Finish = hand_after_finish h
hand_next p h kind.Leave = hand_after_leave h
hand_next p h kind.LoadGeneration = hand_after_generation h p.numbers.generation
hand_next p h (kind.LoadWord place) = hand_after_look h
hand_next p h kind.Pin = hand_after_pin h (pin_after h.began)
hand_next p h kind.Unpin = hand_after_pin h 0
hand_next p h (kind.LoadPin seat) = hand_after_load_pin h seat (pin_of (slice_get p.seats seat))
hand_next p h (kind.TakeTurn slot) = taken_hand h slot (slice_index p.turns slot)
hand_next p h (kind.GiveTurn slot) = hand_after_give h slot

-- the seats after a step
abbrev SeatsNext : ProtocolState → ℕ → Hand → List SeatState → Type 0
SeatsNext p i h seats = (o : Option Receipt) × (seats ≡ set p.seats i (record { hand = h; pending = o }))

seats-next : (p : ProtocolState) (i : ℕ) (s : SeatState) (j : Kind) → SeatsNext p i (hand_next p s.hand j) (state_after p i s j).seats
seats-next p i s (kind.Draw None) = (None, refl)
seats-next p i s (kind.Draw (Some r)) = by (is_by_trial s.hand r)
  where
    by : (b : Bool) → SeatsNext p i (if b then hand_after_trial s.hand p.numbers.draw else hand_after_draw s.hand (is_by_move s.hand r))
        (if b then drawn_later p i s (Some r) else drawn_now p i s r (is_by_move s.hand r)).seats
    by true = (Some r, refl)
    by false = (s.pending, refl)
seats-next p i s kind.LoadGeneration = (None, refl)
seats-next p i s (kind.TakeTurn slot) = by (slice_index p.turns slot)
  where
    by : (word : ℕ) → SeatsNext p i (taken_hand s.hand slot word) (taken_by p i s slot word).seats
    by zero = (s.pending, refl)
    by (suc other) = (s.pending, refl)
seats-next p i s _ = (s.pending, refl)

-- of each seat's hand
abbrev pub EachHand : (ℕ → Hand → Type 0) → List SeatState → Type 0
EachHand P seats = (i : ℕ) (s : SeatState) → slice_get seats i ≡ Some s → P i s.hand

pub each-next : (P : ℕ → Hand → Type 0) (p : ProtocolState) (i : ℕ) (s : SeatState) (j : Kind) → ((l : ℕ) (u : SeatState) → l ≢ i → slice_get p.seats l ≡ Some u → P l u.hand)
    → P i (hand_next p s.hand j) → EachHand P (state_after p i s j).seats
each-next P p i s j others mine l u e =
    let t = seats-next p i s j in
    let new : SeatState = record { hand = hand_next p s.hand j; pending = t.0 } in
    ⊎_elim
    (λ (x : (l ≡ i) × (new ≡ u)). subst₂ (λ (a : ℕ) (z : SeatState). P a z.hand) (sym x.0) x.1 mine)
    (λ (x : (l ≢ i) × (slice_get p.seats l ≡ Some u)). others l u x.0 x.1)
    (get_set p.seats i l new u (subst (λ (seats : List SeatState). slice_get seats l ≡ Some u) t.1 e))

same-low : (a b : ℕ) → b ≡ a → a ≤ b
same-low a b e = omega arith

pub generation-up : (p : ProtocolState) (i : ℕ) (s : SeatState) (j : Kind) → p.numbers.generation ≤ (state_after p i s j).numbers.generation
generation-up p i s kind.Begin = omega arith
generation-up p i s (kind.Draw None) = same-low p.numbers.generation p.numbers.generation refl
generation-up p i s (kind.Draw (Some r)) = by (is_by_trial s.hand r)
  where
    by : (b : Bool) → p.numbers.generation ≤ (if b then drawn_later p i s (Some r) else drawn_now p i s r (is_by_move s.hand r)).numbers.generation
    by true = same-low p.numbers.generation p.numbers.generation refl
    by false = same-low p.numbers.generation p.numbers.generation refl
generation-up p i s kind.Finish = omega arith
generation-up p i s (kind.TakeTurn slot) = by (slice_index p.turns slot)
  where
    by : (word : ℕ) → p.numbers.generation ≤ (taken_by p i s slot word).numbers.generation
    by zero = same-low p.numbers.generation p.numbers.generation refl
    by (suc other) = same-low p.numbers.generation p.numbers.generation refl
generation-up p i s _ = same-low p.numbers.generation p.numbers.generation refl

pub slots-stay : (p : ProtocolState) (i : ℕ) (s : SeatState) (j : Kind) → length (state_after p i s j).turns ≡ length p.turns
slots-stay p i s (kind.Draw None) = refl
slots-stay p i s (kind.Draw (Some r)) = by (is_by_trial s.hand r)
  where
    by : (b : Bool) → length (if b then drawn_later p i s (Some r) else drawn_now p i s r (is_by_move s.hand r)).turns ≡ length p.turns
    by true = refl
    by false = refl
slots-stay p i s (kind.TakeTurn slot) = by (slice_index p.turns slot)
  where
    by : (word : ℕ) → length (taken_by p i s slot word).turns ≡ length p.turns
    by zero = length-set p.turns slot (i + 1)
    by (suc other) = refl
slots-stay p i s (kind.GiveTurn slot) = length-set p.turns slot 0
slots-stay p i s _ = refl

-- a store alone changes words
pub words-stay : (p : ProtocolState) (i : ℕ) (s : SeatState) (j : Kind) → ((place value : ℕ) → j ≡ kind.Store place value → ⊥) → (state_after p i s j).words ≡ p.words
words-stay p i s (kind.Store place value) other = absurd (other place value refl)
words-stay p i s (kind.Draw None) other = refl
words-stay p i s (kind.Draw (Some r)) other = by (is_by_trial s.hand r)
  where
    by : (b : Bool) → (if b then drawn_later p i s (Some r) else drawn_now p i s r (is_by_move s.hand r)).words ≡ p.words
    by true = refl
    by false = refl
words-stay p i s (kind.TakeTurn slot) other = by (slice_index p.turns slot)
  where
    by : (word : ℕ) → (taken_by p i s slot word).words ≡ p.words
    by zero = refl
    by (suc other_word) = refl
words-stay p i s _ other = refl

-- a read begins at no later generation, and one that just began has begun
abbrev pub IsEarly : ℕ → Hand → Type 0
IsEarly g h = ((b : ℕ) → h.began ≡ Some b → b ≤ g) × (h.just_began ≡ true → (b : ℕ) × (h.began ≡ Some b))

module _ (p : ProtocolState) (h : Hand) (g : ℕ) (up : p.numbers.generation ≤ g) (e : IsEarly p.numbers.generation h) where
  pub early-later : IsEarly g h
  early-later = ((λ b is. let l = e.0 b is in omega arith), e.1)

  quiet : (z : Hand) → z.began ≡ h.began → z.just_began ≡ false → IsEarly g z
  quiet z same none = ((λ b is. let l = e.0 b (sym same ∙ is) in omega arith), λ is. absurd (true≢false (sym is ∙ none)))

  pub early-next : (j : Kind) → IsEarly g (hand_next p h j)
  early-next (kind.Draw None) = quiet (hand_after_trial h p.numbers.draw) refl refl
  early-next (kind.Draw (Some r)) = by (is_by_trial h r)
    where
      by : (b : Bool) → IsEarly g (if b then hand_after_trial h p.numbers.draw else hand_after_draw h (is_by_move h r))
      by true = quiet (hand_after_trial h p.numbers.draw) refl refl
      by false = quiet (hand_after_draw h (is_by_move h r)) refl refl
  early-next kind.LoadGeneration = ((λ b is. let same = same_Some p.numbers.generation b is in omega arith), λ is. (p.numbers.generation, refl))
  early-next (kind.TakeTurn slot) = by (slice_index p.turns slot)
    where
      by : (word : ℕ) → IsEarly g (taken_hand h slot word)
      by zero = quiet (hand_after_take h slot) refl refl
      by (suc other) = quiet (hand_after_look h) refl refl
  early-next kind.Ticket = quiet (hand_next p h kind.Ticket) refl refl
  early-next kind.Serving = quiet (hand_next p h kind.Serving) refl refl
  early-next kind.Begin = quiet (hand_next p h kind.Begin) refl refl
  early-next (kind.Store place value) = quiet (hand_next p h (kind.Store place value)) refl refl
  early-next kind.Finish = quiet (hand_next p h kind.Finish) refl refl
  early-next kind.Leave = quiet (hand_next p h kind.Leave) refl refl
  early-next (kind.LoadWord place) = quiet (hand_next p h (kind.LoadWord place)) refl refl
  early-next kind.Pin = quiet (hand_next p h kind.Pin) refl refl
  early-next kind.Unpin = quiet (hand_next p h kind.Unpin) refl refl
  early-next (kind.LoadPin seat) = quiet (hand_next p h (kind.LoadPin seat)) refl refl
  early-next (kind.GiveTurn slot) = quiet (hand_next p h (kind.GiveTurn slot)) refl refl

-- the pin word of a seat that is pinned is changed by its Unpin alone
pub pin-stays : (p : ProtocolState) (h : Hand) (j : Kind) → (j ≡ kind.Pin → ⊥) → (j ≡ kind.Unpin → ⊥) → (hand_next p h j).pin ≡ h.pin
pin-stays p h kind.Pin pins unpins = absurd (pins refl)
pin-stays p h kind.Unpin pins unpins = absurd (unpins refl)
pin-stays p h (kind.Draw None) pins unpins = refl
pin-stays p h (kind.Draw (Some r)) pins unpins = by (is_by_trial h r)
  where
    by : (b : Bool) → (if b then hand_after_trial h p.numbers.draw else hand_after_draw h (is_by_move h r)).pin ≡ h.pin
    by true = refl
    by false = refl
pin-stays p h (kind.TakeTurn slot) pins unpins = by (slice_index p.turns slot)
  where
    by : (word : ℕ) → (taken_hand h slot word).pin ≡ h.pin
    by zero = refl
    by (suc other) = refl
pin-stays p h _ pins unpins = refl
