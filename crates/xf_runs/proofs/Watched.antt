-- While a seat is pinned that pinned before a slot was retired, the slot stays retired.
use Rattle.std.proofs.Common.{◌≡◌, ◌≢◌, ℕ, zero, suc, ◌+◌, ◌<◌, ◌≤◌, Bool, true, false, true≢false, cond, not, List, ◌∷◌, length, drop, find, Some, None, refl, sym, ap, ◌∙◌, subst, arith, ⊎_elim, eqb-true, eq-eqb, ne_eqb, lt-ltb, ltb-true, get_or-set_same, get_or-set_other}
use Rattle.std.specs.Prelude.{if◌then◌else◌, ◌&&◌, ◌==◌, nat_lt, nat_le, slice_get, slice_index, slice_index_or}
use Rattle.std.proofs.lemmas.Option.{slice_get_cases}
use mathlib.Core.Option.{some-ne-none}
use Rattle.xf_views.specs.declared.hand.Hand.{Hand}
use Rattle.xf_views.specs.Hands.{retired_after, count_before, loaded_before, loaded_since, hand_after_draw, hand_after_trial}
use Rattle.xf_invariant.specs.PinPart.{Has}
use Rattle.xf_invariant.proofs.Held.{has_drop, drop_all, marks-retired}
use Rattle.xf_proto.specs.declared.step.Kind.{Kind}
use Rattle.xf_proto.specs.declared.step.Kind.TheVariants as kind
use Rattle.xf_proto.specs.SeatState.{SeatState}
use Rattle.xf_proto.specs.ProtocolState.{ProtocolState}
use Rattle.xf_proto.specs.Statuses.{are_clear, may_become, may_store}
use Rattle.xf_proto.specs.Legality.{is_by_move, is_by_trial, may_step}
use Rattle.xf_proto.specs.Effects.{pin_of, state_after}
use Rattle.xf_runs.proofs.Flags.{both}
use Rattle.xf_runs.proofs.Clear.{clear-all}
use Rattle.xf_runs.proofs.Hands.{taken_hand, hand_next, EachHand, each-next, slots-stay, words-stay, pin-stays}

-- what the table asks of a store
pub record MayStoreThere (p : ProtocolState) (h : Hand) (place word : ℕ) : Type 0 where
  pub turn : h.has_turn ≡ true
  pub within : place < length p.words
  pub may : may_store p h place word ≡ true

pub store-asks : (p : ProtocolState) (i : ℕ) (h : Hand) (place word : ℕ) → may_step p i h (kind.Store place word) ≡ true → MayStoreThere p h place word
store-asks p i h place word legal =
    let d = both (h.has_turn && h.writing && not h.drawn && nat_lt place (length p.words)) (may_store p h place word) legal in
    let c = both (h.has_turn && h.writing && not h.drawn) (nat_lt place (length p.words)) d.0 in
    let b = both (h.has_turn && h.writing) (not h.drawn) c.0 in
    record { turn = (both h.has_turn h.writing b.0).0; within = ltb-true place (length p.words) c.1; may = d.1 }

-- a store at another place leaves what was loaded since the slot's retirement
retired-other : (slots place word slot : ℕ) (loaded retired : List (ℕ × ℕ)) → place ≢ slot → loaded_before slot (retired_after slots place word loaded retired) ≡ loaded_before slot retired
retired-other slots place word slot loaded retired ne = by (nat_lt place slots && nat_le 2 word)
  where
    by : (b : Bool) → loaded_before slot (if b then (place, length loaded) ∷ retired else retired) ≡ loaded_before slot retired
    by true = ap (λ (b : Bool). count_before (cond b (Some (place, length loaded)) (find (λ (t : ℕ × ℕ). t.0 == slot) retired))) (ne_eqb place slot ne)
    by false = refl

-- and one that retires it forgets what was loaded before
retired-now : (slots slot word : ℕ) (loaded retired : List (ℕ × ℕ)) → slot < slots → 2 ≤ word → loaded_before slot (retired_after slots slot word loaded retired) ≡ length loaded
retired-now slots slot word loaded retired inside old =
    ap (loaded_before slot) (marks-retired slots slot word loaded retired inside old)
    ∙ ap (λ (b : Bool). count_before (cond b (Some (slot, length loaded)) (find (λ (t : ℕ × ℕ). t.0 == slot) retired))) (eq-eqb slot slot refl)

module _ (k q : ℕ) (some_pin : 1 ≤ q) where
  -- the seat's pin word is q
  abbrev pub IsPinned : ℕ → Hand → Type 0
  IsPinned i h = i ≡ k → h.pin ≡ q

  -- a legal step that isn't its Unpin leaves it
  pub pinned-next : (p : ProtocolState) (i : ℕ) (s : SeatState) → IsPinned i s.hand → (j : Kind) → may_step p i s.hand j ≡ true → (i ≡ k → j ≡ kind.Unpin → ⊥) → IsPinned i (hand_next p s.hand j)
  pinned-next p i s pinned kind.Pin legal leaves is =
      let zero_pin = eqb-true s.hand.pin 0 (both (s.hand.pin == 0) s.hand.just_began legal).0 in
      let word = pinned is in
      absurd (omega arith)
  pinned-next p i s pinned kind.Unpin legal leaves is = absurd (leaves is refl)
  pinned-next p i s pinned j legal leaves is = pin-stays p s.hand j (λ e. absurd (cc)) (λ e. absurd (cc)) ∙ pinned is

  module _ (made slot r : ℕ) (low : q ≤ r) (old : 2 ≤ r) (here : k < made) where
    -- the slot is retired at r, and whoever has the turn loaded no other pin word of the seat since then
    pub record Watched (p : ProtocolState) : Type 0 where
      pub pinned : EachHand IsPinned p.seats
      pub status : slice_index p.words slot ≡ r
      pub loaded : EachHand (λ i h. h.has_turn ≡ true → (x : ℕ) → Has (loaded_since slot h) (k, x) → x ≡ q) p.seats
      pub inside : slot < length p.turns

    -- nothing may be stored there
    pub no-store : (p : ProtocolState) → Watched p → length p.seats ≡ made → (i : ℕ) (s : SeatState) → slice_get p.seats i ≡ Some s → s.hand.has_turn ≡ true → (word : ℕ) → may_store p s.hand slot word ≡ true → ⊥
    no-store p w count i s at turn word legal =
        by (slice_index p.words slot) w.status (subst (λ (b : Bool). (if b then may_become p s.hand slot (slice_index p.words slot) word else true) ≡ true) (lt-ltb slot (length p.turns) w.inside) legal)
      where
        by : (x : ℕ) → x ≡ r → may_become p s.hand slot x word ≡ true → ⊥
        by zero e l = omega arith
        by (suc zero) e l = omega arith
        by (suc (suc y)) e l =
            let b = both (word == 1) (are_clear (y + 2) (loaded_since slot s.hand) (length p.seats)) l in
            let c = clear-all (y + 2) (loaded_since slot s.hand) (length p.seats) b.1 k (omega arith) in
            let is : c.0 ≡ q = w.loaded i s at turn c.0 c.1 in
            ⊎_elim (λ (z : c.0 ≡ 0). omega arith) (λ (z : y + 2 < c.0). omega arith) c.2

    -- a legal step leaves it so
    module _ (p : ProtocolState) (w : Watched p) (count : length p.seats ≡ made) (i : ℕ) (s : SeatState) (at : slice_get p.seats i ≡ Some s) where
      no-change : (place word : ℕ) → may_step p i s.hand (kind.Store place word) ≡ true → place ≢ slot
      no-change place word legal same =
          let t = store-asks p i s.hand place word legal in
          no-store p w count i s at t.turn word (subst (λ z. may_store p s.hand z word ≡ true) same t.may)

      status-next : (j : Kind) → may_step p i s.hand j ≡ true → slice_index (state_after p i s j).words slot ≡ r
      status-next (kind.Store place word) legal = get_or-set_other p.words place slot word 0 (λ e. no-change place word legal (sym e)) ∙ w.status
      status-next j legal = ap (λ (l : List ℕ). slice_index l slot) (words-stay p i s j (λ place word e. absurd (cc))) ∙ w.status

      Loaded : Hand → Type 0
      Loaded h = h.has_turn ≡ true → (x : ℕ) → Has (loaded_since slot h) (k, x) → x ≡ q

      loaded-next : (j : Kind) → may_step p i s.hand j ≡ true → (hand_next p s.hand j).has_turn ≡ true → (x : ℕ) → Has (loaded_since slot (hand_next p s.hand j)) (k, x) → x ≡ q
      loaded-next kind.Serving legal turn x has = let y : ℕ × ℕ = (k, x) in absurd (some-ne-none y (sym has.1))
      loaded-next kind.Leave legal turn x has = absurd (true≢false (sym turn))
      loaded-next (kind.LoadPin seat) legal turn x has =
          let word = pin_of (slice_get p.seats seat) in
          let less = ltb-true seat (length p.seats) (both s.hand.has_turn (nat_lt seat (length p.seats)) legal).1 in
          ⊎_elim
          (λ (z : Has (loaded_since slot s.hand) (k, x)). w.loaded i s at turn x z)
          (λ (z : (seat, word) ≡ (k, x)). ⊎_elim
          (λ (t : (u : SeatState) × (seat < length p.seats) × (slice_get p.seats seat ≡ Some u) × (slice_index_or p.seats seat u ≡ u)).
          sym (ap (λ (y : ℕ × ℕ). y.1) z) ∙ ap pin_of t.2 ∙ w.pinned seat t.0 t.2 (ap (λ (y : ℕ × ℕ). y.0) z))
          (λ (t : (length p.seats ≤ seat) × (slice_get p.seats seat ≡ None)). let far = t.0 in absurd (omega arith))
          (slice_get_cases p.seats seat).1)
          (has_drop (loaded_before slot s.hand.retired) s.hand.loaded (seat, word) (k, x) has)
      loaded-next (kind.Store place word) legal turn x has =
          w.loaded i s at turn x
          (subst (λ n. Has (drop n s.hand.loaded) (k, x)) (retired-other (length p.turns) place word slot s.hand.loaded s.hand.retired (no-change place word legal)) has)
      loaded-next (kind.Draw None) legal turn x has = w.loaded i s at turn x has
      loaded-next (kind.Draw (Some d)) legal turn x has = by (is_by_trial s.hand d) turn x has
        where
          by : (b : Bool) → (if b then hand_after_trial s.hand p.numbers.draw else hand_after_draw s.hand (is_by_move s.hand d)).has_turn ≡ true → (x : ℕ)
              → Has (loaded_since slot (if b then hand_after_trial s.hand p.numbers.draw else hand_after_draw s.hand (is_by_move s.hand d))) (k, x) → x ≡ q
          by true turn x has = w.loaded i s at turn x has
          by false turn x has = w.loaded i s at turn x has
      loaded-next (kind.TakeTurn other) legal turn x has = by (slice_index p.turns other) turn x has
        where
          by : (word : ℕ) → (taken_hand s.hand other word).has_turn ≡ true → (x : ℕ) → Has (loaded_since slot (taken_hand s.hand other word)) (k, x) → x ≡ q
          by zero turn x has = w.loaded i s at turn x has
          by (suc word) turn x has = w.loaded i s at turn x has
      loaded-next _ legal turn x has = w.loaded i s at turn x has

      pub watched-next : (j : Kind) → may_step p i s.hand j ≡ true → (i ≡ k → j ≡ kind.Unpin → ⊥) → Watched (state_after p i s j)
      watched-next j legal leaves = record {
        pinned = each-next IsPinned p i s j (λ l u ne there. w.pinned l u there) (pinned-next p i s (w.pinned i s at) j legal leaves);
        status = status-next j legal;
        loaded = each-next (λ l h. h.has_turn ≡ true → (x : ℕ) → Has (loaded_since slot h) (k, x) → x ≡ q) p i s j (λ l u ne there. w.loaded l u there) (loaded-next j legal);
        inside = subst (λ n. slot < n) (sym (slots-stay p i s j)) w.inside;
      }

    -- it is so from the retirement on
    pub watched-begins : (p : ProtocolState) (i : ℕ) (s : SeatState) → slice_get p.seats i ≡ Some s → EachHand IsPinned p.seats → slot < length p.turns → may_step p i s.hand (kind.Store slot r) ≡ true
        → ((l : ℕ) (u : SeatState) → l ≢ i → slice_get p.seats l ≡ Some u → u.hand.has_turn ≡ true → ⊥) → Watched (state_after p i s (kind.Store slot r))
    watched-begins p i s at pinned inside legal alone =
        let t = store-asks p i s.hand slot r legal in
        record {
          pinned = each-next IsPinned p i s (kind.Store slot r) (λ l u ne there. pinned l u there) (pinned i s at);
          status = get_or-set_same p.words slot r 0 t.within;
          loaded = each-next (λ l h. h.has_turn ≡ true → (x : ℕ) → Has (loaded_since slot h) (k, x) → x ≡ q) p i s (kind.Store slot r)
              (λ l u ne there turn x has. absurd (alone l u ne there turn))
              (λ turn x has.
              let y : ℕ × ℕ = (k, x) in
              absurd (drop_all s.hand.loaded y (subst (λ n. Has (drop n s.hand.loaded) (k, x)) (retired-now (length p.turns) slot r s.hand.loaded s.hand.retired inside old) has)));
          inside = inside;
        }
