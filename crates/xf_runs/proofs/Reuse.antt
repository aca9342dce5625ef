-- No slot that was retired while a seat was pinned is listed again before the seat's unpin.
use Rattle.std.proofs.Common.{◌≡◌, ◌≢◌, ℕ, zero, suc, ◌+◌, ◌<◌, ◌≤◌, Bool, true, true≢false, List, [], ◌∷◌, ◌++◌, length, Some, None, Option, refl, sym, ap, ◌∙◌, subst, arith, eqb-true, lt-ltb}
use Rattle.std.specs.Prelude.{◌==◌, if◌then◌else◌, slice_get, slice_index}
use Rattle.std.proofs.lemmas.Option.{none-some, slice_get_within}
use Rattle.std.proofs.lemmas.List.{length-replicate}
use Rattle.xf_types.specs.declared.state.Sa.{Sa}
use Rattle.xf_types.specs.Steps.{empty}
use Rattle.xf_views.specs.declared.hand.Hand.{Hand}
use Rattle.xf_views.specs.Hands.{first_hand, loaded_since}
use Rattle.xf_views.proofs.Seats.{no_turn}
use Rattle.xf_proto.specs.declared.step.Kind.{Kind}
use Rattle.xf_proto.specs.declared.step.Kind.TheVariants as kind
use Rattle.xf_proto.specs.declared.step.Step.{Step}
use Rattle.xf_proto.specs.SeatState.{SeatState, first_seat}
use Rattle.xf_proto.specs.ProtocolState.{ProtocolState}
use Rattle.xf_proto.specs.Statuses.{are_clear, may_become, may_store}
use Rattle.xf_proto.specs.Legality.{may_step}
use Rattle.xf_proto.specs.Effects.{pin_after, state_after}
use Rattle.xf_proto.specs.Table.{LeadTo}
use Rattle.xf_runs.specs.Known.{Known, first_start, first_known, known_after}
use Rattle.xf_runs.specs.Holds.{AlwaysHolds}
use Rattle.xf_runs.specs.Reuse.{step_of, EachStep, LeavesPin, NoReuse}
use Rattle.xf_runs.proofs.Flags.{both}
use Rattle.xf_runs.proofs.Lookups.{get_replicated}
use Rattle.xf_runs.proofs.Rows.{row-is, always_step, always_begins}
use Rattle.xf_runs.proofs.Hands.{EachHand, each-next, generation-up, slots-stay, IsEarly, early-later, early-next}
use Rattle.xf_runs.proofs.Watched.{store-asks, IsPinned, pinned-next, Watched, no-store, watched-next, watched-begins}

-- no image lists anything: of the turn part nothing else is asked
abbrev nowhere : List ℕ → ℕ → Option (Sa × ℕ)
nowhere image slot = None

-- a list in two parts
lead-parts : (p : ProtocolState) (a b : List Step) (q : ProtocolState) → LeadTo p (a ++ b) q → (z : ProtocolState) × LeadTo p a z × LeadTo z b q
lead-parts p [] b q l = (p, refl, l)
lead-parts p (s ∷ a) b q l = let t = lead-parts l.0 a b q l.2 in (t.0, (l.0, l.1, t.1), t.2)

any-steps : (steps : List Step) → EachStep (λ s. Unit {0}) steps
any-steps [] = tt
any-steps (s ∷ steps) = (tt, any-steps steps)

module _ (made : ℕ) where
  -- a known state to which the steps lead, and of which this holds
  abbrev Reached : (ProtocolState → Type 0) → ProtocolState → Type 0
  Reached Q q = (z : Known) × (z.state ≡ q) × AlwaysHolds made z × Q z.state

  -- what each step keeps holds after all of them
  runs_with : (Q : ProtocolState → Type 0) (Ok : Step → Type 0)
      → ((k : Known) → AlwaysHolds made k → Q k.state → (step : Step) → Ok step → (s : SeatState) → slice_get k.state.seats step.actor ≡ Some s → may_step k.state step.actor s.hand step.kind ≡ true
      → Q (state_after k.state step.actor s step.kind))
      → (k : Known) (steps : List Step) (q : ProtocolState) → AlwaysHolds made k → Q k.state → LeadTo k.state steps q → EachStep Ok steps → Reached Q q
  runs_with Q Ok keeps k [] q h holds led ok = (k, led, h, holds)
  runs_with Q Ok keeps k (step ∷ steps) q h holds led ok =
      let r = row-is k.state step led.0 led.1 in
      let t = h.told.seats step.actor r.seat r.there in
      runs_with Q Ok keeps (known_after nowhere (empty 0 0) k step.actor t.0 r.seat step.kind) steps q
      (always_step nowhere (empty 0 0) made k h step.actor t.0 r.seat step.kind t.1 t.2 r.legal)
      (keeps k h holds step ok.0 r.seat r.there r.legal)
      (subst (λ (z : ProtocolState). LeadTo z steps q) (sym r.leads) led.2) ok.1

  -- no other seat has the turn
  alone : (k : Known) → AlwaysHolds made k → (i : ℕ) (s : SeatState) → slice_get k.state.seats i ≡ Some s → s.hand.has_turn ≡ true → (l : ℕ) (u : SeatState) → l ≢ i → slice_get k.state.seats l ≡ Some u
      → u.hand.has_turn ≡ true → ⊥
  alone k h i s at turn l u ne there other =
      let a = h.told.seats i s at in
      let b = h.told.seats l u there in
      no_turn k.state.steps made k.state.numbers k.owners k.log k.views h.turn i a.0 a.1 a.2.here l b.0 ne b.1 b.2.here
      (sym (ap (λ (x : Hand). x.has_turn) a.2.known) ∙ turn) (sym (ap (λ (x : Hand). x.has_turn) b.2.known) ∙ other)

  module _ (slots : ℕ) where
    -- before the pin
    abbrev AreEarly : ProtocolState → Type 0
    AreEarly p = EachHand (λ i h. IsEarly p.numbers.generation h) p.seats × (length p.turns ≡ slots)

    early-keeps : (p : ProtocolState) → AreEarly p → (i : ℕ) (s : SeatState) (j : Kind) → slice_get p.seats i ≡ Some s → AreEarly (state_after p i s j)
    early-keeps p e i s j at =
        let g = (state_after p i s j).numbers.generation in
        let up = generation-up p i s j in (
          each-next (λ l h. IsEarly g h) p i s j (λ l u ne there. early-later p u.hand g up (e.0 l u there)) (early-next p s.hand g up (e.0 i s at) j),
          slots-stay p i s j ∙ e.1,
        )

    module _ (k slot q : ℕ) (some_pin : 1 ≤ q) (here : k < made) (inside : slot < slots) where
      -- the listing
      not_listed : (r : ℕ) (low : q ≤ r) (old : 2 ≤ r) (z : Known) → AlwaysHolds made z → Watched k q some_pin made slot r low old here z.state → (lister : ℕ) (rest : List Step) (p : ProtocolState)
          → LeadTo z.state (step_of lister (kind.Store slot 1) ∷ rest) p → ⊥
      not_listed r low old z h w lister rest p led =
          let row = row-is z.state (step_of lister (kind.Store slot 1)) led.0 led.1 in
          let t = store-asks z.state lister row.seat.hand slot 1 row.legal in
          no-store k q some_pin made slot r low old here z.state w h.told.count lister row.seat row.there t.turn 1 t.may

      -- what comes after the retirement
      not_after : (r : ℕ) (low : q ≤ r) (old : 2 ≤ r) (z : Known) → AlwaysHolds made z → Watched k q some_pin made slot r low old here z.state → (after : List Step) → EachStep (LeavesPin k) after
          → (lister : ℕ) (rest : List Step) (p : ProtocolState) → LeadTo z.state (after ++ (step_of lister (kind.Store slot 1) ∷ rest)) p → ⊥
      not_after r low old z h w after leaves lister rest p led =
          let a = lead-parts z.state after (step_of lister (kind.Store slot 1) ∷ rest) p led in
          let y = runs_with (Watched k q some_pin made slot r low old here) (LeavesPin k)
          (λ u g v step ok s at legal. watched-next k q some_pin made slot r low old here u.state v g.told.count step.actor s at step.kind legal ok)
          z after a.0 h w a.1 leaves in
          not_listed r low old y.0 y.2 y.3 lister rest p (subst (λ (x : ProtocolState). LeadTo x (step_of lister (kind.Store slot 1) ∷ rest) p) (sym y.1) a.2)

      -- the seat is pinned
      abbrev ArePinned : ProtocolState → Type 0
      ArePinned p = EachHand (IsPinned k q some_pin) p.seats × (q ≤ p.numbers.generation + 1) × (length p.turns ≡ slots)

      -- a retirement is one more than the generation
      retired-at : (p : ProtocolState) (h : Hand) (word : ℕ) → slot < length p.turns → 2 ≤ word → may_store p h slot word ≡ true → word ≡ p.numbers.generation + 1
      retired-at p h word less old legal = by (slice_index p.words slot) (subst (λ (b : Bool). (if b then may_become p h slot (slice_index p.words slot) word else true) ≡ true) (lt-ltb slot (length p.turns) less) legal)
        where
          by : (x : ℕ) → may_become p h slot x word ≡ true → word ≡ p.numbers.generation + 1
          by zero l = let one = eqb-true word 1 l in absurd (omega arith)
          by (suc zero) l = eqb-true word (p.numbers.generation + 1) l
          by (suc (suc y)) l = let one = eqb-true word 1 (both (word == 1) (are_clear (y + 2) (loaded_since slot h) (length p.seats)) l).0 in absurd (omega arith)

      -- what comes after the pin
      not_pinned : (z : Known) → AlwaysHolds made z → ArePinned z.state → (between after : List Step) → EachStep (LeavesPin k) between → EachStep (LeavesPin k) after
          → (retirer lister word : ℕ) → 2 ≤ word → (rest : List Step) (p : ProtocolState)
          → LeadTo z.state (between ++ (step_of retirer (kind.Store slot word) ∷ (after ++ (step_of lister (kind.Store slot 1) ∷ rest)))) p → ⊥
      not_pinned z h w between after leaves_between leaves_after retirer lister word old rest p led =
          let listing = after ++ (step_of lister (kind.Store slot 1) ∷ rest) in
          let a = lead-parts z.state between (step_of retirer (kind.Store slot word) ∷ listing) p led in
          let y = runs_with ArePinned (LeavesPin k)
          (λ u g v step ok s at legal. (
            each-next (IsPinned k q some_pin) u.state step.actor s step.kind (λ l t ne there. v.0 l t there) (pinned-next k q some_pin u.state step.actor s (v.0 step.actor s at) step.kind legal ok),
            (let up = generation-up u.state step.actor s step.kind in let low = v.1 in omega arith),
            slots-stay u.state step.actor s step.kind ∙ v.2,
          ))
          z between a.0 h w a.1 leaves_between in
          let b = subst (λ (x : ProtocolState). LeadTo x (step_of retirer (kind.Store slot word) ∷ listing) p) (sym y.1) a.2 in
          let row = row-is y.0.state (step_of retirer (kind.Store slot word)) b.0 b.1 in
          let t = y.2.told.seats retirer row.seat row.there in
          let asks = store-asks y.0.state retirer row.seat.hand slot word row.legal in
          let less : slot < length y.0.state.turns = subst (λ n. slot < n) (sym y.3.2) inside in
          let at_word = retired-at y.0.state row.seat.hand word less old asks.may in
          let limit = y.3.1 in
          let low : q ≤ word = omega arith in
          not_after word low old (known_after nowhere (empty 0 0) y.0 retirer t.0 row.seat (kind.Store slot word))
          (always_step nowhere (empty 0 0) made y.0 y.2 retirer t.0 row.seat (kind.Store slot word) t.1 t.2 row.legal)
          (watched-begins k q some_pin made slot word low old here y.0.state retirer row.seat row.there y.3.0 less row.legal (alone y.0 y.2 retirer row.seat row.there asks.turn))
          after leaves_after lister rest p
          (subst (λ (x : ProtocolState). LeadTo x listing p) (sym row.leads) b.2)

    -- the pin
    not_reused : (z : Known) → AlwaysHolds made z → AreEarly z.state → (k slot : ℕ) → slot < slots → (between after : List Step) → EachStep (LeavesPin k) between → EachStep (LeavesPin k) after
        → (retirer lister word : ℕ) → 2 ≤ word → (rest : List Step) (p : ProtocolState)
        → LeadTo z.state (step_of k kind.Pin ∷ (between ++ (step_of retirer (kind.Store slot word) ∷ (after ++ (step_of lister (kind.Store slot 1) ∷ rest))))) p → ⊥
    not_reused z h e k slot inside between after leaves_between leaves_after retirer lister word old rest p led =
        let row = row-is z.state (step_of k kind.Pin) led.0 led.1 in
        let t = h.told.seats k row.seat row.there in
        let d = (e.0 k row.seat row.there).1 (both (row.seat.hand.pin == 0) row.seat.hand.just_began row.legal).1 in
        let q = pin_after row.seat.hand.began in
        let is : q ≡ d.0 + 1 = ap pin_after d.1 in
        let limit = (e.0 k row.seat row.there).0 d.0 d.1 in
        let less = slice_get_within z.state.seats k row.seat row.there in
        let some_pin : 1 ≤ q = omega arith in
        let count = h.told.count in
        not_pinned k slot q some_pin (omega arith) inside (known_after nowhere (empty 0 0) z k t.0 row.seat kind.Pin)
        (always_step nowhere (empty 0 0) made z h k t.0 row.seat kind.Pin t.1 t.2 row.legal) (
          each-next (IsPinned k q some_pin) z.state k row.seat kind.Pin (λ l u ne there same. absurd (ne same)) (λ same. refl),
          omega arith,
          e.1,
        )
        between after leaves_between leaves_after retirer lister word old rest p
        (subst (λ (x : ProtocolState). LeadTo x (between ++ (step_of retirer (kind.Store slot word) ∷ (after ++ (step_of lister (kind.Store slot 1) ∷ rest)))) p) (sym row.leads) led.2)

pub no_reuse : NoReuse
no_reuse seats words slots k slot steps p some_seat few inside led r =
    let first = first_known seats words slots (first_start seats words slots 0) in
    let later = step_of k kind.Pin ∷ (r.between ++ (step_of r.retirer (kind.Store slot r.word) ∷ (r.after ++ (step_of r.lister (kind.Store slot 1) ∷ r.rest)))) in
    let a = lead-parts first.state r.before later p (subst (λ (l : List Step). LeadTo first.state l p) (sym r.whole) led) in
    let y = runs_with seats (AreEarly seats slots) (λ s. Unit {0}) (λ z h e step ok s at legal. early-keeps seats slots z.state e step.actor s step.kind at)
    first r.before a.0 (always_begins seats words slots (first_start seats words slots 0) some_seat few) (
      λ i s at. subst (λ (t : SeatState). IsEarly 0 t.hand) (get_replicated seats i first_seat s at).1 at_first,
      length-replicate slots 0,
    )
    a.1 (any-steps r.before) in
    not_reused seats slots y.0 y.2 y.3 k slot inside r.between r.after r.pinned_between r.pinned_after r.retirer r.lister r.word r.retires r.rest p
    (subst (λ (x : ProtocolState). LeadTo x later p) (sym y.1) a.2)
  where
    at_first : IsEarly 0 first_hand
    at_first = ((λ b e. absurd (none-some b e)), λ e. absurd (true≢false (sym e)))
