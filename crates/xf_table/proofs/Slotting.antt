-- A slot's turn that is taken or given back keeps the rule.
use Rattle.std.proofs.Common.{◌≡◌, ◌≢◌, ◌==◌, ℕ, ◌+◌, ◌-◌, ◌<◌, Bool, true, false, List, ◌∷◌, length, set, Some, Option, refl, sym, ap, ◌∙◌, subst, arith, cond, ⊎_elim, eq-eqb, ne_eqb}
use Rattle.std.specs.Prelude.{slice_index, if◌then◌else◌}
use Rattle.std.proofs.Math.ListN.{length-set}
use mathlib.Core.Logic.{dite}
use native.Mathlib.Decide.{ℕ_discrete}
use prog.Atomic.{either}
use Rattle.atomic_table.proofs.Lists.{at_index}
use Rattle.atomic_table.specs.Table.{takes, gives, put_back, rest}
use mathlib.Core.Option.{some, none}
use lib.ListN.{get_elem?}
use Rattle.atomic_table.specs.Table.{State, step, stepped, keeps, Allows}
use Rattle.xf_types.specs.declared.state.Sa.{Sa}
use Rattle.xf_types.specs.Machine.{Machine}
use Rattle.xf_types.specs.Standing.{Standing}
use Rattle.xf_views.specs.declared.view.View.{View}
use Rattle.xf_views.specs.declared.view.Start.{Start}
use Rattle.xf_views.specs.declared.entry.Listed.{Listed}
use Rattle.xf_views.specs.declared.view.SlotTurn.{SlotTurn}
use Rattle.xf_views.specs.Views.{view_after_take, view_after_miss, view_after_give}
use Rattle.xf_views.proofs.Lists.{at_set, set_here, set_else, at_below}
use Rattle.xf_views.proofs.Quiet.{take_keeps, give_keeps, miss_keeps}
use Rattle.xf_invariant.specs.Meaning.{Told}
use Rattle.xf_invariant.specs.PinPart.{Has}
use Rattle.xf_invariant.proofs.ImageTurns.{take_keeps_image, give_keeps_image, miss_keeps_image}
use Rattle.xf_ownpart.specs.Lists.{IsListing}
use Rattle.xf_ownpart.specs.OwnPart.{listed_at, standing_of}
use Rattle.xf_ownpart.specs.OwnLaws.{Shift}
use Rattle.xf_ownpart.proofs.OwnTurns.{take_keeps_own, give_keeps_own, value_keeps_own}
use Rattle.xf_seats.specs.Opened.{slots_of}
use Rattle.xf_seats.proofs.Life.{quiet_keeps_life}
use Rattle.xf_seats.proofs.Holders.{take_keeps_held, give_keeps_held}
use Rattle.xf_table.specs.Rule.{Ruled, most, good_at, lists_at, laid, four}
use Rattle.xf_table.specs.Rows.{MayTake, MayGive}
use Rattle.xf_table.specs.Plays.{Now, StandsWith, Took, takes_turn}
use Rattle.xf_table.specs.Plays as plays
use Rattle.xf_table.proofs.Regions.{set_turn, get_turn}
use Rattle.xf_table.proofs.Scenes.{set_same, known, shift, beginning, age, last, stands_with, quiet_ruled}

rest_is : {A : Type 0} (x : ℕ × A) (xs l : List (ℕ × A)) → l ≡ x ∷ xs → xs ≡ rest l
rest_is x xs l e = ap rest (sym e)

module _ {T : Type 0} (bucket_of : Sa → ℕ) (good : ℕ → ℕ → List ℕ → Told → Type 0) (lists : ℕ → ℕ → List ℕ → ℕ → Option (Sa × ℕ)) (machine : ℕ → ℕ → List ℕ → List Standing → Machine) (standing : T → Standing)
    (listing : (p s : ℕ) → IsListing (good p s) (lists p s)) (start : Start) (slots id : ℕ) (me : Now T) (here : me.0.here ≡ true) where
  abbrev Rule : State (Option T) View → Type 0
  Rule = Ruled bucket_of good lists machine standing start

  -- where a slot's turn word is
  abbrev place : ℕ → ℕ → ℕ → ℕ
  place slot count seats = ((slot + count) + seats) + 4

  place_is : (s : State (Option T) View) (r : Rule s) → get_elem? s.views id ≡ some me.0 → (slot count seats : ℕ) → length me.0.life.start.words ≡ count → me.0.life.start.seats ≡ seats
      → place slot count seats ≡ ((slot + length r.image) + length r.pins) + 4
  place_is s r at slot count seats counted same =
      let e : length r.pins ≡ seats = r.sizes.pins_are ∙ (ap (λ (x : Start). x.seats) (sym (known bucket_of good lists machine standing listing start s r id me.0 at here)) ∙ same) in
      let f : length r.image ≡ count = r.sizes.image_is ∙ (ap (λ (x : Start). length x.words) (sym (known bucket_of good lists machine standing listing start s r id me.0 at here)) ∙ counted) in omega arith

  found_is : (s : State (Option T) View) (r : Rule s) → get_elem? s.views id ≡ some me.0 → (slot count seats : ℕ) → length me.0.life.start.words ≡ count → me.0.life.start.seats ≡ seats
      → slice_index s.words (place slot count seats) ≡ slice_index r.turns slot
  found_is s r at slot count seats counted same =
      ap (λ (l : List ℕ). slice_index l (place slot count seats)) r.words
      ∙ (ap (λ k. slice_index (laid (four r.numbers) r.pins r.image r.turns) k) (place_is s r at slot count seats counted same) ∙ get_turn (four r.numbers) r.pins r.image r.turns slot)

  laid_is : (s : State (Option T) View) (r : Rule s) → get_elem? s.views id ≡ some me.0 → (slot count seats x : ℕ) → length me.0.life.start.words ≡ count → me.0.life.start.seats ≡ seats
      → set s.words (place slot count seats) x ≡ laid (four r.numbers) r.pins r.image (set r.turns slot x)
  laid_is s r at slot count seats x counted same =
      ap (λ (l : List ℕ). set l (place slot count seats) x) r.words
      ∙ (ap (λ k. set (laid (four r.numbers) r.pins r.image r.turns) k x) (place_is s r at slot count seats counted same) ∙ set_turn (four r.numbers) r.pins r.image r.turns slot x)

  -- the turn is free: it is taken, with the value
  taken : (s : State (Option T) View) (r : Rule s) → get_elem? s.views id ≡ some me.0 → (slot count seats : ℕ) → length me.0.life.start.words ≡ count → me.0.life.start.seats ≡ seats
      → get_elem? r.turns slot ≡ some 0 → (x : T) (listed : Option Listed) → r.home slot ≡ standing_of listed
      → Rule (stepped s (place slot count seats) (me.0.worker + 1) id me.1 (view_after_take me.0 slot listed) (takes slot (Some x)))
  taken s r at slot count seats counted same free x listed home =
      let turns = set r.turns slot (me.0.worker + 1) in
      let w : View = view_after_take me.0 slot listed in record {
        made = r.made;
        numbers = r.numbers;
        owners = r.owners;
        log = r.log;
        pins = r.pins;
        image = r.image;
        settled = r.settled;
        turns = turns;
        home = r.home;
        words = laid_is s r at slot count seats (me.0.worker + 1) counted same;
        sizes = record {
          pins_are = r.sizes.pins_are;
          image_is = r.sizes.image_is;
          turns_are = length-set r.turns slot (me.0.worker + 1) ∙ r.sizes.turns_are;
          homes_are = length-set s.homes slot none ∙ r.sizes.homes_are;
        };
        opened = r.opened;
        turn_part = take_keeps most r.made r.numbers r.owners r.log s.views r.turn_part id me.0 at here slot listed;
        image_part = take_keeps_image bucket_of (good_at good start) start.words most r.made r.numbers r.owners r.log r.image r.settled s.views r.turn_part r.image_part id me.0 at here slot listed;
        own_part = take_keeps_own bucket_of (good_at good start) (lists_at lists start) (listing start.policies start.states) most start.words (beginning bucket_of good lists machine standing listing start) (shift bucket_of good lists machine standing listing start s r id me.0 at here) slot listed free home;
        held_part = take_keeps_held r.turns s.views id me.0 (record { there = at; here = here }) r.held_part slot listed;
        legal = r.legal;
        life_part = quiet_keeps_life most (age bucket_of good lists machine standing listing start s r id me.0 at here) w (record { here = here; worker = refl; life = refl });
        values = record {
          there = λ k is_free. ⊎_elim
              (λ (p : (k ≡ slot) × (me.0.worker + 1 ≡ 0)). let z = p.1 in absurd (omega arith))
              (λ (p : (k ≢ slot) × (get_elem? r.turns k ≡ some 0)). let h = r.values.there k p.1 in (h.0, set_else s.homes slot k none p.0 ∙ h.1, h.2))
              (at_set r.turns slot k (me.0.worker + 1) 0 is_free);
        };
      }

  -- it isn't free
  missed : (s : State (Option T) View) (r : Rule s) → get_elem? s.views id ≡ some me.0 → (k : ℕ) → Rule (stepped s k (slice_index s.words k) id me.1 (view_after_miss me.0) keeps)
  missed s r at k =
      quiet_ruled bucket_of good lists machine standing listing start s r id me.0 at here (set s.words k (slice_index s.words k)) (view_after_miss me.0) r.numbers r.owners r.image (set_same s.words k ∙ r.words) refl here refl refl refl refl
      (miss_keeps most r.made r.numbers r.owners r.log s.views r.turn_part id me.0 at here)
      (miss_keeps_image bucket_of (good_at good start) start.words most r.made r.numbers r.owners r.log r.image r.settled s.views r.turn_part r.image_part id me.0 at here)

  pub take_allowed : (slot count seats : ℕ) → length me.0.life.start.words ≡ count → me.0.life.start.seats ≡ seats → slot < slots_of me.0.life.start → (worker : ℕ) → me.0.worker ≡ worker → MayTake me.0 slot
      → Allows Rule slots id me (place slot count seats) (λ n. either (n == 0) (worker + 1) n) (takes_turn good lists standing (step slots (place slot count seats) 0 (worker + 1) none) me)
  take_allowed slot count seats counted same low worker named may s r wide at fits =
      let back_is : slot ≡ place slot count seats - plays.back me.0 = omega arith in
      let known_is = known bucket_of good lists machine standing listing start s r id me.0 at here in
      dite (ℕ_discrete (slice_index s.words (place slot count seats)) 0)
      (λ hit.
      let size : slots_of me.0.life.start ≡ slots_of start = ap slots_of known_is in
      let inside : slot < length r.turns = (let e = r.sizes.turns_are in omega arith) in
      let free : get_elem? r.turns slot ≡ some 0 = at_index r.turns slot 0 inside (sym hit ∙ found_is s r at slot count seats counted same) in
      let h = r.values.there slot free in
      let listed : Option Listed = listed_at (lists_at lists start) (last bucket_of good lists machine standing listing start s r id me.0 at here) r.settled slot in
      let home : r.home slot ≡ standing_of listed = r.own_part.free slot free in
      let w : View = view_after_take me.0 slot listed in
      let rule : Rule (stepped s (place slot count seats) (me.0.worker + 1) id me.1 w (takes slot (Some h.0))) = taken s r at slot count seats counted same free h.0 listed home in
      let stands : (me.0.hand.has_turn ≡ true → me.0.hand.writing ≡ false → StandsWith good lists me.0.life.start me.0.image.words w.own.turns) =
      stands_with bucket_of good lists machine standing listing start (stepped s (place slot count seats) (me.0.worker + 1) id me.1 w (takes slot (Some h.0))) rule id w (set_here s.views id w (at_below s.views id me.0 at)) here in (
        w,
        takes slot (Some h.0),
        h.1,
        subst (λ (b : Bool). Rule (stepped s (place slot count seats) (either b (worker + 1) (slice_index s.words (place slot count seats))) id me.1 w (takes slot (Some h.0)))) (sym (eq-eqb (slice_index s.words (place slot count seats)) 0 hit))
            (subst (λ k. Rule (stepped s (place slot count seats) (k + 1) id me.1 w (takes slot (Some h.0)))) named rule),
        (
          (λ _. subst (λ k. Took good lists standing k me (w, (slot, Some h.0) ∷ me.1)) back_is (h.0, listed, h.2 ∙ home, refl, stands)),
          λ not. absurd (not hit),
        ),
      ))
      (λ miss. (
        view_after_miss me.0,
        keeps,
        tt,
        subst (λ (b : Bool). Rule (stepped s (place slot count seats) (either b (worker + 1) (slice_index s.words (place slot count seats))) id me.1 (view_after_miss me.0) keeps)) (sym (ne_eqb (slice_index s.words (place slot count seats)) 0 miss))
            (missed s r at (place slot count seats)),
        ((λ hit. absurd (miss hit)), λ _. refl),
      ))

  -- what values stand for once this one is at home
  abbrev home_with : ℕ → Standing → (ℕ → Standing) → ℕ → Standing
  home_with slot stand home k = if k == slot then stand else home k

  home_here : (slot : ℕ) (stand : Standing) (home : ℕ → Standing) → home_with slot stand home slot ≡ stand
  home_here slot stand home = ap (λ (b : Bool). cond b stand (home slot)) (eq-eqb slot slot refl)

  home_else : (slot : ℕ) (stand : Standing) (home : ℕ → Standing) (k : ℕ) → (k ≡ slot → ⊥) → home_with slot stand home k ≡ home k
  home_else slot stand home k apart = ap (λ (b : Bool). cond b stand (home k)) (ne_eqb k slot apart)

  give_at : (count seats : ℕ) → length me.0.life.start.words ≡ count → me.0.life.start.seats ≡ seats → (e : SlotTurn) → e.slot < slots → Has me.0.own.turns e → (x : T) (xs : List (ℕ × Option T)) → me.1 ≡ (e.slot, Some x) ∷ xs
      → standing x ≡ standing_of e.listed
      → Allows Rule slots id me (place e.slot count seats) (λ _. 0) (λ _. plays.gives (step slots (place e.slot count seats) 0 0 none) me 0)
  give_at count seats counted same e low has x xs carried stands s r wide at fits =
      let slot = e.slot in
      let back_is : slot ≡ place slot count seats - plays.back me.0 = omega arith in
      let w : View = view_after_give me.0 slot in
      let home = home_with slot (standing x) r.home in
      let in_homes : slot < length s.homes = subst (λ z. slot < z) (sym wide) low in
      let homes_is : put_back s.homes me.1 ≡ set s.homes slot (some (Some x)) = ap (put_back s.homes) carried in
      let shifted : Shift bucket_of (good_at good start) (lists_at lists start) most start.words (beginning bucket_of good lists machine standing listing start) = record {
        scene = (shift bucket_of good lists machine standing listing start s r id me.0 at here).scene;
        turns = r.turns;
        home = home;
        opens = r.opened.stands;
        legal = r.legal;
        own = value_keeps_own bucket_of (good_at good start) (lists_at lists start) (listing start.policies start.states) most start.words (beginning bucket_of good lists machine standing listing start) (shift bucket_of good lists machine standing listing start s r id me.0 at here) home (λ k unheld. home_else slot (standing x) r.home k (λ z. unheld (e, has, sym z)));
      } in (
        w,
        gives,
        tt,
        record {
          made = r.made;
          numbers = r.numbers;
          owners = r.owners;
          log = r.log;
          pins = r.pins;
          image = r.image;
          settled = r.settled;
          turns = set r.turns slot 0;
          home = home;
          words = laid_is s r at slot count seats 0 counted same;
          sizes = record {
            pins_are = r.sizes.pins_are;
            image_is = r.sizes.image_is;
            turns_are = length-set r.turns slot 0 ∙ r.sizes.turns_are;
            homes_are = ap length homes_is ∙ (length-set s.homes slot (some (Some x)) ∙ r.sizes.homes_are);
          };
          opened = r.opened;
          turn_part = give_keeps most r.made r.numbers r.owners r.log s.views r.turn_part id me.0 at here slot;
          image_part = give_keeps_image bucket_of (good_at good start) start.words most r.made r.numbers r.owners r.log r.image r.settled s.views r.turn_part r.image_part id me.0 at here slot;
          own_part = give_keeps_own bucket_of (good_at good start) (lists_at lists start) (listing start.policies start.states) most start.words (beginning bucket_of good lists machine standing listing start) shifted e has (home_here slot (standing x) r.home ∙ stands);
          held_part = give_keeps_held r.turns s.views id me.0 (record { there = at; here = here }) r.held_part slot;
          legal = r.legal;
          life_part = quiet_keeps_life most (age bucket_of good lists machine standing listing start s r id me.0 at here) w (record { here = here; worker = refl; life = refl });
          values = record {
            there = λ k is_free. ⊎_elim
                (λ (p : (k ≡ slot) × (0 ≡ 0)). (
                  x,
                  ap (λ hs. get_elem? hs k) homes_is ∙ subst (λ z. get_elem? (set s.homes slot (some (Some x))) z ≡ some (some (Some x))) (sym p.0) (set_here s.homes slot (some (Some x)) in_homes),
                  sym (ap home p.0 ∙ home_here slot (standing x) r.home),
                ))
                (λ (p : (k ≢ slot) × (get_elem? r.turns k ≡ some 0)).
                let h = r.values.there k p.1 in (
                  h.0,
                  ap (λ hs. get_elem? hs k) homes_is ∙ (set_else s.homes slot k (some (Some x)) p.0 ∙ h.1),
                  h.2 ∙ sym (home_else slot (standing x) r.home k p.0),
                ))
                (at_set r.turns slot k 0 0 is_free);
          };
        },
        ap (λ k. (view_after_give me.0 k, rest me.1)) back_is,
      )

  pub give_allowed : (slot count seats : ℕ) → length me.0.life.start.words ≡ count → me.0.life.start.seats ≡ seats → slot < slots → MayGive standing me.0 me.1 slot
      → Allows Rule slots id me (place slot count seats) (λ _. 0) (λ _. plays.gives (step slots (place slot count seats) 0 0 none) me 0)
  give_allowed slot count seats counted same low may =
      subst (λ k. k < slots → me.1 ≡ (k, Some may.value) ∷ may.others → Allows Rule slots id me (place k count seats) (λ _. 0) (λ _. plays.gives (step slots (place k count seats) 0 0 none) me 0)) may.slot_is
      (λ inside carried. give_at count seats counted same may.turn inside may.held may.value may.others carried may.stands)
      low may.first
