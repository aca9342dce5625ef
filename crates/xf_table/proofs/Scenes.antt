-- At a state under the rule: the moment from which the laws of the parts start, and the rule after a step that leaves most of it.
use Rattle.std.proofs.Common.{◌≡◌, ℕ, ◌+◌, true, false, List, length, set, get_or, zero, suc, [], ◌∷◌, Option, None, Some, refl, sym, ap, ◌∙◌, subst, ◌<◌, ◌≤◌, ◌%◌, ◌^◌, arith}
use mathlib.Core.Option.{some}
use lib.ListN.{get_elem?}
use Rattle.atomic_table.specs.Table.{State}
use Rattle.xf_types.specs.declared.state.Sa.{Sa}
use Rattle.xf_types.specs.declared.call.Receipt.{Receipt}
use Rattle.xf_types.specs.Machine.{Machine, Shown}
use Rattle.xf_types.specs.IsMachine.{IsMachine}
use Rattle.xf_types.specs.Standing.{Standing}
use Rattle.xf_views.specs.declared.view.View.{View}
use Rattle.xf_views.specs.declared.view.OwnView.{OwnView}
use Rattle.xf_views.specs.declared.view.Start.{Start}
use Rattle.xf_views.specs.Log.{Numbers, Mark, moves, receipts_of, with_receipt}
use Rattle.xf_views.specs.TurnPart.{TurnPart}
use Rattle.xf_views.proofs.Seats.{even_now}
use Rattle.xf_invariant.specs.Meaning.{Told, told, told_after_moves}
use Rattle.xf_invariant.specs.PinPart.{Has}
use Rattle.xf_invariant.specs.ImagePart.{ImagePart}
use Rattle.xf_invariant.specs.ImageLaws.{Scene}
use Rattle.xf_ownpart.specs.Lists.{IsListing}
use Rattle.xf_ownpart.specs.OwnPart.{FitsOwn, IsInOwn, listed_at}
use Rattle.xf_ownpart.specs.OwnLaws.{Shift, last_of}
use Rattle.xf_ownpart.specs.Turns.{IsHeld}
use Rattle.xf_ownpart.proofs.OwnSeats.{mine, quiet}
use Rattle.xf_ownpart.proofs.Moments.{opened, last-is, told-after}
use Rattle.xf_seats.specs.Opened.{start_machine}
use Rattle.xf_seats.specs.LifeLaws.{Age}
use Rattle.xf_seats.specs.Small.{IsSmall}
use Rattle.xf_seats.proofs.Few.{numbers_are_small}
use Rattle.xf_seats.proofs.Life.{quiet_keeps_life}
use Rattle.xf_seats.proofs.Holders.{others_keep_held}
use Rattle.xf_table.specs.Rule.{Ruled, most, laid, four, good_at, lists_at}
use Rattle.xf_table.specs.Growth.{IsWithin, HasGrown}
use Rattle.xf_table.specs.Plays.{StandsWith, Enters}
use Rattle.xf_table.proofs.Growing.{IsLittle, AreIdsWithin, history_little, ids_after_all, ids_raised, few_moves}

pub set_same : (l : List ℕ) (p : ℕ) → set l p (get_or l p 0) ≡ l
set_same [] p = refl
set_same (x ∷ xs) zero = refl
set_same (x ∷ xs) (suc p) = ap (λ l. x ∷ l) (set_same xs p)

few_with : (o : Option Receipt) (n : ℕ) (rs : List Receipt) → length rs ≤ n → length (with_receipt o rs) ≤ suc n
few_with None n rs few = omega (arith, few)
few_with (Some r) n rs few = omega (arith, few)

few_receipts : (log : List Mark) → length (receipts_of log) ≤ length log
few_receipts [] = omega arith
few_receipts (m ∷ ms) = few_with m.receipt (length ms) (receipts_of ms) (few_receipts ms)

-- a number that is small doesn't wrap
pub up : (x : ℕ) → x < 2 ^ 63 → (x + 1) % 18446744073709551616 ≡ x + 1
up x h = omega arith

module _ {T : Type 0} (bucket_of : Sa → ℕ) (good : ℕ → ℕ → List ℕ → Told → Type 0) (lists : ℕ → ℕ → List ℕ → ℕ → Option (Sa × ℕ)) (machine : ℕ → ℕ → List ℕ → List Standing → Machine) (standing : T → Standing)
    (listing : (p s : ℕ) → IsListing (good p s) (lists p s)) (start : Start) where
  abbrev pub Rule : State (Option T) View → Type 0
  Rule = Ruled bucket_of good lists machine standing start

  abbrev pub beginning : Machine
  beginning = start_machine machine start

  module _ (s : State (Option T) View) (r : Rule s) (id : ℕ) (v : View) (at : get_elem? s.views id ≡ some v) (here : v.here ≡ true) where
    abbrev pub scene : Scene bucket_of (good_at good start) most start.words
    scene = record {
      made = r.made;
      numbers = r.numbers;
      owners = r.owners;
      log = r.log;
      words = r.image;
      settled = r.settled;
      views = s.views;
      seat = id;
      view = v;
      turn = r.turn_part;
      image = r.image_part;
      there = at;
      here = here;
    }

    abbrev pub shift : Shift bucket_of (good_at good start) (lists_at lists start) most start.words beginning
    shift = record { scene = scene; turns = r.turns; home = r.home; opens = r.opened.stands; legal = r.legal; own = r.own_part }

    abbrev pub age : Age most
    age = record {
      moment = record { made = r.made; numbers = r.numbers; owners = r.owners; log = r.log; views = s.views; seat = id; view = v; holds = r.turn_part; there = at; here = here };
      start = start;
      life = r.life_part;
    }

    abbrev pub last : Machine
    last = last_of bucket_of (good_at good start) (lists_at lists start) most start.words beginning shift

    -- the seat knows the start
    pub known : v.life.start ≡ start
    known = (r.life_part.each id v at here).start_is

    pub small : IsSmall most r.numbers r.log
    small = numbers_are_small most r.made r.numbers r.owners r.log s.views r.turn_part

    -- what is told after all moves
    abbrev pub now : Told
    now = told_after_moves bucket_of (told beginning.shown r.opened.stands.ids) (moves r.log)

    pub now_shown : now.shown ≡ last.shown
    now_shown = told-after bucket_of (good_at good start) (lists_at lists start) start.words beginning r.opened.stands r.log r.legal.replies

    pub last_is : IsMachine last
    last_is = last-is bucket_of (good_at good start) (lists_at lists start) (listing start.policies start.states) most start.words beginning shift

    -- fewer receipts stand than may be drawn
    few_stand : length (receipts_of r.log) ≤ 2 ^ 45
    few_stand = let drawn = r.turn_part.draws in let low = small.draws in let few = few_receipts r.log in omega (arith, drawn, low, few)

    -- the numbers of what is told have grown by no more
    pub now_grown : HasGrown (good_at good start) start.words now
    now_grown = record {
      first = told beginning.shown r.opened.stands.ids;
      opens = opened bucket_of (good_at good start) (lists_at lists start) start.words beginning r.opened.stands;
      within = λ most w.
          let few : length (moves r.log) ≤ length (receipts_of r.log) = few_moves (receipts_of r.log) in
          let ids : AreIdsWithin (most + 2 ^ 45) now.ids =
          ids_raised (most + length (moves r.log)) (most + 2 ^ 45) now.ids (omega (arith, few, few_stand))
          (ids_after_all bucket_of most (told beginning.shown r.opened.stands.ids) (moves r.log) (record { of_policies = w.of_policies; of_buckets = w.of_buckets })) in
          let little : IsLittle (length (receipts_of r.log)) beginning.shown now.shown = subst (λ (x : Shown). IsLittle (length (receipts_of r.log)) beginning.shown x) (sym now_shown) (history_little beginning (receipts_of r.log)) in
          record {
            numbers = let a = little.numbers in let b = w.numbers in omega (arith, a, b, few_stand);
            sids = let a = little.sids in let b = w.sids in omega (arith, a, b, few_stand);
            of_policies = ids.of_policies;
            of_buckets = ids.of_buckets;
          };
    }

    -- the settled image stands for it
    pub settled_stands : good_at good start r.settled now
    settled_stands = r.image_part.stands (told beginning.shown r.opened.stands.ids) (opened bucket_of (good_at good start) (lists_at lists start) start.words beginning r.opened.stands)

    pub mine_is : IsInOwn (lists_at lists start) last r.settled r.turns r.log v
    mine_is = mine bucket_of (good_at good start) (lists_at lists start) (listing start.policies start.states) most start.words beginning shift

    -- with the turn and no opening, the image that the seat knows is the settled one
    pub settled_is : v.hand.has_turn ≡ true → v.hand.writing ≡ false → r.settled ≡ v.image.words
    settled_is turn shut =
        r.image_part.calm (even_now most r.made r.numbers r.owners r.log s.views r.turn_part id v at here turn shut)
        ∙ sym ((r.image_part.each id v at here).image turn)

    -- the image stands for what is told, which has grown little
    abbrev StandsGrown : Start → List ℕ → Type 0
    StandsGrown x image = (st : StandsWith good lists x image v.own.turns) × HasGrown (good_at good x) x.words st.told

    settled_both : (image : List ℕ) → r.settled ≡ image → StandsGrown v.life.start image
    settled_both image same =
        subst (λ (x : Start). StandsGrown x image) (sym known) (
          record {
            machine = last;
            told = now;
            is = last_is;
            shown = now_shown;
            stands = subst (λ (l : List ℕ). good_at good start l now) same settled_stands;
            kept = λ e has. ap (λ (l : List ℕ). listed_at (lists_at lists start) last l e.slot) (sym same) ∙ (mine_is e has).keeps;
          },
          now_grown,
        )

    pub settled_with : (image : List ℕ) → r.settled ≡ image → StandsWith good lists v.life.start image v.own.turns
    settled_with image same = (settled_both image same).0

    -- what a seat knows that gets the turn
    pub entering : v.hand.has_turn ≡ true → v.hand.writing ≡ false → length v.image.words ≡ length v.life.start.words → Enters good lists v v.image.words
    entering turn shut size = let both = settled_both v.image.words (settled_is turn shut) in record { size = size; stands = both.0; grown = both.1 }

    pub stands_with : v.hand.has_turn ≡ true → v.hand.writing ≡ false → StandsWith good lists v.life.start v.image.words v.own.turns
    stands_with turn shut = settled_with v.image.words (settled_is turn shut)

    -- the rule after a step that leaves the log, the settled image, the slots' turns and their values
    pub quiet_ruled : (words : List ℕ) (w : View) (n : Numbers) (owners image : List ℕ) → words ≡ laid (four n) r.pins image r.turns → length image ≡ length r.image
        → w.here ≡ true → w.worker ≡ v.worker → w.life ≡ v.life → w.own ≡ v.own → w.hand.trial ≡ v.hand.trial
        → TurnPart most r.made n owners r.log (set s.views id w)
        → ImagePart bucket_of (good_at good start) start.words n.generation r.log image r.settled (set s.views id w)
        → Rule (record { words = words; homes = s.homes; views = set s.views id w })
    quiet_ruled words w n owners image laid_so size here_still worker life own trial turn_part image_part = record {
      made = r.made;
      numbers = n;
      owners = owners;
      log = r.log;
      pins = r.pins;
      image = image;
      settled = r.settled;
      turns = r.turns;
      home = r.home;
      words = laid_so;
      sizes = record { pins_are = r.sizes.pins_are; image_is = size ∙ r.sizes.image_is; turns_are = r.sizes.turns_are; homes_are = r.sizes.homes_are };
      opened = r.opened;
      turn_part = turn_part;
      image_part = image_part;
      own_part = quiet bucket_of (good_at good start) (lists_at lists start) (listing start.policies start.states) most start.words beginning shift w
          (λ e has. subst (λ (k : ℕ). FitsOwn (lists_at lists start) last r.settled r.turns r.log k w.hand.trial e) (sym worker)
          (subst (λ (o : Option ℕ). FitsOwn (lists_at lists start) last r.settled r.turns r.log v.worker o e) (sym trial)
          (mine_is e (subst (λ (o : OwnView). Has o.turns e) own has))));
      held_part = others_keep_held r.turns s.views id v (record { there = at; here = here }) r.held_part w (record { here = here_still; worker = worker; holds = λ slot held. subst (λ (o : OwnView). IsHeld o.turns slot) (sym own) held });
      legal = r.legal;
      life_part = quiet_keeps_life most age w (record { here = here_still; worker = worker; life = life });
      values = record { there = r.values.there };
    }
