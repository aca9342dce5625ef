-- A draw keeps the rule, of a move and of another receipt under the turn.
use Rattle.std.proofs.Common.{◌≡◌, ℕ, ◌+◌, ◌%◌, Bool, true, false, List, [], ◌∷◌, ◌++◌, map, set, Some, Option, refl, sym, ap, ◌∙◌, subst, arith, ⊎_elim}
use Rattle.std.specs.Prelude.{if◌then◌else◌, slice_index}
use mathlib.Core.Option.{some, none}
use lib.ListN.{get_elem?}
use Rattle.atomic_table.specs.Table.{State, step, stepped, keeps, Allows}
use Rattle.xf_types.specs.declared.state.Sa.{Sa}
use Rattle.xf_types.specs.Machine.{Machine}
use Rattle.xf_types.specs.Standing.{Standing}
use Rattle.xf_views.specs.declared.view.View.{View}
use Rattle.xf_views.specs.declared.view.Start.{Start}
use Rattle.xf_types.specs.declared.call.Receipt.{Receipt}
use Rattle.xf_types.specs.declared.call.Reply.TheVariants as reply
use Rattle.xf_types.specs.Machine.{Shown}
use Rattle.xf_types.specs.IsMachine.{IsShownPart}
use Rattle.xf_types.specs.Moves.{after_moves}
use Rattle.xf_late.specs.Rests.{rests_on}
use Rattle.xf_views.specs.declared.entry.Entry.{Entry}
use Rattle.xf_views.specs.Log.{mark, receipt, moves}
use Rattle.xf_views.specs.Views.{view_after_draw}
use Rattle.xf_views.proofs.Draws.{move_keeps, still_keeps}
use Rattle.xf_invariant.specs.Meaning.{Told, told, told_after, told_after_moves, Opens}
use Rattle.xf_invariant.proofs.ImageDraws.{move_keeps_image, still_keeps_image}
use Rattle.xf_ownpart.specs.Lists.{IsListing}
use Rattle.xf_ownpart.specs.Turns.{touched_turn, moved_turn, KeepsSlots}
use Rattle.xf_ownpart.proofs.Moments.{shown-after}
use Rattle.xf_ownpart.proofs.OwnDraws.{still_keeps_own}
use Rattle.xf_ownpart.proofs.OwnMoves.{move_keeps_own}
use Rattle.xf_legalpart.specs.Honest.{MoveIsHonest, StillIsHonest}
use Rattle.xf_legalpart.specs.HonestLaws.{MayStand}
use Rattle.xf_legalpart.proofs.Honesty.{move_is_legal, still_is_legal, want_is_legal}
use Rattle.xf_legalpart.proofs.Legal.{stands_keeps_legal}
use Rattle.xf_seats.proofs.Life.{draw_keeps_life}
use Rattle.xf_seats.proofs.Holders.{others_keep_held, touched_holds, moved_holds}
use Rattle.xf_table.specs.Rule.{Ruled, most, good_at, lists_at}
use Rattle.xf_table.specs.Rows.{MayMove, MayStay, IsHonestMove, IsHonestStay}
use Rattle.xf_table.specs.Plays.{Now, RestsBy, IsPlaced, moves_with, stays_with}
use Rattle.xf_table.proofs.Placing.{placed, told_shown}
use Rattle.xf_table.proofs.Scenes.{up, small, known, shift, beginning, age, last, last_is, now, now_shown, settled_stands, settled_is}

module _ {T : Type 0} (bucket_of : Sa → ℕ) (good : ℕ → ℕ → List ℕ → Told → Type 0) (lists : ℕ → ℕ → List ℕ → ℕ → Option (Sa × ℕ)) (machine : ℕ → ℕ → List ℕ → List Standing → Machine) (standing : T → Standing)
    (listing : (p s : ℕ) → IsListing (good p s) (lists p s)) (start : Start) (slots id : ℕ) (me : Now T) (here : me.0.here ≡ true) where
  abbrev Rule : State (Option T) View → Type 0
  Rule = Ruled bucket_of good lists machine standing start

  -- what is told after the moves is a shown part, whatever was told at the start
  shown_part : ((p s : ℕ) (image : List ℕ) (t u : Told) → IsShownPart t.shown → IsShownPart u.shown → good p s image t → good p s image u → t.shown ≡ u.shown)
      → (s : State (Option T) View) (r : Rule s) → get_elem? s.views id ≡ some me.0 → (t : Told) → Opens (good_at good start) start.words t → IsShownPart (told_after_moves bucket_of t (moves r.log)).shown
  shown_part certain s r at t o =
      let first = beginning bucket_of good lists machine standing listing start in
      let same : t.shown ≡ first.shown = certain start.policies start.states start.words t (told first.shown r.opened.stands.ids) (subst IsShownPart (sym o.2) o.1.shown) r.opened.stands.machine.shown o.3 r.opened.stands.stands in
      subst IsShownPart
      (sym (told_shown bucket_of t (moves r.log) ∙ (ap (λ (x : Shown). after_moves x (moves r.log)) same ∙ shown-after bucket_of (good_at good start) (lists_at lists start) start.words first r.opened.stands r.log r.legal.replies)))
      (last_is bucket_of good lists machine standing listing start s r id me.0 at here).shown

  -- what the image shows says on whose own part it rests
  rests_by : (s : State (Option T) View) (r : Rule s) → (at : get_elem? s.views id ≡ some me.0) → (image : List ℕ) → r.settled ≡ image → (q : Receipt)
      → RestsBy good lists me.0.life.start image q (rests_on (last bucket_of good lists machine standing listing start s r id me.0 at here).shown q)
  rests_by s r at image same q =
      subst (λ (x : Start). RestsBy good lists x image q (rests_on (last bucket_of good lists machine standing listing start s r id me.0 at here).shown q)) (sym (known bucket_of good lists machine standing listing start s r id me.0 at here)) record {
        told = now bucket_of good lists machine standing listing start s r id me.0 at here;
        is = subst IsShownPart (sym (now_shown bucket_of good lists machine standing listing start s r id me.0 at here)) (last_is bucket_of good lists machine standing listing start s r id me.0 at here).shown;
        stands = subst (λ (l : List ℕ). good_at good start l (now bucket_of good lists machine standing listing start s r id me.0 at here)) same (settled_stands bucket_of good lists machine standing listing start s r id me.0 at here);
        rests = ap (λ (x : Shown). rests_on x q) (sym (now_shown bucket_of good lists machine standing listing start s r id me.0 at here));
      }

  pub move_allowed : ((p s : ℕ) (image : List ℕ) (t u : Told) → IsShownPart t.shown → IsShownPart u.shown → good p s image t → good p s image u → t.shown ≡ u.shown)
      → (e : Entry) (o : Option Entry) → o ≡ Some e → MayMove me.0 e → IsHonestMove bucket_of good lists me.0 e
      → Allows Rule slots id me 3 (λ n. (n + 1) % 18446744073709551616) (moves_with good lists o (step slots 3 1 0 none) me)
  move_allowed certain e o said may honest s r wide at fits =
      let found : slice_index s.words 3 ≡ r.numbers.draw = ap (λ (l : List ℕ). slice_index l 3) r.words in
      let low = small bucket_of good lists machine standing listing start s r id me.0 at here in
      let few = low.draws in
      let rise = up r.numbers.draw (omega arith) in
      let all = moves r.log in
      let k = me.0.worker in
      let q : Receipt = receipt r.numbers.draw k e in
      let one : Option ℕ = rests_on (last bucket_of good lists machine standing listing start s r id me.0 at here).shown q in
      let w = λ (z : Start) (x : ℕ). view_after_draw me.0 true (all ++ receipt x k e ∷ []) (receipt x k e) (map (moved_turn (lists_at lists z) me.0.image.words one e.call) me.0.own.turns) in
      let turns = map (moved_turn (lists_at lists start) me.0.image.words one e.call) me.0.own.turns in
      let f = r.image_part.each id me.0 at here in
      let kept : r.settled ≡ me.0.image.kept = f.settled may.opened.opens ∙ ap (λ (c : Bool). if c then r.image else me.0.image.kept) may.opened.yet in
      let same = known bucket_of good lists machine standing listing start s r id me.0 at here in
      let answers : MoveIsHonest (good_at good start) (lists_at lists start) me.0 q = subst (λ (z : Start). MoveIsHonest (good_at good z) (lists_at lists z) me.0 q) same (honest.answers r.numbers.draw k) in
      let slots_kept : KeepsSlots (lists_at lists start) me.0.own.turns me.0.image.kept me.0.image.words = subst (λ (z : Start). KeepsSlots (lists_at lists z) me.0.own.turns me.0.image.kept me.0.image.words) same honest.slots in
      let leads : (t : Told) → Opens (good_at good start) start.words t → good_at good start me.0.image.kept (told_after_moves bucket_of t all) → good_at good start me.0.image.words (told_after bucket_of (told_after_moves bucket_of t all) q) =
      λ t opens stands. subst (λ (z : Start). good_at good z me.0.image.words (told_after bucket_of (told_after_moves bucket_of t all) q)) same
      (honest.leads r.numbers.draw k (told_after_moves bucket_of t all) (shown_part certain s r at t opens) (subst (λ (z : Start). good_at good z me.0.image.kept (told_after_moves bucket_of t all)) (sym same) stands)) in
      let stand : MayStand (beginning bucket_of good lists machine standing listing start) r.log me.0.own.turns q one = move_is_legal bucket_of (good_at good start) (lists_at lists start) (listing start.policies start.states) most start.words (beginning bucket_of good lists machine standing listing start) (shift bucket_of good lists machine standing listing start s r id me.0 at here) q may.opened.opens may.opened.yet answers in
      let drawn : Rule (stepped s 3 ((r.numbers.draw + 1) % 18446744073709551616) id me.1 (w start r.numbers.draw) keeps) = record {
        made = r.made;
        numbers = record r.numbers { draw = r.numbers.draw + 1 };
        owners = r.owners;
        log = r.log ++ mark k one (Some q) ∷ [];
        pins = r.pins;
        image = r.image;
        settled = r.image;
        turns = r.turns;
        home = r.home;
        words = ap (λ (l : List ℕ). set l 3 ((r.numbers.draw + 1) % 18446744073709551616)) r.words ∙ ap (λ x. r.numbers.ticket ∷ r.numbers.serving ∷ r.numbers.generation ∷ x ∷ (r.pins ++ (r.image ++ r.turns))) rise;
        sizes = r.sizes;
        opened = r.opened;
        turn_part = move_keeps most r.made r.numbers r.owners r.log s.views r.turn_part id me.0 at here one e turns may.opened.turn may.opened.opens may.opened.yet may.trialless may.room may.moves;
        image_part = move_keeps_image bucket_of (good_at good start) start.words most r.made r.numbers r.owners r.log r.image r.settled s.views r.turn_part r.image_part id me.0 at here one e turns may.opened.turn may.opened.opens may.opened.yet may.trialless may.moves leads;
        own_part = move_keeps_own bucket_of (good_at good start) (lists_at lists start) (listing start.policies start.states) most start.words (beginning bucket_of good lists machine standing listing start) (shift bucket_of good lists machine standing listing start s r id me.0 at here) e may.opened.turn may.opened.opens may.opened.yet may.trialless may.moves stand.may leads slots_kept stand.covered;
        held_part = others_keep_held r.turns s.views id me.0 (record { there = at; here = here }) r.held_part (w start r.numbers.draw) (moved_holds (lists_at lists start) me.0.image.words me.0 (w start r.numbers.draw) one e.call here refl refl);
        legal = stands_keeps_legal bucket_of (good_at good start) (lists_at lists start) most start.words (beginning bucket_of good lists machine standing listing start) (shift bucket_of good lists machine standing listing start s r id me.0 at here) one e stand.may;
        life_part = draw_keeps_life most (age bucket_of good lists machine standing listing start s r id me.0 at here) one (Some q) (w start r.numbers.draw) (record { here = here; worker = refl; life = refl });
        values = record { there = r.values.there };
      } in (
        w me.0.life.start (slice_index s.words 3),
        keeps,
        tt,
        subst (λ x. Rule (stepped s 3 ((x + 1) % 18446744073709551616) id me.1 (w me.0.life.start x) keeps)) (sym found)
            (subst (λ (z : Start). Rule (stepped s 3 ((r.numbers.draw + 1) % 18446744073709551616) id me.1 (w z r.numbers.draw) keeps)) (sym same) drawn),
        subst (λ (a : Option Entry). moves_with good lists a (step slots 3 1 0 none) me (slice_index s.words 3) (w me.0.life.start (slice_index s.words 3), me.1)) (sym said) (
          all,
          one,
          subst (λ x. IsPlaced x me.0 all) (sym found) (placed r.made r.numbers r.owners r.log s.views r.turn_part id me.0 at here),
          (rests_by s r at me.0.image.kept kept (receipt (slice_index s.words 3) k e), refl),
        ),
      )

  pub stay_allowed : (e : Entry) (o : Option Entry) → o ≡ Some e → MayStay me.0 e → IsHonestStay bucket_of good lists me.0 e
      → Allows Rule slots id me 3 (λ n. (n + 1) % 18446744073709551616) (stays_with good lists o (step slots 3 1 0 none) me)
  stay_allowed e o said may honest s r wide at fits =
      let found : slice_index s.words 3 ≡ r.numbers.draw = ap (λ (l : List ℕ). slice_index l 3) r.words in
      let low = small bucket_of good lists machine standing listing start s r id me.0 at here in
      let few = low.draws in
      let rise = up r.numbers.draw (omega arith) in
      let all = moves r.log in
      let k = me.0.worker in
      let q : Receipt = receipt r.numbers.draw k e in
      let one : Option ℕ = rests_on (last bucket_of good lists machine standing listing start s r id me.0 at here).shown q in
      let turns = map (touched_turn one e.call) me.0.own.turns in
      let w = λ (x : ℕ). view_after_draw me.0 false all (receipt x k e) turns in
      let same = known bucket_of good lists machine standing listing start s r id me.0 at here in
      let stand : MayStand (beginning bucket_of good lists machine standing listing start) r.log me.0.own.turns q one = ⊎_elim
      (λ (wants : e.reply ≡ reply.NoMemory). want_is_legal (beginning bucket_of good lists machine standing listing start) r.log me.0.own.turns (last bucket_of good lists machine standing listing start s r id me.0 at here) q wants)
      (λ (answers : (n k : ℕ) → StillIsHonest (good_at good me.0.life.start) (lists_at lists me.0.life.start) me.0 (receipt n k e)).
      still_is_legal bucket_of (good_at good start) (lists_at lists start) (listing start.policies start.states) most start.words (beginning bucket_of good lists machine standing listing start) (shift bucket_of good lists machine standing listing start s r id me.0 at here) q may.closed.turn may.closed.shut (subst (λ (z : Start). StillIsHonest (good_at good z) (lists_at lists z) me.0 q) same (answers r.numbers.draw k)))
      honest in
      let drawn : Rule (stepped s 3 ((r.numbers.draw + 1) % 18446744073709551616) id me.1 (w r.numbers.draw) keeps) = record {
        made = r.made;
        numbers = record r.numbers { draw = r.numbers.draw + 1 };
        owners = r.owners;
        log = r.log ++ mark k one (Some q) ∷ [];
        pins = r.pins;
        image = r.image;
        settled = r.settled;
        turns = r.turns;
        home = r.home;
        words = ap (λ (l : List ℕ). set l 3 ((r.numbers.draw + 1) % 18446744073709551616)) r.words ∙ ap (λ x. r.numbers.ticket ∷ r.numbers.serving ∷ r.numbers.generation ∷ x ∷ (r.pins ++ (r.image ++ r.turns))) rise;
        sizes = r.sizes;
        opened = r.opened;
        turn_part = still_keeps most r.made r.numbers r.owners r.log s.views r.turn_part id me.0 at here one e turns may.closed.shut may.trialless may.room may.stays;
        image_part = still_keeps_image bucket_of (good_at good start) start.words most r.made r.numbers r.owners r.log r.image r.settled s.views r.turn_part r.image_part id me.0 at here one e turns may.closed.shut may.trialless may.stays;
        own_part = still_keeps_own bucket_of (good_at good start) (lists_at lists start) (listing start.policies start.states) most start.words (beginning bucket_of good lists machine standing listing start) (shift bucket_of good lists machine standing listing start s r id me.0 at here) e may.trialless may.stays stand.may stand.covered;
        held_part = others_keep_held r.turns s.views id me.0 (record { there = at; here = here }) r.held_part (w r.numbers.draw) (touched_holds me.0 (w r.numbers.draw) one e.call here refl refl);
        legal = stands_keeps_legal bucket_of (good_at good start) (lists_at lists start) most start.words (beginning bucket_of good lists machine standing listing start) (shift bucket_of good lists machine standing listing start s r id me.0 at here) one e stand.may;
        life_part = draw_keeps_life most (age bucket_of good lists machine standing listing start s r id me.0 at here) one (Some q) (w r.numbers.draw) (record { here = here; worker = refl; life = refl });
        values = record { there = r.values.there };
      } in (
        w (slice_index s.words 3),
        keeps,
        tt,
        subst (λ x. Rule (stepped s 3 ((x + 1) % 18446744073709551616) id me.1 (w x) keeps)) (sym found) drawn,
        subst (λ (a : Option Entry). stays_with good lists a (step slots 3 1 0 none) me (slice_index s.words 3) (w (slice_index s.words 3), me.1)) (sym said) (
          all,
          one,
          subst (λ x. IsPlaced x me.0 all) (sym found) (placed r.made r.numbers r.owners r.log s.views r.turn_part id me.0 at here),
          (rests_by s r at me.0.image.words (settled_is bucket_of good lists machine standing listing start s r id me.0 at here may.closed.turn may.closed.shut) (receipt (slice_index s.words 3) k e), refl),
        ),
      )
