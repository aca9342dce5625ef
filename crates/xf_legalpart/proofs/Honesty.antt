-- Honest receipts may stand.
use Rattle.std.proofs.Common.{◌≡◌, ℕ, true, false, List, take, drop, suc, Some, None, Option, refl, sym, ap, ◌∙◌, subst, find, Contains, eqb-true}
use Rattle.std.specs.Prelude.{if◌then◌else◌, Bool}
use Rattle.std.specs.Option.{option_map}
use Rattle.xf_types.specs.declared.call.Call.{Call}
use Rattle.xf_types.specs.declared.call.Receipt.{Receipt}
use Rattle.xf_types.specs.declared.call.Reply.TheVariants as reply
use Rattle.xf_types.specs.declared.state.Sa.{Sa}
use Rattle.xf_types.specs.Machine.{Machine, Shown}
use Rattle.xf_types.specs.StateList.{has_sid}
use Rattle.xf_types.specs.OwnParts.{own_in}
use Rattle.xf_types.specs.OneState.{on_found}
use Rattle.xf_types.specs.TrafficRules.{output_at}
use Rattle.xf_types.specs.Steps.{step, rule_of}
use Rattle.xf_types.specs.Moves.{state_found}
use Rattle.xf_types.specs.History.{MayReply, is_exception, beginning, moment_of}
use Rattle.xf_laws.proofs.ListLemmas.{found-passes}
use Rattle.xf_late.specs.Rests.{rests_on}
use Rattle.xf_late.proofs.Still.{still-left}
use Rattle.xf_late.proofs.Owns.{rests-none}
use Rattle.xf_views.specs.declared.entry.Listed.{Listed}
use Rattle.xf_views.specs.declared.view.View.{View}
use Rattle.xf_views.specs.declared.view.SlotTurn.{SlotTurn}
use Rattle.xf_views.specs.Hands.{is_same}
use Rattle.xf_views.specs.Log.{Mark, receipts_of, moves}
use Rattle.xf_invariant.specs.Meaning.{Told, told, told_after_moves, Opens}
use Rattle.xf_invariant.specs.PinPart.{Has}
use Rattle.xf_invariant.specs.ImageSays.{SaysImage}
use Rattle.xf_invariant.proofs.ImageSayings.{image_says, same-began}
use Rattle.xf_ownpart.specs.Lists.{IsListing}
use Rattle.xf_ownpart.specs.OwnPart.{with_own}
use Rattle.xf_ownpart.specs.Turns.{tried_of}
use Rattle.xf_ownpart.specs.OwnLaws.{Shift, last_of}
use Rattle.xf_ownpart.proofs.Haves.{has_filter}
use Rattle.xf_ownpart.proofs.Parts.{receipts-all}
use Rattle.xf_ownpart.proofs.Slots.{nothing}
use Rattle.xf_ownpart.proofs.Moments.{opened, last-is, told-after}
use Rattle.xf_ownpart.proofs.OwnSeats.{mine}
use Rattle.xf_ownpart.proofs.OwnReads.{place, place-is, shown-there, rest-still, rest-legal, last-parts, kept-elsewhere}
use Rattle.xf_ownpart.proofs.OwnSayings.{kept-now}
use Rattle.xf_legalpart.specs.Honest.{HasKept, Answers, MoveIsHonest, StillIsHonest, TrialIsHonest, SendIsHonest, Sends, IsStale}
use Rattle.xf_legalpart.specs.HonestLaws.{MayStand}
use Rattle.xf_legalpart.proofs.Replies.{may-own, for-covered, not-found}

module _ (bucket_of : Sa → ℕ) (good : List ℕ → Told → Type 0) (lists : List ℕ → ℕ → Option (Sa × ℕ)) (all : IsListing good lists) (most : ℕ) (base : List ℕ) (start : Machine) (w : Shift bucket_of good lists most base start) where
  abbrev last : Machine
  last = last_of bucket_of good lists most base start w

  abbrev v : View
  v = w.scene.view

  -- what is told after all moves
  abbrev now : Told
  now = told_after_moves bucket_of (told start.shown w.opens.ids) (moves w.scene.log)

  now-shown : now.shown ≡ last.shown
  now-shown = told-after bucket_of good lists base start w.opens w.scene.log w.legal.replies

  says : SaysImage bucket_of good base w.scene.numbers.generation w.scene.log w.scene.words w.scene.settled v
  says = image_says bucket_of good base most w.scene.made w.scene.numbers w.scene.owners w.scene.log w.scene.words w.scene.settled w.scene.views w.scene.turn w.scene.image w.scene.seat v w.scene.there w.scene.here

  begins : Opens good base (told start.shown w.opens.ids)
  begins = opened bucket_of good lists base start w.opens

  has-kept : HasKept v.own.turns last
  has-kept l k = (kept-now bucket_of good lists all most base start w l k).own

  -- what the machine after all receipts answers
  stands-last : (r : Receipt) → Answers v.own.turns last r → MayStand start w.scene.log v.own.turns r (rests_on last.shown r)
  stands-last r a = record { may = may-own (moment_of (beginning start) (receipts_of w.scene.log)) r r.reply a.reply; covered = for-covered v.own.turns last.shown r a.kept }

  pub still_is_legal : (r : Receipt) → v.hand.has_turn ≡ true → v.hand.writing ≡ false → StillIsHonest good lists v r → MayStand start w.scene.log v.own.turns r (rests_on last.shown r)
  still_is_legal r turn shut honest =
      stands-last r (honest last now (last-is bucket_of good lists all most base start w) now-shown (says.calm turn shut (told start.shown w.opens.ids) begins) has-kept)

  pub move_is_legal : (r : Receipt) → v.hand.writing ≡ true → v.hand.drawn ≡ false → MoveIsHonest good lists v r → MayStand start w.scene.log v.own.turns r (rests_on last.shown r)
  move_is_legal r opens yet honest =
      let kept : w.scene.settled ≡ v.image.kept = says.open_settled opens ∙ ap (λ (c : Bool). if c then w.scene.words else v.image.kept) yet in
      stands-last r (honest last now (last-is bucket_of good lists all most base start w) now-shown
      (subst (λ (image : List ℕ). good image now) kept (says.stands (told start.shown w.opens.ids) begins)) has-kept)

  -- an output
  pub send_is_legal : (r : Receipt) → SendIsHonest good lists last.shown v r → MayStand start w.scene.log v.own.turns r (rests_on last.shown r)
  send_is_legal r (Sends l len k is honest) =
      let listed = kept-now bucket_of good lists all most base start w l k in
      stands-last r record {
        reply = honest last (last-is bucket_of good lists all most base start w) listed;
        kept = λ x found.
            let there : find (has_sid l.state.sid) last.shown.states ≡ Some x = sym (ap (λ (c : Call). state_found (rule_of last.shown c)) is) ∙ found in
            (l, k, sym (eqb-true x.sid l.state.sid (found-passes (has_sid l.state.sid) last.shown.states x there)));
      }
  send_is_legal r (IsStale sid len is stale gone) =
      let none : find (has_sid sid) last.shown.states ≡ None = not-found sid last.shown.states gone in
      stands-last r record {
        reply =
            stale
            ∙ sym (ap (λ (c : Call). (step last c).reply) is ∙ ap (λ (o : Option Sa). (on_found last reply.Stale (output_at len) o).reply) none);
        kept = λ x found. nothing x (sym (ap (λ (c : Call). state_found (rule_of last.shown c)) is ∙ none) ∙ found);
      }

  -- a trial's receipt
  pub trial_is_legal : (x : ℕ) (r : Receipt) → v.hand.trial ≡ Some x → is_same v.hand.began w.scene.numbers.generation ≡ true → TrialIsHonest good lists v r
      → MayStand start (take x w.scene.log) (tried_of v.own.turns) r (rests_on last.shown r)
  trial_is_legal x r trial same honest =
      let there = place bucket_of good lists all most base start w x trial same in
      let there-is = place-is bucket_of good lists all most base start w x trial same in
      let shown = shown-there bucket_of good lists all most base start w x trial same in
      let read = says.same same in
      let even = (same-began v.hand.began w.scene.numbers.generation same).1 in
      let settled : w.scene.settled ≡ w.scene.words = w.scene.image.calm even in
      let a = honest there.machine now w.scene.words there-is (now-shown ∙ shown) (read.1 (told start.shown w.opens.ids) begins) read.0 kept-there
      (λ e has. let z = has_filter (λ (t : SlotTurn). t.tried) v.own.turns e has in ap (λ (image : List ℕ). lists image e.slot) (sym settled) ∙ kept-listed e z.0) in
      record {
        may = may-own there r r.reply a.reply;
        covered = λ sid rests. for-covered (tried_of v.own.turns) there.machine.shown r a.kept sid (ap (λ (s : Shown). rests_on s r) (sym shown) ∙ rests);
      }
    where
      -- what the turns keep that were held at the draw is so at the place already
      kept-there : HasKept (tried_of v.own.turns) (place bucket_of good lists all most base start w x trial same).machine
      kept-there l k =
          let held = has_filter (λ (t : SlotTurn). t.tried) v.own.turns k.turn k.held in
          let listed = kept-now bucket_of good lists all most base start w l (record { turn = k.turn; held = held.0; is = k.is }) in
          let u = place bucket_of good lists all most base start w x trial same in
          let shown = shown-there bucket_of good lists all most base start w x trial same in
          sym (still-left u (receipts_of (drop (suc x) w.scene.log)) l.state
          (place-is bucket_of good lists all most base start w x trial same)
          (rest-legal bucket_of good lists all most base start w x trial same)
          (rest-still bucket_of good lists all most base start w x trial same)
          (subst (λ (s : Shown). Contains s.states l.state) shown listed.state)
          (receipts-all (λ (q : Receipt). rests_on u.machine.shown q ≡ Some l.state.sid → ⊥) (drop (suc x) w.scene.log) (kept-elsewhere bucket_of good lists all most base start w x trial same l k)))
          ∙ sym (ap (λ (m : Machine). own_in m l.state) (last-parts bucket_of good lists all most base start w x trial same))
          ∙ listed.own

      -- and the settled image lists it
      kept-listed : (e : SlotTurn) → Has v.own.turns e → lists w.scene.settled e.slot ≡ option_map (λ (l : Listed). (l.state, l.time)) e.listed
      kept-listed e has =
          by (lists w.scene.settled e.slot) ∙ ap (option_map (λ (l : Listed). (l.state, l.time))) (mine bucket_of good lists all most base start w e has).keeps
        where
          by : (o : Option (Sa × ℕ)) → o ≡ option_map (λ (l : Listed). (l.state, l.time)) (option_map (with_own last) o)
          by None = refl
          by (Some p) = refl

-- want of memory
pub want_is_legal : (start : Machine) (log : List Mark) (turns : List SlotTurn) (m : Machine) (r : Receipt) → r.reply ≡ reply.NoMemory → MayStand start log turns r (rests_on m.shown r)
want_is_legal start log turns m r wants = record {
  may = subst (MayReply (moment_of (beginning start) (receipts_of log)) r) (sym wants) tt;
  covered = λ sid rests. nothing sid (sym (rests-none m.shown r (ap is_exception wants)) ∙ rests);
}
