-- Each step keeps no more slots retired than records were removed.
use Rattle.std.proofs.Common.{◌≡◌, ℕ, suc, ◌+◌, ◌<◌, ◌≤◌, true, false, List, [], ◌∷◌, ◌++◌, set, take, drop, Some, None, Option, sym, ap, ◌∙◌, subst, arith}
use Rattle.std.specs.Prelude.{if◌then◌else◌, Bool, slice_index}
use Rattle.std.proofs.lemmas.List.{append-nil}
use Rattle.std.proofs.lemmas.List.Elements.{All-cons}
use Rattle.xf_types.specs.declared.call.Receipt.{Receipt}
use Rattle.xf_types.specs.declared.policy.Policy.{Policy}
use Rattle.xf_types.specs.declared.state.Sa.{Sa}
use Rattle.xf_types.specs.Machine.{Machine, Shown}
use Rattle.xf_types.specs.Moves.{is_moving}
use Rattle.xf_types.specs.History.{Moment, MayReply, IsLegalFrom, policies_gone, states_gone, machine_next, next_moment, beginning, machine_of, moment_of}
use Rattle.xf_types.specs.IsMachine.{IsShownPart}
use Rattle.xf_laws.proofs.RemovalLemmas.{history-removes}
use Rattle.xf_late.specs.Rests.{rests_on}
use Rattle.xf_late.proofs.Late.{legal-both, legal-more, moment-joins}
use Rattle.xf_views.specs.declared.entry.Entry.{Entry}
use Rattle.xf_views.specs.declared.view.View.{View}
use Rattle.xf_views.specs.Hands.{is_same}
use Rattle.xf_views.specs.Log.{Mark, mark, receipt, receipts_of, moves}
use Rattle.xf_views.proofs.Logs.{receipts-append}
use Rattle.xf_invariant.specs.Meaning.{Told, told, told_after, told_after_moves, Opens}
use Rattle.xf_invariant.proofs.ImageDraws.{move_keeps_image}
use Rattle.xf_ownpart.specs.Lists.{IsListing}
use Rattle.xf_ownpart.specs.Turns.{IsCovered, tried_of}
use Rattle.xf_ownpart.specs.OwnLaws.{IsStart, Shift, last_of}
use Rattle.xf_ownpart.proofs.Parts.{receipts-part}
use Rattle.xf_ownpart.proofs.Moments.{opened, machine-after, told-after}
use Rattle.xf_ownpart.proofs.OwnReads.{place, blank, rest-still, rest-legal, set-parts, settle-legal}
use Rattle.xf_retired.specs.Pools.{IsPool, ArePools, sid_at, retired_slots}
use Rattle.xf_retired.specs.RetiredLaws.{KeepsPool, RetiredPart}
use Rattle.xf_retired.proofs.Counts.{none-retired}
use Rattle.xf_retired.proofs.Retiring.{retires}

add-up : (a b c d e : ℕ) → a ≤ b + c → b ≤ d → e ≡ d + c → a ≤ e
add-up a b c d e h k is = omega arith

no-less : (a c d e : ℕ) → a ≤ d → e ≡ d + c → a ≤ e
no-less a c d e h is = omega arith

pub retired_begin : (policies states : ℕ) (start : Machine) (base : List ℕ) → ((slot : ℕ) → slot < policies + states → slice_index base slot ≤ 1) → RetiredPart policies states start [] base
retired_begin policies states start base low = record {
  few_policies = let z = none-retired base 0 policies (λ slot less. low slot (omega arith)) in omega arith;
  few_states = let z = none-retired base policies states low in omega arith;
}

-- the moment after one receipt more
moment-more : (start : Machine) (log : List Mark) (k : ℕ) (one : Option ℕ) (r : Receipt)
    → moment_of (beginning start) (receipts_of (log ++ mark k one (Some r) ∷ [])) ≡ next_moment (moment_of (beginning start) (receipts_of log)) r
moment-more start log k one r = ap (moment_of (beginning start)) (receipts-append log (mark k one (Some r))) ∙ moment-joins (beginning start) (receipts_of log) (r ∷ [])

module _ (policies states : ℕ) where
  pub still_keeps : (start : Machine) (log : List Mark) (settled : List ℕ) (k : ℕ) (one : Option ℕ) (r : Receipt) → RetiredPart policies states start log settled
      → RetiredPart policies states start (log ++ mark k one (Some r) ∷ []) settled
  still_keeps start log settled k one r few =
      let t = moment_of (beginning start) (receipts_of log) in
      let u = moment_of (beginning start) (receipts_of (log ++ mark k one (Some r) ∷ [])) in
      let more = moment-more start log k one r in
      record {
        few_policies =
            no-less (retired_slots settled 0 policies) (policies_gone t.machine (machine_next t.machine r)) t.policies_removed u.policies_removed few.few_policies
            (ap (λ (z : Moment). z.policies_removed) more);
        few_states =
            no-less (retired_slots settled policies states) (states_gone t.machine (machine_next t.machine r)) t.states_removed u.states_removed few.few_states
            (ap (λ (z : Moment). z.states_removed) more);
      }

  pub waits_keeps : (start : Machine) (log : List Mark) (settled : List ℕ) (k : ℕ) → RetiredPart policies states start log settled
      → RetiredPart policies states start (log ++ mark k None None ∷ []) settled
  waits_keeps start log settled k few =
      let same = sym (receipts-append log (mark k None None) ∙ append-nil (receipts_of log)) in
      record {
        few_policies = subst (λ (rs : List Receipt). retired_slots settled 0 policies ≤ (moment_of (beginning start) rs).policies_removed) same few.few_policies;
        few_states = subst (λ (rs : List Receipt). retired_slots settled policies states ≤ (moment_of (beginning start) rs).states_removed) same few.few_states;
      }

module _ (bucket_of : Sa → ℕ) (good : List ℕ → Told → Type 0) (lists : List ℕ → ℕ → Option (Sa × ℕ)) (index_at : List ℕ → ℕ → Option ℕ) (policies states : ℕ) (pools : ArePools good lists index_at policies states) where
  -- both pools of an image
  abbrev pub Both : List ℕ → Shown → Type 0
  Both image s =
      IsPool (λ (p : Policy). p.index) index_at 0 policies image s.policies s.max_policies
      × IsPool (λ (x : Sa). x.sid) (sid_at lists) policies states image s.states s.max_states

  -- an image that stands for what the moves make of what the start shows has them
  pub pools-after : (base : List ℕ) (start : Machine) (opens : IsStart bucket_of good lists base start) (log : List Mark) (image : List ℕ) → IsLegalFrom (beginning start) (receipts_of log)
      → good image (told_after_moves bucket_of (told start.shown opens.ids) (moves log)) → Both image (machine_of start (receipts_of log)).shown
  pools-after base start opens log image legal stands =
      let t = told_after_moves bucket_of (told start.shown opens.ids) (moves log) in
      let same = told-after bucket_of good lists base start opens log legal in
      subst (Both image) same (pools image t (subst IsShownPart (sym same) (machine-after bucket_of good lists base start opens log).shown) stands)

  module _ (most : ℕ) (base : List ℕ) (start : Machine) (w : Shift bucket_of good lists most base start) where
    abbrev v : View
    v = w.scene.view

    pub move_keeps : (one : Option ℕ) (e : Entry) → v.hand.has_turn ≡ true → v.hand.writing ≡ true → v.hand.drawn ≡ false → v.hand.trial ≡ None → is_moving e.reply ≡ true
        → let all = moves w.scene.log in
        let r = receipt w.scene.numbers.draw v.worker e in
        MayReply (moment_of (beginning start) (receipts_of w.scene.log)) r r.reply
        → ((t : Told) → Opens good base t → good v.image.kept (told_after_moves bucket_of t all) → good v.image.words (told_after bucket_of (told_after_moves bucket_of t all) r))
        → KeepsPool index_at 0 policies v.image.kept v.image.words → KeepsPool (sid_at lists) policies states v.image.kept v.image.words
        → RetiredPart policies states start w.scene.log w.scene.settled
        → RetiredPart policies states start (w.scene.log ++ mark v.worker one (Some r) ∷ []) w.scene.words
    move_keeps one e turn opens yet none moving may leads keeps stays few =
        let r = receipt w.scene.numbers.draw v.worker e in
        let log = w.scene.log ++ mark v.worker one (Some r) ∷ [] in
        let t = moment_of (beginning start) (receipts_of w.scene.log) in
        let u = moment_of (beginning start) (receipts_of log) in
        let fits = w.scene.image.each w.scene.seat v w.scene.there w.scene.here in
        let known : v.image.words ≡ w.scene.words = fits.image turn in
        let kept : w.scene.settled ≡ v.image.kept = fits.settled opens ∙ ap (λ (c : Bool). if c then w.scene.words else v.image.kept) yet in
        let begins = opened bucket_of good lists base start w.opens in
        let legal : IsLegalFrom (beginning start) (receipts_of log) =
        subst (IsLegalFrom (beginning start)) (sym (receipts-append w.scene.log (mark v.worker one (Some r)))) (legal-more (beginning start) (receipts_of w.scene.log) (r ∷ []) w.legal.replies (may, tt)) in
        let before : Both v.image.kept t.machine.shown =
        subst (λ (image : List ℕ). Both image t.machine.shown) kept
        (pools-after base start w.opens w.scene.log w.scene.settled w.legal.replies (w.scene.image.stands (told start.shown w.opens.ids) begins)) in
        let more = moment-more start w.scene.log v.worker one r in
        let after : Both v.image.words (machine_next t.machine r).shown =
        subst (λ (z : Moment). Both v.image.words z.machine.shown) more
        (subst (λ (image : List ℕ). Both image u.machine.shown) (sym known)
        (pools-after base start w.opens log w.scene.words legal
        ((move_keeps_image bucket_of good base most w.scene.made w.scene.numbers w.scene.owners w.scene.log w.scene.words w.scene.settled w.scene.views w.scene.turn w.scene.image w.scene.seat v w.scene.there w.scene.here
        one e [] turn opens yet none moving leads).stands (told start.shown w.opens.ids) begins))) in
        let policies_few : retired_slots v.image.words 0 policies ≤ retired_slots v.image.kept 0 policies + policies_gone t.machine (machine_next t.machine r) =
        retires (λ (p : Policy). p.index) index_at 0 policies v.image.kept v.image.words t.machine.shown.policies (machine_next t.machine r).shown.policies
        t.machine.shown.max_policies (machine_next t.machine r).shown.max_policies before.0 after.0 keeps in
        let states_few : retired_slots v.image.words policies states ≤ retired_slots v.image.kept policies states + states_gone t.machine (machine_next t.machine r) =
        retires (λ (x : Sa). x.sid) (sid_at lists) policies states v.image.kept v.image.words t.machine.shown.states (machine_next t.machine r).shown.states
        t.machine.shown.max_states (machine_next t.machine r).shown.max_states before.1 after.1 stays in
        record {
          few_policies =
              subst (λ (image : List ℕ). retired_slots image 0 policies ≤ u.policies_removed) known
              (add-up (retired_slots v.image.words 0 policies) (retired_slots v.image.kept 0 policies) (policies_gone t.machine (machine_next t.machine r)) t.policies_removed u.policies_removed
              policies_few (subst (λ (image : List ℕ). retired_slots image 0 policies ≤ t.policies_removed) kept few.few_policies) (ap (λ (z : Moment). z.policies_removed) more));
          few_states =
              subst (λ (image : List ℕ). retired_slots image policies states ≤ u.states_removed) known
              (add-up (retired_slots v.image.words policies states) (retired_slots v.image.kept policies states) (states_gone t.machine (machine_next t.machine r)) t.states_removed u.states_removed
              states_few (subst (λ (image : List ℕ). retired_slots image policies states ≤ t.states_removed) kept few.few_states) (ap (λ (z : Moment). z.states_removed) more));
        }

-- a trial's receipt comes to stand: none was removed since its place
module _ (bucket_of : Sa → ℕ) (good : List ℕ → Told → Type 0) (lists : List ℕ → ℕ → Option (Sa × ℕ)) (policies states : ℕ) (all : IsListing good lists) (most : ℕ) (base : List ℕ) (start : Machine) (w : Shift bucket_of good lists most base start) where
  pub settle_keeps : (x : ℕ) (e : Entry) → w.scene.view.hand.trial ≡ Some x → is_same w.scene.view.hand.began w.scene.numbers.generation ≡ true → is_moving e.reply ≡ false
      → let r = receipt x w.scene.view.worker e in
      let one = rests_on (last_of bucket_of good lists most base start w).shown r in
      MayReply (moment_of (beginning start) (receipts_of (take x w.scene.log))) r r.reply
      → IsCovered (tried_of w.scene.view.own.turns) one
      → RetiredPart policies states start w.scene.log w.scene.settled
      → RetiredPart policies states start (set w.scene.log x (mark w.scene.view.worker one (Some r))) w.scene.settled
  settle_keeps x e trial same still may covered few =
      let r = receipt x w.scene.view.worker e in
      let one = rests_on (last_of bucket_of good lists most base start w).shown r in
      let front = receipts_of (take x w.scene.log) in
      let rest = receipts_of (drop (suc x) w.scene.log) in
      let here = place bucket_of good lists all most base start w x trial same in
      let parts = receipts-part w.scene.log x w.scene.view.worker (blank bucket_of good lists all most base start w x trial same) in
      let put = set-parts bucket_of good lists all most base start w x trial same e still may covered in
      let still_rest = rest-still bucket_of good lists all most base start w x trial same in
      let old = history-removes here rest (rest-legal bucket_of good lists all most base start w x trial same) still_rest in
      let legal = subst (IsLegalFrom (beginning start)) put (settle-legal bucket_of good lists all most base start w x trial same e still may covered) in
      let new = history-removes here (r ∷ rest) (legal-both (beginning start) front (r ∷ rest) legal).1 (All-cons (λ (q : Receipt). is_moving q.reply ≡ false) r rest still still_rest) in
      let before = ap (moment_of (beginning start)) parts ∙ moment-joins (beginning start) front rest in
      let after = ap (moment_of (beginning start)) put ∙ moment-joins (beginning start) front (r ∷ rest) in
      record {
        few_policies =
            subst (λ n. retired_slots w.scene.settled 0 policies ≤ n)
            (ap (λ (t : Moment). t.policies_removed) before ∙ old.policies_removed ∙ sym (ap (λ (t : Moment). t.policies_removed) after ∙ new.policies_removed)) few.few_policies;
        few_states =
            subst (λ n. retired_slots w.scene.settled policies states ≤ n)
            (ap (λ (t : Moment). t.states_removed) before ∙ old.states_removed ∙ sym (ap (λ (t : Moment). t.states_removed) after ∙ new.states_removed)) few.few_states;
      }
