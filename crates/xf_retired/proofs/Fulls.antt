-- A list that is full while slots wait.
use Rattle.std.proofs.Common.{◌≡◌, ℕ, zero, suc, ◌≤◌, Bool, true, false, List, length, Option, sym, ap, ◌∙◌, subst, arith}
use Rattle.std.specs.Prelude.{MatchBool}
use Rattle.xf_types.specs.declared.call.Receipt.{Receipt}
use Rattle.xf_types.specs.declared.call.Reply.TheVariants as reply
use Rattle.xf_types.specs.declared.policy.Policy.{Policy}
use Rattle.xf_types.specs.declared.state.Sa.{Sa}
use Rattle.xf_types.specs.Machine.{Machine}
use Rattle.xf_types.specs.Steps.{step}
use Rattle.xf_types.specs.History.{Moment, MayReply, IsHeldBack, IsFullWithWaiting, with_policies, with_states, adds_policy, beginning, moment_of}
use Rattle.xf_views.specs.declared.view.View.{View}
use Rattle.xf_views.specs.Log.{receipts_of, moves}
use Rattle.xf_views.proofs.Seats.{even_now}
use Rattle.xf_invariant.specs.Meaning.{Told, told, told_after_moves}
use Rattle.xf_invariant.proofs.ImageSayings.{image_says}
use Rattle.xf_ownpart.specs.OwnLaws.{Shift, last_of}
use Rattle.xf_ownpart.proofs.Moments.{opened, machine-after, told-after}
use Rattle.xf_retired.specs.Pools.{IsPool, ArePools, sid_at, retired_slots}
use Rattle.xf_retired.specs.RetiredLaws.{IsFull, IsFullReply, RetiredPart}
use Rattle.xf_retired.proofs.Counts.{all-taken}
use Rattle.xf_retired.proofs.Rows.{pools-after}

may-full : (t : Moment) (r : Receipt) (live waiting : ℕ) → 1 ≤ waiting → IsFullWithWaiting t r live waiting → MayReply t r (reply.Full live waiting)
may-full t r live zero least h = absurd (omega arith)
may-full t r live (suc waiting) least h = h

module _ (bucket_of : Sa → ℕ) (good : List ℕ → Told → Type 0) (lists : List ℕ → ℕ → Option (Sa × ℕ)) (index_at : List ℕ → ℕ → Option ℕ) (policies states : ℕ) (pools : ArePools good lists index_at policies states)
    (most : ℕ) (base : List ℕ) (start : Machine) (w : Shift bucket_of good lists most base start) where
  abbrev v : View
  v = w.scene.view

  abbrev last : Machine
  last = last_of bucket_of good lists most base start w

  -- one list
  held_back : {X : Type 0} (key : X → ℕ) (at : List ℕ → ℕ → Option ℕ) (lowered : Machine → ℕ → Machine) (first size : ℕ) (records : List X) (capacity removed : ℕ) (r : Receipt) (live waiting : ℕ)
      → IsPool key at first size v.image.words records capacity → IsFull bucket_of good lists policies states lowered first size v r live waiting → retired_slots v.image.words first size ≤ removed
      → IsHeldBack live waiting (length records) capacity removed
  held_back key at lowered first size records capacity removed r live waiting pool full few =
      let sum = all-taken v.image.words first size full.taken in
      let a = full.live_is in
      let b = full.waiting_is in
      let c = pool.live in
      let d = pool.room in
      record { live_is = a ∙ c; sum_is = omega arith; few = omega arith }

  pub full_is_legal : (r : Receipt) (live waiting : ℕ) → v.hand.has_turn ≡ true → v.hand.writing ≡ false → 1 ≤ waiting → r.reply ≡ reply.Full live waiting
      → IsFullReply bucket_of good lists policies states v r live waiting → RetiredPart policies states start w.scene.log w.scene.settled
      → MayReply (moment_of (beginning start) (receipts_of w.scene.log)) r r.reply
  full_is_legal r live waiting turn shut least is full few =
      let t = moment_of (beginning start) (receipts_of w.scene.log) in
      let now = told_after_moves bucket_of (told start.shown w.opens.ids) (moves w.scene.log) in
      let says = image_says bucket_of good base most w.scene.made w.scene.numbers w.scene.owners w.scene.log w.scene.words w.scene.settled w.scene.views w.scene.turn w.scene.image w.scene.seat v w.scene.there w.scene.here in
      let stands : good v.image.words now = says.calm turn shut (told start.shown w.opens.ids) (opened bucket_of good lists base start w.opens) in
      let shown = told-after bucket_of good lists base start w.opens w.scene.log w.legal.replies in
      let both = pools-after bucket_of good lists index_at policies states pools base start w.opens w.scene.log v.image.words w.legal.replies stands in
      let even = even_now most w.scene.made w.scene.numbers w.scene.owners w.scene.log w.scene.views w.scene.turn w.scene.seat v w.scene.there w.scene.here turn shut in
      let settled : w.scene.settled ≡ v.image.words = w.scene.image.calm even ∙ sym (says.image turn) in
      let policies_few = subst (λ (image : List ℕ). retired_slots image 0 policies ≤ t.policies_removed) settled few.few_policies in
      let states_few = subst (λ (image : List ℕ). retired_slots image policies states ≤ t.states_removed) settled few.few_states in
      subst (MayReply t r) (sym is)
      (may-full t r live waiting least (by (adds_policy r.call) now shown stands both.0 both.1 policies_few states_few full))
    where
      by : (c : Bool) (now : Told) → now.shown ≡ last.shown → good v.image.words now
          → IsPool (λ (p : Policy). p.index) index_at 0 policies v.image.words last.shown.policies last.shown.max_policies
          → IsPool (λ (x : Sa). x.sid) (sid_at lists) policies states v.image.words last.shown.states last.shown.max_states
          → retired_slots v.image.words 0 policies ≤ (moment_of (beginning start) (receipts_of w.scene.log)).policies_removed
          → retired_slots v.image.words policies states ≤ (moment_of (beginning start) (receipts_of w.scene.log)).states_removed
          → MatchBool c (IsFull bucket_of good lists policies states with_policies 0 policies v r live waiting) (IsFull bucket_of good lists policies states with_states policies states v r live waiting)
          → MatchBool c
          (IsHeldBack live waiting (length last.shown.policies) last.shown.max_policies (moment_of (beginning start) (receipts_of w.scene.log)).policies_removed
          × ((step (with_policies last (length last.shown.policies)) r.call).reply ≡ reply.Full live 0))
          (IsHeldBack live waiting (length last.shown.states) last.shown.max_states (moment_of (beginning start) (receipts_of w.scene.log)).states_removed
          × ((step (with_states last (length last.shown.states)) r.call).reply ≡ reply.Full live 0))
      by true now shown stands pool other few more full = (
        held_back (λ (p : Policy). p.index) index_at with_policies 0 policies last.shown.policies last.shown.max_policies (moment_of (beginning start) (receipts_of w.scene.log)).policies_removed r live waiting pool full few,
        ap (λ n. (step (with_policies last n) r.call).reply) (sym (full.live_is ∙ pool.live)) ∙ full.full last now (machine-after bucket_of good lists base start w.opens w.scene.log) shown stands,
      )
      by false now shown stands other pool more few full = (
        held_back (λ (x : Sa). x.sid) (sid_at lists) with_states policies states last.shown.states last.shown.max_states (moment_of (beginning start) (receipts_of w.scene.log)).states_removed r live waiting pool full few,
        ap (λ n. (step (with_states last n) r.call).reply) (sym (full.live_is ∙ pool.live)) ∙ full.full last now (machine-after bucket_of good lists base start w.opens w.scene.log) shown stands,
      )
