-- A call that was given up may stand.
use Rattle.std.proofs.Common.{◌≡◌, ◌≢◌, ℕ, suc, ◌+◌, ◌%◌, ◌<◌, ◌≤◌, true, false, List, [], length, take, drop, Some, None, refl, sym, ap, ◌∙◌, subst, arith}
use mathlib.Core.Option.{some}
use lib.ListN.{get_elem?}
use Rattle.xf_types.specs.declared.call.Receipt.{Receipt}
use Rattle.xf_types.specs.declared.state.Sa.{Sa}
use Rattle.xf_types.specs.Machine.{Machine}
use Rattle.xf_types.specs.Moves.{is_moving}
use Rattle.xf_types.specs.History.{MayReply, moves_since, beginning, moment_of}
use Rattle.xf_views.specs.declared.view.View.{View}
use Rattle.xf_views.specs.Hands.{is_same}
use Rattle.xf_views.specs.Log.{Mark, mark, receipts_of}
use Rattle.xf_views.proofs.Seats.{even_now}
use Rattle.xf_invariant.specs.Meaning.{Told}
use Rattle.xf_invariant.proofs.ImageSayings.{same-began}
use Rattle.xf_ownpart.proofs.Parts.{receipts-part, at_drop, receipts-all}
use Rattle.xf_legalpart.specs.AgainPart.{past_after, since, before_last}
use Rattle.xf_legalpart.specs.AgainLaws.{Account, IsAgain}
use Rattle.xf_legalpart.proofs.Pasts.{past-is, since-part}
use Rattle.xf_legalpart.proofs.Overtaken.{overtaken-count}
use Rattle.xf_legalpart.proofs.AgainRows.{mine}

module _ (bucket_of : Sa → ℕ) (good : List ℕ → Told → Type 0) (most : ℕ) (base : List ℕ) (c : Account bucket_of good most base) where
  abbrev v : View
  v = c.scene.view

  -- as many moves stand since the last receipt as tries were counted
  enough : (tries : ℕ) → c.scene.numbers.generation % 2 ≡ 0 → 1 ≤ tries → tries ≤ length v.knows.overtaken → tries ≤ since v.worker c.scene.log
  enough tries even least few =
      let many = overtaken-count (before_last v.worker c.scene.log) v.knows.overtaken c.scene.numbers.generation tries even least few (mine bucket_of good most base c).counted in
      let m = c.scene.turn.even even in
      omega arith

  may-again : (start : Machine) (rs : List Receipt) (r : Receipt) (tries : ℕ) → r.worker ≡ v.worker → IsAgain v r tries → tries ≤ moves_since v.worker (past_after [] rs)
      → MayReply (moment_of (beginning start) rs) r r.reply
  may-again start rs r tries same is many =
      subst (MayReply (moment_of (beginning start) rs) r) (sym is.reply)
      (is.call, is.least, subst (λ n. tries ≤ n) (ap (moves_since v.worker) (sym (past-is (beginning start) rs)) ∙ ap (λ k. moves_since k (moment_of (beginning start) rs).past) (sym same)) many)

  pub still_gives_up : (start : Machine) (r : Receipt) (tries : ℕ) → v.hand.has_turn ≡ true → v.hand.writing ≡ false → r.worker ≡ v.worker → IsAgain v r tries
      → MayReply (moment_of (beginning start) (receipts_of c.scene.log)) r r.reply
  still_gives_up start r tries turn shut same is =
      let even = even_now most c.scene.made c.scene.numbers c.scene.owners c.scene.log c.scene.views c.scene.turn c.scene.seat v c.scene.there c.scene.here turn shut in
      may-again start (receipts_of c.scene.log) r tries same is (enough tries even is.least is.few)

  pub trial_gives_up : (start : Machine) (x : ℕ) (r : Receipt) (tries : ℕ) → v.hand.trial ≡ Some x → is_same v.hand.began c.scene.numbers.generation ≡ true → r.worker ≡ v.worker → IsAgain v r tries
      → MayReply (moment_of (beginning start) (receipts_of (take x c.scene.log))) r r.reply
  trial_gives_up start x r tries trial ends same is =
      let s = same-began v.hand.began c.scene.numbers.generation ends in
      let t = (c.scene.turn.each c.scene.seat v c.scene.there c.scene.here).trial x trial in
      let front = receipts_of (take x c.scene.log) in
      let rest = receipts_of (drop (suc x) c.scene.log) in
      may-again start front r tries same is
      (subst (λ n. tries ≤ n)
      (ap (λ (rs : List Receipt). moves_since v.worker (past_after [] rs)) (receipts-part c.scene.log x v.worker t.0)
      ∙ since-part v.worker front rest
      (receipts-all (λ (q : Receipt). (is_moving q.reply ≡ false) × (q.worker ≢ v.worker)) (drop (suc x) c.scene.log)
      (λ j m q at got. behind s t j m q (at_drop c.scene.log (suc x) j (suc x + j) m refl at) got)))
      (enough tries s.1 is.least is.few))
    where
      behind : (v.hand.began ≡ Some c.scene.numbers.generation) × (c.scene.numbers.generation % 2 ≡ 0)
          → (get_elem? c.scene.log x ≡ some (mark v.worker None None)) × ((y : ℕ) (m : Mark) → x < y → get_elem? c.scene.log y ≡ some m → m.by ≢ v.worker)
          → (j : ℕ) (m : Mark) (q : Receipt) → get_elem? c.scene.log (suc x + j) ≡ some m → m.receipt ≡ Some q → (is_moving q.reply ≡ false) × (q.worker ≢ v.worker)
      behind s t j m q at got =
          let later : x < suc x + j = omega arith in (
            (c.scene.image.each c.scene.seat v c.scene.there c.scene.here).trial x c.scene.numbers.generation trial s.0 s.1 refl (suc x + j) m q later at got,
            λ by_it. t.1 (suc x + j) m later at (sym (c.scene.turn.numbered (suc x + j) m q at got).1 ∙ by_it),
          )
