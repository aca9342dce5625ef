use Rattle.std.proofs.Common.{rules, arith, ◌≤◌, length, sym}
use Rattle.std.proofs.lemmas.Bool.{true≢false}
use Rattle.xf_hist.proofs.Numbers.{adjacent, not-increasing}
use Rattle.xf_hist.proofs.order.is_increasing.Goals as goal

pub returns-then-list-place : goal.returns-then-list-place
returns-then-list-place c = (
  λ h. absurd (true≢false (sym h)),
  λ inc. absurd (not-increasing c.args.list.now c.loop-place.place c.index-list-place.result c.index-list-place-in-loop-place.result
      (search rules) (search rules) c.index-list-place.is c.index-list-place-in-loop-place.is (search rules) inc),
)

pub returns : goal.returns
returns c =
    let done : length c.args.list.now ≤ c.loop-place.place = search rules in
    (λ h. adjacent c.args.list.now (λ k d w. c.loop-place.invariant k d (omega (arith, w, done))), λ h. cc)
