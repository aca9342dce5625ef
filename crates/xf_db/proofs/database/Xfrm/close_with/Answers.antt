use Rattle.std.proofs.Common.{◌≡◌, ◌≤◌, List, AllPairs, sym, ap, ◌∙◌, subst, arith, length, vec_capacity}
use Rattle.std.specs.Prelude.{IsPermutation}
use Rattle.xf_types.specs.declared.call.Receipt.{Receipt}
use Rattle.xf_types.specs.History.{joined}
use Rattle.xf_hist.specs.Merged.{all_of}
use Rattle.xf_live.specs.Ends.{receipts_of_all as lists_of_all}
use Rattle.xf_db.specs.Passes.{DatabaseView}
use Rattle.xf_db.specs.Closing.{Closes, total}
use Rattle.xf_db.proofs.Endings.{all_done, all_joined, all_count, lists_are, left_image, left_stands, closes}
use Rattle.xf_db.proofs.database.Xfrm.close_with.Goals as goal

pub close-closed-requires : goal.close-closed-requires
close-closed-requires c =
    all_done c.self.inside.live c.args.self c.args.passes.items c.undress-seats.result.items c.self.view_is c.undress-seats.ensures.passes c.requires.all
    c.undress-seats.ensures.resting

pub merge-history-requires-clause-fits : goal.merge-history-requires-clause-fits
merge-history-requires-clause-fits c =
    let count : length (all_of c.close-closed.result.receipts.items) ≡ total c.args.passes.items =
    all_count c.args.passes.items c.undress-seats.result.items c.undress-seats.ensures.passes c.close-closed.result.receipts.items c.close-closed.ensures.receipts in
    let fits : total c.args.passes.items ≤ vec_capacity c.args.room = c.requires.fits in
    omega (arith, count, fits)

pub merge-history-requires-clause-apart : goal.merge-history-requires-clause-apart
merge-history-requires-clause-apart c =
    subst (λ (rs : List Receipt). AllPairs (λ a b. a.number ≡ b.number → ⊥) rs)
    (sym (all_joined c.close-closed.result.receipts.items ∙ ap joined c.close-closed.ensures.receipts)) c.close-closed.ensures.history.apart

pub after-requires-clause-left : goal.after-requires-clause-left
after-requires-clause-left c =
    let parts = lists_of_all c.undress-seats.result.items in (
      left_image c.self.inside.sizes.policies c.self.inside.sizes.states c.self.inside.live.start c.close-closed.result.words.items c.close-closed.result.values.items parts
          c.self.invariant.0.start c.close-closed.ensures.history,
      left_stands c.self.inside.sizes.policies c.self.inside.sizes.states c.self.inside.live.start c.close-closed.result.words.items c.close-closed.result.values.items parts
          c.self.invariant.0.start c.close-closed.ensures.history,
    )

pub returns : goal.returns
returns c =
    let p = c.self.inside.sizes.policies in
    let s = c.self.inside.sizes.states in
    let start = c.self.inside.live.start in
    let words = c.close-closed.result.words.items in
    let values = c.close-closed.result.values.items in
    let parts = lists_of_all c.undress-seats.result.items in
    let e = c.close-closed.ensures.history in
    let stands = left_stands p s start words values parts c.self.invariant.0.start e in
    let is = c.after.ensures (left_image p s start words values parts c.self.invariant.0.start e) stands in
    let are = lists_are c.args.passes.items c.undress-seats.result.items c.undress-seats.ensures.passes c.close-closed.result.receipts.items c.close-closed.ensures.receipts in
    let all : IsPermutation (joined parts) c.merge-history.result.items =
    subst (λ (rs : List Receipt). IsPermutation rs c.merge-history.result.items)
    (all_joined c.close-closed.result.receipts.items ∙ ap joined c.close-closed.ensures.receipts) c.merge-history.ensures.all in
    subst (λ (d : DatabaseView). Closes d.start c.args.passes.items c.merge-history.result.items c.after.result) c.self.view_is
    (closes p s start words values parts c.self.invariant.0.start e c.args.self c.args.passes.items c.merge-history.result.items c.after.result c.requires.all are all c.merge-history.ensures.in_order is)
