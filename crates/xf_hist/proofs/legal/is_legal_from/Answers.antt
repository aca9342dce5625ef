use Rattle.std.proofs.Common.{rules, ◌≡◌, true, false, ap, sym, ◌∙◌}
use Rattle.std.specs.Prelude.{Ok}
use Rattle.std.proofs.lemmas.Bool.{true≢false}
use Rattle.xf_hist.proofs.Histories.{stops, goes-on}
use Rattle.xf_hist.proofs.legal.is_legal_from.Goals as goal

pub returns-then-not-branch : goal.returns-then-not-branch
returns-then-not-branch c =
    let no : c.in_ok-goes_on.field-0 ≡ false = search rules in (
      λ h. absurd (true≢false (sym h)),
      λ legal. absurd (stops c.args.start c.args.list.now c.loop-place.place c.index-list-place.result _ (search rules) c.index-list-place.is
          c.loop-place.invariant.moment (λ may. true≢false (sym (c.in_ok-goes_on.ensures.legal.1 may) ∙ no)) legal),
    )

pub loop-place-preserved : goal.loop-place-preserved
loop-place-preserved c =
    let yes : c.in_ok-goes_on.field-0 ≡ true = search rules in
    let both = goes-on c.args.start c.args.list.now c.loop-place.place c.index-list-place.result c.loop-place.moment c.goes_on.new.self (search rules) c.index-list-place.is
    c.loop-place.invariant.legal c.loop-place.invariant.moment (c.in_ok-goes_on.ensures.legal.0 yes) (c.in_ok-goes_on.ensures.next (ap (λ b. Ok b) yes)) in
    record {
      legal = both.0;
      moment = both.1;
      early = search rules;
    }
