use Rattle.std.proofs.Common.{◌≡◌, ℕ, ◌+◌, ◌-◌, length, List, Some, refl, ap, ◌∙◌, sym, arith}
use Rattle.std.specs.Prelude.{replicate}
use Rattle.std.proofs.lemmas.List.{length-map}
use Rattle.xf_views.specs.Starts.{first_numbers}
use Rattle.xf_table.specs.declared.rule.Key.{Key}
use Rattle.xf_table.specs.Rule.{laid, four}
use Rattle.xf_table.specs.Ends.{start_from}
use Rattle.xf_table.proofs.Beginnings.{told_so, made_ruled, length_laid}
use Rattle.xf_table.proofs.Rows.{values_same}
use Rattle.xf_table.proofs.opening.open.Goals as goal

pub new-requires : goal.new-requires
new-requires g c =
    let values = c.args.values.items in
    let words = c.args.words.now.items in
    let ok = c.args.values.ok in
    let low = c.requires.sizes.1 in
    let policies = c.from-2.ensures in
    let policies_too = c.from-3.ensures in
    let slots = c.len-slots.ensures in
    let states : c.len-slots.result - c.from-3.result ≡ length values - c.args.policies = omega arith in
    let size : c.len-slots.result ≡ c.args.policies + (length values - c.args.policies) = omega arith in
    let row = c.as_slice-2.ensures.value ∙ (c.in-Ok.ensures ∙ (ap (λ (l : List ℕ). laid (four first_numbers) (replicate c.args.seats 0) l (replicate c.len-slots.result 0)) c.as_slice.ensures.value
    ∙ ap (λ n. laid (four first_numbers) (replicate c.args.seats 0) words (replicate n 0)) size)) in
    let key : Key g.row.T.Denot = record { seats = c.from.result; policies = c.from-2.result; states = c.len-slots.result - c.from-3.result; words = c.of.result; values = c.of-2.result } in
    made_ruled g.T.Meaning.bucket_of g.T.Meaning.good g.T.Meaning.lists g.T.Meaning.machine g.T.Stands.standing g.T.Meaning.listing key
    (start_from g.T.Stands.standing c.args.seats words values c.args.policies)
    (told_so g.T.Stands.standing key c.args.seats words values c.args.policies c.from.ensures policies states (ap (λ v. v.items) c.of.ensures) (ap (λ v. v.items) c.of-2.ensures))
    c.requires.opened _ _ values refl row c.dress-homes.ensures.homes

pub invariant_of-result : goal.invariant_of-result
invariant_of-result g c =
    let made = c.in-Ok-new.ensures.ok in
    let key = made.5 in
    let values_ok = c.args.values.ok in
    let words_ok = c.args.words.now.ok in
    let low = c.requires.sizes.1 in
    let few = c.requires.sizes.0 in
    let seats = c.ranges.seats.fits in
    let room = c.requires.opened.words in
    let count = c.len.ensures in
    let slots = c.len-slots.ensures in
    let policies = c.from-2.ensures in
    let policies_too = c.from-3.ensures in
    let row = ap length (c.as_slice-2.ensures.value ∙ c.in-Ok.ensures) ∙ length_laid first_numbers c.args.seats c.as_slice.result.now c.len-slots.result in
    let image = ap length c.as_slice.ensures.value in
    let homes = ap length c.dress-homes.ensures.homes ∙ length-map c.args.values.items Some in
    let words_made = made.0 in
    let slots_made = made.1 in
    record {
      seats_are = ap (λ (k : Key g.row.T.Denot). k.seats) key ∙ c.from.ensures;
      count_is = ap (λ (k : Key g.row.T.Denot). length k.words.value.items) key ∙ (ap (λ v. length v.items) c.of.ensures ∙ (sym words_ok.0 ∙ sym count));
      slots_are = ap (λ (k : Key g.row.T.Denot). k.policies + k.states) key ∙ (omega arith);
      words_are = omega arith;
      values_are = omega arith;
      fits = omega arith;
    }

pub returns-clause-refused : goal.returns-clause-refused
returns-clause-refused g c =
    values_same c.undress.result.items c.args.values.items (sym c.undress.ensures ∙ (c.in-Err.ensures.err ∙ c.dress-homes.ensures.homes))
