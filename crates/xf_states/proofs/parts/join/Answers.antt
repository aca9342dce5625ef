use Rattle.std.proofs.Common.{rules, arith, ◌≡◌, length, List, [], ◌∷◌, map, refl, sym, ap, ◌∙◌}
use Rattle.std.proofs.lemmas.Iterator.Adapters.{YieldsList-from_vec}
use Rattle.std.proofs.lemmas.Iterator.Consumers.{YieldsList-turn, YieldsList-end}
use Rattle.xf_states.specs.Table.{zipped}
use Rattle.xf_states.proofs.Joined.{next-place, next-fits, next-zipped}
use Rattle.xf_states.proofs.parts.join.Goals as goal

map-same : {X : Type 0} (xs : List X) → map (λ (x : X). x) xs ≡ xs
map-same [] = refl
map-same (x ∷ xs) = ap (λ ys. x ∷ ys) (map-same xs)

pub offset_bounds-states-len : goal.offset_bounds-states-len
offset_bounds-states-len c =
    let given = c.into_iter-own-iterator.ensures.into_iter_gives in
    let turn = YieldsList-turn (YieldsList-from_vec {s = c.into_iter-own-iterator.result} c.args.own.items given.0 (given.1 ∙ c.args.own.ok.0)) c.loop-own.yielded _ c.loop-own.yielded_by c.next.result c.next.new.self c.in-Some.own c.in-Some.is c.next.ensures.steps in
    let place = next-place c.args.states.now c.args.own.items c.loop-own.yielded c.loop-own.held.items c.len.result c.requires.fits (c.len.ensures ∙ c.loop-own.held.ok.0) c.loop-own.invariant.items turn.0 in
    search rules

pub bounds-states-len : goal.bounds-states-len
bounds-states-len c =
    let given = c.into_iter-own-iterator.ensures.into_iter_gives in
    let turn = YieldsList-turn (YieldsList-from_vec {s = c.into_iter-own-iterator.result} c.args.own.items given.0 (given.1 ∙ c.args.own.ok.0)) c.loop-own.yielded _ c.loop-own.yielded_by c.next.result c.next.new.self c.in-Some.own c.in-Some.is c.next.ensures.steps in
    let place = next-place c.args.states.now c.args.own.items c.loop-own.yielded c.loop-own.held.items c.len.result c.requires.fits (c.len.ensures ∙ c.loop-own.held.ok.0) c.loop-own.invariant.items turn.0 in
    place.1

pub put-requires : goal.put-requires
put-requires c =
    let given = c.into_iter-own-iterator.ensures.into_iter_gives in
    let turn = YieldsList-turn (YieldsList-from_vec {s = c.into_iter-own-iterator.result} c.args.own.items given.0 (given.1 ∙ c.args.own.ok.0)) c.loop-own.yielded _ c.loop-own.yielded_by c.next.result c.next.new.self c.in-Some.own c.in-Some.is c.next.ensures.steps in
    let place = next-place c.args.states.now c.args.own.items c.loop-own.yielded c.loop-own.held.items c.len.result c.requires.fits (c.len.ensures ∙ c.loop-own.held.ok.0) c.loop-own.invariant.items turn.0 in
    let at : c.len.result ≡ length c.loop-own.held.items = c.len.ensures ∙ c.loop-own.held.ok.0 in
    record {
      room = omega (arith, place.1, c.requires.room, c.loop-own.invariant.capacity, at);
      fits = next-fits c.args.states.now c.args.own.items c.loop-own.yielded c.len.result c.index-states-len.result c.in-Some.own c.requires.fits place.0 turn.0 (search rules) turn.1;
    }

pub loop-own-preserved : goal.loop-own-preserved
loop-own-preserved c =
    let given = c.into_iter-own-iterator.ensures.into_iter_gives in
    let turn = YieldsList-turn (YieldsList-from_vec {s = c.into_iter-own-iterator.result} c.args.own.items given.0 (given.1 ∙ c.args.own.ok.0)) c.loop-own.yielded _ c.loop-own.yielded_by c.next.result c.next.new.self c.in-Some.own c.in-Some.is c.next.ensures.steps in
    let place = next-place c.args.states.now c.args.own.items c.loop-own.yielded c.loop-own.held.items c.len.result c.requires.fits (c.len.ensures ∙ c.loop-own.held.ok.0) c.loop-own.invariant.items turn.0 in
    record {
      items = next-zipped c.args.states.now c.loop-own.yielded c.loop-own.held.items _ c.len.result c.index-states-len.result c.in-Some.own c.loop-own.invariant.items place.0 place.1 (search rules) c.put.ensures.items;
      capacity = omega (arith, c.put.ensures.capacity, c.loop-own.invariant.capacity);
    }

pub returns : goal.returns
returns c =
    let given = c.into_iter-own-iterator.ensures.into_iter_gives in
    let all = YieldsList-end (YieldsList-from_vec {s = c.into_iter-own-iterator.result} c.args.own.items given.0 (given.1 ∙ c.args.own.ok.0)) c.loop-own.yielded _ c.loop-own.yielded_by c.next.result c.next.new.self c.in-None.is c.next.ensures.steps in
    c.loop-own.invariant.items ∙ ap (zipped c.args.states.now) (sym (map-same c.loop-own.yielded) ∙ all.0)
