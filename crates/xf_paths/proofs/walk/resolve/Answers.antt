use Rattle.std.proofs.Common.{arith, ◌≡◌, ap, sym, ◌∙◌, ◌++◌, ◌∷◌, [], length-append}
use Rattle.std.specs.Prelude.{option_copied}
use Rattle.std.proofs.lemmas.List.{drop_all}
use Rattle.xf_types.specs.declared.call.Hop.{Hop}
use Rattle.xf_types.specs.Resolution.{hop_of}
use Rattle.xf_paths.proofs.Walks.{walk-hop, walk-skipped, walk-missing, walk-through}
use Rattle.xf_paths.proofs.walk.resolve.Goals.{in-Some, in-None+else-not-is_optional}
use Rattle.xf_paths.proofs.walk.resolve.Goals as goal

pub returns-then-not-is_optional : goal.returns-then-not-is_optional
returns-then-not-is_optional c =
    c.wait_or_want.ensures
    ∙ walk-missing c.args.states.now c.args.flow.now c.args.templates.now c.loop-place.place c.loop-place.src
    c.loop-place.dst _ c.new-stage.result c.loop-place.hops.items _ c.loop-place-test.true c.new-stage.ensures
    (sym (ap option_copied c.in-None.is) ∙ c.find_best.ensures)
    (sym c.is_optional.ensures ∙ c.if-not-is_optional.true) c.loop-place.invariant.so_far

pub loop-place-preserved : goal.loop-place-preserved
loop-place-preserved c =
    elim c.match-find_best.branch [
      | in-Some w ↦
          let hops : c.match-find_best.hops.items ≡ c.loop-place.hops.items ++ hop_of w.in-Some.state.now ∷ [] =
          ap (λ v. v.items) w.hops-is ∙ w.push.ensures.items ∙ ap (λ (h : Hop). c.loop-place.hops.items ++ h ∷ []) w.hop_of.ensures
          in
          record {
            room = rw hops (omega (arith, c.loop-place.invariant.room, length-append c.loop-place.hops.items (hop_of w.in-Some.state.now ∷ [])));
            so_far = rw (hops, w.src-is, w.dst-is)
                (walk-hop c.args.states.now c.args.flow.now c.args.templates.now c.loop-place.place c.loop-place.src
                c.loop-place.dst _ c.new-stage.result c.loop-place.hops.items w.in-Some.state.now _ c.loop-place-test.true
                c.new-stage.ensures (sym (ap option_copied w.in-Some.is) ∙ c.find_best.ensures) c.loop-place.invariant.so_far);
          }
      | in-None+else-not-is_optional w ↦
          record {
            room = rw w.hops-is (omega (arith, c.loop-place.invariant.room));
            so_far = rw (w.hops-is, w.src-is, w.dst-is)
                (walk-skipped c.args.states.now c.args.flow.now c.args.templates.now c.loop-place.place c.loop-place.src
                c.loop-place.dst _ c.new-stage.result c.loop-place.hops.items _ c.loop-place-test.true c.new-stage.ensures
                (sym (ap option_copied w.in-None.is) ∙ c.find_best.ensures)
                (sym w.is_optional.ensures ∙ w.if-not-is_optional.false) c.loop-place.invariant.so_far);
          }
    ]

pub returns : goal.returns
returns c =
    walk-through c.args.states.now c.args.flow.now c.args.templates.now c.loop-place.place c.loop-place.src c.loop-place.dst
    c.loop-place.hops.items _ (drop_all _ _ c.loop-place-test.false) c.loop-place.invariant.so_far
