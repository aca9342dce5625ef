use Rattle.std.proofs.Common.{◌≡◌, ◌+◌, ◌++◌, Bool, ap, sym, ◌∙◌, subst, length, map, take, drop, List}
use Rattle.std.proofs.Math.Seq.{take-append_seam}
use Rattle.xf_held.specs.View.{HeldView}
use Rattle.xf_states.specs.Spis.{AreFlags, IsSet}
use Rattle.xf_states.proofs.FreeSpis.{AreFlags-more}
use Rattle.xf_states.proofs.spis.flags.Goals as goal

pub loop-one-preserved : goal.loop-one-preserved
loop-one-preserved c =
    let flags = c.set_flag.new.taken in
    let long : length flags ≡ c.loop-one.taken.len = c.set_flag.ensures.count ∙ c.deref_mut.ensures.len in
    let whole : take c.loop-one.taken.len (flags ++ drop (length flags) c.loop-one.taken.items) ≡ flags =
    ap (λ n. take n (flags ++ drop (length flags) c.loop-one.taken.items)) (sym long)
    ∙ take-append_seam flags (drop (length flags) c.loop-one.taken.items)
    in
    record {
      count = ap (length {A = Bool}) whole ∙ c.set_flag.ensures.count ∙ ap (length {A = Bool}) c.deref_mut.ensures.value ∙ c.loop-one.invariant.count;
      flags =
          subst (AreFlags c.args.spec.now (take (c.loop-one.one-index + 1) (map (λ (h : HeldView). h.state) c.args.held.now))) (sym whole)
          (AreFlags-more c.args.spec.now c.args.held.now c.loop-one.one-index c.one-item.result c.state.result.now
          c.loop-one.taken.items flags c.loop-one-test.true c.one-item.is c.state.ensures
          (subst (λ (old : List Bool). IsSet c.args.spec.now c.state.result.now old flags) c.deref_mut.ensures.value c.set_flag.ensures)
          c.loop-one.invariant.flags);
    }
