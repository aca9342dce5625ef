use Rattle.std.proofs.Common.{◌≡◌, ℕ, List, [], ◌∷◌, ap, ◌∙◌, subst, rules}
use Rattle.xf_chain.specs.declared.family.Family.{Family}
use Rattle.xf_chain.specs.Chains.{slots_from}
use Rattle.xf_chain.specs.Families.{chain_at}
use Rattle.xf_image.specs.Layout.{Fits}
use Rattle.xf_image.specs.Readings.{hthresh4_in, hthresh6_in}
use Rattle.xf_image.specs.Writes.{cleared, moved}
use Rattle.xf_image.proofs.Walking.{walk_begins, walk_goes, walk_ends}
use Rattle.xf_listing.proofs.Loading.{words_kept}
use Rattle.xf_listing.proofs.Wholes.{list_fits}
use Rattle.xf_listing.proofs.Settled.{cleared_tells4, cleared_tells6, moved_tells4, moved_tells6}
use Rattle.xf_listing.proofs.listing.Listing.move_exact.Goals as goal

pub slots-init : goal.slots-init
slots-init g c =
    let a = c.args.self.now.area in
    let w : g.C.Cells.words c.start-walk.new.l ≡ cleared a (g.C.Cells.words c.args.c.now) c.args.h4 c.args.h6 =
    words_kept _ _ _ _ c.start-walk.ensures.among (g.met.C.Cells.only c.clear.new.c) (g.met.C.Cells.own c.start-walk.new.l)
    ∙ (c.clear.ensures.words ∙ ap (λ (i : List ℕ). cleared a i c.args.h4 c.args.h6) c.begin.ensures.words) in
    record {
      size = search rules;
      begun = search rules;
      rest = search rules;
      below = search rules;
      v4 = ap (λ (i : List ℕ). hthresh4_in a i) w
          ∙ cleared_tells4 a (g.C.Cells.words c.args.c.now) _ c.args.h4 c.args.h6 (list_fits a _ c.requires.fits) (g.met.C.Cells.all c.args.c.now) c.requires.local4 c.requires.remote4;
      v6 = ap (λ (i : List ℕ). hthresh6_in a i) w
          ∙ cleared_tells6 a (g.C.Cells.words c.args.c.now) _ c.args.h4 c.args.h6 (list_fits a _ c.requires.fits) (g.met.C.Cells.all c.args.c.now) c.requires.local6 c.requires.remote6;
      words = walk_begins a c.args.h4 c.args.h6 (g.C.Cells.words c.args.c.now) (g.C.Cells.words c.start-walk.new.l) c.chain-chain.result _ _
          (c.chain-chain.ensures.chain ∙ ap (λ (f : Family). chain_at f 0) c.back.ensures.is) w
          (c.start-walk.ensures.ahead _ (g.met.C.Cells.own c.start-walk.new.l));
    }

pub slots-preserved : goal.slots-preserved
slots-preserved g c =
    let a = c.args.self.now.area in
    let w : g.C.Cells.words c.step.new.l ≡ g.C.Cells.words c.slots.c =
    words_kept _ _ _ _ c.step.ensures.among (g.met.C.Cells.only c.slots.c) (g.met.C.Cells.own c.step.new.l) in
    let s : slots_from c.chain-chain.result (g.C.Cells.words c.step.new.l) c.slots.walk.left c.slots.walk.at ≡ c.in-Some.slot ∷ slots_from c.chain-chain.result (g.C.Cells.words c.step.new.l) c.step.new.self.left c.step.new.self.at =
    c.in-Some.ensures.ahead _ (g.met.C.Cells.own c.step.new.l) in
    let f : Fits a (g.C.Load.size c.slots.c) = list_fits a (g.C.Load.size c.slots.c) (search rules) in
    let m : g.C.Cells.words c.move_one.new.c ≡ moved a c.args.h4 c.args.h6 (g.C.Cells.words c.slots.c) c.in-Some.slot =
    c.move_one.ensures.words
    ∙ (ap (λ (i : List ℕ). moved a (hthresh4_in a i) (hthresh6_in a i) i c.in-Some.slot) w
    ∙ (ap (λ (h4 : ℕ × ℕ). moved a h4 (hthresh6_in a (g.C.Cells.words c.slots.c)) (g.C.Cells.words c.slots.c) c.in-Some.slot) c.slots.invariant.v4
    ∙ ap (λ (h6 : ℕ × ℕ). moved a c.args.h4 h6 (g.C.Cells.words c.slots.c) c.in-Some.slot) c.slots.invariant.v6)) in
    record {
      size = search rules;
      begun = search rules;
      rest = search rules;
      below = search rules;
      v4 = ap (λ (i : List ℕ). hthresh4_in a i) m
          ∙ (moved_tells4 a c.args.h4 c.args.h6 (g.C.Cells.words c.slots.c) _ c.in-Some.slot f (search rules) ∙ c.slots.invariant.v4);
      v6 = ap (λ (i : List ℕ). hthresh6_in a i) m
          ∙ (moved_tells6 a c.args.h4 c.args.h6 (g.C.Cells.words c.slots.c) _ c.in-Some.slot f (search rules) ∙ c.slots.invariant.v6);
      words = walk_goes a c.args.h4 c.args.h6 (g.C.Cells.words c.slots.c) (g.C.Cells.words c.move_one.new.c) _ _ c.in-Some.slot _ _ _ _ c.chain-chain.result
          (c.chain-chain.ensures.chain ∙ ap (λ (f : Family). chain_at f 0) c.back.ensures.is) f (search rules) (search rules) m
          (subst (λ (i : List ℕ). slots_from c.chain-chain.result i c.slots.walk.left c.slots.walk.at ≡ c.in-Some.slot ∷ slots_from c.chain-chain.result i c.step.new.self.left c.step.new.self.at) w s)
          c.slots.invariant.words;
    }

pub returns-clause-words : goal.returns-clause-words
returns-clause-words g c =
    let a = c.args.self.now.area in
    let w : g.C.Cells.words c.step.new.l ≡ g.C.Cells.words c.slots.c =
    words_kept _ _ _ _ c.step.ensures.among (g.met.C.Cells.only c.slots.c) (g.met.C.Cells.own c.step.new.l) in
    let s : slots_from c.chain-chain.result (g.C.Cells.words c.step.new.l) c.slots.walk.left c.slots.walk.at ≡ [] = c.in_default.ensures.ahead _ (g.met.C.Cells.own c.step.new.l) in
    w ∙ walk_ends a c.args.h4 c.args.h6 (g.C.Cells.words c.slots.c) _ _
    (subst (λ (i : List ℕ). slots_from c.chain-chain.result i c.slots.walk.left c.slots.walk.at ≡ []) w s) c.slots.invariant.words
