use Rattle.std.proofs.Common.{◌≡◌, ℕ, List, [], ◌∷◌, ap, sym, ◌∙◌, subst, rules}
use Rattle.xf_chain.specs.declared.chain.Chain.{Chain}
use Rattle.xf_chain.specs.declared.family.Family.{Family}
use Rattle.xf_chain.specs.Chains.{Below, slots_from, slots_of}
use Rattle.xf_chain.specs.Families.{chain_at}
use Rattle.xf_image.specs.Frames.{Frame}
use Rattle.xf_image.specs.Layout.{back_of, end_of}
use Rattle.xf_inexact.specs.Holds.{HoldPart}
use Rattle.xf_inexact.specs.Whole.{SpdStands, WholeFits, trees_of, whole_end}
use Rattle.xf_listing.proofs.Loading.{words_kept}
use Rattle.xf_listing.proofs.Planted.{PlantsOne, plants_begin, plants_one, plants_end, walk_stays}
use Rattle.xf_listing.proofs.Wholes.{trees_written, trees_twice}
use Rattle.xf_listing.proofs.listing.Listing.plant_all.Goals as goal

pub slots-init : goal.slots-init
slots-init g c =
    let a = c.args.self.now.area in
    let image : List ℕ = g.C.Cells.words c.args.c.now in
    let words : List ℕ = g.C.Cells.words c.start-walk.new.l in
    let w : words ≡ g.C.Cells.words c.empty_trees.new.c =
    words_kept _ _ _ _ c.start-walk.ensures.among (g.met.C.Cells.only c.empty_trees.new.c) (g.met.C.Cells.own c.start-walk.new.l) in
    let chain : c.chain-chain.result ≡ chain_at (back_of a) 0 = c.chain-chain.ensures.chain ∙ ap (λ (f : Family). chain_at f 0) c.back.ensures.is in
    let f : Frame (end_of a) (whole_end a) image words = subst (λ (i : List ℕ). Frame (end_of a) (whole_end a) image i) (sym w) c.empty_trees.ensures.frame in
    record {
      size = search rules;
      begun = search rules;
      rest = search rules;
      below = search rules;
      frame = f;
      planted = λ s es stands.
          plants_begin a words _ s es
          (c.start-walk.ensures.ahead _ (g.met.C.Cells.own c.start-walk.new.l) ∙ ap (λ (k : Chain). slots_of k words) chain)
          (trees_written a image words (g.C.Load.size c.args.c.now) s es c.requires.fits f stands)
          (subst (λ (i : List ℕ). HoldPart (trees_of a) i s.hthresh4 s.hthresh6 []) (sym w) (c.empty_trees.ensures.entries s.hthresh4 s.hthresh6));
    }

pub slots-preserved : goal.slots-preserved
slots-preserved g c =
    let a = c.args.self.now.area in
    let image : List ℕ = g.C.Cells.words c.slots.c in
    let words : List ℕ = g.C.Cells.words c.plant_one.new.c in
    let chain : c.chain-chain.result ≡ chain_at (back_of a) 0 = c.chain-chain.ensures.chain ∙ ap (λ (f : Family). chain_at f 0) c.back.ensures.is in
    let w : g.C.Cells.words c.step.new.l ≡ image =
    words_kept _ _ _ _ c.step.ensures.among (g.met.C.Cells.only c.slots.c) (g.met.C.Cells.own c.step.new.l) in
    let ahead : slots_from c.chain-chain.result image c.slots.walk.left c.slots.walk.at ≡ c.in-Some.slot ∷ slots_from c.chain-chain.result image c.step.new.self.left c.step.new.self.at =
    subst (λ (i : List ℕ). slots_from c.chain-chain.result i c.slots.walk.left c.slots.walk.at ≡ c.in-Some.slot ∷ slots_from c.chain-chain.result i c.step.new.self.left c.step.new.self.at) w
    (c.in-Some.ensures.ahead _ (g.met.C.Cells.own c.step.new.l)) in
    let f : Frame (end_of a) (whole_end a) image words = subst (λ (i : List ℕ). Frame (end_of a) (whole_end a) i words) w c.plant_one.ensures.frame in
    let fits : WholeFits a (g.C.Load.size c.slots.c) = search rules in
    let below : Below a.slots c.step.new.self.at = search rules in
    let stays : slots_from c.chain-chain.result words c.step.new.self.left c.step.new.self.at ≡ slots_from c.chain-chain.result image c.step.new.self.left c.step.new.self.at =
    walk_stays a image words c.chain-chain.result c.step.new.self.left c.step.new.self.at chain f below in
    record {
      size = search rules;
      begun = search rules;
      rest = search rules;
      below = search rules;
      frame = trees_twice a (g.C.Cells.words c.args.c.now) image words c.slots.invariant.frame f;
      planted = λ s es stands.
          plants_one a image words _ _ (g.C.Load.size c.slots.c) c.in-Some.slot s es fits f
          (subst (λ (i : List ℕ). PlantsOne a i words c.in-Some.slot) w c.plant_one.ensures.entries)
          (ahead ∙ ap (λ (xs : List ℕ). c.in-Some.slot ∷ xs) (sym stays)) (c.slots.invariant.planted s es stands);
    }

pub returns-clause-plants : goal.returns-clause-plants
returns-clause-plants g c = λ s es stands.
    let a = c.args.self.now.area in
    let w : g.C.Cells.words c.step.new.l ≡ g.C.Cells.words c.slots.c =
    words_kept _ _ _ _ c.step.ensures.among (g.met.C.Cells.only c.slots.c) (g.met.C.Cells.own c.step.new.l) in
    let e : slots_from c.chain-chain.result (g.C.Cells.words c.slots.c) c.slots.walk.left c.slots.walk.at ≡ [] =
    subst (λ (i : List ℕ). slots_from c.chain-chain.result i c.slots.walk.left c.slots.walk.at ≡ []) w (c.in_default.ensures.ahead _ (g.met.C.Cells.own c.step.new.l)) in
    subst (λ (i : List ℕ). SpdStands a i s es) (sym w)
    (plants_end a (g.C.Cells.words c.slots.c) _ s es e (c.slots.invariant.planted s es stands))

pub returns-clause-frame : goal.returns-clause-frame
returns-clause-frame g c =
    let a = c.args.self.now.area in
    let w : g.C.Cells.words c.step.new.l ≡ g.C.Cells.words c.slots.c =
    words_kept _ _ _ _ c.step.ensures.among (g.met.C.Cells.only c.slots.c) (g.met.C.Cells.own c.step.new.l) in
    subst (λ (i : List ℕ). Frame (end_of a) (whole_end a) (g.C.Cells.words c.args.c.now) i) (sym w) c.slots.invariant.frame
