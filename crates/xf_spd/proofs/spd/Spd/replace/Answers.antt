use Rattle.std.proofs.Common.{◌≡◌, ℕ, List, sym, subst}
use Rattle.xf_types.specs.declared.policy.Policy.{Policy}
use Rattle.xf_types.specs.Machine.{Shown}
use Rattle.xf_types.specs.PolicyList.{is_same, without}
use Rattle.xf_index.specs.Finds.{Found}
use Rattle.xf_image.specs.Entries.{entries_without, with_policies}
use Rattle.xf_inexact.specs.Whole.{SpdStands}
use Rattle.xf_spd.specs.Changes.{IsAt}
use Rattle.xf_spd.proofs.Alone.{entry_of, same_alone, shorter_order}
use Rattle.xf_listing.proofs.Loading.{words_kept, answer_kept}
use Rattle.xf_spd.proofs.Removed.{gone_stands, gone_misses, kept_index, replaced_is}
use Rattle.xf_spd.proofs.spd.Spd.replace.Given as given
use Rattle.xf_spd.proofs.spd.Spd.replace.Goals as goal

-- what stands once the old policy is gone
left : (g : given.Over) (c : goal.After-list g) (s : Shown) (es : List (ℕ × Policy)) → IsAt s c.args.now → SpdStands c.args.self.now.area (g.C.Cells.words c.args.c.now) s es
    → Found (λ p. is_same p.spec c.args.spec.now) c.args.entry.now.slot c.args.entry.now.policy es
    → SpdStands c.args.self.now.area (g.C.Cells.words c.delist.new.c) (with_policies s (without (λ p. is_same p.spec c.args.spec.now) s.policies)) (entries_without (λ p. is_same p.spec c.args.spec.now) es)
left g c s es at stands f =
    gone_stands c.args.self.now.area (g.C.Cells.words c.args.c.now) (g.C.Cells.words c.delist.new.c) s (λ p. is_same p.spec c.args.spec.now) c.args.entry.now es stands
    (same_alone s c.args.spec.now at.policies) f (c.delist.ensures.delists s es (entry_of (λ p. is_same p.spec c.args.spec.now) c.args.entry.now es f) stands)

pub returns-clause-replaces : goal.returns-clause-replaces
returns-clause-replaces g c = λ s es at stands f.
    let a = c.args.self.now.area in
    let l = left g c s es at stands f in
    let w : g.C.Cells.words c.kept_word-word.new.l ≡ g.C.Cells.words c.delist.new.c =
    words_kept _ _ _ _ c.kept_word-word.ensures.among (g.met.C.Cells.only c.delist.new.c) (g.met.C.Cells.own c.kept_word-word.new.l) in
    let n = kept_index a (g.C.Cells.words c.delist.new.c) s _ _ c.kept_word-word.result at.range l
    (c.kept_word-word.ensures.answer _ (answer_kept _ _ _ _ c.kept_word-word.ensures.among (g.met.C.Cells.only c.delist.new.c) (g.met.C.Cells.own c.kept_word-word.new.l))) in
    replaced_is a (g.C.Cells.words c.list.new.c) s c.args.spec.now c.args.entry.now.policy c.args.entry.now.slot c.kept_word-word.result (entries_without (λ p. is_same p.spec c.args.spec.now) es) n
    (c.list.ensures.lists (with_policies s (without (λ p. is_same p.spec c.args.spec.now) s.policies)) (entries_without (λ p. is_same p.spec c.args.spec.now) es) at.number
    (shorter_order s (λ p. is_same p.spec c.args.spec.now) at.policies) at.time
    (subst (λ (i : List ℕ). SpdStands a i (with_policies s (without (λ p. is_same p.spec c.args.spec.now) s.policies)) (entries_without (λ p. is_same p.spec c.args.spec.now) es)) (sym w) l)
    (gone_misses a (g.C.Cells.words c.args.c.now) s (λ p. is_same p.spec c.args.spec.now) c.args.entry.now es stands (same_alone s c.args.spec.now at.policies) f))
