-- A change of the chains of all kinds, one kind after another.
use Rattle.std.proofs.Common.{ℕ, ◌+◌, List, Option, arith}
use Rattle.xf_types.specs.declared.state.Sa.{Sa}
use Rattle.xf_chain.specs.declared.family.Family.{Family}
use Rattle.xf_index.specs.Indexes.{Indexed}
use Rattle.xf_index.proofs.Stays.{indexed_apart}
use Rattle.xf_image.specs.Frames.{Frame}
use Rattle.xf_image.proofs.Written.{both, wider, nothing}
use Rattle.xf_sadidx.specs.declared.area.StateArea.{StateArea}
use Rattle.xf_sadidx.specs.declared.kind.Kind.{Kind}
use Rattle.xf_sadidx.specs.declared.kind.Kind.TheVariants.{Spi, Route, Seq}
use Rattle.xf_sadidx.specs.Layout.{Fits, chains_of, chains_start, chains_end}
use Rattle.xf_sadidx.proofs.Layouts.{chains_lay, chains_from, chains_to}

-- one family was changed: it is an index by this key of these entries, and no other word was written
pub record Turned (family : Family) (image words : List ℕ) (key : Sa → Option ℕ) (entries : List (ℕ × Sa)) : Type 0 where
  pub index : Indexed family words key entries
  pub frame : Frame family.heads (family.links + family.slots) image words

-- all kinds were
pub record AllTurned (a : StateArea) (image words : List ℕ) (key : Kind → Sa → Option ℕ) (entries : List (ℕ × Sa)) : Type 0 where
  pub index : (kind : Kind) → Indexed (chains_of a kind) words (key kind) entries
  pub frame : Frame (chains_start a) (chains_end a) image words

-- the words after a change of each kind
abbrev pub all_kinds : (Kind → List ℕ → List ℕ) → List ℕ → List ℕ
all_kinds change image = change Seq (change Route (change Spi image))

-- what the change of one kind makes, wherever the words of other chains stand
abbrev pub Turning : StateArea → (Kind → List ℕ → List ℕ) → List ℕ → (Kind → Sa → Option ℕ) → (Kind → Sa → Option ℕ) → List (ℕ × Sa) → List (ℕ × Sa) → Type 0
Turning a change first was is before after = (kind : Kind) (image : List ℕ) → Frame (chains_start a) (chains_end a) first image
    → Indexed (chains_of a kind) image (was kind) before → Turned (chains_of a kind) image (change kind image) (is kind) after

pub all_turned : (a : StateArea) (change : Kind → List ℕ → List ℕ) (first : List ℕ) (was is : Kind → Sa → Option ℕ) (before after : List (ℕ × Sa)) (size : ℕ)
    → Fits a size → Turning a change first was is before after
    → ((kind : Kind) → Indexed (chains_of a kind) first (was kind) before)
    → AllTurned a first (all_kinds change first) is after
all_turned a change first was is before after size fits turn index =
    let i : List ℕ = change Spi first in
    let j : List ℕ = change Route i in
    let k : List ℕ = change Seq j in
    let x : Turned (chains_of a Spi) first i (is Spi) after = turn Spi first (nothing (chains_start a) (chains_end a) first) (index Spi) in
    let fx = x.frame in
    let f1 : Frame (chains_start a) (chains_end a) first i = wider (chains_start a) (chains_end a) _ _ first i x.frame (chains_from a Spi) (chains_to a Spi) in
    let r1 : Indexed (chains_of a Route) i (was Route) before =
    indexed_apart (chains_of a Route) first i size (was Route) before (chains_lay a Route size fits) (λ q h l. fx.above q (omega (arith, h))) (index Route) in
    let s1 : Indexed (chains_of a Seq) i (was Seq) before =
    indexed_apart (chains_of a Seq) first i size (was Seq) before (chains_lay a Seq size fits) (λ q h l. fx.above q (omega (arith, h))) (index Seq) in
    let y : Turned (chains_of a Route) i j (is Route) after = turn Route i f1 r1 in
    let fy = y.frame in
    let f2 : Frame (chains_start a) (chains_end a) first j =
    both (chains_start a) (chains_end a) _ _ _ _ first i j f1 y.frame (omega arith) (chains_from a Route) (omega arith) (chains_to a Route) in
    let p2 : Indexed (chains_of a Spi) j (is Spi) after =
    indexed_apart (chains_of a Spi) i j size (is Spi) after (chains_lay a Spi size fits) (λ q h l. fy.below q (omega (arith, l))) x.index in
    let s2 : Indexed (chains_of a Seq) j (was Seq) before =
    indexed_apart (chains_of a Seq) i j size (was Seq) before (chains_lay a Seq size fits) (λ q h l. fy.above q (omega (arith, h))) s1 in
    let z : Turned (chains_of a Seq) j k (is Seq) after = turn Seq j f2 s2 in
    let fz = z.frame in
    let p3 : Indexed (chains_of a Spi) k (is Spi) after =
    indexed_apart (chains_of a Spi) j k size (is Spi) after (chains_lay a Spi size fits) (λ q h l. fz.below q (omega (arith, l))) p2 in
    let r3 : Indexed (chains_of a Route) k (is Route) after =
    indexed_apart (chains_of a Route) j k size (is Route) after (chains_lay a Route size fits) (λ q h l. fz.below q (omega (arith, l))) y.index in
    record {
      index = each p3 r3 z.index;
      frame = both (chains_start a) (chains_end a) _ _ _ _ first j k f2 z.frame (omega arith) (chains_from a Seq) (omega arith) (chains_to a Seq);
    }
  where
    each : {words : List ℕ} → Indexed (chains_of a Spi) words (is Spi) after → Indexed (chains_of a Route) words (is Route) after → Indexed (chains_of a Seq) words (is Seq) after
        → (kind : Kind) → Indexed (chains_of a kind) words (is kind) after
    each p r s Spi = p
    each p r s Route = r
    each p r s Seq = s
