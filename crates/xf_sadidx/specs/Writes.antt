-- What is written where a state comes into its chains, and where it leaves them. The areas are written in the order in which they lie.
use Rattle.std.specs.Prelude.{ℕ, List, Option, None}
use Rattle.xf_types.specs.declared.state.Sa.{Sa}
use Rattle.xf_chain.specs.Families.{put_in, taken_out}
use Rattle.xf_image.specs.Placing.{before_in}
use Rattle.xf_doubling.specs.declared.doubling.Doubling.{Doubling}
use Rattle.xf_sadidx.specs.declared.area.StateArea.{StateArea}
use Rattle.xf_sadidx.specs.declared.kind.Kind.{Kind}
use Rattle.xf_sadidx.specs.declared.kind.Kind.TheVariants.{Spi, Route, Seq}
use Rattle.xf_sadidx.specs.Layout.{chains_of}
use Rattle.xf_sadidx.specs.Standing.{head_by}

-- a slot at the front of its state's chain of a kind
abbrev pub put_kind : StateArea → Doubling → Sa → ℕ → Kind → List ℕ → List ℕ
put_kind a d s slot kind image = put_in (chains_of a kind) image (head_by d.half d.moved kind s) None slot

-- of each kind
abbrev pub put_all : StateArea → Doubling → Sa → ℕ → List ℕ → List ℕ
put_all a d s slot image = put_kind a d s slot Seq (put_kind a d s slot Route (put_kind a d s slot Spi image))

-- the slot before it in its state's chain of a kind
abbrev pub place_in : StateArea → Doubling → Sa → ℕ → List ℕ → Kind → Option ℕ
place_in a d s slot image kind = before_in image slot (chains_of a kind) (head_by d.half d.moved kind s)

-- a slot out of its state's chain of a kind, in which it stands after another
abbrev pub take_kind : StateArea → Doubling → Sa → ℕ → Kind → Option ℕ → List ℕ → List ℕ
take_kind a d s slot kind after image = taken_out (chains_of a kind) image (head_by d.half d.moved kind s) after slot

-- out of each kind: all places are found before
abbrev pub take_all : StateArea → Doubling → Sa → ℕ → List ℕ → List ℕ
take_all a d s slot image =
    take_kind a d s slot Seq (place_in a d s slot image Seq)
    (take_kind a d s slot Route (place_in a d s slot image Route) (take_kind a d s slot Spi (place_in a d s slot image Spi) image))
