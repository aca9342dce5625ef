-- What is written where the heads are doubled, and where an old head is split.
use Rattle.std.specs.Prelude.{ℕ, ◌+◌, ◌-◌, min, List, Option, slice_index, slice_set}
use Rattle.xf_doubling.specs.declared.doubling.Doubling.{Doubling}
use Rattle.xf_doubling.specs.Splits.{split_of}
use Rattle.xf_sadidx.specs.declared.area.StateArea.{StateArea}
use Rattle.xf_sadidx.specs.declared.kind.Kind.{Kind}
use Rattle.xf_sadidx.specs.declared.kind.Kind.TheVariants.{Spi, Route, Seq}
use Rattle.xf_sadidx.specs.Keys.{key_at}
use Rattle.xf_sadidx.specs.Layout.{chains_of, doubling_place, doubling_in, record_place}

-- a doubling more, of which no old head is split
abbrev pub grown : StateArea → List ℕ → List ℕ
grown a image =
    slice_set (slice_set image (doubling_place a) (min (slice_index image (doubling_place a)) 9 + 1)) (doubling_place a + 1)
    ((doubling_in a image).half + (doubling_in a image).half)

-- the hash of the state in a slot, of a kind, by the words of its record
abbrev pub slot_key : StateArea → Kind → List ℕ → ℕ → Option ℕ
slot_key a kind image slot = key_at image (record_place a slot) kind

-- the next old head of a kind split
abbrev pub split_kind : StateArea → Doubling → Kind → List ℕ → List ℕ
split_kind a d kind image = split_of (chains_of a kind) d.half d.moved (slot_key a kind) image

-- of each kind
abbrev pub split_all : StateArea → Doubling → List ℕ → List ℕ
split_all a d image = split_kind a d Seq (split_kind a d Route (split_kind a d Spi image))

-- and one less to split
abbrev pub advanced : StateArea → List ℕ → List ℕ
advanced a image =
    slice_set (split_all a (doubling_in a image) image) (doubling_place a + 1) ((doubling_in a image).half - ((doubling_in a image).moved + 1))
