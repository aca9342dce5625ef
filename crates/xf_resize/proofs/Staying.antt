-- What stays where only the words of the doubling, or those and the chains, are written.
use Rattle.std.proofs.Common.{ℕ, ◌+◌, List, Option, Some, arith}
use Rattle.xf_types.specs.declared.state.Sa.{Sa}
use Rattle.xf_chain.specs.Lists.{Within}
use Rattle.xf_index.specs.Indexes.{slots_in, Indexed}
use Rattle.xf_index.proofs.Holds.{holds_kept}
use Rattle.xf_index.proofs.Stays.{indexed_apart}
use Rattle.xf_records.proofs.StateLaws.{state_frame}
use Rattle.xf_image.specs.Frames.{Frame}
use Rattle.xf_sadidx.specs.declared.area.StateArea.{StateArea}
use Rattle.xf_sadidx.specs.declared.kind.Kind.{Kind}
use Rattle.xf_sadidx.specs.Layout.{Fits, chains_of, chains_end, record_place, record_at, doubling_place}
use Rattle.xf_sadidx.specs.Standing.{RecordsStand}
use Rattle.xf_sadidx.proofs.Layouts.{chains_lay, chains_from}

-- the records lie behind the chains
pub records_kept : (a : StateArea) (i j : List ℕ) (first : ℕ) (entries : List (ℕ × Sa)) → Frame first (chains_end a) i j → Within a.slots (slots_in entries)
    → RecordsStand a i entries → RecordsStand a j entries
records_kept a i j first entries frame within records =
    holds_kept (λ slot. record_at a i slot) (λ slot. record_at a j slot) (λ s. Some s) a.slots entries
    (λ slot l. state_frame i j (record_place a slot) (λ q m n. frame.above q (omega (arith, m)))) within records

-- the words of the doubling lie before them
pub chains_kept : (a : StateArea) (i j : List ℕ) (size : ℕ) (kind : Kind) (key : Sa → Option ℕ) (entries : List (ℕ × Sa)) → Fits a size
    → Frame (doubling_place a) (doubling_place a + 2) i j → Indexed (chains_of a kind) i key entries → Indexed (chains_of a kind) j key entries
chains_kept a i j size kind key entries fits frame is =
    let from = chains_from a kind in
    indexed_apart (chains_of a kind) i j size key entries (chains_lay a kind size fits) (λ q h l. frame.above q (omega (arith, h, from))) is
