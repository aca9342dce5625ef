-- What the walk along a chain finds, in any image, and which states it is.
use Rattle.std.specs.Prelude.{ℕ, Bool, List, Option, find, filter, length, reverse}
use Rattle.xf_types.specs.declared.state.Sa.{Sa}
use Rattle.xf_chain.specs.declared.chain.Chain.{Chain}
use Rattle.xf_chain.specs.Chains.{slots_of}
use Rattle.xf_chain.specs.Families.{chain_at}
use Rattle.xf_index.specs.Indexes.{records_in}
use Rattle.xf_index.specs.Finds.{found_in}
use Rattle.xf_doubling.specs.Heads.{head_number, old_count, in_bucket}
use Rattle.xf_sadidx.specs.declared.area.StateArea.{StateArea}
use Rattle.xf_sadidx.specs.declared.kind.Kind.{Kind}
use Rattle.xf_sadidx.specs.declared.query.StateQuery.{StateQuery}
use Rattle.xf_sadidx.specs.Layout.{chains_of, doubling_in}
use Rattle.xf_sadidx.specs.Keys.{key_of}
use Rattle.xf_sadidx.specs.Queries.{meets_in}

-- the chain of a hash
abbrev pub hash_chain : StateArea → List ℕ → Kind → ℕ → Chain
hash_chain a image kind hash = chain_at (chains_of a kind) (head_number (doubling_in a image).half (doubling_in a image).moved hash)

-- the first slot of a chain whose state is what is asked for
abbrev pub found_on : StateArea → List ℕ → StateQuery → Chain → Option ℕ
found_on a image query chain = find (meets_in a image query) (slots_of chain image)

-- the last entry whose state passes a test
abbrev pub latest_in : (Sa → Bool) → List (ℕ × Sa) → Option (ℕ × Sa)
latest_in test entries = found_in test (reverse entries)

-- how many of the states have a hash that is equal by the count of heads, or by the old one
abbrev pub bucket_size : StateArea → List ℕ → Kind → ℕ → List (ℕ × Sa) → ℕ
bucket_size a image kind hash entries =
    length (filter (λ s. in_bucket (old_count (doubling_in a image).half (doubling_in a image).moved) hash (key_of kind s)) (records_in entries))
