-- What the walk along the chain of a hash finds, and how long it is.
use Rattle.std.proofs.Common.{◌≡◌, ℕ, ◌+◌, ◌<◌, ◌≤◌, Bool, true, List, Some, filter, find, length, reverse, ap, sym, ◌∙◌, subst, arith}
use Rattle.std.proofs.lemmas.List.{length-reverse}
use Rattle.xf_types.specs.declared.state.Sa.{Sa}
use Rattle.xf_types.specs.StateList.{last_of}
use Rattle.xf_chain.specs.Chains.{slots_of}
use Rattle.xf_index.specs.Indexes.{records_in, picked}
use Rattle.xf_index.specs.Finds.{slot_found, record_found}
use Rattle.xf_index.proofs.Entries.{records_reverse}
use Rattle.xf_index.proofs.Finds.{found_own_walked, found_record}
use Rattle.xf_index.proofs.Walked.{walk_picked}
use Rattle.xf_doubling.specs.Heads.{IsDoubling, head_number, head_of, old_count, in_bucket}
use Rattle.xf_doubling.proofs.Halves.{doubling_is}
use Rattle.xf_doubling.proofs.Numbers.{head_below}
use Rattle.xf_doubling.proofs.Grown.{picked_short}
use Rattle.xf_sadidx.specs.declared.area.StateArea.{StateArea}
use Rattle.xf_sadidx.specs.declared.kind.Kind.{Kind}
use Rattle.xf_sadidx.specs.declared.query.StateQuery.{StateQuery}
use Rattle.xf_sadidx.specs.Layout.{chains_of, record_at, doubling_in, doubling_place}
use Rattle.xf_sadidx.specs.Keys.{key_of}
use Rattle.xf_sadidx.specs.Queries.{meets, meets_in}
use Rattle.xf_sadidx.specs.Standing.{head_by, StatesIndexed, RecordsStand}
use Rattle.xf_sadidx.specs.Founds.{hash_chain, found_on, latest_in, bucket_size}
use Rattle.xf_sadidx.proofs.AskedLaws.{asked_hold}
use Rattle.xf_sadidx.proofs.Layouts.{chains_count}
use Rattle.xf_sadidx.proofs.Reverses.{holds_reverse, filter_reverse}

-- the head of a hash is one of the chains
pub hash_below : (a : StateArea) (image : List ℕ) (kind : Kind) (hash : ℕ) → head_number (doubling_in a image).half (doubling_in a image).moved hash < (chains_of a kind).count
hash_below a image kind hash =
    let d = doubling_in a image in
    let is : IsDoubling d.half d.moved = doubling_is image (doubling_place a) in
    let most = is.most in
    let b : head_number d.half d.moved hash < d.half + d.half = head_below d.half d.moved hash is.some in
    subst (λ (n : ℕ). head_number d.half d.moved hash < n) (sym (chains_count a kind)) (omega (arith, most, b))

-- the walk passes the slots of the states that stand there
pub hash_walk : (a : StateArea) (image : List ℕ) (kind : Kind) (hash : ℕ) (entries : List (ℕ × Sa)) → StatesIndexed a image entries
    → slots_of (hash_chain a image kind hash) image
    ≡ picked (head_by (doubling_in a image).half (doubling_in a image).moved kind) (head_number (doubling_in a image).half (doubling_in a image).moved hash) (reverse entries)
hash_walk a image kind hash entries st =
    walk_picked (chains_of a kind) image (head_by (doubling_in a image).half (doubling_in a image).moved kind)
    (head_number (doubling_in a image).half (doubling_in a image).moved hash) (reverse entries) (hash_below a image kind hash) (st.chains kind)

pub latest_is : (a : StateArea) (image : List ℕ) (kind : Kind) (hash : ℕ) (query : StateQuery) (entries : List (ℕ × Sa))
    → ((s : Sa) → meets query s ≡ true → key_of kind s ≡ Some hash) → StatesIndexed a image entries → RecordsStand a image entries
    → found_on a image query (hash_chain a image kind hash) ≡ slot_found (latest_in (meets query) entries)
latest_is a image kind hash query entries own st records =
    let half : ℕ = (doubling_in a image).half in
    let moved : ℕ = (doubling_in a image).moved in
    found_own_walked (chains_of a kind) image (head_by half moved kind) (head_number half moved hash) (meets_in a image query) (meets query) (reverse entries)
    (hash_below a image kind hash)
    (asked_hold a image query (reverse entries) (holds_reverse (λ slot. record_at a image slot) (λ s. Some s) entries records))
    (λ s m. ap (head_of half moved) (own s m)) (st.chains kind)

-- the chain has only states of the hash's bucket
pub chain_short : (a : StateArea) (image : List ℕ) (kind : Kind) (hash : ℕ) (entries : List (ℕ × Sa)) → StatesIndexed a image entries
    → length (slots_of (hash_chain a image kind hash) image) ≤ bucket_size a image kind hash entries
chain_short a image kind hash entries st =
    let half : ℕ = (doubling_in a image).half in
    let moved : ℕ = (doubling_in a image).moved in
    let test : Sa → Bool = λ s. in_bucket (old_count half moved) hash (key_of kind s) in
    let is : IsDoubling half moved = doubling_is image (doubling_place a) in
    let short : length (picked (head_by half moved kind) (head_number half moved hash) (reverse entries)) ≤ length (filter test (records_in (reverse entries))) =
    picked_short half moved hash (key_of kind) (reverse entries) is.some is.fits in
    let turned : length (filter test (records_in (reverse entries))) ≡ length (filter test (records_in entries)) =
    ap (λ rs. length (filter test rs)) (records_reverse entries) ∙ ap length (filter_reverse test (records_in entries)) ∙ length-reverse (filter test (records_in entries)) in
    subst (λ (xs : List ℕ). length xs ≤ bucket_size a image kind hash entries) (sym (hash_walk a image kind hash entries st))
    (subst (λ (n : ℕ). length (picked (head_by half moved kind) (head_number half moved hash) (reverse entries)) ≤ n) turned short)

-- the last entry that passes has the last state that does
pub latest_record : (test : Sa → Bool) (entries : List (ℕ × Sa)) → record_found (latest_in test entries) ≡ last_of test (records_in entries)
latest_record test entries = found_record test (reverse entries) ∙ ap (find test) (records_reverse entries)
