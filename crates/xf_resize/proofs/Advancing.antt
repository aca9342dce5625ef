-- The next old head of each kind is split.
use Rattle.std.proofs.Common.{◌≡◌, ℕ, ◌+◌, ◌-◌, ◌<◌, ◌≤◌, List, [], ◌∷◌, length, reverse, refl, ap, sym, ◌∙◌, subst, arith, rules, slice_index, slice_set, get_or-set_same, get_or-set_other}
use Rattle.xf_types.specs.declared.state.Sa.{Sa}
use Rattle.xf_chain.specs.declared.family.Family.{Family}
use Rattle.xf_chain.specs.Families.{Lays}
use Rattle.xf_chain.specs.Lists.{Apart, Within}
use Rattle.xf_index.specs.Indexes.{slots_in, Holds}
use Rattle.xf_index.proofs.Entries.{slots_reverse}
use Rattle.xf_index.proofs.Stays.{indexed_apart}
use Rattle.xf_index.proofs.Turned.{apart_reverse}
use Rattle.xf_image.specs.Frames.{Frame}
use Rattle.xf_image.proofs.Written.{both, wider, one_word}
use Rattle.xf_doubling.specs.declared.doubling.Doubling.{Doubling}
use Rattle.xf_doubling.specs.Heads.{half_in, IsDoubling}
use Rattle.xf_doubling.specs.DoublingLaws.{RestsOutside, Splits}
use Rattle.xf_doubling.proofs.Halves.{doubling_is}
use Rattle.xf_doubling.proofs.Outside.{split_length, split_outside}
use Rattle.xf_doubling.proofs.Splitting.{split_entries}
use Rattle.xf_sadidx.specs.declared.area.StateArea.{StateArea}
use Rattle.xf_sadidx.specs.declared.kind.Kind.{Kind}
use Rattle.xf_sadidx.specs.declared.kind.Kind.TheVariants.{Spi, Route, Seq}
use Rattle.xf_sadidx.specs.Keys.{key_of}
use Rattle.xf_sadidx.specs.Layout.{Fits, chains_of, chains_start, chains_end, doubling_place, doubling_in, record_place}
use Rattle.xf_sadidx.specs.Standing.{head_by, ChainsStand, RecordsStand}
use Rattle.xf_sadidx.proofs.KeyLaws.{key_is, key_frame}
use Rattle.xf_sadidx.proofs.Layouts.{chains_lay, chains_slots, chains_count, chains_from, chains_to}
use Rattle.xf_sadidx.proofs.Reverses.{holds_reverse, within_reverse}
use Rattle.xf_sadidx.proofs.Turned.{AllTurned, Turning, all_kinds, all_turned}
use Rattle.xf_resize.specs.Doubled.{slot_key, split_kind, split_all, advanced}
use Rattle.xf_resize.specs.Rooms.{StatesChained, pending_in}
use Rattle.xf_resize.proofs.Growing.{so_far}
use Rattle.xf_resize.proofs.Staying.{records_kept}

-- ---- the hashes rest on the records, which lie behind the chains

pub key_rests : (a : StateArea) (kind : Kind) → RestsOutside (chains_of a kind) (slot_key a kind)
key_rests a kind =
    let to = chains_to a kind in
    record { same = λ image words same slot below. key_frame image words (record_place a slot) kind (λ q h l. same q (λ k. omega (arith, h, to))) }

keys_hold : (a : StateArea) (image : List ℕ) (kind : Kind) (entries : List (ℕ × Sa)) → RecordsStand a image entries → Holds (slot_key a kind image) (key_of kind) entries
keys_hold a image kind [] h = search rules
keys_hold a image kind (e ∷ es) h = (key_is image (record_place a e.0) e.1 h.0 kind, keys_hold a image kind es h.1)

-- ---- one kind

split_frame : (a : StateArea) (d : Doubling) (kind : Kind) (image : List ℕ) (size : ℕ) → Fits a size → IsDoubling d.half d.moved → d.moved < d.half
    → Frame (chains_of a kind).heads ((chains_of a kind).links + (chains_of a kind).slots) image (split_kind a d kind image)
split_frame a d kind image size fits is l =
    let family : Family = chains_of a kind in
    let most = is.most in
    let room : d.half + d.half ≤ family.count = subst (λ (n : ℕ). d.half + d.half ≤ n) (sym (chains_count a kind)) (omega (arith, most)) in
    let lays : Lays family size = chains_lay a kind size fits in
    record {
      size = split_length family d.half d.moved (slot_key a kind) image;
      below = λ q h. split_outside family d.half d.moved (slot_key a kind) image size q lays room l (λ k. absurd (omega (arith, k, h)));
      above = λ q h. split_outside family d.half d.moved (slot_key a kind) image size q lays room l (λ k. h);
    }

split_turning : (a : StateArea) (first : List ℕ) (d : Doubling) (entries : List (ℕ × Sa)) → Fits a (length first) → IsDoubling d.half d.moved → d.moved < d.half
    → RecordsStand a first entries → Apart (slots_in entries) → Within a.slots (slots_in entries)
    → Turning a (split_kind a d) first (head_by d.half d.moved) (head_by d.half (d.moved + 1)) (reverse entries) (reverse entries)
split_turning a first d entries fits is l records apart within kind image frame index =
    let family : Family = chains_of a kind in
    let most = is.most in
    let fit : Fits a (length image) = subst (λ (n : ℕ). Fits a n) (sym frame.size) fits in
    let room : d.half + d.half ≤ family.count = subst (λ (n : ℕ). d.half + d.half ≤ n) (sym (chains_count a kind)) (omega (arith, most)) in
    let turned : slots_in (reverse entries) ≡ reverse (slots_in entries) = slots_reverse entries in
    let here : RecordsStand a image entries = records_kept a first image (chains_start a) entries frame within records in
    let made : Splits family d.half d.moved (key_of kind) image (split_kind a d kind image) (reverse entries) =
    split_entries family image d.half d.moved (slot_key a kind) (key_of kind) (reverse entries) (chains_lay a kind (length image) fit) room l (key_rests a kind)
    (subst (λ (xs : List ℕ). Apart xs) (sym turned) (apart_reverse (slots_in entries) apart))
    (subst (λ (n : ℕ). Within n (slots_in (reverse entries))) (sym (chains_slots a kind))
    (subst (λ (xs : List ℕ). Within a.slots xs) (sym turned) (within_reverse a.slots (slots_in entries) within)))
    (holds_reverse (slot_key a kind image) (key_of kind) entries (keys_hold a image kind entries here)) index in
    record { index = made.index; frame = split_frame a d kind image (length image) fit is l }

-- ---- all kinds, and one less to split

chains_split : (a : StateArea) (d : Doubling) (image : List ℕ) (size : ℕ) → Fits a size → IsDoubling d.half d.moved → d.moved < d.half
    → Frame (chains_start a) (chains_end a) image (split_all a d image)
chains_split a d image size fits is l =
    let i : List ℕ = split_kind a d Spi image in
    let j : List ℕ = split_kind a d Route i in
    let k : List ℕ = split_kind a d Seq j in
    let one : Frame (chains_start a) (chains_end a) image i = wider (chains_start a) (chains_end a) _ _ image i (split_frame a d Spi image size fits is l) (chains_from a Spi) (chains_to a Spi) in
    let two : Frame (chains_start a) (chains_end a) image j =
    both (chains_start a) (chains_end a) _ _ _ _ image i j one (split_frame a d Route i size fits is l) (omega arith) (chains_from a Route) (omega arith) (chains_to a Route) in
    both (chains_start a) (chains_end a) _ _ _ _ image j k two (split_frame a d Seq j size fits is l) (omega arith) (chains_from a Seq) (omega arith) (chains_to a Seq)

pub advanced_frame : (a : StateArea) (image : List ℕ) (size : ℕ) → Fits a size → 0 < pending_in a image → Frame (doubling_place a) (chains_end a) image (advanced a image)
advanced_frame a image size fits l =
    let d : Doubling = doubling_in a image in
    let some = let area = fits.area in area.some in
    let all : Frame (chains_start a) (chains_end a) image (split_all a d image) = chains_split a d image size fits (doubling_is image (doubling_place a)) (omega (arith, l)) in
    both (doubling_place a) (chains_end a) (chains_start a) (doubling_place a + 1) (chains_end a) (doubling_place a + 1 + 1) image (split_all a d image) (advanced a image) all
    (one_word (split_all a d image) (doubling_place a + 1) (d.half - (d.moved + 1))) (omega arith) (omega arith) (omega arith) (omega arith)

pub advanced_is : (a : StateArea) (image : List ℕ) → Fits a (length image) → 0 < pending_in a image
    → doubling_in a (advanced a image) ≡ record { half = (doubling_in a image).half; moved = (doubling_in a image).moved + 1 }
advanced_is a image fits l =
    let d : Doubling = doubling_in a image in
    let words = fits.words in
    let p : ℕ = doubling_place a in
    let one : List ℕ = split_all a d image in
    let left : ℕ = d.half - (d.moved + 1) in
    let frame : Frame (chains_start a) (chains_end a) image one = chains_split a d image (length image) fits (doubling_is image p) (omega (arith, l)) in
    let long = frame.size in
    let first : slice_index (slice_set one (p + 1) left) p ≡ slice_index image p =
    get_or-set_other one (p + 1) p left 0 (λ e. omega (arith, e)) ∙ frame.below p (omega arith) in
    let second : slice_index (slice_set one (p + 1) left) (p + 1) ≡ left = get_or-set_same one (p + 1) left 0 (omega (arith, long, words)) in
    made (half_in (slice_index (slice_set one (p + 1) left) p)) (slice_index (slice_set one (p + 1) left) (p + 1)) d.half d.moved (ap half_in first) second (omega (arith, l))
  where
    made : (h n half moved : ℕ) → h ≡ half → n ≡ half - (moved + 1) → moved < half → so_far h (h - n) ≡ so_far half (moved + 1)
    made h n half moved e f l = let g : h - n ≡ moved + 1 = omega (arith, e, f, l) in rw (g, e) refl

pub advanced_chained : (a : StateArea) (image : List ℕ) (entries : List (ℕ × Sa)) → Fits a (length image) → 0 < pending_in a image
    → StatesChained a image entries → StatesChained a (advanced a image) entries
advanced_chained a image entries fits l st =
    let d : Doubling = doubling_in a image in
    let some = let area = fits.area in area.some in
    let j : List ℕ = split_all a d image in
    let k : List ℕ = advanced a image in
    let all : AllTurned a image (all_kinds (split_kind a d) image) (head_by d.half (d.moved + 1)) (reverse entries) =
    all_turned a (split_kind a d) image (head_by d.half d.moved) (head_by d.half (d.moved + 1)) (reverse entries) (reverse entries) (length image) fits
    (split_turning a image d entries fits (doubling_is image (doubling_place a)) (omega (arith, l)) st.records st.apart st.within)
    (ChainsStand.chains st.indexed) in
    let word : Frame (doubling_place a + 1) (doubling_place a + 1 + 1) j k = one_word j (doubling_place a + 1) (d.half - (d.moved + 1)) in
    let next : ChainsStand a k d.half (d.moved + 1) entries = record {
      chains = λ kind. let from = chains_from a kind in
          indexed_apart (chains_of a kind) j k (length image) (head_by d.half (d.moved + 1) kind) (reverse entries) (chains_lay a kind (length image) fits)
          (λ q h m. word.above q (omega (arith, h, from))) (all.index kind);
    } in
    record {
      indexed = subst (λ (e : Doubling). ChainsStand a k e.half e.moved entries) (sym (advanced_is a image fits l)) next;
      records = records_kept a image k (doubling_place a) entries (advanced_frame a image (length image) fits l) st.within st.records;
      apart = st.apart;
      within = st.within;
    }
