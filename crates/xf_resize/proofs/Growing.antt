-- A doubling that begins.
use Rattle.std.proofs.Common.{◌≡◌, ℕ, suc, ◌+◌, ◌-◌, ◌*◌, ◌^◌, ◌<◌, ◌≤◌, ◌⊎◌, inl, inr, min, List, length, reverse, refl, ap, sym, ◌∙◌, subst, arith, slice_index, slice_set, length-set, get_or-set_same, get_or-set_other}
use Rattle.std.proofs.lemmas.Bool.Decides.{nat_tests}
use Rattle.std.proofs.Math.Nat.{min-le_right, pow-suc}
use Rattle.xf_types.specs.declared.state.Sa.{Sa}
use Rattle.xf_image.specs.Frames.{Frame}
use Rattle.xf_image.proofs.Written.{both, wider, one_word}
use Rattle.xf_doubling.specs.declared.doubling.Doubling.{Doubling}
use Rattle.xf_doubling.specs.Heads.{half_in, IsDoubling}
use Rattle.xf_doubling.proofs.Halves.{doubling_is}
use Rattle.xf_doubling.proofs.Numbers.{below_or}
use Rattle.xf_doubling.proofs.Grown.{indexed_grown}
use Rattle.xf_sadidx.specs.declared.area.StateArea.{StateArea}
use Rattle.xf_sadidx.specs.Keys.{key_of}
use Rattle.xf_sadidx.specs.Layout.{Fits, chains_of, chains_end, doubling_place, doubling_in}
use Rattle.xf_sadidx.specs.Standing.{head_by, ChainsStand}
use Rattle.xf_resize.specs.Doubled.{grown}
use Rattle.xf_resize.specs.Rooms.{StatesChained, buckets_in, pending_in}
use Rattle.xf_resize.proofs.Staying.{records_kept, chains_kept}

power_below : (m : ℕ) → m ≤ 9 → 2 ^ (2 + m) < 2048 → m < 9
power_below m h l = by (below_or m 9)
  where
    by : ((m < 9) ⊎ (9 ≤ m)) → m < 9
    by (inl k) = k
    by (inr k) =
        let e : m ≡ 9 = omega (arith, h, k) in
        absurd (let f : 2 ^ (2 + 9) < 2048 = subst (λ (n : ℕ). 2 ^ (2 + n) < 2048) e l in omega (arith, f))

power_next : (m : ℕ) → m < 9 → 2 ^ (2 + min (m + 1) 9) ≡ 2 ^ (2 + m) + 2 ^ (2 + m)
power_next m l =
    let e : min (m + 1) 9 ≡ m + 1 = grind (arith, nat_tests) in
    let f : 2 + (m + 1) ≡ suc (2 + m) = omega arith in
    let g : 2 ^ suc (2 + m) ≡ 2 ^ (2 + m) * 2 = pow-suc 2 (2 + m) in
    ap (λ n. 2 ^ (2 + n)) e ∙ ap (λ n. 2 ^ n) f ∙ g ∙ omega arith

pub half_grown : (word : ℕ) → half_in word < 2048 → half_in (min word 9 + 1) ≡ half_in word + half_in word
half_grown word l = power_next (min word 9) (power_below (min word 9) (min-le_right word 9) l)

-- a doubling
abbrev pub so_far : ℕ → ℕ → Doubling
so_far half moved = record { half = half; moved = moved }

-- the heads are doubled once more, and none is split
pub grown_is : (a : StateArea) (image : List ℕ) → Fits a (length image) → (doubling_in a image).half < 2048
    → doubling_in a (grown a image) ≡ record { half = (doubling_in a image).half + (doubling_in a image).half; moved = 0 }
grown_is a image fits l =
    let words = fits.words in
    let area = fits.area in
    let some = area.some in
    let p : ℕ = doubling_place a in
    let half : ℕ = (doubling_in a image).half in
    let w : ℕ = min (slice_index image p) 9 + 1 in
    let one : List ℕ = slice_set image p w in
    let two : List ℕ = slice_set one (p + 1) (half + half) in
    let long : length one ≡ length image = length-set image p w in
    let first : slice_index two p ≡ w =
    get_or-set_other one (p + 1) p (half + half) 0 (λ e. omega (arith, e)) ∙ get_or-set_same image p w 0 (omega (arith, words)) in
    let second : slice_index two (p + 1) ≡ half + half = get_or-set_same one (p + 1) (half + half) 0 (omega (arith, long, words)) in
    let twice : half_in (slice_index two p) ≡ half + half = ap half_in first ∙ half_grown (slice_index image p) l in
    made (half_in (slice_index two p)) (slice_index two (p + 1)) (half + half) twice second
  where
    made : (h n twice : ℕ) → h ≡ twice → n ≡ twice → so_far h (h - n) ≡ so_far twice 0
    made h n twice e f = let g : h - n ≡ 0 = omega (arith, e, f) in rw (g, e) refl

pub grown_frame : (a : StateArea) (image : List ℕ) → Frame (doubling_place a) (doubling_place a + 2) image (grown a image)
grown_frame a image =
    let p : ℕ = doubling_place a in
    let w : ℕ = min (slice_index image p) 9 + 1 in
    let twice : ℕ = (doubling_in a image).half + (doubling_in a image).half in
    both p (p + 2) p (p + 1) (p + 1) (p + 1 + 1) image (slice_set image p w) (slice_set (slice_set image p w) (p + 1) twice)
    (one_word image p w) (one_word (slice_set image p w) (p + 1) twice) (omega arith) (omega arith) (omega arith) (omega arith)

pub all_split : (a : StateArea) (image : List ℕ) → pending_in a image ≡ 0 → (doubling_in a image).moved ≡ (doubling_in a image).half
all_split a image none =
    let is : IsDoubling (doubling_in a image).half (doubling_in a image).moved = doubling_is image (doubling_place a) in
    let fits = is.fits in
    omega (arith, none, fits)

pub grown_chained : (a : StateArea) (image : List ℕ) (entries : List (ℕ × Sa)) → Fits a (length image) → buckets_in a image < 4096 → pending_in a image ≡ 0
    → StatesChained a image entries → StatesChained a (grown a image) entries
grown_chained a image entries fits below none st =
    let half : ℕ = (doubling_in a image).half in
    let is : IsDoubling half (doubling_in a image).moved = doubling_is image (doubling_place a) in
    let frame : Frame (doubling_place a) (doubling_place a + 2) image (grown a image) = grown_frame a image in
    let whole : Frame (doubling_place a) (chains_end a) image (grown a image) = wider (doubling_place a) (chains_end a) _ _ image (grown a image) frame (omega arith) (omega arith) in
    let all : ChainsStand a image half half entries = subst (λ (m : ℕ). ChainsStand a image half m entries) (all_split a image none) st.indexed in
    let next : ChainsStand a (grown a image) (half + half) 0 entries = record {
      chains = λ kind. chains_kept a image (grown a image) (length image) kind (head_by (half + half) 0 kind) (reverse entries) fits frame
          (indexed_grown (chains_of a kind) image half (key_of kind) (reverse entries) is.some (all.chains kind));
    } in
    record {
      indexed = subst (λ (d : Doubling). ChainsStand a (grown a image) d.half d.moved entries) (sym (grown_is a image fits (omega (arith, below)))) next;
      records = records_kept a image (grown a image) (doubling_place a) entries whole st.within st.records;
      apart = st.apart;
      within = st.within;
    }
