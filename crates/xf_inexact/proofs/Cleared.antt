-- The trees were emptied.
use Rattle.std.proofs.Common.{◌≡◌, ℕ, zero, suc, ◌+◌, ◌-◌, ◌*◌, ◌<◌, ◌≤◌, List, [], None, length, refl, ap, ◌∙◌, arith, slice_index, slice_set, length-set, get_or-set_other, get_or-set_same}
use Rattle.xf_chain.specs.Chains.{slot_of}
use Rattle.xf_chain.specs.declared.family.Family.{Family}
use Rattle.xf_chain.specs.Families.{Lays}
use Rattle.xf_chain.proofs.Emptied.{chain_emptied}
use Rattle.xf_image.specs.Frames.{Frame}
use Rattle.xf_image.proofs.Written.{both, emptied_frame, one_word}
use Rattle.xf_trie.specs.Nodes.{place_of}
use Rattle.xf_inexact.specs.declared.inexact.Inexact.{Inexact}
use Rattle.xf_inexact.specs.Clears.{all_freed, nexts_cleared, tops_cleared, tops_of}
use Rattle.xf_inexact.specs.Holds.{HoldPart}
use Rattle.xf_inexact.specs.Places.{Fits, chains_of, count_of, end_of, pool_of}
use Rattle.xf_inexact.proofs.Apart.{least_root, most_root}
use Rattle.xf_inexact.proofs.Empties.{AreEmpty, part_empty}

pub tops_lay : (x : Inexact) (size : ℕ) → Fits x size → Lays (tops_of x) size
tops_lay x size f = let w = f.words in record { heads = omega arith; links = omega (arith, w); fits = f.fits }

pub nexts_step : (place left : ℕ) (image : List ℕ) → 0 < left → nexts_cleared (place + 8) (left - 1) (slice_set image place 0) ≡ nexts_cleared place left image
nexts_step place zero image h = absurd (omega arith)
nexts_step place (suc more) image h = let e : suc more - 1 ≡ more = omega arith in ap (λ n. nexts_cleared (place + 8) n (slice_set image place 0)) e

-- which words were written
nexts_frame : (place more last : ℕ) (image : List ℕ) → place + 8 * more ≤ last + 7 → Frame place last image (nexts_cleared place more image)
nexts_frame place zero last image h = record { size = refl; below = λ q k. refl; above = λ q k. refl }
nexts_frame place (suc more) last image h =
    both place last place (place + 8) (place + 1) last image (slice_set image place 0) (nexts_cleared (place + 8) more (slice_set image place 0))
    (one_word image place 0) (nexts_frame (place + 8) more last (slice_set image place 0) (omega (arith, h))) (omega arith) (omega arith) (omega (arith, h)) (omega arith)

-- each is 0
nexts_at : (place more : ℕ) (image : List ℕ) (n : ℕ) → n < more → place + 8 * more ≤ length image + 7
    → slice_index (nexts_cleared place more image) (place + 8 * n) ≡ 0
nexts_at place zero image n h l = absurd (omega (arith, h))
nexts_at place (suc more) image zero h l =
    let e : place + 8 * zero ≡ place = omega arith in
    let f : Frame (place + 8) (place + 8 + 8 * more) (slice_set image place 0) (nexts_cleared (place + 8) more (slice_set image place 0)) =
    nexts_frame (place + 8) more (place + 8 + 8 * more) (slice_set image place 0) (omega arith) in
    ap (λ q. slice_index (nexts_cleared (place + 8) more (slice_set image place 0)) q) e
    ∙ (f.below place (omega arith) ∙ get_or-set_same image place 0 0 (omega (arith, l)))
nexts_at place (suc more) image (suc n) h l =
    let e : place + 8 * suc n ≡ (place + 8) + 8 * n = omega arith in
    let k : length (slice_set image place 0) ≡ length image = length-set image place 0 in
    ap (λ q. slice_index (nexts_cleared (place + 8) more (slice_set image place 0)) q) e
    ∙ nexts_at (place + 8) more (slice_set image place 0) n (omega (arith, h)) (omega (arith, l, k))

tops_frame : (x : Inexact) (image : List ℕ) → Frame x.base (x.base + (64 + 12 * x.area.slots)) image (tops_cleared x image)
unfolding tops_cleared
tops_frame x image = emptied_frame x.base (64 + 12 * x.area.slots) image

-- a root or head names nothing, whatever its slots
tops_none : (x : Inexact) (image : List ℕ) (slots number : ℕ) → Fits x (length image) → slots ≤ 6 * x.area.slots → number < 64 + 12 * x.area.slots
    → slot_of slots (slice_index (tops_cleared x image) (x.base + number)) ≡ None
unfolding tops_cleared
tops_none x image slots number f s n =
    let w = f.words in
    let row : Family = record { heads = x.base; count = 64 + 12 * x.area.slots; links = x.base + 64 + 12 * x.area.slots; slots = slots } in
    let chain = chain_emptied row image number (record { heads = omega arith; links = omega (arith, w, s); fits = f.fits }) n in
    chain.path

freed_frame : (x : Inexact) (image : List ℕ) → Frame (x.base + 64 + 13 * x.area.slots) (end_of x) image (all_freed x image)
unfolding all_freed
freed_frame x image =
    let free : ℕ = x.base + 64 + 13 * x.area.slots in
    let live : ℕ = x.base + 65 + 13 * x.area.slots in
    let next : ℕ = x.base + 72 + 13 * x.area.slots in
    let i1 : List ℕ = slice_set image free 0 in
    let i2 : List ℕ = slice_set i1 live 0 in
    let two : Frame free (free + 2) image i2 =
    both free (free + 2) free live (free + 1) (live + 1) image i1 i2 (one_word image free 0) (one_word i1 live 0) (omega arith) (omega arith) (omega arith) (omega arith) in
    both free (end_of x) free next (free + 2) (end_of x) image i2 (nexts_cleared next (count_of x) i2) two
    (nexts_frame next (count_of x) (end_of x) i2 (omega arith)) (omega arith) (omega arith) (omega arith) (omega arith)

freed_free : (x : Inexact) (image : List ℕ) → end_of x ≤ length image → slice_index (all_freed x image) (x.base + 64 + 13 * x.area.slots) ≡ 0
unfolding all_freed
freed_free x image l =
    let free : ℕ = x.base + 64 + 13 * x.area.slots in
    let live : ℕ = x.base + 65 + 13 * x.area.slots in
    let next : ℕ = x.base + 72 + 13 * x.area.slots in
    let i1 : List ℕ = slice_set image free 0 in
    let i2 : List ℕ = slice_set i1 live 0 in
    let f : Frame next (end_of x) i2 (nexts_cleared next (count_of x) i2) = nexts_frame next (count_of x) (end_of x) i2 (omega arith) in
    f.below free (omega arith) ∙ (get_or-set_other i1 live free 0 0 (λ e. omega (arith, e)) ∙ get_or-set_same image free 0 0 (omega (arith, l)))

freed_live : (x : Inexact) (image : List ℕ) → end_of x ≤ length image → slice_index (all_freed x image) (x.base + 65 + 13 * x.area.slots) ≡ 0
unfolding all_freed
freed_live x image l =
    let free : ℕ = x.base + 64 + 13 * x.area.slots in
    let live : ℕ = x.base + 65 + 13 * x.area.slots in
    let next : ℕ = x.base + 72 + 13 * x.area.slots in
    let i1 : List ℕ = slice_set image free 0 in
    let i2 : List ℕ = slice_set i1 live 0 in
    let k : length i1 ≡ length image = length-set image free 0 in
    let f : Frame next (end_of x) i2 (nexts_cleared next (count_of x) i2) = nexts_frame next (count_of x) (end_of x) i2 (omega arith) in
    f.below live (omega arith) ∙ get_or-set_same i1 live 0 0 (omega (arith, l, k))

freed_next : (x : Inexact) (image : List ℕ) (s : ℕ) → end_of x ≤ length image → s < count_of x → slice_index (all_freed x image) (x.base + 72 + 13 * x.area.slots + 8 * s) ≡ 0
unfolding all_freed
freed_next x image s l h =
    let free : ℕ = x.base + 64 + 13 * x.area.slots in
    let live : ℕ = x.base + 65 + 13 * x.area.slots in
    let i1 : List ℕ = slice_set image free 0 in
    let i2 : List ℕ = slice_set i1 live 0 in
    let k : length i1 ≡ length image = length-set image free 0 in
    let k2 : length i2 ≡ length i1 = length-set i1 live 0 in
    nexts_at (x.base + 72 + 13 * x.area.slots) (count_of x) i2 s h (omega (arith, l, k, k2))

pub cleared_frame : (x : Inexact) (image : List ℕ) → Frame x.base (end_of x) image (all_freed x (tops_cleared x image))
cleared_frame x image =
    both x.base (end_of x) x.base (x.base + 64 + 13 * x.area.slots) (x.base + (64 + 12 * x.area.slots)) (end_of x) image (tops_cleared x image) (all_freed x (tops_cleared x image))
    (tops_frame x image) (freed_frame x (tops_cleared x image)) (omega arith) (omega arith) (omega arith) (omega arith)

cleared_top : (x : Inexact) (image : List ℕ) (slots place : ℕ) → Fits x (length image) → slots ≤ 6 * x.area.slots → x.base ≤ place → place < x.base + 64 + 12 * x.area.slots
    → slot_of slots (slice_index (all_freed x (tops_cleared x image)) place) ≡ None
cleared_top x image slots place f s l m =
    let e : place ≡ x.base + (place - x.base) = omega (arith, l) in
    let g : Frame (x.base + 64 + 13 * x.area.slots) (end_of x) (tops_cleared x image) (all_freed x (tops_cleared x image)) = freed_frame x (tops_cleared x image) in
    ap (λ w. slot_of slots w) (g.below place (omega (arith, m)) ∙ ap (λ q. slice_index (tops_cleared x image) q) e)
    ∙ tops_none x image slots (place - x.base) f s (omega (arith, l, m))

cleared_empty : (x : Inexact) (image : List ℕ) → Fits x (length image) → AreEmpty x (all_freed x (tops_cleared x image))
cleared_empty x image f =
    let w = f.words in
    let long : length (tops_cleared x image) ≡ length image = (tops_frame x image).size in
    let l : end_of x ≤ length (tops_cleared x image) = omega (arith, w, long) in
    record {
      roots = λ r e. let m = most_root x r e in cleared_top x image (count_of x) r f (omega arith) (least_root x r e) (omega (arith, m));
      heads = λ node h. cleared_top x image x.area.slots ((chains_of x).heads + node) f (omega arith) (omega arith) (omega (arith, h));
      free = freed_free x (tops_cleared x image) l;
      live = let e : (pool_of x).free + 1 ≡ x.base + 65 + 13 * x.area.slots = omega arith in
          ap (λ q. slice_index (all_freed x (tops_cleared x image)) q) e ∙ freed_live x (tops_cleared x image) l;
      nexts = λ s h. let e : place_of (pool_of x) s + 6 ≡ x.base + 72 + 13 * x.area.slots + 8 * s = omega arith in
          ap (λ q. slice_index (all_freed x (tops_cleared x image)) q) e ∙ freed_next x (tops_cleared x image) s l h;
    }

pub part_cleared : (x : Inexact) (image : List ℕ) (size : ℕ) (h4 h6 : ℕ × ℕ) → Fits x size → length image ≡ size
    → HoldPart x (all_freed x (tops_cleared x image)) h4 h6 []
part_cleared x image size h4 h6 f e =
    let w = f.words in let s = f.fits in
    part_empty x (all_freed x (tops_cleared x image)) h4 h6
    (cleared_empty x image (record { places = f.places; words = omega (arith, w, e); fits = omega (arith, s, e) }))
