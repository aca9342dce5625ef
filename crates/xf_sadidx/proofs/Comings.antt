-- A state comes into its chains, or leaves them.
use Rattle.std.proofs.Common.{◌≡◌, ℕ, zero, suc, Bool, true, false, cond, ◌+◌, ◌<◌, ◌≤◌, List, [], ◌∷◌, ◌++◌, Option, None, Some, length, reverse, refl, ap, sym, ◌∙◌, subst, arith, rules, slice_index}
use Rattle.xf_types.specs.declared.state.Sa.{Sa}
use Rattle.xf_chain.specs.declared.family.Family.{Family}
use Rattle.xf_chain.specs.declared.chain.Chain.{Chain}
use Rattle.xf_chain.specs.Chains.{Below, slots_of, slots_from, first_in, next_in, place_of}
use Rattle.xf_chain.specs.Families.{chain_at, Lays, IsOf, put_in, taken_out, last_while, is_other}
use Rattle.xf_chain.specs.Lists.{Misses, Apart, Within, first_of, last_of}
use Rattle.xf_index.specs.Indexes.{slots_in, picked, picked_of, Indexed}
use Rattle.xf_index.proofs.Entries.{slots_reverse, reverse_within}
use Rattle.xf_index.proofs.Latest.{latest_put, back_taken}
use Rattle.xf_index.proofs.Picks.{picked_reverse}
use Rattle.xf_index.proofs.Turned.{last_reverse, misses_reverse, apart_reverse}
use Rattle.xf_index.proofs.Walked.{before_walked}
use Rattle.xf_image.specs.Frames.{Frame}
use Rattle.xf_image.specs.Placing.{before_in}
use Rattle.xf_chain.proofs.Walks.{slot_below}
use Rattle.xf_image.proofs.Written.{both, wider, put_frame, taken_frame}
use Rattle.xf_doubling.specs.declared.doubling.Doubling.{Doubling}
use Rattle.xf_doubling.specs.Heads.{head_of, IsDoubling}
use Rattle.xf_doubling.proofs.Halves.{doubling_is}
use Rattle.xf_doubling.proofs.Numbers.{head_below}
use Rattle.xf_sadidx.specs.declared.area.StateArea.{StateArea}
use Rattle.xf_sadidx.specs.declared.kind.Kind.{Kind}
use Rattle.xf_sadidx.specs.declared.kind.Kind.TheVariants.{Spi, Route, Seq}
use Rattle.xf_sadidx.specs.Keys.{key_of}
use Rattle.xf_sadidx.specs.Layout.{Fits, chains_of, chains_start, chains_end, doubling_in, doubling_place}
use Rattle.xf_sadidx.specs.Standing.{head_by, ChainsStand, StatesIndexed}
use Rattle.xf_sadidx.specs.Writes.{put_kind, put_all, place_in, take_kind, take_all}
use Rattle.xf_sadidx.proofs.Layouts.{chains_lay, chains_slots, chains_count, chains_from, chains_to}
use Rattle.xf_sadidx.proofs.Turned.{Turned, AllTurned, Turning, all_kinds, all_turned}

-- the head of a state is one of the chains
key_head : (half moved : ℕ) (family : Family) (key : Option ℕ) → 0 < half → half + half ≤ family.count → IsOf family (head_of half moved key)
key_head half moved family None some room = search rules
key_head half moved family (Some hash) some room = let b = head_below half moved hash some in omega (arith, b, room)

pub is_head : (a : StateArea) (half moved : ℕ) (kind : Kind) (s : Sa) → IsDoubling half moved → IsOf (chains_of a kind) (head_by half moved kind s)
is_head a half moved kind s is =
    let most = is.most in
    key_head half moved (chains_of a kind) (key_of kind s) is.some (subst (λ (n : ℕ). half + half ≤ n) (sym (chains_count a kind)) (omega (arith, most)))

-- the words of the doubling aren't those of the chains
pub same_doubling : (a : StateArea) (image words : List ℕ) → Frame (chains_start a) (chains_end a) image words → doubling_in a words ≡ doubling_in a image
same_doubling a image words frame =
    rw (frame.below (doubling_place a) (omega arith), frame.below (doubling_place a + 1) (omega arith)) refl

-- ---- a state that comes

pub put_turning : (a : StateArea) (first : List ℕ) (half moved : ℕ) (s : Sa) (slot : ℕ) (entries : List (ℕ × Sa)) (d : Doubling)
    → d ≡ record { half = half; moved = moved } → Fits a (length first) → slot < a.slots → IsDoubling half moved
    → Misses slot (slots_in entries) → Apart (slots_in entries)
    → Turning a (put_kind a d s slot) first (head_by half moved) (head_by half moved) (reverse entries) (reverse (entries ++ ((slot, s) ∷ [])))
put_turning a first half moved s slot entries d same fits below is miss apart kind image frame index =
    let family : Family = chains_of a kind in
    let lays : Lays family (length image) = subst (λ (n : ℕ). Lays family n) (sym frame.size) (chains_lay a kind (length first) fits) in
    let inside : slot < family.slots = subst (λ (n : ℕ). slot < n) (sym (chains_slots a kind)) below in
    let own : IsOf family (head_by half moved kind s) = is_head a half moved kind s is in
    let turned = slots_reverse entries in
    let made : Turned family image (put_in family image (head_by half moved kind s) None slot) (head_by half moved kind) (reverse (entries ++ ((slot, s) ∷ []))) =
    record {
      index = latest_put family image (head_by half moved kind) entries slot s lays inside own
          (subst (λ (xs : List ℕ). Misses slot xs) (sym turned) (misses_reverse slot (slots_in entries) miss))
          (subst (λ (xs : List ℕ). Apart xs) (sym turned) (apart_reverse (slots_in entries) apart)) index;
      frame = put_frame family image (length image) (head_by half moved kind s) None slot lays own (search rules) inside;
    } in
    subst (λ (d : Doubling). Turned family image (put_in family image (head_by d.half d.moved kind s) None slot) (head_by half moved kind) (reverse (entries ++ ((slot, s) ∷ [])))) (sym same) made

-- ---- a state that leaves

-- the slots that a walk passes are slots of the chain, and so is the one before another
walk_within : (chain : Chain) (image : List ℕ) (left : ℕ) (at : Option ℕ) → Below chain.slots at → Within chain.slots (slots_from chain image left at)
walk_within chain image zero at b = search rules
walk_within chain image (suc left) None b = search rules
walk_within chain image (suc left) (Some slot) b =
    (b, walk_within chain image left (next_in chain image slot) (slot_below chain.slots (slice_index image (place_of chain slot))))

last_below : (test : ℕ → Bool) (n : ℕ) (last : Option ℕ) (xs : List ℕ) → Below n last → Within n xs → Below n (last_while test last xs)
last_below test n last [] b w = b
last_below test n last (x ∷ xs) b w = either (test x) (last_below test n (Some x) xs w.0 w.1)
  where
    either : (k : Bool) → Below n (last_while test (Some x) xs) → Below n (cond k (last_while test (Some x) xs) last)
    either true more = more
    either false more = b

before_below : (image : List ℕ) (slot : ℕ) (family : Family) (o : Option ℕ) → Below family.slots (before_in image slot family o)
before_below image slot family None = search rules
before_below image slot family (Some number) =
    let chain : Chain = chain_at family number in
    last_below (is_other slot) family.slots None (slots_of chain image) (search rules)
    (walk_within chain image chain.slots (first_in chain image) (slot_below chain.slots (slice_index image chain.head)))

-- where the last state comes first, the slot before another is that of the next state that stands there
place_is : (family : Family) (image : List ℕ) (key : Sa → Option ℕ) (front back : List (ℕ × Sa)) (slot : ℕ) (s : Sa) (o : Option ℕ) → key s ≡ o → IsOf family o
    → Indexed family image key (reverse (front ++ ((slot, s) ∷ back))) → before_in image slot family o ≡ first_of (picked_of key o back)
place_is family image key front back slot s None own of is = refl
place_is family image key front back slot s (Some number) own of is =
    before_walked family image key number (reverse back) (reverse front) slot s of own
    (subst (λ (xs : List (ℕ × Sa)). Indexed family image key xs) (reverse_within front back (slot, s)) is)
    ∙ ap last_of (picked_reverse key number back) ∙ last_reverse (picked key number back)

-- taking it out of one kind, with the place that was found at first
abbrev take_kind_at : StateArea → Doubling → Sa → ℕ → List ℕ → Kind → List ℕ → List ℕ
take_kind_at a d s slot first kind image = take_kind a d s slot kind (place_in a d s slot first kind) image

pub take_turning : (a : StateArea) (first : List ℕ) (half moved : ℕ) (s : Sa) (slot : ℕ) (front back : List (ℕ × Sa)) (d : Doubling)
    → d ≡ record { half = half; moved = moved } → Fits a (length first) → IsDoubling half moved
    → Apart (slots_in (front ++ ((slot, s) ∷ back)))
    → ((kind : Kind) → Indexed (chains_of a kind) first (head_by half moved kind) (reverse (front ++ ((slot, s) ∷ back))))
    → Turning a (take_kind_at a d s slot first) first (head_by half moved) (head_by half moved) (reverse (front ++ ((slot, s) ∷ back))) (reverse (front ++ back))
take_turning a first half moved s slot front back d same fits is apart before kind image frame index =
    let family : Family = chains_of a kind in
    let lays : Lays family (length image) = subst (λ (n : ℕ). Lays family n) (sym frame.size) (chains_lay a kind (length first) fits) in
    let own : Option ℕ = head_by half moved kind s in
    let of : IsOf family own = is_head a half moved kind s is in
    let place : before_in first slot family own ≡ first_of (picked_of (head_by half moved kind) own back) =
    place_is family first (head_by half moved kind) front back slot s own refl of (before kind) in
    let made : Turned family image (taken_out family image own (before_in first slot family own) slot) (head_by half moved kind) (reverse (front ++ back)) =
    record {
      index = subst (λ (o : Option ℕ). Indexed family (taken_out family image own o slot) (head_by half moved kind) (reverse (front ++ back))) (sym place)
          (back_taken family image (head_by half moved kind) front back slot s own refl lays of apart index);
      frame = taken_frame family image (length image) own (before_in first slot family own) slot lays of (before_below first slot family own);
    } in
    subst (λ (d : Doubling). Turned family image (taken_out family image (head_by d.half d.moved kind s) (before_in first slot family (head_by d.half d.moved kind s)) slot) (head_by half moved kind) (reverse (front ++ back))) (sym same) made

-- ---- all kinds

-- the chains stand by the words of the doubling, which are as before
indexed_after : (a : StateArea) (image words : List ℕ) (entries : List (ℕ × Sa))
    → AllTurned a image words (head_by (doubling_in a image).half (doubling_in a image).moved) (reverse entries) → StatesIndexed a words entries
indexed_after a image words entries t =
    subst (λ (d : Doubling). ChainsStand a words d.half d.moved entries) (sym (same_doubling a image words t.frame)) (record { chains = t.index })

pub put_stands : (a : StateArea) (image words : List ℕ) (s : Sa) (slot : ℕ) (entries : List (ℕ × Sa))
    → words ≡ put_all a (doubling_in a image) s slot image → Fits a (length image) → slot < a.slots → Misses slot (slots_in entries) → Apart (slots_in entries)
    → StatesIndexed a image entries → StatesIndexed a words (entries ++ ((slot, s) ∷ []))
put_stands a image words s slot entries e fits below miss apart st =
    let d : Doubling = doubling_in a image in
    let all : AllTurned a image (all_kinds (put_kind a d s slot) image) (head_by d.half d.moved) (reverse (entries ++ ((slot, s) ∷ []))) =
    all_turned a (put_kind a d s slot) image (head_by d.half d.moved) (head_by d.half d.moved) (reverse entries) (reverse (entries ++ ((slot, s) ∷ []))) (length image) fits
    (put_turning a image d.half d.moved s slot entries d refl fits below (doubling_is image (doubling_place a)) miss apart) st.chains in
    subst (λ (w : List ℕ). StatesIndexed a w (entries ++ ((slot, s) ∷ []))) (sym e) (indexed_after a image (put_all a d s slot image) (entries ++ ((slot, s) ∷ [])) all)

pub take_stands : (a : StateArea) (image words : List ℕ) (s : Sa) (slot : ℕ) (front back : List (ℕ × Sa))
    → words ≡ take_all a (doubling_in a image) s slot image → Fits a (length image) → Apart (slots_in (front ++ ((slot, s) ∷ back)))
    → StatesIndexed a image (front ++ ((slot, s) ∷ back)) → StatesIndexed a words (front ++ back)
take_stands a image words s slot front back e fits apart st =
    let d : Doubling = doubling_in a image in
    let all : AllTurned a image (all_kinds (take_kind_at a d s slot image) image) (head_by d.half d.moved) (reverse (front ++ back)) =
    all_turned a (take_kind_at a d s slot image) image (head_by d.half d.moved) (head_by d.half d.moved) (reverse (front ++ ((slot, s) ∷ back))) (reverse (front ++ back)) (length image) fits
    (take_turning a image d.half d.moved s slot front back d refl fits (doubling_is image (doubling_place a)) apart st.chains) st.chains in
    subst (λ (w : List ℕ). StatesIndexed a w (front ++ back)) (sym e) (indexed_after a image (take_all a d s slot image) (front ++ back) all)

-- ---- the words of others

put_one : (a : StateArea) (d : Doubling) (s : Sa) (slot : ℕ) (kind : Kind) (image : List ℕ) (size : ℕ) → Fits a size → IsDoubling d.half d.moved → slot < a.slots
    → Frame (chains_start a) (chains_end a) image (put_kind a d s slot kind image)
put_one a d s slot kind image size fits is below =
    let family : Family = chains_of a kind in
    wider (chains_start a) (chains_end a) family.heads (family.links + family.slots) image (put_kind a d s slot kind image)
    (put_frame family image size (head_by d.half d.moved kind s) None slot (chains_lay a kind size fits) (is_head a d.half d.moved kind s is) (search rules)
    (subst (λ (n : ℕ). slot < n) (sym (chains_slots a kind)) below)) (chains_from a kind) (chains_to a kind)

take_one : (a : StateArea) (d : Doubling) (s : Sa) (slot : ℕ) (kind : Kind) (first image : List ℕ) (size : ℕ) → Fits a size → IsDoubling d.half d.moved
    → Frame (chains_start a) (chains_end a) image (take_kind_at a d s slot first kind image)
take_one a d s slot kind first image size fits is =
    let family : Family = chains_of a kind in
    let own : Option ℕ = head_by d.half d.moved kind s in
    wider (chains_start a) (chains_end a) family.heads (family.links + family.slots) image (take_kind_at a d s slot first kind image)
    (taken_frame family image size own (before_in first slot family own) slot (chains_lay a kind size fits) (is_head a d.half d.moved kind s is) (before_below first slot family own))
    (chains_from a kind) (chains_to a kind)

three : (a : StateArea) (i j k l : List ℕ) → Frame (chains_start a) (chains_end a) i j → Frame (chains_start a) (chains_end a) j k → Frame (chains_start a) (chains_end a) k l
    → Frame (chains_start a) (chains_end a) i l
three a i j k l x y z =
    both (chains_start a) (chains_end a) (chains_start a) (chains_start a) (chains_end a) (chains_end a) i k l
    (both (chains_start a) (chains_end a) (chains_start a) (chains_start a) (chains_end a) (chains_end a) i j k x y (omega arith) (omega arith) (omega arith) (omega arith))
    z (omega arith) (omega arith) (omega arith) (omega arith)

pub put_leaves : (a : StateArea) (image words : List ℕ) (s : Sa) (slot size : ℕ) → words ≡ put_all a (doubling_in a image) s slot image → Fits a size → slot < a.slots
    → Frame (chains_start a) (chains_end a) image words
put_leaves a image words s slot size e fits below =
    let d : Doubling = doubling_in a image in
    let is : IsDoubling d.half d.moved = doubling_is image (doubling_place a) in
    let i : List ℕ = put_kind a d s slot Spi image in
    let j : List ℕ = put_kind a d s slot Route i in
    subst (λ (w : List ℕ). Frame (chains_start a) (chains_end a) image w) (sym e)
    (three a image i j (put_kind a d s slot Seq j) (put_one a d s slot Spi image size fits is below) (put_one a d s slot Route i size fits is below) (put_one a d s slot Seq j size fits is below))

pub take_leaves : (a : StateArea) (image words : List ℕ) (s : Sa) (slot size : ℕ) → words ≡ take_all a (doubling_in a image) s slot image → Fits a size
    → Frame (chains_start a) (chains_end a) image words
take_leaves a image words s slot size e fits =
    let d : Doubling = doubling_in a image in
    let is : IsDoubling d.half d.moved = doubling_is image (doubling_place a) in
    let i : List ℕ = take_kind_at a d s slot image Spi image in
    let j : List ℕ = take_kind_at a d s slot image Route i in
    subst (λ (w : List ℕ). Frame (chains_start a) (chains_end a) image w) (sym e)
    (three a image i j (take_kind_at a d s slot image Seq j) (take_one a d s slot Spi image image size fits is) (take_one a d s slot Route image i size fits is) (take_one a d s slot Seq image j size fits is))
