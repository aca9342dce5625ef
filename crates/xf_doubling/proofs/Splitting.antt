-- The split of one chain in two, as an index sees it. The entries before the one that comes stand where they stand after the split, the others
-- where they stood before it.
use Rattle.std.proofs.Common.{◌≡◌, ◌≢◌, ℕ, zero, suc, ◌+◌, ◌<◌, ◌≤◌, Bool, true, false, List, [], ◌∷◌, ◌++◌, Option, None, Some, cond, length, refl, ap, sym, ◌∙◌, subst, arith, append-nil, slice_index}
use Rattle.std.proofs.lemmas.List.{append_assoc}
use Rattle.xf_chain.specs.declared.chain.Chain.{Chain}
use Rattle.xf_chain.specs.declared.family.Family.{Family}
use Rattle.xf_chain.specs.Chains.{Below, next_in, first_in}
use Rattle.xf_chain.specs.Families.{chain_at, Lays, Outside, taken_out}
use Rattle.xf_chain.specs.Lists.{IsChain, Apart, Within, first_of, last_of, last_from}
use Rattle.xf_chain.proofs.Slots.{slots_fit, within_front, within_back}
use Rattle.xf_index.specs.Indexes.{slots_in, is_number, picked, Indexed, Holds}
use Rattle.xf_index.proofs.Entries.{slots_append, apart_taken, misses_taken}
use Rattle.xf_index.proofs.Frames.{put_outside, taken_outside, put_length, taken_length}
use Rattle.xf_index.proofs.Neighbours.{first_picked, next_picked}
use Rattle.xf_index.proofs.Picks.{picked_append, picked_within, is_own, is_not_own}
use Rattle.xf_index.proofs.Puts.{indexed_put}
use Rattle.xf_index.proofs.Takes.{indexed_taken}
use Rattle.xf_index.proofs.Turned.{last_below}
use Rattle.xf_index.proofs.Holds.{holds_kept}
use Rattle.xf_doubling.specs.Heads.{head_of}
use Rattle.xf_doubling.specs.Splits.{either, moved_one, split_from, split_of, goes, goes_at, keyed}
use Rattle.xf_doubling.specs.DoublingLaws.{RestsOutside, Splits}
use Rattle.xf_doubling.proofs.Heads.{key_fresh, key_stays, key_parts}
use Rattle.xf_doubling.proofs.Keyed.{keyed_append, keyed_slots, keyed_holds, keyed_index, plain_index}
use Rattle.xf_doubling.proofs.Turns.{none_comes}

-- the head itself as a record
abbrev own : Option ℕ → Option ℕ
own o = o

-- the entries, each at its head before and after
abbrev old_in : ℕ → ℕ → List (ℕ × Option ℕ) → List (ℕ × Option ℕ)
old_in half moved es = keyed (head_of half moved) es

abbrev new_in : ℕ → ℕ → List (ℕ × Option ℕ) → List (ℕ × Option ℕ)
new_in half moved es = keyed (head_of half (moved + 1)) es

-- all entries stand at their heads after the split
record Sorted (family : Family) (half moved : ℕ) (image words : List ℕ) (all : List (ℕ × Option ℕ)) : Type 0 where
  pub index : Indexed family words own (new_in half moved all)
  pub size : length words ≡ length image
  pub outside : (q : ℕ) → Outside family q → slice_index words q ≡ slice_index image q

-- the words after the turns for the entries that are left
abbrev sorted_from : Family → ℕ → ℕ → (List ℕ → ℕ → Option ℕ) → ℕ → List (ℕ × Option ℕ) → List (ℕ × Option ℕ) → List ℕ → List ℕ
sorted_from family half moved key left front back words =
    split_from (chain_at family moved) (chain_at family (half + moved)) (goes_at half moved key) left
    (first_of (picked own moved (old_in half moved back))) (last_of (picked own moved (new_in half moved front)))
    (last_of (picked own (half + moved) (new_in half moved front))) words

-- what these turns make, whatever came before
abbrev Sorting : Family → ℕ → ℕ → (List ℕ → ℕ → Option ℕ) → List (ℕ × Option ℕ) → List (ℕ × Option ℕ) → ℕ → Type 0
Sorting family half moved key all back left = (front : List (ℕ × Option ℕ)) (words : List ℕ)
    → front ++ back ≡ all → Lays family (length words) → Holds (key words) own back
    → Indexed family words own (new_in half moved front ++ old_in half moved back)
    → length (picked own moved (old_in half moved back)) ≤ left
    → Sorted family half moved words (sorted_from family half moved key left front back words) all

-- one entry more in front
picked_more : (half moved m : ℕ) (front : List (ℕ × Option ℕ)) (e : ℕ × Option ℕ)
    → picked own m (new_in half moved (front ++ (e ∷ [])))
    ≡ picked own m (new_in half moved front) ++ cond (is_number m (head_of half (moved + 1) e.1)) (e.0 ∷ []) []
picked_more half moved m front e =
    ap (λ es. picked own m es) (keyed_append (head_of half (moved + 1)) front (e ∷ []))
    ∙ picked_append own m (new_in half moved front) (new_in half moved (e ∷ []))

picked_none : (half moved m : ℕ) (front : List (ℕ × Option ℕ)) (e : ℕ × Option ℕ) → is_number m (head_of half (moved + 1) e.1) ≡ false
    → picked own m (new_in half moved (front ++ (e ∷ []))) ≡ picked own m (new_in half moved front)
picked_none half moved m front e n =
    picked_more half moved m front e
    ∙ ap (λ (b : Bool). picked own m (new_in half moved front) ++ cond b (e.0 ∷ []) []) n ∙ append-nil (picked own m (new_in half moved front))

last_more : (slot : ℕ) (xs : List ℕ) → last_of (xs ++ (slot ∷ [])) ≡ Some slot
last_more slot [] = refl
last_more slot (x ∷ xs) = ap (λ n. Some n) (last x xs)
  where
    last : (x : ℕ) (xs : List ℕ) → last_from x (xs ++ (slot ∷ [])) ≡ slot
    last x [] = refl
    last x (y ∷ ys) = last y ys

picked_last : (half moved m : ℕ) (front : List (ℕ × Option ℕ)) (e : ℕ × Option ℕ) → head_of half (moved + 1) e.1 ≡ Some m
    → last_of (picked own m (new_in half moved (front ++ (e ∷ [])))) ≡ Some e.0
picked_last half moved m front e n =
    ap last_of (picked_more half moved m front e
    ∙ ap (λ (o : Option ℕ). picked own m (new_in half moved front) ++ cond (is_number m o) (e.0 ∷ []) []) n
    ∙ ap (λ (b : Bool). picked own m (new_in half moved front) ++ cond b (e.0 ∷ []) []) (is_own m))
    ∙ last_more e.0 (picked own m (new_in half moved front))

-- the entry that came stands at its new head
index_more : (family : Family) (half moved : ℕ) (words : List ℕ) (front es : List (ℕ × Option ℕ)) (e : ℕ × Option ℕ)
    → Indexed family words own (new_in half moved front ++ ((e.0, head_of half (moved + 1) e.1) ∷ old_in half moved es))
    → Indexed family words own (new_in half moved (front ++ (e ∷ [])) ++ old_in half moved es)
index_more family half moved words front es e is =
    subst (λ (xs : List (ℕ × Option ℕ)). Indexed family words own xs)
    (sym (ap (λ xs. xs ++ old_in half moved es) (keyed_append (head_of half (moved + 1)) front (e ∷ []))
    ∙ append_assoc (new_in half moved front) ((e.0, head_of half (moved + 1) e.1) ∷ []) (old_in half moved es))) is

whole_more : (front es all : List (ℕ × Option ℕ)) (e : ℕ × Option ℕ) → front ++ (e ∷ es) ≡ all → (front ++ (e ∷ [])) ++ es ≡ all
whole_more front es all e w = append_assoc front (e ∷ []) es ∙ w

-- the slots of the entries, wherever they stand
slots_whole : (half moved : ℕ) (front back all : List (ℕ × Option ℕ)) → front ++ back ≡ all
    → slots_in all ≡ slots_in (new_in half moved front ++ old_in half moved back)
slots_whole half moved front back all w =
    ap slots_in (sym w) ∙ slots_append front back
    ∙ ap (λ xs. xs ++ slots_in back) (sym (keyed_slots (head_of half (moved + 1)) front))
    ∙ ap (λ xs. slots_in (new_in half moved front) ++ xs) (sym (keyed_slots (head_of half moved) back))
    ∙ sym (slots_append (new_in half moved front) (old_in half moved back))

-- ---- an entry of another chain

passed : (family : Family) (half moved : ℕ) (key : List ℕ → ℕ → Option ℕ) (all es : List (ℕ × Option ℕ)) (e : ℕ × Option ℕ) (left : ℕ) (front : List (ℕ × Option ℕ)) (words : List ℕ)
    → moved < half → is_number moved (head_of half moved e.1) ≡ false
    → Sorting family half moved key all es left
    → front ++ (e ∷ es) ≡ all → Lays family (length words) → Holds (key words) own (e ∷ es)
    → Indexed family words own (new_in half moved front ++ old_in half moved (e ∷ es))
    → length (picked own moved (old_in half moved (e ∷ es))) ≤ left
    → Sorted family half moved words (sorted_from family half moved key left front (e ∷ es) words) all
passed family half moved key all es e left front words l n next w lays holds is fit =
    let low : Chain = chain_at family moved in
    let high : Chain = chain_at family (half + moved) in
    let skip : picked own moved (old_in half moved (e ∷ es)) ≡ picked own moved (old_in half moved es) =
    ap (λ (b : Bool). cond b (e.0 ∷ picked own moved (old_in half moved es)) (picked own moved (old_in half moved es))) n in
    let same : head_of half (moved + 1) e.1 ≡ head_of half moved e.1 = key_stays half moved e.1 n in
    let at_low : picked own moved (new_in half moved (front ++ (e ∷ []))) ≡ picked own moved (new_in half moved front) =
    picked_none half moved moved front e (ap (λ o. is_number moved o) same ∙ n) in
    let at_high : picked own (half + moved) (new_in half moved (front ++ (e ∷ []))) ≡ picked own (half + moved) (new_in half moved front) =
    picked_none half moved (half + moved) front e (ap (λ o. is_number (half + moved) o) same ∙ key_fresh half moved e.1 l) in
    let more : Indexed family words own (new_in half moved front ++ ((e.0, head_of half (moved + 1) e.1) ∷ old_in half moved es)) =
    subst (λ (o : Option ℕ). Indexed family words own (new_in half moved front ++ ((e.0, o) ∷ old_in half moved es))) (sym same) is in
    let rest : Sorted family half moved words (sorted_from family half moved key left (front ++ (e ∷ [])) es words) all =
    next (front ++ (e ∷ [])) words (whole_more front es all e w) lays holds.1 (index_more family half moved words front es e more)
    (subst (λ (xs : List ℕ). length xs ≤ left) skip fit) in
    subst (λ (xs : List ℕ). Sorted family half moved words
    (split_from low high (goes_at half moved key) left (first_of xs) (last_of (picked own moved (new_in half moved front))) (last_of (picked own (half + moved) (new_in half moved front))) words) all) (sym skip)
    (subst (λ (xs : List ℕ). Sorted family half moved words
    (split_from low high (goes_at half moved key) left (first_of (picked own moved (old_in half moved es))) (last_of xs) (last_of (picked own (half + moved) (new_in half moved front))) words) all) at_low
    (subst (λ (xs : List ℕ). Sorted family half moved words
    (split_from low high (goes_at half moved key) left (first_of (picked own moved (old_in half moved es))) (last_of (picked own moved (new_in half moved (front ++ (e ∷ []))))) (last_of xs) words) all) at_high rest))

-- ---- an entry that stays

stayed : (family : Family) (half moved : ℕ) (key : List ℕ → ℕ → Option ℕ) (all es : List (ℕ × Option ℕ)) (e : ℕ × Option ℕ) (left : ℕ) (front : List (ℕ × Option ℕ)) (words : List ℕ)
    → moved < half → head_of half moved e.1 ≡ Some moved → head_of half (moved + 1) e.1 ≡ Some moved
    → Sorting family half moved key all es left
    → front ++ (e ∷ es) ≡ all → Lays family (length words) → Holds (key words) own es
    → Indexed family words own (new_in half moved front ++ old_in half moved (e ∷ es))
    → length (picked own moved (old_in half moved es)) ≤ left
    → Sorted family half moved words
    (split_from (chain_at family moved) (chain_at family (half + moved)) (goes_at half moved key) left
    (first_of (picked own moved (old_in half moved es))) (Some e.0) (last_of (picked own (half + moved) (new_in half moved front))) words) all
stayed family half moved key all es e left front words l before after next w lays holds is fit =
    let low : Chain = chain_at family moved in
    let high : Chain = chain_at family (half + moved) in
    let other : half + moved ≢ moved = λ q. omega (arith, l, q) in
    let at_low : last_of (picked own moved (new_in half moved (front ++ (e ∷ [])))) ≡ Some e.0 = picked_last half moved moved front e after in
    let at_high : picked own (half + moved) (new_in half moved (front ++ (e ∷ []))) ≡ picked own (half + moved) (new_in half moved front) =
    picked_none half moved (half + moved) front e (ap (λ o. is_number (half + moved) o) after ∙ is_not_own (half + moved) moved other) in
    let more : Indexed family words own (new_in half moved front ++ ((e.0, head_of half (moved + 1) e.1) ∷ old_in half moved es)) =
    subst (λ (o : Option ℕ). Indexed family words own (new_in half moved front ++ ((e.0, o) ∷ old_in half moved es))) (before ∙ sym after) is in
    let rest : Sorted family half moved words (sorted_from family half moved key left (front ++ (e ∷ [])) es words) all =
    next (front ++ (e ∷ [])) words (whole_more front es all e w) lays holds (index_more family half moved words front es e more) fit in
    subst (λ (xs : List ℕ). Sorted family half moved words
    (split_from low high (goes_at half moved key) left (first_of (picked own moved (old_in half moved es))) (Some e.0) (last_of xs) words) all) at_high
    (subst (λ (o : Option ℕ). Sorted family half moved words
    (split_from low high (goes_at half moved key) left (first_of (picked own moved (old_in half moved es))) o (last_of (picked own (half + moved) (new_in half moved (front ++ (e ∷ []))))) words) all) at_low rest)

-- ---- an entry that goes

-- its slot is taken out of the one chain and put into the other
record Went (family : Family) (half moved : ℕ) (image words : List ℕ) (front es : List (ℕ × Option ℕ)) (e : ℕ × Option ℕ) : Type 0 where
  pub index : Indexed family words own (new_in half moved front ++ ((e.0, Some (half + moved)) ∷ old_in half moved es))
  pub size : length words ≡ length image
  pub outside : (q : ℕ) → Outside family q → slice_index words q ≡ slice_index image q

went : (family : Family) (half moved : ℕ) (all es : List (ℕ × Option ℕ)) (e : ℕ × Option ℕ) (front : List (ℕ × Option ℕ)) (words : List ℕ)
    → moved < half → half + half ≤ family.count → Apart (slots_in all) → Within family.slots (slots_in all)
    → head_of half moved e.1 ≡ Some moved
    → front ++ (e ∷ es) ≡ all → Lays family (length words)
    → Indexed family words own (new_in half moved front ++ old_in half moved (e ∷ es))
    → Went family half moved words
    (moved_one (chain_at family moved) (chain_at family (half + moved)) e.0 (last_of (picked own moved (new_in half moved front))) (last_of (picked own (half + moved) (new_in half moved front))) words)
    front es e
went family half moved all es e front words l room apart within before w lays is =
    let done : List (ℕ × Option ℕ) = new_in half moved front in
    let left : List (ℕ × Option ℕ) = old_in half moved es in
    let last : Option ℕ = last_of (picked own moved done) in
    let other : Option ℕ = last_of (picked own (half + moved) done) in
    let nl : moved < family.count = omega (arith, l, room) in
    let nh : half + moved < family.count = omega (arith, l, room) in
    let whole : slots_in all ≡ slots_in (done ++ old_in half moved (e ∷ es)) = slots_whole half moved front (e ∷ es) all w in
    let ap1 : Apart (slots_in (done ++ ((e.0, head_of half moved e.1) ∷ left))) = subst (λ (xs : List ℕ). Apart xs) whole apart in
    let wi1 : Within family.slots (slots_in done ++ (e.0 ∷ slots_in left)) =
    subst (λ (xs : List ℕ). Within family.slots xs) (whole ∙ slots_append done ((e.0, head_of half moved e.1) ∷ left)) within in
    let slot : e.0 < family.slots = (within_back family.slots (slots_in done) (e.0 ∷ slots_in left) wi1).0 in
    let front_in : Within family.slots (slots_in done) = within_front family.slots (slots_in done) (e.0 ∷ slots_in left) wi1 in
    let b1 : Below family.slots last = last_below family.slots (picked own moved done) (picked_within own moved family.slots done front_in) in
    let b2 : Below family.slots other = last_below family.slots (picked own (half + moved) done) (picked_within own (half + moved) family.slots done front_in) in
    let w1 : List ℕ = taken_out family words (Some moved) last e.0 in
    let s1 : length w1 ≡ length words = taken_length family words (Some moved) last e.0 in
    let is1 : Indexed family w1 own (done ++ left) =
    indexed_taken family words own done left e.0 (head_of half moved e.1) (Some moved) before lays nl ap1 is in
    let lays1 : Lays family (length w1) = subst (λ (n : ℕ). Lays family n) (sym s1) lays in
    record {
      index = indexed_put family w1 own done left e.0 (Some (half + moved)) (Some (half + moved)) refl lays1 slot nh
          (misses_taken done left e.0 (head_of half moved e.1) ap1) (apart_taken done left e.0 (head_of half moved e.1) ap1) is1;
      size = put_length family w1 (Some (half + moved)) other e.0 ∙ s1;
      outside = λ q o. put_outside family w1 (length words) (Some (half + moved)) other e.0 q lays nh b2 slot o
          ∙ taken_outside family words (length words) (Some moved) last e.0 q lays nl b1 o;
    }

gone : (family : Family) (half moved : ℕ) (key : List ℕ → ℕ → Option ℕ) (all es : List (ℕ × Option ℕ)) (e : ℕ × Option ℕ) (left : ℕ) (front : List (ℕ × Option ℕ)) (words : List ℕ)
    → moved < half → half + half ≤ family.count → RestsOutside family key → Apart (slots_in all) → Within family.slots (slots_in all)
    → head_of half moved e.1 ≡ Some moved → head_of half (moved + 1) e.1 ≡ Some (half + moved)
    → Sorting family half moved key all es left
    → front ++ (e ∷ es) ≡ all → Lays family (length words) → Holds (key words) own es
    → Indexed family words own (new_in half moved front ++ old_in half moved (e ∷ es))
    → length (picked own moved (old_in half moved es)) ≤ left
    → Sorted family half moved words
    (split_from (chain_at family moved) (chain_at family (half + moved)) (goes_at half moved key) left
    (first_of (picked own moved (old_in half moved es))) (last_of (picked own moved (new_in half moved front))) (Some e.0)
    (moved_one (chain_at family moved) (chain_at family (half + moved)) e.0 (last_of (picked own moved (new_in half moved front))) (last_of (picked own (half + moved) (new_in half moved front))) words)) all
gone family half moved key all es e left front words l room rests apart within before after next w lays holds is fit =
    let low : Chain = chain_at family moved in
    let high : Chain = chain_at family (half + moved) in
    let j : List ℕ = moved_one low high e.0 (last_of (picked own moved (new_in half moved front))) (last_of (picked own (half + moved) (new_in half moved front))) words in
    let one : Went family half moved words j front es e = went family half moved all es e front words l room apart within before w lays is in
    let other : moved ≢ half + moved = λ q. omega (arith, l, q) in
    let at_high : last_of (picked own (half + moved) (new_in half moved (front ++ (e ∷ [])))) ≡ Some e.0 = picked_last half moved (half + moved) front e after in
    let at_low : picked own moved (new_in half moved (front ++ (e ∷ []))) ≡ picked own moved (new_in half moved front) =
    picked_none half moved moved front e (ap (λ o. is_number moved o) after ∙ is_not_own moved (half + moved) other) in
    let more : Indexed family j own (new_in half moved front ++ ((e.0, head_of half (moved + 1) e.1) ∷ old_in half moved es)) =
    subst (λ (o : Option ℕ). Indexed family j own (new_in half moved front ++ ((e.0, o) ∷ old_in half moved es))) (sym after) one.index in
    let here : Within family.slots (slots_in es) =
    (within_back family.slots (slots_in front) (e.0 ∷ slots_in es) (subst (λ (xs : List ℕ). Within family.slots xs) (ap slots_in (sym w) ∙ slots_append front (e ∷ es)) within)).1 in
    let rest : Sorted family half moved j (sorted_from family half moved key left (front ++ (e ∷ [])) es j) all =
    next (front ++ (e ∷ [])) j (whole_more front es all e w) (subst (λ (n : ℕ). Lays family n) (sym one.size) lays)
    (holds_kept (key words) (key j) own family.slots es (λ s k. rests.same words j one.outside s k) here holds)
    (index_more family half moved j front es e more) fit in
    let made : Sorted family half moved j
    (split_from low high (goes_at half moved key) left (first_of (picked own moved (old_in half moved es))) (last_of (picked own moved (new_in half moved front))) (Some e.0) j) all =
    subst (λ (xs : List ℕ). Sorted family half moved j
    (split_from low high (goes_at half moved key) left (first_of (picked own moved (old_in half moved es))) (last_of xs) (Some e.0) j) all) at_low
    (subst (λ (o : Option ℕ). Sorted family half moved j
    (split_from low high (goes_at half moved key) left (first_of (picked own moved (old_in half moved es))) (last_of (picked own moved (new_in half moved (front ++ (e ∷ []))))) o j) all) at_high rest) in
    record { index = made.index; size = made.size ∙ one.size; outside = λ q o. made.outside q o ∙ one.outside q o }

-- ---- an entry of the chain

either_way : (family : Family) (half moved : ℕ) (key : List ℕ → ℕ → Option ℕ) (all es : List (ℕ × Option ℕ)) (e : ℕ × Option ℕ) (left : ℕ) (front : List (ℕ × Option ℕ)) (words : List ℕ) (b : Bool)
    → moved < half → half + half ≤ family.count → RestsOutside family key → Apart (slots_in all) → Within family.slots (slots_in all)
    → head_of half moved e.1 ≡ Some moved → head_of half (moved + 1) e.1 ≡ either b (Some (half + moved)) (Some moved)
    → Sorting family half moved key all es left
    → front ++ (e ∷ es) ≡ all → Lays family (length words) → Holds (key words) own es
    → Indexed family words own (new_in half moved front ++ old_in half moved (e ∷ es))
    → length (picked own moved (old_in half moved es)) ≤ left
    → Sorted family half moved words
    (split_from (chain_at family moved) (chain_at family (half + moved)) (goes_at half moved key) left
    (first_of (picked own moved (old_in half moved es))) (either b (last_of (picked own moved (new_in half moved front))) (Some e.0))
    (either b (Some e.0) (last_of (picked own (half + moved) (new_in half moved front))))
    (either b (moved_one (chain_at family moved) (chain_at family (half + moved)) e.0 (last_of (picked own moved (new_in half moved front))) (last_of (picked own (half + moved) (new_in half moved front))) words) words)) all
either_way family half moved key all es e left front words true l room rests apart within before after next w lays holds is fit =
    gone family half moved key all es e left front words l room rests apart within before after next w lays holds is fit
either_way family half moved key all es e left front words false l room rests apart within before after next w lays holds is fit =
    stayed family half moved key all es e left front words l before after next w lays holds is fit

met : (family : Family) (half moved : ℕ) (key : List ℕ → ℕ → Option ℕ) (all es : List (ℕ × Option ℕ)) (e : ℕ × Option ℕ) (left : ℕ) (front : List (ℕ × Option ℕ)) (words : List ℕ)
    → moved < half → half + half ≤ family.count → RestsOutside family key → Apart (slots_in all) → Within family.slots (slots_in all)
    → is_number moved (head_of half moved e.1) ≡ true
    → Sorting family half moved key all es left
    → front ++ (e ∷ es) ≡ all → Lays family (length words) → Holds (key words) own (e ∷ es)
    → Indexed family words own (new_in half moved front ++ old_in half moved (e ∷ es))
    → length (picked own moved (old_in half moved (e ∷ es))) ≤ suc left
    → Sorted family half moved words (sorted_from family half moved key (suc left) front (e ∷ es) words) all
met family half moved key all es e left front words l room rests apart within n next w lays holds is fit =
    let low : Chain = chain_at family moved in
    let high : Chain = chain_at family (half + moved) in
    let last : Option ℕ = last_of (picked own moved (new_in half moved front)) in
    let other : Option ℕ = last_of (picked own (half + moved) (new_in half moved front)) in
    let parts = key_parts half moved e.1 l n in
    let first : picked own moved (old_in half moved (e ∷ es)) ≡ e.0 ∷ picked own moved (old_in half moved es) =
    ap (λ (b : Bool). cond b (e.0 ∷ picked own moved (old_in half moved es)) (picked own moved (old_in half moved es))) n in
    let fits : length (e.0 ∷ picked own moved (old_in half moved es)) ≤ suc left = subst (λ (xs : List ℕ). length xs ≤ suc left) first fit in
    let turn : goes_at half moved key words e.0 ≡ goes half moved e.1 = ap (λ k. goes half moved k) holds.0 in
    let at : next_in low words e.0 ≡ first_of (picked own moved (old_in half moved es)) =
    next_picked family words own moved (new_in half moved front) (old_in half moved es) e.0 (head_of half moved e.1) (omega (arith, l, room)) parts.0 is in
    let made = either_way family half moved key all es e left front words (goes half moved e.1) l room rests apart within parts.0 parts.1 next w lays holds.1 is (omega (arith, fits)) in
    subst (λ (xs : List ℕ). Sorted family half moved words (split_from low high (goes_at half moved key) (suc left) (first_of xs) last other words) all) (sym first)
    (subst (λ (o : Option ℕ). Sorted family half moved words
    (split_from low high (goes_at half moved key) left o (either (goes_at half moved key words e.0) last (Some e.0)) (either (goes_at half moved key words e.0) (Some e.0) other)
    (either (goes_at half moved key words e.0) (moved_one low high e.0 last other words) words)) all) (sym at)
    (subst (λ (b : Bool). Sorted family half moved words
    (split_from low high (goes_at half moved key) left (first_of (picked own moved (old_in half moved es))) (either b last (Some e.0)) (either b (Some e.0) other)
    (either b (moved_one low high e.0 last other words) words)) all) (sym turn) made))

-- ---- all of them

sorts_one : (family : Family) (half moved : ℕ) (key : List ℕ → ℕ → Option ℕ) (all es : List (ℕ × Option ℕ)) (e : ℕ × Option ℕ) (left : ℕ) (b : Bool)
    → moved < half → half + half ≤ family.count → RestsOutside family key → Apart (slots_in all) → Within family.slots (slots_in all)
    → is_number moved (head_of half moved e.1) ≡ b
    → ((turns : ℕ) → Sorting family half moved key all es turns)
    → Sorting family half moved key all (e ∷ es) left
sorts_one family half moved key all es e left false l room rests apart within n next front words w lays holds is fit =
    passed family half moved key all es e left front words l n (next left) w lays holds is fit
sorts_one family half moved key all es e zero true l room rests apart within n next front words w lays holds is fit =
    absurd (let first : picked own moved (old_in half moved (e ∷ es)) ≡ e.0 ∷ picked own moved (old_in half moved es) =
    ap (λ (b : Bool). cond b (e.0 ∷ picked own moved (old_in half moved es)) (picked own moved (old_in half moved es))) n in
    let fits : length (e.0 ∷ picked own moved (old_in half moved es)) ≤ 0 = subst (λ (xs : List ℕ). length xs ≤ 0) first fit in omega (arith, fits))
sorts_one family half moved key all es e (suc left) true l room rests apart within n next front words w lays holds is fit =
    met family half moved key all es e left front words l room rests apart within n (next left) w lays holds is fit

sorts : (family : Family) (half moved : ℕ) (key : List ℕ → ℕ → Option ℕ) (all back : List (ℕ × Option ℕ)) (left : ℕ)
    → moved < half → half + half ≤ family.count → RestsOutside family key → Apart (slots_in all) → Within family.slots (slots_in all)
    → Sorting family half moved key all back left
sorts family half moved key all [] left l room rests apart within front words w lays holds is fit =
    let whole : new_in half moved front ++ [] ≡ new_in half moved all =
    append-nil (new_in half moved front) ∙ ap (λ es. new_in half moved es) (sym (append-nil front) ∙ w) in
    subst (λ (j : List ℕ). Sorted family half moved words j all)
    (sym (none_comes (chain_at family moved) (chain_at family (half + moved)) (goes_at half moved key) left (last_of (picked own moved (new_in half moved front))) (last_of (picked own (half + moved) (new_in half moved front))) words))
    (record { index = subst (λ (es : List (ℕ × Option ℕ)). Indexed family words own es) whole is; size = refl; outside = λ q o. refl })
sorts family half moved key all (e ∷ es) left l room rests apart within front words w lays holds is fit =
    sorts_one family half moved key all es e left (is_number moved (head_of half moved e.1)) l room rests apart within refl
    (λ turns. sorts family half moved key all es turns l room rests apart within) front words w lays holds is fit

-- by the hash of each slot
pub split_keys : (family : Family) (image : List ℕ) (half moved : ℕ) (key : List ℕ → ℕ → Option ℕ) (entries : List (ℕ × Option ℕ))
    → Lays family (length image) → half + half ≤ family.count → moved < half → RestsOutside family key
    → Apart (slots_in entries) → Within family.slots (slots_in entries) → Holds (key image) (λ k. k) entries
    → Indexed family image (λ k. head_of half moved k) entries
    → Splits family half moved (λ k. k) image (split_of family half moved key image) entries
split_keys family image half moved key entries lays room l rests apart within holds is =
    let low : Chain = chain_at family moved in
    let before : Indexed family image own (old_in half moved entries) = keyed_index family image own (head_of half moved) entries is in
    let nl : moved < family.count = omega (arith, l, room) in
    let chain : IsChain low image (picked own moved (old_in half moved entries)) = before.chains moved nl in
    let fit : length (picked own moved (old_in half moved entries)) ≤ family.slots = slots_fit family.slots (picked own moved (old_in half moved entries)) chain.apart chain.within in
    let first : first_in low image ≡ first_of (picked own moved (old_in half moved entries)) = first_picked family image own moved (old_in half moved entries) nl before in
    let made : Sorted family half moved image (sorted_from family half moved key family.slots [] entries image) entries =
    sorts family half moved key entries entries family.slots l room rests apart within [] image refl lays holds before fit in
    let all : Sorted family half moved image (split_of family half moved key image) entries =
    subst (λ (o : Option ℕ). Sorted family half moved image (split_from low (chain_at family (half + moved)) (goes_at half moved key) family.slots o None None image) entries) (sym first) made in
    record {
      index = plain_index family (split_of family half moved key image) own (head_of half (moved + 1)) entries all.index;
      size = all.size;
      outside = all.outside;
    }

-- by the hash of each record
pub split_entries : {A : Type 0} (family : Family) (image : List ℕ) (half moved : ℕ) (key : List ℕ → ℕ → Option ℕ) (hash : A → Option ℕ) (entries : List (ℕ × A))
    → Lays family (length image) → half + half ≤ family.count → moved < half → RestsOutside family key
    → Apart (slots_in entries) → Within family.slots (slots_in entries) → Holds (key image) hash entries
    → Indexed family image (λ r. head_of half moved (hash r)) entries
    → Splits family half moved hash image (split_of family half moved key image) entries
split_entries family image half moved key hash entries lays room l rests apart within holds is =
    let same : slots_in entries ≡ slots_in (keyed hash entries) = sym (keyed_slots hash entries) in
    let made : Splits family half moved (λ k. k) image (split_of family half moved key image) (keyed hash entries) =
    split_keys family image half moved key (keyed hash entries) lays room l rests
    (subst (λ (xs : List ℕ). Apart xs) same apart) (subst (λ (xs : List ℕ). Within family.slots xs) same within)
    (keyed_holds (key image) hash entries holds) (keyed_index family image (head_of half moved) hash entries is) in
    record {
      index = plain_index family (split_of family half moved key image) (head_of half (moved + 1)) hash entries made.index;
      size = made.size;
      outside = made.outside;
    }
