-- What an insertion and a removal make of a chain.
use Rattle.std.proofs.Common.{◌≡◌, ◌≢◌, ℕ, ◌+◌, ◌<◌, List, ◌∷◌, ◌++◌, Option, Some, length, ap, sym, ◌∙◌, subst, arith, get_or-set_same, get_or-set_other, slice_index, slice_set, length-set}
use Rattle.std.proofs.lemmas.Bool.Decides.{nat_tests}
use Rattle.xf_chain.specs.declared.chain.Chain.{Chain}
use Rattle.xf_chain.specs.Chains.{Lies, slot_of, place_of, from_of, inserted, unlinked}
use Rattle.xf_chain.specs.Lists.{Misses, IsChain, Spread, last_of}
use Rattle.xf_chain.proofs.Slots.{apart_more, apart_less, within_more, within_less, apart_front, within_front}
use Rattle.xf_chain.proofs.Places.{Clear, Ways, last_place, clear_slot, clear_head, ways, from_is, last_clear, last_within, clear_back, clear_front, clear_rest}
use Rattle.xf_chain.proofs.Paths.{insert_path, unlink_path, stays, stays_one, same}

pub names : (n s : ℕ) → s < n → slot_of n (s + 1) ≡ Some s
names n s h = grind (arith, nat_tests)

pub chain_inserted : (c : Chain) (image front back : List ℕ) (slot : ℕ)
    → Spread c → Lies c (length image) → slot < c.slots → Misses slot (front ++ back)
    → IsChain c image (front ++ back) → IsChain c (inserted c image (last_of front) slot) (front ++ (slot ∷ back))
chain_inserted c image front back slot h lies below fresh is =
    let t : ℕ = last_place c c.head front in
    let p : ℕ = place_of c slot in
    let e : t ≡ from_of c (last_of front) = from_is c front in
    let k : Clear c p (front ++ back) = clear_slot c slot (front ++ back) h fresh in
    let w : Clear c c.head (front ++ back) = clear_head c (front ++ back) h is.within in
    let n : c.head ≢ p = λ q. h.head slot below (sym q) in
    let np : p ≢ t = last_clear c p c.head front n (clear_front c p front back k) in
    let half : List ℕ = slice_set image p (slice_index image t) in
    let j : List ℕ = slice_set half t (slot + 1) in
    let size : length half ≡ length image = length-set image p _ in
    let tb : t < length image = last_within c (length image) c.head front lies lies.head (within_front c.slots front back is.within) in
    let at_t : slice_index j t ≡ slot + 1 = get_or-set_same half t (slot + 1) 0 (omega (arith, size)) in
    let at_p : slice_index j p ≡ slice_index image t = get_or-set_other half t p (slot + 1) 0 np ∙ get_or-set_same image p (slice_index image t) 0 (lies.links slot below) in
    let frame : (q : ℕ) → q ≢ t → q ≢ p → slice_index j q ≡ slice_index image q =
    λ q a b. get_or-set_other half t q (slot + 1) 0 a ∙ get_or-set_other image p q (slice_index image t) 0 b in
    let made : IsChain c j (front ++ (slot ∷ back)) = record {
      path = insert_path c image j t slot c.head front back
          (ap (λ v. slot_of c.slots v) at_t ∙ names c.slots slot below) at_p
          (stays c image j p c.head front frame (ways c c.head front h (clear_front c c.head front back w) (apart_front front back is.apart)) n (clear_front c p front back k))
          (same c image j t p back frame (clear_back c c.head front back h w is.apart) (clear_rest c p front back k))
          is.path;
      apart = apart_more slot front back is.apart fresh;
      within = within_more c.slots slot front back is.within below;
    } in
    subst (λ (q : ℕ). IsChain c (slice_set (slice_set image p (slice_index image q)) q (slot + 1)) (front ++ (slot ∷ back))) e made

pub chain_unlinked : (c : Chain) (image front back : List ℕ) (slot : ℕ)
    → Spread c → Lies c (length image)
    → IsChain c image (front ++ (slot ∷ back)) → IsChain c (unlinked c image (last_of front) slot) (front ++ back)
chain_unlinked c image front back slot h lies is =
    let t : ℕ = last_place c c.head front in
    let e : t ≡ from_of c (last_of front) = from_is c front in
    let v : ℕ = slice_index image (place_of c slot) in
    let j : List ℕ = slice_set image t v in
    let w : Clear c c.head (front ++ (slot ∷ back)) = clear_head c (front ++ (slot ∷ back)) h is.within in
    let tb : t < length image = last_within c (length image) c.head front lies lies.head (within_front c.slots front (slot ∷ back) is.within) in
    let kb : Clear c t (slot ∷ back) = clear_back c c.head front (slot ∷ back) h w is.apart in
    let frame : (q : ℕ) → q ≢ t → q ≢ t → slice_index j q ≡ slice_index image q = λ q a b. get_or-set_other image t q v 0 a in
    let ways' : Ways c c.head front = ways c c.head front h (clear_front c c.head front (slot ∷ back) w) (apart_front front (slot ∷ back) is.apart) in
    let made : IsChain c j (front ++ back) = record {
      path = unlink_path c image j t slot c.head front back (get_or-set_same image t v 0 tb)
          (stays_one c image j c.head front (λ q a. get_or-set_other image t q v 0 a) ways')
          (same c image j t t back frame kb.1 kb.1)
          is.path;
      apart = apart_less slot front back is.apart;
      within = within_less c.slots slot front back is.within;
    } in
    subst (λ (q : ℕ). IsChain c (slice_set image q v) (front ++ back)) e made

-- the same of a chain's calls

pub inserted_is : (c : Chain) (words new : List ℕ) (size : ℕ) (after : Option ℕ) (slot : ℕ) (front back : List ℕ)
    → new ≡ inserted c words after slot → length words ≡ size → Lies c size → slot < c.slots
    → Spread c → after ≡ last_of front → Misses slot (front ++ back)
    → IsChain c words (front ++ back) → IsChain c new (front ++ (slot ∷ back))
inserted_is c words new size after slot front back e n lies below h a m is =
    subst (λ (w : List ℕ). IsChain c w (front ++ (slot ∷ back))) (sym (e ∙ ap (λ o. inserted c words o slot) a))
    (chain_inserted c words front back slot h (subst (λ (k : ℕ). Lies c k) (sym n) lies) below m is)

pub unlinked_is : (c : Chain) (words new : List ℕ) (size : ℕ) (after : Option ℕ) (slot : ℕ) (front back : List ℕ)
    → new ≡ unlinked c words after slot → length words ≡ size → Lies c size
    → Spread c → after ≡ last_of front
    → IsChain c words (front ++ (slot ∷ back)) → IsChain c new (front ++ back)
unlinked_is c words new size after slot front back e n lies h a is =
    subst (λ (w : List ℕ). IsChain c w (front ++ back)) (sym (e ∙ ap (λ o. unlinked c words o slot) a))
    (chain_unlinked c words front back slot h (subst (λ (k : ℕ). Lies c k) (sym n) lies) is)
