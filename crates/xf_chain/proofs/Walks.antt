-- Which slots a walk passes.
use Rattle.std.proofs.Common.{◌≡◌, ℕ, zero, suc, ◌-◌, ◌<◌, ◌≤◌, Bool, true, false, List, [], ◌∷◌, Option, None, Some, length, refl, ap, ◌∙◌, arith, rules, slice_index, ◌||◌, ◌==◌, nat_lt, if◌then◌else◌}
use Rattle.std.proofs.lemmas.Bool.Decides.{nat_tests}
use Rattle.xf_chain.specs.declared.chain.Chain.{Chain}
use Rattle.xf_chain.specs.Chains.{Below, slot_of, place_of, next_in, slots_from, slots_of}
use Rattle.xf_chain.specs.Lists.{Path, IsChain}
use Rattle.xf_chain.proofs.Slots.{slots_fit}

-- the walk with turns enough passes just the slots of the chain
pub walk_path : (c : Chain) (image : List ℕ) (from turns : ℕ) (xs : List ℕ)
    → length xs ≤ turns → Path c image from xs → slots_from c image turns (slot_of c.slots (slice_index image from)) ≡ xs
walk_path c image from zero [] b p = refl
walk_path c image from (suc n) [] b p = ap (λ at. slots_from c image (suc n) at) p
walk_path c image from zero (x ∷ xs) b p = absurd (omega arith)
walk_path c image from (suc n) (x ∷ xs) b p =
    ap (λ at. slots_from c image (suc n) at) p.0 ∙ ap (λ r. x ∷ r) (walk_path c image (place_of c x) n xs (omega arith) p.1)

pub chain_walk : (c : Chain) (image xs : List ℕ) → IsChain c image xs → slots_of c image ≡ xs
chain_walk c image xs is = walk_path c image c.head c.slots xs (slots_fit c.slots xs is.apart is.within) is.path

-- the same slots in words whose links are the same

word_below : (slots word : ℕ) (b : Bool) → ((word == 0) || nat_lt slots word) ≡ b → Below slots (if b then None else Some (word - 1))
word_below slots word true e = search rules
word_below slots word false e = grind (arith, nat_tests)

pub slot_below : (slots word : ℕ) → Below slots (slot_of slots word)
slot_below slots word = word_below slots word ((word == 0) || nat_lt slots word) refl

pub slots_same : (c : Chain) (i j : List ℕ) (left : ℕ) (at : Option ℕ) → ((s : ℕ) → s < c.slots → slice_index j (place_of c s) ≡ slice_index i (place_of c s))
    → Below c.slots at → slots_from c j left at ≡ slots_from c i left at
slots_same c i j zero at f b = refl
slots_same c i j (suc left) None f b = refl
slots_same c i j (suc left) (Some s) f b =
    let e : next_in c j s ≡ next_in c i s = ap (λ w. slot_of c.slots w) (f s b) in
    ap (λ at. s ∷ slots_from c j left at) e ∙ ap (λ r. s ∷ r) (slots_same c i j left (next_in c i s) f (slot_below c.slots (slice_index i (place_of c s))))
