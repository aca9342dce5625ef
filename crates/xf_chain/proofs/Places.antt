-- Where the links of a list of slots lie.
use Rattle.std.proofs.Common.{◌≡◌, ◌≢◌, ℕ, ◌*◌, ◌/◌, ◌<◌, List, [], ◌∷◌, ◌++◌, refl, ap, sym, ◌∙◌, arith, rules}
use Rattle.std.proofs.Math.Nat.{mul-div_cancel_left}
use Rattle.std.specs.Prelude.{⊤}
use Rattle.xf_chain.specs.declared.chain.Chain.{Chain}
use Rattle.xf_chain.specs.Chains.{Lies, place_of, from_of}
use Rattle.xf_chain.specs.Lists.{Misses, Apart, Within, Spread, last_from, last_of}

-- a place is no link of these slots
abbrev pub Clear : Chain → ℕ → List ℕ → Type 0
Clear c p [] = ⊤
Clear c p (x ∷ xs) = (place_of c x ≢ p) × Clear c p xs

-- the places on the way differ
abbrev pub Ways : Chain → ℕ → List ℕ → Type 0
Ways c from [] = ⊤
Ways c from (x ∷ xs) = Clear c from (x ∷ xs) × Ways c (place_of c x) xs

abbrev pub last_place : Chain → ℕ → List ℕ → ℕ
last_place c from [] = from
last_place c from (x ∷ xs) = last_place c (place_of c x) xs

pub place_inj : (c : Chain) (x y : ℕ) → Spread c → place_of c x ≡ place_of c y → x ≡ y
place_inj c x y h e =
    let f : c.stride * x ≡ c.stride * y = omega arith in
    sym (mul-div_cancel_left x h.stride) ∙ (ap (λ n. n / c.stride) f ∙ mul-div_cancel_left y h.stride)

-- a place that is no link of a slot of a list
pub clear_slot : (c : Chain) (x : ℕ) (xs : List ℕ) → Spread c → Misses x xs → Clear c (place_of c x) xs
clear_slot c x [] h m = search rules
clear_slot c x (y ∷ ys) h m = ((λ e. m.0 (sym (place_inj c y x h e))), clear_slot c x ys h m.1)

pub clear_head : (c : Chain) (xs : List ℕ) → Spread c → Within c.slots xs → Clear c c.head xs
clear_head c [] h w = search rules
clear_head c (y ∷ ys) h w = (h.head y w.0, clear_head c ys h w.1)

pub ways : (c : Chain) (from : ℕ) (xs : List ℕ) → Spread c → Clear c from xs → Apart xs → Ways c from xs
ways c from [] h k a = search rules
ways c from (x ∷ xs) h k a = (k, ways c (place_of c x) xs h (clear_slot c x xs h a.0) a.1)

-- the last place of a way

-- the last place is a link of one of the slots
pub last_other : (c : Chain) (p x : ℕ) (xs : List ℕ) → Clear c p (x ∷ xs) → p ≢ last_place c (place_of c x) xs
last_other c p x [] k = λ e. k.0 (sym e)
last_other c p x (y ∷ ys) k = last_other c p y ys k.1

pub last_place_is : (c : Chain) (x : ℕ) (xs : List ℕ) → last_place c (place_of c x) xs ≡ place_of c (last_from x xs)
last_place_is c x [] = refl
last_place_is c x (y ∷ ys) = last_place_is c y ys

pub from_is : (c : Chain) (xs : List ℕ) → last_place c c.head xs ≡ from_of c (last_of xs)
from_is c [] = refl
from_is c (x ∷ xs) = last_place_is c x xs

-- a place that is neither where the way begins nor a link on it isn't its last
pub last_clear : (c : Chain) (p from : ℕ) (xs : List ℕ) → from ≢ p → Clear c p xs → p ≢ last_place c from xs
last_clear c p from [] n k = λ e. n (sym e)
last_clear c p from (x ∷ xs) n k = last_clear c p (place_of c x) xs k.0 k.1

pub last_within : (c : Chain) (size from : ℕ) (xs : List ℕ) → Lies c size → from < size → Within c.slots xs → last_place c from xs < size
last_within c size from [] h b w = b
last_within c size from (x ∷ xs) h b w = last_within c size (place_of c x) xs h (h.links x w.0) w.1

-- a list in two parts

-- the place after the front is no link of the back
pub clear_back : (c : Chain) (from : ℕ) (front back : List ℕ) → Spread c → Clear c from (front ++ back) → Apart (front ++ back)
    → Clear c (last_place c from front) back
clear_back c from [] back h k a = k
clear_back c from (x ∷ xs) back h k a = clear_back c (place_of c x) xs back h (clear_slot c x (xs ++ back) h a.0) a.1

pub clear_front : (c : Chain) (p : ℕ) (front back : List ℕ) → Clear c p (front ++ back) → Clear c p front
clear_front c p [] back k = search rules
clear_front c p (x ∷ xs) back k = (k.0, clear_front c p xs back k.1)

pub clear_rest : (c : Chain) (p : ℕ) (front back : List ℕ) → Clear c p (front ++ back) → Clear c p back
clear_rest c p [] back k = k
clear_rest c p (x ∷ xs) back k = clear_rest c p xs back k.1
