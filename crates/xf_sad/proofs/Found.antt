-- What stands in a slot of the list.
use Rattle.std.proofs.Common.{◌≡◌, ℕ, ◌<◌, List, ◌∷◌, ◌++◌, Option, None, Some, length, refl, ap, sym, ◌∙◌, subst, arith}
use Rattle.xf_types.specs.declared.state.Sa.{Sa}
use Rattle.xf_types.specs.declared.state.SaSpec.{SaSpec}
use Rattle.xf_types.specs.Machine.{Shown}
use Rattle.xf_types.specs.StateRules.{refreshed_record}
use Rattle.xf_chain.specs.Lists.{Misses, Apart, Within}
use Rattle.xf_chain.proofs.Slots.{slots_fit}
use Rattle.xf_index.specs.Indexes.{slots_in}
use Rattle.xf_index.proofs.Alls.{all_walk}
use Rattle.xf_index.proofs.Entries.{slots_append, slots_length, records_length, misses_taken}
use Rattle.xf_index.proofs.Holds.{holds_at}
use Rattle.xf_records.specs.States.{dying_now}
use Rattle.xf_sadidx.specs.declared.area.StateArea.{StateArea}
use Rattle.xf_sadidx.specs.declared.kind.Kind.{Kind}
use Rattle.xf_sadidx.specs.declared.kind.Kind.TheVariants.{Spi, Route, Seq}
use Rattle.xf_sadidx.specs.Keys.{key_of}
use Rattle.xf_sadidx.specs.Layout.{order_of, record_at}
use Rattle.xf_sadimage.specs.States.{everyone, StatesStand}
use Rattle.xf_sad.specs.Slots.{listed_in}

-- the record of a state that stands in a slot
pub state_is : (a : StateArea) (image : List ℕ) (s : Shown) (slot : ℕ) (front back : List (ℕ × Sa)) (r : Sa) → StatesStand a image s (front ++ ((slot, r) ∷ back))
    → record_at a image slot ≡ Some r
state_is a image s slot front back r st =
    let chained = st.chained in
    holds_at (λ x. record_at a image x) (λ q. Some q) slot r front back chained.records

some_is : (x y : Sa) (o : Option Sa) → o ≡ Some x → o ≡ Some y → x ≡ y
some_is x y o e h = let k : Some x ≡ Some y = sym e ∙ h in cc

-- so it is what is found there
pub found_is : (a : StateArea) (image : List ℕ) (s : Shown) (slot : ℕ) (front back : List (ℕ × Sa)) (r x : Sa) (o : Option Sa)
    → o ≡ record_at a image slot → o ≡ Some x → StatesStand a image s (front ++ ((slot, r) ∷ back)) → r ≡ x
found_is a image s slot front back r x o e h st = some_is r x o (e ∙ state_is a image s slot front back r st) h

-- and something is
pub found_some : (a : StateArea) (image : List ℕ) (s : Shown) (slot : ℕ) (front back : List (ℕ × Sa)) (r : Sa) (o : Option Sa)
    → o ≡ record_at a image slot → o ≡ None → StatesStand a image s (front ++ ((slot, r) ∷ back)) → ⊥
found_some a image s slot front back r o e h st = let k : None ≡ Some r = sym h ∙ e ∙ state_is a image s slot front back r st in absurd (cc)

-- ---- the slots

-- they are those that the chain of all passes
pub listed_is : (a : StateArea) (image : List ℕ) (s : Shown) (es : List (ℕ × Sa)) → StatesStand a image s es → listed_in a image ≡ slots_in es
listed_is a image s es st = let linked = st.linked in all_walk (order_of a) image everyone es (λ r. refl) (omega arith) linked.order

pub listed_between : (a : StateArea) (image : List ℕ) (s : Shown) (front back : List (ℕ × Sa)) (slot : ℕ) (r : Sa) → StatesStand a image s (front ++ ((slot, r) ∷ back))
    → listed_in a image ≡ slots_in front ++ (slot ∷ slots_in back)
listed_between a image s front back slot r st = listed_is a image s (front ++ ((slot, r) ∷ back)) st ∙ slots_append front ((slot, r) ∷ back)

pub misses_between : (a : StateArea) (image : List ℕ) (s : Shown) (front back : List (ℕ × Sa)) (slot : ℕ) (r : Sa) → StatesStand a image s (front ++ ((slot, r) ∷ back))
    → Misses slot (slots_in front ++ slots_in back)
misses_between a image s front back slot r st =
    let chained = st.chained in
    subst (λ (xs : List ℕ). Misses slot xs) (slots_append front back) (misses_taken front back slot r chained.apart)

pub listed_length : (a : StateArea) (image : List ℕ) (s : Shown) (es : List (ℕ × Sa)) → StatesStand a image s es → length (listed_in a image) ≡ length s.states
listed_length a image s es st = ap length (listed_is a image s es st) ∙ slots_length es ∙ sym (records_length es) ∙ ap length st.listed

-- a slot that isn't among them leaves room
pub room_left : (a : StateArea) (image : List ℕ) (s : Shown) (es : List (ℕ × Sa)) (slot : ℕ) → StatesStand a image s es → slot < a.slots → Misses slot (slots_in es)
    → length s.states < s.max_states
room_left a image s es slot st below miss =
    let chained = st.chained in
    let l = slots_fit a.slots (slot ∷ slots_in es) (miss, chained.apart) (below, chained.within) in
    let e : length (slots_in es) ≡ length s.states = slots_length es ∙ sym (records_length es) ∙ ap length st.listed in
    let r = st.room in
    omega (arith, l, e, r)

-- ---- what changes in a record is no key

pub dying_keys : (r : Sa) (kind : Kind) → key_of kind (dying_now r) ≡ key_of kind r
dying_keys r Spi = refl
dying_keys r Route = refl
dying_keys r Seq = refl

pub refreshed_keys : (spec : SaSpec) (r : Sa) (kind : Kind) → key_of kind (refreshed_record spec r) ≡ key_of kind r
refreshed_keys spec r Spi = refl
refreshed_keys spec r Route = refl
refreshed_keys spec r Seq = refl

-- no two states have the same slot, and each slot is one of the area
pub stands_apart : (a : StateArea) (image : List ℕ) (s : Shown) (es : List (ℕ × Sa)) → StatesStand a image s es → Apart (slots_in es)
stands_apart a image s es st = let chained = st.chained in chained.apart

pub stands_within : (a : StateArea) (image : List ℕ) (s : Shown) (es : List (ℕ × Sa)) → StatesStand a image s es → Within a.slots (slots_in es)
stands_within a image s es st = let chained = st.chained in chained.within
