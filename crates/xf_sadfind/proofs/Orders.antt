-- The states in the order of adding, and how many there are.
use Rattle.std.proofs.Common.{◌≡◌, ℕ, zero, suc, ◌-◌, ◌≤◌, ◌==◌, Bool, false, cond, List, [], ◌∷◌, Some, length, refl, ap, sym, ◌∙◌, arith, slice_index}
use Rattle.std.proofs.lemmas.Bool.Decides.{nat_tests}
use Rattle.std.specs.List.{slice_get}
use Rattle.xf_types.specs.declared.state.Sa.{Sa}
use Rattle.xf_types.specs.Machine.{Shown}
use Rattle.xf_chain.specs.Chains.{slots_of}
use Rattle.xf_chain.specs.Families.{chain_at}
use Rattle.xf_index.specs.Indexes.{slots_in}
use Rattle.xf_index.proofs.Alls.{all_walk, all_fit}
use Rattle.xf_index.proofs.Entries.{records_length}
use Rattle.xf_sadidx.specs.declared.area.StateArea.{StateArea}
use Rattle.xf_sadidx.specs.Layout.{order_of, count_place}
use Rattle.xf_sadimage.specs.States.{everyone, StatesLinked, StatesStand}
use Rattle.xf_sadfind.specs.Slots.{nth_slot}

-- the walk along all
pub order_walk : (a : StateArea) (image : List ℕ) (es : List (ℕ × Sa)) → StatesLinked a image es → slots_of (chain_at (order_of a) 0) image ≡ slots_in es
order_walk a image es st = all_walk (order_of a) image everyone es (λ s. refl) (omega arith) st.order

pub nth_is : (place : ℕ) (slots : List ℕ) → nth_slot place slots ≡ slice_get slots place
nth_is place [] = refl
nth_is zero (slot ∷ slots) = refl
nth_is (suc n) (slot ∷ slots) =
    let m : suc n - 1 ≡ n = omega arith in
    let z : (suc n == 0) ≡ false = grind (arith, nat_tests) in
    ap (λ (b : Bool). cond b (Some slot) (nth_slot (suc n - 1) slots)) z ∙ ap (λ (k : ℕ). nth_slot k slots) m ∙ nth_is n slots

-- the word of the count is below the number of slots, or that number
pub count_word : (a : StateArea) (image : List ℕ) (s : Shown) (es : List (ℕ × Sa)) → StatesStand a image s es
    → (slice_index image (count_place a) ≡ length s.states) × (length s.states ≤ a.slots)
count_word a image s es st =
    let counters = st.counters in
    let linked = st.linked in
    let same : length s.states ≡ length es = ap length (sym st.listed) ∙ records_length es in
    let fit : length es ≤ a.slots = all_fit (order_of a) image everyone es (λ r. refl) (omega arith) linked.order in
    (counters.count, omega (arith, same, fit))
