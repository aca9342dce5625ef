-- The state that a lookup found is listed, and words that others wrote don't matter.
use Rattle.std.proofs.Common.{arith, ℕ, ◌≡◌, ◌<◌, ◌≤◌, Bool, List, ◌∷◌, ◌++◌, length, ap, sym, ◌∙◌, subst, Option, Some}
use Rattle.xf_types.specs.declared.state.Sa.{Sa}
use Rattle.xf_types.specs.Machine.{Machine, Shown}
use Rattle.xf_types.specs.StateList.{last_of}
use Rattle.std.specs.Prelude.{find}
use Rattle.xf_index.specs.Indexes.{slots_in}
use Rattle.xf_image.specs.Frames.{Frame}
use Rattle.xf_inexact.specs.Whole.{whole_end}
use Rattle.xf_sadidx.specs.declared.area.StateArea.{StateArea}
use Rattle.xf_sadimage.specs.States.{StatesStand}
use Rattle.xf_sadimage.proofs.Keeping.{stands_kept}
use Rattle.xf_sad.specs.Slots.{PoolFits, is_in, listed_in}
use Rattle.xf_sad.proofs.Found.{listed_is, listed_between}
use Rattle.xf_sad.proofs.Pools.{in_between}
use Rattle.xf_rows.specs.declared.layout.Layout.{Layout}
use Rattle.xf_rows.specs.Layouts.{Fits}
use Rattle.xf_rows.specs.Rows.{Row, entries_in}
use Rattle.xf_rows.specs.Values.{Beside}
use Rattle.xf_rows.specs.Stands.{Stands}
use Rattle.xf_rows.specs.Finds.{FoundAt}
use Rattle.xf_rows.proofs.Lists.{entries_append}
use Rattle.xf_rows.proofs.Finding.{first_found, latest_found}
use Rattle.xf_statecalls.specs.Ready.{Stood}
use Rattle.xf_traffic.specs.Found.{IsLatest, IsFirst, HasState}

-- the words with the found state between the others
pub stands_at : (layout : Layout) (i : List ℕ) (b : Beside) (m : Machine) (test : Sa → Bool) (slot : ℕ) (found : Option Sa) (r : Stands layout i b m)
    (f : FoundAt b m r.rows test slot found)
    → StatesStand layout.states i m.shown (entries_in f.place.front ++ ((slot, f.row.1.0) ∷ entries_in f.place.back))
stands_at layout i b m test slot found r f =
    let x : Row = f.row in
    let es : entries_in r.rows ≡ entries_in f.place.front ++ ((x.0, x.1.0) ∷ entries_in f.place.back) =
    ap (λ (xs : List Row). entries_in xs) f.place.whole ∙ entries_append f.place.front (x ∷ f.place.back) in
    subst (λ (n : ℕ). StatesStand layout.states i m.shown (entries_in f.place.front ++ ((n, x.1.0) ∷ entries_in f.place.back))) f.slot_is
    (subst (λ (xs : List (ℕ × Sa)). StatesStand layout.states i m.shown xs) es r.on_states)

has_state : (layout : Layout) (i : List ℕ) (b : Beside) (m : Machine) (test : Sa → Bool) (slot : ℕ) (found : Option Sa) (r : Stands layout i b m)
    → FoundAt b m r.rows test slot found → HasState layout.states i slot
has_state layout i b m test slot found r f = record {
  shown = m.shown;
  front = entries_in f.place.front;
  back = entries_in f.place.back;
  state = f.row.1.0;
  stands = stands_at layout i b m test slot found r f;
}

-- what a lookup of each kind found
pub at_latest : (layout : Layout) (i : List ℕ) (b : Beside) (m : Machine) (test : Sa → Bool) (slot : ℕ) (r : Stands layout i b m)
    → IsLatest layout.states i test (Some slot) → FoundAt b m r.rows test slot (last_of test m.shown.states)
at_latest layout i b m test slot r is = latest_found layout i b m test slot r (is.is m.shown (entries_in r.rows) r.on_states)

pub at_first : (layout : Layout) (i : List ℕ) (b : Beside) (m : Machine) (test : Sa → Bool) (slot : ℕ) (r : Stands layout i b m)
    → IsFirst layout.states i test (Some slot) → FoundAt b m r.rows test slot (find test m.shown.states)
at_first layout i b m test slot r is = first_found layout i b m test slot r (is.is m.shown (entries_in r.rows) r.machine.shown.states r.on_states)

pub latest_listed : (layout : Layout) (i : List ℕ) (b : Beside) (test : Sa → Bool) (slot : ℕ) → Stood layout i b
    → IsLatest layout.states i test (Some slot) → HasState layout.states i slot
latest_listed layout i b test slot h is =
    has_state layout i b h.machine test slot (last_of test h.machine.shown.states) h.stands (at_latest layout i b h.machine test slot h.stands is)

pub first_listed : (layout : Layout) (i : List ℕ) (b : Beside) (test : Sa → Bool) (slot : ℕ) → Stood layout i b
    → IsFirst layout.states i test (Some slot) → HasState layout.states i slot
first_listed layout i b test slot h is =
    has_state layout i b h.machine test slot (find test h.machine.shown.states) h.stands (at_first layout i b h.machine test slot h.stands is)

-- a pool that fits takes back its slot
pub takes_back : (a : StateArea) (i : List ℕ) (slot all out : ℕ) (gives takes : ℕ → Type 0) → HasState a i slot
    → PoolFits all out gives takes a.slots (listed_in a i) → takes slot
takes_back a i slot all out gives takes h fits =
    fits.back slot (ap (λ (xs : List ℕ). is_in slot xs) (listed_between a i h.shown h.front h.back slot h.state h.stands) ∙ in_between (slots_in h.front) (slots_in h.back) slot)

-- each slot has a value
pub valued : (layout : Layout) (i : List ℕ) (b : Beside) (slot : ℕ) → Stood layout i b → slot < layout.states.slots → slot < length b.values
valued layout i b slot h below = subst (λ (n : ℕ). slot < n) (sym h.stands.count) below

-- ---- words of others

-- the slots of the list are the same where words before the layout changed
pub listed_apart : (layout : Layout) (i j : List ℕ) (s : Shown) (es : List (ℕ × Sa)) (hidden : ℕ) → Fits layout (length i) → hidden ≤ layout.policies.base
    → Frame 0 hidden i j → StatesStand layout.states i s es → listed_in layout.states j ≡ listed_in layout.states i
listed_apart layout i j s es hidden fits low frame st =
    let order : whole_end layout.policies ≤ layout.states.base = fits.order in
    let same : StatesStand layout.states j s es =
    stands_kept layout.states i j s es fits.states (λ q from to. frame.above q (omega (arith, low, order, from))) st in
    listed_is layout.states j s es same ∙ sym (listed_is layout.states i s es st)

-- a state that has another record stands in its slot
pub listed_changed : (a : StateArea) (i j : List ℕ) (s t : Shown) (front back : List (ℕ × Sa)) (slot : ℕ) (x y : Sa)
    → StatesStand a i s (front ++ ((slot, x) ∷ back)) → StatesStand a j t (front ++ ((slot, y) ∷ back)) → listed_in a j ≡ listed_in a i
listed_changed a i j s t front back slot x y st tt_ =
    listed_between a j t front back slot y tt_ ∙ sym (listed_between a i s front back slot x st)
