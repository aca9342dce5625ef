-- New words, values and pools are whole.
use Rattle.std.proofs.Common.{arith, ℕ, ◌≡◌, true, List, [], ◌∷◌, length, ap, sym, ◌∙◌, subst}
use Rattle.xf_types.specs.Machine.{Machine}
use Rattle.xf_types.specs.Steps.{empty}
use Rattle.xf_cells.specs.Pools.{IsFull}
use Rattle.xf_image.specs.Readings.{listed_in}
use Rattle.xf_spd.specs.Slots as policies
use Rattle.xf_spd.proofs.Inserted as policies_listed
use Rattle.xf_sad.specs.Slots as states
use Rattle.xf_sad.proofs.Found as states_listed
use Rattle.xf_rows.specs.declared.layout.Layout.{Layout}
use Rattle.xf_rows.specs.Layouts.{Fits}
use Rattle.xf_rows.specs.Readings.{machine_in}
use Rattle.xf_rows.specs.Rows.{entries_in}
use Rattle.xf_rows.specs.Stands.{Stands}
use Rattle.xf_rows.specs.Values.{Beside}
use Rattle.xf_rows.proofs.Reading.{machine_told}
use Rattle.xf_calls.specs.Whole.{IsWhole}

new_policies : (slots all out : ℕ) (gives takes : ℕ → Type 0) (list : List ℕ) → length list ≡ 0 → IsFull slots all out gives → policies.PoolFits all out gives takes slots list
new_policies slots all out gives takes [] e full = record {
  capacity = full.room;
  taken = full.none;
  below = full.only;
  free = λ slot h. tt;
  back = λ slot h. absurd (cc);
}
new_policies slots all out gives takes (x ∷ list) e full = absurd (omega (arith, e))

new_states : (slots all out : ℕ) (gives takes : ℕ → Type 0) (list : List ℕ) → length list ≡ 0 → IsFull slots all out gives → states.PoolFits all out gives takes slots list
new_states slots all out gives takes [] e full = record {
  capacity = full.room;
  taken = full.none;
  below = full.only;
  free = λ slot h. tt;
  back = λ slot h. absurd (cc);
}
new_states slots all out gives takes (x ∷ list) e full = absurd (omega (arith, e))

-- what they stand for is what they tell
pub new_told : (layout : Layout) (i : List ℕ) (b : Beside) (p q : ℕ) → ((slot : ℕ) → b.held slot ≡ true) → layout.policies.slots ≡ p → layout.states.slots ≡ q
    → Stands layout i b (empty layout.policies.slots layout.states.slots) → machine_in layout i b.values ≡ empty p q
new_told layout i b p q held few many st =
    sym (machine_told layout i b (empty layout.policies.slots layout.states.slots) st held)
    ∙ ap (λ (k : ℕ). empty k layout.states.slots) few ∙ ap (λ (k : ℕ). empty p k) many

pub new_whole : (layout : Layout) (i : List ℕ) (b : Beside) (pa po : ℕ) (pg pt : ℕ → Type 0) (sa so : ℕ) (sg st : ℕ → Type 0) (p q : ℕ)
    → Fits layout (length i) → ((slot : ℕ) → b.held slot ≡ true) → layout.policies.slots ≡ p → layout.states.slots ≡ q
    → Stands layout i b (empty layout.policies.slots layout.states.slots) → IsFull p pa po pg → IsFull q sa so sg
    → IsWhole layout i b pa po pg pt sa so sg st
new_whole layout i b pa po pg pt sa so sg st p q fits held few many r full full_states =
    let m : Machine = empty layout.policies.slots layout.states.slots in
    record {
      fits = fits;
      turns = held;
      stands = subst (λ (k : Machine). Stands layout i b k) (machine_told layout i b m r held) r;
      policy_slots = new_policies layout.policies.slots pa po pg pt (listed_in layout.policies i)
          (policies_listed.listed_length layout.policies i m.shown r.policies r.on_policies) (subst (λ (k : ℕ). IsFull k pa po pg) (sym few) full);
      state_slots = new_states layout.states.slots sa so sg st (states.listed_in layout.states i)
          (states_listed.listed_length layout.states i m.shown (entries_in r.rows) r.on_states) (subst (λ (k : ℕ). IsFull k sa so sg) (sym many) full_states);
    }
