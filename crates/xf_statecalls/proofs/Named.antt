-- The entry of the state that an id names.
use Rattle.std.proofs.Common.{ℕ, ◌≡◌, Bool, List, Some, sym, subst}
use Rattle.xf_types.specs.declared.state.Sa.{Sa}
use Rattle.xf_types.specs.Machine.{Shown}
use Rattle.xf_index.specs.Finds.{slot_found}
use Rattle.xf_sadidx.specs.declared.area.StateArea.{StateArea}
use Rattle.xf_sadidx.specs.Founds.{latest_in}
use Rattle.xf_sadidx.specs.Layout.{record_at}
use Rattle.xf_sadimage.specs.States.{StatesStand}
use Rattle.xf_sad.specs.Slots.{IsListed}
use Rattle.xf_sad.proofs.Found.{state_is}
use Rattle.xf_sad.proofs.Rules.{IsEntry, latest_entry, entry_listed}
use Rattle.xf_sad.proofs.Updates.{Pair, found_pair}

-- The last entry that passes is that of the slot, and its record stands there.
pub record NamedAt (a : StateArea) (image : List ℕ) (entries : List (ℕ × Sa)) (test : Sa → Bool) (slot : ℕ) : Type 0 where
  pub state : Sa
  pub latest : latest_in test entries ≡ Some (slot, state)
  pub record_is : record_at a image slot ≡ Some state
  pub listed : IsListed entries slot

pub named_at : (a : StateArea) (i : List ℕ) (s : Shown) (es : List (ℕ × Sa)) (test : Sa → Bool) (slot : ℕ) → StatesStand a i s es → Some slot ≡ slot_found (latest_in test es)
    → NamedAt a i es test slot
named_at a i s es test slot st is =
    let p : Pair (latest_in test es) slot = found_pair (latest_in test es) slot (sym is) in
    let e : IsEntry es slot p.state = latest_entry test es slot p.state p.is in
    record {
      state = p.state;
      latest = p.is;
      record_is = state_is a i s slot e.front e.behind p.state (subst (λ (fs : List (ℕ × Sa)). StatesStand a i s fs) e.whole st);
      listed = entry_listed es slot p.state e;
    }
