-- The slots of the policies for which words stand.
use Rattle.std.specs.Prelude.{◌≡◌, ◌≢◌, ℕ, ◌<◌, ◌≤◌, List, length}
use Rattle.xf_types.specs.declared.policy.Policy.{Policy}
use Rattle.xf_types.specs.Machine.{Shown}
use Rattle.xf_chain.specs.Lists.{Misses, Apart, Within}
use Rattle.xf_index.specs.Indexes.{slots_in}
use Rattle.xf_image.specs.declared.area.PolicyArea.{PolicyArea}
use Rattle.xf_image.specs.Policies.{PoliciesStand}
use Rattle.xf_image.specs.Readings.{listed_in}
use Rattle.xf_image.specs.Entries.{IsEntry, entries_with, slot_left, slot_warned}

pub record SlotLaws : Type 0 where
  -- they are the slots that the chain of all passes
  pub listed : (a : PolicyArea) (image : List ℕ) (s : Shown) (entries : List (ℕ × Policy)) → PoliciesStand a image s entries → listed_in a image ≡ slots_in entries
  -- so the words tell which policy stands in which slot
  pub one : (a : PolicyArea) (image : List ℕ) (s : Shown) (entries others : List (ℕ × Policy)) → PoliciesStand a image s entries → PoliciesStand a image s others → entries ≡ others
  -- they differ, and are slots of the area
  pub differ : (a : PolicyArea) (image : List ℕ) (s : Shown) (entries : List (ℕ × Policy)) → PoliciesStand a image s entries → Apart (slots_in entries)
  pub within : (a : PolicyArea) (image : List ℕ) (s : Shown) (entries : List (ℕ × Policy)) → PoliciesStand a image s entries → Within a.slots (slots_in entries)
  -- so there are no more policies than slots, and fewer where another slot is free
  pub few : (a : PolicyArea) (image : List ℕ) (s : Shown) (entries : List (ℕ × Policy)) → PoliciesStand a image s entries → length s.policies ≤ a.slots
  pub room : (a : PolicyArea) (image : List ℕ) (s : Shown) (entries : List (ℕ × Policy)) (slot : ℕ) → PoliciesStand a image s entries
      → slot < a.slots → Misses slot (slots_in entries) → length s.policies < s.max_policies
  -- a slot that was left is free
  pub left : (slot : ℕ) (entries : List (ℕ × Policy)) → Misses slot (slots_in (slot_left slot entries))
  -- a policy that stays listed keeps its slot
  pub stays_added : (entries : List (ℕ × Policy)) (slot new : ℕ) (p q : Policy) → IsEntry entries slot p → IsEntry (entries_with new q entries) slot p
  pub stays_left : (entries : List (ℕ × Policy)) (slot gone : ℕ) (p : Policy) → slot ≢ gone → IsEntry entries slot p → IsEntry (slot_left gone entries) slot p
  pub stays_warned : (entries : List (ℕ × Policy)) (slot warned : ℕ) (p : Policy) → slot ≢ warned → IsEntry entries slot p → IsEntry (slot_warned warned entries) slot p
