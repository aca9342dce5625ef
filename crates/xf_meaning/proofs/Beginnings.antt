-- The words at the beginning: zeros, and words that values stand beside.
use Rattle.std.proofs.Common.{◌≡◌, ℕ, zero, suc, ◌+◌, ◌-◌, ◌<◌, Bool, true, false, List, [], ◌∷◌, length, refl, sym, ap, ◌∙◌, arith, Option, Some, None, slice_index, get_or, map, drop, length-drop}
use Rattle.std.proofs.lemmas.List.{length-replicate, length-map}
use Rattle.std.proofs.lemmas.List.Elements.{All-nil}
use mathlib.Core.Option.{some, some-injective, some-ne-none}
use lib.ListN.{get_elem?}
use Rattle.xf_types.specs.Machine.{Machine}
use Rattle.xf_types.specs.IsMachine.{IsMachine}
use Rattle.xf_types.specs.Standing.{Standing}
use Rattle.xf_types.specs.Steps.{empty}
use Rattle.xf_cells.specs.Words.{zeros}
use Rattle.xf_trie.proofs.Empties.{zeros_at}
use Rattle.xf_image.proofs.Empties as policies
use Rattle.xf_inexact.specs.Whole.{trees_of}
use Rattle.xf_inexact.proofs.Empties.{part_empty, zeros_empty}
use Rattle.xf_sadimage.proofs.Empties as states
use Rattle.xf_local.specs.View.{Dead, standing_of as value_standing}
use Rattle.xf_rows.specs.Values.{Beside}
use Rattle.xf_rows.proofs.Reading.{machine_told}
use Rattle.xf_views.specs.declared.entry.Listed.{Listed}
use Rattle.xf_invariant.specs.Meaning.{Told, told}
use Rattle.xf_ownpart.specs.OwnPart.{listed_at, standing_of}
use Rattle.xf_meaning.specs.Places.{bucket_count, policies_of, states_of, layout_of, policy_id_place, bucket_ids_place, size_of}
use Rattle.xf_meaning.specs.Marks.{AreMarked, is_marked}
use Rattle.xf_meaning.specs.Good.{Good}
use Rattle.xf_meaning.specs.Tells.{state_there, lists}
use Rattle.xf_meaning.specs.Machines.{value_of, values_of, machine, first_ids}
use Rattle.xf_meaning.specs.Beside.{AreBeside}
use Rattle.xf_meaning.proofs.Marked.{Marked, marked_says, told_false}
use Rattle.xf_meaning.proofs.GoodWords.{good_stands}

none_marked : (first count size : ℕ) → AreMarked first count (zeros size) []
none_marked first count size = record {
  listed = All-nil (λ slot. slice_index (zeros size) (first + slot) ≡ 1);
  others = λ slot l miss e. let z : slice_index (zeros size) (first + slot) ≡ 0 = zeros_at size (first + slot) in omega (arith, z, e);
}

-- words that are all 0 stand for the empty machine, with no change of anything
pub zeros_good : (p s : ℕ) → Good p s (zeros (size_of p s)) (told (empty p s).shown first_ids)
zeros_good p s =
    let size : ℕ = size_of p s in
    record {
      policies = [];
      states = [];
      on_policies = record {
        list = policies.zeros_stand (policies_of p s) size s;
        part = part_empty (trees_of (policies_of p s)) (zeros size) (32, 32) (128, 128) (zeros_empty (trees_of (policies_of p s)) size);
      };
      on_states = states.zeros_stand (states_of p s) size p;
      time = zeros_at size (layout_of p s).clock;
      policies_marked = none_marked 0 p size;
      states_marked = none_marked p s size;
      ids = record {
        of_policies = zeros_at size (policy_id_place p s);
        count = length-replicate {A = ℕ} bucket_count 0;
        of_buckets = λ bucket l. zeros_at size (bucket_ids_place p s + bucket) ∙ sym (zeros_at bucket_count bucket);
      };
      size = length-replicate {A = ℕ} size 0;
    }

-- ---- values at home

map_at : {A B : Type 0} (f : A → B) (d : B) (xs : List A) (k : ℕ) (x : A) → get_elem? xs k ≡ some x → get_or (map f xs) k d ≡ f x
map_at f d [] k x e = absurd (some-ne-none x (sym e))
map_at f d (y ∷ ys) zero x e = ap f (some-injective y x e)
map_at f d (y ∷ ys) (suc k) x e = map_at f d ys k x e

behind_at : {A B : Type 0} (f : A → B) (d : B) (p : ℕ) (xs : List A) (j k : ℕ) (x : A) → j ≡ p + k → get_elem? xs j ≡ some x → get_or (map f (drop p xs)) k d ≡ f x
behind_at f d zero xs j k x is e = let same : j ≡ k = omega (arith, is) in map_at f d xs k x (ap (λ (n : ℕ). get_elem? xs n) (sym same) ∙ e)
behind_at f d (suc p) [] j k x is e = absurd (some-ne-none x (sym e))
behind_at f d (suc p) (y ∷ ys) zero k x is e = absurd (omega (arith, is))
behind_at f d (suc p) (y ∷ ys) (suc j) k x is e = behind_at f d p ys j k x (omega (arith, is)) e

same_standing : (o : Option Listed) → value_standing (value_of (standing_of o)) ≡ standing_of o
same_standing None = refl
same_standing (Some l) = refl

-- where good words list nothing but what the values at home stand for, the values stand beside them
pub homes_beside : (p s : ℕ) (image : List ℕ) (m : Machine) (homes : List Standing) (held : ℕ → Bool) → length homes ≡ p + s
    → ((slot : ℕ) → slot < p + s → get_elem? homes slot ≡ some (standing_of (listed_at (lists p s) m image slot)))
    → AreBeside p s image m (record { held = held; values = values_of p homes })
homes_beside p s image m homes held count values = record {
  count =
      let a : length (map value_of (drop p homes)) ≡ length (drop p homes) = length-map (drop p homes) value_of in
      let b : length (drop p homes) ≡ length homes - p = length-drop p homes in
      omega (arith, a, b, count);
  held = λ slot l h.
      let there : ℕ = p + slot in
      ap value_standing (behind_at value_of Dead p homes (p + slot) slot (standing_of (listed_at (lists p s) m image (p + slot))) refl (values (p + slot) (omega (arith, l))))
      ∙ same_standing (listed_at (lists p s) m image (p + slot));
}

-- then they tell the machine
pub machine_is : (p s : ℕ) (image : List ℕ) (t : Told) (m : Machine) (homes : List Standing) → Good p s image t → IsMachine m → t.shown ≡ m.shown → length homes ≡ p + s
    → ((slot : ℕ) → slot < p + s → get_elem? homes slot ≡ some (standing_of (listed_at (lists p s) m image slot)))
    → machine p s image homes ≡ m
machine_is p s image t m homes g is same count values =
    let b : Beside = record { held = λ (slot : ℕ). true; values = values_of p homes } in
    sym (machine_told (layout_of p s) image b m (good_stands p s image t g m is same b (homes_beside p s image m homes (λ (slot : ℕ). true) count values)) (λ slot. refl))

-- a slot of a policy lists no state
pub policy_slot : (p s : ℕ) (image : List ℕ) (slot : ℕ) → slot < p → lists p s image slot ≡ None
policy_slot p s image slot l = at (is_marked p s image slot) refl
  where
    at : (b : Bool) → is_marked p s image slot ≡ b → lists p s image slot ≡ None
    at false is = told_false p s image (state_there p s image) slot is
    at true is = let m : Marked p s image slot = marked_says p s image slot is in let e : slot ≡ p + m.number = m.is in absurd (omega (arith, e, l))
