-- Words and values tell the image that they stand for, and may begin a table. Zeros and dead values stand for the empty one.
use Rattle.std.proofs.Common.{◌≡◌, ℕ, zero, suc, ◌+◌, ◌-◌, ◌<◌, ◌≤◌, Bool, true, false, List, length, refl, sym, ap, subst, ◌∙◌, arith, drop, length-drop, slice_index, get_or, replicate, None, option_map}
use Rattle.std.specs.Prelude.{nat_le, nat_lt, ◌&&◌, ◌==◌}
use Rattle.std.proofs.lemmas.List.{ext_get_or, get_or-drop, length-replicate}
use mathlib.Core.Option.{some}
use lib.ListN.{get_elem?}
use Rattle.xf_types.specs.ChangeIds.{ChangeIds}
use Rattle.xf_types.specs.Standing.{Standing, Nothing}
use Rattle.xf_types.specs.Steps.{empty}
use Rattle.xf_laws.proofs.KeepLemmas.{empty-is}
use Rattle.xf_cells.specs.Words.{zeros}
use Rattle.xf_trie.proofs.Empties.{zeros_at}
use Rattle.xf_rows.specs.declared.layout.Layout.{Layout}
use Rattle.xf_ownpart.specs.OwnPart.{standing_of, with_own}
use Rattle.xf_seats.specs.Opened.{Opened, start_machine}
use Rattle.xf_meaning.specs.Places.{layout_of, size_of, bucket_ids_place}
use Rattle.xf_meaning.specs.Marks.{AreIds, bucket_of, is_marked}
use Rattle.xf_meaning.specs.Good.{Good}
use Rattle.xf_meaning.specs.Tells.{lists, state_there}
use Rattle.xf_meaning.specs.Machines.{machine, first_ids}
use Rattle.xf_meaning.proofs.Beginnings.{zeros_good, machine_is}
use Rattle.xf_meaning.proofs.Marked.{told_false}
use Rattle.xf_opening.specs.Images.{ImageView, AreSizes, StandsFor, IsAtRest, ids_in, image_in}
use Rattle.xf_opening.specs.Starts.{start_of}

-- the words of the ids are the last ones, so they tell the ids
pub ids_are : (p s : ℕ) (words : List ℕ) (ids : ChangeIds) → AreIds p s words ids → length words ≡ size_of p s → ids_in p s words ≡ ids
ids_are p s words ids are size =
    let from : ℕ = bucket_ids_place p s in
    let l : length (drop from words) ≡ length words - from = length-drop from words in
    let same : length (drop from words) ≡ length ids.of_buckets = omega (arith, l, size, are.count) in
    let each : (i : ℕ) → i < length (drop from words) → get_or (drop from words) i 0 ≡ get_or ids.of_buckets i 0
    = λ i below. get_or-drop from words i 0 ∙ are.of_buckets i (omega (arith, below, l, size)) in
    let all : drop from words ≡ ids.of_buckets = ext_get_or 0 (drop from words) ids.of_buckets same each in
    λ i. record { of_policies = are.of_policies i; of_buckets = all i }

pub image_is : (p s : ℕ) (words : List ℕ) (homes : List Standing) (i : ImageView) → StandsFor p s words homes i → image_in p s words homes ≡ i
image_is p s words homes i stands =
    let m : machine p s words homes ≡ i.machine = machine_is p s words _ i.machine homes stands.good stands.machine refl stands.home.count stands.home.each in
    let ids : ids_in p s words ≡ i.ids = ids_are p s words i.ids stands.good.ids stands.good.size in
    λ k. record { machine = m k; ids = ids k }

-- what they tell is at rest too
pub told_rests : (p s : ℕ) (words : List ℕ) (homes : List Standing) (i : ImageView) → IsAtRest p s words homes i → IsAtRest p s words homes (image_in p s words homes)
told_rests p s words homes i rest = subst (λ (x : ImageView). IsAtRest p s words homes x) (sym (image_is p s words homes i rest.stands)) rest

-- ---- the beginning of a table

pub rest_opens : (seats p s : ℕ) (words : List ℕ) (homes : List Standing) (i : ImageView) → 1 ≤ seats → seats ≤ 16 → IsAtRest p s words homes i
    → Opened bucket_of Good lists machine (start_of seats p s words homes)
rest_opens seats p s words homes i one few rest =
    let mine : IsAtRest p s words homes (image_in p s words homes) = told_rests p s words homes i rest in
    record {
      some_seat = one;
      few_seats = few;
      stands = record { machine = mine.stands.machine; ids = ids_in p s words; stands = mine.stands.good };
      values = mine.stands.home.each;
      count = mine.stands.home.count;
      words = omega (arith, mine.stands.good.size);
      statuses = mine.statuses;
    }

pub rest_begins : (seats p s : ℕ) (words : List ℕ) (homes : List Standing) (i : ImageView) → IsAtRest p s words homes i
    → start_machine machine (start_of seats p s words homes) ≡ i.machine
rest_begins seats p s words homes i rest = ap (λ (x : ImageView). x.machine) (image_is p s words homes i rest.stands)

-- ---- the empty image

no_three : (a b c : Bool) → c ≡ false → (a && b && c) ≡ false
no_three false b c is = refl
no_three true false c is = refl
no_three true true c is = is

replicate_at : {A : Type 0} (x : A) (n k : ℕ) → k < n → get_elem? (replicate n x) k ≡ some x
replicate_at x zero k below = absurd (omega (arith, below))
replicate_at x (suc n) zero below = refl
replicate_at x (suc n) (suc k) below = replicate_at x n k (omega (arith, below))

-- no slot of zeros lists a state
zeros_list : (p s n slot : ℕ) → lists p s (zeros n) slot ≡ None
zeros_list p s n slot = told_false p s (zeros n) (state_there p s (zeros n)) slot unmarked
  where
    unmarked : is_marked p s (zeros n) slot ≡ false
    unmarked = no_three (nat_le p slot) (nat_lt slot (p + s)) (slice_index (zeros n) slot == 1) (ap (λ (k : ℕ). k == 1) (zeros_at n slot))

pub zeros_rest : (p s : ℕ) (homes : List Standing) → AreSizes p s → homes ≡ replicate (p + s) Nothing
    → IsAtRest p s (zeros (size_of p s)) homes (record { machine = empty p s; ids = first_ids })
zeros_rest p s homes sizes are = record {
  sizes = sizes;
  stands = record {
    machine = empty-is p s sizes.most_policies sizes.most_states;
    good = zeros_good p s;
    home = record {
      count = ap (λ (h : List Standing). length h) are ∙ length-replicate (p + s) Nothing;
      each = λ slot below.
          ap (λ (h : List Standing). get_elem? h slot) are ∙ replicate_at Nothing (p + s) slot below
          ∙ ap (λ o. some (standing_of (option_map (with_own (empty p s)) o))) (sym (zeros_list p s (size_of p s) slot));
    };
  };
  statuses = λ slot below. let z : slice_index (zeros (size_of p s)) slot ≡ 0 = zeros_at (size_of p s) slot in omega (arith, z);
}

pub empty_rests : (p s : ℕ) (words : List ℕ) (homes : List Standing) (layout : Layout) → AreSizes p s → layout ≡ layout_of p s → words ≡ zeros (layout.clock + 66)
    → homes ≡ replicate (p + s) Nothing → IsAtRest p s words homes (record { machine = empty p s; ids = first_ids })
empty_rests p s words homes layout sizes places are dead =
    let count : layout.clock + 66 ≡ size_of p s = ap (λ (l : Layout). l.clock + 66) places ∙ omega arith in
    subst (λ (ws : List ℕ). IsAtRest p s ws homes (record { machine = empty p s; ids = first_ids }))
    (sym (are ∙ ap (λ (n : ℕ). zeros n) count)) (zeros_rest p s homes sizes dead)
