-- The index that is chosen is the machine's.
use Rattle.std.proofs.Common.{◌≡◌, ℕ, ◌+◌, ◌-◌, ◌*◌, ◌<◌, ◌==◌, Bool, true, false, not, ◌&&◌, List, refl, ap, ◌∙◌, arith, if◌then◌else◌}
use Rattle.xf_types.specs.declared.policy.Policy.{Policy}
use Rattle.xf_types.specs.declared.policy.PolicySpec.{PolicySpec}
use Rattle.xf_types.specs.declared.call.Reply.TheVariants as reply
use Rattle.xf_types.specs.Changes.{Answer, answer, InPlace}
use Rattle.xf_types.specs.Counters.{first_free, next_in}
use Rattle.xf_types.specs.IsMachine.{IsInRoom, IsInRange}
use Rattle.xf_types.specs.Machine.{Shown}
use Rattle.xf_types.specs.PolicyRules.{last_index, is_index_taken, free_number, added_with_index, with_policy}
use Rattle.xf_types.specs.Same.{dir_number}
use Rattle.xf_image.specs.declared.area.PolicyArea.{PolicyArea}
use Rattle.xf_image.specs.Entries.{new_policy, with_listed}
use Rattle.xf_image.specs.Policies.{PoliciesStand}
use Rattle.xf_image.specs.Readings.{next_index_in}
use Rattle.xf_listing.specs.declared.entry.Choice.{Choice}
use Rattle.xf_listing.specs.Header.{count_in}
use Rattle.xf_listing.specs.Walks.{is_taken_in, free_in}
use Rattle.xf_listing.specs.Calls.{choice_in}
use Rattle.xf_listing.proofs.Free.{free_same}
use Rattle.xf_listing.proofs.Named.{taken_is}
use Rattle.xf_listing.proofs.Reading.{count_is, next_index_is}

pub free_is : (a : PolicyArea) (image : List ℕ) (s : Shown) (es : List (ℕ × Policy)) (spec : PolicySpec) → IsInRoom s → IsInRange s → PoliciesStand a image s es
    → free_in a image (dir_number spec.dir) (next_index_in a image) (count_in a image) ≡ free_number s spec.dir
free_is a image s es spec room range g =
    free_same (λ k. is_taken_in a image (8 * k + dir_number spec.dir)) (λ k. is_index_taken s (8 * k + dir_number spec.dir)) last_index (next_index_in a image) (count_in a image)
    (λ k. taken_is a image s es (8 * k + dir_number spec.dir) g)
    ∙ (ap (λ (k : ℕ). first_free (λ k. is_index_taken s (8 * k + dir_number spec.dir)) last_index k (count_in a image)) (next_index_is a image s es range g)
    ∙ ap (λ (n : ℕ). first_free (λ k. is_index_taken s (8 * k + dir_number spec.dir)) last_index s.next_index n) (count_is a image s es room g))

-- what is listed with an index and a counter
abbrev pub listed_as : Shown → PolicySpec → ℕ → ℕ → Answer
listed_as s spec index next = answer (reply.DoneIndex index) (InPlace (with_listed s (new_policy s spec index) next))

next_some : (k : ℕ) → next_in last_index k - 1 + 1 ≡ next_in last_index k
next_some k = by (k == last_index) k
  where
    by : (b : Bool) (k : ℕ) → (if b then 1 else (k + 1)) - 1 + 1 ≡ (if b then 1 else (k + 1))
    by true k = refl
    by false k = omega arith

chosen : PolicyArea → List ℕ → PolicySpec → Bool → Choice
chosen a image spec b =
    if b then record { index = spec.index; word = next_index_in a image - 1 }
    else (let k = free_in a image (dir_number spec.dir) (next_index_in a image) (count_in a image) in
    record { index = 8 * k + dir_number spec.dir; word = next_in last_index k - 1 })

added_by : Shown → PolicySpec → Bool → Answer
added_by s spec b =
    if b then answer (reply.DoneIndex spec.index) (InPlace (with_policy s spec spec.index s.policies))
    else (let k = free_number s spec.dir in let index = 8 * k + dir_number spec.dir in
    answer (reply.DoneIndex index) (InPlace (with_policy (record s { next_index = next_in last_index k }) spec index s.policies)))

chosen_by : (a : PolicyArea) (image : List ℕ) (s : Shown) (es : List (ℕ × Policy)) (spec : PolicySpec) (b : Bool) → IsInRoom s → IsInRange s → PoliciesStand a image s es
    → listed_as s spec (chosen a image spec b).index ((chosen a image spec b).word + 1) ≡ added_by s spec b
unfolding chosen added_by
chosen_by a image s es spec true room range g =
    let e : next_index_in a image ≡ s.next_index = next_index_is a image s es range g in
    let some : 0 < s.next_index = range.index_counter.0 in
    let k : next_index_in a image - 1 + 1 ≡ s.next_index = omega (arith, e, some) in
    ap (λ (n : ℕ). listed_as s spec spec.index n) k
chosen_by a image s es spec false room range g =
    let f : free_in a image (dir_number spec.dir) (next_index_in a image) (count_in a image) ≡ free_number s spec.dir = free_is a image s es spec room range g in
    ap (λ (k : ℕ). listed_as s spec (8 * k + dir_number spec.dir) (next_in last_index k - 1 + 1)) f
    ∙ ap (λ (n : ℕ). listed_as s spec (8 * free_number s spec.dir + dir_number spec.dir) n) (next_some (free_number s spec.dir))

pub choice_is : (a : PolicyArea) (image : List ℕ) (s : Shown) (es : List (ℕ × Policy)) (spec : PolicySpec) → IsInRoom s → IsInRange s → PoliciesStand a image s es
    → listed_as s spec (choice_in a image spec).index ((choice_in a image spec).word + 1) ≡ added_with_index s spec
unfolding chosen added_by
choice_is a image s es spec room range g =
    chosen_by a image s es spec (not (spec.index == 0) && not (is_taken_in a image spec.index)) room range g
    ∙ ap (λ (t : Bool). added_by s spec (not (spec.index == 0) && not t)) (taken_is a image s es spec.index g)
