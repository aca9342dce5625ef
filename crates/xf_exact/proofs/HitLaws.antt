-- A hit is what was found.
use Rattle.std.proofs.Common.{◌≡◌, ℕ, ◌<◌, ◌^◌, Bool, true, false, cond, List, [], ◌∷◌, Option, Some, find, ◌↔◌, None, refl, ap, ◌∙◌, slice_index}
use Rattle.xf_types.specs.declared.policy.Policy.{Policy}
use Rattle.xf_index.specs.Indexes.{records_in, Holds}
use Rattle.xf_index.specs.Finds.{found_in, slot_found}
use Rattle.xf_records.specs.Codes.{small_in}
use Rattle.xf_records.proofs.CodeLaws.{small_is}
use Rattle.xf_records.proofs.PolicyLaws.{policy_fits}
use Rattle.xf_image.specs.declared.area.PolicyArea.{PolicyArea}
use Rattle.xf_image.specs.Layout.{priority_place, number_place, record_place, record_at}
use Rattle.xf_image.specs.Policies.{ColumnsStand}
use Rattle.xf_exact.specs.declared.hit.Hit.{Hit}
use Rattle.xf_exact.specs.Hits.{hit_of, first_of, hit_at, policy_hit}

hit_is : (a : PolicyArea) (image : List ℕ) (e : ℕ × Policy) → slice_index image (priority_place a e.0) ≡ e.1.spec.priority
    → slice_index image (number_place a e.0) ≡ e.1.number → e.1.spec.priority < 2 ^ 32 → hit_at a image (Some e.0) ≡ Some (hit_of e)
hit_is a image e p n f =
    let q : small_in (slice_index image (priority_place a e.0)) ≡ e.1.spec.priority = ap small_in p ∙ small_is e.1.spec.priority f in
    λ i. Some (record { slot = e.0; priority = q i; number = n i })

hit_step : (a : PolicyArea) (image : List ℕ) (b : Bool) (e : ℕ × Policy) (found : Option (ℕ × Policy)) (hit : Option Hit)
    → hit_at a image (Some e.0) ≡ Some (hit_of e) → hit_at a image (slot_found found) ≡ hit
    → hit_at a image (slot_found (cond b (Some e) found)) ≡ cond b (Some (hit_of e)) hit
hit_step a image true e found hit h k = h
hit_step a image false e found hit h k = k

pub first_hit : (a : PolicyArea) (image : List ℕ) (test : Policy → Bool) (es : List (ℕ × Policy)) → ColumnsStand a image es
    → hit_at a image (slot_found (found_in test es)) ≡ first_of test es
first_hit a image test [] s = refl
first_hit a image test (e ∷ es) s =
    hit_step a image (test e.1) e (found_in test es) (first_of test es)
    (hit_is a image e s.priorities.0 s.numbers.0 (policy_fits image (record_place a e.0) e.1 s.records.0).plain.priority)
    (first_hit a image test es (record { priorities = s.priorities.1; numbers = s.numbers.1; records = s.records.1 }))

policy_step : (a : PolicyArea) (image : List ℕ) (b : Bool) (e : ℕ × Policy) (hit : Option Hit) (policy : Option Policy)
    → record_at a image e.0 ≡ Some e.1 → policy_hit a image hit ≡ policy
    → policy_hit a image (cond b (Some (hit_of e)) hit) ≡ cond b (Some e.1) policy
policy_step a image true e hit policy h k = h
policy_step a image false e hit policy h k = k

pub hit_policy : (a : PolicyArea) (image : List ℕ) (test : Policy → Bool) (es : List (ℕ × Policy))
    → Holds (λ slot. record_at a image slot) (λ p. Some p) es → policy_hit a image (first_of test es) ≡ find test (records_in es)
hit_policy a image test [] h = refl
hit_policy a image test (e ∷ es) h =
    policy_step a image (test e.1) e (first_of test es) (find test (records_in es)) h.0 (hit_policy a image test es h.1)

none_step : (b : Bool) (e : ℕ × Policy) (hit : Option Hit) (policy : Option Policy) → (hit ≡ None) ↔ (policy ≡ None)
    → (cond b (Some (hit_of e)) hit ≡ None) ↔ (cond b (Some e.1) policy ≡ None)
none_step true e hit policy h = (λ k. absurd (cc), λ k. absurd (cc))
none_step false e hit policy h = h

-- there is no hit exactly where no policy passes
pub no_hit : (test : Policy → Bool) (es : List (ℕ × Policy)) → (first_of test es ≡ None) ↔ (find test (records_in es) ≡ None)
no_hit test [] = (λ k. refl, λ k. refl)
no_hit test (e ∷ es) = none_step (test e.1) e (first_of test es) (find test (records_in es)) (no_hit test es)
