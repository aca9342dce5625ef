-- What a lookup tells of a policy, and which of two hits is asked first.
use Rattle.std.specs.Prelude.{ℕ, Bool, cond, if◌then◌else◌, List, [], ◌∷◌, Option, None, Some, slice_index}
use Rattle.xf_types.specs.declared.policy.Policy.{Policy}
use Rattle.xf_records.specs.Codes.{small_in}
use Rattle.xf_image.specs.declared.area.PolicyArea.{PolicyArea}
use Rattle.xf_image.specs.Layout.{priority_place, number_place, record_at}
use Rattle.xf_image.specs.Placing.{comes}
use Rattle.xf_exact.specs.declared.hit.Hit.{Hit}

-- what is told of an entry
abbrev pub hit_of : ℕ × Policy → Hit
hit_of e = record { slot = e.0; priority = e.1.spec.priority; number = e.1.number }

-- the first entry whose policy passes, as a hit
abbrev pub first_of : (Policy → Bool) → List (ℕ × Policy) → Option Hit
first_of test [] = None
first_of test (e ∷ es) = cond (test e.1) (Some (hit_of e)) (first_of test es)

-- a hit is asked after another one
abbrev pub hit_after : Hit → Hit → Bool
hit_after a b = comes a.priority a.number b.priority b.number

-- of two hits the one that is asked first
abbrev pub better : Option Hit → Option Hit → Option Hit
better None other = other
better (Some a) None = Some a
better (Some a) (Some b) = if hit_after b a then Some a else Some b

-- what the words tell of a slot, where there is one
abbrev pub hit_at : PolicyArea → List ℕ → Option ℕ → Option Hit
hit_at a image None = None
hit_at a image (Some slot) =
    Some (record {
      slot = slot;
      priority = small_in (slice_index image (priority_place a slot));
      number = slice_index image (number_place a slot);
    })

-- the policy in the slot of a hit
abbrev pub policy_hit : PolicyArea → List ℕ → Option Hit → Option Policy
policy_hit a image None = None
policy_hit a image (Some hit) = record_at a image hit.slot
