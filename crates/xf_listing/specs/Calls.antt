-- What the calls find and choose, of any image, and what they write.
use Rattle.std.specs.Prelude.{ℕ, ◌+◌, ◌-◌, ◌*◌, ◌==◌, false, not, ◌&&◌, if◌then◌else◌, List, Option, None, Some}
use Rattle.xf_types.specs.declared.network.Dir.{Dir}
use Rattle.xf_types.specs.declared.network.Mark.{Mark}
use Rattle.xf_types.specs.declared.network.Ptype.{Ptype}
use Rattle.xf_types.specs.declared.network.Selector.{Selector}
use Rattle.xf_types.specs.declared.policy.Policy.{Policy}
use Rattle.xf_types.specs.declared.policy.PolicyKey.{PolicyKey}
use Rattle.xf_types.specs.declared.policy.PolicyKey.TheVariants as key
use Rattle.xf_types.specs.declared.policy.PolicySpec.{PolicySpec}
use Rattle.xf_types.specs.Counters.{next_in}
use Rattle.xf_types.specs.PolicyRules.{last_index}
use Rattle.xf_types.specs.Same.{dir_number}
use Rattle.xf_chain.specs.Families.{chain_at}
use Rattle.xf_image.specs.declared.area.PolicyArea.{PolicyArea}
use Rattle.xf_image.specs.Layout.{exact_of, record_at}
use Rattle.xf_image.specs.ExactKeys.{spec_key}
use Rattle.xf_image.specs.Placing.{places_for, places_of}
use Rattle.xf_image.specs.Readings.{next_index_in, next_number_in, hthresh4_in, hthresh6_in}
use Rattle.xf_image.specs.Writes.{added_words, removed_words}
use Rattle.xf_exact.specs.declared.query.Query.{Query}
use Rattle.xf_exact.specs.declared.query.Query.TheVariants.{Under}
use Rattle.xf_exact.specs.Walks.{found_on}
use Rattle.xf_inexact.specs.Keys.{selector_node}
use Rattle.xf_inexact.specs.Places.{chains_of}
use Rattle.xf_inexact.specs.Whole.{trees_of}
use Rattle.xf_listing.specs.declared.entry.Choice.{Choice}
use Rattle.xf_listing.specs.declared.entry.Entry.{Entry}
use Rattle.xf_listing.specs.Header.{count_in}
use Rattle.xf_listing.specs.Walks.{slot_with, is_taken_in, free_in}

-- ---- what is found

-- a slot with its policy
abbrev pub found_with : ℕ → Option Policy → Option Entry
found_with slot None = None
found_with slot (Some p) = Some (record { slot = slot; policy = p })

abbrev pub found_at : PolicyArea → List ℕ → Option ℕ → Option Entry
found_at a image None = None
found_at a image (Some slot) = found_with slot (record_at a image slot)

-- the policy of what is found
abbrev pub found_policy : Option Entry → Option Policy
found_policy None = None
found_policy (Some f) = Some f.policy

-- the slot of what is asked for in the chain of a node, where there is one
abbrev pub found_there : PolicyArea → List ℕ → Query → Option ℕ → Option ℕ
found_there a image query None = None
found_there a image query (Some node) = found_on a image query (chain_at (chains_of (trees_of a)) node)

-- in the one chain in which all stand that have a selector: that of exact match which it has, else that of its node
abbrev pub found_by : PolicyArea → List ℕ → Query → Option ℕ → Option ℕ → Option ℕ
found_by a image query None at = found_there a image query at
found_by a image query (Some number) at = found_on a image query (chain_at (exact_of a) number)

-- the slot of the policy that is listed under these
abbrev pub slot_under : PolicyArea → List ℕ → Dir → Ptype → Selector → Mark → ℕ → Option ℕ
slot_under a image dir ptype sel mark if_id =
    found_by a image (Under dir ptype sel mark if_id)
    (spec_key (hthresh4_in a image) (hthresh6_in a image) dir ptype if_id sel)
    (selector_node (trees_of a) image dir ptype if_id sel)

-- the slot of the policy that a key names
abbrev pub slot_named : PolicyArea → List ℕ → PolicyKey → Option ℕ
slot_named a image (key.Index dir index) = slot_with a image index
slot_named a image (key.Same dir ptype sel mark if_id) = slot_under a image dir ptype sel mark if_id

-- the policy that is the same
abbrev pub same_in : PolicyArea → List ℕ → PolicySpec → Option Entry
same_in a image spec = found_at a image (slot_under a image spec.dir spec.ptype spec.sel spec.mark spec.if_id)

-- the policy that a key names
abbrev pub named_in : PolicyArea → List ℕ → PolicyKey → Option Entry
named_in a image key = found_at a image (slot_named a image key)

-- ---- what is chosen

-- the index that is given, where it is free, else the first free one; and the word of the counter behind it
abbrev pub choice_in : PolicyArea → List ℕ → PolicySpec → Choice
choice_in a image spec =
    if not (spec.index == 0) && not (is_taken_in a image spec.index)
    then record { index = spec.index; word = next_index_in a image - 1 }
    else
    (let k = free_in a image (dir_number spec.dir) (next_index_in a image) (count_in a image) in
    record { index = 8 * k + dir_number spec.dir; word = next_in last_index k - 1 })

-- ---- what is written

-- a new policy, by the words
abbrev pub new_policy_in : PolicyArea → List ℕ → PolicySpec → ℕ → ℕ → Policy
new_policy_in a image spec index now =
    record { number = next_number_in a image; index = index; added = now; soft = false; spec = spec }

-- the words with a policy in a slot
abbrev pub listed_words : PolicyArea → List ℕ → ℕ → Policy → ℕ → List ℕ
listed_words a image slot p word =
    added_words a image (places_for a image (hthresh4_in a image) (hthresh6_in a image) p) slot p word

-- the words without the policy in a slot
abbrev pub delisted_words : PolicyArea → List ℕ → ℕ → Policy → List ℕ
delisted_words a image slot p =
    removed_words a image (places_of a image (hthresh4_in a image) (hthresh6_in a image) p slot) slot
