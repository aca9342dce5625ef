-- A policy takes the place of the same one, or is a new one.
use Rattle.std.proofs.Common.{◌≡◌, ℕ, Bool, true, false, List, Option, None, Some, find, refl, ap, sym, ◌∙◌, subst, rules, if◌then◌else◌, Ok, Err}
use Rattle.std.specs.Prelude.{IfOk, MatchOption}
use Rattle.std.specs.declared.result.Result.{Result}
use Rattle.xf_types.specs.declared.call.Reply.TheVariants as reply
use Rattle.xf_types.specs.declared.policy.Policy.{Policy}
use Rattle.xf_types.specs.declared.policy.PolicySpec.{PolicySpec}
use Rattle.xf_types.specs.Changes.{Answer, stays}
use Rattle.xf_types.specs.IsMachine.{IsPolicyList}
use Rattle.xf_types.specs.Machine.{Shown}
use Rattle.xf_types.specs.PolicyList.{is_same}
use Rattle.xf_types.specs.PolicyRules.{is_bad_index, policy_update, policy_replaced_or_added, policy_same_as}
use Rattle.xf_index.specs.Indexes.{slots_in, records_in}
use Rattle.xf_index.specs.Finds.{found_in, slot_found, record_found, Found}
use Rattle.xf_index.proofs.Finds.{found_record, found_none}
use Rattle.xf_image.specs.declared.area.PolicyArea.{PolicyArea}
use Rattle.xf_image.specs.Entries.{entries_with, entries_without}
use Rattle.xf_inexact.specs.Whole.{SpdStands}
use Rattle.xf_image.specs.Readings.{listed_in}
use Rattle.xf_listing.specs.declared.entry.Entry.{Entry}
use Rattle.xf_spd.specs.declared.faults.SpdFault.{SpdFault}
use Rattle.xf_listing.specs.Calls.{same_in, slot_under}
use Rattle.xf_spd.specs.Changes.{Adds, AddsGiven, Replaces}
use Rattle.xf_spd.specs.Slots.{PoolFits}
use Rattle.xf_spd.proofs.Alone.{entry_of, left_gone, kept_all, same_alone}
use Rattle.xf_spd.proofs.Inserted.{with_splits}
use Rattle.xf_listing.proofs.Named.{same_slot_is}
use Rattle.xf_spd.proofs.Pools.{pool_moved}
use Rattle.xf_image.proofs.Listed.{listed_is}
use Rattle.xf_spd.proofs.Removed.{entry_cut, found_slot}

-- ---- the rule

update_by : Shown → PolicySpec → Bool → Option Policy → Answer
update_by s spec b o = if b then stays reply.Invalid else policy_replaced_or_added s spec o

pub update_bad : (s : Shown) (spec : PolicySpec) → is_bad_index spec ≡ true → reply.Invalid ≡ (policy_update s spec).reply
unfolding update_by
update_bad s spec e = sym (ap (λ (b : Bool). (update_by s spec b (policy_same_as s spec)).reply) e)

pub update_rule : (s : Shown) (spec : PolicySpec) (o : Option Policy) → is_bad_index spec ≡ false → policy_same_as s spec ≡ o → policy_replaced_or_added s spec o ≡ policy_update s spec
unfolding update_by
update_rule s spec o e h = sym (ap (λ (b : Bool). update_by s spec b (policy_same_as s spec)) e ∙ ap (λ (x : Option Policy). update_by s spec false x) h)

-- ---- none is the same

none_by : (o : Option (ℕ × Policy)) → record_found o ≡ None → o ≡ None
none_by None e = refl
none_by (Some x) e = absurd (cc)

none_found : (s : Shown) (es : List (ℕ × Policy)) (spec : PolicySpec) → records_in es ≡ s.policies → policy_same_as s spec ≡ None → found_in (λ p. is_same p.spec spec) es ≡ None
none_found s es spec l e =
    none_by (found_in (λ p. is_same p.spec spec) es) (found_record (λ p. is_same p.spec spec) es ∙ (ap (λ (ps : List Policy). find (λ p. is_same p.spec spec) ps) l ∙ e))

new_by : (a : PolicyArea) (words : List ℕ) (s : Shown) (es : List (ℕ × Policy)) (gave : ℕ → Type 0) (spec : PolicySpec) (rule : Answer) (result : Result ℕ SpdFault)
    → found_in (λ p. is_same p.spec spec) es ≡ None → entries_without (λ p. is_same p.spec spec) es ≡ es
    → IfOk result (λ index. AddsGiven a words s es gave index spec rule) → IfOk result (λ index. Replaces a words s es gave index spec rule)
new_by a words s es gave spec rule (Ok index) e k h = record {
  slot = h.slot;
  given = subst (λ (o : Option (ℕ × Policy)). MatchOption (slot_found o) (gave h.slot) (λ own. own ≡ h.slot)) (sym e) h.given;
  adds = subst (λ (xs : List (ℕ × Policy)). Adds a words s xs h.slot index spec rule) (sym k) h.adds;
}
new_by a words s es gave spec rule (Err fault) e k h = search rules

pub new_replaces : (a : PolicyArea) (image words : List ℕ) (s : Shown) (es : List (ℕ × Policy)) (gave : ℕ → Type 0) (spec : PolicySpec) (result : Result ℕ SpdFault) (rule : Answer)
    → SpdStands a image s es → policy_same_as s spec ≡ None
    → IfOk result (λ index. AddsGiven a words s es gave index spec rule) → IfOk result (λ index. Replaces a words s es gave index spec rule)
new_replaces a image words s es gave spec result rule g e h =
    let n : found_in (λ p. is_same p.spec spec) es ≡ None = none_found s es spec g.list.listed e in
    new_by a words s es gave spec rule result n (kept_all (λ p. is_same p.spec spec) es (found_none (λ p. is_same p.spec spec) es n)) h

-- ---- one is the same

pub own_slot : (a : PolicyArea) (image : List ℕ) (s : Shown) (es : List (ℕ × Policy)) (spec : PolicySpec) (f : Entry) → SpdStands a image s es → same_in a image spec ≡ Some f
    → slot_found (found_in (λ p. is_same p.spec spec) es) ≡ Some f.slot
own_slot a image s es spec f g e =
    sym (same_slot_is a image s es spec g) ∙ found_slot a image (slot_under a image spec.dir spec.ptype spec.sel spec.mark spec.if_id) f e

pub own_replaces : (a : PolicyArea) (image words : List ℕ) (s : Shown) (es : List (ℕ × Policy)) (gave : ℕ → Type 0) (spec : PolicySpec) (index : ℕ) (f : Entry) (rule : Answer)
    → SpdStands a image s es → same_in a image spec ≡ Some f
    → Adds a words s (entries_without (λ p. is_same p.spec spec) es) f.slot index spec rule → Replaces a words s es gave index spec rule
own_replaces a image words s es gave spec index f rule g e adds = record {
  slot = f.slot;
  given = subst (λ (o : Option ℕ). MatchOption o (gave f.slot) (λ own. own ≡ f.slot)) (sym (own_slot a image s es spec f g e)) refl;
  adds = adds;
}

pub own_pool : (a : PolicyArea) (image words : List ℕ) (s t : Shown) (es : List (ℕ × Policy)) (spec : PolicySpec) (p : Policy) (f : Entry) (all out : ℕ) (gives takes : ℕ → Type 0)
    → IsPolicyList s → SpdStands a image s es → Found (λ p. is_same p.spec spec) f.slot f.policy es
    → SpdStands a words t (entries_with f.slot p (entries_without (λ p. is_same p.spec spec) es))
    → PoolFits all out gives takes a.slots (listed_in a image) → PoolFits all out gives takes a.slots (listed_in a words)
own_pool a image words s t es spec p f all out gives takes sound g found st fits =
    let test : Policy → Bool = λ p. is_same p.spec spec in
    let cut = entry_cut a image s es f.slot f.policy (entry_of test f es found) g in
    let split = with_splits f.slot p (entries_without test es) in
    let gone = left_gone a image s test f es g (same_alone s spec sound) found in
    pool_moved all out a.slots f.slot gives takes (listed_in a image) (listed_in a words) cut.front cut.back split.front split.back fits
    (sym cut.left ∙ (ap (λ (xs : List (ℕ × Policy)). slots_in xs) gone ∙ split.old))
    (listed_is a image s es g.list ∙ cut.whole)
    (listed_is a words t (entries_with f.slot p (entries_without test es)) st.list ∙ split.whole)
