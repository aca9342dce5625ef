-- The policy that passes a test leaves.
use Rattle.std.proofs.Common.{◌≡◌, ℕ, ◌+◌, ◌<◌, Bool, true, false, List, ◌∷◌, ◌++◌, Option, None, Some, find, refl, ap, sym, ◌∙◌, subst, arith, if◌then◌else◌}
use Rattle.xf_types.specs.declared.call.Reply.TheVariants as reply
use Rattle.xf_types.specs.declared.policy.Policy.{Policy}
use Rattle.xf_types.specs.declared.policy.PolicyKey.{PolicyKey}
use Rattle.xf_types.specs.declared.policy.PolicySpec.{PolicySpec}
use Rattle.xf_types.specs.Changes.{Answer, stays}
use Rattle.xf_types.specs.IsMachine.{IsInRange}
use Rattle.xf_types.specs.Machine.{Shown}
use Rattle.xf_types.specs.PolicyList.{has_key, is_same, without}
use Rattle.xf_types.specs.PolicyRules.{is_bad_key, policy_delete, policy_deleted, policy_get, policy_shown, policy_replaced_or_added}
use Rattle.xf_chain.specs.Lists.{Misses}
use Rattle.xf_index.specs.Indexes.{slots_in, records_in}
use Rattle.xf_index.specs.Finds.{Found}
use Rattle.xf_index.proofs.Alls.{all_apart, all_within}
use Rattle.xf_index.proofs.Entries.{slots_append, misses_taken}
use Rattle.xf_image.specs.declared.area.PolicyArea.{PolicyArea}
use Rattle.xf_image.specs.Entries.{new_policy, entries_with, entries_without, slot_left, IsEntry, with_policies, with_listed}
use Rattle.xf_image.specs.Layout.{order_of, record_at}
use Rattle.xf_image.specs.Policies.{everyone}
use Rattle.xf_inexact.specs.Whole.{SpdStands}
use Rattle.xf_image.specs.Readings.{next_index_in}
use Rattle.xf_image.proofs.Parts.{left_is, within_slot}
use Rattle.xf_listing.specs.declared.entry.Entry.{Entry}
use Rattle.xf_listing.specs.Calls.{found_with, found_at, found_policy, named_in}
use Rattle.xf_spd.specs.Changes.{Adds}
use Rattle.xf_spd.specs.Replies.{named_reply, policy_reply}
use Rattle.xf_spd.specs.Slots.{Where}
use Rattle.xf_spd.proofs.Alone.{Alone, left_gone, records_without, gone_is, parts_miss}
use Rattle.xf_listing.proofs.Named.{named_found}
use Rattle.xf_listing.proofs.Reading.{next_index_is, policy_is}

-- ---- what is left

pub gone_stands : (a : PolicyArea) (image words : List ℕ) (s : Shown) (test : Policy → Bool) (f : Entry) (es : List (ℕ × Policy)) → SpdStands a image s es → Alone test s.policies → Found test f.slot f.policy es
    → SpdStands a words (with_policies s (records_in (slot_left f.slot es))) (slot_left f.slot es)
    → SpdStands a words (with_policies s (without test s.policies)) (entries_without test es)
gone_stands a image words s test f es g alone found st =
    let e : slot_left f.slot es ≡ entries_without test es = left_gone a image s test f es g alone found in
    let one : SpdStands a words (with_policies s (records_in (entries_without test es))) (entries_without test es) =
    subst (λ (xs : List (ℕ × Policy)). SpdStands a words (with_policies s (records_in xs)) xs) e st in
    let r : records_in (entries_without test es) ≡ without test s.policies = records_without test es ∙ ap (λ (ps : List Policy). without test ps) g.list.listed in
    subst (λ (ps : List Policy). SpdStands a words (with_policies s ps) (entries_without test es)) r one

pub gone_misses : (a : PolicyArea) (image : List ℕ) (s : Shown) (test : Policy → Bool) (f : Entry) (es : List (ℕ × Policy)) → SpdStands a image s es → Alone test s.policies → Found test f.slot f.policy es
    → Misses f.slot (slots_in (entries_without test es))
gone_misses a image s test f es g alone b =
    let al : Alone test (records_in es) = subst (λ (ps : List Policy). Alone test ps) (sym g.list.listed) alone in
    let old : SpdStands a image s (b.front ++ ((f.slot, f.policy) ∷ b.back)) = subst (λ (xs : List (ℕ × Policy)). SpdStands a image s xs) b.whole g in
    subst (λ (xs : List (ℕ × Policy)). Misses f.slot (slots_in xs)) (sym (gone_is test f es al b))
    (misses_taken b.front b.back f.slot f.policy (all_apart (order_of a) image everyone (b.front ++ ((f.slot, f.policy) ∷ b.back)) (λ p. refl) (omega arith) old.list.links.order))

-- The slots without one.
pub record Cut (slot slots : ℕ) (old new : List ℕ) : Type 0 where
  pub front : List ℕ
  pub back : List ℕ
  pub below : slot < slots
  pub miss : Misses slot (front ++ back)
  pub whole : old ≡ front ++ (slot ∷ back)
  pub left : new ≡ front ++ back

pub entry_cut : (a : PolicyArea) (image : List ℕ) (s : Shown) (es : List (ℕ × Policy)) (slot : ℕ) (p : Policy) → IsEntry es slot p → SpdStands a image s es
    → Cut slot a.slots (slots_in es) (slots_in (slot_left slot es))
entry_cut a image s es slot p is g =
    let old : SpdStands a image s (is.front ++ ((slot, p) ∷ is.behind)) = subst (λ (xs : List (ℕ × Policy)). SpdStands a image s xs) is.whole g in
    let m = parts_miss a image s slot p is.front is.behind old in
    let apart = all_apart (order_of a) image everyone (is.front ++ ((slot, p) ∷ is.behind)) (λ q. refl) (omega arith) old.list.links.order in
    record {
      front = slots_in is.front;
      back = slots_in is.behind;
      below = within_slot a.slots slot p is.front is.behind (all_within (order_of a) image everyone (is.front ++ ((slot, p) ∷ is.behind)) (λ q. refl) (omega arith) old.list.links.order);
      miss = subst (λ (xs : List ℕ). Misses slot xs) (slots_append is.front is.behind) (misses_taken is.front is.behind slot p apart);
      whole = ap (λ (xs : List (ℕ × Policy)). slots_in xs) is.whole ∙ slots_append is.front ((slot, p) ∷ is.behind);
      left = ap (λ (xs : List (ℕ × Policy)). slots_in (slot_left slot xs)) is.whole
          ∙ (ap (λ (xs : List (ℕ × Policy)). slots_in xs) (left_is slot p is.front is.behind m.0 m.1) ∙ slots_append is.front is.behind);
    }

-- ---- what is found in a slot

with_slot : (slot : ℕ) (o : Option Policy) (f : Entry) → found_with slot o ≡ Some f → slot ≡ f.slot
with_slot slot None f e = absurd (cc)
with_slot slot (Some p) f e = let k : record { slot = slot; policy = p } ≡ f = cc in ap (λ (x : Entry). x.slot) k

-- what is found stands in the slot that was asked for
pub found_slot : (a : PolicyArea) (image : List ℕ) (o : Option ℕ) (f : Entry) → found_at a image o ≡ Some f → o ≡ Some f.slot
found_slot a image None f e = absurd (cc)
found_slot a image (Some slot) f e = ap (λ (n : ℕ). Some n) (with_slot slot (record_at a image slot) f e)

pub where_slot : (holds : ℕ → Type 0) (o : Option ℕ) (slot : ℕ) → o ≡ Some slot → Where holds o → holds slot
where_slot holds o slot e h = subst (λ (x : Option ℕ). Where holds x) e h

pub where_is : (holds : ℕ → Type 0) (o : Option ℕ) (slot : ℕ) → o ≡ Some slot → holds slot → Where holds o
where_is holds o slot e h = subst (λ (x : Option ℕ). Where holds x) (sym e) h

-- in the slot of an entry its policy is found
pub found_there : (a : PolicyArea) (image : List ℕ) (s : Shown) (es : List (ℕ × Policy)) (slot : ℕ) (p : Policy) → IsEntry es slot p → SpdStands a image s es
    → found_with slot (record_at a image slot) ≡ Some (record { slot = slot; policy = p })
found_there a image s es slot p is g =
    ap (λ (o : Option Policy). found_with slot o) (policy_is a image s slot is.front is.behind p (subst (λ (xs : List (ℕ × Policy)). SpdStands a image s xs) is.whole g).list)

-- ---- replies

delete_by : Shown → PolicyKey → Bool → Option Policy → Answer
delete_by s key b o = if b then stays reply.Invalid else policy_deleted s key o

pub delete_bad : (s : Shown) (key : PolicyKey) → is_bad_key key ≡ true → reply.Invalid ≡ (policy_delete s key).reply
unfolding delete_by
delete_bad s key e = sym (ap (λ (b : Bool). (delete_by s key b (find (has_key key) s.policies)).reply) e)

pub delete_rule : (s : Shown) (key : PolicyKey) (o : Option Policy) → is_bad_key key ≡ false → find (has_key key) s.policies ≡ o → policy_delete s key ≡ policy_deleted s key o
unfolding delete_by
delete_rule s key o e f = ap (λ (b : Bool). delete_by s key b (find (has_key key) s.policies)) e ∙ ap (λ (x : Option Policy). delete_by s key false x) f

get_by : Shown → PolicyKey → Bool → Option Policy → Answer
get_by s key b o = if b then stays reply.Invalid else policy_shown o

pub get_bad : (s : Shown) (key : PolicyKey) → is_bad_key key ≡ true → reply.Invalid ≡ (policy_get s key).reply
unfolding get_by
get_bad s key e = sym (ap (λ (b : Bool). (get_by s key b (find (has_key key) s.policies)).reply) e)

named_shown : (o : Option Entry) → policy_reply (named_reply o) ≡ (policy_shown (found_policy o)).reply
named_shown None = refl
named_shown (Some f) = refl

pub get_is : (a : PolicyArea) (image : List ℕ) (s : Shown) (es : List (ℕ × Policy)) (key : PolicyKey) → is_bad_key key ≡ false → SpdStands a image s es
    → policy_reply (named_reply (named_in a image key)) ≡ (policy_get s key).reply
unfolding get_by
get_is a image s es key e g =
    named_shown (named_in a image key)
    ∙ (ap (λ (o : Option Policy). (policy_shown o).reply) (named_found a image s es key g)
    ∙ sym (ap (λ (b : Bool). (get_by s key b (find (has_key key) s.policies)).reply) e))

-- ---- a policy in place of the same one

range_same : (s : Shown) (ps : List Policy) → IsInRange s → IsInRange (with_policies s ps)
range_same s ps r = record { index_counter = r.index_counter; seq_counter = r.seq_counter; thresholds = r.thresholds }

pub kept_index : (a : PolicyArea) (words : List ℕ) (s : Shown) (ps : List Policy) (es : List (ℕ × Policy)) (word : ℕ) → IsInRange s → SpdStands a words (with_policies s ps) es
    → word + 1 ≡ next_index_in a words → word + 1 ≡ s.next_index
kept_index a words s ps es word range g e = e ∙ next_index_is a words (with_policies s ps) es (range_same s ps range) g.list

pub replaced_is : (a : PolicyArea) (words : List ℕ) (s : Shown) (spec : PolicySpec) (old : Policy) (slot word : ℕ) (es : List (ℕ × Policy)) → word + 1 ≡ s.next_index
    → SpdStands a words (with_listed (with_policies s (without (λ p. is_same p.spec spec) s.policies)) (new_policy s spec old.index) (word + 1)) (entries_with slot (new_policy s spec old.index) es)
    → Adds a words s es slot old.index spec (policy_replaced_or_added s spec (Some old))
replaced_is a words s spec old slot word es e st = record {
  reply = refl;
  stands = subst (λ (n : ℕ). SpdStands a words (with_listed (with_policies s (without (λ p. is_same p.spec spec) s.policies)) (new_policy s spec old.index) n) (entries_with slot (new_policy s spec old.index) es)) e st;
}
