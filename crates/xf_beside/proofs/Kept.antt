-- What a call of one rule keeps.
use Rattle.std.proofs.Common.{◌≡◌, ℕ, ◌+◌, Bool, true, false, List, Option, None, Some, Ok, Err, refl, ap, sym, ◌∙◌, subst, arith, if◌then◌else◌, not, ◌&&◌, ◌==◌, IsTrue, length, find, slice_index}
use Rattle.std.specs.Prelude.{nat_le, IsErr, IsOk, IfOk}
use Rattle.std.specs.declared.result.Result.{Result}
use Rattle.xf_types.specs.declared.call.Call.{Call}
use Rattle.xf_types.specs.declared.call.Call.TheVariants.{PolicyDelete}
use Rattle.xf_types.specs.declared.call.Reply.{Reply}
use Rattle.xf_types.specs.declared.policy.Policy.{Policy}
use Rattle.xf_types.specs.declared.policy.PolicyKey.{PolicyKey}
use Rattle.xf_types.specs.declared.policy.PolicySpec.{PolicySpec}
use Rattle.xf_types.specs.Changes.{Answer, shown_after}
use Rattle.xf_types.specs.Codes.{is_refusal_of}
use Rattle.xf_types.specs.IsMachine.{IsMachine}
use Rattle.xf_types.specs.Machine.{Machine, Shown}
use Rattle.xf_types.specs.PolicyList.{has_key}
use Rattle.xf_types.specs.PolicyRules.{is_bad_index, is_bad_key, is_index_taken, added_with_index, full_of_policies, policy_added_if_room, policy_added_unless_found, policy_same_as, policy_add, policy_replaced_or_added, policy_update, policy_deleted, policy_delete}
use Rattle.xf_types.specs.Steps.{step, rule_of, by_rule, ByShown}
use Rattle.xf_laws.proofs.LocalLemmas.{applied-shown}
use Rattle.xf_laws.proofs.MachineLemmas.{step-kept}
use Rattle.xf_laws.proofs.StepLemmas.{step-refused}
use Rattle.xf_image.specs.declared.area.PolicyArea.{PolicyArea}
use Rattle.xf_image.specs.Layout.{next_number_place}
use Rattle.xf_inexact.specs.Whole.{SpdStands}
use Rattle.xf_spd.specs.declared.faults.SpdFault.{SpdFault}
use Rattle.xf_spd.specs.declared.faults.SpdFault.TheVariants.{Invalid, Exists, NoEntry, Full}
use Rattle.xf_spd.specs.Changes.{IsAt}
use Rattle.xf_spd.specs.Replies.{fault_reply, index_reply}
use Rattle.xf_beside.specs.Standing.{StandsFor, IsYoung, Answers}

-- what holds of each machine that a run reaches, at this time
pub is_at : (a : PolicyArea) (words : List ℕ) (now : ℕ) (m : Machine) → IsYoung a words → StandsFor a words now m → IsAt m.shown now
is_at a words now m young st =
    let n : slice_index words (next_number_place a) + 1 ≡ m.shown.next_number = st.stands.list.counters.next_number in
    record { number = omega (arith, n, young); policies = st.is.shown.policies; room = st.is.shown.room; range = st.is.shown.range; time = st.time }

-- ---- no rule of a policy's call goes on in time

either_time : (s : Shown) (b : Bool) (x y : Answer) → (shown_after s x.change).time ≡ s.time → (shown_after s y.change).time ≡ s.time
    → (shown_after s (if b then x else y).change).time ≡ s.time
either_time s true x y h k = h
either_time s false x y h k = k

time_room : (s : Shown) (spec : PolicySpec) → (shown_after s (policy_added_if_room s spec).change).time ≡ s.time
time_room s spec =
    either_time s (nat_le s.max_policies (length s.policies)) (full_of_policies s) (added_with_index s spec) refl
    (either_time s (not (spec.index == 0) && not (is_index_taken s spec.index)) _ _ refl refl)

time_unless : (s : Shown) (spec : PolicySpec) (o : Option Policy) → (shown_after s (policy_added_unless_found s spec o).change).time ≡ s.time
time_unless s spec (Some old) = refl
time_unless s spec None = time_room s spec

pub time_add : (s : Shown) (spec : PolicySpec) → (shown_after s (policy_add s spec).change).time ≡ s.time
time_add s spec = either_time s (is_bad_index spec) _ _ refl (time_unless s spec (policy_same_as s spec))

time_replaced : (s : Shown) (spec : PolicySpec) (o : Option Policy) → (shown_after s (policy_replaced_or_added s spec o).change).time ≡ s.time
time_replaced s spec (Some old) = refl
time_replaced s spec None = time_room s spec

pub time_update : (s : Shown) (spec : PolicySpec) → (shown_after s (policy_update s spec).change).time ≡ s.time
time_update s spec = either_time s (is_bad_index spec) _ _ refl (time_replaced s spec (policy_same_as s spec))

time_deleted : (s : Shown) (key : PolicyKey) (o : Option Policy) → (shown_after s (policy_deleted s key o).change).time ≡ s.time
time_deleted s key (Some old) = refl
time_deleted s key None = refl

pub time_delete : (s : Shown) (key : PolicyKey) → (shown_after s (policy_delete s key).change).time ≡ s.time
time_delete s key = either_time s (is_bad_key key) _ _ refl (time_deleted s key (find (has_key key) s.policies))

-- ---- the machine afterwards

-- The words stand for what is shown, with its policies in some slots.
pub record Represents (a : PolicyArea) (words : List ℕ) (s : Shown) : Type 0 where
  pub entries : List (ℕ × Policy)
  pub stands : SpdStands a words s entries

-- the words stand for what the rule makes
pub ruled : (a : PolicyArea) (words image : List ℕ) (now : ℕ) (m : Machine) (c : Call) (r : Answer) (es : List (ℕ × Policy))
    → StandsFor a words now m → rule_of m.shown c ≡ ByShown r → (shown_after m.shown r.change).time ≡ m.shown.time
    → SpdStands a image (shown_after m.shown r.change) es → StandsFor a image now (step m c).machine
ruled a words image now m c r es st e time new =
    subst (λ rule. StandsFor a image now (by_rule m rule).machine) (sym e)
    (record {
      entries = es;
      stands = subst (λ (s : Shown). SpdStands a image s es) (sym (applied-shown m r.change)) new;
      is = subst (λ rule. IsMachine (by_rule m rule).machine) e (step-kept m c st.is);
      time = ap (λ (s : Shown). s.time) (applied-shown m r.change) ∙ (time ∙ st.time);
    })

fault_refuses : (fault : SpdFault) → IsTrue (is_refusal_of (fault_reply fault))
fault_refuses Invalid = refl
fault_refuses (Exists index) = refl
fault_refuses NoEntry = refl
fault_refuses (Full live waiting) = refl

-- they stand for the machine still, where they are the same
pub still : (a : PolicyArea) (words image : List ℕ) (now : ℕ) (m : Machine) → image ≡ words → StandsFor a words now m → StandsFor a image now m
still a words image now m e st = subst (λ (i : List ℕ). StandsFor a i now m) (sym e) st

-- and that is what a refused call leaves
pub refused : (a : PolicyArea) (words image : List ℕ) (now : ℕ) (m : Machine) (c : Call) (fault : SpdFault) → image ≡ words → StandsFor a words now m
    → fault_reply fault ≡ (step m c).reply → StandsFor a image now (step m c).machine
refused a words image now m c fault e st r =
    subst (λ (x : Machine). StandsFor a image now x) (sym (step-refused m c (subst (λ (x : Reply). IsTrue (is_refusal_of x)) r (fault_refuses fault))))
    (still a words image now m e st)

-- ---- a result of an index or a fault

-- some machine for which words stand
pub record StandsForSome (a : PolicyArea) (words : List ℕ) (now : ℕ) : Type 0 where
  pub machine : Machine
  pub for_it : StandsFor a words now machine

-- one is left, whichever the result is
pub left_by : (X : ℕ → Type 0) (r : Result ℕ SpdFault) (a : PolicyArea) (words image : List ℕ) (now : ℕ) (m : Machine) (c : Call) (rule : Answer)
    → StandsFor a words now m → rule_of m.shown c ≡ ByShown rule → (shown_after m.shown rule.change).time ≡ m.shown.time
    → (IsErr r → image ≡ words) → IfOk r X → ((i : ℕ) → X i → Represents a image (shown_after m.shown rule.change)) → StandsForSome a image now
left_by X (Ok i) a words image now m c rule st e time err ok to =
    let new = to i ok in record { machine = (step m c).machine; for_it = ruled a words image now m c rule new.entries st e time new.stands }
left_by X (Err f) a words image now m c rule st e time err ok to = record { machine = m; for_it = still a words image now m (err refl) st }

pub reply_by : (m : Machine) (c : Call) (rule : Answer) → rule_of m.shown c ≡ ByShown rule → (step m c).reply ≡ rule.reply
reply_by m c rule e = ap (λ x. (by_rule m x).reply) e

-- it is the machine after the call, and the result its reply
pub answered_by : (X : ℕ → Type 0) (r : Result ℕ SpdFault) (a : PolicyArea) (words image : List ℕ) (now : ℕ) (m : Machine) (c : Call) (rule : Answer)
    → StandsFor a words now m → rule_of m.shown c ≡ ByShown rule → (shown_after m.shown rule.change).time ≡ m.shown.time
    → (IsErr r → image ≡ words) → IfOk r X → ((i : ℕ) → X i → Represents a image (shown_after m.shown rule.change))
    → index_reply r ≡ rule.reply → Answers a image now (index_reply r) (step m c)
answered_by X (Ok i) a words image now m c rule st e time err ok to reply =
    let new = to i ok in
    record { reply = reply ∙ sym (reply_by m c rule e); stands = ruled a words image now m c rule new.entries st e time new.stands }
answered_by X (Err f) a words image now m c rule st e time err ok to reply =
    let r = reply ∙ sym (reply_by m c rule e) in
    record { reply = r; stands = refused a words image now m c f (err refl) st r }

-- a policy left, or none did
pub answered_deleted : (r : Result ℕ SpdFault) (a : PolicyArea) (words image : List ℕ) (now : ℕ) (m : Machine) (key : PolicyKey) (es : List (ℕ × Policy))
    → StandsFor a words now m → (IsErr r → image ≡ words)
    → (IsOk r → SpdStands a image (shown_after m.shown (policy_delete m.shown key).change) es)
    → index_reply r ≡ (policy_delete m.shown key).reply → Answers a image now (index_reply r) (step m (PolicyDelete key))
answered_deleted (Ok i) a words image now m key es st err ok reply =
    record { reply = reply; stands = ruled a words image now m (PolicyDelete key) (policy_delete m.shown key) es st refl (time_delete m.shown key) (ok refl) }
answered_deleted (Err f) a words image now m key es st err ok reply =
    record { reply = reply; stands = refused a words image now m (PolicyDelete key) f (err refl) st reply }
