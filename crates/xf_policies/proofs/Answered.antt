-- Results as answers of the rules.
use Rattle.std.proofs.Common.{◌≡◌, ◌≢◌, ℕ, Bool, true, false, List, [], ◌∷◌, Option, Ok, Err, map, refl, ap, sym, ◌∙◌, subst, arith, if◌then◌else◌, IsTrue, rules}
use Rattle.std.proofs.lemmas.Bool.{false≢true}
use Rattle.std.proofs.lemmas.Bool.Decides.{nat_tests}
use Rattle.std.specs.Prelude.{IsErr, IsOk, IfOk, IfErr, is_ok, nat_lt}
use Rattle.std.specs.declared.result.Result.{Result}
use Rattle.xf_types.specs.declared.call.Call.{Call}
use Rattle.xf_types.specs.declared.call.Reply.{Reply}
use Rattle.xf_types.specs.declared.call.Reply.TheVariants as reply
use Rattle.xf_types.specs.declared.network.Ptype.{Ptype}
use Rattle.xf_types.specs.declared.policy.Policy.{Policy}
use Rattle.xf_types.specs.declared.policy.PolicyFilter.{PolicyFilter}
use Rattle.xf_types.specs.Changes.{Answer, shown_after}
use Rattle.xf_types.specs.Codes.{is_refusal_of}
use Rattle.xf_types.specs.Machine.{Machine, Shown}
use Rattle.xf_types.specs.PolicyList.{policy_meets, without}
use Rattle.xf_types.specs.PolicyRules.{policy_deleteall, policy_flush}
use Rattle.xf_types.specs.Same.{meets_one, same_ptype}
use Rattle.xf_types.specs.Steps.{rule_of, by_rule, ByShown}
use Rattle.xf_types.specs.TickRules.{soft_if}
use Rattle.xf_laws.proofs.LocalLemmas.{applied-shown}
use Rattle.xf_laws.proofs.StepLemmas.{step-refused}
use Rattle.xf_image.specs.declared.area.PolicyArea.{PolicyArea}
use Rattle.xf_image.specs.Entries.{entries_without, with_policies}
use Rattle.xf_inexact.specs.Whole.{SpdStands}
use Rattle.xf_spd.specs.declared.faults.SpdFault.{SpdFault}
use Rattle.xf_spd.specs.declared.faults.SpdFault.TheVariants.{Invalid, Exists, NoEntry, Full}
use Rattle.xf_spd.specs.Replies.{fault_reply, index_reply, IsKeyFault, FaultIs, ReplyIs}
use Rattle.xf_spd.proofs.Inserted.{plain_reply}
use Rattle.xf_policies.specs.declared.sweep.Sweep.TheVariants.{Admitted, OfPtype}
use Rattle.xf_policies.specs.Answers.{PolicyAnswers}
use Rattle.xf_policies.specs.Sweeps.{entries_swept}
use Rattle.xf_policies.specs.Standing.{IsSwept}
use Rattle.xf_policies.proofs.Swept.{admitted_gone, ptype_gone}

-- The words stand for what is shown, with its policies in some slots.
pub record Represents (a : PolicyArea) (words : List ℕ) (s : Shown) : Type 0 where
  pub entries : List (ℕ × Policy)
  pub stands : SpdStands a words s entries

-- ---- whether a call began

begun_of : (r : Result ℕ SpdFault) (before after : Bool) → after ≡ (if is_ok r then true else before) → after ≡ (if is_refusal_of (index_reply r) then before else true)
begun_of (Ok i) before after h = h
begun_of (Err Invalid) before after h = h
begun_of (Err (Exists index)) before after h = h
begun_of (Err NoEntry) before after h = h
begun_of (Err (Full live waiting)) before after h = h

pub begun_by : (r : Result ℕ SpdFault) (given : Reply) (before after : Bool) → given ≡ index_reply r → after ≡ (if is_ok r then true else before)
    → after ≡ (if is_refusal_of given then before else true)
begun_by r given before after e h = subst (λ (x : Reply). after ≡ (if is_refusal_of x then before else true)) (sym e) (begun_of r before after h)

refused_of : (r : Result ℕ SpdFault) (P : Type 0) → (IsErr r → P) → IsTrue (is_refusal_of (index_reply r)) → P
refused_of (Ok i) P err h = absurd (false≢true h)
refused_of (Err fault) P err h = err refl

pub refused_by : (r : Result ℕ SpdFault) (given : Reply) (P : Type 0) → given ≡ index_reply r → (IsErr r → P) → IsTrue (is_refusal_of given) → P
refused_by r given P e err h = refused_of r P err (subst (λ (x : Reply). IsTrue (is_refusal_of x)) e h)

allowed_of : (r : Result ℕ SpdFault) → is_refusal_of (index_reply r) ≡ false → IsOk r
allowed_of (Ok i) h = refl
allowed_of (Err Invalid) h = absurd (false≢true (sym h))
allowed_of (Err (Exists index)) h = absurd (false≢true (sym h))
allowed_of (Err NoEntry) h = absurd (false≢true (sym h))
allowed_of (Err (Full live waiting)) h = absurd (false≢true (sym h))

pub allowed_by : (r : Result ℕ SpdFault) (given : Reply) → given ≡ index_reply r → is_refusal_of given ≡ false → IsOk r
allowed_by r given e h = allowed_of r (ap (λ (x : Reply). is_refusal_of x) (sym e) ∙ h)

-- memory is never wanting

memory_of : (r : Result ℕ SpdFault) → index_reply r ≡ reply.NoMemory → ⊥
memory_of (Ok i) e = absurd (cc)
memory_of (Err Invalid) e = absurd (cc)
memory_of (Err (Exists index)) e = absurd (cc)
memory_of (Err NoEntry) e = absurd (cc)
memory_of (Err (Full live waiting)) e = absurd (cc)

pub memory_by : (r : Result ℕ SpdFault) (given : Reply) → given ≡ index_reply r → given ≢ reply.NoMemory
memory_by r given e = λ h. memory_of r (sym e ∙ h)

-- an index as the reply is that of the result

done_of : (X : ℕ → Type 0) (r : Result ℕ SpdFault) (index : ℕ) → index_reply r ≡ reply.DoneIndex index → IfOk r X → X index
done_of X (Ok i) index e h = let same : i ≡ index = cc in subst X same h
done_of X (Err Invalid) index e h = absurd (cc)
done_of X (Err (Exists other)) index e h = absurd (cc)
done_of X (Err NoEntry) index e h = absurd (cc)
done_of X (Err (Full live waiting)) index e h = absurd (cc)

pub done_by : (X : ℕ → Type 0) (r : Result ℕ SpdFault) (given : Reply) (index : ℕ) → given ≡ index_reply r → given ≡ reply.DoneIndex index → IfOk r X → X index
done_by X r given index e d h = done_of X r index (sym e ∙ d) h

-- ---- a refusal of the rule leaves what is shown

pub refusal_leaves : (s : Shown) (c : Call) (rule : Answer) → rule_of s c ≡ ByShown rule → IsTrue (is_refusal_of rule.reply) → shown_after s rule.change ≡ s
refusal_leaves s c rule e h =
    sym (applied-shown (record { shown = s; own = [] }) rule.change)
    ∙ ap (λ (x : Machine). x.shown)
    (subst (λ r. (by_rule (record { shown = s; own = [] }) r).machine ≡ record { shown = s; own = [] }) e
    (step-refused (record { shown = s; own = [] }) c (subst (λ r. IsTrue (is_refusal_of (by_rule (record { shown = s; own = [] }) r).reply)) (sym e) h)))

-- ---- what is shown afterwards

if_waiting : (b : Bool) (a : PolicyArea) (words : List ℕ) (s t : Shown) (es : List (ℕ × Policy)) → SpdStands a words s es → (b ≡ false → t ≡ s) → SpdStands a words (if b then s else t) es
if_waiting true a words s t es st same = st
if_waiting false a words s t es st same = subst (λ (x : Shown). SpdStands a words x es) (sym (same refl)) st

no_wait : (waiting : ℕ) → nat_lt 0 waiting ≡ false → waiting ≡ 0
no_wait waiting e = grind (arith, nat_tests)

refusing : (fault : SpdFault) → IsTrue (is_refusal_of (fault_reply fault))
refusing Invalid = refl
refusing (Exists index) = refl
refusing NoEntry = refl
refusing (Full live waiting) = refl

leaves_by : (s : Shown) (rule : Shown → Answer) (fault : SpdFault) → (IsTrue (is_refusal_of (rule s).reply) → shown_after s (rule s).change ≡ s) → fault_reply fault ≡ (rule s).reply
    → shown_after s (rule s).change ≡ s
leaves_by s rule fault stay e = stay (subst (λ (x : Reply). IsTrue (is_refusal_of x)) e (refusing fault))

refused_answers : (fault : SpdFault) (a : PolicyArea) (image : List ℕ) (s : Shown) (es : List (ℕ × Policy)) (held : ℕ) (rule : Shown → Answer) → SpdStands a image s es
    → (IsTrue (is_refusal_of (rule s).reply) → shown_after s (rule s).change ≡ s) → FaultIs held s (λ t. (rule t).reply) fault → PolicyAnswers a image s held (fault_reply fault) rule
refused_answers Invalid a image s es held rule st stay h =
    record { reply = h; entries = es; stands = subst (λ (x : Shown). SpdStands a image x es) (sym (leaves_by s rule Invalid stay h)) st }
refused_answers (Exists index) a image s es held rule st stay h =
    record { reply = h; entries = es; stands = subst (λ (x : Shown). SpdStands a image x es) (sym (leaves_by s rule (Exists index) stay h)) st }
refused_answers NoEntry a image s es held rule st stay h =
    record { reply = h; entries = es; stands = subst (λ (x : Shown). SpdStands a image x es) (sym (leaves_by s rule NoEntry stay h)) st }
refused_answers (Full live waiting) a image s es held rule st stay h = record {
  reply = h;
  entries = es;
  stands = if_waiting (nat_lt 0 waiting) a image s (shown_after s (rule s).change) es st
      (λ e. leaves_by s rule (Full live waiting) stay
      (plain_reply held s (λ t. (rule t).reply) (Err (Full live waiting)) (sym h.waits ∙ no_wait waiting e) h));
}

answered_of : (X : ℕ → Type 0) (r : Result ℕ SpdFault) (a : PolicyArea) (words image : List ℕ) (s : Shown) (es : List (ℕ × Policy)) (held : ℕ) (rule : Shown → Answer) → SpdStands a words s es
    → (IsErr r → image ≡ words) → IfOk r X → ((i : ℕ) → X i → Represents a image (shown_after s (rule s).change))
    → (IsTrue (is_refusal_of (rule s).reply) → shown_after s (rule s).change ≡ s) → ReplyIs held s (λ t. (rule t).reply) r → PolicyAnswers a image s held (index_reply r) rule
answered_of X (Ok i) a words image s es held rule st err ok to stay h = let new = to i ok in record { reply = h; entries = new.entries; stands = new.stands }
answered_of X (Err fault) a words image s es held rule st err ok to stay h =
    refused_answers fault a image s es held rule (subst (λ (i : List ℕ). SpdStands a i s es) (sym (err refl)) st) stay h

-- an index or a fault is the answer of the rule
pub answered_by : (X : ℕ → Type 0) (r : Result ℕ SpdFault) (given : Reply) (a : PolicyArea) (words image : List ℕ) (s : Shown) (es : List (ℕ × Policy)) (held : ℕ) (rule : Shown → Answer)
    → given ≡ index_reply r → SpdStands a words s es
    → (IsErr r → image ≡ words) → IfOk r X → ((i : ℕ) → X i → Represents a image (shown_after s (rule s).change))
    → (IsTrue (is_refusal_of (rule s).reply) → shown_after s (rule s).change ≡ s) → ReplyIs held s (λ t. (rule t).reply) r → PolicyAnswers a image s held given rule
answered_by X r given a words image s es held rule e st err ok to stay h =
    subst (λ (x : Reply). PolicyAnswers a image s held x rule) (sym e) (answered_of X r a words image s es held rule st err ok to stay h)

fault_known : (held : ℕ) (s : Shown) (rule : Shown → Answer) (r : Result ℕ SpdFault) → IfErr r IsKeyFault → index_reply r ≡ (rule s).reply → ReplyIs held s (λ t. (rule t).reply) r
fault_known held s rule (Ok i) f h = h
fault_known held s rule (Err Invalid) f h = h
fault_known held s rule (Err (Exists index)) f h = absurd f
fault_known held s rule (Err NoEntry) f h = h
fault_known held s rule (Err (Full live waiting)) f h = absurd f

if_ok : (r : Result ℕ SpdFault) (P : Type 0) → (IsOk r → P) → IfOk r (λ i. P)
if_ok (Ok i) P f = f refl
if_ok (Err fault) P f = search rules

-- so too where a key names what leaves
pub answered_key : (r : Result ℕ SpdFault) (given : Reply) (a : PolicyArea) (words image : List ℕ) (s : Shown) (es fs : List (ℕ × Policy)) (held : ℕ) (rule : Shown → Answer)
    → given ≡ index_reply r → SpdStands a words s es
    → (IsErr r → image ≡ words) → (IsOk r → SpdStands a image (shown_after s (rule s).change) fs)
    → (IsTrue (is_refusal_of (rule s).reply) → shown_after s (rule s).change ≡ s) → IfErr r IsKeyFault → index_reply r ≡ (rule s).reply → PolicyAnswers a image s held given rule
answered_key r given a words image s es fs held rule e st err ok stay fault h =
    answered_by (λ i. SpdStands a image (shown_after s (rule s).change) fs) r given a words image s es held rule e st err
    (if_ok r (SpdStands a image (shown_after s (rule s).change) fs) ok) (λ i new. record { entries = fs; stands = new }) stay (fault_known held s rule r fault h)

-- ---- all of a kind left

none_warned : (ps : List Policy) → map (λ p. soft_if false p) ps ≡ ps
none_warned [] = refl
none_warned (p ∷ ps) = ap (λ (l : List Policy). p ∷ l) (none_warned ps)

pub stands_deleteall : (a : PolicyArea) (words : List ℕ) (s : Shown) (es : List (ℕ × Policy)) (f : PolicyFilter) (count : ℕ) → IsSwept a words (Admitted f) s es count
    → SpdStands a words (with_policies s (without (policy_meets f) s.policies)) (entries_without (policy_meets f) es)
stands_deleteall a words s es f count k =
    subst (λ (xs : List (ℕ × Policy)). SpdStands a words (with_policies s (without (policy_meets f) s.policies)) xs) (admitted_gone f es)
    (subst (λ (ps : List Policy). SpdStands a words (with_policies s ps) (entries_swept (Admitted f) es)) (none_warned (without (policy_meets f) s.policies)) k.stands)

pub answered_deleteall : (a : PolicyArea) (words : List ℕ) (s : Shown) (es : List (ℕ × Policy)) (f : PolicyFilter) (held count : ℕ) → IsSwept a words (Admitted f) s es count
    → PolicyAnswers a words s held (reply.Removed count) (λ t. policy_deleteall t f)
answered_deleteall a words s es f held count k =
    record { reply = ap (λ (n : ℕ). reply.Removed n) k.counted; entries = entries_without (policy_meets f) es; stands = stands_deleteall a words s es f count k }

pub stands_flush : (a : PolicyArea) (words : List ℕ) (s : Shown) (es : List (ℕ × Policy)) (ptype : Option Ptype) (count : ℕ) → IsSwept a words (OfPtype ptype) s es count
    → SpdStands a words (with_policies s (without (λ p. meets_one same_ptype ptype p.spec.ptype) s.policies)) (entries_without (λ p. meets_one same_ptype ptype p.spec.ptype) es)
stands_flush a words s es ptype count k =
    let test : Policy → Bool = λ p. meets_one same_ptype ptype p.spec.ptype in
    subst (λ (xs : List (ℕ × Policy)). SpdStands a words (with_policies s (without test s.policies)) xs) (ptype_gone ptype es)
    (subst (λ (ps : List Policy). SpdStands a words (with_policies s ps) (entries_swept (OfPtype ptype) es)) (none_warned (without test s.policies)) k.stands)

pub answered_flush : (a : PolicyArea) (words : List ℕ) (s : Shown) (es : List (ℕ × Policy)) (ptype : Option Ptype) (held count : ℕ) → IsSwept a words (OfPtype ptype) s es count
    → PolicyAnswers a words s held (reply.Removed count) (λ t. policy_flush t ptype)
answered_flush a words s es ptype held count k = record {
  reply = ap (λ (n : ℕ). reply.Removed n) k.counted;
  entries = entries_without (λ p. meets_one same_ptype ptype p.spec.ptype) es;
  stands = stands_flush a words s es ptype count k;
}
