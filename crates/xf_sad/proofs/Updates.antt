-- What the rule of updating makes.
use Rattle.std.proofs.Common.{◌≡◌, ◌≢◌, ℕ, ◌==◌, Bool, true, false, cond, List, [], ◌∷◌, ◌++◌, Option, None, Some, Ok, Err, refl, ap, sym, ◌∙◌, subst, arith, AllPairs, if◌then◌else◌}
use Rattle.std.specs.declared.result.Result.{Result}
use Rattle.std.proofs.lemmas.Bool.Decides.{nat_tests}
use Rattle.xf_types.specs.declared.call.Reply.{Reply}
use Rattle.xf_types.specs.declared.call.Reply.TheVariants as reply
use Rattle.xf_types.specs.declared.state.Sa.{Sa}
use Rattle.xf_types.specs.declared.state.SaSpec.{SaSpec}
use Rattle.xf_types.specs.Changes.{Answer, answer, InPlace}
use Rattle.xf_types.specs.Machine.{Shown}
use Rattle.xf_types.specs.StateList.{has_sid, changed, id_of, has_id, last_of}
use Rattle.xf_types.specs.StateRules.{refreshed_record, state_updated, state_update, state_added_if_room}
use Rattle.xf_chain.specs.Lists.{Misses, Apart}
use Rattle.xf_chain.proofs.Slots.{misses_front, misses_back, misses_others}
use Rattle.xf_index.specs.Indexes.{records_in}
use Rattle.xf_index.specs.Finds.{slot_found, record_found}
use Rattle.xf_sadidx.specs.Founds.{latest_in}
use Rattle.xf_sadidx.proofs.FoundLaws.{latest_record}
use Rattle.xf_sad.specs.declared.faults.SadFault.{SadFault}
use Rattle.xf_sad.specs.declared.faults.SadFault.TheVariants.{Invalid, Exists, NoState, NoSpi, Full}
use Rattle.xf_sad.specs.Replies.{FaultIs, ReplyIs, fault_reply}
use Rattle.xf_sad.proofs.Rules.{sids_in, sids_append, sids_apart}

-- ---- one record of the list is another one

missing_same : (sid : ℕ) (f : Sa → Sa) (es : List (ℕ × Sa)) → Misses sid (sids_in es) → changed sid f (records_in es) ≡ records_in es
unfolding sids_in
missing_same sid f [] m = refl
missing_same sid f (e ∷ es) m =
    let b : (e.1.sid == sid) ≡ false = other sid e.1.sid m.0 in
    ap (λ (t : Bool). cond t (f e.1) e.1 ∷ changed sid f (records_in es)) b ∙ ap (λ (l : List Sa). e.1 ∷ l) (missing_same sid f es m.1)
  where
    other : (x y : ℕ) → x ≢ y → (y == x) ≡ false
    other x y n = grind (arith, nat_tests)

changed_between : (slot : ℕ) (r : Sa) (f : Sa → Sa) (front back : List (ℕ × Sa)) → Misses r.sid (sids_in front) → Misses r.sid (sids_in back)
    → changed r.sid f (records_in (front ++ ((slot, r) ∷ back))) ≡ records_in (front ++ ((slot, f r) ∷ back))
unfolding sids_in
changed_between slot r f [] back m n =
    let b : (r.sid == r.sid) ≡ true = same r.sid in
    ap (λ (t : Bool). cond t (f r) r ∷ changed r.sid f (records_in back)) b ∙ ap (λ (l : List Sa). f r ∷ l) (missing_same r.sid f back n)
  where
    same : (x : ℕ) → (x == x) ≡ true
    same x = grind (arith, nat_tests)
changed_between slot r f (e ∷ front) back m n =
    let b : (e.1.sid == r.sid) ≡ false = other r.sid e.1.sid m.0 in
    ap (λ (t : Bool). cond t (f e.1) e.1 ∷ changed r.sid f (records_in (front ++ ((slot, r) ∷ back)))) b ∙ ap (λ (l : List Sa). e.1 ∷ l) (changed_between slot r f front back m.1 n)
  where
    other : (x y : ℕ) → x ≢ y → (y == x) ≡ false
    other x y n = grind (arith, nat_tests)

pub changed_is : (slot : ℕ) (r : Sa) (f : Sa → Sa) (front back : List (ℕ × Sa)) → AllPairs (λ (x y : Sa). x.sid ≡ y.sid → ⊥) (records_in (front ++ ((slot, r) ∷ back)))
    → changed r.sid f (records_in (front ++ ((slot, r) ∷ back))) ≡ records_in (front ++ ((slot, f r) ∷ back))
unfolding sids_in
changed_is slot r f front back pairs =
    let n : Misses r.sid (sids_in front ++ sids_in back) =
    misses_others r.sid (sids_in front) (sids_in back) (subst (λ (xs : List ℕ). Apart xs) (sids_append front ((slot, r) ∷ back)) (sids_apart (front ++ ((slot, r) ∷ back)) pairs)) in
    changed_between slot r f front back (misses_front r.sid (sids_in front) (sids_in back) n) (misses_back r.sid (sids_in front) (sids_in back) n)

-- ---- the rule

updated_by : Shown → SaSpec → Sa → Bool → Answer
updated_by s spec old b =
    if b then state_added_if_room s (has_sid old.sid) spec
    else answer (reply.DoneSid old.sid) (InPlace (record s { states = changed old.sid (refreshed_record spec) s.states }))

pub if_larval : (s : Shown) (spec : SaSpec) (old : Sa) → old.larval ≡ true → state_updated s spec (Some old) ≡ state_added_if_room s (has_sid old.sid) spec
unfolding updated_by
if_larval s spec old e = ap (λ (b : Bool). updated_by s spec old b) e

pub if_used : (s : Shown) (spec : SaSpec) (old : Sa) → old.larval ≡ false
    → state_updated s spec (Some old) ≡ answer (reply.DoneSid old.sid) (InPlace (record s { states = changed old.sid (refreshed_record spec) s.states }))
unfolding updated_by
if_used s spec old e = ap (λ (b : Bool). updated_by s spec old b) e

-- ---- the latest match

pub match_is : (s : Shown) (es : List (ℕ × Sa)) (spec : SaSpec) (o : Option (ℕ × Sa)) → records_in es ≡ s.states → latest_in (has_id (id_of spec)) es ≡ o
    → state_update s spec ≡ state_updated s spec (record_found o)
match_is s es spec o listed e =
    ap (λ (x : Option Sa). state_updated s spec x)
    (sym (ap (λ (xs : List Sa). last_of (has_id (id_of spec)) xs) listed) ∙ sym (latest_record (has_id (id_of spec)) es) ∙ ap (λ (x : Option (ℕ × Sa)). record_found x) e)

pub found_none : (o : Option (ℕ × Sa)) → slot_found o ≡ None → o ≡ None
found_none None e = refl
found_none (Some x) e = absurd (cc)

-- The state of what was found in a slot.
pub record Pair (o : Option (ℕ × Sa)) (slot : ℕ) : Type 0 where
  pub state : Sa
  pub is : o ≡ Some (slot, state)

pub found_pair : (o : Option (ℕ × Sa)) (slot : ℕ) → slot_found o ≡ Some slot → Pair o slot
found_pair None slot e = absurd (cc)
found_pair (Some x) slot e = let k : x.0 ≡ slot = cc in record { state = x.1; is = ap (λ (n : ℕ). Some (n, x.1)) k }

pub same_slot : (o : Option (ℕ × Sa)) (x slot : ℕ) (r : Sa) → slot_found o ≡ Some x → o ≡ Some (slot, r) → x ≡ slot
same_slot o x slot r e h = let k : Some x ≡ Some slot = sym e ∙ ap (λ (p : Option (ℕ × Sa)). slot_found p) h in cc

pub no_slot : (o : Option (ℕ × Sa)) (slot : ℕ) (r : Sa) → o ≡ Some (slot, r) → slot_found o ≡ None → ⊥
no_slot o slot r e h = let k : None ≡ Some slot = sym h ∙ ap (λ (p : Option (ℕ × Sa)). slot_found p) e in absurd (cc)

-- ---- rules that agree whatever the room

fault_as : (held : ℕ) (s : Shown) (rule other : Shown → Reply) (fault : SadFault) → ((m : ℕ) → rule (record s { max_states = m }) ≡ other (record s { max_states = m }))
    → FaultIs held s rule fault → FaultIs held s other fault
fault_as held s rule other Invalid f h = h ∙ f s.max_states
fault_as held s rule other (Exists sid) f h = h ∙ f s.max_states
fault_as held s rule other NoState f h = h ∙ f s.max_states
fault_as held s rule other NoSpi f h = h ∙ f s.max_states
fault_as held s rule other (Full live waiting) f h = record { all = h.all; waits = h.waits; room = h.room; reply = h.reply ∙ f live }

pub reply_as : (held : ℕ) (s : Shown) (rule other : Shown → Reply) (told : ℕ → Option Reply) (result : Result ℕ SadFault)
    → ((m : ℕ) → rule (record s { max_states = m }) ≡ other (record s { max_states = m })) → ReplyIs held s rule told result → ReplyIs held s other told result
reply_as held s rule other told (Ok slot) f h = h ∙ ap (λ (r : Reply). Some r) (f s.max_states)
reply_as held s rule other told (Err fault) f h = fault_as held s rule other fault f h

-- where no slot waits the fault is the machine's reply
pub plain_fault : (held : ℕ) (s : Shown) (rule : Shown → Reply) (fault : SadFault) → held ≡ 0 → FaultIs held s rule fault → fault_reply fault ≡ rule s
plain_fault held s rule Invalid e h = h
plain_fault held s rule (Exists sid) e h = h
plain_fault held s rule NoState e h = h
plain_fault held s rule NoSpi e h = h
plain_fault held s rule (Full live waiting) e h =
    let w : waiting ≡ 0 = h.waits ∙ e in
    let r = h.room in
    let m : live ≡ s.max_states = omega (arith, w, r) in
    ap (λ (n : ℕ). reply.Full live n) w ∙ (h.reply ∙ ap (λ (n : ℕ). rule (record s { max_states = n })) m)
