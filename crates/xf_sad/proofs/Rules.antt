-- What the rules of adding make of a state that was placed.
use Rattle.std.proofs.Common.{◌≡◌, ◌≢◌, ℕ, suc, ◌<◌, ◌==◌, Bool, true, false, cond, nat_le, List, [], ◌∷◌, ◌++◌, Option, None, Some, Ok, Err, length, get_or, reverse, refl, ap, sym, ◌∙◌, subst, arith, rules, AllPairs, if◌then◌else◌}
use Rattle.std.specs.Prelude.{All, IfOk, IfErr}
use Rattle.std.specs.declared.result.Result.{Result}
use Rattle.std.proofs.lemmas.Bool.Decides.{nat_tests}
use Rattle.std.proofs.lemmas.List.{reverse-reverse}
use Rattle.std.proofs.lemmas.List.Elements.{All-nil, All-cons, All-append}
use Rattle.xf_types.specs.declared.call.Reply.{Reply}
use Rattle.xf_types.specs.declared.call.Reply.TheVariants as reply
use Rattle.xf_types.specs.declared.state.Sa.{Sa}
use Rattle.xf_types.specs.declared.state.SaId.{SaId}
use Rattle.xf_types.specs.declared.state.SaSpec.{SaSpec}
use Rattle.xf_types.specs.Changes.{Answer, NewState, answer, LeaveThen}
use Rattle.xf_types.specs.Machine.{Shown}
use Rattle.xf_types.specs.PolicyList.{without}
use Rattle.xf_types.specs.StateList.{has_id, has_sid, is_that, is_none, is_larval_of, larval_replaced}
use Rattle.xf_types.specs.StateRules.{full_of_states, state_added_if_room, state_added_unless_found, state_add}
use Rattle.xf_chain.specs.Lists.{Misses, Apart}
use Rattle.xf_chain.proofs.Slots.{misses_front, misses_back, misses_others}
use Rattle.xf_index.specs.Indexes.{slots_in, records_in}
use Rattle.xf_index.specs.Finds.{slot_found, record_found, Found}
use Rattle.xf_index.proofs.Entries.{slots_append, reverse_within}
use Rattle.xf_index.proofs.Finds.{found_splits}
use Rattle.xf_sadidx.specs.declared.area.StateArea.{StateArea}
use Rattle.xf_sadidx.specs.declared.kind.Kind.TheVariants.{Spi, Seq}
use Rattle.xf_sadidx.specs.declared.query.StateQuery.TheVariants as asked
use Rattle.xf_sadidx.specs.Founds.{hash_chain, found_on, latest_in}
use Rattle.xf_sadidx.specs.Keys.{hash_of, spi_hash}
use Rattle.xf_sadidx.specs.Layout.{record_at}
use Rattle.xf_sadidx.proofs.FoundLaws.{latest_is}
use Rattle.xf_sadidx.proofs.KeyLaws.{replaced_key, id_key}
use Rattle.xf_sadimage.specs.States.{StatesStand}
use Rattle.xf_sadlist.specs.Listed.{with_state, with_states}
use Rattle.xf_sadfind.specs.Replaced.{larval_in, sid_found, in_the_way}
use Rattle.xf_sadfind.proofs.Besides.{larval_record}
use Rattle.xf_sad.specs.Changes.{is_slot, entries_but, new_state, Comes, Placed}
use Rattle.xf_sad.specs.Lookups.{replaced_in, named_in}
use Rattle.xf_sad.specs.declared.faults.SadFault.{SadFault}
use Rattle.xf_sad.specs.declared.faults.SadFault.TheVariants.{Invalid, Exists, NoState, NoSpi, Full}
use Rattle.xf_sad.specs.Replies.{FaultIs, ReplyIs, IsOutOfRoom, IsRoomFault, IsAddFault, IsUpdateFault, IsAllocFault}
use Rattle.xf_sad.specs.Slots.{IsListed, Where}
use Rattle.xf_sad.proofs.Found.{state_is}
use Rattle.xf_sad.proofs.Placings.{but_records}

-- ---- what the walks find

pub replaced_is : (a : StateArea) (image : List ℕ) (s : Shown) (es : List (ℕ × Sa)) (spec : SaSpec) → StatesStand a image s es → replaced_in a image spec ≡ slot_found (larval_in spec es)
unfolding replaced_in
replaced_is a image s es spec st = by (spec.seq == 0) refl
  where
    by : (b : Bool) → (spec.seq == 0) ≡ b
        → cond b None (found_on a image (asked.Replaced spec.seq spec.proto spec.dst) (hash_chain a image Seq (hash_of (spec.seq ∷ []))))
        ≡ slot_found (cond b None (latest_in (is_larval_of spec) es))
    by true e = refl
    by false e =
        let chained = st.chained in
        let n : spec.seq ≢ 0 = grind (arith, nat_tests) in
        latest_is a image Seq (hash_of (spec.seq ∷ [])) (asked.Replaced spec.seq spec.proto spec.dst) es
        (λ r m. replaced_key spec.seq spec.proto spec.dst r n m) chained.indexed chained.records

pub named_is : (a : StateArea) (image : List ℕ) (s : Shown) (es : List (ℕ × Sa)) (id : SaId) → StatesStand a image s es → named_in a image id ≡ slot_found (latest_in (has_id id) es)
unfolding named_in
named_is a image s es id st =
    let chained = st.chained in
    latest_is a image Spi (spi_hash id.dst id.spi id.proto) (asked.Named id) es (λ r m. id_key id r m) chained.indexed chained.records

-- ---- a slot and a state id name the same entry

unfoldable pub sids_in : List (ℕ × Sa) → List ℕ
sids_in [] = []
sids_in (e ∷ es) = e.1.sid ∷ sids_in es

pub sids_append : (front back : List (ℕ × Sa)) → sids_in (front ++ back) ≡ sids_in front ++ sids_in back
unfolding sids_in
sids_append [] back = refl
sids_append (e ∷ front) back = ap (λ (l : List ℕ). e.1.sid ∷ l) (sids_append front back)

sids_miss : (x : Sa) (es : List (ℕ × Sa)) → ((j : ℕ) (d : Sa) → j < length (records_in es) → x.sid ≡ (get_or (records_in es) j d).sid → ⊥) → Misses x.sid (sids_in es)
unfolding sids_in
sids_miss x [] f = search rules
sids_miss x (e ∷ es) f = ((λ k. f 0 x (omega arith) k), sids_miss x es (λ j d l. f (suc j) d (omega arith)))

pub sids_apart : (es : List (ℕ × Sa)) → AllPairs (λ (x y : Sa). x.sid ≡ y.sid → ⊥) (records_in es) → Apart (sids_in es)
unfolding sids_in
sids_apart [] f = search rules
sids_apart (e ∷ es) f =
    (sids_miss e.1 es (λ j d l. f 0 (suc j) d (omega arith) (omega arith)), sids_apart es (λ i j d lt within. f (suc i) (suc j) d (omega arith) (omega arith)))

other : (x y : ℕ) → x ≢ y → (y == x) ≡ false
other x y n = grind (arith, nat_tests)

same : (x : ℕ) → (x == x) ≡ true
same x = grind (arith, nat_tests)

alike : (slot sid : ℕ) (es : List (ℕ × Sa)) → Misses slot (slots_in es) → Misses sid (sids_in es) → All (λ (e : ℕ × Sa). has_sid sid e.1 ≡ (e.0 == slot)) es
unfolding sids_in
alike slot sid [] m n = All-nil (λ (e : ℕ × Sa). has_sid sid e.1 ≡ (e.0 == slot))
alike slot sid (e ∷ es) m n =
    All-cons (λ (x : ℕ × Sa). has_sid sid x.1 ≡ (x.0 == slot)) e es (other sid e.1.sid n.0 ∙ sym (other slot e.0 m.0)) (alike slot sid es m.1 n.1)

pub named : (slot : ℕ) (r : Sa) (front back : List (ℕ × Sa)) → Apart (slots_in (front ++ ((slot, r) ∷ back))) → AllPairs (λ (x y : Sa). x.sid ≡ y.sid → ⊥) (records_in (front ++ ((slot, r) ∷ back)))
    → All (λ (e : ℕ × Sa). has_sid r.sid e.1 ≡ (e.0 == slot)) (front ++ ((slot, r) ∷ back))
unfolding sids_in
named slot r front back apart pairs =
    let m : Misses slot (slots_in front ++ slots_in back) = misses_others slot (slots_in front) (slots_in back) (subst (λ (xs : List ℕ). Apart xs) (slots_append front ((slot, r) ∷ back)) apart) in
    let n : Misses r.sid (sids_in front ++ sids_in back) =
    misses_others r.sid (sids_in front) (sids_in back) (subst (λ (xs : List ℕ). Apart xs) (sids_append front ((slot, r) ∷ back)) (sids_apart (front ++ ((slot, r) ∷ back)) pairs)) in
    All-append (λ (e : ℕ × Sa). has_sid r.sid e.1 ≡ (e.0 == slot)) front ((slot, r) ∷ back)
    (alike slot r.sid front (misses_front slot (slots_in front) (slots_in back) m) (misses_front r.sid (sids_in front) (sids_in back) n))
    (All-cons (λ (e : ℕ × Sa). has_sid r.sid e.1 ≡ (e.0 == slot)) (slot, r) back (same r.sid ∙ sym (same slot))
    (alike slot r.sid back (misses_back slot (slots_in front) (slots_in back) m) (misses_back r.sid (sids_in front) (sids_in back) n)))

-- ---- the last that passes is listed

-- An entry between others.
pub record IsEntry (entries : List (ℕ × Sa)) (slot : ℕ) (r : Sa) : Type 0 where
  pub front : List (ℕ × Sa)
  pub behind : List (ℕ × Sa)
  pub whole : entries ≡ front ++ ((slot, r) ∷ behind)

pub latest_entry : (test : Sa → Bool) (es : List (ℕ × Sa)) (slot : ℕ) (r : Sa) → latest_in test es ≡ Some (slot, r) → IsEntry es slot r
latest_entry test es slot r e =
    let f : Found test slot r (reverse es) = found_splits test (reverse es) slot r e in
    record {
      front = reverse f.back;
      behind = reverse f.front;
      whole = sym (reverse-reverse es) ∙ ap reverse f.whole ∙ reverse_within f.front f.back (slot, r);
    }

larval_entry : (spec : SaSpec) (es : List (ℕ × Sa)) (slot : ℕ) (r : Sa) → larval_in spec es ≡ Some (slot, r) → IsEntry es slot r
larval_entry spec es slot r e = by (spec.seq == 0) e
  where
    by : (b : Bool) → cond b None (latest_in (is_larval_of spec) es) ≡ Some (slot, r) → IsEntry es slot r
    by true h = absurd (cc)
    by false h = latest_entry (is_larval_of spec) es slot r h

pub entry_listed : (es : List (ℕ × Sa)) (slot : ℕ) (r : Sa) → IsEntry es slot r → IsListed es slot
entry_listed es slot r is = record { front = is.front; behind = is.behind; state = r; whole = is.whole }

pub larval_listed : (spec : SaSpec) (es : List (ℕ × Sa)) → Where (IsListed es) (slot_found (larval_in spec es))
larval_listed spec es = by (larval_in spec es) refl
  where
    by : (o : Option (ℕ × Sa)) → larval_in spec es ≡ o → Where (IsListed es) (slot_found o)
    by None e = tt
    by (Some x) e = entry_listed es x.0 x.1 (larval_entry spec es x.0 x.1 e)

-- the rule's test holds of the state in the slot alone
pub entry_tests : (s : Shown) (es : List (ℕ × Sa)) (slot : ℕ) (r : Sa) → IsEntry es slot r → Apart (slots_in es) → AllPairs (λ (x y : Sa). x.sid ≡ y.sid → ⊥) (records_in es)
    → All (λ (e : ℕ × Sa). has_sid r.sid e.1 ≡ is_slot (Some slot) e.0) es
entry_tests s es slot r is apart pairs =
    subst (λ (xs : List (ℕ × Sa)). All (λ (e : ℕ × Sa). has_sid r.sid e.1 ≡ is_slot (Some slot) e.0) xs) (sym is.whole)
    (named slot r is.front is.behind (subst (λ (xs : List (ℕ × Sa)). Apart (slots_in xs)) is.whole apart)
    (subst (λ (xs : List (ℕ × Sa)). AllPairs (λ (x y : Sa). x.sid ≡ y.sid → ⊥) (records_in xs)) is.whole pairs))

pub no_tests : (es : List (ℕ × Sa)) → All (λ (e : ℕ × Sa). is_none e.1 ≡ is_slot None e.0) es
no_tests es = λ k d l. refl

pub larval_tests : (s : Shown) (es : List (ℕ × Sa)) (spec : SaSpec) → records_in es ≡ s.states → Apart (slots_in es) → AllPairs (λ (x y : Sa). x.sid ≡ y.sid → ⊥) s.states
    → All (λ (e : ℕ × Sa). is_that (larval_replaced s.states spec) e.1 ≡ is_slot (slot_found (larval_in spec es)) e.0) es
larval_tests s es spec listed apart pairs =
    subst (λ (o : Option Sa). All (λ (e : ℕ × Sa). is_that o e.1 ≡ is_slot (slot_found (larval_in spec es)) e.0) es)
    (larval_record spec es ∙ ap (λ (xs : List Sa). larval_replaced xs spec) listed) (by (larval_in spec es) refl)
  where
    by : (o : Option (ℕ × Sa)) → larval_in spec es ≡ o → All (λ (e : ℕ × Sa). is_that (record_found o) e.1 ≡ is_slot (slot_found o) e.0) es
    by None e = λ k d l. refl
    by (Some x) e =
        entry_tests s es x.0 x.1 (larval_entry spec es x.0 x.1 e) apart (subst (λ (xs : List Sa). AllPairs (λ (a b : Sa). a.sid ≡ b.sid → ⊥) xs) (sym listed) pairs)

-- ---- the rule

pub if_room : (s : Shown) (leaves : Sa → Bool) (spec : SaSpec) → length s.states < s.max_states
    → state_added_if_room s leaves spec ≡ answer (reply.DoneSid s.next_sid) (LeaveThen s leaves (Some (record { spec = spec; larval = false })))
if_room s leaves spec h =
    let e : nat_le s.max_states (length s.states) ≡ false = grind (arith, nat_tests) in
    ap (λ (b : Bool). if b then full_of_states s else answer (reply.DoneSid s.next_sid) (LeaveThen s leaves (Some (record { spec = spec; larval = false })))) e

pub if_full : (s : Shown) (leaves : Sa → Bool) (spec : SaSpec) (live : ℕ) → live ≡ length s.states
    → reply.Full live 0 ≡ (state_added_if_room (record s { max_states = live }) leaves spec).reply
if_full s leaves spec live h =
    let t : Shown = record s { max_states = live } in
    let e : nat_le live (length s.states) ≡ true = grind (arith, nat_tests) in
    ap (λ (n : ℕ). reply.Full n 0) h
    ∙ sym (ap (λ (b : Bool). Answer.reply (if b then full_of_states t else answer (reply.DoneSid s.next_sid) (LeaveThen t leaves (Some (record { spec = spec; larval = false }))))) e)

pub comes_is : (a : StateArea) (image words : List ℕ) (s : Shown) (es : List (ℕ × Sa)) (gave : ℕ → Type 0) (gone : Option ℕ) (slot : ℕ) (leaves : Sa → Bool) (new : NewState) (r : Reply) (rule : Answer)
    → StatesStand a image s es → Placed a words s es gave gone slot new → All (λ (e : ℕ × Sa). leaves e.1 ≡ is_slot gone e.0) es → rule ≡ answer r (LeaveThen s leaves (Some new))
    → Comes a words s es gave gone slot rule
comes_is a image words s es gave gone slot leaves new r rule st placed tests e =
    let left : records_in (entries_but gone es) ≡ without leaves s.states = but_records leaves gone es tests ∙ ap (λ (xs : List Sa). without leaves xs) st.listed in
    subst (λ (x : Answer). Comes a words s es gave gone slot x) (sym e) (record {
      given = placed.given;
      fresh = placed.fresh;
      shown = s;
      leaves = leaves;
      new = new;
      change = refl;
      tests = tests;
      stands = subst (λ (rs : List Sa). StatesStand a words (with_state (with_states s rs) (new_state s new)) (entries_but gone es ++ ((slot, new_state s new) ∷ []))) left placed.stands;
    })

-- the record of the new state
pub placed_record : (a : StateArea) (words : List ℕ) (s : Shown) (es : List (ℕ × Sa)) (gave : ℕ → Type 0) (gone : Option ℕ) (slot : ℕ) (new : NewState) → Placed a words s es gave gone slot new
    → record_at a words slot ≡ Some (new_state s new)
placed_record a words s es gave gone slot new placed = state_is a words _ slot (entries_but gone es) [] (new_state s new) placed.stands

-- ---- adding

pub add_exists : (s : Shown) (spec : SaSpec) (sid : ℕ) (o : Option Sa) → in_the_way s.states spec ≡ o → sid_found o ≡ Some sid → reply.StateExists sid ≡ (state_add s spec).reply
add_exists s spec sid None e h = absurd (cc)
add_exists s spec sid (Some old) e h =
    let k : old.sid ≡ sid = cc in
    ap (λ (n : ℕ). reply.StateExists n) (sym k)
    ∙ sym (ap (λ (o : Option Sa). Answer.reply (state_added_unless_found s (is_that (larval_replaced s.states spec)) spec o)) e)

pub way_none : (o : Option Sa) → sid_found o ≡ None → o ≡ None
way_none None e = refl
way_none (Some x) e = absurd (cc)

pub add_rule : (s : Shown) (spec : SaSpec) → in_the_way s.states spec ≡ None → state_add s spec ≡ state_added_if_room s (is_that (larval_replaced s.states spec)) spec
add_rule s spec e = ap (λ (o : Option Sa). state_added_unless_found s (is_that (larval_replaced s.states spec)) spec o) e

-- ---- results

-- a new state's reply, where the rule is full or tells the record
pub placed_reply : (held : ℕ) (s : Shown) (rule : Shown → Reply) (told : ℕ → Option Reply) (result : Result ℕ SadFault)
    → IfErr result (λ fault. IsOutOfRoom s held fault) → ((live : ℕ) → live ≡ length s.states → reply.Full live 0 ≡ rule (record s { max_states = live }))
    → IfOk result (λ slot. told slot ≡ Some (rule s)) → ReplyIs held s rule told result
placed_reply held s rule told (Ok slot) full at done = done
placed_reply held s rule told (Err fault) full at done =
    subst (λ (f : SadFault). FaultIs held s rule f) (sym full.is) (record { all = full.all; waits = refl; room = full.room; reply = at full.live full.all })

pub room_add : (fault : SadFault) → IsRoomFault fault → IsAddFault fault
room_add Invalid h = h
room_add (Exists sid) h = tt
room_add NoState h = h
room_add NoSpi h = h
room_add (Full live waiting) h = tt

pub room_update : (fault : SadFault) → IsRoomFault fault → IsUpdateFault fault
room_update Invalid h = h
room_update (Exists sid) h = h
room_update NoState h = tt
room_update NoSpi h = h
room_update (Full live waiting) h = tt

pub room_alloc : (fault : SadFault) → IsRoomFault fault → IsAllocFault fault
room_alloc Invalid h = tt
room_alloc (Exists sid) h = h
room_alloc NoState h = h
room_alloc NoSpi h = tt
room_alloc (Full live waiting) h = tt
