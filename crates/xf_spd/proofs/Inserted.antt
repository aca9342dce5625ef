-- A new policy: which reply the machine gives, and what the words then stand for.
use Rattle.std.proofs.Common.{◌≡◌, ℕ, zero, suc, ◌+◌, ◌<◌, Bool, true, false, List, [], ◌∷◌, ◌++◌, Option, None, Some, length, insert, refl, ap, sym, ◌∙◌, subst, arith, if◌then◌else◌, nat_le, Ok, Err}
use Rattle.std.proofs.lemmas.Bool.Decides.{nat_tests}
use Rattle.std.specs.List.{position_or_len}
use Rattle.std.specs.declared.result.Result.{Result}
use Rattle.xf_types.specs.declared.call.Reply.{Reply}
use Rattle.xf_types.specs.declared.call.Reply.TheVariants as reply
use Rattle.xf_types.specs.declared.policy.Policy.{Policy}
use Rattle.xf_types.specs.declared.policy.PolicySpec.{PolicySpec}
use Rattle.xf_types.specs.Changes.{Answer, stays}
use Rattle.xf_types.specs.IsMachine.{IsInRoom, IsInRange}
use Rattle.xf_types.specs.Machine.{Shown}
use Rattle.xf_types.specs.PolicyRules.{is_bad_index, policy_add, policy_added_unless_found, policy_added_if_room, policy_same_as, added_with_index, full_of_policies}
use Rattle.xf_types.specs.PolicyList.{comes_after}
use Rattle.xf_chain.specs.Lists.{Misses}
use Rattle.xf_index.specs.Indexes.{slots_in}
use Rattle.xf_index.proofs.Entries.{slots_length, records_length, slots_append}
use Rattle.xf_image.specs.declared.area.PolicyArea.{PolicyArea}
use Rattle.xf_image.specs.Entries.{new_policy, entries_with, with_listed}
use Rattle.xf_inexact.specs.Whole.{SpdStands}
use Rattle.xf_image.specs.Readings.{listed_in}
use Rattle.xf_listing.specs.declared.entry.Choice.{Choice}
use Rattle.xf_spd.specs.declared.faults.SpdFault.{SpdFault}
use Rattle.xf_spd.specs.declared.faults.SpdFault.TheVariants.{Invalid, Exists, NoEntry, Full}
use Rattle.xf_listing.specs.Calls.{choice_in}
use Rattle.xf_spd.specs.Changes.{Adds}
use Rattle.xf_spd.specs.Replies.{index_reply, FaultIs, ReplyIs, IsRoomFault, IsAddFault, IsUpdateFault}
use Rattle.xf_spd.proofs.Chosen.{listed_as, choice_is}
use Rattle.xf_image.proofs.Listed.{listed_is, room_left}

-- ---- room

pub listed_length : (a : PolicyArea) (image : List ℕ) (s : Shown) (es : List (ℕ × Policy)) → SpdStands a image s es → length (listed_in a image) ≡ length s.policies
listed_length a image s es g =
    ap (λ (xs : List ℕ). length xs) (listed_is a image s es g.list)
    ∙ (slots_length es ∙ (sym (records_length es) ∙ ap (λ (ps : List Policy). length ps) g.list.listed))

pub if_room : (s : Shown) (spec : PolicySpec) → length s.policies < s.max_policies → policy_added_if_room s spec ≡ added_with_index s spec
if_room s spec h =
    let e : nat_le s.max_policies (length s.policies) ≡ false = grind (arith, nat_tests) in
    ap (λ (b : Bool). if b then full_of_policies s else added_with_index s spec) e

pub if_full : (s : Shown) (spec : PolicySpec) (live : ℕ) → live ≡ length s.policies → reply.Full live 0 ≡ (policy_added_if_room (record s { max_policies = live }) spec).reply
if_full s spec live h =
    let t : Shown = record s { max_policies = live } in
    let e : nat_le live (length s.policies) ≡ true = grind (arith, nat_tests) in
    ap (λ (n : ℕ). reply.Full n 0) h ∙ sym (ap (λ (b : Bool). Answer.reply (if b then full_of_policies t else added_with_index t spec)) e)

-- ---- replies

fault_as : (held : ℕ) (s : Shown) (rule other : Shown → Reply) (fault : SpdFault) → ((m : ℕ) → rule (record s { max_policies = m }) ≡ other (record s { max_policies = m }))
    → FaultIs held s rule fault → FaultIs held s other fault
fault_as held s rule other Invalid f h = h ∙ f s.max_policies
fault_as held s rule other (Exists index) f h = h ∙ f s.max_policies
fault_as held s rule other NoEntry f h = h ∙ f s.max_policies
fault_as held s rule other (Full live waiting) f h = record { all = h.all; waits = h.waits; room = h.room; reply = h.reply ∙ f live }

-- rules that agree whatever the room
pub reply_as : (held : ℕ) (s : Shown) (rule other : Shown → Reply) (result : Result ℕ SpdFault) → ((m : ℕ) → rule (record s { max_policies = m }) ≡ other (record s { max_policies = m }))
    → ReplyIs held s rule result → ReplyIs held s other result
reply_as held s rule other (Ok index) f h = h ∙ f s.max_policies
reply_as held s rule other (Err fault) f h = fault_as held s rule other fault f h

fault_plain : (held : ℕ) (s : Shown) (rule : Shown → Reply) (fault : SpdFault) → held ≡ 0 → FaultIs held s rule fault → index_reply (Err fault) ≡ rule s
fault_plain held s rule Invalid e h = h
fault_plain held s rule (Exists index) e h = h
fault_plain held s rule NoEntry e h = h
fault_plain held s rule (Full live waiting) e h =
    let w : waiting ≡ 0 = h.waits ∙ e in
    let r = h.room in
    let m : live ≡ s.max_policies = omega (arith, w, r) in
    ap (λ (n : ℕ). reply.Full live n) w ∙ (h.reply ∙ ap (λ (n : ℕ). rule (record s { max_policies = n })) m)

-- where no slot waits it is the machine's reply
pub plain_reply : (held : ℕ) (s : Shown) (rule : Shown → Reply) (result : Result ℕ SpdFault) → held ≡ 0 → ReplyIs held s rule result → index_reply result ≡ rule s
plain_reply held s rule (Ok index) e h = h
plain_reply held s rule (Err fault) e h = fault_plain held s rule fault e h

-- ---- the rule of a new policy

add_by : Shown → PolicySpec → Bool → Option Policy → Answer
add_by s spec b o = if b then stays reply.Invalid else policy_added_unless_found s spec o

pub add_bad : (s : Shown) (spec : PolicySpec) → is_bad_index spec ≡ true → reply.Invalid ≡ (policy_add s spec).reply
unfolding add_by
add_bad s spec e = sym (ap (λ (b : Bool). (add_by s spec b (policy_same_as s spec)).reply) e)

pub add_exists : (s : Shown) (spec : PolicySpec) (old : Policy) → is_bad_index spec ≡ false → policy_same_as s spec ≡ Some old → reply.PolicyExists old.index ≡ (policy_add s spec).reply
unfolding add_by
add_exists s spec old e o =
    sym (ap (λ (b : Bool). (add_by s spec b (policy_same_as s spec)).reply) e ∙ ap (λ (x : Option Policy). (add_by s spec false x).reply) o)

pub add_rule : (s : Shown) (spec : PolicySpec) → is_bad_index spec ≡ false → policy_same_as s spec ≡ None → policy_added_if_room s spec ≡ policy_add s spec
unfolding add_by
add_rule s spec e o = sym (ap (λ (b : Bool). add_by s spec b (policy_same_as s spec)) e ∙ ap (λ (x : Option Policy). add_by s spec false x) o)

-- ---- what the words then stand for

pub adds_is : (a : PolicyArea) (image words : List ℕ) (s : Shown) (es : List (ℕ × Policy)) (slot : ℕ) (spec : PolicySpec) (choice : Choice) → IsInRoom s → IsInRange s → SpdStands a image s es
    → choice ≡ choice_in a image spec
    → SpdStands a words (with_listed s (new_policy s spec choice.index) (choice.word + 1)) (entries_with slot (new_policy s spec choice.index) es)
    → Adds a words s es slot choice.index spec (added_with_index s spec)
adds_is a image words s es slot spec choice room range g same st =
    let e : listed_as s spec choice.index (choice.word + 1) ≡ added_with_index s spec =
    ap (λ (c : Choice). listed_as s spec c.index (c.word + 1)) same ∙ choice_is a image s es spec room range g.list in
    subst (λ (rule : Answer). Adds a words s es slot choice.index spec rule) e (record { reply = refl; stands = st })

-- ---- the slots then

-- An element was put between two parts.
pub record Split {A : Type 0} (x : A) (xs new : List A) : Type 0 where
  pub front : List A
  pub back : List A
  pub old : xs ≡ front ++ back
  pub whole : new ≡ front ++ (x ∷ back)

insert_splits : {A : Type 0} (x : A) (xs : List A) (n : ℕ) → Split x xs (insert xs n x)
insert_splits x xs zero = record { front = []; back = xs; old = refl; whole = refl }
insert_splits x [] (suc n) = record { front = []; back = []; old = refl; whole = refl }
insert_splits x (y ∷ xs) (suc n) =
    let k = insert_splits x xs n in
    record { front = y ∷ k.front; back = k.back; old = ap (λ l. y ∷ l) k.old; whole = ap (λ l. y ∷ l) k.whole }

pub with_splits : (slot : ℕ) (p : Policy) (es : List (ℕ × Policy)) → Split slot (slots_in es) (slots_in (entries_with slot p es))
with_splits slot p es =
    let k : Split (slot, p) es (entries_with slot p es) = insert_splits (slot, p) es (position_or_len (λ (e : ℕ × Policy). comes_after e.1 p) es) in
    record {
      front = slots_in k.front;
      back = slots_in k.back;
      old = ap (λ (xs : List (ℕ × Policy)). slots_in xs) k.old ∙ slots_append k.front k.back;
      whole = ap (λ (xs : List (ℕ × Policy)). slots_in xs) k.whole ∙ slots_append k.front ((slot, p) ∷ k.back);
    }

pub full_is : (a : PolicyArea) (image : List ℕ) (s : Shown) (es : List (ℕ × Policy)) (spec : PolicySpec) (live held : ℕ) (fault : SpdFault) → SpdStands a image s es
    → fault ≡ Full live held → live ≡ length (listed_in a image) → live + held ≡ a.slots → FaultIs held s (λ t. (policy_added_if_room t spec).reply) fault
full_is a image s es spec live held fault g e l r =
    let all : live ≡ length s.policies = l ∙ listed_length a image s es g in
    subst (λ (f : SpdFault). FaultIs held s (λ t. (policy_added_if_room t spec).reply) f) (sym e)
    (record { all = all; waits = refl; room = r ∙ sym g.list.room; reply = if_full s spec live all })

pub free_entry : (a : PolicyArea) (image : List ℕ) (s : Shown) (es : List (ℕ × Policy)) (slot : ℕ) → SpdStands a image s es → Misses slot (listed_in a image) → Misses slot (slots_in es)
free_entry a image s es slot g m = subst (λ (xs : List ℕ). Misses slot xs) (listed_is a image s es g.list) m

pub room_rule : (a : PolicyArea) (image words : List ℕ) (s : Shown) (es : List (ℕ × Policy)) (slot index : ℕ) (spec : PolicySpec) → SpdStands a image s es → slot < a.slots → Misses slot (slots_in es)
    → Adds a words s es slot index spec (added_with_index s spec) → Adds a words s es slot index spec (policy_added_if_room s spec)
room_rule a image words s es slot index spec g below miss adds =
    subst (λ (rule : Answer). Adds a words s es slot index spec rule) (sym (if_room s spec (room_left a image s es slot g.list below miss))) adds

-- ---- faults

pub room_add : (fault : SpdFault) → IsRoomFault fault → IsAddFault fault
room_add Invalid h = tt
room_add (Exists index) h = tt
room_add NoEntry h = h
room_add (Full live waiting) h = tt

pub room_update : (fault : SpdFault) → IsRoomFault fault → IsUpdateFault fault
room_update Invalid h = tt
room_update (Exists index) h = h
room_update NoEntry h = h
room_update (Full live waiting) h = tt
