-- A policy is added: what the body says of words and reply, and what was written with the status and the id after it.
use Rattle.std.proofs.Common.{◌≡◌, ℕ, zero, suc, ◌+◌, ◌<◌, ◌≤◌, ◌^◌, ◌⊎◌, inl, inr, not, cond, Bool, true, false, lt-ltb, nat_lt, List, [], ◌∷◌, ◌++◌, length, All, refl, sym, ap, ◌∙◌, subst, arith, Option, None, Some, slice_index, slice_set, get_or-set_same, get_or-set_other, length-set}
use Rattle.std.specs.Prelude.{◌==◌, ◌&&◌, nat_le}
use Rattle.std.proofs.lemmas.Bool.{cases_Bool, le-ltb}
use Rattle.std.proofs.lemmas.List.Elements.{All-nil, All-cons, All-head, All-tail}
use Rattle.xf_types.specs.declared.call.Call.TheVariants as call
use Rattle.xf_types.specs.declared.call.Reply.{Reply}
use Rattle.xf_types.specs.declared.call.Reply.TheVariants as reply
use Rattle.xf_types.specs.declared.policy.Policy.{Policy}
use Rattle.xf_types.specs.declared.policy.PolicySpec.{PolicySpec}
use Rattle.xf_types.specs.Changes.{Answer, InPlace, answer, stays, applied, shown_after}
use Rattle.xf_types.specs.ChangeIds.{same_policies, same_flag}
use Rattle.xf_types.specs.Codes.{is_refusal_of}
use Rattle.xf_types.specs.Machine.{Machine, Shown}
use Rattle.xf_types.specs.Moves.{is_moving}
use Rattle.xf_types.specs.PolicyRules as rule
use Rattle.xf_types.specs.PolicyList.{inserted, comes_after}
use Rattle.std.specs.List.{position_or_len}
use Rattle.std.proofs.lemmas.List.Edits.{length-insert}
use Rattle.std.proofs.lemmas.List.Sums.{prefix_len-le-length}
use Rattle.xf_sadimage.specs.States.{AlikeInStates}
use Rattle.xf_policies.specs.Answers.{IsReplyOf, PolicyAnswers}
use Rattle.xf_types.specs.History.{is_contended}
use Rattle.xf_types.specs.IsMachine.{IsMachine}
use Rattle.xf_types.specs.Steps.{step}
use Rattle.xf_cells.specs.declared.one_pool.OnePool.{OnePool}
use Rattle.xf_chain.specs.Lists.{Misses}
use Rattle.xf_index.specs.Indexes.{slots_in}
use Rattle.xf_image.specs.Entries.{entries_with, new_policy}
use Rattle.xf_image.specs.Frames.{Frame}
use Rattle.xf_image.specs.Readings.{listed_in}
use Rattle.xf_image.proofs.Listed.{listed_is}
use Rattle.xf_inexact.specs.Whole.{SpdStands, whole_end}
use Rattle.xf_sadidx.specs.Layout.{end_of}
use Rattle.xf_sadimage.specs.States.{StatesStand}
use Rattle.xf_sadimage.proofs.Keeping as states
use Rattle.xf_spd.specs.Changes.{IsAt, AddsGiven}
use Rattle.xf_spd.specs.Slots.{PoolFits}
use Rattle.xf_spd.specs.Replies.{IsFull}
use Rattle.std.proofs.lemmas.Option.{same_Some}
use Rattle.xf_types.specs.declared.call.Place.{Place}
use Rattle.xf_spd.proofs.Inserted.{with_splits}
use Rattle.xf_rows.specs.Layouts.{Fits}
use Rattle.xf_rows.specs.Readings.{state_slots}
use Rattle.xf_rows.specs.Values.{Beside}
use Rattle.xf_rows.specs.Replies.{Answers}
use Rattle.xf_rows.proofs.Keeping.{policies_kept}
use Rattle.xf_rows.proofs.Reading.{state_slots_are}
use Rattle.xf_invariant.specs.Meaning.{Told}
use Rattle.xf_meaning.specs.Marks.{AreMarked}
use Rattle.xf_meaning.specs.Calls.{AnswersAll}
use Rattle.xf_meaning.specs.Good.{Good}
use Rattle.xf_meaning.specs.Places.{layout_of, policies_of, states_of, policy_id_place, size_of}
use Rattle.xf_meaning.proofs.Listing.{policies_stand, states_stand}
use Rattle.xf_desk.specs.Marks.{AreMoved, KeepsRecords, moved_slots}
use Rattle.xf_desk.specs.MarkLaws.{gives, takes}
use Rattle.xf_desk.specs.Pools.{IsPoolOf}
use Rattle.xf_desk.proofs.Marked.{moved_marks}
use Rattle.xf_desk.proofs.MarkLaws.{mark_laws}
use Rattle.xf_serve.specs.Served.{AreTold, RepliesBy}
use Rattle.xf_serve.specs.Changing.{IsCalmOf, IsPlaced, PolicyMove, PolicyAnswer}
use Rattle.xf_image.specs.declared.area.PolicyArea.{PolicyArea}
use Rattle.xf_rows.specs.declared.layout.Layout.{Layout}
use Rattle.std.specs.Prelude.{is_none}
use Rattle.xf_serve.proofs.Policies.{OnlyPolicies, layout_fits, or_left}
use Rattle.xf_serve.proofs.Written.{answer_in_place, none_moved, stays_all, without_none}

-- ---- what the rule may say

-- a policy is listed
pub record Lists (s : Shown) (a : Answer) : Type 0 where
  pub index : ℕ
  pub shown : Shown
  pub is : a ≡ answer (reply.DoneIndex index) (InPlace shown)
  pub alike : AlikeInStates s shown
  pub time : shown.time ≡ s.time
  pub longer : length shown.policies ≡ length s.policies + 1

-- the call is refused
pub record Refuses (r : Reply) : Type 0 where
  pub refusal : is_refusal_of r ≡ true
  pub still : is_moving r ≡ false

longer_by : (p : Policy) (xs : List Policy) → length (inserted p xs) ≡ length xs + 1
longer_by p xs = length-insert xs (position_or_len (λ q. comes_after q p) xs) p (prefix_len-le-length (λ q. not (comes_after q p)) xs)

kind_if : (s : Shown) (b : Bool) (x y : Answer) → Lists s x ⊎ Refuses x.reply → Lists s y ⊎ Refuses y.reply → Lists s (cond b x y) ⊎ Refuses (cond b x y).reply
kind_if s true x y h k = h
kind_if s false x y h k = k

kind_with_index : (s : Shown) (spec : PolicySpec) → Lists s (rule.added_with_index s spec) ⊎ Refuses (rule.added_with_index s spec).reply
kind_with_index s spec = kind_if s _ _ _
    (inl (record { index = _; shown = _; is = refl; alike = record { states = refl; next_seq = refl; next_sid = refl; room = refl }; time = refl; longer = longer_by _ s.policies }))
    (inl (record { index = _; shown = _; is = refl; alike = record { states = refl; next_seq = refl; next_sid = refl; room = refl }; time = refl; longer = longer_by _ s.policies }))

kind_if_room : (s : Shown) (spec : PolicySpec) → Lists s (rule.policy_added_if_room s spec) ⊎ Refuses (rule.policy_added_if_room s spec).reply
kind_if_room s spec = kind_if s (nat_le s.max_policies (length s.policies)) (rule.full_of_policies s) (rule.added_with_index s spec) (inr (record { refusal = refl; still = refl })) (kind_with_index s spec)

kind_unless_found : (s : Shown) (spec : PolicySpec) (o : Option Policy) → Lists s (rule.policy_added_unless_found s spec o) ⊎ Refuses (rule.policy_added_unless_found s spec o).reply
kind_unless_found s spec (Some old) = inr (record { refusal = refl; still = refl })
kind_unless_found s spec None = kind_if_room s spec

pub add_kind : (s : Shown) (spec : PolicySpec) → Lists s (rule.policy_add s spec) ⊎ Refuses (rule.policy_add s spec).reply
add_kind s spec = kind_if s (rule.is_bad_index spec) (stays reply.Invalid) (rule.policy_added_unless_found s spec (rule.policy_same_as s spec)) (inr (record { refusal = refl; still = refl })) (kind_unless_found s spec (rule.policy_same_as s spec))

-- what is said of the reply that was given
pub data Given (s : Shown) (spec : PolicySpec) (r : Reply) : Type 0 where
  Listed : (l : Lists s (rule.policy_add s spec)) → r ≡ reply.DoneIndex l.index → Given s spec r
  Refused : Refuses r → r ≡ (rule.policy_add s spec).reply → Given s spec r
  NoSlot : (held live waiting : ℕ) → r ≡ reply.Full live waiting → IsFull s (λ t. (rule.policy_add t spec).reply) held live waiting → Given s spec r

by_rule : (s : Shown) (spec : PolicySpec) (r : Reply) → r ≡ (rule.policy_add s spec).reply → Lists s (rule.policy_add s spec) ⊎ Refuses (rule.policy_add s spec).reply → Given s spec r
by_rule s spec r e (inl l) = Listed l (e ∙ ap (λ (a : Answer). a.reply) l.is)
by_rule s spec r e (inr n) = Refused (subst Refuses (sym e) n) e

pub given_is : (held : ℕ) (s : Shown) (spec : PolicySpec) (r : Reply) → IsReplyOf held s (λ t. rule.policy_add t spec) r → Given s spec r
given_is held s spec (reply.Full live waiting) is = NoSlot held live waiting refl is
given_is held s spec other is = by_rule s spec other is (add_kind s spec)

-- ---- a longer list isn't the same

and_second : (a b : Bool) → (a && b) ≡ true → b ≡ true
and_second true b e = e
and_second false b e = absurd cc

pub same_long : (ps qs : List Policy) → same_policies ps qs ≡ true → length qs ≡ length ps
same_long [] [] e = refl
same_long [] (q ∷ qs) e = absurd cc
same_long (p ∷ ps) [] e = absurd cc
same_long (p ∷ ps) (q ∷ qs) e = ap suc (same_long ps qs (and_second ((p.number == q.number) && same_flag p.soft q.soft) (same_policies ps qs) e))

-- ---- statuses of a list in another order

last_all : (P : ℕ → Type 0) (x : ℕ) (xs : List ℕ) → All P (xs ++ x ∷ []) → P x
last_all P x [] all = All-head P x [] all
last_all P x (y ∷ ys) all = last_all P x ys (All-tail P y (ys ++ x ∷ []) all)

first_all : (P : ℕ → Type 0) (x : ℕ) (xs : List ℕ) → All P (xs ++ x ∷ []) → All P xs
first_all P x [] all = All-nil P
first_all P x (y ∷ ys) all = All-cons P y ys (All-head P y (ys ++ x ∷ []) all) (first_all P x ys (All-tail P y (ys ++ x ∷ []) all))

between_all : (P : ℕ → Type 0) (x : ℕ) (front back : List ℕ) → All P ((front ++ back) ++ x ∷ []) → All P (front ++ x ∷ back)
between_all P x [] back all = All-cons P x back (last_all P x back all) (first_all P x back all)
between_all P x (y ∷ ys) back all =
    All-cons P y (ys ++ x ∷ back) (All-head P y ((ys ++ back) ++ x ∷ []) all) (between_all P x ys back (All-tail P y ((ys ++ back) ++ x ∷ []) all))

last_misses : (k x : ℕ) (xs : List ℕ) → Misses k (x ∷ xs) → Misses k (xs ++ x ∷ [])
last_misses k x [] m = m
last_misses k x (y ∷ ys) m = (m.1.0, last_misses k x ys (m.0, m.1.1))

behind_misses : (k x : ℕ) (front back : List ℕ) → Misses k (front ++ x ∷ back) → Misses k ((front ++ back) ++ x ∷ [])
behind_misses k x [] back m = last_misses k x back m
behind_misses k x (y ∷ ys) back m = (m.0, behind_misses k x ys back m.1)

-- the slot that came stands last, or between others
between_marked : (first size : ℕ) (image : List ℕ) (slot : ℕ) (front back : List ℕ) → AreMarked first size image ((front ++ back) ++ slot ∷ [])
    → AreMarked first size image (front ++ slot ∷ back)
between_marked first size image slot front back marked = record {
  listed = between_all (λ k. slice_index image (first + k) ≡ 1) slot front back marked.listed;
  others = λ k l m. marked.others k l (behind_misses k slot front back m);
}

-- ---- what the body says

-- by the words of an area
pub record Body (p : ℕ) (a : PolicyArea) (old mid : List ℕ) (spec : PolicySpec) (r : Reply) (now : ℕ) (pool : OnePool) (held : ℕ) : Type 0 where
  pub frame : Frame a.base (whole_end a) old mid
  pub refused : is_refusal_of r ≡ true → mid ≡ old
  pub answers : (t : Shown) (es : List (ℕ × Policy)) → IsAt t now → SpdStands a old t es
      → PoolFits pool.capacity pool.live (gives pool) (takes pool) a.slots (listed_in a old) → PolicyAnswers a mid t held r (λ u. rule.policy_add u spec)
  pub adds : (t : Shown) (es : List (ℕ × Policy)) (index : ℕ) → r ≡ reply.DoneIndex index → IsAt t now → SpdStands a old t es
      → PoolFits pool.capacity pool.live (gives pool) (takes pool) a.slots (listed_in a old) → AddsGiven a mid t es (gives pool) index spec (rule.policy_add t spec)

pub record Added (p s : ℕ) (old mid : List ℕ) (spec : PolicySpec) (r : Reply) : Type 0 where
  pub fits : Fits (layout_of p s) (length old)
  pub size : length old ≡ size_of p s
  pub now : ℕ
  pub time : now ≡ slice_index old (layout_of p s).clock
  pub small : slice_index old (p + s + 1) + 1 < 2 ^ 63
  pub told : AreTold p s old
  pub pool : OnePool
  pub pool_is : IsPoolOf 0 p old pool
  pub held : ℕ
  pub frame : Frame (policies_of p s).base (whole_end (policies_of p s)) old mid
  pub refused : is_refusal_of r ≡ true → mid ≡ old
  pub answers : (t : Shown) (es : List (ℕ × Policy)) → IsAt t now → SpdStands (policies_of p s) old t es
      → PoolFits pool.capacity pool.live (gives pool) (takes pool) p (listed_in (policies_of p s) old)
      → PolicyAnswers (policies_of p s) mid t held r (λ u. rule.policy_add u spec)
  pub adds : (t : Shown) (es : List (ℕ × Policy)) (index : ℕ) → r ≡ reply.DoneIndex index → IsAt t now → SpdStands (policies_of p s) old t es
      → PoolFits pool.capacity pool.live (gives pool) (takes pool) p (listed_in (policies_of p s) old)
      → AddsGiven (policies_of p s) mid t es (gives pool) index spec (rule.policy_add t spec)

abbrev pub added_of : (p s : ℕ) (layout : Layout) (old pre mid : List ℕ) (spec : PolicySpec) (r : Reply) (now number : ℕ) (pool : OnePool) (held : ℕ)
    → layout ≡ layout_of p s → pre ≡ old → length old ≡ size_of p s → (1 ≤ p) × (1 ≤ s) → (p ≤ 4096) × (s ≤ 8192) → AreTold p s old
    → now ≡ slice_index old layout.clock → number ≡ slice_index old (p + s + 1) → number + 1 < 2 ^ 63 → IsPoolOf 0 p pre pool
    → Body p layout.policies pre mid spec r now pool held → Added p s old mid spec r
added_of p s layout old pre mid spec r now number pool held places same size some most told time numbered small pool_is body =
    let b : Body p (policies_of p s) old mid spec r now pool held =
    subst (λ (i : List ℕ). Body p (policies_of p s) i mid spec r now pool held) same
    (subst (λ (l : Layout). Body p l.policies pre mid spec r now pool held) places body) in
    record {
      fits = subst (λ (n : ℕ). Fits (layout_of p s) n) (sym size) (layout_fits p s some.0 most.0 some.1 most.1);
      size = size;
      now = now;
      time = time ∙ ap (λ (l : Layout). slice_index old l.clock) places;
      small = subst (λ (n : ℕ). n + 1 < 2 ^ 63) numbered small;
      told = told;
      pool = pool;
      pool_is = subst (λ (i : List ℕ). IsPoolOf 0 p i pool) same pool_is;
      held = held;
      frame = b.frame;
      refused = b.refused;
      answers = b.answers;
      adds = b.adds;
    }

pub not_spent : (pool : OnePool) (count : ℕ) (image : List ℕ) → IsPoolOf 0 count image pool → (is_none pool.slot && nat_lt (pool.live + pool.waiting) pool.capacity) ≡ false
not_spent pool count image is = by pool.slot refl
  where
    by : (o : Option ℕ) → pool.slot ≡ o → (is_none pool.slot && nat_lt (pool.live + pool.waiting) pool.capacity) ≡ false
    by (Some slot) e = ap (λ (o : Option ℕ). is_none o && nat_lt (pool.live + pool.waiting) pool.capacity) e
    by None e =
        let all : pool.live ≡ count = is.scan.all e in
        ap (λ (o : Option ℕ). is_none o && nat_lt (pool.live + pool.waiting) pool.capacity) e
        ∙ le-ltb (pool.live + pool.waiting) pool.capacity (omega (arith, all, is.waiting, is.capacity))

module _ (p s : ℕ) (old mid : List ℕ) (spec : PolicySpec) (r : Reply) (x : Added p s old mid spec r) where
  at_now : (t : Shown) (es : List (ℕ × Policy)) (m : Machine) → IsMachine m → t ≡ m.shown → SpdStands (policies_of p s) old t es
      → slice_index old (layout_of p s).clock ≡ m.shown.time → IsAt t x.now
  at_now t es m is same on time =
      let number : slice_index old (p + s + 1) + 1 ≡ t.next_number = on.list.counters.next_number in
      let small : slice_index old (p + s + 1) + 1 < 2 ^ 63 = x.small in
      subst (λ (u : Shown). u.next_number < 2 ^ 63 → IsAt u x.now) (sym same)
      (λ less. record { number = less; policies = is.shown.policies; room = is.shown.room; range = is.shown.range; time = sym time ∙ sym x.time })
      (omega (arith, number, small))

  pool_fits : PoolFits x.pool.capacity x.pool.live (gives x.pool) (takes x.pool) p (listed_in (policies_of p s) old)
  pool_fits = mark_laws.policy_pool p s old x.told.told x.pool x.told.good x.pool_is

  given : (t : Shown) (es : List (ℕ × Policy)) → IsAt t x.now → SpdStands (policies_of p s) old t es → Given t spec r
  given t es is on = given_is x.held t spec r (PolicyAnswers.reply (x.answers t es is on pool_fits))

  told_at : (t : Told) (m : Machine) → IsMachine m → Good p s old t → t.shown ≡ m.shown → IsAt t.shown x.now
  told_at t m is good shown = at_now t.shown good.policies m is shown good.on_policies (good.time ∙ ap (λ (u : Shown). u.time) shown)

  known_given : Given x.told.told.shown spec r
  known_given = given x.told.told.shown x.told.good.policies (told_at x.told.told x.told.machine x.told.is x.told.good x.told.shown) x.told.good.on_policies

  -- ---- a call that is refused

  refusal : Given x.told.told.shown spec r → is_moving r ≡ false → is_refusal_of r ≡ true
  refusal (Listed l e) still = absurd (let t : true ≡ false = sym (ap (λ (y : Reply). is_moving y) e) ∙ still in cc)
  refusal (Refused n e) still = n.refusal
  refusal (NoSlot held live waiting e full) still = ap (λ (y : Reply). is_refusal_of y) e

  pub stays_as : is_moving r ≡ false → mid ≡ old
  stays_as still = x.refused (refusal known_given still)

  -- a reply moves where it is no refusal
  moves_or : Given x.told.told.shown spec r → is_refusal_of r ≡ not (is_moving r)
  moves_or (Listed l e) = ap (λ (y : Reply). is_refusal_of y) e ∙ sym (ap (λ (y : Reply). not (is_moving y)) e)
  moves_or (Refused n e) = n.refusal ∙ sym (ap (λ (b : Bool). not b) n.still)
  moves_or (NoSlot held live waiting e full) = ap (λ (y : Reply). is_refusal_of y) e ∙ sym (ap (λ (y : Reply). not (is_moving y)) e)

  pub refuses : is_refusal_of r ≡ not (is_moving r)
  refuses = moves_or known_given

  none_waits : (waiting live : ℕ) → is_contended (reply.Full live waiting) ≡ false → waiting ≡ 0
  none_waits zero live e = refl
  none_waits (suc n) live e = absurd (let t : nat_lt 0 (suc n) ≡ true = lt-ltb 0 (suc n) (omega arith) in let u : true ≡ false = sym t ∙ e in cc)

  refused_by : (t : Shown) → Given t spec r → is_moving r ≡ false → is_contended r ≡ false → r ≡ (rule.policy_add t spec).reply
  refused_by t (Listed l e) still calm = absurd (let u : true ≡ false = sym (ap (λ (y : Reply). is_moving y) e) ∙ still in cc)
  refused_by t (Refused n e) still calm = e
  refused_by t (NoSlot held live waiting e full) still calm =
      let zero_is : waiting ≡ 0 = none_waits waiting live (sym (ap (λ (y : Reply). is_contended y) e) ∙ calm) in
      let all : live ≡ t.max_policies = (let q : live + waiting ≡ t.max_policies = full.room in omega (arith, q, zero_is)) in
      e ∙ ap (λ (n : ℕ). reply.Full live n) zero_is ∙ full.reply ∙ ap (λ (n : ℕ). (rule.policy_add (record t { max_policies = n }) spec).reply) all

  pub refused_replies : is_moving r ≡ false → is_contended r ≡ false → RepliesBy p s old (call.PolicyAdd spec) r
  refused_replies still calm =
      inr (λ t m is good shown.
      refused_by t.shown (given t.shown good.policies (told_at t m is good shown) good.on_policies) still calm
      ∙ ap (λ (u : Shown). (rule.policy_add u spec).reply) shown)

  -- ---- a policy is listed

  lists_of : (t : Shown) → Given t spec r → is_moving r ≡ true → (l : Lists t (rule.policy_add t spec)) × (r ≡ reply.DoneIndex l.index)
  lists_of t (Listed l e) moving = (l, e)
  lists_of t (Refused n e) moving = absurd (let u : true ≡ false = sym moving ∙ n.still in cc)
  lists_of t (NoSlot held live waiting e full) moving = absurd (let u : true ≡ false = sym moving ∙ ap (λ (y : Reply). is_moving y) e in cc)

  pub slot_there : is_moving r ≡ true → (slot : ℕ) × (x.pool.slot ≡ Some slot)
  slot_there moving =
      let good = x.told.good in
      let is = told_at x.told.told x.told.machine x.told.is good x.told.shown in
      let l = lists_of x.told.told.shown (given x.told.told.shown good.policies is good.on_policies) moving in
      let a = x.adds x.told.told.shown good.policies l.0.index l.1 is good.on_policies pool_fits in
      (a.slot, a.given)

  module _ (moving : is_moving r ≡ true) (slot : ℕ) (slot_is : x.pool.slot ≡ Some slot) (new : List ℕ)
      (stored : new ≡ slice_set (slice_set mid slot 1) (policy_id_place p s) (slice_index old (policy_id_place p s) + 1)) where
    pub below : slot < p
    below = pool_fits.below slot slot_is

    long : length mid ≡ length old
    long = x.frame.size

    other : (q : ℕ) → (q ≡ slot → ⊥) → (q ≡ policy_id_place p s → ⊥) → slice_index new q ≡ slice_index mid q
    other q d f =
        ap (λ (i : List ℕ). slice_index i q) stored
        ∙ get_or-set_other (slice_set mid slot 1) (policy_id_place p s) q (slice_index old (policy_id_place p s) + 1) 0 f ∙ get_or-set_other mid slot q 1 0 d

    status_now : slice_index new slot ≡ 1
    status_now =
        ap (λ (i : List ℕ). slice_index i slot) stored
        ∙ get_or-set_other (slice_set mid slot 1) (policy_id_place p s) slot (slice_index old (policy_id_place p s) + 1) 0 (λ e. omega (arith, e, below))
        ∙ get_or-set_same mid slot 1 0 (omega (arith, below, long, x.size))

    wide : length (slice_set mid slot 1) ≡ length mid
    wide = length-set mid slot 1

    records : KeepsRecords p s mid new
    records = record {
      size = ap (λ (i : List ℕ). length i) stored ∙ length-set (slice_set mid slot 1) (policy_id_place p s) (slice_index old (policy_id_place p s) + 1) ∙ wide;
      same = λ q h l. other q (λ e. omega (arith, e, h, below)) (λ e. omega (arith, e, l));
    }

    fits_mid : Fits (layout_of p s) (length mid)
    fits_mid = subst (λ (n : ℕ). Fits (layout_of p s) n) (sym long) x.fits

    answers_mid : (b : Beside) → AnswersAll p s old b mid b (call.PolicyAdd spec) r
    answers_mid b m st =
        let is = at_now m.shown st.policies m st.machine refl st.on_policies st.time in
        let l = lists_of m.shown (given m.shown st.policies is st.on_policies) moving in
        let a = x.adds m.shown st.policies l.0.index l.1 is st.on_policies pool_fits in
        subst (λ (y : Reply). Answers (layout_of p s) mid b m (call.PolicyAdd spec) y) (sym l.1)
        (answer_in_place p s old mid b m (call.PolicyAdd spec) (reply.DoneIndex l.0.index) l.0.shown _ x.fits x.frame l.0.alike l.0.time (ap (λ (y : Answer). applied m y) l.0.is)
        (subst (λ (y : Answer). SpdStands (policies_of p s) mid (shown_after m.shown y.change) (entries_with a.slot (new_policy m.shown spec l.0.index) st.policies)) l.0.is a.adds.stands) st)

    came : AreMoved 0 p old new (λ k. false) (Some slot)
    came = record {
      came_is = λ k e. (let z : 0 + k ≡ k = omega arith in ap (λ (n : ℕ). slice_index new n) (z ∙ sym (same_Some slot k e)) ∙ status_now);
      gone_are = λ k l e d. absurd cc;
      others = λ k l e d.
          other (0 + k) (λ q. d (let z : 0 + k ≡ k = omega arith in ap (λ (n : ℕ). Some n) (sym q ∙ z))) (λ q. omega (arith, q, l)) ∙ x.frame.below (0 + k) (omega (arith, l));
    }

    order : whole_end (policies_of p s) ≤ (states_of p s).base
    order = x.fits.order

    behind : end_of (states_of p s) ≤ (layout_of p s).clock
    behind = x.fits.behind

    states_words : (q : ℕ) → (states_of p s).base ≤ q → q ≤ (layout_of p s).clock → slice_index new q ≡ slice_index old q
    states_words q h l = other q (λ e. omega (arith, e, h, below)) (λ e. omega (arith, e, l)) ∙ x.frame.above q (omega (arith, h, order))

    policies_marked : (t : Told) (m : Machine) → IsMachine m → Good p s old t → t.shown ≡ m.shown → AreMarked 0 p new (listed_in (policies_of p s) new)
    policies_marked t m is good shown =
        let at = told_at t m is good shown in
        let l = lists_of t.shown (given t.shown good.policies at good.on_policies) moving in
        let a = x.adds t.shown good.policies l.0.index l.1 at good.on_policies pool_fits in
        let one : a.slot ≡ slot = same_Some a.slot slot (sym a.given ∙ slot_is) in
        let es : List (ℕ × Policy) = entries_with a.slot (new_policy t.shown spec l.0.index) good.policies in
        let on : SpdStands (policies_of p s) new (shown_after t.shown (rule.policy_add t.shown spec).change) es =
        policies_kept (policies_of p s) mid new _ es fits_mid.policies
        (λ q h k. other q (λ e. omega (arith, e, h, below)) (λ e. omega (arith, e, k, order))) a.adds.stands in
        let k = with_splits a.slot (new_policy t.shown spec l.0.index) good.policies in
        let listed : listed_in (policies_of p s) new ≡ k.front ++ slot ∷ k.back =
        listed_is (policies_of p s) new _ es on.list ∙ k.whole ∙ ap (λ (n : ℕ). k.front ++ n ∷ k.back) one in
        let stand = policies_stand p s old t good in
        let marked : AreMarked 0 p new (moved_slots (λ j. false) (Some slot) (slots_in good.policies)) =
        moved_marks 0 p old new (λ j. false) (Some slot) came (slots_in good.policies) stand.within good.policies_marked in
        let same : moved_slots (λ j. false) (Some slot) (slots_in good.policies) ≡ (k.front ++ k.back) ++ slot ∷ [] =
        ap (λ (xs : List ℕ). xs ++ slot ∷ []) (without_none (slots_in good.policies) ∙ k.old) in
        subst (λ (xs : List ℕ). AreMarked 0 p new xs) (sym listed)
        (between_marked 0 p new slot k.front k.back (subst (λ (xs : List ℕ). AreMarked 0 p new xs) same marked))

    states_marked : (t : Told) → Good p s old t → AreMarked p s new (state_slots (states_of p s) new)
    states_marked t good =
        let stand = states_stand p s old t good in
        let on : StatesStand (states_of p s) new t.shown good.states =
        states.stands_kept (states_of p s) old new t.shown good.states x.fits.states (λ q h l. states_words q h (omega (arith, l, behind))) good.on_states in
        let marked : AreMarked p s new (moved_slots (λ j. false) None (slots_in good.states)) =
        moved_marks p s old new (λ j. false) None
        (none_moved p s old new
        (λ j l. other (p + j) (λ e. omega (arith, e, below)) (λ e. omega (arith, e, l)) ∙ x.frame.below (p + j) (omega (arith, l))))
        (slots_in good.states) stand.within good.states_marked in
        subst (λ (xs : List ℕ). AreMarked p s new xs) (stays_all (slots_in good.states) ∙ sym (state_slots_are (states_of p s) new t.shown good.states on)) marked

    pub added_moves : PolicyMove p s old new (call.PolicyAdd spec) r
    added_moves = record {
      size = records.size ∙ long;
      answers = λ b. mark_laws.answers p s old mid new b b (call.PolicyAdd spec) r fits_mid records (answers_mid b);
      marks = λ t b m good shown st. record { policies = policies_marked t m st.machine good shown; states = states_marked t good };
      states = states_words;
      id =
          ap (λ (i : List ℕ). slice_index i (policy_id_place p s)) stored
          ∙ get_or-set_same (slice_set mid slot 1) (policy_id_place p s) (slice_index old (policy_id_place p s) + 1) 0 (omega (arith, wide, long, x.size));
      buckets = λ q h. other q (λ e. omega (arith, e, h, below)) (λ e. omega (arith, e, h)) ∙ x.frame.above q (omega (arith, h));
    }

-- ---- the policies change

add_counts : (s : Shown) (spec : PolicySpec) (l : Lists s (rule.policy_add s spec)) (at : Place) → OnlyPolicies s (record { at = at; call = call.PolicyAdd spec; reply = reply.DoneIndex l.index })
add_counts s spec l at =
    let after : shown_after s (rule.policy_add s spec).change ≡ l.shown = ap (λ (a : Answer). shown_after s a.change) l.is in
    record {
      alone = refl;
      counted = λ n k.
          elim (cases_Bool (same_policies s.policies (shown_after s (rule.policy_add s spec).change).policies)) [
            | inl same ↦
                let e : length l.shown.policies ≡ length s.policies = ap (λ (u : Shown). length u.policies) (sym after) ∙ same_long s.policies _ same in
                absurd (let f : length l.shown.policies ≡ length s.policies + 1 = l.longer in omega (arith, e, f))
            | inr differ ↦ or_left _ false (ap (λ (b : Bool). not b) differ)
          ];
      states = ap (λ (u : Shown). u.states) after ∙ l.alike.states;
      fresh = λ sid. refl;
    }

pub add_only : (at : Place) (spec : PolicySpec) (r : Reply) (m : Machine) → is_moving r ≡ true → IsMachine m → r ≡ (step m (call.PolicyAdd spec)).reply
    → OnlyPolicies m.shown (record { at = at; call = call.PolicyAdd spec; reply = r })
add_only at spec r m moving is e = by (add_kind m.shown spec)
  where
    by : Lists m.shown (rule.policy_add m.shown spec) ⊎ Refuses (rule.policy_add m.shown spec).reply → OnlyPolicies m.shown (record { at = at; call = call.PolicyAdd spec; reply = r })
    by (inl l) =
        subst (λ (y : Reply). OnlyPolicies m.shown (record { at = at; call = call.PolicyAdd spec; reply = y }))
        (sym (e ∙ ap (λ (a : Answer). a.reply) l.is)) (add_counts m.shown spec l at)
    by (inr n) = absurd (let t : true ≡ false = sym moving ∙ (ap (λ (y : Reply). is_moving y) e ∙ n.still) in cc)

-- ---- the answer of all

pub placed : (p s size : ℕ) (old mid : List ℕ) (spec : PolicySpec) (r : Reply) (x : Added p s old mid spec r) (slot : Option ℕ) → size ≡ size_of p s → slot ≡ x.pool.slot
    → is_moving r ≡ true → IsPlaced size slot
placed p s size old mid spec r x slot is same moving =
    let k = slot_there p s old mid spec r x moving in
    let low : k.0 < p = PoolFits.below (pool_fits p s old mid spec r x) k.0 k.1 in
    subst (λ (o : Option ℕ). IsPlaced size o) (sym (same ∙ k.1)) (omega (arith, low, is))

pub added_answer : (p s : ℕ) (old mid new : List ℕ) (spec : PolicySpec) (r t : Reply) (x : Added p s old mid spec r) (slot : Option ℕ) → slot ≡ x.pool.slot
    → (is_moving r ≡ true → (t ≡ r) × ((one : ℕ) → slot ≡ Some one → new ≡ slice_set (slice_set mid one 1) (policy_id_place p s) (slice_index old (policy_id_place p s) + 1)))
    → (is_moving r ≡ false → (new ≡ mid) × IsCalmOf r t)
    → PolicyAnswer p s old new (call.PolicyAdd spec) t
added_answer p s old mid new spec r t x slot same moved stayed = record {
  moved = λ m. by_moving m (is_moving r) refl;
  still = λ m. by_still m (is_moving r) refl;
}
  where
    by_moving : is_moving t ≡ true → (b : Bool) → is_moving r ≡ b → PolicyMove p s old new (call.PolicyAdd spec) t
    by_moving m true e =
        let k = slot_there p s old mid spec r x e in
        let w = moved e in
        subst (λ (y : Reply). PolicyMove p s old new (call.PolicyAdd spec) y) (sym w.0)
        (added_moves p s old mid spec r x e k.0 k.1 new (w.1 k.0 (same ∙ k.1)))
    by_moving m false e = absurd (let u : true ≡ false = sym m ∙ (stayed e).1.still in cc)

    by_still : is_moving t ≡ false → (b : Bool) → is_moving r ≡ b → (new ≡ old) × (is_contended t ≡ false) × RepliesBy p s old (call.PolicyAdd spec) t
    by_still m true e = absurd (let u : true ≡ false = sym (ap (λ (y : Reply). is_moving y) (moved e).0 ∙ e) ∙ m in cc)
    by_still m false e =
        let w = stayed e in
        (w.0 ∙ stays_as p s old mid spec r x e, w.1.settled, replies w.1.same)
      where
        replies : (t ≡ reply.NoMemory) ⊎ (t ≡ r) → RepliesBy p s old (call.PolicyAdd spec) t
        replies (inl none) = inl none
        replies (inr is) =
            subst (λ (y : Reply). RepliesBy p s old (call.PolicyAdd spec) y) (sym is)
            (refused_replies p s old mid spec r x e (sym (ap (λ (y : Reply). is_contended y) is) ∙ (stayed e).1.settled))
