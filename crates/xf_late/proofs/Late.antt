-- A receipt that comes to stand late: those after it don't notice.
use Rattle.std.proofs.Common.{◌≡◌, ℕ, Bool, zero, suc, ◌≤◌, true, false, true≢false, List, [], ◌∷◌, ◌++◌, length, Some, None, Option, refl, sym, ap, ◌∙◌, subst, inl, inr, ◌⊎◌, Contains, All}
use Rattle.std.specs.Prelude.{IfSome, MatchBool}
use Rattle.std.specs.Option.{option_map}
use Rattle.std.proofs.lemmas.List.Elements.{All-head, All-tail, All-cons, All-weaker}
use Rattle.xf_types.specs.declared.call.Call.{Call}
use Rattle.xf_types.specs.declared.call.Call.TheVariants as call
use Rattle.xf_types.specs.declared.call.Receipt.{Receipt}
use Rattle.xf_types.specs.declared.call.Reply.{Reply}
use Rattle.xf_types.specs.declared.call.Reply.TheVariants as reply
use Rattle.xf_types.specs.declared.state.Sa.{Sa}
use Rattle.xf_types.specs.Machine.{Machine, Own, Shown}
use Rattle.xf_types.specs.OwnParts.{own_in}
use Rattle.xf_types.specs.Steps.{step, rule_of}
use Rattle.xf_types.specs.Moves.{is_moving, state_found}
use Rattle.xf_types.specs.History.{Moment, MayReply, IsFullWithWaiting, IsHeldBack, with_policies, with_states, adds_policy, moves_since, is_exception, next_moment, moment_of, IsLegalFrom}
use Rattle.xf_types.specs.IsMachine.{IsMachine}
use Rattle.xf_laws.specs.StepLaws.{beside}
use Rattle.xf_laws.specs.ReadLaws.{TellTheSame}
use Rattle.xf_laws.proofs.ReadLemmas.{call-alike}
use Rattle.xf_laws.proofs.MachineLemmas.{moments-kept}
use Rattle.xf_laws.proofs.FoldLemmas.{ruled, Outside, Inside}
use Rattle.xf_late.specs.Rests.{rests_on, own_touched}
use Rattle.xf_late.specs.LateLaws.{AreStill, IsAway, IsLate}
use Rattle.xf_late.proofs.Owns.{for-listed, touched-other, rests-found}
use Rattle.xf_late.proofs.Fulls.{full-none}
use Rattle.xf_late.proofs.Touches.{touched-last}
use Rattle.xf_late.proofs.Since.{PastApart, past-more, past-one}
use Rattle.xf_late.proofs.Still.{moment, own_next, next-is, next-machine, next-own, still-own}

-- both lists of own parts say the same of each listed state but this one
abbrev pub OwnApart : Option ℕ → Shown → List Own → List Own → Type 0
OwnApart one s a b = (x : Sa) → Contains s.states x → (one ≡ Some x.sid → ⊥) → own_in (beside s a) x ≡ own_in (beside s b) x

-- a call is told the same where it is no tick and finds a state of which they do
tell : (s : Shown) (a b : List Own) (c : Call) → ((given : ℕ) → c ≡ call.Tick given → ⊥)
    → ((x : Sa) → state_found (rule_of s c) ≡ Some x → own_in (beside s a) x ≡ own_in (beside s b) x) → TellTheSame s a b c
tell s a b (call.Tick given) untimed same = absurd (untimed given refl)
tell s a b c untimed same = some_of (state_found (rule_of s c)) (λ x. own_in (beside s a) x ≡ own_in (beside s b) x) same
  where
    some_of : (o : Option Sa) (P : Sa → Type 0) → ((x : Sa) → o ≡ Some x → P x) → IfSome o P
    some_of None P f = tt
    some_of (Some x) P f = f x refl

-- a reply may stand where the machine answers the same
may-go : (t u : Moment) (q : Receipt) (x : Reply) → (is_exception x ≡ false → (step t.machine q.call).reply ≡ (step u.machine q.call).reply)
    → moves_since q.worker t.past ≡ moves_since q.worker u.past → ((live w : ℕ) → IsFullWithWaiting t q live w → IsFullWithWaiting u q live w)
    → MayReply t q x → MayReply u q x
may-go t u q (reply.Again tries) same past full h = (h.0, h.1, subst (λ z. tries ≤ z) past h.2)
may-go t u q reply.NoMemory same past full h = tt
may-go t u q (reply.Full live zero) same past full h = h ∙ same refl
may-go t u q (reply.Full live (suc w)) same past full h = full live (suc w) h
may-go t u q x same past full h = h ∙ same refl

nothing : {X : Type 0} (x : Sa) → None ≡ Some x → X
nothing x e = absurd cc

-- a tick's reply moves
untimed-still : (t : Moment) (q : Receipt) → MayReply t q q.reply → is_moving q.reply ≡ false → is_exception q.reply ≡ false → (given : ℕ) → q.call ≡ call.Tick given → ⊥
untimed-still t q may still ours given tick = by (ruled t q q.reply may)
  where
    by : Outside q.reply ⊎ Inside t q q.reply → ⊥
    by (inl x) = true≢false (sym x.outside ∙ ours)
    by (inr x) = true≢false (sym (ap is_moving (x.own ∙ ap (λ (c : Call). (step t.machine c).reply) tick)) ∙ still)

untimed-full : (m : Machine) (c : Call) (given live : ℕ) → c ≡ call.Tick given → (step m c).reply ≡ reply.Full live 0 → ⊥
untimed-full m c given live tick full = true≢false (ap is_moving (sym (ap (λ (k : Call). (step m k).reply) tick) ∙ full))

-- where the one machine answers that it is full, so does the other
full-too : (s : Shown) (a b : List Own) (c : Call) (live : ℕ) → (step (beside s a) c).reply ≡ reply.Full live 0 → (step (beside s b) c).reply ≡ reply.Full live 0
full-too s a b c live full =
    sym (call-alike s a b c (tell s a b c (λ given tick. untimed-full (beside s a) c given live tick full) (λ x e. nothing x (sym (full-none (beside s a) c live full) ∙ e)))).reply ∙ full

module _ (s : Shown) (a b : List Own) (p n : ℕ) (l m : List Receipt) (k : ℕ) (one : Option ℕ) (is_a : IsMachine (beside s a)) (is_b : IsMachine (beside s b)) (own : OwnApart one s a b) (past : PastApart k l m) (q : Receipt) (away : IsAway k one s q) (may : MayReply (moment s a p n l) q q.reply) where
  -- a call that asks the machine is told the same
  told-same : is_exception q.reply ≡ false → TellTheSame s a b q.call
  told-same ours = tell s a b q.call (untimed-still (moment s a p n l) q may away.still ours)
      (λ x e. own x (for-listed s q.call x e) (λ is. away.elsewhere x.sid is (rests-found s q ours ∙ ap (option_map (λ (z : Sa). z.sid)) e)))

  -- the list is as full with slots held back
  abbrev Full : List Own → ℕ → ℕ → Bool → Type 0
  Full o live w c =
      MatchBool c
      (IsHeldBack live w (length s.policies) s.max_policies p × ((step (with_policies (beside s o) (length s.policies)) q.call).reply ≡ reply.Full live 0))
      (IsHeldBack live w (length s.states) s.max_states n × ((step (with_states (beside s o) (length s.states)) q.call).reply ≡ reply.Full live 0))

  full-of : (live w : ℕ) (c : Bool) → Full a live w c → Full b live w c
  full-of live w true h = (h.0, full-too (record s { max_policies = length s.policies }) a b q.call live h.1)
  full-of live w false h = (h.0, full-too (record s { max_states = length s.states }) a b q.call live h.1)

  full-by : (live w : ℕ) → IsFullWithWaiting (moment s a p n l) q live w → IsFullWithWaiting (moment s b p n m) q live w
  full-by live w h = full-of live w (adds_policy q.call) h

  -- the receipt may stand
  may-next : MayReply (moment s b p n m) q q.reply
  may-next = may-go (moment s a p n l) (moment s b p n m) q q.reply (λ ours. (call-alike s a b q.call (told-same ours)).reply) (past q.worker away.other) full-by may

  -- and the own parts stay apart so
  apart-next : OwnApart one s (own_next s a q) (own_next s b q)
  apart-next x here other =
      next-own s a p n l q is_a may away.still x here
      ∙ ap (own_touched (rests_on s q) q.call s.time x) (own x here other)
      ∙ sym (next-own s b p n m q is_b may-next away.still x here)

-- the receipts after it stay legal
away-legal : (s : Shown) (a b : List Own) (p n : ℕ) (l m : List Receipt) (k : ℕ) (one : Option ℕ) → IsMachine (beside s a) → IsMachine (beside s b) → OwnApart one s a b → PastApart k l m
    → (rs : List Receipt) → All (IsAway k one s) rs → IsLegalFrom (moment s a p n l) rs → IsLegalFrom (moment s b p n m) rs
away-legal s a b p n l m k one is_a is_b own past [] away legal = tt
away-legal s a b p n l m k one is_a is_b own past (q ∷ qs) away legal =
    let first = All-head (IsAway k one s) q qs away in
    let may = may-next s a b p n l m k one is_a is_b own past q first legal.0 in (
      may,
      subst (λ (t : Moment). IsLegalFrom t qs) (sym (next-is s b p n m q is_b may first.still))
          (away-legal s (own_next s a q) (own_next s b q) p n (q ∷ l) (q ∷ m) k one
          (next-machine s a p n l q is_a legal.0 first.still)
          (next-machine s b p n m q is_b may first.still)
          (apart-next s a b p n l m k one is_a is_b own past q first legal.0)
          (past-more l m k past q)
          qs (All-tail (IsAway k one s) q qs away)
          (subst (λ (t : Moment). IsLegalFrom t qs) (next-is s a p n l q is_a legal.0 first.still) legal.1)),
    )

-- a legal list is legal up to a moment, and from there
pub legal-both : (t : Moment) (xs ys : List Receipt) → IsLegalFrom t (xs ++ ys) → IsLegalFrom t xs × IsLegalFrom (moment_of t xs) ys
legal-both t [] ys h = (tt, h)
legal-both t (x ∷ xs) ys h = let rest = legal-both (next_moment t x) xs ys h.1 in ((h.0, rest.0), rest.1)

pub legal-more : (t : Moment) (xs ys : List Receipt) → IsLegalFrom t xs → IsLegalFrom (moment_of t xs) ys → IsLegalFrom t (xs ++ ys)
legal-more t [] ys h k = k
legal-more t (x ∷ xs) ys h k = (h.0, legal-more (next_moment t x) xs ys h.1 k)

pub moment-joins : (t : Moment) (xs ys : List Receipt) → moment_of t (xs ++ ys) ≡ moment_of (moment_of t xs) ys
moment-joins t [] ys = refl
moment-joins t (x ∷ xs) ys = moment-joins (next_moment t x) xs ys

-- a receipt that doesn't move, before those to which it is no matter
first-legal : (u : Moment) (after : List Receipt) (r : Receipt) → IsMachine u.machine → MayReply u r r.reply → is_moving r.reply ≡ false
    → All (IsAway r.worker (rests_on u.machine.shown r) u.machine.shown) after → IsLegalFrom u after → IsLegalFrom u (r ∷ after)
first-legal u after r is may still away legal =
    let s = u.machine.shown in
    let a = u.machine.own in
    let p = u.policies_removed in
    let n = u.states_removed in (
      may,
      subst (λ (t : Moment). IsLegalFrom t after) (sym (next-is s a p n u.past r is may still))
          (away-legal s a (own_next s a r) p n u.past (r ∷ u.past) r.worker (rests_on s r) is (next-machine s a p n u.past r is may still)
          (λ x here other. sym (next-own s a p n u.past r is may still x here ∙ touched-other (rests_on s r) r.call s.time x (own_in (beside s a) x) other))
          (past-one u.past r still) after away legal),
    )

module _ (t : Moment) (before after : List Receipt) (r : Receipt) (is : IsMachine t.machine) (late : IsLate t before after r) (legal : IsLegalFrom t (before ++ after)) where
  abbrev there : Moment
  there = moment_of t before

  there-is : IsMachine there.machine
  there-is = moments-kept t before is

  abbrev rest : Option ℕ
  rest = rests_on there.machine.shown r

  behind : IsLegalFrom there (r ∷ after)
  behind = first-legal there after r there-is late.may late.still late.away (legal-both t before after legal).1

  -- the history stays legal
  pub late-legal : IsLegalFrom t (before ++ r ∷ after)
  late-legal = legal-more t before (r ∷ after) (legal-both t before after legal).0 behind

  still-after : AreStill after
  still-after = All-weaker (IsAway r.worker rest there.machine.shown) (λ q. is_moving q.reply ≡ false) (λ q h. h.still) after late.away

  -- what it does to an own part it does as the last one
  pub late-own : (x : Sa) → Contains there.machine.shown.states x
      → own_in (moment_of t (before ++ r ∷ after)).machine x
      ≡ own_touched rest r.call there.machine.shown.time x (own_in (moment_of t (before ++ after)).machine x)
  late-own x here =
      let s = there.machine.shown in
      ap (λ (u : Moment). own_in u.machine x) (moment-joins t before (r ∷ after))
      ∙ still-own there (r ∷ after) there-is behind (All-cons (λ q. is_moving q.reply ≡ false) r after late.still still-after) x here
      ∙ touched-last s x (own_in there.machine x) rest r.call after (All-weaker (IsAway r.worker rest s) (λ q. (sid : ℕ) → rest ≡ Some sid → rests_on s q ≡ Some sid → ⊥) (λ q h. h.elsewhere) after late.away)
      ∙ ap (own_touched rest r.call s.time x)
      (sym (ap (λ (u : Moment). own_in u.machine x) (moment-joins t before after) ∙ still-own there after there-is (legal-both t before after legal).1 still-after x here))
