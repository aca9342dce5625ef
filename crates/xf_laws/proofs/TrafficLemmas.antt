-- A packet or an output reads the record and the own part of one state, and the time.
use Rattle.std.proofs.Common.{arith, ◌≡◌, ℕ, Bool, true, false, not, List, [], ◌∷◌, refl, ap, sym, ◌∙◌, cond, Option, None, Some, find, All, Contains, eqb-true, eqb}
use Rattle.std.proofs.lemmas.List.Elements.{All-head, All-tail}
use Rattle.std.specs.Option.{option_map}
use Rattle.xf_types.specs.declared.state.Sa.{Sa}
use Rattle.xf_types.specs.declared.call.Call.{Call}
use Rattle.xf_types.specs.declared.call.Call.TheVariants as call
use Rattle.xf_types.specs.declared.call.Reply.{Reply}
use Rattle.xf_types.specs.declared.call.Reply.TheVariants as reply
use Rattle.xf_types.specs.Machine.{Machine, Own}
use Rattle.xf_types.specs.PolicyList.{without}
use Rattle.xf_types.specs.StateList.{latest_match, last_of, has_sid, has_id, changed}
use Rattle.xf_types.specs.OwnParts.{new_own, own_of, own_put, own_without, own_in}
use Rattle.xf_types.specs.TrafficRules.{Treated, Fate, Same, Ends, Becomes, packet_at, output_at, id_of_packet}
use Rattle.xf_types.specs.OneState.{dying_if, put_back, on_found}
use Rattle.xf_types.specs.Steps.{rule_of, by_rule}
use Rattle.xf_types.specs.IsMachine.{IsMachine, AreOwn}
use Rattle.xf_laws.specs.TrafficLaws.{TellOfState}
use Rattle.xf_laws.proofs.LocalLemmas.{own_of-changed}
use Rattle.xf_laws.proofs.StateKeepLemmas.{dying-sid}
use Rattle.xf_laws.proofs.TrafficKeepLemmas.{found-contained, last-contained, only-one, contained-behind}

-- beside no own parts a state has none
own_of-none : (sid : ℕ) (states : List Sa) (d : Own) → own_of sid states [] d ≡ d
own_of-none sid [] d = refl
own_of-none sid (x ∷ states) d = refl

-- a state that left has none
own_of-gone : (sid : ℕ) (states : List Sa) (own : List Own) (d : Own)
    → own_of sid (without (has_sid sid) states) (own_without (has_sid sid) states own) d ≡ d
own_of-gone sid [] own d = refl
own_of-gone sid (x ∷ states) [] d = own_of-none sid (without (has_sid sid) (x ∷ states)) d
own_of-gone sid (x ∷ states) (o ∷ own) d =
    let left = without (has_sid sid) states in
    let kept = own_without (has_sid sid) states own in
    elim (has_sid sid x) as (λ b. has_sid sid x ≡ b → own_of sid (cond (not b) (x ∷ left) left) (cond b kept (o ∷ kept)) d ≡ d) [
      | true ↦ λ is. own_of-gone sid states own d
      | false ↦ λ is. ap (λ (b : Bool). cond b o (own_of sid left kept d)) is ∙ own_of-gone sid states own d
    ] refl

-- the own part that takes the place of that of a listed state is found there
put-found : (x : Sa) (new : Own) (states : List Sa) (own : List Own) (d : Own) → Contains states x → AreOwn states own
    → own_of x.sid states (own_put x.sid new states own) d ≡ new
put-found x new [] own d = λ here h. absurd (let within = here.1 in omega arith)
put-found x new (y ∷ states) [] d = λ here h. absurd h
put-found x new (y ∷ states) (o ∷ own) d = λ here h.
    elim (has_sid x.sid y)
    as (λ b. has_sid x.sid y ≡ b → cond b (cond b new o) (own_of x.sid states (own_put x.sid new states own) d) ≡ new) [
      | true ↦ λ is. refl
      | false ↦ λ is. put-found x new states own d (contained-behind x y states is here) h.1
    ] refl

-- a listed state is found under its id, where no two have one
sid-found : (states : List Sa) (x : Sa) → Contains states x → All (λ y. y.sid ≡ x.sid → y ≡ x) states
    → find (has_sid x.sid) states ≡ Some x
sid-found [] x = λ here one. absurd (let within = here.1 in omega arith)
sid-found (y ∷ states) x = λ here one.
    elim (has_sid x.sid y) as (λ b. has_sid x.sid y ≡ b → cond b (Some y) (find (has_sid x.sid) states) ≡ Some x) [
      | true ↦ λ is. ap Some (All-head (λ (z : Sa). z.sid ≡ x.sid → z ≡ x) y states one (eqb-true y.sid x.sid is))
      | false ↦ λ is.
          sid-found states x (contained-behind x y states is here) (All-tail (λ (z : Sa). z.sid ≡ x.sid → z ≡ x) y states one)
    ] refl

-- none is where it left
sid-gone : (sid : ℕ) (states : List Sa) → find (has_sid sid) (without (has_sid sid) states) ≡ None
sid-gone sid [] = refl
sid-gone sid (x ∷ states) =
    let left = without (has_sid sid) states in
    elim (has_sid sid x)
    as (λ b. has_sid sid x ≡ b → find (has_sid sid) (cond (not b) (x ∷ left) left) ≡ None) [
      | true ↦ λ is. sid-gone sid states
      | false ↦ λ is. ap (λ (b : Bool). cond b (Some x) (find (has_sid sid) left)) is ∙ sid-gone sid states
    ] refl

-- and after a change of the state, the changed one
sid-changed : (sid : ℕ) (soft : Bool) (states : List Sa)
    → find (has_sid sid) (changed sid (dying_if soft) states) ≡ option_map (dying_if soft) (find (has_sid sid) states)
sid-changed sid soft [] = refl
sid-changed sid soft (x ∷ states) =
    let rest : Option Sa = find (has_sid sid) (changed sid (dying_if soft) states) in
    elim (has_sid sid x)
    as (λ b. has_sid sid x ≡ b
    → find (has_sid sid) (cond b (dying_if soft x) x ∷ changed sid (dying_if soft) states)
    ≡ option_map (dying_if soft) (cond b (Some x) (find (has_sid sid) states))) [
      | true ↦ λ is.
          ap (λ (b : Bool). cond b (Some (dying_if soft x)) rest) (ap (λ (n : ℕ). eqb n sid) (dying-sid soft x) ∙ is)
      | false ↦ λ is. ap (λ (b : Bool). cond b (Some x) rest) is ∙ sid-changed sid soft states
    ] refl

-- a state that is found under its id in both machines
record IsInBoth (m n : Machine) (x : Sa) : Type 0 where
  left : Contains m.shown.states x
  right : Contains n.shown.states x

-- the same fate leaves it the same own part
fate-own : (m n : Machine) (x : Sa) (fate : Fate) → IsMachine m → IsMachine n → IsInBoth m n x → own_in m x ≡ own_in n x
    → own_in (put_back m x fate) x ≡ own_in (put_back n x fate) x
fate-own m n x Same h k both e = e
fate-own m n x Ends h k both e =
    own_of-gone x.sid m.shown.states m.own (new_own x.spec) ∙ sym (own_of-gone x.sid n.shown.states n.own (new_own x.spec))
fate-own m n x (Becomes soft own) h k both e =
    own_of-changed x.sid x.sid soft m.shown.states (own_put x.sid own m.shown.states m.own) (new_own x.spec)
    ∙ put-found x own m.shown.states m.own (new_own x.spec) both.left h.own
    ∙ sym
    (own_of-changed x.sid x.sid soft n.shown.states (own_put x.sid own n.shown.states n.own) (new_own x.spec)
    ∙ put-found x own n.shown.states n.own (new_own x.spec) both.right k.own)

-- under its id one record is found
both-found : (m n : Machine) (x : Sa) → IsMachine m → IsMachine n → IsInBoth m n x
    → find (has_sid x.sid) m.shown.states ≡ find (has_sid x.sid) n.shown.states
both-found m n x h k both =
    sid-found m.shown.states x both.left (only-one m.shown.states x both.left h.shown.states.sids)
    ∙ sym (sid-found n.shown.states x both.right (only-one n.shown.states x both.right k.shown.states.sids))

-- and the same fate leaves the same record
fate-listed : (m n : Machine) (x : Sa) (fate : Fate) → IsMachine m → IsMachine n → IsInBoth m n x
    → find (has_sid x.sid) (put_back m x fate).shown.states ≡ find (has_sid x.sid) (put_back n x fate).shown.states
fate-listed m n x Same h k both = both-found m n x h k both
fate-listed m n x Ends h k both = sid-gone x.sid m.shown.states ∙ sym (sid-gone x.sid n.shown.states)
fate-listed m n x (Becomes soft own) h k both =
    sid-changed x.sid soft m.shown.states
    ∙ ap (option_map (dying_if soft)) (both-found m n x h k both)
    ∙ sym (sid-changed x.sid soft n.shown.states)

-- two machines tell the rule of one state the same: it was found in both, with the same own part, at the same time
record TellOf (m n : Machine) (x : Sa) : Type 0 where
  time : m.shown.time ≡ n.shown.time
  own : own_in m x ≡ own_in n x

-- what becomes of the state rests on that
fate-same : (m n : Machine) (x : Sa) (treat : ℕ → Sa → Own → Treated) → TellOf m n x
    → treat m.shown.time x (own_in m x) ≡ treat n.shown.time x (own_in n x)
fate-same m n x treat h = ap (λ (t : ℕ). treat t x (own_in m x)) h.time ∙ ap (treat n.shown.time x) h.own

-- no state was found
none-found : {X : Type 0} (x : Sa) → None ≡ Some x → X
none-found x e = absurd cc

-- a rule of the state that was found in both
module _ (m n : Machine) (missing : Reply) (treat : ℕ → Sa → Own → Treated) (x : Sa) (left right : Option Sa) (found : left ≡ Some x)
    (found_too : right ≡ Some x) (tell : TellOf m n x) where
  -- gives the same reply
  same-reply : (on_found m missing treat left).reply ≡ (on_found n missing treat right).reply
  same-reply =
      ap (λ (o : Option Sa). (on_found m missing treat o).reply) found
      ∙ ap (λ (r : Treated). r.reply) (fate-same m n x treat tell)
      ∙ sym (ap (λ (o : Option Sa). (on_found n missing treat o).reply) found_too)

  -- leaves the same own part
  same-own : IsMachine m → IsMachine n → IsInBoth m n x
      → own_in (on_found m missing treat left).machine x ≡ own_in (on_found n missing treat right).machine x
  same-own h k both =
      ap (λ (o : Option Sa). own_in (on_found m missing treat o).machine x) found
      ∙ ap (λ (r : Treated). own_in (put_back m x r.fate) x) (fate-same m n x treat tell)
      ∙ fate-own m n x (treat n.shown.time x (own_in n x)).fate h k both tell.own
      ∙ sym (ap (λ (o : Option Sa). own_in (on_found n missing treat o).machine x) found_too)

  -- and the same record
  same-listed : IsMachine m → IsMachine n → IsInBoth m n x
      → find (has_sid x.sid) (on_found m missing treat left).machine.shown.states
      ≡ find (has_sid x.sid) (on_found n missing treat right).machine.shown.states
  same-listed h k both =
      ap (λ (o : Option Sa). find (has_sid x.sid) (on_found m missing treat o).machine.shown.states) found
      ∙ ap (λ (r : Treated). find (has_sid x.sid) (put_back m x r.fate).shown.states) (fate-same m n x treat tell)
      ∙ fate-listed m n x (treat n.shown.time x (own_in n x)).fate h k both
      ∙ sym (ap (λ (o : Option Sa). find (has_sid x.sid) (on_found n missing treat o).machine.shown.states) found_too)

-- of the two parts of what is told
tell-of : (m n : Machine) (c : Call) (x : Sa) → TellOfState m n c x → TellOf m n x
tell-of m n c x h = record { time = h.time; own = h.own }

-- the state is listed in both
in-both : (m n : Machine) (test : Sa → Bool) (x : Sa) → last_of test m.shown.states ≡ Some x → last_of test n.shown.states ≡ Some x
    → IsInBoth m n x
in-both m n test x left right =
    record { left = last-contained test m.shown.states x left; right = last-contained test n.shown.states x right }

-- so is one that is found first
first-in-both : (m n : Machine) (test : Sa → Bool) (x : Sa) → find test m.shown.states ≡ Some x → find test n.shown.states ≡ Some x
    → IsInBoth m n x
first-in-both m n test x left right =
    record { left = found-contained test m.shown.states x left; right = found-contained test n.shown.states x right }

-- the reply
pub traffic-reply : (m n : Machine) (c : Call) (x : Sa) → TellOfState m n c x
    → (by_rule m (rule_of m.shown c)).reply ≡ (by_rule n (rule_of n.shown c)).reply
traffic-reply m n (call.Packet k) x h =
    same-reply m n reply.NoState (packet_at k) x (latest_match m.shown.states (id_of_packet k))
    (latest_match n.shown.states (id_of_packet k)) h.found h.found_too (tell-of m n (call.Packet k) x h)
traffic-reply m n (call.Output sid len) x h =
    same-reply m n reply.Stale (output_at len) x (find (has_sid sid) m.shown.states) (find (has_sid sid) n.shown.states) h.found h.found_too
    (tell-of m n (call.Output sid len) x h)
traffic-reply m n _ x h = none-found x h.found

-- the own part
pub traffic-own : (m n : Machine) (c : Call) (x : Sa) → IsMachine m → IsMachine n → TellOfState m n c x
    → own_in (by_rule m (rule_of m.shown c)).machine x ≡ own_in (by_rule n (rule_of n.shown c)).machine x
traffic-own m n (call.Packet k) x p q h =
    same-own m n reply.NoState (packet_at k) x (latest_match m.shown.states (id_of_packet k))
    (latest_match n.shown.states (id_of_packet k)) h.found h.found_too (tell-of m n (call.Packet k) x h) p q
    (in-both m n (has_id (id_of_packet k)) x h.found h.found_too)
traffic-own m n (call.Output sid len) x p q h =
    same-own m n reply.Stale (output_at len) x (find (has_sid sid) m.shown.states) (find (has_sid sid) n.shown.states) h.found h.found_too
    (tell-of m n (call.Output sid len) x h) p q (first-in-both m n (has_sid sid) x h.found h.found_too)
traffic-own m n _ x p q h = none-found x h.found

-- the record
pub traffic-listed : (m n : Machine) (c : Call) (x : Sa) → IsMachine m → IsMachine n → TellOfState m n c x
    → find (has_sid x.sid) (by_rule m (rule_of m.shown c)).machine.shown.states
    ≡ find (has_sid x.sid) (by_rule n (rule_of n.shown c)).machine.shown.states
traffic-listed m n (call.Packet k) x p q h =
    same-listed m n reply.NoState (packet_at k) x (latest_match m.shown.states (id_of_packet k))
    (latest_match n.shown.states (id_of_packet k)) h.found h.found_too (tell-of m n (call.Packet k) x h) p q
    (in-both m n (has_id (id_of_packet k)) x h.found h.found_too)
traffic-listed m n (call.Output sid len) x p q h =
    same-listed m n reply.Stale (output_at len) x (find (has_sid sid) m.shown.states) (find (has_sid sid) n.shown.states) h.found h.found_too
    (tell-of m n (call.Output sid len) x h) p q (first-in-both m n (has_sid sid) x h.found h.found_too)
traffic-listed m n _ x p q h = none-found x h.found
