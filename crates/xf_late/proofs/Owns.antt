-- What a receipt does to the own part of each state.
use Rattle.std.proofs.Common.{◌≡◌, ℕ, Bool, true, false, true≢false, not, List, [], ◌∷◌, Some, None, Option, refl, sym, ap, ◌∙◌, subst, cond, inl, inr, Contains, eq-eqb, ne_eqb}
use Rattle.std.specs.Prelude.{◌||◌}
use Rattle.std.specs.Option.{option_map}
use Rattle.std.proofs.lemmas.Bool.{cases_Bool, cond-true, cond-false}
use Rattle.std.proofs.lemmas.List.Elements.{All-contains}
use mathlib.Core.Logic.{dite}
use native.Mathlib.Decide.{ℕ_discrete}
use Rattle.xf_types.specs.declared.call.Call.{Call}
use Rattle.xf_types.specs.declared.call.Call.TheVariants as call
use Rattle.xf_types.specs.declared.call.Receipt.{Receipt}
use Rattle.xf_types.specs.declared.call.Reply.TheVariants as reply
use Rattle.xf_types.specs.declared.state.Sa.{Sa}
use Rattle.xf_types.specs.Machine.{Machine, Own, Shown}
use Rattle.xf_types.specs.PolicyList.{without}
use Rattle.xf_types.specs.StateList.{has_sid, has_id}
use Rattle.xf_types.specs.OwnParts.{own_of, own_in, own_put, own_without, new_own}
use Rattle.xf_types.specs.OneState.{put_back, on_found}
use Rattle.xf_types.specs.TrafficRules.{Fate, Same, Ends, Becomes, packet_at, output_at, id_of_packet}
use Rattle.xf_types.specs.Steps.{step, rule_of}
use Rattle.xf_types.specs.Moves.{state_found}
use Rattle.xf_types.specs.History.{is_exception, machine_next}
use Rattle.xf_types.specs.IsMachine.{IsMachine, AreOwn}
use Rattle.xf_laws.specs.LeaveLaws.{is_listed, IsAnother}
use Rattle.xf_laws.proofs.LocalLemmas.{own_of-changed}
use Rattle.xf_laws.proofs.BesideLemmas.{own_of-missing}
use Rattle.xf_laws.proofs.TrafficKeepLemmas.{found-contained, last-contained, only-one}
use Rattle.xf_laws.proofs.LeaveLemmas.{call-moved}
use Rattle.xf_laws.proofs.MachineLemmas.{step-kept}
use Rattle.xf_laws.proofs.NewLemmas.{own-new, listed-contained}
use Rattle.xf_late.specs.Rests.{rests_on, own_fated, own_called, own_touched}

-- the own part of a listed state is there, whatever one without one would get
own_of-any : (sid : ℕ) (states : List Sa) (own : List Own) (d e : Own) → AreOwn states own → is_listed sid states ≡ true → own_of sid states own d ≡ own_of sid states own e
own_of-any sid [] own d e h l = absurd (true≢false (sym l))
own_of-any sid (x ∷ states) [] d e h l = absurd h
own_of-any sid (x ∷ states) (o ∷ own) d e h l =
    elim (has_sid sid x) as (λ b. (b || is_listed sid states) ≡ true → cond b o (own_of sid states own d) ≡ cond b o (own_of sid states own e)) [
      | true ↦ λ k. refl
      | false ↦ λ k. own_of-any sid states own d e h.1 k
    ] l

-- so two listed records with one id have one own part
same-own : (m : Machine) (x y : Sa) → IsMachine m → is_listed y.sid m.shown.states ≡ true → x.sid ≡ y.sid → own_in m x ≡ own_in m y
same-own m x y h listed same =
    ap (λ (n : ℕ). own_of n m.shown.states m.own (new_own x.spec)) same
    ∙ own_of-any y.sid m.shown.states m.own (new_own x.spec) (new_own y.spec) h.own listed

-- and are one record
pub same-record : (m : Machine) (x y : Sa) → IsMachine m → Contains m.shown.states x → Contains m.shown.states y → x.sid ≡ y.sid → x ≡ y
same-record m x y h here there same =
    All-contains (λ (z : Sa). z.sid ≡ y.sid → z ≡ y) m.shown.states x (only-one m.shown.states y there h.shown.states.sids) here same

-- none with the id is left where those with the id left
none-left : (sid : ℕ) (states : List Sa) → is_listed sid (without (has_sid sid) states) ≡ false
none-left sid [] = refl
none-left sid (x ∷ states) =
    let left = without (has_sid sid) states in
    elim (has_sid sid x) as (λ b. has_sid sid x ≡ b → is_listed sid (cond (not b) (x ∷ left) left) ≡ false) [
      | true ↦ λ is. none-left sid states
      | false ↦ λ is. ap (λ (b : Bool). b || is_listed sid left) is ∙ none-left sid states
    ] refl

-- an own part that was put is there
put-there : (sid : ℕ) (new : Own) (states : List Sa) (own : List Own) (d : Own) → AreOwn states own → is_listed sid states ≡ true → own_of sid states (own_put sid new states own) d ≡ new
put-there sid new [] own d h l = absurd (true≢false (sym l))
put-there sid new (x ∷ states) [] d h l = absurd h
put-there sid new (x ∷ states) (o ∷ own) d h l =
    elim (has_sid sid x) as (λ b. (b || is_listed sid states) ≡ true → cond b (cond b new o) (own_of sid states (own_put sid new states own) d) ≡ new) [
      | true ↦ λ k. refl
      | false ↦ λ k. put-there sid new states own d h.1 k
    ] l

-- the own part of a state after its fate
own-fated : (m : Machine) (y : Sa) (fate : Fate) → IsMachine m → Contains m.shown.states y → own_in (put_back m y fate) y ≡ own_fated y (own_in m y) fate
own-fated m y Same h there = refl
own-fated m y Ends h there =
    own_of-missing y.sid (without (has_sid y.sid) m.shown.states) (own_without (has_sid y.sid) m.shown.states m.own) (new_own y.spec)
    (none-left y.sid m.shown.states)
own-fated m y (Becomes soft own) h there =
    own_of-changed y.sid y.sid soft m.shown.states (own_put y.sid own m.shown.states m.own) (new_own y.spec)
    ∙ put-there y.sid own m.shown.states m.own (new_own y.spec) h.own (listed-contained m.shown.states y there)

nothing : {X : Type 0} (x : Sa) → None ≡ Some x → X
nothing x e = absurd cc

-- the state that a call is for is listed
pub for-listed : (s : Shown) (c : Call) (y : Sa) → state_found (rule_of s c) ≡ Some y → Contains s.states y
for-listed s (call.Packet packet) y e = last-contained (has_id (id_of_packet packet)) s.states y e
for-listed s (call.Output sid len) y e = found-contained (has_sid sid) s.states y e
for-listed s _ y e = nothing y e

-- its own part after the call
own-called : (m : Machine) (c : Call) (y : Sa) → IsMachine m → state_found (rule_of m.shown c) ≡ Some y → own_in (step m c).machine y ≡ own_called c m.shown.time y (own_in m y)
own-called m (call.Packet packet) y h e =
    ap (λ (o : Option Sa). own_in (on_found m reply.NoState (packet_at packet) o).machine y) e
    ∙ own-fated m y (packet_at packet m.shown.time y (own_in m y)).fate h (last-contained (has_id (id_of_packet packet)) m.shown.states y e)
own-called m (call.Output sid len) y h e =
    ap (λ (o : Option Sa). own_in (on_found m reply.Stale (output_at len) o).machine y) e
    ∙ own-fated m y (output_at len m.shown.time y (own_in m y)).fate h (found-contained (has_sid sid) m.shown.states y e)
own-called m _ y h e = nothing y e

-- a receipt touches the state on which it rests
pub touched-one : (sid : ℕ) (c : Call) (time : ℕ) (x : Sa) (own : Own) → x.sid ≡ sid → own_touched (Some sid) c time x own ≡ own_called c time x own
touched-one sid c time x own same = ap (λ (b : Bool). cond b (own_called c time x own) own) (eq-eqb x.sid sid same)

-- and no other
pub touched-other : (one : Option ℕ) (c : Call) (time : ℕ) (x : Sa) (own : Own) → (one ≡ Some x.sid → ⊥) → own_touched one c time x own ≡ own
touched-other None c time x own other = refl
touched-other (Some sid) c time x own other = ap (λ (b : Bool). cond b (own_called c time x own) own) (ne_eqb x.sid sid (λ same. other (ap Some (sym same))))

-- each state that was listed and still is, after a call
module _ (m : Machine) (c : Call) (x y : Sa) (h : IsMachine m) (before : Contains m.shown.states y) (after : Contains (step m c).machine.shown.states x) (same : x.sid ≡ y.sid) where
  -- another than the one that the call is for
  left-own : IsAnother (state_found (rule_of m.shown c)) x.sid → own_in (step m c).machine x ≡ own_in m y
  left-own another =
      let here : is_listed x.sid m.shown.states ≡ true = ap (λ (n : ℕ). is_listed n m.shown.states) same ∙ listed-contained m.shown.states y before in
      call-moved m c x.sid (new_own x.spec) h another here (listed-contained (step m c).machine.shown.states x after)
      ∙ same-own m x y h (listed-contained m.shown.states y before) same

  step-stays : (o : Option Sa) → state_found (rule_of m.shown c) ≡ o → own_in (step m c).machine x ≡ own_touched (option_map (λ (z : Sa). z.sid) o) c m.shown.time y (own_in m y)
  step-stays None e = left-own (subst (λ (o : Option Sa). IsAnother o x.sid) (sym e) tt)
  step-stays (Some z) e = dite (ℕ_discrete y.sid z.sid)
      (λ is.
      let one : z ≡ y = same-record m z y h (for-listed m.shown c z e) before (sym is) in
      sym (same-own (step m c).machine y x (step-kept m c h) (listed-contained (step m c).machine.shown.states x after) (sym same))
      ∙ own-called m c y h (e ∙ ap Some one)
      ∙ sym (touched-one z.sid c m.shown.time y (own_in m y) is))
      (λ other.
      left-own (subst (λ (o : Option Sa). IsAnother o x.sid) (sym e) (λ is. other (sym (is ∙ same))))
      ∙ sym (touched-other (Some z.sid) c m.shown.time y (own_in m y) (λ is. other (sym (same_number z.sid y.sid is)))))
    where
      same_number : (a b : ℕ) → Some a ≡ Some b → a ≡ b
      same_number a b q = cc

-- on whose own part a receipt rests
pub rests-none : (s : Shown) (r : Receipt) → is_exception r.reply ≡ true → rests_on s r ≡ None
rests-none s r out = cond-true (is_exception r.reply) None (option_map (λ (z : Sa). z.sid) (state_found (rule_of s r.call))) out

pub rests-found : (s : Shown) (r : Receipt) → is_exception r.reply ≡ false → rests_on s r ≡ option_map (λ (z : Sa). z.sid) (state_found (rule_of s r.call))
rests-found s r ours = cond-false (is_exception r.reply) None (option_map (λ (z : Sa). z.sid) (state_found (rule_of s r.call))) ours

-- the machine after a receipt
next-same : (m : Machine) (r : Receipt) → is_exception r.reply ≡ true → machine_next m r ≡ m
next-same m r out = cond-true (is_exception r.reply) m (step m r.call).machine out

next-step : (m : Machine) (r : Receipt) → is_exception r.reply ≡ false → machine_next m r ≡ (step m r.call).machine
next-step m r ours = cond-false (is_exception r.reply) m (step m r.call).machine ours

-- each state that was listed and still is, after a receipt
pub own-stays : (m : Machine) (r : Receipt) (x y : Sa) → IsMachine m → Contains m.shown.states y → Contains (machine_next m r).shown.states x → x.sid ≡ y.sid
    → own_in (machine_next m r) x ≡ own_touched (rests_on m.shown r) r.call m.shown.time y (own_in m y)
own-stays m r x y h before after same = elim (cases_Bool (is_exception r.reply)) [
  | inl out ↦
      let here : Contains m.shown.states x = subst (λ (n : Machine). Contains n.shown.states x) (next-same m r out) after in
      ap (λ (n : Machine). own_in n x) (next-same m r out)
      ∙ ap (λ (z : Sa). own_in m z) (same-record m x y h here before same)
      ∙ sym (ap (λ (o : Option ℕ). own_touched o r.call m.shown.time y (own_in m y)) (rests-none m.shown r out))
  | inr ours ↦
      let there : Contains (step m r.call).machine.shown.states x = subst (λ (n : Machine). Contains n.shown.states x) (next-step m r ours) after in
      ap (λ (n : Machine). own_in n x) (next-step m r ours)
      ∙ step-stays m r.call x y h before there same (state_found (rule_of m.shown r.call)) refl
      ∙ sym (ap (λ (o : Option ℕ). own_touched o r.call m.shown.time y (own_in m y)) (rests-found m.shown r ours))
]

-- one that is listed anew
pub own-comes : (m : Machine) (r : Receipt) (x : Sa) → IsMachine m → Contains (machine_next m r).shown.states x → is_listed x.sid m.shown.states ≡ false
    → own_in (machine_next m r) x ≡ new_own x.spec
own-comes m r x h after missing = elim (cases_Bool (is_exception r.reply)) [
  | inl out ↦
      let here : Contains m.shown.states x = subst (λ (n : Machine). Contains n.shown.states x) (next-same m r out) after in
      absurd (true≢false (sym (listed-contained m.shown.states x here) ∙ missing))
  | inr ours ↦
      let there : Contains (step m r.call).machine.shown.states x = subst (λ (n : Machine). Contains n.shown.states x) (next-step m r ours) after in
      ap (λ (n : Machine). own_in n x) (next-step m r ours)
      ∙ own-new m r.call x (new_own x.spec) h there missing
]
