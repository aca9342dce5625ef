-- What a call may do to the states that are listed: some leave, the others are changed where they stand, and one is added.
use Rattle.std.proofs.Common.{arith, ℕ, ◌≡◌, ◌<◌, Bool, true, false, not, ◌==◌, List, [], ◌∷◌, ◌++◌, map, refl, ap, sym, ◌∙◌, subst, cond, All}
use Rattle.std.proofs.lemmas.Bool.{both_ways, ne_eqb, eq-eqb}
use Rattle.std.proofs.lemmas.List.Elements.{All-nil, All-cons, All-filter, All-map, All-weaker}
use Rattle.xf_types.specs.declared.state.Sa.{Sa}
use Rattle.xf_types.specs.declared.state.SaSpec.{SaSpec}
use Rattle.xf_types.specs.declared.call.Call.{Call}
use Rattle.xf_types.specs.declared.call.Call.TheVariants as call
use Rattle.xf_types.specs.declared.call.Reply.{Reply}
use Rattle.xf_types.specs.declared.call.Reply.TheVariants as reply
use Rattle.xf_types.specs.Machine.{Shown}
use Rattle.xf_types.specs.PolicyList.{without}
use Rattle.xf_types.specs.StateList.{has_sid, is_none}
use Rattle.xf_types.specs.Changes.{NewState}
use Rattle.xf_types.specs.ChangeIds.{refreshes}
use Rattle.xf_types.specs.StateRules as st
use Rattle.xf_types.specs.OneState.{dying_if}
use Rattle.xf_laws.specs.NewLaws.{IsNewState}
use Rattle.xf_laws.specs.OwnLaws.{added_record}
use Rattle.xf_laws.proofs.LaterLemmas.{none-leaves}

-- a change of a state's record leaves what a bucket rests on, and is none where the state isn't refreshed and stays as dying
pub record IsChange (c : Call) (r : Reply) (change : Sa → Sa) : Type 0 where
  pub sid : (x : Sa) → (change x).sid ≡ x.sid
  pub dst : (x : Sa) → (change x).spec.dst ≡ x.spec.dst
  pub reqid : (x : Sa) → (change x).spec.reqid ≡ x.spec.reqid
  pub same : (x : Sa) → refreshes c r x.sid ≡ false → (change x).dying ≡ x.dying → change x ≡ x

-- some states leave, the others are changed where they stand, and new ones come last
pub record AreStatesOf (s : Shown) (c : Call) (r : Reply) (states : List Sa) : Type 0 where
  pub leaves : Sa → Bool
  pub change : Sa → Sa
  pub new : List Sa
  pub whole : states ≡ map change (without leaves s.states) ++ new
  pub is : IsChange c r change
  pub begun : All (IsNewState s) new

-- no change
pub no-change : (c : Call) (r : Reply) → IsChange c r (λ x. x)
no-change c r = record { sid = λ x. refl; dst = λ x. refl; reqid = λ x. refl; same = λ x not_refreshed as_dying. refl }

-- a state that is dying, and was
dying-same : (soft : Bool) (x : Sa) → (dying_if soft x).dying ≡ x.dying → dying_if soft x ≡ x
dying-same true x e = ap (λ (b : Bool). record x { dying = b }) e
dying-same false x e = refl

-- a change of the flag of dying alone, by a test
pub dying-change : (c : Call) (r : Reply) (soft : Sa → Bool) → IsChange c r (λ x. dying_if (soft x) x)
dying-change c r soft =
    record {
      sid = λ x. sid (soft x) x;
      dst = λ x. dst (soft x) x;
      reqid = λ x. reqid (soft x) x;
      same = λ x not_refreshed. dying-same (soft x) x;
    }
  where
    sid : (b : Bool) (x : Sa) → (dying_if b x).sid ≡ x.sid
    sid true x = refl
    sid false x = refl

    dst : (b : Bool) (x : Sa) → (dying_if b x).spec.dst ≡ x.spec.dst
    dst true x = refl
    dst false x = refl

    reqid : (b : Bool) (x : Sa) → (dying_if b x).spec.reqid ≡ x.spec.reqid
    reqid true x = refl
    reqid false x = refl

-- of the state with one id
pub one-dying : (c : Call) (r : Reply) (sid : ℕ) (soft : Bool) → IsChange c r (λ x. cond (has_sid sid x) (dying_if soft x) x)
one-dying c r sid soft =
    record {
      sid = λ x. by (λ (y : Sa). y.sid) (dying-change c r (λ y. soft)).sid x (has_sid sid x);
      dst = λ x. by (λ (y : Sa). y.spec.dst) (dying-change c r (λ y. soft)).dst x (has_sid sid x);
      reqid = λ x. by (λ (y : Sa). y.spec.reqid) (dying-change c r (λ y. soft)).reqid x (has_sid sid x);
      same = λ x not_refreshed. same x (has_sid sid x);
    }
  where
    by : {Y : Type 0} (part : Sa → Y) → ((x : Sa) → part (dying_if soft x) ≡ part x) → (x : Sa) (b : Bool)
        → part (cond b (dying_if soft x) x) ≡ part x
    by part keeps x true = keeps x
    by part keeps x false = refl

    same : (x : Sa) (b : Bool) → (cond b (dying_if soft x) x).dying ≡ x.dying → cond b (dying_if soft x) x ≡ x
    same x true e = dying-same soft x e
    same x false e = refl

-- a refresh of the state with one id
pub refresh-change : (spec : SaSpec) (sid : ℕ)
    → IsChange (call.StateUpdate spec) (reply.DoneSid sid) (λ x. cond (has_sid sid x) (st.refreshed_record spec x) x)
refresh-change spec sid =
    record {
      sid = λ x. keeps (λ (y : Sa). y.sid) (λ y. refl) x (has_sid sid x);
      dst = λ x. keeps (λ (y : Sa). y.spec.dst) (λ y. refl) x (has_sid sid x);
      reqid = λ x. keeps (λ (y : Sa). y.spec.reqid) (λ y. refl) x (has_sid sid x);
      same = λ x not_refreshed as_dying. other x (eqb-flip sid x.sid not_refreshed);
    }
  where
    keeps : {Y : Type 0} (part : Sa → Y) → ((x : Sa) → part (st.refreshed_record spec x) ≡ part x) → (x : Sa) (b : Bool)
        → part (cond b (st.refreshed_record spec x) x) ≡ part x
    keeps part same x true = same x
    keeps part same x false = refl

    eqb-flip : (a b : ℕ) → (a == b) ≡ false → (b == a) ≡ false
    eqb-flip a b e = ne_eqb b a (λ is. both_ways (a == b) e (eq-eqb a b (sym is)))

    other : (x : Sa) → has_sid sid x ≡ false → cond (has_sid sid x) (st.refreshed_record spec x) x ≡ x
    other x e = ap (λ (b : Bool). cond b (st.refreshed_record spec x) x) e

-- nothing more at the end
pub no-more : {X : Type 0} (xs : List X) → xs ≡ xs ++ []
no-more [] = refl
no-more (x ∷ xs) = ap (λ ys. x ∷ ys) (no-more xs)

-- none is changed
pub none-changed : (xs : List Sa) → xs ≡ map (λ x. x) xs
none-changed [] = refl
none-changed (x ∷ xs) = ap (λ ys. x ∷ ys) (none-changed xs)

-- the states stay, each changed
pub changed-states : (s : Shown) (c : Call) (r : Reply) (change : Sa → Sa) → IsChange c r change → AreStatesOf s c r (map change s.states)
changed-states s c r change is =
    record {
      leaves = is_none;
      change = change;
      new = [];
      whole = ap (map change) (sym (none-leaves s.states)) ∙ no-more (map change (without is_none s.states));
      is = is;
      begun = All-nil (IsNewState s);
    }

-- the states stay
pub same-states : (s : Shown) (c : Call) (r : Reply) (states : List Sa) → states ≡ s.states → AreStatesOf s c r states
same-states s c r states e =
    subst (AreStatesOf s c r) (sym (e ∙ none-changed s.states)) (changed-states s c r (λ x. x) (no-change c r))

-- states leave
pub left-states : (s : Shown) (c : Call) (r : Reply) (leaves : Sa → Bool) → AreStatesOf s c r (without leaves s.states)
left-states s c r leaves =
    record {
      leaves = leaves;
      change = λ x. x;
      new = [];
      whole = none-changed (without leaves s.states) ∙ no-more (map (λ x. x) (without leaves s.states));
      is = no-change c r;
      begun = All-nil (IsNewState s);
    }

-- and one is added
pub added-states : (s : Shown) (c : Call) (r : Reply) (leaves : Sa → Bool) (new : NewState)
    → AreStatesOf s c r (without leaves s.states ++ added_record s new ∷ [])
added-states s c r leaves new =
    record {
      leaves = leaves;
      change = λ x. x;
      new = added_record s new ∷ [];
      whole = ap (λ (xs : List Sa). xs ++ added_record s new ∷ []) (none-changed (without leaves s.states));
      is = no-change c r;
      begun =
          All-cons (IsNewState s) (added_record s new) [] (record { sid = refl; dying = refl; added = refl }) (All-nil (IsNewState s));
    }

-- where none is new, none has the next id
pub none-new : (s : Shown) (leaves : Sa → Bool) (change : Sa → Sa) → ((x : Sa) → (change x).sid ≡ x.sid) → All (λ x. x.sid < s.next_sid) s.states
    → All (λ x. x.sid ≡ s.next_sid → ⊥) (map change (without leaves s.states))
none-new s leaves change keeps given =
    All-map (λ (x : Sa). x.sid ≡ s.next_sid → ⊥) change (without leaves s.states)
    (All-weaker (λ (x : Sa). x.sid < s.next_sid) (λ (x : Sa). (change x).sid ≡ s.next_sid → ⊥)
    (λ x less e. below x.sid s.next_sid less (sym (keeps x) ∙ e)) (without leaves s.states)
    (All-filter (λ x. not (leaves x)) (λ (x : Sa). x.sid < s.next_sid) s.states given))
  where
    below : (a b : ℕ) → a < b → a ≡ b → ⊥
    below a b less e = omega arith
