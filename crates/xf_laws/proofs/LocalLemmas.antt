-- Rules of one state read one own part, and change no other.
use Rattle.std.proofs.Common.{ℕ, ◌≡◌, Bool, true, false, List, [], ◌∷◌, refl, ap, sym, ◌∙◌, eqb-true, cond}
use Rattle.std.specs.Prelude.{◌==◌}
use Rattle.xf_types.specs.declared.state.Sa.{Sa}
use Rattle.xf_types.specs.Machine.{Machine, Shown, Own}
use Rattle.xf_types.specs.Changes.{Change, Stays, InPlace, LeaveThen, machine_after, shown_after}
use Rattle.xf_types.specs.StateList.{has_sid, changed}
use Rattle.xf_types.specs.OwnParts.{own_of, own_put, own_in}
use Rattle.xf_types.specs.TrafficRules.{Treated, Fate, Same, Ends, Becomes}
use Rattle.xf_types.specs.OneState.{on_state, put_back, shown_put, dying_if}
use Rattle.xf_laws.specs.StepLaws.{beside}

-- the reply rests on the state's own part
pub local_reply : (s : Shown) (a b : List Own) (x : Sa) (rule : ℕ → Sa → Own → Treated)
    → own_in (beside s a) x ≡ own_in (beside s b) x
    → (on_state (beside s a) x rule).reply ≡ (on_state (beside s b) x rule).reply
local_reply s a b x rule e = ap (λ (o : Own). (rule s.time x o).reply) e

-- so does the fate
pub local_fate : (s : Shown) (a b : List Own) (x : Sa) (rule : ℕ → Sa → Own → Treated)
    → own_in (beside s a) x ≡ own_in (beside s b) x
    → (rule s.time x (own_in (beside s a) x)).fate ≡ (rule s.time x (own_in (beside s b) x)).fate
local_fate s a b x rule e = ap (λ (o : Own). (rule s.time x o).fate) e

-- what is shown after the fate asks no own part
pub put_back-shown : (m : Machine) (x : Sa) (f : Fate) → (put_back m x f).shown ≡ shown_put m.shown x f
put_back-shown m x Same = refl
put_back-shown m x Ends = refl
put_back-shown m x (Becomes soft own) = refl

-- what is shown rests on it too
pub local_shown : (s : Shown) (a b : List Own) (x : Sa) (rule : ℕ → Sa → Own → Treated)
    → own_in (beside s a) x ≡ own_in (beside s b) x
    → (on_state (beside s a) x rule).machine.shown ≡ (on_state (beside s b) x rule).machine.shown
local_shown s a b x rule e =
    put_back-shown (beside s a) x (rule s.time x (own_in (beside s a) x)).fate
    ∙ ap (λ (o : Own). shown_put s x (rule s.time x o).fate) e
    ∙ sym (put_back-shown (beside s b) x (rule s.time x (own_in (beside s b) x)).fate)

-- a change of records that keeps their numbers leaves each own part
pub own_of-changed : (sid k : ℕ) (soft : Bool) (ss : List Sa) (os : List Own) (d : Own)
    → own_of k (changed sid (dying_if soft) ss) os d ≡ own_of k ss os d
own_of-changed sid k soft [] os d = refl
own_of-changed sid k soft (s ∷ ss) [] d = refl
own_of-changed sid k soft (s ∷ ss) (o ∷ os) d =
    ap (λ (b : Bool). cond b o (own_of k (changed sid (dying_if soft) ss) os d)) (keeps (has_sid sid s) soft)
    ∙ ap (λ (x : Own). cond (has_sid k s) o x) (own_of-changed sid k soft ss os d)
  where
    keeps : (b soft : Bool) → has_sid k (cond b (dying_if soft s) s) ≡ has_sid k s
    keeps true true = refl
    keeps true false = refl
    keeps false soft = refl

-- a change of one own part leaves the others
own_put-other : (sid k : ℕ) (new : Own) → (k == sid) ≡ false → (ss : List Sa) (os : List Own) (d : Own)
    → own_of k ss (own_put sid new ss os) d ≡ own_of k ss os d
own_put-other sid k new ne [] os d = refl
own_put-other sid k new ne (s ∷ ss) [] d = refl
own_put-other sid k new ne (s ∷ ss) (o ∷ os) d =
    elim (has_sid k s) as (λ b. has_sid k s ≡ b → cond b (cond (has_sid sid s) new o) (own_of k ss (own_put sid new ss os) d) ≡ cond b o (own_of k ss os d)) [
      | true ↦ λ is. ap (λ (b : Bool). cond b new o) (ap (λ (x : ℕ). x == sid) (eqb-true s.sid k is) ∙ ne)
      | false ↦ λ is. own_put-other sid k new ne ss os d
    ] refl

-- the own parts of other states stay
pub others_stay : (m : Machine) (x : Sa) (soft : Bool) (own : Own) (k : ℕ) (d : Own) → (k == x.sid) ≡ false
    → own_of k (put_back m x (Becomes soft own)).shown.states (put_back m x (Becomes soft own)).own d ≡ own_of k m.shown.states m.own d
others_stay m x soft own k d ne =
    own_of-changed x.sid k soft m.shown.states (own_put x.sid own m.shown.states m.own) d
    ∙ own_put-other x.sid k own ne m.shown.states m.own d

-- what is shown after an answer asks no own part
pub applied-shown : (m : Machine) (c : Change) → (machine_after m c).shown ≡ shown_after m.shown c
applied-shown m Stays = refl
applied-shown m (InPlace shown) = refl
applied-shown m (LeaveThen shown leaves new) = refl
