-- What a call lists anew.
use Rattle.std.proofs.Common.{ℕ, ◌≡◌, true, false, not, ◌==◌, List, get_or, map, refl, ap, sym, ◌∙◌, subst, All, Contains, inl, inr, ◌⊎◌}
use Rattle.std.proofs.lemmas.Bool.{both_ways, eq-eqb}
use Rattle.std.proofs.lemmas.List.Elements.{All-append, All-filter, All-map, All-weaker, All-contains}
use Rattle.std.proofs.lemmas.List.Folds.{list_any_at}
use Rattle.xf_types.specs.declared.policy.Policy.{Policy}
use Rattle.xf_types.specs.declared.state.Sa.{Sa}
use Rattle.xf_types.specs.declared.call.Call.{Call}
use Rattle.xf_types.specs.declared.call.Reply.{Reply}
use Rattle.xf_types.specs.Machine.{Machine, Shown, Own}
use Rattle.xf_types.specs.PolicyList.{without}
use Rattle.xf_types.specs.StateList.{has_sid}
use Rattle.xf_types.specs.OwnParts.{new_own, own_of}
use Rattle.xf_types.specs.Steps.{step}
use Rattle.xf_types.specs.IsMachine.{IsMachine}
use Rattle.xf_laws.specs.LeaveLaws.{is_listed}
use Rattle.xf_laws.specs.NewLaws.{is_numbered, IsNewState, IsNewPolicy}
use Rattle.xf_laws.proofs.BesideLemmas.{zip-weaker, own_of-listed}
use Rattle.xf_laws.proofs.TrafficKeepLemmas.{only-one}
use Rattle.xf_laws.proofs.MachineLemmas.{step-kept}
use Rattle.xf_laws.proofs.FormLemmas.{IsPolicyOf}
use Rattle.xf_laws.proofs.StateFormLemmas.{AreStatesOf}
use Rattle.xf_laws.proofs.ToldLemmas.{Begins, told}

-- each state of a list is listed
pub listed-all : (states : List Sa) → All (λ x. is_listed x.sid states ≡ true) states
listed-all states k d within =
    let x : Sa = get_or states k d in list_any_at (has_sid x.sid) states k d within (eq-eqb x.sid x.sid refl)

-- so is a state that it has
pub listed-contained : (states : List Sa) (x : Sa) → Contains states x → is_listed x.sid states ≡ true
listed-contained states x here = All-contains (λ (y : Sa). is_listed y.sid states ≡ true) states x (listed-all states) here

-- and each policy
pub numbered-all : (policies : List Policy) → All (λ p. is_numbered p.number policies ≡ true) policies
numbered-all policies k d within =
    let p : Policy = get_or policies k d in
    list_any_at (λ (q : Policy). q.number == p.number) policies k d within (eq-eqb p.number p.number refl)

-- each state was listed before under its id, or is new
unfoldable pub IsOldOrNew : Shown → Sa → Type 0
IsOldOrNew s x = (is_listed x.sid s.states ≡ true) ⊎ IsNewState s x

-- the states that a call leaves are so
pub old-or-new : (s : Shown) (c : Call) (r : Reply) (states : List Sa) → AreStatesOf s c r states → All (IsOldOrNew s) states
unfolding IsOldOrNew
old-or-new s c r states h =
    subst (All (IsOldOrNew s)) (sym h.whole)
    (All-append (IsOldOrNew s) (map h.change (without h.leaves s.states)) h.new
    (All-map (IsOldOrNew s) h.change (without h.leaves s.states)
    (All-filter (λ x. not (h.leaves x)) (λ (x : Sa). IsOldOrNew s (h.change x)) s.states
    (All-weaker (λ (x : Sa). is_listed x.sid s.states ≡ true) (λ (x : Sa). IsOldOrNew s (h.change x))
    (λ x is. inl (ap (λ (n : ℕ). is_listed n s.states) (h.is.sid x) ∙ is)) s.states (listed-all s.states))))
    (All-weaker (IsNewState s) (IsOldOrNew s) (λ x is. inr is) h.new h.begun))

-- a state
pub state-new : (m : Machine) (c : Call) (x : Sa) → IsMachine m → Contains (step m c).machine.shown.states x
    → is_listed x.sid m.shown.states ≡ false → IsNewState m.shown x
unfolding IsOldOrNew
state-new m c x h here missing =
    let all = old-or-new m.shown c (step m c).reply (step m c).machine.shown.states (told m c h).states in
    elim (All-contains (IsOldOrNew m.shown) (step m c).machine.shown.states x all here) [
      | inl old ↦ absurd (both_ways (is_listed x.sid m.shown.states) missing old)
      | inr new ↦ new
    ]

-- its own part
pub own-new : (m : Machine) (c : Call) (x : Sa) (none : Own) → IsMachine m → Contains (step m c).machine.shown.states x
    → is_listed x.sid m.shown.states ≡ false
    → own_of x.sid (step m c).machine.shown.states (step m c).machine.own none ≡ new_own x.spec
own-new m c x none h here missing =
    let n = (step m c).machine in
    let new = state-new m c x h here missing in
    own_of-listed x.sid (new_own x.spec) n.shown.states n.own none
    (zip-weaker (λ y. y.sid ≡ x.sid → y ≡ x) (Begins m.shown.next_sid) (λ y o. y.sid ≡ x.sid → o ≡ new_own x.spec)
    (λ y o one begins same. begins (same ∙ new.sid) ∙ ap (λ (z : Sa). new_own z.spec) (one same)) n.shown.states n.own
    (only-one n.shown.states x here (step-kept m c h).shown.states.sids)
    (told m c h).begins)
    (listed-contained n.shown.states x here)

-- a policy
pub policy-new : (m : Machine) (c : Call) (p : Policy) → IsMachine m → Contains (step m c).machine.shown.policies p
    → is_numbered p.number m.shown.policies ≡ false → IsNewPolicy m.shown p
policy-new m c p h here missing =
    elim (All-contains (IsPolicyOf m.shown) (step m c).machine.shown.policies p (told m c h).policies here) [
      | inl old ↦
          absurd
          (both_ways (is_numbered p.number m.shown.policies) missing
          (ap (λ (q : Policy). is_numbered q.number m.shown.policies) old.same
          ∙ All-contains (λ (q : Policy). is_numbered q.number m.shown.policies ≡ true) m.shown.policies old.old (numbered-all m.shown.policies) old.here))
      | inr new ↦ new
    ]
