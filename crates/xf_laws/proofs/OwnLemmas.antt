-- Own parts follow their states.
use Rattle.std.proofs.Common.{arith, ◌≡◌, ◌+◌, Bool, true, false, List, [], ◌∷◌, ◌++◌, length, refl, ap, sym, ◌∙◌, cond}
use Rattle.std.specs.Prelude.{None, Some, not, zip}
use Rattle.std.proofs.lemmas.List.{length_push}
use Rattle.xf_types.specs.declared.state.Sa.{Sa}
use Rattle.xf_types.specs.Machine.{Machine, Shown, Own}
use Rattle.xf_types.specs.PolicyList.{without}
use Rattle.xf_types.specs.OwnParts.{own_without, new_own}
use Rattle.xf_types.specs.Changes.{NewState, LeaveThen, machine_after}
use Rattle.xf_types.specs.TickRules.{with_own}
use Rattle.xf_types.specs.StateList.{has_sid}
use Rattle.xf_types.specs.TrafficRules.{Ends}
use Rattle.xf_types.specs.OneState.{put_back}
use Rattle.xf_laws.specs.OwnLaws.{added_record}

-- beside no own parts there are none
zip-none : {X Y : Type 0} (xs : List X) → zip {K = X} {X = Y} xs [] ≡ []
zip-none [] = refl
zip-none (x ∷ xs) = refl

-- those that are left are beside their own parts
zip-without : (leaves : Sa → Bool) (ss : List Sa) (os : List Own)
    → zip (without leaves ss) (own_without leaves ss os) ≡ without (λ x. leaves x.0) (zip ss os)
zip-without leaves [] os = refl
zip-without leaves (s ∷ ss) [] = zip-none (without leaves (s ∷ ss))
zip-without leaves (s ∷ ss) (o ∷ os) =
    elim (leaves s)
    as (λ b. zip (cond (not b) (s ∷ without leaves ss) (without leaves ss)) (cond b (own_without leaves ss os) (o ∷ own_without leaves ss os))
    ≡ cond (not b) ((s, o) ∷ without (λ x. leaves x.0) (zip ss os)) (without (λ x. leaves x.0) (zip ss os))) [
      | true ↦ zip-without leaves ss os
      | false ↦ ap (λ xs. (s, o) ∷ xs) (zip-without leaves ss os)
    ]

-- one more beside its own part
zip-push : (ss : List Sa) (os : List Own) (s : Sa) (o : Own) → length ss ≡ length os
    → zip (ss ++ s ∷ []) (os ++ o ∷ []) ≡ zip ss os ++ (s, o) ∷ []
zip-push [] [] s o = λ h. refl
zip-push [] (p ∷ os) s o = λ h. absurd (omega arith)
zip-push (x ∷ ss) [] s o = λ h. absurd (omega arith)
zip-push (x ∷ ss) (p ∷ os) s o = λ h. ap (λ xs. (x, p) ∷ xs) (zip-push ss os s o (omega arith))

-- as many are left of both
length-without : (leaves : Sa → Bool) (ss : List Sa) (os : List Own) → length ss ≡ length os
    → length (without leaves ss) ≡ length (own_without leaves ss os)
length-without leaves [] os = λ h. refl
length-without leaves (s ∷ ss) [] = λ h. absurd (omega arith)
length-without leaves (s ∷ ss) (o ∷ os) = λ h.
    let rest = length-without leaves ss os (omega arith) in
    elim (leaves s)
    as (λ b. length (cond (not b) (s ∷ without leaves ss) (without leaves ss)) ≡ length (cond b (own_without leaves ss os) (o ∷ own_without leaves ss os)))
    [ true ↦ rest | false ↦ omega arith ]

-- states leave with their own parts
pub own-leave : (m : Machine) (s : Shown) (leaves : Sa → Bool) → s.states ≡ m.shown.states
    → with_own (machine_after m (LeaveThen s leaves None)) ≡ without (λ x. leaves x.0) (with_own m)
own-leave m s leaves e =
    ap (λ ss. zip (without leaves ss) (own_without leaves m.shown.states m.own)) e ∙ zip-without leaves m.shown.states m.own

-- and one is added with its own
pub own-added : (m : Machine) (s : Shown) (leaves : Sa → Bool) (new : NewState) → s.states ≡ m.shown.states
    → length m.shown.states ≡ length m.own
    → with_own (machine_after m (LeaveThen s leaves (Some new)))
    ≡ without (λ x. leaves x.0) (with_own m) ++ (added_record s new, new_own new.spec) ∷ []
own-added m s leaves new e h =
    ap (λ ss. zip (without leaves ss ++ added_record s new ∷ []) (own_without leaves m.shown.states m.own ++ new_own new.spec ∷ [])) e
    ∙ zip-push (without leaves m.shown.states) (own_without leaves m.shown.states m.own) (added_record s new) (new_own new.spec)
    (length-without leaves m.shown.states m.own h)
    ∙ ap (λ xs. xs ++ (added_record s new, new_own new.spec) ∷ []) (zip-without leaves m.shown.states m.own)

-- where states leave, lengths stay equal
pub lengths-left : (m : Machine) (s : Shown) (leaves : Sa → Bool) → s.states ≡ m.shown.states → length m.shown.states ≡ length m.own
    → length (machine_after m (LeaveThen s leaves None)).shown.states ≡ length (machine_after m (LeaveThen s leaves None)).own
lengths-left m s leaves e h = ap (λ ss. length (without leaves ss)) e ∙ length-without leaves m.shown.states m.own h

-- and where one is added
pub lengths-added : (m : Machine) (s : Shown) (leaves : Sa → Bool) (new : NewState) → s.states ≡ m.shown.states
    → length m.shown.states ≡ length m.own
    → length (machine_after m (LeaveThen s leaves (Some new))).shown.states ≡ length (machine_after m (LeaveThen s leaves (Some new))).own
lengths-added m s leaves new e h =
    length_push (without leaves s.states) (added_record s new)
    ∙ ap (λ n. n + 1) (lengths-left m s leaves e h)
    ∙ sym (length_push (own_without leaves m.shown.states m.own) (new_own new.spec))

-- a state that ends leaves with its own part
pub own-ended : (m : Machine) (x : Sa) → with_own (put_back m x Ends) ≡ without (λ y. has_sid x.sid y.0) (with_own m)
own-ended m x = zip-without (has_sid x.sid) m.shown.states m.own
