-- The own part that a state id finds is the one that stands beside the state.
use Rattle.std.proofs.Common.{arith, ◌≡◌, ℕ, ◌<◌, Bool, true, false, ◌||◌, List, [], ◌∷◌, refl, ap, sym, ◌∙◌, cond, All, AllPairs, eqb-true}
use Rattle.std.proofs.lemmas.Bool.{ne_eqb, eq-eqb, true≢false}
use Rattle.std.proofs.lemmas.List.Elements.{All-head, All-tail}
use Rattle.std.specs.List.{AllZip}
use Rattle.xf_types.specs.declared.state.Sa.{Sa}
use Rattle.xf_types.specs.Machine.{Machine, Own}
use Rattle.xf_types.specs.StateList.{has_sid}
use Rattle.xf_types.specs.OwnParts.{new_own, own_of, own_in}
use Rattle.xf_types.specs.IsMachine.{IsMachine, AreOwn}
use Rattle.xf_laws.specs.LeaveLaws.{is_listed}
use Rattle.xf_laws.proofs.ListLemmas.{AllPairs-head, AllPairs-tail}

-- what holds of each state with its own part, and of each state, has what follows from both
pub zip-weaker : (P : Sa → Type 0) (Q R : Sa → Own → Type 0) → ((x : Sa) (o : Own) → P x → Q x o → R x o) → (states : List Sa) (own : List Own)
    → All P states → AllZip Q states own → AllZip R states own
zip-weaker P Q R follows [] [] p q = tt
zip-weaker P Q R follows [] (o ∷ own) p q = absurd q
zip-weaker P Q R follows (x ∷ states) [] p q = absurd q
zip-weaker P Q R follows (x ∷ states) (o ∷ own) p q =
    (follows x o (All-head P x states p) q.0, zip-weaker P Q R follows states own (All-tail P x states p) q.1)

-- the own part is that of the state's id
abbrev pub IsFound : List Sa → List Own → Sa → Own → Type 0
IsFound states own x o = (none : Own) → o ≡ own_of x.sid states own none

-- each stands beside its state
pub zip-found : (states : List Sa) (own : List Own) → AllPairs (λ x y. x.sid ≡ y.sid → ⊥) states → AreOwn states own
    → AllZip (IsFound states own) states own
zip-found [] [] apart h = tt
zip-found [] (o ∷ own) apart h = absurd h
zip-found (x ∷ states) [] apart h = absurd h
zip-found (x ∷ states) (o ∷ own) apart h = (
  λ none. ap (λ (b : Bool). cond b o (own_of x.sid states own none)) (sym (eq-eqb x.sid x.sid refl)),
  zip-weaker (λ y. x.sid ≡ y.sid → ⊥) (IsFound states own) (IsFound (x ∷ states) (o ∷ own))
      (λ y p other found none.
      found none ∙ ap (λ (b : Bool). cond b o (own_of y.sid states own none)) (sym (ne_eqb x.sid y.sid other)))
      states own
      (AllPairs-head (λ (y z : Sa). y.sid ≡ z.sid → ⊥) x states apart)
      (zip-found states own (AllPairs-tail (λ (y z : Sa). y.sid ≡ z.sid → ⊥) x states apart) h.1),
)

-- so it does in a machine of which everything holds
pub own-beside : (m : Machine) → IsMachine m → AllZip (λ x o. o ≡ own_in m x) m.shown.states m.own
own-beside m h =
    zip-weaker (λ x. x.sid < m.shown.next_sid) (IsFound m.shown.states m.own) (λ x o. o ≡ own_in m x)
    (λ x o given found. found (new_own x.spec)) m.shown.states m.own h.shown.states.sids_given
    (zip-found m.shown.states m.own h.shown.states.sids h.own)

-- the own part of a listed state is the one beside it
pub own_of-listed : (sid : ℕ) (v : Own) (states : List Sa) (own : List Own) (none : Own)
    → AllZip (λ x o. x.sid ≡ sid → o ≡ v) states own → is_listed sid states ≡ true → own_of sid states own none ≡ v
own_of-listed sid v [] own none h = λ e. absurd (true≢false (sym e))
own_of-listed sid v (x ∷ states) [] none h = absurd h
own_of-listed sid v (x ∷ states) (o ∷ own) none h =
    elim (has_sid sid x)
    as (λ b. has_sid sid x ≡ b → (b || is_listed sid states) ≡ true → cond b o (own_of sid states own none) ≡ v) [
      | true ↦ λ is e. h.0 (eqb-true x.sid sid is)
      | false ↦ λ is e. own_of-listed sid v states own none h.1 e
    ] refl

-- a state that isn't listed has none
pub own_of-missing : (sid : ℕ) (states : List Sa) (own : List Own) (none : Own) → is_listed sid states ≡ false
    → own_of sid states own none ≡ none
own_of-missing sid [] own none = λ e. refl
own_of-missing sid (x ∷ states) [] none = λ e. refl
own_of-missing sid (x ∷ states) (o ∷ own) none =
    elim (has_sid sid x)
    as (λ b. (b || is_listed sid states) ≡ false → cond b o (own_of sid states own none) ≡ none) [
      | true ↦ λ e. absurd (true≢false e)
      | false ↦ λ e. own_of-missing sid states own none e
    ]

-- the id of a listed state was given
pub listed-given : (sid next : ℕ) (states : List Sa) → All (λ x. x.sid < next) states → is_listed sid states ≡ true → sid < next
listed-given sid next [] given = λ e. absurd (true≢false (sym e))
listed-given sid next (x ∷ states) given =
    elim (has_sid sid x) as (λ b. has_sid sid x ≡ b → (b || is_listed sid states) ≡ true → sid < next) [
      | true ↦ λ is e.
          let same : x.sid ≡ sid = eqb-true x.sid sid is in
          let less : x.sid < next = All-head (λ (y : Sa). y.sid < next) x states given in omega arith
      | false ↦ λ is e. listed-given sid next states (All-tail (λ (y : Sa). y.sid < next) x states given) e
    ] refl
