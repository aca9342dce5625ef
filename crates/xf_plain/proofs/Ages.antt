-- What the machine keeps at a later time.
use Rattle.std.proofs.Common.{arith, ◌≡◌, ℕ, ◌<◌, ◌≤◌, true, false, List, [], ◌∷◌, length, map, refl, ap, sym, subst, All}
use Rattle.std.specs.Prelude.{zip}
use Rattle.std.proofs.lemmas.List.{length-map}
use Rattle.std.proofs.lemmas.List.Elements.{All-nil, All-cons, All-head, All-tail, All-filter, All-map, All-weaker}
use Rattle.xf_types.specs.declared.policy.Policy.{Policy}
use Rattle.xf_types.specs.declared.state.Sa.{Sa}
use Rattle.xf_types.specs.Machine.{Own}
use Rattle.xf_types.specs.PolicyList.{without}
use Rattle.xf_types.specs.TickRules.{policy_ends, policy_later, state_ends, state_later, state_warns}
use Rattle.xf_types.specs.OneState.{dying_if}
use Rattle.xf_states.specs.Table.{TableView, table_later}
use Rattle.xf_plain.specs.Kept.{IsKept, AreKeptStates}
use Rattle.xf_plain.proofs.Inserting.{length-without}

All-zip : {X Y : Type 0} (P : X → Type 0) (xs : List X) (ys : List Y) → All P xs → All (λ (p : X × Y). P p.0) (zip xs ys)
All-zip P [] ys h = All-nil (λ p. P p.0)
All-zip P (x ∷ xs) [] h = All-nil (λ p. P p.0)
All-zip P (x ∷ xs) (y ∷ ys) h = All-cons (λ p. P p.0) (x, y) (zip xs ys) (All-head P x xs h) (All-zip P xs ys (All-tail P x xs h))

length-zip-le : {X Y : Type 0} (xs : List X) (ys : List Y) → length (zip xs ys) ≤ length xs
length-zip-le [] ys = omega arith
length-zip-le (x ∷ xs) [] = omega arith
length-zip-le (x ∷ xs) (y ∷ ys) = omega (arith, length-zip-le xs ys)

later-sid : (now : ℕ) (p : Sa × Own) → (state_later now p).sid ≡ p.0.sid
later-sid now p = elim (state_warns now p) as (λ b. (dying_if b p.0).sid ≡ p.0.sid) [ true ↦ refl | false ↦ refl ]

pub kept-later : (now : ℕ) (t : TableView) (new : List Sa) (n most : ℕ) → AreKeptStates t.states n most
    → new ≡ (table_later now t).states → AreKeptStates new n most
kept-later now t new n most kept e =
    let stay = without (state_ends now) (zip t.states t.own) in
    record {
      given =
          subst (All (λ (s : Sa). s.sid < n)) (sym e)
          (All-map (λ (s : Sa). s.sid < n) (state_later now) stay
          (All-weaker (λ (p : Sa × Own). p.0.sid < n) (λ (p : Sa × Own). (state_later now p).sid < n)
          (λ p less. subst (λ m. m < n) (sym (later-sid now p)) less) stay
          (All-filter _ (λ (p : Sa × Own). p.0.sid < n) (zip t.states t.own) (All-zip (λ (s : Sa). s.sid < n) t.states t.own kept.given))));
      room =
          omega (
            arith,
            kept.room,
            ap (length {A = Sa}) e,
            length-map stay (state_later now),
            length-without (state_ends now) (zip t.states t.own),
            length-zip-le t.states t.own,
          );
      few = kept.few;
    }

pub IsKept-later : (now : ℕ) (old new : List Policy) (next_index max_policies : ℕ) → IsKept old next_index max_policies
    → new ≡ map (policy_later now) (without (policy_ends now) old) → IsKept new next_index max_policies
IsKept-later now old new next_index max_policies kept e =
    let stay = without (policy_ends now) old in
    record {
      index_low = kept.index_low;
      index_high = kept.index_high;
      room = omega (arith, kept.room, ap (length {A = Policy}) e, length-map stay (policy_later now), length-without (policy_ends now) old);
      few = kept.few;
    }
