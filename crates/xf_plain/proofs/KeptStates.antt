-- What a machine keeps of its states.
use Rattle.std.proofs.Common.{arith, ◌≡◌, ℕ, zero, suc, ◌+◌, ◌<◌, refl, Bool, true, false, cond, List, ◌∷◌, [], ◌++◌, length, ap, sym, subst, All}
use Rattle.std.specs.Prelude.{None, Some, IfSome, slice_get}
use Rattle.std.proofs.lemmas.List.{length-append, length-map}
use Rattle.std.proofs.lemmas.List.Elements.{All-filter, All-map, All-push, All-weaker}
use Rattle.xf_types.specs.declared.state.Sa.{Sa}
use Rattle.xf_types.specs.declared.state.SaSpec.{SaSpec}
use Rattle.xf_types.specs.declared.call.Reply.{Reply}
use Rattle.xf_types.specs.OneState.{dying_if}
use Rattle.xf_types.specs.PolicyList.{without}
use Rattle.xf_types.specs.StateList.{has_sid, changed}
use Rattle.xf_types.specs.StateRules.{refreshed_record}
use Rattle.xf_types.specs.TrafficRules.{Fate, Same, Ends, Becomes, Treated}
use Rattle.xf_plain.specs.Kept.{AreKeptStates}
use Rattle.xf_states.specs.Table.{TableView, Puts, table_changed, table_put}
use Rattle.xf_plain.proofs.Inserting.{length-without}

-- when some leave
pub kept-without : (leaves : Sa → Bool) (old new : List Sa) (n most : ℕ) → AreKeptStates old n most → new ≡ without leaves old
    → AreKeptStates new n most
kept-without leaves old new n most kept e = record {
  given = subst (All (λ (s : Sa). s.sid < n)) (sym e) (All-filter _ (λ (s : Sa). s.sid < n) old kept.given);
  room = omega (arith, kept.room, ap (length {A = Sa}) e, length-without leaves old);
  few = kept.few;
}

-- when one comes with the next state id, and some leave
pub kept-replaced : (leaves : Sa → Bool) (old new : List Sa) (x : Sa) (n most : ℕ) → AreKeptStates old n most
    → length old < most → x.sid ≡ n → new ≡ without leaves old ++ x ∷ [] → AreKeptStates new (n + 1) most
kept-replaced leaves old new x n most kept room sid e = record {
  given =
      subst (All (λ (s : Sa). s.sid < n + 1)) (sym e)
      (All-push (λ (s : Sa). s.sid < n + 1) (without leaves old) x
      (All-weaker (λ (s : Sa). s.sid < n) (λ (s : Sa). s.sid < n + 1) (λ s less. omega (arith, less)) _
      (All-filter _ (λ (s : Sa). s.sid < n) old kept.given))
      (omega (arith, sid)));
  room =
      omega (arith, room, ap (length {A = Sa}) e, length-append (without leaves old) (x ∷ []), length-without leaves old);
  few = kept.few;
}

-- when one is changed that keeps its state id
pub kept-changed : (sid : ℕ) (change : Sa → Sa) (old new : List Sa) (n most : ℕ) → ((s : Sa) → (change s).sid ≡ s.sid)
    → AreKeptStates old n most → new ≡ changed sid change old → AreKeptStates new n most
kept-changed sid change old new n most same kept e = record {
  given =
      subst (All (λ (s : Sa). s.sid < n)) (sym e)
      (All-map (λ (s : Sa). s.sid < n) (λ s. cond (has_sid sid s) (change s) s) old
      (All-weaker (λ (s : Sa). s.sid < n) (λ (s : Sa). (cond (has_sid sid s) (change s) s).sid < n) less old kept.given));
  room = omega (arith, kept.room, ap (length {A = Sa}) e, length-map old (λ (s : Sa). cond (has_sid sid s) (change s) s));
  few = kept.few;
}
  where
    less : (s : Sa) → s.sid < n → (cond (has_sid sid s) (change s) s).sid < n
    less s h = elim (has_sid sid s) as (λ b. (cond b (change s) s).sid < n) [ true ↦ subst (λ m. m < n) (sym (same s)) h | false ↦ h ]

-- a place in the list has a state
at-none : (states : List Sa) (place : ℕ) → place < length states → slice_get states place ≡ None → ⊥
at-none [] place within none = absurd (omega (arith, within))
at-none (s ∷ states) zero within none = absurd cc
at-none (s ∷ states) (suc place) within none = at-none states place (omega (arith, within)) none

-- what holds of the state at a place
pub at-some : (P : Sa → Type 0) (A : Type 0) (states : List Sa) (place : ℕ) → place < length states → IfSome (slice_get states place) P
    → ((s : Sa) → slice_get states place ≡ Some s → P s → A) → A
at-some P A states place within holds gives =
    elim (slice_get states place) as (λ o. slice_get states place ≡ o → IfSome o P → A) [
      | None ↦ (λ e h. absurd (at-none states place within e))
      | Some s ↦ (λ e h. gives s e h)
    ] refl holds

dying_if-sid : (soft : Bool) (s : Sa) → (dying_if soft s).sid ≡ s.sid
dying_if-sid true s = refl
dying_if-sid false s = refl

-- after the fate of one
kept-put : (fate : Fate) (t : TableView) (s : Sa) (new : List Sa) (n most : ℕ) → AreKeptStates t.states n most
    → new ≡ (table_put t s fate).states → AreKeptStates new n most
kept-put Same t s new n most kept e = subst (λ (ss : List Sa). AreKeptStates ss n most) (sym e) kept
kept-put Ends t s new n most kept e = kept-without (has_sid s.sid) t.states new n most kept e
kept-put (Becomes soft own) t s new n most kept e =
    kept-changed s.sid (dying_if soft) t.states new n most (dying_if-sid soft) kept e

-- after a packet
pub kept-treated : (rule : Sa → Treated) (reply : Reply) (old new : TableView) (place n most : ℕ) → place < length old.states
    → IfSome (slice_get old.states place) (λ s. Puts reply old new s (rule s)) → AreKeptStates old.states n most
    → AreKeptStates new.states n most
kept-treated rule reply old new place n most within puts kept =
    at-some (λ s. Puts reply old new s (rule s)) (AreKeptStates new.states n most) old.states place within puts
    (λ s at put. kept-put (rule s).fate old s new.states n most kept (ap (λ (t : TableView). t.states) put.is_put))

-- after an update
pub kept-refreshed : (spec : SaSpec) (old new : TableView) (place n most : ℕ) → place < length old.states
    → IfSome (slice_get old.states place) (λ s. new ≡ table_changed s.sid (refreshed_record spec) old)
    → AreKeptStates old.states n most → AreKeptStates new.states n most
kept-refreshed spec old new place n most within is kept =
    at-some (λ s. new ≡ table_changed s.sid (refreshed_record spec) old) (AreKeptStates new.states n most) old.states place within is
    (λ s at e. kept-changed s.sid (refreshed_record spec) old.states new.states n most (λ x. refl) kept (ap (λ (t : TableView). t.states) e))
