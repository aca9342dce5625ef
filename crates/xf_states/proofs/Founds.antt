-- What is found in what is held is what is found in the states.
use Rattle.std.proofs.Common.{◌≡◌, ℕ, suc, ◌+◌, ◌<◌, ◌==◌, Bool, true, false, cond, not, ◌&&◌, ◌||◌, List, [], ◌∷◌, ◌++◌, length, get_or, drop, take, filter, map, refl, ap, sym, ◌∙◌, subst, eqb-true, nat_lt, arith}
use Rattle.std.specs.Prelude.{find, position, IfSome, Option, None, Some, slice_get}
use Rattle.std.specs.List.{list_any, position_or_len}
use Rattle.std.specs.Option.{option_map}
use Rattle.std.proofs.lemmas.Bool.Decides.{nat_tests}
use Rattle.std.proofs.lemmas.List.{append-nil, get_or-map, length-map}
use Rattle.std.proofs.lemmas.List.Elements.{filter_more}
use Rattle.xf_types.specs.declared.state.Sa.{Sa}
use Rattle.xf_types.specs.declared.state.SaId.{SaId}
use Rattle.xf_types.specs.declared.state.SaSpec.{SaSpec}
use Rattle.xf_types.specs.PolicyList.{without}
use Rattle.xf_types.specs.StateList.{last_of, latest_match, larval_replaced, has_id, is_larval_of, is_that}
use Rattle.xf_held.specs.View.{HeldView}
use Rattle.xf_states.specs.Table.{TableView, table_of, state_at}
use Rattle.xf_held.proofs.Lasts.{last_of-map, last_of-filter, last_of-at, last_of-past}

not-zero : (n : ℕ) → (n ≡ 0 → ⊥) → (n == 0) ≡ false
not-zero n some = elim (n == 0) as (λ b. (n == 0) ≡ b → b ≡ false) [ true ↦ (λ e. absurd (some (eqb-true n 0 e))) | false ↦ (λ e. refl) ] refl

pub larval-found : (spec : SaSpec) (hs : List HeldView) (t : TableView) (o : Option HeldView) → table_of hs ≡ t
    → (spec.seq ≡ 0 → ⊥) → o ≡ last_of (λ h. is_larval_of spec h.state) hs
    → option_map (λ h. h.state) o ≡ larval_replaced t.states spec
larval-found spec hs t o is_t asked e =
    subst (λ (u : TableView). option_map (λ (h : HeldView). h.state) o ≡ larval_replaced u.states spec) is_t
    (ap (option_map (λ (h : HeldView). h.state)) e ∙ sym (last_of-map (λ (h : HeldView). h.state) (is_larval_of spec) hs)
    ∙ ap (λ b. cond b None (last_of (is_larval_of spec) (map (λ (h : HeldView). h.state) hs))) (sym (not-zero spec.seq asked)))

pub latest_but-found : (one : Option Sa) (id : SaId) (hs : List HeldView) (t : TableView) (o : Option HeldView) → table_of hs ≡ t
    → o ≡ last_of (λ h. not (is_that one h.state) && has_id id h.state) hs
    → option_map (λ h. h.state) o ≡ latest_match (without (is_that one) t.states) id
latest_but-found one id hs t o is_t e =
    subst (λ (u : TableView). option_map (λ (h : HeldView). h.state) o ≡ latest_match (without (is_that one) u.states) id) is_t
    (ap (option_map (λ (h : HeldView). h.state)) e
    ∙ sym (last_of-map (λ (h : HeldView). h.state) (λ s. not (is_that one s) && has_id id s) hs)
    ∙ sym (last_of-filter (has_id id) (λ s. not (is_that one s)) (map (λ (h : HeldView). h.state) hs)))

-- what is at a place of the states
at-place : (test : Sa → Bool) (b : Bool) (hs : List HeldView) (p : ℕ) (h : HeldView) → p < length hs → h ≡ get_or hs p h
    → test h.state ≡ b → test (get_or (map (λ (x : HeldView). x.state) hs) p h.state) ≡ b
at-place test b hs p h within at passes =
    ap test (get_or-map (λ (x : HeldView). x.state) hs p h h.state within ∙ ap (λ (x : HeldView). x.state) (sym at)) ∙ passes

-- the states are as many as what is held
pub states-within : (hs : List HeldView) (t : TableView) (p : ℕ) → table_of hs ≡ t → p < length t.states → p < length hs
states-within hs t p is_t within =
    subst (λ n. p < n) (length-map hs (λ (h : HeldView). h.state)) (subst (λ (u : TableView). p < length u.states) (sym is_t) within)

pub place-found : (id : SaId) (hs : List HeldView) (t : TableView) (p : ℕ) (h : HeldView) → table_of hs ≡ t
    → p < length t.states → last_of (has_id id) (drop (suc p) t.states) ≡ None → h ≡ get_or hs p h → has_id id h.state ≡ true
    → slice_get t.states p ≡ latest_match t.states id
place-found id hs t p h is_t within none at passes =
    sym (last_of-at (has_id id) t.states p h.state within none
    (subst (λ (u : TableView). has_id id (get_or u.states p h.state) ≡ true) is_t (at-place (has_id id) true hs p h (states-within hs t p is_t within) at passes)))

pub place-past : (id : SaId) (hs : List HeldView) (t : TableView) (p : ℕ) (h : HeldView) → table_of hs ≡ t
    → p < length t.states → last_of (has_id id) (drop (suc p) t.states) ≡ None → h ≡ get_or hs p h → has_id id h.state ≡ false
    → last_of (has_id id) (drop p t.states) ≡ None
place-past id hs t p h is_t within none at fails =
    last_of-past (has_id id) t.states p h.state within none
    (subst (λ (u : TableView). has_id id (get_or u.states p h.state) ≡ false) is_t (at-place (has_id id) false hs p h (states-within hs t p is_t within) at fails))

-- what a filter leaves of one state more
pub listed-more : (test : Sa → Bool) (hs : List HeldView) (t : TableView) (i : ℕ) (h : HeldView) → table_of hs ≡ t → i < length hs
    → h ≡ get_or hs i h → filter test (take (i + 1) t.states) ≡ filter test (take i t.states) ++ cond (test h.state) (h.state ∷ []) []
listed-more test hs t i h is_t within at =
    let there : get_or (map (λ (x : HeldView). x.state) hs) i h.state ≡ h.state =
    get_or-map (λ (x : HeldView). x.state) hs i h h.state within ∙ ap (λ (x : HeldView). x.state) (sym at)
    in
    subst (λ (u : TableView). filter test (take (i + 1) u.states) ≡ filter test (take i u.states) ++ cond (test h.state) (h.state ∷ []) []) is_t
    (filter_more test (map (λ (x : HeldView). x.state) hs) i h.state (subst (λ n. i < n) (sym (length-map hs (λ (x : HeldView). x.state))) within)
    ∙ ap (λ (s : Sa). filter test (take i (map (λ (x : HeldView). x.state) hs)) ++ cond (test s) (s ∷ []) []) there)

-- the same, where the state passes and was pushed, or was passed over
pub listed-pushed : (test : Sa → Bool) (hs : List HeldView) (t : TableView) (i : ℕ) (h : HeldView) (s : Sa) (old : List Sa) → table_of hs ≡ t
    → i < length hs → h ≡ get_or hs i h → s ≡ h.state → test s ≡ true → old ≡ filter test (take i t.states)
    → old ++ s ∷ [] ≡ filter test (take (i + 1) t.states)
listed-pushed test hs t i h s old is_t within at is passes so =
    ap (λ ss. ss ++ s ∷ []) so ∙ ap (λ b. filter test (take i t.states) ++ cond b (s ∷ []) []) (sym passes)
    ∙ ap (λ (x : Sa). filter test (take i t.states) ++ cond (test x) (x ∷ []) []) is ∙ sym (listed-more test hs t i h is_t within at)

pub listed-passed : (test : Sa → Bool) (hs : List HeldView) (t : TableView) (i : ℕ) (h : HeldView) (s : Sa) (old : List Sa) → table_of hs ≡ t
    → i < length hs → h ≡ get_or hs i h → s ≡ h.state → test s ≡ false → old ≡ filter test (take i t.states)
    → old ≡ filter test (take (i + 1) t.states)
listed-passed test hs t i h s old is_t within at is fails so =
    so ∙ sym (append-nil (filter test (take i t.states)))
    ∙ ap (λ b. filter test (take i t.states) ++ cond b (s ∷ []) []) (sym fails)
    ∙ ap (λ (x : Sa). filter test (take i t.states) ++ cond (test x) (x ∷ []) []) is ∙ sym (listed-more test hs t i h is_t within at)

-- a test of the states, asked of what is held
any-states : (test : Sa → Bool) (hs : List HeldView) → list_any (λ h. test h.state) hs ≡ list_any test (map (λ (h : HeldView). h.state) hs)
any-states test [] = refl
any-states test (h ∷ hs) = ap (λ b. test h.state || b) (any-states test hs)

pub any-held : (test : Sa → Bool) (hs : List HeldView) (t : TableView) → table_of hs ≡ t → list_any (λ h. test h.state) hs ≡ list_any test t.states
any-held test hs t is_t =
    subst (λ (u : TableView). list_any (λ (h : HeldView). test h.state) hs ≡ list_any test u.states) is_t (any-states test hs)

-- ---- the first one

pub later-place : (a b : ℕ) → nat_lt (1 + a) (suc b) ≡ nat_lt a b
later-place a b = grind (arith, nat_tests)

pub first-place : (n : ℕ) → nat_lt 0 (suc n) ≡ true
first-place n = grind (arith, nat_tests)

behind-one : (n : ℕ) → 1 + n ≡ suc n
behind-one n = omega arith

-- the state at the place of the first one that passes is the first state that passes
pub first-found : (test : Sa → Bool) (hs : List HeldView)
    → state_at (map (λ (h : HeldView). h.state) hs) (position (λ h. test h.state) hs) ≡ find test (map (λ (h : HeldView). h.state) hs)
first-found test [] = refl
first-found test (h ∷ hs) = by (test h.state) (first-found test hs)
  where
    states : List Sa
    states = map (λ (x : HeldView). x.state) hs

    place : ℕ
    place = position_or_len (λ (x : HeldView). test x.state) hs

    by : (b : Bool) → state_at states (cond (nat_lt place (length hs)) (Some place) None) ≡ find test states
        → state_at (h.state ∷ states) (cond (nat_lt (cond (not b) (1 + place) 0) (suc (length hs))) (Some (cond (not b) (1 + place) 0)) None) ≡ cond b (Some h.state) (find test states)
    by true rest = ap (λ c. state_at (h.state ∷ states) (cond c (Some 0) None)) (first-place (length hs))
    by false rest =
        ap (λ c. state_at (h.state ∷ states) (cond c (Some (1 + place)) None)) (later-place place (length hs))
        ∙ later (nat_lt place (length hs)) ∙ rest
      where
        later : (c : Bool) → state_at (h.state ∷ states) (cond c (Some (1 + place)) None) ≡ state_at states (cond c (Some place) None)
        later true = ap (slice_get (h.state ∷ states)) (behind-one place)
        later false = refl

-- which is within the list
pub first-within : (test : HeldView → Bool) (hs : List HeldView) (t : TableView) → table_of hs ≡ t
    → IfSome (position test hs) (λ place. place < length t.states)
first-within test hs t is_t =
    subst (λ (u : TableView). IfSome (position test hs) (λ place. place < length u.states)) is_t
    (subst (λ n. IfSome (position test hs) (λ place. place < n)) (sym (length-map hs (λ (h : HeldView). h.state)))
    (by (nat_lt place (length hs)) refl))
  where
    place : ℕ
    place = position_or_len test hs

    by : (b : Bool) → nat_lt place (length hs) ≡ b → IfSome (cond b (Some place) None) (λ p. p < length hs)
    by true e = grind (arith, nat_tests, e)
    by false e = tt
