-- The best of what is held is the best of its states.
use Rattle.std.proofs.Common.{arith, ◌≡◌, ℕ, ◌+◌, ◌<◌, ◌==◌, Bool, true, false, cond, not, ◌&&◌, ◌||◌, List, [], ◌∷◌, ◌++◌, length, get_or, take, map, filter, max, refl, ap, sym, subst, ◌∙◌}
use Rattle.std.specs.Prelude.{Option}
use Rattle.std.specs.List.{list_any}
use Rattle.std.specs.Option.{option_map}
use Rattle.std.specs.Ordering.{ord_max, nat_cmp}
use Rattle.std.proofs.lemmas.Grind.{common_steps}
use Rattle.std.proofs.lemmas.List.{append-nil, get_or-map, length-map}
use Rattle.std.proofs.lemmas.List.Elements.{filter_more}
use Rattle.xf_types.specs.declared.state.Sa.{Sa}
use Rattle.xf_types.specs.PolicyList.{without}
use Rattle.xf_types.specs.StateList.{last_of}
use Rattle.xf_types.specs.Candidates.{preferred, latest_added}
use Rattle.xf_held.specs.View.{HeldView}
use Rattle.xf_held.proofs.Lasts.{last_of-map, last_of-filter}
use Rattle.xf_paths.specs.declared.stage.Stage.{Stage}
use Rattle.xf_paths.specs.Stage.{suits, is_candidate, is_preferred, states_of, latest_preferred, best_at, larval_at}

-- ---- tests over lists

list_any-map : {X Y : Type 0} (f : X → Y) (test : Y → Bool) (xs : List X)
    → list_any test (map f xs) ≡ list_any (λ x. test (f x)) xs
list_any-map f test [] = refl
list_any-map f test (x ∷ xs) = ap (λ b. test (f x) || b) (list_any-map f test xs)

list_any-filter : {X : Type 0} (p q : X → Bool) (xs : List X) → list_any q (filter p xs) ≡ list_any (λ x. p x && q x) xs
list_any-filter p q [] = refl
list_any-filter p q (x ∷ xs) =
    elim (p x)
    as (λ b. list_any q (cond b (x ∷ filter p xs) (filter p xs)) ≡ ((b && q x) || list_any (λ y. p y && q y) xs))
    [ true ↦ ap (λ b. q x || b) (list_any-filter p q xs) | false ↦ list_any-filter p q xs ]

filter-filter : {X : Type 0} (p q : X → Bool) (xs : List X) → filter q (filter p xs) ≡ filter (λ x. p x && q x) xs
filter-filter p q [] = refl
filter-filter p q (x ∷ xs) =
    elim (p x)
    as (λ b. filter q (cond b (x ∷ filter p xs) (filter p xs))
    ≡ cond (b && q x) (x ∷ filter (λ y. p y && q y) xs) (filter (λ y. p y && q y) xs))
    [ true ↦ ap (λ ys. cond (q x) (x ∷ ys) ys) (filter-filter p q xs) | false ↦ filter-filter p q xs ]

filter-and_true : {X : Type 0} (p : X → Bool) (xs : List X) → filter p xs ≡ filter (λ x. p x && true) xs
filter-and_true p [] = refl
filter-and_true p (x ∷ xs) =
    elim (p x)
    as (λ b. cond b (x ∷ filter p xs) (filter p xs)
    ≡ cond (b && true) (x ∷ filter (λ y. p y && true) xs) (filter (λ y. p y && true) xs))
    [ true ↦ ap (λ ys. x ∷ ys) (filter-and_true p xs) | false ↦ filter-and_true p xs ]

-- ---- the best one

-- those that are preferred of those that pass a test
preferred-filter : (p : Sa → Bool) (ss : List Sa)
    → preferred (filter p ss) ≡ filter (λ s. p s && not (list_any (λ x. p x && not x.dying) ss && s.dying)) ss
preferred-filter p ss =
    ap (λ b. cond b (without (λ s. s.dying) (filter p ss)) (filter p ss)) (list_any-filter p (λ s. not s.dying) ss)
    ∙ elim (list_any (λ x. p x && not x.dying) ss)
    as (λ b. cond b (without (λ s. s.dying) (filter p ss)) (filter p ss) ≡ filter (λ s. p s && not (b && s.dying)) ss)
    [ true ↦ filter-filter p (λ s. not s.dying) ss | false ↦ filter-and_true p ss ]

-- where there are living candidates is asked of what is held
preferred-held : (stage : Stage) (hs : List HeldView)
    → preferred (filter (is_candidate stage) (states_of hs))
    ≡ filter (is_preferred stage (list_any (λ h. is_candidate stage h.state && not h.state.dying) hs)) (states_of hs)
preferred-held stage hs =
    preferred-filter (is_candidate stage) (states_of hs)
    ∙ ap (λ b. filter (λ s. is_candidate stage s && not (b && s.dying)) (states_of hs))
    (list_any-map (λ (h : HeldView). h.state) (λ s. is_candidate stage s && not s.dying) hs)

best-last : (stage : Stage) (hs : List HeldView) (living : Bool) (added : ℕ)
    → living ≡ list_any (λ h. is_candidate stage h.state && not h.state.dying) hs
    → added ≡ latest_preferred stage living hs
    → last_of (λ s. s.added == latest_added (preferred (filter (is_candidate stage) (states_of hs))))
    (preferred (filter (is_candidate stage) (states_of hs)))
    ≡ last_of (λ s. s.added == added) (filter (is_preferred stage living) (states_of hs))
best-last stage hs living added is_living is_added =
    ap (λ (ps : List Sa). last_of (λ s. s.added == latest_added ps) ps) (preferred-held stage hs)
    ∙ ap (λ b. last_of (λ (s : Sa). s.added == latest_preferred stage b hs) (filter (is_preferred stage b) (states_of hs))) (sym is_living)
    ∙ ap (λ n. last_of (λ (s : Sa). s.added == n) (filter (is_preferred stage living) (states_of hs))) (sym is_added)

-- the last preferred one with the greatest added time is the best
pub best-found : (stage : Stage) (hs : List HeldView) (living : Bool) (added : ℕ) (o : Option HeldView)
    → living ≡ list_any (λ h. is_candidate stage h.state && not h.state.dying) hs
    → added ≡ latest_preferred stage living hs
    → o ≡ last_of (λ h. is_preferred stage living h.state && (h.state.added == added)) hs
    → option_map (λ h. h.state) o ≡ best_at stage hs
best-found stage hs living added o is_living is_added e =
    ap (option_map (λ (h : HeldView). h.state)) e
    ∙ sym (last_of-map (λ (h : HeldView). h.state) (λ s. is_preferred stage living s && (s.added == added)) hs)
    ∙ sym (last_of-filter (λ (s : Sa). s.added == added) (is_preferred stage living) (states_of hs))
    ∙ sym (best-last stage hs living added is_living is_added)

pub larval-found : (stage : Stage) (hs : List HeldView) (o : Option HeldView)
    → o ≡ last_of (λ h. suits stage h.state && h.state.larval) hs → option_map (λ h. h.state) o ≡ larval_at stage hs
larval-found stage hs o e =
    ap (option_map (λ (h : HeldView). h.state)) e
    ∙ sym (last_of-map (λ (h : HeldView). h.state) (λ s. suits stage s && s.larval) hs)

-- ---- the greatest added time

-- the greater number, as the code's comparison gives it
pub ord_max-is : (a b : ℕ) → ord_max nat_cmp a b ≡ max a b
ord_max-is a b = grind (arith, common_steps)

latest_added-more : (ss : List Sa) (s : Sa) → latest_added (ss ++ s ∷ []) ≡ max (latest_added ss) s.added
latest_added-more [] s = omega arith
latest_added-more (t ∷ ss) s = omega (arith, latest_added-more ss s)

-- the state at a place joins those before it where it passes the test
latest_more : (p : Sa → Bool) (ss : List Sa) (i : ℕ) (s : Sa) → i < length ss → get_or ss i s ≡ s
    → latest_added (filter p (take (i + 1) ss))
    ≡ cond (p s) (max (latest_added (filter p (take i ss))) s.added) (latest_added (filter p (take i ss)))
latest_more p ss i s within at =
    ap latest_added (filter_more p ss i s within)
    ∙ ap (λ (x : Sa). latest_added (filter p (take i ss) ++ cond (p x) (x ∷ []) [])) at
    ∙ elim (p s)
    as (λ b. latest_added (filter p (take i ss) ++ cond b (s ∷ []) [])
    ≡ cond b (max (latest_added (filter p (take i ss))) s.added) (latest_added (filter p (take i ss))))
    [ true ↦ latest_added-more (filter p (take i ss)) s | false ↦ ap latest_added (append-nil (filter p (take i ss))) ]

latest-at : (p : Sa → Bool) (hs : List HeldView) (i : ℕ) (h : HeldView) → i < length hs → h ≡ get_or hs i h
    → latest_added (filter p (take (i + 1) (states_of hs)))
    ≡ cond (p h.state) (max (latest_added (filter p (take i (states_of hs)))) h.state.added)
    (latest_added (filter p (take i (states_of hs))))
latest-at p hs i h within at =
    latest_more p (states_of hs) i h.state (subst (λ n. i < n) (sym (length-map hs (λ (x : HeldView). x.state))) within)
    (get_or-map (λ (x : HeldView). x.state) hs i h h.state within ∙ ap (λ (x : HeldView). x.state) (sym at))

-- the greatest added time after one more state, which passes the test or is passed over
pub latest-counted : (p : Sa → Bool) (hs : List HeldView) (i : ℕ) (h : HeldView) (s : Sa) (old : ℕ) → i < length hs
    → h ≡ get_or hs i h → s ≡ h.state → p s ≡ true → old ≡ latest_added (filter p (take i (states_of hs)))
    → max old s.added ≡ latest_added (filter p (take (i + 1) (states_of hs)))
latest-counted p hs i h s old within at is passes so =
    let before = latest_added (filter p (take i (states_of hs))) in
    ap (λ m. max m s.added) so ∙ ap (λ b. cond b (max before s.added) before) (sym passes)
    ∙ ap (λ (x : Sa). cond (p x) (max before x.added) before) is ∙ sym (latest-at p hs i h within at)

pub latest-passed : (p : Sa → Bool) (hs : List HeldView) (i : ℕ) (h : HeldView) (s : Sa) (old : ℕ) → i < length hs
    → h ≡ get_or hs i h → s ≡ h.state → p s ≡ false → old ≡ latest_added (filter p (take i (states_of hs)))
    → old ≡ latest_added (filter p (take (i + 1) (states_of hs)))
latest-passed p hs i h s old within at is fails so =
    let before = latest_added (filter p (take i (states_of hs))) in
    so ∙ ap (λ b. cond b (max before s.added) before) (sym fails)
    ∙ ap (λ (x : Sa). cond (p x) (max before x.added) before) is ∙ sym (latest-at p hs i h within at)
