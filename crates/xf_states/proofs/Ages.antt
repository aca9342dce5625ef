-- The table at a later time.
use Rattle.std.proofs.Common.{arith, ◌≡◌, ◌≢◌, ℕ, ◌<◌, Bool, true, false, cond, not, List, [], ◌∷◌, ◌++◌, length, get_or, map, filter, refl, ap, sym, ◌∙◌, subst}
use Rattle.std.specs.Prelude.{filter_map, option_to_list, zip, Option, None, Some}
use Rattle.std.proofs.lemmas.List.{get_or-map, length-map}
use Rattle.std.proofs.lemmas.List.Kept.{AllPairs-filter}
use Rattle.xf_types.specs.PolicyList.{without}
use Rattle.xf_types.specs.TickRules.{state_ends, state_event, state_later, state_warns, own_part}
use Rattle.xf_types.specs.OneState.{dying_if}
use Rattle.xf_held.specs.View.{HeldView}
use Rattle.xf_states.specs.Table.{TableView, table_of, table_later, held_later, pair_of}
use Rattle.xf_states.proofs.Tables.{AreApart}

-- the states beside their own parts are what is held
zip-held : (hs : List HeldView) → zip (map (λ (h : HeldView). h.state) hs) (map (λ (h : HeldView). h.own) hs) ≡ map pair_of hs
zip-held [] = refl
zip-held (h ∷ hs) = ap (λ ps. pair_of h ∷ ps) (zip-held hs)

given-both : {Y Z : Type 0} (g : Y → Option Z) (y : Y) (xs ys : List Z) → xs ≡ ys
    → option_to_list (g y) ++ xs ≡ option_to_list (g y) ++ ys
given-both g y xs ys e = ap (λ zs. option_to_list (g y) ++ zs) e

filter_map-cons : {X Z : Type 0} (h : X → Option Z) (x : X) (xs : List X) → filter_map h (x ∷ xs) ≡ option_to_list (h x) ++ filter_map h xs
filter_map-cons {Z = Z} h x xs = go (h x) refl
  where
    go : (o : Option Z) → h x ≡ o → filter_map h (x ∷ xs) ≡ option_to_list o ++ filter_map h xs
    go None e = rw e refl
    go (Some z) e = rw e refl

filter_map-map : {X Y Z : Type 0} (f : X → Y) (g : Y → Option Z) (xs : List X) → filter_map (λ x. g (f x)) xs ≡ filter_map g (map f xs)
filter_map-map f g [] = refl
filter_map-map f g (x ∷ xs) =
    filter_map-cons (λ y. g (f y)) x xs ∙ given-both g (f x) (filter_map (λ y. g (f y)) xs) (filter_map g (map f xs)) (filter_map-map f g xs)
    ∙ sym (filter_map-cons g (f x) (map f xs))

-- what is reported of what is held is what is reported of the states
pub reported-held : (now : ℕ) (hs : List HeldView) (t : TableView) → table_of hs ≡ t
    → filter_map (λ h. state_event now (pair_of h)) hs ≡ filter_map (state_event now) (zip t.states t.own)
reported-held now hs t is_t =
    subst (λ (u : TableView). filter_map (λ (h : HeldView). state_event now (pair_of h)) hs ≡ filter_map (state_event now) (zip u.states u.own)) is_t
    (filter_map-map pair_of (state_event now) hs ∙ ap (filter_map (state_event now)) (sym (zip-held hs)))

filter-map : {X Y : Type 0} (f : X → Y) (p : Y → Bool) (xs : List X) → map f (filter (λ x. p (f x)) xs) ≡ filter p (map f xs)
filter-map f p [] = refl
filter-map f p (x ∷ xs) =
    elim (p (f x)) as (λ b. map f (cond b (x ∷ filter (λ y. p (f y)) xs) (filter (λ y. p (f y)) xs)) ≡ cond b (f x ∷ filter p (map f xs)) (filter p (map f xs)))
    [ true ↦ ap (λ ys. f x ∷ ys) (filter-map f p xs) | false ↦ filter-map f p xs ]

states-later : (now : ℕ) (hs : List HeldView)
    → map (λ (h : HeldView). h.state) (map (held_later now) hs) ≡ map (state_later now) (map pair_of hs)
states-later now [] = refl
states-later now (h ∷ hs) = ap (λ ss. state_later now (pair_of h) ∷ ss) (states-later now hs)

own-later : (now : ℕ) (hs : List HeldView) → map (λ (h : HeldView). h.own) (map (held_later now) hs) ≡ map own_part (map pair_of hs)
own-later now [] = refl
own-later now (h ∷ hs) = ap (λ os. h.own ∷ os) (own-later now hs)

-- those that stay
staying-held : (now : ℕ) (hs : List HeldView)
    → map pair_of (filter (λ h. not (state_ends now (pair_of h))) hs) ≡ without (state_ends now) (zip (map (λ (h : HeldView). h.state) hs) (map (λ (h : HeldView). h.own) hs))
staying-held now hs = filter-map pair_of (λ p. not (state_ends now p)) hs ∙ ap (without (state_ends now)) (sym (zip-held hs))

-- what is held at a later time is the table at that time
pub later-held : (now : ℕ) (hs : List HeldView) (t : TableView) → table_of hs ≡ t
    → table_of (map (held_later now) (filter (λ h. not (state_ends now (pair_of h))) hs)) ≡ table_later now t
later-held now hs t is_t =
    let stay = filter (λ (h : HeldView). not (state_ends now (pair_of h))) hs in
    let states = states-later now stay ∙ ap (map (state_later now)) (staying-held now hs) in
    let own = own-later now stay ∙ ap (map own_part) (staying-held now hs) in
    (λ i. record { states = states i; own = own i }) ∙ ap (table_later now) is_t

-- time keeps the state ids
sid-later : (now : ℕ) (h : HeldView) → (held_later now h).state.sid ≡ h.state.sid
sid-later now h =
    elim (state_warns now (pair_of h)) as (λ b. (dying_if b h.state).sid ≡ h.state.sid) [ true ↦ refl | false ↦ refl ]

AreApart-later : (now : ℕ) (hs : List HeldView) → AreApart hs → AreApart (map (held_later now) hs)
AreApart-later now hs apart i j d less within =
    let inside : j < length hs = subst (λ n. j < n) (length-map hs (held_later now)) within in
    λ e. apart i j d less inside (sym (sid-at i (omega (arith, less, inside))) ∙ e ∙ sid-at j inside)
  where
    sid-at : (k : ℕ) → k < length hs → (get_or (map (held_later now) hs) k d).state.sid ≡ (get_or hs k d).state.sid
    sid-at k inside = ap (λ (h : HeldView). h.state.sid) (get_or-map (held_later now) hs k d d inside) ∙ sid-later now (get_or hs k d)

-- and no two are the same of those that stay
pub AreApart-aged : (now : ℕ) (hs : List HeldView) → AreApart hs
    → AreApart (map (held_later now) (filter (λ h. not (state_ends now (pair_of h))) hs))
AreApart-aged now hs apart =
    AreApart-later now (filter (λ (h : HeldView). not (state_ends now (pair_of h))) hs)
    (AllPairs-filter (λ (x y : HeldView). x.state.sid ≢ y.state.sid) (λ (h : HeldView). not (state_ends now (pair_of h))) hs apart)
