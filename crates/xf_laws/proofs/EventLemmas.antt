-- What the events of a tick say of each policy and of each state.
use Rattle.std.proofs.Common.{ℕ, ◌≡◌, Bool, true, false, not, ◌&&◌, ◌||◌, ◌==◌, List, [], ◌∷◌, ◌++◌, get_or, refl, ap, sym, ◌∙◌, cond, Option, None, Some, All, AllPairs, filter_map, inl, inr, ne_eqb, eq-eqb}
use Rattle.std.proofs.lemmas.Bool.{and_left, and_right, and_from, cases_order, cases_Bool}
use Rattle.std.proofs.lemmas.List.Folds.{list_any_at, list_any_none, list_any-append}
use Rattle.std.proofs.Math.Bool.{and-true, and-false, or-false}
use Rattle.std.proofs.lemmas.List.{get_or_default}
use Rattle.std.specs.List.{list_any, cons_option}
use Rattle.xf_types.specs.declared.policy.Policy.{Policy}
use Rattle.xf_types.specs.declared.state.Sa.{Sa}
use Rattle.xf_types.specs.declared.call.Event.{Event}
use Rattle.xf_types.specs.declared.call.Event.TheVariants.{PolicySoft, PolicyExpired, StateSoft, StateExpired}
use Rattle.xf_types.specs.Machine.{Own}
use Rattle.xf_types.specs.Lifetime.{is_time_met}
use Rattle.xf_types.specs.TickRules.{policy_ends, policy_warns, policy_event, state_ends, state_warns, state_event}
use Rattle.xf_types.specs.Moves.{ends_policy, warns_policy, ends_state, warns_state}

-- an event, if there is one, passes the test
abbrev hits : (Event → Bool) → Option Event → Bool
hits test None = false
hits test (Some e) = test e

-- some event of the list passes where that of some element does
any-event : {X : Type 0} (event : X → Option Event) (test : Event → Bool) (xs : List X)
    → list_any test (filter_map event xs) ≡ list_any (λ x. hits test (event x)) xs
any-event event test [] = refl
any-event {X} event test (x ∷ xs) =
    let rest : Bool = list_any (λ (y : X). hits test (event y)) xs in
    elim (event x) as (λ o. list_any test (cons_option o (filter_map event xs)) ≡ (hits test o || rest)) [
      | None ↦ any-event event test xs
      | Some e ↦ ap (λ b. test e || b) (any-event event test xs)
    ]

-- where each element's event passes for its own key alone, some event passes for a key where its element says so
pub any-says : {X : Type 0} (key : X → ℕ) (event : X → Option Event) (asks : ℕ → Event → Bool) (says : X → Bool)
    → ((x : X) (i : ℕ) → hits (asks i) (event x) ≡ ((key x == i) && says x)) → (xs : List X)
    → AllPairs (λ x y. key x ≡ key y → ⊥) xs → All (λ x. list_any (asks (key x)) (filter_map event xs) ≡ says x) xs
any-says {X} key event asks says tells xs apart k d within =
    let x : X = get_or xs k d in
    let hit : X → Bool = λ y. hits (asks (key x)) (event y) in
    any-event event (asks (key x)) xs
    ∙ elim (cases_Bool (says x)) [
      | inl now_true ↦
          list_any_at hit xs k d within (tells x (key x) ∙ and_from (key x == key x) (says x) (eq-eqb (key x) (key x) refl) now_true) ∙ sym now_true
      | inr never ↦
          list_any_none hit xs
          (λ j e lt.
          tells (get_or xs j e) (key x)
          ∙ elim (cases_order j k) [
            | inl same ↦
                (let at : get_or xs j e ≡ x = ap (λ (n : ℕ). get_or xs n e) same ∙ get_or_default xs k e d within in
                and_right (key (get_or xs j e) == key x) (says (get_or xs j e)) (ap says at ∙ never))
            | inr other ↦
                and_left (key (get_or xs j e) == key x) (says (get_or xs j e))
                (ne_eqb (key (get_or xs j e)) (key x)
                (elim other [
                  | inl before ↦ λ is. apart j k e before within (is ∙ ap key (get_or_default xs k d e within))
                  | inr behind ↦ λ is. apart k j d behind lt (ap key (get_or_default xs k d d within) ∙ sym is ∙ ap key (get_or_default xs j e d lt))
                ]))
          ])
          ∙ sym never
    ]

-- where none passes, no event of the list does
none-says : {X : Type 0} (event : X → Option Event) (test : Event → Bool) → ((x : X) → hits test (event x) ≡ false) → (xs : List X)
    → list_any test (filter_map event xs) ≡ false
none-says event test none xs = any-event event test xs ∙ list_any_none (λ x. hits test (event x)) xs (λ k d within. none (get_or xs k d))

-- the event of a policy, by what it is asked for and by whether the policy ends and warns
policy-ended : (index i : ℕ) (ends warns : Bool)
    → hits (ends_policy i) (cond ends (Some (PolicyExpired index)) (cond warns (Some (PolicySoft index)) None)) ≡ ((index == i) && ends)
policy-ended index i true warns = sym (and-true (index == i))
policy-ended index i false true = sym (and-false (index == i))
policy-ended index i false false = sym (and-false (index == i))

-- and by whether it warns: it does not end, is not soft yet, and its soft limit is met
policy-warned : (index i : ℕ) (ends young met : Bool)
    → hits (warns_policy i)
    (cond ends (Some (PolicyExpired index)) (cond ((not ends && young) && met) (Some (PolicySoft index)) None))
    ≡ ((index == i) && ((not ends && young) && met))
policy-warned index i true young met = sym (and-false (index == i))
policy-warned index i false true true = sym (and-true (index == i))
policy-warned index i false true false = sym (and-false (index == i))
policy-warned index i false false met = sym (and-false (index == i))

-- it is none of a state's
policy-not-state : (index i : ℕ) (ends warns : Bool)
    → (hits (ends_state i) (cond ends (Some (PolicyExpired index)) (cond warns (Some (PolicySoft index)) None)) ≡ false)
    × (hits (warns_state i) (cond ends (Some (PolicyExpired index)) (cond warns (Some (PolicySoft index)) None)) ≡ false)
policy-not-state index i true warns = (refl, refl)
policy-not-state index i false true = (refl, refl)
policy-not-state index i false false = (refl, refl)

-- the event of a state
state-ended : (sid i : ℕ) (ends warns : Bool)
    → hits (ends_state i) (cond ends (Some (StateExpired sid)) (cond warns (Some (StateSoft sid)) None)) ≡ ((sid == i) && ends)
state-ended sid i true warns = sym (and-true (sid == i))
state-ended sid i false true = sym (and-false (sid == i))
state-ended sid i false false = sym (and-false (sid == i))

-- and by whether the state warns
state-warned : (sid i : ℕ) (ends warns : Bool)
    → hits (warns_state i) (cond ends (Some (StateExpired sid)) (cond warns (Some (StateSoft sid)) None))
    ≡ ((sid == i) && (not ends && warns))
state-warned sid i true warns = sym (and-false (sid == i))
state-warned sid i false true = sym (and-true (sid == i))
state-warned sid i false false = sym (and-false (sid == i))

-- it is none of a policy's
state-not-policy : (sid i : ℕ) (ends warns : Bool)
    → (hits (ends_policy i) (cond ends (Some (StateExpired sid)) (cond warns (Some (StateSoft sid)) None)) ≡ false)
    × (hits (warns_policy i) (cond ends (Some (StateExpired sid)) (cond warns (Some (StateSoft sid)) None)) ≡ false)
state-not-policy sid i true warns = (refl, refl)
state-not-policy sid i false true = (refl, refl)
state-not-policy sid i false false = (refl, refl)

module _ (time : ℕ) (policies : List Policy) (pairs : List (Sa × Own)) where
  -- the events of the tick
  abbrev pub events : List Event
  events = filter_map (policy_event time) policies ++ filter_map (state_event time) pairs

  -- the first events alone say what a policy does
  of-policies : (test : Event → Bool) → ((z : Sa × Own) → hits test (state_event time z) ≡ false)
      → list_any test events ≡ list_any test (filter_map (policy_event time) policies)
  of-policies test none =
      list_any-append test (filter_map (policy_event time) policies) (filter_map (state_event time) pairs)
      ∙ ap (λ b. list_any test (filter_map (policy_event time) policies) || b) (none-says (state_event time) test none pairs)
      ∙ or-false (list_any test (filter_map (policy_event time) policies))

  -- and the last ones what a state does
  of-states : (test : Event → Bool) → ((p : Policy) → hits test (policy_event time p) ≡ false)
      → list_any test events ≡ list_any test (filter_map (state_event time) pairs)
  of-states test none =
      list_any-append test (filter_map (policy_event time) policies) (filter_map (state_event time) pairs)
      ∙ ap (λ b. b || list_any test (filter_map (state_event time) pairs)) (none-says (policy_event time) test none policies)

  -- a policy ends where an event says so
  pub policies-end : AllPairs (λ p q. p.index ≡ q.index → ⊥) policies
      → All (λ p. policy_ends time p ≡ list_any (ends_policy p.index) events) policies
  policies-end apart k d within =
      let p : Policy = get_or policies k d in
      sym
      (of-policies (ends_policy p.index) (λ z. (state-not-policy z.0.sid p.index (state_ends time z) (state_warns time z)).0)
      ∙ any-says (λ (q : Policy). q.index) (policy_event time) ends_policy (policy_ends time)
      (λ q i. policy-ended q.index i (policy_ends time q) (policy_warns time q)) policies apart k d within)

  -- and warns where one does
  pub policies-warn : AllPairs (λ p q. p.index ≡ q.index → ⊥) policies
      → All (λ p. policy_warns time p ≡ list_any (warns_policy p.index) events) policies
  policies-warn apart k d within =
      let p : Policy = get_or policies k d in
      sym
      (of-policies (warns_policy p.index) (λ z. (state-not-policy z.0.sid p.index (state_ends time z) (state_warns time z)).1)
      ∙ any-says (λ (q : Policy). q.index) (policy_event time) warns_policy (policy_warns time)
      (λ q i. policy-warned q.index i (policy_ends time q) (not q.soft) (is_time_met q.spec.limits.time_soft q.added time))
      policies apart k d within)

  -- a state ends where an event says so
  pub states-end : AllPairs (λ z w. z.0.sid ≡ w.0.sid → ⊥) pairs
      → All (λ z. state_ends time z ≡ list_any (ends_state z.0.sid) events) pairs
  states-end apart k d within =
      let z : Sa × Own = get_or pairs k d in
      sym
      (of-states (ends_state z.0.sid) (λ p. (policy-not-state p.index z.0.sid (policy_ends time p) (policy_warns time p)).0)
      ∙ any-says (λ (w : Sa × Own). w.0.sid) (state_event time) ends_state (state_ends time)
      (λ w i. state-ended w.0.sid i (state_ends time w) (state_warns time w)) pairs apart k d within)

  -- and of those that don't end one warns where an event says so
  pub states-warn : AllPairs (λ z w. z.0.sid ≡ w.0.sid → ⊥) pairs
      → All (λ z. (not (state_ends time z) && state_warns time z) ≡ list_any (warns_state z.0.sid) events) pairs
  states-warn apart k d within =
      let z : Sa × Own = get_or pairs k d in
      sym
      (of-states (warns_state z.0.sid) (λ p. (policy-not-state p.index z.0.sid (policy_ends time p) (policy_warns time p)).1)
      ∙ any-says (λ (w : Sa × Own). w.0.sid) (state_event time) warns_state (λ w. not (state_ends time w) && state_warns time w)
      (λ w i. state-warned w.0.sid i (state_ends time w) (state_warns time w)) pairs apart k d within)
