-- The values of rows that leave, come and change.
use Rattle.std.proofs.Common.{ℕ, ◌≡◌, ◌≢◌, ◌<◌, Bool, true, false, not, List, [], ◌∷◌, ◌++◌, append-nil, length, get_or, refl, ap, sym, ◌∙◌, subst, cond, Option, None, Some, All, eqb-true, eq-eqb, ◌||◌, ◌==◌}
use Rattle.std.proofs.lemmas.Bool.{or_parts, both_ways}
use Rattle.std.proofs.lemmas.List.{get_or-set_same, get_or-set_other, length-set, set-get_or}
use Rattle.std.proofs.lemmas.List.Elements.{All-nil, All-cons, All-head, All-tail, All-append}
use Rattle.xf_types.specs.declared.state.Sa.{Sa}
use Rattle.xf_types.specs.Machine.{Own}
use Rattle.xf_types.specs.PolicyList.{without}
use Rattle.xf_local.specs.View.{LocalView, Dead}
use Rattle.xf_chain.specs.Lists.{Misses}
use Rattle.xf_chain.proofs.Slots.{misses_front, misses_back, misses_more, misses_less}
use Rattle.xf_index.specs.Indexes.{slots_in}
use Rattle.xf_index.proofs.Entries.{slots_append}
use Rattle.xf_rows.specs.Rows.{Row, entries_in, value_of, on_row}
use Rattle.xf_rows.specs.Values.{Beside, Keeps, AreValues, at, value_put}
use Rattle.xf_rows.specs.Changes.{is_slot, TellAlike, AreEnded, ended}
use Rattle.xf_rows.proofs.Lists.{all_front, all_back}

-- ---- values that end

pub ended_count : (b : Beside) (gone : Option ℕ) → length (ended b gone).values ≡ length b.values
ended_count b None = refl
ended_count b (Some slot) = length-set b.values slot Dead

ended_dead : (b : Beside) (gone : Option ℕ) (slot : ℕ) → slot < length b.values → is_slot gone slot ≡ true → at (ended b gone) slot ≡ Dead
ended_dead b None slot = λ within is. absurd cc
ended_dead b (Some one) slot = λ within is.
    let e : slot ≡ one = eqb-true slot one is in
    ap (λ (n : ℕ). get_or (value_put b one Dead).values n Dead) e ∙ get_or-set_same b.values one Dead Dead (subst (λ (n : ℕ). n < length b.values) e within)

ended_other : (b : Beside) (gone : Option ℕ) (slot : ℕ) → is_slot gone slot ≡ false → at (ended b gone) slot ≡ at b slot
ended_other b None slot = λ is. refl
ended_other b (Some one) slot = λ is. get_or-set_other b.values one slot Dead Dead (λ e. let t = eq-eqb slot one e in absurd cc)

ended_held : (b : Beside) (gone : Option ℕ) → (ended b gone).held ≡ b.held
ended_held b None = refl
ended_held b (Some slot) = refl

-- the value of one slot ended
pub one_ended : (b : Beside) (gone : Option ℕ) → AreEnded (is_slot gone) b (ended b gone)
one_ended b gone = record { held = ended_held b gone; count = ended_count b gone; dead = ended_dead b gone; others = ended_other b gone }

-- values end one after another
pub none_ended : (b : Beside) → AreEnded (λ (slot : ℕ). false) b b
none_ended b = record { held = refl; count = refl; dead = λ slot within is. absurd (cc); others = λ slot is. refl }

pub more_ended : (b c : Beside) (gone : ℕ → Bool) (slot : ℕ) → AreEnded gone b c
    → AreEnded (λ (other : ℕ). (other == slot) || gone other) b (value_put c slot Dead)
more_ended b c gone slot end = record {
  held = end.held;
  count = length-set c.values slot Dead ∙ end.count;
  dead = λ other within is.
      elim (other == slot) as (λ t. (other == slot) ≡ t → (t || gone other) ≡ true → at (value_put c slot Dead) other ≡ Dead) [
        | true ↦ λ e w.
            let same : other ≡ slot = eqb-true other slot e in
            ap (λ (n : ℕ). at (value_put c slot Dead) n) same
            ∙ get_or-set_same c.values slot Dead Dead (subst (λ (n : ℕ). n < length c.values) same (subst (λ (n : ℕ). other < n) (sym end.count) within))
        | false ↦ λ e w. get_or-set_other c.values slot other Dead Dead (λ f. let t = eq-eqb other slot f in absurd cc) ∙ end.dead other within w
      ] refl is;
  others = λ other is.
      let parts = or_parts (other == slot) (gone other) is in
      get_or-set_other c.values slot other Dead Dead (λ f. let t = eq-eqb other slot f in absurd (both_ways (other == slot) parts.0 t)) ∙ end.others other parts.1;
}

-- rows that stay keep their values
stay : (time : ℕ) (b c : Beside) (leaves : Sa → Bool) (gone : ℕ → Bool) (rows : List Row) → AreEnded gone b c
    → TellAlike leaves gone (entries_in rows) → All (Keeps time b) rows → All (Keeps time c) (without (on_row leaves) rows)
stay time b c leaves gone [] = λ end alike keeps. All-nil (Keeps time c)
stay time b c leaves gone (r ∷ rows) = λ end alike keeps.
    let this : leaves r.1.0 ≡ gone r.0 = All-head (λ (e : ℕ × Sa). leaves e.1 ≡ gone e.0) (r.0, r.1.0) (entries_in rows) alike in
    let keep : Keeps time b r = All-head (Keeps time b) r rows keeps in
    let rest : All (Keeps time c) (without (on_row leaves) rows) =
    stay time b c leaves gone rows end (All-tail (λ (e : ℕ × Sa). leaves e.1 ≡ gone e.0) (r.0, r.1.0) (entries_in rows) alike) (All-tail (Keeps time b) r rows keeps) in
    elim (leaves r.1.0) as (λ t. leaves r.1.0 ≡ t → All (Keeps time c) (cond (not t) (r ∷ without (on_row leaves) rows) (without (on_row leaves) rows))) [
      | true ↦ λ is. rest
      | false ↦ λ is. All-cons (Keeps time c) r (without (on_row leaves) rows)
          (record { value = λ held. end.others r.0 (sym this ∙ is) ∙ keep.value (ap (λ (f : ℕ → Bool). f r.0) (sym end.held) ∙ held) }) rest
    ] refl

-- a slot that none has that stays, and that doesn't end, none had
missed : (leaves : Sa → Bool) (gone : ℕ → Bool) (slot : ℕ) (rows : List Row) → gone slot ≡ false → TellAlike leaves gone (entries_in rows)
    → Misses slot (slots_in (without (on_row leaves) rows)) → Misses slot (slots_in rows)
missed leaves gone slot [] = λ other alike m. tt
missed leaves gone slot (r ∷ rows) = λ other alike.
    let this : leaves r.1.0 ≡ gone r.0 = All-head (λ (e : ℕ × Sa). leaves e.1 ≡ gone e.0) (r.0, r.1.0) (entries_in rows) alike in
    let rest : Misses slot (slots_in (without (on_row leaves) rows)) → Misses slot (slots_in rows) =
    missed leaves gone slot rows other (All-tail (λ (e : ℕ × Sa). leaves e.1 ≡ gone e.0) (r.0, r.1.0) (entries_in rows) alike) in
    elim (leaves r.1.0) as (λ t. leaves r.1.0 ≡ t → Misses slot (slots_in (cond (not t) (r ∷ without (on_row leaves) rows) (without (on_row leaves) rows))) → Misses slot (slots_in (r ∷ rows))) [
      | true ↦ λ is m. ((λ e. let f : gone slot ≡ true = ap gone e ∙ sym this ∙ is in absurd (cc)), rest m)
      | false ↦ λ is m. (m.0, rest m.1)
    ] refl

-- the values after some rows left
pub left_values : (time : ℕ) (b c : Beside) (leaves : Sa → Bool) (gone : ℕ → Bool) (rows : List Row) → AreEnded gone b c
    → TellAlike leaves gone (entries_in rows) → AreValues b time rows → AreValues c time (without (on_row leaves) rows)
left_values time b c leaves gone rows end alike are = record {
  live = stay time b c leaves gone rows end alike are.live;
  dead = λ slot within held m.
      let w : slot < length b.values = subst (λ (n : ℕ). slot < n) end.count within in
      elim (gone slot) as (λ t. gone slot ≡ t → at c slot ≡ Dead) [
        | true ↦ λ is. end.dead slot w is
        | false ↦ λ is. end.others slot is ∙ are.dead slot w (ap (λ (f : ℕ → Bool). f slot) (sym end.held) ∙ held) (missed leaves gone slot rows is alike m)
      ] refl;
}

-- a slot that no row has, no row has that stays
pub missed_still : (leaves : Sa → Bool) (slot : ℕ) (rows : List Row) → Misses slot (slots_in rows) → Misses slot (slots_in (without (on_row leaves) rows))
missed_still leaves slot [] = λ m. tt
missed_still leaves slot (r ∷ rows) = λ m.
    elim (leaves r.1.0) as (λ t. Misses slot (slots_in (cond (not t) (r ∷ without (on_row leaves) rows) (without (on_row leaves) rows)))) [
      | true ↦ missed_still leaves slot rows m.1
      | false ↦ (m.0, missed_still leaves slot rows m.1)
    ]

-- ---- a value that is put

put_keeps : (time : ℕ) (b : Beside) (slot : ℕ) (v : LocalView) (rows : List Row) → Misses slot (slots_in rows) → All (Keeps time b) rows
    → All (Keeps time (value_put b slot v)) rows
put_keeps time b slot v [] = λ m keeps. All-nil (Keeps time (value_put b slot v))
put_keeps time b slot v (r ∷ rows) = λ m keeps.
    let keep : Keeps time b r = All-head (Keeps time b) r rows keeps in
    All-cons (Keeps time (value_put b slot v)) r rows
    (record { value = λ held. get_or-set_other b.values slot r.0 v Dead (λ e. m.0 (sym e)) ∙ keep.value held })
    (put_keeps time b slot v rows m.1 (All-tail (Keeps time b) r rows keeps))

-- the row of a value that was put
fresh_keeps : (time : ℕ) (b : Beside) (r : Row) → r.0 < length b.values → Keeps time (value_put b r.0 (value_of time r)) r
fresh_keeps time b r within = record { value = λ held. get_or-set_same b.values r.0 (value_of time r) Dead within }

-- the values after a row came between others
pub came_values : (time : ℕ) (b : Beside) (r : Row) (front back : List Row) → r.0 < length b.values → Misses r.0 (slots_in (front ++ back))
    → All (Keeps time b) (front ++ back)
    → ((slot : ℕ) → slot < length b.values → b.held slot ≡ true → slot ≢ r.0 → Misses slot (slots_in (front ++ back)) → at b slot ≡ Dead)
    → AreValues (value_put b r.0 (value_of time r)) time (front ++ (r ∷ back))
came_values time b r front back within m keeps dead =
    let c : Beside = value_put b r.0 (value_of time r) in
    let parts : Misses r.0 (slots_in front ++ slots_in back) = subst (λ (xs : List ℕ). Misses r.0 xs) (slots_append front back) m in
    record {
      live = All-append (Keeps time c) front (r ∷ back)
          (put_keeps time b r.0 (value_of time r) front (misses_front r.0 (slots_in front) (slots_in back) parts) (all_front (Keeps time b) front back keeps))
          (All-cons (Keeps time c) r back (fresh_keeps time b r within)
          (put_keeps time b r.0 (value_of time r) back (misses_back r.0 (slots_in front) (slots_in back) parts) (all_back (Keeps time b) front back keeps)));
      dead = λ slot w held miss.
          let all : Misses slot (slots_in front ++ (r.0 ∷ slots_in back)) = subst (λ (xs : List ℕ). Misses slot xs) (slots_append front (r ∷ back)) miss in
          let fewer : Misses slot (slots_in (front ++ back)) = subst (λ (xs : List ℕ). Misses slot xs) (sym (slots_append front back)) (misses_less slot r.0 (slots_in front) (slots_in back) all) in
          let other : slot ≢ r.0 = (misses_back slot (slots_in front) (r.0 ∷ slots_in back) all).0 in
          let inside : slot < length b.values = subst (λ (n : ℕ). slot < n) (length-set b.values r.0 (value_of time r)) w in
          get_or-set_other b.values r.0 slot (value_of time r) Dead other ∙ dead slot inside held other fewer;
    }

-- the values after a row came last, in a slot that none had
pub last_values : (time : ℕ) (b : Beside) (r : Row) (rows : List Row) → r.0 < length b.values → Misses r.0 (slots_in rows)
    → AreValues b time rows → AreValues (value_put b r.0 (value_of time r)) time (rows ++ (r ∷ []))
last_values time b r rows within m are =
    let same : rows ++ [] ≡ rows = append-nil rows in
    came_values time b r rows [] within (subst (λ (xs : List Row). Misses r.0 (slots_in xs)) (sym same) m)
    (subst (λ (xs : List Row). All (Keeps time b) xs) (sym same) are.live)
    (λ slot w held other miss. are.dead slot w held (subst (λ (xs : List Row). Misses slot (slots_in xs)) same miss))

-- the values after a row is another one in its slot
pub changed_values : (time : ℕ) (b : Beside) (x : Row) (p : Sa × Own) (front back : List Row) → x.0 < length b.values
    → Misses x.0 (slots_in front) → Misses x.0 (slots_in back)
    → AreValues b time (front ++ (x ∷ back)) → AreValues (value_put b x.0 (value_of time (x.0, p))) time (front ++ ((x.0, p) ∷ back))
changed_values time b x p front back within miss more are =
    came_values time b (x.0, p) front back within
    (subst (λ (xs : List ℕ). Misses x.0 xs) (sym (slots_append front back)) (join x.0 (slots_in front) (slots_in back) miss more))
    (All-append (Keeps time b) front back (all_front (Keeps time b) front (x ∷ back) are.live)
    (All-tail (Keeps time b) x back (all_back (Keeps time b) front (x ∷ back) are.live)))
    (λ slot w held other m. are.dead slot w held
    (subst (λ (xs : List ℕ). Misses slot xs) (sym (slots_append front (x ∷ back)))
    (misses_more slot x.0 (slots_in front) (slots_in back) (subst (λ (xs : List ℕ). Misses slot xs) (slots_append front back) m) other)))
  where
    join : (slot : ℕ) (xs ys : List ℕ) → Misses slot xs → Misses slot ys → Misses slot (xs ++ ys)
    join slot [] ys = λ m n. n
    join slot (y ∷ xs) ys = λ m n. (m.0, join slot xs ys m.1 n)

-- a value that is put where it stands changes nothing
pub put_same : (b : Beside) (slot : ℕ) (v : LocalView) → at b slot ≡ v → value_put b slot v ≡ b
put_same b slot v e =
    ap (λ (w : LocalView). value_put b slot w) (sym e) ∙ ap (λ (vs : List LocalView). record { held = b.held; values = vs }) (set-get_or b.values slot Dead)
