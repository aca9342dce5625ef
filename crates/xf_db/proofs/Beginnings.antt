-- A table begins with an image, and its new passes rest.
use Rattle.std.proofs.Common.{◌≡◌, ℕ, zero, suc, ◌+◌, ◌-◌, ◌≤◌, List, [], ◌∷◌, All, length, map, refl, sym, ap, ◌∙◌, subst, arith}
use Rattle.std.proofs.lemmas.List.{length-map}
use Rattle.std.proofs.lemmas.List.Elements.{All-nil, All-cons}
use mathlib.Core.Option.{some}
use lib.ListN.{get_elem?}
use Rattle.xf_types.specs.Standing.{Standing}
use Rattle.xf_local.specs.View.{standing_of}
use Rattle.xf_values.specs.declared.state_value.StateValue.{StateValue}
use Rattle.xf_views.specs.declared.view.View.{View}
use Rattle.xf_views.specs.declared.view.Start.{Start}
use Rattle.xf_seats.specs.Opened.{Opened}
use Rattle.xf_meaning.specs.Marks.{bucket_of}
use Rattle.xf_meaning.specs.Good.{Good}
use Rattle.xf_meaning.specs.Tells.{lists}
use Rattle.xf_meaning.specs.Machines.{machine}
use Rattle.xf_opening.specs.Images.{ImageView, IsAtRest, homes_of, image_in}
use Rattle.xf_opening.specs.Starts.{start_of}
use Rattle.xf_opening.proofs.Images.{rest_opens, image_is, told_rests}
use Rattle.xf_table.specs.Ends.{start_from}
use Rattle.xf_live.specs.Passes as live
use Rattle.xf_live.specs.Ends.{IsNew, AreNew}
use Rattle.xf_db.specs.Passes.{PassView, IsStart, IsResting, IsFresh, AreFresh, IsOpened, image_of, database_over, pass_over}

-- what a value stands for
abbrev pub standing : StateValue → Standing
standing v = standing_of v.local

module _ (seats p s : ℕ) (words : List ℕ) (values : List StateValue) (i : ImageView) (rest : IsAtRest p s words (homes_of values) i) where
  states_left : s ≡ length values - p
  states_left =
      let a : length (homes_of values) ≡ length values = length-map values standing in
      let b : length (homes_of values) ≡ p + s = rest.stands.home.count in
      omega (arith, a, b)

  pub opened_from : 1 ≤ seats → seats ≤ 16 → Opened bucket_of Good lists machine (start_from standing seats words values p)
  opened_from one few =
      subst (λ (n : ℕ). Opened bucket_of Good lists machine (start_of seats p n words (homes_of values))) states_left
      (rest_opens seats p s words (homes_of values) i one few rest)

  pub starts_from : IsStart p s (start_from standing seats words values p)
  starts_from =
      subst (λ (n : ℕ). IsStart p s (start_of seats p n words (homes_of values))) states_left
      (record { policies_are = refl; states_are = refl; rests = told_rests p s words (homes_of values) i rest })

  pub image_from : image_of (start_from standing seats words values p) ≡ i
  image_from =
      ap (λ (n : ℕ). image_in p n words (homes_of values)) (sym states_left) ∙ image_is p s words (homes_of values) i rest.stands

  -- of a start that is this one
  pub starts_at : (start : Start) → start ≡ start_from standing seats words values p → IsStart p s start
  starts_at start is = subst (λ (x : Start). IsStart p s x) (sym is) starts_from

  pub image_at : (start : Start) → start ≡ start_from standing seats words values p → image_of start ≡ i
  image_at start is = ap image_of is ∙ image_from

-- ---- new passes

all_each : {A : Type 0} (P : A → Type 0) (xs : List A) → ((k : ℕ) (x : A) → get_elem? xs k ≡ some x → P x) → All P xs
all_each P [] each = All-nil P
all_each P (x ∷ xs) each = All-cons P x xs (each zero x refl) (all_each P xs (λ k y h. each (suc k) y h))

new_rests : (l : live.LiveView) (k : ℕ) (p : live.PassView StateValue) → IsNew l k p → IsResting p
new_rests l k p new = record {
  life = subst (λ (v : View). v.life ≡ live.life_of v.life.start v.worker) (sym new.view) refl;
  idle = subst (λ (v : View). live.IsIdle v) (sym new.view) (record { ticket = refl; turn = refl; shut = refl; drawn = refl; trial = refl; slots = refl });
  values = new.values;
}

pub all_rest : (l : live.LiveView) (ps : List (live.PassView StateValue)) → AreNew l ps → All IsResting ps
all_rest l ps new = all_each IsResting ps (λ k p h. new_rests l k p (new.each k p h))

new_fresh : (l : live.LiveView) (k : ℕ) (p : live.PassView StateValue) → IsNew l k p → IsFresh (database_over l) k (pass_over p)
new_fresh l k p new = record {
  is_of = record { database = λ i. record { table = new.table i; start = (new.view i).life.start } };
  number_is = ap (λ (v : View). v.worker) new.view;
  none = ap (λ (v : View). v.knows.mine) new.view;
  undrawn = ap (λ (v : View). v.knows.count) new.view;
}

fresh_from : (l : live.LiveView) (n : ℕ) (ps : List (live.PassView StateValue))
    → ((k : ℕ) (p : live.PassView StateValue) → get_elem? ps k ≡ some p → IsNew l (n + k) p) → AreFresh (database_over l) n (map pass_over ps)
fresh_from l n [] each = tt
fresh_from l n (p ∷ ps) each =
    let here : n + zero ≡ n = omega arith in (
      new_fresh l n p (subst (λ (m : ℕ). IsNew l m p) here (each zero p refl)),
      fresh_from l (n + 1) ps (λ k q h. let next : n + suc k ≡ n + 1 + k = omega arith in subst (λ (m : ℕ). IsNew l m q) next (each (suc k) q h)),
    )

pub all_fresh : (l : live.LiveView) (ps : List (live.PassView StateValue)) → AreNew l ps → AreFresh (database_over l) 0 (map pass_over ps)
all_fresh l ps new =
    fresh_from l 0 ps (λ k p h. let same : k ≡ 0 + k = omega arith in subst (λ (m : ℕ). IsNew l m p) same (new.each k p h))

-- ---- what a call gives back

pub same_rests : (p s : ℕ) (words back : List ℕ) (values homes : List StateValue) (i : ImageView) → back ≡ words → homes ≡ values
    → IsAtRest p s words (homes_of values) i → IsAtRest p s back (homes_of homes) i
same_rests p s words back values homes i same alike rest =
    subst (λ (ws : List ℕ). IsAtRest p s ws (homes_of homes) i) (sym same)
    (subst (λ (vs : List StateValue). IsAtRest p s words (homes_of vs) i) (sym alike) rest)

pub is_opened : (seats p s : ℕ) (words : List ℕ) (values : List StateValue) (i : ImageView) (l : live.LiveView) (ps : List (live.PassView StateValue)) (passes : List PassView)
    → IsAtRest p s words (homes_of values) i → l.start ≡ start_from standing seats words values p → AreNew l ps → passes ≡ map pass_over ps
    → IsOpened i seats (database_over l) passes
is_opened seats p s words values i l ps passes rest start new are =
    subst (λ (xs : List PassView). IsOpened i seats (database_over l) xs) (sym are)
    (record {
      over = image_at seats p s words values i rest l.start start;
      seats_are = ap (λ (x : Start). x.seats) start;
      all = length-map ps pass_over ∙ (new.count ∙ ap (λ (x : Start). x.seats) start);
      fresh = all_fresh l ps new;
    })
