-- Steps on an image word keep the rule.
use Rattle.std.proofs.Common.{◌≡◌, ℕ, ◌+◌, ◌-◌, ◌<◌, true, List, length, set, Option, refl, sym, ap, ◌∙◌, subst, arith}
use Rattle.std.specs.Prelude.{slice_index, slice_set}
use Rattle.std.proofs.Math.ListN.{length-set}
use mathlib.Core.Option.{some, none}
use lib.ListN.{get_elem?}
use Rattle.atomic_table.specs.Table.{State, step, stepped, keeps, Allows}
use Rattle.xf_types.specs.declared.state.Sa.{Sa}
use Rattle.xf_types.specs.Machine.{Machine}
use Rattle.xf_types.specs.Standing.{Standing}
use Rattle.xf_views.specs.declared.view.View.{View}
use Rattle.xf_views.specs.declared.view.Start.{Start}
use Rattle.xf_views.specs.Views.{view_after_store, view_after_load}
use Rattle.xf_views.proofs.Quiet.{store_keeps, load_keeps}
use Rattle.xf_invariant.specs.Meaning.{Told}
use Rattle.xf_invariant.proofs.ImageOpenings.{store_keeps_image}
use Rattle.xf_invariant.proofs.ImageReads.{load_keeps_image}
use Rattle.xf_ownpart.specs.Lists.{IsListing}
use Rattle.xf_seats.specs.Opened.{slots_of}
use Rattle.xf_table.specs.Rule.{Ruled, most, good_at, laid, four}
use Rattle.xf_table.specs.Rows.{IsOpen}
use Rattle.xf_table.specs.Plays.{Now, stores, loads}
use Rattle.xf_table.proofs.Regions.{set_word, get_word}
use Rattle.xf_table.proofs.Scenes.{set_same, known, quiet_ruled}

module _ {T : Type 0} (bucket_of : Sa → ℕ) (good : ℕ → ℕ → List ℕ → Told → Type 0) (lists : ℕ → ℕ → List ℕ → ℕ → Option (Sa × ℕ)) (machine : ℕ → ℕ → List ℕ → List Standing → Machine) (standing : T → Standing)
    (listing : (p s : ℕ) → IsListing (good p s) (lists p s)) (start : Start) (slots id : ℕ) (me : Now T) (here : me.0.here ≡ true) where
  abbrev Rule : State (Option T) View → Type 0
  Rule = Ruled bucket_of good lists machine standing start

  -- where a place of the image is among the words
  place_is : (s : State (Option T) View) (r : Rule s) → get_elem? s.views id ≡ some me.0 → (p seats : ℕ) → me.0.life.start.seats ≡ seats → (p + seats) + 4 ≡ (p + length r.pins) + 4
  place_is s r at p seats same =
      let e : length r.pins ≡ seats = r.sizes.pins_are ∙ (ap (λ (x : Start). x.seats) (sym (known bucket_of good lists machine standing listing start s r id me.0 at here)) ∙ same) in omega arith

  inside : (s : State (Option T) View) (r : Rule s) → get_elem? s.views id ≡ some me.0 → (p : ℕ) → p < length me.0.life.start.words → p < length r.image
  inside s r at p low =
      let e : length r.image ≡ length me.0.life.start.words = r.sizes.image_is ∙ ap (λ (x : Start). length x.words) (sym (known bucket_of good lists machine standing listing start s r id me.0 at here)) in omega arith

  pub store_allowed : (seats p x : ℕ) → me.0.life.start.seats ≡ seats → p < length me.0.life.start.words → IsOpen me.0
      → Allows Rule slots id me ((p + seats) + 4) (λ _. x) (λ _. stores (step slots ((p + seats) + 4) x 0 none) me x)
  store_allowed seats p x same low may s r wide at fits =
      let q = place_is s r at p seats same in
      let w : View = view_after_store (slots_of me.0.life.start) me.0 p x in
      let back : p ≡ ((p + seats) + 4) - (me.0.life.start.seats + 4) = omega arith in (
        w,
        keeps,
        tt,
        quiet_ruled bucket_of good lists machine standing listing start s r id me.0 at here (set s.words ((p + seats) + 4) x) w r.numbers r.owners (slice_set r.image p x)
            (ap (λ (l : List ℕ). set l ((p + seats) + 4) x) r.words ∙ (ap (λ k. set (laid (four r.numbers) r.pins r.image r.turns) k x) q ∙ set_word (four r.numbers) r.pins r.image r.turns p x (inside s r at p low)))
            (length-set r.image p x) here refl refl refl refl
            (store_keeps most r.made r.numbers r.owners r.log s.views r.turn_part id me.0 at here (slots_of me.0.life.start) p x)
            (store_keeps_image bucket_of (good_at good start) start.words most r.made r.numbers r.owners r.log r.image r.settled s.views r.turn_part r.image_part id me.0 at here (slots_of me.0.life.start) p x may.opens may.yet),
        ap (λ k. (view_after_store (slots_of me.0.life.start) me.0 k x, me.1)) back,
      )

  pub load_allowed : (seats p : ℕ) → me.0.life.start.seats ≡ seats → p < length me.0.life.start.words
      → Allows Rule slots id me ((p + seats) + 4) (λ n. n) (loads (step slots ((p + seats) + 4) 0 0 none) me)
  load_allowed seats p same low s r wide at fits =
      let q = place_is s r at p seats same in
      let x = slice_index r.image p in
      let found : slice_index s.words ((p + seats) + 4) ≡ x =
      ap (λ (l : List ℕ). slice_index l ((p + seats) + 4)) r.words
      ∙ (ap (λ k. slice_index (laid (four r.numbers) r.pins r.image r.turns) k) q ∙ get_word (four r.numbers) r.pins r.image r.turns p (inside s r at p low)) in
      let back : p ≡ ((p + seats) + 4) - (me.0.life.start.seats + 4) = omega arith in (
        view_after_load me.0 p (slice_index s.words ((p + seats) + 4)),
        keeps,
        tt,
        subst (λ y. Rule (stepped s ((p + seats) + 4) (slice_index s.words ((p + seats) + 4)) id me.1 (view_after_load me.0 p y) keeps)) (sym found)
            (quiet_ruled bucket_of good lists machine standing listing start s r id me.0 at here (set s.words ((p + seats) + 4) (slice_index s.words ((p + seats) + 4))) (view_after_load me.0 p x) r.numbers r.owners r.image
            (set_same s.words ((p + seats) + 4) ∙ r.words) refl here refl refl refl refl
            (load_keeps most r.made r.numbers r.owners r.log s.views r.turn_part id me.0 at here p x)
            (load_keeps_image bucket_of (good_at good start) start.words most r.made r.numbers r.owners r.log r.image r.settled s.views r.turn_part r.image_part id me.0 at here p)),
        (
          ap (λ k. (view_after_load me.0 k (slice_index s.words ((p + seats) + 4)), me.1)) back,
          λ turn. found ∙ (ap (λ (l : List ℕ). slice_index l p) (sym ((r.image_part.each id me.0 at here).image turn)) ∙ ap (slice_index me.0.image.words) back),
        ),
      )
