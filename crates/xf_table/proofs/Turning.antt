-- Steps on the four numbers keep the rule: a ticket, the ticket that is served, and an opening.
use Rattle.std.proofs.Common.{◌≡◌, ℕ, ◌+◌, ◌%◌, ◌^◌, ◌<◌, Bool, true, false, true≢false, List, [], ◌∷◌, ◌++◌, length, set, Option, refl, sym, ap, ◌∙◌, subst, arith}
use Rattle.std.specs.Prelude.{slice_index}
use mathlib.Core.Option.{some, none}
use lib.ListN.{get_elem?}
use Rattle.atomic_table.specs.Table.{State, step, stepped, keeps, Allows}
use Rattle.xf_types.specs.declared.state.Sa.{Sa}
use Rattle.xf_types.specs.Machine.{Machine}
use Rattle.xf_types.specs.Standing.{Standing}
use Rattle.xf_views.specs.declared.view.View.{View}
use Rattle.xf_views.specs.declared.view.Start.{Start}
use Rattle.xf_views.specs.Hands.{is_served}
use Rattle.xf_views.specs.Views.{view_after_ticket, view_after_serving, view_after_begin, view_after_finish, view_after_leave}
use Rattle.xf_views.proofs.Lists.{set_here, at_below}
use Rattle.xf_views.proofs.Tickets.{ticket_keeps, serving_keeps, leave_keeps}
use Rattle.xf_views.proofs.Seats.{even_now}
use Rattle.xf_views.proofs.Openings.{begin_keeps, finish_keeps}
use Rattle.xf_invariant.specs.Meaning.{Told}
use Rattle.xf_invariant.proofs.ImageTurns.{ticket_keeps_image, serving_keeps_image, leave_keeps_image}
use Rattle.xf_invariant.proofs.ImageOpenings.{begin_keeps_image, finish_keeps_image}
use Rattle.xf_ownpart.specs.Lists.{IsListing}
use Rattle.xf_table.specs.Rule.{Ruled, most, good_at}
use Rattle.xf_table.specs.Rows.{MayTicket, MayLook, IsShut, IsDrawn}
use Rattle.xf_table.specs.Plays.{Now, Enters, takes_ticket, looks_serving, leaves, begins, finishes}
use Rattle.xf_table.proofs.Scenes.{up, small, known, quiet_ruled, entering}

module _ {T : Type 0} (bucket_of : Sa → ℕ) (good : ℕ → ℕ → List ℕ → Told → Type 0) (lists : ℕ → ℕ → List ℕ → ℕ → Option (Sa × ℕ)) (machine : ℕ → ℕ → List ℕ → List Standing → Machine) (standing : T → Standing)
    (listing : (p s : ℕ) → IsListing (good p s) (lists p s)) (start : Start) (slots id : ℕ) (me : Now T) (here : me.0.here ≡ true) where
  abbrev Rule : State (Option T) View → Type 0
  Rule = Ruled bucket_of good lists machine standing start

  -- the state after a step that changes the word k to x
  abbrev after : State (Option T) View → ℕ → ℕ → View → State (Option T) View
  after s k x w = stepped s k x id me.1 w keeps

  pub ticket_allowed : MayTicket me.0 → Allows Rule slots id me 0 (λ n. (n + 1) % 18446744073709551616) (takes_ticket (step slots 0 1 0 none) me)
  ticket_allowed may s r wide at fits =
      let found : slice_index s.words 0 ≡ r.numbers.ticket = ap (λ (l : List ℕ). slice_index l 0) r.words in
      let low = small bucket_of good lists machine standing listing start s r id me.0 at here in
      let few = low.draws in
      let rise = up r.numbers.ticket (omega arith) in (
        view_after_ticket me.0 (slice_index s.words 0),
        keeps,
        tt,
        subst (λ x. Rule (after s 0 ((x + 1) % 18446744073709551616) (view_after_ticket me.0 x))) (sym found)
            (quiet_ruled bucket_of good lists machine standing listing start s r id me.0 at here (set s.words 0 ((r.numbers.ticket + 1) % 18446744073709551616)) (view_after_ticket me.0 r.numbers.ticket)
            (record r.numbers { ticket = r.numbers.ticket + 1 }) (r.owners ++ me.0.worker ∷ []) r.image
            (ap (λ (l : List ℕ). set l 0 ((r.numbers.ticket + 1) % 18446744073709551616)) r.words ∙ ap (λ x. x ∷ r.numbers.serving ∷ r.numbers.generation ∷ r.numbers.draw ∷ (r.pins ++ (r.image ++ r.turns))) rise)
            refl here refl refl refl refl
            (ticket_keeps most r.made r.numbers r.owners r.log s.views r.turn_part id me.0 at here may.ticketless may.room)
            (ticket_keeps_image bucket_of (good_at good start) start.words most r.made r.numbers r.owners r.log r.image r.settled s.views r.turn_part r.image_part id me.0 at here r.numbers.ticket)),
        refl,
      )

  pub serving_allowed : MayLook me.0 → Allows Rule slots id me 1 (λ n. n) (looks_serving good lists (step slots 1 0 0 none) me)
  serving_allowed may s r wide at fits =
      let found : slice_index s.words 1 ≡ r.numbers.serving = ap (λ (l : List ℕ). slice_index l 1) r.words in
      let w : View = view_after_serving me.0 r.numbers.serving r.image in
      let after_it : Rule (after s 1 r.numbers.serving w) =
      quiet_ruled bucket_of good lists machine standing listing start s r id me.0 at here (set s.words 1 r.numbers.serving) w r.numbers r.owners r.image
      (ap (λ (l : List ℕ). set l 1 r.numbers.serving) r.words) refl here refl refl refl refl
      (serving_keeps most r.made r.numbers r.owners r.log s.views r.turn_part id me.0 at here r.image may.turnless)
      (serving_keeps_image bucket_of (good_at good start) start.words most r.made r.numbers r.owners r.log r.image r.settled s.views r.turn_part r.image_part id me.0 at here may.turnless) in
      let idle : me.0.hand.writing ≡ false = never_opens s r at may.turnless in (
        view_after_serving me.0 (slice_index s.words 1) r.image,
        keeps,
        tt,
        subst (λ x. Rule (after s 1 x (view_after_serving me.0 x r.image))) (sym found) after_it,
        (
          r.image,
          refl,
          λ came.
              let size = r.sizes.image_is ∙ ap (λ (x : Start). length x.words) (sym (known bucket_of good lists machine standing listing start s r id me.0 at here)) in
              let e : Enters good lists w r.image =
              entering bucket_of good lists machine standing listing start (after s 1 r.numbers.serving w) after_it id w (set_here s.views id w (at_below s.views id me.0 at)) here
              (subst (λ x. is_served me.0.hand.ticket x ≡ true) found came) idle size in
              record { size = size; stands = e.stands; grown = e.grown },
        ),
      )
    where
      off : (b : Bool) → (b ≡ true → me.0.hand.has_turn ≡ true) → me.0.hand.has_turn ≡ false → b ≡ false
      off true f e = absurd (true≢false (sym (f refl) ∙ e))
      off false f e = refl

      never_opens : (s : State (Option T) View) (r : Rule s) → get_elem? s.views id ≡ some me.0 → me.0.hand.has_turn ≡ false → me.0.hand.writing ≡ false
      never_opens s r at without = off me.0.hand.writing (λ q. ((r.turn_part.each id me.0 at here).writes q).0) without

  pub leave_allowed : IsShut me.0 → Allows Rule slots id me 1 (λ n. (n + 1) % 18446744073709551616) (leaves (step slots 1 1 0 none) me)
  leave_allowed may s r wide at fits =
      let found : slice_index s.words 1 ≡ r.numbers.serving = ap (λ (l : List ℕ). slice_index l 1) r.words in
      let low = small bucket_of good lists machine standing listing start s r id me.0 at here in
      let few = low.serving in
      let rise = up r.numbers.serving (omega arith) in (
        view_after_leave me.0,
        keeps,
        tt,
        subst (λ x. Rule (after s 1 ((x + 1) % 18446744073709551616) (view_after_leave me.0))) (sym found)
            (quiet_ruled bucket_of good lists machine standing listing start s r id me.0 at here (set s.words 1 ((r.numbers.serving + 1) % 18446744073709551616)) (view_after_leave me.0)
            (record r.numbers { serving = r.numbers.serving + 1 }) r.owners r.image
            (ap (λ (l : List ℕ). set l 1 ((r.numbers.serving + 1) % 18446744073709551616)) r.words ∙ ap (λ x. r.numbers.ticket ∷ x ∷ r.numbers.generation ∷ r.numbers.draw ∷ (r.pins ++ (r.image ++ r.turns))) rise)
            refl here refl refl refl refl
            (leave_keeps most r.made r.numbers r.owners r.log s.views r.turn_part id me.0 at here may.turn may.shut)
            (leave_keeps_image bucket_of (good_at good start) start.words most r.made r.numbers r.owners r.log r.image r.settled s.views r.turn_part r.image_part id me.0 at here)),
        refl,
      )

  pub begin_allowed : IsShut me.0 → Allows Rule slots id me 2 (λ n. (n + 1) % 18446744073709551616) (begins (step slots 2 1 0 none) me)
  begin_allowed may s r wide at fits =
      let found : slice_index s.words 2 ≡ r.numbers.generation = ap (λ (l : List ℕ). slice_index l 2) r.words in
      let low = small bucket_of good lists machine standing listing start s r id me.0 at here in
      let few = low.generation in
      let rise = up r.numbers.generation (omega arith) in (
        view_after_begin me.0,
        keeps,
        tt,
        subst (λ x. Rule (after s 2 ((x + 1) % 18446744073709551616) (view_after_begin me.0))) (sym found)
            (quiet_ruled bucket_of good lists machine standing listing start s r id me.0 at here (set s.words 2 ((r.numbers.generation + 1) % 18446744073709551616)) (view_after_begin me.0)
            (record r.numbers { generation = r.numbers.generation + 1 }) r.owners r.image
            (ap (λ (l : List ℕ). set l 2 ((r.numbers.generation + 1) % 18446744073709551616)) r.words ∙ ap (λ x. r.numbers.ticket ∷ r.numbers.serving ∷ x ∷ r.numbers.draw ∷ (r.pins ++ (r.image ++ r.turns))) rise)
            refl here refl refl refl refl
            (begin_keeps most r.made r.numbers r.owners r.log s.views r.turn_part id me.0 at here may.turn may.shut)
            (begin_keeps_image bucket_of (good_at good start) start.words most r.made r.numbers r.owners r.log r.image r.settled s.views r.turn_part r.image_part id me.0 at here may.turn may.shut)),
        (
          refl,
          subst (λ x. x % 2 ≡ 0) (sym found) (even_now most r.made r.numbers r.owners r.log s.views r.turn_part id me.0 at here may.turn may.shut),
          subst (λ x. x + 1 < 2 ^ 62) (sym found) (omega arith),
        ),
      )

  pub finish_allowed : IsDrawn me.0 → Allows Rule slots id me 2 (λ n. (n + 1) % 18446744073709551616) (finishes (step slots 2 1 0 none) me)
  finish_allowed may s r wide at fits =
      let found : slice_index s.words 2 ≡ r.numbers.generation = ap (λ (l : List ℕ). slice_index l 2) r.words in
      let low = small bucket_of good lists machine standing listing start s r id me.0 at here in
      let few = low.generation in
      let rise = up r.numbers.generation (omega arith) in (
        view_after_finish me.0,
        keeps,
        tt,
        subst (λ x. Rule (after s 2 ((x + 1) % 18446744073709551616) (view_after_finish me.0))) (sym found)
            (quiet_ruled bucket_of good lists machine standing listing start s r id me.0 at here (set s.words 2 ((r.numbers.generation + 1) % 18446744073709551616)) (view_after_finish me.0)
            (record r.numbers { generation = r.numbers.generation + 1 }) r.owners r.image
            (ap (λ (l : List ℕ). set l 2 ((r.numbers.generation + 1) % 18446744073709551616)) r.words ∙ ap (λ x. r.numbers.ticket ∷ r.numbers.serving ∷ x ∷ r.numbers.draw ∷ (r.pins ++ (r.image ++ r.turns))) rise)
            refl here refl refl refl refl
            (finish_keeps most r.made r.numbers r.owners r.log s.views r.turn_part id me.0 at here may.opens may.drew)
            (finish_keeps_image bucket_of (good_at good start) start.words most r.made r.numbers r.owners r.log r.image r.settled s.views r.turn_part r.image_part id me.0 at here may.opens may.drew)),
        refl,
      )
