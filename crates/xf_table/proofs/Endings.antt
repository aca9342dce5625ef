-- A table that ends under the rule, with the seat that took in all others: all slots' turns are free, and the image is the settled one.
use Rattle.std.proofs.Common.{◌≡◌, ℕ, ◌+◌, ◌<◌, ◌%◌, true, true≢false, List, [], ◌∷◌, ◌++◌, length, take, drop, zero, suc, Some, Option, refl, sym, ap, ◌∙◌, subst, arith}
use Rattle.std.proofs.Math.Seq.{take-append_seam, drop-append_seam, drop-append-add}
use mathlib.Core.Option.{some, some-injective}
use mathlib.Core.Logic.{dite}
use native.Mathlib.Decide.{ℕ_discrete}
use lib.ListN.{get_elem?}
use Rattle.atomic_table.specs.Table.{State, Final, Seen}
use Rattle.xf_types.specs.declared.state.Sa.{Sa}
use Rattle.xf_types.specs.Machine.{Machine, Shown}
use Rattle.xf_types.specs.Standing.{Standing}
use Rattle.xf_types.specs.History.{machine_of}
use Rattle.xf_views.specs.declared.view.View.{View}
use Rattle.xf_views.specs.declared.view.Start.{Start}
use Rattle.xf_views.specs.Log.{receipts_of, moves}
use Rattle.xf_invariant.specs.Meaning.{Told, told, told_after_moves}
use Rattle.xf_ownpart.specs.Lists.{IsListing}
use Rattle.xf_ownpart.specs.OwnPart.{listed_at, standing_of}
use Rattle.xf_seats.specs.Opened.{slots_of, start_machine}
use Rattle.xf_seats.specs.Ends.{Ending, EndSays, lists_of}
use Rattle.xf_seats.proofs.Endings.{end_has_all}
use Rattle.xf_seats.proofs.Apart.{parts_are_apart}
use Rattle.xf_seats.proofs.Holders.{alone_all_free}
use Rattle.xf_table.specs.Rule.{Ruled, most, laid, four, good_at, lists_at}
use Rattle.xf_table.specs.Ends.{Ends, HasAll}
use Rattle.xf_table.specs.Emptied.{AreThere, AreValues}
use Rattle.xf_table.proofs.Scenes.{age, now, now_shown, last_is, settled_stands}

there_is : (l : List ℕ) (i : ℕ) → i < length l → (x : ℕ) × (get_elem? l i ≡ some x)
there_is [] i low = absurd (omega arith)
there_is (x ∷ xs) zero low = (x, refl)
there_is (x ∷ xs) (suc i) low = there_is xs i (omega arith)

-- the image in a row of words
pub image_in : (numbers pins image turns : List ℕ) (from count : ℕ) → from ≡ length pins + length numbers → count ≡ length image
    → take count (drop from (laid numbers pins image turns)) ≡ image
image_in numbers pins image turns from count begins ends =
    let start : from ≡ length numbers + length pins = omega arith in
    ap (λ n. take n (drop from (laid numbers pins image turns))) ends
    ∙ (ap (λ n. take (length image) (drop n (laid numbers pins image turns))) start
    ∙ (ap (take (length image)) (drop-append-add numbers (pins ++ (image ++ turns)) (length pins) ∙ drop-append_seam pins (image ++ turns))
    ∙ take-append_seam image turns))

module _ {T : Type 0} (bucket_of : Sa → ℕ) (good : ℕ → ℕ → List ℕ → Told → Type 0) (lists : ℕ → ℕ → List ℕ → ℕ → Option (Sa × ℕ)) (machine : ℕ → ℕ → List ℕ → List Standing → Machine) (standing : T → Standing)
    (listing : (p s : ℕ) → IsListing (good p s) (lists p s)) (start : Start) (id : ℕ) (v : View) (here : v.here ≡ true) (has : HasAll v) where
  module _ (s : State (Option T) View) (r : Ruled bucket_of good lists machine standing start s) (at : get_elem? s.views id ≡ some v) where
    abbrev ending : Ending most
    ending = record { age = age bucket_of good lists machine standing listing start s r id v at here; makes = has.makes; has_all = has.all }

    says : EndSays most ending
    says = end_has_all most ending

    all_free : (slot x : ℕ) → get_elem? r.turns slot ≡ some x → x ≡ 0
    all_free = alone_all_free r.turns s.views id v (record { there = at; here = here }) r.held_part says.alone has.slotless

    free_at : (slot : ℕ) → slot < slots_of start → get_elem? r.turns slot ≡ some 0
    free_at slot low =
        let size = r.sizes.turns_are in
        let t = there_is r.turns slot (omega arith) in
        t.1 ∙ ap some (all_free slot t.0 t.1)

    -- the value of each slot is there
    pub value_at : (slot : ℕ) → slot < slots_of start → (x : T) × (get_elem? s.homes slot ≡ some (some (Some x))) × (standing x ≡ r.home slot)
    value_at slot low = r.values.there slot (free_at slot low)

    even : r.numbers.generation % 2 ≡ 0
    even = dite (ℕ_discrete (r.numbers.generation % 2) 1)
        (λ odd.
        let open_one = r.turn_part.odd odd in
        let same = says.alone open_one.0 open_one.1 (record { there = open_one.2; here = open_one.3 }) in
        let me : open_one.1 ≡ v = some-injective open_one.1 v (sym open_one.2 ∙ (ap (get_elem? s.views) same ∙ at)) in
        absurd (true≢false (sym open_one.4 ∙ (ap (λ (u : View). u.hand.writing) me ∙ has.shut))))
        (λ no. omega arith)

    settled_is_image : r.settled ≡ r.image
    settled_is_image = r.image_part.calm even

    pub ends : (words : List ℕ) (values : List T) (found : List (Option T)) → r.image ≡ words
        → ((slot : ℕ) (y : Option T) → get_elem? s.homes slot ≡ some (some y) → get_elem? found slot ≡ some y)
        → length values ≡ slots_of start → AreValues found (slots_of start) values
        → Ends bucket_of good lists machine standing start words values (lists_of v)
    ends words values found are back count are_values =
        let settled : r.settled ≡ words = settled_is_image ∙ are in
        let history = receipts_of r.log in
        let last : Machine = machine_of (start_machine machine start) history in
        record {
          history = history;
          legal = r.legal;
          are_parts = says.parts;
          apart = parts_are_apart history (lists_of v) says.parts r.legal.in_order;
          sizes = (ap length (sym are) ∙ r.sizes.image_is, count);
          stands = λ t opens. subst (λ (l : List ℕ). good_at good start l (told_after_moves bucket_of t (moves r.log))) settled (r.image_part.stands t opens);
          leaves = record {
            machine = last_is bucket_of good lists machine standing listing start s r id v at here;
            ids = (now bucket_of good lists machine standing listing start s r id v at here).ids;
            stands = subst (λ (l : List ℕ). good_at good start l (told last.shown (now bucket_of good lists machine standing listing start s r id v at here).ids)) settled
                (subst (λ (x : Shown). good_at good start r.settled (told x (now bucket_of good lists machine standing listing start s r id v at here).ids))
                (now_shown bucket_of good lists machine standing listing start s r id v at here)
                (settled_stands bucket_of good lists machine standing listing start s r id v at here));
          };
          values_stand = λ slot low.
              let t = value_at slot low in
              (t.0, are_values slot t.0 low (back slot (Some t.0) t.1), t.2 ∙ (r.own_part.free slot (free_at slot low) ∙ ap (λ (l : List ℕ). standing_of (listed_at (lists_at lists start) last l slot)) settled));
        }

  abbrev pub Ended : List ℕ → List (Option T) → Type 0
  Ended = Final (Seen (Ruled bucket_of good lists machine standing start) id v)

  -- each slot of a table that ended has a value
  pub ended_there : (ws : List ℕ) (found : List (Option T)) → Ended ws found → (slots : ℕ) → slots ≡ slots_of start → AreThere found slots
  ended_there ws found f slots same k low =
      let t = value_at f.0 f.1.0 f.1.1 k (subst (λ n. k < n) same low) in (t.0, f.4 k (Some t.0) t.1)

  pub ended_ends : (ws : List ℕ) (found : List (Option T)) → Ended ws found → (from count slots : ℕ) → from ≡ start.seats + 4 → count ≡ length start.words → slots ≡ slots_of start
      → (words : List ℕ) (values : List T) → words ≡ take count (drop from ws) → length values ≡ slots → AreValues found slots values
      → Ends bucket_of good lists machine standing start words values (lists_of v)
  ended_ends ws found f from count slots begins size same words values are length_is are_values =
      let r = f.1.0 in
      let pins = r.sizes.pins_are in
      let image : r.image ≡ words =
      sym (image_in (four r.numbers) r.pins r.image r.turns from count (omega arith) (size ∙ sym r.sizes.image_is))
      ∙ (ap (λ (l : List ℕ). take count (drop from l)) (sym r.words ∙ f.2) ∙ sym are) in
      ends f.0 r f.1.1 words values found image f.4 (length_is ∙ same) (λ k x low. are_values k x (subst (λ n. k < n) (sym same) low))
