-- What follows from the image part for a seat, and for a read that ends the same.
use Rattle.std.proofs.Common.{◌≡◌, ℕ, zero, suc, ◌%◌, ◌<◌, ◌≤◌, Bool, true, false, true≢false, List, [], ◌∷◌, Some, None, Option, refl, sym, ap, ◌∙◌, subst, arith, eqb-true, ⊎_elim}
use Rattle.std.specs.Prelude.{if◌then◌else◌, ◌&&◌, ◌==◌}
use mathlib.Core.Option.{some, some-injective}
use Rattle.std.proofs.lemmas.Bool.{cases_lt}
use Rattle.std.proofs.Math.Nat.{eq-or-lt_of_le}
use lib.ListN.{get_elem?}
use Rattle.xf_types.specs.declared.call.Receipt.{Receipt}
use Rattle.xf_types.specs.declared.state.Sa.{Sa}
use Rattle.xf_types.specs.Moves.{is_moving, moves_of}
use Rattle.xf_views.specs.declared.view.View.{View}
use Rattle.xf_views.specs.Hands.{is_same}
use Rattle.xf_views.specs.Log.{Numbers, Mark, mark, with_receipt, receipts_of, moves, AreBelow}
use Rattle.xf_views.specs.TurnPart.{TurnPart}
use Rattle.xf_views.proofs.Seats.{even_now}
use Rattle.xf_invariant.specs.Meaning.{Told, told_after_moves}
use Rattle.xf_invariant.specs.ImagePart.{ImagePart}
use Rattle.xf_invariant.specs.ImageSays.{StandsAfter, SaysImage}

below_with : (o : Option Receipt) (n : ℕ) (rs : List Receipt) → ((r : Receipt) → o ≡ Some r → is_moving r.reply ≡ true → r.number < n) → AreBelow n (moves_of rs) → AreBelow n (moves_of (with_receipt o rs))
below_with None n rs all h = h
below_with (Some r) n rs all h = either (is_moving r.reply) refl
  where
    either : (b : Bool) → is_moving r.reply ≡ b → AreBelow n (if b then r ∷ moves_of rs else moves_of rs)
    either true e = (all r refl e, h)
    either false e = h

-- where each move of the log has a number below n
moves_below : (n : ℕ) (log : List Mark) → ((x : ℕ) (m : Mark) (r : Receipt) → get_elem? log x ≡ some m → m.receipt ≡ Some r → is_moving r.reply ≡ true → r.number < n) → AreBelow n (moves log)
moves_below n [] all = tt
moves_below n (m ∷ ms) all =
    below_with m.receipt n (receipts_of ms) (λ r e q. all zero m r refl e q) (moves_below n ms (λ x u r a b c. all (suc x) u r a b c))

pub same-began : (o : Option ℕ) (g : ℕ) → is_same o g ≡ true → (o ≡ Some g) × (g % 2 ≡ 0)
same-began None g e = absurd (true≢false (sym e))
same-began (Some b) g e = both (b == g) refl e
  where
    both : (c : Bool) → (b == g) ≡ c → (c && (g % 2 == 0)) ≡ true → (Some b ≡ Some g) × (g % 2 ≡ 0)
    both true h q = (ap Some (eqb-true b g h), eqb-true (g % 2) 0 q)
    both false h q = absurd (true≢false (sym q))

module _ (bucket_of : Sa → ℕ) (good : List ℕ → Told → Type 0) (base : List ℕ) (most made : ℕ) (n : Numbers) (owners : List ℕ) (log : List Mark) (words settled : List ℕ) (views : List View)
    (a : TurnPart most made n owners log views) (b : ImagePart bucket_of good base n.generation log words settled views) (i : ℕ) (v : View) (at : get_elem? views i ≡ some v) (here : v.here ≡ true) where
  after_words : n.generation % 2 ≡ 0 → StandsAfter bucket_of good base log words
  after_words even t o = subst (λ (l : List ℕ). good l (told_after_moves bucket_of t (moves log))) (b.calm even) (b.stands t o)

  -- no move has the trial's number or a later one
  trial_last : v.hand.began ≡ Some n.generation → n.generation % 2 ≡ 0 → (x : ℕ) → v.hand.trial ≡ Some x → AreBelow x (moves log)
  trial_last began even x trial = moves_below x log (λ k m r e q moving.
      let number = (a.numbered k m r e q).0 in
      ⊎_elim
      (λ (low : k < x). (omega arith))
      (λ (high : x ≤ k). absurd (⊎_elim
      (λ (same : x ≡ k).
      let two : mark v.worker None None ≡ m = some-injective (mark v.worker None None) m (sym ((a.each i v at here).trial x trial).0 ∙ (ap (get_elem? log) same ∙ e)) in
      let none : None ≡ Some r = ap (λ (z : Mark). z.receipt) two ∙ q in absurd (cc))
      (λ (later : x < k). true≢false (sym moving ∙ (b.each i v at here).trial x n.generation trial began even refl k m r later e q))
      (eq-or-lt_of_le high)))
      (cases_lt k x))

  pub image_says : SaysImage bucket_of good base n.generation log words settled v
  image_says =
      let f = b.each i v at here in
      record {
        stands = b.stands;
        image = f.image;
        open_settled = f.settled;
        calm = λ turn shut t o. subst (λ (l : List ℕ). good l (told_after_moves bucket_of t (moves log))) (sym (f.image turn)) (after_words (even_now most made n owners log views a i v at here turn shut) t o);
        first = λ g e. (f.read g e).0;
        same = λ e. let s = same-began v.hand.began n.generation e in
            ((f.read n.generation s.0).1 s.1 refl, after_words s.1, trial_last s.0 s.1);
      }
