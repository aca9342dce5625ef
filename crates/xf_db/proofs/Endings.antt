-- What a table leaves is a legal history, whose parts are the passes' receipts, and an image of the machine that it leaves.
use Rattle.std.proofs.Common.{◌≡◌, ℕ, zero, suc, ◌+◌, ◌<◌, ◌≤◌, take, get_or, List, [], ◌∷◌, ◌++◌, All, length, map, refl, sym, ap, ◌∙◌, subst, arith, length-append}
use Rattle.std.specs.Prelude.{IsPermutation}
use Rattle.std.proofs.lemmas.List.{length-map}
use Rattle.std.proofs.lemmas.List.Elements.{All-nil, All-cons, All-head, All-tail}
use Rattle.std.proofs.lemmas.List.Sorted.{IsPermutation-sym, IsPermutation-trans, length_permutation}
use Rattle.std.specs.Global.{Global}
use Rattle.std.specs.declared.vec.Vec.{Vec}
use mathlib.Core.Option.{some, some-injective, some-ne-none}
use lib.ListN.{get_elem?}
use Rattle.xf_types.specs.declared.call.Receipt.{Receipt}
use Rattle.xf_types.specs.Moves.{moves_of}
use Rattle.xf_types.specs.History.{IsIncreasing, machine_of, joined}
use Rattle.xf_hist.specs.Merged.{all_of}
use Rattle.xf_values.specs.declared.state_value.StateValue.{StateValue}
use Rattle.xf_views.specs.declared.view.Start.{Start}
use Rattle.xf_invariant.specs.Meaning.{Told, told, told_after_moves}
use Rattle.xf_types.specs.Batch.{receipts_of}
use Rattle.xf_seats.specs.Ends.{AreParts, of_worker}
use Rattle.xf_seats.proofs.Merged.{parts_are_all, merged_is_history}
use Rattle.xf_meaning.specs.Marks.{bucket_of}
use Rattle.xf_meaning.specs.Good.{Good}
use Rattle.xf_meaning.specs.Tells.{lists}
use Rattle.xf_meaning.specs.Machines.{machine}
use Rattle.xf_opening.specs.Images.{ImageView, StandsFor, IsWithin, homes_of}
use Rattle.xf_opening.proofs.Images.{ids_are}
use Rattle.xf_table.specs.Ends.{Ends}
use Rattle.xf_live.specs.Passes as live
use Rattle.xf_live.specs.Ends.{IsDone, AreDone, lists_in, receipts_of_all as lists_of_all}
use Rattle.xf_db.specs.Passes.{DatabaseView, PassView, IsStart, IsResting, image_of, database_over, pass_over}
use Rattle.xf_db.specs.Closing.{AreNumbered, AreAll, Closes, total, receipts_of_all}
use Rattle.xf_db.proofs.Beginnings.{standing}
use Rattle.xf_table.proofs.Growing.{AreIdsWithin, history_little, ids_after_all, ids_raised, few_moves}

-- ---- the passes are done

numbered_done : (l : live.LiveView) (n : ℕ) (ps : List (live.PassView StateValue)) → AreNumbered (database_over l) n (map pass_over ps) → All IsResting ps
    → (k : ℕ) (p : live.PassView StateValue) → get_elem? ps k ≡ some p → IsDone l (n + k) p
numbered_done l n [] numbered rest k p h = absurd (some-ne-none p (sym h))
numbered_done l n (q ∷ ps) numbered rest zero p h =
    let same : q ≡ p = some-injective q p h in
    let r : IsResting q = All-head IsResting q ps rest in
    subst (λ (x : live.PassView StateValue). IsDone l (n + zero) x) same
    (record {
      here = record {
        table = ap (λ d. d.table) numbered.0.database;
        life = r.life ∙ ap (λ (s : Start). live.life_of s q.view.worker) (ap (λ d. d.start) numbered.0.database);
      };
      worker = let w : q.view.worker ≡ n = numbered.1 in omega (arith, w);
      idle = r.idle;
      values = r.values;
    })
numbered_done l n (q ∷ ps) numbered rest (suc k) p h =
    let e : n + 1 + k ≡ n + suc k = omega arith in
    subst (λ (m : ℕ). IsDone l m p) e (numbered_done l (n + 1) ps numbered.2 (All-tail IsResting q ps rest) k p h)

pub all_done : (l : live.LiveView) (d : DatabaseView) (passes : List PassView) (ps : List (live.PassView StateValue)) → database_over l ≡ d → map pass_over ps ≡ passes
    → AreAll d passes → All IsResting ps → AreDone l ps
all_done l d passes ps over same all rest =
    let mine : AreAll (database_over l) (map pass_over ps) =
    subst (λ (x : DatabaseView). AreAll x (map pass_over ps)) (sym over) (subst (λ (xs : List PassView). AreAll d xs) (sym same) all) in
    record {
      count = sym (length-map ps pass_over) ∙ mine.all;
      each = λ k p h. let e : 0 + k ≡ k = omega arith in subst (λ (m : ℕ). IsDone l m p) e (numbered_done l 0 ps mine.numbered rest k p h);
    }

-- ---- their receipts

pub all_joined : (vs : List (Vec Receipt Global)) → all_of vs ≡ joined (lists_in vs)
all_joined [] = refl
all_joined (v ∷ vs) = ap (λ (rs : List Receipt). v.items ++ rs) (all_joined vs)

joined_total : (passes : List PassView) → length (joined (receipts_of_all passes)) ≡ total passes
joined_total [] = refl
joined_total (p ∷ ps) = length-append p.receipts (joined (receipts_of_all ps)) ∙ ap (λ (n : ℕ). length p.receipts + n) (joined_total ps)

lists_same : (ps : List (live.PassView StateValue)) → receipts_of_all (map pass_over ps) ≡ lists_of_all ps
lists_same [] = refl
lists_same (p ∷ ps) = ap (λ (rs : List (List Receipt)). p.view.knows.mine ∷ rs) (lists_same ps)

-- one pass more
total_next : (passes : List PassView) (k : ℕ) (p : PassView) → k < length passes → p ≡ get_or passes k p → total (take (suc k) passes) ≡ total (take k passes) + length p.receipts
total_next [] k p below is = absurd (omega (arith, below))
total_next (q ∷ qs) zero p below is = let e : length p.receipts ≡ length q.receipts = ap (λ (x : PassView). length x.receipts) is in omega (arith, e)
total_next (q ∷ qs) (suc k) p below is =
    let e : total (take (suc k) qs) ≡ total (take k qs) + length p.receipts = total_next qs k p (omega (arith, below)) is in omega (arith, e)

pub total_more : (passes : List PassView) (k : ℕ) (p : PassView) → k < length passes → p ≡ get_or passes k p → total (take (k + 1) passes) ≡ total (take k passes) + length p.receipts
total_more passes k p below is = let e : k + 1 ≡ suc k = omega arith in ap (λ (n : ℕ). total (take n passes)) e ∙ total_next passes k p below is

-- of the lists that a table gives at its end
module _ (passes : List PassView) (ps : List (live.PassView StateValue)) (same : map pass_over ps ≡ passes) (vs : List (Vec Receipt Global)) (gives : lists_in vs ≡ lists_of_all ps) where
  pub parts_are : lists_in vs ≡ receipts_of_all passes
  parts_are = gives ∙ (sym (lists_same ps) ∙ ap receipts_of_all same)

  pub all_are : all_of vs ≡ joined (receipts_of_all passes)
  all_are = all_joined vs ∙ ap joined parts_are

  pub all_count : length (all_of vs) ≡ total passes
  all_count = ap (λ (rs : List Receipt). length rs) all_are ∙ joined_total passes

  pub lists_are : lists_of_all ps ≡ receipts_of_all passes
  lists_are = sym gives ∙ parts_are

-- each pass's are its part of the history
parts_each : (d : DatabaseView) (n : ℕ) (passes : List PassView) (history : List Receipt) → AreNumbered d n passes
    → ((k : ℕ) (l : List Receipt) → get_elem? (receipts_of_all passes) k ≡ some l → l ≡ of_worker (n + k) history)
    → All (λ (p : PassView). receipts_of p.number history ≡ p.receipts) passes
parts_each d n [] history numbered each = All-nil (λ (p : PassView). receipts_of p.number history ≡ p.receipts)
parts_each d n (p ∷ ps) history numbered each =
    let is : n + zero ≡ p.number = (let e : p.number ≡ n = numbered.1 in omega (arith, e)) in
    All-cons (λ (q : PassView). receipts_of q.number history ≡ q.receipts) p ps
    (sym (each zero p.receipts refl ∙ ap (λ (k : ℕ). of_worker k history) is))
    (parts_each d (n + 1) ps history numbered.2
    (λ k l h. let e : n + suc k ≡ n + 1 + k = omega arith in each (suc k) l h ∙ ap (λ (m : ℕ). of_worker m history) e))

parts_of_each : (d : DatabaseView) (passes : List PassView) (history : List Receipt) → AreAll d passes → AreParts history (receipts_of_all passes)
    → All (λ (p : PassView). receipts_of p.number history ≡ p.receipts) passes
parts_of_each d passes history all parts =
    parts_each d 0 passes history all.numbered (λ k l h. let e : k ≡ 0 + k = omega arith in parts.each k l h ∙ ap (λ (m : ℕ). of_worker m history) e)

all_workers : (passes : List PassView) (history : List Receipt) → AreParts history (receipts_of_all passes) → All (λ r. r.worker < length passes) history
all_workers passes history parts =
    subst (λ (n : ℕ). All (λ (r : Receipt). r.worker < n) history) (length-map passes (λ (p : PassView). p.receipts)) parts.all

-- ---- the image behind the history

map_elem : {A B : Type 0} (f : A → B) (xs : List A) (k : ℕ) (x : A) → get_elem? xs k ≡ some x → get_elem? (map f xs) k ≡ some (f x)
map_elem f [] k x h = absurd (some-ne-none x (sym h))
map_elem f (y ∷ ys) zero x h = ap (λ z. some (f z)) (some-injective y x h)
map_elem f (y ∷ ys) (suc k) x h = map_elem f ys k x h

module _ (p s : ℕ) (start : Start) (words : List ℕ) (values : List StateValue) (parts : List (List Receipt)) (began : IsStart p s start)
    (e : Ends bucket_of Good lists machine standing start words values parts) where
  abbrev pub left_image : ImageView
  left_image = record { machine = machine_of (image_of start).machine e.history; ids = e.leaves.ids }

  stands_at_start : StandsFor start.policies start.states words (homes_of values) left_image
  stands_at_start = record {
    machine = e.leaves.machine;
    good = e.leaves.stands;
    home = record {
      count = length-map values standing ∙ e.sizes.1;
      each = λ slot below.
          let v = e.values_stand slot below in
          map_elem standing values slot v.0 v.1 ∙ ap some v.2;
    };
  }

  pub left_stands : StandsFor p s words (homes_of values) left_image
  left_stands =
      subst (λ (n : ℕ). StandsFor n s words (homes_of values) left_image) began.policies_are
      (subst (λ (n : ℕ). StandsFor start.policies n words (homes_of values) left_image) began.states_are stands_at_start)

  left_ids : left_image.ids ≡ (told_after_moves bucket_of (told (image_of start).machine.shown (image_of start).ids) (moves_of e.history)).ids
  left_ids =
      let at : Told = told (image_of start).machine.shown (image_of start).ids in
      let g = e.stands at ((image_of start).machine, began.rests.stands.machine, refl, began.rests.stands.good) in
      sym (ids_are start.policies start.states words e.leaves.ids e.leaves.stands.ids e.leaves.stands.size)
      ∙ ids_are start.policies start.states words _ g.ids g.size

  pub left_within : (most : ℕ) → IsWithin most (image_of start) → IsWithin (most + length e.history) left_image
  left_within most w =
      let little = history_little (image_of start).machine e.history in
      let few : length (moves_of e.history) ≤ length e.history = few_moves e.history in
      let at : Told = told (image_of start).machine.shown (image_of start).ids in
      let ids : AreIdsWithin (most + length e.history) left_image.ids =
      subst (λ ids. AreIdsWithin (most + length e.history) ids) (sym left_ids)
      (ids_raised (most + length (moves_of e.history)) (most + length e.history) (told_after_moves bucket_of at (moves_of e.history)).ids (omega (arith, few))
      (ids_after_all bucket_of most at (moves_of e.history) (record { of_policies = w.of_policies; of_buckets = w.of_buckets }))) in
      within_from little.numbers little.sids ids
    where
      within_from : (machine_of (image_of start).machine e.history).shown.next_number ≤ (image_of start).machine.shown.next_number + length e.history
          → (machine_of (image_of start).machine e.history).shown.next_sid ≤ (image_of start).machine.shown.next_sid + length e.history
          → AreIdsWithin (most + length e.history) left_image.ids → IsWithin (most + length e.history) left_image
      within_from numbers sids ids = record {
        numbers = omega (arith, numbers, w.numbers);
        sids = omega (arith, sids, w.sids);
        of_policies = ids.of_policies;
        of_buckets = ids.of_buckets;
      }

  -- what is merged of the parts, with the image
  pub closes : (d : DatabaseView) (passes : List PassView) (merged : List Receipt) (end : ImageView) → AreAll d passes → parts ≡ receipts_of_all passes
      → IsPermutation (joined parts) merged → IsIncreasing merged → end ≡ left_image → Closes (image_of start) passes merged end
  closes d passes merged end numbered are all increasing is =
      let same : merged ≡ e.history =
      merged_is_history e.history merged e.legal.in_order increasing
      (IsPermutation-trans merged (joined parts) e.history (IsPermutation-sym (joined parts) merged all) (parts_are_all e.history parts e.are_parts)) in
      let a : length merged ≡ length (joined parts) = length_permutation (joined parts) merged all in
      let b : length merged ≡ length e.history = ap (λ (h : List Receipt). length h) same in
      let mine : AreParts e.history (receipts_of_all passes) = subst (λ (ls : List (List Receipt)). AreParts e.history ls) are e.are_parts in
      let at_end : Closes (image_of start) passes e.history left_image = record {
        legal = e.legal;
        machine = refl;
        workers = all_workers passes e.history mine;
        parts = parts_of_each d passes e.history numbered mine;
        count = sym b ∙ (a ∙ (ap (λ (ls : List (List Receipt)). length (joined ls)) are ∙ joined_total passes));
        within = left_within;
      } in
      subst (λ (h : List Receipt). Closes (image_of start) passes h end) (sym same)
      (subst (λ (i : ImageView). Closes (image_of start) passes e.history i) (sym is) at_end)
