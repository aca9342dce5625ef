-- The first pass's seat takes in the others: their receipts are gathered in the passes' order.
use Rattle.std.proofs.Common.{◌≡◌, ℕ, suc, ◌+◌, ◌<◌, ◌≤◌, false, List, [], ◌∷◌, ◌++◌, length, slice_index_or, Option, refl, sym, ap, ◌∙◌, subst, arith, length-append, append_assoc, append-nil}
use mathlib.Core.Option.{some}
use lib.ListN.{get_elem?}
use Rattle.std.specs.List.{remove}
use Rattle.std.proofs.lemmas.List.{map-append}
use Rattle.std.specs.declared.vec.Vec.{Vec}
use Rattle.atomic_table.specs.Table.{Me}
use Rattle.atomic_table.specs.declared.shared.Seat.{Seat}
use Rattle.xf_types.specs.declared.call.Receipt.{Receipt}
use Rattle.xf_types.specs.Standing.{Standing}
use Rattle.xf_views.specs.declared.view.View.{View}
use Rattle.xf_views.specs.declared.view.LifeView.{LifeView}
use Rattle.xf_seats.specs.Seats.{taker}
use Rattle.xf_seats.specs.Ends.{lists_of}
use Rattle.xf_table.specs.declared.table.Table.{Table}
use Rattle.xf_table.specs.Ends.{HasAll}
use Rattle.xf_table.specs.Rows.{MayJoin}
use Rattle.xf_table.specs.Tables.{IsAt, first_of}
use Rattle.xf_live.specs.Passes.{PassView, IsSeatOf, life_of}
use Rattle.xf_live.specs.Ends.{AreDone, IsDone, live_of, receipts_of_all, lists_in}

-- a list is its first element and the others
pub first_and_rest : {A : Type 0} (l : List A) (d : A) → 0 < length l → l ≡ slice_index_or l 0 d ∷ remove l 0
first_and_rest [] d h = absurd (omega arith)
first_and_rest (x ∷ l) d h = refl

module _ {X : Type 0} (standing : X → Standing) (t : Table X) where
  -- the seat has these lists, which are those of the first passes; the passes that are left are done
  pub record IsGathering (p : Seat (Option X) View) (lists : List (List Receipt)) (left : List (PassView X)) (all : List (List Receipt)) : Type 0 where
    pub at : IsAt standing t p
    pub worker : p.me.0.worker ≡ 0
    pub next : p.me.0.life.next ≡ (first_of standing t).seats
    pub shut : p.me.0.hand.writing ≡ false
    pub slotless : p.me.0.own.turns ≡ []
    pub lists_are : lists_of p.me.0 ≡ lists
    pub all_are : lists ++ receipts_of_all left ≡ all
    pub done : (k : ℕ) (q : PassView X) → get_elem? left k ≡ some q → IsDone (live_of standing t) (length lists + k) q

  is_at : (q : PassView X) (w : Seat (Option X) View) (k : ℕ) → IsDone (live_of standing t) k q → IsSeatOf q w → IsAt standing t w
  is_at q w k d s = record {
    table = s.table ∙ d.here.table;
    here = s.here;
    start = ap (λ (m : Me (Option X) View). m.0.life.start) s.me ∙ ap (λ (l : LifeView). l.start) d.here.life;
  }

  pub first_in : (ps : List (PassView X)) (q : PassView X) (others : List (PassView X)) (w : Seat (Option X) View)
      → AreDone (live_of standing t) ps → ps ≡ q ∷ others → IsSeatOf q w → IsGathering w (q.view.knows.mine ∷ []) others (receipts_of_all ps)
  first_in ps q others w d e s =
      let one : IsDone (live_of standing t) 0 q = d.each 0 q (ap (λ (l : List (PassView X)). get_elem? l 0) e) in
      let worker : w.me.0.worker ≡ 0 = ap (λ (m : Me (Option X) View). m.0.worker) s.me ∙ one.worker in
      let life : w.me.0.life ≡ life_of (first_of standing t) 0 = ap (λ (m : Me (Option X) View). m.0.life) s.me ∙ (one.here.life ∙ ap (λ (k : ℕ). life_of (first_of standing t) k) one.worker) in
      record {
        at = is_at q w 0 one s;
        worker = worker;
        next = ap (λ (l : LifeView). l.next) life;
        shut = ap (λ (m : Me (Option X) View). m.0.hand.writing) s.me ∙ one.idle.shut;
        slotless = ap (λ (m : Me (Option X) View). m.0.own.turns) s.me ∙ one.idle.slots;
        lists_are = ap (λ (m : Me (Option X) View). m.0.knows.mine ∷ m.0.life.gathered) s.me ∙ ap (λ (l : LifeView). q.view.knows.mine ∷ l.gathered) one.here.life;
        all_are = ap (λ (l : List (PassView X)). receipts_of_all l) (sym e);
        done = λ k r at.
            let n : 1 + k ≡ suc k = omega arith in
            subst (λ (n : ℕ). IsDone (live_of standing t) n r) (sym n) (d.each (suc k) r (ap (λ (l : List (PassView X)). get_elem? l (suc k)) e ∙ at));
      }

  module _ (p : Seat (Option X) View) (lists : List (List Receipt)) (left : List (PassView X)) (all : List (List Receipt)) (g : IsGathering p lists left all) where
    module _ (q : PassView X) (others : List (PassView X)) (w : Seat (Option X) View) (e : left ≡ q ∷ others) (s : IsSeatOf q w) where
      one : IsDone (live_of standing t) (length lists + 0) q
      one = g.done 0 q (ap (λ (l : List (PassView X)). get_elem? l 0) e)

      pub joins_at : IsAt standing t w
      joins_at = is_at q w (length lists + 0) one s

      pub may_join : MayJoin p.me.0 w.me.0
      may_join = record {
        first = g.worker;
        next =
            let n : length (lists_of p.me.0) ≡ length lists = ap (λ (l : List (List Receipt)). length l) g.lists_are in
            let k : w.me.0.worker ≡ length lists + 0 = ap (λ (m : Me (Option X) View). m.0.worker) s.me ∙ one.worker in
            omega arith;
        shut = ap (λ (m : Me (Option X) View). m.0.hand.writing) s.me ∙ one.idle.shut;
        slotless = ap (λ (m : Me (Option X) View). m.0.own.turns) s.me ∙ one.idle.slots;
      }

      pub joins_empty : w.me.1 ≡ []
      joins_empty = ap (λ (m : Me (Option X) View). m.1) s.me ∙ one.values

      pub one_more_in : (p2 : Seat (Option X) View) → IsAt standing t p2 → p2.me ≡ (taker p.me.0 w.me.0, p.me.1) → IsGathering p2 (lists ++ q.view.knows.mine ∷ []) others all
      one_more_in p2 at is = record {
        at = at;
        worker = ap (λ (m : Me (Option X) View). m.0.worker) is ∙ g.worker;
        next = ap (λ (m : Me (Option X) View). m.0.life.next) is ∙ g.next;
        shut = ap (λ (m : Me (Option X) View). m.0.hand.writing) is ∙ g.shut;
        slotless = ap (λ (m : Me (Option X) View). m.0.own.turns) is ∙ g.slotless;
        lists_are =
            ap (λ (m : Me (Option X) View). lists_of m.0) is
            ∙ (ap (λ (l : List (List Receipt)). l ++ w.me.0.knows.mine ∷ []) g.lists_are ∙ ap (λ (m : Me (Option X) View). lists ++ m.0.knows.mine ∷ []) s.me);
        all_are =
            append_assoc lists (q.view.knows.mine ∷ []) (receipts_of_all others)
            ∙ (ap (λ (l : List (PassView X)). lists ++ receipts_of_all l) (sym e) ∙ g.all_are);
        done = λ k r there.
            let n : length (lists ++ q.view.knows.mine ∷ []) ≡ length lists + 1 = length-append lists (q.view.knows.mine ∷ []) in
            let m : length lists + suc k ≡ length (lists ++ q.view.knows.mine ∷ []) + k = omega arith in
            subst (λ (n : ℕ). IsDone (live_of standing t) n r) m (g.done (suc k) r (ap (λ (l : List (PassView X)). get_elem? l (suc k)) e ∙ there));
      }

    pub all_in : left ≡ [] → lists_of p.me.0 ≡ all
    all_in e = g.lists_are ∙ (sym (append-nil lists) ∙ (ap (λ (l : List (PassView X)). lists ++ receipts_of_all l) (sym e) ∙ g.all_are))

    pub has_all : left ≡ [] → 1 ≤ (first_of standing t).seats → length all ≡ (first_of standing t).seats → HasAll p.me.0
    has_all e some_seat count = record {
      makes = let n = g.next in omega arith;
      all = ap (λ (l : List (List Receipt)). length l) (all_in e) ∙ (count ∙ sym g.next);
      shut = g.shut;
      slotless = g.slotless;
    }

-- the list was its first element, which was taken out of it, and the others
pub taken_out : {A : Type 0} (l : List A) (q : A) (others : List A) → 0 < length l → q ≡ slice_index_or l 0 q → others ≡ remove l 0 → l ≡ q ∷ others
taken_out {A} l q others h e f = first_and_rest l q h ∙ (ap (λ (x : A). x ∷ remove l 0) (sym e) ∙ ap (λ (r : List A). q ∷ r) (sym f))

-- a list of receipts more
pub lists_more : {Z : Type 0} (old new : List (Vec Receipt Z)) (v : Vec Receipt Z) (mine : List Receipt) → new ≡ old ++ v ∷ [] → v.items ≡ mine → lists_in new ≡ lists_in old ++ mine ∷ []
lists_more {Z} old new v mine e f =
    ap (λ (l : List (Vec Receipt Z)). lists_in l) e ∙ (map-append (λ (v : Vec Receipt Z). v.items) old (v ∷ []) ∙ ap (λ (m : List Receipt). lists_in old ++ m ∷ []) f)
