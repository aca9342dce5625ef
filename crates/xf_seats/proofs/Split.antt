-- A seat splits off another one: the turn part and the life part hold for one seat more.
use Rattle.std.proofs.Common.{◌≡◌, ◌≢◌, ℕ, ◌+◌, ◌<◌, true, true≢false, List, [], ◌∷◌, length, set, refl, sym, ap, ◌∙◌, subst, arith, ⊎_elim}
use mathlib.Core.Option.{some, some-injective, some-ne-none}
use lib.ListN.{get_elem?}
use Rattle.xf_views.specs.declared.view.View.{View}
use Rattle.xf_views.specs.Log.{Numbers, Mark, moves}
use Rattle.xf_views.specs.TurnPart.{IsInTurn, SomeSeat, TurnPart}
use Rattle.xf_views.proofs.Lists.{at_end, at_snoc, at_longer}
use Rattle.xf_views.proofs.Seats.{each_set, one_seat_set, some_set, other_worker}
use Rattle.xf_seats.specs.LifePart.{FitsLife, LifePart}
use Rattle.xf_seats.specs.Seats.{maker, split_off, split_views}
use Rattle.xf_seats.specs.Splits.{Splitting, after_split}
use Rattle.xf_seats.proofs.Made.{own_none, tickets_none, marks_none}

-- what holds of each other seat, of the one that splits and of the new one holds of all
module _ (views : List View) (i : ℕ) (v : View) (at : get_elem? views i ≡ some v) where
  pub split_each : (P : View → Type 0) → ((j : ℕ) (u : View) → j ≢ i → get_elem? views j ≡ some u → u.here ≡ true → P u) → P (maker v) → P (split_off v)
      → (j : ℕ) (u : View) → get_elem? (split_views views i v) j ≡ some u → u.here ≡ true → P u
  split_each P others mine new j u e h = ⊎_elim
      (λ (t : get_elem? (set views i (maker v)) j ≡ some u). each_set views i v (maker v) at P others mine j u t h)
      (λ (t : split_off v ≡ u). subst P t new)
      (at_snoc (set views i (maker v)) (split_off v) u j e)

  -- what holds of some seat still does
  pub split_some : v.here ≡ true → (P : View → Type 0) → (P v → P (maker v)) → SomeSeat views P → SomeSeat (split_views views i v) P
  split_some here P keeps some_one =
      let o = some_set views i v (maker v) at P here keeps some_one in
      (o.0, o.1, at_longer (set views i (maker v)) (split_off v ∷ []) o.0 o.1 o.2, o.3, o.4)

-- one seat more is made
widen : (made : ℕ) (n : Numbers) (owners : List ℕ) (log : List Mark) (u : View) → IsInTurn made n owners log u → IsInTurn (made + 1) n owners log u
widen made n owners log u f = record {
  worker = let h = f.worker in omega arith;
  count = f.count;
  ticket = f.ticket;
  turn = f.turn;
  writes = f.writes;
  shut = f.shut;
  seen = f.seen;
  mine = f.mine;
  trial = f.trial;
}

module _ (most : ℕ) (s : Splitting most) where
  made : ℕ
  made = s.age.moment.made

  abbrev views : List View
  views = s.age.moment.views

  abbrev i : ℕ
  i = s.age.moment.seat

  abbrev v : View
  v = s.age.moment.view

  abbrev a : TurnPart most s.age.moment.made s.age.moment.numbers s.age.moment.owners s.age.moment.log s.age.moment.views
  a = s.age.moment.holds

  is_made : v.life.next ≡ s.age.moment.made
  is_made = ((s.age.life.each i v s.age.moment.there s.age.moment.here).makes s.makes).0

  -- the seats that were there have lower workers than the new one
  lower : (j : ℕ) (u : View) → get_elem? (set views i (maker v)) j ≡ some u → u.here ≡ true → u.worker < s.age.moment.made
  lower = each_set views i v (maker v) s.age.moment.there (λ u. u.worker < s.age.moment.made) (λ j u apart e h. (a.each j u e h).worker) (a.each i v s.age.moment.there s.age.moment.here).worker

  one_each : (j k : ℕ) (x y : View) → get_elem? (after_split most s) j ≡ some x → get_elem? (after_split most s) k ≡ some y → x.here ≡ true → y.here ≡ true → x.worker ≡ y.worker → j ≡ k
  one_each j k x y ex ey hx hy e =
      let m = is_made in
      let old = set views i (maker v) in
      ⊎_elim
      (λ (p : (get_elem? old j ≡ some x) × (j < length old)). ⊎_elim
      (λ (q : (get_elem? old k ≡ some y) × (k < length old)). one_seat_set views i v (maker v) s.age.moment.there s.age.moment.here refl a.one_seat j k x y p.0 q.0 hx hy e)
      (λ (q : (split_off v ≡ y) × (k ≡ length old)). let l = lower j x p.0 hx in let w : v.life.next ≡ y.worker = ap (λ (z : View). z.worker) q.0 in absurd (omega arith))
      (at_end old (split_off v) y k ey))
      (λ (p : (split_off v ≡ x) × (j ≡ length old)). ⊎_elim
      (λ (q : (get_elem? old k ≡ some y) × (k < length old)). let l = lower k y q.0 hy in let w : v.life.next ≡ x.worker = ap (λ (z : View). z.worker) p.0 in absurd (omega arith))
      (λ (q : (split_off v ≡ y) × (k ≡ length old)). p.1 ∙ sym q.1)
      (at_end old (split_off v) y k ey))
      (at_end old (split_off v) x j ex)

  pub split_keeps_turn : TurnPart most (s.age.moment.made + 1) s.age.moment.numbers s.age.moment.owners s.age.moment.log (after_split most s)
  split_keeps_turn =
      let n = s.age.moment.numbers in let owners = s.age.moment.owners in let log = s.age.moment.log in
      let at = s.age.moment.there in let here = s.age.moment.here in
      let f = a.each i v at here in
      let m = is_made in
      let room = s.room in
      record {
        few = omega arith;
        tickets = a.tickets;
        draws = a.draws;
        served = a.served;
        owners_made = λ t k e. let h = a.owners_made t k e in omega arith;
        marks_made = λ x u e. let h = a.marks_made x u e in omega arith;
        low = a.low;
        numbered = a.numbered;
        one_seat = one_each;
        even = a.even;
        odd = λ h. split_some views i v at here (λ u. u.hand.writing ≡ true) (λ q. q) (a.odd h);
        longest = split_some views i v at here (λ u. u.knows.seen ≡ moves log) (λ q. q) a.longest;
        each = split_each views i v at (IsInTurn (s.age.moment.made + 1) n owners log)
            (λ j u apart e h. widen s.age.moment.made n owners log u (a.each j u e h))
            (widen s.age.moment.made n owners log (maker v) f)
            record {
              worker = omega arith;
              count = let t = tickets_none v.life.next owners (λ t k e z. let h = a.owners_made t k e in omega arith) in let k = marks_none v.life.next log (λ t k e z. let h = a.marks_made t k e in omega arith) in omega arith;
              ticket = λ t h. absurd (cc);
              turn = λ h. absurd (true≢false (sym h));
              writes = λ h. absurd (true≢false (sym h));
              shut = λ h. refl;
              seen = (moves log, refl);
              mine = sym (own_none v.life.next log (λ t k e z. let h = a.marks_made t k e in omega arith));
              trial = λ x h. absurd (cc);
            };
      }

  pub split_keeps_life : LifePart (s.age.moment.made + 1) s.age.start s.age.moment.log (after_split most s)
  split_keeps_life =
      let n = s.age.moment.numbers in let owners = s.age.moment.owners in let log = s.age.moment.log in
      let at = s.age.moment.there in let here = s.age.moment.here in
      let start = s.age.start in
      let g = s.age.life in
      let f = g.each i v at here in
      let zero_here = (f.makes s.makes).1 in
      let m = is_made in
      let makes = s.makes in
      let clear : length v.life.gathered ≡ 0 = ap length s.clear in
      let none_in : (j : ℕ) (u : View) → get_elem? views j ≡ some u → u.here ≡ true → 0 < length u.life.gathered → ⊥ = λ j u e h some_in.
      let same = a.one_seat i j v u at e here h (zero_here ∙ sym (g.gone j j u u e e h h some_in).0) in
      let is : v ≡ u = some-injective v u (sym at ∙ (ap (get_elem? views) same ∙ e)) in
      let d : length v.life.gathered ≡ length u.life.gathered = ap (λ (z : View). length z.life.gathered) is in omega arith in
      record {
        each = split_each views i v at (λ u. FitsLife (s.age.moment.made + 1) start log u.worker u.life)
            (λ j u apart e h. let q = g.each j u e h in record { start_is = q.start_is; makes = λ k. absurd (other_worker most s.age.moment.made n owners log views a i v at here j u apart e h (zero_here ∙ sym (q.makes k).1)); took = q.took })
            record { start_is = f.start_is; makes = λ k. (omega arith, zero_here); took = f.took }
            record { start_is = f.start_is; makes = λ k. absurd (omega arith); took = λ k l q. absurd (some-ne-none l (sym q)) };
        gone = λ j k x y ex ey hx hy some_in. absurd (split_each views i v at (λ u. 0 < length u.life.gathered → ⊥) (λ j' u apart e h. none_in j' u e h) (λ h. omega arith) (λ h. omega arith) j x ex hx some_in);
      }
