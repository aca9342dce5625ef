-- Seats that are split off and taken in: the parts on pins, on overtaken reads and on held states.
use Rattle.std.proofs.Common.{◌≡◌, ℕ, ◌+◌, ◌<◌, ◌≤◌, ◌⊎◌, true, true≢false, List, [], Option, refl, sym, arith, slice_index}
use mathlib.Core.Option.{some, some-ne-none}
use lib.ListN.{get_elem?}
use Rattle.xf_types.specs.declared.state.Sa.{Sa}
use Rattle.xf_types.specs.Machine.{Machine}
use Rattle.xf_types.specs.History.{machine_of}
use Rattle.xf_views.specs.declared.view.View.{View}
use Rattle.xf_views.specs.Hands.{loaded_since}
use Rattle.xf_views.specs.Log.{Mark, receipts_of}
use Rattle.xf_views.specs.TurnSays.{IsSeat}
use Rattle.xf_invariant.specs.PinPart.{Has, Holds, IsInPin, PinPart}
use Rattle.xf_stale.specs.StalePart.{IsInStale, StalePart}
use Rattle.xf_legalpart.specs.AgainPart.{IsInAgain, AgainPart}
use Rattle.xf_seats.specs.Seats.{maker, split_off, taker, split_views, joined_views}
use Rattle.xf_seats.proofs.Split.{split_each}
use Rattle.xf_seats.proofs.Spent.{joined_each}

-- nothing is held without shows
none_held : (policies slots : ℕ) (id_place : ℕ → ℕ) (s sid : ℕ) → Holds policies slots id_place [] s sid → ⊥
none_held policies slots id_place s sid h = some-ne-none h.0 (sym h.1.1)

module _ (policies slots : ℕ) (id_place : ℕ → ℕ) (generation : ℕ) (words settled pins : List ℕ) where
  -- the second seat doesn't hold a retired slot for which the first one, with the turn, found its pin clear
  abbrev IsClear : View → View → Type 0
  IsClear v u = v.hand.has_turn ≡ true → (s pin sid : ℕ) → 2 ≤ slice_index words s → Has (loaded_since s v.hand) (u.worker, pin) → (pin ≡ 0) ⊎ (slice_index words s < pin)
      → Holds policies slots id_place u.pins.shows s sid → ⊥

  -- nor one that the first one listed in its opening
  abbrev IsFresh : View → View → Type 0
  IsFresh v u = v.hand.writing ≡ true → (s sid : ℕ) → Has v.pins.fresh s → Holds policies slots id_place u.pins.shows s sid → ⊥

  module _ (views : List View) (i : ℕ) (v : View) (is : IsSeat views i v) (p : PinPart policies slots id_place generation words settled pins views) where
    old_clear : (j k : ℕ) (x y : View) → get_elem? views j ≡ some x → get_elem? views k ≡ some y → x.here ≡ true → y.here ≡ true → IsClear x y
    old_clear j k x y ex ey hx hy turn = p.clear j k x y ex hx turn ey hy

    old_fresh : (j k : ℕ) (x y : View) → get_elem? views j ≡ some x → get_elem? views k ≡ some y → x.here ≡ true → y.here ≡ true → IsFresh x y
    old_fresh j k x y ex ey hx hy writing = p.fresh j k x y ex hx writing ey hy

    module _ (P : View → View → Type 0) (old : (j k : ℕ) (x y : View) → get_elem? views j ≡ some x → get_elem? views k ≡ some y → x.here ≡ true → y.here ≡ true → P x y) where
      split_pairs : (P v v → P (maker v) (maker v)) → ((x : View) → P x v → P x (maker v)) → ((y : View) → P v y → P (maker v) y)
          → ((x : View) → P x (split_off v)) → ((y : View) → P (split_off v) y)
          → (j k : ℕ) (x y : View) → get_elem? (split_views views i v) j ≡ some x → get_elem? (split_views views i v) k ≡ some y → x.here ≡ true → y.here ≡ true → P x y
      split_pairs both second first new_second new_first j k x y ex ey hx hy =
          split_each views i v is.there (λ a. P a y)
          (λ j' a apart e h. split_each views i v is.there (λ b. P a b) (λ k' b apart' e' h'. old j' k' a b e e' h h') (second a (old j' i a v e is.there h is.here)) (new_second a) k y ey hy)
          (split_each views i v is.there (λ b. P (maker v) b) (λ k' b apart' e' h'. first b (old i k' v b is.there e' is.here h')) (both (old i i v v is.there is.there is.here is.here)) (new_second (maker v)) k y ey hy)
          (new_first y) j x ex hx

      joined_pairs : (w : View) (m : ℕ) → (P v v → P (taker v w) (taker v w)) → ((x : View) → P x v → P x (taker v w)) → ((y : View) → P v y → P (taker v w) y)
          → (j k : ℕ) (x y : View) → get_elem? (joined_views views i v m w) j ≡ some x → get_elem? (joined_views views i v m w) k ≡ some y → x.here ≡ true → y.here ≡ true → P x y
      joined_pairs w m both second first j k x y ex ey hx hy =
          joined_each views i v m w is.there (λ a. P a y)
          (λ j' a apart e h. joined_each views i v m w is.there (λ b. P a b) (λ k' b apart' e' h'. old j' k' a b e e' h h') (second a (old j' i a v e is.there h is.here)) k y ey hy)
          (joined_each views i v m w is.there (λ b. P (taker v w) b) (λ k' b apart' e' h'. first b (old i k' v b is.there e' is.here h')) (both (old i i v v is.there is.there is.here is.here)) k y ey hy)
          j x ex hx

    pub split_keeps_pins : get_elem? pins v.life.next ≡ some 0 → PinPart policies slots id_place generation words settled pins (split_views views i v)
    split_keeps_pins word = record {
      retired = p.retired;
      each = split_each views i v is.there (IsInPin policies slots id_place generation words settled pins) (λ j u apart e h. p.each j u e h) (p.each i v is.there is.here)
          record {
            word = word;
            low = omega arith;
            bare = λ h. refl;
            holds = λ s sid h. absurd (none_held policies slots id_place s sid h);
          };
      clear = λ j k x y ex hx turn ey hy. split_pairs IsClear old_clear (λ q. q) (λ a q. q) (λ b q. q)
          (λ a t s pin sid old has low h. none_held policies slots id_place s sid h) (λ b t. absurd (true≢false (sym t))) j k x y ex ey hx hy turn;
      fresh = λ j k x y ex hx writing ey hy. split_pairs IsFresh old_fresh (λ q. q) (λ a q. q) (λ b q. q)
          (λ a t s sid has h. none_held policies slots id_place s sid h) (λ b t. absurd (true≢false (sym t))) j k x y ex ey hx hy writing;
    }

    pub join_keeps_pins : (j : ℕ) (w : View) → PinPart policies slots id_place generation words settled pins (joined_views views i v j w)
    join_keeps_pins m w = record {
      retired = p.retired;
      each = joined_each views i v m w is.there (IsInPin policies slots id_place generation words settled pins) (λ k u apart e h. p.each k u e h) (p.each i v is.there is.here);
      clear = λ j k x y ex hx turn ey hy. joined_pairs IsClear old_clear w m (λ q. q) (λ a q. q) (λ b q. q) j k x y ex ey hx hy turn;
      fresh = λ j k x y ex hx writing ey hy. joined_pairs IsFresh old_fresh w m (λ q. q) (λ a q. q) (λ b q. q) j k x y ex ey hx hy writing;
    }

module _ (views : List View) (i : ℕ) (v : View) (is : IsSeat views i v) where
  pub split_keeps_again : (generation : ℕ) (log : List Mark) → AgainPart generation log views → AgainPart generation log (split_views views i v)
  split_keeps_again generation log g = record {
    each = split_each views i v is.there (IsInAgain generation log) (λ j u apart e h. g.each j u e h) (g.each i v is.there is.here)
        record { counted = tt; current = λ b t. absurd (true≢false (sym t)) };
  }

  pub join_keeps_again : (j : ℕ) (w : View) (generation : ℕ) (log : List Mark) → AgainPart generation log views → AgainPart generation log (joined_views views i v j w)
  join_keeps_again j w generation log g = record {
    each = joined_each views i v j w is.there (IsInAgain generation log) (λ k u apart e h. g.each k u e h) (g.each i v is.there is.here);
  }

  module _ (lists : List ℕ → ℕ → Option (Sa × ℕ)) (id_place : ℕ → ℕ) (policies states : ℕ) (start : Machine) (log : List Mark) (settled : List ℕ) (g : StalePart lists id_place policies states start log settled views) where
    pub split_keeps_stale : StalePart lists id_place policies states start log settled (split_views views i v)
    split_keeps_stale = record {
      each = split_each views i v is.there (IsInStale lists id_place policies states (machine_of start (receipts_of log)).shown settled) (λ j u apart e h. g.each j u e h) (g.each i v is.there is.here)
          (λ slot sid h. absurd (none_held policies (policies + states) id_place slot sid h));
    }

    pub join_keeps_stale : (j : ℕ) (w : View) → StalePart lists id_place policies states start log settled (joined_views views i v j w)
    join_keeps_stale j w = record {
      each = joined_each views i v j w is.there (IsInStale lists id_place policies states (machine_of start (receipts_of log)).shown settled) (λ k u apart e h. g.each k u e h) (g.each i v is.there is.here);
    }
