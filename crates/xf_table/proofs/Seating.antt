-- Seats that are split off and taken in keep the rule, and it holds of the first seat.
use Rattle.std.proofs.Common.{◌≡◌, ℕ, zero, suc, ◌+◌, ◌<◌, true, List, [], ◌∷◌, length, map, Some, Option, refl, sym, ap, ◌∙◌, arith}
use Rattle.std.specs.Prelude.{replicate}
use Rattle.std.proofs.lemmas.List.{length-replicate, length-map}
use mathlib.Core.Option.{some, some-injective, some-ne-none}
use lib.ListN.{get_elem?}
use Rattle.atomic_table.specs.Table.{Splits, Joins, opening}
use Rattle.atomic_table.proofs.Lists.{set_else}
use Rattle.xf_types.specs.declared.state.Sa.{Sa}
use Rattle.xf_types.specs.Machine.{Machine}
use Rattle.xf_types.specs.Standing.{Standing}
use Rattle.xf_views.specs.declared.view.View.{View}
use Rattle.xf_views.specs.declared.view.Start.{Start}
use Rattle.xf_views.specs.Starts.{first_view, first_numbers}
use Rattle.xf_invariant.specs.Meaning.{Told}
use Rattle.xf_ownpart.specs.Lists.{IsListing}
use Rattle.xf_ownpart.specs.OwnPart.{listed_at, standing_of}
use Rattle.xf_seats.specs.Opened.{Opened, slots_of, start_machine}
use Rattle.xf_seats.specs.Seats.{maker, split_off, taker, nobody}
use Rattle.xf_seats.specs.Splits.{Splitting}
use Rattle.xf_seats.specs.Joins.{Joining}
use Rattle.xf_seats.proofs.Split.{split_keeps_turn, split_keeps_life}
use Rattle.xf_seats.proofs.SplitRest.{split_keeps_image, split_keeps_own}
use Rattle.xf_seats.proofs.Join.{join_keeps_turn, join_keeps_life}
use Rattle.xf_seats.proofs.JoinRest.{join_keeps_image, join_keeps_own}
use Rattle.xf_seats.proofs.Holders.{split_keeps_held, join_keeps_held, one_seat_held}
use Rattle.xf_seats.proofs.First.{one_seat_turn, one_seat_life, one_seat_image, one_seat_own}
use Rattle.xf_table.specs.Rule.{Ruled, most, good_at, lists_at, laid, four}
use Rattle.xf_table.specs.Rows.{MaySplit, MayJoin}
use Rattle.xf_table.proofs.Scenes.{age, known}

-- an element of a list of equal ones
at_same : (n slot x : ℕ) → get_elem? (replicate n 0) slot ≡ some x → x ≡ 0
at_same zero slot x e = absurd (some-ne-none x (sym e))
at_same (suc n) zero x e = sym (some-injective 0 x e)
at_same (suc n) (suc slot) x e = at_same n slot x e

below_same : (n slot x : ℕ) → get_elem? (replicate n 0) slot ≡ some x → slot < n
below_same zero slot x e = absurd (some-ne-none x (sym e))
below_same (suc n) zero x e = omega arith
below_same (suc n) (suc slot) x e = let h = below_same n slot x e in omega arith

module _ {T : Type 0} (bucket_of : Sa → ℕ) (good : ℕ → ℕ → List ℕ → Told → Type 0) (lists : ℕ → ℕ → List ℕ → ℕ → Option (Sa × ℕ)) (machine : ℕ → ℕ → List ℕ → List Standing → Machine) (standing : T → Standing) where
  module _ (listing : (p s : ℕ) → IsListing (good p s) (lists p s)) (start : Start) where
    pub split_allowed : (id : ℕ) (v : View) → v.here ≡ true → MaySplit v → Splits (Ruled bucket_of good lists machine standing start) id v (maker v) (split_off v)
    split_allowed id v here may s r at =
        let same = ((r.life_part.each id v at here).makes may.makes).0 in
        let seats : v.life.start.seats ≡ start.seats = ap (λ (x : Start). x.seats) (known bucket_of good lists machine standing listing start s r id v at here) in
        let room = may.room in
        let few = r.opened.few_seats in
        let splitting : Splitting most = record { age = age bucket_of good lists machine standing listing start s r id v at here; makes = may.makes; room = omega arith; clear = may.clear } in
        record {
          made = r.made + 1;
          numbers = r.numbers;
          owners = r.owners;
          log = r.log;
          pins = r.pins;
          image = r.image;
          settled = r.settled;
          turns = r.turns;
          home = r.home;
          words = r.words;
          sizes = r.sizes;
          opened = r.opened;
          turn_part = split_keeps_turn most splitting;
          image_part = split_keeps_image s.views id v (record { there = at; here = here }) bucket_of (good_at good start) start.words r.numbers.generation r.log r.image r.settled r.image_part;
          own_part = split_keeps_own s.views id v (record { there = at; here = here }) (lists_at lists start) (start_machine machine start) r.settled r.turns r.log r.home r.own_part;
          held_part = split_keeps_held r.turns s.views id v (record { there = at; here = here }) r.held_part;
          legal = r.legal;
          life_part = split_keeps_life most splitting;
          values = record { there = r.values.there };
        }

    pub join_allowed : (id : ℕ) (v : View) (other : ℕ) (w : View) → v.here ≡ true → w.here ≡ true → MayJoin v w → Joins (Ruled bucket_of good lists machine standing start) id v other w (taker v w) nobody
    join_allowed id v other w here there may s r at apart at_other =
        let is : get_elem? s.views other ≡ some w = sym (set_else s.views id other (taker v w) apart) ∙ at_other in
        let joining : Joining most = record {
          age = age bucket_of good lists machine standing listing start s r id v at here;
          other = other;
          guest = w;
          apart = apart;
          there = record { there = is; here = there };
          first = may.first;
          next = may.next;
          closed = may.shut;
        } in
        record {
          made = r.made;
          numbers = r.numbers;
          owners = r.owners;
          log = r.log;
          pins = r.pins;
          image = r.image;
          settled = r.settled;
          turns = r.turns;
          home = r.home;
          words = r.words;
          sizes = r.sizes;
          opened = r.opened;
          turn_part = join_keeps_turn most joining;
          image_part = join_keeps_image s.views id other v w (record { there = at; here = here }) bucket_of (good_at good start) start.words r.numbers.generation r.log r.image r.settled r.image_part;
          own_part = join_keeps_own s.views id other v w (record { there = at; here = here }) (lists_at lists start) (start_machine machine start) r.settled r.turns r.log r.home r.own_part;
          held_part = join_keeps_held r.turns s.views id v (record { there = at; here = here }) r.held_part other w (record { there = is; here = there }) apart may.slotless;
          legal = r.legal;
          life_part = join_keeps_life most joining;
          values = record { there = r.values.there };
        }

  -- a value at home stands for what its list of standings says
  home_at : (xs : List T) (slot : ℕ) (y : Standing) → get_elem? (map standing xs) slot ≡ some y → (x : T) × (get_elem? (map some (map Some xs)) slot ≡ some (some (Some x))) × (standing x ≡ y)
  home_at [] slot y e = absurd (some-ne-none y (sym e))
  home_at (x ∷ xs) zero y e = (x, refl, some-injective (standing x) y e)
  home_at (x ∷ xs) (suc slot) y e = home_at xs slot y e

  -- the rule of the table as it begins
  pub opening_ruled : (start : Start) → Opened bucket_of good lists machine start → (xs : List T) → start.homes ≡ map standing xs
      → Ruled bucket_of good lists machine standing start (opening (laid (four first_numbers) (replicate start.seats 0) start.words (replicate (slots_of start) 0)) (map Some xs) (first_view start 0 1))
  opening_ruled start o xs stand =
      let turns = replicate (slots_of start) 0 in
      let home : ℕ → Standing = λ slot. standing_of (listed_at (lists_at lists start) (start_machine machine start) start.words slot) in
      record {
        made = 1;
        numbers = first_numbers;
        owners = [];
        log = [];
        pins = replicate start.seats 0;
        image = start.words;
        settled = start.words;
        turns = turns;
        home = home;
        words = refl;
        sizes = record {
          pins_are = length-replicate start.seats 0;
          image_is = refl;
          turns_are = length-replicate (slots_of start) 0;
          homes_are = length-map (map Some xs) some ∙ (length-map xs Some ∙ (sym (length-map xs standing) ∙ (ap length (sym stand) ∙ o.count)));
        };
        opened = o;
        turn_part = one_seat_turn most start;
        image_part = one_seat_image bucket_of (good_at good start) start.words start;
        own_part = one_seat_own (lists_at lists start) (start_machine machine start) start.words turns home start (λ slot free. refl);
        held_part = one_seat_held turns start (λ slot x e. at_same (slots_of start) slot x e);
        legal = record { in_order = tt; replies = tt };
        life_part = one_seat_life start;
        values = record {
          there = λ slot free. home_at xs slot (home slot) (ap (λ (l : List Standing). get_elem? l slot) (sym stand) ∙ o.values slot (below_same (slots_of start) slot 0 free));
        };
      }
