-- The steps: what each one makes of what its own seat knows.
use Rattle.std.specs.Prelude.{ℕ, zero, suc, ◌+◌, ◌%◌, nat_lt, ◌&&◌, Bool, true, false, if◌then◌else◌, List, [], ◌∷◌, ◌++◌, map, filter, not, Option, Some, None, ◌==◌, slice_set}
use Rattle.xf_types.specs.declared.call.Receipt.{Receipt}
use Rattle.xf_views.specs.declared.entry.Listed.{Listed}
use Rattle.xf_views.specs.declared.view.View.{View}
use Rattle.xf_views.specs.declared.view.SlotTurn.{SlotTurn}
use Rattle.xf_views.specs.Hands.{is_same, hand_after_ticket, hand_after_serving, hand_after_begin, hand_after_store, hand_after_draw, hand_after_trial, hand_after_finish, hand_after_leave, hand_after_generation, hand_after_look, hand_after_pin, hand_after_load_pin, hand_after_take, hand_after_give}

abbrev pub view_after_ticket : View → ℕ → View
view_after_ticket v t =
    record v { hand = hand_after_ticket v.hand t; knows = record v.knows { count = v.knows.count + 1 } }

-- one with the turn knows the words
abbrev pub view_after_serving : View → ℕ → List ℕ → View
view_after_serving v serving words =
    record v { hand = hand_after_serving v.hand serving; image = record v.image { words = words } }

-- the words as the opening begins are kept
abbrev pub view_after_begin : View → View
view_after_begin v =
    record v {
      hand = hand_after_begin v.hand;
      image = record v.image { kept = v.image.words };
      pins = record v.pins { fresh = [] };
    }

-- a status word that becomes 1 lists its slot
abbrev pub fresh_after : ℕ → ℕ → ℕ → List ℕ → List ℕ
fresh_after slots place word fresh = if nat_lt place slots && (word == 1) then place ∷ fresh else fresh

abbrev pub view_after_store : ℕ → View → ℕ → ℕ → View
view_after_store slots v place word =
    record v {
      hand = hand_after_store slots v.hand place word;
      image = record v.image { words = slice_set v.image.words place word };
      pins = record v.pins { fresh = fresh_after slots place word v.pins.fresh };
    }

-- a draw whose receipt stands at once: all moves so far are seen; the last argument is what is known of the slots' turns then
abbrev pub view_after_draw : View → Bool → List Receipt → Receipt → List SlotTurn → View
view_after_draw v moves all r turns =
    record v {
      hand = hand_after_draw v.hand moves;
      knows = record v.knows { count = v.knows.count + 1; seen = all; mine = v.knows.mine ++ r ∷ []; anew = false; overtaken = [] };
      own = record v.own { turns = turns };
    }

-- the turns that are held now are those under which the trial is drawn
abbrev pub tried_turn : SlotTurn → SlotTurn
tried_turn e = record e { tried = true }

-- a draw that waits for the end of its read
abbrev pub view_after_trial : View → ℕ → List Receipt → View
view_after_trial v n all =
    record v {
      hand = hand_after_trial v.hand n;
      knows = record v.knows { count = v.knows.count + 1; seen = all };
      own = record v.own { turns = map tried_turn v.own.turns };
    }

abbrev pub view_after_finish : View → View
view_after_finish v = record v { hand = hand_after_finish v.hand }

abbrev pub view_after_leave : View → View
view_after_leave v = record v { hand = hand_after_leave v.hand }

-- a read that began since the last receipt, with a trial, an even first and a greater second value, was overtaken
abbrev pub overtaken_after : Bool → Option ℕ → Option ℕ → ℕ → List (ℕ × ℕ) → List (ℕ × ℕ)
overtaken_after true (Some n) (Some b) g pairs = if (b % 2 == 0) && nat_lt b g then pairs ++ (b, g) ∷ [] else pairs
overtaken_after true None began g pairs = pairs
overtaken_after true (Some n) None g pairs = pairs
overtaken_after false trial began g pairs = pairs

-- a receipt of the seat's own ends the count
abbrev pub counted_from : List Receipt → List (ℕ × ℕ) → List (ℕ × ℕ)
counted_from [] pairs = pairs
counted_from (r ∷ rs) pairs = []

-- the loads of a read that ends the same are kept while the seat is pinned
abbrev pub shows_after : Bool → ℕ → List (ℕ × ℕ) → List (List (ℕ × ℕ)) → List (List (ℕ × ℕ))
shows_after same zero loads shows = shows
shows_after false (suc pin) loads shows = shows
shows_after true (suc pin) loads shows = shows ++ loads ∷ []

-- a read ends and the next begins: all moves so far are seen; settled is the trial's receipt, where it comes to stand
abbrev pub view_after_generation : View → ℕ → List Receipt → List Receipt → List SlotTurn → View
view_after_generation v g all settled turns =
    record v {
      hand = hand_after_generation v.hand g;
      knows = record v.knows {
        seen = all;
        mine = v.knows.mine ++ settled;
        anew = true;
        overtaken = counted_from settled (overtaken_after v.knows.anew v.hand.trial v.hand.began g v.knows.overtaken);
      };
      image = record v.image { loads = [] };
      pins = record v.pins { shows = shows_after (is_same v.hand.began g) v.hand.pin v.image.loads v.pins.shows };
      own = record v.own { turns = turns };
    }

abbrev pub view_after_load : View → ℕ → ℕ → View
view_after_load v place word =
    record v { hand = hand_after_look v.hand; image = record v.image { loads = v.image.loads ++ (place, word) ∷ [] } }

-- the own pin word is set, or cleared with 0; all holds end
abbrev pub view_after_pin : View → ℕ → View
view_after_pin v pin = record v { hand = hand_after_pin v.hand pin; pins = record v.pins { shows = [] } }

abbrev pub view_after_load_pin : View → ℕ → ℕ → View
view_after_load_pin v k pin = record v { hand = hand_after_load_pin v.hand k pin }

-- the turn of a slot is free and taken: from now on it is known what is listed there
abbrev pub view_after_take : View → ℕ → Option Listed → View
view_after_take v slot listed =
    record v {
      hand = hand_after_take v.hand slot;
      own = record v.own { turns = (record { slot = slot; listed = listed; still = true; tried = false }) ∷ v.own.turns };
    }

-- it isn't free
abbrev pub view_after_miss : View → View
view_after_miss v = record v { hand = hand_after_look v.hand }

abbrev pub view_after_give : View → ℕ → View
view_after_give v slot =
    record v {
      hand = hand_after_give v.hand slot;
      own = record v.own { turns = filter (λ e. not (e.slot == slot)) v.own.turns };
    }
