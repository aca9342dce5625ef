-- Steps that change neither the receipts, nor words, nor turns keep all parts.
use Rattle.std.proofs.Common.{◌≡◌, ℕ, ◌+◌, ◌<◌, ◌≤◌, true, not, length, set, Some, None, Option, refl, sym, ap, ◌∙◌, subst, arith, ⊎_elim, ltb-true}
use Rattle.std.specs.Prelude.{nat_lt, is_some, slice_get, slice_index, slice_index_or}
use Rattle.std.proofs.lemmas.Option.{slice_get_cases}
use Rattle.xf_types.specs.Machine.{Machine}
use Rattle.xf_views.specs.declared.hand.Hand.{Hand}
use Rattle.xf_views.specs.Log.{Numbers}
use Rattle.xf_views.specs.Views.{view_after_ticket, view_after_serving, view_after_begin, view_after_finish, view_after_leave, view_after_load, view_after_pin, view_after_load_pin}
use Rattle.xf_views.proofs.Lists.{at_below}
use Rattle.xf_invariant.specs.PinPart.{PinPart}
use Rattle.xf_invariant.proofs.ImageTurns.{ticket_keeps_image, serving_keeps_image, leave_keeps_image, pin_keeps_image, load_pin_keeps_image}
use Rattle.xf_invariant.proofs.ImageOpenings.{begin_keeps_image, finish_keeps_image}
use Rattle.xf_invariant.proofs.ImageReads.{load_keeps_image}
use Rattle.xf_invariant.proofs.PinRest.{ticket_keeps_pins, serving_keeps_pins, begin_keeps_pins, finish_keeps_pins, leave_keeps_pins, load_keeps_pins}
use Rattle.xf_invariant.proofs.PinWords.{pin_keeps_pins, load_pin_keeps_pins}
use Rattle.xf_stale.proofs.Stale.{pin_keeps as pin_keeps_stale}
use Rattle.xf_legalpart.proofs.AgainRows.{begin_keeps_again, finish_keeps_again}
use Rattle.xf_proto.specs.declared.step.Kind.{Kind}
use Rattle.xf_proto.specs.declared.step.Kind.TheVariants as kind
use Rattle.xf_proto.specs.SeatState.{SeatState}
use Rattle.xf_proto.specs.ProtocolState.{ProtocolState}
use Rattle.xf_proto.specs.Legality.{may_step}
use Rattle.xf_proto.specs.Effects.{pin_after, pin_of}
use Rattle.xf_runs.specs.Known.{Known, machine_now, known_after}
use Rattle.xf_runs.specs.Holds.{HonestHolds}
use Rattle.xf_runs.proofs.Flags.{both, off}
use Rattle.xf_runs.proofs.Lookups.{index-at}
use Rattle.xf_runs.proofs.Always.{seated}
use Rattle.xf_runs.proofs.Scenes.{Sight, turn, account, hold, always, mine, own, again, counted, stale, ours}

module _ (sight : Sight) where
  open sight use {bucket_of, good, lists, id_place, index_at, policies, states, listing, pools, shows, made, base, start, opens, known as k, holds as h, seat as i, view as v, pending as o, there as at, fits as f}

  abbrev p : ProtocolState
  p = k.state

  abbrev n : Numbers
  n = p.numbers

  abbrev m : ℕ
  m = p.steps + 1

  abbrev last : Machine
  last = machine_now lists start k

  abbrev Part : Known → Type 0
  Part z = HonestHolds bucket_of good lists id_place policies states made base start z

  abbrev pub Next : Kind → Type 0
  Next j = Part (known_after lists start k i v (seated v o) j)

  pub ticket : may_step p i v.hand kind.Ticket ≡ true → Next kind.Ticket
  ticket legal = let w = view_after_ticket v n.ticket in record {
    always = always sight kind.Ticket legal;
    image = ticket_keeps_image bucket_of good base m made n k.owners k.log p.words k.settled k.views (turn sight) h.image i v at f.here n.ticket;
    pinned = ticket_keeps_pins policies (policies + states) id_place m made n k.owners k.log p.words k.settled k.pins k.views (turn sight) h.pinned i v at f.here n.ticket;
    own = own sight w (mine sight);
    legal = h.legal;
    again = again sight w (counted sight);
    retired = h.retired;
    stale = stale sight w (ours sight);
    slots = h.slots;
    words = h.words;
  }

  pub serving : may_step p i v.hand kind.Serving ≡ true → Next kind.Serving
  serving legal =
      let w = view_after_serving v n.serving p.words in
      let without = off v.hand.has_turn (both (is_some v.hand.ticket) (not v.hand.has_turn) legal).1 in
      record {
        always = always sight kind.Serving legal;
        image = serving_keeps_image bucket_of good base m made n k.owners k.log p.words k.settled k.views (turn sight) h.image i v at f.here without;
        pinned = serving_keeps_pins policies (policies + states) id_place m made n k.owners k.log p.words k.settled k.pins k.views (turn sight) h.pinned i v at f.here n.serving p.words without;
        own = own sight w (mine sight);
        legal = h.legal;
        again = again sight w (counted sight);
        retired = h.retired;
        stale = stale sight w (ours sight);
        slots = h.slots;
        words = h.words;
      }

  pub begins : may_step p i v.hand kind.Begin ≡ true → Next kind.Begin
  begins legal =
      let w = view_after_begin v in
      let l = both v.hand.has_turn (not v.hand.writing) legal in
      record {
        always = always sight kind.Begin legal;
        image = begin_keeps_image bucket_of good base m made n k.owners k.log p.words k.settled k.views (turn sight) h.image i v at f.here l.0 (off v.hand.writing l.1);
        pinned = begin_keeps_pins policies (policies + states) id_place m made n k.owners k.log p.words k.settled k.pins k.views (turn sight) h.pinned i v at f.here;
        own = own sight w (mine sight);
        legal = h.legal;
        again = begin_keeps_again bucket_of good m base (account sight);
        retired = h.retired;
        stale = stale sight w (ours sight);
        slots = h.slots;
        words = h.words;
      }

  pub finish : may_step p i v.hand kind.Finish ≡ true → Next kind.Finish
  finish legal =
      let w = view_after_finish v in
      let l = both v.hand.writing v.hand.drawn legal in
      record {
        always = always sight kind.Finish legal;
        image = finish_keeps_image bucket_of good base m made n k.owners k.log p.words k.settled k.views (turn sight) h.image i v at f.here l.0 l.1;
        pinned = finish_keeps_pins policies (policies + states) id_place m made n k.owners k.log p.words k.settled k.pins k.views (turn sight) h.pinned i v at f.here;
        own = own sight w (mine sight);
        legal = h.legal;
        again = finish_keeps_again bucket_of good m base (account sight);
        retired = h.retired;
        stale = stale sight w (ours sight);
        slots = h.slots;
        words = h.words;
      }

  pub leave : may_step p i v.hand kind.Leave ≡ true → Next kind.Leave
  leave legal = let w = view_after_leave v in record {
    always = always sight kind.Leave legal;
    image = leave_keeps_image bucket_of good base m made n k.owners k.log p.words k.settled k.views (turn sight) h.image i v at f.here;
    pinned = leave_keeps_pins policies (policies + states) id_place m made n k.owners k.log p.words k.settled k.pins k.views (turn sight) h.pinned i v at f.here;
    own = own sight w (mine sight);
    legal = h.legal;
    again = again sight w (counted sight);
    retired = h.retired;
    stale = stale sight w (ours sight);
    slots = h.slots;
    words = h.words;
  }

  pub load_word : (place : ℕ) → may_step p i v.hand (kind.LoadWord place) ≡ true → Next (kind.LoadWord place)
  load_word place legal = let w = view_after_load v place (slice_index p.words place) in record {
    always = always sight (kind.LoadWord place) legal;
    image = load_keeps_image bucket_of good base m made n k.owners k.log p.words k.settled k.views (turn sight) h.image i v at f.here place;
    pinned = load_keeps_pins policies (policies + states) id_place m made n k.owners k.log p.words k.settled k.pins k.views (turn sight) h.pinned i v at f.here place (slice_index p.words place);
    own = own sight w (mine sight);
    legal = h.legal;
    again = again sight w (counted sight);
    retired = h.retired;
    stale = stale sight w (ours sight);
    slots = h.slots;
    words = h.words;
  }

  -- a pin is at most one more than the generation
  pin-low : pin_after v.hand.began ≤ n.generation + 1
  pin-low = by v.hand.began refl
    where
      by : (b : Option ℕ) → v.hand.began ≡ b → pin_after b ≤ n.generation + 1
      by None e = omega arith
      by (Some g) e = let l = ((h.image.each i v at f.here).read g e).0 in omega arith

  own-pin : v.worker < length k.pins
  own-pin = at_below k.pins v.worker v.hand.pin (h.pinned.each i v at f.here).word

  pub pin : may_step p i v.hand kind.Pin ≡ true → Next kind.Pin
  pin legal = let word = pin_after v.hand.began in let w = view_after_pin v word in record {
    always = always sight kind.Pin legal;
    image = pin_keeps_image bucket_of good base m made n k.owners k.log p.words k.settled k.views (turn sight) h.image i v at f.here word;
    pinned = pin_keeps_pins policies (policies + states) id_place m made n k.owners k.log p.words k.settled k.pins k.views (turn sight) h.pinned i v at f.here word pin-low own-pin;
    own = own sight w (mine sight);
    legal = h.legal;
    again = again sight w (counted sight);
    retired = h.retired;
    stale = pin_keeps_stale bucket_of good lists id_place policies states listing shows m base start (hold sight) w refl;
    slots = h.slots;
    words = h.words;
  }

  pub unpin : may_step p i v.hand kind.Unpin ≡ true → Next kind.Unpin
  unpin legal = let w = view_after_pin v 0 in record {
    always = always sight kind.Unpin legal;
    image = pin_keeps_image bucket_of good base m made n k.owners k.log p.words k.settled k.views (turn sight) h.image i v at f.here 0;
    pinned = pin_keeps_pins policies (policies + states) id_place m made n k.owners k.log p.words k.settled k.pins k.views (turn sight) h.pinned i v at f.here 0 (omega arith) own-pin;
    own = own sight w (mine sight);
    legal = h.legal;
    again = again sight w (counted sight);
    retired = h.retired;
    stale = pin_keeps_stale bucket_of good lists id_place policies states listing shows m base start (hold sight) w refl;
    slots = h.slots;
    words = h.words;
  }

  -- the pin words are those of the seats
  pin-word : (seat : ℕ) → seat < length p.seats → slice_index k.pins seat ≡ pin_of (slice_get p.seats seat)
  pin-word seat less = ⊎_elim
      (λ (t : (s : SeatState) × (seat < length p.seats) × (slice_get p.seats seat ≡ Some s) × (slice_index_or p.seats seat s ≡ s)).
      let u = h.always.told.seats seat t.0 t.2 in
      let word = (h.pinned.each seat u.0 u.1 u.2.here).word in
      ap (slice_index k.pins) (sym u.2.named) ∙ index-at k.pins u.0.worker u.0.hand.pin word ∙ ap (λ (x : Hand). x.pin) (sym u.2.known) ∙ ap pin_of (sym t.2))
      (λ (t : (length p.seats ≤ seat) × (slice_get p.seats seat ≡ None)). let z = t.0 in absurd (omega arith))
      (slice_get_cases p.seats seat).1

  pub load_pin : (seat : ℕ) → may_step p i v.hand (kind.LoadPin seat) ≡ true → Next (kind.LoadPin seat)
  load_pin seat legal =
      let word = pin_of (slice_get p.seats seat) in
      let w = view_after_load_pin v seat word in
      let l = both v.hand.has_turn (nat_lt seat (length p.seats)) legal in
      record {
        always = always sight (kind.LoadPin seat) legal;
        image = load_pin_keeps_image bucket_of good base m made n k.owners k.log p.words k.settled k.views (turn sight) h.image i v at f.here seat word;
        pinned = subst (λ x. PinPart policies (policies + states) id_place n.generation p.words k.settled k.pins (set k.views i (view_after_load_pin v seat x))) (pin-word seat (ltb-true seat (length p.seats) l.1))
            (load_pin_keeps_pins policies (policies + states) id_place m made n k.owners k.log p.words k.settled k.pins k.views (turn sight) h.pinned i v at f.here seat l.0);
        own = own sight w (mine sight);
        legal = h.legal;
        again = again sight w (counted sight);
        retired = h.retired;
        stale = stale sight w (ours sight);
        slots = h.slots;
        words = h.words;
      }
