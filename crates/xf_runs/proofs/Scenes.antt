-- What a step starts from, and the parts of which it may not speak.
use Rattle.std.proofs.Common.{◌≡◌, ℕ, ◌+◌, true, List, set, Option, refl}
use mathlib.Core.Option.{some}
use lib.ListN.{get_elem?}
use Rattle.xf_types.specs.declared.call.Receipt.{Receipt}
use Rattle.xf_types.specs.declared.state.Sa.{Sa}
use Rattle.xf_types.specs.Machine.{Machine}
use Rattle.xf_types.specs.Standing.{Standing}
use Rattle.xf_views.specs.declared.view.View.{View}
use Rattle.xf_views.specs.Log.{Numbers, Mark}
use Rattle.xf_views.specs.TurnPart.{TurnPart}
use Rattle.xf_invariant.specs.Meaning.{Told}
use Rattle.xf_invariant.specs.ImageLaws.{Scene}
use Rattle.xf_ownpart.specs.Lists.{IsListing}
use Rattle.xf_ownpart.specs.OwnPart.{IsInOwn, OwnPart}
use Rattle.xf_ownpart.specs.OwnLaws.{IsStart, Shift}
use Rattle.xf_ownpart.proofs.OwnSeats.{quiet as own_quiet, mine as own_mine}
use Rattle.xf_retired.specs.Pools.{ArePools}
use Rattle.xf_stale.specs.StalePart.{AreShown, IsInStale, StalePart}
use Rattle.xf_stale.specs.StaleLaws.{Hold}
use Rattle.xf_stale.proofs.Stale.{quiet as stale_quiet, ours as stale_ours}
use Rattle.xf_legalpart.specs.AgainPart.{IsInAgain, AgainPart}
use Rattle.xf_legalpart.specs.AgainLaws.{Account}
use Rattle.xf_legalpart.proofs.AgainRows.{quiet as again_quiet, mine as again_mine}
use Rattle.xf_proto.specs.declared.step.Kind.{Kind}
use Rattle.xf_proto.specs.ProtocolState.{ProtocolState}
use Rattle.xf_proto.specs.Legality.{may_step}
use Rattle.xf_runs.specs.Known.{Known, machine_now, known_after}
use Rattle.xf_runs.specs.Holds.{FitsSeat, AlwaysHolds, at_home, HonestHolds}
use Rattle.xf_runs.proofs.Always.{seated, turn as raised, step_keeps}

-- a seat that is to make a step, in a state of which all parts hold, whatever image words mean
pub record Sight : Type 1 where
  pub bucket_of : Sa → ℕ
  pub good : List ℕ → Told → Type 0
  pub lists : List ℕ → ℕ → Option (Sa × ℕ)
  pub id_place : ℕ → ℕ
  pub index_at : List ℕ → ℕ → Option ℕ
  pub policies : ℕ
  pub states : ℕ
  pub listing : IsListing good lists
  pub pools : ArePools good lists index_at policies states
  pub shows : AreShown good lists id_place policies states
  pub made : ℕ
  pub base : List ℕ
  pub start : Machine
  pub opens : IsStart bucket_of good lists base start
  pub known : Known
  pub holds : HonestHolds bucket_of good lists id_place policies states made base start known
  pub seat : ℕ
  pub view : View
  pub pending : Option Receipt
  pub there : get_elem? known.views seat ≡ some view
  pub fits : FitsSeat seat (seated view pending) view

module _ (sight : Sight) where
  open sight use {bucket_of, good, lists, id_place, index_at, policies, states, listing, pools, shows, made, base, start, opens, known as k, holds as h, seat as i, view as v, pending as o, there as at, fits as f}

  abbrev p : ProtocolState
  p = k.state

  abbrev n : Numbers
  n = p.numbers

  abbrev m : ℕ
  m = p.steps + 1

  abbrev last : Machine
  last = machine_now lists start k

  abbrev pub turn : TurnPart m made n k.owners k.log k.views
  turn = raised lists start made k h.always i v o at f

  abbrev pub scene : Scene bucket_of good m base
  scene = record {
    made = made;
    numbers = n;
    owners = k.owners;
    log = k.log;
    words = p.words;
    settled = k.settled;
    views = k.views;
    seat = i;
    view = v;
    turn = turn;
    image = h.image;
    there = at;
    here = f.here;
  }

  abbrev pub shift : Shift bucket_of good lists m base start
  shift = record { scene = scene; turns = p.turns; home = at_home lists start k.log k.settled; opens = opens; legal = h.legal; own = h.own }

  abbrev pub account : Account bucket_of good m base
  account = record { scene = scene; again = h.again }

  abbrev pub hold : Hold bucket_of good lists id_place policies states m base start
  hold = record { shift = shift; stale = h.stale }

  pub always : (j : Kind) → may_step p i v.hand j ≡ true → AlwaysHolds made (known_after lists start k i v (seated v o) j)
  always = step_keeps lists start made k h.always i v o at f

  pub mine : IsInOwn lists last k.settled p.turns k.log v
  mine = own_mine bucket_of good lists listing m base start shift

  -- parts of which the step doesn't speak
  pub own : (w : View) → IsInOwn lists last k.settled p.turns k.log w → OwnPart lists start k.settled p.turns k.log (at_home lists start k.log k.settled) (set k.views i w)
  own w fits = own_quiet bucket_of good lists listing m base start shift w fits

  pub again : (w : View) → IsInAgain n.generation k.log w → AgainPart n.generation k.log (set k.views i w)
  again w fits = again_quiet bucket_of good m base account w fits

  pub counted : IsInAgain n.generation k.log v
  counted = again_mine bucket_of good m base account

  pub stale : (w : View) → IsInStale lists id_place policies states last.shown k.settled w → StalePart lists id_place policies states start k.log k.settled (set k.views i w)
  stale w fits = stale_quiet bucket_of good lists id_place policies states listing shows m base start hold w fits

  pub ours : IsInStale lists id_place policies states last.shown k.settled v
  ours = stale_ours bucket_of good lists id_place policies states listing shows m base start hold

  -- with the values that stand for what is listed after the step
  pub at_home_now : (settled turns : List ℕ) (log : List Mark) (home : ℕ → Standing) (views : List View) → OwnPart lists start settled turns log home views
      → OwnPart lists start settled turns log (at_home lists start log settled) views
  at_home_now settled turns log home views part = record { marked = part.marked; free = λ slot e. refl; each = part.each }
