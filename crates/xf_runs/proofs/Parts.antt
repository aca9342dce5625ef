-- Each honest step keeps all parts.
use Rattle.std.proofs.Common.{◌≡◌, ℕ, ◌+◌, true, Some, None, refl}
use Rattle.xf_types.specs.Machine.{Machine}
use Rattle.xf_views.specs.Log.{Numbers}
use Rattle.xf_proto.specs.declared.step.Kind.{Kind}
use Rattle.xf_proto.specs.declared.step.Kind.TheVariants as kind
use Rattle.xf_proto.specs.ProtocolState.{ProtocolState}
use Rattle.xf_proto.specs.Legality.{may_step}
use Rattle.xf_runs.specs.Known.{Known, machine_now, known_after}
use Rattle.xf_runs.specs.Holds.{HonestHolds}
use Rattle.xf_runs.specs.Honest.{StepIsHonest}
use Rattle.xf_runs.proofs.Always.{seated}
use Rattle.xf_runs.proofs.Scenes.{Sight}
use Rattle.xf_runs.proofs.QuietRows.{ticket, serving, begins, finish, leave, load_word, pin, unpin, load_pin}
use Rattle.xf_runs.proofs.StoreRows.{store, take_turn, give_turn}
use Rattle.xf_runs.proofs.DrawRows.{draw_none, draw_some}
use Rattle.xf_runs.proofs.ReadRows.{load_generation}

module _ (sight : Sight) where
  open sight use {bucket_of, good, lists, id_place, index_at, policies, states, listing, pools, shows, made, base, start, opens, known as k, holds as h, seat as i, view as v, pending as o, there as at, fits as f}

  abbrev p : ProtocolState
  p = k.state

  abbrev n : Numbers
  n = p.numbers

  abbrev m : ℕ
  m = p.steps + 1

  abbrev last : Machine
  last = machine_now lists start k

  abbrev Part : Known → Type 0
  Part z = HonestHolds bucket_of good lists id_place policies states made base start z

  abbrev pub Next : Kind → Type 0
  Next j = Part (known_after lists start k i v (seated v o) j)

  pub step_holds : (j : Kind) → may_step p i v.hand j ≡ true → StepIsHonest bucket_of good lists id_place index_at policies states base start k v (seated v o) j → Next j
  step_holds kind.Ticket legal honest = ticket sight legal
  step_holds kind.Serving legal honest = serving sight legal
  step_holds kind.Begin legal honest = begins sight legal
  step_holds (kind.Store place value) legal honest = store sight place value legal
  step_holds (kind.Draw None) legal honest = draw_none sight legal
  step_holds (kind.Draw (Some r)) legal honest = draw_some sight r legal (honest r refl)
  step_holds kind.Finish legal honest = finish sight legal
  step_holds kind.Leave legal honest = leave sight legal
  step_holds kind.LoadGeneration legal honest = load_generation sight honest
  step_holds (kind.LoadWord place) legal honest = load_word sight place legal
  step_holds kind.Pin legal honest = pin sight legal
  step_holds kind.Unpin legal honest = unpin sight legal
  step_holds (kind.LoadPin seat) legal honest = load_pin sight seat legal
  step_holds (kind.TakeTurn slot) legal honest = take_turn sight slot legal
  step_holds (kind.GiveTurn slot) legal honest = give_turn sight slot legal
