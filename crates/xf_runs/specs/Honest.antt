-- Which lists of steps are honest: each receipt is so by its way, where it is drawn or where it comes to stand.
use Rattle.std.specs.Prelude.{◌≡◌, ℕ, ◌+◌, ◌<◌, ◌≤◌, true, List, [], ◌∷◌, Option, Some, slice_get, slice_index}
use mathlib.Core.Option.{some}
use lib.ListN.{get_elem?}
use Rattle.xf_types.specs.declared.call.Call.TheVariants as call
use Rattle.xf_types.specs.declared.call.Receipt.{Receipt}
use Rattle.xf_types.specs.declared.call.Reply.TheVariants as reply
use Rattle.xf_types.specs.declared.state.Sa.{Sa}
use Rattle.xf_types.specs.Machine.{Machine}
use Rattle.xf_views.specs.declared.entry.Listed.{Listed}
use Rattle.xf_views.specs.declared.view.View.{View}
use Rattle.xf_views.specs.declared.view.SlotTurn.{SlotTurn}
use Rattle.xf_views.specs.Hands.{is_same}
use Rattle.xf_views.specs.Log.{moves}
use Rattle.xf_invariant.specs.Meaning.{Told, told_after, told_after_moves, Opens}
use Rattle.xf_invariant.specs.PinPart.{Has, Holds}
use Rattle.xf_ownpart.specs.Turns.{KeepsSlots}
use Rattle.xf_retired.specs.Pools.{sid_at}
use Rattle.xf_retired.specs.RetiredLaws.{KeepsPool, IsFullReply}
use Rattle.xf_legalpart.specs.Honest.{MoveIsHonest, StillIsHonest, TrialIsHonest, SendIsHonest}
use Rattle.xf_legalpart.specs.AgainLaws.{IsAgain}
use Rattle.xf_proto.specs.declared.step.Kind.{Kind}
use Rattle.xf_proto.specs.declared.step.Kind.TheVariants as kind
use Rattle.xf_proto.specs.declared.step.Step.{Step}
use Rattle.xf_proto.specs.SeatState.{SeatState}
use Rattle.xf_proto.specs.Legality.{is_by_move, is_by_turn, is_by_slot}
use Rattle.xf_runs.specs.Known.{Known, machine_now, known_after}

module _ (bucket_of : Sa → ℕ) (good : List ℕ → Told → Type 0) (lists : List ℕ → ℕ → Option (Sa × ℕ)) (id_place : ℕ → ℕ) (index_at : List ℕ → ℕ → Option ℕ) (policies states : ℕ) (base : List ℕ) (start : Machine) where
  -- a move: the machine gives its reply; the image stands for what it makes of what the kept image stands for; slots whose turns aren't
  -- held list what they did, and a record that stays listed keeps its slot; what is retired was listed or retired, and a state's slot that
  -- wasn't listed in the opening keeps its id
  pub record MoveStands (k : Known) (v : View) (r : Receipt) : Type 0 where
    pub answers : MoveIsHonest good lists v r
    pub leads : (t : Told) → Opens good base t → good v.image.kept (told_after_moves bucket_of t (moves k.log))
        → good v.image.words (told_after bucket_of (told_after_moves bucket_of t (moves k.log)) r)
    pub keeps : KeepsSlots lists v.own.turns v.image.kept v.image.words
    pub policy_slots : KeepsPool index_at 0 policies v.image.kept v.image.words
    pub state_slots : KeepsPool (sid_at lists) policies states v.image.kept v.image.words
    pub ids : (s : ℕ) → policies ≤ s → s < policies + states → (Has v.pins.fresh s → ⊥)
        → slice_index v.image.words (id_place s) ≡ slice_index v.image.kept (id_place s)

  -- another receipt under the turn: the machine gives its reply, or it is an exception
  pub data StillStands (v : View) (r : Receipt) : Type 0 where
    Answered : StillIsHonest good lists v r → StillStands v r
    Refused : r.reply ≡ reply.NoMemory → StillStands v r
    GivenUp : (tries : ℕ) → IsAgain v r tries → StillStands v r
    HeldBack : (live waiting : ℕ) → 1 ≤ waiting → r.reply ≡ reply.Full live waiting
        → IsFullReply bucket_of good lists policies states v r live waiting → StillStands v r

  -- an output under the turn of its state's slot alone
  pub data SendStands (k : Known) (v : View) (r : Receipt) : Type 0 where
    SendAnswered : SendIsHonest good lists (machine_now lists start k).shown v r → SendStands k v r
    SendRefused : r.reply ≡ reply.NoMemory → SendStands k v r
    -- it is stale, where the seat holds the slot with the state's id by its pin, and its turn, which keeps another state or none
    SendGone : (sid len : ℕ) (e : SlotTurn) → r.call ≡ call.Output sid len → r.reply ≡ reply.Stale → Has v.own.turns e → Holds policies (policies + states) id_place v.pins.shows e.slot sid
        → ((l : Listed) → e.listed ≡ Some l → l.state.sid ≡ sid → ⊥) → SendStands k v r

  -- a trial's receipt
  pub data TrialStands (v : View) (r : Receipt) : Type 0 where
    TrialAnswered : TrialIsHonest good lists v r → TrialStands v r
    TrialRefused : r.reply ≡ reply.NoMemory → TrialStands v r
    TrialGivenUp : (tries : ℕ) → IsAgain v r tries → TrialStands v r

  -- a draw: a receipt that stands at once is honest by its way
  pub record DrawIsHonest (k : Known) (v : View) (r : Receipt) : Type 0 where
    pub moving : is_by_move v.hand r ≡ true → MoveStands k v r
    pub still : is_by_turn v.hand r ≡ true → StillStands v r
    pub sent : is_by_slot v.hand r ≡ true → SendStands k v r

  -- the end of a read: so is a trial's, where its read ends the same
  abbrev pub EndIsHonest : Known → View → SeatState → Type 0
  EndIsHonest k v s = (r : Receipt) → is_same v.hand.began k.state.numbers.generation ≡ true → s.pending ≡ Some r → TrialStands v r

  abbrev pub StepIsHonest : Known → View → SeatState → Kind → Type 0
  StepIsHonest k v s (kind.Draw receipt) = (r : Receipt) → receipt ≡ Some r → DrawIsHonest k v r
  StepIsHonest k v s kind.LoadGeneration = EndIsHonest k v s
  StepIsHonest k v s other = Unit {0}

  -- each step of the list
  abbrev pub IsHonest : Known → List Step → Type 0
  IsHonest k [] = Unit {0}
  IsHonest k (step ∷ steps) =
      (v : View) (s : SeatState) → get_elem? k.views step.actor ≡ some v → slice_get k.state.seats step.actor ≡ Some s
      → StepIsHonest k v s step.kind × IsHonest (known_after lists start k step.actor v s step.kind) steps
