-- What a receipt has to be where it is drawn, by its way, so that it may stand. Each condition is on what the actor itself knows.
use Rattle.std.specs.Prelude.{◌≡◌, ℕ, false, List, Option, Some}
use Rattle.std.specs.Option.{option_map}
use Rattle.xf_types.specs.declared.call.Call.{Call}
use Rattle.xf_types.specs.declared.call.Call.TheVariants as call
use Rattle.xf_types.specs.declared.call.Reply.TheVariants as reply
use Rattle.xf_types.specs.declared.call.Receipt.{Receipt}
use Rattle.xf_types.specs.declared.state.Sa.{Sa}
use Rattle.xf_types.specs.Machine.{Machine, Shown}
use Rattle.xf_types.specs.OwnParts.{own_in}
use Rattle.xf_types.specs.Steps.{step, rule_of}
use Rattle.xf_types.specs.Moves.{state_found}
use Rattle.xf_types.specs.IsMachine.{IsMachine}
use Rattle.xf_laws.specs.LeaveLaws.{is_listed}
use Rattle.xf_views.specs.declared.entry.Listed.{Listed}
use Rattle.xf_views.specs.declared.view.View.{View}
use Rattle.xf_views.specs.declared.view.SlotTurn.{SlotTurn}
use Rattle.xf_invariant.specs.Meaning.{Told, Agrees}
use Rattle.xf_invariant.specs.PinPart.{Has}
use Rattle.xf_ownpart.specs.Turns.{Keeps, tried_of}
use Rattle.xf_ownpart.specs.OwnSays.{IsListedNow}

-- the machine has the own parts that these turns keep
abbrev pub HasKept : List SlotTurn → Machine → Type 0
HasKept turns m = (l : Listed) → Keeps turns l → own_in m l.state ≡ l.own

-- the state that the call is for, if any, is one that these turns keep
abbrev pub IsForKept : List SlotTurn → Shown → Call → Type 0
IsForKept turns s c = (x : Sa) → state_found (rule_of s c) ≡ Some x → (l : Listed) × Keeps turns l × (l.state.sid ≡ x.sid)

-- the machine gives this reply, and the call is for no state that isn't kept
pub record Answers (turns : List SlotTurn) (m : Machine) (r : Receipt) : Type 0 where
  pub reply : r.reply ≡ (step m r.call).reply
  pub kept : IsForKept turns m.shown r.call

module _ (good : List ℕ → Told → Type 0) (lists : List ℕ → ℕ → Option (Sa × ℕ)) where
  -- a move: each machine for which the kept image stands, and which has the own parts that are kept, gives this reply. What the image
  -- and its slots are to be then is said by the laws of the image part and of the own part
  abbrev pub MoveIsHonest : View → Receipt → Type 0
  MoveIsHonest v r =
      (m : Machine) (t : Told) → IsMachine m → t.shown ≡ m.shown → good v.image.kept t → HasKept v.own.turns m → Answers v.own.turns m r

  -- another receipt under the turn: each machine for which the image stands gives this reply
  abbrev pub StillIsHonest : View → Receipt → Type 0
  StillIsHonest v r =
      (m : Machine) (t : Told) → IsMachine m → t.shown ≡ m.shown → good v.image.words t → HasKept v.own.turns m → Answers v.own.turns m r

  -- the image lists at the turns' slots what they keep
  abbrev pub ListsKept : List ℕ → List SlotTurn → Type 0
  ListsKept image turns = (e : SlotTurn) → Has turns e → lists image e.slot ≡ option_map (λ (l : Listed). (l.state, l.time)) e.listed

  -- a trial's: so does each machine for which some image stands that agrees with the read, and lists what the turns keep that were held
  -- at the draw
  abbrev pub TrialIsHonest : View → Receipt → Type 0
  TrialIsHonest v r =
      (m : Machine) (t : Told) (image : List ℕ) → IsMachine m → t.shown ≡ m.shown → good image t → Agrees image v.image.loads
      → HasKept (tried_of v.own.turns) m → ListsKept image (tried_of v.own.turns) → Answers (tried_of v.own.turns) m r

  -- an output under the turn of its state's slot: each machine that lists the state as the turn keeps it gives this reply; or it is
  -- stale, where the state isn't listed any more in what is shown after all moves
  pub data SendIsHonest (now : Shown) (v : View) (r : Receipt) : Type 0 where
    Sends : (l : Listed) (len : ℕ) → Keeps v.own.turns l → r.call ≡ call.Output l.state.sid len
        → ((m : Machine) → IsMachine m → IsListedNow m l → r.reply ≡ (step m r.call).reply) → SendIsHonest now v r
    IsStale : (sid len : ℕ) → r.call ≡ call.Output sid len → r.reply ≡ reply.Stale → is_listed sid now.states ≡ false → SendIsHonest now v r
