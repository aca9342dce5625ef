-- What the parts of a run say: of one call, of one line, and of the lines of one phase.
use Rattle.std.specs.Prelude.{◌≡◌, ℕ, ◌+◌, ◌≤◌, Bool, List, ◌++◌, Option}
use Rattle.std.specs.Io.KnownBytes.{Appends}
use Rattle.xf_types.specs.declared.call.Call.{Call}
use Rattle.xf_types.specs.declared.call.Hop.{Hop}
use Rattle.xf_types.specs.declared.call.Place.{Place}
use Rattle.xf_types.specs.declared.call.Reply.{Reply}
use Rattle.xf_types.specs.Codes.{is_refusal_of}
use Rattle.xf_types.specs.Batch.{Line, AreOutputs, IsRunOf, Runs}
use Rattle.xf_types.specs.Machine.{Machine, Shown}
use Rattle.xf_run.specs.Outcome.{PartOf}
use Rattle.xf_run.specs.Heard.{Heard, hear, hears}
use Rattle.xf_run.specs.Turns.{Turn, MayAnswer, Lead, receipts_from, is_refused, turns_text}

-- the next policy number and the next state id grow by at most so much
pub record GrowsBy (count : ℕ) (old new : Shown) : Type 0 where
  pub numbers : new.next_number ≤ old.next_number + count
  pub sids : new.next_sid ≤ old.next_sid + count

-- a call was made, and its reply was heard
pub record MakesCall (before after : Machine) (at : Place) (c : Call) (reply : Reply) (old new : Heard) : Type 0 where
  pub may : MayAnswer before after c reply
  pub heard : new ≡ hear old at reply

-- a call was made, its reply was heard, and it is a refusal or not
pub record IsMade (before after : Machine) (at : Place) (c : Call) (refused : Bool) (old new : Heard) : Type 0 where
  pub reply : Reply
  pub made : MakesCall before after at c reply old new
  pub refusal : is_refusal_of reply ≡ refused

-- the turns were made, and their replies were heard
pub record Makes (before after : Machine) (turns : List Turn) (refused : Bool) (old new : Heard) : Type 0 where
  pub lead : Lead before turns after
  pub refusal : is_refused turns ≡ refused
  pub heard : new ≡ hears old turns

-- one output was made for each hop, in order
pub record MakesOutputs (before after : Machine) (line len : ℕ) (hops : List Hop) (refused : Bool) (old new : Heard) : Type 0 where
  pub turns : List Turn
  pub outputs : AreOutputs line 1 len hops (receipts_from 0 turns)
  pub made : Makes before after turns refused old new

-- exactly the calls of the line were made
pub record MakesLine (before after : Machine) (l : Line) (refused : Bool) (old new : Heard) : Type 0 where
  pub turns : List Turn
  pub run : IsRunOf l (receipts_from 0 turns)
  pub made : Makes before after turns refused old new

-- a line was answered: the text has grown by the lines of its replies
pub record Answers (before after : Machine) (l : Line) (refused : Bool) (old new : Option (List ℕ)) : Type 0 where
  pub turns : List Turn
  pub run : IsRunOf l (receipts_from 0 turns)
  pub lead : Lead before turns after
  pub refusal : is_refused turns ≡ refused
  pub text : Appends old new (turns_text turns)

-- a line was answered, and a front of the lines of its replies was taken
pub record Stops (before after : Machine) (l : Line) (old new : Option (List ℕ)) : Type 0 where
  pub turns : List Turn
  pub run : IsRunOf l (receipts_from 0 turns)
  pub lead : Lead before turns after
  pub part : PartOf (turns_text turns) old new

-- the lines were answered: the text has grown by the lines of their replies
pub record RunsLines (before after : Machine) (ls : List Line) (refused : Bool) (old new : Option (List ℕ)) : Type 0 where
  pub turns : List Turn
  pub runs : Runs ls (receipts_from 0 turns)
  pub lead : Lead before turns after
  pub refusal : is_refused turns ≡ refused
  pub text : Appends old new (turns_text turns)

-- the first lines were answered, up to some line
pub record StopsBehind (before : Machine) (ls : List Line) (old new : Option (List ℕ)) : Type 0 where
  pub first : List Line
  pub rest : List Line
  pub is_front : first ++ rest ≡ ls
  pub after : Machine
  pub refused : Bool
  pub ran : RunsLines before after first refused old new

-- the first lines were answered, and a front of the lines of their replies was taken
pub record StopsWithin (before : Machine) (ls : List Line) (old new : Option (List ℕ)) : Type 0 where
  pub first : List Line
  pub rest : List Line
  pub is_front : first ++ rest ≡ ls
  pub after : Machine
  pub turns : List Turn
  pub runs : Runs first (receipts_from 0 turns)
  pub lead : Lead before turns after
  pub part : PartOf (turns_text turns) old new
