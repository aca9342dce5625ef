-- What a call records.
use Rattle.std.specs.Prelude.{◌≡◌, ◌+◌, ◌<◌, ◌≤◌, ◌^◌, false, [], ◌∷◌, ◌++◌, Result, Ok, Err}
use Rattle.xf_types.specs.declared.call.Call.{Call}
use Rattle.xf_types.specs.declared.call.Place.{Place}
use Rattle.xf_types.specs.declared.call.Receipt.{Receipt}
use Rattle.xf_types.specs.History.{is_contended}
use Rattle.xf_views.specs.Log.{AreBelow}
use Rattle.xf_db.specs.Passes.{PassView}

-- The pass recorded one receipt more, of this call at this place, with a greater number than all before. No reply that comes of other threads
-- is given.
pub record Records (at : Place) (c : Call) (old new : PassView) : Type 0 where
  pub receipt : Receipt
  pub at_is : receipt.at ≡ at
  pub call_is : receipt.call ≡ c
  pub worker : receipt.worker ≡ old.number
  pub settled : is_contended receipt.reply ≡ false
  pub later : AreBelow receipt.number old.receipts
  pub receipts : new.receipts ≡ old.receipts ++ receipt ∷ []
  pub database : new.database ≡ old.database
  pub number : new.number ≡ old.number
  pub spare : old.spare ≡ new.spare + 1
  pub drawn : new.drawn ≡ old.drawn + 2

-- a call that was made, or not, since the pass drew too often
abbrev pub Calls : {E : Type 0} → Place → Call → PassView → PassView → Result Unit E → Type 0
Calls at c old new (Ok x) = (old.drawn < 2 ^ 40) × Records at c old new
Calls at c old new (Err x) = (2 ^ 40 ≤ old.drawn) × (new ≡ old)
