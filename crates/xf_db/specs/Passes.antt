-- What a contract sees of a database and of its passes.
use Rattle.std.specs.Prelude.{◌≡◌, ℕ, ◌+◌, ◌-◌, ◌≤◌, List, [], ◌∷◌, length, Option, None, Some}
use Rattle.atomic_table.specs.Seated.{TableId}
use Rattle.xf_types.specs.declared.call.Receipt.{Receipt}
use Rattle.xf_views.specs.declared.view.Start.{Start}
use Rattle.xf_opening.specs.Images.{ImageView, IsAtRest, image_in}
use Rattle.xf_values.specs.declared.state_value.StateValue.{StateValue}
use Rattle.xf_live.specs.Passes as live
use Rattle.xf_desk.specs.Nothing.{no_pass}

-- which database it is: its table, and how that began
pub record DatabaseId : Type 0 where
  pub table : TableId
  pub start : Start

-- a database: which one it is, the image that it was opened over, and how many passes it has
pub record DatabaseView : Type 0 where
  pub id : DatabaseId
  pub start : ImageView
  pub seats : ℕ

-- a pass: the database that it is of, its number, what it recorded, for how many receipts it has room, and how often it drew
pub record PassView : Type 0 where
  pub database : DatabaseId
  pub number : ℕ
  pub receipts : List Receipt
  pub spare : ℕ
  pub drawn : ℕ

-- the image with which a table began
abbrev pub image_of : Start → ImageView
image_of start = image_in start.policies start.states start.words start.homes

-- it was at rest, with so many slots of policies and of states
pub record IsStart (policies states : ℕ) (start : Start) : Type 0 where
  pub policies_are : start.policies ≡ policies
  pub states_are : start.states ≡ states
  pub rests : IsAtRest start.policies start.states start.words start.homes (image_of start)

-- a table that began with such an image
pub record IsBase (policies states : ℕ) (l : live.LiveView) : Type 0 where
  pub start : IsStart policies states l.start
  pub count : l.count ≡ length l.start.words

-- a database over a table
abbrev pub database_over : live.LiveView → DatabaseView
database_over l = record { id = record { table = l.table; start = l.start }; start = image_of l.start; seats = l.start.seats }

-- a pass over one of a table
abbrev pub pass_over : live.PassView StateValue → PassView
pass_over p =
    record {
      database = record { table = p.table; start = p.view.life.start };
      number = p.view.worker;
      receipts = p.view.knows.mine;
      spare = p.room - length p.view.knows.mine;
      drawn = p.view.knows.count;
    }

-- the pass of the table; between calls one is there
abbrev pub seat_of : Option (live.PassView StateValue) → live.PassView StateValue
seat_of None = no_pass
seat_of (Some p) = p

-- it holds nothing and began nothing
pub record IsResting (p : live.PassView StateValue) : Type 0 where
  pub life : p.view.life ≡ live.life_of p.view.life.start p.view.worker
  pub idle : live.IsIdle p.view
  pub values : p.values ≡ []

-- the pass is of this database
pub record IsOf (d : DatabaseView) (p : PassView) : Type 0 where
  pub database : p.database ≡ d.id

-- as `open` gives it, with this number
pub record IsFresh (d : DatabaseView) (number : ℕ) (p : PassView) : Type 0 where
  pub is_of : IsOf d p
  pub number_is : p.number ≡ number
  pub none : p.receipts ≡ []
  pub undrawn : p.drawn ≡ 0

-- fresh passes, numbered from this number on
abbrev pub AreFresh : DatabaseView → ℕ → List PassView → Type 0
AreFresh d number [] = Unit {0}
AreFresh d number (p ∷ ps) = IsFresh d number p × AreFresh d (number + 1) ps

-- the database is open over the image, with all its passes
pub record IsOpened (start : ImageView) (seats : ℕ) (d : DatabaseView) (passes : List PassView) : Type 0 where
  pub over : d.start ≡ start
  pub seats_are : d.seats ≡ seats
  pub all : length passes ≡ seats
  pub fresh : AreFresh d 0 passes

-- the pass has at least so much room, and is as it was otherwise
pub record HasRoom (places : ℕ) (old new : PassView) : Type 0 where
  pub room : places ≤ new.spare
  pub kept : old.spare ≤ new.spare
  pub same : new ≡ record old { spare = new.spare }
