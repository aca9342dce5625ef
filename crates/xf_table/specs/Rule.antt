-- The rule of the table: what always holds of the protocol holds of its words, of the values at home and of what its seats know.
use Rattle.std.specs.Prelude.{◌≡◌, ℕ, List, [], ◌∷◌, ◌++◌, length, map, Option, Some}
use mathlib.Core.Option.{some}
use lib.ListN.{get_elem?}
use Rattle.atomic_table.specs.Table.{State}
use Rattle.xf_types.specs.declared.state.Sa.{Sa}
use Rattle.xf_types.specs.Machine.{Machine}
use Rattle.xf_types.specs.History.{IsLegalHistory}
use Rattle.xf_types.specs.Standing.{Standing}
use Rattle.xf_views.specs.declared.view.View.{View}
use Rattle.xf_views.specs.declared.view.Start.{Start}
use Rattle.xf_views.specs.Log.{Numbers, Mark, receipts_of}
use Rattle.xf_views.specs.TurnPart.{TurnPart}
use Rattle.xf_invariant.specs.Meaning.{Told}
use Rattle.xf_invariant.specs.ImagePart.{ImagePart}
use Rattle.xf_ownpart.specs.OwnPart.{OwnPart}
use Rattle.xf_seats.specs.HeldPart.{HeldPart}
use Rattle.xf_seats.specs.LifePart.{LifePart}
use Rattle.xf_seats.specs.Opened.{Opened, slots_of, start_machine}
use Rattle.xf_table.specs.declared.rule.Key.{Key}

-- how many tickets and numbers a seat draws at most
abbrev pub most : ℕ
most = 2199023255552

-- four numbers, a pin word for each seat, the image, a turn word for each slot
abbrev pub laid : List ℕ → List ℕ → List ℕ → List ℕ → List ℕ
laid numbers pins image turns = numbers ++ (pins ++ (image ++ turns))

abbrev pub four : Numbers → List ℕ
four n = n.ticket ∷ n.serving ∷ n.generation ∷ n.draw ∷ []

-- what image words are good for, and what they list, with the slots of this start
abbrev pub good_at : (ℕ → ℕ → List ℕ → Told → Type 0) → Start → List ℕ → Told → Type 0
good_at good start = good start.policies start.states

abbrev pub lists_at : (ℕ → ℕ → List ℕ → ℕ → Option (Sa × ℕ)) → Start → List ℕ → ℕ → Option (Sa × ℕ)
lists_at lists start = lists start.policies start.states

-- the sizes of the words' regions, and how many slots there are
pub record AreSized (start : Start) (pins image turns : List ℕ) (homes : ℕ) : Type 0 where
  pub pins_are : length pins ≡ start.seats
  pub image_is : length image ≡ length start.words
  pub turns_are : length turns ≡ slots_of start
  pub homes_are : homes ≡ slots_of start

module _ {T : Type 0} (standing : T → Standing) where
  -- the value of each slot whose turn is free is there, and stands for this
  pub record AreHome (turns : List ℕ) (s : State (Option T) View) (home : ℕ → Standing) : Type 0 where
    pub there : (slot : ℕ) → get_elem? turns slot ≡ some 0 → (x : T) × (get_elem? s.homes slot ≡ some (some (Some x))) × (standing x ≡ home slot)

  -- the start of which a table was told
  abbrev pub start_of : Key T → Start
  start_of key =
      record { seats = key.seats; policies = key.policies; states = key.states; words = key.words.value.items; homes = map standing key.values.value.items }

module _ {T : Type 0} (bucket_of : Sa → ℕ) (good : ℕ → ℕ → List ℕ → Told → Type 0) (lists : ℕ → ℕ → List ℕ → ℕ → Option (Sa × ℕ)) (machine : ℕ → ℕ → List ℕ → List Standing → Machine) (standing : T → Standing) where
  -- some history is behind the words, the values and the views
  pub record Ruled (start : Start) (s : State (Option T) View) : Type 0 where
    pub made : ℕ  -- workers given out
    pub numbers : Numbers
    pub owners : List ℕ  -- who drew each ticket
    pub log : List Mark  -- who drew each number, and the receipt that stands there
    pub pins : List ℕ
    pub image : List ℕ
    pub settled : List ℕ
    pub turns : List ℕ
    pub home : ℕ → Standing  -- what the value of each slot stands for
    pub words : s.words ≡ laid (four numbers) pins image turns
    pub sizes : AreSized start pins image turns (length s.homes)
    pub opened : Opened bucket_of good lists machine start
    pub turn_part : TurnPart most made numbers owners log s.views
    pub image_part : ImagePart bucket_of (good_at good start) start.words numbers.generation log image settled s.views
    pub own_part : OwnPart (lists_at lists start) (start_machine machine start) settled turns log home s.views
    pub held_part : HeldPart turns s.views
    pub legal : IsLegalHistory (start_machine machine start) (receipts_of log)
    pub life_part : LifePart made start log s.views
    pub values : AreHome standing turns s home
