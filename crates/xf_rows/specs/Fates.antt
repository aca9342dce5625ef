-- What a packet or an output makes of a row, and what its reply tells of that.
use Rattle.std.specs.Prelude.{◌≡◌, ℕ, Bool, true, false, List, ◌∷◌, ◌++◌}
use Rattle.xf_types.specs.declared.state.Sa.{Sa}
use Rattle.xf_types.specs.declared.call.Reply.{Reply}
use Rattle.xf_types.specs.declared.call.Reply.TheVariants as reply
use Rattle.xf_types.specs.Moves.{says_soft}
use Rattle.xf_types.specs.OneState.{dying_if}
use Rattle.xf_types.specs.TrafficRules.{Fate, Same, Ends, Becomes}
use Rattle.xf_local.specs.View.{LocalView, Dead}
use Rattle.xf_rows.specs.Rows.{Row, value_of}

-- the entry and those around it after its state's fate
abbrev pub entries_fated : List (ℕ × Sa) → ℕ → Sa → List (ℕ × Sa) → Fate → List (ℕ × Sa)
entries_fated front slot s back Same = front ++ ((slot, s) ∷ back)
entries_fated front slot s back Ends = front ++ back
entries_fated front slot s back (Becomes soft own) = front ++ ((slot, dying_if soft s) ∷ back)

-- the value of the row's slot after it
abbrev pub value_fated : ℕ → Row → Fate → LocalView
value_fated time x Same = value_of time x
value_fated time x Ends = Dead
value_fated time x (Becomes soft own) = value_of time (x.0, (dying_if soft x.1.0, own))

-- the reply says that the state ended
abbrev pub says_ended : Reply → Bool
says_ended reply.Expired = true
says_ended _ = false

-- by the reply alone it is known whether the state ends, and whether it is newly dying
abbrev pub Tells : Reply → Fate → Type 0
Tells r Same = (says_ended r ≡ false) × (says_soft r ≡ false)
Tells r Ends = says_ended r ≡ true
Tells r (Becomes soft own) = (says_ended r ≡ false) × (says_soft r ≡ soft)

-- the entry and those around it, where the reply alone was followed: whether it says that the state ended, and that it is newly dying
abbrev pub entries_told : Bool → Bool → List (ℕ × Sa) → ℕ → Sa → List (ℕ × Sa) → List (ℕ × Sa)
entries_told true soft front slot s back = front ++ back
entries_told false soft front slot s back = front ++ ((slot, dying_if soft s) ∷ back)
