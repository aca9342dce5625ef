-- Which changes of the list leave this part as it is, and where a selector's policies stand.
use Rattle.std.specs.Prelude.{◌≡◌, ℕ, ◌++◌, true, List, ◌∷◌}
use Rattle.xf_exact.specs.Parts.{is_in_exact}
use Rattle.xf_types.specs.declared.network.Dir.{Dir}
use Rattle.xf_types.specs.declared.network.Mark.{Mark}
use Rattle.xf_types.specs.declared.network.Ptype.{Ptype}
use Rattle.xf_types.specs.declared.network.Selector.{Selector}
use Rattle.xf_types.specs.declared.policy.Policy.{Policy}
use Rattle.xf_types.specs.PolicyList.{is_under}
use Rattle.xf_inexact.specs.declared.inexact.Inexact.{Inexact}
use Rattle.xf_inexact.specs.Holds.{HoldPart}
use Rattle.xf_inexact.specs.Keys.{node_of, selector_node}

pub record ChangeLaws (x : Inexact) : Type 0 where
  -- a policy that the exact part takes changes nothing here where it comes in
  pub exact_put : (image : List ℕ) (h4 h6 : ℕ × ℕ) (front back : List (ℕ × Policy)) (slot : ℕ) (p : Policy) → is_in_exact h4 h6 p ≡ true
      → HoldPart x image h4 h6 (front ++ back) → HoldPart x image h4 h6 (front ++ ((slot, p) ∷ back))
  -- and where it goes
  pub exact_taken : (image : List ℕ) (h4 h6 : ℕ × ℕ) (front back : List (ℕ × Policy)) (slot : ℕ) (p : Policy) → is_in_exact h4 h6 p ≡ true
      → HoldPart x image h4 h6 (front ++ ((slot, p) ∷ back)) → HoldPart x image h4 h6 (front ++ back)
  -- a record that is replaced by one with the same request changes nothing
  pub changed : (image : List ℕ) (h4 h6 : ℕ × ℕ) (front back : List (ℕ × Policy)) (slot : ℕ) (p q : Policy) → p.spec ≡ q.spec
      → HoldPart x image h4 h6 (front ++ ((slot, p) ∷ back)) → HoldPart x image h4 h6 (front ++ ((slot, q) ∷ back))
  -- what is listed under a selector stands at the selector's node
  pub under : (image : List ℕ) (dir : Dir) (ptype : Ptype) (sel : Selector) (mark : Mark) (if_id : ℕ) (p : Policy) → is_under dir ptype sel mark if_id p.spec ≡ true
      → node_of x image p ≡ selector_node x image dir ptype if_id sel
