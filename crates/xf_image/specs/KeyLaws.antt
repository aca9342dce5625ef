-- Which chain of the exact part a policy stands in.
use Rattle.std.specs.Prelude.{◌≡◌, ℕ, ◌<◌, true, if◌then◌else◌, None, Some}
use Rattle.xf_types.specs.declared.network.Dir.{Dir}
use Rattle.xf_types.specs.declared.network.Flow.{Flow}
use Rattle.xf_types.specs.declared.network.Mark.{Mark}
use Rattle.xf_types.specs.declared.network.Ptype.{Ptype}
use Rattle.xf_types.specs.declared.network.Selector.{Selector}
use Rattle.xf_types.specs.declared.policy.Policy.{Policy}
use Rattle.xf_types.specs.ExactPart.{is_exact}
use Rattle.xf_types.specs.Machine.{Shown}
use Rattle.xf_types.specs.PolicyList.{applies, is_under}
use Rattle.xf_image.specs.ExactKeys.{lens_of, exact_number, spec_key, exact_key, flow_number}

pub record KeyLaws : Type 0 where
  -- it has one where it is found by exact match under the thresholds, and else none
  pub exact : (s : Shown) (p : Policy)
      → exact_key s.hthresh4 s.hthresh6 p
      ≡ (if is_exact s p
      then Some (exact_number (lens_of s.hthresh4 s.hthresh6 p.spec.sel.src.addr) p.spec.ptype p.spec.dir p.spec.if_id p.spec.sel.dst.addr p.spec.sel.src.addr)
      else None)
  -- what applies to a flow has the flow's, where it has one
  pub flow : (h4 h6 : ℕ × ℕ) (ptype : Ptype) (flow : Flow) (p : Policy) (k : ℕ) → applies ptype flow p ≡ true
      → exact_key h4 h6 p ≡ Some k → k ≡ flow_number h4 h6 ptype flow
  -- what is listed under a selector has the selector's
  pub under : (h4 h6 : ℕ × ℕ) (dir : Dir) (ptype : Ptype) (sel : Selector) (mark : Mark) (if_id : ℕ) (p : Policy)
      → is_under dir ptype sel mark if_id p.spec ≡ true → exact_key h4 h6 p ≡ spec_key h4 h6 dir ptype if_id sel
  -- there are 1,024
  pub below : (h4 h6 : ℕ × ℕ) (p : Policy) (k : ℕ) → exact_key h4 h6 p ≡ Some k → k < 1024
