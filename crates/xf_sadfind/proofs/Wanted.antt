-- The template that wants a state is the one at its place.
use Rattle.std.proofs.Common.{◌≡◌, ℕ, suc, ◌+◌, Bool, true, false, List, [], ◌∷◌, Option, None, Some, ap, arith, ◌∙◌}
use Rattle.std.specs.List.{slice_get}
use Rattle.xf_types.specs.declared.call.Hop.{Hop}
use Rattle.xf_types.specs.declared.network.Addr.{Addr}
use Rattle.xf_types.specs.declared.network.Flow.{Flow}
use Rattle.xf_types.specs.declared.policy.Template.{Template}
use Rattle.xf_types.specs.declared.state.Sa.{Sa}
use Rattle.xf_types.specs.Candidates.{best_for, larval_for}
use Rattle.xf_types.specs.Resolution.{Resolution, Through, Waits, Wants, resolution, behind, through, is_optional, wait_or_want}
use Rattle.xf_sadfind.specs.declared.used.Ends.{Ends}
use Rattle.xf_sadfind.specs.Tried.{ends_used}

-- The template is the one so many places on.
record IsAt (ts : List Template) (k place : ℕ) (t : Template) : Type 0 where
  on : ℕ
  far : place ≡ k + on
  there : slice_get ts on ≡ Some t

one_on : (x : Template) (ts : List Template) (k place : ℕ) (t : Template) → IsAt ts (k + 1) place t → IsAt (x ∷ ts) k place t
one_on x ts k place t at = let far = at.far in record { on = suc at.on; far = omega (arith, far); there = at.there }

behind_wants : (hop : Hop) (r : Resolution) (t : Template) (place : ℕ) (src dst : Addr) → behind hop r ≡ Wants t place src dst → r ≡ Wants t place src dst
behind_wants hop (Through path) t place src dst e = absurd (cc)
behind_wants hop (Waits seq) t place src dst e = absurd (cc)
behind_wants hop (Wants u at used_src used_dst) t place src dst e = e

wait_wants : (o : Option Sa) (x : Template) (ts : List Template) (k : ℕ) (from to : Addr) (t : Template) (place : ℕ) (src dst : Addr)
    → wait_or_want o x k from to ≡ Wants t place src dst → IsAt (x ∷ ts) k place t
wait_wants (Some s) x ts k from to t place src dst e = absurd (cc)
wait_wants None x ts k from to t place src dst e =
    let same : x ≡ t = cc in
    let at : k ≡ place = cc in
    record { on = 0; far = omega (arith, at); there = ap (λ (u : Template). Some u) same }

wanted_from : (states : List Sa) (flow : Flow) (ts : List Template) (k : ℕ) (from to : Addr) (t : Template) (place : ℕ) (src dst : Addr)
    → resolution states flow ts k from to ≡ Wants t place src dst → IsAt ts k place t
wanted_from states flow [] k from to t place src dst e = absurd (cc)
wanted_from states flow (x ∷ ts) k from to t place src dst e =
    let used : Ends = ends_used x from to in
    step (best_for states x flow used.src used.dst) (is_optional x.level) (larval_for states x flow used.src used.dst) used
    (λ a b h. wanted_from states flow ts (k + 1) a b t place src dst h) e
  where
    step : (o : Option Sa) (b : Bool) (larval : Option Sa) (used : Ends)
        → ((a b : Addr) → resolution states flow ts (k + 1) a b ≡ Wants t place src dst → IsAt ts (k + 1) place t)
        → through o b (resolution states flow ts (k + 1) used.src used.dst) (resolution states flow ts (k + 1) from to) (wait_or_want larval x k used.src used.dst) ≡ Wants t place src dst
        → IsAt (x ∷ ts) k place t
    step (Some s) b larval used more h =
        one_on x ts k place t (more used.src used.dst (behind_wants _ (resolution states flow ts (k + 1) used.src used.dst) t place src dst h))
    step None true larval used more h = one_on x ts k place t (more from to h)
    step None false larval used more h = wait_wants larval x ts k used.src used.dst t place src dst h

pub wanted_at : (states : List Sa) (flow : Flow) (ts : List Template) (from to : Addr) (t : Template) (place : ℕ) (src dst : Addr)
    → resolution states flow ts 0 from to ≡ Wants t place src dst → slice_get ts place ≡ Some t
wanted_at states flow ts from to t place src dst e =
    let at : IsAt ts 0 place t = wanted_from states flow ts 0 from to t place src dst e in
    let far = at.far in
    let same : place ≡ at.on = omega (arith, far) in
    ap (λ (n : ℕ). slice_get ts n) same ∙ at.there
