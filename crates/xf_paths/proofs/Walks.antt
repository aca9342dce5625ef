-- How far a walk over the templates has come.
use Rattle.std.proofs.Common.{◌≡◌, ℕ, ◌+◌, ◌<◌, true, false, List, [], ◌∷◌, ◌++◌, length, get_or, drop, refl, ap, sym, ◌∙◌, drop-cons, add-one}
use Rattle.std.specs.Prelude.{Option, None, Some}
use Rattle.xf_types.specs.declared.call.Hop.{Hop}
use Rattle.xf_types.specs.declared.network.Addr.{Addr}
use Rattle.xf_types.specs.declared.network.Flow.{Flow}
use Rattle.xf_types.specs.declared.policy.Template.{Template}
use Rattle.xf_types.specs.declared.state.Sa.{Sa}
use Rattle.xf_types.specs.Resolution.{Resolution, Through, resolution, behind, through, hop_of, is_optional, wait_or_want}
use Rattle.xf_held.specs.View.{HeldView}
use Rattle.xf_paths.specs.declared.stage.Stage.{Stage}
use Rattle.xf_paths.specs.Stage.{stage_at, states_of, best_at, larval_at}

-- ---- behind hops

-- what follows these hops
abbrev pub led : List Hop → Resolution → Resolution
led [] rest = rest
led (hop ∷ hops) rest = behind hop (led hops rest)

led-more : (hops : List Hop) (hop : Hop) (rest : Resolution) → led (hops ++ hop ∷ []) rest ≡ led hops (behind hop rest)
led-more [] hop rest = refl
led-more (h ∷ hops) hop rest = ap (behind h) (led-more hops hop rest)

led-through : (hops : List Hop) → led hops (Through []) ≡ Through hops
led-through [] = refl
led-through (h ∷ hops) = ap (behind h) (led-through hops)

-- hops before a template that wants a state are of no account
led-wait_or_want : (hops : List Hop) (o : Option Sa) (t : Template) (place : ℕ) (src dst : Addr)
    → led hops (wait_or_want o t place src dst) ≡ wait_or_want o t place src dst
led-wait_or_want [] o t place src dst = refl
led-wait_or_want (h ∷ hops) o t place src dst =
    ap (behind h) (led-wait_or_want hops o t place src dst)
    ∙ elim o as (λ p. behind h (wait_or_want p t place src dst) ≡ wait_or_want p t place src dst)
    [ None ↦ refl | Some s ↦ refl ]

-- ---- one template

drop-at : (ts : List Template) (i : ℕ) (d : Template) → i < length ts → drop i ts ≡ get_or ts i d ∷ drop (i + 1) ts
drop-at ts i d within = drop-cons ts i d within ∙ ap (λ n. get_or ts i d ∷ drop n ts) (sym (add-one i))

-- the templates from a place on, by the stage that the one there makes
at-stage : (hs : List HeldView) (flow : Flow) (ts : List Template) (i : ℕ) (src dst : Addr) (d : Template) (stage : Stage)
    → i < length ts → stage ≡ stage_at (get_or ts i d) flow src dst
    → resolution (states_of hs) flow (drop i ts) i src dst
    ≡ through (best_at stage hs) (is_optional (get_or ts i d).level)
    (resolution (states_of hs) flow (drop (i + 1) ts) (i + 1) stage.src stage.dst)
    (resolution (states_of hs) flow (drop (i + 1) ts) (i + 1) src dst)
    (wait_or_want (larval_at stage hs) stage.template i stage.src stage.dst)
at-stage hs flow ts i src dst d stage within is =
    ap (λ us. resolution (states_of hs) flow us i src dst) (drop-at ts i d within)
    ∙ ap (λ (g : Stage). through (best_at g hs) (is_optional (get_or ts i d).level)
    (resolution (states_of hs) flow (drop (i + 1) ts) (i + 1) g.src g.dst)
    (resolution (states_of hs) flow (drop (i + 1) ts) (i + 1) src dst)
    (wait_or_want (larval_at g hs) g.template i g.src g.dst)) (sym is)

-- a template with a state: one more hop, and its addresses
pub walk-hop : (hs : List HeldView) (flow : Flow) (ts : List Template) (i : ℕ) (src dst : Addr) (d : Template) (stage : Stage)
    (hops : List Hop) (s : Sa) (whole : Resolution)
    → i < length ts → stage ≡ stage_at (get_or ts i d) flow src dst → Some s ≡ best_at stage hs
    → whole ≡ led hops (resolution (states_of hs) flow (drop i ts) i src dst)
    → whole ≡ led (hops ++ hop_of s ∷ []) (resolution (states_of hs) flow (drop (i + 1) ts) (i + 1) stage.src stage.dst)
walk-hop hs flow ts i src dst d stage hops s whole within is found so =
    let used = resolution (states_of hs) flow (drop (i + 1) ts) (i + 1) stage.src stage.dst in
    let skipped = resolution (states_of hs) flow (drop (i + 1) ts) (i + 1) src dst in
    let missing = wait_or_want (larval_at stage hs) stage.template i stage.src stage.dst in
    so ∙ ap (led hops)
    (at-stage hs flow ts i src dst d stage within is ∙ ap (λ o. through o (is_optional (get_or ts i d).level) used skipped missing) (sym found))
    ∙ sym (led-more hops (hop_of s) used)

-- a template that is skipped: the addresses stay
pub walk-skipped : (hs : List HeldView) (flow : Flow) (ts : List Template) (i : ℕ) (src dst : Addr) (d : Template) (stage : Stage)
    (hops : List Hop) (whole : Resolution)
    → i < length ts → stage ≡ stage_at (get_or ts i d) flow src dst → None ≡ best_at stage hs → is_optional (get_or ts i d).level ≡ true
    → whole ≡ led hops (resolution (states_of hs) flow (drop i ts) i src dst)
    → whole ≡ led hops (resolution (states_of hs) flow (drop (i + 1) ts) (i + 1) src dst)
walk-skipped hs flow ts i src dst d stage hops whole within is none optional so =
    let used = resolution (states_of hs) flow (drop (i + 1) ts) (i + 1) stage.src stage.dst in
    let skipped = resolution (states_of hs) flow (drop (i + 1) ts) (i + 1) src dst in
    let missing = wait_or_want (larval_at stage hs) stage.template i stage.src stage.dst in
    so ∙ ap (led hops)
    (at-stage hs flow ts i src dst d stage within is ∙ ap (λ o. through o (is_optional (get_or ts i d).level) used skipped missing) (sym none)
    ∙ ap (λ b. through None b used skipped missing) optional)

-- a required template without a state ends the walk
pub walk-missing : (hs : List HeldView) (flow : Flow) (ts : List Template) (i : ℕ) (src dst : Addr) (d : Template) (stage : Stage)
    (hops : List Hop) (whole : Resolution)
    → i < length ts → stage ≡ stage_at (get_or ts i d) flow src dst → None ≡ best_at stage hs → is_optional (get_or ts i d).level ≡ false
    → whole ≡ led hops (resolution (states_of hs) flow (drop i ts) i src dst)
    → wait_or_want (larval_at stage hs) stage.template i stage.src stage.dst ≡ whole
walk-missing hs flow ts i src dst d stage hops whole within is none required so =
    let used = resolution (states_of hs) flow (drop (i + 1) ts) (i + 1) stage.src stage.dst in
    let skipped = resolution (states_of hs) flow (drop (i + 1) ts) (i + 1) src dst in
    let missing = wait_or_want (larval_at stage hs) stage.template i stage.src stage.dst in
    sym (so ∙ ap (led hops)
    (at-stage hs flow ts i src dst d stage within is ∙ ap (λ o. through o (is_optional (get_or ts i d).level) used skipped missing) (sym none)
    ∙ ap (λ b. through None b used skipped missing) required)
    ∙ led-wait_or_want hops (larval_at stage hs) stage.template i stage.src stage.dst)

-- no template is left
pub walk-through : (hs : List HeldView) (flow : Flow) (ts : List Template) (i : ℕ) (src dst : Addr) (hops : List Hop) (whole : Resolution)
    → drop i ts ≡ [] → whole ≡ led hops (resolution (states_of hs) flow (drop i ts) i src dst) → Through hops ≡ whole
walk-through hs flow ts i src dst hops whole done so =
    sym (so ∙ ap (λ us. led hops (resolution (states_of hs) flow us i src dst)) done ∙ led-through hops)
