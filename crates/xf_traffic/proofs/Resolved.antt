-- The states that templates led to, and the hops that their records give.
use Rattle.std.proofs.Common.{ℕ, ◌≡◌, List, [], ◌∷◌, ◌++◌, refl, ap, sym, ◌∙◌, subst, Some}
use Rattle.std.specs.Prelude.{⊤}
use Rattle.xf_types.specs.declared.call.Hop.{Hop}
use Rattle.xf_types.specs.declared.network.Addr.{Addr}
use Rattle.xf_types.specs.declared.policy.Template.{Template}
use Rattle.xf_types.specs.declared.state.Sa.{Sa}
use Rattle.xf_types.specs.Machine.{Shown}
use Rattle.xf_types.specs.Resolution.{Resolution, Through, Waits, Wants}
use Rattle.xf_index.proofs.Holds.{holds_at}
use Rattle.xf_sadidx.specs.declared.area.StateArea.{StateArea}
use Rattle.xf_sadidx.specs.Layout.{record_at}
use Rattle.xf_sadimage.specs.States.{StatesStand}
use Rattle.xf_sadfind.specs.declared.resolved.Resolved.{Resolved}
use Rattle.xf_sadfind.specs.declared.resolved.Resolved.TheVariants as found
use Rattle.xf_sadfind.specs.Paths.{IsHop, IsPath, IsResolved}
use Rattle.xf_traffic.specs.Paths.{hop_or_none, hop_in, hops_in}

-- ---- hops

hop_is : (a : StateArea) (image : List ℕ) (s : Shown) (entries : List (ℕ × Sa)) (slot : ℕ) (hop : Hop) → StatesStand a image s entries
    → IsHop entries slot hop → hop_in a image slot ≡ hop
hop_is a image s entries slot hop st is =
    let there : StatesStand a image s (is.front ++ ((slot, is.state) ∷ is.back)) =
    subst (λ (es : List (ℕ × Sa)). StatesStand a image s es) is.whole st in
    let chained = there.chained in
    ap hop_or_none (holds_at (λ (x : ℕ). record_at a image x) (λ (q : Sa). Some q) slot is.state is.front is.back chained.records) ∙ is.step

-- the records in the slots of a path give its hops
pub hops_are : (a : StateArea) (image : List ℕ) (s : Shown) (entries : List (ℕ × Sa)) (slots : List ℕ) (path : List Hop) → StatesStand a image s entries
    → IsPath entries slots path → hops_in a image slots ≡ path
hops_are a image s entries [] [] st is = refl
hops_are a image s entries [] (hop ∷ hops) st is = absurd is
hops_are a image s entries (slot ∷ slots) [] st is = absurd is
hops_are a image s entries (slot ∷ slots) (hop ∷ hops) st is =
    ap (λ (h : Hop). h ∷ hops_in a image slots) (hop_is a image s entries slot hop st is.0)
    ∙ ap (λ (hs : List Hop). hop ∷ hs) (hops_are a image s entries slots hops st is.1)

-- ---- what was found, by its kind

-- the slots of a path
abbrev pub path_slots : Resolved → List ℕ
path_slots (found.Path slots) = slots.items
path_slots (found.Waiting seq) = []
path_slots (found.Wanting template src dst) = []

-- it is a path
abbrev pub IsThrough : Resolved → Type 0
IsThrough (found.Path slots) = ⊤
IsThrough (found.Waiting seq) = ⊥
IsThrough (found.Wanting template src dst) = ⊥

-- the templates lead through the states in these slots
pub record Leads (entries : List (ℕ × Sa)) (slots : List ℕ) (r : Resolution) : Type 0 where
  pub path : List Hop
  pub is : r ≡ Through path
  pub goes : IsPath entries slots path

pub path_leads : (entries : List (ℕ × Sa)) (x : Resolved) (r : Resolution) → IsThrough x → IsResolved entries x r → Leads entries (path_slots x) r
path_leads entries (found.Path slots) (Through path) k h = record { path = path; is = refl; goes = h }
path_leads entries (found.Path slots) (Waits seq) k h = absurd h
path_leads entries (found.Path slots) (Wants t place src dst) k h = absurd h
path_leads entries (found.Waiting seq) r k h = absurd k
path_leads entries (found.Wanting template src dst) r k h = absurd k

pub waits_for : (entries : List (ℕ × Sa)) (seq : ℕ) (r : Resolution) → IsResolved entries (found.Waiting seq) r → r ≡ Waits seq
waits_for entries seq (Through path) h = absurd h
waits_for entries seq (Waits wanted) h = ap (λ (n : ℕ). Waits n) (sym h)
waits_for entries seq (Wants t place src dst) h = absurd h

-- some template wants a state
pub record WantsAt (place : ℕ) (src dst : Addr) (r : Resolution) : Type 0 where
  pub template : Template
  pub is : r ≡ Wants template place src dst

pub wants_for : (entries : List (ℕ × Sa)) (place : ℕ) (src dst : Addr) (r : Resolution) → IsResolved entries (found.Wanting place src dst) r → WantsAt place src dst r
wants_for entries place src dst (Through path) h = absurd h
wants_for entries place src dst (Waits seq) h = absurd h
wants_for entries place src dst (Wants t n a b) h = record {
  template = t;
  is = ap (λ (k : ℕ). Wants t k a b) (sym h.0) ∙ ap (λ (x : Addr). Wants t place x b) (sym h.1) ∙ ap (λ (y : Addr). Wants t place src y) (sym h.2);
}
