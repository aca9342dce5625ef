-- What words stand for after others were written, or after something else of the machine changed.
use Rattle.std.proofs.Common.{arith, ℕ, ◌≡◌, ◌<◌, ◌≤◌, List, length, sym, ◌∙◌, subst, slice_index}
use Rattle.xf_types.specs.declared.policy.Policy.{Policy}
use Rattle.xf_types.specs.declared.state.Sa.{Sa}
use Rattle.xf_types.specs.Machine.{Machine, Shown}
use Rattle.xf_types.specs.IsMachine.{IsMachine}
use Rattle.xf_image.specs.declared.area.PolicyArea.{PolicyArea}
use Rattle.xf_image.specs.Entries.{AlikeInPolicies}
use Rattle.xf_image.specs.Frames.{Frame}
use Rattle.xf_image.specs.Layout.{Fits as ListFits}
use Rattle.xf_image.proofs.Keeping as policies
use Rattle.xf_inexact.specs.Holds.{HoldPart}
use Rattle.xf_inexact.specs.Whole.{SpdStands, WholeFits, trees_of, whole_end}
use Rattle.xf_inexact.proofs.Staying.{part_stays}
use Rattle.xf_sadidx.specs.Layout.{end_of}
use Rattle.xf_sadimage.specs.States.{StatesStand, AlikeInStates}
use Rattle.xf_sadimage.proofs.Keeping as states
use Rattle.xf_rows.specs.declared.layout.Layout.{Layout}
use Rattle.xf_rows.specs.Layouts.{Fits}
use Rattle.xf_rows.specs.Values.{Beside, AreValues}
use Rattle.xf_rows.specs.Stands.{Stands}

list_fits : (a : PolicyArea) (size : ℕ) → WholeFits a size → ListFits a size
list_fits a size fits = record { area = fits.places.area; words = (let w = fits.words in omega arith); fits = fits.fits }

pub policies_kept : (a : PolicyArea) (i j : List ℕ) (s : Shown) (es : List (ℕ × Policy)) → WholeFits a (length i)
    → ((q : ℕ) → a.base ≤ q → q < whole_end a → slice_index j q ≡ slice_index i q) → SpdStands a i s es → SpdStands a j s es
policies_kept a i j s es fits same st = record {
  list = policies.stands_kept a i j (length i) s es (list_fits a (length i) fits) (λ q h l. same q h (omega (arith, l))) st.list;
  part = part_stays (trees_of a) i j (length i) s.hthresh4 s.hthresh6 es fits (λ q h l. same q (omega (arith, h)) l) st.part;
}

pub policies_alike : (a : PolicyArea) (i : List ℕ) (s t : Shown) (es : List (ℕ × Policy)) → AlikeInPolicies s t → SpdStands a i s es → SpdStands a i t es
policies_alike a i s t es alike st = record {
  list = policies.stands_alike a i s t es alike st.list;
  part =
      subst (λ (h : ℕ × ℕ). HoldPart (trees_of a) i t.hthresh4 h es) (sym alike.hthresh6)
      (subst (λ (h : ℕ × ℕ). HoldPart (trees_of a) i h s.hthresh6 es) (sym alike.hthresh4) st.part);
}

-- where the states' words alone were written
pub policies_stay : (layout : Layout) (i j : List ℕ) (s t : Shown) (es : List (ℕ × Policy)) → Fits layout (length i)
    → Frame layout.states.base (end_of layout.states) i j → AlikeInPolicies s t
    → SpdStands layout.policies i s es → SpdStands layout.policies j t es
policies_stay layout i j s t es fits frame alike st =
    let order : whole_end layout.policies ≤ layout.states.base = fits.order in
    policies_alike layout.policies j s t es alike
    (policies_kept layout.policies i j s es fits.policies (λ q h l. frame.below q (omega (arith, l, order))) st)

-- where the policies' words alone were written
pub states_stay : (layout : Layout) (i j : List ℕ) (s t : Shown) (es : List (ℕ × Sa)) → Fits layout (length i)
    → Frame layout.policies.base (whole_end layout.policies) i j → AlikeInStates s t
    → StatesStand layout.states i s es → StatesStand layout.states j t es
states_stay layout i j s t es fits frame alike st =
    let order : whole_end layout.policies ≤ layout.states.base = fits.order in
    states.stands_alike layout.states j s t es alike
    (states.stands_kept layout.states i j s es fits.states (λ q h l. frame.above q (omega (arith, h, order))) st)

-- the time's word lies behind both
pub behind_policies : (layout : Layout) (size : ℕ) → Fits layout size → whole_end layout.policies ≤ layout.clock
behind_policies layout size fits =
    let order : whole_end layout.policies ≤ layout.states.base = fits.order in
    let behind : end_of layout.states ≤ layout.clock = fits.behind in
    omega (arith, order, behind)

-- words of others don't matter
pub stands_apart : (layout : Layout) (i j : List ℕ) (b : Beside) (m : Machine) → Fits layout (length i)
    → ((q : ℕ) → layout.policies.base ≤ q → q ≤ layout.clock → slice_index j q ≡ slice_index i q)
    → Stands layout i b m → Stands layout j b m
stands_apart layout i j b m fits same r =
    let order : whole_end layout.policies ≤ layout.states.base = fits.order in
    let behind : end_of layout.states ≤ layout.clock = fits.behind in
    record {
      policies = r.policies;
      rows = r.rows;
      on_policies = policies_kept layout.policies i j m.shown r.policies fits.policies (λ q h l. same q h (omega (arith, l, order, behind))) r.on_policies;
      on_states = states.stands_kept layout.states i j m.shown _ fits.states (λ q h l. same q (omega (arith, h, order)) (omega (arith, l, behind))) r.on_states;
      own = r.own;
      time = same layout.clock (omega (arith, order, behind)) (omega arith) ∙ r.time;
      values = r.values;
      count = r.count;
      machine = r.machine;
    }

-- the policies change in place
pub policies_change : (layout : Layout) (i j : List ℕ) (b : Beside) (m : Machine) (s : Shown) (es : List (ℕ × Policy)) → Fits layout (length i)
    → Frame layout.policies.base (whole_end layout.policies) i j → AlikeInStates m.shown s → s.time ≡ m.shown.time
    → SpdStands layout.policies j s es → IsMachine (record { shown = s; own = m.own })
    → Stands layout i b m → Stands layout j b (record { shown = s; own = m.own })
policies_change layout i j b m s es fits frame alike time st machine r = record {
  policies = es;
  rows = r.rows;
  on_policies = st;
  on_states = states_stay layout i j m.shown s _ fits frame alike r.on_states;
  own = r.own;
  time = frame.above layout.clock (behind_policies layout (length i) fits) ∙ r.time ∙ sym time;
  values = subst (λ (t : ℕ). AreValues b t r.rows) (sym time) r.values;
  count = r.count;
  machine = machine;
}
