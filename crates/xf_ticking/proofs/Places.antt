-- What words stand for after others were written.
use Rattle.std.proofs.Common.{◌≡◌, ℕ, ◌≤◌, List, length, slice_index, slice_set, get_or-set_same, get_or-set_other, sym, ◌∙◌, subst, arith}
use Rattle.xf_types.specs.declared.policy.Policy.{Policy}
use Rattle.xf_types.specs.declared.state.Sa.{Sa}
use Rattle.xf_types.specs.Machine.{Shown}
use Rattle.xf_image.specs.Frames.{Frame}
use Rattle.xf_inexact.specs.Whole.{SpdStands, whole_end}
use Rattle.xf_sadidx.specs.Layout.{end_of}
use Rattle.xf_sadimage.specs.States.{StatesStand}
use Rattle.xf_sadimage.proofs.Keeping.{stands_kept}
use Rattle.xf_sad.specs.Slots.{listed_in}
use Rattle.xf_sad.proofs.Found.{listed_is}
use Rattle.xf_rows.specs.declared.layout.Layout.{Layout}
use Rattle.xf_rows.specs.Layouts.{Fits}
use Rattle.xf_rows.proofs.Keeping.{policies_kept, behind_policies}
use Rattle.xf_sadidx.specs.declared.area.StateArea.{StateArea}
use Rattle.xf_policies.specs.Standing.{LeavesOthers}

-- as many words as before hold the layout
pub fits_still : (layout : Layout) (i j : List ℕ) → length j ≡ length i → Fits layout (length i) → Fits layout (length j)
fits_still layout i j e fits = subst (λ (n : ℕ). Fits layout n) (sym e) fits

-- the hidden words lie before those of the states
pub hidden_low : (layout : Layout) (size hidden : ℕ) → Fits layout size → hidden ≤ layout.policies.base → hidden ≤ layout.states.base
hidden_low layout size hidden fits low =
    let order : whole_end layout.policies ≤ layout.states.base = fits.order in
    omega (arith, order, low)

-- ---- hidden words

pub states_beside : (layout : Layout) (i j : List ℕ) (hidden : ℕ) (s : Shown) (es : List (ℕ × Sa)) → Fits layout (length i) → hidden ≤ layout.policies.base
    → Frame 0 hidden i j → StatesStand layout.states i s es → StatesStand layout.states j s es
states_beside layout i j hidden s es fits low frame st =
    let before : hidden ≤ layout.states.base = hidden_low layout (length i) hidden fits low in
    stands_kept layout.states i j s es fits.states (λ q h l. frame.above q (omega (arith, h, before))) st

-- ---- the words of the other list

pub states_past : (layout : Layout) (i j : List ℕ) (hidden : ℕ) (s : Shown) (es : List (ℕ × Sa)) → Fits layout (length i)
    → LeavesOthers hidden layout.policies.base (whole_end layout.policies) i j → StatesStand layout.states i s es → StatesStand layout.states j s es
states_past layout i j hidden s es fits others st =
    let order : whole_end layout.policies ≤ layout.states.base = fits.order in
    stands_kept layout.states i j s es fits.states (λ q h l. others.above q (omega (arith, h, order))) st

-- and back
pub states_back : (layout : Layout) (i j : List ℕ) (hidden : ℕ) (s : Shown) (es : List (ℕ × Sa)) → Fits layout (length i)
    → LeavesOthers hidden layout.policies.base (whole_end layout.policies) i j → StatesStand layout.states j s es → StatesStand layout.states i s es
states_back layout i j hidden s es fits others st =
    let order : whole_end layout.policies ≤ layout.states.base = fits.order in
    let still : Fits layout (length j) = fits_still layout i j others.size fits in
    stands_kept layout.states j i s es still.states (λ q h l. sym (others.above q (omega (arith, h, order)))) st

pub policies_past : (layout : Layout) (i j : List ℕ) (hidden : ℕ) (s : Shown) (es : List (ℕ × Policy)) → Fits layout (length i) → hidden ≤ layout.policies.base
    → LeavesOthers hidden layout.states.base (end_of layout.states) i j → SpdStands layout.policies i s es → SpdStands layout.policies j s es
policies_past layout i j hidden s es fits low others st =
    let order : whole_end layout.policies ≤ layout.states.base = fits.order in
    policies_kept layout.policies i j s es fits.policies (λ q h l. others.between q (omega (arith, low, h)) (omega (arith, l, order))) st

-- ---- the time's word

pub states_at : (layout : Layout) (i : List ℕ) (time : ℕ) (s : Shown) (es : List (ℕ × Sa)) → Fits layout (length i) → StatesStand layout.states i s es
    → StatesStand layout.states (slice_set i layout.clock time) s es
states_at layout i time s es fits st =
    let behind : end_of layout.states ≤ layout.clock = fits.behind in
    stands_kept layout.states i (slice_set i layout.clock time) s es fits.states
    (λ q h l. get_or-set_other i layout.clock q time 0 (λ (e : q ≡ layout.clock). omega (arith, e, l, behind))) st

pub policies_at : (layout : Layout) (i : List ℕ) (time : ℕ) (s : Shown) (es : List (ℕ × Policy)) → Fits layout (length i) → SpdStands layout.policies i s es
    → SpdStands layout.policies (slice_set i layout.clock time) s es
policies_at layout i time s es fits st =
    let behind : whole_end layout.policies ≤ layout.clock = behind_policies layout (length i) fits in
    policies_kept layout.policies i (slice_set i layout.clock time) s es fits.policies
    (λ q h l. get_or-set_other i layout.clock q time 0 (λ (e : q ≡ layout.clock). omega (arith, e, l, behind))) st

pub time_at : (layout : Layout) (i : List ℕ) (time : ℕ) → Fits layout (length i) → slice_index (slice_set i layout.clock time) layout.clock ≡ time
time_at layout i time fits = get_or-set_same i layout.clock time 0 fits.clock

-- ---- the same states are listed

pub same_states : (a : StateArea) (i j : List ℕ) (s t : Shown) (es : List (ℕ × Sa)) → StatesStand a i s es → StatesStand a j t es → listed_in a i ≡ listed_in a j
same_states a i j s t es old new = listed_is a i s es old ∙ sym (listed_is a j t es new)
