-- Where nothing is reported the lists stay.
use Rattle.std.proofs.Common.{◌≡◌, ℕ, Bool, true, false, not, cond, List, [], ◌∷◌, ◌++◌, Option, None, Some, length, map, refl, ap, sym, ◌∙◌, subst, arith, if◌then◌else◌}
use Rattle.std.specs.List.{cons_option}
use Rattle.std.specs.Prelude.{filter_map}
use Rattle.xf_types.specs.declared.call.Event.{Event}
use Rattle.xf_types.specs.declared.call.Event.TheVariants.{PolicySoft, PolicyExpired}
use Rattle.xf_types.specs.declared.policy.Policy.{Policy}
use Rattle.xf_types.specs.declared.state.Sa.{Sa}
use Rattle.xf_types.specs.Machine.{Shown}
use Rattle.xf_types.specs.PolicyList.{without}
use Rattle.xf_types.specs.TickRules.{policy_ends, policy_warns, policy_event, policy_later, soft_if}
use Rattle.xf_index.specs.Indexes.{slots_in, records_in}
use Rattle.xf_image.specs.Entries.{entries_without}
use Rattle.xf_inexact.specs.Whole.{SpdStands}
use Rattle.xf_sadimage.specs.States.{StatesStand}
use Rattle.xf_sadlist.specs.Listed.{with_states}
use Rattle.xf_local.specs.View.{event_of}
use Rattle.xf_rows.specs.declared.layout.Layout.{Layout}
use Rattle.xf_rows.specs.Values.{Beside, at}
use Rattle.xf_rows.specs.Ticks.{entry_later}
use Rattle.xf_policies.specs.Standing.{AreLater, entries_later}
use Rattle.xf_ticking.specs.Counted.{CountsPolicies, CountsStates}
use Rattle.xf_ticking.specs.Dues.{entries_left}
use Rattle.xf_ticking.specs.Told.{told}
use Rattle.xf_ticking.specs.Walks.{StandsLeft}

pub empty : (xs : List Event) → length xs ≡ 0 → xs ≡ []
empty [] = λ e. refl
empty (x ∷ xs) = λ e. absurd (omega (arith, e))

-- nothing behind the events so far
pub nothing_behind : (xs ys : List Event) → ys ≡ [] → xs ≡ xs ++ ys
nothing_behind [] ys e = sym e
nothing_behind (x ∷ xs) ys e = ap (λ (zs : List Event). x ∷ zs) (nothing_behind xs ys e)

-- ---- policies

policy_by : (now : ℕ) (p : Policy) (ps : List Policy) (l w : Bool) → policy_warns now p ≡ w
    → cons_option (if l then Some (PolicyExpired p.index) else if w then Some (PolicySoft p.index) else None) (filter_map (policy_event now) ps) ≡ []
    → (filter_map (policy_event now) ps ≡ [] → map (policy_later now) (without (policy_ends now) ps) ≡ ps)
    → map (policy_later now) (cond (not l) (p ∷ without (policy_ends now) ps) (without (policy_ends now) ps)) ≡ p ∷ ps
policy_by now p ps true w = λ f h rest. absurd (cc)
policy_by now p ps false true = λ f h rest. absurd (cc)
policy_by now p ps false false = λ f h rest.
    ap (λ (t : Bool). soft_if t p ∷ map (policy_later now) (without (policy_ends now) ps)) f ∙ ap (λ (qs : List Policy). p ∷ qs) (rest h)

policies_same : (now : ℕ) (ps : List Policy) → filter_map (policy_event now) ps ≡ [] → map (policy_later now) (without (policy_ends now) ps) ≡ ps
policies_same now [] = λ h. refl
policies_same now (p ∷ ps) = λ h. policy_by now p ps (policy_ends now p) (policy_warns now p) refl h (policies_same now ps)

entry_by : (now slot : ℕ) (p : Policy) (es : List (ℕ × Policy)) (l w : Bool) → policy_warns now p ≡ w
    → cons_option (if l then Some (PolicyExpired p.index) else if w then Some (PolicySoft p.index) else None) (filter_map (policy_event now) (records_in es)) ≡ []
    → (filter_map (policy_event now) (records_in es) ≡ [] → entries_later now es ≡ es)
    → map (λ (e : ℕ × Policy). (e.0, policy_later now e.1)) (cond (not l) ((slot, p) ∷ entries_without (policy_ends now) es) (entries_without (policy_ends now) es)) ≡ (slot, p) ∷ es
entry_by now slot p es true w = λ f h rest. absurd (cc)
entry_by now slot p es false true = λ f h rest. absurd (cc)
entry_by now slot p es false false = λ f h rest.
    ap (λ (t : Bool). (slot, soft_if t p) ∷ entries_later now es) f ∙ ap (λ (fs : List (ℕ × Policy)). (slot, p) ∷ fs) (rest h)

entries_same : (now : ℕ) (es : List (ℕ × Policy)) → filter_map (policy_event now) (records_in es) ≡ [] → entries_later now es ≡ es
entries_same now [] = λ h. refl
entries_same now (e ∷ es) = λ h. entry_by now e.0 e.1 es (policy_ends now e.1) (policy_warns now e.1) refl h (entries_same now es)

none_told : (layout : Layout) (i : List ℕ) (now count : ℕ) (s : Shown) (es : List (ℕ × Policy)) → CountsPolicies layout i now count → count ≡ 0
    → SpdStands layout.policies i s es → filter_map (policy_event now) s.policies ≡ []
none_told layout i now count s es counts none st = empty (filter_map (policy_event now) s.policies) (sym (counts.is s es st) ∙ none)

pub policies_quiet : (layout : Layout) (i : List ℕ) (now count : ℕ) (s : Shown) (es : List (ℕ × Policy)) → CountsPolicies layout i now count → count ≡ 0
    → SpdStands layout.policies i s es → AreLater layout.policies i now s es
policies_quiet layout i now count s es counts none st =
    let h : filter_map (policy_event now) s.policies ≡ [] = none_told layout i now count s es counts none st in
    let f : filter_map (policy_event now) (records_in es) ≡ [] = ap (λ (ps : List Policy). filter_map (policy_event now) ps) st.list.listed ∙ h in
    subst (λ (fs : List (ℕ × Policy)). SpdStands layout.policies i (record s { policies = map (policy_later now) (without (policy_ends now) s.policies) }) fs) (sym (entries_same now es f))
    (subst (λ (ps : List Policy). SpdStands layout.policies i (record s { policies = ps }) es) (sym (policies_same now s.policies h)) st)

pub policies_silent : (layout : Layout) (i : List ℕ) (now count : ℕ) (s : Shown) (es : List (ℕ × Policy)) (events : List Event) → CountsPolicies layout i now count → count ≡ 0
    → SpdStands layout.policies i s es → events ≡ events ++ filter_map (policy_event now) s.policies
policies_silent layout i now count s es events counts none st =
    nothing_behind events (filter_map (policy_event now) s.policies) (none_told layout i now count s es counts none st)

-- ---- states

state_by : (o : Option Event) (e : ℕ × Sa) (es left : List (ℕ × Sa)) (more : List Event) → cons_option o more ≡ [] → (more ≡ [] → left ≡ es) → entry_later o e ++ left ≡ e ∷ es
state_by None e es left more = λ h rest. ap (λ (fs : List (ℕ × Sa)). e ∷ fs) (rest h)
state_by (Some x) e es left more = λ h rest. absurd (cc)

states_same : (now : ℕ) (b : Beside) (es : List (ℕ × Sa)) → told now b (slots_in es) ≡ [] → entries_left now b es ≡ es
states_same now b [] = λ h. refl
states_same now b (e ∷ es) = λ h. state_by (event_of now (at b e.0)) e es (entries_left now b es) (told now b (slots_in es)) h (states_same now b es)

pub states_quiet : (layout : Layout) (i : List ℕ) (b : Beside) (now count : ℕ) (s : Shown) (es : List (ℕ × Sa)) → CountsStates layout i b now count → count ≡ 0
    → StatesStand layout.states i s es → StandsLeft layout.states i now b s es
states_quiet layout i b now count s es counts none st =
    let h : told now b (slots_in es) ≡ [] = empty (told now b (slots_in es)) (sym (counts.is s es st) ∙ none) in
    subst (λ (fs : List (ℕ × Sa)). StatesStand layout.states i (with_states s (records_in fs)) fs) (sym (states_same now b es h))
    (subst (λ (ss : List Sa). StatesStand layout.states i (with_states s ss) es) (sym st.listed) st)

pub states_silent : (layout : Layout) (i : List ℕ) (b : Beside) (now count : ℕ) (s : Shown) (es : List (ℕ × Sa)) → CountsStates layout i b now count → count ≡ 0
    → StatesStand layout.states i s es → told now b (slots_in es) ≡ []
states_silent layout i b now count s es counts none st = empty (told now b (slots_in es)) (sym (counts.is s es st) ∙ none)
