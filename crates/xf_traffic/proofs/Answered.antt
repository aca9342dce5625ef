-- What a flow is answered, by what it comes to.
use Rattle.std.proofs.Common.{arith, ℕ, suc, ◌≡◌, ◌+◌, Bool, true, false, cond, List, [], ◌∷◌, Option, None, Some, ap, ◌∙◌, subst}
use Rattle.std.specs.List.{slice_get}
use Rattle.xf_types.specs.declared.call.Hop.{Hop}
use Rattle.xf_types.specs.declared.call.Reply.{Reply}
use Rattle.xf_types.specs.declared.call.Reply.TheVariants as reply
use Rattle.xf_types.specs.declared.network.Addr.{Addr}
use Rattle.xf_types.specs.declared.network.Dir.{Dir}
use Rattle.xf_types.specs.declared.network.Dir.TheVariants.{In, Out, Fwd}
use Rattle.xf_types.specs.declared.network.Flow.{Flow}
use Rattle.xf_types.specs.declared.policy.Action.TheVariants.{Allow, Block}
use Rattle.xf_types.specs.declared.policy.Policy.{Policy}
use Rattle.xf_types.specs.declared.policy.Template.{Template}
use Rattle.xf_types.specs.declared.state.Sa.{Sa}
use Rattle.xf_types.specs.Candidates.{best_for, larval_for}
use Rattle.xf_types.specs.Changes.{stays}
use Rattle.xf_types.specs.FlowRules.{WantAnswer, by_action, by_policy, flow_answer, resolved, acquired, flow_rule, try_rule, templates_for}
use Rattle.xf_types.specs.Machine.{Shown}
use Rattle.xf_types.specs.PolicyList.{first_policy}
use Rattle.xf_types.specs.Resolution.{Resolution, Through, Waits, Wants, resolution, behind, through, wait_or_want, hop_of, uses_own_addresses, is_optional}
use Rattle.xf_traffic.specs.declared.asked.Wanted.{Wanted}
use Rattle.xf_traffic.specs.declared.asked.Asked.{Asked}
use Rattle.xf_traffic.specs.declared.asked.Asked.TheVariants as asked
use Rattle.xf_traffic.specs.Asked.{tried_reply, IsAnswered, IsWanted, IsAsked}

-- ---- by the first policy

-- no policy applies
pub no_policy : (s : Shown) (flow : Flow) → first_policy s.policies flow ≡ None → IsAnswered s flow reply.FlowNone
no_policy s flow e = record { answer = λ wants. ap (by_policy s flow wants) e }

pub policy_blocks : (s : Shown) (flow : Flow) (p : Policy) → first_policy s.policies flow ≡ Some p → p.spec.action ≡ Block
    → IsAnswered s flow (reply.FlowBlock p.index)
policy_blocks s flow p e block = record { answer = λ wants. ap (by_policy s flow wants) e ∙ ap (by_action s flow p (wants p)) block }

-- the policy allows the flow, and its templates come to this
pub by_templates : (s : Shown) (flow : Flow) (p : Policy) (wants : Policy → WantAnswer) (r : Resolution) → first_policy s.policies flow ≡ Some p → p.spec.action ≡ Allow
    → resolved s flow p ≡ r → by_policy s flow wants (first_policy s.policies flow) ≡ flow_answer p (wants p) r
by_templates s flow p wants r e allow is =
    ap (by_policy s flow wants) e ∙ ap (by_action s flow p (wants p)) allow ∙ ap (flow_answer p (wants p)) is

pub path_allows : (s : Shown) (flow : Flow) (p : Policy) (path : List Hop) → first_policy s.policies flow ≡ Some p → p.spec.action ≡ Allow
    → resolved s flow p ≡ Through path → IsAnswered s flow (reply.FlowAllow p.index path)
path_allows s flow p path e allow is = record { answer = λ wants. by_templates s flow p wants (Through path) e allow is }

pub larval_waits : (s : Shown) (flow : Flow) (p : Policy) (seq : ℕ) → first_policy s.policies flow ≡ Some p → p.spec.action ≡ Allow
    → resolved s flow p ≡ Waits seq → IsAnswered s flow (reply.Waiting seq)
larval_waits s flow p seq e allow is = record { answer = λ wants. by_templates s flow p wants (Waits seq) e allow is }

-- a template wants a state
pub wanted_is : (s : Shown) (flow : Flow) (w : Wanted) (wants : Policy → WantAnswer) → IsWanted s flow w
    → by_policy s flow wants (first_policy s.policies flow) ≡ wants w.policy w.template w.place w.src w.dst
wanted_is s flow w wants is = by_templates s flow w.policy wants (Wants w.template w.place w.src w.dst) is.first is.allows is.wants

-- ---- the rules

-- a flow that only asks is answered without change
pub tried_is : (s : Shown) (flow : Flow) (a : Asked) → IsAsked s flow a → try_rule s flow ≡ stays (tried_reply a)
tried_is s flow (asked.Answered r slots) is = is.answer (λ p t place src dst. stays (reply.Wanting p.index place))
tried_is s flow (asked.Wants w) is = wanted_is s flow w (λ p t place src dst. stays (reply.Wanting p.index place)) is

pub answered_is : (s : Shown) (flow : Flow) (r : Reply) → IsAnswered s flow r → flow_rule s flow ≡ stays r
answered_is s flow r is = is.answer (λ p t place src dst. acquired s p t src dst)

-- a state that is wanted is acquired, however much room there is
pub acquires : (s : Shown) (flow : Flow) (w : Wanted) (room : ℕ) → IsWanted s flow w
    → flow_rule (record s { max_states = room }) flow ≡ acquired (record s { max_states = room }) w.policy w.template w.src w.dst
acquires s flow w room is =
    let t : Shown = record s { max_states = room } in
    by_templates t flow w.policy (λ p u place src dst. acquired t p u src dst) (Wants w.template w.place w.src w.dst) is.first is.allows is.wants

-- ---- the template that wants a state stands at its place

-- it is the one at this place of those from a place on
pub record StandsAt (ts : List Template) (from place : ℕ) (t : Template) : Type 0 where
  pub steps : ℕ
  pub place_is : place ≡ from + steps
  pub there : slice_get ts steps ≡ Some t

behind_wants : (hop : Hop) (r : Resolution) (t : Template) (place : ℕ) (src dst : Addr) → behind hop r ≡ Wants t place src dst → r ≡ Wants t place src dst
behind_wants hop (Through path) t place src dst e = absurd (cc)
behind_wants hop (Waits seq) t place src dst e = absurd (cc)
behind_wants hop (Wants u n a b) t place src dst e = e

later : (ts : List Template) (u : Template) (from place : ℕ) (t : Template) → StandsAt ts (from + 1) place t → StandsAt (u ∷ ts) from place t
later ts u from place t at = record {
  steps = suc at.steps;
  place_is = (let e = at.place_is in omega (arith, e));
  there = at.there;
}

wants_template : Template → Resolution → Template
wants_template none (Through path) = none
wants_template none (Waits seq) = none
wants_template none (Wants t place src dst) = t

wants_place : ℕ → Resolution → ℕ
wants_place none (Through path) = none
wants_place none (Waits seq) = none
wants_place none (Wants t place src dst) = place

this_one : (o : Option Sa) (u t : Template) (ts : List Template) (from place : ℕ) (src dst used_src used_dst : Addr)
    → wait_or_want o u from used_src used_dst ≡ Wants t place src dst → StandsAt (u ∷ ts) from place t
unfolding wants_template wants_place
this_one (Some s) u t ts from place src dst used_src used_dst e = absurd (cc)
this_one None u t ts from place src dst used_src used_dst e = record {
  steps = 0;
  place_is = (let p : from ≡ place = ap (wants_place from) e in omega (arith, p));
  there = ap (λ (x : Template). Some x) (ap (wants_template u) e);
}

pub wanted_stands : (states : List Sa) (flow : Flow) (ts : List Template) (from : ℕ) (at_src at_dst : Addr) (t : Template) (place : ℕ) (src dst : Addr)
    → resolution states flow ts from at_src at_dst ≡ Wants t place src dst → StandsAt ts from place t
wanted_stands states flow [] from at_src at_dst t place src dst e = absurd (cc)
wanted_stands states flow (u ∷ ts) from at_src at_dst t place src dst e =
    let used_src : Addr = cond (uses_own_addresses u.mode) u.src at_src in
    let used_dst : Addr = cond (uses_own_addresses u.mode) u.dst at_dst in
    by (best_for states u flow used_src used_dst) (is_optional u.level) used_src used_dst
    (wanted_stands states flow ts (from + 1) used_src used_dst t place src dst)
    (wanted_stands states flow ts (from + 1) at_src at_dst t place src dst) e
  where
    by : (o : Option Sa) (optional : Bool) (used_src used_dst : Addr)
        → (resolution states flow ts (from + 1) used_src used_dst ≡ Wants t place src dst → StandsAt ts (from + 1) place t)
        → (resolution states flow ts (from + 1) at_src at_dst ≡ Wants t place src dst → StandsAt ts (from + 1) place t)
        → through o optional (resolution states flow ts (from + 1) used_src used_dst) (resolution states flow ts (from + 1) at_src at_dst)
        (wait_or_want (larval_for states u flow used_src used_dst) u from used_src used_dst) ≡ Wants t place src dst
        → StandsAt (u ∷ ts) from place t
    by (Some s) optional used_src used_dst used skipped is =
        later ts u from place t (used (behind_wants (hop_of s) (resolution states flow ts (from + 1) used_src used_dst) t place src dst is))
    by None true used_src used_dst used skipped is = later ts u from place t (skipped is)
    by None false used_src used_dst used skipped is =
        this_one (larval_for states u flow used_src used_dst) u t ts from place src dst used_src used_dst is

-- it stands at its place among the templates of the policy
of_policy : (dir : Dir) (ts : List Template) (k : ℕ) (t : Template) → slice_get (templates_for dir ts) k ≡ Some t → slice_get ts k ≡ Some t
of_policy In ts k t e = absurd (cc)
of_policy Out ts k t e = e
of_policy Fwd ts k t e = absurd (cc)

pub wanted_template : (s : Shown) (flow : Flow) (p : Policy) (t : Template) (place : ℕ) (src dst : Addr) → resolved s flow p ≡ Wants t place src dst
    → slice_get p.spec.templates place ≡ Some t
wanted_template s flow p t place src dst e =
    let at : StandsAt (templates_for flow.dir p.spec.templates) 0 place t =
    wanted_stands s.states flow (templates_for flow.dir p.spec.templates) 0 flow.src flow.dst t place src dst e in
    let n = at.place_is in
    let same : at.steps ≡ place = omega (arith, n) in
    of_policy flow.dir p.spec.templates place t (subst (λ (k : ℕ). slice_get (templates_for flow.dir p.spec.templates) k ≡ Some t) same at.there)

some_is : (t u : Template) (o : Option Template) → Some u ≡ o → o ≡ Some t → t ≡ u
some_is t u o e f = let k : Some u ≡ Some t = e ∙ f in cc

-- what a lookup found and where it stands tell that it wants a state
pub wants_found : (s : Shown) (flow : Flow) (w : Wanted) (t : Template) → first_policy s.policies flow ≡ Some w.policy → w.policy.spec.action ≡ Allow
    → resolved s flow w.policy ≡ Wants t w.place w.src w.dst → Some w.template ≡ slice_get w.policy.spec.templates w.place → IsWanted s flow w
wants_found s flow w t first allow e there = record {
  first = first;
  allows = allow;
  wants = e ∙ ap (λ (u : Template). Wants u w.place w.src w.dst)
      (some_is t w.template (slice_get w.policy.spec.templates w.place) there (wanted_template s flow w.policy t w.place w.src w.dst e));
}

pub none_there : (s : Shown) (flow : Flow) (p : Policy) (t : Template) (place : ℕ) (src dst : Addr) → resolved s flow p ≡ Wants t place src dst
    → None ≡ slice_get p.spec.templates place → ⊥
none_there s flow p t place src dst e none =
    let k : None ≡ Some t = none ∙ wanted_template s flow p t place src dst e in absurd (cc)
