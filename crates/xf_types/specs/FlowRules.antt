-- The rules of the calls that ask for a flow. They read the shown part alone.
use Rattle.std.specs.Prelude.{ℕ, true, false, ◌==◌, ◌-◌, ◌^◌, List, [], Option, None, Some, length, if◌then◌else◌}
use Rattle.std.specs.List.{list_any}
use Rattle.xf_types.specs.Facts.{all_zero}
use Rattle.xf_types.specs.declared.network.Addr.{Addr}
use Rattle.xf_types.specs.declared.network.Dir.{Dir}
use Rattle.xf_types.specs.declared.network.Dir.TheVariants.{In, Out, Fwd}
use Rattle.xf_types.specs.declared.network.Flow.{Flow}
use Rattle.xf_types.specs.declared.policy.Action.{Action}
use Rattle.xf_types.specs.declared.policy.Action.TheVariants.{Allow, Block}
use Rattle.xf_types.specs.declared.policy.Policy.{Policy}
use Rattle.xf_types.specs.declared.policy.Template.{Template}
use Rattle.xf_types.specs.declared.state.SaSpec.{SaSpec}
use Rattle.xf_types.specs.declared.call.Reply.TheVariants.{FlowNone, FlowBlock, FlowAllow, Waiting, Acquire, Wanting}
use Rattle.xf_types.specs.Machine.{Shown}
use Rattle.xf_types.specs.Changes.{Answer, answer, stays, LeaveThen}
use Rattle.xf_types.specs.Counters.{first_free, next_in}
use Rattle.xf_types.specs.PolicyList.{first_policy}
use Rattle.xf_types.specs.StateList.{is_none, no_limits}
use Rattle.xf_types.specs.StateRules.{is_full, full_of_states}
use Rattle.xf_types.specs.Resolution.{Resolution, Through, Waits, Wants, resolution}

-- the greatest value of the acquire counter
abbrev pub last_seq : ℕ
last_seq = 2 ^ 32 - 1

-- the first number, in cyclic order from the counter, that no listed state has
abbrev pub free_seq : Shown → ℕ
free_seq s = first_free (λ seq. list_any (λ x. x.spec.seq == seq) s.states) last_seq s.next_seq (length s.states)

-- the larval state that an acquire adds
abbrev pub acquired_spec : Policy → Template → Addr → Addr → ℕ → SaSpec
acquired_spec p t src dst seq =
    record {
      src = src;
      dst = dst;
      proto = t.proto;
      spi = t.spi;
      mode = t.mode;
      reqid = t.reqid;
      seq = seq;
      mark = p.spec.mark;
      if_id = p.spec.if_id;
      sel = None;
      window = 0;
      in_seq = 0;
      out_seq = 0;
      wildrecv = false;
      esn = false;
      limits = no_limits;
      facts = all_zero;
    }

-- a larval state with a fresh sequence number is added where there is room
abbrev pub acquired : Shown → Policy → Template → Addr → Addr → Answer
acquired s p t src dst =
    if is_full s then full_of_states s
    else
    (let seq = free_seq s in
    answer (Acquire seq)
    (LeaveThen (record s { next_seq = next_in last_seq seq }) is_none
    (Some (record { spec = acquired_spec p t src dst seq; larval = true }))))

-- for in and fwd no templates are tried
abbrev pub templates_for : Dir → List Template → List Template
templates_for In templates = []
templates_for Out templates = templates
templates_for Fwd templates = []

-- the states that the flow goes through under this policy
abbrev pub resolved : Shown → Flow → Policy → Resolution
resolved s flow p = resolution s.states flow (templates_for flow.dir p.spec.templates) 0 flow.src flow.dst

-- what a template that wants a state is answered with
abbrev pub WantAnswer : Type 0
WantAnswer = Template → ℕ → Addr → Addr → Answer

-- a path is allowed, a larval state is waited for, a template that wants a state has its own answer
abbrev pub flow_answer : Policy → WantAnswer → Resolution → Answer
flow_answer p wants (Through path) = stays (FlowAllow p.index path)
flow_answer p wants (Waits seq) = stays (Waiting seq)
flow_answer p wants (Wants t place src dst) = wants t place src dst

-- a policy that blocks does so before its templates are tried
abbrev pub by_action : Shown → Flow → Policy → WantAnswer → Action → Answer
by_action s flow p wants Block = stays (FlowBlock p.index)
by_action s flow p wants Allow = flow_answer p wants (resolved s flow p)

-- by the first policy that applies
abbrev pub by_policy : Shown → Flow → (Policy → WantAnswer) → Option Policy → Answer
by_policy s flow wants None = stays FlowNone
by_policy s flow wants (Some p) = by_action s flow p (wants p) p.spec.action

-- a template that wants a state acquires one
abbrev pub flow_rule : Shown → Flow → Answer
flow_rule s flow = by_policy s flow (λ p t place src dst. acquired s p t src dst) (first_policy s.policies flow)

-- the same without change: a template that wants a state is named
abbrev pub try_rule : Shown → Flow → Answer
try_rule s flow = by_policy s flow (λ p t place src dst. stays (Wanting p.index place)) (first_policy s.policies flow)
