-- What a flow comes to before anything is changed.
use Rattle.std.specs.Prelude.{◌≡◌, ℕ, Some, true, if◌then◌else◌}
use Rattle.xf_types.specs.declared.network.Addr.{Addr}
use Rattle.xf_types.specs.declared.network.Flow.{Flow}
use Rattle.xf_types.specs.declared.policy.Policy.{Policy}
use Rattle.xf_types.specs.declared.policy.Template.{Template}
use Rattle.xf_types.specs.declared.state.SaSpec.{SaSpec}
use Rattle.xf_types.specs.Changes.{Answer as ShownAnswer, answer, stays, LeaveThen}
use Rattle.xf_types.specs.FlowRules.{WantAnswer, acquired_spec, by_policy, free_seq, last_seq}
use Rattle.xf_types.specs.Counters.{next_in}
use Rattle.xf_types.specs.StateList.{is_none}
use Rattle.xf_types.specs.StateRules.{is_full, full_of_states}
use Rattle.xf_types.specs.declared.call.Reply.TheVariants.{Acquire}
use Rattle.xf_types.specs.Machine.{Shown}
use Rattle.xf_types.specs.PolicyList.{first_policy}
use Rattle.xf_plain.specs.declared.plain.flows.Wanted.{Wanted}
use Rattle.xf_plain.specs.declared.plain.flows.Asked.{Asked}
use Rattle.xf_plain.specs.declared.plain.flows.Asked.TheVariants.{Answer, Wants}

-- a template of the flow's policy wants a state: these are its policy's index, its place, and the state that it asks for, but for
-- the sequence number
pub record IsWanted (w : Wanted) (s : Shown) (flow : Flow) : Type 0 where
  pub policy : Policy
  pub template : Template
  pub src : Addr
  pub dst : Addr
  pub index : w.index ≡ policy.index
  pub asked : (seq : ℕ) → record w.spec { seq = seq } ≡ acquired_spec policy template src dst seq
  pub answer : (wants : Policy → WantAnswer)
      → by_policy s flow wants (first_policy s.policies flow) ≡ wants policy template w.place src dst

-- a flow has its answer, whatever a template that wants a state is answered with; or a template wants one
abbrev pub IsAsked : Asked → Shown → Flow → Type 0
IsAsked (Answer reply) s flow =
    (wants : Policy → WantAnswer) → by_policy s flow wants (first_policy s.policies flow) ≡ stays reply
IsAsked (Wants wanted) s flow = IsWanted wanted s flow

-- the state that is asked for is added with a fresh sequence number, where there is room
abbrev pub acquired_as : Shown → SaSpec → ShownAnswer
acquired_as s spec =
    if is_full s then full_of_states s
    else
    (let seq = free_seq s in
    answer (Acquire seq)
    (LeaveThen (record s { next_seq = next_in last_seq seq }) is_none
    (Some (record { spec = record spec { seq = seq }; larval = true }))))
