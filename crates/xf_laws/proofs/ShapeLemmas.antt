-- What each answer by the shown part is like: it refuses only where it changes nothing, it changes nothing shown where it doesn't
-- move, and its reply is none of those of a packet, an output or a tick.
use Rattle.std.proofs.Common.{arith, ℕ, ◌≡◌, ◌+◌, Bool, true, false, List, [], ◌∷◌, refl, ap, sym, ◌∙◌, cond, true≢false}
use Rattle.std.proofs.lemmas.Bool.Decides.{nat_tests}
use Rattle.std.proofs.lemmas.List.Sums.{sum_by-cons}
use Rattle.std.specs.Prelude.{IsTrue, Option, None, Some, not, ◌&&◌, ◌==◌, nat_le, nat_lt, length, find, count_by}
use Rattle.xf_types.specs.declared.network.Addr.{Addr}
use Rattle.xf_types.specs.declared.network.Flow.{Flow}
use Rattle.xf_types.specs.declared.policy.Action.{Action}
use Rattle.xf_types.specs.declared.policy.Action.TheVariants.{Allow, Block}
use Rattle.xf_types.specs.declared.policy.Policy.{Policy}
use Rattle.xf_types.specs.declared.policy.PolicyKey.{PolicyKey}
use Rattle.xf_types.specs.declared.policy.PolicySpec.{PolicySpec}
use Rattle.xf_types.specs.declared.policy.Template.{Template}
use Rattle.xf_types.specs.declared.state.AllocSpec.{AllocSpec}
use Rattle.xf_types.specs.declared.policy.Thresholds.{Thresholds}
use Rattle.xf_types.specs.declared.state.Sa.{Sa}
use Rattle.xf_types.specs.declared.state.SaId.{SaId}
use Rattle.xf_types.specs.declared.state.SaSpec.{SaSpec}
use Rattle.xf_types.specs.declared.call.Reply.{Reply}
use Rattle.xf_types.specs.declared.call.Reply.TheVariants.{Wanting}
use Rattle.xf_types.specs.Machine.{Shown}
use Rattle.xf_types.specs.Changes.{Answer, Change, Stays, stays, answer, shown_after}
use Rattle.xf_types.specs.Codes.{is_refusal_of}
use Rattle.xf_types.specs.StateList.{latest_match, id_of, has_sid, is_that, larval_replaced}
use Rattle.xf_types.specs.PolicyList.{first_policy, has_key, without}
use Rattle.xf_types.specs.PolicyRules as p
use Rattle.xf_types.specs.StateRules as s
use Rattle.xf_types.specs.FlowRules as f
use Rattle.xf_types.specs.Resolution.{Resolution, Through, Waits, Wants}
use Rattle.xf_types.specs.Moves.{is_moving}
use Rattle.xf_types.specs.History.{is_contended, is_exception}
use Rattle.xf_laws.specs.StepLaws.{is_plain}

-- the reply comes neither of want of memory nor of other threads
pub record IsOurs (r : Reply) : Type 0 where
  pub ours : is_exception r ≡ false
  pub alone : is_contended r ≡ false

-- what holds of an answer in the machine that shows this
pub record Shape (m : Shown) (a : Answer) : Type 0 where
  pub refused : IsTrue (is_refusal_of a.reply) → a.change ≡ Stays
  pub still : is_moving a.reply ≡ false → shown_after m a.change ≡ m
  pub plain : is_plain a.reply ≡ true
  pub ours : IsOurs a.reply

-- a refusal is no other reply
pub no : {X : Type 0} → false ≡ true → X
no h = absurd (true≢false (sym h))

-- a reply that changes nothing
pub said : (m : Shown) (r : Reply) → is_plain r ≡ true → is_moving r ≡ false → is_exception r ≡ false → is_contended r ≡ false
    → Shape m (stays r)
said m r p q o c = record { refused = λ h. refl; still = λ h. refl; plain = p; ours = record { ours = o; alone = c } }

-- a reply that moves
did : (m : Shown) (r : Reply) (c : Change) → is_refusal_of r ≡ false → is_moving r ≡ true → is_plain r ≡ true → is_exception r ≡ false
    → is_contended r ≡ false → Shape m (answer r c)
did m r c f t p o a =
    record { refused = λ h. no (sym f ∙ h); still = λ h. no (sym h ∙ t); plain = p; ours = record { ours = o; alone = a } }

-- by a test
either : (m : Shown) (b : Bool) (x y : Answer) → Shape m x → Shape m y → Shape m (cond b x y)
either m true x y h k = h
either m false x y h k = k

-- where none passes the test all are left
some : (n : ℕ) → nat_lt 0 (1 + n) ≡ false → ⊥
some n h = grind (arith, nat_tests)

-- the same with one more in front
left_after : {X : Type 0} (test : X → Bool) (x : X) (xs : List X) (b : Bool)
    → (nat_lt 0 (count_by test xs) ≡ false → without test xs ≡ xs) → nat_lt 0 (cond b 1 0 + count_by test xs) ≡ false
    → cond (not b) (x ∷ without test xs) (without test xs) ≡ x ∷ xs
left_after test x xs true rest h = absurd (some (count_by test xs) h)
left_after test x xs false rest h =
    let less : count_by test xs ≡ 0 + count_by test xs = omega arith in
    ap (λ ys. x ∷ ys) (rest (ap (λ n. nat_lt 0 n) less ∙ h))

-- where none passes the test all are left
all_left : {X : Type 0} (test : X → Bool) (xs : List X) → nat_lt 0 (count_by test xs) ≡ false → without test xs ≡ xs
all_left test [] h = refl
all_left test (x ∷ xs) h =
    left_after test x xs (test x) (all_left test xs)
    (ap (λ n. nat_lt 0 n) (sym (sum_by-cons (λ y. cond (test y) 1 0) x xs)) ∙ h)

-- policies that pass a test leave
pub policies_gone : (m : Shown) (test : Policy → Bool) → Shape m (p.policies_removed m test)
policies_gone m test =
    record {
      refused = no;
      still = λ h. ap (λ (xs : List Policy). record m { policies = xs }) (all_left test m.policies h);
      plain = refl;
      ours = record { ours = refl; alone = refl };
    }

-- states that pass a test leave
pub states_gone : (m : Shown) (test : Sa → Bool) → Shape m (s.states_removed m test)
states_gone m test =
    record {
      refused = no;
      still = λ h. ap (λ (xs : List Sa). record m { states = xs }) (all_left test m.states h);
      plain = refl;
      ours = record { ours = refl; alone = refl };
    }

-- a policy is added where there is room
policy_room : (m : Shown) (spec : PolicySpec) → Shape m (p.policy_added_if_room m spec)
policy_room m spec = either m (nat_le m.max_policies (length m.policies)) _ _ (said m _ refl refl refl refl) (either m (not (spec.index == 0) && not (p.is_index_taken m spec.index)) _ _ (did m _ _ refl refl refl refl refl) (did m _ _ refl refl refl refl refl))

-- where no policy is the same
policy_unless : (m : Shown) (spec : PolicySpec) (o : Option Policy) → Shape m (p.policy_added_unless_found m spec o)
policy_unless m spec None = policy_room m spec
policy_unless m spec (Some old) = said m _ refl refl refl refl

-- or takes the place of the same
policy_replaced : (m : Shown) (spec : PolicySpec) (o : Option Policy) → Shape m (p.policy_replaced_or_added m spec o)
policy_replaced m spec None = policy_room m spec
policy_replaced m spec (Some old) = did m _ _ refl refl refl refl refl

-- a policy leaves
policy_deleted : (m : Shown) (key : PolicyKey) (o : Option Policy) → Shape m (p.policy_deleted m key o)
policy_deleted m key None = said m _ refl refl refl refl
policy_deleted m key (Some old) = did m _ _ refl refl refl refl refl

-- a policy is shown
policy_shown : (m : Shown) (o : Option Policy) → Shape m (p.policy_shown o)
policy_shown m None = said m _ refl refl refl refl
policy_shown m (Some old) = said m _ refl refl refl refl

-- a state is added where there is room
state_room : (m : Shown) (leaves : Sa → Bool) (spec : SaSpec) → Shape m (s.state_added_if_room m leaves spec)
state_room m leaves spec = either m (s.is_full m) _ _ (said m _ refl refl refl refl) (did m _ _ refl refl refl refl refl)

-- where none was found
state_unless : (m : Shown) (leaves : Sa → Bool) (spec : SaSpec) (o : Option Sa) → Shape m (s.state_added_unless_found m leaves spec o)
state_unless m leaves spec None = state_room m leaves spec
state_unless m leaves spec (Some old) = said m _ refl refl refl refl

-- a state is refreshed or replaced
state_updated : (m : Shown) (spec : SaSpec) (o : Option Sa) → Shape m (s.state_updated m spec o)
state_updated m spec None = said m _ refl refl refl refl
state_updated m spec (Some old) = either m old.larval _ _ (state_room m (has_sid old.sid) spec) (did m _ _ refl refl refl refl refl)

-- a state leaves
state_deleted : (m : Shown) (o : Option Sa) → Shape m (s.state_deleted m o)
state_deleted m None = said m _ refl refl refl refl
state_deleted m (Some old) = did m _ _ refl refl refl refl refl

-- a state is shown
state_shown : (m : Shown) (o : Option Sa) → Shape m (s.state_shown o)
state_shown m None = said m _ refl refl refl refl
state_shown m (Some old) = said m _ refl refl refl refl

-- a larval state with a fresh SPI is added
allocated : (m : Shown) (spec : AllocSpec) (o : Option ℕ) → Shape m (s.allocated m spec o)
allocated m spec None = said m _ refl refl refl refl
allocated m spec (Some spi) = either m (s.is_full m) _ _ (said m _ refl refl refl refl) (did m _ _ refl refl refl refl refl)

-- by the resolution of the templates
answered : (m : Shown) (x : Policy) (wants : f.WantAnswer) → ((t : Template) (place : ℕ) (src dst : Addr) → Shape m (wants t place src dst))
    → (r : Resolution) → Shape m (f.flow_answer x wants r)
answered m x wants h (Through path) = said m _ refl refl refl refl
answered m x wants h (Waits seq) = said m _ refl refl refl refl
answered m x wants h (Wants t place src dst) = h t place src dst

-- by the policy's action
by_action : (m : Shown) (flow : Flow) (x : Policy) (wants : f.WantAnswer)
    → ((t : Template) (place : ℕ) (src dst : Addr) → Shape m (wants t place src dst)) → (a : Action) → Shape m (f.by_action m flow x wants a)
by_action m flow x wants h Block = said m _ refl refl refl refl
by_action m flow x wants h Allow = answered m x wants h (f.resolved m flow x)

-- by the first policy
by_policy : (m : Shown) (flow : Flow) (wants : Policy → f.WantAnswer)
    → ((x : Policy) (t : Template) (place : ℕ) (src dst : Addr) → Shape m (wants x t place src dst)) → (o : Option Policy)
    → Shape m (f.by_policy m flow wants o)
by_policy m flow wants h None = said m _ refl refl refl refl
by_policy m flow wants h (Some x) = by_action m flow x (wants x) (h x) x.spec.action

-- policy add
pub policy_add-shape : (m : Shown) (spec : PolicySpec) → Shape m (p.policy_add m spec)
policy_add-shape m spec =
    either m (p.is_bad_index spec) _ _ (said m _ refl refl refl refl) (policy_unless m spec (p.policy_same_as m spec))

-- policy update
pub policy_update-shape : (m : Shown) (spec : PolicySpec) → Shape m (p.policy_update m spec)
policy_update-shape m spec =
    either m (p.is_bad_index spec) _ _ (said m _ refl refl refl refl) (policy_replaced m spec (p.policy_same_as m spec))

-- policy delete
pub policy_delete-shape : (m : Shown) (key : PolicyKey) → Shape m (p.policy_delete m key)
policy_delete-shape m key =
    either m (p.is_bad_key key) _ _ (said m _ refl refl refl refl) (policy_deleted m key (find (has_key key) m.policies))

-- policy get
pub policy_get-shape : (m : Shown) (key : PolicyKey) → Shape m (p.policy_get m key)
policy_get-shape m key =
    either m (p.is_bad_key key) _ _ (said m _ refl refl refl refl) (policy_shown m (find (has_key key) m.policies))

-- policy set
pub policy_set-shape : (m : Shown) (set : Thresholds) → Shape m (p.policy_set m set)
policy_set-shape m set = did m _ _ refl refl refl refl refl

-- state add
pub state_add-shape : (m : Shown) (spec : SaSpec) → Shape m (s.state_add m spec)
state_add-shape m spec =
    let leaves = is_that (larval_replaced m.states spec) in
    state_unless m leaves spec (latest_match (without leaves m.states) (id_of spec))

-- state update
pub state_update-shape : (m : Shown) (spec : SaSpec) → Shape m (s.state_update m spec)
state_update-shape m spec = state_updated m spec (latest_match m.states (id_of spec))

-- state delete
pub state_delete-shape : (m : Shown) (id : SaId) → Shape m (s.state_delete m id)
state_delete-shape m id = state_deleted m (latest_match m.states id)

-- state get
pub state_get-shape : (m : Shown) (id : SaId) → Shape m (s.state_get m id)
state_get-shape m id = state_shown m (latest_match m.states id)

-- allocspi
pub alloc_spi-shape : (m : Shown) (spec : AllocSpec) → Shape m (s.alloc_spi m spec)
alloc_spi-shape m spec =
    either m (nat_lt spec.max spec.min) _ _ (said m _ refl refl refl refl) (allocated m spec (s.free_spi spec m.states))

-- a flow
pub flow-shape : (m : Shown) (flow : Flow) → Shape m (f.flow_rule m flow)
flow-shape m flow =
    by_policy m flow (λ x k place src dst. f.acquired m x k src dst)
    (λ x k place src dst. either m (s.is_full m) _ _ (said m _ refl refl refl refl) (did m _ _ refl refl refl refl refl))
    (first_policy m.policies flow)

-- a flow without change
pub try-shape : (m : Shown) (flow : Flow) → Shape m (f.try_rule m flow)
try-shape m flow =
    by_policy m flow (λ x k place src dst. stays (Wanting x.index place)) (λ x k place src dst. said m _ refl refl refl refl)
    (first_policy m.policies flow)
