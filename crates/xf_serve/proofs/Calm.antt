-- A call that only reads: its reply moves nothing, and isn't that of other threads.
use Rattle.std.proofs.Common.{◌≡◌, ◌≢◌, ◌∙◌, ◌⊎◌, inl, inr, ℕ, Bool, true, false, List, refl, sym, subst, Option, None, Some}
use Rattle.std.specs.Prelude.{if◌then◌else◌}
use Rattle.xf_types.specs.declared.call.Call.{Call}
use Rattle.xf_types.specs.declared.call.Call.TheVariants as call
use Rattle.xf_types.specs.declared.call.Reply.{Reply}
use Rattle.xf_types.specs.declared.call.Reply.TheVariants as reply
use Rattle.xf_types.specs.declared.policy.Policy.{Policy}
use Rattle.xf_types.specs.declared.state.Sa.{Sa}
use Rattle.xf_types.specs.Changes.{stays}
use Rattle.xf_types.specs.History.{is_contended}
use Rattle.xf_types.specs.IsMachine.{IsMachine}
use Rattle.xf_types.specs.Machine.{Machine, Shown}
use Rattle.xf_types.specs.Moves.{is_moving, state_found}
use Rattle.xf_types.specs.PolicyRules.{policy_shown}
use Rattle.xf_types.specs.StateRules.{state_shown}
use Rattle.xf_types.specs.Steps.{step, rule_of}
use Rattle.xf_views.specs.declared.view.View.{View}
use Rattle.xf_views.specs.declared.view.SlotTurn.{SlotTurn}
use Rattle.xf_views.specs.declared.entry.Entry.{Entry}
use Rattle.xf_invariant.specs.Meaning.{Told}
use Rattle.xf_legalpart.specs.Honest.{IsForKept}
use Rattle.xf_meaning.specs.Good.{Good}
use Rattle.xf_meaning.specs.Marks.{bucket_of}
use Rattle.xf_meaning.specs.Tells.{lists}
use Rattle.xf_table.specs.Rows.{IsHonestStay}
use Rattle.xf_serve.specs.Served.{AreTold, RepliesBy}
use Rattle.xf_serve.specs.Reading.{OnlyReads}

memory_or_not : (r : Reply) → (r ≡ reply.NoMemory) ⊎ (r ≢ reply.NoMemory)
memory_or_not reply.NoMemory = inl refl
memory_or_not _ = inr (λ e. absurd cc)

-- what is replied where memory suffices
pub replies_by : (p s : ℕ) (image : List ℕ) (c : Call) (r : Reply)
    → ((t : Told) (m : Machine) → IsMachine m → Good p s image t → t.shown ≡ m.shown → r ≢ reply.NoMemory → r ≡ (step m c).reply) → RepliesBy p s image c r
replies_by p s image c r tells = elim (memory_or_not r) [
  | inl e ↦ inl e
  | inr h ↦ inr (λ t m is g shown. tells t m is g shown h)
]

-- it moves nothing, and doesn't come of other threads
pub record IsCalm (r : Reply) : Type 0 where
  pub still : is_moving r ≡ false
  pub settled : is_contended r ≡ false

policy_calm : (o : Option Policy) → IsCalm (policy_shown o).reply
policy_calm None = record { still = refl; settled = refl }
policy_calm (Some p) = record { still = refl; settled = refl }

got_calm : (b : Bool) (o : Option Policy) → IsCalm (if b then stays reply.Invalid else policy_shown o).reply
got_calm true o = record { still = refl; settled = refl }
got_calm false o = policy_calm o

state_calm : (o : Option Sa) → IsCalm (state_shown o).reply
state_calm None = record { still = refl; settled = refl }
state_calm (Some x) = record { still = refl; settled = refl }

step_calm : (m : Machine) (c : Call) → OnlyReads c → IsCalm (step m c).reply
step_calm m (call.PolicyGet key) reads = got_calm _ _
step_calm m (call.PolicyList filter) reads = record { still = refl; settled = refl }
step_calm m call.PolicyCount reads = record { still = refl; settled = refl }
step_calm m (call.StateGet id) reads = state_calm _
step_calm m (call.StateList filter) reads = record { still = refl; settled = refl }
step_calm m call.StateCount reads = record { still = refl; settled = refl }
step_calm m other reads = absurd reads

pub reply_calm : (p s : ℕ) (image : List ℕ) (c : Call) (r : Reply) → OnlyReads c → AreTold p s image → RepliesBy p s image c r → IsCalm r
reply_calm p s image c r reads told (inl e) = subst IsCalm (sym e) (record { still = refl; settled = refl })
reply_calm p s image c r reads told (inr tells) = subst IsCalm (sym (tells told.told told.machine told.is told.good told.shown)) (step_calm told.machine c reads)

-- such a call is for no state
for_none : (turns : List SlotTurn) (s : Shown) (c : Call) → OnlyReads c → IsForKept turns s c
for_none turns s (call.PolicyGet key) reads x e = absurd cc
for_none turns s (call.PolicyList filter) reads x e = absurd cc
for_none turns s call.PolicyCount reads x e = absurd cc
for_none turns s (call.StateGet id) reads x e = absurd cc
for_none turns s (call.StateList filter) reads x e = absurd cc
for_none turns s call.StateCount reads x e = absurd cc
for_none turns s other reads x e = absurd reads

pub still_honest : (v : View) (e : Entry) → OnlyReads e.call → RepliesBy v.life.start.policies v.life.start.states v.image.words e.call e.reply
    → IsHonestStay bucket_of Good lists v e
still_honest v e reads (inl is) = inl is
still_honest v e reads (inr tells) =
    inr (λ n k m t is shown good kept. record { reply = tells t m is good shown; kept = for_none v.own.turns m.shown e.call reads })

-- the same of any call that is for no state
pub alone_honest : (v : View) (e : Entry) → ((s : Shown) → state_found (rule_of s e.call) ≡ None)
    → RepliesBy v.life.start.policies v.life.start.states v.image.words e.call e.reply → IsHonestStay bucket_of Good lists v e
alone_honest v e alone (inl is) = inl is
alone_honest v e alone (inr tells) =
    inr (λ n k m t is shown good kept. record {
      reply = tells t m is good shown;
      kept = λ x found. absurd (let no : None ≡ Some x = sym (alone m.shown) ∙ found in cc);
    })
