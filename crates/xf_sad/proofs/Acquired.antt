-- What the rule of acquiring makes.
use Rattle.std.proofs.Common.{◌≡◌, ℕ, ◌<◌, Bool, true, false, nat_le, List, [], ◌∷◌, ◌++◌, None, Some, length, refl, ap, sym, ◌∙◌, subst, arith, if◌then◌else◌}
use Rattle.std.proofs.lemmas.Bool.Decides.{nat_tests}
use Rattle.xf_types.specs.declared.call.Reply.TheVariants as reply
use Rattle.xf_types.specs.declared.network.Addr.{Addr}
use Rattle.xf_types.specs.declared.policy.Policy.{Policy}
use Rattle.xf_types.specs.declared.policy.Template.{Template}
use Rattle.xf_types.specs.declared.state.Sa.{Sa}
use Rattle.xf_types.specs.Changes.{Answer, NewState, answer, LeaveThen}
use Rattle.xf_types.specs.Counters.{next_in}
use Rattle.xf_types.specs.FlowRules.{last_seq, free_seq, acquired_spec, acquired}
use Rattle.xf_types.specs.Machine.{Shown}
use Rattle.xf_types.specs.PolicyList.{without}
use Rattle.xf_types.specs.StateList.{is_none}
use Rattle.xf_types.specs.StateRules.{full_of_states}
use Rattle.xf_chain.specs.Lists.{Misses}
use Rattle.xf_index.specs.Indexes.{slots_in, records_in}
use Rattle.xf_sadidx.specs.declared.area.StateArea.{StateArea}
use Rattle.xf_sadimage.specs.States.{StatesStand}
use Rattle.xf_sadlist.specs.Listed.{with_state, with_states, with_next_seq}
use Rattle.xf_sad.specs.Changes.{new_state, entries_but, Comes}
use Rattle.xf_sad.proofs.Placings.{but_none, but_records}
use Rattle.xf_sad.proofs.Rules.{no_tests}

-- the larval state of a sequence number
abbrev pub acquired_new : Policy → Template → Addr → Addr → ℕ → NewState
acquired_new p t src dst seq = record { spec = acquired_spec p t src dst seq; larval = true }

put_by : Shown → Policy → Template → Addr → Addr → Bool → Answer
put_by s p t src dst b =
    if b then full_of_states s
    else answer (reply.Acquire (free_seq s)) (LeaveThen (record s { next_seq = next_in last_seq (free_seq s) }) is_none (Some (acquired_new p t src dst (free_seq s))))

pub acquired_room : (s : Shown) (p : Policy) (t : Template) (src dst : Addr) → length s.states < s.max_states
    → acquired s p t src dst ≡ answer (reply.Acquire (free_seq s)) (LeaveThen (record s { next_seq = next_in last_seq (free_seq s) }) is_none (Some (acquired_new p t src dst (free_seq s))))
unfolding put_by
acquired_room s p t src dst h =
    let e : nat_le s.max_states (length s.states) ≡ false = below s.max_states (length s.states) h in
    ap (λ (b : Bool). put_by s p t src dst b) e
  where
    below : (m n : ℕ) → n < m → nat_le m n ≡ false
    below m n h = grind (arith, nat_tests)

pub acquired_full : (s : Shown) (p : Policy) (t : Template) (src dst : Addr) (live : ℕ) → live ≡ length s.states
    → reply.Full live 0 ≡ (acquired (record s { max_states = live }) p t src dst).reply
unfolding put_by
acquired_full s p t src dst live h =
    let e : nat_le live (length s.states) ≡ true = full live (length s.states) h in
    ap (λ (n : ℕ). reply.Full n 0) h ∙ sym (ap (λ (b : Bool). (put_by (record s { max_states = live }) p t src dst b).reply) e)
  where
    full : (m n : ℕ) → m ≡ n → nat_le m n ≡ true
    full m n h = grind (arith, nat_tests)

-- all states stay
none_leave : (es : List (ℕ × Sa)) (states : List Sa) → records_in es ≡ states → states ≡ without is_none states
none_leave es states e =
    sym e ∙ sym (ap (λ (xs : List (ℕ × Sa)). records_in xs) (but_none es)) ∙ but_records is_none None es (no_tests es) ∙ ap (λ (rs : List Sa). without is_none rs) e

pub acquired_comes : (a : StateArea) (image words : List ℕ) (s : Shown) (es : List (ℕ × Sa)) (gave : ℕ → Type 0) (slot : ℕ) (p : Policy) (t : Template) (src dst : Addr)
    → StatesStand a image s es → gave slot → Misses slot (slots_in es) → length s.states < s.max_states
    → StatesStand a words (with_state (with_next_seq s (next_in last_seq (free_seq s))) (new_state s (acquired_new p t src dst (free_seq s)))) (es ++ ((slot, new_state s (acquired_new p t src dst (free_seq s))) ∷ []))
    → Comes a words s es gave None slot (acquired s p t src dst)
acquired_comes a image words s es gave slot p t src dst st given miss room new =
    let x : NewState = acquired_new p t src dst (free_seq s) in
    let shown : Shown = record s { next_seq = next_in last_seq (free_seq s) } in
    subst (λ (r : Answer). Comes a words s es gave None slot r) (sym (acquired_room s p t src dst room)) (record {
      given = given;
      fresh = miss;
      shown = shown;
      leaves = is_none;
      new = x;
      change = refl;
      tests = no_tests es;
      stands =
          subst (λ (rs : List Sa). StatesStand a words (with_state (with_states shown rs) (new_state s x)) (entries_but None es ++ ((slot, new_state s x) ∷ []))) (none_leave es s.states st.listed)
          (subst (λ (xs : List (ℕ × Sa)). StatesStand a words (with_state shown (new_state s x)) (xs ++ ((slot, new_state s x) ∷ []))) (sym (but_none es)) new);
    })
