-- What the rule of a fresh SPI makes.
use Rattle.std.proofs.Common.{◌≡◌, ℕ, ◌<◌, Bool, true, false, nat_le, nat_lt, Option, Some, length, ap, sym, ◌∙◌, arith, if◌then◌else◌}
use Rattle.std.proofs.lemmas.Bool.Decides.{nat_tests}
use Rattle.xf_types.specs.declared.call.Reply.TheVariants as reply
use Rattle.xf_types.specs.declared.state.AllocSpec.{AllocSpec}
use Rattle.xf_types.specs.Changes.{Answer, answer, stays, LeaveThen}
use Rattle.xf_types.specs.Machine.{Shown}
use Rattle.xf_types.specs.StateList.{is_none}
use Rattle.xf_types.specs.StateRules.{full_of_states, larval_spec, allocated, alloc_spi, free_spi}

alloc_by : Shown → AllocSpec → Bool → Option ℕ → Answer
alloc_by s spec b o = if b then stays reply.Invalid else allocated s spec o

pub alloc_bad : (s : Shown) (spec : AllocSpec) → nat_lt spec.max spec.min ≡ true → reply.Invalid ≡ (alloc_spi s spec).reply
unfolding alloc_by
alloc_bad s spec e = sym (ap (λ (b : Bool). (alloc_by s spec b (free_spi spec s.states)).reply) e)

pub alloc_rule : (s : Shown) (spec : AllocSpec) (o : Option ℕ) → nat_lt spec.max spec.min ≡ false → free_spi spec s.states ≡ o → alloc_spi s spec ≡ allocated s spec o
unfolding alloc_by
alloc_rule s spec o e f = ap (λ (b : Bool). alloc_by s spec b (free_spi spec s.states)) e ∙ ap (λ (x : Option ℕ). alloc_by s spec false x) f

put_by : Shown → AllocSpec → ℕ → Bool → Answer
put_by s spec spi b =
    if b then full_of_states s
    else answer (reply.DoneSpi spi s.next_sid) (LeaveThen s is_none (Some (record { spec = larval_spec spec spi; larval = true })))

pub alloc_room : (s : Shown) (spec : AllocSpec) (spi : ℕ) → length s.states < s.max_states
    → allocated s spec (Some spi) ≡ answer (reply.DoneSpi spi s.next_sid) (LeaveThen s is_none (Some (record { spec = larval_spec spec spi; larval = true })))
unfolding put_by
alloc_room s spec spi h =
    let e : nat_le s.max_states (length s.states) ≡ false = below s.max_states (length s.states) h in
    ap (λ (b : Bool). put_by s spec spi b) e
  where
    below : (m n : ℕ) → n < m → nat_le m n ≡ false
    below m n h = grind (arith, nat_tests)

pub alloc_full : (s : Shown) (spec : AllocSpec) (spi live : ℕ) → live ≡ length s.states → reply.Full live 0 ≡ (allocated (record s { max_states = live }) spec (Some spi)).reply
unfolding put_by
alloc_full s spec spi live h =
    let e : nat_le live (length s.states) ≡ true = full live (length s.states) h in
    ap (λ (n : ℕ). reply.Full n 0) h ∙ sym (ap (λ (b : Bool). (put_by (record s { max_states = live }) spec spi b).reply) e)
  where
    full : (m n : ℕ) → m ≡ n → nat_le m n ≡ true
    full m n h = grind (arith, nat_tests)
