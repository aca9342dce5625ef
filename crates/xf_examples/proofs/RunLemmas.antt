-- What the first receipts of a worker are, where they are those of its lines.
use Rattle.std.proofs.Common.{◌≡◌, ℕ, ◌+◌, List, [], ◌∷◌, ◌++◌, subst}
use Rattle.xf_types.specs.declared.call.Call.{Call}
use Rattle.xf_types.specs.declared.call.Call.TheVariants as call
use Rattle.xf_types.specs.declared.call.Hop.{Hop}
use Rattle.xf_types.specs.declared.call.Receipt.{Receipt}
use Rattle.xf_types.specs.declared.network.Flow.{Flow}
use Rattle.xf_types.specs.Batch.{Line, One, Send, IsOf, AreOutputs, Runs, path_of}

-- receipts that are those of some outputs, and then those of some lines
pub record Outputs (line part len : ℕ) (hops : List Hop) (lines : List Line) (rs : List Receipt) : Type 0 where
  pub own : List Receipt
  pub rest : List Receipt
  pub joined : own ++ rest ≡ rs
  pub outputs : AreOutputs line part len hops own
  pub runs : Runs lines rest

-- the first receipt is that of a line with one call
pub one-first : (line : ℕ) (c : Call) (ls : List Line) (r : Receipt) (rs : List Receipt) → Runs (One line c ∷ ls) (r ∷ rs)
    → IsOf line 0 c r × Runs ls rs
one-first line c ls r rs ([], rest, e, run, runs) = absurd run
one-first line c ls r rs (q ∷ [], rest, e, run, runs) =
    let first : q ≡ r = cc in
    let others : rest ≡ rs = cc in
    (subst (IsOf line 0 c) first run, subst (Runs ls) others runs)
one-first line c ls r rs (q ∷ p ∷ own, rest, e, run, runs) = absurd run

-- a line with one call has a receipt
pub one-some : (line : ℕ) (c : Call) (ls : List Line) → Runs (One line c ∷ ls) [] → ⊥
one-some line c ls ([], rest, e, run, runs) = run
one-some line c ls (q ∷ own, rest, e, run, runs) = cc

-- the first receipt of a line that sends is the flow's, and the outputs follow
pub send-first : (line : ℕ) (flow : Flow) (len : ℕ) (ls : List Line) (r : Receipt) (rs : List Receipt) → Runs (Send line flow len ∷ ls) (r ∷ rs)
    → IsOf line 0 (call.Flow flow) r × Outputs line 1 len (path_of r.reply) ls rs
send-first line flow len ls r rs ([], rest, e, run, runs) = absurd run
send-first line flow len ls r rs (q ∷ own, rest, e, run, runs) =
    let first : q ≡ r = cc in
    let others : own ++ rest ≡ rs = cc in
    let outs : AreOutputs line 1 len (path_of r.reply) own =
    subst (λ (x : Receipt). AreOutputs line 1 len (path_of x.reply) own) first run.1 in
    (subst (IsOf line 0 (call.Flow flow)) first run.0, record { own = own; rest = rest; joined = others; outputs = outs; runs = runs })

-- the first of the outputs
pub output-first : (line part len : ℕ) (hop : Hop) (hops : List Hop) (ls : List Line) (r : Receipt) (rs : List Receipt)
    → Outputs line part len (hop ∷ hops) ls (r ∷ rs)
    → IsOf line part (call.Output hop.sid len) r × Outputs line (part + 1) len hops ls rs
output-first line part len hop hops ls r rs h = of_own h.own h.joined h.outputs
  where
    of_own : (own : List Receipt) → own ++ h.rest ≡ r ∷ rs → AreOutputs line part len (hop ∷ hops) own
        → IsOf line part (call.Output hop.sid len) r × Outputs line (part + 1) len hops ls rs
    of_own [] e outs = absurd outs
    of_own (q ∷ own) e outs =
        let first : q ≡ r = cc in
        let others : own ++ h.rest ≡ rs = cc in (
          subst (IsOf line part (call.Output hop.sid len)) first outs.0,
          record { own = own; rest = h.rest; joined = others; outputs = outs.1; runs = h.runs },
        )

-- behind the last output come the receipts of the other lines
pub outputs-end : (line part len : ℕ) (ls : List Line) (rs : List Receipt) → Outputs line part len [] ls rs → Runs ls rs
outputs-end line part len ls rs h = of_own h.own h.joined h.outputs
  where
    of_own : (own : List Receipt) → own ++ h.rest ≡ rs → AreOutputs line part len [] own → Runs ls rs
    of_own [] e outs = subst (Runs ls) e h.runs
    of_own (q ∷ own) e outs = absurd outs
