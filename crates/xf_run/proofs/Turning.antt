-- Turns and what is said of them, when more stand at their end, and when their receipts have other numbers.
use Rattle.std.proofs.Common.{◌≡◌, ℕ, ◌+◌, Bool, ◌||◌, List, [], ◌∷◌, ◌++◌, length, refl, sym, ap, subst, ◌∙◌, append-nil, append_assoc, arith}
use Rattle.std.proofs.lemmas.Grind.{flat_map-append}
use Rattle.xf_types.specs.declared.call.Call.TheVariants as call
use Rattle.xf_types.specs.declared.call.Hop.{Hop}
use Rattle.xf_types.specs.declared.call.Receipt.{Receipt}
use Rattle.xf_types.specs.declared.call.Reply.{Reply}
use Rattle.xf_types.specs.Batch.{Line, One, Send, AreOutputs, IsRunOf, Runs}
use Rattle.xf_types.specs.History.{has_refusal}
use Rattle.xf_types.specs.Codes.{is_refusal_of}
use Rattle.xf_types.specs.Machine.{Machine}
use Rattle.xf_run.specs.Turns.{Turn, Lead, receipt_of, receipts_from, turns_text, is_refused}
use Rattle.xf_print.specs.Receipts.{text_of, answer_text}

-- the turns lead on
pub Lead-join : (m mid end : Machine) (xs ys : List Turn) → Lead m xs mid → Lead mid ys end → Lead m (xs ++ ys) end
Lead-join m mid end [] ys h k = subst (λ (x : Machine). Lead x ys end) (sym h) k
Lead-join m mid end (x ∷ xs) ys h k = (h.0, h.1, Lead-join h.0 mid end xs ys h.2 k)

-- the receipts of more turns have the next numbers
pub receipts_from-join : (n k : ℕ) (xs ys : List Turn) → k ≡ n + length xs
    → receipts_from n (xs ++ ys) ≡ receipts_from n xs ++ receipts_from k ys
receipts_from-join n k [] ys e =
    let at : n ≡ k = omega arith in ap (λ (i : ℕ). receipts_from i ys) at
receipts_from-join n k (x ∷ xs) ys e =
    ap (λ (rs : List Receipt). receipt_of n x ∷ rs) (receipts_from-join (n + 1) k xs ys (omega arith))

-- outputs are outputs by any numbers
pub AreOutputs-renumber : (line part len : ℕ) (hops : List Hop) (ts : List Turn) (n k : ℕ)
    → AreOutputs line part len hops (receipts_from n ts) → AreOutputs line part len hops (receipts_from k ts)
AreOutputs-renumber line part len [] [] n k h = tt
AreOutputs-renumber line part len [] (t ∷ ts) n k h = absurd h
AreOutputs-renumber line part len (hop ∷ hops) [] n k h = absurd h
AreOutputs-renumber line part len (hop ∷ hops) (t ∷ ts) n k h = (
  record { at_line = h.0.at_line; at_part = h.0.at_part; of_call = h.0.of_call },
  AreOutputs-renumber line (part + 1) len hops ts (n + 1) (k + 1) h.1,
)

-- and so are those of a line
pub IsRunOf-renumber : (l : Line) (ts : List Turn) (n k : ℕ) → IsRunOf l (receipts_from n ts) → IsRunOf l (receipts_from k ts)
IsRunOf-renumber (One line c) [] n k h = absurd h
IsRunOf-renumber (One line c) (t ∷ []) n k h =
    record { at_line = h.at_line; at_part = h.at_part; of_call = h.of_call }
IsRunOf-renumber (One line c) (t ∷ u ∷ ts) n k h = absurd h
IsRunOf-renumber (Send line flow len) [] n k h = absurd h
IsRunOf-renumber (Send line flow len) (t ∷ ts) n k h = (
  record { at_line = h.0.at_line; at_part = h.0.at_part; of_call = h.0.of_call },
  AreOutputs-renumber line 1 len (_) ts (n + 1) (k + 1) h.1,
)

-- the turn of an output
abbrev pub output_turn : ℕ → ℕ → ℕ → Hop → Reply → Turn
output_turn line part len hop reply =
    record { at = record { line = line; part = part }; call = call.Output hop.sid len; reply = reply }

-- one more output
pub AreOutputs-more : (line part at len n : ℕ) (hops : List Hop) (ts : List Turn) (hop : Hop) (reply : Reply) → at ≡ part + length hops
    → AreOutputs line part len hops (receipts_from n ts)
    → AreOutputs line part len (hops ++ hop ∷ []) (receipts_from n (ts ++ output_turn line at len hop reply ∷ []))
AreOutputs-more line part at len n [] [] hop reply e h =
    (record { at_line = refl; at_part = omega arith; of_call = refl }, tt)
AreOutputs-more line part at len n [] (t ∷ ts) hop reply e h = absurd h
AreOutputs-more line part at len n (x ∷ hops) [] hop reply e h = absurd h
AreOutputs-more line part at len n (x ∷ hops) (t ∷ ts) hop reply e h =
    (h.0, AreOutputs-more line (part + 1) at len (n + 1) hops ts hop reply (omega arith) h.1)

-- one more line is run
pub Runs-more : (ls : List Line) (l : Line) (rs own : List Receipt) → Runs ls rs → IsRunOf l own → Runs (ls ++ l ∷ []) (rs ++ own)
Runs-more [] l rs own h run = (own, [], append-nil own ∙ ap (λ (x : List Receipt). x ++ own) (sym h), run, refl)
Runs-more (k ∷ ls) l rs own h run = (
  h.0,
  h.1 ++ own,
  sym (append_assoc h.0 h.1 own) ∙ ap (λ (x : List Receipt). x ++ own) h.2,
  h.3,
  Runs-more ls l h.1 own h.4 run,
)

-- the text of the receipts is that of the turns
pub text_of-turns : (n : ℕ) (ts : List Turn) → text_of (receipts_from n ts) ≡ turns_text ts
text_of-turns n [] = refl
text_of-turns n (t ∷ ts) = ap (λ (x : List ℕ). answer_text t.at t.reply ++ x) (text_of-turns (n + 1) ts)

-- and so is whether one refuses
pub has_refusal-turns : (n : ℕ) (ts : List Turn) → has_refusal (receipts_from n ts) ≡ is_refused ts
has_refusal-turns n [] = refl
has_refusal-turns n (t ∷ ts) = ap (λ (b : Bool). is_refusal_of t.reply || b) (has_refusal-turns (n + 1) ts)

-- the text of more turns
pub text_join : (xs ys : List Turn) → turns_text (xs ++ ys) ≡ turns_text xs ++ turns_text ys
text_join xs ys = flat_map-append (λ (t : Turn). answer_text t.at t.reply) xs ys
