use Rattle.std.proofs.Common.{arith, refl, lit<, ℕ, List, [], ◌∷◌}
use Rattle.std.specs.Prelude.{◌<◌, zero, suc, All}
use Rattle.xf_types.specs.declared.call.Call.TheVariants as call
use Rattle.xf_types.specs.declared.call.Receipt.{Receipt}
use Rattle.xf_types.specs.Batch.{One, Send, IsOf, Runs}
use Rattle.xf_examples.specs.Words.{a5, flow, hop}
use Rattle.xf_examples.specs.RefusedBatchRows.{sending, first_output, second_output, policies, states}
use Rattle.xf_examples.proofs.RunLemmas.{Outputs, one-first, one-some, send-first, output-first, outputs-end}
use Rattle.xf_examples.proofs.rows.refused_batch_rows.Goals as goal

-- what the receipts behind a sending are, where they are those of worker 0
behind : (number : ℕ) (rs : List Receipt) → Runs (Send 4 flow 10 ∷ One 6 call.PolicyCount ∷ []) (sending number ∷ rs)
    → Outputs 4 1 10 (hop 3 3 a5 ∷ hop 5 5 a5 ∷ []) (One 6 call.PolicyCount ∷ []) rs
behind number rs h = (send-first 4 flow 10 (One 6 call.PolicyCount ∷ []) (sending number) rs h).1

-- what the receipts behind the first output are
behind_first : (m n : ℕ) (rs : List Receipt) → Runs (Send 4 flow 10 ∷ One 6 call.PolicyCount ∷ []) (sending m ∷ first_output n ∷ rs)
    → Outputs 4 2 10 (hop 5 5 a5 ∷ []) (One 6 call.PolicyCount ∷ []) rs
behind_first m n rs h = (output-first 4 1 10 _ _ _ (first_output n) rs (behind m (first_output n ∷ rs) h)).1

-- what the receipts behind both outputs are
behind_both : (m n k : ℕ) (rs : List Receipt)
    → Runs (Send 4 flow 10 ∷ One 6 call.PolicyCount ∷ []) (sending m ∷ first_output n ∷ second_output k ∷ rs)
    → Runs (One 6 call.PolicyCount ∷ []) rs
behind_both m n k rs h =
    outputs-end 4 3 10 _ rs (output-first 4 2 10 _ [] _ (second_output k) rs (behind_first m n (second_output k ∷ rs) h)).1

-- the first receipt has another line than the first output
no_first_output : (number : ℕ) (r : Receipt) (rs : List Receipt)
    → Runs (Send 4 flow 10 ∷ One 6 call.PolicyCount ∷ []) (sending number ∷ r ∷ rs) → IsOf 4 1 (call.Output 3 10) r
no_first_output number r rs h = (output-first 4 1 10 _ _ _ r rs (behind number (r ∷ rs) h)).0

-- each receipt is of one of the two workers
sent_by : All (λ (r : Receipt). r.worker < 2) (sending 0 ∷ states 1 1 ∷ first_output 2 ∷ second_output 3 ∷ policies 4 ∷ [])
sent_by zero d = λ h. lit< tt
sent_by (suc zero) d = λ h. lit< tt
sent_by (suc (suc zero)) d = λ h. lit< tt
sent_by (suc (suc (suc zero))) d = λ h. lit< tt
sent_by (suc (suc (suc (suc zero)))) d = λ h. lit< tt
sent_by (suc (suc (suc (suc (suc k))))) d = λ h. absurd (omega arith)

sent_late_by : All (λ (r : Receipt). r.worker < 2) (sending 0 ∷ first_output 1 ∷ second_output 2 ∷ policies 3 ∷ states 4 1 ∷ [])
sent_late_by zero d = λ h. lit< tt
sent_late_by (suc zero) d = λ h. lit< tt
sent_late_by (suc (suc zero)) d = λ h. lit< tt
sent_late_by (suc (suc (suc zero))) d = λ h. lit< tt
sent_late_by (suc (suc (suc (suc zero)))) d = λ h. lit< tt
sent_late_by (suc (suc (suc (suc (suc k))))) d = λ h. absurd (omega arith)

-- those of worker 0 in their order
runs_zero : (k l m n : ℕ) → Runs (Send 4 flow 10 ∷ One 6 call.PolicyCount ∷ []) (sending k ∷ first_output l ∷ second_output m ∷ policies n ∷ [])
runs_zero k l m n = (
  sending k ∷ first_output l ∷ second_output m ∷ [],
  policies n ∷ [],
  refl,
  (
    record { at_line = refl; at_part = refl; of_call = refl },
    (record { at_line = refl; at_part = refl; of_call = refl }, (record { at_line = refl; at_part = refl; of_call = refl }, tt)),
  ),
  (policies n ∷ [], [], refl, record { at_line = refl; at_part = refl; of_call = refl }, refl),
)

runs_one : (k : ℕ) → Runs (One 5 call.StateCount ∷ []) (states k 1 ∷ [])
runs_one k = (states k 1 ∷ [], [], refl, record { at_line = refl; at_part = refl; of_call = refl }, refl)

pub returns : goal.returns
returns c = record {
  shuffled = record { workers = sent_by; each = (runs_zero 0 2 3 4, (runs_one 1, tt)) };
  shuffled_late = record { workers = sent_late_by; each = (runs_zero 0 1 2 3, (runs_one 4, tt)) };
  swapped_lines = λ h. let f = (send-first 4 flow 10 (One 6 call.PolicyCount ∷ []) (policies 0) _ h.each.0).0.at_line in omega arith;
  swapped_outputs = λ h. let f = (no_first_output 0 (second_output 2) _ h.each.0).at_part in omega arith;
  counted_twice = λ h. let f = (one-first 6 call.PolicyCount [] (policies 4) _ (behind_both 0 2 3 _ h.each.0)).1 in cc;
  one_of_other = λ h. let f = (one-first 5 call.StateCount [] (states 1 1) _ h.each.1.0).1 in cc;
  sent_again = λ h. let f = (one-first 6 call.PolicyCount [] (second_output 4) _ (behind_both 0 2 3 _ h.each.0)).0.at_line in omega arith;
  not_counted = λ h. one-some 6 call.PolicyCount [] (behind_both 0 2 3 [] h.each.0);
  not_sent = λ h. let f = (output-first 4 2 10 _ _ _ (policies 3) _ (behind_first 0 2 _ h.each.0)).0.at_line in omega arith;
  none_of_other = λ h. one-some 5 call.StateCount [] h.each.1.0;
  stranger = λ h. let f = h.workers 5 (states 5 2) (lit< tt) in omega arith;
  wrong_worker = λ h. let f = (no_first_output 0 (states 1 0) _ h.each.0).at_line in omega arith;
  no_history = λ h. h;
  no_phase = λ h. cc;
}
