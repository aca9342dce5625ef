use Rattle.std.proofs.Common.{arith, refl, lit<}
use Rattle.std.specs.Prelude.{◌<◌, zero, suc, All, []}
use Rattle.xf_examples.specs.BatchRows.{of_send, of_count, sent}
use Rattle.xf_types.specs.declared.call.Receipt.{Receipt}
use Rattle.xf_examples.proofs.rows.batch_rows.Goals as goal

-- each receipt is of one of the two workers
sent_by : All (λ (r : Receipt). r.worker < 2) sent
sent_by zero d = λ h. lit< tt
sent_by (suc zero) d = λ h. lit< tt
sent_by (suc (suc zero)) d = λ h. lit< tt
sent_by (suc (suc (suc zero))) d = λ h. lit< tt
sent_by (suc (suc (suc (suc k)))) d = λ h. absurd (omega arith)

pub returns : goal.returns
returns c = record {
  odd_worker = refl;
  even_workers = refl;
  two_threads = refl;
  one_thread = refl;
  shuffled = record {
    workers = sent_by;
    each = (
      (
        of_send,
        of_count,
        refl,
        (
          record { at_line = refl; at_part = refl; of_call = refl },
          (record { at_line = refl; at_part = refl; of_call = refl }, (record { at_line = refl; at_part = refl; of_call = refl }, tt)),
        ),
        (of_count, [], refl, record { at_line = refl; at_part = refl; of_call = refl }, refl),
      ),
      (refl, tt),
    );
  };
}
