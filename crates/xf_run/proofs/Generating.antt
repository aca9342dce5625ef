-- How far the run of a large input has come.
use Rattle.std.proofs.Common.{◌≡◌, ℕ, ◌+◌, ◌<◌, Bool, false, ◌||◌, List, [], ◌∷◌, ◌++◌, length, take, get_or, map, refl, sym, ap, subst, ◌∙◌, append-nil, append_assoc, arith, zero, suc}
use Rattle.std.proofs.lemmas.List.Folds.{list_any-append}
use Rattle.std.proofs.lemmas.List.{length-map}
use Rattle.xf_types.specs.declared.call.Receipt.{Receipt}
use Rattle.xf_types.specs.Batch.{Line, WorkerLine, calls_of_thread}
use Rattle.xf_types.specs.Codes.{is_refusal_of}
use Rattle.xf_types.specs.Counters.{upwards}
use Rattle.xf_types.specs.History.{joined}
use Rattle.xf_types.specs.Machine.{Machine}
use Rattle.xf_types.specs.Steps.{empty}
use Rattle.xf_batch.specs.declared.task.Task.{Task}
use Rattle.xf_batch.specs.Batch.{call_count}
use Rattle.xf_batch.specs.Generated.{generated}
use Rattle.xf_batch.specs.Shown.{line_of, lines_shown}
use Rattle.xf_tally.specs.Summary.{Summary, summary_of}
use Rattle.xf_tally.proofs.Summaries.{lines-more}
use Rattle.xf_run.specs.Generated.{phases_to, Summarizes, CountsLines, CountsPhase}
use Rattle.xf_run.specs.Heard.{Heard, Sums, hears}
use Rattle.xf_run.specs.Progress.{MakesLine}
use Rattle.xf_run.specs.Turns.{Turn, receipts_from, is_refused}
use Rattle.xf_run.proofs.Counting.{call_count-more}
use Rattle.xf_run.proofs.Ending.{one_thread}
use Rattle.xf_run.proofs.Hearing.{heard-sums, heard-lines}
use Rattle.xf_run.proofs.Making.{hears-join}
use Rattle.xf_run.proofs.Phasing.{Leads, AreRuns, histories_of, all_turns, Leads-more, AreRuns-more, all_turns-more}
use Rattle.xf_run.proofs.Progressing.{front_more, runs_more}
use Rattle.xf_run.proofs.Told.{AreHistoriesOf-turns, has_refusal-histories}
use Rattle.xf_run.proofs.Turning.{Lead-join}

-- one more line is answered and counted
pub counted_next : (ts : List Task) (i : ℕ) (t : Task) (start m n : Machine) (refused refusal : Bool) (old mid new : Summary)
    → i < length ts → t ≡ get_or ts i t → CountsLines start m (lines_shown (take i ts)) refused old mid
    → MakesLine m n (line_of t) refusal (Sums mid) (Sums new)
    → CountsLines start n (lines_shown (take (i + 1) ts)) (refused || refusal) old new
counted_next ts i t start m n refused refusal old mid new lt e s a = record {
  turns = s.turns ++ a.turns;
  runs = rw (front_more ts i t lt e) (runs_more (lines_shown (take i ts)) (line_of t) s.turns a.turns s.runs a.run);
  lead = Lead-join start m n s.turns a.turns s.lead a.made.lead;
  refusal =
      list_any-append (λ (x : Turn). is_refusal_of x.reply) s.turns a.turns
      ∙ ap (λ (b : Bool). b || is_refused a.turns) s.refusal
      ∙ ap (λ (b : Bool). refused || b) a.made.refusal;
  counts =
      a.made.heard ∙ ap (λ (h : Heard). hears h a.turns) s.counts ∙ sym (hears-join (Sums old) s.turns a.turns);
}

-- these phases of the input were answered and counted
pub record GenSoFar (seed count : ℕ) (m : Machine) (refused : Bool) (sums : Summary) : Type 0 where
  pub turns : List (List Turn)
  pub leads : Leads (empty 4096 8192) turns m
  pub runs : AreRuns (phases_to seed count) turns
  pub refusals : is_refused (all_turns turns) ≡ refused
  pub sums_are : sums ≡ summary_of (call_count (phases_to seed count)) (joined (histories_of turns))

-- none was yet
pub gen_none : (seed : ℕ) (sums : Summary) → sums ≡ summary_of 0 [] → GenSoFar seed 0 (empty 4096 8192) false sums
gen_none seed sums e = record { turns = []; leads = refl; runs = tt; refusals = refl; sums_are = e }

-- one phase more
upwards-more : (n count : ℕ) → upwards n (count + 1) ≡ upwards n count ++ (n + count) ∷ []
upwards-more n zero = let e : n ≡ n + 0 = omega arith in ap (λ (k : ℕ). k ∷ []) e
upwards-more n (suc count) =
    let e : (n + 1) + count ≡ n + suc count = omega arith in
    let size : suc count + 1 ≡ suc (count + 1) = omega arith in
    ap (upwards n) size
    ∙ ap (λ (ks : List ℕ). n ∷ ks) (upwards-more (n + 1) count ∙ ap (λ (k : ℕ). upwards (n + 1) count ++ k ∷ []) e)

map-more : (f : ℕ → List WorkerLine) (ks : List ℕ) (k : ℕ) → map f (ks ++ k ∷ []) ≡ map f ks ++ f k ∷ []
map-more f [] k = refl
map-more f (x ∷ ks) k = ap (λ (ps : List (List WorkerLine)). f x ∷ ps) (map-more f ks k)

phases-more : (seed count : ℕ) → phases_to seed (count + 1) ≡ phases_to seed count ++ generated seed (1 + count) ∷ []
phases-more seed count = ap (map (generated seed)) (upwards-more 1 count) ∙ map-more (generated seed) (upwards 1 count) (1 + count)

joined-more : (tss : List (List Turn)) (ts : List Turn)
    → joined (histories_of (tss ++ ts ∷ [])) ≡ joined (histories_of tss) ++ receipts_from 0 ts
joined-more [] ts = append-nil (receipts_from 0 ts)
joined-more (us ∷ tss) ts =
    ap (λ (rs : List Receipt). receipts_from 0 us ++ rs) (joined-more tss ts)
    ∙ sym (append_assoc (receipts_from 0 us) (joined (histories_of tss)) (receipts_from 0 ts))

pub gen_next : (seed count : ℕ) (m n : Machine) (refused refusal : Bool) (old new : Summary) (ls : List Line)
    → ls ≡ calls_of_thread 1 (generated seed (1 + count)) 0 → GenSoFar seed count m refused old → CountsPhase m n ls refusal old new
    → GenSoFar seed (count + 1) n (refused || refusal) new
gen_next seed count m n refused refusal old new ls e s k =
    let calls : List WorkerLine = generated seed (1 + count) in
    let ps : List (List WorkerLine) = phases_to seed count in
    let rs : List Receipt = joined (histories_of s.turns) in
    let ts : List Turn = k.counts.turns in
    let size : length ls ≡ length calls =
    ap (λ (x : List Line). length x) (e ∙ one_thread calls) ∙ length-map calls (λ (c : WorkerLine). c.line)
    in
    let lines : record old { lines = old.lines + length ls } ≡ summary_of (call_count ps + length ls) rs =
    ap (λ (x : Summary). record x { lines = x.lines + length ls }) s.sums_are ∙ lines-more (call_count ps) (length ls) rs
    in
    let sums : new ≡ summary_of (call_count ps + length ls) (rs ++ receipts_from 0 ts) =
    heard-sums (call_count ps + length ls) rs (record old { lines = old.lines + length ls }) new ts lines k.counts.counts
    in
    let count_is : call_count ps + length ls ≡ call_count (phases_to seed (count + 1)) =
    ap (λ (x : ℕ). call_count ps + x) size ∙ sym (call_count-more ps calls) ∙ ap call_count (sym (phases-more seed count))
    in
    record {
      turns = s.turns ++ ts ∷ [];
      leads = Leads-more (empty 4096 8192) m n s.turns ts s.leads k.counts.lead;
      runs = rw (phases-more seed count) (AreRuns-more ps calls s.turns ts s.runs (rw (← e) k.counts.runs));
      refusals =
          ap is_refused (all_turns-more s.turns ts) ∙ list_any-append (λ (x : Turn). is_refusal_of x.reply) (all_turns s.turns) ts
          ∙ ap (λ (b : Bool). b || is_refused ts) s.refusals
          ∙ ap (λ (b : Bool). refused || b) k.counts.refusal;
      sums_are =
          sums ∙ ap (λ (x : ℕ). summary_of x (rs ++ receipts_from 0 ts)) count_is
          ∙ ap (λ (x : List Receipt). summary_of (call_count (phases_to seed (count + 1))) x) (sym (joined-more s.turns ts));
    }

-- all four
pub gen_all : (seed : ℕ) (m : Machine) (refused : Bool) (sums : Summary) → GenSoFar seed 4 m refused sums → Summarizes seed refused sums
gen_all seed m refused sums s = record {
  histories = histories_of s.turns;
  are_histories = AreHistoriesOf-turns m (phases_to seed 4) s.turns s.leads s.runs;
  sums_are = s.sums_are;
  refusals = has_refusal-histories s.turns ∙ s.refusals;
}

-- a phase is counted by its lines and its tasks
pub phase_counted : (m n : Machine) (tasks : List Task) (ls : List Line) (refused : Bool) (old mid new : Summary) → lines_shown tasks ≡ ls
    → mid ≡ record old { lines = old.lines + length tasks } → CountsLines m n (lines_shown tasks) refused mid new
    → CountsPhase m n ls refused old new
phase_counted m n tasks ls refused old mid new e lines k =
    let size : length tasks ≡ length ls = sym (length-map tasks line_of) ∙ ap (λ (x : List Line). length x) e in
    let begun : mid ≡ record old { lines = old.lines + length ls } =
    lines ∙ ap (λ (x : ℕ). record old { lines = old.lines + x }) size
    in
    record {
      counts =
          subst (λ (s : Summary). CountsLines m n ls refused s new) begun
          (subst (λ (x : List Line). CountsLines m n x refused mid new) e k);
      lines = heard-lines mid new k.turns k.counts ∙ ap (λ (s : Summary). s.lines) begun;
    }
