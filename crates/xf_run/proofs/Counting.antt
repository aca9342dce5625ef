-- How many phases and call lines a batch has, counted phase by phase.
use Rattle.std.proofs.Common.{◌≡◌, ℕ, ◌+◌, Bool, true, false, List, [], ◌∷◌, ◌++◌, length, get_or, Option, None, Some, Ok, Err, ◌||◌, if◌then◌else◌, refl, sym, ap, ◌∙◌, append-nil, append_assoc, arith}
use Rattle.std.specs.Prelude.{nat_lt, IfSome}
use Rattle.std.specs.Io.KnownBytes.{Consumes, IsAtEnd}
use Rattle.std.proofs.KnownBytes.{Appends-nil, Consumes-nil, Consumes-trans, Consumes-whole}
use Rattle.std.proofs.lemmas.Bool.{lt-ltb}
use Rattle.std.proofs.lemmas.List.{length-append, length-map}
use Rattle.std.proofs.lemmas.List.Sums.{sum-map, sum_by-cons}
use Rattle.xf_types.specs.declared.status.Status.{Status}
use Rattle.xf_types.specs.declared.status.Status.TheVariants as status
use Rattle.xf_types.specs.Batch.{WorkerLine, Line, threads_of}
use Rattle.xf_types.specs.declared.status.Reason.{Reason}
use Rattle.xf_read.specs.declared.reader.Unread.{Unread}
use Rattle.xf_batch.specs.Batch.{Batch, batch_at, batch_of, last_count, phase_count, call_count, whole_batch_at, whole_batch_of}
use Rattle.xf_read.specs.declared.reader.Reader.{Reader}
use Rattle.xf_batch.specs.declared.phase.Phase.{Phase}
use Rattle.xf_batch.specs.declared.fault.PhaseFault.{PhaseFault}
use Rattle.xf_batch.specs.declared.fault.PhaseFault.TheVariants as fault
use Rattle.xf_batch.specs.Reading.{GivesPhase, HasPassed, MakesUp, MayFollow, standing, unread_bytes}
use Rattle.xf_batch.specs.Shown.{phase_shown, threads_shown}
use Rattle.xf_print.specs.BadLine.{bad_line_text}
use Rattle.xf_run.specs.declared.check.Counts.{Counts}
use Rattle.xf_run.specs.Check.{AreCounts, CheckOutcome, Counted, IsCheckStatus, IsCheckOutcome, CountsBatch, TellsCounts, check_text, counts_text, unclocked}
use Rattle.xf_read.specs.Unread.{IsFresh}
use Rattle.xf_run.specs.Phases.{Reported}
use Rattle.xf_run.proofs.Ending.{of_input, one_thread}
use Rattle.xf_run.proofs.Taking.{goes_on_by}
use Rattle.xf_run.proofs.SoFar.{all_before, follow_on, followed-is, rest_of, whole_batch, whole_lines_batch}

-- the clock is not asked
abbrev pub unasked : ℕ → ℕ
unasked k = 0

-- how many phases are counted: all that a `sync` ended, and where none goes on, the last one by its `sync` or its call lines
abbrev pub counted_by : Bool → Bool → List (List WorkerLine) → ℕ
counted_by true synced ps = length ps
counted_by false synced ps = phase_count synced ps

-- the phases so far make up the batch with what is left, whatever follows the bytes that were taken, and are counted
pub record CountedTold (taken : List ℕ) (u : Unread) (more : Bool) (phases lines : ℕ) : Type 0 where
  pub so_far : List (List WorkerLine)
  pub synced : Bool
  pub goes_on : more ≡ true → u.ended ≡ false
  pub batch : (rest : List ℕ) → MayFollow u.ended rest
      → batch_of unasked (taken ++ rest)
      ≡ all_before so_far (rest_of more synced (batch_at unasked (standing u) (unread_bytes u ++ rest)))
  pub whole : (rest : List ℕ) → more ≡ true
      → whole_batch_of unasked (taken ++ rest) ≡ all_before so_far (whole_batch_at unasked (standing u) (unread_bytes u ++ rest))
  pub phases_are : phases ≡ counted_by more synced so_far
  pub lines_are : lines ≡ call_count so_far

-- the same, with the bytes that were taken
pub record CountedSoFar (left_old left_new : Option (List ℕ)) (u : Unread) (more : Bool) (phases lines : ℕ) : Type 0 where
  pub taken : List ℕ
  pub consumed : Consumes left_old left_new taken
  pub told : CountedTold taken u more phases lines

-- call lines behind others
pub call_count-more : (ps : List (List WorkerLine)) (calls : List WorkerLine) → call_count (ps ++ calls ∷ []) ≡ call_count ps + length calls
call_count-more [] calls = sum-map length (calls ∷ []) ∙ sum_by-cons length calls [] ∙ (let e : length calls + 0 ≡ 0 + length calls = omega arith in e)
call_count-more (p ∷ ps) calls =
    let all : call_count (p ∷ ps ++ calls ∷ []) ≡ length p + call_count (ps ++ calls ∷ []) =
    sum-map length (p ∷ ps ++ calls ∷ []) ∙ sum_by-cons length p (ps ++ calls ∷ [])
    ∙ ap (λ (n : ℕ). length p + n) (sym (sum-map length (ps ++ calls ∷ [])))
    in
    let first : call_count (p ∷ ps) ≡ length p + call_count ps =
    sum-map length (p ∷ ps) ∙ sum_by-cons length p ps ∙ ap (λ (n : ℕ). length p + n) (sym (sum-map length ps))
    in
    let rest : call_count (ps ++ calls ∷ []) ≡ call_count ps + length calls = call_count-more ps calls in
    omega (arith, all, first, rest)

-- a last phase behind others
phase_count-more : (synced : Bool) (ps : List (List WorkerLine)) (calls : List WorkerLine)
    → phase_count synced (ps ++ calls ∷ []) ≡ length ps + last_count synced calls
phase_count-more synced [] calls = omega arith
phase_count-more synced (p ∷ []) calls = omega arith
phase_count-more synced (p ∷ q ∷ ps) calls =
    let rest : phase_count synced (q ∷ ps ++ calls ∷ []) ≡ length (q ∷ ps) + last_count synced calls = phase_count-more synced (q ∷ ps) calls in
    omega (arith, rest)

-- a phase more, with so many call lines: it counts where a `sync` ended it, or where it has a call line
counted_more : (ps : List (List WorkerLine)) (calls : List WorkerLine) (more synced : Bool) (n : ℕ) → n ≡ length calls
    → (more ≡ true → synced ≡ true)
    → counted_by more synced (ps ++ calls ∷ []) ≡ length ps + (if synced || nat_lt 0 n then 1 else 0)
counted_more ps calls true synced n e on = length-append ps (calls ∷ []) ∙ rw (on refl) refl
counted_more ps calls false true n e on = phase_count-more true ps calls
counted_more ps [] false false n e on = phase_count-more false ps [] ∙ rw (e) refl
counted_more ps (c ∷ cs) false false n e on =
    let some : nat_lt 0 n ≡ true = lt-ltb 0 n (omega (arith, e)) in
    phase_count-more false ps (c ∷ cs) ∙ rw (some) refl

-- one phase more
counted_next : (taken read : List ℕ) (u v : Unread) (more synced : Bool) (phases lines n : ℕ) (calls : List WorkerLine)
    → CountedTold taken u true phases lines → n ≡ length calls → MakesUp 0 u v read more synced calls
    → (more ≡ true → synced ≡ true) → (more ≡ true → v.ended ≡ false)
    → CountedTold (taken ++ read) v more (phases + (if synced || nat_lt 0 n then 1 else 0)) (lines + n)
counted_next taken read u v more synced phases lines n calls t e makes on goes_on = record {
  so_far = t.so_far ++ calls ∷ [];
  synced = synced;
  goes_on = goes_on;
  batch = λ rest follows.
      ap (λ (l : List ℕ). batch_of unasked l) (append_assoc taken read rest)
      ∙ t.batch (read ++ rest) (follow_on u.ended (read ++ rest) (t.goes_on refl))
      ∙ ap (λ (x : Batch). all_before t.so_far x) (makes.batch unasked rest refl follows)
      ∙ followed-is t.so_far more synced calls (batch_at unasked (standing v) (unread_bytes v ++ rest));
  whole = λ rest further.
      ap (λ (l : List ℕ). whole_batch_of unasked l) (append_assoc taken read rest)
      ∙ t.whole (read ++ rest) refl
      ∙ ap (λ (x : Batch). all_before t.so_far x) (makes.whole unasked rest refl further)
      ∙ followed-is t.so_far true true calls (whole_batch_at unasked (standing v) (unread_bytes v ++ rest));
  phases_are = rw (t.phases_are) (sym (counted_more t.so_far calls more synced n e on));
  lines_are = rw (t.lines_are, e) (sym (call_count-more t.so_far calls));
}

-- the first thread's call lines are all
all_lines : (threads : List (List Line)) (calls : List WorkerLine) (n : ℕ) → threads ≡ threads_of 1 calls → n ≡ length (get_or threads 0 [])
    → n ≡ length calls
all_lines threads calls n e count =
    count ∙ ap (λ (ts : List (List Line)). length (get_or ts 0 [])) e
    ∙ ap (λ (ls : List Line). length ls) (one_thread calls) ∙ length-map calls (λ (c : WorkerLine). c.line)

no_memory : (lo ln : Option (List ℕ)) → CountsBatch lo ln (Err fault.NoMemory)
no_memory None ln = tt
no_memory (Some input) ln = tt

-- one phase more, with what was read for it
pub counted_some : (lo lm ln : Option (List ℕ)) (fm fn : ℕ) (u : Unread) (phase : Phase) (reader : Reader) (more : Bool) (phases lines n : ℕ)
    → CountedSoFar lo lm u true phases lines → GivesPhase 1 0 u lm ln fm fn (Ok (phase, reader)) → more ≡ phase.more
    → HasPassed 1 u reader.unread (phase_shown phase) → n ≡ length (get_or (threads_shown phase.threads.items) 0 [])
    → CountedSoFar lo ln reader.unread more (phases + (if phase.synced || nat_lt 0 n then 1 else 0)) (lines + n)
counted_some lo lm ln fm fn u phase reader more phases lines n t h e passed count =
    let v : Unread = reader.unread in
    let still : phase.more ≡ true → v.ended ≡ false = goes_on_by phase.more v.ended passed.whole.1 in
    record {
      taken = t.taken ++ h.read;
      consumed = Consumes-trans lo lm ln t.taken h.read t.consumed h.has_read.consumed;
      told =
          rw (e)
          (counted_next t.taken h.read u v phase.more phase.synced phases lines n h.calls t.told
          (all_lines (threads_shown phase.threads.items) h.calls n h.threads count) h.makes passed.synced still);
    }

-- a phase that isn't counted
pub counted_same : (phases : ℕ) (more : Bool) (n : ℕ) → (more || nat_lt 0 n) ≡ false
    → phases + (if more || nat_lt 0 n then 1 else 0) ≡ phases
counted_same phases more n e = rw (e) (let sum : phases + 0 ≡ phases = omega arith in sum)

-- where no phase was read
pub counted_fails : (lo lm ln : Option (List ℕ)) (fm fn : ℕ) (u : Unread) (phases lines : ℕ) (why : PhaseFault) → CountedSoFar lo lm u true phases lines
    → GivesPhase 1 0 u lm ln fm fn (Err why) → CountsBatch lo ln (Err why)
counted_fails lo lm ln fm fn u phases lines (fault.Bad line reason) t h =
    of_input lo ln (t.taken ++ h.read) h.ended _ (Consumes-trans lo lm ln t.taken h.read t.consumed h.consumed)
    (h.end (λ e. absurd (cc (e, t.told.goes_on refl))))
    (λ rest from follows.
    ap (λ (b : Batch). b.bad)
    (ap (λ (l : List ℕ). batch_of unasked l) (append_assoc t.taken h.read rest)
    ∙ t.told.batch (h.read ++ rest) (follow_on u.ended (h.read ++ rest) (t.told.goes_on refl))
    ∙ ap (λ (b : Batch). all_before t.told.so_far b) (h.batch unasked rest refl follows)))
counted_fails lo lm ln fm fn u phases lines fault.ReadFault t h =
    of_input lo ln (t.taken ++ h.read) false _ (Consumes-trans lo lm ln t.taken h.read t.consumed h.consumed) (λ e. absurd cc)
    (λ rest from follows.
    record {
      taken = t.taken ++ h.read;
      consumed = from;
      good =
          ap (λ (b : Batch). b.bad)
          (t.told.whole h.read refl ∙ ap (λ (b : Batch). all_before t.told.so_far b) (h.is_open.batch unasked refl));
    })
counted_fails lo lm ln fm fn u phases lines fault.NoMemory t h = no_memory lo ln

-- before the first phase
pub counted_none : (left : Option (List ℕ)) (u : Unread) → IsFresh u → CountedSoFar left left u true 0 0
counted_none left u f = record {
  taken = [];
  consumed = Consumes-nil left;
  told = record {
    so_far = [];
    synced = false;
    goes_on = λ on. f.ended;
    batch = λ rest follows. whole_batch unasked rest u f;
    whole = λ rest on. whole_lines_batch unasked rest u f;
    phases_are = refl;
    lines_are = refl;
  };
}

-- all phases were counted
pub counted_all : (lo ln : Option (List ℕ)) (u : Unread) (phases lines : ℕ) → CountedSoFar lo ln u false phases lines → IsAtEnd ln
    → CountsBatch lo ln (Ok (record { phases = phases; lines = lines }))
counted_all lo ln u phases lines t end =
    let e : batch_of unasked t.taken ≡ record { phases = t.told.so_far ++ []; synced = t.told.synced; bad = None } =
    ap (λ (l : List ℕ). batch_of unasked l) (sym (append-nil t.taken)) ∙ t.told.batch [] (λ e. refl)
    in
    let all : (batch_of unasked t.taken).phases ≡ t.told.so_far = ap (λ (b : Batch). b.phases) e ∙ append-nil t.told.so_far in
    let synced : (batch_of unasked t.taken).synced ≡ t.told.synced = ap (λ (b : Batch). b.synced) e in
    Consumes-whole lo ln t.taken (λ input. Counted input ln (Ok (record { phases = phases; lines = lines }))) t.consumed end
    (record {
      good = ap (λ (b : Batch). b.bad) e;
      phases = t.told.phases_are ∙ (λ i. phase_count (sym synced i) (sym all i));
      lines = t.told.lines_are ∙ ap call_count (sym all);
    })

-- the line of a batch without a bad one
good_text : (b : Batch) (c : Counts) → AreCounts b c → check_text b ≡ counts_text c.phases c.lines
good_text b c a = rw (a.good, a.phases, a.lines) refl

told_by : (s : Status) (input : List ℕ) (left : Option (List ℕ)) (c : Counts) (old new : Option (List ℕ)) → AreCounts (unclocked input) c
    → TellsCounts s c.phases c.lines old new → CheckOutcome s input left old new
told_by status.Done input left c old new a t = (a.good, rw (good_text (unclocked input) c a) t)
told_by status.WriteFault input left c old new a t = rw (good_text (unclocked input) c a) t
told_by status.NoMemory input left c old new a t = t
told_by status.Refusals input left c old new a t = absurd t
told_by status.Usage input left c old new a t = absurd t
told_by (status.BadLine line reason) input left c old new a t = absurd t
told_by status.ReadFault input left c old new a t = absurd t

-- the line of a batch with one
bad_text : (b : Batch) (line : ℕ) (why : Reason) → b.bad ≡ Some (record { line = line; reason = why })
    → check_text b ≡ bad_line_text line why
bad_text b line why e = rw (e) refl

bad_by : (s : Status) (input : List ℕ) (left : Option (List ℕ)) (line : ℕ) (why : Reason) (old new : Option (List ℕ))
    → (unclocked input).bad ≡ Some (record { line = line; reason = why }) → Reported s line why old new → CheckOutcome s input left old new
bad_by (status.BadLine n reason) input left line why old new e t = (rw (t.0, t.1) e, rw (bad_text (unclocked input) line why e) t.2)
bad_by status.WriteFault input left line why old new e t = rw (bad_text (unclocked input) line why e) t
bad_by status.NoMemory input left line why old new e t = t
bad_by status.Done input left line why old new e t = absurd t
bad_by status.Refusals input left line why old new e t = absurd t
bad_by status.Usage input left line why old new e t = absurd t
bad_by status.ReadFault input left line why old new e t = absurd t

-- a check may end where counts were written
counts_end : (s : Status) (c : Counts) (old new : Option (List ℕ)) → TellsCounts s c.phases c.lines old new → IsCheckStatus s
counts_end status.Done c old new t = tt
counts_end status.WriteFault c old new t = tt
counts_end status.NoMemory c old new t = tt
counts_end status.Refusals c old new t = absurd t
counts_end status.Usage c old new t = absurd t
counts_end (status.BadLine line reason) c old new t = absurd t
counts_end status.ReadFault c old new t = absurd t

-- and where a bad line was
bad_end : (s : Status) (line : ℕ) (why : Reason) (old new : Option (List ℕ)) → Reported s line why old new → IsCheckStatus s
bad_end (status.BadLine n reason) line why old new t = tt
bad_end status.WriteFault line why old new t = tt
bad_end status.NoMemory line why old new t = tt
bad_end status.Done line why old new t = absurd t
bad_end status.Refusals line why old new t = absurd t
bad_end status.Usage line why old new t = absurd t
bad_end status.ReadFault line why old new t = absurd t

-- what the writing of counts says of the batch
counts_some : (s : Status) (lo ln : Option (List ℕ)) (c : Counts) (old new : Option (List ℕ)) → CountsBatch lo ln (Ok c)
    → TellsCounts s c.phases c.lines old new → IfSome lo (λ input. CheckOutcome s input ln old new)
counts_some s None ln c old new b t = tt
counts_some s (Some input) ln c old new b t = told_by s input ln c old new b t

pub told_counts : (s : Status) (lo ln : Option (List ℕ)) (c : Counts) (old new : Option (List ℕ)) → CountsBatch lo ln (Ok c)
    → TellsCounts s c.phases c.lines old new → IsCheckOutcome s lo ln old new
told_counts s lo ln c old new b t = record { may_end = counts_end s c old new t; outcome = counts_some s lo ln c old new b t }

-- and that of a bad line
bad_some : (s : Status) (lo ln : Option (List ℕ)) (line : ℕ) (why : Reason) (old new : Option (List ℕ))
    → CountsBatch lo ln (Err (fault.Bad line why)) → Reported s line why old new
    → IfSome lo (λ input. CheckOutcome s input ln old new)
bad_some s None ln line why old new b t = tt
bad_some s (Some input) ln line why old new b t = bad_by s input ln line why old new b t

pub told_bad : (s : Status) (lo ln : Option (List ℕ)) (line : ℕ) (why : Reason) (old new : Option (List ℕ))
    → CountsBatch lo ln (Err (fault.Bad line why)) → Reported s line why old new → IsCheckOutcome s lo ln old new
told_bad s lo ln line why old new b t = record { may_end = bad_end s line why old new t; outcome = bad_some s lo ln line why old new b t }

-- and that of a read that failed
cut_some : (lo ln text : Option (List ℕ)) → CountsBatch lo ln (Err fault.ReadFault)
    → IfSome lo (λ input. CheckOutcome status.ReadFault input ln text text)
cut_some None ln text b = tt
cut_some (Some input) ln text b = (b, Appends-nil text)

pub told_cut : (lo ln text : Option (List ℕ)) → CountsBatch lo ln (Err fault.ReadFault) → IsCheckOutcome status.ReadFault lo ln text text
told_cut lo ln text b = record { may_end = tt; outcome = cut_some lo ln text b }
