-- What a run comes to, where it ends.
use Rattle.std.proofs.Common.{◌≡◌, inl, inr, ℕ, ◌+◌, ◌<◌, Bool, true, false, List, [], ◌∷◌, ◌++◌, length, take, drop, map, Option, None, Some, Err, refl, sym, ap, subst, ◌∙◌, append-nil, append_assoc, take-append-drop, arith}
use Rattle.std.specs.Prelude.{IfSome}
use Rattle.std.specs.Io.KnownBytes.{Appends, Consumes, IsAtEnd}
use Rattle.std.proofs.KnownBytes.{Appends-trans, Appends-nil, Consumes-trans, Consumes-whole}
use Rattle.std.proofs.Math.Nat.{mod-one}
use Rattle.std.proofs.Math.Seq.{take-append_seam}
use Rattle.std.proofs.lemmas.List.{length-append, take-map}
use Rattle.xf_types.specs.declared.status.Reason.{Reason}
use Rattle.xf_types.specs.declared.status.Status.{Status}
use Rattle.xf_types.specs.declared.status.Status.TheVariants as status
use Rattle.xf_types.specs.Batch.{WorkerLine, Line, Runs, calls_of_thread}
use Rattle.xf_types.specs.History.{joined}
use Rattle.xf_types.specs.Machine.{Machine}
use Rattle.xf_types.specs.Steps.{empty}
use Rattle.xf_read.specs.declared.reader.Unread.{Unread}
use Rattle.xf_batch.specs.Batch.{Batch, batch_at, batch_of, followed, last_phase, later, refused_at, whole_batch_of}
use Rattle.xf_batch.specs.Reading.{IsCutOff, IsFirstBad, MayFollow, standing, unread_bytes}
use Rattle.xf_print.specs.Receipts.{text_of}
use Rattle.xf_print.specs.BadLine.{bad_line_text}
use Rattle.xf_run.specs.Outcome.{AreFirst, PartOf, Answered, Ends, Reports, StopsBehindLine, StopsWithinText, StopsWithinReport, Outcome, IsRunStatus, IsOutcome}
use Rattle.xf_run.specs.Phases.{ReadsLines, EndsPhase, IsNext}
use Rattle.xf_run.specs.Progress.{RunsLines}
use Rattle.xf_run.specs.Turns.{Turn, Lead, receipts_from, turns_text}
use Rattle.xf_run.proofs.Asking.{with_answer, answer_at, answer_before, asked_none, asked_more}
use Rattle.xf_run.proofs.Following.{some_follows}
use Rattle.xf_run.proofs.Phasing.{histories_of, all_turns, Leads-more, AreRuns-more, all_turns-more}
use Rattle.xf_run.proofs.SoFar.{RanAll, Told, SoFar, all_before, follow_on, later_by, ran_none, ran_more}
use Rattle.xf_run.proofs.Told.{AreHistoriesOf-turns, text_of-histories, has_refusal-histories}
use Rattle.xf_run.proofs.Turning.{text_join}

-- phases were answered, and something stands behind their text
answered : (ps : List (List WorkerLine)) (m : Machine) (refused : Bool) (behind : List ℕ) (old mid new : Option (List ℕ))
    → RanAll ps m refused old mid → Appends mid new behind → Answered ps refused behind old new
answered ps m refused behind old mid new r a = record {
  histories = histories_of r.turns;
  are_histories = AreHistoriesOf-turns m ps r.turns r.leads r.runs;
  text = rw (text_of-histories r.turns) (Appends-trans old mid new (turns_text (all_turns r.turns)) behind r.text a);
  refusals = has_refusal-histories r.turns ∙ r.refusals;
}

-- nothing stands behind it
answered_whole : (ps : List (List WorkerLine)) (m : Machine) (refused : Bool) (old new : Option (List ℕ))
    → RanAll ps m refused old new → Answered ps refused [] old new
answered_whole ps m refused old new r = answered ps m refused [] old new new r (Appends-nil new)

-- one thread has all call lines
pub one_thread : (calls : List WorkerLine) → calls_of_thread 1 calls 0 ≡ map (λ (c : WorkerLine). c.line) calls
one_thread [] = refl
one_thread (c ∷ cs) = rw (mod-one c.worker) (ap (λ (ls : List Line). c.line ∷ ls) (one_thread cs))

-- the first lines are those of the first call lines
first_lines : (calls : List WorkerLine) (first rest : List Line) → first ++ rest ≡ calls_of_thread 1 calls 0
    → first ≡ calls_of_thread 1 (take (length first) calls) 0
first_lines calls first rest e =
    let n : ℕ = length first in
    sym
    (one_thread (take n calls) ∙ sym (take-map (λ (c : WorkerLine). c.line) n calls)
    ∙ ap (λ (ls : List Line). take n ls) (sym (e ∙ one_thread calls)) ∙ take-append_seam first rest)

-- the first phases, and the front of the next one
first_cut : (ps : List (List WorkerLine)) (cut rest calls : List WorkerLine) (qs : List (List WorkerLine)) → cut ++ rest ≡ calls
    → AreFirst (ps ++ cut ∷ []) (ps ++ calls ∷ qs)
first_cut [] cut rest calls qs e = (rest, e)
first_cut (p ∷ []) cut rest calls qs e = (refl, (rest, e))
first_cut (p ∷ q ∷ ps) cut rest calls qs e = (refl, first_cut (q ∷ ps) cut rest calls qs e)

-- the first phases alone
first_whole : (ps qs : List (List WorkerLine)) → AreFirst ps (ps ++ qs)
first_whole [] qs = tt
first_whole (p ∷ []) qs = ([], append-nil p)
first_whole (p ∷ q ∷ ps) qs = (refl, first_whole (q ∷ ps) qs)

-- all phases before what follows one
followed_phases : (ps : List (List WorkerLine)) (more synced : Bool) (calls : List WorkerLine) (b : Batch)
    → (qs : List (List WorkerLine)) × ((all_before ps (followed more synced calls b)).phases ≡ ps ++ calls ∷ qs)
followed_phases ps true synced calls b = (b.phases, refl)
followed_phases ps false synced calls b = ([], refl)

-- what holds of the bytes that were taken, whatever follows, holds of the input, where the source tells it
pub of_input : (lo ln : Option (List ℕ)) (taken : List ℕ) (ended : Bool) (P : List ℕ → Type 0) → Consumes lo ln taken → (ended ≡ true → IsAtEnd ln)
    → ((rest : List ℕ) → Consumes (Some (taken ++ rest)) ln taken → MayFollow ended rest → P (taken ++ rest)) → IfSome lo P
of_input None ln taken ended P c end h = tt
of_input (Some input) None taken ended P c end h = absurd c
of_input (Some input) (Some rest) taken ended P c end h = subst P (sym c) (h rest refl end)

-- all was answered
ended_told : (answers : ℕ → ℕ) (asked : ℕ) (taken : List ℕ) (u : Unread) (m : Machine) (refused : Bool)
    (old new : Option (List ℕ)) → Told answers asked taken u false m refused old new
    → Ends (batch_of answers taken) asked refused old new
ended_told answers asked taken u m refused old new t =
    let e : batch_of answers taken ≡ record { phases = t.phases ++ []; synced = t.synced; bad = None } =
    ap (λ (l : List ℕ). batch_of answers l) (sym (append-nil taken))
    ∙ t.batch answers [] (λ (k : ℕ) (lt : k < asked). refl) (λ e. refl)
    in
    let all : (batch_of answers taken).phases ≡ t.phases = ap (λ (b : Batch). b.phases) e ∙ append-nil t.phases in
    record {
      good = ap (λ (b : Batch). b.bad) e;
      asked_each = t.count ∙ ap (λ (ps : List (List WorkerLine)). length ps) (sym all);
      answered = rw all (answered_whole t.phases m refused old new t.ran);
    }

-- no reply was a refusal
pub done_all : (coming later : Option (ℕ → ℕ)) (lo ln : Option (List ℕ)) (u : Unread) (m : Machine) (old new : Option (List ℕ))
    → SoFar coming later lo ln u false m false old new → IsAtEnd ln → IsOutcome status.Done coming later lo ln old new
done_all coming later lo ln u m old new s end = record {
  may_end = tt;
  answers = s.answers;
  asked = s.asked;
  clock = s.clock;
  outcome =
      Consumes-whole lo ln s.taken (λ input. Outcome status.Done s.answers input ln s.asked old new) s.consumed end
      (ended_told s.answers s.asked s.taken u m false old new s.told);
}

-- some reply was one
pub refused_all : (coming later : Option (ℕ → ℕ)) (lo ln : Option (List ℕ)) (u : Unread) (m : Machine) (old new : Option (List ℕ))
    → SoFar coming later lo ln u false m true old new → IsAtEnd ln → IsOutcome status.Refusals coming later lo ln old new
refused_all coming later lo ln u m old new s end = record {
  may_end = tt;
  answers = s.answers;
  asked = s.asked;
  clock = s.clock;
  outcome =
      Consumes-whole lo ln s.taken (λ input. Outcome status.Refusals s.answers input ln s.asked old new) s.consumed end
      (ended_told s.answers s.asked s.taken u m true old new s.told);
}

-- memory ran out before the first phase
pub ran_out : (coming : Option (ℕ → ℕ)) (left text : Option (List ℕ)) → IsOutcome status.NoMemory coming coming left left text text
ran_out coming None text =
    record { may_end = tt; answers = λ (k : ℕ). 0; asked = 0; clock = asked_none coming; outcome = tt }
ran_out coming (Some input) text = record {
  may_end = tt;
  answers = λ (k : ℕ). 0;
  asked = 0;
  clock = asked_none coming;
  outcome = record {
    first = [];
    are_first = tt;
    asked_each = inl refl;
    refused = false;
    answered = answered_whole [] (empty 4096 8192) false text text (ran_none text);
  };
}

-- the phases so far and a front of the next one
stops_cut : (b : Batch) (ps : List (List WorkerLine)) (calls : List WorkerLine) (qs : List (List WorkerLine)) (first rest : List Line)
    → b.phases ≡ ps ++ calls ∷ qs → first ++ rest ≡ calls_of_thread 1 calls 0
    → AreFirst (ps ++ take (length first) calls ∷ []) b.phases
stops_cut b ps calls qs first rest e cut =
    let n : ℕ = length first in
    rw e (first_cut ps (take n calls) (drop n calls) calls qs (take-append-drop n calls))

-- the clock was asked for the phases so far and for the next one
one_more : (asked : ℕ) (ps : List (List WorkerLine)) (front : List WorkerLine) → asked ≡ length ps
    → asked + 1 ≡ length (ps ++ front ∷ [])
one_more asked ps front e =
    let count : length (ps ++ front ∷ []) ≡ length ps + 1 = length-append ps (front ∷ []) in omega (arith, count, e)

-- memory ran out behind a line
cut_told : (b : Batch) (asked : ℕ) (ps : List (List WorkerLine)) (calls : List WorkerLine) (qs : List (List WorkerLine)) (m n : Machine)
    (refused refusal : Bool) (first rest : List Line) (old mid new : Option (List ℕ)) → b.phases ≡ ps ++ calls ∷ qs
    → asked ≡ length ps → first ++ rest ≡ calls_of_thread 1 calls 0 → RanAll ps m refused old mid
    → RunsLines m n first refusal mid new → StopsBehindLine b (asked + 1) old new
cut_told b asked ps calls qs m n refused refusal first rest old mid new e count cut r k =
    let front : List WorkerLine = take (length first) calls in
    let ran : RanAll (ps ++ front ∷ []) n _ old new =
    ran_more ps front first m n refused refusal old mid new (first_lines calls first rest cut) r k
    in
    record {
      first = ps ++ front ∷ [];
      are_first = stops_cut b ps calls qs first rest e cut;
      asked_each = inl (one_more asked ps front count);
      refused = _;
      answered = answered_whole (ps ++ front ∷ []) n _ old new ran;
    }

-- a write failed within a line
broken_told : (b : Batch) (asked : ℕ) (ps : List (List WorkerLine)) (calls : List WorkerLine) (qs : List (List WorkerLine))
    (m n : Machine) (refused : Bool) (first rest : List Line) (ts : List Turn) (old mid new : Option (List ℕ))
    → b.phases ≡ ps ++ calls ∷ qs → asked ≡ length ps → first ++ rest ≡ calls_of_thread 1 calls 0 → RanAll ps m refused old mid
    → Runs first (receipts_from 0 ts) → Lead m ts n → PartOf (turns_text ts) mid new → StopsWithinText b (asked + 1) old new
broken_told b asked ps calls qs m n refused first rest ts old mid new e count cut r runs lead part =
    let front : List WorkerLine = take (length first) calls in
    let tss : List (List Turn) = r.turns ++ ts ∷ [] in
    let turns : List Turn = all_turns r.turns in
    let whole : turns_text turns ++ turns_text ts ≡ text_of (joined (histories_of tss)) =
    sym (text_of-histories tss ∙ ap turns_text (all_turns-more r.turns ts) ∙ text_join turns ts)
    in
    record {
      first = ps ++ front ∷ [];
      are_first = stops_cut b ps calls qs first rest e cut;
      asked_each = one_more asked ps front count;
      histories = histories_of tss;
      are_histories =
          AreHistoriesOf-turns n (ps ++ front ∷ []) tss (Leads-more (empty 4096 8192) m n r.turns ts r.leads lead)
          (AreRuns-more ps front r.turns ts r.runs (rw (← first_lines calls first rest cut) runs));
      part = record {
        front = turns_text turns ++ part.front;
        more = part.more;
        is_front =
            append_assoc (turns_text turns) part.front part.more
            ∙ ap (λ (x : List ℕ). turns_text turns ++ x) part.is_front ∙ whole;
        text = Appends-trans old mid new (turns_text turns) part.front r.text part.text;
      };
    }

-- a write failed within the text of a bad line
unreported_told : (b : Batch) (asked : ℕ) (ps : List (List WorkerLine)) (m : Machine) (refused : Bool) (line : ℕ) (why : Reason)
    (old mid new : Option (List ℕ)) → b ≡ all_before ps (refused_at line why) → asked ≡ length ps → RanAll ps m refused old mid
    → PartOf (bad_line_text line why) mid new → StopsWithinReport b (asked + 1) old new
unreported_told b asked ps m refused line why old mid new e count r part =
    let all : b.phases ≡ ps = ap (λ (x : Batch). x.phases) e ∙ append-nil ps in
    let turns : List Turn = all_turns r.turns in
    record {
      line = line;
      reason = why;
      is_bad = ap (λ (x : Batch). x.bad) e;
      asked_each = ap (λ (n : ℕ). n + 1) (count ∙ ap (λ (x : List (List WorkerLine)). length x) (sym all));
      histories = histories_of r.turns;
      are_histories = rw all (AreHistoriesOf-turns m ps r.turns r.leads r.runs);
      part = record {
        front = turns_text turns ++ part.front;
        more = part.more;
        is_front =
            append_assoc (turns_text turns) part.front part.more
            ∙ ap (λ (x : List ℕ). turns_text turns ++ x) part.is_front
            ∙ ap (λ (x : List ℕ). x ++ bad_line_text line why) (sym (text_of-histories r.turns));
        text = Appends-trans old mid new (turns_text turns) part.front r.text part.text;
      };
    }

-- the text of a bad line was written
reported_told : (b : Batch) (asked : ℕ) (ps : List (List WorkerLine)) (m : Machine) (refused : Bool) (line : ℕ) (why : Reason)
    (old mid new : Option (List ℕ)) → b ≡ all_before ps (refused_at line why) → asked ≡ length ps → RanAll ps m refused old mid
    → Appends mid new (bad_line_text line why) → Reports b (asked + 1) line why old new
reported_told b asked ps m refused line why old mid new e count r a =
    let all : b.phases ≡ ps = ap (λ (x : Batch). x.phases) e ∙ append-nil ps in
    record {
      is_bad = ap (λ (x : Batch). x.bad) e;
      asked_each = ap (λ (n : ℕ). n + 1) (count ∙ ap (λ (x : List (List WorkerLine)). length x) (sym all));
      refused = refused;
      answered = rw all (answered ps m refused (bad_line_text line why) old mid new r a);
    }

-- where the text is as it was, that of the phases so far stands
ran_still : (ps : List (List WorkerLine)) (m : Machine) (refused : Bool) (old mid new : Option (List ℕ)) → RanAll ps m refused old mid
    → Appends mid new [] → Answered ps refused [] old new
ran_still ps m refused old mid new r a = answered ps m refused [] old mid new r a

-- the next answer is the first of those after the answers so far
next_answer : (answers : ℕ → ℕ) (asked now : ℕ) → later_by asked (with_answer answers asked now) 0 ≡ now
next_answer answers asked now =
    let start : 0 + asked ≡ asked = omega arith in ap (with_answer answers asked now) start ∙ answer_at answers asked now

-- the batch of the input, where the next phase has a bad line
found : (answers : ℕ → ℕ) (asked now : ℕ) (taken rest : List ℕ) (lm ln : Option (List ℕ)) (u : Unread) (m : Machine) (refused : Bool)
    (old mid : Option (List ℕ)) (line : ℕ) (why : Reason) (t : Told answers asked taken u true m refused old mid)
    → (h : IsFirstBad now u lm ln line why) → MayFollow h.ended rest
    → batch_of (with_answer answers asked now) ((taken ++ h.read) ++ rest) ≡ all_before t.phases (refused_at line why)
found answers asked now taken rest lm ln u m refused old mid line why t h follows =
    let given : ℕ → ℕ = with_answer answers asked now in
    ap (λ (l : List ℕ). batch_of given l) (append_assoc taken h.read rest)
    ∙ t.batch given (h.read ++ rest) (answer_before answers asked now) (follow_on u.ended (h.read ++ rest) (t.goes_on refl))
    ∙ ap (λ (b : Batch). all_before t.phases b) (h.batch (later_by asked given) rest (next_answer answers asked now) follows)

-- the batch of the input, where the next phase was read
goes_on : (answers : ℕ → ℕ) (asked now : ℕ) (taken rest : List ℕ) (lm ln : Option (List ℕ)) (u : Unread) (m : Machine) (refused : Bool)
    (old mid : Option (List ℕ)) (t : Told answers asked taken u true m refused old mid) (v : Unread) (more : Bool) (ls : List Line)
    (r : ReadsLines now u v lm ln more ls) → MayFollow v.ended rest
    → batch_of (with_answer answers asked now) ((taken ++ r.read) ++ rest)
    ≡ all_before t.phases
    (followed more r.synced r.calls
    (batch_at (later (later_by asked (with_answer answers asked now))) (standing v) (unread_bytes v ++ rest)))
goes_on answers asked now taken rest lm ln u m refused old mid t v more ls r follows =
    let given : ℕ → ℕ = with_answer answers asked now in
    ap (λ (l : List ℕ). batch_of given l) (append_assoc taken r.read rest)
    ∙ t.batch given (r.read ++ rest) (answer_before answers asked now) (follow_on u.ended (r.read ++ rest) (t.goes_on refl))
    ∙ ap (λ (b : Batch). all_before t.phases b)
    (r.makes.batch (later_by asked given) rest (next_answer answers asked now) follows)

-- the batch of the input, where no line of the next phase is known
ahead : (answers : ℕ → ℕ) (asked now : ℕ) (taken rest : List ℕ) (u : Unread) (m : Machine) (refused : Bool)
    (old mid : Option (List ℕ)) (t : Told answers asked taken u true m refused old mid)
    → batch_of (with_answer answers asked now) (taken ++ rest)
    ≡ all_before t.phases (batch_at (later_by asked (with_answer answers asked now)) (standing u) (unread_bytes u ++ rest))
ahead answers asked now taken rest u m refused old mid t =
    t.batch (with_answer answers asked now) rest (answer_before answers asked now) (follow_on u.ended rest (t.goes_on refl))

-- that of the lines that are whole, where a read failed behind them
cut_off : (answers : ℕ → ℕ) (asked now : ℕ) (taken : List ℕ) (lm ln : Option (List ℕ)) (u : Unread) (m : Machine) (refused : Bool)
    (old mid : Option (List ℕ)) (t : Told answers asked taken u true m refused old mid) (h : IsCutOff now u lm ln)
    → whole_batch_of (with_answer answers asked now) (taken ++ h.read) ≡ all_before t.phases (last_phase false h.is_open.part)
cut_off answers asked now taken lm ln u m refused old mid t h =
    let given : ℕ → ℕ = with_answer answers asked now in
    t.whole given h.read (answer_before answers asked now) refl
    ∙ ap (λ (b : Batch). all_before t.phases b) (h.is_open.batch (later_by asked given) (next_answer answers asked now))

-- a read failed
stopped_told : (answers : ℕ → ℕ) (asked now : ℕ) (taken rest : List ℕ) (lm ln : Option (List ℕ)) (u : Unread) (m : Machine) (refused : Bool)
    (old mid new : Option (List ℕ)) (t : Told answers asked taken u true m refused old mid) (h : IsCutOff now u lm ln) → Appends mid new []
    → Consumes (Some ((taken ++ h.read) ++ rest)) ln (taken ++ h.read)
    → Outcome status.ReadFault (with_answer answers asked now) ((taken ++ h.read) ++ rest) ln (asked + 1) old new
stopped_told answers asked now taken rest lm ln u m refused old mid new t h text consumed =
    let given : ℕ → ℕ = with_answer answers asked now in
    let behind : Batch = batch_at (later_by asked given) (standing u) (unread_bytes u ++ (h.read ++ rest)) in
    let e : batch_of given ((taken ++ h.read) ++ rest) ≡ all_before t.phases behind =
    ap (λ (l : List ℕ). batch_of given l) (append_assoc taken h.read rest)
    ∙ ahead answers asked now taken (h.read ++ rest) u m refused old mid t
    in
    record {
      first = t.phases;
      rest = behind.phases;
      is_front = ap (λ (b : Batch). b.phases) (sym e);
      follows = rw (ap (λ (b : Batch). b.bad) e) (some_follows (later_by asked given) (standing u) (unread_bytes u ++ (h.read ++ rest)));
      taken = taken ++ h.read;
      consumed = consumed;
      part = h.is_open.part;
      whole = cut_off answers asked now taken lm ln u m refused old mid t h;
      asked_each = ap (λ (n : ℕ). n + 1) t.count;
      refused = refused;
      answered = ran_still t.phases m refused old mid new t.ran text;
    }

-- by the status, what a run comes to that ends with a phase
stop_told : (s : Status) (answers : ℕ → ℕ) (asked now : ℕ) (taken : List ℕ) (lo lm ln : Option (List ℕ)) (u : Unread) (m : Machine) (refused : Bool)
    (old mid new : Option (List ℕ)) → Consumes lo lm taken → Told answers asked taken u true m refused old mid → EndsPhase s now u lm ln m mid new
    → IfSome lo (λ input. Outcome s (with_answer answers asked now) input ln (asked + 1) old new)
stop_told (status.BadLine line why) answers asked now taken lo lm ln u m refused old mid new c t h =
    of_input lo ln (taken ++ h.0.read) h.0.ended _ (Consumes-trans lo lm ln taken h.0.read c h.0.consumed) (h.0.end (λ e. absurd (cc (e, t.goes_on refl))))
    (λ rest from follows.
    reported_told _ asked t.phases m refused line why old mid new
    (found answers asked now taken rest lm ln u m refused old mid line why t h.0 follows) t.count t.ran h.1)
stop_told status.ReadFault answers asked now taken lo lm ln u m refused old mid new c t h =
    of_input lo ln (taken ++ h.0.read) false _ (Consumes-trans lo lm ln taken h.0.read c h.0.consumed) (λ e. absurd cc)
    (λ rest from follows. stopped_told answers asked now taken rest lm ln u m refused old mid new t h.0 h.1 from)
stop_told status.WriteFault answers asked now taken lo lm ln u m refused old mid new c t (inl k) =
    of_input lo ln (taken ++ k.read.read) k.new.ended _ (Consumes-trans lo lm ln taken k.read.read c k.read.consumed)
    (k.read.end (λ e. absurd (cc (e, t.goes_on refl))))
    (λ rest from follows.
    let qs = followed_phases t.phases k.more k.read.synced k.read.calls _ in
    inl (broken_told _ asked t.phases k.read.calls qs.0 m k.stops.after refused k.stops.first k.stops.rest k.stops.turns old mid new
    (ap (λ (b : Batch). b.phases) (goes_on answers asked now taken rest lm ln u m refused old mid t k.new k.more k.lines k.read follows) ∙ qs.1)
    t.count (k.stops.is_front ∙ k.read.lines) t.ran k.stops.runs k.stops.lead k.stops.part))
stop_told status.WriteFault answers asked now taken lo lm ln u m refused old mid new c t (inr k) =
    of_input lo ln (taken ++ k.found.read) k.found.ended _ (Consumes-trans lo lm ln taken k.found.read c k.found.consumed)
    (k.found.end (λ e. absurd (cc (e, t.goes_on refl))))
    (λ rest from follows.
    inr (unreported_told _ asked t.phases m refused k.line k.reason old mid new
    (found answers asked now taken rest lm ln u m refused old mid k.line k.reason t k.found follows) t.count t.ran k.part))
stop_told status.NoMemory answers asked now taken lo lm ln u m refused old mid new c t (inl a) =
    of_input lo lm taken false _ c (λ e. absurd cc)
    (λ rest from follows.
    record {
      first = t.phases;
      are_first = rw (ahead answers asked now taken rest u m refused old mid t) (first_whole t.phases _);
      asked_each = inr (ap (λ (n : ℕ). n + 1) t.count);
      refused = refused;
      answered = ran_still t.phases m refused old mid new t.ran a;
    })
stop_told status.NoMemory answers asked now taken lo lm ln u m refused old mid new c t (inr k) =
    of_input lo ln (taken ++ k.read.read) k.new.ended _ (Consumes-trans lo lm ln taken k.read.read c k.read.consumed)
    (k.read.end (λ e. absurd (cc (e, t.goes_on refl))))
    (λ rest from follows.
    let qs = followed_phases t.phases k.more k.read.synced k.read.calls _ in
    cut_told _ asked t.phases k.read.calls qs.0 m k.stops.after refused k.stops.refused k.stops.first k.stops.rest old mid new
    (ap (λ (b : Batch). b.phases) (goes_on answers asked now taken rest lm ln u m refused old mid t k.new k.more k.lines k.read follows) ∙ qs.1)
    t.count (k.stops.is_front ∙ k.read.lines) t.ran k.stops.ran)
stop_told status.Done answers asked now taken lo lm ln u m refused old mid new c t h = absurd h
stop_told status.Refusals answers asked now taken lo lm ln u m refused old mid new c t h = absurd h
stop_told status.Usage answers asked now taken lo lm ln u m refused old mid new c t h = absurd h

-- the run ends with a phase, in a status in which a run may end
pub stop_all : (s : Status) (cl cm cn : Option (ℕ → ℕ)) (lo lm ln : Option (List ℕ)) (u : Unread) (m n : Machine) (refused : Bool)
    (old mid new : Option (List ℕ)) → SoFar cl cm lo lm u true m refused old mid → IsNext cm cn u lm ln m n mid new (Err s)
    → IsRunStatus s → IsOutcome s cl cn lo ln old new
stop_all s cl cm cn lo lm ln u m n refused old mid new t k may_end = record {
  may_end = may_end;
  answers = with_answer t.answers t.asked k.now;
  asked = t.asked + 1;
  clock = asked_more cl cm cn t.answers t.asked k.now t.clock k.in_range k.asked;
  outcome = stop_told s t.answers t.asked k.now t.taken lo lm ln u m refused old mid new t.consumed t.told k.runs;
}
