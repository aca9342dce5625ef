-- How far a run has come, phase by phase.
use Rattle.std.proofs.Common.{◌≡◌, ℕ, ◌+◌, Bool, true, false, ◌||◌, List, [], ◌∷◌, ◌++◌, length, Option, None, Ok, refl, sym, ap, ◌∙◌, append-nil, append_assoc, arith}
use Rattle.std.specs.Io.KnownBytes.{Appends, Consumes}
use Rattle.std.proofs.KnownBytes.{Appends-trans, Appends-nil, Consumes-nil, Consumes-trans}
use Rattle.std.proofs.lemmas.List.{length-append}
use Rattle.std.proofs.lemmas.List.Folds.{list_any-append}
use Rattle.xf_types.specs.Batch.{WorkerLine, Line, calls_of_thread}
use Rattle.xf_types.specs.Codes.{is_refusal_of}
use Rattle.xf_types.specs.Machine.{Machine}
use Rattle.xf_types.specs.Steps.{empty}
use Rattle.xf_read.specs.declared.reader.Unread.{Unread}
use Rattle.xf_batch.specs.Batch.{Batch, batch_at, batch_of, first_line, followed, later, whole_batch_at, whole_batch_of}
use Rattle.xf_batch.specs.Reading.{MayFollow, standing, unread_bytes}
use Rattle.xf_run.specs.Outcome.{ClockAnswers}
use Rattle.xf_run.specs.declared.run.PhaseRun.{PhaseRun}
use Rattle.xf_read.specs.Unread.{IsFresh}
use Rattle.xf_run.specs.Phases.{RunsPhase, IsNext}
use Rattle.xf_run.specs.Progress.{RunsLines}
use Rattle.xf_run.specs.Turns.{Turn, turns_text, is_refused}
use Rattle.xf_run.proofs.Asking.{with_answer, Agree, agree_less, agree_at, asked_none, asked_more}
use Rattle.xf_run.proofs.Phasing.{Leads, AreRuns, all_turns, Leads-more, AreRuns-more, all_turns-more}
use Rattle.xf_run.proofs.Turning.{text_join}

-- these phases were answered
pub record RanAll (phases : List (List WorkerLine)) (m : Machine) (refused : Bool) (old new : Option (List ℕ)) : Type 0 where
  pub turns : List (List Turn)
  pub leads : Leads (empty 4096 8192) turns m
  pub runs : AreRuns phases turns
  pub text : Appends old new (turns_text (all_turns turns))
  pub refusals : is_refused (all_turns turns) ≡ refused

-- what follows phases, the last of which a `sync` may have ended
abbrev pub rest_of : Bool → Bool → Batch → Batch
rest_of true synced b = b
rest_of false synced b = record { phases = []; synced = synced; bad = None }

-- phases before a batch
abbrev pub all_before : List (List WorkerLine) → Batch → Batch
all_before ps b = record { phases = ps ++ b.phases; synced = b.synced; bad = b.bad }

-- the clock's answers after so many
abbrev pub later_by : ℕ → (ℕ → ℕ) → ℕ → ℕ
later_by n answers k = answers (k + n)

-- by these answers of the clock, the phases so far were answered, and they and what is left make up the batch of the input, whatever
-- follows the bytes that were taken; and so it is with the lines that are known to be whole
pub record Told (answers : ℕ → ℕ) (asked : ℕ) (taken : List ℕ) (u : Unread) (more : Bool) (m : Machine) (refused : Bool)
    (old new : Option (List ℕ)) : Type 0 where
  pub phases : List (List WorkerLine)
  pub synced : Bool
  pub count : asked ≡ length phases
  pub goes_on : more ≡ true → u.ended ≡ false
  pub batch : (given : ℕ → ℕ) (rest : List ℕ) → Agree asked given answers → MayFollow u.ended rest
      → batch_of given (taken ++ rest)
      ≡ all_before phases (rest_of more synced (batch_at (later_by asked given) (standing u) (unread_bytes u ++ rest)))
  pub whole : (given : ℕ → ℕ) (rest : List ℕ) → Agree asked given answers → more ≡ true
      → whole_batch_of given (taken ++ rest)
      ≡ all_before phases (whole_batch_at (later_by asked given) (standing u) (unread_bytes u ++ rest))
  pub ran : RanAll phases m refused old new

-- the clock was asked so often, and by its answers the run has come so far
pub record SoFar (coming later : Option (ℕ → ℕ)) (left_old left_new : Option (List ℕ)) (u : Unread) (more : Bool) (m : Machine)
    (refused : Bool) (old new : Option (List ℕ)) : Type 0 where
  pub answers : ℕ → ℕ
  pub asked : ℕ
  pub clock : ClockAnswers coming later asked answers
  pub taken : List ℕ
  pub consumed : Consumes left_old left_new taken
  pub told : Told answers asked taken u more m refused old new

-- no phase was answered yet
pub ran_none : (text : Option (List ℕ)) → RanAll [] (empty 4096 8192) false text text
ran_none text = record { turns = []; leads = refl; runs = tt; text = Appends-nil text; refusals = refl }

-- one more phase is answered
pub ran_more : (ps : List (List WorkerLine)) (calls : List WorkerLine) (ls : List Line) (m n : Machine) (refused refusal : Bool)
    (old mid new : Option (List ℕ)) → ls ≡ calls_of_thread 1 calls 0 → RanAll ps m refused old mid
    → RunsLines m n ls refusal mid new → RanAll (ps ++ calls ∷ []) n (refused || refusal) old new
ran_more ps calls ls m n refused refusal old mid new e r k =
    let turns : List Turn = all_turns r.turns in
    record {
      turns = r.turns ++ k.turns ∷ [];
      leads = Leads-more (empty 4096 8192) m n r.turns k.turns r.leads k.lead;
      runs = AreRuns-more ps calls r.turns k.turns r.runs (rw (← e) k.runs);
      text =
          rw (all_turns-more r.turns k.turns, text_join turns k.turns)
          (Appends-trans old mid new (turns_text turns) (turns_text k.turns) r.text k.text);
      refusals =
          ap is_refused (all_turns-more r.turns k.turns)
          ∙ list_any-append (λ (t : Turn). is_refusal_of t.reply) turns k.turns
          ∙ ap (λ (b : Bool). b || is_refused k.turns) r.refusals
          ∙ ap (λ (b : Bool). refused || b) k.refusal;
    }

-- a phase, and what follows it
pub followed-is : (ps : List (List WorkerLine)) (more synced : Bool) (calls : List WorkerLine) (b : Batch)
    → all_before ps (followed more synced calls b) ≡ all_before (ps ++ calls ∷ []) (rest_of more synced b)
followed-is ps true synced calls b = λ i. record { phases = sym (append_assoc ps (calls ∷ []) b.phases) i; synced = b.synced; bad = b.bad }
followed-is ps false synced calls b = λ i. record { phases = sym (append-nil (ps ++ calls ∷ [])) i; synced = synced; bad = None }

-- where the input goes on, any bytes may follow
pub follow_on : (ended : Bool) (rest : List ℕ) → ended ≡ false → MayFollow ended rest
follow_on ended rest goes_on = λ e. absurd (cc (e, goes_on))

-- the next answer, and those behind it
next_is : (given answers : ℕ → ℕ) (asked now : ℕ) → Agree (asked + 1) given (with_answer answers asked now) → later_by asked given 0 ≡ now
next_is given answers asked now agree =
    let start : 0 + asked ≡ asked = omega arith in ap given start ∙ agree_at given answers asked now agree

pub shifted : (given : ℕ → ℕ) (asked : ℕ) → later (later_by asked given) ≡ later_by (asked + 1) given
shifted given asked = λ i k. given ((let e : (k + 1) + asked ≡ k + (asked + 1) = omega arith in e) i)

told_more : (answers : ℕ → ℕ) (asked now : ℕ) (taken : List ℕ) (lm ln : Option (List ℕ)) (u v : Unread) (more : Bool) (m n : Machine)
    (refused refusal : Bool) (old mid new : Option (List ℕ)) → Told answers asked taken u true m refused old mid
    → (r : RunsPhase now u v lm ln more m n refusal mid new)
    → Told (with_answer answers asked now) (asked + 1) (taken ++ r.read.read) v more n (refused || refusal) old new
told_more answers asked now taken lm ln u v more m n refused refusal old mid new t r =
    let calls : List WorkerLine = r.read.calls in
    let read : List ℕ = r.read.read in
    record {
      phases = t.phases ++ calls ∷ [];
      synced = r.read.synced;
      count = let count : length (t.phases ++ calls ∷ []) ≡ length t.phases + 1 = length-append t.phases (calls ∷ []) in omega (arith, count, t.count);
      goes_on = r.read.goes_on;
      batch = λ (given : ℕ → ℕ) (rest : List ℕ) (agree : Agree (asked + 1) given (with_answer answers asked now)) (follows : MayFollow v.ended rest).
          ap (λ (l : List ℕ). batch_of given l) (append_assoc taken read rest)
          ∙ t.batch given (read ++ rest) (agree_less given answers asked now agree) (follow_on u.ended (read ++ rest) (t.goes_on refl))
          ∙ ap (λ (b : Batch). all_before t.phases b)
          (r.read.makes.batch (later_by asked given) rest (next_is given answers asked now agree) follows)
          ∙ followed-is t.phases more r.read.synced calls (batch_at (later (later_by asked given)) (standing v) (unread_bytes v ++ rest))
          ∙ ap (λ (f : ℕ → ℕ).
          all_before (t.phases ++ calls ∷ []) (rest_of more r.read.synced (batch_at f (standing v) (unread_bytes v ++ rest))))
          (shifted given asked);
      whole = λ (given : ℕ → ℕ) (rest : List ℕ) (agree : Agree (asked + 1) given (with_answer answers asked now)) (on : more ≡ true).
          ap (λ (l : List ℕ). whole_batch_of given l) (append_assoc taken read rest)
          ∙ t.whole given (read ++ rest) (agree_less given answers asked now agree) refl
          ∙ ap (λ (b : Batch). all_before t.phases b)
          (r.read.makes.whole (later_by asked given) rest (next_is given answers asked now agree) on)
          ∙ followed-is t.phases true true calls (whole_batch_at (later (later_by asked given)) (standing v) (unread_bytes v ++ rest))
          ∙ ap (λ (f : ℕ → ℕ). all_before (t.phases ++ calls ∷ []) (whole_batch_at f (standing v) (unread_bytes v ++ rest))) (shifted given asked);
      ran = ran_more t.phases calls r.lines m n refused refusal old mid new r.read.lines t.ran r.ran;
    }

-- one phase further
pub so_far_next : (cl cm cn : Option (ℕ → ℕ)) (lo lm ln : Option (List ℕ)) (u : Unread) (run : PhaseRun) (m n : Machine)
    (refused : Bool) (old mid new : Option (List ℕ)) → SoFar cl cm lo lm u true m refused old mid
    → IsNext cm cn u lm ln m n mid new (Ok run)
    → SoFar cl cn lo ln run.reader.unread run.more n (refused || run.refused) old new
so_far_next cl cm cn lo lm ln u run m n refused old mid new s k = record {
  answers = with_answer s.answers s.asked k.now;
  asked = s.asked + 1;
  clock = asked_more cl cm cn s.answers s.asked k.now s.clock k.in_range k.asked;
  taken = s.taken ++ k.runs.read.read;
  consumed = Consumes-trans lo lm ln s.taken k.runs.read.read s.consumed k.runs.read.consumed;
  told = told_more s.answers s.asked k.now s.taken lm ln u run.reader.unread run.more m n refused run.refused old mid new s.told k.runs;
}

-- the batch of an input before its first line
pub whole_batch : (given : ℕ → ℕ) (input : List ℕ) (u : Unread) → IsFresh u
    → batch_of given input ≡ batch_at (later_by 0 given) (standing u) (unread_bytes u ++ input)
whole_batch given input u f =
    let answers : given ≡ later_by 0 given = λ i k. given ((let e : k ≡ k + 0 = omega arith in e) i) in
    rw (f.line, f.before, f.taken, f.bytes) (ap (λ (g : ℕ → ℕ). batch_at g first_line input) answers)

-- and that of its whole lines
pub whole_lines_batch : (given : ℕ → ℕ) (input : List ℕ) (u : Unread) → IsFresh u
    → whole_batch_of given input ≡ whole_batch_at (later_by 0 given) (standing u) (unread_bytes u ++ input)
whole_lines_batch given input u f =
    let answers : given ≡ later_by 0 given = λ i k. given ((let e : k ≡ k + 0 = omega arith in e) i) in
    rw (f.line, f.before, f.taken, f.bytes) (ap (λ (g : ℕ → ℕ). whole_batch_at g first_line input) answers)

-- before the first phase
pub so_far_none : (coming : Option (ℕ → ℕ)) (left : Option (List ℕ)) (u : Unread) (text : Option (List ℕ)) → IsFresh u
    → SoFar coming coming left left u true (empty 4096 8192) false text text
so_far_none coming left u text f = record {
  answers = λ (k : ℕ). 0;
  asked = 0;
  clock = asked_none coming;
  taken = [];
  consumed = Consumes-nil left;
  told = record {
    phases = [];
    synced = false;
    count = refl;
    goes_on = λ on. f.ended;
    batch = λ (given : ℕ → ℕ) (rest : List ℕ) (agree : Agree 0 given (λ (k : ℕ). 0)) (follows : MayFollow u.ended rest).
        whole_batch given rest u f;
    whole = λ (given : ℕ → ℕ) (rest : List ℕ) (agree : Agree 0 given (λ (k : ℕ). 0)) (on : true ≡ true). whole_lines_batch given rest u f;
    ran = ran_none text;
  };
}
