-- How far a phase has come, and what stands where it stops.
use Rattle.std.proofs.Common.{◌≡◌, ℕ, ◌+◌, ◌<◌, Bool, false, ◌||◌, List, [], ◌∷◌, ◌++◌, length, take, drop, get_or, refl, sym, ap, ◌∙◌, append-nil, append_assoc, take-append-drop, arith}
use Rattle.std.specs.Prelude.{Option}
use Rattle.std.specs.Io.KnownBytes.{Appends}
use Rattle.std.proofs.KnownBytes.{Appends-trans, Appends-nil}
use Rattle.std.proofs.lemmas.List.{take_more}
use Rattle.std.proofs.lemmas.List.Folds.{list_any-append}
use Rattle.xf_types.specs.Batch.{Line, IsRunOf, Runs}
use Rattle.xf_types.specs.Codes.{is_refusal_of}
use Rattle.xf_types.specs.Machine.{Machine}
use Rattle.xf_batch.specs.declared.task.Task.{Task}
use Rattle.xf_batch.specs.Shown.{line_of, lines_shown}
use Rattle.xf_run.specs.Progress.{Answers, Stops, RunsLines, StopsBehind, StopsWithin}
use Rattle.xf_run.specs.Turns.{Turn, receipts_from, turns_text, is_refused}
use Rattle.xf_run.proofs.Turning.{Lead-join, receipts_from-join, IsRunOf-renumber, Runs-more, text_join}

-- no line was answered yet
pub ran_none : (m : Machine) (text : Option (List ℕ)) → RunsLines m m [] false text text
ran_none m text = record { turns = []; runs = refl; lead = refl; refusal = refl; text = Appends-nil text }

-- the turns of one more line
pub runs_more : (ls : List Line) (l : Line) (xs ys : List Turn) → Runs ls (receipts_from 0 xs) → IsRunOf l (receipts_from 0 ys)
    → Runs (ls ++ l ∷ []) (receipts_from 0 (xs ++ ys))
runs_more ls l xs ys runs run =
    rw (receipts_from-join 0 (length xs) xs ys (omega arith))
    (Runs-more ls l (receipts_from 0 xs) (receipts_from (length xs) ys) runs (IsRunOf-renumber l ys 0 (length xs) run))

-- one more line is answered
ran_more : (ls : List Line) (l : Line) (start m n : Machine) (refused refusal : Bool) (old mid new : Option (List ℕ))
    → RunsLines start m ls refused old mid → Answers m n l refusal mid new
    → RunsLines start n (ls ++ l ∷ []) (refused || refusal) old new
ran_more ls l start m n refused refusal old mid new s a = record {
  turns = s.turns ++ a.turns;
  runs = runs_more ls l s.turns a.turns s.runs a.run;
  lead = Lead-join start m n s.turns a.turns s.lead a.lead;
  refusal =
      list_any-append (λ (t : Turn). is_refusal_of t.reply) s.turns a.turns
      ∙ ap (λ (b : Bool). b || is_refused a.turns) s.refusal
      ∙ ap (λ (b : Bool). refused || b) a.refusal;
  text = rw (text_join s.turns a.turns) (Appends-trans old mid new (turns_text s.turns) (turns_text a.turns) s.text a.text);
}

-- the lines of two lists of tasks
map-join : (xs ys : List Task) → lines_shown (xs ++ ys) ≡ lines_shown xs ++ lines_shown ys
map-join [] ys = refl
map-join (x ∷ xs) ys = ap (λ (ls : List Line). line_of x ∷ ls) (map-join xs ys)

-- a front with the task behind it
pub front_more : (ts : List Task) (i : ℕ) (t : Task) → i < length ts → t ≡ get_or ts i t
    → lines_shown (take (i + 1) ts) ≡ lines_shown (take i ts) ++ line_of t ∷ []
front_more ts i t lt e =
    ap lines_shown (take_more ts i t lt ∙ ap (λ (x : Task). take i ts ++ x ∷ []) (sym e)) ∙ map-join (take i ts) (t ∷ [])

-- the same, for a front of a list
pub ran_next : (ts : List Task) (i : ℕ) (t : Task) (start m n : Machine) (refused refusal : Bool) (old mid new : Option (List ℕ))
    → i < length ts → t ≡ get_or ts i t → RunsLines start m (lines_shown (take i ts)) refused old mid
    → Answers m n (line_of t) refusal mid new
    → RunsLines start n (lines_shown (take (i + 1) ts)) (refused || refusal) old new
ran_next ts i t start m n refused refusal old mid new lt e s a =
    rw (front_more ts i t lt e) (ran_more (lines_shown (take i ts)) (line_of t) start m n refused refusal old mid new s a)

-- a front of the tasks has the first lines
front_is : (ts : List Task) (i : ℕ) → lines_shown (take i ts) ++ lines_shown (drop i ts) ≡ lines_shown ts
front_is ts i = sym (map-join (take i ts) (drop i ts)) ∙ ap lines_shown (take-append-drop i ts)

-- memory ran out behind a front of the lines
pub stops_behind : (ts : List Task) (i : ℕ) (start m : Machine) (refused : Bool) (old mid new : Option (List ℕ))
    → RunsLines start m (lines_shown (take i ts)) refused old mid → Appends mid new [] → StopsBehind start (lines_shown ts) old new
stops_behind ts i start m refused old mid new s a = record {
  first = lines_shown (take i ts);
  rest = lines_shown (drop i ts);
  is_front = front_is ts i;
  after = m;
  refused = refused;
  ran = record {
    turns = s.turns;
    runs = s.runs;
    lead = s.lead;
    refusal = s.refusal;
    text =
        rw (← append-nil (turns_text s.turns)) (Appends-trans old mid new (turns_text s.turns) [] s.text a);
  };
}

-- the sink stopped within a line
pub stops_within : (ts : List Task) (i : ℕ) (t : Task) (start m n : Machine) (refused : Bool) (old mid new : Option (List ℕ))
    → i < length ts → t ≡ get_or ts i t → RunsLines start m (lines_shown (take i ts)) refused old mid
    → Stops m n (line_of t) mid new → StopsWithin start (lines_shown ts) old new
stops_within ts i t start m n refused old mid new lt e s w =
    let turns : List Turn = s.turns ++ w.turns in
    record {
      first = lines_shown (take (i + 1) ts);
      rest = lines_shown (drop (i + 1) ts);
      is_front = front_is ts (i + 1);
      after = n;
      turns = turns;
      runs =
          rw (front_more ts i t lt e) (runs_more (lines_shown (take i ts)) (line_of t) s.turns w.turns s.runs w.run);
      lead = Lead-join start m n s.turns w.turns s.lead w.lead;
      part = record {
        front = turns_text s.turns ++ w.part.front;
        more = w.part.more;
        is_front =
            append_assoc (turns_text s.turns) w.part.front w.part.more
            ∙ ap (λ (x : List ℕ). turns_text s.turns ++ x) w.part.is_front ∙ sym (text_join s.turns w.turns);
        text = Appends-trans old mid new (turns_text s.turns) w.part.front s.text w.part.text;
      };
    }
