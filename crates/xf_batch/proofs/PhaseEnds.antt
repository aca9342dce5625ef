-- What is said of a phase that ends, or is refused.
use Rattle.std.proofs.Common.{◌≡◌, inl, inr, ℕ, ◌<◌, ◌≤◌, Bool, true, false, not, List, [], ◌∷◌, ◌++◌, map, length, sum, take, Option, Result, Ok, Err, refl, sym, ap, ◌∙◌, arith, append_assoc, length-drop}
use Rattle.std.specs.List.{concat, filter}
use Rattle.std.proofs.KnownBytes.{Consumes-trans}
use Rattle.std.proofs.Math.Seq.{take-nil}
use Rattle.std.proofs.lemmas.List.Elements.{filter-append}
use Rattle.xf_types.specs.declared.status.Reason.{Reason}
use Rattle.xf_types.specs.Batch.{Line, threads_of}
use Rattle.xf_lex.specs.LogicalLines.{lines_of}
use Rattle.xf_grammar.specs.declared.row.Field.{Field}
use Rattle.xf_read.specs.declared.reader.Item.{Item}
use Rattle.xf_read.specs.declared.reader.Unread.{Unread}
use Rattle.xf_read.specs.Facts.{IsBetween}
use Rattle.xf_read.specs.Items.{line_item}
use Rattle.xf_batch.specs.declared.fault.PhaseFault.{PhaseFault}
use Rattle.xf_batch.specs.declared.fault.PhaseFault.TheVariants as fault
use Rattle.xf_batch.specs.declared.gather.Gather.{Gather}
use Rattle.xf_batch.specs.declared.items.Asked.{Asked}
use Rattle.xf_batch.specs.declared.phase.Phase.{Phase}
use Rattle.xf_batch.specs.Asking.{Asks, EndsLine, IsAllRead, IsAsked, IsNoLine}
use Rattle.xf_batch.specs.Batch.{Effect, IsBad, GoesOn, Ends, Gathered, Standing, batch_at, batch_from, beginning, effect_of, followed, judged, later, passes_limit, refused_at, whole_batch_at}
use Rattle.xf_batch.specs.Coming.{room_of, seen_to_come}
use Rattle.xf_batch.specs.Gathers.{Gathers, Puts}
use Rattle.xf_batch.specs.LineEnds.{has_feed}
use Rattle.xf_batch.specs.Reading.{GivesPhase, HasPassed, MayFollow, ReadsPhase, standing, unread_bytes}
use Rattle.xf_batch.specs.Shown.{phase_shown, threads_shown}
use Rattle.xf_batch.proofs.Finding.{unended}
use Rattle.xf_batch.proofs.Phasing.{Came-more, feed_of_line, follow_any, IsOpen-at, Reached, batch_from-effect, ends, leaves-line, needed-more, passed-line, still-more}
use Rattle.xf_batch.proofs.Threads.{length-threads_of}
use Rattle.xf_batch.proofs.ThreadSums.{sum-threads}

-- a phase of what was gathered
pub record IsPhaseOf (s : Gather) (by_sync on : Bool) (phase : Phase) : Type 0 where
  pub threads : phase.threads ≡ s.threads
  pub synced : phase.synced ≡ by_sync
  pub more : phase.more ≡ on

shown-threads : (workers : ℕ) (s : Gather) (g : Gathered) (synced on : Bool) (phase : Phase) → IsPhaseOf s synced on phase → Gathers workers s g
    → (phase_shown phase).threads ≡ threads_of workers g.calls
shown-threads workers s g synced on phase is gathers = ap (λ v. threads_shown v.items) is.threads ∙ gathers.threads

-- the call lines are no more than the bytes
few-shown : (workers : ℕ) (s : Gather) (g : Gathered) (synced on : Bool) (phase : Phase) → 0 < workers → IsPhaseOf s synced on phase → Gathers workers s g
    → sum (map length (phase_shown phase).threads) ≡ length g.calls
few-shown workers s g synced on phase some is gathers =
    ap (λ (ts : List (List Line)). sum (map length ts)) (shown-threads workers s g synced on phase is gathers) ∙ sum-threads workers g.calls some

each-shown : (workers : ℕ) (s : Gather) (g : Gathered) (synced on : Bool) (phase : Phase) → IsPhaseOf s synced on phase → Gathers workers s g
    → length (phase_shown phase).threads ≡ workers
each-shown workers s g synced on phase is gathers =
    ap (λ (ts : List (List Line)). length ts) (shown-threads workers s g synced on phase is gathers) ∙ length-threads_of workers g.calls

-- all is taken where nothing is unread
all-taken : (u : Unread) → u.taken ≤ length u.bytes.items → unread_bytes u ≡ [] → u.taken ≡ length u.bytes.items
all-taken u within none = omega (arith, within, sym (length-drop u.taken u.bytes.items) ∙ ap length none)

pub facts-last : (u : Unread) → IsAllRead u → IsBetween u.bytes.items u.taken u.ended
facts-last u all = record { all = λ e. all-taken u u.facts.within all.none }

pub facts-sync : (line : List ℕ) (u : Unread) → EndsLine line u → IsBetween u.bytes.items u.taken u.ended
facts-sync line u (inl (feed, on)) = record { all = λ e. absurd (cc (e, on)) }
facts-sync line u (inr (none, all)) = facts-last u all

-- the input goes on where its end wasn't read
on_of : (b : Bool) → not b ≡ false → b ≡ true
on_of true e = refl
on_of false e = absurd cc

off_of : (b : Bool) → not b ≡ true → b ≡ false
off_of true e = absurd cc
off_of false e = refl

-- ---- at the input's end

-- nothing is seen where nothing is unread
seen-none : (u : Unread) (bytes : List ℕ) → bytes ≡ [] → lines_of (take (room_of u) bytes) ≡ []
seen-none u bytes none = ap (λ (l : List ℕ). lines_of (take (room_of u) l)) none ∙ ap lines_of (take-nil (room_of u))

pub given-last : (workers now : ℕ) (old u : Unread) (first left now_left : Option (List ℕ)) (f0 f1 f2 : ℕ) (s : Gather) (new : Unread) (phase : Phase)
    → (r : Reached workers now old u first left f0 f1 s) → IsNoLine u new left now_left f1 f2
    → IsPhaseOf s false (not new.ended) phase
    → ReadsPhase workers now old new first now_left f0 f2 (phase_shown phase)
unfolding batch_at whole_batch_at
given-last workers now old u first left now_left f0 f1 f2 s new phase r none is =
    let lines : (rest : List ℕ) → MayFollow new.ended rest → lines_of (seen_to_come old ((r.read ++ none.piece) ++ rest)) ≡ r.lines ++ [] =
    λ rest follows.
    let empty : rest ≡ [] = follows none.all.ended in
    let before : MayFollow u.ended (none.piece ++ rest) =
    λ e. rw ((none.read_on.still e).1, empty) refl
    in
    let all : unread_bytes u ++ (none.piece ++ rest) ≡ [] =
    sym (append_assoc (unread_bytes u) none.piece rest) ∙ rw (none.bytes, empty) refl
    in
    ap (λ (l : List ℕ). lines_of (seen_to_come old l)) (append_assoc r.read none.piece rest)
    ∙ r.came.parts (none.piece ++ rest) before
    ∙ ap (λ (ls : List (List ℕ)). r.lines ++ ls) (seen-none u (unread_bytes u ++ (none.piece ++ rest)) all)
    in
    let off : phase.more ≡ false = is.more ∙ ap not none.all.ended in
    record {
      read = r.read ++ none.piece;
      has_read = record {
        consumed = Consumes-trans first left now_left r.read none.piece r.came.consumed none.read_on.consumed;
        end = λ rightly e. none.read_on.end (r.came.end rightly) refl;
        needed = needed-more now old u true first left now_left f0 f1 f2 r.lines r.read none.piece r.gathered r.came r.leaves r.needed none.read_on;
        still = still-more now old u true first left now_left f0 f1 f2 r.lines r.read none.piece r.gathered r.came r.leaves r.still none.read_on;
      };
      taken = record {
        lines = r.lines;
        bytes =
            sym (append_assoc (unread_bytes old) r.read none.piece)
            ∙ ap (λ (l : List ℕ). l ++ none.piece) r.came.bytes
            ∙ append_assoc (concat r.lines) (unread_bytes u) none.piece
            ∙ ap (λ (l : List ℕ). concat r.lines ++ l) (none.bytes ∙ sym none.all.none);
        are_lines = λ rest follows.
            lines rest follows
            ∙ ap (λ (ls : List (List ℕ)). r.lines ++ ls)
            (sym (seen-none new (unread_bytes new ++ rest) (rw (none.all.none, follows none.all.ended) refl)));
        stands = none.stands ∙ r.came.stands;
      };
      calls = r.gathered.calls;
      threads = shown-threads workers s r.gathered false (not new.ended) phase is r.gathers;
      makes = record {
        batch = λ answers rest e follows.
            let after = batch_from (later answers) beginning (standing new) (lines_of (seen_to_come new rest)) in
            ap (λ (ls : List (List ℕ)). batch_from answers beginning (standing old) ls) (lines rest follows)
            ∙ r.leaves answers [] e
            ∙ ap (λ (b : Bool). followed false b r.gathered.calls after) (sym is.synced)
            ∙ ap (λ (b : Bool). followed b phase.synced r.gathered.calls after) (sym off);
        whole = λ answers rest e more. absurd (cc (off, more));
      };
    }

pub HasPassed-last : (workers now : ℕ) (old u new : Unread) (first left now_left : Option (List ℕ)) (f0 f1 f2 : ℕ) (s : Gather) (phase : Phase) → 0 < workers
    → (r : Reached workers now old u first left f0 f1 s) → IsNoLine u new left now_left f1 f2 → IsPhaseOf s false (not new.ended) phase
    → HasPassed workers old new (phase_shown phase)
HasPassed-last workers now old u new first left now_left f0 f1 f2 s phase some r none is =
    let off : phase.more ≡ false = is.more ∙ ap not none.all.ended in
    record {
      each = each-shown workers s r.gathered false (not new.ended) phase is r.gathers;
      whole = (λ e. none.all.ended, λ e. off);
      synced = λ more. absurd (cc (off, more));
      further = λ synced. absurd (cc (is.synced, synced));
      few =
          omega (arith, few-shown workers s r.gathered false (not new.ended) phase some is r.gathers, r.few, ap (λ (x : Standing). x.before) none.stands);
    }

-- ---- at a `sync`

-- behind its line feed the input goes on
on_by_feed : (line : List ℕ) (new : Unread) → EndsLine line new → has_feed line ≡ not new.ended
on_by_feed line new (inl (feed, on)) = rw (feed, on) refl
on_by_feed line new (inr (none, all)) = rw (none, all.ended) refl

pub given-sync : (workers now : ℕ) (old u : Unread) (first left now_left : Option (List ℕ)) (f0 f1 f2 : ℕ) (s next : Gather) (asked : Asked) (read_as : Result Item Reason) (new : Unread) (phase : Phase)
    → (r : Reached workers now old u first left f0 f1 s) → IsAsked u new left now_left f1 f2 asked read_as
    → Puts workers asked.line r.gathered (effect_of now r.gathered asked.line read_as) next (Ok false)
    → IsPhaseOf next true (not new.ended) phase
    → ReadsPhase workers now old new first now_left f0 f2 (phase_shown phase)
unfolding batch_at whole_batch_at
given-sync workers now old u first left now_left f0 f1 f2 s next asked read_as new phase r a puts is =
    let ended = ends workers asked.line r.gathered (effect_of now r.gathered asked.line read_as) next puts in
    let came = Came-more old u new first left now_left f1 f2 r.lines r.read asked read_as r.came a in
    record {
      read = r.read ++ a.piece;
      has_read = record {
        consumed = came.consumed;
        end = came.end;
        needed = needed-more now old u new.ended first left now_left f0 f1 f2 r.lines r.read a.piece r.gathered r.came r.leaves r.needed a.read_on;
        still = still-more now old u new.ended first left now_left f0 f1 f2 r.lines r.read a.piece r.gathered r.came r.leaves r.still a.read_on;
      };
      taken = record { lines = r.lines ++ a.line ∷ []; bytes = came.bytes; are_lines = came.parts; stands = came.stands };
      calls = r.gathered.calls;
      threads = shown-threads workers next r.gathered true (not new.ended) phase is ended.1;
      makes = record {
        batch = λ answers rest e follows.
            let lines = lines_of (seen_to_come new rest) in
            let after = batch_from (later answers) beginning (standing new) lines in
            ap (λ (ls : List (List ℕ)). batch_from answers beginning (standing old) ls) (came.parts rest follows)
            ∙ leaves-line now old u new left now_left f1 f2 r.lines lines asked read_as r.gathered Ends answers r.leaves a ended.0 e
            ∙ ap (λ (b : Bool). followed b true r.gathered.calls after) (on_by_feed a.line new a.ends ∙ sym is.more)
            ∙ ap (λ (b : Bool). followed phase.more b r.gathered.calls after) (sym is.synced);
        whole = λ answers rest e more.
            let goes_on : new.ended ≡ false = off_of new.ended (sym is.more ∙ more) in
            let lines = lines_of (seen_to_come new rest) in
            let after = batch_from (later answers) beginning (standing new) (filter has_feed lines) in
            ap (λ (ls : List (List ℕ)). batch_from answers beginning (standing old) ls)
            (ap (λ (ls : List (List ℕ)). filter has_feed ls) (came.parts rest (follow_any new.ended rest goes_on))
            ∙ filter-append has_feed (r.lines ++ a.line ∷ []) lines
            ∙ ap (λ (ls : List (List ℕ)). ls ++ filter has_feed lines) (came.whole goes_on))
            ∙ leaves-line now old u new left now_left f1 f2 r.lines (filter has_feed lines) asked read_as r.gathered Ends answers r.leaves a ended.0 e
            ∙ ap (λ (b : Bool). followed b true r.gathered.calls after) (feed_of_line a.line new a.ends goes_on);
      };
    }

pub HasPassed-sync : (workers now : ℕ) (old u new : Unread) (first left now_left : Option (List ℕ)) (f0 f1 f2 : ℕ) (s next : Gather) (asked : Asked) (read_as : Result Item Reason) (phase : Phase)
    → 0 < workers → (r : Reached workers now old u first left f0 f1 s) → IsAsked u new left now_left f1 f2 asked read_as
    → Puts workers asked.line r.gathered (effect_of now r.gathered asked.line read_as) next (Ok false)
    → IsPhaseOf next true (not new.ended) phase → HasPassed workers old new (phase_shown phase)
HasPassed-sync workers now old u new first left now_left f0 f1 f2 s next asked read_as phase some r a puts is =
    let ended = ends workers asked.line r.gathered (effect_of now r.gathered asked.line read_as) next puts in
    let further = passed-line u new left now_left f1 f2 asked read_as a in
    record {
      each = each-shown workers next r.gathered true (not new.ended) phase is ended.1;
      whole = (λ off. on_of new.ended (sym is.more ∙ off), λ e. is.more ∙ ap not e);
      synced = λ more. is.synced;
      further = λ synced. omega (arith, r.few, further);
      few = omega (arith, few-shown workers next r.gathered true (not new.ended) phase some is ended.1, r.few, further);
    }

-- ---- a call line that the phase has no room for

refused : (workers n : ℕ) (g : Gathered) (effect : Effect) (s : Gather) (line : ℕ) (why : Reason)
    → Puts workers n g effect s (Err (fault.Bad line why)) → (line ≡ n) × (effect ≡ IsBad why)
refused workers n g (IsBad other) s line why puts = puts
refused workers n g (GoesOn more) s line why puts = puts
refused workers n g Ends s line why puts = puts

pub no_source : (workers n : ℕ) (g : Gathered) (effect : Effect) (s : Gather) → Puts workers n g effect s (Err fault.ReadFault) → ⊥
no_source workers n g (IsBad other) s puts = puts
no_source workers n g (GoesOn more) s puts = puts
no_source workers n g Ends s puts = puts

pub given-refused : (workers now : ℕ) (old u new : Unread) (first left now_left : Option (List ℕ)) (f0 f1 f2 : ℕ) (s next : Gather) (asked : Asked) (read_as : Result Item Reason) (why : PhaseFault)
    → (r : Reached workers now old u first left f0 f1 s) → IsAsked u new left now_left f1 f2 asked read_as
    → Puts workers asked.line r.gathered (effect_of now r.gathered asked.line read_as) next (Err why)
    → GivesPhase workers now old first now_left f0 f2 (Err why)
unfolding batch_at
given-refused workers now old u new first left now_left f0 f1 f2 s next asked read_as (fault.Bad line why) r a puts =
    let is = refused workers asked.line r.gathered (effect_of now r.gathered asked.line read_as) next line why puts in
    let came = Came-more old u new first left now_left f1 f2 r.lines r.read asked read_as r.came a in
    record {
      read = r.read ++ a.piece;
      ended = new.ended;
      consumed = came.consumed;
      end = came.end;
      batch = λ answers rest e follows.
          ap (λ (ls : List (List ℕ)). batch_from answers beginning (standing old) ls) (came.parts rest follows)
          ∙ leaves-line now old u new left now_left f1 f2 r.lines (lines_of (seen_to_come new rest)) asked read_as r.gathered (IsBad why) answers r.leaves a is.1 e
          ∙ ap (λ n. refused_at n why) (sym (is.0 ∙ a.number));
    }
given-refused workers now old u new first left now_left f0 f1 f2 s next asked read_as fault.ReadFault r a puts =
    absurd (no_source workers asked.line r.gathered (effect_of now r.gathered asked.line read_as) next puts)
given-refused workers now old u new first left now_left f0 f1 f2 s next asked read_as fault.NoMemory r a puts = tt

-- ---- a line that is bad by itself, or wasn't read

bad-effect : (now : ℕ) (answers : ℕ → ℕ) (g : Gathered) (u : Unread) (line : List ℕ) (others : List (List ℕ)) (why : Reason) → answers 0 ≡ now
    → judged (passes_limit (standing u) line) (line_item line) ≡ Err why → batch_from answers g (standing u) (line ∷ others) ≡ refused_at u.line why
bad-effect now answers g u line others why e fault =
    batch_from-effect answers now g (standing u) line others (IsBad why) e (ap (λ r. effect_of now g u.line r) fault)

pub given-fault : (workers now : ℕ) (old u new : Unread) (first left now_left : Option (List ℕ)) (f0 f1 f2 : ℕ) (s : Gather) (fields : List Field) (why : PhaseFault)
    → (r : Reached workers now old u first left f0 f1 s) → Asks u new left now_left f1 f2 fields (Err why)
    → GivesPhase workers now old first now_left f0 f2 (Err why)
unfolding batch_at
given-fault workers now old u new first left now_left f0 f1 f2 s fields (fault.Bad line why) r bad = record {
  read = r.read ++ bad.piece;
  ended = bad.ended;
  consumed = Consumes-trans first left now_left r.read bad.piece r.came.consumed bad.read_on.consumed;
  end = λ rightly e. bad.read_on.end (r.came.end rightly) e;
  batch = λ answers rest e follows.
      let before : MayFollow u.ended (bad.piece ++ rest) =
      λ still. let after = bad.read_on.still still in rw (after.1, follows after.0) refl
      in
      let next = bad.bad rest follows in
      ap (λ (l : List ℕ). batch_from answers beginning (standing old) (lines_of (seen_to_come old l))) (append_assoc r.read bad.piece rest)
      ∙ ap (λ (ls : List (List ℕ)). batch_from answers beginning (standing old) ls) (r.came.parts (bad.piece ++ rest) before)
      ∙ r.leaves answers (lines_of (seen_to_come u (bad.piece ++ rest))) e
      ∙ ap (λ (ls : List (List ℕ)). batch_from answers r.gathered (standing u) ls) next.lines
      ∙ bad-effect now answers r.gathered u next.line next.others why e next.fault
      ∙ ap (λ n. refused_at n why) (sym bad.number);
}
given-fault workers now old u new first left now_left f0 f1 f2 s fields fault.ReadFault r breaks = record {
  read = r.read ++ breaks.piece;
  consumed = Consumes-trans first left now_left r.read breaks.piece r.came.consumed breaks.consumed;
  goes_on = unended _ old.ended u.ended r.came.still breaks.goes_on;
  is_open = IsOpen-at now old u first left r.lines r.read breaks.piece r.gathered r.came r.leaves breaks.goes_on breaks.unfinished;
}
given-fault workers now old u new first left now_left f0 f1 f2 s fields fault.NoMemory r breaks = tt
