-- How far the reading of a phase has come.
use Rattle.std.proofs.Common.{◌≡◌, ◌⊎◌, inl, inr, ℕ, ◌+◌, ◌<◌, ◌≤◌, Bool, true, false, List, [], ◌∷◌, ◌++◌, length, drop, count_by, Option, Result, Ok, Err, cond, refl, sym, ap, subst, ◌∙◌, arith, append-nil, append_assoc}
use Rattle.std.specs.List.{concat, filter}
use Rattle.std.specs.Io.KnownBytes.{Consumes, IsAtEnd}
use Rattle.std.proofs.KnownBytes.{Consumes-nil, Consumes-trans}
use Rattle.std.proofs.Math.Seq.{drop-length}
use Rattle.std.proofs.lemmas.List.{length_push}
use Rattle.std.proofs.lemmas.List.Elements.{filter-append}
use Rattle.std.proofs.lemmas.List.Folds.{concat-append}
use Rattle.xf_types.specs.declared.call.Call.TheVariants as call
use Rattle.xf_types.specs.declared.status.Reason.{Reason}
use Rattle.xf_types.specs.declared.status.Reason.TheVariants as reason
use Rattle.xf_types.specs.Batch.{Line, One, Send}
use Rattle.xf_lex.specs.declared.quoting.Quoting.TheVariants.{Bare}
use Rattle.xf_lex.specs.LogicalLines.{lines_of}
use Rattle.xf_read.specs.declared.reader.Item.{Item}
use Rattle.xf_read.specs.declared.reader.Item.TheVariants as item
use Rattle.xf_read.specs.declared.reader.Unread.{Unread}
use Rattle.xf_read.specs.Items.{line_item}
use Rattle.xf_batch.specs.declared.gather.Gather.{Gather}
use Rattle.xf_batch.specs.declared.items.Asked.{Asked}
use Rattle.xf_batch.specs.Asking.{EndsLine, IsAsked}
use Rattle.xf_batch.specs.Batch.{Gathered, Effect, IsBad, GoesOn, Ends, Standing, batch_from, beginning, behind, behind_all, by_effect, effect_of, followed, is_list_line, is_over, judged, later, line_effect, passes_limit, refused_at, whole_batch_at, with_call, with_line}
use Rattle.xf_batch.specs.Coming.{EndsLast, ReadsOn, room_of, seen_to_come}
use Rattle.xf_batch.specs.Gathers.{Gathers, Puts}
use Rattle.xf_batch.specs.LineEnds.{ends_within, has_feed}
use Rattle.xf_batch.specs.Reading.{IsOpen, IsUntouched, MayFollow, ReadsOpen, standing, unread_bytes}
use Rattle.xf_batch.proofs.Finding.{unended}
use Rattle.xf_batch.proofs.Lines.{ends_within-front, ends_within-take, no_feeds}

-- these lines were taken, and these bytes read from the source
pub record Came (old u : Unread) (first left : Option (List ℕ)) (lines : List (List ℕ)) (read : List ℕ) : Type 0 where
  pub consumed : Consumes first left read
  pub still : old.ended ≡ true → (u.ended ≡ true) × (read ≡ [])
  pub end : (old.ended ≡ true → IsAtEnd first) → u.ended ≡ true → IsAtEnd left
  pub bytes : unread_bytes old ++ read ≡ concat lines ++ unread_bytes u
  pub parts : (rest : List ℕ) → MayFollow u.ended rest
      → lines_of (seen_to_come old (read ++ rest)) ≡ lines ++ lines_of (seen_to_come u rest)
  pub stands : standing u ≡ behind_all (standing old) lines
  pub whole : u.ended ≡ false → filter has_feed lines ≡ lines
  pub last : EndsLast u

-- by this answer of the clock, the lines leave so much of a phase
abbrev pub Leaves : ℕ → Unread → List (List ℕ) → Gathered → Unread → Type 0
Leaves now old lines gathered u =
    (answers : ℕ → ℕ) (more : List (List ℕ)) → answers 0 ≡ now
    → batch_from answers beginning (standing old) (lines ++ more) ≡ batch_from answers gathered (standing u) more

-- none of the reads was in vain
abbrev pub Needed : ℕ → Unread → List ℕ → Option (List ℕ) → Option (List ℕ) → ℕ → ℕ → Type 0
Needed now old read first left f0 f1 = IsUntouched read first left f0 f1 ⊎ ReadsOpen now old read

-- nor was the source touched where the unread bytes hold the phase's end
abbrev pub Still : ℕ → Unread → List ℕ → Option (List ℕ) → Option (List ℕ) → ℕ → ℕ → Type 0
Still now old read first left f0 f1 = (IsOpen now (standing old) (unread_bytes old) → ⊥) → IsUntouched read first left f0 f1

-- the phase so far, of the bytes that were left before
pub record Reached (workers now : ℕ) (old u : Unread) (first left : Option (List ℕ)) (f0 f1 : ℕ) (s : Gather) : Type 0 where
  pub gathered : Gathered
  pub gathers : Gathers workers s gathered
  pub lines : List (List ℕ)
  pub read : List ℕ
  pub came : Came old u first left lines read
  pub needed : Needed now old read first left f0 f1
  pub still : Still now old read first left f0 f1
  pub leaves : Leaves now old lines gathered u
  pub few : length gathered.calls + old.before ≤ u.before

-- ---- before the first line

-- between the phases nothing is unread where the end was read
pub EndsLast-between : (u : Unread) → (u.ended ≡ true → u.taken ≡ length u.bytes.items) → EndsLast u
EndsLast-between u all = λ e.
    ap (ends_within Bare) (ap (λ k. drop k u.bytes.items) (all e) ∙ drop-length u.bytes.items)

pub Reached-start : (workers now : ℕ) (old : Unread) (left : Option (List ℕ)) (faults : ℕ) (s : Gather) → Gathers workers s beginning
    → EndsLast old → Reached workers now old old left left faults faults s
Reached-start workers now old left faults s gathers last = record {
  gathered = beginning;
  gathers = gathers;
  lines = [];
  read = [];
  came = record {
    consumed = Consumes-nil left;
    still = λ e. (e, refl);
    end = λ rightly e. rightly e;
    bytes = append-nil (unread_bytes old);
    parts = λ rest follows. refl;
    stands = refl;
    whole = λ e. refl;
    last = last;
  };
  needed = inl (record { none = refl; left = refl; faults = refl });
  still = λ closed. record { none = refl; left = refl; faults = refl };
  leaves = λ answers more e. refl;
  few = omega arith;
}

-- ---- by what a line does

-- what a line asks for does this
pub line_effect-is : (now : ℕ) (g : Gathered) (u : Unread) (line : List ℕ) (read : Result Item Reason) (number : ℕ)
    → number ≡ u.line
    → judged (passes_limit (standing u) line) (line_item line) ≡ read
    → line_effect now g (standing u) line ≡ effect_of now g number read
line_effect-is now g u line read number e is = ap (λ r. effect_of now g u.line r) is ∙ ap (λ n. effect_of now g n read) (sym e)

-- how many call lines a phase has then
calls_after : Effect → ℕ
calls_after (IsBad why) = 0
calls_after (GoesOn more) = length more.calls
calls_after Ends = 0

calls_after-call : (g : Gathered) (l : Line) → calls_after (with_call g l) ≤ length g.calls + 1
unfolding calls_after
calls_after-call g l =
    let go : (b : Bool) → calls_after (cond b (IsBad reason.Phase) (GoesOn (with_line g l))) ≤ length g.calls + 1 =
    λ b. elim b as (λ b. calls_after (cond b (IsBad reason.Phase) (GoesOn (with_line g l))) ≤ length g.calls + 1)
    [ true ↦ omega arith | false ↦ omega (arith, length_push g.calls (record { worker = g.worker; line = l })) ]
    in
    go (is_over (length g.calls) (count_by (λ c. is_list_line c.line) g.calls) l)

calls_after-effect : (now : ℕ) (g : Gathered) (n : ℕ) (item : Item) → calls_after (effect_of now g n (Ok item)) ≤ length g.calls + 1
unfolding calls_after
calls_after-effect now g n item.Nothing = omega arith
calls_after-effect now g n (item.Worker worker) = omega arith
calls_after-effect now g n item.Sync = omega arith
calls_after-effect now g n item.TickNow = calls_after-call g (One n (call.Tick now))
calls_after-effect now g n (item.One c) = calls_after-call g (One n c)
calls_after-effect now g n (item.Send flow len) = calls_after-call g (Send n flow len)

few-more : (now : ℕ) (g more : Gathered) (n : ℕ) (read : Result Item Reason) → effect_of now g n read ≡ GoesOn more
    → length more.calls ≤ length g.calls + 1
unfolding calls_after
few-more now g more n (Ok item) e = omega (arith, calls_after-effect now g n item, ap calls_after e)
few-more now g more n (Err why) e = absurd cc

-- the phase goes on
goes_on : (workers n : ℕ) (g : Gathered) (effect : Effect) (s : Gather) → Puts workers n g effect s (Ok true)
    → (more : Gathered) × (effect ≡ GoesOn more) × Gathers workers s more
goes_on workers n g (IsBad why) s puts = absurd puts
goes_on workers n g (GoesOn more) s puts = (more, refl, puts.1)
goes_on workers n g Ends s puts = absurd cc

-- the phase ends
pub ends : (workers n : ℕ) (g : Gathered) (effect : Effect) (s : Gather) → Puts workers n g effect s (Ok false) → (effect ≡ Ends) × Gathers workers s g
ends workers n g (IsBad why) s puts = absurd puts
ends workers n g (GoesOn more) s puts = absurd cc
ends workers n g Ends s puts = (refl, puts.1)

-- the batch from a line on, by what the line does
pub batch_from-effect : (answers : ℕ → ℕ) (now : ℕ) (g : Gathered) (at : Standing) (line : List ℕ) (lines : List (List ℕ)) (effect : Effect)
    → answers 0 ≡ now → line_effect now g at line ≡ effect
    → batch_from answers g at (line ∷ lines)
    ≡ by_effect effect (refused_at at.line) (λ more. batch_from answers more (behind at line) lines)
    (followed (has_feed line) true g.calls (batch_from (later answers) beginning (behind at line) lines))
batch_from-effect answers now g at line lines effect e does =
    let after = λ (x : Effect). by_effect x (refused_at at.line) (λ more. batch_from answers more (behind at line) lines)
    (followed (has_feed line) true g.calls (batch_from (later answers) beginning (behind at line) lines)) in
    ap (λ k. after (line_effect k g at line)) e ∙ ap after does

-- ---- what was read holds no end of the phase

-- where the end wasn't read, any bytes may follow
pub follow_any : (ended : Bool) (rest : List ℕ) → ended ≡ false → MayFollow ended rest
follow_any ended rest goes_on = λ e. absurd (cc (e, goes_on))

pub IsOpen-at : (now : ℕ) (old u : Unread) (first left : Option (List ℕ)) (lines : List (List ℕ)) (read more : List ℕ) (g : Gathered)
    → Came old u first left lines read → Leaves now old lines g u → u.ended ≡ false → ends_within Bare (unread_bytes u ++ more) ≡ false
    → IsOpen now (standing old) (unread_bytes old ++ (read ++ more))
unfolding whole_batch_at
IsOpen-at now old u first left lines read more g came leaves goes_on unfinished =
    let seen = seen_to_come u more in
    let none : filter has_feed (lines_of seen) ≡ [] =
    no_feeds seen (ends_within-take Bare (room_of u) (unread_bytes u ++ more) unfinished)
    in
    let whole : filter has_feed (lines_of (seen_to_come old (read ++ more))) ≡ lines ++ [] =
    ap (λ (ls : List (List ℕ)). filter has_feed ls) (came.parts more (follow_any u.ended more goes_on))
    ∙ filter-append has_feed lines (lines_of seen)
    ∙ ap (λ (ls : List (List ℕ)). ls ++ filter has_feed (lines_of seen)) (came.whole goes_on)
    ∙ ap (λ (ls : List (List ℕ)). lines ++ ls) none
    in
    record {
      part = g.calls;
      batch = λ answers e.
          ap (λ (ls : List (List ℕ)). batch_from answers beginning (standing old) ls) whole ∙ leaves answers [] e;
    }

-- ---- one line more

behind_all-more : (at : Standing) (lines : List (List ℕ)) (line : List ℕ) → behind_all at (lines ++ line ∷ []) ≡ behind (behind_all at lines) line
behind_all-more at [] line = refl
behind_all-more at (l ∷ ls) line = behind_all-more (behind at l) ls line

concat-more : (lines : List (List ℕ)) (line : List ℕ) → concat (lines ++ line ∷ []) ≡ concat lines ++ line
concat-more lines line = concat-append lines (line ∷ []) ∙ ap (λ (l : List ℕ). concat lines ++ l) (append-nil line)

-- a line feed ended the line where the end isn't read
pub feed_of_line : (line : List ℕ) (new : Unread) → EndsLine line new → new.ended ≡ false → has_feed line ≡ true
feed_of_line line new (inl (feed, on)) goes_on = feed
feed_of_line line new (inr (none, all)) goes_on = absurd (cc (all.ended, goes_on))

EndsLast-line : (line : List ℕ) (new : Unread) → EndsLine line new → EndsLast new
EndsLast-line line new (inl (feed, on)) = λ e. absurd (cc (e, on))
EndsLast-line line new (inr (none, all)) = λ e. ap (ends_within Bare) all.none

pub Came-more : (old u new : Unread) (first left now_left : Option (List ℕ)) (f0 f1 : ℕ) (lines : List (List ℕ)) (read : List ℕ) (asked : Asked) (read_as : Result Item Reason)
    → Came old u first left lines read → (a : IsAsked u new left now_left f0 f1 asked read_as)
    → Came old new first now_left (lines ++ a.line ∷ []) (read ++ a.piece)
Came-more old u new first left now_left f0 f1 lines read asked read_as came a =
    record {
      consumed = Consumes-trans first left now_left read a.piece came.consumed a.read_on.consumed;
      still = λ e.
          let before = came.still e in
          let after = a.read_on.still before.0 in
          (after.0, rw (before.1, after.1) refl);
      end = λ rightly e. a.read_on.end (came.end rightly) e;
      bytes =
          sym (append_assoc (unread_bytes old) read a.piece)
          ∙ ap (λ (l : List ℕ). l ++ a.piece) came.bytes
          ∙ append_assoc (concat lines) (unread_bytes u) a.piece
          ∙ ap (λ (l : List ℕ). concat lines ++ l) a.bytes
          ∙ sym (append_assoc (concat lines) a.line (unread_bytes new))
          ∙ ap (λ (l : List ℕ). l ++ unread_bytes new) (sym (concat-more lines a.line));
      parts = λ rest follows.
          let before : MayFollow u.ended (a.piece ++ rest) =
          λ e. let after = a.read_on.still e in rw (after.1, follows after.0) refl
          in
          ap (λ (l : List ℕ). lines_of (seen_to_come old l)) (append_assoc read a.piece rest)
          ∙ came.parts (a.piece ++ rest) before
          ∙ ap (λ (ls : List (List ℕ)). lines ++ ls) (a.lines rest follows)
          ∙ sym (append_assoc lines (a.line ∷ []) (lines_of (seen_to_come new rest)));
      stands = a.stands ∙ ap (λ (s : Standing). behind s a.line) came.stands ∙ sym (behind_all-more (standing old) lines a.line);
      whole = λ goes_on.
          let before : u.ended ≡ false = unended _ u.ended new.ended a.read_on.still goes_on in
          let feed : has_feed a.line ≡ true = feed_of_line a.line new a.ends goes_on in
          filter-append has_feed lines (a.line ∷ [])
          ∙ ap (λ (ls : List (List ℕ)). ls ++ filter has_feed (a.line ∷ [])) (came.whole before)
          ∙ ap (λ (b : Bool). lines ++ cond b (a.line ∷ []) []) feed;
      last = EndsLast-line a.line new a.ends;
    }

-- nor was any read that brought the next line
pub needed-more : (now : ℕ) (old u : Unread) (ended : Bool) (first left now_left : Option (List ℕ)) (f0 f1 f2 : ℕ) (lines : List (List ℕ)) (read piece : List ℕ)
    (g : Gathered) → Came old u first left lines read → Leaves now old lines g u → Needed now old read first left f0 f1
    → ReadsOn u ended piece left now_left f1 f2 → Needed now old (read ++ piece) first now_left f0 f2
needed-more now old u ended first left now_left f0 f1 f2 lines read piece g came leaves before on =
    elim on.needed as (λ _. Needed now old (read ++ piece) first now_left f0 f2) [
      | inl rests ↦
          let same : read ++ piece ≡ read = ap (λ (l : List ℕ). read ++ l) rests.none ∙ append-nil read in
          elim before as (λ _. Needed now old (read ++ piece) first now_left f0 f2) [
            | inl none ↦ inl (record { none = same ∙ none.none; left = rests.left ∙ none.left; faults = rests.faults ∙ none.faults })
            | inr o ↦ inr (record { front = o.front; last = o.last; parts = o.parts ∙ sym same; small = o.small; is_open = o.is_open })
          ]
      | inr r ↦ inr (record {
        front = read ++ r.front;
        last = r.last;
        parts = append_assoc read r.front r.last ∙ ap (λ (l : List ℕ). read ++ l) r.parts;
        small = r.small;
        is_open = IsOpen-at now old u first left lines read r.front g came leaves r.goes_on r.unfinished;
      })
    ]

pub still-more : (now : ℕ) (old u : Unread) (ended : Bool) (first left now_left : Option (List ℕ)) (f0 f1 f2 : ℕ) (lines : List (List ℕ)) (read piece : List ℕ)
    (g : Gathered) → Came old u first left lines read → Leaves now old lines g u → Still now old read first left f0 f1
    → ReadsOn u ended piece left now_left f1 f2 → Still now old (read ++ piece) first now_left f0 f2
still-more now old u ended first left now_left f0 f1 f2 lines read piece g came leaves before on closed =
    let none = before closed in
    elim on.needed as (λ _. IsUntouched (read ++ piece) first now_left f0 f2) [
      | inl rests ↦ record {
        none = rw (none.none, rests.none) refl;
        left = rests.left ∙ none.left;
        faults = rests.faults ∙ none.faults;
      }
      | inr r ↦
          let here : ends_within Bare (unread_bytes u ++ []) ≡ false =
          ap (ends_within Bare) (append-nil (unread_bytes u)) ∙ ends_within-front Bare (unread_bytes u) r.front r.unfinished
          in
          let same : unread_bytes old ++ (read ++ []) ≡ unread_bytes old =
          ap (λ (l : List ℕ). unread_bytes old ++ (l ++ [])) none.none ∙ append-nil (unread_bytes old)
          in
          absurd (closed (subst (IsOpen now (standing old)) same (IsOpen-at now old u first left lines read [] g came leaves r.goes_on here)))
    ]

-- ---- a line that the phase goes on behind

-- how far a line goes
pub passed-line : (u new : Unread) (left now_left : Option (List ℕ)) (f0 f1 : ℕ) (asked : Asked) (read_as : Result Item Reason) → IsAsked u new left now_left f0 f1 asked read_as
    → u.before < new.before
passed-line u new left now_left f0 f1 asked read_as a = omega (arith, ap (λ (s : Standing). s.before) a.stands, a.some)

-- behind the lines so far, the next line does this
pub leaves-line : (now : ℕ) (old u new : Unread) (left now_left : Option (List ℕ)) (f0 f1 : ℕ) (lines more : List (List ℕ)) (asked : Asked) (read_as : Result Item Reason) (g : Gathered) (effect : Effect)
    (answers : ℕ → ℕ) → Leaves now old lines g u → (a : IsAsked u new left now_left f0 f1 asked read_as)
    → effect_of now g asked.line read_as ≡ effect → answers 0 ≡ now
    → batch_from answers beginning (standing old) ((lines ++ a.line ∷ []) ++ more)
    ≡ by_effect effect (refused_at u.line) (λ next. batch_from answers next (standing new) more)
    (followed (has_feed a.line) true g.calls (batch_from (later answers) beginning (standing new) more))
leaves-line now old u new left now_left f0 f1 lines more asked read_as g effect answers leaves a does e =
    ap (λ (ls : List (List ℕ)). batch_from answers beginning (standing old) ls) (append_assoc lines (a.line ∷ []) more)
    ∙ leaves answers (a.line ∷ more) e
    ∙ batch_from-effect answers now g (standing u) a.line more effect e
    (line_effect-is now g u a.line read_as asked.line a.number a.item ∙ does)
    ∙ ap (λ (at : Standing).
    by_effect effect (refused_at u.line) (λ next. batch_from answers next at more)
    (followed (has_feed a.line) true g.calls (batch_from (later answers) beginning at more))) (sym a.stands)

pub Reached-more : (workers now : ℕ) (old u new : Unread) (first left now_left : Option (List ℕ)) (f0 f1 f2 : ℕ) (s next : Gather) (asked : Asked) (read_as : Result Item Reason)
    → (r : Reached workers now old u first left f0 f1 s) → IsAsked u new left now_left f1 f2 asked read_as
    → Puts workers asked.line r.gathered (effect_of now r.gathered asked.line read_as) next (Ok true)
    → Reached workers now old new first now_left f0 f2 next
Reached-more workers now old u new first left now_left f0 f1 f2 s next asked read_as r a puts =
    let on = goes_on workers asked.line r.gathered (effect_of now r.gathered asked.line read_as) next puts in
    record {
      gathered = on.0;
      gathers = on.2;
      lines = r.lines ++ a.line ∷ [];
      read = r.read ++ a.piece;
      came = Came-more old u new first left now_left f1 f2 r.lines r.read asked read_as r.came a;
      needed = needed-more now old u new.ended first left now_left f0 f1 f2 r.lines r.read a.piece r.gathered r.came r.leaves r.needed a.read_on;
      still = still-more now old u new.ended first left now_left f0 f1 f2 r.lines r.read a.piece r.gathered r.came r.leaves r.still a.read_on;
      leaves = λ answers more e.
          leaves-line now old u new left now_left f1 f2 r.lines more asked read_as r.gathered (GoesOn on.0) answers r.leaves a on.1 e;
      few =
          omega (arith, few-more now r.gathered on.0 asked.line read_as on.1, r.few, passed-line u new left now_left f1 f2 asked read_as a);
    }
