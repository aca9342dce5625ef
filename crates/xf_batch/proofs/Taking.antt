-- The next line among the bytes to come, taken from the unread ones.
use Rattle.std.proofs.Common.{◌≡◌, inl, inr, ℕ, ◌+◌, ◌-◌, ◌<◌, ◌≤◌, ◌||◌, Bool, true, false, List, [], ◌∷◌, ◌++◌, length, take, drop, refl, sym, ap, subst, ◌∙◌, arith, Option, Some, None, Ok, Err, nat_le, min, append_assoc, length-take, length-take-le, take-append-drop}
use Rattle.std.proofs.lemmas.Bool.Decides.{nat_tests}
use Rattle.std.proofs.lemmas.List.{drop-take, drop-append-le, drop_all}
use Rattle.xf_types.specs.declared.status.Reason.TheVariants as reason
use Rattle.xf_grammar.specs.declared.head.Head.{Head}
use Rattle.xf_grammar.specs.declared.row.Field.{Field}
use Rattle.xf_read.specs.declared.reader.Unread.{Unread}
use Rattle.xf_read.specs.Items.{asked_by, line_item}
use Rattle.xf_lex.specs.declared.quoting.Quoting.TheVariants.{Bare}
use Rattle.xf_lex.specs.LogicalLines.{lines_of}
use Rattle.xf_batch.specs.declared.fault.PhaseFault.{PhaseFault}
use Rattle.xf_batch.specs.declared.fault.PhaseFault.TheVariants as fault
use Rattle.xf_batch.specs.Asking.{Asks, EndsLine, GivesJudged, Takes}
use Rattle.xf_batch.specs.Batch.{Standing, behind, limit, judged, passes_limit}
use Rattle.xf_batch.specs.Coming.{BreaksOff, EndsLast, Grows, IsLongNext, IsNextLine, ReadsOn, room_of, seen_to_come}
use Rattle.xf_batch.specs.LineEnds.{ends_within, has_feed}
use Rattle.xf_batch.specs.Reading.{standing, unread_bytes}
use Rattle.xf_batch.proofs.Lines.{ends_within-take}

-- reading on leaves the place
standing-read : (old mid : Unread) (first left : Option (List ℕ)) (f0 f1 : ℕ) → Grows old mid first left f0 f1 → standing mid ≡ standing old
standing-read old mid first left f0 f1 on = λ i. record { line = on.line i; before = on.before i }

-- and what is seen
seen-read : (old mid : Unread) (first left : Option (List ℕ)) (f0 f1 : ℕ) (on : Grows old mid first left f0 f1) (rest : List ℕ)
    → seen_to_come mid rest ≡ seen_to_come old (on.piece ++ rest)
seen-read old mid first left f0 f1 on rest =
    ap (λ k. take (limit + 1 - k) (unread_bytes mid ++ rest)) on.before
    ∙ ap (λ (l : List ℕ). take (room_of old) l)
    (ap (λ (l : List ℕ). l ++ rest) on.bytes ∙ append_assoc (unread_bytes old) on.piece rest)

-- behind a line that was taken
seen-taken : (u new : Unread) (rest : List ℕ) (size : ℕ) → Takes u new size → size ≤ length (unread_bytes u) → size ≤ room_of u
    → seen_to_come new rest ≡ drop size (seen_to_come u rest)
seen-taken u new rest size takes within fits =
    let before : new.before ≡ u.before + size =
    ap (λ (s : Standing). s.before) takes.behind ∙ ap (λ n. u.before + n) (length-take-le size (unread_bytes u) within)
    in
    let room : size + room_of new ≡ room_of u = omega (arith, before, fits) in
    ap (λ (l : List ℕ). take (room_of new) l)
    (ap (λ (l : List ℕ). l ++ rest) takes.bytes ∙ sym (drop-append-le size (unread_bytes u) rest within))
    ∙ sym (drop-take size (room_of new) (unread_bytes u ++ rest))
    ∙ ap (λ k. drop size (take k (unread_bytes u ++ rest))) room

-- a line feed ended it only where the end wasn't read
feed_goes_on : (ended : Bool) (bytes : List ℕ) (size : ℕ) → (ended ≡ true → ends_within Bare bytes ≡ false)
    → has_feed (take size bytes) ≡ true → ended ≡ false
feed_goes_on false bytes size last feed = refl
feed_goes_on true bytes size last feed = absurd (cc (ends_within-take Bare size bytes (last refl), feed))

-- all is taken with the last line, where it doesn't pass the limit
all_ended : (ended : Bool) (room size length : ℕ) → (ended || nat_le room length) ≡ true → size ≡ min room length → size < room
    → (ended ≡ true) × (length ≤ size)
all_ended true room size length all is fits = (refl, omega (arith, is, fits))
all_ended false room size length all is fits =
    let more : room ≤ length = grind (arith, nat_tests, all) in absurd (omega (arith, more, is, fits))

EndsLine-taken : (mid new : Unread) (size : ℕ) → EndsLast mid → IsNextLine mid size → Takes mid new size
    → passes_limit (standing mid) (take size (unread_bytes mid)) ≡ false
    → EndsLine (take size (unread_bytes mid)) new
EndsLine-taken mid new size last next takes under =
    let line = take size (unread_bytes mid) in
    elim next.ends as (λ _. EndsLine line new) [
      | inl feed ↦ inl (feed, takes.ended ∙ feed_goes_on mid.ended (unread_bytes mid) size last feed)
      | inr ends ↦ let count : length line ≡ size = length-take-le size (unread_bytes mid) next.within in
          let fits : size < room_of mid = grind (arith, nat_tests, under, count) in
          let all = all_ended mid.ended (room_of mid) size (length (unread_bytes mid)) ends.all
          (ends.whole ∙ length-take (room_of mid) (unread_bytes mid)) fits in
          inr (
            ends.unended,
            record { ended = takes.ended ∙ all.0; none = takes.bytes ∙ drop_all size (unread_bytes mid) all.1 },
          )
    ]

-- a line that asks for something
pub IsAsked-taken : (old mid new : Unread) (first left : Option (List ℕ)) (f0 f1 size : ℕ) (head : Option Head) (fields : List Field)
    → Grows old mid first left f0 f1
    → IsNextLine mid size → Takes mid new size
    → judged (passes_limit (standing mid) (take size (unread_bytes mid))) (line_item (take size (unread_bytes mid))) ≡ asked_by head fields
    → passes_limit (standing mid) (take size (unread_bytes mid)) ≡ false
    → Asks old new first left f0 f1 fields (Ok (Some (record { line = old.line; head = head })))
IsAsked-taken old mid new first left f0 f1 size head fields on next takes read under =
    let line = take size (unread_bytes mid) in
    let place = standing-read old mid first left f0 f1 on in
    record {
      piece = on.piece;
      read_on = subst (λ (b : Bool). ReadsOn old b on.piece first left f0 f1) (sym takes.ended) on.read_on;
      line = line;
      some = omega (arith, next.some, length-take-le size (unread_bytes mid) next.within);
      bytes =
          sym on.bytes ∙ sym (take-append-drop size (unread_bytes mid)) ∙ ap (λ (l : List ℕ). line ++ l) (sym takes.bytes);
      stands = takes.behind ∙ ap (λ (s : Standing). behind s line) place;
      number = refl;
      item = ap (λ (s : Standing). judged (passes_limit s line) (line_item line)) (sym place) ∙ read;
      ends = EndsLine-taken mid new size on.last next takes under;
      lines = λ rest follows.
          ap lines_of (sym (seen-read old mid first left f0 f1 on rest))
          ∙ next.lines rest (λ e. follows (takes.ended ∙ e))
          ∙ ap (λ (l : List ℕ). line ∷ lines_of l) (sym (seen-taken mid new rest size takes next.within next.room));
    }

-- there is none
pub IsNoLine-read : (old mid : Unread) (first left : Option (List ℕ)) (f0 f1 : ℕ) (fields : List Field) → Grows old mid first left f0 f1
    → (mid.ended ≡ true) × (unread_bytes mid ≡ []) → Asks old mid first left f0 f1 fields (Ok None)
IsNoLine-read old mid first left f0 f1 fields on none = record {
  piece = on.piece;
  read_on = subst (λ (b : Bool). ReadsOn old b on.piece first left f0 f1) none.0 on.read_on;
  all = record { ended = none.0; none = none.1 };
  bytes = sym on.bytes ∙ none.1;
  stands = standing-read old mid first left f0 f1 on;
}

-- a bad line
pub Asks-bad : (old mid new : Unread) (first left : Option (List ℕ)) (f0 f1 size : ℕ) (fields : List Field) (why : PhaseFault)
    → Grows old mid first left f0 f1
    → IsNextLine mid size
    → GivesJudged (Err why) fields mid.line (judged (passes_limit (standing mid) (take size (unread_bytes mid))) (line_item (take size (unread_bytes mid))))
    → Asks old new first left f0 f1 fields (Err why)
Asks-bad old mid new first left f0 f1 size fields (fault.Bad line why) on next read =
    let bytes = take size (unread_bytes mid) in
    record {
      piece = on.piece;
      ended = mid.ended;
      read_on = on.read_on;
      number = read.0 ∙ on.line;
      bad = λ rest follows. record {
        line = bytes;
        others = lines_of (drop size (seen_to_come mid rest));
        lines = ap lines_of (sym (seen-read old mid first left f0 f1 on rest)) ∙ next.lines rest follows;
        fault =
            ap (λ (s : Standing). judged (passes_limit s bytes) (line_item bytes)) (sym (standing-read old mid first left f0 f1 on))
            ∙ read.1;
      };
    }
Asks-bad old mid new first left f0 f1 size fields fault.ReadFault on next read = absurd read
Asks-bad old mid new first left f0 f1 size fields fault.NoMemory on next read = tt

-- one that is long
pub Asks-long : (old mid : Unread) (first left : Option (List ℕ)) (f0 f1 : ℕ) (fields : List Field) → Grows old mid first left f0 f1
    → ((rest : List ℕ) → IsLongNext mid rest) → Asks old mid first left f0 f1 fields (Err (fault.Bad old.line reason.Long))
Asks-long old mid first left f0 f1 fields on long = record {
  piece = on.piece;
  ended = mid.ended;
  read_on = on.read_on;
  number = refl;
  bad = λ rest follows.
      let next = long rest in
      record {
        line = next.line;
        others = next.others;
        lines = ap lines_of (sym (seen-read old mid first left f0 f1 on rest)) ∙ next.lines;
        fault = ap (judged (passes_limit (standing old) next.line)) next.long;
      };
}

-- no line was found
pub Asks-broken : (old new : Unread) (first left : Option (List ℕ)) (f0 f1 : ℕ) (fields : List Field) (why : PhaseFault) → BreaksOff old first left why
    → Asks old new first left f0 f1 fields (Err why)
Asks-broken old new first left f0 f1 fields (fault.Bad line why) breaks = absurd breaks
Asks-broken old new first left f0 f1 fields fault.ReadFault breaks = breaks
Asks-broken old new first left f0 f1 fields fault.NoMemory breaks = tt
