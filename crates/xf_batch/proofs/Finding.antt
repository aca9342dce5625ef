-- The next logical line among the bytes to come.
use Rattle.std.proofs.Common.{◌≡◌, inl, inr, ℕ, ◌+◌, ◌-◌, ◌<◌, ◌≤◌, Bool, true, false, ◌||◌, List, [], ◌∷◌, ◌++◌, length, take, drop, refl, sym, ap, ◌∙◌, subst, arith, append-nil, append_assoc, Option, nat_le, min, length-take, length-drop}
use Rattle.std.specs.Io.KnownBytes.{Keeps}
use Rattle.std.proofs.KnownBytes.{Consumes-kept, Consumes-nil, Consumes-trans}
use Rattle.std.proofs.lemmas.List.{take-append-drop, take-take, drop_all, take-append-le, take_min, take_rest, drop-take, take_all}
use Rattle.std.proofs.lemmas.Bool.Decides.{nat_tests}
use Rattle.xf_read.specs.declared.reader.Unread.{Unread}
use Rattle.xf_lex.specs.declared.quoting.Quoting.TheVariants.{Bare}
use Rattle.xf_lex.specs.LogicalLines.{lines_of}
use Rattle.xf_batch.specs.declared.fault.PhaseFault.{PhaseFault}
use Rattle.xf_batch.specs.declared.fault.PhaseFault.TheVariants as fault
use Rattle.xf_batch.specs.declared.line_scan.LineScan.{LineScan}
use Rattle.xf_batch.specs.Coming.{EndsLast, Fills, Grows, IsNextLine, IsLongNext, IsOutside, BreaksOff, is_all, room_of, seen_to_come}
use Rattle.xf_batch.specs.Reading.{MayFollow, unread_bytes}
use Rattle.xf_batch.specs.LineEnds.{ends_within, has_feed}
use Rattle.xf_batch.specs.Scans.{Scans, IsWholeLine, IsLongFront}
use Rattle.xf_batch.proofs.Lines.{last_line, neither}
use Rattle.xf_batch.proofs.LongLines.{Begins, Begins-front, line_item-long}

-- nothing was read yet
pub Grows-start : (u : Unread) (left : Option (List ℕ)) (faults : ℕ) → EndsLast u → Grows u u left left faults faults
Grows-start u left faults last = record {
  piece = [];
  bytes = sym (append-nil (unread_bytes u));
  read_on = record {
    consumed = Consumes-nil left;
    still = λ e. (e, refl);
    end = λ rightly e. rightly e;
    needed = inl (record { none = refl; left = refl; faults = refl });
  };
  last = last;
  line = refl;
  before = refl;
}

-- where the end isn't read yet, it wasn't read before
pub unended : (P : Type 0) (a b : Bool) → (a ≡ true → (b ≡ true) × P) → b ≡ false → a ≡ false
unended P true b still goes_on = absurd (cc ((still refl).0, goes_on))
unended P false b still goes_on = refl

nothing : (bytes : List ℕ) → length bytes ≡ 0 → bytes ≡ []
nothing [] e = refl
nothing (b ∷ bs) e = absurd (omega (arith, e))

-- a piece more, or the end
pub Grows-filled : (old u new : Unread) (first left now : Option (List ℕ)) (f0 f1 f2 : ℕ) → u.ended ≡ false
    → ends_within Bare (unread_bytes u) ≡ false → Grows old u first left f0 f1 → Fills u new left now → Grows old new first now f0 f2
Grows-filled old u new first left now f0 f1 f2 goes_on unfinished g f =
    let before : old.ended ≡ false = unended _ old.ended u.ended g.read_on.still goes_on in
    record {
      piece = g.piece ++ f.piece;
      bytes = f.bytes ∙ ap (λ (l : List ℕ). l ++ f.piece) g.bytes ∙ append_assoc (unread_bytes old) g.piece f.piece;
      read_on = record {
        consumed = Consumes-trans first left now g.piece f.piece g.read_on.consumed f.consumed;
        still = λ e. absurd (cc (e, before));
        end = λ rightly e. f.end e;
        needed = inr (record {
          front = g.piece;
          last = f.piece;
          parts = refl;
          small = f.small;
          goes_on = before;
          unfinished = ap (ends_within Bare) (sym g.bytes) ∙ unfinished;
        });
      };
      last = λ e.
          ap (ends_within Bare)
          (f.bytes ∙ ap (λ (l : List ℕ). unread_bytes u ++ l) (nothing f.piece (f.none e)) ∙ append-nil (unread_bytes u))
          ∙ unfinished;
      line = f.line ∙ g.line;
      before = f.before ∙ g.before;
    }

-- what was walked over stands before a piece that came
pub walked-filled : (old new piece : List ℕ) (n : ℕ) → new ≡ old ++ piece → n ≤ length old → take n new ≡ take n old
walked-filled old new piece n more within = ap (take n) more ∙ take-append-le n old piece within

-- a piece of what is seen, behind what was walked over
pub record Joins (bytes seen piece : List ℕ) (room walked : ℕ) : Type 0 where
  pub front : seen ≡ take room bytes
  pub back : piece ≡ take (length seen - walked) (drop walked seen)
  pub within : walked ≤ length bytes
  pub fits : walked ≤ room

joined-bounds : (bytes seen piece : List ℕ) (room walked n : ℕ) → Joins bytes seen piece room walked → n ≤ length piece
    → (walked + n ≤ length seen) × (length seen ≤ length bytes) × (length seen ≤ room)
joined-bounds bytes seen piece room walked n joins within =
    let size : length seen ≡ min room (length bytes) = ap length joins.front ∙ length-take room bytes in
    let rest : length piece ≡ length seen - walked =
    ap length (joins.back ∙ take_rest seen walked) ∙ length-drop walked seen
    in
    (omega (arith, within, size, rest, joins.within, joins.fits), omega (arith, size), omega (arith, size))

joined : (bytes seen piece : List ℕ) (room walked n : ℕ) → Joins bytes seen piece room walked → n ≤ length piece
    → take walked bytes ++ take n piece ≡ take (walked + n) bytes
joined bytes seen piece room walked n joins within =
    let bounds = joined-bounds bytes seen piece room walked n joins within in
    let front : take walked bytes ≡ take walked (take (walked + n) seen) =
    sym (take-take walked (walked + n) seen (omega arith) ∙ ap (take walked) joins.front ∙ take-take walked room bytes joins.fits)
    in
    let back : take n piece ≡ drop walked (take (walked + n) seen) =
    ap (take n) (joins.back ∙ take_rest seen walked) ∙ sym (drop-take walked n seen)
    in
    ap (λ (l : List ℕ). l ++ take n piece) front
    ∙ ap (λ (l : List ℕ). take walked (take (walked + n) seen) ++ l) back
    ∙ take-append-drop walked (take (walked + n) seen)
    ∙ ap (take (walked + n)) joins.front
    ∙ take-take (walked + n) room bytes (omega (arith, bounds.0, bounds.2))

-- with the whole piece, all that is seen was walked over
joined-all : (bytes seen piece : List ℕ) (room walked : ℕ) → Joins bytes seen piece room walked → take walked bytes ++ piece ≡ seen
joined-all bytes seen piece room walked joins =
    ap (λ (l : List ℕ). take walked bytes ++ l) (joins.back ∙ take_rest seen walked)
    ∙ ap (λ (l : List ℕ). l ++ drop walked seen) (sym (ap (take walked) joins.front ∙ take-take walked room bytes joins.fits))
    ∙ take-append-drop walked seen

-- what is seen, parted at a place among the unread bytes
parts : (u : Unread) (rest : List ℕ) (n : ℕ) → n ≤ length (unread_bytes u) → n ≤ room_of u
    → take n (unread_bytes u) ++ drop n (seen_to_come u rest) ≡ seen_to_come u rest
parts u rest n within room =
    ap (λ (l : List ℕ). l ++ drop n (seen_to_come u rest))
    (sym (take-take n (room_of u) (unread_bytes u ++ rest) room ∙ take-append-le n (unread_bytes u) rest within))
    ∙ take-append-drop n (seen_to_come u rest)

-- the next line is whole among the unread bytes
IsNextLine-whole : (u : Unread) (n : ℕ) → 0 < n → n ≤ length (unread_bytes u) → n ≤ room_of u
    → IsWholeLine (take n (unread_bytes u)) → has_feed (take n (unread_bytes u)) ≡ true → IsNextLine u n
IsNextLine-whole u n some within room whole feed = record {
  some = some;
  within = within;
  room = room;
  ends = inl feed;
  lines = λ rest follows. ap lines_of (sym (parts u rest n within room)) ∙ whole (drop n (seen_to_come u rest));
}

-- no more bytes are seen than the unread ones
seen-all : (u : Unread) (rest : List ℕ) → is_all u ≡ true → MayFollow u.ended rest → seen_to_come u rest ≡ take (room_of u) (unread_bytes u)
seen-all u rest all follows =
    let room = room_of u in
    let bytes = unread_bytes u in
    let go : (b : Bool) → (b || nat_le room (length bytes)) ≡ true → MayFollow b rest → take room (bytes ++ rest) ≡ take room bytes =
    λ b. elim b as (λ b. (b || nat_le room (length bytes)) ≡ true → MayFollow b rest → take room (bytes ++ rest) ≡ take room bytes) [
      | true ↦ λ h f. ap (λ (l : List ℕ). take room (bytes ++ l)) (f refl) ∙ ap (λ (l : List ℕ). take room l) (append-nil bytes)
      | false ↦ λ h f. take-append-le room bytes rest (grind (arith, nat_tests, h))
    ]
    in
    go u.ended all follows

-- all of it is one line
same-last : (u : Unread) (n : ℕ) → n ≡ length (take (room_of u) (unread_bytes u)) → take n (unread_bytes u) ≡ take (room_of u) (unread_bytes u)
same-last u n size =
    ap (λ k. take k (unread_bytes u)) (size ∙ length-take (room_of u) (unread_bytes u)) ∙ take_min (room_of u) (unread_bytes u)

-- the last line ends with what is seen
last-seen : (u : Unread) (rest : List ℕ) (n : ℕ) → is_all u ≡ true → MayFollow u.ended rest
    → n ≡ length (take (room_of u) (unread_bytes u)) → 0 < n → ends_within Bare (take (room_of u) (unread_bytes u)) ≡ false
    → lines_of (seen_to_come u rest) ≡ take n (unread_bytes u) ∷ lines_of (drop n (seen_to_come u rest))
last-seen u rest n all follows size some goes_on =
    let line = take (room_of u) (unread_bytes u) in
    let seen : seen_to_come u rest ≡ line = seen-all u rest all follows in
    ap lines_of seen
    ∙ last_line line goes_on (omega (arith, size, some))
    ∙ sym (ap (λ (l : List ℕ). l ∷ lines_of (drop n (seen_to_come u rest))) (same-last u n size)
    ∙ ap (λ (l : List ℕ). line ∷ lines_of (drop n l)) seen
    ∙ ap (λ (l : List ℕ). line ∷ lines_of l) (drop_all n line (omega (arith, size))))

pub IsNextLine-last : (u : Unread) (n : ℕ) → is_all u ≡ true
    → n ≡ length (take (room_of u) (unread_bytes u)) → 0 < n → ends_within Bare (take (room_of u) (unread_bytes u)) ≡ false
    → IsNextLine u n
IsNextLine-last u n all size some goes_on =
    let bound : n ≡ min (room_of u) (length (unread_bytes u)) = size ∙ length-take (room_of u) (unread_bytes u) in
    record {
      some = some;
      within = omega (arith, bound);
      room = omega (arith, bound);
      ends = inr (record { unended = ap (ends_within Bare) (same-last u n size) ∙ goes_on; all = all; whole = size });
      lines = λ rest follows. last-seen u rest n all follows size some goes_on;
    }

-- the next line ends in the piece
pub IsNextLine-joined : (u : Unread) (seen piece : List ℕ) (walked n : ℕ)
    → Joins (unread_bytes u) seen piece (room_of u) walked → 0 < n → n ≤ length piece → IsWholeLine (take walked (unread_bytes u) ++ take n piece)
    → has_feed (take walked (unread_bytes u) ++ take n piece) ≡ true → IsNextLine u (walked + n)
IsNextLine-joined u seen piece walked n joins some within whole feed =
    let bounds = joined-bounds (unread_bytes u) seen piece (room_of u) walked n joins within in
    let same = joined (unread_bytes u) seen piece (room_of u) walked n joins within in
    IsNextLine-whole u (walked + n) (omega (arith, some)) (omega (arith, bounds.0, bounds.1)) (omega (arith, bounds.0, bounds.2))
    (subst IsWholeLine same whole) (ap has_feed (sym same) ∙ feed)

-- the next line is long
IsLongNext-front : (u : Unread) (rest : List ℕ) (n : ℕ) → n ≤ length (unread_bytes u) → n ≤ room_of u
    → IsLongFront (take n (unread_bytes u)) → IsLongNext u rest
IsLongNext-front u rest n within room long =
    let front = take n (unread_bytes u) in
    let first : Begins front (lines_of (front ++ drop n (seen_to_come u rest))) = Begins-front front (drop n (seen_to_come u rest)) long in
    record {
      line = front ++ first.more;
      others = first.rest;
      lines = ap lines_of (sym (parts u rest n within room)) ∙ first.is;
      long = line_item-long front first.more long.long;
    }

pub IsLongNext-joined : (u : Unread) (rest seen piece : List ℕ) (walked n : ℕ)
    → Joins (unread_bytes u) seen piece (room_of u) walked → n ≤ length piece → IsLongFront (take walked (unread_bytes u) ++ take n piece)
    → IsLongNext u rest
IsLongNext-joined u rest seen piece walked n joins within long =
    let bounds = joined-bounds (unread_bytes u) seen piece (room_of u) walked n joins within in
    IsLongNext-front u rest (walked + n) (omega (arith, bounds.0, bounds.1)) (omega (arith, bounds.0, bounds.2))
    (subst IsLongFront (joined (unread_bytes u) seen piece (room_of u) walked n joins within) long)

-- the piece was walked over
pub Scans-joined : (u : Unread) (s : LineScan) (seen piece : List ℕ) (walked : ℕ)
    → Joins (unread_bytes u) seen piece (room_of u) walked → Scans (take walked (unread_bytes u) ++ piece) s
    → Scans (take (room_of u) (unread_bytes u)) s
Scans-joined u s seen piece walked joins scans =
    subst (λ (l : List ℕ). Scans l s) (joined-all (unread_bytes u) seen piece (room_of u) walked joins ∙ joins.front) scans

-- nothing is looked at but the unread bytes, and they hold no line's end
pub unfinished_all : (u : Unread) (s : LineScan) → Scans (take (room_of u) (unread_bytes u)) s → is_all u ≡ false
    → ends_within Bare (unread_bytes u) ≡ false
unfinished_all u s scans less =
    let rest : nat_le (room_of u) (length (unread_bytes u)) ≡ false = (neither u.ended (nat_le (room_of u) (length (unread_bytes u))) less).1 in
    let fits : length (unread_bytes u) ≤ room_of u = grind (arith, nat_tests, rest) in
    ap (ends_within Bare) (sym (take_all (room_of u) (unread_bytes u) fits)) ∙ scans.goes_on

-- a read failed there
pub BreaksOff-filled : (old u : Unread) (first left now : Option (List ℕ)) (f0 f1 : ℕ) (why : PhaseFault) → u.ended ≡ false
    → ends_within Bare (unread_bytes u) ≡ false → Grows old u first left f0 f1 → IsOutside why → (why ≡ fault.ReadFault → Keeps left now)
    → BreaksOff old first now why
BreaksOff-filled old u first left now f0 f1 (fault.Bad line why) goes_on unfinished g outside kept = absurd outside
BreaksOff-filled old u first left now f0 f1 fault.NoMemory goes_on unfinished g outside kept = tt
BreaksOff-filled old u first left now f0 f1 fault.ReadFault goes_on unfinished g outside kept = record {
  piece = g.piece;
  consumed = Consumes-kept first left now g.piece g.read_on.consumed (kept refl);
  goes_on = unended _ old.ended u.ended g.read_on.still goes_on;
  unfinished = ap (ends_within Bare) (sym g.bytes) ∙ unfinished;
}
