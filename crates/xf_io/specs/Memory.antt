-- A source and a sink over memory: what contracts see of them, and how a read and a write go.
use Rattle.std.specs.Prelude.{◌≡◌, ◌↔◌, ◌⊎◌, ℕ, ◌+◌, ◌<◌, min, List, length, Contains, Result, IsErr, IfOk, MatchResult}
use Rattle.xf_io.specs.Causes.{next_count, Counts}

-- bytes still to come, numbers of the reads that fail, reads so far, faults so far
pub record SourceState : Type 0 where
  pub left : List ℕ
  pub fails : List ℕ
  pub reads : ℕ
  pub faults : ℕ

-- A read into a buffer of this size: it fails exactly where its number is listed, and gives as much as fits otherwise.
pub record Reads {E : Type 0} (old new : SourceState) (size : ℕ) (result : Result ℕ E) : Type 0 where
  pub counted : new.reads ≡ next_count old.reads
  pub listed : IsErr result ↔ Contains old.fails new.reads
  pub fits : IfOk result (λ n. n ≡ min (length old.left) size)
  pub faults : Counts old.faults new.faults result
  pub same : new.fails ≡ old.fails

-- text so far, bytes of the list that are left, numbers of the writes that fail, writes so far, faults so far
pub record SinkState : Type 0 where
  pub text : List ℕ
  pub space : ℕ
  pub fails : List ℕ
  pub writes : ℕ
  pub faults : ℕ

-- A write of a piece: it fails exactly where its number is listed or the piece is longer than what is left, and
-- takes the whole piece otherwise.
pub record Writes {E : Type 0} (old new : SinkState) (piece : List ℕ) (result : Result ℕ E) : Type 0 where
  pub counted : new.writes ≡ next_count old.writes
  pub refused : IsErr result ↔ (Contains old.fails new.writes ⊎ (old.space < length piece))
  pub whole : IfOk result (λ n. n ≡ length piece)
  pub space : MatchResult result (λ _. new.space + length piece ≡ old.space) (λ _. new.space ≡ old.space)
  pub faults : Counts old.faults new.faults result
  pub same : new.fails ≡ old.fails
