-- What a source gave and no line has taken yet.
use Rattle.std.specs.Prelude.{◌≡◌, false, []}
use Rattle.xf_read.specs.declared.reader.Unread.{Unread}

-- nothing was given yet, and the first line is still to come
pub record IsFresh (unread : Unread) : Type 0 where
  pub bytes : unread.bytes.items ≡ []
  pub taken : unread.taken ≡ 0
  pub line : unread.line ≡ 1
  pub before : unread.before ≡ 0
  pub ended : unread.ended ≡ false
