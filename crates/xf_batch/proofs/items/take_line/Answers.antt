use Rattle.std.proofs.Common.{◌≡◌, ℕ, ◌+◌, ◌-◌, ◌≤◌, List, length, take, drop, nat_lt, sym, ap, ◌∙◌, arith, length-take-le}
use Rattle.std.proofs.lemmas.Result.{err_from_is_err_and}
use Rattle.xf_read.specs.declared.reader.Unread.{Unread}
use Rattle.xf_read.specs.Items.{line_item}
use Rattle.xf_batch.specs.Batch.{judged, passes_limit}
use Rattle.xf_batch.specs.Reading.{standing, unread_bytes}
use Rattle.xf_batch.proofs.items.take_line.Goals as goal

-- the slice is the line
judged-slice : (u : Unread) (bytes : List ℕ) (size : ℕ) → bytes ≡ u.bytes.items → size ≤ length (unread_bytes u)
    → judged (nat_lt 4294967296 (u.before + size)) (line_item (take (u.taken + size - u.taken) (drop u.taken bytes)))
    ≡ judged (passes_limit (standing u) (take size (unread_bytes u))) (line_item (take size (unread_bytes u)))
judged-slice u bytes size same within =
    let over = nat_lt 4294967296 (u.before + size) in
    let back : u.taken + size - u.taken ≡ size = omega arith in
    ap (λ (l : List ℕ). judged over (line_item (take (u.taken + size - u.taken) (drop u.taken l)))) same
    ∙ ap (λ n. judged over (line_item (take n (unread_bytes u)))) back
    ∙ ap (λ n. judged (nat_lt 4294967296 (u.before + n)) (line_item (take size (unread_bytes u)))) (sym (length-take-le size (unread_bytes u) within))

pub returns-in_err-head-clause-judged : goal.returns-in_err-head-clause-judged
returns-in_err-head-clause-judged c =
    let p = err_from_is_err_and c.from_residual.result c.from_residual.ensures.1 in
    rw (p.1, p.2, ← judged-slice c.args.unread.now c.deref.result.now c.args.size c.deref.ensures.value c.requires.within) c.in_err-head.ensures.judged

pub returns-clause-judged : goal.returns-clause-judged
returns-clause-judged c =
    sym (judged-slice c.args.unread.now c.deref.result.now c.args.size c.deref.ensures.value c.requires.within) ∙ c.in_ok-head.ensures.judged
