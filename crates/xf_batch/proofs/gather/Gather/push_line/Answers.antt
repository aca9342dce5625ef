use Rattle.std.proofs.Common.{◌≡◌, ◌+◌, ◌%◌, true, false, Bool, cond, length, get_or, set, sym, ◌∙◌, refl, ap, rules}
use mir.Val.{bool_byte}
use Rattle.xf_batch.proofs.Gathered.{Puts-call}
use Rattle.xf_batch.proofs.gather.Gather.push_line.Goals as goal

byte_of : (b : Bool) → bool_byte b ≡ cond b 1 0
byte_of true = refl
byte_of false = refl

pub returns : goal.returns
returns c = λ workers g before.
    let s = c.args.self.now in
    let count : c.len.result ≡ length s.threads.items = search rules in
    let old = c.index_mut.result.now in
    Puts-call workers s _ g c.args.line (record { line = c.args.line; job = c.args.job }) old c.push.new.self c.requires
    (sym c.is_full.ensures ∙ c.if-is_full.false)
    (c.index_mut.ensures.value ∙ ap (λ k. get_or s.threads.items (s.worker % k) old) count)
    c.in_ok-push.ensures.items
    (ap (λ k. set s.threads.items (s.worker % k) c.push.new.self) count)
    refl refl
    (ap (λ k. s.lists + k) (c.from.ensures ∙ byte_of c.is_list-lists.result ∙ ap (λ b. cond b 1 0) c.is_list-lists.ensures))
    before
