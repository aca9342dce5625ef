use Rattle.std.proofs.Common.{◌≡◌, inl, inr, ℕ, ◌+◌, ◌<◌, ◌≤◌, true, false, List, [], ◌∷◌, ◌++◌, length, take, drop, get_or, arith, sym, ap, ◌∙◌, length-take-le}
use Rattle.std.proofs.lemmas.List.{take_all, drop_all, append-nil}
use Rattle.std.proofs.lemmas.Bool.Decides.{nat_tests}
use Rattle.xf_lex.specs.declared.quoting.Quoting.TheVariants.{Bare}
use Rattle.xf_lex.specs.LogicalLines.{lines_of}
use Rattle.xf_batch.specs.LineEnds.{IsLineEnd, IsUnfinished, ends_at, ends_within, lines_in}
use Rattle.xf_batch.specs.Scans.{quoting_behind}
use Rattle.xf_batch.specs.declared.ends.LineEnd.{LineEnd}
use Rattle.xf_batch.proofs.Lines.{line_ends-at, last_line, ends_within-at, ends_within-more, quoting_behind-more}
use Rattle.xf_batch.proofs.ends.line_end.Goals as goal

extends_to : (bytes : List ℕ) (ended : _) (e : LineEnd) (n : ℕ) → e.bytes ≡ n → 0 < n → n ≤ length bytes → e.lines ≡ lines_in (take n bytes)
    → ((more : List ℕ) → (ended ≡ true → more ≡ []) → lines_of (bytes ++ more) ≡ take n bytes ∷ lines_of (drop n bytes ++ more))
    → IsLineEnd bytes ended e
extends_to bytes ended e n size some within lines first = record {
  some = omega (arith, size, some);
  within = omega (arith, size, within);
  count = lines ∙ ap (λ (k : ℕ). lines_in (take k bytes)) (sym size);
  first = λ more last. first more last ∙ ap (λ (k : ℕ). take k bytes ∷ lines_of (drop k bytes ++ more)) (sym size);
}

no_bytes : (bytes : List ℕ) → 0 < length bytes → bytes ≡ [] → true ≡ false
no_bytes [] some e = absurd (omega (arith, some))
no_bytes (b ∷ bs) some e = cc

pub returns-then-ends_at-clause-end : goal.returns-then-ends_at-clause-end
returns-then-ends_at-clause-end c =
    let bytes = c.args.bytes.now in
    let i = c.loop-i.i in
    let size : c.extent.result.bytes ≡ i + 1 = c.extent.ensures.bytes ∙ length-take-le (i + 1) bytes (omega arith) in
    let ends : ends_at (quoting_behind Bare (take i bytes)) (get_or bytes i 0) ≡ true =
    ap (λ q. ends_at q (get_or bytes i 0)) (sym c.loop-i.invariant.quoting) ∙ sym c.ends_at.ensures ∙ c.if-ends_at.true in
    extends_to bytes c.args.ended c.extent.result (i + 1) size (omega arith) (omega arith) c.extent.ensures.lines
    (λ more last. line_ends-at bytes more i c.loop-i-test.true c.loop-i.invariant.goes_on ends)

pub returns-then-ends_at-clause-none : goal.returns-then-ends_at-clause-none
returns-then-ends_at-clause-none c =
    let bytes = c.args.bytes.now in
    let i = c.loop-i.i in
    let ends : ends_at (quoting_behind Bare (take i bytes)) (get_or bytes i 0) ≡ true =
    ap (λ q. ends_at q (get_or bytes i 0)) (sym c.loop-i.invariant.quoting) ∙ sym c.ends_at.ensures ∙ c.if-ends_at.true in
    let within : ends_within Bare bytes ≡ true = ends_within-at Bare bytes i c.loop-i-test.true ends in
    let unfinished : IsUnfinished bytes c.args.ended → true ≡ false =
    λ u. elim u [ inl e ↦ no_bytes bytes (omega arith) e | inr h ↦ sym within ∙ h.1 ] in
    (λ e. absurd cc, unfinished)

pub loop-i-preserved : goal.loop-i-preserved
loop-i-preserved c =
    let bytes = c.args.bytes.now in
    let i = c.loop-i.i in
    let here : ends_at (quoting_behind Bare (take i bytes)) (get_or bytes i 0) ≡ false =
    ap (λ q. ends_at q (get_or bytes i 0)) (sym c.loop-i.invariant.quoting) ∙ sym c.ends_at.ensures ∙ c.if-ends_at.false in
    let more = quoting_behind-more Bare bytes i c.loop-i-test.true in
    record {
      quoting = cc;
      goes_on = ends_within-more Bare bytes i c.loop-i-test.true c.loop-i.invariant.goes_on here;
    }

pub returns-then-not-is_empty-clause-end : goal.returns-then-not-is_empty-clause-end
returns-then-not-is_empty-clause-end c =
    let bytes = c.args.bytes.now in
    let all : take (length bytes) bytes ≡ bytes = take_all (length bytes) bytes (omega arith) in
    let none : drop (length bytes) bytes ≡ [] = drop_all (length bytes) bytes (omega arith) in
    let past : take c.loop-i.i bytes ≡ bytes = take_all c.loop-i.i bytes c.loop-i-test.false in
    let goes_on : ends_within Bare bytes ≡ false = ap (ends_within Bare) (sym past) ∙ c.loop-i.invariant.goes_on in
    let some : 0 < length bytes = grind (arith, nat_tests) in
    extends_to bytes c.args.ended c.extent-then-not-is_empty.result (length bytes) c.extent-then-not-is_empty.ensures.bytes some (omega arith)
    (c.extent-then-not-is_empty.ensures.lines ∙ ap lines_in (sym all))
    (λ more last.
    ap (λ (m : List ℕ). lines_of (bytes ++ m)) (last c.if-ended.true)
    ∙ ap lines_of (append-nil bytes)
    ∙ last_line bytes goes_on some
    ∙ sym (ap (λ (l : List ℕ). l ∷ lines_of (drop (length bytes) bytes ++ more)) all
    ∙ ap (λ (d : List ℕ). bytes ∷ lines_of (d ++ more)) none
    ∙ ap (λ (m : List ℕ). bytes ∷ lines_of m) (last c.if-ended.true)))
