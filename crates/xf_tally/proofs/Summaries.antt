-- Summaries with one receipt more, with more lines, and of receipts in another order.
use Rattle.std.proofs.Common.{◌≡◌, ℕ, ◌+◌, Bool, cond, List, [], ◌∷◌, ◌++◌, refl, ap, sym, ◌∙◌}
use Rattle.std.specs.List.Sorted.{IsPermutation}
use Rattle.std.proofs.lemmas.List.{length_push}
use Rattle.std.proofs.lemmas.List.Sorted.{length_permutation, sum_by-IsPermutation}
use Rattle.std.proofs.lemmas.List.Sums.{sum_by_push}
use Rattle.xf_types.specs.declared.call.Receipt.{Receipt}
use Rattle.xf_types.specs.declared.call.Reply.{Reply}
use Rattle.xf_types.specs.Codes.{is_refusal_of}
use Rattle.xf_tally.specs.Summary.{Summary, has_policy, has_none, is_sent, is_accepted, is_dropped, mix_of, count_of, summary_of, with_one, counted}

-- one receipt more of a kind, or not
count_of-push : (test : Reply → Bool) (h : List Receipt) (r : Receipt) → count_of test (h ++ r ∷ []) ≡ with_one (test r.reply) (count_of test h)
count_of-push test h r = sum_by_push (λ (q : Receipt). cond (test q.reply) 1 0) h r

-- one receipt more
pub counted-more : (lines : ℕ) (h : List Receipt) (r : Receipt) → counted (summary_of lines h) r.at.line r.reply ≡ summary_of lines (h ++ r ∷ [])
unfolding summary_of
counted-more lines h r = λ i. record {
  lines = lines;
  calls = sym (length_push h r) i;
  policy = sym (count_of-push has_policy h r) i;
  none = sym (count_of-push has_none h r) i;
  sent = sym (count_of-push is_sent h r) i;
  accepted = sym (count_of-push is_accepted h r) i;
  dropped = sym (count_of-push is_dropped h r) i;
  refused = sym (count_of-push is_refusal_of h r) i;
  mix = sym (sum_by_push (λ (q : Receipt). mix_of q.at.line q.reply) h r) i;
}

-- more lines
pub lines-more : (lines count : ℕ) (h : List Receipt) → record (summary_of lines h) { lines = (summary_of lines h).lines + count } ≡ summary_of (lines + count) h
unfolding summary_of
lines-more lines count h = refl

-- so it is for a summary that is known to be that of the receipts before
pub counted-next : (s : Summary) (line : ℕ) (q : Reply) (lines : ℕ) (h : List Receipt) (r : Receipt) → r.at.line ≡ line → r.reply ≡ q
    → s ≡ summary_of lines h → counted s line q ≡ summary_of lines (h ++ r ∷ [])
counted-next s line q lines h r at_line of_reply is =
    ap (λ (x : Summary). counted x line q) is ∙ ap (λ n. counted (summary_of lines h) n q) (sym at_line)
    ∙ ap (counted (summary_of lines h) r.at.line) (sym of_reply) ∙ counted-more lines h r

-- the same receipts in another order
pub summary-order : (lines : ℕ) (g h : List Receipt) → IsPermutation g h → summary_of lines h ≡ summary_of lines g
unfolding summary_of
summary-order lines g h same = λ i. record {
  lines = lines;
  calls = length_permutation g h same i;
  policy = counts has_policy i;
  none = counts has_none i;
  sent = counts is_sent i;
  accepted = counts is_accepted i;
  dropped = counts is_dropped i;
  refused = counts is_refusal_of i;
  mix = sum_by-IsPermutation (λ (q : Receipt). mix_of q.at.line q.reply) g h same i;
}
  where
    counts : (test : Reply → Bool) → count_of test h ≡ count_of test g
    counts test = sum_by-IsPermutation (λ (q : Receipt). cond (test q.reply) 1 0) g h same
