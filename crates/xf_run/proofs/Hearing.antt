-- What a text has heard.
use Rattle.std.proofs.Common.{◌≡◌, ℕ, ◌+◌, List, [], ◌∷◌, ◌++◌, refl, sym, ap, ◌∙◌, append-nil, append_assoc}
use Rattle.xf_print.specs.Receipts.{answer_text}
use Rattle.xf_run.specs.Heard.{Heard, Text, Sums, hears}
use Rattle.xf_types.specs.declared.call.Receipt.{Receipt}
use Rattle.xf_tally.specs.Summary.{Summary, summary_of, counted}
use Rattle.xf_tally.proofs.Summaries.{counted-more}
use Rattle.xf_run.specs.Turns.{Turn, turns_text, receipt_of, receipts_from}

-- the lines of the turns stand behind it
hears-text : (text : List ℕ) (ts : List Turn) → hears (Text text) ts ≡ Text (text ++ turns_text ts)
hears-text text [] = ap Text (sym (append-nil text))
hears-text text (t ∷ ts) =
    hears-text (text ++ answer_text t.at t.reply) ts ∙ ap Text (append_assoc text (answer_text t.at t.reply) (turns_text ts))

-- the text that was heard
abbrev text_in : Heard → List ℕ
text_in (Text text) = text
text_in (Sums sums) = []

-- a text that was empty has the lines of the turns
pub heard-text : (old new : List ℕ) (ts : List Turn) → old ≡ [] → Text new ≡ hears (Text old) ts → new ≡ turns_text ts
heard-text old new ts e h =
    ap text_in (h ∙ hears-text old ts) ∙ ap (λ (x : List ℕ). x ++ turns_text ts) e

-- the numbers that were counted
abbrev sums_in : Heard → Summary
sums_in (Text text) = summary_of 0 []
sums_in (Sums sums) = sums

-- the numbers of receipts have those of the turns behind them
pub hears-sums : (lines n : ℕ) (rs : List Receipt) (ts : List Turn) → hears (Sums (summary_of lines rs)) ts ≡ Sums (summary_of lines (rs ++ receipts_from n ts))
hears-sums lines n rs [] = ap (λ (x : List Receipt). Sums (summary_of lines x)) (sym (append-nil rs))
hears-sums lines n rs (t ∷ ts) =
    let r : Receipt = receipt_of n t in
    ap (λ (s : Summary). hears (Sums s) ts) (counted-more lines rs r)
    ∙ hears-sums lines (n + 1) (rs ++ r ∷ []) ts
    ∙ ap (λ (x : List Receipt). Sums (summary_of lines x)) (append_assoc rs (r ∷ []) (receipts_from (n + 1) ts))

-- and so have those that were counted
pub heard-sums : (lines : ℕ) (rs : List Receipt) (old new : Summary) (ts : List Turn) → old ≡ summary_of lines rs → Sums new ≡ hears (Sums old) ts
    → new ≡ summary_of lines (rs ++ receipts_from 0 ts)
heard-sums lines rs old new ts e h =
    ap sums_in (h ∙ ap (λ (s : Summary). hears (Sums s) ts) e ∙ hears-sums lines 0 rs ts)

-- replies change no count of lines
hears-lines : (s : Summary) (ts : List Turn) → (sums_in (hears (Sums s) ts)).lines ≡ s.lines
hears-lines s [] = refl
hears-lines s (t ∷ ts) = hears-lines (counted s t.at.line t.reply) ts

pub heard-lines : (old new : Summary) (ts : List Turn) → Sums new ≡ hears (Sums old) ts → new.lines ≡ old.lines
heard-lines old new ts h = ap (λ (x : Heard). (sums_in x).lines) h ∙ hears-lines old ts
