-- The moves since a seat's last receipt, with receipts more.
use Rattle.std.proofs.Common.{◌≡◌, ◌≢◌, ℕ, suc, ◌+◌, ◌-◌, ◌*◌, Bool, true, false, List, [], ◌∷◌, ◌++◌, length, set, take, drop, cond, Some, None, Option, refl, sym, ap, ◌∙◌, length-append, All, arith}
use Rattle.std.specs.Prelude.{if◌then◌else◌}
use Rattle.std.proofs.lemmas.List.Elements.{All-head, All-tail}
use Rattle.std.proofs.lemmas.List.{append-nil}
use mathlib.Core.Option.{some}
use lib.ListN.{get_elem?}
use Rattle.xf_types.specs.declared.call.Receipt.{Receipt}
use Rattle.xf_types.specs.Moves.{is_moving, moves_of}
use Rattle.xf_types.specs.History.{Moment, moves_since, next_moment, moment_of}
use Rattle.xf_late.proofs.Since.{since-other, PastApart, past-more, past-one}
use Rattle.xf_views.specs.Log.{Mark, mark, receipts_of, moves}
use Rattle.xf_views.proofs.Logs.{receipts-append, moves-append}
use Rattle.xf_views.proofs.Late.{moves_settle}
use Rattle.xf_ownpart.proofs.Parts.{receipts-part, receipts-set}
use Rattle.xf_legalpart.specs.AgainPart.{past_after, since, before_last}

pub past-is : (t : Moment) (rs : List Receipt) → (moment_of t rs).past ≡ past_after t.past rs
past-is t [] = refl
past-is t (r ∷ rs) = past-is (next_moment t r) rs

past-joins : (l xs ys : List Receipt) → past_after l (xs ++ ys) ≡ past_after (past_after l xs) ys
past-joins l [] ys = refl
past-joins l (x ∷ xs) ys = past-joins (x ∷ l) xs ys

past-apart : (k : ℕ) (l m rs : List Receipt) → PastApart k l m → PastApart k (past_after l rs) (past_after m rs)
past-apart k l m [] h = h
past-apart k l m (r ∷ rs) h = past-apart k (r ∷ l) (r ∷ m) rs (past-more l m k h r)

-- receipts of others that don't move
pub since-still : (k : ℕ) (l rs : List Receipt) → All (λ r. (is_moving r.reply ≡ false) × (r.worker ≢ k)) rs → moves_since k (past_after l rs) ≡ moves_since k l
since-still k l [] h = refl
since-still k l (r ∷ rs) h =
    let first = All-head (λ (q : Receipt). (is_moving q.reply ≡ false) × (q.worker ≢ k)) r rs h in
    since-still k (r ∷ l) rs (All-tail (λ (q : Receipt). (is_moving q.reply ≡ false) × (q.worker ≢ k)) r rs h)
    ∙ since-other k r l first.1
    ∙ ap (λ (b : Bool). cond b (1 + moves_since k l) (moves_since k l)) first.0

pub since-part : (k : ℕ) (xs ys : List Receipt) → All (λ r. (is_moving r.reply ≡ false) × (r.worker ≢ k)) ys → moves_since k (past_after [] (xs ++ ys)) ≡ moves_since k (past_after [] xs)
since-part k xs ys h = ap (moves_since k) (past-joins [] xs ys) ∙ since-still k (past_after [] xs) ys h

more-length : (b : Bool) (ms : List Receipt) (r : Receipt) (n : ℕ) → length (ms ++ (if b then r ∷ [] else [])) - cond b (1 + n) n ≡ length ms - n
more-length true ms r n = let e = length-append ms (r ∷ []) in omega arith
more-length false ms r n = ap (λ (l : List Receipt). length l - n) (append-nil ms)

-- a receipt of another, at the end: as many moves stand before the last own one
pub before-other : (k j : ℕ) (log : List Mark) (one : Option ℕ) (r : Receipt) → r.worker ≢ k → before_last k (log ++ mark j one (Some r) ∷ []) ≡ before_last k log
before-other k j log one r other =
    let n = since k log in
    let same : since k (log ++ mark j one (Some r) ∷ []) ≡ cond (is_moving r.reply) (1 + n) n =
    ap (λ (rs : List Receipt). moves_since k (past_after [] rs)) (receipts-append log (mark j one (Some r)))
    ∙ ap (moves_since k) (past-joins [] (receipts_of log) (r ∷ []))
    ∙ since-other k r (past_after [] (receipts_of log)) other in
    ap (λ m. 2 * (length (moves (log ++ mark j one (Some r) ∷ [])) - m)) same
    ∙ ap (λ (ms : List Receipt). 2 * (length ms - cond (is_moving r.reply) (1 + n) n)) (moves-append log j one (Some r))
    ∙ ap (λ m. 2 * m) (more-length (is_moving r.reply) (moves log) r n)

-- a number without a receipt
pub before-blank : (k j : ℕ) (log : List Mark) → before_last k (log ++ mark j None None ∷ []) ≡ before_last k log
before-blank k j log =
    ap (λ (rs : List Receipt). 2 * (length (moves_of rs) - moves_since k (past_after [] rs))) (receipts-append log (mark j None None) ∙ append-nil (receipts_of log))

-- a receipt of another that comes to stand late and doesn't move
pub before-settled : (k j : ℕ) (log : List Mark) (x : ℕ) (one : Option ℕ) (r : Receipt) → get_elem? log x ≡ some (mark j None None) → is_moving r.reply ≡ false → k ≢ r.worker
    → before_last k (set log x (mark j one (Some r))) ≡ before_last k log
before-settled k j log x one r at still other =
    let front = receipts_of (take x log) in
    let rest = receipts_of (drop (suc x) log) in
    let same : since k (set log x (mark j one (Some r))) ≡ since k log =
    ap (λ (rs : List Receipt). moves_since k (past_after [] rs)) (receipts-set log x j one r at)
    ∙ ap (moves_since k) (past-joins [] front (r ∷ rest))
    ∙ sym (past-apart r.worker (past_after [] front) (r ∷ past_after [] front) rest (past-one (past_after [] front) r still) k other)
    ∙ sym (ap (λ (rs : List Receipt). moves_since k (past_after [] rs)) (receipts-part log x j at) ∙ ap (moves_since k) (past-joins [] front rest)) in
    ap (λ m. 2 * (length (moves (set log x (mark j one (Some r)))) - m)) same
    ∙ ap (λ (ms : List Receipt). 2 * (length ms - since k log)) (moves_settle j log x one r at still)
