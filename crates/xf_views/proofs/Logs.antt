-- What a mark at the end does to the receipts and the counts.
use Rattle.std.proofs.Common.{◌≡◌, ◌≢◌, ℕ, ◌+◌, Bool, true, false, List, [], ◌∷◌, ◌++◌, Some, None, Option, refl, ap, ◌∙◌, arith, eq-eqb, ne_eqb}
use Rattle.std.specs.Prelude.{if◌then◌else◌, ◌==◌}
use Rattle.std.proofs.lemmas.List.{append-nil}
use Rattle.xf_types.specs.declared.call.Receipt.{Receipt}
use Rattle.xf_types.specs.Moves.{is_moving, moves_of}
use Rattle.xf_views.specs.Log.{Mark, mark, with_receipt, receipts_of, moves, by_worker, tickets_of, marks_of}

with-append : (o : Option Receipt) (a c : List Receipt) → with_receipt o (a ++ c) ≡ with_receipt o a ++ c
with-append None a c = refl
with-append (Some r) a c = refl

pub if-append : (b : Bool) (o : Option Receipt) (a c : List Receipt) → (if b then with_receipt o (a ++ c) else (a ++ c)) ≡ (if b then with_receipt o a else a) ++ c
if-append true o a c = with-append o a c
if-append false o a c = refl

pub own-append : (k : ℕ) (log : List Mark) (m : Mark) → by_worker k (log ++ m ∷ []) ≡ by_worker k log ++ (if m.by == k then with_receipt m.receipt [] else [])
own-append k [] m = refl
own-append k (x ∷ xs) m = ap (λ (l : List Receipt). if x.by == k then with_receipt x.receipt l else l) (own-append k xs m) ∙ if-append (x.by == k) x.receipt (by_worker k xs) (if m.by == k then with_receipt m.receipt [] else [])

pub own-mine : (k : ℕ) (log : List Mark) (s : Option ℕ) (o : Option Receipt) → by_worker k (log ++ mark k s o ∷ []) ≡ by_worker k log ++ with_receipt o []
own-mine k log s o = own-append k log (mark k s o) ∙ ap (λ (b : Bool). by_worker k log ++ (if b then with_receipt o [] else [])) (eq-eqb k k refl)

pub own-other : (k j : ℕ) (log : List Mark) (s : Option ℕ) (o : Option Receipt) → j ≢ k → by_worker k (log ++ mark j s o ∷ []) ≡ by_worker k log
own-other k j log s o other = own-append k log (mark j s o) ∙ (ap (λ (b : Bool). by_worker k log ++ (if b then with_receipt o [] else [])) (ne_eqb j k other) ∙ append-nil (by_worker k log))

pub receipts-append : (log : List Mark) (m : Mark) → receipts_of (log ++ m ∷ []) ≡ receipts_of log ++ with_receipt m.receipt []
receipts-append [] m = refl
receipts-append (x ∷ xs) m = ap (with_receipt x.receipt) (receipts-append xs m) ∙ with-append x.receipt (receipts_of xs) (with_receipt m.receipt [])

move-if : (b : Bool) (r : Receipt) (a c : List Receipt) → (if b then r ∷ (a ++ c) else (a ++ c)) ≡ (if b then r ∷ a else a) ++ c
move-if true r a c = refl
move-if false r a c = refl

pub moves_of-append : (rs qs : List Receipt) → moves_of (rs ++ qs) ≡ moves_of rs ++ moves_of qs
moves_of-append [] qs = refl
moves_of-append (r ∷ rs) qs = ap (λ (l : List Receipt). if is_moving r.reply then r ∷ l else l) (moves_of-append rs qs) ∙ move-if (is_moving r.reply) r (moves_of rs) (moves_of qs)

pub moves-append : (log : List Mark) (k : ℕ) (s : Option ℕ) (o : Option Receipt) → moves (log ++ mark k s o ∷ []) ≡ moves log ++ moves_of (with_receipt o [])
moves-append log k s o = ap moves_of (receipts-append log (mark k s o)) ∙ moves_of-append (receipts_of log) (with_receipt o [])

pub moves-move : (log : List Mark) (k : ℕ) (s : Option ℕ) (r : Receipt) → is_moving r.reply ≡ true → moves (log ++ mark k s (Some r) ∷ []) ≡ moves log ++ r ∷ []
moves-move log k s r is = moves-append log k s (Some r) ∙ ap (λ (b : Bool). moves log ++ (if b then r ∷ [] else [])) is

pub moves-still : (log : List Mark) (k : ℕ) (s : Option ℕ) (r : Receipt) → is_moving r.reply ≡ false → moves (log ++ mark k s (Some r) ∷ []) ≡ moves log
moves-still log k s r is = moves-append log k s (Some r) ∙ (ap (λ (b : Bool). moves log ++ (if b then r ∷ [] else [])) is ∙ append-nil (moves log))

pub moves-blank : (log : List Mark) (k : ℕ) → moves (log ++ mark k None None ∷ []) ≡ moves log
moves-blank log k = moves-append log k None None ∙ append-nil (moves log)

pub tickets-append : (k : ℕ) (xs : List ℕ) (y : ℕ) → tickets_of k (xs ++ y ∷ []) ≡ tickets_of k xs + (if y == k then 1 else 0)
tickets-append k [] y = omega arith
tickets-append k (x ∷ xs) y = let h = tickets-append k xs y in omega arith

pub marks-append : (k : ℕ) (log : List Mark) (m : Mark) → marks_of k (log ++ m ∷ []) ≡ marks_of k log + (if m.by == k then 1 else 0)
marks-append k [] m = omega arith
marks-append k (x ∷ xs) m = let h = marks-append k xs m in omega arith
