-- The lists of all workers are the parts of the history.
use Rattle.std.proofs.Common.{◌≡◌, ℕ, zero, suc, ◌<◌, ◌==◌, Bool, true, false, List, [], ◌∷◌, length, cond, Some, None, Option, refl, sym, ap, ◌∙◌, arith}
use Rattle.std.specs.Prelude.{All, if◌then◌else◌}
use mathlib.Core.Option.{some, some-injective}
use mathlib.Core.Logic.{dite}
use native.Mathlib.Decide.{ℕ_discrete}
use lib.ListN.{get_elem?}
use Rattle.std.proofs.lemmas.List.Elements.{All-nil, All-cons}
use Rattle.xf_types.specs.declared.call.Receipt.{Receipt}
use Rattle.xf_views.specs.Log.{Mark, with_receipt, receipts_of, by_worker}
use Rattle.xf_seats.specs.LifePart.{HasGathered}
use Rattle.xf_seats.specs.Ends.{of_worker, lists_of, Ending, EndSays}

-- each receipt is by its mark's worker
abbrev AreNamed : List Mark → Type 0
AreNamed log = (x : ℕ) (m : Mark) (r : Receipt) → get_elem? log x ≡ some m → m.receipt ≡ Some r → r.worker ≡ m.by

one_worker : (k by : ℕ) (o : Option Receipt) (rs : List Receipt) → ((r : Receipt) → o ≡ Some r → r.worker ≡ by)
    → (if by == k then with_receipt o (of_worker k rs) else of_worker k rs) ≡ of_worker k (with_receipt o rs)
one_worker k by None rs named = either (by == k)
  where
    either : (b : Bool) → (if b then of_worker k rs else of_worker k rs) ≡ of_worker k rs
    either true = refl
    either false = refl
one_worker k by (Some r) rs named = ap (λ n. cond (n == k) (r ∷ of_worker k rs) (of_worker k rs)) (sym (named r refl))

by_worker-is : (k : ℕ) (log : List Mark) → AreNamed log → by_worker k log ≡ of_worker k (receipts_of log)
by_worker-is k [] named = refl
by_worker-is k (m ∷ ms) named =
    ap (λ (l : List Receipt). if m.by == k then with_receipt m.receipt l else l) (by_worker-is k ms (λ x u r e q. named (suc x) u r e q))
    ∙ one_worker k m.by m.receipt (receipts_of ms) (λ r e. named zero m r refl e)

all_with : (P : Receipt → Type 0) (o : Option Receipt) (rs : List Receipt) → ((r : Receipt) → o ≡ Some r → P r) → All P rs → All P (with_receipt o rs)
all_with P None rs p all = all
all_with P (Some r) rs p all = All-cons P r rs (p r refl) all

all_receipts : (P : Receipt → Type 0) (log : List Mark) → ((x : ℕ) (m : Mark) (r : Receipt) → get_elem? log x ≡ some m → m.receipt ≡ Some r → P r) → All P (receipts_of log)
all_receipts P [] p = All-nil P
all_receipts P (m ∷ ms) p = all_with P m.receipt (receipts_of ms) (λ r e. p zero m r refl e) (all_receipts P ms (λ x u r e q. p (suc x) u r e q))

-- a seat's own receipts, and those that it took in
lists_at : (log : List Mark) (mine : List Receipt) (gathered : List (List Receipt)) → mine ≡ by_worker 0 log → HasGathered gathered log
    → (k : ℕ) (l : List Receipt) → get_elem? (mine ∷ gathered) k ≡ some l → l ≡ by_worker k log
lists_at log mine gathered own took zero l e = sym (some-injective mine l e) ∙ own
lists_at log mine gathered own took (suc k) l e = took k l e ∙ ap (λ n. by_worker n log) (omega arith)

module _ (most : ℕ) (e : Ending most) where
  pub end_has_all : EndSays most e
  end_has_all =
      let m = e.age.moment in
      let v = m.view in
      let f = e.age.life.each m.seat v m.there m.here in
      let makes = f.makes e.makes in
      let next : v.life.next ≡ m.made = makes.0 in
      let worker : v.worker ≡ 0 = makes.1 in
      let has = e.has_all in
      let named : AreNamed m.log = λ x u r at is. (m.holds.numbered x u r at is).1 in
      let own : v.knows.mine ≡ by_worker 0 m.log = (m.holds.each m.seat v m.there m.here).mine ∙ ap (λ k. by_worker k m.log) worker in
      record {
        parts = record {
          each = λ k l at. lists_at m.log v.knows.mine v.life.gathered own f.took k l at ∙ by_worker-is k m.log named;
          all = all_receipts (λ r. r.worker < length (lists_of v)) m.log
              (λ x u r at is. let same = named x u r at is in let low = m.holds.marks_made x u at in omega arith);
        };
        alone = λ j u is.
            let low = (m.holds.each j u is.there is.here).worker in
            dite (ℕ_discrete j m.seat) (λ same. same)
            (λ apart. absurd (dite (ℕ_discrete (length v.life.gathered) 0)
            (λ none. apart (m.holds.one_seat j m.seat u v is.there m.there is.here m.here (omega arith)))
            (λ some_in. let far = (e.age.life.gone m.seat j v u m.there is.there m.here is.here (omega arith)).1 apart in omega arith)));
      }
