-- What holds at a moment of the machine after all receipts.
use Rattle.std.proofs.Common.{◌≡◌, ℕ, List, [], ◌∷◌, ◌++◌, Some, Option, refl, sym, ap, ◌∙◌, subst}
use Rattle.xf_types.specs.declared.call.Receipt.{Receipt}
use Rattle.xf_types.specs.declared.state.Sa.{Sa}
use Rattle.xf_types.specs.Machine.{Machine}
use Rattle.xf_types.specs.Moves.{after_moves}
use Rattle.xf_types.specs.History.{IsLegalFrom, beginning, machine_next, machine_of}
use Rattle.xf_types.specs.IsMachine.{IsMachine, IsShownPart}
use Rattle.xf_laws.proofs.FoldLemmas.{folded-from}
use Rattle.xf_laws.proofs.MachineLemmas.{moments-kept}
use Rattle.xf_late.proofs.Late.{moment-joins}
use Rattle.xf_views.specs.Log.{Mark, mark, receipts_of, moves}
use Rattle.xf_views.proofs.Logs.{receipts-append}
use Rattle.xf_invariant.specs.Meaning.{Told, told, told_after, told_after_moves, Opens}
use Rattle.xf_ownpart.specs.Lists.{ListsStates, IsListing}
use Rattle.xf_ownpart.specs.OwnLaws.{IsStart, Shift, last_of}

-- what is shown after moves, of what is told after them
told-shown : (bucket_of : Sa → ℕ) (t : Told) (rs : List Receipt) → (told_after_moves bucket_of t rs).shown ≡ after_moves t.shown rs
told-shown bucket_of t [] = refl
told-shown bucket_of t (r ∷ rs) = told-shown bucket_of (told_after bucket_of t r) rs

module _ (bucket_of : Sa → ℕ) (good : List ℕ → Told → Type 0) (lists : List ℕ → ℕ → Option (Sa × ℕ)) (base : List ℕ) (start : Machine) (opens : IsStart bucket_of good lists base start) where
  pub opened : Opens good base (told start.shown opens.ids)
  opened = (start, opens.machine, refl, opens.stands)

  -- the machine after a legal log is one
  pub machine-after : (log : List Mark) → IsMachine (machine_of start (receipts_of log))
  machine-after log = moments-kept (beginning start) (receipts_of log) opens.machine

  pub shown-after : (log : List Mark) → IsLegalFrom (beginning start) (receipts_of log) → after_moves start.shown (moves log) ≡ (machine_of start (receipts_of log)).shown
  shown-after log legal = folded-from (beginning start) (receipts_of log) opens.machine legal

  -- so does what is told after the moves
  pub told-after : (log : List Mark) → IsLegalFrom (beginning start) (receipts_of log)
      → (told_after_moves bucket_of (told start.shown opens.ids) (moves log)).shown ≡ (machine_of start (receipts_of log)).shown
  told-after log legal = told-shown bucket_of (told start.shown opens.ids) (moves log) ∙ shown-after log legal

  -- an image that stands for what the moves make of what the start shows lists its states
  pub lists-after : IsListing good lists → (log : List Mark) (image : List ℕ) → IsLegalFrom (beginning start) (receipts_of log)
      → good image (told_after_moves bucket_of (told start.shown opens.ids) (moves log)) → ListsStates lists image (machine_of start (receipts_of log)).shown
  lists-after all log image legal stands =
      let t = told_after_moves bucket_of (told start.shown opens.ids) (moves log) in
      let same : t.shown ≡ (machine_of start (receipts_of log)).shown = told-shown bucket_of (told start.shown opens.ids) (moves log) ∙ shown-after log legal in
      subst (ListsStates lists image) same (all image t (subst IsShownPart (sym same) (machine-after log).shown) stands)

-- the machine after one receipt more
pub next-after : (start : Machine) (log : List Mark) (k : ℕ) (sid : Option ℕ) (r : Receipt)
    → machine_of start (receipts_of (log ++ mark k sid (Some r) ∷ [])) ≡ machine_next (machine_of start (receipts_of log)) r
next-after start log k sid r =
    ap (machine_of start) (receipts-append log (mark k sid (Some r)))
    ∙ ap (λ t. t.machine) (moment-joins (beginning start) (receipts_of log) (r ∷ []))

-- at a moment
module _ (bucket_of : Sa → ℕ) (good : List ℕ → Told → Type 0) (lists : List ℕ → ℕ → Option (Sa × ℕ)) (all : IsListing good lists) (most : ℕ) (base : List ℕ) (start : Machine) (w : Shift bucket_of good lists most base start) where
  pub last-is : IsMachine (last_of bucket_of good lists most base start w)
  last-is = machine-after bucket_of good lists base start w.opens w.scene.log

  pub lists-now : ListsStates lists w.scene.settled (last_of bucket_of good lists most base start w).shown
  lists-now =
      lists-after bucket_of good lists base start w.opens all w.scene.log w.scene.settled w.legal.replies
      (w.scene.image.stands (told start.shown w.opens.ids) (opened bucket_of good lists base start w.opens))
