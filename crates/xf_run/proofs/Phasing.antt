-- Turns phase by phase.
use Rattle.std.proofs.Common.{◌≡◌, List, [], ◌∷◌, ◌++◌, map, refl, sym, ap, subst, ◌∙◌, append-nil, append_assoc}
use Rattle.xf_types.specs.declared.call.Receipt.{Receipt}
use Rattle.xf_types.specs.Batch.{WorkerLine, Runs, calls_of_thread}
use Rattle.xf_types.specs.Machine.{Machine}
use Rattle.xf_run.specs.Turns.{Turn, Lead, receipts_from}

-- they lead from one machine to another
abbrev pub Leads : Machine → List (List Turn) → Machine → Type 0
Leads before [] after = before ≡ after
Leads before (ts ∷ tss) after = (mid : Machine) × Lead before ts mid × Leads mid tss after

-- they are those of the phases on one thread
abbrev pub AreRuns : List (List WorkerLine) → List (List Turn) → Type 0
AreRuns [] [] = Unit {0}
AreRuns [] (ts ∷ tss) = ⊥
AreRuns (p ∷ ps) [] = ⊥
AreRuns (p ∷ ps) (ts ∷ tss) = Runs (calls_of_thread 1 p 0) (receipts_from 0 ts) × AreRuns ps tss

-- the histories of the phases
abbrev pub histories_of : List (List Turn) → List (List Receipt)
histories_of tss = map (receipts_from 0) tss

-- the turns of all phases
abbrev pub all_turns : List (List Turn) → List Turn
all_turns [] = []
all_turns (ts ∷ tss) = ts ++ all_turns tss

-- one more phase leads on
pub Leads-more : (m mid end : Machine) (tss : List (List Turn)) (ts : List Turn) → Leads m tss mid → Lead mid ts end
    → Leads m (tss ++ ts ∷ []) end
Leads-more m mid end [] ts l k = (end, subst (λ (x : Machine). Lead x ts end) (sym l) k, refl)
Leads-more m mid end (us ∷ tss) ts l k = (l.0, l.1, Leads-more l.0 mid end tss ts l.2 k)

-- one more phase is run
pub AreRuns-more : (ps : List (List WorkerLine)) (p : List WorkerLine) (tss : List (List Turn)) (ts : List Turn) → AreRuns ps tss
    → Runs (calls_of_thread 1 p 0) (receipts_from 0 ts) → AreRuns (ps ++ p ∷ []) (tss ++ ts ∷ [])
AreRuns-more [] p [] ts r k = (k, tt)
AreRuns-more [] p (us ∷ tss) ts r k = absurd r
AreRuns-more (q ∷ ps) p [] ts r k = absurd r
AreRuns-more (q ∷ ps) p (us ∷ tss) ts r k = (r.0, AreRuns-more ps p tss ts r.1 k)

-- and its turns stand behind the others
pub all_turns-more : (tss : List (List Turn)) (ts : List Turn) → all_turns (tss ++ ts ∷ []) ≡ all_turns tss ++ ts
all_turns-more [] ts = append-nil ts
all_turns-more (us ∷ tss) ts =
    ap (λ (xs : List Turn). us ++ xs) (all_turns-more tss ts) ∙ sym (append_assoc us (all_turns tss) ts)
