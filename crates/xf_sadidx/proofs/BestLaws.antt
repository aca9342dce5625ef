-- The best of a chain is the best of the list.
use Rattle.std.proofs.Common.{◌≡◌, ℕ, Bool, true, false, cond, List, [], ◌∷◌, Option, None, Some, filter, reverse, refl, ap, ◌∙◌}
use Rattle.xf_types.specs.declared.state.Sa.{Sa}
use Rattle.xf_types.specs.Candidates.{best_state}
use Rattle.xf_chain.specs.Chains.{slots_of}
use Rattle.xf_index.specs.Indexes.{records_in, is_number, picked, Holds}
use Rattle.xf_index.specs.Finds.{slot_found, record_found}
use Rattle.xf_index.proofs.Entries.{records_reverse}
use Rattle.xf_index.proofs.Picks.{is_own}
use Rattle.xf_asked.proofs.FieldLaws.{added_is, dying_is}
use Rattle.xf_doubling.specs.Heads.{head_number, head_of}
use Rattle.xf_sadidx.specs.declared.area.StateArea.{StateArea}
use Rattle.xf_sadidx.specs.declared.best.Seen.{Seen}
use Rattle.xf_sadidx.specs.declared.kind.Kind.{Kind}
use Rattle.xf_sadidx.specs.declared.query.StateQuery.{StateQuery}
use Rattle.xf_sadidx.specs.Layout.{record_place, record_at, doubling_in}
use Rattle.xf_sadidx.specs.Keys.{key_of}
use Rattle.xf_sadidx.specs.Queries.{meets}
use Rattle.xf_sadidx.specs.Standing.{head_by, StatesIndexed, RecordsStand}
use Rattle.xf_sadidx.specs.Founds.{hash_chain}
use Rattle.xf_sadidx.specs.Bests.{seen_in, better, best_from, slot_seen, beats, better_entry, best_of, best_in}
use Rattle.xf_sadidx.proofs.AskedLaws.{meets_is}
use Rattle.xf_sadidx.proofs.FoundLaws.{hash_walk}
use Rattle.xf_sadidx.proofs.Reverses.{holds_reverse, filter_reverse}
use Rattle.xf_sadidx.proofs.Runs.{run, run_from, run_best}

-- ---- the words tell what the entries do

abbrev seen_of : ℕ × Sa → Seen
seen_of e = record { slot = e.0; dying = e.1.dying; added = e.1.added }

abbrev seen_if : Option (ℕ × Sa) → Option Seen
seen_if None = None
seen_if (Some e) = Some (seen_of e)

slot_is : (o : Option (ℕ × Sa)) → slot_seen (seen_if o) ≡ slot_found o
slot_is None = refl
slot_is (Some e) = refl

better_is : (best : Option (ℕ × Sa)) (e : ℕ × Sa) → better (seen_if best) (seen_of e) ≡ seen_of (better_entry best e)
better_is None e = refl
better_is (Some b) e = either (beats e.1 b.1)
  where
    either : (k : Bool) → cond k (seen_of e) (seen_of b) ≡ seen_of (cond k e b)
    either true = refl
    either false = refl

seen_is : (a : StateArea) (image : List ℕ) (e : ℕ × Sa) → record_at a image e.0 ≡ Some e.1 → seen_in a image e.0 ≡ seen_of e
seen_is a image e h = rw (dying_is image (record_place a e.0) e.1 h, added_is image (record_place a e.0) e.1 h) refl

module _ (a : StateArea) (image : List ℕ) (query : StateQuery) where
  step : (best : Option (ℕ × Sa)) (e : ℕ × Sa) (slots : List ℕ) (es : List (ℕ × Sa)) (b t : Bool) → record_at a image e.0 ≡ Some e.1 → meets query e.1 ≡ t → (t ≡ true → b ≡ true)
      → ((best : Option (ℕ × Sa)) → best_from a image query (seen_if best) slots ≡ seen_if (best_of (meets query) best es))
      → best_from a image query (seen_if best) (cond b (e.0 ∷ slots) slots) ≡ seen_if (best_of (meets query) (cond t (Some (better_entry best e)) best) es)
  step best e slots es true true h m f next =
      let same : Some (better (seen_if best) (seen_in a image e.0)) ≡ seen_if (Some (better_entry best e)) =
      ap (λ n. Some (better (seen_if best) n)) (seen_is a image e h) ∙ ap (λ n. Some n) (better_is best e) in
      ap (λ (k : Bool). best_from a image query (cond k (Some (better (seen_if best) (seen_in a image e.0))) (seen_if best)) slots) (meets_is a image query e.0 e.1 h ∙ m)
      ∙ ap (λ o. best_from a image query o slots) same ∙ next (Some (better_entry best e))
  step best e slots es true false h m f next =
      ap (λ (k : Bool). best_from a image query (cond k (Some (better (seen_if best) (seen_in a image e.0))) (seen_if best)) slots) (meets_is a image query e.0 e.1 h ∙ m)
      ∙ next best
  step best e slots es false true h m f next = absurd (let g : false ≡ true = f refl in cc)
  step best e slots es false false h m f next = next best

  best_picked : (key : Sa → Option ℕ) (number : ℕ) (es : List (ℕ × Sa)) (best : Option (ℕ × Sa)) → Holds (λ slot. record_at a image slot) (λ s. Some s) es
      → ((s : Sa) → meets query s ≡ true → key s ≡ Some number)
      → best_from a image query (seen_if best) (picked key number es) ≡ seen_if (best_of (meets query) best es)
  best_picked key number [] best h own = refl
  best_picked key number (e ∷ es) best h own =
      step best e (picked key number es) es (is_number number (key e.1)) (meets query e.1) h.0 refl
      (λ m. ap (λ o. is_number number o) (own e.1 m) ∙ is_own number) (λ more. best_picked key number es more h.1 own)

pub best_is : (a : StateArea) (image : List ℕ) (kind : Kind) (hash : ℕ) (query : StateQuery) (entries : List (ℕ × Sa))
    → ((s : Sa) → meets query s ≡ true → key_of kind s ≡ Some hash) → StatesIndexed a image entries → RecordsStand a image entries
    → slot_seen (best_from a image query None (slots_of (hash_chain a image kind hash) image)) ≡ slot_found (best_in (meets query) entries)
best_is a image kind hash query entries own st records =
    let half : ℕ = (doubling_in a image).half in
    let moved : ℕ = (doubling_in a image).moved in
    ap (λ slots. slot_seen (best_from a image query None slots)) (hash_walk a image kind hash entries st)
    ∙ ap slot_seen (best_picked a image query (head_by half moved kind) (head_number half moved hash) (reverse entries) None
    (holds_reverse (λ slot. record_at a image slot) (λ s. Some s) entries records) (λ s m. ap (head_of half moved) (own s m)))
    ∙ slot_is (best_in (meets query) entries)

-- ---- the entries tell what the list does

run_step : (test : Sa → Bool) (best : Option (ℕ × Sa)) (e : ℕ × Sa) (es : List (ℕ × Sa)) (t : Bool)
    → ((best : Option (ℕ × Sa)) → record_found (best_of test best es) ≡ run_from (record_found best) (filter test (records_in es)))
    → record_found (best_of test (cond t (Some (better_entry best e)) best) es)
    ≡ run_from (record_found best) (cond t (e.1 ∷ filter test (records_in es)) (filter test (records_in es)))
run_step test None e es true next = next (Some e)
run_step test (Some b) e es true next = next (Some (better_entry (Some b) e)) ∙ either (beats e.1 b.1)
  where
    either : (k : Bool) → run_from (record_found (Some (cond k e b))) (filter test (records_in es)) ≡ Some (run (cond k e.1 b.1) (filter test (records_in es)))
    either true = refl
    either false = refl
run_step test best e es false next = next best

run_is : (test : Sa → Bool) (es : List (ℕ × Sa)) (best : Option (ℕ × Sa)) → record_found (best_of test best es) ≡ run_from (record_found best) (filter test (records_in es))
run_is test [] None = refl
run_is test [] (Some b) = refl
run_is test (e ∷ es) best = run_step test best e es (test e.1) (λ more. run_is test es more)

pub best_record : (test : Sa → Bool) (entries : List (ℕ × Sa)) → record_found (best_in test entries) ≡ best_state (filter test (records_in entries))
best_record test entries =
    run_is test (reverse entries) None ∙ ap (λ rs. run_from None (filter test rs)) (records_reverse entries)
    ∙ ap (run_from None) (filter_reverse test (records_in entries)) ∙ run_best (filter test (records_in entries))
