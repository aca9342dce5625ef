-- The best entry is one of those in the list.
use Rattle.std.proofs.Common.{◌≡◌, ℕ, Bool, true, false, ◌⊎◌, inl, inr, cond, List, [], ◌∷◌, ◌++◌, Option, None, Some, filter, reverse, refl, ap, sym, ◌∙◌, subst}
use Rattle.std.proofs.lemmas.List.{reverse-reverse}
use Rattle.xf_types.specs.declared.state.Sa.{Sa}
use Rattle.xf_types.specs.Candidates.{best_state}
use Rattle.xf_types.specs.Resolution.{hop_of}
use Rattle.xf_index.specs.Indexes.{records_in}
use Rattle.xf_index.specs.Finds.{slot_found, record_found}
use Rattle.xf_index.proofs.Entries.{reverse_within}
use Rattle.xf_sadidx.specs.Bests.{beats, better_entry, best_of, best_in}
use Rattle.xf_sadidx.proofs.BestLaws.{best_record}
use Rattle.xf_sadfind.specs.Paths.{IsHop}

record Listed (e : ℕ × Sa) (es : List (ℕ × Sa)) : Type 0 where
  front : List (ℕ × Sa)
  back : List (ℕ × Sa)
  whole : es ≡ front ++ (e ∷ back)

listed_first : (e x : ℕ × Sa) (es : List (ℕ × Sa)) → x ≡ e → Listed e (x ∷ es)
listed_first e x es same = record { front = []; back = es; whole = ap (λ (y : ℕ × Sa). y ∷ es) same }

listed_later : (e x : ℕ × Sa) (es : List (ℕ × Sa)) → Listed e es → Listed e (x ∷ es)
listed_later e x es l = record { front = x ∷ l.front; back = l.back; whole = ap (λ ys. x ∷ ys) l.whole }

-- the one that was met before, or the new one
either_listed : (best : Option (ℕ × Sa)) (x e : ℕ × Sa) (es : List (ℕ × Sa)) → Some (better_entry best x) ≡ Some e → (best ≡ Some e) ⊎ Listed e (x ∷ es)
either_listed None x e es k = let same : x ≡ e = cc in inr (listed_first e x es same)
either_listed (Some b) x e es k = step (beats x.1 b.1) k
  where
    step : (c : Bool) → Some (cond c x b) ≡ Some e → (Some b ≡ Some e) ⊎ Listed e (x ∷ es)
    step true k = let same : x ≡ e = cc in inr (listed_first e x es same)
    step false k = inl k

best_listed : (test : Sa → Bool) (best : Option (ℕ × Sa)) (es : List (ℕ × Sa)) (e : ℕ × Sa) → best_of test best es ≡ Some e → (best ≡ Some e) ⊎ Listed e es
best_listed test best [] e h = inl h
best_listed test best (x ∷ es) e h = step (test x.1) (λ o k. best_listed test o es e k) h
  where
    later : (c : Bool) → (cond c (Some (better_entry best x)) best ≡ Some e) ⊎ Listed e es → (best ≡ Some e) ⊎ Listed e (x ∷ es)
    later true (inl k) = either_listed best x e es k
    later false (inl k) = inl k
    later c (inr l) = inr (listed_later e x es l)

    step : (c : Bool) → ((o : Option (ℕ × Sa)) → best_of test o es ≡ Some e → (o ≡ Some e) ⊎ Listed e es)
        → best_of test (cond c (Some (better_entry best x)) best) es ≡ Some e → (best ≡ Some e) ⊎ Listed e (x ∷ es)
    step c more k = later c (more (cond c (Some (better_entry best x)) best) k)

in_list : (test : Sa → Bool) (es : List (ℕ × Sa)) (e : ℕ × Sa) → best_in test es ≡ Some e → Listed e es
in_list test es e h = by (best_listed test None (reverse es) e h)
  where
    by : (None ≡ Some e) ⊎ Listed e (reverse es) → Listed e es
    by (inl k) = absurd (cc)
    by (inr l) = record {
      front = reverse l.back;
      back = reverse l.front;
      whole = sym (reverse-reverse es) ∙ ap reverse l.whole ∙ reverse_within l.front l.back e;
    }

-- The best state stands in the slot, and a path goes through it.
pub record IsBest (test : Sa → Bool) (es : List (ℕ × Sa)) (slot : ℕ) : Type 0 where
  pub state : Sa
  pub best : best_state (filter test (records_in es)) ≡ Some state
  pub hop : IsHop es slot (hop_of state)

pub best_there : (test : Sa → Bool) (es : List (ℕ × Sa)) (slot : ℕ) → Some slot ≡ slot_found (best_in test es) → IsBest test es slot
best_there test es slot is = by (best_in test es) refl is
  where
    by : (o : Option (ℕ × Sa)) → best_in test es ≡ o → Some slot ≡ slot_found o → IsBest test es slot
    by None e k = absurd (cc)
    by (Some x) e k =
        let same : x.0 ≡ slot = cc in
        let l : Listed x es = in_list test es x e in
        record {
          state = x.1;
          best = sym (best_record test es) ∙ ap record_found e;
          hop = subst (λ (n : ℕ). IsHop es n (hop_of x.1)) same (record { front = l.front; back = l.back; state = x.1; whole = l.whole; step = refl });
        }

pub best_none : (test : Sa → Bool) (es : List (ℕ × Sa)) → None ≡ slot_found (best_in test es) → best_state (filter test (records_in es)) ≡ None
best_none test es is = by (best_in test es) refl is
  where
    by : (o : Option (ℕ × Sa)) → best_in test es ≡ o → None ≡ slot_found o → best_state (filter test (records_in es)) ≡ None
    by None e k = sym (best_record test es) ∙ ap record_found e
    by (Some x) e k = absurd (cc)
