-- Values that stand beside good words stand for what the words list, with the own parts of the machine.
use Rattle.std.proofs.Common.{◌≡◌, ℕ, ◌+◌, ◌<◌, true, List, [], ◌∷◌, length, refl, sym, ap, ◌∙◌, subst, All, AllPairs, Option, option_map, inl, inr, ◌⊎◌}
use Rattle.std.proofs.lemmas.List.Elements.{All-head, All-tail}
use Rattle.xf_types.specs.declared.state.Sa.{Sa}
use Rattle.xf_types.specs.ChangeIds.{ChangeIds}
use Rattle.xf_types.specs.Machine.{Machine, Own}
use Rattle.xf_types.specs.OwnParts.{own_of, own_in, new_own}
use Rattle.xf_types.specs.Standing.{OneState}
use Rattle.xf_chain.specs.Lists.{Misses}
use Rattle.xf_index.specs.Indexes.{slots_in}
use Rattle.xf_local.specs.View.{standing_of as value_standing}
use Rattle.xf_rows.specs.Rows.{Row, entries_in, states_in, value_of}
use Rattle.xf_rows.specs.Values.{Beside, at, Keeps}
use Rattle.xf_rows.specs.Stands.{Stands}
use Rattle.xf_rows.proofs.Lists.{row_slots}
use Rattle.xf_invariant.specs.Meaning.{told}
use Rattle.xf_ownpart.specs.OwnPart.{listed_at, standing_of, with_own}
use Rattle.xf_meaning.specs.Places.{layout_of, size_of}
use Rattle.xf_meaning.specs.Marks.{AreIds}
use Rattle.xf_meaning.specs.Good.{Good}
use Rattle.xf_meaning.specs.Tells.{lists}
use Rattle.xf_meaning.specs.Beside.{AreBeside, MarksStand}
use Rattle.xf_meaning.proofs.Entries.{IsEntry, find_entry}
use Rattle.xf_meaning.proofs.Listing.{lists_entry}
use Rattle.xf_meaning.proofs.GoodWords.{IsRowOf, Differ, row_own, missed_none, stands_good}

-- the row of an entry
entry_row : (rows : List Row) (k : ℕ) (x : Sa) → IsEntry (entries_in rows) k x → (y : Row) × IsRowOf rows y × (y.0 ≡ k) × (y.1.0 ≡ x)
entry_row [] k x h = absurd h
entry_row (r ∷ rows) k x (inl h) = (r, inl refl, h.0, h.1)
entry_row (r ∷ rows) k x (inr h) = let t = entry_row rows k x h in (t.0, inr t.1, t.2, t.3)

row_all : (P : Row → Type 0) (rows : List Row) (y : Row) → All P rows → IsRowOf rows y → P y
row_all P [] y all h = absurd h
row_all P (r ∷ rows) y all (inl h) = subst P h (All-head P r rows all)
row_all P (r ∷ rows) y all (inr h) = row_all P rows y (All-tail P r rows all) h

module _ (p s : ℕ) (image : List ℕ) (b : Beside) (m : Machine) (ids : ChangeIds) (r : Stands (layout_of p s) image b m) (marks : MarksStand p s image) (are : AreIds p s image ids) (size : length image ≡ size_of p s) where
  g : Good p s image (told m.shown ids)
  g = stands_good p s image b m ids r marks are size

  same : g.states ≡ entries_in r.rows
  unfolding g stands_good
  same = refl

  missed : (k : ℕ) → k < s → b.held k ≡ true → Misses k (slots_in (entries_in r.rows)) → value_standing (at b k) ≡ standing_of (listed_at (lists p s) m image (p + k))
  missed k l h miss =
      ap value_standing (r.values.dead k (subst (λ (n : ℕ). k < n) (sym r.count) l) h (subst (λ (xs : List ℕ). Misses k xs) (row_slots r.rows) miss))
      ∙ sym (ap (λ (o : Option (Sa × ℕ)). standing_of (option_map (with_own m) o))
      (missed_none p s image (told m.shown ids) g k l (subst (λ (es : List (ℕ × Sa)). Misses k (slots_in es)) (sym same) miss)))

  found : (k : ℕ) (x : Sa) → b.held k ≡ true → IsEntry (entries_in r.rows) k x → value_standing (at b k) ≡ standing_of (listed_at (lists p s) m image (p + k))
  found k x h entry =
      let y = entry_row r.rows k x entry in
      let row : Row = y.0 in
      let none : Own = new_own x.spec in
      let keep : Keeps m.shown.time b row = row_all (Keeps m.shown.time b) r.rows row r.values.live y.1 in
      let value : at b k ≡ value_of m.shown.time row = ap (λ (j : ℕ). at b j) (sym y.2) ∙ keep.value (ap (λ (j : ℕ). b.held j) y.2 ∙ h) in
      let own : own_in m x ≡ row.1.1 =
      ap (λ (z : Sa). own_of z.sid m.shown.states m.own none) (sym y.3)
      ∙ ap (λ (ss : List Sa). own_of row.1.0.sid ss m.own none) (sym r.on_states.listed) ∙ ap (λ (os : List Own). own_of row.1.0.sid (states_in r.rows) os none) (sym r.own)
      ∙ row_own none r.rows row (subst (λ (xs : List Sa). AllPairs Differ xs) (sym r.on_states.listed) r.machine.shown.states.sids) y.1 in
      ap value_standing value
      ∙ ap (λ (z : Sa). OneState z m.shown.time row.1.1) y.3
      ∙ ap (λ (o : Own). OneState x m.shown.time o) (sym own)
      ∙ sym (ap (λ (o : Option (Sa × ℕ)). standing_of (option_map (with_own m) o))
      (lists_entry p s image (told m.shown ids) g k x (subst (λ (es : List (ℕ × Sa)). IsEntry es k x) (sym same) entry)))

  pub stands_beside : AreBeside p s image m b
  stands_beside = record { count = r.count; held = λ k l h. either k l h (find_entry (entries_in r.rows) k) }
    where
      either : (k : ℕ) → k < s → b.held k ≡ true → Misses k (slots_in (entries_in r.rows)) ⊎ ((x : Sa) × IsEntry (entries_in r.rows) k x)
          → value_standing (at b k) ≡ standing_of (listed_at (lists p s) m image (p + k))
      either k l h (inl miss) = missed k l h miss
      either k l h (inr f) = found k f.0 h f.1
