-- In which slots states stand once words followed a reply.
use Rattle.std.proofs.Common.{ℕ, ◌≡◌, ◌≤◌, Bool, true, false, cond, List, ◌∷◌, ◌++◌, Option, Some, length, refl, sym, subst}
use Rattle.xf_types.specs.declared.state.Sa.{Sa}
use Rattle.xf_types.specs.Machine.{Shown}
use Rattle.xf_types.specs.OneState.{dying_if}
use Rattle.xf_index.specs.Indexes.{records_in}
use Rattle.xf_sadimage.specs.States.{StatesStand}
use Rattle.xf_sadlist.specs.Listed.{with_states}
use Rattle.xf_sad.specs.Changes.{entries_but}
use Rattle.xf_sad.specs.Places.{KeepsPlaces, slots_but}
use Rattle.xf_sad.specs.Slots.{listed_in}
use Rattle.xf_sad.proofs.Found.{stands_apart}
use Rattle.xf_sad.proofs.Placings.{but_between}
use Rattle.xf_sad.proofs.Places.{KeepsEntries, keeps_is, keeps_left, keeps_put, slots_left}
use Rattle.xf_rows.specs.declared.layout.Layout.{Layout}
use Rattle.xf_rows.specs.Layouts.{Fits}
use Rattle.xf_rows.specs.Rows.{entries_in}
use Rattle.xf_rows.specs.Values.{Beside}
use Rattle.xf_rows.specs.Finds.{FoundAt}
use Rattle.xf_rows.specs.Fates.{entries_told}
use Rattle.xf_statecalls.specs.Ready.{Stood}
use Rattle.xf_statecalls.proofs.Standing.{states_behind}
use Rattle.xf_traffic.specs.Following.{Follows}
use Rattle.xf_traffic.proofs.Listed.{stands_at, listed_changed}

-- The list is as it was, without the slot of a state that ended, and other states stay where they are.
pub record Stayed (layout : Layout) (b : Beside) (slot : ℕ) (ended : Bool) (i j : List ℕ) : Type 0 where
  pub places : KeepsPlaces layout.states b.held i j
  pub list : listed_in layout.states j ≡ cond ended (slots_but (Some slot) (listed_in layout.states i)) (listed_in layout.states i)

same_sid : (soft : Bool) (x : Sa) → x.sid ≡ (dying_if soft x).sid
same_sid true x = refl
same_sid false x = refl

pub stayed : (layout : Layout) (i k j : List ℕ) (b : Beside) (h : Stood layout i b) (test : Sa → Bool) (slot hidden : ℕ) (found : Option Sa) (ended soft : Bool)
    → FoundAt b h.machine h.stands.rows test slot found → Fits layout (length i) → hidden ≤ layout.policies.base → b.held slot ≡ true → k ≡ i
    → Follows layout.states hidden slot ended soft k j → Stayed layout b slot ended i j
stayed layout i k j b h test slot hidden found ended soft f fits low held same follows = by ended refl
  where
    es : List (ℕ × Sa)
    es = entries_in f.place.front ++ ((slot, f.row.1.0) ∷ entries_in f.place.back)

    st : StatesStand layout.states i h.machine.shown es
    st = stands_at layout i b h.machine test slot found h.stands f

    t : Follows layout.states hidden slot ended soft i j
    t = subst (λ (w : List ℕ). Follows layout.states hidden slot ended soft w j) same follows

    told : Bool → List (ℕ × Sa)
    told e = entries_told e soft (entries_in f.place.front) slot f.row.1.0 (entries_in f.place.back)

    after : StatesStand layout.states j (with_states h.machine.shown (records_in (told ended))) (told ended)
    after =
        states_behind layout t.between j (with_states h.machine.shown (records_in (told ended))) (told ended) hidden (subst (λ (n : ℕ). Fits layout n) (sym t.frame.size) fits) low t.after
        (t.stands h.machine.shown (entries_in f.place.front) (entries_in f.place.back) f.row.1.0 st)

    by : (e : Bool) → ended ≡ e → Stayed layout b slot ended i j
    by true is =
        let front : List (ℕ × Sa) = entries_in f.place.front in
        let back : List (ℕ × Sa) = entries_in f.place.back in
        let u : Shown = with_states h.machine.shown (records_in (told ended)) in
        let now : StatesStand layout.states j u (front ++ back) = subst (λ (x : Bool). StatesStand layout.states j u (told x)) is after in
        let but : entries_but (Some slot) es ≡ front ++ back = but_between slot f.row.1.0 front back (stands_apart layout.states i h.machine.shown es st) in
        subst (λ (x : Bool). Stayed layout b slot x i j) (sym is) (record {
          places = keeps_is layout.states b.held i j h.machine.shown u es (front ++ back) st now
              (subst (λ (fs : List (ℕ × Sa)). KeepsEntries b.held es fs) but (keeps_left b.held (Some slot) es h.machine.shown st.listed h.stands.machine.shown.states held));
          list = slots_left layout.states i j h.machine.shown u (Some slot) es st (subst (λ (fs : List (ℕ × Sa)). StatesStand layout.states j u fs) (sym but) now);
        })
    by false is =
        let front : List (ℕ × Sa) = entries_in f.place.front in
        let back : List (ℕ × Sa) = entries_in f.place.back in
        let y : Sa = dying_if soft f.row.1.0 in
        let u : Shown = with_states h.machine.shown (records_in (told ended)) in
        let now : StatesStand layout.states j u (front ++ ((slot, y) ∷ back)) = subst (λ (x : Bool). StatesStand layout.states j u (told x)) is after in
        subst (λ (x : Bool). Stayed layout b slot x i j) (sym is) (record {
          places = keeps_is layout.states b.held i j h.machine.shown u es (front ++ ((slot, y) ∷ back)) st now
              (keeps_put b.held h.machine.shown slot f.row.1.0 y front back st.listed h.stands.machine.shown.states held (same_sid soft f.row.1.0));
          list = listed_changed layout.states i j h.machine.shown u front back slot f.row.1.0 y st now;
        })
