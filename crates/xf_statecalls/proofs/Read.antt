-- What lookups found, and the state there.
use Rattle.std.proofs.Common.{ℕ, ◌≡◌, Bool, List, Option, None, Some, refl, ap, ◌∙◌}
use Rattle.xf_types.specs.declared.state.Sa.{Sa}
use Rattle.xf_types.specs.Machine.{Shown}
use Rattle.xf_types.specs.StateList.{last_of}
use Rattle.xf_index.specs.Finds.{slot_found, record_found}
use Rattle.xf_sadidx.specs.declared.area.StateArea.{StateArea}
use Rattle.xf_sadidx.specs.Layout.{record_at}
use Rattle.xf_sadidx.specs.Founds.{latest_in}
use Rattle.xf_sadidx.proofs.FoundLaws.{latest_record}
use Rattle.xf_sadimage.specs.States.{StatesStand}
use Rattle.xf_sadfind.specs.Slots.{IsThere}
use Rattle.xf_sadfind.proofs.Readings.{latest_there}

-- the record in the slot that is named
record_in : StateArea → List ℕ → Option ℕ → Option Sa
record_in a image None = None
record_in a image (Some slot) = record_at a image slot

there_is : (a : StateArea) (image : List ℕ) (slot : Option ℕ) (o : Option Sa) → IsThere a image slot o → record_in a image slot ≡ o
unfolding record_in
there_is a image None None = λ is. refl
there_is a image None (Some s) = λ is. absurd is
there_is a image (Some slot) None = λ is. absurd is
there_is a image (Some slot) (Some s) = λ is. is

there : (a : StateArea) (image : List ℕ) (s : Shown) (es : List (ℕ × Sa)) (test : Sa → Bool) (slot : Option ℕ) → StatesStand a image s es → slot ≡ slot_found (latest_in test es)
    → record_in a image slot ≡ last_of test s.states
there a image s es test slot st is =
    let chained = st.chained in
    ap (λ (o : Option ℕ). record_in a image o) is
    ∙ there_is a image (slot_found (latest_in test es)) (record_found (latest_in test es)) (latest_there a image test es chained.records)
    ∙ latest_record test es ∙ ap (λ (ss : List Sa). last_of test ss) st.listed

pub none_there : (a : StateArea) (image : List ℕ) (s : Shown) (es : List (ℕ × Sa)) (test : Sa → Bool) → StatesStand a image s es → None ≡ slot_found (latest_in test es)
    → None ≡ last_of test s.states
unfolding record_in
none_there a image s es test st is = there a image s es test None st is

pub some_there : (a : StateArea) (image : List ℕ) (s : Shown) (es : List (ℕ × Sa)) (test : Sa → Bool) (slot : ℕ) → StatesStand a image s es
    → Some slot ≡ slot_found (latest_in test es) → record_at a image slot ≡ last_of test s.states
unfolding record_in
some_there a image s es test slot st is = there a image s es test (Some slot) st is
