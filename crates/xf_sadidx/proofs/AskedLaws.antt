-- What is asked of the words is what is asked of the state.
use Rattle.std.proofs.Common.{◌≡◌, ℕ, not, ◌&&◌, ◌==◌, List, [], ◌∷◌, Some, ap, ◌∙◌, rules}
use Rattle.xf_types.specs.declared.state.Sa.{Sa}
use Rattle.xf_types.specs.StateList.{has_id}
use Rattle.xf_types.specs.Candidates.{suits}
use Rattle.xf_index.specs.Indexes.{Holds}
use Rattle.xf_records.specs.States.{state_at}
use Rattle.xf_asked.specs.Fields.{sid_at, larval_at}
use Rattle.xf_asked.proofs.AskedLaws.{state_asks, state_suits}
use Rattle.xf_asked.proofs.FieldLaws.{sid_is, larval_is}
use Rattle.xf_sadidx.specs.declared.area.StateArea.{StateArea}
use Rattle.xf_sadidx.specs.declared.query.StateQuery.{StateQuery}
use Rattle.xf_sadidx.specs.declared.query.StateQuery.TheVariants.{Named, Beside, Candidate, Larval, Replaced, Number, Numbered}
use Rattle.xf_sadidx.specs.Layout.{record_place, record_at}
use Rattle.xf_sadidx.specs.Queries.{meets, meets_if, meets_at, meets_in}

asked_is : (image : List ℕ) (at : ℕ) (query : StateQuery) (s : Sa) → state_at image at ≡ Some s → meets_at image at query ≡ meets query s
unfolding meets_at
asked_is image at (Named id) s e = state_asks image at id s e
asked_is image at (Beside id sid) s e =
    ap (λ b. b && not (sid_at image at == sid)) (state_asks image at id s e) ∙ ap (λ n. has_id id s && not (n == sid)) (sid_is image at s e)
asked_is image at (Candidate t flow src dst) s e =
    ap (λ b. b && not (larval_at image at)) (state_suits image at t flow src dst s e) ∙ ap (λ b. suits t flow src dst s && not b) (larval_is image at s e)
asked_is image at (Larval t flow src dst) s e =
    ap (λ b. b && larval_at image at) (state_suits image at t flow src dst s e) ∙ ap (λ b. suits t flow src dst s && b) (larval_is image at s e)
asked_is image at (Replaced seq proto dst) s e = ap (meets_if (Replaced seq proto dst)) e
asked_is image at (Number dst proto spi) s e = ap (meets_if (Number dst proto spi)) e
asked_is image at (Numbered seq) s e = ap (meets_if (Numbered seq)) e

pub meets_is : (a : StateArea) (image : List ℕ) (query : StateQuery) (slot : ℕ) (s : Sa) → record_at a image slot ≡ Some s
    → meets_in a image query slot ≡ meets query s
unfolding meets_in
meets_is a image query slot s e = asked_is image (record_place a slot) query s e

-- each slot answers as its state does
pub asked_hold : (a : StateArea) (image : List ℕ) (query : StateQuery) (es : List (ℕ × Sa)) → Holds (λ slot. record_at a image slot) (λ s. Some s) es
    → Holds (meets_in a image query) (meets query) es
asked_hold a image query [] h = search rules
asked_hold a image query (e ∷ es) h = (meets_is a image query e.0 e.1 h.0, asked_hold a image query es h.1)
