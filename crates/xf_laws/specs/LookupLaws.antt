-- Laws of the lookups of states: the latest match, and the best state for a template (RFC 4301, 4.4.2 and 5.1).
use Rattle.std.specs.Prelude.{◌≡◌, Bool, true, false, ◌<◌, ◌≤◌, List, [], ◌∷◌, ◌++◌, None, Some, All}
use Rattle.xf_types.specs.declared.state.Sa.{Sa}
use Rattle.xf_types.specs.declared.state.SaId.{SaId}
use Rattle.xf_types.specs.StateList.{has_id, latest_match}
use Rattle.xf_types.specs.Candidates.{best_state}

-- the state stands in the list and passes the test, and none after it does
pub record IsLatest (test : Sa → Bool) (states : List Sa) (x : Sa) : Type 0 where
  pub before : List Sa
  pub after : List Sa
  pub place : states ≡ before ++ x ∷ after
  pub passes : test x ≡ true
  pub none_after : All (λ y. test y ≡ false) after

-- the state stands in the list; it is dying only where all are; of those that are dying like it none was added later, and none that
-- was added at the same time stands after it
pub record IsBest (candidates : List Sa) (x : Sa) : Type 0 where
  pub before : List Sa
  pub after : List Sa
  pub place : candidates ≡ before ++ x ∷ after
  pub dying : x.dying ≡ true → All (λ y. y.dying ≡ true) candidates
  pub newest : All (λ y. y.dying ≡ x.dying → y.added ≤ x.added) candidates
  pub last : All (λ y. y.dying ≡ x.dying → y.added < x.added) after

pub record LookupLaws : Type 0 where
  pub latest : (states : List Sa) (id : SaId) (x : Sa) → latest_match states id ≡ Some x → IsLatest (has_id id) states x
  pub no_match : (states : List Sa) (id : SaId) → latest_match states id ≡ None → All (λ x. has_id id x ≡ false) states
  pub best : (candidates : List Sa) (x : Sa) → best_state candidates ≡ Some x → IsBest candidates x
  pub no_best : (candidates : List Sa) → best_state candidates ≡ None → candidates ≡ []
