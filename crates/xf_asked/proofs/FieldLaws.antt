-- A single word is the field of the record that stands there.
use Rattle.std.proofs.Common.{◌≡◌, ℕ, ◌+◌, ◌<◌, List, Some, slice_index, ap, ◌∙◌, lit<}
use Rattle.xf_types.specs.declared.policy.Policy.{Policy}
use Rattle.xf_types.specs.declared.state.Sa.{Sa}
use Rattle.xf_records.specs.Blocks.{Stands}
use Rattle.xf_records.specs.Codes.{small_in, flag_in}
use Rattle.xf_records.specs.Policies.{plain_words, policy_at}
use Rattle.xf_records.specs.States.{state_words, state_at}
use Rattle.xf_records.proofs.BlockLaws.{stands_front, stands_at}
use Rattle.xf_records.proofs.CodeLaws.{small_is, flag_is}
use Rattle.xf_records.proofs.PolicyLaws.{policy_fits, policy_read}
use Rattle.xf_records.proofs.StateLaws.{state_read}
use Rattle.xf_asked.specs.Fields.{priority_at, number_at, sid_at, added_at, larval_at, dying_at}

pub priority_is : (image : List ℕ) (at : ℕ) (p : Policy) → policy_at image at ≡ Some p → priority_at image at ≡ p.spec.priority
unfolding plain_words
priority_is image at p e =
    let s : Stands image at (plain_words p) = stands_front image at (plain_words p) _ (policy_read image at p e) in
    ap small_in (stands_at image at (plain_words p) s 15 (lit< tt)) ∙ small_is p.spec.priority (policy_fits image at p e).plain.priority

pub number_is : (image : List ℕ) (at : ℕ) (p : Policy) → policy_at image at ≡ Some p → number_at image at ≡ p.number
unfolding plain_words
number_is image at p e =
    let s : Stands image at (plain_words p) = stands_front image at (plain_words p) _ (policy_read image at p e) in
    stands_at image at (plain_words p) s 16 (lit< tt)

word_is : (image : List ℕ) (at : ℕ) (s : Sa) → state_at image at ≡ Some s → (k : ℕ) → k < 46 → slice_index image (at + k) ≡ slice_index (state_words s) k
unfolding state_words
word_is image at s e k h = stands_at image at (state_words s) (state_read image at s e) k h

pub sid_is : (image : List ℕ) (at : ℕ) (s : Sa) → state_at image at ≡ Some s → sid_at image at ≡ s.sid
unfolding state_words
sid_is image at s e = word_is image at s e 16 (lit< tt)

pub added_is : (image : List ℕ) (at : ℕ) (s : Sa) → state_at image at ≡ Some s → added_at image at ≡ s.added
unfolding state_words
added_is image at s e = word_is image at s e 17 (lit< tt)

pub larval_is : (image : List ℕ) (at : ℕ) (s : Sa) → state_at image at ≡ Some s → larval_at image at ≡ s.larval
unfolding state_words
larval_is image at s e = ap flag_in (word_is image at s e 14 (lit< tt)) ∙ flag_is s.larval

pub dying_is : (image : List ℕ) (at : ℕ) (s : Sa) → state_at image at ≡ Some s → dying_at image at ≡ s.dying
unfolding state_words
dying_is image at s e = ap flag_in (word_is image at s e 15 (lit< tt)) ∙ flag_is s.dying
