-- Where a walk over the list stands.
use Rattle.std.proofs.Common.{◌≡◌, ℕ, ◌≤◌, List, [], ◌∷◌, ◌++◌, None, Some, length, refl, ap, arith}
use Rattle.xf_types.specs.declared.policy.Policy.{Policy}
use Rattle.xf_types.specs.Machine.{Shown}
use Rattle.xf_chain.specs.Lists.{first_of}
use Rattle.xf_chain.proofs.Slots.{slots_fit}
use Rattle.xf_index.specs.Indexes.{slots_in}
use Rattle.xf_index.proofs.Entries.{slots_length}
use Rattle.xf_image.specs.declared.area.PolicyArea.{PolicyArea}
use Rattle.xf_image.proofs.Keeping.{entries_apart, entries_within}
use Rattle.xf_inexact.specs.Whole.{SpdStands}

-- there are no more policies than slots
pub entries_few : (a : PolicyArea) (words : List ℕ) (s : Shown) (es : List (ℕ × Policy)) → SpdStands a words s es → length es ≤ a.slots
entries_few a words s es st =
    let n : length (slots_in es) ≤ a.slots =
    slots_fit a.slots (slots_in es) (entries_apart a words s.hthresh4 s.hthresh6 es st.list.links) (entries_within a words s.hthresh4 s.hthresh6 es st.list.links) in
    let e : length (slots_in es) ≡ length es = slots_length es in
    omega (arith, n, e)

pub same_slot : (slot other : ℕ) → Some slot ≡ Some other → slot ≡ other
same_slot slot other e = cc

pub no_more : (back : List (ℕ × Policy)) (left : ℕ) → left ≡ 0 → length back ≤ left → back ≡ []
no_more [] left e l = refl
no_more (x ∷ back) left e l = absurd (omega (arith, e, l))

pub none_comes : (back : List (ℕ × Policy)) → None ≡ first_of (slots_in back) → back ≡ []
none_comes [] e = refl
none_comes (x ∷ back) e = absurd (cc)

pub records_nil : (ps : List Policy) → ps ++ [] ≡ ps
records_nil [] = refl
records_nil (p ∷ ps) = ap (λ (l : List Policy). p ∷ l) (records_nil ps)

pub entries_nil : (es : List (ℕ × Policy)) → es ++ [] ≡ es
entries_nil [] = refl
entries_nil (e ∷ es) = ap (λ (l : List (ℕ × Policy)). e ∷ l) (entries_nil es)
