-- The slots in which the policies stand.
use Rattle.std.proofs.Common.{◌≡◌, ℕ, ◌<◌, ◌≤◌, List, [], ◌∷◌, length, refl, ap, sym, ◌∙◌, arith}
use Rattle.xf_types.specs.declared.policy.Policy.{Policy}
use Rattle.xf_types.specs.Machine.{Shown}
use Rattle.xf_chain.specs.Lists.{Misses}
use Rattle.xf_chain.proofs.Slots.{slots_fit}
use Rattle.xf_index.specs.Indexes.{slots_in, records_in}
use Rattle.xf_index.proofs.Alls.{all_walk}
use Rattle.xf_index.proofs.Entries.{slots_length, records_length}
use Rattle.xf_image.specs.declared.area.PolicyArea.{PolicyArea}
use Rattle.xf_image.specs.Layout.{order_of}
use Rattle.xf_image.specs.Policies.{everyone, PoliciesStand}
use Rattle.xf_image.specs.Readings.{listed_in}
use Rattle.xf_image.proofs.Keeping.{entries_apart, entries_within}

-- they are the slots that the chain of all passes
pub listed_is : (a : PolicyArea) (image : List ℕ) (s : Shown) (es : List (ℕ × Policy)) → PoliciesStand a image s es → listed_in a image ≡ slots_in es
listed_is a image s es st = all_walk (order_of a) image everyone es (λ p. refl) (omega arith) st.links.order

-- so the words and the list tell them

same_entries : (es fs : List (ℕ × Policy)) → slots_in es ≡ slots_in fs → records_in es ≡ records_in fs → es ≡ fs
same_entries [] [] x y = refl
same_entries [] (f ∷ fs) x y = absurd (cc)
same_entries (e ∷ es) [] x y = absurd (cc)
same_entries (e ∷ es) (f ∷ fs) x y =
    let s : e.0 ≡ f.0 = cc in
    let r : e.1 ≡ f.1 = cc in
    let ss : slots_in es ≡ slots_in fs = cc in
    let rs : records_in es ≡ records_in fs = cc in
    let first : e ≡ f = λ i. (s i, r i) in
    ap (λ (x : ℕ × Policy). x ∷ es) first ∙ ap (λ (l : List (ℕ × Policy)). f ∷ l) (same_entries es fs ss rs)

pub entries_same : (a : PolicyArea) (image : List ℕ) (s : Shown) (es fs : List (ℕ × Policy)) → PoliciesStand a image s es
    → PoliciesStand a image s fs → es ≡ fs
entries_same a image s es fs x y =
    same_entries es fs (sym (listed_is a image s es x) ∙ listed_is a image s fs y) (x.listed ∙ sym y.listed)

-- a slot that isn't among them leaves room
pub room_left : (a : PolicyArea) (image : List ℕ) (s : Shown) (es : List (ℕ × Policy)) (slot : ℕ) → PoliciesStand a image s es → slot < a.slots
    → Misses slot (slots_in es)
    → length s.policies < s.max_policies
room_left a image s es slot st below miss =
    let l : length (slot ∷ slots_in es) ≤ a.slots =
    slots_fit a.slots (slot ∷ slots_in es) (miss, entries_apart a image s.hthresh4 s.hthresh6 es st.links) (below, entries_within a image s.hthresh4 s.hthresh6 es st.links) in
    let e : length (slots_in es) ≡ length es = slots_length es in
    let f : length (records_in es) ≡ length es = records_length es in
    let g : length (records_in es) ≡ length s.policies = ap (λ (ps : List Policy). length ps) st.listed in
    let r = st.room in
    omega (arith, l, e, f, g, r)
