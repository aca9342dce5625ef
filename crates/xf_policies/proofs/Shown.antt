-- A walk that shows each policy goes on.
use Rattle.std.proofs.Common.{◌≡◌, ℕ, ◌-◌, ◌≤◌, List, [], ◌∷◌, ◌++◌, Option, None, Some, length, refl, ap, sym, ◌∙◌, subst, arith, append_assoc}
use Rattle.xf_types.specs.declared.policy.Policy.{Policy}
use Rattle.xf_types.specs.Machine.{Shown}
use Rattle.xf_chain.specs.Lists.{first_of}
use Rattle.xf_index.specs.Indexes.{slots_in, records_in}
use Rattle.xf_index.proofs.Entries.{records_append}
use Rattle.xf_image.specs.declared.area.PolicyArea.{PolicyArea}
use Rattle.xf_inexact.specs.Whole.{SpdStands}
use Rattle.xf_policies.specs.Visits.{Visited, Walked}
use Rattle.xf_policies.proofs.Cursors.{entries_few, same_slot, no_more, none_comes, entries_nil}

visited_more : {V : Type 0} (goes : V → Policy → V → Type 0) (v u w : V) (ps : List Policy) (p : Policy) → Visited goes v ps u → goes u p w → Visited goes v (ps ++ p ∷ []) w
visited_more goes v u w [] p e step = (w, (subst (λ x. goes x p w) (sym e) step, refl))
visited_more goes v u w (q ∷ ps) p k step = (k.0, (k.1.0, visited_more goes k.0 u w ps p k.1.1 step))

pub walked_begins : {V : Type 0} (goes : V → Policy → V → Type 0) (v : V) (a : PolicyArea) (image : List ℕ) (s : Shown) (es : List (ℕ × Policy)) (at : Option ℕ) → SpdStands a image s es
    → at ≡ first_of (slots_in es) → Walked goes v v es at a.slots
walked_begins goes v a image s es at st first =
    record { front = []; back = es; at_is = first; left_is = entries_few a image s es st; whole = refl; visited = refl }

goes_by : {V : Type 0} (goes : V → Policy → V → Type 0) (first now later : V) (es : List (ℕ × Policy)) (slot : ℕ) (next : Option ℕ) (left : ℕ) (front back : List (ℕ × Policy))
    → Some slot ≡ first_of (slots_in back) → length back ≤ left → es ≡ front ++ back → Visited goes first (records_in front) now
    → ((front back : List (ℕ × Policy)) (p : Policy) → es ≡ front ++ ((slot, p) ∷ back) → next ≡ first_of (slots_in back))
    → ((front back : List (ℕ × Policy)) (p : Policy) → es ≡ front ++ ((slot, p) ∷ back) → goes now p later)
    → Walked goes first later es next (left - 1)
goes_by goes first now later es slot next left front [] e len whole k at step = absurd (cc)
goes_by goes first now later es slot next left front (x ∷ back) e len whole k at step =
    let own : x.0 ≡ slot = sym (same_slot slot x.0 e) in
    let old : es ≡ front ++ ((slot, x.1) ∷ back) = subst (λ (n : ℕ). es ≡ front ++ ((n, x.1) ∷ back)) own whole in
    record {
      front = front ++ (slot, x.1) ∷ [];
      back = back;
      at_is = at front back x.1 old;
      left_is = omega (arith, len);
      whole = old ∙ sym (append_assoc front ((slot, x.1) ∷ []) back);
      visited = subst (λ (ps : List Policy). Visited goes first ps later) (sym (records_append front ((slot, x.1) ∷ [])))
          (visited_more goes first now later (records_in front) x.1 k (step front back x.1 old));
    }

pub walked_goes : {V : Type 0} (goes : V → Policy → V → Type 0) (first now later : V) (es : List (ℕ × Policy)) (slot : ℕ) (next : Option ℕ) (left : ℕ) → Walked goes first now es (Some slot) left
    → ((front back : List (ℕ × Policy)) (p : Policy) → es ≡ front ++ ((slot, p) ∷ back) → next ≡ first_of (slots_in back))
    → ((front back : List (ℕ × Policy)) (p : Policy) → es ≡ front ++ ((slot, p) ∷ back) → goes now p later)
    → Walked goes first later es next (left - 1)
walked_goes goes first now later es slot next left k at step = goes_by goes first now later es slot next left k.front k.back k.at_is k.left_is k.whole k.visited at step

ends_by : {V : Type 0} (goes : V → Policy → V → Type 0) (first now : V) (s : Shown) (es front back : List (ℕ × Policy)) → records_in es ≡ s.policies → back ≡ [] → es ≡ front ++ back
    → Visited goes first (records_in front) now → Visited goes first s.policies now
ends_by goes first now s es front [] listed e whole k =
    subst (λ (ps : List Policy). Visited goes first ps now) (ap (λ (xs : List (ℕ × Policy)). records_in xs) (sym (whole ∙ entries_nil front)) ∙ listed) k
ends_by goes first now s es front (x ∷ back) listed e whole k = absurd (cc)

pub walked_ends : {V : Type 0} (goes : V → Policy → V → Type 0) (first now : V) (a : PolicyArea) (image : List ℕ) (s : Shown) (es : List (ℕ × Policy)) (at : Option ℕ) (left : ℕ) → SpdStands a image s es
    → left ≡ 0 → Walked goes first now es at left → Visited goes first s.policies now
walked_ends goes first now a image s es at left st e k = ends_by goes first now s es k.front k.back st.list.listed (no_more k.back left e k.left_is) k.whole k.visited

pub walked_stops : {V : Type 0} (goes : V → Policy → V → Type 0) (first now : V) (a : PolicyArea) (image : List ℕ) (s : Shown) (es : List (ℕ × Policy)) (at : Option ℕ) (left : ℕ) → SpdStands a image s es
    → at ≡ None → Walked goes first now es at left → Visited goes first s.policies now
walked_stops goes first now a image s es at left st e k = ends_by goes first now s es k.front k.back st.list.listed (none_comes k.back (sym e ∙ k.at_is)) k.whole k.visited
