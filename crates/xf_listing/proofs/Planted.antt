-- Some policies, from one of the list on, stand at their nodes.
use Rattle.std.proofs.Common.{◌≡◌, ℕ, ◌<◌, ◌≤◌, List, [], ◌∷◌, ◌++◌, Option, Some, length, reverse, refl, ap, sym, ◌∙◌, subst, arith, append-nil}
use Rattle.std.proofs.lemmas.List.{reverse-reverse}
use Rattle.xf_types.specs.declared.policy.Policy.{Policy}
use Rattle.xf_types.specs.Machine.{Shown}
use Rattle.xf_chain.specs.declared.chain.Chain.{Chain}
use Rattle.xf_chain.specs.Chains.{Below, place_of, slots_from, slots_of}
use Rattle.xf_chain.specs.Families.{chain_at}
use Rattle.xf_chain.specs.Lists.{Apart, Misses}
use Rattle.xf_chain.proofs.Walks.{slots_same}
use Rattle.xf_index.specs.Indexes.{slots_in}
use Rattle.xf_index.proofs.Alls.{all_walk, all_fit}
use Rattle.xf_index.proofs.Entries.{slots_append}
use Rattle.xf_index.proofs.Holds.{holds_at}
use Rattle.xf_image.specs.declared.area.PolicyArea.{PolicyArea}
use Rattle.xf_image.specs.Frames.{Frame}
use Rattle.xf_image.specs.Layout.{back_of, end_of, order_of, record_at}
use Rattle.xf_image.specs.Policies.{PoliciesStand, everyone}
use Rattle.xf_image.proofs.Keeping.{entries_apart}
use Rattle.xf_image.proofs.Moving.{apart_behind, turned}
use Rattle.xf_exact.specs.Parts.{Tells}
use Rattle.xf_exact.proofs.PartLaws.{stand_tell}
use Rattle.xf_inexact.specs.Holds.{HoldPart}
use Rattle.xf_inexact.specs.Whole.{SpdStands, WholeFits, trees_of, whole_end}
use Rattle.xf_listing.proofs.Wholes.{trees_written}

-- The words stand for the list, the trees have its last policies, and these slots are to be passed for the others, the last first.
pub record Planted (a : PolicyArea) (words slots : List ℕ) (s : Shown) (es : List (ℕ × Policy)) : Type 0 where
  pub todo : List (ℕ × Policy)
  pub done : List (ℕ × Policy)
  pub whole : es ≡ reverse todo ++ done
  pub ahead : slots ≡ slots_in todo
  pub list : PoliciesStand a words s es
  pub part : HoldPart (trees_of a) words s.hthresh4 s.hthresh6 done

-- at the start the trees are empty
pub plants_begin : (a : PolicyArea) (words slots : List ℕ) (s : Shown) (es : List (ℕ × Policy)) → slots ≡ slots_of (chain_at (back_of a) 0) words
    → PoliciesStand a words s es → HoldPart (trees_of a) words s.hthresh4 s.hthresh6 [] → Planted a words slots s es
plants_begin a words slots s es e list part = record {
  todo = reverse es;
  done = [];
  whole = sym (append-nil (reverse (reverse es)) ∙ reverse-reverse es);
  ahead = e ∙ all_walk (back_of a) words everyone (reverse es) (λ p. refl) (omega arith) list.links.back;
  list = list;
  part = part;
}

-- at the end they have all
pub plants_end : (a : PolicyArea) (words slots : List ℕ) (s : Shown) (es : List (ℕ × Policy)) → slots ≡ [] → Planted a words slots s es → SpdStands a words s es
plants_end a words slots s es e p = by p.todo p.whole (sym p.ahead ∙ e)
  where
    by : (todo : List (ℕ × Policy)) → es ≡ reverse todo ++ p.done → slots_in todo ≡ [] → SpdStands a words s es
    by [] w h = record { list = p.list; part = subst (λ (xs : List (ℕ × Policy)). HoldPart (trees_of a) words s.hthresh4 s.hthresh6 xs) (sym w) p.part }
    by (x ∷ todo) w h = absurd (cc)

-- What a turn puts to the front.
abbrev pub PlantsOne : PolicyArea → List ℕ → List ℕ → ℕ → Type 0
PlantsOne a image words slot =
    (h4 h6 : ℕ × ℕ) (back : List (ℕ × Policy)) (p : Policy) → record_at a image slot ≡ Some p → Tells a image h4 h6 → Misses slot (slots_in back)
    → Apart (slots_in back) → length back < a.slots → HoldPart (trees_of a) image h4 h6 back → HoldPart (trees_of a) words h4 h6 ((slot, p) ∷ back)

shorter : (front back : List (ℕ × Policy)) (e : ℕ × Policy) (n : ℕ) → length (front ++ (e ∷ back)) ≤ n → length back < n
shorter [] back e n h = omega (arith, h)
shorter (x ∷ front) back e n h = shorter front back e n (omega (arith, h))

-- each turn plants one
pub plants_one : (a : PolicyArea) (image words slots rest : List ℕ) (n slot : ℕ) (s : Shown) (es : List (ℕ × Policy)) → WholeFits a n
    → Frame (end_of a) (whole_end a) image words → PlantsOne a image words slot
    → slots ≡ slot ∷ rest → Planted a image slots s es → Planted a words rest s es
plants_one a image words slots rest n slot s es fits f one e p = by p.todo p.whole (sym e ∙ p.ahead)
  where
    by : (todo : List (ℕ × Policy)) → es ≡ reverse todo ++ p.done → slot ∷ rest ≡ slots_in todo → Planted a words rest s es
    by [] w h = absurd (cc)
    by (x ∷ todo) w h =
        let same : es ≡ reverse todo ++ (x ∷ p.done) = w ∙ turned x todo p.done in
        let own : slot ≡ x.0 = cc in
        let left : rest ≡ slots_in todo = cc in
        let list : PoliciesStand a image s (reverse todo ++ (x ∷ p.done)) = subst (λ (xs : List (ℕ × Policy)). PoliciesStand a image s xs) same p.list in
        let apart : Apart (slots_in (x ∷ p.done)) =
        apart_behind (slots_in (reverse todo)) (slots_in (x ∷ p.done))
        (subst (λ (xs : List ℕ). Apart xs) (slots_append (reverse todo) (x ∷ p.done)) (entries_apart a image s.hthresh4 s.hthresh6 (reverse todo ++ (x ∷ p.done)) list.links)) in
        let few : length p.done < a.slots =
        shorter (reverse todo) p.done x a.slots (all_fit (order_of a) image everyone (reverse todo ++ (x ∷ p.done)) (λ p. refl) (omega arith) list.links.order) in
        let at : record_at a image x.0 ≡ Some x.1 = holds_at (λ k. record_at a image k) (λ p. Some p) x.0 x.1 (reverse todo) p.done list.columns.records in
        let planted : HoldPart (trees_of a) words s.hthresh4 s.hthresh6 ((slot, x.1) ∷ p.done) =
        one s.hthresh4 s.hthresh6 p.done x.1 (ap (λ (k : ℕ). record_at a image k) own ∙ at) (stand_tell a image s list.counters)
        (subst (λ (k : ℕ). Misses k (slots_in p.done)) (sym own) apart.0) apart.1 few p.part in
        record {
          todo = todo;
          done = x ∷ p.done;
          whole = same;
          ahead = left;
          list = trees_written a image words n s es fits f p.list;
          part = subst (λ (k : ℕ). HoldPart (trees_of a) words s.hthresh4 s.hthresh6 ((k, x.1) ∷ p.done)) own planted;
        }

-- the walk passes the same slots, since none of its links is written
pub walk_stays : (a : PolicyArea) (image words : List ℕ) (chain : Chain) (left : ℕ) (at : Option ℕ) → chain ≡ chain_at (back_of a) 0
    → Frame (end_of a) (whole_end a) image words → Below a.slots at → slots_from chain words left at ≡ slots_from chain image left at
walk_stays a image words chain left at e f below =
    ap (λ (c : Chain). slots_from c words left at) e
    ∙ (slots_same (chain_at (back_of a) 0) image words left at (λ x h. f.below (place_of (chain_at (back_of a) 0) x) (omega (arith, h))) below
    ∙ ap (λ (c : Chain). slots_from c image left at) (sym e))
