-- What listing, removing and warning of a policy makes of words that stand for a list.
use Rattle.std.proofs.Common.{◌≡◌, ℕ, ◌+◌, ◌<◌, ◌^◌, Bool, true, false, not, List, ◌∷◌, ◌++◌, Option, Some, length, refl, ap, sym, ◌∙◌, subst, arith, slice_index, All}
use Rattle.xf_types.specs.declared.policy.Policy.{Policy}
use Rattle.xf_types.specs.declared.policy.PolicySpec.{PolicySpec}
use Rattle.xf_types.specs.Machine.{Shown}
use Rattle.xf_types.specs.PolicyList.{comes_after}
use Rattle.xf_records.specs.Policies.{PolicyFits, warned}
use Rattle.xf_chain.specs.Lists.{Apart, Misses}
use Rattle.xf_index.specs.Indexes.{AllAre, slots_in, records_in}
use Rattle.xf_index.specs.Parts.{Parted, Falls}
use Rattle.xf_index.proofs.Entries.{records_length}
use Rattle.xf_index.proofs.Holds.{holds_taken}
use Rattle.xf_index.proofs.Parts.{parted}
use Rattle.xf_image.specs.declared.area.PolicyArea.{PolicyArea}
use Rattle.xf_image.specs.ExactKeys.{exact_key}
use Rattle.xf_image.specs.Frames.{Frame}
use Rattle.xf_image.specs.Layout.{end_of, number_place, priority_place, record_at}
use Rattle.xf_image.specs.Placing.{places_for, places_of}
use Rattle.xf_image.specs.Readings.{hthresh4_in, hthresh6_in}
use Rattle.xf_image.specs.Writes.{added_words, removed_words, warned_words}
use Rattle.xf_image.specs.Entries.{new_policy, entries_with, slot_left, slot_warned, IsEntry, InOrder, with_listed, with_policies}
use Rattle.xf_image.specs.Policies.{ColumnsStand, PoliciesStand}
use Rattle.xf_image.proofs.Adding.{stands_added}
use Rattle.xf_image.proofs.Keeping.{entries_apart}
use Rattle.xf_image.proofs.Listed.{room_left}
use Rattle.xf_image.proofs.Orders.{falls, entries_with_is}
use Rattle.xf_image.proofs.Parts.{left_is, misses_both, warned_is}
use Rattle.xf_image.proofs.Removing.{stands_removed}
use Rattle.xf_image.proofs.Warning.{stands_warned, warned_frame}
use Rattle.xf_inexact.specs.Holds.{HoldPart}
use Rattle.xf_inexact.specs.Whole.{SpdStands, WholeFits, trees_of, whole_end}
use Rattle.xf_inexact.proofs.Listed.{part_changed}
use Rattle.xf_listing.specs.Calls.{new_policy_in, listed_words, delisted_words}
use Rattle.xf_listing.proofs.Reading.{hthresh4_is, hthresh6_is, next_number_is}
use Rattle.xf_listing.proofs.Wholes.{list_fits, list_written, trees_written}

pub policy_is_for : (a : PolicyArea) (image : List ℕ) (s : Shown) (es : List (ℕ × Policy)) (spec : PolicySpec) (index now : ℕ) → s.next_number < 2 ^ 63 → s.time ≡ now → PoliciesStand a image s es
    → new_policy_in a image spec index now ≡ new_policy s spec index
policy_is_for a image s es spec index now small time g =
    ap (λ (n : ℕ). record { number = n; index = index; added = now; soft = false; spec = spec }) (next_number_is a image s es small g)
    ∙ ap (λ (t : ℕ). record { number = s.next_number; index = index; added = t; soft = false; spec = spec }) (sym time)

pub words_listed : (a : PolicyArea) (image : List ℕ) (s : Shown) (es : List (ℕ × Policy)) (slot : ℕ) (p : Policy) (word : ℕ) → PoliciesStand a image s es
    → listed_words a image slot p word ≡ added_words a image (places_for a image s.hthresh4 s.hthresh6 p) slot p word
words_listed a image s es slot p word g =
    ap (λ (h4 : ℕ × ℕ). added_words a image (places_for a image h4 (hthresh6_in a image) p) slot p word) (hthresh4_is a image s es g)
    ∙ ap (λ (h6 : ℕ × ℕ). added_words a image (places_for a image s.hthresh4 h6 p) slot p word) (hthresh6_is a image s es g)

pub words_delisted : (a : PolicyArea) (image : List ℕ) (s : Shown) (es : List (ℕ × Policy)) (slot : ℕ) (p : Policy) → PoliciesStand a image s es
    → delisted_words a image slot p ≡ removed_words a image (places_of a image s.hthresh4 s.hthresh6 p slot) slot
words_delisted a image s es slot p g =
    ap (λ (h4 : ℕ × ℕ). removed_words a image (places_of a image h4 (hthresh6_in a image) p slot) slot) (hthresh4_is a image s es g)
    ∙ ap (λ (h6 : ℕ × ℕ). removed_words a image (places_of a image s.hthresh4 h6 p slot) slot) (hthresh6_is a image s es g)

-- What puts a policy to its node, where it has no chain of the exact part.
abbrev pub Plants : PolicyArea → List ℕ → List ℕ → ℕ → Policy → Option ℕ → Type 0
Plants a image words slot p bucket =
    (h4 h6 : ℕ × ℕ) (front back : List (ℕ × Policy)) → exact_key h4 h6 p ≡ bucket → ColumnsStand a image (front ++ back) → Misses slot (slots_in (front ++ back))
    → Apart (slots_in (front ++ back)) → length (front ++ back) < a.slots → AllAre (λ q. not (comes_after q p)) true front → AllAre (λ q. not (comes_after q p)) false back
    → HoldPart (trees_of a) image h4 h6 (front ++ back) → HoldPart (trees_of a) words h4 h6 (front ++ ((slot, p) ∷ back))

-- What takes one from its node, where it has none.
abbrev pub Uproots : PolicyArea → List ℕ → List ℕ → ℕ → Policy → Option ℕ → Type 0
Uproots a image words slot p bucket =
    (h4 h6 : ℕ × ℕ) (front back : List (ℕ × Policy)) → exact_key h4 h6 p ≡ bucket → Apart (slots_in (front ++ ((slot, p) ∷ back)))
    → HoldPart (trees_of a) image h4 h6 (front ++ ((slot, p) ∷ back)) → HoldPart (trees_of a) words h4 h6 (front ++ back)

columns_left : (a : PolicyArea) (image : List ℕ) (slot : ℕ) (p : Policy) (front back : List (ℕ × Policy)) → ColumnsStand a image (front ++ ((slot, p) ∷ back))
    → ColumnsStand a image (front ++ back)
columns_left a image slot p front back s = record {
  priorities = holds_taken (λ x. slice_index image (priority_place a x)) (λ q. q.spec.priority) slot p front back s.priorities;
  numbers = holds_taken (λ x. slice_index image (number_place a x)) (λ q. q.number) slot p front back s.numbers;
  records = holds_taken (λ x. record_at a image x) (λ q. Some q) slot p front back s.records;
}

own_key : (a : PolicyArea) (image : List ℕ) (s : Shown) (es : List (ℕ × Policy)) (p : Policy) (bucket : Option ℕ) → PoliciesStand a image s es
    → bucket ≡ exact_key (hthresh4_in a image) (hthresh6_in a image) p → exact_key s.hthresh4 s.hthresh6 p ≡ bucket
own_key a image s es p bucket g e =
    sym (e ∙ (ap (λ (h : ℕ × ℕ). exact_key h (hthresh6_in a image) p) (hthresh4_is a image s es g)
    ∙ ap (λ (h : ℕ × ℕ). exact_key s.hthresh4 h p) (hthresh6_is a image s es g)))

pub listed_stands : (a : PolicyArea) (image mid words : List ℕ) (n : ℕ) (s : Shown) (es : List (ℕ × Policy)) (slot : ℕ) (p : Policy) (word : ℕ) (bucket : Option ℕ)
    → length image ≡ n → WholeFits a n → slot < a.slots → PolicyFits p
    → mid ≡ listed_words a image slot p word → bucket ≡ exact_key (hthresh4_in a image) (hthresh6_in a image) p
    → Frame a.base (end_of a) image mid → Frame (end_of a) (whole_end a) mid words → Plants a mid words slot p bucket
    → p.number ≡ s.next_number → InOrder s → SpdStands a image s es → Misses slot (slots_in es)
    → SpdStands a words (with_listed s p (word + 1)) (entries_with slot p es)
listed_stands a image mid words n s es slot p word bucket e fits below code we be one two plants number sound g miss =
    let test : Policy → Bool = λ q. not (comes_after q p) in
    let t : Shown = with_listed s p (word + 1) in
    let newest : All (λ q. q.number < p.number) s.policies = subst (λ (k : ℕ). All (λ q. q.number < k) s.policies) (sym number) sound.numbers_given in
    let parts : Parted test es =
    parted test es (subst (λ (ps : List Policy). Falls test ps) (sym g.list.listed) (falls p s.policies sound.ordered newest)) in
    let whole : entries_with slot p es ≡ parts.front ++ ((slot, p) ∷ parts.back) =
    ap (λ (xs : List (ℕ × Policy)). entries_with slot p xs) parts.whole ∙ entries_with_is p slot parts.front parts.back parts.before parts.after in
    let list : PoliciesStand a mid t (entries_with slot p es) =
    subst (λ (w : List ℕ). PoliciesStand a w t (entries_with slot p es)) (sym (we ∙ words_listed a image s es slot p word g.list))
    (stands_added a image n s es slot p word (word + 1) (list_fits a n fits) e below code sound miss number refl g.list) in
    let columns : ColumnsStand a mid (parts.front ++ parts.back) =
    columns_left a mid slot p parts.front parts.back (subst (λ (xs : List (ℕ × Policy)). ColumnsStand a mid xs) whole list.columns) in
    let room : length s.policies < s.max_policies = room_left a image s es slot g.list below miss in
    let most : s.max_policies ≡ a.slots = g.list.room in
    let long : length (parts.front ++ parts.back) ≡ length s.policies =
    sym (ap (λ (xs : List (ℕ × Policy)). length xs) parts.whole) ∙ (sym (records_length es) ∙ ap (λ (ps : List Policy). length ps) g.list.listed) in
    let part : HoldPart (trees_of a) mid s.hthresh4 s.hthresh6 (parts.front ++ parts.back) =
    subst (λ (xs : List (ℕ × Policy)). HoldPart (trees_of a) mid s.hthresh4 s.hthresh6 xs) parts.whole (list_written a image mid n s.hthresh4 s.hthresh6 es fits one g.part) in
    record {
      list = trees_written a mid words n t (entries_with slot p es) fits two list;
      part = subst (λ (xs : List (ℕ × Policy)). HoldPart (trees_of a) words s.hthresh4 s.hthresh6 xs) (sym whole)
          (plants s.hthresh4 s.hthresh6 parts.front parts.back (own_key a image s es p bucket g.list be) columns
          (subst (λ (xs : List (ℕ × Policy)). Misses slot (slots_in xs)) parts.whole miss)
          (subst (λ (xs : List (ℕ × Policy)). Apart (slots_in xs)) parts.whole (entries_apart a image s.hthresh4 s.hthresh6 es g.list.links))
          (omega (arith, room, most, long)) parts.before parts.after part);
    }

pub delisted_stands : (a : PolicyArea) (image mid words : List ℕ) (n : ℕ) (s : Shown) (es : List (ℕ × Policy)) (slot : ℕ) (p : Policy) (bucket : Option ℕ)
    → length image ≡ n → WholeFits a n → mid ≡ delisted_words a image slot p → bucket ≡ exact_key (hthresh4_in a image) (hthresh6_in a image) p
    → Frame a.base (end_of a) image mid → Frame (end_of a) (whole_end a) mid words → Uproots a mid words slot p bucket
    → IsEntry es slot p → SpdStands a image s es
    → SpdStands a words (with_policies s (records_in (slot_left slot es))) (slot_left slot es)
delisted_stands a image mid words n s es slot p bucket e fits we be one two uproots is g =
    let t : Shown = with_policies s (records_in (slot_left slot es)) in
    let list : PoliciesStand a mid t (slot_left slot es) =
    subst (λ (w : List ℕ). PoliciesStand a w t (slot_left slot es)) (sym (we ∙ words_delisted a image s es slot p g.list))
    (stands_removed a image n s es slot p (list_fits a n fits) e is g.list) in
    let apart : Apart (slots_in (is.front ++ ((slot, p) ∷ is.behind))) =
    subst (λ (xs : List (ℕ × Policy)). Apart (slots_in xs)) is.whole (entries_apart a image s.hthresh4 s.hthresh6 es g.list.links) in
    let miss = misses_both slot p is.front is.behind apart in
    let left : slot_left slot es ≡ is.front ++ is.behind =
    ap (λ (xs : List (ℕ × Policy)). slot_left slot xs) is.whole ∙ left_is slot p is.front is.behind miss.0 miss.1 in
    let part : HoldPart (trees_of a) mid s.hthresh4 s.hthresh6 (is.front ++ ((slot, p) ∷ is.behind)) =
    subst (λ (xs : List (ℕ × Policy)). HoldPart (trees_of a) mid s.hthresh4 s.hthresh6 xs) is.whole (list_written a image mid n s.hthresh4 s.hthresh6 es fits one g.part) in
    record {
      list = trees_written a mid words n t (slot_left slot es) fits two list;
      part = subst (λ (xs : List (ℕ × Policy)). HoldPart (trees_of a) words s.hthresh4 s.hthresh6 xs) (sym left)
          (uproots s.hthresh4 s.hthresh6 is.front is.behind (own_key a image s es p bucket g.list be) apart part);
    }

pub warned_stands : (a : PolicyArea) (image : List ℕ) (n : ℕ) (s : Shown) (es : List (ℕ × Policy)) (slot : ℕ) (p : Policy)
    → WholeFits a n → slot < a.slots → length image ≡ n → IsEntry es slot p → SpdStands a image s es
    → SpdStands a (warned_words a image slot) (with_policies s (records_in (slot_warned slot es))) (slot_warned slot es)
warned_stands a image n s es slot p fits below e is g =
    let words : List ℕ = warned_words a image slot in
    let apart : Apart (slots_in (is.front ++ ((slot, p) ∷ is.behind))) =
    subst (λ (xs : List (ℕ × Policy)). Apart (slots_in xs)) is.whole (entries_apart a image s.hthresh4 s.hthresh6 es g.list.links) in
    let miss = misses_both slot p is.front is.behind apart in
    let same : slot_warned slot es ≡ is.front ++ ((slot, warned p) ∷ is.behind) =
    ap (λ (xs : List (ℕ × Policy)). slot_warned slot xs) is.whole ∙ warned_is slot p is.front is.behind miss.0 miss.1 in
    let part : HoldPart (trees_of a) words s.hthresh4 s.hthresh6 (is.front ++ ((slot, p) ∷ is.behind)) =
    subst (λ (xs : List (ℕ × Policy)). HoldPart (trees_of a) words s.hthresh4 s.hthresh6 xs) is.whole
    (list_written a image words n s.hthresh4 s.hthresh6 es fits (warned_frame a image slot below) g.part) in
    record {
      list = stands_warned a image n s es slot p (list_fits a n fits) e is g.list;
      part = subst (λ (xs : List (ℕ × Policy)). HoldPart (trees_of a) words s.hthresh4 s.hthresh6 xs) (sym same)
          (part_changed (trees_of a) words s.hthresh4 s.hthresh6 is.front is.behind slot p (warned p) refl part);
    }
