-- What the insertion of a policy makes of the part.
use Rattle.std.proofs.Common.{◌≡◌, ℕ, ◌<◌, ◌++◌, true, false, not, List, [], ◌∷◌, Option, None, length, ap, sym, ◌∙◌, subst, slice_index}
use Rattle.xf_chain.specs.Chains.{Below}
use Rattle.xf_chain.specs.Families.{Lays, put_in}
use Rattle.xf_chain.specs.Lists.{Apart, Misses}
use Rattle.xf_exact.specs.Parts.{is_in_exact}
use Rattle.xf_image.specs.Placing.{place_in}
use Rattle.xf_image.specs.Policies.{ColumnsStand}
use Rattle.xf_index.specs.Indexes.{AllAre, Indexed, slots_in}
use Rattle.xf_index.proofs.Frames.{put_outside}
use Rattle.xf_index.proofs.Puts.{indexed_front, indexed_put}
use Rattle.xf_types.specs.declared.policy.Policy.{Policy}
use Rattle.xf_types.specs.PolicyList.{comes_after}
use Rattle.xf_inexact.specs.declared.inexact.Inexact.{Inexact}
use Rattle.xf_inexact.specs.Grown.{KeysFit, policy_first, policy_put, source_grown, source_put}
use Rattle.xf_inexact.specs.Holds.{HoldPart, inexact_key}
use Rattle.xf_inexact.specs.Places.{Fits, chains_of}
use Rattle.xf_inexact.proofs.Apart.{chains_lay}
use Rattle.xf_inexact.proofs.GrowChains.{chains_grown, key_grown, part_grown, place_grown}
use Rattle.xf_inexact.proofs.GrowFrames.{source_length, source_of_count}
use Rattle.xf_inexact.proofs.GrowParts.{PolicyGrows, policy_grows}
use Rattle.xf_inexact.proofs.Rooms.{six_free}

lays_grown : (x : Inexact) (image : List ℕ) (size : ℕ) (p : Policy) → length image ≡ size → Fits x size → Lays (chains_of x) (length (source_grown x image p))
lays_grown x image size p n fits = subst (λ (m : ℕ). Lays (chains_of x) m) (sym (source_length x image p ∙ n)) (chains_lay x size fits)

-- there is room for a policy more
grows : (x : Inexact) (image : List ℕ) (size : ℕ) (h4 h6 : ℕ × ℕ) (es : List (ℕ × Policy)) (p : Policy) (h : HoldPart x image h4 h6 es)
    → length image ≡ size → Fits x size → KeysFit p → length es < x.area.slots → PolicyGrows x image p h.trees.trees
grows x image size h4 h6 es p h n fits keys few = policy_grows x image size p h.trees n fits keys (six_free x image h4 h6 es h few)

-- in the order of the list
pub ordered_entries : (x : Inexact) (image words : List ℕ) (size slot : ℕ) (p : Policy) (h4 h6 : ℕ × ℕ) (front back : List (ℕ × Policy))
    → words ≡ policy_put x image slot p → length image ≡ size → Fits x size → KeysFit p → slot < x.area.slots
    → Below x.area.slots (place_in x.area (source_grown x image p) p (chains_of x) (source_put x image p))
    → is_in_exact h4 h6 p ≡ false → ColumnsStand x.area image (front ++ back) → Misses slot (slots_in (front ++ back)) → Apart (slots_in (front ++ back))
    → length (front ++ back) < x.area.slots
    → AllAre (λ q. not (comes_after q p)) true front → AllAre (λ q. not (comes_after q p)) false back
    → HoldPart x image h4 h6 (front ++ back) → HoldPart x words h4 h6 (front ++ ((slot, p) ∷ back))
unfolding policy_put
ordered_entries x image words size slot p h4 h6 front back w n fits keys s b e stand miss apart few before after h =
    let g : PolicyGrows x image p h.trees.trees = grows x image size h4 h6 (front ++ back) p h n fits keys few in
    let grown : List ℕ = source_grown x image p in
    let o : Option ℕ = source_put x image p in
    let key : Policy → Option ℕ = inexact_key x (source_grown x image p) h4 h6 in
    let is : Indexed (chains_of x) grown key (front ++ back) = chains_grown x image size h4 h6 (front ++ back) p h g n fits in
    part_grown x image words h4 h6 front back slot p h g e
    (λ q out. ap (λ (i : List ℕ). slice_index i q) w
    ∙ put_outside (chains_of x) grown size o (place_in x.area (source_grown x image p) p (chains_of x) (source_put x image p)) slot q (chains_lay x size fits) (source_of_count x image p) b s out)
    (subst (λ (i : List ℕ). Indexed (chains_of x) i key (front ++ ((slot, p) ∷ back)))
    (sym (w ∙ ap (λ (k : Option ℕ). put_in (chains_of x) grown o k slot) (place_grown x image size key front back p o n fits (source_of_count x image p) stand before after is)))
    (indexed_put (chains_of x) grown key front back slot p o (key_grown x image h4 h6 p h.trees g e) (lays_grown x image size p n fits) s (source_of_count x image p) miss apart is))

-- at the front
pub first_entries : (x : Inexact) (image words : List ℕ) (size slot : ℕ) (p : Policy) (h4 h6 : ℕ × ℕ) (back : List (ℕ × Policy))
    → words ≡ policy_first x image slot p → length image ≡ size → Fits x size → KeysFit p → slot < x.area.slots
    → is_in_exact h4 h6 p ≡ false → Misses slot (slots_in back) → Apart (slots_in back) → length back < x.area.slots
    → HoldPart x image h4 h6 back → HoldPart x words h4 h6 ((slot, p) ∷ back)
unfolding policy_first
first_entries x image words size slot p h4 h6 back w n fits keys s e miss apart few h =
    let g : PolicyGrows x image p h.trees.trees = grows x image size h4 h6 back p h n fits keys few in
    let grown : List ℕ = source_grown x image p in
    let o : Option ℕ = source_put x image p in
    let key : Policy → Option ℕ = inexact_key x (source_grown x image p) h4 h6 in
    let is : Indexed (chains_of x) grown key back = chains_grown x image size h4 h6 back p h g n fits in
    part_grown x image words h4 h6 [] back slot p h g e
    (λ q out. ap (λ (i : List ℕ). slice_index i q) w ∙ put_outside (chains_of x) grown size o None slot q (chains_lay x size fits) (source_of_count x image p) tt s out)
    (subst (λ (i : List ℕ). Indexed (chains_of x) i key ((slot, p) ∷ back)) (sym w)
    (indexed_front (chains_of x) grown key back slot p o (key_grown x image h4 h6 p h.trees g e) (lays_grown x image size p n fits) s (source_of_count x image p) miss apart is))
