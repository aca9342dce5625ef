-- Statuses that move as a list does.
use Rattle.std.proofs.Common.{◌≡◌, ◌≢◌, ℕ, ◌+◌, ◌<◌, ◌==◌, not, cond, Bool, true, false, List, [], ◌∷◌, length, refl, sym, ap, ◌∙◌, Option, Some, None, All, slice_index, ◌⊎◌, inl, inr, eqb-true, eq-eqb}
use Rattle.std.proofs.lemmas.Bool.{ne_eqb}
use Rattle.std.proofs.lemmas.List.Elements.{All-nil, All-cons, All-head, All-tail, All-append, All-weaker}
use Rattle.xf_types.specs.PolicyList.{without}
use Rattle.xf_chain.specs.Lists.{Misses, Apart, Within}
use Rattle.xf_chain.proofs.Slots.{misses_front, misses_back}
use Rattle.xf_retired.specs.Pools.{listed_slots}
use Rattle.xf_meaning.specs.Marks.{AreMarked as Marked}
use Rattle.xf_meaning.proofs.Entries.{count_marked}
use Rattle.xf_desk.specs.Marks.{one_of, moved_slots, AreMoved}

came_or : (came : Option ℕ) (slot : ℕ) → (came ≡ Some slot) ⊎ (came ≢ Some slot)
came_or None slot = inr (λ e. absurd cc)
came_or (Some one) slot = elim (one == slot) as (λ t. (one == slot) ≡ t → (Some one ≡ Some slot) ⊎ (Some one ≢ Some slot)) [
  | true ↦ λ e. inl (ap (λ n. Some n) (eqb-true one slot e))
  | false ↦ λ e. inr (λ f. let same : one ≡ slot = cc in let t = eq-eqb one slot same in absurd cc)
] refl

-- a slot that stays is among those that are left
misses_left : (gone : ℕ → Bool) (slot : ℕ) (xs : List ℕ) → gone slot ≡ false → Misses slot (without gone xs) → Misses slot xs
misses_left gone slot [] stays = λ m. tt
misses_left gone slot (x ∷ xs) stays = at (misses_left gone slot xs stays) (gone x) refl
  where
    at : (Misses slot (without gone xs) → Misses slot xs) → (b : Bool) → gone x ≡ b → Misses slot (cond (not b) (x ∷ without gone xs) (without gone xs)) → Misses slot (x ∷ xs)
    at rest true e m = (λ same. let t : gone slot ≡ true = ap gone same ∙ e in absurd cc, rest m)
    at rest false e m = (m.0, rest m.1)

module _ (first size : ℕ) (old new : List ℕ) (gone : ℕ → Bool) (came : Option ℕ) (moved : AreMoved first size old new gone came) where
  abbrev IsOne : ℕ → Type 0
  IsOne slot = slice_index new (first + slot) ≡ 1

  stays_one : (slot : ℕ) → slot < size → gone slot ≡ false → slice_index old (first + slot) ≡ 1 → IsOne slot
  stays_one slot l stays was = elim (came_or came slot) [
    | inl is ↦ moved.came_is slot is
    | inr d ↦ moved.others slot l stays d ∙ was
  ]

  left_listed : (xs : List ℕ) → Within size xs → All (λ slot. slice_index old (first + slot) ≡ 1) xs → All IsOne (without gone xs)
  left_listed [] w all = All-nil IsOne
  left_listed (x ∷ xs) w all = at (left_listed xs w.1 (All-tail (λ slot. slice_index old (first + slot) ≡ 1) x xs all)) (gone x) refl
    where
      at : All IsOne (without gone xs) → (b : Bool) → gone x ≡ b → All IsOne (cond (not b) (x ∷ without gone xs) (without gone xs))
      at rest true e = rest
      at rest false e = All-cons IsOne x (without gone xs) (stays_one x w.0 e (All-head (λ slot. slice_index old (first + slot) ≡ 1) x xs all)) rest

  came_listed : (o : Option ℕ) → came ≡ o → All IsOne (one_of o)
  came_listed None e = All-nil IsOne
  came_listed (Some slot) e = All-cons IsOne slot [] (moved.came_is slot e) (All-nil IsOne)

  not_came : (o : Option ℕ) (slot : ℕ) → Misses slot (one_of o) → o ≢ Some slot
  not_came None slot m e = absurd cc
  not_came (Some one) slot m e = let same : slot ≡ one = cc in m.0 same

  pub moved_marks : (xs : List ℕ) → Within size xs → Marked first size old xs → Marked first size new (moved_slots gone came xs)
  moved_marks xs w marked = record {
    listed = All-append IsOne (without gone xs) (one_of came) (left_listed xs w marked.listed) (came_listed came refl);
    others = λ slot l m.
        let d = not_came came slot (misses_back slot (without gone xs) (one_of came) m) in
        let front = misses_front slot (without gone xs) (one_of came) m in
        elim (gone slot) as (λ t. gone slot ≡ t → slice_index new (first + slot) ≢ 1) [
          | true ↦ λ e. moved.gone_are slot l e d
          | false ↦ λ e is. marked.others slot l (misses_left gone slot xs e front) (sym (moved.others slot l e d) ∙ is)
        ] refl;
  }

module _ (first size : ℕ) (image xs : List ℕ) (marked : Marked first size image xs) (apart : Apart xs) (within : Within size xs) where
  -- as many have the status of a listed one
  pub count_is : listed_slots image first size ≡ length xs
  count_is =
      count_marked size (λ k. slice_index image (first + k) == 1) xs apart within
      (All-weaker (λ k. slice_index image (first + k) ≡ 1) (λ k. (slice_index image (first + k) == 1) ≡ true) (λ k e. eq-eqb (slice_index image (first + k)) 1 e) xs marked.listed)
      (λ k l m. ne_eqb (slice_index image (first + k)) 1 (marked.others k l m))

unlisted : (first slot : ℕ) (image xs : List ℕ) → All (λ k. slice_index image (first + k) ≡ 1) xs → slice_index image (first + slot) ≢ 1 → Misses slot xs
unlisted first slot image [] all d = tt
unlisted first slot image (x ∷ xs) all d = (
  λ same. d (ap (λ k. slice_index image (first + k)) same ∙ All-head (λ k. slice_index image (first + k) ≡ 1) x xs all),
  unlisted first slot image xs (All-tail (λ k. slice_index image (first + k) ≡ 1) x xs all) d,
)

pub misses_unlisted : (first size slot : ℕ) (image xs : List ℕ) → Marked first size image xs → slice_index image (first + slot) ≢ 1 → Misses slot xs
misses_unlisted first size slot image xs marked d = unlisted first slot image xs marked.listed d
