-- One row of words in regions: four numbers, a pin word for each seat, the image, a turn word for each slot.
use Rattle.std.proofs.Common.{◌≡◌, ℕ, zero, suc, ◌+◌, ◌<◌, List, [], ◌∷◌, ◌++◌, length, set, get_or, refl, ap, ◌∙◌, arith}
use Rattle.xf_table.specs.Rule.{laid}

set_left : (xs ys : List ℕ) (p x : ℕ) → p < length xs → set (xs ++ ys) p x ≡ set xs p x ++ ys
set_left [] ys p x h = absurd (omega arith)
set_left (a ∷ xs) ys zero x h = refl
set_left (a ∷ xs) ys (suc p) x h = ap (λ l. a ∷ l) (set_left xs ys p x (omega arith))

set_right : (xs ys : List ℕ) (p x : ℕ) → set (xs ++ ys) (p + length xs) x ≡ xs ++ set ys p x
set_right [] ys p x = ap (λ k. set ys k x) (omega arith)
set_right (a ∷ xs) ys p x = let e : p + suc (length xs) ≡ suc (p + length xs) = omega arith in ap (λ k. set (a ∷ (xs ++ ys)) k x) e ∙ ap (λ l. a ∷ l) (set_right xs ys p x)

get_left : (xs ys : List ℕ) (p : ℕ) → p < length xs → get_or (xs ++ ys) p 0 ≡ get_or xs p 0
get_left [] ys p h = absurd (omega arith)
get_left (a ∷ xs) ys zero h = refl
get_left (a ∷ xs) ys (suc p) h = get_left xs ys p (omega arith)

get_right : (xs ys : List ℕ) (p : ℕ) → get_or (xs ++ ys) (p + length xs) 0 ≡ get_or ys p 0
get_right [] ys p = ap (λ k. get_or ys k 0) (omega arith)
get_right (a ∷ xs) ys p = let e : p + suc (length xs) ≡ suc (p + length xs) = omega arith in ap (λ k. get_or (a ∷ (xs ++ ys)) k 0) e ∙ get_right xs ys p

module _ (numbers pins image turns : List ℕ) where
  pub set_pin : (p x : ℕ) → p < length pins → set (laid numbers pins image turns) (p + length numbers) x ≡ laid numbers (set pins p x) image turns
  set_pin p x h = set_right numbers (pins ++ (image ++ turns)) p x ∙ ap (λ l. numbers ++ l) (set_left pins (image ++ turns) p x h)

  pub set_word : (p x : ℕ) → p < length image → set (laid numbers pins image turns) ((p + length pins) + length numbers) x ≡ laid numbers pins (set image p x) turns
  set_word p x h = set_right numbers (pins ++ (image ++ turns)) (p + length pins) x ∙ (ap (λ l. numbers ++ l) (set_right pins (image ++ turns) p x) ∙ ap (λ l. numbers ++ (pins ++ l)) (set_left image turns p x h))

  pub set_turn : (p x : ℕ) → set (laid numbers pins image turns) (((p + length image) + length pins) + length numbers) x ≡ laid numbers pins image (set turns p x)
  set_turn p x = set_right numbers (pins ++ (image ++ turns)) ((p + length image) + length pins) x ∙ (ap (λ l. numbers ++ l) (set_right pins (image ++ turns) (p + length image) x) ∙ ap (λ l. numbers ++ (pins ++ l)) (set_right image turns p x))

  pub get_pin : (p : ℕ) → p < length pins → get_or (laid numbers pins image turns) (p + length numbers) 0 ≡ get_or pins p 0
  get_pin p h = get_right numbers (pins ++ (image ++ turns)) p ∙ get_left pins (image ++ turns) p h

  pub get_word : (p : ℕ) → p < length image → get_or (laid numbers pins image turns) ((p + length pins) + length numbers) 0 ≡ get_or image p 0
  get_word p h = get_right numbers (pins ++ (image ++ turns)) (p + length pins) ∙ (get_right pins (image ++ turns) p ∙ get_left image turns p h)

  pub get_turn : (p : ℕ) → get_or (laid numbers pins image turns) (((p + length image) + length pins) + length numbers) 0 ≡ get_or turns p 0
  get_turn p = get_right numbers (pins ++ (image ++ turns)) ((p + length image) + length pins) ∙ (get_right pins (image ++ turns) (p + length image) ∙ get_right image turns p)
