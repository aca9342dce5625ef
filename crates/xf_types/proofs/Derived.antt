-- The tests of equality that a derive gives decide equality where those of the fields do.
use Rattle.std.proofs.Common.{◌≡◌, ◌&&◌, ◌==◌, Bool, true, false, None, Some, Decides, List, [], ◌∷◌, refl, ap, sym, subst}
use Rattle.std.proofs.lemmas.Bool.{true≢false}
use Rattle.std.proofs.lemmas.Bool.Decides.{Decides-and, Decides-like, Decides-eqb}
use Rattle.std.proofs.lemmas.Slice.Eq.{slice_eq-Decides}
use Rattle.std.specs.Option.{option_eq}
use lib.Pointwise.{pointwise}
use mathlib.Core.Logic.{◌⊎◌, inl, inr}
use denote.Struct.Field.{Field}
use denote.Enum.Declared.{Record, Declared, Choice, values_one, left_or, right_or}
use denote.Enum.Compared.{Each, by}
use denote.Enum.Bare.{Bare, sameb, same_true, true_same}

-- the test is true exactly where the two are equal
abbrev pub Same : {X : Type 0} → (X → X → Bool) → Type 0
Same {X} E = (a b : X) → Decides (E a b) (a ≡ b)

pub num : Same ◌==◌
num a b = Decides-eqb a b

pub options : {X : Type 0} {E : X → X → Bool} → Same E → Same (option_eq E)
options same None None = (λ _. refl, λ _. refl)
options same None (Some b) = (λ h. absurd (true≢false (sym h)), λ h. absurd cc)
options same (Some a) None = (λ h. absurd (true≢false (sym h)), λ h. absurd cc)
options {E} same (Some a) (Some b) = Decides-like (E a b) (λ h. ap (λ x. Some x) h) (λ h. cc) (same a b)

pub lists : {X : Type 0} {E : X → X → Bool} → Same E → Same (pointwise E)
lists {E} same xs ys = slice_eq-Decides same xs ys (pointwise E xs ys) refl

-- values of fields: none, one, or one before others
pub none : Same (λ (x y : Unit {0}). true)
none x y = (λ _. refl, λ _. refl)

pub one : {X : Type 0} {E : X → X → Bool} → Same E → Same (λ (x y : X × Unit {0}). E x.0 y.0)
one {X} {E} same x y = Decides-like (E x.0 y.0) (λ h. λ i. (h i, tt)) (λ h. ap (λ (p : X × Unit {0}). p.0) h) (same x.0 y.0)

pub more : {X Y : Type 0} {E : X → X → Bool} {F : Y → Y → Bool} → Same E → Same F → Same (λ (x y : X × Y). E x.0 y.0 && F x.1 y.1)
more {X} {Y} {E} {F} same others x y =
    Decides-like (E x.0 y.0 && F x.1 y.1) (λ h. λ i. (h.0 i, h.1 i))
    (λ h. (ap (λ (p : X × Y). p.0) h, ap (λ (p : X × Y). p.1) h))
    (Decides-and (E x.0 y.0) (F x.1 y.1) (same x.0 y.0) (others x.1 y.1))

-- a type whose values are told by those of another
pub told : {X Y : Type 0} (to : X → Y) → ((a b : X) → to a ≡ to b → a ≡ b) → {F : Y → Y → Bool} → Same F → Same (λ a b. F (to a) (to b))
told to back {F} same a b = Decides-like (F (to a) (to b)) (back a b) (λ h. ap to h) (same (to a) (to b))

-- an enum with no fields
pub bare : (D : Declared) → Bare D.parts → (a b : D.D) → Decides (sameb D a b) (a ≡ b)
bare D is a b = (same_true D is a b, true_same D a b)

-- each variant's test decides
abbrev pub AllSame : (Fss : List (List Field)) → Each Bool Fss → Type 0
AllSame [] each = Unit {0}
AllSame (Fs ∷ Fss) each = Same each.0 × AllSame Fss each.1

abbrev OnLeft : {A B : Type 0} → A ⊎ B → Type 0
OnLeft (inl x) = Unit {0}
OnLeft (inr y) = ⊥

choices : (Fss : List (List Field)) (each : Each Bool Fss) → AllSame Fss each → (c d : Choice Fss) → Decides (by false false Fss each c d) (c ≡ d)
choices [] each all c d = absurd c
choices (Fs ∷ Fss) each all (inl x) (inl y) =
    Decides-like (each.0 x y) (λ h. ap inl h) (λ h. ap (left_or x) h) (all.0 x y)
choices (Fs ∷ Fss) each all (inl x) (inr d) = (λ h. absurd (true≢false (sym h)), λ h. absurd (subst OnLeft h tt))
choices (Fs ∷ Fss) each all (inr c) (inl y) = (λ h. absurd (true≢false (sym h)), λ h. absurd (subst OnLeft (sym h) tt))
choices (Fs ∷ Fss) each all (inr c) (inr d) =
    Decides-like (by false false Fss each.1 c d) (λ h. ap inr h) (λ h. ap (right_or c) h) (choices Fss each.1 all.1 c d)

-- an enum with fields
pub variants : (N : Record) (each : Each Bool N.parts) → AllSame N.parts each → (a b : N.D)
    → Decides (by false false N.parts each (N.as_values a) (N.as_values b)) (a ≡ b)
variants N each all a b =
    Decides-like (by false false N.parts each (N.as_values a) (N.as_values b)) (values_one N a b) (λ h. ap N.as_values h)
    (choices N.parts each all (N.as_values a) (N.as_values b))
