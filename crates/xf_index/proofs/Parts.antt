-- A list of entries that a test parts.
use Rattle.std.proofs.Common.{◌≡◌, ℕ, suc, ◌+◌, Bool, true, false, List, [], ◌∷◌, ◌++◌, refl, ap, ◌∙◌, arith, rules, not, cond}
use Rattle.std.specs.Prelude.{insert}
use Rattle.std.specs.List.{position_or_len}
use Rattle.xf_index.specs.Indexes.{records_in, AllAre}
use Rattle.xf_index.specs.Parts.{AllOf, Falls, Parted}

all_entries : {A : Type 0} (test : A → Bool) (b : Bool) (es : List (ℕ × A)) → AllOf test b (records_in es) → AllAre test b es
all_entries test b [] a = search rules
all_entries test b (e ∷ es) a = (a.0, all_entries test b es a.1)

parted_step : {A : Type 0} (test : A → Bool) (e : ℕ × A) (es : List (ℕ × A)) (b : Bool) → test e.1 ≡ b → (b ≡ false → AllOf test false (records_in es)) → Parted test es → Parted test (e ∷ es)
parted_step test e es true h f p = record { front = e ∷ p.front; back = p.back; whole = ap (λ r. e ∷ r) p.whole; before = (h, p.before); after = p.after }
parted_step test e es false h f p = record { front = []; back = e ∷ es; whole = refl; before = search rules; after = (h, all_entries test false es (f refl)) }

pub parted : {A : Type 0} (test : A → Bool) (es : List (ℕ × A)) → Falls test (records_in es) → Parted test es
parted test [] f = record { front = []; back = []; whole = refl; before = search rules; after = search rules }
parted test (e ∷ es) f = parted_step test e es (test e.1) refl (λ h. f.0 h) (parted test es f.1)

-- a record goes between the two parts

-- a record goes between the two parts
pub inserted_between : {A : Type 0} (after : A → Bool) (r : A) (xs ys : List A) → AllOf after false xs → AllOf after true ys
    → insert (xs ++ ys) (position_or_len after (xs ++ ys)) r ≡ xs ++ (r ∷ ys)
inserted_between after r [] [] a b = refl
inserted_between after r [] (y ∷ ys) a b = ap (λ (c : Bool). insert (y ∷ ys) (cond (not c) (1 + position_or_len after ys) 0) r) b.0
inserted_between after r (x ∷ xs) ys a b =
    let e : 1 + position_or_len after (xs ++ ys) ≡ suc (position_or_len after (xs ++ ys)) = omega arith in
    ap (λ (c : Bool). insert (x ∷ (xs ++ ys)) (cond (not c) (1 + position_or_len after (xs ++ ys)) 0) r) a.0
    ∙ (ap (λ n. insert (x ∷ (xs ++ ys)) n r) e ∙ ap (λ l. x ∷ l) (inserted_between after r xs ys a.1 b))
