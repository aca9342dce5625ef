-- Texts cut at a byte.
use Rattle.std.proofs.Common.{◌≡◌, ◌≢◌, ℕ, List, [], ◌∷◌, ◌++◌, None, Some, All, refl, sym, ap, ◌∙◌, subst, inl, inr, append_assoc, append-nil, eq-eqb, ne_eqb}
use Rattle.std.proofs.lemmas.Bool.{cases_eq}
use Rattle.std.proofs.lemmas.List.Elements.{All-nil, All-cons, All-append, All-head, All-tail}
use Rattle.std.proofs.lemmas.Option.{none-some, same_Some}
use Rattle.xf_addr.specs.Numbers.{cut_from}

-- the byte doesn't stand in the text
abbrev pub Lacks : ℕ → List ℕ → Type 0
Lacks byte text = All (λ c. c ≢ byte) text

pub Lacks-cons : (byte c : ℕ) (text : List ℕ) → c ≢ byte → Lacks byte text → Lacks byte (c ∷ text)
Lacks-cons byte c text h more = All-cons (λ x. x ≢ byte) c text h more

pub Lacks-append : (byte : ℕ) (a b : List ℕ) → Lacks byte a → Lacks byte b → Lacks byte (a ++ b)
Lacks-append byte a b h k = All-append (λ x. x ≢ byte) a b h k

-- a text that lacks the byte isn't cut
pub cut_lacks : (byte : ℕ) (text seen : List ℕ) → Lacks byte text → cut_from seen byte text ≡ None
cut_lacks byte [] seen h = refl
cut_lacks byte (c ∷ cs) seen h =
    rw (ne_eqb c byte (All-head (λ x. x ≢ byte) c cs h)) (cut_lacks byte cs (seen ++ c ∷ []) (All-tail (λ x. x ≢ byte) c cs h))

-- a text is cut behind a front that lacks the byte
pub cut_skip : (byte : ℕ) (front seen rest : List ℕ) → Lacks byte front → cut_from seen byte (front ++ byte ∷ rest) ≡ Some (seen ++ front, rest)
cut_skip byte [] seen rest h = rw (eq-eqb byte byte refl, append-nil seen) refl
cut_skip byte (c ∷ cs) seen rest h =
    rw (ne_eqb c byte (All-head (λ x. x ≢ byte) c cs h), ← append_assoc seen (c ∷ []) cs)
    (cut_skip byte cs (seen ++ c ∷ []) rest (All-tail (λ x. x ≢ byte) c cs h))

-- the two parts with the byte between them are the text, and the front lacks the byte
pub cut_sound : (byte : ℕ) (text seen : List ℕ) (parts : List ℕ × List ℕ) → Lacks byte seen → cut_from seen byte text ≡ Some parts
    → (seen ++ text ≡ parts.0 ++ byte ∷ parts.1) × Lacks byte parts.0
cut_sound byte [] seen parts h e = absurd (none-some _ e)
cut_sound byte (c ∷ cs) seen parts h e =
    elim (cases_eq c byte) [
      | inl same ↦
          let found : (seen, cs) ≡ parts = same_Some _ _ (rw (eq-eqb c byte same) at e) in (
            ap (λ (x : ℕ). seen ++ x ∷ cs) same ∙ ap (λ (q : List ℕ × List ℕ). q.0 ++ byte ∷ q.1) found,
            subst (λ (q : List ℕ × List ℕ). Lacks byte q.0) found h,
          )
      | inr other ↦
          let behind = Lacks-append byte seen (c ∷ []) h (Lacks-cons byte c [] other (All-nil (λ x. x ≢ byte))) in
          let (split, lacks) = cut_sound byte cs (seen ++ c ∷ []) parts behind (rw (ne_eqb c byte other) at e) in
          (sym (append_assoc seen (c ∷ []) cs) ∙ split, lacks)
    ]

-- a text that isn't cut lacks the byte
pub cut_none : (byte : ℕ) (text seen : List ℕ) → cut_from seen byte text ≡ None → Lacks byte text
cut_none byte [] seen e = All-nil (λ x. x ≢ byte)
cut_none byte (c ∷ cs) seen e =
    elim (cases_eq c byte) [
      | inl same ↦ absurd (none-some _ (sym (rw (eq-eqb c byte same) at e)))
      | inr other ↦ Lacks-cons byte c cs other (cut_none byte cs (seen ++ c ∷ []) (rw (ne_eqb c byte other) at e))
    ]
