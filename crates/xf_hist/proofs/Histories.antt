-- One receipt more of a history.
use Rattle.std.proofs.Common.{arith, ◌≡◌, ℕ, zero, suc, ◌+◌, ◌<◌, List, [], ◌∷◌, ◌++◌, length, get_or, take, drop, reverse, refl, ap, sym, ◌∙◌, subst}
use Rattle.std.proofs.lemmas.List.{take_more, reverse-append}
use Rattle.xf_types.specs.declared.call.Receipt.{Receipt}
use Rattle.xf_types.specs.Machine.{Machine}
use Rattle.xf_types.specs.History.{Moment, MayReply, next_moment, moment_of, IsLegalFrom, beginning}
use Rattle.xf_hist.specs.declared.moment.Moment.{Moment as Kept}
use Rattle.xf_hist.specs.Moments.{at, IsNext}

-- a legal list is legal up to a moment and from there
legal-both : (t : Moment) (xs ys : List Receipt) → IsLegalFrom t (xs ++ ys) → IsLegalFrom t xs × IsLegalFrom (moment_of t xs) ys
legal-both t [] ys h = (tt, h)
legal-both t (x ∷ xs) ys h = let rest = legal-both (next_moment t x) xs ys h.1 in ((h.0, rest.0), rest.1)

legal-more : (t : Moment) (xs ys : List Receipt) → IsLegalFrom t xs → IsLegalFrom (moment_of t xs) ys → IsLegalFrom t (xs ++ ys)
legal-more t [] ys h k = k
legal-more t (x ∷ xs) ys h k = (h.0, legal-more (next_moment t x) xs ys h.1 k)

moment-more : (t : Moment) (xs : List Receipt) (r : Receipt) → moment_of t (xs ++ r ∷ []) ≡ next_moment (moment_of t xs) r
moment-more t [] r = refl
moment-more t (x ∷ xs) r = moment-more (next_moment t x) xs r

split-at : (rs : List Receipt) (i : ℕ) (r : Receipt) → i < length rs → r ≡ get_or rs i r → take i rs ++ r ∷ drop (suc i) rs ≡ rs
split-at [] i r within at_i = absurd (omega (arith, within))
split-at (q ∷ rs) zero r within at_i = ap (λ (x : Receipt). x ∷ rs) at_i
split-at (q ∷ rs) (suc i) r within at_i = ap (λ xs. q ∷ xs) (split-at rs i r (omega (arith, within)) at_i)

one-more : (rs : List Receipt) (i : ℕ) (r : Receipt) → i < length rs → r ≡ get_or rs i r → take (i + 1) rs ≡ take i rs ++ r ∷ []
one-more rs i r within at_i = take_more rs i r within ∙ ap (λ (x : Receipt). take i rs ++ x ∷ []) (sym at_i)

-- a reply that may not stand ends the history
pub stops : (start : Machine) (rs : List Receipt) (i : ℕ) (r : Receipt) (t : Moment) → i < length rs → r ≡ get_or rs i r
    → t ≡ moment_of (beginning start) (take i rs) → (MayReply t r r.reply → ⊥) → IsLegalFrom (beginning start) rs → ⊥
stops start rs i r t within at_i is never legal =
    let parts = legal-both (beginning start) (take i rs) (r ∷ drop (suc i) rs)
    (subst (λ xs. IsLegalFrom (beginning start) xs) (sym (split-at rs i r within at_i)) legal) in
    never (subst (λ (u : Moment). MayReply u r r.reply) (sym is) parts.1.0)

-- one that may goes on
pub goes-on : (start : Machine) (rs : List Receipt) (i : ℕ) (r : Receipt) (old new : Kept) → i < length rs → r ≡ get_or rs i r
    → IsLegalFrom (beginning start) (take i rs) → at old (reverse (take i rs)) ≡ moment_of (beginning start) (take i rs)
    → MayReply (at old (reverse (take i rs))) r r.reply → IsNext old (reverse (take i rs)) r new
    → IsLegalFrom (beginning start) (take (i + 1) rs)
    × (at new (reverse (take (i + 1) rs)) ≡ moment_of (beginning start) (take (i + 1) rs))
goes-on start rs i r old new within at_i legal is may next =
    let more = one-more rs i r within at_i in (
      subst (λ xs. IsLegalFrom (beginning start) xs) (sym more)
          (legal-more (beginning start) (take i rs) (r ∷ []) legal (subst (λ (u : Moment). MayReply u r r.reply) is may, tt)),
      ap (λ xs. at new (reverse xs)) more ∙ ap (at new) (reverse-append (take i rs) (r ∷ [])) ∙ next
          ∙ ap (λ (u : Moment). next_moment u r) is ∙ sym (moment-more (beginning start) (take i rs) r)
          ∙ ap (moment_of (beginning start)) (sym more),
    )
