-- What receipts that don't move do to one state's own part, one after another.
use Rattle.std.proofs.Common.{◌≡◌, ℕ, List, [], ◌∷◌, Some, None, Option, refl, sym, ap, ◌∙◌, All}
use Rattle.std.proofs.lemmas.List.Elements.{All-head, All-tail, All-weaker}
use mathlib.Core.Logic.{dite}
use native.Mathlib.Decide.{ℕ_discrete}
use Rattle.xf_types.specs.declared.call.Call.{Call}
use Rattle.xf_types.specs.declared.call.Receipt.{Receipt}
use Rattle.xf_types.specs.declared.state.Sa.{Sa}
use Rattle.xf_types.specs.Machine.{Own, Shown}
use Rattle.xf_late.specs.Rests.{rests_on, own_touched}
use Rattle.xf_late.specs.LateLaws.{RestElsewhere}
use Rattle.xf_late.proofs.Owns.{touched-other}

abbrev pub touches : Shown → Sa → Own → List Receipt → Own
touches s x own [] = own
touches s x own (q ∷ qs) = touches s x (own_touched (rests_on s q) q.call s.time x own) qs

-- where none rests on it, nothing
pub touches-none : (s : Shown) (x : Sa) (own : Own) (rs : List Receipt) → RestElsewhere s x.sid rs → touches s x own rs ≡ own
touches-none s x own [] h = refl
touches-none s x own (q ∷ qs) h =
    ap (λ (o : Own). touches s x o qs) (touched-other (rests_on s q) q.call s.time x own (All-head (λ (r : Receipt). rests_on s r ≡ Some x.sid → ⊥) q qs h))
    ∙ touches-none s x own qs (All-tail (λ (r : Receipt). rests_on s r ≡ Some x.sid → ⊥) q qs h)

same_number : (a b : ℕ) → Some a ≡ Some b → a ≡ b
same_number a b q = cc

-- one that is no matter to them may as well come last
pub touched-last : (s : Shown) (x : Sa) (own : Own) (one : Option ℕ) (c : Call) (rs : List Receipt)
    → All (λ q. (sid : ℕ) → one ≡ Some sid → rests_on s q ≡ Some sid → ⊥) rs
    → touches s x (own_touched one c s.time x own) rs ≡ own_touched one c s.time x (touches s x own rs)
touched-last s x own None c rs away = refl
touched-last s x own (Some one) c rs away = dite (ℕ_discrete x.sid one)
    (λ is.
    let none : RestElsewhere s x.sid rs =
    All-weaker (λ (q : Receipt). (sid : ℕ) → Some one ≡ Some sid → rests_on s q ≡ Some sid → ⊥) (λ (q : Receipt). rests_on s q ≡ Some x.sid → ⊥) (λ q h e. h one refl (e ∙ ap Some is)) rs away in
    touches-none s x (own_touched (Some one) c s.time x own) rs none
    ∙ ap (own_touched (Some one) c s.time x) (sym (touches-none s x own rs none)))
    (λ other.
    let not_it : Some one ≡ Some x.sid → ⊥ = λ e. other (sym (same_number one x.sid e)) in
    ap (λ (o : Own). touches s x o rs) (touched-other (Some one) c s.time x own not_it)
    ∙ sym (touched-other (Some one) c s.time x (touches s x own rs) not_it))
