-- One step more.
use Rattle.std.proofs.Common.{◌≡◌, ℕ, zero, suc, ◌+◌, ◌<◌, Bool, true, false, List, [], ◌∷◌, ◌++◌, length, Some, None, Option, refl, sym, ap, ◌∙◌, subst, arith, cond, take, drop, get_or}
use Rattle.std.specs.Prelude.{slice_get, slice_index, if◌then◌else◌}
use Rattle.std.proofs.lemmas.List.{take_more, drop_more, take-append-drop, length-take-le}
use Rattle.xf_proto.specs.declared.step.Kind.{Kind}
use Rattle.xf_proto.specs.declared.step.Kind.TheVariants as kind
use Rattle.xf_proto.specs.declared.step.Step.{Step}
use Rattle.xf_proto.specs.declared.step.StepFault.{StepFault}
use Rattle.xf_proto.specs.SeatState.{SeatState}
use Rattle.xf_proto.specs.ProtocolState.{ProtocolState}
use Rattle.xf_proto.specs.Legality.{may_step, is_by_trial, is_by_move}
use Rattle.xf_proto.specs.Effects.{state_after, drawn_later, drawn_now, taken_by}
use Rattle.xf_proto.specs.Table.{row_for, row_of, LeadTo}
use Rattle.xf_proto.specs.Runs.{place_of_fault, HasCause, StopsAt}

pub lead-snoc : (p : ProtocolState) (steps : List Step) (q : ProtocolState) (s : Step) (r : ProtocolState) → LeadTo p steps q → row_of q s ≡ Some r → LeadTo p (steps ++ s ∷ []) r
lead-snoc p [] q s r l e = (r, subst (λ z. row_of z s ≡ Some r) (sym l) e, refl)
lead-snoc p (one ∷ steps) q s r l e = (l.0, l.1, lead-snoc l.0 steps q s r l.2 e)

after-steps : (p : ProtocolState) (i : ℕ) (s : SeatState) (k : Kind) → (state_after p i s k).steps ≡ p.steps + 1
after-steps p i s kind.Ticket = refl
after-steps p i s kind.Serving = refl
after-steps p i s kind.Begin = refl
after-steps p i s (kind.Store place word) = refl
after-steps p i s (kind.Draw None) = refl
after-steps p i s (kind.Draw (Some r)) = by (is_by_trial s.hand r)
  where
    by : (b : Bool) → (cond b (drawn_later p i s (Some r)) (drawn_now p i s r (is_by_move s.hand r))).steps ≡ p.steps + 1
    by true = refl
    by false = refl
after-steps p i s kind.Finish = refl
after-steps p i s kind.Leave = refl
after-steps p i s kind.LoadGeneration = refl
after-steps p i s (kind.LoadWord place) = refl
after-steps p i s kind.Pin = refl
after-steps p i s kind.Unpin = refl
after-steps p i s (kind.LoadPin k) = refl
after-steps p i s (kind.TakeTurn slot) = by (slice_index p.turns slot)
  where
    by : (word : ℕ) → (taken_by p i s slot word).steps ≡ p.steps + 1
    by zero = refl
    by (suc word) = refl
after-steps p i s (kind.GiveTurn slot) = refl

pub row-steps : (p : ProtocolState) (s : Step) (q : ProtocolState) → row_of p s ≡ Some q → q.steps ≡ p.steps + 1
row-steps p s q e = by (slice_get p.seats s.actor) e
  where
    by_legal : (seat : SeatState) (b : Bool) → (if b then Some (state_after p s.actor seat s.kind) else None) ≡ Some q → q.steps ≡ p.steps + 1
    by_legal seat true e = let same : state_after p s.actor seat s.kind ≡ q = cc in ap (λ (z : ProtocolState). z.steps) (sym same) ∙ after-steps p s.actor seat s.kind
    by_legal seat false e = absurd (cc)

    by : (o : Option SeatState) → row_for p s.actor o s.kind ≡ Some q → q.steps ≡ p.steps + 1
    by None e = absurd (cc)
    by (Some seat) e = by_legal seat (may_step p s.actor seat.hand s.kind) e

-- so far so many of the steps were made
abbrev pub SoFar : ProtocolState → List Step → ℕ → ProtocolState → Type 0
SoFar old steps at p = LeadTo old (take at steps) p × (p.steps ≡ old.steps + at)

module _ (old : ProtocolState) (steps : List Step) (at : ℕ) (p : ProtocolState) (s : Step) (within : at < length steps) (is : s ≡ get_or steps at s) (far : SoFar old steps at p) where
  pub one-further : (q : ProtocolState) → row_of p s ≡ Some q → SoFar old steps (at + 1) q
  one-further q e = (
    subst (λ (l : List Step). LeadTo old l q) (sym (take_more steps at s within ∙ ap (λ (z : Step). take at steps ++ z ∷ []) (sym is))) (lead-snoc old (take at steps) p s q far.0 e),
    (let n = row-steps p s q e in let k = far.1 in omega arith),
  )

  pub stops-here : (f : StepFault) (new : ProtocolState) → place_of_fault f ≡ at → new ≡ p → HasCause p s f → StopsAt old steps f new
  stops-here f new place same cause = record {
    before = take at steps;
    step = s;
    rest = drop (at + 1) steps;
    whole = ap (λ (z : Step). take at steps ++ z ∷ drop (at + 1) steps) is ∙ ap (λ (z : List Step). take at steps ++ z) (sym (drop_more steps at s within)) ∙ take-append-drop at steps;
    place = length-take-le at steps (omega arith) ∙ sym place;
    led = subst (LeadTo old (take at steps)) (sym same) far.0;
    cause = subst (λ (z : ProtocolState). HasCause z s f) (sym same) cause;
  }
