-- Honest lists of legal steps keep all parts, and their receipts are a legal history.
use Rattle.std.proofs.Common.{◌≡◌, ℕ, zero, suc, ◌+◌, ◌≤◌, List, [], ◌∷◌, Option, refl, sym, ap, ◌∙◌, subst, arith}
use Rattle.std.specs.Prelude.{slice_index, replicate, true}
use Rattle.std.proofs.lemmas.List.{length-replicate}
use mathlib.Core.Option.{some}
use lib.ListN.{get_elem?}
use Rattle.xf_types.specs.declared.state.Sa.{Sa}
use Rattle.xf_types.specs.Machine.{Machine}
use Rattle.xf_types.specs.Steps.{empty}
use Rattle.xf_types.specs.History.{IsLegalHistory}
use Rattle.xf_laws.proofs.KeepLemmas.{empty-is}
use Rattle.xf_views.specs.declared.hand.Hand.{Hand}
use Rattle.xf_views.specs.declared.view.View.{View}
use Rattle.xf_invariant.specs.Meaning.{Told}
use Rattle.xf_invariant.proofs.Beginnings.{image_begins, pins_begin}
use Rattle.xf_ownpart.specs.Lists.{IsListing}
use Rattle.xf_ownpart.specs.OwnLaws.{IsStart}
use Rattle.xf_ownpart.proofs.OwnSayings.{own_begins}
use Rattle.xf_retired.specs.Pools.{ArePools}
use Rattle.xf_retired.proofs.Rows.{retired_begin}
use Rattle.xf_stale.specs.StalePart.{AreShown}
use Rattle.xf_stale.proofs.Stale.{stale_begins}
use Rattle.xf_legalpart.proofs.AgainRows.{again_begins}
use Rattle.xf_proto.specs.declared.step.Kind.{Kind}
use Rattle.xf_proto.specs.declared.step.Step.{Step}
use Rattle.xf_proto.specs.SeatState.{SeatState}
use Rattle.xf_proto.specs.ProtocolState.{ProtocolState}
use Rattle.xf_proto.specs.Legality.{may_step}
use Rattle.xf_proto.specs.Table.{LeadTo}
use Rattle.xf_runs.specs.Known.{Known, first_start, first_known, known_after, LearnTo}
use Rattle.xf_runs.specs.Holds.{FitsSeat, at_home, HonestHolds}
use Rattle.xf_runs.specs.Honest.{StepIsHonest, IsHonest}
use Rattle.xf_runs.specs.Runs.{IsLayout, PartsStay, RunsAreLegal}
use Rattle.xf_runs.proofs.Rows.{row-is, seated-is, always_begins}
use Rattle.xf_runs.proofs.Scenes.{Sight}
use Rattle.xf_runs.proofs.Parts.{step_holds}

zero-at : (words slot : ℕ) → slice_index (replicate words 0) slot ≤ 1
zero-at zero slot = omega arith
zero-at (suc words) zero = omega arith
zero-at (suc words) (suc slot) = zero-at words slot

module _ (bucket_of : Sa → ℕ) (good : List ℕ → Told → Type 0) (lists : List ℕ → ℕ → Option (Sa × ℕ)) (id_place : ℕ → ℕ) (index_at : List ℕ → ℕ → Option ℕ) (policies states : ℕ) where
  -- at the beginning
  parts_begin : (seats words : ℕ) → 1 ≤ seats → seats ≤ 16 → IsLayout good policies states words
      → HonestHolds bucket_of good lists id_place policies states seats (replicate words 0) (empty policies states) (first_known seats words (policies + states) (first_start seats words policies states))
  parts_begin seats words some_seat few layout =
      let base = replicate words 0 in
      let first = first_start seats words policies states in
      record {
        always = always_begins seats words (policies + states) first some_seat few;
        image = image_begins bucket_of good base seats first;
        pinned = pins_begin id_place policies (policies + states) base seats first (λ s less. zero-at words s);
        own = own_begins lists (empty policies states) base (replicate (policies + states) 0) (at_home lists (empty policies states) [] base) seats first (λ slot e. refl);
        legal = record { in_order = tt; replies = tt };
        again = again_begins seats first;
        retired = retired_begin policies states (empty policies states) base (λ s less. zero-at words s);
        stale = stale_begins lists id_place policies states (empty policies states) base seats first;
        slots = length-replicate (policies + states) 0;
        words = subst (λ x. policies + states ≤ x) (sym (length-replicate words 0)) layout.room;
      }

  module _ (listing : IsListing good lists) (pools : ArePools good lists index_at policies states) (shows : AreShown good lists id_place policies states) where
    module _ (made : ℕ) (base : List ℕ) (start : Machine) (opens : IsStart bucket_of good lists base start) where
      one_step : (k : Known) → HonestHolds bucket_of good lists id_place policies states made base start k → (i : ℕ) (v : View) (s : SeatState) (j : Kind)
          → get_elem? k.views i ≡ some v → FitsSeat i s v → may_step k.state i s.hand j ≡ true
          → StepIsHonest bucket_of good lists id_place index_at policies states base start k v s j
          → HonestHolds bucket_of good lists id_place policies states made base start (known_after lists start k i v s j)
      one_step k h i v s j at f legal honest =
          let is = seated-is i s v f in
          let sight : Sight = record {
            bucket_of = bucket_of;
            good = good;
            lists = lists;
            id_place = id_place;
            index_at = index_at;
            policies = policies;
            states = states;
            listing = listing;
            pools = pools;
            shows = shows;
            made = made;
            base = base;
            start = start;
            opens = opens;
            known = k;
            holds = h;
            seat = i;
            view = v;
            pending = s.pending;
            there = at;
            fits = subst (λ (t : SeatState). FitsSeat i t v) (sym is) f;
          } in
          subst (λ (t : SeatState). HonestHolds bucket_of good lists id_place policies states made base start (known_after lists start k i v t j)) is
          (step_holds sight j
          (subst (λ (x : Hand). may_step k.state i x j ≡ true) f.known legal)
          (subst (λ (t : SeatState). StepIsHonest bucket_of good lists id_place index_at policies states base start k v t j) (sym is) honest))

      honest_runs : (k : Known) (steps : List Step) (q : ProtocolState) → HonestHolds bucket_of good lists id_place policies states made base start k → LeadTo k.state steps q
          → IsHonest bucket_of good lists id_place index_at policies states base start k steps
          → (z : Known) × LearnTo lists start k steps z × (z.state ≡ q) × HonestHolds bucket_of good lists id_place policies states made base start z
      honest_runs k [] q h led honest = (k, refl, led, h)
      honest_runs k (step ∷ steps) q h led honest =
          let r = row-is k.state step led.0 led.1 in
          let t = h.always.told.seats step.actor r.seat r.there in
          let g = honest t.0 r.seat t.1 r.there in
          let rest = honest_runs (known_after lists start k step.actor t.0 r.seat step.kind) steps q
          (one_step k h step.actor t.0 r.seat step.kind t.1 t.2 r.legal g.0)
          (subst (λ (z : ProtocolState). LeadTo z steps q) (sym r.leads) led.2)
          g.1 in
          (rest.0, (t.0, r.seat, t.1, r.there, rest.1), rest.2, rest.3)

    pub parts_stay : PartsStay bucket_of good lists id_place index_at policies states
    parts_stay seats words steps p run =
        honest_runs seats (replicate words 0) (empty policies states)
        record { machine = empty-is policies states run.layout.few_policies run.layout.few_states; ids = run.layout.ids; stands = run.layout.zeros }
        (first_known seats words (policies + states) (first_start seats words policies states)) steps p (parts_begin seats words run.some_seat run.few_seats run.layout) run.led run.honest

    pub legal_runs : RunsAreLegal bucket_of good lists id_place index_at policies states
    legal_runs seats words steps p run =
        let z = parts_stay seats words steps p run in
        subst (IsLegalHistory (empty policies states)) (sym z.3.always.told.receipts ∙ ap (λ (q : ProtocolState). q.receipts) z.2) z.3.legal
