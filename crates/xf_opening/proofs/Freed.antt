-- Where retired slots are free again, the words stand for what they stood for.
use Rattle.std.proofs.Common.{◌≡◌, ℕ, zero, suc, ◌+◌, ◌-◌, ◌<◌, ◌≤◌, Bool, true, false, List, length, refl, sym, ap, ◌∙◌, subst, arith, slice_index, Option, None, option_map, ◌⊎◌, inl, inr, eq-eqb, ne_eqb}
use Rattle.std.specs.Prelude.{nat_le, nat_lt, ◌&&◌, ◌==◌, if◌then◌else◌}
use Rattle.std.proofs.lemmas.Bool.{eqb-true}
use Rattle.std.proofs.lemmas.List.Elements.{All-weaker}
use mathlib.Core.Option.{some}
use Rattle.xf_types.specs.declared.state.Sa.{Sa}
use Rattle.xf_types.specs.ChangeIds.{ChangeIds}
use Rattle.xf_types.specs.Machine.{Machine}
use Rattle.xf_types.specs.Standing.{Standing}
use Rattle.xf_records.proofs.StateLaws.{state_frame}
use Rattle.xf_sadidx.specs.Layout as states
use Rattle.xf_sadimage.proofs.Keeping.{stands_kept}
use Rattle.xf_rows.specs.Layouts.{Fits}
use Rattle.xf_rows.proofs.Keeping.{policies_kept}
use Rattle.xf_invariant.specs.Meaning.{Told}
use Rattle.xf_ownpart.specs.OwnPart.{standing_of, with_own}
use Rattle.xf_meaning.specs.Places.{policies_of, states_of, layout_of, size_of, policy_id_place, bucket_ids_place}
use Rattle.xf_meaning.specs.Marks.{AreMarked, AreIds, is_marked}
use Rattle.xf_meaning.specs.Good.{Good}
use Rattle.xf_meaning.specs.Tells.{lists, state_there}
use Rattle.xf_meaning.specs.OpenLaws.{AreHome}
use Rattle.xf_opening.specs.Images.{ImageView, AreSizes, StandsFor, IsAtRest}
use Rattle.xf_opening.specs.Freed.{AreFreed}

-- a place is a status or lies behind them
is_status : (slots place : ℕ) → (place < slots) ⊎ (slots ≤ place)
is_status zero place = inr (omega arith)
is_status (suc slots) zero = inl (omega arith)
is_status (suc slots) (suc place) = elim (is_status slots place) [ inl a ↦ inl (omega (arith, a)) | inr b ↦ inr (omega (arith, b)) ]

module _ (slots : ℕ) (old new : List ℕ) (freed : AreFreed slots old new) where
  -- just the words that were 1 among the statuses are
  one_stays : (place : ℕ) → slice_index old place ≡ 1 → slice_index new place ≡ 1
  one_stays place is = elim (is_status slots place) [ inl a ↦ freed.listed place a is | inr b ↦ freed.behind place b ∙ is ]

  one_was : (place : ℕ) → slice_index new place ≡ 1 → slice_index old place ≡ 1
  one_was place is = elim (is_status slots place) [ inl a ↦ at a (slice_index old place == 1) refl | inr b ↦ sym (freed.behind place b) ∙ is ]
    where
      at : place < slots → (b : Bool) → (slice_index old place == 1) ≡ b → slice_index old place ≡ 1
      at a true e = eqb-true (slice_index old place) 1 e
      at a false e =
          let z : slice_index new place ≡ 0 = freed.free place a (λ h. absurd (let t : (slice_index old place == 1) ≡ true = eq-eqb (slice_index old place) 1 h in let u : true ≡ false = sym t ∙ e in cc)) in
          absurd (omega (arith, z, is))

  marked_stays : (first size : ℕ) (listed : List ℕ) → AreMarked first size old listed → AreMarked first size new listed
  marked_stays first size listed m = record {
    listed = All-weaker (λ slot. slice_index old (first + slot) ≡ 1) (λ slot. slice_index new (first + slot) ≡ 1) (λ slot h. one_stays (first + slot) h) listed m.listed;
    others = λ slot below miss h. m.others slot below miss (one_was (first + slot) h);
  }

  test_stays : (place : ℕ) → (slice_index new place == 1) ≡ (slice_index old place == 1)
  test_stays place = at (slice_index old place == 1) refl
    where
      at : (b : Bool) → (slice_index old place == 1) ≡ b → (slice_index new place == 1) ≡ (slice_index old place == 1)
      at true e = eq-eqb (slice_index new place) 1 (one_stays place (eqb-true (slice_index old place) 1 e)) ∙ sym e
      at false e =
          ne_eqb (slice_index new place) 1 (λ h. let u : true ≡ false = sym (eq-eqb (slice_index old place) 1 (one_was place h)) ∙ e in absurd cc) ∙ sym e

module _ (p s : ℕ) (old new : List ℕ) (freed : AreFreed (p + s) old new) where
  -- the slots list what they did
  lists_stay : (slot : ℕ) → lists p s new slot ≡ lists p s old slot
  lists_stay slot =
      ap (λ (b : Bool). if (nat_le p slot && nat_lt slot (p + s) && b) then state_there p s new slot else None) (test_stays (p + s) old new freed slot)
      ∙ ap (λ (o : Option (Sa × ℕ)). if marked then o else None) there
    where
      marked : Bool
      marked = is_marked p s old slot

      there : state_there p s new slot ≡ state_there p s old slot
      there =
          ap (λ (t : ℕ). option_map (λ (x : Sa). (x, t)) (states.record_at (states_of p s) new (slot - p))) (freed.behind (layout_of p s).clock (omega arith))
          ∙ ap (λ (o : Option Sa). option_map (λ (x : Sa). (x, slice_index old (layout_of p s).clock)) o)
          (state_frame old new (states.record_place (states_of p s) (slot - p)) (λ q low high. freed.behind q (omega (arith, low))))

  home_stays : (m : Machine) (homes : List Standing) → AreHome p s old m homes → AreHome p s new m homes
  home_stays m homes h = record {
    count = h.count;
    each = λ slot below. h.each slot below ∙ ap (λ (o : Option (Sa × ℕ)). some (standing_of (option_map (with_own m) o))) (sym (lists_stay slot));
  }

  ids_stay : (ids : ChangeIds) → AreIds p s old ids → AreIds p s new ids
  ids_stay ids are = record {
    of_policies = freed.behind (policy_id_place p s) (omega arith) ∙ are.of_policies;
    count = are.count;
    of_buckets = λ bucket below. freed.behind (bucket_ids_place p s + bucket) (omega arith) ∙ are.of_buckets bucket below;
  }

-- all lies in so many words
layout_fits : (p s : ℕ) → AreSizes p s → Fits (layout_of p s) (size_of p s)
layout_fits p s sizes =
    let a : 1 ≤ p = sizes.some_policies in
    let b : p ≤ 4096 = sizes.most_policies in
    let c : 1 ≤ s = sizes.some_states in
    let d : s ≤ 8192 = sizes.most_states in
    record {
      policies = record {
        places = record { area = record { base = omega (arith, b, d); some = a; most = b }; after = omega arith; base = omega (arith, b, d) };
        words = omega arith;
        fits = omega (arith, b, d);
      };
      states = record { area = record { base = omega (arith, b, d); some = c; most = d }; words = omega arith; fits = omega (arith, b, d) };
      order = omega arith;
      behind = omega arith;
      clock = omega arith;
    }

pub freed_good : (p s : ℕ) (old new : List ℕ) (t : Told) → AreSizes p s → AreFreed (p + s) old new → Good p s old t → Good p s new t
freed_good p s old new t sizes freed g =
    let fits : Fits (layout_of p s) (length old) = subst (λ (n : ℕ). Fits (layout_of p s) n) (sym g.size) (layout_fits p s sizes) in
    record {
      policies = g.policies;
      states = g.states;
      on_policies = policies_kept (policies_of p s) old new t.shown g.policies fits.policies (λ q low high. freed.behind q (omega (arith, low))) g.on_policies;
      on_states = stands_kept (states_of p s) old new t.shown g.states fits.states (λ q low high. freed.behind q (omega (arith, low))) g.on_states;
      time = freed.behind (layout_of p s).clock (omega arith) ∙ g.time;
      policies_marked = marked_stays (p + s) old new freed 0 p _ g.policies_marked;
      states_marked = marked_stays (p + s) old new freed p s _ g.states_marked;
      ids = ids_stay p s old new freed t.ids g.ids;
      size = freed.size ∙ g.size;
    }

pub freed_rests : (p s : ℕ) (old new : List ℕ) (homes : List Standing) (i : ImageView) → AreSizes p s → AreFreed (p + s) old new → StandsFor p s old homes i
    → IsAtRest p s new homes i
freed_rests p s old new homes i sizes freed stands = record {
  sizes = sizes;
  stands = record {
    machine = stands.machine;
    good = freed_good p s old new _ sizes freed stands.good;
    home = home_stays p s old new freed i.machine homes stands.home;
  };
  statuses = λ slot below. at slot below (slice_index old slot == 1) refl;
}
  where
    at : (slot : ℕ) → slot < p + s → (b : Bool) → (slice_index old slot == 1) ≡ b → slice_index new slot ≤ 1
    at slot below true e = let o : slice_index new slot ≡ 1 = freed.listed slot below (eqb-true (slice_index old slot) 1 e) in omega (arith, o)
    at slot below false e =
        let z : slice_index new slot ≡ 0 = freed.free slot below (λ h. let u : true ≡ false = sym (eq-eqb (slice_index old slot) 1 h) ∙ e in absurd cc) in
        omega (arith, z)
