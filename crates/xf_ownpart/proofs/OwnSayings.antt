-- What the own part says, and that it holds at the beginning.
use Rattle.std.proofs.Common.{◌≡◌, ℕ, List, [], Option, refl, sym, ◌∙◌, subst}
use mathlib.Core.Option.{some, some-ne-none}
use mathlib.Core.Logic.{dite}
use native.Mathlib.Decide.{ℕ_discrete}
use lib.ListN.{get_elem?}
use Rattle.xf_types.specs.declared.state.Sa.{Sa}
use Rattle.xf_types.specs.Machine.{Machine}
use Rattle.xf_types.specs.Standing.{Standing}
use Rattle.xf_views.specs.declared.entry.Listed.{Listed}
use Rattle.xf_views.specs.declared.view.View.{View}
use Rattle.xf_views.specs.declared.view.Start.{Start}
use Rattle.xf_views.specs.declared.view.SlotTurn.{SlotTurn}
use Rattle.xf_views.specs.Starts.{first_views}
use Rattle.xf_views.proofs.Beginnings.{at_first}
use Rattle.xf_invariant.specs.Meaning.{Told}
use Rattle.xf_invariant.specs.PinPart.{Has}
use Rattle.xf_ownpart.specs.Lists.{IsListing}
use Rattle.xf_ownpart.specs.OwnPart.{OwnPart, listed_at, standing_of}
use Rattle.xf_ownpart.specs.Turns.{Keeps}
use Rattle.xf_ownpart.specs.OwnLaws.{Shift, last_of}
use Rattle.xf_ownpart.specs.OwnSays.{IsListedNow, OwnSays}
use Rattle.xf_ownpart.proofs.Slots.{listed-back}
use Rattle.xf_ownpart.proofs.Moments.{lists-now}
use Rattle.xf_ownpart.proofs.OwnSeats.{mine, apart-slots}

pub own_begins : (lists : List ℕ → ℕ → Option (Sa × ℕ)) (start : Machine) (base turns : List ℕ) (home : ℕ → Standing) (made : ℕ) (first : Start)
    → ((slot : ℕ) → get_elem? turns slot ≡ some 0 → home slot ≡ standing_of (listed_at lists start base slot))
    → OwnPart lists start base turns [] home (first_views first made)
own_begins lists start base turns home made first free = record {
  marked = tt;
  free = free;
  each = λ i v at h e has. absurd (none_held e (subst (λ (z : View). Has z.own.turns e) (at_first first made i v at).1 has));
}
  where
    none_held : (e : SlotTurn) → Has [] e → ⊥
    none_held e has = some-ne-none e (sym has.1)

module _ (bucket_of : Sa → ℕ) (good : List ℕ → Told → Type 0) (lists : List ℕ → ℕ → Option (Sa × ℕ)) (all : IsListing good lists) where
  -- what a held turn keeps
  pub kept-now : (most : ℕ) (base : List ℕ) (start : Machine) (w : Shift bucket_of good lists most base start) (l : Listed) → Keeps w.scene.view.own.turns l
      → IsListedNow (last_of bucket_of good lists most base start w) l
  kept-now most base start w l k =
      let last = last_of bucket_of good lists most base start w in
      let q = listed-back lists last w.scene.settled k.turn.slot l ((mine bucket_of good lists all most base start w k.turn k.held).keeps ∙ k.is) in
      let h = (lists-now bucket_of good lists all most base start w).listed k.turn.slot q.0 q.1 in
      subst (IsListedNow last) q.2 record { state = h.0; time = h.1; own = refl }

  pub own_says : OwnSays bucket_of good lists
  own_says = record {
    lists_all = λ most base start w. lists-now bucket_of good lists all most base start w;
    kept = kept-now;
    alone = λ most base start w j slot u seat ours theirs. dite (ℕ_discrete j w.scene.seat)
        (λ same. sym same)
        (λ apart. absurd (apart-slots bucket_of good lists all most base start w j u apart seat.there seat.here theirs.0 theirs.1 (ours.0, ours.1, ours.2 ∙ sym theirs.2)));
    free = λ most base start w slot free. w.own.free slot free;
  }
