-- What a pool that fits takes back, and that a new one fits the empty list.
use Rattle.std.proofs.Common.{◌≡◌, ℕ, ◌<◌, ◌≤◌, true, List, [], ◌∷◌, ◌++◌, Option, None, Some, length, refl, ap, sym, ◌∙◌, subst, arith, rules, lit<, lit≤, AllPairs, unwrap_or}
use Rattle.std.specs.Option.{ForSome}
use Rattle.std.proofs.lemmas.List.Elements.{All-nil}
use Rattle.xf_types.specs.declared.state.Sa.{Sa}
use Rattle.xf_types.specs.declared.state.SaId.{SaId}
use Rattle.xf_types.specs.declared.state.SaSpec.{SaSpec}
use Rattle.xf_types.specs.Machine.{Shown}
use Rattle.xf_types.specs.StateList.{has_id}
use Rattle.xf_types.specs.Steps.{empty_shown}
use Rattle.xf_cells.specs.Pools.{IsFull}
use Rattle.xf_cells.specs.Words.{zeros}
use Rattle.xf_chain.specs.Lists.{Misses}
use Rattle.xf_index.specs.Indexes.{slots_in}
use Rattle.xf_index.specs.Finds.{slot_found}
use Rattle.xf_index.proofs.Entries.{slots_append}
use Rattle.xf_sadidx.specs.declared.area.StateArea.{StateArea}
use Rattle.xf_sadidx.specs.Founds.{latest_in}
use Rattle.xf_sadimage.specs.States.{StatesStand}
use Rattle.xf_sadimage.proofs.Empties.{zeros_stand}
use Rattle.xf_sad.specs.Changes.{IsAt}
use Rattle.xf_sad.specs.Lookups.{replaced_in, named_in}
use Rattle.xf_sad.specs.Slots.{is_in, PoolFits, IsListed, Where, listed_in}
use Rattle.xf_sad.proofs.Pools.{in_between}
use Rattle.xf_sad.proofs.Found.{listed_is}
use Rattle.xf_sad.proofs.Placings.{where_weaker}
use Rattle.xf_sad.proofs.Rules.{replaced_is, named_is, larval_listed, latest_entry, entry_listed}

pub listed_back : (a : StateArea) (image : List ℕ) (s : Shown) (es : List (ℕ × Sa)) (all out : ℕ) (gives takes : ℕ → Type 0) (slot : ℕ) → StatesStand a image s es
    → PoolFits all out gives takes a.slots (listed_in a image) → IsListed es slot → takes slot
listed_back a image s es all out gives takes slot st fits is =
    let e : listed_in a image ≡ slots_in is.front ++ (slot ∷ slots_in is.behind) =
    listed_is a image s es st ∙ ap (λ (xs : List (ℕ × Sa)). slots_in xs) is.whole ∙ slots_append is.front ((slot, is.state) ∷ is.behind) in
    fits.back slot (subst (λ (xs : List ℕ). is_in slot xs ≡ true) (sym e) (in_between (slots_in is.front) (slots_in is.behind) slot))

pub replaced_back : (a : StateArea) (image : List ℕ) (s : Shown) (es : List (ℕ × Sa)) (all out : ℕ) (gives takes : ℕ → Type 0) (spec : SaSpec) → StatesStand a image s es
    → PoolFits all out gives takes a.slots (listed_in a image) → Where takes (replaced_in a image spec)
replaced_back a image s es all out gives takes spec st fits =
    subst (λ (o : Option ℕ). Where takes o) (sym (replaced_is a image s es spec st))
    (where_weaker (IsListed es) takes _ (λ x is. listed_back a image s es all out gives takes x st fits is) (larval_listed spec es))

latest_listed : (id : SaId) (es : List (ℕ × Sa)) → Where (IsListed es) (slot_found (latest_in (has_id id) es))
latest_listed id es = by (latest_in (has_id id) es) refl
  where
    by : (o : Option (ℕ × Sa)) → latest_in (has_id id) es ≡ o → Where (IsListed es) (slot_found o)
    by None e = tt
    by (Some x) e = entry_listed es x.0 x.1 (latest_entry (has_id id) es x.0 x.1 e)

pub named_back : (a : StateArea) (image : List ℕ) (s : Shown) (es : List (ℕ × Sa)) (all out : ℕ) (gives takes : ℕ → Type 0) (id : SaId) → StatesStand a image s es
    → PoolFits all out gives takes a.slots (listed_in a image) → Where takes (named_in a image id)
named_back a image s es all out gives takes id st fits =
    subst (λ (o : Option ℕ). Where takes o) (sym (named_is a image s es id st))
    (where_weaker (IsListed es) takes _ (λ x is. listed_back a image s es all out gives takes x st fits is) (latest_listed id es))

pub new_fits : (a : StateArea) (n all out : ℕ) (gives takes : ℕ → Type 0) → IsFull a.slots all out gives → PoolFits all out gives takes a.slots (listed_in a (zeros n))
new_fits a n all out gives takes full =
    let e : listed_in a (zeros n) ≡ [] = listed_is a (zeros n) _ [] (zeros_stand a n 0) in
    record {
      capacity = full.room;
      taken = full.none ∙ ap (λ (xs : List ℕ). length xs) (sym e);
      below = full.only;
      free = λ x h. subst (λ (xs : List ℕ). Misses x xs) (sym e) (search rules);
      back = λ x h. let k : is_in x [] ≡ true = ap (λ (xs : List ℕ). is_in x xs) (sym e) ∙ h in absurd (cc);
    }

no_pairs : {A : Type 0} (R : A → A → Type 0) → AllPairs R []
no_pairs R = λ i j d lt within. absurd (omega (arith, within))

same_lens : (x y : ℕ × ℕ) → ◌≡◌ {A = Option (ℕ × ℕ)} (Some x) (Some y) → x ≡ y
same_lens x y e = ap (λ (o : Option (ℕ × ℕ)). unwrap_or o x) e

for_some : (P : ℕ × ℕ → Type 0) (x : ℕ × ℕ) → P x → ForSome (Some x) P
for_some P x p y e = subst P (same_lens x y e) p

pub empty_at : (max_policies max_states : ℕ) → max_policies ≤ 4096 → max_states ≤ 8192 → IsAt (empty_shown max_policies max_states) 0
empty_at max_policies max_states few less = record {
  sid = lit< tt;
  states = record { sids = no_pairs (λ (x y : Sa). x.sid ≡ y.sid → ⊥); sids_given = All-nil (λ (x : Sa). x.sid < 1) };
  room = record { policies = omega arith; states = omega arith; max_policies = few; max_states = less };
  range = record {
    index_counter = (lit< tt, lit≤ tt);
    seq_counter = (lit< tt, lit≤ tt);
    thresholds = record {
      local4 = for_some (λ (lens : ℕ × ℕ). lens.0 ≤ 32) (32, 32) (lit≤ tt);
      remote4 = for_some (λ (lens : ℕ × ℕ). lens.1 ≤ 32) (32, 32) (lit≤ tt);
      local6 = for_some (λ (lens : ℕ × ℕ). lens.0 ≤ 128) (128, 128) (lit≤ tt);
      remote6 = for_some (λ (lens : ℕ × ℕ). lens.1 ≤ 128) (128, 128) (lit≤ tt);
    };
  };
  time = refl;
}
