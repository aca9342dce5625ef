-- The flags of the SPIs that are taken, and the first that isn't set.
use Rattle.std.proofs.Common.{arith, ◌≡◌, ℕ, suc, ◌+◌, ◌-◌, ◌<◌, ◌||◌, Bool, true, false, cond, not, List, [], ◌∷◌, length, get_or, take, map, refl, ap, sym, ◌∙◌, subst, nat_lt}
use Rattle.std.specs.Prelude.{Option, None, Some, find, position, min}
use Rattle.std.specs.List.{position_or_len}
use Rattle.std.specs.Option.{option_map}
use Rattle.std.proofs.lemmas.List.{get_or-map, length-map}
use Rattle.std.proofs.lemmas.List.Folds.{list_any_more}
use Rattle.xf_types.specs.declared.state.AllocSpec.{AllocSpec}
use Rattle.xf_types.specs.declared.state.Sa.{Sa}
use Rattle.xf_types.specs.Counters.{upwards}
use Rattle.xf_types.specs.StateRules.{free_spi, is_spi_taken}
use Rattle.xf_held.specs.View.{HeldView}
use Rattle.xf_states.specs.Spis.{AreFlags, IsSet, flag_at, takes_spi}
use Rattle.xf_states.proofs.Founds.{first-place, later-place}

-- ---- the flags after one state more

pub AreFlags-more : (spec : AllocSpec) (hs : List HeldView) (i : ℕ) (h : HeldView) (s : Sa) (old new : List Bool) → i < length hs
    → h ≡ get_or hs i h → s ≡ h.state → IsSet spec s old new → AreFlags spec (take i (map (λ (x : HeldView). x.state) hs)) old
    → AreFlags spec (take (i + 1) (map (λ (x : HeldView). x.state) hs)) new
AreFlags-more spec hs i h s old new within at is is_set before place less =
    let states = map (λ (x : HeldView). x.state) hs in
    let there : get_or states i h.state ≡ h.state = get_or-map (λ (x : HeldView). x.state) hs i h h.state within ∙ ap (λ (x : HeldView). x.state) (sym at) in
    let spi = spec.min + place in
    let inside : place < length old = subst (λ n. place < n) is_set.count less in
    is_set.flags place inside ∙ ap (λ b. b || takes_spi spec spi s) (before place inside)
    ∙ ap (λ (x : Sa). is_spi_taken spec (take i states) spi || takes_spi spec spi x) (is ∙ sym there)
    ∙ sym (list_any_more (takes_spi spec spi) states i h.state (subst (λ n. i < n) (sym (length-map hs (λ (x : HeldView). x.state))) within))

-- ---- the first flag that isn't set

-- is that of the first number that doesn't pass
first-unset : (test : ℕ → Bool) (flags : List Bool) (least : ℕ)
    → ((place : ℕ) → place < length flags → flag_at flags place ≡ test (least + place))
    → option_map (λ place. least + place) (position not flags) ≡ find (λ n. not (test n)) (upwards least (length flags))
first-unset test [] least same = refl
first-unset test (b ∷ flags) least same =
    by b (same 0 (omega arith) ∙ ap test (omega arith))
    (first-unset test flags (least + 1) (λ place less. same (suc place) (omega (arith, less)) ∙ ap test (omega arith)))
  where
    at : ℕ
    at = position_or_len not flags

    rest : Option ℕ
    rest = find (λ n. not (test n)) (upwards (least + 1) (length flags))

    by : (b : Bool) → b ≡ test least → option_map (λ place. least + 1 + place) (position not flags) ≡ rest
        → option_map (λ place. least + place) (cond (nat_lt (cond (not (not b)) (1 + at) 0) (suc (length flags))) (Some (cond (not (not b)) (1 + at) 0)) None)
        ≡ cond (not (test least)) (Some least) rest
    by true e later =
        ap (λ c. option_map (λ place. least + place) (cond c (Some (1 + at)) None)) (later-place at (length flags))
        ∙ behind (nat_lt at (length flags)) ∙ later ∙ ap (λ c. cond (not c) (Some least) rest) e
      where
        behind : (c : Bool) → option_map (λ place. least + place) (cond c (Some (1 + at)) None) ≡ option_map (λ place. least + 1 + place) (cond c (Some at) None)
        behind true = ap (λ n. Some n) (omega arith)
        behind false = refl
    by false e later =
        ap (λ c. option_map (λ place. least + place) (cond c (Some 0) None)) (first-place (length flags))
        ∙ ap (λ n. Some n) (omega arith) ∙ ap (λ c. cond (not c) (Some least) rest) e

-- so it is that of the least free SPI
pub free-found : (spec : AllocSpec) (hs : List HeldView) (flags : List Bool) (count : ℕ) (o : Option ℕ) → length flags ≡ count
    → count ≡ min (spec.max + 1 - spec.min) (length hs + 1) → AreFlags spec (map (λ (h : HeldView). h.state) hs) flags
    → o ≡ position not flags
    → option_map (λ place. spec.min + place) o ≡ free_spi spec (map (λ (h : HeldView). h.state) hs)
free-found spec hs flags count o long is_count are is_o =
    let states = map (λ (h : HeldView). h.state) hs in
    ap (option_map (λ place. spec.min + place)) is_o ∙ first-unset (is_spi_taken spec states) flags spec.min are
    ∙ ap (λ n. find (λ spi. not (is_spi_taken spec states spi)) (upwards spec.min n))
    (long ∙ is_count ∙ ap (λ n. min (spec.max + 1 - spec.min) (n + 1)) (sym (length-map hs (λ (h : HeldView). h.state))))
