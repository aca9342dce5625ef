-- Whether some state passes a test, by the entry that is found.
use Rattle.std.proofs.Common.{◌≡◌, ℕ, Bool, true, false, ◌&&◌, ◌||◌, ◌==◌, cond, List, [], ◌∷◌, Some, reverse, refl, ap, ◌∙◌}
use Rattle.std.specs.List.{list_any}
use Rattle.std.specs.Option.{is_some}
use Rattle.xf_types.specs.declared.state.AllocSpec.{AllocSpec}
use Rattle.xf_types.specs.declared.state.Sa.{Sa}
use Rattle.xf_types.specs.Same.{same_addr, same_proto}
use Rattle.xf_types.specs.StateRules.{is_spi_taken}
use Rattle.xf_index.specs.Indexes.{records_in}
use Rattle.xf_index.specs.Finds.{found_in, slot_found}
use Rattle.xf_index.proofs.Entries.{records_reverse}
use Rattle.xf_sadidx.specs.Founds.{latest_in}
use Rattle.xf_sadidx.specs.Queries.{has_number}
use Rattle.xf_sadidx.proofs.Reverses.{any_reverse}

found_any : (test : Sa → Bool) (es : List (ℕ × Sa)) → is_some (slot_found (found_in test es)) ≡ list_any test (records_in es)
found_any test [] = refl
found_any test (e ∷ es) = step (test e.1) (found_any test es)
  where
    step : (b : Bool) → is_some (slot_found (found_in test es)) ≡ list_any test (records_in es)
        → is_some (slot_found (cond b (Some e) (found_in test es))) ≡ (b || list_any test (records_in es))
    step true k = refl
    step false k = k

-- the last entry that passes is there where some state does
pub latest_any : (test : Sa → Bool) (es : List (ℕ × Sa)) → is_some (slot_found (latest_in test es)) ≡ list_any test (records_in es)
latest_any test es = found_any test (reverse es) ∙ ap (list_any test) (records_reverse es) ∙ any_reverse test (records_in es)

any_same : (test other : Sa → Bool) (xs : List Sa) → ((s : Sa) → test s ≡ other s) → list_any test xs ≡ list_any other xs
any_same test other [] f = refl
any_same test other (x ∷ xs) f = ap (λ b. b || list_any test xs) (f x) ∙ ap (λ b. other x || b) (any_same test other xs f)

-- an SPI is taken where some state has it
pub number_taken : (spec : AllocSpec) (spi : ℕ) (states : List Sa) → list_any (has_number spec.dst spec.proto spi) states ≡ is_spi_taken spec states spi
number_taken spec spi states =
    any_same (has_number spec.dst spec.proto spi) (λ s. same_addr s.spec.dst spec.dst && same_proto s.spec.proto spec.proto && (s.spec.spi == spi)) states
    (λ s. turned (same_addr s.spec.dst spec.dst) (s.spec.spi == spi) (same_proto s.spec.proto spec.proto))
  where
    turned : (a b c : Bool) → (a && b && c) ≡ (a && c && b)
    turned true true true = refl
    turned true true false = refl
    turned true false true = refl
    turned true false false = refl
    turned false b c = refl
