-- A table that is made keeps the rule.
use Rattle.std.proofs.Common.{◌≡◌, ℕ, ◌+◌, ◌-◌, List, length, map, Some, Option, sym, subst, ◌++◌, arith, length-append}
use Rattle.std.specs.Prelude.{replicate}
use Rattle.std.proofs.lemmas.List.{length-replicate}
use Rattle.atomic_table.specs.Table.{opening}
use Rattle.xf_types.specs.declared.state.Sa.{Sa}
use Rattle.xf_types.specs.Machine.{Machine}
use Rattle.xf_types.specs.Standing.{Standing}
use Rattle.xf_views.specs.declared.view.Start.{Start}
use Rattle.xf_views.specs.Log.{Numbers}
use Rattle.xf_views.specs.Starts.{first_view, first_numbers}
use Rattle.xf_invariant.specs.Meaning.{Told}
use Rattle.xf_ownpart.specs.Lists.{IsListing}
use Rattle.xf_seats.specs.Opened.{Opened, slots_of}
use Rattle.xf_table.specs.declared.rule.Key.{Key}
use Rattle.xf_table.specs.Rule.{Ruled, laid, four, start_of}
use Rattle.xf_table.specs.Ends.{start_from}
use Rattle.xf_table.proofs.Seating.{opening_ruled}

-- the words of a table at its start
abbrev pub Laid : Start → List ℕ
Laid start = laid (four first_numbers) (replicate start.seats 0) start.words (replicate (slots_of start) 0)

pub length_laid : (n : Numbers) (seats : ℕ) (image : List ℕ) (slots : ℕ) → length (laid (four n) (replicate seats 0) image (replicate slots 0)) ≡ ((slots + length image) + seats) + 4
length_laid n seats image slots =
    let zeros : List ℕ = replicate slots 0 in
    let free : List ℕ = replicate seats 0 in
    let turns : length zeros ≡ slots = length-replicate slots 0 in
    let pins : length free ≡ seats = length-replicate seats 0 in
    let last : length (image ++ zeros) ≡ length image + length zeros = length-append image zeros in
    let rest : length (free ++ (image ++ zeros)) ≡ length free + length (image ++ zeros) = length-append free (image ++ zeros) in
    let all : length (laid (four n) free image zeros) ≡ 4 + length (free ++ (image ++ zeros)) = length-append (four n) (free ++ (image ++ zeros)) in
    omega arith

-- the start of which the table is told is the one that it is made of
pub told_so : {T : Type 0} (standing : T → Standing) (key : Key T) (seats : ℕ) (words : List ℕ) (values : List T) (policies : ℕ)
    → key.seats ≡ seats → key.policies ≡ policies → key.states ≡ length values - policies → key.words.value.items ≡ words → key.values.value.items ≡ values
    → start_of standing key ≡ start_from standing seats words values policies
told_so standing key seats words values policies a b c d e = λ i. record { seats = a i; policies = b i; states = c i; words = d i; homes = map standing (e i) }

module _ {T : Type 0} (bucket_of : Sa → ℕ) (good : ℕ → ℕ → List ℕ → Told → Type 0) (lists : ℕ → ℕ → List ℕ → ℕ → Option (Sa × ℕ)) (machine : ℕ → ℕ → List ℕ → List Standing → Machine) (standing : T → Standing)
    (listing : (p s : ℕ) → IsListing (good p s) (lists p s)) (key : Key T) (start : Start) where
  pub made_ruled : start_of standing key ≡ start → Opened bucket_of good lists machine start → (ws : List ℕ) (found : List (Option T)) (xs : List T) → start.homes ≡ map standing xs → ws ≡ Laid start → found ≡ map Some xs
      → Ruled bucket_of good lists machine standing (start_of standing key) (opening ws found (first_view (start_of standing key) 0 1))
  made_ruled same o ws found xs stand words_are found_are =
      subst (λ (x : Start). Ruled bucket_of good lists machine standing x (opening ws found (first_view x 0 1))) (sym same)
      (subst (λ (l : List ℕ). Ruled bucket_of good lists machine standing start (opening l found (first_view start 0 1))) (sym words_are)
      (subst (λ (l : List (Option T)). Ruled bucket_of good lists machine standing start (opening (Laid start) l (first_view start 0 1))) (sym found_are)
      (opening_ruled bucket_of good lists machine standing start o xs stand)))
