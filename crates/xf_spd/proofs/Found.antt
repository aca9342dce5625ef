-- The first policy that applies, and the one policy with an index.
use Rattle.std.proofs.Common.{◌≡◌, ℕ, suc, ◌<◌, Bool, true, false, cond, nat_lt, List, [], ◌∷◌, ◌++◌, Option, None, Some, find, refl, ap, sym, ◌∙◌, subst, arith, if◌then◌else◌}
use Rattle.std.proofs.lemmas.Bool.Decides.{nat_tests}
use Rattle.xf_types.specs.declared.network.Flow.{Flow}
use Rattle.xf_types.specs.declared.network.Ptype.{Ptype}
use Rattle.xf_types.specs.declared.network.Ptype.TheVariants.{Main, Sub}
use Rattle.xf_types.specs.declared.policy.Policy.{Policy}
use Rattle.xf_types.specs.IsMachine.{IsPolicyList}
use Rattle.xf_types.specs.Machine.{Shown}
use Rattle.xf_types.specs.PolicyList.{IsPolicyOrder, applies, or_else, first_policy, has_index}
use Rattle.xf_chain.specs.Lists.{Within}
use Rattle.xf_index.specs.Indexes.{slots_in, records_in, AllAre}
use Rattle.xf_index.specs.Finds.{found_in, slot_found}
use Rattle.xf_index.proofs.Alls.{all_within}
use Rattle.xf_image.specs.declared.area.PolicyArea.{PolicyArea}
use Rattle.xf_image.specs.Entries.{IsEntry}
use Rattle.xf_image.specs.Layout.{Fits, order_of, record_at}
use Rattle.xf_image.specs.Policies.{everyone}
use Rattle.xf_inexact.specs.Whole.{SpdStands, WholeFits, trees_of}
use Rattle.xf_inexact.proofs.Bests.{both_first}
use Rattle.xf_exact.specs.declared.hit.Hit.{Hit}
use Rattle.xf_exact.specs.Hits.{hit_of, first_of, policy_hit}
use Rattle.xf_exact.proofs.HitLaws.{hit_policy as policy_of_hit}
use Rattle.xf_exact.proofs.PartLaws.{stand_tell}
use Rattle.xf_spd.specs.Firsts.{hit_policy, first_in, first_policy_in}
use Rattle.xf_listing.specs.Walks.{slot_with}
use Rattle.xf_spd.proofs.Alone.{Alone, all_fail, fails_by, index_alone}
use Rattle.xf_listing.proofs.Named.{slot_with_is}
use Rattle.xf_listing.proofs.Wholes.{list_fits}

-- ---- the first that applies

-- the list's words lie where all does
pub list_lies : (a : PolicyArea) (size : ℕ) → WholeFits a size → Fits a size
list_lies a size fits = list_fits a size fits

hit_step : (a : PolicyArea) (image : List ℕ) (e : ℕ × Policy) (b : Bool) (rest : Option Hit) → e.0 < a.slots → hit_policy a image rest ≡ policy_hit a image rest
    → hit_policy a image (cond b (Some (hit_of e)) rest) ≡ policy_hit a image (cond b (Some (hit_of e)) rest)
hit_step a image e true rest h k =
    let t : nat_lt e.0 a.slots ≡ true = grind (arith, nat_tests) in
    ap (λ (b : Bool). if b then record_at a image e.0 else None) t
hit_step a image e false rest h k = k

-- a hit of the list is in one of the slots
hit_within : (a : PolicyArea) (image : List ℕ) (test : Policy → Bool) (es : List (ℕ × Policy)) → Within a.slots (slots_in es)
    → hit_policy a image (first_of test es) ≡ policy_hit a image (first_of test es)
hit_within a image test [] w = refl
hit_within a image test (e ∷ es) w = hit_step a image e (test e.1) (first_of test es) w.0 (hit_within a image test es w.1)

first_is : (a : PolicyArea) (image : List ℕ) (s : Shown) (es : List (ℕ × Policy)) (ptype : Ptype) (flow : Flow) → IsPolicyOrder s.policies → SpdStands a image s es
    → first_in a image ptype flow ≡ find (applies ptype flow) s.policies
first_is a image s es ptype flow order g =
    ap (λ (o : Option Hit). hit_policy a image o)
    (both_first (trees_of a) image s.hthresh4 s.hthresh6 ptype flow es (stand_tell a image s g.list.counters) g.list.links.exact g.part g.list.columns
    (subst (λ (ps : List Policy). IsPolicyOrder ps) (sym g.list.listed) order))
    ∙ (hit_within a image (applies ptype flow) es (all_within (order_of a) image everyone es (λ p. refl) (omega arith) g.list.links.order)
    ∙ (policy_of_hit a image (applies ptype flow) es g.list.columns.records
    ∙ ap (λ (ps : List Policy). find (applies ptype flow) ps) g.list.listed))

pub first_policy_is : (a : PolicyArea) (image : List ℕ) (s : Shown) (es : List (ℕ × Policy)) (flow : Flow) → IsPolicyOrder s.policies → SpdStands a image s es
    → first_policy_in a image flow ≡ first_policy s.policies flow
first_policy_is a image s es flow order g =
    ap (λ (o : Option Policy). or_else o (first_in a image Main flow)) (first_is a image s es Sub flow order g)
    ∙ ap (λ (o : Option Policy). or_else (find (applies Sub flow) s.policies) o) (first_is a image s es Main flow order g)

-- ---- the one with an index

all_at : (test : Policy → Bool) (b : Bool) (slot : ℕ) (p : Policy) (front back : List (ℕ × Policy)) → AllAre test b (front ++ ((slot, p) ∷ back)) → test p ≡ b
all_at test b slot p [] back a = a.0
all_at test b slot p (x ∷ front) back a = all_at test b slot p front back a.1

true_false : (b : Bool) → b ≡ true → b ≡ false → ⊥
true_false b e h = let k : true ≡ false = sym e ∙ h in absurd (cc)

-- where no two pass, what passes is what is found
alone_found : (test : Policy → Bool) (slot : ℕ) (p : Policy) (front back : List (ℕ × Policy)) → Alone test (records_in (front ++ ((slot, p) ∷ back))) → test p ≡ true
    → found_in test (front ++ ((slot, p) ∷ back)) ≡ Some (slot, p)
alone_found test slot p [] back a h = ap (λ (b : Bool). cond b (Some (slot, p)) (found_in test back)) h
alone_found test slot p (x ∷ front) back a h =
    let f : test x.1 ≡ false = fails_by (test x.1) (λ e. true_false (test p) h
    (all_at test false slot p front back (all_fail test x.1 (front ++ ((slot, p) ∷ back)) e (λ j d l. a 0 (suc j) d (omega arith) (omega arith))))) in
    ap (λ (b : Bool). cond b (Some x) (found_in test (front ++ ((slot, p) ∷ back)))) f
    ∙ alone_found test slot p front back (λ i j d lt within. a (suc i) (suc j) d (omega arith) (omega arith)) h

pub index_slot : (a : PolicyArea) (image : List ℕ) (s : Shown) (es : List (ℕ × Policy)) (index slot : ℕ) (p : Policy) → IsEntry es slot p → p.index ≡ index → IsPolicyList s → SpdStands a image s es
    → slot_with a image index ≡ Some slot
index_slot a image s es index slot p is e sound g =
    let t : has_index index p ≡ true = grind (arith, nat_tests, e) in
    let al : Alone (has_index index) (records_in (is.front ++ ((slot, p) ∷ is.behind))) =
    subst (λ (xs : List (ℕ × Policy)). Alone (has_index index) (records_in xs)) is.whole (subst (λ (ps : List Policy). Alone (has_index index) ps) (sym g.list.listed) (index_alone s index sound)) in
    slot_with_is a image s es index g.list
    ∙ ap (λ (o : Option (ℕ × Policy)). slot_found o)
    (ap (λ (xs : List (ℕ × Policy)). found_in (has_index index) xs) is.whole ∙ alone_found (has_index index) slot p is.front is.behind al t)
