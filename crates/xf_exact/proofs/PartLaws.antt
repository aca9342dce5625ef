-- What the first of the exact part is.
use Rattle.std.proofs.Common.{◌≡◌, ℕ, ◌<◌, ◌==◌, Bool, true, false, not, cond, ◌&&◌, ◌||◌, List, [], ◌∷◌, Option, None, Some, refl, ap, ◌∙◌, arith, ◌+◌, ◌-◌, slice_index}
use Rattle.std.proofs.lemmas.Bool.Decides.{nat_tests}
use Rattle.xf_types.specs.declared.network.Flow.{Flow}
use Rattle.xf_types.specs.declared.network.Ptype.{Ptype}
use Rattle.xf_types.specs.declared.policy.Policy.{Policy}
use Rattle.xf_types.specs.Address.{cut}
use Rattle.xf_types.specs.Machine.{Shown}
use Rattle.xf_types.specs.PolicyList.{applies}
use Rattle.xf_chain.specs.declared.family.Family.{Family}
use Rattle.xf_chain.specs.Chains.{slots_of}
use Rattle.xf_chain.specs.Families.{chain_at}
use Rattle.xf_index.specs.Indexes.{is_number, picked, Indexed}
use Rattle.xf_index.proofs.Walked.{walk_picked}
use Rattle.xf_image.specs.declared.area.PolicyArea.{PolicyArea}
use Rattle.xf_image.specs.ExactKeys.{lens_of, dst_len, src_len, exact_words, exact_number, exact_key, flow_number}
use Rattle.xf_image.specs.Layout.{thresholds_place, exact_of}
use Rattle.xf_image.specs.Policies.{ColumnsStand, CountersStand}
use Rattle.xf_image.specs.Readings.{hthresh6_in}
use Rattle.xf_image.proofs.ExactLaws.{flow_key, words_below}
use Rattle.xf_exact.specs.declared.query.Query.TheVariants.{Applies}
use Rattle.xf_exact.specs.Hits.{hit_of, hit_at, first_of}
use Rattle.xf_exact.specs.Parts.{is_in_exact, Tells, flow_number_in, first_on, exact_first}
use Rattle.xf_exact.proofs.FindingLaws.{found_is}
use Rattle.xf_exact.proofs.HitLaws.{first_hit}

-- tests that agree find the same
pub first_same : (one other : Policy → Bool) (es : List (ℕ × Policy)) → ((p : Policy) → one p ≡ other p) → first_of one es ≡ first_of other es
first_same one other [] f = refl
first_same one other (e ∷ es) f =
    ap (λ b. cond b (Some (hit_of e)) (first_of one es)) (f e.1) ∙ ap (λ o. cond (other e.1) (Some (hit_of e)) o) (first_same one other es f)

-- the first of a chain of an index
pub on_chain : (a : PolicyArea) (image : List ℕ) (family : Family) (key : Policy → Option ℕ) (number : ℕ) (ptype : Ptype) (flow : Flow)
    (es : List (ℕ × Policy)) → number < family.count → Indexed family image key es → ColumnsStand a image es
    → first_on a image family number ptype flow ≡ first_of (λ p. is_number number (key p) && applies ptype flow p) es
on_chain a image family key number ptype flow es below is s =
    ap (hit_at a image) (found_is a image (Applies ptype flow) family key number es below is s)
    ∙ first_hit a image (λ p. is_number number (key p) && applies ptype flow p) es s

same_flow : (a : PolicyArea) (image : List ℕ) (h4 h6 : ℕ × ℕ) (ptype : Ptype) (flow : Flow) → Tells a image h4 h6
    → flow_number_in a image ptype flow ≡ flow_number h4 h6 ptype flow
same_flow a image h4 h6 ptype flow t =
    ap (λ h. flow_number h (hthresh6_in a image) ptype flow) t.v4 ∙ ap (λ h. flow_number h4 h ptype flow) t.v6

pub flow_below : (h4 h6 : ℕ × ℕ) (ptype : Ptype) (flow : Flow) → flow_number h4 h6 ptype flow < 1024
flow_below h4 h6 ptype flow =
    let lens : ℕ × ℕ = lens_of h4 h6 flow.src in
    words_below (exact_words ptype flow.dir flow.if_id (cut flow.dst (dst_len flow.dir lens)) (cut flow.src (src_len flow.dir lens)))

-- the slots that are asked for a flow
pub exact_slots : (a : PolicyArea) (image : List ℕ) (h4 h6 : ℕ × ℕ) (ptype : Ptype) (flow : Flow) (es : List (ℕ × Policy)) → Tells a image h4 h6
    → Indexed (exact_of a) image (exact_key h4 h6) es
    → slots_of (chain_at (exact_of a) (flow_number_in a image ptype flow)) image ≡ picked (exact_key h4 h6) (flow_number h4 h6 ptype flow) es
exact_slots a image h4 h6 ptype flow es t is =
    ap (λ n. slots_of (chain_at (exact_of a) n) image) (same_flow a image h4 h6 ptype flow t)
    ∙ walk_picked (exact_of a) image (exact_key h4 h6) (flow_number h4 h6 ptype flow) es (flow_below h4 h6 ptype flow) is

and_false : (b : Bool) → (b && false) ≡ false
and_false true = refl
and_false false = refl

-- where what applies has the chain, it is taken exactly where it stands there
taken_there : (takes passes : Bool) (own number : ℕ) → (takes ≡ true → passes ≡ true → own ≡ number)
    → (is_number number (cond takes (Some own) None) && passes) ≡ (takes && passes)
taken_there true true own number f = equal own number (f refl refl)
  where
    equal : (a b : ℕ) → a ≡ b → ((a == b) && true) ≡ true
    equal a b e = grind (arith, nat_tests)
taken_there true false own number f = and_false (own == number)
taken_there false passes own number f = refl

exact_test : (h4 h6 : ℕ × ℕ) (ptype : Ptype) (flow : Flow) (p : Policy)
    → (is_number (flow_number h4 h6 ptype flow) (exact_key h4 h6 p) && applies ptype flow p) ≡ (is_in_exact h4 h6 p && applies ptype flow p)
exact_test h4 h6 ptype flow p =
    let own : ℕ = exact_number (lens_of h4 h6 p.spec.sel.src.addr) p.spec.ptype p.spec.dir p.spec.if_id p.spec.sel.dst.addr p.spec.sel.src.addr in
    taken_there (is_in_exact h4 h6 p) (applies ptype flow p) own (flow_number h4 h6 ptype flow)
    (λ takes passes. flow_key h4 h6 ptype flow p own passes (ap (λ b. cond b (Some own) None) takes))

pub exact_first_is : (a : PolicyArea) (image : List ℕ) (h4 h6 : ℕ × ℕ) (ptype : Ptype) (flow : Flow) (es : List (ℕ × Policy)) → Tells a image h4 h6
    → Indexed (exact_of a) image (exact_key h4 h6) es → ColumnsStand a image es
    → exact_first a image ptype flow ≡ first_of (λ p. is_in_exact h4 h6 p && applies ptype flow p) es
exact_first_is a image h4 h6 ptype flow es t is s =
    let number : ℕ = flow_number h4 h6 ptype flow in
    ap (λ n. first_on a image (exact_of a) n ptype flow) (same_flow a image h4 h6 ptype flow t)
    ∙ on_chain a image (exact_of a) (exact_key h4 h6) number ptype flow es (flow_below h4 h6 ptype flow) is s
    ∙ first_same (λ p. is_number number (exact_key h4 h6 p) && applies ptype flow p) (λ p. is_in_exact h4 h6 p && applies ptype flow p) es
    (exact_test h4 h6 ptype flow)

-- a test passes or it doesn't
pub either : (b : Bool) → (b || not b) ≡ true
either true = refl
either false = refl

-- the words of a policy list tell its thresholds
pub stand_tell : (a : PolicyArea) (image : List ℕ) (s : Shown) → CountersStand a image s → Tells a image s.hthresh4 s.hthresh6
stand_tell a image s c =
    let local4 : 32 - slice_index image (thresholds_place a) ≡ s.hthresh4.0 = let w = c.local4 in omega (arith, w) in
    let remote4 : 32 - slice_index image (thresholds_place a + 1) ≡ s.hthresh4.1 = let w = c.remote4 in omega (arith, w) in
    let local6 : 128 - slice_index image (thresholds_place a + 2) ≡ s.hthresh6.0 = let w = c.local6 in omega (arith, w) in
    let remote6 : 128 - slice_index image (thresholds_place a + 3) ≡ s.hthresh6.1 = let w = c.remote6 in omega (arith, w) in
    record { v4 = λ i. (local4 i, remote4 i); v6 = λ i. (local6 i, remote6 i) }
