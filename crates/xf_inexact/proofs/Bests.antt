-- The best of what stands at some nodes is the first of all that stand there.
use Rattle.std.proofs.Common.{◌≡◌, ℕ, ◌<◌, ◌++◌, ◌&&◌, ◌||◌, ◌==◌, not, Bool, true, false, cond, if◌then◌else◌, List, [], ◌∷◌, Option, None, Some, is_some, refl, ap, sym, ◌∙◌}
use Rattle.xf_exact.specs.declared.hit.Hit.{Hit}
use Rattle.xf_exact.specs.declared.query.Query.TheVariants.{Applies}
use Rattle.xf_exact.specs.Parts.{Tells, exact_first, is_in_exact}
use Rattle.xf_exact.specs.Hits.{better, first_of, hit_at, hit_of}
use Rattle.xf_exact.proofs.BestLaws.{better_is}
use Rattle.xf_exact.proofs.FindingLaws.{found_is}
use Rattle.xf_exact.proofs.HitLaws.{first_hit}
use Rattle.xf_exact.proofs.PartLaws.{exact_first_is}
use Rattle.xf_image.specs.ExactKeys.{exact_key}
use Rattle.xf_image.specs.Layout.{exact_of}
use Rattle.xf_image.specs.Policies.{ColumnsStand}
use Rattle.xf_index.specs.Indexes.{AllAre, Indexed, is_number, records_in}
use Rattle.xf_trie.specs.Keys.{key_of}
use Rattle.xf_trie.specs.Walks.{visit_of}
use Rattle.xf_types.specs.declared.network.Flow.{Flow}
use Rattle.xf_types.specs.declared.network.Ptype.{Ptype}
use Rattle.xf_types.specs.declared.policy.Policy.{Policy}
use Rattle.xf_types.specs.PolicyList.{IsPolicyOrder, applies}
use Rattle.xf_inexact.specs.declared.inexact.Inexact.{Inexact}
use Rattle.xf_inexact.specs.Holds.{HoldPart, inexact_key}
use Rattle.xf_inexact.specs.Keys.{node_of}
use Rattle.xf_inexact.specs.Places.{below_of, chains_of, count_of}
use Rattle.xf_inexact.specs.Walks.{all_below, best_among, best_at, best_below, best_in, best_of, first_at, flow_bin, has, inexact_first, stands_in, visited, visited_in}
use Rattle.xf_inexact.proofs.Levels.{stands_visited}
use Rattle.xf_inexact.proofs.Visited.{AllBelow, all_both, visit_below_count}

-- tests that agree find the same
first_same : (one other : Policy → Bool) (es : List (ℕ × Policy)) → ((p : Policy) → one p ≡ other p) → first_of one es ≡ first_of other es
first_same one other [] f = refl
first_same one other (e ∷ es) f =
    ap (λ b. cond b (Some (hit_of e)) (first_of one es)) (f e.1) ∙ ap (λ o. cond (other e.1) (Some (hit_of e)) o) (first_same one other es f)

first_none : (es : List (ℕ × Policy)) → first_of (λ p. false) es ≡ None
first_none [] = refl
first_none (e ∷ es) = first_none es

one_of : (a b : Bool) → (a && (a || b)) ≡ a
one_of true b = refl
one_of false b = refl

other_of : (a b : Bool) → (b && (a || b)) ≡ b
other_of true true = refl
other_of true false = refl
other_of false true = refl
other_of false false = refl

-- the better of two first ones is the first that passes one of the tests
pub better_either : (f g : Policy → Bool) (es : List (ℕ × Policy)) → IsPolicyOrder (records_in es)
    → better (first_of f es) (first_of g es) ≡ first_of (λ p. f p || g p) es
better_either f g es o =
    ap (λ h. better h (first_of g es)) (first_same f (λ p. f p && (f p || g p)) es (λ p. sym (one_of (f p) (g p))))
    ∙ ap (λ h. better (first_of (λ p. f p && (f p || g p)) es) h) (first_same g (λ p. g p && (f p || g p)) es (λ p. sym (other_of (f p) (g p))))
    ∙ better_is (λ p. f p || g p) f g es (λ p h. h) o

spread_or : (a b c d : Bool) → ((a || (b && d)) || (c && d)) ≡ (a || ((b || c) && d))
spread_or true b c d = refl
spread_or false true true true = refl
spread_or false true true false = refl
spread_or false true false true = refl
spread_or false true false false = refl
spread_or false false true true = refl
spread_or false false true false = refl
spread_or false false false true = refl
spread_or false false false false = refl

or_nothing : (a d : Bool) → a ≡ (a || (false && d))
or_nothing true d = refl
or_nothing false d = refl

nothing_more : (nodes : List ℕ) (o : Option ℕ) (a d : Bool) → a ≡ (a || (stands_in [] o && d))
nothing_more nodes None a d = or_nothing a d
nothing_more nodes (Some n) a d = or_nothing a d

one_more : (node : ℕ) (nodes : List ℕ) (o : Option ℕ) (a d : Bool)
    → ((a || (is_number node o && d)) || (stands_in nodes o && d)) ≡ (a || (stands_in (node ∷ nodes) o && d))
one_more node nodes None a d = spread_or a false false d
one_more node nodes (Some n) a d = spread_or a (n == node) (has n nodes) d

-- the first of a node's chain
at_node : (x : Inexact) (image : List ℕ) (key : Policy → Option ℕ) (ptype : Ptype) (flow : Flow) (es : List (ℕ × Policy)) (node : ℕ) → node < count_of x
    → Indexed (chains_of x) image key es → ColumnsStand x.area image es
    → first_at x image ptype flow node ≡ first_of (λ p. is_number node (key p) && applies ptype flow p) es
at_node x image key ptype flow es node h is s =
    ap (hit_at x.area image) (found_is x.area image (Applies ptype flow) (chains_of x) key node es h is s)
    ∙ first_hit x.area image (λ p. is_number node (key p) && applies ptype flow p) es s

best_first : (x : Inexact) (image : List ℕ) (key : Policy → Option ℕ) (ptype : Ptype) (flow : Flow) (es : List (ℕ × Policy)) (done : Policy → Bool) (nodes : List ℕ)
    → AllBelow (count_of x) nodes → Indexed (chains_of x) image key es → ColumnsStand x.area image es → IsPolicyOrder (records_in es)
    → best_at x image ptype flow (first_of done es) nodes ≡ first_of (λ p. done p || (stands_in nodes (key p) && applies ptype flow p)) es
best_first x image key ptype flow es done [] h is s o =
    first_same done (λ p. done p || (stands_in [] (key p) && applies ptype flow p)) es
    (λ p. nothing_more [] (key p) (done p) (applies ptype flow p))
best_first x image key ptype flow es done (node ∷ nodes) h is s o =
    ap (λ b. best_at x image ptype flow b nodes)
    (ap (λ b. better (first_of done es) b) (at_node x image key ptype flow es node h.0 is s)
    ∙ better_either done (λ p. is_number node (key p) && applies ptype flow p) es o)
    ∙ best_first x image key ptype flow es (λ p. done p || (is_number node (key p) && applies ptype flow p)) nodes h.1 is s o
    ∙ first_same (λ p. (done p || (is_number node (key p) && applies ptype flow p)) || (stands_in nodes (key p) && applies ptype flow p))
    (λ p. done p || (stands_in (node ∷ nodes) (key p) && applies ptype flow p)) es
    (λ p. one_more node nodes (key p) (done p) (applies ptype flow p))

-- the nodes that are visited are of the pool
below_all : (x : Inexact) (image : List ℕ) (key : ℕ) (nodes : List ℕ) → AllBelow (count_of x) (all_below x image key nodes)
below_all x image key [] = tt
below_all x image key (node ∷ nodes) =
    all_both (count_of x) (visit_of (below_of x node) image key) (all_below x image key nodes) (visit_below_count (below_of x node) image key)
    (below_all x image key nodes)

pub in_all : (x : Inexact) (image : List ℕ) (flow : Flow) (bin : Option ℕ) → AllBelow (count_of x) (visited_in x image flow bin)
in_all x image flow None = tt
in_all x image flow (Some bin) = below_all x image (key_of flow.src) (visit_of (below_of x bin) image (key_of flow.dst))

never : (b : Bool) → (b && false) ≡ false
never true = refl
never false = refl

-- what this part takes and applies stands at one of the nodes
passing : (nodes : List ℕ) (exact : Bool) (o : Option ℕ) (d : Bool) → (exact || is_some o) ≡ true
    → ((n : ℕ) → d ≡ true → o ≡ Some n → has n nodes ≡ true)
    → (false || (stands_in nodes (if exact then None else o) && d)) ≡ (not exact && d)
passing nodes true o d e f = refl
passing nodes false None d e f = absurd (cc)
passing nodes false (Some n) true e f = ap (λ (b : Bool). b && true) (f n refl refl)
passing nodes false (Some n) false e f = never (has n nodes)

-- tests that agree at each entry that passes another find the same
first_where : (where_is one other : Policy → Bool) (es : List (ℕ × Policy)) → AllAre where_is true es
    → ((p : Policy) → where_is p ≡ true → one p ≡ other p) → first_of one es ≡ first_of other es
first_where where_is one other [] a f = refl
first_where where_is one other (e ∷ es) a f =
    ap (λ b. cond b (Some (hit_of e)) (first_of one es)) (f e.1 a.0)
    ∙ ap (λ o. cond (other e.1) (Some (hit_of e)) o) (first_where where_is one other es a.1 f)

pub first_is : (x : Inexact) (image : List ℕ) (h4 h6 : ℕ × ℕ) (ptype : Ptype) (flow : Flow) (es : List (ℕ × Policy)) → HoldPart x image h4 h6 es
    → ColumnsStand x.area image es → IsPolicyOrder (records_in es)
    → inexact_first x image ptype flow ≡ first_of (λ p. not (is_in_exact h4 h6 p) && applies ptype flow p) es
first_is x image h4 h6 ptype flow es h s o =
    ap (λ b. best_at x image ptype flow b (visited x image ptype flow)) (sym (first_none es))
    ∙ best_first x image (inexact_key x image h4 h6) ptype flow es (λ p. false) (visited x image ptype flow)
    (in_all x image flow (flow_bin x image ptype flow)) h.chains s o
    ∙ first_where (λ p. is_in_exact h4 h6 p || is_some (node_of x image p))
    (λ p. false || (stands_in (visited x image ptype flow) (inexact_key x image h4 h6 p) && applies ptype flow p))
    (λ p. not (is_in_exact h4 h6 p) && applies ptype flow p) es h.nodes
    (λ p k. passing (visited x image ptype flow) (is_in_exact h4 h6 p) (node_of x image p) (applies ptype flow p) k
    (λ n e q. stands_visited x image ptype flow p n h.trees e q))

either : (b : Bool) → (b || not b) ≡ true
either true = refl
either false = refl

-- the better of the exact part's first and of this part's is the first of the list
pub both_first : (x : Inexact) (image : List ℕ) (h4 h6 : ℕ × ℕ) (ptype : Ptype) (flow : Flow) (es : List (ℕ × Policy)) → Tells x.area image h4 h6
    → Indexed (exact_of x.area) image (exact_key h4 h6) es → HoldPart x image h4 h6 es → ColumnsStand x.area image es → IsPolicyOrder (records_in es)
    → better (exact_first x.area image ptype flow) (inexact_first x image ptype flow) ≡ first_of (applies ptype flow) es
both_first x image h4 h6 ptype flow es t is h s o =
    ap (λ b. better b (inexact_first x image ptype flow)) (exact_first_is x.area image h4 h6 ptype flow es t is s)
    ∙ ap (λ b. better (first_of (λ p. is_in_exact h4 h6 p && applies ptype flow p) es) b) (first_is x image h4 h6 ptype flow es h s o)
    ∙ better_is (applies ptype flow) (is_in_exact h4 h6) (λ p. not (is_in_exact h4 h6 p)) es (λ p e. either (is_in_exact h4 h6 p)) o

-- the walk through both levels is the one along all nodes
best_both : (x : Inexact) (image : List ℕ) (ptype : Ptype) (flow : Flow) (best : Option Hit) (xs ys : List ℕ)
    → best_at x image ptype flow best (xs ++ ys) ≡ best_at x image ptype flow (best_at x image ptype flow best xs) ys
best_both x image ptype flow best [] ys = refl
best_both x image ptype flow best (node ∷ xs) ys =
    best_both x image ptype flow (better best (first_at x image ptype flow node)) xs ys

among_flat : (x : Inexact) (image : List ℕ) (ptype : Ptype) (flow : Flow) (best : Option Hit) (nodes : List ℕ)
    → best_among x image ptype flow best nodes ≡ best_at x image ptype flow best (all_below x image (key_of flow.src) nodes)
unfolding best_below
among_flat x image ptype flow best [] = refl
among_flat x image ptype flow best (node ∷ nodes) =
    among_flat x image ptype flow (best_at x image ptype flow best (visit_of (below_of x node) image (key_of flow.src))) nodes
    ∙ sym (best_both x image ptype flow best (visit_of (below_of x node) image (key_of flow.src)) (all_below x image (key_of flow.src) nodes))

pub best_flat : (x : Inexact) (image : List ℕ) (ptype : Ptype) (flow : Flow) (bin : Option ℕ)
    → best_of x image ptype flow bin ≡ best_at x image ptype flow None (visited_in x image flow bin)
unfolding best_in
best_flat x image ptype flow None = refl
best_flat x image ptype flow (Some bin) = among_flat x image ptype flow None (visit_of (below_of x bin) image (key_of flow.dst))
