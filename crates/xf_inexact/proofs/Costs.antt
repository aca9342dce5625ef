-- The loads of the walk through both levels.
use Rattle.std.proofs.Common.{◌≡◌, ℕ, ◌+◌, ◌*◌, ◌≤◌, ◌++◌, List, [], ◌∷◌, Option, None, Some, arith}
use Rattle.xf_trie.specs.Keys.{key_of}
use Rattle.xf_trie.specs.Walks.{visit_of}
use Rattle.xf_types.specs.declared.network.Flow.{Flow}
use Rattle.xf_inexact.specs.declared.inexact.Inexact.{Inexact}
use Rattle.xf_inexact.specs.Places.{below_of}
use Rattle.xf_inexact.specs.Walks.{all_below, among_cost, below_cost, bin_walks_cost, chains_cost, in_cost, of_cost, visited_in, walk_cost, walks_cost}

cost_both : (x : Inexact) (image xs ys : List ℕ) → chains_cost x image (xs ++ ys) ≡ chains_cost x image xs + chains_cost x image ys
cost_both x image [] ys = omega arith
cost_both x image (node ∷ xs) ys = let h = cost_both x image xs ys in omega (arith, h)

among_sum : (walk chains walks more all a : ℕ) → a ≡ walks + more → all ≡ chains + more → (walk + chains) + a ≡ (walk + walks) + all
among_sum walk chains walks more all a e f = omega arith

among_flat : (x : Inexact) (image : List ℕ) (flow : Flow) (nodes : List ℕ)
    → among_cost x image flow nodes ≡ walks_cost x image (key_of flow.src) nodes + chains_cost x image (all_below x image (key_of flow.src) nodes)
unfolding below_cost
among_flat x image flow [] = omega arith
among_flat x image flow (node ∷ nodes) =
    among_sum (walk_cost x image (key_of flow.src) node) (chains_cost x image (visit_of (below_of x node) image (key_of flow.src)))
    (walks_cost x image (key_of flow.src) nodes) (chains_cost x image (all_below x image (key_of flow.src) nodes))
    (chains_cost x image (visit_of (below_of x node) image (key_of flow.src) ++ all_below x image (key_of flow.src) nodes))
    (among_cost x image flow nodes) (among_flat x image flow nodes)
    (cost_both x image (visit_of (below_of x node) image (key_of flow.src)) (all_below x image (key_of flow.src) nodes))

in_sum : (walk walks chains a : ℕ) → a ≡ walks + chains → walk + a ≡ (walk + walks) + chains
in_sum walk walks chains a e = omega arith

pub cost_flat : (x : Inexact) (image : List ℕ) (flow : Flow) (bin : Option ℕ)
    → of_cost x image flow bin ≡ bin_walks_cost x image flow bin + chains_cost x image (visited_in x image flow bin)
unfolding in_cost
cost_flat x image flow None = omega arith
cost_flat x image flow (Some bin) =
    let nodes : List ℕ = visit_of (below_of x bin) image (key_of flow.dst) in
    in_sum (walk_cost x image (key_of flow.dst) bin) (walks_cost x image (key_of flow.src) nodes)
    (chains_cost x image (all_below x image (key_of flow.src) nodes)) (among_cost x image flow nodes) (among_flat x image flow nodes)

-- the search for the bin and all that follows
pub whole_cost : (after before bin walks chains rest : ℕ) → after ≤ before + bin + rest → rest ≡ walks + chains → after ≤ before + (bin + walks + chains)
whole_cost after before bin walks chains rest h e = omega arith

pub few_loads : (after before cost bins nodes policies : ℕ) → after ≤ before + cost → cost ≤ 12 + 16 * (bins + nodes + policies)
    → after ≤ before + 12 + 16 * (bins + nodes + policies)
few_loads after before cost bins nodes policies h e = omega arith
