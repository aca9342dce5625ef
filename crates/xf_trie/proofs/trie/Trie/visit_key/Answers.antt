use Rattle.std.proofs.Common.{List, ℕ, subst, sym}
use Rattle.xf_trie.specs.Lookups.{Visits}
use Rattle.xf_trie.proofs.Lookups.{visits_is}
use Rattle.xf_trie.proofs.trie.Trie.visit_key.Goals as goal

pub returns-clause-law : goal.returns-clause-law
returns-clause-law g c = λ image h. subst (λ (slots : List ℕ). Visits c.args.self.now image c.args.key (g.L.Load.loads c.args.l.now) (g.L.Load.loads c.visited.new.l) slots)
    (sym (c.visited.ensures.answer image h)) (visits_is c.args.self.now image c.args.key (g.L.Load.loads c.args.l.now) (g.L.Load.loads c.visited.new.l) (c.visited.ensures.loads image h))
