use Rattle.std.proofs.Common.{Option, ℕ, subst, sym}
use Rattle.xf_trie.specs.Lookups.{Finds}
use Rattle.xf_trie.proofs.Lookups.{finds_is}
use Rattle.xf_trie.proofs.trie.Trie.find_key.Goals as goal

pub returns-clause-law : goal.returns-clause-law
returns-clause-law g c = λ image h. subst (λ (slot : Option ℕ). Finds c.args.self.now image c.args.key c.args.len slot)
    (sym (c.found.ensures.answer image h)) (finds_is c.args.self.now image c.args.key c.args.len)
