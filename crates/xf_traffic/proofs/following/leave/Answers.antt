use Rattle.std.proofs.Common.{arith, ℕ, ◌≡◌, ◌≤◌, List, ◌∷◌, ◌++◌, length, ap, sym, ◌∙◌, subst, length-append}
use Rattle.xf_index.specs.Indexes.{slots_in}
use Rattle.xf_index.proofs.Entries.{slots_append}
use Rattle.xf_sad.specs.Slots.{PoolFits, listed_in}
use Rattle.xf_sad.proofs.Found.{listed_is, listed_between}
use Rattle.xf_rows.specs.Layouts.{Fits}
use Rattle.xf_traffic.proofs.Listed.{listed_apart}
use Rattle.xf_traffic.proofs.following.leave.Goals as goal

pub returns-clause-pool : goal.returns-clause-pool
returns-clause-pool g c = λ lasts fits.
    let layout = c.args.layout.now in
    let h = c.requires.listed in
    let k : List ℕ = g.D.Cells.words c.delete.new.c in
    let all : Fits layout (length k) =
    subst (λ (n : ℕ). Fits layout n) (sym (c.delete.ensures.frame.size ∙ g.met.D.Cells.all c.args.parts.now)) c.requires.fits in
    let low : g.D.Parts.hidden c.delete.new.c ≤ layout.policies.base =
    subst (λ (n : ℕ). n ≤ layout.policies.base) (sym (g.met.D.Parts.kept_hidden c.delete.new.c c.args.parts.now c.delete.ensures.rest)) c.requires.behind in
    subst (λ (xs : List ℕ). PoolFits (g.P.Pool.capacity c.delete.new.pool) (g.P.Pool.taken c.delete.new.pool) (g.P.Pool.gives c.delete.new.pool) (g.P.Pool.takes c.delete.new.pool) layout.states.slots xs)
    (sym (listed_apart layout k (g.D.Cells.words c.state_freed.new.self) _ _ (g.D.Parts.hidden c.delete.new.c) all low c.state_freed.ensures.frame
    (c.delete.ensures.stands h.shown h.front h.back h.state h.stands)))
    (c.delete.ensures.pool h.shown h.front h.back h.state lasts h.stands fits)

pub returns-clause-returned : goal.returns-clause-returned
returns-clause-returned g c = let h = c.requires.listed in c.delete.ensures.returned h.shown h.front h.back h.state h.stands

pub returns-clause-out : goal.returns-clause-out
returns-clause-out g c = λ out.
    let layout = c.args.layout.now in
    let h = c.requires.listed in
    let k : List ℕ = g.D.Cells.words c.delete.new.c in
    let all : Fits layout (length k) =
    subst (λ (n : ℕ). Fits layout n) (sym (c.delete.ensures.frame.size ∙ g.met.D.Cells.all c.args.parts.now)) c.requires.fits in
    let low : g.D.Parts.hidden c.delete.new.c ≤ layout.policies.base =
    subst (λ (n : ℕ). n ≤ layout.policies.base) (sym (g.met.D.Parts.kept_hidden c.delete.new.c c.args.parts.now c.delete.ensures.rest)) c.requires.behind in
    let st = c.delete.ensures.stands h.shown h.front h.back h.state h.stands in
    let now : listed_in layout.states (g.D.Cells.words c.state_freed.new.self) ≡ slots_in h.front ++ slots_in h.back =
    listed_apart layout k (g.D.Cells.words c.state_freed.new.self) _ _ (g.D.Parts.hidden c.delete.new.c) all low c.state_freed.ensures.frame st
    ∙ listed_is layout.states k _ (h.front ++ h.back) st ∙ slots_append h.front h.back in
    let old = ap (λ (xs : List ℕ). length xs) (listed_between layout.states (g.D.Cells.words c.args.parts.now) h.shown h.front h.back c.args.slot h.state h.stands) in
    let new = ap (λ (xs : List ℕ). length xs) now in
    let one = length-append (slots_in h.front) (c.args.slot ∷ slots_in h.back) in
    let two = length-append (slots_in h.front) (slots_in h.back) in
    let less = c.delete.ensures.out h.shown h.front h.back h.state h.stands in
    omega (arith, out, old, new, one, two, less)
