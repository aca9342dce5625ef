use Rattle.std.proofs.Common.{◌≡◌, ℕ, List, ◌∷◌, ◌++◌, Option, Some, ap, sym, ◌∙◌, subst}
use Rattle.xf_types.specs.declared.state.Sa.{Sa}
use Rattle.xf_chain.specs.Chains.{Below}
use Rattle.xf_index.specs.Indexes.{records_in}
use Rattle.xf_sadimage.specs.States.{StatesStand}
use Rattle.xf_sadlist.specs.Listed.{with_states}
use Rattle.xf_sad.specs.Changes.{entries_but}
use Rattle.xf_sad.specs.Slots.{IsListed, Where}
use Rattle.xf_sad.proofs.Found.{stands_apart}
use Rattle.xf_sad.proofs.Placings.{but_none, but_between}
use Rattle.xf_sad.proofs.sad.Sad.unlist_if.Goals as goal

pub unlist-requires-clause-slot : goal.unlist-requires-clause-slot
unlist-requires-clause-slot g c = subst (λ (o : Option ℕ). Below c.args.self.now.area.slots o) c.in-Some.is c.requires.gone

pub returns-in-None-clause-stands : goal.returns-in-None-clause-stands
returns-in-None-clause-stands g c = λ s es listed st.
    let a = c.args.self.now.area in
    let same : StatesStand a (g.C.Cells.words c.args.c.now) (with_states s (records_in es)) es =
    subst (λ (rs : List Sa). StatesStand a (g.C.Cells.words c.args.c.now) (with_states s rs) es) (sym st.listed) st in
    subst (λ (xs : List (ℕ × Sa)). StatesStand a (g.C.Cells.words c.args.c.now) (with_states s (records_in xs)) xs)
    (sym (but_none es) ∙ ap (λ (o : Option ℕ). entries_but o es) (sym c.in-None.is)) same

pub returns-in-Some-clause-stands : goal.returns-in-Some-clause-stands
returns-in-Some-clause-stands g c = λ s es listed st.
    let a = c.args.self.now.area in
    let slot = c.in-Some.slot in
    let l : IsListed es slot = subst (λ (o : Option ℕ). Where (IsListed es) o) c.in-Some.is listed in
    let old : StatesStand a (g.C.Cells.words c.args.c.now) s (l.front ++ ((slot, l.state) ∷ l.behind)) =
    subst (λ (xs : List (ℕ × Sa)). StatesStand a (g.C.Cells.words c.args.c.now) s xs) l.whole st in
    let e : l.front ++ l.behind ≡ entries_but c.args.gone es =
    sym (ap (λ (xs : List (ℕ × Sa)). entries_but (Some slot) xs) l.whole ∙ but_between slot l.state l.front l.behind (stands_apart a (g.C.Cells.words c.args.c.now) s (l.front ++ ((slot, l.state) ∷ l.behind)) old))
    ∙ ap (λ (o : Option ℕ). entries_but o es) (sym c.in-Some.is) in
    subst (λ (xs : List (ℕ × Sa)). StatesStand a (g.C.Cells.words c.unlist.new.c) (with_states s (records_in xs)) xs) e
    (c.unlist.ensures.stands s l.front l.behind l.state old)
