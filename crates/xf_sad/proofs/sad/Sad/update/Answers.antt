use Rattle.std.proofs.Common.{◌≡◌, ℕ, List, ◌∷◌, ◌++◌, Option, None, Some, Ok, ap, sym, ◌∙◌, subst, ◌⊎◌, inl, inr}
use Rattle.std.specs.Prelude.{IfOk}
use Rattle.std.proofs.lemmas.Result.{IfOk-weaker}
use Rattle.xf_types.specs.declared.state.Sa.{Sa}
use Rattle.xf_types.specs.declared.state.SaId.{SaId}
use Rattle.xf_types.specs.Changes.{Answer, shown_after}
use Rattle.xf_types.specs.Machine.{Shown}
use Rattle.xf_types.specs.StateList.{has_id, id_of}
use Rattle.xf_types.specs.StateRules.{refreshed_record, state_update, state_updated}
use Rattle.xf_index.specs.Finds.{slot_found}
use Rattle.xf_sadidx.specs.Founds.{latest_in}
use Rattle.xf_sadimage.specs.States.{StatesStand}
use Rattle.xf_sad.specs.Changes.{Comes}
use Rattle.xf_sad.specs.Lookups.{named_in}
use Rattle.xf_sad.specs.Slots.{PoolFits, listed_in}
use Rattle.xf_sad.proofs.Rules.{IsEntry, named_is, latest_entry}
use Rattle.xf_sad.proofs.Updates.{match_is, found_none, Pair, found_pair, same_slot, no_slot, reply_as}
use Rattle.xf_sad.proofs.sad.Sad.update.Given as given
use Rattle.xf_sad.proofs.sad.Sad.update.Goals as goal

-- ---- no state has the id

pub returns-in-None-clause-reply : goal.returns-in-None-clause-reply
returns-in-None-clause-reply g c = λ s es at st fits.
    let a = c.args.self.now.area in
    let i : List ℕ = g.C.Cells.words c.args.c.now in
    let e : c.named_here.result ≡ slot_found (latest_in (has_id (id_of c.args.spec.now)) es) =
    c.named_here.ensures.answer ∙ ap (λ (id : SaId). named_in a i id) c.id_of-id.ensures ∙ named_is a i s es (id_of c.args.spec.now) st in
    sym (ap (λ (x : Answer). x.reply) (match_is s es c.args.spec.now None st.listed (found_none (latest_in (has_id (id_of c.args.spec.now)) es) (sym e ∙ c.in-None.is))))

pub returns-in-None-clause-used : goal.returns-in-None-clause-used
returns-in-None-clause-used g c = λ s front back slot old latest used at st.
    let a = c.args.self.now.area in
    let i : List ℕ = g.C.Cells.words c.args.c.now in
    let e : c.named_here.result ≡ slot_found (latest_in (has_id (id_of c.args.spec.now)) (front ++ ((slot, old) ∷ back))) =
    c.named_here.ensures.answer ∙ ap (λ (id : SaId). named_in a i id) c.id_of-id.ensures ∙ named_is a i s (front ++ ((slot, old) ∷ back)) (id_of c.args.spec.now) st in
    absurd (no_slot (latest_in (has_id (id_of c.args.spec.now)) (front ++ ((slot, old) ∷ back))) slot old latest (sym e ∙ c.in-None.is))

-- ---- one has it

slot_is : (g : given.Over) (c : goal.After-update_in g) (s : Shown) (es : List (ℕ × Sa)) → StatesStand c.args.self.now.area (g.C.Cells.words c.args.c.now) s es
    → slot_found (latest_in (has_id (id_of c.args.spec.now)) es) ≡ Some c.in-Some.slot
slot_is g c s es st =
    let a = c.args.self.now.area in
    let i : List ℕ = g.C.Cells.words c.args.c.now in
    sym (c.named_here.ensures.answer ∙ ap (λ (id : SaId). named_in a i id) c.id_of-id.ensures ∙ named_is a i s es (id_of c.args.spec.now) st) ∙ c.in-Some.is

still : (g : given.Over) (c : goal.After-update_in g) (s : Shown) (es : List (ℕ × Sa)) → StatesStand c.args.self.now.area (g.C.Cells.words c.args.c.now) s es
    → StatesStand c.args.self.now.area (g.C.Cells.words c.named_here.new.c) s es
still g c s es st = subst (λ (i : List ℕ). StatesStand c.args.self.now.area i s es) (sym c.named_here.ensures.words) st

fits_still : (g : given.Over) (c : goal.After-update_in g) → PoolFits (g.P.Pool.capacity c.args.pool.now) (g.P.Pool.taken c.args.pool.now) (g.P.Pool.gives c.args.pool.now) (g.P.Pool.takes c.args.pool.now) c.args.self.now.area.slots (listed_in c.args.self.now.area (g.C.Cells.words c.args.c.now))
    → PoolFits (g.P.Pool.capacity c.args.pool.now) (g.P.Pool.taken c.args.pool.now) (g.P.Pool.gives c.args.pool.now) (g.P.Pool.takes c.args.pool.now) c.args.self.now.area.slots (listed_in c.args.self.now.area (g.C.Cells.words c.named_here.new.c))
fits_still g c fits =
    subst (λ (i : List ℕ). PoolFits (g.P.Pool.capacity c.args.pool.now) (g.P.Pool.taken c.args.pool.now) (g.P.Pool.gives c.args.pool.now) (g.P.Pool.takes c.args.pool.now) c.args.self.now.area.slots (listed_in c.args.self.now.area i)) (sym c.named_here.ensures.words) fits

pub returns-in-Some-clause-reply : goal.returns-in-Some-clause-reply
returns-in-Some-clause-reply g c = λ s es at st fits.
    let a = c.args.self.now.area in
    let spec = c.args.spec.now in
    let p : Pair (latest_in (has_id (id_of spec)) es) c.in-Some.slot = found_pair (latest_in (has_id (id_of spec)) es) c.in-Some.slot (slot_is g c s es st) in
    let is : IsEntry es c.in-Some.slot p.state = latest_entry (has_id (id_of spec)) es c.in-Some.slot p.state p.is in
    reply_as (g.P.Pool.held c.update_in.new.pool) s (λ t. (state_updated t spec (Some p.state)).reply) (λ t. (state_update t spec).reply) _ c.update_in.result
    (λ m. ap (λ (x : Answer). x.reply) (sym (match_is (record s { max_states = m }) es spec (Some (c.in-Some.slot, p.state)) st.listed p.is)))
    (c.update_in.ensures.reply s is.front is.behind p.state at
    (subst (λ (xs : List (ℕ × Sa)). StatesStand a (g.C.Cells.words c.named_here.new.c) s xs) is.whole (still g c s es st)) (fits_still g c fits))

pub returns-in-Some-clause-larval : goal.returns-in-Some-clause-larval
returns-in-Some-clause-larval g c = λ s es slot old latest larval at st fits.
    let a = c.args.self.now.area in
    let spec = c.args.spec.now in
    let w : List ℕ = g.C.Cells.words c.update_in.new.c in
    let e : c.in-Some.slot ≡ slot = same_slot (latest_in (has_id (id_of spec)) es) c.in-Some.slot slot old (slot_is g c s es st) latest in
    let own : latest_in (has_id (id_of spec)) es ≡ Some (c.in-Some.slot, old) = latest ∙ ap (λ (n : ℕ). Some (n, old)) (sym e) in
    let is : IsEntry es c.in-Some.slot old = latest_entry (has_id (id_of spec)) es c.in-Some.slot old own in
    subst (λ (n : ℕ). IfOk c.update_in.result (λ new. Comes a w s es (g.P.Pool.gives c.args.pool.now) (Some n) new (state_update s spec))) e
    (subst (λ (x : Answer). IfOk c.update_in.result (λ new. Comes a w s es (g.P.Pool.gives c.args.pool.now) (Some c.in-Some.slot) new x)) (sym (match_is s es spec (Some (c.in-Some.slot, old)) st.listed own))
    (subst (λ (xs : List (ℕ × Sa)). IfOk c.update_in.result (λ new. Comes a w s xs (g.P.Pool.gives c.args.pool.now) (Some c.in-Some.slot) new (state_updated s spec (Some old)))) (sym is.whole)
    (c.update_in.ensures.larval s is.front is.behind old larval at
    (subst (λ (xs : List (ℕ × Sa)). StatesStand a (g.C.Cells.words c.named_here.new.c) s xs) is.whole (still g c s es st)) (fits_still g c fits))))

pub returns-in-Some-clause-used : goal.returns-in-Some-clause-used
returns-in-Some-clause-used g c = λ s front back slot old latest used at st.
    let a = c.args.self.now.area in
    let spec = c.args.spec.now in
    let es : List (ℕ × Sa) = front ++ ((slot, old) ∷ back) in
    let w : List ℕ = g.C.Cells.words c.update_in.new.c in
    let e : c.in-Some.slot ≡ slot = same_slot (latest_in (has_id (id_of spec)) es) c.in-Some.slot slot old (slot_is g c s es st) latest in
    let k = c.update_in.ensures.used s front back old used at
    (subst (λ (n : ℕ). StatesStand a (g.C.Cells.words c.named_here.new.c) s (front ++ ((n, old) ∷ back))) (sym e) (still g c s es st)) in (
      k.0 ∙ ap (λ (n : ℕ). Ok n) e,
      subst (λ (x : Answer). StatesStand a w (shown_after s x.change) (front ++ ((slot, refreshed_record spec old) ∷ back))) (sym (match_is s es spec (Some (slot, old)) st.listed latest))
          (subst (λ (n : ℕ). StatesStand a w (shown_after s (state_updated s spec (Some old)).change) (front ++ ((n, refreshed_record spec old) ∷ back))) e k.1),
    )

pub returns-in-Some-clause-pool : goal.returns-in-Some-clause-pool
returns-in-Some-clause-pool g c = λ s es lasts at st fits.
    let a = c.args.self.now.area in
    let spec = c.args.spec.now in
    let p : Pair (latest_in (has_id (id_of spec)) es) c.in-Some.slot = found_pair (latest_in (has_id (id_of spec)) es) c.in-Some.slot (slot_is g c s es st) in
    let is : IsEntry es c.in-Some.slot p.state = latest_entry (has_id (id_of spec)) es c.in-Some.slot p.state p.is in
    c.update_in.ensures.pool s is.front is.behind p.state lasts at
    (subst (λ (xs : List (ℕ × Sa)). StatesStand a (g.C.Cells.words c.named_here.new.c) s xs) is.whole (still g c s es st)) (fits_still g c fits)

named_or : (gives : ℕ → Type 0) (named : Option ℕ) (slot new : ℕ) → named ≡ Some slot → gives new ⊎ (new ≡ slot) → gives new ⊎ (named ≡ Some new)
named_or gives named slot new e (inl h) = inl h
named_or gives named slot new e (inr h) = inr (e ∙ ap (λ (n : ℕ). Some n) (sym h))

pub returns-in-Some-clause-given : goal.returns-in-Some-clause-given
returns-in-Some-clause-given g c =
    let named : Option ℕ = named_in c.args.self.now.area (g.C.Cells.words c.args.c.now) (id_of c.args.spec.now) in
    let is : named ≡ Some c.in-Some.slot =
    ap (λ (id : SaId). named_in c.args.self.now.area (g.C.Cells.words c.args.c.now) id) (sym c.id_of-id.ensures) ∙ sym c.named_here.ensures.answer ∙ c.in-Some.is in
    IfOk-weaker c.update_in.result (λ new. g.P.Pool.gives c.args.pool.now new ⊎ (new ≡ c.in-Some.slot)) (λ new. g.P.Pool.gives c.args.pool.now new ⊎ (named ≡ Some new))
    (λ new h. named_or (g.P.Pool.gives c.args.pool.now) named c.in-Some.slot new is h) c.update_in.ensures.given
