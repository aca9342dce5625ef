use Rattle.std.proofs.Common.{◌≡◌, ℕ, Bool, true, false, List, None, refl, ap, sym, ◌∙◌, subst, ◌⊎◌, inl, inr}
use Rattle.xf_types.specs.Moves.{is_moving}
use Rattle.xf_sad.specs.Places.{SlotCame}
use Rattle.xf_sad.specs.Slots.{listed_in}
use Rattle.xf_rows.specs.Rows.{entries_in}
use Rattle.xf_rows.specs.Stands.{Stands}
use Rattle.xf_rows.specs.Values.{Beside}
use Rattle.xf_statecalls.proofs.Placed.{places_as, places_same}
use Rattle.xf_traffic.proofs.Acquired.{flow_answers}
use Rattle.xf_traffic.proofs.Followed.{others_same}
use Rattle.xf_traffic.proofs.flows.flow.Goals as goal

pub returns-in-Answered-clause-others : goal.returns-in-Answered-clause-others
returns-in-Answered-clause-others g c =
    others_same c.args.layout.now (g.D.Parts.hidden c.args.parts.now) (g.D.Cells.words c.args.parts.now) (g.D.Cells.words c.ask_here.new.parts)
    (g.D.Parts.beside c.args.parts.now) (g.D.Parts.beside c.ask_here.new.parts) c.ask_here.ensures.words c.ask_here.ensures.beside

pub returns-in-Answered-clause-answer : goal.returns-in-Answered-clause-answer
returns-in-Answered-clause-answer g c = λ m st.
    let policies = st.machine.shown.policies in
    flow_answers c.args.layout.now (g.D.Cells.words c.args.parts.now) (g.D.Cells.words c.ask_here.new.parts) (g.D.Parts.beside c.args.parts.now)
    (g.D.Parts.beside c.ask_here.new.parts) m c.args.flow.now c.in-Answered.reply st
    (c.in-Answered.ensures.answer m.shown st.policies (entries_in st.rows) policies.ordered st.on_policies st.on_states)
    c.ask_here.ensures.words c.ask_here.ensures.beside

pub returns-in-Wants-clause-answer : goal.returns-in-Wants-clause-answer
returns-in-Wants-clause-answer g c = λ m st.
    let policies = st.machine.shown.policies in
    c.acquire-reply.ensures.answer m c.args.flow.now
    (subst (λ (b : Beside). Stands c.args.layout.now (g.D.Cells.words c.ask_here.new.parts) b m) (sym c.ask_here.ensures.beside)
    (subst (λ (w : List ℕ). Stands c.args.layout.now w (g.D.Parts.beside c.args.parts.now) m) (sym c.ask_here.ensures.words) st))
    (c.in-Wants.ensures.answer m.shown st.policies (entries_in st.rows) policies.ordered st.on_policies st.on_states)

pub returns-in-Wants-clause-idle : goal.returns-in-Wants-clause-idle
returns-in-Wants-clause-idle g c = λ still.
    let d = c.acquire-reply.ensures.idle still in
    record { words = d.words ∙ c.ask_here.ensures.words; values = d.values ∙ c.ask_here.ensures.beside; begun = d.begun ∙ c.ask_here.ensures.begun }

-- ---- in which slots states stand

pub returns-in-Answered-clause-given : goal.returns-in-Answered-clause-given
returns-in-Answered-clause-given g c = inr (ap (λ (w : List ℕ). listed_in c.args.layout.now.states w) c.ask_here.ensures.words)

pub returns-in-Answered-clause-places : goal.returns-in-Answered-clause-places
returns-in-Answered-clause-places g c =
    places_same c.args.layout.now (g.D.Cells.words c.args.parts.now) (g.D.Cells.words c.ask_here.new.parts) (g.D.Parts.beside c.args.parts.now) c.requires.stands c.ask_here.ensures.words

-- a reply moves or doesn't
by_moving : {A B : Type 0} (b : Bool) → (b ≡ true → A) → (b ≡ false → B) → A ⊎ B
by_moving true moves stays = inl (moves refl)
by_moving false moves stays = inr (stays refl)

pub returns-in-Wants-clause-given : goal.returns-in-Wants-clause-given
returns-in-Wants-clause-given g c =
    let a = c.args.layout.now.states in
    let k = g.D.Cells.words c.acquire-reply.new.parts in
    subst (λ (w : List ℕ). SlotCame (g.P.Pool.gives c.args.pool.now) None (listed_in a w) (listed_in a k) ⊎ (listed_in a k ≡ listed_in a w)) c.ask_here.ensures.words
    (by_moving (is_moving c.acquire-reply.result) c.acquire-reply.ensures.given
    (λ stays. let d = c.acquire-reply.ensures.idle stays in ap (λ (w : List ℕ). listed_in a w) d.words))

pub returns-in-Wants-clause-places : goal.returns-in-Wants-clause-places
returns-in-Wants-clause-places g c =
    places_as c.args.layout.now.states (g.D.Cells.words c.args.parts.now) (g.D.Cells.words c.ask_here.new.parts) (g.D.Cells.words c.acquire-reply.new.parts)
    (g.D.Parts.beside c.args.parts.now) (g.D.Parts.beside c.ask_here.new.parts) c.ask_here.ensures.words c.ask_here.ensures.beside c.acquire-reply.ensures.places
