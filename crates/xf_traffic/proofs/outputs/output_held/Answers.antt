use Rattle.std.proofs.Common.{◌≡◌, ℕ, List, length, ap, sym, ◌∙◌, subst, ◌⊎◌, inl, inr}
use Rattle.xf_types.specs.Moves.{says_soft}
use Rattle.xf_types.specs.StateList.{has_sid}
use Rattle.std.specs.Prelude.{find}
use Rattle.xf_local.specs.declared.answer.Outbound.{Outbound}
use Rattle.xf_local.specs.declared.answer.Outbound.TheVariants as outward
use Rattle.xf_local.specs.Alone.{Outward}
use Rattle.xf_local.specs.Answering.{IsDead, WantsTurn, outward_shown}
use Rattle.xf_rows.specs.Fates.{says_ended}
use Rattle.xf_rows.specs.Layouts.{Fits}
use Rattle.xf_rows.specs.Values.{at}
use Rattle.xf_sad.specs.Slots.{PoolFits, listed_in}
use Rattle.xf_traffic.specs.Following.{Follows}
use Rattle.xf_traffic.specs.Found.{HasState}
use Rattle.xf_traffic.proofs.Listed.{first_listed, at_first, takes_back}
use Rattle.xf_traffic.proofs.Followed.{output_done, settled_ours, not_dead, others_followed, others_put}
use Rattle.xf_statecalls.proofs.Placed.{places_same}
use Rattle.xf_traffic.proofs.Placed.{Stayed, stayed}
use Rattle.xf_traffic.proofs.outputs.output_held.Given as given
use Rattle.xf_traffic.proofs.outputs.output_held.Goals as goal

pub follow-requires-clause-listed : goal.follow-requires-clause-listed
follow-requires-clause-listed g c =
    subst (λ (w : List ℕ). HasState c.args.layout.now.states w c.args.slot) (sym c.send.ensures.words)
    (first_listed c.args.layout.now (g.D.Cells.words c.args.parts.now) (g.D.Parts.beside c.args.parts.now) (has_sid c.args.sid) c.args.slot
    c.requires.stands c.requires.found)

pub follow-requires-clause-back : goal.follow-requires-clause-back
follow-requires-clause-back g c =
    takes_back c.args.layout.now.states (g.D.Cells.words c.args.parts.now) c.args.slot (g.P.Pool.capacity c.args.pool.now) (g.P.Pool.taken c.args.pool.now)
    (g.P.Pool.gives c.args.pool.now) (g.P.Pool.takes c.args.pool.now)
    (first_listed c.args.layout.now (g.D.Cells.words c.args.parts.now) (g.D.Parts.beside c.args.parts.now) (has_sid c.args.sid) c.args.slot
    c.requires.stands c.requires.found)
    c.requires.pool

follows : (g : given.Over) (c : goal.After-follow g)
    → Follows c.args.layout.now.states (g.D.Parts.hidden c.args.parts.now) c.args.slot (says_ended c.in-Answer.reply) (says_soft c.in-Answer.reply)
    (g.D.Cells.words c.send.new.self) (g.D.Cells.words c.follow.new.parts)
follows g c =
    subst (λ (n : ℕ). Follows c.args.layout.now.states n c.args.slot (says_ended c.in-Answer.reply) (says_soft c.in-Answer.reply)
    (g.D.Cells.words c.send.new.self) (g.D.Cells.words c.follow.new.parts)) c.send.ensures.hidden c.follow.ensures.follows

fits : (g : given.Over) (c : goal.After-follow g) → Fits c.args.layout.now (length (g.D.Cells.words c.args.parts.now))
fits g c = subst (λ (n : ℕ). Fits c.args.layout.now n) (sym (g.met.D.Cells.all c.args.parts.now)) c.requires.fits

pub returns-in-Answer-clause-others : goal.returns-in-Answer-clause-others
returns-in-Answer-clause-others g c =
    others_followed c.args.layout.now (g.D.Parts.hidden c.args.parts.now) c.args.slot (says_ended c.in-Answer.reply) (says_soft c.in-Answer.reply)
    (g.D.Cells.words c.args.parts.now) (g.D.Cells.words c.send.new.self) (g.D.Cells.words c.follow.new.parts) (g.D.Parts.beside c.args.parts.now) (g.D.Parts.beside c.follow.new.parts)
    (at (g.D.Parts.beside c.send.new.self) c.args.slot) (fits g c) c.requires.behind c.send.ensures.words (follows g c)
    (c.follow.ensures.beside ∙ c.send.ensures.beside)

pub returns-in-Answer-clause-settled : goal.returns-in-Answer-clause-settled
returns-in-Answer-clause-settled g c =
    settled_ours (at (g.D.Parts.beside c.args.parts.now) c.args.slot) (Outward c.args.len) c.in-Answer.reply c.in-Answer.ensures.settles.answer

pub returns-in-Answer-clause-idle : goal.returns-in-Answer-clause-idle
returns-in-Answer-clause-idle g c = λ lives calm.
    let d = c.follow.ensures.idle lives calm in record { words = d.words ∙ c.send.ensures.words; begun = d.begun ∙ c.send.ensures.begun }

pub returns-in-Answer-clause-answer : goal.returns-in-Answer-clause-answer
returns-in-Answer-clause-answer g c = λ m st.
    output_done c.args.layout.now (g.D.Cells.words c.args.parts.now) (g.D.Cells.words c.send.new.self) (g.D.Cells.words c.follow.new.parts) (g.D.Parts.beside c.args.parts.now)
    (g.D.Parts.beside c.follow.new.parts) m c.args.sid c.args.len c.args.slot (g.D.Parts.hidden c.args.parts.now) (at (g.D.Parts.beside c.send.new.self) c.args.slot) c.in-Answer.reply
    st c.requires.found (fits g c) c.requires.behind c.requires.held c.in-Answer.ensures.settles c.send.ensures.words (follows g c)
    (c.follow.ensures.beside ∙ c.send.ensures.beside)

pub returns-in-Dead-clause-others : goal.returns-in-Dead-clause-others
returns-in-Dead-clause-others g c =
    others_put c.args.layout.now (g.D.Parts.hidden c.args.parts.now) c.args.slot (g.D.Cells.words c.args.parts.now) (g.D.Cells.words c.send.new.self)
    (g.D.Parts.beside c.args.parts.now) (g.D.Parts.beside c.send.new.self) (at (g.D.Parts.beside c.send.new.self) c.args.slot) c.send.ensures.words c.send.ensures.beside

pub returns-in-Dead-clause-idle : goal.returns-in-Dead-clause-idle
returns-in-Dead-clause-idle g c = λ lives calm. record { words = c.send.ensures.words; begun = c.send.ensures.begun }

pub returns-in-Dead-clause-pool : goal.returns-in-Dead-clause-pool
returns-in-Dead-clause-pool g c = λ lasts.
    subst (λ (w : List ℕ). PoolFits (g.P.Pool.capacity c.args.pool.now) (g.P.Pool.taken c.args.pool.now) (g.P.Pool.gives c.args.pool.now) (g.P.Pool.takes c.args.pool.now)
    c.args.layout.now.states.slots (listed_in c.args.layout.now.states w)) (sym c.send.ensures.words) c.requires.pool

idle : (r : Outbound) → (r ≡ outward.Dead) ⊎ (r ≡ outward.NeedsTurn) → (outward_shown r ≡ IsDead) ⊎ (outward_shown r ≡ WantsTurn)
idle r (inl e) = inl (ap (λ (x : Outbound). outward_shown x) e)
idle r (inr e) = inr (ap (λ (x : Outbound). outward_shown x) e)

pub returns-in-Dead-clause-answer : goal.returns-in-Dead-clause-answer
returns-in-Dead-clause-answer g c = λ m st.
    let b = g.D.Parts.beside c.args.parts.now in
    let test = has_sid c.args.sid in
    absurd (not_dead b m st.rows test c.args.slot (find test m.shown.states) (Outward c.args.len)
    (at_first c.args.layout.now (g.D.Cells.words c.args.parts.now) b m test c.args.slot st c.requires.found) c.requires.held
    (outward_shown c.send.result) (idle c.send.result c.in-Dead.is) c.send.ensures.settles.answer)

-- other states stay where they are
stays_there : (g : given.Over) (c : goal.After-follow g)
    → Stayed c.args.layout.now (g.D.Parts.beside c.args.parts.now) c.args.slot (says_ended c.in-Answer.reply) (g.D.Cells.words c.args.parts.now) (g.D.Cells.words c.follow.new.parts)
stays_there g c =
    let h = c.requires.stands in
    let i = g.D.Cells.words c.args.parts.now in
    let b = g.D.Parts.beside c.args.parts.now in
    let test = has_sid c.args.sid in
    stayed c.args.layout.now i (g.D.Cells.words c.send.new.self) (g.D.Cells.words c.follow.new.parts) b h test c.args.slot (g.D.Parts.hidden c.args.parts.now) (find test h.machine.shown.states)
    (says_ended c.in-Answer.reply) (says_soft c.in-Answer.reply) (at_first c.args.layout.now i b h.machine test c.args.slot h.stands c.requires.found)
    (fits g c) c.requires.behind c.requires.held c.send.ensures.words (follows g c)

pub returns-in-Answer-clause-places : goal.returns-in-Answer-clause-places
returns-in-Answer-clause-places g c = let s = stays_there g c in s.places

pub returns-in-Answer-clause-list : goal.returns-in-Answer-clause-list
returns-in-Answer-clause-list g c = let s = stays_there g c in s.list

pub returns-in-Answer-clause-out : goal.returns-in-Answer-clause-out
returns-in-Answer-clause-out g c =
    c.follow.ensures.out (c.requires.pool.taken ∙ ap (λ (w : List ℕ). length (listed_in c.args.layout.now.states w)) (sym c.send.ensures.words))

pub returns-in-Dead-clause-places : goal.returns-in-Dead-clause-places
returns-in-Dead-clause-places g c =
    places_same c.args.layout.now (g.D.Cells.words c.args.parts.now) (g.D.Cells.words c.send.new.self) (g.D.Parts.beside c.args.parts.now) c.requires.stands c.send.ensures.words

pub returns-in-Dead-clause-list : goal.returns-in-Dead-clause-list
returns-in-Dead-clause-list g c = ap (λ (w : List ℕ). listed_in c.args.layout.now.states w) c.send.ensures.words

pub returns-in-Dead-clause-out : goal.returns-in-Dead-clause-out
returns-in-Dead-clause-out g c = c.requires.pool.taken ∙ ap (λ (w : List ℕ). length (listed_in c.args.layout.now.states w)) (sym c.send.ensures.words)
