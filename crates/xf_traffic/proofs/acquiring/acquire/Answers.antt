use Rattle.std.proofs.Common.{◌≡◌, ℕ, ◌<◌, Bool, true, false, List, ◌∷◌, [], ◌++◌, None, Some, length, refl, ap, sym, ◌∙◌, subst}
use Rattle.xf_types.specs.declared.call.Call.TheVariants as call
use Rattle.xf_types.specs.declared.call.Reply.{Reply}
use Rattle.xf_types.specs.declared.state.Sa.{Sa}
use Rattle.xf_types.specs.FlowRules.{acquired}
use Rattle.xf_types.specs.History.{is_contended}
use Rattle.xf_types.specs.Moves.{is_moving}
use Rattle.xf_image.specs.Frames.{Frame}
use Rattle.xf_sadidx.specs.Layout.{end_of, record_at}
use Rattle.xf_types.specs.Changes.{shown_after}
use Rattle.xf_sadimage.specs.States.{StatesStand}
use Rattle.xf_sad.specs.Changes.{new_state, entries_but}
use Rattle.xf_sad.specs.declared.faults.SadFault.{SadFault}
use Rattle.xf_sad.specs.declared.faults.SadFault.TheVariants.{Invalid, Exists, NoState, NoSpi, Full}
use Rattle.xf_sad.specs.Replies.{IsRoomFault}
use Rattle.xf_rows.specs.Layouts.{Fits}
use Rattle.xf_rows.specs.Replies.{Answers}
use Rattle.xf_rows.specs.Rows.{entries_in}
use Rattle.xf_rows.specs.Values.{Beside, value_put}
use Rattle.xf_statecalls.specs.Windows.{value_of_new}
use Rattle.xf_statecalls.proofs.Others.{others_words, put_count, put_held}
use Rattle.xf_statecalls.proofs.Placed.{place_came, list_came, places_same}
use Rattle.xf_traffic.proofs.Acquired.{acquires_sid, comes_there, comes_larval, acquired_answers, refused_answers, fault_settled}
use Rattle.xf_traffic.proofs.Followed.{others_same}
use Rattle.xf_traffic.proofs.acquiring.acquire.Given as given
use Rattle.xf_traffic.proofs.acquiring.acquire.Goals as goal

-- ---- the state that was listed

pub begin_larval-requires-clause-slot : goal.begin_larval-requires-clause-slot
begin_larval-requires-clause-slot g c =
    let h = c.requires.stands in c.requires.ready.below c.in-Ok.slot (c.in-Ok.ensures.comes h.machine h.stands).given

pub begin_larval-requires-clause-count : goal.begin_larval-requires-clause-count
begin_larval-requires-clause-count g c =
    let h = c.requires.stands in
    subst (λ (b : Beside). c.in-Ok.slot < length b.values) (sym c.acquire_words.ensures.beside)
    (subst (λ (n : ℕ). c.in-Ok.slot < n) (sym c.requires.ready.count) (c.requires.ready.below c.in-Ok.slot (c.in-Ok.ensures.comes h.machine h.stands).given))

pub begin_larval-requires-clause-held : goal.begin_larval-requires-clause-held
begin_larval-requires-clause-held g c =
    let h = c.requires.stands in
    ap (λ (b : Beside). b.held c.in-Ok.slot) c.acquire_words.ensures.beside ∙ c.requires.ready.turns c.in-Ok.slot (c.in-Ok.ensures.comes h.machine h.stands).given

pub begin_larval-requires-clause-larval : goal.begin_larval-requires-clause-larval
begin_larval-requires-clause-larval g c =
    let h = c.requires.stands in
    let w = c.args.wanted.now in
    comes_larval c.args.layout.now (g.D.Cells.words c.acquire_words.new.parts) h.machine.shown (entries_in h.stands.rows) (g.P.Pool.gives c.args.pool.now) c.in-Ok.slot
    w.policy w.template w.src w.dst (c.in-Ok.ensures.comes h.machine h.stands)

-- ---- there is no room

pub returns-in-Err-clause-others : goal.returns-in-Err-clause-others
returns-in-Err-clause-others g c =
    others_same c.args.layout.now (g.D.Parts.hidden c.args.parts.now) (g.D.Cells.words c.args.parts.now) (g.D.Cells.words c.acquire_words.new.parts)
    (g.D.Parts.beside c.args.parts.now) (g.D.Parts.beside c.acquire_words.new.parts) (c.in-Err.ensures.refused refl) c.acquire_words.ensures.beside

pub returns-in-Err-clause-settled : goal.returns-in-Err-clause-settled
returns-in-Err-clause-settled g c = λ none.
    let h = c.requires.stands in
    let w = c.args.wanted.now in
    ap (λ (r : Reply). is_contended r) c.fault_reply.ensures
    ∙ fault_settled (g.P.Pool.held c.acquire_words.new.pool) h.machine.shown (λ t. (acquired t w.policy w.template w.src w.dst).reply) c.in-Err.fault c.in-Err.ensures.fault
    (c.in-Err.ensures.full h.machine h.stands) none

pub returns-in-Err-clause-idle : goal.returns-in-Err-clause-idle
returns-in-Err-clause-idle g c = λ still.
    record { words = c.in-Err.ensures.refused refl; values = c.acquire_words.ensures.beside; begun = c.in-Err.ensures.begun }

pub returns-in-Err-clause-answer : goal.returns-in-Err-clause-answer
returns-in-Err-clause-answer g c = λ m flow st wanted.
    let layout = c.args.layout.now in
    let b : Beside = g.D.Parts.beside c.args.parts.now in
    subst (λ (r : Reply). Answers layout (g.D.Cells.words c.acquire_words.new.parts) (g.D.Parts.beside c.acquire_words.new.parts) m (call.Flow flow) r) (sym c.fault_reply.ensures)
    (subst (λ (d : Beside). Answers layout (g.D.Cells.words c.acquire_words.new.parts) d m (call.Flow flow) (Rattle.xf_sad.specs.Replies.fault_reply c.in-Err.fault)) (sym c.acquire_words.ensures.beside)
    (subst (λ (w : List ℕ). Answers layout w b m (call.Flow flow) (Rattle.xf_sad.specs.Replies.fault_reply c.in-Err.fault)) (sym (c.in-Err.ensures.refused refl))
    (refused_answers layout (g.D.Cells.words c.args.parts.now) b m flow c.args.wanted.now (g.P.Pool.held c.acquire_words.new.pool) c.in-Err.fault st wanted c.in-Err.ensures.fault
    (c.in-Err.ensures.full m st))))

-- ---- there is

-- a record stands in its slot
abbrev listed : (g : given.Over) (c : goal.After-begin_larval g) → Sa
listed g c = let h = c.requires.stands in let x = c.in-Ok.ensures.comes h.machine h.stands in new_state x.shown x.new

there : (g : given.Over) (c : goal.After-begin_larval g) → record_at c.args.layout.now.states (g.D.Cells.words c.acquire_words.new.parts) c.in-Ok.slot ≡ Some (listed g c)
there g c =
    let h = c.requires.stands in
    let w = c.args.wanted.now in
    comes_there c.args.layout.now (g.D.Cells.words c.acquire_words.new.parts) h.machine.shown (entries_in h.stands.rows) (g.P.Pool.gives c.args.pool.now) c.in-Ok.slot
    (acquired h.machine.shown w.policy w.template w.src w.dst) (c.in-Ok.ensures.comes h.machine h.stands)

frame : (g : given.Over) (c : goal.After-begin_larval g)
    → Frame c.args.layout.now.states.base (end_of c.args.layout.now.states) (g.D.Cells.words c.args.parts.now) (g.D.Cells.words c.begin_larval.new.parts)
frame g c =
    subst (λ (w : List ℕ). Frame c.args.layout.now.states.base (end_of c.args.layout.now.states) (g.D.Cells.words c.args.parts.now) w) (sym c.begin_larval.ensures.words)
    c.acquire_words.ensures.frame

pub returns-in-Ok-clause-others : goal.returns-in-Ok-clause-others
returns-in-Ok-clause-others g c =
    let b : Beside = g.D.Parts.beside c.args.parts.now in
    let d : Beside = g.D.Parts.beside c.acquire_words.new.parts in
    let e : Beside = g.D.Parts.beside c.begin_larval.new.parts in
    others_words c.args.layout.now (g.D.Parts.hidden c.args.parts.now) (g.D.Cells.words c.args.parts.now) (g.D.Cells.words c.begin_larval.new.parts) b e (frame g c)
    (put_count b e d c.in-Ok.slot (value_of_new (listed g c)) c.acquire_words.ensures.beside (c.begin_larval.ensures.beside (listed g c) (there g c)))
    (put_held b e d c.in-Ok.slot (value_of_new (listed g c)) c.acquire_words.ensures.beside (c.begin_larval.ensures.beside (listed g c) (there g c)))

pub returns-in-Ok-clause-settled : goal.returns-in-Ok-clause-settled
returns-in-Ok-clause-settled g c = λ none. ap (λ (r : Reply). is_contended r) (c.begin_larval.ensures.reply (listed g c) (there g c))

pub returns-in-Ok-clause-idle : goal.returns-in-Ok-clause-idle
returns-in-Ok-clause-idle g c = λ still.
    let e : Rattle.std.proofs.Common.false ≡ Rattle.std.proofs.Common.true =
    sym still ∙ ap (λ (r : Reply). is_moving r) (c.begin_larval.ensures.reply (listed g c) (there g c)) in
    absurd (cc)

pub returns-in-Ok-clause-answer : goal.returns-in-Ok-clause-answer
returns-in-Ok-clause-answer g c = λ m flow st wanted.
    let layout = c.args.layout.now in
    let i : List ℕ = g.D.Cells.words c.args.parts.now in
    let b : Beside = g.D.Parts.beside c.args.parts.now in
    let e : Beside = g.D.Parts.beside c.begin_larval.new.parts in
    let fits : Fits layout (length i) = subst (λ (n : ℕ). Fits layout n) (sym (g.met.D.Cells.all c.args.parts.now)) c.requires.ready.fits in
    subst (λ (w : List ℕ). Answers layout w e m (call.Flow flow) c.begin_larval.result) (sym c.begin_larval.ensures.words)
    (acquired_answers layout i (g.D.Cells.words c.acquire_words.new.parts) b e m flow c.args.wanted.now c.in-Ok.slot (g.P.Pool.gives c.args.pool.now) c.begin_larval.result
    st fits c.acquire_words.ensures.frame wanted (c.in-Ok.ensures.comes m st) (c.requires.ready.below c.in-Ok.slot (c.in-Ok.ensures.comes m st).given)
    (λ state at. c.begin_larval.ensures.beside state at ∙ ap (λ (d : Beside). value_put d c.in-Ok.slot (value_of_new state)) c.acquire_words.ensures.beside)
    (λ state at. c.begin_larval.ensures.reply state at))

-- ---- in which slots states stand

still : (f : SadFault) → is_moving (Rattle.xf_sad.specs.Replies.fault_reply f) ≡ false
still Invalid = refl
still (Exists sid) = refl
still NoState = refl
still NoSpi = refl
still (Full live waiting) = refl

pub returns-in-Err-clause-given : goal.returns-in-Err-clause-given
returns-in-Err-clause-given g c = λ moves.
    let stays : is_moving c.fault_reply.result ≡ false = ap (λ (r : Reply). is_moving r) c.fault_reply.ensures ∙ still c.in-Err.fault in
    absurd (cc)

pub returns-in-Err-clause-places : goal.returns-in-Err-clause-places
returns-in-Err-clause-places g c =
    places_same c.args.layout.now (g.D.Cells.words c.args.parts.now) (g.D.Cells.words c.acquire_words.new.parts) (g.D.Parts.beside c.args.parts.now) c.requires.stands
    (c.in-Err.ensures.refused refl)

-- the words stand for the states with the new one
stand : (g : given.Over) (c : goal.After-begin_larval g)
    → StatesStand c.args.layout.now.states (g.D.Cells.words c.begin_larval.new.parts)
    (shown_after c.requires.stands.machine.shown (acquired c.requires.stands.machine.shown c.args.wanted.now.policy c.args.wanted.now.template c.args.wanted.now.src c.args.wanted.now.dst).change)
    (entries_but None (entries_in c.requires.stands.stands.rows) ++ ((c.in-Ok.slot, listed g c) ∷ []))
stand g c =
    let h = c.requires.stands in
    let x = c.in-Ok.ensures.comes h.machine h.stands in
    let w = c.args.wanted.now in
    subst (λ (ws : List ℕ). StatesStand c.args.layout.now.states ws (shown_after h.machine.shown (acquired h.machine.shown w.policy w.template w.src w.dst).change)
    (entries_but None (entries_in h.stands.rows) ++ ((c.in-Ok.slot, listed g c) ∷ []))) (sym c.begin_larval.ensures.words) x.stands

pub returns-in-Ok-clause-places : goal.returns-in-Ok-clause-places
returns-in-Ok-clause-places g c =
    let h = c.requires.stands in
    let w = c.args.wanted.now in
    let x = c.in-Ok.ensures.comes h.machine h.stands in
    place_came c.args.layout.now (g.D.Cells.words c.args.parts.now) (g.D.Cells.words c.begin_larval.new.parts) (g.D.Parts.beside c.args.parts.now) h.machine None c.in-Ok.slot _ (listed g c) h.stands
    tt (c.requires.ready.turns c.in-Ok.slot x.given) (acquires_sid h.machine.shown w.policy w.template w.src w.dst x.shown x.leaves x.new x.change) (stand g c)

pub returns-in-Ok-clause-given : goal.returns-in-Ok-clause-given
returns-in-Ok-clause-given g c = λ moves.
    let h = c.requires.stands in
    let x = c.in-Ok.ensures.comes h.machine h.stands in
    list_came c.args.layout.now (g.D.Cells.words c.args.parts.now) (g.D.Cells.words c.begin_larval.new.parts) (g.D.Parts.beside c.args.parts.now) h.machine (g.P.Pool.gives c.args.pool.now) None
    c.in-Ok.slot _ (listed g c) h.stands x.given (stand g c)
