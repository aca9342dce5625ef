use Rattle.std.proofs.Common.{◌≡◌, ℕ, ◌<◌, true, false, List, Option, Some, length, refl, ap, sym, ◌∙◌, subst}
use Rattle.xf_types.specs.declared.call.Call.TheVariants.{StateUpdate}
use Rattle.xf_types.specs.declared.call.Reply.{Reply}
use Rattle.xf_types.specs.declared.call.Reply.TheVariants as reply
use Rattle.xf_types.specs.declared.state.Sa.{Sa}
use Rattle.xf_types.specs.declared.state.SaSpec.{SaSpec}
use Rattle.xf_types.specs.Codes.{is_refusal_of}
use Rattle.xf_types.specs.History.{is_contended}
use Rattle.xf_types.specs.StateList.{has_id, latest_match, id_of}
use Rattle.xf_types.specs.StateRules.{state_update}
use Rattle.xf_image.specs.Frames.{Frame}
use Rattle.xf_sadidx.specs.Layout.{end_of}
use Rattle.xf_sadimage.specs.States.{StatesStand}
use Rattle.xf_sad.specs.Changes.{Comes}
use Rattle.xf_sad.specs.Places.{KeepsPlaces, SlotCame}
use Rattle.xf_sad.specs.Slots.{PoolFits, Where, listed_in}
use Rattle.xf_sad.proofs.Rules.{named_is}
use Rattle.xf_rows.specs.Changes.{ended}
use Rattle.xf_rows.specs.Layouts.{Fits}
use Rattle.xf_rows.specs.Rows.{entries_in}
use Rattle.xf_rows.specs.Values.{Beside, value_put}
use Rattle.xf_rows.specs.Stands.{Stands}
use Rattle.xf_rows.specs.Replies.{Answers}
use Rattle.xf_laws.specs.OwnLaws.{added_record}
use Rattle.xf_statecalls.specs.Windows.{IsWindowOf, value_of_new}
use Rattle.xf_statecalls.proofs.Come.{came, at_now, updated_adds}
use Rattle.xf_statecalls.proofs.Others.{others_none, others_both, turned_count, turned_held}
use Rattle.xf_statecalls.proofs.Placed.{came_both, places_same}
use Rattle.xf_statecalls.proofs.Refused.{refused, fault_remembers, fault_settled, fault_refuses}
use Rattle.xf_statecalls.proofs.Replied.{answers_same, stands_same}
use Rattle.xf_statecalls.proofs.Named.{NamedAt, named_at}
use Rattle.xf_statecalls.proofs.Standing.{gone_back, pool_same, size_same, slots_behind}
use Rattle.xf_statecalls.proofs.updating.state_update_ready.Given as given
use Rattle.xf_statecalls.proofs.updating.state_update_ready.Goals as goal

pub update_here-requires-clause-back : goal.update_here-requires-clause-back
update_here-requires-clause-back g c =
    let a = c.args.layout.now in
    let i = g.D.Cells.words c.args.parts.now in
    let b = g.D.Parts.beside c.args.parts.now in
    let i1 = g.D.Cells.words c.new_here-state.new.parts in
    let b1 = g.D.Parts.beside c.new_here-state.new.parts in
    let w = c.new_here-state.ensures.words in
    let v = c.new_here-state.ensures.beside in
    let m = c.requires.stands.machine in
    let r = c.requires.stands.stands in
    let r1 : Stands a i1 b1 m = stands_same a i i1 b b1 m w v r in
    let fits1 = pool_same a.states i i1 (g.P.Pool.capacity c.args.pool.now) (g.P.Pool.taken c.args.pool.now) (g.P.Pool.gives c.args.pool.now) (g.P.Pool.takes c.args.pool.now) w c.requires.pool in
    let st : StatesStand a.states i m.shown (entries_in r1.rows) = subst (λ (y : List ℕ). StatesStand a.states y m.shown (entries_in r1.rows)) w r1.on_states in
    let named : NamedAt a.states i (entries_in r1.rows) (has_id (id_of c.args.spec.now)) c.args.slot =
    named_at a.states i m.shown (entries_in r1.rows) (has_id (id_of c.args.spec.now)) c.args.slot st (c.requires.found m.shown (entries_in r1.rows) st) in
    subst (λ (o : Option ℕ). Where (g.P.Pool.takes c.args.pool.now) o)
    (c.requires.found m.shown (entries_in r1.rows) st ∙ sym (named_is a.states i1 m.shown (entries_in r1.rows) (id_of c.args.spec.now) r1.on_states))
    (gone_back a.states i1 m.shown (entries_in r1.rows) _ _ _ (g.P.Pool.takes c.args.pool.now) (Some c.args.slot) r1.on_states fits1 named.listed)

pub turn_values-requires-clause-gone : goal.turn_values-requires-clause-gone
turn_values-requires-clause-gone g c =
    subst (λ (d : Beside). c.args.slot < length d.values) (sym (c.in-Ok.ensures.beside ∙ c.new_here-state.ensures.beside))
    (subst (λ (n : ℕ). c.args.slot < n) (sym c.requires.ready.count) c.requires.slot)

pub turn_values-requires-clause-gone_held : goal.turn_values-requires-clause-gone_held
turn_values-requires-clause-gone_held g c =
    subst (λ (d : Beside). d.held c.args.slot ≡ true) (sym (c.in-Ok.ensures.beside ∙ c.new_here-state.ensures.beside)) c.requires.held

pub turn_values-requires-clause-slot : goal.turn_values-requires-clause-slot
turn_values-requires-clause-slot g c =
    let a = c.args.layout.now in
    let i = g.D.Cells.words c.args.parts.now in
    let b = g.D.Parts.beside c.args.parts.now in
    let i1 = g.D.Cells.words c.new_here-state.new.parts in
    let b1 = g.D.Parts.beside c.new_here-state.new.parts in
    let w = c.new_here-state.ensures.words in
    let v = c.new_here-state.ensures.beside in
    let m = c.requires.stands.machine in
    let r = c.requires.stands.stands in
    let r1 : Stands a i1 b1 m = stands_same a i i1 b b1 m w v r in
    let at = at_now a i b m c.new_here-state.result.added r c.new_here-state.ensures.added c.requires.young in
    let fits1 = pool_same a.states i i1 (g.P.Pool.capacity c.args.pool.now) (g.P.Pool.taken c.args.pool.now) (g.P.Pool.gives c.args.pool.now) (g.P.Pool.takes c.args.pool.now) w c.requires.pool in
    let st : StatesStand a.states i m.shown (entries_in r1.rows) = subst (λ (y : List ℕ). StatesStand a.states y m.shown (entries_in r1.rows)) w r1.on_states in
    let named : NamedAt a.states i (entries_in r1.rows) (has_id (id_of c.args.spec.now)) c.args.slot =
    named_at a.states i m.shown (entries_in r1.rows) (has_id (id_of c.args.spec.now)) c.args.slot st (c.requires.found m.shown (entries_in r1.rows) st) in
    let x : Comes a.states (g.D.Cells.words c.update_here.new.parts) m.shown (entries_in r1.rows) (g.P.Pool.gives c.args.pool.now) (Some c.args.slot) c.in-Ok.new (state_update m.shown c.args.spec.now) =
    c.in-Ok.ensures.comes m.shown (entries_in r1.rows) c.args.slot named.state named.latest (c.requires.larval named.state named.record_is) at r1.on_states fits1 in
    subst (λ (d : Beside). c.in-Ok.new < length d.values) (sym (c.in-Ok.ensures.beside ∙ v))
    (subst (λ (n : ℕ). c.in-Ok.new < n) (sym c.requires.ready.count) (c.requires.ready.below c.in-Ok.new x.given))

pub turn_values-requires-clause-held : goal.turn_values-requires-clause-held
turn_values-requires-clause-held g c =
    let a = c.args.layout.now in
    let i = g.D.Cells.words c.args.parts.now in
    let b = g.D.Parts.beside c.args.parts.now in
    let i1 = g.D.Cells.words c.new_here-state.new.parts in
    let b1 = g.D.Parts.beside c.new_here-state.new.parts in
    let w = c.new_here-state.ensures.words in
    let v = c.new_here-state.ensures.beside in
    let m = c.requires.stands.machine in
    let r = c.requires.stands.stands in
    let r1 : Stands a i1 b1 m = stands_same a i i1 b b1 m w v r in
    let at = at_now a i b m c.new_here-state.result.added r c.new_here-state.ensures.added c.requires.young in
    let fits1 = pool_same a.states i i1 (g.P.Pool.capacity c.args.pool.now) (g.P.Pool.taken c.args.pool.now) (g.P.Pool.gives c.args.pool.now) (g.P.Pool.takes c.args.pool.now) w c.requires.pool in
    let st : StatesStand a.states i m.shown (entries_in r1.rows) = subst (λ (y : List ℕ). StatesStand a.states y m.shown (entries_in r1.rows)) w r1.on_states in
    let named : NamedAt a.states i (entries_in r1.rows) (has_id (id_of c.args.spec.now)) c.args.slot =
    named_at a.states i m.shown (entries_in r1.rows) (has_id (id_of c.args.spec.now)) c.args.slot st (c.requires.found m.shown (entries_in r1.rows) st) in
    let x : Comes a.states (g.D.Cells.words c.update_here.new.parts) m.shown (entries_in r1.rows) (g.P.Pool.gives c.args.pool.now) (Some c.args.slot) c.in-Ok.new (state_update m.shown c.args.spec.now) =
    c.in-Ok.ensures.comes m.shown (entries_in r1.rows) c.args.slot named.state named.latest (c.requires.larval named.state named.record_is) at r1.on_states fits1 in
    subst (λ (d : Beside). d.held c.in-Ok.new ≡ true) (sym (c.in-Ok.ensures.beside ∙ v)) (c.requires.ready.turns c.in-Ok.new x.given)

pub turn_values-requires-clause-begun : goal.turn_values-requires-clause-begun
turn_values-requires-clause-begun g c = c.in-Ok.ensures.begun

pub turn_values-requires-clause-window : goal.turn_values-requires-clause-window
turn_values-requires-clause-window g c = subst (λ (s : SaSpec). IsWindowOf c.args.window s) (sym c.new_here-state.ensures.spec) c.requires.window

pub returns-in-Err-clause-others : goal.returns-in-Err-clause-others
returns-in-Err-clause-others g c =
    let a = c.args.layout.now in
    let i = g.D.Cells.words c.args.parts.now in
    let b = g.D.Parts.beside c.args.parts.now in
    let i1 = g.D.Cells.words c.new_here-state.new.parts in
    let b1 = g.D.Parts.beside c.new_here-state.new.parts in
    let w = c.new_here-state.ensures.words in
    let v = c.new_here-state.ensures.beside in
    others_none a (g.D.Parts.hidden c.args.parts.now) i (g.D.Cells.words c.update_here.new.parts) b (g.D.Parts.beside c.update_here.new.parts) (c.in-Err.ensures.refused refl ∙ w) (c.in-Err.ensures.beside ∙ v)

pub returns-in-Err-clause-memory : goal.returns-in-Err-clause-memory
returns-in-Err-clause-memory g c = λ e. fault_remembers c.in-Err.fault (sym c.fault_reply.ensures ∙ e)

pub returns-in-Err-clause-settled : goal.returns-in-Err-clause-settled
returns-in-Err-clause-settled g c = λ none.
    let a = c.args.layout.now in
    let i = g.D.Cells.words c.args.parts.now in
    let b = g.D.Parts.beside c.args.parts.now in
    let i1 = g.D.Cells.words c.new_here-state.new.parts in
    let b1 = g.D.Parts.beside c.new_here-state.new.parts in
    let w = c.new_here-state.ensures.words in
    let v = c.new_here-state.ensures.beside in
    let m = c.requires.stands.machine in
    let r = c.requires.stands.stands in
    let r1 : Stands a i1 b1 m = stands_same a i i1 b b1 m w v r in
    let at = at_now a i b m c.new_here-state.result.added r c.new_here-state.ensures.added c.requires.young in
    let fits1 = pool_same a.states i i1 (g.P.Pool.capacity c.args.pool.now) (g.P.Pool.taken c.args.pool.now) (g.P.Pool.gives c.args.pool.now) (g.P.Pool.takes c.args.pool.now) w c.requires.pool in
    ap (λ (x : Reply). is_contended x) c.fault_reply.ensures
    ∙ fault_settled (g.P.Pool.held c.update_here.new.pool) m.shown (λ t. (state_update t c.args.spec.now).reply) c.in-Err.fault (c.in-Err.ensures.reply m.shown (entries_in r1.rows) at r1.on_states fits1) none

pub returns-in-Err-clause-refused : goal.returns-in-Err-clause-refused
returns-in-Err-clause-refused g c = λ refuses. record {
  words = c.in-Err.ensures.refused refl ∙ c.new_here-state.ensures.words;
  values = c.in-Err.ensures.beside ∙ c.new_here-state.ensures.beside;
  begun = c.in-Err.ensures.begun ∙ c.new_here-state.ensures.begun;
}

pub returns-in-Err-clause-answer : goal.returns-in-Err-clause-answer
returns-in-Err-clause-answer g c = λ m r.
    let a = c.args.layout.now in
    let i = g.D.Cells.words c.args.parts.now in
    let b = g.D.Parts.beside c.args.parts.now in
    let i1 = g.D.Cells.words c.new_here-state.new.parts in
    let b1 = g.D.Parts.beside c.new_here-state.new.parts in
    let w = c.new_here-state.ensures.words in
    let v = c.new_here-state.ensures.beside in
    let r1 : Stands a i1 b1 m = stands_same a i i1 b b1 m w v r in
    let at = at_now a i b m c.new_here-state.result.added r c.new_here-state.ensures.added c.requires.young in
    let fits1 = pool_same a.states i i1 (g.P.Pool.capacity c.args.pool.now) (g.P.Pool.taken c.args.pool.now) (g.P.Pool.gives c.args.pool.now) (g.P.Pool.takes c.args.pool.now) w c.requires.pool in
    subst (λ (x : Reply). Answers a (g.D.Cells.words c.update_here.new.parts) (g.D.Parts.beside c.update_here.new.parts) m (StateUpdate c.args.spec.now) x) (sym c.fault_reply.ensures)
    (answers_same a i1 (g.D.Cells.words c.update_here.new.parts) b1 (g.D.Parts.beside c.update_here.new.parts) m (StateUpdate c.args.spec.now) _ (c.in-Err.ensures.refused refl) c.in-Err.ensures.beside
    (refused a i1 b1 m (StateUpdate c.args.spec.now) (λ t. state_update t c.args.spec.now) (g.P.Pool.held c.update_here.new.pool) c.in-Err.fault (λ t. refl) refl r1
    (c.in-Err.ensures.reply m.shown (entries_in r1.rows) at r1.on_states fits1)))

pub returns-in-Err-clause-pool : goal.returns-in-Err-clause-pool
returns-in-Err-clause-pool g c = λ lasts.
    let a = c.args.layout.now in
    let i = g.D.Cells.words c.args.parts.now in
    let b = g.D.Parts.beside c.args.parts.now in
    let i1 = g.D.Cells.words c.new_here-state.new.parts in
    let b1 = g.D.Parts.beside c.new_here-state.new.parts in
    let w = c.new_here-state.ensures.words in
    let v = c.new_here-state.ensures.beside in
    let m = c.requires.stands.machine in
    let r = c.requires.stands.stands in
    let r1 : Stands a i1 b1 m = stands_same a i i1 b b1 m w v r in
    let at = at_now a i b m c.new_here-state.result.added r c.new_here-state.ensures.added c.requires.young in
    let fits1 = pool_same a.states i i1 (g.P.Pool.capacity c.args.pool.now) (g.P.Pool.taken c.args.pool.now) (g.P.Pool.gives c.args.pool.now) (g.P.Pool.takes c.args.pool.now) w c.requires.pool in
    c.in-Err.ensures.pool m.shown (entries_in r1.rows) lasts at r1.on_states fits1

pub returns-in-Ok-clause-others : goal.returns-in-Ok-clause-others
returns-in-Ok-clause-others g c =
    let a = c.args.layout.now in
    let i = g.D.Cells.words c.args.parts.now in
    let b = g.D.Parts.beside c.args.parts.now in
    let i1 = g.D.Cells.words c.new_here-state.new.parts in
    let b1 = g.D.Parts.beside c.new_here-state.new.parts in
    let w = c.new_here-state.ensures.words in
    let v = c.new_here-state.ensures.beside in
    let frame : Frame 0 (g.D.Parts.hidden c.args.parts.now) (g.D.Cells.words c.update_here.new.parts) (g.D.Cells.words c.turn_values.new.parts) =
    subst (λ (n : ℕ). Frame 0 n (g.D.Cells.words c.update_here.new.parts) (g.D.Cells.words c.turn_values.new.parts)) (c.in-Ok.ensures.hidden ∙ c.new_here-state.ensures.hidden) c.turn_values.ensures.frame in
    let n : Fits a (length i1) = size_same a i1 (g.D.Load.size c.args.parts.now) (g.D.Load.size c.new_here-state.new.parts) (g.met.D.Cells.all c.new_here-state.new.parts) c.new_here-state.ensures.size c.requires.ready.fits in
    others_both a (g.D.Load.size c.args.parts.now) (g.D.Parts.hidden c.args.parts.now) i (g.D.Cells.words c.update_here.new.parts) (g.D.Cells.words c.turn_values.new.parts) b (g.D.Parts.beside c.turn_values.new.parts)
    c.requires.ready.fits c.requires.ready.behind
    (subst (λ (y : List ℕ). Frame a.states.base (end_of a.states) y (g.D.Cells.words c.update_here.new.parts)) w c.in-Ok.ensures.frame) frame
    (turned_count b (g.D.Parts.beside c.turn_values.new.parts) (g.D.Parts.beside c.update_here.new.parts) (Some c.args.slot) c.in-Ok.new (value_of_new c.new_here-state.result) (c.in-Ok.ensures.beside ∙ v) c.turn_values.ensures.beside)
    (turned_held b (g.D.Parts.beside c.turn_values.new.parts) (g.D.Parts.beside c.update_here.new.parts) (Some c.args.slot) c.in-Ok.new (value_of_new c.new_here-state.result) (c.in-Ok.ensures.beside ∙ v) c.turn_values.ensures.beside)

pub returns-in-Ok-clause-answer : goal.returns-in-Ok-clause-answer
returns-in-Ok-clause-answer g c = λ m r.
    let a = c.args.layout.now in
    let i = g.D.Cells.words c.args.parts.now in
    let b = g.D.Parts.beside c.args.parts.now in
    let i1 = g.D.Cells.words c.new_here-state.new.parts in
    let b1 = g.D.Parts.beside c.new_here-state.new.parts in
    let w = c.new_here-state.ensures.words in
    let v = c.new_here-state.ensures.beside in
    let r1 : Stands a i1 b1 m = stands_same a i i1 b b1 m w v r in
    let at = at_now a i b m c.new_here-state.result.added r c.new_here-state.ensures.added c.requires.young in
    let fits1 = pool_same a.states i i1 (g.P.Pool.capacity c.args.pool.now) (g.P.Pool.taken c.args.pool.now) (g.P.Pool.gives c.args.pool.now) (g.P.Pool.takes c.args.pool.now) w c.requires.pool in
    let st : StatesStand a.states i m.shown (entries_in r1.rows) = subst (λ (y : List ℕ). StatesStand a.states y m.shown (entries_in r1.rows)) w r1.on_states in
    let named : NamedAt a.states i (entries_in r1.rows) (has_id (id_of c.args.spec.now)) c.args.slot =
    named_at a.states i m.shown (entries_in r1.rows) (has_id (id_of c.args.spec.now)) c.args.slot st (c.requires.found m.shown (entries_in r1.rows) st) in
    let x : Comes a.states (g.D.Cells.words c.update_here.new.parts) m.shown (entries_in r1.rows) (g.P.Pool.gives c.args.pool.now) (Some c.args.slot) c.in-Ok.new (state_update m.shown c.args.spec.now) =
    c.in-Ok.ensures.comes m.shown (entries_in r1.rows) c.args.slot named.state named.latest (c.requires.larval named.state named.record_is) at r1.on_states fits1 in
    let frame : Frame 0 (g.D.Parts.hidden c.args.parts.now) (g.D.Cells.words c.update_here.new.parts) (g.D.Cells.words c.turn_values.new.parts) =
    subst (λ (n : ℕ). Frame 0 n (g.D.Cells.words c.update_here.new.parts) (g.D.Cells.words c.turn_values.new.parts)) (c.in-Ok.ensures.hidden ∙ c.new_here-state.ensures.hidden) c.turn_values.ensures.frame in
    let n : Fits a (length i1) = size_same a i1 (g.D.Load.size c.args.parts.now) (g.D.Load.size c.new_here-state.new.parts) (g.met.D.Cells.all c.new_here-state.new.parts) c.new_here-state.ensures.size c.requires.ready.fits in
    let value = c.turn_values.ensures.beside ∙ ap (λ (d : Beside). value_put (ended d (Some c.args.slot)) c.in-Ok.new (value_of_new c.new_here-state.result)) c.in-Ok.ensures.beside in
    let is : c.new_here-state.result ≡ added_record m.shown (record { spec = c.args.spec.now; larval = false }) =
    c.new_here-state.ensures.answer m.shown (entries_in r.rows) at.sid r.time r.on_states in
    came a i1 (g.D.Cells.words c.update_here.new.parts) (g.D.Cells.words c.turn_values.new.parts) b1 (g.D.Parts.beside c.turn_values.new.parts) m (g.D.Parts.hidden c.args.parts.now) c.in-Ok.new
    (g.P.Pool.gives c.args.pool.now) (Some c.args.slot) (state_update m.shown c.args.spec.now) m.shown.next_seq (record { spec = c.args.spec.now; larval = false }) c.new_here-state.result (StateUpdate c.args.spec.now)
    (reply.DoneSid m.shown.next_sid) (reply.DoneSid c.new_here-state.result.sid) r1 n c.requires.ready.behind c.in-Ok.ensures.frame frame x
    (updated_adds m.shown c.args.spec.now (latest_match m.shown.states (id_of c.args.spec.now)) x.shown x.leaves x.new x.change)
    (c.requires.ready.below c.in-Ok.new x.given) is value (ap (λ (s : Sa). reply.DoneSid s.sid) is) refl

pub returns-in-Ok-clause-pool : goal.returns-in-Ok-clause-pool
returns-in-Ok-clause-pool g c = λ lasts.
    let a = c.args.layout.now in
    let i = g.D.Cells.words c.args.parts.now in
    let b = g.D.Parts.beside c.args.parts.now in
    let i1 = g.D.Cells.words c.new_here-state.new.parts in
    let b1 = g.D.Parts.beside c.new_here-state.new.parts in
    let w = c.new_here-state.ensures.words in
    let v = c.new_here-state.ensures.beside in
    let m = c.requires.stands.machine in
    let r = c.requires.stands.stands in
    let r1 : Stands a i1 b1 m = stands_same a i i1 b b1 m w v r in
    let at = at_now a i b m c.new_here-state.result.added r c.new_here-state.ensures.added c.requires.young in
    let fits1 = pool_same a.states i i1 (g.P.Pool.capacity c.args.pool.now) (g.P.Pool.taken c.args.pool.now) (g.P.Pool.gives c.args.pool.now) (g.P.Pool.takes c.args.pool.now) w c.requires.pool in
    let st : StatesStand a.states i m.shown (entries_in r1.rows) = subst (λ (y : List ℕ). StatesStand a.states y m.shown (entries_in r1.rows)) w r1.on_states in
    let named : NamedAt a.states i (entries_in r1.rows) (has_id (id_of c.args.spec.now)) c.args.slot =
    named_at a.states i m.shown (entries_in r1.rows) (has_id (id_of c.args.spec.now)) c.args.slot st (c.requires.found m.shown (entries_in r1.rows) st) in
    let x : Comes a.states (g.D.Cells.words c.update_here.new.parts) m.shown (entries_in r1.rows) (g.P.Pool.gives c.args.pool.now) (Some c.args.slot) c.in-Ok.new (state_update m.shown c.args.spec.now) =
    c.in-Ok.ensures.comes m.shown (entries_in r1.rows) c.args.slot named.state named.latest (c.requires.larval named.state named.record_is) at r1.on_states fits1 in
    let frame : Frame 0 (g.D.Parts.hidden c.args.parts.now) (g.D.Cells.words c.update_here.new.parts) (g.D.Cells.words c.turn_values.new.parts) =
    subst (λ (n : ℕ). Frame 0 n (g.D.Cells.words c.update_here.new.parts) (g.D.Cells.words c.turn_values.new.parts)) (c.in-Ok.ensures.hidden ∙ c.new_here-state.ensures.hidden) c.turn_values.ensures.frame in
    let n : Fits a (length i1) = size_same a i1 (g.D.Load.size c.args.parts.now) (g.D.Load.size c.new_here-state.new.parts) (g.met.D.Cells.all c.new_here-state.new.parts) c.new_here-state.ensures.size c.requires.ready.fits in
    subst (λ (xs : List ℕ). PoolFits (g.P.Pool.capacity c.update_here.new.pool) (g.P.Pool.taken c.update_here.new.pool) (g.P.Pool.gives c.update_here.new.pool) (g.P.Pool.takes c.update_here.new.pool) a.states.slots xs)
    (sym (slots_behind a (g.D.Cells.words c.update_here.new.parts) (g.D.Cells.words c.turn_values.new.parts) _ _ (g.D.Parts.hidden c.args.parts.now)
    (subst (λ (q : ℕ). Fits a q) (sym c.in-Ok.ensures.frame.size) n) c.requires.ready.behind frame x.stands))
    (c.in-Ok.ensures.pool m.shown (entries_in r1.rows) lasts at r1.on_states fits1)

both : (g : given.Over) (c : goal.After-turn_values g) → KeepsPlaces c.args.layout.now.states (g.D.Parts.beside c.args.parts.now).held (g.D.Cells.words c.args.parts.now) (g.D.Cells.words c.turn_values.new.parts)
    × SlotCame (g.P.Pool.gives c.args.pool.now) (Some c.args.slot) (listed_in c.args.layout.now.states (g.D.Cells.words c.args.parts.now)) (listed_in c.args.layout.now.states (g.D.Cells.words c.turn_values.new.parts))
both g c =
    let a = c.args.layout.now in
    let i = g.D.Cells.words c.args.parts.now in
    let b = g.D.Parts.beside c.args.parts.now in
    let i1 = g.D.Cells.words c.new_here-state.new.parts in
    let b1 = g.D.Parts.beside c.new_here-state.new.parts in
    let w = c.new_here-state.ensures.words in
    let v = c.new_here-state.ensures.beside in
    let m = c.requires.stands.machine in
    let r = c.requires.stands.stands in
    let r1 : Stands a i1 b1 m = stands_same a i i1 b b1 m w v r in
    let at = at_now a i b m c.new_here-state.result.added r c.new_here-state.ensures.added c.requires.young in
    let fits1 = pool_same a.states i i1 (g.P.Pool.capacity c.args.pool.now) (g.P.Pool.taken c.args.pool.now) (g.P.Pool.gives c.args.pool.now) (g.P.Pool.takes c.args.pool.now) w c.requires.pool in
    let st : StatesStand a.states i m.shown (entries_in r1.rows) = subst (λ (y : List ℕ). StatesStand a.states y m.shown (entries_in r1.rows)) w r1.on_states in
    let named : NamedAt a.states i (entries_in r1.rows) (has_id (id_of c.args.spec.now)) c.args.slot =
    named_at a.states i m.shown (entries_in r1.rows) (has_id (id_of c.args.spec.now)) c.args.slot st (c.requires.found m.shown (entries_in r1.rows) st) in
    let x : Comes a.states (g.D.Cells.words c.update_here.new.parts) m.shown (entries_in r1.rows) (g.P.Pool.gives c.args.pool.now) (Some c.args.slot) c.in-Ok.new (state_update m.shown c.args.spec.now) =
    c.in-Ok.ensures.comes m.shown (entries_in r1.rows) c.args.slot named.state named.latest (c.requires.larval named.state named.record_is) at r1.on_states fits1 in
    let frame : Frame 0 (g.D.Parts.hidden c.args.parts.now) (g.D.Cells.words c.update_here.new.parts) (g.D.Cells.words c.turn_values.new.parts) =
    subst (λ (n : ℕ). Frame 0 n (g.D.Cells.words c.update_here.new.parts) (g.D.Cells.words c.turn_values.new.parts)) (c.in-Ok.ensures.hidden ∙ c.new_here-state.ensures.hidden) c.turn_values.ensures.frame in
    let n : Fits a (length i1) = size_same a i1 (g.D.Load.size c.args.parts.now) (g.D.Load.size c.new_here-state.new.parts) (g.met.D.Cells.all c.new_here-state.new.parts) c.new_here-state.ensures.size c.requires.ready.fits in
    let adds = updated_adds m.shown c.args.spec.now (latest_match m.shown.states (id_of c.args.spec.now)) x.shown x.leaves x.new x.change in
    came_both a i i1 (g.D.Cells.words c.update_here.new.parts) (g.D.Cells.words c.turn_values.new.parts) b b1 m (g.D.Parts.hidden c.args.parts.now) m.shown.next_seq _ (g.P.Pool.gives c.args.pool.now) (Some c.args.slot) _ r1 w v n
    c.requires.ready.behind c.in-Ok.ensures.frame frame x adds.shown_is c.requires.held c.requires.ready.turns

pub returns-in-Ok-clause-places : goal.returns-in-Ok-clause-places
returns-in-Ok-clause-places g c = (both g c).0

pub returns-in-Ok-clause-given : goal.returns-in-Ok-clause-given
returns-in-Ok-clause-given g c = λ done. (both g c).1

pub returns-in-Err-clause-places : goal.returns-in-Err-clause-places
returns-in-Err-clause-places g c =
    places_same c.args.layout.now (g.D.Cells.words c.args.parts.now) (g.D.Cells.words c.update_here.new.parts) (g.D.Parts.beside c.args.parts.now) c.requires.stands
    (c.in-Err.ensures.refused refl ∙ c.new_here-state.ensures.words)

pub returns-in-Err-clause-given : goal.returns-in-Err-clause-given
returns-in-Err-clause-given g c = λ done.
    let refuses : is_refusal_of c.fault_reply.result ≡ true = ap (λ (x : Reply). is_refusal_of x) c.fault_reply.ensures ∙ fault_refuses c.in-Err.fault in
    absurd (cc)
