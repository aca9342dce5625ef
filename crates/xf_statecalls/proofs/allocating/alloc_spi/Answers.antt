use Rattle.std.proofs.Common.{◌≡◌, ℕ, ◌<◌, true, List, None, Some, length, refl, ap, sym, ◌∙◌, subst}
use Rattle.xf_types.specs.declared.call.Call.TheVariants.{AllocSpi}
use Rattle.xf_types.specs.declared.call.Reply.{Reply}
use Rattle.xf_types.specs.declared.call.Reply.TheVariants as reply
use Rattle.xf_types.specs.Changes.{NewState}
use Rattle.xf_types.specs.Codes.{is_refusal_of}
use Rattle.xf_types.specs.History.{is_contended}
use Rattle.xf_types.specs.StateRules.{alloc_spi, larval_spec}
use Rattle.xf_image.specs.Frames.{Frame}
use Rattle.xf_sadidx.specs.Layout.{end_of, record_at}
use Rattle.xf_sad.specs.Changes.{Comes}
use Rattle.xf_sad.specs.Places.{KeepsPlaces, SlotCame}
use Rattle.xf_sad.specs.Slots.{PoolFits, listed_in}
use Rattle.xf_rows.specs.Layouts.{Fits}
use Rattle.xf_rows.specs.Rows.{entries_in}
use Rattle.xf_rows.specs.Values.{Beside, value_put}
use Rattle.xf_rows.specs.Stands.{Stands}
use Rattle.xf_rows.specs.Replies.{Answers}
use Rattle.xf_laws.specs.OwnLaws.{added_record}
use Rattle.xf_statecalls.specs.Windows.{value_of_new}
use Rattle.xf_statecalls.proofs.Come.{Allots, came, came_record, allotted, larval_came, at_now}
use Rattle.xf_statecalls.proofs.Others.{others_none, others_both, turned_count, turned_held}
use Rattle.xf_statecalls.proofs.Placed.{came_both, places_same}
use Rattle.xf_statecalls.proofs.Refused.{refused, fault_remembers, fault_settled, fault_refuses}
use Rattle.xf_statecalls.proofs.Replied.{answers_same, stands_same}
use Rattle.xf_statecalls.proofs.Standing.{pool_same, size_same, slots_behind}
use Rattle.xf_statecalls.proofs.allocating.alloc_spi.Given as given
use Rattle.xf_statecalls.proofs.allocating.alloc_spi.Goals as goal

pub begin_larval-requires-clause-slot : goal.begin_larval-requires-clause-slot
begin_larval-requires-clause-slot g c =
    let a = c.args.layout.now in
    let i = g.D.Cells.words c.args.parts.now in
    let b = g.D.Parts.beside c.args.parts.now in
    let i1 = g.D.Cells.words c.time_here-now.new.parts in
    let b1 = g.D.Parts.beside c.time_here-now.new.parts in
    let w = c.time_here-now.ensures.words in
    let v = c.time_here-now.ensures.beside in
    let m = c.requires.stands.machine in
    let r = c.requires.stands.stands in
    let r1 : Stands a i1 b1 m = stands_same a i i1 b b1 m w v r in
    let at = at_now a i b m c.time_here-now.result r c.time_here-now.ensures.answer c.requires.young in
    let fits1 = pool_same a.states i i1 (g.P.Pool.capacity c.args.pool.now) (g.P.Pool.taken c.args.pool.now) (g.P.Pool.gives c.args.pool.now) (g.P.Pool.takes c.args.pool.now) w c.requires.pool in
    let x : Comes a.states (g.D.Cells.words c.alloc_here.new.parts) m.shown (entries_in r1.rows) (g.P.Pool.gives c.args.pool.now) None c.in-Ok.slot (alloc_spi m.shown c.args.spec.now) =
    c.in-Ok.ensures.comes m.shown (entries_in r1.rows) at r1.on_states fits1 in
    c.requires.ready.below c.in-Ok.slot x.given

pub begin_larval-requires-clause-value : goal.begin_larval-requires-clause-value
begin_larval-requires-clause-value g c =
    let a = c.args.layout.now in
    let i = g.D.Cells.words c.args.parts.now in
    let b = g.D.Parts.beside c.args.parts.now in
    let i1 = g.D.Cells.words c.time_here-now.new.parts in
    let b1 = g.D.Parts.beside c.time_here-now.new.parts in
    let w = c.time_here-now.ensures.words in
    let v = c.time_here-now.ensures.beside in
    let m = c.requires.stands.machine in
    let r = c.requires.stands.stands in
    let r1 : Stands a i1 b1 m = stands_same a i i1 b b1 m w v r in
    let at = at_now a i b m c.time_here-now.result r c.time_here-now.ensures.answer c.requires.young in
    let fits1 = pool_same a.states i i1 (g.P.Pool.capacity c.args.pool.now) (g.P.Pool.taken c.args.pool.now) (g.P.Pool.gives c.args.pool.now) (g.P.Pool.takes c.args.pool.now) w c.requires.pool in
    let x : Comes a.states (g.D.Cells.words c.alloc_here.new.parts) m.shown (entries_in r1.rows) (g.P.Pool.gives c.args.pool.now) None c.in-Ok.slot (alloc_spi m.shown c.args.spec.now) =
    c.in-Ok.ensures.comes m.shown (entries_in r1.rows) at r1.on_states fits1 in
    subst (λ (d : Beside). c.in-Ok.slot < length d.values) (sym (c.in-Ok.ensures.beside ∙ v))
    (subst (λ (n : ℕ). c.in-Ok.slot < n) (sym c.requires.ready.count) (c.requires.ready.below c.in-Ok.slot x.given))

pub begin_larval-requires-clause-held : goal.begin_larval-requires-clause-held
begin_larval-requires-clause-held g c =
    let a = c.args.layout.now in
    let i = g.D.Cells.words c.args.parts.now in
    let b = g.D.Parts.beside c.args.parts.now in
    let i1 = g.D.Cells.words c.time_here-now.new.parts in
    let b1 = g.D.Parts.beside c.time_here-now.new.parts in
    let w = c.time_here-now.ensures.words in
    let v = c.time_here-now.ensures.beside in
    let m = c.requires.stands.machine in
    let r = c.requires.stands.stands in
    let r1 : Stands a i1 b1 m = stands_same a i i1 b b1 m w v r in
    let at = at_now a i b m c.time_here-now.result r c.time_here-now.ensures.answer c.requires.young in
    let fits1 = pool_same a.states i i1 (g.P.Pool.capacity c.args.pool.now) (g.P.Pool.taken c.args.pool.now) (g.P.Pool.gives c.args.pool.now) (g.P.Pool.takes c.args.pool.now) w c.requires.pool in
    let x : Comes a.states (g.D.Cells.words c.alloc_here.new.parts) m.shown (entries_in r1.rows) (g.P.Pool.gives c.args.pool.now) None c.in-Ok.slot (alloc_spi m.shown c.args.spec.now) =
    c.in-Ok.ensures.comes m.shown (entries_in r1.rows) at r1.on_states fits1 in
    subst (λ (d : Beside). d.held c.in-Ok.slot ≡ true) (sym (c.in-Ok.ensures.beside ∙ v)) (c.requires.ready.turns c.in-Ok.slot x.given)

pub begin_larval-requires-clause-begun : goal.begin_larval-requires-clause-begun
begin_larval-requires-clause-begun g c = c.in-Ok.ensures.begun

pub begin_larval-requires-clause-larval : goal.begin_larval-requires-clause-larval
begin_larval-requires-clause-larval g c =
    let a = c.args.layout.now in
    let i = g.D.Cells.words c.args.parts.now in
    let b = g.D.Parts.beside c.args.parts.now in
    let i1 = g.D.Cells.words c.time_here-now.new.parts in
    let b1 = g.D.Parts.beside c.time_here-now.new.parts in
    let w = c.time_here-now.ensures.words in
    let v = c.time_here-now.ensures.beside in
    let m = c.requires.stands.machine in
    let r = c.requires.stands.stands in
    let r1 : Stands a i1 b1 m = stands_same a i i1 b b1 m w v r in
    let at = at_now a i b m c.time_here-now.result r c.time_here-now.ensures.answer c.requires.young in
    let fits1 = pool_same a.states i i1 (g.P.Pool.capacity c.args.pool.now) (g.P.Pool.taken c.args.pool.now) (g.P.Pool.gives c.args.pool.now) (g.P.Pool.takes c.args.pool.now) w c.requires.pool in
    let x : Comes a.states (g.D.Cells.words c.alloc_here.new.parts) m.shown (entries_in r1.rows) (g.P.Pool.gives c.args.pool.now) None c.in-Ok.slot (alloc_spi m.shown c.args.spec.now) =
    c.in-Ok.ensures.comes m.shown (entries_in r1.rows) at r1.on_states fits1 in
    larval_came a.states (g.D.Cells.words c.alloc_here.new.parts) m.shown (entries_in r1.rows) (g.P.Pool.gives c.args.pool.now) c.in-Ok.slot c.args.spec.now x

pub returns-in-Err-clause-others : goal.returns-in-Err-clause-others
returns-in-Err-clause-others g c =
    let a = c.args.layout.now in
    let i = g.D.Cells.words c.args.parts.now in
    let b = g.D.Parts.beside c.args.parts.now in
    let i1 = g.D.Cells.words c.time_here-now.new.parts in
    let b1 = g.D.Parts.beside c.time_here-now.new.parts in
    let w = c.time_here-now.ensures.words in
    let v = c.time_here-now.ensures.beside in
    others_none a (g.D.Parts.hidden c.args.parts.now) i (g.D.Cells.words c.alloc_here.new.parts) b (g.D.Parts.beside c.alloc_here.new.parts) (c.in-Err.ensures.refused refl ∙ w) (c.in-Err.ensures.beside ∙ v)

pub returns-in-Err-clause-memory : goal.returns-in-Err-clause-memory
returns-in-Err-clause-memory g c = λ e. fault_remembers c.in-Err.fault (sym c.fault_reply.ensures ∙ e)

pub returns-in-Err-clause-settled : goal.returns-in-Err-clause-settled
returns-in-Err-clause-settled g c = λ none.
    let a = c.args.layout.now in
    let i = g.D.Cells.words c.args.parts.now in
    let b = g.D.Parts.beside c.args.parts.now in
    let i1 = g.D.Cells.words c.time_here-now.new.parts in
    let b1 = g.D.Parts.beside c.time_here-now.new.parts in
    let w = c.time_here-now.ensures.words in
    let v = c.time_here-now.ensures.beside in
    let m = c.requires.stands.machine in
    let r = c.requires.stands.stands in
    let r1 : Stands a i1 b1 m = stands_same a i i1 b b1 m w v r in
    let at = at_now a i b m c.time_here-now.result r c.time_here-now.ensures.answer c.requires.young in
    let fits1 = pool_same a.states i i1 (g.P.Pool.capacity c.args.pool.now) (g.P.Pool.taken c.args.pool.now) (g.P.Pool.gives c.args.pool.now) (g.P.Pool.takes c.args.pool.now) w c.requires.pool in
    ap (λ (x : Reply). is_contended x) c.fault_reply.ensures
    ∙ fault_settled (g.P.Pool.held c.alloc_here.new.pool) m.shown (λ t. (alloc_spi t c.args.spec.now).reply) c.in-Err.fault (c.in-Err.ensures.reply m.shown (entries_in r1.rows) at r1.on_states fits1) none

pub returns-in-Err-clause-refused : goal.returns-in-Err-clause-refused
returns-in-Err-clause-refused g c = λ refuses. record {
  words = c.in-Err.ensures.refused refl ∙ c.time_here-now.ensures.words;
  values = c.in-Err.ensures.beside ∙ c.time_here-now.ensures.beside;
  begun = c.in-Err.ensures.begun ∙ c.time_here-now.ensures.begun;
}

pub returns-in-Err-clause-answer : goal.returns-in-Err-clause-answer
returns-in-Err-clause-answer g c = λ m r.
    let a = c.args.layout.now in
    let i = g.D.Cells.words c.args.parts.now in
    let b = g.D.Parts.beside c.args.parts.now in
    let i1 = g.D.Cells.words c.time_here-now.new.parts in
    let b1 = g.D.Parts.beside c.time_here-now.new.parts in
    let w = c.time_here-now.ensures.words in
    let v = c.time_here-now.ensures.beside in
    let r1 : Stands a i1 b1 m = stands_same a i i1 b b1 m w v r in
    let at = at_now a i b m c.time_here-now.result r c.time_here-now.ensures.answer c.requires.young in
    let fits1 = pool_same a.states i i1 (g.P.Pool.capacity c.args.pool.now) (g.P.Pool.taken c.args.pool.now) (g.P.Pool.gives c.args.pool.now) (g.P.Pool.takes c.args.pool.now) w c.requires.pool in
    subst (λ (x : Reply). Answers a (g.D.Cells.words c.alloc_here.new.parts) (g.D.Parts.beside c.alloc_here.new.parts) m (AllocSpi c.args.spec.now) x) (sym c.fault_reply.ensures)
    (answers_same a i1 (g.D.Cells.words c.alloc_here.new.parts) b1 (g.D.Parts.beside c.alloc_here.new.parts) m (AllocSpi c.args.spec.now) _ (c.in-Err.ensures.refused refl) c.in-Err.ensures.beside
    (refused a i1 b1 m (AllocSpi c.args.spec.now) (λ t. alloc_spi t c.args.spec.now) (g.P.Pool.held c.alloc_here.new.pool) c.in-Err.fault (λ t. refl) refl r1
    (c.in-Err.ensures.reply m.shown (entries_in r1.rows) at r1.on_states fits1)))

pub returns-in-Err-clause-pool : goal.returns-in-Err-clause-pool
returns-in-Err-clause-pool g c = λ lasts.
    let a = c.args.layout.now in
    let i = g.D.Cells.words c.args.parts.now in
    let b = g.D.Parts.beside c.args.parts.now in
    let i1 = g.D.Cells.words c.time_here-now.new.parts in
    let b1 = g.D.Parts.beside c.time_here-now.new.parts in
    let w = c.time_here-now.ensures.words in
    let v = c.time_here-now.ensures.beside in
    let m = c.requires.stands.machine in
    let r = c.requires.stands.stands in
    let r1 : Stands a i1 b1 m = stands_same a i i1 b b1 m w v r in
    let at = at_now a i b m c.time_here-now.result r c.time_here-now.ensures.answer c.requires.young in
    let fits1 = pool_same a.states i i1 (g.P.Pool.capacity c.args.pool.now) (g.P.Pool.taken c.args.pool.now) (g.P.Pool.gives c.args.pool.now) (g.P.Pool.takes c.args.pool.now) w c.requires.pool in
    c.in-Err.ensures.pool m.shown (entries_in r1.rows) lasts at r1.on_states fits1

pub returns-in-Ok-clause-others : goal.returns-in-Ok-clause-others
returns-in-Ok-clause-others g c =
    let a = c.args.layout.now in
    let i = g.D.Cells.words c.args.parts.now in
    let b = g.D.Parts.beside c.args.parts.now in
    let i1 = g.D.Cells.words c.time_here-now.new.parts in
    let b1 = g.D.Parts.beside c.time_here-now.new.parts in
    let w = c.time_here-now.ensures.words in
    let v = c.time_here-now.ensures.beside in
    let m = c.requires.stands.machine in
    let r = c.requires.stands.stands in
    let r1 : Stands a i1 b1 m = stands_same a i i1 b b1 m w v r in
    let at = at_now a i b m c.time_here-now.result r c.time_here-now.ensures.answer c.requires.young in
    let fits1 = pool_same a.states i i1 (g.P.Pool.capacity c.args.pool.now) (g.P.Pool.taken c.args.pool.now) (g.P.Pool.gives c.args.pool.now) (g.P.Pool.takes c.args.pool.now) w c.requires.pool in
    let x : Comes a.states (g.D.Cells.words c.alloc_here.new.parts) m.shown (entries_in r1.rows) (g.P.Pool.gives c.args.pool.now) None c.in-Ok.slot (alloc_spi m.shown c.args.spec.now) =
    c.in-Ok.ensures.comes m.shown (entries_in r1.rows) at r1.on_states fits1 in
    let frame : Frame 0 (g.D.Parts.hidden c.args.parts.now) (g.D.Cells.words c.alloc_here.new.parts) (g.D.Cells.words c.begin_larval.new.parts) =
    subst (λ (n : ℕ). Frame 0 n (g.D.Cells.words c.alloc_here.new.parts) (g.D.Cells.words c.begin_larval.new.parts)) (c.in-Ok.ensures.hidden ∙ c.time_here-now.ensures.hidden) c.begin_larval.ensures.frame in
    let n : Fits a (length i1) = size_same a i1 (g.D.Load.size c.args.parts.now) (g.D.Load.size c.time_here-now.new.parts) (g.met.D.Cells.all c.time_here-now.new.parts) c.time_here-now.ensures.size c.requires.ready.fits in
    let l : Allots m.shown c.args.spec.now x.shown x.new (alloc_spi m.shown c.args.spec.now) =
    allotted a.states (g.D.Cells.words c.alloc_here.new.parts) m.shown (entries_in r1.rows) (g.P.Pool.gives c.args.pool.now) c.in-Ok.slot c.args.spec.now x in
    let new : NewState = record { spec = larval_spec c.args.spec.now l.spi; larval = true } in
    let is : record_at a.states (g.D.Cells.words c.alloc_here.new.parts) c.in-Ok.slot ≡ Some (added_record m.shown new) =
    came_record a.states (g.D.Cells.words c.alloc_here.new.parts) m.shown (entries_in r1.rows) (g.P.Pool.gives c.args.pool.now) None c.in-Ok.slot (alloc_spi m.shown c.args.spec.now) m.shown new x
    l.adds.shown_is l.adds.new_is in
    let value : g.D.Parts.beside c.begin_larval.new.parts ≡ value_put b1 c.in-Ok.slot (value_of_new (added_record m.shown new)) =
    c.begin_larval.ensures.beside (added_record m.shown new) is ∙ ap (λ (d : Beside). value_put d c.in-Ok.slot (value_of_new (added_record m.shown new))) c.in-Ok.ensures.beside in
    others_both a (g.D.Load.size c.args.parts.now) (g.D.Parts.hidden c.args.parts.now) i (g.D.Cells.words c.alloc_here.new.parts) (g.D.Cells.words c.begin_larval.new.parts) b (g.D.Parts.beside c.begin_larval.new.parts)
    c.requires.ready.fits c.requires.ready.behind
    (subst (λ (y : List ℕ). Frame a.states.base (end_of a.states) y (g.D.Cells.words c.alloc_here.new.parts)) w c.in-Ok.ensures.frame) frame
    (turned_count b (g.D.Parts.beside c.begin_larval.new.parts) b1 None c.in-Ok.slot (value_of_new (added_record m.shown new)) v value)
    (turned_held b (g.D.Parts.beside c.begin_larval.new.parts) b1 None c.in-Ok.slot (value_of_new (added_record m.shown new)) v value)

pub returns-in-Ok-clause-answer : goal.returns-in-Ok-clause-answer
returns-in-Ok-clause-answer g c = λ m r.
    let a = c.args.layout.now in
    let i = g.D.Cells.words c.args.parts.now in
    let b = g.D.Parts.beside c.args.parts.now in
    let i1 = g.D.Cells.words c.time_here-now.new.parts in
    let b1 = g.D.Parts.beside c.time_here-now.new.parts in
    let w = c.time_here-now.ensures.words in
    let v = c.time_here-now.ensures.beside in
    let r1 : Stands a i1 b1 m = stands_same a i i1 b b1 m w v r in
    let at = at_now a i b m c.time_here-now.result r c.time_here-now.ensures.answer c.requires.young in
    let fits1 = pool_same a.states i i1 (g.P.Pool.capacity c.args.pool.now) (g.P.Pool.taken c.args.pool.now) (g.P.Pool.gives c.args.pool.now) (g.P.Pool.takes c.args.pool.now) w c.requires.pool in
    let x : Comes a.states (g.D.Cells.words c.alloc_here.new.parts) m.shown (entries_in r1.rows) (g.P.Pool.gives c.args.pool.now) None c.in-Ok.slot (alloc_spi m.shown c.args.spec.now) =
    c.in-Ok.ensures.comes m.shown (entries_in r1.rows) at r1.on_states fits1 in
    let frame : Frame 0 (g.D.Parts.hidden c.args.parts.now) (g.D.Cells.words c.alloc_here.new.parts) (g.D.Cells.words c.begin_larval.new.parts) =
    subst (λ (n : ℕ). Frame 0 n (g.D.Cells.words c.alloc_here.new.parts) (g.D.Cells.words c.begin_larval.new.parts)) (c.in-Ok.ensures.hidden ∙ c.time_here-now.ensures.hidden) c.begin_larval.ensures.frame in
    let n : Fits a (length i1) = size_same a i1 (g.D.Load.size c.args.parts.now) (g.D.Load.size c.time_here-now.new.parts) (g.met.D.Cells.all c.time_here-now.new.parts) c.time_here-now.ensures.size c.requires.ready.fits in
    let l : Allots m.shown c.args.spec.now x.shown x.new (alloc_spi m.shown c.args.spec.now) =
    allotted a.states (g.D.Cells.words c.alloc_here.new.parts) m.shown (entries_in r1.rows) (g.P.Pool.gives c.args.pool.now) c.in-Ok.slot c.args.spec.now x in
    let new : NewState = record { spec = larval_spec c.args.spec.now l.spi; larval = true } in
    let is : record_at a.states (g.D.Cells.words c.alloc_here.new.parts) c.in-Ok.slot ≡ Some (added_record m.shown new) =
    came_record a.states (g.D.Cells.words c.alloc_here.new.parts) m.shown (entries_in r1.rows) (g.P.Pool.gives c.args.pool.now) None c.in-Ok.slot (alloc_spi m.shown c.args.spec.now) m.shown new x
    l.adds.shown_is l.adds.new_is in
    let value : g.D.Parts.beside c.begin_larval.new.parts ≡ value_put b1 c.in-Ok.slot (value_of_new (added_record m.shown new)) =
    c.begin_larval.ensures.beside (added_record m.shown new) is ∙ ap (λ (d : Beside). value_put d c.in-Ok.slot (value_of_new (added_record m.shown new))) c.in-Ok.ensures.beside in
    came a i1 (g.D.Cells.words c.alloc_here.new.parts) (g.D.Cells.words c.begin_larval.new.parts) b1 (g.D.Parts.beside c.begin_larval.new.parts) m (g.D.Parts.hidden c.args.parts.now) c.in-Ok.slot
    (g.P.Pool.gives c.args.pool.now) None (alloc_spi m.shown c.args.spec.now) m.shown.next_seq new (added_record m.shown new) (AllocSpi c.args.spec.now)
    (reply.DoneSpi l.spi m.shown.next_sid) c.begin_larval.result r1 n c.requires.ready.behind c.in-Ok.ensures.frame frame x
    l.adds (c.requires.ready.below c.in-Ok.slot x.given) refl value (c.begin_larval.ensures.told (added_record m.shown new) is) refl

pub returns-in-Ok-clause-pool : goal.returns-in-Ok-clause-pool
returns-in-Ok-clause-pool g c = λ lasts.
    let a = c.args.layout.now in
    let i = g.D.Cells.words c.args.parts.now in
    let b = g.D.Parts.beside c.args.parts.now in
    let i1 = g.D.Cells.words c.time_here-now.new.parts in
    let b1 = g.D.Parts.beside c.time_here-now.new.parts in
    let w = c.time_here-now.ensures.words in
    let v = c.time_here-now.ensures.beside in
    let m = c.requires.stands.machine in
    let r = c.requires.stands.stands in
    let r1 : Stands a i1 b1 m = stands_same a i i1 b b1 m w v r in
    let at = at_now a i b m c.time_here-now.result r c.time_here-now.ensures.answer c.requires.young in
    let fits1 = pool_same a.states i i1 (g.P.Pool.capacity c.args.pool.now) (g.P.Pool.taken c.args.pool.now) (g.P.Pool.gives c.args.pool.now) (g.P.Pool.takes c.args.pool.now) w c.requires.pool in
    let x : Comes a.states (g.D.Cells.words c.alloc_here.new.parts) m.shown (entries_in r1.rows) (g.P.Pool.gives c.args.pool.now) None c.in-Ok.slot (alloc_spi m.shown c.args.spec.now) =
    c.in-Ok.ensures.comes m.shown (entries_in r1.rows) at r1.on_states fits1 in
    let frame : Frame 0 (g.D.Parts.hidden c.args.parts.now) (g.D.Cells.words c.alloc_here.new.parts) (g.D.Cells.words c.begin_larval.new.parts) =
    subst (λ (n : ℕ). Frame 0 n (g.D.Cells.words c.alloc_here.new.parts) (g.D.Cells.words c.begin_larval.new.parts)) (c.in-Ok.ensures.hidden ∙ c.time_here-now.ensures.hidden) c.begin_larval.ensures.frame in
    let n : Fits a (length i1) = size_same a i1 (g.D.Load.size c.args.parts.now) (g.D.Load.size c.time_here-now.new.parts) (g.met.D.Cells.all c.time_here-now.new.parts) c.time_here-now.ensures.size c.requires.ready.fits in
    subst (λ (xs : List ℕ). PoolFits (g.P.Pool.capacity c.alloc_here.new.pool) (g.P.Pool.taken c.alloc_here.new.pool) (g.P.Pool.gives c.alloc_here.new.pool) (g.P.Pool.takes c.alloc_here.new.pool) a.states.slots xs)
    (sym (slots_behind a (g.D.Cells.words c.alloc_here.new.parts) (g.D.Cells.words c.begin_larval.new.parts) _ _ (g.D.Parts.hidden c.args.parts.now)
    (subst (λ (q : ℕ). Fits a q) (sym c.in-Ok.ensures.frame.size) n) c.requires.ready.behind frame x.stands))
    (c.in-Ok.ensures.pool m.shown (entries_in r1.rows) lasts at r1.on_states fits1)

both : (g : given.Over) (c : goal.After-begin_larval g) → KeepsPlaces c.args.layout.now.states (g.D.Parts.beside c.args.parts.now).held (g.D.Cells.words c.args.parts.now) (g.D.Cells.words c.begin_larval.new.parts)
    × SlotCame (g.P.Pool.gives c.args.pool.now) None (listed_in c.args.layout.now.states (g.D.Cells.words c.args.parts.now)) (listed_in c.args.layout.now.states (g.D.Cells.words c.begin_larval.new.parts))
both g c =
    let a = c.args.layout.now in
    let i = g.D.Cells.words c.args.parts.now in
    let b = g.D.Parts.beside c.args.parts.now in
    let i1 = g.D.Cells.words c.time_here-now.new.parts in
    let b1 = g.D.Parts.beside c.time_here-now.new.parts in
    let w = c.time_here-now.ensures.words in
    let v = c.time_here-now.ensures.beside in
    let m = c.requires.stands.machine in
    let r = c.requires.stands.stands in
    let r1 : Stands a i1 b1 m = stands_same a i i1 b b1 m w v r in
    let at = at_now a i b m c.time_here-now.result r c.time_here-now.ensures.answer c.requires.young in
    let fits1 = pool_same a.states i i1 (g.P.Pool.capacity c.args.pool.now) (g.P.Pool.taken c.args.pool.now) (g.P.Pool.gives c.args.pool.now) (g.P.Pool.takes c.args.pool.now) w c.requires.pool in
    let x : Comes a.states (g.D.Cells.words c.alloc_here.new.parts) m.shown (entries_in r1.rows) (g.P.Pool.gives c.args.pool.now) None c.in-Ok.slot (alloc_spi m.shown c.args.spec.now) =
    c.in-Ok.ensures.comes m.shown (entries_in r1.rows) at r1.on_states fits1 in
    let frame : Frame 0 (g.D.Parts.hidden c.args.parts.now) (g.D.Cells.words c.alloc_here.new.parts) (g.D.Cells.words c.begin_larval.new.parts) =
    subst (λ (n : ℕ). Frame 0 n (g.D.Cells.words c.alloc_here.new.parts) (g.D.Cells.words c.begin_larval.new.parts)) (c.in-Ok.ensures.hidden ∙ c.time_here-now.ensures.hidden) c.begin_larval.ensures.frame in
    let n : Fits a (length i1) = size_same a i1 (g.D.Load.size c.args.parts.now) (g.D.Load.size c.time_here-now.new.parts) (g.met.D.Cells.all c.time_here-now.new.parts) c.time_here-now.ensures.size c.requires.ready.fits in
    let l : Allots m.shown c.args.spec.now x.shown x.new (alloc_spi m.shown c.args.spec.now) =
    allotted a.states (g.D.Cells.words c.alloc_here.new.parts) m.shown (entries_in r1.rows) (g.P.Pool.gives c.args.pool.now) c.in-Ok.slot c.args.spec.now x in
    came_both a i i1 (g.D.Cells.words c.alloc_here.new.parts) (g.D.Cells.words c.begin_larval.new.parts) b b1 m (g.D.Parts.hidden c.args.parts.now) m.shown.next_seq _ (g.P.Pool.gives c.args.pool.now) None _ r1 w v n
    c.requires.ready.behind c.in-Ok.ensures.frame frame x l.adds.shown_is tt c.requires.ready.turns

pub returns-in-Ok-clause-places : goal.returns-in-Ok-clause-places
returns-in-Ok-clause-places g c = (both g c).0

pub returns-in-Ok-clause-given : goal.returns-in-Ok-clause-given
returns-in-Ok-clause-given g c = λ done. (both g c).1

pub returns-in-Err-clause-places : goal.returns-in-Err-clause-places
returns-in-Err-clause-places g c =
    places_same c.args.layout.now (g.D.Cells.words c.args.parts.now) (g.D.Cells.words c.alloc_here.new.parts) (g.D.Parts.beside c.args.parts.now) c.requires.stands
    (c.in-Err.ensures.refused refl ∙ c.time_here-now.ensures.words)

pub returns-in-Err-clause-given : goal.returns-in-Err-clause-given
returns-in-Err-clause-given g c = λ done.
    let refuses : is_refusal_of c.fault_reply.result ≡ true = ap (λ (x : Reply). is_refusal_of x) c.fault_reply.ensures ∙ fault_refuses c.in-Err.fault in
    absurd (cc)
