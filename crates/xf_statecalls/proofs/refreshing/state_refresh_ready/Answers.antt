use Rattle.std.proofs.Common.{ℕ, ◌≡◌, ◌<◌, true, List, ◌∷◌, ◌++◌, length, refl, ap, sym, ◌∙◌, subst}
use Rattle.xf_types.specs.declared.state.Sa.{Sa}
use Rattle.xf_types.specs.StateList.{has_id, id_of}
use Rattle.xf_types.specs.StateRules.{refreshed_record}
use Rattle.xf_image.specs.Frames.{Frame}
use Rattle.xf_sadidx.specs.Layout.{end_of}
use Rattle.xf_local.specs.View.{LocalView, MayHave, renewed}
use Rattle.xf_index.specs.Indexes.{records_in}
use Rattle.xf_sadlist.specs.Listed.{with_states}
use Rattle.xf_types.specs.Machine.{Shown}
use Rattle.xf_rows.specs.Rows.{entries_in}
use Rattle.xf_rows.specs.Values.{Beside, at, value_put}
use Rattle.xf_rows.specs.Replies.{Answers}
use Rattle.xf_types.specs.declared.call.Call.TheVariants.{StateUpdate}
use Rattle.xf_types.specs.declared.call.Reply.TheVariants as reply
use Rattle.xf_sadimage.specs.States.{StatesStand}
use Rattle.xf_sad.specs.Slots.{listed_in}
use Rattle.xf_statecalls.specs.Ready.{LeavesOthers}
use Rattle.xf_rows.proofs.Finding.{latest_found}
use Rattle.xf_statecalls.proofs.Others.{others_words, put_count, put_held}
use Rattle.xf_statecalls.proofs.Placed.{place_put}
use Rattle.xf_statecalls.proofs.Renewed.{may_have, renewed_is, slots_refreshed, used}
use Rattle.xf_statecalls.proofs.Replied.{row_at}
use Rattle.xf_statecalls.proofs.Standing.{entry_at, row_kept, row_state, row_none, row_record, size_same, states_same}
use Rattle.xf_statecalls.proofs.refreshing.state_refresh_ready.Goals as goal

pub unreachable-requires : goal.unreachable-requires
unreachable-requires g c =
    let a = c.args.layout.now in
    let i = g.D.Cells.words c.args.parts.now in
    let b = g.D.Parts.beside c.args.parts.now in
    let m = c.requires.stands.machine in
    let r = c.requires.stands.stands in
    let f = latest_found a i b m (has_id (id_of c.args.spec.now)) c.args.slot r (c.requires.found m.shown (entries_in r.rows) r.on_states) in
    let t = row_at a i b m (has_id (id_of c.args.spec.now)) c.args.slot _ r f in
    row_none a i b m c.args.slot t c.in-None.ensures.answer

pub refresh_here-requires-clause-occupied : goal.refresh_here-requires-clause-occupied
refresh_here-requires-clause-occupied g c =
    let a = c.args.layout.now in
    let i = g.D.Cells.words c.args.parts.now in
    let b = g.D.Parts.beside c.args.parts.now in
    let m = c.requires.stands.machine in
    let r = c.requires.stands.stands in
    let f = latest_found a i b m (has_id (id_of c.args.spec.now)) c.args.slot r (c.requires.found m.shown (entries_in r.rows) r.on_states) in
    let t = row_at a i b m (has_id (id_of c.args.spec.now)) c.args.slot _ r f in
    row_kept a i _ b _ c.args.slot c.in-Some.ensures.words c.in-Some.ensures.beside (record { machine = m; at = t })

pub renew-requires-clause-slot : goal.renew-requires-clause-slot
renew-requires-clause-slot g c =
    subst (λ (d : Beside). c.args.slot < length d.values) (sym (c.refresh_here.ensures.beside ∙ c.in-Some.ensures.beside))
    (subst (λ (n : ℕ). c.args.slot < n) (sym c.requires.stands.stands.count) c.requires.slot)

pub renew-requires-clause-held : goal.renew-requires-clause-held
renew-requires-clause-held g c = subst (λ (d : Beside). d.held c.args.slot ≡ true) (sym (c.refresh_here.ensures.beside ∙ c.in-Some.ensures.beside)) c.requires.held

pub renew-requires-clause-record_ : goal.renew-requires-clause-record_
renew-requires-clause-record_ g c =
    let a = c.args.layout.now in
    let i = g.D.Cells.words c.args.parts.now in
    let b = g.D.Parts.beside c.args.parts.now in
    let m = c.requires.stands.machine in
    let r = c.requires.stands.stands in
    let f = latest_found a i b m (has_id (id_of c.args.spec.now)) c.args.slot r (c.requires.found m.shown (entries_in r.rows) r.on_states) in
    let t = row_at a i b m (has_id (id_of c.args.spec.now)) c.args.slot _ r f in
    subst (λ (d : Beside). MayHave (at d c.args.slot) c.refreshed-fresh.result) (sym (c.refresh_here.ensures.beside ∙ c.in-Some.ensures.beside))
    (may_have m.shown.time (at b c.args.slot) f.row c.args.spec.now c.refreshed-fresh.result (f.value c.requires.held)
    (c.refreshed-fresh.ensures ∙ ap (λ (s : Sa). refreshed_record c.args.spec.now s) (row_state a i b m c.args.slot c.in-Some.state t c.in-Some.ensures.answer)))

pub returns-clause-others : goal.returns-clause-others
returns-clause-others g c =
    let a = c.args.layout.now in
    let i = g.D.Cells.words c.args.parts.now in
    let b = g.D.Parts.beside c.args.parts.now in
    subst (λ (w : List ℕ). LeavesOthers a (g.D.Parts.hidden c.args.parts.now) i w b (g.D.Parts.beside c.renew.new.parts)) (sym c.renew.ensures.words)
    (others_words a (g.D.Parts.hidden c.args.parts.now) i (g.D.Cells.words c.refresh_here.new.parts) b (g.D.Parts.beside c.renew.new.parts)
    (subst (λ (w : List ℕ). Frame a.states.base (end_of a.states) w (g.D.Cells.words c.refresh_here.new.parts)) c.in-Some.ensures.words c.refresh_here.ensures.frame)
    (put_count b (g.D.Parts.beside c.renew.new.parts) (g.D.Parts.beside c.refresh_here.new.parts) c.args.slot _ (c.refresh_here.ensures.beside ∙ c.in-Some.ensures.beside) c.renew.ensures.beside)
    (put_held b (g.D.Parts.beside c.renew.new.parts) (g.D.Parts.beside c.refresh_here.new.parts) c.args.slot _ (c.refresh_here.ensures.beside ∙ c.in-Some.ensures.beside) c.renew.ensures.beside))

pub returns-clause-slots : goal.returns-clause-slots
returns-clause-slots g c =
    let a = c.args.layout.now in
    let i = g.D.Cells.words c.args.parts.now in
    let b = g.D.Parts.beside c.args.parts.now in
    let m = c.requires.stands.machine in
    let r = c.requires.stands.stands in
    let f = latest_found a i b m (has_id (id_of c.args.spec.now)) c.args.slot r (c.requires.found m.shown (entries_in r.rows) r.on_states) in
    let t = row_at a i b m (has_id (id_of c.args.spec.now)) c.args.slot _ r f in
    let st = entry_at a i b m c.args.slot t in
    ap (λ (w : List ℕ). listed_in a.states w) c.renew.ensures.words
    ∙ slots_refreshed a.states i (g.D.Cells.words c.refresh_here.new.parts) m.shown _ (entries_in t.place.front) (entries_in t.place.back) c.args.slot t.row.1.0 (refreshed_record c.args.spec.now t.row.1.0) st
    (c.refresh_here.ensures.stands m.shown (entries_in t.place.front) (entries_in t.place.back) t.row.1.0
    (states_same a.states i (g.D.Cells.words c.state_here.new.parts) m.shown (entries_in t.place.front ++ ((c.args.slot, t.row.1.0) ∷ entries_in t.place.back)) c.in-Some.ensures.words st))

pub returns-clause-answer : goal.returns-clause-answer
returns-clause-answer g c = λ m r.
    let a = c.args.layout.now in
    let i = g.D.Cells.words c.args.parts.now in
    let b = g.D.Parts.beside c.args.parts.now in
    let f = latest_found a i b m (has_id (id_of c.args.spec.now)) c.args.slot r (c.requires.found m.shown (entries_in r.rows) r.on_states) in
    let t = row_at a i b m (has_id (id_of c.args.spec.now)) c.args.slot _ r f in
    let st = entry_at a i b m c.args.slot t in
    let same = row_state a i b m c.args.slot c.in-Some.state t c.in-Some.ensures.answer in
    let fresh = c.refreshed-fresh.ensures ∙ ap (λ (s : Sa). refreshed_record c.args.spec.now s) same in
    let mid = c.refresh_here.ensures.beside ∙ c.in-Some.ensures.beside in
    subst (λ (w : List ℕ). Answers a w (g.D.Parts.beside c.renew.new.parts) m (StateUpdate c.args.spec.now) (reply.DoneSid c.in-Some.state.sid)) (sym c.renew.ensures.words)
    (used a i (g.D.Cells.words c.refresh_here.new.parts) b (g.D.Parts.beside c.renew.new.parts) m c.args.spec.now c.args.slot c.in-Some.state.sid r f
    (size_same a i (g.D.Load.size c.args.parts.now) (g.D.Load.size c.args.parts.now) (g.met.D.Cells.all c.args.parts.now) refl c.requires.fits)
    (subst (λ (w : List ℕ). Frame a.states.base (end_of a.states) w (g.D.Cells.words c.refresh_here.new.parts)) c.in-Some.ensures.words c.refresh_here.ensures.frame)
    (c.requires.used f.row.1.0 (row_record a i b m c.args.slot t))
    (c.refresh_here.ensures.stands m.shown (entries_in f.place.front) (entries_in f.place.back) f.row.1.0
    (states_same a.states i (g.D.Cells.words c.state_here.new.parts) m.shown (entries_in f.place.front ++ ((c.args.slot, f.row.1.0) ∷ entries_in f.place.back)) c.in-Some.ensures.words st))
    (c.renew.ensures.beside ∙ ap (λ (d : Beside). value_put d c.args.slot (renewed c.refreshed-fresh.result (at d c.args.slot))) mid
    ∙ ap (λ (v : LocalView). value_put b c.args.slot v) (renewed_is m.shown.time c.args.slot (at b c.args.slot) f.row c.args.spec.now c.refreshed-fresh.result (f.value c.requires.held) fresh))
    (ap (λ (s : Sa). s.sid) same))

pub returns-clause-places : goal.returns-clause-places
returns-clause-places g c =
    let a = c.args.layout.now in
    let i = g.D.Cells.words c.args.parts.now in
    let b = g.D.Parts.beside c.args.parts.now in
    let m = c.requires.stands.machine in
    let r = c.requires.stands.stands in
    let f = latest_found a i b m (has_id (id_of c.args.spec.now)) c.args.slot r (c.requires.found m.shown (entries_in r.rows) r.on_states) in
    let t = row_at a i b m (has_id (id_of c.args.spec.now)) c.args.slot _ r f in
    let st = entry_at a i b m c.args.slot t in
    let y : Sa = refreshed_record c.args.spec.now t.row.1.0 in
    let u : Shown = with_states m.shown (records_in (entries_in t.place.front ++ ((c.args.slot, y) ∷ entries_in t.place.back))) in
    let after : StatesStand a.states (g.D.Cells.words c.renew.new.parts) u (entries_in t.place.front ++ ((c.args.slot, y) ∷ entries_in t.place.back)) =
    states_same a.states (g.D.Cells.words c.refresh_here.new.parts) (g.D.Cells.words c.renew.new.parts) u (entries_in t.place.front ++ ((c.args.slot, y) ∷ entries_in t.place.back)) c.renew.ensures.words
    (c.refresh_here.ensures.stands m.shown (entries_in t.place.front) (entries_in t.place.back) t.row.1.0
    (states_same a.states i (g.D.Cells.words c.state_here.new.parts) m.shown (entries_in t.place.front ++ ((c.args.slot, t.row.1.0) ∷ entries_in t.place.back)) c.in-Some.ensures.words st)) in
    place_put a i (g.D.Cells.words c.renew.new.parts) b m c.args.slot u y t c.requires.held refl after
