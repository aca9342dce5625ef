-- Replies, and what words and values stand for after them, are the machine's.
use Rattle.std.proofs.Common.{ℕ, ◌≡◌, Bool, List, ◌++◌, Option, None, Some, ap, sym, ◌∙◌, subst}
use Rattle.std.specs.Prelude.{count_by}
use Rattle.xf_types.specs.declared.call.Call.TheVariants as call
use Rattle.xf_types.specs.declared.call.Reply.TheVariants as reply
use Rattle.xf_types.specs.declared.network.Proto.{Proto}
use Rattle.xf_types.specs.declared.state.Sa.{Sa}
use Rattle.xf_types.specs.declared.state.SaId.{SaId}
use Rattle.xf_types.specs.declared.state.SaFilter.{SaFilter}
use Rattle.xf_types.specs.Machine.{Machine, Outcome}
use Rattle.xf_types.specs.PolicyList.{without}
use Rattle.xf_types.specs.Changes.{LeaveThen, machine_after, applied}
use Rattle.xf_types.specs.StateList.{has_id, has_sid, latest_match}
use Rattle.xf_types.specs.StateRules.{state_deleted}
use Rattle.xf_index.specs.Finds.{slot_found}
use Rattle.xf_sadidx.specs.Founds.{latest_in}
use Rattle.xf_rows.specs.declared.layout.Layout.{Layout}
use Rattle.xf_rows.specs.Rows.{Row, entries_in, on_row}
use Rattle.xf_rows.specs.Values.{Beside}
use Rattle.xf_rows.specs.Finds.{FoundAt}
use Rattle.xf_rows.specs.Replies.{Answers}
use Rattle.xf_rows.specs.Stands.{Stands, machine_with}
use Rattle.xf_rows.proofs.Finding.{latest_found, none_latest}
use Rattle.xf_rows.proofs.Leaving.{Aside, aside}
use Rattle.xf_rows.proofs.Lists.{one_left}
use Rattle.xf_rows.proofs.Telling.{answers}
use Rattle.xf_statecalls.specs.Choices.{chosen}
use Rattle.xf_statecalls.specs.declared.choice.Choice.TheVariants.{Admitted, OfProto}
use Rattle.xf_statecalls.specs.Left.{RowAt, Occupied, StandsFor}
use Rattle.xf_statecalls.specs.Ready.{Stood}
use Rattle.xf_statecalls.specs.Sweeps.{IsSwept}
use Rattle.xf_statecalls.proofs.Rows.{machine_left}

-- ---- the state that an id names

abbrev pub row_at : (layout : Layout) (i : List ℕ) (b : Beside) (m : Machine) (test : Sa → Bool) (slot : ℕ) (found : Option Sa) (r : Stands layout i b m) → FoundAt b m r.rows test slot found
    → RowAt layout i b m slot
row_at layout i b m test slot found r f = record { stands = r; row = f.row; place = f.place; slot_is = f.slot_is }

pub occupied : (layout : Layout) (i : List ℕ) (b : Beside) (test : Sa → Bool) (slot : ℕ) (k : Stood layout i b)
    → Some slot ≡ slot_found (latest_in test (entries_in k.stands.rows)) → Occupied layout i b slot
occupied layout i b test slot k is =
    record { machine = k.machine; at = row_at layout i b k.machine test slot _ k.stands (latest_found layout i b k.machine test slot k.stands is) }

-- it leaves
pub deleted : (layout : Layout) (i k : List ℕ) (b c : Beside) (m : Machine) (id : SaId) (slot sid : ℕ) (r : Stands layout i b m)
    (f : FoundAt b m r.rows (has_id id) slot (latest_match m.shown.states id))
    → sid ≡ f.row.1.0.sid → StandsFor layout k c m.shown (f.place.front ++ f.place.back)
    → Answers layout k c m (call.StateDelete id) (reply.DoneSid sid)
deleted layout i k b c m id slot sid r f is left =
    let x : Row = f.row in
    let leaves : Sa → Bool = has_sid x.1.0.sid in
    let a : Aside x f.place.front f.place.back layout.states.slots = aside layout i b m x f.place.front f.place.back r f.place.whole in
    let one : without (on_row leaves) r.rows ≡ f.place.front ++ f.place.back =
    ap (λ (xs : List Row). without (on_row leaves) xs) f.place.whole ∙ one_left x f.place.front f.place.back a.before a.behind in
    let same : machine_with m.shown (f.place.front ++ f.place.back) ≡ machine_after m (LeaveThen m.shown leaves None) =
    ap (λ (xs : List Row). machine_with m.shown xs) (sym one) ∙ machine_left layout i b m leaves r in
    let done : Outcome = applied m (state_deleted m.shown (Some x.1.0)) in
    let whole : done ≡ applied m (state_deleted m.shown (latest_match m.shown.states id)) = ap (λ (o : Option Sa). applied m (state_deleted m.shown o)) (sym f.state) in
    answers layout k c m (call.StateDelete id) (reply.DoneSid sid) (ap (λ (n : ℕ). reply.DoneSid n) is ∙ ap (λ (o : Outcome). o.reply) whole)
    (subst (λ (o : Outcome). Stands layout k c o.machine) whole (subst (λ (n : Machine). Stands layout k c n) same left.stands))

-- there is none
pub not_deleted : (layout : Layout) (i : List ℕ) (b : Beside) (m : Machine) (id : SaId) (r : Stands layout i b m) → None ≡ slot_found (latest_in (has_id id) (entries_in r.rows))
    → Answers layout i b m (call.StateDelete id) reply.NoState
not_deleted layout i b m id r is =
    let none : latest_match m.shown.states id ≡ None = none_latest layout i b m (has_id id) r (sym is) in
    let whole : applied m (state_deleted m.shown None) ≡ applied m (state_deleted m.shown (latest_match m.shown.states id)) = ap (λ (o : Option Sa). applied m (state_deleted m.shown o)) (sym none) in
    answers layout i b m (call.StateDelete id) reply.NoState (ap (λ (o : Outcome). o.reply) whole) (subst (λ (o : Outcome). Stands layout i b o.machine) whole r)

-- words and values that are equal to others
pub answers_same : (layout : Layout) (i j : List ℕ) (b c : Beside) (m : Machine) (x : Rattle.xf_types.specs.declared.call.Call.Call) (y : Rattle.xf_types.specs.declared.call.Reply.Reply)
    → j ≡ i → c ≡ b → Answers layout i b m x y → Answers layout j c m x y
answers_same layout i j b c m x y e f a =
    subst (λ (k : List ℕ). Answers layout k c m x y) (sym e) (subst (λ (d : Beside). Answers layout i d m x y) (sym f) a)

pub stands_same : (layout : Layout) (i j : List ℕ) (b c : Beside) (m : Machine) → j ≡ i → c ≡ b → Stands layout i b m → Stands layout j c m
stands_same layout i j b c m e f r =
    subst (λ (k : List ℕ). Stands layout k c m) (sym e) (subst (λ (d : Beside). Stands layout i d m) (sym f) r)

-- ---- all of a kind

swept_stands : (layout : Layout) (i k : List ℕ) (b c : Beside) (m : Machine) (leaves : Sa → Bool) (count : ℕ) (r : Stands layout i b m)
    → IsSwept layout k c leaves m.shown r.rows count → Stands layout k c (machine_after m (LeaveThen m.shown leaves None))
swept_stands layout i k b c m leaves count r swept = subst (λ (n : Machine). Stands layout k c n) (machine_left layout i b m leaves r) swept.stands.stands

swept_count : (layout : Layout) (i k : List ℕ) (b c : Beside) (m : Machine) (leaves : Sa → Bool) (count : ℕ) (r : Stands layout i b m)
    → IsSwept layout k c leaves m.shown r.rows count → reply.Removed count ≡ reply.Removed (count_by leaves m.shown.states)
swept_count layout i k b c m leaves count r swept =
    ap (λ (n : ℕ). reply.Removed n) (swept.counted ∙ ap (λ (ss : List Sa). count_by leaves ss) r.on_states.listed)

pub all_deleted : (layout : Layout) (i k : List ℕ) (b c : Beside) (m : Machine) (filter : SaFilter) (count : ℕ) (r : Stands layout i b m)
    → IsSwept layout k c (chosen (Admitted filter)) m.shown r.rows count → Answers layout k c m (call.StateDeleteAll filter) (reply.Removed count)
all_deleted layout i k b c m filter count r swept =
    answers layout k c m (call.StateDeleteAll filter) (reply.Removed count) (swept_count layout i k b c m (chosen (Admitted filter)) count r swept)
    (swept_stands layout i k b c m (chosen (Admitted filter)) count r swept)

pub all_flushed : (layout : Layout) (i k : List ℕ) (b c : Beside) (m : Machine) (proto : Option Proto) (count : ℕ) (r : Stands layout i b m)
    → IsSwept layout k c (chosen (OfProto proto)) m.shown r.rows count → Answers layout k c m (call.StateFlush proto) (reply.Removed count)
all_flushed layout i k b c m proto count r swept =
    answers layout k c m (call.StateFlush proto) (reply.Removed count) (swept_count layout i k b c m (chosen (OfProto proto)) count r swept)
    (swept_stands layout i k b c m (chosen (OfProto proto)) count r swept)
