-- A packet or an output to a state that was found: its value answers, and the words follow the reply alone.
use Rattle.std.specs.Prelude.{◌≡◌, ℕ, true, List, length, find}
use Rattle.xf_types.specs.declared.state.Sa.{Sa}
use Rattle.xf_types.specs.declared.call.Packet.{Packet}
use Rattle.xf_types.specs.declared.call.Call.TheVariants as call
use Rattle.xf_types.specs.declared.call.Reply.{Reply}
use Rattle.xf_types.specs.Machine.{Machine, Own}
use Rattle.xf_types.specs.Moves.{says_soft}
use Rattle.xf_types.specs.StateList.{latest_match, has_sid, has_id}
use Rattle.xf_types.specs.TrafficRules.{packet_at, output_at, id_of_packet}
use Rattle.xf_local.specs.View.{LocalView}
use Rattle.xf_local.specs.Alone.{Inward, Outward}
use Rattle.xf_local.specs.Answering.{Replies, Settles}
use Rattle.xf_index.specs.Indexes.{records_in}
use Rattle.xf_image.specs.Frames.{Frame}
use Rattle.xf_sadidx.specs.Layout.{end_of}
use Rattle.xf_sadimage.specs.States.{StatesStand}
use Rattle.xf_rows.specs.declared.layout.Layout.{Layout}
use Rattle.xf_rows.specs.Layouts.{Fits}
use Rattle.xf_rows.specs.Rows.{entries_in}
use Rattle.xf_rows.specs.Values.{Beside, at, value_put}
use Rattle.xf_rows.specs.Stands.{Stands}
use Rattle.xf_rows.specs.Finds.{FoundAt}
use Rattle.xf_rows.specs.Fates.{Tells, says_ended, entries_told}
use Rattle.xf_rows.specs.Replies.{Answers}

pub record TrafficLaws : Type 0 where
  -- the reply tells the fate
  pub tells_packet : (p : Packet) (now : ℕ) (s : Sa) (own : Own) → Tells (packet_at p now s own).reply (packet_at p now s own).fate
  pub tells_output : (len now : ℕ) (s : Sa) (own : Own) → Tells (output_at len now s own).reply (output_at len now s own).fate
  -- so words that follow the reply, beside the value that gave it, stand for the machine after the call
  pub packet : (layout : Layout) (i j : List ℕ) (b : Beside) (m : Machine) (p : Packet) (slot : ℕ) (v : LocalView) (said : Reply) (r : Stands layout i b m)
      (f : FoundAt b m r.rows (has_id (id_of_packet p)) slot (latest_match m.shown.states (id_of_packet p)))
      → Fits layout (length i) → Frame layout.states.base (end_of layout.states) i j → b.held slot ≡ true
      → Settles (Replies said) (at b slot) v (Inward p)
      → StatesStand layout.states j
      (record m.shown { states = records_in (entries_told (says_ended said) (says_soft said) (entries_in f.place.front) f.row.0 f.row.1.0 (entries_in f.place.back)) })
      (entries_told (says_ended said) (says_soft said) (entries_in f.place.front) f.row.0 f.row.1.0 (entries_in f.place.back))
      → Answers layout j (value_put b slot v) m (call.Packet p) said
  pub output : (layout : Layout) (i j : List ℕ) (b : Beside) (m : Machine) (sid len : ℕ) (slot : ℕ) (v : LocalView) (said : Reply) (r : Stands layout i b m)
      (f : FoundAt b m r.rows (has_sid sid) slot (find (has_sid sid) m.shown.states))
      → Fits layout (length i) → Frame layout.states.base (end_of layout.states) i j → b.held slot ≡ true
      → Settles (Replies said) (at b slot) v (Outward len)
      → StatesStand layout.states j
      (record m.shown { states = records_in (entries_told (says_ended said) (says_soft said) (entries_in f.place.front) f.row.0 f.row.1.0 (entries_in f.place.back)) })
      (entries_told (says_ended said) (says_soft said) (entries_in f.place.front) f.row.0 f.row.1.0 (entries_in f.place.back))
      → Answers layout j (value_put b slot v) m (call.Output sid len) said
