-- What a whole database gives to a call, and what a call leaves of it.
use Rattle.std.proofs.Common.{arith, ℕ, ◌≡◌, ◌^◌, ◌<◌, ◌≤◌, Bool, true, false, List, [], ◌∷◌, length, refl, ap, sym, ◌∙◌, subst, slice_index}
use Rattle.std.specs.Prelude.{All}
use Rattle.std.proofs.lemmas.List.Elements.{All-nil, All-cons}
use Rattle.xf_types.specs.declared.call.Call.{Call}
use Rattle.xf_types.specs.declared.call.Reply.{Reply}
use Rattle.xf_types.specs.Machine.{Machine}
use Rattle.xf_image.specs.Frames.{Frame}
use Rattle.xf_image.specs.Readings.{listed_in}
use Rattle.xf_image.proofs.Listed.{listed_is}
use Rattle.xf_inexact.specs.Whole.{SpdStands, whole_end}
use Rattle.xf_sadlist.specs.Listed.{next_sid_in}
use Rattle.xf_sadimage.specs.States.{StatesStand}
use Rattle.xf_spd.specs.Slots as policies
use Rattle.xf_sad.specs.Slots as states
use Rattle.xf_sad.proofs.Found as listing
use Rattle.xf_policies.specs.Standing as policycalls
use Rattle.xf_statecalls.specs.Ready as statecalls
use Rattle.xf_statecalls.proofs.Come.{young_word}
use Rattle.xf_ticking.specs.Ready as ticking
use Rattle.xf_rows.specs.declared.layout.Layout.{Layout}
use Rattle.xf_rows.specs.Layouts.{Fits}
use Rattle.xf_rows.specs.Readings.{machine_in}
use Rattle.xf_rows.specs.Replies.{Answers}
use Rattle.xf_rows.specs.Rows.{entries_in}
use Rattle.xf_rows.specs.Stands.{Stands}
use Rattle.xf_rows.specs.Values.{Beside}
use Rattle.xf_rows.proofs.Keeping.{policies_kept, states_stay}
use Rattle.xf_calls.specs.Whole.{IsWhole}
use Rattle.xf_calls.proofs.Stepped.{told}

-- ---- before a call

-- the machine by another name
pub stands_now : {layout : Layout} {i : List ℕ} {b : Beside} {n : Machine} {pa po : ℕ} {pg pt : ℕ → Type 0} {sa so : ℕ} {sg st : ℕ → Type 0}
    → IsWhole layout i b pa po pg pt sa so sg st → machine_in layout i b.values ≡ n → Stands layout i b n
stands_now {layout = layout} {i = i} {b = b} w now = subst (λ (m : Machine). Stands layout i b m) now w.stands

pub ready : {layout : Layout} {i : List ℕ} {b : Beside} {pa po : ℕ} {pg pt : ℕ → Type 0} {sa so : ℕ} {sg st : ℕ → Type 0}
    → IsWhole layout i b pa po pg pt sa so sg st → statecalls.IsReady layout (length i) 0 b false sg
ready w = record {
  fits = w.fits;
  behind = omega arith;
  count = w.stands.count;
  asked = refl;
  below = w.state_slots.below;
  turns = λ slot gives. w.turns slot;
}

pub stood : {layout : Layout} {i : List ℕ} {b : Beside} {pa po : ℕ} {pg pt : ℕ → Type 0} {sa so : ℕ} {sg st : ℕ → Type 0}
    → IsWhole layout i b pa po pg pt sa so sg st → statecalls.Stood layout i b
stood w = record { machine = _; stands = w.stands }

pub policies_stood : {layout : Layout} {i : List ℕ} {b : Beside} {pa po : ℕ} {pg pt : ℕ → Type 0} {sa so : ℕ} {sg st : ℕ → Type 0}
    → IsWhole layout i b pa po pg pt sa so sg st → policycalls.Stood layout.policies i
policies_stood w = record { shown = _; entries = w.stands.policies; stands = w.stands.on_policies }

-- what holds of everything holds of each element
each : (P : ℕ → Type 0) → ((slot : ℕ) → P slot) → (slots : List ℕ) → All P slots
each P holds [] = All-nil P
each P holds (slot ∷ slots) = All-cons P slot slots (holds slot) (each P holds slots)

pub ticks_ready : {layout : Layout} {i : List ℕ} {b : Beside} {pa po : ℕ} {pg pt : ℕ → Type 0} {sa so : ℕ} {sg st : ℕ → Type 0}
    → IsWhole layout i b pa po pg pt sa so sg st → ticking.IsReady layout (length i) 0 i b
ticks_ready {layout = layout} {i = i} {b = b} w = record {
  fits = w.fits;
  behind = omega arith;
  turns = each (λ slot. b.held slot ≡ true) w.turns (states.listed_in layout.states i);
}

-- a state id is left to give
pub sids_left : {layout : Layout} {i : List ℕ} {b : Beside} {n : Machine} → Stands layout i b n → n.shown.next_sid < 2 ^ 63 → next_sid_in layout.states i < 2 ^ 63
sids_left {layout = layout} {i = i} {n = n} r few = young_word layout.states i n.shown (entries_in r.rows) r.on_states few

-- ---- after loads

pub stands_read : {layout : Layout} {i j : List ℕ} {b d : Beside} {n : Machine} → j ≡ i → d ≡ b → Stands layout i b n → Stands layout j d n
stands_read {layout = layout} {i = i} {j = j} {b = b} {d = d} {n = n} e f r =
    subst (λ (k : List ℕ). Stands layout k d n) (sym e) (subst (λ (x : Beside). Stands layout i x n) (sym f) r)

pub whole_read : {layout : Layout} {i j : List ℕ} {b d : Beside} {pa po : ℕ} {pg pt : ℕ → Type 0} {sa so : ℕ} {sg st : ℕ → Type 0}
    → j ≡ i → d ≡ b → IsWhole layout i b pa po pg pt sa so sg st → IsWhole layout j d pa po pg pt sa so sg st
whole_read {layout = layout} {i = i} {j = j} {b = b} {d = d} {pa = pa} {po = po} {pg = pg} {pt = pt} {sa = sa} {so = so} {sg = sg} {st = st} e f w =
    subst (λ (k : List ℕ). IsWhole layout k d pa po pg pt sa so sg st) (sym e) (subst (λ (x : Beside). IsWhole layout i x pa po pg pt sa so sg st) (sym f) w)

-- ---- after a call on states

policies_listed : (layout : Layout) (i j : List ℕ) (b : Beside) (m : Machine) → Fits layout (length i)
    → ((q : ℕ) → q < layout.states.base → slice_index j q ≡ slice_index i q) → Stands layout i b m
    → listed_in layout.policies i ≡ listed_in layout.policies j
policies_listed layout i j b m fits same r =
    let order : whole_end layout.policies ≤ layout.states.base = fits.order in
    let st : SpdStands layout.policies j m.shown r.policies =
    policies_kept layout.policies i j m.shown r.policies fits.policies (λ q h l. same q (omega (arith, l, order))) r.on_policies in
    listed_is layout.policies i m.shown r.policies r.on_policies.list ∙ sym (listed_is layout.policies j m.shown r.policies st.list)

pub after_states : {layout : Layout} {i j : List ℕ} {b d : Beside} {n : Machine} {pa po : ℕ} {pg pt : ℕ → Type 0} {sa so sa2 so2 : ℕ} {sg st sg2 st2 : ℕ → Type 0}
    {call : Call} {r : Reply}
    → IsWhole layout i b pa po pg pt sa so sg st → statecalls.LeavesOthers layout 0 i j b d → Answers layout j d n call r
    → states.PoolFits sa2 so2 sg2 st2 layout.states.slots (states.listed_in layout.states j)
    → IsWhole layout j d pa po pg pt sa2 so2 sg2 st2
after_states {layout = layout} {i = i} {j = j} {b = b} {d = d} {pa = pa} {po = po} {pg = pg} {pt = pt} w others a slots =
    let turns : (slot : ℕ) → d.held slot ≡ true = λ slot. ap (λ (h : ℕ → Bool). h slot) others.turns ∙ w.turns slot in
    record {
      fits = subst (λ (size : ℕ). Fits layout size) (sym others.size) w.fits;
      turns = turns;
      stands = subst (λ (m : Machine). Stands layout j d m) (told turns a) a.stands;
      policy_slots = subst (λ (xs : List ℕ). policies.PoolFits pa po pg pt layout.policies.slots xs)
          (policies_listed layout i j b (machine_in layout i b.values) w.fits (λ q l. others.between q (omega arith) l) w.stands) w.policy_slots;
      state_slots = slots;
    }

-- ---- after a call on policies

pub frame_of : {first last : ℕ} {i j : List ℕ} → policycalls.LeavesOthers 0 first last i j → Frame first last i j
frame_of others = record { size = others.size; below = λ q l. others.between q (omega arith) l; above = others.above }

states_listed : (layout : Layout) (i j : List ℕ) (b : Beside) (m : Machine) → Fits layout (length i)
    → Frame layout.policies.base (whole_end layout.policies) i j → Stands layout i b m
    → states.listed_in layout.states i ≡ states.listed_in layout.states j
states_listed layout i j b m fits frame r =
    let st : StatesStand layout.states j m.shown (entries_in r.rows) =
    states_stay layout i j m.shown m.shown (entries_in r.rows) fits frame (record { states = refl; next_seq = refl; next_sid = refl; room = refl }) r.on_states in
    listing.listed_is layout.states i m.shown (entries_in r.rows) r.on_states ∙ sym (listing.listed_is layout.states j m.shown (entries_in r.rows) st)

pub same_slots : {all out slots : ℕ} {gives takes : ℕ → Type 0} {xs ys : List ℕ} → ys ≡ xs → policies.PoolFits all out gives takes slots xs → policies.PoolFits all out gives takes slots ys
same_slots {all = all} {out = out} {slots = slots} {gives = gives} {takes = takes} e fits = subst (λ (zs : List ℕ). policies.PoolFits all out gives takes slots zs) (sym e) fits

pub after_policies : {layout : Layout} {i j : List ℕ} {b d : Beside} {n : Machine} {pa po pa2 po2 : ℕ} {pg pt pg2 pt2 : ℕ → Type 0} {sa so : ℕ} {sg st : ℕ → Type 0}
    {call : Call} {r : Reply}
    → IsWhole layout i b pa po pg pt sa so sg st → Frame layout.policies.base (whole_end layout.policies) i j → d ≡ b → Answers layout j d n call r
    → policies.PoolFits pa2 po2 pg2 pt2 layout.policies.slots (listed_in layout.policies j)
    → IsWhole layout j d pa2 po2 pg2 pt2 sa so sg st
after_policies {layout = layout} {i = i} {j = j} {b = b} {d = d} {sa = sa} {so = so} {sg = sg} {st = st} w frame f a slots =
    let turns : (slot : ℕ) → d.held slot ≡ true = λ slot. ap (λ (x : Beside). x.held slot) f ∙ w.turns slot in
    record {
      fits = subst (λ (size : ℕ). Fits layout size) (sym frame.size) w.fits;
      turns = turns;
      stands = subst (λ (m : Machine). Stands layout j d m) (told turns a) a.stands;
      policy_slots = slots;
      state_slots = subst (λ (xs : List ℕ). states.PoolFits sa so sg st layout.states.slots xs)
          (states_listed layout i j b (machine_in layout i b.values) w.fits frame w.stands) w.state_slots;
    }

-- ---- after a tick

pub after_tick : {layout : Layout} {i j : List ℕ} {b d : Beside} {n : Machine} {pa po pa2 po2 : ℕ} {pg pt pg2 pt2 : ℕ → Type 0} {sa so sa2 so2 : ℕ} {sg st sg2 st2 : ℕ → Type 0}
    {call : Call} {r : Reply}
    → IsWhole layout i b pa po pg pt sa so sg st → ticking.LeavesOutside layout 0 i j b d → Answers layout j d n call r
    → policies.PoolFits pa2 po2 pg2 pt2 layout.policies.slots (listed_in layout.policies j)
    → states.PoolFits sa2 so2 sg2 st2 layout.states.slots (states.listed_in layout.states j)
    → IsWhole layout j d pa2 po2 pg2 pt2 sa2 so2 sg2 st2
after_tick {layout = layout} {i = i} {j = j} {b = b} {d = d} w outside a policy_slots state_slots =
    let turns : (slot : ℕ) → d.held slot ≡ true = λ slot. ap (λ (h : ℕ → Bool). h slot) outside.turns ∙ w.turns slot in
    record {
      fits = subst (λ (size : ℕ). Fits layout size) (sym outside.size) w.fits;
      turns = turns;
      stands = subst (λ (m : Machine). Stands layout j d m) (told turns a) a.stands;
      policy_slots = policy_slots;
      state_slots = state_slots;
    }
