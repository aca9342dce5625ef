-- How far a walk over templates has come.
use Rattle.std.proofs.Common.{◌≡◌, ℕ, ◌+◌, ◌<◌, true, false, List, [], ◌∷◌, ◌++◌, Option, None, Some, length, get_or, drop, refl, ap, sym, ◌∙◌, subst, append-nil, drop-cons, add-one, rules}
use Rattle.std.proofs.lemmas.List.{append_assoc}
use Rattle.arrayvec.specs.ArrayVec.{ArrayVec}
use Rattle.xf_types.specs.declared.call.Hop.{Hop}
use Rattle.xf_types.specs.declared.network.Addr.{Addr}
use Rattle.xf_types.specs.declared.network.Flow.{Flow}
use Rattle.xf_types.specs.declared.policy.Template.{Template}
use Rattle.xf_types.specs.declared.state.Sa.{Sa}
use Rattle.xf_types.specs.Candidates.{best_for, larval_for}
use Rattle.xf_types.specs.Resolution.{Resolution, Through, Waits, Wants, resolution, behind, through, hop_of, is_optional, wait_or_want}
use Rattle.xf_index.specs.Indexes.{records_in}
use Rattle.xf_index.specs.Finds.{slot_found, record_found}
use Rattle.xf_sadidx.specs.declared.area.StateArea.{StateArea}
use Rattle.xf_sadidx.specs.declared.query.StateQuery.TheVariants.{Candidate, Larval}
use Rattle.xf_sadidx.specs.Bests.{best_in}
use Rattle.xf_sadidx.specs.Founds.{latest_in}
use Rattle.xf_sadidx.specs.Layout.{record_at}
use Rattle.xf_sadidx.specs.Queries.{meets}
use Rattle.xf_sadidx.specs.Standing.{RecordsStand}
use Rattle.xf_sadidx.proofs.FoundLaws.{latest_record}
use Rattle.xf_sadfind.specs.declared.resolved.Resolved.{Resolved}
use Rattle.xf_sadfind.specs.declared.resolved.Resolved.TheVariants as found
use Rattle.xf_sadfind.specs.declared.used.Ends.{Ends}
use Rattle.xf_sadfind.specs.Paths.{IsHop, IsPath, IsResolved, seq_of}
use Rattle.xf_sadfind.specs.Slots.{IsThere}
use Rattle.xf_sadfind.specs.Tried.{ends_used}
use Rattle.xf_sadfind.proofs.Listings.{IsBest, best_there, best_none}
use Rattle.xf_sadfind.proofs.Readings.{latest_there}

-- ---- behind the hops so far

-- a path has these hops first; what isn't one stays
abbrev pub ahead : List Hop → Resolution → Resolution
ahead hops (Through path) = Through (hops ++ path)
ahead hops (Waits seq) = Waits seq
ahead hops (Wants t place src dst) = Wants t place src dst

ahead_none : (r : Resolution) → r ≡ ahead [] r
ahead_none (Through path) = refl
ahead_none (Waits seq) = refl
ahead_none (Wants t place src dst) = refl

ahead_behind : (hops : List Hop) (hop : Hop) (r : Resolution) → ahead hops (behind hop r) ≡ ahead (hops ++ hop ∷ []) r
ahead_behind hops hop (Through path) = ap Through (sym (append_assoc hops (hop ∷ []) path))
ahead_behind hops hop (Waits seq) = refl
ahead_behind hops hop (Wants t place src dst) = refl

ahead_wait : (hops : List Hop) (o : Option Sa) (t : Template) (place : ℕ) (src dst : Addr) → ahead hops (wait_or_want o t place src dst) ≡ wait_or_want o t place src dst
ahead_wait hops None t place src dst = refl
ahead_wait hops (Some s) t place src dst = refl

path_more : (es : List (ℕ × Sa)) (slots : List ℕ) (hops : List Hop) (slot : ℕ) (hop : Hop) → IsPath es slots hops → IsHop es slot hop
    → IsPath es (slots ++ slot ∷ []) (hops ++ hop ∷ [])
path_more es [] [] slot hop p h = (h, search rules)
path_more es [] (x ∷ hops) slot hop p h = absurd p
path_more es (s ∷ slots) [] slot hop p h = absurd p
path_more es (s ∷ slots) (x ∷ hops) slot hop p h = (p.0, path_more es slots hops slot hop p.1 h)

-- ---- one template

template_at : (ts : List Template) (i : ℕ) (d : Template) → i < length ts → drop i ts ≡ get_or ts i d ∷ drop (i + 1) ts
template_at ts i d within = drop-cons ts i d within ∙ ap (λ n. get_or ts i d ∷ drop n ts) (sym (add-one i))

-- what the templates from a place on come to, by the one there as it is used
turn_at : (states : List Sa) (flow : Flow) (ts : List Template) (i : ℕ) (src dst : Addr) (d : Template) (used : Ends)
    → i < length ts → used ≡ ends_used (get_or ts i d) src dst
    → resolution states flow (drop i ts) i src dst
    ≡ through (best_for states (get_or ts i d) flow used.src used.dst) (is_optional (get_or ts i d).level)
    (resolution states flow (drop (i + 1) ts) (i + 1) used.src used.dst)
    (resolution states flow (drop (i + 1) ts) (i + 1) src dst)
    (wait_or_want (larval_for states (get_or ts i d) flow used.src used.dst) (get_or ts i d) i used.src used.dst)
turn_at states flow ts i src dst d used within is =
    ap (λ us. resolution states flow us i src dst) (template_at ts i d within)
    ∙ ap (λ (u : Ends). through (best_for states (get_or ts i d) flow u.src u.dst) (is_optional (get_or ts i d).level)
    (resolution states flow (drop (i + 1) ts) (i + 1) u.src u.dst)
    (resolution states flow (drop (i + 1) ts) (i + 1) src dst)
    (wait_or_want (larval_for states (get_or ts i d) flow u.src u.dst) (get_or ts i d) i u.src u.dst)) (sym is)

-- ---- all templates

-- The states in the slots so far give hops, and all templates come to these and to what those from a place on come to.
pub record IsLed (es : List (ℕ × Sa)) (flow : Flow) (ts : List Template) (slots : List ℕ) (place : ℕ) (src dst : Addr) : Type 0 where
  pub hops : List Hop
  pub path : IsPath es slots hops
  pub rest : resolution (records_in es) flow ts 0 flow.src flow.dst ≡ ahead hops (resolution (records_in es) flow (drop place ts) place src dst)

pub led_start : (es : List (ℕ × Sa)) (flow : Flow) (ts : List Template) → IsLed es flow ts [] 0 flow.src flow.dst
led_start es flow ts = record { hops = []; path = search rules; rest = ahead_none (resolution (records_in es) flow ts 0 flow.src flow.dst) }

-- a template with a state: one slot more, and its addresses
pub led_used : (es : List (ℕ × Sa)) (flow : Flow) (ts : List Template) (slots : List ℕ) (i slot : ℕ) (src dst : Addr) (d : Template) (used : Ends)
    → i < length ts → used ≡ ends_used (get_or ts i d) src dst
    → Some slot ≡ slot_found (best_in (meets (Candidate (get_or ts i d) flow used.src used.dst)) es)
    → IsLed es flow ts slots i src dst → IsLed es flow ts (slots ++ slot ∷ []) (i + 1) used.src used.dst
led_used es flow ts slots i slot src dst d used within is found so =
    let t : Template = get_or ts i d in
    let best : IsBest (meets (Candidate t flow used.src used.dst)) es slot = best_there (meets (Candidate t flow used.src used.dst)) es slot found in
    let next = resolution (records_in es) flow (drop (i + 1) ts) (i + 1) used.src used.dst in
    let skipped = resolution (records_in es) flow (drop (i + 1) ts) (i + 1) src dst in
    let missing = wait_or_want (larval_for (records_in es) t flow used.src used.dst) t i used.src used.dst in
    record {
      hops = so.hops ++ hop_of best.state ∷ [];
      path = path_more es slots so.hops slot (hop_of best.state) so.path best.hop;
      rest = so.rest
          ∙ ap (ahead so.hops) (turn_at (records_in es) flow ts i src dst d used within is ∙ ap (λ o. through o (is_optional t.level) next skipped missing) best.best)
          ∙ ahead_behind so.hops (hop_of best.state) next;
    }

-- a template that is skipped: the addresses stay
pub led_skipped : (es : List (ℕ × Sa)) (flow : Flow) (ts : List Template) (slots : List ℕ) (i : ℕ) (src dst : Addr) (d : Template) (used : Ends)
    → i < length ts → used ≡ ends_used (get_or ts i d) src dst
    → None ≡ slot_found (best_in (meets (Candidate (get_or ts i d) flow used.src used.dst)) es)
    → is_optional (get_or ts i d).level ≡ true
    → IsLed es flow ts slots i src dst → IsLed es flow ts slots (i + 1) src dst
led_skipped es flow ts slots i src dst d used within is none optional so =
    let t : Template = get_or ts i d in
    let next = resolution (records_in es) flow (drop (i + 1) ts) (i + 1) used.src used.dst in
    let skipped = resolution (records_in es) flow (drop (i + 1) ts) (i + 1) src dst in
    let missing = wait_or_want (larval_for (records_in es) t flow used.src used.dst) t i used.src used.dst in
    record {
      hops = so.hops;
      path = so.path;
      rest = so.rest
          ∙ ap (ahead so.hops) (turn_at (records_in es) flow ts i src dst d used within is
          ∙ ap (λ o. through o (is_optional t.level) next skipped missing) (best_none (meets (Candidate t flow used.src used.dst)) es none)
          ∙ ap (λ b. through None b next skipped missing) optional);
    }

-- a required template without a state ends the walk
pub led_missing : (es : List (ℕ × Sa)) (flow : Flow) (ts : List Template) (slots : List ℕ) (i : ℕ) (src dst : Addr) (d : Template) (used : Ends) (r : Resolved)
    → i < length ts → used ≡ ends_used (get_or ts i d) src dst
    → None ≡ slot_found (best_in (meets (Candidate (get_or ts i d) flow used.src used.dst)) es)
    → is_optional (get_or ts i d).level ≡ false
    → IsLed es flow ts slots i src dst
    → IsResolved es r (wait_or_want (larval_for (records_in es) (get_or ts i d) flow used.src used.dst) (get_or ts i d) i used.src used.dst)
    → IsResolved es r (resolution (records_in es) flow ts 0 flow.src flow.dst)
led_missing es flow ts slots i src dst d used r within is none required so h =
    let t : Template = get_or ts i d in
    let next = resolution (records_in es) flow (drop (i + 1) ts) (i + 1) used.src used.dst in
    let skipped = resolution (records_in es) flow (drop (i + 1) ts) (i + 1) src dst in
    let missing = wait_or_want (larval_for (records_in es) t flow used.src used.dst) t i used.src used.dst in
    let whole : resolution (records_in es) flow ts 0 flow.src flow.dst ≡ missing =
    so.rest
    ∙ ap (ahead so.hops) (turn_at (records_in es) flow ts i src dst d used within is
    ∙ ap (λ o. through o (is_optional t.level) next skipped missing) (best_none (meets (Candidate t flow used.src used.dst)) es none)
    ∙ ap (λ b. through None b next skipped missing) required)
    ∙ ahead_wait so.hops (larval_for (records_in es) t flow used.src used.dst) t i used.src used.dst in
    subst (λ (x : Resolution). IsResolved es r x) (sym whole) h

-- no template is left
pub led_end : (es : List (ℕ × Sa)) (flow : Flow) (ts : List Template) (v : ArrayVec ℕ) (i : ℕ) (src dst : Addr) → drop i ts ≡ []
    → IsLed es flow ts v.items i src dst → IsResolved es (found.Path v) (resolution (records_in es) flow ts 0 flow.src flow.dst)
led_end es flow ts v i src dst done so =
    let whole : resolution (records_in es) flow ts 0 flow.src flow.dst ≡ Through so.hops =
    so.rest ∙ ap (λ us. ahead so.hops (resolution (records_in es) flow us i src dst)) done ∙ ap Through (append-nil so.hops) in
    subst (λ (x : Resolution). IsResolved es (found.Path v) x) (sym whole) so.path

-- ---- a template without a candidate

pub larval_waits : (a : StateArea) (image : List ℕ) (es : List (ℕ × Sa)) (t : Template) (flow : Flow) (src dst : Addr) (place slot seq : ℕ) → RecordsStand a image es
    → Some slot ≡ slot_found (latest_in (meets (Larval t flow src dst)) es) → seq ≡ seq_of (record_at a image slot)
    → IsResolved es (found.Waiting seq) (wait_or_want (larval_for (records_in es) t flow src dst) t place src dst)
larval_waits a image es t flow src dst place slot seq records is told =
    by (latest_in (meets (Larval t flow src dst)) es) refl is (latest_there a image (meets (Larval t flow src dst)) es records)
  where
    by : (o : Option (ℕ × Sa)) → latest_in (meets (Larval t flow src dst)) es ≡ o → Some slot ≡ slot_found o → IsThere a image (slot_found o) (record_found o)
        → IsResolved es (found.Waiting seq) (wait_or_want (larval_for (records_in es) t flow src dst) t place src dst)
    by None e k there = absurd (cc)
    by (Some x) e k there =
        let same : slot ≡ x.0 = cc in
        let larval : larval_for (records_in es) t flow src dst ≡ Some x.1 = sym (latest_record (meets (Larval t flow src dst)) es) ∙ ap record_found e in
        subst (λ (o : Option Sa). IsResolved es (found.Waiting seq) (wait_or_want o t place src dst)) (sym larval)
        (told ∙ ap seq_of (ap (record_at a image) same ∙ there))

pub larval_wants : (es : List (ℕ × Sa)) (t : Template) (flow : Flow) (src dst : Addr) (place : ℕ)
    → None ≡ slot_found (latest_in (meets (Larval t flow src dst)) es)
    → IsResolved es (found.Wanting place src dst) (wait_or_want (larval_for (records_in es) t flow src dst) t place src dst)
larval_wants es t flow src dst place is = by (latest_in (meets (Larval t flow src dst)) es) refl is
  where
    by : (o : Option (ℕ × Sa)) → latest_in (meets (Larval t flow src dst)) es ≡ o → None ≡ slot_found o
        → IsResolved es (found.Wanting place src dst) (wait_or_want (larval_for (records_in es) t flow src dst) t place src dst)
    by None e k =
        let none : larval_for (records_in es) t flow src dst ≡ None = sym (latest_record (meets (Larval t flow src dst)) es) ∙ ap record_found e in
        subst (λ (o : Option Sa). IsResolved es (found.Wanting place src dst) (wait_or_want o t place src dst)) (sym none) (refl, refl, refl)
    by (Some x) e k = absurd (cc)
