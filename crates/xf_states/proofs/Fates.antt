-- One of the states held is changed, refreshed, or meets its fate.
use Rattle.std.proofs.Common.{arith, ◌≡◌, ◌≢◌, ℕ, zero, suc, ◌<◌, Bool, true, false, not, List, [], ◌∷◌, ◌++◌, length, get_or, set, map, filter, refl, ap, sym, ◌∙◌, subst, All}
use Rattle.std.specs.Prelude.{IfSome, Some, slice_get}
use Rattle.std.specs.Option.{option_map}
use Rattle.std.proofs.Math.Seq.{map-set_same}
use Rattle.std.proofs.lemmas.Bool.{true≢false}
use Rattle.std.proofs.lemmas.List.{get_or_default, get_or-map, set-get_or, length-set, length-map}
use Rattle.std.proofs.lemmas.List.Elements.{All-filter}
use Rattle.std.proofs.lemmas.List.Kept.{AllPairs-filter}
use Rattle.std.proofs.lemmas.List.Quantifiers.{all_pairs_push}
use Rattle.std.proofs.lemmas.Option.{slice_get-map, slice_get-get_or}
use Rattle.xf_types.specs.declared.state.Sa.{Sa}
use Rattle.xf_types.specs.Machine.{Own}
use Rattle.xf_types.specs.OneState.{dying_if}
use Rattle.xf_types.specs.OwnParts.{new_own, own_put}
use Rattle.xf_types.specs.StateList.{has_sid, changed}
use Rattle.xf_types.specs.TrafficRules.{Fate, Same, Ends, Becomes, Treated}
use Rattle.xf_held.specs.View.{HeldView, fated, is_end, held}
use Rattle.xf_states.specs.Table.{TableView, table_of, table_without, table_changed, table_put, own_in_table, Puts}
use Rattle.xf_held.specs.Traffic.{Does}
use Rattle.xf_held.specs.declared.traffic.Treatment.{Treatment}
use Rattle.xf_states.proofs.Tables.{AreApart, changed-at, put-at, own_of-at}

-- ---- state ids stay apart

-- where one is changed that keeps its state id
sid-set : (hs : List HeldView) (i k : ℕ) (d new : HeldView) → i < length hs → new.state.sid ≡ (get_or hs i d).state.sid
    → (get_or (set hs i new) k d).state.sid ≡ (get_or hs k d).state.sid
sid-set [] i k d new within same = absurd (omega (arith, within))
sid-set (h ∷ hs) zero zero d new within same = same
sid-set (h ∷ hs) zero (suc k) d new within same = refl
sid-set (h ∷ hs) (suc i) zero d new within same = refl
sid-set (h ∷ hs) (suc i) (suc k) d new within same = sid-set hs i k d new (omega (arith, within)) same

pub AreApart-set : (hs : List HeldView) (place : ℕ) (h new : HeldView) → AreApart hs → place < length hs → h ≡ get_or hs place h
    → new.state.sid ≡ h.state.sid → AreApart (set hs place new)
AreApart-set hs place h new apart within at same i j d less end =
    let is : new.state.sid ≡ (get_or hs place d).state.sid =
    same ∙ ap (λ (x : HeldView). x.state.sid) (at ∙ get_or_default hs place h d within)
    in
    let inside : j < length hs = subst (λ n. j < n) (length-set hs place new) end in
    λ e. apart i j d less inside (sym (sid-set hs place i d new within is) ∙ e ∙ sid-set hs place j d new within is)

-- what holds of each state holds of what is held
All-held : (P : Sa → Type 0) (hs : List HeldView) → All P (map (λ (h : HeldView). h.state) hs) → All (λ h. P h.state) hs
All-held P hs all k d within =
    subst P (get_or-map (λ (h : HeldView). h.state) hs k d d.state within)
    (all k d.state (subst (λ n. k < n) (sym (length-map hs (λ (h : HeldView). h.state))) within))

-- where some leave and one with a greater state id comes
pub AreApart-replaced : (leaves : Sa → Bool) (hs : List HeldView) (new : HeldView) → AreApart hs
    → All (λ (s : Sa). s.sid < new.state.sid) (map (λ (h : HeldView). h.state) hs)
    → AreApart (filter (λ h. not (leaves h.state)) hs ++ new ∷ [])
AreApart-replaced leaves hs new apart less =
    all_pairs_push (λ (x y : HeldView). x.state.sid ≢ y.state.sid) (filter (λ (h : HeldView). not (leaves h.state)) hs) new
    (AllPairs-filter (λ (x y : HeldView). x.state.sid ≢ y.state.sid) (λ (h : HeldView). not (leaves h.state)) hs apart)
    (λ k d within e. absurd (omega (arith, e, All-filter (λ (h : HeldView). not (leaves h.state)) (λ (h : HeldView). h.state.sid < new.state.sid) hs (All-held (λ (s : Sa). s.sid < new.state.sid) hs less) k d within)))

-- ---- what is found at a place

-- the state at a place
pub state-at : (hs : List HeldView) (place : ℕ) (h : HeldView) → place < length hs → h ≡ get_or hs place h
    → slice_get (map (λ (x : HeldView). x.state) hs) place ≡ Some h.state
state-at hs place h within at =
    slice_get-map (λ (x : HeldView). x.state) hs place
    ∙ ap (λ o. option_map (λ (x : HeldView). x.state) o) (slice_get-get_or hs place h within)
    ∙ ap (λ (x : HeldView). Some x.state) (sym at)

-- its own part
pub own-at : (hs : List HeldView) (place : ℕ) (h : HeldView) → AreApart hs → place < length hs → h ≡ get_or hs place h
    → own_in_table (table_of hs) h.state ≡ h.own
own-at hs place h apart within at =
    subst (λ (x : HeldView). own_in_table (table_of hs) x.state ≡ x.own) (sym at)
    (own_of-at hs place h (new_own (get_or hs place h).state.spec) apart within)

-- ---- changes of the one at a place

pub table-changed : (change : Sa → Sa) (hs : List HeldView) (place : ℕ) (h new : HeldView) → AreApart hs → place < length hs
    → h ≡ get_or hs place h → new ≡ held (change h.state) h.own
    → table_of (set hs place new) ≡ table_changed h.state.sid change (table_of hs)
table-changed change hs place h new apart within at is =
    let same : map (λ (x : HeldView). x.own) (set hs place new) ≡ map (λ (x : HeldView). x.own) hs =
    map-set_same (λ (x : HeldView). x.own) hs place new h (ap (λ (x : HeldView). x.own) is ∙ ap (λ (x : HeldView). x.own) at)
    in
    let states : map (λ (x : HeldView). x.state) (set hs place new) ≡ changed h.state.sid change (map (λ (x : HeldView). x.state) hs) =
    changed-at change hs place h new apart within (ap (λ (x : HeldView). x.state) is ∙ ap (λ (x : HeldView). change x.state) at)
    ∙ ap (λ (x : HeldView). changed x.state.sid change (map (λ (y : HeldView). y.state) hs)) (sym at)
    in
    λ i. record { states = states i; own = same i }

-- the fate of the one at a place, where it doesn't end
table-fated : (fate : Fate) (hs : List HeldView) (place : ℕ) (h new : HeldView) → AreApart hs → place < length hs
    → h ≡ get_or hs place h → new ≡ fated h fate → is_end fate ≡ false
    → table_of (set hs place new) ≡ table_put (table_of hs) h.state fate
table-fated Same hs place h new apart within at is stays =
    ap (λ (x : HeldView). table_of (set hs place x)) (is ∙ at) ∙ ap table_of (set-get_or hs place h)
table-fated Ends hs place h new apart within at is stays = absurd (true≢false stays)
table-fated (Becomes soft own) hs place h new apart within at is stays =
    let states : map (λ (x : HeldView). x.state) (set hs place new) ≡ changed h.state.sid (dying_if soft) (map (λ (x : HeldView). x.state) hs) =
    changed-at (dying_if soft) hs place h new apart within (ap (λ (x : HeldView). x.state) is ∙ ap (λ (x : HeldView). dying_if soft x.state) at)
    ∙ ap (λ (x : HeldView). changed x.state.sid (dying_if soft) (map (λ (y : HeldView). y.state) hs)) (sym at)
    in
    let owns : map (λ (x : HeldView). x.own) (set hs place new) ≡ own_put h.state.sid own (map (λ (x : HeldView). x.state) hs) (map (λ (x : HeldView). x.own) hs) =
    put-at hs place h new apart within
    ∙ ap (λ (x : HeldView). own_put x.state.sid new.own (map (λ (y : HeldView). y.state) hs) (map (λ (y : HeldView). y.own) hs)) (sym at)
    ∙ ap (λ o. own_put h.state.sid o (map (λ (y : HeldView). y.state) hs) (map (λ (y : HeldView). y.own) hs)) (ap (λ (x : HeldView). x.own) is)
    in
    λ i. record { states = states i; own = owns i }

-- and where it ends: it was not changed
table-ended : (fate : Fate) (hs : List HeldView) (place : ℕ) (h new : HeldView) → h ≡ get_or hs place h → new ≡ fated h fate
    → is_end fate ≡ true
    → table_without (has_sid h.state.sid) (table_of (set hs place new)) ≡ table_put (table_of hs) h.state fate
table-ended Same hs place h new at is ends = absurd (true≢false (sym ends))
table-ended Ends hs place h new at is ends =
    ap (λ hs'. table_without (has_sid h.state.sid) (table_of hs')) (ap (set hs place) (is ∙ at) ∙ set-get_or hs place h)
table-ended (Becomes soft own) hs place h new at is ends = absurd (true≢false (sym ends))

-- a fate keeps the state id
pub sid-fated : (h : HeldView) (fate : Fate) → (fated h fate).state.sid ≡ h.state.sid
sid-fated h Same = refl
sid-fated h Ends = refl
sid-fated h (Becomes true own) = refl
sid-fated h (Becomes false own) = refl

-- what the one at a place did is done in the table
puts-held : (hs : List HeldView) (place : ℕ) (h new : HeldView) (rule : Sa → Own → Treated) (did : Treatment) (after : TableView)
    → AreApart hs → place < length hs → h ≡ get_or hs place h → Does did h new (rule h.state h.own)
    → (did.ends ≡ true → after ≡ table_without (has_sid h.state.sid) (table_of (set hs place new)))
    → (did.ends ≡ false → after ≡ table_of (set hs place new))
    → Puts did.reply (table_of hs) after h.state (rule h.state h.own)
puts-held hs place h new rule did after apart within at does ends stays =
    let fate = (rule h.state h.own).fate in
    record {
      is_reply = does.reply;
      is_put =
          elim did.ends as (λ b. did.ends ≡ b → after ≡ table_put (table_of hs) h.state fate) [
            | true ↦ (λ e. ends e ∙ table-ended fate hs place h new at does.state (sym does.ends ∙ e))
            | false ↦ (λ e. stays e ∙ table-fated fate hs place h new apart within at does.state (sym does.ends ∙ e))
          ] refl;
    }

pub puts-at : (hs : List HeldView) (t : TableView) (place : ℕ) (h new : HeldView) (rule : Sa → Own → Treated) (did : Treatment) (after : TableView)
    → table_of hs ≡ t → AreApart hs → place < length hs → h ≡ get_or hs place h → Does did h new (rule h.state h.own)
    → (did.ends ≡ true → after ≡ table_without (has_sid h.state.sid) (table_of (set hs place new)))
    → (did.ends ≡ false → after ≡ table_of (set hs place new))
    → IfSome (slice_get t.states place) (λ s. Puts did.reply t after s (rule s (own_in_table t s)))
puts-at hs t place h new rule did after is_t apart within at does ends stays =
    subst (λ (u : TableView). IfSome (slice_get u.states place) (λ s. Puts did.reply u after s (rule s (own_in_table u s)))) is_t
    (subst (λ o. IfSome o (λ s. Puts did.reply (table_of hs) after s (rule s (own_in_table (table_of hs) s)))) (sym (state-at hs place h within at))
    (subst (λ (o : Own). Puts did.reply (table_of hs) after h.state (rule h.state o)) (sym (own-at hs place h apart within at))
    (puts-held hs place h new rule did after apart within at does ends stays)))

-- a state at a place is refreshed
pub changes-at : (change : Sa → Sa) (hs : List HeldView) (t : TableView) (place : ℕ) (h new : HeldView) → table_of hs ≡ t
    → AreApart hs → place < length hs → h ≡ get_or hs place h → new ≡ held (change h.state) h.own
    → IfSome (slice_get t.states place) (λ s. table_of (set hs place new) ≡ table_changed s.sid change t)
changes-at change hs t place h new is_t apart within at is =
    subst (λ (u : TableView). IfSome (slice_get u.states place) (λ s. table_of (set hs place new) ≡ table_changed s.sid change u)) is_t
    (subst (λ o. IfSome o (λ s. table_of (set hs place new) ≡ table_changed s.sid change (table_of hs))) (sym (state-at hs place h within at))
    (table-changed change hs place h new apart within at is))
