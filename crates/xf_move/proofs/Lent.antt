-- Words and values that a desk has, and those of its pass.
use Rattle.std.proofs.Common.{◌≡◌, ℕ, false, List, refl, sym, ap, ◌∙◌, subst}
use Rattle.xf_types.specs.declared.call.Call.{Call}
use Rattle.xf_types.specs.declared.call.Reply.{Reply}
use Rattle.xf_types.specs.declared.call.Reply.TheVariants as reply
use Rattle.xf_types.specs.Machine.{Machine}
use Rattle.xf_types.specs.Moves.{is_moving, says_soft}
use Rattle.xf_cells.specs.declared.one_pool.OnePool.{OnePool}
use Rattle.xf_sad.specs.Slots.{PoolFits, listed_in}
use Rattle.xf_rows.specs.declared.layout.Layout.{Layout}
use Rattle.xf_rows.specs.Fates.{says_ended}
use Rattle.xf_rows.specs.Replies.{Answers}
use Rattle.xf_rows.specs.Stands.{Stands}
use Rattle.xf_rows.specs.Values.{Beside}
use Rattle.xf_invariant.specs.Meaning.{told}
use Rattle.xf_meaning.specs.Good.{Good}
use Rattle.xf_meaning.specs.Places.{layout_of}
use Rattle.xf_meaning.proofs.Calling.{known}
use Rattle.xf_views.specs.declared.view.Start.{Start}
use Rattle.xf_values.specs.declared.state_value.StateValue.{StateValue}
use Rattle.xf_live.specs.Passes.{LiveView, PassView}
use Rattle.xf_statecalls.specs.Ready.{Stood}
use Rattle.xf_desk.specs.MarkLaws.{gives, takes}
use Rattle.xf_desk.specs.Pools.{IsFullPool}
use Rattle.xf_desk.specs.Values.{beside_of}
use Rattle.xf_desk.proofs.MarkLaws.{mark_laws}
use Rattle.xf_move.specs.OnSlot.{KnowsAll}

pub stands_by : (layout : Layout) (p s : ℕ) (i j : List ℕ) (b c : Beside) (m : Machine) → layout ≡ layout_of p s → j ≡ i → c ≡ b → Stands (layout_of p s) i b m
    → Stands layout j c m
stands_by layout p s i j b c m places words values st =
    subst (λ (l : Layout). Stands l j c m) (sym places) (subst (λ (w : List ℕ). Stands (layout_of p s) w c m) (sym words) (subst (λ (x : Beside). Stands (layout_of p s) i x m) (sym values) st))

pub answers_by : (layout : Layout) (p s : ℕ) (i j : List ℕ) (b c : Beside) (m : Machine) (k : Call) (r : Reply) → layout ≡ layout_of p s → j ≡ i → c ≡ b → Answers layout i b m k r
    → Answers (layout_of p s) j c m k r
answers_by layout p s i j b c m k r places words values a =
    subst (λ (l : Layout). Answers l j c m k r) places (subst (λ (w : List ℕ). Answers layout w c m k r) (sym words) (subst (λ (x : Beside). Answers layout i x m k r) (sym values) a))

pub stood_by : (layout : Layout) (p s : ℕ) (start : Start) (q : PassView StateValue) (j : List ℕ) (c : Beside) → layout ≡ layout_of p s → j ≡ q.view.image.words
    → c ≡ beside_of start q.values → KnowsAll p s start q → Stood layout j c
stood_by layout p s start q j c places words values k = record {
  machine = k.machine;
  stands =
      stands_by layout p s q.view.image.words j (beside_of start q.values) c k.machine places words values
      (known p s q.view.image.words q.view.own.turns (beside_of start q.values) k.machine k.ids k.known k.kept);
}

pub fits_by : (layout : Layout) (p s : ℕ) (start : Start) (q : PassView StateValue) (j : List ℕ) (pool : OnePool) → layout ≡ layout_of p s → j ≡ q.view.image.words
    → KnowsAll p s start q → IsFullPool p s j pool → PoolFits pool.capacity pool.live (gives pool) (takes pool) layout.states.slots (listed_in layout.states j)
fits_by layout p s start q j pool places words k full =
    subst (λ (l : Layout). PoolFits pool.capacity pool.live (gives pool) (takes pool) l.states.slots (listed_in l.states j)) (sym places)
    (mark_laws.full_states p s j (told k.machine.shown k.ids) pool (subst (λ (w : List ℕ). Good p s w (told k.machine.shown k.ids)) (sym words) k.known.good) full)

-- a reply that moves nothing says neither
pub goes_on : (r : Reply) → is_moving r ≡ false → (says_ended r ≡ false) × (says_soft r ≡ false)
goes_on reply.Done e = absurd cc
goes_on (reply.DoneIndex index) e = absurd cc
goes_on (reply.DoneSid sid) e = absurd cc
goes_on (reply.DoneSpi spi sid) e = absurd cc
goes_on (reply.Removed count) e = (refl, refl)
goes_on (reply.Acquire seq) e = absurd cc
goes_on reply.Expired e = absurd cc
goes_on (reply.Ticked now events) e = absurd cc
goes_on (reply.Accepted top soft) e = (refl, e)
goes_on (reply.BadIcv soft) e = (refl, e)
goes_on (reply.Sent proto spi seq soft) e = (refl, e)
goes_on (reply.Overflow soft) e = (refl, e)
goes_on other e = (refl, refl)

-- ---- what a desk has, by what its pass was

pub words_by : (j : List ℕ) (p q : PassView StateValue) → j ≡ p.view.image.words → p ≡ q → j ≡ q.view.image.words
words_by j p q same is = same ∙ ap (λ (x : PassView StateValue). x.view.image.words) is

pub values_by : (k l : LiveView) (n p q : PassView StateValue) → beside_of k.start n.values ≡ beside_of k.start p.values → p ≡ q → k ≡ l
    → beside_of k.start n.values ≡ beside_of l.start q.values
values_by k l n p q same is table = same ∙ ap (λ (x : PassView StateValue). beside_of k.start x.values) is ∙ ap (λ (x : LiveView). beside_of x.start q.values) table
