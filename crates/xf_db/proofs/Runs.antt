-- A call that is served, as the database has it.
use Rattle.std.proofs.Common.{◌≡◌, ℕ, ◌+◌, ◌<◌, List, [], ◌∷◌, ◌++◌, length, sym, ap, ◌∙◌, subst, arith, length-append}
use Rattle.xf_types.specs.declared.call.Call.{Call}
use Rattle.xf_types.specs.declared.call.Place.{Place}
use Rattle.xf_types.specs.declared.call.Receipt.{Receipt}
use Rattle.xf_views.specs.declared.view.Start.{Start}
use Rattle.xf_values.specs.declared.state_value.StateValue.{StateValue}
use Rattle.xf_meaning.specs.Places.{size_of}
use Rattle.xf_opening.specs.Images.{AreSizes}
use Rattle.xf_live.specs.Passes.{LiveView, PassView, IsHere, life_of}
use Rattle.xf_serve.specs.Served.{IsTableOf, Rests, Served}
use Rattle.xf_db.specs.Calls.{Records}
use Rattle.xf_db.specs.Passes.{IsBase, IsResting, pass_over}

-- the table that a database stands on
pub table_of : (p s : ℕ) (l : LiveView) → IsBase p s l → IsTableOf p s l
table_of p s l base =
    let of_start : AreSizes l.start.policies l.start.states = base.start.rests.sizes in
    let sizes : AreSizes p s =
    subst (λ (n : ℕ). AreSizes n s) base.start.policies_are (subst (λ (n : ℕ). AreSizes l.start.policies n) base.start.states_are of_start) in
    let words : length l.start.words ≡ size_of p s =
    base.start.rests.stands.good.size ∙ (ap (λ (n : ℕ). size_of n l.start.states) base.start.policies_are ∙ ap (λ (n : ℕ). size_of p n) base.start.states_are) in
    record {
      policies_are = base.start.policies_are;
      states_are = base.start.states_are;
      some_policies = sizes.some_policies;
      most_policies = sizes.most_policies;
      some_states = sizes.some_states;
      most_states = sizes.most_states;
      count = base.count ∙ words;
      words = words;
    }

pub rests_from : (p : PassView StateValue) → IsResting p → Rests p
rests_from p rest = record { idle = rest.idle; values = rest.values }

-- the pass rests again
pub rests_again : (at : Place) (c : Call) (l : LiveView) (p q : PassView StateValue) → Served at c p q → IsHere l q → IsResting q
rests_again at c l p q served here = record {
  life = here.life ∙ ap (λ (s : Start). life_of s q.view.worker) (sym (ap (λ life. life.start) here.life));
  idle = served.rests.idle;
  values = served.rests.values;
}

-- and recorded its call
pub records : (at : Place) (c : Call) (p q : PassView StateValue) → Served at c p q → length p.view.knows.mine < p.room → Records at c (pass_over p) (pass_over q)
records at c p q served room =
    let size : length q.view.knows.mine ≡ length p.view.knows.mine + 1 =
    ap (λ (rs : List Receipt). length rs) served.receipts ∙ length-append p.view.knows.mine (served.receipt ∷ []) in
    let rooms = served.room in
    record {
      receipt = served.receipt;
      at_is = served.at_is;
      call_is = served.call_is;
      worker = served.worker_is;
      settled = served.settled;
      later = served.later;
      receipts = served.receipts;
      database = λ i. record { table = served.table i; start = (served.life i).start };
      number = served.worker;
      spare = omega (arith, rooms, size, room);
      drawn = served.drawn;
    }
