-- A pass with the turn that has its reply, and what it may draw then.
use Rattle.std.proofs.Common.{◌≡◌, ℕ, None, ◌<◌, ◌^◌, false, List, refl, sym, subst, arith}
use Rattle.xf_types.specs.declared.call.Call.{Call}
use Rattle.xf_types.specs.declared.call.Reply.{Reply}
use Rattle.xf_types.specs.Machine.{Shown}
use Rattle.xf_types.specs.Moves.{state_found}
use Rattle.xf_types.specs.Steps.{rule_of}
use Rattle.xf_views.specs.declared.view.LifeView.{LifeView}
use Rattle.xf_views.specs.declared.entry.Entry.{Entry}
use Rattle.xf_views.specs.Views.{view_after_leave}
use Rattle.xf_meaning.specs.Good.{Good}
use Rattle.xf_meaning.specs.Marks.{bucket_of}
use Rattle.xf_meaning.specs.Tells.{lists}
use Rattle.xf_values.specs.declared.state_value.StateValue.{StateValue}
use Rattle.xf_table.specs.Rows.{MayStay, IsHonestStay}
use Rattle.xf_table.specs.Plays.{Stayed}
use Rattle.xf_live.specs.Passes.{LiveView, PassView, IsHere, IsKept, knowing, me_of}
use Rattle.xf_live.specs.Calls.{Entered}
use Rattle.xf_desk.specs.Lending.{IsLent}
use Rattle.xf_desk.specs.Values.{beside_of}
use Rattle.xf_serve.specs.Served.{AreTold, HasSpare, IsTableOf, Rests, RepliesBy, Served}
use Rattle.xf_serve.specs.Reading.{OnlyReads}
use Rattle.xf_serve.specs.Settling.{SettledStill}
use Rattle.xf_serve.proofs.Calm.{IsCalm, reply_calm, still_honest, alone_honest}
use Rattle.xf_serve.proofs.Runs.{IsAsked, asked, told_on_entry, policies_of_pass, states_of_pass, left_served}

pub record IsAnswered (a q : PassView StateValue) (c : Call) (r : Reply) : Type 0 where
  pub asked : IsAsked a q false
  pub told : AreTold a.view.life.start.policies a.view.life.start.states q.view.image.words
  pub replies : RepliesBy a.view.life.start.policies a.view.life.start.states q.view.image.words c r
  pub calm : IsCalm r

pub answered : (p s : ℕ) (l : LiveView) (a b q : PassView StateValue) (c : Call) (r : Reply) → IsTableOf p s l → IsHere l a → Rests a → Entered Good lists a b
    → IsLent l.start.policies b q false → beside_of l.start q.values ≡ beside_of l.start b.values → OnlyReads c → RepliesBy p s b.view.image.words c r → IsAnswered a q c r
answered p s l a b q c r base here rest e lent beside reads says =
    let told : AreTold a.view.life.start.policies a.view.life.start.states q.view.image.words =
    subst (λ (i : List ℕ). AreTold a.view.life.start.policies a.view.life.start.states i) (sym (lent.before refl)) (told_on_entry a b e) in
    let replies : RepliesBy a.view.life.start.policies a.view.life.start.states q.view.image.words c r =
    subst (λ (n : ℕ). RepliesBy n a.view.life.start.states q.view.image.words c r) (sym (policies_of_pass p s l a base here))
    (subst (λ (n : ℕ). RepliesBy p n q.view.image.words c r) (sym (states_of_pass p s l a base here))
    (subst (λ (i : List ℕ). RepliesBy p s i c r) (sym (lent.before refl)) says)) in
    record {
      asked = asked l a b q false rest e lent beside;
      told = told;
      replies = replies;
      calm = reply_calm a.view.life.start.policies a.view.life.start.states q.view.image.words c r reads told replies;
    }

pub may_stay : (a q : PassView StateValue) (e : Entry) → HasSpare a → IsAnswered a q e.call e.reply → MayStay q.view e
may_stay a q e spare is = record {
  closed = record { turn = is.asked.turn; shut = is.asked.opened };
  trialless = is.asked.trial;
  room = let early : a.view.knows.count < 2 ^ 40 = spare.early in omega (arith, is.asked.count, early);
  stays = is.calm.still;
}

pub stays_honestly : (a q : PassView StateValue) (e : Entry) → OnlyReads e.call → IsAnswered a q e.call e.reply → IsHonestStay bucket_of Good lists q.view e
stays_honestly a q e reads is =
    still_honest q.view e reads
    (subst (λ (x : LifeView). RepliesBy x.start.policies x.start.states q.view.image.words e.call e.reply) (sym is.asked.life) is.replies)

pub served_still : (a q x d : PassView StateValue) (e : Entry) (n : ℕ) → IsAnswered a q e.call e.reply → IsKept q x → Stayed Good lists e n (me_of q) (me_of x)
    → d ≡ knowing x (view_after_leave x.view) → Served e.at e.call a d
served_still a q x d e n is kept stayed left =
    left_served e a d (record {
      asked = q;
      is = is.asked;
      drawn = x;
      number = n;
      kept = kept;
      stayed = stayed;
      left = left;
      still = is.calm.still;
      settled = is.calm.settled;
      told = is.told;
      replies = is.replies;
    })

-- ---- a call for no state that stored nothing

pub stored_nothing : (p s : ℕ) (l : LiveView) (a b q : PassView StateValue) (c : Call) (r : Reply) → IsTableOf p s l → IsHere l a → Rests a → Entered Good lists a b
    → IsLent l.start.policies b q false → beside_of l.start q.values ≡ beside_of l.start b.values → IsCalm r → RepliesBy p s b.view.image.words c r → IsAnswered a q c r
stored_nothing p s l a b q c r base here rest e lent beside calm says = record {
  asked = asked l a b q false rest e lent beside;
  told = subst (λ (i : List ℕ). AreTold a.view.life.start.policies a.view.life.start.states i) (sym (lent.before refl)) (told_on_entry a b e);
  replies =
      subst (λ (n : ℕ). RepliesBy n a.view.life.start.states q.view.image.words c r) (sym (policies_of_pass p s l a base here))
      (subst (λ (n : ℕ). RepliesBy p n q.view.image.words c r) (sym (states_of_pass p s l a base here))
      (subst (λ (i : List ℕ). RepliesBy p s i c r) (sym (lent.before refl)) says));
  calm = calm;
}

pub stays_alone : (a q : PassView StateValue) (e : Entry) → ((s : Shown) → state_found (rule_of s e.call) ≡ None) → IsAnswered a q e.call e.reply
    → IsHonestStay bucket_of Good lists q.view e
stays_alone a q e alone is =
    alone_honest q.view e alone
    (subst (λ (x : LifeView). RepliesBy x.start.policies x.start.states q.view.image.words e.call e.reply) (sym is.asked.life) is.replies)

pub served_settled : (a q d : PassView StateValue) (e : Entry) → IsAnswered a q e.call e.reply → SettledStill e q d → Served e.at e.call a d
served_settled a q d e is y = served_still a q y.drawn d e y.number is y.kept y.row y.left
