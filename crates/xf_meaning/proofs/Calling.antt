-- From what a call over words and values answers to an honest receipt, and to what is known after it.
use Rattle.std.proofs.Common.{◌≡◌, ℕ, zero, suc, ◌<◌, true, false, List, refl, sym, ap, ◌∙◌, subst, arith, Option, Some, None, option_map, lt-ltb}
use Rattle.xf_types.specs.declared.call.Call.{Call}
use Rattle.xf_types.specs.declared.call.Receipt.{Receipt}
use Rattle.xf_types.specs.declared.call.Reply.{Reply}
use Rattle.xf_types.specs.declared.call.Reply.TheVariants as reply
use Rattle.xf_types.specs.declared.state.Sa.{Sa}
use Rattle.xf_types.specs.ChangeIds.{ChangeIds}
use Rattle.xf_types.specs.Machine.{Machine, Own, Shown}
use Rattle.xf_types.specs.IsMachine.{IsMachine, IsShownPart}
use Rattle.xf_types.specs.Moves.{is_moving}
use Rattle.xf_types.specs.History.{is_exception}
use Rattle.xf_types.specs.OwnParts.{own_in}
use Rattle.xf_types.specs.Steps.{step}
use Rattle.xf_local.specs.View.{LiveView, Live, standing_of as value_standing}
use Rattle.xf_rows.specs.Values.{Beside, at}
use Rattle.xf_rows.specs.Stands.{Stands}
use Rattle.xf_rows.specs.Replies.{Answers, IsReplyOf}
use Rattle.xf_views.specs.declared.entry.Listed.{Listed}
use Rattle.xf_views.specs.declared.view.View.{View}
use Rattle.xf_views.specs.declared.view.SlotTurn.{SlotTurn}
use Rattle.xf_invariant.specs.Meaning.{Told, told}
use Rattle.xf_invariant.specs.PinPart.{Has}
use Rattle.xf_ownpart.specs.OwnPart.{listing, listed_at, standing_of, with_own}
use Rattle.xf_ownpart.specs.Turns.{Keeps}
use Rattle.xf_ownpart.proofs.Slots.{standing-one, listed-back}
use Rattle.xf_legalpart.specs.Honest.{HasKept, IsForKept, ListsKept, MoveIsHonest, StillIsHonest}
use Rattle.xf_legalpart.specs.Honest as honest
use Rattle.xf_meaning.specs.Places.{layout_of}
use Rattle.xf_meaning.specs.Good.{Good}
use Rattle.xf_meaning.specs.Tells.{lists}
use Rattle.xf_meaning.specs.Beside.{AreBeside}
use Rattle.xf_meaning.specs.Calls.{AreKept, IsKnown, AnswersAll}
use Rattle.xf_meaning.proofs.GoodWords.{good_stands, certain}

-- ---- what turns keep, and what the image lists with a machine's own parts

-- a turn that keeps what the image lists, whose own part the machine has
pub kept_listed : (p s : ℕ) (image : List ℕ) (m : Machine) (turns : List SlotTurn) → HasKept turns m → ListsKept (Good p s) (lists p s) image turns
    → (e : SlotTurn) → Has turns e → listed_at (lists p s) m image e.slot ≡ e.listed
kept_listed p s image m turns has kept e there = by e.listed refl
  where
    by : (o : Option Listed) → e.listed ≡ o → listed_at (lists p s) m image e.slot ≡ e.listed
    by None is =
        ap (λ (x : Option (Sa × ℕ)). option_map (with_own m) x) (kept e there ∙ ap (λ (x : Option Listed). option_map (λ (l : Listed). (l.state, l.time)) x) is) ∙ sym is
    by (Some l) is =
        ap (λ (x : Option (Sa × ℕ)). option_map (with_own m) x) (kept e there ∙ ap (λ (x : Option Listed). option_map (λ (l : Listed). (l.state, l.time)) x) is)
        ∙ ap (λ (o : Own). Some (listing l.state l.time o)) (has l (record { turn = e; held = there; is = is })) ∙ sym is

-- and the other way round
pub record AreListed (p s : ℕ) (image : List ℕ) (m : Machine) (turns : List SlotTurn) : Type 0 where
  pub each : (e : SlotTurn) → Has turns e → listed_at (lists p s) m image e.slot ≡ e.listed

pub has_kept : (p s : ℕ) (image : List ℕ) (m : Machine) (turns : List SlotTurn) → AreListed p s image m turns → HasKept turns m
has_kept p s image m turns all l k =
    let back = listed-back (lists p s) m image k.turn.slot l (all.each k.turn k.held ∙ k.is) in
    ap (λ (z : Listed). own_in m z.state) (sym back.2) ∙ ap (λ (z : Listed). z.own) back.2

pub lists_kept : (p s : ℕ) (image : List ℕ) (m : Machine) (turns : List SlotTurn) → AreListed p s image m turns → ListsKept (Good p s) (lists p s) image turns
lists_kept p s image m turns all e there =
    by (lists p s image e.slot) ∙ ap (λ (x : Option Listed). option_map (λ (l : Listed). (l.state, l.time)) x) (all.each e there)
  where
    by : (o : Option (Sa × ℕ)) → o ≡ option_map (λ (l : Listed). (l.state, l.time)) (option_map (with_own m) o)
    by None = refl
    by (Some x) = refl

-- the values are beside the words
pub kept_beside : (p s : ℕ) (image : List ℕ) (m : Machine) (turns : List SlotTurn) (b : Beside) → HasKept turns m → ListsKept (Good p s) (lists p s) image turns
    → AreKept p s turns b → AreBeside p s image m b
kept_beside p s image m turns b has kept are = record {
  count = are.count;
  held = λ slot l h.
      let e = are.held slot l h in
      e.3 ∙ ap (λ (o : Option Listed). standing_of o) (sym (kept_listed p s image m turns has kept e.0 e.1)) ∙ ap (λ (k : ℕ). standing_of (listed_at (lists p s) m image k)) e.2;
}

pub known : (p s : ℕ) (image : List ℕ) (turns : List SlotTurn) (b : Beside) (m : Machine) (ids : ChangeIds) → IsKnown p s image turns m ids → AreKept p s turns b
    → Stands (layout_of p s) image b m
known p s image turns b m ids k are = good_stands p s image (told m.shown ids) k.good m k.machine refl b (kept_beside p s image m turns b k.kept k.listed are)

pub kept : (p s : ℕ) (turns : List SlotTurn) (b : Beside) (slot : ℕ) (l : LiveView) → AreKept p s turns b → slot < s → b.held slot ≡ true → at b slot ≡ Live l
    → Keeps turns (listing l.state l.time l.own)
kept p s turns b slot l are low h is =
    let e = are.held slot low h in
    record {
      turn = e.0;
      held = e.1;
      is = sym (standing-one (Some (listing l.state l.time l.own)) e.0.listed (sym (ap value_standing is) ∙ e.3));
    }

-- ---- replies

-- a reply that moves is no exception
pub ours : (x : Reply) → is_moving x ≡ true → is_exception x ≡ false
ours (reply.Again tries) e = absurd cc
ours reply.NoMemory e = absurd cc
ours (reply.Full live waiting) e = absurd cc
ours x e = refl

-- a reply that is none is the machine's
pub reply_is : (m : Machine) (c : Call) (x : Reply) → IsReplyOf m c x → is_exception x ≡ false → x ≡ (step m c).reply
reply_is m c (reply.Again tries) h e = absurd h
reply_is m c reply.NoMemory h e = absurd cc
reply_is m c (reply.Full live zero) h e = h
reply_is m c (reply.Full live (suc waiting)) h e = absurd (let t : is_exception (reply.Full live (suc waiting)) ≡ true = lt-ltb 0 (suc waiting) (omega arith) in cc)
reply_is m c x h e = h

-- each machine that the known one may be shows the same
module _ (p s : ℕ) (image : List ℕ) (turns : List SlotTurn) (b : Beside) (m : Machine) (ids : ChangeIds) (k : IsKnown p s image turns m ids) (are : AreKept p s turns b) where
  pub shown_same : (t : Told) → IsShownPart t.shown → Good p s image t → m.shown ≡ t.shown
  shown_same t sh g = certain p s image (told m.shown ids) t k.machine.shown sh k.good g

  pub stands_for : (n : Machine) (t : Told) → IsMachine n → t.shown ≡ n.shown → Good p s image t → HasKept turns n → Stands (layout_of p s) image b n
  stands_for n t is same g has = good_stands p s image t g n is same b (kept_beside p s image n turns b has k.listed are)

  pub answers_honestly : (new : List ℕ) (c : Beside) (r : Receipt) → is_exception r.reply ≡ false → AnswersAll p s image b new c r.call r.reply → IsForKept turns m.shown r.call
      → (n : Machine) (t : Told) → IsMachine n → t.shown ≡ n.shown → Good p s image t → HasKept turns n → honest.Answers turns n r
  answers_honestly new c r out all for n t is same g has = record {
    reply = reply_is n r.call r.reply (Answers.is_reply (all n (stands_for n t is same g has))) out;
    kept = subst (λ (x : Shown). IsForKept turns x r.call) (shown_same t (subst IsShownPart (sym same) is.shown) g ∙ same) for;
  }

pub move_honest : (p s : ℕ) (v : View) (b c : Beside) (m : Machine) (ids : ChangeIds) (r : Receipt) → IsKnown p s v.image.kept v.own.turns m ids
    → AreKept p s v.own.turns b → is_moving r.reply ≡ true → AnswersAll p s v.image.kept b v.image.words c r.call r.reply
    → IsForKept v.own.turns m.shown r.call → MoveIsHonest (Good p s) (lists p s) v r
move_honest p s v b c m ids r k are moving all for = answers_honestly p s v.image.kept v.own.turns b m ids k are v.image.words c r (ours r.reply moving) all for

pub still_honest : (p s : ℕ) (v : View) (b c : Beside) (m : Machine) (ids : ChangeIds) (r : Receipt) → IsKnown p s v.image.words v.own.turns m ids
    → AreKept p s v.own.turns b → is_exception r.reply ≡ false → AnswersAll p s v.image.words b v.image.words c r.call r.reply
    → IsForKept v.own.turns m.shown r.call → StillIsHonest (Good p s) (lists p s) v r
still_honest p s v b c m ids r k are out all for = answers_honestly p s v.image.words v.own.turns b m ids k are v.image.words c r out all for
