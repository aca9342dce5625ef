-- A walk that changes the list goes on.
use Rattle.std.proofs.Common.{◌≡◌, ℕ, ◌+◌, ◌-◌, ◌≤◌, Bool, true, false, not, cond, List, [], ◌∷◌, ◌++◌, Option, None, Some, length, map, refl, ap, sym, ◌∙◌, subst, arith, append_assoc, if◌then◌else◌}
use Rattle.std.specs.Prelude.{count_by, is_some}
use Rattle.std.proofs.lemmas.List.Sums.{sum_by-cons}
use Rattle.xf_types.specs.declared.call.Event.TheVariants.{PolicySoft, PolicyExpired}
use Rattle.xf_types.specs.declared.network.Ptype.{Ptype}
use Rattle.xf_types.specs.declared.policy.Policy.{Policy}
use Rattle.xf_types.specs.declared.policy.PolicyFilter.{PolicyFilter}
use Rattle.xf_types.specs.Machine.{Shown}
use Rattle.xf_types.specs.PolicyList.{policy_meets, without}
use Rattle.xf_types.specs.Same.{meets_one, same_ptype}
use Rattle.xf_types.specs.TickRules.{policy_ends, policy_warns, soft_if}
use Rattle.xf_records.specs.Policies.{warned}
use Rattle.xf_chain.specs.Lists.{first_of}
use Rattle.xf_index.specs.Indexes.{slots_in, records_in}
use Rattle.xf_index.proofs.Entries.{slots_append, records_append}
use Rattle.xf_image.specs.declared.area.PolicyArea.{PolicyArea}
use Rattle.xf_image.specs.Entries.{entries_without, slot_left, slot_warned, with_policies, IsEntry}
use Rattle.xf_image.specs.Readings.{listed_in}
use Rattle.xf_image.proofs.Listed.{listed_is}
use Rattle.xf_image.proofs.Parts.{left_is, warned_is}
use Rattle.xf_inexact.specs.Whole.{SpdStands}
use Rattle.xf_spd.specs.Slots.{PoolFits}
use Rattle.xf_spd.proofs.Alone.{parts_miss}
use Rattle.xf_spd.proofs.Fitting.{entry_back}
use Rattle.xf_policies.specs.declared.sweep.Sweep.{Sweep}
use Rattle.xf_policies.specs.declared.sweep.Sweep.TheVariants.{Admitted, OfPtype, Later}
use Rattle.xf_policies.specs.declared.sweep.Fate.{Fate}
use Rattle.xf_policies.specs.declared.sweep.Fate.TheVariants.{Stays, Warned, Gone}
use Rattle.xf_policies.specs.Sweeps.{leaves, warns, changes, fate_by, fate_of, changes_of, left_of, entries_swept, swept}
use Rattle.xf_cells.specs.Backs.{TakesBack, Lasts, TakesAny}
use Rattle.xf_policies.specs.Standing.{StandsWith, Stood, Started, Moves, Passes, Sweeping, IsSwept}
use Rattle.xf_policies.proofs.Cursors.{entries_few, same_slot, no_more, none_comes, records_nil, entries_nil}

-- ---- one policy

pub entry_between : (front back : List (ℕ × Policy)) (slot : ℕ) (p : Policy) → IsEntry (front ++ ((slot, p) ∷ back)) slot p
entry_between front back slot p = record { front = front; behind = back; whole = refl }

pub left_between : (a : PolicyArea) (words image : List ℕ) (s : Shown) (front back : List (ℕ × Policy)) (slot : ℕ) (p : Policy)
    → StandsWith a words s (front ++ ((slot, p) ∷ back)) → StandsWith a image s (slot_left slot (front ++ ((slot, p) ∷ back))) → StandsWith a image s (front ++ back)
left_between a words image s front back slot p st new =
    let m = parts_miss a words (with_policies s (records_in (front ++ ((slot, p) ∷ back)))) slot p front back st in
    subst (λ (es : List (ℕ × Policy)). StandsWith a image s es) (left_is slot p front back m.0 m.1) new

pub warned_between : (a : PolicyArea) (words image : List ℕ) (s : Shown) (front back : List (ℕ × Policy)) (slot : ℕ) (p : Policy)
    → StandsWith a words s (front ++ ((slot, p) ∷ back)) → StandsWith a image s (slot_warned slot (front ++ ((slot, p) ∷ back)))
    → StandsWith a image s (front ++ ((slot, warned p) ∷ back))
warned_between a words image s front back slot p st new =
    let m = parts_miss a words (with_policies s (records_in (front ++ ((slot, p) ∷ back)))) slot p front back st in
    subst (λ (es : List (ℕ × Policy)). StandsWith a image s es) (warned_is slot p front back m.0 m.1) new

pub warned_slots : (a : PolicyArea) (words image : List ℕ) (s : Shown) (front back : List (ℕ × Policy)) (slot : ℕ) (p : Policy)
    → StandsWith a words s (front ++ ((slot, p) ∷ back)) → StandsWith a image s (front ++ ((slot, warned p) ∷ back)) → listed_in a image ≡ listed_in a words
warned_slots a words image s front back slot p st new =
    listed_is a image _ (front ++ ((slot, warned p) ∷ back)) new.list
    ∙ (slots_append front ((slot, warned p) ∷ back) ∙ (sym (slots_append front ((slot, p) ∷ back)) ∙ sym (listed_is a words _ (front ++ ((slot, p) ∷ back)) st.list)))

-- ---- what a walk makes of one more

swept_by : (l w : Bool) (slot : ℕ) (p : Policy) (ps : List Policy) (g : Policy → Policy) → g p ≡ soft_if w p
    → map g (cond (not l) (p ∷ ps) ps) ≡ records_in (left_of (fate_by l w) slot p) ++ map g ps
swept_by true w slot p ps g e = refl
swept_by false true slot p ps g e = ap (λ (q : Policy). q ∷ map g ps) e
swept_by false false slot p ps g e = ap (λ (q : Policy). q ∷ map g ps) e

swept_more : (what : Sweep) (slot : ℕ) (p : Policy) (ps : List Policy) → swept what (p ∷ ps) ≡ records_in (left_of (fate_of what p) slot p) ++ swept what ps
swept_more what slot p ps = swept_by (leaves what p) (warns what p) slot p (without (leaves what) ps) (λ q. soft_if (warns what q) q) refl

removal_counts : (l : Bool) → cond {A = ℕ} l 1 0 ≡ changes_of (fate_by l false)
removal_counts true = refl
removal_counts false = refl

event_counts : (l w : Bool) (index : ℕ) → cond {A = ℕ} (is_some (if l then Some (PolicyExpired index) else if w then Some (PolicySoft index) else None)) 1 0 ≡ changes_of (fate_by l w)
event_counts true w index = refl
event_counts false true index = refl
event_counts false false index = refl

pub change_counts : (what : Sweep) (p : Policy) → cond {A = ℕ} (changes what p) 1 0 ≡ changes_of (fate_of what p)
change_counts (Admitted f) p = removal_counts (policy_meets f p)
change_counts (OfPtype ptype) p = removal_counts (meets_one same_ptype ptype p.spec.ptype)
change_counts (Later now) p = event_counts (policy_ends now p) (policy_warns now p) p.index

-- ---- the walk begins

pub sweeping_begins : (a : PolicyArea) (words : List ℕ) (what : Sweep) (s : Shown) (es : List (ℕ × Policy)) (at : Option ℕ) → SpdStands a words s es → at ≡ first_of (slots_in es)
    → Sweeping a words what s es at a.slots 0
sweeping_begins a words what s es at st first = record {
  front = [];
  back = es;
  at_is = first;
  left_is = entries_few a words s es st;
  stands = subst (λ (ps : List Policy). SpdStands a words (with_policies s ps) es) (sym st.list.listed) st;
  kept = refl;
  passed = ap (λ (ps : List Policy). swept what ps) st.list.listed;
  counted = (let c : count_by (changes what) (records_in es) ≡ count_by (changes what) s.policies = ap (λ (ps : List Policy). count_by (changes what) ps) st.list.listed in omega (arith, c));
}

-- ---- it goes on

going : (a : PolicyArea) (image : List ℕ) (what : Sweep) (s : Shown) (slot : ℕ) (next : Option ℕ) (left count : ℕ) (es front back : List (ℕ × Policy)) (p : Policy) (fate : Fate)
    → length back + 1 ≤ left → front ++ entries_swept what ((slot, p) ∷ back) ≡ entries_swept what es → records_in front ++ swept what (p ∷ records_in back) ≡ swept what s.policies
    → count + count_by (changes what) (p ∷ records_in back) ≡ count_by (changes what) s.policies → next ≡ first_of (slots_in back)
    → Passes a image s front slot p back what fate → Sweeping a image what s es next (left - 1) (count + changes_of fate)
going a image what s slot next left count es front back p fate len kept all counts at d =
    let one : swept what (p ∷ records_in back) ≡ records_in (left_of fate slot p) ++ swept what (records_in back) =
    swept_more what slot p (records_in back) ∙ ap (λ (f : Fate). records_in (left_of f slot p) ++ swept what (records_in back)) (sym d.fate_is) in
    let more : count_by (changes what) (p ∷ records_in back) ≡ cond {A = ℕ} (changes what p) 1 0 + count_by (changes what) (records_in back) = sum_by-cons (λ q. cond (changes what q) 1 0) p (records_in back) in
    let this : cond {A = ℕ} (changes what p) 1 0 ≡ changes_of fate = change_counts what p ∙ ap (λ (f : Fate). changes_of f) (sym d.fate_is) in
    record {
      front = front ++ left_of fate slot p;
      back = back;
      at_is = at;
      left_is = omega (arith, len);
      stands = subst (λ (es : List (ℕ × Policy)). StandsWith a image s es) (sym (append_assoc front (left_of fate slot p) back)) d.stands;
      kept = append_assoc front (left_of fate slot p) (entries_swept what back)
          ∙ (ap (λ (f : Fate). front ++ (left_of f slot p ++ entries_swept what back)) d.fate_is ∙ kept);
      passed = ap (λ (l : List Policy). l ++ swept what (records_in back)) (records_append front (left_of fate slot p))
          ∙ (append_assoc (records_in front) (records_in (left_of fate slot p)) (swept what (records_in back)) ∙ (ap (λ (l : List Policy). records_in front ++ l) (sym one) ∙ all));
      counted = omega (arith, counts, more, this);
    }

going_by : (a : PolicyArea) (words image : List ℕ) (what : Sweep) (s : Shown) (slot : ℕ) (next : Option ℕ) (left count : ℕ) (fate : Fate) (es front back : List (ℕ × Policy))
    → Some slot ≡ first_of (slots_in back) → length back ≤ left → StandsWith a words s (front ++ back)
    → front ++ entries_swept what back ≡ entries_swept what es
    → records_in front ++ swept what (records_in back) ≡ swept what s.policies → count + count_by (changes what) (records_in back) ≡ count_by (changes what) s.policies
    → ((t : Shown) (front back : List (ℕ × Policy)) (p : Policy) → SpdStands a words t (front ++ ((slot, p) ∷ back)) → next ≡ first_of (slots_in back))
    → ((t : Shown) (front back : List (ℕ × Policy)) (p : Policy) → StandsWith a words t (front ++ ((slot, p) ∷ back)) → Passes a image t front slot p back what fate)
    → Sweeping a image what s es next (left - 1) (count + changes_of fate)
going_by a words image what s slot next left count fate es front [] e len st kept all counts at pass = absurd (cc)
going_by a words image what s slot next left count fate es front (x ∷ back) e len st kept all counts at pass =
    let own : x.0 ≡ slot = sym (same_slot slot x.0 e) in
    let old : StandsWith a words s (front ++ ((slot, x.1) ∷ back)) = subst (λ (n : ℕ). StandsWith a words s (front ++ ((n, x.1) ∷ back))) own st in
    going a image what s slot next left count es front back x.1 fate (omega (arith, len))
    (subst (λ (n : ℕ). front ++ (left_of (fate_of what x.1) n x.1 ++ entries_swept what back) ≡ entries_swept what es) own kept) all counts
    (at (with_policies s (records_in (front ++ ((slot, x.1) ∷ back)))) front back x.1 old) (pass s front back x.1 old)

pub sweeping_goes : (a : PolicyArea) (words image : List ℕ) (what : Sweep) (s : Shown) (slot : ℕ) (next : Option ℕ) (left count : ℕ) (fate : Fate) (es : List (ℕ × Policy)) → Sweeping a words what s es (Some slot) left count
    → ((t : Shown) (front back : List (ℕ × Policy)) (p : Policy) → SpdStands a words t (front ++ ((slot, p) ∷ back)) → next ≡ first_of (slots_in back))
    → ((t : Shown) (front back : List (ℕ × Policy)) (p : Policy) → StandsWith a words t (front ++ ((slot, p) ∷ back)) → Passes a image t front slot p back what fate)
    → Sweeping a image what s es next (left - 1) (count + changes_of fate)
sweeping_goes a words image what s slot next left count fate es k at pass =
    going_by a words image what s slot next left count fate es k.front k.back k.at_is k.left_is k.stands k.kept k.passed k.counted at pass

-- ---- a policy stands in the slot that comes next

-- It stands between others.
pub record Between (a : PolicyArea) (words : List ℕ) (slot : ℕ) : Type 0 where
  pub shown : Shown
  pub front : List (ℕ × Policy)
  pub back : List (ℕ × Policy)
  pub policy : Policy
  pub stands : StandsWith a words shown (front ++ ((slot, policy) ∷ back))

comes_by : (a : PolicyArea) (words : List ℕ) (s : Shown) (slot : ℕ) (front back : List (ℕ × Policy)) → Some slot ≡ first_of (slots_in back) → StandsWith a words s (front ++ back) → Between a words slot
comes_by a words s slot front [] e st = absurd (cc)
comes_by a words s slot front (x ∷ back) e st =
    let own : x.0 ≡ slot = sym (same_slot slot x.0 e) in
    record {
      shown = s;
      front = front;
      back = back;
      policy = x.1;
      stands = subst (λ (n : ℕ). StandsWith a words s (front ++ ((n, x.1) ∷ back))) own st;
    }

comes : (a : PolicyArea) (words : List ℕ) (what : Sweep) (s : Shown) (es : List (ℕ × Policy)) (slot left count : ℕ) → Sweeping a words what s es (Some slot) left count → Between a words slot
comes a words what s es slot left count k = comes_by a words s slot k.front k.back k.at_is k.stands

-- so it does in the slot at which a walk stands that began on some list
pub comes_here : (a : PolicyArea) (image words : List ℕ) (what : Sweep) (slot left count : ℕ) (at : Option ℕ) → at ≡ Some slot → Stood a image
    → ((s : Shown) (es : List (ℕ × Policy)) → SpdStands a image s es → Sweeping a words what s es at left count) → Between a words slot
comes_here a image words what slot left count at e k goes =
    comes a words what k.shown k.entries slot left count (subst (λ (o : Option ℕ). Sweeping a words what k.shown k.entries o left count) e (goes k.shown k.entries k.stands))

-- ---- slots go back

one_more : (front back : List (ℕ × Policy)) (e : ℕ × Policy) → length (slots_in (front ++ (e ∷ back))) ≡ length (slots_in (front ++ back)) + 1
one_more [] back e = omega arith
one_more (f ∷ front) back e = let h : length (slots_in (front ++ (e ∷ back))) ≡ length (slots_in (front ++ back)) + 1 = one_more front back e in omega (arith, h)

pub out_less : (a : PolicyArea) (words image : List ℕ) (s : Shown) (front back : List (ℕ × Policy)) (slot : ℕ) (p : Policy) (before now : ℕ)
    → StandsWith a words s (front ++ ((slot, p) ∷ back)) → StandsWith a image s (front ++ back) → now + 1 ≡ before → before ≡ length (listed_in a words) → now ≡ length (listed_in a image)
out_less a words image s front back slot p before now old new less was =
    let x : length (listed_in a words) ≡ length (slots_in (front ++ ((slot, p) ∷ back))) = ap (λ (xs : List ℕ). length xs) (listed_is a words _ (front ++ ((slot, p) ∷ back)) old.list) in
    let y : length (listed_in a image) ≡ length (slots_in (front ++ back)) = ap (λ (xs : List ℕ). length xs) (listed_is a image _ (front ++ back) new.list) in
    let one : length (slots_in (front ++ ((slot, p) ∷ back))) ≡ length (slots_in (front ++ back)) + 1 = one_more front back (slot, p) in
    omega (arith, less, was, x, y, one)

-- the slot at which a walk stands can be given back
pub takes_back : {P : Type 0} (lasts : Bool) (taken : P → ℕ) (takes : P → ℕ → Type 0) (pool : P) (a : PolicyArea) (words : List ℕ) (all : ℕ) (gives : ℕ → Type 0) (slot : ℕ)
    → TakesBack lasts taken takes → Between a words slot → (lasts ≡ true → PoolFits all (taken pool) gives (takes pool) a.slots (listed_in a words))
    → taken pool ≡ length (listed_in a words) → takes pool slot
takes_back lasts taken takes pool a words all gives slot (Lasts is) k fits out =
    entry_back a words (with_policies k.shown (records_in (k.front ++ ((slot, k.policy) ∷ k.back)))) (k.front ++ ((slot, k.policy) ∷ k.back)) all (taken pool) gives (takes pool) slot k.policy k.stands (fits is)
    (entry_between k.front k.back slot k.policy)
takes_back lasts taken takes pool a words all gives slot (TakesAny any) k fits out =
    let x : length (listed_in a words) ≡ length (slots_in (k.front ++ ((slot, k.policy) ∷ k.back))) =
    ap (λ (xs : List ℕ). length xs) (listed_is a words _ (k.front ++ ((slot, k.policy) ∷ k.back)) k.stands.list) in
    let one : length (slots_in (k.front ++ ((slot, k.policy) ∷ k.back))) ≡ length (slots_in (k.front ++ k.back)) + 1 = one_more k.front k.back (slot, k.policy) in
    any pool slot (omega (arith, out, x, one))

-- ---- it ends

ends_at : (a : PolicyArea) (words : List ℕ) (what : Sweep) (s : Shown) (count : ℕ) (es front back : List (ℕ × Policy)) → back ≡ [] → StandsWith a words s (front ++ back)
    → front ++ entries_swept what back ≡ entries_swept what es → records_in front ++ swept what (records_in back) ≡ swept what s.policies
    → count + count_by (changes what) (records_in back) ≡ count_by (changes what) s.policies → IsSwept a words what s es count
ends_at a words what s count es front [] e st kept all counts =
    let r : records_in front ≡ swept what s.policies = sym (records_nil (records_in front)) ∙ all in
    let one : StandsWith a words s front = subst (λ (xs : List (ℕ × Policy)). StandsWith a words s xs) (entries_nil front) st in
    let two : SpdStands a words (with_policies s (swept what s.policies)) front = subst (λ (ps : List Policy). SpdStands a words (with_policies s ps) front) r one in
    record {
      stands = subst (λ (xs : List (ℕ × Policy)). SpdStands a words (with_policies s (swept what s.policies)) xs) (sym (entries_nil front) ∙ kept) two;
      counted = omega (arith, counts);
    }
ends_at a words what s count es front (x ∷ back) e st kept all counts = absurd (cc)

pub sweeping_ends : (a : PolicyArea) (words : List ℕ) (what : Sweep) (s : Shown) (es : List (ℕ × Policy)) (at : Option ℕ) (left count : ℕ) → left ≡ 0 → Sweeping a words what s es at left count
    → IsSwept a words what s es count
sweeping_ends a words what s es at left count e k = ends_at a words what s count es k.front k.back (no_more k.back left e k.left_is) k.stands k.kept k.passed k.counted

pub sweeping_stops : (a : PolicyArea) (words : List ℕ) (what : Sweep) (s : Shown) (es : List (ℕ × Policy)) (at : Option ℕ) (left count : ℕ) → at ≡ None → Sweeping a words what s es at left count
    → IsSwept a words what s es count
sweeping_stops a words what s es at left count e k = ends_at a words what s count es k.front k.back (none_comes k.back (sym e ∙ k.at_is)) k.stands k.kept k.passed k.counted

-- ---- whether anything began

pub started_not : (image words : List ℕ) (before after : Bool) → words ≡ image → after ≡ before → Started 0 image words before after
started_not image words before after w b = record { idle = λ e. (w, b); begun = λ less. absurd (omega (arith, less)) }

pub started_more : (fate : Fate) (count : ℕ) (first mid last : List ℕ) (before between after : Bool) → Started count first mid before between → Moves fate mid last between after
    → Started (count + changes_of fate) first last before after
started_more Stays count first mid last before between after k m = record {
  idle = λ e. (m.0 ∙ (k.idle (omega (arith, e))).0, m.1 ∙ (k.idle (omega (arith, e))).1);
  begun = λ less. m.1 ∙ k.begun (omega (arith, less));
}
started_more Warned count first mid last before between after k m = record { idle = λ e. absurd (omega (arith, e)); begun = λ less. m }
started_more Gone count first mid last before between after k m = record { idle = λ e. absurd (omega (arith, e)); begun = λ less. m }

-- after loads that left the words
pub moves_as : (fate : Fate) (image mid words : List ℕ) (before between after : Bool) → mid ≡ image → between ≡ before → Moves fate mid words between after → Moves fate image words before after
moves_as fate image mid words before between after w b m =
    subst (λ (i : List ℕ). Moves fate i words before after) w (subst (λ (x : Bool). Moves fate mid words x after) b m)

-- ---- where none is warned of the entries that leave are missing, and the others stay

gone_by : (b : Bool) (e : ℕ × Policy) (rest : List (ℕ × Policy)) → left_of (fate_by b false) e.0 e.1 ++ rest ≡ cond (not b) (e ∷ rest) rest
gone_by true e rest = refl
gone_by false e rest = refl

pub admitted_gone : (f : PolicyFilter) (es : List (ℕ × Policy)) → entries_swept (Admitted f) es ≡ entries_without (policy_meets f) es
admitted_gone f [] = refl
admitted_gone f (e ∷ es) =
    ap (λ (l : List (ℕ × Policy)). left_of (fate_of (Admitted f) e.1) e.0 e.1 ++ l) (admitted_gone f es) ∙ gone_by (policy_meets f e.1) e (entries_without (policy_meets f) es)

pub ptype_gone : (ptype : Option Ptype) (es : List (ℕ × Policy)) → entries_swept (OfPtype ptype) es ≡ entries_without (λ p. meets_one same_ptype ptype p.spec.ptype) es
ptype_gone ptype [] = refl
ptype_gone ptype (e ∷ es) =
    ap (λ (l : List (ℕ × Policy)). left_of (fate_of (OfPtype ptype) e.1) e.0 e.1 ++ l) (ptype_gone ptype es)
    ∙ gone_by (meets_one same_ptype ptype e.1.spec.ptype) e (entries_without (λ p. meets_one same_ptype ptype p.spec.ptype) es)
