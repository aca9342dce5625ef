-- The header, and how many states there are.
use Rattle.std.proofs.Common.{◌≡◌, ℕ, ◌+◌, ◌-◌, ◌^◌, ◌<◌, ◌≤◌, min, List, [], ◌∷◌, ◌++◌, length, refl, ap, sym, ◌∙◌, arith, slice_index, slice_set, length-set, get_or-set_same, get_or-set_other}
use Rattle.std.proofs.lemmas.Bool.Decides.{nat_tests}
use Rattle.xf_types.specs.declared.state.Sa.{Sa}
use Rattle.xf_types.specs.IsMachine.{IsInRange}
use Rattle.xf_types.specs.Machine.{Shown}
use Rattle.xf_chain.specs.Chains.{first_in}
use Rattle.xf_chain.specs.Families.{chain_at}
use Rattle.xf_chain.specs.Lists.{first_of}
use Rattle.xf_index.specs.Indexes.{slots_in}
use Rattle.xf_index.proofs.Alls.{all_fit}
use Rattle.xf_index.proofs.Neighbours.{all_following, all_next}
use Rattle.xf_index.proofs.Entries.{records_length}
use Rattle.xf_image.specs.Frames.{Frame}
use Rattle.xf_image.proofs.Written.{both, one_word, wider}
use Rattle.xf_sadidx.specs.declared.area.StateArea.{StateArea}
use Rattle.xf_sadidx.specs.Layout.{Fits, next_seq_place, next_sid_place, count_place, order_of}
use Rattle.xf_sadimage.specs.States.{everyone, StatesStand}
use Rattle.xf_sadimage.specs.Writes.{after_in}
use Rattle.xf_sadimage.proofs.Keeping.{linked_kept, chained_kept, doubling_kept, heads_kept}
use Rattle.xf_sadlist.specs.Listed.{next_seq_in, next_sid_in, count_in, tallied, one_less, with_next_seq}

-- ---- what the header tells

pub next_seq_is : (a : StateArea) (image : List ℕ) (s : Shown) (es : List (ℕ × Sa)) → IsInRange s → StatesStand a image s es → next_seq_in a image ≡ s.next_seq
next_seq_is a image s es range st = let c = st.counters.next_seq in let r = range.seq_counter.1 in omega (arith, c, r)

pub next_sid_is : (a : StateArea) (image : List ℕ) (s : Shown) (es : List (ℕ × Sa)) → s.next_sid < 2 ^ 63 → StatesStand a image s es → next_sid_in a image ≡ s.next_sid
next_sid_is a image s es small st = let c = st.counters.next_sid in omega (arith, c, small)

pub next_sid_young : (a : StateArea) (image : List ℕ) (s : Shown) (es : List (ℕ × Sa)) → StatesStand a image s es → next_sid_in a image < 2 ^ 63 → s.next_sid ≡ next_sid_in a image
next_sid_young a image s es st small = let c = st.counters.next_sid in omega (arith, c, small)

-- the count is that of the entries
pub count_is : (a : StateArea) (image : List ℕ) (s : Shown) (es : List (ℕ × Sa)) → StatesStand a image s es → count_in a image ≡ length es
count_is a image s es st =
    let counters = st.counters in
    let linked = st.linked in
    let word : slice_index image (count_place a) ≡ length es = counters.count ∙ ap length (sym st.listed) ∙ records_length es in
    let fit : length es ≤ a.slots = all_fit (order_of a) image everyone es (λ r. refl) (omega arith) linked.order in
    ap (λ n. min n a.slots) word ∙ least (length es) a.slots fit
  where
    least : (n m : ℕ) → n ≤ m → min n m ≡ n
    least n m l = grind (arith, nat_tests)

pub count_shown : (a : StateArea) (image : List ℕ) (s : Shown) (es : List (ℕ × Sa)) → StatesStand a image s es → count_in a image ≡ length s.states
count_shown a image s es st = count_is a image s es st ∙ sym (records_length es) ∙ ap length st.listed

-- ---- the slots one after another

pub first_slot_is : (a : StateArea) (image : List ℕ) (s : Shown) (es : List (ℕ × Sa)) → StatesStand a image s es
    → first_in (chain_at (order_of a) 0) image ≡ first_of (slots_in es)
first_slot_is a image s es st = let linked = st.linked in all_following (order_of a) image everyone [] es (λ r. refl) (omega arith) linked.order

pub next_slot_is : (a : StateArea) (image : List ℕ) (s : Shown) (slot : ℕ) (front back : List (ℕ × Sa)) (r : Sa) → StatesStand a image s (front ++ ((slot, r) ∷ back))
    → after_in a image slot ≡ first_of (slots_in back)
next_slot_is a image s slot front back r st = let linked = st.linked in all_next (order_of a) image everyone front back slot r (λ x. refl) (omega arith) linked.order

-- ---- what is written there

pub tallied_frame : (a : StateArea) (image : List ℕ) (word count : ℕ) → Frame a.base (a.base + 3) image (tallied a image word count)
tallied_frame a image word count =
    both a.base (a.base + 3) (a.base + 1) (a.base + 2) (a.base + 1 + 1) (a.base + 2 + 1) image (slice_set image (next_sid_place a) word) (tallied a image word count)
    (one_word image (a.base + 1) word) (one_word (slice_set image (next_sid_place a) word) (a.base + 2) count) (omega arith) (omega arith) (omega arith) (omega arith)

-- the three words of the header
pub tallied_seq : (a : StateArea) (image : List ℕ) (word count : ℕ) → slice_index (tallied a image word count) (next_seq_place a) ≡ slice_index image (next_seq_place a)
tallied_seq a image word count =
    get_or-set_other (slice_set image (next_sid_place a) word) (count_place a) (next_seq_place a) count 0 (λ e. omega (arith, e))
    ∙ get_or-set_other image (next_sid_place a) (next_seq_place a) word 0 (λ e. omega (arith, e))

pub tallied_sid : (a : StateArea) (image : List ℕ) (word count : ℕ) → Fits a (length image) → slice_index (tallied a image word count) (next_sid_place a) ≡ word
tallied_sid a image word count fits =
    let words = fits.words in
    get_or-set_other (slice_set image (next_sid_place a) word) (count_place a) (next_sid_place a) count 0 (λ e. omega (arith, e))
    ∙ get_or-set_same image (next_sid_place a) word 0 (omega (arith, words))

pub tallied_count : (a : StateArea) (image : List ℕ) (word count : ℕ) → Fits a (length image) → slice_index (tallied a image word count) (count_place a) ≡ count
tallied_count a image word count fits =
    let words = fits.words in
    let long : length (slice_set image (next_sid_place a) word) ≡ length image = length-set image (next_sid_place a) word in
    get_or-set_same (slice_set image (next_sid_place a) word) (count_place a) count 0 (omega (arith, words, long))

-- one state less

pub less_frame : (a : StateArea) (image : List ℕ) → Frame (a.base + 2) (a.base + 3) image (one_less a image)
less_frame a image =
    let one : Frame (a.base + 2) (a.base + 2 + 1) image (one_less a image) = one_word image (a.base + 2) (count_in a image - 1) in
    wider (a.base + 2) (a.base + 3) _ _ image (one_less a image) one (omega arith) (omega arith)

pub less_count : (a : StateArea) (image : List ℕ) → Fits a (length image) → slice_index (one_less a image) (count_place a) ≡ count_in a image - 1
less_count a image fits = let words = fits.words in get_or-set_same image (count_place a) (count_in a image - 1) 0 (omega (arith, words))

-- another acquire counter

pub seq_frame : (a : StateArea) (image : List ℕ) (word : ℕ) → Frame a.base (a.base + 1) image (slice_set image (next_seq_place a) word)
seq_frame a image word = one_word image a.base word

pub seq_stands : (a : StateArea) (image : List ℕ) (seq word : ℕ) (s : Shown) (es : List (ℕ × Sa)) → Fits a (length image) → word + 1 ≡ seq → StatesStand a image s es
    → StatesStand a (slice_set image (next_seq_place a) word) (with_next_seq s seq) es
seq_stands a image seq word s es fits e st =
    let words = fits.words in
    let old = st.counters in
    let j : List ℕ = slice_set image (next_seq_place a) word in
    let f : Frame a.base (a.base + 1) image j = seq_frame a image word in
    record {
      listed = st.listed;
      linked = linked_kept a image j (length image) es fits (λ q h l. f.above q (omega (arith, h))) st.linked;
      chained = chained_kept a image j (length image) es fits (λ q h l. f.above q (omega (arith, h))) st.chained;
      heads = heads_kept a image j (length es) (doubling_kept a image j (λ q h l. f.above q (omega (arith, h)))) st.heads;
      counters = record {
        next_seq = ap (λ n. n + 1) (get_or-set_same image (next_seq_place a) word 0 (omega (arith, words))) ∙ e;
        next_sid = ap (λ n. n + 1) (f.above (next_sid_place a) (omega arith)) ∙ old.next_sid;
        count = f.above (count_place a) (omega arith) ∙ old.count;
      };
      room = st.room;
    }
