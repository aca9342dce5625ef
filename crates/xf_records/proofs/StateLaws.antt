-- What is put is got, and what is got was put.
use Rattle.std.proofs.Common.{◌≡◌, ℕ, ◌+◌, ◌<◌, ◌≤◌, min, rules, Bool, true, false, List, length, replicate, Option, None, Some, IfSome, IsNone, slice_index, slice_set, refl, ap, sym, ◌∙◌, subst, arith, lit<}
use Rattle.std.specs.Str.{bytes_eq}
use Rattle.std.proofs.Math.Nat.{min-eq_left}
use Rattle.std.proofs.lemmas.Slice.Eq.{bytes_eq-Decides}
use Rattle.std.proofs.lemmas.Option.{cond_some, none-some}
use mathlib.Core.HLevel.{is_prop→PathP}
use Rattle.xf_types.specs.declared.network.Selector.{Selector}
use Rattle.xf_types.specs.declared.state.Sa.{Sa}
use Rattle.xf_types.specs.Facts.{IsSaSpec}
use Rattle.xf_types.proofs.SameFields.{IsSaSpec-prop}
use Rattle.xf_records.specs.Blocks.{fetched, stored, Stands}
use Rattle.xf_records.specs.Codes.{small_fits, number_in, flag_word, flag_in}
use Rattle.xf_records.specs.Parts.{selector_words, selector_of, SelectorFits}
use Rattle.xf_records.specs.States.{sel_given, sel_or, sel_by, state_words, state_of, StateFits, state_at, dying_now}
use Rattle.xf_records.proofs.BlockLaws.{stored_below, stored_above, stored_stands, stands_unchanged, stands_stored, stands_changed, fetched_size, fetched_same}
use Rattle.xf_records.proofs.CodeLaws.{small_is, number_is, flag_is, proto_is, mode_is, addr_is, addr_fits, selector_fits, selector_back, limits_back}

pub state_size : (s : Sa) → length (state_words s) ≡ 46
unfolding state_words
state_size s = refl

sel_back : (words : List ℕ) (at : ℕ) (sel : Option Selector) → SelectorFits (sel_or sel) → Stands words at (selector_words (sel_or sel))
    → sel_by (flag_in (flag_word (sel_given sel))) (selector_of words at) ≡ sel
sel_back words at None f s = refl
sel_back words at (Some sel) f s = ap Some (selector_back words at sel f s)

state_back : (s : Sa) → StateFits s → state_of (state_words s) ≡ s
unfolding state_of state_words
state_back s f =
    let w : min s.spec.window 4096 ≡ s.spec.window = min-eq_left s.spec.facts.window_fits in
    let e : flag_in (flag_word s.spec.esn) ≡ s.spec.esn = flag_is s.spec.esn in
    let n : number_in (flag_in (flag_word s.spec.esn)) s.spec.in_seq ≡ s.spec.in_seq =
    ap (λ esn. number_in esn s.spec.in_seq) e ∙ number_is s.spec.esn s.spec.in_seq s.spec.facts.in_fits in
    let o : number_in (flag_in (flag_word s.spec.esn)) s.spec.out_seq ≡ s.spec.out_seq =
    ap (λ esn. number_in esn s.spec.out_seq) e ∙ number_is s.spec.esn s.spec.out_seq s.spec.facts.out_fits in
    let facts =
    is_prop→PathP (λ i. IsSaSpec (w i) (n i) (o i) (e i)) (λ i. IsSaSpec-prop (w i) (n i) (o i) (e i)) (state_of (state_words s)).spec.facts s.spec.facts in
    λ i. record {
      sid = s.sid;
      added = s.added;
      larval = flag_is s.larval i;
      dying = flag_is s.dying i;
      spec = record {
        src = addr_is s.spec.src f.src i;
        dst = addr_is s.spec.dst f.dst i;
        proto = proto_is s.spec.proto i;
        spi = small_is s.spec.spi f.spi i;
        mode = mode_is s.spec.mode i;
        reqid = small_is s.spec.reqid f.reqid i;
        seq = small_is s.spec.seq f.seq i;
        mark = record { value = small_is s.spec.mark.value f.value i; mask = small_is s.spec.mark.mask f.mask i };
        if_id = small_is s.spec.if_id f.if_id i;
        sel = sel_back (state_words s) 20 s.spec.sel f.sel refl i;
        window = w i;
        in_seq = n i;
        out_seq = o i;
        wildrecv = flag_is s.spec.wildrecv i;
        esn = e i;
        limits = limits_back (state_words s) 34 s.spec.limits refl i;
        facts = facts i;
      };
    }

pub state_stands : (image : List ℕ) (at : ℕ) (s : Sa) → StateFits s → Stands image at (state_words s) → state_at image at ≡ Some s
state_stands image at s f h =
    let w : fetched image at (replicate 46 0) ≡ state_words s =
    fetched_size image at (replicate 46 0) (state_words s) (sym (state_size s)) ∙ h in
    let e : bytes_eq (state_words s) (state_words s) ≡ true = (bytes_eq-Decides (state_words s) (state_words s)).1 refl in
    rw (w, state_back s f, e) refl

pub state_read : (image : List ℕ) (at : ℕ) (s : Sa) → state_at image at ≡ Some s → Stands image at (state_words s)
state_read image at s h =
    let words : List ℕ = fetched image at (replicate 46 0) in
    let c : (bytes_eq (state_words (state_of words)) words ≡ true) × (state_of words ≡ s) = cond_some _ _ _ h in
    let e : state_words s ≡ words = ap state_words (sym c.1) ∙ (bytes_eq-Decides _ _).0 c.0 in
    fetched_size image at (state_words s) (replicate 46 0) (state_size s) ∙ sym e

pub state_read_or : (image : List ℕ) (at : ℕ) (o : Option Sa) → o ≡ state_at image at → IfSome o (λ s. Stands image at (state_words s))
state_read_or image at None e = tt
state_read_or image at (Some s) e = state_read image at s (sym e)

pub state_none_or : (image : List ℕ) (at : ℕ) (o : Option Sa) → o ≡ state_at image at → IsNone o
    → (s : Sa) → StateFits s → Stands image at (state_words s) → ⊥
state_none_or image at None e n s f h = none-some s (e ∙ state_stands image at s f h)
state_none_or image at (Some q) e n s f h = grind (rules, n)

pub state_got : (image new : List ℕ) (at : ℕ) (s : Sa) → StateFits s → at + 46 ≤ length image
    → new ≡ stored image at (state_words s) → state_at new at ≡ Some s
state_got image new at s f h e =
    let k : length (state_words s) ≡ 46 = state_size s in
    rw e (state_stands (stored image at (state_words s)) at s f (stands_stored image at (state_words s) (omega arith)))

-- a selector that may be left out, from its two parts
pub sel_is : (given is : Bool) (sel read : Selector) (o : Option Selector) → given ≡ is → sel ≡ read → o ≡ sel_by given sel → o ≡ sel_by is read
sel_is given is sel read o g s e = e ∙ rw (g, s) refl

-- ---- what is got has the ranges of its types

sel_or_fits : (given : Bool) (sel : Selector) → SelectorFits sel → SelectorFits (sel_or (sel_by given sel))
sel_or_fits true sel f = f
sel_or_fits false sel f = record { src = lit< tt; dst = lit< tt; proto = lit< tt; sport = tt; dport = tt }

state_of_fits : (words : List ℕ) → StateFits (state_of words)
unfolding state_of
state_of_fits words = record {
  dst = addr_fits _ _ _;
  spi = small_fits _;
  value = small_fits _;
  mask = small_fits _;
  reqid = small_fits _;
  if_id = small_fits _;
  src = addr_fits _ _ _;
  seq = small_fits _;
  sel = sel_or_fits _ _ (selector_fits words 20);
}

pub state_fits : (image : List ℕ) (at : ℕ) (s : Sa) → state_at image at ≡ Some s → StateFits s
state_fits image at s h =
    let words : List ℕ = fetched image at (replicate 46 0) in
    let c : (bytes_eq (state_words (state_of words)) words ≡ true) × (state_of words ≡ s) = cond_some _ _ _ h in
    subst StateFits c.1 (state_of_fits words)

-- ---- one flag

dying_words : (s : Sa) → slice_set (state_words s) 15 1 ≡ state_words (dying_now s)
unfolding state_words
dying_words s = refl

pub state_dying : (image : List ℕ) (at : ℕ) (s : Sa) → at + 46 ≤ length image → state_at image at ≡ Some s
    → state_at (slice_set image (at + 15) 1) at ≡ Some (dying_now s)
state_dying image at s h e =
    let f : StateFits s = state_fits image at s e in
    let n : length (state_words s) ≡ 46 = state_size s in
    let k : Stands (slice_set image (at + 15) 1) at (slice_set (state_words s) 15 1) =
    stands_changed image at (state_words s) 15 1 (omega arith) (omega arith) (state_read image at s e) in
    state_stands (slice_set image (at + 15) 1) at (dying_now s) (record {
      dst = f.dst;
      spi = f.spi;
      value = f.value;
      mask = f.mask;
      reqid = f.reqid;
      if_id = f.if_id;
      src = f.src;
      seq = f.seq;
      sel = f.sel;
    })
    (subst (Stands (slice_set image (at + 15) 1) at) (dying_words s) k)

-- ---- other words

pub state_frame : (i j : List ℕ) (at : ℕ) → ((q : ℕ) → at ≤ q → q < at + 46 → slice_index j q ≡ slice_index i q) → state_at j at ≡ state_at i at
state_frame i j at f =
    let e : fetched j at (replicate 46 0) ≡ fetched i at (replicate 46 0) = fetched_same i j at (replicate 46 0) f in rw e refl

-- ---- words are a record exactly where putting some state there changes none of them

state_lies : (image : List ℕ) (at : ℕ) (s : Sa) → at + 46 ≤ length image → at + length (state_words s) ≤ length image
state_lies image at s h = let n : length (state_words s) ≡ 46 = state_size s in omega arith

pub state_unchanged : (image : List ℕ) (at : ℕ) (s : Sa) → at + 46 ≤ length image → state_at image at ≡ Some s
    → stored image at (state_words s) ≡ image
state_unchanged image at s h e = stored_stands image at (state_words s) (state_lies image at s h) (state_read image at s e)

pub state_recorded : (image : List ℕ) (at : ℕ) (s : Sa) → StateFits s → at + 46 ≤ length image
    → stored image at (state_words s) ≡ image → state_at image at ≡ Some s
state_recorded image at s f h e = state_stands image at s f (stands_unchanged image at (state_words s) (state_lies image at s h) e)

-- ---- other words

pub state_below : (image new : List ℕ) (at : ℕ) (s : Sa) → new ≡ stored image at (state_words s)
    → (q : ℕ) → q < at → slice_index new q ≡ slice_index image q
state_below image new at s e q h = ap (λ j. slice_index j q) e ∙ stored_below image at (state_words s) q h

pub state_above : (image new : List ℕ) (at : ℕ) (s : Sa) → new ≡ stored image at (state_words s)
    → (q : ℕ) → at + 46 ≤ q → slice_index new q ≡ slice_index image q
state_above image new at s e q h =
    let n : length (state_words s) ≡ 46 = state_size s in
    ap (λ j. slice_index j q) e ∙ stored_above image at (state_words s) q (omega arith)
