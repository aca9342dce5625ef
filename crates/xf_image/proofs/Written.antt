-- Which words each store leaves, and several in a row.
use Rattle.std.proofs.Common.{◌≡◌, ℕ, ◌+◌, ◌<◌, ◌≤◌, Bool, true, false, nat_lt, List, Option, refl, ◌∙◌, arith, slice_index, slice_set, length-set, get_or-set_other}
use Rattle.std.proofs.lemmas.Bool.Decides.{nat_tests}
use Rattle.xf_types.specs.declared.policy.Policy.{Policy}
use Rattle.xf_chain.specs.declared.family.Family.{Family}
use Rattle.xf_chain.proofs.Emptied.{emptied_length, emptied_below, emptied_above}
use Rattle.xf_chain.specs.Chains.{Below}
use Rattle.xf_chain.specs.Families.{Lays, IsOf, put_in, taken_out, emptied}
use Rattle.xf_index.proofs.Frames.{put_outside, taken_outside, put_length, taken_length}
use Rattle.xf_records.specs.Blocks.{stored}
use Rattle.xf_records.specs.Policies.{policy_words, PolicyFits}
use Rattle.xf_records.proofs.BlockLaws.{length-stored}
use Rattle.xf_records.proofs.PolicyLaws.{put_below, put_above}
use Rattle.xf_image.specs.Frames.{Frame}

-- one change after another
pub both : (first last f g l m : ℕ) (i j k : List ℕ) → Frame f l i j → Frame g m j k → first ≤ f → first ≤ g → l ≤ last → m ≤ last
    → Frame first last i k
both first last f g l m i j k x y a b c d = record {
  size = y.size ∙ x.size;
  below = λ q h. y.below q (omega (arith, h, b)) ∙ x.below q (omega (arith, h, a));
  above = λ q h. y.above q (omega (arith, h, d)) ∙ x.above q (omega (arith, h, c));
}

-- a change in fewer places
pub wider : (first last f l : ℕ) (i j : List ℕ) → Frame f l i j → first ≤ f → l ≤ last → Frame first last i j
wider first last f l i j x a b = record {
  size = x.size;
  below = λ q h. x.below q (omega (arith, h, a));
  above = λ q h. x.above q (omega (arith, h, b));
}

pub nothing : (first last : ℕ) (i : List ℕ) → Frame first last i i
nothing first last i = record { size = refl; below = λ q h. refl; above = λ q h. refl }

-- a word outside
pub outside : (first last : ℕ) (i j : List ℕ) (q : ℕ) (b : Bool) → nat_lt q first ≡ b → Frame first last i j → (first ≤ q → last ≤ q)
    → slice_index j q ≡ slice_index i q
outside first last i j q true e f o = f.below q (grind (arith, nat_tests))
outside first last i j q false e f o = f.above q (o (grind (arith, nat_tests)))

pub one_word : (i : List ℕ) (at w : ℕ) → Frame at (at + 1) i (slice_set i at w)
one_word i at w = record {
  size = length-set i at w;
  below = λ q h. get_or-set_other i at q w 0 (λ e. omega (arith, e, h));
  above = λ q h. get_or-set_other i at q w 0 (λ e. omega (arith, e, h));
}

pub put_frame : (b : Family) (i : List ℕ) (n : ℕ) (number after : Option ℕ) (slot : ℕ) → Lays b n → IsOf b number → Below b.slots after
    → slot < b.slots
    → Frame b.heads (b.links + b.slots) i (put_in b i number after slot)
put_frame b i n number after slot l o w s = record {
  size = put_length b i number after slot;
  below = λ q h. put_outside b i n number after slot q l o w s (λ k. absurd (omega (arith, k, h)));
  above = λ q h. put_outside b i n number after slot q l o w s (λ k. h);
}

pub taken_frame : (b : Family) (i : List ℕ) (n : ℕ) (number after : Option ℕ) (slot : ℕ) → Lays b n → IsOf b number → Below b.slots after
    → Frame b.heads (b.links + b.slots) i (taken_out b i number after slot)
taken_frame b i n number after slot l o w = record {
  size = taken_length b i number after slot;
  below = λ q h. taken_outside b i n number after slot q l o w (λ k. absurd (omega (arith, k, h)));
  above = λ q h. taken_outside b i n number after slot q l o w (λ k. h);
}

pub emptied_frame : (head more : ℕ) (i : List ℕ) → Frame head (head + more) i (emptied head more i)
emptied_frame head more i = record {
  size = emptied_length head more i;
  below = λ q h. emptied_below head more i q h;
  above = λ q h. emptied_above head more i q h;
}

pub record_frame : (i : List ℕ) (at : ℕ) (p : Policy) → PolicyFits p → Frame at (at + 101) i (stored i at (policy_words p))
record_frame i at p f = record {
  size = length-stored i at (policy_words p);
  below = λ q h. put_below i (stored i at (policy_words p)) at p refl q h;
  above = λ q h. put_above i (stored i at (policy_words p)) at p f.count refl q h;
}
