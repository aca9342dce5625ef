-- The test of a few words is the definition's test of what they give.
use Rattle.std.proofs.Common.{◌≡◌, ℕ, ◌+◌, ◌^◌, ◌<◌, ◌==◌, ◌||◌, not, Bool, List, Option, None, Some, slice_index, refl, ap, ◌∙◌, arith}
use Rattle.xf_types.specs.declared.network.Addr.{Addr}
use Rattle.xf_types.specs.declared.network.Flow.{Flow}
use Rattle.xf_types.specs.declared.network.Mark.{Mark}
use Rattle.xf_types.specs.declared.network.Proto.{Proto}
use Rattle.xf_types.specs.declared.network.Selector.{Selector}
use Rattle.xf_types.specs.declared.policy.Mode.{Mode}
use Rattle.xf_types.specs.Same.{same_addr, same_proto, same_mode, proto_number, mode_number}
use Rattle.xf_types.specs.Selection.{matches, in_prefix}
use Rattle.xf_types.specs.PolicyList.{has_mark}
use Rattle.xf_types.specs.Candidates.{is_zero, matches_if_given}
use Rattle.xf_types.specs.Address.{family_of}
use Rattle.xf_records.specs.Blocks.{Stands}
use Rattle.xf_records.specs.Codes.{high_word, low_word, flag_word, flag_in, proto_in, mode_in, AddrFits}
use Rattle.xf_records.specs.Parts.{prefix_in, selector_words, selector_of, SelectorFits}
use Rattle.xf_records.specs.States.{sel_given, sel_or}
use Rattle.xf_asked.specs.Asked.{addr_at, has_mark_at, holds_at, has_proto_at, has_port_at, matches_at, is_addr_at, is_word_at, is_proto_at, is_mode_at, has_spi_at, is_source_at, is_selected_at, is_off_at}
use Rattle.xf_records.proofs.CodeLaws.{small_is, addr_is, flag_is, proto_is, mode_is, selector_back}

-- the test of a prefix's words, by the places of its three words
holds_is : (image : List ℕ) (high low len family : ℕ) (addr : Addr) → low ≡ high + 1 → len ≡ high + 2
    → holds_at image high family addr ≡ in_prefix addr (prefix_in family (slice_index image high) (slice_index image low) (slice_index image len))
unfolding holds_at
holds_is image high low len family addr a b = rw (a, b) refl

-- the test of a selector's words is the selector's
pub matches_is : (image : List ℕ) (at : ℕ) (flow : Flow) → matches_at image at flow ≡ matches (selector_of image at) flow
unfolding matches_at has_proto_at has_port_at
matches_is image at flow =
    rw (
      holds_is image (at + 1) (at + 2) (at + 3) (slice_index image at) flow.src (omega arith) (omega arith),
      holds_is image (at + 4) (at + 5) (at + 6) (slice_index image at) flow.dst (omega arith) (omega arith),
    ) refl

pub mark_is : (image : List ℕ) (at mark : ℕ) (m : Mark) → m.value < 2 ^ 32 → m.mask < 2 ^ 32 → slice_index image at ≡ m.value
    → slice_index image (at + 1) ≡ m.mask → has_mark_at image at mark ≡ has_mark mark m
unfolding has_mark_at
mark_is image at mark m v k a b = rw (a, b, small_is m.value v, small_is m.mask k) refl

pub addr_at_is : (image : List ℕ) (at : ℕ) (a : Addr) → AddrFits a → slice_index image at ≡ family_of a → slice_index image (at + 1) ≡ high_word a
    → slice_index image (at + 2) ≡ low_word a → addr_at image at ≡ a
addr_at_is image at a f x y z = rw (x, y, z) (addr_is a f)

pub is_addr_is : (image : List ℕ) (at : ℕ) (a b : Addr) → addr_at image at ≡ a → is_addr_at image at b ≡ same_addr a b
unfolding is_addr_at
is_addr_is image at a b e = ap (λ x. same_addr x b) e

pub is_word_is : (image : List ℕ) (at word n : ℕ) → slice_index image at ≡ n → is_word_at image at word ≡ (n == word)
unfolding is_word_at
is_word_is image at word n e = rw e refl

pub is_proto_is : (image : List ℕ) (at : ℕ) (a b : Proto) → slice_index image at ≡ proto_number a → is_proto_at image at b ≡ same_proto a b
unfolding is_proto_at
is_proto_is image at a b e = ap (λ w. same_proto (proto_in w) b) e ∙ ap (λ x. same_proto x b) (proto_is a)

pub is_mode_is : (image : List ℕ) (at : ℕ) (a b : Mode) → slice_index image at ≡ mode_number a → is_mode_at image at b ≡ same_mode a b
unfolding is_mode_at
is_mode_is image at a b e = ap (λ w. same_mode (mode_in w) b) e ∙ ap (λ x. same_mode x b) (mode_is a)

pub has_spi_is : (image : List ℕ) (at spi n : ℕ) → slice_index image at ≡ n → has_spi_at image at spi ≡ ((spi == 0) || (spi == n))
unfolding has_spi_at
has_spi_is image at spi n e = rw e refl

pub is_source_is : (image : List ℕ) (at : ℕ) (a b : Addr) → addr_at image at ≡ a → is_source_at image at b ≡ (same_addr a b || is_zero a || is_zero b)
unfolding is_source_at
is_source_is image at a b e = ap (λ x. same_addr x b || is_zero x || is_zero b) e

pub is_off_is : (image : List ℕ) (at : ℕ) (b : Bool) → slice_index image at ≡ flag_word b → is_off_at image at ≡ not b
unfolding is_off_at
is_off_is image at b e = ap (λ w. not (flag_in w)) e ∙ ap not (flag_is b)

pub is_selected_is : (image : List ℕ) (at : ℕ) (flow : Flow) (sel : Option Selector) → SelectorFits (sel_or sel)
    → slice_index image at ≡ flag_word (sel_given sel) → Stands image (at + 1) (selector_words (sel_or sel))
    → is_selected_at image at flow ≡ matches_if_given sel flow
unfolding is_selected_at
is_selected_is image at flow None f e s = rw e refl
is_selected_is image at flow (Some sel) f e s =
    rw e (matches_is image (at + 1) flow ∙ ap (λ q. matches q flow) (selector_back image (at + 1) sel f s))
