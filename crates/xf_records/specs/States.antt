-- A state as words. What a packet's identity names stands first, then what a template tests and what it chooses by, then the
-- rest.
--
--    0 family       1, 2 destination   3 SPI          4 protocol     5 mark         6 mask         7 reqid
--    8 mode         9 if_id           10 family      11, 12 source  13 wildrecv    14 larval      15 dying
--   16 sid         17 added           18 seq         19 selector given             20 to 29 selector
--   30 window      31 in_seq          32 out_seq     33 esn         34 to 45 limits
use Rattle.std.specs.Prelude.{refl, ℕ, ◌^◌, ◌<◌, min, Bool, true, false, List, ◌∷◌, ◌++◌, replicate, Option, None, Some, if◌then◌else◌, slice_index}
use Rattle.std.specs.Str.{bytes_eq}
use Rattle.std.proofs.Math.Nat.{min-le_right}
use Rattle.xf_types.specs.declared.network.Selector.{Selector}
use Rattle.xf_types.specs.declared.state.Sa.{Sa}
use Rattle.xf_types.specs.declared.network.Addr.TheVariants.{V4}
use Rattle.xf_types.specs.Address.{family_of}
use Rattle.xf_types.specs.Prefixes.{prefix_at}
use Rattle.xf_types.specs.Same.{proto_number, mode_number}
use Rattle.xf_records.specs.Blocks.{fetched}
use Rattle.xf_records.specs.Codes.{small_in, number_in, number_fits, flag_word, flag_in, proto_in, mode_in, high_word, low_word, addr_in, AddrFits}
use Rattle.xf_records.specs.Parts.{selector_words, selector_of, SelectorFits, limits_words, limits_of}

-- the selector of every IPv4 flow, whose words stand where a state has none
abbrev pub every : Selector
every = record { src = prefix_at (V4 0) 0; dst = prefix_at (V4 0) 0; proto = 0; sport = None; dport = None; facts = record { one_family = refl } }

-- there is a selector
abbrev pub sel_given : Option Selector → Bool
sel_given None = false
sel_given (Some sel) = true

-- the selector, or that of every IPv4 flow
abbrev pub sel_or : Option Selector → Selector
sel_or None = every
sel_or (Some sel) = sel

-- the selector, where there is one
abbrev pub sel_by : Bool → Selector → Option Selector
sel_by false sel = None
sel_by true sel = Some sel

-- a state's words
unfoldable pub state_words : Sa → List ℕ
state_words s =
    family_of s.spec.dst ∷ high_word s.spec.dst ∷ low_word s.spec.dst ∷ s.spec.spi ∷ proto_number s.spec.proto
    ∷ s.spec.mark.value ∷ s.spec.mark.mask ∷ s.spec.reqid
    ∷ mode_number s.spec.mode ∷ s.spec.if_id
    ∷ family_of s.spec.src ∷ high_word s.spec.src ∷ low_word s.spec.src
    ∷ flag_word s.spec.wildrecv ∷ flag_word s.larval ∷ flag_word s.dying
    ∷ s.sid ∷ s.added ∷ s.spec.seq ∷ flag_word (sel_given s.spec.sel)
    ∷ (selector_words (sel_or s.spec.sel)
    ++ (s.spec.window ∷ s.spec.in_seq ∷ s.spec.out_seq ∷ flag_word s.spec.esn
    ∷ limits_words s.spec.limits))

-- the state that words give
unfoldable pub state_of : List ℕ → Sa
state_of words =
    record {
      sid = slice_index words 16;
      added = slice_index words 17;
      larval = flag_in (slice_index words 14);
      dying = flag_in (slice_index words 15);
      spec = record {
        src = addr_in (slice_index words 10) (slice_index words 11) (slice_index words 12);
        dst = addr_in (slice_index words 0) (slice_index words 1) (slice_index words 2);
        proto = proto_in (slice_index words 4);
        spi = small_in (slice_index words 3);
        mode = mode_in (slice_index words 8);
        reqid = small_in (slice_index words 7);
        seq = small_in (slice_index words 18);
        mark = record { value = small_in (slice_index words 5); mask = small_in (slice_index words 6) };
        if_id = small_in (slice_index words 9);
        sel = sel_by (flag_in (slice_index words 19)) (selector_of words 20);
        window = min (slice_index words 30) 4096;
        in_seq = number_in (flag_in (slice_index words 33)) (slice_index words 31);
        out_seq = number_in (flag_in (slice_index words 33)) (slice_index words 32);
        wildrecv = flag_in (slice_index words 13);
        esn = flag_in (slice_index words 33);
        limits = limits_of words 34;
        facts = record {
          window_fits = min-le_right (slice_index words 30) 4096;
          in_fits = number_fits (flag_in (slice_index words 33)) (slice_index words 31);
          out_fits = number_fits (flag_in (slice_index words 33)) (slice_index words 32);
        };
      };
    }

-- what the types of its fields say of a state
pub record StateFits (s : Sa) : Type 0 where
  pub dst : AddrFits s.spec.dst
  pub spi : s.spec.spi < 2 ^ 32
  pub value : s.spec.mark.value < 2 ^ 32
  pub mask : s.spec.mark.mask < 2 ^ 32
  pub reqid : s.spec.reqid < 2 ^ 32
  pub if_id : s.spec.if_id < 2 ^ 32
  pub src : AddrFits s.spec.src
  pub seq : s.spec.seq < 2 ^ 32
  pub sel : SelectorFits (sel_or s.spec.sel)

-- the state that stands at a place: the one that its words give, where these are its words
abbrev pub state_at : List ℕ → ℕ → Option Sa
state_at image at =
    let words = fetched image at (replicate 46 0) in
    if bytes_eq (state_words (state_of words)) words then Some (state_of words) else None

-- the state, dying
abbrev pub dying_now : Sa → Sa
dying_now s = record s { dying = true }
