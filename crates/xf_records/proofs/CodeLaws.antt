-- Each value is given again by its words.
use Rattle.std.proofs.Common.{◌≡◌, ℕ, ◌+◌, ◌-◌, ◌*◌, ◌/◌, ◌%◌, ◌^◌, ◌<◌, min, ◌==◌, cond, Bool, true, false, List, Option, None, Some, slice_index, refl, ap, sym, ◌∙◌, arith}
use Rattle.std.proofs.Common.{lit<}
use Rattle.std.proofs.Math.Nat.{min-eq_left, min-le_right, lt_of_le_of_lt}
use Rattle.std.proofs.lemmas.Nat.{div-add-mod'}
use Rattle.std.proofs.lemmas.Bool.Decides.{nat_tests}
use Rattle.xf_types.specs.declared.network.Addr.{Addr}
use Rattle.xf_types.specs.declared.network.Addr.TheVariants.{V4, V6}
use Rattle.xf_types.specs.declared.network.Dir.{Dir}
use Rattle.xf_types.specs.declared.network.Dir.TheVariants.{In, Out, Fwd}
use Rattle.xf_types.specs.declared.network.Prefix.{Prefix}
use Rattle.xf_types.specs.declared.network.Proto.{Proto}
use Rattle.xf_types.specs.declared.network.Proto.TheVariants.{Esp, Ah, Comp}
use Rattle.xf_types.specs.declared.network.Ptype.{Ptype}
use Rattle.xf_types.specs.declared.network.Ptype.TheVariants.{Main, Sub}
use Rattle.xf_types.specs.declared.network.Selector.{Selector}
use Rattle.xf_types.specs.declared.policy.Action.{Action}
use Rattle.xf_types.specs.declared.policy.Action.TheVariants.{Allow, Block}
use Rattle.xf_types.specs.declared.policy.Level.{Level}
use Rattle.xf_types.specs.declared.policy.Level.TheVariants.{Required, Use}
use Rattle.xf_types.specs.declared.policy.Limits.{Limits}
use Rattle.xf_types.specs.declared.policy.Mode.{Mode}
use Rattle.xf_types.specs.declared.policy.Mode.TheVariants.{Transport, Tunnel, Beet, Ro, InTrigger}
use Rattle.xf_types.specs.Address.{family_of, width_of, number_of, cut}
use Rattle.xf_types.specs.Extended.{number_bits}
use Rattle.xf_types.specs.Same.{dir_number, ptype_number, proto_number, mode_number, action_number}
use Rattle.xf_types.proofs.AddressLemmas.{prefix_is}
use Rattle.xf_types.proofs.SameFields.{selector_ext}
use Rattle.xf_records.specs.Blocks.{Stands}
use Rattle.xf_records.specs.Codes.{small_in, small_fits, number_in, addr_by, byte_in, flag_word, flag_in, dir_in, ptype_in, action_in, proto_in, mode_in, level_word, level_in, port_word, port_in, PortFits, given_word, number_word, limit_in, high_word, low_word, addr_in, AddrFits}
use Rattle.xf_records.specs.Parts.{prefix_in, selector_words, selector_of, SelectorFits, limits_words, limits_of}
use Rattle.xf_records.proofs.BlockLaws.{stands_at}

pub small_is : (n : ℕ) → n < 2 ^ 32 → small_in n ≡ n
small_is n h = min-eq_left (omega arith)

pub byte_is : (n : ℕ) → n < 2 ^ 8 → byte_in n ≡ n
byte_is n h = min-eq_left (omega arith)

pub number_is : (esn : Bool) (n : ℕ) → n < 2 ^ number_bits esn → number_in esn n ≡ n
number_is true n h = min-eq_left (omega arith)
number_is false n h = min-eq_left (omega arith)

pub flag_is : (b : Bool) → flag_in (flag_word b) ≡ b
flag_is true = refl
flag_is false = refl

pub dir_is : (d : Dir) → dir_in (dir_number d) ≡ d
dir_is In = refl
dir_is Out = refl
dir_is Fwd = refl

pub ptype_is : (p : Ptype) → ptype_in (ptype_number p) ≡ p
ptype_is Main = refl
ptype_is Sub = refl

pub action_is : (a : Action) → action_in (action_number a) ≡ a
action_is Allow = refl
action_is Block = refl

pub proto_is : (p : Proto) → proto_in (proto_number p) ≡ p
proto_is Esp = refl
proto_is Ah = refl
proto_is Comp = refl

pub mode_is : (m : Mode) → mode_in (mode_number m) ≡ m
mode_is Transport = refl
mode_is Tunnel = refl
mode_is Beet = refl
mode_is Ro = refl
mode_is InTrigger = refl

pub level_is : (l : Level) → level_in (level_word l) ≡ l
level_is Required = refl
level_is Use = refl

pub port_is : (o : Option ℕ) → PortFits o → port_in (port_word o) ≡ o
port_is None h = refl
port_is (Some p) h = grind (arith, nat_tests)

pub limit_is : (o : Option ℕ) → limit_in (given_word o) (number_word o) ≡ o
limit_is None = refl
limit_is (Some n) = refl

pub addr_is : (a : Addr) → AddrFits a → addr_in (family_of a) (high_word a) (low_word a) ≡ a
addr_is (V4 number) h = ap V4 (small_is number h)
addr_is (V6 number) h = ap V6 (div-add-mod' number (2 ^ 64))

kept : (number power : ℕ) → number % power ≡ 0 → number ≡ number / power * power
kept number power h = let e : number / power * power + number % power ≡ number = div-add-mod' number power in omega arith

cut_is : (a : Addr) (len : ℕ) → number_of a % 2 ^ (width_of a - len) ≡ 0 → a ≡ cut a len
cut_is (V4 number) len h = ap V4 (kept number (2 ^ (32 - len)) h)
cut_is (V6 number) len h = ap V6 (kept number (2 ^ (128 - len)) h)

pub prefix_back : (p : Prefix) → AddrFits p.addr → prefix_in (family_of p.addr) (high_word p.addr) (low_word p.addr) p.len ≡ p
prefix_back p h =
    let l : min p.len (width_of p.addr) ≡ p.len = min-eq_left p.facts.fits in
    let c : p.addr ≡ cut p.addr (min p.len (width_of p.addr)) = cut_is p.addr p.len p.facts.clean ∙ ap (cut p.addr) (sym l) in
    rw (addr_is p.addr h) (sym (prefix_is p p.addr (min p.len (width_of p.addr)) (min-le_right _ _) (sym l) c))

-- the same, with the family of another prefix
pub prefix_beside : (p q : Prefix) → family_of q.addr ≡ family_of p.addr → AddrFits p.addr
    → prefix_in (family_of q.addr) (high_word p.addr) (low_word p.addr) p.len ≡ p
prefix_beside p q e h = rw e (prefix_back p h)

pub selector_back : (words : List ℕ) (at : ℕ) (sel : Selector) → SelectorFits sel → Stands words at (selector_words sel) → selector_of words at ≡ sel
selector_back words at sel f s =
    let word : (k : ℕ) → k < 10 → slice_index words (at + k) ≡ slice_index (selector_words sel) k = stands_at words at (selector_words sel) s in
    let family : slice_index words at ≡ family_of sel.src.addr = ap (slice_index words) (omega arith) ∙ word 0 (lit< tt) in
    selector_ext (selector_of words at) sel
    (rw (family, word 1 (lit< tt), word 2 (lit< tt), word 3 (lit< tt)) (prefix_back sel.src f.src))
    (rw (family, word 4 (lit< tt), word 5 (lit< tt), word 6 (lit< tt)) (prefix_beside sel.dst sel.src sel.facts.one_family f.dst))
    (ap byte_in (word 7 (lit< tt)) ∙ byte_is sel.proto f.proto)
    (ap port_in (word 8 (lit< tt)) ∙ port_is sel.sport f.sport)
    (ap port_in (word 9 (lit< tt)) ∙ port_is sel.dport f.dport)

limit_back : (given number : ℕ) (o : Option ℕ) → given ≡ given_word o → number ≡ number_word o → limit_in given number ≡ o
limit_back given number o g n = rw (g, n) (limit_is o)

pub limits_back : (words : List ℕ) (at : ℕ) (limits : Limits) → Stands words at (limits_words limits) → limits_of words at ≡ limits
limits_back words at limits s =
    let word : (k : ℕ) → k < 12 → slice_index words (at + k) ≡ slice_index (limits_words limits) k = stands_at words at (limits_words limits) s in
    let first : slice_index words at ≡ limits.time_soft = ap (slice_index words) (omega arith) ∙ word 0 (lit< tt) in
    λ i. record {
      time_soft = first i;
      time_hard = word 1 (lit< tt) i;
      use_soft = word 2 (lit< tt) i;
      use_hard = word 3 (lit< tt) i;
      byte_soft = limit_back _ _ limits.byte_soft (word 4 (lit< tt)) (word 5 (lit< tt)) i;
      byte_hard = limit_back _ _ limits.byte_hard (word 6 (lit< tt)) (word 7 (lit< tt)) i;
      packet_soft = limit_back _ _ limits.packet_soft (word 8 (lit< tt)) (word 9 (lit< tt)) i;
      packet_hard = limit_back _ _ limits.packet_hard (word 10 (lit< tt)) (word 11 (lit< tt)) i;
    }

-- ---- what words give has the ranges of its types

addr_by_fits : (b : Bool) (high low : ℕ) → AddrFits (addr_by b high low)
addr_by_fits true high low = small_fits low
addr_by_fits false high low = tt

pub addr_fits : (family high low : ℕ) → AddrFits (addr_in family high low)
addr_fits family high low = addr_by_fits (family == 4) high low

cut_fits : (a : Addr) (len : ℕ) → AddrFits a → AddrFits (cut a len)
cut_fits (V4 number) len h =
    let e : number / 2 ^ (32 - len) * 2 ^ (32 - len) + number % 2 ^ (32 - len) ≡ number = div-add-mod' number (2 ^ (32 - len)) in omega arith
cut_fits (V6 number) len h = tt

prefix_fits : (family high low len : ℕ) → AddrFits (prefix_in family high low len).addr
prefix_fits family high low len = cut_fits (addr_in family high low) _ (addr_fits family high low)

port_by_fits : (b : Bool) (n : ℕ) → PortFits (cond b None (Some (min n (2 ^ 16 - 1))))
port_by_fits true n = tt
port_by_fits false n = lt_of_le_of_lt (min-le_right n (2 ^ 16 - 1)) (lit< tt)

pub selector_fits : (words : List ℕ) (at : ℕ) → SelectorFits (selector_of words at)
selector_fits words at = record {
  src = prefix_fits _ _ _ _;
  dst = prefix_fits _ _ _ _;
  proto = lt_of_le_of_lt (min-le_right _ (2 ^ 8 - 1)) (lit< tt);
  sport = port_by_fits (slice_index words (at + 8) == 0) _;
  dport = port_by_fits (slice_index words (at + 9) == 0) _;
}
