-- A selector whose prefixes have one family is built, whatever proof of that it keeps.
use Rattle.std.proofs.Common.{◌≡◌, ℕ, refl, ap, sym, Option, Result, Ok, Err, arith, subst}
use Rattle.xf_types.specs.declared.network.Addr.{Addr}
use Rattle.xf_types.specs.declared.network.Addr.TheVariants.{V4, V6}
use Rattle.xf_types.specs.declared.network.Prefix.{Prefix}
use Rattle.xf_types.specs.declared.network.Selector.{Selector}
use Rattle.xf_types.specs.declared.status.Reason.{Reason}
use Rattle.xf_types.specs.declared.status.Reason.TheVariants.{Family}
use Rattle.xf_types.specs.Address.{family_of}
use Rattle.xf_types.proofs.SameFields.{selector_ext}
use Rattle.xf_read.specs.Selectors.{one_family, judged_family, selector_between}

-- two addresses of one family are found to be so
one_family-ok : (a b : Addr) → family_of a ≡ family_of b → (e : family_of a ≡ family_of b) × (one_family a b ≡ Ok e)
one_family-ok (V4 a) (V4 b) h = (refl, refl)
one_family-ok (V6 a) (V6 b) h = (refl, refl)
one_family-ok (V4 a) (V6 b) h = absurd (omega (arith, h))
one_family-ok (V6 a) (V4 b) h = absurd (omega (arith, h))

-- the reason of a fault
abbrev reason_or : Reason → Result (Unit {0}) Reason → Reason
reason_or other (Ok x) = other
reason_or other (Err reason) = reason

-- it was read
abbrev WasRead : Result (Unit {0}) Reason → Type 0
WasRead (Ok x) = Unit {0}
WasRead (Err reason) = ⊥

-- and those of two families are not
one_family-err : (a b : Addr) (reason : Reason) → judged_family a b ≡ Err reason → one_family a b ≡ Err reason
one_family-err (V4 a) (V4 b) reason h = absurd (subst WasRead h tt)
one_family-err (V6 a) (V6 b) reason h = absurd (subst WasRead h tt)
one_family-err (V4 a) (V6 b) reason h = ap Err (ap (reason_or Family) h)
one_family-err (V6 a) (V4 b) reason h = ap Err (ap (reason_or Family) h)

-- a selector is built from its own fields
pub selector_is_built : (s : Selector) → Ok s ≡ selector_between s.src s.dst s.proto s.sport s.dport
unfolding selector_between
selector_is_built s =
    let one = one_family-ok s.src.addr s.dst.addr s.facts.one_family in
    let built : Selector = record {
      src = s.src;
      dst = s.dst;
      proto = s.proto;
      sport = s.sport;
      dport = s.dport;
      facts = record { one_family = one.0 };
    } in
    let same : built ≡ s = selector_ext built s refl refl refl refl refl in
    rw one.1 (ap Ok (sym same))

-- no selector is built between two families
pub selector_is_refused : (src dst : Prefix) (proto : ℕ) (sport dport : Option ℕ) (reason : Reason)
    → judged_family src.addr dst.addr ≡ Err reason → Err reason ≡ selector_between src dst proto sport dport
unfolding selector_between
selector_is_refused src dst proto sport dport reason h = rw (one_family-err src.addr dst.addr reason h) refl
