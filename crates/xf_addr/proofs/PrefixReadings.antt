-- The function that reads a prefix is the grammar, and reads what is written.
use Rattle.std.proofs.Common.{◌≡◌, ◌≢◌, ℕ, ◌≤◌, List, [], ◌∷◌, ◌++◌, decimal, Option, Some, None, refl, sym, ap, ◌∙◌, subst, inl, inr, arith}
use Rattle.std.proofs.lemmas.List.Elements.{All-nil}
use Rattle.std.proofs.lemmas.Option.{none-some, same_Some}
use Rattle.std.proofs.Math.Nat.{min-eq_left}
use Rattle.xf_types.specs.declared.network.Addr.{Addr}
use Rattle.xf_types.specs.declared.network.Addr.TheVariants.{V4, V6}
use Rattle.xf_types.specs.declared.network.Prefix.{Prefix}
use Rattle.xf_types.specs.Address.{width_of, cut}
use Rattle.xf_types.specs.Prefixes.{prefix_at}
use Rattle.xf_types.proofs.AddressLemmas.{width_of-cut, prefix_is}
use Rattle.xf_addr.specs.Reading.{addr_of}
use Rattle.xf_addr.specs.Numbers.{cut_at}
use Rattle.xf_addr.specs.Prefixes.{SpellsPrefix, length_text, prefix_by, prefix_of, prefix_text, ◌>>=◌}
use Rattle.xf_addr.specs.Text.{addr_text}
use Rattle.xf_addr.proofs.CleanCuts.{cut_clean}
use Rattle.xf_addr.proofs.Cuts.{cut_lacks, cut_skip, cut_sound}
use Rattle.xf_addr.proofs.Slashes.{spelled_lacks}
use Rattle.xf_addr.proofs.Decimals.{number_of-decimal, decimal-number_of}
use Rattle.xf_addr.proofs.Readings.{addr_of-spelled, spelled-addr_of}

-- where two steps give a value, each of them does
bind_some : {A B : Type 0} (o : Option A) (f : A → Option B) (y : B) → (o >>= f) ≡ Some y
    → (x : A) × (o ≡ Some x) × (f x ≡ Some y)
bind_some None f y e = absurd (none-some y e)
bind_some (Some x) f y e = (x, refl, e)

-- an address has at most 128 bits
width_bound : (a : Addr) → width_of a ≤ 128
width_bound (V4 n) = omega arith
width_bound (V6 n) = omega arith

-- a spelling is read as what it spells
pub prefix_of-spelled : (text : List ℕ) (p : Prefix) → SpellsPrefix text p → prefix_of text ≡ Some p
unfolding prefix_by
prefix_of-spelled text p h =
    let lacks = spelled_lacks h.front h.addr h.spelled in
    let read = addr_of-spelled h.front h.addr h.spelled in
    let width = width_of h.addr in
    let bound = width_bound h.addr in
    elim h.length [
      | inl whole ↦
          let same : p ≡ prefix_at h.addr width = prefix_is p h.addr width (omega arith) whole.1 (h.bits ∙ ap (cut h.addr) whole.1) in
          rw (whole.0, cut_lacks 47 h.front [] lacks, read, ← same) refl
      | inr split ↦
          let fits : p.len ≤ width = omega (arith, p.facts.fits, ap width_of h.bits, width_of-cut h.addr p.len) in
          let same : p ≡ prefix_at h.addr p.len = prefix_is p h.addr p.len fits refl h.bits in
          let number = number_of-decimal width p.len fits (omega arith) in
          rw (split, cut_skip 47 h.front [] (decimal p.len) lacks, read, number, ← same) refl
    ]

-- what is read is spelled so
pub spelled-prefix_of : (text : List ℕ) (p : Prefix) → prefix_of text ≡ Some p → SpellsPrefix text p
unfolding prefix_by
spelled-prefix_of text p e = go (cut_at 47 text) refl e
  where
    go : (o : Option (List ℕ × List ℕ)) → cut_at 47 text ≡ o → prefix_by text o ≡ Some p → SpellsPrefix text p
    go None was h =
        let (addr, read, made) = bind_some _ _ p h in
        let same = same_Some _ _ made in
        subst (SpellsPrefix text) same (record {
          front = text;
          addr = addr;
          spelled = spelled-addr_of text addr read;
          length = inl (refl, min-eq_left (omega arith));
          bits = refl;
        })
    go (Some parts) was h =
        let (addr, read, more) = bind_some _ _ p h in
        let (len, number, made) = bind_some _ _ p more in
        let same = same_Some _ _ made in
        let bound = width_bound addr in
        let (digits, fits) = decimal-number_of (width_of addr) parts.1 len (omega arith) number in
        let split = (cut_sound 47 text [] parts (All-nil (λ c. c ≢ 47)) was).0 in
        let shown : text ≡ parts.0 ++ length_text len = split ∙ ap (λ (t : List ℕ). parts.0 ++ 47 ∷ t) digits in
        subst (SpellsPrefix text) same (record {
          front = parts.0;
          addr = addr;
          spelled = spelled-addr_of parts.0 addr read;
          length = inr (shown ∙ ap (λ (n : ℕ). parts.0 ++ length_text n) (sym (min-eq_left fits)));
          bits = refl;
        })

-- a text has one prefix
pub spells_one_prefix : (text : List ℕ) (p q : Prefix) → SpellsPrefix text p → SpellsPrefix text q → p ≡ q
spells_one_prefix text p q h k = same_Some _ _ (sym (prefix_of-spelled text p h) ∙ prefix_of-spelled text q k)

-- a text that is read as none spells no prefix
pub no_prefix : (text : List ℕ) → None ≡ prefix_of text → (p : Prefix) → ¬ (SpellsPrefix text p)
no_prefix text none p h = none-some p (none ∙ prefix_of-spelled text p h)

-- what is written spells the prefix
pub spells-prefix_text : (p : Prefix) → addr_of (addr_text p.addr) ≡ Some p.addr → SpellsPrefix (prefix_text p) p
spells-prefix_text p h = record {
  front = addr_text p.addr;
  addr = p.addr;
  spelled = spelled-addr_of _ p.addr h;
  length = inr refl;
  bits = sym (cut_clean p.addr p.len p.facts.clean);
}

-- what is written is read as the same prefix
pub prefix_is_read : (p : Prefix) → addr_of (addr_text p.addr) ≡ Some p.addr → prefix_of (prefix_text p) ≡ Some p
prefix_is_read p h = prefix_of-spelled _ p (spells-prefix_text p h)
