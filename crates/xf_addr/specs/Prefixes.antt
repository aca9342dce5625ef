-- Which texts spell which prefix (RFC 4291, 2.3), and the written form.
use Rattle.std.specs.Prelude.{◌≡◌, ℕ, ◌⊎◌, List, ◌++◌, codes, decimal, Option, Some, None}
use Rattle.xf_types.specs.declared.network.Addr.{Addr}
use Rattle.xf_types.specs.declared.network.Prefix.{Prefix}
use Rattle.xf_types.specs.Address.{width_of, cut}
use Rattle.xf_types.specs.Prefixes.{prefix_at}
use Rattle.xf_addr.specs.Spelling.{Spells}
use Rattle.xf_addr.specs.Reading.{addr_of}
use Rattle.xf_addr.specs.Numbers.{number_of, cut_at}
use Rattle.xf_addr.specs.Text.{addr_text}

-- a slash and a decimal number
abbrev pub length_text : ℕ → List ℕ
length_text n = codes "/" ++ decimal n

-- An address, for all its bits; or an address, a slash and a decimal length without leading zeros. The prefix
-- itself says that it is no longer than its address. The bits past its length are cleared.
pub record SpellsPrefix (text : List ℕ) (p : Prefix) : Type 0 where
  pub front : List ℕ
  pub addr : Addr
  pub spelled : Spells front addr
  pub length : ((text ≡ front) × (p.len ≡ width_of addr)) ⊎ (text ≡ front ++ length_text p.len)
  pub bits : p.addr ≡ cut addr p.len

-- what is read, if the step before it was
infixl 10 ◌>>=◌
abbrev pub ◌>>=◌ : {A B : Type 0} → Option A → (A → Option B) → Option B
(Some x) >>= f = f x
None >>= f = None

-- the prefix of a text that has no slash, or of what stands before and after the first one
unfoldable pub prefix_by : List ℕ → Option (List ℕ × List ℕ) → Option Prefix
prefix_by text None = do
  addr ← addr_of text
  Some (prefix_at addr (width_of addr))
prefix_by text (Some parts) = do
  addr ← addr_of parts.0
  len ← number_of (width_of addr) parts.1
  Some (prefix_at addr len)

-- the prefix that the text spells
abbrev pub prefix_of : List ℕ → Option Prefix
prefix_of text = prefix_by text (cut_at 47 text)

-- a prefix is written with its length
abbrev pub prefix_text : Prefix → List ℕ
prefix_text p = addr_text p.addr ++ length_text p.len
