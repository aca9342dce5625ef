-- The word of each plain value, and the value that each word gives. A word that is no value's own gives one all the same:
-- whether words are a record is asked of the record as a whole, by writing it again.
use Rattle.std.specs.Prelude.{⊤, ℕ, ◌+◌, ◌-◌, ◌*◌, ◌/◌, ◌%◌, ◌^◌, ◌<◌, ◌==◌, min, Bool, true, false, not, if◌then◌else◌, Option, None, Some}
use Rattle.std.proofs.Math.Nat.{min-le_right, lt_of_le_of_lt}
use Rattle.std.proofs.Common.{lit<}
use Rattle.xf_types.specs.declared.network.Addr.{Addr}
use Rattle.xf_types.specs.declared.network.Addr.TheVariants.{V4, V6}
use Rattle.xf_types.specs.declared.network.Dir.{Dir}
use Rattle.xf_types.specs.declared.network.Dir.TheVariants.{In, Out, Fwd}
use Rattle.xf_types.specs.declared.network.Proto.{Proto}
use Rattle.xf_types.specs.declared.network.Proto.TheVariants.{Esp, Ah, Comp}
use Rattle.xf_types.specs.declared.network.Ptype.{Ptype}
use Rattle.xf_types.specs.declared.network.Ptype.TheVariants.{Main, Sub}
use Rattle.xf_types.specs.declared.policy.Action.{Action}
use Rattle.xf_types.specs.declared.policy.Action.TheVariants.{Allow, Block}
use Rattle.xf_types.specs.declared.policy.Level.{Level}
use Rattle.xf_types.specs.declared.policy.Level.TheVariants.{Required, Use}
use Rattle.xf_types.specs.declared.policy.Mode.{Mode}
use Rattle.xf_types.specs.declared.policy.Mode.TheVariants.{Transport, Tunnel, Beet, Ro, InTrigger}
use Rattle.xf_types.specs.Extended.{number_bits}

-- the number of 32 bits that a word gives. A number stands as itself
abbrev pub small_in : ℕ → ℕ
small_in word = min word (2 ^ 32 - 1)

-- it has 32 bits
pub small_fits : (word : ℕ) → small_in word < 2 ^ 32
small_fits word = lt_of_le_of_lt (min-le_right word (2 ^ 32 - 1)) (lit< tt)

-- the number of 8 bits that a word gives
abbrev pub byte_in : ℕ → ℕ
byte_in word = min word (2 ^ 8 - 1)

-- the sequence number that a word gives, by whether the numbers are extended
abbrev pub number_in : Bool → ℕ → ℕ
number_in esn word = min word (2 ^ number_bits esn - 1)

-- it has as many bits as these numbers have
pub number_fits : (esn : Bool) (word : ℕ) → number_in esn word < 2 ^ number_bits esn
number_fits true word = lt_of_le_of_lt (min-le_right word (2 ^ 64 - 1)) (lit< tt)
number_fits false word = lt_of_le_of_lt (min-le_right word (2 ^ 32 - 1)) (lit< tt)

-- a flag's word: 1 where it is set
abbrev pub flag_word : Bool → ℕ
flag_word false = 0
flag_word true = 1

-- the flag that a word gives
abbrev pub flag_in : ℕ → Bool
flag_in word = not (word == 0)

-- the direction that a word gives. Its word is its number, and so with the other kinds
abbrev pub dir_in : ℕ → Dir
dir_in word = if word == 0 then In else (if word == 1 then Out else Fwd)

-- the ptype that a word gives
abbrev pub ptype_in : ℕ → Ptype
ptype_in word = if word == 0 then Main else Sub

-- the action that a word gives
abbrev pub action_in : ℕ → Action
action_in word = if word == 0 then Allow else Block

-- the protocol that a word gives
abbrev pub proto_in : ℕ → Proto
proto_in word = if word == 50 then Esp else (if word == 51 then Ah else Comp)

-- the mode that a word gives
abbrev pub mode_in : ℕ → Mode
mode_in word =
    if word == 0 then Transport
    else (if word == 1 then Tunnel else (if word == 2 then Beet else (if word == 3 then Ro else InTrigger)))

-- the level's number in this file
abbrev pub level_word : Level → ℕ
level_word Required = 0
level_word Use = 1

-- the level that a word gives
abbrev pub level_in : ℕ → Level
level_in word = if word == 0 then Required else Use

-- the word of a port that may be left out: 0, or one more than the port
abbrev pub port_word : Option ℕ → ℕ
port_word None = 0
port_word (Some port) = port + 1

-- the port that a word gives
abbrev pub port_in : ℕ → Option ℕ
port_in word = if word == 0 then None else Some (min (word - 1) (2 ^ 16 - 1))

-- a port has 16 bits
abbrev pub PortFits : Option ℕ → Type 0
PortFits None = ⊤
PortFits (Some port) = port < 2 ^ 16

-- the first word of a limit that may be left out: whether it is there
abbrev pub given_word : Option ℕ → ℕ
given_word None = 0
given_word (Some number) = 1

-- the second word: its number, or 0
abbrev pub number_word : Option ℕ → ℕ
number_word None = 0
number_word (Some number) = number

-- the limit that two words give
abbrev pub limit_in : ℕ → ℕ → Option ℕ
limit_in given number = if given == 0 then None else Some number

-- the second word of an address, its high 64 bits. The first is its family
abbrev pub high_word : Addr → ℕ
high_word (V4 number) = 0
high_word (V6 number) = number / 2 ^ 64

-- the third word, its low 64 bits
abbrev pub low_word : Addr → ℕ
low_word (V4 number) = number
low_word (V6 number) = number % 2 ^ 64

-- the address with these halves, by whether it is of version 4
abbrev pub addr_by : Bool → ℕ → ℕ → Addr
addr_by true high low = V4 (small_in low)
addr_by false high low = V6 (high * 2 ^ 64 + low)

-- the address that three words give
abbrev pub addr_in : ℕ → ℕ → ℕ → Addr
addr_in family high low = addr_by (family == 4) high low

-- an address of version 4 has 32 bits
abbrev pub AddrFits : Addr → Type 0
AddrFits (V4 number) = number < 2 ^ 32
AddrFits (V6 number) = ⊤
