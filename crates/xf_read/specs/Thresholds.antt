-- From fields to thresholds.
use Rattle.std.specs.Prelude.{ℕ, ◌≤◌, ◌||◌, if◌then◌else◌, List, min, Option, None, Some, is_some, Result, Ok, Err}
use Rattle.std.specs.Option.{ForSome}
use Rattle.std.proofs.Common.{subst}
use Rattle.std.proofs.Math.Nat.{min-le_right}
use Rattle.std.proofs.lemmas.Option.{none-some, same_Some}
use Rattle.xf_types.specs.declared.policy.Thresholds.{Thresholds}
use Rattle.xf_types.specs.declared.status.Reason.{Reason}
use Rattle.xf_types.specs.declared.status.Reason.TheVariants.{Missing}
use Rattle.xf_grammar.specs.declared.row.Field.{Field}
use Rattle.xf_grammar.specs.declared.row.Slot.TheVariants as slot
use Rattle.xf_grammar.specs.Lookups.{u8_at}

-- a pair of lengths that are no longer than an address: the range of the table's words says the same
abbrev pub lengths : ℕ → Option ℕ → Option ℕ → Option (ℕ × ℕ)
lengths most None remote = None
lengths most (Some local) None = None
lengths most (Some local) (Some remote) = Some (min local most, min remote most)

-- the first of a pair is no longer
pub local_fits : (most : ℕ) (a b : Option ℕ) → ForSome (lengths most a b) (λ lens. lens.0 ≤ most)
local_fits most None b x e = absurd (none-some x e)
local_fits most (Some a) None x e = absurd (none-some x e)
local_fits most (Some a) (Some b) x e =
    subst (λ (lens : ℕ × ℕ). lens.0 ≤ most) (same_Some (min a most, min b most) x e) (min-le_right a most)

-- nor is the second
pub remote_fits : (most : ℕ) (a b : Option ℕ) → ForSome (lengths most a b) (λ lens. lens.1 ≤ most)
remote_fits most None b x e = absurd (none-some x e)
remote_fits most (Some a) None x e = absurd (none-some x e)
remote_fits most (Some a) (Some b) x e =
    subst (λ (lens : ℕ × ℕ). lens.1 ≤ most) (same_Some (min a most, min b most) x e) (min-le_right b most)

-- the thresholds that a line gives
abbrev pub thresholds_of : List Field → Thresholds
thresholds_of fs = record {
  v4 = lengths 32 (u8_at slot.Local4 fs) (u8_at slot.Remote4 fs);
  v6 = lengths 128 (u8_at slot.Local6 fs) (u8_at slot.Remote6 fs);
  facts = record {
    local4 = local_fits 32 (u8_at slot.Local4 fs) (u8_at slot.Remote4 fs);
    remote4 = remote_fits 32 (u8_at slot.Local4 fs) (u8_at slot.Remote4 fs);
    local6 = local_fits 128 (u8_at slot.Local6 fs) (u8_at slot.Remote6 fs);
    remote6 = remote_fits 128 (u8_at slot.Local6 fs) (u8_at slot.Remote6 fs);
  };
}

-- at least one of them is given
abbrev pub some_thresholds : Thresholds → Result Thresholds Reason
some_thresholds t = if is_some t.v4 || is_some t.v6 then Ok t else Err Missing
