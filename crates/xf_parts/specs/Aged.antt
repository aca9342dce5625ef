-- One value at a later time.
use Rattle.std.specs.Prelude.{ℕ, if◌then◌else◌}
use Rattle.xf_local.specs.View.{aged}
use Rattle.xf_rows.specs.Values.{Beside, at, value_put}

-- the value of a slot at a later time, where its turn is held
abbrev pub aged_if_held : ℕ → Beside → ℕ → Beside
aged_if_held now b slot = if b.held slot then value_put b slot (aged now (at b slot)) else b
