-- Words that are 0 and values that are dead stand for the empty machine.
use Rattle.std.proofs.Common.{ℕ, zero, suc, ◌≡◌, ◌≤◌, Bool, [], refl, replicate, get_or}
use Rattle.std.proofs.lemmas.List.{length-replicate}
use Rattle.std.proofs.lemmas.List.Elements.{All-nil}
use Rattle.xf_types.specs.Steps.{empty}
use Rattle.xf_laws.proofs.KeepLemmas.{empty-is}
use Rattle.xf_cells.specs.Words.{zeros}
use Rattle.xf_trie.proofs.Empties.{zeros_at}
use Rattle.xf_image.proofs.Empties as policies
use Rattle.xf_inexact.specs.Whole.{trees_of}
use Rattle.xf_inexact.proofs.Empties.{part_empty, zeros_empty}
use Rattle.xf_sadimage.proofs.Empties as states
use Rattle.xf_local.specs.View.{LocalView, Dead}
use Rattle.xf_rows.specs.declared.layout.Layout.{Layout}
use Rattle.xf_rows.specs.Layouts.{Fits}
use Rattle.xf_rows.specs.Values.{Beside, Keeps}
use Rattle.xf_rows.specs.Stands.{Stands}

all_dead : (n slot : ℕ) → get_or (replicate {A = LocalView} n Dead) slot Dead ≡ Dead
all_dead zero slot = refl
all_dead (suc n) zero = refl
all_dead (suc n) (suc slot) = all_dead n slot

pub stands_empty : (layout : Layout) (size : ℕ) (held : ℕ → Bool) → Fits layout size
    → Stands layout (zeros size) (record { held = held; values = replicate layout.states.slots Dead }) (empty layout.policies.slots layout.states.slots)
stands_empty layout size held fits =
    let most : layout.policies.slots ≤ 4096 = fits.policies.places.area.most in
    let least : layout.states.slots ≤ 8192 = fits.states.area.most in
    let b : Beside = record { held = held; values = replicate layout.states.slots Dead } in
    record {
      policies = [];
      rows = [];
      on_policies = record {
        list = policies.zeros_stand layout.policies size layout.states.slots;
        part = part_empty (trees_of layout.policies) (zeros size) (32, 32) (128, 128) (zeros_empty (trees_of layout.policies) size);
      };
      on_states = states.zeros_stand layout.states size layout.policies.slots;
      own = refl;
      time = zeros_at size layout.clock;
      values = record { live = All-nil (Keeps 0 b); dead = λ slot within held m. all_dead layout.states.slots slot };
      count = length-replicate layout.states.slots Dead;
      machine = empty-is layout.policies.slots layout.states.slots most least;
    }
