-- What the words tell the exact part.
use Rattle.std.specs.Prelude.{ℕ, List}
use Rattle.xf_types.specs.Machine.{Shown}
use Rattle.xf_image.specs.declared.area.PolicyArea.{PolicyArea}
use Rattle.xf_image.specs.Policies.{CountersStand}
use Rattle.xf_exact.specs.Parts.{Tells}

pub record PartLaws : Type 0 where
  -- the words of a policy list tell its thresholds
  pub tells : (a : PolicyArea) (image : List ℕ) (s : Shown) → CountersStand a image s → Tells a image s.hthresh4 s.hthresh6
