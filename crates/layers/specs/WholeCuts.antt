-- What a cut does to a layer and to everything below it.
use Rattle.std.specs.Prelude.{◌≡◌, ℕ, List, ◌∷◌, ◌++◌, map}
use Rattle.device.specs.Meaning.{Meaning}
use Rattle.device.specs.Cuts.{EachCut, cut_by}
use Rattle.layers.specs.declared.fuse.Fuse.{Fuse}
use Rattle.layers.specs.declared.mirror.Mirror.{Mirror}

-- a device and every one under it was cut, and its images by the plan
pub record WholeCut {D : Type 0} (means : D → Meaning) (bottom under : D → List Meaning) (plan : List ℕ) (x x' : D) : Type 0 where
  pub images : bottom x' ≡ map (cut_by plan) (bottom x)
  pub each : EachCut (means x ∷ under x) (means x' ∷ under x')

-- under a fuse: its device, and what is under that
abbrev pub under_fuse : {D : Type 0} → (D → Meaning) → (D → List Meaning) → Fuse D → List Meaning
under_fuse means under f = means f.inner ∷ under f.inner

-- a mirror's images: those of both sides
abbrev pub mirror_images : {D E : Type 0} → (D → List Meaning) → (E → List Meaning) → Mirror D E → List Meaning
mirror_images d e m = d m.first ++ e m.second

-- under a mirror: each side, and what is under it
abbrev pub under_mirror : {D E : Type 0} → (D → Meaning) → (D → List Meaning) → (E → Meaning) → (E → List Meaning) → Mirror D E → List Meaning
under_mirror d under e under' m = (d m.first ∷ under m.first) ++ (e m.second ∷ under' m.second)
