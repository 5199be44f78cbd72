-- What a change of an image's bytes leaves as it was.
use Rattle.std.specs.Prelude.{◌≡◌, ℕ, cond, List, length, ◌==◌}
use Rattle.images.specs.declared.sectors.Sectors.{Sectors}
use Rattle.images.specs.Sectors.{content, over}

-- s becomes n, with these bytes, the same sick sectors and the same lender
pub record Rewrites (s : Sectors) (disk : List ℕ) (n : Sectors) : Type 0 where
  pub bytes : n.bytes.now ≡ disk
  pub sick : n.sick ≡ s.sick
  pub lender : n.bytes.ghost_name ≡ s.bytes.ghost_name

-- s becomes n, with b as the content of sector k, every other content as it was, and as many bytes
pub record Stores (s : Sectors) (k : ℕ) (b : List ℕ) (n : Sectors) : Type 0 where
  pub rewrites : Rewrites s (over s.bytes.now k b) n
  pub each : (t : ℕ) → content n.bytes.now t ≡ cond (t == k) b (content s.bytes.now t)
  pub long : length n.bytes.now ≡ length s.bytes.now
