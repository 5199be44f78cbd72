-- Worked examples of the definitions, in one place.
use Rattle.std.specs.Prelude.{◌≡◌, ℕ, [], ◌∷◌, codes, negsuc}
use Rattle.sector.specs.Crc.{crc32}
use Rattle.element.specs.declared.kind.Kind.TheVariants.{Sound, Mark}
use Rattle.element.specs.declared.mark.Event.TheVariants.{Raised}
use Rattle.element.specs.Sounds.{sample_bytes}
use Rattle.element.specs.Marks.{event_number, mark_bytes}
use Rattle.takes.specs.Entries.{History, opening, begin, block, trailer, withdrawal}
use Rattle.takes.specs.Tracks.{track, TableRun, TableAdmits}
use Rattle.journal.specs.Log.{Counts}

-- 1 2 3 4 on track 1, in a take that has ended
abbrev pub four_long : History ℕ
four_long = trailer 1 ∷ block 1 (3 ∷ 4 ∷ []) ∷ block 1 (1 ∷ 2 ∷ []) ∷ begin 1 0 ∷ opening ∷ []

-- the bytes of values, tracks, and how many elements a block may have
pub record WorkedExamples : Type 0 where
  -- the check of the text 123456789
  pub check : crc32 (codes "123456789") ≡ 0xCBF43926
  -- sample -32,768, and mark 1000, 63, raised
  pub sample : sample_bytes (negsuc 32767) ≡ 0x00 ∷ 0x80 ∷ []
  pub mark : mark_bytes (record { tick = 1000; point = 63; event = event_number Raised }) ≡ 0xE8 ∷ 0x03 ∷ 0x00 ∷ 0x00 ∷ 0x3F ∷ 0x00 ∷ 0x01 ∷ 0x00 ∷ []
  -- on 1 2 3 4: elements 9 9 at position 1, and 5 at position 4
  pub first : track four_long 1 ≡ 1 ∷ 2 ∷ 3 ∷ 4 ∷ []
  pub over : track (block 2 (9 ∷ 9 ∷ []) ∷ begin 1 1 ∷ four_long) 1 ≡ 1 ∷ 9 ∷ 9 ∷ 4 ∷ []
  pub more : track (block 2 (5 ∷ []) ∷ begin 1 4 ∷ four_long) 1 ≡ 1 ∷ 2 ∷ 3 ∷ 4 ∷ 5 ∷ []
  -- once the former is withdrawn, what stood before is heard again
  pub back : track (withdrawal 1 2 ∷ trailer 2 ∷ block 2 (9 ∷ 9 ∷ []) ∷ begin 1 1 ∷ four_long) 1 ≡ 1 ∷ 2 ∷ 3 ∷ 4 ∷ []
  -- the table admits all of that, but no take at position 5, which is beyond the end, and none beside an open one
  pub run : TableRun (withdrawal 1 2 ∷ trailer 2 ∷ block 2 (9 ∷ 9 ∷ []) ∷ begin 1 1 ∷ four_long)
  pub beyond : TableAdmits four_long (begin 1 5) → ⊥
  pub beside : TableAdmits (begin 1 1 ∷ four_long) (begin 1 0) → ⊥
  -- 240 samples or 60 marks fit a block; 241, 61 and none do not
  pub samples : Counts Sound 240
  pub samples_over : Counts Sound 241 → ⊥
  pub samples_none : Counts Sound 0 → ⊥
  pub marks : Counts Mark 60
  pub marks_over : Counts Mark 61 → ⊥
