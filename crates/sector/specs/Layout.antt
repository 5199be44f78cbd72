-- The 512 bytes of a sector: its numbers, its payload and its check.
use Rattle.std.specs.Prelude.{◌≡◌, ℕ, ◌<◌, ◌≤◌, List, ◌∷◌, ◌++◌, length, take, drop, Some, None, Option, ◌≢◌, slice_index, Result, MatchResult}
use Rattle.little_endian.specs.Little.{le16, le32}
use Rattle.sector.specs.Crc.{crc32}
use Rattle.sector.specs.declared.layout.Kind.{Kind}
use Rattle.sector.specs.declared.layout.Kind.TheVariants.{Header, Begin, Block, Trailer, Withdrawal, Opening}
use Rattle.sector.specs.declared.layout.UnknownKind.{UnknownKind}
use Rattle.sector.specs.declared.layout.Fields.{Fields}
use Rattle.sector.specs.declared.layout.Record.{Record}

-- the number that stands for a kind
abbrev pub kind_number : Kind → ℕ
kind_number Header = 1
kind_number Begin = 2
kind_number Block = 3
kind_number Trailer = 4
kind_number Withdrawal = 5
kind_number Opening = 6

-- the numbers that stand for kinds are those from 1 to 6
abbrev pub IsKindNumber : ℕ → Type 0
IsKindNumber n = (1 ≤ n) × (n ≤ 6)

-- the answer to a number is the kind that it stands for; a number that stands for none is given back in an error
abbrev pub Decodes : ℕ → Result Kind UnknownKind → Type 0
Decodes n r = MatchResult r (λ k. (kind_number k ≡ n) × IsKindNumber n) (λ e. (e.0 ≡ n) × (IsKindNumber n → ⊥))

-- bytes 0 to 27: kind, track, count, sitting number, own sector number, epoch, take, A and B
unfoldable pub field_bytes : Fields → List ℕ
field_bytes f =
    kind_number f.kind ∷ f.track ∷ (le16 f.count ++ (le32 f.sitting ++ (le32 f.place ++ (le32 f.epoch
    ++ (le32 f.take ++ (le32 f.a ++ le32 f.b))))))

-- bytes with their check behind them
abbrev pub sealed : List ℕ → List ℕ
sealed body = body ++ le32 (crc32 body)

-- a whole sector: the numbers, the payload, and the check of both
abbrev pub sector_bytes : Fields → List ℕ → List ℕ
sector_bytes f payload = sealed (field_bytes f ++ payload)

-- the place of the payload, bytes 28 to 507
abbrev pub payload_of : List ℕ → List ℕ
payload_of s = take 480 (drop 28 s)

-- numbers that fit their places, and a payload of 480 bytes
pub record Fits (f : Fields) (payload : List ℕ) : Type 0 where
  pub track : f.track < 256
  pub count : f.count < 65536
  pub sitting : f.sitting < 4294967296
  pub place : f.place < 4294967296
  pub epoch : f.epoch < 4294967296
  pub take : f.take < 4294967296
  pub first : f.a < 4294967296
  pub second : f.b < 4294967296
  pub whole : length payload ≡ 480

-- a sector that can have been written whole: its kind is known, and it ends in the check of its other bytes
pub record Sound (s : List ℕ) : Type 0 where
  pub low : 1 ≤ slice_index s 0
  pub high : slice_index s 0 ≤ 6
  pub checked : s ≡ sealed (take 508 s)

-- a sector that is not sound, and that no record has
abbrev pub NoRecord : List ℕ → Type 0
NoRecord s = (Sound s → ⊥) × ((f : Fields) (p : List ℕ) → Fits f p → s ≢ sector_bytes f p)

-- the answer is the record with exactly these numbers and this payload
abbrev pub Gives : Fields → List ℕ → Option Record → Type 0
Gives f payload (Some w) = (w.fields ≡ f) × (w.payload.now ≡ payload)
Gives f payload None = ⊥
