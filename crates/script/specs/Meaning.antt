-- What a line means.
use Rattle.std.specs.Prelude.{ℕ, Bool, ◌&&◌, List, [], ◌∷◌, length, Option, Some, None, nat_lt, nat_le, codes, ◌==◌, if◌then◌else◌}
use Rattle.std.specs.List.{list_all, slice_split}
use Rattle.std.specs.Option.{option_and_then, option_map}
use Rattle.std.specs.Str.{bytes_eq}
use Rattle.element.specs.declared.kind.Kind.{Kind}
use Rattle.element.specs.declared.kind.Kind.TheVariants.{Sound as SoundKind, Mark as MarkKind}
use Rattle.script.specs.Said.{Said, Format, Mount, Arm, Begin, Sound, Mark, End, Withdraw, Play, Save, Cut, Fuse}
use Rattle.script.specs.Numbers.{byte, two_bytes, four_bytes, sample}

-- what f makes of what is there
infixl 10 ◌>>=◌
abbrev pub ◌>>=◌ : {A B : Type 0} → Option A → (A → Option B) → Option B
o >>= f = option_and_then f o

-- what the one word says
abbrev pub one : {A : Type 0} → (List ℕ → Option A) → List (List ℕ) → Option A
one read (word ∷ []) = read word
one read _ = None

-- what each item says, in order, if each says something
abbrev pub each : {A B : Type 0} → (A → Option B) → List A → Option (List B)
each read [] = Some []
each read (item ∷ items) = do
  first ← read item
  rest ← each read items
  Some (first ∷ rest)

-- the kind that a letter says: `s`, which is 115, is sound, and `m`, which is 109, is marks
abbrev pub kind : ℕ → Option Kind
kind letter = if letter == 115 then Some SoundKind else (if letter == 109 then Some MarkKind else None)

-- the kinds that letters say, of which there is one at least
abbrev pub kinds : List ℕ → Option (List Kind)
kinds letters = if nat_lt 0 (length letters) then each kind letters else None

-- `format LETTERS RATE SITTING`
abbrev pub format : List (List ℕ) → Option Said
format (letters ∷ rate ∷ sitting ∷ []) = do
  kinds ← kinds letters
  rate ← four_bytes rate
  sitting ← four_bytes sitting
  Some (Format kinds rate sitting)
format _ = None

-- a name with no words after it
abbrev pub alone : Said → List (List ℕ) → Option Said
alone command [] = Some command
alone command _ = None

-- `begin TRACK POSITION`
abbrev pub begin : List (List ℕ) → Option Said
begin (track ∷ position ∷ []) = do
  track ← byte track
  position ← four_bytes position
  Some (Begin track position)
begin _ = None

-- `sound TAKE SAMPLES..`
abbrev pub sound : List (List ℕ) → Option Said
sound (take ∷ samples) = do
  take ← four_bytes take
  samples ← each sample samples
  Some (Sound take samples)
sound [] = None

-- `mark TAKE TICK POINT EVENT`
abbrev pub mark : List (List ℕ) → Option Said
mark (take ∷ tick ∷ point ∷ event ∷ []) = do
  take ← four_bytes take
  tick ← four_bytes tick
  point ← two_bytes point
  event ← byte event
  Some (Mark take (record { tick = tick; point = point; event = event }))
mark _ = None

-- `cut PLAN..`
abbrev pub cut : List (List ℕ) → Option Said
cut args = option_map Cut (each byte args)

-- `fuse COUNT`, where 0 is no count
abbrev pub fuse : List (List ℕ) → Option Said
fuse args = do
  count ← one four_bytes args
  if nat_lt 0 count then Some (Fuse count) else None

-- what words say: a name, and what that name wants after it
abbrev pub command : List (List ℕ) → Option Said
command [] = None
command (name ∷ args) =
    if bytes_eq name (codes "format") then format args
    else (if bytes_eq name (codes "mount") then alone Mount args
    else (if bytes_eq name (codes "arm") then alone Arm args
    else (if bytes_eq name (codes "begin") then begin args
    else (if bytes_eq name (codes "sound") then sound args
    else (if bytes_eq name (codes "mark") then mark args
    else (if bytes_eq name (codes "end") then option_map End (one four_bytes args)
    else (if bytes_eq name (codes "withdraw") then option_map Withdraw (one byte args)
    else (if bytes_eq name (codes "play") then option_map Play (one byte args)
    else (if bytes_eq name (codes "save") then alone Save args
    else (if bytes_eq name (codes "cut") then cut args
    else (if bytes_eq name (codes "fuse") then fuse args
    else None)))))))))))

-- the words of a line: a space, which is 32, stands between each two
abbrev pub words : List ℕ → List (List ℕ)
words line = slice_split (λ byte. byte == 32) line

-- at most 2,048 bytes, and each ASCII, that is below 128
abbrev pub is_plain : List ℕ → Bool
is_plain line = nat_le (length line) 2048 && list_all (λ byte. nat_lt byte 128) line

-- what a line means, if anything
abbrev pub meaning : List ℕ → Option Said
meaning line = if is_plain line then command (words line) else None
