-- The rules of the language, with no reading in them: each command's name, and the fields after it.
use Rattle.std.specs.Prelude.{◌≡◌, ℕ, suc, ◌<◌, ◌≤◌, List, [], ◌∷◌, map, length, ℤ, pos, negsuc, codes, IsTrue}
use Rattle.std.specs.List.{AllZip, join_with_byte}
use Rattle.element.specs.declared.kind.Kind.{Kind}
use Rattle.element.specs.declared.kind.Kind.TheVariants.{Sound as SoundKind, Mark as MarkKind}
use Rattle.script.specs.Said.{Said, Format, Mount, Arm, Begin, Sound, Mark, End, Withdraw, Play, Save, Cut, Fuse}
use Rattle.script.specs.Numbers.{is_numeral, value}

-- what a word may say: a number from the least to the most, a sample, or kinds
pub data Field : Type 0 where
  Number : (least most number : ℕ) → Field
  Sample : (sample : ℤ) → Field
  Letters : (kinds : List Kind) → Field

-- the letter of a kind: `s`, which is 115, and `m`, which is 109
abbrev pub letter : Kind → ℕ
letter SoundKind = 115
letter MarkKind = 109

-- a word is digits that write the number
abbrev pub Writes : List ℕ → ℕ → Type 0
Writes word number = IsTrue (is_numeral word) × (value word ≡ number)

-- the word says the field; a number below 0 has its digits after a minus, which is 45
abbrev pub IsWord : Field → List ℕ → Type 0
IsWord (Number least most number) word = (least ≤ number) × (number ≤ most) × Writes word number
IsWord (Sample (pos n)) word = (n ≤ 32767) × Writes word n
IsWord (Sample (negsuc n)) word = (n < 32768) × (digits : List ℕ) × (word ≡ 45 ∷ digits) × Writes digits (suc n)
IsWord (Letters kinds) word = (0 < length kinds) × (word ≡ map letter kinds)

-- a number of one byte, of two, and of four
abbrev pub byte_field : ℕ → Field
byte_field number = Number 0 255 number

abbrev pub two_byte_field : ℕ → Field
two_byte_field number = Number 0 65535 number

abbrev pub four_byte_field : ℕ → Field
four_byte_field number = Number 0 4294967295 number

-- the name of a command
abbrev pub name : Said → List ℕ
name (Format kinds rate sitting) = codes "format"
name Mount = codes "mount"
name Arm = codes "arm"
name (Begin track position) = codes "begin"
name (Sound take samples) = codes "sound"
name (Mark take mark) = codes "mark"
name (End take) = codes "end"
name (Withdraw track) = codes "withdraw"
name (Play track) = codes "play"
name Save = codes "save"
name (Cut plan) = codes "cut"
name (Fuse count) = codes "fuse"

-- its fields, in the order of their words
abbrev pub fields : Said → List Field
fields (Format kinds rate sitting) = Letters kinds ∷ four_byte_field rate ∷ four_byte_field sitting ∷ []
fields Mount = []
fields Arm = []
fields (Begin track position) = byte_field track ∷ four_byte_field position ∷ []
fields (Sound take samples) = four_byte_field take ∷ map Sample samples
fields (Mark take mark) = four_byte_field take ∷ four_byte_field mark.tick ∷ two_byte_field mark.point ∷ byte_field mark.event ∷ []
fields (End take) = four_byte_field take ∷ []
fields (Withdraw track) = byte_field track ∷ []
fields (Play track) = byte_field track ∷ []
fields Save = []
fields (Cut plan) = map byte_field plan
fields (Fuse count) = Number 1 4294967295 count ∷ []

-- a line says a command: its name and a word for each field, with one space, which is 32, between each two
pub record Says (line : List ℕ) (command : Said) : Type 0 where
  pub args : List (List ℕ)
  pub each : AllZip IsWord (fields command) args
  pub joined : line ≡ join_with_byte 32 (name command ∷ args)
  pub short : length line ≤ 2048
