-- One byte, four bytes and eight bytes at once.
use Rattle.std.proofs.Common.{◌≡◌, ℕ, ◌/◌, ◌%◌, ◌^◌, ◌<◌, List, length, sym, ap, ap₂, ◌∙◌, arith, take_all}
use lib.Bits.{bit_xor}
use Rattle.std.specs.Int.{bytes_low_first}
use Rattle.std.specs.Simd.Lanes.{number_l}
use Rattle.little_endian.specs.Little.{Bytes}
use Rattle.little_endian.proofs.Little.{little_is}
use Rattle.little_endian.proofs.Parts.{spelled, spelled_is}
use Rattle.sector.specs.Crc.{steps, register}
use Rattle.sector.proofs.Slices.{bits, peel, register_little, register_number}

pub byte_is : (z r : ℕ) → r ≡ steps 8 (z % 256) → bit_xor r (z / 256) ≡ steps 8 z
unfolding steps
byte_is z r e = ap (λ (x : ℕ). bit_xor x (z / 256)) e ∙ sym (peel 0 z)

-- the bytes of a register were taken from 0
pub shift_is : (k z r : ℕ) (bs : List ℕ) → z < 256 ^ k → bs ≡ bytes_low_first 0 k z → r ≡ register 0 bs → r ≡ steps (bits k 0) z
shift_is k z r bs h e er = er ∙ ap (register 0) (e ∙ little_is k z) ∙ register_little k z h

-- m bytes taken in as one number
pub load_is : (m : ℕ) (xs : List ℕ) (w : ℕ) → length xs ≡ m → Bytes xs → w ≡ number_l 256 (spelled m 0 xs) → (c : ℕ) → register c xs ≡ steps (bits m 0) (bit_xor c w)
load_is m xs w n h e c =
    register_number xs c h
    ∙ ap₂ (λ (k x : ℕ). steps (bits k 0) (bit_xor c x)) n (ap (number_l 256) (sym (spelled_is m 0 xs (omega arith) ∙ take_all m xs (omega arith))) ∙ sym e)
