-- Digits that are read from the left.
use Rattle.std.proofs.Common.{◌≡◌, ℕ, suc, ◌+◌, ◌-◌, ◌*◌, ◌<◌, ◌≤◌, ◌&&◌, List, [], ◌∷◌, length, get_or, drop, Option, Some, None, arith, nat_le, if◌then◌else◌}
use Rattle.std.specs.List.{list_all}
use Rattle.std.proofs.Math.Seq.{drop-cons}
use Rattle.std.proofs.lemmas.List.{drop_all}
use Rattle.std.proofs.lemmas.Bool.Decides.{nat_tests}
use Rattle.script.specs.Numbers.{is_digit, value_after}

-- what digits after the number n write, if that is no more than the most
abbrev pub natural_after : ℕ → ℕ → List ℕ → Option ℕ
natural_after most n digits = if list_all is_digit digits && nat_le (value_after n digits) most then Some (value_after n digits) else None

-- digits after a number write no lower one
pub value_after-grows : (n : ℕ) (digits : List ℕ) → n ≤ value_after n digits
value_after-grows n [] = omega arith
value_after-grows n (digit ∷ digits) = omega (arith, value_after-grows (n * 10 + (digit - 48)) digits)

-- a digit too many
pub natural_after_large : (most n : ℕ) (digits : List ℕ) (i : ℕ) → i < length digits → most < n * 10 + (get_or digits i 0 - 48) → natural_after most n (drop i digits) ≡ None
natural_after_large most n digits i h large =
    let grows = value_after-grows (n * 10 + (get_or digits i 0 - 48)) (drop (suc i) digits) in
    rw (drop-cons digits i 0) (grind (arith, nat_tests))

-- no digit is left
pub natural_after_all : (most n : ℕ) (digits : List ℕ) (i : ℕ) → length digits ≤ i → n ≤ most → natural_after most n (drop i digits) ≡ Some n
natural_after_all most n digits i h small =
    let none : drop i digits ≡ [] = drop_all i digits h in
    rw none (grind (arith, nat_tests))
