-- What a number in three digits is.
use Rattle.std.proofs.Common.{◌≡◌, ℕ, ◌-◌, ◌^◌, ◌++◌, false, [], length, replicate, ap₂, arith}
use Rattle.std.proofs.lemmas.List.{append-nil}
use Rattle.std.specs.Fmt.{decimal, padded_integral, format_spec, char_count}
use Rattle.wavecheck.specs.Text.{three_digits}

-- what `{:03}` writes
pub three_padded : (n : ℕ) → padded_integral (format_spec 32 0 4 3 (2 ^ 64 - 1)) false [] (decimal n) ≡ three_digits n
unfolding padded_integral char_count
three_padded n =
    let none : 3 - length (decimal n) - 0 - 0 ≡ 3 - length (decimal n) = omega arith in
    ap₂ (λ zeros digits. replicate zeros 48 ++ digits) none (append-nil (decimal n))
