-- Lines of ASCII bytes.
use Rattle.std.proofs.Common.{◌≡◌, ℕ, suc, ◌<◌, true, List, [], ◌∷◌, nat_lt, refl, arith}
use Rattle.std.specs.List.{list_all}
use Rattle.std.specs.Str.{IsAscii}
use Rattle.std.proofs.lemmas.Str.{IsUtf8-from_ascii}
use Rattle.std.proofs.lemmas.Bool.Decides.{nat_tests}

-- a list of bytes below 128 passes the test that each is
pub all_ascii : (bytes : List ℕ) → IsAscii bytes → list_all (λ byte. nat_lt byte 128) bytes ≡ true
all_ascii [] ascii = refl
all_ascii (byte ∷ bytes) ascii =
    let first : byte < 128 = ascii 0 in
    let rest = all_ascii bytes (λ i. ascii (suc i)) in
    grind (arith, nat_tests)

pub ruleset ascii_steps = (all_ascii, IsUtf8-from_ascii)
