-- Elements one after the other.
use Rattle.std.specs.Prelude.{ℕ, zero, suc, List, [], ◌∷◌, take, drop}

-- n elements of w bytes each, as the bytes say them
abbrev pub unpacked : {X : Type 0} → (List ℕ → X) → ℕ → ℕ → List ℕ → List X
unpacked v w zero bs = []
unpacked v w (suc n) bs = v (take w bs) ∷ unpacked v w n (drop w bs)
