-- What `then` answers, by its test.
use Rattle.std.proofs.Common.{◌≡◌, Bool, true, false, Option, None, Some, MatchOption, is_some, IfSome, sym}

pub by_test : {X : Type 0} (o : Option X) (b : Bool) (P : Type 0) (Q : X → Type 0) → is_some o ≡ b → (b ≡ false → P) → (b ≡ true → IfSome o Q) → MatchOption o P Q
by_test None b P Q e p q = p (sym e)
by_test (Some x) b P Q e p q = q (sym e)
