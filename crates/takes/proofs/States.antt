-- What tells the states of a take apart.
use Rattle.std.proofs.Common.{◌≡◌, true, refl}
use Rattle.std.proofs.lemmas.Bool.{false≢true}
use Rattle.takes.specs.declared.State.{State}
use Rattle.takes.specs.declared.State.TheVariants.{Withdrawn, Open, Standing}
use Rattle.takes.specs.Takes.{heard, settled}
use Rattle.takes.specs.Table.{is_standing}

-- a standing take is not open
pub standing_not_open : Standing ≡ Open → ⊥
standing_not_open e = cc

-- nor is a withdrawn one
pub withdrawn_not_open : Withdrawn ≡ Open → ⊥
withdrawn_not_open e = cc

-- after an opening no take is open
pub settled_not_open : (s : State) → settled s ≡ Open → ⊥
settled_not_open Withdrawn e = withdrawn_not_open e
settled_not_open Open e = standing_not_open e
settled_not_open Standing e = standing_not_open e

-- what is heard stays heard at an opening, and nothing else becomes heard
pub heard_settled : (s : State) → heard (settled s) ≡ heard s
heard_settled Withdrawn = refl
heard_settled Open = refl
heard_settled Standing = refl

-- what the test for a standing take tells
pub standing_from : (s : State) → is_standing s ≡ true → s ≡ Standing
standing_from Withdrawn e = absurd (false≢true e)
standing_from Open e = absurd (false≢true e)
standing_from Standing e = refl
