-- What a track is, and which entries the take table admits.
use Rattle.std.specs.Prelude.{ℕ, zero, suc, ◌+◌, cond, List, [], ◌∷◌, ◌++◌, length, take, drop}
use Rattle.takes.specs.Entries.{Entry, History, outline}
use Rattle.takes.specs.Takes.{Take, count, takes, row, rows}
use Rattle.takes.specs.Table.{heard_on, Allows}

module _ {X : Type 0} where
  -- content C after a take with position f and elements E: the first f of C, then E, then C without its first f + length of E
  abbrev pub splice : ℕ → List X → List X → List X
  splice f E C = take f C ++ (E ++ drop (f + length E) C)

  -- content C of track t after a take, which counts if it is heard on that track
  abbrev pub lay : ℕ → Take X → List X → List X
  lay t r C = cond (heard_on t (row r)) (splice r.position r.elements C) C

  -- track t after the first n takes, in the order of their numbers
  abbrev pub content : (ℕ → Take X) → ℕ → ℕ → List X
  content T t zero = []
  content T t (suc n) = lay t (T (suc n)) (content T t n)

  -- the track that a history gives
  abbrev pub track : History X → ℕ → List X
  track h t = content (takes h) t (count h)

  -- the take table admits the entry after the history
  abbrev pub TableAdmits : History X → Entry X → Type 0
  TableAdmits h e = Allows (rows h) (count h) (λ t. length (track h t)) (outline e)

  -- each entry was admitted after those before it
  abbrev pub TableRun : History X → Type 0
  TableRun [] = Unit {0}
  TableRun (e ∷ h) = TableRun h × TableAdmits h e
