-- Every sitting is a sitting of the theory.
use Rattle.std.proofs.Common.{◌≡◌, ℕ, List, [], ◌∷◌, Ok, sym, refl, ◌∙◌, subst}
use Rattle.device.specs.Meaning.{Meaning}
use Rattle.device.specs.Meaning
use Rattle.journal.specs.declared.header.Header.{Header}
use Rattle.journal.specs.Headers.{Lawful}
use Rattle.journal.specs.Log.{LogEntry}
use Rattle.recorder.specs.declared.State.{State}
use Rattle.recorder.specs.declared.State.TheVariants.{Unmounted}
use Rattle.recorder.specs.Formats.{header_of, Formats}
use Rattle.sitting.specs.Books.{Book}
use Rattle.sitting.specs.Events.{Event, called, cut, Events, book}
use Rattle.sitting.specs.Sittings.{Happens, Sitting, formatted, goes_on}
use Rattle.sitting.proofs.Runs.{Recorder, unmounted, begin, next, Fresh}
use Rattle.sitting.proofs.Runs
use Rattle.sitting.proofs.Invariants.{headed}
use Rattle.sitting.proofs.LogScheme.{log_scheme, log_lawful}
use Rattle.sitting.proofs.Projections.{on, disk}
use Rattle.sitting.proofs.Links.{Goes}
use Rattle.sitting.proofs.Formatting.{formatted_lawful, formatted_unmounted, fresh}
use Rattle.sitting.proofs.Happening.{noted_of, happens}

-- the book goes on with an event
pub book_goes_on : (e : Event) (es : Events) → noted_of e (book es) ≡ book (e ∷ es)
book_goes_on (called asked answer off) es = refl
book_goes_on cut es = refl

-- a sitting of the theory has come, with the same book, to the recorder and the disk that go with these
abbrev pub Abstracts : Header → Events → State → Meaning → Type 0
Abstracts hd es st m = (r : Recorder LogEntry) × Goes hd st r × Runs.Sitting (log_scheme hd) (book es) (disk m) (on m.power) r × Meaning.Lawful m

module _ (layer : ℕ) (hd : Header) where
  -- the header of a sitting is lawful
  pub sitting_lawful : {es : Events} {st : State} {m : Meaning} → Sitting layer hd es st m → Lawful hd
  sitting_lawful (formatted kinds rate sitting n m {m' = m'} {st = st} small e f law) = subst Lawful (sym e) (formatted_lawful layer n kinds rate sitting m st m' small f)
  sitting_lawful (goes_on st m s h law) = sitting_lawful s

  begun : (kinds : List ℕ) (rate sitting n : ℕ) (m m' : Meaning) (st : State) → hd ≡ header_of kinds rate sitting → Formats layer Unmounted m kinds rate sitting (Ok n) st m' → Meaning.Lawful m' → Abstracts hd [] st m'
  begun kinds rate sitting n m m' st e f law = (
    unmounted,
    subst (λ (x : State). Goes hd x unmounted) (sym (formatted_unmounted layer n kinds rate sitting m st m' f)) tt,
    begin (subst (λ (x : Header). Fresh (log_scheme x) (disk m')) (sym e)
        (fresh layer n kinds rate sitting m st m' f)),
    law,
  )

  gone_on : (es : Events) (e : Event) (st st' : State) (m m' : Meaning) → Lawful hd → Abstracts hd es st m → Happens layer e st m st' m' → Meaning.Lawful m' → Abstracts hd (e ∷ es) st' m'
  gone_on es e st st' m m' lawful (r, g, s, before) h law =
      let a = happens hd st r g m st' m' layer lawful before (headed (log_scheme hd) (log_lawful hd lawful) (book es) (disk m) (on m.power) r s) e h in (
        a.after,
        a.goes,
        subst (λ (k : Book LogEntry). Runs.Sitting (log_scheme hd) k (disk m') (on m'.power) a.after) (a.notes (book es) ∙ book_goes_on e es) (next s a.step),
        law,
      )

  pub abstracted : {es : Events} {st : State} {m : Meaning} → Sitting layer hd es st m → Abstracts hd es st m
  abstracted (formatted kinds rate sitting n m {m' = m'} {st = st} small e f law) = begun kinds rate sitting n m m' st e f law
  abstracted (goes_on {es = es} {e = e} st {st' = st'} m {m' = m'} s h law) = gone_on es e st st' m m' (sitting_lawful s) (abstracted s) h law
