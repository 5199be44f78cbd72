-- From a test of a call to what the call does; and an arming that the device accepts.
use Rattle.std.proofs.Common.{◌≡◌, ℕ, Bool, List, [], Option, Some, None, Result, Ok, sym, ap, ◌∙◌, subst, add-one}
use Rattle.std.specs.Result.{result_err}
use Rattle.device.specs.Meaning.{Meaning}
use Rattle.device.specs.Calls.{Writes, Flushes}
use Rattle.sector.specs.Layout.{sector_bytes}
use Rattle.element.specs.declared.kind.Kind.{Kind}
use Rattle.takes.specs.declared.Outline.TheVariants.{Opening}
use Rattle.journal.specs.declared.session.Session.{Session}
use Rattle.journal.specs.Headers.{padded}
use Rattle.journal.specs.Sessions.{session_place, session_fields, Adds}
use Rattle.recorder.specs.declared.State.{State}
use Rattle.recorder.specs.declared.State.TheVariants.{Mounted, Armed}
use Rattle.recorder.specs.declared.armed.ArmedSession.{ArmedSession}
use Rattle.recorder.specs.declared.refusal.Refusal.{Refusal}
use Rattle.recorder.specs.declared.failed.Failed.{Failed}
use Rattle.recorder.specs.Refusals.{passed, arm_refusal, record_refusal}
use Rattle.recorder.specs.Answers.{Decided}
use Rattle.recorder.specs.Entries.{Arming, Arms}

-- what a test tells is the refusal that is due
due : (o : Option Refusal) (test : Result (Unit {0}) Refusal) → test ≡ passed o → result_err test ≡ o
due None test e = ap result_err e
due (Some x) test e = ap result_err e

-- the same of a record, on a device with so many sectors
pub record_due : (s : Session) (size sectors k : ℕ) (kind : Kind) (n : ℕ) (lawful : Bool) (test : Result (Unit {0}) Refusal) → size ≡ sectors
    → test ≡ passed (record_refusal s size k kind n lawful) → result_err test ≡ record_refusal s sectors k kind n lawful
record_due s size sectors k kind n lawful test same e =
    due (record_refusal s sectors k kind n lawful) test (subst (λ (v : ℕ). test ≡ passed (record_refusal s v k kind n lawful)) same e)

-- where no refusal was due, the call does what it does
pub decided : {A : Type 0} (o : Option Refusal) (r : Result A Failed) (st st' : State) (m m' : Meaning) (P : Type 0) → passed o ≡ Ok tt → P → Decided o r st m st' m' P
decided (Some x) r st st' m m' P e p = cc
decided None r st st' m m' P e p = p

pub arms : (layer : ℕ) (s : Session) (a : ArmedSession) (m flushed wrote m' : Meaning) (payload : List ℕ)
    → passed (arm_refusal s m.size) ≡ Ok tt
    → Flushes m (Ok tt) flushed
    → Writes layer flushed (session_place s) (sector_bytes (session_fields s Opening) payload) (Ok tt) wrote
    → Flushes wrote (Ok tt) m'
    → payload ≡ padded [] → Adds s Opening a.session
    → Arms layer (Mounted s) m (Ok a.session.epoch) (Armed a) m'
arms layer s a m flushed wrote m' payload due first second third e after =
    let w : Writes layer flushed (session_place s) (sector_bytes (session_fields s Opening) (padded [])) (Ok tt) wrote = rw (← e) second in
    decided (arm_refusal s m.size) _ _ _ _ _ (Arming layer s m (Ok a.session.epoch) (Armed a) m') due
    (record {
      flush = Ok tt;
      left = flushed;
      did = first;
      after = record {
        write = Ok tt;
        left = wrote;
        did = w;
        after = record { flush = Ok tt; did = third; says = ap Ok (after.epoch ∙ sym (add-one s.epoch)); after = after };
      };
    })
