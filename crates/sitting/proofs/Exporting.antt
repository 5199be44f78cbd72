-- An export in a sitting.
use Rattle.std.proofs.Common.{◌≡◌, ℕ, ◌+◌, ◌-◌, ◌*◌, ◌/◌, ◌≤◌, ◌==◌, nat_le, List, [], ◌∷◌, ◌++◌, length, take, drop, None, Ok, Result, sym, refl, ap, ap₂, ◌∙◌, subst, append-nil, length-drop, length-take-le, leb-true, eqb-true, arith}
use Rattle.std.proofs.Math.Nat.{mul-div_cancel}
use Rattle.std.proofs.lemmas.List.{take_all, drop_all, take_at}
use Rattle.std.proofs.lemmas.List.Elements.{All-head, All-tail}
use Rattle.std.specs.List.{flat_map, All}
use Rattle.device.specs.Meaning.{Meaning}
use Rattle.element.specs.declared.kind.Kind.{Kind}
use Rattle.element.specs.declared.kind.Kind.TheVariants.{Sound}
use Rattle.element.specs.Kinds.{kind_number, width_of}
use Rattle.element.specs.Cells.{byte_of}
use Rattle.element.specs.Payload.{unpacked}
use Rattle.takes.specs.Tracks.{track}
use Rattle.wave.specs.Export.{header_bytes, sample_count, Exported}
use Rattle.wave.proofs.Files.{file_length as length_of_file}
use Rattle.journal.specs.declared.header.Header.{Header}
use Rattle.journal.specs.declared.session.Session.{Session}
use Rattle.journal.specs.Headers.{kind_of, Lawful}
use Rattle.journal.specs.Log.{Log, LawfulElement, Run}
use Rattle.journal.specs.Shown.{cells_each, shown}
use Rattle.journal.proofs.Payloads.{lawful_width, length-flat}
use Rattle.recorder.specs.declared.State.{State}
use Rattle.recorder.specs.declared.failed.Name.TheVariants.{Export as ExportCall}
use Rattle.recorder.specs.declared.failed.Failed.{Failed}
use Rattle.recorder.specs.declared.refusal.Refusal.TheVariants.{NoSuchTrack, OtherKind, TooShort}
use Rattle.recorder.specs.Refusals.{unless, has_track, track_end, file_length, export_refusal}
use Rattle.recorder.specs.Answers.{OfSession}
use Rattle.recorder.specs.Plays.{played}
use Rattle.recorder.specs.Exports.{exported, Exports}
use Rattle.recorder.specs.Exports
use Rattle.sitting.specs.Events.{Events, book}
use Rattle.sitting.specs.Sittings.{Looks, Sitting}
use Rattle.sitting.specs.Claims.{WhereAccepted, track_bytes, file_of, ExportsLog}
use Rattle.sitting.proofs.Links.{unless_none}
use Rattle.sitting.proofs.Entering.{kinds_alike}
use Rattle.sitting.proofs.Abstraction.{sitting_lawful}
use Rattle.sitting.proofs.TrackElements.{track_lawful, track_few}
use Rattle.sitting.proofs.Playing.{OwnLog, own_log, end_same, runs, played_track, accepted, painting_looks}

-- two bytes, each a cell, are themselves
two_cells : (x : List ℕ) → length x ≡ 2 → unpacked byte_of 1 2 x ≡ x
two_cells [] e = absurd (omega (arith, e))
two_cells (a ∷ []) e = absurd (omega (arith, e))
two_cells (a ∷ b ∷ []) e = refl
two_cells (a ∷ b ∷ c ∷ x) e = absurd (omega (arith, e))

-- so samples, by their bytes as cells, are their bytes
sample_cells : (xs : List (List ℕ)) → All (LawfulElement Sound) xs → flat_map (unpacked byte_of 1 2) xs ≡ flat_map (λ (x : List ℕ). x) xs
sample_cells [] l = refl
sample_cells (x ∷ xs) l =
    ap₂ (λ (a b : List ℕ). a ++ b) (two_cells x (lawful_width Sound x (All-head (LawfulElement Sound) x xs l))) (sample_cells xs (All-tail (LawfulElement Sound) x xs l))

-- a list in a slice of its own length
shown_all : (ys out : List ℕ) → length out ≡ length ys → shown 0 ys out ≡ ys
shown_all ys out e =
    let front : take (length out) ys ≡ ys = take_all (length out) ys (omega arith) in
    let rest : drop (length ys - 0) out ≡ [] = drop_all (length ys - 0) out (omega arith) in
    ap₂ (λ (a b : List ℕ). a ++ b) front rest ∙ append-nil ys

-- The file of a track of sound, of a log that was run.
module _ (hd : Header) (lawful : Lawful hd) (h : Log) (r : Run hd h) (t : ℕ) (sound : Sound ≡ kind_of hd t) where
  sounds : All (LawfulElement Sound) (track h t)
  sounds = subst (λ (k : Kind). All (LawfulElement k) (track h t)) (sym sound) (track_lawful hd h r t)

  samples_long : length (track_bytes h t) ≡ length (track h t) * 2
  samples_long = length-flat Sound (track h t) sounds

  counted : sample_count (track_bytes h t) ≡ length (track h t)
  counted = ap (λ (n : ℕ). n / 2) samples_long ∙ mul-div_cancel (length (track h t)) (omega arith)

  -- it is one that an export writes
  pub file_exported : Exported (file_of hd h t) hd.rate (track_bytes h t)
  file_exported = record {
    low = lawful.slow;
    high = lawful.fast;
    few = omega (arith, counted, track_few hd h r t);
    whole = omega (arith, samples_long);
    laid = ap (λ (n : ℕ). header_bytes hd.rate n ++ track_bytes h t) (sym counted);
  }

  file_long : length (file_of hd h t) ≡ 44 + 2 * length (track h t)
  file_long = omega (arith, length_of_file (file_of hd h t) hd.rate (track_bytes h t) file_exported, samples_long)

-- an export that is not refused is of a track of sound, into a buffer that has room for its file
record Allowed (s : Session) (t size : ℕ) : Type 0 where
  sound : Sound ≡ kind_of s.header t
  room : file_length s t ≤ size

allowed : (s : Session) (t size : ℕ) → export_refusal s t size ≡ None → Allowed s t size
allowed s t size due =
    let last = unless (nat_le (file_length s t) size) TooShort None in
    let other = unless (kind_number Sound == kind_number (kind_of s.header t)) OtherKind last in
    let a = unless_none (has_track s t) NoSuchTrack other due in
    let b = unless_none (kind_number Sound == kind_number (kind_of s.header t)) OtherKind last a.1 in
    let c = unless_none (nat_le (file_length s t) size) TooShort None b.1 in
    record {
      sound = kinds_alike Sound (kind_of s.header t) (eqb-true (kind_number Sound) (kind_number (kind_of s.header t)) b.0);
      room = leb-true (file_length s t) size c.0;
    }

module _ (layer : ℕ) (st : State) (m : Meaning) (t : ℕ) (out : List ℕ) (st' : State) (m' : Meaning) (out' : List ℕ) where
  -- an export by the session of a log writes the file of the log's track
  module _ (hd : Header) (lawful : Lawful hd) (s : Session) (h : Log) (o : OwnLog hd s m h) (may : Allowed s t (length out)) where
    sound_track : Sound ≡ kind_of hd t
    sound_track = may.sound ∙ ap (λ (x : Header). kind_of x t) o.keeps.header

    -- the buffer behind the header and within the file
    abbrev rest : List ℕ
    rest = drop 44 (take (file_length s t) out)

    rest_long : length rest ≡ 2 * track_end s t
    rest_long = length-drop 44 (take (file_length s t) out) ∙ omega (arith, length-take-le (file_length s t) out may.room)

    painted_samples : played byte_of 1 s m t 0 s.entries rest ≡ track_bytes h t
    painted_samples =
        let r = runs hd s m h o t in
        let each : cells_each s.header t 1 ≡ 2 = ap (λ (k : Kind). width_of k / 1) (sym may.sound) in
        let even : 2 * 1 ≡ width_of (kind_of hd t) = ap width_of sound_track in
        let xs = track h t in
        let none : 0 * 2 ≡ 0 = omega arith in
        played_track hd s m h o t byte_of 1 2 each even 0 rest
        ∙ ap₂ (λ (n : ℕ) (ys : List ℕ). shown n ys rest) none (sample_cells xs (sounds hd lawful h r t sound_track))
        ∙ shown_all (track_bytes h t) rest (omega (arith, rest_long, samples_long hd lawful h r t sound_track, end_same hd s m h o t))

    exports_own : (n : ℕ) → Exports.Exported layer s st m t out (Ok n) st' m' out' → ExportsLog hd h t out n out'
    exports_own n d =
        let r = runs hd s m h o t in
        let ends = end_same hd s m h o t in
        let head : header_bytes s.header.rate (track_end s t) ≡ header_bytes hd.rate (length (track h t)) = ap₂ (λ (x : Header) (k : ℕ). header_bytes x.rate k) o.keeps.header ends in
        let long : n ≡ length (file_of hd h t) = omega (arith, d.0, ends, file_long hd lawful h r t sound_track) in (
          long,
          d.2.slice ∙ ap₂ (λ (a b : List ℕ). (a ++ b) ++ drop (file_length s t) out) head painted_samples
              ∙ ap (λ (k : ℕ). file_of hd h t ++ drop k out) (sym d.0),
        )

  module _ (hd : Header) (es : Events) (z : Sitting layer hd es st m) (r : Result ℕ Failed) (did : Exports layer st m t out r st' m' out') where
    -- an accepted export in a sitting: what it wrote, and that it is the file of a track of sound
    record Wrote (n : ℕ) : Type 0 where
      writes : ExportsLog hd (book es).entries t out n out'
      file : Exported (file_of hd (book es).entries t) hd.rate (track_bytes (book es).entries t)

    wrote : (n : ℕ) → r ≡ Ok n → Wrote n
    wrote n ok =
        let P : Session → Type 0 = λ s. (export_refusal s t (length out) ≡ None) × Exports.Exported layer s st m t out (Ok n) st' m' out' in
        let d : Exports layer st m t out (Ok n) st' m' out' = subst (λ (x : Result ℕ Failed). Exports layer st m t out x st' m' out') ok did in
        let a : OfSession st P = accepted (λ s. export_refusal s t (length out)) n st m out st' m' out' (λ s. Exports.Exported layer s st m t out (Ok n) st' m' out') d in
        let (s, p, o) = own_log layer hd es st m z P (λ s p. p.1.2.power) a in
        let lawful = sitting_lawful layer hd z in
        let may = allowed s t (length out) p.0 in
        record {
          writes = exports_own hd lawful s (book es).entries o may n p.1;
          file = file_exported hd lawful (book es).entries (runs hd s m (book es).entries o t) t (sound_track hd lawful s (book es).entries o may);
        }

    -- it writes the file of the book's track
    pub export_writes_log : WhereAccepted r (λ n. ExportsLog hd (book es).entries t out n out')
    export_writes_log = record { so = λ n ok. (wrote n ok).writes }

    -- and what it writes is the file of the track's bytes at the sitting's rate
    pub export_readable_file : WhereAccepted r (λ n. Exported (take n out') hd.rate (track_bytes (book es).entries t))
    export_readable_file = record {
      so = λ n ok.
          let w = wrote n ok in
          let file = file_of hd (book es).entries t in
          let front : take n out' ≡ file = ap (take n) w.writes.1 ∙ take_at file (drop n out) n (sym w.writes.0) in
          subst (λ (x : List ℕ). Exported x hd.rate (track_bytes (book es).entries t)) (sym front) w.file;
    }

pub export_looks : (layer : ℕ) (st : State) (m : Meaning) (t : ℕ) (out : List ℕ) (r : Result ℕ Failed) (st' : State) (m' : Meaning) (out' : List ℕ) → Exports layer st m t out r st' m' out' → Looks st m st' m'
export_looks layer st m t out r st' m' out' =
    painting_looks r st m out st' m' out' layer ExportCall (λ s. export_refusal s t (length out)) t (λ s. file_length s t) (λ s n. exported s m t n out)
