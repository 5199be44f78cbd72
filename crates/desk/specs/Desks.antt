-- What a desk does at a line.
use Rattle.std.specs.Prelude.{◌≡◌, ℕ, ℤ, pos, List, [], ◌∷◌, map, take, replicate, Option, Some, None, Result, Ok, Err}
use Rattle.device.specs.Meaning.{Meaning}
use Rattle.device.specs.Cuts.{EachCut, cut_by}
use Rattle.element.specs.declared.kind.Kind.{Kind}
use Rattle.element.specs.declared.kind.Kind.TheVariants.{Sound as SoundKind, Mark as MarkKind}
use Rattle.element.specs.declared.mark.Mark.{Mark as AlarmMark}
use Rattle.element.specs.Kinds.{kind_number}
use Rattle.element.specs.Marks.{mark_lawful, mark_bytes, mark_of}
use Rattle.element.specs.Sounds.{sample_lawful, sample_bytes, sample_of}
use Rattle.layers.specs.declared.fuse.Fuse.{Fuse}
use Rattle.layers.specs.Fused.{unset, set_to, fuse_layer, fuse_meaning}
use Rattle.layers.specs.WholeCuts.{under_fuse}
use Rattle.script.specs.Said.{Said, Format, Mount, Arm, Begin, Sound, Mark, End, Withdraw, Play, Save, Cut, Fuse as FuseLine}
use Rattle.recorder.specs.declared.Recorder.{Recorder}
use Rattle.recorder.specs.declared.State.TheVariants.{Unmounted}
use Rattle.recorder.specs.declared.failed.Failed.{Failed}
use Rattle.recorder.specs.Entries.{Arms, Saves, Begins, Records, Ends, Withdraws}
use Rattle.recorder.specs.Formats.{Formats}
use Rattle.recorder.specs.Mounts.{Mounts}
use Rattle.recorder.specs.Plays.{Plays}
use Rattle.recorder.specs.Panel.{kind_on}
use Rattle.desk.specs.declared.answer.Answer.{Answer}
use Rattle.desk.specs.declared.answer.Answer.TheVariants.{Done as DoneAnswer, Sound as SoundAnswer, Marks as MarksAnswer, Cut as CutAnswer, Bad as BadAnswer}
use Rattle.desk.specs.Answers.{failed, numbered, done}

-- a call did what P says of its outcome, and this is how the outcome is answered
pub record Called {A : Type 0} (answer_of : A → Answer) (P : A → Type 0) (answer : Answer) : Type 0 where
  pub outcome : A
  pub did : P outcome
  pub says : answer ≡ answer_of outcome

-- what was found by a play: the elements that it put into the slice; or why it failed
abbrev pub Found : {E : Type 0} → Result ℕ Failed → List E → Result (List E) Failed → Type 0
Found (Ok n) out (Ok found) = found ≡ take n out
Found (Ok n) out (Err e) = ⊥
Found (Err e) out (Ok found) = ⊥
Found (Err e) out (Err e') = e' ≡ e

-- a play did what P says of its outcome and of the slice afterwards, and this was found
pub record Played {E : Type 0} (P : Result ℕ Failed → List E → Type 0) (found : Result (List E) Failed) : Type 0 where
  pub outcome : Result ℕ Failed
  pub slice : List E
  pub did : P outcome slice
  pub says : Found outcome slice found

-- how samples that were found are answered
abbrev pub SoundSaid : Result (List ℤ) Failed → Answer → Type 0
SoundSaid (Ok found) (SoundAnswer samples) = samples.items ≡ found
SoundSaid (Ok found) _ = ⊥
SoundSaid (Err e) answer = answer ≡ failed e

-- how marks that were found are answered
abbrev pub MarksSaid : Result (List AlarmMark) Failed → Answer → Type 0
MarksSaid (Ok found) (MarksAnswer marks) = marks.items ≡ found
MarksSaid (Ok found) _ = ⊥
MarksSaid (Err e) answer = answer ≡ failed e

-- a play of samples from the start of track t, up to 512 of them, and its answer
pub record SoundPlayed {D : Type 0} (means : D → Meaning) (d : Recorder (Fuse D)) (t : ℕ) (answer : Answer) (d' : Recorder (Fuse D)) : Type 0 where
  pub found : Result (List ℤ) Failed
  pub played : Played (λ r out. Plays fuse_layer SoundKind sample_of 2 d.state (fuse_meaning means d.device) t 0 (replicate 512 (pos 0)) r d'.state (fuse_meaning means d'.device) out) found
  pub says : SoundSaid found answer

-- what a slice holds before marks are played into it
abbrev pub no_mark : AlarmMark
no_mark = record { tick = 0; point = 0; event = 0 }

-- a play of marks from the start of track t, up to 512 of them, and its answer
pub record MarksPlayed {D : Type 0} (means : D → Meaning) (d : Recorder (Fuse D)) (t : ℕ) (answer : Answer) (d' : Recorder (Fuse D)) : Type 0 where
  pub found : Result (List AlarmMark) Failed
  pub played : Played (λ r out. Plays fuse_layer MarkKind mark_of 8 d.state (fuse_meaning means d.device) t 0 (replicate 512 no_mark) r d'.state (fuse_meaning means d'.device) out) found
  pub says : MarksSaid found answer

-- a track of marks is played as marks, and every other as sound, also one that does not exist
abbrev pub TrackPlayed : {D : Type 0} → (D → Meaning) → Option Kind → Recorder (Fuse D) → ℕ → Answer → Recorder (Fuse D) → Type 0
TrackPlayed means (Some MarkKind) d t a d' = MarksPlayed means d t a d'
TrackPlayed means (Some SoundKind) d t a d' = SoundPlayed means d t a d'
TrackPlayed means None d t a d' = SoundPlayed means d t a d'

-- a cut of the fuse and of everything below it by a plan, after which the recorder is not mounted and the fuse is not set
pub record PowerCut {D : Type 0} (means : D → Meaning) (images under : D → List Meaning) (plan : List ℕ) (d d' : Recorder (Fuse D)) : Type 0 where
  pub unmounted : d'.state ≡ Unmounted
  pub clears : d'.device.counter ≡ unset
  pub planned : images d'.device.inner ≡ map (cut_by plan) (images d.device.inner)
  pub each : EachCut (fuse_meaning means d.device ∷ under_fuse means under d.device) (fuse_meaning means d'.device ∷ under_fuse means under d'.device)

-- what a command does: the recorder's call of that name with its numbers, and the answer is that of the call; or a cut; or the fuse is set
abbrev pub Does : {D : Type 0} → (D → Meaning) → (images under : D → List Meaning) → Recorder (Fuse D) → Said → Answer → Recorder (Fuse D) → Type 0
Does means images under d (Format kinds rate sitting) a d' = Called numbered (λ r. Formats fuse_layer d.state (fuse_meaning means d.device) (map kind_number kinds) rate sitting r d'.state (fuse_meaning means d'.device)) a
Does means images under d Mount a d' = Called numbered (λ r. Mounts fuse_layer d.state (fuse_meaning means d.device) r d'.state (fuse_meaning means d'.device)) a
Does means images under d Arm a d' = Called numbered (λ r. Arms fuse_layer d.state (fuse_meaning means d.device) r d'.state (fuse_meaning means d'.device)) a
Does means images under d (Begin t p) a d' = Called numbered (λ r. Begins fuse_layer d.state (fuse_meaning means d.device) t p r d'.state (fuse_meaning means d'.device)) a
Does means images under d (Sound k samples) a d' = Called numbered (λ r. Records fuse_layer SoundKind sample_lawful sample_bytes d.state (fuse_meaning means d.device) k samples r d'.state (fuse_meaning means d'.device)) a
Does means images under d (Mark k mark) a d' = Called numbered (λ r. Records fuse_layer MarkKind mark_lawful mark_bytes d.state (fuse_meaning means d.device) k (mark ∷ []) r d'.state (fuse_meaning means d'.device)) a
Does means images under d (End k) a d' = Called numbered (λ r. Ends fuse_layer d.state (fuse_meaning means d.device) k r d'.state (fuse_meaning means d'.device)) a
Does means images under d (Withdraw t) a d' = Called numbered (λ r. Withdraws fuse_layer d.state (fuse_meaning means d.device) t r d'.state (fuse_meaning means d'.device)) a
Does means images under d (Play t) a d' = TrackPlayed means (kind_on d.state t) d t a d'
Does means images under d Save a d' = Called done (λ r. Saves d.state (fuse_meaning means d.device) r d'.state (fuse_meaning means d'.device)) a
Does means images under d (Cut plan) a d' = (a ≡ CutAnswer) × PowerCut means images under plan d d'
Does means images under d (FuseLine n) a d' =
    (a ≡ DoneAnswer) × (d'.state ≡ d.state) × (d'.device ≡ record d.device { counter = set_to n d.device.counter })

-- what a line does: what it means; and one that means nothing changes nothing
abbrev pub Meant : {D : Type 0} → (D → Meaning) → (images under : D → List Meaning) → Recorder (Fuse D) → Option Said → Answer → Recorder (Fuse D) → Type 0
Meant means images under d None a d' = (a ≡ BadAnswer) × (d' ≡ d)
Meant means images under d (Some said) a d' = Does means images under d said a d'
