-- The search goes on, ends at a sector, or power goes off in it.
use Rattle.std.proofs.Common.{◌≡◌, ◌+◌, ◌<◌, true, false, Bool, Ok, Err, subst, arith, rules}
use Rattle.device.specs.Meaning.{Meaning}
use Rattle.journal.specs.declared.session.Session.{Session}
use Rattle.recorder.specs.declared.State.TheVariants.{Mounted}
use Rattle.recorder.specs.Mounts.{FoundLog, Sought}
use Rattle.recorder.proofs.mount.find_log.Goals as goal

-- the step answered that there was no entry more, or one
no_more : (start m' : Meaning) (s s' : Session) (b : Bool) → b ≡ false → Sought start s (Ok b) s' m' → FoundLog start s'.entries (Mounted s') m'
no_more start m' s s' b e h = subst (λ (x : Bool). Sought start s (Ok x) s' m') e h

more : (start m' : Meaning) (s s' : Session) (b : Bool) → b ≡ true → Sought start s (Ok b) s' m' → Sought start s (Ok true) s' m'
more start m' s s' b e h = subst (λ (x : Bool). Sought start s (Ok x) s' m') e h

pub returns-in_err-extend : goal.returns-in_err-extend
returns-in_err-extend g c = λ start i.
    let so_far = c.loop.invariant start i in
    let there : c.loop.session.entries + 1 < start.size = omega (arith, so_far.1, i.kept.size, c.size_of-end.ensures.same, c.loop-test.true) in
    let told : c.from_residual.result ≡ Err c.in_err-extend.field-0.0 = search rules in
    rw told (c.in_err-extend.ensures start there so_far.0)

pub loop-preserved : goal.loop-preserved
loop-preserved g c = λ start i.
    let so_far = c.loop.invariant start i in
    let there : c.loop.session.entries + 1 < start.size = omega (arith, so_far.1, i.kept.size, c.size_of-end.ensures.same, c.loop-test.true) in
    let h = more start _ c.loop.session c.extend.new.session c.in_ok-extend.field-0 c.if-not-branch.false (c.in_ok-extend.ensures start there so_far.0) in
    (h.0, omega (arith, h.1, so_far.1))

pub returns-then-not-branch : goal.returns-then-not-branch
returns-then-not-branch g c = λ start i.
    let so_far = c.loop.invariant start i in
    let there : c.loop.session.entries + 1 < start.size = omega (arith, so_far.1, i.kept.size, c.size_of-end.ensures.same, c.loop-test.true) in
    no_more start _ c.loop.session c.extend.new.session c.in_ok-extend.field-0 c.if-not-branch.true (c.in_ok-extend.ensures start there so_far.0)
