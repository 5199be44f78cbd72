-- A file is cut after 44 bytes: where that fails or they are not the header of the rest, no export wrote it.
use Rattle.std.proofs.Common.{◌≡◌, true, length, sym, ap, ◌∙◌, arith}
use Rattle.std.proofs.lemmas.Bool.Decides.{Decides-eqb}
use Rattle.std.proofs.lemmas.Option.{MatchOption-at_some}
use Rattle.std.proofs.lemmas.Slice.Eq.{slice_eq-Decides}
use Rattle.wave.specs.Export.{sample_count}
use Rattle.wave.proofs.Files.{file_length, rest_is, rate_is, own_header, laid_out}
use Rattle.wave.proofs.parse.Goals as goal

pub returns-in_err-head-clause-back : goal.returns-in_err-head-clause-back
returns-in_err-head-clause-back c = λ rate samples ex. absurd (omega (arith, c.in_err-head.ensures.cases, file_length _ rate samples ex))

pub returns-in_err-count-clause-back : goal.returns-in_err-count-clause-back
returns-in_err-count-clause-back c = λ rate samples ex.
    let size = ap length (c.in_ok-head.ensures.cases.1 ∙ rest_is _ rate samples ex) in
    grind (arith, ex.few)

pub returns-clause-only : goal.returns-clause-only
returns-clause-only c =
    let told = c.in_ok-head.ensures.cases in
    let count_is : c.in_ok-count.count ≡ sample_count c.in_ok-head.samples.now = grind arith in
    let same = slice_eq-Decides Decides-eqb _ _ _ c.eq.ensures in
    let laid = λ (t : c.eq.result ≡ true). laid_out _ _ _ _ _ told.0 told.1 (same.0 t ∙ c.header.ensures) count_is in
    grind arith

pub returns-clause-back : goal.returns-clause-back
returns-clause-back c = λ rate samples ex.
    let told = c.in_ok-head.ensures.cases in
    let count_is : c.in_ok-count.count ≡ sample_count c.in_ok-head.samples.now = grind arith in
    let rate_same = rate_is _ rate samples ex _ _ _ told.0 (MatchOption-at_some _ _ _ c.unwrap.ensures c.first_chunk.ensures.cases).same c.from_le_bytes-rate.ensures in
    let rest_same = told.1 ∙ rest_is _ rate samples ex in
    let own = own_header _ rate samples ex _ _ _ _ told.0 told.1 rate_same count_is in
    let same = (slice_eq-Decides Decides-eqb _ _ _ c.eq.ensures).1 (own ∙ sym c.header.ensures) in
    grind arith
