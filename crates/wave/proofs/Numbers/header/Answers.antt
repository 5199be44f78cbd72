-- Each number is stored modulo 2^32, so its four bytes are those of the number before it wrapped.
use Rattle.std.proofs.Common.{◌≡◌, ◌+◌, ◌*◌, ◌∙◌}
use Rattle.little_endian.specs.Little.{le32}
use Rattle.little_endian.proofs.Little.{le32_wraps}
use Rattle.wave.specs.Export.{header_bytes}
use Rattle.wave.proofs.Numbers.header.Goals as goal

pub returns : goal.returns
unfolding header_bytes
returns c n whole speed size =
    let rate = c.args.self.rate in
    let whole_bytes : c.copy_from_slice.new.self ≡ le32 (36 + 2 * n) = c.copy_from_slice.ensures.after ∙ c.to_le_bytes.ensures ∙ le32_wraps _ _ whole in
    let rate_bytes : c.copy_from_slice-2.new.self ≡ le32 rate = c.copy_from_slice-2.ensures.after ∙ c.to_le_bytes-2.ensures in
    let speed_bytes : c.copy_from_slice-3.new.self ≡ le32 (2 * rate) = c.copy_from_slice-3.ensures.after ∙ c.to_le_bytes-3.ensures ∙ le32_wraps _ _ speed in
    let size_bytes : c.copy_from_slice-4.new.self ≡ le32 (2 * n) = c.copy_from_slice-4.ensures.after ∙ c.to_le_bytes-4.ensures ∙ le32_wraps _ _ size in
    rw (whole_bytes, rate_bytes, speed_bytes, size_bytes)
