-- One store sets the bit of `b` in its word and leaves all other bits.
use Rattle.std.proofs.Common.{◌≡◌, length, rules}
use Rattle.pattern_set.proofs.Sets.{byte_more}
use Rattle.pattern_set.proofs.ByteSet.with_byte.Goals as goal

pub returns : goal.returns
returns c =
    let a = c.args in
    let four : length a.self.words ≡ 4 = search rules in
    λ k h. byte_more a.self.words a.b k four c.ranges.b.fits
