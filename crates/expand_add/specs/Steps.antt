-- What each part of a text gives by itself behind n units, apart from what follows it.
use Rattle.std.specs.Prelude.{ℕ, ◌+◌, Bool, false, length}
use Rattle.stages.specs.Outcome.{Outcome, done, ◌>>=◌}
use Rattle.stages.specs.Images.{Pairs}
use Rattle.stages.specs.Syntax.{Parts}
use Rattle.stages.specs.Units.{Mark, Q, Row, marked, bytes, expanded_mark, fit}
use Rattle.stages.specs.Arith.{arithmetic_of}
use Rattle.stages.specs.Params.{Lent}
use Rattle.stages.specs.Expand.{Made, in_quotes, onto, expand}

-- a row that stores nothing, and whether `$@` of no parameters came in it
abbrev pub beside : Pairs → Bool → Outcome Row → Made
beside v g o = o >>= λ r. done (r, v, g)

-- "each byte, mark or whole expansion is worked out before it is added"
unfoldable pub placed : ℕ → Made → Made
unfolding fit
placed n made = made >>= λ r. fit n (length r.0) >>= λ i. done r

-- "Each opening quote gives an N, then its bytes as Q"; the N has room when they open, and stays unless nothing but `$@` of no parameters stands in them
unfoldable pub quoted : Lent → Parts → ℕ → Pairs → Made
unfolding expand fit in_quotes
quoted a q n v = fit n 1 >>= λ i. expand a q Q i v >>= λ r. done (in_quotes r.2 r.0, r.1, false)

-- the number of an arithmetic text that is expanded
unfoldable pub summed : Lent → Mark → Row × Pairs × Bool → Made
unfolding arithmetic_of bytes marked
summed a m p = arithmetic_of a p.1 (bytes p.0) >>= λ s. done (marked (expanded_mark m) s.0, s.1, false)

-- the number of an arithmetic text
unfoldable pub summing : Lent → Parts → Mark → Pairs → Made
unfolding expand summed
summing a q m v = expand a q Q 0 v >>= λ p. summed a m p

-- what a part gives, and behind it the parts p
unfoldable pub followed : Lent → Parts → Mark → ℕ → Made → Made
unfolding expand
followed a p m n own = own >>= λ r. onto r.0 r.2 (expand a p m (n + length r.0) r.1)
