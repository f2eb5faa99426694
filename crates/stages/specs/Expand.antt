-- Document 01, "Units and expansion", and document 02, E1, E5, E7 and E14: parts to rows, the tilde, the forms of a parameter, `$@` and `$*`.
use Rattle.std.specs.Prelude.{ℕ, ◌+◌, Bool, true, false, ◌||◌, List, [], ◌∷◌, ◌++◌, length, take}
use Prim.Native.Char.{code}
use Rattle.std.proofs.Math.Option.{Option, none, some}
use Rattle.stages.specs.Bytes.{Text, text}
use Rattle.stages.specs.Outcome.{Outcome, demands, done, ◌>>=◌}
use Rattle.stages.specs.Images.{Pairs, lookup}
use Rattle.stages.specs.Syntax.{Side, Reach, Form, plain, minus, equals, query, plus, removal}
use Rattle.stages.specs.Syntax.{Param, Counted, bytes_of, parameters, Spread, apart, joint}
use Rattle.stages.specs.Syntax.{Parts, end, lit, quo, par, len, lst, ari, til}
use Rattle.stages.specs.Units.{Mark, L, E, Q, cell, N, B, Row, marked, bytes, expanded_mark, lit_mark, fit, decimal}
use Rattle.stages.specs.Params.{Lent, value, sought, missing, store_in}
use Rattle.stages.specs.Arith.{arithmetic_of}
use Rattle.stages.specs.Pattern.{pattern, for_removal}
use Rattle.stages.specs.Removal.{removed}
use Rattle.stages.specs.Split.{ifs_now}

-- a row, the variables behind its stores, and whether `$@` of no parameters came in it
abbrev pub Made : Type 0
Made = Outcome (Row × Pairs × Bool)

-- a text as units, and the variables as they are
abbrev pub plainly : Text → Mark → Pairs → Made
plainly t m v = done (marked (expanded_mark m) t, v, false)

-- the value as units
abbrev pub given : Lent → Param → Mark → Pairs → Made
given a x m v = plainly (value a v x) m v

-- "`=`: if missing, the operand's bytes without marks are stored; then the value is given, whatever quotes the operand had"
unfoldable pub assigned : Lent → Param → Mark → Row × Pairs × Bool → Made
unfolding store_in value bytes marked
assigned a x m p = store_in a x (bytes p.0) p.1 >>= λ w. given a x m w

-- E7, of `?` on a value that is missing: "On 13 the operand is now expanded first .. Its bytes without marks are written"
unfoldable pub demand : Row × Pairs × Bool → Made
unfolding bytes
demand p = demands (bytes p.0)

-- "`%`, `%%`: the shortest, longest matching suffix is dropped; `#`, `##` the same for prefixes. .. The operand is always expanded, then the
-- value is read, empty if unset."
unfoldable pub cut_by : Lent → Side → Reach → Param → Mark → Row × Pairs × Bool → Made
unfolding value pattern removed marked
cut_by a side reach x m p = pattern for_removal p.0 >>= λ es. plainly (removed side reach es (value a p.1 x)) m p.1

-- one parameter in each form; `operand` expands its operand, literal bytes having the mark that it is handed. "Bare literal bytes of an operand
-- of `-` or `+` become E; Q and N stay." "An unused operand is not expanded." E14: "A removal is refused before its operand is expanded."
unfoldable pub parameter : Lent → (Mark → Pairs → Made) → Param → Form → Mark → Pairs → Made
unfolding value sought marked missing assigned demand cut_by
parameter a operand x plain m v = sought a v x >>= λ t. plainly t m v
parameter a operand x (minus c) m v = elim (missing a c x v) [ true ↦ operand (expanded_mark m) v | false ↦ given a x m v ]
parameter a operand x (equals c) m v = elim (missing a c x v) [ true ↦ operand m v >>= (λ p. assigned a x m p) | false ↦ given a x m v ]
parameter a operand x (query c) m v = elim (missing a c x v) [ true ↦ operand m v >>= (λ p. demand p) | false ↦ given a x m v ]
parameter a operand x (plus c) m v = elim (missing a c x v) [ true ↦ done ([], v, false) | false ↦ operand (expanded_mark m) v ]
parameter a operand x (removal side reach) m v = sought a v x >>= λ _. operand L v >>= λ p. cut_by a side reach x m p

-- E5, what stands between two parameters: "a break mark, in quotes an empty mark after it"; "`"$*"` joins with the first byte of IFS as it then
-- stands, a space if IFS is unset, nothing if empty."
unfoldable pub gap : Spread → Mark → Pairs → Row
unfolding ifs_now marked
gap s L v = B ∷ []
gap s E v = B ∷ []
gap apart Q v = B ∷ N ∷ []
gap joint Q v = marked Q (take 1 (ifs_now v))

-- parameters with that between them
unfoldable pub between : Row → Mark → List Text → Row
unfolding marked
between g m [] = []
between g m (t ∷ []) = marked m t
between g m (t ∷ u ∷ l) = marked m t ++ (g ++ between g m (u ∷ l))

-- `$@` or `$*` of these parameters
unfoldable pub list_row : Spread → Mark → List Text → Pairs → Row
unfolding gap between
list_row s m l v = between (gap s (expanded_mark m) v) (expanded_mark m) l

-- whether it is `$@` of no parameters
unfoldable pub of_none : Spread → List Text → Bool
of_none joint l = false
of_none apart [] = true
of_none apart (t ∷ l) = false

-- 01: "Each opening quote gives an N"; E5: "if there are none and nothing else came of those quotes, they give no field, not even an empty mark"
unfoldable pub in_quotes : Bool → Row → Row
in_quotes false r = N ∷ r
in_quotes true [] = []
in_quotes true (c ∷ r) = N ∷ c ∷ r

-- what is counted
unfoldable pub amount : Lent → Counted → Pairs → Outcome ℕ
unfolding sought
amount a (bytes_of x) v = sought a v x >>= λ t. done (length t)
amount a parameters v = done (length a.params)

-- units in front of what is expanded behind them, and whether `$@` of no parameters came in them
abbrev pub onto : Row → Bool → Made → Made
onto r g o = o >>= λ p. done (r ++ p.0, p.1, g || p.2)

-- the same, n units being in the row already: "each byte, mark or whole expansion is worked out before it is added"
abbrev pub adding : ℕ → Row → Bool → (ℕ → Made) → Made
unfolding fit
adding n r g more = fit n (length r) >>= λ i. onto r g (more i)

-- 01: "Empty login means HOME (even if empty), otherwise the homes table."
unfoldable pub directory : Pairs → Pairs → Text → Option Text
unfolding lookup
directory v homes [] = lookup (text "HOME") v
directory v homes (b ∷ t) = lookup (b ∷ t) homes

-- a tilde and its login, by the login's directory, where literal bytes have the mark m. 01: "Found: an N, then the directory as Q. Not found: literal.";
-- 02: "where the directory counts as quoted"
unfoldable pub tilde_row : Text → Mark → Option Text → Row
unfolding marked
tilde_row x m none = marked m (code "~" ∷ x)
tilde_row x m (some d) = N ∷ marked Q d

-- a text's row behind n units of the same row; m is the mark of its literal bytes. "Each opening quote gives an N, then its bytes as Q": the N has room
-- when the quotes open, and whether it stays is known when they close.
unfoldable pub expand : Lent → Parts → Mark → ℕ → Pairs → Made
unfolding fit parameter decimal amount arithmetic_of bytes marked list_row of_none in_quotes tilde_row directory
expand a end m n v = done ([], v, false)
expand a (lit q b p) m n v = adding n (cell (lit_mark q m) b ∷ []) false λ i. expand a p m i v
expand a (quo q p) m n v =
    fit n 1 >>= λ i. expand a q Q i v >>= λ r. onto (in_quotes r.2 r.0) false (expand a p m (n + length (in_quotes r.2 r.0)) r.1)
expand a (par x f q p) m n v = parameter a (λ k w. expand a q k 0 w) x f m v >>= λ r. adding n r.0 r.2 λ i. expand a p m i r.1
expand a (len x p) m n v = amount a x v >>= λ k. adding n (marked (expanded_mark m) (decimal k)) false λ i. expand a p m i v
expand a (lst s p) m n v = adding n (list_row s m a.params v) (of_none s a.params) λ i. expand a p m i v
expand a (ari q p) m n v =
    expand a q Q 0 v >>= λ r. arithmetic_of a r.1 (bytes r.0) >>= λ s. adding n (marked (expanded_mark m) s.0) false λ i. expand a p m i s.1
expand a (til x p) m n v = adding n (tilde_row x m (directory v a.homes x)) false λ i. expand a p m i v
