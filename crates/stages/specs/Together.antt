-- Document 02, E8: "What stands in quotes stays together." Its words, by a test of the line's text, and its tables.
use Rattle.std.specs.Prelude.{ℕ, ◌≡◌, Bool, true, false, ◌&&◌, not, [], ◌∷◌, take}
use Rattle.std.proofs.Math.Option.{Option, none, some}
use Rattle.stages.specs.Bytes.{Text, text, is_in, eq_text, all}
use Rattle.stages.specs.Outcome.{Outcome, refused, demands, done, refused_at, demands_at, done_at}
use Rattle.stages.specs.Images.{Pairs, push, is_some, held}
use Rattle.stages.specs.Syntax.{Param, var, nth, Counted, bytes_of, parameters, Escape, escaped, unescaped}
use Rattle.stages.specs.Syntax.{Parts, end, lit, quo, par, len, lst, ari, til}
use Rattle.stages.specs.Read.{Words, read_line}
use Rattle.stages.specs.Arith.{Tree, constant_of, name_of, unary, binary, choice, assign, tree}
use Rattle.stages.specs.Call.{Given, Answer}

-- THE WORD. A word is a row of parts, and what stands in quotes is one of them: outside quotes are the parts of the row itself.

-- "every `$` stands inside double quotes": each `$` that begins an expansion. One that is a literal byte, as in '$x' or \$, may stand anywhere
unfoldable pub dollars_quoted : Parts → Bool
dollars_quoted end = true
dollars_quoted (lit q b p) = dollars_quoted p
dollars_quoted (quo q p) = dollars_quoted p
dollars_quoted (par x f q p) = false
dollars_quoted (len c p) = false
dollars_quoted (lst s p) = false
dollars_quoted (ari q p) = false
dollars_quoted (til x p) = dollars_quoted p

-- "no bare `*`, `?` or `[` outside quotes": one that a backslash quotes is not bare, and what stands in quotes, the operand of a removal there too, is inside
unfoldable pub no_sign : ℕ → Bool
no_sign b = not (is_in b (text "*?["))

unfoldable pub no_bare_sign : Escape → ℕ → Bool
unfolding no_sign
no_bare_sign escaped b = true
no_bare_sign unescaped b = no_sign b

unfoldable pub signs_quoted : Parts → Bool
unfolding no_bare_sign no_sign
signs_quoted end = true
signs_quoted (lit q b p) = no_bare_sign q b && signs_quoted p
signs_quoted (quo q p) = signs_quoted p
signs_quoted (par x f q p) = signs_quoted p
signs_quoted (len c p) = signs_quoted p
signs_quoted (lst s p) = signs_quoted p
signs_quoted (ari q p) = signs_quoted p
signs_quoted (til x p) = all no_sign x && signs_quoted p

-- what is asked of the expansions of a word, of those in quotes, operands and arithmetic texts too
pub record Asked : Type 0 where
  pub param : Param → Bool
  pub count : Counted → Bool
  pub list : Bool
  pub sum : Parts → Bool  -- of an arithmetic text

unfoldable pub everywhere : Asked → Parts → Bool
everywhere a end = true
everywhere a (lit q b p) = everywhere a p
everywhere a (quo q p) = everywhere a q && everywhere a p
everywhere a (par x f q p) = a.param x && (everywhere a q && everywhere a p)
everywhere a (len c p) = a.count c && everywhere a p
everywhere a (lst s p) = a.list && everywhere a p
everywhere a (ari q p) = a.sum q && (everywhere a q && everywhere a p)
everywhere a (til x p) = everywhere a p

-- "no `@` or `*` parameter"
abbrev pub no_lists : Asked
no_lists = record { param = λ x. true; count = λ c. true; list = false; sum = λ q. true }

-- the bytes of a text in which nothing is expanded
unfoldable pub literally : Parts → Option Text
literally end = some []
literally (lit q b p) = push b (literally p)
literally (quo q p) = none
literally (par x f q p) = none
literally (len c p) = none
literally (lst s p) = none
literally (ari q p) = none
literally (til x p) = none

-- "no `$` within an arithmetic text"
abbrev pub plain_sums : Asked
plain_sums = record { param = λ x. true; count = λ c. true; list = true; sum = λ q. is_some (literally q) }

-- "no mention of IFS": as a name, by itself or in a length ..
unfoldable pub other_name : Text → Bool
other_name x = not (eq_text x (text "IFS"))

unfoldable pub other_param : Param → Bool
unfolding other_name
other_param (var x) = other_name x
other_param (nth k) = true

unfoldable pub other_count : Counted → Bool
unfolding other_param
other_count (bytes_of x) = other_param x
other_count parameters = true

-- .. or as a name in arithmetic, needed or not, read or by E10 stored; a text that is refused in reading has no names
unfoldable pub other_names : Tree → Bool
unfolding other_name
other_names (constant_of z) = true
other_names (name_of x) = other_name x
other_names (unary o l) = other_names l
other_names (binary o l r) = other_names l && other_names r
other_names (choice c l r) = other_names c && (other_names l && other_names r)
other_names (assign o x r) = other_name x && other_names r

unfoldable pub other_tree : Outcome Tree → Bool
unfolding other_names
other_tree (refused n) = true
other_tree (demands t) = true
other_tree (done e) = other_names e

unfoldable pub other_text : Option Text → Bool
unfolding other_tree tree
other_text none = true
other_text (some t) = other_tree (tree t)

abbrev pub no_ifs : Asked
no_ifs = record { param = λ x. other_param x; count = λ c. other_count c; list = true; sum = λ q. other_text (literally q) }

-- the request's word, clause by clause
unfoldable pub is_together : Parts → Bool
unfolding dollars_quoted signs_quoted everywhere other_param other_count other_text literally
is_together p = dollars_quoted p && (signs_quoted p && (everywhere no_lists p && (everywhere no_ifs p && everywhere plain_sums p)))

unfoldable pub one_together : Words → Bool
unfolding is_together
one_together (refused_at n place) = false
one_together (demands_at t place) = false
one_together (done_at []) = false
one_together (done_at (w ∷ [])) = is_together w.parts
one_together (done_at (w ∷ u ∷ ws)) = false

-- THE TEST of a line's text: "a one-word line" of such a word
unfoldable pub together : Text → Bool
unfolding one_together read_line
together t = one_together (read_line t)

-- THE TABLES

-- "all variables but IFS"
unfoldable pub but_ifs : Pairs → Pairs
but_ifs [] = []
but_ifs (r ∷ v) = elim (eq_text r.0 (text "IFS")) [ true ↦ but_ifs v | false ↦ r ∷ but_ifs v ]

-- the variables that a call is given, and those that it leaves
abbrev pub vars_before : Given → Pairs
vars_before g = held (take g.vars_used g.vars)

abbrev pub vars_after : Answer → Pairs
vars_after a = held (take a.vars_used a.vars)

-- "two sets of tables that differ only in the value of IFS and in the list of paths", for one line: IFS may also be unset in one of them, and the sizes of
-- buffers may differ
pub record Differ (g h : Given) : Type 0 where
  pub line : g.line ≡ h.line
  pub homes : g.homes ≡ h.homes
  pub params : g.params ≡ h.params
  pub vars : but_ifs (vars_before g) ≡ but_ifs (vars_before h)
