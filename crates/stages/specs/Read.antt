-- Document 01, "Reading a line", and document 02, E1, E5, E9 and E12: a text's parts, item by item, and the words of a line.
use Rattle.std.specs.Prelude.{ℕ, suc, ◌+◌, ◌-◌, ◌||◌, List, [], ◌∷◌, eqb, length, drop}
use Prim.Native.Char.{code}
use Rattle.stages.specs.Recur.{fix}
use Rattle.stages.specs.Numbers.{bare_operator, depth_limit}
use Rattle.stages.specs.Bytes.{Text, is_blank, is_operator}
use Rattle.stages.specs.Outcome.{Outcome, refused, done, ◌>>=◌, Placed, refused_at, done_at, placed_at, ◌then◌, cases}
use Rattle.stages.specs.Syntax.{Parts, Mode, Word, plain, unescaped, fresh, word, arith, end, lit, quo, par, len, lst, ari, til}
use Rattle.stages.specs.Items.{Item, item, fault, stop, byte, paren, quote, value_of, count, spread, inner, sum, home_of, onward, behind_byte}

-- a text's parts, and what is behind the text
abbrev pub Taken : Type 0
Taken = Outcome (Parts × Text)

-- how texts are read: their mode, how many expansions may still open, the bytes
abbrev pub Reader : Type 0
Reader = Mode → ℕ → Text → Taken

-- a part in front of what is read next
abbrev pub put : (Parts → Parts) → Taken → Taken
put f r = r >>= λ p. done (f p.0, p.1)

-- a part made of an inner text, in front of what is read next
abbrev pub nest : (Parts → Parts → Parts) → Taken → (Text → Taken) → Taken
nest f r more = r >>= λ p. put (f p.0) (more p.1)

-- a text with this item at its head, and the rest by `rec`
unfoldable pub read_item : Reader → Mode → ℕ → Text → Item → Taken
unfolding onward behind_byte
read_item rec m d t (fault n) = refused n
read_item rec m d t (stop k) = done (end, drop k t)
read_item rec m d t (byte q b k) = put (lit q b) (rec (behind_byte m q b) d (drop (suc k) t))
read_item rec m d t (paren b n) = put (lit unescaped b) (rec (arith n) d (drop 1 t))
read_item rec m d t (quote n k) = nest quo (rec n d (drop (suc k) t)) (rec (onward m) d)
read_item rec m d t (value_of x k) = put (par x plain end) (rec (onward m) d (drop (suc k) t))
read_item rec m d t (count x k) = put (len x) (rec (onward m) d (drop (suc k) t))
read_item rec m d t (spread s k) = put (lst s) (rec (onward m) d (drop (suc k) t))
read_item rec m d t (inner x f n k) = nest (par x f) (rec n (d - 1) (drop (suc k) t)) (rec (onward m) d)
read_item rec m d t sum = nest ari (rec (arith 0) (d - 1) (drop 3 t)) (rec (onward m) d)
read_item rec m d t (home_of x k) = put (til x) (rec (onward m) d (drop (suc k) t))

-- a question to the reader, and its size
abbrev pub Ask : Type 0
Ask = Mode × ℕ × Text

abbrev pub ask_size : Ask → ℕ
ask_size a = length a.2

unfoldable pub ask_step : (Ask → Taken) → Ask → Taken
unfolding read_item item
ask_step rec a = read_item (λ m d t. rec (m, d, t)) a.0 a.1 a.2 (item a.0 a.1 a.2)

-- the parts of a text in a mode, where d expansions may still open, and what is behind the text; never stuck by `parts_item` of proofs/Read
unfoldable pub parts : Reader
unfolding ask_step fix
parts m d t = fix ask_size (refused 0) ask_step (m, d, t)

-- how one piece of a line is read, a word or by E9 an assignment: what it is read as, and what is behind it
abbrev pub Piece : Type 0 → Type 0
Piece A = Text → Outcome (A × Text)

-- A piece whose first byte is at `place`, read by `one` and kept with its place by `keep`, and the pieces behind it.
unfoldable pub piece_at : {A B : Type 0} → Piece A → (ℕ → A → B) → (ℕ × Text → Placed (List B)) → ℕ → Text → Placed (List B)
piece_at one keep rec place t =
    placed_at place (one t) then λ p.
    rec (place + (length t - length p.1), p.1) then λ l.
    done_at (keep place p.0 ∷ l)

-- "Bare blank, tab, newline separate words. Bare `|&;<>()` and `#` at a word's start are 8."; the place is that "of the operator itself if
-- no word is open"
unfoldable pub pieces_step : {A B : Type 0} → Piece A → (ℕ → A → B) → (ℕ × Text → Placed (List B)) → ℕ × Text → Placed (List B)
unfolding piece_at is_blank is_operator
pieces_step one keep rec (place, []) = done_at []
pieces_step one keep rec (place, b ∷ t) =
    cases (
    (is_blank b, λ _. rec (suc place, t))
    ∷ (is_operator b || eqb b (code "#"), λ _. refused_at bare_operator place)
    ∷ []) λ _. piece_at one keep rec place (b ∷ t)

abbrev pub pieces_size : ℕ × Text → ℕ
pieces_size p = length p.1

-- the pieces of a text that begins at `place` of the line; never stuck where each takes a byte at least, by `pieces_sound` of proofs/Pieces
unfoldable pub pieces : {A B : Type 0} → Piece A → (ℕ → A → B) → ℕ × Text → Placed (List B)
unfolding pieces_step fix
pieces one keep p = fix pieces_size (refused_at 0 0) (pieces_step one keep) p

abbrev pub Words : Type 0
Words = Placed (List Word)

-- how a word is read, and kept
abbrev pub a_word : Piece Parts
a_word t = parts (word fresh) depth_limit t

abbrev pub word_of : ℕ → Parts → Word
word_of place p = record { place = place; parts = p }

-- the words of a text that begins at `place` of the line
abbrev pub words : ℕ × Text → Words
words p = pieces a_word word_of p

-- "then the whole line is read"
unfoldable pub read_line : Text → Words
unfolding pieces parts
read_line t = words (0, t)
