-- A word of a line has a part: where no blank stands, reading a word does not end at once.
use Prim.Native.Nat.{ℕ, suc, ◌+◌, ◌-◌, ◌<◌}
use Prim.Native.Char.{code}
use native.Mathlib.Omega.{arith}
use mathlib.Core.Path.{◌≡◌, refl}
use mathlib.Core.Bool.{Bool, true, false, ◌||◌}
use mathlib.Core.List.{List, [], ◌∷◌}
use lib.Dec.{eqb}
use lib.ListN.{length, drop}
use Rattle.stages.specs.Recur.{by_size}
use Rattle.stages.specs.Numbers.{depth_limit}
use Rattle.stages.specs.Bytes.{Text, is_blank, is_operator}
use Rattle.stages.specs.Outcome.{refused, demands, done, refused_at, done_at, placed_at, ◌then◌}
use Rattle.stages.specs.Syntax.{Parts, end, lit, quo, par, len, lst, ari, til, Word, plain, unescaped, fresh, begun, word, arith as sums}
use Rattle.stages.specs.Items.{Item, onward, behind_byte}
use Rattle.stages.specs.Read.{Taken, parts, put, nest, read_item, Words, piece_at, pieces_size, words, read_line}
use Rattle.stages.proofs.Items.{AnyByte, Fair, faults, a_byte, a_paren, a_quote, a_value, a_count, a_spread, an_inner, a_sum, a_home, word_goes}
use Rattle.stages.proofs.Read.{Good, stays, leaves, parts_item, word_good}
use Rattle.stages.proofs.Words.{words_end, words_blank, words_operator, words_word}
use Rattle.stages.proofs.Outcomes.{Each}

abbrev pub SomePart : Parts → Type 0
SomePart end = ⊥
SomePart (lit q b p) = Unit {0}
SomePart (quo q p) = Unit {0}
SomePart (par x f q p) = Unit {0}
SomePart (len c p) = Unit {0}
SomePart (lst s p) = Unit {0}
SomePart (ari q p) = Unit {0}
SomePart (til x p) = Unit {0}

-- ONE WORD

data Begins : Taken → Type 0 where
  refuses : {n : ℕ} → Begins (refused n)
  asks : {t : Text} → Begins (demands t)
  begins : {p : Parts × Text} → SomePart p.0 → Begins (done p)

put_begins : (f : Parts → Parts) → ((p : Parts) → SomePart (f p)) → (r : Taken) → Begins (put f r)
put_begins f h (refused n) = refuses
put_begins f h (demands t) = asks
put_begins f h (done p) = begins (h p.0)

nest_begins : (f : Parts → Parts → Parts) → ((q p : Parts) → SomePart (f q p)) → (r : Taken) (more : Text → Taken) → Begins (nest f r more)
nest_begins f h (refused n) more = refuses
nest_begins f h (demands t) more = asks
nest_begins f h (done p) more = put_begins (f p.0) (h p.0) (more p.1)

item_begins : (d : ℕ) (t : Text) {i : Item} → Fair AnyByte false i → Begins (read_item parts (word fresh) d t i)
unfolding read_item onward behind_byte
item_begins d t (faults e) = refuses
item_begins d t (a_byte {q = q} {b = b} {k = k} _) = put_begins (lit q b) (λ p. tt) (parts (word begun) d (drop (suc k) t))
item_begins d t (a_paren {b = b} {n = n} _) = put_begins (lit unescaped b) (λ p. tt) (parts (sums n) d (drop 1 t))
item_begins d t (a_quote {m = m} {k = k}) = nest_begins quo (λ q p. tt) (parts m d (drop (suc k) t)) (parts (word begun) d)
item_begins d t (a_value {x = x} {k = k} _) = put_begins (par x plain end) (λ p. tt) (parts (word begun) d (drop (suc k) t))
item_begins d t (a_count {x = x} {k = k} _) = put_begins (len x) (λ p. tt) (parts (word begun) d (drop (suc k) t))
item_begins d t (a_spread {j = j} {k = k}) = put_begins (lst j) (λ p. tt) (parts (word begun) d (drop (suc k) t))
item_begins d t (an_inner {x = x} {f = f} {m = m} {k = k} _) =
    nest_begins (par x f) (λ q p. tt) (parts m (d - 1) (drop (suc k) t)) (parts (word begun) d)
item_begins d t a_sum = nest_begins ari (λ q p. tt) (parts (sums 0) (d - 1) (drop 3 t)) (parts (word begun) d)
item_begins d t (a_home {x = x} {k = k} _) = put_begins (til x) (λ p. tt) (parts (word begun) d (drop (suc k) t))

word_begins : (d b : ℕ) (t : Text) → is_blank b ≡ false → Begins (parts (word fresh) d (b ∷ t))
word_begins d b t e = rw (parts_item (word fresh) d (b ∷ t) refl) (item_begins d (b ∷ t) (word_goes fresh d b t e))

-- ALL WORDS

data AllBegin : Words → Type 0 where
  refuse : {n place : ℕ} → AllBegin (refused_at n place)
  all_begin : {ws : List Word} → Each (λ w. SomePart w.parts) ws → AllBegin (done_at ws)

more_begin : {o : Words} (w : Word) → SomePart w.parts → AllBegin o → AllBegin (o then λ ws. done_at (w ∷ ws))
more_begin w h refuse = refuse
more_begin w h (all_begin {ws = ws} k) = all_begin {ws = w ∷ ws} (h, k)

module _ (place b : ℕ) (t : Text) (ih : (q : ℕ × Text) → length q.1 < suc (length t) → AllBegin (words q)) where
  abbrev behind : Parts × Text → Words
  behind p = words (place + (suc (length t) - length p.1), p.1) then λ ws. done_at (record { place = place; parts = p.0 } ∷ ws)

  rest_begin : {r : Taken} → Good (length t) r → Begins r → AllBegin (placed_at place r then behind)
  rest_begin (stays g) h = refuse
  rest_begin (leaves {p = p} l) (begins h) =
      more_begin (record { place = place; parts = p.0 }) h (ih (place + (suc (length t) - length p.1), p.1) (omega arith))

  cons_begin : (x : Bool) → is_blank b ≡ x → (y : Bool) → (is_operator b || eqb b (code "#")) ≡ y → AllBegin (words (place, b ∷ t))
  unfolding piece_at
  cons_begin true e y d = rw (words_blank place b t e) (ih (suc place, t) (omega arith))
  cons_begin false e true d = rw (words_operator place b t e d) refuse
  cons_begin false e false d = rw (words_word place b t e d) (rest_begin (word_good fresh depth_limit b t e) (word_begins depth_limit b t e))

words_begin : (q : ℕ × Text) → AllBegin (words q)
words_begin q = by_size pieces_size (λ q. AllBegin (words q)) one q
  where
    one : (q : ℕ × Text) → ((r : ℕ × Text) → pieces_size r < pieces_size q → AllBegin (words r)) → AllBegin (words q)
    one (place, []) ih = rw (words_end place) (all_begin tt)
    one (place, b ∷ t) ih = cons_begin place b t ih (is_blank b) refl (is_operator b || eqb b (code "#")) refl

first_begins : {o : Words} {w : Word} {ws : List Word} → AllBegin o → o ≡ done_at (w ∷ ws) → SomePart w.parts
first_begins refuse e = absurd (let z : ◌≡◌ {A = ℕ} 0 1 = cc in omega arith)
first_begins {w = w} {ws = ws} (all_begin {ws = us} h) e = let k : us ≡ w ∷ ws = cc in (rw k at h).0

-- the first word of a line has one
pub some_part : (t : Text) (w : Word) (ws : List Word) → read_line t ≡ done_at (w ∷ ws) → SomePart w.parts
unfolding read_line
some_part t w ws e = first_begins (words_begin (0, t)) e
