-- Laws of `parts`. It is defined by recursion on what is shorter, with an escape that would answer number 0: each call is on something shorter and
-- every number is from 7 to 12, so the escape is never taken, and `parts` unfolds by its own equation. From it come one equation with places for
-- each item, and what stood behind a part that is read.
use Prim.Native.Nat.{ℕ, suc, ◌+◌, ◌-◌, ◌≤◌, ◌<◌}
use native.Mathlib.Omega.{arith}
use mathlib.Core.Path.{◌≡◌, refl, sym, ap, ◌∙◌}
use mathlib.Core.Bool.{true, false}
use mathlib.Core.List.{[], ◌∷◌}
use lib.ListN.{length, drop}
use lib.Seq.{drop-drop}
use Rattle.stages.specs.Recur.{below, below_ok, fix_eq, by_size}
use Rattle.stages.specs.Bytes.{Text, between, is_blank}
use Rattle.stages.specs.Outcome.{Outcome, refused, done, demands}
use Rattle.stages.specs.Syntax.{Form, plain, Escape, unescaped, Parts, end, lit, quo, par, len, lst, ari, til}
use Rattle.stages.specs.Syntax.{Param, Counted, Spread}
use Rattle.stages.specs.Syntax.{Start, Mode, word, value, bare, single, double, quoted_operand, arith as sums}
use Rattle.stages.specs.Items.{Item, fault, stop, byte, paren, quote, value_of, count, spread, inner, sum, home_of, item, ended, onward, behind_byte}
use Rattle.stages.specs.Read.{Taken, Reader, put, nest, read_item, Ask, ask_size, ask_step, parts}
use Rattle.stages.proofs.Texts.{drop_short}
use Rattle.stages.proofs.Items.{
  AnyByte,
  Fair,
  faults,
  a_byte,
  a_paren,
  a_quote,
  a_value,
  a_count,
  a_spread,
  an_inner,
  a_sum,
  a_home,
  View,
  ends,
  on,
  view,
  item_fair,
  word_goes,
}

-- What is left is no longer than the text, and a number is from 7 to 12.

pub data Good {A : Type 0} (n : ℕ) : Outcome (A × Text) → Type 0 where
  stays : {k : ℕ} → between 7 k 12 ≡ true → Good n (refused k)
  leaves : {p : A × Text} → length p.1 ≤ n → Good n (done p)

wider : {n i : ℕ} {r : Taken} → Good n r → n ≤ i → Good i r
wider (stays g) h = stays g
wider (leaves {p = p} g) h = leaves {p = p} (omega arith)

put_good : {n i : ℕ} (f : Parts → Parts) {r : Taken} → Good n r → n ≤ i → Good i (put f r)
put_good f (stays g) h = stays g
put_good f (leaves {p = p} g) h = leaves {p = (f p.0, p.1)} (omega arith)

module _ (k : ℕ) (rec : Reader) (g : (m : Mode) (d : ℕ) (t : Text) → length t < k → Good (length t) (rec m d t)) where
  nest_good : (f : Parts → Parts → Parts) (m : Mode) (d i j : ℕ) {r : Taken} → Good i r → i < k → i ≤ j → Good j (nest f r (rec m d))
  nest_good f m d i j (stays h) l n = stays h
  nest_good f m d i j (leaves {p = p} l) h n = put_good (f p.0) (g m d p.1 (omega arith)) (omega arith)

  going_good : (m : Mode) (d b : ℕ) (t : Text) {i : Item} → Fair AnyByte false i → length t < k → Good (length t) (read_item rec m d (b ∷ t) i)
  unfolding read_item
  going_good m d b t (faults w) h = stays w
  going_good m d b t (a_byte {q = q} {b = c} {k = n} _) h = let e = drop_short n t in put_good (lit q c) (g (behind_byte m q c) d (drop n t) (omega arith)) e
  going_good m d b t (a_paren {n = n} _) h = put_good _ (g (sums n) d t h) (omega arith)
  going_good m d b t (a_quote {m = n} {k = j}) h =
      let e = drop_short j t in
      nest_good quo (onward m) d (length (drop j t)) (length t) (g n d (drop j t) (omega arith)) (omega arith) e
  going_good m d b t (a_value {k = n} _) h = let e = drop_short n t in put_good _ (g (onward m) d (drop n t) (omega arith)) e
  going_good m d b t (a_count {k = n} _) h = let e = drop_short n t in put_good _ (g (onward m) d (drop n t) (omega arith)) e
  going_good m d b t (a_spread {k = n}) h = let e = drop_short n t in put_good _ (g (onward m) d (drop n t) (omega arith)) e
  going_good m d b t (an_inner {x = x} {f = f} {m = n} {k = j} _) h =
      let e = drop_short j t in nest_good (par x f) (onward m) d (length (drop j t)) (length t) (g n (d - 1) (drop j t) (omega arith)) (omega arith) e
  going_good m d b t a_sum h =
      let e = drop_short 2 t in nest_good ari (onward m) d (length (drop 2 t)) (length t) (g (sums 0) (d - 1) (drop 2 t) (omega arith)) (omega arith) e
  going_good m d b t (a_home {k = n} _) h = let e = drop_short n t in put_good _ (g (onward m) d (drop n t) (omega arith)) e

  fair_good : (m : Mode) (d b : ℕ) (t : Text) {i : Item} → View AnyByte i → length t < k → Good (suc (length t)) (read_item rec m d (b ∷ t) i)
  unfolding read_item
  fair_good m d b t (ends {k = n}) h = leaves {p = (end, drop n (b ∷ t))} (drop_short n (b ∷ t))
  fair_good m d b t (on w) h = wider (going_good m d b t w h) (omega arith)

  item_good : (m : Mode) (d : ℕ) (t : Text) → length t ≤ k → Good (length t) (read_item rec m d t (item m d t))
  unfolding read_item item ended
  item_good (word s) d [] h = leaves {p = (end, [])} (omega arith)
  item_good (value s) d [] h = leaves {p = (end, [])} (omega arith)
  item_good (bare s l) d [] h = stays refl
  item_good (single e) d [] h = stays refl
  item_good (double l) d [] h = stays refl
  item_good (quoted_operand l) d [] h = stays refl
  item_good (sums n) d [] h = stays refl
  item_good m d (b ∷ t) h = fair_good m d b t (view (item_fair m d b t)) (omega arith)

-- `parts` on what is shorter than k
abbrev shorter : ℕ → Reader
shorter k m d t = below ask_size (refused 0) k (λ a. parts a.0 a.1 a.2) (m, d, t)

shorter_ok : (k : ℕ) (m : Mode) (d : ℕ) (t : Text) → length t < k → shorter k m d t ≡ parts m d t
shorter_ok k m d t h = below_ok ask_size (refused 0) k (λ a. parts a.0 a.1 a.2) (m, d, t) h

parts_eq : (m : Mode) (d : ℕ) (t : Text) → parts m d t ≡ read_item (shorter (length t)) m d t (item m d t)
unfolding parts ask_step
parts_eq m d t = fix_eq ask_size (refused 0) ask_step (m, d, t)

pub parts_good : (m : Mode) (d : ℕ) (t : Text) → Good (length t) (parts m d t)
parts_good m d t = by_size ask_size (λ a. Good (length a.2) (parts a.0 a.1 a.2)) one (m, d, t)
  where
    one : (a : Ask) → ((b : Ask) → ask_size b < ask_size a → Good (length b.2) (parts b.0 b.1 b.2)) → Good (length a.2)
        (parts a.0 a.1 a.2)
    one a h =
        rw (parts_eq a.0 a.1 a.2)
        (item_good (length a.2) (shorter (length a.2)) (λ n e u l. rw (shorter_ok (length a.2) n e u l) (h (n, e, u) l)) a.0 a.1
        a.2 (omega arith))

-- a word whose first byte is no blank leaves less than the text
pub word_good : (s : Start) (d b : ℕ) (t : Text) → is_blank b ≡ false → Good (length t) (parts (word s) d (b ∷ t))
word_good s d b t e =
    rw (parts_eq (word s) d (b ∷ t))
    (going_good (suc (length t)) (shorter (suc (length t))) (λ n f u l. rw (shorter_ok (suc (length t)) n f u l) (parts_good n f u)) (word s) d b t
    (word_goes s d b t e) (omega arith))

-- The law of `parts`: a text is read by its first item, the rest by `parts` itself.

nest_ok : (k : ℕ) (f : Parts → Parts → Parts) (m : Mode) (d i : ℕ) {r : Taken} → Good i r → i < k → nest f r (shorter k m d) ≡ nest f
    r (parts m d)
nest_ok k f m d i (stays g) h = refl
nest_ok k f m d i (leaves {p = p} l) h = ap (put (f p.0)) (shorter_ok k m d p.1 (omega arith))

module _ (m : Mode) (d b : ℕ) (t : Text) where
  put_ok : (f : Parts → Parts) (n : Mode) (j : ℕ) → put f (shorter (suc (length t)) n d (drop j t)) ≡ put f (parts n d (drop j t))
  put_ok f n j = let e = drop_short j t in ap (put f) (shorter_ok _ n d (drop j t) (omega arith))

  nested_ok : (f : Parts → Parts → Parts) (n : Mode) (c j : ℕ)
      → nest f (shorter (suc (length t)) n c (drop j t)) (shorter (suc (length t)) (onward m) d) ≡ nest f (parts n c (drop j t)) (parts (onward m) d)
  nested_ok f n c j =
      let e = drop_short j t in
      ap (λ (r : Taken). nest f r (shorter (suc (length t)) (onward m) d)) (shorter_ok _ n c (drop j t) (omega arith))
      ∙ nest_ok _ f (onward m) d (length (drop j t)) (parts_good n c (drop j t)) (omega arith)

  by_item : (i : Item) → read_item (shorter (suc (length t))) m d (b ∷ t) i ≡ read_item parts m d (b ∷ t) i
  unfolding read_item
  by_item (fault n) = refl
  by_item (stop n) = refl
  by_item (byte q c n) = put_ok (lit q c) (behind_byte m q c) n
  by_item (paren c n) = ap (put (lit unescaped c)) (shorter_ok _ (sums n) d t (omega arith))
  by_item (quote n k) = nested_ok quo n d k
  by_item (value_of x n) = put_ok (par x plain end) (onward m) n
  by_item (count x n) = put_ok (len x) (onward m) n
  by_item (spread s n) = put_ok (lst s) (onward m) n
  by_item (inner x f n j) = nested_ok (par x f) n (d - 1) j
  by_item sum = nested_ok ari (sums 0) (d - 1) 2
  by_item (home_of x n) = put_ok (til x) (onward m) n

by_ended : (m : Mode) (d : ℕ) → read_item (shorter 0) m d [] (item m d []) ≡ read_item parts m d [] (item m d [])
unfolding read_item item ended
by_ended (word s) d = refl
by_ended (value s) d = refl
by_ended (bare s l) d = refl
by_ended (single e) d = refl
by_ended (double l) d = refl
by_ended (quoted_operand l) d = refl
by_ended (sums n) d = refl

by_first : (m : Mode) (d : ℕ) (t : Text) → read_item (shorter (length t)) m d t (item m d t) ≡ read_item parts m d t (item m d t)
by_first m d [] = by_ended m d
by_first m d (b ∷ t) = by_item m d b t (item m d (b ∷ t))

pub parts_item : (m : Mode) (d : ℕ) (t : Text) {i : Item} → item m d t ≡ i → parts m d t ≡ read_item parts m d t i
parts_item m d t e = parts_eq m d t ∙ by_first m d t ∙ ap (read_item parts m d t) e

-- What stands at `at`, as an equation of `parts` with the text's places.

module _ (text : Text) (at : ℕ) where
  place : (next : ℕ) → at < next → drop (suc (next - suc at)) (drop at text) ≡ drop next text
  place next l = let e : at + suc (next - suc at) ≡ next = omega arith in drop-drop (suc (next - suc at)) at text ∙ ap (λ (k : ℕ). drop k text) e

  stopped : (next : ℕ) → at ≤ next → drop (next - at) (drop at text) ≡ drop next text
  stopped next l = let e : at + (next - at) ≡ next = omega arith in drop-drop (next - at) at text ∙ ap (λ (k : ℕ). drop k text) e

  module _ (m : Mode) (d : ℕ) where
    abbrev here : Taken → Type 0
    here o = parts m d (drop at text) ≡ o

    pub at_fault : (e : ℕ) → item m d (drop at text) ≡ fault e → here (refused e)
    unfolding read_item
    at_fault e h = parts_item m d (drop at text) h

    pub at_stop : (next : ℕ) → item m d (drop at text) ≡ stop (next - at) → at ≤ next → here (done (end, drop next text))
    unfolding read_item
    at_stop next h l = parts_item m d (drop at text) h ∙ ap (λ (t : Text). done (end, t)) (stopped next l)

    pub at_byte : (q : Escape) (b next : ℕ) → item m d (drop at text) ≡ byte q b (next - suc at) → at < next → here
        (put (lit q b) (parts (behind_byte m q b) d (drop next text)))
    unfolding read_item
    at_byte q b next h l = parts_item m d (drop at text) h ∙ ap (λ (t : Text). put (lit q b) (parts (behind_byte m q b) d t)) (place next l)

    pub at_paren : (b n : ℕ) → item m d (drop at text) ≡ paren b n → here (put (lit unescaped b) (parts (sums n) d (drop (at + 1) text)))
    unfolding read_item
    at_paren b n h = parts_item m d (drop at text) h ∙ ap (λ (t : Text). put (lit unescaped b) (parts (sums n) d t)) (drop-drop 1 at text)

    pub at_value : (x : Param) (next : ℕ) → item m d (drop at text) ≡ value_of x (next - suc at) → at < next → here
        (put (par x plain end) (parts (onward m) d (drop next text)))
    unfolding read_item
    at_value x next h l = parts_item m d (drop at text) h ∙ ap (λ (t : Text). put (par x plain end) (parts (onward m) d t)) (place next l)

    pub at_count : (x : Counted) (next : ℕ) → item m d (drop at text) ≡ count x (next - suc at) → at < next → here
        (put (len x) (parts (onward m) d (drop next text)))
    unfolding read_item
    at_count x next h l = parts_item m d (drop at text) h ∙ ap (λ (t : Text). put (len x) (parts (onward m) d t)) (place next l)

    pub at_spread : (s : Spread) (next : ℕ) → item m d (drop at text) ≡ spread s (next - suc at) → at < next → here
        (put (lst s) (parts (onward m) d (drop next text)))
    unfolding read_item
    at_spread s next h l = parts_item m d (drop at text) h ∙ ap (λ (t : Text). put (lst s) (parts (onward m) d t)) (place next l)

    pub at_home : (x : Text) (next : ℕ) → item m d (drop at text) ≡ home_of x (next - suc at) → at < next → here
        (put (til x) (parts (onward m) d (drop next text)))
    unfolding read_item
    at_home x next h l = parts_item m d (drop at text) h ∙ ap (λ (t : Text). put (til x) (parts (onward m) d t)) (place next l)

    pub at_quote : (n : Mode) (next : ℕ) → item m d (drop at text) ≡ quote n (next - suc at) → at < next → here
        (nest quo (parts n d (drop next text)) (parts (onward m) d))
    unfolding read_item
    at_quote n next h l = parts_item m d (drop at text) h ∙ ap (λ (t : Text). nest quo (parts n d t) (parts (onward m) d)) (place next l)

    pub at_inner : (x : Param) (f : Form) (n : Mode) (next : ℕ) → item m d (drop at text) ≡ inner x f n (next - suc at) → at < next
        → here (nest (par x f) (parts n (d - 1) (drop next text)) (parts (onward m) d))
    unfolding read_item
    at_inner x f n next h l = parts_item m d (drop at text) h ∙ ap (λ (t : Text). nest (par x f) (parts n (d - 1) t) (parts (onward m) d)) (place next l)

    pub at_sum : item m d (drop at text) ≡ sum → here (nest ari (parts (sums 0) (d - 1) (drop (at + 3) text)) (parts (onward m) d))
    unfolding read_item
    at_sum h = parts_item m d (drop at text) h ∙ ap (λ (t : Text). nest ari (parts (sums 0) (d - 1) t) (parts (onward m) d)) (drop-drop 3 at text)

-- What a `put` that is done was made of, and a `nest`.

pub record Behind (f : Parts → Parts) (r : Taken) (p : Parts) (rest : Text) : Type 0 where
  pub next : Parts
  pub whole : p ≡ f next
  pub read : r ≡ done (next, rest)

pub behind : (f : Parts → Parts) (r : Taken) (p : Parts) (rest : Text) → put f r ≡ done (p, rest) → Behind f r p rest
behind f (refused n) p rest e = absurd (let z : ◌≡◌ {A = ℕ} 0 1 = cc in omega arith)
behind f (demands t) p rest e = absurd (let z : ◌≡◌ {A = ℕ} 0 1 = cc in omega arith)
behind f (done q) p rest e =
    let w : ◌≡◌ {A = Parts × Text} (f q.0, q.1) (p, rest) = cc in
    record { next = q.0; whole = sym (ap (λ (x : Parts × Text). x.0) w); read = ap (λ (u : Text). done (q.0, u)) (ap (λ (x : Parts × Text). x.1) w) }

pub record Within (f : Parts → Parts → Parts) (r : Taken) (more : Text → Taken) (p : Parts) (rest : Text) : Type 0 where
  pub inside : Parts
  pub mid : Text
  pub first : r ≡ done (inside, mid)
  pub next : Parts
  pub whole : p ≡ f inside next
  pub read : more mid ≡ done (next, rest)

pub within : (f : Parts → Parts → Parts) (r : Taken) (more : Text → Taken) (p : Parts) (rest : Text) → nest f r more ≡ done (p, rest) →
    Within f r more p rest
within f (refused n) more p rest e = absurd (let z : ◌≡◌ {A = ℕ} 0 1 = cc in omega arith)
within f (demands t) more p rest e = absurd (let z : ◌≡◌ {A = ℕ} 0 1 = cc in omega arith)
within f (done q) more p rest e =
    let b = behind (f q.0) (more q.1) p rest e in
    record { inside = q.0; mid = q.1; first = refl; next = b.next; whole = b.whole; read = b.read }
