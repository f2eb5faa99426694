-- Document 02, E12: how `$'...'` is read. A field that the quoter writes there is read byte by byte as that field, whatever follows; and whatever is read in
-- '...' and in $'...' is bytes and nothing else, so that its row is an empty mark and those bytes, quoted. The byte 39 is `'`, 92 a backslash.
use Prim.Native.Nat.{ℕ, suc, ◌+◌, ◌/◌, ◌%◌, ◌≤◌, ◌<◌}
use native.Mathlib.Omega.{arith}
use mathlib.Core.Path.{◌≡◌, refl, ap, ◌∙◌}
use mathlib.Core.Bool.{Bool, true, false, ◌||◌}
use mathlib.Core.List.{[], ◌∷◌, ◌++◌, append_assoc, append-nil}
use lib.Dec.{eqb, ltb}
use lib.ListN.{length, drop, length-append}
use borrow.Author.Tests.{eqb-true, ltb-true, leb-true, le-leb}
use Rattle.stages.specs.Recur.{fix}
use Rattle.stages.specs.Numbers.{row_limit}
use Rattle.stages.specs.Bytes.{Text, all, not_zero, is_control}
use Rattle.stages.specs.Outcome.{refused, done, pick, choose}
use Rattle.stages.specs.Images.{Pairs}
use Rattle.stages.specs.Syntax.{Escape, escaped, unescaped, Escapes, no_escapes, with_escapes, single}
use Rattle.stages.specs.Syntax.{Parts, end, lit, quo, par, len, lst, ari, til}
use Rattle.stages.specs.Escapes.{Said, says, unsaid, escape_at}
use Rattle.stages.specs.Items.{Item, fault, stop, byte, item, item_of, ended, sort, Sort, said_item}
use Rattle.stages.specs.Read.{Taken, put, read_item, Ask, ask_size, ask_step, parts}
use Rattle.stages.specs.Units.{L, Q, N, marked, lit_mark}
use Rattle.stages.specs.Params.{Lent}
use Rattle.stages.specs.Expand.{expand}
use Rattle.stages.specs.Quote.{dollared, is_sign, octal, quoted_byte, quoted_bytes, enclosed, written}
use Rattle.stages.proofs.Bools.{either, and_left, and_right, or_neither}
use Rattle.stages.proofs.Texts.{all_append}
use Rattle.stages.proofs.Rooms.{fit_ok}
use Rattle.stages.proofs.Escapes.{octal_says}
use Rattle.stages.proofs.Read.{parts_item}
use Rattle.stages.proofs.Barred.{by_run}

-- A FIELD THAT IS WRITTEN THERE

-- whether an escape says a byte of the field
abbrev escape_of : ℕ → Escape
escape_of b = pick (is_sign b || is_control b) escaped unescaped

abbrev pub escape_parts : Text → Parts
escape_parts [] = end
escape_parts (b ∷ t) = lit (escape_of b) b (escape_parts t)

-- a byte of it
abbrev Says : ℕ → Type 0
Says b = (rest : Text) (d : ℕ) → parts (single with_escapes) d (quoted_byte dollared b ++ rest) ≡ put (lit (escape_of b) b) (parts (single with_escapes) d rest)

sign_says : (b : ℕ) → is_sign b ≡ true → Says b
unfolding is_sign choose
sign_says b e rest d = either (eqb b 92) (λ h. one (eqb-true b 92 h)) (λ h. two (eqb-true b 39 (other (eqb b 39) (rw h at e))))
  where
    other : (x : Bool) → (x || false) ≡ true → x ≡ true
    other true k = refl
    other false k = k

    one : b ≡ 92 → parts (single with_escapes) d (quoted_byte dollared b ++ rest) ≡ put (lit (escape_of b) b) (parts (single with_escapes) d rest)
    one h =
        rw h (unfold quoted_byte is_sign item item_of escape_at said_item read_item in
        parts_item (single with_escapes) d (92 ∷ 92 ∷ rest) {i = byte escaped 92 1} refl)

    two : b ≡ 39 → parts (single with_escapes) d (quoted_byte dollared b ++ rest) ≡ put (lit (escape_of b) b) (parts (single with_escapes) d rest)
    two h =
        rw h (unfold quoted_byte is_sign item item_of escape_at said_item read_item in
        parts_item (single with_escapes) d (92 ∷ 39 ∷ rest) {i = byte escaped 39 1} refl)

pub control_below : (b : ℕ) → is_control b ≡ true → b < 128
unfolding is_control
control_below b e = either (ltb b 32) (λ h. omega (arith, ltb-true b 32 h)) (λ h. let k : b ≡ 127 = eqb-true b 127 (rw h at e) in omega arith)

control_says : (b : ℕ) → is_sign b ≡ false → is_control b ≡ true → not_zero b ≡ true → Says b
unfolding quoted_byte item item_of said_item read_item
control_says b e h z rest d =
    rw (e, h)
    (parts_item (single with_escapes) d (92 ∷ octal b ++ rest) {i = byte escaped b 3}
    (rw (octal_says b rest (leb-true 1 b z) (omega (arith, control_below b h)))))

plain_says : (b : ℕ) → is_sign b ≡ false → is_control b ≡ false → Says b
unfolding quoted_byte item item_of read_item
plain_says b e h rest d =
    rw (e, h)
    (parts_item (single with_escapes) d (b ∷ rest) {i = byte unescaped b 0} (plain (unfold is_sign in or_neither (eqb b 92) (eqb b 39 || false) e)))
  where
    plain : (eqb b 92 ≡ false) × ((eqb b 39 || false) ≡ false) → item (single with_escapes) d (b ∷ rest) ≡ byte unescaped b 0
    plain k = unfold item item_of sort in rw ((or_neither (eqb b 39) false k.1).0, k.0)

byte_says : (b : ℕ) → not_zero b ≡ true → Says b
byte_says b z = either (is_sign b) (λ e. sign_says b e) (λ e. either (is_control b) (λ h. control_says b e h z) (λ h. plain_says b e h))

-- all of it, up to the quote that closes
pub bytes_say : (t rest : Text) (d : ℕ) → all not_zero t ≡ true
    → parts (single with_escapes) d (quoted_bytes dollared t ++ 39 ∷ rest) ≡ done (escape_parts t, rest)
unfolding quoted_bytes item read_item
bytes_say [] rest d z = parts_item (single with_escapes) d (39 ∷ rest) refl
bytes_say (b ∷ t) rest d z =
    ap (parts (single with_escapes) d) (append_assoc (quoted_byte dollared b) (quoted_bytes dollared t) (39 ∷ rest))
    ∙ byte_says b (and_left (not_zero b) (all not_zero t) z) (quoted_bytes dollared t ++ 39 ∷ rest) d
    ∙ rw (bytes_say t rest d (and_right (not_zero b) (all not_zero t) z))

-- WHATEVER IS READ THERE

-- parts that are bytes
abbrev pub OnlyBytes : Parts → Type 0
OnlyBytes end = Unit {0}
OnlyBytes (lit q b p) = OnlyBytes p
OnlyBytes (quo q p) = ⊥
OnlyBytes (par x f q p) = ⊥
OnlyBytes (len x p) = ⊥
OnlyBytes (lst s p) = ⊥
OnlyBytes (ari q p) = ⊥
OnlyBytes (til x p) = ⊥

-- an item there: a fault, the end, or a byte
data Bytewise : Item → Type 0 where
  a_fault : {n : ℕ} → Bytewise (fault n)
  an_end : {k : ℕ} → Bytewise (stop k)
  a_byte : {q : Escape} {b k : ℕ} → Bytewise (byte q b k)

said_bytewise : (o : Said) → Bytewise (said_item o)
unfolding said_item
said_bytewise (says b k) = a_byte
said_bytewise (unsaid n) = a_fault

-- the sorts of a byte there
data Kept (e : Escapes) (d b : ℕ) (t : Text) : Sort → Type 0 where
  kept : {s : Sort} → Bytewise (item_of s (single e) d b t) → Kept e d b t s

pick_kept : {e : Escapes} {d b : ℕ} {t : Text} (x : Bool) {s u : Sort} → Kept e d b t s → Kept e d b t u → Kept e d b t (pick x s u)
pick_kept true h k = h
pick_kept false h k = k

sort_kept : (e : Escapes) (d b : ℕ) (t : Text) → Kept e d b t (sort (single e) b)
unfolding sort item_of
sort_kept no_escapes d b t = pick_kept (eqb b 39) (kept an_end) (kept a_byte)
sort_kept with_escapes d b t = pick_kept (eqb b 39) (kept an_end) (pick_kept (eqb b 92) (kept (said_bytewise (escape_at t))) (kept a_byte))

single_item : (e : Escapes) (d : ℕ) (t : Text) → Bytewise (item (single e) d t)
unfolding item ended
single_item e d [] = a_fault
single_item e d (b ∷ t) = go (sort_kept e d b t)
  where
    go : {s : Sort} → Kept e d b t s → Bytewise (item_of s (single e) d b t)
    go (kept h) = h

pub data ReadsBytes : Taken → Type 0 where
  none_read : {n : ℕ} → ReadsBytes (refused n)
  bytes_read : {p : Parts × Text} → OnlyBytes p.0 → ReadsBytes (done p)

put_bytes : (q : Escape) (b : ℕ) {r : Taken} → ReadsBytes r → ReadsBytes (put (lit q b) r)
put_bytes q b none_read = none_read
put_bytes q b (bytes_read {p = p} h) = bytes_read h

-- of a question in this mode
abbrev InMode : Ask → Taken → Type 0
InMode a r = (e : Escapes) → a.0 ≡ single e → ReadsBytes r

module _ (rec : Ask → Taken) (ih : (a : Ask) → InMode a (rec a)) (e : Escapes) (d : ℕ) (t : Text) where
  item_bytes : {i : Item} → Bytewise i → ReadsBytes (read_item (λ m d t. rec (m, d, t)) (single e) d t i)
  unfolding read_item
  item_bytes a_fault = none_read
  item_bytes (an_end {k = k}) = bytes_read {p = (end, drop k t)} tt
  item_bytes (a_byte {q = q} {b = b} {k = k}) = put_bytes q b (ih (single e, d, drop (suc k) t) e refl)

step_bytes : (rec : Ask → Taken) → ((a : Ask) → InMode a (rec a)) → (a : Ask) → InMode a (ask_step rec a)
unfolding ask_step
step_bytes rec ih a e h = rw h (item_bytes rec ih e a.1 a.2 (single_item e a.1 a.2))

-- THE READING: bytes and nothing else
pub single_bytes : (e : Escapes) (d : ℕ) (t : Text) → ReadsBytes (parts (single e) d t)
unfolding parts fix
single_bytes e d t = by_run ask_size (refused 0) ask_step InMode (λ a e h. none_read) step_bytes (suc (length t)) (single e, d, t) e refl

-- THE BYTES OF PARTS in which nothing is expanded
abbrev pub plain_bytes : Parts → Text
plain_bytes end = []
plain_bytes (lit q b p) = b ∷ plain_bytes p
plain_bytes (quo q p) = plain_bytes q ++ plain_bytes p
plain_bytes (par x f q p) = []
plain_bytes (len x p) = []
plain_bytes (lst s p) = []
plain_bytes (ari q p) = []
plain_bytes (til x p) = []

pub escape_bytes : (t : Text) → plain_bytes (escape_parts t) ≡ t
escape_bytes [] = refl
escape_bytes (b ∷ t) = ap {B = Text} (λ s. b ∷ s) (escape_bytes t)

pub escape_only : (t : Text) → OnlyBytes (escape_parts t)
escape_only [] = tt
escape_only (b ∷ t) = escape_only t

-- "The text is quoted": such parts expand to their bytes, each quoted
module _ (a : Lent) (v : Pairs) where
  pub bytes_expand : (p : Parts) (n : ℕ) → OnlyBytes p → n + length (plain_bytes p) ≤ row_limit → expand a p Q n v ≡ done
      (marked Q (plain_bytes p), v, false)
  unfolding expand marked
  bytes_expand end n o h = refl
  bytes_expand (lit q b p) n o h = rw (mark q, fit_ok n 1 (omega arith), bytes_expand p (n + 1) o (omega arith))
    where
      mark : (q : Escape) → lit_mark q Q ≡ Q
      mark escaped = refl
      mark unescaped = refl
  bytes_expand (quo q p) n o h = absurd o
  bytes_expand (par x f q p) n o h = absurd o
  bytes_expand (len x p) n o h = absurd o
  bytes_expand (lst s p) n o h = absurd o
  bytes_expand (ari q p) n o h = absurd o
  bytes_expand (til x p) n o h = absurd o

-- a field in `$'...'`: its row is an empty mark and its bytes, quoted
pub dollared_expands : (a : Lent) (v : Pairs) (t : Text) → suc (length t) ≤ row_limit
    → expand a (quo (escape_parts t) end) L 0 v ≡ done (N ∷ marked Q t, v, false)
unfolding expand
dollared_expands a v t h =
    let e : plain_bytes (escape_parts t) ≡ t = escape_bytes t in
    let k : expand a (escape_parts t) Q 1 v ≡ done (marked Q t, v, false) =
    bytes_expand a v (escape_parts t) 1 (escape_only t) (rw e (omega arith)) ∙ ap (λ u. done (marked Q u, v, false)) e in
    rw (k, append-nil (marked Q t))

-- it is longer in its quotes, and no zero byte comes into them
dollared_byte : (b : ℕ) → 1 ≤ length (quoted_byte dollared b)
unfolding quoted_byte
dollared_byte b = either (is_sign b) (λ e. rw e (omega arith)) λ e. either (is_control b) (λ h. rw (e, h) (omega arith)) (λ h. rw (e, h) (omega arith))

pub dollared_longer : (t : Text) → length t ≤ length (quoted_bytes dollared t)
unfolding quoted_bytes
dollared_longer [] = omega arith
dollared_longer (b ∷ t) = rw (length-append (quoted_byte dollared b) (quoted_bytes dollared t)) (omega (arith, dollared_byte b, dollared_longer t))

pub dollared_length : (t : Text) → length (written dollared t) ≡ length (quoted_bytes dollared t) + 3
unfolding written enclosed
dollared_length t = simp length-append (omega arith)

byte_fine : (b : ℕ) → not_zero b ≡ true → all not_zero (quoted_byte dollared b) ≡ true
unfolding quoted_byte
byte_fine b z =
    either (is_sign b) (λ e. rw (e, z)) λ e.
    either (is_control b) (λ h. rw (e, h, le-leb 1 (48 + b / 64) (omega arith), le-leb 1 (48 + b / 8 % 8) (omega arith), le-leb 1 (48 + b % 8) (omega arith)))
    (λ h. rw (e, h, z))

pub dollared_fine : (t : Text) → all not_zero t ≡ true → all not_zero (quoted_bytes dollared t) ≡ true
unfolding quoted_bytes
dollared_fine [] z = refl
dollared_fine (b ∷ t) z =
    all_append not_zero (quoted_byte dollared b) (quoted_bytes dollared t) (byte_fine b (and_left (not_zero b) (all not_zero t) z))
    (dollared_fine t (and_right (not_zero b) (all not_zero t) z))
