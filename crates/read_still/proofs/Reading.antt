-- How the stage reads a word that is walked over: as parts in which nothing is expanded, and up to the same place.
use Prim.Native.Nat.{ℕ, suc, ◌+◌, ◌≤◌, ◌<◌}
use Prim.Native.Char.{code}
use native.Mathlib.Omega.{arith}
use mathlib.Core.Path.{◌≡◌, refl, sym, ap, ◌∙◌, subst}
use mathlib.Core.Bool.{Bool, true, false}
use mathlib.Core.List.{[], ◌∷◌, ◌++◌, append-nil}
use mathlib.Core.Option.{none, some}
use lib.Dec.{eqb}
use lib.ListN.{length, drop, length-append}
use borrow.Author.Tests.{eqb-true}
use Rattle.stages.specs.Bytes.{Text, all, span, is_bare_byte, is_blank, is_operator}
use Rattle.stages.specs.Outcome.{done}
use Rattle.stages.specs.Syntax.{escaped, unescaped, Parts, end, lit, quo, Start, fresh, begun, Mode, word, single, double, no_escapes, served}
use Rattle.stages.specs.Items.{item, item_of, sort, begins_tilde, closer_length, ended, behind_backslash, quotable, lists_in, byte, onward, behind_byte}
use Rattle.stages.specs.Read.{put, nest, parts, read_item}
use Rattle.stages.proofs.Bools.{either, and_left, and_right, clash, some_same}
use Rattle.stages.proofs.Texts.{span_all, span_join}
use Rattle.stages.proofs.Read.{parts_item}
use Rattle.stages.proofs.Plain.{bare_plain}
use Rattle.read_mode.proofs.Closing.{blank_is}
use Rattle.read_run.specs.Literals.{literal_in, lits}
use Rattle.read_run.proofs.Parts.{begun_parts}
use Rattle.read_still.proofs.Walking.{behind_behind}
use Rattle.read_still.specs.Walks.{Said, closed_by, escaped_in, quoted_in, behind, Walk, ends, stops, fails, goes, EndsTo}

-- parts in which nothing is expanded, the bytes that they say, and how many units they give
pub data Stills : Parts → Text → ℕ → Type 0 where
  no_parts : Stills end [] 0
  a_bare : {b k : ℕ} {p : Parts} {x : Text} → is_bare_byte b ≡ true → Stills p x k → Stills (lit unescaped b p) (b ∷ x) (suc k)
  an_escaped : {b k : ℕ} {p : Parts} {x : Text} → Stills p x k → Stills (lit escaped b p) (b ∷ x) (suc k)
  a_quote : {k : ℕ} {p : Parts} {x : Text} (t : Text) → Stills p x k → Stills (quo (lits t end) p) (t ++ x) (suc (length t + k))

-- a text is read from the start of a word, or from where one has begun
pub record Reads (s : Start) (d : ℕ) (t x rest : Text) : Type 0 where
  pub tree : Parts
  pub units : ℕ
  pub is : parts (word s) d t ≡ done (tree, rest)
  pub still : Stills tree x units
  pub few : units + length rest ≤ length t
  pub some_unit : length rest < length t → 0 < units

abbrev pub ReadsAs : Start → ℕ → Text → Said → Type 0
ReadsAs s d t none = Unit {0}
ReadsAs s d t (some p) = Reads s d t p.0 p.1

-- THE END OF A WORD

module _ (d : ℕ) where
  line_read : (s : Start) → Reads s d [] [] []
  unfolding item ended read_item
  line_read s = record { tree = end; units = 0; is = parts_item (word s) d [] refl; still = no_parts; few = omega arith; some_unit = λ h. absurd (omega arith) }

  blank_reads : (s : Start) (u : Text) (b : ℕ) → is_blank b ≡ true → parts (word s) d (b ∷ u) ≡ done (end, b ∷ u)
  unfolding item item_of sort begins_tilde is_blank closer_length read_item
  blank_reads fresh u b e =
      blank_is (λ c. parts (word fresh) d (c ∷ u) ≡ done (end, c ∷ u)) b e (parts_item (word fresh) d (32 ∷ u) refl) (parts_item (word fresh) d (9 ∷ u) refl)
      (parts_item (word fresh) d (10 ∷ u) refl)
  blank_reads begun u b e =
      blank_is (λ c. parts (word begun) d (c ∷ u) ≡ done (end, c ∷ u)) b e (parts_item (word begun) d (32 ∷ u) refl) (parts_item (word begun) d (9 ∷ u) refl)
      (parts_item (word begun) d (10 ∷ u) refl)

  blank_read : (s : Start) (b : ℕ) (u : Text) → is_blank b ≡ true → Reads s d (b ∷ u) [] (b ∷ u)
  blank_read s b u e = record { tree = end; units = 0; is = blank_reads s u b e; still = no_parts; few = omega arith; some_unit = λ h. absurd (omega arith) }

  -- BARE BYTES

  bare_first : (s : Start) (b : ℕ) (t : Text) → is_bare_byte b ≡ true → parts (word s) d (b ∷ t) ≡ put (lit unescaped b) (parts (word begun) d t)
  unfolding sort begins_tilde item item_of read_item
  bare_first fresh b t e =
      let p = bare_plain b e in
      parts_item (word fresh) d (b ∷ t) {i = byte unescaped b 0}
      (rw (p.tilde, p.backquote, p.blank, p.operator, p.quote, p.quote2, p.backslash, p.dollar))
  bare_first begun b t e =
      let p = bare_plain b e in
      parts_item (word begun) d (b ∷ t) {i = byte unescaped b 0}
      (rw (p.backquote, p.blank, p.operator, p.quote, p.quote2, p.backslash, p.dollar))

  bare_reads : (t : Text) {u x rest : Text} → all is_bare_byte t ≡ true → ((s : Start) → Reads s d u x rest) → (s : Start) → Reads s d (t ++ u) (t ++ x) rest
  bare_reads [] e r s = r s
  bare_reads (b ∷ t) {u} {x} {rest} e r s =
      let i = bare_reads t (and_right (is_bare_byte b) (all is_bare_byte t) e) r begun in
      let f = and_left (is_bare_byte b) (all is_bare_byte t) e in
      record {
        tree = lit unescaped b i.tree;
        units = suc i.units;
        is = bare_first s b (t ++ u) f ∙ rw i.is;
        still = a_bare f i.still;
        few = omega (arith, i.few);
        some_unit = λ h. omega arith;
      }

  -- QUOTES

  -- a word that has begun behind what is quoted
  abbrev Behind : Text → Text → Text → Type 0
  Behind w x rest = Reads begun d w x rest

  closed_is : (mark : ℕ) (p : Text × Text) {q w : Text} → closed_by mark p ≡ some (q, w) → p ≡ (q, mark ∷ w)
  closed_is mark (t, []) e = absurd (clash e)
  closed_is mark (t, b ∷ u) {q} {w} e = go (eqb b mark) refl
    where
      go : (x : Bool) → eqb b mark ≡ x → ◌≡◌ {A = Text × Text} (t, b ∷ u) (q, mark ∷ w)
      go true f =
          let k : ◌≡◌ {A = Text × Text} (t, u) (q, w) = some_same (rw f at e) in
          ap (λ (n : ℕ). (t, n ∷ u)) (eqb-true b mark f) ∙ ap (λ (z : Text × Text). (z.0, mark ∷ z.1)) k
      go false f = absurd (clash (rw f at e))

  module _ (m : Mode) (mark : ℕ) (opens : (s : Start) (t : Text) → parts (word s) d (mark ∷ t) ≡ nest quo (parts m d t) (parts (word begun) d))
      (closes : (w : Text) → parts m d (mark ∷ w) ≡ done (end, w)) (stays : onward m ≡ m) where
    run_parts : (t : Text) → parts m d t ≡ put (lits (span (literal_in m) t).0) (parts m d (span (literal_in m) t).1)
    run_parts t = rw stays at (begun_parts m d t)

    inner_reads : (t : Text) {q w : Text} → span (literal_in m) t ≡ (q, mark ∷ w) → parts m d t ≡ done (lits q end, w)
    inner_reads t {q} {w} e =
        run_parts t ∙ ap (λ (z : Text × Text). put (lits z.0) (parts m d z.1)) e ∙ rw (closes w)

    quote_reads : (s : Start) (t : Text) {q w x rest : Text} → closed_by mark (span (literal_in m) t) ≡ some (q, w) → Behind w x rest
        → Reads s d (mark ∷ t) (q ++ x) rest
    quote_reads s t {q} {w} {x} {rest} e r =
        let k = closed_is mark (span (literal_in m) t) e in
        let l : t ≡ q ++ (mark ∷ w) = sym (span_join (literal_in m) t) ∙ ap (λ (z : Text × Text). z.0 ++ z.1) k in
        let n : length t ≡ length q + suc (length w) = ap length l ∙ length-append q (mark ∷ w) in
        record {
          tree = quo (lits q end) r.tree;
          units = suc (length q + r.units);
          is = opens s t ∙ rw (inner_reads t k, r.is);
          still = a_quote q r.still;
          few = omega (arith, n, r.few);
          some_unit = λ h. omega arith;
        }

  single_opens : (s : Start) (t : Text) → parts (word s) d (39 ∷ t) ≡ nest quo (parts (single no_escapes) d t) (parts (word begun) d)
  unfolding item item_of sort begins_tilde is_blank is_operator read_item onward
  single_opens fresh t = parts_item (word fresh) d (39 ∷ t) refl
  single_opens begun t = parts_item (word begun) d (39 ∷ t) refl

  single_closes : (w : Text) → parts (single no_escapes) d (39 ∷ w) ≡ done (end, w)
  unfolding item item_of sort closer_length read_item
  single_closes w = parts_item (single no_escapes) d (39 ∷ w) refl

  double_opens : (s : Start) (t : Text) → parts (word s) d (34 ∷ t) ≡ nest quo (parts (double served) d t) (parts (word begun) d)
  unfolding item item_of sort begins_tilde is_blank is_operator lists_in read_item onward
  double_opens fresh t = parts_item (word fresh) d (34 ∷ t) refl
  double_opens begun t = parts_item (word begun) d (34 ∷ t) refl

  double_closes : (w : Text) → parts (double served) d (34 ∷ w) ≡ done (end, w)
  unfolding item item_of sort closer_length read_item
  double_closes w = parts_item (double served) d (34 ∷ w) refl

  single_stays : onward (single no_escapes) ≡ single no_escapes
  unfolding onward
  single_stays = refl

  double_stays : onward (double served) ≡ double served
  unfolding onward
  double_stays = refl

  -- A BACKSLASH

  escape_first : (s : Start) (b : ℕ) (u : Text) → eqb b (code "\n") ≡ false → parts (word s) d (92 ∷ b ∷ u) ≡ put (lit escaped b) (parts (word begun) d u)
  unfolding item item_of sort begins_tilde is_blank is_operator behind_backslash quotable read_item behind_byte onward
  escape_first fresh b u e = parts_item (word fresh) d (92 ∷ b ∷ u) {i = byte escaped b 1} (rw e)
  escape_first begun b u e = parts_item (word begun) d (92 ∷ b ∷ u) {i = byte escaped b 1} (rw e)

  escape_reads : (s : Start) (t : Text) {q w x rest : Text} → escaped_in t ≡ some (q, w) → Behind w x rest → Reads s d (92 ∷ t) (q ++ x) rest
  escape_reads s [] e r = absurd (clash e)
  escape_reads s (b ∷ u) {q} {w} {x} {rest} e r = go (eqb b (code "\n")) refl
    where
      go : (y : Bool) → eqb b (code "\n") ≡ y → Reads s d (92 ∷ b ∷ u) (q ++ x) rest
      go true f = absurd (clash (rw f at e))
      go false f =
          let k : ◌≡◌ {A = Text × Text} (b ∷ [], u) (q, w) = some_same (rw f at e) in
          subst (λ (z : Text × Text). Reads begun d z.1 x rest → Reads s d (92 ∷ b ∷ u) (z.0 ++ x) rest) k
          (λ i. record {
            tree = lit escaped b i.tree;
            units = suc i.units;
            is = escape_first s b u f ∙ rw i.is;
            still = an_escaped i.still;
            few = omega (arith, i.few);
            some_unit = λ h. omega arith;
          })
          r

  -- WHAT IS QUOTED

  quoted_reads : (s : Start) (t : Text) {q w x rest : Text} → quoted_in t ≡ some (q, w) → Behind w x rest → Reads s d t (q ++ x) rest
  quoted_reads s [] e r = absurd (clash e)
  quoted_reads s (b ∷ t) {q} {w} {x} {rest} e r =
      either (eqb b 39)
      (λ f. subst (λ (n : ℕ). Reads s d (n ∷ t) (q ++ x) rest) (sym (eqb-true b 39 f))
      (quote_reads (single no_escapes) 39 single_opens single_closes single_stays s t (rw f at e) r))
      λ f. either (eqb b 34)
      (λ g. subst (λ (n : ℕ). Reads s d (n ∷ t) (q ++ x) rest) (sym (eqb-true b 34 g))
      (quote_reads (double served) 34 double_opens double_closes double_stays s t (rw (f, g) at e) r))
      λ g. either (eqb b 92)
      (λ h. subst (λ (n : ℕ). Reads s d (n ∷ t) (q ++ x) rest) (sym (eqb-true b 92 h)) (escape_reads s t (rw (f, g, h) at e) r))
      λ h. absurd (clash (rw (f, g, h) at e))

  -- THE WALK

  run_of : {t s u : Text} → span is_bare_byte t ≡ (s, u) → (all is_bare_byte s ≡ true) × (t ≡ s ++ u)
  run_of {t} e = (
    ap (λ (z : Text × Text). all is_bare_byte z.0) (sym e) ∙ span_all is_bare_byte t,
    sym (span_join is_bare_byte t)
        ∙ ap (λ (z : Text × Text). z.0 ++ z.1) e,
  )

  quoted_as : (s : Start) (t : Text) {q w : Text} → quoted_in t ≡ some (q, w) → (o : Said) → ReadsAs begun d w o → ReadsAs s d t (behind q o)
  quoted_as s t e none r = tt
  quoted_as s t e (some p) r = quoted_reads s t e r

  bare_as : (t u : Text) → all is_bare_byte t ≡ true → (o : Said) → ((s : Start) → ReadsAs s d u o) → (s : Start) → ReadsAs s d (t ++ u) (behind t o)
  bare_as t u e none r s = tt
  bare_as t u e (some p) r s = bare_reads t e r s

  -- a walk is how the stage reads
  pub walk_reads : {t : Text} {o : Said} → Walk t o → (s : Start) → ReadsAs s d t o
  walk_reads (ends {s = y} e) s =
      let p = run_of e in
      let r = subst (λ (z : Text). Reads s d (y ++ []) z []) (append-nil y) (bare_reads y p.0 line_read s) in
      subst (λ (z : Text). Reads s d z y []) (sym p.1) r
  walk_reads (stops {s = y} {u = u} {b = b} e f) s =
      let p = run_of e in
      let r = subst (λ (z : Text). Reads s d (y ++ (b ∷ u)) z (b ∷ u)) (append-nil y) (bare_reads y p.0 (λ k. blank_read k b u f) s) in
      subst (λ (z : Text). Reads s d z y (b ∷ u)) (sym p.1) r
  walk_reads (fails e f g) s = tt
  walk_reads (goes {s = y} {u = u} {q = q} {w = w} {b = b} {o = o} e f g h) s =
      let p = run_of e in
      let r = bare_as y (b ∷ u) p.0 (behind q o) (λ k. quoted_as k (b ∷ u) g o (walk_reads h begun)) s in
      subst (λ (z : Text). ReadsAs s d z (behind (y ++ q) o)) (sym p.1) (subst (λ (z : Said). ReadsAs s d (y ++ (b ∷ u)) z) (behind_behind y q o) r)

-- the same where a word that begins at a place ends behind it
pub record ReadsTo (d : ℕ) (line : Text) (at r : ℕ) : Type 0 where
  pub said : Text
  pub reads : Reads fresh d (drop at line) said (drop r line)
  pub within : r ≤ length line

pub end_reads : (d : ℕ) (line : Text) (at r : ℕ) → EndsTo line at r → ReadsTo d line at r
end_reads d line at r p = record { said = p.text; reads = walk_reads d p.walk fresh; within = p.within }
