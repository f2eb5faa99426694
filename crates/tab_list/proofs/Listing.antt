-- The walk over the lines: the fields of those passed stand in the buffer as an image, and those ahead are left.
use Rattle.std.specs.Prelude.{Result, Ok, Err}
use Rattle.tab_pack.specs.declared.BadLine.{BadLine}
use Prim.Native.Nat.{ℕ, suc, ◌+◌, ◌-◌, ◌≤◌, ◌<◌}
use native.Mathlib.Omega.{arith}
use native.Mathlib.Numerals.{add-one}
use mathlib.Core.Path.{◌≡◌, refl, sym, ap, subst, ◌∙◌}
use mathlib.Core.Bool.{Bool, true, false}
use mathlib.Core.List.{List, [], ◌∷◌, ◌++◌}
use lib.Dec.{leb}
use borrow.Author.Tests.{leb-true}
use lib.ListN.{length, take, drop, set, length-set, length-drop, drop_of_length-le}
use lib.Seq.{take_at, take_all, drop-drop}
use Rattle.stages.specs.Bytes.{Text, part}
use Rattle.stages.specs.Images.{image, record_bytes, image_length}
use Rattle.stages.specs.Call.{over}
use Rattle.stages.specs.Program.{lines_of}
use Rattle.stages.proofs.Images.{length_image}
use Rattle.stages.proofs.Rooms.{over_length}
use Rattle.table_store.proofs.Callers.{version_first}
use Rattle.tab_escape.specs.Escapes.{Reading, bad, good, read_text, up_to}
use Rattle.tab_escape.specs.declared.Fault.{Fault}
use Rattle.tab_pack.proofs.Going.{line_first, up_within, over_over, told_as}
use Rattle.tab_list.proofs.Adding.{one_more}
use Rattle.tab_list.specs.Listings.{Step, stop, go, roomed, lined, Adds, takes, stops, Listing, list_on, listed, Lists, packs, fails}

-- a field that is added makes the image longer, within the room
record Grown (room : ℕ) (l m : List Text) : Type 0 where
  longer : image_length l ≤ image_length m
  fits : image_length m ≤ room

go_same : {l m : List Text} → go l ≡ go m → l ≡ m
go_same e = cc

stop_go : {f : Fault} {l : List Text} → stop f ≡ go l → ⊥
stop_go e = let z : ◌≡◌ {A = ℕ} 0 1 = cc in omega arith

grown : (room : ℕ) (x : Reading) (l m : List Text) → lined room x l ≡ go m → Grown room l m
unfolding lined
grown room (bad f u) l m e = absurd (stop_go e)
grown room (good t) l m e = by (leb (image_length (l ++ (t ∷ []))) room) refl e
  where
    by : (b : Bool) → leb (image_length (l ++ (t ∷ []))) room ≡ b → roomed b (l ++ (t ∷ [])) ≡ go m → Grown room l m
    by true q e = rw (← go_same e) (record { longer = omega (arith, one_more l t); fits = leb-true (image_length (l ++ (t ∷ []))) room q })
    by false q e = absurd (stop_go e)

-- the lines before `at` are packed: their fields stand as an image at the front of the buffer
pub record Going (text old out : Text) (used at line : ℕ) : Type 0 where
  pub fields : List Text
  pub long : used ≡ image_length fields
  pub room : used ≤ length old
  pub stands : out ≡ over (image fields) old
  pub is : listed (length old) 1 [] (lines_of text) ≡ listed (length old) line fields (lines_of (drop at text))
  pub within : at ≤ length text + 1
  pub count : line ≤ at + 1

-- the version byte is the image's own
over_set : (l : List Text) (old : Text) → over (image l) (set old 0 1) ≡ over (image l) old
unfolding over image
over_set l [] = refl
over_set l (b ∷ t) = refl

pub going_starts : (text old : Text) → 1 ≤ length old → Going text (set old 0 1) (set old 0 1) 1 0 1
unfolding image_length record_bytes
going_starts text old h = record {
  fields = [];
  long = refl;
  room = rw (length-set old 0 1) h;
  stands = version_first old h ∙ sym (over_set [] old);
  is = refl;
  within = omega arith;
  count = omega arith;
}

lists_from : {o : Listing} {old left : Text} {r : Result ℕ BadLine} → Lists o (set old 0 1) left r → Lists o old left r
lists_from {o} {old} (packs {l} e n k) = packs {l = l} e n (k ∙ over_set l old)
lists_from {o} {old} (fails {l} e k) = fails {l = l} e (k ∙ over_set l old)

-- the walk is over the buffer with the version byte in it
pub lists_for : (text old : Text) {left : Text} {r : Result ℕ BadLine}
    → Lists (listed (length (set old 0 1)) 1 [] (lines_of text)) (set old 0 1) left r → Lists (listed (length old) 1 [] (lines_of text)) old left r
lists_for text old {left} {r} s =
    lists_from (subst (λ (k : ℕ). Lists (listed k 1 [] (lines_of text)) (set old 0 1) left r) (length-set old 0 1) s)

module _ {text old out : Text} {used at line : ℕ} (g : Going text old out used at line) where
  pub going_length : length out ≡ length old
  going_length = ap length g.stands ∙ over_length (image g.fields) old (omega (arith, length_image g.fields, g.long, g.room))

  pub going_take : take used out ≡ image g.fields
  unfolding over
  going_take =
      ap (take used) g.stands
      ∙ take_at (image g.fields) (drop (length (image g.fields)) old) used (length_image g.fields ∙ sym g.long)

  pub going_ends : length text ≤ at → Lists (listed (length old) 1 [] (lines_of text)) old out (Ok used)
  unfolding listed lines_of
  going_ends h =
      packs {l = g.fields} (g.is ∙ ap (λ (t : Text). listed (length old) line g.fields (lines_of t)) (drop_of_length-le text h)) g.long g.stands

-- the line at the walk's place is r bytes long: it ends at the first newline, or at the text's end
pub record Line (text old out : Text) (used at line r : ℕ) : Type 0 where
  pub going : Going text old out used at line
  pub there : at < length text
  pub ends : r ≡ up_to 10 (take (length text - at) (drop at text))

pub line_there : {text old out : Text} {used at line r : ℕ} → Going text old out used at line → at < length text
    → r ≡ up_to 10 (take (length text - at) (drop at text)) → Line text old out used at line r
line_there g h e = record { going = g; there = h; ends = e }

ok_same : {n m : ℕ} → ◌≡◌ {A = Result ℕ BadLine} (Ok n) (Ok m) → n ≡ m
ok_same e = cc

err_not : {x : BadLine} {m : ℕ} → ◌≡◌ {A = Result ℕ BadLine} (Err x) (Ok m) → ⊥
err_not e = cc

module _ {text old out : Text} {used at line r : ℕ} (l : Line text old out used at line r) where
  abbrev g : Going text old out used at line
  g = l.going

  abbrev h : at < length text
  h = l.there

  rest : take (length text - at) (drop at text) ≡ drop at text
  rest = take_all (length text - at) (drop at text) (omega (arith, h, length-drop at text))

  place : r ≡ up_to 10 (drop at text)
  place = l.ends ∙ ap (up_to 10) rest

  pub going_end : at + r ≤ length text
  going_end = omega (arith, h, place, up_within 10 (drop at text), length-drop at text)

  -- a text that is not empty has a first line
  cut : (t : Text) → 0 < length t → lines_of t ≡ take (up_to 10 t) t ∷ lines_of (drop (suc (up_to 10 t)) t)
  cut [] k = absurd (omega (arith, k))
  cut (b ∷ t) k = line_first b t

  lines : lines_of (drop at text) ≡ part text at (at + r) ∷ lines_of (drop (at + r + 1) text)
  lines =
      let z : at + r - at ≡ r = omega arith in
      let y : at + suc r ≡ at + r + 1 = omega arith in
      cut (drop at text) (omega (arith, h, length-drop at text))
      ∙ ap (λ (k : ℕ). take k (drop at text) ∷ lines_of (drop (suc k) (drop at text))) (sym place)
      ∙ ap (λ (t : Text). take r (drop at text) ∷ lines_of t) (drop-drop (suc r) at text ∙ ap (λ (k : ℕ). drop k text) y)
      ∙ ap (λ (k : ℕ). take k (drop at text) ∷ lines_of (drop (at + r + 1) text)) (sym z)

  step : (o : Step) → lined (length old) (read_text (part text at (at + r))) g.fields ≡ o
      → listed (length old) 1 [] (lines_of text) ≡ list_on o line g.fields (λ w. listed (length old) (suc line) w (lines_of (drop (at + r + 1) text)))
  unfolding listed
  step o e =
      g.is ∙ ap (listed (length old) line g.fields) lines
      ∙ ap (λ (x : Step). list_on x line g.fields (λ w. listed (length old) (suc line) w (lines_of (drop (at + r + 1) text)))) e

  module _ {left : Text} {a : Result ℕ Fault}
      (s : (m : List Text) → take used out ≡ image m → Adds (lined (length out) (read_text (part text at (at + r))) m) out left a) where
    here : Adds (lined (length old) (read_text (part text at (at + r))) g.fields) out left a
    here = rw (← going_length g) (s g.fields (going_take g))

    pub going_bad : {x : BadLine} → told_as line a ≡ Err x → Lists (listed (length old) 1 [] (lines_of text)) old left (Err x)
    going_bad {x} q = bad_of here q
      where
        bad_of : {b : Result ℕ Fault} → Adds (lined (length old) (read_text (part text at (at + r))) g.fields) out left b
            → told_as line b ≡ Err x → Lists (listed (length old) 1 [] (lines_of text)) old left (Err x)
        bad_of (stops {f} e k) d =
            subst (Lists (listed (length old) 1 [] (lines_of text)) old left) d (fails {l = g.fields} (step (stop f) e) (k ∙ g.stands))
        bad_of (takes e k j) d = absurd (err_not (sym d))

    pub going_more : {n : ℕ} → told_as line a ≡ Ok n → Going text old left n (at + r + 1) (line + 1)
    going_more {n} q = used_of here q
      where
        used_of : {b : Result ℕ Fault} → Adds (lined (length old) (read_text (part text at (at + r))) g.fields) out left b
            → told_as line b ≡ Ok n → Going text old left n (at + r + 1) (line + 1)
        used_of (stops e k) d = absurd (err_not d)
        used_of (takes {l = w} e k j) d =
            let m : Grown (length old) g.fields w = grown (length old) (read_text (part text at (at + r))) g.fields w e in
            let p : n ≡ image_length w = sym (ok_same d) ∙ k in
            record {
              fields = w;
              long = p;
              room = omega (arith, p, m.fits);
              stands =
                  j ∙ ap (over (image w)) g.stands
                  ∙ over_over (image g.fields) (image w) old (omega (arith, length_image g.fields, length_image w, m.longer));
              is = rw (add-one line) (step (go w) e);
              within = omega (arith, going_end);
              count = omega (arith, g.count);
            }
