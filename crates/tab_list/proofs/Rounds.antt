-- An image of fields that is shown and packed is the same image: each text is shown as one line, and read from it.
use Rattle.std.specs.Prelude.{Result, Ok}
use Rattle.tab_pack.specs.declared.BadLine.{BadLine}
use Prim.Native.Nat.{ℕ, suc, ◌≤◌}
use native.Mathlib.Omega.{arith}
use mathlib.Core.Path.{◌≡◌, refl, sym, ap, ◌∙◌}
use mathlib.Core.Bool.{false}
use mathlib.Core.List.{List, [], ◌∷◌, ◌++◌, append_assoc, append-nil}
use lib.ListN.{length}
use borrow.Author.Tests.{le-leb}
use Rattle.stages.specs.Bytes.{Text}
use Rattle.stages.specs.Images.{held_texts, image_length, image}
use Rattle.stages.specs.Call.{over}
use Rattle.stages.specs.Program.{lines_of}
use Rattle.stages.proofs.Outcomes.{Each}
use Rattle.stages.proofs.Images.{Bytes, Fine, image_canonical, texts_image_length, record_bytes_append}
use Rattle.stages.proofs.Tables.{texts_held_fine}
use Rattle.table.specs.Places.{Listed}
use Rattle.table.specs.declared.Kind.TheVariants.{Fields}
use Rattle.tab_show.specs.Lines.{shown_text, shown_of}
use Rattle.tab_escape.specs.Escapes.{Reading}
use Rattle.tab_escape.proofs.Again.{read_shown}
use Rattle.tab_enter.specs.Records.{alone}
use Rattle.tab_enter.proofs.Sounds.{keys_alone}
use Rattle.tab_pack.proofs.Shown.{lines_by, lines_shown}
use Rattle.tab_pack.proofs.Smalls.{Small, bytes_of, image_small}
use Rattle.tab_list.specs.Listings.{whole, list_on, roomed, lined, listed, Lists, packs}
use Rattle.tab_list.proofs.Determined.{pack_fields_determined}

-- a line for each text
abbrev lines : List Text → List Text
lines [] = []
lines (t ∷ l) = shown_text t ∷ lines l

lines_alone : (l : List Text) → lines_by false (alone l) ≡ lines l
lines_alone [] = refl
lines_alone (t ∷ l) = ap (λ (m : List Text). shown_text t ∷ m) (lines_alone l)

shown_lines : (l : List Text) → lines_of (shown_of Fields l) ≡ lines l
unfolding shown_of
shown_lines l = ap (λ (m : List Text). lines_of (shown_of Fields m)) (sym (keys_alone l)) ∙ lines_shown false (alone l) ∙ lines_alone l

shorter : (a b : List Text) → image_length a ≤ image_length (a ++ b)
unfolding image_length
shorter a b = omega (arith, record_bytes_append a b)

-- lines of texts behind others are those texts behind them, if their image has room
lines_listed : (room n : ℕ) (m l : List Text) → Fine l → Each Small l → image_length (m ++ l) ≤ room → listed room n m (lines l) ≡ whole (m ++ l)
unfolding listed lined
lines_listed room n m [] f s h = ap whole (sym (append-nil m))
lines_listed room n m (t ∷ l) f s h =
    let e : (m ++ (t ∷ [])) ++ l ≡ m ++ (t ∷ l) = append_assoc m (t ∷ []) l in
    let k : image_length (m ++ (t ∷ [])) ≤ room = omega (arith, shorter (m ++ (t ∷ [])) l, ap image_length e, h) in
    ap (λ (x : Reading). list_on (lined room x m) n m (λ w. listed room (suc n) w (lines l))) (read_shown t (bytes_of t s.0) f.0)
    ∙ ap (λ b. list_on (roomed b (m ++ (t ∷ []))) n m (λ w. listed room (suc n) w (lines l))) (le-leb (image_length (m ++ (t ∷ []))) room k)
    ∙ lines_listed room (suc n) (m ++ (t ∷ [])) l f.1 s.1 (omega (arith, ap image_length e, h))
    ∙ ap whole e

-- SHOWN AND PACKED: an image of fields is the same image again
module _ (t : Text) (h : Bytes t) (e : Listed t) where
  pub shown_listed : (room : ℕ) → length t ≤ room → listed room 1 [] (lines_of (shown_of Fields (held_texts t))) ≡ whole (held_texts t)
  shown_listed room k =
      ap (listed room 1 []) (shown_lines (held_texts t))
      ∙ lines_listed room 1 [] (held_texts t) (texts_held_fine t e) (image_small t (held_texts t) h e) (omega (arith, k, texts_image_length t (held_texts t) e))

  -- what packing the lines of an image of fields answers and leaves
  pub pack_shown : (old left : Text) (r : Result ℕ BadLine) → length t ≤ length old
      → Lists (listed (length old) 1 [] (lines_of (shown_of Fields (held_texts t)))) old left r → (r ≡ Ok (length t)) × (left ≡ over t old)
  pack_shown old left r k s =
      let q : (r ≡ Ok (image_length (held_texts t))) × (left ≡ over (image (held_texts t)) old) =
      pack_fields_determined s (packs {l = held_texts t} (shown_listed (length old) k) refl refl) in (
        q.0 ∙ ap Ok (sym (texts_image_length t (held_texts t) e)),
        q.1 ∙ ap (λ (u : Text). over u old) (sym (image_canonical t (held_texts t) h e)),
      )
