-- The lines of a text as fields: each stands behind those before it, and the first line that is none is told by its number.
use Rattle.std.specs.Prelude.{ℕ, suc, ◌≡◌, Bool, true, false, List, [], ◌∷◌, ◌++◌, leb, Result, Ok, Err}
use Rattle.stages.specs.Bytes.{Text}
use Rattle.stages.specs.Images.{image, image_length}
use Rattle.stages.specs.Call.{over}
use Rattle.tab_escape.specs.Escapes.{Reading, bad, good, read_text}
use Rattle.tab_escape.specs.declared.Fault.{Fault}
use Rattle.tab_escape.specs.declared.Fault.TheVariants.{TooLong}
use Rattle.tab_pack.specs.declared.BadLine.{BadLine}
use Rattle.tab_pack.specs.Packings.{bad_line}

-- the fields with one more, or why not
pub data Step : Type 0 where
  stop : Fault → Step
  go : List Text → Step

abbrev pub roomed : Bool → List Text → Step
roomed true l = go l
roomed false l = stop TooLong

-- what a line stands for behind fields, where their image has at most so many bytes
unfoldable pub lined : ℕ → Reading → List Text → Step
unfolding image_length
lined room (bad f u) l = stop f
lined room (good t) l = roomed (leb (image_length (l ++ (t ∷ []))) room) (l ++ (t ∷ []))

-- what adding a line answers and leaves
pub data Adds (o : Step) (old left : Text) : Result ℕ Fault → Type 0 where
  takes : {l : List Text} {n : ℕ} → o ≡ go l → n ≡ image_length l → left ≡ over (image l) old → Adds o old left (Ok n)
  stops : {f : Fault} → o ≡ stop f → left ≡ old → Adds o old left (Err f)

-- the fields of lines; or the number of the first that is none, why, and the fields before it
pub data Listing : Type 0 where
  whole : List Text → Listing
  fault : ℕ → Fault → List Text → Listing

abbrev pub list_on : Step → ℕ → List Text → (List Text → Listing) → Listing
list_on (stop f) n l on = fault n f l
list_on (go m) n l on = on m

unfoldable pub listed : ℕ → ℕ → List Text → List Text → Listing
unfolding lined read_text
listed room n l [] = whole l
listed room n l (line ∷ ls) = list_on (lined room (read_text line) l) n l (λ m. listed room (suc n) m ls)

-- what packing answers and leaves: the image stands at the front of the old bytes, at a fault that of the fields before it
pub data Lists (o : Listing) (old left : Text) : Result ℕ BadLine → Type 0 where
  packs : {l : List Text} {n : ℕ} → o ≡ whole l → n ≡ image_length l → left ≡ over (image l) old → Lists o old left (Ok n)
  fails : {l : List Text} {n : ℕ} {f : Fault} → o ≡ fault n f l → left ≡ over (image l) old → Lists o old left (Err (bad_line n f))
