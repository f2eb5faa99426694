-- What the contracts on the program's arguments cite: a list of texts packed into a buffer, as the stage's image of it or, where there is no room for that,
-- as something that is refused for its length as well.
use Rattle.std.specs.Prelude.{ℕ, ◌+◌, ◌-◌, ◌≤◌, ◌<◌, ◌≡◌, true, false, List, length, take}
use Rattle.stages.specs.Bytes.{Text}
use Rattle.stages.specs.Outcome.{Outcome, refused, demands, done}
use Rattle.stages.specs.Images.{image, image_length}
use Rattle.table_store.specs.Answers.{record_in}
use Rattle.table_store.specs.Splice.{placed}
use Rattle.recipe_arguments.specs.Options.{word_in, Hearing, silent, heard, heard_all}
use Rattle.recipe_arguments.specs.declared.Word.{Word}
use Rattle.recipe_arguments.specs.declared.Word.TheVariants.{Shout, End, Unknown, Parameter}
use Rattle.recipe_arguments.specs.declared.Heard.{Heard}

-- the record of a text stands behind the first `used` bytes, and is counted with them; without room for it all bytes stay, and all are counted
abbrev pub Adds : Outcome Text → ℕ → Text → Text → ℕ → Type 0
Adds (refused n) used old left r = (r ≡ length old) × (left ≡ old)
Adds (demands m) used old left r = (r ≡ length old) × (left ≡ old)
Adds (done new) used old left r = (r ≡ used + length new) × (left ≡ placed used new old)

abbrev pub Appends : Text → ℕ → Text → Text → ℕ → Type 0
Appends t used old left r = Adds (record_in (length old - used) t) used old left r

-- the first `used` bytes of a buffer are the image of a list; or they are all its bytes, and the image is longer
pub data Packs (l : List Text) (buffer : Text) (used : ℕ) : Type 0 where
  whole : used ≤ length buffer → take used buffer ≡ image l → Packs l buffer used
  full : used ≡ length buffer → length buffer < image_length l → Packs l buffer used

-- what the code answers of an argument: an option leaves the image as it was, a parameter is put behind the others
abbrev pub HearsAs : Word → Text → Heard → Text → Text → Heard → Type 0
HearsAs Shout t h old left r = (left ≡ old) × (r ≡ record { used = h.used; shouts = true; options = true; known = h.known })
HearsAs End t h old left r = (left ≡ old) × (r ≡ record { used = h.used; shouts = h.shouts; options = false; known = h.known })
HearsAs Unknown t h old left r = (left ≡ old) × (r ≡ record { used = h.used; shouts = h.shouts; options = true; known = false })
HearsAs Parameter t h old left r =
    Appends t h.used old left r.used × (r ≡ record { used = r.used; shouts = h.shouts; options = false; known = h.known })

abbrev pub Hears : Text → Heard → Text → Text → Heard → Type 0
Hears t h old left r = HearsAs (word_in h.options t) t h old left r

-- the code's answer is what was heard, and the parameters are packed
pub record Holds (g : Hearing) (buffer : Text) (h : Heard) : Type 0 where
  pub shouts : h.shouts ≡ g.shouts
  pub options : h.options ≡ g.options
  pub known : h.known ≡ g.known
  pub packs : Packs g.params buffer h.used
  pub within : h.used ≤ length buffer

-- an argument more is heard, whatever was before it
pub record Grows (old : Text) (h : Heard) (left : Text) (r : Heard) : Type 0 where
  pub text : Text
  pub holds : (g : Hearing) → Holds g old h → Holds (heard g text) left r

-- arguments are heard
pub record Gathers (buffer : Text) (h : Heard) : Type 0 where
  pub arguments : List Text
  pub holds : Holds (heard_all silent arguments) buffer h

-- all of so many but those before the number `first`
pub record GathersAll (first count : ℕ) (buffer : Text) (h : Heard) : Type 0 where
  pub gathers : Gathers buffer h
  pub all : length gathers.arguments ≡ count - first
