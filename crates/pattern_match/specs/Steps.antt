-- One step of matching: what an element takes, how a run up to the next star ends, and what a star may skip.
use Rattle.std.specs.Prelude.{ℕ, ◌+◌, ◌-◌, ◌≤◌, ◌<◌, ◌≡◌, Bool, true, false, ◌&&◌, List, [], ◌∷◌, eqb, length, drop, get_or}
use Prim.Native.Char.{code}
use Rattle.stages.specs.Bytes.{Text}
use Rattle.stages.specs.Pattern.{Element, star, one, exactly, set, passes, takes, in_set, some_end, matches_from}
use Rattle.pattern_cell.specs.Cells.{one_cell, first_set, words_at, Shows, is_star_cell}
use Rattle.pattern_match.specs.declared.Run.{Run}
use Rattle.pattern_match.specs.declared.Run.TheVariants.{Whole, Fails, Star}

abbrev pub is_star : Element → Bool
is_star star = true
is_star one = false
is_star (exactly b) = false
is_star (set sense members) = false

-- a slash of the pattern
abbrev pub is_slash : Element → Bool
is_slash star = false
is_slash one = false
is_slash (exactly b) = eqb b (code "/")
is_slash (set sense members) = false

-- an element that is no star takes the byte b
unfoldable pub takes_one : Bool → Bool → Bool → Element → ℕ → Bool
unfolding passes takes in_set
takes_one path head first star b = false
takes_one path head first one b = passes path first b
takes_one path head first (exactly c) b = takes path head first c b
takes_one path head first (set sense members) b = passes path first b && in_set sense members b

-- the words of a set's cell stand in the table
abbrev pub Lies : List ℕ → ℕ → Type 0
Lies sets c = first_set ≤ c → words_at c + 4 ≤ length sets

-- behind a star, the rest of the pattern: some end of the text matches it
unfoldable pub behind_star : Bool → List Element → Bool → Bool → Text → Bool
unfolding some_end matches_from
behind_star path rest head first t = some_end path (λ f u. matches_from path rest head f u) first t

-- a star may take all these bytes
unfoldable pub all_pass : Bool → Bool → Text → Bool
unfolding passes
all_pass path first [] = true
all_pass path first (b ∷ t) = passes path first b && all_pass path false t

-- from the place k on a star reaches all that it reaches from `since` on, where what stands behind it takes no byte but this cell's, if that is a byte
pub record Skips (path first : Bool) (cell : ℕ) (t : Text) (since k : ℕ) : Type 0 where
  pub reach : (f : Bool → Text → Bool) → ((begins : Bool) (b : ℕ) (u : Text) → cell < one_cell → eqb cell b ≡ false → f begins (b ∷ u) ≡ false)
      → some_end path f first (drop since t) ≡ some_end path f first (drop k t)
  pub beyond : since ≤ k
  pub within : k ≤ length t

-- a run from the places `at` and k met a star before the place `next`, the text being matched up to j. "keeps": had a star stood before
-- the run, all that it could reach is reached from here
pub record MeetsStar (path : Bool) (sets cells : List ℕ) (t : Text) (at k : ℕ) (head first : Bool) (next j : ℕ) (starts : Bool) : Type 0 where
  pub says : (es : List Element) → Shows sets cells es
      → matches_from path (drop at es) head first (drop k t) ≡ behind_star path (drop next es) false starts (drop j t)
  pub keeps : (es : List Element) → Shows sets cells es
      → behind_star path (drop at es) head first (drop k t) ≡ true → behind_star path (drop next es) false starts (drop j t) ≡ true
  pub there : is_star_cell (get_or cells (next - 1) 0) ≡ true
  pub further : at < next
  pub inside : next ≤ length cells
  pub beyond : k ≤ j
  pub within : j ≤ length t

-- what each end of a run says
abbrev pub RunSays : Bool → List ℕ → List ℕ → Text → ℕ → ℕ → Bool → Bool → Run → Type 0
RunSays path sets cells t at k head first Whole = (es : List Element) → Shows sets cells es → matches_from path (drop at es) head first (drop k t) ≡ true
RunSays path sets cells t at k head first Fails = (es : List Element) → Shows sets cells es → matches_from path (drop at es) head first (drop k t) ≡ false
RunSays path sets cells t at k head first (Star next j starts) = MeetsStar path sets cells t at k head first next j starts
