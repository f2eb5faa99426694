-- Where a key stands in an image of pairs, or where it belongs, by the stage's records and no bytes; and what the bytes there are.
use Rattle.std.specs.Prelude.{ℕ, ◌+◌, ◌≤◌, ◌≡◌, true, [], ◌∷◌, length, take, drop, Option as Perhaps, Some, None, Result, Ok, Err}
use Rattle.std.proofs.Math.Option.{Option, none, some}
use Rattle.stages.specs.Bytes.{Text, part, eq_text, lt_text}
use Rattle.stages.specs.Outcome.{pick}
use Rattle.stages.specs.Images.{Pairs, texts, pairs_of, keys, rising, flat, written, image, image_length, lookup, held, held_texts}
use Rattle.table.specs.declared.Record.{Record}
use Rattle.table.specs.declared.Part.{Part}

-- the bytes are an image of texts: those that it holds
abbrev pub Listed : Text → Type 0
Listed t = texts t ≡ some (held_texts t)

-- an image of pairs in rising order of their keys: variables or homes
pub record Table (t : Text) : Type 0 where
  pub pairs : pairs_of (texts t) ≡ some (held t)
  pub rises : rising (keys (held t)) ≡ true

-- the records before the place of a key: those in front whose keys are below it
unfoldable pub before : Text → Pairs → Pairs
before key [] = []
before key (r ∷ l) = pick (lt_text r.0 key) (r ∷ before key l) []

-- the records behind that place: not that of the key itself
unfoldable pub behind : Text → Pairs → Pairs
behind key [] = []
behind key (r ∷ l) = pick (lt_text r.0 key) (behind key l) (pick (eq_text key r.0) l (r ∷ l))

-- the place of a key: the length of the image of the records before it
unfoldable pub place_of : Text → Pairs → ℕ
unfolding before
place_of key v = image_length (flat (before key v))

-- a key without a value belongs at its place; a record there has its name behind two bytes, and its value behind two more
unfoldable pub spot_by : Text → ℕ → Option Text → Result Record ℕ
spot_by key at none = Err at
spot_by key at (some value) = Ok (record { at = at; mid = at + 2 + length key; end = at + 4 + length key + length value })

unfoldable pub spot_in : Text → Text → Result Record ℕ
unfolding spot_by place_of
spot_in t key = spot_by key (place_of key (held t)) (lookup key (held t))

unfoldable pub found_by : ℕ → Option Text → Perhaps Part
found_by start none = None
found_by start (some value) = Some (record { from = start; to = start + length value })

unfoldable pub found_in : Text → Text → Perhaps Part
unfolding found_by place_of
found_in t key = found_by (place_of key (held t) + 4 + length key) (lookup key (held t))

-- the bytes from `at` to `end` are what a record of the key replaces
pub record Hole (t key : Text) (at end : ℕ) : Type 0 where
  pub low : at ≤ end
  pub high : end ≤ length t
  pub front : take at t ≡ image (flat (before key (held t)))
  pub back : drop end t ≡ written (flat (behind key (held t)))

-- the bytes from `start` to `end` are the key's value
pub record Holds (t key : Text) (start end : ℕ) : Type 0 where
  pub low : start ≤ end
  pub high : end ≤ length t
  pub gets : lookup key (held t) ≡ some (part t start end)

-- what a spot says of the bytes
pub data Rooms (t key : Text) : Result Record ℕ → Type 0 where
  known : {p : Record} → Hole t key p.at p.end → Holds t key (p.mid + 2) p.end → Rooms t key (Ok p)
  fresh : {at : ℕ} → Hole t key at at → lookup key (held t) ≡ none → Rooms t key (Err at)

pub record Placed (t key : Text) (r : Result Record ℕ) : Type 0 where
  pub is : r ≡ spot_in t key
  pub rooms : Rooms t key r

-- what an answer of the look-up says of the bytes
pub data Shown (t key : Text) : Perhaps Part → Type 0 where
  shown : {p : Part} → Holds t key p.from p.to → Shown t key (Some p)
  absent : lookup key (held t) ≡ none → Shown t key None

pub record Looked (t key : Text) (r : Perhaps Part) : Type 0 where
  pub is : r ≡ found_in t key
  pub shows : Shown t key r
