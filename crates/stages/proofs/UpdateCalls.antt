-- Document 02, E11, by the calls: which number comes, the matches of a pattern in the table that is left, a path inserted and deleted again, and calls that
-- compute.
use Prim.Native.Nat.{ℕ, ◌+◌, ◌-◌, ◌≤◌}
use Prim.Native.String.{String}
use native.Mathlib.Omega.{arith}
use mathlib.Core.Path.{◌≡◌, refl, sym, ap, ◌∙◌}
use mathlib.Core.Bool.{Bool, true, false, ◌&&◌}
use mathlib.Core.List.{List, [], ◌∷◌, ◌++◌}
use mathlib.Core.Option.{none, some}
use lib.Dec.{eqb, leb}
use lib.ListN.{length, take, drop, replicate}
use lib.Seq.{length-take-le}
use borrow.Author.Tests.{le-leb}
use Rattle.stages.specs.Numbers.{accepted, bad_paths, output_room, bad_path}
use Rattle.stages.specs.Bytes.{Text, text, eq_text}
use Rattle.stages.specs.Outcome.{refused_at, done_at, pick}
use Rattle.stages.specs.Images.{image, paths_of}
use Rattle.stages.specs.Pattern.{Element, for_paths, matches}
use Rattle.stages.specs.Paths.{chosen}
use Rattle.stages.specs.Call.{over, padded, or_refused}
use Rattle.stages.specs.Updates.{added, without, is_there, is_path, Updating, Updated, paths_given, paths_fit, insertion, deletion}
use Rattle.stages.specs.Updates.{updated, inserter, deleter}
use Rattle.stages.proofs.Bools.{some_same}
use Rattle.stages.proofs.Images.{Bytes}
use Rattle.stages.proofs.Rooms.{padded_front, padded_behind}
use Rattle.stages.proofs.PathLists.{added_longer, without_added, there_added}
use Rattle.stages.proofs.PathMatches.{matches_after, matches_behind}
use Rattle.stages.proofs.Updates.{held_of, Ready, Inserted, Deleted, given_image, given_used}

-- WHICH NUMBER: "checks in the order 4 for the image or a used length beyond the buffer, 4 for the path, 24, 21"

module _ (g : Updating) where
  pub beyond_buffer : leb g.used (length g.paths) ≡ false → paths_given g ≡ refused_at bad_paths 0
  unfolding paths_given
  beyond_buffer e = rw e

  pub no_table : g.used ≤ length g.paths → paths_of (take g.used g.paths) ≡ none → paths_given g ≡ refused_at bad_paths 0
  unfolding paths_given or_refused
  no_table h e = rw (le-leb g.used (length g.paths) h, e)

  pub no_path : (l : List Text) → g.used ≤ length g.paths → paths_of (take g.used g.paths) ≡ some l → is_path g.path ≡ false
      → paths_given g ≡ refused_at bad_paths 0
  unfolding paths_given or_refused
  no_path l h e f = rw (le-leb g.used (length g.paths) h, e, f)

  -- 4 of what is given comes before what each job asks
  pub insertion_four : paths_given g ≡ refused_at bad_paths 0 → insertion g ≡ refused_at bad_paths 0
  unfolding insertion
  insertion_four e = rw e

  pub deletion_four : paths_given g ≡ refused_at bad_paths 0 → deletion g ≡ refused_at bad_paths 0
  unfolding deletion
  deletion_four e = rw e

  module _ (l : List Text) (r : Ready g l) where
    ready_given : paths_given g ≡ done_at l
    unfolding paths_given or_refused
    ready_given = rw (le-leb g.used (length g.paths) r.inside, r.table, r.path)

    pub insertion_there : is_there g.path l ≡ true → insertion g ≡ refused_at bad_path 0
    unfolding insertion
    insertion_there e = rw (ready_given, e)

    pub insertion_full : is_there g.path l ≡ false → paths_fit g (added g.path l) ≡ false → insertion g ≡ refused_at output_room 0
    unfolding insertion
    insertion_full e f = rw (ready_given, e, f)

    pub insertion_gives : is_there g.path l ≡ false → paths_fit g (added g.path l) ≡ true → insertion g ≡ done_at (added g.path l)
    unfolding insertion
    insertion_gives e f = rw (ready_given, e, f)

    pub deletion_missing : is_there g.path l ≡ false → deletion g ≡ refused_at bad_path 0
    unfolding deletion
    deletion_missing e = rw (ready_given, e)

    pub deletion_gives : is_there g.path l ≡ true → deletion g ≡ done_at (without g.path l)
    unfolding deletion
    deletion_gives e = rw (ready_given, e)

-- THE MATCHES OF A PATTERN in the table that is left

-- "the matches of a pattern after an insertion are the old matches with the new path put in its order if it matches, and otherwise the old ones"
pub inserted_matches : (q : List Element) (g : Updating) (a : Updated) (w : Inserted g a) (l : List Text) → paths_of (take a.used a.paths) ≡ some l
    → chosen q l ≡ pick (matches for_paths q g.path) (added g.path (chosen q w.before)) (chosen q w.before)
inserted_matches q g a w l e =
    let k : l ≡ added g.path w.before = some_same (sym e ∙ w.table) in
    ap (chosen q) k ∙ matches_after q g.path w.before (held_of (take g.used g.paths) w.before w.ready.table).rises

-- and after a deletion, the other way about
pub deleted_matches : (q : List Element) (g : Updating) (a : Updated) (w : Deleted g a) (l : List Text) → paths_of (take a.used a.paths) ≡ some l
    → chosen q l ≡ pick (matches for_paths q g.path) (without g.path (chosen q w.before)) (chosen q w.before)
deleted_matches q g a w l e =
    let k : l ≡ without g.path w.before = some_same (sym e ∙ w.table) in
    ap (chosen q) k ∙ matches_behind q g.path w.before

-- INSERTED AND DELETED AGAIN

-- the deletion of what an answer inserted
abbrev pub back : Updating → Updated → Updating
back g a = record { paths = a.paths; used = a.used; path = g.path }

-- the image that was there, zeros behind it up to the end of the longer one, and what stood beyond
pub record Restored (g : Updating) (end : ℕ) (a : Updated) : Type 0 where
  pub number : a.number ≡ accepted
  pub used : a.used ≡ g.used
  pub bytes : take a.used a.paths ≡ take g.used g.paths
  pub behind : drop a.used a.paths ≡ replicate (end - a.used) 0 ++ drop end g.paths

pub restored : (g : Updating) (a : Updated) → Bytes g.paths → Inserted g a → Restored g a.used (deleter (back g a))
unfolding deleter updated
restored g a b w =
    rw (deletion_gives (back g a) (added g.path w.before) ready (there_added g.path w.before), without_added g.path w.before w.new) result
  where
    ready : Ready (back g a) (added g.path w.before)
    ready = record { inside = w.inside; table = w.table; path = w.ready.path }

    longer : length (image w.before) ≤ a.used
    longer =
        let e : length (take a.used a.paths) ≡ a.used = length-take-le a.used a.paths w.inside in
        let k : length (take a.used a.paths) ≡ length (image (added g.path w.before)) = ap length w.bytes in
        omega (arith, added_longer g.path w.before)

    zeros : drop (length (image w.before)) (over (padded a.used (image w.before)) a.paths)
        ≡ replicate (a.used - length (image w.before)) 0 ++ drop a.used g.paths
    zeros =
        let e : length (image w.before) + (a.used - length (image w.before)) ≡ a.used = omega (arith, longer) in
        padded_behind a.used (image w.before) a.paths
        ∙ ap (λ (n : ℕ). replicate (a.used - length (image w.before)) 0 ++ drop n a.paths) e
        ∙ ap (λ (t : Text). replicate (a.used - length (image w.before)) 0 ++ t) w.behind

    result : Restored g a.used (updated (back g a) (λ t. over (padded a.used t) a.paths) (done_at w.before))
    result = unfold updated in record {
      number = refl;
      used = given_used g w.before w.ready b;
      bytes = padded_front a.used (image w.before) a.paths ∙ sym (given_image g w.before w.ready b);
      behind = zeros;
    }

-- CALLS THAT COMPUTE

-- a call, and what it leaves: number, used length and the whole buffer
record Called : Type 0 where
  given : Updating
  number : ℕ
  used : ℕ
  left : Text

holds : Called → Updated → Bool
holds c a = eqb a.number c.number && (eqb a.place 0 && (eqb a.used c.used && eq_text a.paths c.left))

abbrev texts_of : List String → List Text
texts_of [] = []
texts_of (s ∷ l) = text s ∷ texts_of l

abbrev imaged : List String → Text
imaged l = image (texts_of l)

-- paths and what stands behind them, a path, and the same afterwards
abbrev call : Text → ℕ → String → Updating
call t used s = record { paths = t; used = used; path = text s }

abbrev gives : List String → String → String → List String → String → Called
gives l behind s m after =
    record { given = call (imaged l ++ text behind) (length (imaged l)) s; number = accepted; used = length (imaged m); left = imaged m ++ text after }

abbrev refuses : Text → ℕ → String → ℕ → Called
refuses t used s n = record { given = call t used s; number = n; used = used; left = t }

inserts : List Called
inserts =
    gives [] "zzzz" "b" ("b" ∷ []) "z"
    ∷ gives ("a" ∷ "c" ∷ []) "zzz" "b" ("a" ∷ "b" ∷ "c" ∷ []) ""
    ∷ gives ("a" ∷ "c" ∷ []) "wxyz" "d" ("a" ∷ "c" ∷ "d" ∷ []) "z"
    ∷ gives ("a" ∷ "c" ∷ []) "vwxyz" "a/b" ("a" ∷ "a/b" ∷ "c" ∷ []) ""
    ∷ refuses (imaged ("a" ∷ [])) 5 "b" bad_paths
    ∷ refuses (imaged ("b" ∷ "a" ∷ []) ++ text "zzz") 7 "c" bad_paths
    ∷ refuses (imaged ("a" ∷ []) ++ text "zzz") 4 "" bad_paths
    ∷ refuses (imaged ("a" ∷ []) ++ text "zzz") 4 "b\0" bad_paths
    ∷ refuses (imaged ("a" ∷ [])) 4 "a" bad_path
    ∷ refuses (imaged ("a" ∷ []) ++ text "zz") 4 "b" output_room
    ∷ []

deletes : List Called
deletes =
    gives ("b" ∷ []) "z" "b" [] "\0\0\0z"
    ∷ gives ("a" ∷ "b" ∷ "c" ∷ []) "z" "b" ("a" ∷ "c" ∷ []) "\0\0\0z"
    ∷ gives ("a" ∷ "a/b" ∷ []) "" "a" ("a/b" ∷ []) "\0\0\0"
    ∷ refuses (imaged ("a" ∷ [])) 5 "a" bad_paths
    ∷ refuses (imaged ("b" ∷ "a" ∷ []) ++ text "zzz") 7 "a" bad_paths
    ∷ refuses (imaged ("a" ∷ [])) 4 "" bad_paths
    ∷ refuses (imaged ("a" ∷ [])) 4 "a\0" bad_paths
    ∷ refuses (imaged ("a" ∷ []) ++ text "zz") 4 "b" bad_path
    ∷ []

all_insert : List Called → Bool
unfolding inserter
all_insert [] = true
all_insert (c ∷ l) = holds c (inserter c.given) && all_insert l

all_delete : List Called → Bool
unfolding deleter
all_delete [] = true
all_delete (c ∷ l) = holds c (deleter c.given) && all_delete l

inserts_hold : all_insert inserts ≡ true
unfolding all_insert inserts holds
inserts_hold = refl

deletes_hold : all_delete deletes ≡ true
unfolding all_delete deletes holds
deletes_hold = refl
