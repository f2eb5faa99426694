-- Document 02, E11: the answers of both jobs, for any call whatever. The result is the image of the list with that path added or removed, a table again; its
-- bytes before the path's place are those that were there; what stands behind it is kept, or zero up to the old length. A refusal has a number of the three and
-- changes nothing.
use Prim.Native.Nat.{ℕ, ◌+◌, ◌-◌, ◌≤◌}
use native.Mathlib.Omega.{arith}
use mathlib.Core.Path.{◌≡◌, refl, sym, ap, ◌∙◌}
use mathlib.Core.Bool.{Bool, true, false, not}
use mathlib.Core.List.{List, [], ◌∷◌, ◌++◌, append_assoc}
use mathlib.Core.Option.{Option, none, some}
use lib.Dec.{leb}
use lib.ListN.{length, take, drop, replicate, take-append-drop}
use lib.Seq.{take_at, length-take-le}
use borrow.Author.Tests.{leb-true}
use Rattle.stages.specs.Numbers.{accepted, bad_paths, output_room, bad_path, paths_limit}
use Rattle.stages.specs.Bytes.{Text, is_in, all, not_zero}
use Rattle.stages.specs.Outcome.{Placed, refused_at, done_at, ◌then◌, require}
use Rattle.stages.specs.Images.{not_empty, all_texts, rising, written, image, image_length, paths_of, held_texts}
use Rattle.stages.specs.Call.{over, padded, or_refused}
use Rattle.stages.specs.Updates.{added, without, is_there, below, place_in, is_path, Updating, Updated, paths_given, paths_fit, insertion, deletion}
use Rattle.stages.specs.Updates.{updated, inserter, deleter}
use Rattle.stages.proofs.Bools.{no, and_left, and_right}
use Rattle.stages.proofs.Images.{Bytes, bytes_take, Fine, length_image, held_texts_image}
use Rattle.stages.proofs.Tables.{Paths, paths_held, paths_are_lem, paths_image, paths_canonical, texts_held_fine, texts_held_length}
use Rattle.stages.proofs.Rooms.{over_front, over_behind, over_length, padded_front, padded_behind, padded_length}
use Rattle.stages.proofs.PathLists.{added_rises, without_rises, added_place, without_place, less_begins, more_begins, added_all, without_all}
use Rattle.stages.proofs.PathLists.{added_fine, without_fine, Between, without_shorter}

-- THE PATHS OF A TABLE

-- what they are
pub record Held (l : List Text) : Type 0 where
  pub fine : Fine l
  pub passes : all_texts not_empty l ≡ true
  pub rises : rising l ≡ true

module _ (t : Text) (l : List Text) (e : paths_of t ≡ some l) where
  pub held_of : Held l
  held_of = go (paths_held t l e)
    where
      go : (held_texts t ≡ l) × Paths t → Held l
      go k = record { fine = rw (← k.0) (texts_held_fine t k.1.table); passes = rw (← k.0) k.1.passes; rises = rw (← k.0) k.1.rises }

  pub held_length : (length t ≡ length (image l)) × (length t ≤ paths_limit)
  held_length = go (paths_held t l e)
    where
      go : (held_texts t ≡ l) × Paths t → (length t ≡ length (image l)) × (length t ≤ paths_limit)
      go k = (texts_held_length t k.1.table ∙ sym (length_image (held_texts t)) ∙ ap (λ (m : List Text). length (image m)) k.0, k.1.small)

-- their image is a table of them
table_of : (l : List Text) → Held l → length (image l) ≤ paths_limit → paths_of (image l) ≡ some l
table_of l h n =
    paths_are_lem (image l) (paths_image l h.fine h.passes h.rises (rw (← length_image l) n)) ∙ ap some (held_texts_image l h.fine)

path_parts : (p : Text) → is_path p ≡ true → (not_empty p ≡ true) × (all not_zero p ≡ true)
unfolding is_path
path_parts p e = (and_left (not_empty p) (all not_zero p) e, and_right (not_empty p) (all not_zero p) e)

held_added : (p : Text) (l : List Text) → is_path p ≡ true → is_there p l ≡ false → Held l → Held (added p l)
held_added p l e n h =
    let k : (not_empty p ≡ true) × (all not_zero p ≡ true) = path_parts p e in
    record { fine = added_fine p l k.1 h.fine; passes = added_all not_empty p l k.0 h.passes; rises = added_rises p l n h.rises }

held_without : (p : Text) (l : List Text) → Held l → Held (without p l)
held_without p l h = record { fine = without_fine p l h.fine; passes = without_all not_empty p l h.passes; rises = without_rises p l h.rises }

-- HOW A JOB ENDS

-- the numbers of both jobs
abbrev pub is_own : ℕ → Bool
is_own n = is_in n (bad_paths ∷ bad_path ∷ output_room ∷ [])

data Ends (P : List Text → Type 0) : Placed (List Text) → Type 0 where
  refuses : {n : ℕ} → is_own n ≡ true → Ends P (refused_at n 0)
  gives : {l : List Text} → P l → Ends P (done_at l)

ends_require : {P : List Text → Type 0} (x : Bool) (n : ℕ) (f : Unit {0} → Placed (List Text)) → is_own n ≡ true → (x ≡ true → Ends P (f tt))
    → Ends P (require x n 0 then f)
ends_require true n f h k = k refl
ends_require false n f h k = refuses h

ends_some : {P : List Text → Type 0} (o : Option (List Text)) (n : ℕ) (f : List Text → Placed (List Text)) → is_own n ≡ true
    → ((l : List Text) → o ≡ some l → Ends P (f l)) → Ends P (or_refused n o then f)
unfolding or_refused
ends_some none n f h k = refuses h
ends_some (some l) n f h k = k l refl

ends_then : {P Q : List Text → Type 0} {o : Placed (List Text)} (f : List Text → Placed (List Text)) → Ends P o
    → ((l : List Text) → P l → Ends Q (f l)) → Ends Q (o then f)
ends_then f (refuses h) k = refuses h
ends_then f (gives {l = l} p) k = k l p

-- a call with a table and a path
pub record Ready (g : Updating) (l : List Text) : Type 0 where
  pub inside : g.used ≤ length g.paths
  pub table : paths_of (take g.used g.paths) ≡ some l
  pub path : is_path g.path ≡ true

given_ends : (g : Updating) → Ends (Ready g) (paths_given g)
unfolding paths_given
given_ends g =
    ends_require (leb g.used (length g.paths)) bad_paths _ refl λ a.
    ends_some (paths_of (take g.used g.paths)) bad_paths _ refl λ l b.
    ends_require (is_path g.path) bad_paths _ refl λ c.
    gives (record { inside = leb-true g.used (length g.paths) a; table = b; path = c })

record Inserts (g : Updating) (m : List Text) : Type 0 where
  before : List Text
  ready : Ready g before
  new : is_there g.path before ≡ false
  room : length (image m) ≤ length g.paths
  small : length (image m) ≤ paths_limit
  is : m ≡ added g.path before

fit_parts : (g : Updating) (l : List Text) → paths_fit g l ≡ true → (length (image l) ≤ length g.paths) × (length (image l) ≤ paths_limit)
unfolding paths_fit
fit_parts g l e = (
  leb-true (length (image l)) (length g.paths) (and_left (leb (length (image l)) (length g.paths)) (leb (length (image l)) paths_limit) e),
  leb-true (length (image l)) paths_limit (and_right (leb (length (image l)) (length g.paths)) (leb (length (image l)) paths_limit) e),
)

turned : (x : Bool) → not x ≡ true → x ≡ false
turned true e = absurd (no e)
turned false e = refl

insertion_ends : (g : Updating) → Ends (Inserts g) (insertion g)
unfolding insertion
insertion_ends g =
    ends_then _ (given_ends g) λ l r.
    ends_require (not (is_there g.path l)) bad_path _ refl λ a.
    ends_require (paths_fit g (added g.path l)) output_room _ refl λ b.
    gives (record {
      before = l;
      ready = r;
      new = turned (is_there g.path l) a;
      room = (fit_parts g (added g.path l) b).0;
      small = (fit_parts g (added g.path l) b).1;
      is = refl;
    })

record Deletes (g : Updating) (m : List Text) : Type 0 where
  before : List Text
  ready : Ready g before
  there : is_there g.path before ≡ true
  is : m ≡ without g.path before

deletion_ends : (g : Updating) → Ends (Deletes g) (deletion g)
unfolding deletion
deletion_ends g =
    ends_then _ (given_ends g) λ l r.
    ends_require (is_there g.path l) bad_path _ refl λ a.
    gives (record { before = l; ready = r; there = a; is = refl })

-- THE ANSWERS

-- refused with nothing changed, or P
pub data Ended (g : Updating) (P : Updated → Type 0) : Updated → Type 0 where
  refuses : {n : ℕ} → is_own n ≡ true → Ended g P (record { number = n; place = 0; used = g.used; paths = g.paths })
  gives : {a : Updated} → P a → Ended g P a

-- "bytes before its place are not touched"
abbrev pub Untouched : Updating → Updated → List Text → Type 0
Untouched g a l = Bytes g.paths → take (place_in g.path l) a.paths ≡ take (place_in g.path l) g.paths

-- "the result is the image of the list with that path added", a table again; ".. bytes behind the image are kept on insertion"
pub record Inserted (g : Updating) (a : Updated) : Type 0 where
  pub before : List Text
  pub ready : Ready g before
  pub new : is_there g.path before ≡ false
  pub number : a.number ≡ accepted
  pub place : a.place ≡ 0
  pub bytes : take a.used a.paths ≡ image (added g.path before)
  pub table : paths_of (take a.used a.paths) ≡ some (added g.path before)
  pub untouched : Untouched g a before
  pub inside : a.used ≤ length a.paths
  pub behind : drop a.used a.paths ≡ drop a.used g.paths
  pub size : length a.paths ≡ length g.paths

-- bytes that begin with a text up to some length begin with that text
front_at : (f u b : Text) (k : ℕ) → take k b ≡ f ++ u → take (length f) b ≡ f
front_at f u b k e =
    ap (take (length f)) (sym (take-append-drop k b) ∙ ap (λ (t : Text). t ++ drop k b) e ∙ append_assoc f u (drop k b))
    ∙ take_at f (u ++ drop k b) (length f) refl

-- two buffers that both begin with the image of the paths below
same_before : (p : Text) (l : List Text) (b c u v : Text) (j k : ℕ) → take j b ≡ image (below p l) ++ u → take k c ≡ image (below p l) ++ v
    → take (place_in p l) b ≡ take (place_in p l) c
unfolding place_in
same_before p l b c u v j k e f =
    let n : image_length (below p l) ≡ length (image (below p l)) = sym (length_image (below p l)) in
    rw n (front_at (image (below p l)) u b j e ∙ sym (front_at (image (below p l)) v c k f))

module _ (g : Updating) (l : List Text) (r : Ready g l) (b : Bytes g.paths) where
  pub given_image : take g.used g.paths ≡ image l
  given_image = paths_canonical (take g.used g.paths) l (bytes_take g.used g.paths b) r.table

  pub given_used : length (image l) ≡ g.used
  given_used = ap length (sym given_image) ∙ length-take-le g.used g.paths r.inside

pub inserter_ends : (g : Updating) → Ended g (Inserted g) (inserter g)
unfolding inserter updated
inserter_ends g = go (insertion_ends g)
  where
    kept : (l : List Text) (c : Text) (k : ℕ) → Ready g l → is_there g.path l ≡ false → take k c ≡ image (added g.path l) → Bytes g.paths
        → take (place_in g.path l) c ≡ take (place_in g.path l) g.paths
    kept l c k r n e b =
        let d : Between g.path (below g.path l) l (added g.path l) = added_place g.path l n in
        same_before g.path l c g.paths (written (g.path ∷ d.back)) (written d.back) k g.used (e ∙ more_begins d)
        (given_image g l r b ∙ less_begins d)

    go : {o : Placed (List Text)} → Ends (Inserts g) o → Ended g (Inserted g) (updated g (λ t. over t g.paths) o)
    go (refuses h) = unfold updated in refuses h
    go (gives {l = m} w) =
        let f : take (length (image m)) (over (image m) g.paths) ≡ image m = over_front (image m) g.paths in
        let s : length (over (image m) g.paths) ≡ length g.paths = over_length (image m) g.paths w.room in
        let h : Held (added g.path w.before) =
        held_added g.path w.before w.ready.path w.new (held_of (take g.used g.paths) w.before w.ready.table) in
        unfold updated in gives {a = record { number = accepted; place = 0; used = length (image m); paths = over (image m) g.paths }} (record {
          before = w.before;
          ready = w.ready;
          new = w.new;
          number = refl;
          place = refl;
          bytes = f ∙ ap image w.is;
          table = ap paths_of f ∙ ap (λ (l : List Text). paths_of (image l)) w.is
              ∙ table_of (added g.path w.before) h (rw (← w.is) w.small);
          untouched = kept w.before (over (image m) g.paths) (length (image m)) w.ready w.new (f ∙ ap image w.is);
          inside = rw s w.room;
          behind = over_behind (image m) g.paths;
          size = s;
        })

-- the same with that path removed; bytes behind the image are "zero up to the old length on deletion"
pub record Deleted (g : Updating) (a : Updated) : Type 0 where
  pub before : List Text
  pub ready : Ready g before
  pub there : is_there g.path before ≡ true
  pub number : a.number ≡ accepted
  pub place : a.place ≡ 0
  pub bytes : take a.used a.paths ≡ image (without g.path before)
  pub table : paths_of (take a.used a.paths) ≡ some (without g.path before)
  pub untouched : Untouched g a before
  pub shorter : a.used ≤ g.used
  pub behind : drop a.used a.paths ≡ replicate (g.used - a.used) 0 ++ drop g.used g.paths
  pub size : length a.paths ≡ length g.paths

-- a table with one path less is no longer
less_used : (g : Updating) (l : List Text) → Ready g l
    → (length (image (without g.path l)) ≤ g.used) × (length (image (without g.path l)) ≤ paths_limit)
less_used g l r = go (held_length (take g.used g.paths) l r.table)
  where
    go : (length (take g.used g.paths) ≡ length (image l)) × (length (take g.used g.paths) ≤ paths_limit)
        → (length (image (without g.path l)) ≤ g.used) × (length (image (without g.path l)) ≤ paths_limit)
    go k =
        let e : length (take g.used g.paths) ≡ g.used = length-take-le g.used g.paths r.inside in
        (omega (arith, without_shorter g.path l, k.0), omega (arith, without_shorter g.path l, k.0, k.1))

zeros_behind : (used : ℕ) (t buffer : Text) → length t ≤ used
    → drop (length t) (over (padded used t) buffer) ≡ replicate (used - length t) 0 ++ drop used buffer
zeros_behind used t buffer h =
    let e : length t + (used - length t) ≡ used = omega arith in
    padded_behind used t buffer ∙ ap (λ (n : ℕ). replicate (used - length t) 0 ++ drop n buffer) e

pub deleter_ends : (g : Updating) → Ended g (Deleted g) (deleter g)
unfolding deleter updated
deleter_ends g = go (deletion_ends g)
  where
    kept : (l : List Text) (c : Text) (k : ℕ) → Ready g l → is_there g.path l ≡ true → take k c ≡ image (without g.path l) → Bytes g.paths
        → take (place_in g.path l) c ≡ take (place_in g.path l) g.paths
    kept l c k r n e b =
        let o : rising l ≡ true = (held_of (take g.used g.paths) l r.table).rises in
        let d : Between g.path (below g.path l) (without g.path l) l = without_place g.path l n o in
        same_before g.path l c g.paths (written d.back) (written (g.path ∷ d.back)) k g.used (e ∙ less_begins d)
        (given_image g l r b ∙ more_begins d)

    go : {o : Placed (List Text)} → Ends (Deletes g) o → Ended g (Deleted g) (updated g (λ t. over (padded g.used t) g.paths) o)
    go (refuses h) = unfold updated in refuses h
    go (gives {l = m} w) =
        let f : take (length (image m)) (over (padded g.used (image m)) g.paths) ≡ image m = padded_front g.used (image m) g.paths in
        let n : (length (image (without g.path w.before)) ≤ g.used) × (length (image (without g.path w.before)) ≤ paths_limit) =
        less_used g w.before w.ready in
        let s : length (image m) ≤ g.used = rw w.is n.0 in
        let h : Held (without g.path w.before) =
        held_without g.path w.before (held_of (take g.used g.paths) w.before w.ready.table) in
        unfold updated in gives {a =
        record { number = accepted; place = 0; used = length (image m); paths = over (padded g.used (image m)) g.paths }} (record {
          before = w.before;
          ready = w.ready;
          there = w.there;
          number = refl;
          place = refl;
          bytes = f ∙ ap image w.is;
          table = ap paths_of f ∙ ap (λ (l : List Text). paths_of (image l)) w.is ∙ table_of (without g.path w.before) h n.1;
          untouched = kept w.before (over (padded g.used (image m)) g.paths) (length (image m)) w.ready w.there (f ∙ ap image w.is);
          shorter = s;
          behind = zeros_behind g.used (image m) g.paths s;
          size = padded_length g.used (image m) g.paths (omega (arith, s, w.ready.inside)) w.ready.inside;
        })
