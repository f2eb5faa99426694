-- The answers of both jobs, case by case: what adding or removing gives is what the stage says.
use Prim.Native.Nat.{ℕ, ◌≤◌}
use native.Mathlib.Omega.{arith}
use mathlib.Core.Path.{◌≡◌, refl, sym, ap, subst, ◌∙◌}
use mathlib.Core.Bool.{true, false, ◌&&◌}
use mathlib.Core.List.{List, [], ◌∷◌}
use mathlib.Core.Option.{some}
use lib.Dec.{eqb, leb}
use lib.ListN.{length, take}
use lib.Seq.{length-take-le}
use borrow.Author.Tests.{eqb-true, leb-true, leb-false, le-leb}
use Rattle.stages.specs.Numbers.{accepted, bad_paths, output_room, bad_path, paths_limit}
use Rattle.stages.specs.Bytes.{Text, all, not_zero}
use Rattle.stages.specs.Outcome.{Placed, refused_at, done_at}
use Rattle.stages.specs.Images.{image, image_length, is_some, paths_of, held_texts}
use Rattle.stages.specs.Call.{over, padded}
use Rattle.stages.specs.Updates as stage
use Rattle.stages.proofs.Bools.{either, and_left, and_right, same_tests, and_both}
use Rattle.stages.proofs.Images.{Bytes, length_image}
use Rattle.stages.proofs.Tables.{none_of, paths_of_lem, paths_are_lem, paths_held}
use Rattle.stages.proofs.Updates.{Ended, refuses, gives, Ready, Inserted, Deleted, inserter_ends, deleter_ends}
use Rattle.stages.proofs.UpdateCalls.{beyond_buffer, no_table, no_path, insertion_four, deletion_four}
use Rattle.stages.proofs.UpdateCalls.{insertion_there, insertion_full, insertion_gives, deletion_missing, deletion_gives}
use Rattle.table_insert.specs.Added as added
use Rattle.table_insert.specs.Removed as removed
use Rattle.std.specs.Prelude.{Result, Ok, Err, Option, Some, None}
use Rattle.table_insert.specs.declared.AddError.{AddError}
use Rattle.table_insert.specs.declared.AddError.TheVariants.{Twice, NoRoom}
use Rattle.call_update.specs.Hands.{is_ready, room_in, answer_as, place_of, Hands}
use Rattle.call_update.specs.declared.Updated.{Updated}

-- `is_path`

pub no_path_there : (s : Text) → eqb (length s) 0 ≡ true → stage.is_path s ≡ false
unfolding stage.is_path
no_path_there [] e = refl
no_path_there (a ∷ s) e = absurd (omega (arith, eqb-true (length (a ∷ s)) 0 e))

pub path_is : (s : Text) → eqb (length s) 0 ≡ false → stage.is_path s ≡ all not_zero s
unfolding stage.is_path
path_is [] e = absurd (let k : eqb 0 0 ≡ true = refl in cc)
path_is (a ∷ s) e = refl

pub ruleset path_tests = (no_path_there, path_is)

-- what is given

module _ (g : stage.Updating) where
  abbrev bytes : Text
  bytes = take g.used g.paths

  abbrev there : List Text
  there = held_texts bytes

  -- `is_ready`

  pub ready_of : is_ready g ≡ true → Ready g there
  ready_of e =
      let a : leb g.used (length g.paths) ≡ true = and_left _ (is_some (paths_of bytes) && stage.is_path g.path) e in
      let b : (is_some (paths_of bytes) && stage.is_path g.path) ≡ true = and_right (leb g.used (length g.paths)) _ e in
      record {
        inside = leb-true g.used (length g.paths) a;
        table = paths_are_lem bytes (paths_of_lem bytes (and_left (is_some (paths_of bytes)) (stage.is_path g.path) b));
        path = and_right (is_some (paths_of bytes)) (stage.is_path g.path) b;
      }

  unready : is_ready g ≡ false → stage.paths_given g ≡ refused_at bad_paths 0
  unready e = either (leb g.used (length g.paths)) within (λ a. beyond_buffer g a)
    where
      named : g.used ≤ length g.paths → is_some (paths_of bytes) ≡ true → stage.is_path g.path ≡ false → stage.paths_given g ≡ refused_at bad_paths 0
      named h b c = no_path g there h (paths_are_lem bytes (paths_of_lem bytes b)) c

      within : leb g.used (length g.paths) ≡ true → stage.paths_given g ≡ refused_at bad_paths 0
      within a =
          let h : g.used ≤ length g.paths = leb-true g.used (length g.paths) a in
          either (is_some (paths_of bytes)) (λ b. named h b (rw (a, b) at e)) (λ b. no_table g h (none_of (paths_of bytes) b))

  -- "bytes before its place are not touched"
  same_place : {l : List Text} → paths_of bytes ≡ some l → place_of g ≡ stage.place_in g.path l
  same_place {l} e = ap (stage.place_in g.path) (paths_held bytes l e).0

  inserter_untouched : Bytes g.paths → take (place_of g) (stage.inserter g).paths ≡ take (place_of g) g.paths
  inserter_untouched b = go (inserter_ends g)
    where
      go : {a : stage.Updated} → Ended g (Inserted g) a → take (place_of g) a.paths ≡ take (place_of g) g.paths
      go (refuses h) = refl
      go (gives {a = a} w) =
          subst (λ (n : ℕ). take n a.paths ≡ take n g.paths) (sym (same_place w.ready.table)) (w.untouched b)

  deleter_untouched : Bytes g.paths → take (place_of g) (stage.deleter g).paths ≡ take (place_of g) g.paths
  deleter_untouched b = go (deleter_ends g)
    where
      go : {a : stage.Updated} → Ended g (Deleted g) a → take (place_of g) a.paths ≡ take (place_of g) g.paths
      go (refuses h) = refl
      go (gives {a = a} w) =
          subst (λ (n : ℕ). take n a.paths ≡ take n g.paths) (sym (same_place w.ready.table)) (w.untouched b)

  -- an answer that is the stage's

  abbrev refusing : ℕ → stage.Updated
  refusing n = record { number = n; place = 0; used = g.used; paths = g.paths }

  hands : (a s : stage.Updated) (r : Updated) (left : Text) → s ≡ a → r ≡ record { number = a.number; place = a.place; used = a.used } → left ≡ a.paths
      → take (place_of g) s.paths ≡ take (place_of g) g.paths → Hands g s r left
  hands a s r left e f p u = record {
    number = ap (λ (x : Updated). x.number) f ∙ ap (λ (x : stage.Updated). x.number) (sym e);
    place = ap (λ (x : Updated). x.place) f ∙ ap (λ (x : stage.Updated). x.place) (sym e);
    used = ap (λ (x : Updated). x.used) f ∙ ap (λ (x : stage.Updated). x.used) (sym e);
    paths = p ∙ ap (λ (x : stage.Updated). x.paths) (sym e);
    untouched = ap (take (place_of g)) (p ∙ ap (λ (x : stage.Updated). x.paths) (sym e)) ∙ u;
  }

  inserter_is : {o : Placed (List Text)} → stage.insertion g ≡ o → stage.inserter g ≡ stage.updated g (λ t. over t g.paths) o
  unfolding stage.inserter
  inserter_is e = ap (stage.updated g (λ t. over t g.paths)) e

  deleter_is : {o : Placed (List Text)} → stage.deletion g ≡ o → stage.deleter g ≡ stage.updated g (λ t. over (padded g.used t) g.paths) o
  unfolding stage.deleter
  deleter_is e = ap (stage.updated g (λ t. over (padded g.used t) g.paths)) e

  module _ (b : Bytes g.paths) where
    insert_refuses : (n : ℕ) {r : Updated} {left : Text} → stage.insertion g ≡ refused_at n 0 → r ≡ answer_as n g.used → left ≡ g.paths
        → Hands g (stage.inserter g) r left
    unfolding stage.updated
    insert_refuses n e f p = hands (refusing n) (stage.inserter g) _ _ (inserter_is e) f p (inserter_untouched b)

    delete_refuses : (n : ℕ) {r : Updated} {left : Text} → stage.deletion g ≡ refused_at n 0 → r ≡ answer_as n g.used → left ≡ g.paths
        → Hands g (stage.deleter g) r left
    unfolding stage.updated
    delete_refuses n e f p = hands (refusing n) (stage.deleter g) _ _ (deleter_is e) f p (deleter_untouched b)

    insert_accepts : (m : List Text) {r : Updated} {left : Text} → stage.insertion g ≡ done_at m → r ≡ answer_as accepted (length (image m))
        → left ≡ over (image m) g.paths → Hands g (stage.inserter g) r left
    unfolding stage.updated
    insert_accepts m e f p =
        hands (record { number = accepted; place = 0; used = length (image m); paths = over (image m) g.paths }) (stage.inserter g) _ _ (inserter_is e) f p
        (inserter_untouched b)

    delete_accepts : (m : List Text) {r : Updated} {left : Text} → stage.deletion g ≡ done_at m → r ≡ answer_as accepted (length (image m))
        → left ≡ over (padded g.used (image m)) g.paths → Hands g (stage.deleter g) r left
    unfolding stage.updated
    delete_accepts m e f p =
        hands (record { number = accepted; place = 0; used = length (image m); paths = over (padded g.used (image m)) g.paths }) (stage.deleter g) _ _
        (deleter_is e) f p (deleter_untouched b)

    pub insert_unready : is_ready g ≡ false → {r : Updated} → r ≡ answer_as bad_paths g.used → Hands g (stage.inserter g) r g.paths
    insert_unready e f = insert_refuses bad_paths (insertion_four g (unready e)) f refl

    pub delete_unready : is_ready g ≡ false → {r : Updated} → r ≡ answer_as bad_paths g.used → Hands g (stage.deleter g) r g.paths
    delete_unready e f = delete_refuses bad_paths (deletion_four g (unready e)) f refl

-- `insert_path`

-- the room is the lesser
room_test : (n size : ℕ) → leb n (room_in size) ≡ (leb n size && leb n paths_limit)
room_test n size = either (leb size paths_limit) small large
  where
    small : leb size paths_limit ≡ true → leb n (room_in size) ≡ (leb n size && leb n paths_limit)
    small e =
        rw e (same_tests (leb n size) (leb n size && leb n paths_limit)
        (λ h. and_both h (le-leb n paths_limit (omega (arith, leb-true n size h, leb-true size paths_limit e))))
        (λ h. and_left (leb n size) (leb n paths_limit) h))

    large : leb size paths_limit ≡ false → leb n (room_in size) ≡ (leb n size && leb n paths_limit)
    large e =
        rw e (same_tests (leb n paths_limit) (leb n size && leb n paths_limit)
        (λ h. and_both (le-leb n size (omega (arith, leb-true n paths_limit h, leb-false size paths_limit e))) h)
        (λ h. and_right (leb n size) (leb n paths_limit) h))

pub room_small : (n size : ℕ) → n ≤ size → n ≤ paths_limit → n ≤ room_in size
room_small n size h k = leb-true n (room_in size) (room_test n size ∙ and_both (le-leb n size h) (le-leb n paths_limit k))

pub room_most : (size : ℕ) → (room_in size ≤ size) × (room_in size ≤ paths_limit)
room_most size =
    let e : leb (room_in size) (room_in size) ≡ true = le-leb (room_in size) (room_in size) (omega arith) in
    let k : (leb (room_in size) size && leb (room_in size) paths_limit) ≡ true = sym (room_test (room_in size) size) ∙ e in (
      leb-true (room_in size) size (and_left (leb (room_in size) size) (leb (room_in size) paths_limit) k),
      leb-true (room_in size) paths_limit (and_right (leb (room_in size) size) (leb (room_in size) paths_limit) k),
    )

pub column_of : (g : stage.Updating) {l : List Text} → Ready g l → added.Column (take g.used g.paths)
column_of g {l} r =
    let w = (paths_held (take g.used g.paths) l r.table).1 in
    record { table = w.table; rises = w.rises }

pub ready_small : (g : stage.Updating) {l : List Text} → Ready g l → g.used ≤ room_in (length g.paths)
ready_small g {l} r =
    let k : length (take g.used g.paths) ≡ g.used = length-take-le g.used g.paths r.inside in
    let w : length (take g.used g.paths) ≤ paths_limit = (paths_held (take g.used g.paths) l r.table).1.small in
    room_small g.used (length g.paths) r.inside (omega (arith, k, w))

-- what adding asks
pub add_ready : (g : stage.Updating) {l : List Text} → Ready g l → (limit : ℕ) → limit ≡ room_in (length g.paths)
    → ((g.used ≤ limit) × (limit ≤ length g.paths) × (limit ≤ paths_limit)) × added.Column (take g.used g.paths)
add_ready g r limit e = rw e ((ready_small g r, (room_most (length g.paths)).0, (room_most (length g.paths)).1), column_of g r)

-- what the job answers by what adding gives
abbrev pub inserted_as : ℕ → Result ℕ AddError → Updated
inserted_as used (Ok n) = answer_as accepted n
inserted_as used (Err Twice) = answer_as bad_path used
inserted_as used (Err NoRoom) = answer_as output_room used

module _ (g : stage.Updating) (l : List Text) (w : Ready g l) (b : Bytes g.paths) where
  fit_test : (m : List Text) → stage.paths_fit g m ≡ leb (image_length m) (room_in (length g.paths))
  unfolding stage.paths_fit
  fit_test m = rw (length_image m) (sym (room_test (image_length m) (length g.paths)))

  module _ (limit : ℕ) (k : limit ≡ room_in (length g.paths)) (left : Text) (s : Result ℕ AddError)
      (h : added.Adds (added.adding limit g.path l) g.paths left s) where
    abbrev more : List Text
    more = stage.added g.path l

    pub insert_hands : {r : Updated} → r ≡ inserted_as g.used s → Hands g (stage.inserter g) r left
    unfolding added.adding
    insert_hands {r} f = either (stage.is_there g.path l) known new
      where
        known : stage.is_there g.path l ≡ true → Hands g (stage.inserter g) r left
        known e =
            let u : s ≡ Err Twice = h.answers ∙ rw e in
            let p : left ≡ g.paths = h.leaves ∙ rw e in
            insert_refuses g b bad_path (insertion_there g l w e) (f ∙ ap (inserted_as g.used) u) p

        fits : stage.is_there g.path l ≡ false → leb (image_length more) limit ≡ true → Hands g (stage.inserter g) r left
        fits e d =
            let q : stage.paths_fit g more ≡ true = fit_test more ∙ ap (leb (image_length more)) (sym k) ∙ d in
            let u : s ≡ Ok (image_length more) = h.answers ∙ rw (e, d) in
            let p : left ≡ over (image more) g.paths = h.leaves ∙ rw (e, d) in
            insert_accepts g b more (insertion_gives g l w e q) (f ∙ ap (inserted_as g.used) u ∙ ap (answer_as accepted) (sym (length_image more))) p

        full : stage.is_there g.path l ≡ false → leb (image_length more) limit ≡ false → Hands g (stage.inserter g) r left
        full e d =
            let q : stage.paths_fit g more ≡ false = fit_test more ∙ ap (leb (image_length more)) (sym k) ∙ d in
            let u : s ≡ Err NoRoom = h.answers ∙ rw (e, d) in
            let p : left ≡ g.paths = h.leaves ∙ rw (e, d) in
            insert_refuses g b output_room (insertion_full g l w e q) (f ∙ ap (inserted_as g.used) u) p

        new : stage.is_there g.path l ≡ false → Hands g (stage.inserter g) r left
        new e = either (leb (image_length more) limit) (fits e) (full e)

-- `delete_path`

abbrev pub deleted_as : ℕ → Option ℕ → Updated
deleted_as used (Some n) = answer_as accepted n
deleted_as used None = answer_as bad_path used

module _ (g : stage.Updating) (l : List Text) (w : Ready g l) (b : Bytes g.paths) (left : Text) (s : Option ℕ)
    (h : removed.Removes g.used (removed.removing g.path l) g.paths left s) where
  abbrev less : List Text
  less = stage.without g.path l

  pub delete_hands : {r : Updated} → r ≡ deleted_as g.used s → Hands g (stage.deleter g) r left
  unfolding removed.removing
  delete_hands {r} f = either (stage.is_there g.path l) known missing
    where
      known : stage.is_there g.path l ≡ true → Hands g (stage.deleter g) r left
      known e =
          let u : s ≡ Some (length (image less)) = h.answers ∙ rw e in
          let p : left ≡ over (padded g.used (image less)) g.paths = h.leaves ∙ rw e in
          delete_accepts g b less (deletion_gives g l w e) (f ∙ ap (deleted_as g.used) u) p

      missing : stage.is_there g.path l ≡ false → Hands g (stage.deleter g) r left
      missing e =
          let u : s ≡ None = h.answers ∙ rw e in
          let p : left ≡ g.paths = h.leaves ∙ rw e in
          delete_refuses g b bad_path (deletion_missing g l w e) (f ∙ ap (deleted_as g.used) u) p
