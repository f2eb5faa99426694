-- Texts packed one behind the other are the image of their list, as long as that has room.
use Prim.Native.Nat.{ℕ, ◌+◌, ◌-◌, ◌≤◌, ◌<◌}
use native.Mathlib.Omega.{arith}
use mathlib.Core.Path.{◌≡◌, refl, sym, ap, ◌∙◌, subst}
use mathlib.Core.Bool.{Bool, true, false, ◌&&◌}
use mathlib.Core.List.{List, [], ◌∷◌, ◌++◌, append_assoc, append-nil}
use lib.Dec.{leb}
use lib.ListN.{length, take, drop, replicate, set, length-append, length-drop, length-set, length-replicate, take-append-drop}
use lib.Seq.{length-take-le, take_at, drop-drop}
use borrow.Author.Tests.{leb-true, leb-false}
use borrow.Rule.Slice.PartMut.{put_mid, mid_of}
use Rattle.stages.specs.Numbers.{image_limit, output_room}
use Rattle.stages.specs.Bytes.{Text}
use Rattle.stages.specs.Outcome.{Outcome, refused, demands, done, pick}
use Rattle.stages.specs.Images.{framed, written, image, record_bytes, image_length}
use Rattle.stages.specs.Call.{over}
use Rattle.stages.proofs.Images.{length_image, written_append, record_bytes_append}
use Rattle.stages.proofs.Rooms.{over_front}
use Rattle.text.proofs.Parts.{rest_is, rest_length, rest_back}
use Rattle.table_store.specs.Answers.{put_outcome, text_limit, record_in, Writes}
use Rattle.std.specs.Prelude.{Result, Ok, Err}
use Rattle.table_store.specs.declared.NoRoom.{NoRoom}
use Rattle.table_store.specs.Splice.{placed}
use Rattle.table_store.proofs.Callers.{Wrote, wrote, unwritten, record_given, record_refused, version_first}
use Rattle.recipe_arguments.specs.Options.{word_in, Hearing, silent, heard_as, heard, heard_all}
use Rattle.recipe_arguments.specs.Packs.{Adds, Appends, Packs, whole, full, HearsAs, Hears, Holds, Grows, Gathers, GathersAll}
use Rattle.recipe_arguments.specs.declared.Word.{Word}
use Rattle.recipe_arguments.specs.declared.Word.TheVariants.{Shout, End, Unknown, Parameter}
use Rattle.recipe_arguments.specs.declared.Heard.{Heard}

-- A RECORD IN THE FREE PART

-- the free part of a buffer, lent to the record writer
lent : (used : ℕ) (old t ys : Text) → ys ≡ over t (mid_of used (length old - used) old) → put_mid used (length old - used) old ys ≡ placed used t old
unfolding over placed
lent used old t ys e =
    let y : ys ≡ t ++ drop (used + length t) old =
    e ∙ ap (λ (x : Text). t ++ drop (length t) x) (rest_is used old) ∙ ap (λ (x : Text). t ++ x) (drop-drop (length t) used old) in
    rw (rest_back used old ys, y)

module _ (t : Text) (used : ℕ) (old ys : Text) (r : Result ℕ NoRoom)
    (w : Writes (record_in (length (mid_of used (length old - used) old)) t) (mid_of used (length old - used) old) ys (put_outcome r)) where
  abbrev room : ℕ
  room = length (mid_of used (length old - used) old)

  abbrev after : Text
  after = put_mid used (length old - used) old ys

  same_room : record_in room t ≡ record_in (length old - used) t
  same_room = ap (λ (n : ℕ). record_in n t) (rest_length used old)

  wrote_new : {n : ℕ} → r ≡ Ok n → Wrote (record_in room t) (mid_of used (length old - used) old) ys n
  wrote_new {n} e = wrote (record_in room t) (mid_of used (length old - used) old) ys n (rw e at w)

  pub put_within : {n : ℕ} → r ≡ Ok n → used ≤ length old → used + n ≤ length old
  put_within {n} e h =
      let d = wrote_new e in
      let g : (framed t ≡ d.new) × (length t ≤ text_limit) × (length t + 2 ≤ room) = record_given room t d.new d.gives in
      let k : length (framed t) ≡ length d.new = ap length g.0 in
      omega (arith, d.long, k, g.2, rest_length used old)

  pub appends_put : {n : ℕ} → r ≡ Ok n → Appends t used old after (used + n)
  appends_put {n} e =
      let d = wrote_new e in
      subst (λ (o : Outcome Text). Adds o used old after (used + n)) (sym d.gives ∙ same_room)
      (ap (λ (k : ℕ). used + k) d.long, lent used old d.new ys d.leaves)

  -- the answer is the buffer's length, as it stands when the record writer has given it back
  pub appends_full : {x : NoRoom} → r ≡ Err x → Appends t used old after (length after)
  appends_full e =
      let d = unwritten (record_in room t) (mid_of used (length old - used) old) ys _ (rw e at w) in
      let k : after ≡ old =
      rest_back used old ys ∙ ap (λ (x : Text). take used old ++ x) (d.1 ∙ rest_is used old) ∙ take-append-drop used old in
      subst (λ (o : Outcome Text). Adds o used old after (length after)) (sym d.0 ∙ same_room) (ap length k, k)

-- ONE TEXT MORE

-- the image of a list with a text more
image_more : (l : List Text) (t : Text) → image (l ++ t ∷ []) ≡ image l ++ framed t
unfolding image
image_more l t = ap (λ (x : Text). 1 ∷ x) (written_append l (t ∷ []) ∙ ap (λ (x : Text). written l ++ x) (last t))
  where
    last : (u : Text) → written (u ∷ []) ≡ framed u
    last u = unfold written in append-nil (framed u)

long_more : (l : List Text) (t : Text) → image_length (l ++ t ∷ []) ≡ image_length l + (2 + length t)
unfolding image_length record_bytes
long_more l t = omega (arith, record_bytes_append l (t ∷ []))

-- what is whole has the image's length
whole_length : (l : List Text) (buffer : Text) (used : ℕ) → used ≤ length buffer → take used buffer ≡ image l → used ≡ image_length l
whole_length l buffer used h e = sym (length-take-le used buffer h) ∙ ap length e ∙ length_image l

-- bytes put behind the first ones
module _ (used : ℕ) (new old : Text) (h : used + length new ≤ length old) where
  front_length : length (take used old ++ new) ≡ used + length new
  front_length = length-append (take used old) new ∙ ap (λ (n : ℕ). n + length new) (length-take-le used old (omega arith))

  placed_front : take (used + length new) (placed used new old) ≡ take used old ++ new
  unfolding placed
  placed_front =
      ap (take (used + length new)) (sym (append_assoc (take used old) new (drop (used + length new) old)))
      ∙ take_at (take used old ++ new) (drop (used + length new) old) (used + length new) front_length

  placed_length : length (placed used new old) ≡ length old
  unfolding placed
  placed_length =
      simp (length-append, length-drop) (omega (arith, length-take-le used old (omega arith)))

-- a record demands nothing
record_quiet : (room : ℕ) (t m : Text) → record_in room t ≡ demands m → ⊥
unfolding record_in
record_quiet room t m = go (leb (length t) text_limit && leb (length (framed t)) room)
  where
    go : (x : Bool) → ◌≡◌ {A = Outcome Text} (pick x (done (framed t)) (refused output_room)) (demands m) → ⊥
    go true e = let z : ◌≡◌ {A = ℕ} 0 1 = cc in omega arith
    go false e = let z : ◌≡◌ {A = ℕ} 0 1 = cc in omega arith

module _ (t : Text) (used : ℕ) (old left : Text) (r : ℕ) (l : List Text) (h : used ≤ length old) (small : length old ≤ text_limit) where
  more_put : (new : Text) → record_in (length old - used) t ≡ done new → r ≡ used + length new → left ≡ placed used new old → Packs l old used
      → Packs (l ++ t ∷ []) left r
  more_put new e a b (whole i p) =
      let g : (framed t ≡ new) × (length t ≤ text_limit) × (length t + 2 ≤ length old - used) = record_given (length old - used) t new e in
      let k : length (framed t) ≡ length new = ap length g.0 in
      let f : used + length new ≤ length old = omega (arith, k, g.2) in
      whole (omega (arith, a, ap length b, placed_length used new old f))
      (ap (λ (n : ℕ). take n left) a ∙ ap (take (used + length new)) b ∙ placed_front used new old f
      ∙ ap (λ (x : Text). x ++ new) p ∙ ap (λ (x : Text). image l ++ x) (sym g.0) ∙ sym (image_more l t))
  more_put new e a b (full i p) =
      let g : (framed t ≡ new) × (length t ≤ text_limit) × (length t + 2 ≤ length old - used) = record_given (length old - used) t new e in
      absurd (omega (arith, g.2, i))

  too_long : (k : ℕ) → record_in (length old - used) t ≡ refused k → length old < used + (2 + length t)
  too_long k e = go (leb (length t) text_limit) refl
    where
      go : (x : Bool) → leb (length t) text_limit ≡ x → length old < used + (2 + length t)
      go true q = omega (arith, record_refused (length old - used) t k e (leb-true (length t) text_limit q))
      go false q = omega (arith, leb-false (length t) text_limit q)

  -- a text that there is no room for
  pub more_full : length old < used + (2 + length t) → r ≡ length old → left ≡ old → Packs l old used → Packs (l ++ t ∷ []) left r
  more_full f a b (whole i p) = full (a ∙ ap length (sym b)) (omega (arith, f, ap length b, long_more l t, whole_length l old used i p))
  more_full f a b (full i p) = full (a ∙ ap length (sym b)) (omega (arith, p, ap length b, long_more l t))

  pub appends_more : Appends t used old left r → Packs l old used → Packs (l ++ t ∷ []) left r
  appends_more = go (record_in (length old - used) t) refl
    where
      go : (o : Outcome Text) → record_in (length old - used) t ≡ o → Adds o used old left r → Packs l old used → Packs (l ++ t ∷ []) left r
      go (done new) e a = more_put new e a.0 a.1
      go (refused k) e a = more_full (too_long k e) a.0 a.1
      go (demands m) e a = absurd (record_quiet (length old - used) t m e)

  -- what is counted lies in the buffer
  pub appends_within : Appends t used old left r → r ≤ length left
  appends_within = go (record_in (length old - used) t) refl
    where
      go : (o : Outcome Text) → record_in (length old - used) t ≡ o → Adds o used old left r → r ≤ length left
      go (refused k) e a = omega (arith, a.0, ap length a.1)
      go (demands m) e a = omega (arith, a.0, ap length a.1)
      go (done new) e a =
          let g : (framed t ≡ new) × (length t ≤ text_limit) × (length t + 2 ≤ length old - used) = record_given (length old - used) t new e in
          let k : length (framed t) ≡ length new = ap length g.0 in
          omega (arith, a.0, ap length a.1, placed_length used new old (omega (arith, k, g.2)))

-- AN ARGUMENT

-- one that is longer than any that has room, of whatever bytes, the first of which is no hyphen, is a parameter
long_word : (o : Bool) (n : ℕ) → word_in o (1 ∷ replicate n 1) ≡ Parameter
long_word true n = refl
long_word false n = refl

module _ {h : Heard} {old : Text} (e : image_limit + 1 ≡ length old) where
  -- one that was fetched, by what it is
  heard_as_lem : (w : Word) (t left : Text) (r : Heard) → HearsAs w t h old left r → (g : Hearing) → Holds g old h → Holds (heard_as g w t) left r
  heard_as_lem Shout t left r a g k = rw (a.0, a.1) (record { shouts = refl; options = refl; known = k.known; packs = k.packs; within = k.within })
  heard_as_lem End t left r a g k = rw (a.0, a.1) (record { shouts = k.shouts; options = refl; known = k.known; packs = k.packs; within = k.within })
  heard_as_lem Unknown t left r a g k = rw (a.0, a.1) (record { shouts = k.shouts; options = refl; known = refl; packs = k.packs; within = k.within })
  heard_as_lem Parameter t left r a g k = record {
    shouts = ap (λ (x : Heard). x.shouts) a.1 ∙ k.shouts;
    options = ap (λ (x : Heard). x.options) a.1;
    known = ap (λ (x : Heard). x.known) a.1 ∙ k.known;
    packs = appends_more t h.used old left r.used g.params k.within (omega (arith, e)) a.0 k.packs;
    within = appends_within t h.used old left r.used g.params k.within (omega (arith, e)) a.0;
  }

  pub grows_fetched : (t left : Text) (r : Heard) → Hears t h old left r → Grows old h left r
  grows_fetched t left r a = record {
    text = t;
    holds = λ g k.
        subst (λ (o : Bool). Holds (heard_as g (word_in o t) t) left r) k.options (heard_as_lem (word_in h.options t) t left r a g k);
  }

  pub grows_long : Grows old h old (record { used = length old; shouts = h.shouts; options = false; known = h.known })
  grows_long =
      let t : Text = 1 ∷ replicate (length old) 1 in
      record {
        text = t;
        holds = λ g k.
            rw (long_word g.options (length old)) (record {
              shouts = k.shouts;
              options = refl;
              known = k.known;
              packs = more_full t h.used old old (length old) g.params k.within (omega (arith, e))
                  (omega (arith, length-replicate {A = ℕ} (length old) 1)) refl refl k.packs;
              within = omega arith;
            });
      }

-- ALL ARGUMENTS

-- what is heard last comes behind what was heard before
heard_last : (g : Hearing) (ts : List Text) (t : Text) → heard_all g (ts ++ t ∷ []) ≡ heard (heard_all g ts) t
heard_last g [] t = refl
heard_last g (u ∷ ts) t = heard_last (heard g u) ts t

-- on the way: those before a number are heard
pub record Packing (first count : ℕ) (image : Text) (h : Heard) (number : ℕ) : Type 0 where
  pub gathers : Gathers image h
  pub counts : number ≡ length gathers.arguments + first
  pub most : number ≤ count - first + first
  pub room : image_limit + 1 ≡ length image

-- the version byte alone is the image of no arguments
pub packing_starts : (old : Text) (first count : ℕ) → image_limit + 1 ≡ length old
    → Packing first count (set old 0 1) (record { used = 1; shouts = false; options = true; known = true }) first
packing_starts old first count e =
    let k : length (set old 0 1) ≡ length old = length-set old 0 1 in
    record {
      gathers = record {
        arguments = [];
        holds = record {
          shouts = refl;
          options = refl;
          known = refl;
          packs = whole (omega (arith, k, e)) (ap (take 1) (version_first old (omega (arith, e))) ∙ front);
          within = omega (arith, k, e);
        };
      };
      counts = omega arith;
      most = omega arith;
      room = e ∙ sym k;
    }
  where
    front : take 1 (over (image []) old) ≡ image []
    front = unfold image written in over_front (1 ∷ []) old

module _ {first count : ℕ} {image : Text} {h : Heard} {number : ℕ} (p : Packing first count image h number) where
  pub packing_more : {image' : Text} {h' : Heard} → number < count → Grows image h image' h' → length image' ≡ length image
      → Packing first count image' h' (number + 1)
  packing_more {image'} {h'} l g e = record {
    gathers = record {
      arguments = p.gathers.arguments ++ g.text ∷ [];
      holds = subst (λ (x : Hearing). Holds x image' h') (sym (heard_last silent p.gathers.arguments g.text))
          (g.holds (heard_all silent p.gathers.arguments) p.gathers.holds);
    };
    counts = omega (arith, p.counts, length-append p.gathers.arguments (g.text ∷ []));
    most = omega (arith, l, p.counts);
    room = p.room ∙ sym e;
  }

  pub packing_ends : count ≤ number → GathersAll first count image h
  packing_ends l = record { gathers = p.gathers; all = omega (arith, l, p.counts, p.most) }
