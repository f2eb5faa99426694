-- The walk to the place of a key: the records passed are below it, and what is left of the image is the records ahead.
use Prim.Native.Nat.{ℕ, ◌+◌, ◌≤◌, ◌<◌}
use native.Mathlib.Omega.{arith}
use mathlib.Core.Path.{◌≡◌, refl, sym, ap, ◌∙◌}
use mathlib.Core.Bool.{true, false}
use mathlib.Core.List.{[], ◌∷◌, ◌++◌, append_assoc, append-nil}
use mathlib.Core.Option.{Option, none, some}
use lib.ListN.{length, take, drop, length-drop}
use lib.Seq.{take_at, take-add, length-take-le}
use Rattle.stages.specs.Bytes.{Text, part, eq_text, lt_text}
use Rattle.stages.specs.Images.{Pairs, keys, rising, lookup, framed, written, flat, image, record_bytes, held, texts}
use Rattle.stages.proofs.Texts.{eq_text_same, lt_text_asym}
use Rattle.stages.proofs.Images.{Bytes, image_canonical, pairs_of_some, length_image, length_written, written_append, flat_append}
use Rattle.stages.proofs.Stores.{lookup_here, lookup_later, lookup_under, rising_tail}
use Rattle.text.specs.Orders.{order_of}
use Rattle.std.specs.declared.cmp.Ordering.TheVariants.{Less, Equal, Greater}
use Rattle.text.proofs.Orders.{order_below, order_equal, order_above, above_not_equal}
use Rattle.table.specs.Pieces.{size_at}
use Rattle.table.specs.Places.{Table, before, behind, place_of, spot_by, spot_in, Hole, known, fresh, Placed}
use Rattle.std.specs.Prelude.{Ok, Err}
use Rattle.table.specs.declared.Record.{Record}
use Rattle.table_find.proofs.Frames.{Frame, frame}
use Rattle.table.proofs.Splits.{before_more, before_stop, behind_more, behind_known, behind_fresh, equal_not_above}

pub record Walking (t key : Text) (at : ℕ) : Type 0 where
  pub passed : Pairs
  pub rest : Pairs
  pub within : at ≤ length t
  pub front : take at t ≡ image (flat passed)
  pub ahead : drop at t ≡ written (flat rest)
  pub below : before key (held t) ≡ passed ++ before key rest
  pub above : behind key (held t) ≡ behind key rest
  pub gets : lookup key (held t) ≡ lookup key rest
  pub rises : rising (keys rest) ≡ true

pub starts : (t key : Text) → Table t → Bytes t → Walking t key 1
unfolding image written
starts t key w h =
    let e : t ≡ image (flat (held t)) = image_canonical t (flat (held t)) h (pairs_of_some (texts t) (held t) w.pairs) in
    record {
      passed = [];
      rest = held t;
      within = omega (arith, ap length e);
      front = ap (take 1) e;
      ahead = ap (drop 1) e;
      below = refl;
      above = refl;
      gets = refl;
      rises = w.rises;
    }

-- the record ahead: its name, and behind it its value
record First (t : Text) (at : ℕ) (rest : Pairs) : Type 0 where
  front : Text × Text
  more : Pairs
  is : rest ≡ front ∷ more
  name : Frame t at front.0 (framed front.1 ++ written (flat more))
  value : Frame t (at + 2 + length front.0) front.1 (written (flat more))

first : (t : Text) (at : ℕ) (rest : Pairs) → drop at t ≡ written (flat rest) → at < length t → First t at rest
unfolding written
first t at [] e h = absurd (omega (arith, length-drop at t, ap length e))
first t at (r ∷ v) e h =
    let n : Frame t at r.0 (framed r.1 ++ written (flat v)) = frame t at r.0 (framed r.1 ++ written (flat v)) e in
    record { front = r; more = v; is = refl; name = n; value = frame t (at + 2 + length r.0) r.1 (written (flat v)) n.next }

one_record : (r : Text × Text) → record_bytes (flat (r ∷ [])) ≡ 2 + length r.0 + (2 + length r.1)
unfolding record_bytes
one_record r = omega arith

image_more : (v : Pairs) (r : Text × Text) → image (flat v) ++ written (flat (r ∷ [])) ≡ image (flat (v ++ (r ∷ [])))
unfolding image
image_more v r = ap (λ (u : Text). 1 ∷ u) (sym (written_append (flat v) (flat (r ∷ []))) ∙ ap written (sym (flat_append v (r ∷ []))))

nothing : (v : Pairs) → length (written (flat v)) ≡ 0 → v ≡ []
unfolding written
nothing [] e = refl
nothing (r ∷ v) e = absurd (omega arith)

spot_is : (t key : Text) (at : ℕ) (o : Option Text) → place_of key (held t) ≡ at → lookup key (held t) ≡ o → spot_by key at o ≡ spot_in t key
unfolding spot_in
spot_is t key at o p e = sym (ap (λ (n : ℕ). spot_by key n (lookup key (held t))) p ∙ ap (spot_by key at) e)

module _ (t key : Text) (at : ℕ) (s : Walking t key at) where
  -- where the records below the key end

  all_passed : before key s.rest ≡ [] → before key (held t) ≡ s.passed
  all_passed b = s.below ∙ rw (b, append-nil)

  place : before key s.rest ≡ [] → place_of key (held t) ≡ at
  unfolding place_of
  place b = rw (all_passed b) (sym (length_image (flat s.passed)) ∙ sym (ap length s.front) ∙ length-take-le at t s.within)

  hole : (end : ℕ) → before key s.rest ≡ [] → at ≤ end → end ≤ length t → drop end t ≡ written (flat (behind key s.rest)) →
      Hole t key at end
  hole end b l h d = record {
    low = l;
    high = h;
    front = rw (all_passed b) s.front;
    back = rw s.above d;
  }

  new : before key s.rest ≡ [] → behind key s.rest ≡ s.rest → lookup key s.rest ≡ none → Placed t key (Err at)
  unfolding spot_by
  new b a n = record {
    is = spot_is t key at none (place b) (s.gets ∙ n);
    rooms = fresh (hole at b (omega arith) s.within (rw a s.ahead)) (s.gets ∙ n);
  }

  pub place_end : length t ≤ at → Placed t key (Err at)
  unfolding before behind lookup
  place_end h =
      let e : s.rest ≡ [] = nothing s.rest (sym (ap length s.ahead) ∙ length-drop at t ∙ omega arith) in
      new (rw e) (rw e) (rw e)

  module _ (h : at < length t) where
    f : First t at s.rest
    f = first t at s.rest s.ahead h

    rising_ahead : rising (keys (f.front ∷ f.more)) ≡ true
    rising_ahead = ap (λ (v : Pairs). rising (keys v)) (sym f.is) ∙ s.rises

    module _ (n : ℕ) (en : n ≡ size_at t at) where
      name_size : n ≡ length f.front.0
      name_size = en ∙ f.name.size

      name_is : part t (at + 2) (at + 2 + n) ≡ f.front.0
      name_is = ap (λ (x : ℕ). part t (at + 2) (at + 2 + x)) name_size ∙ f.name.is

      pub name_fits : at + 2 + n + 2 ≤ length t
      name_fits = omega (arith, name_size, f.value.fits)

      module _ (m : ℕ) (em : m ≡ size_at t (at + 2 + n)) where
        value_size : m ≡ length f.front.1
        value_size = em ∙ ap (λ (x : ℕ). size_at t (at + 2 + x)) name_size ∙ f.value.size

        pub record_fits : at + 2 + n + 2 + m ≤ length t
        record_fits = omega (arith, name_size, value_size, f.value.fits)

        value_is : part t (at + 2 + n + 2) (at + 2 + n + 2 + m) ≡ f.front.1
        value_is = ap (λ (x : ℕ). part t (at + 2 + x + 2) (at + 2 + x + 2 + m)) name_size ∙ ap
            (λ (x : ℕ). part t (at + 2 + length f.front.0 + 2) (at + 2 + length f.front.0 + 2 + x)) value_size ∙ f.value.is

        left : drop (at + 2 + n + 2 + m) t ≡ written (flat f.more)
        left = ap (λ (x : ℕ). drop (at + 2 + x + 2 + m) t) name_size ∙ ap (λ (x : ℕ). drop (at + 2 + length f.front.0 + 2 + x) t)
            value_size ∙ f.value.next

        pub place_less : order_of key (part t (at + 2) (at + 2 + n)) ≡ Less → Placed t key (Err at)
        place_less o =
            let e : lt_text key f.front.0 ≡ true = order_below key f.front.0 (rw name_is at o) in
            new (ap (before key) f.is ∙ before_stop key f.front f.more (lt_text_asym key f.front.0 e))
            (ap (behind key) f.is ∙ behind_fresh key f.front f.more e ∙ sym f.is)
            (ap (lookup key) f.is ∙ lookup_under key (f.front ∷ f.more) e rising_ahead)

        module _ (o : order_of key (part t (at + 2) (at + 2 + n)) ≡ Equal) where
          equal : eq_text key f.front.0 ≡ true
          equal = order_equal key f.front.0 (rw name_is at o)

          none_before : before key s.rest ≡ []
          none_before = ap (before key) f.is ∙ before_stop key f.front f.more (equal_not_above key f.front.0 equal)

          there : lookup key (held t) ≡ some f.front.1
          there = s.gets ∙ ap (lookup key) f.is ∙ lookup_here key f.front f.more equal

          abbrev here : Record
          here = record { at = at; mid = at + 2 + n; end = at + 2 + n + 2 + m }

          spot : Ok here ≡ spot_in t key
          unfolding spot_by
          spot =
              let k : length key ≡ n = ap length (eq_text_same key f.front.0 equal) ∙ sym name_size in
              let mid : at + 2 + n ≡ at + 2 + length key = omega (arith, k) in
              let end : at + 2 + n + 2 + m ≡ at + 4 + length key + length f.front.1 = omega (arith, value_size, k) in
              ap (λ (x : ℕ). Ok (record { at = at; mid = x; end = at + 2 + n + 2 + m })) mid
              ∙ ap (λ (x : ℕ). Ok (record { at = at; mid = at + 2 + length key; end = x })) end
              ∙ spot_is t key at (some f.front.1) (place none_before) there

          pub place_same : Placed t key (Ok here)
          place_same = record {
            is = spot;
            rooms =
                known {p = here}
                (hole (at + 2 + n + 2 + m) none_before (omega arith) record_fits
                (left ∙ sym (ap (λ (v : Pairs). written (flat v)) (ap (behind key) f.is ∙ behind_known key f.front f.more equal))))
                (record { low = omega arith; high = record_fits; gets = there ∙ ap some (sym value_is) });
          }

        passes : take (at + 2 + n + 2 + m) t ≡ image (flat (s.passed ++ (f.front ∷ [])))
        passes =
            let z : at + 2 + n + 2 + m ≡ at + record_bytes (flat (f.front ∷ [])) = omega (arith, name_size, value_size, one_record f.front) in
            ap (λ (x : ℕ). take x t) z
            ∙ take-add at (record_bytes (flat (f.front ∷ []))) t
            ∙ ap (λ (u : Text). u ++ take (record_bytes (flat (f.front ∷ []))) (drop at t)) s.front
            ∙ ap (λ (u : Text). image (flat s.passed) ++ u)
            (ap (take (record_bytes (flat (f.front ∷ []))))
            (s.ahead ∙ ap (λ (v : Pairs). written (flat v)) f.is ∙ written_append (flat (f.front ∷ [])) (flat f.more))
            ∙ take_at (written (flat (f.front ∷ []))) (written (flat f.more)) (record_bytes (flat (f.front ∷ [])))
            (length_written (flat (f.front ∷ []))))
            ∙ image_more s.passed f.front

        pub place_more : order_of key (part t (at + 2) (at + 2 + n)) ≡ Greater → Walking t key (at + 2 + n + 2 + m)
        place_more o =
            let e : lt_text f.front.0 key ≡ true = order_above key f.front.0 (rw name_is at o) in
            let q : eq_text key f.front.0 ≡ false = above_not_equal key f.front.0 (rw name_is at o) in
            record {
              passed = s.passed ++ (f.front ∷ []);
              rest = f.more;
              within = record_fits;
              front = passes;
              ahead = left;
              below = s.below ∙ ap (λ (v : Pairs). s.passed ++ before key v) f.is ∙ ap (λ (v : Pairs). s.passed ++ v)
                  (before_more key f.front f.more e) ∙ sym (append_assoc s.passed (f.front ∷ []) (before key f.more));
              above = s.above ∙ ap (behind key) f.is ∙ behind_more key f.front f.more e;
              gets = s.gets ∙ ap (lookup key) f.is ∙ lookup_later key f.front f.more q;
              rises = rising_tail f.front.0 (keys f.more) rising_ahead;
            }
