-- The walk over a table's records, one for the four kinds: what is still to be tested of the texts ahead says the same as the stage.
use Prim.Native.Nat.{ℕ, zero, suc, ◌+◌, ◌≤◌, ◌<◌}
use native.Mathlib.Omega.{arith}
use mathlib.Core.Path.{◌≡◌, refl, sym, ◌∙◌}
use mathlib.Core.Bool.{Bool, true, false, ◌&&◌, and-false}
use mathlib.Core.List.{List, [], ◌∷◌}
use mathlib.Core.Option.{Option, none, some}
use mathlib.Core.Logic.{◌⊎◌, inl, inr, ⊎_elim}
use lib.ListN.{length, drop, get_or}
use borrow.Author.Tests.{le-leb, lt-leb, ne_eqb}
use Rattle.stages.specs.Numbers.{image_limit, paths_limit}
use Rattle.stages.specs.Bytes.{Text, part, all, not_zero, is_letter, is_digit, is_name_start, is_name_byte, is_login_byte, lt_text}
use Rattle.stages.specs.Images.{
  Pairs,
  is_name,
  is_login,
  is_some,
  variables_of,
  homes_of,
  paths_of,
  fields_of,
  texts_in,
  texts,
  pairs,
  pairs_of,
  keys,
  all_texts,
  rising,
  pairs_checked,
  paths_checked,
  not_empty,
  sized,
  push,
}
use Rattle.stages.proofs.Bools.{no, either, and_left}
use Rattle.stages.proofs.Texts.{all_weaker}
use Rattle.stages.proofs.Stores.{name_fine}
use Rattle.stages.proofs.Images.{texts_nil}
use Rattle.stages.proofs.Tables.{sized_fits}
use Rattle.table.specs.Kinds.{well_formed, limit_of, in_twos, key_fits, key_at, record_end}
use Rattle.std.specs.Prelude.{Some, None, Ok, Err}
use Rattle.table.specs.Pieces.{Piece, malformed, piece_at, frame_at}
use Rattle.table.specs.declared.Kind.{Kind}
use Rattle.table.specs.declared.Kind.TheVariants.{Variables, Homes, Paths, Fields}
use Rattle.table.proofs.Pieces.{Stands, is_end_lem, is_bad, is_text}
use Rattle.table.proofs.Pieces.{Framed, is_end_framed, is_bad_framed, is_framed, framed_whole, framed_zero}

-- what is still to be tested of the texts ahead, p being the key before them
abbrev in_pairs : (Text → Text → Bool) → Text → List Text → Bool
in_pairs f p [] = true
in_pairs f p (a ∷ []) = false
in_pairs f p (a ∷ b ∷ l) = f p a && in_pairs f a l

abbrev in_ones : (Text → Text → Bool) → Text → List Text → Bool
in_ones f p [] = true
in_ones f p (a ∷ l) = f p a && in_ones f a l

abbrev goes : Bool → (Text → Text → Bool) → Text → List Text → Bool
goes true f p l = in_pairs f p l
goes false f p l = in_ones f p l

abbrev fine_with : Bool → (Text → Text → Bool) → Text → Option (List Text) → Bool
fine_with w f p none = false
fine_with w f p (some l) = goes w f p l

abbrev pub fine : Kind → Text → Option (List Text) → Bool
fine k p o = fine_with (in_twos k) (key_fits k) p o

-- one step of it
fails : (w : Bool) (f : Text → Text → Bool) (p a : Text) (o : Option (List Text)) → f p a ≡ false → fine_with w f p (push a o) ≡ false
fails w f p a none e = refl
fails false f p a (some l) e = rw e
fails true f p a (some []) e = refl
fails true f p a (some (b ∷ l)) e = rw e

takes_one : (f : Text → Text → Bool) (p a : Text) (o : Option (List Text)) → f p a ≡ true → fine_with false f p (push a o) ≡ fine_with false f a o
takes_one f p a none e = refl
takes_one f p a (some l) e = rw e

takes_two : (f : Text → Text → Bool) (p a b : Text) (o : Option (List Text)) → f p a ≡ true → fine_with true f p (push a (push b o)) ≡
    fine_with true f a o
takes_two f p a b none e = refl
takes_two f p a b (some l) e = rw e

-- the walk and the stage say the same
abbrev rising_from : Text → List Text → Bool
rising_from p [] = true
rising_from p (a ∷ l) = lt_text p a && rising_from a l

rising_from_lem : (p : Text) (l : List Text) → rising_from p l ≡ rising (p ∷ l)
unfolding rising
rising_from_lem p [] = refl
rising_from_lem p (a ∷ l) = rw (rising_from_lem a l)

abbrev ordered_after : (Text → Bool) → Text → Option Pairs → Bool
ordered_after f p none = false
ordered_after f p (some v) = all_texts f (keys v) && rising_from p (keys v)

four : (x y u w : Bool) → ((x && u) && (y && w)) ≡ ((x && y) && (u && w))
four false y u w = refl
four true true u w = refl
four true false true w = refl
four true false false w = refl

abbrev keyed : (Text → Bool) → Text → Text → Bool
keyed f p k = f k && lt_text p k

in_pairs_lem : (f : Text → Bool) (p : Text) (l : List Text) → in_pairs (keyed f) p l ≡ ordered_after f p (pairs l)
unfolding pairs
in_pairs_lem f p [] = refl
in_pairs_lem f p (a ∷ []) = refl
in_pairs_lem f p (a ∷ b ∷ l) = rw (in_pairs_lem f a l) (go (pairs l))
  where
    go : (o : Option Pairs) → ((f a && lt_text p a) && ordered_after f a o) ≡ ordered_after f p (push (a, b) o)
    go none = and-false (f a && lt_text p a)
    go (some v) = four (f a) (all_texts f (keys v)) (lt_text p a) (rising_from a (keys v))

first_key : (f : Text → Bool) → f [] ≡ false → (l : List Text) → (all_texts f l && rising_from [] l) ≡ (all_texts f l && rising l)
unfolding rising
first_key f e [] = refl
first_key f e ([] ∷ l) = rw e
first_key f e ((c ∷ u) ∷ l) = rw (rising_from_lem (c ∷ u) l)

is_checked : (f : Text → Bool) → f [] ≡ false → (o : Option Pairs) → ordered_after f [] o ≡ is_some (pairs_checked f o)
unfolding pairs_checked
is_checked f e none = refl
is_checked f e (some v) = first_key f e (keys v) ∙ go (all_texts f (keys v) && rising (keys v)) refl
  where
    go : (x : Bool) → (all_texts f (keys v) && rising (keys v)) ≡ x → (all_texts f (keys v) && rising (keys v)) ≡ is_some (pairs_checked f (some v))
    go true q = rw (q, pairs_checked)
    go false q = rw (q, pairs_checked)

pairs_fine : (f : Text → Bool) → f [] ≡ false → (o : Option (List Text)) → is_some (pairs_checked f (pairs_of o)) ≡ fine_with true (keyed f) [] o
unfolding pairs_of pairs_checked
pairs_fine f e none = refl
pairs_fine f e (some l) = sym (is_checked f e (pairs l)) ∙ sym (in_pairs_lem f [] l)

above : (a b : Text) → lt_text a b ≡ true → not_empty b ≡ true
above a (c ∷ b) e = refl
above [] [] e = e
above (c ∷ a) [] e = e

ones : (p : Text) (l : List Text) → in_ones lt_text p l ≡ (all_texts not_empty l && rising (p ∷ l))
unfolding rising
ones p [] = refl
ones p (a ∷ l) = rw (ones a l) (go (lt_text p a) refl)
  where
    go : (x : Bool) → lt_text p a ≡ x → (lt_text p a && (all_texts not_empty l && rising (a ∷ l))) ≡
        ((not_empty a && all_texts not_empty l) && (lt_text p a && rising (a ∷ l)))
    go true q = rw (q, above p a q)
    go false q = rw q (sym (and-false (not_empty a && all_texts not_empty l)))

first_path : (l : List Text) → (all_texts not_empty l && rising ([] ∷ l)) ≡ (all_texts not_empty l && rising l)
unfolding rising
first_path [] = refl
first_path ([] ∷ l) = refl
first_path ((c ∷ u) ∷ l) = refl

paths_fine : (o : Option (List Text)) → is_some (paths_checked o) ≡ fine_with false lt_text [] o
unfolding paths_checked
paths_fine none = refl
paths_fine (some l) = sym (ones [] l ∙ first_path l ∙ go (all_texts not_empty l && rising l) refl)
  where
    go : (x : Bool) → (all_texts not_empty l && rising l) ≡ x → (all_texts not_empty l && rising l) ≡ is_some (paths_checked (some l))
    go true q = rw (q, paths_checked)
    go false q = rw (q, paths_checked)

fields_fine : (p : Text) (o : Option (List Text)) → is_some o ≡ fine_with false (λ a b. true) p o
fields_fine p none = refl
fields_fine p (some l) = go p l
  where
    go : (p : Text) (l : List Text) → true ≡ in_ones (λ a b. true) p l
    go p [] = refl
    go p (a ∷ l) = go a l

sized_over : {A : Type 0} (n : ℕ) (t : Text) (r : Option A) → n < length t → sized n t r ≡ none
unfolding sized
sized_over n t r h = rw (lt-leb (length t) n h, sized)

pub too_long : (k : Kind) (t : Text) → limit_of k < length t → false ≡ well_formed k t
unfolding variables_of homes_of paths_of fields_of
too_long Variables t h = rw (sized_over image_limit t _ h)
too_long Homes t h = rw (sized_over image_limit t _ h)
too_long Paths t h = rw (sized_over paths_limit t _ h)
too_long Fields t h = rw (sized_over image_limit t _ h)

-- a table that is not too long is judged by its texts
abbrev judge : Kind → Option (List Text) → Bool
judge Variables o = is_some (pairs_checked is_name (pairs_of o))
judge Homes o = is_some (pairs_checked is_login (pairs_of o))
judge Paths o = is_some (paths_checked o)
judge Fields o = is_some o

judged : (k : Kind) (t : Text) → length t ≤ limit_of k → well_formed k t ≡ judge k (texts t)
unfolding variables_of homes_of paths_of fields_of
judged Variables t h = rw (sized_fits image_limit t (pairs_checked is_name (pairs_of (texts t))) h)
judged Homes t h = rw (sized_fits image_limit t (pairs_checked is_login (pairs_of (texts t))) h)
judged Paths t h = rw (sized_fits paths_limit t (paths_checked (texts t)) h)
judged Fields t h = rw (sized_fits image_limit t (texts t) h)

judge_none : (k : Kind) → judge k none ≡ false
unfolding pairs_checked pairs_of paths_checked
judge_none Variables = refl
judge_none Homes = refl
judge_none Paths = refl
judge_none Fields = refl

judge_fine : (k : Kind) (o : Option (List Text)) → judge k o ≡ fine k [] o
unfolding is_name is_login
judge_fine Variables o = pairs_fine is_name refl o
judge_fine Homes o = pairs_fine is_login refl o
judge_fine Paths o = paths_fine o
judge_fine Fields o = fields_fine [] o

pub empty : (k : Kind) (t : Text) → length t ≤ limit_of k → length t ≡ 0 → false ≡ well_formed k t
unfolding texts
empty k [] h e = sym (judged k [] h ∙ judge_none k)
empty k (a ∷ t) h e = absurd (omega arith)

pub other_version : (k : Kind) (t : Text) → length t ≤ limit_of k → (get_or t 0 0 ≡ 1 → ⊥) → false ≡ well_formed k t
unfolding texts
other_version k [] h e = sym (judged k [] h ∙ judge_none k)
other_version k (a ∷ t) h e = sym (judged k (a ∷ t) h ∙ rw (ne_eqb a 1 e, texts) (judge_none k))

clash_end : {n : ℕ} → ◌≡◌ {A = Piece} (Ok (Some n)) (Ok None) → ⊥
clash_end e = cc

clash_bad : {n : ℕ} → ◌≡◌ {A = Piece} (Ok (Some n)) (Err malformed) → ⊥
clash_bad e = cc

same_at : {m n : ℕ} → ◌≡◌ {A = Piece} (Ok (Some m)) (Ok (Some n)) → m ≡ n
same_at e = cc

-- the loop's state: the last key stands from `from` to `to`, the next record at `at`
pub record Going (k : Kind) (t : Text) (at from to : ℕ) : Type 0 where
  pub within : at ≤ length t
  pub ordered_texts : from ≤ to
  pub kept : to ≤ length t
  pub same : well_formed k t ≡ fine k (part t from to) (texts_in (drop at t))

pub begins : (k : Kind) (t : Text) → length t ≤ limit_of k → (length t ≡ 0 → ⊥) → get_or t 0 0 ≡ 1 → Going k t 1 0 0
unfolding texts
begins k [] h n e = absurd (n refl)
begins k (a ∷ t) h n e = record {
  within = omega arith;
  ordered_texts = omega arith;
  kept = omega arith;
  same = judged k (a ∷ t) h ∙ rw (e, texts) (judge_fine k (texts_in t));
}

module _ {k : Kind} {t : Text} {at from to : ℕ} (g : Going k t at from to) where
  at_end : drop at t ≡ [] → true ≡ well_formed k t
  at_end e = sym (g.same ∙ rw (e, texts_nil) (go (in_twos k)))
    where
      go : (w : Bool) → goes w (key_fits k) (part t from to) [] ≡ true
      go true = refl
      go false = refl

  at_bad : texts_in (drop at t) ≡ none → false ≡ well_formed k t
  at_bad e = sym (g.same ∙ rw e)

  bad_key : {end : ℕ} → Stands t at end → key_fits k (part t from to) (part t (at + 2) end) ≡ false → false ≡ well_formed k t
  bad_key {end} s e = sym (g.same ∙ rw s.reads (fails (in_twos k) (key_fits k) _ _ (texts_in (drop end t)) e))

-- a key at a place, where zero bytes may not have been looked for: one that may stand there is a text
pub record Key (k : Kind) (t : Text) (at end : ℕ) : Type 0 where
  pub low : at + 2 ≤ end
  pub high : end ≤ length t
  pub fitting : (p : Text) → key_fits k p (part t (at + 2) end) ≡ true → Stands t at end
  pub failing : Stands t at end ⊎ (texts_in (drop at t) ≡ none)

login_byte_fine : (b : ℕ) → is_login_byte b ≡ true → not_zero b ≡ true
unfolding is_login_byte is_name_byte is_name_start is_letter is_digit
login_byte_fine zero e = absurd (no e)
login_byte_fine (suc b) e = le-leb 1 (suc b) (omega arith)

login_fine : (t : Text) → is_login t ≡ true → all not_zero t ≡ true
unfolding is_login
login_fine [] e = absurd (no e)
login_fine (b ∷ t) e = all_weaker is_login_byte not_zero login_byte_fine (b ∷ t) e

key_fine : (k : Kind) (p key : Text) → in_twos k ≡ true → key_fits k p key ≡ true → all not_zero key ≡ true
key_fine Variables p key w e = name_fine key (and_left (is_name key) (lt_text p key) e)
key_fine Homes p key w e = login_fine key (and_left (is_login key) (lt_text p key) e)
key_fine Paths p key w e = absurd (no w)
key_fine Fields p key w e = absurd (no w)

module _ (k : Kind) (t : Text) (at : ℕ) {r : Piece} (s : r ≡ key_at k t at) where
  two_key : in_twos k ≡ true → r ≡ frame_at t at
  two_key w = s ∙ rw w

  one_key : in_twos k ≡ false → r ≡ piece_at t at
  one_key w = s ∙ rw w

  key_end : r ≡ Ok None → drop at t ≡ []
  key_end e = either (in_twos k) (λ w. is_end_framed t at (two_key w) e) (λ w. is_end_lem t at (one_key w) e)

  key_bad : r ≡ Err malformed → texts_in (drop at t) ≡ none
  key_bad e = either (in_twos k) (λ w. is_bad_framed t at (two_key w) e) (λ w. is_bad t at (one_key w) e)

  pub key_text : {end : ℕ} → r ≡ Ok (Some end) → Key k t at end
  key_text {end} e = either (in_twos k) (λ w. framed w (is_framed t at (two_key w) e)) (λ w. whole (is_text t at (one_key w) e))
    where
      framed : in_twos k ≡ true → Framed t at end → Key k t at end
      framed w f = record {
        low = f.low;
        high = f.high;
        fitting = λ p q. framed_whole f (key_fine k p (part t (at + 2) end) w q);
        failing = either (all not_zero (part t (at + 2) end)) (λ z. inl (framed_whole f z)) (λ z. inr (framed_zero f z));
      }

      whole : Stands t at end → Key k t at end
      whole z = record { low = z.low; high = z.high; fitting = λ p q. z; failing = inl z }

module _ {k : Kind} {t : Text} {at from to : ℕ} (g : Going k t at from to) where
  pub no_key : {r : Piece} → r ≡ key_at k t at → r ≡ Ok None → true ≡ well_formed k t
  no_key s e = at_end g (key_end k t at s e)

  pub broken_key : {r : Piece} → r ≡ key_at k t at → r ≡ Err malformed → false ≡ well_formed k t
  broken_key s e = at_bad g (key_bad k t at s e)

  pub key_fails : {end : ℕ} → Key k t at end → key_fits k (part t from to) (part t (at + 2) end) ≡ false → false ≡ well_formed k t
  key_fails f e = ⊎_elim (λ z. bad_key g z e) (λ z. at_bad g z) f.failing

-- a record whose key may stand after the last one
pub record Keyed (k : Kind) (t : Text) (at from to end : ℕ) : Type 0 where
  pub going : Going k t at from to
  pub stands : Stands t at end
  pub fits : key_fits k (part t from to) (part t (at + 2) end) ≡ true

module _ {k : Kind} {t : Text} {at from to end : ℕ} (g : Keyed k t at from to end) where
  half_end : in_twos k ≡ true → drop end t ≡ [] → false ≡ well_formed k t
  half_end w q = sym (g.going.same ∙ rw (g.stands.reads, q, texts_nil, w))

  half_bad : texts_in (drop end t) ≡ none → false ≡ well_formed k t
  half_bad q = sym (g.going.same ∙ rw (g.stands.reads, q))

  next_one : in_twos k ≡ false → Going k t end (at + 2) end
  next_one w = record {
    within = g.stands.high;
    ordered_texts = g.stands.low;
    kept = g.stands.high;
    same = g.going.same ∙ rw (g.stands.reads, w) (takes_one (key_fits k) _ _ (texts_in (drop end t)) g.fits);
  }

  next_two : in_twos k ≡ true → {next : ℕ} → Stands t end next → Going k t next (at + 2) end
  next_two w {next} z = record {
    within = z.high;
    ordered_texts = g.stands.low;
    kept = g.stands.high;
    same = g.going.same ∙ rw (g.stands.reads, z.reads, w) (takes_two (key_fits k) _ _ _ (texts_in (drop next t)) g.fits);
  }

  -- the record's end: that of its second text, if it has two
  module _ {r : Piece} (p : r ≡ record_end k t end) where
    one_at : in_twos k ≡ false → r ≡ Ok (Some end)
    one_at w = p ∙ rw w

    two_at : in_twos k ≡ true → r ≡ piece_at t end
    two_at w = p ∙ rw w

    pub no_second : r ≡ Ok None → false ≡ well_formed k t
    no_second q = either (in_twos k) (λ w. half_end w (is_end_lem t end (two_at w) q)) (λ w. absurd (clash_end (sym (one_at w) ∙ q)))

    pub bad_second : r ≡ Err malformed → false ≡ well_formed k t
    bad_second q = either (in_twos k) (λ w. half_bad (is_bad t end (two_at w) q)) (λ w. absurd (clash_bad (sym (one_at w) ∙ q)))

    pub next_record : {next : ℕ} → r ≡ Ok (Some next) → Going k t next (at + 2) end
    next_record {next} q = either (in_twos k) (λ w. next_two w (is_text t end (two_at w) q)) (λ w. moved (same_at (sym (one_at w) ∙ q)) (next_one w))
      where
        moved : end ≡ next → Going k t end (at + 2) end → Going k t next (at + 2) end
        moved m g = rw (sym m) g

    pub record_on : {next : ℕ} → r ≡ Ok (Some next) → end ≤ next
    record_on {next} q = either (in_twos k) (λ w. omega (arith, (is_text t end (two_at w) q).low)) (λ w. omega (arith, same_at (sym (one_at w) ∙ q)))
