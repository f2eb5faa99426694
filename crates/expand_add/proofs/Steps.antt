-- A text's row is what its first part gives, and behind it the row of the others: one equation for each part.
use Prim.Native.Nat.{ℕ, ◌+◌, ◌≤◌}
use mathlib.Core.Path.{◌≡◌, refl, sym, ap, ◌∙◌}
use mathlib.Core.Bool.{Bool, true, false, ◌||◌}
use mathlib.Core.List.{[], ◌∷◌, ◌++◌, append_assoc}
use lib.ListN.{length}
use Rattle.stages.specs.Bytes.{Text}
use Rattle.stages.specs.Outcome.{Outcome, refused, demands, done, ◌>>=◌}
use Rattle.stages.specs.Images.{Pairs}
use Rattle.stages.specs.Syntax.{Escape, Form, Param, Counted, Spread, Parts, lit, quo, par, len, lst, ari, til}
use Rattle.stages.specs.Units.{Mark, Q, cell, Row, marked, bytes, expanded_mark, lit_mark, decimal}
use Rattle.stages.specs.Arith.{arithmetic_of}
use Rattle.stages.specs.Params.{Lent}
use Rattle.stages.specs.Expand.{Made, plainly, parameter, amount, list_row, of_none, in_quotes, directory, tilde_row, onto, adding, expand}
use Rattle.expand_add.specs.Steps.{beside, placed, quoted, summed, followed}
use Rattle.expand_add.specs.Added.{measured}
use Rattle.expand_add.proofs.Fitting.{by_fit}
use Rattle.stages.specs.Numbers.{row_limit}
use Rattle.stages.proofs.Rooms.{fit_ok}

pub onto_none : (o : Made) → o ≡ onto [] false o
onto_none (refused e) = refl
onto_none (demands t) = refl
onto_none (done r) = refl

or_or : (g h k : Bool) → (g || (h || k)) ≡ (g || h || k)
or_or true h k = refl
or_or false h k = refl

pub onto_onto : (r s : Row) (g h : Bool) (o : Made) → onto r g (onto s h o) ≡ onto (r ++ s) (g || h) o
onto_onto r s g h (refused e) = refl
onto_onto r s g h (demands t) = refl
onto_onto r s g h (done p) =
    ap (λ (t : Row). done (t, p.1, g || (h || p.2))) (sym (append_assoc r s p.0))
    ∙ ap (λ (k : Bool). done ((r ++ s) ++ p.0, p.1, k)) (or_or g h p.2)

module _ (a : Lent) (p : Parts) (m : Mark) (n : ℕ) where
  placed_followed : (made : Made) → (made >>= λ r. adding n r.0 r.2 λ i. expand a p m i r.1) ≡ followed a p m n (placed n made)
  unfolding followed placed
  placed_followed (refused e) = refl
  placed_followed (demands t) = refl
  placed_followed (done r) =
      by_fit
      (λ (o : Outcome ℕ). (o >>= λ i. onto r.0 r.2 (expand a p m i r.1)) ≡
      ((o >>= λ i. done r) >>= λ s. onto s.0 s.2 (expand a p m (n + length s.0) s.1)))
      n (length r.0) refl refl

  pub expand_lit : (q : Escape) (b : ℕ) (v : Pairs)
      → expand a (lit q b p) m n v ≡ followed a p m n (placed n (done (cell (lit_mark q m) b ∷ [], v, false)))
  unfolding expand
  expand_lit q b v = placed_followed (done (cell (lit_mark q m) b ∷ [], v, false))

  pub expand_par : (x : Param) (f : Form) (q : Parts) (v : Pairs)
      → expand a (par x f q p) m n v ≡ followed a p m n (placed n (parameter a (λ k w. expand a q k 0 w) x f m v))
  unfolding expand
  expand_par x f q v = placed_followed (parameter a (λ k w. expand a q k 0 w) x f m v)

  len_bind : (o : Outcome ℕ) (v : Pairs)
      → (o >>= λ k. adding n (marked (expanded_mark m) (decimal k)) false λ i. expand a p m i v)
      ≡ followed a p m n (placed n (beside v false (o >>= λ k. done (marked (expanded_mark m) (decimal k)))))
  unfolding followed placed
  len_bind (refused e) v = refl
  len_bind (demands t) v = refl
  len_bind (done k) v = placed_followed (done (marked (expanded_mark m) (decimal k), v, false))

  pub expand_len : (x : Counted) (v : Pairs) → expand a (len x p) m n v ≡ followed a p m n
      (placed n (beside v false (amount a x v >>= λ k. done (marked (expanded_mark m) (decimal k)))))
  unfolding expand
  expand_len x v = len_bind (amount a x v) v

  pub expand_lst : (s : Spread) (v : Pairs) → expand a (lst s p) m n v ≡ followed a p m n
      (placed n (done (list_row s m a.params v, v, of_none s a.params)))
  unfolding expand
  expand_lst s v = placed_followed (done (list_row s m a.params v, v, of_none s a.params))

  pub expand_til : (x : Text) (v : Pairs) → expand a (til x p) m n v ≡ followed a p m n
      (placed n (done (tilde_row x m (directory v a.homes x), v, false)))
  unfolding expand
  expand_til x v = placed_followed (done (tilde_row x m (directory v a.homes x), v, false))

  quote_bind : (o : Made)
      → (o >>= λ r. onto (in_quotes r.2 r.0) false (expand a p m (n + length (in_quotes r.2 r.0)) r.1))
      ≡ (◌>>=◌ {B = Row × Pairs × Bool} o (λ r. done (in_quotes r.2 r.0, r.1, false))
      >>= λ r. onto r.0 r.2 (expand a p m (n + length r.0) r.1))
  quote_bind (refused e) = refl
  quote_bind (demands t) = refl
  quote_bind (done r) = refl

  pub expand_quo : (q : Parts) (v : Pairs) → expand a (quo q p) m n v ≡ followed a p m n (quoted a q n v)
  unfolding expand followed quoted
  expand_quo q v =
      by_fit
      (λ (o : Outcome ℕ).
      (o >>= λ i. expand a q Q i v >>= λ r. onto (in_quotes r.2 r.0) false (expand a p m (n + length (in_quotes r.2 r.0)) r.1))
      ≡ ((o >>= λ i. ◌>>=◌ {B = Row × Pairs × Bool} (expand a q Q i v) (λ r. done (in_quotes r.2 r.0, r.1, false)))
      >>= λ r. onto r.0 r.2 (expand a p m (n + length r.0) r.1)))
      n 1 (quote_bind (expand a q Q (n + 1) v)) refl

  abbrev numbered : Text × Pairs → Row × Pairs × Bool
  unfolding marked
  numbered s = (marked (expanded_mark m) s.0, s.1, false)

  number_bind : (o : Outcome (Text × Pairs))
      → (o >>= λ s. adding n (marked (expanded_mark m) s.0) false λ i. expand a p m i s.1)
      ≡ ((o >>= λ s. done (numbered s)) >>= λ r. adding n r.0 r.2 λ i. expand a p m i r.1)
  unfolding marked
  number_bind (refused e) = refl
  number_bind (demands t) = refl
  number_bind (done s) = refl

  sum_bind : (o : Made)
      → (o >>= λ r. arithmetic_of a r.1 (bytes r.0) >>= λ s. adding n (marked (expanded_mark m) s.0) false λ i. expand a p m i s.1)
      ≡ ((o >>= λ r. summed a m r) >>= λ r. adding n r.0 r.2 λ i. expand a p m i r.1)
  unfolding summed marked
  sum_bind (refused e) = refl
  sum_bind (demands t) = refl
  sum_bind (done r) = number_bind (arithmetic_of a r.1 (bytes r.0))

  pub expand_ari : (q : Parts) (v : Pairs) → expand a (ari q p) m n v ≡ followed a p m n (placed n (expand a q Q 0 v >>= λ r. summed a m r))
  unfolding expand
  expand_ari q v = sum_bind (expand a q Q 0 v) ∙ placed_followed (expand a q Q 0 v >>= λ r. summed a m r)

  pub followed_refused : (own : Made) (e : ℕ) → own ≡ refused e → followed a p m n own ≡ refused e
  unfolding followed
  followed_refused own e h = rw h

  pub followed_demands : (own : Made) (t : Text) → own ≡ demands t → followed a p m n own ≡ demands t
  unfolding followed
  followed_demands own t h = rw h

  pub followed_row : (own : Made) (row : Row) (v : Pairs) (g : Bool) (count : ℕ) → own ≡ done (row, v, g) → length row ≡ count → followed a p m n own
      ≡ onto row g (expand a p m (n + count) v)
  unfolding followed
  followed_row own row v g count h c = rw (h, c)

-- A row that is worked out and then placed.

pub placed_refused : (n : ℕ) (made : Made) (e : ℕ) → made ≡ refused e → placed n made ≡ refused e
unfolding placed
placed_refused n made e h = rw h

pub placed_demands : (n : ℕ) (made : Made) (t : Text) → made ≡ demands t → placed n made ≡ demands t
unfolding placed
placed_demands n made t h = rw h

pub placed_fits : (n : ℕ) (made : Made) (row : Row) (v : Pairs) (g : Bool) → made ≡ done (row, v, g) → n + length row ≤ row_limit
    → placed n made ≡ done (row, v, g)
unfolding placed
placed_fits n made row v g h l = rw (h, fit_ok n (length row) l)

beside_placed : (n : ℕ) (v : Pairs) (g : Bool) (o : Outcome Row) → placed n (beside v g o) ≡ beside v g (measured n o)
unfolding placed measured
beside_placed n v g (refused e) = refl
beside_placed n v g (demands t) = refl
beside_placed n v g (done r) =
    by_fit (λ (o : Outcome ℕ). ◌≡◌ {A = Made} (◌>>=◌ {B = Row × Pairs × Bool} o (λ i. done (r, v, g))) (beside v g (o >>= λ i. done r))) n (length r)
    refl refl

pub beside_refused : (n : ℕ) (v : Pairs) (g : Bool) (o : Outcome Row) (e : ℕ) → measured n o ≡ refused e → placed n (beside v g o) ≡ refused e
beside_refused n v g o e h = beside_placed n v g o ∙ ap (beside v g) h

-- a text that is looked up, as units
pub plainly_beside : (o : Outcome Text) (m : Mark) (v : Pairs) → (o >>= λ t. plainly t m v) ≡ beside v false (o >>= λ t. done (marked (expanded_mark m) t))
plainly_beside (refused e) m v = refl
plainly_beside (demands t) m v = refl
plainly_beside (done t) m v = refl

pub beside_done : (v : Pairs) (g : Bool) (o : Outcome Row) (row : Row) → o ≡ done row → beside v g o ≡ done (row, v, g)
beside_done v g o row h = rw h
