-- The library's tests of bytes and of lists of them, in the words of the stages.
use Rattle.std.proofs.Common.{◌≡◌, ℕ, refl, ◌∙◌, ap, Bool, true, false, not, cond, ◌&&◌, ◌||◌, [], ◌∷◌, nat_eq, nat_lt, Less, Equal, Greater}
use Rattle.std.specs.List.{list_any}
use Rattle.std.specs.Cmp.{nat_eq_equiv}
use Rattle.std.specs.Ordering.{nat_cmp, ordering_then}
use Rattle.std.specs.Cmp.Lexicographic.{slice_cmp, pointwise}
use Rattle.stages.specs.Bytes.{Text, is_in, all, not_zero, eq_text, lt_text}
use Rattle.text.specs.Orders.{order_of, pick_order}
use Rattle.text.proofs.Zeros.{not_among}

pub any_is_in : (b : ℕ) (set : Text) → list_any (λ y. nat_eq y b) set ≡ is_in b set
any_is_in b [] = refl
any_is_in b (c ∷ t) = rw (nat_eq_equiv.symm c b, any_is_in b t) refl

pub any_not_zero : (t : Text) → not (list_any (λ y. nat_eq y 0) t) ≡ all not_zero t
any_not_zero t = ap not (any_is_in 0 t) ∙ not_among t

pub none_zero : (t : Text) (b : Bool) → b ≡ list_any (λ y. nat_eq y 0) t → not b ≡ all not_zero t
none_zero t b e = ap not e ∙ any_not_zero t

pub pointwise_eq : (a b : Text) → pointwise nat_eq a b ≡ eq_text a b
pointwise_eq [] [] = refl
pointwise_eq [] (c ∷ u) = refl
pointwise_eq (b ∷ t) [] = refl
pointwise_eq (b ∷ t) (c ∷ u) = rw (pointwise_eq t u) refl

pub cmp_order : (a b : Text) → slice_cmp nat_cmp a b ≡ order_of a b
cmp_order [] [] = refl
cmp_order [] (c ∷ u) = refl
cmp_order (b ∷ t) [] = refl
cmp_order (b ∷ t) (c ∷ u) = go (nat_lt b c) (nat_eq b c) (cmp_order t u)
  where
    go : (l e : Bool) → slice_cmp nat_cmp t u ≡ order_of t u
        → ordering_then (cond l Less (cond e Equal Greater)) (slice_cmp nat_cmp t u) ≡ pick_order (l || (e && lt_text t u)) (e && eq_text t u)
    go true e h = refl
    go false true h = h
    go false false h = refl
