use Prim.Native.Nat.{ℕ}
use Prim.Native.Char.{code}
use mathlib.Core.Path.{◌≡◌, refl, sym, ap, ◌∙◌, subst}
use mathlib.Core.Bool.{Bool, true, false, ◌||◌}
use borrow.Author.Tests.{eqb-true}
use lib.Dec.{eqb}
use Rattle.stages.specs.Bytes.{is_in, text, is_blank, is_operator}
use Rattle.stages.specs.Outcome.{pick}
use Rattle.stages.specs.Syntax as syntax
use Rattle.stages.specs.Items.{is_closer, sort, word_sort, begins_tilde}
use Rattle.stages.specs.Items as items
use Rattle.stages.proofs.Bools.{no, either}
use Rattle.text.specs.Cases.{start_of, lists_of}
use Rattle.read_mode.specs.Modes.{mode_of, quotes_sort, plain_sort}
use Rattle.read_mode.specs.declared.Mode.{Mode}
use Rattle.read_mode.specs.declared.Mode.TheVariants.{Word, Value, Bare, Single, Double, Operand, Arith}

-- The bytes that end a text, by its mode.

-- a choice between sorts that end none is one
neither : (x : Bool) (u v : items.Sort) → is_closer u ≡ false → is_closer v ≡ false → is_closer (pick x u v) ≡ false
neither true u v p q = p
neither false u v p q = q

-- a byte that is not the one at which the text ends
other : (x : Bool) (v : items.Sort) → x ≡ false → is_closer v ≡ false → is_closer (pick x items.closes v) ≡ false
other true v e q = absurd (no (sym e))
other false v e q = q

-- the last tests of the modes in which a backslash and a `$` count, and of those in which quotes open
plain_goes_on : (b : ℕ) → is_closer (plain_sort b) ≡ false
unfolding is_closer plain_sort
plain_goes_on b = neither (eqb b 92) items.backslash _ refl (neither (eqb b 36) items.dollar items.literal refl refl)

quotes_go_on : (b : ℕ) → is_closer (quotes_sort b) ≡ false
unfolding is_closer quotes_sort
quotes_go_on b = neither (eqb b 39) items.quotes _ refl (neither (eqb b 34) items.quotes2 (plain_sort b) refl (plain_goes_on b))

-- a property of the three blanks is one of every blank
pub blank_is : (P : ℕ → Type 0) (b : ℕ) → is_blank b ≡ true → P 32 → P 9 → P 10 → P b
unfolding is_blank
blank_is P b e x y z = go (eqb b 32) (eqb b 9) (eqb b 10) refl refl refl e
  where
    go : (p q r : Bool) → eqb b 32 ≡ p → eqb b 9 ≡ q → eqb b 10 ≡ r → (p || (q || (r || false))) ≡ true → P b
    go true q r f g h k = subst P (sym (eqb-true _ _ f)) x
    go false true r f g h k = subst P (sym (eqb-true _ _ g)) y
    go false false true f g h k = subst P (sym (eqb-true _ _ h)) z
    go false false false f g h k = absurd (no k)

word_closes : (s : syntax.Start) (b : ℕ) → is_blank b ≡ true → is_closer (word_sort s b) ≡ true
unfolding is_closer begins_tilde is_blank
word_closes syntax.fresh b e = blank_is (λ x. is_closer (word_sort syntax.fresh x) ≡ true) b e refl refl refl
word_closes syntax.begun b e = blank_is (λ x. is_closer (word_sort syntax.begun x) ≡ true) b e refl refl refl

word_goes_on : (s : syntax.Start) (b : ℕ) → is_blank b ≡ false → is_closer (word_sort s b) ≡ false
unfolding is_closer quotes_sort plain_sort
word_goes_on s b e =
    neither (begins_tilde s b) items.tilde _ refl
    (neither (eqb b 96) items.backquote _ refl (other (is_blank b) _ e (neither (is_operator b) items.operator (quotes_sort b) refl (quotes_go_on b))))

word_closer : (s : syntax.Start) (b : ℕ) → is_blank b ≡ is_closer (word_sort s b)
word_closer s b = either (is_blank b) (λ e. e ∙ sym (word_closes s b e)) (λ e. e ∙ sym (word_goes_on s b e))

-- one byte c alone, as a test of the sort says
alone : (c : ℕ) (sorted : ℕ → items.Sort) → is_closer (sorted c) ≡ true → ((b : ℕ) → eqb b c ≡ false → is_closer (sorted b) ≡ false)
    → (b : ℕ) → eqb b c ≡ is_closer (sorted b)
alone c sorted y n b = either (eqb b c) (λ e. e ∙ sym (subst (λ (x : ℕ). is_closer (sorted x) ≡ true) (sym (eqb-true b c e)) y)) (λ e. e ∙ sym (n b e))

-- whether a text ends at a byte, as the code tests it
abbrev pub closes : Mode → ℕ → Bool
closes (Word fresh) b = is_blank b
closes (Value fresh) b = is_blank b
closes (Bare fresh lists) b = eqb b (code "}")
closes (Single escapes) b = eqb b (code "'")
closes (Double lists) b = eqb b (code "\"")
closes (Operand lists) b = eqb b (code "}")
closes (Arith n) b = false

pub closer_is : (m : Mode) (b : ℕ) → closes m b ≡ is_closer (sort (mode_of m) b)
unfolding is_closer sort begins_tilde quotes_sort plain_sort
closer_is (Word s) b = word_closer (start_of s) b
closer_is (Value s) b = word_closer (start_of s) b
closer_is (Bare true l) b =
    alone 125 (sort (syntax.bare syntax.fresh (lists_of l))) refl
    (λ x e. neither (eqb x 126) items.tilde _ refl (neither (eqb x 96) items.backquote _ refl (other (eqb x 125) (quotes_sort x) e (quotes_go_on x)))) b
closer_is (Bare false l) b =
    alone 125 (sort (syntax.bare syntax.begun (lists_of l))) refl
    (λ x e. neither (eqb x 96) items.backquote _ refl (other (eqb x 125) (quotes_sort x) e (quotes_go_on x))) b
closer_is (Single true) b =
    alone 39 (sort (syntax.single syntax.with_escapes)) refl
    (λ x e. other (eqb x 39) _ e (neither (eqb x 92) items.escape items.literal refl refl)) b
closer_is (Single false) b = alone 39 (sort (syntax.single syntax.no_escapes)) refl (λ x e. other (eqb x 39) items.literal e refl) b
closer_is (Double l) b =
    alone 34 (sort (syntax.double (lists_of l))) refl
    (λ x e. neither (eqb x 96) items.backquote _ refl (other (eqb x 34) (plain_sort x) e (plain_goes_on x))) b
closer_is (Operand l) b =
    alone 125 (sort (syntax.quoted_operand (lists_of l))) refl
    (λ x e. neither (eqb x 96) items.backquote _ refl
    (other (eqb x 125) _ e (neither (eqb x 34) items.bad (plain_sort x) refl (plain_goes_on x)))) b
closer_is (Arith n) b =
    sym (neither (eqb b 96) items.backquote _ refl
    (neither (is_in b (text "'\"\\")) items.bad _ refl
    (neither (eqb b 40) items.opening _ refl (neither (eqb b 41) items.closing _ refl (neither (eqb b 36) items.dollar items.literal refl refl)))))

pub closer_known : (m : Mode) (b : ℕ) {k : Mode} {r : Bool} → m ≡ k → r ≡ closes k b → r ≡ is_closer (sort (mode_of m) b)
closer_known m b e h = h ∙ ap (λ (x : Mode). closes x b) (sym e) ∙ closer_is m b
