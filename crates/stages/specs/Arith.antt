-- Document 01, "Arithmetic", and document 02, E6, E10 and E14: numbers, the table of operators, tokens, the tree that a text is read as, and what it comes to.
use Rattle.std.specs.Prelude.{ℕ, zero, suc, ◌+◌, ◌*◌, ◌/◌, ◌%◌, ◌^◌, Bool, true, false, ◌&&◌, ◌||◌, not, List, [], ◌∷◌, eqb, leb, ltb, length, ℤ, pos, negsuc}
use Rattle.std.specs.Prelude.{neg_ℤ, ◌+ℤ◌, ◌-ℤ◌, ◌*ℤ◌}
use Rattle.std.proofs.Math.Option.{Option, none, some}
use Rattle.std.specs.Int.Signed.{lt_z, le_z, quot_z, rem_z, shr_z}
use Rattle.stages.specs.Recur.{fix}
use Rattle.stages.specs.Numbers.{too_deep, arithmetic_syntax, overflow, zero_divisor, open_limit}
use Rattle.stages.specs.Bytes.{Text, text, span, is_name_start, is_name_byte, is_digit, is_blank}
use Rattle.stages.specs.Outcome.{Outcome, refused, done, ◌>>=◌, pick, choose, cases}
use Rattle.stages.specs.Images.{Pairs, is_some}
use Rattle.stages.specs.Syntax.{var}
use Rattle.stages.specs.Params.{Lent, holding, or_shout, store_in}
use Rattle.stages.specs.Constants.{constant, number, fits, ranged, valued, signed}

-- NUMBERS

-- "comparisons give 1 or 0"
abbrev pub truth : Bool → ℤ
truth true = pos 1
truth false = pos 0

abbrev pub is_zero : ℤ → Bool
is_zero (pos n) = eqb n 0
is_zero (negsuc n) = false

abbrev pub is_true : ℤ → Bool
is_true z = not (is_zero z)

abbrev pub eq_z : ℤ → ℤ → Bool
eq_z a b = le_z a b && le_z b a

-- "by zero 18"; "17, as is the smallest number `/` or `%` -1"
unfoldable pub divided : (ℤ → ℤ → ℤ) → ℤ → ℤ → Outcome ℤ
unfolding fits
divided f a b =
    elim (is_zero b) [ true ↦ refused zero_divisor | false ↦ elim (fits (quot_z a b)) [ true ↦ done (f a b) | false ↦ refused overflow ] ]

-- E6: "A shift count outside 0 to 63 .. is 17"
unfoldable pub shifted : (ℤ → ℕ → Outcome ℤ) → ℤ → ℤ → Outcome ℤ
shifted f a (pos n) = elim (ltb n 64) [ true ↦ f a n | false ↦ refused overflow ]
shifted f a (negsuc n) = refused overflow

-- bit i of a number in two's complement: -(n + 1) has all bits other than n has
unfoldable pub bit : ℕ → ℤ → Bool
bit i (pos n) = eqb (n / 2 ^ i % 2) 1
bit i (negsuc n) = not (eqb (n / 2 ^ i % 2) 1)

abbrev pub digit_of : Bool → ℕ
digit_of b = pick b 1 0

-- the number whose bits are the first k of these
unfoldable pub low_bits : (ℕ → Bool) → ℕ → ℕ
low_bits f zero = 0
low_bits f (suc k) = low_bits (λ i. f (suc i)) k * 2 + digit_of (f 0)

-- the 64-bit number whose bits are these; the highest one says that it is negative
unfoldable pub of_bits : (ℕ → Bool) → ℤ
unfolding low_bits
of_bits f = pick (f 63) (negsuc (low_bits (λ i. not (f i)) 63)) (pos (low_bits f 63))

unfoldable pub bitwise : (Bool → Bool → Bool) → ℤ → ℤ → ℤ
unfolding of_bits bit
bitwise f a b = of_bits (λ i. f (bit i a) (bit i b))

abbrev pub xor : Bool → Bool → Bool
xor true b = not b
xor false b = b

-- every bit the other way
abbrev pub flipped : ℤ → ℤ
flipped (pos n) = negsuc n
flipped (negsuc n) = pos n

-- OPERATORS

pub data Op : Type 0 where
  mul div rem add sub shl shr lt le gt ge eq ne bit_and bit_xor bit_or log_and log_or log_not bit_not : Op

-- what there is to say of an operator
pub record Operator : Type 0 where
  pub level : ℕ  -- how tightly it binds between two operands, all from the left; 0 if it does not stand there
  pub early : ℤ → Option ℤ  -- what it comes to by its left operand alone, the right one then not being evaluated
  pub pair : ℤ → ℤ → Outcome ℤ  -- what it comes to by both
  pub alone : Option (ℤ → Outcome ℤ)  -- what it makes of one operand, if it may stand before one

abbrev two : ℕ → (ℤ → ℤ → Outcome ℤ) → Operator
two k f = record { level = k; early = λ a. none; pair = f; alone = none }

abbrev compares : ℕ → (ℤ → ℤ → Bool) → Operator
compares k f = two k λ a b. done (truth (f a b))

abbrev two_or_one : ℕ → (ℤ → ℤ → Outcome ℤ) → (ℤ → Outcome ℤ) → Operator
two_or_one k f g = record { level = k; early = λ a. none; pair = f; alone = some g }

abbrev one_only : (ℤ → Outcome ℤ) → Operator
one_only g = record { level = 0; early = λ a. none; pair = λ a b. refused arithmetic_syntax; alone = some g }

-- a left operand with this truth decides
abbrev decides : ℕ → Bool → Operator
decides k x = record { level = k; early = λ a. pick (not (xor x (is_true a))) (some (truth x)) none; pair = λ a b. done (truth (is_true b)); alone = none }

-- THE TABLE. "parentheses, unary `+ -`, then `* / %`, then `+ -`, then `< <= > >=`, then `== !=`, all binary ones from the left"; E6: "`! ~`,
-- `<< >>`, `& ^ |`, `&& ||` .. with C's precedence. Right shift of a negative number rounds down."
unfoldable pub operator : Op → Operator
unfolding ranged divided shifted bitwise
operator mul = two 12 λ a b. ranged (a *ℤ b)
operator div = two 12 λ a b. divided quot_z a b
operator rem = two 12 λ a b. divided rem_z a b
operator add = two_or_one 11 (λ a b. ranged (a +ℤ b)) (λ a. done a)
operator sub = two_or_one 11 (λ a b. ranged (a -ℤ b)) (λ a. ranged (neg_ℤ a))
operator shl = two 10 λ a b. shifted (λ z n. ranged (z *ℤ pos (2 ^ n))) a b
operator shr = two 10 λ a b. shifted (λ z n. done (shr_z z (2 ^ n))) a b
operator lt = compares 9 λ a b. lt_z a b
operator le = compares 9 λ a b. le_z a b
operator gt = compares 9 λ a b. lt_z b a
operator ge = compares 9 λ a b. le_z b a
operator eq = compares 8 λ a b. eq_z a b
operator ne = compares 8 λ a b. not (eq_z a b)
operator bit_and = two 7 λ a b. done (bitwise (λ x y. x && y) a b)
operator bit_xor = two 6 λ a b. done (bitwise xor a b)
operator bit_or = two 5 λ a b. done (bitwise (λ x y. x || y) a b)
operator log_and = decides 4 false
operator log_or = decides 3 true
operator log_not = one_only λ a. done (truth (is_zero a))
operator bit_not = one_only λ a. done (flipped a)

-- below them, from the right: `?:`, and a whole expression, which by E10 may be an assignment, "lowest in precedence"
abbrev pub choice_level : ℕ
choice_level = 2

abbrev pub whole_level : ℕ
whole_level = 1

unfoldable pub level : Op → ℕ
unfolding operator
level o = (operator o).level

unfoldable pub early : Op → ℤ → Option ℤ
unfolding operator
early o a = (operator o).early a

unfoldable pub apply : Op → ℤ → ℤ → Outcome ℤ
unfolding operator
apply o a b = (operator o).pair a b

unfoldable pub is_sign : Op → Bool
unfolding operator
is_sign o = is_some (operator o).alone

abbrev pub made : Option (ℤ → Outcome ℤ) → ℤ → Outcome ℤ
made none a = refused arithmetic_syntax
made (some f) a = f a

unfoldable pub apply_alone : Op → ℤ → Outcome ℤ
unfolding operator
apply_alone o a = made (operator o).alone a

-- TOKENS

-- what an expression ends at: the end of the text, `)`, `:`
pub data End : Type 0 where
  stop shuts colon : End

pub data Token : Type 0 where
  ends : End → Token
  num : ℤ → Token
  name : Text → Token
  op : Op → Token
  opens query : Token
  gets : Option Op → Token  -- E10: `=`, or an operator and `=`

-- a token, and what is behind it
abbrev pub Lexed : Type 0
Lexed = Outcome (Token × Text)

-- how the other tokens are written; "Signs are single tokens". The first row that fits is taken, so the longer ones stand first.
abbrev pub Spellings : Type 0
Spellings = List (Text × Token)

unfoldable pub written : Spellings
written =
    (text "<<", op shl)
    ∷ (text ">>", op shr)
    ∷ (text "<=", op le)
    ∷ (text ">=", op ge)
    ∷ (text "==", op eq)
    ∷ (text "!=", op ne)
    ∷ (text "&&", op log_and)
    ∷ (text "||", op log_or)
    ∷ (text "*=", gets (some mul))
    ∷ (text "/=", gets (some div))
    ∷ (text "%=", gets (some rem))
    ∷ (text "+=", gets (some add))
    ∷ (text "-=", gets (some sub))
    ∷ (text "*", op mul)
    ∷ (text "/", op div)
    ∷ (text "%", op rem)
    ∷ (text "+", op add)
    ∷ (text "-", op sub)
    ∷ (text "<", op lt)
    ∷ (text ">", op gt)
    ∷ (text "&", op bit_and)
    ∷ (text "^", op bit_xor)
    ∷ (text "|", op bit_or)
    ∷ (text "!", op log_not)
    ∷ (text "~", op bit_not)
    ∷ (text "=", gets none)
    ∷ (text "?", query)
    ∷ (text ":", ends colon)
    ∷ (text "(", opens)
    ∷ (text ")", ends shuts)
    ∷ []

-- what is behind a text at the start of another
unfoldable pub behind : Text → Text → Option Text
behind [] t = some t
behind (c ∷ s) [] = none
behind (c ∷ s) (b ∷ t) = elim (eqb b c) [ true ↦ behind s t | false ↦ none ]

unfoldable pub spelled : Spellings → Text → Lexed
unfolding behind
spelled [] t = refused arithmetic_syntax
spelled (r ∷ l) t = elim (behind r.0 t) [ some u ↦ done (r.1, u) | none ↦ spelled l t ]

-- the token at the start of a text: "Blanks, tabs, newlines separate." A constant is judged here.
unfoldable pub token : Text → Lexed
unfolding is_blank is_digit is_name_start is_name_byte span number constant spelled written
token [] = done (ends stop, [])
token (b ∷ t) =
    cases (
    (is_blank b, λ _. token t)
    ∷ (is_digit b, λ _. number pos (constant (span is_name_byte (b ∷ t)).0) >>= (λ z. done (num z, (span is_name_byte (b ∷ t)).1)))
    ∷ (is_name_start b, λ _. done (name (span is_name_byte (b ∷ t)).0, (span is_name_byte (b ∷ t)).1))
    ∷ []) λ _. spelled written (b ∷ t)

-- THE READER

pub data Tree : Type 0 where
  constant_of : ℤ → Tree
  name_of : Text → Tree
  unary : Op → Tree → Tree
  binary : Op → Tree → Tree → Tree
  choice : Tree → Tree → Tree → Tree  -- E6: `?:`
  assign : Option Op → Text → Tree → Tree  -- E10: a name and `=`, or an operator before the `=`, and the right side

-- a tree, and what is behind its text
abbrev pub Grown : Type 0
Grown = Outcome (Tree × Text)

abbrev pub grown : (Tree → Tree) → Grown → Grown
grown f r = r >>= λ p. done (f p.0, p.1)

-- what is to be read: an operand, or what may stand behind a tree, of at least a level. The Bool says whether the operand begins a whole expression, where
-- an assignment may stand.
pub data Task : Type 0 where
  operand : Bool → Task
  further : ℕ → Tree → Task

-- a task, how many parentheses and signs may still open, the text
abbrev pub Grow : Type 0
Grow = Task × ℕ × Text → Grown

-- an expression of at least level k: "all binary ones from the left"
abbrev pub expression : Grow → ℕ → ℕ → Text → Grown
expression rec d k t = rec (operand (leb k whole_level), d, t) >>= λ p. rec (further k p.0, d, p.1)

abbrev pub rank : End → ℕ
rank stop = 0
rank shuts = 1
rank colon = 2

-- a tree before a token that must be this end
unfoldable pub ended : End → Tree → Token × Text → Grown
ended e l (ends f, t) = elim (eqb (rank e) (rank f)) [ true ↦ done (l, t) | false ↦ refused arithmetic_syntax ]
ended e l (num z, t) = refused arithmetic_syntax
ended e l (name x, t) = refused arithmetic_syntax
ended e l (op o, t) = refused arithmetic_syntax
ended e l (opens, t) = refused arithmetic_syntax
ended e l (query, t) = refused arithmetic_syntax
ended e l (gets o, t) = refused arithmetic_syntax

-- a whole expression up to this end
unfoldable pub up_to : End → Grow → ℕ → Text → Grown
unfolding token ended
up_to e rec d t = expression rec d whole_level t >>= λ q. token q.1 >>= λ s. ended e q.0 s

-- behind `(`: "More than 32 open parentheses and unary signs, together, is 12."
unfoldable pub enclosed : Grow → ℕ → Text → Grown
unfolding up_to
enclosed rec zero t = refused too_deep
enclosed rec (suc d) t = up_to shuts rec d t

-- behind an operator where an operand must stand: "unary `+ -`", E6: "`!` and `~` count toward the 32."
unfoldable pub sign : Grow → Bool → Op → ℕ → Text → Grown
sign rec false o d t = refused arithmetic_syntax
sign rec true o zero t = refused too_deep
sign rec true o (suc d) t = grown (unary o) (rec (operand false, d, t))

-- E10, behind a name that begins a whole expression, before the text t, whose token and rest are given: "grouping from the right, lowest in precedence, with a
-- bare name on the left". No operator is one of these tokens, so that elsewhere the expression ends before it, "else 16".
unfoldable pub target_at : Grow → ℕ → Text → Text → Token × Text → Grown
target_at rec d x t (ends e, u) = done (name_of x, t)
target_at rec d x t (num z, u) = done (name_of x, t)
target_at rec d x t (name y, u) = done (name_of x, t)
target_at rec d x t (op o, u) = done (name_of x, t)
target_at rec d x t (opens, u) = done (name_of x, t)
target_at rec d x t (query, u) = done (name_of x, t)
target_at rec d x t (gets o, u) = grown (assign o x) (expression rec d whole_level u)

-- an operand that begins with a token
unfoldable pub operand_at : Grow → Bool → ℕ → Token × Text → Grown
unfolding sign is_sign enclosed token target_at
operand_at rec first d (ends e, t) = refused arithmetic_syntax
operand_at rec first d (num z, t) = done (constant_of z, t)
operand_at rec false d (name x, t) = done (name_of x, t)
operand_at rec true d (name x, t) = token t >>= λ p. target_at rec d x t p
operand_at rec first d (op o, t) = sign rec (is_sign o) o d t
operand_at rec first d (opens, t) = enclosed rec d t
operand_at rec first d (query, t) = refused arithmetic_syntax
operand_at rec first d (gets o, t) = refused arithmetic_syntax

-- behind `?`: C's grammar, a whole expression up to the colon and, behind it, one that may be another `?:`
unfoldable pub choice_at : Grow → ℕ → Tree → Text → Grown
unfolding up_to
choice_at rec d l t = up_to colon rec d t >>= λ a. grown (choice l a.0) (expression rec d choice_level a.1)

-- behind the tree l, before the text t, whose token and rest are given: a binary operator of at least level k, or the end of the expression
unfoldable pub further_at : Grow → ℕ → ℕ → Tree → Text → Token × Text → Grown
unfolding level choice_at
further_at rec d k l t (ends e, u) = done (l, t)
further_at rec d k l t (num z, u) = done (l, t)
further_at rec d k l t (name x, u) = done (l, t)
further_at rec d k l t (op o, u) =
    elim (leb k (level o)) [
      | true ↦ expression rec d (suc (level o)) u >>= (λ r. rec (further k (binary o l r.0), d, r.1))
      | false ↦ done (l, t)
    ]
further_at rec d k l t (opens, u) = done (l, t)
further_at rec d k l t (query, u) = elim (leb k choice_level) [ true ↦ choice_at rec d l u | false ↦ done (l, t) ]
further_at rec d k l t (gets o, u) = done (l, t)

unfoldable pub grow_step : Grow → Task × ℕ × Text → Grown
unfolding token operand_at further_at
grow_step rec (operand first, d, t) = token t >>= λ p. operand_at rec first d p
grow_step rec (further k l, d, t) = token t >>= λ p. further_at rec d k l t p

abbrev pub grow_size : Task × ℕ × Text → ℕ
grow_size a = length a.2

-- the reader; never stuck by `grow_eq` and `grow_never_stuck` of proofs/Arith
unfoldable pub grow : Grow
unfolding grow_step fix
grow a = fix grow_size (refused 0) grow_step a

-- "Reading faults come first, left to right, a constant's own before 16"; "Empty text is 16."
unfoldable pub tree : Text → Outcome Tree
unfolding grow up_to
tree t = up_to stop grow open_limit t >>= λ p. done p.0

-- WHAT A TREE COMES TO

-- a number, and the variables behind it
abbrev pub Evaluated : Type 0
Evaluated = Outcome (ℤ × Pairs)

abbrev pub with_variables : Pairs → Outcome ℤ → Evaluated
with_variables v r = r >>= λ z. done (z, v)

-- what is known early, or else what comes of more
abbrev pub unless : Option ℤ → Pairs → (Unit {0} → Evaluated) → Evaluated
unless none v more = more tt
unless (some z) v more = done (z, v)

-- what a name stands for, by what it holds: 01: "A name gives 0 if unset or empty"; E14: "a name read in arithmetic", unset
unfoldable pub name_number : Bool → Option Text → Outcome ℤ
unfolding or_shout valued
name_number shouts o = or_shout shouts o >>= λ t. valued t

unfoldable pub value_of : Lent → Pairs → Text → Outcome ℤ
unfolding name_number holding
value_of a v x = name_number a.shouts (holding a v (var x))

-- E10: "then the name is read if the operator needs it"
unfoldable pub updated : Lent → Pairs → Option Op → Text → ℤ → Outcome ℤ
unfolding value_of apply
updated a v none x z = done z
updated a v (some o) x z = value_of a v x >>= λ y. apply o y z

-- "then the result is stored as its shortest decimal text; it is the value of the assignment"; "Number 20 can now come from arithmetic, at the moment of the
-- store."
unfoldable pub keeping : Lent → Text → Pairs → ℤ → Evaluated
unfolding store_in signed
keeping a x v z = store_in a (var x) (signed z) v >>= λ w. done (z, w)

-- what an assignment makes of its right side
unfoldable pub storing : Lent → Option Op → Text → ℤ × Pairs → Evaluated
unfolding updated keeping
storing a o x p = updated a p.1 o x p.0 >>= λ z. keeping a x p.1 z

-- 01: "then left operand, right operand, operation"; E6: "The side of `&&`, `||` and `?:` that is not needed is read for syntax but not evaluated"; E10: "The
-- right side is worked out first", "The unneeded sides of E6 store nothing."
unfoldable pub evaluate : Lent → Pairs → Tree → Evaluated
unfolding value_of apply apply_alone early choose storing
evaluate a v (constant_of z) = done (z, v)
evaluate a v (name_of x) = with_variables v (value_of a v x)
evaluate a v (unary o l) = evaluate a v l >>= λ p. with_variables p.1 (apply_alone o p.0)
evaluate a v (binary o l r) =
    evaluate a v l >>= λ p. unless (early o p.0) p.1 λ _. evaluate a p.1 r >>= λ q. with_variables q.1 (apply o p.0 q.0)
evaluate a v (choice c l r) = evaluate a v c >>= λ p. choose (is_true p.0) (λ _. evaluate a p.1 l) (λ _. evaluate a p.1 r)
evaluate a v (assign o x r) = evaluate a v r >>= λ p. storing a o x p

-- the text of a result, and the variables behind it
unfoldable pub arithmetic_of : Lent → Pairs → Text → Outcome (Text × Pairs)
unfolding tree evaluate signed
arithmetic_of a v t = tree t >>= λ e. evaluate a v e >>= λ p. done (signed p.0, p.1)
