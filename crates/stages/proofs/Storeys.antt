-- Document 02, E6: the grammar in two storeys, for a reader whose stack does not grow with the text. Below are the operators of the table; above them stands
-- `?:`, at most one behind an expression of the lower storey, and what is behind its colon is again one of these.
use Prim.Native.Nat.{ℕ, suc, ◌≤◌, ◌<◌}
use native.Mathlib.Omega.{arith}
use mathlib.Core.Path.{◌≡◌, refl, sym, ap, ◌∙◌}
use mathlib.Core.Bool.{Bool, true, false}
use lib.Dec.{leb}
use lib.ListN.{length}
use Rattle.stages.specs.Recur.{by_size}
use Rattle.stages.specs.Bytes.{Text}
use Rattle.stages.specs.Outcome.{refused, demands, done, ◌>>=◌}
use Rattle.stages.specs.Arith.{Op, mul, div, rem, add, sub, shl, shr, lt, le, gt, ge, eq, ne, bit_and, bit_xor, bit_or, log_and, log_or, log_not, bit_not}
use Rattle.stages.specs.Arith.{operator, level}
use Rattle.stages.specs.Arith.{whole_level, choice_level, Token, ends, num, name, op, opens, query, gets, Lexed, token, Tree, binary, Grown}
use Rattle.stages.specs.Arith.{further, expression}
use Rattle.stages.specs.Arith.{choice_at, further_at, grow_step, grow}
use Rattle.stages.proofs.Arith.{Lexes, lex_more, token_left, Leaves, some_left, expression_left, grow_left, grow_eq}

-- the lowest level of the table
abbrev pub lowest : ℕ
lowest = 3

-- a `?` behind a tree, before the text t, whose token and rest are given
unfoldable pub asked : ℕ → Tree → Text → Token × Text → Grown
asked d l t (ends e, u) = done (l, t)
asked d l t (num z, u) = done (l, t)
asked d l t (name x, u) = done (l, t)
asked d l t (op o, u) = done (l, t)
asked d l t (opens, u) = done (l, t)
asked d l t (query, u) = choice_at grow d l u
asked d l t (gets o, u) = done (l, t)

abbrev pub upstairs : ℕ → Tree × Text → Grown
upstairs d p = token p.1 >>= λ s. asked d p.0 p.1 s

-- no operator of the table stands between
pub gap_whole : (o : Op) → leb whole_level (level o) ≡ leb lowest (level o)
unfolding level operator
gap_whole mul = refl
gap_whole div = refl
gap_whole rem = refl
gap_whole add = refl
gap_whole sub = refl
gap_whole shl = refl
gap_whole shr = refl
gap_whole lt = refl
gap_whole le = refl
gap_whole gt = refl
gap_whole ge = refl
gap_whole eq = refl
gap_whole ne = refl
gap_whole bit_and = refl
gap_whole bit_xor = refl
gap_whole bit_or = refl
gap_whole log_and = refl
gap_whole log_or = refl
gap_whole log_not = refl
gap_whole bit_not = refl

pub gap_choice : (o : Op) → leb choice_level (level o) ≡ leb lowest (level o)
unfolding level operator
gap_choice mul = refl
gap_choice div = refl
gap_choice rem = refl
gap_choice add = refl
gap_choice sub = refl
gap_choice shl = refl
gap_choice shr = refl
gap_choice lt = refl
gap_choice le = refl
gap_choice gt = refl
gap_choice ge = refl
gap_choice eq = refl
gap_choice ne = refl
gap_choice bit_and = refl
gap_choice bit_xor = refl
gap_choice bit_or = refl
gap_choice log_and = refl
gap_choice log_or = refl
gap_choice log_not = refl
gap_choice bit_not = refl

module _ (d k : ℕ) (gap : (o : Op) → leb k (level o) ≡ leb lowest (level o)) (asks : leb k choice_level ≡ true) where
  -- the law at one text
  Storeys : Text → Type 0
  Storeys t = (l : Tree) → grow (further k l, d, t) ≡ (grow (further lowest l, d, t) >>= upstairs d)

  joined : (o : Op) (l : Tree) (n : ℕ) (r : Grown) → Leaves n r → ((u : Text) → length u ≤ n → Storeys u)
      → (r >>= λ q. grow (further k (binary o l q.0), d, q.1)) ≡ ((r >>= λ q. grow (further lowest (binary o l q.0), d, q.1)) >>= upstairs d)
  unfolding Storeys
  joined o l n (demands _) w ih = elim w [ ]
  joined o l n (refused e) w ih = refl
  joined o l n (done q) (some_left w) ih = ih q.1 w (binary o l q.0)

  here : (t : Text) → ((u : Text) → length u < length t → Storeys u) → (l : Tree) (o : Lexed) → token t ≡ o → Lexes (length t) o
      → (o >>= λ p. further_at grow d k l t p) ≡ ((o >>= λ p. further_at grow d lowest l t p) >>= upstairs d)
  unfolding further_at asked
  here t ih l (demands _) q w = elim w [ ]
  here t ih l (refused e) q w = refl
  here t ih l (done (ends e, u)) q w = sym (rw (q, asked))
  here t ih l (done (num z, u)) q w = sym (rw (q, asked))
  here t ih l (done (name x, u)) q w = sym (rw (q, asked))
  here t ih l (done (opens, u)) q w = sym (rw (q, asked))
  here t ih l (done (gets o, u)) q w = sym (rw (q, asked))
  here t ih l (done (query, u)) q w = rw (asks, further_at) (sym (rw (q, asked)))
  here t ih l (done (op o, u)) q (lex_more w) = go (leb lowest (level o)) refl
    where
      short : Leaves (length u) (expression grow d (suc (level o)) u)
      short = expression_left (suc (length u)) grow (λ a _. grow_left a) d (suc (level o)) u (omega arith)

      go : (x : Bool) → leb lowest (level o) ≡ x → further_at grow d k l t (op o, u) ≡ (further_at grow d lowest l t (op o, u) >>= upstairs d)
      go true e = rw (gap o, e, further_at) (joined o l (length u) (expression grow d (suc (level o)) u) short (λ y h. ih y (omega arith)))
      go false e = rw (gap o, e, further_at) (sym (rw (q, asked)))

  pub storeys : (t : Text) (l : Tree) → grow (further k l, d, t) ≡ (grow (further lowest l, d, t) >>= upstairs d)
  unfolding Storeys grow_step
  storeys t = by_size (λ (u : Text). length u) Storeys one t
    where
      one : (u : Text) → ((y : Text) → length y < length u → Storeys y) → Storeys u
      one u ih l =
          grow_eq (further k l, d, u) ∙ here u ih l (token u) refl (token_left u)
          ∙ ap (λ (r : Grown). r >>= upstairs d) (sym (grow_eq (further lowest l, d, u)))

-- THE LAW: a whole expression and what may stand behind a colon, each an operand, the operators behind it, and at most one `?`
pub whole_storeys : (d : ℕ) (t : Text) (l : Tree) → grow (further whole_level l, d, t) ≡ (grow (further lowest l, d, t) >>= upstairs d)
whole_storeys d t l = storeys d whole_level gap_whole refl t l

pub choice_storeys : (d : ℕ) (t : Text) (l : Tree) → grow (further choice_level l, d, t) ≡ (grow (further lowest l, d, t) >>= upstairs d)
choice_storeys d t l = storeys d choice_level gap_choice refl t l
