-- The loop over the words with the buffers that it works in: what holds whenever the next word is looked for.
use Prim.Native.Nat.{ℕ, suc, ◌≤◌, ◌<◌}
use native.Mathlib.Omega.{arith}
use mathlib.Core.Path.{◌≡◌, refl, sym, ap, ◌∙◌, subst}
use mathlib.Core.Bool.{Bool, false}
use mathlib.Core.List.{◌++◌}
use lib.ListN.{length, take, drop, set, get_or, length-set, length-drop}
use lib.Seq.{drop-cons, drop-set-lt}
use Rattle.stages.specs.Numbers.{depth_limit, work_least}
use Rattle.stages.specs.Bytes.{Text, is_blank}
use Rattle.stages.specs.Outcome.{done, Placed}
use Rattle.stages.specs.Images.{Pairs, held, image}
use Rattle.stages.specs.Syntax.{Parts, fresh, word as words}
use Rattle.stages.specs.Read.{parts}
use Rattle.stages.specs.Line.{Around, Fields}
use Rattle.stages.specs.Call.{over}
use Rattle.stages.proofs.Read.{word_good}
use Rattle.stages.proofs.Words.{FirstWord}
use Rattle.read_line.specs.Says.{NextAt, NextNone}
use Rattle.read_line.proofs.Lines.{good_left}
use Rattle.table_store.specs.Holding.{Holds}
use Rattle.table_store.specs.Splice.{placed}
use Rattle.table.specs.Around.{among}
use Rattle.expand_line.specs.Answers.{word_outcome, line_outcome, WordReady, IsFields, WordOf, WordSays, LineReady, LineStops, LineSays}
use Rattle.std.specs.Prelude.{Result, Ok, Err}
use Rattle.expand_add.specs.declared.answers.Stop.{Stop}
use Rattle.expand_add.specs.declared.answers.Stop.TheVariants.{Refused, Demanded}
use Rattle.expand_line.specs.declared.WordDone.{WordDone}
use Rattle.expand_line.proofs.Going.{Goes, goes_start, goes_end, first, goes_refused, goes_demanded, goes_on}

-- a word has a byte, so the line goes on behind its place
word_longer : (line : Text) (place next : ℕ) (tree : Parts) (rest : Text) → place < length line → is_blank (get_or line place 0) ≡ false
    → parts (words fresh) depth_limit (drop place line) ≡ done (tree, rest) → drop next line ≡ rest → next ≤ length line → place < next
word_longer line place next tree rest l e q d n =
    let g =
    good_left (word_good fresh depth_limit (get_or line place 0) (drop (suc place) line) e) (tree, rest)
    (ap (parts (words fresh) depth_limit) (sym (drop-cons line place 0 l)) ∙ q) in
    omega (arith, g, ap length d, length-drop next line, length-drop (suc place) line)

pub record State (text houses params paths : Text) (room : ℕ) (shouts : Bool) (o : Placed (Fields × Pairs)) (old : Text) (at len left : ℕ)
    (vars work out : Text) : Type 0 where
  pub goes : Goes (among room shouts houses params paths (length old)) o text at len (held (take left vars)) old out
  pub holds : Holds room vars left
  pub area : work_least ≤ length work
  pub same : length out ≡ length old

module _ {text vars : Text} {vars_used room : ℕ} {houses params paths work out : Text} (shouts : Bool)
    (r : LineReady text vars vars_used room houses params paths work out) where
  abbrev first_out : Text
  first_out = set out 0 1

  -- what the words give, as the loop has it and as the contract has it
  abbrev inside : Placed (Fields × Pairs)
  inside = line_outcome (among room shouts houses params paths (length first_out)) text (held (take vars_used vars))

  abbrev outside : Placed (Fields × Pairs)
  outside = line_outcome (among room shouts houses params paths (length out)) text (held (take vars_used vars))

  both : outside ≡ inside
  both = ap (λ (n : ℕ). line_outcome (among room shouts houses params paths n) text (held (take vars_used vars))) (sym (length-set out 0 1))

  pub state_start : State text houses params paths room shouts inside first_out 0 1 vars_used vars work first_out
  state_start =
      record {
        goes = goes_start (among room shouts houses params paths (length first_out)) text out (held (take vars_used vars)) r.words r.read r.byte;
        holds = r.holds;
        area = r.area;
        same = refl;
      }

  module _ {at len left : ℕ} {vars' work' out' : Text} (s : State text houses params paths room shouts inside first_out at len left vars' work' out') where
    pub state_same : length out' ≡ length out
    state_same = s.same ∙ length-set out 0 1

    some_byte : 1 ≤ length (image s.goes.fields)
    unfolding image
    some_byte = omega arith

    pub state_end : NextNone text at → LineSays room outside vars' out out' work' (Ok (record { used = len; vars_used = left }))
    unfolding over
    state_end n =
        let k : 0 < len = omega (arith, some_byte, s.goes.long) in
        record {
          fields = s.goes.fields;
          is = both ∙ goes_end s.goes n;
          long = s.goes.long;
          fits = omega (arith, s.goes.fits, length-set out 0 1);
          stands =
              s.goes.front ∙ ap (λ (t : Text). image s.goes.fields ++ t) (drop-set-lt len out 0 1 k)
              ∙ ap (λ (i : ℕ). image s.goes.fields ++ drop i out) s.goes.long;
          holds = s.holds;
        }

    module _ {place : ℕ} (p : NextAt text at place) where
      abbrev own : FirstWord text place s.goes.left
      own = first s.goes p

      pub word_ready : WordReady text place vars' left room houses params paths work' out' len
      word_ready =
          record {
            ready = record {
              start = omega (arith, p.within);
              opens = omega arith;
              few = omega arith;
              area = omega (arith, s.area);
              clean = r.clean;
              tree = own.tree;
              rest = own.rest;
              is = own.read;
            };
            holds = s.holds;
            housed = r.housed;
            handed = r.handed;
            listed = r.listed;
            low = omega (arith, s.goes.fits, s.same);
            few = omega (arith, s.same, length-set out 0 1, r.few);
          }

      -- the word's answer, by its parts and for the output as it was where the loop began
      abbrev a : Around
      a = among room shouts houses params paths (length first_out)

      abbrev Says : ℕ → Text → Text → Text → Result WordDone Stop → Type 0
      Says n vars₂ out₂ work₂ got =
          WordSays (among room shouts houses params paths n) (parts (words fresh) depth_limit (drop place text)) text place len
          (held (take left vars')) vars₂ out' out₂ work₂ got

      stopped : (vars₂ out₂ work₂ : Text) (stop : Stop) → WordOf a (word_outcome a own.tree len (held (take left vars'))) own.rest text place len
          vars₂ out' out₂ work₂ (Err stop)
          → LineStops outside work₂ stop place
      stopped vars₂ out₂ work₂ (Refused e) h = both ∙ goes_refused s.goes p h
      stopped vars₂ out₂ work₂ (Demanded from n) d = record { message = d.message; is = both ∙ goes_demanded s.goes p d.is; waits = d.waits }

      module _ {vars₂ out₂ work₂ : Text} where
        word_of : {got : Result WordDone Stop} → Says (length out') vars₂ out₂ work₂ got → WordOf a (word_outcome a own.tree len (held (take left vars')))
            own.rest text place len
            vars₂ out' out₂ work₂ got
        word_of {got} h = (subst (λ (n : ℕ). Says n vars₂ out₂ work₂ got) s.same h).says (own.tree, own.rest) own.read

        pub state_stopped : {stop : Stop} → Says (length out') vars₂ out₂ work₂ (Err stop)
            → LineSays room outside vars₂ out out₂ work₂ (Err (record { stop = stop; place = place }))
        state_stopped {stop} h = stopped vars₂ out₂ work₂ stop (word_of h)

        module _ {len₂ next left₂ : ℕ} (h : Says (length out') vars₂ out₂ work₂ (Ok (record { used = len₂; next = next; vars_used = left₂ }))) where
          made : IsFields a (word_outcome a own.tree len (held (take left vars'))) own.rest text place len vars₂ out' out₂ len₂ next left₂
          made = word_of h

          pub state_further : (at < next) × (next ≤ length text)
          state_further =
              let k = word_longer text place next own.tree own.rest p.within p.starts own.read made.ends.ends made.ends.within in
              (omega (arith, p.onward, k), made.ends.within)

          pub state_next : length work₂ ≡ length work' → length out₂ ≡ length out'
              → State text houses params paths room shouts inside first_out next len₂ left₂ vars₂ work₂ out₂
          unfolding placed
          state_next m n =
              record {
                goes = goes_on s.goes p made.is made.ends.ends made.ends.within made.long (omega (arith, made.fits, s.same)) made.stands;
                holds = made.holds;
                area = omega (arith, s.area, m);
                same = n ∙ s.same;
              }
