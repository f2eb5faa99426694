-- A word is an assignment or not, as the code finds it: by its first byte, the longest run of name bytes, and the byte behind that.
use Rattle.std.specs.Prelude.{Result, Ok, Err}
use Prim.Native.Nat.{ℕ, suc, ◌+◌, ◌≤◌, ◌<◌}
use Prim.Native.Char.{code}
use native.Mathlib.Omega.{arith}
use mathlib.Core.Path.{◌≡◌, refl, sym, ap, ◌∙◌}
use mathlib.Core.Bool.{Bool, true, false, ◌&&◌}
use mathlib.Core.List.{[], ◌∷◌}
use borrow.Author.Tests.{eq-eqb, ne_eqb}
use lib.ListN.{length, drop, get_or, drop_of_length-le}
use lib.Seq.{drop-cons, drop-drop}
use Rattle.stages.specs.Numbers.{depth_limit, bad_syntax}
use Rattle.stages.specs.Bytes.{Text, part, span, is_name_start, is_name_byte}
use Rattle.stages.specs.Outcome.{Outcome, refused, done, ◌>>=◌}
use Rattle.stages.specs.Images.{is_name}
use Rattle.stages.specs.Syntax.{Parts, fresh, value}
use Rattle.stages.specs.Read.{Taken, parts}
use Rattle.stages.specs.Assign.{name_at, behind_name_at, begins_equals, is_assignment, an_assignment}
use Rattle.stages.proofs.Bools.{no, and_both}
use Rattle.stages.proofs.Texts.{start_name_byte, span_more, span_stop, span_all}
use Rattle.stages.proofs.Assignments.{not_assignment, an_assignment_lem}
use Rattle.text.specs.declared.refusal.Refusal.{Refusal}
use Rattle.text.specs.Classes.{Runs}
use Rattle.text.specs.declared.Class.TheVariants.{NameByte}
use Rattle.text.proofs.Parts.{part_length}
use Rattle.read_line.specs.Says.{ReadSays, AssignmentTo}

-- THE NAME

no_name : (b : ℕ) (t : Text) → is_name_start b ≡ false → (x : Bool) → is_name_byte b ≡ x → is_name (span is_name_byte (b ∷ t)).0 ≡ false
unfolding is_name
no_name b t e true f = rw (span_more is_name_byte b t f, e)
no_name b t e false f = rw (span_stop is_name_byte (b ∷ t) f)

a_name : (b : ℕ) (t : Text) → is_name_start b ≡ true → is_name (span is_name_byte (b ∷ t)).0 ≡ true
unfolding is_name
a_name b t e = rw (span_more is_name_byte b t (start_name_byte b e)) (and_both e (span_all is_name_byte t))

name_length : (x : Text) → is_name x ≡ true → 0 < length x
unfolding is_name
name_length [] e = absurd (no e)
name_length (b ∷ t) e = omega arith

no_left : (x y : Bool) → x ≡ false → (x && y) ≡ false
no_left x y e = rw e

no_right : (x y : Bool) → x ≡ true → y ≡ false → (x && y) ≡ false
no_right x y e f = rw (e, f)

module _ (line : Text) (place : ℕ) (l : place < length line) where
  pub no_start : is_name_start (get_or line place 0) ≡ false → is_assignment (drop place line) ≡ false
  unfolding is_assignment name_at
  no_start e =
      no_left (is_name (name_at (drop place line))) (begins_equals (behind_name_at (drop place line)))
      (ap (λ (t : Text). is_name (span is_name_byte t).0) (drop-cons line place 0 l)
      ∙ no_name (get_or line place 0) (drop (suc place) line) e (is_name_byte (get_or line place 0)) refl)

  module _ (e : is_name_start (get_or line place 0) ≡ true) (equals : ℕ) (r : Runs line place NameByte equals) where
    name_is : name_at (drop place line) ≡ part line place equals
    unfolding name_at
    name_is = ap (λ (p : Text × Text). p.0) r.is

    behind_is : behind_name_at (drop place line) ≡ drop equals line
    unfolding behind_name_at
    behind_is = ap (λ (p : Text × Text). p.1) r.is

    named : is_name (name_at (drop place line)) ≡ true
    unfolding name_at
    named = ap (λ (t : Text). is_name (span is_name_byte t).0) (drop-cons line place 0 l) ∙ a_name (get_or line place 0) (drop (suc place) line) e

    -- the byte behind the name, if there is one
    pub no_end : length line ≤ equals → is_assignment (drop place line) ≡ false
    unfolding is_assignment
    no_end k =
        no_right (is_name (name_at (drop place line))) (begins_equals (behind_name_at (drop place line))) named
        (ap begins_equals (behind_is ∙ drop_of_length-le line k))

    module _ (k : equals < length line) where
      byte_is : begins_equals (behind_name_at (drop place line)) ≡ begins_equals (get_or line equals 0 ∷ drop (suc equals) line)
      byte_is = ap begins_equals (behind_is ∙ drop-cons line equals 0 k)

      pub no_equals : (get_or line equals 0 ≡ code "=" → ⊥) → is_assignment (drop place line) ≡ false
      unfolding is_assignment
      no_equals h =
          no_right (is_name (name_at (drop place line))) (begins_equals (behind_name_at (drop place line))) named (byte_is ∙ ne_eqb _ _ h)

      is_one : get_or line equals 0 ≡ code "=" → is_assignment (drop place line) ≡ true
      unfolding is_assignment
      is_one h = and_both named (byte_is ∙ eq-eqb _ _ h)

      pub is_named_lem : get_or line equals 0 ≡ code "=" → AssignmentTo line place equals
      is_named_lem h =
          record {
            is = is_one h;
            name = name_is;
            behind = behind_is;
            onward = omega (
              arith,
              name_length (part line place equals) (ap is_name (sym name_is) ∙ named),
              part_length line place equals r.onward r.within,
            );
            within = k;
          }

-- THE VALUE

pub bad_read : (line : Text) (place : ℕ) → is_assignment (drop place line) ≡ false → an_assignment (drop place line) ≡ refused bad_syntax
bad_read line place e = not_assignment (drop place line) e

module _ (line : Text) (place equals : ℕ) (h : AssignmentTo line place equals) where
  value_is : drop 1 (behind_name_at (drop place line)) ≡ drop (equals + 1) line
  value_is = ap (drop 1) h.behind ∙ drop-drop 1 equals line

  abbrev pub named_as : Taken → Outcome ((Text × Parts) × Text)
  named_as r = r >>= λ p. done ((name_at (drop place line), p.0), p.1)

  pub reads_value : an_assignment (drop place line) ≡ named_as (parts (value fresh) depth_limit (drop (equals + 1) line))
  reads_value = an_assignment_lem (drop place line) h.is ∙ ap (λ (t : Text). named_as (parts (value fresh) depth_limit t)) value_is

  pub value_read : (got : Result ℕ Refusal) → ReadSays line (equals + 1) (parts (value fresh) depth_limit (drop (equals + 1) line)) got
      → ReadSays line place (an_assignment (drop place line)) got
  value_read (Err n) q = reads_value ∙ ap named_as q
  value_read (Ok next) q =
      record {
        tree = (name_at (drop place line), q.tree);
        is = reads_value ∙ ap named_as q.is;
        onward = omega (arith, h.onward, q.onward);
        within = q.within;
      }
