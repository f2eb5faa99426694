-- Document 02, E12: a quoted line holds no byte below 32 and no byte 127, whatever its fields hold, and so no newline. Each answer of the program is then one
-- line of its output. The byte 39 is `'`, 92 a backslash.
use Prim.Native.Nat.{ℕ, zero, suc, ◌+◌, ◌/◌, ◌%◌, ◌≤◌, ◌<◌}
use native.Mathlib.Omega.{arith}
use mathlib.Core.Path.{◌≡◌, refl, sym, ap, ◌∙◌}
use mathlib.Core.Bool.{Bool, true, false, ◌||◌}
use mathlib.Core.List.{List, [], ◌∷◌, ◌++◌, append_assoc}
use mathlib.Core.Option.{Option}
use lib.Dec.{eqb, ltb}
use lib.ListN.{length, take}
use borrow.Author.Tests.{eqb-true, ne_eqb, ltb-true, ltb-false, le-ltb, lt-leb, not-false}
use Rattle.stages.specs.Bytes.{Text, text, all, is_bare_byte, is_control, not_control}
use Rattle.stages.specs.Units.{digits, decimal}
use Rattle.stages.specs.Quote.{singled, dollared, is_bare, has_control, way_of, is_sign, octal, quoted_byte, quoted_bytes, enclosed, written}
use Rattle.stages.specs.Quote.{quoted_field, blanked, quoted_line}
use Rattle.stages.specs.Images.{image, not_empty}
use Rattle.stages.specs.Call.{Given, Answer, normaliser}
use Rattle.stages.specs.Program.{lines_of, Variables, given_line, said, after_line, said_of, table_or, first_variables, program}
use Rattle.stages.proofs.Bools.{apart, either, and_left, and_right, and_both}
use Rattle.stages.proofs.Texts.{all_append, all_weaker}
use Rattle.stages.proofs.Digits.{digits_one, digits_more}
use Rattle.stages.proofs.Dollared.{control_below}
use Rattle.stages.proofs.Answers.{normaliser_fits}
use Rattle.stages.proofs.Program.{NoNewline, lines_first}

-- all bytes are others than these
abbrev pub Shown : Text → Type 0
Shown t = all not_control t ≡ true

shown_byte_lem : (b : ℕ) → 32 ≤ b → b < 127 → not_control b ≡ true
unfolding is_control
shown_byte_lem b l h = rw (le-ltb b 32 l, ne_eqb b 127 (λ e. omega arith))

-- A FIELD

low_bare : (b : ℕ) → b < 32 → is_bare_byte b ≡ false
unfolding is_bare_byte
low_bare b h =
    rw (
      lt-leb 65 b (omega arith),
      lt-leb 97 b (omega arith),
      lt-leb 48 b (omega arith),
      ne_eqb b 95 (λ e. omega arith),
      ne_eqb b 46 (λ e. omega arith),
      ne_eqb b 45 (λ e. omega arith),
      ne_eqb b 47 (λ e. omega arith),
    )

control_bare : (b : ℕ) → is_control b ≡ true → is_bare_byte b ≡ false
unfolding is_control
control_bare b e =
    either (ltb b 32) (λ h. low_bare b (ltb-true b 32 h))
    (λ h. let k : b ≡ 127 = eqb-true b 127 (rw h at e) in ap is_bare_byte k ∙ (unfold is_bare_byte in refl))

pub bare_shown : (b : ℕ) → is_bare_byte b ≡ true → not_control b ≡ true
bare_shown b e = either (is_control b) (λ h. absurd (apart (control_bare b h) e)) (λ h. rw h)

-- a byte in single quotes, which is shown itself
singled_shown : (b : ℕ) → not_control b ≡ true → Shown (quoted_byte singled b)
unfolding quoted_byte
singled_shown b e = either (eqb b 39) (λ h. rw h (unfold is_control in refl)) (λ h. rw (h, e))

-- any byte in `$'...'`
sign_shown : (b : ℕ) → is_sign b ≡ true → not_control b ≡ true
unfolding is_sign
sign_shown b e =
    either (eqb b 92) (λ h. ap not_control (eqb-true b 92 h) ∙ (unfold is_control in refl))
    (λ h. ap not_control (eqb-true b 39 (other (eqb b 39) (rw h at e))) ∙ (unfold is_control in refl))
  where
    other : (x : Bool) → (x || false) ≡ true → x ≡ true
    other true k = refl
    other false k = k

octal_shown : (b : ℕ) → b < 128 → Shown (92 ∷ octal b)
octal_shown b h =
    and_both (shown_byte_lem 92 (omega arith) (omega arith))
    (and_both (shown_byte_lem (48 + b / 64) (omega arith) (omega arith))
    (and_both (shown_byte_lem (48 + b / 8 % 8) (omega arith) (omega arith)) (and_both (shown_byte_lem (48 + b % 8) (omega arith) (omega arith)) refl)))

dollared_shown : (b : ℕ) → Shown (quoted_byte dollared b)
unfolding quoted_byte
dollared_shown b =
    either (is_sign b) (λ e. rw e (and_both (shown_byte_lem 92 (omega arith) (omega arith)) (and_both (sign_shown b e) refl))) λ e.
    either (is_control b) (λ h. rw (e, h) (octal_shown b (control_below b h))) (λ h. rw (e, h) (and_both {x = not_control b} (rw h) refl))

singled_bytes : (t : Text) → Shown t → Shown (quoted_bytes singled t)
unfolding quoted_bytes
singled_bytes [] s = refl
singled_bytes (b ∷ t) s =
    all_append not_control (quoted_byte singled b) (quoted_bytes singled t) (singled_shown b (and_left (not_control b) (all not_control t) s))
    (singled_bytes t (and_right (not_control b) (all not_control t) s))

dollared_bytes : (t : Text) → Shown (quoted_bytes dollared t)
unfolding quoted_bytes
dollared_bytes [] = refl
dollared_bytes (b ∷ t) = all_append not_control (quoted_byte dollared b) (quoted_bytes dollared t) (dollared_shown b) (dollared_bytes t)

-- in its quotes
enclosed_shown : (t u : Text) → u ≡ 39 ∷ t ++ (39 ∷ []) → Shown t → Shown u
enclosed_shown t u e s =
    let q : not_control 39 ≡ true = shown_byte_lem 39 (omega arith) (omega arith) in
    rw e (and_both q (all_append not_control t (39 ∷ []) s (and_both q refl)))

field_shown : (t : Text) → Shown (quoted_field t)
unfolding quoted_field way_of
field_shown t =
    either (is_bare t) (λ e. rw e (unfold written is_bare in
    all_weaker is_bare_byte not_control bare_shown t (and_right (not_empty t) (all is_bare_byte t) e))) λ e.
    either (has_control t) (λ h. rw (e, h) (dollar (dollared_bytes t)))
    (λ h. rw (e, h) (quotes (singled_bytes t (unfold has_control in not-false (all not_control t) h))))
  where
    quotes : Shown (quoted_bytes singled t) → Shown (written singled t)
    quotes s = unfold written enclosed in enclosed_shown (quoted_bytes singled t) (written singled t) refl s

    dollar : Shown (quoted_bytes dollared t) → Shown (written dollared t)
    dollar s =
        unfold written enclosed in
        and_both (shown_byte_lem 36 (omega arith) (omega arith)) (enclosed_shown (quoted_bytes dollared t) (enclosed dollared t) refl s)

-- THE LINE

blanked_shown : (l : List Text) → Shown (blanked l)
unfolding blanked
blanked_shown [] = refl
blanked_shown (t ∷ l) =
    and_both (shown_byte_lem 32 (omega arith) (omega arith)) (all_append not_control (quoted_field t) (blanked l) (field_shown t) (blanked_shown l))

pub quoted_shown : (l : List Text) → Shown (quoted_line l)
unfolding quoted_line
quoted_shown [] = refl
quoted_shown (t ∷ l) = all_append not_control (quoted_field t) (blanked l) (field_shown t) (blanked_shown l)

pub shown_newline : (t : Text) → Shown t → NoNewline t
shown_newline [] s = refl
shown_newline (b ∷ t) s = rw (other (and_left (not_control b) (all not_control t) s)) (shown_newline t (and_right (not_control b) (all not_control t) s))
  where
    other : not_control b ≡ true → eqb 10 b ≡ false
    other h = either (eqb 10 b) (λ e. absurd (apart (ap not_control (sym (eqb-true 10 b e)) ∙ (unfold is_control in refl)) h)) (λ e. e)

-- THE PROGRAM

digits_shown : (k n : ℕ) → Shown (digits k n)
unfolding digits
digits_shown zero n = refl
digits_shown (suc k) n =
    either (ltb n 10) (λ e. let h : n < 10 = ltb-true n 10 e in
    rw (digits_one k n h) (and_both (shown_byte_lem (48 + n) (omega arith) (omega arith)) refl)) λ e.
    rw (digits_more k n (ltb-false n 10 e))
    (all_append not_control (digits k (n / 10)) ((48 + n % 10) ∷ []) (digits_shown k (n / 10))
    (and_both (shown_byte_lem (48 + n % 10) (omega arith) (omega arith)) refl))

-- a text that is one line: a newline ends it, and no other is in it
pub record OneLine (t : Text) : Type 0 where
  pub line : Text
  pub ends : t ≡ line ++ text "\n"
  pub none : NoNewline line

shown_line : (t line : Text) → t ≡ line ++ text "\n" → Shown line → OneLine t
shown_line t line e s = record { line = line; ends = e; none = shown_newline line s }

refused_line : (a : Answer) → eqb a.number 0 ≡ false → OneLine (said a)
unfolding said decimal
refused_line a e =
    shown_line (said a) (text "no " ++ (decimal a.number ++ (text " " ++ decimal a.place)))
    (rw (e, said) (ap (λ (t : Text). text "no " ++ t) (sym (append_assoc (decimal a.number) (text " " ++ decimal a.place) (text "\n")))))
    (all_append not_control (text "no ") (decimal a.number ++ (text " " ++ decimal a.place)) (unfold is_control in refl)
    (all_append not_control (decimal a.number) (text " " ++ decimal a.place) (digits_shown 20 a.number)
    (all_append not_control (text " ") (decimal a.place) (unfold is_control in refl) (digits_shown 20 a.place))))

accepted_line : (a : Answer) → eqb a.number 0 ≡ true → Shown (take a.out_length a.out) → OneLine (said a)
unfolding said
accepted_line a e s =
    shown_line (said a) (text "ok " ++ take a.out_length a.out) (rw (e, said))
    (all_append not_control (text "ok ") (take a.out_length a.out) (unfold is_control in refl) s)

-- every answer of the program is one line
pub answer_line : (g : Given) → OneLine (said (normaliser g))
answer_line g =
    either (eqb (normaliser g).number 0)
    (λ e. let q = ((normaliser_fits g).accepts (eqb-true (normaliser g).number 0 e)).output in
    accepted_line (normaliser g) e (ap (all not_control) q.is ∙ quoted_shown q.fields))
    (λ e. refused_line (normaliser g) e)

line_more : (t u : Text) (o : OneLine t) → lines_of (t ++ u) ≡ o.line ∷ lines_of u
line_more t u o = ap (λ (s : Text). lines_of (s ++ u)) o.ends ∙ ap lines_of (append_assoc o.line (text "\n") u) ∙ lines_first o.line u o.none

module _ (homes paths params : Text) where
  said_lines : (v : Variables) (ls : List Text) → length (lines_of (said_of homes paths params v ls)) ≡ length ls
  unfolding said_of lines_of
  said_lines v [] = refl
  said_lines v (l ∷ ls) =
      ap length (line_more (said (normaliser (given_line homes paths params l v))) (said_of homes paths params (after_line homes paths params v l) ls)
      (answer_line (given_line homes paths params l v)))
      ∙ ap suc (said_lines (after_line homes paths params v l) ls)

-- it writes as many lines as it reads
pub program_lines : (shouts : Bool) (vars homes paths : Option Text) (arguments : List Text) (input : Text)
    → length (lines_of (program shouts vars homes paths arguments input)) ≡ length (lines_of input)
unfolding program
program_lines shouts vars homes paths arguments input =
    said_lines (table_or homes) (table_or paths) (image arguments) (first_variables shouts vars) (lines_of input)
