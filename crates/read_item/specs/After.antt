-- The item where a text is read, and what comes after it.
use Rattle.std.specs.Prelude.{ℕ, ◌-◌, Bool, true, false, ◌&&◌, [], ◌∷◌, eqb, drop, Result, Ok, Err}
use Prim.Native.Char.{code}
use Rattle.stages.specs.Numbers.{unserved}
use Rattle.stages.specs.Bytes.{Text, text, is_in}
use Rattle.stages.specs.Outcome.{pick}
use Rattle.stages.specs.Syntax.{unescaped, nth, parameters, single, with_escapes}
use Rattle.stages.specs.Syntax as syntax
use Rattle.stages.specs.Items.{item, sort, is_closer, fault, byte, quote, value_of, count, is_first_digit, lists_in, spread_at, not_served, is_bare_text}
use Rattle.stages.specs.Items as items
use Rattle.text.specs.declared.refusal.Refusal.{Refusal}
use Rattle.read_mode.specs.Modes.{mode_of, mode_onward, mode_behind}
use Rattle.read_mode.specs.declared.Cursor.{Cursor}
use Rattle.read_mode.specs.declared.Mode.{Mode}
use Rattle.read_mode.specs.declared.Mode.TheVariants.{Word, Value, Bare, Single, Double, Operand, Arith}
use Rattle.read_brace.specs.Shows.{Shows, Finds}
use Rattle.read_brace.specs.declared.Item.{Item}
use Rattle.read_brace.specs.declared.Item.TheVariants.{Stop, Byte, Paren, Quote, Value, Count, Total, Spread, Inner, Sum, Home}

-- the item is what stands where the text is read
abbrev pub ItemAt : Text → Cursor → Item → Type 0
ItemAt text from i = Shows text from.at from.depth i (item (mode_of from.mode) from.depth (drop from.at text))

-- or it is what is refused there
abbrev pub FoundAt : Text → Cursor → Result Item Refusal → Type 0
FoundAt text from r = Finds text from.at from.depth r (item (mode_of from.mode) from.depth (drop from.at text))

-- what `$'` is
unfoldable pub dollar_quote : syntax.Mode → items.Item
unfolding is_bare_text
dollar_quote m = pick (is_bare_text m) (quote (single with_escapes) 1) (byte unescaped (code "$") 0)

-- what `$` is before a byte that begins no name, no parenthesis and no brace
unfoldable pub special : syntax.Mode → ℕ → items.Item
unfolding is_first_digit lists_in spread_at not_served is_bare_text
special m b =
    pick (is_first_digit b) (value_of (nth (b - code "0")) 1)
    (pick (eqb b (code "#")) (count parameters 1)
    (pick (is_in b (text "@*")) (spread_at (lists_in m) b 1)
    (pick (not_served b) (fault unserved)
    (pick (is_bare_text m && eqb b (code "'")) (quote (single with_escapes) 1) (byte unescaped (code "$") 0)))))

-- the mode in which the text goes on: a parenthesis changes it, a byte may let a tilde begin, and behind its first item a text has begun
abbrev pub mode_after : Item → Mode → Mode
mode_after (Stop next) m = mode_onward m
mode_after (Byte q b next) m = mode_behind m q b
mode_after (Paren b n) m = Arith n
mode_after (Quote inner next) m = mode_onward m
mode_after (Value p next) m = mode_onward m
mode_after (Count p next) m = mode_onward m
mode_after (Total next) m = mode_onward m
mode_after (Spread a next) m = mode_onward m
mode_after (Inner p f inner next) m = mode_onward m
mode_after (Sum next) m = mode_onward m
mode_after (Home to) m = mode_onward m

-- the text ends with the item
abbrev pub is_stop : Item → Bool
is_stop (Stop next) = true
is_stop (Byte q b next) = false
is_stop (Paren b n) = false
is_stop (Quote inner next) = false
is_stop (Value p next) = false
is_stop (Count p next) = false
is_stop (Total next) = false
is_stop (Spread a next) = false
is_stop (Inner p f inner next) = false
is_stop (Sum next) = false
is_stop (Home to) = false

-- .. and with what is read, which a fault doesn't end; behind one it would go on as behind its first item
abbrev pub stops_read : {R : Type 0} → Result Item R → Bool
stops_read (Ok i) = is_stop i
stops_read (Err e) = false

abbrev pub mode_after_read : {R : Type 0} → Result Item R → Mode → Mode
mode_after_read (Ok i) m = mode_after i m
mode_after_read (Err e) m = mode_onward m

-- the text ends where it is read, as its next byte or the line's end says; never said of arithmetic, which two bytes end
abbrev pub is_end : Mode → Text → Bool
is_end (Word fresh) [] = true
is_end (Value fresh) [] = true
is_end (Bare fresh lists) [] = false
is_end (Single escapes) [] = false
is_end (Double lists) [] = false
is_end (Operand lists) [] = false
is_end (Arith n) [] = false
is_end m (b ∷ t) = is_closer (sort (mode_of m) b)
