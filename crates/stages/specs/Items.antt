-- Document 01, "Reading a line", and document 02, E1, E5, E9 and E12: what stands at the head of a text. Every rule of reading is here, nothing recurs.
use Rattle.std.specs.Prelude.{ℕ, zero, suc, ◌+◌, ◌-◌, ◌*◌, Bool, true, false, ◌&&◌, ◌||◌, [], ◌∷◌, eqb, length}
use Prim.Native.Char.{code}
use Rattle.stages.specs.Numbers.{unended, bare_operator, substitution, unserved, bad_syntax, too_deep}
use Rattle.stages.specs.Bytes.{Text, text, is_in, between, span, is_name_start, is_name_byte, is_digit, is_login_byte, is_blank, is_operator}
use Rattle.stages.specs.Outcome.{pick}
use Rattle.stages.specs.Escapes.{Said, says, unsaid, escape_at}
use Rattle.stages.specs.Syntax.{Start, fresh, begun, Mode, word, value, bare, single, double, quoted_operand, arith, Escape, escaped, unescaped}
use Rattle.stages.specs.Syntax.{no_escapes, with_escapes}
use Rattle.stages.specs.Syntax.{Colon, with_colon, no_colon, Side, suffix, prefix, shortest, longest}
use Rattle.stages.specs.Syntax.{Form, minus, equals, query, plus, removal}
use Rattle.stages.specs.Syntax.{Param, var, nth, Counted, bytes_of, parameters, Spread, apart, joint, Lists, served, barred}

-- what a byte is where it stands
pub data Sort : Type 0 where
  backquote closes operator quotes quotes2 backslash escape dollar bad opening closing tilde literal : Sort

-- 01: "a bare `~` starting a word of the line"; 02: "a bare `~` that begins an operand read as bare text is looked at too"; E9: "after the `=` and after each
-- bare literal `:`"
unfoldable pub begins_tilde : Start → ℕ → Bool
begins_tilde fresh b = eqb b (code "~")
begins_tilde begun b = false

-- "Bare blank, tab, newline separate words.": in a word, of which a value is the end
abbrev pub word_sort : Start → ℕ → Sort
word_sort s b =
    pick (begins_tilde s b) tilde (pick (eqb b (code "`")) backquote (pick (is_blank b) closes (pick (is_operator b) operator (pick (eqb b (code "'")) quotes
    (pick (eqb b (code "\"")) quotes2 (pick (eqb b (code "\\")) backslash (pick (eqb b (code "$")) dollar literal)))))))

-- "A backquote outside single quotes .. is 9 before any other fault there." "`'` runs to the next `'`." "The operand ends at the first `}` not quoted or in an
-- inner expansion." "a plain `"` is 11"; "a quote or backslash anywhere in the text outside operands, is 11". "All other bare bytes are literal." E12: "any
-- other byte in it, a backquote too, is itself"
unfoldable pub sort : Mode → ℕ → Sort
unfolding begins_tilde is_blank is_operator
sort (word s) b = word_sort s b
sort (value s) b = word_sort s b
sort (bare s l) b =
    pick (begins_tilde s b) tilde (pick (eqb b (code "`")) backquote (pick (eqb b (code "}")) closes (pick (eqb b (code "'")) quotes
    (pick (eqb b (code "\"")) quotes2 (pick (eqb b (code "\\")) backslash (pick (eqb b (code "$")) dollar literal))))))
sort (single no_escapes) b = pick (eqb b (code "'")) closes literal
sort (single with_escapes) b = pick (eqb b (code "'")) closes (pick (eqb b (code "\\")) escape literal)
sort (double l) b =
    pick (eqb b (code "`")) backquote (pick (eqb b (code "\"")) closes
    (pick (eqb b (code "\\")) backslash (pick (eqb b (code "$")) dollar literal)))
sort (quoted_operand l) b =
    pick (eqb b (code "`")) backquote (pick (eqb b (code "}")) closes (pick (eqb b (code "\"")) bad
    (pick (eqb b (code "\\")) backslash (pick (eqb b (code "$")) dollar literal))))
sort (arith n) b =
    pick (eqb b (code "`")) backquote (pick (is_in b (text "'\"\\")) bad (pick (eqb b (code "(")) opening
    (pick (eqb b (code ")")) closing (pick (eqb b (code "$")) dollar literal))))

-- What stands at the head of a text. A number k last: so many bytes behind the first one belong to it.
pub data Item : Type 0 where
  fault : ℕ → Item  -- refused with the number
  stop : ℕ → Item  -- the text ends here, and so many bytes are taken
  byte : Escape → ℕ → ℕ → Item  -- a byte that stands for itself
  paren : ℕ → ℕ → Item  -- a parenthesis of an arithmetic text; how many are open behind it
  quote : Mode → ℕ → Item  -- a quote opens
  value_of : Param → ℕ → Item  -- $name, ${name}
  count : Counted → ℕ → Item  -- ${#name}, $#, ${#}
  spread : Spread → ℕ → Item  -- $@, ${@}, $*, ${*}
  inner : Param → Form → Mode → ℕ → Item  -- ${name FORM, and the operand's mode
  sum : Item  -- $((
  home_of : Text → ℕ → Item  -- ~login

-- a byte that does not fit: "line ends inside a .. brace", "A backquote .. is 9 before any other fault there", else the number
unfoldable pub wrong : ℕ → Text → Item
wrong n [] = fault unended
wrong n (b ∷ t) = pick (eqb b (code "`")) (fault substitution) (fault n)

-- "A bare backslash quotes the next byte"; "Within `"..."` a backslash quotes only `$`, backquote, `"`, `\`"; "`\}` gives `}`". Never asked of '...',
-- where a backslash is literal, nor of arithmetic, where it is 11
unfoldable pub quotable : Mode → ℕ → Bool
quotable (word s) b = true
quotable (value s) b = true
quotable (bare s l) b = true
quotable (single e) b = false
quotable (double l) b = is_in b (text "$`\"\\")
quotable (quoted_operand l) b = is_in b (text "$`\"\\}")
quotable (arith n) b = false

-- behind a backslash: "before a newline it is 11, also in double quotes"; "otherwise it is itself"
unfoldable pub behind_backslash : Mode → Text → Item
unfolding quotable
behind_backslash m [] = fault unended
behind_backslash m (b ∷ t) = pick (eqb b (code "\n")) (fault bad_syntax) (pick (quotable m b) (byte escaped b 1) (byte unescaped (code "\\") 0))

-- E12: behind a backslash in `$'...'`, what an escape says
unfoldable pub said_item : Said → Item
said_item (says b k) = byte escaped b k
said_item (unsaid n) = fault n

-- E5: whether `$@` and `$*` may stand in a text; E9: "`$@` and `$*` in values are 10"
unfoldable pub lists_in : Mode → Lists
lists_in (word s) = served
lists_in (value s) = barred
lists_in (bare s l) = l
lists_in (single e) = barred
lists_in (double l) = l
lists_in (quoted_operand l) = l
lists_in (arith n) = barred

-- E5, "At any depth": they may stand in an operand where they may around it and its form lets them
unfoldable pub both : Lists → Lists → Lists
both served l = l
both barred l = barred

-- E5, "in operands of `=`, `?`": those of `-` and `+` let them
unfoldable pub let_by : ℕ → Lists
let_by b = pick (is_in b (text "-+")) served barred

-- "inside double quotes or arithmetic, the operands of `-=?+` are read as double-quoted text"; the second is whether the form lets lists stand. Never
-- asked of '...', where a `$` is literal
unfoldable pub operand_mode : Mode → Lists → Mode
unfolding both
operand_mode (word s) k = bare fresh k
operand_mode (value s) k = bare fresh barred
operand_mode (bare s l) k = bare fresh (both l k)
operand_mode (single e) k = bare fresh barred
operand_mode (double l) k = quoted_operand (both l k)
operand_mode (quoted_operand l) k = quoted_operand (both l k)
operand_mode (arith n) k = quoted_operand barred

-- the form of one of `-=?+`
unfoldable pub sign_form : ℕ → Colon → Form
sign_form b colon = pick (eqb b (code "-")) (minus colon) (pick (eqb b (code "=")) (equals colon) (pick (eqb b (code "?")) (query colon) (plus colon)))

-- E5: "`=` on one stays 10"
unfoldable pub is_numbered : Param → Bool
is_numbered (var x) = false
is_numbered (nth k) = true

-- behind one of `-=?+`, the sign b: its operand
unfoldable pub behind_sign : Mode → Param → Colon → ℕ → ℕ → Item
unfolding let_by operand_mode sign_form is_numbered
behind_sign m x colon k b = pick (is_numbered x && eqb b (code "=")) (fault unserved) (inner x (sign_form b colon) (operand_mode m (let_by b)) k)

-- behind `${name:`, k bytes with the next one: "`:` and one of `-=?+`"
unfoldable pub behind_colon : Mode → Param → ℕ → Text → Item
unfolding wrong behind_sign
behind_colon m x k [] = wrong bad_syntax []
behind_colon m x k (b ∷ t) = pick (is_in b (text "-=?+")) (behind_sign m x with_colon k b) (wrong bad_syntax (b ∷ t))

-- behind `${name%` or `${name#`: "the longer of `%%`, `%`, or of `##`, `#`"; "Operands of the four removals are always read as bare text"
unfoldable pub behind_removal : Param → Side → ℕ → ℕ → Text → Item
behind_removal x side sign k [] = inner x (removal side shortest) (bare fresh barred) k
behind_removal x side sign k (b ∷ t) =
    pick (eqb b sign) (inner x (removal side longest) (bare fresh barred) (suc k)) (inner x (removal side shortest) (bare fresh barred) k)

-- behind `${name`, k bytes with the next one: "After `${name` comes `}`, or `:` and one of `-=?+`, or one of these alone, or the longer of
-- `%%`, `%`, or of `##`, `#`; anything else is 11."
unfoldable pub behind_name : Mode → Param → ℕ → Text → Item
unfolding wrong behind_sign behind_colon behind_removal
behind_name m x k [] = wrong bad_syntax []
behind_name m x k (b ∷ t) =
    pick (eqb b (code "}")) (value_of x k)
    (pick (eqb b (code ":")) (behind_colon m x (suc k) t)
    (pick (is_in b (text "-=?+")) (behind_sign m x no_colon k b)
    (pick (eqb b (code "%")) (behind_removal x suffix b k t)
    (pick (eqb b (code "#")) (behind_removal x prefix b k t) (wrong bad_syntax (b ∷ t))))))

-- behind `${#name`: "only `}` may come"
unfoldable pub behind_length : Param → ℕ → Text → Item
unfolding wrong
behind_length x k [] = wrong bad_syntax []
behind_length x k (b ∷ t) = pick (eqb b (code "}")) (count (bytes_of x) k) (wrong bad_syntax (b ∷ t))

-- E5: a digit that may begin a number: "a leading zero stays 10"
unfoldable pub is_first_digit : ℕ → Bool
is_first_digit b = between (code "1") b (code "9")

-- the number that decimal digits go on to from n
unfoldable pub number_of : ℕ → Text → ℕ
number_of n [] = n
number_of n (b ∷ t) = number_of (n * 10 + (b - code "0")) t

-- a name, or by E5 a number, how many bytes it has, and what it is followed by: "a byte that cannot begin the name is 10"
unfoldable pub name_then : (Param → ℕ → Text → Item) → Text → Item
unfolding wrong is_name_start is_name_byte is_first_digit is_digit number_of span
name_then behind [] = wrong unserved []
name_then behind (b ∷ t) =
    pick (is_name_start b) (behind (var (span is_name_byte (b ∷ t)).0) (length (span is_name_byte (b ∷ t)).0) (span is_name_byte (b ∷ t)).1)
    (pick (is_first_digit b) (behind (nth (number_of 0 (span is_digit (b ∷ t)).0)) (length (span is_digit (b ∷ t)).0) (span is_digit (b ∷ t)).1)
    (wrong unserved (b ∷ t)))

-- behind `${#`: E5's `$#` in braces, or a length
unfoldable pub behind_hash : Text → Item
unfolding wrong name_then behind_length
behind_hash [] = wrong unserved []
behind_hash (b ∷ t) = pick (eqb b (code "}")) (count parameters 3) (name_then (λ x k u. behind_length x (k + 3) u) (b ∷ t))

-- E5: `$@` is given apart, `$*` joint
unfoldable pub spread_of : ℕ → Spread
spread_of b = pick (eqb b (code "*")) joint apart

-- E5: the sign b of `$@` or `$*` where it may stand, k bytes being behind the `$`
unfoldable pub spread_at : Lists → ℕ → ℕ → Item
unfolding spread_of
spread_at served b k = spread (spread_of b) k
spread_at barred b k = fault unserved

-- E5, "so do length and operators on them": behind `${@:` or `${*:` ..
unfoldable pub behind_list_colon : Text → Item
unfolding wrong
behind_list_colon [] = wrong bad_syntax []
behind_list_colon (b ∷ t) = pick (is_in b (text "-=?+")) (fault unserved) (wrong bad_syntax (b ∷ t))

-- .. and behind `${@` or `${*`, c being the sign
unfoldable pub behind_list : ℕ → Text → Item
unfolding wrong spread_of behind_list_colon
behind_list c [] = wrong bad_syntax []
behind_list c (b ∷ t) =
    pick (eqb b (code "}")) (spread (spread_of c) 3)
    (pick (eqb b (code ":")) (behind_list_colon t)
    (pick (is_in b (text "-=?+%#")) (fault unserved) (wrong bad_syntax (b ∷ t))))

-- "`$@`, `$*` and these .. in braces", c being the sign
unfoldable pub braced_list : Lists → ℕ → Text → Item
unfolding behind_list
braced_list served c t = behind_list c t
braced_list barred c t = fault unserved

-- behind `${`, where d expansions may still open: "`${` takes a name, or `#` and a name for the length"
unfoldable pub braced : Mode → ℕ → Text → Item
unfolding wrong name_then behind_name behind_hash lists_in braced_list
braced m zero t = fault too_deep
braced m (suc d) [] = wrong unserved []
braced m (suc d) (b ∷ t) =
    pick (eqb b (code "#")) (behind_hash t)
    (pick (is_in b (text "@*")) (braced_list (lists_in m) b t)
    (name_then (λ x k u. behind_name m x (k + 2) u) (b ∷ t)))

-- behind `$(`: "`$((` opens arithmetic; `$(` otherwise is 9"
unfoldable pub parenthesis : ℕ → Text → Item
parenthesis d [] = fault substitution
parenthesis zero (b ∷ t) = pick (eqb b (code "(")) (fault too_deep) (fault substitution)
parenthesis (suc d) (b ∷ t) = pick (eqb b (code "(")) sum (fault substitution)

-- 01: "`$` before a digit or one of `@*#?-$!` is 10", but for what E5 serves
unfoldable pub not_served : ℕ → Bool
not_served b = is_in b (text "0?-$!")

-- 01: "and so is `$'` in bare text"; E12: "Serve `$'...'` where 10 was given". Never asked of '...', where a `$` is literal
unfoldable pub is_bare_text : Mode → Bool
is_bare_text (word s) = true
is_bare_text (value s) = true
is_bare_text (bare s l) = true
is_bare_text (single e) = false
is_bare_text (double l) = false
is_bare_text (quoted_operand l) = false
is_bare_text (arith n) = false

-- behind `$`: "`$` before a letter or `_` takes the longest name." "Any other `$` is literal." E5: "`$1` to `$9`, .. `$#`, `$@`, `$*`"
unfoldable pub expansion : Mode → ℕ → Text → Item
unfolding is_name_start is_name_byte span parenthesis braced is_first_digit lists_in spread_at not_served is_bare_text
expansion m d [] = byte unescaped (code "$") 0
expansion m d (b ∷ t) =
    pick (is_name_start b) (value_of (var (span is_name_byte (b ∷ t)).0) (length (span is_name_byte (b ∷ t)).0))
    (pick (eqb b (code "(")) (parenthesis d t)
    (pick (eqb b (code "{")) (braced m d t)
    (pick (is_first_digit b) (value_of (nth (b - code "0")) 1)
    (pick (eqb b (code "#")) (count parameters 1)
    (pick (is_in b (text "@*")) (spread_at (lists_in m) b 1)
    (pick (not_served b) (fault unserved)
    (pick (is_bare_text m && eqb b (code "'")) (quote (single with_escapes) 1) (byte unescaped (code "$") 0))))))))

-- behind an outer `)`: "ends at `))`; an outer `)` followed by another byte or the line's end .. is 11"
unfoldable pub outer : Text → Item
outer [] = fault bad_syntax
outer (b ∷ t) = pick (eqb b (code ")")) (stop 2) (pick (eqb b (code "`")) (fault substitution) (fault bad_syntax))

-- "Arithmetic text balances its parentheses". Never asked: the first six cases, since only arithmetic has the sort `opening`
unfoldable pub opened : Mode → ℕ → Item
opened (word s) b = byte unescaped b 0
opened (value s) b = byte unescaped b 0
opened (bare s l) b = byte unescaped b 0
opened (single e) b = byte unescaped b 0
opened (double l) b = byte unescaped b 0
opened (quoted_operand l) b = byte unescaped b 0
opened (arith n) b = paren b (suc n)

-- The same for the sort `closing`. Never asked: the first six cases
unfoldable pub closed : Mode → ℕ → Text → Item
unfolding outer
closed (word s) b t = byte unescaped b 0
closed (value s) b t = byte unescaped b 0
closed (bare s l) b t = byte unescaped b 0
closed (single e) b t = byte unescaped b 0
closed (double l) b t = byte unescaped b 0
closed (quoted_operand l) b t = byte unescaped b 0
closed (arith zero) b t = outer t
closed (arith (suc n)) b t = paren b n

-- how many bytes end a text: a word's blank is not part of it. Never asked of arithmetic, where no byte has the sort `closes`
unfoldable pub closer_length : Mode → ℕ
closer_length (word s) = 0
closer_length (value s) = 0
closer_length (bare s l) = 1
closer_length (single e) = 1
closer_length (double l) = 1
closer_length (quoted_operand l) = 1
closer_length (arith n) = 1

-- "line ends inside a quote, brace or arithmetic"
unfoldable pub ended : Mode → Item
ended (word s) = stop 0
ended (value s) = stop 0
ended (bare s l) = fault unended
ended (single e) = fault unended
ended (double l) = fault unended
ended (quoted_operand l) = fault unended
ended (arith n) = fault unended

-- the bytes of the text that end a login; E9: "(the login then also ends at a `:`)"
unfoldable pub login_ends : Mode → Text
login_ends (word s) = text "/"
login_ends (value s) = text "/:"
login_ends (bare s l) = text "/"
login_ends (single e) = text "/"
login_ends (double l) = text "/"
login_ends (quoted_operand l) = text "/"
login_ends (arith n) = text "/"

-- the text ends with a byte of this sort
unfoldable pub is_closer : Sort → Bool
is_closer backquote = false
is_closer closes = true
is_closer operator = false
is_closer quotes = false
is_closer quotes2 = false
is_closer backslash = false
is_closer escape = false
is_closer dollar = false
is_closer bad = false
is_closer opening = false
is_closer closing = false
is_closer tilde = false
is_closer literal = false

-- 01: "if the bytes up to the first `/` or the word's end are all login bytes"; 02: "its login ending at the first `/` or the operand's end"
unfoldable pub ends_login : Mode → Text → Bool
unfolding login_ends is_closer sort
ends_login m [] = true
ends_login m (b ∷ t) = is_in b (login_ends m) || is_closer (sort m b)

-- behind a tilde b that is looked at: the longest run of login bytes is the login, if it ends there
unfoldable pub behind_tilde : Mode → ℕ → Text → Item
unfolding ends_login span is_login_byte
behind_tilde m b t =
    pick (ends_login m (span is_login_byte t).1) (home_of (span is_login_byte t).0 (length (span is_login_byte t).0)) (byte unescaped b 0)

unfoldable pub item_of : Sort → Mode → ℕ → ℕ → Text → Item
unfolding closer_length behind_backslash said_item escape_at expansion opened closed behind_tilde lists_in
item_of backquote m d b t = fault substitution
item_of closes m d b t = stop (closer_length m)
item_of operator m d b t = fault bare_operator
item_of quotes m d b t = quote (single no_escapes) 0
item_of quotes2 m d b t = quote (double (lists_in m)) 0
item_of backslash m d b t = behind_backslash m t
item_of escape m d b t = said_item (escape_at t)
item_of dollar m d b t = expansion m d t
item_of bad m d b t = fault bad_syntax
item_of opening m d b t = opened m b
item_of closing m d b t = closed m b t
item_of tilde m d b t = behind_tilde m b t
item_of literal m d b t = byte unescaped b 0

-- what stands at the head of a text, where d expansions may still open
unfoldable pub item : Mode → ℕ → Text → Item
unfolding ended item_of sort
item m d [] = ended m
item m d (b ∷ t) = item_of (sort m b) m d b t

-- the mode in which a text goes on behind its first item
unfoldable pub onward : Mode → Mode
onward (word s) = word begun
onward (value s) = value begun
onward (bare s l) = bare begun l
onward (single e) = single e
onward (double l) = double l
onward (quoted_operand l) = quoted_operand l
onward (arith n) = arith n

-- E9, "after each bare literal `:`": whether a tilde is looked at behind a byte of a value
unfoldable pub start_behind : Escape → ℕ → Start
start_behind escaped b = begun
start_behind unescaped b = pick (eqb b (code ":")) fresh begun

-- the mode in which a text goes on behind a byte that stands for itself
unfoldable pub behind_byte : Mode → Escape → ℕ → Mode
unfolding start_behind onward
behind_byte (word s) q b = onward (word s)
behind_byte (value s) q b = value (start_behind q b)
behind_byte (bare s l) q b = onward (bare s l)
behind_byte (single e) q b = onward (single e)
behind_byte (double l) q b = onward (double l)
behind_byte (quoted_operand l) q b = onward (quoted_operand l)
behind_byte (arith n) q b = onward (arith n)
