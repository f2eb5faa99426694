-- A Boolean of the code is what its case of the stages is taken back to, and a case what its Boolean stands for.
use mathlib.Core.Path.{◌≡◌, refl}
use mathlib.Core.Bool.{Bool, true, false}
use Rattle.stages.specs.Syntax.{Escape, escaped, unescaped}
use Rattle.stages.specs.Pattern.{is_for_paths}
use Rattle.text.specs.Cases.{escape_of, is_escaped, colon_of, has_colon, reach_of, is_longest, purpose_of, start_of, is_fresh, spread_of, is_apart, lists_of}
use Rattle.text.specs.Cases.{escapes_of, has_escapes}
use Rattle.text.specs.Cases.{is_served}

pub escape_back : (b : Bool) → b ≡ is_escaped (escape_of b)
escape_back true = refl
escape_back false = refl

pub escape_there : (q : Escape) → q ≡ escape_of (is_escaped q)
escape_there escaped = refl
escape_there unescaped = refl

pub colon_back : (b : Bool) → b ≡ has_colon (colon_of b)
colon_back true = refl
colon_back false = refl

pub reach_back : (b : Bool) → b ≡ is_longest (reach_of b)
reach_back true = refl
reach_back false = refl

pub purpose_back : (b : Bool) → b ≡ is_for_paths (purpose_of b)
purpose_back true = refl
purpose_back false = refl

pub start_back : (b : Bool) → b ≡ is_fresh (start_of b)
start_back true = refl
start_back false = refl

pub spread_back : (b : Bool) → b ≡ is_apart (spread_of b)
spread_back true = refl
spread_back false = refl

pub lists_back : (b : Bool) → b ≡ is_served (lists_of b)
lists_back true = refl
lists_back false = refl

pub escapes_back : (b : Bool) → b ≡ has_escapes (escapes_of b)
escapes_back true = refl
escapes_back false = refl
