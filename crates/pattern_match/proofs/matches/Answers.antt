-- From the pattern's first place and the text's: the run up to the first star decides, or the star that it meets.
use mathlib.Core.Path.{sym, ◌∙◌}
use Rattle.pattern_match.proofs.Matching.{matches_is}
use Rattle.pattern_match.proofs.matches.Goals as goal

pub returns-in-Whole : goal.returns-in-Whole
returns-in-Whole c es s = sym (c.in-Whole.ensures es s) ∙ matches_is c.args.path es c.args.text.now

pub returns-in-Fails : goal.returns-in-Fails
returns-in-Fails c es s = sym (c.in-Fails.ensures es s) ∙ matches_is c.args.path es c.args.text.now

pub returns-in-Star : goal.returns-in-Star
returns-in-Star c es s =
    let m = c.in-Star.ensures in
    c.behind_star.ensures es s ∙ sym (m.says es s) ∙ matches_is c.args.path es c.args.text.now
