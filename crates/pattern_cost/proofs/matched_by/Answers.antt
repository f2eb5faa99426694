-- Each case is the stage's test of that element.
use Rattle.pattern_cost.proofs.Matching.{star_matches, one_matches, byte_matches, bracket_matches, set_matches}
use Rattle.pattern_cost.proofs.matched_by.Goals as goal

pub returns-in-Star : goal.returns-in-Star
returns-in-Star c k l = star_matches c.args.pattern.now c.args.piece k c.in-Star.is (c.none.ensures k l)

pub returns-in-One : goal.returns-in-One
returns-in-One c k l = one_matches c.args.pattern.now c.args.piece k c.in-One.is (c.others.ensures k l) (c.none-in-One.ensures k l)

pub returns-in-Byte : goal.returns-in-Byte
returns-in-Byte c k l =
    byte_matches c.args.pattern.now c.args.piece k c.in-Byte.b c.in-Byte.is (c.with_byte.ensures k l) (c.none-in-Byte.ensures k l)

pub returns-in-Refusing : goal.returns-in-Refusing
returns-in-Refusing c k l =
    bracket_matches c.args.pattern.now c.args.piece k c.in-Refusing.is (c.with_byte-in-Refusing.ensures k l)
    (c.none-in-Refusing.ensures k l)

pub returns-in-Set : goal.returns-in-Set
returns-in-Set c k l =
    let q = c.in-Set in
    set_matches c.args.pattern.now c.args.piece k q.negative q.from q.to q.is (c.set_of.ensures k l)
