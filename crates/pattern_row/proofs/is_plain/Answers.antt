-- A unit that is a sign ends the walk, any other is passed.
use Rattle.std.proofs.Common.{◌≡◌, ◌+◌, ◌*◌, refl, arith}
use borrow.Author.Tests.{ne_eqb}
use Rattle.pattern_row.proofs.Plain.{sign, seek_end, seek_found, seek_on}
use Rattle.pattern_row.proofs.is_plain.Goals as goal
use Rattle.pattern_row.proofs.is_plain.Goals.{
  then-b-eq42-via-then-b-eq42,
  then-b-eq42-via-else-b-eq42+then-b-eq63,
  then-b-eq42-via-else-b-eq42+else-b-eq63+then-b-eq91,
}

pub returns-then-b-eq42 : goal.returns-then-b-eq42
returns-then-b-eq42 c =
    seek_found c.loop-k.invariant (omega arith)
    (elim c.then-b-eq42.branch [
      | then-b-eq42-via-then-b-eq42 w ↦ sign _ 42 refl w.if-b-eq42.true
      | then-b-eq42-via-else-b-eq42+then-b-eq63 w ↦ sign _ 63 refl w.if-b-eq63.true
      | then-b-eq42-via-else-b-eq42+else-b-eq63+then-b-eq91 w ↦ sign _ 91 refl w.if-b-eq91.true
    ])

pub loop-k-preserved : goal.loop-k-preserved
loop-k-preserved c =
    let next : 2 * (c.loop-k.k + 1) ≡ 2 * c.loop-k.k + 2 = omega arith in
    rw next
    (seek_on c.loop-k.invariant (omega arith)
    (rw (ne_eqb _ _ c.if-b-eq42.false, ne_eqb _ _ c.if-b-eq63.false, ne_eqb _ _ c.if-b-eq91.false)))

pub returns : goal.returns
returns c = seek_end c.loop-k.invariant (omega arith)
