-- Each gap is put as its marks are: two of them behind each other.
use Rattle.std.proofs.Common.{◌≤◌, length, refl, arith}
use Rattle.text.specs.Rows.{row_bytes}
use Rattle.expand_list.proofs.Gaps.{gap_room, gap_front, both_put}
use Rattle.expand_list.proofs.put_gap.Goals as goal

pub returns-in-BreakEmpty : goal.returns-in-BreakEmpty
returns-in-BreakEmpty c =
    let wide : 4 ≤ length c.args.area.now = omega (arith, gap_room c.in-BreakEmpty.is c.requires) in
    gap_front c.in-BreakEmpty.is _ (both_put _ wide c.put_break-in-BreakEmpty.ensures c.put_empty.ensures)

pub returns-in-Nothing : goal.returns-in-Nothing
unfolding row_bytes
returns-in-Nothing c = gap_front c.in-Nothing.is _ refl
