-- The stage's gap, by the mark and in quotes by how the parameters are given.
use Rattle.std.proofs.Common.{inl, inr}
use Rattle.expand_list.proofs.Gaps.{gap_literal, gap_expanded, gap_apart, gap_joint}
use Rattle.expand_list.proofs.gap_of.Goals as goal

pub returns-in-L : goal.returns-in-L
returns-in-L c = elim c.in-L.is [ inl e ↦ gap_literal _ _ e | inr e ↦ gap_expanded _ _ e ]

pub returns-in-Q : goal.returns-in-Q
returns-in-Q c = gap_apart _ c.in-Q.is c.if-apart.true

pub returns-in-Q-2 : goal.returns-in-Q-2
returns-in-Q-2 c = gap_joint _ c.in-Q.is c.joint_gap.result c.if-apart.false c.joint_gap.ensures
