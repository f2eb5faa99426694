-- The byte behind the login decides.
use Rattle.read_item.proofs.Tildes.{login_to_end, login_ends_lem, login_breaks}
use Rattle.read_item.proofs.tilde_at.Goals as goal
use Rattle.read_item.proofs.tilde_at.Goals.{then-to-text-via-then-to-text, then-to-text-via-else-to-text+then-ends_login}

pub returns-then-to-text : goal.returns-then-to-text
returns-then-to-text c =
    let a = c.args in
    elim c.then-to-text.branch [
      | then-to-text-via-then-to-text w ↦ login_to_end a.text.now a.from c.run_end-to.result c.run_end-to.ensures w.if-to-text.true
      | then-to-text-via-else-to-text+then-ends_login w ↦
          login_ends_lem a.text.now a.from c.run_end-to.result c.run_end-to.ensures w.if-to-text.false w.ends_login.ensures w.if-ends_login.true
    ]

pub returns : goal.returns
returns c =
    let a = c.args in
    login_breaks a.text.now a.from c.run_end-to.result c.run_end-to.ensures c.if-to-text.false c.ends_login.ensures
    c.requires c.if-ends_login.false
