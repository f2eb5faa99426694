-- A store to a number is not served.
use Rattle.read_brace.proofs.Names.{signed, sign_unserved, sign_inner}
use Rattle.read_brace.proofs.behind_sign.Goals as goal

pub returns-then-is_numbered_store : goal.returns-then-is_numbered_store
returns-then-is_numbered_store c =
    let a = c.args in
    sign_unserved (signed a.text.now a.from a.param a.colon a.sign c.requires) c.is_numbered_store.ensures c.if-is_numbered_store.true

pub returns : goal.returns
returns c =
    let a = c.args in
    sign_inner (signed a.text.now a.from a.param a.colon a.sign c.requires) c.is_numbered_store.ensures
    c.if-is_numbered_store.false c.sign_form.result c.let_by.result c.operand_mode.result
    c.sign_form.ensures c.let_by.ensures c.operand_mode.ensures
