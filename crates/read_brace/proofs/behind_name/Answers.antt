-- The byte after the name decides.
use mathlib.Core.Path.{refl, sym, ◌∙◌}
use native.Mathlib.Omega.{arith}
use Rattle.read_brace.proofs.Names.{ended, no_sign, name_end, name_close, name_colon, name_sign, name_suffix, name_prefix, name_wrong}
use Rattle.read_brace.proofs.behind_name.Goals as goal

pub returns-then-to-text : goal.returns-then-to-text
returns-then-to-text c =
    let a = c.args in
    name_end a.text.now a.from a.param c.if-to-text.true

pub returns-then-b-eq125 : goal.returns-then-b-eq125
returns-then-b-eq125 c =
    let a = c.args in
    let r = c.requires in
    let e = ended a.text.now a.from a.param (r.0, r.1, c.if-to-text.false, r.3) in
    name_close e c.if-b-eq125.true

pub behind_colon-requires : goal.behind_colon-requires
behind_colon-requires c =
    (c.requires.0, c.requires.1, c.if-to-text.false, c.requires.3)

pub returns-then-b-eq58 : goal.returns-then-b-eq58
returns-then-b-eq58 c =
    let a = c.args in
    let r = c.requires in
    let e = ended a.text.now a.from a.param (r.0, r.1, c.if-to-text.false, r.3) in
    name_colon e c.if-b-eq125.false c.if-b-eq58.true c.behind_colon.result
    c.behind_colon.ensures

pub behind_sign-requires : goal.behind_sign-requires
behind_sign-requires c =
    let p = c.requires in
    (p.0, p.1, omega arith, refl, omega (arith, c.if-to-text.false), p.3)

pub returns-then-is_in : goal.returns-then-is_in
returns-then-is_in c =
    let a = c.args in
    let r = c.requires in
    let e = ended a.text.now a.from a.param (r.0, r.1, c.if-to-text.false, r.3) in
    name_sign e c.if-b-eq125.false
    c.if-b-eq58.false (sym c.is_in.ensures ∙ c.if-is_in.true)
    c.behind_sign.result c.behind_sign.ensures

pub removal_at-requires : goal.removal_at-requires
removal_at-requires c =
    (c.requires.0, c.requires.1, c.if-to-text.false, c.requires.3)

pub returns-then-b-eq37 : goal.returns-then-b-eq37
returns-then-b-eq37 c =
    let a = c.args in
    let r = c.requires in
    let e = ended a.text.now a.from a.param (r.0, r.1, c.if-to-text.false, r.3) in
    let n = no_sign e c.if-b-eq125.false c.if-b-eq58.false (sym c.is_in.ensures ∙ c.if-is_in.false) in
    name_suffix n c.if-b-eq37.true c.removal_at.result c.removal_at.ensures

pub removal_at-requires-then-b-eq35 : goal.removal_at-requires-then-b-eq35
removal_at-requires-then-b-eq35 c =
    (c.requires.0, c.requires.1, c.if-to-text.false, c.requires.3)

pub returns-then-b-eq35 : goal.returns-then-b-eq35
returns-then-b-eq35 c =
    let a = c.args in
    let r = c.requires in
    let e = ended a.text.now a.from a.param (r.0, r.1, c.if-to-text.false, r.3) in
    let n = no_sign e c.if-b-eq125.false c.if-b-eq58.false (sym c.is_in.ensures ∙ c.if-is_in.false) in
    name_prefix n c.if-b-eq37.false c.if-b-eq35.true c.removal_at-then-b-eq35.result c.removal_at-then-b-eq35.ensures

pub returns : goal.returns
returns c =
    let a = c.args in
    let r = c.requires in
    let e = ended a.text.now a.from a.param (r.0, r.1, c.if-to-text.false, r.3) in
    let n = no_sign e c.if-b-eq125.false c.if-b-eq58.false (sym c.is_in.ensures ∙ c.if-is_in.false) in
    name_wrong n c.if-b-eq37.false c.if-b-eq35.false c.wrong_byte.result c.wrong_byte.ensures
