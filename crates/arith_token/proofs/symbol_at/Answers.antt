-- At each byte that begins a token the stage computes; any other is none.
use Prim.Native.Nat.{◌+◌}
use mathlib.Core.Option.{some}
use mathlib.Core.Path.{refl, sym, ap, ◌∙◌}
use lib.ListN.{drop}
use Rattle.stages.specs.Bytes.{is_blank, is_digit, is_letter, is_name_start}
use Rattle.stages.specs.Outcome.{choose}
use Rattle.stages.specs.Arith.{mul, div, rem, add, sub, shl, shr, le, ge, eq, ne, log_and, log_or, op, gets, Lexed, spelled, written, behind, token}
use Rattle.arith_token.specs.Tokens.{paired_by}
use Rattle.arith_token.proofs.Lexing.{single, no_token, next_place}
use Rattle.arith_token.proofs.symbol_at.Goals as goal

pub returns-in-40 : goal.returns-in-40
unfolding token choose spelled written behind is_blank is_digit is_name_start is_letter
returns-in-40 c =
    let a = c.args in
    single a.text.now a.at 40 _ c.requires c.in-40.is refl (next_place a.text.now a.at c.requires.within)

pub returns-in-41 : goal.returns-in-41
unfolding token choose spelled written behind is_blank is_digit is_name_start is_letter
returns-in-41 c =
    let a = c.args in
    single a.text.now a.at 41 _ c.requires c.in-41.is refl (next_place a.text.now a.at c.requires.within)

pub returns-in-63 : goal.returns-in-63
unfolding token choose spelled written behind is_blank is_digit is_name_start is_letter
returns-in-63 c =
    let a = c.args in
    single a.text.now a.at 63 _ c.requires c.in-63.is refl (next_place a.text.now a.at c.requires.within)

pub returns-in-58 : goal.returns-in-58
unfolding token choose spelled written behind is_blank is_digit is_name_start is_letter
returns-in-58 c =
    let a = c.args in
    single a.text.now a.at 58 _ c.requires c.in-58.is refl (next_place a.text.now a.at c.requires.within)

pub returns-in-94 : goal.returns-in-94
unfolding token choose spelled written behind is_blank is_digit is_name_start is_letter
returns-in-94 c =
    let a = c.args in
    single a.text.now a.at 94 _ c.requires c.in-94.is refl (next_place a.text.now a.at c.requires.within)

pub returns-in-126 : goal.returns-in-126
unfolding token choose spelled written behind is_blank is_digit is_name_start is_letter
returns-in-126 c =
    let a = c.args in
    single a.text.now a.at 126 _ c.requires c.in-126.is refl (next_place a.text.now a.at c.requires.within)

pub returns-in-42 : goal.returns-in-42
unfolding token choose spelled written behind is_blank is_digit is_name_start is_letter paired_by
returns-in-42 c =
    let a = c.args in
    single a.text.now a.at 42 _ c.requires c.in-42.is (sym (c.paired.ensures.is (gets (some mul)) refl)) c.paired.ensures.ends

pub returns-in-47 : goal.returns-in-47
unfolding token choose spelled written behind is_blank is_digit is_name_start is_letter paired_by
returns-in-47 c =
    let a = c.args in
    single a.text.now a.at 47 _ c.requires c.in-47.is (sym (c.paired-in-47.ensures.is (gets (some div)) refl)) c.paired-in-47.ensures.ends

pub returns-in-37 : goal.returns-in-37
unfolding token choose spelled written behind is_blank is_digit is_name_start is_letter paired_by
returns-in-37 c =
    let a = c.args in
    single a.text.now a.at 37 _ c.requires c.in-37.is (sym (c.paired-in-37.ensures.is (gets (some rem)) refl)) c.paired-in-37.ensures.ends

pub returns-in-43 : goal.returns-in-43
unfolding token choose spelled written behind is_blank is_digit is_name_start is_letter paired_by
returns-in-43 c =
    let a = c.args in
    single a.text.now a.at 43 _ c.requires c.in-43.is (sym (c.paired-in-43.ensures.is (gets (some add)) refl)) c.paired-in-43.ensures.ends

pub returns-in-45 : goal.returns-in-45
unfolding token choose spelled written behind is_blank is_digit is_name_start is_letter paired_by
returns-in-45 c =
    let a = c.args in
    single a.text.now a.at 45 _ c.requires c.in-45.is (sym (c.paired-in-45.ensures.is (gets (some sub)) refl)) c.paired-in-45.ensures.ends

pub returns-in-60 : goal.returns-in-60
unfolding token choose spelled written behind is_blank is_digit is_name_start is_letter paired_by
returns-in-60 c =
    let a = c.args in
    single a.text.now a.at 60 _ c.requires c.in-60.is
    (sym (c.paired-in-60.ensures.is (op shl) refl
    ∙ ap (λ (l : Lexed). paired_by 60 l (op shl) (drop (a.at + 1) a.text.now)) (c.paired-less.ensures.is (op le) refl)))
    c.paired-in-60.ensures.ends

pub returns-in-62 : goal.returns-in-62
unfolding token choose spelled written behind is_blank is_digit is_name_start is_letter paired_by
returns-in-62 c =
    let a = c.args in
    single a.text.now a.at 62 _ c.requires c.in-62.is
    (sym (c.paired-in-62.ensures.is (op shr) refl
    ∙ ap (λ (l : Lexed). paired_by 62 l (op shr) (drop (a.at + 1) a.text.now)) (c.paired-more.ensures.is (op ge) refl)))
    c.paired-in-62.ensures.ends

pub returns-in-61 : goal.returns-in-61
unfolding token choose spelled written behind is_blank is_digit is_name_start is_letter paired_by
returns-in-61 c =
    let a = c.args in
    single a.text.now a.at 61 _ c.requires c.in-61.is (sym (c.paired-in-61.ensures.is (op eq) refl)) c.paired-in-61.ensures.ends

pub returns-in-33 : goal.returns-in-33
unfolding token choose spelled written behind is_blank is_digit is_name_start is_letter paired_by
returns-in-33 c =
    let a = c.args in
    single a.text.now a.at 33 _ c.requires c.in-33.is (sym (c.paired-in-33.ensures.is (op ne) refl)) c.paired-in-33.ensures.ends

pub returns-in-38 : goal.returns-in-38
unfolding token choose spelled written behind is_blank is_digit is_name_start is_letter paired_by
returns-in-38 c =
    let a = c.args in
    single a.text.now a.at 38 _ c.requires c.in-38.is (sym (c.paired-in-38.ensures.is (op log_and) refl)) c.paired-in-38.ensures.ends

pub returns-in-124 : goal.returns-in-124
unfolding token choose spelled written behind is_blank is_digit is_name_start is_letter paired_by
returns-in-124 c =
    let a = c.args in
    single a.text.now a.at 124 _ c.requires c.in-124.is (sym (c.paired-in-124.ensures.is (op log_or) refl)) c.paired-in-124.ensures.ends

pub returns-in_default : goal.returns-in_default
returns-in_default c =
    let a = c.args in
    let e = c.in_default.in_default-own.rest in
    no_token a.text.now a.at c.requires (
      e.0.0.0.0.0.0.0.0.0.0.0.0.0.0.0.0.1,
      e.0.0.0.0.0.0.0.0.0.0.0.0.0.0.0.1,
      e.0.0.0.0.0.0.0.0.0.0.0.0.0.0.1,
      e.0.0.0.0.0.0.0.0.0.0.0.0.0.1,
      e.0.0.0.0.0.0.0.0.0.0.0.0.1,
      e.0.0.0.0.0.0.0.0.0.0.0.1,
      e.0.0.0.0.0.0.0.0.0.0.1,
      e.0.0.0.0.0.0.0.0.0.1,
      e.0.0.0.0.0.0.0.0.1,
      e.0.0.0.0.0.0.0.1,
      e.0.0.0.0.0.0.1,
      e.0.0.0.0.0.1,
      e.0.0.0.0.1,
      e.0.0.0.1,
      e.0.0.1,
      e.0.1,
      e.1,
    )
