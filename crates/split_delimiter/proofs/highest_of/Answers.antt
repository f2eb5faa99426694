-- The fold of `max` over the bytes is the stage's walk.
use Rattle.std.proofs.Common.{rules, ◌≡◌, ◌∙◌}
use Rattle.std.specs.List.{fold}
use Rattle.std.proofs.Common.{max}
use Rattle.split_delimiter.proofs.Places.{fold_highest}
use Rattle.split_delimiter.proofs.highest_of.Goals as goal

pub returns : goal.returns
returns c =
    let e : c.fold.result ≡ fold (λ top b. max top b) 0 c.args.ifs.now = search rules in
    e ∙ fold_highest 0 c.args.ifs.now
