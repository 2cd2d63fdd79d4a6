use Rattle.std.proofs.Common.{◌∷◌, ◌-◌, ◌∙◌, ap, take, drop, length}
use Rattle.dg_machine.proofs.Leaving.{split_list}
use Rattle.dg_machine.proofs.Trying.{lands_leaves}
use Rattle.dg_machine.proofs.seeking.landed.Goals as goal

pub returns-in-Commit-clause-lands : goal.returns-in-Commit-clause-lands
returns-in-Commit-clause-lands c l r m f p first many next high h =
    let all = c.code_at-ops.result.now in
    let rest = take (length all - 1) (drop 1 all) in
    let split = split_list all c.op-item.result c.in-len1-up.len_at_least c.op-item.is ∙ ap (λ x. x ∷ rest) c.in-Commit.is in
    lands_leaves c.args.code.now c.args.search c.args.height c.code_at-ops.result rest c.requires c.code_at-ops.ensures c.if-search.false split l r m f p many next high h
