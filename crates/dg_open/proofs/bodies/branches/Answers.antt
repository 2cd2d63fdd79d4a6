use Rattle.std.proofs.Common.{◌∙◌, ap, Bool}
use Rattle.dg_base.specs.Tree as tree
use Rattle.dg_base.specs.TreeView.{part_step, stmt_step, value_step, arm_step, body_step, head_step, change_step}
use Rattle.dg_base.specs.declared.tree.Body.{fold-roll-Body}
use Rattle.dg_open.proofs.Branches.{each_branch}
use Rattle.dg_open.proofs.bodies.branches.Goals as goal

pub returns : goal.returns
returns c =
    fold-roll-Body tree.Part tree.Stmt tree.Value (tree.Body × tree.Body) tree.Body tree.Parts (tree.Parts × Bool) part_step stmt_step value_step arm_step body_step head_step change_step (record { branches = c.args.branches })
    ∙ ap tree.branches_of (each_branch c.args.branches)
