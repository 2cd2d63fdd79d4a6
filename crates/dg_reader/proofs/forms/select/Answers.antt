use Rattle.std.proofs.Common.{◌∙◌, ap, sym, Bool}
use Rattle.dg_base.specs.Tree as tree
use Rattle.dg_base.specs.TreeView.{stmt_view, part_step, stmt_step, value_step, arm_step, body_step, head_step, change_step}
use Rattle.dg_base.specs.declared.tree.Stmt.{fold-roll-Stmt}
use Rattle.dg_base.specs.declared.tree.Stmt.TheVariants.{rolls-Select}
use Rattle.dg_base.specs.declared.tree.Part.TheOpen.{Stmt-F}
use Rattle.dg_open.proofs.Branches.{each_branch}
use Rattle.dg_reader.proofs.forms.select.Goals as goal

pub returns : goal.returns
returns c =
    let rolled = fold-roll-Stmt tree.Part tree.Stmt tree.Value (tree.Body × tree.Body) tree.Body tree.Parts (tree.Parts × Bool) part_step stmt_step value_step arm_step body_step head_step change_step (Stmt-F.Select c.args.mode c.args.branches) in
    ap stmt_view (sym (rolls-Select c.args.mode c.args.branches)) ∙ rolled ∙ ap (λ bs. tree.select c.args.mode (tree.branches_of bs)) (each_branch c.args.branches)
