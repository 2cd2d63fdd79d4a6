use Rattle.std.proofs.Common.{List, Ok, Err, IfOk, IfErr, map, subst}
use Rattle.dg_base.specs.Faults.{IsFault}
use Rattle.dg_base.specs.TreeView.{item_view}
use Rattle.dg_base.specs.declared.tree.Item.{Item as TreeItem}
use Rattle.dg_names.specs.State.{names_view}
use Rattle.dg_lower.specs.Lowered.{ComesOf}
use Rattle.dg_lower.proofs.lowering.lowered_with.Goals as goal

pub returns-clause-lowered : goal.returns-clause-lowered
returns-clause-lowered c =
    subst (λ (l : List TreeItem). IfOk c.core_with-result.result (λ core. ComesOf (names_view c.args.names.now) (map item_view l) (Ok core)))
    c.as_slice-2.ensures c.core_with-result.ensures.lowered

pub returns-clause-refused : goal.returns-clause-refused
returns-clause-refused c =
    subst (λ (l : List TreeItem). IfErr c.core_with-result.result (IsFault (λ r. ComesOf (names_view c.args.names.now) (map item_view l) (Err r))))
    c.as_slice-2.ensures c.core_with-result.ensures.refused
