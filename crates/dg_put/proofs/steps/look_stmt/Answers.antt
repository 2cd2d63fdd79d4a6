use Rattle.std.proofs.Common.{List, map, length, sym, ◌∙◌, ap}
use Rattle.std.proofs.lemmas.List.{length-map}
use Rattle.dg_base.specs.Tree as tree
use Rattle.dg_base.specs.Tree.{changes_of}
use Rattle.dg_base.specs.TreeView.{stmt_view, change_view, branches_view}
use Rattle.dg_base.specs.declared.tree.Stmt.{Stmt}
use Rattle.dg_base.specs.declared.tree.NowChange.{NowChange}
use Rattle.dg_base.proofs.Views.{print_seen, group_seen, not_group_seen, first_seen, now_seen, exhaust_seen, stoppable_seen, collect_seen, accumulate_seen, select_seen}
use Rattle.dg_plain.specs.Building.{built_view}
use Rattle.dg_plain.specs.declared.work.Wrap.TheVariants as wrap
use Rattle.dg_put.proofs.BuiltLemmas.{print_built, wrapped_built, now_built, exhaust_built, stoppable_built, collect_built, accumulate_built, select_built}
use Rattle.dg_plain.proofs.StepLemmas.{on_ok}
use Rattle.dg_put.specs.inside.Putting.{around}
use Rattle.dg_put.proofs.StepLemmas.{stmt_off, gathering_off, branches_many}
use Rattle.dg_put.proofs.steps.look_stmt.Goals as goal

pub returns-in-Print : goal.returns-in-Print
returns-in-Print c = on_ok c.put_off.result _ _ c.put_off.ensures (λ put. stmt_off c.args.at (around c.args.uses) c.args.stmt.now _ (built_view c.args.weighed.now.built) c.args.left.now.items _ _ _ (ap stmt_view c.in-Print.is ∙ print_seen _) put (print_built (around c.args.uses c.args.at.now) _ (built_view c.args.weighed.now.built)))

pub returns-in-Group : goal.returns-in-Group
returns-in-Group c = on_ok c.put_off-in-Group.result _ _ c.put_off-in-Group.ensures (λ put. stmt_off c.args.at (around c.args.uses) c.args.stmt.now _ (built_view c.args.weighed.now.built) c.args.left.now.items _ _ _ (ap stmt_view c.in-Group.is ∙ group_seen _) put (wrapped_built (around c.args.uses c.args.at.now) wrap.Group _ (built_view c.args.weighed.now.built)))

pub returns-in-NotGroup : goal.returns-in-NotGroup
returns-in-NotGroup c = on_ok c.put_off-in-NotGroup.result _ _ c.put_off-in-NotGroup.ensures (λ put. stmt_off c.args.at (around c.args.uses) c.args.stmt.now _ (built_view c.args.weighed.now.built) c.args.left.now.items _ _ _ (ap stmt_view c.in-NotGroup.is ∙ not_group_seen _) put (wrapped_built (around c.args.uses c.args.at.now) wrap.NotGroup _ (built_view c.args.weighed.now.built)))

pub returns-in-First : goal.returns-in-First
returns-in-First c = on_ok c.put_off-in-First.result _ _ c.put_off-in-First.ensures (λ put. stmt_off c.args.at (around c.args.uses) c.args.stmt.now _ (built_view c.args.weighed.now.built) c.args.left.now.items _ _ _ (ap stmt_view c.in-First.is ∙ first_seen _) put (wrapped_built (around c.args.uses c.args.at.now) wrap.First _ (built_view c.args.weighed.now.built)))

pub returns-in-Now : goal.returns-in-Now
returns-in-Now c = on_ok c.put_off_both.result _ _ c.put_off_both.ensures (λ put. stmt_off c.args.at (around c.args.uses) c.args.stmt.now _ (built_view c.args.weighed.now.built) c.args.left.now.items _ _ _ (ap stmt_view c.in-Now.is ∙ now_seen _ ∙ ap (λ (cs : List NowChange). tree.now (changes_of (map change_view cs))) (sym c.as_slice-in-Now.ensures)) put (now_built (around c.args.uses c.args.at.now) _ _ (built_view c.args.weighed.now.built) (c.height_of.ensures ∙ sym (length-map c.args.weighed.now.built.changes.items change_view))))

pub returns-in-Exhaust : goal.returns-in-Exhaust
returns-in-Exhaust c = on_ok c.put_off-in-Exhaust.result _ _ c.put_off-in-Exhaust.ensures (λ put. stmt_off c.args.at (around c.args.uses) c.args.stmt.now _ (built_view c.args.weighed.now.built) c.args.left.now.items _ _ _ (ap stmt_view c.in-Exhaust.is ∙ exhaust_seen _ ∙ ap (λ (x : Stmt). tree.exhaust (stmt_view x)) (sym c.get.ensures)) put (exhaust_built (around c.args.uses c.args.at.now) _ (built_view c.args.weighed.now.built)))

pub returns-in-Stoppable : goal.returns-in-Stoppable
returns-in-Stoppable c = on_ok c.put_off-in-Stoppable.result _ _ c.put_off-in-Stoppable.ensures (λ put. stmt_off c.args.at (around c.args.uses) c.args.stmt.now _ (built_view c.args.weighed.now.built) c.args.left.now.items _ _ _ (ap stmt_view c.in-Stoppable.is ∙ stoppable_seen _ ∙ ap (λ (x : Stmt). tree.stoppable (stmt_view x)) (sym c.get-in-Stoppable.ensures)) put (stoppable_built (around c.args.uses c.args.at.now) _ (built_view c.args.weighed.now.built)))

pub returns-in-Collect : goal.returns-in-Collect
returns-in-Collect c = on_ok c.put_off_gathering.result _ _ c.put_off_gathering.ensures (λ put. gathering_off c.args.at (around c.args.uses) c.args.stmt.now _ (built_view c.args.weighed.now.built) c.args.left.now.items _ _ _ _ _ (ap stmt_view c.in-Collect.is ∙ collect_seen _ _ _) put (collect_built (around c.args.uses c.args.at.now) _ _ _ (built_view c.args.weighed.now.built)))

pub returns-in-Accumulate : goal.returns-in-Accumulate
returns-in-Accumulate c = on_ok c.put_off_gathering-in-Accumulate.result _ _ c.put_off_gathering-in-Accumulate.ensures (λ put. gathering_off c.args.at (around c.args.uses) c.args.stmt.now _ (built_view c.args.weighed.now.built) c.args.left.now.items _ _ _ _ _ (ap stmt_view c.in-Accumulate.is ∙ accumulate_seen _ _ _) put (accumulate_built (around c.args.uses c.args.at.now) _ _ _ (built_view c.args.weighed.now.built)))

pub returns-in-Select : goal.returns-in-Select
returns-in-Select c = on_ok c.put_off-in-Select.result _ _ c.put_off-in-Select.ensures (λ put. stmt_off c.args.at (around c.args.uses) c.args.stmt.now _ (built_view c.args.weighed.now.built) c.args.left.now.items _ _ _ (ap stmt_view c.in-Select.is ∙ select_seen _ _ ∙ ap (λ (bs : List (List Stmt)). tree.select c.in-Select.mode (branches_view (map (map stmt_view) bs))) (sym c.as_slice-in-Select.ensures)) put (select_built (around c.args.uses c.args.at.now) _ _ _ (built_view c.args.weighed.now.built) (branches_many (around c.args.uses c.args.at.now).at (around c.args.uses c.args.at.now).place _ _ _ (c.len.ensures ∙ ap length (sym c.as_slice-in-Select.ensures)))))
