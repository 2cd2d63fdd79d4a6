use Rattle.std.proofs.Common.{◌∷◌, [], ℕ, List, false, refl, sym, ◌∙◌, ap, map, arith}
use Rattle.dg_base.specs.Tree as tree
use Rattle.dg_base.specs.Tree.{changes_of}
use Rattle.dg_base.specs.TreeView.{stmt_view, value_view, head_view, change_view, branches_view}
use Rattle.dg_base.specs.declared.program.Goal.{Goal}
use Rattle.dg_base.specs.declared.program.Goal.TheVariants as goals
use Rattle.dg_base.specs.declared.tree.NowChange.{NowChange}
use Rattle.dg_base.specs.declared.tree.Stmt.{Stmt}
use Rattle.dg_base.proofs.Views.{text_seen, print_seen, ask_seen, ask_all_seen, ask_not_seen, group_seen, not_group_seen, first_seen, now_seen, exhaust_seen, stoppable_seen, collect_seen, accumulate_seen, select_seen}
use Rattle.dg_core.specs.Bodies.{in_changes}
use Rattle.dg_core.specs.Goals.{change_goals}
use Rattle.dg_core.specs.inside.Making.{made, here, added}
use Rattle.dg_core.specs.inside.View.{scope_view}
use Rattle.dg_core.proofs.MakeLemmas.{on_ok, kept_added, stmt_is, stmt_adds, collect_taken, accumulate_taken, select_makes, choice_taken}
use Rattle.dg_core.proofs.SelectLemmas.{value_counted, parts_counted, changes_counted}
use Rattle.dg_core.proofs.goals.take_stmt.Goals as goal

pub returns-in-Text : goal.returns-in-Text
returns-in-Text c = on_ok _ (λ e. stmt_adds _ c.args.stmt (tree.text _) _ _ _ _ (ap stmt_view c.in-Text.is ∙ text_seen _) (kept_added _ _ _ e) (ap (λ (w : List ℕ). goals.Text w ∷ []) c.as_slice.ensures) refl (omega arith)) c.add_text.ensures

pub returns-in-Print : goal.returns-in-Print
returns-in-Print c = on_ok _ (λ e. stmt_adds _ c.args.stmt (tree.print (value_view c.in-Print.value)) _ _ _ _ (ap stmt_view c.in-Print.is ∙ print_seen _) e refl (value_counted false (value_view c.in-Print.value)) (omega arith)) c.add_print.ensures

pub returns-in-Ask : goal.returns-in-Ask
returns-in-Ask c = on_ok _ (λ e. stmt_adds _ c.args.stmt (tree.ask (head_view c.in-Ask.head)) _ _ _ _ (ap stmt_view c.in-Ask.is ∙ ask_seen _) e refl (parts_counted false (head_view c.in-Ask.head)) (omega arith)) c.add_asked.ensures

pub returns-in-AskAll : goal.returns-in-AskAll
returns-in-AskAll c = on_ok _ (λ e. stmt_adds _ c.args.stmt (tree.ask_all (head_view c.in-AskAll.head)) _ _ _ _ (ap stmt_view c.in-AskAll.is ∙ ask_all_seen _) e refl (parts_counted false (head_view c.in-AskAll.head)) (omega arith)) c.add_asked-in-AskAll.ensures

pub returns-in-AskNot : goal.returns-in-AskNot
returns-in-AskNot c = on_ok _ (λ e. stmt_adds _ c.args.stmt (tree.ask_not (head_view c.in-AskNot.head)) _ _ _ _ (ap stmt_view c.in-AskNot.is ∙ ask_not_seen _) e refl (parts_counted false (head_view c.in-AskNot.head)) (omega arith)) c.add_not.ensures

pub returns-in-Now : goal.returns-in-Now
returns-in-Now c =
    let row : List NowChange → tree.Changes = λ cs. changes_of (map change_view cs) in
    on_ok _
    (λ e. stmt_adds _ c.args.stmt (tree.now (row c.in-Now.changes)) _ _ _ _ (ap stmt_view c.in-Now.is ∙ now_seen _) (e ∙ ap (λ (cs : List NowChange). added (change_goals (here (scope_view c.args.scope.now) (made c.args.making.now)) (row cs)) (in_changes (row cs)) (made c.args.making.now)) c.as_slice-in-Now.ensures) refl (changes_counted (row c.in-Now.changes)) (omega arith))
    c.add_now.ensures

pub returns-in-Group : goal.returns-in-Group
returns-in-Group c = on_ok _ (λ put. stmt_is _ c.args.stmt (tree.group _) _ _ _ _ _ (ap stmt_view c.in-Group.is ∙ group_seen _) put refl (omega arith)) c.push.ensures.ok

pub returns-in-NotGroup : goal.returns-in-NotGroup
returns-in-NotGroup c = on_ok _ (λ put. stmt_is _ c.args.stmt (tree.not_group _) _ _ _ _ _ (ap stmt_view c.in-NotGroup.is ∙ not_group_seen _) put refl (omega arith)) c.put_inner.ensures

pub returns-in-First : goal.returns-in-First
returns-in-First c = on_ok _ (λ put. stmt_is _ c.args.stmt (tree.first_answer _) _ _ _ _ _ (ap stmt_view c.in-First.is ∙ first_seen _) put refl (omega arith)) c.put_inner-in-First.ensures

pub returns-in-If : goal.returns-in-If
returns-in-If c = on_ok _ (λ put. choice_taken _ c.args.stmt _ _ _ c.in-If.arms c.in-If.other _ _ put c.in-If.is c.as_slice-in-If.ensures refl) c.push-in-If.ensures.ok

pub returns-in-Exhaust : goal.returns-in-Exhaust
returns-in-Exhaust c = on_ok _ (λ put. stmt_is _ c.args.stmt (tree.exhaust _) _ _ _ _ _ (ap stmt_view c.in-Exhaust.is ∙ exhaust_seen _ ∙ ap (λ (s : Stmt). tree.exhaust (stmt_view s)) (sym c.get.ensures)) put refl (omega arith)) c.put_inner-in-Exhaust.ensures

pub returns-in-Stoppable : goal.returns-in-Stoppable
returns-in-Stoppable c = on_ok _ (λ put. stmt_is _ c.args.stmt (tree.stoppable _) _ _ _ _ _ (ap stmt_view c.in-Stoppable.is ∙ stoppable_seen _ ∙ ap (λ (s : Stmt). tree.stoppable (stmt_view s)) (sym c.get-in-Stoppable.ensures)) put refl (omega arith)) c.put_inner-in-Stoppable.ensures

pub returns-in_ok-hold_value-in-Collect : goal.returns-in_ok-hold_value-in-Collect
returns-in_ok-hold_value-in-Collect c = on_ok _ (λ put. collect_taken _ c.args.stmt _ _ _ _ _ _ _ c.in_ok-hold_value-in-Collect.ensures put (ap stmt_view c.in-Collect.is ∙ collect_seen _ _ _)) c.put_inner-in-Collect.ensures

pub returns-in_ok-hold_value-in-Accumulate : goal.returns-in_ok-hold_value-in-Accumulate
returns-in_ok-hold_value-in-Accumulate c = on_ok _ (λ put. accumulate_taken _ c.args.stmt _ _ _ _ _ _ _ c.in_ok-hold_value-in-Accumulate.ensures put (ap stmt_view c.in-Accumulate.is ∙ accumulate_seen _ _ _)) c.put_inner-in-Accumulate.ensures

pub returns-in_ok-site-in-Select : goal.returns-in_ok-site-in-Select
returns-in_ok-site-in-Select c =
    on_ok _
    (λ put. stmt_is (scope_view c.args.scope.now) c.args.stmt (tree.select c.in-Select.mode (branches_view (map (map stmt_view) c.as_slice-in-Select.result.now))) _ _ _ _ _ (ap stmt_view c.in-Select.is ∙ select_seen _ _ ∙ ap (λ (bs : List (List Stmt)). tree.select c.in-Select.mode (branches_view (map (map stmt_view) bs))) (sym c.as_slice-in-Select.ensures)) put (select_makes (scope_view c.args.scope.now) _ _ _ c.in-Select.mode c.as_slice-in-Select.result c.in_ok-site-in-Select.ensures.next c.in_ok-site-in-Select.ensures.site) (omega arith))
    c.put_branches.ensures
