use Rattle.std.proofs.Common.{◌∷◌, [], ℕ, List, refl, ◌∙◌, ap, arith}
use Rattle.dg_base.specs.Tree.{changes_of}
use Rattle.dg_base.specs.TreeView.{stmt_view, value_view, body_view, change_view}
use Rattle.std.specs.Prelude.{map}
use Rattle.dg_base.specs.Mentions.{text, other, of_value, of_body, of_stmt, of_changes}
use Rattle.dg_base.specs.Walk.{Met, met, walk, stmt_size, changes_size}
use Rattle.dg_base.specs.declared.mentions.Form.TheVariants as form
use Rattle.dg_base.specs.declared.tree.NowChange.{NowChange}
use Rattle.dg_base.specs.declared.tree.Stmt.{Stmt}
use Rattle.dg_base.proofs.Views.{text_seen, print_seen, group_seen, not_group_seen, first_seen, now_seen, exhaust_seen, stoppable_seen, collect_seen, accumulate_seen, select_seen}
use Rattle.dg_base.proofs.WalkLemmas.{one, two, four, stmt_is, walk_three, select_then, put_next}
use Rattle.dg_base.proofs.walk.take_stmt.Goals as goal

pub returns-in-Text : goal.returns-in-Text
returns-in-Text c = put_next _ _ (one _) _ _ c.put_one.ensures (stmt_is c.args.twice c.args.stmt.now _ _ (ap stmt_view c.in-Text.is ∙ text_seen _) (record { walk = ap (λ (n : List ℕ). met (text n) ∷ []) c.as_slice.ensures; size = omega arith }))

pub returns-in-Print : goal.returns-in-Print
returns-in-Print c = put_next _ _ (two _ _) _ _ c.put_form.ensures (stmt_is c.args.twice c.args.stmt.now _ _ (ap stmt_view c.in-Print.is ∙ print_seen _) (record { walk = refl; size = omega arith }))

pub returns-in-Group : goal.returns-in-Group
returns-in-Group c = put_next _ _ (two _ _) _ _ c.put_form-in-Group.ensures (stmt_is c.args.twice c.args.stmt.now _ _ (ap stmt_view c.in-Group.is ∙ group_seen _) (record { walk = refl; size = omega arith }))

pub returns-in-NotGroup : goal.returns-in-NotGroup
returns-in-NotGroup c = put_next _ _ (two _ _) _ _ c.put_form-in-NotGroup.ensures (stmt_is c.args.twice c.args.stmt.now _ _ (ap stmt_view c.in-NotGroup.is ∙ not_group_seen _) (record { walk = refl; size = omega arith }))

pub returns-in-First : goal.returns-in-First
returns-in-First c = put_next _ _ (two _ _) _ _ c.put_form-in-First.ensures (stmt_is c.args.twice c.args.stmt.now _ _ (ap stmt_view c.in-First.is ∙ first_seen _) (record { walk = refl; size = omega arith }))

pub returns-in-Now : goal.returns-in-Now
returns-in-Now c = put_next _ _ (two _ _) _ _ c.put_form-in-Now.ensures (stmt_is c.args.twice c.args.stmt.now _ _ (ap stmt_view c.in-Now.is ∙ now_seen _) (record { walk = ap (λ (cs : List NowChange). met (other form.Now) ∷ walk (of_changes c.args.twice (changes_of (map change_view cs)))) c.as_slice-in-Now.ensures; size = let much = ap (λ (cs : List NowChange). changes_size (changes_of (map change_view cs))) c.as_slice-in-Now.ensures in omega (arith, much) }))

pub returns-in-Exhaust : goal.returns-in-Exhaust
returns-in-Exhaust c = put_next _ _ (two _ _) _ _ c.put_form-in-Exhaust.ensures (stmt_is c.args.twice c.args.stmt.now _ _ (ap stmt_view c.in-Exhaust.is ∙ exhaust_seen _) (record { walk = ap (λ (s : Stmt). met (other form.Exhaust) ∷ walk (of_stmt c.args.twice (stmt_view s))) c.get.ensures; size = let much = ap (λ (s : Stmt). stmt_size (stmt_view s)) c.get.ensures in omega (arith, much) }))

pub returns-in-Stoppable : goal.returns-in-Stoppable
returns-in-Stoppable c = put_next _ _ (two _ _) _ _ c.put_form-in-Stoppable.ensures (stmt_is c.args.twice c.args.stmt.now _ _ (ap stmt_view c.in-Stoppable.is ∙ stoppable_seen _) (record { walk = ap (λ (s : Stmt). met (other form.Stoppable) ∷ walk (of_stmt c.args.twice (stmt_view s))) c.get-in-Stoppable.ensures; size = let much = ap (λ (s : Stmt). stmt_size (stmt_view s)) c.get-in-Stoppable.ensures in omega (arith, much) }))

pub returns-in-Collect : goal.returns-in-Collect
returns-in-Collect c = put_next _ _ (four _ _ _ _) _ _ c.put_gathering.ensures (stmt_is c.args.twice c.args.stmt.now _ _ (ap stmt_view c.in-Collect.is ∙ collect_seen _ _ _) (record { walk = ap (λ (l : List Met). met (other form.Collect) ∷ l) (walk_three (of_value c.args.twice (value_view c.in-Collect.value)) (of_body c.args.twice (body_view c.in-Collect.body)) (of_value c.args.twice (value_view c.in-Collect.into))); size = omega arith }))

pub returns-in-Accumulate : goal.returns-in-Accumulate
returns-in-Accumulate c = put_next _ _ (four _ _ _ _) _ _ c.put_gathering-in-Accumulate.ensures (stmt_is c.args.twice c.args.stmt.now _ _ (ap stmt_view c.in-Accumulate.is ∙ accumulate_seen _ _ _) (record { walk = ap (λ (l : List Met). met (other form.Accumulate) ∷ l) (walk_three (of_value c.args.twice (value_view c.in-Accumulate.value)) (of_body c.args.twice (body_view c.in-Accumulate.body)) (of_value c.args.twice (value_view c.in-Accumulate.into))); size = omega arith }))

pub returns-in-Select : goal.returns-in-Select
returns-in-Select c = put_next _ _ (two _ _) _ _ c.put_two.ensures (stmt_is c.args.twice c.args.stmt.now _ _ (ap stmt_view c.in-Select.is ∙ select_seen _ _) (select_then c.args.twice c.in-Select.field-0 _ _ _ c.len.ensures c.as_slice-in-Select.ensures))
