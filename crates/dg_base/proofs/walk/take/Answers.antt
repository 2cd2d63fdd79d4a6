use Rattle.dg_base.proofs.WalkLemmas.{look, look_met, put_next, body_then}
use Rattle.dg_base.proofs.walk.take.Goals as goal

pub returns-in-Met : goal.returns-in-Met
returns-in-Met c = look_met c.args.work c.in-Met.field-0 _ _ c.in-Met.is c.put_one.ensures

pub returns-in-Parts : goal.returns-in-Parts
returns-in-Parts c = look c.args.work _ _ _ c.in-Parts.is c.take_parts.ensures

pub returns-in-Nested : goal.returns-in-Nested
returns-in-Nested c = look c.args.work _ _ _ c.in-Nested.is c.take_nested.ensures

pub returns-in-Value : goal.returns-in-Value
returns-in-Value c = look c.args.work _ _ _ c.in-Value.is c.take_value.ensures

pub returns-in-Values : goal.returns-in-Values
returns-in-Values c = look c.args.work _ _ _ c.in-Values.is c.take_values.ensures

pub returns-in-Stmt : goal.returns-in-Stmt
returns-in-Stmt c = look c.args.work _ _ _ c.in-Stmt.is c.take_stmt.ensures

pub returns-in-Stmts : goal.returns-in-Stmts
returns-in-Stmts c = look c.args.work _ _ _ c.in-Stmts.is c.take_stmts.ensures

pub returns-in-Branches : goal.returns-in-Branches
returns-in-Branches c = look c.args.work _ _ _ c.in-Branches.is c.take_branches.ensures

pub returns-in-Arms : goal.returns-in-Arms
returns-in-Arms c = look c.args.work _ _ _ c.in-Arms.is c.take_arms.ensures

pub returns-in-Changes : goal.returns-in-Changes
returns-in-Changes c = look c.args.work _ _ _ c.in-Changes.is c.take_changes.ensures

pub returns-in-Body : goal.returns-in-Body
returns-in-Body c = look c.args.work _ _ _ c.in-Body.is (put_next _ _ _ _ _ c.put_two.ensures (body_then c.in-Body.twice c.in-Body.body _ _ c.len.ensures c.as_slice.ensures))
