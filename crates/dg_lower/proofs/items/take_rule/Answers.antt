use Rattle.std.proofs.Common.{arith}
use Rattle.std.proofs.lemmas.List.{take_rest}
use Rattle.dg_lower.proofs.TakeLemmas.{none_next, none_taken, next_lent, taken_lent, no_rule, no_next, no_taken}
use Rattle.dg_lower.proofs.items.take_rule.Goals as goal

pub returns-then-at-len-clause-rule : goal.returns-then-at-len-clause-rule
returns-then-at-len-clause-rule c = none_next c.args.rows.now.items c.args.at (omega arith)

pub returns-then-at-len-clause-rows : goal.returns-then-at-len-clause-rows
returns-then-at-len-clause-rows c = none_taken c.args.rows.now.items c.args.at (omega arith)

pub returns-then-is_empty-clause-rule : goal.returns-then-is_empty-clause-rule
returns-then-is_empty-clause-rule c =
    no_next c.args.rows.now.items c.args.at c.index-rules.result.now (omega arith) c.index-rules.ensures (no_rule c.index-rules.result.now.now c.is_empty.result c.is_empty.ensures c.if-is_empty.true)

pub returns-then-is_empty-clause-rows : goal.returns-then-is_empty-clause-rows
returns-then-is_empty-clause-rows c =
    no_taken c.args.rows.now.items c.args.at c.index-rules.result.now (omega arith) c.index-rules.ensures (no_rule c.index-rules.result.now.now c.is_empty.result c.is_empty.ensures c.if-is_empty.true)

pub returns-clause-rule : goal.returns-clause-rule
returns-clause-rule c = next_lent c.args.rows.now.items c.args.at c.index-rules.result.now (omega arith) c.index-rules.ensures

pub returns-clause-rows : goal.returns-clause-rows
returns-clause-rows c = taken_lent c.args.rows.now.items c.args.at c.index-rules.result.now _ (omega arith) c.index-rules.ensures (take_rest c.index-rules.result.now.now 1)
