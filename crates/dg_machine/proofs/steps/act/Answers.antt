use Rattle.std.proofs.Common.{sym, subst}
use Rattle.dg_mid.specs.declared.code.Op.TheVariants as op
use Rattle.dg_machine.specs.Standing.{DoesOp}
use Rattle.dg_machine.proofs.steps.act.Goals as goal

pub returns-in-Just : goal.returns-in-Just
returns-in-Just c code = subst (λ a. DoesOp c.args.tables.now code c.args.memory.now (op.Do a) c.args.rest.now c.just.new.self c.just.result) (sym c.in-Just.is) (c.just.ensures c.args.tables.now code)

pub returns-in-Equal : goal.returns-in-Equal
returns-in-Equal c code = subst (λ a. DoesOp c.args.tables.now code c.args.memory.now (op.Do a) c.args.rest.now c.equal.new.self c.equal.result) (sym c.in-Equal.is) (c.equal.ensures code)

pub returns-in-Compare : goal.returns-in-Compare
returns-in-Compare c code = subst (λ a. DoesOp c.args.tables.now code c.args.memory.now (op.Do a) c.args.rest.now c.compare.new.self c.compare.result) (sym c.in-Compare.is) (c.compare.ensures code)

pub returns-in-Arith : goal.returns-in-Arith
returns-in-Arith c code = subst (λ a. DoesOp c.args.tables.now code c.args.memory.now (op.Do a) c.args.rest.now c.arith.new.self c.arith.result) (sym c.in-Arith.is) (c.arith.ensures code)

pub returns-in-Test : goal.returns-in-Test
returns-in-Test c code = subst (λ a. DoesOp c.args.tables.now code c.args.memory.now (op.Do a) c.args.rest.now c.test.new.self c.test.result) (sym c.in-Test.is) (c.test.ensures code)

pub returns-in-SplitWord : goal.returns-in-SplitWord
returns-in-SplitWord c code = subst (λ a. DoesOp c.args.tables.now code c.args.memory.now (op.Do a) c.args.rest.now c.split_word.new.self c.split_word.result) (sym c.in-SplitWord.is) (c.split_word.ensures code)

pub returns-in-JoinWords : goal.returns-in-JoinWords
returns-in-JoinWords c code = subst (λ a. DoesOp c.args.tables.now code c.args.memory.now (op.Do a) c.args.rest.now c.join_words.new.self c.join_words.result) (sym c.in-JoinWords.is) (c.join_words.ensures code)
