use Rattle.std.proofs.Common.{arith, false}
use Rattle.dg_arena.specs.Held.{fields_of}
use Rattle.dg_unify.proofs.Reading.{shows_pair, shows_closure, shows_unknown, no_captured, no_letter, shows_var}
use Rattle.dg_arena.proofs.arena.Arena.view_of.Goals as goal

pub returns-in-Pair : goal.returns-in-Pair
returns-in-Pair c = shows_pair (fields_of c.args.self.now) c.args.self.now.sound c.args.at c.requires.told (omega arith) c.index.result.now c.index.ensures c.in-Pair.head c.in-Pair.tail c.in-Pair.field-2 c.in-Pair.is false

pub returns-in-Closure : goal.returns-in-Closure
returns-in-Closure c = shows_closure (fields_of c.args.self.now) c.args.self.now.sound c.args.at c.requires.told (omega arith) c.index.result.now c.index.ensures c.in-Closure.place c.in-Closure.field-1 c.in-Closure.is false

pub returns-in-Unknown : goal.returns-in-Unknown
returns-in-Unknown c = shows_unknown (fields_of c.args.self.now) c.args.self.now.sound c.args.at c.requires.told (omega arith) c.index.result.now c.index.ensures c.in-Unknown.field-0 c.in-Unknown.is false

pub returns-in-Captured : goal.returns-in-Captured
returns-in-Captured c = absurd (no_captured (fields_of c.args.self.now) c.args.self.now.sound c.args.at c.requires.told (omega arith) c.index.result.now c.index.ensures c.in-Captured.field-0 c.in-Captured.is)

pub returns-in-Letter : goal.returns-in-Letter
returns-in-Letter c = absurd (no_letter (fields_of c.args.self.now) c.args.self.now.sound c.args.at c.requires.told (omega arith) c.index.result.now c.index.ensures c.in-Letter.field-0 c.in-Letter.is)

pub returns-in-Var : goal.returns-in-Var
returns-in-Var c = shows_var (fields_of c.args.self.now) c.args.self.now.sound c.args.at c.requires.told (omega arith) c.index.result.now c.index.ensures c.in-Var.field-0 c.in-Var.is false
