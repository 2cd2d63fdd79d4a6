use Rattle.std.proofs.Common.{arith}
use Rattle.dg_unify.specs.Listed.{fields_of}
use Rattle.dg_unify.proofs.FenceLemmas.{top_all, top_var, pair_tells, top_pair}
use Rattle.dg_unify.proofs.list.ListBindings.+top_within.Goals as goal

pub top_within-top-requires : goal.top_within-top-requires
top_within-top-requires t c = (omega (arith, c.decreases, c.if-depth-gt0.true), (pair_tells (fields_of c.args.self.now) c.args.self.now.sound c.args.at c.requires (omega arith) c.index.result.now c.index.ensures c.in-Pair.head c.in-Pair.tail c.in-Pair.field-2 c.in-Pair.is).0)

pub top_within-requires : goal.top_within-requires
top_within-requires t c = (omega (arith, c.decreases, c.if-depth-gt0.true), (pair_tells (fields_of c.args.self.now) c.args.self.now.sound c.args.at c.requires (omega arith) c.index.result.now c.index.ensures c.in-Pair.head c.in-Pair.tail c.in-Pair.field-2 c.in-Pair.is).1)

pub returns-in-Var : goal.returns-in-Var
returns-in-Var t c = top_var (fields_of c.args.self.now) c.args.self.now.sound c.args.at c.requires (omega arith) c.index.result.now c.index.ensures c.in-Var.number c.in-Var.is

pub returns-in-Pair : goal.returns-in-Pair
returns-in-Pair t c = rw c.max.ensures (top_pair (fields_of c.args.self.now) c.args.self.now.sound c.args.at c.requires (omega arith) c.index.result.now c.index.ensures c.in-Pair.head c.in-Pair.tail c.in-Pair.field-2 c.in-Pair.is c.top_within-top.result c.top_within.result c.top_within-top.ensures c.top_within.ensures)

pub returns-in_default : goal.returns-in_default
returns-in_default t c = omega (arith, top_all (fields_of c.args.self.now) c.args.self.now.sound c.args.at c.requires, c.vars.ensures)
