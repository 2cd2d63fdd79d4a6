use Rattle.std.proofs.Common.{arith, sym}
use Rattle.dg_unify.proofs.FenceLemmas.{top_all, top_constant, top_var, pair_tells, top_pair}
use Rattle.dg_arena.specs.Held.{fields_of}
use Rattle.dg_arena.proofs.arena.Arena.+top_of.Goals as goal

pub returns-then-is_constant : goal.returns-then-is_constant
returns-then-is_constant t c = top_constant (fields_of c.args.self.now) c.args.self.now.sound c.args.at c.requires (sym c.if-is_constant.ensures)

pub top_of-top-requires : goal.top_of-top-requires
top_of-top-requires t c = (omega (arith, c.decreases, c.if-depth-gt0.true), (pair_tells (fields_of c.args.self.now) c.args.self.now.sound c.args.at c.requires (omega arith) c.index.result.now c.index.ensures c.in-Pair.head c.in-Pair.tail c.in-Pair.field-2 c.in-Pair.is).0)

pub top_of-requires : goal.top_of-requires
top_of-requires t c = (omega (arith, c.decreases, c.if-depth-gt0.true), (pair_tells (fields_of c.args.self.now) c.args.self.now.sound c.args.at c.requires (omega arith) c.index.result.now c.index.ensures c.in-Pair.head c.in-Pair.tail c.in-Pair.field-2 c.in-Pair.is).1)

pub returns-in-Var : goal.returns-in-Var
returns-in-Var t c = top_var (fields_of c.args.self.now) c.args.self.now.sound c.args.at c.requires (omega arith) c.index.result.now c.index.ensures c.in-Var.number c.in-Var.is

pub returns-in-Pair : goal.returns-in-Pair
returns-in-Pair t c = rw c.max.ensures (top_pair (fields_of c.args.self.now) c.args.self.now.sound c.args.at c.requires (omega arith) c.index.result.now c.index.ensures c.in-Pair.head c.in-Pair.tail c.in-Pair.field-2 c.in-Pair.is c.top_of-top.result c.top_of.result c.top_of-top.ensures c.top_of.ensures)

pub returns-in_default : goal.returns-in_default
returns-in_default t c = omega (arith, top_all (fields_of c.args.self.now) c.args.self.now.sound c.args.at c.requires, c.vars.ensures)
