use Rattle.std.proofs.Common.{arith}
use Rattle.dg_unify.proofs.FenceLemmas.{top_all, top_var}
use Rattle.dg_arena.specs.Held.{fields_of}
use Rattle.dg_arena.proofs.arena.Arena.part_top.Goals as goal

pub returns-in-Var : goal.returns-in-Var
returns-in-Var c = top_var (fields_of c.args.self.now) c.args.self.now.sound c.args.at c.requires (omega arith) c.index.result.now c.index.ensures c.in-Var.number c.in-Var.is

pub returns-in_default : goal.returns-in_default
returns-in_default c = omega (arith, top_all (fields_of c.args.self.now) c.args.self.now.sound c.args.at c.requires, c.vars.ensures)
