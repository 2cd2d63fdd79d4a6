use Rattle.std.proofs.Common.{arith}
use Rattle.dg_arena.specs.Held.{fields_of}
use Rattle.dg_unify.proofs.Reading.{within_slots, simple_end, var_read, var_leads, other_end}
use Rattle.dg_arena.proofs.arena.Arena.link_of.Goals as goal

pub returns-then-at-ge-FIRST_SIMPLE : goal.returns-then-at-ge-FIRST_SIMPLE
returns-then-at-ge-FIRST_SIMPLE c = simple_end (fields_of c.args.self.now) c.args.self.now.sound c.args.at c.requires (omega arith)

pub index-requires : goal.index-requires
index-requires c = omega (arith, within_slots (fields_of c.args.self.now) c.args.self.now.sound c.args.at c.requires (omega arith))

pub to-requires : goal.to-requires
to-requires c = (var_read (fields_of c.args.self.now) c.args.self.now.sound c.args.at c.requires (omega arith) c.index.result.now c.index.ensures c.in-Var.number c.in-Var.is).1

pub returns-in-Var : goal.returns-in-Var
returns-in-Var c = var_leads (fields_of c.args.self.now) c.args.self.now.sound c.args.at c.requires (omega arith) c.index.result.now c.index.ensures c.in-Var.number c.in-Var.is c.to.result c.to.ensures

pub returns-in_default : goal.returns-in_default
returns-in_default c = other_end (fields_of c.args.self.now) c.args.self.now.sound c.args.at c.requires (omega arith) c.index.result.now c.index.ensures c.in_default.not-Var
