use Rattle.std.proofs.Common.{arith}
use Rattle.dg_unify.proofs.Reading.{within_slots, var_read}
use Rattle.dg_unify.proofs.FenceLemmas.{top_var}
use Rattle.dg_arena.specs.Held.{fields_of}
use Rattle.dg_arena.proofs.Joining.{simple_absent}
use Rattle.dg_arena.proofs.arena.Arena.glance.Goals as goal

pub returns-then-at-ge-FIRST_SIMPLE-clause-clear : goal.returns-then-at-ge-FIRST_SIMPLE-clause-clear
returns-then-at-ge-FIRST_SIMPLE-clause-clear c = λ yes. simple_absent (fields_of c.args.self.now) c.args.self.now.sound c.args.at c.requires (omega arith) c.args.number

pub index-requires : goal.index-requires
index-requires c = omega (arith, within_slots (fields_of c.args.self.now) c.args.self.now.sound c.args.at c.requires (omega arith))

pub link_clear-requires-clause-within : goal.link_clear-requires-clause-within
link_clear-requires-clause-within c = (var_read (fields_of c.args.self.now) c.args.self.now.sound c.args.at c.requires (omega arith) c.index.result.now c.index.ensures c.in-Var.other c.in-Var.is).1

pub link_clear-requires-clause-some : goal.link_clear-requires-clause-some
link_clear-requires-clause-some c = (c.args.at, (var_read (fields_of c.args.self.now) c.args.self.now.sound c.args.at c.requires (omega arith) c.index.result.now c.index.ensures c.in-Var.other c.in-Var.is).0)

pub returns-in-Var-clause-clear : goal.returns-in-Var-clause-clear
returns-in-Var-clause-clear c =
    c.link_clear.ensures c.args.at (var_read (fields_of c.args.self.now) c.args.self.now.sound c.args.at c.requires (omega arith) c.index.result.now c.index.ensures c.in-Var.other c.in-Var.is).0

pub returns-in-Var-clause-below : goal.returns-in-Var-clause-below
returns-in-Var-clause-below c = top_var (fields_of c.args.self.now) c.args.self.now.sound c.args.at c.requires (omega arith) c.index.result.now c.index.ensures c.in-Var.other c.in-Var.is
