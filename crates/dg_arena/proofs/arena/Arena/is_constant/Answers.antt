use Rattle.std.proofs.Common.{arith}
use Rattle.dg_arena.specs.Held.{fields_of}
use Rattle.dg_unify.proofs.FenceLemmas.{constant_read, other_read}
use Rattle.dg_arena.proofs.arena.Arena.is_constant.Goals as goal

pub returns-in-Pair : goal.returns-in-Pair
returns-in-Pair c = constant_read (fields_of c.args.self.now) c.args.self.now.sound c.args.at c.requires (omega arith) c.index.result.now c.index.ensures c.in-Pair.field-0 c.in-Pair.field-1 c.in-Pair.constant c.in-Pair.is

pub returns-in_default : goal.returns-in_default
returns-in_default c = other_read (fields_of c.args.self.now) c.args.self.now.sound c.args.at c.requires (omega arith) c.index.result.now c.index.ensures c.in_default.not-Pair
