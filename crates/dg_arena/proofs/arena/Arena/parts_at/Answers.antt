use Rattle.std.proofs.Common.{arith, false}
use Rattle.dg_unify.proofs.Reading.{within_slots, shows_pair}
use Rattle.dg_arena.specs.Held.{fields_of}
use Rattle.dg_arena.proofs.arena.Arena.parts_at.Goals as goal

pub index-requires : goal.index-requires
index-requires c = omega (arith, within_slots (fields_of c.args.self.now) c.args.self.now.sound c.args.end c.requires (omega arith))

pub returns-in-Pair : goal.returns-in-Pair
returns-in-Pair c =
    shows_pair (fields_of c.args.self.now) c.args.self.now.sound c.args.end c.requires (omega arith) c.index.result.now c.index.ensures c.in-Pair.head c.in-Pair.tail c.in-Pair.field-2 c.in-Pair.is false
