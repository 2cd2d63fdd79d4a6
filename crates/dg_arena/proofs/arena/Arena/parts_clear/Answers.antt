use Rattle.std.proofs.Common.{arith, refl, false}
use Rattle.dg_unify.proofs.Reading.{within_slots, shows_pair}
use Rattle.dg_unify.proofs.FenceLemmas.{pair_tells}
use Rattle.dg_arena.specs.Held.{fields_of}
use Rattle.dg_arena.proofs.Joining.{simple_absent, pair_absent}
use Rattle.dg_arena.proofs.arena.Arena.parts_clear.Goals as goal

pub returns-then-at-ge-FIRST_SIMPLE : goal.returns-then-at-ge-FIRST_SIMPLE
returns-then-at-ge-FIRST_SIMPLE c = λ yes. simple_absent (fields_of c.args.self.now) c.args.self.now.sound c.args.at c.requires (omega arith) c.args.number

pub index-requires : goal.index-requires
index-requires c = omega (arith, within_slots (fields_of c.args.self.now) c.args.self.now.sound c.args.at c.requires (omega arith))

pub part_clear-requires : goal.part_clear-requires
part_clear-requires c = (pair_tells (fields_of c.args.self.now) c.args.self.now.sound c.args.at c.requires (omega arith) c.index.result.now c.index.ensures c.in-Pair.head c.in-Pair.tail c.in-Pair.field-2 c.in-Pair.is).0

pub part_clear-requires-then-part_clear : goal.part_clear-requires-then-part_clear
part_clear-requires-then-part_clear c = (pair_tells (fields_of c.args.self.now) c.args.self.now.sound c.args.at c.requires (omega arith) c.index.result.now c.index.ensures c.in-Pair.head c.in-Pair.tail c.in-Pair.field-2 c.in-Pair.is).1

pub returns-then-part_clear : goal.returns-then-part_clear
returns-then-part_clear c = λ yes.
    let f = fields_of c.args.self.now in
    let shows = shows_pair f c.args.self.now.sound c.args.at c.requires (omega arith) c.index.result.now c.index.ensures c.in-Pair.head c.in-Pair.tail c.in-Pair.field-2 c.in-Pair.is false in
    pair_absent f c.args.at c.in-Pair.head c.in-Pair.tail c.args.number shows (c.if-part_clear.ensures refl) (c.part_clear-then-part_clear.ensures yes)
