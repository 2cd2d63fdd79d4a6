use Rattle.std.proofs.Common.{arith}
use Rattle.dg_unify.proofs.Reading.{within_slots}
use Rattle.dg_arena.specs.Held.{fields_of}
use Rattle.dg_arena.proofs.Settling.{simple_clash, slot_clash}
use Rattle.dg_arena.proofs.arena.Arena.same_ends.Goals as goal

pub returns-then-end-lt-FIRST_NIL : goal.returns-then-end-lt-FIRST_NIL
returns-then-end-lt-FIRST_NIL c = simple_clash (fields_of c.args.self.now) c.args.self.now.sound c.args.end c.args.value c.requires.end_in c.requires.value_in (omega arith) (omega arith) c.if-end-value.false (omega arith)

pub returns-then-value-lt-FIRST_NIL : goal.returns-then-value-lt-FIRST_NIL
returns-then-value-lt-FIRST_NIL c = simple_clash (fields_of c.args.self.now) c.args.self.now.sound c.args.end c.args.value c.requires.end_in c.requires.value_in (omega arith) (omega arith) c.if-end-value.false (omega arith)

pub index-requires : goal.index-requires
index-requires c = omega (arith, within_slots (fields_of c.args.self.now) c.args.self.now.sound c.args.end c.requires.end_in (omega arith))

pub returns-in_default : goal.returns-in_default
returns-in_default c = slot_clash (fields_of c.args.self.now) c.args.self.now.sound c.args.end c.args.value c.requires.end_in c.requires.value_in (omega arith) (omega arith) c.index.result.now c.index.ensures c.in_default.not-Var
