use Rattle.std.proofs.Common.{arith}
use Rattle.dg_arena.specs.Held.{meaning_of}
use Rattle.dg_machine.proofs.CellLemmas.{too_many}
use Rattle.dg_machine.proofs.copies.copy.Goals as goal

pub returns-then-cells-capacity-clause-copied : goal.returns-then-cells-capacity-clause-copied
returns-then-cells-capacity-clause-copied c v is formed =
    too_many v c.args.cells.now (meaning_of c.args.arena.now) _ c.args.spare.now.items c.requires is formed (omega (arith, c.if-cells-lt2.false)) (omega (arith, c.if-cells-capacity.true, c.capacity.ensures, c.len-height.ensures, c.args.spare.now.ok.0))
