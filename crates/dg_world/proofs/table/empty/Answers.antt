use Rattle.std.proofs.Common.{◌<◌, Option, None, length, get_or, arith}
use Rattle.std.proofs.lemmas.List.{get_or_default}
use Rattle.std.proofs.lemmas.List.Edits.{map_over_more}
use Rattle.dg_base.specs.declared.cells.Simple.{Simple}
use Rattle.dg_world.proofs.table.empty.Goals as goal

pub loop-slot-preserved : goal.loop-slot-preserved
loop-slot-preserved c =
    let slots = c.loop-slot.slots in
    let i = c.loop-slot.slot-index in
    let within : i < length slots = omega arith in
    map_over_more (λ (s : Option Simple). None) c.args.slots.now slots i (get_or slots i None) (omega arith) c.loop-slot.invariant (get_or_default slots i None _ within)
