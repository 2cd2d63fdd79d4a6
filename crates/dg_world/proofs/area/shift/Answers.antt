use Rattle.std.proofs.Common.{◌+◌, ◌-◌, ◌<◌, length, get_or, arith}
use Rattle.std.proofs.lemmas.List.{get_or_default}
use Rattle.std.proofs.lemmas.List.Edits.{map_over_more}
use Rattle.dg_world.proofs.area.shift.Goals as goal

pub loop-start-preserved : goal.loop-start-preserved
loop-start-preserved c =
    let starts = c.loop-start.starts in
    let i = c.loop-start.start-index in
    let within : i < length starts = omega arith in
    map_over_more (λ s. s - c.args.gone + c.args.come) c.args.starts.now starts i (get_or starts i 0) (omega arith) c.loop-start.invariant (get_or_default starts i 0 _ within)
