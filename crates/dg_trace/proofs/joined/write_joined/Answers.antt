use Rattle.std.proofs.Common.{arith}
use Rattle.dg_trace.proofs.joined.write_joined.Goals as goal

pub slice_bounds-row-end : goal.slice_bounds-row-end
slice_bounds-row-end g c = omega (arith, (c.fill.ensures c.in-Some.len c.in-Some.is).0, c.fill.array_long)
