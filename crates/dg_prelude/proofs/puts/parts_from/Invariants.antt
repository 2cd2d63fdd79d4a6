use Rattle.std.proofs.Common.{◌≡◌, map, take}
use Rattle.dg_base.specs.TreeView.{part_view}
use Rattle.dg_prelude.specs.inside.Short.{short_part}
use Rattle.dg_prelude.proofs.puts.parts_from.Given as goal

abbrev pub invariant-loop-bit : goal.invariant-loop-bit
invariant-loop-bit l = map part_view l.parts ≡ map short_part (take l.bit-index l.bits)
