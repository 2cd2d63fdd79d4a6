use Rattle.std.proofs.Common.{◌+◌, ◌≤◌, List, reverse, ◌++◌}
use Rattle.dg_base.specs.declared.program.Goal.{Goal}
use Rattle.dg_base.specs.Begins.{Begins}
use Rattle.dg_mid.specs.Codes.{End}
use Rattle.dg_mid.specs.Tidying.{Neat, WorkTidy}
use Rattle.dg_mid.specs.Weights.{Weights, ops_weight, blocks_weight, body_weight, work_weight}
use Rattle.dg_mid.specs.Writing.{StandsFor, ComesTo}
use Rattle.dg_mid.proofs.writing.Writer.write.Given as goal

abbrev pub invariant-loop-turn : goal.invariant-loop-turn
invariant-loop-turn l =
    Begins l.initial.self.blocks l.self.blocks
    × ((rest : List Goal) (end : End) → StandsFor l.initial.self.blocks (reverse l.initial.work.ops.items) rest end → ComesTo l.self.blocks l.work (l.initial.work.goals ++ rest) end)
    × (Neat l.initial.self.blocks (reverse l.initial.work.ops.items) → WorkTidy l.self.blocks l.work)
    × ((w : Weights) → blocks_weight w l.self.blocks + work_weight w l.work ≤ blocks_weight w l.initial.self.blocks + ops_weight w l.initial.work.ops.items + body_weight w l.initial.work.goals)
