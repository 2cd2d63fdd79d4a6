use Rattle.dg_arena.specs.Held.{fields_of}
use Rattle.dg_arena.proofs.Joining.{end_absent}
use Rattle.dg_arena.proofs.arena.Arena.part_clear.Goals as goal

pub returns : goal.returns
returns c = λ yes.
    end_absent (fields_of c.args.self.now) c.args.self.now.sound c.args.at c.end_of-end.result c.end_of-end.ensures c.args.number (c.end_clear.ensures yes)
