use Rattle.dg_arena.specs.Held.{fields_of}
use Rattle.dg_arena.proofs.Settling.{settled}
use Rattle.dg_arena.proofs.arena.Arena.join_ends.Goals as goal

pub returns-in-Some-clause-joined : goal.returns-in-Some-clause-joined
returns-in-Some-clause-joined c =
    settled (fields_of c.args.self.now) c.args.self.now.sound c.args.to c.args.from c.end_of-end.result c.end_of-value.result c.requires.to_in c.requires.from_in c.end_of-end.ensures c.end_of-value.ensures c.in-Some.same c.in-Some.ensures
