use Rattle.dg_arena.specs.Held.{fields_of, meaning_of}
use Rattle.dg_arena.proofs.Joining.{points_left}
use Rattle.dg_arena.proofs.arena.Arena.join_free.Goals as goal

pub returns-in-None-clause-joined : goal.returns-in-None-clause-joined
returns-in-None-clause-joined c = λ to from ea eb.
    let s = c.args.self.now in
    points_left (fields_of s) s.sound to from c.args.a c.args.b c.args.number c.requires.free (meaning_of c.point.new.self) ea eb c.point.result c.point.ensures.points
