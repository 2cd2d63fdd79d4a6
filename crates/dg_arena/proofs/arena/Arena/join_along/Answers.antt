use Rattle.dg_arena.specs.Held.{fields_of, meaning_of}
use Rattle.dg_arena.proofs.Joining.{points_right}
use Rattle.dg_arena.proofs.arena.Arena.join_along.Goals as goal

pub returns-in-Some-free_at-clause-joined : goal.returns-in-Some-free_at-clause-joined
returns-in-Some-free_at-clause-joined c = λ to from ea eb.
    let s = c.args.self.now in
    points_right (fields_of s) s.sound to from c.args.b c.args.a c.in-Some-free_at.number c.in-Some-free_at.ensures (meaning_of c.point.new.self) ea eb c.point.result c.point.ensures.points
