use Rattle.std.proofs.Common.{Some}
use Rattle.dg_arena.specs.Held.{fields_of}
use Rattle.dg_arena.proofs.Joining.{clear_on}
use Rattle.dg_arena.proofs.arena.Arena.step_from.Goals as goal

pub returns-in-None : goal.returns-in-None
returns-in-None c n = record { told = c.requires; absent = λ h. h }

pub returns-in-Some : goal.returns-in-Some
returns-in-Some c n = clear_on (fields_of c.args.self.now) c.args.self.now.sound c.args.at n (Some c.in-Some.next) c.in-Some.ensures
