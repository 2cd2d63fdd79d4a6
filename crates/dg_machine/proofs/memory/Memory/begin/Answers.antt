use Rattle.std.proofs.Common.{sym, subst}
use Rattle.dg_machine.specs.Stops.{tags_of, StopIs}
use Rattle.dg_machine.proofs.memory.Memory.begin.Goals as goal

pub returns : goal.returns
returns c = record { held = λ code l m p h e outer kept. c.begin_in.ensures.held code l m p h e (subst (StopIs (tags_of m.stops) c.args.self.now.stop) (sym outer) h.0.stop_is) kept }
