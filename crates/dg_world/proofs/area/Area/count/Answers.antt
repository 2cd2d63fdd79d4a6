use Rattle.std.proofs.Common.{length, ap, arith}
use Rattle.dg_world.specs.Lists.{Lists, starts_from}
use Rattle.dg_world.proofs.ListsLemmas.{length-starts}
use Rattle.dg_world.proofs.area.Area.count.Goals as goal

pub returns : goal.returns
returns c =
    omega (arith, c.len.ensures, c.self.inside.starts.ok.0, ap length c.self.invariant.0.begin, ap (λ (v : Lists). length (starts_from 0 v.lists)) c.self.view_is, length-starts 0 c.args.self.now.lists)
