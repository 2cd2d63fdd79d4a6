use Rattle.std.proofs.Common.{length, ap, sym, arith, [], ◌≤◌}
use Rattle.std.proofs.lemmas.List.{set_past}
use Rattle.dg_world.specs.Lists.{Lists, starts_from}
use Rattle.dg_world.proofs.ListsLemmas.{length-starts}
use Rattle.dg_world.proofs.area.Area.clear.Goals as goal

pub replace-requires-clause-index : goal.replace-requires-clause-index
replace-requires-clause-index c =
    omega (arith, c.len.ensures, c.self.inside.starts.ok.0, ap length c.self.invariant.0.begin, ap (λ (v : Lists). length (starts_from 0 v.lists)) c.self.view_is, length-starts 0 c.args.self.now.lists)

pub returns-else-index-len : goal.returns-else-index-len
returns-else-index-len c =
    let past : length c.args.self.now.lists ≤ c.args.place =
    omega (arith, c.len.ensures, c.self.inside.starts.ok.0, ap length c.self.invariant.0.begin, ap (λ (v : Lists). length (starts_from 0 v.lists)) c.self.view_is, length-starts 0 c.args.self.now.lists) in
    ap (λ l. record { lists = l; keep = c.args.self.now.keep }) (sym (set_past c.args.self.now.lists c.args.place [] past))
