use Rattle.std.proofs.Common.{length, ap, arith}
use Rattle.dg_world.proofs.ListsLemmas.{item_within}
use Rattle.dg_world.proofs.area.Area.set.Goals as goal

pub overflow_sub-len : goal.overflow_sub-len
overflow_sub-len c = omega (arith, c.len.ensures, ap length c.get-gone.ensures, item_within c.args.self.now.lists c.args.place)
