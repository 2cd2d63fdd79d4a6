use Rattle.dg_world.proofs.StartLemmas.{pair_put}
use Rattle.dg_world.proofs.start.put_parts.Goals as goal

pub returns-in_ok-push-in-Pair-2 : goal.returns-in_ok-push-in-Pair-2
returns-in_ok-push-in-Pair-2 c =
    pair_put c.args.term.now c.in-Pair.head c.in-Pair.tail c.get-rest.result c.get-first.result c.args.left.now.items c.push.new.self.items c.push-in-Pair.new.self.items c.in-Pair.is c.get-rest.ensures c.get-first.ensures c.in_ok-push-in-Pair.ensures.items c.in_ok-push-in-Pair-2.ensures.items
