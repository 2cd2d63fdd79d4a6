use Rattle.std.proofs.Common.{sym}
use Rattle.dg_world.proofs.ChangeLemmas.{next_set, no_objects}
use Rattle.dg_world.proofs.world.World.next_object.Goals as goal

pub returns-in-Some : goal.returns-in-Some
returns-in-Some c o facts st has = next_set o facts c.args.self.now c.args.place c.in-Some.table.now c.args.from c.next.result (sym c.in-Some.ensures) c.next.ensures st has

pub returns-in-None : goal.returns-in-None
returns-in-None c o facts st has = absurd (no_objects o facts c.args.self.now c.args.place (sym c.in-None.ensures) st has)
