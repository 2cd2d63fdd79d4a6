use Rattle.dg_world.proofs.ChangeLemmas.{value_changed, value_refused}
use Rattle.dg_world.proofs.Shapes.{put_leaves}
use Rattle.dg_world.proofs.world.World.set_value.Goals as goal

pub returns-then-not-takes-clause-changed : goal.returns-then-not-takes-clause-changed
returns-then-not-takes-clause-changed c o facts a st m =
    value_refused o facts a c.args.self.now c.args.place c.args.object c.args.value c.takes.result c.if-not-takes.true (λ is. c.takes.ensures.values o facts st is) (λ is. c.takes.ensures.parents o facts st is) st m

pub returns-clause-changed : goal.returns-clause-changed
returns-clause-changed c o facts a st m =
    value_changed o facts a c.args.self.now c.put.new.self c.args.place c.args.object c.args.value c.takes.result c.if-not-takes.false (λ is. c.takes.ensures.values o facts st is) (λ is. c.takes.ensures.parents o facts st is) c.put.ensures.tables c.put.ensures.area st m

pub returns-clause-shape : goal.returns-clause-shape
returns-clause-shape c = put_leaves c.args.self.now c.put.new.self _ _ _ c.put.ensures.tables c.put.ensures.area
