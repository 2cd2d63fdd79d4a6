use Rattle.std.proofs.Common.{subst, refl}
use Rattle.dg_world.specs.Worlds.{Means}
use Rattle.dg_world.specs.declared.change.Change.TheVariants as change
use Rattle.dg_world.proofs.ChangeLemmas.{kept_changed, global_cleared}
use Rattle.dg_world.proofs.Shapes.{setting_leaves}
use Rattle.dg_world.proofs.world.World.set_global.Goals as goal

pub returns-in-Some-clause-changed : goal.returns-in-Some-clause-changed
returns-in-Some-clause-changed c o facts a st m =
    let means = subst (λ x. Means o (change.Global c.args.place x) a) c.in-Some.is m in
    kept_changed o facts a c.args.self.now c.keep.new.self c.args.place c.in-Some.cells.now c.keep.result c.keep.ensures.kept st means.0 means.1

pub returns-in-None-clause-changed : goal.returns-in-None-clause-changed
returns-in-None-clause-changed c o facts a st m =
    let means = subst (λ x. Means o (change.Global c.args.place x) a) c.in-None.is m in
    global_cleared o facts a c.args.self.now (record c.args.self.now { area = c.clear.new.self }) c.args.place refl c.clear.ensures st means.0 means.1

pub returns-in-None-clause-shape : goal.returns-in-None-clause-shape
returns-in-None-clause-shape c = setting_leaves c.args.self.now (record c.args.self.now { area = c.clear.new.self }) c.args.place _ refl c.clear.ensures
