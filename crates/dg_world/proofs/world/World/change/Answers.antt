use Rattle.std.proofs.Common.{subst}
use Rattle.dg_world.specs.Worlds.{Means}
use Rattle.dg_world.specs.declared.change.Change.{Change}
use Rattle.dg_world.proofs.ChangeLemmas.{flag_changed, object_flag_changed, all_changed}
use Rattle.dg_world.proofs.Shapes.{put_leaves, emptying_leaves}
use Rattle.dg_world.proofs.world.World.change.Goals as goal

pub returns-in-Flag-clause-changed : goal.returns-in-Flag-clause-changed
returns-in-Flag-clause-changed c o facts a st m = flag_changed o facts a c.args.self.now c.put.new.self c.args.change c.in-Flag.place c.in-Flag.on c.flag.result c.in-Flag.is c.flag.ensures c.put.ensures.tables c.put.ensures.area st m

pub returns-in-ObjectVar-clause-changed : goal.returns-in-ObjectVar-clause-changed
returns-in-ObjectVar-clause-changed c o facts a st m = c.set_value.ensures.changed o facts a st (subst (λ (x : Change). Means o x a) c.in-ObjectVar.is m)

pub returns-in-Global-clause-changed : goal.returns-in-Global-clause-changed
returns-in-Global-clause-changed c o facts a st m = c.set_global.ensures.changed o facts a st (subst (λ (x : Change). Means o x a) c.in-Global.is m)

pub returns-in-ClearAll-clause-changed : goal.returns-in-ClearAll-clause-changed
returns-in-ClearAll-clause-changed c o facts a st m = all_changed o facts a c.args.self.now c.empty.new.self c.args.change c.in-ClearAll.place c.in-ClearAll.is c.empty.ensures.tables c.empty.ensures.area st m

pub returns-in-ObjectFlag-clause-changed : goal.returns-in-ObjectFlag-clause-changed
returns-in-ObjectFlag-clause-changed c o facts a st m =
    object_flag_changed o facts a c.args.self.now c.put-in-ObjectFlag.new.self c.args.change c.in-ObjectFlag.place c.in-ObjectFlag.object c.in-ObjectFlag.on c.flag-in-ObjectFlag.result c.in-ObjectFlag.is c.flag-in-ObjectFlag.ensures c.put-in-ObjectFlag.ensures.tables c.put-in-ObjectFlag.ensures.area st m

pub returns-in-Flag-clause-shape : goal.returns-in-Flag-clause-shape
returns-in-Flag-clause-shape c = put_leaves c.args.self.now c.put.new.self _ _ _ c.put.ensures.tables c.put.ensures.area

pub returns-in-ObjectFlag-clause-shape : goal.returns-in-ObjectFlag-clause-shape
returns-in-ObjectFlag-clause-shape c = put_leaves c.args.self.now c.put-in-ObjectFlag.new.self _ _ _ c.put-in-ObjectFlag.ensures.tables c.put-in-ObjectFlag.ensures.area

pub returns-in-ClearAll-clause-shape : goal.returns-in-ClearAll-clause-shape
returns-in-ClearAll-clause-shape c = emptying_leaves c.args.self.now c.empty.new.self _ c.empty.ensures.tables c.empty.ensures.area
