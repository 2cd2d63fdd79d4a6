use Rattle.std.proofs.Common.{refl}
use Rattle.dg_base.specs.declared.program.Goal.TheVariants.{Forever}
use Rattle.dg_interp.specs.inside.Engine.{store_in, TakesAt, OpensAt}
use Rattle.dg_interp.proofs.Branches.{full_made}
use Rattle.dg_interp.proofs.Controls.{branches_made, forever_opens}
use Rattle.dg_interp.proofs.engine.Engine.forever.Goals as goal

pub open-requires-clause-left : goal.open-requires-clause-left
open-requires-clause-left c = (c.requires.ready.here, c.requires.again.is)

pub returns-clause-full : goal.returns-clause-full
returns-clause-full c =
    let old = c.args.self.now in
    full_made (TakesAt Forever old) (OpensAt _ old) (store_in old.store) (store_in old.store) c.open.result refl refl (forever_opens c.args.again old c.requires.again) c.open.ensures.full

pub returns-clause-done : goal.returns-clause-done
returns-clause-done c =
    let old = c.args.self.now in
    branches_made (TakesAt Forever old) (OpensAt _ old) old old c.open.new.self refl (record { heap = refl; trail = refl; aux = refl; keep = refl; told = refl }) (forever_opens c.args.again old c.requires.again) c.open.result c.open.ensures.opened
