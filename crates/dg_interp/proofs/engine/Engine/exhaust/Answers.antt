use Rattle.std.proofs.Common.{refl, arith}
use Rattle.dg_base.specs.declared.program.Goal.TheVariants.{Exhaust}
use Rattle.dg_interp.specs.inside.Engine.{store_in, TakesAt, OpensAt}
use Rattle.dg_interp.proofs.Branches.{full_made}
use Rattle.dg_interp.proofs.Controls.{branches_made, exhaust_opens}
use Rattle.dg_interp.proofs.engine.Engine.exhaust.Goals as goal

pub open-requires-clause-left : goal.open-requires-clause-left
open-requires-clause-left c =
    let here = c.requires.ready.here in
    (record { runnable = c.requires.runnable; older = omega arith; env = here.env }, here)

pub returns-clause-full : goal.returns-clause-full
returns-clause-full c =
    let old = c.args.self.now in
    full_made (TakesAt (Exhaust c.args.goals.now) old) (OpensAt _ old) (store_in old.store) (store_in old.store) c.open.result refl refl (exhaust_opens c.args.goals old) c.open.ensures.full

pub returns-clause-done : goal.returns-clause-done
returns-clause-done c =
    let old = c.args.self.now in
    branches_made (TakesAt (Exhaust c.args.goals.now) old) (OpensAt _ old) old old c.open.new.self refl (record { heap = refl; trail = refl; aux = refl; keep = refl; told = refl }) (exhaust_opens c.args.goals old) c.open.result c.open.ensures.opened
