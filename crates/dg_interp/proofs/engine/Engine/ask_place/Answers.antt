use Rattle.std.proofs.Common.{refl, sym}
use Rattle.dg_interp.specs.inside.Finding.{AsksPlaceAt}
use Rattle.dg_interp.specs.inside.Engine.{store_in, FailsAt}
use Rattle.dg_interp.proofs.Places.{limits_here}
use Rattle.dg_interp.proofs.Branches.{full_made, back_made}
use Rattle.dg_interp.proofs.Findings.{asks_no_place}
use Rattle.dg_interp.proofs.engine.Engine.ask_place.Goals as goal

pub returns-in-None-clause-asked : goal.returns-in-None-clause-asked
returns-in-None-clause-asked c =
    let old = c.args.self.now in
    back_made (AsksPlaceAt c.args.place c.args.many old) (FailsAt old) old old c.back.new.self refl (limits_here old) (asks_no_place c.args.place c.args.many old (sym c.in-None.ensures)) c.back.result c.back.ensures.back

pub returns-in-None-clause-full : goal.returns-in-None-clause-full
returns-in-None-clause-full c =
    let old = c.args.self.now in
    full_made (AsksPlaceAt c.args.place c.args.many old) (FailsAt old) (store_in old.store) (store_in old.store) c.back.result refl refl (asks_no_place c.args.place c.args.many old (sym c.in-None.ensures)) c.back.ensures.full
