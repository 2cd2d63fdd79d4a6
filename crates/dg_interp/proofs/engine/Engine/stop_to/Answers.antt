use Rattle.dg_meaning.specs.Path.{End}
use Rattle.dg_base.specs.declared.run.Ending.TheVariants.{Stopped}
use Rattle.dg_interp.specs.inside.Engine.{StopsAt}
use Rattle.dg_interp.proofs.Branches.{went_on_from, ended_from}
use Rattle.dg_interp.proofs.Parts.{stops_nowhere, stops_later}
use Rattle.dg_interp.proofs.engine.Engine.stop_to.Goals as goal

pub choices-init : goal.choices-init
choices-init c = stops_nowhere c.args.tag c.args.self.now c.requires.sound

pub stop_newest-requires : goal.stop_newest-requires
stop_newest-requires c = record { sound = c.choices.invariant.sound }

pub returns-in-None : goal.returns-in-None
returns-in-None c =
    let w = c.choices.invariant in
    ended_from (StopsAt c.args.tag c.args.self.now) (StopsAt c.args.tag c.choices.self) (End Stopped) c.args.self.now c.choices.self c.stop_newest.new.self w.left w.limits w.leads c.in-None.ensures

pub returns-in-Some-true : goal.returns-in-Some-true
returns-in-Some-true c =
    let w = c.choices.invariant in
    went_on_from (StopsAt c.args.tag c.args.self.now) (StopsAt c.args.tag c.choices.self) c.args.self.now c.choices.self c.stop_newest.new.self w.left w.limits w.leads (rw c.in-Some-true.field-0-test at c.in-Some-true.ensures)

pub choices-preserved : goal.choices-preserved
choices-preserved c = stops_later c.args.tag c.args.self.now c.choices.self c.stop_newest.new.self c.choices.invariant (rw c.in-Some-false.field-0-test at c.in-Some-false.ensures)

pub choices-smaller : goal.choices-smaller
choices-smaller c = (rw c.in-Some-false.field-0-test at c.in-Some-false.ensures).fewer
