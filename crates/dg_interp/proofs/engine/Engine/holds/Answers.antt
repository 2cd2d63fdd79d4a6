use Rattle.dg_base.specs.declared.program.Goal.TheVariants.{Holds as HoldsGoal}
use Rattle.dg_interp.specs.inside.Finding.{AsksPlaceAt}
use Rattle.dg_interp.specs.inside.Engine.{store_in, TakesAt}
use Rattle.dg_interp.proofs.Changes.{made_hold}
use Rattle.dg_interp.proofs.Giving.{written_full, branches_made}
use Rattle.dg_interp.proofs.Branches.{full_made}
use Rattle.dg_interp.proofs.Findings.{of_place, holds_means, holds_held, asked_left, asked_limits, asks_world}
use Rattle.dg_interp.proofs.engine.Engine.holds.Goals as goal

pub ask_place-requires-clause-args : goal.ask_place-requires-clause-args
ask_place-requires-clause-args c = made_hold (c.args.terms.now) c.args.self.now c.make_args.new.self c.in-Ok.ensures.made

pub returns-in-Err-clause-full : goal.returns-in-Err-clause-full
returns-in-Err-clause-full c = written_full (HoldsGoal c.args.place c.args.terms.now c.args.many) (c.args.terms.now) (holds_held c.args.place c.args.terms.now c.args.many) c.args.self.now c.in-Err.e c.in-Err.ensures.full

pub returns-in-Ok-clause-done : goal.returns-in-Ok-clause-done
returns-in-Ok-clause-done c =
    let mid = c.make_args.new.self in
    branches_made (TakesAt (HoldsGoal c.args.place c.args.terms.now c.args.many) c.args.self.now) (AsksPlaceAt c.args.place c.args.many mid) c.args.self.now mid c.ask_place.new.self (asked_left (HoldsGoal c.args.place c.args.terms.now c.args.many) (c.args.terms.now) (holds_held c.args.place c.args.terms.now c.args.many) (of_place c.args.place c.args.many) (holds_means c.args.place c.args.terms.now c.args.many) c.args.self.now c.make_args.new.self c.requires.ready c.in-Ok.ensures.made) (asked_limits (HoldsGoal c.args.place c.args.terms.now c.args.many) (c.args.terms.now) (holds_held c.args.place c.args.terms.now c.args.many) (of_place c.args.place c.args.many) (holds_means c.args.place c.args.terms.now c.args.many) c.args.self.now c.make_args.new.self c.requires.ready c.in-Ok.ensures.made)
    (asks_world (HoldsGoal c.args.place c.args.terms.now c.args.many) (c.args.terms.now) (holds_held c.args.place c.args.terms.now c.args.many) (of_place c.args.place c.args.many) (holds_means c.args.place c.args.terms.now c.args.many) c.args.self.now c.make_args.new.self c.requires.ready c.in-Ok.ensures.made) c.ask_place.result c.ask_place.ensures.asked

pub returns-in-Ok-clause-full : goal.returns-in-Ok-clause-full
returns-in-Ok-clause-full c =
    let mid = c.make_args.new.self in
    let limits = asked_limits (HoldsGoal c.args.place c.args.terms.now c.args.many) (c.args.terms.now) (holds_held c.args.place c.args.terms.now c.args.many) (of_place c.args.place c.args.many) (holds_means c.args.place c.args.terms.now c.args.many) c.args.self.now c.make_args.new.self c.requires.ready c.in-Ok.ensures.made in
    full_made (TakesAt (HoldsGoal c.args.place c.args.terms.now c.args.many) c.args.self.now) (AsksPlaceAt c.args.place c.args.many mid) (store_in c.args.self.now.store) (store_in mid.store) c.ask_place.result limits.heap limits.trail
    (asks_world (HoldsGoal c.args.place c.args.terms.now c.args.many) (c.args.terms.now) (holds_held c.args.place c.args.terms.now c.args.many) (of_place c.args.place c.args.many) (holds_means c.args.place c.args.terms.now c.args.many) c.args.self.now c.make_args.new.self c.requires.ready c.in-Ok.ensures.made) c.ask_place.ensures.full
