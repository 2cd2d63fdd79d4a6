use Rattle.std.proofs.Common.{◌∷◌, [], ap, ◌∙◌, refl}
use Rattle.dg_interp.specs.inside.Frames.{stretch}
use Rattle.dg_interp.specs.inside.Gathering.{gathering_goal, GathersAt}
use Rattle.dg_interp.specs.inside.Engine.{TakesAt}
use Rattle.dg_interp.proofs.Runs.{lack_from}
use Rattle.dg_interp.proofs.Takes.{store_ready}
use Rattle.dg_interp.proofs.Stores.{both_among}
use Rattle.dg_interp.proofs.Giving.{written_full, kept_limits}
use Rattle.dg_interp.proofs.Branches.{went_on_from}
use Rattle.dg_interp.proofs.Gathered.{lacks_from}
use Rattle.dg_interp.proofs.GatherOpens.{gathering_held, gathers_written}
use Rattle.dg_interp.proofs.engine.Engine.gather.Goals as goal

pub returns-in-Err-clause-lacks : goal.returns-in-Err-clause-lacks
returns-in-Err-clause-lacks c =
    let old = c.args.self.now in
    let x = gathering_goal c.args.whole c.args.term.now c.args.goals.now c.args.into.now in
    rw c.lacking.ensures (lack_from (TakesAt x old) old c.in-Err.full
    (written_full x (c.args.term.now ∷ c.args.into.now ∷ []) (gathering_held c.args.whole c.args.term.now c.args.goals.now c.args.into.now) old c.in-Err.full c.in-Err.ensures.written))

pub open_gathering-requires-clause-ready : goal.open_gathering-requires-clause-ready
open_gathering-requires-clause-ready c = store_ready c.args.self.now c.write_both.new.store c.write_both.new.stack c.write_both.ensures.kept c.write_both.ensures.saved c.requires.ready

pub open_gathering-requires-clause-values : goal.open_gathering-requires-clause-values
open_gathering-requires-clause-values c = let m = c.in-Ok.ensures.written c.args.self.now.program.now refl in (m.left_in, m.right_in)

pub returns-in-Ok-open_gathering-clause-done : goal.returns-in-Ok-open_gathering-clause-done
returns-in-Ok-open_gathering-clause-done c =
    let old = c.args.self.now in
    let x = gathering_goal c.args.whole c.args.term.now c.args.goals.now c.args.into.now in
    let e = record old { store = c.write_both.new.store; made = c.write_both.new.stack } in
    went_on_from (TakesAt x old) (GathersAt c.args.whole c.in-Ok.value c.in-Ok.into c.args.goals.now e) old e c.open_gathering.new.self refl
    (kept_limits old c.write_both.new.store c.write_both.new.stack c.requires.ready c.write_both.ensures.kept c.write_both.ensures.saved)
    (gathers_written c.args.whole c.args.term.now c.args.goals.now c.args.into.now old c.write_both.new.store c.write_both.new.stack c.in-Ok.value c.in-Ok.into c.requires.ready c.write_both.ensures.kept c.write_both.ensures.saved
    (λ program e. both_among program _ _ _ _ _ _ old.refs.items c.stretch-env.result.now old.here.env (c.stretch-env.ensures ∙ ap (λ l. stretch l old.here.env) c.deref.ensures.value) (c.in-Ok.ensures.written program e)))
    c.in-Ok-open_gathering.ensures.opened

pub returns-in-Err-open_gathering-clause-lacks : goal.returns-in-Err-open_gathering-clause-lacks
returns-in-Err-open_gathering-clause-lacks c =
    let old = c.args.self.now in
    let x = gathering_goal c.args.whole c.args.term.now c.args.goals.now c.args.into.now in
    let e = record old { store = c.write_both.new.store; made = c.write_both.new.stack } in
    lacks_from (TakesAt x old) (GathersAt c.args.whole c.in-Ok.value c.in-Ok.into c.args.goals.now e) old e
    (kept_limits old c.write_both.new.store c.write_both.new.stack c.requires.ready c.write_both.ensures.kept c.write_both.ensures.saved)
    (gathers_written c.args.whole c.args.term.now c.args.goals.now c.args.into.now old c.write_both.new.store c.write_both.new.stack c.in-Ok.value c.in-Ok.into c.requires.ready c.write_both.ensures.kept c.write_both.ensures.saved
    (λ program e. both_among program _ _ _ _ _ _ old.refs.items c.stretch-env.result.now old.here.env (c.stretch-env.ensures ∙ ap (λ l. stretch l old.here.env) c.deref.ensures.value) (c.in-Ok.ensures.written program e)))
    c.in-Err-open_gathering.lack c.in-Err-open_gathering.ensures.lacks
