use Rattle.std.proofs.Common.{rules, ◌≡◌, Result, Err, subst}
use Rattle.z_model.specs.declared.end.ZEnd.{ZEnd}
use Rattle.z_model.specs.Run.{zrun}
use Rattle.dg_base.specs.declared.run.Fault.{Fault}
use Rattle.dg_base.specs.declared.run.Fault.TheVariants.{Read}
use Rattle.z_play.specs.inside.Advancing.{RanTo, RunsOn}
use Rattle.z_play.proofs.Lines.{quit_shows, end_shows, end_cut, fault_shows, fault_cut}
use Rattle.z_play.proofs.player.close_run.Goals as goal

pub returns-in-Quit-clause-plays : goal.returns-in-Quit-clause-plays
returns-in-Quit-clause-plays g c = λ w s n before now old new first begun seen rose runs.
    let ran = subst (λ (r : Result ZEnd Fault). RunsOn r w s n old new) c.in-Ok.is runs in
    quit_shows (zrun w n s) old new (g.K.Sink.view c.args.sink.now) seen (subst (λ (end : ZEnd). RanTo (zrun w n s) end old new) c.in-Quit.is ran)

pub returns-in-Ok-close-clause-plays : goal.returns-in-Ok-close-clause-plays
returns-in-Ok-close-clause-plays g c = λ w s n before now old new first begun seen rose runs.
    let ran = subst (λ (r : Result ZEnd Fault). RunsOn r w s n old new) c.in-Ok.is runs in
    end_shows (zrun w n s) c.in-Ok.end old new c.args.begun (g.K.Sink.view c.args.sink.now) (g.K.Sink.view c.close.new.sink) first begun seen c.in_default.not-Quit ran c.in-Ok-close.ensures.ok

pub returns-in-Err-clause-plays : goal.returns-in-Err-clause-plays
returns-in-Err-clause-plays g c = λ w s n before now old new first begun seen rose runs.
    let ran = subst (λ (r : Result ZEnd Fault). RunsOn r w s n old new) c.in-Ok.is runs in
    end_cut w s n before now c.in-Ok.end old new c.args.begun (g.K.Sink.view c.args.sink.now) (g.K.Sink.view c.close.new.sink) first begun seen c.in_default.not-Quit ran c.in-Err.ensures.err

pub returns-in-Ok-close_failed-clause-plays : goal.returns-in-Ok-close_failed-clause-plays
returns-in-Ok-close_failed-clause-plays g c = λ w s n before now old new first begun seen rose runs.
    let failed : c.args.ended ≡ Err Read = search rules in
    let ran = subst (λ (r : Result ZEnd Fault). RunsOn r w s n old new) failed runs in
    fault_shows w s n old new c.args.begun (g.K.Sink.view c.args.sink.now) (g.K.Sink.view c.close_failed.new.sink) first begun seen ran c.in-Ok-close_failed.ensures.ok

pub returns-in-Err-close_failed-clause-plays : goal.returns-in-Err-close_failed-clause-plays
returns-in-Err-close_failed-clause-plays g c = λ w s n before now old new first begun seen rose runs.
    let failed : c.args.ended ≡ Err Read = search rules in
    let ran = subst (λ (r : Result ZEnd Fault). RunsOn r w s n old new) failed runs in
    fault_cut w s n before now old new c.args.begun (g.K.Sink.view c.args.sink.now) (g.K.Sink.view c.close_failed.new.sink) first begun seen (rose failed) ran c.in-Err-close_failed.ensures.err
