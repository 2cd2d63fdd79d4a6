use Rattle.std.proofs.Common.{sym, subst}
use Rattle.dg_watch.specs.Watching.{Given, Lost}
use Rattle.dg_watch.proofs.Telling.{given_nothing}
use Rattle.dg_interp.specs.inside.Showing.{call_told}
use Rattle.dg_interp.proofs.Runs.{call_is}
use Rattle.dg_interp.proofs.output.show_call.Goals as goal

pub returns-in-Printed-clause-ok : goal.returns-in-Printed-clause-ok
returns-in-Printed-clause-ok g c = subst (λ call. Given g.A.Showing.watching (c.args.showing.now, c.args.sink.now) (c.args.showing.now, c.args.sink.now) (call_told call)) (sym c.in-Printed.is) (given_nothing g.A.Showing.watching (c.args.showing.now, c.args.sink.now))

pub returns-in-Ok-clause-ok : goal.returns-in-Ok-clause-ok
returns-in-Ok-clause-ok g c = subst (Given g.A.Showing.watching (c.args.showing.now, c.args.sink.now) (c.show.new.showing, c.show.new.sink)) (sym (call_is c.args.call c.in_default.not-Printed)) c.in-Ok.ensures.ok

pub returns-in-Err-clause-err : goal.returns-in-Err-clause-err
returns-in-Err-clause-err g c = subst (Lost g.A.Showing.watching (c.args.showing.now, c.args.sink.now) (c.show.new.showing, c.show.new.sink)) (sym (call_is c.args.call c.in_default.not-Printed)) c.in-Err.ensures.err
