use Rattle.z_model.specs.Closing.{newline_if, unread_line}
use Rattle.dg_base.proofs.WrittenLemmas.{wrote_on, broke_later, broke_first}
use Rattle.z_play.proofs.Written.{on_ok, on_err}
use Rattle.z_play.proofs.player.close_failed.Goals as goal

pub returns-in-Ok-clause-ok : goal.returns-in-Ok-clause-ok
returns-in-Ok-clause-ok g c = on_ok c.write_all.result _ _ c.write_all.ensures.ok (λ w. wrote_on (g.K.Sink.view c.args.sink.now) (g.K.Sink.view c.write_newline.new.sink) (g.K.Sink.view c.write_all.new.sink) (newline_if c.args.begun) unread_line c.in-Ok.ensures.ok w)

pub returns-in-Ok-clause-err : goal.returns-in-Ok-clause-err
returns-in-Ok-clause-err g c = on_err c.write_all.result _ _ c.write_all.ensures.err (λ w. broke_later (g.K.Sink.view c.args.sink.now) (g.K.Sink.view c.write_newline.new.sink) (g.K.Sink.view c.write_all.new.sink) (newline_if c.args.begun) unread_line c.in-Ok.ensures.ok w)

pub returns-in-Err-clause-err : goal.returns-in-Err-clause-err
returns-in-Err-clause-err g c = broke_first (g.K.Sink.view c.args.sink.now) (g.K.Sink.view c.write_newline.new.sink) (newline_if c.args.begun) unread_line c.in-Err.ensures.err
