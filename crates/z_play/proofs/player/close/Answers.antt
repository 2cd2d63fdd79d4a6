use Rattle.z_model.specs.Closing.{end_line, newline_if}
use Rattle.dg_base.proofs.WrittenLemmas.{broke_later, broke_first}
use Rattle.z_play.proofs.Written.{on_err}
use Rattle.z_play.proofs.player.close.Goals as goal

pub returns-in-Ok-clause-err : goal.returns-in-Ok-clause-err
returns-in-Ok-clause-err g c = on_err c.write_end.result _ _ c.write_end.ensures.err (λ w. broke_later (g.K.Sink.view c.args.sink.now) (g.K.Sink.view c.write_newline.new.sink) (g.K.Sink.view c.write_end.new.sink) (newline_if c.args.begun) (end_line c.args.end) c.in-Ok.ensures.ok w)

pub returns-in-Err-clause-err : goal.returns-in-Err-clause-err
returns-in-Err-clause-err g c = broke_first (g.K.Sink.view c.args.sink.now) (g.K.Sink.view c.write_newline.new.sink) (newline_if c.args.begun) (end_line c.args.end) c.in-Err.ensures.err
