use Rattle.std.proofs.Common.{Ok, Err, refl}
use Rattle.dg_base.specs.declared.run.Fault.TheVariants.{Read, Write}
use Rattle.dialog_tool.specs.inside.CommandView.{task_view}
use Rattle.dialog_tool.proofs.PlayLemmas.{file_plays, file_plays_some, play_ends, play_unread, play_unwritten}
use Rattle.dialog_tool.proofs.playing.run_player.Goals as goal

pub returns-in-Ok : goal.returns-in-Ok
returns-in-Ok g c = λ command before after bytes loaded.
    let told = rw c.thrown-dice.ensures.dice at c.in-Ok.ensures.told in
    let untold = rw c.thrown-dice.ensures.dice at c.in-Ok.ensures.untold in
    play_ends _ (task_view c.args.task.now) bytes _ c.in-Ok.end c.status_of_end.ensures
    (record {
      told = λ typed is. file_plays bytes c.args.player.now loaded (Ok c.in-Ok.end) _ typed _ (g.S.Source.view c.args.input.now).faults (g.S.Source.view c.run.new.source).faults _ _ _ (told typed is);
      untold = file_plays_some bytes c.args.player.now loaded (Ok c.in-Ok.end) _ _ (g.S.Source.view c.args.input.now).faults (g.S.Source.view c.run.new.source).faults _ _ untold;
    })

pub returns-in-Err-Read : goal.returns-in-Err-Read
returns-in-Err-Read g c = λ command before after bytes loaded.
    let told = rw (c.in-Err-Read.field-0-is, c.thrown-dice.ensures.dice) at c.in-Err-Read.ensures.told in
    let untold = rw (c.in-Err-Read.field-0-is, c.thrown-dice.ensures.dice) at c.in-Err-Read.ensures.untold in
    let causes = rw c.in-Err-Read.field-0-is at c.in-Err-Read.ensures.causes in
    play_unread _ (task_view c.args.task.now) bytes _ refl (causes.read_failed refl)
    (record {
      told = λ typed is. file_plays bytes c.args.player.now loaded (Err Read) _ typed _ (g.S.Source.view c.args.input.now).faults (g.S.Source.view c.run.new.source).faults _ _ _ (told typed is);
      untold = file_plays_some bytes c.args.player.now loaded (Err Read) _ _ (g.S.Source.view c.args.input.now).faults (g.S.Source.view c.run.new.source).faults _ _ untold;
    })

pub returns-in-Err-Write : goal.returns-in-Err-Write
returns-in-Err-Write g c = λ command before after bytes loaded.
    let told = rw (c.in-Err-Write.field-0-is, c.thrown-dice.ensures.dice) at c.in-Err-Write.ensures.told in
    let untold = rw (c.in-Err-Write.field-0-is, c.thrown-dice.ensures.dice) at c.in-Err-Write.ensures.untold in
    let causes = rw c.in-Err-Write.field-0-is at c.in-Err-Write.ensures.causes in
    play_unwritten _ (task_view c.args.task.now) bytes _ refl (causes.write_failed refl)
    (record {
      told = λ typed is. file_plays bytes c.args.player.now loaded (Err Write) _ typed _ (g.S.Source.view c.args.input.now).faults (g.S.Source.view c.run.new.source).faults _ _ _ (told typed is);
      untold = file_plays_some bytes c.args.player.now loaded (Err Write) _ _ (g.S.Source.view c.args.input.now).faults (g.S.Source.view c.run.new.source).faults _ _ untold;
    })
