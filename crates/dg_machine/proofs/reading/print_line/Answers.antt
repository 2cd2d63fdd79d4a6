use Rattle.std.proofs.Common.{refl, sym, subst}
use Rattle.std.proofs.lemmas.List.{append-nil}
use Rattle.dg_base.proofs.WrittenLemmas.{wrote_on, broke_later}
use Rattle.dg_base.specs.declared.program.GapKind.TheVariants.{Line}
use Rattle.dg_base.specs.Written.{Wrote, BrokeOff}
use Rattle.dg_meaning.specs.Render.{render, growth}
use Rattle.dg_meaning.specs.World.{GapOf}
use Rattle.dg_mid.specs.Step.{followed}
use Rattle.dg_texts.proofs.Texts.{render_grows}
use Rattle.dg_machine.specs.inside.Running.{HasText}
use Rattle.dg_machine.proofs.Lines.{line_on}
use Rattle.dg_machine.proofs.reading.print_line.Goals as goal

pub returns-in-Ok : goal.returns-in-Ok
returns-in-Ok g c =
    let k = g.K.Sink.view c.args.sink.now in
    let k' = g.K.Sink.view c.event.new.sink in
    record {
      same = refl;
      text = λ start ps text. subst (λ qs. HasText c.event.new.self start k' (followed ps qs)) (sym (line_on c.args.now c.in_default.not-Ended))
          (record {
            stands = c.in-Ok.ensures.stands ps text.stands;
            wrote = subst (Wrote start k') (sym (render_grows ps (GapOf Line))) (wrote_on start k k' (render ps) (growth ps (GapOf Line)) text.wrote (c.in-Ok.ensures.ok ps text.stands));
          });
      err = tt;
    }

pub returns-in-Err : goal.returns-in-Err
returns-in-Err g c =
    let k = g.K.Sink.view c.args.sink.now in
    let k' = g.K.Sink.view c.event.new.sink in
    record {
      same = tt;
      text = tt;
      err = (refl, λ start ps text. subst (BrokeOff start k') (append-nil (render ps)) (broke_later start k k' (render ps) (growth ps (GapOf Line)) text.wrote (c.in-Err.ensures.err ps text.stands)));
    }
