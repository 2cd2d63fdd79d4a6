use Rattle.std.proofs.Common.{List, ℕ, refl, subst}
use Rattle.dialog_tool.specs.Lines.{Says}
use Rattle.dialog_tool.proofs.MakeLemmas.{says_made, lacks_made}
use Rattle.dialog_tool.proofs.making.make_program.Goals as goal

pub returns-in-Ok : goal.returns-in-Ok
returns-in-Ok g c = λ n shelf input source compiles.
    let says = subst (λ (text : List ℕ). Says c.in-Ok.report.status text (g.K.Sink.view c.args.out.now) (g.K.Sink.view c.say_text.new.out) c.say_text.result) c.deref.ensures.value c.say_text.ensures in
    says_made n c.args.dice.now shelf input _ _ c.in-Ok.report.status _ c.in-Ok.report.text.items (c.in-Ok.ensures n source compiles) says

pub returns-in-Err : goal.returns-in-Err
returns-in-Err g c = λ n shelf input source compiles. lacks_made n c.args.dice.now shelf input _ _ _ c.no_memory.ensures
