use Rattle.std.proofs.Common.{refl, ◌∙◌, subst, List, ℕ}
use Rattle.dialog_tool.specs.Lines.{Says}
use Rattle.dialog_tool.proofs.AnswerLemmas.{says_report, no_room}
use Rattle.dialog_tool.proofs.singles.list.Goals as goal

pub returns-in-Ok : goal.returns-in-Ok
returns-in-Ok g c = λ before after name file dice input f compiles.
    let r = c.in-Ok.ensures in
    let says = subst (λ (text : List ℕ). Says 0 text (g.K.Sink.view c.args.out.now) (g.K.Sink.view c.say_text.new.out) c.say_text.result) (c.deref.ensures.value ∙ r.2) c.say_text.ensures in
    says_report _ name file _ refl f c.args.program.now compiles r.0 r.1 refl says

pub returns-in-Err : goal.returns-in-Err
returns-in-Err g c = λ before after name file dice input f compiles. no_room _ _ f.kept refl c.no_memory.ensures
