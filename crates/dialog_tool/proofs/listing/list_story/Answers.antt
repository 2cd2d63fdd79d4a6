use Rattle.std.proofs.Common.{refl, ◌∙◌, subst, List, ℕ}
use Rattle.dialog_tool.specs.Lines.{Says}
use Rattle.dialog_tool.proofs.AnswerLemmas.{no_room}
use Rattle.dialog_tool.proofs.ListLemmas.{story_listed}
use Rattle.dialog_tool.proofs.listing.list_story.Goals as goal

pub listing-requires-clause-short : goal.listing-requires-clause-short
listing-requires-clause-short g c = rw c.deref.ensures.value c.requires.short

pub listing-requires-clause-marks : goal.listing-requires-clause-marks
listing-requires-clause-marks g c = rw (c.deref.ensures.value, c.deref-2.ensures.value) c.requires.apart

pub returns-in-Ok : goal.returns-in-Ok
returns-in-Ok g c = λ before after name file dice input p f compiles has are.
    let text = rw (c.deref.ensures.value, c.deref-2.ensures.value) at c.in-Ok.ensures in
    let says = subst (λ (text : List ℕ). Says 0 text (g.K.Sink.view c.args.out.now) (g.K.Sink.view c.say_text.new.out) c.say_text.result) (c.deref-in-Ok.ensures.value ∙ text) c.say_text.ensures in
    story_listed _ name file _ p c.args.built.now.story.items c.args.built.now.marks.items refl f compiles has are refl says

pub returns-in-Err : goal.returns-in-Err
returns-in-Err g c = λ before after name file dice input p f compiles has are. no_room _ _ f.kept refl c.no_memory.ensures
