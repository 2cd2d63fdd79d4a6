use Rattle.std.proofs.Common.{sym, refl}
use Rattle.dialog_tool.specs.Command.{texts}
use Rattle.dialog_tool.proofs.AnswerLemmas.{no_words, no_room_first}
use Rattle.dialog_tool.proofs.WithinLemmas.{made_within}
use Rattle.dialog_tool.proofs.dispatch.tool.Goals as goal

pub returns-in-Ok-None : goal.returns-in-Ok-None
returns-in-Ok-None g c =
    let none = rw c.in-Ok-None.field-0-is at c.in-Ok-None.ensures.command in
    record { answers = no_words _ _ (sym none) refl refl c.usage.ensures }

pub returns-in-Err : goal.returns-in-Err
returns-in-Err g c = record { answers = no_room_first _ _ refl refl c.no_memory.ensures }

pub make-requires-clause-some : goal.make-requires-clause-some
make-requires-clause-some g c = (made_within (texts c.args.words.now) _ (rw (c.in-Ok-Some-Make.field-0-is, c.in-Ok-Some-Make.field-0-0-is) at c.in-Ok-Some-Make.ensures.command)).0

pub make-requires-clause-few : goal.make-requires-clause-few
make-requires-clause-few g c = (made_within (texts c.args.words.now) _ (rw (c.in-Ok-Some-Make.field-0-is, c.in-Ok-Some-Make.field-0-0-is) at c.in-Ok-Some-Make.ensures.command)).1
