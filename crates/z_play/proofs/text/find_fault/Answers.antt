use Rattle.std.proofs.Common.{◌≡◌, [], ◌∷◌, Some, sym, ap, ◌∙◌}
use Rattle.z_text.specs.Walk.{rest_of}
use Rattle.z_play.proofs.Printable.{no_end, at_end, not_printed, printed}
use Rattle.z_play.proofs.text.find_fault.Goals as goal

pub returns-in-Err : goal.returns-in-Err
returns-in-Err c = ap Some c.in-Err.ensures.0 ∙ sym (no_end (rest_of c.loop-fault.walker c.args.memory.now) c.in-Err.ensures.1) ∙ c.loop-fault.invariant

pub returns-in-Ok-None : goal.returns-in-Ok-None
returns-in-Ok-None c =
    let none : (rest_of c.loop-fault.walker c.args.memory.now ≡ record { codes = []; end = Some c.next.new.self.at }) × (rest_of c.next.new.self c.args.memory.now ≡ rest_of c.loop-fault.walker c.args.memory.now) = rw c.in-Ok-None.field-0-is at c.in-Ok-None.ensures in
    sym (at_end (rest_of c.loop-fault.walker c.args.memory.now) c.next.new.self.at none.0) ∙ c.loop-fault.invariant

pub returns-then-not-is_printed : goal.returns-then-not-is_printed
returns-then-not-is_printed c =
    let step : rest_of c.loop-fault.walker c.args.memory.now ≡ record { codes = c.in-Ok-Some.code ∷ (rest_of c.next.new.self c.args.memory.now).codes; end = (rest_of c.next.new.self c.args.memory.now).end } = rw c.in-Ok-Some.field-0-is at c.in-Ok-Some.ensures in
    sym (not_printed (rest_of c.loop-fault.walker c.args.memory.now) c.in-Ok-Some.code (rest_of c.next.new.self c.args.memory.now).codes (rest_of c.next.new.self c.args.memory.now).end step (sym c.is_printed.ensures ∙ c.if-not-is_printed.true)) ∙ c.loop-fault.invariant

pub loop-fault-preserved : goal.loop-fault-preserved
loop-fault-preserved c =
    let step : rest_of c.loop-fault.walker c.args.memory.now ≡ record { codes = c.in-Ok-Some.code ∷ (rest_of c.next.new.self c.args.memory.now).codes; end = (rest_of c.next.new.self c.args.memory.now).end } = rw c.in-Ok-Some.field-0-is at c.in-Ok-Some.ensures in
    sym (printed (rest_of c.loop-fault.walker c.args.memory.now) c.in-Ok-Some.code (rest_of c.next.new.self c.args.memory.now).codes (rest_of c.next.new.self c.args.memory.now).end step (sym c.is_printed.ensures ∙ c.if-not-is_printed.false)) ∙ c.loop-fault.invariant
