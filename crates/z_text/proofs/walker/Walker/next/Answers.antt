use Rattle.std.proofs.Common.{◌≡◌, [], Some, None, refl, sym, ◌∙◌}
use Rattle.z_text.specs.Walk.{characters_left, end_left, IsBehind}
use Rattle.z_text.proofs.Words.{none_left, refused, turns, gives}
use Rattle.z_text.proofs.walker.Walker.next.Goals as goal

pub returns-in-Err : goal.returns-in-Err
returns-in-Err c = (c.in-Err.ensures.0, sym c.loop-fault.invariant.same ∙ none_left c.loop-fault.here c.args.bytes.now None c.in-Err.ensures.1 c.in-Err.ensures.2, c.loop-fault.invariant.kept)

pub returns-in-Ok-None : goal.returns-in-Ok-None
returns-in-Ok-None c =
    let none : (characters_left c.loop-fault.here c.args.bytes.now ≡ []) × (end_left c.loop-fault.here c.args.bytes.now ≡ Some c.loop-fault.here.at) = rw c.in-Ok-None.field-0-is at c.in-Ok-None.ensures in
    (sym c.loop-fault.invariant.same ∙ none_left c.loop-fault.here c.args.bytes.now (Some c.loop-fault.here.at) none.0 none.1, c.loop-fault.invariant.same)

pub returns-in-Refuses : goal.returns-in-Refuses
returns-in-Refuses c =
    let behind : IsBehind c.in-Ok-Some.z c.loop-fault.here c.in-Ok-Some.behind c.args.bytes.now = rw c.in-Ok-Some.field-0-is at c.in-Ok-Some.ensures in
    (refl, sym c.loop-fault.invariant.same ∙ refused c.in-Ok-Some.z c.loop-fault.here c.in-Ok-Some.behind c.args.bytes.now behind (sym c.read_character.ensures ∙ c.in-Refuses.is), c.loop-fault.invariant.kept)

pub loop-fault-preserved : goal.loop-fault-preserved
loop-fault-preserved c =
    let behind : IsBehind c.in-Ok-Some.z c.loop-fault.here c.in-Ok-Some.behind c.args.bytes.now = rw c.in-Ok-Some.field-0-is at c.in-Ok-Some.ensures in
    record {
      same = sym (turns c.in-Ok-Some.z c.loop-fault.here c.in-Ok-Some.behind c.args.bytes.now behind c.in-Turns.alphabet (sym c.read_character.ensures ∙ c.in-Turns.is)) ∙ c.loop-fault.invariant.same;
      kept = c.loop-fault.invariant.kept;
    }

pub returns-in-Gives : goal.returns-in-Gives
returns-in-Gives c =
    let behind : IsBehind c.in-Ok-Some.z c.loop-fault.here c.in-Ok-Some.behind c.args.bytes.now = rw c.in-Ok-Some.field-0-is at c.in-Ok-Some.ensures in
    sym c.loop-fault.invariant.same ∙ gives c.in-Ok-Some.z c.loop-fault.here c.in-Ok-Some.behind c.args.bytes.now behind c.in-Gives.code (sym c.read_character.ensures ∙ c.in-Gives.is)
