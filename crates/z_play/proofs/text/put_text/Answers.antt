use Rattle.std.proofs.Common.{◌≡◌, [], ◌∷◌, Some, ap}
use Rattle.z_model.specs.Text.{Text, string_at}
use Rattle.z_text.specs.Walk.{rest_of}
use Rattle.z_play.proofs.Collecting.{collect_starts, collect_over, next_printed, collect_on, collect_full}
use Rattle.z_play.proofs.text.put_text.Goals as goal

pub loop-code-init : goal.loop-code-init
loop-code-init c = collect_starts c.args.room.now (string_at c.args.memory.now c.args.at).codes (rest_of c.new-walker.result c.args.memory.now).codes (ap (λ (t : Text). t.codes) (c.new-walker.ensures c.args.memory.now)) c.requires

pub returns-in-Err : goal.returns-in-Err
returns-in-Err c = collect_over c.loop-code.room c.loop-code.count (string_at c.args.memory.now c.args.at).codes (rest_of c.loop-code.walker c.args.memory.now).codes c.loop-code.invariant (ap (λ (t : Text). t.codes) c.in-Err.ensures.1)

pub returns-in-Ok-None : goal.returns-in-Ok-None
returns-in-Ok-None c =
    let none : (rest_of c.loop-code.walker c.args.memory.now ≡ record { codes = []; end = Some c.next.new.self.at }) × (rest_of c.next.new.self c.args.memory.now ≡ rest_of c.loop-code.walker c.args.memory.now) = rw c.in-Ok-None.field-0-is at c.in-Ok-None.ensures in
    collect_over c.loop-code.room c.loop-code.count (string_at c.args.memory.now c.args.at).codes (rest_of c.loop-code.walker c.args.memory.now).codes c.loop-code.invariant (ap (λ (t : Text). t.codes) none.0)

pub put_code-requires : goal.put_code-requires
put_code-requires c =
    let step : rest_of c.loop-code.walker c.args.memory.now ≡ record { codes = c.in-Ok-Some.code ∷ (rest_of c.next.new.self c.args.memory.now).codes; end = (rest_of c.next.new.self c.args.memory.now).end } = rw c.in-Ok-Some.field-0-is at c.in-Ok-Some.ensures in
    record {
      within = c.loop-code.invariant.within;
      printed = next_printed c.loop-code.room c.loop-code.count (string_at c.args.memory.now c.args.at).codes (rest_of c.loop-code.walker c.args.memory.now).codes c.in-Ok-Some.code (rest_of c.next.new.self c.args.memory.now).codes c.loop-code.invariant (ap (λ (t : Text). t.codes) step);
    }

pub loop-code-preserved : goal.loop-code-preserved
loop-code-preserved c =
    let step : rest_of c.loop-code.walker c.args.memory.now ≡ record { codes = c.in-Ok-Some.code ∷ (rest_of c.next.new.self c.args.memory.now).codes; end = (rest_of c.next.new.self c.args.memory.now).end } = rw c.in-Ok-Some.field-0-is at c.in-Ok-Some.ensures in
    collect_on c.loop-code.room c.put_code.new.room c.loop-code.count c.in-Some.more (string_at c.args.memory.now c.args.at).codes (rest_of c.loop-code.walker c.args.memory.now).codes c.in-Ok-Some.code (rest_of c.next.new.self c.args.memory.now).codes c.loop-code.invariant (ap (λ (t : Text). t.codes) step) c.in-Some.ensures

pub returns-in-None : goal.returns-in-None
returns-in-None c =
    let step : rest_of c.loop-code.walker c.args.memory.now ≡ record { codes = c.in-Ok-Some.code ∷ (rest_of c.next.new.self c.args.memory.now).codes; end = (rest_of c.next.new.self c.args.memory.now).end } = rw c.in-Ok-Some.field-0-is at c.in-Ok-Some.ensures in
    collect_full c.loop-code.room c.put_code.new.room c.loop-code.count (string_at c.args.memory.now c.args.at).codes (rest_of c.loop-code.walker c.args.memory.now).codes c.in-Ok-Some.code (rest_of c.next.new.self c.args.memory.now).codes c.loop-code.invariant (ap (λ (t : Text). t.codes) step) c.in-None.ensures
