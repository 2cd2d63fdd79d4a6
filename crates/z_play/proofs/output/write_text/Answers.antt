use Rattle.std.proofs.Common.{◌≡◌, [], ◌∷◌, Some, ap}
use Rattle.z_model.specs.Text.{Text, string_at}
use Rattle.z_text.specs.Walk.{rest_of}
use Rattle.z_play.proofs.Texts.{front_starts, front_goes, front_cut, front_ends}
use Rattle.z_play.proofs.output.write_text.Goals as goal

pub loop-code-init : goal.loop-code-init
loop-code-init g c = front_starts (g.K.Sink.view c.args.sink.now) c.args.begun (string_at c.args.memory.now c.args.at) (rest_of c.new-walker.result c.args.memory.now) (c.new-walker.ensures c.args.memory.now)

pub returns-in-Err-clause-ok : goal.returns-in-Err-clause-ok
returns-in-Err-clause-ok g c = (front_ends (g.K.Sink.view c.args.sink.now) (g.K.Sink.view c.loop-code.sink) c.args.begun c.loop-code.now (string_at c.args.memory.now c.args.at) (rest_of c.loop-code.walker c.args.memory.now) c.loop-code.invariant (ap (λ (t : Text). t.codes) c.in-Err.ensures.1)).wrote

pub returns-in-Err-clause-begun : goal.returns-in-Err-clause-begun
returns-in-Err-clause-begun g c = (front_ends (g.K.Sink.view c.args.sink.now) (g.K.Sink.view c.loop-code.sink) c.args.begun c.loop-code.now (string_at c.args.memory.now c.args.at) (rest_of c.loop-code.walker c.args.memory.now) c.loop-code.invariant (ap (λ (t : Text). t.codes) c.in-Err.ensures.1)).begins

pub returns-in-Ok-None-clause-ok : goal.returns-in-Ok-None-clause-ok
returns-in-Ok-None-clause-ok g c =
    let none : (rest_of c.loop-code.walker c.args.memory.now ≡ record { codes = []; end = Some c.next.new.self.at }) × (rest_of c.next.new.self c.args.memory.now ≡ rest_of c.loop-code.walker c.args.memory.now) = rw c.in-Ok-None.field-0-is at c.in-Ok-None.ensures in
    (front_ends (g.K.Sink.view c.args.sink.now) (g.K.Sink.view c.loop-code.sink) c.args.begun c.loop-code.now (string_at c.args.memory.now c.args.at) (rest_of c.loop-code.walker c.args.memory.now) c.loop-code.invariant (ap (λ (t : Text). t.codes) none.0)).wrote

pub returns-in-Ok-None-clause-begun : goal.returns-in-Ok-None-clause-begun
returns-in-Ok-None-clause-begun g c =
    let none : (rest_of c.loop-code.walker c.args.memory.now ≡ record { codes = []; end = Some c.next.new.self.at }) × (rest_of c.next.new.self c.args.memory.now ≡ rest_of c.loop-code.walker c.args.memory.now) = rw c.in-Ok-None.field-0-is at c.in-Ok-None.ensures in
    (front_ends (g.K.Sink.view c.args.sink.now) (g.K.Sink.view c.loop-code.sink) c.args.begun c.loop-code.now (string_at c.args.memory.now c.args.at) (rest_of c.loop-code.walker c.args.memory.now) c.loop-code.invariant (ap (λ (t : Text). t.codes) none.0)).begins

pub loop-code-preserved : goal.loop-code-preserved
loop-code-preserved g c =
    let step : rest_of c.loop-code.walker c.args.memory.now ≡ record { codes = c.in-Ok-Some.code ∷ (rest_of c.next.new.self c.args.memory.now).codes; end = (rest_of c.next.new.self c.args.memory.now).end } = rw c.in-Ok-Some.field-0-is at c.in-Ok-Some.ensures in
    front_goes (g.K.Sink.view c.args.sink.now) (g.K.Sink.view c.loop-code.sink) (g.K.Sink.view c.write_code.new.sink) c.args.begun c.loop-code.now c.in-Ok.begun (string_at c.args.memory.now c.args.at) (rest_of c.loop-code.walker c.args.memory.now) (rest_of c.next.new.self c.args.memory.now) c.in-Ok-Some.code c.loop-code.invariant step c.in-Ok.ensures.ok c.in-Ok.ensures.begun

pub returns-in-Err-write_code-clause-err : goal.returns-in-Err-write_code-clause-err
returns-in-Err-write_code-clause-err g c =
    let step : rest_of c.loop-code.walker c.args.memory.now ≡ record { codes = c.in-Ok-Some.code ∷ (rest_of c.next.new.self c.args.memory.now).codes; end = (rest_of c.next.new.self c.args.memory.now).end } = rw c.in-Ok-Some.field-0-is at c.in-Ok-Some.ensures in
    front_cut (g.K.Sink.view c.args.sink.now) (g.K.Sink.view c.loop-code.sink) (g.K.Sink.view c.write_code.new.sink) c.args.begun c.loop-code.now (string_at c.args.memory.now c.args.at) (rest_of c.loop-code.walker c.args.memory.now) (rest_of c.next.new.self c.args.memory.now) c.in-Ok-Some.code c.loop-code.invariant step c.in-Err-write_code.ensures.err
