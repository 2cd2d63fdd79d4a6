use Rattle.std.proofs.Common.{length}
use Rattle.z_text.specs.Walk.{rest_of}
use Rattle.z_model.specs.Text.{string_at}
use Rattle.z_play.proofs.Texts.{WroteFront}
use Rattle.z_play.proofs.output.write_text.Given as goal

abbrev pub invariant-loop-code : goal.invariant-loop-code
invariant-loop-code g l = WroteFront (g.K.Sink.view l.initial.sink) (g.K.Sink.view l.sink) l.begun l.now (string_at l.memory l.at) (rest_of l.walker l.memory)

abbrev pub decreases-loop-code : goal.decreases-loop-code
decreases-loop-code g l = length (rest_of l.walker l.memory).codes
