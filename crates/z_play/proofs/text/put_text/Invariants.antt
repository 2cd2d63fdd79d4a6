use Rattle.std.proofs.Common.{length}
use Rattle.z_model.specs.Text.{string_at}
use Rattle.z_text.specs.Walk.{rest_of}
use Rattle.z_play.proofs.Collecting.{Collecting}
use Rattle.z_play.proofs.text.put_text.Given as goal

abbrev pub invariant-loop-code : goal.invariant-loop-code
invariant-loop-code l = Collecting l.room l.count (string_at l.memory l.at).codes (rest_of l.walker l.memory).codes

abbrev pub decreases-loop-code : goal.decreases-loop-code
decreases-loop-code l = length (rest_of l.walker l.memory).codes
