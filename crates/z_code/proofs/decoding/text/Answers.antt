use Rattle.std.proofs.Common.{rules}
use Rattle.z_model.specs.Decode.{text_at}
use Rattle.z_code.proofs.decoding.text.Goals as goal

pub returns-in-Some-clause-text : goal.returns-in-Some-clause-text
unfolding text_at
returns-in-Some-clause-text c = search rules
