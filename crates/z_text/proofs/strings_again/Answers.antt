use Rattle.z_text.proofs.Packed.{string_again}
use Rattle.z_text.proofs.strings_again.Goals as goal

pub returns : goal.returns
returns c = λ codes front rest. string_again codes front rest
