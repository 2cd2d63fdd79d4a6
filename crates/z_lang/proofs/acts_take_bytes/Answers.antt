use Rattle.z_lang.proofs.Sizes.{takes_bytes}
use Rattle.z_lang.proofs.acts_take_bytes.Goals as goal

pub returns : goal.returns
returns c = λ body. takes_bytes body
