use Rattle.std.proofs.Common.{rules}
use Rattle.z_text.specs.Encode.{packed}
use Rattle.z_text.proofs.encoding.put_last.Goals as goal

pub returns-in-len1 : goal.returns-in-len1
unfolding packed
returns-in-len1 c = search rules

pub returns-in-len2 : goal.returns-in-len2
unfolding packed
returns-in-len2 c = search rules

pub returns-in-len3-up : goal.returns-in-len3-up
unfolding packed
returns-in-len3-up c = search rules
