use Rattle.std.proofs.Common.{◌∙◌, sym}
use Rattle.z_list.proofs.Instructions.{small_slice, found_some, found_within}
use Rattle.z_list.proofs.rest.first_length.Goals as goal

pub returns-in-Ok-clause-within : goal.returns-in-Ok-clause-within
returns-in-Ok-clause-within c =
    let bs = c.args.bytes.now in
    let small = small_slice bs c.type_inv.bytes in
    let op = sym c.decode.ensures.op ∙ c.in-Ok.is in
    (found_some bs c.in-Ok.found small op, found_within bs c.in-Ok.found small op)
