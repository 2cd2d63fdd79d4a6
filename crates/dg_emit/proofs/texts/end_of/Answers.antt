use Rattle.std.proofs.Common.{◌∙◌, sym, arith}
use Rattle.dg_emit.proofs.Names.{ends_so}
use Rattle.dg_emit.proofs.texts.end_of.Goals as goal

pub returns-in-len1-up : goal.returns-in-len1-up
returns-in-len1-up c = c.end_with.ensures ∙ sym (ends_so c.args.characters.now _ (omega (arith, c.in-len1-up.len_at_least)))
