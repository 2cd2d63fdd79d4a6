use Rattle.std.proofs.Common.{Some, ◌∙◌, sym, arith}
use Rattle.dg_emit.proofs.Names.{ends_behind}
use Rattle.dg_emit.proofs.objects.name_end.Goals as goal

pub returns-in-len1-up : goal.returns-in-len1-up
returns-in-len1-up c = c.end_with.ensures ∙ sym (ends_behind (Some 35) c.args.characters.now _ (omega (arith, c.in-len1-up.len_at_least)))
