use Rattle.std.proofs.Common.{ap, sym, ◌∙◌, arith, length}
use Rattle.dg_story.specs.Kept.{kept_blocks}
use Rattle.dg_story.proofs.KeptBytes.{bytes_few, bytes_same}
use Rattle.dg_story.proofs.kept.areas_table.Goals as goal

pub kept_table-requires-clause-few : goal.kept_table-requires-clause-few
kept_table-requires-clause-few c = omega (arith, ap length c.in_ok-kept.ensures.words, bytes_few c.args.program.now)

pub kept_table-requires-clause-same : goal.kept_table-requires-clause-same
kept_table-requires-clause-same c = ap length c.in_ok-kept.ensures.owners ∙ bytes_same (kept_blocks c.args.program.now) ∙ sym (ap length c.in_ok-kept.ensures.words)

pub returns : goal.returns
returns c = c.kept_table.ensures (kept_blocks c.args.program.now) c.in_ok-kept.ensures.words c.in_ok-kept.ensures.owners
