use Rattle.std.proofs.Common.{Ok, Err}
use Rattle.dg_compile.proofs.source.refused_sources_have_no_program.Goals as goal

pub returns : goal.returns
returns c = λ source r p refused program. let same = c.sources_have_one_answer.ensures source (Ok p) (Err r) program refused in cc
