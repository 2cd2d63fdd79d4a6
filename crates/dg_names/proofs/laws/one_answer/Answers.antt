use Rattle.std.proofs.Common.{[]}
use Rattle.dg_base.proofs.PassingLemmas as one
use Rattle.dg_base.specs.Passing.{first_passing}
use Rattle.dg_names.specs.Counts.{has_excess, are_many}
use Rattle.dg_names.specs.Named.{names_of}
use Rattle.dg_names.proofs.laws.one_answer.Goals as goal

pub returns : goal.returns
returns c = λ is a b x y. one.one_answer (first_passing has_excess are_many [] is) (names_of is) a b x y
