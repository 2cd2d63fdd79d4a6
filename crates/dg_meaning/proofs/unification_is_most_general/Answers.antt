use Rattle.dg_meaning.proofs.Unifiers.{extends, makes_equal, most_general}
use Rattle.dg_meaning.proofs.EqualValues.{equal_values}
use Rattle.dg_meaning.proofs.unification_is_most_general.Goals as goal

pub returns-clause-extends : goal.returns-clause-extends
returns-clause-extends c = extends

pub returns-clause-equal : goal.returns-clause-equal
returns-clause-equal c = makes_equal

pub returns-clause-most_general : goal.returns-clause-most_general
returns-clause-most_general c = most_general

pub returns-clause-silent : goal.returns-clause-silent
returns-clause-silent c = equal_values
