use Rattle.dg_quiet.proofs.QuietSearches.{nothing_changes, question_changes_nothing}
use Rattle.dg_quiet.proofs.laws.quiet_searches_change_nothing.Goals as goal

pub returns-clause-searches : goal.returns-clause-searches
returns-clause-searches c = nothing_changes

pub returns-clause-questions : goal.returns-clause-questions
returns-clause-questions c = question_changes_nothing
