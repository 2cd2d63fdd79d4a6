use Rattle.dg_quiet.proofs.QuietSearches.{one_fact_changes, fact_goes_back}
use Rattle.dg_quiet.proofs.laws.second_runs_change_one_fact.Goals as goal

pub returns-clause-run : goal.returns-clause-run
returns-clause-run c = one_fact_changes

pub returns-clause-back : goal.returns-clause-back
returns-clause-back c = fact_goes_back
