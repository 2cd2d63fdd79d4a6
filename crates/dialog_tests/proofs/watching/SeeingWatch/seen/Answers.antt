use Rattle.dialog_tests.proofs.watching.SeeingWatch.seen.Goals as goal

pub returns-in-Ok-clause-seen : goal.returns-in-Ok-clause-seen
returns-in-Ok-clause-seen c = record { stands = λ before h. tt; tests = tt }

pub returns-in-Err-clause-seen : goal.returns-in-Err-clause-seen
returns-in-Err-clause-seen c = record { told = record { stands = λ before h. tt; tests = tt }; refuses = tt }
