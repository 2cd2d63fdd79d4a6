-- A sound program is runnable.
use Rattle.std.proofs.Common.{List}
use Rattle.std.specs.List.{All}
use Rattle.dg_base.specs.declared.program.Goal.{Goal, Goal-F, out-Goal}
use Rattle.dg_base.specs.declared.program.Goal.TheOpen.{Text, Print, Gap, GapN, Equal, Ask, Holds, IsObject, Now, Query, Either, Once, Not, If, Just, Fail, Stop, Quit, Forever, Exhaust, Stoppable, Select, Compare, Test, Arith, Random, Input, SplitWord, JoinWords, Collect, Accumulate}
use Rattle.dg_base.specs.declared.program.CoreProgram.{CoreProgram}
use Rattle.dg_base.specs.Sound.{IsSound}
use Rattle.dg_interp.specs.Runnable.{IsForm, IsRunnableGoal, IsRunnable}

-- every goal has one of the forms
any_form : (g : Goal-F Goal) → IsForm g
any_form (Text name) = tt
any_form (Print a) = tt
any_form (Gap kind) = tt
any_form (GapN a) = tt
any_form (Equal a b) = tt
any_form (Ask pred args many) = tt
any_form (Holds place args many) = tt
any_form (IsObject a many) = tt
any_form (Now place args sets) = tt
any_form (Query a b many) = tt
any_form (Either lists) = tt
any_form (Once goals) = tt
any_form (Not goals) = tt
any_form (If test first other) = tt
any_form Just = tt
any_form Fail = tt
any_form Quit = tt
any_form Forever = tt
any_form (Test kind a) = tt
any_form (Compare op a b) = tt
any_form (Arith op a b c) = tt
any_form (Random a b c) = tt
any_form (Input a) = tt
any_form (SplitWord a b) = tt
any_form (JoinWords a b) = tt
any_form (Exhaust goals) = tt
any_form (Collect term goals into) = tt
any_form (Accumulate term goals into) = tt
any_form (Stoppable goals) = tt
any_form (Select site mode lists) = tt
any_form Stop = tt

all_runnable : (goals : List Goal) → All IsRunnableGoal goals
all_runnable goals = λ k g lt. any_form (out-Goal _)

pub sound_runnable : (p : CoreProgram) → IsSound p → IsRunnable p
sound_runnable p sound = record {
  preds = λ k pred lt. λ j rule less. all_runnable _;
  closures = λ k closure lt. record { parameter = (sound.closures k closure lt).parameter; body = all_runnable _ };
}
