-- The search. Hold it against the Dialog manual, chapter "Choice points", with "Control flow" on (just), (if), (exhaust), (stoppable) and (repeat forever).
use Rattle.std.specs.Prelude.{ℕ, zero, suc, min, eqb, nat_lt, List, [], ◌∷◌, Option, Some, None, Bool, false, if◌then◌else◌}
use Rattle.dg_base.specs.declared.program.Goal.{out-Goal}
use Rattle.dg_base.specs.declared.run.Ending.TheVariants.{Done as Done-Ending, StepLimit}
use Rattle.dg_meaning.specs.Values.{value_of}
use Rattle.dg_meaning.specs.Substitutions.{resolved}
use Rattle.dg_meaning.specs.World.{Game, World, Answered, Retried, noted, worked, kept, dropped}
use Rattle.dg_meaning.specs.Path.{Step, Do, Answers, Cut, Refuse, Back, Keep, Leave, Registers, Path, Result, Failing, CutFail, StopTo, End, Answer, Branch, Enter, Clash, TakeOut, Finds, ChoiceKind, Plain, Rules, Shield, Gathers, Move, GoesOn, FailsAt, EndsAt, StopsAt, Outcome, Moves, Chooses}
use Rattle.dg_meaning.specs.Moves.{exhausted, begins, keeping, move}

-- From a budget of goals, a path and a world to an answer.
abbrev pub Search : Type 0
Search = ℕ → Path → World → Answer

-- The answer of these three.
abbrev pub answer : ℕ → World → Result → Answer
answer n w r = record { left = n; world = w; result = r }

-- ## Cuts

-- The result behind a mark that cuts to t: the oldest cut counts.
abbrev pub cut_result : ℕ → Result → Result
cut_result t Failing = CutFail t
cut_result t (CutFail u) = CutFail (min u t)
cut_result t (StopTo s None) = StopTo s (Some t)
cut_result t (StopTo s (Some c)) = StopTo s (Some (min c t))
cut_result t (End e) = End e

-- The answer behind a mark that cuts to t.
abbrev pub cut : ℕ → Answer → Answer
cut t a = answer a.left a.world (cut_result t a.result)

-- A cut to a choice older than t, in front of steps.
abbrev pub cut_first : ℕ → Option ℕ → List Step → List Step
cut_first t None steps = steps
cut_first t (Some c) steps = if nat_lt c t then Cut c ∷ steps else steps

-- A branch with such a cut in front of its steps.
abbrev pub branch_cut : ℕ → Option ℕ → Branch → Branch
branch_cut t c (Enter path work) = Enter (record path { steps = cut_first t c path.steps }) work
branch_cut t c (Clash r work) = Clash r work
branch_cut t c (TakeOut u whole into path) = TakeOut u whole into (record path { steps = cut_first t c path.steps })
branch_cut t c (Finds place o args path) = Finds place o args (record path { steps = cut_first t c path.steps })

-- Branches with such a cut in front of the steps of each.
abbrev pub branches_cut : ℕ → Option ℕ → List Branch → List Branch
branches_cut t c [] = []
branches_cut t c (b ∷ bs) = branch_cut t c b ∷ branches_cut t c bs

-- ## Choices

-- What a choice is to the branches behind its first.
abbrev pub later : ChoiceKind → ChoiceKind
later (Rules pred) = Rules pred
later k = Plain

-- The world in which a branch behind the first begins.
abbrev pub retried : ChoiceKind → World → World
retried (Rules pred) w = noted (Retried pred) w
retried k w = w

-- A result other than a failure that leaves the first branch drops its gathering.
abbrev pub leave : ChoiceKind → ℕ → World → World
leave Gathers t w = dropped t w
leave k t w = w

-- The first branch of a stoppable choice catches what stops to it.
abbrev pub catches : ChoiceKind → ℕ → ℕ → Bool
catches Shield t s = eqb s t
catches k t s = false

-- What a branch of the choice t leads to: the others, the others after a stop, or what passes through.
abbrev pub after_branch : ChoiceKind → ℕ → ℕ → World → Result → (ℕ → World → Answer) → (Option ℕ → ℕ → World → Answer)
    → Answer
after_branch k t n w Failing next stopped = next n w
after_branch k t n w (CutFail u) next stopped = answer n (leave k t w) (if eqb u t then Failing else CutFail u)
after_branch k t n w (StopTo s c) next stopped = if catches k t s then stopped c n w else answer n (leave k t w) (StopTo s c)
after_branch k t n w (End e) next stopped = answer n (leave k t w) (End e)

-- What a move leads to, where s searches.
abbrev pub after_move : Search → ℕ → Move → Answer
after_move s n (GoesOn path w) = s n path w
after_move s n (FailsAt w) = answer n w Failing
after_move s n (EndsAt e w) = answer n w (End e)
after_move s n (StopsAt t w) = answer n w (StopTo t None)

-- A branch begins, and s searches what it goes on with.
abbrev pub begin : Search → Branch → ℕ → World → Answer
begin s b n w = after_move s n (begins b w)

-- The branches of the choice t behind its first.
abbrev pub choose : Search → ChoiceKind → ℕ → List Branch → ℕ → World → Answer
choose s k t [] n w = answer n (exhausted k w) Failing
choose s k t (b ∷ bs) n w = let a = begin s b n (retried k w) in after_branch k t a.left a.world a.result (choose s k t bs) (λ c. choose s k t bs)

-- A choice: its first branch, and then the others.
abbrev pub choose_first : Search → ChoiceKind → ℕ → Branch → List Branch → ℕ → World → Answer
choose_first s k t b bs n w =
    let a = begin s b n w in after_branch k t a.left a.world a.result (choose s (later k) t bs) (λ c. choose s (later k) t (branches_cut t c bs))

-- ## Steps

-- What a goal leads to, where s searches.
abbrev pub after_goal : Search → ℕ → Outcome → Answer
after_goal s n (Moves m) = after_move s n m
after_goal s n (Chooses k t b bs w) = choose_first s k t b bs n w

-- A goal is taken only where the budget has one.
abbrev pub take_goal : Search → ℕ → Outcome → World → Answer
take_goal s zero m w = answer zero w (End StepLimit)
take_goal s (suc n) m w = after_goal s n m

-- The steps of a path, where s searches what a goal goes on with; marks take nothing of the budget.
abbrev pub go : Game → Search → ℕ → List Step → Registers → World → Answer
go g s n [] r w = answer n w (End Done-Ending)
go g s n (Do goal env t ∷ steps) r w = take_goal s n (move g (out-Goal goal) env t steps r (worked 1 w)) w
go g s n (Answers pred ∷ steps) r w = go g s n steps r (noted (Answered pred) w)
go g s n (Cut t ∷ steps) r w = cut t (go g s n steps r w)
go g s n (Refuse t ∷ steps) r w = answer n w (CutFail t)
go g s n (Back ∷ steps) r w = answer n w Failing
go g s n (Keep t x env ∷ steps) r w = let v = value_of g.program env x in answer n (kept t (resolved r.bound v) (worked (keeping r v) w)) Failing
go g s n (Leave t outer ∷ steps) r w = cut t (go g s n steps (record r { stoppable = outer }) w)

-- Where no goal may be taken.
abbrev pub nowhere : Search
nowhere n path w = answer n w (End StepLimit)

-- The search in which at most so many goals are taken one behind another.
abbrev pub search_to : Game → ℕ → Search
search_to g zero n path w = go g nowhere n path.steps path.registers w
search_to g (suc bound) n path w = go g (search_to g bound) n path.steps path.registers w

-- The search with a budget of n goals, of which no more than n can be taken one behind another.
unfoldable pub search : Game → Search
search g n path w = search_to g n n path w
