-- The rules by which an engine may go on that keeps a path, the choices that were not cut, and the ways on behind stoppable parts, in place of the
-- search's recursion.
-- Hold it against the Dialog manual, chapter "Choice points".
use Rattle.std.specs.Prelude.{ℕ, suc, ◌+◌, ◌-◌, ◌≡◌, List, [], ◌∷◌, ◌++◌, length, Option, Some, None}
use Rattle.dg_base.specs.declared.program.Term.{Term}
use Rattle.dg_base.specs.declared.program.Term.TheVariants.{Var as Var-Term}
use Rattle.dg_base.specs.declared.program.Goal.{Goal, out-Goal}
use Rattle.dg_base.specs.declared.run.Ending.TheVariants.{Done as Done-Ending, StepLimit}
use Rattle.dg_meaning.specs.Values.{Value, value_of}
use Rattle.dg_meaning.specs.Substitutions.{resolved}
use Rattle.dg_meaning.specs.World.{Game, World, Answered, noted, worked, kept}
use Rattle.dg_meaning.specs.Path.{Step, Do, Answers, Cut, Refuse, Back, Keep, Leave, Registers, Path, Result, Failing, StopTo, End, Answer, Whole, Branch, Enter, TakeOut, ChoiceKind, Shield, Gathers, Move, GoesOn, FailsAt, EndsAt, StopsAt, Outcome, Moves, Chooses}
use Rattle.dg_meaning.specs.Moves.{path_of, exhausted, begun, goals_at, begins, keeping, move}
use Rattle.dg_meaning.specs.Search.{Search, search, answer, later, retried, choose}
use Rattle.dg_meaning.specs.Transcript.{Run, run_of, run, start_world, start_path}
use Rattle.dg_meaning.specs.inside.Bindings.{IsBound}
use Rattle.dg_meaning.specs.inside.OneRun.{Grows}
use Rattle.dg_meaning.specs.inside.Context.{Around, InBranch, unwind, gathers, Opens, Way, ways, Live, cut_to, pushed, live, way_to, Shielded, PathIn, IsNewest, KeepIn, Sound, Drops, tags_of}

-- The world that a move leaves.
abbrev pub world_at : Move → World
world_at (GoesOn path w) = w
world_at (FailsAt w) = w
world_at (EndsAt e w) = w
world_at (StopsAt t w) = w

-- The world that a goal leaves.
abbrev pub world_of : Outcome → World
world_of (Moves m) = world_at m
world_of (Chooses k t b bs w) = w

-- What the run comes to, where a search with this around it gives an answer.
abbrev pub unwound : Search → List Around → Answer → Run
unwound s ctx a = unwind s ctx a.left a.world a.result

-- ## Where a run stands

-- The run r comes from this path, inside these choices and ways.
pub record Stands (g : Game) (cs : List Live) (ws : List Way) (path : Path) (n : ℕ) (w : World) (r : Run) : Type 0 where
  pub ctx : List Around
  pub is : r ≡ unwound (search g) ctx (search g n path w)
  pub sound : Sound ctx
  pub opens : Opens w ctx
  pub inner : PathIn ctx path
  pub keeps : KeepIn (gathers ctx) path.steps
  pub choices : live ctx ≡ cs
  pub ways_are : ways ctx ≡ ws

-- The run r comes from a failure inside these choices.
pub record Failed (g : Game) (cs : List Live) (n : ℕ) (w : World) (r : Run) : Type 0 where
  pub ctx : List Around
  pub is : r ≡ unwind (search g) ctx n w Failing
  pub sound : Sound ctx
  pub opens : Opens w ctx
  pub choices : live ctx ≡ cs

-- The run r comes from a stop to s inside these choices and ways.
pub record Stopping (g : Game) (cs : List Live) (ws : List Way) (s : ℕ) (n : ℕ) (w : World) (r : Run) : Type 0 where
  pub ctx : List Around
  pub is : r ≡ unwind (search g) ctx n w (StopTo s None)
  pub sound : Sound ctx
  pub opens : Opens w ctx
  pub shielded : Shielded ctx s
  pub choices : live ctx ≡ cs
  pub ways_are : ways ctx ≡ ws

-- The run r comes from the branches of this choice that were not begun, inside these choices.
pub record Resumed (g : Game) (c : Live) (cs : List Live) (n : ℕ) (w : World) (r : Run) : Type 0 where
  pub kind : ChoiceKind
  pub kind_is : later kind ≡ c.kind
  pub ctx : List Around
  pub is : r ≡ unwound (search g) ctx (choose (search g) c.kind c.tag c.others n w)
  pub sound : Sound (InBranch kind c.tag c.others ∷ ctx)
  pub opens : Opens w (InBranch kind c.tag c.others ∷ ctx)
  pub height : length (gathers ctx) ≡ c.height
  pub choices : live ctx ≡ cs
  pub ways_are : ways ctx ≡ c.ways_on

-- The run r has ended so, and nothing has happened since.
pub record Finished (n : ℕ) (w : World) (result : Result) (r : Run) : Type 0 where
  pub world : World
  pub drops : Drops w world
  pub is : r ≡ run_of (answer n world result)

-- ## Where it goes on

-- How many gatherings are open where a choice goes on: one more where that takes one out.
abbrev pub open_at : List Branch → ℕ → ℕ
open_at (TakeOut t whole into path ∷ bs) height = height + 1
open_at bs height = height

-- A failure goes to the newest choice, and without one the run has failed.
pub record GoesBack (g : Game) (c : Live) (cs : List Live) (n : ℕ) (w : World) (r : Run) : Type 0 where
  pub world : World
  pub drops : Drops w world
  pub gatherings : length world.gathered ≡ open_at c.others c.height
  pub resumed : Resumed g c cs n world r

-- Where a failure inside these choices leads.
abbrev pub FailsTo : Game → ℕ → World → Run → List Live → Type 0
FailsTo g n w r [] = Finished n w Failing r
FailsTo g n w r (c ∷ cs) = GoesBack g c cs n w r

-- Where a run stands behind a move, inside these choices and ways.
abbrev pub Went : Game → List Live → List Way → ℕ → Move → Run → Type 0
Went g cs ws n (GoesOn path w) r = Stands g cs ws path n w r
Went g cs ws n (FailsAt w) r = Failed g cs n w r
Went g cs ws n (EndsAt e w) r = Finished n w (End e) r
Went g cs ws n (StopsAt s w) r = Stopping g cs ws s n w r

-- A branch begins inside these choices and ways.
abbrev pub Began : Game → List Live → List Way → Branch → ℕ → World → Run → Type 0
Began g cs ws b n w r = Went g cs ws n (begins b w) r

-- Where a run stands at the branches that a choice has left: its first begins, with the others left, or it has failed.
abbrev pub Tried : Game → ChoiceKind → ℕ → ℕ → List Way → List Live → List Branch → ℕ → World → Run → Type 0
Tried g k t height ws cs [] n w r = Failed g cs n (exhausted k w) r
Tried g k t height ws cs (b ∷ bs) n w r = Began g (pushed (record { kind = k; tag = t; others = bs; height = height; ways_on = ws }) cs) ws b n w r

-- The world in which these branches of a choice are tried again.
abbrev pub tried_in : ChoiceKind → List Branch → World → World
tried_in k [] w = w
tried_in k (b ∷ bs) w = retried k w

-- How many gatherings are open outside a choice whose first branch begins in this world.
abbrev pub open_outside : ChoiceKind → World → ℕ
open_outside Gathers w = length w.gathered - 1
open_outside k w = length w.gathered

-- The choices where the first branch of a choice begins, with these behind it.
abbrev pub new_choices : ChoiceKind → ℕ → List Branch → World → List Way → List Live → List Live
new_choices k t bs w ws cs = pushed (record { kind = later k; tag = t; others = bs; height = open_outside k w; ways_on = ws }) cs

-- The ways on there.
abbrev pub new_ways : ChoiceKind → ℕ → List Branch → World → List Way → List Way
new_ways Shield t bs w ws = record { tag = t; others = bs; height = length w.gathered } ∷ ws
new_ways k t bs w ws = ws

-- Where a run stands behind a goal.
abbrev pub After : Game → List Live → List Way → ℕ → Outcome → Run → Type 0
After g cs ws n (Moves m) r = Went g cs ws n m r
After g cs ws n (Chooses k t b bs w) r = Began g (new_choices k t bs w ws cs) (new_ways k t bs w ws) b n w r

-- The run goes on behind the stoppable part s, with the choices that aren't older cut.
pub record WentOn (g : Game) (cs : List Live) (ws : List Way) (s : ℕ) (n : ℕ) (w : World) (r : Run) : Type 0 where
  pub way : Way
  pub outer : List Way
  pub is : way_to s ws ≡ Some (way, outer)
  pub world : World
  pub drops : Drops w world
  pub gatherings : length world.gathered ≡ way.height
  pub stands : (path : Path) (work : ℕ) → way.others ≡ Enter path work ∷ [] → Stands g (cut_to s cs) outer path n (begun path.registers work world) r

-- ## The rules

-- What an engine may do at each step of a path, at a failure and at a stop.
pub record Keeps : Type 0 where
  -- The run of a game stands at the query of its entry point, with no choice.
  pub starts : (g : Game) (typed : List ℕ) (n : ℕ) → Stands g [] [] (start_path g) n (start_world g typed) (run g typed n)
  -- What has happened where a goal has led has happened in the run; so it is where a run stands, has failed, stops or has ended.
  pub has_happened : (g : Game) (cs : List Live) (ws : List Way) (n : ℕ) (m : Outcome) (run : Run) → After g cs ws n m run → Grows (world_of m) run.world
  -- Where a run stands, the bindings of its path are a substitution, and each variable in them and in its steps has been made.
  pub is_bound : (g : Game) (cs : List Live) (ws : List Way) (path : Path) (n : ℕ) (w : World) (run : Run) → Stands g cs ws path n w run → IsBound path
  -- That a rule was answered is noted.
  pub passes_answer : (g : Game) (cs : List Live) (ws : List Way) (q : ℕ) (steps : List Step) (r : Registers) (n : ℕ) (w : World) (run : Run) →
      Stands g cs ws (path_of (Answers q ∷ steps) r) n w run → Stands g cs ws (path_of steps r) n (noted (Answered q) w) run
  -- A mark that cuts to t drops the choices that are not older.
  pub passes_cut : (g : Game) (cs : List Live) (ws : List Way) (t : ℕ) (steps : List Step) (r : Registers) (n : ℕ) (w : World) (run : Run) →
      Stands g cs ws (path_of (Cut t ∷ steps) r) n w run → Stands g (cut_to t cs) ws (path_of steps r) n w run
  -- At the end of a stoppable part the choices inside it are dropped, and the part outside it is the innermost.
  pub passes_leave : (g : Game) (cs : List Live) (ws : List Way) (t : ℕ) (outer : Option ℕ) (steps : List Step) (r : Registers) (n : ℕ) (w : World)
      (run : Run) → Stands g cs ws (path_of (Leave t outer ∷ steps) r) n w run →
      Stands g (cut_to t cs) ws (path_of steps (record r { stoppable = outer })) n w run
  -- At an answer of what is negated the choices inside it and its way on are dropped, and it fails.
  pub passes_refuse : (g : Game) (cs : List Live) (ws : List Way) (t : ℕ) (steps : List Step) (r : Registers) (n : ℕ) (w : World) (run : Run) →
      Stands g cs ws (path_of (Refuse t ∷ steps) r) n w run → Failed g (cut_to t cs) n w run
  -- At an answer of what is gathered the value of its term is kept, and it fails.
  pub passes_keep : (g : Game) (cs : List Live) (ws : List Way) (t : ℕ) (x : Term) (env : List Value) (steps : List Step) (r : Registers) (n : ℕ)
      (w : World) (run : Run) → Stands g cs ws (path_of (Keep t x env ∷ steps) r) n w run →
      Failed g cs n (kept t (resolved r.bound (value_of g.program env x)) (worked (keeping r (value_of g.program env x)) w)) run
  -- It is kept in the newest gathering.
  pub keeps_in_newest : (g : Game) (cs : List Live) (ws : List Way) (t : ℕ) (x : Term) (env : List Value) (steps : List Step) (r : Registers) (n : ℕ)
      (w : World) (run : Run) → Stands g cs ws (path_of (Keep t x env ∷ steps) r) n w run → IsNewest t (tags_of w.gathered)
  -- What is kept behind goals may be told by its value alone, as that of one variable.
  pub keeps_value : (g : Game) (cs : List Live) (ws : List Way) (goals : List Goal) (env : List Value) (t : ℕ) (u : ℕ) (x : Term) (among : List Value)
      (r : Registers) (n : ℕ) (w : World) (run : Run) → Stands g cs ws (path_of (goals_at env t goals ++ Keep u x among ∷ []) r) n w run →
      Stands g cs ws (path_of (goals_at env t goals ++ Keep u (Var-Term 0) (value_of g.program among x ∷ []) ∷ []) r) n w run
  -- At an answer of what is exhausted it fails.
  pub passes_back : (g : Game) (cs : List Live) (ws : List Way) (steps : List Step) (r : Registers) (n : ℕ) (w : World) (run : Run) →
      Stands g cs ws (path_of (Back ∷ steps) r) n w run → Failed g cs n w run
  -- A failure goes back to the newest choice.
  pub fails : (g : Game) (cs : List Live) (n : ℕ) (w : World) (run : Run) → Failed g cs n w run → FailsTo g n w run cs
  -- Its next branch begins, or it has failed.
  pub tries : (g : Game) (c : Live) (cs : List Live) (n : ℕ) (w : World) (run : Run) → Resumed g c cs n w run →
      Tried g c.kind c.tag c.height c.ways_on cs c.others n (tried_in c.kind c.others w) run
  -- What is taken out where it goes back is the newest gathering.
  pub takes_newest : (g : Game) (c : Live) (cs : List Live) (t : ℕ) (whole : Whole) (into : Value) (path : Path) (bs : List Branch) (n : ℕ) (w : World)
      (run : Run) → Resumed g c cs n w run → c.others ≡ TakeOut t whole into path ∷ bs → IsNewest t (tags_of w.gathered)
  -- A goal is taken where the budget has one, and its move says where it goes on.
  pub takes : (g : Game) (cs : List Live) (ws : List Way) (x : Goal) (env : List Value) (t : ℕ) (steps : List Step) (r : Registers) (n : ℕ)
      (w : World) (run : Run) → Stands g cs ws (path_of (Do x env t ∷ steps) r) (suc n) w run →
      After g cs ws n (move g (out-Goal x) env t steps r (worked 1 w)) run
  -- Where the budget has none the run ends at its limit.
  pub limited : (g : Game) (cs : List Live) (ws : List Way) (x : Goal) (env : List Value) (t : ℕ) (steps : List Step) (r : Registers) (w : World)
      (run : Run) → Stands g cs ws (path_of (Do x env t ∷ steps) r) 0 w run → Finished 0 w (End StepLimit) run
  -- Without a step the run is done.
  pub done : (g : Game) (cs : List Live) (ws : List Way) (r : Registers) (n : ℕ) (w : World) (run : Run) → Stands g cs ws (path_of [] r) n w run →
      Finished n w (End Done-Ending) run
  -- A stop goes on behind the stoppable part.
  pub stops_on : (g : Game) (cs : List Live) (ws : List Way) (s : ℕ) (n : ℕ) (w : World) (run : Run) →
      Stopping g cs ws s n w run → WentOn g cs ws s n w run
