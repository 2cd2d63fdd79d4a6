-- What a machine in register code stands for in the search. Hold it against the Dialog manual, chapters "Choice points" and "Control flow".
use Rattle.std.specs.Prelude.{ℕ, suc, ◌+◌, ◌≡◌, ◌<◌, ◌≤◌, ◌++◌, List, [], ◌∷◌, Option, Some, Bool, true, false, length}
use Rattle.dg_base.specs.declared.program.Goal.{Goal}
use Rattle.dg_base.specs.declared.program.Rule.{Rule}
use Rattle.dg_base.specs.declared.program.Term.{Term}
use Rattle.dg_base.specs.declared.run.Ending.{Ending}
use Rattle.dg_base.specs.declared.run.Ending.TheVariants as ending
use Rattle.dg_meaning.specs.Values.{Value, value_of}
use Rattle.dg_meaning.specs.Substitutions.{Substitution}
use Rattle.dg_meaning.specs.inside.Substitutions.{IsSubstitution}
use Rattle.dg_meaning.specs.World.{Game, World, Gathering, Print, prints}
use Rattle.dg_meaning.specs.Path.{Step, Answers, Cut, Refuse, Back, Keep, Leave, Registers, Path, Branch, Enter, Clash, TakeOut, Finds, ChoiceKind, Plain, Rules, Result}
use Rattle.dg_meaning.specs.Moves.{path_of, goals_at, first_alone, inside, object_branches, is_excluded, rule_branch, rule_branches}
use Rattle.dg_meaning.specs.Transcript.{Run, run_of, ending_of}
use Rattle.dg_meaning.specs.Search.{answer}
use Rattle.dg_meaning.specs.inside.Context.{Way as WayOn, Live, IsNewest, tags_of}
use Rattle.dg_meaning.specs.inside.Keeps.{Stands as StandsIn, Failed, Began, Tried, open_at}
use Rattle.dg_meaning.specs.inside.OneRun.{Grows}
use Rattle.dg_unify.specs.Store.{State}
use Rattle.dg_mid.specs.declared.code.Op.{Op}
use Rattle.dg_mid.specs.declared.code.Op.TheVariants as op
use Rattle.dg_mid.specs.declared.code.Gathered.{Gathered}
use Rattle.dg_mid.specs.declared.code.RuleCode.{RuleCode}
use Rattle.dg_mid.specs.declared.code.Code.{Code}
use Rattle.dg_mid.specs.Code.{block_at, selected}
use Rattle.dg_mid.specs.State.{Place, Frame, Call, Find, Way, Goes, Takes, Calls, Tries, Stop, Choice, Lasting, Mid, Status, Runs, Enters, Resumes, Fails, Ended, vars_of, cut_of}
use Rattle.dg_mid.specs.Actions.{whole_of}
use Rattle.dg_mid.specs.Step.{Setting, first_of, step, said, followed, takes_goal}
use Rattle.dg_mid.specs.Units.{earned}
use Rattle.dg_mid.specs.Codes.{End, Returns, Commits, Refuses, Backs, Leaves, Keeps, Finishes, found_goals, found_end, Stands, RulesStand}

-- ## Steps

-- These predicates are answered, and then these steps follow.
abbrev pub silents : List ℕ → List Step → List Step
silents [] steps = steps
silents (q ∷ qs) steps = Answers q ∷ silents qs steps

-- The steps of what comes behind goals, among these values of variables, with the tag that (just) cuts to, in these inner constructs, where the
-- others stand behind the rule's answer.
abbrev pub end_steps : End → List Value → ℕ → List Place → List Step → List Step
end_steps Returns env t inner rest = rest
end_steps (Commits goals end) env t [] rest = Back ∷ []
end_steps (Commits goals end) env t (p ∷ inner) rest = Cut p.tag ∷ (goals_at env t goals ++ end_steps end env t inner rest)
end_steps Refuses env t [] rest = Back ∷ []
end_steps Refuses env t (p ∷ inner) rest = Refuse p.tag ∷ []
end_steps Backs env t inner rest = Back ∷ []
end_steps (Leaves goals end) env t [] rest = Back ∷ []
end_steps (Leaves goals end) env t (p ∷ inner) rest = Leave p.tag p.outer ∷ (goals_at env t goals ++ end_steps end env t inner rest)
end_steps (Keeps term) env t [] rest = Back ∷ []
end_steps (Keeps term) env t (p ∷ inner) rest = Keep p.tag term env ∷ []
end_steps Finishes env t inner rest = []

-- Where a term is gathered behind goals, the place of the gathering has its value.
abbrev pub GathersAt : Game → End → List Value → List Place → Type 0
GathersAt g Returns env inner = Unit {0}
GathersAt g (Commits goals end) env [] = Unit {0}
GathersAt g (Commits goals end) env (p ∷ inner) = GathersAt g end env inner
GathersAt g Refuses env inner = Unit {0}
GathersAt g Backs env inner = Unit {0}
GathersAt g (Leaves goals end) env [] = Unit {0}
GathersAt g (Leaves goals end) env (p ∷ inner) = GathersAt g end env inner
GathersAt g (Keeps term) env [] = Unit {0}
GathersAt g (Keeps term) env (p ∷ inner) = p.gathers ≡ Some (value_of g.program env term)
GathersAt g Finishes env inner = Unit {0}

-- Code that stands for these steps, where what stands behind its rule's answer is known.
pub record Layer (behind : List Step → Type 0) (g : Game) (code : Code) (ops : List Op) (env : List Value) (t : ℕ) (inner : List Place)
    (steps : List Step) : Type 0 where
  pub goals : List Goal
  pub end : End
  pub rest : List Step
  pub stands : Stands code ops goals end
  pub below : behind rest
  pub gathers : GathersAt g end env inner
  pub is : steps ≡ goals_at env t goals ++ end_steps end env t inner rest

-- What stands behind the rule of the newest frame; of the body of a closure no answer is noted.
pub record Link (behind : List Step → Type 0) (g : Game) (code : Code) (f : Frame) (fs : List Frame) (rest : List Step) : Type 0 where
  pub noted : List ℕ
  pub answered : List ℕ
  pub after : List Step
  pub layer : Layer behind g code (block_at code f.next) (vars_of fs) (cut_of fs).tag f.inner after
  pub is : rest ≡ silents noted (first_alone f.many f.cut.tag (silents answered after))

-- What stands behind the rules of some frames; behind the last of them it fails.
abbrev pub Behind : Game → Code → List Frame → List Step → Type 0
Behind g code [] rest = rest ≡ Back ∷ []
Behind g code (f ∷ fs) rest = Link (Behind g code fs) g code f fs rest

-- The code at hand stands for these steps.
abbrev pub Reads : Game → Code → List Op → List Frame → List Place → List Step → Type 0
Reads g code ops frames inner steps = Layer (Behind g code frames) g code ops (vars_of frames) (cut_of frames).tag inner steps

-- ## Choices

-- A store is where a path is; its counts may be less.
pub record Agrees (s : State) (r : Registers) : Type 0 where
  pub bound : r.bound ≡ s.subst
  pub vars : r.next_var ≡ s.vars
  pub heap : s.heap ≤ r.heap
  pub trail : s.trail ≤ r.trail
  pub since : s.since ≤ s.vars

-- A path goes on with the code at hand, inside a choice of these registers that takes so many cells.
pub record WayIs (g : Game) (code : Code) (ops : List Op) (frames : List Frame) (inner : List Place) (r : Registers) (cells : ℕ) (path : Path) : Type 0 where
  pub reads : Reads g code ops frames inner path.steps
  pub registers : path.registers ≡ inside cells r

-- The same at a block that keeps the choice first, with a further way; a list between (or) is work.
pub record RetryIs (further : ℕ → Type 0) (g : Game) (code : Code) (b : ℕ) (frames : List Frame) (inner : List Place) (r : Registers) (path : Path)
    (work : ℕ) : Type 0 where
  pub some : 1 ≤ work
  pub alt : ℕ
  pub ops : List Op
  pub block : block_at code b ≡ op.Retry alt ∷ ops
  pub way : WayIs g code ops frames inner r 10 path
  pub others : further alt

-- Branches that are not begun go on at a block.
abbrev pub GoesAt : Game → Code → ℕ → List Frame → List Place → Registers → List Branch → Type 0
GoesAt g code b frames inner r [] = ⊥
GoesAt g code b frames inner r (Enter path work ∷ []) = WayIs g code (block_at code b) frames inner r 0 path
GoesAt g code b frames inner r (Enter path work ∷ o ∷ os) = RetryIs (λ alt. GoesAt g code alt frames inner r (o ∷ os)) g code b frames inner r path work
GoesAt g code b frames inner r (Clash s work ∷ others) = ⊥
GoesAt g code b frames inner r (TakeOut t whole into path ∷ others) = ⊥
GoesAt g code b frames inner r (Finds place o args path ∷ others) = ⊥

-- Branches that are not begun are rules of a query, of which these are left from the first on that isn't excluded.
pub record CallsAt (g : Game) (code : Code) (call : Call) (rules : List RuleCode) (frames : List Frame) (inner : List Place)
    (S : Substitution) (r : Registers) (kind : ChoiceKind) (others : List Branch) : Type 0 where
  pub pred : ℕ
  pub rule : Rule
  pub left : List Rule
  pub codes : List RuleCode
  pub stand : RulesStand code codes (rule ∷ left)
  pub rules_are : rules ≡ selected (first_of S call) codes
  pub kind_is : kind ≡ Rules pred
  pub answered : List ℕ
  pub after : List Step
  pub reads : Reads g code (block_at code call.next) frames inner after
  pub others_are : others ≡ rule_branches g pred call.args call.many (silents answered after) r (rule ∷ left)
  pub cut : call.cut.tag ≡ r.next_tag
  pub sound : IsSubstitution r.bound

-- The one branch that is not begun takes a gathering out for a value, and goes on at a block.
pub record TakesAt (g : Game) (code : Code) (b : ℕ) (into : Value) (frames : List Frame) (inner : List Place) (r : Registers)
    (others : List Branch) : Type 0 where
  pub path : Path
  pub ops : List Op
  pub whole : Gathered
  pub term : Term
  pub others_are : others ≡ TakeOut r.next_tag (whole_of whole) into path ∷ []
  pub block : block_at code b ≡ op.TakeOut whole term ∷ ops
  pub way : WayIs g code ops frames inner r 0 path

-- Where the next branch takes a gathering out it is the newest.
abbrev pub TakesNewest : List Branch → List Gathering → Type 0
TakesNewest [] gs = Unit {0}
TakesNewest (Enter path work ∷ bs) gs = Unit {0}
TakesNewest (Clash r work ∷ bs) gs = Unit {0}
TakesNewest (TakeOut t whole into path ∷ bs) gs = IsNewest t (tags_of gs)
TakesNewest (Finds place o args path ∷ bs) gs = Unit {0}

-- The branches that are not begun try these objects, and go on at a block.
pub record TriesAt (g : Game) (code : Code) (f : Find) (objects : List ℕ) (frames : List Frame) (inner : List Place) (r : Registers)
    (others : List Branch) : Type 0 where
  pub goals : List Goal
  pub end : End
  pub rest : List Step
  pub stands : Stands code (block_at code f.next) (found_goals f.many goals) (found_end f.many goals end)
  pub below : Behind g code frames rest
  pub gathers : GathersAt g end (vars_of frames) inner
  pub others_are : others ≡ object_branches f.place f.args f.many
      (goals_at (vars_of frames) (cut_of frames).tag goals ++ end_steps end (vars_of frames) (cut_of frames).tag inner rest) r objects

-- What a choice goes on with is the branches that are not begun.
abbrev pub WayOf : Game → Code → Way → List Frame → List Place → Substitution → Registers → ChoiceKind → List Branch → Type 0
WayOf g code (Goes b) frames inner S r kind others = (kind ≡ Plain) × GoesAt g code b frames inner r others
WayOf g code (Takes b into) frames inner S r kind others = (kind ≡ Plain) × TakesAt g code b into frames inner r others
WayOf g code (Calls call rules) frames inner S r kind others = CallsAt g code call rules frames inner S r kind others
WayOf g code (Tries f objects) frames inner S r kind others = (kind ≡ Plain) × TriesAt g code f objects frames inner r others

-- A machine's stoppable part is one around the search.
pub record IsStop (g : Game) (code : Code) (s : Stop) (way : WayOn) : Type 0 where
  pub registers : Registers
  pub path : Path
  pub work : ℕ
  pub agrees : Agrees s.state registers
  pub tag_at : registers.next_tag ≡ s.place.tag
  pub stop_at : registers.stoppable ≡ s.place.outer
  pub tag : way.tag ≡ s.place.tag
  pub others : way.others ≡ Enter path work ∷ []
  pub way_is : WayIs g code (block_at code s.block) s.frames s.inner registers 0 path
  pub height : way.height ≡ s.height

-- A machine's stoppable parts are those around the search.
abbrev pub AreStops : Game → Code → List Stop → List WayOn → Type 0
AreStops g code [] [] = Unit {0}
AreStops g code (s ∷ ss) (w ∷ ws) = IsStop g code s w × AreStops g code ss ws
AreStops g code ss ws = ⊥

-- A machine's choice is one of the search.
pub record IsChoice (g : Game) (code : Code) (m : Choice) (c : Live) : Type 0 where
  pub registers : Registers
  pub agrees : Agrees m.state registers
  pub tag_at : registers.next_tag ≡ m.place.tag
  pub tag : c.tag ≡ m.place.tag
  pub way : WayOf g code m.way m.frames m.inner m.state.subst registers c.kind c.others
  pub stops : AreStops g code m.stops c.ways_on
  pub stop_at : registers.stoppable ≡ m.stop
  pub height : open_at c.others c.height ≡ m.height

-- All of these branches fail where they begin.
abbrev pub AreClashes : List Branch → Type 0
AreClashes [] = Unit {0}
AreClashes (Clash r work ∷ bs) = AreClashes bs
AreClashes (Enter path work ∷ bs) = ⊥
AreClashes (TakeOut t whole into path ∷ bs) = ⊥
AreClashes (Finds place o args path ∷ bs) = ⊥

-- The newest of these choices is older than a tag.
abbrev pub AreBelow : ℕ → List Choice → Type 0
AreBelow t [] = Unit {0}
AreBelow t (m ∷ ms) = m.place.tag < t

-- A machine's choices are those of the search, but for those whose branches all fail where they begin.
pub data AreChoices (g : Game) (code : Code) : List Choice → List Live → Type 0 where
  none : AreChoices g code [] []
  dead : (ms : List Choice) (c : Live) (cs : List Live) → AreClashes c.others → AreBelow c.tag ms → AreChoices g code ms cs →
      AreChoices g code ms (c ∷ cs)
  kept : (m : Choice) (ms : List Choice) (c : Live) (cs : List Live) →
      IsChoice g code m c → AreBelow m.place.tag ms → AreChoices g code ms cs → AreChoices g code (m ∷ ms) (c ∷ cs)

-- ## Where a run is

-- What lasts in a world.
abbrev pub lasting_of : World → Lasting
lasting_of w = record { typed = w.typed; dice = w.dice; facts = w.facts; sites = w.sites }

-- A machine in this state, with so many choices opened, with these choices, stoppable parts and gatherings, in which this lasts, that has printed this,
-- is where the search has these registers, choices and ways on, in this world.
pub record MirrorsWith (g : Game) (code : Code) (state : State) (next_tag : ℕ) (choices : List Choice) (stops : List Stop) (stop : Option ℕ)
    (gathered : List Gathering) (lasting : Lasting) (ps : List Print) (r : Registers) (lives : List Live) (ways : List WayOn) (w : World) : Type 0 where
  pub agrees : Agrees state r
  pub tag : r.next_tag ≡ next_tag
  pub choices_are : AreChoices g code choices lives
  pub below : AreBelow next_tag choices
  pub stops_are : AreStops g code stops ways
  pub stop_is : r.stoppable ≡ stop
  pub gathered_is : w.gathered ≡ gathered
  pub lasting_is : lasting_of w ≡ lasting
  pub printed_is : prints w.events ≡ ps

-- A machine that has printed this is where the search has these registers, choices and ways on, in this world.
abbrev pub Mirrors : Game → Code → Mid → List Print → Registers → List Live → List WayOn → World → Type 0
Mirrors g code m ps r lives ways w = MirrorsWith g code m.state m.next_tag m.choices m.stops m.stop m.gathered m.lasting ps r lives ways w

-- The code at hand stands for the path.
pub record RunsAt (code : Code) (m : Mid) (ps : List Print) (g : Game) (n : ℕ) (w : World) (run : Run) : Type 0 where
  pub lives : List Live
  pub ways : List WayOn
  pub registers : Registers
  pub mirrors : Mirrors g code m ps registers lives ways w
  pub answered : List ℕ
  pub steps : List Step
  pub reads : Reads g code m.ops m.frames m.inner steps
  pub stands : StandsIn g lives ways (path_of (silents answered steps) registers) n w run

-- A rule that isn't excluded begins, whose choice took so many cells.
pub record EntersAt (code : Code) (call : Call) (m : Mid) (ps : List Print) (g : Game) (n : ℕ) (w : World) (run : Run) : Type 0 where
  pub lives : List Live
  pub ways : List WayOn
  pub registers : Registers
  pub cells : ℕ
  pub mirrors : Mirrors g code m ps (inside cells registers) lives ways w
  pub pred : ℕ
  pub rule : Rule
  pub ops : List Op
  pub block : m.ops ≡ op.Enter rule.vars rule.head ∷ ops
  pub body : Stands code ops rule.body Returns
  pub answered : List ℕ
  pub after : List Step
  pub reads : Reads g code (block_at code call.next) m.frames m.inner after
  pub cut : call.cut.tag ≡ registers.next_tag
  pub admitted : is_excluded call.args registers rule ≡ false
  pub began : Began g lives ways (rule_branch g pred call.args call.many (silents answered after) registers cells rule) n w run

-- A choice goes on with the next of its branches.
pub record ResumesAt (code : Code) (way : Way) (m : Mid) (ps : List Print) (g : Game) (n : ℕ) (w : World) (run : Run) : Type 0 where
  pub live : Live
  pub lives : List Live
  pub registers : Registers
  pub mirrors : Mirrors g code m ps registers lives live.ways_on w
  pub way_is : WayOf g code way m.frames m.inner m.state.subst registers live.kind live.others
  pub tag : live.tag ≡ m.next_tag
  pub height : open_at live.others live.height ≡ length m.gathered
  pub newest : TakesNewest live.others m.gathered
  pub tried : Tried g live.kind live.tag live.height live.ways_on lives live.others n w run

-- A failure inside its choices.
pub record FailsAt (code : Code) (m : Mid) (ps : List Print) (g : Game) (n : ℕ) (w : World) (run : Run) : Type 0 where
  pub lives : List Live
  pub choices : AreChoices g code m.choices lives
  pub gathered : w.gathered ≡ m.gathered
  pub lasting : lasting_of w ≡ m.lasting
  pub printed : prints w.events ≡ ps
  pub failed : Failed g lives n w run

-- The search has ended so, and nothing was printed since.
pub record HasEnded (e : Ending) (ps : List Print) (n : ℕ) (w : World) (run : Run) : Type 0 where
  pub result : Result
  pub ending_is : ending_of result ≡ e
  pub printed : prints w.events ≡ ps
  pub is : run ≡ run_of (answer n w result)

-- A limit is met: the run passes it, and has printed all that was printed.
pub record MeetsLimit (limit : ℕ) (peak : ℕ) (ps : List Print) (w : World) (run : Run) : Type 0 where
  pub passes : limit < peak
  pub printed : prints w.events ≡ ps
  pub happened : Grows w run.world

-- The run has ended so.
abbrev pub EndedAt : Setting → Ending → List Print → ℕ → World → Run → Type 0
EndedAt s ending.HeapLimit ps n w run = MeetsLimit s.limits.heap run.world.meters.heap ps w run
EndedAt s ending.TrailLimit ps n w run = MeetsLimit s.limits.trail run.world.meters.trail ps w run
EndedAt s ending.AuxLimit ps n w run = MeetsLimit s.limits.aux run.world.meters.aux ps w run
EndedAt s ending.KeepLimit ps n w run = MeetsLimit s.limits.keep run.world.meters.keep ps w run
EndedAt s e ps n w run = HasEnded e ps n w run

-- The run comes from where a machine is that has printed this, with so many goals left of its budget.
abbrev pub At : Setting → Status → List Print → Game → ℕ → World → Run → Type 0
At s (Runs m) ps g n w run = RunsAt s.code m ps g n w run
At s (Enters call m) ps g n w run = EntersAt s.code call m ps g n w run
At s (Resumes way m) ps g n w run = ResumesAt s.code way m ps g n w run
At s (Fails m) ps g n w run = FailsAt s.code m ps g n w run
At s (Ended e) ps g n w run = EndedAt s e ps n w run

-- The work that is done where a machine is; where it has ended, in the run.
abbrev pub work_at : Status → World → Run → ℕ
work_at (Ended e) w run = run.world.meters.work
work_at now w run = w.meters.work

-- The run comes from there in some world, in which at least so much work is done.
pub record Comes (least : ℕ) (ps : List Print) (s : Setting) (now : Status) (g : Game) (n : ℕ) (run : Run) : Type 0 where
  pub world : World
  pub at : At s now ps g n world run
  pub worked : least ≤ work_at now world run

-- A budget of n goals behind the next step, before it.
abbrev pub before : Bool → ℕ → ℕ
before true n = suc n
before false n = n

-- A step of the machine, which takes a goal of the budget or none, leads to where the same run comes from, with what it prints and what it earns done.
abbrev pub Simulates : Setting → Status → Game → Type 0
Simulates s now g = (least n : ℕ) (ps : List Print) (w : World) (run : Run) →
    At s now ps g (before (takes_goal now) n) w run → least ≤ work_at now w run + earned s ps now →
    Comes least (followed ps (said s now)) s (step s now) g n run
