-- Where a machine is in front of an instruction.
use Rattle.std.proofs.Common.{◌≡◌, ℕ, suc, List, [], ◌∷◌, ◌++◌, Option, refl, sym, ap, ◌∙◌, subst}
use Rattle.std.proofs.lemmas.List.{append-nil}
use Rattle.dg_base.specs.declared.program.Goal.{Goal, Goal-F, out-Goal}
use Rattle.dg_meaning.specs.World.{Game, World, Gathering, Print, Answered, Event, prints, noted, worked}
use Rattle.dg_meaning.specs.Path.{Step, Do, Registers}
use Rattle.dg_meaning.specs.Moves.{path_of, goals_at, move}
use Rattle.dg_meaning.specs.Transcript.{Run}
use Rattle.dg_meaning.specs.inside.Context.{Way as WayOn, Live, Drops}
use Rattle.dg_meaning.specs.inside.Keeps.{Stands as StandsIn, After}
use Rattle.dg_meaning.proofs.Keeps.{passes_answer, takes}
use Rattle.dg_meaning.proofs.Dropping.{prints_append}
use Rattle.dg_unify.specs.Store.{State}
use Rattle.dg_mid.specs.declared.code.Code.{Code}
use Rattle.dg_mid.specs.State.{Choice, Stop, Lasting, Mid, vars_of, cut_of}
use Rattle.dg_mid.specs.Step.{followed}
use Rattle.dg_mid.specs.Codes.{End}
use Rattle.dg_mid.specs.Reads.{silents, end_steps, lasting_of, MirrorsWith}

-- a machine that mirrors the search stands in front of these steps
pub record HereWith (g : Game) (code : Code) (state : State) (next_tag : ℕ) (choices : List Choice) (stops : List Stop) (stop : Option ℕ) (gathered : List Gathering) (lasting : Lasting) (ps : List Print) (steps : List Step) (n : ℕ) (w : World) (run : Run) : Type 0 where
  pub lives : List Live
  pub ways : List WayOn
  pub registers : Registers
  pub mirrors : MirrorsWith g code state next_tag choices stops stop gathered lasting ps registers lives ways w
  pub stands : StandsIn g lives ways (path_of steps registers) n w run

abbrev pub Here : Code → Mid → List Print → List Step → Game → ℕ → World → Run → Type 0
Here code m ps steps g n w run = HereWith g code m.state m.next_tag m.choices m.stops m.stop m.gathered m.lasting ps steps n w run

-- the steps of some goals and what comes behind them
abbrev pub steps_of : Mid → List Goal → End → List Step → List Step
steps_of m goals end rest = goals_at (vars_of m.frames) (cut_of m.frames).tag goals ++ end_steps end (vars_of m.frames) (cut_of m.frames).tag m.inner rest

-- ## What is printed

-- a call event prints nothing
pub nothing_more : (e : Event) (w : World) (ps : List Print) → prints (e ∷ []) ≡ [] → prints w.events ≡ ps → prints (noted e w).events ≡ ps
nothing_more e w ps silent h = prints_append w.events (e ∷ []) ∙ ap (λ l. prints w.events ++ l) silent ∙ append-nil (prints w.events) ∙ h

pub prints_dropped : (w v : World) → Drops w v → prints v.events ≡ prints w.events
prints_dropped w v d = ap (λ (u : World). prints u.events) d.is

pub work_dropped : (w v : World) → Drops w v → v.meters.work ≡ w.meters.work
work_dropped w v d = ap (λ (u : World). u.meters.work) d.is

pub typed_dropped : (w v : World) → Drops w v → v.typed ≡ w.typed
typed_dropped w v d = ap (λ (u : World). u.typed) d.is

-- what follows is behind
pub followed_is : (ps qs : List Print) → followed ps qs ≡ ps ++ qs
followed_is ps [] = sym (append-nil ps)
followed_is ps (q ∷ qs) = refl

-- ## Answers

-- the same in a world in which nothing else has changed
pub mirrors_on : (g : Game) (code : Code) (state : State) (next_tag : ℕ) (choices : List Choice) (stops : List Stop) (stop : Option ℕ) (gathered : List Gathering) (lasting : Lasting) (ps qs : List Print) (r : Registers) (lives : List Live) (ways : List WayOn) (w v : World) → v.gathered ≡ w.gathered → lasting_of v ≡ lasting_of w → prints v.events ≡ qs →
    MirrorsWith g code state next_tag choices stops stop gathered lasting ps r lives ways w → MirrorsWith g code state next_tag choices stops stop gathered lasting qs r lives ways v
mirrors_on g code state next_tag choices stops stop gathered lasting ps qs r lives ways w v same out printed m =
    record { agrees = m.agrees; tag = m.tag; choices_are = m.choices_are; below = m.below; stops_are = m.stops_are; stop_is = m.stop_is; gathered_is = same ∙ m.gathered_is; lasting_is = out ∙ m.lasting_is; printed_is = printed }

-- answers that were noted are passed
pub record Passed (code : Code) (m : Mid) (ps : List Print) (steps : List Step) (g : Game) (n : ℕ) (w : World) (run : Run) : Type 0 where
  pub world : World
  pub here : Here code m ps steps g n world run
  pub work : world.meters.work ≡ w.meters.work

pub answers : (code : Code) (m : Mid) (ps : List Print) (qs : List ℕ) (steps : List Step) (g : Game) (n : ℕ) (w : World) (run : Run) → Here code m ps (silents qs steps) g n w run → Passed code m ps steps g n w run
answers code m ps [] steps g n w run h = record { world = w; here = h; work = refl }
answers code m ps (q ∷ qs) steps g n w run h =
    let v = noted (Answered q) w in
    let rest = answers code m ps qs steps g n v run (record {
      lives = h.lives;
      ways = h.ways;
      registers = h.registers;
      mirrors = mirrors_on g code m.state m.next_tag m.choices m.stops m.stop m.gathered m.lasting ps ps h.registers h.lives h.ways w v refl refl (nothing_more (Answered q) w ps refl h.mirrors.printed_is) h.mirrors;
      stands = passes_answer g h.lives h.ways q (silents qs steps) h.registers n w run h.stands;
    }) in
    record { world = rest.world; here = rest.here; work = rest.work }

-- ## Goals

module _ (code : Code) (m : Mid) (ps : List Print) (steps : List Step) (g : Game) (n : ℕ) (w : World) (run : Run) (x : Goal) (f : Goal-F Goal) (is : out-Goal x ≡ f) (h : Here code m ps (Do x (vars_of m.frames) (cut_of m.frames).tag ∷ steps) g (suc n) w run) where
  -- what comes of a goal that is taken
  pub after : After g h.lives h.ways n (move g f (vars_of m.frames) (cut_of m.frames).tag steps h.registers (worked 1 w)) run
  after = subst (λ y. After g h.lives h.ways n (move g y (vars_of m.frames) (cut_of m.frames).tag steps h.registers (worked 1 w)) run) is
      (takes g h.lives h.ways x (vars_of m.frames) (cut_of m.frames).tag steps h.registers n w run h.stands)
