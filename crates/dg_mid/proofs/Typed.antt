-- What runs of register code leave of the typed bytes.
use Rattle.std.specs.Prelude.{eqb, not, ◌-◌, if◌then◌else◌, slice_get}
use Rattle.std.proofs.Common.{◌≡◌, ℕ, zero, suc, ◌+◌, ◌<◌, ◌≤◌, List, [], ◌∷◌, Bool, true, false, Option, Some, None, refl, sym, ap, ◌∙◌, subst, arith, length, length-append, map}
use Rattle.std.proofs.lemmas.Bool.{cond_both}
use Rattle.dg_base.specs.declared.program.PlaceKind.{PlaceKind}
use Rattle.dg_base.specs.declared.program.Term.{Term}
use Rattle.dg_base.specs.declared.run.Limits.{Limits}
use Rattle.dg_base.specs.declared.run.Ending.{Ending}
use Rattle.dg_base.specs.declared.run.Ending.TheVariants as ending
use Rattle.dg_meaning.specs.Values.{Value, Num, Node, value_of}
use Rattle.dg_meaning.specs.Substitutions.{walk, resolved}
use Rattle.dg_meaning.specs.Cells.{cells}
use Rattle.dg_meaning.specs.Numbers.{of_numbers, calculated, thrown}
use Rattle.dg_meaning.specs.Facts.{Alteration, kinds_of}
use Rattle.dg_meaning.specs.Choosing.{die}
use Rattle.dg_meaning.specs.Words.{behind_line, behind_first, letters_in_word, joined_letters}
use Rattle.dg_meaning.specs.Pieces.{pieces}
use Rattle.dg_meaning.specs.World.{Game, World, Print, Piece, worked}
use Rattle.dg_meaning.specs.Path.{Step, Registers, End as EndsSo, Failing, Result}
use Rattle.dg_meaning.specs.Changes.{change_of}
use Rattle.dg_meaning.specs.Moves.{looked_up, whole_looks, change_looks, printed, all_printed, spaces, changes, change_place, gives_number, throws, splits, joins, takes_line, outcome, move_of, stop}
use Rattle.dg_meaning.specs.Transcript.{Run, run, start_world, start_path}
use Rattle.dg_base.specs.Begins.{EndsWith}
use Rattle.dg_meaning.specs.inside.Context.{Way as WayOn, Live}
use Rattle.dg_meaning.specs.inside.Keeps.{Went, After, Finished, Failed}
use Rattle.dg_meaning.proofs.Keeps.{failed, done, starts, limited}
use Rattle.dg_meaning.proofs.OneRun.{ends_on, line_grows}
use Rattle.dg_mid.specs.declared.code.Op.{Op}
use Rattle.dg_mid.specs.declared.code.Op.TheVariants as op
use Rattle.dg_mid.specs.declared.code.Action.{Action}
use Rattle.dg_mid.specs.declared.code.Action.TheVariants as action
use Rattle.dg_mid.specs.declared.code.Code.{Code}
use Rattle.dg_mid.specs.Actions.{form_of, goal_of, terms_of, registers_of, world_of, act_at}
use Rattle.dg_mid.specs.Codes.{Codes, End, Stands, acts, finishes}
use Rattle.dg_mid.specs.Left.{overfills, reads_in, reads, left_behind}
use Rattle.dg_mid.specs.Reads.{RunsAt, AreChoices, none, dead, kept, before, lasting_of, Comes}
use Rattle.dg_mid.specs.Runs.{Point, after, left_after, IsAt}
use Rattle.dg_mid.specs.State.{Lasting, Mid, Choice, Status, Runs, Enters, Resumes, Fails, Ended, vars_of, cut_of}
use Rattle.dg_mid.specs.Step.{Setting, setting, step, more, takes_goal, at_goal}
use Rattle.dg_mid.specs.Units.{one_if}
use Rattle.dg_mid.proofs.Here.{Here, steps_of, answers, typed_dropped}
use Rattle.dg_mid.proofs.Taking.{behind, taken_in, comes, at_grows}
use Rattle.dg_mid.proofs.Acts.{outs, unified_reaches}
use Rattle.dg_mid.proofs.Backs.{turns_back, clashes_fail}
use Rattle.dg_mid.proofs.Whole.{typed_in, AtLimit, at_limit, is_at}
use Rattle.dg_mid.proofs.Lasting.{Leads, Acting, AtLimits, Running, leads_runs, leads_entered, leads_goes_on, leads_back}

-- ## What actions leave

abbrev Typed : List ℕ → Lasting → Type 0
Typed rest o = o.typed ≡ rest

module _ (E : Ending → Type 0) (rest : List ℕ) where
  pieces_leave : (ps : List (List ℕ)) (w : World) → w.typed ≡ rest → (all_printed ps w).typed ≡ rest
  pieces_leave [] w e = e
  pieces_leave (p ∷ ps) w e = pieces_leave ps (printed (Piece p) w) e

  spaces_leave : (v : Value) (w : World) (m : Mid) → w.typed ≡ rest → Acting (Typed rest) E (spaces v [] w) m
  spaces_leave (Node (Num n) vs) w m e = e
  spaces_leave v w m e = e

  number_leaves : (n : Option ℕ) (into : Value) (r : Registers) (w : World) (m : Mid) → w.typed ≡ rest → Acting (Typed rest) E (gives_number n into r w) m
  number_leaves None into r w m e = e
  number_leaves (Some n) into r w m e = e

  throw_leaves : (n : Option ℕ) (into : Value) (r : Registers) (w : World) (m : Mid) → w.typed ≡ rest → Acting (Typed rest) E (throws n into r w) m
  throw_leaves None into r w m e = e
  throw_leaves (Some n) into r w m e = e

  change_leaves : (g : Game) (k : PlaceKind) (a : Option Alteration) (w : World) (m : Mid) → w.typed ≡ rest → Acting (Typed rest) E (changes g k a [] w) m
  change_leaves g k None w m e = e
  change_leaves g k (Some a) w m e = e

  place_leaves : (g : Game) (place : ℕ) (k : Option PlaceKind) (args : List Value) (sets : Bool) (r : Registers) (w : World) (m : Mid) → w.typed ≡ rest → Acting (Typed rest) E (change_place g place k args sets [] r w) m
  place_leaves g place None args sets r w m e = e
  place_leaves g place (Some k) args sets r w m e = change_leaves g k (change_of (length g.program.objects) k place sets (map (resolved r.bound) args)) (worked (change_looks k r args) w) m e

  split_leaves : (g : Game) (l : Option (List ℕ)) (into : Value) (r : Registers) (w : World) (m : Mid) → w.typed ≡ rest → Acting (Typed rest) E (splits g l into r w) m
  split_leaves g None into r w m e = e
  split_leaves g (Some l) into r w m e = e

  join_leaves : (g : Game) (l : Option (List ℕ)) (into : Value) (r : Registers) (w : World) (m : Mid) → w.typed ≡ rest → Acting (Typed rest) E (joins g l into r w) m
  join_leaves g None into r w m e = e
  join_leaves g (Some l) into r w m e = e

  line_leaves : (g : Game) (typed : List ℕ) (into : Value) (r : Registers) (w : World) (m : Mid) → (typed ≡ [] → E ending.InputEnded) → behind_first typed ≡ rest → Acting (Typed rest) E (takes_line g typed into r w) m
  line_leaves g [] into r w m x e = x refl
  line_leaves g (b ∷ bytes) into r w m x e = e

  -- what an action may end with
  abbrev MayEnd : Action → Mid → Type 0
  MayEnd (action.Input t) m = m.lasting.typed ≡ [] → E ending.InputEnded
  MayEnd action.Stop m = m.stop ≡ None → E ending.Stopped
  MayEnd action.Quit m = E ending.Quit
  MayEnd a m = Unit {0}

  -- what is left behind an action that is done
  abbrev LeftBy : Action → Mid → Type 0
  LeftBy (action.Input t) m = behind_first m.lasting.typed ≡ rest
  LeftBy a m = m.lasting.typed ≡ rest

  pub action_leaves : (g : Game) (a : Action) (m : Mid) → MayEnd a m → LeftBy a m → Acting (Typed rest) E (act_at g [] a m) m
  action_leaves g (action.Text name) m x e = e
  action_leaves g (action.Print t) m x e = let v = value_of g.program (vars_of m.frames) t in pieces_leave (pieces g.program (resolved m.state.subst v)) (worked (whole_looks (registers_of m) v) (world_of [] m)) e
  action_leaves g (action.Gap kind) m x e = e
  action_leaves g (action.GapN t) m x e = let v = value_of g.program (vars_of m.frames) t in spaces_leave (walk m.state.subst v) (worked (looked_up (registers_of m) v) (world_of [] m)) m e
  action_leaves g (action.Equal a b) m x e = e
  action_leaves g (action.Test kind t) m x e = e
  action_leaves g (action.Now place args sets) m x e = place_leaves g place (slice_get (kinds_of g.program) place) (map (value_of g.program (vars_of m.frames)) args) sets (registers_of m) (world_of [] m) m e
  action_leaves g (action.Arith f a b c) m x e =
      let v = value_of g.program (vars_of m.frames) a in
      let u = value_of g.program (vars_of m.frames) b in
      number_leaves (of_numbers (calculated f) (walk m.state.subst v) (walk m.state.subst u)) (value_of g.program (vars_of m.frames) c) (registers_of m) (worked (looked_up (registers_of m) v + looked_up (registers_of m) u) (world_of [] m)) m e
  action_leaves g (action.Compare f a b) m x e = e
  action_leaves g (action.Random a b c) m x e =
      let v = value_of g.program (vars_of m.frames) a in
      let u = value_of g.program (vars_of m.frames) b in
      throw_leaves (of_numbers (thrown (die g.dice m.lasting.dice)) (walk m.state.subst v) (walk m.state.subst u)) (value_of g.program (vars_of m.frames) c) (registers_of m) (worked (looked_up (registers_of m) v + looked_up (registers_of m) u) (world_of [] m)) m e
  action_leaves g (action.Input t) m x e = line_leaves g m.lasting.typed (value_of g.program (vars_of m.frames) t) (registers_of m) (world_of [] m) m x e
  action_leaves g (action.SplitWord a b) m x e =
      let v = value_of g.program (vars_of m.frames) a in
      split_leaves g (letters_in_word g.program.words (walk m.state.subst v)) (value_of g.program (vars_of m.frames) b) (registers_of m) (worked (looked_up (registers_of m) v) (world_of [] m)) m e
  action_leaves g (action.JoinWords a b) m x e =
      let v = value_of g.program (vars_of m.frames) a in
      join_leaves g (joined_letters g.program.words (resolved m.state.subst v)) (value_of g.program (vars_of m.frames) b) (registers_of m) (worked (whole_looks (registers_of m) v) (world_of [] m)) m e
  action_leaves g action.Just m x e = e
  action_leaves g action.Fail m x e = e
  action_leaves g action.Stop m x e = (e, x)
  action_leaves g action.Quit m x e = x

-- ## Where the search is

-- an action is taken, and this comes of it
pub record TakesAct (g : Game) (m : Mid) (a : Action) (n : ℕ) (run : Run) : Type 0 where
  pub lives : List Live
  pub ways : List WayOn
  pub steps : List Step
  pub registers : Registers
  pub world : World
  pub typed : world.typed ≡ m.lasting.typed
  pub stop_is : registers.stoppable ≡ m.stop
  pub comes : After g lives ways n (outcome g (form_of a) (vars_of m.frames) (cut_of m.frames).tag steps registers world) run

-- what the first of some instructions comes to, if it is an action or the end
abbrev OpComes : Game → Mid → World → ℕ → Run → List Op → Type 0
OpComes g m w n run (op.Do a ∷ ops) = TakesAct g m a n run
OpComes g m w n run (op.Done ∷ ops) = Finished n w (EndsSo ending.Done) run
OpComes g m w n run ops = Unit {0}

typed_at : (w : World) (o : Lasting) → lasting_of w ≡ o → w.typed ≡ o.typed
typed_at w o e = ap (λ (x : Lasting). x.typed) e

op_comes : (code : Code) (m : Mid) (ps : List Print) (rest : List Step) (g : Game) (n : ℕ) (w : World) (run : Run) (ops : List Op) (goals : List _) (end : End) → Stands code ops goals end → Here code m ps (steps_of m goals end rest) g (before (at_goal ops) n) w run → OpComes g m w n run ops
op_comes code m ps rest g n w run ops goals end (acts a others goals' end' s) h = record {
  lives = h.lives;
  ways = h.ways;
  steps = steps_of m goals' end' rest;
  registers = behind code m ps (steps_of m goals' end' rest) g n w run (goal_of a) (form_of a) (outs a) h;
  world = taken_in code m ps (steps_of m goals' end' rest) g n w run (goal_of a) (form_of a) (outs a) h;
  typed = typed_at w m.lasting h.mirrors.lasting_is;
  stop_is = h.mirrors.stop_is;
  comes = comes code m ps (steps_of m goals' end' rest) g n w run (goal_of a) (form_of a) (outs a) h;
}
op_comes code m ps rest g n w run ops goals end (finishes others) h = done g h.lives h.ways h.registers n w run h.stands
op_comes code m ps rest g n w run ops goals end s h = tt

-- the same where a machine is
record Arrives (g : Game) (m : Mid) (ops : List Op) (n : ℕ) (run : Run) : Type 0 where
  pub world : World
  pub typed : world.typed ≡ m.lasting.typed
  pub comes : OpComes g m world n run ops

arrives : (code : Code) (m : Mid) (ps : List Print) (g : Game) (n : ℕ) (w : World) (run : Run) → RunsAt code m ps g (before (at_goal m.ops) n) w run → Arrives g m m.ops n run
arrives code m ps g n w run h =
    let k = before (at_goal m.ops) n in
    let a = answers code m ps h.answered h.steps g k w run (record { lives = h.lives; ways = h.ways; registers = h.registers; mirrors = h.mirrors; stands = h.stands }) in
    record {
      world = a.world;
      typed = typed_at a.world m.lasting a.here.mirrors.lasting_is;
      comes = op_comes code m ps h.reads.rest g n a.world run m.ops h.reads.goals h.reads.end h.reads.stands (subst (λ l. Here code m ps l g k a.world run) h.reads.is a.here);
    }

-- what a run has left that ends here
finished_leaves : (n : ℕ) (w : World) (result : Result) (run : Run) (rest : List ℕ) → w.typed ≡ rest → Finished n w result run → run.world.typed ≡ rest
finished_leaves n w result run rest e f = ap (λ (r : Run). r.world.typed) f.is ∙ typed_dropped w f.world f.drops ∙ e

stop_leaves : (g : Game) (lives : List Live) (ways : List WayOn) (n : ℕ) (w : World) (run : Run) (rest : List ℕ) (t : Option ℕ) → t ≡ None → w.typed ≡ rest → Went g lives ways n (stop t w) run → run.world.typed ≡ rest
stop_leaves g lives ways n w run rest None e at f = finished_leaves n w _ run rest at f
stop_leaves g lives ways n w run rest (Some t) e at f = absurd (cc (e))

-- a failure without a choice
fails_leaves : (g : Game) (code : Code) (ms : List Choice) (lives : List Live) (n : ℕ) (w : World) (run : Run) (rest : List ℕ) → ms ≡ [] → w.typed ≡ rest → AreChoices g code ms lives → Failed g lives n w run → run.world.typed ≡ rest
fails_leaves g code ms lives n w run rest e at none f = finished_leaves n w Failing run rest at (failed g [] n w run f)
fails_leaves g code ms lives n w run rest e at (dead ms' c cs clash below others) f =
    let t = turns_back g c cs n w run f in
    let on = clashes_fail g c.kind c.tag c.height c.ways_on cs c.others n t.world run clash t.tried in
    let same : on.world.typed ≡ rest = ap (λ (o : Lasting). o.typed) (on.lasting ∙ t.lasting) ∙ at in
    fails_leaves g code ms' cs n on.world run rest e same others on.failed
fails_leaves g code ms lives n w run rest e at (kept o ms' c cs is below others) f = absurd (cc (e))

-- ## Reading

read_on : (g : Game) (lives : List Live) (ways : List WayOn) (n : ℕ) (steps : List Step) (q : Registers) (v : Value) (w : World) (run : Run) (typed : List ℕ) → Went g lives ways n (move_of steps q (takes_line g typed v q w)) run → w.typed ≡ typed → EndsWith (behind_first typed) run.world.typed
read_on g lives ways n steps q v w run [] f e = record { taken = []; is = sym (finished_leaves n w _ run [] e f) }
read_on g lives ways n steps q v w run (b ∷ bytes) f e = (unified_reaches g _ steps _ lives ways n _ run f).1.typed

read_none : (g : Game) (lives : List Live) (ways : List WayOn) (n : ℕ) (steps : List Step) (q : Registers) (v : Value) (w : World) (run : Run) (typed : List ℕ) → Went g lives ways n (move_of steps q (takes_line g typed v q w)) run → typed ≡ [] → run.ending ≡ ending.InputEnded
read_none g lives ways n steps q v w run [] f e = ap (λ (r : Run). r.ending) f.is
read_none g lives ways n steps q v w run (b ∷ bytes) f e = absurd (cc (e))

-- a line was taken, as the run takes it
pub takes_on : (g : Game) (m : Mid) (t : Term) (n : ℕ) (run : Run) → TakesAct g m (action.Input t) n run → EndsWith (behind_first m.lasting.typed) run.world.typed
takes_on g m t n run h = subst (λ l. EndsWith (behind_first l) run.world.typed) h.typed
    (read_on g h.lives h.ways n h.steps h.registers (value_of g.program (vars_of m.frames) t) h.world run h.world.typed h.comes refl)

pub takes_none : (g : Game) (m : Mid) (t : Term) (n : ℕ) (run : Run) → TakesAct g m (action.Input t) n run → m.lasting.typed ≡ [] → run.ending ≡ ending.InputEnded
takes_none g m t n run h e = read_none g h.lives h.ways n h.steps h.registers (value_of g.program (vars_of m.frames) t) h.world run h.world.typed h.comes (h.typed ∙ e)

-- a step that reads takes a goal
in_goal : (s : Setting) (m : Mid) (ops : List Op) → reads_in s m ops ≡ true → at_goal ops ≡ true
in_goal s m [] e = absurd (cc (e))
in_goal s m (op.Do a ∷ ops) e = refl
in_goal s m (x ∷ ops) e = absurd (cc (e))

pub reads_goal : (s : Setting) (now : Status) → reads s now ≡ true → takes_goal now ≡ true
reads_goal s (Runs m) e = in_goal s m m.ops e
reads_goal s (Enters call m) e = absurd (cc (e))
reads_goal s (Resumes way m) e = absurd (cc (e))
reads_goal s (Fails m) e = absurd (cc (e))
reads_goal s (Ended x) e = absurd (cc (e))

-- a line has a byte at least
behind_within : (n : ℕ) (bytes : List ℕ) → length (behind_line n bytes) ≤ length bytes
behind_within zero bytes = omega arith
behind_within (suc n) [] = omega arith
behind_within (suc n) (b ∷ bytes) = cond_both (eqb b 10) bytes (behind_line n bytes) (λ l. length l ≤ length (b ∷ bytes)) (λ e. omega arith) (λ e. let x = behind_within n bytes in omega (arith, x))

pub line_shorter : (n b : ℕ) (bytes : List ℕ) → length (behind_line (suc n) (b ∷ bytes)) < length (b ∷ bytes)
line_shorter n b bytes = cond_both (eqb b 10) bytes (behind_line n bytes) (λ l. length l < length (b ∷ bytes)) (λ e. omega arith) (λ e. let x = behind_within n bytes in omega (arith, x))

-- ## Steps

ends_same : {A : Type 0} (xs : List A) → EndsWith xs xs
ends_same xs = record { taken = []; is = refl }

ends_nothing : (xs : List ℕ) → EndsWith [] xs → xs ≡ []
ends_nothing [] h = refl
ends_nothing (x ∷ xs) h = absurd (omega (arith, ap length h.is, length-append h.taken (x ∷ xs)))

-- ## Where the code at hand leads

module _ (s : Setting) (E : Ending → Type 0) (m : Mid) (rest : List ℕ) where
  abbrev behind_ops : List Op → List ℕ
  behind_ops ops = if reads_in s m ops then behind_first rest else rest

  -- what the first of some instructions may end with
  abbrev OpEnds : List Op → Type 0
  OpEnds (op.Do a ∷ ops) =
      let k = cells s.game.program (terms_of a) in overfills s m.state.heap k ≡ false → MayEnd E (behind_ops (op.Do a ∷ ops)) a (more k (record m { ops = ops }))
  OpEnds (op.Done ∷ ops) = E ending.Done
  OpEnds ops = Unit {0}

  act_left : (a : Action) (ops : List Op) (k : ℕ) → m.lasting.typed ≡ rest → overfills s m.state.heap (cells s.game.program (terms_of a)) ≡ false → LeftBy E (behind_ops (op.Do a ∷ ops)) a (more k (record m { ops = ops }))
  act_left (action.Input t) ops k is room = ap behind_first is ∙ sym (ap (λ b. if not b then behind_first rest else rest) room)
  act_left a ops k is room = is

  ops_lead : (ops : List Op) → m.lasting.typed ≡ rest → OpEnds ops → Running (Typed (behind_ops ops)) E s ops m
  ops_lead [] is x = is
  ops_lead (op.Do a ∷ ops) is x = λ room.
      let k = cells s.game.program (terms_of a) in
      action_leaves E (behind_ops (op.Do a ∷ ops)) s.game a (more k (record m { ops = ops })) (x room) (act_left a ops k is room)
  ops_lead (op.Done ∷ ops) is x = x
  ops_lead (o ∷ ops) is x = is

-- ## What a machine has left, whatever its code

abbrev Anything : Ending → Type 0
Anything e = Unit {0}

any_ends : (s : Setting) (m : Mid) (rest : List ℕ) (ops : List Op) → OpEnds s Anything m rest ops
any_ends s m rest (op.Do (action.Input t) ∷ ops) = λ room none. tt
any_ends s m rest (op.Do action.Stop ∷ ops) = λ room none. tt
any_ends s m rest (op.Do a ∷ ops) = λ room. tt
any_ends s m rest ops = tt

all_limits : (rest : List ℕ) → AtLimits (Typed rest) Anything
all_limits rest = record { heap = tt; trail = tt; aux = tt; keep = tt }

step_stays : (s : Setting) (now : Status) (rest : List ℕ) → Leads (Typed rest) Anything now → Leads (Typed (left_behind s now rest)) Anything (step s now)
step_stays s (Runs m) rest is = let left = left_behind s (Runs m) rest in leads_runs (Typed left) Anything s (all_limits left) m.ops m (ops_lead s Anything m rest m.ops is (any_ends s m rest m.ops))
step_stays s (Enters call m) rest is = leads_entered (Typed rest) Anything s (all_limits rest) call m.ops m is
step_stays s (Resumes way m) rest is = leads_goes_on (Typed rest) Anything s (all_limits rest) way m is
step_stays s (Fails m) rest is = leads_back (Typed rest) Anything s (all_limits rest) m.choices m is (λ none. tt)
step_stays s (Ended e) rest is = tt

-- after so many steps a machine that goes on has what is left
pub typed_stays : (s : Setting) (typed : List ℕ) (k : ℕ) → Leads (Typed (left_after s typed k)) Anything (after s typed k).now
typed_stays s typed zero = refl
typed_stays s typed (suc k) = step_stays s (after s typed k).now (left_after s typed k) (typed_stays s typed k)

module _ (g : Game) (code : Code) (limits : Limits) (codes : Codes g.program code) (typed : List ℕ) where
  abbrev set : Setting
  set = setting g code limits

  -- what is left where the run has ended behind so many goals: where a limit was met no less than they leave, and else what each such run leaves
  abbrev pub EndLeft : ℕ → List ℕ → Ending → Type 0
  EndLeft goals rest ending.HeapLimit = EndsWith rest (run g typed goals).world.typed
  EndLeft goals rest ending.TrailLimit = EndsWith rest (run g typed goals).world.typed
  EndLeft goals rest ending.AuxLimit = EndsWith rest (run g typed goals).world.typed
  EndLeft goals rest ending.KeepLimit = EndsWith rest (run g typed goals).world.typed
  EndLeft goals rest e = (n : ℕ) → (run g typed (goals + n)).world.typed ≡ rest

  full_at : (goals : ℕ) (rest : List ℕ) → EndsWith rest (run g typed goals).world.typed → AtLimits (Typed rest) (EndLeft goals rest)
  full_at goals rest h = record { heap = h; trail = h; aux = h; keep = h }

  -- a line is taken from the front of what is left
  line_left : (now : Status) (rest : List ℕ) → EndsWith rest (left_behind set now rest)
  line_left now rest = cond_both (reads set now) (behind_first rest) rest (EndsWith rest) (λ e. (line_grows (record (start_world g typed) { typed = rest })).typed) (λ e. ends_same rest)

  -- where the code at hand leads
  module _ (m : Mid) (rest : List ℕ) (goals : ℕ) (is : m.lasting.typed ≡ rest) where
    abbrev left_by : List Op → List ℕ
    left_by ops = if reads_in set m ops then behind_first rest else rest

    -- no less is left than the run leaves
    ops_until : (ops : List Op) (w : World) (r : Run) → OpComes g m w 0 r ops → EndsWith rest r.world.typed → EndsWith (left_by ops) r.world.typed
    ops_until (op.Do (action.Input t) ∷ ops) w r c h =
        cond_both (not (overfills set m.state.heap (cells g.program (t ∷ [])))) (behind_first rest) rest (λ l. EndsWith l r.world.typed)
        (λ e. subst (λ l. EndsWith (behind_first l) r.world.typed) is (takes_on g m t 0 r c)) (λ e. h)
    ops_until ops w r c h = h

    ops_end : (ops : List Op) → ((n : ℕ) → Arrives g m ops n (run g typed (goals + n))) → OpEnds set (EndLeft goals (left_by ops)) m rest ops
    ops_end (op.Do (action.Input t) ∷ ops) c = λ room none n.
        let left : left_by (op.Do (action.Input t) ∷ ops) ≡ behind_first rest = ap (λ b. if not b then behind_first rest else rest) room in
        ends_nothing _ (subst (λ l. EndsWith (behind_first l) (run g typed (goals + n)).world.typed) none (takes_on g m t n (run g typed (goals + n)) (c n).comes)) ∙ sym (left ∙ ap behind_first (sym is ∙ none))
    ops_end (op.Do action.Stop ∷ ops) c = λ room none n.
        let t = (c n).comes in stop_leaves g t.lives t.ways n t.world (run g typed (goals + n)) rest t.registers.stoppable (t.stop_is ∙ none) (t.typed ∙ is) t.comes
    ops_end (op.Do action.Quit ∷ ops) c = λ room n. let t = (c n).comes in finished_leaves n t.world _ (run g typed (goals + n)) rest (t.typed ∙ is) t.comes
    ops_end (op.Do a ∷ ops) c = λ room. tt
    ops_end (op.Done ∷ ops) c = λ n. finished_leaves n (c n).world _ (run g typed (goals + n)) rest ((c n).typed ∙ is) (c n).comes
    ops_end ops c = tt

  -- each run comes from in front of a step
  there : (paid goals : ℕ) (ps : List Print) (now : Status) (b : Bool) → ((n : ℕ) → Comes paid ps set now g n (run g typed (goals + n))) → (n : ℕ) → Comes paid ps set now g (before b n) (run g typed (one_if b + goals + n))
  there paid goals ps now true h n = let same : goals + suc n ≡ 1 + goals + n = omega arith in subst (λ k. Comes paid ps set now g (suc n) (run g typed k)) same (h (suc n))
  there paid goals ps now false h n = let same : goals + n ≡ 0 + goals + n = omega arith in subst (λ k. Comes paid ps set now g n (run g typed k)) same (h n)

  -- what is left in front of a step leads to what is left behind it
  abbrev Left : Status → ℕ → List ℕ → Type 0
  Left now goals rest = Leads (Typed rest) (EndLeft goals rest) now

  end_on : (e : Ending) (goals : ℕ) (rest : List ℕ) → EndLeft goals rest e → EndLeft (0 + goals) rest e
  end_on e goals rest h = let same : goals ≡ 0 + goals = omega arith in subst (λ k. EndLeft k rest e) same h

  no_more : (goals : ℕ) (rest : List ℕ) → EndsWith rest (run g typed (goals + 0)).world.typed → AtLimits (Typed rest) (EndLeft goals rest)
  no_more goals rest h = let same : goals + 0 ≡ goals = omega arith in full_at goals rest (subst (λ k. EndsWith rest (run g typed k).world.typed) same h)

  left_on : (p : Point) (rest : List ℕ) (now : Status) → ((n : ℕ) → Comes p.paid p.prints set now g (before (takes_goal now) n) (run g typed (one_if (takes_goal now) + p.goals + n))) → Left now p.goals rest → Left (step set now) (one_if (takes_goal now) + p.goals) (left_behind set now rest)
  left_on p rest (Runs m) c is =
      let goals = one_if (at_goal m.ops) + p.goals in
      let left = left_behind set (Runs m) rest in
      let come = λ (n : ℕ). arrives code m p.prints g n (c n).world (run g typed (goals + n)) (c n).at in
      let grown : EndsWith rest (run g typed (goals + 0)).world.typed = subst (λ l. EndsWith l (run g typed (goals + 0)).world.typed) (typed_at (c 0).world m.lasting (c 0).at.mirrors.lasting_is ∙ is) (at_grows set (Runs m) p.prints g (before (at_goal m.ops) 0) (c 0).world (run g typed (goals + 0)) (c 0).at).typed in
      leads_runs (Typed left) (EndLeft goals left) set (no_more goals left (ops_until m rest goals is m.ops (come 0).world (run g typed (goals + 0)) (come 0).comes grown)) m.ops m (ops_lead set (EndLeft goals left) m rest m.ops is (ops_end m rest goals is m.ops come))
  left_on p rest (Enters call m) c is =
      let goals = 0 + p.goals in
      let grown : EndsWith rest (run g typed (goals + 0)).world.typed = subst (λ l. EndsWith l (run g typed (goals + 0)).world.typed) (typed_at (c 0).world m.lasting (c 0).at.mirrors.lasting_is ∙ is) (at_grows set (Enters call m) p.prints g 0 (c 0).world (run g typed (goals + 0)) (c 0).at).typed in
      leads_entered (Typed rest) (EndLeft goals rest) set (no_more goals rest grown) call m.ops m is
  left_on p rest (Resumes way m) c is =
      let goals = 0 + p.goals in
      let grown : EndsWith rest (run g typed (goals + 0)).world.typed = subst (λ l. EndsWith l (run g typed (goals + 0)).world.typed) (typed_at (c 0).world m.lasting (c 0).at.mirrors.lasting_is ∙ is) (at_grows set (Resumes way m) p.prints g 0 (c 0).world (run g typed (goals + 0)) (c 0).at).typed in
      leads_goes_on (Typed rest) (EndLeft goals rest) set (no_more goals rest grown) way m is
  left_on p rest (Fails m) c is =
      let goals = 0 + p.goals in
      let here = λ (n : ℕ). typed_at (c n).world m.lasting (c n).at.lasting ∙ is in
      let grown : EndsWith rest (run g typed (goals + 0)).world.typed = subst (λ l. EndsWith l (run g typed (goals + 0)).world.typed) (here 0) (at_grows set (Fails m) p.prints g 0 (c 0).world (run g typed (goals + 0)) (c 0).at).typed in
      leads_back (Typed rest) (EndLeft goals rest) set (no_more goals rest grown) m.choices m is
      (λ none n. fails_leaves g code m.choices (c n).at.lives n (c n).world (run g typed (goals + n)) rest none (here n) (c n).at.choices (c n).at.failed)
  left_on p rest (Ended e) c h = end_on e p.goals rest h

  -- what is left in front of a goal
  typed_left : (now : Status) (goals : ℕ) (rest : List ℕ) → takes_goal now ≡ true → Left now goals rest → typed_in now ≡ rest
  typed_left (Runs m) goals rest e is = is
  typed_left (Enters call m) goals rest e is = absurd (cc (e))
  typed_left (Resumes way m) goals rest e is = absurd (cc (e))
  typed_left (Fails m) goals rest e is = absurd (cc (e))
  typed_left (Ended x) goals rest e is = absurd (cc (e))

  -- the run with no more of its budget has left that
  pub stops_there : (p : Point) (rest : List ℕ) → takes_goal p.now ≡ true → IsAt set g typed p → Left p.now p.goals rest → AtLimit g code limits codes typed p.prints rest (run g typed p.goals)
  stops_there p rest e h is =
      let c = h.comes 0 in
      let same : p.goals + 0 ≡ p.goals = omega arith in
      subst (λ k. AtLimit g code limits codes typed p.prints rest (run g typed k)) same
      (subst (λ l. AtLimit g code limits codes typed p.prints l (run g typed (p.goals + 0))) (typed_left p.now p.goals rest e is)
      (at_limit g code limits codes typed p.now p.prints c.world (run g typed (p.goals + 0)) e c.at))

  since_left : (p : Point) (rest : List ℕ) (b : Bool) → takes_goal p.now ≡ b → IsAt set g typed p → Left p.now p.goals rest → EndsWith (run g typed (p.goals - 1)).world.typed rest → EndsWith (run g typed (one_if b + p.goals - 1)).world.typed (left_behind set p.now rest)
  since_left p rest false e h is since =
      let same : p.goals ≡ 0 + p.goals = omega arith in
      subst (λ k. EndsWith (run g typed (k - 1)).world.typed (left_behind set p.now rest)) same (ends_on _ rest _ since (line_left p.now rest))
  since_left p rest true e h is since =
      let l = stops_there p rest e h is in
      let same : p.goals ≡ 1 + p.goals - 1 = omega arith in
      subst (λ k. EndsWith (run g typed k).world.typed (left_behind set p.now rest)) same
      (subst (λ x. EndsWith x (left_behind set p.now rest)) (sym (ap (λ (x : Run). x.world.typed) l.is ∙ l.typed_is)) (line_left p.now rest))

  -- what is left after so many steps: each run leaves it there, and the run with a budget of one less than the goals taken has left it or more
  pub record LeftAt (k : ℕ) : Type 0 where
    pub left : Leads (Typed (left_after set typed k)) (EndLeft (after set typed k).goals (left_after set typed k)) (after set typed k).now
    pub since : EndsWith (run g typed ((after set typed k).goals - 1)).world.typed (left_after set typed k)

  left_first : (run g typed (0 - 1)).world.typed ≡ typed
  left_first = finished_leaves 0 (start_world g typed) _ (run g typed (0 - 1)) typed refl (limited g [] [] _ _ _ _ (start_path g).registers (start_world g typed) (run g typed 0) (starts g typed 0))

  pub left_at : (k : ℕ) → LeftAt k
  left_at zero = record { left = refl; since = record { taken = []; is = left_first } }
  left_at (suc k) =
      let p = after set typed k in
      let h = is_at g code limits codes typed k in
      let l = left_at k in
      record {
        left = left_on p (left_after set typed k) p.now (there p.paid p.goals p.prints p.now (takes_goal p.now) h.comes) l.left;
        since = since_left p (left_after set typed k) (takes_goal p.now) refl h l.left l.since;
      }

  -- ## Goals that read

  pub left_within : (k : ℕ) → EndsWith typed (left_after set typed k)
  left_within zero = ends_same typed
  left_within (suc k) = ends_on typed (left_after set typed k) _ (left_within k) (line_left (after set typed k).now (left_after set typed k))

  -- the run with a goal that reads takes a line of what is left, or finds no byte
  pub record Reading (goals : ℕ) (rest : List ℕ) : Type 0 where
    pub on : EndsWith (behind_first rest) (run g typed goals).world.typed
    pub none : rest ≡ [] → (run g typed goals).ending ≡ ending.InputEnded

  reading_in : (m : Mid) (ops : List Op) (goals : ℕ) (rest : List ℕ) → m.lasting.typed ≡ rest → reads_in set m ops ≡ true → Arrives g m ops 0 (run g typed goals) → Reading goals rest
  reading_in m [] goals rest is e a = absurd (cc (e))
  reading_in m (op.Do (action.Input t) ∷ ops) goals rest is e a = record {
    on = subst (λ l. EndsWith (behind_first l) (run g typed goals).world.typed) is (takes_on g m t 0 (run g typed goals) a.comes);
    none = λ n. takes_none g m t 0 (run g typed goals) a.comes (is ∙ n);
  }
  reading_in m (x ∷ ops) goals rest is e a = absurd (cc (e))

  pub reading_at : (p : Point) (rest : List ℕ) → reads set p.now ≡ true → IsAt set g typed p → Left p.now p.goals rest → Reading (1 + p.goals) rest
  reading_at p rest e h is = by_now p.now e is (there p.paid p.goals p.prints p.now (takes_goal p.now) h.comes) where
    by_now : (now : Status) → reads set now ≡ true → Left now p.goals rest → ((n : ℕ) → Comes p.paid p.prints set now g (before (takes_goal now) n) (run g typed (one_if (takes_goal now) + p.goals + n))) → Reading (1 + p.goals) rest
    by_now (Runs m) e is c =
        let same : one_if (at_goal m.ops) + p.goals + 0 ≡ 1 + p.goals = ap (λ b. one_if b + p.goals + 0) (reads_goal set (Runs m) e) ∙ omega arith in
        subst (λ k. Reading k rest) same (reading_in m m.ops (one_if (at_goal m.ops) + p.goals + 0) rest is e (arrives code m p.prints g 0 (c 0).world _ (c 0).at))
    by_now (Enters call m) e is c = absurd (cc (e))
    by_now (Resumes way m) e is c = absurd (cc (e))
    by_now (Fails m) e is c = absurd (cc (e))
    by_now (Ended x) e is c = absurd (cc (e))
