-- The rules by which an engine may go on.
use Rattle.std.proofs.Common.{◌≡◌, ℕ, suc, ◌≤◌, inl, inr, List, [], ◌∷◌, ◌++◌, Option, None, Bool, true, false, refl, sym, ap, ◌∙◌, subst, arith, length, Some}
use Rattle.std.specs.Prelude.{eqb, nat_lt, if◌then◌else◌}
use Rattle.std.proofs.lemmas.Bool.{cond_both, cond-true, cond-false, ltb-true}
use Rattle.dg_base.specs.declared.program.Goal.{Goal, Goal-F, out-Goal}
use Rattle.dg_base.specs.declared.run.Ending.TheVariants.{Done as Done-Ending, StepLimit}
use Rattle.dg_base.specs.declared.program.CoreProgram.{CoreProgram}
use Rattle.dg_base.specs.declared.program.Term.{Term}
use Rattle.dg_base.specs.declared.program.Term.TheVariants.{Var as Var-Term}
use Rattle.dg_base.specs.Goals.{terms_held}
use Rattle.dg_meaning.specs.Values.{Value, value_of}
use Rattle.dg_meaning.specs.Substitutions.{resolved}
use Rattle.dg_meaning.specs.World.{Game, World, Answered, noted, worked, kept}
use Rattle.dg_meaning.specs.Path.{Step, Do, Answers, Cut, Refuse, Back, Keep, Leave, Registers, Path, Result, Failing, CutFail, StopTo, End, Whole, Branch, Enter, Clash, TakeOut, Finds, ChoiceKind, Plain, Rules, Shield, Gathers, Move, GoesOn, FailsAt, EndsAt, StopsAt, Outcome, Moves, Chooses, Act, Goes, Tests, Unifies, Ends, Fails, Stops, Effect, Acts, Offers}
use Rattle.dg_meaning.specs.Cells.{writing}
use Rattle.dg_meaning.specs.Moves.{path_of, exhausted, begun, goals_at, path_at, beginning, begins, choice, goes_on_if, move_of, keeping, stop, effect, outcome_of, behind_terms, move}
use Rattle.dg_meaning.specs.Search.{Search, search, answer, later, retried, leave, begin, cut, cut_first, cut_result, after_branch, choose, branches_cut, after_move, after_goal}
use Rattle.dg_meaning.specs.Transcript.{Run, run_of, run, start_world, start_path}
use Rattle.dg_meaning.specs.inside.Context.{Around, InBranch, InCut, unwind, gathers, tags_of, Opens, Way, ways, Live, cut_to, pushed, live, way_to, Older, StepsIn, PathIn, KeepsGathering, KeepGatherings, TakesOut, IsNewest, KeepIn, BranchesKeepIn, Sound, BranchIn, BranchesIn}
use Rattle.dg_meaning.specs.inside.Keeps.{world_at, world_of, unwound, Stands, Failed, Stopping, Resumed, Finished, open_at, FailsTo, Went, Began, Tried, tried_in, open_outside, new_choices, new_ways, After, WentOn, Keeps}
use Rattle.dg_meaning.proofs.Dropping.{drops_nothing, drops_on, drops_grow}
use Rattle.dg_meaning.specs.inside.Bindings.{top_of_steps, IsBound}
use Rattle.dg_meaning.specs.inside.OneRun.{Grows}
use Rattle.dg_meaning.proofs.OneRun.{grows_same, grows_on}
use Rattle.dg_meaning.proofs.Stays.{world_in, EffectStays, effect_stays, world_before, beginning_stays}
use Rattle.dg_meaning.proofs.Search.{IsGood, beginning_grows, after_branch_good, choose_good, search_good, search_steps}
use Rattle.dg_meaning.proofs.Context.{without_head, tags_kept, length_tags, later_twice, others_begin, opens_outside, opens_exhausted, Fails as FailsIn, run_fails, resumes, fails, leaving, resumed_at, Held, Stops as StopsIn, stops}
use Rattle.dg_meaning.proofs.Tags.{stop_mark, steps_mark, others_in, begin_in, MoveIn, OutcomeIn, move_in}
use Rattle.dg_meaning.proofs.Bindings.{term_below, binds_along}
use Rattle.dg_meaning.proofs.Gathered.{cut_keeps, MoveKeeps, OutcomeKeeps, goal_keeps, branch_begins_keeping, told_by_value}

-- ## What has happened

unwind_grows : (s : Search) → IsGood s → (ctx : List Around) (n : ℕ) (w : World) (r : Result) → Grows w (unwind s ctx n w r).world
unwind_grows s h [] n w r = grows_same w
unwind_grows s h (InCut t ∷ ctx) n w r = unwind_grows s h ctx n w (cut_result t r)
unwind_grows s h (InBranch k t bs ∷ ctx) n w r =
    let a = after_branch k t n w r (choose s (later k) t bs) (λ c. choose s (later k) t (branches_cut t c bs)) in
    let good = after_branch_good k t n w r (choose s (later k) t bs) (λ c. choose s (later k) t (branches_cut t c bs)) (λ m v. choose_good s h (later k) t bs m v) (λ c m v. choose_good s h (later k) t (branches_cut t c bs) m v) in
    grows_on w a.world _ good.grows (unwind_grows s h ctx a.left a.world a.result)

pub stands_happened : (g : Game) (cs : List Live) (ws : List Way) (path : Path) (n : ℕ) (w : World) (run : Run) → Stands g cs ws path n w run → Grows w run.world
stands_happened g cs ws path n w run st =
    let a = search g n path w in
    subst (λ (x : Run). Grows w x.world) (sym st.is) (grows_on w a.world _ (search_good g n path w).grows (unwind_grows (search g) (search_good g) st.ctx a.left a.world a.result))

failed_happened : (g : Game) (cs : List Live) (n : ℕ) (w : World) (run : Run) → Failed g cs n w run → Grows w run.world
failed_happened g cs n w run st = subst (λ (x : Run). Grows w x.world) (sym st.is) (unwind_grows (search g) (search_good g) st.ctx n w Failing)

stopping_happened : (g : Game) (cs : List Live) (ws : List Way) (t n : ℕ) (w : World) (run : Run) → Stopping g cs ws t n w run → Grows w run.world
stopping_happened g cs ws t n w run st = subst (λ (x : Run). Grows w x.world) (sym st.is) (unwind_grows (search g) (search_good g) st.ctx n w (StopTo t None))

finished_happened : (n : ℕ) (w : World) (result : Result) (run : Run) → Finished n w result run → Grows w run.world
finished_happened n w result run f = subst (Grows w) (sym (ap (λ (r : Run). r.world) f.is)) (drops_grow w f.world f.drops)

went_happened : (g : Game) (cs : List Live) (ws : List Way) (n : ℕ) (m : Move) (run : Run) → Went g cs ws n m run → Grows (world_at m) run.world
went_happened g cs ws n (GoesOn path w) run h = stands_happened g cs ws path n w run h
went_happened g cs ws n (FailsAt w) run h = failed_happened g cs n w run h
went_happened g cs ws n (EndsAt e w) run h = finished_happened n w (End e) run h
went_happened g cs ws n (StopsAt t w) run h = stopping_happened g cs ws t n w run h

pub has_happened : (g : Game) (cs : List Live) (ws : List Way) (n : ℕ) (m : Outcome) (run : Run) → After g cs ws n m run → Grows (world_of m) run.world
has_happened g cs ws n (Moves m) run h = went_happened g cs ws n m run h
has_happened g cs ws n (Chooses k t b bs w) run h = grows_on w _ run.world (beginning_grows b w) (went_happened g (new_choices k t bs w ws cs) (new_ways k t bs w ws) n (begins b w) run h)

-- ## Marks

pub passes_answer : (g : Game) (cs : List Live) (ws : List Way) (q : ℕ) (steps : List Step) (r : Registers) (n : ℕ) (w : World) (run : Run) → Stands g cs ws (path_of (Answers q ∷ steps) r) n w run → Stands g cs ws (path_of steps r) n (noted (Answered q) w) run
passes_answer g cs ws q steps r n w run st = record {
  ctx = st.ctx;
  is = st.is ∙ ap (unwound (search g) st.ctx) (search_steps g n (path_of (Answers q ∷ steps) r) w ∙ sym (search_steps g n (path_of steps r) (noted (Answered q) w)));
  sound = st.sound;
  opens = st.opens;
  inner = record { steps = st.inner.steps; stop = st.inner.stop; newer = st.inner.newer; bound = binds_along.passes (Answers q) steps r r.stoppable st.inner.bound };
  keeps = st.keeps;
  choices = st.choices;
  ways_are = st.ways_are;
}

pub passes_cut : (g : Game) (cs : List Live) (ws : List Way) (t : ℕ) (steps : List Step) (r : Registers) (n : ℕ) (w : World) (run : Run) → Stands g cs ws (path_of (Cut t ∷ steps) r) n w run → Stands g (cut_to t cs) ws (path_of steps r) n w run
passes_cut g cs ws t steps r n w run st = record {
  ctx = InCut t ∷ st.ctx;
  is = st.is ∙ ap (unwound (search g) st.ctx) (search_steps g n (path_of (Cut t ∷ steps) r) w ∙ ap (cut t) (sym (search_steps g n (path_of steps r) w)));
  sound = (st.inner.steps.0, st.sound);
  opens = st.opens;
  inner = record { steps = steps_mark t st.ctx steps st.inner.steps.1; stop = stop_mark t st.ctx r.stoppable st.inner.stop; newer = st.inner.newer; bound = binds_along.passes (Cut t) steps r r.stoppable st.inner.bound };
  keeps = st.keeps;
  choices = ap (cut_to t) st.choices;
  ways_are = st.ways_are;
}

pub passes_leave : (g : Game) (cs : List Live) (ws : List Way) (t : ℕ) (outer : Option ℕ) (steps : List Step) (r : Registers) (n : ℕ) (w : World) (run : Run) → Stands g cs ws (path_of (Leave t outer ∷ steps) r) n w run → Stands g (cut_to t cs) ws (path_of steps (record r { stoppable = outer })) n w run
passes_leave g cs ws t outer steps r n w run st = record {
  ctx = InCut t ∷ st.ctx;
  is = st.is ∙ ap (unwound (search g) st.ctx) (search_steps g n (path_of (Leave t outer ∷ steps) r) w ∙ ap (cut t) (sym (search_steps g n (path_of steps (record r { stoppable = outer })) w)));
  sound = (st.inner.steps.0, st.sound);
  opens = st.opens;
  inner = record { steps = steps_mark t st.ctx steps st.inner.steps.1.1; stop = stop_mark t st.ctx outer st.inner.steps.1.0; newer = st.inner.newer; bound = binds_along.passes (Leave t outer) steps r outer st.inner.bound };
  keeps = st.keeps;
  choices = ap (cut_to t) st.choices;
  ways_are = st.ways_are;
}

pub passes_refuse : (g : Game) (cs : List Live) (ws : List Way) (t : ℕ) (steps : List Step) (r : Registers) (n : ℕ) (w : World) (run : Run) → Stands g cs ws (path_of (Refuse t ∷ steps) r) n w run → Failed g (cut_to t cs) n w run
passes_refuse g cs ws t steps r n w run st = record {
  ctx = InCut t ∷ st.ctx;
  is = st.is ∙ ap (unwound (search g) st.ctx) (search_steps g n (path_of (Refuse t ∷ steps) r) w);
  sound = (st.inner.steps.0, st.sound);
  opens = st.opens;
  choices = ap (cut_to t) st.choices;
}

pub passes_back : (g : Game) (cs : List Live) (ws : List Way) (steps : List Step) (r : Registers) (n : ℕ) (w : World) (run : Run) → Stands g cs ws (path_of (Back ∷ steps) r) n w run → Failed g cs n w run
passes_back g cs ws steps r n w run st = record {
  ctx = st.ctx;
  is = st.is ∙ ap (unwound (search g) st.ctx) (search_steps g n (path_of (Back ∷ steps) r) w);
  sound = st.sound;
  opens = st.opens;
  choices = st.choices;
}

pub passes_keep : (g : Game) (cs : List Live) (ws : List Way) (t : ℕ) (x : Term) (env : List Value) (steps : List Step) (r : Registers) (n : ℕ) (w : World) (run : Run) → Stands g cs ws (path_of (Keep t x env ∷ steps) r) n w run → Failed g cs n (kept t (resolved r.bound (value_of g.program env x)) (worked (keeping r (value_of g.program env x)) w)) run
passes_keep g cs ws t x env steps r n w run st = record {
  ctx = st.ctx;
  is = st.is ∙ ap (unwound (search g) st.ctx) (search_steps g n (path_of (Keep t x env ∷ steps) r) w);
  sound = st.sound;
  opens = tags_kept t (resolved r.bound (value_of g.program env x)) w.gathered ∙ st.opens;
  choices = st.choices;
}

pub keeps_in_newest : (g : Game) (cs : List Live) (ws : List Way) (t : ℕ) (x : Term) (env : List Value) (steps : List Step) (r : Registers) (n : ℕ) (w : World) (run : Run) → Stands g cs ws (path_of (Keep t x env ∷ steps) r) n w run → IsNewest t (tags_of w.gathered)
keeps_in_newest g cs ws t x env steps r n w run st = subst (IsNewest t) (sym st.opens) st.keeps.0

pub keeps_value : (g : Game) (cs : List Live) (ws : List Way) (goals : List Goal) (env : List Value) (t u : ℕ) (x : Term) (among : List Value) (r : Registers) (n : ℕ) (w : World) (run : Run) → Stands g cs ws (path_of (goals_at env t goals ++ Keep u x among ∷ []) r) n w run → Stands g cs ws (path_of (goals_at env t goals ++ Keep u (Var-Term 0) (value_of g.program among x ∷ []) ∷ []) r) n w run
keeps_value g cs ws goals env t u x among r n w run st =
    let v = value_of g.program among x in
    record {
      ctx = st.ctx;
      is = st.is ∙ ap (unwound (search g) st.ctx) (told_by_value g goals env t u x among n r w);
      sound = st.sound;
      opens = st.opens;
      inner = record {
        steps = steps_renamed st.ctx goals env t u x (Var-Term 0) among (v ∷ []) st.inner.steps;
        stop = st.inner.stop;
        newer = st.inner.newer;
        bound = record {
          sound = st.inner.bound.sound;
          bindings = st.inner.bound.bindings;
          steps = value_below r.next_var goals env t u x (Var-Term 0) among g.program st.inner.bound.steps;
        };
      };
      keeps = keeps_renamed (gathers st.ctx) goals env t u x (Var-Term 0) among (v ∷ []) st.keeps;
      choices = st.choices;
      ways_are = st.ways_are;
    }
  where
    steps_renamed : (ctx : List Around) (goals : List Goal) (env : List Value) (t u : ℕ) (x y : Term) (a b : List Value) → StepsIn ctx (goals_at env t goals ++ Keep u x a ∷ []) → StepsIn ctx (goals_at env t goals ++ Keep u y b ∷ [])
    steps_renamed ctx [] env t u x y a b h = h
    steps_renamed ctx (g ∷ gs) env t u x y a b h = (h.0, steps_renamed ctx gs env t u x y a b h.1)

    keeps_renamed : (tags : List ℕ) (goals : List Goal) (env : List Value) (t u : ℕ) (x y : Term) (a b : List Value) → KeepIn tags (goals_at env t goals ++ Keep u x a ∷ []) → KeepIn tags (goals_at env t goals ++ Keep u y b ∷ [])
    keeps_renamed tags [] env t u x y a b h = h
    keeps_renamed tags (g ∷ gs) env t u x y a b h = keeps_renamed tags gs env t u x y a b h

    value_below : (n : ℕ) (goals : List Goal) (env : List Value) (t u : ℕ) (x y : Term) (a : List Value) (p : CoreProgram) → top_of_steps (goals_at env t goals ++ Keep u x a ∷ []) ≤ n → top_of_steps (goals_at env t goals ++ Keep u y (value_of p a x ∷ []) ∷ []) ≤ n
    value_below n [] env t u x y a p h = let b = term_below n p a x (omega (arith, h)) in omega (arith, b)
    value_below n (g ∷ gs) env t u x y a p h = let b = value_below n gs env t u x y a p (omega (arith, h)) in omega (arith, b, h)

-- ## Failing

-- how many gatherings are open
open_count : (w : World) (ctx : List Around) → Opens w ctx → length w.gathered ≡ length (gathers ctx)
open_count w ctx o = sym (length_tags w.gathered) ∙ ap length o

kept_open : (others : List Branch) (ctx : List Around) (w : World) → Opens w ctx → KeepGatherings others → length w.gathered ≡ open_at others (length (gathers ctx))
kept_open [] ctx w o h = open_count w ctx o
kept_open (Enter path work ∷ bs) ctx w o h = open_count w ctx o
kept_open (Clash r work ∷ bs) ctx w o h = open_count w ctx o
kept_open (Finds place o' args path ∷ bs) ctx w o h = open_count w ctx o
kept_open (TakeOut u whole into path ∷ bs) ctx w o h = absurd h.0

open_is : (k : ChoiceKind) (t : ℕ) (others : List Branch) (ctx : List Around) (w : World) → Opens w (InBranch k t others ∷ ctx) → TakesOut k t others → length w.gathered ≡ open_at others (length (gathers ctx))
open_is Gathers t [] ctx w o h = absurd h
open_is Gathers t (Enter path work ∷ bs) ctx w o h = absurd h
open_is Gathers t (Clash r work ∷ bs) ctx w o h = absurd h
open_is Gathers t (Finds place o' args path ∷ bs) ctx w o h = absurd h
open_is Gathers t (TakeOut u whole into path ∷ []) ctx w o h = let n = sym (length_tags w.gathered) ∙ ap length o in omega (arith, n)
open_is Gathers t (TakeOut u whole into path ∷ b ∷ bs) ctx w o h = absurd h
open_is Plain t others ctx w o h = kept_open others ctx w o h
open_is (Rules q) t others ctx w o h = kept_open others ctx w o h
open_is Shield t others ctx w o h = kept_open others ctx w o h

fails_to : (g : Game) (ctx : List Around) (n : ℕ) (w : World) (run : Run) → run ≡ unwind (search g) ctx n w Failing → (l : List Live) → FailsIn (search g) ctx n w l → FailsTo g n w run l
fails_to g ctx n w run is [] (run_fails v e same) = record { world = v; drops = e; is = is ∙ same }
fails_to g ctx n w run is (c ∷ cs) (resumes k t others at v e same sound o) = record {
  world = v;
  drops = e;
  gatherings = open_is k t others at v o sound.3;
  resumed = record { kind = k; kind_is = refl; ctx = at; is = is ∙ same; sound = sound; opens = o; height = refl; choices = refl; ways_are = refl };
}

pub failed : (g : Game) (cs : List Live) (n : ℕ) (w : World) (run : Run) → Failed g cs n w run → FailsTo g n w run cs
failed g cs n w run f = subst (FailsTo g n w run) f.choices (fails_to g f.ctx n w run f.is (live f.ctx) (fails (search g) f.ctx n w f.sound f.opens))

-- ## A branch begins

-- the run has ended
ends : (s : Search) (ctx : List Around) (n : ℕ) (w : World) (e : _) (run : Run) → Opens w ctx → run ≡ unwind s ctx n w (End e) → Finished n w (End e) run
ends s [] n w e run o is = record { world = w; drops = drops_nothing w; is = is }
ends s (InCut t ∷ ctx) n w e run o is = ends s ctx n w e run o is
ends s (InBranch k t bs ∷ ctx) n w e run o is =
    let left = leaving k t bs w ctx o in
    let rest = ends s ctx n (leave k t w) e run left.opens is in
    record { world = rest.world; drops = drops_on w (leave k t w) rest.world left.drops rest.drops; is = rest.is }

stop_opens : (ctx : List Around) (s : Option ℕ) (w : World) → Opens w ctx → Opens (world_at (stop s w)) ctx
stop_opens ctx None w o = o
stop_opens ctx (Some s) w o = o

goes_on_opens : (ctx : List Around) (b : Bool) (steps : List Step) (r : Registers) (w : World) → Opens w ctx → Opens (world_at (goes_on_if b steps r w)) ctx
goes_on_opens ctx true steps r w o = o
goes_on_opens ctx false steps r w o = o

act_opens : (ctx : List Around) (steps : List Step) (r : Registers) (a : Act) → Opens (world_in a) ctx → Opens (world_at (move_of steps r a)) ctx
act_opens ctx steps r (Goes next w) o = o
act_opens ctx steps r (Tests passed w) o = goes_on_opens ctx passed steps r w o
act_opens ctx steps r (Unifies made es w) o = goes_on_opens ctx _ steps _ _ o
act_opens ctx steps r (Ends e w) o = o
act_opens ctx steps r (Fails w) o = o
act_opens ctx steps r (Stops w) o = stop_opens ctx r.stoppable w o

went : (g : Game) (cs : List Live) (ws : List Way) (n : ℕ) (run : Run) (ctx : List Around) → Sound ctx → live ctx ≡ cs → ways ctx ≡ ws → (m : Move) → MoveIn ctx m → MoveKeeps (gathers ctx) m → run ≡ unwound (search g) ctx (after_move (search g) n m) → Opens (world_at m) ctx → Went g cs ws n m run
went g cs ws n run ctx sound choices ways_are (GoesOn path w) h k is o = record { ctx = ctx; is = is; sound = sound; opens = o; inner = h; keeps = k; choices = choices; ways_are = ways_are }
went g cs ws n run ctx sound choices ways_are (FailsAt w) h k is o = record { ctx = ctx; is = is; sound = sound; opens = o; choices = choices }
went g cs ws n run ctx sound choices ways_are (EndsAt e w) h k is o = ends (search g) ctx n w e run o is
went g cs ws n run ctx sound choices ways_are (StopsAt s w) h k is o = record { ctx = ctx; is = is; sound = sound; opens = o; shielded = h; choices = choices; ways_are = ways_are }

-- the gatherings are those that were open before
begin_opens : (ctx : List Around) (b : Branch) (w : World) → Opens (world_before b w) ctx → Opens (world_at (begins b w)) ctx
begin_opens ctx b w o = act_opens ctx (path_at b).steps (path_at b).registers (beginning b w) (ap tags_of (beginning_stays b w).gathered ∙ o)

begun_in : (g : Game) (cs : List Live) (ws : List Way) (ctx : List Around) (b : Branch) (n : ℕ) (w : World) (run : Run) → Opens (world_before b w) ctx → run ≡ unwound (search g) ctx (begin (search g) b n w) → Sound ctx → BranchIn ctx b → KeepIn (gathers ctx) (path_at b).steps → live ctx ≡ cs → ways ctx ≡ ws → Began g cs ws b n w run
begun_in g cs ws ctx b n w run o is sound h k l e = went g cs ws n run ctx sound l e (begins b w) (begin_in ctx b w h) (branch_begins_keeping (gathers ctx) b w k) is (begin_opens ctx b w o)

-- what takes nothing out drops nothing
keeps_before : (ctx : List Around) (b : Branch) (w : World) → KeepsGathering b → Opens w ctx → Opens (world_before b w) ctx
keeps_before ctx (Enter path work) w k o = o
keeps_before ctx (Clash r work) w k o = o
keeps_before ctx (TakeOut t whole into path) w k o = absurd k
keeps_before ctx (Finds place o' args path) w k o = o

began : (g : Game) (cs : List Live) (ws : List Way) (ctx : List Around) (b : Branch) (n : ℕ) (w : World) (run : Run) → KeepsGathering b → run ≡ unwound (search g) ctx (begin (search g) b n w) → Sound ctx → Opens w ctx → BranchIn ctx b → KeepIn (gathers ctx) (path_at b).steps → live ctx ≡ cs → ways ctx ≡ ws → Began g cs ws b n w run
began g cs ws ctx b n w run k is sound o h i l e = begun_in g cs ws ctx b n w run (keeps_before ctx b w k o) is sound h i l e

-- what is kept of a choice around
kept_as : (ctx : List Around) (t height : ℕ) (ways_on : List Way) (cs : List Live) (k : ChoiceKind) (bs : List Branch) → length (gathers ctx) ≡ height → ways ctx ≡ ways_on → live ctx ≡ cs →
    pushed (record { kind = k; tag = t; others = bs; height = length (gathers ctx); ways_on = ways ctx }) (live ctx) ≡ pushed (record { kind = k; tag = t; others = bs; height = height; ways_on = ways_on }) cs
kept_as ctx t height ways_on cs k bs e f h =
    ap (λ i. pushed (record { kind = k; tag = t; others = bs; height = i; ways_on = ways ctx }) (live ctx)) e
    ∙ ap (λ x. pushed (record { kind = k; tag = t; others = bs; height = height; ways_on = x }) (live ctx)) f
    ∙ ap (pushed (record { kind = k; tag = t; others = bs; height = height; ways_on = ways_on })) h

-- a later branch keeps gatherings, in a choice whose first branch doesn't gather
next_plain : (g : Game) (kind : ChoiceKind) (t height : ℕ) (ways_on : List Way) (ctx : List Around) (cs : List Live) (b : Branch) (bs : List Branch) (n : ℕ) (w : World) (run : Run) →
    run ≡ unwound (search g) ctx (choose (search g) (later kind) t (b ∷ bs) n w) → Older t ctx → Sound ctx → BranchesIn (InBranch Plain t [] ∷ ctx) (b ∷ bs) → KeepsGathering b → TakesOut (later kind) t bs → BranchesKeepIn (gathers ctx) (b ∷ bs) → gathers (InBranch (later kind) t bs ∷ ctx) ≡ gathers ctx → Opens (retried (later kind) w) (InBranch (later kind) t bs ∷ ctx) → ways (InBranch (later kind) t bs ∷ ctx) ≡ ways ctx → length (gathers ctx) ≡ height → live ctx ≡ cs → ways ctx ≡ ways_on →
    Began g (pushed (record { kind = later kind; tag = t; others = bs; height = height; ways_on = ways_on }) cs) ways_on b n (retried (later kind) w) run
next_plain g kind t height ways_on ctx cs b bs n w run is older sound inner keeps out kept same_open o same e choices ways_are =
    began g _ ways_on (InBranch (later kind) t bs ∷ ctx) b n (retried (later kind) w) run keeps
    (is ∙ others_begin (search g) ctx kind t b bs n w)
    (older, sound, inner.1, out, kept.1)
    o
    (others_in (later kind) t [] bs ctx b inner.0)
    (subst (λ tags. KeepIn tags (path_at b).steps) (sym same_open) kept.0)
    (ap (λ k. pushed (record { kind = k; tag = t; others = bs; height = length (gathers ctx); ways_on = ways ctx }) (live ctx)) (later_twice kind) ∙ kept_as ctx t height ways_on cs (later kind) bs e ways_are choices)
    (same ∙ ways_are)

-- the one branch behind a first that gathers takes the gathering out
next_takes_out : (g : Game) (t height : ℕ) (ways_on : List Way) (ctx : List Around) (cs : List Live) (b : Branch) (bs : List Branch) (n : ℕ) (w : World) (run : Run) →
    run ≡ unwound (search g) ctx (choose (search g) Plain t (b ∷ bs) n w) → Older t ctx → Sound ctx → BranchesIn (InBranch Plain t [] ∷ ctx) (b ∷ bs) → TakesOut Gathers t (b ∷ bs) → BranchesKeepIn (gathers ctx) (b ∷ bs) → Opens w (InBranch Gathers t (b ∷ bs) ∷ ctx) → live ctx ≡ cs → ways ctx ≡ ways_on →
    Began g (pushed (record { kind = Plain; tag = t; others = bs; height = height; ways_on = ways_on }) cs) ways_on b n w run
next_takes_out g t height ways_on ctx cs (Enter path work) bs n w run is older sound inner out kept o choices ways_are = absurd out
next_takes_out g t height ways_on ctx cs (Clash r work) bs n w run is older sound inner out kept o choices ways_are = absurd out
next_takes_out g t height ways_on ctx cs (Finds place o' args path) bs n w run is older sound inner out kept o choices ways_are = absurd out
next_takes_out g t height ways_on ctx cs (TakeOut u whole into path) (b ∷ bs) n w run is older sound inner out kept o choices ways_are = absurd out
next_takes_out g t height ways_on ctx cs (TakeOut u whole into path) [] n w run is older sound inner out kept o choices ways_are =
    begun_in g _ ways_on (InBranch Plain t [] ∷ ctx) (TakeOut u whole into path) n w run
    (without_head u w.gathered (gathers ctx) (o ∙ ap (λ x. x ∷ gathers ctx) (sym out))).1
    (is ∙ others_begin (search g) ctx Plain t (TakeOut u whole into path) [] n w)
    (older, sound, tt, tt, tt)
    inner.0
    kept.0
    choices
    ways_are

next : (g : Game) (kind : ChoiceKind) (t height : ℕ) (ways_on : List Way) (ctx : List Around) (cs : List Live) (b : Branch) (bs : List Branch) (n : ℕ) (w : World) (run : Run) →
    run ≡ unwound (search g) ctx (choose (search g) (later kind) t (b ∷ bs) n w) → Sound (InBranch kind t (b ∷ bs) ∷ ctx) → Opens w (InBranch kind t (b ∷ bs) ∷ ctx) → length (gathers ctx) ≡ height → live ctx ≡ cs → ways ctx ≡ ways_on →
    Began g (pushed (record { kind = later kind; tag = t; others = bs; height = height; ways_on = ways_on }) cs) ways_on b n (retried (later kind) w) run
next g Plain t height ways_on ctx cs b bs n w run is sound o e choices ways_are = next_plain g Plain t height ways_on ctx cs b bs n w run is sound.0 sound.1 sound.2 sound.3.0 sound.3.1 sound.4 refl o refl e choices ways_are
next g (Rules q) t height ways_on ctx cs b bs n w run is sound o e choices ways_are = next_plain g (Rules q) t height ways_on ctx cs b bs n w run is sound.0 sound.1 sound.2 sound.3.0 sound.3.1 sound.4 refl o refl e choices ways_are
next g Shield t height ways_on ctx cs b bs n w run is sound o e choices ways_are = next_plain g Shield t height ways_on ctx cs b bs n w run is sound.0 sound.1 sound.2 sound.3.0 sound.3.1 sound.4 refl o refl e choices ways_are
next g Gathers t height ways_on ctx cs b bs n w run is sound o e choices ways_are = next_takes_out g t height ways_on ctx cs b bs n w run is sound.0 sound.1 sound.2 sound.3 sound.4 o choices ways_are

begins_next : (g : Game) (c : Live) (cs : List Live) (b : Branch) (bs : List Branch) (n : ℕ) (w : World) (run : Run) → c.others ≡ b ∷ bs → Resumed g c cs n w run → Began g (pushed (record c { others = bs }) cs) c.ways_on b n (retried c.kind w) run
begins_next g c cs b bs n w run e s =
    subst (λ k. Began g (pushed (record { kind = k; tag = c.tag; others = bs; height = c.height; ways_on = c.ways_on }) cs) c.ways_on b n (retried k w) run) s.kind_is
    (next g s.kind c.tag c.height c.ways_on s.ctx cs b bs n w run
    (subst (λ l. run ≡ unwound (search g) s.ctx (choose (search g) (later s.kind) c.tag l n w)) e (subst (λ k. run ≡ unwound (search g) s.ctx (choose (search g) k c.tag c.others n w)) (sym s.kind_is) s.is))
    (subst (λ l. Sound (InBranch s.kind c.tag l ∷ s.ctx)) e s.sound) (subst (λ l. Opens w (InBranch s.kind c.tag l ∷ s.ctx)) e s.opens) s.height s.choices s.ways_are)

-- no branch is left
spends : (g : Game) (c : Live) (cs : List Live) (n : ℕ) (w : World) (run : Run) → c.others ≡ [] → Resumed g c cs n w run → Failed g cs n (exhausted c.kind w) run
spends g c cs n w run none s = record {
  ctx = s.ctx;
  is = s.is ∙ ap (λ l. unwound (search g) s.ctx (choose (search g) c.kind c.tag l n w)) none;
  sound = s.sound.1;
  opens = opens_exhausted c.kind s.ctx w (opens_outside s.kind c.tag s.ctx w (subst (TakesOut s.kind c.tag) none s.sound.3) (subst (λ l. Opens w (InBranch s.kind c.tag l ∷ s.ctx)) none s.opens));
  choices = s.choices;
}

tries_from : (g : Game) (c : Live) (cs : List Live) (n : ℕ) (w : World) (run : Run) → Resumed g c cs n w run → (bs : List Branch) → c.others ≡ bs → Tried g c.kind c.tag c.height c.ways_on cs bs n (tried_in c.kind bs w) run
tries_from g c cs n w run s [] e = spends g c cs n w run e s
tries_from g c cs n w run s (b ∷ bs) e = begins_next g c cs b bs n w run e s

pub tries : (g : Game) (c : Live) (cs : List Live) (n : ℕ) (w : World) (run : Run) → Resumed g c cs n w run → Tried g c.kind c.tag c.height c.ways_on cs c.others n (tried_in c.kind c.others w) run
tries g c cs n w run s = tries_from g c cs n w run s c.others refl

-- the branch that takes a gathering out is one of the newest
out_newest : (k : ChoiceKind) (t u : ℕ) (whole : Whole) (into : Value) (path : Path) (bs : List Branch) (ctx : List Around) (w : World) → TakesOut k t (TakeOut u whole into path ∷ bs) → Opens w (InBranch k t (TakeOut u whole into path ∷ bs) ∷ ctx) → IsNewest u (tags_of w.gathered)
out_newest Gathers t u whole into path [] ctx w out o = subst (IsNewest u) (sym o) out
out_newest Gathers t u whole into path (b ∷ bs) ctx w out o = absurd out
out_newest Plain t u whole into path bs ctx w out o = absurd out.0
out_newest (Rules q) t u whole into path bs ctx w out o = absurd out.0
out_newest Shield t u whole into path bs ctx w out o = absurd out.0

pub takes_newest : (g : Game) (c : Live) (cs : List Live) (t : ℕ) (whole : Whole) (into : Value) (path : Path) (bs : List Branch) (n : ℕ) (w : World) (run : Run) → Resumed g c cs n w run → c.others ≡ TakeOut t whole into path ∷ bs → IsNewest t (tags_of w.gathered)
takes_newest g c cs t whole into path bs n w run s e =
    out_newest s.kind c.tag t whole into path bs s.ctx w (subst (TakesOut s.kind c.tag) e s.sound.3) (subst (λ l. Opens w (InBranch s.kind c.tag l ∷ s.ctx)) e s.opens)

-- ## A goal

-- the gatherings that are open behind a goal
abbrev OutcomeOpens : List Around → Outcome → Type 0
OutcomeOpens ctx (Moves m) = Opens (world_at m) ctx
OutcomeOpens ctx (Chooses k t b bs w) = Opens w (InBranch k t bs ∷ ctx)

-- a choice that gathers has opened its gathering
abbrev OffersIn : List Around → ChoiceKind → ℕ → World → Type 0
OffersIn ctx Gathers t w = tags_of w.gathered ≡ t ∷ gathers ctx
OffersIn ctx k t w = Opens w ctx

abbrev EffectOpens : List Around → ℕ → Effect → Type 0
EffectOpens ctx t (Acts a) = Opens (world_in a) ctx
EffectOpens ctx t (Offers Gathers [] w) = ⊥
EffectOpens ctx t (Offers k bs w) = OffersIn ctx k t w

choice_opens : (ctx : List Around) (k : ChoiceKind) (t : ℕ) (bs : List Branch) (w : World) → EffectOpens ctx t (Offers k bs w) → OutcomeOpens ctx (choice k t bs w)
choice_opens ctx Plain t [] w o = o
choice_opens ctx (Rules q) t [] w o = o
choice_opens ctx Shield t [] w o = o
choice_opens ctx Gathers t [] w o = absurd o
choice_opens ctx Plain t (b ∷ bs) w o = o
choice_opens ctx (Rules q) t (b ∷ bs) w o = o
choice_opens ctx Shield t (b ∷ bs) w o = o
choice_opens ctx Gathers t (b ∷ bs) w o = o

outcome_opens : (ctx : List Around) (steps : List Step) (r : Registers) (e : Effect) → EffectOpens ctx r.next_tag e → OutcomeOpens ctx (outcome_of steps r e)
outcome_opens ctx steps r (Acts a) o = act_opens ctx steps r a o
outcome_opens ctx steps r (Offers k bs w) o = choice_opens ctx k r.next_tag bs w o

effect_opens : (ctx : List Around) (t : ℕ) (w : World) (e : Effect) → EffectStays t w e → Opens w ctx → EffectOpens ctx t e
effect_opens ctx t w (Acts a) h o = ap tags_of h.gathered ∙ o
effect_opens ctx t w (Offers Gathers [] v) h o = absurd h
effect_opens ctx t w (Offers Gathers (b ∷ bs) v) h o = h.1 ∙ ap (λ l. t ∷ l) o
effect_opens ctx t w (Offers Plain bs v) h o = ap tags_of h.gathered ∙ o
effect_opens ctx t w (Offers (Rules q) bs v) h o = ap tags_of h.gathered ∙ o
effect_opens ctx t w (Offers Shield bs v) h o = ap tags_of h.gathered ∙ o

move_opens : (g : Game) (ctx : List Around) (x : Goal-F Goal) (env : List Value) (t : ℕ) (steps : List Step) (r : Registers) (w : World) → Opens w ctx → OutcomeOpens ctx (move g x env t steps r w)
move_opens g ctx x env t steps r w o =
    let s = behind_terms g x r in
    let v = begun s (writing (terms_held x)) w in
    outcome_opens ctx steps s (effect g x env t steps s v) (effect_opens ctx s.next_tag v (effect g x env t steps s v) (effect_stays g x env t steps s v) o)

-- how many gatherings are open outside a choice
outside_is : (k : ChoiceKind) (t : ℕ) (bs : List Branch) (ctx : List Around) (w : World) → Opens w (InBranch k t bs ∷ ctx) → length (gathers ctx) ≡ open_outside k w
outside_is Plain t bs ctx w o = sym (open_count w ctx o)
outside_is (Rules q) t bs ctx w o = sym (open_count w ctx o)
outside_is Shield t bs ctx w o = sym (open_count w ctx o)
outside_is Gathers t bs ctx w o = let n = sym (length_tags w.gathered) ∙ ap length o in omega (arith, n)

ways_new : (k : ChoiceKind) (t : ℕ) (bs : List Branch) (ctx : List Around) (w : World) (ws : List Way) → Opens w (InBranch k t bs ∷ ctx) → ways ctx ≡ ws → ways (InBranch k t bs ∷ ctx) ≡ new_ways k t bs w ws
ways_new Plain t bs ctx w ws o e = e
ways_new (Rules q) t bs ctx w ws o e = e
ways_new Gathers t bs ctx w ws o e = e
ways_new Shield t bs ctx w ws o e =
    ap (λ n. record { tag = t; others = bs; height = n } ∷ ways ctx) (sym (open_count w ctx o))
    ∙ ap (λ l. record { tag = t; others = bs; height = length w.gathered } ∷ l) e

after : (g : Game) (cs : List Live) (ws : List Way) (n : ℕ) (run : Run) (ctx : List Around) → Sound ctx → live ctx ≡ cs → ways ctx ≡ ws → (m : Outcome) → OutcomeIn ctx m → OutcomeKeeps ctx m → run ≡ unwound (search g) ctx (after_goal (search g) n m) → OutcomeOpens ctx m → After g cs ws n m run
after g cs ws n run ctx sound choices ways_are (Moves m) h i is o = went g cs ws n run ctx sound choices ways_are m h i is o
after g cs ws n run ctx sound choices ways_are (Chooses k t b bs w) h i is o =
    began g _ _ (InBranch k t bs ∷ ctx) b n w run h.3 is (h.0, sound, h.2, h.4, i.1) o h.1 i.0
    (kept_as ctx t (open_outside k w) ws cs (later k) bs (outside_is k t bs ctx w o) ways_are choices) (ways_new k t bs ctx w ws o ways_are)

pub takes : (g : Game) (cs : List Live) (ws : List Way) (x : Goal) (env : List Value) (t : ℕ) (steps : List Step) (r : Registers) (n : ℕ) (w : World) (run : Run) → Stands g cs ws (path_of (Do x env t ∷ steps) r) (suc n) w run → After g cs ws n (move g (out-Goal x) env t steps r (worked 1 w)) run
takes g cs ws x env t steps r n w run st =
    after g cs ws n run st.ctx st.sound st.choices st.ways_are (move g (out-Goal x) env t steps r (worked 1 w))
    (move_in g x st.ctx env t steps r (worked 1 w) st.inner)
    (goal_keeps g st.ctx (out-Goal x) env t steps r (worked 1 w) st.keeps)
    (st.is ∙ ap (unwound (search g) st.ctx) (search_steps g (suc n) (path_of (Do x env t ∷ steps) r) w))
    (move_opens g st.ctx (out-Goal x) env t steps r (worked 1 w) st.opens)

pub limited : (g : Game) (cs : List Live) (ws : List Way) (x : Goal) (env : List Value) (t : ℕ) (steps : List Step) (r : Registers) (w : World) (run : Run) → Stands g cs ws (path_of (Do x env t ∷ steps) r) 0 w run → Finished 0 w (End StepLimit) run
limited g cs ws x env t steps r w run st =
    ends (search g) st.ctx 0 w StepLimit run st.opens (st.is ∙ ap (unwound (search g) st.ctx) (search_steps g 0 (path_of (Do x env t ∷ steps) r) w))

pub done : (g : Game) (cs : List Live) (ws : List Way) (r : Registers) (n : ℕ) (w : World) (run : Run) → Stands g cs ws (path_of [] r) n w run → Finished n w (End Done-Ending) run
done g cs ws r n w run st =
    ends (search g) st.ctx n w Done-Ending run st.opens (st.is ∙ ap (unwound (search g) st.ctx) (search_steps g n (path_of [] r) w))

-- ## A stop

-- a cut in front of steps is done
cut_done : (g : Game) (t : ℕ) (cut : Option ℕ) (cs : List Live) (ws : List Way) (path : Path) (n : ℕ) (w : World) (run : Run) → Stands g cs ws (record path { steps = cut_first t cut path.steps }) n w run → Stands g (resumed_at t cut cs) ws path n w run
cut_done g t None cs ws path n w run st = st
cut_done g t (Some c) cs ws path n w run st =
    cond_both (nat_lt c t) (Cut c ∷ path.steps) path.steps (λ x. Stands g cs ws (record path { steps = x }) n w run → Stands g (if nat_lt c t then cut_to c cs else cs) ws path n w run)
    (λ e h. subst (λ l. Stands g l ws path n w run) (sym (cond-true (nat_lt c t) (cut_to c cs) cs e)) (passes_cut g cs ws c path.steps path.registers n w run h))
    (λ e h. subst (λ l. Stands g l ws path n w run) (sym (cond-false (nat_lt c t) (cut_to c cs) cs e)) h)
    st

-- the tags of the cut are around
pub cut_in : (ctx : List Around) (t : ℕ) (cut : Option ℕ) (steps : List Step) → Held ctx t cut → StepsIn ctx steps → StepsIn ctx (cut_first t cut steps)
cut_in ctx t None steps held h = h
cut_in ctx t (Some c) steps held h =
    cond_both (nat_lt c t) (Cut c ∷ steps) steps (StepsIn ctx)
    (λ e. let lt = ltb-true c t e in (elim held [ inl past ↦ absurd (omega arith) | inr x ↦ x ], h))
    (λ e. h)

pub cut_bound : (t : ℕ) (cut : Option ℕ) (path : Path) → IsBound path → IsBound (record path { steps = cut_first t cut path.steps })
cut_bound t None path h = h
cut_bound t (Some c) path h =
    cond_both (nat_lt c t) (Cut c ∷ path.steps) path.steps (λ (l : List Step). IsBound (record path { steps = l }))
    (λ e. record { sound = h.sound; bindings = h.bindings; steps = omega (arith, h.steps) }) (λ e. h)

module _ (g : Game) (n : ℕ) (w : World) (s : ℕ) (run : Run) (ctx : List Around) (i : StopsIn (search g) ctx n w s None) (is : run ≡ unwind (search g) ctx n w (StopTo s None)) (path : Path) (work : ℕ) (only : i.others ≡ Enter path work ∷ []) where
  abbrev on : Path
  on = record path { steps = cut_first s i.cut path.steps }

  inner : PathIn (InBranch Plain s [] ∷ i.at) path
  inner = (subst (BranchesIn (InBranch Plain s [] ∷ i.at)) only i.sound.2).0

  keeps_on : KeepIn (gathers i.at) path.steps
  keeps_on = (subst (BranchesKeepIn (gathers i.at)) only i.sound.4).0

  way_begins : Stands g (live i.at) (ways i.at) on n (begun path.registers work i.world) run
  way_begins = record {
    ctx = InBranch Plain s [] ∷ i.at;
    is = is ∙ i.same ∙ ap (λ l. unwound (search g) i.at (choose (search g) Plain s (branches_cut s i.cut l) n i.world)) only ∙ others_begin (search g) i.at Plain s (Enter on work) [] n i.world;
    sound = (i.sound.0, i.sound.1, tt, tt, tt);
    opens = i.opens;
    inner = record { steps = cut_in (InBranch Plain s [] ∷ i.at) s i.cut path.steps i.held inner.steps; stop = inner.stop; newer = inner.newer; bound = cut_bound s i.cut path inner.bound };
    keeps = cut_keeps (gathers i.at) s i.cut path.steps keeps_on;
    choices = refl;
    ways_are = refl;
  }

  way_on : Stands g (cut_to s (live ctx)) (ways i.at) path n (begun path.registers work i.world) run
  way_on = subst (λ l. Stands g l (ways i.at) path n (begun path.registers work i.world) run) (sym i.choices) (cut_done g s i.cut (live i.at) (ways i.at) path n (begun path.registers work i.world) run way_begins)

pub stops_on : (g : Game) (cs : List Live) (ws : List Way) (s : ℕ) (n : ℕ) (w : World) (run : Run) → Stopping g cs ws s n w run → WentOn g cs ws s n w run
stops_on g cs ws s n w run st =
    let i = stops (search g) st.ctx n w s None st.sound st.opens st.shielded tt in
    record {
      way = record { tag = s; others = i.others; height = length (gathers i.at) };
      outer = ways i.at;
      is = ap (way_to s) (sym st.ways_are) ∙ i.way;
      world = i.world;
      drops = i.drops;
      gatherings = open_count i.world i.at i.opens;
      stands = λ path work only. subst (λ l. Stands g (cut_to s l) (ways i.at) path n (begun path.registers work i.world) run) st.choices (way_on g n w s run st.ctx i st.is path work only);
    }

-- ## The start

in_first : (s : Search) (n : ℕ) (w : World) (x : Result) → run_of (answer n w x) ≡ unwind s (InBranch Plain 0 [] ∷ []) n w x
in_first s n w Failing = refl
in_first s n w (CutFail u) = cond_both (eqb u 0) Failing (CutFail u) (λ x. run_of (answer n w (CutFail u)) ≡ run_of (answer n w x)) (λ e. refl) (λ e. refl)
in_first s n w (StopTo t c) = refl
in_first s n w (End e) = refl

pub starts : (g : Game) (typed : List ℕ) (n : ℕ) → Stands g [] [] (start_path g) n (start_world g typed) (run g typed n)
unfolding run
starts g typed n = record {
  ctx = InBranch Plain 0 [] ∷ [];
  is = let a = search g n (start_path g) (start_world g typed) in in_first (search g) a.left a.world a.result;
  sound = (tt, tt, tt, tt, tt);
  opens = refl;
  inner = record { steps = (inl refl, tt); stop = tt; newer = (omega arith, tt); bound = binds_along.starts g };
  keeps = tt;
  choices = refl;
  ways_are = refl;
}

pub keeps : Keeps
keeps = record {
  starts = starts;
  has_happened = has_happened;
  is_bound = λ g cs ws path n w run st. st.inner.bound;
  passes_answer = passes_answer;
  passes_cut = passes_cut;
  passes_leave = passes_leave;
  passes_refuse = passes_refuse;
  passes_keep = passes_keep;
  keeps_in_newest = keeps_in_newest;
  keeps_value = keeps_value;
  passes_back = passes_back;
  fails = failed;
  tries = tries;
  takes_newest = takes_newest;
  takes = takes;
  limited = limited;
  done = done;
  stops_on = stops_on;
}
