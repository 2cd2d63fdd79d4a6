-- What comes of the search for how a place of objects starts whose predicate has facts of two objects alone.
use Rattle.std.proofs.Common.{◌≡◌, ◌≤◌, ◌<◌, ◌-◌, ℕ, suc, Bool, true, false, not, List, [], ◌∷◌, Option, Some, None, length, map, eqb, nat_lt, slice_get, if◌then◌else◌, refl, sym, ap, subst, ◌∙◌, arith}
use Rattle.std.proofs.lemmas.Bool.{eq-eqb, lt-ltb}
use Rattle.dg_base.specs.declared.program.CoreProgram.{CoreProgram}
use Rattle.dg_base.specs.declared.program.Goal.{Goal, out-Goal}
use Rattle.dg_base.specs.declared.program.PlaceKind.TheVariants.{ObjectVar}
use Rattle.dg_base.specs.declared.program.Rule.{Rule}
use Rattle.dg_base.specs.declared.program.Term.{out-Term}
use Rattle.dg_base.specs.declared.program.Term.TheVariants as term
use Rattle.dg_base.specs.declared.run.Ending.TheVariants.{Done, Failed}
use Rattle.dg_meaning.specs.Cells.{writing}
use Rattle.dg_meaning.specs.Facts.{kinds_of, value_at}
use Rattle.dg_meaning.specs.Initial.{Question, terms_in, asked, put, asking_game, first_run, value_put}
use Rattle.dg_meaning.specs.Moves.{rule_branch, rule_branches, rules_of, match, matched, entered, entering, enter_if, unless_excluded, call_cells, choice_cells, goals_at, begun, path_of, inside, choice, first_looks}
use Rattle.dg_meaning.specs.Path.{Step, Answers, Cut, Registers, Path, Result, Failing, End, Answer, Branch, Enter, Clash, Rules}
use Rattle.dg_meaning.specs.Search.{Search, answer, after_branch, begin, choose, after_goal, go, search_to, search}
use Rattle.dg_meaning.specs.Selection.{from_candidate}
use Rattle.dg_meaning.specs.Substitutions.{Substitution}
use Rattle.dg_meaning.specs.Transcript.{ending_of, start_world, asking_path}
use Rattle.dg_meaning.specs.Unify.{solve}
use Rattle.dg_meaning.specs.Values.{Object, Value, Var, leaf}
use Rattle.dg_meaning.specs.World.{Game, World, Asked, Retried, Answered, noted, worked}

-- ---- facts

-- A fact of two objects, by their numbers.
abbrev pub fact_rule : ℕ × ℕ → Rule
fact_rule f = record { vars = 0; head = term.Object f.0 ∷ term.Object f.1 ∷ []; body = [] }

-- What the first fact of an object says.
abbrev pub value_for : ℕ → List (ℕ × ℕ) → Option ℕ
value_for o [] = None
value_for o (f ∷ fs) = if eqb o f.0 then Some f.1 else value_for o fs

-- What is asked of an object for its value.
abbrev pub question : ℕ → ℕ → Question
question pred o = record { pred = pred; object = Some o; value = true }

abbrev args : ℕ → List Value
args o = leaf (Object o) ∷ Var 0 ∷ []

-- Where the search begins.
abbrev first : Registers
first = record { next_tag = 1; stoppable = None; bound = []; next_var = 1; heap = 0; trail = 0 }

-- Little was reached.
abbrev IsLow : World → Type 0
IsLow w = w.meters.heap ≤ 18

-- ---- one fact

-- A path on which this was answered, and that goes on with these steps.
record IsPath (pred : ℕ) (steps : List Step) (m : ℕ) (p : Path) : Type 0 where
  ahead : p.steps ≡ Answers pred ∷ Cut 1 ∷ steps
  bound : p.registers.bound ≡ (0, leaf (Object m)) ∷ []
  heap : p.registers.heap ≤ 18

record IsEntered (pred : ℕ) (steps : List Step) (m : ℕ) (b : Branch) : Type 0 where
  path : Path
  work : ℕ
  is : b ≡ Enter path work
  leads : IsPath pred steps m path

record IsClash (b : Branch) : Type 0 where
  registers : Registers
  work : ℕ
  is : b ≡ Clash registers work
  heap : registers.heap ≤ 18

solved : (o : ℕ) (f : ℕ × ℕ) → eqb o f.0 ≡ true
    → ((solve [] ((leaf (Object o), leaf (Object f.0)) ∷ (Var 0, leaf (Object f.1)) ∷ [])).agrees ≡ true)
    × ((solve [] ((leaf (Object o), leaf (Object f.0)) ∷ (Var 0, leaf (Object f.1)) ∷ [])).subst ≡ (0, leaf (Object f.1)) ∷ [])
unfolding solve
solved o f e = rw e (refl, refl)

-- the fact of another object is excluded
other_clashes : (g : Game) (pred o : ℕ) (steps : List Step) (heap : ℕ) (f : ℕ × ℕ) → eqb o f.0 ≡ false → IsClash (rule_branch g pred (args o) false steps first heap (fact_rule f))
unfolding out-Term denote.Hole.Carrier.out
other_clashes g pred o steps heap f e = record {
  registers = inside 0 first;
  work = entering g (args o) (fact_rule f) first;
  is = ap (λ (b : Bool). unless_excluded (not b) first (entering g (args o) (fact_rule f) first)
      (enter_if (match g (args o) (fact_rule f) first).agrees
      (path_of (Answers pred ∷ Cut 1 ∷ steps) (matched (match g (args o) (fact_rule f) first) first (entered g heap (fact_rule f) first)))
      (entering g (args o) (fact_rule f) first))) e;
  heap = omega arith;
}

-- the fact of the object is entered
own_enters : (g : Game) (pred o : ℕ) (steps : List Step) (heap : ℕ) (f : ℕ × ℕ) → heap ≤ 12 → eqb o f.0 ≡ true → IsEntered pred steps f.1 (rule_branch g pred (args o) false steps first heap (fact_rule f))
unfolding out-Term denote.Hole.Carrier.out
own_enters g pred o steps heap f le e =
    let u = match g (args o) (fact_rule f) first in
    let path = path_of (Answers pred ∷ Cut 1 ∷ steps) (matched u first (entered g heap (fact_rule f) first)) in
    let work = entering g (args o) (fact_rule f) first in
    let is = solved o f e in
    record {
      path = path;
      work = work;
      is = ap (λ (b : Bool). unless_excluded (not b) first work (enter_if u.agrees path work)) e ∙ ap (λ (b : Bool). enter_if b path work) is.0;
      leads = record { ahead = refl; bound = is.1; heap = omega (arith, le) };
    }

-- ---- one branch behind the other

few_cells : (rules : List Rule) (o : ℕ) → call_cells (args o) first rules ≤ 12
few_cells rules o = here (from_candidate first.bound (args o) rules)
  where
    here : (left : List Rule) → choice_cells (length (args o)) left ≤ 12
    here [] = omega arith
    here (r ∷ rs) = omega arith

abbrev pub facts : List (ℕ × ℕ) → List Rule
facts fs = map fact_rule fs

abbrev branches : Game → ℕ → ℕ → List Step → List (ℕ × ℕ) → List Branch
branches g pred o steps fs = rule_branches g pred (args o) false steps first (facts fs)

abbrev branch : Game → ℕ → ℕ → List Step → ℕ × ℕ → List (ℕ × ℕ) → Branch
branch g pred o steps f fs = rule_branch g pred (args o) false steps first (call_cells (args o) first (facts fs)) (fact_rule f)

-- Each path behind the fact of the object ends the search.
abbrev Ends : Search → ℕ → ℕ → List Step → ℕ → Type 0
Ends s n pred steps m = (p : Path) (w : World) → IsPath pred steps m p → IsLow w → (s n p w).result ≡ End Done

-- The search went along such a path.
record WentAlong (s : Search) (n pred : ℕ) (steps : List Step) (m : ℕ) (a : Answer) : Type 0 where
  path : Path
  world : World
  leads : IsPath pred steps m path
  low : IsLow world
  is : a ≡ s n path world

-- No fact was one of the object.
record HasNone (a : Answer) : Type 0 where
  result : a.result ≡ Failing
  low : IsLow a.world

low_begun : (r : Registers) (work : ℕ) (w : World) → r.heap ≤ 18 → IsLow w → IsLow (begun r work w)
low_begun r work w h l = omega (arith, h, l)

-- behind a branch that clashes the others are tried
behind_clash : (s : Search) (pred n : ℕ) (w : World) (b : Branch) (next : ℕ → World → Answer) (stopped : Option ℕ → ℕ → World → Answer) → (c : IsClash b)
    → after_branch (Rules pred) 1 (begin s b n w).left (begin s b n w).world (begin s b n w).result next stopped ≡ next n (begun c.registers c.work w)
behind_clash s pred n w b next stopped c =
    ap (λ (d : Branch). after_branch (Rules pred) 1 (begin s d n w).left (begin s d n w).world (begin s d n w).result next stopped) c.is

-- an answer that ends the run passes through
passes : (pred : ℕ) (a : Answer) (next : ℕ → World → Answer) (stopped : Option ℕ → ℕ → World → Answer) → a.result ≡ End Done → after_branch (Rules pred) 1 a.left a.world a.result next stopped ≡ a
passes pred a next stopped e =
    ap (λ (r : Result). after_branch (Rules pred) 1 a.left a.world r next stopped) e ∙ ap (λ (r : Result). answer a.left a.world r) (sym e)

along : (s : Search) (n pred m : ℕ) (steps : List Step) (w : World) (b : Branch) (next : ℕ → World → Answer) (stopped : Option ℕ → ℕ → World → Answer)
    → Ends s n pred steps m → IsEntered pred steps m b → IsLow w
    → WentAlong s n pred steps m (after_branch (Rules pred) 1 (begin s b n w).left (begin s b n w).world (begin s b n w).result next stopped)
along s n pred m steps w b next stopped ends e low =
    let world = begun e.path.registers e.work w in
    let reached = low_begun e.path.registers e.work w e.leads.heap low in
    record {
      path = e.path;
      world = world;
      leads = e.leads;
      low = reached;
      is = ap (λ (d : Branch). after_branch (Rules pred) 1 (begin s d n w).left (begin s d n w).world (begin s d n w).result next stopped) e.is
          ∙ passes pred (s n e.path world) next stopped (ends e.path world e.leads reached);
    }

-- ---- all branches

tried_none : (g : Game) (s : Search) (n pred o : ℕ) (steps : List Step) (fs : List (ℕ × ℕ)) (w : World) → value_for o fs ≡ None → IsLow w
    → HasNone (choose s (Rules pred) 1 (branches g pred o steps fs) n w)
tried_none g s n pred o steps [] w e low = record { result = refl; low = low }
tried_none g s n pred o steps (f ∷ fs) w e low = here (eqb o f.0) refl e (λ v k. tried_none g s n pred o steps fs v k)
  where
    here : (b : Bool) → eqb o f.0 ≡ b → (if b then Some f.1 else value_for o fs) ≡ None
        → ((v : World) → value_for o fs ≡ None → IsLow v → HasNone (choose s (Rules pred) 1 (branches g pred o steps fs) n v))
        → HasNone (choose s (Rules pred) 1 (branches g pred o steps (f ∷ fs)) n w)
    here true q k rest = cc
    here false q k rest =
        let c = other_clashes g pred o steps (call_cells (args o) first (facts fs)) f q in
        subst HasNone (sym (behind_clash s pred n (noted (Retried pred) w) _ _ _ c))
        (rest (begun c.registers c.work (noted (Retried pred) w)) k (low_begun c.registers c.work (noted (Retried pred) w) c.heap low))

tried_some : (g : Game) (s : Search) (n pred o m : ℕ) (steps : List Step) (fs : List (ℕ × ℕ)) (w : World) → Ends s n pred steps m → value_for o fs ≡ Some m → IsLow w
    → WentAlong s n pred steps m (choose s (Rules pred) 1 (branches g pred o steps fs) n w)
tried_some g s n pred o m steps [] w ends e low = cc
tried_some g s n pred o m steps (f ∷ fs) w ends e low = here (eqb o f.0) refl e (λ v k. tried_some g s n pred o m steps fs v ends k)
  where
    here : (b : Bool) → eqb o f.0 ≡ b → (if b then Some f.1 else value_for o fs) ≡ Some m
        → ((v : World) → value_for o fs ≡ Some m → IsLow v → WentAlong s n pred steps m (choose s (Rules pred) 1 (branches g pred o steps fs) n v))
        → WentAlong s n pred steps m (choose s (Rules pred) 1 (branches g pred o steps (f ∷ fs)) n w)
    here true q k rest =
        let same : f.1 ≡ m = cc in
        let enters = own_enters g pred o steps (call_cells (args o) first (facts fs)) f (few_cells (facts fs) o) q in
        along s n pred m steps (noted (Retried pred) w) _ _ _ ends (subst (λ k. IsEntered pred steps k (branch g pred o steps f fs)) same enters) low
    here false q k rest =
        let c = other_clashes g pred o steps (call_cells (args o) first (facts fs)) f q in
        subst (WentAlong s n pred steps m) (sym (behind_clash s pred n (noted (Retried pred) w) _ _ _ c))
        (rest (begun c.registers c.work (noted (Retried pred) w)) k (low_begun c.registers c.work (noted (Retried pred) w) c.heap low))

-- ---- the choice between facts

asked_none : (g : Game) (s : Search) (n pred o : ℕ) (steps : List Step) (fs : List (ℕ × ℕ)) (w : World) → value_for o fs ≡ None → IsLow w
    → HasNone (after_goal s n (choice (Rules pred) 1 (branches g pred o steps fs) w))
asked_none g s n pred o steps [] w e low = record { result = refl; low = low }
asked_none g s n pred o steps (f ∷ fs) w e low = here (eqb o f.0) refl e
  where
    here : (b : Bool) → eqb o f.0 ≡ b → (if b then Some f.1 else value_for o fs) ≡ None → HasNone (after_goal s n (choice (Rules pred) 1 (branches g pred o steps (f ∷ fs)) w))
    here true q k = cc
    here false q k =
        let c = other_clashes g pred o steps (call_cells (args o) first (facts fs)) f q in
        subst HasNone (sym (behind_clash s pred n w _ _ _ c))
        (tried_none g s n pred o steps fs (begun c.registers c.work w) k (low_begun c.registers c.work w c.heap low))

asked_some : (g : Game) (s : Search) (n pred o m : ℕ) (steps : List Step) (fs : List (ℕ × ℕ)) (w : World) → Ends s n pred steps m → value_for o fs ≡ Some m → IsLow w
    → WentAlong s n pred steps m (after_goal s n (choice (Rules pred) 1 (branches g pred o steps fs) w))
asked_some g s n pred o m steps [] w ends e low = cc
asked_some g s n pred o m steps (f ∷ fs) w ends e low = here (eqb o f.0) refl e
  where
    here : (b : Bool) → eqb o f.0 ≡ b → (if b then Some f.1 else value_for o fs) ≡ Some m
        → WentAlong s n pred steps m (after_goal s n (choice (Rules pred) 1 (branches g pred o steps (f ∷ fs)) w))
    here true q k =
        let same : f.1 ≡ m = cc in
        let enters = own_enters g pred o steps (call_cells (args o) first (facts fs)) f (few_cells (facts fs) o) q in
        along s n pred m steps w _ _ _ ends (subst (λ k. IsEntered pred steps k (branch g pred o steps f fs)) same enters) low
    here false q k =
        let c = other_clashes g pred o steps (call_cells (args o) first (facts fs)) f q in
        subst (WentAlong s n pred steps m) (sym (behind_clash s pred n w _ _ _ c))
        (tried_some g s n pred o m steps fs (begun c.registers c.work w) ends k (low_begun c.registers c.work w c.heap low))

-- ---- the run

-- The world in which the question was asked.
abbrev asked_world : Game → ℕ → ℕ → World
asked_world g pred o = noted (Asked pred) (worked (first_looks first (args o)) (begun first (writing (terms_in (question pred o))) (worked 1 (start_world g []))))

low_asked : (g : Game) (pred o : ℕ) → IsLow (asked_world g pred o)
low_asked g pred o = omega arith

asking_is : (g : Game) (pred o n : ℕ) (gs : List Goal)
    → search g (suc n) (asking_path (asked (question pred o) ∷ gs) 1) (start_world g [])
    ≡ after_goal (search_to g n) n (choice (Rules pred) 1
    (rule_branches g pred (args o) false (goals_at (Var 0 ∷ []) 0 gs) first (rules_of (slice_get g.program.preds pred))) (asked_world g pred o))
unfolding search out-Goal out-Term denote.Hole.Carrier.out
asking_is g pred o n gs = refl

-- the same over facts
asking_facts : (g : Game) (pred o n : ℕ) (gs : List Goal) (fs : List (ℕ × ℕ)) → rules_of (slice_get g.program.preds pred) ≡ facts fs
    → search g (suc n) (asking_path (asked (question pred o) ∷ gs) 1) (start_world g [])
    ≡ after_goal (search_to g n) n (choice (Rules pred) 1 (branches g pred o (goals_at (Var 0 ∷ []) 0 gs) fs) (asked_world g pred o))
asking_facts g pred o n gs fs e =
    asking_is g pred o n gs
    ∙ ap (λ (rules : List Rule). after_goal (search_to g n) n (choice (Rules pred) 1
    (rule_branches g pred (args o) false (goals_at (Var 0 ∷ []) 0 gs) first rules) (asked_world g pred o))) e

-- a path behind which nothing is left
nothing_left : (g : Game) (n k pred m : ℕ) (p : Path) (w : World) → IsPath pred [] m p → search_to g (suc n) k p w ≡ answer k (noted (Answered pred) w) (End Done)
nothing_left g n k pred m p w h = ap (λ (steps : List Step). go g (search_to g n) k steps p.registers w) h.ahead

-- What comes of a search that finds no fact, or one: the first run, and what is put behind it.
pub record FindsNone (program : CoreProgram) (pred o : ℕ) : Type 0 where
  pub ending : (first_run program (question pred o)).ending ≡ Failed
  pub heap : (first_run program (question pred o)).world.meters.heap ≤ 18

pub record FindsOne (program : CoreProgram) (pred o m : ℕ) : Type 0 where
  pub ending : (first_run program (question pred o)).ending ≡ Done
  pub heap : (first_run program (question pred o)).world.meters.heap ≤ 18
  pub value : value_put program (question pred o) (Some o) ≡ Some (leaf (Object m))

pub finds_none : (program : CoreProgram) (pred o : ℕ) (fs : List (ℕ × ℕ)) → rules_of (slice_get program.preds pred) ≡ facts fs → value_for o fs ≡ None → FindsNone program pred o
finds_none program pred o fs e v =
    let g = asking_game program in
    let none = subst HasNone (sym (asking_facts g pred o 9999 [] fs e)) (asked_none g (search_to g 9999) 9999 pred o [] fs (asked_world g pred o) v (low_asked g pred o)) in
    record { ending = ap (λ (r : Result). ending_of r) none.result; heap = none.low }

first_some : (program : CoreProgram) (pred o m : ℕ) (fs : List (ℕ × ℕ)) → rules_of (slice_get program.preds pred) ≡ facts fs → value_for o fs ≡ Some m
    → ((first_run program (question pred o)).ending ≡ Done) × ((first_run program (question pred o)).world.meters.heap ≤ 18)
first_some program pred o m fs e v =
    let g = asking_game program in
    let ends : Ends (search_to g 9999) 9999 pred [] m = λ p w h low. ap (λ (a : Answer). a.result) (nothing_left g 9998 9999 pred m p w h) in
    let went = asked_some g (search_to g 9999) 9999 pred o m [] fs (asked_world g pred o) ends v (low_asked g pred o) in
    let is = asking_facts g pred o 9999 [] fs e ∙ went.is ∙ nothing_left g 9998 9999 pred m went.path went.world went.leads in
    (ap (λ (a : Answer). ending_of a.result) is, subst (λ (a : Answer). a.world.meters.heap ≤ 18) (sym is) went.low)

-- ---- what is put

abbrev puts : CoreProgram → ℕ → ℕ → List Goal
puts program pred o = put program (question pred o) ∷ []

-- the answer was put
record HasPut (program : CoreProgram) (o m : ℕ) (a : Answer) : Type 0 where
  result : a.result ≡ End Done
  value : value_at a.world.facts (length program.places - 1) o ≡ Some (leaf (Object m))

put_at : (program : CoreProgram) (pred o m n k : ℕ) (r : Registers) (w : World) → slice_get (kinds_of program) (length program.places - 1) ≡ Some ObjectVar
    → o < length program.objects
    → HasPut program o m (go (asking_game program) (search_to (asking_game program) (suc n)) (suc k)
    (Answers pred ∷ Cut 1 ∷ goals_at (Var 0 ∷ []) 0 (puts program pred o)) (record r { bound = (0, leaf (Object m)) ∷ [] }) w)
unfolding out-Goal out-Term denote.Hole.Carrier.out
put_at program pred o m n k r w kind lt =
    let there : nat_lt o (length program.objects) ≡ true = lt-ltb o (length program.objects) lt in
    record {
      result = rw (kind, there) refl;
      value = rw (kind, there, eq-eqb (length program.places - 1) (length program.places - 1) refl, eq-eqb o o refl) refl;
    }

put_along : (program : CoreProgram) (pred o m n k : ℕ) (p : Path) (w : World) → slice_get (kinds_of program) (length program.places - 1) ≡ Some ObjectVar
    → o < length program.objects → IsPath pred (goals_at (Var 0 ∷ []) 0 (puts program pred o)) m p
    → HasPut program o m (search_to (asking_game program) (suc (suc n)) (suc k) p w)
put_along program pred o m n k p w kind lt h =
    let g = asking_game program in
    let at : p.registers ≡ record p.registers { bound = (0, leaf (Object m)) ∷ [] } = ap (λ (b : Substitution). record p.registers { bound = b }) h.bound in
    let is = ap (λ (steps : List Step). go g (search_to g (suc n)) (suc k) steps p.registers w) h.ahead
    ∙ ap (λ (r : Registers). go g (search_to g (suc n)) (suc k) (Answers pred ∷ Cut 1 ∷ goals_at (Var 0 ∷ []) 0 (puts program pred o)) r w) at in
    subst (HasPut program o m) (sym is) (put_at program pred o m n k p.registers w kind lt)

pub finds_one : (program : CoreProgram) (pred o m : ℕ) (fs : List (ℕ × ℕ)) → slice_get (kinds_of program) (length program.places - 1) ≡ Some ObjectVar
    → o < length program.objects → rules_of (slice_get program.preds pred) ≡ facts fs → value_for o fs ≡ Some m → FindsOne program pred o m
finds_one program pred o m fs kind lt e v =
    let g = asking_game program in
    let steps = goals_at (Var 0 ∷ []) 0 (puts program pred o) in
    let once = first_some program pred o m fs e v in
    let ends : Ends (search_to g 10000) 10000 pred steps m = λ p w h low. (put_along program pred o m 9998 9999 p w kind lt h).result in
    let went = asked_some g (search_to g 10000) 10000 pred o m steps fs (asked_world g pred o) ends v (low_asked g pred o) in
    let is = asking_facts g pred o 10000 (puts program pred o) fs e ∙ went.is in
    let has = put_along program pred o m 9998 9999 went.path went.world kind lt went.leads in
    record { ending = once.0; heap = once.1; value = ap (λ (a : Answer). value_at a.world.facts (length program.places - 1) o) is ∙ has.value }
