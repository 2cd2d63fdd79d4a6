-- A goal is taken, and an engine starts.
use Rattle.std.proofs.Common.{◌≡◌, map, ℕ, zero, suc, ◌+◌, ◌^◌, ◌<◌, ◌≤◌, List, [], ◌∷◌, ◌++◌, Some, None, true, false, refl, sym, ap, ◌∙◌, subst, arith, length, take, drop, get_or, Bor}
use Rattle.std.specs.Prelude.{reverse, slice_get}
use Rattle.std.specs.List.{All}
use Rattle.std.proofs.lemmas.List.{reverse-append, append-nil}
use Rattle.std.specs.declared.vec.Vec.{Vec}
use Rattle.std.specs.declared.alloc.Global.{Global}
use Rattle.dg_base.specs.declared.program.Goal.{Goal}
use Rattle.dg_base.specs.declared.program.Goal.TheVariants.{Ask, outs-Ask}
use Rattle.dg_base.specs.declared.program.Goal.TheOpen.{Ask as AskForm}
use Rattle.dg_base.specs.declared.program.CoreProgram.{CoreProgram}
use Rattle.dg_base.specs.declared.run.Limits.{Limits}
use Rattle.dg_meaning.specs.Peaks.{Area, Heap, Trail, Aux, Keep, limit_of}
use Rattle.dg_meaning.specs.Values.{Value}
use Rattle.dg_meaning.specs.World.{Game}
use Rattle.dg_meaning.specs.Path.{Registers}
use Rattle.dg_meaning.specs.Moves.{path_of, goals_at, new_vars}
use Rattle.dg_meaning.specs.Search.{search}
use Rattle.dg_meaning.specs.Transcript.{run_of, run, start_world, asking_path}
use Rattle.dg_meaning.specs.inside.Keeps.{Stands}
use Rattle.dg_base.specs.Sound.{IsSound as IsSoundProgram}
use Rattle.dg_interp.specs.Runnable.{IsRunnable, IsRunnableGoal, AreRunnable}
use Rattle.dg_interp.proofs.RunnableLemmas.{all_none, runnable_goal, runnable_alone, runnable_rest, runnable_from}
use Rattle.dg_interp.proofs.Starting.{goals_start}
use Rattle.dg_unify.specs.Slots.{store_of}
use Rattle.dg_unify.specs.Store.{Store, State, Holds, told}
use Rattle.dg_unify.specs.declared.bindings.Ref.{Ref}
use Rattle.dg_unify.specs.declared.list.ListBindings.{ListBindings}
use Rattle.dg_choices.specs.declared.frames.Env.{Env}
use Rattle.dg_choices.specs.declared.frames.Mark.TheVariants.{Nothing}
use Rattle.dg_choices.specs.declared.frames.Frame.{Frame}
use Rattle.dg_choices.specs.declared.frames.Choice.{Choice}
use Rattle.dg_interp.specs.declared.engine.Engine.{Engine}
use Rattle.dg_watch.specs.declared.watch.CallEvent.{CallEvent}
use Rattle.dg_interp.specs.inside.Frames.{values_in, frame_steps, steps_behind, steps_at, AreChoices, lives_of, ways_of, StandOn, GoBackTo}
use Rattle.dg_unify.specs.inside.Engines.{Agrees}
use Rattle.dg_lasting.specs.declared.lasting.Lasting.{Lasting}
use Rattle.dg_lasting.specs.Lasting.{picks_in, StartsLasting}
use Rattle.dg_lasting.proofs.Picks.{may_fewer}
use Rattle.dg_interp.specs.inside.Engine.{store_in, limit_in, IsReady, StandsAt, HasNew, StartsOn, Starts, Taken}
use Rattle.dg_interp.proofs.Links.{behind_end}

-- ## Lists

pub all_first : {A : Type 0} (P : A → Type 0) (x : A) (xs : List A) → All P (x ∷ xs) → P x
all_first P x xs h = h 0 x (omega arith)

pub all_rest : {A : Type 0} (P : A → Type 0) (x : A) (xs : List A) → All P (x ∷ xs) → All P xs
all_rest P x xs h k d lt = h (suc k) d (omega arith)

all_taken : {A : Type 0} (xs : List A) (n : ℕ) → length xs ≤ n → take n xs ≡ xs
all_taken [] zero h = refl
all_taken [] (suc n) h = refl
all_taken (x ∷ xs) zero h = absurd (omega arith)
all_taken (x ∷ xs) (suc n) h = ap (λ l. x ∷ l) (all_taken xs n (omega arith))

-- a list as its first element and the range behind it
pub first_and_rest : {A : Type 0} (xs : List A) (x : A) (n : ℕ) → 0 < length xs → x ≡ get_or xs 0 x → length xs ≤ n + 1 → xs ≡ x ∷ take n (drop 1 xs)
first_and_rest [] x n h e le = absurd (omega arith)
first_and_rest (y ∷ ys) x n h e le = ap (λ z. z ∷ ys) (sym e) ∙ ap (λ l. x ∷ l) (sym (all_taken ys n (omega arith)))

pub reverse_pop : {A : Type 0} (old new : List A) (x : A) → old ≡ new ++ x ∷ [] → reverse old ≡ x ∷ reverse new
reverse_pop old new x e = ap reverse e ∙ reverse-append new (x ∷ [])

-- ## A goal is taken

module _ (old : Engine) (x : Goal) (goals : Bor (List Goal)) (left : ℕ) (ready : IsReady old) (split : old.here.goals.now ≡ x ∷ goals.now) (less : old.left ≡ suc left) where
  abbrev fs : List Frame
  fs = old.frames.items

  abbrev values : Env → List Value
  values = values_in (store_in old.store) old.refs.items

  pub goal_taken : Taken x old (record old { here = record old.here { goals = goals }; left = left })
  goal_taken =
      let runnable = subst AreRunnable split ready.here.runnable in
      record {
        ready = record {
          sound = record {
            base = ready.sound.base;
            room = omega (arith, ready.sound.room);
            picks = may_fewer left old.left (picks_in old.lasting) (omega (arith, less)) ready.sound.picks;
          };
          here = record { runnable = runnable_rest x goals.now runnable; older = ready.here.older; env = ready.here.env };
        };
        left = less;
        limits = record { heap = refl; trail = refl; aux = refl; keep = refl; told = refl };
        room = omega (arith, ready.sound.room);
        picks = may_fewer (left + 1) old.left (picks_in old.lasting) (omega (arith, less)) ready.sound.picks;
        runnable = runnable_goal x goals.now runnable;
        whole = runnable_alone x goals.now runnable;
        again = record { is = ready.here; goals = split; rest = refl };
        takes = λ g n w run st. record {
          at = st.at;
          stands = subst (λ (l : List Goal). Stands g st.at.inside.lives st.at.ways (path_of (frame_steps (values old.here.env) l old.here.tag old.here.mark (steps_behind values fs old.here.behind)) st.at.registers) (suc n) w run) split st.stands;
        };
      }

-- ## The start

pub entry_runnable : (pred : ℕ) → AreRunnable (Ask pred [] false ∷ [])
entry_runnable pred = runnable_from (Ask pred [] false) (AskForm pred [] false) (outs-Ask pred [] false) tt (all_none IsRunnableGoal)

-- an empty store
abbrev pub empty : ℕ → ℕ → Store
empty heap trail = store_of true (record { slots = []; log = []; vars = 0; since = 0; heap = 0; trail = 0; heap_limit = heap; trail_limit = trail })

-- has no variables
pub has_none : (heap trail : ℕ) (store : ListBindings) (refs : List Ref) → store_in store ≡ empty heap trail → refs ≡ [] → HasNew 0 heap trail store refs
has_none heap trail store refs means none = record {
  state = ap (λ (s : Store). s.state) means;
  hold = subst (All (Holds (store_in store))) (sym none) (λ k d lt. absurd (omega arith));
  values = ap (map (told (store_in store))) none;
  heap_is = ap (λ (s : Store). s.heap_limit) means;
  trail_is = ap (λ (s : Store). s.trail_limit) means;
}

module _ (program : Bor CoreProgram) (goals : Bor (List Goal)) (store : ListBindings) (refs : Vec Ref Global) (frames : Vec Frame Global) (choices : Vec Choice Global) (made : Vec Ref Global) (told_calls : Vec CallEvent Global) (len : ℕ) (own : ℕ) (limits : Limits) (left : ℕ) (steps_are : limits.steps ≡ left) (new : HasNew own limits.heap limits.trail store refs.items) (lasting : Lasting) (dice : List ℕ) (fits : left < 2 ^ 64)
    (out : StartsLasting program.now limits dice lasting) (runnable : IsRunnable program.now) (sound : IsSoundProgram program.now) (goals_run : AreRunnable goals.now) (some : 0 < length goals.now) (len_is : len ≡ length refs.items) (no_frames : frames.items ≡ []) (no_choices : choices.items ≡ []) where
  abbrev e : Engine
  e = record { program = program; lasting = lasting; store = store; refs = refs; frames = frames; choices = choices; made = made; here = record { goals = goals; env = record { from = 0; len = len }; tag = 0; mark = Nothing; behind = 0 }; newest = 0; stoppable = None; told = told_calls; left = left }

  none : reverse choices.items ≡ []
  none = ap reverse no_choices

  abbrev at : Env → List Value
  at = values_in (store_in store) refs.items

  env_is : at e.here.env ≡ new_vars own 0
  env_is = ap (map (told (store_in store))) (all_taken refs.items len (omega (arith, len_is))) ∙ new.values

  steps : steps_at at frames.items e.here ≡ goals_at (new_vars own 0) 0 goals.now
  steps =
      ap (λ vs. goals_at vs 0 goals.now ++ steps_behind at frames.items 0) env_is
      ∙ ap (λ s. goals_at (new_vars own 0) 0 goals.now ++ s) (behind_end at frames.items)
      ∙ append-nil (goals_at (new_vars own 0) 0 goals.now)

  abbrev registers : Registers
  registers = (asking_path goals.now own).registers

  agrees : Agrees (store_in store) registers
  agrees =
      let state = new.state in
      record {
        bound = sym (ap (λ (s : State). s.subst) state);
        vars = sym (ap (λ (s : State). s.vars) state);
        heap = sym (ap (λ (s : State). s.heap) state);
        trail = omega (arith, ap (λ (s : State). s.trail) state);
        since = omega (arith, ap (λ (s : State). s.since) state, ap (λ (s : State). s.vars) state);
      }

  stands : (g : Game) (n : ℕ) (typed : List ℕ) → g.program ≡ program.now → g.dice ≡ dice → StandsAt e g n (start_world g typed) (run_of (search g n (asking_path goals.now own) (start_world g typed)))
  stands g n typed same thrown = record {
    at = record {
      inside = record {
        program = sym same;
        entries = [];
        lives = [];
        lives_are = ap (λ l. lives_of l []) (sym none);
        saved = [];
        keeps = tt;
        choices = subst (λ l. AreChoices g refs.items frames.items l [] []) (sym none) tt;
        world = out.stands g typed same thrown;
        peak = omega arith;
      };
      ways = [];
      ways_are = ap (λ l. ways_of l []) (sym none);
      registers = registers;
      agrees = agrees;
      tag = refl;
      stop = refl;
    };
    stands =
        subst (λ s. Stands g [] [] (path_of s registers) n (start_world g typed) (run_of (search g n (asking_path goals.now own) (start_world g typed)))) (sym steps)
        (goals_start g goals.now own typed n);
  }

  limits_at : (area : Area) → limit_in area e ≡ limit_of area limits
  limits_at Heap = new.heap_is
  limits_at Trail = new.trail_is
  limits_at Aux = out.aux
  limits_at Keep = out.keep

  pub started : StartsOn program.now goals.now own limits dice e
  started = record {
    ready = record {
      sound = record {
        base = record {
          program = runnable;
          sound = sound;
          hold = new.hold;
          frames = λ k f lt h. absurd (let q : None ≡ Some f = sym (ap (λ (l : List Frame). slice_get l k) no_frames) ∙ h in cc);
          choices = subst (StandOn frames.items (length frames.items) (length refs.items) 0) (sym none) tt;
          places = record { saved = []; keeps = tt; back_to = subst (λ os. GoBackTo refs.items (store_in store).heap_limit (store_in store).trail_limit os []) (sym none) tt };
        };
        room = omega arith;
        picks = out.may left fits;
      };
      here = record { runnable = goals_run; older = omega arith; env = omega (arith, len_is) };
    };
    goal = some;
    left = sym steps_are;
    begins = out.begins;
    limits_are = λ area. limits_at area;
    stands = stands;
  }

-- the query of the entry point is where each run of a program starts
pub entry_starts : (program : CoreProgram) (limits : Limits) (dice : List ℕ) (e : Engine) → StartsOn program (Ask program.entry [] false ∷ []) 0 limits dice e → Starts program limits dice e
unfolding run
entry_starts program limits dice e h = record {
  ready = h.ready;
  goal = h.goal;
  left = h.left;
  begins = h.begins;
  limits_are = h.limits_are;
  stands = λ g n typed same thrown. subst (λ (p : CoreProgram). StandsAt e g n (start_world g typed) (run_of (search g n (asking_path (Ask p.entry [] false ∷ []) 0) (start_world g typed)))) (sym same) (h.stands g n typed same thrown);
}
