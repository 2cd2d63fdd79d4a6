-- Where a run of some goals stands at its start.
use Rattle.std.proofs.Common.{◌≡◌, ℕ, zero, suc, ◌+◌, ◌≤◌, inl, List, [], ◌∷◌, refl, arith}
use Rattle.std.specs.Prelude.{eqb}
use Rattle.std.proofs.lemmas.Bool.{cond_both}
use Rattle.dg_base.specs.declared.program.Goal.{Goal}
use Rattle.dg_meaning.specs.Values.{Value}
use Rattle.dg_meaning.specs.World.{Game, World}
use Rattle.dg_meaning.specs.Path.{Step, Plain, Result, Failing, CutFail, StopTo, End}
use Rattle.dg_meaning.specs.Moves.{goals_at, new_vars}
use Rattle.dg_meaning.specs.Search.{Search, search, answer}
use Rattle.dg_meaning.specs.Transcript.{run_of, start_world, asking_path}
use Rattle.dg_meaning.specs.inside.Bindings.{top_of_values, top_of_steps}
use Rattle.dg_meaning.specs.inside.Context.{Around, InBranch, unwind, StepsIn, KeepIn}
use Rattle.dg_meaning.specs.inside.Keeps.{Stands}

-- inside the choice to which the goals cut
abbrev at_start : List Around
at_start = InBranch Plain 0 [] ∷ []

in_first : (s : Search) (n : ℕ) (w : World) (x : Result) → run_of (answer n w x) ≡ unwind s at_start n w x
in_first s n w Failing = refl
in_first s n w (CutFail u) = cond_both (eqb u 0) Failing (CutFail u) (λ x. run_of (answer n w (CutFail u)) ≡ run_of (answer n w x)) (λ e. refl) (λ e. refl)
in_first s n w (StopTo t c) = refl
in_first s n w (End e) = refl

goals_in : (env : List Value) (goals : List Goal) → StepsIn at_start (goals_at env 0 goals)
goals_in env [] = tt
goals_in env (x ∷ goals) = (inl refl, goals_in env goals)

goals_keep : (env : List Value) (goals : List Goal) → KeepIn [] (goals_at env 0 goals)
goals_keep env [] = tt
goals_keep env (x ∷ goals) = goals_keep env goals

new_below : (n next : ℕ) → top_of_values (new_vars n next) ≤ next + n
new_below zero next = omega arith
new_below (suc n) next = let h = new_below n (suc next) in omega (arith, h)

goals_below : (env : List Value) (goals : List Goal) (n : ℕ) → top_of_values env ≤ n → top_of_steps (goals_at env 0 goals) ≤ n
goals_below env [] n h = omega arith
goals_below env (x ∷ goals) n h = let k = goals_below env goals n h in omega (arith, h, k)

-- the run stands at these goals, with no choice
pub goals_start : (g : Game) (goals : List Goal) (own : ℕ) (typed : List ℕ) (n : ℕ) → Stands g [] [] (asking_path goals own) n (start_world g typed) (run_of (search g n (asking_path goals own) (start_world g typed)))
goals_start g goals own typed n = record {
  ctx = at_start;
  is = let a = search g n (asking_path goals own) (start_world g typed) in in_first (search g) a.left a.world a.result;
  sound = (tt, tt, tt, tt, tt);
  opens = refl;
  inner = record {
    steps = goals_in (new_vars own 0) goals;
    stop = tt;
    newer = (omega arith, tt);
    bound = record { sound = tt; bindings = omega arith; steps = goals_below (new_vars own 0) goals own (let h = new_below own 0 in omega (arith, h)) };
  };
  keeps = goals_keep (new_vars own 0) goals;
  choices = refl;
  ways_are = refl;
}
