-- An argument is unified with a term of a rule's head by a routine that does so.
use Rattle.std.proofs.Common.{◌≡◌, ◌≢◌, ℕ, ◌+◌, ◌-◌, ◌<◌, ◌≤◌, List, [], ◌∷◌, ◌++◌, ◌∙◌, arith}
use Rattle.dg_base.specs.declared.run.Ending.TheVariants.{TrailLimit}
use Rattle.dg_meaning.specs.Values.{Value}
use Rattle.dg_meaning.specs.Unify.{Unified}
use Rattle.dg_meaning.specs.inside.Unify.{unify}
use Rattle.dg_meaning.proofs.Solving.{solve_extends}
use Rattle.dg_mid.specs.State.{Mid}
use Rattle.dg_mid.specs.Step.{bound, trail_more}
use Rattle.z_model.specs.declared.end.Halt.TheVariants.{AtQuit}
use Rattle.z_lang.specs.declared.act.Act.{Act}
use Rattle.z_lang.specs.Runs.{ActsRun, Returns, Stops}
use Rattle.dg_rt.specs.Cells.{Holds, bit}
use Rattle.dg_rt.specs.Areas.{state}
use Rattle.dg_rt.specs.Shapes.{Shape}
use Rattle.dg_rt.specs.RunTime.{HasRunTime}
use Rattle.dg_rt.specs.Unifies.{price}
use Rattle.dg_rt.specs.Closings.{closing, closing_most}
use Rattle.dg_rt.specs.Rules.{Matches as MatchesOne, agree, limit_met}
use Rattle.dg_turn.specs.Told.{Telling}
use Rattle.dg_turn.specs.Lies.{MidIn}
use Rattle.dg_turn.proofs.Staying.{mid_same}
use Rattle.dg_turn.proofs.Unified.{setting, mid_behind, fit_trail, pass_trail}

-- By these acts an argument was unified with a term, where none has clashed before: memory stands for the machine with what was bound.
pub record One (t : Telling) (outer : ℕ → ℕ) (sh : Shape) (acts : List Act) (memory typed output : List ℕ) (drawn x y : ℕ) (c : ℕ → ℕ) (m : Mid) (u : Unified) (most : ℕ) : Type 0 where
  pub memory' : List ℕ
  pub cells' : ℕ → ℕ
  pub trail' : List ℕ
  pub holds : Holds t.p.world.layout memory' cells'
  pub mid : MidIn t outer sh cells' trail' (bound u m)
  pub clash : cells' 13 ≡ 1 - bit u.agrees
  pub others : (k : ℕ) → k ≢ 1 → k ≢ 13 → k < 303 → cells' k ≡ c k
  pub locals' : List ℕ
  pub count : ℕ
  pub few : count ≤ most + 5
  pub runs : ActsRun t.p 3337 16685 acts acts (state memory (x ∷ y ∷ 0 ∷ 0 ∷ []) typed drawn output) (Returns 0) (state memory' locals' typed drawn output) count

-- Or the trail's limit has ended the run.
pub record OneFull (t : Telling) (acts : List Act) (memory typed output : List ℕ) (drawn x y : ℕ) (c : ℕ → ℕ) (most : ℕ) : Type 0 where
  pub memory' : List ℕ
  pub locals' : List ℕ
  pub count : ℕ
  pub few : count ≤ most + 5 + closing_most
  pub runs : ActsRun t.p 3337 16685 acts acts (state memory (x ∷ y ∷ 0 ∷ 0 ∷ []) typed drawn output) (Stops AtQuit) (state memory' locals' typed drawn (output ++ closing (c 28) TrailLimit)) count

module _ (t : Telling) (outer : ℕ → ℕ) (has : HasRunTime t.p) (sh : Shape) (acts : List Act) (memory typed output : List ℕ) (drawn : ℕ) (c : ℕ → ℕ) (trail : List ℕ) (m : Mid) (h : Holds t.p.world.layout memory c) (mid : MidIn t outer sh c trail m) (x y : ℕ) (a b : Value) where
  abbrev answer : Unified
  answer = unify m.state.subst a b

  abbrev most : ℕ
  most = price m.state.subst ((a, b) ∷ [])

  pub one : MatchesOne acts (setting t has sh memory typed output drawn c trail m h mid) memory x y most answer → trail_more m.state answer ≤ 2000 → One t outer sh acts memory typed output drawn x y c m answer most
  one (agree k memory' locals' cells' count holds clash same few runs) fit =
      let behind = mid_behind t has sh memory typed output drawn c trail m h mid answer k.memory k.cells fit k.at in
      record {
        memory' = memory';
        cells' = cells';
        trail' = k.at.trail;
        holds = holds;
        mid = mid_same t sh k.cells cells' k.at.trail (bound answer m) (λ j ne far. same j (λ (e : j ≡ 13). (let q = far.0 (omega arith) in omega arith))) behind;
        clash = clash;
        others = λ j n1 n13 low. same j n13 ∙ k.at.others j n1 (λ le. (omega arith));
        locals' = locals';
        count = count;
        few = few;
        runs = runs;
      }
  one (limit_met memory' locals' count over few runs) fit =
      let passes = pass_trail t has sh memory typed output drawn c trail m h mid answer (solve_extends m.state.subst ((a, b) ∷ []) mid.state.stands.sound) over in
      absurd (omega arith)

  pub one_full : MatchesOne acts (setting t has sh memory typed output drawn c trail m h mid) memory x y most answer → 2000 < trail_more m.state answer → OneFull t acts memory typed output drawn x y c most
  one_full (agree k memory' locals' cells' count holds clash same few runs) over =
      let fit = fit_trail t has sh memory typed output drawn c trail m h mid answer (solve_extends m.state.subst ((a, b) ∷ []) mid.state.stands.sound) k.room in
      absurd (omega arith)
  one_full (limit_met memory' locals' count over few runs) past = record { memory' = memory'; locals' = locals'; count = count; few = few; runs = runs }
