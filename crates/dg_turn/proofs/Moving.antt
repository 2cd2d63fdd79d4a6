-- A routine of the story is one turn.
use Rattle.std.proofs.Common.{◌≡◌, ◌≢◌, ℕ, suc, ◌+◌, ◌<◌, ◌≤◌, List, [], ◌++◌, Some, refl, sym, ap, ◌∙◌, subst, arith}
use Rattle.dg_base.specs.declared.run.Ending.{Ending}
use Rattle.dg_mid.specs.State.{Mid}
use Rattle.z_model.specs.declared.end.Halt.TheVariants.{AtQuit}
use Rattle.z_model.specs.declared.end.ZEnd.TheVariants as ends
use Rattle.z_model.specs.Run.{ZState}
use Rattle.z_lang.specs.declared.act.Routine.{Routine}
use Rattle.z_lang.specs.Runs.{ActsRun, Returns, Stops, routine_entered, left_with}
use Rattle.z_lang.specs.Leads.{Leads, Ends}
use Rattle.z_lang.specs.Standing.{state_at}
use Rattle.z_lang.proofs.Trampoline.{bounces, stops}
use Rattle.z_lang.proofs.Stretches.{ends_then}
use Rattle.dg_rt.specs.Cells.{with_cell, replaced, Holds}
use Rattle.dg_rt.specs.Areas.{state}
use Rattle.dg_rt.specs.Shapes.{Shape}
use Rattle.dg_rt.specs.Closings.{closing}
use Rattle.dg_rt.proofs.Cells.{other_cell}
use Rattle.dg_rt.proofs.Following.{word as word_is, register, puts}
use Rattle.dg_turn.specs.Told.{Telling}
use Rattle.dg_turn.specs.Lies.{MidIn}
use Rattle.dg_turn.specs.Plays.{Playing, Outside, Represented, Comes, Closes}
use Rattle.dg_turn.proofs.Staying.{mid_same}

-- What the words are behind a turn.
pub record Moved (t : Telling) (out : Outside) (y : ℕ) (cells' : ℕ → ℕ) (sh' : Shape) (m' : Mid) (n : ℕ) (z : ZState) : Type 0 where
  pub there : ZState
  pub leads : Leads t.p.world (n + 2) z there
  pub rep : Represented t out y m' there
  pub shape_is : rep.sh ≡ sh'
  pub cells_are : (k : ℕ) → k ≢ 0 → rep.cells k ≡ cells' k

module _ (t : Telling) (plays : Playing t) (out : Outside) (x : ℕ) (m : Mid) (z : ZState) (r : Represented t out x m z) (body : Routine) (there : t.p.routine_at x ≡ Some body) (few : body.locals ≤ 15) where
  -- Where a routine's acts lead to memory that stands for a machine, with something else outside perhaps, and return the next routine, that is a turn.
  pub moved_to : (out' : Outside) (y n : ℕ) (memory' locals' : List ℕ) (cells' : ℕ → ℕ) (sh' : Shape) (trail' : List ℕ) (m' : Mid) → ActsRun t.p 3500 19000 body.body body.body (routine_entered (state r.memory [] out.typed out.drawn out.output) body.locals (0, 0, 0)) (Returns y) (state memory' locals' out'.typed out'.drawn out'.output) n → Holds t.p.world.layout memory' cells' → y < 65536 → MidIn t out'.words sh' cells' trail' m' → Moved t out' y cells' sh' m' n z
  moved_to out' y n memory' locals' cells' sh' trail' m' runs holds small mid =
      let high = plays.has.mapped.room in
      let s0 = state r.memory [] out.typed out.drawn out.output in
      let s1 = state memory' locals' out'.typed out'.drawn out'.output in
      let put = puts t.p (left_with s0 s1) cells' 16 y holds (omega arith) (omega arith) (omega arith) small in
      let s2 = state (with_cell memory' 0 y) [] out'.typed out'.drawn out'.output in
      let b = bounces t.p t.story plays.stands 16 plays.labels t.pc plays.placed plays.from t.context s0 s1 s2 x y 3600 20000 3500 19000 n body r.kept (plays.room r.memory out.typed out.output out.drawn) (register t.p s0 r.cells 16 r.holds (omega arith) (omega arith) (omega arith) ∙ ap word_is r.next_is) there (omega arith) (omega arith) runs put.put_is in
      let sum : suc n + 1 ≡ n + 2 = omega arith in
      record {
        there = state_at s2 t.context t.pc;
        leads = subst (λ (k : ℕ). Leads t.p.world k z (state_at s2 t.context t.pc)) sum (subst (λ (s : ZState). Leads t.p.world (suc n + 1) s (state_at s2 t.context t.pc)) (sym r.is) b.leads);
        rep = record {
          memory = with_cell memory' 0 y;
          is = refl;
          kept = b.kept;
          cells = replaced cells' 0 y;
          holds = put.holds;
          next_is = refl;
          sh = sh';
          trail = trail';
          mid = mid_same t sh' cells' (replaced cells' 0 y) trail' m' (λ j ne far. other_cell cells' 0 y j ne) mid;
        };
        shape_is = refl;
        cells_are = λ k ne. other_cell cells' 0 y k ne;
      }

  pub moves_to : (out' : Outside) (y n most : ℕ) (memory' locals' : List ℕ) (cells' : ℕ → ℕ) (sh' : Shape) (trail' : List ℕ) (m' : Mid) → ActsRun t.p 3500 19000 body.body body.body (routine_entered (state r.memory [] out.typed out.drawn out.output) body.locals (0, 0, 0)) (Returns y) (state memory' locals' out'.typed out'.drawn out'.output) n → Holds t.p.world.layout memory' cells' → y < 65536 → MidIn t out'.words sh' cells' trail' m' → n + 2 ≤ most → Comes t out' y m' most z
  moves_to out' y n most memory' locals' cells' sh' trail' m' runs holds small mid le =
      let g = moved_to out' y n memory' locals' cells' sh' trail' m' runs holds small mid in
      record { there = g.there; count = n + 2; some = omega arith; few = le; leads = g.leads; rep = g.rep }

  -- So it is with what is outside as it was.
  pub moved : (y n : ℕ) (memory' locals' : List ℕ) (cells' : ℕ → ℕ) (sh' : Shape) (trail' : List ℕ) (m' : Mid) → ActsRun t.p 3500 19000 body.body body.body (routine_entered (state r.memory [] out.typed out.drawn out.output) body.locals (0, 0, 0)) (Returns y) (state memory' locals' out.typed out.drawn out.output) n → Holds t.p.world.layout memory' cells' → y < 65536 → MidIn t out.words sh' cells' trail' m' → Moved t out y cells' sh' m' n z
  moved y n memory' locals' cells' sh' trail' m' runs holds small mid = moved_to out y n memory' locals' cells' sh' trail' m' runs holds small mid

  pub moves : (y n most : ℕ) (memory' locals' : List ℕ) (cells' : ℕ → ℕ) (sh' : Shape) (trail' : List ℕ) (m' : Mid) → ActsRun t.p 3500 19000 body.body body.body (routine_entered (state r.memory [] out.typed out.drawn out.output) body.locals (0, 0, 0)) (Returns y) (state memory' locals' out.typed out.drawn out.output) n → Holds t.p.world.layout memory' cells' → y < 65536 → MidIn t out.words sh' cells' trail' m' → n + 2 ≤ most → Comes t out y m' most z
  moves y n most memory' locals' cells' sh' trail' m' runs holds small mid le = moves_to out y n most memory' locals' cells' sh' trail' m' runs holds small mid le

  -- Where they end the run, with so many dice words drawn, it is over.
  pub closes_drawn : (drawn' f w : ℕ) → f < 3600 → body.locals + w ≤ 20000 → (n most : ℕ) (ending : Ending) (memory' locals' : List ℕ) → ActsRun t.p f w body.body body.body (routine_entered (state r.memory [] out.typed out.drawn out.output) body.locals (0, 0, 0)) (Stops AtQuit) (state memory' locals' out.typed drawn' (out.output ++ closing (r.cells 28) ending)) n → n + 1 ≤ most → Closes t out ending most z
  closes_drawn drawn' f w less fits n most ending memory' locals' runs le =
      let high = plays.has.mapped.room in
      let s0 = state r.memory [] out.typed out.drawn out.output in
      let s1 = state memory' locals' out.typed drawn' (out.output ++ closing (r.cells 28) ending) in
      let over = stops t.p t.story plays.stands 16 plays.labels t.pc plays.placed plays.from t.context s0 s1 x 3600 20000 f w n AtQuit body r.kept (plays.room r.memory out.typed out.output out.drawn) (register t.p s0 r.cells 16 r.holds (omega arith) (omega arith) (omega arith) ∙ ap word_is r.next_is) there less fits runs in
      record {
        at_end = over.0;
        written = over.1 ∙ ap (λ (i : ℕ). out.output ++ closing i ending) (r.mid.rest.outside.registers 28 (omega arith) (omega arith) (λ e. (omega arith)));
        count = suc n;
        few = omega arith;
        ends = subst (λ (s : ZState). Ends t.p.world (suc n) s (record { end = ends.Quit; state = over.0 })) (sym r.is) over.2;
      }

  pub closes_within : (f w : ℕ) → f < 3600 → body.locals + w ≤ 20000 → (n most : ℕ) (ending : Ending) (memory' locals' : List ℕ) → ActsRun t.p f w body.body body.body (routine_entered (state r.memory [] out.typed out.drawn out.output) body.locals (0, 0, 0)) (Stops AtQuit) (state memory' locals' out.typed out.drawn (out.output ++ closing (r.cells 28) ending)) n → n + 1 ≤ most → Closes t out ending most z
  closes_within f w less fits n most ending memory' locals' runs le = closes_drawn out.drawn f w less fits n most ending memory' locals' runs le

  pub closes : (n most : ℕ) (ending : Ending) (memory' locals' : List ℕ) → ActsRun t.p 3500 19000 body.body body.body (routine_entered (state r.memory [] out.typed out.drawn out.output) body.locals (0, 0, 0)) (Stops AtQuit) (state memory' locals' out.typed out.drawn (out.output ++ closing (r.cells 28) ending)) n → n + 1 ≤ most → Closes t out ending most z
  closes n most ending memory' locals' runs le = closes_within 3500 19000 (omega arith) (omega arith) n most ending memory' locals' runs le

-- An end behind a stretch.
pub closes_then : (t : Telling) (out : Outside) (ending : Ending) (a n most all : ℕ) (z there : ZState) → a ≤ n → n + most ≤ all → Leads t.p.world a z there → Closes t out ending most there → Closes t out ending all z
closes_then t out ending a n most all z there le sum leads k =
    let few = k.few in
    record {
      at_end = k.at_end;
      written = k.written;
      count = a + k.count;
      few = omega arith;
      ends = ends_then t.p.world a k.count z there (record { end = ends.Quit; state = k.at_end }) leads k.ends;
    }
