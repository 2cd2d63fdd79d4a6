-- The last query of a rule, where it is one of a closure: one turn of the story.
use Rattle.std.proofs.Common.{◌≡◌, ℕ, suc, Bool, List, [], ◌∷◌, Option, Some, refl, ap, ◌∙◌, subst, arith}
use Rattle.dg_base.specs.declared.program.Term.{Term}
use Rattle.dg_base.specs.Goals.{option_terms}
use Rattle.dg_meaning.specs.Cells.{cells as cells_of}
use Rattle.dg_unify.specs.Store.{State as State'}
use Rattle.dg_mid.specs.State.{Mid}
use Rattle.dg_mid.specs.Step.{more}
use Rattle.z_model.specs.Run.{ZState}
use Rattle.z_lang.specs.declared.act.Act.{Act}
use Rattle.z_lang.specs.declared.act.Act.TheVariants as acts
use Rattle.z_lang.specs.declared.act.Args.TheVariants as args
use Rattle.z_lang.specs.declared.act.Atom.TheVariants as atoms
use Rattle.z_lang.specs.Runs.{calls, left_with}
use Rattle.dg_rt.specs.declared.numbers.TheConstants.{TAIL_CALL}
use Rattle.dg_rt.specs.Cells.{with_cell, replaced}
use Rattle.dg_rt.specs.Areas.{state}
use Rattle.dg_rt.specs.Shapes.{Shape}
use Rattle.dg_rt.proofs.Cells.{other_cell, same_cell}
use Rattle.dg_rt.proofs.Following.{puts}
use Rattle.dg_turn.specs.Told.{Telling}
use Rattle.dg_turn.specs.Lies.{FramesIn}
use Rattle.dg_turn.specs.Plays.{Playing, Outside, Represented}
use Rattle.dg_turn.specs.LastQueries.{left_at, next_of}
use Rattle.dg_turn.specs.Bodies.{last_query_routine, LastQueryTurns}
use Rattle.dg_turn.proofs.Standing.{tail_call_at}
use Rattle.dg_turn.proofs.Staying.{mid_same}
use Rattle.dg_turn.proofs.LastTurn.{Tailed, tailed, tailed_alone, same_state}
use Rattle.dg_turn.proofs.QueryTurn.{Fronted, turn, no_room}

module _ (t : Telling) (plays : Playing t) (out : Outside) (x : ℕ) (a : Term) (b : Option Term) (end : ℕ) (many : Bool) (find : ℕ) (m : Mid) (z : ZState) (there : t.p.routine_at x ≡ Some (last_query_routine t.program a b end many find)) (r : Represented t out x m z) where
  abbrev m' : Mid
  m' = more (cells_of t.program (a ∷ option_terms b)) m

  abbrev front : List Act
  front = acts.Call (Some 24) (atoms.Routine TAIL_CALL) (args.One (atoms.Routine end)) ∷ []

  -- what comes behind is answered, and put into its register
  fronted : (sh : Shape) (memory : List ℕ) (c : ℕ → ℕ) (left : Mid) (y : ℕ) → Tailed t out.words 3000 18000 memory out.typed out.output out.drawn sh c r.trail left (t.p.names.routine end) y → Fronted t plays out x a b many find front m z there r sh memory c left y
  fronted sh memory c left y k =
      let high = plays.has.mapped.room in
      let s0 = state memory [] out.typed out.drawn out.output in
      let s1 = state k.memory' k.locals' out.typed out.drawn out.output in
      let put = puts t.p (left_with s0 s1) k.cells' 24 y k.holds' (omega arith) (omega arith) (omega arith) k.small in
      let few = k.few in
      record {
        memory' = with_cell k.memory' 8 y;
        cells' = replaced k.cells' 8 y;
        holds' = put.holds;
        mid' = mid_same t sh k.cells' (replaced k.cells' 8 y) r.trail left (λ j n0 far. other_cell k.cells' 8 y j (λ (e : j ≡ 8). (let q = far.0 (omega arith) in omega arith))) k.mid';
        back_is = same_cell k.cells' 8 y;
        others = λ j low lt. other_cell k.cells' 8 y j (λ e. (omega arith)) ∙ k.others j (λ e. (omega arith)) (λ e. (omega arith));
        count = suc k.count;
        few = omega arith;
        runs = λ o s' n run. calls {f' = 3000} {w' = 18000} {n = k.count} {n' = n} {xs = (t.p.names.routine end, 0, 0)} {s1 = s1} {s2 = state (with_cell k.memory' 8 y) [] out.typed out.drawn out.output} refl refl (tail_call_at t.p plays.has) (omega arith) (omega arith) k.runs put.put_is run;
      }

pub last_query_turns : LastQueryTurns
last_query_turns = record {
  asks = λ t plays out x a b end many find f fs m z there end_is frames nodes room r.
      let m1 = more (cells_of t.program (a ∷ option_terms b)) m in
      turn t plays out x a b many find (acts.Call (Some 24) (atoms.Routine TAIL_CALL) (args.One (atoms.Routine end)) ∷ []) m z there r (left_at f.many f fs m1) (next_of f.many f) (ap (λ (s : State'). s.subst) (same_state f.many f fs m1)) nodes room
      (λ sh memory c holds mid. fronted t plays out x a b end many find m z there r sh memory c (left_at f.many f fs m1) (t.at_block (next_of f.many f)) (tailed t plays.has 3000 18000 out.typed out.output out.drawn sh memory c r.trail m1 holds mid f fs (subst (FramesIn t sh m.stops (c 4)) frames mid.frames) (t.p.names.routine end) end_is (plays.words end)));
  asks_alone = λ t plays out x a b end many find m z there end_is none nodes room r.
      let m1 = more (cells_of t.program (a ∷ option_terms b)) m in
      turn t plays out x a b many find (acts.Call (Some 24) (atoms.Routine TAIL_CALL) (args.One (atoms.Routine end)) ∷ []) m z there r (record m1 { inner = [] }) 0 refl nodes room
      (λ sh memory c holds mid. fronted t plays out x a b end many find m z there r sh memory c (record m1 { inner = [] }) (t.at_block 0) (tailed_alone t plays.has 3000 18000 out.typed out.output out.drawn sh memory c r.trail m1 holds mid none (t.p.names.routine end) end_is (plays.words end)));
  meets = λ t plays out x a b end many find m z there over r. no_room t plays out x a b many find (acts.Call (Some 24) (atoms.Routine TAIL_CALL) (args.One (atoms.Routine end)) ∷ []) m z there r over;
}
