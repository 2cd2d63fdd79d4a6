-- A value is printed: one turn of the story.
use Rattle.std.proofs.Common.{◌≡◌, ℕ, suc, ◌+◌, ◌*◌, ◌<◌, ◌≤◌, false, List, [], ◌∷◌, ◌++◌, None, refl, subst, arith}
use Rattle.dg_base.specs.declared.program.Term.{Term}
use Rattle.dg_base.specs.declared.run.Ending.TheVariants as ending
use Rattle.dg_meaning.specs.Cells.{cells as cells_of}
use Rattle.dg_meaning.specs.Pieces.{pieces}
use Rattle.dg_meaning.specs.Render.{Met, met_from, render_from}
use Rattle.dg_meaning.specs.Substitutions.{Substitution, resolved, contains}
use Rattle.dg_meaning.specs.Unify.{looks}
use Rattle.dg_meaning.specs.Values.{Value}
use Rattle.dg_meaning.specs.World.{Print}
use Rattle.dg_mid.specs.State.{Mid}
use Rattle.dg_mid.specs.Step.{more}
use Rattle.z_model.specs.Run.{ZState}
use Rattle.z_lang.specs.declared.act.Act.{Act}
use Rattle.z_lang.specs.declared.act.Act.TheVariants as acts
use Rattle.z_lang.specs.declared.act.Args.TheVariants as args
use Rattle.z_lang.specs.declared.act.Atom.TheVariants as atoms
use Rattle.z_lang.specs.declared.act.Routine.{Routine}
use Rattle.z_lang.specs.State.{State}
use Rattle.z_lang.specs.Runs.{Returns, Rests, rests, calls, returns}
use Rattle.z_lang.specs.Standing.{IsKept}
use Rattle.dg_rt.specs.declared.numbers.TheConstants.{PRINT_VALUE}
use Rattle.dg_rt.specs.declared.printing.TheConstants.{PRINT_VALUE_ACTS}
use Rattle.dg_rt.specs.inside.Walks.{steps}
use Rattle.dg_rt.specs.Areas.{state}
use Rattle.dg_rt.specs.Closings.{closing_most}
use Rattle.dg_rt.specs.Gaps.{Meets}
use Rattle.dg_rt.specs.Prints.{Spells, PrintsPieces}
use Rattle.dg_rt.proofs.Absent.{next_absent}
use Rattle.dg_rt.proofs.Following.{register}
use Rattle.dg_rt.proofs.PrintBound.{print_works}
use Rattle.dg_rt.proofs.Standing.{print_value_at}
use Rattle.dg_rt.proofs.Static.{runs_keep}
use Rattle.dg_rt.proofs.UnifySteps.{steps_are}
use Rattle.dg_turn.specs.Told.{Telling}
use Rattle.dg_turn.specs.Plays.{Playing, Outside, Represented, Comes, Closes}
use Rattle.dg_turn.specs.Terms.{written_in, Wrote}
use Rattle.dg_turn.specs.Operating.{term_value, InFront}
use Rattle.dg_turn.specs.Prints.{print_routine, term_pieces, all_printed, print_most, PrintTurns}
use Rattle.dg_turn.proofs.Meeting.{meets_here, mid_met}
use Rattle.dg_turn.proofs.Moving.{moves_to, closes}
use Rattle.dg_turn.proofs.Terms.{writes_terms, meets_terms}

module _ (t : Telling) (plays : Playing t) (out : Outside) (a : Term) (words objects behind : ℕ) (m : Mid) (z : ZState) (e : InFront t out (print_routine t.program a words objects behind) (a ∷ []) m z) where
  abbrev r : Represented t out e.x m z
  r = e.rep

  abbrev ts : List Term
  ts = a ∷ []

  abbrev n : ℕ
  n = cells_of t.program ts

  abbrev va : Value
  va = term_value t.program m a

  abbrev S : Substitution
  S = m.state.subst

  abbrev routine : Routine
  routine = print_routine t.program a words objects behind

  abbrev y : ℕ
  y = t.p.names.routine behind

  abbrev rest : List Act
  rest = acts.Call None (atoms.Routine PRINT_VALUE) (args.Three (atoms.Var 32) (atoms.Routine words) (atoms.Routine objects)) ∷ acts.Return (atoms.Routine behind) ∷ []

  abbrev now : List ℕ → State
  now memory = state memory [] out.typed out.drawn out.output

  no_room : 10000 < m.state.heap + n → Closes t out ending.HeapLimit (10 + closing_most) z
  no_room over =
      let k = meets_terms t plays.has 3500 19000 r.sh r.memory out.typed out.output out.drawn r.cells r.trail m r.holds r.mid routine.body (omega arith) (omega arith) rest 32 ts over in
      let few = k.few in
      closes t plays out e.x m z r routine e.there (omega arith) k.count (10 + closing_most) ending.HeapLimit k.memory' k.locals' k.runs (omega arith)

  module _ (room : m.state.heap + n ≤ 10000) (met : Met) (meets : Meets out.words met) (spells : Spells t.p t.story t.program (t.p.names.routine words) (t.p.names.routine objects)) where
    abbrev w1 : Wrote t out.words 3500 19000 routine.body rest routine.body r.sh r.memory out.typed out.output out.drawn r.cells r.trail m n 32 (va ∷ []) (written_in t.program ts + 6)
    w1 = writes_terms t plays.has 3500 19000 r.sh r.memory out.typed out.output out.drawn r.cells r.trail m r.holds r.mid routine.body (omega arith) (omega arith) rest 32 ts (omega arith) (omega arith) (λ q. (omega arith)) e.nodes room

    abbrev x1 : ℕ
    x1 = w1.cells' 16

    abbrev es : List Print
    es = term_pieces t.program m a

    -- static memory is the story's behind the term
    kept : IsKept t.p.world.layout.base t.story w1.memory'
    kept =
        let high = plays.has.mapped.room in
        runs_keep t.p t.story r.holds.globals (omega arith) (w1.runs (Rests rest) (now w1.memory') 0 rests) r.kept

    -- no variable of the next number stands in the value
    absent : contains m.state.vars (resolved S va) ≡ false
    absent = subst (λ (i : ℕ). contains i (resolved S va) ≡ false) w1.mid.state.vars (next_absent w1.cells' S w1.mid.state.stands w1.mid.state.known w1.words.0)

    turn : PrintsPieces t.p 3360 13440 PRINT_VALUE_ACTS PRINT_VALUE_ACTS w1.memory' (x1 ∷ t.p.names.routine words ∷ t.p.names.routine objects ∷ 0 ∷ []) out.typed out.output out.drawn w1.cells' met (pieces t.program (resolved S va)) (200 * looks S m.state.vars va) → Comes t (all_printed met es out) y (more n m) (print_most t.program met a m) z
    turn k =
        let high = plays.has.mapped.room in
        let few1 = w1.few in
        let few2 = k.few in
        let many = steps_are w1.count (suc k.count + 1) in
        let one = register t.p (now w1.memory') w1.cells' 32 w1.holds (omega arith) (omega arith) (omega arith) in
        let text = out.output ++ render_from met es in
        let end_state : State = state k.memory' [] out.typed out.drawn text in
        let mid = mid_met t w1.sh' w1.cells' k.cells' r.trail (more n m) (met_from met es) (λ i n0 n28 n30 n31 n32 n33 kept. k.others i n28 n30 n31 n32 n33) k.meets w1.mid in
        moves_to t plays out e.x m z r routine e.there (omega arith) (all_printed met es out) y (steps w1.count (suc k.count + 1)) (print_most t.program met a m) k.memory' [] k.cells' w1.sh' r.trail (more n m)
        (w1.runs (Returns y) end_state (suc k.count + 1)
        (calls {f' = 3360} {w' = 13440} {n = k.count} {n' = 1} {xs = (x1, t.p.names.routine words, t.p.names.routine objects)} {s1 = state k.memory' k.locals' out.typed out.drawn text} {s2 = end_state} refl (rw one refl) (print_value_at t.p plays.has) (omega arith) (omega arith) k.runs refl (returns refl)))
        k.holds (plays.words behind) mid (omega arith)

    prints : Comes t (all_printed met es out) y (more n m) (print_most t.program met a m) z
    prints =
        turn (print_works t.p plays.has t.story t.program (t.p.names.routine words) (t.p.names.routine objects) spells w1.memory' out.typed out.output out.drawn w1.sh' w1.mid.state.shape w1.cells' w1.holds kept S w1.mid.state.stands x1 va w1.words.0 m.state.vars absent met (meets_here out.words w1.cells' met w1.mid.rest.outside meets))

pub print_turns : PrintTurns
print_turns = record {
  prints = λ t plays out a words objects behind m z met spells e room meets. prints t plays out a words objects behind m z e room met meets spells;
  meets = λ t plays out a words objects behind m z e over. no_room t plays out a words objects behind m z e over;
}
