-- An inner construct or a stoppable part is left: one turn of the story.
use Rattle.std.proofs.Common.{◌≡◌, ◌≢◌, ℕ, suc, ◌+◌, ◌*◌, ◌<◌, ◌≤◌, List, [], ◌∷◌, inl, inr, refl, sym, ap, ◌∙◌, subst, arith}
use Rattle.std.proofs.lemmas.Bool.{cases_eq}
use Rattle.dg_mid.specs.Step.{cut_to}
use Rattle.dg_mid.specs.Units.{dropped}
use Rattle.dg_mid.specs.Heights.{AgreeAll}
use Rattle.dg_mid.specs.State.{Place, Mid}
use Rattle.z_lang.specs.declared.act.Atom.TheVariants as atoms
use Rattle.z_lang.specs.declared.act.Function.TheVariants as functions
use Rattle.z_lang.specs.Runs.{ActsRun, Returns, done, calls, returns}
use Rattle.dg_rt.specs.declared.numbers.TheConstants.{FAIL}
use Rattle.dg_rt.specs.declared.choices.TheConstants.{COMMIT_ACTS}
use Rattle.dg_rt.specs.Cells.{with_cell, replaced, Holds}
use Rattle.dg_rt.specs.Areas.{heap_at, state}
use Rattle.dg_rt.specs.Back.{at_place}
use Rattle.dg_rt.specs.RunTime.{HasRunTime}
use Rattle.dg_rt.specs.Shapes.{Shape, Cell}
use Rattle.dg_rt.proofs.Cells.{reads_cell, other_cell, same_cell}
use Rattle.dg_rt.proofs.Following.{word as word_is, computes, register, puts}
use Rattle.dg_rt.proofs.Cutting.{commit_works}
use Rattle.dg_turn.specs.Told.{Telling}
use Rattle.dg_turn.specs.Lies.{StopNamed, FramesIn, InnersIn, MidIn}
use Rattle.dg_turn.specs.Rest.{gather_words}
use Rattle.dg_turn.specs.Turns.{commit_routine, CommitTurns}
use Rattle.dg_turn.specs.Stopping.{leave_routine, LeaveTurns, RefuseTurns}
use Rattle.dg_turn.proofs.Standing.{commit_at}
use Rattle.dg_turn.proofs.Staying.{mid_parts, mid_with}
use Rattle.dg_turn.proofs.Cutting.{places_of, chained, fallen_is, cut_in}
use Rattle.dg_turn.proofs.Moving.{moves}

-- Where the newest inner construct was left: memory stands for the machine without it and without the choices inside.
record Left (t : Telling) (outer : ℕ → ℕ) (memory typed output : List ℕ) (drawn : ℕ) (sh : Shape) (trail : List ℕ) (place : Place) (ps : List Place) (m : Mid) : Type 0 where
  memory' : List ℕ
  cells' : ℕ → ℕ
  holds : Holds t.p.world.layout memory' cells'
  mid : MidIn t outer sh cells' trail (cut_to place (record m { inner = ps }))
  count : ℕ
  few : count ≤ 4 * dropped place m.choices + 8
  runs : ActsRun t.p 3000 18000 COMMIT_ACTS COMMIT_ACTS (state memory (0 ∷ []) typed drawn output) (Returns 0) (state memory' (at_place place.height ∷ []) typed drawn output) count

left : (t : Telling) {outer : ℕ → ℕ} → HasRunTime t.p → (memory typed output : List ℕ) (drawn : ℕ) (sh : Shape) (c : ℕ → ℕ) (trail : List ℕ) (place : Place) (ps : List Place) (m : Mid) → Holds t.p.world.layout memory c → MidIn t outer sh c trail m → InnersIn sh m.stops (c 6) (place ∷ ps) → AgreeAll m.choices place →
    Left t outer memory typed output drawn sh trail place ps m
left t has memory typed output drawn sh c trail place ps m holds mid inner agrees =
    let below = inner.below in
    let top = mid.state.heap in
    let few = mid.state.few in
    let at : (k y : ℕ) → Cell sh k y → c (heap_at + k) ≡ y = λ k y cell. mid.state.stands.fixed k (let low = cell.fixed.0 in omega arith) cell.fixed ∙ cell.is in
    let chain = chained t sh c trail (gather_words m.gathered) mid.hb (omega arith) at (c 5) m.choices mid.choices mid.under in
    let k = commit_works t.p has 3000 18000 (omega arith) (omega arith) memory typed output drawn place.height (omega arith) c holds inner.word_is (places_of m.choices) chain in
    let l_is : c (heap_at + (place.height + 3)) ≡ inner.l = at (place.height + 3) inner.l inner.l_is in
    let c1 = replaced c 6 inner.l in
    let mid1 = mid_with t sh c c1 trail m m.frames ps (λ j n0 n4 n6 far. other_cell c 6 inner.l j n6) (subst (λ (y : ℕ). FramesIn t sh m.stops y m.frames) (sym (other_cell c 6 inner.l 4 (λ e. (omega arith)))) mid.frames) (subst (λ (y : ℕ). InnersIn sh m.stops y ps) (sym (same_cell c 6 inner.l)) inner.around_is) mid in
    let same : (j : ℕ) → j ≢ 5 → k.cells' j ≡ c1 j = λ j n5. by_six c k.cells' inner.l (λ i n5' n6. k.others i n5' n6) (k.inner ∙ l_is) j n5 in
    let fallen = fallen_is place m.choices agrees in
    let few' = k.few in
    record {
      memory' = k.memory';
      cells' = k.cells';
      holds = k.holds;
      mid = cut_in t sh c1 k.cells' trail (record m { inner = ps }) place agrees same mid1 k.chain;
      count = k.count;
      few = omega arith;
      runs = k.runs;
    }
  where
    by_six : (c c' : ℕ → ℕ) (l : ℕ) → ((i : ℕ) → i ≢ 5 → i ≢ 6 → c' i ≡ c i) → c' 6 ≡ l → (j : ℕ) → j ≢ 5 → c' j ≡ replaced c 6 l j
    by_six c c' l others six j n5 = elim (cases_eq j 6) [
      | inl q ↦ subst (λ (i : ℕ). c' i ≡ replaced c 6 l i) (sym q) (six ∙ sym (same_cell c 6 l))
      | inr n6 ↦ others j n5 n6 ∙ sym (other_cell c 6 l j n6)
    ]

pub commit_turns : CommitTurns
commit_turns t plays out x m z place ps behind there e agrees r =
    let inner : InnersIn r.sh m.stops (r.cells 6) (place ∷ ps) = subst (InnersIn r.sh m.stops (r.cells 6)) e r.mid.inner in
    let k = left t plays.has r.memory out.typed out.output out.drawn r.sh r.cells r.trail place ps m r.holds r.mid inner agrees in
    let few = k.few in
    moves t plays out x m z r (commit_routine behind) there (omega arith) (t.p.names.routine behind) (suc k.count + 1) (4 * dropped place m.choices + 15) k.memory' [] k.cells' r.sh r.trail (cut_to place (record m { inner = ps }))
    (calls {f' = 3000} {w' = 18000} {n = k.count} {n' = 1} {xs = (0, 0, 0)} {s2 = state k.memory' [] out.typed out.drawn out.output} refl refl (commit_at t.p plays.has) (omega arith) (omega arith) k.runs refl (returns refl))
    k.holds (plays.words behind) k.mid (omega arith)

pub refuse_turns : RefuseTurns
refuse_turns t plays out x m z place ps there e agrees r = commit_turns t plays out x m z place ps FAIL there e agrees r

-- The stoppable part around is read from the cells of the inner construct first.
pub leave_turns : LeaveTurns
leave_turns t plays out x m z place ps behind there e agrees r =
    let high = plays.has.mapped.room in
    let c = r.cells in
    let inner : InnersIn r.sh m.stops (c 6) (place ∷ ps) = subst (InnersIn r.sh m.stops (c 6)) e r.mid.inner in
    let below = inner.below in
    let top = r.mid.state.heap in
    let fits = r.mid.state.few in
    let there_is : c (heap_at + (place.height + 4)) ≡ inner.stop = r.mid.state.stands.fixed (place.height + 4) (omega arith) inner.stop_is.fixed ∙ inner.stop_is.is in
    let small : inner.stop < 65536 = subst (λ (n : ℕ). n < 65536) there_is (r.holds.words (heap_at + (place.height + 4))) in
    let s0 = state r.memory [] out.typed out.drawn out.output in
    let put = puts t.p s0 c 23 inner.stop r.holds (omega arith) (omega arith) (omega arith) small in
    let memory1 = with_cell r.memory 7 inner.stop in
    let c1 = replaced c 7 inner.stop in
    let m1 = record m { stop = place.outer } in
    let low : (j : ℕ) → j ≢ 7 → c1 j ≡ c j = λ j ne. other_cell c 7 inner.stop j ne in
    let mid1 : MidIn t out.words r.sh c1 r.trail m1 = mid_parts t r.sh c c1 r.trail m m.frames m.inner place.outer (λ j n0 n4 n6 n7 far. low j n7)
    (subst (λ (y : ℕ). FramesIn t r.sh m.stops y m.frames) (sym (low 4 (λ q. (omega arith)))) r.mid.frames)
    (subst (λ (y : ℕ). InnersIn r.sh m.stops y m.inner) (sym (low 6 (λ q. (omega arith)))) r.mid.inner)
    (subst (λ (y : ℕ). StopNamed y place.outer m.stops) (sym (same_cell c 7 inner.stop)) inner.outer_is) r.mid in
    let inner1 : InnersIn r.sh m.stops (c1 6) (place ∷ ps) = subst (λ (y : ℕ). InnersIn r.sh m.stops y (place ∷ ps)) (sym (low 6 (λ q. (omega arith)))) inner in
    let k = left t plays.has memory1 out.typed out.output out.drawn r.sh c1 r.trail place ps m1 put.holds mid1 inner1 agrees in
    let few = k.few in
    let s1 = state memory1 [] out.typed out.drawn out.output in
    moves t plays out x m z r (leave_routine behind) there (omega arith) (t.p.names.routine behind) (suc (suc k.count + 1)) (4 * dropped place m.choices + 16) k.memory' [] k.cells' r.sh r.trail (cut_to place (record m { inner = ps; stop = place.outer }))
    (done (computes t.p s0 s1 23 functions.Word (atoms.Num 678) (atoms.Var 22) 678 (at_place place.height) inner.stop refl (register t.p s0 c 22 r.holds (omega arith) (omega arith) (omega arith) ∙ ap word_is inner.word_is)
    (reads_cell t.p.world.layout r.memory c 678 (at_place place.height) (heap_at + (place.height + 4)) r.holds (omega arith) (omega arith) ∙ ap word_is there_is) put.put_is)
    (calls {f' = 3000} {w' = 18000} {n = k.count} {n' = 1} {xs = (0, 0, 0)} {s2 = state k.memory' [] out.typed out.drawn out.output} refl refl (commit_at t.p plays.has) (omega arith) (omega arith) k.runs refl (returns refl)))
    k.holds (plays.words behind) k.mid (omega arith)
