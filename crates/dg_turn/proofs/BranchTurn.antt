-- A choice of a block is opened: one turn of the story.
use Rattle.std.proofs.Common.{◌≡◌, ℕ, suc, ◌+◌, ◌<◌, ◌≤◌, [], ◌∷◌, refl, sym, ap, ◌∙◌, subst, arith}
use Rattle.dg_base.specs.declared.run.Ending.TheVariants.{HeapLimit}
use Rattle.dg_mid.specs.State.{Goes, Mid, place_of}
use Rattle.dg_mid.specs.Step.{inside, within}
use Rattle.z_model.specs.Run.{ZState}
use Rattle.z_lang.specs.declared.act.Routine.{Routine}
use Rattle.z_lang.specs.Runs.{calls, calls_last, returns}
use Rattle.dg_rt.specs.Cells.{with_cell, replaced}
use Rattle.dg_rt.specs.Areas.{trail_at, state}
use Rattle.dg_rt.specs.Shapes.{Cell}
use Rattle.dg_rt.specs.Back.{at_place}
use Rattle.dg_rt.specs.Closings.{closing_most}
use Rattle.dg_rt.specs.Choices.{Opens}
use Rattle.dg_rt.proofs.Cells.{other_cell, same_cell}
use Rattle.dg_rt.proofs.Following.{puts}
use Rattle.dg_rt.proofs.Opening.{open_works}
use Rattle.dg_turn.specs.Told.{Telling}
use Rattle.dg_turn.specs.Lies.{FramesIn, InnersIn}
use Rattle.dg_turn.specs.Plays.{Playing, Outside, Represented, Comes, Closes}
use Rattle.dg_turn.specs.Choices.{branch_routine, try_routine, OpensAt, BranchTurns}
use Rattle.dg_turn.proofs.Standing.{open_at}
use Rattle.dg_turn.proofs.Growing.{grown_inner}
use Rattle.dg_turn.proofs.Staying.{mid_with}
use Rattle.dg_turn.proofs.Opening.{Opened, opened_in}
use Rattle.dg_turn.proofs.Moving.{moves, closes}

-- what a choice's ninth cell has: nothing, or that nothing is gathered
zero_small : 0 < 65536
zero_small = omega arith

pub none_small : 65535 < 65536
none_small = omega arith

module _ (t : Telling) (plays : Playing t) (out : Outside) (gathers : ℕ) (small : gathers < 65536) (routine : ℕ → ℕ → Routine) (block behind : ℕ) (m : Mid) (z : ZState) (o : OpensAt t out routine block behind m z) where
  abbrev r : Represented t out o.x m z
  r = o.rep

  module _ (room : m.state.heap + 10 ≤ 10000) where
    pub opening : Opens t.p 3000 18000 r.memory out.typed out.output out.drawn (t.p.names.routine o.alt) 0 gathers r.cells r.sh.top
    opening =
        let heap_is = r.mid.state.heap in
        open_works.opens t.p plays.has 3000 18000 r.memory out.typed out.output out.drawn (t.p.names.routine o.alt) 0 gathers r.cells r.sh.top r.holds (r.mid.heap ∙ sym heap_is) (omega arith) (plays.words o.alt) (omega arith) small

    -- memory stands for the machine inside the choice
    pub inside_it : Opened t out.words r.sh opening.cells' r.trail (Goes block) 0 gathers m
    inside_it =
        let k = opening in
        let c = r.cells in
        let heap_is = r.mid.state.heap in
        opened_in t r.sh c k.cells' r.trail m (Goes block) 0 (t.p.names.routine o.alt) 0 gathers 0 [] r.mid (omega arith) refl refl o.alt_is tt (k.heap ∙ omega arith) k.choice k.mark k.row (λ j n0 n2 n3 n5 mid' far. k.others j n3 n5 n2 (λ low. (let q : trail_at ≤ j = far low in omega arith)))

module _ (t : Telling) (plays : Playing t) (out : Outside) (block behind : ℕ) (m : Mid) (z : ZState) where
  branch : (o : OpensAt t out branch_routine block behind m z) → m.state.heap + 10 ≤ 10000 → Comes t out (t.p.names.routine behind) (inside (Goes block) 0 m) 30 z
  branch o room =
      let r = o.rep in
      let k = opening t plays out 0 zero_small branch_routine block behind m z o room in
      let d = inside_it t plays out 0 zero_small branch_routine block behind m z o room in
      moves t plays out o.x m z r (branch_routine o.alt behind) o.there (omega arith) (t.p.names.routine behind) (suc 18 + 1) 30 k.memory' [] k.cells' d.sh' r.trail (inside (Goes block) 0 m)
      (calls {f' = 3000} {w' = 18000} {n = 18} {n' = 1} {xs = (t.p.names.routine o.alt, 0, 0)} {s1 = state k.memory' k.locals' out.typed out.drawn out.output} {s2 = state k.memory' [] out.typed out.drawn out.output} refl refl (open_at t.p plays.has) (omega arith) (omega arith) k.runs refl (returns refl))
      k.holds (plays.words behind) d.mid (omega arith)

  branch_meets : (o : OpensAt t out branch_routine block behind m z) → 10000 < m.state.heap + 10 → Closes t out HeapLimit (10 + closing_most) z
  branch_meets o over =
      let r = o.rep in
      let low = r.mid.state.few in
      let q = open_works.meets t.p plays.has 3000 18000 (omega arith) r.memory out.typed out.output out.drawn (t.p.names.routine o.alt) 0 0 r.cells m.state.heap r.holds r.mid.heap low over in
      let few = q.few in
      closes t plays out o.x m z r (branch_routine o.alt behind) o.there (omega arith) (suc q.count) (10 + closing_most) HeapLimit q.memory' []
      (calls_last {f' = 3000} {w' = 18000} {n = q.count} {xs = (t.p.names.routine o.alt, 0, 0)} refl refl (open_at t.p plays.has) (omega arith) (omega arith) q.runs)
      (omega arith)

  try : (o : OpensAt t out try_routine block behind m z) → m.state.heap + 10 ≤ 10000 → Comes t out (t.p.names.routine behind) (within (place_of m) (inside (Goes block) 0 m)) 30 z
  try o room =
      let r = o.rep in
      let high = plays.has.mapped.room in
      let heap_is = r.mid.state.heap in
      let k = opening t plays out 65535 none_small try_routine block behind m z o room in
      let d = inside_it t plays out 65535 none_small try_routine block behind m z o room in
      let word = at_place r.sh.top in
      let put = puts t.p (state k.memory' [] out.typed out.drawn out.output) k.cells' 22 word k.holds (omega arith) (omega arith) (omega arith) (omega arith) in
      let c2 = replaced k.cells' 6 word in
      let first = d.mid.choices in
      let top' = d.mid.state.heap in
      let heights : word ≡ at_place m.state.heap = ap at_place heap_is in
      let three : suc (suc (suc m.state.heap)) ≡ m.state.heap + 3 = omega arith in
      let four : suc (suc (suc (suc m.state.heap))) ≡ m.state.heap + 4 = omega arith in
      let eight : suc (suc (suc (suc (suc (suc (suc (suc m.state.heap))))))) ≡ m.state.heap + 8 = omega arith in
      let inner : InnersIn d.sh' m.stops (c2 6) (place_of m ∷ m.inner) = record {
        word_is = same_cell k.cells' 6 word ∙ heights;
        below = omega arith;
        l = first.l;
        l_is = subst (λ (i : ℕ). Cell d.sh' i first.l) three first.cells_are.1.1.1.0;
        stop = first.stop;
        stop_is = subst (λ (i : ℕ). Cell d.sh' i first.stop) four first.cells_are.1.1.1.1.0;
        outer_is = first.stop_is;
        value = first.many;
        value_is = subst (λ (i : ℕ). Cell d.sh' i first.many) eight first.cells_are.1.1.1.1.1.1.1.1.0;
        gathers_is = d.many_is;
        around_is = grown_inner first.back.grown m.stops first.l m.inner first.inner;
      } in
      let frames : FramesIn t d.sh' m.stops (c2 4) m.frames = subst (λ (w : ℕ). FramesIn t d.sh' m.stops w m.frames) (sym (other_cell k.cells' 6 word 4 (λ e. (omega arith)))) d.mid.frames in
      let mid2 = mid_with t d.sh' k.cells' c2 r.trail (inside (Goes block) 0 m) m.frames (place_of m ∷ m.inner) (λ j n0 n4 n6 far. other_cell k.cells' 6 word j n6) frames inner d.mid in
      moves t plays out o.x m z r (try_routine o.alt behind) o.there (omega arith) (t.p.names.routine behind) (suc 18 + 1) 30 (with_cell k.memory' 6 word) [] c2 d.sh' r.trail (within (place_of m) (inside (Goes block) 0 m))
      (calls {f' = 3000} {w' = 18000} {n = 18} {n' = 1} {xs = (t.p.names.routine o.alt, 0, 65535)} {s1 = state k.memory' k.locals' out.typed out.drawn out.output} {s2 = state (with_cell k.memory' 6 word) [] out.typed out.drawn out.output} refl refl (open_at t.p plays.has) (omega arith) (omega arith) k.runs put.put_is (returns refl))
      put.holds (plays.words behind) mid2 (omega arith)

  try_meets : (o : OpensAt t out try_routine block behind m z) → 10000 < m.state.heap + 10 → Closes t out HeapLimit (10 + closing_most) z
  try_meets o over =
      let r = o.rep in
      let low = r.mid.state.few in
      let q = open_works.meets t.p plays.has 3000 18000 (omega arith) r.memory out.typed out.output out.drawn (t.p.names.routine o.alt) 0 65535 r.cells m.state.heap r.holds r.mid.heap low over in
      let few = q.few in
      closes t plays out o.x m z r (try_routine o.alt behind) o.there (omega arith) (suc q.count) (10 + closing_most) HeapLimit q.memory' []
      (calls_last {f' = 3000} {w' = 18000} {n = q.count} {xs = (t.p.names.routine o.alt, 0, 65535)} refl refl (open_at t.p plays.has) (omega arith) (omega arith) q.runs)
      (omega arith)

pub branch_turns : BranchTurns
branch_turns = record {
  branches = λ t plays out block behind m z o room. branch t plays out block behind m z o room;
  tries = λ t plays out block behind m z o room. try t plays out block behind m z o room;
  branch_meets = λ t plays out block behind m z o over. branch_meets t plays out block behind m z o over;
  try_meets = λ t plays out block behind m z o over. try_meets t plays out block behind m z o over;
}
