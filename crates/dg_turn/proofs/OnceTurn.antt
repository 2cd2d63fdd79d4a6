-- An inner construct without a choice is begun, and code that only goes on: turns of the story.
use Rattle.std.proofs.Common.{◌≡◌, ◌≢◌, ℕ, suc, ◌+◌, ◌<◌, ◌≤◌, [], ◌∷◌, Some, inl, inr, refl, sym, ap, ◌∙◌, subst, arith}
use Rattle.std.proofs.lemmas.Bool.{cases_eq}
use Rattle.dg_base.specs.declared.run.Ending.TheVariants.{HeapLimit}
use Rattle.dg_mid.specs.State.{Mid, place_of}
use Rattle.dg_mid.specs.Step.{more, passed, within}
use Rattle.z_model.specs.Run.{ZState}
use Rattle.z_lang.specs.Runs.{calls, calls_last, returns}
use Rattle.dg_rt.specs.Cells.{replaced}
use Rattle.dg_rt.specs.Areas.{heap_at, trail_at, state}
use Rattle.dg_rt.specs.Shapes.{Cell}
use Rattle.dg_rt.specs.Back.{at_place}
use Rattle.dg_rt.specs.Choices.{OpensInner}
use Rattle.dg_rt.specs.Closings.{closing_most}
use Rattle.dg_rt.proofs.Cells.{other_cell, same_cell}
use Rattle.dg_rt.proofs.InnerOpening.{open_inner_works}
use Rattle.dg_turn.specs.Told.{Telling}
use Rattle.dg_turn.specs.Lies.{FramesIn, InnersIn, StateIn}
use Rattle.dg_turn.specs.Plays.{Playing, Outside, Represented, Comes, Closes}
use Rattle.dg_turn.specs.Turns.{goto_routine, GotoTurns}
use Rattle.dg_turn.specs.Choices.{once_routine, OnceTurns}
use Rattle.dg_turn.proofs.Standing.{open_inner_at}
use Rattle.dg_turn.proofs.Growing.{grown_inner}
use Rattle.dg_turn.proofs.Staying.{high_kept, mid_with, mid_alike}
use Rattle.dg_turn.proofs.Kept.{Beyond}
use Rattle.dg_turn.proofs.Making.{made, made_grown, made_shape, made_stands, made_low, made_known, block_cell}
use Rattle.dg_turn.proofs.Grows.{mid_grown}
use Rattle.dg_turn.proofs.Framing.{Inside}
use Rattle.dg_turn.proofs.Moving.{moves, closes}

pub goto_turns : GotoTurns
goto_turns t plays out x next m z there r = moves t plays out x m z r (goto_routine next) there (omega arith) (t.p.names.routine next) 1 3 r.memory [] r.cells r.sh r.trail m (returns refl) r.holds (plays.words next) r.mid (omega arith)

-- ## An inner construct

-- with the register as it was, nothing in front of the block has changed
beyond_but : (c c' : ℕ → ℕ) (top : ℕ) → top + 10 ≤ 10000 → ((k : ℕ) → k ≢ 3 → k ≢ 6 → (heap_at + top ≤ k → heap_at + (top + 10) ≤ k) → c' k ≡ c k) → Beyond top c (replaced c' 6 (c 6))
beyond_but c c' top room others k n0 n3 mid far = elim (cases_eq k 6) [
  | inl q ↦ subst (λ (i : ℕ). replaced c' 6 (c 6) i ≡ c i) (sym q) (same_cell c' 6 (c 6))
  | inr n6 ↦ other_cell c' 6 (c 6) k n6 ∙ others k n3 n6 (λ low. (let q : trail_at ≤ k = far low in omega arith))
]

module _ (t : Telling) (plays : Playing t) (out : Outside) (x behind : ℕ) (m : Mid) (z : ZState) (there : t.p.routine_at x ≡ Some (once_routine behind)) (room : m.state.heap + 10 ≤ 10000) (r : Represented t out x m z) where
  abbrev top : ℕ
  top = r.sh.top

  abbrev c : ℕ → ℕ
  c = r.cells

  opened : OpensInner t.p 3000 18000 r.memory out.typed out.output out.drawn c top
  opened = let heap_is = r.mid.state.heap in open_inner_works.opens t.p plays.has 3000 18000 r.memory out.typed out.output out.drawn c top r.holds (r.mid.heap ∙ sym heap_is) (omega arith)

  -- memory stands for the machine inside it
  begun : (k : OpensInner t.p 3000 18000 r.memory out.typed out.output out.drawn c top) → Inside t out.words r.sh k.cells' r.trail (within (place_of m) (more 10 (passed m)))
  begun k =
      let s = r.mid.state in
      let heap_is = s.heap in
      let vars_are = s.vars in
      let c2 = replaced k.cells' 6 (c 6) in
      let beyond : Beyond top c c2 = beyond_but c k.cells' top (omega arith) (λ j n3 n6 far. k.others j n3 n6 far) in
      let fits : top + 10 + 0 ≤ 10000 = omega arith in
      let same : (j : ℕ) → j < top → c2 (heap_at + j) ≡ c (heap_at + j) = λ j lt. beyond (heap_at + j) (λ e. (omega arith)) (λ e. (omega arith)) (high_kept (heap_at + j) (omega arith)) (λ q. (omega arith)) in
      let free : (j : ℕ) → j < 0 → c2 (heap_at + (top + 10 + j)) ≡ at_place (top + 10 + j) = λ j none. absurd (omega arith) in
      let s1 = made r.sh c c2 m.state.subst s.shape s.low s.stands s.known 10 0 fits same free in
      let g = made_grown r.sh c c2 m.state.subst s.shape s.low s.stands s.known 10 0 fits same free in
      let state_in : StateIn t s1 c2 r.trail (more 10 m).state = record {
        shape = made_shape r.sh c c2 m.state.subst s.shape s.low s.stands s.known 10 0 fits same free;
        low = made_low r.sh c c2 m.state.subst s.shape s.low s.stands s.known 10 0 fits same free;
        stands = made_stands r.sh c c2 m.state.subst s.shape s.low s.stands s.known 10 0 fits same free;
        known = made_known r.sh c c2 m.state.subst s.shape s.low s.stands s.known 10 0 fits same free;
        heap = omega arith;
        vars = omega arith;
        trail_len = s.trail_len;
        few = room;
        few_trail = s.few_trail;
        told = s.told;
      } in
      let three : c2 3 ≡ m.state.heap + 10 = other_cell k.cells' 6 (c 6) 3 (λ e. (omega arith)) ∙ k.heap ∙ (let h = r.mid.heap in omega arith) in
      let mid1 = mid_grown t r.sh s1 c c2 r.trail m (more 10 m).state g (λ k v e lt. e) (λ n old young. absurd (omega arith)) refl refl three beyond state_in r.mid in
      let cell : (i x : ℕ) → i < 10 → k.cells' (heap_at + (top + i)) ≡ x → Cell s1 (m.state.heap + i) x = λ i x lt is. (
      let b = block_cell r.sh c c2 m.state.subst s.shape s.low s.stands s.known 10 0 fits same free i lt in
      let same_at : top + i ≡ m.state.heap + i = omega arith in
      subst (λ (j : ℕ). Cell s1 j x) same_at (record { fixed = b.fixed; is = b.is ∙ other_cell k.cells' 6 (c 6) (heap_at + (top + i)) (λ e. (omega arith)) ∙ is })) in
      let inner : InnersIn s1 m.stops (k.cells' 6) (place_of m ∷ m.inner) = record {
        word_is = k.inner ∙ ap at_place heap_is;
        below = omega arith;
        l = c 6;
        l_is = cell 3 (c 6) (omega arith) k.around;
        stop = c 7;
        stop_is = cell 4 (c 7) (omega arith) k.stop;
        outer_is = r.mid.stop;
        value = 65535;
        value_is = cell 8 65535 (omega arith) k.gathers;
        gathers_is = refl;
        around_is = grown_inner g m.stops (c 6) m.inner r.mid.inner;
      } in
      let frames : FramesIn t s1 m.stops (k.cells' 4) m.frames = subst (λ (w : ℕ). FramesIn t s1 m.stops w m.frames) (other_cell k.cells' 6 (c 6) 4 (λ e. (omega arith))) mid1.frames in
      let mid2 = mid_with t s1 c2 k.cells' r.trail (more 10 m) m.frames (place_of m ∷ m.inner) (λ j n0 n4 n6 far. sym (other_cell k.cells' 6 (c 6) j n6)) frames inner mid1 in
      record { sh' = s1; grown = g; mid = mid_alike t s1 k.cells' r.trail (within (place_of m) (more 10 m)) m.ops (m.next_tag + 1) m.lasting mid2 }

  turn : Comes t out (t.p.names.routine behind) (within (place_of m) (more 10 (passed m))) 20 z
  turn =
      let k = opened in
      let d = begun k in
      moves t plays out x m z r (once_routine behind) there (omega arith) (t.p.names.routine behind) (suc 9 + 1) 20 k.memory' [] k.cells' d.sh' r.trail (within (place_of m) (more 10 (passed m)))
      (calls {f' = 3000} {w' = 18000} {n = 9} {n' = 1} {xs = (0, 0, 0)} {s1 = state k.memory' k.locals' out.typed out.drawn out.output} {s2 = state k.memory' [] out.typed out.drawn out.output} refl refl (open_inner_at t.p plays.has) (omega arith) (omega arith) k.runs refl (returns refl))
      k.holds (plays.words behind) d.mid (omega arith)

once_meets : (t : Telling) → Playing t → (out : Outside) (x behind : ℕ) (m : Mid) (z : ZState) → t.p.routine_at x ≡ Some (once_routine behind) → 10000 < m.state.heap + 10 → (r : Represented t out x m z) → Closes t out HeapLimit (10 + closing_most) z
once_meets t plays out x behind m z there over r =
    let low = r.mid.state.few in
    let q = open_inner_works.meets t.p plays.has 3000 18000 (omega arith) r.memory out.typed out.output out.drawn r.cells m.state.heap r.holds r.mid.heap low over in
    let few = q.few in
    closes t plays out x m z r (once_routine behind) there (omega arith) (suc q.count) (10 + closing_most) HeapLimit q.memory' []
    (calls_last {f' = 3000} {w' = 18000} {n = q.count} {xs = (0, 0, 0)} refl refl (open_inner_at t.p plays.has) (omega arith) (omega arith) q.runs)
    (omega arith)

pub once_turns : OnceTurns
once_turns = record {
  begins = λ t plays out x behind m z there room r. turn t plays out x behind m z there room r;
  meets = λ t plays out x behind m z there over r. once_meets t plays out x behind m z there over r;
}
