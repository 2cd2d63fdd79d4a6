-- A stoppable part is begun: one turn of the story.
use Rattle.std.proofs.Common.{◌≡◌, ℕ, suc, ◌+◌, ◌<◌, ◌≤◌, List, [], ◌∷◌, length, Some, refl, sym, ap, ◌∙◌, subst, arith}
use Rattle.dg_base.specs.declared.run.Ending.TheVariants.{HeapLimit}
use Rattle.dg_mid.specs.State.{Goes, Stop, Mid, place_of}
use Rattle.dg_mid.specs.Step.{inside, new_stop, shielded}
use Rattle.z_model.specs.Run.{ZState}
use Rattle.z_lang.specs.declared.act.Atom.TheVariants as atoms
use Rattle.z_lang.specs.Runs.{calls, calls_last, done, returns}
use Rattle.dg_rt.specs.Cells.{with_cell, replaced}
use Rattle.dg_rt.specs.Areas.{state}
use Rattle.dg_rt.specs.Shapes.{Shape, Cell}
use Rattle.dg_rt.specs.Back.{at_place}
use Rattle.dg_rt.specs.Choices.{Opens}
use Rattle.dg_rt.specs.Closings.{closing_most}
use Rattle.dg_rt.proofs.Cells.{other_cell, same_cell}
use Rattle.dg_rt.proofs.Following.{word as word_is, copies, register, puts}
use Rattle.dg_rt.proofs.Opening.{open_works}
use Rattle.dg_turn.specs.Told.{Telling}
use Rattle.dg_turn.specs.Lies.{StopNamed, FramesIn, InnersIn, StopsIn, EndsBefore, MidIn}
use Rattle.dg_turn.specs.Rest.{gather_words}
use Rattle.dg_turn.specs.Plays.{Playing, Outside, Represented, Comes, Closes}
use Rattle.dg_turn.specs.Choices.{OpensAt}
use Rattle.dg_turn.specs.Stopping.{shield_routine, ShieldTurns}
use Rattle.dg_turn.proofs.Standing.{open_at}
use Rattle.dg_turn.proofs.Resting.{length_words}
use Rattle.dg_turn.proofs.Growing.{grown_inner, pushed_stop, pushed_inner, pushed_frames, ends_below}
use Rattle.dg_turn.proofs.Staying.{mid_parts}
use Rattle.dg_turn.proofs.Opening.{Opened}
use Rattle.dg_turn.proofs.BranchTurn.{none_small, opening, inside_it}
use Rattle.dg_turn.proofs.Moving.{moves, closes}

-- The innermost part is one more, which lies in memory.
mid_pushed : (t : Telling) {outer : ℕ → ℕ} (sh : Shape) (cells : ℕ → ℕ) (trail : List ℕ) (m : Mid) (s : Stop) → (h : MidIn t outer sh cells trail m) → (i : StopsIn t sh cells trail (gather_words m.gathered) (s ∷ m.stops)) → i.saved.sh.top ≤ h.hb → EndsBefore s.place.height s.height m.choices → MidIn t outer sh cells trail (record m { stops = s ∷ m.stops })
mid_pushed t sh cells trail m s h i under ends = record {
  heap = h.heap;
  height = h.height;
  state = h.state;
  on_trail = h.on_trail;
  frames = pushed_frames t sh s m.stops (cells 4) m.frames h.frames;
  choices = h.choices;
  hb = h.hb;
  mark = h.mark;
  marked = h.marked;
  under = h.under;
  inner = pushed_inner sh s m.stops (cells 6) m.inner h.inner;
  stop = pushed_stop s m.stops (cells 7) m.stop h.stop;
  stops = i;
  stops_under = under;
  apart = (ends, h.apart);
  rest = h.rest;
}

module _ (t : Telling) (plays : Playing t) (out : Outside) (block behind : ℕ) (m : Mid) (z : ZState) (o : OpensAt t out shield_routine block behind m z) where
  abbrev r : Represented t out o.x m z
  r = o.rep

  abbrev s : Stop
  s = new_stop block m

  abbrev ss : List Stop
  ss = s ∷ m.stops

  abbrev in_choice : Mid
  in_choice = inside (Goes block) 0 m

  module _ (room : m.state.heap + 10 ≤ 10000) where
    abbrev k : Opens t.p 3000 18000 r.memory out.typed out.output out.drawn (t.p.names.routine o.alt) 0 65535 r.cells r.sh.top
    k = opening t plays out 65535 none_small shield_routine block behind m z o room

    abbrev d : Opened t out.words r.sh k.cells' r.trail (Goes block) 0 65535 m
    d = inside_it t plays out 65535 none_small shield_routine block behind m z o room

    abbrev word : ℕ
    word = at_place r.sh.top

    abbrev c2 : ℕ → ℕ
    c2 = replaced k.cells' 6 word

    abbrev c3 : ℕ → ℕ
    c3 = replaced c2 7 word

    heights : word ≡ at_place m.state.heap
    heights = ap at_place r.mid.state.heap

    -- it lies in the cells of the choice
    abbrev part_in : StopsIn t d.sh' k.cells' r.trail (gather_words m.gathered) ss
    part_in =
        let first = d.mid.choices in
        let x = first.cells_are in
        let low = x.1.1.1.1.1.1.1.1.1.0.fixed.0 in
        record {
          routine = first.routine;
          e = first.e;
          l = first.l;
          stop = first.stop;
          gather = first.gather;
          cells_are = (x.1.0, (x.1.1.0, (x.1.1.1.0, (x.1.1.1.1.0, (x.1.1.1.1.1.0, (x.1.1.1.1.1.1.0, tt))))));
          below = omega arith;
          block = first.way;
          outer_is = first.stop_is;
          few_open = first.few_open;
          gather_is = first.gather_is;
          saved = first.saved;
          back = first.back;
          boxes = d.boxes;
          state = first.state;
          marked = first.marked;
          frames = first.frames;
          inner = first.inner;
          older_are = first.stops;
        }

    pushed : MidIn t out.words d.sh' k.cells' r.trail (record in_choice { stops = ss })
    pushed =
        let heap_is = r.mid.state.heap in
        let names = length_words m.gathered in
        mid_pushed t d.sh' k.cells' r.trail in_choice s d.mid part_in d.mid.under
        ((λ lt. absurd (omega arith)), ends_below t r.sh r.cells r.trail (gather_words m.gathered) (r.cells 5) m.choices m.state.heap (length m.gathered) r.mid.choices (omega arith) (omega arith))

    begun : MidIn t out.words d.sh' c3 r.trail (shielded block m)
    begun =
        let first = d.mid.choices in
        let heap_is = r.mid.state.heap in
        let top' = d.mid.state.heap in
        let three : suc (suc (suc m.state.heap)) ≡ m.state.heap + 3 = omega arith in
        let four : suc (suc (suc (suc m.state.heap))) ≡ m.state.heap + 4 = omega arith in
        let eight : suc (suc (suc (suc (suc (suc (suc (suc m.state.heap))))))) ≡ m.state.heap + 8 = omega arith in
        let inner : InnersIn d.sh' m.stops (c3 6) (place_of m ∷ m.inner) = record {
          word_is = other_cell c2 7 word 6 (λ e. (omega arith)) ∙ same_cell k.cells' 6 word ∙ heights;
          below = omega arith;
          l = first.l;
          l_is = subst (λ (i : ℕ). Cell d.sh' i first.l) three first.cells_are.1.1.1.0;
          stop = first.stop;
          stop_is = subst (λ (i : ℕ). Cell d.sh' i first.stop) four first.cells_are.1.1.1.1.0;
          outer_is = first.stop_is;
          value = first.many;
          value_is = subst (λ (i : ℕ). Cell d.sh' i first.many) eight first.cells_are.1.1.1.1.1.1.1.1.0;
          gathers_is = d.many_is;
          around_is = grown_inner first.back.grown m.stops first.l m.inner first.inner;
        } in
        let four_is : c3 4 ≡ k.cells' 4 = other_cell c2 7 word 4 (λ e. (omega arith)) ∙ other_cell k.cells' 6 word 4 (λ e. (omega arith)) in
        let frames : FramesIn t d.sh' ss (c3 4) m.frames = subst (λ (w : ℕ). FramesIn t d.sh' ss w m.frames) (sym four_is) pushed.frames in
        let named : StopNamed (c3 7) (Some m.next_tag) ss = record { within = []; part = s; around = m.stops; is = refl; tag_is = refl; word_is = same_cell c2 7 word ∙ heights } in
        mid_parts t d.sh' k.cells' c3 r.trail (record in_choice { stops = ss }) m.frames (place_of m ∷ m.inner) (Some m.next_tag) (λ j n0 n4 n6 n7 far. other_cell c2 7 word j n7 ∙ other_cell k.cells' 6 word j n6) frames (pushed_inner d.sh' s m.stops (c3 6) (place_of m ∷ m.inner) inner) named pushed

    turn : Comes t out (t.p.names.routine behind) (shielded block m) 30 z
    turn =
        let high = plays.has.mapped.room in
        let heap_is = r.mid.state.heap in
        let put = puts t.p (state k.memory' [] out.typed out.drawn out.output) k.cells' 22 word k.holds (omega arith) (omega arith) (omega arith) (omega arith) in
        let memory2 = with_cell k.memory' 6 word in
        let s2 = state memory2 [] out.typed out.drawn out.output in
        let put2 = puts t.p s2 c2 23 word put.holds (omega arith) (omega arith) (omega arith) (omega arith) in
        let s3 = state (with_cell memory2 7 word) [] out.typed out.drawn out.output in
        moves t plays out o.x m z r (shield_routine o.alt behind) o.there (omega arith) (t.p.names.routine behind) (suc 18 + 2) 30 (with_cell memory2 7 word) [] c3 d.sh' r.trail (shielded block m)
        (calls {f' = 3000} {w' = 18000} {n = 18} {n' = 2} {xs = (t.p.names.routine o.alt, 0, 65535)} {s1 = state k.memory' k.locals' out.typed out.drawn out.output} {s2 = s2} refl refl (open_at t.p plays.has) (omega arith) (omega arith) k.runs put.put_is
        (done (copies t.p s2 s3 23 (atoms.Var 22) word (register t.p s2 c2 22 put.holds (omega arith) (omega arith) (omega arith) ∙ ap word_is (same_cell k.cells' 6 word)) put2.put_is) (returns refl)))
        put2.holds (plays.words behind) begun (omega arith)

  meets : 10000 < m.state.heap + 10 → Closes t out HeapLimit (10 + closing_most) z
  meets over =
      let low = r.mid.state.few in
      let q = open_works.meets t.p plays.has 3000 18000 (omega arith) r.memory out.typed out.output out.drawn (t.p.names.routine o.alt) 0 65535 r.cells m.state.heap r.holds r.mid.heap low over in
      let few = q.few in
      closes t plays out o.x m z r (shield_routine o.alt behind) o.there (omega arith) (suc q.count) (10 + closing_most) HeapLimit q.memory' []
      (calls_last {f' = 3000} {w' = 18000} {n = q.count} {xs = (t.p.names.routine o.alt, 0, 65535)} refl refl (open_at t.p plays.has) (omega arith) (omega arith) q.runs)
      (omega arith)

pub shield_turns : ShieldTurns
shield_turns = record {
  begins = λ t plays out block behind m z o room. turn t plays out block behind m z o room;
  meets = λ t plays out block behind m z o over. meets t plays out block behind m z o over;
}
