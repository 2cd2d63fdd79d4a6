-- The cells of the newest frame are read, and choices are cut to its place.
use Rattle.std.proofs.Common.{◌≡◌, ◌≢◌, ℕ, suc, ◌+◌, ◌-◌, ◌*◌, ◌<◌, ◌≤◌, List, [], ◌∷◌, None, refl, sym, ap, ◌∙◌, subst, arith}
use Rattle.dg_mid.specs.State.{Frame, Mid}
use Rattle.dg_mid.specs.Step.{cut_to}
use Rattle.dg_mid.specs.Units.{dropped}
use Rattle.dg_mid.specs.Heights.{IsNamed}
use Rattle.z_lang.specs.declared.act.Act.{Act}
use Rattle.z_lang.specs.declared.act.Act.TheVariants as acts
use Rattle.z_lang.specs.declared.act.Args.TheVariants as args
use Rattle.z_lang.specs.declared.act.Atom.TheVariants as atoms
use Rattle.z_lang.specs.declared.act.Function.TheVariants as functions
use Rattle.z_lang.specs.State.{State}
use Rattle.z_lang.specs.Runs.{ActsRun, ActsOutcome, done, calls}
use Rattle.dg_rt.specs.Cells.{with_cell, replaced, Holds}
use Rattle.dg_rt.specs.Areas.{heap_at, state}
use Rattle.dg_rt.specs.Shapes.{Shape, Cell}
use Rattle.dg_rt.specs.Back.{at_place}
use Rattle.dg_rt.specs.RunTime.{HasRunTime}
use Rattle.dg_rt.proofs.Cells.{reads_cell, other_cell, same_cell}
use Rattle.dg_rt.proofs.Cutting.{cut_works}
use Rattle.dg_rt.proofs.Following.{word as word_is, computes, register, puts}
use Rattle.dg_rt.proofs.Standing.{cut_at}
use Rattle.dg_turn.specs.Told.{Telling}
use Rattle.dg_turn.specs.Lies.{FramesIn, MidIn}
use Rattle.dg_turn.specs.Rest.{gather_words}
use Rattle.dg_turn.specs.Leaving.{field_act}
use Rattle.dg_turn.proofs.Staying.{mid_same}
use Rattle.dg_turn.proofs.Cutting.{places_of, chained, fallen_is, cut_in}

module _ (t : Telling) {outer : ℕ → ℕ} (has : HasRunTime t.p) (ff ww : ℕ) (typed output : List ℕ) (drawn : ℕ) (sh : Shape) (begun : ℕ → ℕ) (trail : List ℕ) (m : Mid) (start : MidIn t outer sh begun trail m) (f : Frame) (fs : List Frame) (h : FramesIn t sh m.stops (begun 4) (f ∷ fs)) where
  abbrev pub now : List ℕ → State
  now memory = state memory [] typed drawn output

  abbrev pub at : ℕ
  at = h.at

  -- ## Cells of the frame

  -- memory in which the frame is the newest, and the heap is as it was
  pub record Framed (memory : List ℕ) (c : ℕ → ℕ) : Type 0 where
    pub holds : Holds t.p.world.layout memory c
    pub frame : c 4 ≡ at_place at
    pub heap : (k : ℕ) → c (heap_at + k) ≡ begun (heap_at + k)

  pub cell_word : (k y : ℕ) → Cell sh k y → begun (heap_at + k) ≡ y
  cell_word k y cell = let low = cell.fixed.0 in let top = start.state.heap in let fits = start.state.few in start.state.stands.fixed k (omega arith) cell.fixed ∙ cell.is

  -- one of them is put into a register
  pub record Reads (body rest : List Act) (v i y : ℕ) (memory : List ℕ) (c : ℕ → ℕ) : Type 0 where
    pub holds : Holds t.p.world.layout (with_cell memory (v - 16) y) (replaced c (v - 16) y)
    pub runs : (o : ActsOutcome) (s' : State) (k : ℕ) → ActsRun t.p ff ww body rest (now (with_cell memory (v - 16) y)) o s' k → ActsRun t.p ff ww body (field_act v i ∷ rest) (now memory) o s' (suc k)

  pub reads : (body rest : List Act) (v i y : ℕ) (memory : List ℕ) (c : ℕ → ℕ) → Framed memory c → 16 ≤ v → v < 240 → i < 6 → Cell sh (at + i) y → Reads body rest v i y memory c
  reads body rest v i y memory c b low lt few cell =
      let high = has.mapped.room in
      let below = h.below in
      let top = start.state.heap in
      let fits = start.state.few in
      let there : c (heap_at + (at + i)) ≡ y = b.heap (at + i) ∙ cell_word (at + i) y cell in
      let small : y < 65536 = subst (λ (n : ℕ). n < 65536) there (b.holds.words (heap_at + (at + i))) in
      let put = puts t.p (now memory) c v y b.holds (omega arith) low lt small in
      record {
        holds = put.holds;
        runs = λ o s' k rest'. done (computes t.p (now memory) (now (with_cell memory (v - 16) y)) v functions.Word (atoms.Num (670 + 2 * i)) (atoms.Var 20) (670 + 2 * i) (at_place at) y refl (register t.p (now memory) c 20 b.holds (omega arith) (omega arith) (omega arith) ∙ ap word_is b.frame)
            (reads_cell t.p.world.layout memory c (670 + 2 * i) (at_place at) (heap_at + (at + i)) b.holds (omega arith) (omega arith) ∙ ap word_is there) put.put_is) rest';
      }

  -- a register of no frame's is given a word
  pub framed_with : (memory : List ℕ) (c : ℕ → ℕ) (j y : ℕ) → Framed memory c → j ≢ 4 → j < 303 → Holds t.p.world.layout (with_cell memory j y) (replaced c j y) → Framed (with_cell memory j y) (replaced c j y)
  framed_with memory c j y b n4 lt holds = record {
    holds = holds;
    frame = other_cell c j y 4 (λ (e : 4 ≡ j). n4 (sym e)) ∙ b.frame;
    heap = λ k. other_cell c j y (heap_at + k) (λ (e : heap_at + k ≡ j). (omega arith)) ∙ b.heap k;
  }

  -- ## Cutting

  -- Choices were cut to the place that the frame keeps.
  pub record CutsTo (body rest all : List Act) (memory : List ℕ) (m' : Mid) : Type 0 where
    pub memory' : List ℕ
    pub cells' : ℕ → ℕ
    pub framed : Framed memory' cells'
    pub mid : MidIn t outer sh cells' trail (cut_to f.cut m')
    pub count : ℕ
    pub few : count ≤ 4 * dropped f.cut m'.choices + 5
    pub runs : (o : ActsOutcome) (s' : State) (k : ℕ) → ActsRun t.p ff ww body rest (now memory') o s' k → ActsRun t.p ff ww body all (now memory) o s' (count + k)

  pub cuts : 0 < ff → 1 ≤ ww → (body rest : List Act) (memory : List ℕ) (c : ℕ → ℕ) → Framed memory c → MidIn t outer sh c trail m → IsNamed m.next_tag m.state.heap m.choices f.cut → CutsTo body rest (field_act 52 2 ∷ acts.Call None (atoms.Routine 19) (args.One (atoms.Var 52)) ∷ rest) memory m
  cuts some enough body rest memory c b mid is_named =
      let high = has.mapped.room in
      let call_on = acts.Call None (atoms.Routine 19) (args.One (atoms.Var 52)) ∷ rest in
      let to = at_place f.cut.height in
      let q = reads body call_on 52 2 to memory c b (omega arith) (omega arith) (omega arith) h.cut in
      let memory1 = with_cell memory 36 to in
      let c1 = replaced c 36 to in
      let b1 = framed_with memory c 36 to b (λ e. (omega arith)) (omega arith) q.holds in
      let mid1 = mid_same t sh c c1 trail m (λ j ne far. other_cell c 36 to j (λ (e : j ≡ 36). (let y : 302 < j = far.1 (omega arith) in omega arith))) mid in
      let s = mid1.state in
      let top = s.heap in
      let few_cells = s.few in
      let small : to < 65536 = subst (λ (n : ℕ). n < 65536) (same_cell c 36 to) (q.holds.words 36) in
      let at_cells : (k y : ℕ) → Cell sh k y → c1 (heap_at + k) ≡ y = λ k y cell. s.stands.fixed k (let low = cell.fixed.0 in omega arith) cell.fixed ∙ cell.is in
      let chain = chained t sh c1 trail (gather_words m.gathered) mid1.hb (omega arith) at_cells (c1 5) m.choices mid1.choices mid1.under in
      let k = cut_works t.p has.mapped 0 0 memory1 typed output drawn f.cut.height (let low = is_named.height in omega arith) c1 b1.holds (places_of m.choices) chain in
      let fallen = fallen_is f.cut m.choices is_named.agrees in
      let few = k.few in
      record {
        memory' = k.memory';
        cells' = k.cells';
        framed = record { holds = k.holds; frame = k.others 4 (λ e. (omega arith)) ∙ b1.frame; heap = λ j. k.others (heap_at + j) (λ e. (omega arith)) ∙ b1.heap j };
        mid = cut_in t sh c1 k.cells' trail m f.cut is_named.agrees k.others mid1 k.chain;
        count = suc (suc k.count);
        few = omega arith;
        runs = λ o s' n rest'. subst (ActsRun t.p ff ww body (field_act 52 2 ∷ call_on) (now memory) o s') (let sum : suc (suc k.count + n) ≡ suc (suc k.count) + n = omega arith in sum)
            (q.runs o s' (suc k.count + n) (calls {f' = 0} {w' = 0} {n = k.count} {n' = n} {xs = (to, 0, 0)} {s2 = now k.memory'} refl (rw (register t.p (now memory1) c1 52 b1.holds (omega arith) (omega arith) (omega arith), same_cell c 36 to) refl) (cut_at t.p has) (omega arith) (omega arith) k.runs refl rest'));
      }
