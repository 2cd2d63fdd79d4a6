-- A term's word is put into a register, and a cell is written.
use Rattle.std.proofs.Common.{◌≡◌, ℕ, suc, ◌+◌, ◌-◌, ◌*◌, ◌%◌, ◌<◌, ◌≤◌, List, [], ◌∷◌, refl, sym, ap, ◌∙◌, subst, arith}
use Rattle.dg_base.specs.declared.program.Term.{Term}
use Rattle.dg_base.specs.declared.program.Term.TheOpen as term
use Rattle.dg_base.specs.declared.program.CoreProgram.{CoreProgram}
use Rattle.dg_meaning.specs.Values.{Value, value_of_leaf}
use Rattle.dg_meaning.specs.Cells.{node_cells}
use Rattle.dg_mid.specs.State.{Mid, vars_of}
use Rattle.z_lang.specs.declared.act.Act.{Act}
use Rattle.z_lang.specs.declared.act.Act.TheVariants as acts
use Rattle.z_lang.specs.declared.act.Atom.{Atom}
use Rattle.z_lang.specs.declared.act.Atom.TheVariants as atoms
use Rattle.z_lang.specs.declared.act.Function.TheVariants as functions
use Rattle.z_lang.specs.declared.act.Width.TheVariants as widths
use Rattle.z_lang.specs.State.{State, value}
use Rattle.z_lang.specs.Runs.{ActsRun, ActsOutcome, done, calls, left_with}
use Rattle.dg_rt.specs.inside.Walks.{steps}
use Rattle.dg_rt.specs.Cells.{at_cell, with_cell, replaced, Holds}
use Rattle.dg_rt.specs.Areas.{heap_at, state}
use Rattle.dg_rt.specs.Shapes.{Shape, IsFixed, Shows, number, dict, object as an_object, nil as a_nil}
use Rattle.dg_rt.specs.RunTime.{HasRunTime}
use Rattle.dg_rt.specs.Frames.{VarsAt}
use Rattle.dg_rt.proofs.Cells.{holds_with, writes_cell, other_cell}
use Rattle.dg_rt.proofs.Following.{word as word_is, computes, copies, writes, register, puts}
use Rattle.dg_rt.proofs.Locals.{added}
use Rattle.dg_rt.proofs.Showing.{word_small}
use Rattle.dg_rt.proofs.UnifySteps.{steps_are}
use Rattle.dg_rt.proofs.Variables.{var_works}
use Rattle.dg_turn.specs.Told.{Telling}
use Rattle.dg_turn.specs.Lies.{MidIn}
use Rattle.dg_turn.specs.Terms.{word_act, cell_act, IsTerm}
use Rattle.dg_turn.proofs.Kept.{Beyond, KeptBut, kept_cell, beyond_kept}
use Rattle.dg_turn.proofs.Standing.{var_at}
use Rattle.dg_turn.proofs.Staying.{low_kept, high_kept}
use Rattle.dg_turn.proofs.Environment.{vars_at}

-- The word of a term: what stands for its value, or the place of its cells.
abbrev pub WordOf : CoreProgram → Shape → List Value → ℕ → ℕ → term.Term-F Term → Type 0
WordOf program sh env o w (term.Pair head tail) = w ≡ (49152 + (sh.top + o)) % 65536
WordOf program sh env o w (term.Closure c) = w ≡ (49152 + (sh.top + o)) % 65536
WordOf program sh env o w other = Shows sh w (value_of_leaf program env other)

module _ (t : Telling) {outer : ℕ → ℕ} (has : HasRunTime t.p) (f w : ℕ) (frames_left : 0 < f) (words_left : 8 ≤ w) (sh : Shape) (typed output : List ℕ) (drawn : ℕ) (trail : List ℕ) (m : Mid) (start : ℕ → ℕ) (mid : MidIn t outer sh start trail m) (total : ℕ) (room : sh.top + total ≤ 10000) where
  abbrev pub now : List ℕ → State
  now memory = state memory [] typed drawn output

  abbrev pub env : List Value
  env = vars_of m.frames

  -- Memory while terms are written.
  pub record Begun (memory : List ℕ) (c : ℕ → ℕ) : Type 0 where
    pub holds : Holds t.p.world.layout memory c
    pub beyond : Beyond sh.top start c
    pub at : 0 < total → c 14 ≡ 49152 + sh.top

  -- the variables at hand, and what is no variable's
  pub still : (memory : List ℕ) (c : ℕ → ℕ) → Begun memory c → (k : ℕ) → k < 10000 → IsFixed sh k → c (heap_at + k) ≡ sh.fixed k
  still memory c b k low g = b.beyond (heap_at + k) (λ e. (omega arith)) (λ e. (omega arith)) (high_kept (heap_at + k) (omega arith)) (λ q. (let z : k < sh.top = g.0 in omega arith)) ∙ mid.state.stands.fixed k low g

  pub env_at : (memory : List ℕ) (c : ℕ → ℕ) → Begun memory c → VarsAt sh (c 4) env
  env_at memory c b =
      let four : c 4 ≡ start 4 = b.beyond 4 (λ e. (omega arith)) (λ e. (omega arith)) (low_kept 4 (omega arith)) (λ q. (omega arith)) in
      subst (λ (y : ℕ). VarsAt sh y env) (sym four) (vars_at t sh m.stops (start 4) m.frames mid.frames)

  -- ## Words

  -- A word is put into a register.
  pub record PutWord (body rest : List Act) (v o : ℕ) (x : term.Term-F Term) (memory : List ℕ) : Type 0 where
    pub word : ℕ
    pub is : WordOf t.program sh env o word x
    pub small : word < 65536
    pub count : ℕ
    pub few : count ≤ 16
    pub runs : (out : ActsOutcome) (s' : State) (n : ℕ) → ActsRun t.p f w body rest (now (with_cell memory (v - 16) word)) out s' n → ActsRun t.p f w body (word_act v o x ∷ rest) (now memory) out s' (steps count n)

  copied : (body rest : List Act) (v o y : ℕ) (x : term.Term-F Term) (memory : List ℕ) (c : ℕ → ℕ) → Holds t.p.world.layout memory c → 24 ≤ v → v < 240 → y < 65536 → WordOf t.program sh env o y x → word_act v o x ≡ acts.Copy v (atoms.Num y) → PutWord body rest v o x memory
  copied body rest v o y x memory c h le lt small is e =
      let high = has.mapped.room in
      let put = puts t.p (now memory) c v y h (omega arith) (omega arith) (omega arith) small in
      record {
        word = y;
        is = is;
        small = small;
        count = 1;
        few = omega arith;
        runs = λ out s' n r. subst (λ (a : Act). ActsRun t.p f w body (a ∷ rest) (now memory) out s' (suc n)) (sym e) (done (copies t.p (now memory) (now (with_cell memory (v - 16) y)) v (atoms.Num y) y refl put.put_is) r);
      }

  placed : (body rest : List Act) (v o : ℕ) (x : term.Term-F Term) (memory : List ℕ) (c : ℕ → ℕ) → Begun memory c → 24 ≤ v → v < 240 → 0 < total → WordOf t.program sh env o ((49152 + (sh.top + o)) % 65536) x → word_act v o x ≡ acts.Compute v functions.Add (atoms.Var 30) (atoms.Num o) → PutWord body rest v o x memory
  placed body rest v o x memory c b le lt some is e =
      let high = has.mapped.room in
      let y = (49152 + (sh.top + o)) % 65536 in
      let small : y < 65536 = omega arith in
      let put = puts t.p (now memory) c v y b.holds (omega arith) (omega arith) (omega arith) small in
      let sum : (49152 + sh.top + o) % 65536 ≡ y = omega arith in
      record {
        word = y;
        is = is;
        small = small;
        count = 1;
        few = omega arith;
        runs = λ out s' n r. subst (λ (a : Act). ActsRun t.p f w body (a ∷ rest) (now memory) out s' (suc n)) (sym e)
            (done (computes t.p (now memory) (now (with_cell memory (v - 16) y)) v functions.Add (atoms.Var 30) (atoms.Num o) (49152 + sh.top) o y (register t.p (now memory) c 30 b.holds (omega arith) (omega arith) (omega arith) ∙ ap word_is (b.at some)) refl (added t.p memory (49152 + sh.top) o y sum) put.put_is) r);
      }

  pub put_word : (body rest : List Act) (v o : ℕ) (x : term.Term-F Term) (memory : List ℕ) (c : ℕ → ℕ) → Begun memory c → 24 ≤ v → v < 240 → (0 < node_cells t.program x → 0 < total) → IsTerm x → PutWord body rest v o x memory
  put_word body rest v o (term.Num n) memory c b le lt some is = copied body rest v o n (term.Num n) memory c b.holds le lt (omega arith) (number n is) refl
  put_word body rest v o (term.Word n) memory c b le lt some is = copied body rest v o (16384 + n) (term.Word n) memory c b.holds le lt (omega arith) (dict n is) refl
  put_word body rest v o (term.Object n) memory c b le lt some is = copied body rest v o (24576 + n) (term.Object n) memory c b.holds le lt (omega arith) (an_object n is) refl
  put_word body rest v o term.Nil memory c b le lt some is = copied body rest v o 28672 term.Nil memory c b.holds le lt (omega arith) a_nil refl
  put_word body rest v o (term.Pair head tail) memory c b le lt some is = placed body rest v o (term.Pair head tail) memory c b le lt (some (omega arith)) refl refl
  put_word body rest v o (term.Closure place) memory c b le lt some is = placed body rest v o (term.Closure place) memory c b le lt (some (omega arith)) refl refl
  put_word body rest v o (term.Var n) memory c b le lt some is =
      let high = has.mapped.room in
      let s = mid.state in
      let top = s.heap in
      let few_cells = s.few in
      let r = var_works t.p has 0 0 sh memory typed output drawn c b.holds (omega arith) (still memory c b) env (env_at memory c b) n is in
      let small = word_small s.shape r.shows in
      let put = puts t.p (left_with (now memory) (state memory r.locals' typed drawn output)) c v r.word b.holds (omega arith) (omega arith) (omega arith) small in
      let few' = r.few in
      record {
        word = r.word;
        is = r.shows;
        small = small;
        count = suc r.count;
        few = omega arith;
        runs = λ out s' k rest'. subst (ActsRun t.p f w body (word_act v o (term.Var n) ∷ rest) (now memory) out s') (sym (steps_are (suc r.count) k)) (calls {f' = 0} {w' = 0} {n = r.count} {n' = k} {xs = (n, 0, 0)} {s2 = now (with_cell memory (v - 16) r.word)} refl refl (var_at t.p has) (omega arith) (omega arith) r.runs put.put_is rest');
      }

  -- ## One cell

  pub record PutCell (body rest : List Act) (o : ℕ) (a : Atom) (x : ℕ) (memory : List ℕ) (c : ℕ → ℕ) : Type 0 where
    pub begun : Begun (with_cell memory (heap_at + (sh.top + o)) x) (replaced c (heap_at + (sh.top + o)) x)
    pub runs : (out : ActsOutcome) (s' : State) (n : ℕ) → ActsRun t.p f w body rest (now (with_cell memory (heap_at + (sh.top + o)) x)) out s' n → ActsRun t.p f w body (cell_act o a ∷ rest) (now memory) out s' (suc n)

  pub put_cell : (body rest : List Act) (o : ℕ) (a : Atom) (x : ℕ) (memory : List ℕ) (c : ℕ → ℕ) → Begun memory c → o < total → x < 65536 → value t.p (now memory) a ≡ word_is x → PutCell body rest o a x memory c
  put_cell body rest o a x memory c b lt small is =
      let high = has.mapped.room in
      let k = heap_at + (sh.top + o) in
      let new = replaced c k x in
      let there : (33438 + 2 * o + 2 * (49152 + sh.top)) % 65536 ≡ at_cell k = omega arith in
      record {
        begun = record {
          holds = holds_with t.p.world.layout memory c k x b.holds (omega arith) small;
          beyond = beyond_kept sh.top (sh.top + o) 1 start c new (omega arith) (omega arith) b.beyond (let z : sh.top + o + 0 ≡ sh.top + o = omega arith in subst (λ (i : ℕ). KeptBut (sh.top + o) 1 c (replaced c (heap_at + i) x)) z (kept_cell (sh.top + o) 1 0 c x (omega arith)));
          at = λ some. other_cell c k x 14 (λ e. (omega arith)) ∙ b.at some;
        };
        runs = λ out s' n r. done (writes t.p (now memory) widths.Word (atoms.Num (33438 + 2 * o)) (atoms.Var 30) a (33438 + 2 * o) (49152 + sh.top) x (with_cell memory k x) refl (register t.p (now memory) c 30 b.holds (omega arith) (omega arith) (omega arith) ∙ ap word_is (b.at (omega arith))) is (writes_cell t.p.world.layout memory c (33438 + 2 * o) (49152 + sh.top) x k b.holds there (omega arith))) r;
      }

  -- a word is put into the register of words
  pub begun_word : (memory : List ℕ) (c : ℕ → ℕ) (x : ℕ) → Begun memory c → x < 65536 → Begun (with_cell memory 36 x) (replaced c 36 x)
  begun_word memory c x b small =
      let high = has.mapped.room in
      record {
        holds = holds_with t.p.world.layout memory c 36 x b.holds (omega arith) small;
        beyond = λ k n0 n3 mid' far. other_cell c 36 x k (λ (e : k ≡ 36). (let q : 302 < k = mid'.1 (omega arith) in omega arith)) ∙ b.beyond k n0 n3 mid' far;
        at = λ some. other_cell c 36 x 14 (λ e. (omega arith)) ∙ b.at some;
      }
