-- A closure is written, with what it captures.
use Rattle.std.proofs.Common.{◌≡◌, ℕ, zero, suc, ◌+◌, ◌*◌, ◌/◌, ◌%◌, ◌<◌, ◌≤◌, List, [], ◌∷◌, ◌++◌, drop, length, refl, sym, ap, ◌∙◌, subst, arith}
use Rattle.std.specs.Prelude.{get_or}
use Rattle.dg_meaning.specs.Values.{Value, Nil, leaf}
use Rattle.dg_mid.specs.State.{Mid, vars_of}
use Rattle.z_lang.specs.declared.act.Act.{Act}
use Rattle.z_lang.specs.declared.act.Atom.TheVariants as atoms
use Rattle.z_lang.specs.declared.act.Function.TheVariants as functions
use Rattle.z_lang.specs.declared.act.Width.TheVariants as widths
use Rattle.z_lang.specs.State.{State}
use Rattle.z_lang.specs.Runs.{ActsRun, ActsOutcome, Returns, done, calls, returns}
use Rattle.dg_rt.specs.declared.closures.TheConstants.{CLOSURE_ACTS}
use Rattle.dg_rt.specs.inside.Walks.{steps}
use Rattle.dg_rt.specs.Cells.{with_cell, replaced}
use Rattle.dg_rt.specs.Areas.{heap_at, state}
use Rattle.dg_rt.specs.Shapes.{Shape, Shows}
use Rattle.dg_rt.specs.RunTime.{HasRunTime}
use Rattle.dg_rt.specs.Frames.{six_numbers, HoldVars}
use Rattle.dg_rt.proofs.Cells.{other_cell, same_cell, writes_cell}
use Rattle.dg_rt.proofs.Following.{word as word_is, computes, writes, register, puts, local_1, local_2, local_3}
use Rattle.dg_rt.proofs.Locals.{adds}
use Rattle.dg_rt.proofs.UnifySteps.{steps_are}
use Rattle.dg_rt.proofs.Capturing.{capture_works}
use Rattle.dg_turn.specs.Told.{Telling}
use Rattle.dg_turn.specs.Lies.{MidIn}
use Rattle.dg_turn.specs.Terms.{two_numbers, capture_acts, captures_for, closure_acts, AreCaptured}
use Rattle.dg_turn.proofs.Kept.{KeptBut, kept_then, kept_wider, beyond_kept}
use Rattle.dg_turn.proofs.Standing.{capture_at, closure_at}
use Rattle.dg_turn.proofs.Writing.{Begun, still, env_at, put_cell, begun_word}

-- ## Six numbers

get_small : (vs : List ℕ) (i : ℕ) → AreCaptured vs → get_or vs i 0 < 128
get_small [] i are = omega arith
get_small (v ∷ vs) zero are = are.0
get_small (v ∷ vs) (suc i) are = get_small vs i are.1

first_of_two : (a b : ℕ) → b < 128 → (256 * a + b) / 256 ≡ a
first_of_two a b lt = omega arith

second_of_two : (a b : ℕ) → b < 128 → (256 * a + b) % 256 ≡ b
second_of_two a b lt = omega arith

pub two_small : (vs : List ℕ) (i : ℕ) → AreCaptured vs → two_numbers vs i < 32768
two_small vs i are = let a = get_small vs i are in let b = get_small vs (i + 1) are in omega arith

-- The numbers of six variables, 0 where there are none.
abbrev six_of : List ℕ → List ℕ
six_of vs = get_or vs 0 0 ∷ get_or vs 1 0 ∷ get_or vs 2 0 ∷ get_or vs 3 0 ∷ get_or vs 4 0 ∷ get_or vs 5 0 ∷ []

numbers_are : (vs : List ℕ) → AreCaptured vs → six_numbers (two_numbers vs 0) (two_numbers vs 2) (two_numbers vs 4) ≡ six_of vs
numbers_are vs are =
    let g1 = get_small vs 1 are in
    let g3 = get_small vs 3 are in
    let g5 = get_small vs 5 are in
    rw (first_of_two (get_or vs 0 0) (get_or vs 1 0) g1, second_of_two (get_or vs 0 0) (get_or vs 1 0) g1, first_of_two (get_or vs 2 0) (get_or vs 3 0) g3, second_of_two (get_or vs 2 0) (get_or vs 3 0) g3, first_of_two (get_or vs 4 0) (get_or vs 5 0) g5, second_of_two (get_or vs 4 0) (get_or vs 5 0) g5) refl

behind_six : (vs : List ℕ) → AreCaptured vs → AreCaptured (drop 6 vs)
behind_six [] are = tt
behind_six (a ∷ []) are = tt
behind_six (a ∷ b ∷ []) are = tt
behind_six (a ∷ b ∷ c ∷ []) are = tt
behind_six (a ∷ b ∷ c ∷ d ∷ []) are = tt
behind_six (a ∷ b ∷ c ∷ d ∷ e ∷ []) are = tt
behind_six (a ∷ b ∷ c ∷ d ∷ e ∷ f ∷ vs) are = are.1.1.1.1.1.1

left_behind : (vs : List ℕ) (n : ℕ) → length vs ≤ 6 * suc n → length (drop 6 vs) ≤ 6 * n
left_behind [] n le = omega arith
left_behind (a ∷ []) n le = omega arith
left_behind (a ∷ b ∷ []) n le = omega arith
left_behind (a ∷ b ∷ c ∷ []) n le = omega arith
left_behind (a ∷ b ∷ c ∷ d ∷ []) n le = omega arith
left_behind (a ∷ b ∷ c ∷ d ∷ e ∷ []) n le = omega arith
left_behind (a ∷ b ∷ c ∷ d ∷ e ∷ f ∷ vs) n le = omega arith

-- what holds of the first six and of those behind them holds of all
all_hold : (sh : Shape) (cells : ℕ → ℕ) (k : ℕ) (env : List Value) (vs : List ℕ) → HoldVars sh cells k env (six_of vs) → HoldVars sh cells (k + 6) env (drop 6 vs) → HoldVars sh cells k env vs
all_hold sh cells k env [] h g = tt
all_hold sh cells k env (a ∷ []) h g = (h.0, tt)
all_hold sh cells k env (a ∷ b ∷ []) h g = (h.0, (h.1.0, tt))
all_hold sh cells k env (a ∷ b ∷ c ∷ []) h g = (h.0, (h.1.0, (h.1.1.0, tt)))
all_hold sh cells k env (a ∷ b ∷ c ∷ d ∷ []) h g = (h.0, (h.1.0, (h.1.1.0, (h.1.1.1.0, tt))))
all_hold sh cells k env (a ∷ b ∷ c ∷ d ∷ e ∷ []) h g = (h.0, (h.1.0, (h.1.1.0, (h.1.1.1.0, (h.1.1.1.1.0, tt)))))
all_hold sh cells k env (a ∷ b ∷ c ∷ d ∷ e ∷ f ∷ vs) h g =
    let six : k + 6 ≡ suc (suc (suc (suc (suc (suc k))))) = omega arith in
    (h.0, (h.1.0, (h.1.1.0, (h.1.1.1.0, (h.1.1.1.1.0, (h.1.1.1.1.1.0, subst (λ (i : ℕ). HoldVars sh cells i env vs) six g))))))

-- what holds of variables holds where their cells stay
pub hold_same : (sh : Shape) (c c' : ℕ → ℕ) (k : ℕ) (env : List Value) (vs : List ℕ) → ((i : ℕ) → k ≤ i → i < k + length vs → c' (heap_at + i) ≡ c (heap_at + i)) → HoldVars sh c k env vs → HoldVars sh c' k env vs
hold_same sh c c' k env [] same h = tt
hold_same sh c c' k env (v ∷ vs) same h =
    (subst (λ (y : ℕ). Shows sh y (get_or env v (leaf Nil))) (sym (same k (omega arith) (omega arith))) h.0, hold_same sh c c' (suc k) env vs (λ i low lt. same i (omega arith) (omega arith)) h.1)

module _ (t : Telling) {outer : ℕ → ℕ} (has : HasRunTime t.p) (f w : ℕ) (frames_left : 0 < f) (words_left : 8 ≤ w) (sh : Shape) (typed output : List ℕ) (drawn : ℕ) (trail : List ℕ) (m : Mid) (start : ℕ → ℕ) (mid : MidIn t outer sh start trail m) (total : ℕ) (room : sh.top + total ≤ 10000) where
  abbrev now : List ℕ → State
  now memory = state memory [] typed drawn output

  abbrev Here : List ℕ → (ℕ → ℕ) → Type 0
  Here = Begun t has f w frames_left words_left sh typed output drawn trail m start mid total room

  abbrev env : List Value
  env = vars_of m.frames

  -- ## Captured values

  -- Variables were captured in the box of a closure.
  pub record Captured (body rest all : List Act) (n : ℕ) (vs : List ℕ) (at : ℕ) (memory : List ℕ) (c : ℕ → ℕ) : Type 0 where
    pub memory' : List ℕ
    pub cells' : ℕ → ℕ
    pub begun : Here memory' cells'
    pub kept : KeptBut (at + 3) (6 * n) c cells'
    pub values : HoldVars sh cells' (at + 3) env vs
    pub count : ℕ
    pub few : count ≤ 54 * n
    pub runs : (out : ActsOutcome) (s' : State) (k : ℕ) → ActsRun t.p f w body rest (now memory') out s' k → ActsRun t.p f w body all (now memory) out s' (steps count k)

  pub captures : (body rest : List Act) (n : ℕ) (vs : List ℕ) (at : ℕ) (memory : List ℕ) (c : ℕ → ℕ) → Here memory c → c 36 ≡ 49152 + at → sh.top ≤ at → at + 3 + 6 * n ≤ 10012 → AreCaptured vs → length vs ≤ 6 * n → Captured body rest (capture_acts n vs ++ rest) n vs at memory c
  captures body rest zero [] at memory c b box low le are few = record { memory' = memory; cells' = c; begun = b; kept = λ k ne far. refl; values = tt; count = 0; few = omega arith; runs = λ out s' k r. r }
  captures body rest zero (v ∷ vs) at memory c b box low le are few = absurd (omega arith)
  captures body rest (suc n) vs at memory c b box low le are few =
      let s = mid.state in
      let top = s.heap in
      let few_cells = s.few in
      let x = two_numbers vs 0 in
      let y = two_numbers vs 2 in
      let z = two_numbers vs 4 in
      let r = capture_works t.p has 0 0 sh memory typed output drawn c b.holds (omega arith) (still t has f w frames_left words_left sh typed output drawn trail m start mid total room memory c b) env (env_at t has f w frames_left words_left sh typed output drawn trail m start mid total room memory c b) at low (omega arith) box x y z (two_small vs 0 are) (two_small vs 2 are) (two_small vs 4 are) in
      let kept : KeptBut (at + 3) 6 c r.cells' = λ k ne far. r.others k ne (λ q. (let u : heap_at + (at + 3 + 6) ≤ k = far q in omega arith)) in
      let here : Here memory c = b in
      let begun : Here r.memory' r.cells' = record {
        holds = r.holds;
        beyond = beyond_kept sh.top (at + 3) 6 start c r.cells' (omega arith) (omega arith) b.beyond kept;
        at = λ some. r.others 14 (λ e. (omega arith)) (λ q. (omega arith)) ∙ b.at some;
      } in
      let o = captures body rest n (drop 6 vs) (at + 6) r.memory' r.cells' begun r.word (omega arith) (omega arith) (behind_six vs are) (left_behind vs n few) in
      let first : HoldVars sh r.cells' (at + 3) env (six_of vs) = subst (λ (l : List ℕ). HoldVars sh r.cells' (at + 3) env l) (numbers_are vs are) r.values in
      let first' = hold_same sh r.cells' o.cells' (at + 3) env (six_of vs) (λ i lo hi. o.kept (heap_at + i) (λ e. (omega arith)) (λ q. (omega arith))) first in
      let six : at + 6 + 3 ≡ at + 3 + 6 = omega arith in
      let few1 = r.few in
      let few2 = o.few in
      record {
        memory' = o.memory';
        cells' = o.cells';
        begun = o.begun;
        kept = kept_then (at + 3) (6 * suc n) c r.cells' o.cells' (kept_wider (at + 3) 6 (at + 3) (6 * suc n) c r.cells' (omega arith) (omega arith) kept) (kept_wider (at + 6 + 3) (6 * n) (at + 3) (6 * suc n) r.cells' o.cells' (omega arith) (omega arith) o.kept);
        values = all_hold sh o.cells' (at + 3) env vs first' (subst (λ (i : ℕ). HoldVars sh o.cells' i env (drop 6 vs)) six o.values);
        count = suc r.count + o.count;
        few = omega arith;
        runs = λ out s' k q.
            let a = steps_are o.count k in
            let d = steps_are (suc r.count + o.count) k in
            let sum : suc r.count + steps o.count k ≡ steps (suc r.count + o.count) k = omega arith in
            subst (ActsRun t.p f w body (capture_acts (suc n) vs ++ rest) (now memory) out s') sum
            (calls {f' = 0} {w' = 0} {n = r.count} {n' = steps o.count k} {xs = (x, y, z)} refl refl (capture_at t.p has) (omega arith) (omega arith) r.runs refl (o.runs out s' k q));
      }

  -- ## The closure

  -- What stands in its cells.
  abbrev pub ClosureWritten : (ℕ → ℕ) → ℕ → ℕ → List ℕ → Type 0
  ClosureWritten c at place vs = (c (heap_at + (at + 0)) ≡ 1 + place) × (c (heap_at + (at + 1)) ≡ length vs) × HoldVars sh c (at + 3) env vs

  pub record Closed (body rest all : List Act) (o place : ℕ) (vs : List ℕ) (memory : List ℕ) (c : ℕ → ℕ) : Type 0 where
    pub memory' : List ℕ
    pub cells' : ℕ → ℕ
    pub begun : Here memory' cells'
    pub kept : KeptBut (sh.top + o) (3 + length vs + 5) c cells'
    pub written : ClosureWritten cells' (sh.top + o) place vs
    pub count : ℕ
    pub few : count ≤ 5 + 54 * captures_for (length vs)
    pub runs : (out : ActsOutcome) (s' : State) (k : ℕ) → ActsRun t.p f w body rest (now memory') out s' k → ActsRun t.p f w body all (now memory) out s' (steps count k)

  pub closure : (body rest : List Act) (o place : ℕ) (vs : List ℕ) (memory : List ℕ) (c : ℕ → ℕ) → Here memory c → o + (3 + length vs) ≤ total → place < 16384 → length vs ≤ 64 → AreCaptured vs → Closed body rest (closure_acts o place vs ++ rest) o place vs memory c
  closure body rest o place vs memory c b le lt few are =
      let high = has.mapped.room in
      let count = length vs in
      let n = captures_for count in
      let at = sh.top + o in
      let k0 = heap_at + (sh.top + o) in
      let k1 = heap_at + (sh.top + (o + 1)) in
      let y = 49152 + at in
      let m1 = with_cell memory 36 y in
      let c1 = replaced c 36 y in
      let b1 = begun_word t has f w frames_left words_left sh typed output drawn trail m start mid total room memory c y b (omega arith) in
      let m2 = with_cell m1 k0 (1 + place) in
      let c2 = replaced c1 k0 (1 + place) in
      let b2 = (put_cell t has f w frames_left words_left sh typed output drawn trail m start mid total room [] [] o (atoms.Num (1 + place)) (1 + place) m1 c1 b1 (omega arith) (omega arith) refl).begun in
      let m3 = with_cell m2 k1 count in
      let c3 = replaced c2 k1 count in
      let b3 = (put_cell t has f w frames_left words_left sh typed output drawn trail m start mid total room [] [] (o + 1) (atoms.Num count) count m2 c2 b2 (omega arith) (omega arith) refl).begun in
      let inner : List ℕ → State = λ mem. state mem (o ∷ (1 + place) ∷ count ∷ []) typed drawn output in
      let put = puts t.p (inner memory) c 52 y b.holds (omega arith) (omega arith) (omega arith) (omega arith) in
      let named : c 14 ≡ 49152 + sh.top = b.at (omega arith) in
      let box1 : c1 36 ≡ y = same_cell c 36 y in
      let box2 : c2 36 ≡ y = other_cell c1 k0 (1 + place) 36 (λ e. (omega arith)) ∙ box1 in
      let box3 : c3 36 ≡ y = other_cell c2 k1 count 36 (λ e. (omega arith)) ∙ box2 in
      let begins : ActsRun t.p 0 0 CLOSURE_ACTS CLOSURE_ACTS (inner memory) (Returns 0) (inner m3) 4 =
      done (computes t.p (inner memory) (inner m1) 52 functions.Add (atoms.Var 30) (atoms.Var 1) (49152 + sh.top) o y (register t.p (inner memory) c 30 b.holds (omega arith) (omega arith) (omega arith) ∙ ap word_is named) (local_1 t.p memory o ((1 + place) ∷ count ∷ []) typed drawn output) (adds t.p memory (49152 + sh.top) o y (omega arith) (omega arith)) put.put_is)
      (done (writes t.p (inner m1) widths.Word (atoms.Num 33438) (atoms.Var 52) (atoms.Var 2) 33438 y (1 + place) m2 refl (register t.p (inner m1) c1 52 b1.holds (omega arith) (omega arith) (omega arith) ∙ ap word_is box1) (local_2 t.p m1 o (1 + place) (count ∷ []) typed drawn output) (writes_cell t.p.world.layout m1 c1 33438 y (1 + place) k0 b1.holds (omega arith) (omega arith)))
      (done (writes t.p (inner m2) widths.Word (atoms.Num 33440) (atoms.Var 52) (atoms.Var 3) 33440 y count m3 refl (register t.p (inner m2) c2 52 b2.holds (omega arith) (omega arith) (omega arith) ∙ ap word_is box2) (local_3 t.p m2 o (1 + place) count [] typed drawn output) (writes_cell t.p.world.layout m2 c2 33440 y count k1 b2.holds (omega arith) (omega arith)))
      (returns refl))) in
      let many : 6 * n ≤ count + 5 = omega arith in
      let all : count ≤ 6 * n = omega arith in
      let r = captures body rest n vs at m3 c3 b3 box3 (omega arith) (omega arith) are all in
      let at0 : at + 0 ≡ sh.top + o = omega arith in
      let at1 : at + 1 ≡ sh.top + (o + 1) = omega arith in
      let zero_there : r.cells' k0 ≡ 1 + place = r.kept k0 (λ e. (omega arith)) (λ q. (omega arith)) ∙ other_cell c2 k1 count k0 (λ e. (omega arith)) ∙ same_cell c1 k0 (1 + place) in
      let one_there : r.cells' k1 ≡ count = r.kept k1 (λ e. (omega arith)) (λ q. (omega arith)) ∙ same_cell c2 k1 count in
      let few' = r.few in
      record {
        memory' = r.memory';
        cells' = r.cells';
        begun = r.begun;
        kept = λ k ne far.
            r.kept k ne (λ q. (let u : heap_at + (sh.top + o + (3 + count + 5)) ≤ k = far (omega arith) in omega arith))
            ∙ other_cell c2 k1 count k (λ (e : k ≡ k1). (let u : heap_at + (sh.top + o + (3 + count + 5)) ≤ k = far (omega arith) in omega arith))
            ∙ other_cell c1 k0 (1 + place) k (λ (e : k ≡ k0). (let u : heap_at + (sh.top + o + (3 + count + 5)) ≤ k = far (omega arith) in omega arith)) ∙ other_cell c 36 y k ne;
        written = (
          subst (λ (i : ℕ). r.cells' (heap_at + i) ≡ 1 + place) (sym at0) zero_there,
          subst (λ (i : ℕ). r.cells' (heap_at + i) ≡ count) (sym at1) one_there,
          r.values,
        );
        count = 5 + r.count;
        few = omega arith;
        runs = λ out s' k q.
            let a = steps_are r.count k in
            let d = steps_are (5 + r.count) k in
            let sum : 5 + steps r.count k ≡ steps (5 + r.count) k = omega arith in
            subst (ActsRun t.p f w body (closure_acts o place vs ++ rest) (now memory) out s') sum
            (calls {f' = 0} {w' = 0} {n = 4} {n' = steps r.count k} {xs = (o, 1 + place, count)} refl refl (closure_at t.p has) (omega arith) (omega arith) begins refl (r.runs out s' k q));
      }
