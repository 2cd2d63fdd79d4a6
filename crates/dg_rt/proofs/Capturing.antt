-- The routine that captures values does so.
use Rattle.std.proofs.Common.{◌≡◌, ℕ, zero, suc, ◌+◌, ◌-◌, ◌*◌, ◌<◌, ◌≤◌, inl, inr, true, false, List, [], ◌∷◌, drop, length, Some, refl, sym, ap, ◌∙◌, subst, arith}
use Rattle.std.specs.Prelude.{get_or}
use Rattle.std.proofs.lemmas.Bool.{ne_eqb, cases_lt}
use Rattle.z_lang.specs.declared.act.Act.{Act}
use Rattle.z_lang.specs.declared.act.Act.TheVariants as acts
use Rattle.z_lang.specs.declared.act.Atom.TheVariants as atoms
use Rattle.z_lang.specs.declared.act.Function.{Function}
use Rattle.z_lang.specs.declared.act.Function.TheVariants as functions
use Rattle.z_lang.specs.declared.act.Comparison.TheVariants as comparisons
use Rattle.z_lang.specs.declared.act.Width.TheVariants as widths
use Rattle.z_lang.specs.State.{State, Program, value}
use Rattle.z_lang.specs.Acts.{computed}
use Rattle.z_lang.specs.Runs.{ActsRun as Runs, ActsOutcome, Returns, at_label, goes, taken, passed, done, returns, behind_label}
use Rattle.dg_meaning.specs.Values.{Value, Nil, leaf}
use Rattle.dg_rt.specs.declared.frames.TheConstants.{CAPTURE_ACTS}
use Rattle.dg_rt.specs.Cells.{at_cell, with_cell, replaced, Holds}
use Rattle.dg_rt.specs.Areas.{heap_at, IsMapped, state}
use Rattle.dg_rt.specs.Shapes.{Shape, IsFixed, Cell, Shows, nil}
use Rattle.dg_rt.specs.Back.{at_place}
use Rattle.dg_rt.specs.Frames.{Captured, HasVars, VarsAt, six_numbers, HoldVars, Captures, CaptureWorks}
use Rattle.dg_rt.specs.inside.Walks.{steps}
use Rattle.dg_rt.proofs.Cells.{holds_with, reads_cell, writes_cell, other_cell, same_cell}
use Rattle.dg_rt.proofs.Following.{word, tested, computes, copies, writes, register, puts}
use Rattle.dg_rt.proofs.Locals.{less_by, not_less_by, adds, subtracts}
use Rattle.dg_rt.proofs.UnifySteps.{steps_are}
use Rattle.dg_rt.proofs.Variables.{in_cells, in_row, in_front, behind, none_there}
use Rattle.dg_rt.proofs.CaptureSteps.{divides, leaves, Source, captured, own, nowhere, if_captured, if_none, put_value, behind_found, behind_none, behind_captured, values_acts, Labelled, all_parts, last_acts, labels_lead, get_x, get_y, get_z, get_c, get_l, get_o, get_b, get_v, put_c, put_l, put_o, put_b, put_v}

-- ## Values one after another

module _ (p : Program) (map : IsMapped p) (f w : ℕ) (sh : Shape) (typed output : List ℕ) (drawn x y z c l o b at : ℕ) (vars : List Value) (low : at + 9 ≤ 10012) (top : sh.top ≤ at) (high : sh.top ≤ 10000)
    (source : (n : ℕ) → n < 32768 → Source sh c l o b n (get_or vars n (leaf Nil))) where
  abbrev now : List ℕ → ℕ → State
  now m v = state m (x ∷ y ∷ z ∷ c ∷ l ∷ o ∷ b ∷ v ∷ []) typed drawn output

  abbrev AreFixed : (ℕ → ℕ) → Type 0
  AreFixed cells = (k : ℕ) → k < 10000 → IsFixed sh k → cells (heap_at + k) ≡ sh.fixed k

  -- parts of locals are these numbers
  abbrev PartsAre : List (ℕ × Function) → List ℕ → Type 0
  PartsAre [] [] = Unit {0}
  PartsAre (q ∷ qs) (n ∷ ns) =
      (n < 32768) × ((m : List ℕ) (v : ℕ) → (y' : ℕ) × (value p (now m v) (atoms.Var q.0) ≡ word y') × (computed p.world.layout m q.1 y' 256 ≡ word n)) × PartsAre qs ns
  PartsAre qs ns = ⊥

  record Blocks (rest : List Act) (i : ℕ) (qs : List (ℕ × Function)) (ns : List ℕ) (memory : List ℕ) (cells : ℕ → ℕ) (v : ℕ) : Type 0 where
    memory' : List ℕ
    cells' : ℕ → ℕ
    v' : ℕ
    holds : Holds p.world.layout memory' cells'
    values : HoldVars sh cells' (at + (3 + i)) vars ns
    others : (k : ℕ) → (heap_at + (at + (3 + i)) ≤ k → heap_at + (at + (3 + i + length ns)) ≤ k) → cells' k ≡ cells k
    count : ℕ
    few : count ≤ 7 * length ns
    runs : (out : ActsOutcome) (s' : State) (n : ℕ) → Runs p f w CAPTURE_ACTS rest (now memory' v') out s' n → Runs p f w CAPTURE_ACTS (values_acts qs i rest) (now memory v) out s' (steps count n)

  -- a value's word is put into its cell
  puts_value : (i u : ℕ) (memory : List ℕ) (cells : ℕ → ℕ) → i < 6 → Holds p.world.layout memory cells → cells 36 ≡ 49152 + at → (more : List Act) (out : ActsOutcome) (s' : State) (n : ℕ) →
      Runs p f w CAPTURE_ACTS more (now (with_cell memory (heap_at + (at + (3 + i))) u) u) out s' n → Runs p f w CAPTURE_ACTS (put_value i ∷ more) (now memory u) out s' (suc n)
  puts_value i u memory cells lt h box more out s' n rest =
      let room = map.room in
      done (writes p (now memory u) widths.Word (atoms.Num (33444 + 2 * i)) (atoms.Var 52) (atoms.Var 8) (33444 + 2 * i) (49152 + at) u (with_cell memory (heap_at + (at + (3 + i))) u) refl (register p (now memory u) cells 52 h (omega arith) (omega arith) (omega arith) ∙ ap word box) (get_v p memory x y z c l o b u typed drawn output)
      (writes_cell p.world.layout memory cells (33444 + 2 * i) (49152 + at) u (heap_at + (at + (3 + i))) h (omega arith) (omega arith))) rest

  -- the acts between the number and the label behind which its word is put
  abbrev look_acts : ℕ → List Act → List Act
  look_acts i more =
      if_captured (1 + 3 * i) ∷ acts.Compute 8 functions.Sub (atoms.Var 8) (atoms.Var 5) ∷ if_none (2 + 3 * i)
      ∷ acts.Compute 8 functions.Add (atoms.Var 8) (atoms.Var 7) ∷ acts.Goto (3 + 3 * i) ∷ acts.Label (1 + 3 * i) ∷ behind_captured i more

  -- The word of a variable is found.
  record Looked (i n : ℕ) (v : Value) (memory : List ℕ) : Type 0 where
    u : ℕ
    small : u < 65536
    shows : Shows sh u v
    count : ℕ
    few : count ≤ 5
    runs : (more : List Act) → behind_label (1 + 3 * i) CAPTURE_ACTS ≡ Some (behind_captured i more) → behind_label (2 + 3 * i) CAPTURE_ACTS ≡ Some (behind_none i more) → behind_label (3 + 3 * i) CAPTURE_ACTS ≡ Some (behind_found i more) →
        (out : ActsOutcome) (s' : State) (k : ℕ) → Runs p f w CAPTURE_ACTS (put_value i ∷ more) (now memory u) out s' k → Runs p f w CAPTURE_ACTS (look_acts i more) (now memory n) out s' (steps count k)

  looked : (i n : ℕ) (v : Value) (memory : List ℕ) (cells : ℕ → ℕ) → Holds p.world.layout memory cells → AreFixed cells → n < 32768 → Source sh c l o b n v → Looked i n v memory
  looked i n v memory cells h fixed few_n (captured d u e lt few within there s) =
      let room = map.room in
      let is : cells (heap_at + (d + n + 3)) ≡ u = fixed (d + n + 3) within there.fixed ∙ there.is in
      let w = h.words (heap_at + (d + n + 3)) in
      record {
        u = u;
        small = omega arith;
        shows = s;
        count = 4;
        few = omega arith;
        runs = λ more e1 e2 e3 out s' k rest.
            taken (tested p (now memory n) comparisons.Less (atoms.Var 8) (atoms.Var 5) true n l true (get_v p memory x y z c l o b n typed drawn output) (get_l p memory x y z c l o b n typed drawn output) (less_by n l few_n (omega arith) lt)) e1
            (done (computes p (now memory n) (now memory (n + c)) 8 functions.Add (atoms.Var 8) (atoms.Var 4) n c (n + c) (get_v p memory x y z c l o b n typed drawn output) (get_c p memory x y z c l o b n typed drawn output) (adds p memory n c (n + c) refl (omega arith)) (put_v p memory x y z c l o b n typed drawn output (n + c)))
            (done (computes p (now memory (n + c)) (now memory u) 8 functions.Word (atoms.Num 33444) (atoms.Var 8) 33444 (n + c) u refl (get_v p memory x y z c l o b (n + c) typed drawn output) (reads_cell p.world.layout memory cells 33444 (n + c) (heap_at + (d + n + 3)) h (omega arith) (omega arith) ∙ ap word is) (put_v p memory x y z c l o b (n + c) typed drawn output u))
            (goes e3 rest)));
      }
  looked i n v memory cells h fixed few_n (own j e lt few small s) = record {
    u = j + b;
    small = small;
    shows = s;
    count = 5;
    few = omega arith;
    runs = λ more e1 e2 e3 out s' k rest.
        passed (tested p (now memory n) comparisons.Less (atoms.Var 8) (atoms.Var 5) true n l false (get_v p memory x y z c l o b n typed drawn output) (get_l p memory x y z c l o b n typed drawn output) (not_less_by n l few_n (omega arith) (omega arith)))
        (done (computes p (now memory n) (now memory j) 8 functions.Sub (atoms.Var 8) (atoms.Var 5) n l j (get_v p memory x y z c l o b n typed drawn output) (get_l p memory x y z c l o b n typed drawn output) (subtracts p memory n l j e (omega arith)) (put_v p memory x y z c l o b n typed drawn output j))
        (passed (tested p (now memory j) comparisons.Less (atoms.Var 8) (atoms.Var 6) false j o true (get_v p memory x y z c l o b j typed drawn output) (get_o p memory x y z c l o b j typed drawn output) (less_by j o (omega arith) (omega arith) lt))
        (done (computes p (now memory j) (now memory (j + b)) 8 functions.Add (atoms.Var 8) (atoms.Var 7) j b (j + b) (get_v p memory x y z c l o b j typed drawn output) (get_b p memory x y z c l o b j typed drawn output) (adds p memory j b (j + b) refl small) (put_v p memory x y z c l o b j typed drawn output (j + b)))
        (goes e3 rest))));
  }
  looked i n v memory cells h fixed few_n (nowhere j e le few none) = record {
    u = 28672;
    small = omega arith;
    shows = subst (Shows sh 28672) (sym none) nil;
    count = 4;
    few = omega arith;
    runs = λ more e1 e2 e3 out s' k rest.
        passed (tested p (now memory n) comparisons.Less (atoms.Var 8) (atoms.Var 5) true n l false (get_v p memory x y z c l o b n typed drawn output) (get_l p memory x y z c l o b n typed drawn output) (not_less_by n l few_n (omega arith) (omega arith)))
        (done (computes p (now memory n) (now memory j) 8 functions.Sub (atoms.Var 8) (atoms.Var 5) n l j (get_v p memory x y z c l o b n typed drawn output) (get_l p memory x y z c l o b n typed drawn output) (subtracts p memory n l j e (omega arith)) (put_v p memory x y z c l o b n typed drawn output j))
        (taken (tested p (now memory j) comparisons.Less (atoms.Var 8) (atoms.Var 6) false j o false (get_v p memory x y z c l o b j typed drawn output) (get_o p memory x y z c l o b j typed drawn output) (not_less_by j o (omega arith) (omega arith) le)) e2
        (done (copies p (now memory j) (now memory 28672) 8 (atoms.Num 28672) 28672 refl (put_v p memory x y z c l o b j typed drawn output 28672))
        (at_label rest))));
  }

  blocks : (rest : List Act) (i : ℕ) (qs : List (ℕ × Function)) (ns : List ℕ) → PartsAre qs ns → i + length ns ≤ 6 → Labelled qs i rest → (memory : List ℕ) (cells : ℕ → ℕ) (v : ℕ) → Holds p.world.layout memory cells → AreFixed cells → cells 36 ≡ 49152 + at → Blocks rest i qs ns memory cells v
  blocks rest i [] [] are le lead memory cells v h fixed box = record { memory' = memory; cells' = cells; v' = v; holds = h; values = tt; others = λ k far. refl; count = 0; few = omega arith; runs = λ out s' n r. r }
  blocks rest i [] (n ∷ ns) are le lead memory cells v h fixed box = absurd are
  blocks rest i (q ∷ qs) [] are le lead memory cells v h fixed box = absurd are
  blocks rest i (q ∷ qs) (n ∷ ns) are le lead memory cells v h fixed box =
      let room = map.room in
      let k0 = heap_at + (at + (3 + i)) in
      let part = are.1 memory v in
      let found = looked i n (get_or vars n (leaf Nil)) memory cells h fixed are.0 (source n are.0) in
      let c1 = replaced cells k0 found.u in
      let h1 = holds_with p.world.layout memory cells k0 found.u h (omega arith) found.small in
      let fixed1 : AreFixed c1 = λ k lt fx. other_cell cells k0 found.u (heap_at + k) (λ e. (let low_k = fx.0 in omega arith)) ∙ fixed k lt fx in
      let r = blocks rest (suc i) qs ns are.2 (omega arith) lead.3 (with_cell memory k0 found.u) c1 found.u h1 fixed1 (other_cell cells k0 found.u 36 (λ e. (omega arith)) ∙ box) in
      let here : r.cells' k0 ≡ found.u = r.others k0 (λ far. (omega arith)) ∙ same_cell cells k0 found.u in
      let next : at + (3 + suc i) ≡ suc (at + (3 + i)) = omega arith in
      let few = found.few in
      let few' = r.few in
      record {
        memory' = r.memory';
        cells' = r.cells';
        v' = r.v';
        holds = r.holds;
        values = (subst (λ (u : ℕ). Shows sh u (get_or vars n (leaf Nil))) (sym here) found.shows, subst (λ (k : ℕ). HoldVars sh r.cells' k vars ns) next r.values);
        others = λ k far. r.others k (λ from. (let z : heap_at + (at + (3 + i + suc (length ns))) ≤ k = far (omega arith) in omega arith)) ∙ other_cell cells k0 found.u k (λ (e : k ≡ k0). (let z : heap_at + (at + (3 + i + suc (length ns))) ≤ k = far (omega arith) in omega arith));
        count = suc (found.count + suc r.count);
        few = omega arith;
        runs = λ out s' k rest'.
            subst (Runs p f w CAPTURE_ACTS (values_acts (q ∷ qs) i rest) (now memory v) out s') (let e : suc (steps found.count (suc (steps r.count k))) ≡ steps (suc (found.count + suc r.count)) k = omega (arith, steps_are found.count (suc (steps r.count k)), steps_are r.count k, steps_are (suc (found.count + suc r.count)) k) in e)
            (done (computes p (now memory v) (now memory n) 8 q.1 (atoms.Var q.0) (atoms.Num 256) part.0 256 n part.1 refl part.2 (put_v p memory x y z c l o b v typed drawn output n))
            (found.runs (values_acts qs (suc i) rest) lead.0 lead.1 lead.2 out s' (suc (steps r.count k))
            (puts_value i found.u memory cells (omega arith) h box (values_acts qs (suc i) rest) out s' (steps r.count k) (r.runs out s' k rest'))));
      }

hold_same : (sh : Shape) (cells cells' : ℕ → ℕ) (k : ℕ) (vars : List Value) (ns : List ℕ) → ((j : ℕ) → cells' (heap_at + j) ≡ cells (heap_at + j)) → HoldVars sh cells k vars ns → HoldVars sh cells' k vars ns
hold_same sh cells cells' k vars [] same h = tt
hold_same sh cells cells' k vars (n ∷ ns) same h = (subst (λ (u : ℕ). Shows sh u (get_or vars n (leaf Nil))) (sym (same k)) h.0, hold_same sh cells cells' (suc k) vars ns same h.1)

-- ## The routine

module _ (p : Program) (map : IsMapped p) (f w : ℕ) (sh : Shape) (memory typed output : List ℕ) (drawn : ℕ) (cells : ℕ → ℕ) (h : Holds p.world.layout memory cells) (high : sh.top ≤ 10000) (fixed : (k : ℕ) → k < 10000 → IsFixed sh k → cells (heap_at + k) ≡ sh.fixed k) (vars : List Value)
    (at : ℕ) (top : sh.top ≤ at) (low : at + 9 ≤ 10012) (box : cells 36 ≡ 49152 + at) (x y z : ℕ) (few_x : x < 32768) (few_y : y < 32768) (few_z : z < 32768) where
  abbrev st : ℕ → ℕ → ℕ → ℕ → ℕ → State
  st c l o b v = state memory (x ∷ y ∷ z ∷ c ∷ l ∷ o ∷ b ∷ v ∷ []) typed drawn output

  abbrev values : List Act
  values = values_acts all_parts 0 last_acts

  -- behind what finds out where variables are
  finishes : (c l o b : ℕ) → ((n : ℕ) → n < 32768 → Source sh c l o b n (get_or vars n (leaf Nil))) → (k : ℕ) → k ≤ 9 →
      ((out : ActsOutcome) (s' : State) (n : ℕ) → Runs p f w CAPTURE_ACTS values (st c l o b 0) out s' n → Runs p f w CAPTURE_ACTS CAPTURE_ACTS (st 0 0 0 0 0) out s' (steps k n)) → Captures p f w sh memory typed output drawn x y z cells at vars
  finishes c l o b source k few_k begins =
      let room = map.room in
      let r = blocks p map f w sh typed output drawn x y z c l o b at vars low top high source last_acts 0 all_parts (six_numbers x y z) ((
        omega arith,
        λ m v. (x, get_x p m x y z c l o b v typed drawn output, divides p m x 256 few_x (omega arith) (omega arith)),
        (
          omega arith,
          λ m v. (x, get_x p m x y z c l o b v typed drawn output, leaves p m x 256 few_x (omega arith) (omega arith)),
          (
            omega arith,
            λ m v. (y, get_y p m x y z c l o b v typed drawn output, divides p m y 256 few_y (omega arith) (omega arith)),
            (
              omega arith,
              λ m v. (y, get_y p m x y z c l o b v typed drawn output, leaves p m y 256 few_y (omega arith) (omega arith)),
              (
                omega arith,
                λ m v. (z, get_z p m x y z c l o b v typed drawn output, divides p m z 256 few_z (omega arith) (omega arith)),
                (omega arith, λ m v. (z, get_z p m x y z c l o b v typed drawn output, leaves p m z 256 few_z (omega arith) (omega arith)), tt),
              ),
            ),
          ),
        ),
      )) (omega arith) labels_lead memory cells 0 h fixed box in
      let s1 : State = state r.memory' (x ∷ y ∷ z ∷ c ∷ l ∷ o ∷ b ∷ r.v' ∷ []) typed drawn output in
      let new = 49152 + (at + 6) in
      let put = puts p s1 r.cells' 52 new r.holds (omega arith) (omega arith) (omega arith) (omega arith) in
      let c' = replaced r.cells' 36 new in
      let m' = with_cell r.memory' 36 new in
      let s2 : State = state m' (x ∷ y ∷ z ∷ c ∷ l ∷ o ∷ b ∷ r.v' ∷ []) typed drawn output in
      let box' : r.cells' 36 ≡ 49152 + at = r.others 36 (λ far. (omega arith)) ∙ box in
      let few' = r.few in
      record {
        memory' = m';
        cells' = c';
        locals' = x ∷ y ∷ z ∷ c ∷ l ∷ o ∷ b ∷ r.v' ∷ [];
        holds = put.holds;
        word = same_cell r.cells' 36 new;
        values = hold_same sh r.cells' c' (at + 3) vars (six_numbers x y z) (λ j. other_cell r.cells' 36 new (heap_at + j) (λ e. (omega arith))) r.values;
        others = λ j ne far. other_cell r.cells' 36 new j ne ∙ r.others j (λ from. (let q : heap_at + (at + 9) ≤ j = far (omega arith) in omega arith));
        count = k + (r.count + 2);
        few = omega arith;
        runs = subst (Runs p f w CAPTURE_ACTS CAPTURE_ACTS (st 0 0 0 0 0) (Returns 0) s2) (let e : steps k (steps r.count 2) ≡ k + (r.count + 2) = omega (arith, steps_are k (steps r.count 2), steps_are r.count 2) in e)
            (begins (Returns 0) s2 (steps r.count 2)
            (r.runs (Returns 0) s2 2
            (done (computes p s1 s2 52 functions.Add (atoms.Var 52) (atoms.Num 6) (49152 + at) 6 new (register p s1 r.cells' 52 r.holds (omega arith) (omega arith) (omega arith) ∙ ap word box') refl (adds p r.memory' (49152 + at) 6 new (omega arith) (omega arith)) put.put_is)
            (returns refl))));
      }

  -- up to the test of the frame
  to_frame : (out : ActsOutcome) (s' : State) (n : ℕ) → Runs p f w CAPTURE_ACTS (drop 2 CAPTURE_ACTS) (st 0 0 0 0 0) out s' n → Runs p f w CAPTURE_ACTS CAPTURE_ACTS (st 0 0 0 0 0) out s' (suc (suc n))
  to_frame out s' n rest =
      done (copies p (st 0 0 0 0 0) (st 0 0 0 0 0) 5 (atoms.Num 0) 0 refl (put_l p memory x y z 0 0 0 0 0 typed drawn output 0))
      (done (copies p (st 0 0 0 0 0) (st 0 0 0 0 0) 6 (atoms.Num 0) 0 refl (put_o p memory x y z 0 0 0 0 0 typed drawn output 0)) rest)

  frame_is : (c l o b v e : ℕ) → cells 4 ≡ e → value p (st c l o b v) (atoms.Var 20) ≡ word e
  frame_is c l o b v e is = let room = map.room in register p (st c l o b v) cells 20 h (omega arith) (omega arith) (omega arith) ∙ ap word is

  -- without a frame
  no_frame : cells 4 ≡ 0 → vars ≡ [] → Captures p f w sh memory typed output drawn x y z cells at vars
  unfolding behind_label
  no_frame e none =
      finishes 0 0 0 0 (λ n lt. nowhere n (omega arith) (omega arith) (omega arith) (ap (λ (vs : List Value). get_or vs n (leaf Nil)) none ∙ sym (none_there [] n (omega arith)))) 3 (omega arith)
      (λ out s' n rest. to_frame out s' (suc n) (taken (tested p (st 0 0 0 0 0) comparisons.Equal (atoms.Var 20) (atoms.Num 0) true 0 0 true (frame_is 0 0 0 0 0 0 e) refl refl) refl rest))

  module _ (i : HasVars sh (cells 4) vars) where
    abbrev e : ℕ
    e = at_place i.at

    abbrev size : ℕ
    size = 2 * length i.own + i.many

    abbrev many : ℕ
    many = length i.own

    abbrev first : ℕ
    first = at_place i.at + 6

    cell_is : (k b u : ℕ) → k ≤ 5 → b ≡ at_cell (heap_at + k) → Cell sh (i.at + k) u → computed p.world.layout memory functions.Word b (at_place i.at) ≡ word u
    cell_is k b u le eb c =
        let room = map.room in
        let below = i.below in
        reads_cell p.world.layout memory cells b (at_place i.at) (heap_at + (i.at + k)) h (omega arith) (omega arith) ∙ ap word (fixed (i.at + k) (omega arith) c.fixed ∙ c.is)

    -- up to the test of the closure
    to_closure : (out : ActsOutcome) (s' : State) (n : ℕ) → Runs p f w CAPTURE_ACTS (drop 7 CAPTURE_ACTS) (st i.c 0 many first 0) out s' n → Runs p f w CAPTURE_ACTS CAPTURE_ACTS (st 0 0 0 0 0) out s' (steps 7 n)
    to_closure out s' n rest =
        let below = i.below in
        let bit = i.bit in
        to_frame out s' (steps 5 n)
        (passed (tested p (st 0 0 0 0 0) comparisons.Equal (atoms.Var 20) (atoms.Num 0) true e 0 false (frame_is 0 0 0 0 0 e i.word_is) refl (ne_eqb e 0 (λ (q : e ≡ 0). (omega arith))))
        (done (computes p (st 0 0 0 0 0) (st 0 0 size 0 0) 6 functions.Word (atoms.Num 678) (atoms.Var 20) 678 e size refl (frame_is 0 0 0 0 0 e i.word_is) (cell_is 4 678 size (omega arith) refl i.size) (put_o p memory x y z 0 0 0 0 0 typed drawn output size))
        (done (computes p (st 0 0 size 0 0) (st 0 0 many 0 0) 6 functions.Div (atoms.Var 6) (atoms.Num 2) size 2 many (get_o p memory x y z 0 0 size 0 0 typed drawn output) refl (divides p memory size 2 (omega arith) (omega arith) (omega arith) ∙ ap word (omega arith)) (put_o p memory x y z 0 0 size 0 0 typed drawn output many))
        (done (computes p (st 0 0 many 0 0) (st 0 0 many first 0) 7 functions.Add (atoms.Var 20) (atoms.Num 6) e 6 first (frame_is 0 0 many 0 0 e i.word_is) refl (adds p memory e 6 first refl (omega arith)) (put_b p memory x y z 0 0 many 0 0 typed drawn output first))
        (done (computes p (st 0 0 many first 0) (st i.c 0 many first 0) 4 functions.Word (atoms.Num 680) (atoms.Var 20) 680 e i.c refl (frame_is 0 0 many first 0 e i.word_is) (cell_is 5 680 i.c (omega arith) refl i.c_is) (put_c p memory x y z 0 0 many first 0 typed drawn output i.c)) rest)))))

    -- one of the frame's own, or none, where so many are captured
    of_frame : (c l n : ℕ) → n < 32768 → length i.captured ≡ l → l ≤ n → Source sh c l many first n (get_or vars n (leaf Nil))
    of_frame c l n few_n long ge =
        let below = i.below in
        let j = n - l in
        let is : n ≡ length i.captured + j = omega arith in
        let same : get_or vars n (leaf Nil) ≡ get_or i.own j (leaf Nil) = ap (λ (vs : List Value). get_or vs n (leaf Nil)) i.vars_are ∙ behind i.captured i.own n j is in
        elim (cases_lt j (length i.own)) [
          | inl lt ↦
              let place : at_place (i.at + 6 + j) ≡ j + first = omega arith in
              own j (omega arith) lt (omega arith) (omega arith) (subst (Shows sh (j + first)) (sym same) (subst (λ (u : ℕ). Shows sh u (get_or i.own j (leaf Nil))) place (in_row (i.at + 6) j i.own lt i.row)))
          | inr over ↦ nowhere j (omega arith) over (omega arith) (same ∙ sym (none_there i.own j over))
        ]

    by_closure : (c : ℕ) → i.c ≡ c → Captured sh c i.captured → Captures p f w sh memory typed output drawn x y z cells at vars
    unfolding behind_label
    by_closure zero q none =
        finishes 0 0 many first (λ n lt. of_frame 0 0 n lt (ap length none) (omega arith)) 8 (omega arith)
        (λ out s' n rest. to_closure out s' (suc n) (subst (λ (d : ℕ). Runs p f w CAPTURE_ACTS (drop 7 CAPTURE_ACTS) (st d 0 many first 0) out s' (suc n)) (sym q)
        (taken (tested p (st 0 0 many first 0) comparisons.Equal (atoms.Var 4) (atoms.Num 0) true 0 0 true (get_c p memory x y z 0 0 many first 0 typed drawn output) refl refl) refl rest)))
    by_closure (suc d) q has =
        let c = suc d in
        let l = length i.captured in
        let within = has.within in
        let word_is = has.word_is in
        let room = map.room in
        let count_is : computed p.world.layout memory functions.Word 33440 c ≡ word l = reads_cell p.world.layout memory cells 33440 c (heap_at + (has.at + 1)) h (omega arith) (omega arith) ∙ ap word (fixed (has.at + 1) (omega arith) has.count.fixed ∙ has.count.is) in
        let source : (n : ℕ) → n < 32768 → Source sh c l many first n (get_or vars n (leaf Nil)) = λ n lt. elim (cases_lt n l) [
          | inl less ↦
              let v = in_cells (has.at + 3) n i.captured less has.values in
              let same : get_or vars n (leaf Nil) ≡ get_or i.captured n (leaf Nil) = ap (λ (vs : List Value). get_or vs n (leaf Nil)) i.vars_are ∙ in_front i.captured i.own n less in
              let place : has.at + 3 + n ≡ has.at + n + 3 = omega arith in
              captured has.at (sh.fixed (has.at + n + 3)) word_is less (omega arith) (omega arith) (record { fixed = subst (IsFixed sh) place v.0; is = refl })
              (subst (Shows sh (sh.fixed (has.at + n + 3))) (sym same) (subst (λ (k : ℕ). Shows sh (sh.fixed k) (get_or i.captured n (leaf Nil))) place v.1))
          | inr ge ↦ of_frame c l n lt refl ge
        ] in
        finishes c l many first source 9 (omega arith)
        (λ out s' n rest. to_closure out s' (suc (suc n)) (subst (λ (d' : ℕ). Runs p f w CAPTURE_ACTS (drop 7 CAPTURE_ACTS) (st d' 0 many first 0) out s' (suc (suc n))) (sym q)
        (passed (tested p (st c 0 many first 0) comparisons.Equal (atoms.Var 4) (atoms.Num 0) true c 0 false (get_c p memory x y z c 0 many first 0 typed drawn output) refl (ne_eqb c 0 (λ (k : c ≡ 0). (omega arith))))
        (done (computes p (st c 0 many first 0) (st c l many first 0) 5 functions.Word (atoms.Num 33440) (atoms.Var 4) 33440 c l refl (get_c p memory x y z c 0 many first 0 typed drawn output) count_is (put_l p memory x y z c 0 many first 0 typed drawn output l))
        (at_label rest)))))

  by_word : (u : ℕ) → cells 4 ≡ u → VarsAt sh u vars → Captures p f w sh memory typed output drawn x y z cells at vars
  by_word zero e none = no_frame e none
  by_word (suc u) e i = let there = subst (λ (k : ℕ). HasVars sh k vars) (sym e) i in by_closure there there.c refl there.closure

pub capture_works : CaptureWorks
capture_works p has f w sh memory typed output drawn cells h high fixed vars i at top low box x y z few_x few_y few_z = by_word p has.mapped f w sh memory typed output drawn cells h high fixed vars at top low box x y z few_x few_y few_z (cells 4) refl i
