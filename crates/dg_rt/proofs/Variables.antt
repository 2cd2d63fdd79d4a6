-- The routine that finds a variable does so.
use Rattle.std.proofs.Common.{◌≡◌, ℕ, zero, suc, ◌+◌, ◌-◌, ◌*◌, ◌<◌, ◌≤◌, inl, inr, Bool, true, false, List, [], ◌∷◌, ◌++◌, drop, length, Some, refl, sym, ap, ◌∙◌, subst, arith}
use Rattle.std.specs.Prelude.{get_or}
use Rattle.std.proofs.lemmas.Bool.{ne_eqb, cases_lt}
use Rattle.z_lang.specs.declared.act.Atom.TheVariants as atoms
use Rattle.z_lang.specs.declared.act.Function.TheVariants as functions
use Rattle.z_lang.specs.declared.act.Comparison.TheVariants as comparisons
use Rattle.z_lang.specs.State.{State, Program, value}
use Rattle.z_lang.specs.Acts.{computed, answer_of}
use Rattle.z_lang.specs.Runs.{ActsRun as Runs, ActsOutcome, Returns, at_label, taken, passed, done, returns, behind_label}
use Rattle.dg_meaning.specs.Values.{Value, Nil, leaf}
use Rattle.dg_rt.specs.Cells.{at_cell, Holds, compared}
use Rattle.dg_rt.specs.Areas.{heap_at, IsMapped, state}
use Rattle.dg_rt.specs.Shapes.{Shape, IsFixed, Shows, nil, Cell}
use Rattle.dg_rt.proofs.Cells.{reads_cell}
use Rattle.dg_rt.proofs.Following.{word, tested, computes, register}
use Rattle.dg_rt.proofs.Locals.{get_1, get_2, get_3, set_1, set_2, set_3, less_by, not_less_by, adds, subtracts}
use Rattle.dg_rt.specs.declared.frames.TheConstants.{VAR_ACTS}
use Rattle.dg_rt.specs.Back.{at_place}
use Rattle.dg_rt.specs.Frames.{InRow, InCells, Captured, HasVars, VarsAt, Finds, VarWorks}

-- ## Values in rows

pub in_cells : {sh : Shape} (k n : ℕ) (vs : List Value) → n < length vs → InCells sh k vs → IsFixed sh (k + n) × Shows sh (sh.fixed (k + n)) (get_or vs n (leaf Nil))
in_cells k n [] lt h = absurd (omega arith)
in_cells {sh} k zero (v ∷ vs) lt h = let q : k + 0 ≡ k = omega arith in rw q (h.0, h.1)
in_cells {sh} k (suc n) (v ∷ vs) lt h = let q : k + suc n ≡ suc k + n = omega arith in rw q (in_cells (suc k) n vs (omega arith) h.2)

pub in_row : {sh : Shape} (k n : ℕ) (vs : List Value) → n < length vs → InRow sh k vs → Shows sh (at_place (k + n)) (get_or vs n (leaf Nil))
in_row k n [] lt h = absurd (omega arith)
in_row k zero (v ∷ vs) lt h = let q : k + 0 ≡ k = omega arith in rw q h.0
in_row k (suc n) (v ∷ vs) lt h = let q : k + suc n ≡ suc k + n = omega arith in rw q (in_row (suc k) n vs (omega arith) h.1)

pub in_front : (xs ys : List Value) (n : ℕ) → n < length xs → get_or (xs ++ ys) n (leaf Nil) ≡ get_or xs n (leaf Nil)
in_front [] ys n lt = absurd (omega arith)
in_front (x ∷ xs) ys zero lt = refl
in_front (x ∷ xs) ys (suc n) lt = in_front xs ys n (omega arith)

pub behind : (xs ys : List Value) (n k : ℕ) → n ≡ length xs + k → get_or (xs ++ ys) n (leaf Nil) ≡ get_or ys k (leaf Nil)
behind [] ys n k e = ap (λ (i : ℕ). get_or ys i (leaf Nil)) (omega arith)
behind (x ∷ xs) ys zero k e = absurd (omega arith)
behind (x ∷ xs) ys (suc n) k e = behind xs ys n k (omega arith)

pub none_there : (ys : List Value) (k : ℕ) → length ys ≤ k → leaf Nil ≡ get_or ys k (leaf Nil)
none_there [] k le = refl
none_there (y ∷ ys) zero le = absurd (omega arith)
none_there (y ∷ ys) (suc k) le = none_there ys k (omega arith)

module _ (p : Program) (map : IsMapped p) (f w : ℕ) (sh : Shape) (memory typed output : List ℕ) (drawn : ℕ) (cells : ℕ → ℕ) (h : Holds p.world.layout memory cells) (fixed : (k : ℕ) → k < 10000 → IsFixed sh k → cells (heap_at + k) ≡ sh.fixed k) (n : ℕ) (small : n ≤ 16000) (high : sh.top ≤ 10000) where
  abbrev now : ℕ → ℕ → ℕ → State
  now a b c = state memory (a ∷ b ∷ c ∷ 0 ∷ []) typed drawn output

  frame_is : (a b c x : ℕ) → cells 4 ≡ x → value p (now a b c) (atoms.Var 20) ≡ word x
  frame_is a b c x e = let room = map.room in register p (now a b c) cells 20 h (omega arith) (omega arith) (omega arith) ∙ ap word e

  -- a cell of a frame
  reads_frame : (at i base x : ℕ) → base ≡ at_cell (heap_at + i) → at + i < 10000 → Cell sh (at + i) x → computed p.world.layout memory functions.Word base (at_place at) ≡ word x
  reads_frame at i base x e lt c = let room = map.room in reads_cell p.world.layout memory cells base (at_place at) (heap_at + (at + i)) h (omega arith) (omega arith) ∙ ap word (fixed (at + i) lt c.fixed ∙ c.is)

  reads_box : (at i base y x : ℕ) → base ≡ at_cell (heap_at + i) + 32768 → y ≡ 49152 + at → at + i < 10000 → Cell sh (at + i) x → computed p.world.layout memory functions.Word base y ≡ word x
  reads_box at i base y x e e' lt c = let room = map.room in reads_cell p.world.layout memory cells base y (heap_at + (at + i)) h (omega arith) (omega arith) ∙ ap word (fixed (at + i) lt c.fixed ∙ c.is)

  none : cells 4 ≡ 0 → Finds p f w sh memory typed output drawn n (leaf Nil)
  unfolding behind_label
  none e = record {
    word = 28672;
    shows = nil;
    locals' = n ∷ 0 ∷ 0 ∷ 0 ∷ [];
    count = 2;
    runs = taken (tested p (now n 0 0) comparisons.Equal (atoms.Var 20) (atoms.Num 0) true 0 0 true (frame_is n 0 0 0 e) refl refl) refl (returns refl);
    few = omega arith;
  }

  module _ (vars : List Value) (i : HasVars sh (cells 4) vars) where
    abbrev e : ℕ
    e = at_place i.at

    -- up to the closure
    to_closure : (o : ActsOutcome) (s' : State) (k : ℕ) → Runs p f w VAR_ACTS (drop 2 VAR_ACTS) (now n i.c 0) o s' k → Runs p f w VAR_ACTS VAR_ACTS (now n 0 0) o s' (suc (suc k))
    to_closure o s' k rest =
        let below = i.below in
        passed (tested p (now n 0 0) comparisons.Equal (atoms.Var 20) (atoms.Num 0) true e 0 false (frame_is n 0 0 e i.word_is) refl (ne_eqb e 0 (λ (q : e ≡ 0). (omega arith))))
        (done (computes p (now n 0 0) (now n i.c 0) 2 functions.Word (atoms.Num 680) (atoms.Var 20) 680 e i.c refl (frame_is n 0 0 e i.word_is) (reads_frame i.at 5 680 i.c refl (omega arith) i.c_is) (set_2 p memory n 0 0 0 i.c typed drawn output)) rest)

    -- one of the frame's own, of which there may be none of that number
    pub record Own (a b c j : ℕ) : Type 0 where
      pub word : ℕ
      pub shows : Shows sh word (get_or i.own j (leaf Nil))
      pub locals' : List ℕ
      pub count : ℕ
      pub runs : Runs p f w VAR_ACTS (drop 7 VAR_ACTS) (now j b c) (Returns word) (state memory locals' typed drawn output) count
      pub few : count ≤ 7

    abbrev size : ℕ
    size = 2 * length i.own + i.many

    to_test : (b c j : ℕ) → j ≤ 16000 → (o : ActsOutcome) (s' : State) (k : ℕ) → Runs p f w VAR_ACTS (drop 10 VAR_ACTS) (now j (j + j + 1) size) o s' k → Runs p f w VAR_ACTS (drop 7 VAR_ACTS) (now j b c) o s' (suc (suc (suc k)))
    to_test b c j le o s' k rest =
        let below = i.below in
        done (computes p (now j b c) (now j b size) 3 functions.Word (atoms.Num 678) (atoms.Var 20) 678 e size refl (frame_is j b c e i.word_is) (reads_frame i.at 4 678 size refl (omega arith) i.size) (set_3 p memory j b c 0 size typed drawn output))
        (done (computes p (now j b size) (now j (j + j) size) 2 functions.Add (atoms.Var 1) (atoms.Var 1) j j (j + j) (get_1 p memory j b size 0 typed drawn output) (get_1 p memory j b size 0 typed drawn output) (adds p memory j j (j + j) refl (omega arith)) (set_2 p memory j b size 0 (j + j) typed drawn output))
        (done (computes p (now j (j + j) size) (now j (j + j + 1) size) 2 functions.Add (atoms.Var 2) (atoms.Num 1) (j + j) 1 (j + j + 1) (get_2 p memory j (j + j) size 0 typed drawn output) refl (adds p memory (j + j) 1 (j + j + 1) refl (omega arith)) (set_2 p memory j (j + j) size 0 (j + j + 1) typed drawn output))
        rest))

    is_less : (j : ℕ) (b : Bool) → compared comparisons.Less (j + j + 1) size ≡ b → answer_of p (now j (j + j + 1) size) (record { comparison = comparisons.Less; first = atoms.Var 2; second = atoms.Var 3; answer = false }) ≡ Some b
    is_less j b q = tested p (now j (j + j + 1) size) comparisons.Less (atoms.Var 2) (atoms.Var 3) false (j + j + 1) size b (get_2 p memory j (j + j + 1) size 0 typed drawn output) (get_3 p memory j (j + j + 1) size 0 typed drawn output) q

    own : (b c j : ℕ) → j ≤ 16000 → Own j b c j
    unfolding behind_label
    own b c j le =
        let below = i.below in
        let bit = i.bit in
        elim (cases_lt j (length i.own)) [
          | inl lt ↦ record {
            word = at_place (i.at + 6 + j);
            shows = in_row (i.at + 6) j i.own lt i.row;
            locals' = at_place (i.at + 6 + j) ∷ (j + j + 1) ∷ size ∷ 0 ∷ [];
            count = 7;
            runs = to_test b c j le (Returns (at_place (i.at + 6 + j))) (now (at_place (i.at + 6 + j)) (j + j + 1) size) 4
                (passed (is_less j true (less_by (j + j + 1) size (omega arith) (omega arith) (omega arith)))
                (done (computes p (now j (j + j + 1) size) (now (j + e) (j + j + 1) size) 1 functions.Add (atoms.Var 1) (atoms.Var 20) j e (j + e) (get_1 p memory j (j + j + 1) size 0 typed drawn output) (frame_is j (j + j + 1) size e i.word_is) (adds p memory j e (j + e) refl (omega arith)) (set_1 p memory j (j + j + 1) size 0 (j + e) typed drawn output))
                (done (computes p (now (j + e) (j + j + 1) size) (now (at_place (i.at + 6 + j)) (j + j + 1) size) 1 functions.Add (atoms.Var 1) (atoms.Num 6) (j + e) 6 (at_place (i.at + 6 + j)) (get_1 p memory (j + e) (j + j + 1) size 0 typed drawn output) refl (adds p memory (j + e) 6 (at_place (i.at + 6 + j)) (omega arith) (omega arith)) (set_1 p memory (j + e) (j + j + 1) size 0 (at_place (i.at + 6 + j)) typed drawn output))
                (returns (get_1 p memory (at_place (i.at + 6 + j)) (j + j + 1) size 0 typed drawn output)))));
            few = omega arith;
          }
          | inr ge ↦ record {
            word = 28672;
            shows = subst (Shows sh 28672) (none_there i.own j ge) nil;
            locals' = j ∷ (j + j + 1) ∷ size ∷ 0 ∷ [];
            count = 5;
            runs = to_test b c j le (Returns 28672) (now j (j + j + 1) size) 2
                (taken (is_less j false (not_less_by (j + j + 1) size (omega arith) (omega arith) (omega arith))) refl (returns refl));
            few = omega arith;
          }
        ]

    -- with its closure, if it has one
    by_closure : (c : ℕ) → i.c ≡ c → Captured sh c i.captured → Finds p f w sh memory typed output drawn n (get_or vars n (leaf Nil))
    unfolding behind_label
    by_closure zero q none_captured =
        let r = own 0 0 n small in
        let few' = r.few in
        let same : get_or vars n (leaf Nil) ≡ get_or i.own n (leaf Nil) = ap (λ (l : List Value). get_or l n (leaf Nil)) i.vars_are ∙ ap (λ (l : List Value). get_or (l ++ i.own) n (leaf Nil)) none_captured in
        subst (Finds p f w sh memory typed output drawn n) (sym same) (record {
          word = r.word;
          shows = r.shows;
          locals' = r.locals';
          count = suc (suc (suc r.count));
          runs = to_closure (Returns r.word) (state memory r.locals' typed drawn output) (suc r.count)
              (subst (λ (x : ℕ). Runs p f w VAR_ACTS (drop 2 VAR_ACTS) (now n x 0) (Returns r.word) (state memory r.locals' typed drawn output) (suc r.count)) (sym q)
              (taken (tested p (now n 0 0) comparisons.Equal (atoms.Var 2) (atoms.Num 0) true 0 0 true (get_2 p memory n 0 0 0 typed drawn output) refl refl) refl r.runs));
          few = omega arith;
        })
    by_closure (suc d) q has =
        let c = suc d in
        let l = length i.captured in
        let within = has.within in
        let box = has.word_is in
        let nodes = i.below in
        let on : (b : Bool) → compared comparisons.Less n l ≡ b → (o : ActsOutcome) (s' : State) (k : ℕ) → Runs p f w VAR_ACTS (drop 5 VAR_ACTS) (now n c l) o s' k → compared comparisons.Less n l ≡ false → Runs p f w VAR_ACTS (drop 2 VAR_ACTS) (now n i.c 0) o s' (suc (suc (suc k))) = λ b e' o s' k rest false_it.
        subst (λ (x : ℕ). Runs p f w VAR_ACTS (drop 2 VAR_ACTS) (now n x 0) o s' (suc (suc (suc k)))) (sym q)
        (passed (tested p (now n c 0) comparisons.Equal (atoms.Var 2) (atoms.Num 0) true c 0 false (get_2 p memory n c 0 0 typed drawn output) refl (ne_eqb c 0 (λ (z : c ≡ 0). (omega arith))))
        (done (computes p (now n c 0) (now n c l) 3 functions.Word (atoms.Num 33440) (atoms.Var 2) 33440 c l refl (get_2 p memory n c 0 0 typed drawn output) (reads_box has.at 1 33440 c l refl box (omega arith) has.count) (set_3 p memory n c 0 0 l typed drawn output))
        (passed (tested p (now n c l) comparisons.Less (atoms.Var 1) (atoms.Var 3) true n l false (get_1 p memory n c l 0 typed drawn output) (get_3 p memory n c l 0 typed drawn output) false_it) rest))) in
        elim (cases_lt n l) [
          | inl lt ↦
              let v = in_cells (has.at + 3) n i.captured lt has.values in
              let x = sh.fixed (has.at + 3 + n) in
              let less = less_by n l (omega arith) (omega arith) lt in
              let there : sh.fixed (has.at + n + 3) ≡ x = ap sh.fixed (omega arith) in
              let fixed_there : IsFixed sh (has.at + n + 3) = subst (IsFixed sh) (let z : has.at + 3 + n ≡ has.at + n + 3 = omega arith in z) v.0 in
              let same : get_or vars n (leaf Nil) ≡ get_or i.captured n (leaf Nil) = ap (λ (vs : List Value). get_or vs n (leaf Nil)) i.vars_are ∙ in_front i.captured i.own n lt in
              subst (Finds p f w sh memory typed output drawn n) (sym same) (record {
                word = x;
                shows = v.1;
                locals' = x ∷ c ∷ l ∷ 0 ∷ [];
                count = 8;
                runs = to_closure (Returns x) (now x c l) 6
                    (subst (λ (z : ℕ). Runs p f w VAR_ACTS (drop 2 VAR_ACTS) (now n z 0) (Returns x) (now x c l) 6) (sym q)
                    (passed (tested p (now n c 0) comparisons.Equal (atoms.Var 2) (atoms.Num 0) true c 0 false (get_2 p memory n c 0 0 typed drawn output) refl (ne_eqb c 0 (λ (z : c ≡ 0). (omega arith))))
                    (done (computes p (now n c 0) (now n c l) 3 functions.Word (atoms.Num 33440) (atoms.Var 2) 33440 c l refl (get_2 p memory n c 0 0 typed drawn output) (reads_box has.at 1 33440 c l refl box (omega arith) has.count) (set_3 p memory n c 0 0 l typed drawn output))
                    (taken (tested p (now n c l) comparisons.Less (atoms.Var 1) (atoms.Var 3) true n l true (get_1 p memory n c l 0 typed drawn output) (get_3 p memory n c l 0 typed drawn output) less) refl
                    (done (computes p (now n c l) (now (n + c) c l) 1 functions.Add (atoms.Var 1) (atoms.Var 2) n c (n + c) (get_1 p memory n c l 0 typed drawn output) (get_2 p memory n c l 0 typed drawn output) (adds p memory n c (n + c) refl (omega arith)) (set_1 p memory n c l 0 (n + c) typed drawn output))
                    (done (computes p (now (n + c) c l) (now x c l) 1 functions.Word (atoms.Num 33444) (atoms.Var 1) 33444 (n + c) x refl (get_1 p memory (n + c) c l 0 typed drawn output) (reads_box (has.at + n) 3 33444 (n + c) x refl (omega arith) (omega arith) (record { fixed = fixed_there; is = there })) (set_1 p memory (n + c) c l 0 x typed drawn output))
                    (returns (get_1 p memory x c l 0 typed drawn output))))))));
                few = omega arith;
              })
          | inr ge ↦
              let r = own c l (n - l) (omega arith) in
              let few' = r.few in
              let not_it = not_less_by n l (omega arith) (omega arith) ge in
              let same : get_or vars n (leaf Nil) ≡ get_or i.own (n - l) (leaf Nil) = ap (λ (vs : List Value). get_or vs n (leaf Nil)) i.vars_are ∙ behind i.captured i.own n (n - l) (omega arith) in
              subst (Finds p f w sh memory typed output drawn n) (sym same) (record {
                word = r.word;
                shows = r.shows;
                locals' = r.locals';
                count = suc (suc (suc (suc (suc (suc r.count)))));
                runs = to_closure (Returns r.word) (state memory r.locals' typed drawn output) (suc (suc (suc (suc r.count))))
                    (on false not_it (Returns r.word) (state memory r.locals' typed drawn output) (suc r.count)
                    (done (computes p (now n c l) (now (n - l) c l) 1 functions.Sub (atoms.Var 1) (atoms.Var 3) n l (n - l) (get_1 p memory n c l 0 typed drawn output) (get_3 p memory n c l 0 typed drawn output) (subtracts p memory n l (n - l) (omega arith) (omega arith)) (set_1 p memory n c l 0 (n - l) typed drawn output))
                    (at_label r.runs)) not_it);
                few = omega arith;
              })
        ]

  by_word : (x : ℕ) → cells 4 ≡ x → (vars : List Value) → VarsAt sh x vars → Finds p f w sh memory typed output drawn n (get_or vars n (leaf Nil))
  by_word zero e vars none_there = subst (λ (vs : List Value). Finds p f w sh memory typed output drawn n (get_or vs n (leaf Nil))) (sym none_there) (none e)
  by_word (suc x) e vars i = let there = subst (λ (y : ℕ). HasVars sh y vars) (sym e) i in by_closure vars there there.c refl there.closure

  -- A variable of the code at hand is found.
  pub finds : (vars : List Value) → VarsAt sh (cells 4) vars → Finds p f w sh memory typed output drawn n (get_or vars n (leaf Nil))
  finds vars i = by_word (cells 4) refl vars i

pub var_works : VarWorks
var_works p has f w sh memory typed output drawn cells h high fixed vars i n small = finds p has.mapped f w sh memory typed output drawn cells h fixed n small high vars i
