-- The routine that goes back to the newest choice does so.
use Rattle.std.proofs.Common.{◌≡◌, ◌≢◌, ℕ, zero, suc, ◌+◌, ◌-◌, ◌<◌, ◌≤◌, true, false, List, [], ◌∷◌, ◌++◌, drop, length, refl, ap, ◌∙◌, subst, arith, length-append}
use Rattle.std.proofs.lemmas.Bool.{ne_eqb}
use Rattle.z_lang.specs.declared.act.Atom.TheVariants as atoms
use Rattle.z_lang.specs.declared.act.Function.TheVariants as functions
use Rattle.z_lang.specs.declared.act.Comparison.TheVariants as comparisons
use Rattle.z_lang.specs.State.{State, Program, value}
use Rattle.z_lang.specs.Runs.{ActsRun as Runs, Returns, taken, passed, done, calls, returns, behind_label}
use Rattle.dg_rt.specs.declared.numbers.TheConstants.{FAILED}
use Rattle.dg_rt.specs.declared.choices.TheConstants.{FAIL_ACTS}
use Rattle.dg_rt.specs.Cells.{with_cell, replaced, Holds}
use Rattle.dg_rt.specs.Areas.{heap_at, trail_at, args_reg, IsMapped, state}
use Rattle.dg_rt.specs.Back.{at_place, OnTrail}
use Rattle.dg_rt.specs.RunTime.{HasRunTime}
use Rattle.dg_rt.specs.Undoes.{InHeap}
use Rattle.dg_rt.specs.Choices.{GoesBack, FailWorks}
use Rattle.dg_rt.specs.inside.Walks.{steps}
use Rattle.dg_rt.proofs.Backs.{undone_same, trail_stays}
use Rattle.dg_rt.proofs.Cells.{reads_cell, other_cell, same_cell}
use Rattle.dg_rt.proofs.Following.{word, tested, computes, copies, register, puts}
use Rattle.dg_rt.proofs.Locals.{get_1, get_2, get_3, set_1, set_2, set_3, subtracts}
use Rattle.dg_rt.proofs.Standing.{undo_at}
use Rattle.dg_rt.proofs.Unwinding.{undo_works}
use Rattle.dg_rt.proofs.Loading.{Ascend, AreLoaded, Avoids, loaded_same, loads}

pub in_heap : (cells : ℕ → ℕ) (xs ys : List ℕ) → OnTrail cells (xs ++ ys) → InHeap xs
in_heap cells [] ys h = tt
in_heap cells (x ∷ xs) ys h = (h.0.1, in_heap cells xs ys h.1)

-- So many registers and fields in a row.
abbrev in_a_row : ℕ → ℕ → ℕ → List (ℕ × ℕ)
in_a_row v i zero = []
in_a_row v i (suc n) = (v, i) ∷ in_a_row (suc v) (suc i) n

-- The registers and fields that are put back: before the place to which a rule cuts, behind it, and those of arguments.
abbrev put_first : List (ℕ × ℕ)
put_first = (20, 2) ∷ (21, 0) ∷ (22, 3) ∷ (23, 4) ∷ (24, 7) ∷ []

abbrev put_two : List (ℕ × ℕ)
put_two = (26, 8) ∷ (27, 9) ∷ []

abbrev put_args : List (ℕ × ℕ)
put_args = in_a_row 32 10 12

abbrev put_last : List (ℕ × ℕ)
put_last = (45, 6) ∷ []

ascends_first : Ascend 20 put_first
ascends_first = (omega arith, omega arith, omega arith, (omega arith, omega arith, omega arith, (omega arith, omega arith, omega arith, (omega arith, omega arith, omega arith, (omega arith, omega arith, omega arith, tt)))))

ascends_row : (v i n : ℕ) → v + n ≤ 240 → i + n ≤ 22 → Ascend v (in_a_row v i n)
ascends_row v i zero a b = tt
ascends_row v i (suc n) a b = (omega arith, omega arith, omega arith, ascends_row (suc v) (suc i) n (omega arith) (omega arith))

ascends_two : Ascend 26 put_two
ascends_two = (omega arith, omega arith, omega arith, (omega arith, omega arith, omega arith, tt))

higher : (v w : ℕ) (xs : List (ℕ × ℕ)) → v ≤ w → Ascend w xs → Ascend v xs
higher v w [] le up = tt
higher v w (x ∷ xs) le up = (let a = up.0 in omega arith, up.1, up.2, up.3)

ascends_args : Ascend 29 put_args
ascends_args = higher 29 32 put_args (omega arith) (ascends_row 32 10 12 (omega arith) (omega arith))

ascends_last : Ascend 44 put_last
ascends_last = (omega arith, omega arith, omega arith, tt)

-- Registers in front of one.
abbrev Below : ℕ → List (ℕ × ℕ) → Type 0
Below v [] = Unit {0}
Below v (x ∷ xs) = (x.0 < v) × Below v xs

below_row : (v i n : ℕ) → v + n ≤ 44 → Below 44 (in_a_row v i n)
below_row v i zero le = tt
below_row v i (suc n) le = (omega arith, below_row (suc v) (suc i) n (omega arith))

-- what is loaded stays where later registers are put
loaded_before : (at : ℕ) (xs : List (ℕ × ℕ)) (c c' c2 : ℕ → ℕ) (v : ℕ) → 16 < v → ((k : ℕ) → k + 16 < v → c2 k ≡ c' k) → Below v xs → AreLoaded c c' at xs → AreLoaded c c2 at xs
loaded_before at [] c c' c2 v some same low h = tt
loaded_before at (x ∷ xs) c c' c2 v some same low h = (let a = low.0 in same (x.0 - 16) (omega arith) ∙ h.0, loaded_before at xs c c' c2 v some same low.1 h.1)

-- what comes behind a row is none of it
avoids_row : (k v i n : ℕ) → 16 ≤ v → v + n ≤ k + 16 → Avoids k (in_a_row v i n)
avoids_row k v i zero le behind = tt
avoids_row k v i (suc n) le behind = (λ (e : k ≡ v - 16). (omega arith), avoids_row k (suc v) (suc i) n (omega arith) (omega arith))

avoids_first : (k : ℕ) → 27 < k → Avoids k put_first
avoids_first k far = (λ e. (omega arith), (λ e. (omega arith), (λ e. (omega arith), (λ e. (omega arith), (λ e. (omega arith), tt)))))

avoids_two : (k : ℕ) → 27 < k → Avoids k put_two
avoids_two k far = (λ e. (omega arith), (λ e. (omega arith), tt))

-- what is loaded in a row, by its number
row_at : (c c' : ℕ → ℕ) (at v i n : ℕ) → 16 ≤ v → AreLoaded c c' at (in_a_row v i n) → (j : ℕ) → j < n → c' (v - 16 + j) ≡ c (heap_at + (at + (i + j)))
row_at c c' at v i zero le h j lt = absurd (omega arith)
row_at c c' at v i (suc n) le h zero lt =
    let a : v - 16 ≡ v - 16 + 0 = omega arith in
    let b : heap_at + (at + i) ≡ heap_at + (at + (i + 0)) = omega arith in
    subst (λ (x : ℕ). c' x ≡ c (heap_at + (at + (i + 0)))) a (subst (λ (y : ℕ). c' (v - 16) ≡ c y) b h.0)
row_at c c' at v i (suc n) le h (suc j) lt =
    let a : suc v - 16 + j ≡ v - 16 + suc j = omega arith in
    let b : heap_at + (at + (suc i + j)) ≡ heap_at + (at + (i + suc j)) = omega arith in
    subst (λ (x : ℕ). c' x ≡ c (heap_at + (at + (i + suc j)))) a (subst (λ (y : ℕ). c' (suc v - 16 + j) ≡ c y) b (row_at c c' at (suc v) (suc i) n (omega arith) h.1 j (omega arith)))

module _ (p : Program) (has : HasRunTime p) (f w : ℕ) (some : 0 < f) (enough : 2 ≤ w) (memory typed output : List ℕ) (drawn at : ℕ) (c : ℕ → ℕ) (old newer : List ℕ) (holds : Holds p.world.layout memory c)
    (here : c 5 ≡ at_place at) (fits : at + 10 ≤ 10000) (its_trail : c (heap_at + (at + 5)) ≡ length old) (height : c 1 ≡ length (newer ++ old)) (few_trail : length (newer ++ old) ≤ 2000) (on : OnTrail c (newer ++ old)) where
  abbrev left : ℕ
  left = length old

  abbrev routine : ℕ
  routine = c (heap_at + (at + 1))

  abbrev st : List ℕ → ℕ → ℕ → ℕ → State
  st m a b d = state m (a ∷ b ∷ d ∷ 0 ∷ []) typed drawn output

  choice_is : (a b d : ℕ) → value p (st memory a b d) (atoms.Var 21) ≡ word (at_place at)
  choice_is a b d = let room = has.mapped.room in register p (st memory a b d) c 21 holds (omega arith) (omega arith) (omega arith) ∙ ap word here

  -- What is kept is in registers, and the bindings stand yet.
  record Restored : Type 0 where
    memory' : List ℕ
    cells' : ℕ → ℕ
    holds' : Holds p.world.layout memory' cells'
    two : cells' 2 ≡ at_place at
    three : cells' 3 ≡ at
    nine : cells' 9 ≡ at_place at
    first : AreLoaded c cells' at put_first
    pair : AreLoaded c cells' at put_two
    args : AreLoaded c cells' at put_args
    twelve : cells' 12 ≡ 0
    one : cells' 1 ≡ c 1
    far : (k : ℕ) → 302 < k → cells' k ≡ c k
    behind : (k : ℕ) → 27 < k → cells' k ≡ c k
    runs : (s' : State) (n : ℕ) → Runs p f w FAIL_ACTS (drop 27 FAIL_ACTS) (st memory' (at_place at) left routine) (Returns routine) s' n → Runs p f w FAIL_ACTS FAIL_ACTS (st memory 0 0 0) (Returns routine) s' (steps 27 n)

  restored : Restored
  restored =
      let room = has.mapped.room in
      let v = at_place at in
      let locals = v ∷ left ∷ routine ∷ 0 ∷ [] in
      let put2 = puts p (st memory v left routine) c 18 v holds (omega arith) (omega arith) (omega arith) (omega arith) in
      let m1 = with_cell memory 2 v in
      let c1 = replaced c 2 v in
      let put3 = puts p (st m1 v left routine) c1 19 at put2.holds (omega arith) (omega arith) (omega arith) (omega arith) in
      let m2 = with_cell m1 3 at in
      let c2 = replaced c1 3 at in
      let far2 : (k : ℕ) → 302 < k → c2 k ≡ c k = λ k q. other_cell c1 3 at k (λ e. (omega arith)) ∙ other_cell c 2 v k (λ e. (omega arith)) in
      let r1 = loads p has.mapped f w locals typed output drawn at (omega arith) (λ mem. get_1 p mem v left routine 0 typed drawn output) FAIL_ACTS (drop 11 FAIL_ACTS) 20 put_first m2 c2 c put3.holds (omega arith) ascends_first far2 in
      let far3 : (k : ℕ) → 302 < k → r1.cells' k ≡ c k = λ k q. r1.others k (λ q'. q) ∙ far2 k q in
      let put9 = puts p (st r1.memory' v left routine) r1.cells' 25 v r1.holds (omega arith) (omega arith) (omega arith) (omega arith) in
      let m4 = with_cell r1.memory' 9 v in
      let c4 = replaced r1.cells' 9 v in
      let far4 : (k : ℕ) → 302 < k → c4 k ≡ c k = λ k q. other_cell r1.cells' 9 v k (λ e. (omega arith)) ∙ far3 k q in
      let r2 = loads p has.mapped f w locals typed output drawn at (omega arith) (λ mem. get_1 p mem v left routine 0 typed drawn output) FAIL_ACTS (drop 14 FAIL_ACTS) 26 put_two m4 c4 c put9.holds (omega arith) ascends_two far4 in
      let put12 = puts p (st r2.memory' v left routine) r2.cells' 28 0 r2.holds (omega arith) (omega arith) (omega arith) (omega arith) in
      let m5 = with_cell r2.memory' 12 0 in
      let c5 = replaced r2.cells' 12 0 in
      let far5 : (k : ℕ) → 302 < k → c5 k ≡ c k = λ k q. other_cell r2.cells' 12 0 k (λ e. (omega arith)) ∙ r2.others k (λ q'. q) ∙ far4 k q in
      let r3 = loads p has.mapped f w locals typed output drawn at (omega arith) (λ mem. get_1 p mem v left routine 0 typed drawn output) FAIL_ACTS (drop 27 FAIL_ACTS) 29 put_args m5 c5 c put12.holds (omega arith) ascends_args far5 in
      let late : (k : ℕ) → k < 12 → r3.cells' k ≡ r2.cells' k = λ k low. r3.others k (λ q. (omega arith)) ∙ other_cell r2.cells' 12 0 k (λ e. (omega arith)) in
      let early : (k : ℕ) → k < 9 → r3.cells' k ≡ r1.cells' k = λ k low. late k (omega arith) ∙ r2.others k (λ q. (omega arith)) ∙ other_cell r1.cells' 9 v k (λ e. (omega arith)) in
      let two_are = r2.are in
      let are = r1.are in
      record {
        memory' = r3.memory';
        cells' = r3.cells';
        holds' = r3.holds;
        two = early 2 (omega arith) ∙ r1.others 2 (λ q. (omega arith)) ∙ other_cell c1 3 at 2 (λ e. (omega arith)) ∙ same_cell c 2 v;
        three = early 3 (omega arith) ∙ r1.others 3 (λ q. (omega arith)) ∙ same_cell c1 3 at;
        nine = late 9 (omega arith) ∙ r2.others 9 (λ q. (omega arith)) ∙ same_cell r1.cells' 9 v;
        first = loaded_same at put_first c2 c r3.cells' far2 (early 4 (omega arith) ∙ are.0, (early 5 (omega arith) ∙ are.1.0, (early 6 (omega arith) ∙ are.1.1.0, (early 7 (omega arith) ∙ are.1.1.1.0, (early 8 (omega arith) ∙ are.1.1.1.1.0, tt)))));
        pair = loaded_same at put_two c4 c r3.cells' far4 (late 10 (omega arith) ∙ two_are.0, (late 11 (omega arith) ∙ two_are.1.0, tt));
        args = loaded_same at put_args c5 c r3.cells' far5 r3.are;
        twelve = r3.others 12 (λ q. (omega arith)) ∙ same_cell r2.cells' 12 0;
        one = early 1 (omega arith) ∙ r1.others 1 (λ q. (omega arith)) ∙ other_cell c1 3 at 1 (λ e. (omega arith)) ∙ other_cell c 2 v 1 (λ e. (omega arith));
        far = λ k q. r3.others k (λ q'. q) ∙ far5 k q;
        behind = λ k q.
            r3.kept k (avoids_row k 32 10 12 (omega arith) (omega arith)) ∙ other_cell r2.cells' 12 0 k (λ e. (omega arith)) ∙ r2.kept k (avoids_two k q) ∙ other_cell r1.cells' 9 v k (λ e. (omega arith)) ∙ r1.kept k (avoids_first k q)
            ∙ other_cell c1 3 at k (λ e. (omega arith)) ∙ other_cell c 2 v k (λ e. (omega arith));
        runs = λ s' n r'.
            passed (tested p (st memory 0 0 0) comparisons.Equal (atoms.Var 21) (atoms.Num 0) true v 0 false (choice_is 0 0 0) refl (ne_eqb v 0 (λ (z : v ≡ 0). (omega arith))))
            (done (copies p (st memory 0 0 0) (st memory v 0 0) 1 (atoms.Var 21) v (choice_is 0 0 0) (set_1 p memory 0 0 0 0 v typed drawn output))
            (done (computes p (st memory v 0 0) (st memory v left 0) 2 functions.Word (atoms.Num 680) (atoms.Var 1) 680 v left refl (get_1 p memory v 0 0 0 typed drawn output) (reads_cell p.world.layout memory c 680 v (heap_at + (at + 5)) holds (omega arith) (omega arith) ∙ ap word its_trail) (set_2 p memory v 0 0 0 left typed drawn output))
            (done (computes p (st memory v left 0) (st memory v left routine) 3 functions.Word (atoms.Num 672) (atoms.Var 1) 672 v routine refl (get_1 p memory v left 0 0 typed drawn output) (reads_cell p.world.layout memory c 672 v (heap_at + (at + 1)) holds (omega arith) (omega arith)) (set_3 p memory v left 0 0 routine typed drawn output))
            (done (copies p (st memory v left routine) (st m1 v left routine) 18 (atoms.Var 1) v (get_1 p memory v left routine 0 typed drawn output) put2.put_is)
            (done (computes p (st m1 v left routine) (st m2 v left routine) 19 functions.Sub (atoms.Var 1) (atoms.Num 32768) v 32768 at (get_1 p m1 v left routine 0 typed drawn output) refl (subtracts p m1 v 32768 at (omega arith) (omega arith)) put3.put_is)
            (r1.runs (Returns routine) s' (suc (steps 2 (suc (steps 12 n))))
            (done (copies p (st r1.memory' v left routine) (st m4 v left routine) 25 (atoms.Var 1) v (get_1 p r1.memory' v left routine 0 typed drawn output) put9.put_is)
            (r2.runs (Returns routine) s' (suc (steps 12 n))
            (done (copies p (st r2.memory' v left routine) (st m5 v left routine) 28 (atoms.Num 0) 0 refl put12.put_is)
            (r3.runs (Returns routine) s' n r'))))))))));
      }

  -- The gathering is in its register too.
  record Complete : Type 0 where
    memory' : List ℕ
    cells' : ℕ → ℕ
    holds' : Holds p.world.layout memory' cells'
    two : cells' 2 ≡ at_place at
    three : cells' 3 ≡ at
    nine : cells' 9 ≡ at_place at
    first : AreLoaded c cells' at put_first
    pair : AreLoaded c cells' at put_two
    args : AreLoaded c cells' at put_args
    twelve : cells' 12 ≡ 0
    gather : cells' 29 ≡ c (heap_at + (at + 6))
    one : cells' 1 ≡ c 1
    far : (k : ℕ) → 302 < k → cells' k ≡ c k
    behind : (k : ℕ) → 27 < k → k ≢ 29 → cells' k ≡ c k
    runs : (s' : State) (n : ℕ) → Runs p f w FAIL_ACTS (drop 28 FAIL_ACTS) (st memory' (at_place at) left routine) (Returns routine) s' n → Runs p f w FAIL_ACTS FAIL_ACTS (st memory 0 0 0) (Returns routine) s' (steps 27 (suc n))

  completes : (a : Restored) → Complete
  completes a =
      let v = at_place at in
      let r = loads p has.mapped f w (v ∷ left ∷ routine ∷ 0 ∷ []) typed output drawn at (omega arith) (λ mem. get_1 p mem v left routine 0 typed drawn output) FAIL_ACTS (drop 28 FAIL_ACTS) 44 put_last a.memory' a.cells' c a.holds' (omega arith) ascends_last a.far in
      let same : (k : ℕ) → k + 16 < 44 → r.cells' k ≡ a.cells' k = λ k lt. r.others k (λ q. (omega arith)) in
      let are = r.are in
      record {
        memory' = r.memory';
        cells' = r.cells';
        holds' = r.holds;
        two = same 2 (omega arith) ∙ a.two;
        three = same 3 (omega arith) ∙ a.three;
        nine = same 9 (omega arith) ∙ a.nine;
        first = loaded_before at put_first c a.cells' r.cells' 44 (omega arith) same (omega arith, (omega arith, (omega arith, (omega arith, (omega arith, tt))))) a.first;
        pair = loaded_before at put_two c a.cells' r.cells' 44 (omega arith) same (omega arith, (omega arith, tt)) a.pair;
        args = loaded_before at put_args c a.cells' r.cells' 44 (omega arith) same (below_row 32 10 12 (omega arith)) a.args;
        twelve = same 12 (omega arith) ∙ a.twelve;
        gather = are.0 ∙ a.far (heap_at + (at + 6)) (omega arith);
        one = same 1 (omega arith) ∙ a.one;
        far = λ k q. r.others k (λ q'. q) ∙ a.far k q;
        behind = λ k q away. r.kept k (λ e. away e, tt) ∙ a.behind k q;
        runs = λ s' n r'. a.runs s' (suc n) (r.runs (Returns routine) s' n r');
      }

  goes_back : GoesBack p f w memory typed output drawn at c old newer
  goes_back =
      let a = completes restored in
      let long = length-append newer old in
      let on' = trail_stays c a.cells' (newer ++ old) (λ i low. a.far (trail_at + i) (omega arith)) on in
      let one = a.one in
      let u = undo_works p has.mapped 0 0 typed output drawn old newer a.memory' a.cells' 0 a.holds' (omega arith) few_trail on' (in_heap a.cells' newer old on') in
      let low : (k : ℕ) → k ≢ 1 → k < 303 → u.cells' k ≡ a.cells' k = λ k ne below. u.others k ne (λ le. (omega arith)) in
      let f1 = a.first in
      let f2 = a.pair in
      let few' = u.few in
      let s' = state u.memory' (at_place at ∷ left ∷ routine ∷ 0 ∷ []) typed drawn output in
      record {
        memory' = u.memory';
        cells' = u.cells';
        locals' = at_place at ∷ left ∷ routine ∷ 0 ∷ [];
        holds = u.holds;
        trail = u.height;
        mark = low 2 (λ e. (omega arith)) (omega arith) ∙ a.two;
        heap = low 3 (λ e. (omega arith)) (omega arith) ∙ a.three;
        frame = low 4 (λ e. (omega arith)) (omega arith) ∙ f1.0;
        choice = low 5 (λ e. (omega arith)) (omega arith) ∙ f1.1.0;
        inner = low 6 (λ e. (omega arith)) (omega arith) ∙ f1.1.1.0;
        stop = low 7 (λ e. (omega arith)) (omega arith) ∙ f1.1.1.1.0;
        back = low 8 (λ e. (omega arith)) (omega arith) ∙ f1.1.1.1.1.0;
        cut = low 9 (λ e. (omega arith)) (omega arith) ∙ a.nine;
        many = low 10 (λ e. (omega arith)) (omega arith) ∙ f2.0;
        key = low 11 (λ e. (omega arith)) (omega arith) ∙ f2.1.0;
        begin = low 12 (λ e. (omega arith)) (omega arith) ∙ a.twelve;
        gather = low 29 (λ e. (omega arith)) (omega arith) ∙ a.gather;
        args = λ i lt. low (args_reg + i) (λ e. (omega arith)) (omega arith) ∙ row_at c a.cells' at 32 10 12 (omega arith) a.args i lt;
        words = λ k lt. u.words k lt ∙ undone_same newer c a.cells' (heap_at + k) (a.far (heap_at + k) (omega arith));
        others = λ k far. u.others k (λ e. (omega arith)) (λ le. far) ∙ a.far k (omega arith);
        rest = λ k low lt away. u.others k (λ e. (omega arith)) (λ le. (omega arith)) ∙ a.behind k (omega arith) away;
        count = 29 + (u.count + 1);
        few = omega arith;
        runs = subst (Runs p f w FAIL_ACTS FAIL_ACTS (st memory 0 0 0) (Returns routine) s') (let z : steps 27 (suc (suc u.count + 1)) ≡ 29 + (u.count + 1) = omega arith in z)
            (a.runs s' (suc u.count + 1)
            (calls {f' = 0} {w' = 0} {n = u.count} {n' = 1} {xs = (left, 0, 0)} refl (rw (get_2 p a.memory' (at_place at) left routine 0 typed drawn output) refl) (undo_at p has) some (omega arith) u.runs refl
            (returns (get_3 p u.memory' (at_place at) left routine 0 typed drawn output))));
      }

-- without a choice
fails : (p : Program) → IsMapped p → (f w : ℕ) (memory typed output : List ℕ) (drawn : ℕ) (c : ℕ → ℕ) → Holds p.world.layout memory c → c 5 ≡ 0 → Runs p f w FAIL_ACTS FAIL_ACTS (state memory (0 ∷ 0 ∷ 0 ∷ 0 ∷ []) typed drawn output) (Returns (p.names.routine FAILED)) (state memory (0 ∷ 0 ∷ 0 ∷ 0 ∷ []) typed drawn output) 2
unfolding behind_label
fails p map f w memory typed output drawn c h none =
    let room = map.room in
    let s = state memory (0 ∷ 0 ∷ 0 ∷ 0 ∷ []) typed drawn output in
    taken (tested p s comparisons.Equal (atoms.Var 21) (atoms.Num 0) true 0 0 true (register p s c 21 h (omega arith) (omega arith) (omega arith) ∙ ap word none) refl refl) refl (returns refl)

pub fail_works : FailWorks
fail_works = record {
  goes = λ p has f w some enough memory typed output drawn at c old newer h here fits its_trail height few_trail on. goes_back p has f w some enough memory typed output drawn at c old newer h here fits its_trail height few_trail on;
  has_none = λ p map f w memory typed output drawn c h none. fails p map f w memory typed output drawn c h none;
}
