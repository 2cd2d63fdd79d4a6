-- The routine that stops does so.
use Rattle.std.proofs.Common.{◌≡◌, ◌≢◌, ℕ, suc, ◌+◌, ◌*◌, ◌<◌, ◌≤◌, true, false, List, [], ◌∷◌, ◌++◌, drop, length, refl, sym, ap, ◌∙◌, subst, arith, length-append}
use Rattle.std.proofs.lemmas.Bool.{ne_eqb}
use Rattle.z_lang.specs.declared.act.Atom.TheVariants as atoms
use Rattle.z_lang.specs.declared.act.Function.TheVariants as functions
use Rattle.z_lang.specs.declared.act.Comparison.TheVariants as comparisons
use Rattle.z_lang.specs.State.{State, Program, value}
use Rattle.z_lang.specs.Runs.{ActsRun as Runs, Returns, taken, passed, done, calls, returns, behind_label}
use Rattle.dg_rt.specs.declared.numbers.TheConstants.{STOPPED}
use Rattle.dg_rt.specs.declared.choices.TheConstants.{UNSTOP_ACTS}
use Rattle.dg_rt.specs.Cells.{with_cell, replaced, Holds}
use Rattle.dg_rt.specs.Areas.{heap_at, trail_at, IsMapped, state}
use Rattle.dg_rt.specs.Back.{at_place, OnTrail}
use Rattle.dg_rt.specs.RunTime.{HasRunTime}
use Rattle.dg_rt.specs.Choices.{Chain, left_of, dropped_of, Unstops, UnstopWorks}
use Rattle.dg_rt.specs.inside.Walks.{steps}
use Rattle.dg_rt.proofs.Backs.{undone_same, trail_stays}
use Rattle.dg_rt.proofs.Cells.{reads_cell, other_cell, same_cell}
use Rattle.dg_rt.proofs.Following.{word, tested, computes, copies, register, puts}
use Rattle.dg_rt.proofs.Locals.{get_1, get_2, get_3, set_1, set_2, set_3, subtracts}
use Rattle.dg_rt.proofs.Standing.{undo_at, cut_at}
use Rattle.dg_rt.proofs.Unwinding.{undo_works}
use Rattle.dg_rt.proofs.Loading.{Ascend, Avoids, AreLoaded, loaded_same, loads}
use Rattle.dg_rt.proofs.Cutting.{chain_same, cut_works}
use Rattle.dg_rt.proofs.Failing.{in_heap}

-- A word is none of the registers that a stop sets.
abbrev Apart : ℕ → Type 0
Apart k = (k ≢ 1) × (k ≢ 2) × (k ≢ 3) × (k ≢ 4) × (k ≢ 5) × (k ≢ 6) × (k ≢ 7) × (k ≢ 29)

-- The registers and fields that are put back.
abbrev put_back : List (ℕ × ℕ)
put_back = (20, 2) ∷ (22, 3) ∷ (23, 4) ∷ (45, 6) ∷ []

avoids : (k : ℕ) → Apart k → Avoids k put_back
avoids k n = (n.3, (n.5, (n.6, (n.7, tt))))

ascends : Ascend 20 put_back
ascends = (omega arith, omega arith, omega arith, (omega arith, omega arith, omega arith, (omega arith, omega arith, omega arith, (omega arith, omega arith, omega arith, tt))))

module _ (p : Program) (has : HasRunTime p) (f w : ℕ) (some : 0 < f) (enough : 2 ≤ w) (memory typed output : List ℕ) (drawn at : ℕ) (c : ℕ → ℕ) (ks old newer : List ℕ) (holds : Holds p.world.layout memory c)
    (here : c 7 ≡ at_place at) (fits : at + 10 ≤ 10000) (chain : Chain c (c 5) ks) (its_trail : c (heap_at + (at + 5)) ≡ length old) (height : c 1 ≡ length (newer ++ old)) (few_trail : length (newer ++ old) ≤ 2000) (on : OnTrail c (newer ++ old)) where
  abbrev left : ℕ
  left = length old

  abbrev routine : ℕ
  routine = c (heap_at + (at + 1))

  abbrev v : ℕ
  v = at_place at

  abbrev st : List ℕ → ℕ → ℕ → ℕ → State
  st m a b d = state m (a ∷ b ∷ d ∷ 0 ∷ []) typed drawn output

  -- Choices are dropped, what is kept is in registers, and the bindings stand yet.
  record Restored : Type 0 where
    memory' : List ℕ
    cells' : ℕ → ℕ
    holds' : Holds p.world.layout memory' cells'
    two : cells' 2 ≡ v
    three : cells' 3 ≡ at
    loaded : AreLoaded c cells' at put_back
    choice : Chain c (cells' 5) (left_of at ks)
    one : cells' 1 ≡ c 1
    others : (k : ℕ) → Apart k → cells' k ≡ c k
    dropped : ℕ
    few : dropped ≤ 4 * dropped_of at ks + 3
    runs : (s' : State) (n : ℕ) → Runs p f w UNSTOP_ACTS (drop 11 UNSTOP_ACTS) (st memory' v left routine) (Returns routine) s' n → Runs p f w UNSTOP_ACTS UNSTOP_ACTS (st memory 0 0 0) (Returns routine) s' (suc (suc (suc dropped + suc (suc (suc (suc (steps 4 n)))))))

  stop_is : (a b d : ℕ) → value p (st memory a b d) (atoms.Var 23) ≡ word v
  stop_is a b d = let room = has.mapped.room in register p (st memory a b d) c 23 holds (omega arith) (omega arith) (omega arith) ∙ ap word here

  restored : Restored
  restored =
      let room = has.mapped.room in
      let locals = v ∷ left ∷ routine ∷ 0 ∷ [] in
      let q = cut_works p has.mapped 0 0 memory typed output drawn at (omega arith) c holds ks chain in
      let m0 = q.memory' in
      let c0 = q.cells' in
      let cheap = q.few in
      let apart : (k : ℕ) → 303 ≤ k → c0 k ≡ c k = λ k le. q.others k (λ e. (omega arith)) in
      let put2 = puts p (st m0 v left routine) c0 18 v q.holds (omega arith) (omega arith) (omega arith) (omega arith) in
      let m1 = with_cell m0 2 v in
      let c1 = replaced c0 2 v in
      let put3 = puts p (st m1 v left routine) c1 19 at put2.holds (omega arith) (omega arith) (omega arith) (omega arith) in
      let m2 = with_cell m1 3 at in
      let c2 = replaced c1 3 at in
      let two : (k : ℕ) → k ≢ 2 → k ≢ 3 → c2 k ≡ c0 k = λ k n2 n3. other_cell c1 3 at k n3 ∙ other_cell c0 2 v k n2 in
      let far : (k : ℕ) → 302 < k → c2 k ≡ c k = λ k le. two k (λ e. (omega arith)) (λ e. (omega arith)) ∙ apart k (omega arith) in
      let r = loads p has.mapped f w locals typed output drawn at (omega arith) (λ mem. get_1 p mem v left routine 0 typed drawn output) UNSTOP_ACTS (drop 11 UNSTOP_ACTS) 20 put_back m2 c2 c put3.holds (omega arith) ascends far in
      record {
        memory' = r.memory';
        cells' = r.cells';
        holds' = r.holds;
        two = r.others 2 (λ le. (omega arith)) ∙ other_cell c1 3 at 2 (λ e. (omega arith)) ∙ same_cell c0 2 v;
        three = r.others 3 (λ le. (omega arith)) ∙ same_cell c1 3 at;
        loaded = loaded_same at put_back c2 c r.cells' far r.are;
        one = r.others 1 (λ le. (omega arith)) ∙ two 1 (λ e. (omega arith)) (λ e. (omega arith)) ∙ q.others 1 (λ e. (omega arith));
        choice = subst (λ (x : ℕ). Chain c x (left_of at ks)) (sym (r.kept 5 ((λ e. (omega arith)), ((λ e. (omega arith)), ((λ e. (omega arith)), ((λ e. (omega arith)), tt)))) ∙ two 5 (λ e. (omega arith)) (λ e. (omega arith)))) (chain_same c0 c (c0 5) (left_of at ks) (λ k. sym (apart (heap_at + k) (omega arith))) q.chain);
        others = λ k n. r.kept k (avoids k n) ∙ two k n.1 n.2 ∙ q.others k n.4;
        dropped = q.count;
        few = q.few;
        runs = λ s' n r'.
            passed (tested p (st memory 0 0 0) comparisons.Equal (atoms.Var 23) (atoms.Num 0) true v 0 false (stop_is 0 0 0) refl (ne_eqb v 0 (λ (z : v ≡ 0). (omega arith))))
            (done (copies p (st memory 0 0 0) (st memory v 0 0) 1 (atoms.Var 23) v (stop_is 0 0 0) (set_1 p memory 0 0 0 0 v typed drawn output))
            (calls {f' = 0} {w' = 0} {n = q.count} {n' = suc (suc (suc (suc (steps 4 n))))} {xs = (v, 0, 0)} refl (rw (get_1 p memory v 0 0 0 typed drawn output) refl) (cut_at p has) some (omega arith) q.runs refl
            (done (computes p (st m0 v 0 0) (st m0 v left 0) 2 functions.Word (atoms.Num 680) (atoms.Var 1) 680 v left refl (get_1 p m0 v 0 0 0 typed drawn output) (reads_cell p.world.layout m0 c0 680 v (heap_at + (at + 5)) q.holds (omega arith) (omega arith) ∙ ap word (apart (heap_at + (at + 5)) (omega arith) ∙ its_trail)) (set_2 p m0 v 0 0 0 left typed drawn output))
            (done (computes p (st m0 v left 0) (st m0 v left routine) 3 functions.Word (atoms.Num 672) (atoms.Var 1) 672 v routine refl (get_1 p m0 v left 0 0 typed drawn output) (reads_cell p.world.layout m0 c0 672 v (heap_at + (at + 1)) q.holds (omega arith) (omega arith) ∙ ap word (apart (heap_at + (at + 1)) (omega arith))) (set_3 p m0 v left 0 0 routine typed drawn output))
            (done (copies p (st m0 v left routine) (st m1 v left routine) 18 (atoms.Var 1) v (get_1 p m0 v left routine 0 typed drawn output) put2.put_is)
            (done (computes p (st m1 v left routine) (st m2 v left routine) 19 functions.Sub (atoms.Var 1) (atoms.Num 32768) v 32768 at (get_1 p m1 v left routine 0 typed drawn output) refl (subtracts p m1 v 32768 at (omega arith) (omega arith)) put3.put_is)
            (r.runs (Returns routine) s' n r')))))));
      }

  stops : Unstops p f w memory typed output drawn at c ks old newer
  stops =
      let a = restored in
      let long = length-append newer old in
      let high : (k : ℕ) → 303 ≤ k → a.cells' k ≡ c k = λ k le. a.others k ((λ e. (omega arith)), (λ e. (omega arith)), (λ e. (omega arith)), (λ e. (omega arith)), (λ e. (omega arith)), (λ e. (omega arith)), (λ e. (omega arith)), (λ e. (omega arith))) in
      let on' = trail_stays c a.cells' (newer ++ old) (λ i low. high (trail_at + i) (omega arith)) on in
      let one = a.one in
      let u = undo_works p has.mapped 0 0 typed output drawn old newer a.memory' a.cells' 0 a.holds' (omega arith) few_trail on' (in_heap a.cells' newer old on') in
      let low : (k : ℕ) → k ≢ 1 → k < 303 → u.cells' k ≡ a.cells' k = λ k ne below. u.others k ne (λ le. (omega arith)) in
      let l = a.loaded in
      let few' = u.few in
      let few'' = a.few in
      let s' = state u.memory' (v ∷ left ∷ routine ∷ 0 ∷ []) typed drawn output in
      record {
        memory' = u.memory';
        cells' = u.cells';
        locals' = v ∷ left ∷ routine ∷ 0 ∷ [];
        holds = u.holds;
        trail = u.height;
        mark = low 2 (λ e. (omega arith)) (omega arith) ∙ a.two;
        heap = low 3 (λ e. (omega arith)) (omega arith) ∙ a.three;
        frame = low 4 (λ e. (omega arith)) (omega arith) ∙ l.0;
        chain = subst (λ (x : ℕ). Chain c x (left_of at ks)) (sym (low 5 (λ e. (omega arith)) (omega arith))) a.choice;
        inner = low 6 (λ e. (omega arith)) (omega arith) ∙ l.1.0;
        stop = low 7 (λ e. (omega arith)) (omega arith) ∙ l.1.1.0;
        gather = low 29 (λ e. (omega arith)) (omega arith) ∙ l.1.1.1.0;
        words = λ k lt. u.words k lt ∙ undone_same newer c a.cells' (heap_at + k) (high (heap_at + k) (omega arith));
        others = λ k n1 n2 n3 n4 n5 n6 n7 n29 far. u.others k n1 far ∙ a.others k (n1, n2, n3, n4, n5, n6, n7, n29);
        count = 13 + (a.dropped + u.count);
        few = omega arith;
        runs = subst (Runs p f w UNSTOP_ACTS UNSTOP_ACTS (st memory 0 0 0) (Returns routine) s') (let z : suc (suc (suc a.dropped + suc (suc (suc (suc (steps 4 (suc u.count + 1))))))) ≡ 13 + (a.dropped + u.count) = omega arith in z)
            (a.runs s' (suc u.count + 1)
            (calls {f' = 0} {w' = 0} {n = u.count} {n' = 1} {xs = (left, 0, 0)} refl (rw (get_2 p a.memory' v left routine 0 typed drawn output) refl) (undo_at p has) some (omega arith) u.runs refl
            (returns (get_3 p u.memory' v left routine 0 typed drawn output))));
      }

-- without a stoppable part
stopped : (p : Program) → IsMapped p → (f w : ℕ) (memory typed output : List ℕ) (drawn : ℕ) (c : ℕ → ℕ) → Holds p.world.layout memory c → c 7 ≡ 0 → Runs p f w UNSTOP_ACTS UNSTOP_ACTS (state memory (0 ∷ 0 ∷ 0 ∷ 0 ∷ []) typed drawn output) (Returns (p.names.routine STOPPED)) (state memory (0 ∷ 0 ∷ 0 ∷ 0 ∷ []) typed drawn output) 2
unfolding behind_label
stopped p map f w memory typed output drawn c h none =
    let room = map.room in
    let s = state memory (0 ∷ 0 ∷ 0 ∷ 0 ∷ []) typed drawn output in
    taken (tested p s comparisons.Equal (atoms.Var 23) (atoms.Num 0) true 0 0 true (register p s c 23 h (omega arith) (omega arith) (omega arith) ∙ ap word none) refl refl) refl (returns refl)

pub unstop_works : UnstopWorks
unstop_works = record {
  goes = λ p has f w some enough memory typed output drawn at c ks old newer h here fits chain its_trail height few_trail on. stops p has f w some enough memory typed output drawn at c ks old newer h here fits chain its_trail height few_trail on;
  has_none = λ p map f w memory typed output drawn c h none. stopped p map f w memory typed output drawn c h none;
}
