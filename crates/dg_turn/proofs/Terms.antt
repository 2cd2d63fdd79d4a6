-- Terms are written on the heap: memory stands for the machine with their cells taken, and registers for their values.
use Rattle.std.proofs.Common.{◌≡◌, ◌≢◌, ℕ, zero, suc, ◌+◌, ◌-◌, ◌<◌, ◌≤◌, inl, inr, List, [], ◌∷◌, ◌++◌, length, map, refl, sym, ap, ◌∙◌, subst, arith, append_assoc}
use Rattle.std.specs.Prelude.{nat_lt}
use Rattle.std.proofs.lemmas.Bool.{lt-ltb, le-ltb, cond-true, cond-false, cases_lt}
use Rattle.dg_base.specs.declared.program.CoreProgram.{CoreProgram}
use Rattle.dg_base.specs.declared.program.Term.{Term, Pair', out-Term}
use Rattle.dg_base.specs.declared.program.Term.TheOpen as term
use Rattle.dg_base.specs.Terms.{nodes as nodes_in}
use Rattle.dg_meaning.specs.Cells.{node_cells, nodes_of, cells as cells_of}
use Rattle.dg_meaning.specs.Values.{Value, value_of}
use Rattle.dg_mid.specs.State.{Mid, vars_of}
use Rattle.dg_mid.specs.Step.{more}
use Rattle.z_lang.specs.declared.act.Act.{Act}
use Rattle.z_lang.specs.State.{State}
use Rattle.z_lang.specs.Runs.{ActsRun, ActsOutcome, calls, calls_last}
use Rattle.dg_rt.specs.inside.Walks.{steps}
use Rattle.dg_rt.specs.Cells.{Holds}
use Rattle.dg_rt.specs.Areas.{heap_at, state}
use Rattle.dg_rt.specs.Shapes.{Shape, Cell}
use Rattle.dg_rt.specs.Back.{at_place}
use Rattle.dg_rt.specs.RunTime.{HasRunTime}
use Rattle.dg_rt.proofs.Backs.{grown_then}
use Rattle.dg_rt.proofs.Charging.{charge_works}
use Rattle.dg_rt.proofs.UnifySteps.{steps_are}
use Rattle.dg_turn.specs.Told.{Telling}
use Rattle.dg_turn.specs.Lies.{StateIn, MidIn}
use Rattle.dg_turn.specs.Terms.{capped, charge_acts, laying_acts, terms_acts, nodes_acts, words_acts, IsTerm, IsNode, AreNodes, written_in, Wrote, Meets, TermsWork}
use Rattle.dg_turn.proofs.Standing.{charge_at}
use Rattle.dg_turn.proofs.Kept.{Beyond}
use Rattle.dg_turn.proofs.Rows.{words_in, length_map}
use Rattle.dg_turn.proofs.Making.{made, made_grown, made_shape, made_stands, made_low, made_known, block_cell}
use Rattle.dg_turn.proofs.Staying.{high_kept}
use Rattle.dg_turn.proofs.Boxing.{AreNew, with_boxes, old_box, new_box, boxes_grown, boxes_shape, boxes_stand}
use Rattle.dg_turn.proofs.Nodes.{size, Written, AreTerms, written_same, nodes, words}
use Rattle.dg_turn.proofs.Assembling.{size_is, size_append, all_map, all_both, all_fit, all_nodes, all_boxed, IsBox, box_in, boxes_within, boxes_apart, all_shown, pairs_of_all}
use Rattle.dg_turn.proofs.Grows.{mid_grown}

-- ## Lists of terms

is_term : (program : CoreProgram) (y : term.Term-F Term) → IsNode program y → IsTerm y
is_term program (term.Pair h t) is = tt
is_term program (term.Num n) is = is
is_term program (term.Word n) is = is
is_term program (term.Object n) is = is
is_term program (term.Var n) is = is
is_term program term.Nil is = is
is_term program (term.Closure c) is = tt

-- A term's nodes begin with itself.
record First (x : Term) : Type 0 where
  others : List Term
  is : nodes_in x ≡ x ∷ others

first_node : (x : Term) → First x
first_node (Pair' s head t tail) = record { others = _; is = refl }
first_node other = record { others = []; is = refl }

-- the nodes of two lists
nodes_front : (program : CoreProgram) (xs ys : List Term) → AreNodes program (xs ++ ys) → AreNodes program xs
nodes_front program [] ys h = tt
nodes_front program (x ∷ xs) ys h = (h.0, nodes_front program xs ys h.1)

nodes_behind : (program : CoreProgram) (xs ys : List Term) → AreNodes program (xs ++ ys) → AreNodes program ys
nodes_behind program [] ys h = h
nodes_behind program (x ∷ xs) ys h = nodes_behind program xs ys h.1

-- terms are fit to be written where their nodes are
are_terms : (program : CoreProgram) (total : ℕ) (ts : List Term) → AreNodes program (nodes_of ts) → size program (nodes_of ts) ≤ total → AreTerms program total ts
are_terms program total [] are le = tt
are_terms program total (x ∷ xs) are le =
    let first = first_node x in
    let n = node_cells program (out-Term x) in
    let here : AreNodes program (x ∷ first.others) = subst (AreNodes program) first.is (nodes_front program (nodes_in x) (nodes_of xs) are) in
    let both = size_append program (nodes_in x) (nodes_of xs) in
    let top : size program (nodes_in x) ≡ n + size program first.others = ap (size program) first.is in
    (is_term program (out-Term x) here.0, λ some. (omega arith), are_terms program total xs (nodes_behind program (nodes_in x) (nodes_of xs) are) (omega arith))

-- ## How many cells

pub capped_is : (n : ℕ) → n ≤ 10000 → capped n ≡ n
capped_is n le = cond-false (nat_lt 10000 n) 10001 n (le-ltb 10000 n le)

-- cells that pass the heap pass it still, and don't wrap
pub record Caps (heap n : ℕ) : Type 0 where
  pub few : capped n ≤ 10001
  pub passes : 10000 < heap + capped n

pub caps : (heap n : ℕ) → 10000 < heap + n → Caps heap n
caps heap n over = elim (cases_lt 10000 n) [
  | inl lt ↦ (let e = cond-true (nat_lt 10000 n) 10001 n (lt-ltb 10000 n lt) in record { few = omega arith; passes = omega arith })
  | inr ge ↦ (let e = capped_is n ge in record { few = omega arith; passes = omega arith })
]

-- ## All together

module _ (t : Telling) {outer : ℕ → ℕ} (has : HasRunTime t.p) (f w : ℕ) (sh : Shape) (memory typed output : List ℕ) (drawn : ℕ) (c : ℕ → ℕ) (trail : List ℕ) (m : Mid) (holds : Holds t.p.world.layout memory c) (mid : MidIn t outer sh c trail m) (body : List Act) where
  abbrev now : List ℕ → State
  now memory = state memory [] typed drawn output

  -- the limit is met
  charge_meets : 3 ≤ f → 1 ≤ w → (rest : List Act) (n : ℕ) → n ≤ 10001 → 10000 < m.state.heap + n → Meets t f w body (charge_acts n ++ rest) memory typed output drawn c 5
  charge_meets three one rest zero small over = let few = mid.state.few in absurd (omega arith)
  charge_meets three one rest (suc n) small over =
      let few = mid.state.few in
      let top = mid.heap in
      let r = charge_works.meets t.p has 2 0 (omega arith) memory typed output drawn (suc n) c holds (omega arith) small (omega arith) in
      let few' = r.few in
      record {
        memory' = r.memory';
        locals' = [];
        count = suc r.count;
        few = omega arith;
        runs = calls_last {f' = 2} {w' = 0} {n = r.count} {xs = (suc n, 0, 0)} refl refl (charge_at t.p has) (omega arith) (omega arith) r.runs;
      }

  pub meets_terms : 3 ≤ f → 1 ≤ w → (rest : List Act) (v : ℕ) (ts : List Term) → 10000 < m.state.heap + cells_of t.program ts → Meets t f w body (terms_acts t.program v ts ++ rest) memory typed output drawn c 5
  meets_terms three one rest v ts over =
      let k = caps m.state.heap (cells_of t.program ts) over in
      let all = append_assoc (charge_acts (capped (cells_of t.program ts))) (laying_acts t.program v ts) rest in
      subst (λ (l : List Act). Meets t f w body l memory typed output drawn c 5) (sym all) (charge_meets three one (laying_acts t.program v ts ++ rest) (capped (cells_of t.program ts)) k.few k.passes)

  -- The cells are taken.
  record Taken (rest : List Act) (n : ℕ) : Type 0 where
    memory' : List ℕ
    cells' : ℕ → ℕ
    holds' : Holds t.p.world.layout memory' cells'
    beyond : Beyond sh.top c cells'
    three : cells' 3 ≡ m.state.heap + n
    at : 0 < n → cells' 14 ≡ 49152 + sh.top
    others : (k : ℕ) → k ≢ 3 → k ≢ 14 → cells' k ≡ c k
    count : ℕ
    few : count ≤ 6
    runs : (o : ActsOutcome) (s' : State) (k : ℕ) → ActsRun t.p f w body rest (now memory') o s' k → ActsRun t.p f w body (charge_acts n ++ rest) (now memory) o s' (steps count k)

  takes : 0 < f → 8 ≤ w → (rest : List Act) (n : ℕ) → m.state.heap + n ≤ 10000 → Taken rest n
  takes some enough rest zero few = record { memory' = memory; cells' = c; holds' = holds; beyond = λ k n0 n3 mid' far. refl; three = let h = mid.heap in omega arith; at = λ lt. absurd (omega arith); others = λ k n3 n14. refl; count = 0; few = omega arith; runs = λ o s' k r. r }
  takes some enough rest (suc n) few =
      let top = mid.state.heap in
      let heap = mid.heap in
      let r = charge_works.takes t.p has 0 0 memory typed output drawn (suc n) c holds (omega arith) in
      let heap' = r.heap in
      let term' = r.term in
      record {
        memory' = r.memory';
        cells' = r.cells';
        holds' = r.holds;
        beyond = λ k n0 n3 mid' far. r.others k n3 (λ (e : k ≡ 14). (let q = mid'.0 (omega arith) in omega arith));
        three = omega arith;
        at = λ lt. omega arith;
        others = λ k n3 n14. r.others k n3 n14;
        count = 6;
        few = omega arith;
        runs = λ o s' k rest'. subst (ActsRun t.p f w body (charge_acts (suc n) ++ rest) (now memory) o s') (sym (steps_are 6 k)) (calls {f' = 0} {w' = 0} {n = 5} {n' = k} {xs = (suc n, 0, 0)} refl refl (charge_at t.p has) (omega arith) (omega arith) r.runs refl rest');
      }

  abbrev env : List Value
  env = vars_of m.frames

  abbrev program : CoreProgram
  program = t.program

  -- the acts of terms that fit the heap
  acts_are : (v : ℕ) (ts : List Term) (rest : List Act) → cells_of program ts ≤ 10000 → terms_acts program v ts ++ rest ≡ charge_acts (cells_of program ts) ++ (nodes_acts program 0 (nodes_of ts) ++ (words_acts program v 0 ts ++ rest))
  acts_are v ts rest le =
      let ks = charge_acts (cells_of program ts) in
      let bs = nodes_acts program 0 (nodes_of ts) in
      let cs = words_acts program v 0 ts in
      let a : terms_acts program v ts ≡ charge_acts (cells_of program ts) ++ laying_acts program v ts = ap (λ (n : ℕ). charge_acts n ++ laying_acts program v ts) (capped_is (cells_of program ts) le) in
      let b : laying_acts program v ts ≡ bs ++ cs = cond-false (nat_lt 10000 (cells_of program ts)) [] (bs ++ cs) (le-ltb 10000 (cells_of program ts) le) in
      ap (λ (l : List Act). l ++ rest) (a ∙ ap (λ (l : List Act). ks ++ l) b) ∙ append_assoc ks (bs ++ cs) rest ∙ ap (λ (l : List Act). ks ++ l) (append_assoc bs cs rest)

  pub writes_terms : 0 < f → 8 ≤ w → (rest : List Act) (v : ℕ) (ts : List Term) → 31 ≤ v → v + length ts ≤ 240 → (44 < v + length ts → 52 ≤ v) → AreNodes program (nodes_of ts) → m.state.heap + cells_of program ts ≤ 10000 →
      Wrote t outer f w body rest (terms_acts program v ts ++ rest) sh memory typed output drawn c trail m (cells_of program ts) v (map (value_of program env) ts) (written_in program ts + 6)
  writes_terms frames_left words_left rest v ts le lt apart are few =
      let total = cells_of program ts in
      let xs = nodes_of ts in
      let top = mid.state.heap in
      let n_is : total ≡ size program xs = size_is program xs in
      let behind = words_acts program v 0 ts ++ rest in
      let t0 = takes frames_left words_left (nodes_acts program 0 xs ++ behind) total few in
      let n1 = nodes t has f w frames_left words_left sh typed output drawn trail m c mid total (omega arith) body behind 0 xs t0.memory' t0.cells' (record { holds = t0.holds'; beyond = t0.beyond; at = t0.at }) (omega arith) are in
      let w1 = words t has f w frames_left words_left sh typed output drawn trail m c mid total (omega arith) body rest v 0 ts n1.memory' n1.cells' n1.begun le lt apart (are_terms program total ts are (omega arith)) in
      let new = w1.cells' in
      let beyond = w1.begun.beyond in
      let s = mid.state in
      let room : sh.top + total + 0 ≤ 10000 = omega arith in
      let same : (k : ℕ) → k < sh.top → new (heap_at + k) ≡ c (heap_at + k) = λ k low. beyond (heap_at + k) (λ e. (omega arith)) (λ e. (omega arith)) (high_kept (heap_at + k) (omega arith)) (λ q. (omega arith)) in
      let free : (j : ℕ) → j < 0 → new (heap_at + (sh.top + total + j)) ≡ at_place (sh.top + total + j) = λ j none. absurd (omega arith) in
      let s1 = made sh c new m.state.subst s.shape s.low s.stands s.known total 0 room same free in
      let g1 = made_grown sh c new m.state.subst s.shape s.low s.stands s.known total 0 room same free in
      let is1 = made_shape sh c new m.state.subst s.shape s.low s.stands s.known total 0 room same free in
      let boxes = box_in program env sh.top 0 xs in
      let fresh : AreNew s1 sh.top boxes = record {
        within = λ k v' e. (let r = boxes_within program env sh.top 0 xs k v' e in let a = r.0 in let b = r.1 in (omega arith, omega arith));
        apart = λ j k v' w' ej ek less. boxes_apart program env sh.top 0 xs j k v' w' ej ek less;
        older = λ k v' e. s.shape.ends k v' e;
      } in
      let s2 = with_boxes s1 is1 sh.top boxes fresh in
      let g2 = boxes_grown s1 is1 sh.top boxes fresh in
      let g = grown_then g1 g2 in
      let state_in : StateIn t s2 new trail (more total m).state = record {
        shape = boxes_shape s1 is1 sh.top boxes fresh;
        low = made_low sh c new m.state.subst s.shape s.low s.stands s.known total 0 room same free;
        stands = boxes_stand s1 is1 sh.top boxes fresh new m.state.subst (made_stands sh c new m.state.subst s.shape s.low s.stands s.known total 0 room same free);
        known = made_known sh c new m.state.subst s.shape s.low s.stands s.known total 0 room same free;
        heap = omega arith;
        vars = let a = s.vars in omega arith;
        trail_len = s.trail_len;
        few = few;
        few_trail = s.few_trail;
        told = s.told;
      } in
      let none_new : (n : ℕ) → sh.vars ≤ n → n < s2.vars → sh.top ≤ s2.place n = λ n old young. absurd (omega arith) in
      let three : new 3 ≡ m.state.heap + total = w1.before 3 (λ q. (omega arith)) ∙ n1.kept 3 (λ e. (omega arith)) (λ q. (omega arith)) ∙ t0.three in
      let cell_at : (i : ℕ) → i < total → Cell s2 (sh.top + i) (new (heap_at + (sh.top + i))) = λ i low. (let b = block_cell sh c new m.state.subst s.shape s.low s.stands s.known total 0 room same free i low in record { fixed = b.fixed; is = b.is }) in
      let Here : ℕ → Term → Type 0 = λ i x. Written program sh env new i (out-Term x) in
      let Boxed : ℕ → Term → Type 0 = λ i x. IsBox s2.box (sh.top + i) (value_of program env x) (out-Term x) in
      let Fit : ℕ → Term → Type 0 = λ i x. i + node_cells program (out-Term x) ≤ total in
      let Is : ℕ → Term → Type 0 = λ i x. IsNode program (out-Term x) in
      let written = all_map program (λ i x. Written program sh env n1.cells' i (out-Term x)) Here 0 xs (λ i x h. written_same program sh env n1.cells' new i (out-Term x) (λ j low. w1.before (heap_at + (sh.top + i + j)) (λ q. (omega arith))) h) n1.written in
      let boxed = all_boxed program env sh.top s2.box 0 xs (λ k low. new_box s1 is1 sh.top boxes fresh k (omega arith)) in
      let lies = all_both program (λ i x. Here i x × Boxed i x) (λ i x. Is i x × Fit i x) 0 xs (all_both program Here Boxed 0 xs written boxed) (all_both program Is Fit 0 xs (all_nodes program 0 xs are) (all_fit program total 0 xs (omega arith))) in
      let shown = all_shown program sh s2 g s.told env new total (omega arith) cell_at (v - 16) 0 ts lies w1.are in
      let many = pairs_of_all ts in
      let as_many = length_map program env ts in
      let few0 = t0.few in
      let few1 = n1.few in
      let few2 = w1.few in
      record {
        memory' = w1.memory';
        cells' = new;
        holds = w1.begun.holds;
        sh' = s2;
        grown = g;
        mid = mid_grown t sh s2 c new trail m (more total m).state g (λ k v' e low. sym (old_box s1 is1 sh.top boxes fresh k low) ∙ e) none_new refl refl three beyond state_in mid;
        words = words_in s2 new (v - 16) (map (value_of program env) ts) shown;
        others = λ k n3 n14 n36 far low. w1.before k (λ q. (let y : v + length (map (value_of program env) ts) ≤ k + 16 = far q in omega arith)) ∙ n1.kept k n36 (λ q. (omega arith)) ∙ t0.others k n3 n14;
        count = t0.count + (n1.count + w1.count);
        few = omega arith;
        runs = λ o s' k r.
            let a = w1.runs o s' k r in
            let b = n1.runs o s' (steps w1.count k) a in
            let d = t0.runs o s' (steps n1.count (steps w1.count k)) b in
            let x = steps_are t0.count (steps n1.count (steps w1.count k)) in
            let y = steps_are n1.count (steps w1.count k) in
            let z = steps_are w1.count k in
            let q = steps_are (t0.count + (n1.count + w1.count)) k in
            let sum : steps t0.count (steps n1.count (steps w1.count k)) ≡ steps (t0.count + (n1.count + w1.count)) k = omega arith in
            subst (λ (l : List Act). ActsRun t.p f w body l (now memory) o s' (steps (t0.count + (n1.count + w1.count)) k)) (sym (acts_are v ts rest (omega arith)))
            (subst (ActsRun t.p f w body (charge_acts total ++ (nodes_acts program 0 xs ++ behind)) (now memory) o s') sum d);
      }

pub terms_work : TermsWork
terms_work = record {
  writes = λ t outer has f w some enough sh memory typed output drawn c trail m holds mid body rest v ts le lt apart are few. writes_terms t has f w sh memory typed output drawn c trail m holds mid body some enough rest v ts le lt apart are few;
  meets = λ t outer has f w three one sh memory typed output drawn c trail m holds mid body rest v ts over. meets_terms t has f w sh memory typed output drawn c trail m holds mid body three one rest v ts over;
}
