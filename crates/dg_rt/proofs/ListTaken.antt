-- The routine that takes a gathering out as a list does so.
use Rattle.std.proofs.Common.{◌≡◌, ◌≢◌, ℕ, suc, ◌+◌, ◌-◌, ◌*◌, ◌<◌, ◌≤◌, Bool, true, false, List, [], ◌∷◌, ◌++◌, drop, length, None, Some, refl, ap, ◌∙◌, subst, arith, length-append}
use Rattle.std.specs.List.{sum_by}
use Rattle.std.proofs.lemmas.List.Sums.{sum_by-cons}
use Rattle.std.proofs.lemmas.Bool.{eq-eqb, ne_eqb}
use Rattle.dg_base.specs.declared.run.Ending.TheVariants.{HeapLimit}
use Rattle.dg_meaning.specs.Values.{Value, NoMore, More}
use Rattle.dg_meaning.specs.Copies.{list_of, copy_cells, all_copy_cells}
use Rattle.dg_meaning.specs.Letters.{letters_in}
use Rattle.dg_meaning.specs.Substitutions.{Substitution}
use Rattle.dg_meaning.specs.Unify.{size}
use Rattle.dg_meaning.specs.inside.Unifiers.{binding_of}
use Rattle.z_model.specs.declared.end.Halt.TheVariants.{AtQuit}
use Rattle.z_lang.specs.declared.act.Act.{Act}
use Rattle.z_lang.specs.declared.act.Act.TheVariants as acts
use Rattle.z_lang.specs.declared.act.Atom.TheVariants as atoms
use Rattle.z_lang.specs.declared.act.Comparison.TheVariants as comparisons
use Rattle.z_lang.specs.declared.act.Function.TheVariants as functions
use Rattle.z_lang.specs.State.{State, Program, value, put}
use Rattle.z_lang.specs.Acts.{answer_of, computed, does}
use Rattle.z_lang.specs.Runs.{ActsRun as Runs, ActsOutcome, Returns, Stops, at_label, taken, passed, done, calls, returns, behind_label}
use Rattle.z_lang.specs.Standing.{IsKept}
use Rattle.dg_rt.specs.declared.gathering.TheConstants.{COUNT_VALUES_ACTS, TAKE_LIST_ACTS}
use Rattle.dg_rt.specs.declared.keeping.TheConstants.{CELLS_ACTS}
use Rattle.dg_rt.specs.Cells.{at_cell, with_cell, replaced, Holds, compared}
use Rattle.dg_rt.specs.Areas.{heap_at, last_reg, state}
use Rattle.dg_rt.specs.Shapes.{Shape, IsShape, Stands}
use Rattle.dg_rt.specs.RunTime.{routine_of, HasRunTime}
use Rattle.dg_rt.specs.Closings.{closing}
use Rattle.dg_rt.specs.Laying.{Formed, copy_word, Lies}
use Rattle.dg_rt.specs.Copies.{words_of, Row}
use Rattle.dg_rt.specs.CopiesIn.{HasCaptures, SameBut}
use Rattle.dg_rt.specs.Moves.{TellsCells}
use Rattle.dg_rt.specs.Gatherings.{rows_of, AreFormed, GatheredAt, MeetsThe, TakesList, TakesNone, list_most, ListWorks}
use Rattle.dg_rt.proofs.Cells.{reads_cell, other_cell, same_cell}
use Rattle.dg_rt.proofs.Charging.{quits_full}
use Rattle.dg_rt.proofs.Counting.{all_cells_work}
use Rattle.dg_rt.proofs.Following.{word, some_state, tested, computes, copies, register, put_register, puts}
use Rattle.dg_rt.proofs.Laying.{copied, copied_places, copied_boxes, copied_grown, copied_low, copied_shape, copied_stands, copied_shows}
use Rattle.dg_rt.proofs.LaySteps.{Laid, InArea, copy_word_small, M, in_m, five, wrote, fill_is, replaced_at, replaced_else}
use Rattle.dg_rt.proofs.ListLaying.{list_formed, list_price, price_more, at_end, listed}
use Rattle.dg_rt.proofs.Locals.{first, second, put_first, put_second, added, adds, more_by, not_more_by}
use Rattle.dg_rt.proofs.ValueCounting.{TellsCount, count_works}
use Rattle.dg_rt.proofs.ValueBounds.{some_size, size_words, list_cells, copies_few, as_many}

-- ## The list

module _ (io : Laid) where
  open io use {p, story, captures, has, typed, output, drawn, area}

  -- The list of values was laid from a place on, and its word is answered.
  record LaidList (m : M io) (lo e last : ℕ) (vs : List Value) : Type 0 where
    m' : M io
    locals' : List ℕ
    count : ℕ
    runs : Runs p 2400 14000 TAKE_LIST_ACTS (drop 13 TAKE_LIST_ACTS) (in_m io m (five io e last 0 0 0)) (Returns (copy_word lo (list_of vs))) (in_m io m' locals') count
    lies : Lies (λ k. m'.cells (heap_at + k)) lo (list_of vs)
    others : SameBut m.cells m'.cells lo (lo + copy_cells (list_of vs))
    few : count ≤ list_price vs + 3

  word_2 : (m : M io) (e b q : ℕ) → m.cells 39 ≡ q + 3 → q < 10000 → does p (acts.Compute 2 functions.Add (atoms.Var 55) (atoms.Num 49149)) (in_m io m (five io e b 0 0 0)) ≡ some_state (in_m io m (five io e (49152 + q) 0 0 0))
  word_2 m e b q is lt = computes p (in_m io m (five io e b 0 0 0)) (in_m io m (five io e (49152 + q) 0 0 0)) 2 functions.Add (atoms.Var 55) (atoms.Num 49149) (m.cells 39) 49149 (49152 + q) (fill_is io m (five io e b 0 0 0)) refl (added p m.memory (m.cells 39) 49149 (49152 + q) (omega arith)) (put_second p m.memory e b 0 0 0 (49152 + q) typed drawn output)

  laid_list : (m : M io) (lo r e last : ℕ) (vs : List Value) → AreFormed captures vs → InArea io r (rows_of vs) → e ≡ at_cell (r + length (rows_of vs)) → m.cells 38 ≡ at_cell r → m.cells 39 ≡ last → last ≡ copy_cells (list_of vs) + lo → lo + copy_cells (list_of vs) ≤ 10000 → length (rows_of vs) < 2100 → LaidList m lo e last vs
  unfolding behind_label
  laid_list m lo r e last [] fine inside end from fill top room few = record {
    m' = m;
    locals' = five io e last 0 0 0;
    count = 2;
    runs = taken (at_end io m e last 0 0 0 r true from (eq-eqb (at_cell r) e (omega arith))) refl (returns refl);
    lies = (tt, tt);
    others = λ k n38 n39 far. refl;
    few = omega arith;
  }
  laid_list m lo r e last (v ∷ vs) fine inside end from fill top room few =
      let w = size_words captures v fine.0 in
      let some = some_size v in
      let n = length-append (words_of v) (rows_of vs) in
      let q = lo + all_copy_cells (More v (More (list_of vs) NoMore)) in
      let l = listed io 2400 14000 vs v m e (49152 + q) 0 0 0 r lo fine inside end from (fill ∙ (omega arith)) room (omega arith) (omega arith) in
      let cheap = l.few in
      record {
        m' = l.m';
        locals' = l.locals';
        count = suc (suc l.count);
        runs = passed (at_end io m e last 0 0 0 r false from (ne_eqb (at_cell r) e (λ (z : at_cell r ≡ e). (omega arith))))
            (done (word_2 m e last q (fill ∙ (omega arith)) (omega arith)) (at_label l.runs));
        lies = l.lies;
        others = l.others;
        few = omega arith;
      }

-- what it takes at most
most_of : (vs : List Value) → 12 * sum_by size vs + 14 * sum_by size vs + list_price vs + 60 ≤ list_most vs
most_of [] = omega arith
most_of (v ∷ vs) =
    let k = most_of vs in
    let a = sum_by-cons size v vs in
    let b = price_more v vs in
    let c = sum_by-cons (λ (u : Value). 60 * size u + 8 * letters_in u) v vs in
    omega arith

-- ## The routine

module _ (p : Program) (story : List ℕ) (captures : ℕ → ℕ) (has : HasCaptures p story captures) (typed output : List ℕ) (drawn : ℕ) (memory : List ℕ) (cells : ℕ → ℕ) (h : Holds p.world.layout memory cells) (kept : IsKept p.world.layout.base story memory) (top : ℕ) (heap : cells 3 ≡ top) (few : top ≤ 10000) (j around : ℕ) (vs : List Value) (g : GatheredAt cells j around vs) (fine : AreFormed captures vs) where
  abbrev io : Laid
  io = record { p = p; story = story; captures = captures; has = has; typed = typed; output = output; drawn = drawn; area = cells }

  abbrev Acts : List Act → State → ActsOutcome → State → ℕ → Type 0
  Acts acts s o s' n = Runs p 2400 14000 TAKE_LIST_ACTS acts s o s' n

  abbrev r : ℕ
  r = j + 2

  abbrev e : ℕ
  e = at_cell (j + 2 + length (rows_of vs))

  abbrev total : ℕ
  total = copy_cells (list_of vs)

  abbrev thrice : ℕ
  thrice = length vs * 3

  set : (m : M io) (ls : List ℕ) (v x : ℕ) → (le : 16 ≤ v) → (lt : v - 16 < 12315) → v < 240 → (small : x < 65536) → put p v x (in_m io m ls) ≡ some_state (in_m io (wrote io m (v - 16) x lt small) ls)
  set m ls v x le lt few' small = put_register p (in_m io m ls) v x m.holds.globals le few'

  reg : (m : M io) (ls : List ℕ) (v : ℕ) → 16 ≤ v → v < 240 → value p (in_m io m ls) (atoms.Var v) ≡ word (m.cells (v - 16))
  reg m ls v le lt = let room = has.has.mapped.room in register p (in_m io m ls) m.cells v m.holds le lt (omega arith)

  around_small : around < 65536
  around_small = subst (λ (x : ℕ). x < 65536) g.before (h.words j)

  abbrev m0 : M io
  m0 = record { memory = memory; cells = cells; holds = h; kept = kept; behind = λ k le. refl }

  abbrev m1 : M io
  m1 = wrote io m0 13 1 (omega arith) (omega arith)

  place_small : at_cell (j + 2) < 65536
  place_small = let high = g.high in omega arith

  abbrev m2 : M io
  m2 = wrote io m1 38 (at_cell (j + 2)) (omega arith) place_small

  abbrev m3 : M io
  m3 = wrote io m2 29 around (omega arith) around_small

  low_place : 12315 ≤ j
  low_place = g.low

  named : cells 29 ≡ at_cell j
  named = g.named

  -- behind the trail all is as it was
  behind_3 : (k : ℕ) → 12315 ≤ k → m3.cells k ≡ cells k
  behind_3 k le = m3.behind k le

  row_same : (c : ℕ → ℕ) (i : ℕ) (xs : List ℕ) → 12315 ≤ i → ((k : ℕ) → 12315 ≤ k → c k ≡ cells k) → Row cells i xs → Row c i xs
  row_same c i [] le same row = tt
  row_same c i (x ∷ xs) le same row = (same i le ∙ row.0, row_same c (suc i) xs (omega arith) same row.1)

  -- up to the count of values
  to_count : (o : ActsOutcome) (s' : State) (n : ℕ) → Acts (drop 5 TAKE_LIST_ACTS) (in_m io m3 (five io e 0 0 0 0)) o s' n → Acts TAKE_LIST_ACTS (in_m io m0 (five io 0 0 0 0 0)) o s' (suc (suc (suc (suc (suc n)))))
  to_count o s' n go =
      let high = g.high in
      let low = low_place in
      let name = named in
      let room = has.has.mapped.room in
      done (copies p (in_m io m0 (five io 0 0 0 0 0)) (in_m io m1 (five io 0 0 0 0 0)) 29 (atoms.Num 1) 1 refl (set m0 (five io 0 0 0 0 0) 29 1 (omega arith) (omega arith) (omega arith) (omega arith)))
      (passed (tested p (in_m io m1 (five io 0 0 0 0 0)) comparisons.Equal (atoms.Var 45) (atoms.Num 0) true (m1.cells 29) 0 false (reg m1 (five io 0 0 0 0 0) 45 (omega arith) (omega arith)) refl (ne_eqb (m1.cells 29) 0 (λ (q : m1.cells 29 ≡ 0). (let k = replaced_else m0.cells 13 1 29 (λ z. (omega arith)) in omega arith))))
      (done (computes p (in_m io m1 (five io 0 0 0 0 0)) (in_m io m1 (five io e 0 0 0 0)) 1 functions.Word (atoms.Var 45) (atoms.Num 1) (m1.cells 29) 1 e (reg m1 (five io 0 0 0 0 0) 45 (omega arith) (omega arith)) refl (reads_cell p.world.layout m1.memory m1.cells (m1.cells 29) 1 (j + 1) m1.holds (let k = replaced_else m0.cells 13 1 29 (λ z. (omega arith)) in omega arith) (omega arith) ∙ ap word (m1.behind (j + 1) (omega arith) ∙ g.end)) (put_first p m1.memory 0 0 0 0 0 e typed drawn output))
      (done (computes p (in_m io m1 (five io e 0 0 0 0)) (in_m io m2 (five io e 0 0 0 0)) 54 functions.Add (atoms.Var 45) (atoms.Num 4) (m1.cells 29) 4 (at_cell (j + 2)) (reg m1 (five io e 0 0 0 0) 45 (omega arith) (omega arith)) refl (adds p m1.memory (m1.cells 29) 4 (at_cell (j + 2)) (let k = replaced_else m0.cells 13 1 29 (λ z. (omega arith)) in omega arith) place_small) (set m1 (five io e 0 0 0 0) 54 (at_cell (j + 2)) (omega arith) (omega arith) (omega arith) place_small))
      (done (computes p (in_m io m2 (five io e 0 0 0 0)) (in_m io m3 (five io e 0 0 0 0)) 45 functions.Word (atoms.Var 45) (atoms.Num 0) (m2.cells 29) 0 around (reg m2 (five io e 0 0 0 0) 45 (omega arith) (omega arith)) refl (reads_cell p.world.layout m2.memory m2.cells (m2.cells 29) 0 j m2.holds (let k = replaced_else m0.cells 13 1 29 (λ z. (omega arith)) in let k' = replaced_else m1.cells 38 (at_cell (j + 2)) 29 (λ z. (omega arith)) in omega arith) (omega arith) ∙ ap word (m2.behind j (omega arith) ∙ g.before)) (set m2 (five io e 0 0 0 0) 45 around (omega arith) (omega arith) (omega arith) around_small))
      go))))

  from_3 : m3.cells 38 ≡ at_cell (j + 2)
  from_3 = replaced_else m2.cells 29 around 38 (λ q. (omega arith)) ∙ replaced_at m1.cells 38 (at_cell (j + 2))

  from_is_3 : (ls : List ℕ) → value p (in_m io m3 ls) (atoms.Var 54) ≡ word (at_cell (j + 2))
  from_is_3 ls = reg m3 ls 54 (omega arith) (omega arith) ∙ ap word from_3

  heap_3 : m3.cells 3 ≡ top
  heap_3 = replaced_else m2.cells 29 around 3 (λ q. (omega arith)) ∙ replaced_else m1.cells 38 (at_cell (j + 2)) 3 (λ q. (omega arith)) ∙ replaced_else m0.cells 13 1 3 (λ q. (omega arith)) ∙ heap

  -- how much the list takes
  sum_is : thrice + sum_by copy_cells vs ≡ total
  sum_is = let k = list_cells vs in omega arith

  small_total : total ≤ 14000
  small_total = let a = copies_few captures vs fine in let b = as_many captures vs fine in let k = list_cells vs in let high = g.high in let low = low_place in omega arith

  abbrev last : ℕ
  last = total + top

  -- up to the test of the heap
  module _ (small : last < 32768) where
    counting : TellsCount p 2300 13000 COUNT_VALUES_ACTS m3.memory (at_cell (j + 2) ∷ e ∷ 0 ∷ 0 ∷ []) typed output drawn (length vs) (12 * sum_by size vs + 2)
    counting = let high = g.high in let low = low_place in let room = has.has.mapped.room in let b = as_many captures vs fine in
        count_works p story captures has 2300 13000 m3.memory typed output drawn m3.cells m3.holds m3.kept vs (j + 2) fine (omega arith) (omega arith) (row_same m3.cells (j + 2) (rows_of vs) (omega arith) behind_3 g.values) (omega arith) (omega arith)

    telling : TellsCells p 2300 13000 CELLS_ACTS m3.memory (at_cell (j + 2) ∷ e ∷ thrice ∷ 0 ∷ []) typed output drawn (thrice + sum_by copy_cells vs) (14 * sum_by size vs + 2)
    telling = let high = g.high in let low = low_place in let room = has.has.mapped.room in let s = sum_is in let t = small_total in
        all_cells_work p story captures has 2300 13000 m3.memory typed output drawn m3.cells m3.holds m3.kept vs (j + 2) thrice fine (omega arith) (omega arith) (row_same m3.cells (j + 2) (rows_of vs) (omega arith) behind_3 g.values) (omega arith)

    to_test : (o : ActsOutcome) (s' : State) (n : ℕ) → Acts (drop 9 TAKE_LIST_ACTS) (in_m io m3 (five io e last 0 0 0)) o s' n → Acts TAKE_LIST_ACTS (in_m io m0 (five io 0 0 0 0 0)) o s' (suc (suc (suc (suc (suc (suc counting.count + suc (suc telling.count + suc n)))))))
    unfolding computed
    to_test o s' n go =
        let b = as_many captures vs fine in
        let high = g.high in
        let low = low_place in
        to_count o s' (suc counting.count + suc (suc telling.count + suc n))
        (calls {f' = 2300} {w' = 13000} {n = counting.count} {n' = suc (suc telling.count + suc n)} {xs = (at_cell (j + 2), e, 0)} {s1 = state m3.memory counting.locals' typed drawn output} {s2 = in_m io m3 (five io e (length vs) 0 0 0)} refl
        (rw (from_is_3 (five io e 0 0 0 0), first p m3.memory e 0 0 0 0 typed drawn output) refl) (has.has.each 101 (routine_of 4 COUNT_VALUES_ACTS) refl) (omega arith) (omega arith) counting.runs (put_second p m3.memory e 0 0 0 0 (length vs) typed drawn output)
        (done (computes p (in_m io m3 (five io e (length vs) 0 0 0)) (in_m io m3 (five io e thrice 0 0 0)) 2 functions.Mul (atoms.Var 2) (atoms.Num 3) (length vs) 3 thrice (second p m3.memory e (length vs) 0 0 0 typed drawn output) refl (ap word (omega arith)) (put_second p m3.memory e (length vs) 0 0 0 thrice typed drawn output))
        (calls {f' = 2300} {w' = 13000} {n = telling.count} {n' = suc n} {xs = (at_cell (j + 2), e, thrice)} {s1 = state m3.memory telling.locals' typed drawn output} {s2 = in_m io m3 (five io e total 0 0 0)} refl
        (rw (from_is_3 (five io e thrice 0 0 0), first p m3.memory e thrice 0 0 0 typed drawn output, second p m3.memory e thrice 0 0 0 typed drawn output) refl) (has.has.each 50 (routine_of 4 CELLS_ACTS) refl) (omega arith) (omega arith)
        (subst (λ (x : ℕ). Runs p 2300 13000 CELLS_ACTS CELLS_ACTS (state m3.memory (at_cell (j + 2) ∷ e ∷ thrice ∷ 0 ∷ []) typed drawn output) (Returns x) (state m3.memory telling.locals' typed drawn output) telling.count) sum_is telling.runs) (put_second p m3.memory e thrice 0 0 0 total typed drawn output)
        (done (computes p (in_m io m3 (five io e total 0 0 0)) (in_m io m3 (five io e last 0 0 0)) 2 functions.Add (atoms.Var 2) (atoms.Var 19) total top last (second p m3.memory e total 0 0 0 typed drawn output) (reg m3 (five io e total 0 0 0) 19 (omega arith) (omega arith) ∙ ap word heap_3) (ap word (omega arith)) (put_second p m3.memory e total 0 0 0 last typed drawn output))
        go))))

    tested_heap : (t : Bool) → compared comparisons.Greater last 10000 ≡ t → answer_of p (in_m io m3 (five io e last 0 0 0)) (record { comparison = comparisons.Greater; first = atoms.Var 2; second = atoms.Num 10000; answer = true }) ≡ Some t
    tested_heap t q = tested p (in_m io m3 (five io e last 0 0 0)) comparisons.Greater (atoms.Var 2) (atoms.Num 10000) true last 10000 t (second p m3.memory e last 0 0 0 typed drawn output) refl q

    meets : 10000 < top + total → MeetsThe p HeapLimit 2400 14000 TAKE_LIST_ACTS memory (0 ∷ 0 ∷ 0 ∷ 0 ∷ 0 ∷ []) typed output drawn cells (list_most vs)
    unfolding behind_label
    meets over =
        let c = counting.few in
        let t = telling.few in
        let price = most_of vs in
        let last_same : m3.cells 28 ≡ cells 28 = replaced_else m2.cells 29 around 28 (λ q. (omega arith)) ∙ replaced_else m1.cells 38 (at_cell (j + 2)) 28 (λ q. (omega arith)) ∙ replaced_else m0.cells 13 1 28 (λ q. (omega arith)) in
        let q = quits_full p has.has 2400 14000 (omega arith) TAKE_LIST_ACTS (drop 34 TAKE_LIST_ACTS) m3.memory (five io e last 0 0 0) typed output drawn (cells last_reg) m3.cells m3.holds last_same in
        let cheap = q.few in
        record {
          memory' = m3.memory;
          count = suc (suc (suc (suc (suc (suc counting.count + suc (suc telling.count + suc (suc (suc q.count))))))));
          runs = to_test (Stops AtQuit) (state m3.memory [] typed drawn (output ++ closing (cells last_reg) HeapLimit)) (suc (suc q.count))
              (taken (tested_heap true (more_by last 10000 (omega arith) (omega arith) (omega arith))) refl q.runs);
          few = omega arith;
        }

    -- ## Where there is room

    module _ (room : top + total ≤ 10000) where
      last_small : last < 65536
      last_small = omega arith

      abbrev m4 : M io
      m4 = wrote io m3 3 last (omega arith) last_small

      abbrev m5 : M io
      m5 = wrote io m4 39 last (omega arith) last_small

      abbrev m6 : M io
      m6 = wrote io m5 13 0 (omega arith) (omega arith)

      same_6 : (k : ℕ) → k ≢ 13 → k ≢ 39 → k ≢ 3 → k ≢ 29 → k ≢ 38 → m6.cells k ≡ cells k
      same_6 k n13 n39 n3 n29 n38 =
          replaced_else m5.cells 13 0 k n13 ∙ replaced_else m4.cells 39 last k n39 ∙ replaced_else m3.cells 3 last k n3 ∙ replaced_else m2.cells 29 around k n29 ∙ replaced_else m1.cells 38 (at_cell (j + 2)) k n38 ∙ replaced_else m0.cells 13 1 k n13

      from_6 : m6.cells 38 ≡ at_cell (j + 2)
      from_6 = replaced_else m5.cells 13 0 38 (λ q. (omega arith)) ∙ replaced_else m4.cells 39 last 38 (λ q. (omega arith)) ∙ replaced_else m3.cells 3 last 38 (λ q. (omega arith)) ∙ from_3

      fill_6 : m6.cells 39 ≡ last
      fill_6 = replaced_else m5.cells 13 0 39 (λ q. (omega arith)) ∙ replaced_at m4.cells 39 last

      clash_6 : m6.cells 13 ≡ 0
      clash_6 = replaced_at m5.cells 13 0

      named_6 : m6.cells 29 ≡ around
      named_6 = replaced_else m5.cells 13 0 29 (λ q. (omega arith)) ∙ replaced_else m4.cells 39 last 29 (λ q. (omega arith)) ∙ replaced_else m3.cells 3 last 29 (λ q. (omega arith)) ∙ replaced_at m2.cells 29 around

      heap_6 : m6.cells 3 ≡ last
      heap_6 = replaced_else m5.cells 13 0 3 (λ q. (omega arith)) ∙ replaced_else m4.cells 39 last 3 (λ q. (omega arith)) ∙ replaced_at m3.cells 3 last

      laid_now : LaidList io m6 top e last vs
      laid_now =
          let high = g.high in
          let low = low_place in
          let room_r = has.has.mapped.room in
          laid_list io m6 top (j + 2) e last vs fine (record { low = omega arith; within = omega arith; small = omega arith; row = g.values }) refl from_6 fill_6 refl room (omega arith)

      to_list : (x n : ℕ) (s' : State) → Acts (drop 13 TAKE_LIST_ACTS) (in_m io m6 (five io e last 0 0 0)) (Returns x) s' n → Acts (drop 9 TAKE_LIST_ACTS) (in_m io m3 (five io e last 0 0 0)) (Returns x) s' (suc (suc (suc (suc n))))
      to_list x n s' go =
          passed (tested_heap false (not_more_by last 10000 (omega arith) (omega arith) (omega arith)))
          (done (copies p (in_m io m3 (five io e last 0 0 0)) (in_m io m4 (five io e last 0 0 0)) 19 (atoms.Var 2) last (second p m3.memory e last 0 0 0 typed drawn output) (set m3 (five io e last 0 0 0) 19 last (omega arith) (omega arith) (omega arith) last_small))
          (done (copies p (in_m io m4 (five io e last 0 0 0)) (in_m io m5 (five io e last 0 0 0)) 55 (atoms.Var 2) last (second p m4.memory e last 0 0 0 typed drawn output) (set m4 (five io e last 0 0 0) 55 last (omega arith) (omega arith) (omega arith) last_small))
          (done (copies p (in_m io m5 (five io e last 0 0 0)) (in_m io m6 (five io e last 0 0 0)) 29 (atoms.Num 0) 0 refl (set m5 (five io e last 0 0 0) 29 0 (omega arith) (omega arith) (omega arith) (omega arith)))
          go)))

-- ## What memory stands for behind it

module _ (p : Program) (story : List ℕ) (sh : Shape) (has : HasCaptures p story sh.captures) (typed output : List ℕ) (drawn : ℕ) (memory : List ℕ) (cells : ℕ → ℕ) (h : Holds p.world.layout memory cells) (kept : IsKept p.world.layout.base story memory) (heap : cells 3 ≡ sh.top) (few_cells : sh.top ≤ 10000) (j around : ℕ) (vs : List Value) (g : GatheredAt cells j around vs) (fine : AreFormed sh.captures vs) (room : sh.top + copy_cells (list_of vs) ≤ 10000) where
  abbrev v : Value
  v = list_of vs

  abbrev end : ℕ
  end = copy_cells (list_of vs) + sh.top

  low_end : copy_cells (list_of vs) + sh.top < 32768
  low_end = omega arith

  formed : Formed sh.captures (list_of vs)
  formed = list_formed sh.captures vs fine

  abbrev gone : M (record { p = p; story = story; captures = sh.captures; has = has; typed = typed; output = output; drawn = drawn; area = cells })
  gone = m6 p story sh.captures has typed output drawn memory cells h kept sh.top heap few_cells j around vs g fine low_end room

  l : LaidList (record { p = p; story = story; captures = sh.captures; has = has; typed = typed; output = output; drawn = drawn; area = cells }) gone sh.top (at_cell (j + 2 + length (rows_of vs))) end vs
  l = laid_now p story sh.captures has typed output drawn memory cells h kept sh.top heap few_cells j around vs g fine low_end room

  others : (i : ℕ) → i ≢ 13 → i ≢ 29 → i ≢ 3 → i ≢ 38 → i ≢ 39 → (heap_at + sh.top ≤ i → heap_at + (sh.top + copy_cells (list_of vs)) ≤ i) → l.m'.cells i ≡ cells i
  others i n13 n29 n3 n38 n39 far = l.others i n38 n39 far ∙ same_6 p story sh.captures has typed output drawn memory cells h kept sh.top heap few_cells j around vs g fine low_end room i n13 n39 n3 n29 n38

  same : (k : ℕ) → k < sh.top → l.m'.cells (heap_at + k) ≡ cells (heap_at + k)
  same k lt = others (heap_at + k) (λ q. (omega arith)) (λ q. (omega arith)) (λ q. (omega arith)) (λ q. (omega arith)) (λ q. (omega arith)) (λ z. (omega arith))

  whole : IsShape sh → ((n : ℕ) → n < sh.vars → sh.place n < sh.top) → (S : Substitution) → Stands sh cells S → ((n : ℕ) → sh.vars ≤ n → binding_of n S ≡ None) → TakesList p story memory typed output drawn sh S cells around vs
  whole is low_places S stands known =
      let c' = l.m'.cells in
      let counting_is = counting p story sh.captures has typed output drawn memory cells h kept sh.top heap few_cells j around vs g fine low_end in
      let telling_is = telling p story sh.captures has typed output drawn memory cells h kept sh.top heap few_cells j around vs g fine low_end in
      let price = most_of vs in
      let c = counting_is.few in
      let t = telling_is.few in
      let cheap = l.few in
      record {
        memory' = l.m'.memory;
        cells' = c';
        locals' = l.locals';
        holds = l.m'.holds;
        kept = l.m'.kept;
        clash = l.others 13 (λ q. (omega arith)) (λ q. (omega arith)) (λ z. (omega arith)) ∙ clash_6 p story sh.captures has typed output drawn memory cells h kept sh.top heap few_cells j around vs g fine low_end room;
        named = l.others 29 (λ q. (omega arith)) (λ q. (omega arith)) (λ z. (omega arith)) ∙ named_6 p story sh.captures has typed output drawn memory cells h kept sh.top heap few_cells j around vs g fine low_end room;
        heap = l.others 3 (λ q. (omega arith)) (λ q. (omega arith)) (λ z. (omega arith)) ∙ heap_6 p story sh.captures has typed output drawn memory cells h kept sh.top heap few_cells j around vs g fine low_end room ∙ (omega arith);
        others = others;
        sh' = copied sh is low_places cells c' S stands known v formed room same l.lies;
        top = refl;
        vars = refl;
        grown = copied_grown sh is low_places cells c' S stands known v formed room same l.lies;
        shape = copied_shape sh is low_places cells c' S stands known v formed room same l.lies;
        places_low = copied_low sh is low_places cells c' S stands known v formed room same l.lies;
        places_new = copied_places sh is low_places cells c' S stands known v formed room same l.lies;
        boxes_old = copied_boxes sh is low_places cells c' S stands known v formed room same l.lies;
        stands = copied_stands sh is low_places cells c' S stands known v formed room same l.lies;
        shows = copied_shows sh is low_places cells c' S stands known v formed room same l.lies;
        small = copy_word_small sh.captures sh.top v formed room;
        count = suc (suc (suc (suc (suc (suc counting_is.count + suc (suc telling_is.count + suc (suc (suc (suc (suc l.count))))))))));
        few = omega arith;
        runs = to_test p story sh.captures has typed output drawn memory cells h kept sh.top heap few_cells j around vs g fine low_end (Returns (copy_word sh.top v)) (state l.m'.memory l.locals' typed drawn output) (suc (suc (suc (suc l.count))))
            (to_list p story sh.captures has typed output drawn memory cells h kept sh.top heap few_cells j around vs g fine low_end room (copy_word sh.top v) l.count (state l.m'.memory l.locals' typed drawn output) l.runs);
      }

-- Without a gathering nothing is taken out.
none_open : (p : Program) → HasRunTime p → (typed output : List ℕ) (drawn : ℕ) (memory : List ℕ) (cells : ℕ → ℕ) → Holds p.world.layout memory cells → cells 29 ≡ 0 → TakesNone p TAKE_LIST_ACTS memory (0 ∷ 0 ∷ 0 ∷ 0 ∷ 0 ∷ []) typed output drawn cells
unfolding behind_label
none_open p has typed output drawn memory cells h none =
    let room = has.mapped.room in
    let s = state memory (0 ∷ 0 ∷ 0 ∷ 0 ∷ 0 ∷ []) typed drawn output in
    let put = puts p s cells 29 1 h (omega arith) (omega arith) (omega arith) (omega arith) in
    let m1 = with_cell memory 13 1 in
    let s1 = state m1 (0 ∷ 0 ∷ 0 ∷ 0 ∷ 0 ∷ []) typed drawn output in
    record {
      memory' = m1;
      cells' = replaced cells 13 1;
      locals' = 0 ∷ 0 ∷ 0 ∷ 0 ∷ 0 ∷ [];
      holds = put.holds;
      clash = same_cell cells 13 1;
      others = λ i ne. other_cell cells 13 1 i ne;
      runs = done (copies p s s1 29 (atoms.Num 1) 1 refl put.put_is)
          (taken (tested p s1 comparisons.Equal (atoms.Var 45) (atoms.Num 0) true (replaced cells 13 1 29) 0 true (register p s1 (replaced cells 13 1) 45 put.holds (omega arith) (omega arith) (omega arith)) refl (eq-eqb (replaced cells 13 1 29) 0 (other_cell cells 13 1 29 (λ q. (omega arith)) ∙ none))) refl (returns refl));
    }

pub list_works : ListWorks
list_works = record {
  takes = λ p story sh has typed output drawn memory cells h kept is low S stands known heap j around vs g fine room.
      let few : sh.top ≤ 10000 = omega arith in
      whole p story sh has typed output drawn memory cells h kept heap few j around vs g fine room is low S stands known;
  meets = λ p story sh has typed output drawn memory cells h kept heap few j around vs g fine over.
      let t = small_total p story sh.captures has typed output drawn memory cells h kept sh.top heap few j around vs g fine in
      meets p story sh.captures has typed output drawn memory cells h kept sh.top heap few j around vs g fine (omega arith) over;
  none = λ p has typed output drawn memory cells h none. none_open p has typed output drawn memory cells h none;
}
