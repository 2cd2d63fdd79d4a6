-- The cells of the list of what letters spell are written.
use Rattle.std.proofs.Common.{◌≡◌, ℕ, suc, ◌+◌, ◌*◌, ◌<◌, ◌≤◌, Bool, true, false, List, [], ◌∷◌, ◌++◌, drop, length, map, Some, refl, sym, ap, ◌∙◌, subst, arith, append-nil, append_assoc, length-append}
use Rattle.std.specs.Prelude.{eqb, ◌==◌}
use Rattle.std.proofs.lemmas.Bool.{eq-eqb, ne_eqb}
use Rattle.std.proofs.lemmas.List.{map-append}
use Rattle.std.proofs.lemmas.Nat.{mul-le}
use Rattle.dg_meaning.specs.Copies.{list_of}
use Rattle.dg_meaning.specs.Values.{Value, pair}
use Rattle.dg_meaning.specs.ValueCells.{cells_of}
use Rattle.dg_meaning.specs.Words.{is_alone, if_spelled, spellings_behind, spellings_of, spelled_value, spelled_list}
use Rattle.z_lang.specs.declared.act.Act.{Act}
use Rattle.z_lang.specs.declared.act.Act.TheVariants as acts
use Rattle.z_lang.specs.declared.act.Args.TheVariants as args
use Rattle.z_lang.specs.declared.act.Atom.TheVariants as atoms
use Rattle.z_lang.specs.declared.act.Comparison.TheVariants as comparisons
use Rattle.z_lang.specs.declared.act.Function.TheVariants as functions
use Rattle.z_lang.specs.declared.act.Width.TheVariants as widths
use Rattle.z_lang.specs.State.{State, Program}
use Rattle.z_lang.specs.Acts.{answer_of}
use Rattle.z_lang.specs.Runs.{ActsRun as Runs, Returns, at_label, goes, taken, passed, done, calls, returns, behind_label}
use Rattle.z_lang.specs.Standing.{IsKept}
use Rattle.dg_rt.specs.declared.numbers.TheConstants.{SPELLED, ELEMENT, LETTER_KIND}
use Rattle.dg_rt.specs.declared.typing.TheConstants.{SPELLED_ACTS, ELEMENT_ACTS, LETTER_KIND_ACTS, LINE_CELLS_ACTS}
use Rattle.dg_rt.specs.Cells.{at_cell, with_cell, replaced, Holds}
use Rattle.dg_rt.specs.Areas.{state}
use Rattle.dg_rt.specs.Copies.{cell_word, words_of, Row}
use Rattle.dg_rt.specs.Dictionary.{HasSpellings}
use Rattle.dg_rt.specs.RunTime.{routine_of, HasRunTime}
use Rattle.dg_rt.specs.Typing.{LineCellsWork}
use Rattle.dg_rt.proofs.Cells.{holds_with, reads_cell, writes_cell, other_cell, same_cell}
use Rattle.dg_rt.proofs.CopySteps.{rows_keep, rows_append}
use Rattle.dg_rt.proofs.Following.{word, tested, computes, copies, writes, local_1, local_2, local_3, put_3}
use Rattle.dg_rt.proofs.LaySteps.{kept_cell, rows_front, rows_back}
use Rattle.dg_rt.proofs.LetterKinds.{kind_of, Kind, tells_kind}
use Rattle.dg_rt.proofs.Locals.{added, first, second, third, fourth, fifth, put_first, put_second, put_third, put_fourth, put_fifth}
use Rattle.dg_rt.proofs.SpelledCells.{spelled_works, short_cells}

-- ## Cells of a list

pub pair_words : (v t : Value) → words_of (pair v t) ≡ 28673 ∷ (words_of v ++ words_of t)
pair_words v t = ap (λ (l : List ℕ). 28673 ∷ l) (ap (λ (l : List _). map cell_word (cells_of v ++ l)) (append-nil (cells_of t)) ∙ map-append cell_word (cells_of v) (cells_of t))

-- The cells of an element, if letters spell one.
abbrev pub element : List (List ℕ) → List ℕ → List ℕ
element words [] = []
element words (c ∷ cs) = 28673 ∷ words_of (spelled_value words (c ∷ cs))

abbrev pub values_behind : List (List ℕ) → List ℕ → List ℕ → Value
values_behind words begun cs = list_of (map (spelled_value words) (spellings_behind begun cs))

element_first : (words : List (List ℕ)) (begun : List ℕ) (rest : List (List ℕ)) → words_of (list_of (map (spelled_value words) (if_spelled begun ++ rest))) ≡ element words begun ++ words_of (list_of (map (spelled_value words) rest))
element_first words [] rest = refl
element_first words (c ∷ cs) rest = pair_words (spelled_value words (c ∷ cs)) (list_of (map (spelled_value words) rest))

-- What the next letter does.
at_space : (words : List (List ℕ)) (begun : List ℕ) (c : ℕ) (cs : List ℕ) → eqb c 32 ≡ true → words_of (values_behind words begun (c ∷ cs)) ≡ element words begun ++ words_of (values_behind words [] cs)
at_space words begun c cs e = rw e (element_first words begun (spellings_behind [] cs))

at_alone : (words : List (List ℕ)) (begun : List ℕ) (c : ℕ) (cs : List ℕ) → eqb c 32 ≡ false → is_alone c ≡ true → words_of (values_behind words begun (c ∷ cs)) ≡ element words begun ++ (element words (c ∷ []) ++ words_of (values_behind words [] cs))
at_alone words begun c cs e alone = rw (e, alone) (element_first words begun ((c ∷ []) ∷ spellings_behind [] cs) ∙ ap (λ (l : List ℕ). element words begun ++ l) (element_first words (c ∷ []) (spellings_behind [] cs)))

at_other : (words : List (List ℕ)) (begun : List ℕ) (c : ℕ) (cs : List ℕ) → eqb c 32 ≡ false → is_alone c ≡ false → words_of (values_behind words begun (c ∷ cs)) ≡ words_of (values_behind words (begun ++ c ∷ []) cs)
at_other words begun c cs e alone = rw (e, alone) refl

at_end : (words : List (List ℕ)) (begun : List ℕ) → words_of (values_behind words begun []) ≡ element words begun ++ 28672 ∷ []
at_end words [] = refl
at_end words (c ∷ cs) = pair_words (spelled_value words (c ∷ cs)) (list_of [])

element_short : (words : List (List ℕ)) (letters : List ℕ) → length (element words letters) ≤ 3 * length letters
element_short words [] = omega arith
element_short words (c ∷ cs) = let e = short_cells words (c ∷ cs) in omega arith

-- ## The routines

spelled_at : (p : Program) → HasRunTime p → p.routine_at (p.names.routine SPELLED) ≡ Some (routine_of 4 SPELLED_ACTS)
spelled_at p has = has.each 117 (routine_of 4 SPELLED_ACTS) refl

letter_kind_at : (p : Program) → HasRunTime p → p.routine_at (p.names.routine LETTER_KIND) ≡ Some (routine_of 1 LETTER_KIND_ACTS)
letter_kind_at p has = has.each 118 (routine_of 1 LETTER_KIND_ACTS) refl

element_at : (p : Program) → HasRunTime p → p.routine_at (p.names.routine ELEMENT) ≡ Some (routine_of 3 ELEMENT_ACTS)
element_at p has = has.each 119 (routine_of 3 ELEMENT_ACTS) refl

-- A row of words was written from a place on, and the address behind it is answered.
record WroteRow (p : Program) (story : List ℕ) (row : List ℕ) (cells : ℕ → ℕ) (o : ℕ) (leads : ℕ → List ℕ → List ℕ → ℕ → Type 0) (most : ℕ) : Type 0 where
  memory' : List ℕ
  cells' : ℕ → ℕ
  locals' : List ℕ
  holds : Holds p.world.layout memory' cells'
  kept : IsKept p.world.layout.base story memory'
  row_is : Row cells' o row
  others : (k : ℕ) → (o ≤ k → o + length row ≤ k) → cells' k ≡ cells k
  count : ℕ
  few : count ≤ most
  runs : leads (at_cell (o + length row)) memory' locals' count

module _ (p : Program) (has : HasRunTime p) (story : List ℕ) (words : List (List ℕ)) (dict : HasSpellings p story words) (typed output : List ℕ) (drawn : ℕ) where
  -- what an element takes
  abbrev W : ℕ
  W = length words

  abbrev element_most : ℕ → ℕ
  element_most l = 47 * (W * l) + 100 * l + 2

  module _ (memory : List ℕ) (cells : ℕ → ℕ) (h : Holds p.world.layout memory cells) (kept : IsKept p.world.layout.base story memory) (k o : ℕ) where
    abbrev three : List ℕ → ℕ → ℕ → ℕ → State
    three m a b c = state m (a ∷ b ∷ c ∷ []) typed drawn output

    abbrev Element : List ℕ → Type 0
    Element letters = WroteRow p story (element words letters) cells o (λ x memory' locals' count.
        Runs p 4 17 ELEMENT_ACTS ELEMENT_ACTS (three memory (at_cell k) (at_cell (k + length letters)) (at_cell o)) (Returns x) (state memory' locals' typed drawn output) count) (element_most (length letters))

    writes_element : (letters : List ℕ) → length letters ≤ 200 → 15315 ≤ o → o + 2 ≤ k → k + length letters ≤ 15945 → Row cells k letters → Element letters
    unfolding behind_label
    writes_element [] many low le within row =
        let a = at_cell k in
        let b = at_cell (k + 0) in
        let e : at_cell o ≡ at_cell (o + 0) = omega arith in
        record {
          memory' = memory;
          cells' = cells;
          locals' = a ∷ b ∷ at_cell o ∷ [];
          holds = h;
          kept = kept;
          row_is = tt;
          others = λ i far. refl;
          count = 2;
          few = omega arith;
          runs = taken (tested p (three memory a b (at_cell o)) comparisons.Equal (atoms.Var 1) (atoms.Var 2) true a b true (local_1 p memory a (b ∷ at_cell o ∷ []) typed drawn output) (local_2 p memory a b (at_cell o ∷ []) typed drawn output) (eq-eqb a b (omega arith))) refl
              (returns (local_3 p memory a b (at_cell o) [] typed drawn output ∙ ap word e));
        }
    writes_element (c ∷ cs) many low le within row =
        let room = has.mapped.room in
        let l = length (c ∷ cs) in
        let a = at_cell k in
        let b = at_cell (k + length (c ∷ cs)) in
        let o1 = suc o in
        let m1 = with_cell memory o 28673 in
        let c1 = replaced cells o 28673 in
        let h1 = holds_with p.world.layout memory cells o 28673 h (omega arith) (omega arith) in
        let kept1 = kept_cell p.world.layout.base story memory o 28673 (omega arith) kept in
        let row1 = rows_keep cells c1 k (c ∷ cs) (λ i from to. other_cell cells o 28673 i (λ (e : i ≡ o). (omega arith))) row in
        let r = spelled_works p has story words dict 3 13 (omega arith) (omega arith) m1 typed output drawn c1 h1 kept1 k o1 (c ∷ cs) (omega arith) many (omega arith) (omega arith) within row1 in
        let few = r.few in
        let v = words_of (spelled_value words (c ∷ cs)) in
        let x = at_cell (suc o + length v) in
        let last : x ≡ at_cell (o + suc (length v)) = omega arith in
        let big = mul-le W 1 W (length (c ∷ cs)) (omega arith) (omega arith) in
        record {
          memory' = r.memory';
          cells' = r.cells';
          locals' = a ∷ b ∷ x ∷ [];
          holds = r.holds;
          kept = r.kept;
          row_is = (r.others o (λ z. (omega arith)) ∙ same_cell cells o 28673, r.row);
          others = λ i far. r.others i (λ z. (let q = far (omega arith) in omega arith)) ∙ other_cell cells o 28673 i (λ (e : i ≡ o). (let q = far (omega arith) in omega arith));
          count = suc (suc (suc (suc r.count + 1)));
          few = omega arith;
          runs = subst (λ (y : ℕ). Runs p 4 17 ELEMENT_ACTS ELEMENT_ACTS (three memory a b (at_cell o)) (Returns y) (state r.memory' (a ∷ b ∷ x ∷ []) typed drawn output) (suc (suc (suc (suc r.count + 1))))) last
              (passed (tested p (three memory a b (at_cell o)) comparisons.Equal (atoms.Var 1) (atoms.Var 2) true a b false (local_1 p memory a (b ∷ at_cell o ∷ []) typed drawn output) (local_2 p memory a b (at_cell o ∷ []) typed drawn output) (ne_eqb a b (λ (q : a ≡ b). (omega arith))))
              (done (writes p (three memory a b (at_cell o)) widths.Word (atoms.Var 3) (atoms.Num 0) (atoms.Num 28673) (at_cell o) 0 28673 m1 (local_3 p memory a b (at_cell o) [] typed drawn output) refl refl (writes_cell p.world.layout memory cells (at_cell o) 0 28673 o h (omega arith) (omega arith)))
              (done (computes p (three m1 a b (at_cell o)) (three m1 a b (at_cell o1)) 3 functions.Add (atoms.Var 3) (atoms.Num 2) (at_cell o) 2 (at_cell o1) (local_3 p m1 a b (at_cell o) [] typed drawn output) refl (added p m1 (at_cell o) 2 (at_cell o1) (omega arith)) (put_3 p m1 a b (at_cell o) (at_cell o1) [] typed drawn output))
              (calls {f' = 3} {w' = 13} {n = r.count} {n' = 1} {xs = (a, b, at_cell o1)} {s2 = three r.memory' a b x} refl (rw (local_1 p m1 a (b ∷ at_cell o1 ∷ []) typed drawn output, local_2 p m1 a b (at_cell o1 ∷ []) typed drawn output, local_3 p m1 a b (at_cell o1) [] typed drawn output) refl) (spelled_at p has) (omega arith) (omega arith) r.runs (put_3 p r.memory' a b (at_cell o1) x [] typed drawn output)
              (at_label (returns (local_3 p r.memory' a b x [] typed drawn output)))))));
        }

  -- ## The loop

  module _ (f w : ℕ) (some : 5 ≤ f) (enough : 20 ≤ w) where
    abbrev five : List ℕ → ℕ → ℕ → ℕ → ℕ → ℕ → State
    five m a b c d e = state m (a ∷ b ∷ c ∷ d ∷ e ∷ []) typed drawn output

    abbrev Run : List Act → State → ℕ → State → ℕ → Type 0
    Run acts s x s' i = Runs p f w LINE_CELLS_ACTS acts s (Returns x) s' i

    abbrev Wrote : List ℕ → (ℕ → ℕ) → ℕ → List Act → State → ℕ → Type 0
    Wrote row cells o acts s most = WroteRow p story row cells o (λ x memory' locals' count. Run acts s x (state memory' locals' typed drawn output) count) most

    -- What the loop is at: letters of a spelling that has begun stand in front of those that are left.
    record Spot (begun cs : List ℕ) : Type 0 where
      memory : List ℕ
      cells : ℕ → ℕ
      holds : Holds p.world.layout memory cells
      kept : IsKept p.world.layout.base story memory
      s : ℕ
      o : ℕ
      row : Row cells s (begun ++ cs)
      many : length begun + length cs ≤ 200
      from : 15745 ≤ s
      within : s + length begun + length cs ≤ 15945
      low : 15315 ≤ o
      behind : o + 31920 ≤ 3 * s

    abbrev at : {begun cs : List ℕ} → Spot begun cs → ℕ
    at {begun} m = m.s + length begun

    abbrev end_of : {begun cs : List ℕ} → Spot begun cs → ℕ
    end_of {begun} {cs} m = at_cell (m.s + length begun + length cs)

    -- acts in front
    front : {row : List ℕ} {cells : ℕ → ℕ} {o most : ℕ} {acts acts' : List Act} {s s1 : State} (j : ℕ) (g : ℕ → ℕ) → ((i : ℕ) → g i ≤ j + i) → ((x : ℕ) (s' : State) (i : ℕ) → Run acts' s1 x s' i → Run acts s x s' (g i)) → Wrote row cells o acts' s1 most → Wrote row cells o acts s (j + most)
    front {row} {cells} {o} j g le way r =
        let few = r.few in
        let few' = le r.count in
        record { memory' = r.memory'; cells' = r.cells'; locals' = r.locals'; holds = r.holds; kept = r.kept; row_is = r.row_is; others = r.others; count = g r.count; few = omega arith; runs = way (at_cell (o + length row)) (state r.memory' r.locals' typed drawn output) r.count r.runs }

    cheaper : {row : List ℕ} {cells : ℕ → ℕ} {o most : ℕ} {acts : List Act} {s : State} (most' : ℕ) → most ≤ most' → Wrote row cells o acts s most → Wrote row cells o acts s most'
    cheaper most' le r = let few = r.few in record { memory' = r.memory'; cells' = r.cells'; locals' = r.locals'; holds = r.holds; kept = r.kept; row_is = r.row_is; others = r.others; count = r.count; few = omega arith; runs = r.runs }

    -- A row behind one that was written.
    join : {cells c1 : ℕ → ℕ} {most : ℕ} {acts : List Act} {s : State} (xs ys : List ℕ) (o i : ℕ) → i ≡ o + length xs → Row c1 o xs → ((k : ℕ) → (o ≤ k → o + length xs ≤ k) → c1 k ≡ cells k) → Wrote ys c1 i acts s most → Wrote (xs ++ ys) cells o acts s most
    join {cells} {c1} {most} {acts} {s} xs ys o i e row others r =
        let total = length-append xs ys in
        let same : at_cell (i + length ys) ≡ at_cell (o + length (xs ++ ys)) = omega arith in
        record {
          memory' = r.memory';
          cells' = r.cells';
          locals' = r.locals';
          holds = r.holds;
          kept = r.kept;
          row_is = rows_append r.cells' o i xs ys e (rows_keep c1 r.cells' o xs (λ k from to. r.others k (λ z. (omega arith))) row) r.row_is;
          others = λ k far. r.others k (λ z. (let q = far (omega arith) in omega arith)) ∙ others k (λ z. (let q = far z in omega arith));
          count = r.count;
          few = r.few;
          runs = subst (λ (y : ℕ). Run acts s y (state r.memory' r.locals' typed drawn output) r.count) same r.runs;
        }

    -- ---- an element is written by a call

    abbrev ElementAt : {begun cs : List ℕ} → Spot begun cs → Type 0
    ElementAt {begun} m = WroteRow p story (element words begun) m.cells m.o (λ x memory' locals' count.
        Runs p 4 17 ELEMENT_ACTS ELEMENT_ACTS (state m.memory (at_cell m.s ∷ at_cell (m.s + length begun) ∷ at_cell m.o ∷ []) typed drawn output) (Returns x) (state memory' locals' typed drawn output) count) (element_most (length begun))

    element_here : {begun cs : List ℕ} (m : Spot begun cs) → ElementAt m
    element_here {begun} {cs} m =
        let b = m.behind in
        let within = m.within in
        let many = m.many in
        writes_element m.memory m.cells m.holds m.kept m.s m.o begun (omega arith) m.low (omega arith) (omega arith) (rows_front m.cells m.s begun cs m.row)

    abbrev call_element : Act
    call_element = acts.Call (Some 4) (atoms.Routine ELEMENT) (args.Three (atoms.Var 3) (atoms.Var 1) (atoms.Var 4))

    -- local 4 becomes the address behind it
    calls_element : {begun cs : List ℕ} (m : Spot begun cs) (a z e : ℕ) (rest : List Act) → a ≡ m.s + length begun → (r : ElementAt m) → (x n : ℕ) (s' : State) → Run rest (five r.memory' (at_cell a) z (at_cell m.s) (at_cell (m.o + length (element words begun))) e) x s' n → Run (call_element ∷ rest) (five m.memory (at_cell a) z (at_cell m.s) (at_cell m.o) e) x s' (suc r.count + n)
    calls_element {begun} m a z e rest is r x n s' go =
        let b = at_cell a in
        let s = at_cell m.s in
        let c = at_cell m.o in
        let y = at_cell (m.o + length (element words begun)) in
        let run = subst (λ (i : ℕ). Runs p 4 17 ELEMENT_ACTS ELEMENT_ACTS (state m.memory (at_cell m.s ∷ at_cell i ∷ at_cell m.o ∷ []) typed drawn output) (Returns (at_cell (m.o + length (element words begun)))) (state r.memory' r.locals' typed drawn output) r.count) (sym is) r.runs in
        calls {f' = 4} {w' = 17} {n = r.count} {n' = n} {xs = (s, b, c)} {s2 = five r.memory' b z s y e} refl (rw (third p m.memory b z s c e typed drawn output, first p m.memory b z s c e typed drawn output, fourth p m.memory b z s c e typed drawn output) refl) (element_at p has) (omega arith) (omega arith) run (put_fourth p r.memory' b z s c e y typed drawn output) go

    abbrev most_of : ℕ → ℕ → ℕ
    most_of b c = 47 * (W * (b + c)) + 100 * b + 120 * c + 7

    abbrev Loops : {begun cs : List ℕ} → Spot begun cs → ℕ → ℕ → ℕ → Type 0
    Loops {begun} {cs} m a z e = Wrote (words_of (values_behind words begun cs)) m.cells m.o (drop 6 LINE_CELLS_ACTS) (five m.memory (at_cell a) z (at_cell m.s) (at_cell m.o) e) (most_of (length begun) (length cs))

    -- the end of the list
    module _ (begun : List ℕ) (m : Spot begun []) (a z e : ℕ) (is : a ≡ m.s + length begun) (last : z ≡ at_cell (m.s + length begun + 0)) where
      writes_nil : (r : ElementAt m) → Wrote (28672 ∷ []) r.cells' (m.o + length (element words begun)) (drop 19 LINE_CELLS_ACTS) (five r.memory' (at_cell a) z (at_cell m.s) (at_cell (m.o + length (element words begun))) e) 3
      writes_nil r =
          let room = has.mapped.room in
          let short = element_short words begun in
          let b = m.behind in
          let within = m.within in
          let i = m.o + length (element words begun) in
          let y = at_cell i in
          let y' = at_cell (i + 1) in
          let m1 = with_cell r.memory' i 28672 in
          let t = at_cell a in
          let s = at_cell m.s in
          record {
            memory' = m1;
            cells' = replaced r.cells' i 28672;
            locals' = t ∷ z ∷ s ∷ y' ∷ e ∷ [];
            holds = holds_with p.world.layout r.memory' r.cells' i 28672 r.holds (omega arith) (omega arith);
            kept = kept_cell p.world.layout.base story r.memory' i 28672 (omega arith) r.kept;
            row_is = (same_cell r.cells' i 28672, tt);
            others = λ k far. other_cell r.cells' i 28672 k (λ (q : k ≡ i). (let v = far (omega arith) in omega arith));
            count = 3;
            few = omega arith;
            runs = done (writes p (five r.memory' t z s y e) widths.Word (atoms.Var 4) (atoms.Num 0) (atoms.Num 28672) y 0 28672 m1 (fourth p r.memory' t z s y e typed drawn output) refl refl (writes_cell p.world.layout r.memory' r.cells' y 0 28672 i r.holds (omega arith) (omega arith)))
                (done (computes p (five m1 t z s y e) (five m1 t z s y' e) 4 functions.Add (atoms.Var 4) (atoms.Num 2) y 2 y' (fourth p m1 t z s y e typed drawn output) refl (added p m1 y 2 y' (omega arith)) (put_fourth p m1 t z s y e y' typed drawn output))
                (returns (fourth p m1 t z s y' e typed drawn output)));
          }

      ends : (r : ElementAt m) → Loops m a z e
      unfolding behind_label
      ends r =
          let few = r.few in
          let t = at_cell a in
          let s = at_cell m.s in
          let joined = join (element words begun) (28672 ∷ []) m.o (m.o + length (element words begun)) refl r.row_is r.others (writes_nil r) in
          subst (λ (l : List ℕ). Wrote l m.cells m.o (drop 6 LINE_CELLS_ACTS) (five m.memory t z s (at_cell m.o) e) (most_of (length begun) 0)) (sym (at_end words begun))
          (cheaper (most_of (length begun) 0) (omega arith) (front (r.count + 2) (λ i. suc (suc r.count + i)) (λ i. omega arith)
          (λ x s' i go. taken (tested p (five m.memory t z s (at_cell m.o) e) comparisons.Equal (atoms.Var 1) (atoms.Var 2) true t z true (first p m.memory t z s (at_cell m.o) e typed drawn output) (second p m.memory t z s (at_cell m.o) e typed drawn output) (eq-eqb t z (omega arith))) refl
          (calls_element m a z e (drop 19 LINE_CELLS_ACTS) is r x i s' go))
          joined))

    -- a letter
    module _ (begun : List ℕ) (c : ℕ) (cs : List ℕ) (m : Spot begun (c ∷ cs)) (a z e : ℕ) (is : a ≡ m.s + length begun) (last : z ≡ at_cell (m.s + length begun + suc (length cs))) where
      abbrev t : ℕ
      t = at_cell a

      abbrev t' : ℕ
      t' = at_cell (suc a)

      abbrev s : ℕ
      s = at_cell m.s

      abbrev kind : ℕ
      kind = kind_of (eqb c 32) (is_alone c)

      abbrev now : ℕ → ℕ → State
      now o' e' = five m.memory t z s o' e'

      letter_is : m.cells a ≡ c
      letter_is = subst (λ (i : ℕ). m.cells i ≡ c) (sym is) (rows_back m.cells m.s (m.s + length begun) begun (c ∷ cs) refl m.row).0

      rest_is : Row m.cells (suc a) cs
      rest_is = subst (λ (i : ℕ). Row m.cells (suc i) cs) (sym is) (rows_back m.cells m.s (m.s + length begun) begun (c ∷ cs) refl m.row).1

      to_kind : (k : Kind p 0 0 m.memory typed output drawn c) (x i : ℕ) (s' : State) → Run (drop 9 LINE_CELLS_ACTS) (now (at_cell m.o) kind) x s' i → Run (drop 6 LINE_CELLS_ACTS) (now (at_cell m.o) e) x s' (suc (suc (suc k.count + i)))
      to_kind k x i s' go =
          let room = has.mapped.room in
          let within = m.within in
          let o' = at_cell m.o in
          passed (tested p (now o' e) comparisons.Equal (atoms.Var 1) (atoms.Var 2) true t z false (first p m.memory t z s o' e typed drawn output) (second p m.memory t z s o' e typed drawn output) (ne_eqb t z (λ (q : t ≡ z). (omega arith))))
          (done (computes p (now o' e) (now o' c) 5 functions.Word (atoms.Var 1) (atoms.Num 0) t 0 c (first p m.memory t z s o' e typed drawn output) refl (reads_cell p.world.layout m.memory m.cells t 0 a m.holds (omega arith) (omega arith) ∙ ap word letter_is) (put_fifth p m.memory t z s o' e c typed drawn output))
          (calls {f' = 0} {w' = 0} {n = k.count} {n' = i} {xs = (c, 0, 0)} {s2 = now o' kind} refl (rw (fifth p m.memory t z s o' c typed drawn output) refl) (letter_kind_at p has) (omega arith) (omega arith) k.runs (put_fifth p m.memory t z s o' c kind typed drawn output) go))

      -- the next letter comes
      goes_next : (memory : List ℕ) (s1 o1 e1 x i : ℕ) (s' : State) → a < 15945 → Run (drop 6 LINE_CELLS_ACTS) (five memory t' z s1 o1 e1) x s' i → Run (drop 15 LINE_CELLS_ACTS) (five memory t z s1 o1 e1) x s' (suc (suc i))
      unfolding behind_label
      goes_next memory s1 o1 e1 x i s' lt go =
          done (computes p (five memory t z s1 o1 e1) (five memory t' z s1 o1 e1) 1 functions.Add (atoms.Var 1) (atoms.Num 2) t 2 t' (first p memory t z s1 o1 e1 typed drawn output) refl (added p memory t 2 t' (omega arith)) (put_first p memory t z s1 o1 e1 t' typed drawn output))
          (goes refl go)

      kind_test : (memory : List ℕ) (s1 o1 k : ℕ) (n : ℕ) (b : Bool) → (k == n) ≡ b → answer_of p (five memory t z s1 o1 k) (record { comparison = comparisons.Equal; first = atoms.Var 5; second = atoms.Num n; answer = true }) ≡ Some b
      kind_test memory s1 o1 k n b q = tested p (five memory t z s1 o1 k) comparisons.Equal (atoms.Var 5) (atoms.Num n) true k n b (fifth p memory t z s1 o1 k typed drawn output) refl q

      abbrev most : ℕ
      most = most_of (length begun) (suc (length cs))

      -- one of a longer spelling
      abbrev longer : Spot (begun ++ c ∷ []) cs
      longer =
          let size = length-append begun (c ∷ []) in
          let many = m.many in
          let within = m.within in
          record {
            memory = m.memory;
            cells = m.cells;
            holds = m.holds;
            kept = m.kept;
            s = m.s;
            o = m.o;
            row = subst (Row m.cells m.s) (sym (append_assoc begun (c ∷ []) cs)) m.row;
            many = omega arith;
            from = m.from;
            within = omega arith;
            low = m.low;
            behind = m.behind;
          }

      is_longer : (k : Kind p 0 0 m.memory typed output drawn c) → eqb c 32 ≡ false → is_alone c ≡ false → Loops longer (suc a) z 0 → Loops m a z e
      unfolding behind_label
      is_longer k e1 e2 r =
          let few = k.few in
          let within = m.within in
          let size = length-append begun (c ∷ []) in
          let product = ap (λ (i : ℕ). W * i) size in
          let zero_kind : kind ≡ 0 = rw (e1, e2) refl in
          let o' = at_cell m.o in
          subst (λ (l : List ℕ). Wrote l m.cells m.o (drop 6 LINE_CELLS_ACTS) (now o' e) most) (sym (at_other words begun c cs e1 e2))
          (cheaper most (omega arith) (front (k.count + 6) (λ i. suc (suc (suc k.count + suc (suc (suc i))))) (λ i. omega arith)
          (λ x s' i go. to_kind k x (suc (suc (suc i))) s' (subst (λ (y : ℕ). Run (drop 9 LINE_CELLS_ACTS) (now o' y) x s' (suc (suc (suc i)))) (sym zero_kind)
          (taken (kind_test m.memory s o' 0 0 true refl) refl (goes_next m.memory s o' 0 x i s' (omega arith) go))))
          r))

      -- the spelling that has begun ends
      module _ (k : Kind p 0 0 m.memory typed output drawn c) (r : ElementAt m) where
        abbrev o1 : ℕ
        o1 = m.o + length (element words begun)

        to_start : (b : ℕ) → kind ≡ suc b → (x i : ℕ) (s' : State) → Run (drop 12 LINE_CELLS_ACTS) (five r.memory' t z t' (at_cell o1) (suc b)) x s' i → Run (drop 6 LINE_CELLS_ACTS) (now (at_cell m.o) e) x s' (suc (suc (suc k.count + suc (suc r.count + suc i))))
        to_start b is_kind x i s' go =
            let within = m.within in
            to_kind k x (suc (suc r.count + suc i)) s' (subst (λ (y : ℕ). Run (drop 9 LINE_CELLS_ACTS) (now (at_cell m.o) y) x s' (suc (suc r.count + suc i))) (sym is_kind)
            (passed (kind_test m.memory s (at_cell m.o) (suc b) 0 false (ne_eqb (suc b) 0 (λ (q : suc b ≡ 0). (omega arith))))
            (calls_element m a z (suc b) (drop 11 LINE_CELLS_ACTS) is r x (suc i) s'
            (done (computes p (five r.memory' t z s (at_cell o1) (suc b)) (five r.memory' t z t' (at_cell o1) (suc b)) 3 functions.Add (atoms.Var 1) (atoms.Num 2) t 2 t' (first p r.memory' t z s (at_cell o1) (suc b) typed drawn output) refl (added p r.memory' t 2 t' (omega arith)) (put_third p r.memory' t z s (at_cell o1) (suc b) t' typed drawn output)) go))))

        -- a space
        abbrev behind_space : Spot [] cs
        behind_space =
            let short = element_short words begun in
            let b = m.behind in
            let within = m.within in
            let many = m.many in
            let from = m.from in
            let low = m.low in
            record {
              memory = r.memory';
              cells = r.cells';
              holds = r.holds;
              kept = r.kept;
              s = suc a;
              o = o1;
              row = rows_keep m.cells r.cells' (suc a) cs (λ i le lt. r.others i (λ q. (omega arith))) rest_is;
              many = omega arith;
              from = omega arith;
              within = omega arith;
              low = omega arith;
              behind = omega arith;
            }

        is_space : eqb c 32 ≡ true → Loops behind_space (suc a) z 1 → Loops m a z e
        unfolding behind_label
        is_space e1 q =
            let few1 = k.few in
            let few2 = r.few in
            let within = m.within in
            let one_kind : kind ≡ 1 = rw e1 refl in
            subst (λ (l : List ℕ). Wrote l m.cells m.o (drop 6 LINE_CELLS_ACTS) (now (at_cell m.o) e) most) (sym (at_space words begun c cs e1))
            (cheaper most (omega arith) (front (k.count + r.count + 9) (λ i. suc (suc (suc k.count + suc (suc r.count + suc (suc (suc (suc i))))))) (λ i. omega arith)
            (λ x s' i go. to_start 0 one_kind x (suc (suc (suc i))) s' (taken (kind_test r.memory' t' (at_cell o1) 1 1 true refl) refl (goes_next r.memory' t' (at_cell o1) 1 x i s' (omega arith) go)))
            (join (element words begun) (words_of (values_behind words [] cs)) m.o o1 refl r.row_is r.others q)))

        -- a spelling of its own
        abbrev Alone : Type 0
        Alone = WroteRow p story (element words (c ∷ [])) r.cells' o1 (λ x memory' locals' count.
            Runs p 4 17 ELEMENT_ACTS ELEMENT_ACTS (state r.memory' (t ∷ at_cell (a + 1) ∷ at_cell o1 ∷ []) typed drawn output) (Returns x) (state memory' locals' typed drawn output) count) (element_most 1)

        alone_here : Alone
        alone_here =
            let short = element_short words begun in
            let b = m.behind in
            let within = m.within in
            let low = m.low in
            writes_element r.memory' r.cells' r.holds r.kept a o1 (c ∷ []) (omega arith) (omega arith) (omega arith) (omega arith) (r.others a (λ q. (omega arith)) ∙ letter_is, tt)

        module _ (u : Alone) where
          abbrev o2 : ℕ
          o2 = o1 + length (element words (c ∷ []))

          abbrev behind_alone : Spot [] cs
          behind_alone =
              let short = element_short words begun in
              let short2 = element_short words (c ∷ []) in
              let b = m.behind in
              let within = m.within in
              let many = m.many in
              let from = m.from in
              let low = m.low in
              record {
                memory = u.memory';
                cells = u.cells';
                holds = u.holds;
                kept = u.kept;
                s = suc a;
                o = o2;
                row = rows_keep m.cells u.cells' (suc a) cs (λ i le lt. u.others i (λ q. (omega arith)) ∙ r.others i (λ q. (omega arith))) rest_is;
                many = omega arith;
                from = omega arith;
                within = omega arith;
                low = omega arith;
                behind = omega arith;
              }

          to_next : (x i : ℕ) (s' : State) → Run (drop 15 LINE_CELLS_ACTS) (five u.memory' t z t' (at_cell o2) 2) x s' i → Run (drop 12 LINE_CELLS_ACTS) (five r.memory' t z t' (at_cell o1) 2) x s' (suc (suc u.count + i))
          to_next x i s' go =
              let next : a + 1 ≡ suc a = omega arith in
              let run = subst (λ (j : ℕ). Runs p 4 17 ELEMENT_ACTS ELEMENT_ACTS (state r.memory' (t ∷ at_cell j ∷ at_cell o1 ∷ []) typed drawn output) (Returns (at_cell o2)) (state u.memory' u.locals' typed drawn output) u.count) next u.runs in
              passed (kind_test r.memory' t' (at_cell o1) 2 1 false refl)
              (calls {f' = 4} {w' = 17} {n = u.count} {n' = i} {xs = (t, t', at_cell o1)} {s2 = five u.memory' t z t' (at_cell o2) 2} refl (rw (first p r.memory' t z t' (at_cell o1) 2 typed drawn output, third p r.memory' t z t' (at_cell o1) 2 typed drawn output, fourth p r.memory' t z t' (at_cell o1) 2 typed drawn output) refl) (element_at p has) (omega arith) (omega arith) run (put_fourth p u.memory' t z t' (at_cell o1) 2 (at_cell o2) typed drawn output)
              (at_label go))

          is_own : eqb c 32 ≡ false → is_alone c ≡ true → Loops behind_alone (suc a) z 2 → Loops m a z e
          is_own e1 e2 q =
              let few1 = k.few in
              let few2 = r.few in
              let few3 = u.few in
              let within = m.within in
              let two_kind : kind ≡ 2 = rw (e1, e2) refl in
              let el = element words (c ∷ []) in
              subst (λ (l : List ℕ). Wrote l m.cells m.o (drop 6 LINE_CELLS_ACTS) (now (at_cell m.o) e) most) (sym (at_alone words begun c cs e1 e2))
              (cheaper most (omega arith) (front (k.count + r.count + u.count + 10) (λ i. suc (suc (suc k.count + suc (suc r.count + suc (suc (suc u.count + suc (suc i))))))) (λ i. omega arith)
              (λ x s' i go. to_start 1 two_kind x (suc (suc u.count + suc (suc i))) s' (to_next x (suc (suc i)) s' (goes_next u.memory' t' (at_cell o2) 2 x i s' (omega arith) go)))
              (join (element words begun) (el ++ words_of (values_behind words [] cs)) m.o o1 refl r.row_is r.others (join el (words_of (values_behind words [] cs)) o1 o2 refl u.row_is u.others q))))

    -- What is known of a loop over these letters.
    abbrev Rest : List ℕ → Type 0
    Rest cs = (begun : List ℕ) (m : Spot begun cs) (a z e : ℕ) → a ≡ m.s + length begun → z ≡ at_cell (m.s + length begun + length cs) → Loops m a z e

    by_kind : (begun : List ℕ) (c : ℕ) (cs : List ℕ) (m : Spot begun (c ∷ cs)) (a z e : ℕ) → a ≡ m.s + length begun → z ≡ at_cell (m.s + length begun + suc (length cs)) → Rest cs → Kind p 0 0 m.memory typed output drawn c → (space alone : Bool) → eqb c 32 ≡ space → is_alone c ≡ alone → Loops m a z e
    by_kind begun c cs m a z e is last rest k true alone e1 e2 =
        let r = element_here m in
        is_space begun c cs m a z e is last k r e1 (rest [] (behind_space begun c cs m a z e is last k r) (suc a) z 1 (omega arith) (omega arith))
    by_kind begun c cs m a z e is last rest k false true e1 e2 =
        let r = element_here m in
        let u = alone_here begun c cs m a z e is last k r in
        is_own begun c cs m a z e is last k r u e1 e2 (rest [] (behind_alone begun c cs m a z e is last k r u) (suc a) z 2 (omega arith) (omega arith))
    by_kind begun c cs m a z e is last rest k false false e1 e2 =
        let size = length-append begun (c ∷ []) in
        is_longer begun c cs m a z e is last k e1 e2 (rest (begun ++ c ∷ []) (longer begun c cs m a z e is last) (suc a) z 0 (omega arith) (omega arith))

    loops : (cs : List ℕ) → Rest cs
    loops [] begun m a z e is last = ends begun m a z e is last (element_here m)
    loops (c ∷ cs) begun m a z e is last = by_kind begun c cs m a z e is last (loops cs) (tells_kind p 0 0 m.memory typed output drawn c) (eqb c 32) (is_alone c) refl refl

    -- up to the loop
    to_loop : (memory : List ℕ) (n x i : ℕ) (s' : State) → n ≤ 200 → Run (drop 6 LINE_CELLS_ACTS) (five memory (at_cell 15745) (at_cell (15745 + n)) (at_cell 15745) (at_cell 15315) 0) x s' i → Run LINE_CELLS_ACTS (five memory n 0 0 0 0) x s' (suc (suc (suc (suc (suc i)))))
    to_loop memory n x i s' few go =
        let b = n + n in
        let z = at_cell (15745 + n) in
        let r = at_cell 15745 in
        let l = at_cell 15315 in
        done (computes p (five memory n 0 0 0 0) (five memory n b 0 0 0) 2 functions.Add (atoms.Var 1) (atoms.Var 1) n n b (first p memory n 0 0 0 0 typed drawn output) (first p memory n 0 0 0 0 typed drawn output) (added p memory n n b (omega arith)) (put_second p memory n 0 0 0 0 b typed drawn output))
        (done (computes p (five memory n b 0 0 0) (five memory n z 0 0 0) 2 functions.Add (atoms.Var 2) (atoms.Num 31554) b 31554 z (second p memory n b 0 0 0 typed drawn output) refl (added p memory b 31554 z (omega arith)) (put_second p memory n b 0 0 0 z typed drawn output))
        (done (copies p (five memory n z 0 0 0) (five memory r z 0 0 0) 1 (atoms.Num 31554) r refl (put_first p memory n z 0 0 0 r typed drawn output))
        (done (copies p (five memory r z 0 0 0) (five memory r z r 0 0) 3 (atoms.Num 31554) r refl (put_third p memory r z 0 0 0 r typed drawn output))
        (done (copies p (five memory r z r 0 0) (five memory r z r l 0) 4 (atoms.Num 30694) l refl (put_fourth p memory r z r 0 0 l typed drawn output))
        (at_label go)))))

pub line_cells_work : LineCellsWork
line_cells_work p has story words dict f w some enough memory typed output drawn cells h kept letters few row =
    let m : Spot p has story words dict typed output drawn f w some enough [] letters = record { memory = memory; cells = cells; holds = h; kept = kept; s = 15745; o = 15315; row = row; many = omega arith; from = omega arith; within = omega arith; low = omega arith; behind = omega arith } in
    let r = loops p has story words dict typed output drawn f w some enough letters [] m 15745 (at_cell (15745 + length letters)) 0 (omega arith) (omega arith) in
    let cheap = r.few in
    record {
      memory' = r.memory';
      cells' = r.cells';
      locals' = r.locals';
      holds = r.holds;
      kept = r.kept;
      row = r.row_is;
      others = r.others;
      count = suc (suc (suc (suc (suc r.count))));
      few = omega arith;
      runs = to_loop p has story words dict typed output drawn f w some enough memory (length letters) (at_cell (15315 + length (words_of (spelled_list words (spellings_of letters))))) r.count (state r.memory' r.locals' typed drawn output) few r.runs;
    }
