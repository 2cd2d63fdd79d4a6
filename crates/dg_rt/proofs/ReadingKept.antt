-- The routine that reads a kept value does so.
use Rattle.std.proofs.Common.{◌≡◌, ◌≢◌, ℕ, suc, ◌+◌, ◌*◌, ◌<◌, ◌≤◌, true, false, List, [], ◌∷◌, ◌++◌, length, drop, Some, None, refl, sym, ap, ◌∙◌, subst, arith}
use Rattle.std.proofs.lemmas.Bool.{ne_eqb}
use Rattle.dg_base.specs.declared.run.Ending.TheVariants.{HeapLimit}
use Rattle.dg_meaning.specs.Values.{Value}
use Rattle.dg_meaning.specs.Substitutions.{Substitution}
use Rattle.dg_meaning.specs.Copies.{copy_cells}
use Rattle.dg_meaning.specs.Unify.{size}
use Rattle.dg_meaning.specs.inside.Unifiers.{binding_of}
use Rattle.z_model.specs.declared.end.Halt.TheVariants.{AtQuit}
use Rattle.z_lang.specs.declared.act.Atom.TheVariants as atoms
use Rattle.z_lang.specs.declared.act.Comparison.TheVariants as comparisons
use Rattle.z_lang.specs.declared.act.Function.TheVariants as functions
use Rattle.z_lang.specs.State.{State, Program}
use Rattle.z_lang.specs.Runs.{ActsRun as Runs, ActsOutcome as Outcome, Returns, Stops, done, taken, passed, calls, returns, behind_label}
use Rattle.dg_rt.specs.declared.numbers.TheConstants.{CELLS}
use Rattle.dg_rt.specs.declared.keeping.TheConstants.{CELLS_ACTS}
use Rattle.dg_rt.specs.declared.kept.TheConstants.{READ_KEPT_ACTS}
use Rattle.dg_rt.specs.Cells.{at_cell, with_cell, replaced}
use Rattle.dg_rt.specs.Areas.{state}
use Rattle.dg_rt.specs.Shapes.{Shape, IsShape, Stands}
use Rattle.dg_rt.specs.RunTime.{routine_of, HasRunTime}
use Rattle.dg_rt.specs.Closings.{closing}
use Rattle.dg_rt.specs.Charges.{MeetsLimit}
use Rattle.dg_rt.specs.Laying.{Formed, copy_word}
use Rattle.dg_rt.specs.Copies.{words_of, Row}
use Rattle.dg_rt.specs.CopiesIn.{HasCaptures, Reading, CopiedIn}
use Rattle.dg_rt.specs.Moves.{TellsCells}
use Rattle.dg_rt.specs.Kept.{Block, total, value_in, BlocksIn, KeptIn, IsVariable, ReadsNothing, ReadsCopy, ReadKeptWorks, KeptWork}
use Rattle.dg_rt.proofs.Blocks.{size_words, copied_words, total_on, blocks_back, Located, located}
use Rattle.dg_rt.proofs.Cells.{holds_with, reads_cell, other_cell, same_cell}
use Rattle.dg_rt.proofs.Charging.{quits_full}
use Rattle.dg_rt.proofs.CopyingIn as copying
use Rattle.dg_rt.proofs.Counting.{cells_works}
use Rattle.dg_rt.proofs.Following.{word, tested, computes, copies, register, puts, local_1, local_2, local_3, put_2, put_3}
use Rattle.dg_rt.proofs.KeepingValue.{keep_works, clear_kept_works}
use Rattle.dg_rt.proofs.LaySteps.{kept_cell}
use Rattle.dg_rt.proofs.Locals.{adds, more_by, not_more_by}
use Rattle.dg_rt.proofs.Points.{stands_still}
use Rattle.dg_rt.proofs.Standing.{copy_in_at}

cells_at : (p : Program) → HasRunTime p → p.routine_at (p.names.routine CELLS) ≡ Some (routine_of 4 CELLS_ACTS)
cells_at p has = has.each 50 (routine_of 4 CELLS_ACTS) refl

module _ (p : Program) (story : List ℕ) (sh : Shape) (hc : HasCaptures p story sh.captures) (f w : ℕ) (frames : 502 ≤ f) (stack : 2510 ≤ w) (typed output : List ℕ) (drawn : ℕ) (area : ℕ → ℕ) (m : Reading p story area) (is : IsShape sh) (low : (n : ℕ) → n < sh.vars → sh.place n < sh.top) (top_is : m.cells 3 ≡ sh.top) (S : Substitution) (st : Stands sh m.cells S) (known : (n : ℕ) → sh.vars ≤ n → binding_of n S ≡ None) (last h : ℕ) (bs : List Block) (writable : at_cell last ≤ p.world.layout.base) (k : KeptIn last m.cells bs) (var : IsVariable last m.cells bs h) where
  abbrev ha : ℕ
  ha = at_cell h

  abbrev at : List ℕ → ℕ → ℕ → State
  at memory a b = state memory (ha ∷ a ∷ b ∷ []) typed drawn output

  high : at_cell 15945 ≤ p.world.layout.base
  high = hc.has.mapped.room

  -- a register is written
  abbrev written : (r : Reading p story area) (i x : ℕ) → i < 224 → x < 65536 → Reading p story area
  written r i x lt small =
      let hi = high in
      record {
        memory = with_cell r.memory i x;
        cells = replaced r.cells i x;
        holds = holds_with p.world.layout r.memory r.cells i x r.holds (omega arith) small;
        kept = kept_cell p.world.layout.base story r.memory i x (omega arith) r.kept;
        behind = λ j le. other_cell r.cells i x j (λ (e : j ≡ i). omega arith) ∙ r.behind j le;
      }

  abbrev m1 : Reading p story area
  m1 = written m 13 1 (omega arith) (omega arith)

  from_entry : 15945 ≤ h
  from_entry = var.entry.from

  to_entry : at_cell (h + 2) ≤ p.world.layout.base
  to_entry = let q = var.entry.within in omega arith

  -- up to what tells whether there is a value
  to_begin : (x : ℕ) → m.cells h ≡ x → (o : Outcome) (s' : State) (n : ℕ) → Runs p f w READ_KEPT_ACTS (drop 2 READ_KEPT_ACTS) (at m1.memory x 0) o s' n → Runs p f w READ_KEPT_ACTS READ_KEPT_ACTS (at m.memory 0 0) o s' (suc (suc n))
  to_begin x e o s' n rest =
      let hi = high in
      let fe = from_entry in
      let te = to_entry in
      let lo = m.holds.low in
      done (copies p (at m.memory 0 0) (at m1.memory 0 0) 29 (atoms.Num 1) 1 refl (puts p (at m.memory 0 0) m.cells 29 1 m.holds (omega arith) (omega arith) (omega arith) (omega arith)).put_is)
      (done (computes p (at m1.memory 0 0) (at m1.memory x 0) 2 functions.Word (atoms.Var 1) (atoms.Num 0) ha 0 x (local_1 p m1.memory ha (0 ∷ 0 ∷ []) typed drawn output) refl (reads_cell p.world.layout m1.memory m1.cells ha 0 h m1.holds (omega arith) (omega arith) ∙ ap word (other_cell m.cells 13 1 h (λ q. omega arith) ∙ e)) (put_2 p m1.memory ha 0 x (0 ∷ []) typed drawn output)) rest)

  nothing : value_in bs h ≡ None → ReadsNothing p f w m.memory (ha ∷ 0 ∷ 0 ∷ []) typed output drawn m.cells
  unfolding behind_label
  nothing e = record {
    memory' = m1.memory;
    cells' = m1.cells;
    locals' = ha ∷ 0 ∷ 0 ∷ [];
    holds = m1.holds;
    clash = same_cell m.cells 13 1;
    others = λ j ne. other_cell m.cells 13 1 j ne;
    runs = to_begin 0 (var.unset e) (Returns 65535) (at m1.memory 0 0) 2
        (taken (tested p (at m1.memory 0 0) comparisons.Equal (atoms.Var 2) (atoms.Num 0) true 0 0 true (local_2 p m1.memory ha 0 (0 ∷ []) typed drawn output) refl refl) refl (returns refl));
  }

  module _ (v : Value) (l : Located bs h v) (fine : Formed sh.captures v) where
    abbrev j : ℕ
    j = 14315 + total l.front

    abbrev n : ℕ
    n = length (words_of v)

    abbrev e : ℕ
    e = j + n

    abbrev c : ℕ
    c = copy_cells v

    lie : BlocksIn m.cells j (l.one ∷ l.back)
    lie = blocks_back m.cells 14315 l.front (l.one ∷ l.back) (subst (BlocksIn m.cells 14315) l.is k.lie)

    begins : m.cells h ≡ at_cell j
    begins = ap m.cells (sym l.entry) ∙ lie.0.begins

    long : m.cells (h + 1) ≡ n
    long = ap (λ (i : ℕ). m.cells (i + 1)) (sym l.entry) ∙ lie.0.long ∙ ap (λ (x : Value). length (words_of x)) l.value

    row : Row m.cells j (words_of v)
    row = subst (λ (x : Value). Row m.cells j (words_of x)) l.value lie.0.row

    few : j + n ≤ 14815
    few =
        let sizes = total_on l.front (l.one ∷ l.back) in
        let all : total bs ≡ total (l.front ++ l.one ∷ l.back) = ap total l.is in
        let one : length (words_of l.one.value) ≡ n = ap (λ (x : Value). length (words_of x)) l.value in
        let limit = k.few in
        omega arith

    row_in : (words : ℕ → ℕ) → ((i : ℕ) → 12315 ≤ i → words i ≡ m.cells i) → (i : ℕ) (xs : List ℕ) → 12315 ≤ i → Row m.cells i xs → Row words i xs
    row_in words same i [] le r = tt
    row_in words same i (x ∷ xs) le r = (same i le ∙ r.0, row_in words same (suc i) xs (omega arith) r.1)

    row1 : Row m1.cells j (words_of v)
    row1 = row_in m1.cells (λ i le. other_cell m.cells 13 1 i (λ q. omega arith)) j (words_of v) (omega arith) row

    told : TellsCells p 0 0 CELLS_ACTS m1.memory (at_cell j ∷ at_cell e ∷ 0 ∷ 0 ∷ []) typed output drawn c (14 * size v + 2)
    told =
        let hi = high in
        let fw = few in
        let cw = copied_words v in
        cells_works p story sh.captures hc 0 0 m1.memory typed output drawn m1.cells m1.holds m1.kept v j fine (omega arith) (omega arith) row1 (omega arith)

    -- up to what tells whether there is room
    to_room : (o : Outcome) (s' : State) (i : ℕ) → Runs p f w READ_KEPT_ACTS (drop 8 READ_KEPT_ACTS) (at m1.memory (at_cell j) (sh.top + c)) o s' i → Runs p f w READ_KEPT_ACTS READ_KEPT_ACTS (at m.memory 0 0) o s' (suc (suc (suc (suc (suc (suc (suc told.count + suc i)))))))
    to_room o s' i rest =
        let hi = high in
        let fe = from_entry in
        let te = to_entry in
        let lo = m.holds.low in
        let fw = few in
        let cw = copied_words v in
        let tw = is.room in
        let ja = at_cell j in
        let ea = at_cell e in
        let mm = m1.memory in
        to_begin ja begins o s' (suc (suc (suc (suc (suc told.count + suc i)))))
        (passed (tested p (at mm ja 0) comparisons.Equal (atoms.Var 2) (atoms.Num 0) true ja 0 false (local_2 p mm ha ja (0 ∷ []) typed drawn output) refl (ne_eqb ja 0 (λ (q : ja ≡ 0). omega arith)))
        (done (computes p (at mm ja 0) (at mm ja n) 3 functions.Word (atoms.Var 1) (atoms.Num 1) ha 1 n (local_1 p mm ha (ja ∷ 0 ∷ []) typed drawn output) refl (reads_cell p.world.layout mm m1.cells ha 1 (h + 1) m1.holds (omega arith) (omega arith) ∙ ap word (other_cell m.cells 13 1 (h + 1) (λ q. omega arith) ∙ long)) (put_3 p mm ha ja 0 n [] typed drawn output))
        (done (computes p (at mm ja n) (at mm ja (n + n)) 3 functions.Add (atoms.Var 3) (atoms.Var 3) n n (n + n) (local_3 p mm ha ja n [] typed drawn output) (local_3 p mm ha ja n [] typed drawn output) (adds p mm n n (n + n) refl (omega arith)) (put_3 p mm ha ja n (n + n) [] typed drawn output))
        (done (computes p (at mm ja (n + n)) (at mm ja ea) 3 functions.Add (atoms.Var 3) (atoms.Var 2) (n + n) ja ea (local_3 p mm ha ja (n + n) [] typed drawn output) (local_2 p mm ha ja ((n + n) ∷ []) typed drawn output) (adds p mm (n + n) ja ea (omega arith) (omega arith)) (put_3 p mm ha ja (n + n) ea [] typed drawn output))
        (calls {f' = 0} {w' = 0} {n = told.count} {n' = suc i} {xs = (ja, ea, 0)} {s1 = state mm told.locals' typed drawn output} {s2 = at mm ja c} refl (rw (local_2 p mm ha ja (ea ∷ []) typed drawn output, local_3 p mm ha ja ea [] typed drawn output) refl) (cells_at p hc.has) (omega arith) (omega arith) told.runs (put_3 p mm ha ja ea c [] typed drawn output)
        (done (computes p (at mm ja c) (at mm ja (sh.top + c)) 3 functions.Add (atoms.Var 3) (atoms.Var 19) c sh.top (sh.top + c) (local_3 p mm ha ja c [] typed drawn output) (register p (at mm ja c) m1.cells 19 m1.holds (omega arith) (omega arith) (omega arith) ∙ ap word (other_cell m.cells 13 1 3 (λ q. omega arith) ∙ top_is)) (adds p mm c sh.top (sh.top + c) (omega arith) (omega arith)) (put_3 p mm ha ja c (sh.top + c) [] typed drawn output)) rest))))))

    meets : 10000 < sh.top + c → MeetsLimit p f w READ_KEPT_ACTS m.memory (ha ∷ 0 ∷ 0 ∷ []) typed output drawn m.cells (14 * size v + 20)
    unfolding behind_label
    meets over =
        let fw = few in
        let cw = copied_words v in
        let tw = is.room in
        let few1 = told.few in
        let q = quits_full p hc.has f w (omega arith) READ_KEPT_ACTS (drop 19 READ_KEPT_ACTS) m1.memory (ha ∷ at_cell j ∷ (sh.top + c) ∷ []) typed output drawn (m.cells 28) m1.cells m1.holds (other_cell m.cells 13 1 28 (λ z. omega arith)) in
        let few2 = q.few in
        record {
          memory' = m1.memory;
          count = suc (suc (suc (suc (suc (suc (suc told.count + suc (suc (suc q.count))))))));
          runs = to_room (Stops AtQuit) (state m1.memory [] typed drawn (output ++ closing (m.cells 28) HeapLimit)) (suc (suc q.count))
              (taken (tested p (at m1.memory (at_cell j) (sh.top + c)) comparisons.Greater (atoms.Var 3) (atoms.Num 10000) true (sh.top + c) 10000 true (local_3 p m1.memory ha (at_cell j) (sh.top + c) [] typed drawn output) refl (more_by (sh.top + c) 10000 (omega arith) (omega arith) over)) refl q.runs);
          few = omega arith;
        }

    module _ (room : sh.top + c ≤ 10000) where
      abbrev t : ℕ
      t = sh.top + c

      abbrev m2 : Reading p story area
      m2 = written m1 3 t (omega arith) (omega arith)

      abbrev m3 : Reading p story area
      m3 = written m2 38 (at_cell j) (omega arith) (let fw = few in omega arith)

      abbrev m4 : Reading p story area
      m4 = written m3 39 t (omega arith) (omega arith)

      abbrev m5 : Reading p story area
      m5 = written m4 13 0 (omega arith) (omega arith)

      same5 : (i : ℕ) → i ≢ 3 → i ≢ 13 → i ≢ 38 → i ≢ 39 → m5.cells i ≡ m.cells i
      same5 i n3 n13 n38 n39 = other_cell m4.cells 13 0 i n13 ∙ other_cell m3.cells 39 t i n39 ∙ other_cell m2.cells 38 (at_cell j) i n38 ∙ other_cell m1.cells 3 t i n3 ∙ other_cell m.cells 13 1 i n13

      copied : CopiedIn p story area typed output drawn m5 sh S j v
      copied =
          let hi = high in
          let fw = few in
          copying.copy_in_works p story sh hc typed output drawn area m5 is low S (stands_still m.cells m5.cells (λ i le. same5 i (λ z. omega arith) (λ z. omega arith) (λ z. omega arith) (λ z. omega arith)) st) known v j fine room (omega arith) (omega arith) (omega arith)
          (row_in area (λ i le. sym (m.behind i le)) j (words_of v) (omega arith) row)
          (other_cell m4.cells 13 0 38 (λ z. omega arith) ∙ other_cell m3.cells 39 t 38 (λ z. omega arith) ∙ same_cell m2.cells 38 (at_cell j))
          (other_cell m4.cells 13 0 39 (λ z. omega arith) ∙ same_cell m3.cells 39 t)

      reads : ReadsCopy p story area f w (ha ∷ 0 ∷ 0 ∷ []) typed output drawn m sh S v
      reads =
          let hi = high in
          let fw = few in
          let g = copied in
          let q = g.copies in
          let x = copy_word sh.top v in
          let ja = at_cell j in
          let few1 = told.few in
          let few2 = q.few in
          let sizes = size_words v in
          let tw = is.room in
          record {
            m' = q.m';
            locals' = ha ∷ ja ∷ x ∷ [];
            clash = q.others 13 (λ z. omega arith) (λ z. omega arith) (λ z. omega arith) ∙ same_cell m4.cells 13 0;
            heap = q.others 3 (λ z. omega arith) (λ z. omega arith) (λ z. omega arith) ∙ other_cell m4.cells 13 0 3 (λ z. omega arith) ∙ other_cell m3.cells 39 t 3 (λ z. omega arith) ∙ other_cell m2.cells 38 ja 3 (λ z. omega arith) ∙ same_cell m1.cells 3 t;
            others = λ i n3 n13 n38 n39 far. q.others i n38 n39 far ∙ same5 i n3 n13 n38 n39;
            sh' = g.sh';
            top = g.top;
            vars = g.vars;
            grown = g.grown;
            shape = g.shape;
            low = g.low;
            new_places = g.new_places;
            new_boxes = g.new_boxes;
            stands = g.stands;
            shows = g.shows;
            count = suc (suc (suc (suc (suc (suc (suc told.count + suc (suc (suc (suc (suc (suc (suc q.count + 1))))))))))));
            few = omega arith;
            runs = to_room (Returns x) (at q.m'.memory ja x) (suc (suc (suc (suc (suc (suc q.count + 1))))))
                (passed (tested p (at m1.memory ja t) comparisons.Greater (atoms.Var 3) (atoms.Num 10000) true t 10000 false (local_3 p m1.memory ha ja t [] typed drawn output) refl (not_more_by t 10000 (omega arith) (omega arith) room))
                (done (copies p (at m1.memory ja t) (at m2.memory ja t) 19 (atoms.Var 3) t (local_3 p m1.memory ha ja t [] typed drawn output) (puts p (at m1.memory ja t) m1.cells 19 t m1.holds (omega arith) (omega arith) (omega arith) (omega arith)).put_is)
                (done (copies p (at m2.memory ja t) (at m3.memory ja t) 54 (atoms.Var 2) ja (local_2 p m2.memory ha ja (t ∷ []) typed drawn output) (puts p (at m2.memory ja t) m2.cells 54 ja m2.holds (omega arith) (omega arith) (omega arith) (omega arith)).put_is)
                (done (copies p (at m3.memory ja t) (at m4.memory ja t) 55 (atoms.Var 3) t (local_3 p m3.memory ha ja t [] typed drawn output) (puts p (at m3.memory ja t) m3.cells 55 t m3.holds (omega arith) (omega arith) (omega arith) (omega arith)).put_is)
                (done (copies p (at m4.memory ja t) (at m5.memory ja t) 29 (atoms.Num 0) 0 refl (puts p (at m4.memory ja t) m4.cells 29 0 m4.holds (omega arith) (omega arith) (omega arith) (omega arith)).put_is)
                (calls {f' = size v} {w' = 5 * size v} {n = q.count} {n' = 1} {xs = (0, 0, 0)} {s1 = state q.m'.memory q.locals' typed drawn output} {s2 = at q.m'.memory ja x} refl refl (copy_in_at p hc.has) (omega arith) (omega arith) q.runs (put_3 p q.m'.memory ha ja t x [] typed drawn output)
                (returns (local_3 p q.m'.memory ha ja x [] typed drawn output))))))));
          }

pub read_kept_works : ReadKeptWorks
read_kept_works p story sh hc f w frames stack typed output drawn area m is low top_is S st known last h bs writable k var fine = record {
  nothing = nothing p story sh hc f w frames stack typed output drawn area m is low top_is S st known last h bs writable k var;
  copies = λ v e room. reads p story sh hc f w frames stack typed output drawn area m is low top_is S st known last h bs writable k var v (located bs h v e) (fine v e) room;
  meets = λ v e over. meets p story sh hc f w frames stack typed output drawn area m is low top_is S st known last h bs writable k var v (located bs h v e) (fine v e) over;
}

pub kept_work : KeptWork
kept_work = record { keep = keep_works; clear = clear_kept_works; read = read_kept_works }
