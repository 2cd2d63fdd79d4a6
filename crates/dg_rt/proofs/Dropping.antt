-- The routine that drops a kept value does so, and moves those behind it down.
use Rattle.std.proofs.Common.{◌≡◌, ◌≢◌, ℕ, suc, ◌+◌, ◌*◌, ◌<◌, ◌≤◌, inl, inr, true, false, List, [], ◌∷◌, ◌++◌, length, drop, Option, Some, None, refl, sym, ap, ◌∙◌, subst, arith}
use Rattle.std.proofs.lemmas.Bool.{ne_eqb, eq-eqb, cases_eq}
use Rattle.dg_meaning.specs.Values.{Value}
use Rattle.z_lang.specs.declared.act.Atom.TheVariants as atoms
use Rattle.z_lang.specs.declared.act.Comparison.TheVariants as comparisons
use Rattle.z_lang.specs.declared.act.Function.TheVariants as functions
use Rattle.z_lang.specs.declared.act.Width.TheVariants as widths
use Rattle.z_lang.specs.State.{State, Program}
use Rattle.z_lang.specs.Runs.{ActsRun as Runs, ActsOutcome as Outcome, Returns, done, taken, passed, goes, calls, returns, behind_label, at_label}
use Rattle.dg_rt.specs.declared.numbers.TheConstants.{MOVE}
use Rattle.dg_rt.specs.declared.keeping.TheConstants.{MOVE_ACTS}
use Rattle.dg_rt.specs.declared.kept.TheConstants.{DROP_KEPT_ACTS}
use Rattle.dg_rt.specs.Cells.{at_cell, with_cell, replaced, Holds}
use Rattle.dg_rt.specs.Areas.{state}
use Rattle.dg_rt.specs.RunTime.{routine_of, HasRunTime}
use Rattle.dg_rt.specs.Copies.{words_of, Row}
use Rattle.dg_rt.specs.Kept.{Block, total, value_in, without, BlocksIn, IsBeside, HaveEntries, KeptIn, IsVariable, NoEntry}
use Rattle.dg_rt.proofs.Blocks.{words_some, total_on, blocks_on, blocks_front, blocks_back, blocks_keep, no_entry_low, have_back, beside_first, beside_second, front_same, no_entry_back, Located, located, none_there, without_none, without_one, have_without, beside_same}
use Rattle.dg_rt.proofs.Cells.{holds_with, reads_cell, writes_cell, other_cell, same_cell}
use Rattle.dg_rt.proofs.Following.{word, tested, computes, copies, writes}
use Rattle.dg_rt.proofs.Locals.{adds, get_1, get_2, get_3, get_4, set_2, set_3, set_4}
use Rattle.dg_rt.proofs.Moving.{move_works}

move_at : (p : Program) → HasRunTime p → p.routine_at (p.names.routine MOVE) ≡ Some (routine_of 4 MOVE_ACTS)
move_at p has = has.each 49 (routine_of 4 MOVE_ACTS) refl

-- a row that was moved
row_moved : (c c' : ℕ → ℕ) (i j : ℕ) (xs : List ℕ) → ((k : ℕ) → k < length xs → c' (j + k) ≡ c (i + k)) → Row c i xs → Row c' j xs
row_moved c c' i j [] same h = tt
row_moved c c' i j (x ∷ xs) same h =
    let a : j ≡ j + 0 = omega arith in
    let b : i + 0 ≡ i = omega arith in
    (ap c' a ∙ same 0 (omega arith) ∙ ap c b ∙ h.0, row_moved c c' (suc i) (suc j) xs (λ k lt. (let d : suc j + k ≡ j + suc k = omega arith in let e : i + suc k ≡ suc i + k = omega arith in ap c' d ∙ same (suc k) (omega arith) ∙ ap c e)) h.1)

module _ (p : Program) (has : HasRunTime p) (last : ℕ) (writable : at_cell last ≤ p.world.layout.base) (f w : ℕ) (some : 1 ≤ f) (enough : 4 ≤ w) (typed output : List ℕ) (drawn : ℕ) where
  abbrev now : List ℕ → ℕ → ℕ → ℕ → ℕ → State
  now m a b c d = state m (a ∷ b ∷ c ∷ d ∷ []) typed drawn output

  -- Values that lie behind a gap are moved down over it.
  record Shifted (memory : List ℕ) (j d a x : ℕ) (cells : ℕ → ℕ) (bs : List Block) : Type 0 where
    memory' : List ℕ
    cells' : ℕ → ℕ
    locals' : List ℕ
    holds : Holds p.world.layout memory' cells'
    lie : BlocksIn cells' j bs
    end : j + total bs < 14815 → cells' (j + total bs + 500) ≡ 0
    others : (k : ℕ) → (j ≤ k → 14815 ≤ k) → (j + 500 ≤ k → 15315 ≤ k) → NoEntry k bs → cells' k ≡ cells k
    count : ℕ
    few : count ≤ 20 * total bs + 8
    runs : Runs p f w DROP_KEPT_ACTS (drop 11 DROP_KEPT_ACTS) (now memory a (at_cell j) x (at_cell (j + d))) (Returns (at_cell (j + total bs))) (state memory' locals' typed drawn output) count

  high : at_cell 15945 ≤ p.world.layout.base
  high = has.mapped.room

  -- ## Behind the last

  -- the end is marked where there is room behind it
  record Marked (memory : List ℕ) (j a x s : ℕ) (cells : ℕ → ℕ) : Type 0 where
    memory' : List ℕ
    cells' : ℕ → ℕ
    holds : Holds p.world.layout memory' cells'
    end : j < 14815 → cells' (j + 500) ≡ 0
    others : (k : ℕ) → (j + 500 ≤ k → 15315 ≤ k) → cells' k ≡ cells k
    count : ℕ
    few : count ≤ 3
    runs : Runs p f w DROP_KEPT_ACTS (drop 23 DROP_KEPT_ACTS) (now memory a (at_cell j) x s) (Returns (at_cell j)) (now memory' a (at_cell j) x s) count

  marked : (memory : List ℕ) (j a x s : ℕ) (cells : ℕ → ℕ) → Holds p.world.layout memory cells → j ≤ 14815 → Marked memory j a x s cells
  unfolding behind_label
  marked memory j a x s cells h le = elim (cases_eq j 14815) [
    | inl e ↦ full e
    | inr ne ↦ room ne
  ]
    where
      full : j ≡ 14815 → Marked memory j a x s cells
      full e = record {
        memory' = memory;
        cells' = cells;
        holds = h;
        end = λ lt. absurd (omega arith);
        others = λ k far. refl;
        count = 2;
        few = omega arith;
        runs = taken (tested p (now memory a (at_cell j) x s) comparisons.Equal (atoms.Var 2) (atoms.Num 29694) true (at_cell j) 29694 true (get_2 p memory a (at_cell j) x s typed drawn output) refl (eq-eqb (at_cell j) 29694 (omega arith))) refl (returns (get_2 p memory a (at_cell j) x s typed drawn output));
      }

      room : (j ≡ 14815 → ⊥) → Marked memory j a x s cells
      room ne =
          let low = h.low in
          let hi = high in
          let k = j + 500 in
          let m1 = with_cell memory k 0 in
          record {
            memory' = m1;
            cells' = replaced cells k 0;
            holds = holds_with p.world.layout memory cells k 0 h (omega arith) (omega arith);
            end = λ lt. same_cell cells k 0;
            others = λ i far. other_cell cells k 0 i (λ (e : i ≡ k). (let z : 15315 ≤ i = far (omega arith) in omega arith));
            count = 3;
            few = omega arith;
            runs = passed (tested p (now memory a (at_cell j) x s) comparisons.Equal (atoms.Var 2) (atoms.Num 29694) true (at_cell j) 29694 false (get_2 p memory a (at_cell j) x s typed drawn output) refl (ne_eqb (at_cell j) 29694 (λ (e : at_cell j ≡ 29694). ne (omega arith))))
                (done (writes p (now memory a (at_cell j) x s) widths.Word (atoms.Var 2) (atoms.Num 500) (atoms.Num 0) (at_cell j) 500 0 m1 (get_2 p memory a (at_cell j) x s typed drawn output) refl refl (writes_cell p.world.layout memory cells (at_cell j) 500 0 k h (omega arith) (omega arith)))
                (at_label (returns (get_2 p m1 a (at_cell j) x s typed drawn output))));
          }

  no_more : (memory : List ℕ) (j d a x : ℕ) (cells : ℕ → ℕ) → Holds p.world.layout memory cells → j + d ≤ 14815 → (j + d < 14815 → cells (j + d + 500) ≡ 0) → Shifted memory j d a x cells []
  unfolding behind_label
  no_more memory j d a x cells h le end = elim (cases_eq (j + d) 14815) [
    | inl e ↦ at_end e
    | inr ne ↦ in_front ne
  ]
    where
      s : ℕ
      s = at_cell (j + d)

      same_place : j ≡ j + 0
      same_place = omega arith

      at_end : j + d ≡ 14815 → Shifted memory j d a x cells []
      at_end e =
          let k = marked memory j a x s cells h (omega arith) in
          let few = k.few in
          record {
            memory' = k.memory';
            cells' = k.cells';
            locals' = a ∷ at_cell j ∷ x ∷ s ∷ [];
            holds = k.holds;
            lie = tt;
            end = λ lt. ap (λ (i : ℕ). k.cells' (i + 500)) (sym same_place) ∙ k.end (omega arith);
            others = λ i far far' none. k.others i far';
            count = suc k.count;
            few = omega arith;
            runs = subst (λ (i : ℕ). Runs p f w DROP_KEPT_ACTS (drop 11 DROP_KEPT_ACTS) (now memory a (at_cell j) x s) (Returns (at_cell i)) (now k.memory' a (at_cell j) x s) (suc k.count)) same_place
                (taken (tested p (now memory a (at_cell j) x s) comparisons.Equal (atoms.Var 4) (atoms.Num 29694) true s 29694 true (get_4 p memory a (at_cell j) x s typed drawn output) refl (eq-eqb s 29694 (omega arith))) refl k.runs);
          }

      in_front : (j + d ≡ 14815 → ⊥) → Shifted memory j d a x cells []
      in_front ne =
          let low = h.low in
          let hi = high in
          let o = j + d + 500 in
          let none : cells o ≡ 0 = end (omega arith) in
          let k = marked memory j a (cells o) s cells h (omega arith) in
          let few = k.few in
          record {
            memory' = k.memory';
            cells' = k.cells';
            locals' = a ∷ at_cell j ∷ cells o ∷ s ∷ [];
            holds = k.holds;
            lie = tt;
            end = λ lt. ap (λ (i : ℕ). k.cells' (i + 500)) (sym same_place) ∙ k.end (omega arith);
            others = λ i far far' none. k.others i far';
            count = suc (suc (suc k.count));
            few = omega arith;
            runs = subst (λ (i : ℕ). Runs p f w DROP_KEPT_ACTS (drop 11 DROP_KEPT_ACTS) (now memory a (at_cell j) x s) (Returns (at_cell i)) (now k.memory' a (at_cell j) (cells o) s) (suc (suc (suc k.count)))) same_place
                (passed (tested p (now memory a (at_cell j) x s) comparisons.Equal (atoms.Var 4) (atoms.Num 29694) true s 29694 false (get_4 p memory a (at_cell j) x s typed drawn output) refl (ne_eqb s 29694 (λ (e : s ≡ 29694). ne (omega arith))))
                (done (computes p (now memory a (at_cell j) x s) (now memory a (at_cell j) (cells o) s) 3 functions.Word (atoms.Var 4) (atoms.Num 500) s 500 (cells o) (get_4 p memory a (at_cell j) x s typed drawn output) refl (reads_cell p.world.layout memory cells s 500 o h (omega arith) (omega arith)) (set_3 p memory a (at_cell j) x s (cells o) typed drawn output))
                (taken (tested p (now memory a (at_cell j) (cells o) s) comparisons.Equal (atoms.Var 3) (atoms.Num 0) true (cells o) 0 true (get_3 p memory a (at_cell j) (cells o) s typed drawn output) refl (eq-eqb (cells o) 0 none)) refl k.runs)));
          }

  -- ## One more

  module _ (memory : List ℕ) (j d a x : ℕ) (cells : ℕ → ℕ) (b : Block) (bs : List Block) (h : Holds p.world.layout memory cells) (from : 14315 ≤ j) (few : j + d + total (b ∷ bs) ≤ 14815) (own : HaveEntries last (b ∷ bs)) (lie : BlocksIn cells (j + d) (b ∷ bs)) where
    abbrev n : ℕ
    n = length (words_of b.value)

    abbrev e : ℕ
    e = b.entry

    abbrev s : ℕ
    s = j + d

    abbrev m1 : List ℕ
    m1 = with_cell memory e (at_cell j)

    abbrev c1 : ℕ → ℕ
    c1 = replaced cells e (at_cell j)

    abbrev m2 : List ℕ
    m2 = with_cell m1 (j + 500) (at_cell e)

    abbrev c2 : ℕ → ℕ
    c2 = replaced c1 (j + 500) (at_cell e)

    far_entry : 15945 ≤ e
    far_entry = own.0.from

    within : at_cell (e + 2) ≤ p.world.layout.base
    within = let q = own.0.within in omega arith

    holds1 : Holds p.world.layout m1 c1
    holds1 = let q = within in let l = h.low in holds_with p.world.layout memory cells e (at_cell j) h (omega arith) (omega arith)

    holds2 : Holds p.world.layout m2 c2
    holds2 = let q = within in let l = h.low in let hi = high in holds_with p.world.layout m1 c1 (j + 500) (at_cell e) holds1 (omega arith) (omega arith)

    same2 : (k : ℕ) → k ≢ e → k ≢ j + 500 → c2 k ≡ cells k
    same2 k ne ne' = other_cell c1 (j + 500) (at_cell e) k ne' ∙ other_cell cells e (at_cell j) k ne

    long2 : c2 (e + 1) ≡ n
    long2 = let q = far_entry in same2 (e + 1) (λ z. omega arith) (λ z. omega arith) ∙ lie.0.long

    -- behind the move of one value the others are moved
    one_more : ((memory' : List ℕ) (cells' : ℕ → ℕ) (x' : ℕ) → Holds p.world.layout memory' cells' → BlocksIn cells' (j + n + d) bs → (j + n + d + total bs < 14815 → cells' (j + n + d + total bs + 500) ≡ 0) → Shifted memory' (j + n) d a x' cells' bs) → (j + d + total (b ∷ bs) < 14815 → cells (j + d + total (b ∷ bs) + 500) ≡ 0) → Shifted memory j d a x cells (b ∷ bs)
    unfolding behind_label
    one_more go end =
        let fe = far_entry in
        let q = within in
        let l = h.low in
        let hi = high in
        let some_words = words_some b.value in
        let mv = move_works p has 0 0 m2 typed output drawn s j n c2 holds2 (omega arith) (omega arith) (omega arith) (omega arith) in
        let behind : (k : ℕ) → j + n ≤ k → k ≢ e → k ≢ j + 500 → mv.cells' k ≡ cells k = λ k le ne ne'. mv.others k (λ z. le) ∙ same2 k ne ne' in
        let own_same = beside_same last cells mv.cells' e bs own.1.1 own.1.0 (λ k lo ne ne'. behind k (omega arith) ne (λ z. omega arith)) in
        let moved_place : j + d + n ≡ j + n + d = omega arith in
        let lie' : BlocksIn mv.cells' (j + n + d) bs = subst (λ (i : ℕ). BlocksIn mv.cells' i bs) moved_place (blocks_keep cells mv.cells' (j + d + n) bs (λ k lo hi'. behind k (omega arith) (λ z. omega arith) (λ z. omega arith)) (λ k lo hi'. behind k (omega arith) (λ z. omega arith) (λ z. omega arith)) own_same lie.1) in
        let end_place : j + n + d + total bs + 500 ≡ j + d + total (b ∷ bs) + 500 = omega arith in
        let end' : j + n + d + total bs < 14815 → mv.cells' (j + n + d + total bs + 500) ≡ 0 = λ lt. behind (j + n + d + total bs + 500) (omega arith) (λ z. omega arith) (λ z. omega arith) ∙ ap cells end_place ∙ end (omega arith) in
        let twice = n + n in
        let r = go mv.memory' mv.cells' twice mv.holds lie' end' in
        let stays : (k : ℕ) → (j + n ≤ k → 14815 ≤ k) → (j + n + 500 ≤ k → 15315 ≤ k) → NoEntry k bs → r.cells' k ≡ mv.cells' k = r.others in
        let first : r.cells' e ≡ at_cell j = stays e (λ z. omega arith) (λ z. omega arith) (beside_first e e bs own.1.0 refl) ∙ mv.others e (λ z. omega arith) ∙ other_cell c1 (j + 500) (at_cell e) e (λ z. omega arith) ∙ same_cell cells e (at_cell j) in
        let second : r.cells' (e + 1) ≡ n = stays (e + 1) (λ z. omega arith) (λ z. omega arith) (beside_second e (e + 1) bs own.1.0 refl) ∙ mv.others (e + 1) (λ z. omega arith) ∙ long2 in
        let owner : r.cells' (j + 500) ≡ at_cell e = stays (j + 500) (λ z. omega arith) (λ z. omega arith) (no_entry_low last (j + 500) bs own.1.1 (omega arith)) ∙ mv.others (j + 500) (λ z. omega arith) ∙ same_cell c1 (j + 500) (at_cell e) in
        let row : Row r.cells' j (words_of b.value) = row_moved cells r.cells' s j (words_of b.value) (λ k lt. stays (j + k) (λ z. omega arith) (λ z. omega arith) (no_entry_low last (j + k) bs own.1.1 (omega arith)) ∙ mv.are k lt ∙ same2 (s + k) (λ z. omega arith) (λ z. omega arith)) lie.0.row in
        let few1 = mv.few in
        let few2 = r.few in
        let last_place : j + n + total bs ≡ j + total (b ∷ bs) = omega arith in
        let from_place : at_cell s + twice ≡ at_cell (j + n + d) = omega arith in
        record {
          memory' = r.memory';
          cells' = r.cells';
          locals' = r.locals';
          holds = r.holds;
          lie = (record { begins = first; long = second; owner = owner; row = row }, r.lie);
          end = λ lt. ap (λ (i : ℕ). r.cells' (i + 500)) (sym last_place) ∙ r.end (omega arith);
          others = λ k far far' none. stays k (λ z. far (omega arith)) (λ z. far' (omega arith)) none.1 ∙ mv.others k (λ z. (let y : 14815 ≤ k = far z in omega arith)) ∙ same2 k none.0 (λ z. (let y : 15315 ≤ k = far' (omega arith) in omega arith));
          count = suc (suc (suc (suc (suc (suc (suc mv.count + suc (suc (suc (suc r.count)))))))));
          few = omega arith;
          runs = subst (λ (i : ℕ). Runs p f w DROP_KEPT_ACTS (drop 11 DROP_KEPT_ACTS) (now memory a (at_cell j) x (at_cell s)) (Returns (at_cell i)) (state r.memory' r.locals' typed drawn output) (suc (suc (suc (suc (suc (suc (suc mv.count + suc (suc (suc (suc r.count))))))))))) last_place
              (to_move mv.memory' mv.locals' mv.count mv.runs (Returns (at_cell (j + n + total bs))) (state r.memory' r.locals' typed drawn output) r.count r.runs);
        }
      where
        to_move : (memory3 locals3 : List ℕ) (k : ℕ) → Runs p 0 0 MOVE_ACTS MOVE_ACTS (state m2 (at_cell s ∷ at_cell j ∷ n ∷ 0 ∷ []) typed drawn output) (Returns 0) (state memory3 locals3 typed drawn output) k → (o : Outcome) (s' : State) (k' : ℕ) → Runs p f w DROP_KEPT_ACTS (drop 11 DROP_KEPT_ACTS) (now memory3 a (at_cell (j + n)) (n + n) (at_cell (j + n + d))) o s' k' →
            Runs p f w DROP_KEPT_ACTS (drop 11 DROP_KEPT_ACTS) (now memory a (at_cell j) x (at_cell s)) o s' (suc (suc (suc (suc (suc (suc (suc k + suc (suc (suc (suc k'))))))))))
        to_move memory3 locals3 k runs o s' k' rest =
            let fe = far_entry in
            let q = within in
            let l = h.low in
            let hi = high in
            let some_words = words_some b.value in
            let sa = at_cell s in
            let ja = at_cell j in
            let ea = at_cell e in
            passed (tested p (now memory a ja x sa) comparisons.Equal (atoms.Var 4) (atoms.Num 29694) true sa 29694 false (get_4 p memory a ja x sa typed drawn output) refl (ne_eqb sa 29694 (λ (z : sa ≡ 29694). omega arith)))
            (done (computes p (now memory a ja x sa) (now memory a ja ea sa) 3 functions.Word (atoms.Var 4) (atoms.Num 500) sa 500 ea (get_4 p memory a ja x sa typed drawn output) refl (reads_cell p.world.layout memory cells sa 500 (s + 500) h (omega arith) (omega arith) ∙ ap word lie.0.owner) (set_3 p memory a ja x sa ea typed drawn output))
            (passed (tested p (now memory a ja ea sa) comparisons.Equal (atoms.Var 3) (atoms.Num 0) true ea 0 false (get_3 p memory a ja ea sa typed drawn output) refl (ne_eqb ea 0 (λ (z : ea ≡ 0). omega arith)))
            (done (writes p (now memory a ja ea sa) widths.Word (atoms.Var 3) (atoms.Num 0) (atoms.Var 2) ea 0 ja m1 (get_3 p memory a ja ea sa typed drawn output) refl (get_2 p memory a ja ea sa typed drawn output) (writes_cell p.world.layout memory cells ea 0 ja e h (omega arith) (omega arith)))
            (done (writes p (now m1 a ja ea sa) widths.Word (atoms.Var 2) (atoms.Num 500) (atoms.Var 3) ja 500 ea m2 (get_2 p m1 a ja ea sa typed drawn output) refl (get_3 p m1 a ja ea sa typed drawn output) (writes_cell p.world.layout m1 c1 ja 500 ea (j + 500) holds1 (omega arith) (omega arith)))
            (done (computes p (now m2 a ja ea sa) (now m2 a ja n sa) 3 functions.Word (atoms.Var 3) (atoms.Num 1) ea 1 n (get_3 p m2 a ja ea sa typed drawn output) refl (reads_cell p.world.layout m2 c2 ea 1 (e + 1) holds2 (omega arith) (omega arith) ∙ ap word long2) (set_3 p m2 a ja ea sa n typed drawn output))
            (calls {f' = 0} {w' = 0} {n = k} {xs = (sa, ja, n)} {s1 = state memory3 locals3 typed drawn output} {s2 = now memory3 a ja n sa} refl (rw (get_4 p m2 a ja n sa typed drawn output, get_2 p m2 a ja n sa typed drawn output, get_3 p m2 a ja n sa typed drawn output) refl) (move_at p has) (omega arith) (omega arith) runs refl
            (done (computes p (now memory3 a ja n sa) (now memory3 a ja (n + n) sa) 3 functions.Add (atoms.Var 3) (atoms.Var 3) n n (n + n) (get_3 p memory3 a ja n sa typed drawn output) (get_3 p memory3 a ja n sa typed drawn output) (adds p memory3 n n (n + n) refl (omega arith)) (set_3 p memory3 a ja n sa (n + n) typed drawn output))
            (done (computes p (now memory3 a ja (n + n) sa) (now memory3 a (at_cell (j + n)) (n + n) sa) 2 functions.Add (atoms.Var 2) (atoms.Var 3) ja (n + n) (at_cell (j + n)) (get_2 p memory3 a ja (n + n) sa typed drawn output) (get_3 p memory3 a ja (n + n) sa typed drawn output) (adds p memory3 ja (n + n) (at_cell (j + n)) (omega arith) (omega arith)) (set_2 p memory3 a ja (n + n) sa (at_cell (j + n)) typed drawn output))
            (done (computes p (now memory3 a (at_cell (j + n)) (n + n) sa) (now memory3 a (at_cell (j + n)) (n + n) (at_cell (j + n + d))) 4 functions.Add (atoms.Var 4) (atoms.Var 3) sa (n + n) (at_cell (j + n + d)) (get_4 p memory3 a (at_cell (j + n)) (n + n) sa typed drawn output) (get_3 p memory3 a (at_cell (j + n)) (n + n) sa typed drawn output) (adds p memory3 sa (n + n) (at_cell (j + n + d)) (omega arith) (omega arith)) (set_4 p memory3 a (at_cell (j + n)) (n + n) sa (at_cell (j + n + d)) typed drawn output))
            (goes refl rest))))))))))

  shifts : (bs : List Block) (memory : List ℕ) (j d a x : ℕ) (cells : ℕ → ℕ) → Holds p.world.layout memory cells → 14315 ≤ j → j + d + total bs ≤ 14815 → HaveEntries last bs → BlocksIn cells (j + d) bs → (j + d + total bs < 14815 → cells (j + d + total bs + 500) ≡ 0) → Shifted memory j d a x cells bs
  shifts [] memory j d a x cells h from few own lie end =
      let same : j + d ≡ j + d + 0 = omega arith in
      no_more memory j d a x cells h (omega arith) (λ lt. ap (λ (i : ℕ). cells (i + 500)) same ∙ end (omega arith))
  shifts (b ∷ bs) memory j d a x cells h from few own lie end =
      one_more memory j d a x cells b bs h from few own lie
      (λ memory' cells' x' h' lie' end'. shifts bs memory' (j + length (words_of b.value)) d a x' cells' h' (omega arith) (omega arith) own.1.1 lie' end')
      end

-- ## The routine

pub record Dropped (p : Program) (last f w : ℕ) (memory typed output : List ℕ) (drawn h : ℕ) (cells : ℕ → ℕ) (bs : List Block) : Type 0 where
  pub memory' : List ℕ
  pub cells' : ℕ → ℕ
  pub locals' : List ℕ
  pub holds : Holds p.world.layout memory' cells'
  pub kept : KeptIn last cells' (without h bs)
  pub gone : cells' h ≡ 0
  pub others : (k : ℕ) → (14315 ≤ k → 15315 ≤ k) → k ≢ h → NoEntry k bs → cells' k ≡ cells k
  pub count : ℕ
  pub few : count ≤ 20 * total (without h bs) + 16
  pub runs : Runs p f w DROP_KEPT_ACTS DROP_KEPT_ACTS (state memory (at_cell h ∷ 0 ∷ 0 ∷ 0 ∷ []) typed drawn output) (Returns (at_cell (14315 + total (without h bs)))) (state memory' locals' typed drawn output) count

module _ (p : Program) (has : HasRunTime p) (last : ℕ) (writable : at_cell last ≤ p.world.layout.base) (f w : ℕ) (some : 1 ≤ f) (enough : 4 ≤ w) (memory typed output : List ℕ) (drawn h : ℕ) (cells : ℕ → ℕ) (hs : Holds p.world.layout memory cells) (bs : List Block) (k : KeptIn last cells bs) (v : IsVariable last cells bs h) where
  abbrev ha : ℕ
  ha = at_cell h

  abbrev at : List ℕ → ℕ → ℕ → ℕ → State
  at m b c d = state m (ha ∷ b ∷ c ∷ d ∷ []) typed drawn output

  -- it has none
  none : value_in bs h ≡ None → Dropped p last f w memory typed output drawn h cells bs
  unfolding behind_label
  none e =
      let from = v.entry.from in
      let within' = v.entry.within in let within : at_cell (h + 2) ≤ p.world.layout.base = omega arith in
      let low = hs.low in
      let zero = v.unset e in
      let absent = none_there bs h e in
      let same = without_none h bs absent in
      let few0 = k.few in
      let r = shifts p has last writable f w some enough typed output drawn bs memory 14315 0 ha 0 cells hs (omega arith) (omega arith) k.entries k.lie (λ lt. (let q : 14315 + 0 + total bs + 500 ≡ 14815 + total bs = omega arith in ap cells q) ∙ k.end (omega arith)) in
      let few = r.few in
      let size : total (without h bs) ≡ total bs = ap total same in
      record {
        memory' = r.memory';
        cells' = r.cells';
        locals' = r.locals';
        holds = r.holds;
        kept = subst (KeptIn last r.cells') (sym same) (record { lie = r.lie; end = λ lt. (let q : 14815 + total bs ≡ 14315 + total bs + 500 = omega arith in ap r.cells' q) ∙ r.end (omega arith); few = few0; entries = k.entries });
        gone = r.others h (λ z. omega arith) (λ z. omega arith) absent ∙ zero;
        others = λ i far ne away. r.others i (λ z. (let y : 15315 ≤ i = far z in omega arith)) (λ z. far (omega arith)) away;
        count = suc (suc (suc (suc r.count)));
        few = omega arith;
        runs = subst (λ (i : ℕ). Runs p f w DROP_KEPT_ACTS DROP_KEPT_ACTS (at memory 0 0 0) (Returns (at_cell (14315 + i))) (state r.memory' r.locals' typed drawn output) (suc (suc (suc (suc r.count))))) (sym size)
            (done (computes p (at memory 0 0 0) (at memory 0 0 0) 2 functions.Word (atoms.Var 1) (atoms.Num 0) ha 0 0 (get_1 p memory ha 0 0 0 typed drawn output) refl (reads_cell p.world.layout memory cells ha 0 h hs (omega arith) (omega arith) ∙ ap word zero) (set_2 p memory ha 0 0 0 0 typed drawn output))
            (taken (tested p (at memory 0 0 0) comparisons.Equal (atoms.Var 2) (atoms.Num 0) true 0 0 true (get_2 p memory ha 0 0 0 typed drawn output) refl refl) refl
            (done (copies p (at memory 0 0 0) (at memory 28694 0 0) 2 (atoms.Num 28694) 28694 refl (set_2 p memory ha 0 0 0 28694 typed drawn output))
            (done (copies p (at memory 28694 0 0) (at memory 28694 0 28694) 4 (atoms.Num 28694) 28694 refl (set_4 p memory ha 28694 0 0 28694 typed drawn output))
            (at_label r.runs)))));
      }

  -- it has one
  one : (u : Value) → value_in bs h ≡ Some u → Dropped p last f w memory typed output drawn h cells bs
  unfolding behind_label
  one u e = by (located bs h u e)
    where
      by : Located bs h u → Dropped p last f w memory typed output drawn h cells bs
      by l =
          let from = v.entry.from in
          let within' = v.entry.within in let within : at_cell (h + 2) ≤ p.world.layout.base = omega arith in
          let low = hs.low in
          let high = has.mapped.room in
          let b = l.one in
          let n = length (words_of b.value) in
          let some_words = words_some b.value in
          let j = 14315 + total l.front in
          let own : HaveEntries last (l.front ++ b ∷ l.back) = subst (HaveEntries last) l.is k.entries in
          let lie : BlocksIn cells 14315 (l.front ++ b ∷ l.back) = subst (BlocksIn cells 14315) l.is k.lie in
          let own_back = have_back last l.front (b ∷ l.back) own in
          let back = blocks_back cells 14315 l.front (b ∷ l.back) lie in
          let sizes = total_on l.front (b ∷ l.back) in
          let all : total bs ≡ total (l.front ++ b ∷ l.back) = ap total l.is in
          let few0 = k.few in
          let begins : cells h ≡ at_cell j = ap cells (sym l.entry) ∙ back.0.begins in
          let next_word : h + 1 ≡ b.entry + 1 = ap (λ (i : ℕ). i + 1) (sym l.entry) in
          let long : cells (h + 1) ≡ n = ap cells next_word ∙ back.0.long in
          let m1 = with_cell memory h 0 in
          let c1 = replaced cells h 0 in
          let holds1 = holds_with p.world.layout memory cells h 0 hs (omega arith) (omega arith) in
          let others1 : (i : ℕ) → i ≢ h → c1 i ≡ cells i = λ i ne. other_cell cells h 0 i ne in
          let beside_h : IsBeside h l.back = subst (λ (i : ℕ). IsBeside i l.back) l.entry own_back.1.0 in
          let own_same = beside_same last cells c1 h l.back own_back.1.1 beside_h (λ i lo ne ne'. others1 i ne) in
          let back1 : BlocksIn c1 (j + n) l.back = blocks_keep cells c1 (j + n) l.back (λ i lo hi. others1 i (λ z. omega arith)) (λ i lo hi. others1 i (λ z. omega arith)) own_same back.1 in
          let whole_place : j + n + total l.back ≡ 14315 + total bs = omega arith in
          let end1 : j + n + total l.back < 14815 → c1 (j + n + total l.back + 500) ≡ 0 = λ lt. others1 (j + n + total l.back + 500) (λ z. omega arith) ∙ ap (λ (i : ℕ). cells (i + 500)) whole_place ∙ (let q : 14315 + total bs + 500 ≡ 14815 + total bs = omega arith in ap cells q) ∙ k.end (omega arith) in
          let r = shifts p has last writable f w some enough typed output drawn l.back m1 j n ha n c1 holds1 (omega arith) (omega arith) own_back.1.1 back1 end1 in
          let few = r.few in
          let is : without h bs ≡ l.front ++ l.back = ap (without h) l.is ∙ without_one h l.front l.back b l.before l.entry (beside_first h h l.back beside_h refl) in
          let size = total_on l.front l.back in
          let size' : total (without h bs) ≡ total (l.front ++ l.back) = ap total is in
          let place : j + total l.back ≡ 14315 + total (without h bs) = omega arith in
          let front = blocks_front cells 14315 l.front (b ∷ l.back) lie in
          let stays : (i : ℕ) → (j ≤ i → 14815 ≤ i) → (j + 500 ≤ i → 15315 ≤ i) → NoEntry i l.back → i ≢ h → r.cells' i ≡ cells i = λ i far far' away ne. r.others i far far' away ∙ others1 i ne in
          let front_own = front_same last cells r.cells' l.front (b ∷ l.back) own (λ i lo away. stays i (λ z. omega arith) (λ z. omega arith) away.1 (λ (q : i ≡ h). away.0 (q ∙ sym l.entry))) in
          let front' = blocks_keep cells r.cells' 14315 l.front (λ i lo hi. stays i (λ z. omega arith) (λ z. omega arith) (no_entry_low last i l.back own_back.1.1 (omega arith)) (λ q. omega arith)) (λ i lo hi. stays i (λ z. omega arith) (λ z. omega arith) (no_entry_low last i l.back own_back.1.1 (omega arith)) (λ q. omega arith)) front_own front in
          let whole : BlocksIn r.cells' 14315 (l.front ++ l.back) = blocks_on r.cells' 14315 l.front l.back front' r.lie in
          let second : (i : ℕ) → NoEntry i bs → NoEntry i l.back = λ i away. (no_entry_back i l.front (b ∷ l.back) (subst (NoEntry i) l.is away)).1 in
          record {
            memory' = r.memory';
            cells' = r.cells';
            locals' = r.locals';
            holds = r.holds;
            kept = record {
              lie = subst (BlocksIn r.cells' 14315) (sym is) whole;
              end = λ lt. (let q : 14815 + total (without h bs) ≡ j + total l.back + 500 = omega arith in ap r.cells' q) ∙ r.end (omega arith);
              few = omega arith;
              entries = have_without last h bs k.entries;
            };
            gone = r.others h (λ z. omega arith) (λ z. omega arith) (beside_first h h l.back beside_h refl) ∙ same_cell cells h 0;
            others = λ i far ne away. stays i (λ z. (let y : 15315 ≤ i = far (omega arith) in omega arith)) (λ z. far (omega arith)) (second i away) ne;
            count = suc (suc (suc (suc (suc (suc (suc r.count))))));
            few = omega arith;
            runs = subst (λ (i : ℕ). Runs p f w DROP_KEPT_ACTS DROP_KEPT_ACTS (at memory 0 0 0) (Returns (at_cell i)) (state r.memory' r.locals' typed drawn output) (suc (suc (suc (suc (suc (suc (suc r.count)))))))) place
                (done (computes p (at memory 0 0 0) (at memory (at_cell j) 0 0) 2 functions.Word (atoms.Var 1) (atoms.Num 0) ha 0 (at_cell j) (get_1 p memory ha 0 0 0 typed drawn output) refl (reads_cell p.world.layout memory cells ha 0 h hs (omega arith) (omega arith) ∙ ap word begins) (set_2 p memory ha 0 0 0 (at_cell j) typed drawn output))
                (passed (tested p (at memory (at_cell j) 0 0) comparisons.Equal (atoms.Var 2) (atoms.Num 0) true (at_cell j) 0 false (get_2 p memory ha (at_cell j) 0 0 typed drawn output) refl (ne_eqb (at_cell j) 0 (λ (z : at_cell j ≡ 0). omega arith)))
                (done (computes p (at memory (at_cell j) 0 0) (at memory (at_cell j) n 0) 3 functions.Word (atoms.Var 1) (atoms.Num 1) ha 1 n (get_1 p memory ha (at_cell j) 0 0 typed drawn output) refl (reads_cell p.world.layout memory cells ha 1 (h + 1) hs (omega arith) (omega arith) ∙ ap word long) (set_3 p memory ha (at_cell j) 0 0 n typed drawn output))
                (done (writes p (at memory (at_cell j) n 0) widths.Word (atoms.Var 1) (atoms.Num 0) (atoms.Num 0) ha 0 0 m1 (get_1 p memory ha (at_cell j) n 0 typed drawn output) refl refl (writes_cell p.world.layout memory cells ha 0 0 h hs (omega arith) (omega arith)))
                (done (computes p (at m1 (at_cell j) n 0) (at m1 (at_cell j) n (at_cell j + n)) 4 functions.Add (atoms.Var 2) (atoms.Var 3) (at_cell j) n (at_cell j + n) (get_2 p m1 ha (at_cell j) n 0 typed drawn output) (get_3 p m1 ha (at_cell j) n 0 typed drawn output) (adds p m1 (at_cell j) n (at_cell j + n) refl (omega arith)) (set_4 p m1 ha (at_cell j) n 0 (at_cell j + n) typed drawn output))
                (done (computes p (at m1 (at_cell j) n (at_cell j + n)) (at m1 (at_cell j) n (at_cell (j + n))) 4 functions.Add (atoms.Var 4) (atoms.Var 3) (at_cell j + n) n (at_cell (j + n)) (get_4 p m1 ha (at_cell j) n (at_cell j + n) typed drawn output) (get_3 p m1 ha (at_cell j) n (at_cell j + n) typed drawn output) (adds p m1 (at_cell j + n) n (at_cell (j + n)) (omega arith) (omega arith)) (set_4 p m1 ha (at_cell j) n (at_cell j + n) (at_cell (j + n)) typed drawn output))
                (goes refl r.runs)))))));
          }

  pub drops : Dropped p last f w memory typed output drawn h cells bs
  drops = by (value_in bs h) refl
    where
      by : (set : Option Value) → value_in bs h ≡ set → Dropped p last f w memory typed output drawn h cells bs
      by None e = none e
      by (Some u) e = one u e
