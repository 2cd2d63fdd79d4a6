-- The routine that drops choices does so.
use Rattle.std.proofs.Common.{◌≡◌, ◌≢◌, ℕ, suc, ◌+◌, ◌*◌, ◌<◌, ◌≤◌, inl, inr, true, false, List, [], ◌∷◌, drop, refl, sym, ap, ◌∙◌, subst, arith}
use Rattle.std.specs.Prelude.{nat_lt}
use Rattle.std.proofs.lemmas.Bool.{ne_eqb, cases_lt, lt-ltb, le-ltb, cond-true, cond-false}
use Rattle.z_lang.specs.declared.act.Atom.TheVariants as atoms
use Rattle.z_lang.specs.declared.act.Function.TheVariants as functions
use Rattle.z_lang.specs.declared.act.Comparison.TheVariants as comparisons
use Rattle.z_lang.specs.State.{State, Program, value}
use Rattle.z_lang.specs.Runs.{ActsRun as Runs, Returns, at_label, goes, taken, passed, done, calls, returns, behind_label}
use Rattle.dg_rt.specs.declared.choices.TheConstants.{CUT_ACTS}
use Rattle.dg_rt.specs.Cells.{with_cell, replaced, Holds}
use Rattle.dg_rt.specs.Areas.{heap_at, IsMapped, state}
use Rattle.dg_rt.specs.Back.{at_place}
use Rattle.dg_rt.specs.Choices.{Chain, left_of, dropped_of, CutWorks, CommitWorks}
use Rattle.dg_rt.proofs.Cells.{reads_cell, other_cell, same_cell}
use Rattle.dg_rt.proofs.Following.{word, tested, computes, copies, register, puts, local_1, put_1}
use Rattle.dg_rt.proofs.Standing.{cut_at}
use Rattle.dg_rt.proofs.Locals.{older, not_older}

-- choices stay where the heap does
pub chain_same : (cells cells' : ℕ → ℕ) (word : ℕ) (ks : List ℕ) → ((k : ℕ) → cells' (heap_at + k) ≡ cells (heap_at + k)) → Chain cells word ks → Chain cells' word ks
chain_same cells cells' word [] same h = h
chain_same cells cells' word (k ∷ ks) same h = (h.0, h.1, subst (λ (x : ℕ). Chain cells' x ks) (sym (same k)) (chain_same cells cells' (cells (heap_at + k)) ks same h.2))

module _ (p : Program) (map : IsMapped p) (f w : ℕ) (typed output : List ℕ) (drawn at : ℕ) (small : at < 16384) where
  abbrev to : ℕ
  to = at_place at

  abbrev now : List ℕ → State
  now memory = state memory (at_place at ∷ []) typed drawn output

  -- the loop, entered behind its label
  record Loops (memory : List ℕ) (cells : ℕ → ℕ) (ks : List ℕ) : Type 0 where
    memory' : List ℕ
    cells' : ℕ → ℕ
    holds : Holds p.world.layout memory' cells'
    chain : Chain cells' (cells' 5) (left_of at ks)
    others : (k : ℕ) → k ≢ 5 → cells' k ≡ cells k
    count : ℕ
    few : count ≤ 4 * dropped_of at ks + 3
    runs : Runs p f w CUT_ACTS (drop 1 CUT_ACTS) (now memory) (Returns 0) (now memory') count

  loops : (ks : List ℕ) (memory : List ℕ) (cells : ℕ → ℕ) → Holds p.world.layout memory cells → Chain cells (cells 5) ks → Loops memory cells ks
  unfolding behind_label
  loops [] memory cells h chain =
      let room = map.room in
      record {
        memory' = memory;
        cells' = cells;
        holds = h;
        chain = chain;
        others = λ k ne. refl;
        count = 2;
        few = omega arith;
        runs = taken (tested p (now memory) comparisons.Equal (atoms.Var 21) (atoms.Num 0) true 0 0 true (register p (now memory) cells 21 h (omega arith) (omega arith) (omega arith) ∙ ap word chain) refl refl) refl (returns refl);
      }
  loops (k ∷ ks) memory cells h chain =
      let room = map.room in
      let low = chain.1 in
      let here = register p (now memory) cells 21 h (omega arith) (omega arith) (omega arith) ∙ ap word chain.0 in
      let some = tested p (now memory) comparisons.Equal (atoms.Var 21) (atoms.Num 0) true (at_place k) 0 false here refl (ne_eqb (at_place k) 0 (λ (z : at_place k ≡ 0). (omega arith))) in
      elim (cases_lt k at) [
        | inl lt ↦
            let stays : left_of at (k ∷ ks) ≡ k ∷ ks = cond-true (nat_lt k at) (k ∷ ks) (left_of at ks) (lt-ltb k at lt) in
            record {
              memory' = memory;
              cells' = cells;
              holds = h;
              chain = subst (Chain cells (cells 5)) (sym stays) chain;
              others = λ k ne. refl;
              count = 3;
              few = omega arith;
              runs = passed some (taken (tested p (now memory) comparisons.Less (atoms.Var 21) (atoms.Var 1) true (at_place k) to true here (local_1 p memory to [] typed drawn output) (older k at lt small)) refl (returns refl));
            }
        | inr ge ↦
            let next = cells (heap_at + k) in
            let put = puts p (now memory) cells 21 next h (omega arith) (omega arith) (omega arith) (h.words (heap_at + k)) in
            let c1 = replaced cells 5 next in
            let apart : (j : ℕ) → j ≢ 5 → c1 j ≡ cells j = λ j ne. other_cell cells 5 next j ne in
            let behind = chain_same cells c1 next ks (λ j. apart (heap_at + j) (λ e. (omega arith))) chain.2 in
            let r = loops ks (with_cell memory 5 next) c1 put.holds (subst (λ (x : ℕ). Chain c1 x ks) (sym (same_cell cells 5 next)) behind) in
            let few' = r.few in
            let falls : left_of at (k ∷ ks) ≡ left_of at ks = cond-false (nat_lt k at) (k ∷ ks) (left_of at ks) (le-ltb k at ge) in
            let more : dropped_of at (k ∷ ks) ≡ 1 + dropped_of at ks = cond-false (nat_lt k at) 0 (1 + dropped_of at ks) (le-ltb k at ge) in
            record {
              memory' = r.memory';
              cells' = r.cells';
              holds = r.holds;
              chain = subst (Chain r.cells' (r.cells' 5)) (sym falls) r.chain;
              others = λ j ne. r.others j ne ∙ apart j ne;
              count = suc (suc (suc (suc r.count)));
              few = omega arith;
              runs = passed some (passed (tested p (now memory) comparisons.Less (atoms.Var 21) (atoms.Var 1) true (at_place k) to false here (local_1 p memory to [] typed drawn output) (not_older k at ge (omega arith)))
                  (done (computes p (now memory) (now (with_cell memory 5 next)) 21 functions.Word (atoms.Num 670) (atoms.Var 21) 670 (at_place k) next refl here (reads_cell p.world.layout memory cells 670 (at_place k) (heap_at + k) h (omega arith) (omega arith)) put.put_is)
                  (goes refl r.runs)));
            }
      ]

pub cut_works : CutWorks
cut_works p map f w memory typed output drawn at small cells h ks chain =
    let r = loops p map f w typed output drawn at small ks memory cells h chain in
    record { memory' = r.memory'; cells' = r.cells'; holds = r.holds; chain = r.chain; others = r.others; count = r.count; few = r.few; runs = at_label r.runs }

-- ## Inner constructs

pub commit_works : CommitWorks
commit_works p has f w some enough memory typed output drawn at fits cells h here ks chain =
    let room = has.mapped.room in
    let st : List ℕ → ℕ → State = λ m x. state m (x ∷ []) typed drawn output in
    let v = at_place at in
    let around = cells (heap_at + (at + 3)) in
    let inner_is : (x : ℕ) → value p (st memory x) (atoms.Var 22) ≡ word v = λ x. register p (st memory x) cells 22 h (omega arith) (omega arith) (omega arith) ∙ ap word here in
    let put = puts p (st memory v) cells 22 around h (omega arith) (omega arith) (omega arith) (h.words (heap_at + (at + 3))) in
    let m1 = with_cell memory 6 around in
    let c1 = replaced cells 6 around in
    let apart : (j : ℕ) → j ≢ 6 → c1 j ≡ cells j = λ j ne. other_cell cells 6 around j ne in
    let chain1 = subst (λ (x : ℕ). Chain c1 x ks) (sym (apart 5 (λ e. (omega arith)))) (chain_same cells c1 (cells 5) ks (λ j. apart (heap_at + j) (λ e. (omega arith))) chain) in
    let r = cut_works p has.mapped 0 0 m1 typed output drawn at (omega arith) c1 put.holds ks chain1 in
    let few' = r.few in
    record {
      memory' = r.memory';
      cells' = r.cells';
      holds = r.holds;
      inner = r.others 6 (λ e. (omega arith)) ∙ same_cell cells 6 around;
      chain = r.chain;
      others = λ j no5 no6. r.others j no5 ∙ apart j no6;
      count = suc (suc (suc r.count + 1));
      few = omega arith;
      runs = done (copies p (st memory 0) (st memory v) 1 (atoms.Var 22) v (inner_is 0) (put_1 p memory 0 v [] typed drawn output))
          (done (computes p (st memory v) (st m1 v) 22 functions.Word (atoms.Num 676) (atoms.Var 1) 676 v around refl (local_1 p memory v [] typed drawn output) (reads_cell p.world.layout memory cells 676 v (heap_at + (at + 3)) h (omega arith) (omega arith)) put.put_is)
          (calls {f' = 0} {w' = 0} {n = r.count} {n' = 1} {xs = (v, 0, 0)} refl (rw (local_1 p m1 v [] typed drawn output) refl) (cut_at p has) some (omega arith) r.runs refl
          (returns refl)));
    }
