-- The routine that asks a predicate does so.
use Rattle.std.proofs.Common.{◌≡◌, ◌≢◌, ℕ, suc, ◌+◌, ◌*◌, ◌<◌, ◌≤◌, true, false, List, [], ◌∷◌, drop, refl, sym, ap, ◌∙◌, subst, arith}
use Rattle.dg_meaning.specs.Values.{Value}
use Rattle.dg_meaning.specs.Substitutions.{Substitution, walk, links}
use Rattle.z_lang.specs.declared.act.Atom.TheVariants as atoms
use Rattle.z_lang.specs.declared.act.Function.TheVariants as functions
use Rattle.z_lang.specs.declared.act.Comparison.TheVariants as comparisons
use Rattle.z_lang.specs.State.{State, Program, value}
use Rattle.z_lang.specs.Runs.{ActsRun as Runs, ActsOutcome as Outcome, Returns, at_label, taken, passed, done, calls, returns, behind_label}
use Rattle.dg_rt.specs.declared.queries.TheConstants.{ASK_ACTS}
use Rattle.dg_rt.specs.Cells.{with_cell, replaced, Holds}
use Rattle.dg_rt.specs.Areas.{heap_at, state}
use Rattle.dg_rt.specs.Shapes.{Shape, IsShape, Shows, Stands}
use Rattle.dg_rt.specs.Back.{at_place}
use Rattle.dg_rt.specs.RunTime.{HasRunTime}
use Rattle.dg_rt.specs.Rules.{KeyIs}
use Rattle.dg_rt.specs.Queries.{Asks, AskWorks}
use Rattle.dg_rt.proofs.Cells.{other_cell, same_cell}
use Rattle.dg_rt.proofs.Following.{word, tested, computes, copies, register, puts}
use Rattle.dg_rt.proofs.Locals.{get_1, get_2, get_3, adds}
use Rattle.dg_rt.proofs.Standing.{key_of_at}
use Rattle.dg_rt.proofs.Keying.{key_works}

-- Memory stands for the same substitution where the heap is the same.
pub stands_same : (sh : Shape) (c c' : ℕ → ℕ) (S : Substitution) → ((k : ℕ) → c' (heap_at + k) ≡ c (heap_at + k)) → Stands sh c S → Stands sh c' S
stands_same sh c c' S same st = record {
  sound = st.sound;
  fixed = λ k lt is. same k ∙ st.fixed k lt is;
  unbound = λ n lt e. same (sh.place n) ∙ st.unbound n lt e;
  bound = λ n v lt e. subst (λ (x : ℕ). Shows sh x v) (sym (same (sh.place n))) (st.bound n v lt e);
}

module _ (p : Program) (has : HasRunTime p) (f w : ℕ) (memory typed output : List ℕ) (drawn routine many first top : ℕ) (c : ℕ → ℕ) (h : Holds p.world.layout memory c) (at : c 3 ≡ top) (low : top ≤ 10000) (few_r : routine < 65536) (few_m : many < 65536) where
  abbrev st : List ℕ → State
  st m = state m (routine ∷ many ∷ first ∷ 0 ∷ []) typed drawn output

  abbrev place : ℕ
  place = at_place top

  -- up to the test
  record Put : Type 0 where
    memory' : List ℕ
    cells' : ℕ → ℕ
    holds : Holds p.world.layout memory' cells'
    back : cells' 8 ≡ routine
    wanted : cells' 10 ≡ many
    cut : cells' 9 ≡ place
    begin : cells' 12 ≡ 0
    key : cells' 11 ≡ 32768
    others : (k : ℕ) → k ≢ 8 → k ≢ 10 → k ≢ 9 → k ≢ 12 → k ≢ 11 → cells' k ≡ c k
    runs : (o : Outcome) (s' : State) (k : ℕ) → Runs p f w ASK_ACTS (drop 5 ASK_ACTS) (st memory') o s' k → Runs p f w ASK_ACTS ASK_ACTS (st memory) o s' (suc (suc (suc (suc (suc k)))))

  put_all : Put
  put_all =
      let room = has.mapped.room in
      let p1 = puts p (st memory) c 24 routine h (omega arith) (omega arith) (omega arith) few_r in
      let m1 = with_cell memory 8 routine in
      let c1 = replaced c 8 routine in
      let p2 = puts p (st m1) c1 26 many p1.holds (omega arith) (omega arith) (omega arith) few_m in
      let m2 = with_cell m1 10 many in
      let c2 = replaced c1 10 many in
      let p3 = puts p (st m2) c2 25 place p2.holds (omega arith) (omega arith) (omega arith) (omega arith) in
      let m3 = with_cell m2 9 place in
      let c3 = replaced c2 9 place in
      let p4 = puts p (st m3) c3 28 0 p3.holds (omega arith) (omega arith) (omega arith) (omega arith) in
      let m4 = with_cell m3 12 0 in
      let c4 = replaced c3 12 0 in
      let p5 = puts p (st m4) c4 27 32768 p4.holds (omega arith) (omega arith) (omega arith) (omega arith) in
      let m5 = with_cell m4 11 32768 in
      let c5 = replaced c4 11 32768 in
      let two : (k : ℕ) → k ≢ 8 → k ≢ 10 → c2 k ≡ c k = λ k n8 n10. other_cell c1 10 many k n10 ∙ other_cell c 8 routine k n8 in
      let late : (k : ℕ) → k ≢ 9 → k ≢ 12 → k ≢ 11 → c5 k ≡ c2 k = λ k n9 n12 n11. other_cell c4 11 32768 k n11 ∙ other_cell c3 12 0 k n12 ∙ other_cell c2 9 place k n9 in
      let heap_is : value p (st m2) (atoms.Var 19) ≡ word top = register p (st m2) c2 19 p2.holds (omega arith) (omega arith) (omega arith) ∙ ap word (two 3 (λ e. (omega arith)) (λ e. (omega arith)) ∙ at) in
      record {
        memory' = m5;
        cells' = c5;
        holds = p5.holds;
        back = late 8 (λ e. (omega arith)) (λ e. (omega arith)) (λ e. (omega arith)) ∙ other_cell c1 10 many 8 (λ e. (omega arith)) ∙ same_cell c 8 routine;
        wanted = late 10 (λ e. (omega arith)) (λ e. (omega arith)) (λ e. (omega arith)) ∙ same_cell c1 10 many;
        cut = other_cell c4 11 32768 9 (λ e. (omega arith)) ∙ other_cell c3 12 0 9 (λ e. (omega arith)) ∙ same_cell c2 9 place;
        begin = other_cell c4 11 32768 12 (λ e. (omega arith)) ∙ same_cell c3 12 0;
        key = same_cell c4 11 32768;
        others = λ k n8 n10 n9 n12 n11. late k n9 n12 n11 ∙ two k n8 n10;
        runs = λ o s' k rest.
            done (copies p (st memory) (st m1) 24 (atoms.Var 1) routine (get_1 p memory routine many first 0 typed drawn output) p1.put_is)
            (done (copies p (st m1) (st m2) 26 (atoms.Var 2) many (get_2 p m1 routine many first 0 typed drawn output) p2.put_is)
            (done (computes p (st m2) (st m3) 25 functions.Add (atoms.Var 19) (atoms.Num 32768) top 32768 place heap_is refl (adds p m2 top 32768 place (omega arith) (omega arith)) p3.put_is)
            (done (copies p (st m3) (st m4) 28 (atoms.Num 0) 0 refl p4.put_is)
            (done (copies p (st m4) (st m5) 27 (atoms.Num 32768) 32768 refl p5.put_is)
            rest))));
      }

-- without an argument
has_none : (p : Program) → HasRunTime p → (f w : ℕ) (memory typed output : List ℕ) (drawn routine many top : ℕ) (c : ℕ → ℕ) → Holds p.world.layout memory c → c 3 ≡ top → top ≤ 10000 → routine < 65536 → many < 65536 → Asks p f w memory typed output drawn routine many 0 top c (λ key. key ≡ 32768) 7
unfolding behind_label
has_none p has f w memory typed output drawn routine many top c h at low few_r few_m =
    let r = put_all p has f w memory typed output drawn routine many 0 top c h at low few_r few_m in
    let s' = state r.memory' (routine ∷ many ∷ 0 ∷ 0 ∷ []) typed drawn output in
    record {
      memory' = r.memory';
      cells' = r.cells';
      holds = r.holds;
      back = r.back;
      wanted = r.wanted;
      cut = r.cut;
      begin = r.begin;
      key = r.key;
      others = r.others;
      count = 7;
      few = omega arith;
      runs = r.runs (Returns 0) s' 2
          (taken (tested p s' comparisons.Equal (atoms.Var 3) (atoms.Num 0) true 0 0 true (get_3 p r.memory' routine many 0 0 typed drawn output) refl refl) refl (returns refl));
    }

-- with a first argument, whose key is found
with_first : (p : Program) → HasRunTime p → (f w : ℕ) → 2 ≤ f → 8 ≤ w → (memory typed output : List ℕ) (drawn routine many top : ℕ) (sh : Shape) → IsShape sh → (c : ℕ → ℕ) → Holds p.world.layout memory c → (S : Substitution) → Stands sh c S → (v : Value) → Shows sh (c 16) v → c 3 ≡ top → top ≤ 10000 → routine < 65536 → many < 65536 →
    Asks p f w memory typed output drawn routine many 1 top c (KeyIs (walk S v)) (5 * links S v + 20)
with_first p has f w two eight memory typed output drawn routine many top sh is c h S stands v shows at low few_r few_m =
    let room = has.mapped.room in
    let r = put_all p has f w memory typed output drawn routine many 1 top c h at low few_r few_m in
    let same : (k : ℕ) → 15 ≤ k → r.cells' k ≡ c k = λ k le. r.others k (λ e. (omega arith)) (λ e. (omega arith)) (λ e. (omega arith)) (λ e. (omega arith)) (λ e. (omega arith)) in
    let x = c 16 in
    let st5 = stands_same sh c r.cells' S (λ k. same (heap_at + k) (omega arith)) stands in
    let k5 = key_works p has 1 4 (omega arith) (omega arith) r.memory' typed output drawn sh is r.cells' r.holds S st5 x v shows in
    let few' = k5.few in
    let s5 = state r.memory' (routine ∷ many ∷ 1 ∷ 0 ∷ []) typed drawn output in
    let put = puts p s5 r.cells' 27 k5.key r.holds (omega arith) (omega arith) (omega arith) k5.small in
    let m6 = with_cell r.memory' 11 k5.key in
    let c6 = replaced r.cells' 11 k5.key in
    let s6 = state m6 (routine ∷ many ∷ 1 ∷ 0 ∷ []) typed drawn output in
    let apart : (k : ℕ) → k ≢ 11 → c6 k ≡ r.cells' k = λ k ne. other_cell r.cells' 11 k5.key k ne in
    let arg_is : value p s5 (atoms.Var 32) ≡ word x = register p s5 r.cells' 32 r.holds (omega arith) (omega arith) (omega arith) ∙ ap word (same 16 (omega arith)) in
    record {
      memory' = m6;
      cells' = c6;
      holds = put.holds;
      back = apart 8 (λ e. (omega arith)) ∙ r.back;
      wanted = apart 10 (λ e. (omega arith)) ∙ r.wanted;
      cut = apart 9 (λ e. (omega arith)) ∙ r.cut;
      begin = apart 12 (λ e. (omega arith)) ∙ r.begin;
      key = subst (λ (y : ℕ). KeyIs (walk S v) y) (sym (same_cell r.cells' 11 k5.key)) k5.is;
      others = λ k n8 n10 n9 n12 n11. apart k n11 ∙ r.others k n8 n10 n9 n12 n11;
      count = suc (suc (suc (suc (suc (suc (suc k5.count + 1))))));
      few = omega arith;
      runs = r.runs (Returns 0) s6 (suc (suc k5.count + 1))
          (passed (tested p s5 comparisons.Equal (atoms.Var 3) (atoms.Num 0) true 1 0 false (get_3 p r.memory' routine many 1 0 typed drawn output) refl refl)
          (calls {f' = 1} {w' = 4} {n = k5.count} {n' = 1} {xs = (x, 0, 0)} refl (rw arg_is refl) (key_of_at p has) (omega arith) (omega arith) k5.runs put.put_is
          (at_label (returns refl))));
    }

pub ask_works : AskWorks
ask_works = record {
  asks = λ p has f w two eight memory typed output drawn routine many top sh is c h S stands v shows at low few_r few_m. with_first p has f w two eight memory typed output drawn routine many top sh is c h S stands v shows at low few_r few_m;
  has_none = λ p has f w memory typed output drawn routine many top c h at low few_r few_m. has_none p has f w memory typed output drawn routine many top c h at low few_r few_m;
}
