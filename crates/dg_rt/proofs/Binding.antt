-- The routine that binds a variable does so.
use Rattle.std.proofs.Common.{◌≡◌, ◌≢◌, ℕ, suc, ◌+◌, ◌<◌, ◌≤◌, inl, inr, Bool, true, false, List, [], ◌∷◌, ◌++◌, drop, Some, None, refl, sym, ap, ◌∙◌, subst, arith}
use Rattle.std.specs.Prelude.{◌==◌, eqb, nat_lt}
use Rattle.std.proofs.lemmas.Bool.{eq-eqb, ne_eqb, cases_eq, ltb-true, ltb-false, cond-true, cond-false}
use Rattle.z_lang.specs.declared.act.Atom.TheVariants as atoms
use Rattle.z_lang.specs.declared.act.Function.TheVariants as functions
use Rattle.z_lang.specs.declared.act.Comparison.TheVariants as comparisons
use Rattle.z_lang.specs.declared.act.Width.TheVariants as widths
use Rattle.z_lang.specs.State.{State, Program, variable, value}
use Rattle.z_lang.specs.Acts.{computed, answer_of}
use Rattle.z_lang.specs.Runs.{ActsRun as Runs, Returns, at_label, taken, passed, done, returns, behind_label}
use Rattle.z_lang.specs.Runs.{Stops, calls_last}
use Rattle.z_model.specs.declared.end.Halt.TheVariants.{AtQuit}
use Rattle.dg_base.specs.declared.run.Ending.TheVariants.{TrailLimit}
use Rattle.dg_rt.specs.declared.closings.TheConstants.{TRAIL_LIMIT_ACTS}
use Rattle.dg_rt.proofs.Standing.{trail_limit_at}
use Rattle.dg_rt.proofs.Closing.{trail_closes}
use Rattle.dg_rt.specs.declared.unify.TheConstants.{BIND_ACTS}
use Rattle.dg_rt.specs.Cells.{compared, at_cell, with_cell, replaced, Holds}
use Rattle.dg_rt.specs.Areas.{heap_at, trail_at, last_reg, state}
use Rattle.dg_rt.specs.Shapes.{Shape, IsShape, Shows, Stands}
use Rattle.dg_rt.specs.Back.{Begun}
use Rattle.dg_rt.specs.RunTime.{routine_of, HasRunTime}
use Rattle.dg_rt.specs.Closings.{closing}
use Rattle.dg_rt.specs.Moments.{trail_for, trail_of, IsMark, Entries, IsAt, FitsTrail, PassesTrail}
use Rattle.dg_rt.specs.inside.Binds.{Binds, IsFull}
use Rattle.dg_meaning.specs.Values.{Value}
use Rattle.dg_meaning.specs.Substitutions.{Substitution}
use Rattle.dg_meaning.specs.inside.Substitutions.{FitsFront}
use Rattle.dg_meaning.specs.inside.Unifiers.{binding_of}
use Rattle.dg_rt.proofs.Following.{word, tested, computes, writes, trail_register, put_trail}
use Rattle.dg_rt.proofs.Locals.{get_1, get_2, older, not_older}
use Rattle.dg_meaning.proofs.LookUps.{unbound_none}
use Rattle.dg_rt.proofs.Backs.{grown_none, trail_stays, back_grown, back_bound, back_young}
use Rattle.dg_rt.proofs.Cells.{holds_with, global_is, writes_cell}
use Rattle.dg_rt.proofs.Showing.{same_place, word_small}

-- a substitution with a pair in front, where one cell of the heap was written
pub stands_bound : {sh : Shape} → IsShape sh → (cells cells' : ℕ → ℕ) (S : Substitution) (n : ℕ) (v : Value) (y : ℕ) → Stands sh cells S → n < sh.vars → FitsFront n v S → Shows sh y v → ((k : ℕ) → k < 10000 → k ≢ sh.place n → cells' (heap_at + k) ≡ cells (heap_at + k)) → cells' (heap_at + sh.place n) ≡ y → Stands sh cells' ((n, v) ∷ S)
stands_bound {sh} is cells cells' S n v y st old fits s keeps wrote = record {
  sound = (fits, st.sound);
  fixed = λ k lt fx. keeps k lt (λ (e : k ≡ sh.place n). fx.1 n old (sym e)) ∙ st.fixed k lt fx;
  unbound = λ m young e. elim (cases_eq m n) [
    | inl same ↦ absurd (let k : Some v ≡ None = sym (cond-true (eqb m n) (Some v) (binding_of m S) (eq-eqb m n same)) ∙ e in cc)
    | inr ne ↦ keeps (sh.place m) (is.within m young) (λ (e' : sh.place m ≡ sh.place n). ne (same_place is m n young old e')) ∙ st.unbound m young (sym (cond-false (eqb m n) (Some v) (binding_of m S) (ne_eqb m n ne)) ∙ e)
  ];
  bound = λ m w young e. elim (cases_eq m n) [
    | inl same ↦
        let k : Some v ≡ Some w = sym (cond-true (eqb m n) (Some v) (binding_of m S) (eq-eqb m n same)) ∙ e in
        let eq : v ≡ w = cc in
        let at : cells' (heap_at + sh.place m) ≡ y = ap (λ (i : ℕ). cells' (heap_at + sh.place i)) same ∙ wrote in
        subst (Shows sh (cells' (heap_at + sh.place m))) eq (subst (λ (x : ℕ). Shows sh x v) (sym at) s)
    | inr ne ↦
        let at = keeps (sh.place m) (is.within m young) (λ (e' : sh.place m ≡ sh.place n). ne (same_place is m n young old e')) in
        subst (λ (x : ℕ). Shows sh x w) (sym at) (st.bound m w young (sym (cond-false (eqb m n) (Some v) (binding_of m S) (ne_eqb m n ne)) ∙ e))
  ];
}

-- entries stay under writes behind them
pub entries_stay : (sh : Shape) (cells cells' : ℕ → ℕ) (since left height : ℕ) (made : Substitution) → ((i : ℕ) → i < height → cells' (trail_at + i) ≡ cells (trail_at + i)) → left + trail_of since made ≤ height → Entries sh cells since left made → Entries sh cells' since left made
entries_stay sh cells cells' since left height [] keeps le es = tt
entries_stay sh cells cells' since left height (b ∷ made) keeps le es =
    (λ e. keeps (left + trail_of since made) (let t : trail_for since b.0 ≡ 1 = rw e refl in omega arith) ∙ es.0 e, entries_stay sh cells cells' since left height made keeps (omega arith) es.1)

pub trail_append : (since : ℕ) (made S : Substitution) → trail_of since (made ++ S) ≡ trail_of since made + trail_of since S
trail_append since [] S = omega arith
trail_append since (b ∷ made) S = let r = trail_append since made S in omega arith

pub mark_register : (p : Program) (s : State) (cells : ℕ → ℕ) → Holds p.world.layout s.memory cells → 600 ≤ p.world.layout.base → value p s (atoms.Var 18) ≡ word (cells 2)
unfolding variable
mark_register p s cells h le = ap word (global_is p.world.layout s.memory cells 18 h (omega arith) (omega arith))

-- a variable is older than the mark where its reference is less
pub is_older : {sh : Shape} → IsShape sh → {since hb : ℕ} → IsMark sh since hb → (cells : ℕ → ℕ) → cells 2 ≡ 32768 + hb → (n : ℕ) → n < sh.vars → (b : Bool) → nat_lt n since ≡ b → compared comparisons.Less (32768 + sh.place n) (cells 2) ≡ b
is_older {sh} is {since} {hb} mk cells mark n old true e =
    let low = mk.low in
    let lt = ltb-true (sh.place n) hb (sym (mk.older n old) ∙ e) in
    subst (λ (x : ℕ). compared comparisons.Less (32768 + sh.place n) x ≡ true) (sym mark) (older (sh.place n) hb lt (omega arith))
is_older {sh} is {since} {hb} mk cells mark n old false e =
    let within = is.within n old in
    let le = ltb-false (sh.place n) hb (sym (mk.older n old) ∙ e) in
    subst (λ (x : ℕ). compared comparisons.Less (32768 + sh.place n) x ≡ false) (sym mark) (not_older (sh.place n) hb le (omega arith))

one_more : (p : Program) (x : ℕ) → x + 1 < 65536 → (memory : List ℕ) → computed p.world.layout memory functions.Add x 1 ≡ Some (x + 1)
unfolding computed
one_more p x lt memory = ap (λ (i : ℕ). Some i) (omega arith)

module _ (p : Program) (has : HasRunTime p) (sh : Shape) (is : IsShape sh) (since hb : ℕ) (mk : IsMark sh since hb) (S0 : Substitution) (left : ℕ) (begun : Begun) (f w : ℕ) (memory typed output : List ℕ) (drawn : ℕ) (cells : ℕ → ℕ) (S : Substitution) (now_at : IsAt p.world.layout sh since hb S0 left begun memory cells S) (n y : ℕ) (v : Value) (old : n < sh.vars) (fits : FitsFront n v S) (shows : Shows sh y v) where
  abbrev ref : ℕ
  ref = 32768 + sh.place n

  abbrev now : List ℕ → State
  now m = state m (ref ∷ y ∷ 0 ∷ 0 ∷ []) typed drawn output

  is_old : (b : Bool) → nat_lt n since ≡ b → compared comparisons.Less ref (cells 2) ≡ b
  is_old b e = is_older is mk cells now_at.mark n old b e

  -- the last write, over memory whose heap is as it was
  abbrev pub written_cells : (ℕ → ℕ) → ℕ → ℕ
  written_cells c = replaced c (heap_at + sh.place n) y

  -- what the last write makes
  writes_last : (m : List ℕ) (c : ℕ → ℕ) → Holds p.world.layout m c → Runs p f w BIND_ACTS (drop 5 BIND_ACTS) (now m) (Returns 1) (now (with_cell m (heap_at + sh.place n) y)) 2
  writes_last m c h =
      let room = has.mapped.room in
      let within = is.within n old in
      done (writes p (now m) widths.Word (atoms.Num 670) (atoms.Var 1) (atoms.Var 2) (at_cell heap_at) ref y (with_cell m (heap_at + sh.place n) y) refl (get_1 p m ref y 0 0 typed drawn output) (get_2 p m ref y 0 0 typed drawn output) (writes_cell p.world.layout m c (at_cell heap_at) ref y (heap_at + sh.place n) h (omega arith) (omega arith)))
      (returns refl)

  holds_last : (m : List ℕ) (c : ℕ → ℕ) → Holds p.world.layout m c → Holds p.world.layout (with_cell m (heap_at + sh.place n) y) (written_cells c)
  holds_last m c h =
      let room = has.mapped.room in
      let within = is.within n old in
      holds_with p.world.layout m c (heap_at + sh.place n) y h (omega arith) (word_small is shows)

  at_last : (m : List ℕ) (c : ℕ → ℕ) → Holds p.world.layout m c → ((k : ℕ) → k < 10000 → c (heap_at + k) ≡ cells (heap_at + k)) → Stands sh (written_cells c) ((n, v) ∷ S)
  at_last m c h same = stands_bound is cells (written_cells c) S n v y now_at.stands old fits shows
      (λ k lt ne. cond-false (heap_at + k == heap_at + sh.place n) y (c (heap_at + k)) (ne_eqb (heap_at + k) (heap_at + sh.place n) (λ (e : heap_at + k ≡ heap_at + sh.place n). ne (omega arith))) ∙ same k lt)
      (cond-true (heap_at + sh.place n == heap_at + sh.place n) y (c (heap_at + sh.place n)) (eq-eqb (heap_at + sh.place n) (heap_at + sh.place n) refl))

  -- a word that isn't the variable's cell
  elsewhere : (c : ℕ → ℕ) (j : ℕ) → j < heap_at → written_cells c j ≡ c j
  elsewhere c j lt = cond-false (j == heap_at + sh.place n) y (c j) (ne_eqb j (heap_at + sh.place n) (λ (e : j ≡ heap_at + sh.place n). (omega arith)))

  known_still : (x : ℕ) → sh.vars ≤ x → binding_of x ((n, v) ∷ S) ≡ None
  known_still x le = cond-false (eqb x n) (Some v) (binding_of x S) (ne_eqb x n (λ (e : x ≡ n). (omega arith))) ∙ now_at.known x le

  outside : (c : ℕ → ℕ) (k : ℕ) → (heap_at ≤ k → 12315 ≤ k) → written_cells c k ≡ c k
  outside c k far = let within = is.within n old in cond-false (k == heap_at + sh.place n) y (c k) (ne_eqb k (heap_at + sh.place n) (λ (e : k ≡ heap_at + sh.place n). (let z : 12315 ≤ k = far (omega arith) in omega arith)))

  on_trail : (c : ℕ → ℕ) (i : ℕ) → written_cells c (trail_at + i) ≡ c (trail_at + i)
  on_trail c i = let within = is.within n old in cond-false (trail_at + i == heap_at + sh.place n) y (c (trail_at + i)) (ne_eqb (trail_at + i) (heap_at + sh.place n) (λ (e : trail_at + i ≡ heap_at + sh.place n). (omega arith)))

  test_is : (b : Bool) → nat_lt n since ≡ b → answer_of p (now memory) (record { comparison = comparisons.Less; first = atoms.Var 1; second = atoms.Var 18; answer = false }) ≡ Some b
  test_is b e = let room = has.mapped.room in tested p (now memory) comparisons.Less (atoms.Var 1) (atoms.Var 18) false ref (cells 2) b (get_1 p memory ref y 0 0 typed drawn output) (mark_register p (now memory) cells now_at.holds (omega arith)) (is_old b e)

  -- a younger variable: its cell alone is written
  pub young_at : nat_lt n since ≡ false → IsAt p.world.layout sh since hb S0 left begun (with_cell memory (heap_at + sh.place n) y) (written_cells cells) ((n, v) ∷ S)
  young_at e = record {
    holds = holds_last memory cells now_at.holds;
    stands = at_last memory cells now_at.holds (λ k lt. refl);
    mark = elsewhere cells 2 (omega arith) ∙ now_at.mark;
    made = (n, v) ∷ now_at.made;
    made_is = ap (λ (s : Substitution). (n, v) ∷ s) now_at.made_is;
    height = elsewhere cells 1 (omega arith) ∙ now_at.height ∙ (let t : trail_for since n ≡ 0 = rw e refl in omega arith);
    trail = now_at.trail;
    on_trail = trail_stays cells (written_cells cells) now_at.trail (λ i lt. on_trail cells i) now_at.on_trail;
    tall = now_at.tall ∙ sym (elsewhere cells 1 (omega arith));
    known = known_still;
    others = λ k ne far. outside cells k far ∙ now_at.others k ne far;
    backs = λ v' le g. back_young v' (sh.place n) y (let z = ltb-false (sh.place n) hb (sym (mk.older n old) ∙ e) in omega arith) (now_at.backs v' le g);
    entries = (λ e'. absurd (cc (sym e ∙ e')), entries_stay sh cells (written_cells cells) since left (left + trail_of since now_at.made) now_at.made (λ i lt. on_trail cells i) (omega arith) now_at.entries);
  }

  young : nat_lt n since ≡ false → Binds p sh since hb S0 left begun f w memory typed output drawn ref y ((n, v) ∷ S)
  unfolding behind_label
  young e = record {
    memory' = with_cell memory (heap_at + sh.place n) y;
    cells' = written_cells cells;
    count = 3;
    runs = taken (test_is false e) refl (writes_last memory cells now_at.holds);
    at = young_at e;
    few = omega arith;
  }

  -- ---- with the trail

  abbrev top : ℕ
  top = cells 1

  abbrev m1 : List ℕ
  m1 = with_cell memory (trail_at + top) ref

  abbrev m2 : List ℕ
  m2 = with_cell m1 1 (top + 1)

  abbrev c1 : ℕ → ℕ
  c1 = replaced cells (trail_at + top) ref

  abbrev c2 : ℕ → ℕ
  c2 = replaced c1 1 (top + 1)

  h1 : top < 2000 → Holds p.world.layout m1 c1
  h1 lt = let room = has.mapped.room in let within = is.within n old in holds_with p.world.layout memory cells (trail_at + top) ref now_at.holds (omega arith) (omega arith)

  h2 : top < 2000 → Holds p.world.layout m2 c2
  h2 lt = let room = has.mapped.room in holds_with p.world.layout m1 c1 1 (top + 1) (h1 lt) (omega arith) (omega arith)

  c1_is : (j : ℕ) → j ≢ trail_at + top → c1 j ≡ cells j
  c1_is j ne = cond-false (j == trail_at + top) ref (cells j) (ne_eqb j (trail_at + top) ne)

  c2_is : (j : ℕ) → j ≢ 1 → c2 j ≡ c1 j
  c2_is j ne = cond-false (j == 1) (top + 1) (c1 j) (ne_eqb j 1 ne)

  heap_same : (k : ℕ) → k < 10000 → c2 (heap_at + k) ≡ cells (heap_at + k)
  heap_same k lt = c2_is (heap_at + k) (λ (e : heap_at + k ≡ 1). (omega arith)) ∙ c1_is (heap_at + k) (λ (e : heap_at + k ≡ trail_at + top). (omega arith))

  trail_same : (i : ℕ) → i < top → written_cells c2 (trail_at + i) ≡ cells (trail_at + i)
  trail_same i lt = on_trail c2 i ∙ c2_is (trail_at + i) (λ (e : trail_at + i ≡ 1). (omega arith)) ∙ c1_is (trail_at + i) (λ (e : trail_at + i ≡ trail_at + top). (omega arith))

  on_top : written_cells c2 (trail_at + top) ≡ ref
  on_top = on_trail c2 top ∙ c2_is (trail_at + top) (λ (i : trail_at + top ≡ 1). (omega arith)) ∙ cond-true (trail_at + top == trail_at + top) ref (cells (trail_at + top)) (eq-eqb (trail_at + top) (trail_at + top) refl)

  trailed : top < 2000 → nat_lt n since ≡ true → Binds p sh since hb S0 left begun f w memory typed output drawn ref y ((n, v) ∷ S)
  unfolding behind_label
  trailed lt e = record {
    memory' = with_cell m2 (heap_at + sh.place n) y;
    cells' = written_cells c2;
    count = 6;
    runs =
        let room = has.mapped.room in
        passed (test_is true e)
        (passed (tested p (now memory) comparisons.Equal (atoms.Var 17) (atoms.Num 2000) true top 2000 false (trail_register p (now memory) cells now_at.holds (omega arith)) refl (ne_eqb top 2000 (λ (i : top ≡ 2000). (omega arith))))
        (done (writes p (now memory) widths.Word (atoms.Num 20694) (atoms.Var 17) (atoms.Var 1) (at_cell trail_at) top ref m1 refl (trail_register p (now memory) cells now_at.holds (omega arith)) (get_1 p memory ref y 0 0 typed drawn output) (writes_cell p.world.layout memory cells (at_cell trail_at) top ref (trail_at + top) now_at.holds (omega arith) (omega arith)))
        (done (computes p (now m1) (now m2) 17 functions.Add (atoms.Var 17) (atoms.Num 1) top 1 (top + 1) (trail_register p (now m1) c1 (h1 lt) (omega arith) ∙ ap word (c1_is 1 (λ (i : 1 ≡ trail_at + top). (omega arith)))) refl (one_more p top (omega arith) m1) (put_trail p (now m1) (top + 1) now_at.holds.globals))
        (at_label (writes_last m2 c2 (h2 lt))))));
    at = record {
      holds = holds_last m2 c2 (h2 lt);
      stands = at_last m2 c2 (h2 lt) heap_same;
      mark = elsewhere c2 2 (omega arith) ∙ c2_is 2 (λ (i : 2 ≡ 1). (omega arith)) ∙ c1_is 2 (λ (i : 2 ≡ trail_at + top). (omega arith)) ∙ now_at.mark;
      made = (n, v) ∷ now_at.made;
      made_is = ap (λ (s : Substitution). (n, v) ∷ s) now_at.made_is;
      height = let t : trail_for since n ≡ 1 = rw e refl in let a = elsewhere c2 1 (omega arith) in let b : c2 1 ≡ top + 1 = refl in let g = now_at.height in omega arith;
      trail = sh.place n ∷ now_at.trail;
      on_trail = ((subst (λ (j : ℕ). written_cells c2 (trail_at + j) ≡ ref) (sym now_at.tall) on_top, is.within n old), trail_stays cells (written_cells c2) now_at.trail (λ i below. trail_same i (let z = now_at.tall in omega arith)) now_at.on_trail);
      tall = let z = now_at.tall in let a = elsewhere c2 1 (omega arith) in let b : c2 1 ≡ top + 1 = refl in omega arith;
      known = known_still;
      others = λ k ne far. outside c2 k far ∙ c2_is k ne ∙ c1_is k (λ (i : k ≡ trail_at + top). (let z : 12315 ≤ k = far (omega arith) in omega arith)) ∙ now_at.others k ne far;
      backs = λ v' le g. back_bound v' (sh.place n) y (heap_same (sh.place n) (is.within n old) ∙ now_at.stands.unbound n old (unbound_none n S fits.unbound)) (back_grown v' (grown_none sh) (λ k low. heap_same k (let z = mk.low in omega arith)) (now_at.backs v' le g));
      entries = (
        λ e'.
            let g = now_at.height in
            let here : trail_at + (left + trail_of since now_at.made) ≡ trail_at + top = omega arith in
            let a = on_trail c2 top ∙ c2_is (trail_at + top) (λ (i : trail_at + top ≡ 1). (omega arith)) ∙ cond-true (trail_at + top == trail_at + top) ref (cells (trail_at + top)) (eq-eqb (trail_at + top) (trail_at + top) refl) in
            subst (λ (j : ℕ). written_cells c2 j ≡ ref) (sym here) a,
        entries_stay sh cells (written_cells c2) since left top now_at.made trail_same (let g = now_at.height in omega arith) now_at.entries,
      );
    };
    few = omega arith;
  }

  there_is_room : (b : Bool) → nat_lt n since ≡ b → FitsTrail since S0 left ((n, v) ∷ S) → Binds p sh since hb S0 left begun f w memory typed output drawn ref y ((n, v) ∷ S)
  there_is_room false e room = young e
  there_is_room true e room =
      let t : trail_for since n ≡ 1 = rw e refl in
      let g = now_at.height in
      let made_is = ap (trail_of since) now_at.made_is in
      let sum = trail_append since now_at.made S0 in
      trailed (omega arith) e

  pub bind_works : FitsTrail since S0 left ((n, v) ∷ S) → Binds p sh since hb S0 left begun f w memory typed output drawn ref y ((n, v) ∷ S)
  bind_works room = there_is_room (nat_lt n since) refl room

  -- ---- where the trail is full

  abbrev Full : Type 0
  Full = IsFull p begun memory typed output drawn ref y

  passes : top ≡ 2000 → nat_lt n since ≡ true → Full
  unfolding behind_label
  passes full e =
      let room = has.mapped.room in
      let c = trail_closes p has memory typed output drawn cells now_at.holds in
      let few = c.few in
      let same : cells last_reg ≡ begun.cells last_reg = now_at.others last_reg (λ (i : last_reg ≡ 1). (omega arith)) (λ (i : heap_at ≤ last_reg). (omega arith)) in
      record {
        count = suc (suc (suc c.count));
        runs = subst (λ (x : ℕ). Runs p 2 0 BIND_ACTS BIND_ACTS (now memory) (Stops AtQuit) (state memory [] typed drawn (output ++ closing x TrailLimit)) (suc (suc (suc c.count)))) same
            (passed (test_is true e)
            (taken (tested p (now memory) comparisons.Equal (atoms.Var 17) (atoms.Num 2000) true top 2000 true (trail_register p (now memory) cells now_at.holds (omega arith)) refl (eq-eqb top 2000 full)) refl
            (calls_last {f' = 1} {w' = 0} {n = c.count} {xs = (0, 0, 0)} {r = routine_of 0 TRAIL_LIMIT_ACTS} refl refl (trail_limit_at p has) (omega arith) (omega arith) c.runs)));
        few = omega arith;
      }

  by_age : FitsTrail since S0 left S → (b : Bool) → nat_lt n since ≡ b → PassesTrail since S0 left ((n, v) ∷ S) → Full
  by_age so_far false e over = absurd (let t : trail_for since n ≡ 0 = rw e refl in omega arith)
  by_age so_far true e over =
      let t : trail_for since n ≡ 1 = rw e refl in
      let g = now_at.height in
      let made_is = ap (trail_of since) now_at.made_is in
      let sum = trail_append since now_at.made S0 in
      passes (omega arith) e

  pub bind_passes : FitsTrail since S0 left S → PassesTrail since S0 left ((n, v) ∷ S) → Full
  bind_passes so_far over = by_age so_far (nat_lt n since) refl over
