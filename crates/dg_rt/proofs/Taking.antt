-- The routine that undoes bindings gives back the substitution, as the older variables have it.
use Rattle.std.proofs.Common.{◌≡◌, ◌≢◌, ℕ, suc, ◌+◌, ◌<◌, ◌≤◌, inl, inr, Bool, true, false, List, [], ◌∷◌, ◌++◌, drop, Some, None, refl, sym, ap, ◌∙◌, subst, arith}
use Rattle.std.specs.Prelude.{◌==◌, eqb, nat_lt}
use Rattle.std.proofs.lemmas.Bool.{eq-eqb, ne_eqb, cases_eq, cond-true, cond-false, ltb-true, ltb-false}
use Rattle.z_lang.specs.declared.act.Atom.TheVariants as atoms
use Rattle.z_lang.specs.declared.act.Function.TheVariants as functions
use Rattle.z_lang.specs.declared.act.Comparison.TheVariants as comparisons
use Rattle.z_lang.specs.declared.act.Width.TheVariants as widths
use Rattle.z_lang.specs.declared.act.Act.{Act}
use Rattle.z_lang.specs.State.{State, Program}
use Rattle.z_lang.specs.Acts.{computed}
use Rattle.z_lang.specs.Runs.{ActsRun as Runs, Returns, at_label, goes, taken, passed, done, returns, behind_label}
use Rattle.dg_meaning.specs.Values.{Value}
use Rattle.dg_meaning.specs.Substitutions.{Substitution}
use Rattle.dg_meaning.specs.inside.Substitutions.{IsSubstitution}
use Rattle.dg_meaning.specs.inside.Unifiers.{binding_of}
use Rattle.dg_meaning.proofs.LookUps.{unbound_none}
use Rattle.dg_rt.specs.declared.unify.TheConstants.{UNDO_ACTS}
use Rattle.dg_rt.specs.Cells.{at_cell, with_cell, replaced, Holds}
use Rattle.dg_rt.specs.Areas.{heap_at, trail_at, IsMapped, state}
use Rattle.dg_rt.specs.Shapes.{Shape, IsShape, Shows}
use Rattle.dg_rt.specs.Back.{Begun}
use Rattle.dg_rt.specs.Moments.{trail_for, trail_of, Entries, IsAt}
use Rattle.dg_rt.specs.Undoes.{OldStand, Undoes}
use Rattle.dg_rt.proofs.Following.{tested, computes, writes, trail_register, put_trail, local_1, local_2, put_2}
use Rattle.dg_rt.proofs.Cells.{holds_with, reads_cell, writes_cell}
use Rattle.dg_rt.proofs.Showing.{same_place}
use Rattle.dg_rt.proofs.Binding.{entries_stay}

abbrev loop : List Act
loop = drop 1 UNDO_ACTS

pub less_one : (p : Program) (x n : ℕ) → x ≡ suc n → x < 65536 → (memory : List ℕ) → computed p.world.layout memory functions.Sub x 1 ≡ Some n
unfolding computed
less_one p x n e lt memory = ap (λ (i : ℕ). Some i) (omega arith)

-- a younger variable's binding is nothing to the older ones
young_gone : {sh : Shape} (since : ℕ) (cells : ℕ → ℕ) (n : ℕ) (v : Value) (S : Substitution) → since ≤ n → OldStand sh since cells ((n, v) ∷ S) → OldStand sh since cells S
young_gone since cells n v S le st = record {
  fixed = st.fixed;
  unbound = λ m lt e. st.unbound m lt (cond-false (eqb m n) (Some v) (binding_of m S) (ne_eqb m n (λ (i : m ≡ n). (omega arith))) ∙ e);
  bound = λ m w lt e. st.bound m w lt (cond-false (eqb m n) (Some v) (binding_of m S) (ne_eqb m n (λ (i : m ≡ n). (omega arith))) ∙ e);
}

-- an older one's cell is written back
old_gone : {sh : Shape} → IsShape sh → (since : ℕ) (cells cells' : ℕ → ℕ) (n : ℕ) (v : Value) (S : Substitution) → since ≤ sh.vars → n < since → binding_of n S ≡ None → OldStand sh since cells ((n, v) ∷ S) → ((k : ℕ) → k < 10000 → k ≢ sh.place n → cells' (heap_at + k) ≡ cells (heap_at + k)) → cells' (heap_at + sh.place n) ≡ 32768 + sh.place n → OldStand sh since cells' S
old_gone {sh} is since cells cells' n v S all old free st keeps wrote = record {
  fixed = λ k lt fx. keeps k lt (λ (e : k ≡ sh.place n). fx.1 n (omega arith) (sym e)) ∙ st.fixed k lt fx;
  unbound = λ m lt e. elim (cases_eq m n) [
    | inl same ↦ subst (λ (i : ℕ). cells' (heap_at + sh.place i) ≡ 32768 + sh.place i) (sym same) wrote
    | inr ne ↦ keeps (sh.place m) (is.within m (omega arith)) (λ (i : sh.place m ≡ sh.place n). ne (same_place is m n (omega arith) (omega arith) i)) ∙ st.unbound m lt (cond-false (eqb m n) (Some v) (binding_of m S) (ne_eqb m n ne) ∙ e)
  ];
  bound = λ m w lt e. elim (cases_eq m n) [
    | inl same ↦ absurd (let k : binding_of n S ≡ Some w = subst (λ (i : ℕ). binding_of i S ≡ Some w) same e in cc (sym k ∙ free))
    | inr ne ↦ subst (λ (x : ℕ). Shows sh x w) (sym (keeps (sh.place m) (is.within m (omega arith)) (λ (i : sh.place m ≡ sh.place n). ne (same_place is m n (omega arith) (omega arith) i)))) (st.bound m w lt (cond-false (eqb m n) (Some v) (binding_of m S) (ne_eqb m n ne) ∙ e))
  ];
}

module _ (p : Program) (map : IsMapped p) (sh : Shape) (is : IsShape sh) (since : ℕ) (all : since ≤ sh.vars) (f w : ℕ) (typed output : List ℕ) (drawn left : ℕ) (S0 : Substitution) where
  abbrev now : List ℕ → ℕ → State
  now memory x = state memory (left ∷ x ∷ []) typed drawn output

  nothing_left : (memory : List ℕ) (cells : ℕ → ℕ) (x : ℕ) → Holds p.world.layout memory cells → cells 1 ≡ left → OldStand sh since cells S0 → Undoes p sh since left f w loop memory typed output drawn x S0 0
  unfolding behind_label
  nothing_left memory cells x h e st = record {
    memory' = memory;
    cells' = cells;
    locals' = left ∷ x ∷ [];
    count = 2;
    runs = taken (tested p (now memory x) comparisons.Equal (atoms.Var 17) (atoms.Var 1) true (cells 1) left true (trail_register p (now memory x) cells h (let r = map.room in omega arith)) (local_1 p memory left (x ∷ []) typed drawn output) (eq-eqb (cells 1) left e)) refl (returns refl);
    holds = h;
    height = e;
    old = st;
    few = omega arith;
  }

  module _ (memory : List ℕ) (cells : ℕ → ℕ) (x t n : ℕ) (h : Holds p.world.layout memory cells) (e : cells 1 ≡ left + suc t) (le : left + suc t ≤ 2000) (old : n < since) (on : cells (trail_at + (left + t)) ≡ 32768 + sh.place n) where
    abbrev ref : ℕ
    ref = 32768 + sh.place n

    abbrev m1 : List ℕ
    m1 = with_cell memory 1 (left + t)

    abbrev c1 : ℕ → ℕ
    c1 = replaced cells 1 (left + t)

    abbrev m2 : List ℕ
    m2 = with_cell m1 (heap_at + sh.place n) ref

    abbrev c2 : ℕ → ℕ
    c2 = replaced c1 (heap_at + sh.place n) ref

    h1 : Holds p.world.layout m1 c1
    h1 = let room = map.room in holds_with p.world.layout memory cells 1 (left + t) h (omega arith) (omega arith)

    h2 : Holds p.world.layout m2 c2
    h2 = let room = map.room in let within = is.within n (omega arith) in holds_with p.world.layout m1 c1 (heap_at + sh.place n) ref h1 (omega arith) (omega arith)

    same_1 : (j : ℕ) → j ≢ 1 → c1 j ≡ cells j
    same_1 j ne = cond-false (j == 1) (left + t) (cells j) (ne_eqb j 1 ne)

    same_2 : (j : ℕ) → j ≢ heap_at + sh.place n → c2 j ≡ c1 j
    same_2 j ne = cond-false (j == heap_at + sh.place n) ref (c1 j) (ne_eqb j (heap_at + sh.place n) ne)

    wrote : c2 (heap_at + sh.place n) ≡ ref
    wrote = cond-true (heap_at + sh.place n == heap_at + sh.place n) ref (c1 (heap_at + sh.place n)) (eq-eqb (heap_at + sh.place n) (heap_at + sh.place n) refl)

    turn : (o : _) (s' : State) (k : ℕ) → Runs p f w UNDO_ACTS loop (now m2 ref) o s' k → Runs p f w UNDO_ACTS loop (now memory x) o s' (suc (suc (suc (suc (suc k)))))
    unfolding behind_label
    turn o s' k rest =
        let room = map.room in
        let within = is.within n (omega arith) in
        passed (tested p (now memory x) comparisons.Equal (atoms.Var 17) (atoms.Var 1) true (cells 1) left false (trail_register p (now memory x) cells h (omega arith)) (local_1 p memory left (x ∷ []) typed drawn output) (ne_eqb (cells 1) left (λ (i : cells 1 ≡ left). (omega arith))))
        (done (computes p (now memory x) (now m1 x) 17 functions.Sub (atoms.Var 17) (atoms.Num 1) (cells 1) 1 (left + t) (trail_register p (now memory x) cells h (omega arith)) refl (less_one p (cells 1) (left + t) (omega arith) (h.words 1) memory) (put_trail p (now memory x) (left + t) h.globals))
        (done (computes p (now m1 x) (now m1 ref) 2 functions.Word (atoms.Num 20694) (atoms.Var 17) (at_cell trail_at) (left + t) ref refl (trail_register p (now m1 x) c1 h1 (omega arith)) (reads_cell p.world.layout m1 c1 (at_cell trail_at) (left + t) (trail_at + (left + t)) h1 (omega arith) (omega arith) ∙ ap (λ (i : ℕ). Some i) (same_1 (trail_at + (left + t)) (λ (i : trail_at + (left + t) ≡ 1). (omega arith)) ∙ on)) (put_2 p m1 left x ref [] typed drawn output))
        (done (writes p (now m1 ref) widths.Word (atoms.Num 670) (atoms.Var 2) (atoms.Var 2) (at_cell heap_at) ref ref m2 refl (local_2 p m1 left ref [] typed drawn output) (local_2 p m1 left ref [] typed drawn output) (writes_cell p.world.layout m1 c1 (at_cell heap_at) ref ref (heap_at + sh.place n) h1 (omega arith) (omega arith)))
        (goes refl rest))))

  -- with the newest binding, and what the rest does
  one : (n : ℕ) (v : Value) (made : Substitution) (memory : List ℕ) (cells : ℕ → ℕ) (x : ℕ) → Holds p.world.layout memory cells → IsSubstitution ((n, v) ∷ (made ++ S0)) → cells 1 ≡ left + trail_of since ((n, v) ∷ made) → left + trail_of since ((n, v) ∷ made) ≤ 2000 → Entries sh cells since left ((n, v) ∷ made) → OldStand sh since cells ((n, v) ∷ (made ++ S0)) →
      ((memory' : List ℕ) (cells' : ℕ → ℕ) (x' : ℕ) → Holds p.world.layout memory' cells' → cells' 1 ≡ left + trail_of since made → left + trail_of since made ≤ 2000 → Entries sh cells' since left made → OldStand sh since cells' (made ++ S0) → Undoes p sh since left f w loop memory' typed output drawn x' S0 (trail_of since made)) →
      (b : Bool) → nat_lt n since ≡ b → Undoes p sh since left f w loop memory typed output drawn x S0 (trail_of since ((n, v) ∷ made))
  one n v made memory cells x h s e le es st rest false young =
      let t : trail_for since n ≡ 0 = rw young refl in
      subst (Undoes p sh since left f w loop memory typed output drawn x S0) (omega arith)
      (rest memory cells x h (omega arith) (omega arith) es.1 (young_gone since cells n v (made ++ S0) (ltb-false n since young) st))
  one n v made memory cells x h s e le es st rest true aged =
      let one_more : trail_for since n ≡ 1 = rw aged refl in
      let old = ltb-true n since aged in
      let t = trail_of since made in
      let e' : cells 1 ≡ left + suc t = omega arith in
      let le' : left + suc t ≤ 2000 = omega arith in
      let on = es.0 aged in
      let within = is.within n (omega arith) in
      let r = rest (m2 memory cells x t n h e' le' old on) (c2 memory cells x t n h e' le' old on) (32768 + sh.place n) (h2 memory cells x t n h e' le' old on)
      (same_2 memory cells x t n h e' le' old on 1 (λ (i : 1 ≡ heap_at + sh.place n). (omega arith))) (omega arith)
      (entries_stay sh cells (c2 memory cells x t n h e' le' old on) since left (left + t) made (λ i lt. same_2 memory cells x t n h e' le' old on (trail_at + i) (λ (j : trail_at + i ≡ heap_at + sh.place n). (omega arith)) ∙ same_1 memory cells x t n h e' le' old on (trail_at + i) (λ (j : trail_at + i ≡ 1). (omega arith))) (omega arith) es.1)
      (old_gone is since cells (c2 memory cells x t n h e' le' old on) n v (made ++ S0) all old (unbound_none n (made ++ S0) s.0.unbound) st (λ k lt ne. same_2 memory cells x t n h e' le' old on (heap_at + k) (λ (j : heap_at + k ≡ heap_at + sh.place n). ne (omega arith)) ∙ same_1 memory cells x t n h e' le' old on (heap_at + k) (λ (j : heap_at + k ≡ 1). (omega arith))) (wrote memory cells x t n h e' le' old on)) in
      let few = r.few in
      record {
        memory' = r.memory';
        cells' = r.cells';
        locals' = r.locals';
        count = suc (suc (suc (suc (suc r.count))));
        runs = turn memory cells x t n h e' le' old on (Returns 0) (state r.memory' r.locals' typed drawn output) r.count r.runs;
        holds = r.holds;
        height = r.height;
        old = r.old;
        few = omega arith;
      }

  undoes : (made : Substitution) (memory : List ℕ) (cells : ℕ → ℕ) (x : ℕ) → Holds p.world.layout memory cells → IsSubstitution (made ++ S0) → cells 1 ≡ left + trail_of since made → left + trail_of since made ≤ 2000 → Entries sh cells since left made → OldStand sh since cells (made ++ S0) → Undoes p sh since left f w loop memory typed output drawn x S0 (trail_of since made)
  undoes [] memory cells x h s e le es st = nothing_left memory cells x h (omega arith) st
  undoes (b ∷ made) memory cells x h s e le es st = one b.0 b.1 made memory cells x h s e le es st (λ memory' cells' x' h' e' le' es' st'. undoes made memory' cells' x' h' s.1 e' le' es' st') (nat_lt b.0 since) refl

  -- from any moment of a unification
  pub gives_back : (hb : ℕ) (begun : Begun) (memory : List ℕ) (cells : ℕ → ℕ) (S : Substitution) (x : ℕ) → (here : IsAt p.world.layout sh since hb S0 left begun memory cells S) → left + trail_of since here.made ≤ 2000 → Undoes p sh since left f w UNDO_ACTS memory typed output drawn x S0 (trail_of since here.made)
  gives_back hb begun memory cells S x here le =
      let st = here.stands in
      let old : OldStand sh since cells S = record { fixed = st.fixed; unbound = λ n lt e. st.unbound n (omega arith) e; bound = λ n v lt e. st.bound n v (omega arith) e } in
      let r = undoes here.made memory cells x here.holds (subst IsSubstitution here.made_is st.sound) here.height le here.entries (subst (OldStand sh since cells) here.made_is old) in
      record { memory' = r.memory'; cells' = r.cells'; locals' = r.locals'; count = r.count; runs = at_label r.runs; holds = r.holds; height = r.height; old = r.old; few = r.few }
