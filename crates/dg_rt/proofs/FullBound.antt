-- The routine that looks for unbound variables does so.
use Rattle.std.proofs.Common.{◌≡◌, ℕ, zero, suc, ◌+◌, ◌*◌, ◌<◌, ◌≤◌, false, true, List, [], ◌∷◌, drop, length, Some, refl, sym, ap, ◌∙◌, subst, arith}
use Rattle.z_lang.specs.declared.act.Comparison.TheVariants as comparisons
use Rattle.z_lang.specs.State.{State}
use Rattle.z_lang.specs.Runs.{ActsRun as Runs, ActsOutcome as Outcome, Returns, at_label, taken, passed, calls, returns, behind_label}
use Rattle.dg_meaning.specs.Values.{Label, Closure, Value, Var, Node, Values, NoMore, More, Pair, pair}
use Rattle.dg_meaning.specs.Substitutions.{walk, resolved, contains}
use Rattle.dg_meaning.specs.Unify.{size}
use Rattle.dg_meaning.proofs.LookUps.{walk_node}
use Rattle.dg_rt.specs.declared.unify.TheConstants.{WALK_ACTS}
use Rattle.dg_rt.specs.declared.operands.TheConstants.{FULL_ACTS}
use Rattle.dg_rt.specs.Cells.{compared, bit}
use Rattle.dg_rt.specs.Areas.{state}
use Rattle.dg_rt.specs.Shapes.{Cell, Shows, number, dict, object, nil, boxed, Filled, pair_in, closure_in, word_in}
use Rattle.dg_rt.specs.Operands.{Fills, FullWorks}
use Rattle.dg_rt.specs.inside.Walks.{ending, Walks}
use Rattle.dg_rt.specs.inside.Depth.{Below, on_top, under}
use Rattle.dg_rt.proofs.Following.{local_1, put_1}
use Rattle.dg_rt.proofs.Locals.{reference}
use Rattle.dg_rt.proofs.Showing.{node_word, variable_word, letters_low}
use Rattle.dg_rt.proofs.Depth.{below_smaller, below_walk, parts_smaller, levels}
use Rattle.dg_rt.proofs.Looks.{links_some}
use Rattle.dg_rt.proofs.Standing.{walk_at}
use Rattle.dg_rt.proofs.Walking.{walk_works}
use Rattle.dg_rt.proofs.FullSteps.{LookingThrough, now, seen, seen_all, full, all_full, Absent, AllAbsent, first_absent, others_absent, resolved_walked, resolved_as, seen_node, seen_variable, full_node, full_variable, less, Goes, simple, unknown, Called, loops, closure, of_pair}

module _ (io : LookingThrough) where
  open io use {p, has, sh, is, memory, typed, output, drawn, cells, h, S, st, n}

  -- The routine behind its first label, with five instructions less than its looks have.
  abbrev Begun : ℕ → ℕ → ℕ → ℕ → Value → Type 0
  Begun f a b c v = Fills p f (drop 1 FULL_ACTS) memory typed output drawn a b c S v 5 (15 * (seen io v).1)

  -- runs for parts, and for a tail
  abbrev Heads : ℕ → Value → Type 0
  Heads f w = (x : ℕ) (a : Value) (ks : List ℕ) → Shows sh x a → Below sh S ks a → 3335 ≤ f + length ks → size (resolved S a) < size (resolved S w) → (Absent io) a → (Called io) f x a

  abbrev Tails : ℕ → List ℕ → Value → Type 0
  Tails f ks w = (y b c : ℕ) (a : Value) → Shows sh y a → Below sh S ks a → size (resolved S a) < size (resolved S w) → (Absent io) a → Begun f y b c a

  box : {k header : ℕ} {g : Label} {vs : Values} (f b c : ℕ) (ks : List ℕ) → Filled sh k header (Node g vs) → k + 2 < 10000 → sh.box k ≡ Some (Node g vs) → Cell sh k header → Below sh S ks (Node g vs) → 3335 ≤ suc f + length ks → (AllAbsent io) vs → Heads f (Node g vs) → Tails (suc f) ks (Node g vs) → (Goes io) (suc f) (49152 + k) b c ((all_full io) vs) ((seen_all io) vs).1
  box f b c ks (pair_in {h = v} {t = u} k x y one two sv su) lt at cell below few absent heads tails =
      let less' = parts_smaller S Pair (More v (More u NoMore)) in
      let absent_v = (first_absent io) v (More u NoMore) absent in
      let absent_u = (first_absent io) u NoMore ((others_absent io) v (More u NoMore) absent) in
      (of_pair io) f k b c x y v u lt cell one two absent
      (heads x v (k ∷ ks) sv (under ks v k (pair v u) lt at less'.0 below) (omega arith) (less'.0 []) absent_v)
      (tails y 1 c u su (below_smaller u less'.1.0 below) (less'.1.0 []) absent_u)
      ((full io) v) refl
  box f b c ks (closure_in {vs = vs} k place small told captured many all) lt at cell below few absent heads tails =
      (closure io) f k b c place vs lt small cell many all
      ((loops io) f k (1 + place) (k + 3) vs (Node (Closure place) vs) refl all (parts_smaller S (Closure place) vs) absent (λ x a sa smaller absent'. heads x a (k ∷ ks) sa (under ks a k (Node (Closure place) vs) lt at smaller below) (omega arith) (smaller []) absent'))
  box f b c ks (word_in {letters = xs} k fine all) lt at cell below few absent heads tails = let low = letters_low is (k + 3) xs (omega arith) all in (unknown io) (suc f) k b c (length xs) lt (omega arith) cell

  node : {u : ℕ} (f b c : ℕ) (g : Label) (vs : Values) (ks : List ℕ) → Shows sh u (Node g vs) → Below sh S ks (Node g vs) → 3335 ≤ suc f + length ks → (AllAbsent io) vs → Heads f (Node g vs) → Tails (suc f) ks (Node g vs) → (Goes io) (suc f) u b c ((all_full io) vs) ((seen_all io) vs).1
  node f b c g vs ks (number m lt) below few absent heads tails = (simple io) (suc f) m b c (omega arith)
  node f b c g vs ks (dict m lt) below few absent heads tails = (simple io) (suc f) (16384 + m) b c (omega arith)
  node f b c g vs ks (object m lt) below few absent heads tails = (simple io) (suc f) (24576 + m) b c (omega arith)
  node f b c g vs ks nil below few absent heads tails = (simple io) (suc f) 28672 b c (omega arith)
  node f b c g vs ks (boxed k header lt at cell inside) below few absent heads tails = box f b c ks inside lt at cell below few absent heads tails

  -- a value that isn't walked
  unwalked : {u : ℕ} (f b c : ℕ) (g : Label) (vs : Values) → Shows sh u (Node g vs) → (Goes io) (suc f) u b c ((all_full io) vs) ((seen_all io) vs).1 → Begun (suc f) u b c (Node g vs)
  unfolding behind_label
  unwalked {u} f b c g vs s r =
      let costs = (seen_node io) (Node g vs) g vs (walk_node S g vs) in
      let tells = (full_node io) (Node g vs) g vs (walk_node S g vs) in
      let few = r.few in
      record {
        locals' = r.locals';
        count = suc r.count;
        runs = taken ((less io) u b c 49152 false false (node_word s)) refl (rw tells r.runs);
        few = omega arith;
      }

  -- up to the second test of a variable
  to_walked : (f a b c y : ℕ) → Shows sh a (Var y) → (wk : Walks p 0 0 WALK_ACTS sh S memory typed output drawn a 0 0 0 (Var y)) → (o : Outcome) (s' : State) (m : ℕ) → Runs p (suc f) (3 * suc f) FULL_ACTS (drop 3 FULL_ACTS) ((now io) wk.word b c) o s' m → 4 ≤ 3 * suc f → Runs p (suc f) (3 * suc f) FULL_ACTS (drop 1 FULL_ACTS) ((now io) a b c) o s' (suc (suc wk.count + m))
  to_walked f a b c y s wk o s' m rest enough =
      let v = variable_word s in
      let within = is.within y v.old in
      let is_ref : compared comparisons.Less a 49152 ≡ true = subst (λ (x : ℕ). compared comparisons.Less x 49152 ≡ true) (sym v.is) (reference (sh.place y) (omega arith)) in
      passed ((less io) a b c 49152 true false is_ref)
      (calls {f' = 0} {w' = 0} {n = wk.count} {n' = m} {xs = (a, 0, 0)} refl (rw (local_1 p memory a (b ∷ c ∷ []) typed drawn output) refl) (walk_at p has) (omega arith) (omega arith) wk.runs (put_1 p memory a wk.word (b ∷ c ∷ []) typed drawn output) rest)

  -- a variable that is walked to a variable
  free : (f a b c y z : ℕ) → Shows sh a (Var y) → (wk : Walks p 0 0 WALK_ACTS sh S memory typed output drawn a 0 0 0 (Var y)) → walk S (Var y) ≡ Var z → 4 ≤ 3 * suc f → Begun (suc f) a b c (Var y)
  unfolding behind_label
  free f a b c y z s wk e enough =
      let v = variable_word (subst (Shows sh wk.word) e wk.shows) in
      let within = is.within z v.old in
      let few = wk.few in
      let last : ending (walk S (Var y)) ≡ 4 = rw e refl in
      let costs = (seen_variable io) (Var y) z e in
      let tells = (full_variable io) (Var y) z e in
      let is_ref : compared comparisons.Less wk.word 49152 ≡ true = subst (λ (x : ℕ). compared comparisons.Less x 49152 ≡ true) (sym v.is) (reference (sh.place z) (omega arith)) in
      record {
        locals' = wk.word ∷ b ∷ c ∷ [];
        count = suc (suc wk.count + 2);
        runs = rw tells (to_walked f a b c y s wk (Returns 0) ((now io) wk.word b c) 2 (passed ((less io) wk.word b c 49152 true false is_ref) (returns refl)) enough);
        few = omega arith;
      }

  -- a variable that is walked to another value
  bound : (f a b c y : ℕ) (g : Label) (vs : Values) → Shows sh a (Var y) → (wk : Walks p 0 0 WALK_ACTS sh S memory typed output drawn a 0 0 0 (Var y)) → walk S (Var y) ≡ Node g vs → 4 ≤ 3 * suc f → (Goes io) (suc f) wk.word b c ((all_full io) vs) ((seen_all io) vs).1 → Begun (suc f) a b c (Var y)
  unfolding behind_label
  bound f a b c y g vs s wk e enough r =
      let some = links_some S st.sound y g vs e in
      let few = wk.few in
      let few' = r.few in
      let last : ending (walk S (Var y)) ≡ 2 = rw e refl in
      let costs = (seen_node io) (Var y) g vs e in
      let tells = (full_node io) (Var y) g vs e in
      record {
        locals' = r.locals';
        count = suc (suc wk.count + suc r.count);
        runs = rw tells (to_walked f a b c y s wk (Returns (bit ((all_full io) vs))) (state memory r.locals' typed drawn output) (suc r.count) (taken ((less io) wk.word b c 49152 false false (node_word (subst (Shows sh wk.word) e wk.shows))) refl r.runs) enough);
        few = omega arith;
      }

  one_level : (f a b c : ℕ) (v : Value) (ks : List ℕ) → Shows sh a v → Below sh S ks v → 3335 ≤ suc f + length ks → 4 ≤ 3 * suc f → (Absent io) v → Heads f v → Tails (suc f) ks v → Begun (suc f) a b c v
  one_level f a b c (Node g vs) ks s below few enough absent heads tails =
      let is_it = ap (contains n) ((resolved_as io) (Node g vs) g vs (walk_node S g vs)) in
      let absent' : (AllAbsent io) vs = sym is_it ∙ absent in
      unwalked f b c g vs s (node f b c g vs ks s below few absent' heads tails)
  one_level f a b c (Var y) ks s below few enough absent heads tails = by_walk (walk S (Var y)) refl
    where
      wk : Walks p 0 0 WALK_ACTS sh S memory typed output drawn a 0 0 0 (Var y)
      wk = walk_works p has sh is 0 0 memory typed output drawn 0 0 cells h S st a 0 (Var y) s

      by_walk : (w : Value) → walk S (Var y) ≡ w → Begun (suc f) a b c (Var y)
      by_walk (Var z) e = free f a b c y z s wk e enough
      by_walk (Node g vs) e =
          let whole : Below sh S ks (Node g vs) = subst (Below sh S ks) e (below_walk S st.sound below) in
          let same : size (resolved S (Var y)) ≡ size (resolved S (Node g vs)) = ap size ((resolved_walked io) (Var y) (Node g vs) e) in
          let is_it = ap (contains n) ((resolved_as io) (Var y) g vs e) in
          let absent' : (AllAbsent io) vs = sym is_it ∙ absent in
          bound f a b c y g vs s wk e enough
          (node f b c g vs ks (subst (Shows sh wk.word) e wk.shows) whole few absent' (λ x a' ks' sa ba few' less' free'. heads x a' ks' sa ba few' (omega arith) free') (λ z b' c' a' sa ba less' free'. tails z b' c' a' sa ba (omega arith) free'))

  labelled : {f a b c : ℕ} {v : Value} → Begun f a b c v → Fills p f FULL_ACTS memory typed output drawn a b c S v 5 (15 * (seen io v).1)
  labelled r = record { locals' = r.locals'; count = r.count; runs = at_label r.runs; few = r.few }

  -- The frames of the deepest level are enough for a walk.
  fills : (most f a b c : ℕ) (v : Value) (ks : List ℕ) → Shows sh a v → Below sh S ks v → 3335 ≤ f + length ks → size (resolved S v) < most → (Absent io) v → Begun f a b c v
  fills zero f a b c v ks s below few lt absent = absurd (omega arith)
  fills (suc most) zero a b c v ks s below few lt absent = let l = levels is S below in absurd (omega arith)
  fills (suc most) (suc f) a b c v ks s below few lt absent =
      let deep = levels is S below in
      one_level f a b c v ks s below (omega arith) (omega arith) absent
      (λ x a' ks' sa below' few' less' free'. labelled (fills most f x 0 0 a' ks' sa below' (omega arith) (omega arith) free'))
      (λ y b' c' a' sa below' less' free'. fills most (suc f) y b' c' a' ks sa below' few (omega arith) free')

pub full_works : FullWorks
full_works p has memory typed output drawn sh is cells h S st x v s n absent =
    let io : LookingThrough = record { p = p; has = has; sh = sh; is = is; memory = memory; typed = typed; output = output; drawn = drawn; cells = cells; h = h; S = S; st = st; n = n } in
    let r = labelled io (fills io (suc (size (resolved S v))) 3335 x 0 0 v [] s (on_top v) (omega arith) (omega arith) absent) in
    let few = r.few in
    record { locals' = r.locals'; count = r.count; runs = r.runs; few = omega arith }
