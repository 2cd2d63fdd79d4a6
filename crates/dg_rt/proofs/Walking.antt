-- The routine that looks a value up does so.
use Rattle.std.proofs.Common.{◌≡◌, ℕ, zero, suc, ◌+◌, ◌*◌, ◌<◌, ◌≤◌, Bool, true, false, List, [], ◌∷◌, drop, Option, Some, None, refl, sym, ap, subst, arith}
use Rattle.std.specs.Prelude.{◌==◌}
use Rattle.std.proofs.lemmas.Bool.{eq-eqb, ne_eqb}
use Rattle.z_lang.specs.declared.act.Atom.TheVariants as atoms
use Rattle.z_lang.specs.declared.act.Function.TheVariants as functions
use Rattle.z_lang.specs.declared.act.Comparison.TheVariants as comparisons
use Rattle.z_lang.specs.declared.act.Act.{Act}
use Rattle.z_lang.specs.State.{State, Program}
use Rattle.z_lang.specs.Acts.{answer_of}
use Rattle.z_lang.specs.Runs.{ActsRun as Runs, ActsOutcome as Outcome, Returns, at_label, taken, passed, done, returns, behind_label}
use Rattle.dg_meaning.specs.Values.{Label, Value, Var, Node, Values}
use Rattle.dg_meaning.specs.Substitutions.{Substitution, walk, links}
use Rattle.dg_meaning.specs.inside.Unifiers.{binding_of}
use Rattle.dg_meaning.proofs.LookUps.{looks_up, walk_node, walk_free, none_unbound}
use Rattle.dg_rt.specs.declared.unify.TheConstants.{WALK_ACTS}
use Rattle.dg_rt.specs.Cells.{compared, at_cell, Holds}
use Rattle.dg_rt.specs.Areas.{heap_at, state}
use Rattle.dg_rt.specs.Shapes.{Shape, IsShape, Shows, variable, Stands}
use Rattle.dg_rt.specs.RunTime.{HasRunTime}
use Rattle.dg_rt.specs.inside.Walks.{ending, Walks}
use Rattle.dg_rt.proofs.Following.{tested, computes}
use Rattle.dg_rt.proofs.Locals.{get_1, get_2, set_1, set_2, reference}
use Rattle.dg_rt.proofs.Cells.{reads_cell}
use Rattle.dg_rt.proofs.Showing.{variable_word, node_word, reference_value}

module _ (p : Program) (has : HasRunTime p) (sh : Shape) (is : IsShape sh) (f w : ℕ) (memory typed output : List ℕ) (drawn c d : ℕ) (cells : ℕ → ℕ) (h : Holds p.world.layout memory cells) (S : Substitution) (st : Stands sh cells S) where
  abbrev now : ℕ → ℕ → State
  now a b = state memory (a ∷ b ∷ c ∷ d ∷ []) typed drawn output

  abbrev cell_of : ℕ → ℕ
  cell_of n = cells (heap_at + sh.place n)

  abbrev ref : ℕ → ℕ
  ref n = 32768 + sh.place n

  -- Acts that look a variable up, with one instruction left.
  record Looks (acts : List Act) (a b n : ℕ) : Type 0 where
    word : ℕ
    shows : Shows sh word (walk S (Var n))
    locals' : List ℕ
    count : ℕ
    runs : Runs p f w WALK_ACTS acts (now a b) (Returns word) (state memory locals' typed drawn output) count
    few : count + 1 ≤ 5 * links S (Var n) + ending (walk S (Var n))

  -- ---- tests and reads

  first_less : (a b : ℕ) (t answer : Bool) → compared comparisons.Less a 49152 ≡ t → answer_of p (now a b) (record { comparison = comparisons.Less; first = atoms.Var 1; second = atoms.Num 49152; answer = answer }) ≡ Some t
  first_less a b t answer e = tested p (now a b) comparisons.Less (atoms.Var 1) (atoms.Num 49152) answer a 49152 t (get_1 p memory a b c d typed drawn output) refl e

  second_less : (a b : ℕ) (t : Bool) → compared comparisons.Less b 49152 ≡ t → answer_of p (now a b) (record { comparison = comparisons.Less; first = atoms.Var 2; second = atoms.Num 49152; answer = false }) ≡ Some t
  second_less a b t e = tested p (now a b) comparisons.Less (atoms.Var 2) (atoms.Num 49152) false b 49152 t (get_2 p memory a b c d typed drawn output) refl e

  second_first : (a b : ℕ) (t : Bool) → (b == a) ≡ t → answer_of p (now a b) (record { comparison = comparisons.Equal; first = atoms.Var 2; second = atoms.Var 1; answer = true }) ≡ Some t
  second_first a b t e = tested p (now a b) comparisons.Equal (atoms.Var 2) (atoms.Var 1) true b a t (get_2 p memory a b c d typed drawn output) (get_1 p memory a b c d typed drawn output) e

  first_second : (a b : ℕ) (t : Bool) → (a == b) ≡ t → answer_of p (now a b) (record { comparison = comparisons.Equal; first = atoms.Var 1; second = atoms.Var 2; answer = true }) ≡ Some t
  first_second a b t e = tested p (now a b) comparisons.Equal (atoms.Var 1) (atoms.Var 2) true a b t (get_1 p memory a b c d typed drawn output) (get_2 p memory a b c d typed drawn output) e

  loads : (n b : ℕ) → n < sh.vars → (o : Outcome) (s' : State) (k : ℕ) → Runs p f w WALK_ACTS (drop 3 WALK_ACTS) (now (ref n) (cell_of n)) o s' k → Runs p f w WALK_ACTS (drop 2 WALK_ACTS) (now (ref n) b) o s' (suc k)
  loads n b old o s' k rest =
      let room = has.mapped.room in
      let within = is.within n old in
      done (computes p (now (ref n) b) (now (ref n) (cell_of n)) 2 functions.Word (atoms.Num 670) (atoms.Var 1) (at_cell heap_at) (ref n) (cell_of n) refl (get_1 p memory (ref n) b c d typed drawn output) (reads_cell p.world.layout memory cells (at_cell heap_at) (ref n) (heap_at + sh.place n) h (omega arith) (omega arith)) (set_2 p memory (ref n) b c d (cell_of n) typed drawn output)) rest

  loads_back : (n a : ℕ) → n < sh.vars → (o : Outcome) (s' : State) (k : ℕ) → Runs p f w WALK_ACTS (drop 6 WALK_ACTS) (now (cell_of n) (ref n)) o s' k → Runs p f w WALK_ACTS (drop 5 WALK_ACTS) (now a (ref n)) o s' (suc k)
  loads_back n a old o s' k rest =
      let room = has.mapped.room in
      let within = is.within n old in
      done (computes p (now a (ref n)) (now (cell_of n) (ref n)) 1 functions.Word (atoms.Num 670) (atoms.Var 2) (at_cell heap_at) (ref n) (cell_of n) refl (get_2 p memory a (ref n) c d typed drawn output) (reads_cell p.world.layout memory cells (at_cell heap_at) (ref n) (heap_at + sh.place n) h (omega arith) (omega arith)) (set_1 p memory a (ref n) c d (cell_of n) typed drawn output)) rest

  -- ---- an unbound variable

  free : (n b : ℕ) → n < sh.vars → binding_of n S ≡ None → Looks (drop 2 WALK_ACTS) (ref n) b n
  unfolding behind_label
  free n b old e = record {
    word = ref n;
    shows = subst (Shows sh (ref n)) (sym (walk_free S n (none_unbound n S e))) (variable n old);
    locals' = ref n ∷ cell_of n ∷ c ∷ d ∷ [];
    count = 3;
    runs = loads n b old (Returns (ref n)) (now (ref n) (cell_of n)) 2 (taken (second_first (ref n) (cell_of n) true (eq-eqb (cell_of n) (ref n) (st.unbound n old e))) refl (returns (get_1 p memory (ref n) (cell_of n) c d typed drawn output)));
    few = rw (walk_free S n (none_unbound n S e)) (omega arith);
  }

  free_back : (n a : ℕ) → n < sh.vars → binding_of n S ≡ None → Looks (drop 5 WALK_ACTS) a (ref n) n
  unfolding behind_label
  free_back n a old e = record {
    word = cell_of n;
    shows = subst (Shows sh (cell_of n)) (sym (walk_free S n (none_unbound n S e))) (subst (λ (x : ℕ). Shows sh x (Var n)) (sym (st.unbound n old e)) (variable n old));
    locals' = cell_of n ∷ ref n ∷ c ∷ d ∷ [];
    count = 3;
    runs = loads_back n a old (Returns (cell_of n)) (now (cell_of n) (ref n)) 2 (taken (first_second (cell_of n) (ref n) true (eq-eqb (cell_of n) (ref n) (st.unbound n old e))) refl (returns (get_1 p memory (cell_of n) (ref n) c d typed drawn output)));
    few = rw (walk_free S n (none_unbound n S e)) (omega arith);
  }

  -- ---- a bound one

  other : (n : ℕ) (u : Value) → n < sh.vars → binding_of n S ≡ Some u → (cell_of n == ref n) ≡ false
  other n u old e =
      let up = looks_up S n u st.sound e in
      let links_up = up.links in
      ne_eqb (cell_of n) (ref n) (λ (i : cell_of n ≡ ref n). (let same = reference_value is n old (st.bound n u old e) i in let l = ap (links S) same in omega arith))

  is_reference : (n m : ℕ) → n < sh.vars → binding_of n S ≡ Some (Var m) → compared comparisons.Less (cell_of n) 49152 ≡ true
  is_reference n m old e =
      let v = variable_word (st.bound n (Var m) old e) in
      let within = is.within m v.old in
      subst (λ (x : ℕ). compared comparisons.Less x 49152 ≡ true) (sym v.is) (reference (sh.place m) (omega arith))

  found : (n b : ℕ) (g : Label) (vs : Values) → n < sh.vars → binding_of n S ≡ Some (Node g vs) → Looks (drop 2 WALK_ACTS) (ref n) b n
  unfolding behind_label
  found n b g vs old e =
      let up = looks_up S n (Node g vs) st.sound e in
      let links_up = up.links in
      record {
        word = cell_of n;
        shows = rw (up.walk, walk_node S g vs) (st.bound n (Node g vs) old e);
        locals' = ref n ∷ cell_of n ∷ c ∷ d ∷ [];
        count = 4;
        runs = loads n b old (Returns (cell_of n)) (now (ref n) (cell_of n)) 3
            (passed (second_first (ref n) (cell_of n) false (other n (Node g vs) old e))
            (taken (second_less (ref n) (cell_of n) false (node_word (st.bound n (Node g vs) old e))) refl (returns (get_2 p memory (ref n) (cell_of n) c d typed drawn output))));
        few = rw (up.walk, walk_node S g vs) (omega arith);
      }

  found_back : (n a : ℕ) (g : Label) (vs : Values) → n < sh.vars → binding_of n S ≡ Some (Node g vs) → Looks (drop 5 WALK_ACTS) a (ref n) n
  unfolding behind_label
  found_back n a g vs old e =
      let up = looks_up S n (Node g vs) st.sound e in
      let links_up = up.links in
      record {
        word = cell_of n;
        shows = rw (up.walk, walk_node S g vs) (st.bound n (Node g vs) old e);
        locals' = cell_of n ∷ ref n ∷ c ∷ d ∷ [];
        count = 4;
        runs = loads_back n a old (Returns (cell_of n)) (now (cell_of n) (ref n)) 3
            (passed (first_second (cell_of n) (ref n) false (other n (Node g vs) old e))
            (passed (first_less (cell_of n) (ref n) false true (node_word (st.bound n (Node g vs) old e))) (at_label (returns (get_1 p memory (cell_of n) (ref n) c d typed drawn output)))));
        few = rw (up.walk, walk_node S g vs) (omega arith);
      }

  link : (n b m : ℕ) → n < sh.vars → binding_of n S ≡ Some (Var m) → Looks (drop 5 WALK_ACTS) (ref n) (cell_of n) m → Looks (drop 2 WALK_ACTS) (ref n) b n
  unfolding behind_label
  link n b m old e rest =
      let up = looks_up S n (Var m) st.sound e in
      let links_up = up.links in
      let few = rest.few in
      record {
        word = rest.word;
        shows = subst (Shows sh rest.word) (sym up.walk) rest.shows;
        locals' = rest.locals';
        count = suc (suc (suc rest.count));
        runs = loads n b old (Returns rest.word) (state memory rest.locals' typed drawn output) (suc (suc rest.count))
            (passed (second_first (ref n) (cell_of n) false (other n (Var m) old e)) (passed (second_less (ref n) (cell_of n) true (is_reference n m old e)) rest.runs));
        few = rw up.walk (omega arith);
      }

  link_back : (n a m : ℕ) → n < sh.vars → binding_of n S ≡ Some (Var m) → Looks (drop 2 WALK_ACTS) (cell_of n) (ref n) m → Looks (drop 5 WALK_ACTS) a (ref n) n
  unfolding behind_label
  link_back n a m old e rest =
      let up = looks_up S n (Var m) st.sound e in
      let links_up = up.links in
      let few = rest.few in
      record {
        word = rest.word;
        shows = subst (Shows sh rest.word) (sym up.walk) rest.shows;
        locals' = rest.locals';
        count = suc (suc (suc rest.count));
        runs = loads_back n a old (Returns rest.word) (state memory rest.locals' typed drawn output) (suc (suc rest.count))
            (passed (first_second (cell_of n) (ref n) false (other n (Var m) old e)) (taken (first_less (cell_of n) (ref n) true true (is_reference n m old e)) refl rest.runs));
        few = rw up.walk (omega arith);
      }

  -- ---- by turns

  abbrev First : ℕ → ℕ → Type 0
  First n b = Looks (drop 2 WALK_ACTS) (ref n) b n

  abbrev Second : ℕ → ℕ → Type 0
  Second n a = Looks (drop 5 WALK_ACTS) a (ref n) n

  by_binding : (n b : ℕ) → n < sh.vars → (found_as : Option Value) → binding_of n S ≡ found_as → ((m : ℕ) → m < sh.vars → links S (Var m) < links S (Var n) → Second m (ref n)) → Looks (drop 2 WALK_ACTS) (ref n) b n
  by_binding n b old None e next = free n b old e
  by_binding n b old (Some (Node g vs)) e next = found n b g vs old e
  by_binding n b old (Some (Var m)) e next =
      let v = variable_word (st.bound n (Var m) old e) in
      let links_up = (looks_up S n (Var m) st.sound e).links in
      link n b m old e (subst (λ (x : ℕ). Looks (drop 5 WALK_ACTS) (ref n) x m) (sym v.is) (next m v.old (omega arith)))

  by_binding_back : (n a : ℕ) → n < sh.vars → (found_as : Option Value) → binding_of n S ≡ found_as → ((m : ℕ) → m < sh.vars → links S (Var m) < links S (Var n) → First m (ref n)) → Looks (drop 5 WALK_ACTS) a (ref n) n
  by_binding_back n a old None e next = free_back n a old e
  by_binding_back n a old (Some (Node g vs)) e next = found_back n a g vs old e
  by_binding_back n a old (Some (Var m)) e next =
      let v = variable_word (st.bound n (Var m) old e) in
      let links_up = (looks_up S n (Var m) st.sound e).links in
      link_back n a m old e (subst (λ (x : ℕ). Looks (drop 2 WALK_ACTS) x (ref n) m) (sym v.is) (next m v.old (omega arith)))

  -- for every variable, by its links
  both : (k : ℕ) → ((n b : ℕ) → n < sh.vars → links S (Var n) < k → First n b) × ((n a : ℕ) → n < sh.vars → links S (Var n) < k → Second n a)
  both zero = (λ n b old lt. absurd (omega arith), λ n a old lt. absurd (omega arith))
  both (suc k) =
      let r = both k in (
        λ n b old lt. by_binding n b old (binding_of n S) refl (λ m new less. r.1 m (ref n) new (omega arith)),
        λ n a old lt. by_binding_back n a old (binding_of n S) refl (λ m new less. r.0 m (ref n) new (omega arith)),
      )

  -- Looks up what a word stands for.
  pub walk_works : (a b : ℕ) (v : Value) → Shows sh a v → Walks p f w WALK_ACTS sh S memory typed output drawn a b c d v
  unfolding behind_label
  walk_works a b (Node g vs) s = record {
    word = a;
    shows = subst (Shows sh a) (sym (walk_node S g vs)) s;
    locals' = a ∷ b ∷ c ∷ d ∷ [];
    count = 2;
    runs = taken (first_less a b false false (node_word s)) refl (returns (get_1 p memory a b c d typed drawn output));
    few = rw (walk_node S g vs) (omega arith);
  }
  walk_works a b (Var n) s =
      let v = variable_word s in
      let within = is.within n v.old in
      let r = (both (suc (links S (Var n)))).0 n b v.old (omega arith) in
      let few = r.few in
      subst (λ (x : ℕ). Walks p f w WALK_ACTS sh S memory typed output drawn x b c d (Var n)) (sym v.is)
      (record {
        word = r.word;
        shows = r.shows;
        locals' = r.locals';
        count = suc r.count;
        runs = passed (first_less (ref n) b true false (reference (sh.place n) (omega arith))) (at_label r.runs);
        few = omega arith;
      })
