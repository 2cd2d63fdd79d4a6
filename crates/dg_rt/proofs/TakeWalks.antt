-- The argument is looked up by the routine that unifies it with a term of which each variable is new.
use Rattle.std.proofs.Common.{◌≡◌, ℕ, zero, suc, ◌+◌, ◌*◌, ◌<◌, ◌≤◌, true, false, List, [], ◌∷◌, drop, Option, Some, None, refl, sym, ap, ◌∙◌, subst, arith}
use Rattle.std.proofs.lemmas.Bool.{eq-eqb, ne_eqb}
use Rattle.z_lang.specs.declared.act.Act.{Act}
use Rattle.z_lang.specs.State.{State}
use Rattle.z_lang.specs.Runs.{ActsRun as Runs, ActsOutcome as Outcome, at_label, taken, passed, done, behind_label}
use Rattle.dg_meaning.specs.Values.{Label, Value, Var, Node, Values}
use Rattle.dg_meaning.specs.Substitutions.{Substitution, walk, links}
use Rattle.dg_meaning.specs.inside.Unifiers.{binding_of}
use Rattle.dg_meaning.proofs.LookUps.{looks_up, walk_node, walk_free, none_unbound}
use Rattle.dg_rt.specs.declared.heads.TheConstants.{TAKE_ACTS}
use Rattle.dg_rt.specs.Cells.{at_cell}
use Rattle.dg_rt.specs.Areas.{heap_at}
use Rattle.dg_rt.specs.Shapes.{Shape, Shows, variable}
use Rattle.dg_rt.specs.Moments.{Setting, Moment, in_state}
use Rattle.dg_rt.specs.inside.Walks.{steps}
use Rattle.dg_rt.proofs.Locals.{reference}
use Rattle.dg_rt.proofs.Cells.{reads_cell}
use Rattle.dg_rt.proofs.Showing.{variable_word, node_word, reference_value}
use Rattle.dg_rt.proofs.TakeSteps.{first_less, third_first, read_3, third_copied}

module _ (g : Setting) (f : ℕ) (S : Substitution) (m : Moment g S) (y d : ℕ) where
  abbrev now : ℕ → ℕ → State
  now x c = in_state g m.memory (x ∷ y ∷ c ∷ d ∷ [])

  abbrev Run : List Act → State → Outcome → State → ℕ → Type 0
  Run acts s o s' n = Runs g.p f (5 * f) TAKE_ACTS acts s o s' n

  abbrev ref : ℕ → ℕ
  ref n = 32768 + g.sh.place n

  abbrev cell_of : ℕ → ℕ
  cell_of n = m.cells (heap_at + g.sh.place n)

  -- where it goes on: a variable was found, or another value
  abbrev pub behind_walk : Value → List Act
  behind_walk (Var n) = drop 22 TAKE_ACTS
  behind_walk (Node h vs) = drop 9 TAKE_ACTS

  -- A value was looked up, within 4 instructions a link and so many more.
  pub record Looked (acts : List Act) (x c : ℕ) (v : Value) (more : ℕ) : Type 0 where
    pub word : ℕ
    pub shows : Shows g.sh word (walk S v)
    pub third : ℕ
    pub count : ℕ
    pub few : count ≤ 4 * links S v + more
    pub runs : (o : Outcome) (s' : State) (n : ℕ) → Run (behind_walk (walk S v)) (now word third) o s' n → Run acts (now x c) o s' (steps count n)

  -- the cell of a variable is read
  loads : (n c : ℕ) → n < g.sh.vars → (o : Outcome) (s' : State) (k : ℕ) → Run (drop 5 TAKE_ACTS) (now (ref n) (cell_of n)) o s' k → Run (drop 4 TAKE_ACTS) (now (ref n) c) o s' (suc k)
  loads n c old o s' k rest =
      let room = g.has.mapped.room in
      let within = g.is.within n old in
      done (read_3 g m.memory (ref n) y c d 670 (cell_of n) (reads_cell g.p.world.layout m.memory m.cells (at_cell heap_at) (ref n) (heap_at + g.sh.place n) m.at.holds (omega arith) (omega arith))) rest

  free : (n c : ℕ) → n < g.sh.vars → binding_of n S ≡ None → Looked (drop 4 TAKE_ACTS) (ref n) c (Var n) 2
  unfolding behind_label
  free n c old e =
      let is = walk_free S n (none_unbound n S e) in
      record {
        word = ref n;
        shows = subst (Shows g.sh (ref n)) (sym is) (variable n old);
        third = cell_of n;
        count = 2;
        few = omega arith;
        runs = λ o s' k r. loads n c old o s' (suc k) (taken (third_first g m.memory (ref n) y (cell_of n) d true (eq-eqb (cell_of n) (ref n) (m.at.stands.unbound n old e))) refl (rw is at r));
      }

  -- up to the test of what a variable is bound to
  link : (n c : ℕ) (u : Value) → n < g.sh.vars → binding_of n S ≡ Some u → links S u < links S (Var n) → (o : Outcome) (s' : State) (k : ℕ) → Run (drop 7 TAKE_ACTS) (now (cell_of n) (cell_of n)) o s' k → Run (drop 4 TAKE_ACTS) (now (ref n) c) o s' (suc (suc (suc k)))
  link n c u old e less o s' k r =
      let other : cell_of n ≡ ref n → ⊥ = λ i. (let same = reference_value g.is n old (m.at.stands.bound n u old e) i in let l = ap (links S) same in omega arith) in
      loads n c old o s' (suc (suc k)) (passed (third_first g m.memory (ref n) y (cell_of n) d false (ne_eqb (cell_of n) (ref n) other)) (done (third_copied g m.memory (ref n) y (cell_of n) d) r))

  to_node : (n c : ℕ) (h : Label) (vs : Values) → n < g.sh.vars → binding_of n S ≡ Some (Node h vs) → Looked (drop 4 TAKE_ACTS) (ref n) c (Var n) 2
  unfolding behind_label
  to_node n c h vs old e =
      let up = looks_up S n (Node h vs) m.at.stands.sound e in
      let longer = up.links in
      let is : walk S (Var n) ≡ Node h vs = up.walk ∙ walk_node S h vs in
      let s = m.at.stands.bound n (Node h vs) old e in
      record {
        word = cell_of n;
        shows = subst (Shows g.sh (cell_of n)) (sym is) s;
        third = cell_of n;
        count = 4;
        few = omega arith;
        runs = λ o s' k r. link n c (Node h vs) old e (omega arith) o s' (suc k) (passed (first_less g m.memory (cell_of n) y (cell_of n) d 49152 false true (node_word s)) (at_label (rw is at r)));
      }

  to_variable : (n i c : ℕ) → n < g.sh.vars → binding_of n S ≡ Some (Var i) → Looked (drop 4 TAKE_ACTS) (cell_of n) (cell_of n) (Var i) 2 → Looked (drop 4 TAKE_ACTS) (ref n) c (Var n) 2
  unfolding behind_label
  to_variable n i c old e rest =
      let up = looks_up S n (Var i) m.at.stands.sound e in
      let longer = up.links in
      let few = rest.few in
      let v = variable_word (m.at.stands.bound n (Var i) old e) in
      let older = v.old in
      let within = g.is.within i older in
      record {
        word = rest.word;
        shows = subst (Shows g.sh rest.word) (sym up.walk) rest.shows;
        third = rest.third;
        count = suc (suc (suc (suc rest.count)));
        few = omega arith;
        runs = λ o s' k r.
            link n c (Var i) old e (omega arith) o s' (suc (steps rest.count k))
            (taken (first_less g m.memory (cell_of n) y (cell_of n) d 49152 true true (rw v.is (reference (g.sh.place i) (omega arith)))) refl
            (rest.runs o s' k (subst (λ (w : Value). Run (behind_walk w) (now rest.word rest.third) o s' k) up.walk r)));
      }

  by_binding : (n c : ℕ) → n < g.sh.vars → (found : Option Value) → binding_of n S ≡ found → ((i : ℕ) → binding_of n S ≡ Some (Var i) → Looked (drop 4 TAKE_ACTS) (cell_of n) (cell_of n) (Var i) 2) → Looked (drop 4 TAKE_ACTS) (ref n) c (Var n) 2
  by_binding n c old None e next = free n c old e
  by_binding n c old (Some (Node h vs)) e next = to_node n c h vs old e
  by_binding n c old (Some (Var i)) e next = to_variable n i c old e (next i e)

  -- a variable, by its links
  walks : (k n x c : ℕ) → Shows g.sh x (Var n) → links S (Var n) < k → Looked (drop 4 TAKE_ACTS) x c (Var n) 2
  walks zero n x c s lt = absurd (omega arith)
  walks (suc k) n x c s lt =
      let v = variable_word s in
      subst (λ (z : ℕ). Looked (drop 4 TAKE_ACTS) z c (Var n) 2) (sym v.is)
      (by_binding n c v.old (binding_of n S) refl (λ i e. let less = (looks_up S n (Var i) m.at.stands.sound e).links in walks k i (cell_of n) (cell_of n) (m.at.stands.bound n (Var i) v.old e) (omega arith)))

  -- any value
  pub looked_up : (x c : ℕ) (v : Value) → Shows g.sh x v → Looked (drop 2 TAKE_ACTS) x c v 3
  unfolding behind_label
  looked_up x c (Node h vs) s =
      let is = walk_node S h vs in
      record {
        word = x;
        shows = subst (Shows g.sh x) (sym is) s;
        third = c;
        count = 1;
        few = omega arith;
        runs = λ o s' k r. taken (first_less g m.memory x y c d 49152 false false (node_word s)) refl (rw is at r);
      }
  looked_up x c (Var n) s =
      let v = variable_word s in
      let old = v.old in
      let within = g.is.within n old in
      let w = walks (suc (links S (Var n))) n x c s (omega arith) in
      let few = w.few in
      record {
        word = w.word;
        shows = w.shows;
        third = w.third;
        count = suc w.count;
        few = omega arith;
        runs = λ o s' k r. passed (first_less g m.memory x y c d 49152 true false (rw v.is (reference (g.sh.place n) (omega arith)))) (at_label (w.runs o s' k r));
      }
