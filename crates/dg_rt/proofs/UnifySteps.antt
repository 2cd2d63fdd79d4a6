-- Ends, tests and acts of the routine that unifies.
use Rattle.std.proofs.Common.{◌≡◌, ℕ, zero, suc, ◌+◌, ◌%◌, ◌≤◌, Bool, true, false, List, [], ◌∷◌, Some, refl, ap, ◌∙◌, arith, ◌*◌, ◌<◌, drop, Option, None, sym, subst}
use Rattle.std.specs.Prelude.{◌==◌}
use Rattle.z_lang.specs.State.{State}
use Rattle.z_lang.specs.Acts.{answer_of, computed, does}
use Rattle.z_lang.specs.Runs.{ActsOutcome as Outcome, ActsRun as Runs, at_label, goes, taken, passed, done, behind_label}
use Rattle.dg_meaning.specs.Substitutions.{Substitution, walk, links}
use Rattle.dg_meaning.specs.Unify.{Unified, counted}
use Rattle.dg_rt.specs.Cells.{compared, at_cell}
use Rattle.dg_rt.specs.Areas.{heap_at}
use Rattle.dg_rt.specs.Shapes.{Cell, Shows, variable}
use Rattle.dg_rt.specs.Closings.{closing_most}
use Rattle.dg_rt.specs.Moments.{Setting, Moment, in_state}
use Rattle.dg_rt.specs.Unifies.{Ends, answers, is_full}
use Rattle.dg_rt.specs.inside.Walks.{steps}
use Rattle.dg_rt.proofs.Following.{word, some_state, tested, computes, copies}
use Rattle.dg_rt.proofs.Locals.{first, second, third, fourth, fifth, put_first, put_second, put_third, put_fourth, put_fifth, added, reference}
use Rattle.dg_rt.proofs.Cells.{reads_cell}
use Rattle.std.proofs.lemmas.Bool.{eq-eqb, ne_eqb}
use Rattle.z_lang.specs.declared.act.Act.{Act}
use Rattle.dg_meaning.specs.Values.{Label, Value, Var, Node, Values}
use Rattle.dg_meaning.specs.inside.Unifiers.{binding_of}
use Rattle.dg_meaning.proofs.LookUps.{looks_up, walk_node, walk_free, none_unbound}
use Rattle.dg_rt.specs.declared.unify.TheConstants.{UNIFY_ACTS}
use Rattle.dg_rt.proofs.Showing.{variable_word, node_word, reference_value}
use Rattle.z_lang.specs.declared.act.Atom.TheVariants as atoms
use Rattle.z_lang.specs.declared.act.Function.TheVariants as functions
use Rattle.z_lang.specs.declared.act.Comparison.TheVariants as comparisons
use Rattle.z_lang.specs.declared.act.Act.TheVariants as acts

pub steps_are : (k m : ℕ) → steps k m ≡ k + m
steps_are zero m = omega arith
steps_are (suc k) m = let r = steps_are k m in omega arith

-- ---- ends

-- what an end leads to, in as many instructions as h says
pub ends_map : {g : Setting} {u : Unified} {spent spent' most : ℕ} {leads leads' : ℕ → Outcome → State → Type 0} (h : ℕ → ℕ) → ((n : ℕ) → h n + spent ≤ n + spent') →
    ((n : ℕ) (o : Outcome) (s : State) → leads n o s → leads' (h n) o s) → Ends g u spent' most leads → Ends g u spent most leads'
ends_map h le way (answers n m locals few r) = answers (h n) m locals (let l = le n in omega arith) (way n _ _ r)
ends_map h le way (is_full n memory locals over few r) = is_full (h n) memory locals over (let l = le n in omega arith) (way n _ _ r)

-- the same within another bound
pub ends_into : {g : Setting} {u : Unified} {spent spent' most most' : ℕ} {leads leads' : ℕ → Outcome → State → Type 0} (h : ℕ → ℕ) →
    ((n e : ℕ) → n + spent' ≤ most' + e → h n + spent ≤ most + e) → ((n : ℕ) (o : Outcome) (s : State) → leads n o s → leads' (h n) o s) → Ends g u spent' most' leads → Ends g u spent most leads'
ends_into h le way (answers n m locals few r) = answers (h n) m locals (let l = le n 0 (omega arith) in omega arith) (way n _ _ r)
ends_into h le way (is_full n memory locals over few r) = is_full (h n) memory locals over (le n closing_most few) (way n _ _ r)

pub ends_counted : {g : Setting} {u : Unified} {spent most : ℕ} {leads : ℕ → Outcome → State → Type 0} (c : ℕ) → Ends g u spent most leads → Ends g (counted c u) spent most leads
ends_counted c (answers n m locals few r) = answers n m locals few r
ends_counted c (is_full n memory locals over few r) = is_full n memory locals over few r

-- ---- tests and acts

module _ (g : Setting) (memory : List ℕ) (u w x y z : ℕ) where
  abbrev pub now : State
  now = in_state g memory (u ∷ w ∷ x ∷ y ∷ z ∷ [])

  pub first_less : (k : ℕ) (t answer : Bool) → compared comparisons.Less u k ≡ t → answer_of g.p now (record { comparison = comparisons.Less; first = atoms.Var 1; second = atoms.Num k; answer = answer }) ≡ Some t
  first_less k t answer e = tested g.p now comparisons.Less (atoms.Var 1) (atoms.Num k) answer u k t (first g.p memory u w x y z g.typed g.drawn g.output) refl e

  pub second_less : (k : ℕ) (t answer : Bool) → compared comparisons.Less w k ≡ t → answer_of g.p now (record { comparison = comparisons.Less; first = atoms.Var 2; second = atoms.Num k; answer = answer }) ≡ Some t
  second_less k t answer e = tested g.p now comparisons.Less (atoms.Var 2) (atoms.Num k) answer w k t (second g.p memory u w x y z g.typed g.drawn g.output) refl e

  pub third_less : (t answer : Bool) → compared comparisons.Less x 0 ≡ t → answer_of g.p now (record { comparison = comparisons.Less; first = atoms.Var 3; second = atoms.Num 0; answer = answer }) ≡ Some t
  third_less t answer e = tested g.p now comparisons.Less (atoms.Var 3) (atoms.Num 0) answer x 0 t (third g.p memory u w x y z g.typed g.drawn g.output) refl e

  pub first_below : (t : Bool) → compared comparisons.Less u w ≡ t → answer_of g.p now (record { comparison = comparisons.Less; first = atoms.Var 1; second = atoms.Var 2; answer = true }) ≡ Some t
  first_below t e = tested g.p now comparisons.Less (atoms.Var 1) (atoms.Var 2) true u w t (first g.p memory u w x y z g.typed g.drawn g.output) (second g.p memory u w x y z g.typed g.drawn g.output) e

  pub same_words_test : (t : Bool) → (u == w) ≡ t → answer_of g.p now (record { comparison = comparisons.Equal; first = atoms.Var 1; second = atoms.Var 2; answer = true }) ≡ Some t
  same_words_test t e = tested g.p now comparisons.Equal (atoms.Var 1) (atoms.Var 2) true u w t (first g.p memory u w x y z g.typed g.drawn g.output) (second g.p memory u w x y z g.typed g.drawn g.output) e

  pub third_zero : (t answer : Bool) → (x == 0) ≡ t → answer_of g.p now (record { comparison = comparisons.Equal; first = atoms.Var 3; second = atoms.Num 0; answer = answer }) ≡ Some t
  third_zero t answer e = tested g.p now comparisons.Equal (atoms.Var 3) (atoms.Num 0) answer x 0 t (third g.p memory u w x y z g.typed g.drawn g.output) refl e

  pub same_fields : (t : Bool) → (x == y) ≡ t → answer_of g.p now (record { comparison = comparisons.Equal; first = atoms.Var 3; second = atoms.Var 4; answer = false }) ≡ Some t
  same_fields t e = tested g.p now comparisons.Equal (atoms.Var 3) (atoms.Var 4) false x y t (third g.p memory u w x y z g.typed g.drawn g.output) (fourth g.p memory u w x y z g.typed g.drawn g.output) e

  pub third_first : (t : Bool) → (x == u) ≡ t → answer_of g.p now (record { comparison = comparisons.Equal; first = atoms.Var 3; second = atoms.Var 1; answer = true }) ≡ Some t
  third_first t e = tested g.p now comparisons.Equal (atoms.Var 3) (atoms.Var 1) true x u t (third g.p memory u w x y z g.typed g.drawn g.output) (first g.p memory u w x y z g.typed g.drawn g.output) e

  pub third_second : (t : Bool) → (x == w) ≡ t → answer_of g.p now (record { comparison = comparisons.Equal; first = atoms.Var 3; second = atoms.Var 2; answer = true }) ≡ Some t
  third_second t e = tested g.p now comparisons.Equal (atoms.Var 3) (atoms.Var 2) true x w t (third g.p memory u w x y z g.typed g.drawn g.output) (second g.p memory u w x y z g.typed g.drawn g.output) e

  pub third_fourth : (t : Bool) → (x == y) ≡ t → answer_of g.p now (record { comparison = comparisons.Equal; first = atoms.Var 3; second = atoms.Var 4; answer = true }) ≡ Some t
  third_fourth t e = tested g.p now comparisons.Equal (atoms.Var 3) (atoms.Var 4) true x y t (third g.p memory u w x y z g.typed g.drawn g.output) (fourth g.p memory u w x y z g.typed g.drawn g.output) e

  pub at_end : (t : Bool) → (u == z) ≡ t → answer_of g.p now (record { comparison = comparisons.Equal; first = atoms.Var 1; second = atoms.Var 5; answer = false }) ≡ Some t
  at_end t e = tested g.p now comparisons.Equal (atoms.Var 1) (atoms.Var 5) false u z t (first g.p memory u w x y z g.typed g.drawn g.output) (fifth g.p memory u w x y z g.typed g.drawn g.output) e

  abbrev pub Gets : ℕ → ℕ → ℕ → Type 0
  Gets at box r = computed g.p.world.layout memory functions.Word at box ≡ word r

  pub read_1 : (at r : ℕ) → Gets at u r → does g.p (acts.Compute 1 functions.Word (atoms.Num at) (atoms.Var 1)) now ≡ some_state (in_state g memory (r ∷ w ∷ x ∷ y ∷ z ∷ []))
  read_1 at r e = computes g.p now (in_state g memory (r ∷ w ∷ x ∷ y ∷ z ∷ [])) 1 functions.Word (atoms.Num at) (atoms.Var 1) at u r refl (first g.p memory u w x y z g.typed g.drawn g.output) e (put_first g.p memory u w x y z r g.typed g.drawn g.output)

  pub read_2 : (at r : ℕ) → Gets at w r → does g.p (acts.Compute 2 functions.Word (atoms.Num at) (atoms.Var 2)) now ≡ some_state (in_state g memory (u ∷ r ∷ x ∷ y ∷ z ∷ []))
  read_2 at r e = computes g.p now (in_state g memory (u ∷ r ∷ x ∷ y ∷ z ∷ [])) 2 functions.Word (atoms.Num at) (atoms.Var 2) at w r refl (second g.p memory u w x y z g.typed g.drawn g.output) e (put_second g.p memory u w x y z r g.typed g.drawn g.output)

  pub read_3 : (at r : ℕ) → Gets at u r → does g.p (acts.Compute 3 functions.Word (atoms.Num at) (atoms.Var 1)) now ≡ some_state (in_state g memory (u ∷ w ∷ r ∷ y ∷ z ∷ []))
  read_3 at r e = computes g.p now (in_state g memory (u ∷ w ∷ r ∷ y ∷ z ∷ [])) 3 functions.Word (atoms.Num at) (atoms.Var 1) at u r refl (first g.p memory u w x y z g.typed g.drawn g.output) e (put_third g.p memory u w x y z r g.typed g.drawn g.output)

  pub read_4 : (at r : ℕ) → Gets at w r → does g.p (acts.Compute 4 functions.Word (atoms.Num at) (atoms.Var 2)) now ≡ some_state (in_state g memory (u ∷ w ∷ x ∷ r ∷ z ∷ []))
  read_4 at r e = computes g.p now (in_state g memory (u ∷ w ∷ x ∷ r ∷ z ∷ [])) 4 functions.Word (atoms.Num at) (atoms.Var 2) at w r refl (second g.p memory u w x y z g.typed g.drawn g.output) e (put_fourth g.p memory u w x y z r g.typed g.drawn g.output)

  pub read_back : (at r : ℕ) → Gets at w r → does g.p (acts.Compute 3 functions.Word (atoms.Num at) (atoms.Var 2)) now ≡ some_state (in_state g memory (u ∷ w ∷ r ∷ y ∷ z ∷ []))
  read_back at r e = computes g.p now (in_state g memory (u ∷ w ∷ r ∷ y ∷ z ∷ [])) 3 functions.Word (atoms.Num at) (atoms.Var 2) at w r refl (second g.p memory u w x y z g.typed g.drawn g.output) e (put_third g.p memory u w x y z r g.typed g.drawn g.output)

  pub copy_1 : does g.p (acts.Copy 1 (atoms.Var 3)) now ≡ some_state (in_state g memory (x ∷ w ∷ x ∷ y ∷ z ∷ []))
  copy_1 = copies g.p now (in_state g memory (x ∷ w ∷ x ∷ y ∷ z ∷ [])) 1 (atoms.Var 3) x (third g.p memory u w x y z g.typed g.drawn g.output) (put_first g.p memory u w x y z x g.typed g.drawn g.output)

  pub copy_2 : does g.p (acts.Copy 2 (atoms.Var 3)) now ≡ some_state (in_state g memory (u ∷ x ∷ x ∷ y ∷ z ∷ []))
  copy_2 = copies g.p now (in_state g memory (u ∷ x ∷ x ∷ y ∷ z ∷ [])) 2 (atoms.Var 3) x (third g.p memory u w x y z g.typed g.drawn g.output) (put_second g.p memory u w x y z x g.typed g.drawn g.output)

  pub next_1 : (r : ℕ) → (u + 1) % 65536 ≡ r → does g.p (acts.Compute 1 functions.Add (atoms.Var 1) (atoms.Num 1)) now ≡ some_state (in_state g memory (r ∷ w ∷ x ∷ y ∷ z ∷ []))
  next_1 r e = computes g.p now (in_state g memory (r ∷ w ∷ x ∷ y ∷ z ∷ [])) 1 functions.Add (atoms.Var 1) (atoms.Num 1) u 1 r (first g.p memory u w x y z g.typed g.drawn g.output) refl (added g.p memory u 1 r e) (put_first g.p memory u w x y z r g.typed g.drawn g.output)

  pub next_2 : (r : ℕ) → (w + 1) % 65536 ≡ r → does g.p (acts.Compute 2 functions.Add (atoms.Var 2) (atoms.Num 1)) now ≡ some_state (in_state g memory (u ∷ r ∷ x ∷ y ∷ z ∷ []))
  next_2 r e = computes g.p now (in_state g memory (u ∷ r ∷ x ∷ y ∷ z ∷ [])) 2 functions.Add (atoms.Var 2) (atoms.Num 1) w 1 r (second g.p memory u w x y z g.typed g.drawn g.output) refl (added g.p memory w 1 r e) (put_second g.p memory u w x y z r g.typed g.drawn g.output)

  pub end_5 : (r : ℕ) → (u + x) % 65536 ≡ r → does g.p (acts.Compute 5 functions.Add (atoms.Var 1) (atoms.Var 3)) now ≡ some_state (in_state g memory (u ∷ w ∷ x ∷ y ∷ r ∷ []))
  end_5 r e = computes g.p now (in_state g memory (u ∷ w ∷ x ∷ y ∷ r ∷ [])) 5 functions.Add (atoms.Var 1) (atoms.Var 3) u x r (first g.p memory u w x y z g.typed g.drawn g.output) (third g.p memory u w x y z g.typed g.drawn g.output) (added g.p memory u x r e) (put_fifth g.p memory u w x y z r g.typed g.drawn g.output)

  pub half_5 : (r : ℕ) → (z + 32768) % 65536 ≡ r → does g.p (acts.Compute 5 functions.Add (atoms.Var 5) (atoms.Num 32768)) now ≡ some_state (in_state g memory (u ∷ w ∷ x ∷ y ∷ r ∷ []))
  half_5 r e = computes g.p now (in_state g memory (u ∷ w ∷ x ∷ y ∷ r ∷ [])) 5 functions.Add (atoms.Var 5) (atoms.Num 32768) z 32768 r (fifth g.p memory u w x y z g.typed g.drawn g.output) refl (added g.p memory z 32768 r e) (put_fifth g.p memory u w x y z r g.typed g.drawn g.output)

-- a field of a box
pub field : (g : Setting) (S : Substitution) (m : Moment g S) (at i k j x : ℕ) → Cell g.sh j x → j ≡ k + i → i ≤ 3 → at ≡ at_cell (heap_at + i) + 32768 → Gets g m.memory (49152 + k) 0 0 0 0 at (49152 + k) x
field g S m at i k j x c e le is_at =
    let room = g.has.mapped.room in
    let top = g.is.room in
    let low = c.fixed.0 in
    reads_cell g.p.world.layout m.memory m.cells at (49152 + k) (heap_at + j) m.at.holds (omega arith) (omega arith) ∙ ap word (m.at.stands.fixed j (omega arith) c.fixed ∙ c.is)

-- ---- looking a local up

-- Acts lead to where it goes on with a walked value, its word in the local that is looked up, within 5 instructions a link and 3.
pub record Walked (g : Setting) (f : ℕ) (S : Substitution) (at : ℕ → ℕ → State) (acts : List Act) (to : Value → List Act) (u t : ℕ) (v : Value) : Type 0 where
  pub word : ℕ
  pub third : ℕ
  pub count : ℕ
  pub shows : Shows g.sh word (walk S v)
  pub runs : (o : Outcome) (s' : State) (n : ℕ) → Runs g.p f (5 * f) UNIFY_ACTS (to (walk S v)) (at word third) o s' n → Runs g.p f (5 * f) UNIFY_ACTS acts (at u t) o s' (steps count n)
  pub few : count ≤ 5 * links S v + 3

-- The cell of the variable in a word holds another word.
abbrev CellHolds : Setting → List ℕ → ℕ → ℕ → Type 0
CellHolds g memory u x = computed g.p.world.layout memory functions.Word 670 u ≡ word x

module _ (g : Setting) (f : ℕ) (S : Substitution) (m : Moment g S) (at : ℕ → ℕ → State) (acts : List Act) (to : Value → List Act)
    (at_node : (u t : ℕ) (h : Label) (vs : Values) → compared comparisons.Less u 49152 ≡ false → (o : Outcome) (s' : State) (n : ℕ) → Runs g.p f (5 * f) UNIFY_ACTS (to (Node h vs)) (at u t) o s' n → Runs g.p f (5 * f) UNIFY_ACTS acts (at u t) o s' (suc n))
    (at_free : (u t x i : ℕ) → compared comparisons.Less u 49152 ≡ true → CellHolds g m.memory u x → (x == u) ≡ true → (o : Outcome) (s' : State) (n : ℕ) → Runs g.p f (5 * f) UNIFY_ACTS (to (Var i)) (at u x) o s' n → Runs g.p f (5 * f) UNIFY_ACTS acts (at u t) o s' (suc (suc (suc n))))
    (at_bound : (u t x : ℕ) → compared comparisons.Less u 49152 ≡ true → CellHolds g m.memory u x → (x == u) ≡ false → (o : Outcome) (s' : State) (n : ℕ) → Runs g.p f (5 * f) UNIFY_ACTS acts (at x x) o s' n → Runs g.p f (5 * f) UNIFY_ACTS acts (at u t) o s' (suc (suc (suc (suc (suc n)))))) where
  abbrev cell_of : ℕ → ℕ
  cell_of n = m.cells (heap_at + g.sh.place n)

  abbrev ref_of : ℕ → ℕ
  ref_of n = 32768 + g.sh.place n

  abbrev Leads : ℕ → ℕ → Value → Type 0
  Leads u t v = Walked g f S at acts to u t v

  is_reference : (n : ℕ) → n < g.sh.vars → compared comparisons.Less (ref_of n) 49152 ≡ true
  is_reference n old = let within = g.is.within n old in reference (g.sh.place n) (omega arith)

  holds : (n : ℕ) → n < g.sh.vars → CellHolds g m.memory (ref_of n) (cell_of n)
  holds n old =
      let room = g.has.mapped.room in
      let within = g.is.within n old in
      reads_cell g.p.world.layout m.memory m.cells (at_cell heap_at) (ref_of n) (heap_at + g.sh.place n) m.at.holds (omega arith) (omega arith)

  node : (u t : ℕ) (h : Label) (vs : Values) → Shows g.sh u (Node h vs) → Leads u t (Node h vs)
  node u t h vs s = record {
    word = u;
    third = t;
    count = 1;
    shows = subst (Shows g.sh u) (sym (walk_node S h vs)) s;
    runs = λ o s' n r. at_node u t h vs (node_word s) o s' n (subst (λ (v : Value). Runs g.p f (5 * f) UNIFY_ACTS (to v) (at u t) o s' n) (walk_node S h vs) r);
    few = omega arith;
  }

  free : (n t : ℕ) → n < g.sh.vars → binding_of n S ≡ None → Leads (ref_of n) t (Var n)
  free n t old e =
      let is = walk_free S n (none_unbound n S e) in
      record {
        word = ref_of n;
        third = cell_of n;
        count = 3;
        shows = subst (Shows g.sh (ref_of n)) (sym is) (variable n old);
        runs = λ o s' i r. at_free (ref_of n) t (cell_of n) n (is_reference n old) (holds n old) (eq-eqb (cell_of n) (ref_of n) (m.at.stands.unbound n old e)) o s' i (subst (λ (v : Value). Runs g.p f (5 * f) UNIFY_ACTS (to v) (at (ref_of n) (cell_of n)) o s' i) is r);
        few = omega arith;
      }

  link : (n t : ℕ) (u : Value) → n < g.sh.vars → binding_of n S ≡ Some u → Leads (cell_of n) (cell_of n) u → Leads (ref_of n) t (Var n)
  link n t u old e rest =
      let up = looks_up S n u m.at.stands.sound e in
      let links_up = up.links in
      let few = rest.few in
      let other : cell_of n ≡ ref_of n → ⊥ = λ i. (let same = reference_value g.is n old (m.at.stands.bound n u old e) i in let l = ap (links S) same in omega arith) in
      record {
        word = rest.word;
        third = rest.third;
        count = suc (suc (suc (suc (suc rest.count))));
        shows = subst (Shows g.sh rest.word) (sym up.walk) rest.shows;
        runs = λ o s' i r. at_bound (ref_of n) t (cell_of n) (is_reference n old) (holds n old) (ne_eqb (cell_of n) (ref_of n) other) o s' (steps rest.count i) (rest.runs o s' i (subst (λ (v : Value). Runs g.p f (5 * f) UNIFY_ACTS (to v) (at rest.word rest.third) o s' i) up.walk r));
        few = omega arith;
      }

  by_binding : (n t : ℕ) → n < g.sh.vars → (found : Option Value) → binding_of n S ≡ found → ((u : Value) → Shows g.sh (cell_of n) u → links S u < links S (Var n) → Leads (cell_of n) (cell_of n) u) → Leads (ref_of n) t (Var n)
  by_binding n t old None e next = free n t old e
  by_binding n t old (Some u) e next = let up = (looks_up S n u m.at.stands.sound e).links in link n t u old e (next u (m.at.stands.bound n u old e) (omega arith))

  -- for every value, by its links
  walks : (k u t : ℕ) (v : Value) → Shows g.sh u v → links S v < k → Leads u t v
  walks zero u t v s lt = absurd (omega arith)
  walks (suc k) u t (Node h vs) s lt = node u t h vs s
  walks (suc k) u t (Var n) s lt =
      let v = variable_word s in
      subst (λ (x : ℕ). Leads x t (Var n)) (sym v.is) (by_binding n t v.old (binding_of n S) refl (λ u su less. walks k (cell_of n) (cell_of n) u su (omega arith)))

  local_looked : (u t : ℕ) (v : Value) → Shows g.sh u v → Leads u t v
  local_looked u t v s = walks (suc (links S v)) u t v s (omega arith)

-- behind the walk of the first local
abbrev pub behind_first : Value → List Act
behind_first (Var n) = drop 27 UNIFY_ACTS
behind_first (Node h vs) = drop 3 UNIFY_ACTS

-- behind both walks
abbrev pub behind_both : Value → Value → List Act
behind_both (Var n) (Var i) = drop 60 UNIFY_ACTS
behind_both (Var n) (Node h vs) = drop 33 UNIFY_ACTS
behind_both (Node h vs) (Var i) = drop 49 UNIFY_ACTS
behind_both (Node h vs) (Node k us) = drop 5 UNIFY_ACTS

module _ (g : Setting) (f : ℕ) (S : Substitution) (m : Moment g S) where
  abbrev pub FirstLooked : ℕ → ℕ → ℕ → ℕ → ℕ → Value → Type 0
  FirstLooked u w t y z v = Walked g f S (λ (i j : ℕ). in_state g m.memory (i ∷ w ∷ j ∷ y ∷ z ∷ [])) (drop 1 UNIFY_ACTS) behind_first u t v

  abbrev pub SecondLooked : Value → ℕ → ℕ → ℕ → ℕ → ℕ → Value → Type 0
  SecondLooked a u w t y z v = Walked g f S (λ (i j : ℕ). in_state g m.memory (u ∷ i ∷ j ∷ y ∷ z ∷ [])) (behind_first a) (behind_both a) w t v

  pub first_looked : (u w t y z : ℕ) (v : Value) → Shows g.sh u v → FirstLooked u w t y z v
  unfolding behind_label
  first_looked u w t y z v s =
      local_looked g f S m (λ (i j : ℕ). in_state g m.memory (i ∷ w ∷ j ∷ y ∷ z ∷ [])) (drop 1 UNIFY_ACTS) behind_first
      (λ i j h vs e o s' n r. passed (first_less g m.memory i w j y z 49152 false true e) (at_label r))
      (λ i j x k e c q o s' n r. taken (first_less g m.memory i w j y z 49152 true true e) refl (done (read_3 g m.memory i w j y z 670 x c) (taken (third_first g m.memory i w x y z true q) refl r)))
      (λ i j x e c q o s' n r. taken (first_less g m.memory i w j y z 49152 true true e) refl (done (read_3 g m.memory i w j y z 670 x c) (passed (third_first g m.memory i w x y z false q) (done (copy_1 g m.memory i w x y z) (goes refl r)))))
      u t v s

  pub second_looked : (a : Value) (u w t y z : ℕ) (v : Value) → Shows g.sh w v → SecondLooked a u w t y z v
  unfolding behind_label
  second_looked (Node l us) u w t y z v s =
      local_looked g f S m (λ (i j : ℕ). in_state g m.memory (u ∷ i ∷ j ∷ y ∷ z ∷ [])) (drop 3 UNIFY_ACTS) (behind_both (Node l us))
      (λ i j h vs e o s' n r. passed (second_less g m.memory u i j y z 49152 false true e) (at_label r))
      (λ i j x k e c q o s' n r. taken (second_less g m.memory u i j y z 49152 true true e) refl (done (read_back g m.memory u i j y z 670 x c) (taken (third_second g m.memory u i x y z true q) refl r)))
      (λ i j x e c q o s' n r. taken (second_less g m.memory u i j y z 49152 true true e) refl (done (read_back g m.memory u i j y z 670 x c) (passed (third_second g m.memory u i x y z false q) (done (copy_2 g m.memory u i x y z) (goes refl r)))))
      w t v s
  second_looked (Var l) u w t y z v s =
      local_looked g f S m (λ (i j : ℕ). in_state g m.memory (u ∷ i ∷ j ∷ y ∷ z ∷ [])) (drop 27 UNIFY_ACTS) (behind_both (Var l))
      (λ i j h vs e o s' n r. taken (second_less g m.memory u i j y z 49152 false false e) refl r)
      (λ i j x k e c q o s' n r. passed (second_less g m.memory u i j y z 49152 true false e) (done (read_back g m.memory u i j y z 670 x c) (taken (third_second g m.memory u i x y z true q) refl r)))
      (λ i j x e c q o s' n r. passed (second_less g m.memory u i j y z 49152 true false e) (done (read_back g m.memory u i j y z 670 x c) (passed (third_second g m.memory u i x y z false q) (done (copy_2 g m.memory u i x y z) (goes refl r)))))
      w t v s
