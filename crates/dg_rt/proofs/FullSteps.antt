-- The routine that looks for unbound variables: acts, and parts one after another.
use Rattle.std.proofs.Common.{◌≡◌, ℕ, suc, ◌+◌, ◌*◌, ◌<◌, ◌≤◌, Bool, true, false, List, [], ◌∷◌, drop, Some, refl, sym, ap, ◌∙◌, subst, arith}
use Rattle.std.specs.Prelude.{◌==◌, ◌&&◌}
use Rattle.std.proofs.lemmas.Bool.{eq-eqb, ne_eqb}
use Rattle.z_lang.specs.declared.act.Act.{Act}
use Rattle.z_lang.specs.declared.act.Act.TheVariants as acts
use Rattle.z_lang.specs.declared.act.Args.TheVariants as args
use Rattle.z_lang.specs.declared.act.Atom.TheVariants as atoms
use Rattle.z_lang.specs.declared.act.Function.TheVariants as functions
use Rattle.z_lang.specs.declared.act.Comparison.TheVariants as comparisons
use Rattle.z_lang.specs.State.{State, Program}
use Rattle.z_lang.specs.Acts.{answer_of, computed}
use Rattle.z_lang.specs.Runs.{ActsRun as Runs, ActsOutcome as Outcome, Returns, at_label, goes, taken, passed, done, calls, returns, behind_label}
use Rattle.dg_meaning.specs.Values.{Label, Value, Var, Node, Values, NoMore, More}
use Rattle.dg_meaning.specs.ValueCells.{count_of}
use Rattle.dg_meaning.specs.TypeTests.{is_fully_bound, are_fully_bound}
use Rattle.dg_meaning.specs.Substitutions.{Substitution, walk, links, resolved, contains, any_contains}
use Rattle.dg_meaning.specs.inside.Substitutions.{all_resolved}
use Rattle.dg_meaning.specs.Unify.{looked, all_looked}
use Rattle.dg_meaning.proofs.Walks.{walked, resolved_node, resolved_unbound, or_left, or_right}
use Rattle.dg_rt.specs.declared.numbers.TheConstants.{FULL}
use Rattle.dg_rt.specs.declared.operands.TheConstants.{FULL_ACTS}
use Rattle.dg_rt.specs.Cells.{compared, at_cell, Holds, bit}
use Rattle.dg_rt.specs.Areas.{heap_at, state}
use Rattle.dg_rt.specs.Shapes.{Shape, IsShape, Cell, Shows, AllShow, one_more, Stands}
use Rattle.dg_rt.specs.RunTime.{HasRunTime}
use Rattle.dg_rt.specs.Operands.{Fills}
use Rattle.dg_rt.specs.inside.Depth.{Smaller, AllSmaller}
use Rattle.dg_rt.proofs.Cells.{reads_cell}
use Rattle.dg_rt.proofs.Containing.{looked_found}
use Rattle.dg_rt.proofs.Following.{word, tested, computes, local_1, local_2, local_3, put_1, put_2, put_3}
use Rattle.dg_rt.proofs.Locals.{simple_is_positive, boxed_is_negative, high_is_negative, added}
use Rattle.dg_rt.proofs.Looks.{then_on}
use Rattle.dg_rt.proofs.Showing.{all_low}
use Rattle.dg_rt.proofs.Standing.{full_at}

-- What stays while a value is looked through: the program, what lies in memory, the outside, the substitution, and the variable for which a test of
-- containment would look at all of the value.
pub record LookingThrough : Type 0 where
  pub p : Program
  pub has : HasRunTime p
  pub sh : Shape
  pub is : IsShape sh
  pub memory : List ℕ
  pub typed : List ℕ
  pub output : List ℕ
  pub drawn : ℕ
  pub cells : ℕ → ℕ
  pub h : Holds p.world.layout memory cells
  pub S : Substitution
  pub st : Stands sh cells S
  pub n : ℕ

module _ (io : LookingThrough) where
  open io use {p, has, sh, is, memory, typed, output, drawn, cells, h, S, st, n}

  abbrev pub now : ℕ → ℕ → ℕ → State
  now a b c = state memory (a ∷ b ∷ c ∷ []) typed drawn output

  -- ---- what is looked at

  abbrev pub seen : Value → Bool × ℕ
  seen v = looked (resolved S v) S n v (walk S v)

  abbrev pub seen_all : Values → Bool × ℕ
  seen_all vs = all_looked (all_resolved S vs) S n vs

  abbrev pub full : Value → Bool
  full v = is_fully_bound (resolved S v)

  abbrev pub all_full : Values → Bool
  all_full vs = are_fully_bound (all_resolved S vs)

  abbrev pub Absent : Value → Type 0
  Absent v = contains n (resolved S v) ≡ false

  abbrev pub AllAbsent : Values → Type 0
  AllAbsent vs = any_contains n (all_resolved S vs) ≡ false

  pub first_absent : (a : Value) (vs : Values) → AllAbsent (More a vs) → Absent a
  first_absent a vs e = or_left (contains n (resolved S a)) (any_contains n (all_resolved S vs)) e

  pub others_absent : (a : Value) (vs : Values) → AllAbsent (More a vs) → AllAbsent vs
  others_absent a vs e = or_right (contains n (resolved S a)) (any_contains n (all_resolved S vs)) e

  pub seen_more : (a : Value) (vs : Values) → Absent a → (seen_all (More a vs)).1 ≡ (seen a).1 + (seen_all vs).1
  seen_more a vs e = ap (λ (q : Bool × ℕ). q.1) (then_on (seen a) (seen_all vs) (looked_found S st.sound n a ∙ e))

  pub resolved_walked : (v w : Value) → walk S v ≡ w → resolved S v ≡ resolved S w
  resolved_walked v w e = sym (walked S st.sound v).same ∙ ap (resolved S) e

  pub resolved_as : (v : Value) (g : Label) (vs : Values) → walk S v ≡ Node g vs → resolved S v ≡ Node g (all_resolved S vs)
  resolved_as v g vs e = resolved_walked v (Node g vs) e ∙ resolved_node S g vs

  pub seen_node : (v : Value) (g : Label) (vs : Values) → walk S v ≡ Node g vs → (seen v).1 ≡ links S v + 1 + (seen_all vs).1
  seen_node v g vs e = rw (e, resolved_as v g vs e) refl

  pub seen_variable : (v : Value) (y : ℕ) → walk S v ≡ Var y → (seen v).1 ≡ links S v + 1
  seen_variable v y e = rw e refl

  pub full_node : (v : Value) (g : Label) (vs : Values) → walk S v ≡ Node g vs → full v ≡ all_full vs
  full_node v g vs e = ap is_fully_bound (resolved_as v g vs e)

  pub full_variable : (v : Value) (y : ℕ) → walk S v ≡ Var y → full v ≡ false
  full_variable v y e = ap is_fully_bound (resolved_walked v (Var y) e ∙ resolved_unbound S y ((walked S st.sound v).free y e))

  -- ---- tests and reads

  pub less : (a b c x : ℕ) (t answer : Bool) → compared comparisons.Less a x ≡ t → answer_of p (now a b c) (record { comparison = comparisons.Less; first = atoms.Var 1; second = atoms.Num x; answer = answer }) ≡ Some t
  less a b c x t answer e = tested p (now a b c) comparisons.Less (atoms.Var 1) (atoms.Num x) answer a x t (local_1 p memory a (b ∷ c ∷ []) typed drawn output) refl e

  second_zero : (a b c : ℕ) (t : Bool) → (b == 0) ≡ t → answer_of p (now a b c) (record { comparison = comparisons.Equal; first = atoms.Var 2; second = atoms.Num 0; answer = true }) ≡ Some t
  second_zero a b c t e = tested p (now a b c) comparisons.Equal (atoms.Var 2) (atoms.Num 0) true b 0 t (local_2 p memory a b (c ∷ []) typed drawn output) refl e

  second_less : (a b c : ℕ) (t : Bool) → compared comparisons.Less b 0 ≡ t → answer_of p (now a b c) (record { comparison = comparisons.Less; first = atoms.Var 2; second = atoms.Num 0; answer = true }) ≡ Some t
  second_less a b c t e = tested p (now a b c) comparisons.Less (atoms.Var 2) (atoms.Num 0) true b 0 t (local_2 p memory a b (c ∷ []) typed drawn output) refl e

  -- a field of a box
  field : (at i k j x : ℕ) → Cell sh j x → j ≡ k + i → i ≤ 3 → at ≡ at_cell (heap_at + i) + 32768 → computed p.world.layout memory functions.Word at (49152 + k) ≡ Some x
  field at i k j x c e le is_at =
      let room = has.mapped.room in
      let top = is.room in
      let low = c.fixed.0 in
      reads_cell p.world.layout memory cells at (49152 + k) (heap_at + j) h (omega arith) (omega arith) ∙ ap word (st.fixed j (omega arith) c.fixed ∙ c.is)

  -- ---- behind the walk, where it gave no variable

  -- The rest where local 1 is a value's word, for so many looks more.
  pub record Goes (f u b c : ℕ) (answer : Bool) (seen : ℕ) : Type 0 where
    pub locals' : List ℕ
    pub count : ℕ
    pub runs : Runs p f (3 * f) FULL_ACTS (drop 6 FULL_ACTS) (now u b c) (Returns (bit answer)) (state memory locals' typed drawn output) count
    pub few : count ≤ 9 + 15 * seen

  pub simple : (f u b c : ℕ) → u < 32768 → Goes f u b c true 0
  unfolding behind_label
  simple f u b c lt = record { locals' = u ∷ b ∷ c ∷ []; count = 2; runs = taken (less u b c 0 false false (simple_is_positive u lt)) refl (returns refl); few = omega arith }

  -- up to the tests of the header
  to_header : (f k b c header : ℕ) → k + 2 < 10000 → Cell sh k header → (o : Outcome) (s' : State) (m : ℕ) →
      Runs p f (3 * f) FULL_ACTS (drop 8 FULL_ACTS) (now (49152 + k) header c) o s' m → Runs p f (3 * f) FULL_ACTS (drop 6 FULL_ACTS) (now (49152 + k) b c) o s' (suc (suc m))
  to_header f k b c header lt at o s' m rest =
      passed (less (49152 + k) b c 0 true false (boxed_is_negative k (omega arith)))
      (done (computes p (now (49152 + k) b c) (now (49152 + k) header c) 2 functions.Word (atoms.Num 33438) (atoms.Var 1) 33438 (49152 + k) header refl (local_1 p memory (49152 + k) (b ∷ c ∷ []) typed drawn output) (field 33438 0 k k header at (omega arith) (omega arith) refl) (put_2 p memory (49152 + k) b header (c ∷ []) typed drawn output)) rest)

  -- an unknown word
  pub unknown : (f k b c m : ℕ) → k + 2 < 10000 → m < 32768 → Cell sh k (32768 + m) → Goes f (49152 + k) b c true 0
  unfolding behind_label
  unknown f k b c m lt few at = record {
    locals' = (49152 + k) ∷ (32768 + m) ∷ c ∷ [];
    count = 5;
    runs = to_header f k b c (32768 + m) lt at (Returns 1) (now (49152 + k) (32768 + m) c) 3
        (passed (second_zero (49152 + k) (32768 + m) c false (ne_eqb (32768 + m) 0 (λ (e : 32768 + m ≡ 0). (omega arith))))
        (taken (second_less (49152 + k) (32768 + m) c true (high_is_negative m few)) refl (returns refl)));
    few = omega arith;
  }

  -- ---- parts

  abbrev call_part : Act
  call_part = acts.Call (Some 2) (atoms.Routine FULL) (args.One (atoms.Var 2))

  abbrev if_free : Act
  if_free = acts.When (record { comparison = comparisons.Equal; first = atoms.Var 2; second = atoms.Num 0; answer = true }) 3

  -- The routine is called for a part, which takes five instructions less than its looks have.
  abbrev pub Called : ℕ → ℕ → Value → Type 0
  Called f x a = Fills p f FULL_ACTS memory typed output drawn x 0 0 S a 5 (15 * (seen a).1)

  free_in : (rest : List Act) (f a x c : ℕ) (v : Value) → full v ≡ false → (oc : Called f x v) → Runs p (suc f) (3 * suc f) FULL_ACTS (call_part ∷ if_free ∷ rest) (now a x c) (Returns 0) (now a 0 c) (suc oc.count + 2)
  unfolding behind_label
  free_in rest f a x c v e oc =
      let none : bit (full v) ≡ 0 = rw e refl in
      calls {f' = f} {w' = 3 * f} {n = oc.count} {n' = 2} {xs = (x, 0, 0)} refl (rw (local_2 p memory a x (c ∷ []) typed drawn output) refl) (full_at p has) (omega arith) (omega arith) oc.runs (rw none (put_2 p memory a x 0 (c ∷ []) typed drawn output))
      (taken (second_zero a 0 c true refl) refl (returns refl))

  passed_by : (rest : List Act) (f a x c : ℕ) (v : Value) → full v ≡ true → (oc : Called f x v) → (o : Outcome) (s' : State) (m : ℕ) → Runs p (suc f) (3 * suc f) FULL_ACTS rest (now a 1 c) o s' m → Runs p (suc f) (3 * suc f) FULL_ACTS (call_part ∷ if_free ∷ rest) (now a x c) o s' (suc oc.count + suc m)
  passed_by rest f a x c v e oc o s' m more =
      let one : bit (full v) ≡ 1 = rw e refl in
      calls {f' = f} {w' = 3 * f} {n = oc.count} {n' = suc m} {xs = (x, 0, 0)} refl (rw (local_2 p memory a x (c ∷ []) typed drawn output) refl) (full_at p has) (omega arith) (omega arith) oc.runs (rw one (put_2 p memory a x 1 (c ∷ []) typed drawn output))
      (passed (second_zero a 1 c false refl) more)

  full_on : (a : Value) (vs : Values) → full a ≡ true → all_full (More a vs) ≡ all_full vs
  full_on a vs e = ap (λ (t : Bool). t && all_full vs) e

  full_not : (a : Value) (vs : Values) → full a ≡ false → all_full (More a vs) ≡ false
  full_not a vs e = ap (λ (t : Bool). t && all_full vs) e

  -- ---- a closure: its values one after another

  pub record Loops (f j b : ℕ) (vs : Values) : Type 0 where
    pub locals' : List ℕ
    pub count : ℕ
    pub runs : Runs p (suc f) (3 * suc f) FULL_ACTS (drop 19 FULL_ACTS) (now (49152 + j) b (49152 + (j + count_of vs))) (Returns (bit (all_full vs))) (state memory locals' typed drawn output) count
    pub few : count ≤ 2 + 15 * (seen_all vs).1

  at_end : (a b c : ℕ) (t : Bool) → (a == c) ≡ t → answer_of p (now a b c) (record { comparison = comparisons.Equal; first = atoms.Var 1; second = atoms.Var 3; answer = false }) ≡ Some t
  at_end a b c t e = tested p (now a b c) comparisons.Equal (atoms.Var 1) (atoms.Var 3) false a c t (local_1 p memory a (b ∷ c ∷ []) typed drawn output) (local_3 p memory a b c [] typed drawn output) e

  abbrev pub Each : ℕ → Value → Type 0
  Each f w = (x : ℕ) (a : Value) → Shows sh x a → Smaller S a w → Absent a → Called f x a

  no_values : (f j b : ℕ) → Loops f j b NoMore
  no_values f j b =
      let end = 49152 + (j + 0) in record {
        locals' = (49152 + j) ∷ b ∷ end ∷ [];
        count = 2;
        runs = passed (at_end (49152 + j) b end true (eq-eqb (49152 + j) end (omega arith))) (at_label (returns refl));
        few = omega arith;
      }

  -- up to the call for the first value
  to_value : (f j b x more : ℕ) (o : Outcome) (s' : State) (m : ℕ) → Cell sh (j + 3) x → 0 < more → Runs p (suc f) (3 * suc f) FULL_ACTS (drop 15 FULL_ACTS) (now (49152 + j) x (49152 + (j + more))) o s' m → Runs p (suc f) (3 * suc f) FULL_ACTS (drop 19 FULL_ACTS) (now (49152 + j) b (49152 + (j + more))) o s' (suc (suc m))
  unfolding behind_label
  to_value f j b x more o s' m at some rest =
      let end = 49152 + (j + more) in
      taken (at_end (49152 + j) b end false (ne_eqb (49152 + j) end (λ (e : 49152 + j ≡ end). (omega arith)))) refl
      (done (computes p (now (49152 + j) b end) (now (49152 + j) x end) 2 functions.Word (atoms.Num 33444) (atoms.Var 1) 33444 (49152 + j) x refl (local_1 p memory (49152 + j) (b ∷ end ∷ []) typed drawn output) (field 33444 3 j (j + 3) x at (omega arith) (omega arith) refl) (put_2 p memory (49152 + j) b x (end ∷ []) typed drawn output)) rest)

  one_value : (f j b x : ℕ) (a : Value) (vs : Values) → Cell sh (j + 3) x → Absent a → Called f x a → Loops f (suc j) 1 vs → (t : Bool) → full a ≡ t → Loops f j b (More a vs)
  one_value f j b x a vs at absent oc rest false e =
      let few = oc.few in
      let all = full_not a vs e in
      let costs = seen_more a vs absent in
      let end = 49152 + (j + count_of (More a vs)) in
      record {
        locals' = (49152 + j) ∷ 0 ∷ end ∷ [];
        count = suc (suc (suc oc.count + 2));
        runs = rw all (to_value f j b x (count_of (More a vs)) (Returns 0) (now (49152 + j) 0 end) (suc oc.count + 2) at (omega arith) (free_in (drop 17 FULL_ACTS) f (49152 + j) x end a e oc));
        few = omega arith;
      }
  one_value f j b x a vs at absent oc rest true e =
      let few = oc.few in
      let few' = rest.few in
      let all = full_on a vs e in
      let costs = seen_more a vs absent in
      let end = 49152 + (j + count_of (More a vs)) in
      let end' = 49152 + (suc j + count_of vs) in
      let same : end' ≡ end = omega arith in
      let top = is.room in
      let low = at.fixed.0 in
      let runs : Runs p (suc f) (3 * suc f) FULL_ACTS (drop 19 FULL_ACTS) (now (49152 + suc j) 1 end) (Returns (bit (all_full vs))) (state memory rest.locals' typed drawn output) rest.count = subst (λ (z : ℕ). Runs p (suc f) (3 * suc f) FULL_ACTS (drop 19 FULL_ACTS) (now (49152 + suc j) 1 z) (Returns (bit (all_full vs))) (state memory rest.locals' typed drawn output) rest.count) same rest.runs in
      record {
        locals' = rest.locals';
        count = suc (suc (suc oc.count + suc (suc rest.count)));
        runs = rw all (to_value f j b x (count_of (More a vs)) (Returns (bit (all_full vs))) (state memory rest.locals' typed drawn output) (suc oc.count + suc (suc rest.count)) at (omega arith)
            (passed_by (drop 17 FULL_ACTS) f (49152 + j) x end a e oc (Returns (bit (all_full vs))) (state memory rest.locals' typed drawn output) (suc rest.count)
            (done (computes p (now (49152 + j) 1 end) (now (49152 + suc j) 1 end) 1 functions.Add (atoms.Var 1) (atoms.Num 1) (49152 + j) 1 (49152 + suc j) (local_1 p memory (49152 + j) (1 ∷ end ∷ []) typed drawn output) refl (added p memory (49152 + j) 1 (49152 + suc j) (omega arith)) (put_1 p memory (49152 + j) (49152 + suc j) (1 ∷ end ∷ []) typed drawn output)) (at_label runs))));
        few = omega arith;
      }

  pub loops : (f j b k : ℕ) (vs : Values) (w : Value) → k ≡ j + 3 → AllShow sh k vs → AllSmaller S vs w → AllAbsent vs → Each f w → Loops f j b vs
  loops f j b k NoMore w e s less absent each = no_values f j b
  loops f j b k (More a vs) w e (one_more _ x at sa s) less absent each =
      let absent_a = first_absent a vs absent in
      one_value f j b x a vs (subst (λ (i : ℕ). Cell sh i x) e at) absent_a (each x a sa less.0 absent_a) (loops f (suc j) 1 (suc k) vs w (omega arith) s less.1 (others_absent a vs absent) each) (full a) refl

  pub closure : (f k b c place : ℕ) (vs : Values) → k + 2 < 10000 → place < 16384 → Cell sh k (1 + place) → Cell sh (k + 1) (count_of vs) → AllShow sh (k + 3) vs → Loops f k (1 + place) vs → Goes (suc f) (49152 + k) b c (all_full vs) (seen_all vs).1
  unfolding behind_label
  closure f k b c place vs lt few at many all rest =
      let few' = rest.few in
      let end = 49152 + (k + count_of vs) in
      let n = count_of vs in
      let header = 1 + place in
      let low = all_low is (k + 3) vs (omega arith) all in
      record {
        locals' = rest.locals';
        count = suc (suc (suc (suc (suc (suc (suc rest.count))))));
        runs = to_header (suc f) k b c header lt at (Returns (bit (all_full vs))) (state memory rest.locals' typed drawn output) (suc (suc (suc (suc (suc rest.count)))))
            (passed (second_zero (49152 + k) header c false (ne_eqb header 0 (λ (e : header ≡ 0). (omega arith))))
            (passed (second_less (49152 + k) header c false (simple_is_positive header (omega arith)))
            (done (computes p (now (49152 + k) header c) (now (49152 + k) header n) 3 functions.Word (atoms.Num 33440) (atoms.Var 1) 33440 (49152 + k) n refl (local_1 p memory (49152 + k) (header ∷ c ∷ []) typed drawn output) (field 33440 1 k (k + 1) n many (omega arith) (omega arith) refl) (put_3 p memory (49152 + k) header c n [] typed drawn output))
            (done (computes p (now (49152 + k) header n) (now (49152 + k) header end) 3 functions.Add (atoms.Var 1) (atoms.Var 3) (49152 + k) n end (local_1 p memory (49152 + k) (header ∷ n ∷ []) typed drawn output) (local_3 p memory (49152 + k) header n [] typed drawn output) (added p memory (49152 + k) n end (omega arith)) (put_3 p memory (49152 + k) header n end [] typed drawn output))
            (goes refl rest.runs)))));
        few = omega arith;
      }

  -- ---- a pair

  -- up to the call for the head
  to_head : (f k b c x : ℕ) → k + 2 < 10000 → Cell sh k 0 → Cell sh (k + 1) x → (o : Outcome) (s' : State) (m : ℕ) → Runs p (suc f) (3 * suc f) FULL_ACTS (drop 24 FULL_ACTS) (now (49152 + k) x c) o s' m → Runs p (suc f) (3 * suc f) FULL_ACTS (drop 6 FULL_ACTS) (now (49152 + k) b c) o s' (suc (suc (suc (suc m))))
  unfolding behind_label
  to_head f k b c x lt at head o s' m rest =
      to_header (suc f) k b c 0 lt at o s' (suc (suc m))
      (taken (second_zero (49152 + k) 0 c true refl) refl
      (done (computes p (now (49152 + k) 0 c) (now (49152 + k) x c) 2 functions.Word (atoms.Num 33440) (atoms.Var 1) 33440 (49152 + k) x refl (local_1 p memory (49152 + k) (0 ∷ c ∷ []) typed drawn output) (field 33440 1 k (k + 1) x head (omega arith) (omega arith) refl) (put_2 p memory (49152 + k) 0 x (c ∷ []) typed drawn output)) rest))

  pub of_pair : (f k b c x y : ℕ) (v u : Value) → k + 2 < 10000 → Cell sh k 0 → Cell sh (k + 1) x → Cell sh (k + 2) y → AllAbsent (More v (More u NoMore)) → Called f x v → Fills p (suc f) (drop 1 FULL_ACTS) memory typed output drawn y 1 c S u 5 (15 * (seen u).1) →
      (t : Bool) → full v ≡ t → Goes (suc f) (49152 + k) b c (all_full (More v (More u NoMore))) (seen_all (More v (More u NoMore))).1
  unfolding behind_label
  of_pair f k b c x y v u lt at head tail absent oc rest false e =
      let few = oc.few in
      let rest_v = More u NoMore in
      let all = full_not v rest_v e in
      let costs = seen_more v rest_v (first_absent v rest_v absent) in
      record {
        locals' = (49152 + k) ∷ 0 ∷ c ∷ [];
        count = suc (suc (suc (suc (suc oc.count + 2))));
        runs = rw all (to_head f k b c x lt at head (Returns 0) (now (49152 + k) 0 c) (suc oc.count + 2) (free_in (drop 26 FULL_ACTS) f (49152 + k) x c v e oc));
        few = omega arith;
      }
  of_pair f k b c x y v u lt at head tail absent oc rest true e =
      let few = oc.few in
      let few' = rest.few in
      let rest_v = More u NoMore in
      let all : all_full (More v (More u NoMore)) ≡ full u = full_on v rest_v e ∙ and_true (full u) in
      let costs = seen_more v rest_v (first_absent v rest_v absent) in
      let costs' = seen_more u NoMore (first_absent u NoMore (others_absent v rest_v absent)) in
      record {
        locals' = rest.locals';
        count = suc (suc (suc (suc (suc oc.count + suc (suc (suc rest.count))))));
        runs = rw all (to_head f k b c x lt at head (Returns (bit (full u))) (state memory rest.locals' typed drawn output) (suc oc.count + suc (suc (suc rest.count)))
            (passed_by (drop 26 FULL_ACTS) f (49152 + k) x c v e oc (Returns (bit (full u))) (state memory rest.locals' typed drawn output) (suc (suc rest.count))
            (done (computes p (now (49152 + k) 1 c) (now y 1 c) 1 functions.Word (atoms.Num 33442) (atoms.Var 1) 33442 (49152 + k) y refl (local_1 p memory (49152 + k) (1 ∷ c ∷ []) typed drawn output) (field 33442 2 k (k + 2) y tail (omega arith) (omega arith) refl) (put_1 p memory (49152 + k) y (1 ∷ c ∷ []) typed drawn output))
            (goes refl rest.runs))));
        few = omega arith;
      }
    where
      and_true : (t : Bool) → (t && true) ≡ t
      and_true true = refl
      and_true false = refl
