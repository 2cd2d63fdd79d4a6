-- The test of containment: acts, and parts one after another.
use Rattle.std.proofs.Common.{◌≡◌, ℕ, suc, ◌+◌, ◌*◌, ◌<◌, ◌≤◌, Bool, true, false, List, ◌∷◌, drop, Some, refl, sym, ap, ◌∙◌, subst, arith, []}
use Rattle.std.specs.Prelude.{◌==◌, eqb}
use Rattle.std.proofs.lemmas.Bool.{eq-eqb, ne_eqb}
use Rattle.z_lang.specs.declared.act.Act.{Act}
use Rattle.z_lang.specs.State.{State, Program}
use Rattle.z_lang.specs.Acts.{answer_of, computed}
use Rattle.z_lang.specs.Runs.{ActsRun as Runs, ActsOutcome as Outcome, Returns, at_label, goes, taken, passed, done, calls, returns, behind_label}
use Rattle.dg_meaning.specs.Values.{Label, Value, Var, Node, Values, NoMore, More, leaf}
use Rattle.dg_meaning.specs.ValueCells.{count_of}
use Rattle.dg_meaning.specs.Substitutions.{Substitution, walk, links, resolved}
use Rattle.dg_meaning.specs.inside.Substitutions.{all_resolved}
use Rattle.dg_meaning.specs.Unify.{looked, all_looked}
use Rattle.dg_meaning.proofs.Walks.{walked, resolved_node}
use Rattle.dg_meaning.proofs.LookUps.{walk_node}
use Rattle.dg_rt.proofs.Standing.{occurs_at}
use Rattle.dg_rt.specs.declared.numbers.TheConstants.{OCCURS}
use Rattle.dg_rt.specs.declared.unify.TheConstants.{OCCURS_ACTS}
use Rattle.dg_rt.specs.Cells.{compared, at_cell, Holds, bit}
use Rattle.dg_rt.specs.Areas.{heap_at, state}
use Rattle.dg_rt.specs.Shapes.{Shape, IsShape, Cell, Shows, number, dict, object, nil, boxed, AllShow, one_more, Stands, variable}
use Rattle.dg_rt.specs.RunTime.{HasRunTime}
use Rattle.dg_rt.specs.inside.Walks.{Occurs}
use Rattle.dg_rt.specs.inside.Depth.{Smaller, AllSmaller}
use Rattle.dg_rt.proofs.Following.{word, tested, computes}
use Rattle.dg_rt.proofs.Locals.{get_1, get_2, get_3, get_4, set_2, set_3, set_4, reference, simple_is_positive, boxed_is_negative, high_is_negative, added, reference_is_negative}
use Rattle.dg_rt.proofs.Cells.{reads_cell}
use Rattle.dg_rt.proofs.Showing.{node_word, variable_word, all_low}
use Rattle.dg_rt.proofs.Looks.{then_found, then_on, then_last}
use Rattle.z_lang.specs.declared.act.Act.TheVariants as acts
use Rattle.z_lang.specs.declared.act.Args.TheVariants as args
use Rattle.z_lang.specs.declared.act.Atom.TheVariants as atoms
use Rattle.z_lang.specs.declared.act.Function.TheVariants as functions
use Rattle.z_lang.specs.declared.act.Comparison.TheVariants as comparisons

-- What stays while a variable is looked for: the program, what lies in memory, the outside, the substitution and the variable.
pub record LookingFor : Type 0 where
  pub p : Program
  pub has : HasRunTime p
  pub sh : Shape
  pub is : IsShape sh
  pub memory : List ℕ
  pub typed : List ℕ
  pub output : List ℕ
  pub drawn : ℕ
  pub cells : ℕ → ℕ
  pub h : Holds p.world.layout memory cells
  pub S : Substitution
  pub st : Stands sh cells S
  pub n : ℕ
  pub old : n < sh.vars

-- Where it goes on with a variable, from the read of its cell on; with another value, from the test whether it is a box.
abbrev pub enter : Value → List Act
enter (Var y) = drop 3 OCCURS_ACTS
enter (Node g vs) = drop 16 OCCURS_ACTS

module _ (io : LookingFor) where
  open io use {p, has, sh, is, memory, typed, output, drawn, cells, h, S, st, n, old}

  abbrev pub ref : ℕ
  ref = 32768 + sh.place n

  abbrev pub now : ℕ → ℕ → ℕ → State
  now b c d = state memory (ref ∷ b ∷ c ∷ d ∷ []) typed drawn output

  -- ---- what is looked at

  abbrev pub look : Value → Bool × ℕ
  look v = looked (resolved S v) S n v (walk S v)

  abbrev pub look_all : Values → Bool × ℕ
  look_all vs = all_looked (all_resolved S vs) S n vs

  pub look_variable : (v : Value) (y : ℕ) → walk S v ≡ Var y → look v ≡ (eqb y n, links S v + 1)
  look_variable v y e = rw e refl

  pub resolved_walked : (v w : Value) → walk S v ≡ w → resolved S v ≡ resolved S w
  resolved_walked v w e = sym (walked S st.sound v).same ∙ ap (resolved S) e

  pub look_node : (v : Value) (g : Label) (vs : Values) → walk S v ≡ Node g vs → look v ≡ ((look_all vs).0, links S v + 1 + (look_all vs).1)
  look_node v g vs e = rw (e, resolved_walked v (Node g vs) e, resolved_node S g vs) refl

  -- ---- tests and reads

  pub less : (b c d x : ℕ) (t answer : Bool) → compared comparisons.Less b x ≡ t → answer_of p (now b c d) (record { comparison = comparisons.Less; first = atoms.Var 2; second = atoms.Num x; answer = answer }) ≡ Some t
  less b c d x t answer e = tested p (now b c d) comparisons.Less (atoms.Var 2) (atoms.Num x) answer b x t (get_2 p memory ref b c d typed drawn output) refl e

  pub test_same : (b c d : ℕ) (t : Bool) → (b == ref) ≡ t → answer_of p (now b c d) (record { comparison = comparisons.Equal; first = atoms.Var 2; second = atoms.Var 1; answer = true }) ≡ Some t
  test_same b c d t e = tested p (now b c d) comparisons.Equal (atoms.Var 2) (atoms.Var 1) true b ref t (get_2 p memory ref b c d typed drawn output) (get_1 p memory ref b c d typed drawn output) e

  third_zero : (b c d : ℕ) (t answer : Bool) → (c == 0) ≡ t → answer_of p (now b c d) (record { comparison = comparisons.Equal; first = atoms.Var 3; second = atoms.Num 0; answer = answer }) ≡ Some t
  third_zero b c d t answer e = tested p (now b c d) comparisons.Equal (atoms.Var 3) (atoms.Num 0) answer c 0 t (get_3 p memory ref b c d typed drawn output) refl e

  pub variable_less : {b y : ℕ} → Shows sh b (Var y) → compared comparisons.Less b 49152 ≡ true
  variable_less s =
      let v = variable_word s in
      let within = is.within _ v.old in
      subst (λ (x : ℕ). compared comparisons.Less x 49152 ≡ true) (sym v.is) (reference (sh.place _) (omega arith))

  -- a field of a box
  field : (at i k j x : ℕ) → Cell sh j x → j ≡ k + i → i ≤ 3 → at ≡ at_cell (heap_at + i) + 32768 → computed p.world.layout memory functions.Word at (49152 + k) ≡ Some x
  field at i k j x c e le is_at =
      let room = has.mapped.room in
      let top = is.room in
      let low = c.fixed.0 in
      reads_cell p.world.layout memory cells at (49152 + k) (heap_at + j) h (omega arith) (omega arith) ∙ ap word (st.fixed j (omega arith) c.fixed ∙ c.is)

  pub third_less : (b c d x : ℕ) (t answer : Bool) → compared comparisons.Less c x ≡ t → answer_of p (now b c d) (record { comparison = comparisons.Less; first = atoms.Var 3; second = atoms.Num x; answer = answer }) ≡ Some t
  third_less b c d x t answer e = tested p (now b c d) comparisons.Less (atoms.Var 3) (atoms.Num x) answer c x t (get_3 p memory ref b c d typed drawn output) refl e

  pub third_second : (b c d : ℕ) (t : Bool) → (c == b) ≡ t → answer_of p (now b c d) (record { comparison = comparisons.Equal; first = atoms.Var 3; second = atoms.Var 2; answer = true }) ≡ Some t
  third_second b c d t e = tested p (now b c d) comparisons.Equal (atoms.Var 3) (atoms.Var 2) true c b t (get_3 p memory ref b c d typed drawn output) (get_2 p memory ref b c d typed drawn output) e

  -- ---- where it goes on

  -- the rest, with 6 instructions left
  pub record Enters (f : ℕ) (acts : List Act) (b c d : ℕ) (l : Bool × ℕ) : Type 0 where
    pub locals' : List ℕ
    pub count : ℕ
    pub runs : Runs p f (4 * f) OCCURS_ACTS acts (now b c d) (Returns (bit l.0)) (state memory locals' typed drawn output) count
    pub few : count + 6 ≤ 15 * l.1

  -- the rest where local 2 is the word u of no variable, for so many looks more
  pub record Goes (f u c d : ℕ) (l : Bool × ℕ) : Type 0 where
    pub locals' : List ℕ
    pub count : ℕ
    pub runs : Runs p f (4 * f) OCCURS_ACTS (drop 16 OCCURS_ACTS) (now u c d) (Returns (bit l.0)) (state memory locals' typed drawn output) count
    pub few : count ≤ 9 + 15 * l.1

  pub simple : (f u c d : ℕ) → u < 32768 → Goes f u c d (false, 0)
  unfolding behind_label
  simple f u c d lt = record { locals' = ref ∷ u ∷ c ∷ d ∷ []; count = 2; runs = taken (less u c d 0 false false (simple_is_positive u lt)) refl (returns refl); few = omega arith }

  -- up to the tests of the header
  to_header : (f k c d header : ℕ) → k + 2 < 10000 → Cell sh k header → (o : Outcome) (s' : State) (m : ℕ) →
      Runs p f (4 * f) OCCURS_ACTS (drop 18 OCCURS_ACTS) (now (49152 + k) header d) o s' m → Runs p f (4 * f) OCCURS_ACTS (drop 16 OCCURS_ACTS) (now (49152 + k) c d) o s' (suc (suc m))
  to_header f k c d header lt at o s' m rest =
      passed (less (49152 + k) c d 0 true false (boxed_is_negative k (omega arith)))
      (done (computes p (now (49152 + k) c d) (now (49152 + k) header d) 3 functions.Word (atoms.Num 33438) (atoms.Var 2) 33438 (49152 + k) header refl (get_2 p memory ref (49152 + k) c d typed drawn output) (field 33438 0 k k header at (omega arith) (omega arith) refl) (set_3 p memory ref (49152 + k) c d header typed drawn output)) rest)

  -- an unknown word
  pub unknown : (f k c d m : ℕ) → k + 2 < 10000 → m < 32768 → Cell sh k (32768 + m) → Goes f (49152 + k) c d (false, 0)
  unfolding behind_label
  unknown f k c d m lt few at = record {
    locals' = ref ∷ (49152 + k) ∷ (32768 + m) ∷ d ∷ [];
    count = 5;
    runs = to_header f k c d (32768 + m) lt at (Returns 0) (now (49152 + k) (32768 + m) d) 3
        (taken (third_zero (49152 + k) (32768 + m) d false false (ne_eqb (32768 + m) 0 (λ (e : 32768 + m ≡ 0). (omega arith)))) refl
        (taken (third_less (49152 + k) (32768 + m) d 0 true true (high_is_negative m few)) refl (returns refl)));
    few = omega arith;
  }

  -- ---- parts

  -- the routine is called for a part
  abbrev call_part : Act
  call_part = acts.Call (Some 3) (atoms.Routine OCCURS) (args.Two (atoms.Var 1) (atoms.Var 3))

  abbrev if_found : Act
  if_found = acts.When (record { comparison = comparisons.Equal; first = atoms.Var 3; second = atoms.Num 0; answer = false }) 10

  abbrev pub Called : ℕ → ℕ → Bool × ℕ → Type 0
  Called f x l = Occurs p f OCCURS_ACTS memory typed output drawn ref x 0 0 l

  found_in : (rest : List Act) (f b x d : ℕ) (l : Bool × ℕ) → l.0 ≡ true → (oc : Called f x l) → Runs p (suc f) (4 * suc f) OCCURS_ACTS (call_part ∷ if_found ∷ rest) (now b x d) (Returns 1) (now b 1 d) (suc oc.count + 2)
  unfolding behind_label
  found_in rest f b x d l e oc =
      let one : bit l.0 ≡ 1 = rw e refl in
      calls {f' = f} {w' = 4 * f} {n = oc.count} {n' = 2} refl (rw (get_1 p memory ref b x d typed drawn output, get_3 p memory ref b x d typed drawn output) refl) (occurs_at p has) (omega arith) (omega arith) oc.runs (rw one (set_3 p memory ref b x d 1 typed drawn output))
      (taken (third_zero b 1 d false false refl) refl (returns refl))

  passed_by : (rest : List Act) (f b x d : ℕ) (l : Bool × ℕ) → l.0 ≡ false → (oc : Called f x l) → (o : Outcome) (s' : State) (m : ℕ) → Runs p (suc f) (4 * suc f) OCCURS_ACTS rest (now b 0 d) o s' m → Runs p (suc f) (4 * suc f) OCCURS_ACTS (call_part ∷ if_found ∷ rest) (now b x d) o s' (suc oc.count + suc m)
  passed_by rest f b x d l e oc o s' m more =
      let none : bit l.0 ≡ 0 = rw e refl in
      calls {f' = f} {w' = 4 * f} {n = oc.count} {n' = suc m} refl (rw (get_1 p memory ref b x d typed drawn output, get_3 p memory ref b x d typed drawn output) refl) (occurs_at p has) (omega arith) (omega arith) oc.runs (rw none (set_3 p memory ref b x d 0 typed drawn output))
      (passed (third_zero b 0 d true false refl) more)

  -- ---- a closure: its values one after another

  pub record Loops (f j c : ℕ) (vs : Values) : Type 0 where
    pub locals' : List ℕ
    pub count : ℕ
    pub runs : Runs p (suc f) (4 * suc f) OCCURS_ACTS (drop 38 OCCURS_ACTS) (now (49152 + j) c (49152 + (j + count_of vs))) (Returns (bit (look_all vs).0)) (state memory locals' typed drawn output) count
    pub few : count ≤ 2 + 15 * (look_all vs).1

  at_end : (b c d : ℕ) (t : Bool) → (b == d) ≡ t → answer_of p (now b c d) (record { comparison = comparisons.Equal; first = atoms.Var 2; second = atoms.Var 4; answer = false }) ≡ Some t
  at_end b c d t e = tested p (now b c d) comparisons.Equal (atoms.Var 2) (atoms.Var 4) false b d t (get_2 p memory ref b c d typed drawn output) (get_4 p memory ref b c d typed drawn output) e

  abbrev pub Each : ℕ → Value → Type 0
  Each f w = (x : ℕ) (a : Value) → Shows sh x a → Smaller S a w → Called f x (look a)

  no_values : (f j c : ℕ) → Loops f j c NoMore
  no_values f j c =
      let end = 49152 + (j + 0) in record {
        locals' = ref ∷ (49152 + j) ∷ c ∷ end ∷ [];
        count = 2;
        runs = passed (at_end (49152 + j) c end true (eq-eqb (49152 + j) end (omega arith))) (at_label (returns refl));
        few = omega arith;
      }

  -- up to the call for the first value
  to_value : (f j c x more : ℕ) (o : Outcome) (s' : State) (m : ℕ) → Cell sh (j + 3) x → 0 < more → Runs p (suc f) (4 * suc f) OCCURS_ACTS (drop 34 OCCURS_ACTS) (now (49152 + j) x (49152 + (j + more))) o s' m → Runs p (suc f) (4 * suc f) OCCURS_ACTS (drop 38 OCCURS_ACTS) (now (49152 + j) c (49152 + (j + more))) o s' (suc (suc m))
  unfolding behind_label
  to_value f j c x more o s' m at some rest =
      let end = 49152 + (j + more) in
      taken (at_end (49152 + j) c end false (ne_eqb (49152 + j) end (λ (e : 49152 + j ≡ end). (omega arith)))) refl
      (done (computes p (now (49152 + j) c end) (now (49152 + j) x end) 3 functions.Word (atoms.Num 33444) (atoms.Var 2) 33444 (49152 + j) x refl (get_2 p memory ref (49152 + j) c end typed drawn output) (field 33444 3 j (j + 3) x at (omega arith) (omega arith) refl) (set_3 p memory ref (49152 + j) c end x typed drawn output)) rest)

  one_value : (f j c x : ℕ) (a : Value) (vs : Values) → Cell sh (j + 3) x → Called f x (look a) → Loops f (suc j) 0 vs → (t : Bool) → (look a).0 ≡ t → Loops f j c (More a vs)
  one_value f j c x a vs at oc rest true e =
      let few = oc.few in
      let all : look_all (More a vs) ≡ (true, (look a).1) = then_found (look a) (look_all vs) e in
      let end = 49152 + (j + count_of (More a vs)) in
      record {
        locals' = ref ∷ (49152 + j) ∷ 1 ∷ end ∷ [];
        count = suc (suc (suc oc.count + 2));
        runs = rw all (to_value f j c x (count_of (More a vs)) (Returns 1) (now (49152 + j) 1 end) (suc oc.count + 2) at (omega arith) (found_in (drop 36 OCCURS_ACTS) f (49152 + j) x end (look a) e oc));
        few = rw all (omega arith);
      }
  one_value f j c x a vs at oc rest false e =
      let few = oc.few in
      let few' = rest.few in
      let all : look_all (More a vs) ≡ ((look_all vs).0, (look a).1 + (look_all vs).1) = then_on (look a) (look_all vs) e in
      let end = 49152 + (j + count_of (More a vs)) in
      let end' = 49152 + (suc j + count_of vs) in
      let same : end' ≡ end = omega arith in
      let next : 49152 + suc j ≡ 49152 + j + 1 = omega arith in
      let top = is.room in
      let low = at.fixed.0 in
      let runs : Runs p (suc f) (4 * suc f) OCCURS_ACTS (drop 38 OCCURS_ACTS) (now (49152 + suc j) 0 end) (Returns (bit (look_all vs).0)) (state memory rest.locals' typed drawn output) rest.count = subst (λ (z : ℕ). Runs p (suc f) (4 * suc f) OCCURS_ACTS (drop 38 OCCURS_ACTS) (now (49152 + suc j) 0 z) (Returns (bit (look_all vs).0)) (state memory rest.locals' typed drawn output) rest.count) same rest.runs in
      record {
        locals' = rest.locals';
        count = suc (suc (suc oc.count + suc (suc rest.count)));
        runs = rw all (to_value f j c x (count_of (More a vs)) (Returns (bit (look_all vs).0)) (state memory rest.locals' typed drawn output) (suc oc.count + suc (suc rest.count)) at (omega arith)
            (passed_by (drop 36 OCCURS_ACTS) f (49152 + j) x end (look a) e oc (Returns (bit (look_all vs).0)) (state memory rest.locals' typed drawn output) (suc rest.count)
            (done (computes p (now (49152 + j) 0 end) (now (49152 + suc j) 0 end) 2 functions.Add (atoms.Var 2) (atoms.Num 1) (49152 + j) 1 (49152 + suc j) (get_2 p memory ref (49152 + j) 0 end typed drawn output) refl (added p memory (49152 + j) 1 (49152 + suc j) (omega arith)) (set_2 p memory ref (49152 + j) 0 end (49152 + suc j) typed drawn output)) (at_label runs))));
        few = rw all (omega arith);
      }

  pub loops : (f j c k : ℕ) (vs : Values) (w : Value) → k ≡ j + 3 → AllShow sh k vs → AllSmaller S vs w → Each f w → Loops f j c vs
  loops f j c k NoMore w e s less each = no_values f j c
  loops f j c k (More a vs) w e (one_more _ x at sa s) less each =
      one_value f j c x a vs (subst (λ (i : ℕ). Cell sh i x) e at) (each x a sa less.0) (loops f (suc j) 0 (suc k) vs w (omega arith) s less.1 each) (look a).0 refl

  pub closure : (f k c d place : ℕ) (vs : Values) → k + 2 < 10000 → place < 16384 → Cell sh k (1 + place) → Cell sh (k + 1) (count_of vs) → AllShow sh (k + 3) vs → Loops f k (1 + place) vs → Goes (suc f) (49152 + k) c d (look_all vs)
  unfolding behind_label
  closure f k c d place vs lt few at many all rest =
      let few' = rest.few in
      let end = 49152 + (k + count_of vs) in
      let n = count_of vs in
      let header = 1 + place in
      let low = all_low is (k + 3) vs (omega arith) all in
      record {
        locals' = rest.locals';
        count = suc (suc (suc (suc (suc (suc (suc rest.count))))));
        runs = to_header (suc f) k c d header lt at (Returns (bit (look_all vs).0)) (state memory rest.locals' typed drawn output) (suc (suc (suc (suc (suc rest.count)))))
            (taken (third_zero (49152 + k) header d false false (ne_eqb header 0 (λ (e : header ≡ 0). (omega arith)))) refl
            (passed (third_less (49152 + k) header d 0 false true (simple_is_positive header (omega arith)))
            (done (computes p (now (49152 + k) header d) (now (49152 + k) header n) 4 functions.Word (atoms.Num 33440) (atoms.Var 2) 33440 (49152 + k) n refl (get_2 p memory ref (49152 + k) header d typed drawn output) (field 33440 1 k (k + 1) n many (omega arith) (omega arith) refl) (set_4 p memory ref (49152 + k) header d n typed drawn output))
            (done (computes p (now (49152 + k) header n) (now (49152 + k) header end) 4 functions.Add (atoms.Var 2) (atoms.Var 4) (49152 + k) n end (get_2 p memory ref (49152 + k) header n typed drawn output) (get_4 p memory ref (49152 + k) header n typed drawn output) (added p memory (49152 + k) n end (omega arith)) (set_4 p memory ref (49152 + k) header n end typed drawn output))
            (goes refl rest.runs)))));
        few = omega arith;
      }

  -- ---- a pair

  -- up to the test of the head
  to_head : (f k c d x : ℕ) → k + 2 < 10000 → Cell sh k 0 → Cell sh (k + 1) x → (o : Outcome) (s' : State) (m : ℕ) → Runs p f (4 * f) OCCURS_ACTS (drop 20 OCCURS_ACTS) (now (49152 + k) x d) o s' m → Runs p f (4 * f) OCCURS_ACTS (drop 16 OCCURS_ACTS) (now (49152 + k) c d) o s' (suc (suc (suc (suc m))))
  to_head f k c d x lt at head o s' m rest =
      to_header f k c d 0 lt at o s' (suc (suc m))
      (passed (third_zero (49152 + k) 0 d true false refl)
      (done (computes p (now (49152 + k) 0 d) (now (49152 + k) x d) 3 functions.Word (atoms.Num 33440) (atoms.Var 2) 33440 (49152 + k) x refl (get_2 p memory ref (49152 + k) 0 d typed drawn output) (field 33440 1 k (k + 1) x head (omega arith) (omega arith) refl) (set_3 p memory ref (49152 + k) 0 d x typed drawn output)) rest))

  -- the tail
  pub record Tailed (f k c d : ℕ) (l : Bool × ℕ) : Type 0 where
    locals' : List ℕ
    count : ℕ
    runs : Runs p f (4 * f) OCCURS_ACTS (drop 24 OCCURS_ACTS) (now (49152 + k) c d) (Returns (bit l.0)) (state memory locals' typed drawn output) count
    few : count + 3 ≤ 15 * l.1

  to_tail : (f k c d y : ℕ) → k + 2 < 10000 → Cell sh (k + 2) y → (o : Outcome) (s' : State) (m : ℕ) → Runs p f (4 * f) OCCURS_ACTS (drop 25 OCCURS_ACTS) (now y c d) o s' m → Runs p f (4 * f) OCCURS_ACTS (drop 24 OCCURS_ACTS) (now (49152 + k) c d) o s' (suc m)
  to_tail f k c d y lt tail o s' m rest =
      done (computes p (now (49152 + k) c d) (now y c d) 2 functions.Word (atoms.Num 33442) (atoms.Var 2) 33442 (49152 + k) y refl (get_2 p memory ref (49152 + k) c d typed drawn output) (field 33442 2 k (k + 2) y tail (omega arith) (omega arith) refl) (set_2 p memory ref (49152 + k) c d y typed drawn output)) rest

  tailed : (f k c d y : ℕ) (b : Value) (l : Bool × ℕ) → k + 2 < 10000 → Cell sh (k + 2) y → Shows sh y b → Enters f (enter b) y c d l → Tailed f k c d l
  unfolding behind_label
  tailed f k c d y (Var z) l lt tail s r =
      let few = r.few in
      record {
        locals' = r.locals';
        count = suc (suc r.count);
        runs = to_tail f k c d y lt tail (Returns (bit l.0)) (state memory r.locals' typed drawn output) (suc r.count) (taken (less y c d 49152 true true (variable_less s)) refl r.runs);
        few = omega arith;
      }
  tailed f k c d y (Node g vs) l lt tail s r =
      let few = r.few in
      record {
        locals' = r.locals';
        count = suc (suc (suc r.count));
        runs = to_tail f k c d y lt tail (Returns (bit l.0)) (state memory r.locals' typed drawn output) (suc (suc r.count)) (passed (less y c d 49152 false true (node_word s)) (goes refl r.runs));
        few = omega arith;
      }

  -- a head is passed by where it is simple
  pub data Head (x : ℕ) (a : Value) : Type 0 where
    is_simple : x < 32768 → (look a).0 ≡ false → Head x a
    is_other : compared comparisons.Less x 0 ≡ true → Head x a

  leaf_holds_none : (g : Label) → (look (leaf g)).0 ≡ false
  leaf_holds_none g = rw (look_node (leaf g) g NoMore (walk_node S g NoMore)) refl

  pub head : {x : ℕ} {a : Value} → Shows sh x a → Head x a
  head (number m lt) = is_simple (omega arith) (leaf_holds_none _)
  head (dict m lt) = is_simple (omega arith) (leaf_holds_none _)
  head (object m lt) = is_simple (omega arith) (leaf_holds_none _)
  head nil = is_simple (omega arith) (leaf_holds_none _)
  head (variable m lt) = let within = is.within m lt in is_other (reference_is_negative (sh.place m) (omega arith))
  head (boxed k header lt box at inside) = is_other (boxed_is_negative k (omega arith))

  pair_on : (a b : Value) → (look a).0 ≡ false → look_all (More a (More b NoMore)) ≡ ((look b).0, (look a).1 + (look b).1)
  pair_on a b e = then_on (look a) (look_all (More b NoMore)) e ∙ ap (λ (q : Bool × ℕ). (q.0, (look a).1 + q.1)) (then_last (look b))

  simple_head : (f k c d x : ℕ) (a b : Value) → k + 2 < 10000 → Cell sh k 0 → Cell sh (k + 1) x → x < 32768 → (look a).0 ≡ false → Tailed f k x d (look b) → Goes f (49152 + k) c d (look_all (More a (More b NoMore)))
  unfolding behind_label
  simple_head f k c d x a b lt at cell small e rest =
      let few = rest.few in
      let all = pair_on a b e in
      record {
        locals' = rest.locals';
        count = suc (suc (suc (suc (suc rest.count))));
        runs = rw all (to_head f k c d x lt at cell (Returns (bit (look b).0)) (state memory rest.locals' typed drawn output) (suc rest.count) (taken (third_less (49152 + k) x d 0 false false (simple_is_positive x small)) refl rest.runs));
        few = rw all (omega arith);
      }

  other_head : (f k c d x : ℕ) (a b : Value) → k + 2 < 10000 → Cell sh k 0 → Cell sh (k + 1) x → compared comparisons.Less x 0 ≡ true → Called f x (look a) → Tailed (suc f) k 0 d (look b) → (t : Bool) → (look a).0 ≡ t → Goes (suc f) (49152 + k) c d (look_all (More a (More b NoMore)))
  other_head f k c d x a b lt at cell negative oc rest true e =
      let few = oc.few in
      let all : look_all (More a (More b NoMore)) ≡ (true, (look a).1) = then_found (look a) (look_all (More b NoMore)) e in
      record {
        locals' = ref ∷ (49152 + k) ∷ 1 ∷ d ∷ [];
        count = suc (suc (suc (suc (suc (suc oc.count + 2)))));
        runs = rw all (to_head (suc f) k c d x lt at cell (Returns 1) (now (49152 + k) 1 d) (suc (suc oc.count + 2)) (passed (third_less (49152 + k) x d 0 true false negative) (found_in (drop 23 OCCURS_ACTS) f (49152 + k) x d (look a) e oc)));
        few = rw all (omega arith);
      }
  other_head f k c d x a b lt at cell negative oc rest false e =
      let few = oc.few in
      let few' = rest.few in
      let all = pair_on a b e in
      record {
        locals' = rest.locals';
        count = suc (suc (suc (suc (suc (suc oc.count + suc rest.count)))));
        runs = rw all (to_head (suc f) k c d x lt at cell (Returns (bit (look b).0)) (state memory rest.locals' typed drawn output) (suc (suc oc.count + suc rest.count))
            (passed (third_less (49152 + k) x d 0 true false negative)
            (passed_by (drop 23 OCCURS_ACTS) f (49152 + k) x d (look a) e oc (Returns (bit (look b).0)) (state memory rest.locals' typed drawn output) rest.count (at_label rest.runs))));
        few = rw all (omega arith);
      }

  pub of_pair : (f k c d x y : ℕ) (a b : Value) → k + 2 < 10000 → Cell sh k 0 → Cell sh (k + 1) x → Cell sh (k + 2) y → Shows sh y b → Called f x (look a) → ((c' : ℕ) → Enters (suc f) (enter b) y c' d (look b)) → Head x a → Goes (suc f) (49152 + k) c d (look_all (More a (More b NoMore)))
  of_pair f k c d x y a b lt at one two s oc rest (is_simple small e) = simple_head (suc f) k c d x a b lt at one small e (tailed (suc f) k x d y b (look b) lt two s (rest x))
  of_pair f k c d x y a b lt at one two s oc rest (is_other negative) = other_head f k c d x a b lt at one negative oc (tailed (suc f) k 0 d y b (look b) lt two s (rest 0)) (look a).0 refl
