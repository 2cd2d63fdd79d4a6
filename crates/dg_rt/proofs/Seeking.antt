-- The routines that seek objects do so.
use Rattle.std.proofs.Common.{◌≡◌, ◌≢◌, ℕ, suc, ◌+◌, ◌*◌, ◌<◌, ◌≤◌, Bool, true, false, List, [], ◌∷◌, drop, Some, refl, ap, ◌∙◌, subst, arith}
use Rattle.std.specs.Prelude.{eqb}
use Rattle.std.proofs.lemmas.Bool.{eq-eqb, ne_eqb}
use Rattle.dg_meaning.specs.Values.{Label, Num, Word, Unknown, Object, Nil, Pair, Closure, Value, Var, Node, Values}
use Rattle.dg_meaning.specs.Substitutions.{Substitution, walk, links}
use Rattle.dg_meaning.specs.Facts.{is_object}
use Rattle.z_lang.specs.declared.act.Atom.TheVariants as atoms
use Rattle.z_lang.specs.declared.act.Comparison.TheVariants as comparisons
use Rattle.z_lang.specs.State.{State, Program}
use Rattle.z_lang.specs.Acts.{answer_of}
use Rattle.z_lang.specs.Runs.{ActsRun as Runs, Returns, at_label, taken, passed, done, calls, returns, behind_label}
use Rattle.dg_rt.specs.declared.numbers.TheConstants.{FAIL}
use Rattle.dg_rt.specs.declared.unify.TheConstants.{WALK_ACTS}
use Rattle.dg_rt.specs.declared.tries.TheConstants.{SEEK_ACTS, SOUGHT_ACTS, IF_OBJECT_ACTS}
use Rattle.dg_rt.specs.Cells.{with_cell, replaced, compared, Holds}
use Rattle.dg_rt.specs.Areas.{state}
use Rattle.dg_rt.specs.Shapes.{Shape, Shows}
use Rattle.dg_rt.specs.RunTime.{HasRunTime}
use Rattle.dg_rt.specs.Conditions.{next_if}
use Rattle.dg_rt.specs.Rules.{KeyIs}
use Rattle.dg_rt.specs.Changes.{Argued}
use Rattle.dg_rt.specs.inside.Walks.{Walks, ending}
use Rattle.dg_rt.specs.Tries.{SeeksAll, SeeksOne, SeekWorks, SoughtWorks, ObjectWorks}
use Rattle.dg_rt.proofs.Cells.{other_cell, same_cell}
use Rattle.dg_rt.proofs.Following.{tested, copies, register, puts, local_1, local_2, local_3, put_1, put_3}
use Rattle.dg_rt.proofs.Keying.{key_works}
use Rattle.dg_rt.proofs.Locals.{less_by, not_less_by, high_is_less, reference}
use Rattle.dg_rt.proofs.Showing.{variable_word, node_word}
use Rattle.dg_rt.proofs.Standing.{walk_at, key_of_at}
use Rattle.dg_rt.proofs.Walking.{walk_works}

-- ## The first argument

module _ (p : Program) (has : HasRunTime p) (f w : ℕ) (some : 1 ≤ f) (enough : 4 ≤ w) (memory typed output : List ℕ) (drawn : ℕ) (sh : Shape) (cells : ℕ → ℕ) (S : Substitution) (v : Value) (arg : Argued p memory sh cells S v) (next all : ℕ) where
  abbrev three : List ℕ → ℕ → State
  three m x = state m (next ∷ all ∷ x ∷ []) typed drawn output

  walked : Walks p 0 0 WALK_ACTS sh S memory typed output drawn (cells 16) 0 0 0 v
  walked = walk_works p has sh arg.shape 0 0 memory typed output drawn 0 0 cells arg.holds S arg.stands (cells 16) 0 v arg.first

  end_few : (u : Value) → ending u ≤ 4
  end_few (Var n) = omega arith
  end_few (Node g vs) = omega arith

  to_test : (y : ℕ) (s' : State) (k : ℕ) → Runs p f w SEEK_ACTS (drop 1 SEEK_ACTS) (three memory walked.word) (Returns y) s' k → Runs p f w SEEK_ACTS SEEK_ACTS (three memory 0) (Returns y) s' (suc walked.count + k)
  to_test y s' k rest =
      let room = has.mapped.room in
      calls {f' = 0} {w' = 0} {n = walked.count} {n' = k} {xs = (cells 16, 0, 0)} {s1 = state memory walked.locals' typed drawn output} {s2 = three memory walked.word} refl (rw (register p (three memory 0) cells 32 arg.holds (omega arith) (omega arith) (omega arith)) refl) (walk_at p has) (omega arith) (omega arith) walked.runs (put_3 p memory next all 0 walked.word [] typed drawn output) rest

  less : (t : Bool) → compared comparisons.Less walked.word 49152 ≡ t → answer_of p (three memory walked.word) (record { comparison = comparisons.Less; first = atoms.Var 3; second = atoms.Num 49152; answer = true }) ≡ Some t
  less t e = tested p (three memory walked.word) comparisons.Less (atoms.Var 3) (atoms.Num 49152) true walked.word 49152 t (local_3 p memory next all walked.word [] typed drawn output) refl e

  seeks_all : (x : ℕ) → walk S v ≡ Var x → SeeksAll p f w memory typed output drawn next all cells (5 * links S v + 8)
  unfolding behind_label
  seeks_all x e =
      let room = has.mapped.room in
      let is = variable_word (subst (Shows sh walked.word) e walked.shows) in
      let place = arg.shape.within x is.old in
      let put = puts p (three memory walked.word) cells 27 0 arg.holds (omega arith) (omega arith) (omega arith) (omega arith) in
      let few = walked.few in
      let few' = end_few (walk S v) in
      let test : compared comparisons.Less walked.word 49152 ≡ true = ap (λ (y : ℕ). compared comparisons.Less y 49152) is.is ∙ reference (sh.place x) (omega arith) in
      record {
        memory' = with_cell memory 11 0;
        cells' = replaced cells 11 0;
        holds = put.holds;
        key = same_cell cells 11 0;
        others = λ k ne. other_cell cells 11 0 k ne;
        locals' = next ∷ all ∷ walked.word ∷ [];
        count = suc walked.count + 3;
        few = omega arith;
        runs = to_test all _ 3 (taken (less true test) refl (done (copies p (three memory walked.word) (three (with_cell memory 11 0) walked.word) 27 (atoms.Num 0) 0 refl put.put_is) (returns (local_2 p (with_cell memory 11 0) next all (walked.word ∷ []) typed drawn output))));
      }

  seeks_one : (l : Label) (vs : Values) → walk S v ≡ Node l vs → SeeksOne p f w memory typed output drawn next all (5 * links S v + 8)
  seeks_one l vs e =
      let few = walked.few in
      let few' = end_few (walk S v) in
      record {
        locals' = next ∷ all ∷ walked.word ∷ [];
        count = suc walked.count + 2;
        few = omega arith;
        runs = to_test next _ 2 (passed (less false (node_word (subst (Shows sh walked.word) e walked.shows))) (returns (local_1 p memory next (all ∷ walked.word ∷ []) typed drawn output)));
      }

pub seek_works : SeekWorks
seek_works = record {
  all = λ p has f w some enough memory typed output drawn sh cells S v arg next all x e. seeks_all p has f w some enough memory typed output drawn sh cells S v arg next all x e;
  one = λ p has f w some enough memory typed output drawn sh cells S v arg next all l vs e. seeks_one p has f w some enough memory typed output drawn sh cells S v arg next all l vs e;
}

-- ## Behind a value

module _ (p : Program) (has : HasRunTime p) (f w : ℕ) (memory typed output : List ℕ) (drawn x y : ℕ) (cells : ℕ → ℕ) (h : Holds p.world.layout memory cells) where
  abbrev two : State
  two = state memory (x ∷ y ∷ []) typed drawn output

  clash_is : (t : Bool) → eqb (cells 13) 0 ≡ t → answer_of p two (record { comparison = comparisons.Equal; first = atoms.Var 29; second = atoms.Num 0; answer = true }) ≡ Some t
  clash_is t e = let room = has.mapped.room in tested p two comparisons.Equal (atoms.Var 29) (atoms.Num 0) true (cells 13) 0 t (register p two cells 29 h (omega arith) (omega arith) (omega arith)) refl e

  sought_goes : cells 13 ≡ 0 → Runs p f w SOUGHT_ACTS SOUGHT_ACTS two (Returns x) two 2
  unfolding behind_label
  sought_goes e = taken (clash_is true (eq-eqb (cells 13) 0 e)) refl (returns (local_1 p memory x (y ∷ []) typed drawn output))

  sought_fails : cells 13 ≢ 0 → Runs p f w SOUGHT_ACTS SOUGHT_ACTS two (Returns y) two 2
  sought_fails ne = passed (clash_is false (ne_eqb (cells 13) 0 ne)) (returns (local_2 p memory x y [] typed drawn output))

pub sought_works : SoughtWorks
sought_works = record {
  goes = λ p has f w memory typed output drawn x y cells h e. sought_goes p has f w memory typed output drawn x y cells h e;
  fails = λ p has f w memory typed output drawn x y cells h ne. sought_fails p has f w memory typed output drawn x y cells h ne;
}

-- ## Whether it is an object

module _ (p : Program) (f w : ℕ) (memory typed output : List ℕ) (drawn next : ℕ) where
  abbrev at : ℕ → State
  at k = state memory (k ∷ next ∷ []) typed drawn output

  record Answers (k : ℕ) (b : Bool) : Type 0 where
    count : ℕ
    few : count ≤ 3
    runs : Runs p f w IF_OBJECT_ACTS (drop 1 IF_OBJECT_ACTS) (at k) (Returns (next_if p b next)) (at k) count

  below : (k x : ℕ) (t : Bool) → compared comparisons.Less k x ≡ t → answer_of p (at k) (record { comparison = comparisons.Less; first = atoms.Var 1; second = atoms.Num x; answer = true }) ≡ Some t
  below k x t e = tested p (at k) comparisons.Less (atoms.Var 1) (atoms.Num x) true k x t (local_1 p memory k (next ∷ []) typed drawn output) refl e

  is_low : (k : ℕ) → compared comparisons.Less k 24576 ≡ true → Answers k false
  unfolding behind_label
  is_low k e = record { count = 2; few = omega arith; runs = taken (below k 24576 true e) refl (returns refl) }

  is_one : (k : ℕ) → 24576 ≤ k → k < 28672 → Answers k true
  unfolding behind_label
  is_one k le lt = record { count = 3; few = omega arith; runs = passed (below k 24576 false (not_less_by k 24576 (omega arith) (omega arith) le)) (taken (below k 28672 true (less_by k 28672 (omega arith) (omega arith) lt)) refl (returns (local_2 p memory k next [] typed drawn output))) }

  is_past : (k : ℕ) → 28672 ≤ k → k < 32768 → Answers k false
  unfolding behind_label
  is_past k le lt = record { count = 3; few = omega arith; runs = passed (below k 24576 false (not_less_by k 24576 lt (omega arith) (omega arith))) (passed (below k 28672 false (not_less_by k 28672 lt (omega arith) le)) (at_fail k)) }
    where
      at_fail : (k' : ℕ) → Runs p f w IF_OBJECT_ACTS (drop 3 IF_OBJECT_ACTS) (at k') (Returns (p.names.routine FAIL)) (at k') 1
      at_fail k' = at_label (returns refl)

  if_object : (v : Value) (k : ℕ) → KeyIs v k → Answers k (is_object v)
  if_object (Var x) k is = is_low k (high_is_less k 24576 (omega arith) (omega arith) (omega arith))
  if_object (Node (Num n) vs) k is = is_low k (less_by k 24576 (omega (arith, is.0, is.1)) (omega arith) (omega (arith, is.0, is.1)))
  if_object (Node (Word n) vs) k is = is_low k (less_by k 24576 (omega (arith, is.0, is.1)) (omega arith) (omega (arith, is.0, is.1)))
  if_object (Node (Unknown spelling) vs) k is = is_past k (omega (arith, is.0)) (omega (arith, is.0))
  if_object (Node (Object n) vs) k is = is_one k (omega (arith, is.0, is.1)) (omega (arith, is.0, is.1))
  if_object (Node Nil vs) k is = is_past k (omega (arith, is.0)) (omega (arith, is.0))
  if_object (Node Pair vs) k is = is_past k (omega (arith, is.0)) (omega (arith, is.0))
  if_object (Node (Closure place) vs) k is = is_low k (high_is_less k 24576 (omega (arith, is.0, is.1)) (omega (arith, is.0, is.1)) (omega arith))

pub object_works : ObjectWorks
object_works p has f w some enough memory typed output drawn sh is cells h S st x next v s =
    let r = key_works p has 1 4 (omega arith) (omega arith) memory typed output drawn sh is cells h S st x v s in
    let a = if_object p f w memory typed output drawn next (walk S v) r.key r.is in
    let few = r.few in
    let few' = a.few in
    record {
      locals' = r.key ∷ next ∷ [];
      count = suc r.count + a.count;
      few = omega arith;
      runs = calls {f' = 1} {w' = 4} {n = r.count} {n' = a.count} {xs = (x, 0, 0)} {s1 = state memory r.locals' typed drawn output} {s2 = at p f w memory typed output drawn next r.key} refl (rw (local_1 p memory x (next ∷ []) typed drawn output) refl) (key_of_at p has) (omega arith) (omega arith) r.runs (put_1 p memory x r.key (next ∷ []) typed drawn output) a.runs;
    }
