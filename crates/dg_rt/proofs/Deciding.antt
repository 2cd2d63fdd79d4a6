-- The routines that test a value decide by what it is.
use Rattle.std.proofs.Common.{◌≡◌, ◌≢◌, ℕ, suc, ◌+◌, ◌*◌, ◌<◌, ◌≤◌, Bool, true, false, List, [], ◌∷◌, drop, None, Some, refl, arith}
use Rattle.std.specs.Prelude.{eqb}
use Rattle.std.proofs.lemmas.Bool.{eq-eqb, ne_eqb}
use Rattle.dg_base.specs.declared.program.TestKind.TheVariants as test
use Rattle.dg_meaning.specs.Values.{Num, Word, Unknown, Object, Nil, Pair, Closure, Value, Var, Node}
use Rattle.dg_meaning.specs.Substitutions.{Substitution, walk, links, resolved}
use Rattle.dg_meaning.specs.inside.Unifiers.{binding_of}
use Rattle.dg_meaning.specs.TypeTests.{top_passes, is_fully_bound}
use Rattle.dg_meaning.specs.Unify.{looks}
use Rattle.z_lang.specs.declared.act.Act.{Act}
use Rattle.z_lang.specs.declared.act.Act.TheVariants as acts
use Rattle.z_lang.specs.declared.act.Args.TheVariants as args
use Rattle.z_lang.specs.declared.act.Atom.TheVariants as atoms
use Rattle.z_lang.specs.declared.act.Comparison.TheVariants as comparisons
use Rattle.z_lang.specs.State.{State, Program}
use Rattle.z_lang.specs.Acts.{answer_of}
use Rattle.z_lang.specs.Runs.{ActsRun as Runs, Returns, at_label, taken, passed, calls, returns, behind_label}
use Rattle.dg_rt.specs.declared.numbers.TheConstants.{FAIL, KEY_OF}
use Rattle.dg_rt.specs.declared.conditions.TheConstants.{IF_NUMBER_ACTS, IF_WORD_ACTS, IF_UNKNOWN_ACTS, IF_LIST_ACTS, IF_EMPTY_ACTS, IF_NON_EMPTY_ACTS, IF_BOUND_ACTS, IF_FULL_ACTS, IF_UNBOUND_ACTS}
use Rattle.dg_rt.specs.Cells.{compared, Holds, bit}
use Rattle.dg_rt.specs.Areas.{state}
use Rattle.dg_rt.specs.Shapes.{Shape, IsShape, Shows, Stands}
use Rattle.dg_rt.specs.RunTime.{HasRunTime}
use Rattle.dg_rt.specs.Rules.{KeyIs}
use Rattle.dg_rt.specs.Conditions.{next_if, Decides, TestsWork}
use Rattle.dg_rt.proofs.Absent.{next_absent}
use Rattle.dg_rt.proofs.Following.{tested, local_1, local_2, put_1}
use Rattle.dg_rt.proofs.FullBound.{full_works}
use Rattle.dg_rt.proofs.Keying.{key_works}
use Rattle.dg_rt.proofs.Locals.{less_by, not_less_by, high_is_less}
use Rattle.dg_rt.proofs.Standing.{key_of_at, full_at}

module _ (p : Program) (f w : ℕ) (memory typed output : List ℕ) (drawn next : ℕ) where
  abbrev at : ℕ → State
  at k = state memory (k ∷ next ∷ []) typed drawn output

  -- Behind what is told of a value it is answered which routine comes next.
  record Answers (most : ℕ) (body more : List Act) (k : ℕ) (b : Bool) : Type 0 where
    count : ℕ
    few : count ≤ most
    runs : Runs p f w body more (at k) (Returns (next_if p b next)) (at k) count

  equal : (k x : ℕ) (t answer : Bool) → eqb k x ≡ t → answer_of p (at k) (record { comparison = comparisons.Equal; first = atoms.Var 1; second = atoms.Num x; answer = answer }) ≡ Some t
  equal k x t answer e = tested p (at k) comparisons.Equal (atoms.Var 1) (atoms.Num x) answer k x t (local_1 p memory k (next ∷ []) typed drawn output) refl e

  less : (k x : ℕ) (t answer : Bool) → compared comparisons.Less k x ≡ t → answer_of p (at k) (record { comparison = comparisons.Less; first = atoms.Var 1; second = atoms.Num x; answer = answer }) ≡ Some t
  less k x t answer e = tested p (at k) comparisons.Less (atoms.Var 1) (atoms.Num x) answer k x t (local_1 p memory k (next ∷ []) typed drawn output) refl e

  -- ---- one key

  abbrev the_last : List Act
  the_last = acts.Return (atoms.Var 2) ∷ []

  abbrev one_key : ℕ → Bool → List Act
  one_key x answer = acts.When (record { comparison = comparisons.Equal; first = atoms.Var 1; second = atoms.Num x; answer = answer }) 0 ∷ acts.Return (atoms.Routine FAIL) ∷ acts.Label 0 ∷ the_last

  key_yes : (body : List Act) (x k : ℕ) → behind_label 0 body ≡ Some the_last → k ≡ x → Answers 2 body (one_key x true) k true
  key_yes body x k there e = record { count = 2; few = omega arith; runs = taken (equal k x true true (eq-eqb k x e)) there (returns (local_2 p memory k next [] typed drawn output)) }

  key_no : (body : List Act) (x k : ℕ) → k ≢ x → Answers 2 body (one_key x true) k false
  key_no body x k ne = record { count = 2; few = omega arith; runs = passed (equal k x false true (ne_eqb k x ne)) (returns refl) }

  other_yes : (body : List Act) (x k : ℕ) → behind_label 0 body ≡ Some the_last → k ≢ x → Answers 2 body (one_key x false) k true
  other_yes body x k there ne = record { count = 2; few = omega arith; runs = taken (equal k x false false (ne_eqb k x ne)) there (returns (local_2 p memory k next [] typed drawn output)) }

  other_no : (body : List Act) (x k : ℕ) → k ≡ x → Answers 2 body (one_key x false) k false
  other_no body x k e = record { count = 2; few = omega arith; runs = passed (equal k x true false (eq-eqb k x e)) (returns refl) }

  -- ---- keys in a row

  abbrev low_fails : List Act
  low_fails = acts.Return (atoms.Routine FAIL) ∷ acts.Label 1 ∷ the_last

  abbrev keys : ℕ → ℕ → List Act
  keys low high =
      acts.When (record { comparison = comparisons.Less; first = atoms.Var 1; second = atoms.Num low; answer = true }) 0
      ∷ acts.When (record { comparison = comparisons.Less; first = atoms.Var 1; second = atoms.Num high; answer = true }) 1 ∷ acts.Label 0 ∷ low_fails

  keys_low : (body : List Act) (low high k : ℕ) → behind_label 0 body ≡ Some low_fails → compared comparisons.Less k low ≡ true → Answers 3 body (keys low high) k false
  keys_low body low high k there e = record { count = 2; few = omega arith; runs = taken (less k low true true e) there (returns refl) }

  keys_in : (body : List Act) (low high k : ℕ) → behind_label 1 body ≡ Some the_last → compared comparisons.Less k low ≡ false → compared comparisons.Less k high ≡ true → Answers 3 body (keys low high) k true
  keys_in body low high k there e e' = record { count = 3; few = omega arith; runs = passed (less k low false true e) (taken (less k high true true e') there (returns (local_2 p memory k next [] typed drawn output))) }

  keys_past : (body : List Act) (low high k : ℕ) → compared comparisons.Less k low ≡ false → compared comparisons.Less k high ≡ false → Answers 3 body (keys low high) k false
  keys_past body low high k e e' = record { count = 3; few = omega arith; runs = passed (less k low false true e) (passed (less k high false true e') (at_label (returns refl))) }

  -- ---- numbers

  number_low : (k : ℕ) → k < 16384 → Answers 3 IF_NUMBER_ACTS (keys 0 16384) k true
  unfolding behind_label
  number_low k lt = keys_in IF_NUMBER_ACTS 0 16384 k refl (not_less_by k 0 (omega arith) (omega arith) (omega arith)) (less_by k 16384 (omega arith) (omega arith) lt)

  number_other : (k : ℕ) → 16384 ≤ k → k < 32768 → Answers 3 IF_NUMBER_ACTS (keys 0 16384) k false
  number_other k le lt = keys_past IF_NUMBER_ACTS 0 16384 k (not_less_by k 0 lt (omega arith) (omega arith)) (not_less_by k 16384 lt (omega arith) le)

  number_high : (k : ℕ) → 32768 ≤ k → k < 65536 → Answers 3 IF_NUMBER_ACTS (keys 0 16384) k false
  unfolding behind_label
  number_high k le lt = keys_low IF_NUMBER_ACTS 0 16384 k refl (high_is_less k 0 le lt (omega arith))

  if_number : (v : Value) (k : ℕ) → KeyIs v k → Answers 3 IF_NUMBER_ACTS (drop 1 IF_NUMBER_ACTS) k (top_passes test.Number v)
  if_number (Var x) k is = number_high k (omega arith) (omega arith)
  if_number (Node (Num n) vs) k is = number_low k (omega (arith, is.0, is.1))
  if_number (Node (Word n) vs) k is = number_other k (omega (arith, is.0, is.1)) (omega (arith, is.0, is.1))
  if_number (Node (Unknown spelling) vs) k is = number_other k (omega (arith, is.0)) (omega (arith, is.0))
  if_number (Node (Object n) vs) k is = number_other k (omega (arith, is.0, is.1)) (omega (arith, is.0, is.1))
  if_number (Node Nil vs) k is = number_other k (omega (arith, is.0)) (omega (arith, is.0))
  if_number (Node Pair vs) k is = number_other k (omega (arith, is.0)) (omega (arith, is.0))
  if_number (Node (Closure place) vs) k is = number_high k (omega (arith, is.0, is.1)) (omega (arith, is.0, is.1))

  -- ---- words

  word_by : (k : ℕ) (b : Bool) → k ≢ 28674 → Answers 3 IF_WORD_ACTS (keys 16384 24576) k b → Answers 4 IF_WORD_ACTS (drop 1 IF_WORD_ACTS) k b
  word_by k b ne a = let few = a.few in record { count = suc a.count; few = omega arith; runs = passed (equal k 28674 false true (ne_eqb k 28674 ne)) a.runs }

  word_low : (k : ℕ) → k < 16384 → Answers 4 IF_WORD_ACTS (drop 1 IF_WORD_ACTS) k false
  unfolding behind_label
  word_low k lt = word_by k false (λ (e : k ≡ 28674). (omega arith)) (keys_low IF_WORD_ACTS 16384 24576 k refl (less_by k 16384 (omega arith) (omega arith) lt))

  word_high : (k : ℕ) → 32768 ≤ k → k < 65536 → Answers 4 IF_WORD_ACTS (drop 1 IF_WORD_ACTS) k false
  unfolding behind_label
  word_high k le lt = word_by k false (λ (e : k ≡ 28674). (omega arith)) (keys_low IF_WORD_ACTS 16384 24576 k refl (high_is_less k 16384 le lt (omega arith)))

  word_in_program : (k : ℕ) → 16384 ≤ k → k < 24576 → Answers 4 IF_WORD_ACTS (drop 1 IF_WORD_ACTS) k true
  unfolding behind_label
  word_in_program k le lt = word_by k true (λ (e : k ≡ 28674). (omega arith)) (keys_in IF_WORD_ACTS 16384 24576 k refl (not_less_by k 16384 (omega arith) (omega arith) le) (less_by k 24576 (omega arith) (omega arith) lt))

  word_past : (k : ℕ) → 24576 ≤ k → k < 28674 → Answers 4 IF_WORD_ACTS (drop 1 IF_WORD_ACTS) k false
  word_past k le lt = word_by k false (λ (e : k ≡ 28674). (omega arith)) (keys_past IF_WORD_ACTS 16384 24576 k (not_less_by k 16384 (omega arith) (omega arith) (omega arith)) (not_less_by k 24576 (omega arith) (omega arith) le))

  word_unknown : (k : ℕ) → k ≡ 28674 → Answers 4 IF_WORD_ACTS (drop 1 IF_WORD_ACTS) k true
  unfolding behind_label
  word_unknown k e = record { count = 2; few = omega arith; runs = taken (equal k 28674 true true (eq-eqb k 28674 e)) refl (returns (local_2 p memory k next [] typed drawn output)) }

  if_word : (v : Value) (k : ℕ) → KeyIs v k → Answers 4 IF_WORD_ACTS (drop 1 IF_WORD_ACTS) k (top_passes test.Word v)
  if_word (Var x) k is = word_high k (omega arith) (omega arith)
  if_word (Node (Num n) vs) k is = word_low k (omega (arith, is.0, is.1))
  if_word (Node (Word n) vs) k is = word_in_program k (omega (arith, is.0, is.1)) (omega (arith, is.0, is.1))
  if_word (Node (Unknown spelling) vs) k is = word_unknown k is.0
  if_word (Node (Object n) vs) k is = word_past k (omega (arith, is.0, is.1)) (omega (arith, is.0, is.1))
  if_word (Node Nil vs) k is = word_past k (omega (arith, is.0)) (omega (arith, is.0))
  if_word (Node Pair vs) k is = word_past k (omega (arith, is.0)) (omega (arith, is.0))
  if_word (Node (Closure place) vs) k is = word_high k (omega (arith, is.0, is.1)) (omega (arith, is.0, is.1))

  -- ---- lists

  list_low : (k : ℕ) → k < 28672 → Answers 3 IF_LIST_ACTS (keys 28672 28674) k false
  unfolding behind_label
  list_low k lt = keys_low IF_LIST_ACTS 28672 28674 k refl (less_by k 28672 (omega arith) (omega arith) lt)

  list_high : (k : ℕ) → 32768 ≤ k → k < 65536 → Answers 3 IF_LIST_ACTS (keys 28672 28674) k false
  unfolding behind_label
  list_high k le lt = keys_low IF_LIST_ACTS 28672 28674 k refl (high_is_less k 28672 le lt (omega arith))

  list_in : (k : ℕ) → 28672 ≤ k → k < 28674 → Answers 3 IF_LIST_ACTS (keys 28672 28674) k true
  unfolding behind_label
  list_in k le lt = keys_in IF_LIST_ACTS 28672 28674 k refl (not_less_by k 28672 (omega arith) (omega arith) le) (less_by k 28674 (omega arith) (omega arith) lt)

  list_past : (k : ℕ) → k ≡ 28674 → Answers 3 IF_LIST_ACTS (keys 28672 28674) k false
  list_past k e = keys_past IF_LIST_ACTS 28672 28674 k (not_less_by k 28672 (omega arith) (omega arith) (omega arith)) (not_less_by k 28674 (omega arith) (omega arith) (omega arith))

  if_list : (v : Value) (k : ℕ) → KeyIs v k → Answers 3 IF_LIST_ACTS (drop 1 IF_LIST_ACTS) k (top_passes test.List v)
  if_list (Var x) k is = list_high k (omega arith) (omega arith)
  if_list (Node (Num n) vs) k is = list_low k (omega (arith, is.0, is.1))
  if_list (Node (Word n) vs) k is = list_low k (omega (arith, is.0, is.1))
  if_list (Node (Unknown spelling) vs) k is = list_past k is.0
  if_list (Node (Object n) vs) k is = list_low k (omega (arith, is.0, is.1))
  if_list (Node Nil vs) k is = list_in k (omega (arith, is.0)) (omega (arith, is.0))
  if_list (Node Pair vs) k is = list_in k (omega (arith, is.0)) (omega (arith, is.0))
  if_list (Node (Closure place) vs) k is = list_high k (omega (arith, is.0, is.1)) (omega (arith, is.0, is.1))

  -- ---- one key

  if_unknown : (v : Value) (k : ℕ) → KeyIs v k → Answers 2 IF_UNKNOWN_ACTS (drop 1 IF_UNKNOWN_ACTS) k (top_passes test.UnknownWord v)
  unfolding behind_label
  if_unknown (Var x) k is = key_no IF_UNKNOWN_ACTS 28674 k (λ (e : k ≡ 28674). (omega arith))
  if_unknown (Node (Num n) vs) k is = key_no IF_UNKNOWN_ACTS 28674 k (λ (e : k ≡ 28674). (omega (arith, is.0, is.1)))
  if_unknown (Node (Word n) vs) k is = key_no IF_UNKNOWN_ACTS 28674 k (λ (e : k ≡ 28674). (omega (arith, is.0, is.1)))
  if_unknown (Node (Unknown spelling) vs) k is = key_yes IF_UNKNOWN_ACTS 28674 k refl is.0
  if_unknown (Node (Object n) vs) k is = key_no IF_UNKNOWN_ACTS 28674 k (λ (e : k ≡ 28674). (omega (arith, is.0, is.1)))
  if_unknown (Node Nil vs) k is = key_no IF_UNKNOWN_ACTS 28674 k (λ (e : k ≡ 28674). (omega (arith, is.0)))
  if_unknown (Node Pair vs) k is = key_no IF_UNKNOWN_ACTS 28674 k (λ (e : k ≡ 28674). (omega (arith, is.0)))
  if_unknown (Node (Closure place) vs) k is = key_no IF_UNKNOWN_ACTS 28674 k (λ (e : k ≡ 28674). (omega (arith, is.0, is.1)))

  if_empty : (v : Value) (k : ℕ) → KeyIs v k → Answers 2 IF_EMPTY_ACTS (drop 1 IF_EMPTY_ACTS) k (top_passes test.Empty v)
  unfolding behind_label
  if_empty (Var x) k is = key_no IF_EMPTY_ACTS 28672 k (λ (e : k ≡ 28672). (omega arith))
  if_empty (Node (Num n) vs) k is = key_no IF_EMPTY_ACTS 28672 k (λ (e : k ≡ 28672). (omega (arith, is.0, is.1)))
  if_empty (Node (Word n) vs) k is = key_no IF_EMPTY_ACTS 28672 k (λ (e : k ≡ 28672). (omega (arith, is.0, is.1)))
  if_empty (Node (Unknown spelling) vs) k is = key_no IF_EMPTY_ACTS 28672 k (λ (e : k ≡ 28672). (omega (arith, is.0)))
  if_empty (Node (Object n) vs) k is = key_no IF_EMPTY_ACTS 28672 k (λ (e : k ≡ 28672). (omega (arith, is.0, is.1)))
  if_empty (Node Nil vs) k is = key_yes IF_EMPTY_ACTS 28672 k refl is.0
  if_empty (Node Pair vs) k is = key_no IF_EMPTY_ACTS 28672 k (λ (e : k ≡ 28672). (omega (arith, is.0)))
  if_empty (Node (Closure place) vs) k is = key_no IF_EMPTY_ACTS 28672 k (λ (e : k ≡ 28672). (omega (arith, is.0, is.1)))

  if_non_empty : (v : Value) (k : ℕ) → KeyIs v k → Answers 2 IF_NON_EMPTY_ACTS (drop 1 IF_NON_EMPTY_ACTS) k (top_passes test.NonEmpty v)
  unfolding behind_label
  if_non_empty (Var x) k is = key_no IF_NON_EMPTY_ACTS 28673 k (λ (e : k ≡ 28673). (omega arith))
  if_non_empty (Node (Num n) vs) k is = key_no IF_NON_EMPTY_ACTS 28673 k (λ (e : k ≡ 28673). (omega (arith, is.0, is.1)))
  if_non_empty (Node (Word n) vs) k is = key_no IF_NON_EMPTY_ACTS 28673 k (λ (e : k ≡ 28673). (omega (arith, is.0, is.1)))
  if_non_empty (Node (Unknown spelling) vs) k is = key_no IF_NON_EMPTY_ACTS 28673 k (λ (e : k ≡ 28673). (omega (arith, is.0)))
  if_non_empty (Node (Object n) vs) k is = key_no IF_NON_EMPTY_ACTS 28673 k (λ (e : k ≡ 28673). (omega (arith, is.0, is.1)))
  if_non_empty (Node Nil vs) k is = key_no IF_NON_EMPTY_ACTS 28673 k (λ (e : k ≡ 28673). (omega (arith, is.0)))
  if_non_empty (Node Pair vs) k is = key_yes IF_NON_EMPTY_ACTS 28673 k refl is.0
  if_non_empty (Node (Closure place) vs) k is = key_no IF_NON_EMPTY_ACTS 28673 k (λ (e : k ≡ 28673). (omega (arith, is.0, is.1)))

  if_unbound : (v : Value) (k : ℕ) → KeyIs v k → Answers 2 IF_UNBOUND_ACTS (drop 1 IF_UNBOUND_ACTS) k (top_passes test.Unbound v)
  unfolding behind_label
  if_unbound (Var x) k is = key_yes IF_UNBOUND_ACTS 32768 k refl is
  if_unbound (Node (Num n) vs) k is = key_no IF_UNBOUND_ACTS 32768 k (λ (e : k ≡ 32768). (omega (arith, is.0, is.1)))
  if_unbound (Node (Word n) vs) k is = key_no IF_UNBOUND_ACTS 32768 k (λ (e : k ≡ 32768). (omega (arith, is.0, is.1)))
  if_unbound (Node (Unknown spelling) vs) k is = key_no IF_UNBOUND_ACTS 32768 k (λ (e : k ≡ 32768). (omega (arith, is.0)))
  if_unbound (Node (Object n) vs) k is = key_no IF_UNBOUND_ACTS 32768 k (λ (e : k ≡ 32768). (omega (arith, is.0, is.1)))
  if_unbound (Node Nil vs) k is = key_no IF_UNBOUND_ACTS 32768 k (λ (e : k ≡ 32768). (omega (arith, is.0)))
  if_unbound (Node Pair vs) k is = key_no IF_UNBOUND_ACTS 32768 k (λ (e : k ≡ 32768). (omega (arith, is.0)))
  if_unbound (Node (Closure place) vs) k is = key_no IF_UNBOUND_ACTS 32768 k (λ (e : k ≡ 32768). (omega (arith, is.0, is.1)))

  if_bound : (v : Value) (k : ℕ) → KeyIs v k → Answers 2 IF_BOUND_ACTS (drop 1 IF_BOUND_ACTS) k (top_passes test.Bound v)
  unfolding behind_label
  if_bound (Var x) k is = other_no IF_BOUND_ACTS 32768 k is
  if_bound (Node (Num n) vs) k is = other_yes IF_BOUND_ACTS 32768 k refl (λ (e : k ≡ 32768). (omega (arith, is.0, is.1)))
  if_bound (Node (Word n) vs) k is = other_yes IF_BOUND_ACTS 32768 k refl (λ (e : k ≡ 32768). (omega (arith, is.0, is.1)))
  if_bound (Node (Unknown spelling) vs) k is = other_yes IF_BOUND_ACTS 32768 k refl (λ (e : k ≡ 32768). (omega (arith, is.0)))
  if_bound (Node (Object n) vs) k is = other_yes IF_BOUND_ACTS 32768 k refl (λ (e : k ≡ 32768). (omega (arith, is.0, is.1)))
  if_bound (Node Nil vs) k is = other_yes IF_BOUND_ACTS 32768 k refl (λ (e : k ≡ 32768). (omega (arith, is.0)))
  if_bound (Node Pair vs) k is = other_yes IF_BOUND_ACTS 32768 k refl (λ (e : k ≡ 32768). (omega (arith, is.0)))
  if_bound (Node (Closure place) vs) k is = other_yes IF_BOUND_ACTS 32768 k refl (λ (e : k ≡ 32768). (omega (arith, is.0, is.1)))

  -- ---- values without variables

  if_full : (b : Bool) → Answers 2 IF_FULL_ACTS (drop 1 IF_FULL_ACTS) (bit b) b
  unfolding behind_label
  if_full true = other_yes IF_FULL_ACTS 0 1 refl (λ (e : 1 ≡ 0). (omega arith))
  if_full false = other_no IF_FULL_ACTS 0 0 refl

  -- ---- what a value is told to be

  module _ (has : HasRunTime p) (frames_left : 3336 ≤ f) (words_left : 10010 ≤ w) (sh : Shape) (is : IsShape sh) (cells : ℕ → ℕ) (h : Holds p.world.layout memory cells) (S : Substitution) (st : Stands sh cells S) where
    -- The key of a value is told first.
    abbrev asks : List Act → List Act
    asks more = acts.Call (Some 1) (atoms.Routine KEY_OF) (args.One (atoms.Var 1)) ∷ more

    by_its_key : (most : ℕ) (more : List Act) (answer : Value → Bool) → most ≤ 4 → ((v : Value) (k : ℕ) → KeyIs v k → Answers most (asks more) more k (answer v)) → (x : ℕ) (v : Value) → Shows sh x v → Decides p f w (asks more) memory (x ∷ next ∷ []) typed output drawn next (answer (walk S v)) (15 * (1 + links S v) + 5)
    by_its_key most more answer le by x v s =
        let r = key_works p has 1 4 (omega arith) (omega arith) memory typed output drawn sh is cells h S st x v s in
        let a = by (walk S v) r.key r.is in
        let few = r.few in
        let few' = a.few in
        record {
          locals' = r.key ∷ next ∷ [];
          count = suc r.count + a.count;
          few = omega arith;
          runs = calls {f' = 1} {w' = 4} {n = r.count} {n' = a.count} {xs = (x, 0, 0)} {s1 = state memory r.locals' typed drawn output} {s2 = at r.key} refl (rw (local_1 p memory x (next ∷ []) typed drawn output) refl) (key_of_at p has) (omega arith) (omega arith) r.runs (put_1 p memory x r.key (next ∷ []) typed drawn output) a.runs;
        }

    by_looks : ((n : ℕ) → sh.vars ≤ n → binding_of n S ≡ None) → (x : ℕ) (v : Value) → Shows sh x v → Decides p f w IF_FULL_ACTS memory (x ∷ next ∷ []) typed output drawn next (is_fully_bound (resolved S v)) (15 * looks S sh.vars v + 5)
    by_looks known x v s =
        let r = full_works p has memory typed output drawn sh is cells h S st x v s sh.vars (next_absent cells S st known s) in
        let b = is_fully_bound (resolved S v) in
        let a = if_full b in
        let few = r.few in
        let few' = a.few in
        record {
          locals' = bit b ∷ next ∷ [];
          count = suc r.count + a.count;
          few = omega arith;
          runs = calls {f' = 3335} {w' = 3 * 3335} {n = r.count} {n' = a.count} {xs = (x, 0, 0)} {s1 = state memory r.locals' typed drawn output} {s2 = at (bit b)} refl (rw (local_1 p memory x (next ∷ []) typed drawn output) refl) (full_at p has) (omega arith) (omega arith) r.runs (put_1 p memory x (bit b) (next ∷ []) typed drawn output) a.runs;
        }

pub tests_work : TestsWork
tests_work test.Number p has f w frames words memory typed output drawn sh is cells h S st known x next v s = by_its_key p f w memory typed output drawn next has frames words sh is cells h S st 3 (drop 1 IF_NUMBER_ACTS) (top_passes test.Number) (omega arith) (if_number p f w memory typed output drawn next) x v s
tests_work test.Word p has f w frames words memory typed output drawn sh is cells h S st known x next v s = by_its_key p f w memory typed output drawn next has frames words sh is cells h S st 4 (drop 1 IF_WORD_ACTS) (top_passes test.Word) (omega arith) (if_word p f w memory typed output drawn next) x v s
tests_work test.UnknownWord p has f w frames words memory typed output drawn sh is cells h S st known x next v s = by_its_key p f w memory typed output drawn next has frames words sh is cells h S st 2 (drop 1 IF_UNKNOWN_ACTS) (top_passes test.UnknownWord) (omega arith) (if_unknown p f w memory typed output drawn next) x v s
tests_work test.List p has f w frames words memory typed output drawn sh is cells h S st known x next v s = by_its_key p f w memory typed output drawn next has frames words sh is cells h S st 3 (drop 1 IF_LIST_ACTS) (top_passes test.List) (omega arith) (if_list p f w memory typed output drawn next) x v s
tests_work test.Empty p has f w frames words memory typed output drawn sh is cells h S st known x next v s = by_its_key p f w memory typed output drawn next has frames words sh is cells h S st 2 (drop 1 IF_EMPTY_ACTS) (top_passes test.Empty) (omega arith) (if_empty p f w memory typed output drawn next) x v s
tests_work test.NonEmpty p has f w frames words memory typed output drawn sh is cells h S st known x next v s = by_its_key p f w memory typed output drawn next has frames words sh is cells h S st 2 (drop 1 IF_NON_EMPTY_ACTS) (top_passes test.NonEmpty) (omega arith) (if_non_empty p f w memory typed output drawn next) x v s
tests_work test.Bound p has f w frames words memory typed output drawn sh is cells h S st known x next v s = by_its_key p f w memory typed output drawn next has frames words sh is cells h S st 2 (drop 1 IF_BOUND_ACTS) (top_passes test.Bound) (omega arith) (if_bound p f w memory typed output drawn next) x v s
tests_work test.Unbound p has f w frames words memory typed output drawn sh is cells h S st known x next v s = by_its_key p f w memory typed output drawn next has frames words sh is cells h S st 2 (drop 1 IF_UNBOUND_ACTS) (top_passes test.Unbound) (omega arith) (if_unbound p f w memory typed output drawn next) x v s
tests_work test.FullyBound p has f w frames words memory typed output drawn sh is cells h S st known x next v s = by_looks p f w memory typed output drawn next has frames words sh is cells h S st known x v s
