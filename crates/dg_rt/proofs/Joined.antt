-- The routine that joins words does so.
use Rattle.std.proofs.Common.{◌≡◌, ◌≢◌, ℕ, suc, ◌+◌, ◌*◌, ◌<◌, ◌≤◌, Bool, true, false, List, [], ◌∷◌, ◌++◌, drop, length, get_or, Option, Some, None, refl, sym, ap, ◌∙◌, subst, arith}
use Rattle.std.specs.Prelude.{◌==◌, encode_utf8_all}
use Rattle.std.proofs.lemmas.Bool.{eq-eqb, ne_eqb, le-leb, lt-leb}
use Rattle.std.proofs.lemmas.Nat.{mul-le}
use Rattle.dg_base.specs.declared.run.Ending.TheVariants.{HeapLimit}
use Rattle.dg_base.specs.Sound.{IsName}
use Rattle.dg_meaning.specs.Copies.{copy_cells}
use Rattle.dg_meaning.specs.Substitutions.{Substitution, walk, links, resolved}
use Rattle.dg_meaning.specs.inside.Substitutions.{all_resolved}
use Rattle.dg_meaning.specs.Unify.{same_spelling, size, looks}
use Rattle.dg_meaning.specs.Values.{Label, Num, Word, Unknown, Object, Nil, Pair, Closure, Value, Var, Node, Values, NoMore, More, leaf, pair}
use Rattle.dg_meaning.specs.Words.{few_enough, letters_in_list, joined_letters, word_from, spelled_value, reading}
use Rattle.dg_meaning.proofs.Walks.{walked, resolved_unbound}
use Rattle.z_model.specs.declared.end.Halt.TheVariants.{AtQuit}
use Rattle.z_lang.specs.declared.act.Act.{Act}
use Rattle.z_lang.specs.declared.act.Atom.TheVariants as atoms
use Rattle.z_lang.specs.declared.act.Comparison.TheVariants as comparisons
use Rattle.z_lang.specs.declared.act.Width.TheVariants as widths
use Rattle.z_lang.specs.State.{State, Program}
use Rattle.z_lang.specs.Acts.{answer_of}
use Rattle.z_lang.specs.Runs.{ActsRun as Runs, ActsOutcome as Outcome, Returns, Stops, at_label, goes, taken, passed, done, calls, calls_last, returns, behind_label}
use Rattle.z_lang.specs.Standing.{IsKept}
use Rattle.dg_rt.specs.declared.numbers.TheConstants.{SPELLED, WRITTEN_VALUE, LIST_LETTERS}
use Rattle.dg_rt.specs.declared.typing.TheConstants.{SPELLED_ACTS, WRITTEN_VALUE_ACTS}
use Rattle.dg_rt.specs.declared.joining.TheConstants.{LIST_LETTERS_ACTS, JOIN_ACTS}
use Rattle.dg_rt.specs.Cells.{at_cell, with_cell, replaced, compared, Holds}
use Rattle.dg_rt.specs.Areas.{state}
use Rattle.dg_rt.specs.Charges.{MeetsLimit}
use Rattle.dg_rt.specs.Closings.{closing}
use Rattle.dg_rt.specs.Copies.{words_of, Row}
use Rattle.dg_rt.specs.Joins.{JoinWorks}
use Rattle.dg_rt.specs.Making.{IsGiven, LaysNone, LaysOn, making_most}
use Rattle.dg_rt.specs.RunTime.{routine_of, HasRunTime}
use Rattle.dg_rt.specs.Shapes.{Shape, Shows, ArePrinted, number, dict, object, nil, variable, boxed, Filled, pair_in, closure_in, word_in, Stands}
use Rattle.dg_rt.specs.Typing.{IsWritten}
use Rattle.dg_rt.proofs.Cells.{holds_with, writes_cell, other_cell, same_cell}
use Rattle.dg_rt.proofs.CopySteps.{stands_away}
use Rattle.dg_rt.proofs.Following.{tested, copies, writes, local_1, local_2, put_2}
use Rattle.dg_rt.proofs.FullSteps.{LookingThrough, Absent, resolved_walked, resolved_as}
use Rattle.dg_rt.proofs.JoinedLists.{some_looks, pair_looks, ending_few, refuses, list_letters}
use Rattle.dg_rt.proofs.JoinedRows.{Puts, in_row, past_row}
use Rattle.dg_rt.proofs.LaySteps.{kept_cell}
use Rattle.dg_rt.proofs.LineValues.{one_value}
use Rattle.dg_rt.proofs.ListKind.{list_kind}
use Rattle.dg_rt.proofs.Locals.{more_by, not_more_by}
use Rattle.dg_rt.proofs.Spellings.{none_behind}
use Rattle.dg_rt.proofs.FindingWords.{AreSmall, name_small}
use Rattle.dg_rt.proofs.SpelledCells.{short_cells, spelled_works}
use Rattle.dg_rt.proofs.Standing.{walk_at}
use Rattle.dg_rt.proofs.Walking.{walk_works}
use Rattle.dg_rt.proofs.WrittenValues.{written_works}

module _ (p : Program) (has : HasRunTime p) where
  list_letters_at : p.routine_at (p.names.routine LIST_LETTERS) ≡ Some (routine_of 3 LIST_LETTERS_ACTS)
  list_letters_at = has.each 133 (routine_of 3 LIST_LETTERS_ACTS) refl

  spelled_at : p.routine_at (p.names.routine SPELLED) ≡ Some (routine_of 4 SPELLED_ACTS)
  spelled_at = has.each 117 (routine_of 4 SPELLED_ACTS) refl

  written_value_at : p.routine_at (p.names.routine WRITTEN_VALUE) ≡ Some (routine_of 2 WRITTEN_VALUE_ACTS)
  written_value_at = has.each 121 (routine_of 2 WRITTEN_VALUE_ACTS) refl

-- ## No letters

-- Each word of a program has letters, so none is spelled by none.
no_letters : (words rest : List (List ℕ)) (n : ℕ) → ((i : ℕ) → i < length words → IsName (get_or words i [])) → ((i : ℕ) → get_or rest i [] ≡ get_or words (n + i) []) → n + length rest ≡ length words → word_from n rest [] ≡ leaf (Unknown [])
no_letters words [] n names same total = refl
no_letters words (x ∷ rest) n names same total =
    let name : IsName x = subst IsName (sym (same 0)) (names (n + 0) (omega arith)) in
    rw (apart' x name) (no_letters words rest (suc n) names (λ i. same (suc i) ∙ ap (λ (j : ℕ). get_or words j []) (omega arith)) (omega arith))
  where
    apart' : (bytes : List ℕ) → IsName bytes → same_spelling bytes [] ≡ false
    apart' bytes name = ap (λ (l : List ℕ). same_spelling l []) name.encoded ∙ by_characters name.characters name.some (name_small bytes name)
      where
        by_characters : (cs : List ℕ) → cs ≢ [] → AreSmall cs → same_spelling (encode_utf8_all cs) [] ≡ false
        by_characters [] some small = absurd (some refl)
        by_characters (c ∷ cs) some small = none_behind c (encode_utf8_all cs) small.0.0

-- ## What can be joined

too_few : (xs : List ℕ) → length xs ≤ 200 → few_enough (Some xs) ≡ Some xs
too_few xs le = rw (le-leb (length xs) 200 le) refl

too_many : (m : Option (List ℕ)) → ((xs : List ℕ) → m ≡ Some xs → 200 < length xs) → few_enough m ≡ None
too_many None not = refl
too_many (Some xs) not = rw (lt-leb (length xs) 200 (not xs refl)) refl

module _ (p : Program) (story : List ℕ) (words : List (List ℕ)) (f w : ℕ) (some : 10 ≤ f) (enough : 40 ≤ w) (memory typed output : List ℕ) (drawn : ℕ) (cells : ℕ → ℕ) (sh : Shape) (S : Substitution) (x : ℕ) (v : Value) (g : IsGiven p story words memory cells sh S x v) (n : ℕ) where
  abbrev has : HasRunTime p
  has = g.told.has

  abbrev io : LookingThrough
  io = record { p = p; has = g.told.has; sh = sh; is = g.shape; memory = memory; typed = typed; output = output; drawn = drawn; cells = cells; h = g.holds; S = S; st = g.stands; n = n }

  abbrev now : List ℕ → ℕ → State
  now m b = state m (x ∷ b ∷ []) typed drawn output

  abbrev joined : Option (List ℕ)
  joined = joined_letters words (resolved S v)

  abbrev Run : List Act → State → Outcome → State → ℕ → Type 0
  Run acts s o s' i = Runs p f w JOIN_ACTS acts s o s' i

  -- Nothing is joined, or the letters stand in the row.
  data Came : Type 0 where
    nothing : joined ≡ None → LaysNone p f w JOIN_ACTS memory (x ∷ 0 ∷ []) typed output drawn cells (800 * looks S n v + 900) → Came
    letters : (xs m : List ℕ) (c' : ℕ → ℕ) (i : ℕ) → joined ≡ Some xs → ArePrinted xs → length xs ≤ 200 → Holds p.world.layout m c' → IsKept p.world.layout.base story m → Row c' 15600 xs →
        ((k : ℕ) → (15600 ≤ k → 15945 ≤ k) → c' k ≡ cells k) → i ≤ 65 * looks S n v + 15 * length xs + 10 →
        ((o : Outcome) (s' : State) (j : ℕ) → Run (drop 4 JOIN_ACTS) (now m (at_cell (15600 + length xs))) o s' j → Run JOIN_ACTS (now memory 0) o s' (i + j)) → Came

  -- the tests of what was answered
  is_nil : (m : List ℕ) (b : ℕ) (r : Bool) → (b == 28672) ≡ r → answer_of p (now m b) (record { comparison = comparisons.Equal; first = atoms.Var 2; second = atoms.Num 28672; answer = true }) ≡ Some r
  is_nil m b r e = tested p (now m b) comparisons.Equal (atoms.Var 2) (atoms.Num 28672) true b 28672 r (local_2 p m x b [] typed drawn output) refl e

  is_past : (m : List ℕ) (b : ℕ) (r : Bool) → compared comparisons.Greater b 31664 ≡ r → answer_of p (now m b) (record { comparison = comparisons.Greater; first = atoms.Var 2; second = atoms.Num 31664; answer = true }) ≡ Some r
  is_past m b r e = tested p (now m b) comparisons.Greater (atoms.Var 2) (atoms.Num 31664) true b 31664 r (local_2 p m x b [] typed drawn output) refl e

  -- behind the walk
  module _ (y wc : ℕ) (cheap : wc ≤ 5 * links S v + 4) (way : (o : Outcome) (s' : State) (i : ℕ) → Run (drop 1 JOIN_ACTS) (now memory y) o s' i → Run JOIN_ACTS (now memory 0) o s' (suc wc + i)) where
    of_nil : y ≡ 28672 → joined ≡ None → Came
    unfolding behind_label
    of_nil is none =
        let more = some_looks io story words g.spelled 10 40 (omega arith) (omega arith) v in
        nothing none (record {
          memory' = memory;
          cells' = cells;
          locals' = x ∷ y ∷ [];
          holds = g.holds;
          others = λ k far. refl;
          count = suc wc + 2;
          few = omega arith;
          runs = way (Returns 65535) (now memory y) 2 (taken (is_nil memory y true (eq-eqb y 28672 is)) refl (returns refl));
        })

    -- up to the call's answer
    to_answer : y ≢ 28672 → (z i j : ℕ) (m l : List ℕ) (o : Outcome) (s' : State) → Runs p 6 18 LIST_LETTERS_ACTS LIST_LETTERS_ACTS (state memory (x ∷ at_cell 15600 ∷ 0 ∷ []) typed drawn output) (Returns z) (state m l typed drawn output) i →
        Run (drop 3 JOIN_ACTS) (now m z) o s' j → Run JOIN_ACTS (now memory 0) o s' (suc wc + suc (suc i + j))
    to_answer ne z i j m l o s' r rest =
        way o s' (suc (suc i + j))
        (passed (is_nil memory y false (ne_eqb y 28672 ne))
        (calls {f' = 6} {w' = 18} {n = i} {n' = j} {xs = (x, 31264, 0)} {s2 = now m z} refl (rw (local_1 p memory x (y ∷ []) typed drawn output) refl) (list_letters_at p has) (omega arith) (omega arith) r (put_2 p m x y z [] typed drawn output)
        rest))

    of_refused : y ≢ 28672 → joined ≡ None → list_kind (walk S v) ≡ 0 → Came
    unfolding behind_label
    of_refused ne none kind =
        let more = some_looks io story words g.spelled 10 40 (omega arith) (omega arith) v in
        let r = refuses io story words g.spelled 6 18 (omega arith) (omega arith) memory cells g.holds g.kept g.stands 15600 (omega arith) (omega arith) x v g.shows kind in
        let few = r.few in
        nothing none (record {
          memory' = memory;
          cells' = cells;
          locals' = x ∷ 31666 ∷ [];
          holds = g.holds;
          others = λ k far. refl;
          count = suc wc + suc (suc r.count + 2);
          few = omega arith;
          runs = to_answer ne 31666 r.count 2 memory r.locals' (Returns 65535) (now memory 31666) r.runs (taken (is_past memory 31666 true refl) refl (returns refl));
        })

    of_list : (a t : Value) → y ≢ 28672 → walk S v ≡ pair a t → Absent io v → Came
    unfolding behind_label
    of_list a t ne e absent = by_row (list_letters io story words g.spelled 6 18 (omega arith) (omega arith) memory cells g.holds g.kept g.stands 15600 (omega arith) (omega arith) x v g.shows absent)
      where
        same : joined ≡ few_enough (letters_in_list words (resolved S v))
        same = rw (resolved_as io v Pair (More a (More t NoMore)) e) refl

        by_row : Puts p story cells 15600 (letters_in_list words (resolved S v)) (60 * looks S n v) (λ z m l i. Runs p 6 18 LIST_LETTERS_ACTS LIST_LETTERS_ACTS (state memory (x ∷ at_cell 15600 ∷ 0 ∷ []) typed drawn output) (Returns z) (state m l typed drawn output) i) → Came
        by_row (in_row xs m l c' i is fine short h kept row others few r) =
            let more = some_looks io story words g.spelled 10 40 (omega arith) (omega arith) v in
            let z = at_cell (15600 + length xs) in
            letters xs m c' (suc wc + suc (suc (suc i))) (same ∙ ap few_enough is ∙ too_few xs (omega arith)) fine (omega arith) h kept row others (omega arith)
            (λ o s' j rest. subst (Run JOIN_ACTS (now memory 0) o s') (let q : suc wc + suc (suc i + suc j) ≡ suc wc + suc (suc (suc i)) + j = omega arith in q)
            (to_answer ne z i (suc j) m l o s' r (passed (is_past m z false (not_more_by z 31664 (omega arith) (omega arith) (omega arith))) rest)))
        by_row (past_row m l c' z i not h kept others above high few r) =
            let looked = pair_looks io story words g.spelled 10 40 (omega arith) (omega arith) v a t absent e in
            let more1 = some_looks io story words g.spelled 10 40 (omega arith) (omega arith) a in
            let more2 = some_looks io story words g.spelled 10 40 (omega arith) (omega arith) t in
            nothing (same ∙ too_many (letters_in_list words (resolved S v)) (λ xs is. let q = not xs is in omega arith)) (record {
              memory' = m;
              cells' = c';
              locals' = x ∷ z ∷ [];
              holds = h;
              others = λ k far. others k (λ q. far (omega arith));
              count = suc wc + suc (suc i + 2);
              few = omega arith;
              runs = to_answer ne z i 2 m l (Returns 65535) (now m z) r (taken (is_past m z true (more_by z 31664 high (omega arith) above)) refl (returns refl));
            })

    none_as : (h : Label) (vs : Values) → walk S v ≡ Node h vs → joined_letters words (Node h (all_resolved S vs)) ≡ None → joined ≡ None
    none_as h vs e none = ap (joined_letters words) (resolved_as io v h vs e) ∙ none

    kind_as : (u : Value) → walk S v ≡ u → list_kind u ≡ 0 → list_kind (walk S v) ≡ 0
    kind_as u e kind = ap list_kind e ∙ kind

    by_box : (k header : ℕ) (u : Value) → y ≡ 49152 + k → Filled sh k header u → walk S v ≡ u → Absent io v → Came
    by_box k header u is (pair_in {h = a} {t = t} _ b c one two sa sb) e absent = of_list a t (λ q. (omega arith)) e absent
    by_box k header u is (closure_in {vs = vs} _ place small told few count all) e absent = of_refused (λ q. (omega arith)) (none_as (Closure place) vs e refl) (kind_as (Node (Closure place) vs) e refl)
    by_box k header u is (word_in {letters = xs} _ fine all) e absent = of_refused (λ q. (omega arith)) (none_as (Unknown xs) NoMore e refl) (kind_as (leaf (Unknown xs)) e refl)

    by_shows : (z : ℕ) (u : Value) → y ≡ z → Shows sh z u → walk S v ≡ u → Absent io v → Came
    by_shows z u is (number m lt) e absent = of_refused (λ q. (omega arith)) (none_as (Num m) NoMore e refl) (kind_as (leaf (Num m)) e refl)
    by_shows z u is (dict m lt) e absent = of_refused (λ q. (omega arith)) (none_as (Word m) NoMore e refl) (kind_as (leaf (Word m)) e refl)
    by_shows z u is (object m lt) e absent = of_refused (λ q. (omega arith)) (none_as (Object m) NoMore e refl) (kind_as (leaf (Object m)) e refl)
    by_shows z u is nil e absent = of_nil is (none_as Nil NoMore e refl)
    by_shows z u is (variable m lt) e absent = of_refused (λ q. (omega arith)) (ap (joined_letters words) (resolved_walked io v (Var m) e ∙ resolved_unbound S m ((walked S g.stands.sound v).free m e))) (kind_as (Var m) e refl)
    by_shows z u is (boxed k header lt at c inside) e absent = by_box k header u is inside e absent

  came : Absent io v → Came
  came absent =
      let wk = walk_works p has sh g.shape 0 0 memory typed output drawn 0 0 cells g.holds S g.stands x 0 v g.shows in
      let few = wk.few in
      let last = ending_few (walk S v) in
      by_shows wk.word wk.count (omega arith)
      (λ o s' i rest. calls {f' = 0} {w' = 0} {n = wk.count} {n' = i} {xs = (x, 0, 0)} {s2 = now memory wk.word} refl (rw (local_1 p memory x (0 ∷ []) typed drawn output) refl) (walk_at p has) (omega arith) (omega arith) wk.runs (put_2 p memory x 0 wk.word [] typed drawn output) rest)
      wk.word (walk S v) refl wk.shows refl absent

  -- ## The value of the letters

  -- Its cells were written.
  record Made (m : List ℕ) (c : ℕ → ℕ) (xs : List ℕ) : Type 0 where
    memory' : List ℕ
    cells' : ℕ → ℕ
    holds : Holds p.world.layout memory' cells'
    kept : IsKept p.world.layout.base story memory'
    row : Row cells' 15315 (words_of (spelled_value words xs))
    others : (k : ℕ) → (15315 ≤ k → 15945 ≤ k) → cells' k ≡ c k
    count : ℕ
    few : count + 15 * length xs ≤ 150 * reading words (length xs) + 50
    runs : (o : Outcome) (s' : State) (j : ℕ) → Run (drop 11 JOIN_ACTS) (now memory' (at_cell (15315 + length (words_of (spelled_value words xs))))) o s' j → Run (drop 4 JOIN_ACTS) (now m (at_cell (15600 + length xs))) o s' (count + j)

  none_here : (m : List ℕ) (b : ℕ) (r : Bool) → (b == 31264) ≡ r → answer_of p (now m b) (record { comparison = comparisons.Equal; first = atoms.Var 2; second = atoms.Num 31264; answer = false }) ≡ Some r
  none_here m b r e = tested p (now m b) comparisons.Equal (atoms.Var 2) (atoms.Num 31264) false b 31264 r (local_2 p m x b [] typed drawn output) refl e

  made_none : (m : List ℕ) (c : ℕ → ℕ) → Holds p.world.layout m c → IsKept p.world.layout.base story m → Made m c []
  unfolding behind_label
  made_none m c h kept =
      let room = has.mapped.room in
      let many = g.spelled.few in
      let is : spelled_value words [] ≡ leaf (Unknown []) = no_letters words words 0 g.spelled.names (λ i. ap (λ (j : ℕ). get_or words j []) (omega arith)) (omega arith) in
      let m1 = with_cell m 15315 32769 in
      let size' : length (words_of (spelled_value words [])) ≡ 1 = ap (λ (u : Value). length (words_of u)) is in
      let end : 30696 ≡ at_cell (15315 + length (words_of (spelled_value words []))) = omega arith in
      record {
        memory' = m1;
        cells' = replaced c 15315 32769;
        holds = holds_with p.world.layout m c 15315 32769 h (omega arith) (omega arith);
        kept = kept_cell p.world.layout.base story m 15315 32769 (omega arith) kept;
        row = subst (λ (u : Value). Row (replaced c 15315 32769) 15315 (words_of u)) (sym is) (same_cell c 15315 32769, tt);
        others = λ k far. other_cell c 15315 32769 k (λ (e : k ≡ 15315). (let q = far (omega arith) in omega arith));
        count = 4;
        few = omega arith;
        runs = λ o s' j rest. subst (Run (drop 4 JOIN_ACTS) (now m 31264) o s') (let q : suc (suc (suc (suc j))) ≡ 4 + j = omega arith in q)
            (passed (none_here m 31264 true refl)
            (done (writes p (now m 31264) widths.Word (atoms.Num 30694) (atoms.Num 0) (atoms.Num 32769) 30694 0 32769 m1 refl refl refl (writes_cell p.world.layout m c 30694 0 32769 15315 h (omega arith) (omega arith)))
            (done (copies p (now m1 31264) (now m1 30696) 2 (atoms.Num 30696) 30696 refl (put_2 p m1 x 31264 30696 [] typed drawn output))
            (goes refl (subst (λ (z : ℕ). Run (drop 11 JOIN_ACTS) (now m1 z) o s' j) (sym end) rest)))));
      }

  made_some : (m : List ℕ) (c : ℕ → ℕ) (y : ℕ) (ys : List ℕ) → Holds p.world.layout m c → IsKept p.world.layout.base story m → length (y ∷ ys) ≤ 200 → Row c 15600 (y ∷ ys) → Made m c (y ∷ ys)
  unfolding behind_label
  made_some m c y ys h kept short row =
      let room = has.mapped.room in
      let xs = y ∷ ys in
      let W = length words in
      let z = at_cell (15600 + length xs) in
      let end = at_cell (15315 + length (words_of (spelled_value words xs))) in
      let r = spelled_works p has story words g.spelled 3 13 (omega arith) (omega arith) m typed output drawn c h kept 15600 15315 xs (omega arith) short (omega arith) (omega arith) (omega arith) row in
      let few = r.few in
      let big = mul-le W 1 W (length xs) (omega arith) (omega arith) in
      record {
        memory' = r.memory';
        cells' = r.cells';
        holds = r.holds;
        kept = r.kept;
        row = r.row;
        others = λ k far. r.others k (λ q. (let far' = far q in let few' = short_cells words xs in omega arith));
        count = suc (suc r.count);
        few = omega arith;
        runs = λ o s' j rest. subst (Run (drop 4 JOIN_ACTS) (now m z) o s') (let q : suc (suc r.count + j) ≡ suc (suc r.count) + j = omega arith in q)
            (taken (none_here m z false (ne_eqb z 31264 (λ (e : z ≡ 31264). (omega arith)))) refl
            (calls {f' = 3} {w' = 13} {n = r.count} {n' = j} {xs = (31264, z, 30694)} {s2 = now r.memory' end} refl (rw (local_2 p m x z [] typed drawn output) refl) (spelled_at p has) (omega arith) (omega arith) r.runs (put_2 p r.memory' x z end [] typed drawn output)
            (at_label rest)));
      }

  made : (m : List ℕ) (c : ℕ → ℕ) (xs : List ℕ) → Holds p.world.layout m c → IsKept p.world.layout.base story m → length xs ≤ 200 → Row c 15600 xs → Made m c xs
  made m c [] h kept short row = made_none m c h kept
  made m c (y ∷ ys) h kept short row = made_some m c y ys h kept short row

  -- ## It is laid

  module _ (xs m : List ℕ) (c' : ℕ → ℕ) (i : ℕ) (fine : ArePrinted xs) (short : length xs ≤ 200) (others : (k : ℕ) → (15600 ≤ k → 15945 ≤ k) → c' k ≡ cells k) (cheap : i ≤ 65 * looks S n v + 15 * length xs + 10)
      (way : (o : Outcome) (s' : State) (j : ℕ) → Run (drop 4 JOIN_ACTS) (now m (at_cell (15600 + length xs))) o s' j → Run JOIN_ACTS (now memory 0) o s' (i + j)) (d : Made m c' xs) where
    abbrev u : Value
    u = spelled_value words xs

    abbrev end : ℕ
    end = at_cell (15315 + length (words_of (spelled_value words xs)))

    same : (k : ℕ) → (15315 ≤ k → 15945 ≤ k) → d.cells' k ≡ cells k
    same k far = d.others k far ∙ others k (λ q. far (omega arith))

    written : IsWritten p story sh.captures d.memory' d.cells' (spelled_value words xs)
    written =
        let one = one_value sh.captures words g.spelled.few xs fine in
        let few = one.few_cells in
        let row = one.short in
        record { told = g.told; holds = d.holds; kept = d.kept; formed = one.formed; free = one.free; small = omega arith; row = d.row; within = omega arith }

    is_one : size (spelled_value words xs) ≤ 1
    is_one = (one_value sh.captures words g.spelled.few xs fine).few_nodes

    st : Stands sh d.cells' S
    st = stands_away g.shape cells d.cells' (λ k lt. same k (λ q. (omega arith))) g.stands

    heap : d.cells' 3 ≡ sh.top
    heap = same 3 (λ q. (omega arith)) ∙ g.heap

    laid : sh.top + copy_cells (spelled_value words xs) ≤ 10000 → LaysOn p f w JOIN_ACTS memory (x ∷ 0 ∷ []) typed output drawn cells sh S (spelled_value words xs) (800 * looks S n v + 900 + making_most words xs (spelled_value words xs))
    laid fits =
        let one = is_one in
        let more = some_looks io story words g.spelled 10 40 (omega arith) (omega arith) v in
        let r = written_works.lays p story sh 2 10 d.memory' typed output drawn d.cells' (spelled_value words xs) written (omega arith) (omega arith) g.shape g.low S st g.known heap fits in
        let few1 = d.few in
        let few2 = r.few in
        let last = now r.memory' r.word in
        record {
          memory' = r.memory';
          cells' = r.cells';
          locals' = x ∷ r.word ∷ [];
          holds = r.holds;
          sh' = r.sh';
          top = r.top;
          vars = r.vars;
          grown = r.grown;
          boxes = r.boxes;
          shape = r.shape;
          low = r.low;
          stands = r.stands;
          word = r.word;
          shows = r.shows;
          heap = r.heap ∙ ap (λ (k : ℕ). k + copy_cells (spelled_value words xs)) heap;
          others = λ k no3 no38 no39 far away. r.others k no3 no38 no39 (λ q. (let top = far q in omega arith)) ∙ same k away;
          count = i + (d.count + (suc r.count + 1));
          few = omega arith;
          runs = way (Returns r.word) last (d.count + (suc r.count + 1)) (d.runs (Returns r.word) last (suc r.count + 1)
              (calls {f' = 2} {w' = 10} {n = r.count} {n' = 1} {xs = (end, 0, 0)} {s2 = now r.memory' r.word} refl (rw (local_2 p d.memory' x end [] typed drawn output) refl) (written_value_at p has) (omega arith) (omega arith) r.runs (put_2 p r.memory' x end r.word [] typed drawn output)
              (returns (local_2 p r.memory' x r.word [] typed drawn output))));
        }

    met : 10000 < sh.top + copy_cells (spelled_value words xs) → MeetsLimit p f w JOIN_ACTS memory (x ∷ 0 ∷ []) typed output drawn cells (800 * looks S n v + 900 + making_most words xs (spelled_value words xs))
    met full =
        let one = is_one in
        let room = g.shape.room in
        let is_top = heap in
        let more = some_looks io story words g.spelled 10 40 (omega arith) (omega arith) v in
        let r = written_works.meets p story sh.captures 2 10 d.memory' typed output drawn d.cells' (spelled_value words xs) written (omega arith) (omega arith) (omega arith) (omega arith) in
        let few1 = d.few in
        let few2 = r.few in
        let last : d.cells' 28 ≡ cells 28 = same 28 (λ q. (omega arith)) in
        record {
          memory' = r.memory';
          count = i + (d.count + suc r.count);
          few = omega arith;
          runs = subst (λ (k : ℕ). Run JOIN_ACTS (now memory 0) (Stops AtQuit) (state r.memory' [] typed drawn (output ++ closing k HeapLimit)) (i + (d.count + suc r.count))) last
              (way (Stops AtQuit) (state r.memory' [] typed drawn (output ++ closing (d.cells' 28) HeapLimit)) (d.count + suc r.count) (d.runs (Stops AtQuit) (state r.memory' [] typed drawn (output ++ closing (d.cells' 28) HeapLimit)) (suc r.count)
              (calls_last {f' = 2} {w' = 10} {n = r.count} {xs = (end, 0, 0)} refl (rw (local_2 p d.memory' x end [] typed drawn output) refl) (written_value_at p has) (omega arith) (omega arith) r.runs)));
        }

  -- ## The laws

  lays_none : Absent io v → joined ≡ None → LaysNone p f w JOIN_ACTS memory (x ∷ 0 ∷ []) typed output drawn cells (800 * looks S n v + 900)
  lays_none absent none = by_came (came absent)
    where
      by_came : Came → LaysNone p f w JOIN_ACTS memory (x ∷ 0 ∷ []) typed output drawn cells (800 * looks S n v + 900)
      by_came (nothing e r) = r
      by_came (letters xs m c' i e fine short h kept row others cheap way) = absurd (cc (sym none ∙ e))

  lays_on : Absent io v → (ls : List ℕ) → joined ≡ Some ls → sh.top + copy_cells (spelled_value words ls) ≤ 10000 → LaysOn p f w JOIN_ACTS memory (x ∷ 0 ∷ []) typed output drawn cells sh S (spelled_value words ls) (800 * looks S n v + 900 + making_most words ls (spelled_value words ls))
  lays_on absent ls is fits = by_came (came absent)
    where
      by_came : Came → LaysOn p f w JOIN_ACTS memory (x ∷ 0 ∷ []) typed output drawn cells sh S (spelled_value words ls) (800 * looks S n v + 900 + making_most words ls (spelled_value words ls))
      by_came (nothing e r) = absurd (cc (sym is ∙ e))
      by_came (letters xs m c' i e fine short h kept row others cheap way) =
          let same' : xs ≡ ls = cc (sym e ∙ is) in
          subst (λ (ys : List ℕ). LaysOn p f w JOIN_ACTS memory (x ∷ 0 ∷ []) typed output drawn cells sh S (spelled_value words ys) (800 * looks S n v + 900 + making_most words ys (spelled_value words ys))) same'
          (laid xs m c' i fine short others cheap way (made m c' xs h kept short row) (subst (λ (ys : List ℕ). sh.top + copy_cells (spelled_value words ys) ≤ 10000) (sym same') fits))

  meets_limit : Absent io v → (ls : List ℕ) → joined ≡ Some ls → 10000 < sh.top + copy_cells (spelled_value words ls) → MeetsLimit p f w JOIN_ACTS memory (x ∷ 0 ∷ []) typed output drawn cells (800 * looks S n v + 900 + making_most words ls (spelled_value words ls))
  meets_limit absent ls is full = by_came (came absent)
    where
      by_came : Came → MeetsLimit p f w JOIN_ACTS memory (x ∷ 0 ∷ []) typed output drawn cells (800 * looks S n v + 900 + making_most words ls (spelled_value words ls))
      by_came (nothing e r) = absurd (cc (sym is ∙ e))
      by_came (letters xs m c' i e fine short h kept row others cheap way) =
          let same' : xs ≡ ls = cc (sym e ∙ is) in
          subst (λ (ys : List ℕ). MeetsLimit p f w JOIN_ACTS memory (x ∷ 0 ∷ []) typed output drawn cells (800 * looks S n v + 900 + making_most words ys (spelled_value words ys))) same'
          (met xs m c' i fine short others cheap way (made m c' xs h kept short row) (subst (λ (ys : List ℕ). 10000 < sh.top + copy_cells (spelled_value words ys)) (sym same') full))

pub join_works : JoinWorks
join_works n = record {
  none = λ p story words f w some enough memory typed output drawn cells sh S x v g absent none. lays_none p story words f w some enough memory typed output drawn cells sh S x v g n absent none;
  lays = λ p story words f w some enough memory typed output drawn cells sh S x v g absent ls is fits. lays_on p story words f w some enough memory typed output drawn cells sh S x v g n absent ls is fits;
  meets = λ p story words f w some enough memory typed output drawn cells sh S x v g absent ls is full. meets_limit p story words f w some enough memory typed output drawn cells sh S x v g n absent ls is full;
}
