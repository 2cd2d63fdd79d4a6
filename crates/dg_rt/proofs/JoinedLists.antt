-- The letters of the words and numbers of a list are written into a row.
use Rattle.std.proofs.Common.{◌≡◌, ℕ, zero, suc, ◌+◌, ◌*◌, ◌<◌, ◌≤◌, Bool, true, false, List, [], ◌∷◌, ◌++◌, drop, length, Option, Some, None, refl, sym, ap, ◌∙◌, subst, arith, length-append}
use Rattle.std.specs.Prelude.{◌==◌}
use Rattle.dg_meaning.specs.Substitutions.{walk, links, resolved, contains}
use Rattle.dg_meaning.specs.inside.Substitutions.{all_resolved}
use Rattle.dg_meaning.specs.Unify.{size, looks}
use Rattle.dg_meaning.specs.Values.{Label, Num, Word, Unknown, Object, Nil, Pair, Closure, Value, Var, Node, Values, NoMore, More, leaf, pair}
use Rattle.dg_meaning.specs.Words.{letters_in_word, followed_by, letters_in_list}
use Rattle.dg_meaning.proofs.Walks.{walked, resolved_unbound}
use Rattle.z_lang.specs.declared.act.Act.{Act}
use Rattle.z_lang.specs.declared.act.Atom.TheVariants as atoms
use Rattle.z_lang.specs.declared.act.Comparison.TheVariants as comparisons
use Rattle.z_lang.specs.declared.act.Function.TheVariants as functions
use Rattle.z_lang.specs.State.{State, Program}
use Rattle.z_lang.specs.Acts.{computed, answer_of}
use Rattle.z_lang.specs.Runs.{ActsRun as Runs, Returns, at_label, goes, taken, passed, done, calls, returns, behind_label}
use Rattle.z_lang.specs.Standing.{IsKept}
use Rattle.dg_rt.specs.declared.numbers.TheConstants.{VALUE_LETTERS}
use Rattle.dg_rt.specs.declared.joining.TheConstants.{VALUE_LETTERS_ACTS, LIST_LETTERS_ACTS}
use Rattle.dg_rt.specs.Cells.{at_cell, compared, Holds}
use Rattle.dg_rt.specs.Areas.{heap_at, state}
use Rattle.dg_rt.specs.Copies.{Row}
use Rattle.dg_rt.specs.Dictionary.{HasSpellings}
use Rattle.dg_rt.specs.RunTime.{routine_of, HasRunTime}
use Rattle.dg_rt.specs.Shapes.{ArePrinted, Cell, Shows, number, dict, object, nil, variable, boxed, Filled, pair_in, closure_in, word_in, Stands}
use Rattle.dg_rt.specs.inside.Walks.{ending, Walks}
use Rattle.dg_rt.specs.declared.unify.TheConstants.{WALK_ACTS}
use Rattle.dg_rt.proofs.Cells.{reads_cell}
use Rattle.dg_rt.proofs.CopySteps.{rows_keep, rows_append, stands_away}
use Rattle.dg_rt.proofs.Depth.{parts_smaller}
use Rattle.dg_rt.proofs.Following.{word, tested, computes, local_1, local_2, local_3, put_1, put_2, put_3}
use Rattle.dg_rt.proofs.FullSteps.{LookingThrough, Absent, AllAbsent, first_absent, others_absent, resolved_walked, resolved_as, seen_more, seen_node, seen_variable}
use Rattle.dg_rt.proofs.JoinedRows.{Puts, in_row, past_row, mapped, wider, printed_on}
use Rattle.dg_rt.proofs.JoinedValues.{value_letters}
use Rattle.dg_rt.proofs.ListKind.{list_kind, Kind, kind_works}
use Rattle.dg_rt.proofs.Locals.{more_by, not_more_by}
use Rattle.dg_rt.proofs.Standing.{walk_at, list_kind_at}
use Rattle.dg_rt.proofs.Walking.{walk_works}

value_letters_at : (p : Program) → HasRunTime p → p.routine_at (p.names.routine VALUE_LETTERS) ≡ Some (routine_of 3 VALUE_LETTERS_ACTS)
value_letters_at p has = has.each 132 (routine_of 3 VALUE_LETTERS_ACTS) refl

-- Letters in front of others, where there are both.
record Both (front back : Option (List ℕ)) (xs : List ℕ) : Type 0 where
  hs : List ℕ
  ts : List ℕ
  first : front ≡ Some hs
  last : back ≡ Some ts
  all : xs ≡ hs ++ ts

both : (front back : Option (List ℕ)) (xs : List ℕ) → followed_by front back ≡ Some xs → Both front back xs
both (Some hs) (Some ts) xs e = record { hs = hs; ts = ts; first = refl; last = refl; all = sym (cc e) }
both (Some hs) None xs e = absurd (cc e)
both None back xs e = absurd (cc e)

pub ending_few : (u : Value) → ending u ≤ 4
ending_few (Var n) = omega arith
ending_few (Node g vs) = omega arith

module _ (io : LookingThrough) (story : List ℕ) (words : List (List ℕ)) (dict' : HasSpellings io.p story words) (f w : ℕ) (some : 6 ≤ f) (enough : 18 ≤ w) where
  open io use {p, has, sh, is, typed, output, drawn, S, n}

  abbrev now : List ℕ → ℕ → ℕ → ℕ → State
  now m a b c = state m (a ∷ b ∷ c ∷ []) typed drawn output

  abbrev From : List Act → State → ℕ → List ℕ → List ℕ → ℕ → Type 0
  From acts s x m l i = Runs p f w LIST_LETTERS_ACTS acts s (Returns x) (state m l typed drawn output) i

  -- a value is looked at
  pub some_looks : (v : Value) → links S v + 1 ≤ looks S n v
  some_looks v = by_walk (walk S v) refl
    where
      by_walk : (u : Value) → walk S v ≡ u → links S v + 1 ≤ looks S n v
      by_walk (Var y) e = let q = seen_variable io v y e in omega arith
      by_walk (Node g vs) e = let q = seen_node io v g vs e in omega arith

  -- a pair's looks are its own and those of its head and its tail
  pub pair_looks : (v a b : Value) → Absent io v → walk S v ≡ pair a b → looks S n v ≡ links S v + 1 + (looks S n a + looks S n b)
  pair_looks v a b absent e =
      let is_it = ap (contains n) (resolved_as io v Pair (More a (More b NoMore)) e) in
      let all : AllAbsent io (More a (More b NoMore)) = sym is_it ∙ absent in
      let rest = others_absent io a (More b NoMore) all in
      let q = seen_node io v Pair (More a (More b NoMore)) e in
      let q1 = seen_more io a (More b NoMore) (first_absent io a (More b NoMore) all) in
      let q2 = seen_more io b NoMore (first_absent io b NoMore rest) in
      omega arith

  -- ---- one value of a list, or its end

  module _ (memory : List ℕ) (cells : ℕ → ℕ) (h : Holds p.world.layout memory cells) (kept : IsKept p.world.layout.base story memory) (st : Stands sh cells S) (j : ℕ) (from : 15315 ≤ j) (le : j ≤ 15800) where
    kind_is : (y c k : ℕ) (r : Bool) → (c == k) ≡ r → answer_of p (now memory y (at_cell j) c) (record { comparison = comparisons.Equal; first = atoms.Var 3; second = atoms.Num k; answer = true }) ≡ Some r
    kind_is y c k r e = tested p (now memory y (at_cell j) c) comparisons.Equal (atoms.Var 3) (atoms.Num k) true c k r (local_3 p memory y (at_cell j) c [] typed drawn output) refl e

    -- Behind the tests of what it is.
    record Goes (y : ℕ) (v u : Value) : Type 0 where
      b : ℕ
      fits : b + 5 * links S v + 15 ≤ 60 * looks S n v
      puts : Puts p story cells j (letters_in_list words (resolved S v)) b (From (drop 3 LIST_LETTERS_ACTS) (now memory y (at_cell j) (list_kind u)))

    -- no list
    no_list : (y : ℕ) → From (drop 3 LIST_LETTERS_ACTS) (now memory y (at_cell j) 0) 31666 memory (y ∷ at_cell j ∷ 0 ∷ []) 3
    unfolding behind_label
    no_list y = passed (kind_is y 0 1 false refl) (taken (kind_is y 0 0 true refl) refl (returns refl))

    refused : (y : ℕ) (v u : Value) → list_kind u ≡ 0 → letters_in_list words (resolved S v) ≡ None → Goes y v u
    refused y v u kind none =
        let more = some_looks v in
        record {
          b = 3;
          fits = omega arith;
          puts = rw kind (past_row memory (y ∷ at_cell j ∷ 0 ∷ []) cells 31666 3 (λ xs e. absurd (cc (sym none ∙ e))) h kept (λ i far. refl) (omega arith) (omega arith) (omega arith) (no_list y));
        }

    ended : (y : ℕ) (v : Value) → letters_in_list words (resolved S v) ≡ Some [] → Goes y v (leaf Nil)
    unfolding behind_label
    ended y v is_end =
        let more = some_looks v in
        let last : at_cell j ≡ at_cell (j + 0) = omega arith in
        record {
          b = 3;
          fits = omega arith;
          puts = in_row [] memory (y ∷ at_cell j ∷ 1 ∷ []) cells 2 is_end tt (omega arith) h kept tt (λ i far. refl) (omega arith)
              (subst (λ (x : ℕ). From (drop 3 LIST_LETTERS_ACTS) (now memory y (at_cell j) 1) x memory (y ∷ at_cell j ∷ 1 ∷ []) 2) last
              (taken (kind_is y 1 1 true refl) refl (returns (local_2 p memory y (at_cell j) (1 ∷ []) typed drawn output))));
        }

    -- The tail of a list, wherever its letters begin.
    abbrev Tails : ℕ → ℕ → Value → Type 0
    Tails y c t = (m : List ℕ) (cells' : ℕ → ℕ) → Holds p.world.layout m cells' → IsKept p.world.layout.base story m → Stands sh cells' S → (i : ℕ) → j ≤ i → i ≤ 15800 →
        Puts p story cells' i (letters_in_list words (resolved S t)) (60 * looks S n t) (From (drop 1 LIST_LETTERS_ACTS) (now m y (at_cell i) c))

    -- a pair
    module _ (k x y : ℕ) (v a t : Value) (low : k + 2 < 10000) (one : Cell sh (k + 1) x) (two : Cell sh (k + 2) y) (sa : Shows sh x a) (absent : Absent io v) (e : walk S v ≡ pair a t) (tails : Tails y x t) where
      abbrev box : ℕ
      box = 49152 + k

      abbrev made : Option (List ℕ)
      made = followed_by (letters_in_word words (resolved S a)) (letters_in_list words (resolved S t))

      abbrev b : ℕ
      b = 60 * looks S n a + 60 * looks S n t + 8

      abbrev Result : Type 0
      Result = Puts p story cells j made b (From (drop 3 LIST_LETTERS_ACTS) (now memory box (at_cell j) 2))

      field : (m : List ℕ) (cells' : ℕ → ℕ) → Holds p.world.layout m cells' → Stands sh cells' S → (at i q z : ℕ) → Cell sh q z → q ≡ k + i → i ≤ 3 → at ≡ at_cell (heap_at + i) + 32768 → computed p.world.layout m functions.Word at (49152 + k) ≡ word z
      field m cells' h' st' at i q z c is_q few is_at =
          let room = has.mapped.room in
          let top = is.room in
          let under = c.fixed.0 in
          reads_cell p.world.layout m cells' at (49152 + k) (heap_at + q) h' (omega arith) (omega arith) ∙ ap word (st'.fixed q (omega arith) c.fixed ∙ c.is)

      -- up to the test of what was answered for the head
      to_answer : (z i i2 v2 : ℕ) (m l m2 l2 : List ℕ) → Runs p 5 15 VALUE_LETTERS_ACTS VALUE_LETTERS_ACTS (state memory (x ∷ at_cell j ∷ 0 ∷ []) typed drawn output) (Returns z) (state m l typed drawn output) i →
          From (drop 7 LIST_LETTERS_ACTS) (now m box z x) v2 m2 l2 i2 → From (drop 3 LIST_LETTERS_ACTS) (now memory box (at_cell j) 2) v2 m2 l2 (suc (suc (suc (suc i + i2))))
      to_answer z i i2 v2 m l m2 l2 r rest =
          let o = at_cell j in
          passed (kind_is box 2 1 false refl)
          (passed (kind_is box 2 0 false refl)
          (done (computes p (now memory box o 2) (now memory box o x) 3 functions.Word (atoms.Num 33440) (atoms.Var 1) 33440 box x refl (local_1 p memory box (o ∷ 2 ∷ []) typed drawn output) (field memory cells h st 33440 1 (k + 1) x one refl (omega arith) refl) (put_3 p memory box o 2 x [] typed drawn output))
          (calls {f' = 5} {w' = 15} {n = i} {n' = i2} {xs = (x, o, 0)} {s2 = now m box z x} refl (rw (local_3 p memory box o x [] typed drawn output, local_2 p memory box o (x ∷ []) typed drawn output) refl) (value_letters_at p has) (omega arith) (omega arith) r (put_2 p m box o z (x ∷ []) typed drawn output)
          rest)))

      is_past : (m : List ℕ) (z : ℕ) (r : Bool) → compared comparisons.Greater z 31664 ≡ r → answer_of p (now m box z x) (record { comparison = comparisons.Greater; first = atoms.Var 2; second = atoms.Num 31664; answer = true }) ≡ Some r
      is_past m z r e' = tested p (now m box z x) comparisons.Greater (atoms.Var 2) (atoms.Num 31664) true z 31664 r (local_2 p m box z (x ∷ []) typed drawn output) refl e'

      -- on to the tail
      to_tail : (m : List ℕ) (cells' : ℕ → ℕ) (i v2 i2 : ℕ) (m2 l2 : List ℕ) → Holds p.world.layout m cells' → Stands sh cells' S → i ≤ 15800 → From (drop 1 LIST_LETTERS_ACTS) (now m y (at_cell i) x) v2 m2 l2 i2 → From (drop 7 LIST_LETTERS_ACTS) (now m box (at_cell i) x) v2 m2 l2 (suc (suc (suc i2)))
      unfolding behind_label
      to_tail m cells' i v2 i2 m2 l2 h' st' short rest =
          let o = at_cell i in
          passed (is_past m o false (not_more_by o 31664 (omega arith) (omega arith) (omega arith)))
          (done (computes p (now m box o x) (now m y o x) 1 functions.Word (atoms.Num 33442) (atoms.Var 1) 33442 box y refl (local_1 p m box (o ∷ x ∷ []) typed drawn output) (field m cells' h' st' 33442 2 (k + 2) y two refl (omega arith) refl) (put_1 p m box y (o ∷ x ∷ []) typed drawn output))
          (goes refl rest))

      by_tail : (hs m l : List ℕ) (c' : ℕ → ℕ) (i : ℕ) → letters_in_word words (resolved S a) ≡ Some hs → ArePrinted hs → j + length hs ≤ 15800 → Holds p.world.layout m c' → Stands sh c' S → Row c' j hs → ((q : ℕ) → (j ≤ q → 15945 ≤ q) → c' q ≡ cells q) → i ≤ 60 + 5 * links S a + 15 * length hs →
          Runs p 5 15 VALUE_LETTERS_ACTS VALUE_LETTERS_ACTS (state memory (x ∷ at_cell j ∷ 0 ∷ []) typed drawn output) (Returns (at_cell (j + length hs))) (state m l typed drawn output) i →
          Puts p story c' (j + length hs) (letters_in_list words (resolved S t)) (60 * looks S n t) (From (drop 1 LIST_LETTERS_ACTS) (now m y (at_cell (j + length hs)) x)) → Result
      by_tail hs m l c' i is_hs fine short h' st' row others few r (in_row ts m2 l2 c2 i2 is_ts fine2 short2 h2 kept2 row2 others2 few2 r2) =
          let more = some_looks a in
          let size' = length-append hs ts in
          let o = j + length hs in
          let last : at_cell (j + length hs + length ts) ≡ at_cell (j + length (hs ++ ts)) = omega arith in
          in_row (hs ++ ts) m2 l2 c2 (suc (suc (suc (suc i + suc (suc (suc i2)))))) (rw (is_hs, is_ts) refl) (printed_on hs ts fine fine2) (omega arith) h2 kept2
          (rows_append c2 j (j + length hs) hs ts refl (rows_keep c' c2 j hs (λ q from' to. others2 q (λ z. (omega arith))) row) row2)
          (λ q far. others2 q (λ z. far (omega arith)) ∙ others q far) (omega arith)
          (subst (λ (z : ℕ). From (drop 3 LIST_LETTERS_ACTS) (now memory box (at_cell j) 2) z m2 l2 (suc (suc (suc (suc i + suc (suc (suc i2))))))) last
          (to_answer (at_cell (j + length hs)) i (suc (suc (suc i2))) (at_cell (j + length hs + length ts)) m l m2 l2 r (to_tail m c' (j + length hs) (at_cell (j + length hs + length ts)) i2 m2 l2 h' st' short r2)))
      by_tail hs m l c' i is_hs fine short h' st' row others few r (past_row m2 l2 c2 z i2 not h2 kept2 others2 above high few2 r2) =
          let more = some_looks a in
          past_row m2 l2 c2 z (suc (suc (suc (suc i + suc (suc (suc i2)))))) (λ xs e'.
          let q = both (letters_in_word words (resolved S a)) (letters_in_list words (resolved S t)) xs e' in
          let same : hs ≡ q.hs = cc (sym is_hs ∙ q.first) in
          let size1 : length hs ≡ length q.hs = ap length same in
          let size2 : length xs ≡ length (q.hs ++ q.ts) = ap length q.all in
          let size3 = length-append q.hs q.ts in
          let past = not q.ts q.last in
          omega arith) h2 kept2
          (λ q far. others2 q (λ z'. far (omega arith)) ∙ others q far) above high (omega arith)
          (to_answer (at_cell (j + length hs)) i (suc (suc (suc i2))) z m l m2 l2 r (to_tail m c' (j + length hs) z i2 m2 l2 h' st' short r2))

      by_head : Puts p story cells j (letters_in_word words (resolved S a)) (60 + 5 * links S a) (λ z m l i. Runs p 5 15 VALUE_LETTERS_ACTS VALUE_LETTERS_ACTS (state memory (x ∷ at_cell j ∷ 0 ∷ []) typed drawn output) (Returns z) (state m l typed drawn output) i) → Result
      unfolding behind_label
      by_head (in_row hs m l c' i is_hs fine short h' kept' row others few r) =
          let st' = stands_away is cells c' (λ q lt. others q (λ z. (omega arith))) st in
          by_tail hs m l c' i is_hs fine short h' st' row others few r (tails m c' h' kept' st' (j + length hs) (omega arith) short)
      by_head (past_row m l c' z i not h' kept' others above high few r) =
          let more = some_looks a in
          let more' = some_looks t in
          past_row m (box ∷ z ∷ x ∷ []) c' 31666 (suc (suc (suc (suc i + 2)))) (λ xs e'.
          let q = both (letters_in_word words (resolved S a)) (letters_in_list words (resolved S t)) xs e' in
          let size2 : length xs ≡ length (q.hs ++ q.ts) = ap length q.all in
          let size3 = length-append q.hs q.ts in
          let past = not q.hs q.first in
          omega arith) h' kept' others (omega arith) (omega arith) (omega arith)
          (to_answer z i 2 31666 m l m (box ∷ z ∷ x ∷ []) r
          (taken (is_past m z true (more_by z 31664 high (omega arith) above)) refl (returns refl)))

      of_pair : Goes box v (pair a t)
      of_pair =
          let q = pair_looks v a t absent e in
          let is_it = resolved_as io v Pair (More a (More t NoMore)) e in
          record {
            b = b;
            fits = omega arith;
            puts = rw is_it (by_head (value_letters p has story words dict' sh is S 5 15 (omega arith) (omega arith) typed output drawn memory cells h kept st j from le x a sa));
          }

    -- ---- by what it is

    -- The tail of whatever pair it is.
    abbrev TailsOf : Value → Type 0
    TailsOf v = (a t : Value) → walk S v ≡ pair a t → (y c : ℕ) → Shows sh y t → Tails y c t

    none_as : (v : Value) (g : Label) (vs : Values) → walk S v ≡ Node g vs → letters_in_list words (Node g (all_resolved S vs)) ≡ None → letters_in_list words (resolved S v) ≡ None
    none_as v g vs e none = ap (letters_in_list words) (resolved_as io v g vs e) ∙ none

    by_box : (k header : ℕ) (v u : Value) → k + 2 < 10000 → Cell sh k header → Filled sh k header u → Absent io v → walk S v ≡ u → TailsOf v → Goes (49152 + k) v u
    by_box k header v u lt c (pair_in {h = a} {t = t} _ x y one two sa sb) absent e tails = of_pair k x y v a t lt one two sa absent e (tails a t e y x sb)
    by_box k header v u lt c (closure_in {vs = vs} _ place small told few count all) absent e tails = refused (49152 + k) v (Node (Closure place) vs) refl (none_as v (Closure place) vs e refl)
    by_box k header v u lt c (word_in {letters = xs} _ fine all) absent e tails = refused (49152 + k) v (leaf (Unknown xs)) refl (none_as v (Unknown xs) NoMore e refl)

    by_shows : (y : ℕ) (v u : Value) → Shows sh y u → Absent io v → walk S v ≡ u → TailsOf v → Goes y v u
    by_shows y v u (number m lt) absent e tails = refused m v (leaf (Num m)) refl (none_as v (Num m) NoMore e refl)
    by_shows y v u (dict m lt) absent e tails = refused (16384 + m) v (leaf (Word m)) refl (none_as v (Word m) NoMore e refl)
    by_shows y v u (object m lt) absent e tails = refused (24576 + m) v (leaf (Object m)) refl (none_as v (Object m) NoMore e refl)
    by_shows y v u nil absent e tails = ended 28672 v (ap (letters_in_list words) (resolved_as io v Nil NoMore e))
    by_shows y v u (variable m lt) absent e tails = refused (32768 + sh.place m) v (Var m) refl (ap (letters_in_list words) (resolved_walked io v (Var m) e ∙ resolved_unbound S m ((walked S st.sound v).free m e)))
    by_shows y v u (boxed k header lt at c inside) absent e tails = by_box k header v u lt c inside absent e tails

    -- up to those tests
    to_kind : (a c : ℕ) (v : Value) → (wk : Walks p 0 0 WALK_ACTS sh S memory typed output drawn a 0 0 0 v) → (kd : Kind p 0 0 memory typed output drawn wk.word (list_kind (walk S v))) → (x i : ℕ) (m l : List ℕ) → From (drop 3 LIST_LETTERS_ACTS) (now memory wk.word (at_cell j) (list_kind (walk S v))) x m l i → From (drop 1 LIST_LETTERS_ACTS) (now memory a (at_cell j) c) x m l (suc wk.count + (suc kd.count + i))
    to_kind a c v wk kd x i m l rest =
        let o = at_cell j in
        calls {f' = 0} {w' = 0} {n = wk.count} {n' = suc kd.count + i} {xs = (a, 0, 0)} {s2 = now memory wk.word o c} refl (rw (local_1 p memory a (o ∷ c ∷ []) typed drawn output) refl) (walk_at p has) (omega arith) (omega arith) wk.runs (put_1 p memory a wk.word (o ∷ c ∷ []) typed drawn output)
        (calls {f' = 0} {w' = 0} {n = kd.count} {n' = i} {xs = (wk.word, 0, 0)} {s2 = now memory wk.word o (list_kind (walk S v))} refl (rw (local_1 p memory wk.word (o ∷ c ∷ []) typed drawn output) refl) (list_kind_at p has) (omega arith) (omega arith) kd.runs (put_3 p memory wk.word o c (list_kind (walk S v)) [] typed drawn output)
        rest)

    one_level : (a c : ℕ) (v : Value) → Shows sh a v → Absent io v → TailsOf v → Puts p story cells j (letters_in_list words (resolved S v)) (60 * looks S n v) (From (drop 1 LIST_LETTERS_ACTS) (now memory a (at_cell j) c))
    one_level a c v s absent tails =
        let wk = walk_works p has sh is 0 0 memory typed output drawn 0 0 cells h S st a 0 v s in
        let kd = kind_works p has.mapped 0 0 memory typed output drawn sh is cells h S st wk.word (walk S v) wk.shows in
        let g = by_shows wk.word v (walk S v) wk.shows absent refl tails in
        let few1 = wk.few in
        let few2 = kd.few in
        let last = ending_few (walk S v) in
        let fits = g.fits in
        wider (60 * looks S n v) (omega arith) (mapped (suc wk.count + suc kd.count) (λ i. suc wk.count + (suc kd.count + i)) (λ i. omega arith)
        (λ x m l i r. to_kind a c v wk kd x i m l r) g.puts)

    -- What is no list is refused at once.
    pub record Refuses (a : ℕ) (v : Value) : Type 0 where
      pub locals' : List ℕ
      pub count : ℕ
      pub few : count ≤ 5 * links S v + 20
      pub runs : From LIST_LETTERS_ACTS (now memory a (at_cell j) 0) 31666 memory locals' count

    pub refuses : (a : ℕ) (v : Value) → Shows sh a v → list_kind (walk S v) ≡ 0 → Refuses a v
    refuses a v s kind =
        let wk = walk_works p has sh is 0 0 memory typed output drawn 0 0 cells h S st a 0 v s in
        let kd = kind_works p has.mapped 0 0 memory typed output drawn sh is cells h S st wk.word (walk S v) wk.shows in
        let few1 = wk.few in
        let few2 = kd.few in
        let last = ending_few (walk S v) in
        let o = at_cell j in
        let l = wk.word ∷ o ∷ 0 ∷ [] in
        record {
          locals' = l;
          count = suc wk.count + (suc kd.count + 3);
          few = omega arith;
          runs = at_label (to_kind a 0 v wk kd 31666 3 memory l (subst (λ (c : ℕ). From (drop 3 LIST_LETTERS_ACTS) (now memory wk.word o c) 31666 memory l 3) (sym kind) (no_list wk.word)));
        }

  -- ---- the whole list

  tail_absent : (v a t : Value) → Absent io v → walk S v ≡ pair a t → Absent io t
  tail_absent v a t absent e =
      let is_it = ap (contains n) (resolved_as io v Pair (More a (More t NoMore)) e) in
      let all : AllAbsent io (More a (More t NoMore)) = sym is_it ∙ absent in
      first_absent io t NoMore (others_absent io a (More t NoMore) all)

  loops : (most : ℕ) (memory : List ℕ) (cells : ℕ → ℕ) → Holds p.world.layout memory cells → IsKept p.world.layout.base story memory → Stands sh cells S → (j : ℕ) → 15315 ≤ j → j ≤ 15800 → (a c : ℕ) (v : Value) → Shows sh a v → Absent io v → size (resolved S v) < most →
      Puts p story cells j (letters_in_list words (resolved S v)) (60 * looks S n v) (From (drop 1 LIST_LETTERS_ACTS) (now memory a (at_cell j) c))
  loops zero memory cells h kept st j from le a c v s absent lt = absurd (omega arith)
  loops (suc most) memory cells h kept st j from le a c v s absent lt =
      one_level memory cells h kept st j from le a c v s absent (λ b t e y c' sb m cells' h' kept' st' i past short.
      let smaller = (parts_smaller S Pair (More b (More t NoMore))).1.0 [] in
      let same : size (resolved S v) ≡ size (resolved S (pair b t)) = ap size (resolved_walked io v (pair b t) e) in
      loops most m cells' h' kept' st' i (omega arith) short y c' t sb (tail_absent v b t absent e) (omega arith))

  pub list_letters : (memory : List ℕ) (cells : ℕ → ℕ) → Holds p.world.layout memory cells → IsKept p.world.layout.base story memory → Stands sh cells S → (j : ℕ) → 15315 ≤ j → j ≤ 15800 → (a : ℕ) (v : Value) → Shows sh a v → Absent io v →
      Puts p story cells j (letters_in_list words (resolved S v)) (60 * looks S n v) (From LIST_LETTERS_ACTS (now memory a (at_cell j) 0))
  list_letters memory cells h kept st j from le a v s absent =
      wider (60 * looks S n v) (omega arith) (mapped 0 (λ i. i) (λ i. omega arith) (λ x m l i r. at_label r) (loops (suc (size (resolved S v))) memory cells h kept st j from le a 0 v s absent (omega arith)))
