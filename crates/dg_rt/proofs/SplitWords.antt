-- The routine that splits a word into its letters does so.
use Rattle.std.proofs.Common.{◌≡◌, ℕ, suc, ◌+◌, ◌*◌, ◌<◌, ◌≤◌, inl, inr, Bool, true, false, List, [], ◌∷◌, drop, length, get_or, Option, Some, None, refl, sym, ap, ◌∙◌, subst, arith}
use Rattle.std.specs.Prelude.{All}
use Rattle.std.specs.Str.{chars}
use Rattle.std.specs.Fmt.{decimal}
use Rattle.std.proofs.lemmas.Bool.{lt-ltb, le-ltb, cases_lt}
use Rattle.std.proofs.lemmas.List.{get_or_past}
use Rattle.std.proofs.lemmas.List.Elements.{All-head, All-tail}
use Rattle.std.proofs.lemmas.Str.{chars-nil}
use Rattle.std.proofs.Math.Utf8.{scalar_cases}
use Rattle.dg_base.specs.Sound.{IsPrintable}
use Rattle.z_model.specs.Zscii.{is_character}
use Rattle.dg_meaning.specs.Copies.{copy_cells}
use Rattle.dg_meaning.specs.Pieces.{shown_letter}
use Rattle.dg_meaning.specs.Substitutions.{Substitution, walk, links}
use Rattle.dg_meaning.specs.Values.{Value, Var, Node}
use Rattle.dg_meaning.specs.Words.{letters_in_word}
use Rattle.z_lang.specs.declared.act.Act.{Act}
use Rattle.z_lang.specs.declared.act.Act.TheVariants as acts
use Rattle.z_lang.specs.declared.act.Args.TheVariants as args
use Rattle.z_lang.specs.declared.act.Atom.TheVariants as atoms
use Rattle.z_lang.specs.declared.act.Comparison.TheVariants as comparisons
use Rattle.z_lang.specs.declared.act.Function.TheVariants as functions
use Rattle.z_lang.specs.State.{State, Program}
use Rattle.z_lang.specs.Acts.{answer_of}
use Rattle.z_lang.specs.Runs.{ActsRun as Runs, ActsOutcome, Returns, taken, passed, done, calls, calls_last, returns, routine_entered, behind_label}
use Rattle.dg_rt.specs.declared.numbers.TheConstants.{SPLIT_NUMBER, SPLIT_LETTERS, SPLIT_SPELLING}
use Rattle.dg_rt.specs.declared.unify.TheConstants.{WALK_ACTS}
use Rattle.dg_rt.specs.declared.splitting.TheConstants.{SPLIT_NUMBER_ACTS, SPLIT_LETTERS_ACTS, SPLIT_SPELLING_ACTS, SPLIT_ACTS}
use Rattle.dg_rt.specs.Cells.{compared}
use Rattle.dg_rt.specs.Areas.{heap_at, state}
use Rattle.dg_rt.specs.Charges.{MeetsLimit}
use Rattle.dg_rt.specs.Copies.{Row}
use Rattle.dg_rt.specs.Laying.{copy_word}
use Rattle.dg_rt.specs.Making.{IsGiven, LaysNone, LaysOn, making_most}
use Rattle.dg_rt.specs.RunTime.{routine_of}
use Rattle.dg_rt.specs.Shapes.{Shape, ArePrinted, Letters, Shows, number, dict, object, nil, variable, boxed, pair_in, closure_in, word_in}
use Rattle.dg_rt.specs.Splits.{SplitWorks}
use Rattle.dg_rt.specs.inside.Walks.{ending, Walks}
use Rattle.dg_rt.proofs.Cells.{reads_cell}
use Rattle.dg_rt.proofs.Following.{word, tested, computes, local_1, local_2, put_1, put_2}
use Rattle.dg_rt.proofs.Laying.{copied, copied_grown, copied_boxes, copied_low, copied_shape, copied_stands, copied_shows}
use Rattle.dg_rt.proofs.LaySteps.{Laid, M, in_m}
use Rattle.dg_rt.proofs.LetterOn.{Listed, Same, Lays, all_laid, no_room, in_front}
use Rattle.dg_rt.proofs.Locals.{subtracts, less_by, not_less_by, high_is_less, high_less, high_not_less}
use Rattle.dg_rt.proofs.SpellingsBack.{name_letters}
use Rattle.dg_rt.proofs.SplitLetters.{letters_laid}
use Rattle.dg_rt.proofs.SplitLists.{alone, alone_formed, alone_free}
use Rattle.dg_rt.proofs.SplitNumbers.{number_laid}
use Rattle.dg_rt.proofs.SplitSpellings.{past, there}
use Rattle.dg_rt.proofs.Standing.{walk_at}
use Rattle.dg_rt.proofs.Walking.{walk_works}
use Rattle.dg_rt.proofs.WordSpelled.{character}
use Rattle.dg_rt.proofs.WrittenValues.{copied_same}

-- ## Letters that are printed

shown_same : (c : ℕ) → IsPrintable c → shown_letter c ≡ c
shown_same c is = elim (scalar_cases c is.scalar) [
  | inl l ↦ rw (lt-ltb c 55296 l) refl
  | inr h ↦ (let a = h.0 in rw (le-ltb c 55296 (omega arith), le-ltb c 57344 a) refl)
]

shown_as : (c : ℕ) → IsPrintable c → (c < 65536) × (is_character (shown_letter c) ≡ true)
shown_as c is = (is.to, ap is_character (shown_same c is) ∙ character c is)

all_shown : (cs : List ℕ) → All IsPrintable cs → ArePrinted cs
all_shown [] all = tt
all_shown (c ∷ cs) all = (shown_as c (All-head IsPrintable c cs all), all_shown cs (All-tail IsPrintable c cs all))

-- ## The routine

module _ (p : Program) (story : List ℕ) (words : List (List ℕ)) (f w : ℕ) (some : 5 ≤ f) (enough : 22 ≤ w) (memory typed output : List ℕ) (drawn : ℕ) (cells : ℕ → ℕ) (sh : Shape) (S : Substitution) (x : ℕ) (v : Value) (g : IsGiven p story words memory cells sh S x v) where
  abbrev io : Laid
  io = record { p = p; story = story; captures = sh.captures; has = g.told; typed = typed; output = output; drawn = drawn; area = cells }

  abbrev m : M io
  m = record { memory = memory; cells = cells; holds = g.holds; kept = g.kept; behind = λ k le. refl }

  abbrev two : M io → ℕ → ℕ → State
  two m' a b = in_m io m' (a ∷ b ∷ [])

  abbrev Run : List Act → State → ActsOutcome → State → ℕ → Type 0
  Run acts s o s' i = Runs p f w SPLIT_ACTS acts s o s' i

  abbrev Here : List Act → State → List ℕ → ℕ → Type 0
  Here acts s ls most = Lays io words f w SPLIT_ACTS acts m sh.top s ls most

  -- ## Another routine's answer

  abbrev answered_by : ℕ → List Act → List Act
  answered_by r more = acts.Call (Some 1) (atoms.Routine r) (args.One (atoms.Var 1)) ∷ acts.Return (atoms.Var 1) ∷ more

  answers : (r n : ℕ) (body more : List Act) (a b : ℕ) (ls : List ℕ) (most : ℕ) → p.routine_at (p.names.routine r) ≡ Some (routine_of n body) → n ≤ 4 → Lays io words 4 18 body body m sh.top (routine_entered (two m a b) n (a, 0, 0)) ls most → Here (answered_by r more) (two m a b) ls (most + 2)
  answers r n body more a b ls most at few (all_laid m' y locals' count l same le runs) =
      all_laid m' y (y ∷ b ∷ []) (suc count + 1) l same (omega arith)
      (calls {f' = 4} {w' = 18} {n = count} {n' = 1} {xs = (a, 0, 0)} {s1 = in_m io m' locals'} {s2 = two m' y b} refl (rw (local_1 p memory a (b ∷ []) typed drawn output) refl) at (omega arith) (omega arith) runs (put_1 p m'.memory a y (b ∷ []) typed drawn output)
      (returns (local_1 p m'.memory y (b ∷ []) typed drawn output)))
  answers r n body more a b ls most at few (no_room memory' count over le runs) =
      no_room memory' (suc count) over (omega arith)
      (calls_last {f' = 4} {w' = 18} {n = count} {xs = (a, 0, 0)} refl (rw (local_1 p memory a (b ∷ []) typed drawn output) refl) at (omega arith) (omega arith) runs)

  -- ## What a looked-up word comes to

  -- No value is answered.
  record Refuses (a : ℕ) : Type 0 where
    locals' : List ℕ
    count : ℕ
    few : count ≤ 6
    runs : Run (drop 1 SPLIT_ACTS) (two m a 0) (Returns 65535) (state memory locals' typed drawn output) count

  abbrev most_of : List ℕ → ℕ
  most_of ls = length ls * (length words * 47 + 123) + 20

  abbrev Comes : ℕ → Option (List ℕ) → Type 0
  Comes a None = Refuses a
  Comes a (Some ls) = Here (drop 1 SPLIT_ACTS) (two m a 0) ls (most_of ls)

  less : (a k : ℕ) (t answer : Bool) → compared comparisons.Less a k ≡ t → answer_of p (two m a 0) (record { comparison = comparisons.Less; first = atoms.Var 1; second = atoms.Num k; answer = answer }) ≡ Some t
  less a k t answer e = tested p (two m a 0) comparisons.Less (atoms.Var 1) (atoms.Num k) answer a k t (local_1 p memory a (0 ∷ []) typed drawn output) refl e

  -- an object, or the empty list
  is_other : (a : ℕ) → 24576 ≤ a → a < 32768 → Refuses a
  unfolding behind_label
  is_other a le lt = record {
    locals' = a ∷ 0 ∷ [];
    count = 4;
    few = omega arith;
    runs = passed (less a 0 false true (not_less_by a 0 lt (omega arith) (omega arith)))
        (passed (less a 16384 false true (not_less_by a 16384 lt (omega arith) (omega arith)))
        (taken (less a 24576 false false (not_less_by a 24576 lt (omega arith) le)) refl
        (returns refl)));
  }

  is_variable : (k : ℕ) → k < 10000 → Refuses (32768 + k)
  unfolding behind_label
  is_variable k lt =
      let a = 32768 + k in
      record {
        locals' = a ∷ 0 ∷ [];
        count = 3;
        few = omega arith;
        runs = taken (less a 0 true true (high_is_less a 0 (omega arith) (omega arith) (omega arith))) refl
            (taken (less a 49152 true true (high_less a 49152 (omega arith) (omega arith) (omega arith))) refl
            (returns refl));
      }

  -- up to the test of a box's header
  to_header : (k h : ℕ) → k < 10000 → cells (heap_at + k) ≡ h → (o : ActsOutcome) (s' : State) (i : ℕ) → Run (drop 13 SPLIT_ACTS) (two m (49152 + k) h) o s' i → Run (drop 1 SPLIT_ACTS) (two m (49152 + k) 0) o s' (suc (suc (suc i)))
  unfolding behind_label
  to_header k h lt is o s' i go =
      let room = g.told.has.mapped.room in
      let a = 49152 + k in
      taken (less a 0 true true (high_is_less a 0 (omega arith) (omega arith) (omega arith))) refl
      (passed (less a 49152 false true (high_not_less a 49152 (omega arith) (omega arith) (omega arith)))
      (done (computes p (two m a 0) (two m a h) 2 functions.Word (atoms.Num 33438) (atoms.Var 1) 33438 a h refl (local_1 p memory a (0 ∷ []) typed drawn output) (reads_cell p.world.layout memory cells 33438 a (heap_at + k) g.holds (omega arith) (omega arith) ∙ ap word is) (put_2 p memory a 0 h [] typed drawn output))
      go))

  header_less : (a h : ℕ) (t : Bool) → compared comparisons.Less h 0 ≡ t → answer_of p (two m a h) (record { comparison = comparisons.Less; first = atoms.Var 2; second = atoms.Num 0; answer = false }) ≡ Some t
  header_less a h t e = tested p (two m a h) comparisons.Less (atoms.Var 2) (atoms.Num 0) false h 0 t (local_2 p memory a h [] typed drawn output) refl e

  is_box : (k h : ℕ) → k < 10000 → cells (heap_at + k) ≡ h → h < 32768 → Refuses (49152 + k)
  unfolding behind_label
  is_box k h lt is low =
      let a = 49152 + k in
      record {
        locals' = a ∷ h ∷ [];
        count = 5;
        few = omega arith;
        runs = to_header k h lt is (Returns 65535) (two m a h) 2
            (taken (header_less a h false (not_less_by h 0 low (omega arith) (omega arith))) refl (returns refl));
      }

  is_number : (n : ℕ) → n < 16384 → Here (drop 1 SPLIT_ACTS) (two m n 0) (decimal n) (most_of (decimal n))
  unfolding behind_label
  is_number n lt =
      let room = g.shape.room in
      in_front io words (most_of (decimal n)) (λ i. suc (suc i)) (λ i le. (omega arith)) (λ i le. (omega arith))
      (λ o s' i go. passed (less n 0 false true (not_less_by n 0 (omega arith) (omega arith) (omega arith)))
      (taken (less n 16384 true true (less_by n 16384 (omega arith) (omega arith) lt)) refl go))
      (answers SPLIT_NUMBER 3 SPLIT_NUMBER_ACTS (drop 10 SPLIT_ACTS) n 0 (decimal n) (length (decimal n) * (length words * 47 + 85) + 2) (g.told.has.each 124 (routine_of 3 SPLIT_NUMBER_ACTS) refl) (omega arith)
      (number_laid io words g.spelled 4 18 (omega arith) (omega arith) m sh.top n g.heap room lt))

  -- a word of the program, of letters or of none
  to_word : (n : ℕ) → n < 8192 → (o : ActsOutcome) (s' : State) (i : ℕ) → Run (drop 5 SPLIT_ACTS) (two m n 0) o s' i → Run (drop 1 SPLIT_ACTS) (two m (16384 + n) 0) o s' (suc (suc (suc (suc i))))
  to_word n lt o s' i go =
      let a = 16384 + n in
      passed (less a 0 false true (not_less_by a 0 (omega arith) (omega arith) (omega arith)))
      (passed (less a 16384 false true (not_less_by a 16384 (omega arith) (omega arith) (omega arith)))
      (passed (less a 24576 true false (less_by a 24576 (omega arith) (omega arith) (omega arith)))
      (done (computes p (two m a 0) (two m n 0) 1 functions.Sub (atoms.Var 1) (atoms.Num 16384) a 16384 n (local_1 p memory a (0 ∷ []) typed drawn output) refl (subtracts p memory a 16384 n refl (omega arith)) (put_1 p memory a n (0 ∷ []) typed drawn output))
      go)))

  spelling_at_is : p.routine_at (p.names.routine SPLIT_SPELLING) ≡ Some (routine_of 4 SPLIT_SPELLING_ACTS)
  spelling_at_is = g.told.has.each 126 (routine_of 4 SPLIT_SPELLING_ACTS) refl

  is_word : (n : ℕ) → n < 8192 → Here (drop 1 SPLIT_ACTS) (two m (16384 + n) 0) (chars (get_or words n [])) (most_of (chars (get_or words n [])))
  is_word n lt = elim (cases_lt n (length words)) [
    | inl is ↦ (let name = g.spelled.names n is in
        let cs = name.characters in
        let room = g.shape.room in
        subst (λ (ls : List ℕ). Here (drop 1 SPLIT_ACTS) (two m (16384 + n) 0) ls (most_of ls)) (sym (name_letters (get_or words n []) name))
        (in_front io words (most_of cs) (λ i. suc (suc (suc (suc i)))) (λ i le. (omega arith)) (λ i le. (omega arith)) (to_word n lt)
        (answers SPLIT_SPELLING 4 SPLIT_SPELLING_ACTS (drop 7 SPLIT_ACTS) n 0 cs (length cs * (length words * 47 + 123) + 12) spelling_at_is (omega arith)
        (there io words g.spelled 4 18 (omega arith) (omega arith) m sh.top n g.heap room lt is (all_shown cs name.printable)))))
    | inr le ↦ (let none : chars (get_or words n []) ≡ [] = ap chars (get_or_past words n [] le) ∙ chars-nil in
        let room = g.shape.room in
        subst (λ (ls : List ℕ). Here (drop 1 SPLIT_ACTS) (two m (16384 + n) 0) ls (most_of ls)) (sym none)
        (in_front io words (most_of []) (λ i. suc (suc (suc (suc i)))) (λ i le'. (omega arith)) (λ i le'. (omega arith)) (to_word n lt)
        (answers SPLIT_SPELLING 4 SPLIT_SPELLING_ACTS (drop 7 SPLIT_ACTS) n 0 [] 4 spelling_at_is (omega arith)
        (past io words g.spelled 4 18 (omega arith) (omega arith) m sh.top n g.heap room lt le))))
  ]

  letters_row : (i : ℕ) (ls : List ℕ) → Letters sh i ls → Row (λ k. cells (heap_at + k)) i ls
  letters_row i [] h = tt
  letters_row i (c ∷ cs) h = let low = h.0.fixed.0 in let room = g.shape.room in (g.stands.fixed i (omega arith) h.0.fixed ∙ h.0.is, letters_row (suc i) cs h.1)

  letters_under : (i : ℕ) (ls : List ℕ) → i ≤ sh.top → Letters sh i ls → i + length ls ≤ sh.top
  letters_under i [] le h = omega arith
  letters_under i (c ∷ cs) le h = let low = h.0.fixed.0 in let e = letters_under (suc i) cs (omega arith) h.1 in omega arith

  is_unknown : (k : ℕ) (ls : List ℕ) → k + 2 < 10000 → k + 3 ≤ sh.top → cells (heap_at + k) ≡ 32768 + length ls → ArePrinted ls → Letters sh (k + 3) ls → Here (drop 1 SPLIT_ACTS) (two m (49152 + k) 0) ls (most_of ls)
  is_unknown k ls lt under header fine all =
      let room = g.shape.room in
      let a = 49152 + k in
      let h = 32768 + length ls in
      let low = letters_under (k + 3) ls under all in
      in_front io words (most_of ls) (λ i. suc (suc (suc (suc i)))) (λ i le. (omega arith)) (λ i le. (omega arith))
      (λ o s' i go. to_header k h (omega arith) header o s' (suc i) (passed (header_less a h true (high_is_less h 0 (omega arith) (omega arith) (omega arith))) go))
      (answers SPLIT_LETTERS 4 SPLIT_LETTERS_ACTS (drop 16 SPLIT_ACTS) a h ls (length ls * (length words * 47 + 85) + 6) (g.told.has.each 125 (routine_of 4 SPLIT_LETTERS_ACTS) refl) (omega arith)
      (letters_laid io words g.spelled 4 18 (omega arith) (omega arith) m sh.top k room ls g.heap header (letters_row (k + 3) ls all) fine low))

  comes_of : (a : ℕ) (u : Value) → Shows sh a u → Comes a (letters_in_word words u)
  comes_of a u (number n lt) = is_number n lt
  comes_of a u (dict n lt) = is_word n lt
  comes_of a u (object n lt) = is_other (24576 + n) (omega arith) (omega arith)
  comes_of a u nil = is_other 28672 (omega arith) (omega arith)
  comes_of a u (variable n lt) = is_variable (sh.place n) (g.shape.within n lt)
  comes_of a u (boxed k header lt box cell (pair_in _ y z one two head tail)) = is_box k 0 (omega arith) (g.stands.fixed k (omega arith) cell.fixed ∙ cell.is) (omega arith)
  comes_of a u (boxed k header lt box cell (closure_in _ place small told few count all)) = is_box k (1 + place) (omega arith) (g.stands.fixed k (omega arith) cell.fixed ∙ cell.is) (omega arith)
  comes_of a u (boxed k header lt box cell (word_in _ fine all)) = is_unknown k _ lt (g.shape.ends k _ box) (g.stands.fixed k (omega arith) cell.fixed ∙ cell.is) fine all

  -- ## All of it

  ending_few : (u : Value) → ending u ≤ 4
  ending_few (Var n) = omega arith
  ending_few (Node h vs) = omega arith

  abbrev Walked : Type 0
  Walked = Walks p 0 0 WALK_ACTS sh S memory typed output drawn x 0 0 0 v

  walks : Walked
  walks = walk_works p g.told.has sh g.shape 0 0 memory typed output drawn 0 0 cells g.holds S g.stands x 0 v g.shows

  to_rest : (r : Walked) (o : ActsOutcome) (s' : State) (i : ℕ) → Run (drop 1 SPLIT_ACTS) (two m r.word 0) o s' i → Run SPLIT_ACTS (two m x 0) o s' (suc r.count + i)
  to_rest r o s' i go = calls {f' = 0} {w' = 0} {n = r.count} {n' = i} {xs = (x, 0, 0)} {s1 = state memory r.locals' typed drawn output} {s2 = two m r.word 0} refl (rw (local_1 p memory x (0 ∷ []) typed drawn output) refl) (walk_at p g.told.has) (omega arith) (omega arith) r.runs (put_1 p memory x r.word (0 ∷ []) typed drawn output) go

  refused : (r : Walked) → Refuses r.word → LaysNone p f w SPLIT_ACTS memory (x ∷ 0 ∷ []) typed output drawn cells (5 * links S v + 40)
  refused r q =
      let few = r.few in
      let few' = ending_few (walk S v) in
      let few'' = q.few in
      record { memory' = memory; cells' = cells; locals' = q.locals'; holds = g.holds; others = λ k far. refl; count = suc r.count + q.count; few = omega arith; runs = to_rest r (Returns 65535) (state memory q.locals' typed drawn output) q.count q.runs }

  pub none_of : letters_in_word words (walk S v) ≡ None → LaysNone p f w SPLIT_ACTS memory (x ∷ 0 ∷ []) typed output drawn cells (5 * links S v + 40)
  none_of e = let r = walks in refused r (subst (Comes r.word) e (comes_of r.word (walk S v) r.shows))

  abbrev most_for : List ℕ → ℕ
  most_for ls = 5 * links S v + 40 + making_most words ls (alone words ls)

  some_by : (r : Walked) (ls : List ℕ) → Here (drop 1 SPLIT_ACTS) (two m r.word 0) ls (most_of ls) → Here SPLIT_ACTS (two m x 0) ls (most_for ls)
  some_by r ls h =
      let few = r.few in
      let few' = ending_few (walk S v) in
      in_front io words (most_for ls) (λ i. suc r.count + i) (λ i le. (omega arith)) (λ i le. (omega arith)) (to_rest r) h

  some_of : (ls : List ℕ) → letters_in_word words (walk S v) ≡ Some ls → Here SPLIT_ACTS (two m x 0) ls (most_for ls)
  some_of ls e = let r = walks in some_by r ls (subst (Comes r.word) e (comes_of r.word (walk S v) r.shows))

  -- what memory stands for behind it
  laid_on : (ls : List ℕ) (m' : M io) (y : ℕ) (locals' : List ℕ) (count most : ℕ) → Listed io words m' sh.top ls y → Same io words m m' sh.top → count ≤ most → Run SPLIT_ACTS (two m x 0) (Returns y) (in_m io m' locals') count → LaysOn p f w SPLIT_ACTS memory (x ∷ 0 ∷ []) typed output drawn cells sh S (alone words ls) most
  laid_on ls m' y locals' count most l same few runs =
      let u = alone words ls in
      let many = g.spelled.few in
      let formed = alone_formed sh.captures words many ls l.printed in
      let free = alone_free sh.captures words many ls l.printed in
      let under : (k : ℕ) → k < sh.top → m'.cells (heap_at + k) ≡ cells (heap_at + k) = λ k lt. same (heap_at + k) (λ z. (omega arith)) (λ z. (omega arith)) in
      let sh' = copied sh g.shape g.low cells m'.cells S g.stands g.known u formed l.room under l.lies in
      record {
        memory' = m'.memory;
        cells' = m'.cells;
        locals' = locals';
        holds = m'.holds;
        sh' = sh';
        top = refl;
        vars = omega arith;
        grown = copied_grown sh g.shape g.low cells m'.cells S g.stands g.known u formed l.room under l.lies;
        boxes = copied_boxes sh g.shape g.low cells m'.cells S g.stands g.known u formed l.room under l.lies;
        shape = copied_shape sh g.shape g.low cells m'.cells S g.stands g.known u formed l.room under l.lies;
        low = copied_low sh g.shape g.low cells m'.cells S g.stands g.known u formed l.room under l.lies;
        stands = copied_stands sh g.shape g.low cells m'.cells S g.stands g.known u formed l.room under l.lies;
        word = y;
        shows = subst (λ (i : ℕ). Shows sh' i u) (sym l.word) (subst (Shows sh' (copy_word sh.top u)) (copied_same sh.vars u free) (copied_shows sh g.shape g.low cells m'.cells S g.stands g.known u formed l.room under l.lies));
        heap = l.heap;
        others = λ k n3 n38 n39 far line. same k n3 far;
        count = count;
        few = few;
        runs = runs;
      }

  pub lays_of : (ls : List ℕ) → sh.top + copy_cells (alone words ls) ≤ 10000 → Here SPLIT_ACTS (two m x 0) ls (most_for ls) → LaysOn p f w SPLIT_ACTS memory (x ∷ 0 ∷ []) typed output drawn cells sh S (alone words ls) (most_for ls)
  lays_of ls fits (all_laid m' y locals' count l same few runs) = laid_on ls m' y locals' count (most_for ls) l same few runs
  lays_of ls fits (no_room memory' count over few runs) = absurd (omega arith)

  pub meets_of : (ls : List ℕ) → 10000 < sh.top + copy_cells (alone words ls) → Here SPLIT_ACTS (two m x 0) ls (most_for ls) → MeetsLimit p f w SPLIT_ACTS memory (x ∷ 0 ∷ []) typed output drawn cells (most_for ls)
  meets_of ls over (all_laid m' y locals' count l same few runs) = absurd (let room = l.room in omega arith)
  meets_of ls over (no_room memory' count over' few runs) = record { memory' = memory'; count = count; runs = runs; few = few }

pub split_works : SplitWorks
split_works = record {
  none = λ p story words f w some enough memory typed output drawn cells sh S x v g fits e. none_of p story words f w some enough memory typed output drawn cells sh S x v g e;
  lays = λ p story words f w some enough memory typed output drawn cells sh S x v g fits letters e room. lays_of p story words f w some enough memory typed output drawn cells sh S x v g letters room (some_of p story words f w some enough memory typed output drawn cells sh S x v g letters e);
  meets = λ p story words f w some enough memory typed output drawn cells sh S x v g fits letters e over. meets_of p story words f w some enough memory typed output drawn cells sh S x v g letters over (some_of p story words f w some enough memory typed output drawn cells sh S x v g letters e);
}
