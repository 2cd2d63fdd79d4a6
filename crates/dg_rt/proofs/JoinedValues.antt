-- The letters of a word or number are written into a row.
use Rattle.std.proofs.Common.{◌≡◌, ℕ, suc, ◌+◌, ◌*◌, ◌<◌, ◌≤◌, inl, inr, Bool, true, false, List, [], ◌∷◌, drop, length, get_or, Option, Some, None, refl, sym, ap, ◌∙◌, subst, arith}
use Rattle.std.specs.Fmt.{decimal}
use Rattle.std.specs.Str.{chars}
use Rattle.std.proofs.lemmas.Bool.{cases_lt}
use Rattle.dg_meaning.specs.Substitutions.{Substitution, walk, links, resolved}
use Rattle.dg_meaning.specs.Values.{Num, Word, Unknown, Object, Nil, Pair, Closure, Value, Var, Node, NoMore, More, leaf}
use Rattle.dg_meaning.specs.Words.{letters_in_word}
use Rattle.dg_meaning.proofs.Walks.{walked, resolved_node, resolved_unbound}
use Rattle.z_lang.specs.declared.act.Act.{Act}
use Rattle.z_lang.specs.declared.act.Atom.TheVariants as atoms
use Rattle.z_lang.specs.declared.act.Comparison.TheVariants as comparisons
use Rattle.z_lang.specs.declared.act.Function.TheVariants as functions
use Rattle.z_lang.specs.State.{State, Program}
use Rattle.z_lang.specs.Acts.{answer_of}
use Rattle.z_lang.specs.Runs.{ActsRun as Runs, Returns, taken, passed, done, calls, returns, behind_label}
use Rattle.z_lang.specs.Standing.{IsKept}
use Rattle.dg_rt.specs.declared.numbers.TheConstants.{WORD_LETTERS, BOX_LETTERS}
use Rattle.dg_rt.specs.declared.joining.TheConstants.{WORD_LETTERS_ACTS, BOX_LETTERS_ACTS, VALUE_LETTERS_ACTS}
use Rattle.dg_rt.specs.Cells.{at_cell, compared, Holds}
use Rattle.dg_rt.specs.Areas.{heap_at, state}
use Rattle.dg_rt.specs.Dictionary.{HasSpellings}
use Rattle.dg_rt.specs.RunTime.{routine_of, HasRunTime}
use Rattle.dg_rt.specs.Shapes.{Shape, IsShape, Letters, ArePrinted, Cell, Shows, number, dict, object, nil, variable, boxed, Filled, pair_in, closure_in, word_in, Stands}
use Rattle.dg_rt.specs.inside.Walks.{ending}
use Rattle.dg_rt.proofs.Cells.{reads_cell}
use Rattle.dg_rt.proofs.Following.{word, tested, computes, local_1, local_2, local_3, put_1, put_2, put_3}
use Rattle.dg_rt.proofs.JoinedBoxes.{box_letters}
use Rattle.dg_rt.proofs.JoinedDigits.{Digits, digits, digits_at}
use Rattle.dg_rt.proofs.JoinedRows.{Puts, in_row, past_row, mapped, called, wider}
use Rattle.dg_rt.proofs.JoinedSpellings.{word_letters}
use Rattle.dg_rt.proofs.Lettering.{lie_at}
use Rattle.dg_rt.proofs.Locals.{simple_is_positive, boxed_is_negative, reference_is_negative, reference, boxed_no_reference, high_is_negative, subtracts, less_by, not_less_by}
use Rattle.dg_rt.proofs.Showing.{letters_low}
use Rattle.dg_rt.proofs.Standing.{walk_at}
use Rattle.dg_rt.proofs.Walking.{walk_works}

module _ (p : Program) (has : HasRunTime p) where
  word_letters_at : p.routine_at (p.names.routine WORD_LETTERS) ≡ Some (routine_of 6 WORD_LETTERS_ACTS)
  word_letters_at = has.each 130 (routine_of 6 WORD_LETTERS_ACTS) refl

  box_letters_at : p.routine_at (p.names.routine BOX_LETTERS) ≡ Some (routine_of 4 BOX_LETTERS_ACTS)
  box_letters_at = has.each 131 (routine_of 4 BOX_LETTERS_ACTS) refl

abbrev some_letters : List ℕ → Option (List ℕ)
some_letters xs = Some xs

module _ (p : Program) (has : HasRunTime p) (story : List ℕ) (words : List (List ℕ)) (dict' : HasSpellings p story words) (sh : Shape) (is : IsShape sh) (S : Substitution) (f w : ℕ) (some : 5 ≤ f) (enough : 15 ≤ w) (typed output : List ℕ) (drawn : ℕ) where
  abbrev now : List ℕ → ℕ → ℕ → ℕ → State
  now m a b c = state m (a ∷ b ∷ c ∷ []) typed drawn output

  abbrev From : List Act → State → ℕ → List ℕ → List ℕ → ℕ → Type 0
  From acts s x m l i = Runs p f w VALUE_LETTERS_ACTS acts s (Returns x) (state m l typed drawn output) i

  module _ (memory : List ℕ) (cells : ℕ → ℕ) (h : Holds p.world.layout memory cells) (kept : IsKept p.world.layout.base story memory) (st : Stands sh cells S) (j : ℕ) (from : 15315 ≤ j) (le : j ≤ 15800) where
    -- Behind the walk.
    abbrev Goes : ℕ → Option (List ℕ) → Type 0
    Goes y made = Puts p story cells j made 50 (From (drop 1 VALUE_LETTERS_ACTS) (now memory y (at_cell j) 0))

    less : (y c k : ℕ) (answer r : Bool) → compared comparisons.Less y k ≡ r → answer_of p (now memory y (at_cell j) c) (record { comparison = comparisons.Less; first = atoms.Var 1; second = atoms.Num k; answer = answer }) ≡ Some r
    less y c k answer r e = tested p (now memory y (at_cell j) c) comparisons.Less (atoms.Var 1) (atoms.Num k) answer y k r (local_1 p memory y (at_cell j ∷ c ∷ []) typed drawn output) refl e

    refused : (y : ℕ) (made : Option (List ℕ)) (l : List ℕ) (i : ℕ) → made ≡ None → i ≤ 5 → From (drop 1 VALUE_LETTERS_ACTS) (now memory y (at_cell j) 0) 31666 memory l i → Goes y made
    refused y made l i none few r = past_row memory l cells 31666 i (λ xs e. absurd (cc (sym none ∙ e))) h kept (λ k far. refl) (omega arith) (omega arith) (omega arith) r

    -- a number
    of_number : (n : ℕ) → n < 16384 → Goes n (Some (decimal n))
    unfolding behind_label
    of_number n lt =
        elim (cases_lt 15800 (j + length (decimal n))) [
          | inl long ↦ by_long long
          | inr short ↦ by_short short
        ]
      where
        d : Digits p has story typed output drawn 4 12 memory cells j n 4
        d = digits p has story typed output drawn 4 n j 4 12 memory cells h kept (omega arith) (omega arith) (omega arith) (omega arith) (omega arith)

        way : From (drop 1 VALUE_LETTERS_ACTS) (now memory n (at_cell j) 0) (at_cell (j + length (decimal n))) d.memory' (n ∷ at_cell (j + length (decimal n)) ∷ 0 ∷ []) (suc (suc (suc d.count + 1)))
        way =
            let o = at_cell j in
            let o' = at_cell (j + length (decimal n)) in
            passed (less n 0 0 true false (simple_is_positive n (omega arith)))
            (taken (less n 0 16384 true true (less_by n 16384 (omega arith) (omega arith) lt)) refl
            (calls {f' = 4} {w' = 12} {n = d.count} {n' = 1} {xs = (n, o, 0)} {s2 = now d.memory' n o' 0} refl (rw (local_1 p memory n (o ∷ 0 ∷ []) typed drawn output, local_2 p memory n o (0 ∷ []) typed drawn output) refl) (digits_at p has) (omega arith) (omega arith) d.runs (put_2 p d.memory' n o o' (0 ∷ []) typed drawn output)
            (returns (local_2 p d.memory' n o' (0 ∷ []) typed drawn output))))

        by_short : j + length (decimal n) ≤ 15800 → Goes n (Some (decimal n))
        by_short short = let few = d.few in let most = d.short in in_row (decimal n) d.memory' (n ∷ at_cell (j + length (decimal n)) ∷ 0 ∷ []) d.cells' (suc (suc (suc d.count + 1))) refl d.fine short d.holds d.kept d.row (λ i far. d.others i (λ z. (let q = far z in omega arith))) (omega arith) way

        by_long : 15800 < j + length (decimal n) → Goes n (Some (decimal n))
        by_long long = let few = d.few in let most = d.short in past_row d.memory' (n ∷ at_cell (j + length (decimal n)) ∷ 0 ∷ []) d.cells' (at_cell (j + length (decimal n))) (suc (suc (suc d.count + 1))) (λ xs e. let same : decimal n ≡ xs = cc e in let size : length (decimal n) ≡ length xs = ap length same in omega arith) d.holds d.kept (λ i far. d.others i (λ z. (let q = far z in omega arith))) (omega arith) (omega arith) (omega arith) way

    -- a word of the program
    of_dict : (n : ℕ) → n < 8192 → Goes (16384 + n) (Some (chars (get_or words n [])))
    of_dict n lt =
        let room = has.mapped.room in
        let y = 16384 + n in
        let o = at_cell j in
        wider 50 (omega arith) (called 6 (λ i. suc (suc (suc (suc (suc i + 1))))) (λ v. n ∷ v ∷ 0 ∷ []) (λ i. omega arith)
        (λ v m' l' i r. passed (less y 0 0 true false (simple_is_positive y (omega arith)))
        (passed (less y 0 16384 true false (not_less_by y 16384 (omega arith) (omega arith) (omega arith)))
        (passed (less y 0 24576 false true (less_by y 24576 (omega arith) (omega arith) (omega arith)))
        (done (computes p (now memory y o 0) (now memory n o 0) 1 functions.Sub (atoms.Var 1) (atoms.Num 16384) y 16384 n (local_1 p memory y (o ∷ 0 ∷ []) typed drawn output) refl (subtracts p memory y 16384 n (omega arith) (omega arith)) (put_1 p memory y n (o ∷ 0 ∷ []) typed drawn output))
        (calls {f' = 0} {w' = 0} {n = i} {n' = 1} {xs = (n, o, 0)} {s2 = now m' n v 0} refl (rw (local_1 p memory n (o ∷ 0 ∷ []) typed drawn output, local_2 p memory n o (0 ∷ []) typed drawn output) refl) (word_letters_at p has) (omega arith) (omega arith) r (put_2 p m' n o v (0 ∷ []) typed drawn output)
        (returns (local_2 p m' n v (0 ∷ []) typed drawn output)))))))
        (word_letters p has story 0 0 typed output drawn words dict' memory cells h kept n j le (omega arith)))

    -- an object, or the empty list
    of_other : (y : ℕ) (made : Option (List ℕ)) → 24576 ≤ y → y < 32768 → made ≡ None → Goes y made
    unfolding behind_label
    of_other y made ge lt none =
        refused y made (y ∷ at_cell j ∷ 0 ∷ []) 4 none (omega arith)
        (passed (less y 0 0 true false (simple_is_positive y lt))
        (passed (less y 0 16384 true false (not_less_by y 16384 lt (omega arith) (omega arith)))
        (taken (less y 0 24576 false false (not_less_by y 24576 lt (omega arith) ge)) refl
        (returns refl))))

    of_variable : (k : ℕ) (made : Option (List ℕ)) → k < 10000 → made ≡ None → Goes (32768 + k) made
    unfolding behind_label
    of_variable k made lt none =
        let y = 32768 + k in
        refused y made (y ∷ at_cell j ∷ 0 ∷ []) 3 none (omega arith)
        (taken (less y 0 0 true true (reference_is_negative k (omega arith))) refl
        (taken (less y 0 49152 true true (reference k (omega arith))) refl
        (returns refl)))

    -- up to the test of a box's header
    to_header : (k header v i : ℕ) (m l : List ℕ) → k + 2 < 10000 → Cell sh k header → From (drop 13 VALUE_LETTERS_ACTS) (now memory (49152 + k) (at_cell j) header) v m l i → From (drop 1 VALUE_LETTERS_ACTS) (now memory (49152 + k) (at_cell j) 0) v m l (suc (suc (suc i)))
    unfolding behind_label
    to_header k header v i m l lt c rest =
        let y = 49152 + k in
        let o = at_cell j in
        let room = has.mapped.room in
        taken (less y 0 0 true true (boxed_is_negative k (omega arith))) refl
        (passed (less y 0 49152 true false (boxed_no_reference k (omega arith)))
        (done (computes p (now memory y o 0) (now memory y o header) 3 functions.Word (atoms.Num 33438) (atoms.Var 1) 33438 y header refl (local_1 p memory y (o ∷ 0 ∷ []) typed drawn output) (reads_cell p.world.layout memory cells 33438 y (heap_at + k) h (omega arith) (omega arith) ∙ ap word (st.fixed k (omega arith) c.fixed ∙ c.is)) (put_3 p memory y o 0 header [] typed drawn output))
        rest))

    header_less : (y header : ℕ) (r : Bool) → compared comparisons.Less header 0 ≡ r → answer_of p (now memory y (at_cell j) header) (record { comparison = comparisons.Less; first = atoms.Var 3; second = atoms.Num 0; answer = false }) ≡ Some r
    header_less y header r e = tested p (now memory y (at_cell j) header) comparisons.Less (atoms.Var 3) (atoms.Num 0) false header 0 r (local_3 p memory y (at_cell j) header [] typed drawn output) refl e

    of_box : (k header : ℕ) (made : Option (List ℕ)) → k + 2 < 10000 → header < 32768 → Cell sh k header → made ≡ None → Goes (49152 + k) made
    unfolding behind_label
    of_box k header made lt low c none =
        let y = 49152 + k in
        refused y made (y ∷ at_cell j ∷ header ∷ []) 5 none (omega arith)
        (to_header k header 31666 2 memory (y ∷ at_cell j ∷ header ∷ []) lt c
        (taken (header_less y header false (simple_is_positive header low)) refl
        (returns refl)))

    of_unknown : (k : ℕ) (xs : List ℕ) → k + 2 < 10000 → Cell sh k (32768 + length xs) → ArePrinted xs → Letters sh (k + 3) xs → Goes (49152 + k) (Some xs)
    of_unknown k xs lt c fine all =
        let y = 49152 + k in
        let o = at_cell j in
        let header = 32768 + length xs in
        let low = letters_low is (k + 3) xs (omega arith) all in
        wider 50 (omega arith) (called 6 (λ i. suc (suc (suc (suc (suc i + 1))))) (λ v. y ∷ v ∷ header ∷ []) (λ i. omega arith)
        (λ v m' l' i r. to_header k header v (suc (suc i + 1)) m' (y ∷ v ∷ header ∷ []) lt c
        (passed (header_less y header true (high_is_negative (length xs) (omega arith)))
        (calls {f' = 0} {w' = 0} {n = i} {n' = 1} {xs = (y, o, 0)} {s2 = now m' y v header} refl (rw (local_1 p memory y (o ∷ header ∷ []) typed drawn output, local_2 p memory y o (header ∷ []) typed drawn output) refl) (box_letters_at p has) (omega arith) (omega arith) r (put_2 p m' y o v (header ∷ []) typed drawn output)
        (returns (local_2 p m' y v (header ∷ []) typed drawn output)))))
        (box_letters p has story 0 0 typed output drawn xs memory cells k j h kept from le (st.fixed k (omega arith) c.fixed ∙ c.is) low (lie_at sh is cells S st (k + 3) k xs refl all) fine))

    by_box : (k header : ℕ) (u : Value) → k + 2 < 10000 → Cell sh k header → Filled sh k header u → Goes (49152 + k) (letters_in_word words (resolved S u))
    by_box k header u lt c (pair_in {h = a} {t = b} _ x y one two sa sb) = of_box k 0 (letters_in_word words (resolved S (Node Pair (More a (More b NoMore))))) lt (omega arith) c (rw (resolved_node S Pair (More a (More b NoMore))) refl)
    by_box k header u lt c (closure_in {vs = vs} _ place small told few count all) = of_box k (1 + place) (letters_in_word words (resolved S (Node (Closure place) vs))) lt (omega arith) c (rw (resolved_node S (Closure place) vs) refl)
    by_box k header u lt c (word_in {letters = xs} _ fine all) = rw (resolved_node S (Unknown xs) NoMore) (of_unknown k xs lt c fine all)

    by_shows : (y : ℕ) (u v : Value) → Shows sh y u → walk S v ≡ u → Goes y (letters_in_word words (resolved S u))
    by_shows y u v (number n lt) e = rw (resolved_node S (Num n) NoMore) (of_number n lt)
    by_shows y u v (dict n lt) e = rw (resolved_node S (Word n) NoMore) (of_dict n lt)
    by_shows y u v (object n lt) e = of_other (24576 + n) (letters_in_word words (resolved S (leaf (Object n)))) (omega arith) (omega arith) (rw (resolved_node S (Object n) NoMore) refl)
    by_shows y u v nil e = of_other 28672 (letters_in_word words (resolved S (leaf Nil))) (omega arith) (omega arith) (rw (resolved_node S Nil NoMore) refl)
    by_shows y u v (variable n lt) e = let low = is.within n lt in of_variable (sh.place n) (letters_in_word words (resolved S (Var n))) low (rw (resolved_unbound S n ((walked S st.sound v).free n e)) refl)
    by_shows y u v (boxed k header lt at c inside) e = by_box k header u lt c inside

    pub value_letters : (x : ℕ) (v : Value) → Shows sh x v → Puts p story cells j (letters_in_word words (resolved S v)) (60 + 5 * links S v) (From VALUE_LETTERS_ACTS (now memory x (at_cell j) 0))
    value_letters x v s =
        let o = at_cell j in
        let wk = walk_works p has sh is 0 0 memory typed output drawn 0 0 cells h S st x 0 v s in
        let few = wk.few in
        let last = ending_few (walk S v) in
        let same = (walked S st.sound v).same in
        subst (λ (u : Value). Puts p story cells j (letters_in_word words u) (60 + 5 * links S v) (From VALUE_LETTERS_ACTS (now memory x (at_cell j) 0))) same
        (wider (60 + 5 * links S v) (omega arith) (mapped (suc wk.count) (λ i. suc wk.count + i) (λ i. omega arith)
        (λ v' m' l' i r. calls {f' = 0} {w' = 0} {n = wk.count} {n' = i} {xs = (x, 0, 0)} {s2 = now memory wk.word o 0} refl (rw (local_1 p memory x (o ∷ 0 ∷ []) typed drawn output) refl) (walk_at p has) (omega arith) (omega arith) wk.runs (put_1 p memory x wk.word (o ∷ 0 ∷ []) typed drawn output) r)
        (by_shows wk.word (walk S v) v wk.shows refl)))
      where
        ending_few : (u : Value) → ending u ≤ 4
        ending_few (Var n) = omega arith
        ending_few (Node g vs) = omega arith
