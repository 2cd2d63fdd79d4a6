-- The routine that prints a value which is no list does so.
use Rattle.std.proofs.Common.{◌≡◌, ◌≢◌, ℕ, suc, ◌+◌, ◌<◌, ◌≤◌, Bool, true, false, List, [], ◌∷◌, ◌++◌, drop, take, length, map, Some, None, refl, ap, ◌∙◌, subst, arith, append_assoc}
use Rattle.std.specs.Fmt.{decimal}
use Rattle.std.proofs.lemmas.List.{length-map}
use Rattle.dg_base.specs.declared.program.CoreProgram.{CoreProgram}
use Rattle.dg_meaning.specs.Values.{Word, Unknown, Object, Value, leaf}
use Rattle.dg_meaning.specs.World.{Piece}
use Rattle.dg_meaning.specs.Pieces.{shown_letter, word_text, label_piece, first_piece}
use Rattle.dg_meaning.specs.Render.{written, capital, separator, upper}
use Rattle.z_model.specs.Flow.{zeros}
use Rattle.z_lang.specs.declared.act.Act.{Act}
use Rattle.z_lang.specs.declared.act.Act.TheVariants as acts
use Rattle.z_lang.specs.declared.act.Args.TheVariants as args
use Rattle.z_lang.specs.declared.act.Atom.TheVariants as atoms
use Rattle.z_lang.specs.declared.act.Comparison.TheVariants as comparisons
use Rattle.z_lang.specs.declared.act.Function.TheVariants as functions
use Rattle.z_lang.specs.declared.act.Print.TheVariants as prints
use Rattle.z_lang.specs.State.{State}
use Rattle.z_lang.specs.Acts.{answer_of}
use Rattle.z_lang.specs.Runs.{ActsRun as Runs, ActsOutcome as Outcome, Returns, taken, passed, done, calls, returns, behind_label}
use Rattle.dg_rt.specs.declared.numbers.TheConstants.{PRINT_MARK, PRINT_NUMBER, PRINT_LETTERS}
use Rattle.dg_rt.specs.declared.printing.TheConstants.{PRINT_PIECE_ACTS}
use Rattle.dg_rt.specs.declared.pieces.TheConstants.{PRINT_MARK_ACTS, PRINT_NUMBER_ACTS, PRINT_LETTERS_ACTS}
use Rattle.dg_rt.specs.Cells.{compared, with_cell, replaced}
use Rattle.dg_rt.specs.Areas.{heap_at, state}
use Rattle.dg_rt.specs.Shapes.{IsShape, Cell, Shows, number, dict, object, nil, variable, boxed, ArePrinted, pair_in, closure_in, word_in}
use Rattle.dg_rt.specs.RunTime.{routine_of, HasRunTime}
use Rattle.dg_rt.specs.Pieces.{PrintsPiece}
use Rattle.dg_rt.specs.Prints.{SpellsBy, Spells, PrintsPieces}
use Rattle.dg_rt.proofs.Cells.{reads_cell, other_cell, same_cell}
use Rattle.dg_rt.proofs.Closing.{letter_printed}
use Rattle.dg_rt.proofs.Counted.{text_counted}
use Rattle.dg_rt.proofs.Following.{word, tested, computes, copies, says, puts}
use Rattle.dg_rt.proofs.Lettering.{shown_all_small, letters_work}
use Rattle.dg_rt.proofs.ListKind.{list_kind}
use Rattle.dg_rt.proofs.Locals.{get_1, get_2, get_3, get_4, set_1, set_4, simple_is_positive, less_by, not_less_by, boxed_is_negative, boxed_no_reference, reference_is_negative, reference, high_is_negative, subtracts}
use Rattle.dg_rt.proofs.Marks.{mark_works, number_works}
use Rattle.dg_rt.proofs.Points.{one_piece, Story, Point, at, Prints, behind, ends, prints_then, prints_behind, prints_last}
use Rattle.dg_rt.proofs.Showing.{letters_low}
use Rattle.dg_rt.proofs.Standing.{print_mark_at, print_number_at, print_letters_at}

-- ## A mark

-- A mark is printed by its routine.
abbrev pub mark_prints : (g : Story) → HasRunTime g.p → (q : Point g) (c : ℕ) → 31 < c → c < 127 → upper c ≡ c → PrintsPieces g.p 1 1 PRINT_MARK_ACTS PRINT_MARK_ACTS q.memory (c ∷ []) g.typed q.output g.drawn q.cells q.met ((c ∷ []) ∷ []) 21
mark_prints g has q c low high same = one_piece (c ∷ []) 21 (omega arith) (mark_works g.p has 1 1 (omega arith) (omega arith) q.memory g.typed q.output g.drawn c q.cells q.holds low high same q.met q.meets)

-- Others are printed behind it.
pub mark_then : (g : Story) (has : HasRunTime g.p) (f w : ℕ) → 2 ≤ f → 2 ≤ w → (body rest : List Act) (q : Point g) (locals : List ℕ) (c : ℕ) (low : 31 < c) (high : c < 127) (same : upper c ≡ c) (qs : List (List ℕ)) (most total : ℕ) → most + 22 ≤ total →
    Prints g f w body rest (behind g q (mark_prints g has q c low high same)) locals qs most → Prints g f w body (acts.Call None (atoms.Routine PRINT_MARK) (args.One (atoms.Num c)) ∷ rest) q locals ((c ∷ []) ∷ qs) total
mark_then g has f w two two' body rest q locals c low high same qs most total le later =
    prints_then g rest q locals (atoms.Routine PRINT_MARK) (args.One (atoms.Num c)) (g.p.names.routine PRINT_MARK) (c, 0, 0) (routine_of 1 PRINT_MARK_ACTS) ((c ∷ []) ∷ []) qs 21 most total refl refl (print_mark_at g.p has) (omega arith) (omega arith) (omega arith)
    (mark_prints g has q c low high same) later

-- ## The routine

module _ (g : Story) (has : HasRunTime g.p) (is : IsShape g.sh) (program : CoreProgram) (words objects : ℕ) (sp : Spells g.p g.story program words objects) (f w : ℕ) (some : 24 ≤ f) (enough : 96 ≤ w) (q : Point g) where
  abbrev loc : ℕ → ℕ → List ℕ
  loc a b = a ∷ words ∷ objects ∷ b ∷ []

  abbrev now : ℕ → ℕ → State
  now a b = at g q (loc a b)

  less : (a b k : ℕ) (t : Bool) → compared comparisons.Less a k ≡ t → answer_of g.p (now a b) (record { comparison = comparisons.Less; first = atoms.Var 1; second = atoms.Num k; answer = true }) ≡ Some t
  less a b k t e = tested g.p (now a b) comparisons.Less (atoms.Var 1) (atoms.Num k) true a k t (get_1 g.p q.memory a words objects b g.typed g.drawn q.output) refl e

  last_less : (a b : ℕ) (t : Bool) → compared comparisons.Less b 0 ≡ t → answer_of g.p (now a b) (record { comparison = comparisons.Less; first = atoms.Var 4; second = atoms.Num 0; answer = true }) ≡ Some t
  last_less a b t e = tested g.p (now a b) comparisons.Less (atoms.Var 4) (atoms.Num 0) true b 0 t (get_4 g.p q.memory a words objects b g.typed g.drawn q.output) refl e

  -- A piece is printed from here, with this in local 1.
  abbrev Piecewise : ℕ → ℕ → List ℕ → Type 0
  Piecewise a b bytes = Prints g f w PRINT_PIECE_ACTS PRINT_PIECE_ACTS q (loc a b) (bytes ∷ []) 110

  a_number : (n b : ℕ) → n < 16384 → Piecewise n b (decimal n)
  unfolding behind_label
  a_number n b lt =
      prints_behind g q (drop 7 PRINT_PIECE_ACTS) (loc n b) (decimal n ∷ []) (λ k. suc (suc k)) 2 24 110 (λ k. (omega arith)) (omega arith)
      (λ o s' k rest. passed (less n b 0 false (simple_is_positive n (omega arith))) (taken (less n b 16384 true (less_by n 16384 (omega arith) (omega arith) lt)) refl rest))
      (prints_last g {f' = 1} {w' = 1} (drop 9 PRINT_PIECE_ACTS) q (loc n b) (atoms.Routine PRINT_NUMBER) (args.One (atoms.Var 1)) (g.p.names.routine PRINT_NUMBER) (n, 0, 0) (routine_of 1 PRINT_NUMBER_ACTS) (decimal n) 19 24 refl
      (rw (get_1 g.p q.memory n words objects b g.typed g.drawn q.output) refl) (print_number_at g.p has) (omega arith) (omega arith) (omega arith)
      (one_piece (decimal n) 19 (omega arith) (number_works g.p has 1 1 (omega arith) (omega arith) q.memory g.typed q.output g.drawn n q.cells q.holds lt q.met q.meets)))

  -- what is told apart by its number is printed by a routine of the program
  spelled : (x many : ℕ) (text : ℕ → List ℕ) (s : SpellsBy g.p g.story x many text) (n : ℕ) → n < many → PrintsPieces g.p 20 80 s.body s.body q.memory (n ∷ take s.more (0 ∷ 0 ∷ zeros)) g.typed q.output g.drawn q.cells q.met (text n ∷ []) 100
  spelled x many text s n lt = one_piece (text n) 100 (omega arith) (s.prints q.memory g.typed q.output g.drawn n q.cells q.holds q.kept lt q.met q.meets)

  a_word : (n b : ℕ) → n < 8192 → Piecewise (16384 + n) b (label_piece program (Word n))
  unfolding behind_label
  a_word n b lt =
      let more = sp.words_are.few in
      let x = 16384 + n in
      let text : ℕ → List ℕ = λ i. label_piece program (Word i) in
      prints_behind g q (drop 11 PRINT_PIECE_ACTS) (loc n b) (text n ∷ []) (λ k. suc (suc (suc (suc k)))) 4 103 110 (λ k. (omega arith)) (omega arith)
      (λ o s' k rest. passed (less x b 0 false (simple_is_positive x (omega arith)))
      (passed (less x b 16384 false (not_less_by x 16384 (omega arith) (omega arith) (omega arith)))
      (taken (less x b 24576 true (less_by x 24576 (omega arith) (omega arith) (omega arith))) refl
      (done (computes g.p (now x b) (now n b) 1 functions.Sub (atoms.Var 1) (atoms.Num 16384) x 16384 n (get_1 g.p q.memory x words objects b g.typed g.drawn q.output) refl (subtracts g.p q.memory x 16384 n refl (omega arith)) (set_1 g.p q.memory x words objects b n g.typed g.drawn q.output)) rest))))
      (prints_last g {f' = 20} {w' = 80} (drop 13 PRINT_PIECE_ACTS) q (loc n b) (atoms.Var 2) (args.One (atoms.Var 1)) words (n, 0, 0) (routine_of (suc sp.words_are.more) sp.words_are.body) (text n) 100 103
      (get_2 g.p q.memory n words objects b g.typed g.drawn q.output) (rw (get_1 g.p q.memory n words objects b g.typed g.drawn q.output) refl) sp.words_are.there (omega arith) (omega arith) (omega arith)
      (spelled words 8192 text sp.words_are n lt))

  an_object : (n b : ℕ) → n < 4096 → Piecewise (24576 + n) b (label_piece program (Object n))
  an_object n b lt =
      let more = sp.objects_are.few in
      let x = 24576 + n in
      let text : ℕ → List ℕ = λ i. label_piece program (Object i) in
      prints_behind g q (drop 4 PRINT_PIECE_ACTS) (loc n b) (text n ∷ []) (λ k. suc (suc (suc (suc k)))) 4 103 110 (λ k. (omega arith)) (omega arith)
      (λ o s' k rest. passed (less x b 0 false (simple_is_positive x (omega arith)))
      (passed (less x b 16384 false (not_less_by x 16384 (omega arith) (omega arith) (omega arith)))
      (passed (less x b 24576 false (not_less_by x 24576 (omega arith) (omega arith) (omega arith)))
      (done (computes g.p (now x b) (now n b) 1 functions.Sub (atoms.Var 1) (atoms.Num 24576) x 24576 n (get_1 g.p q.memory x words objects b g.typed g.drawn q.output) refl (subtracts g.p q.memory x 24576 n refl (omega arith)) (set_1 g.p q.memory x words objects b n g.typed g.drawn q.output)) rest))))
      (prints_last g {f' = 20} {w' = 80} (drop 6 PRINT_PIECE_ACTS) q (loc n b) (atoms.Var 3) (args.One (atoms.Var 1)) objects (n, 0, 0) (routine_of (suc sp.objects_are.more) sp.objects_are.body) (text n) 100 103
      (get_3 g.p q.memory n words objects b g.typed g.drawn q.output) (rw (get_1 g.p q.memory n words objects b g.typed g.drawn q.output) refl) sp.objects_are.there (omega arith) (omega arith) (omega arith)
      (spelled objects 4096 text sp.objects_are n lt))

  a_variable : (k b : ℕ) → k < 10000 → Piecewise (32768 + k) b (36 ∷ [])
  unfolding behind_label
  a_variable k b lt =
      let x = 32768 + k in
      prints_behind g q (drop 22 PRINT_PIECE_ACTS) (loc x b) ((36 ∷ []) ∷ []) (λ i. suc (suc i)) 2 24 110 (λ i. (omega arith)) (omega arith)
      (λ o s' i rest. taken (less x b 0 true (reference_is_negative k (omega arith))) refl (taken (less x b 49152 true (reference k (omega arith))) refl rest))
      (mark_then g has f w (omega arith) (omega arith) PRINT_PIECE_ACTS (drop 23 PRINT_PIECE_ACTS) q (loc x b) 36 (omega arith) (omega arith) refl [] 1 24 (omega arith)
      (ends g f w PRINT_PIECE_ACTS (drop 24 PRINT_PIECE_ACTS) (behind g q (mark_prints g has q 36 (omega arith) (omega arith) refl)) (loc x b)))

  -- ---- boxes

  -- up to the test of a box's header
  to_header : (k header b i : ℕ) (o : Outcome) (s' : State) → k + 2 < 10000 → Cell g.sh k header → Runs g.p f w PRINT_PIECE_ACTS (drop 16 PRINT_PIECE_ACTS) (now (49152 + k) header) o s' i → Runs g.p f w PRINT_PIECE_ACTS PRINT_PIECE_ACTS (now (49152 + k) b) o s' (suc (suc (suc i)))
  unfolding behind_label
  to_header k header b i o s' lt c rest =
      let x = 49152 + k in
      let room = has.mapped.room in
      taken (less x b 0 true (boxed_is_negative k (omega arith))) refl
      (passed (less x b 49152 false (boxed_no_reference k (omega arith)))
      (done (computes g.p (now x b) (now x header) 4 functions.Word (atoms.Num 33438) (atoms.Var 1) 33438 x header refl (get_1 g.p q.memory x words objects b g.typed g.drawn q.output) (reads_cell g.p.world.layout q.memory q.cells 33438 x (heap_at + k) q.holds (omega arith) (omega arith) ∙ ap word (q.stands.fixed k (omega arith) c.fixed ∙ c.is)) (set_4 g.p q.memory x words objects b header g.typed g.drawn q.output)) rest))

  an_unknown_word : (k b : ℕ) (letters : List ℕ) → k + 2 < 10000 → length letters < 32768 → Cell g.sh k (32768 + length letters) → (fine : ArePrinted letters) → Shows g.sh (49152 + k) (leaf (Unknown letters)) → Piecewise (49152 + k) b (word_text letters)
  unfolding behind_label
  an_unknown_word k b letters lt few c fine s =
      let x = 49152 + k in
      let header = 32768 + length letters in
      let many = text_counted (map shown_letter letters) (shown_all_small letters fine) in
      let same = length-map letters shown_letter in
      prints_behind g q (drop 25 PRINT_PIECE_ACTS) (loc x header) (word_text letters ∷ []) (λ i. suc (suc (suc (suc i)))) 4 33 110 (λ i. (omega arith)) (omega arith)
      (λ o s' i rest. to_header k header b (suc i) o s' lt c (taken (last_less x header true (high_is_negative (length letters) few)) refl rest))
      (prints_last g {f' = 1} {w' = 1} (drop 27 PRINT_PIECE_ACTS) q (loc x header) (atoms.Routine PRINT_LETTERS) (args.One (atoms.Var 1)) (g.p.names.routine PRINT_LETTERS) (x, 0, 0) (routine_of 3 PRINT_LETTERS_ACTS) (word_text letters) 31 33 refl
      (rw (get_1 g.p q.memory x words objects header g.typed g.drawn q.output) refl) (print_letters_at g.p has) (omega arith) (omega arith) (omega arith)
      (one_piece (word_text letters) 31 (omega arith) (letters_work g.p has 1 1 (omega arith) (omega arith) q.memory g.typed q.output g.drawn g.sh is q.cells q.holds g.S q.stands x letters s q.met q.meets)))

  abbrev braces : List ℕ
  braces = 123 ∷ 125 ∷ []

  -- a closure: braces, of which the first is a mark
  a_closure_by : (k place b : ℕ) → k + 2 < 10000 → place < 16384 → Cell g.sh k (1 + place) → PrintsPiece g.p 1 1 PRINT_MARK_ACTS q.memory (123 ∷ []) g.typed q.output g.drawn q.cells q.met (123 ∷ []) 21 → PrintsPiece g.p f w PRINT_PIECE_ACTS q.memory (loc (49152 + k) b) g.typed q.output g.drawn q.cells q.met braces 40
  a_closure_by k place b lt small c r =
      let room = has.mapped.room in
      let few = r.few in
      let x = 49152 + k in
      let header = 1 + place in
      let l = loc x header in
      let out1 = q.output ++ written q.met (Piece (123 ∷ [])) in
      let out2 = out1 ++ (125 ∷ []) in
      let sep = separator q.met.gap q.met.last 123 in
      let cap = capital q.met.gap (123 ∷ []) in
      let final : out2 ≡ q.output ++ written q.met (Piece braces) = append_assoc q.output (sep ++ cap) (125 ∷ []) ∙ ap (λ (o : List ℕ). q.output ++ o) (append_assoc sep cap (125 ∷ [])) in
      let s1 : State = state r.memory' l g.typed g.drawn out1 in
      let s2 : State = state r.memory' l g.typed g.drawn out2 in
      let put = puts g.p s2 r.cells' 44 2 r.holds (omega arith) (omega arith) (omega arith) (omega arith) in
      let m2 = with_cell r.memory' 28 2 in
      let c2 = replaced r.cells' 28 2 in
      let far : (i : ℕ) → i ≢ 28 → c2 i ≡ r.cells' i = λ i ne. other_cell r.cells' 28 2 i ne in
      let s3 : State = state m2 l g.typed g.drawn out2 in
      record {
        memory' = m2;
        cells' = c2;
        locals' = l;
        holds = put.holds;
        meets = record {
          last = same_cell r.cells' 28 2;
          lines = far 30 (λ e. (omega arith)) ∙ r.meets.lines;
          spaces = far 31 (λ e. (omega arith)) ∙ r.meets.spaces;
          asked = far 32 (λ e. (omega arith)) ∙ r.meets.asked;
          upper = far 33 (λ e. (omega arith)) ∙ r.meets.upper;
        };
        others = λ i n28 n30 n31 n32 n33. far i n28 ∙ r.others i n28 n30 n31 n32 n33;
        count = suc (suc (suc (suc (suc r.count + 3))));
        few = omega arith;
        runs = subst (λ (o : List ℕ). Runs g.p f w PRINT_PIECE_ACTS PRINT_PIECE_ACTS (now x b) (Returns 0) (state m2 l g.typed g.drawn o) (suc (suc (suc (suc (suc r.count + 3)))))) final
            (to_header k header b (suc (suc r.count + 3)) (Returns 0) s3 lt c
            (passed (last_less x header false (simple_is_positive header (omega arith)))
            (calls {f' = 1} {w' = 1} {n = r.count} {n' = 3} {xs = (123, 0, 0)} {s1 = state r.memory' r.locals' g.typed g.drawn out1} {s2 = s1} refl refl (print_mark_at g.p has) (omega arith) (omega arith) r.runs refl
            (done (says g.p s1 prints.Code (atoms.Num 125) 125 (125 ∷ []) refl (letter_printed r.memory' 125 (omega arith) (omega arith)))
            (done (copies g.p s2 s3 44 (atoms.Num 2) 2 refl put.put_is) (returns refl))))));
      }

  a_closure : (k place b : ℕ) → k + 2 < 10000 → place < 16384 → Cell g.sh k (1 + place) → Piecewise (49152 + k) b braces
  a_closure k place b lt small c =
      one_piece braces 110 (omega arith) (a_closure_by k place b lt small c (mark_works g.p has 1 1 (omega arith) (omega arith) q.memory g.typed q.output g.drawn 123 q.cells q.holds (omega arith) (omega arith) refl q.met q.meets))

  -- ---- all

  pub piece_works : (x b : ℕ) (v : Value) → Shows g.sh x v → list_kind v ≡ 0 → Piecewise x b (first_piece program v)
  piece_works x b v (number n lt) none = a_number n b lt
  piece_works x b v (dict n lt) none = a_word n b lt
  piece_works x b v (object n lt) none = an_object n b lt
  piece_works x b v nil none = absurd (omega (arith, none))
  piece_works x b v (variable n lt) none = let low = is.within n lt in a_variable (g.sh.place n) b low
  piece_works x b v (boxed k header lt box cell (pair_in _ y z one two head tail)) none = absurd (omega (arith, none))
  piece_works x b v (boxed k header lt box cell (closure_in _ place small told few count all)) none = a_closure k place b lt small cell
  piece_works x b v (boxed k header lt box cell (word_in {letters = xs} _ fine all)) none =
      let low = letters_low is (k + 3) xs (omega arith) all in
      an_unknown_word k b xs lt (omega arith) cell fine (boxed k header lt box cell (word_in k fine all))
