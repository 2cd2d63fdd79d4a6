-- The routine that copies a value out of the heap does so.
use Rattle.std.proofs.Common.{◌≡◌, ℕ, zero, suc, ◌+◌, ◌*◌, ◌<◌, ◌≤◌, true, false, List, [], ◌∷◌, ◌++◌, drop, map, length, Some, refl, sym, ap, ◌∙◌, subst, arith, append-nil}
use Rattle.std.proofs.lemmas.Bool.{eq-eqb, ne_eqb}
use Rattle.z_lang.specs.declared.act.Comparison.TheVariants as comparisons
use Rattle.z_lang.specs.State.{State, Program}
use Rattle.z_lang.specs.Runs.{at_label, goes, taken, passed, done, calls, returns, behind_label}
use Rattle.dg_base.specs.declared.cells.Cell.TheVariants as cell
use Rattle.dg_meaning.specs.Values.{Label, Pair, Closure, Unknown, Value, Var, Node, Values, NoMore, More, pair, leaf}
use Rattle.dg_meaning.specs.ValueCells.{count_of}
use Rattle.dg_meaning.specs.Letters.{letters_at, letters_in, letters_in_all}
use Rattle.dg_meaning.specs.Substitutions.{Substitution, walk, links, resolved, contains, any_contains}
use Rattle.dg_meaning.specs.inside.Substitutions.{all_resolved, IsSubstitution}
use Rattle.dg_meaning.specs.Unify.{looks, size}
use Rattle.dg_meaning.proofs.Walks.{walked, resolved_node, resolved_unbound, or_left, or_right}
use Rattle.dg_meaning.proofs.LookUps.{walk_node}
use Rattle.dg_rt.proofs.Standing.{walk_at}
use Rattle.dg_rt.specs.declared.unify.TheConstants.{WALK_ACTS}
use Rattle.dg_rt.specs.declared.copies.TheConstants.{COPY_OUT_ACTS}
use Rattle.dg_rt.specs.Cells.{compared, at_cell}
use Rattle.dg_rt.specs.Areas.{heap_at, state}
use Rattle.dg_rt.specs.Shapes.{Shape, IsShape, Cell, Letters, Shows, number, dict, object, nil, boxed, Filled, pair_in, closure_in, word_in, AllShow, one_more}
use Rattle.dg_rt.specs.RunTime.{HasRunTime}
use Rattle.dg_rt.specs.Copies.{cell_word, words_of, CopiesOut}
use Rattle.dg_rt.specs.inside.Walks.{ending, Walks, steps}
use Rattle.dg_rt.specs.inside.Depth.{Smaller, AllSmaller, Below, on_top, under}
use Rattle.dg_rt.proofs.Locals.{first, second, put_first, reference, boxed_is_negative, simple_is_positive, high_is_negative}
use Rattle.dg_rt.proofs.Showing.{node_word, variable_word, all_low, letters_low}
use Rattle.dg_rt.proofs.Depth.{below_smaller, below_walk, parts_smaller, levels}
use Rattle.dg_rt.proofs.Walking.{walk_works}
use Rattle.dg_rt.proofs.Looks.{links_some}
use Rattle.dg_rt.proofs.UnifySteps.{steps_are}
use Rattle.dg_rt.proofs.CopySteps.{CopyingOut, copies_map, Spot, chars_are, labelled, lim, at, Run, Out, longer, first_less, fourth_less, fourth_zero, first_fifth, first_fourth, read_1, read_4, read_5, next_1, sum_5, end_5, end_4, half_4, own_5, set_5, field, emits, ends_here, called, seen, row, rows, price_of, price_all, Absent, AllAbsent, rows_more, seen_more, resolved_walked, seen_node, resolved_as}

module _ (io : CopyingOut) where
  open io use {p, has, sh, is, typed, output, drawn, S, s, n, end, room, small}

  -- ---- captured values, one after another

  abbrev Called : ℕ → Spot p sh S → ℕ → ℕ → Value → Type 0
  Called f m j x a = CopiesOut p f COPY_OUT_ACTS typed output drawn m.memory (x ∷ at_cell j ∷ at_cell end ∷ 0 ∷ 0 ∷ []) m.cells j end ((row io) a) 5 ((price_of io) a)

  abbrev Each : ℕ → Value → Type 0
  Each f w = (m : Spot p sh S) (j x : ℕ) (a : Value) → 12315 ≤ j → j ≤ end → Shows sh x a → Smaller S a w → (Absent io) a → Called f m j x a

  values : (f : ℕ) (w : Value) → Each f w → (vs : Values) (m : Spot p sh S) (b k j y spent most : ℕ) → k ≡ b + 3 → AllShow sh k vs → AllSmaller S vs w → (AllAbsent io) vs → 12315 ≤ j → j ≤ end → 2 + (price_all io) vs + spent ≤ most → (Out io) f (drop 25 COPY_OUT_ACTS) m (49152 + b) j y (49152 + (b + count_of vs)) ((rows io) vs) spent most
  unfolding behind_label
  values f w each NoMore m b k j y spent most e all less absent low le cheap =
      let z = 49152 + (b + 0) in
      (ends_here io) m (49152 + b) j y z 2 spent most le (passed ((first_fifth io) m.memory (49152 + b) (at_cell j) y z true (eq-eqb (49152 + b) z (omega arith))) (returns (second p m.memory (49152 + b) (at_cell j) (lim io) y z typed drawn output))) (omega arith)
  values f w each (More a vs) m b k j y spent most e (one_more _ x c q all) less absent low le cheap =
      let z = 49152 + (b + count_of (More a vs)) in
      let z' = 49152 + (suc b + count_of vs) in
      let same : z' ≡ z = omega arith in
      let here : Cell sh (b + 3) x = subst (λ (i : ℕ). Cell sh i x) e c in
      let top = is.room in
      let below = here.fixed.0 in
      let absent_a = or_left (contains n (resolved S a)) (any_contains n (all_resolved S vs)) absent in
      let absent_vs = or_right (contains n (resolved S a)) (any_contains n (all_resolved S vs)) absent in
      let costs = (seen_more io) a vs absent_a in
      subst (λ (r : List ℕ). (Out io) f (drop 25 COPY_OUT_ACTS) m (49152 + b) j y z r spent most) (sym ((rows_more io) a vs))
      ((longer io) 2
      (λ o s' i r. taken ((first_fifth io) m.memory (49152 + b) (at_cell j) y z false (ne_eqb (49152 + b) z (λ (i : 49152 + b ≡ z). (omega arith)))) refl
      (done ((read_4 io) m.memory (49152 + b) (at_cell j) y z 33444 x ((field io) m 33444 3 b (b + 3) x here (omega arith) (omega arith) refl)) r))
      ((called io) (drop 23 COPY_OUT_ACTS) f m (49152 + b) j x z ((row io) a) ((rows io) vs) ((price_of io) a) (2 + spent) most low (omega arith) (each m j x a low le q less.0 absent_a)
      (λ m' i spent' low' le' cheap'.
      (longer io) 1
      (λ o s' i' r. done ((next_1 io) m'.memory (49152 + b) (at_cell i) x z (49152 + suc b) (omega arith)) (at_label r))
      (subst (λ (z : ℕ). (Out io) f (drop 25 COPY_OUT_ACTS) m' (49152 + suc b) i x z ((rows io) vs) (1 + spent') most) same
      (values f w each vs m' (suc b) (suc k) i x (1 + spent') most (omega arith) all less.1 absent_vs low' le' (omega arith))))))

  -- ---- letters, one after another

  letter_small : (m : Spot p sh S) (k c : ℕ) → Cell sh k c → c < 65536
  letter_small m k c at_k =
      let top = is.room in
      let below = at_k.fixed.0 in
      subst (λ (x : ℕ). x < 65536) (m.stands.fixed k (omega arith) at_k.fixed ∙ at_k.is) (m.holds.words (heap_at + k))

  letters : (f : ℕ) (xs : List ℕ) (m : Spot p sh S) (b k j y z spent most : ℕ) → y ≡ 49152 + (b + length xs) → k ≡ b + 3 → Letters sh k xs → 12315 ≤ j → j ≤ end → 2 + 6 * length xs + spent ≤ most → (Out io) f (drop 52 COPY_OUT_ACTS) m (49152 + b) j y z xs spent most
  unfolding behind_label
  letters f [] m b k j y z spent most ey e all low le cheap =
      (ends_here io) m (49152 + b) j y z 2 spent most le (passed ((first_fourth io) m.memory (49152 + b) (at_cell j) y z true (eq-eqb (49152 + b) y (omega arith))) (returns (second p m.memory (49152 + b) (at_cell j) (lim io) y z typed drawn output))) (omega arith)
  letters f (c ∷ xs) m b k j y z spent most ey e all low le cheap =
      let here : Cell sh (b + 3) c = subst (λ (i : ℕ). Cell sh i c) e all.0 in
      let top = is.room in
      let below = here.fixed.0 in
      (longer io) 2
      (λ o s' i r. taken ((first_fourth io) m.memory (49152 + b) (at_cell j) y z false (ne_eqb (49152 + b) y (λ (i : 49152 + b ≡ y). (omega arith)))) refl
      (done ((read_5 io) m.memory (49152 + b) (at_cell j) y z 33444 c ((field io) m 33444 3 b (b + 3) c here (omega arith) (omega arith) refl)) r))
      ((emits io) (drop 50 COPY_OUT_ACTS) f m (49152 + b) j y c xs (2 + spent) most low le (letter_small m (b + 3) c here) (omega arith)
      (λ m' le'.
      (longer io) 1
      (λ o s' i' r. done ((next_1 io) m'.memory (49152 + b) (at_cell (suc j)) y c (49152 + suc b) (omega arith)) (at_label r))
      (letters f xs m' (suc b) (suc k) (suc j) y c (1 + (3 + (2 + spent))) most (omega arith) (omega arith) all.1 (omega arith) le' (omega arith))))

  -- ---- behind the walk, where it gave no variable

  simple : (f : ℕ) (m : Spot p sh S) (u j y z spent most : ℕ) → u < 32768 → 12315 ≤ j → j ≤ end → 7 + spent ≤ most → (Out io) f (drop 7 COPY_OUT_ACTS) m u j y z (u ∷ []) spent most
  unfolding behind_label
  simple f m u j y z spent most lt low le cheap =
      (longer io) 2
      (λ o s' i r. done ((own_5 io) m.memory u (at_cell j) y z) (taken ((first_less io) m.memory u (at_cell j) y u 0 false false (simple_is_positive u lt)) refl r))
      ((emits io) (drop 58 COPY_OUT_ACTS) f m u j y u [] (2 + spent) most low le (omega arith) (omega arith)
      (λ m' le'. (ends_here io) m' u (suc j) y u 1 (3 + (2 + spent)) most le' (returns (second p m'.memory u (at_cell (suc j)) (lim io) y u typed drawn output)) (omega arith)))

  -- up to the tests of the header
  to_header : (f : ℕ) (m : Spot p sh S) (k w y z header : ℕ) → k + 2 < 10000 → Cell sh k header → (o : ℕ) (s' : State) (i : ℕ) → (Run io) f (drop 10 COPY_OUT_ACTS) ((at io) m.memory (49152 + k) w header (49152 + k)) o s' i → (Run io) f (drop 7 COPY_OUT_ACTS) ((at io) m.memory (49152 + k) w y z) o s' (steps 3 i)
  to_header f m k w y z header lt c o s' i r =
      done ((own_5 io) m.memory (49152 + k) w y z)
      (passed ((first_less io) m.memory (49152 + k) w y (49152 + k) 0 true false (boxed_is_negative k (omega arith)))
      (done ((read_4 io) m.memory (49152 + k) w y (49152 + k) 33438 header ((field io) m 33438 0 k k header c (omega arith) (omega arith) refl)) r))

  -- a tail is copied in the loop
  abbrev Tails : ℕ → Value → Type 0
  Tails f w = (m : Spot p sh S) (j x y z : ℕ) (a : Value) → 12315 ≤ j → j ≤ end → Shows sh x a → Smaller S a w → (Absent io) a → (Out io) f (drop 1 COPY_OUT_ACTS) m x j y z ((row io) a) 5 ((price_of io) a)

  of_pair : (f : ℕ) (m : Spot p sh S) (k j y z x x' spent most : ℕ) (a b : Value) → k + 2 < 10000 → Cell sh k 0 → Cell sh (k + 1) x → Cell sh (k + 2) x' → Shows sh x a → Shows sh x' b → (AllAbsent io) (More a (More b NoMore)) → Each f (pair a b) → Tails f (pair a b) → 12315 ≤ j → j ≤ end → 14 + (price_all io) (More a (More b NoMore)) + spent ≤ most → (Out io) f (drop 7 COPY_OUT_ACTS) m (49152 + k) j y z (28673 ∷ (rows io) (More a (More b NoMore))) spent most
  unfolding behind_label
  of_pair f m k j y z x x' spent most a b lt c one two q q' absent each tails low le cheap =
      let absent_a = or_left (contains n (resolved S a)) (any_contains n (all_resolved S (More b NoMore))) absent in
      let absent_rest = or_right (contains n (resolved S a)) (any_contains n (all_resolved S (More b NoMore))) absent in
      let absent_b = or_left (contains n (resolved S b)) false absent_rest in
      let costs = (seen_more io) a (More b NoMore) absent_a in
      let costs' = (seen_more io) b NoMore absent_b in
      let less = parts_smaller S Pair (More a (More b NoMore)) in
      let is_row : (rows io) (More a (More b NoMore)) ≡ (row io) a ++ (row io) b = (rows_more io) a (More b NoMore) ∙ ap (λ (l : List ℕ). (row io) a ++ l) ((rows_more io) b NoMore ∙ append-nil ((row io) b)) in
      subst (λ (r : List ℕ). (Out io) f (drop 7 COPY_OUT_ACTS) m (49152 + k) j y z (28673 ∷ r) spent most) (sym is_row)
      ((longer io) 5
      (λ o s' i r. to_header f m k (at_cell j) y z 0 lt c o s' (steps 2 i)
      (taken ((fourth_zero io) m.memory (49152 + k) (at_cell j) 0 (49152 + k) true true refl) refl
      (done ((set_5 io) m.memory (49152 + k) (at_cell j) 0 (49152 + k) 28673) r)))
      ((emits io) (drop 32 COPY_OUT_ACTS) f m (49152 + k) j 0 28673 ((row io) a ++ (row io) b) (5 + spent) most low le (omega arith) (omega arith)
      (λ m' le'.
      (longer io) 1
      (λ o s' i r. done ((read_4 io) m'.memory (49152 + k) (at_cell (suc j)) 0 28673 33440 x ((field io) m' 33440 1 k (k + 1) x one (omega arith) (omega arith) refl)) r)
      ((called io) (drop 35 COPY_OUT_ACTS) f m' (49152 + k) (suc j) x 28673 ((row io) a) ((row io) b) ((price_of io) a) (1 + (3 + (5 + spent))) most (omega arith) (omega arith) (each m' (suc j) x a (omega arith) le' q less.0 absent_a)
      (λ m'' i spent' low'' le'' cheap''.
      let tail = tails m'' i x' x 28673 b low'' le'' q' less.1.0 absent_b in
      let few = tail.few in
      record {
        count = steps 2 tail.count;
        ends = copies_map (λ o memory locals r. done ((read_1 io) m''.memory (49152 + k) (at_cell i) x 28673 33442 x' ((field io) m'' 33442 2 k (k + 2) x' two (omega arith) (omega arith) refl)) (goes refl r)) tail.ends;
        few = omega (arith, steps_are 2 tail.count);
      })))))

  of_closure : (f : ℕ) (m : Spot p sh S) (k j y z place spent most : ℕ) (vs : Values) → k + 2 < 10000 → place < 16384 → Cell sh k (1 + place) → Cell sh (k + 1) (count_of vs) → AllShow sh (k + 3) vs → (AllAbsent io) vs → Each f (Node (Closure place) vs) → 12315 ≤ j → j ≤ end → 14 + (price_all io) vs + spent ≤ most → (Out io) f (drop 7 COPY_OUT_ACTS) m (49152 + k) j y z ((49152 + place) ∷ (rows io) vs) spent most
  unfolding behind_label
  of_closure f m k j y z place spent most vs lt few c many all absent each low le cheap =
      let header = 1 + place in
      let next = 49152 + place in
      let count = count_of vs in
      let last = 49152 + (k + count) in
      let below = all_low is (k + 3) vs (omega arith) all in
      (longer io) 6
      (λ o s' i r. to_header f m k (at_cell j) y z header lt c o s' (steps 3 i)
      (passed ((fourth_zero io) m.memory (49152 + k) (at_cell j) header (49152 + k) false true (ne_eqb header 0 (λ (e : header ≡ 0). (omega arith))))
      (passed ((fourth_less io) m.memory (49152 + k) (at_cell j) header (49152 + k) false true (simple_is_positive header (omega arith)))
      (done ((sum_5 io) m.memory (49152 + k) (at_cell j) header (49152 + k) 49151 next (omega arith)) r))))
      ((emits io) (drop 16 COPY_OUT_ACTS) f m (49152 + k) j header next ((rows io) vs) (6 + spent) most low le (omega arith) (omega arith)
      (λ m' le'.
      (longer io) 3
      (λ o s' i r. done ((read_5 io) m'.memory (49152 + k) (at_cell (suc j)) header next 33440 count ((field io) m' 33440 1 k (k + 1) count many (omega arith) (omega arith) refl))
      (done ((end_5 io) m'.memory (49152 + k) (at_cell (suc j)) header count last (omega arith)) (goes refl r)))
      (values f (Node (Closure place) vs) each vs m' k (k + 3) (suc j) header (3 + (3 + (6 + spent))) most refl all (parts_smaller S (Closure place) vs) absent (omega arith) le' (omega arith))))

  of_word : (f : ℕ) (m : Spot p sh S) (k j y z spent most : ℕ) (xs : List ℕ) → k + 2 < 10000 → Cell sh k (32768 + length xs) → Letters sh (k + 3) xs → 12315 ≤ j → j ≤ end → 14 + 6 * length xs + spent ≤ most → (Out io) f (drop 7 COPY_OUT_ACTS) m (49152 + k) j y z ((32769 + length xs) ∷ xs) spent most
  unfolding behind_label
  of_word f m k j y z spent most xs lt c all low le cheap =
      let header = 32768 + length xs in
      let next = 32769 + length xs in
      let last = 49152 + (k + length xs) in
      let below = letters_low is (k + 3) xs (omega arith) all in
      (longer io) 6
      (λ o s' i r. to_header f m k (at_cell j) y z header lt c o s' (steps 3 i)
      (passed ((fourth_zero io) m.memory (49152 + k) (at_cell j) header (49152 + k) false true (ne_eqb header 0 (λ (e : header ≡ 0). (omega arith))))
      (taken ((fourth_less io) m.memory (49152 + k) (at_cell j) header (49152 + k) true true (high_is_negative (length xs) (omega arith))) refl
      (done ((sum_5 io) m.memory (49152 + k) (at_cell j) header (49152 + k) 1 next (omega arith)) r))))
      ((emits io) (drop 42 COPY_OUT_ACTS) f m (49152 + k) j header next xs (6 + spent) most low le (omega arith) (omega arith)
      (λ m' le'.
      (longer io) 3
      (λ o s' i r. done ((end_4 io) m'.memory (49152 + k) (at_cell (suc j)) header next (16384 + (k + length xs)) (omega arith))
      (done ((half_4 io) m'.memory (49152 + k) (at_cell (suc j)) (16384 + (k + length xs)) next last (omega arith)) (goes refl r)))
      (letters f xs m' k (k + 3) (suc j) last next (3 + (3 + (6 + spent))) most refl refl all (omega arith) le' (omega arith))))

  -- ---- all together

  abbrev Heads : ℕ → Value → Type 0
  Heads f w = (m : Spot p sh S) (j x : ℕ) (a : Value) (ks : List ℕ) → 12315 ≤ j → j ≤ end → Shows sh x a → Below sh S ks a → 3334 ≤ f + length ks → size (resolved S a) < size (resolved S w) → (Absent io) a → Called f m j x a

  abbrev Tails_below : ℕ → List ℕ → Value → Type 0
  Tails_below f ks w = (m : Spot p sh S) (j x y z : ℕ) (a : Value) → 12315 ≤ j → j ≤ end → Shows sh x a → Below sh S ks a → size (resolved S a) < size (resolved S w) → (Absent io) a → (Out io) f (drop 1 COPY_OUT_ACTS) m x j y z ((row io) a) 5 ((price_of io) a)

  abbrev Whole : ℕ → Spot p sh S → ℕ → ℕ → ℕ → ℕ → Label → Values → ℕ → ℕ → Type 0
  Whole f m u j y z g vs spent most = (Out io) f (drop 7 COPY_OUT_ACTS) m u j y z (words_of (Node g (all_resolved S vs))) spent most

  node : {u : ℕ} (f : ℕ) (m : Spot p sh S) (j y z spent most : ℕ) (g : Label) (vs : Values) (ks : List ℕ) → Shows sh u (Node g vs) → Below sh S ks (Node g vs) → 3334 ≤ suc f + length ks → (AllAbsent io) vs → Heads f (Node g vs) → Tails_below f ks (Node g vs) → 12315 ≤ j → j ≤ end → 14 + (price_all io) vs + 8 * letters_at g + spent ≤ most → Whole f m u j y z g vs spent most
  node f m j y z spent most g vs ks (number i lt) below few absent heads tails low le cheap = simple f m i j y z spent most (omega arith) low le (omega arith)
  node f m j y z spent most g vs ks (dict i lt) below few absent heads tails low le cheap = simple f m (16384 + i) j y z spent most (omega arith) low le (omega arith)
  node f m j y z spent most g vs ks (object i lt) below few absent heads tails low le cheap = simple f m (24576 + i) j y z spent most (omega arith) low le (omega arith)
  node f m j y z spent most g vs ks nil below few absent heads tails low le cheap = simple f m 28672 j y z spent most (omega arith) low le (omega arith)
  node f m j y z spent most g vs ks (boxed k header lt box c inside) below few absent heads tails low le cheap = filled f m j y z spent most ks inside lt box c below few absent heads tails low le cheap
    where
      filled : {k header : ℕ} {g : Label} {vs : Values} (f : ℕ) (m : Spot p sh S) (j y z spent most : ℕ) (ks : List ℕ) → Filled sh k header (Node g vs) → k + 2 < 10000 → sh.box k ≡ Some (Node g vs) → Cell sh k header → Below sh S ks (Node g vs) → 3334 ≤ suc f + length ks → (AllAbsent io) vs → Heads f (Node g vs) → Tails_below f ks (Node g vs) → 12315 ≤ j → j ≤ end → 14 + (price_all io) vs + 8 * letters_at g + spent ≤ most → Whole f m (49152 + k) j y z g vs spent most
      filled f m j y z spent most ks (pair_in {h = a} {t = b} k x x' one two q q') lt box c below few absent heads tails low le cheap =
          of_pair f m k j y z x x' spent most a b lt c one two q q' absent
          (λ m' i x'' a' low' le' s' less absent'. heads m' i x'' a' (k ∷ ks) low' le' s' (under ks a' k (pair a b) lt box less below) (omega arith) (less []) absent')
          (λ m' i x'' y' z' a' low' le' s' less absent'. tails m' i x'' y' z' a' low' le' s' (below_smaller a' less below) (less []) absent')
          low le (omega arith)
      filled f m j y z spent most ks (closure_in {vs = vs} k place few_places told captured many all) lt box c below few absent heads tails low le cheap =
          of_closure f m k j y z place spent most vs lt few_places c many all absent
          (λ m' i x'' a' low' le' s' less absent'. heads m' i x'' a' (k ∷ ks) low' le' s' (under ks a' k (Node (Closure place) vs) lt box less below) (omega arith) (less []) absent')
          low le (omega arith)
      filled f m j y z spent most ks (word_in {letters = xs} k fine all) lt box c below few absent heads tails low le cheap =
          let is_row : words_of (leaf (Unknown xs)) ≡ (32769 + length xs) ∷ xs = ap (λ (l : List ℕ). (32769 + length xs) ∷ l) (ap (map cell_word) (append-nil (map cell.Char xs)) ∙ chars_are xs) in
          subst (λ (r : List ℕ). (Out io) f (drop 7 COPY_OUT_ACTS) m (49152 + k) j y z r spent most) (sym is_row) (of_word f m k j y z spent most xs lt c all low le (omega arith))

  -- a value that isn't walked
  unwalked : {u : ℕ} (f : ℕ) (m : Spot p sh S) (j y z : ℕ) (g : Label) (vs : Values) → Shows sh u (Node g vs) → Whole f m u j y z g vs 6 ((price_of io) (Node g vs)) → (Out io) f (drop 1 COPY_OUT_ACTS) m u j y z ((row io) (Node g vs)) 5 ((price_of io) (Node g vs))
  unfolding behind_label
  unwalked {u} f m j y z g vs q r =
      subst (λ (v : Value). (Out io) f (drop 1 COPY_OUT_ACTS) m u j y z (words_of v) 5 ((price_of io) (Node g vs))) (sym (resolved_node S g vs))
      ((longer io) 1 (λ o s' i r. taken ((first_less io) m.memory u (at_cell j) y z 49152 false false (node_word q)) refl r) r)

  -- up to the second test of a variable
  to_walked : (f : ℕ) (m : Spot p sh S) (u j y z x : ℕ) → Shows sh u (Var x) → (wk : Walks p 0 0 WALK_ACTS sh S m.memory typed output drawn u 0 0 0 (Var x)) → (o : ℕ) (s' : State) (i : ℕ) → (Run io) f (drop 3 COPY_OUT_ACTS) ((at io) m.memory wk.word (at_cell j) y z) o s' i → (Run io) f (drop 1 COPY_OUT_ACTS) ((at io) m.memory u (at_cell j) y z) o s' (suc (suc wk.count + i))
  to_walked f m u j y z x q wk o s' i rest =
      let v = variable_word q in
      let within = is.within x v.old in
      let is_ref : compared comparisons.Less u 49152 ≡ true = subst (λ (x : ℕ). compared comparisons.Less x 49152 ≡ true) (sym v.is) (reference (sh.place x) (omega arith)) in
      passed ((first_less io) m.memory u (at_cell j) y z 49152 true false is_ref)
      (calls {f' = 0} {w' = 0} {n = wk.count} {n' = i} {xs = (u, 0, 0)} refl (rw (first p m.memory u (at_cell j) (lim io) y z typed drawn output) refl) (walk_at p has) (omega arith) (omega arith) wk.runs (put_first p m.memory u (at_cell j) (lim io) y z wk.word typed drawn output) rest)

  walked_to : {f : ℕ} (m : Spot p sh S) (u j y z x spent most : ℕ) (r : List ℕ) → Shows sh u (Var x) → (wk : Walks p 0 0 WALK_ACTS sh S m.memory typed output drawn u 0 0 0 (Var x)) → (Out io) f (drop 3 COPY_OUT_ACTS) m wk.word j y z r (2 + wk.count + spent) most → (Out io) f (drop 1 COPY_OUT_ACTS) m u j y z r spent most
  walked_to {f} m u j y z x spent most r q wk d = let few = d.few in record { count = suc (suc wk.count + d.count); ends = copies_map (λ o memory locals i. to_walked f m u j y z x q wk o (state memory locals typed drawn output) d.count i) d.ends; few = omega arith }

  -- a variable that is walked to a variable
  free : (f : ℕ) (m : Spot p sh S) (u j y z x x' : ℕ) → Shows sh u (Var x) → 12315 ≤ j → j ≤ end → walk S (Var x) ≡ Var x' → (Out io) f (drop 1 COPY_OUT_ACTS) m u j y z ((row io) (Var x)) 5 ((price_of io) (Var x))
  unfolding behind_label
  free f m u j y z x x' q low le e =
      let wk = walk_works p has sh is 0 0 m.memory typed output drawn 0 0 m.cells m.holds S m.stands u 0 (Var x) q in
      let v = variable_word (subst (Shows sh wk.word) e wk.shows) in
      let within = is.within x' v.old in
      let few = wk.few in
      let last : ending (walk S (Var x)) ≡ 4 = rw e refl in
      let looks_are : ((seen io) (Var x)).1 ≡ links S (Var x) + 1 = rw e refl in
      let whole : resolved S (Var x) ≡ Var x' = (resolved_walked io) (Var x) (Var x') e ∙ resolved_unbound S x' ((walked S s (Var x)).free x' e) in
      let is_ref : compared comparisons.Less wk.word 49152 ≡ true = subst (λ (x : ℕ). compared comparisons.Less x 49152 ≡ true) (sym v.is) (reference (sh.place x') (omega arith)) in
      subst (λ (w : Value). (Out io) f (drop 1 COPY_OUT_ACTS) m u j y z (words_of w) 5 ((price_of io) (Var x))) (sym whole)
      (walked_to m u j y z x 5 ((price_of io) (Var x)) (32768 ∷ []) q wk
      ((longer io) 3
      (λ o s' i r. passed ((first_less io) m.memory wk.word (at_cell j) y z 49152 true false is_ref) (done ((set_5 io) m.memory wk.word (at_cell j) y z 32768) (goes refl r)))
      ((emits io) (drop 58 COPY_OUT_ACTS) f m wk.word j y 32768 [] (3 + (2 + wk.count + 5)) ((price_of io) (Var x)) low le (omega arith) (omega arith)
      (λ m' le'. (ends_here io) m' wk.word (suc j) y 32768 1 (3 + (3 + (2 + wk.count + 5))) ((price_of io) (Var x)) le' (returns (second p m'.memory wk.word (at_cell (suc j)) (lim io) y 32768 typed drawn output)) (omega arith)))))

  -- a variable that is walked to another value
  bound : (f : ℕ) (m : Spot p sh S) (u j y z x : ℕ) (g : Label) (vs : Values) (ks : List ℕ) → Shows sh u (Var x) → Below sh S ks (Var x) → 3334 ≤ suc f + length ks → (Absent io) (Var x) → 12315 ≤ j → j ≤ end → Heads f (Var x) → Tails_below f ks (Var x) → walk S (Var x) ≡ Node g vs → (Out io) f (drop 1 COPY_OUT_ACTS) m u j y z ((row io) (Var x)) 5 ((price_of io) (Var x))
  unfolding behind_label
  bound f m u j y z x g vs ks q below few absent low le heads tails e =
      let wk = walk_works p has sh is 0 0 m.memory typed output drawn 0 0 m.cells m.holds S m.stands u 0 (Var x) q in
      let some = links_some S s x g vs e in
      let cheap = wk.few in
      let last : ending (walk S (Var x)) ≡ 2 = rw e refl in
      let looks_are = (seen_node io) (Var x) g vs e in
      let is_it = (resolved_as io) (Var x) g vs e in
      let letters_are : letters_in (resolved S (Var x)) ≡ letters_at g + letters_in_all (all_resolved S vs) = ap letters_in is_it in
      let absent' : (AllAbsent io) vs = sym (ap (contains n) is_it) ∙ absent in
      let whole : Below sh S ks (Node g vs) = subst (Below sh S ks) e (below_walk S s below) in
      let shown : Shows sh wk.word (Node g vs) = subst (Shows sh wk.word) e wk.shows in
      let same : size (resolved S (Var x)) ≡ size (resolved S (Node g vs)) = ap size ((resolved_walked io) (Var x) (Node g vs) e) in
      subst (λ (w : Value). (Out io) f (drop 1 COPY_OUT_ACTS) m u j y z (words_of w) 5 ((price_of io) (Var x))) (sym is_it)
      (walked_to m u j y z x 5 ((price_of io) (Var x)) (words_of (Node g (all_resolved S vs))) q wk
      ((longer io) 1 (λ o s' i r. taken ((first_less io) m.memory wk.word (at_cell j) y z 49152 false false (node_word shown)) refl r)
      (node f m j y z (1 + (2 + wk.count + 5)) ((price_of io) (Var x)) g vs ks shown whole few absent' (λ m' i x' a ks' low' le' s' b' few' less absent''. heads m' i x' a ks' low' le' s' b' few' (omega arith) absent'') (λ m' i x' y' z' a low' le' s' b' less absent''. tails m' i x' y' z' a low' le' s' b' (omega arith) absent'') low le (omega arith))))

  one_level : (f : ℕ) (m : Spot p sh S) (u j y z : ℕ) (v : Value) (ks : List ℕ) → Shows sh u v → Below sh S ks v → 3334 ≤ suc f + length ks → (Absent io) v → 12315 ≤ j → j ≤ end → Heads f v → Tails_below f ks v → (Out io) f (drop 1 COPY_OUT_ACTS) m u j y z ((row io) v) 5 ((price_of io) v)
  one_level f m u j y z (Node g vs) ks q below few absent low le heads tails =
      let is_it = resolved_node S g vs in
      let looks_are = (seen_node io) (Node g vs) g vs (walk_node S g vs) in
      let letters_are : letters_in (resolved S (Node g vs)) ≡ letters_at g + letters_in_all (all_resolved S vs) = ap letters_in is_it in
      let absent' : (AllAbsent io) vs = sym (ap (contains n) is_it) ∙ absent in
      unwalked f m j y z g vs q (node f m j y z 6 ((price_of io) (Node g vs)) g vs ks q below few absent' heads tails low le (omega arith))
  one_level f m u j y z (Var x) ks q below few absent low le heads tails = by_walk (walk S (Var x)) refl
    where
      by_walk : (w : Value) → walk S (Var x) ≡ w → (Out io) f (drop 1 COPY_OUT_ACTS) m u j y z ((row io) (Var x)) 5 ((price_of io) (Var x))
      by_walk (Var x') e = free f m u j y z x x' q low le e
      by_walk (Node g vs) e = bound f m u j y z x g vs ks q below few absent low le heads tails e

module _ (p : Program) (has : HasRunTime p) (sh : Shape) (is : IsShape sh) (typed output : List ℕ) (drawn : ℕ) (S : Substitution) (s : IsSubstitution S) (n end : ℕ) (room : at_cell end ≤ p.world.layout.base) (small : at_cell end < 65536) where
  copies_out : (most f : ℕ) (m : Spot p sh S) (u j y z : ℕ) (v : Value) (ks : List ℕ) → Shows sh u v → Below sh S ks v → 3334 ≤ f + length ks → size (resolved S v) < most → contains n (resolved S v) ≡ false → 12315 ≤ j → j ≤ end →
      CopiesOut p f (drop 1 COPY_OUT_ACTS) typed output drawn m.memory (u ∷ at_cell j ∷ at_cell end ∷ y ∷ z ∷ []) m.cells j end (words_of (resolved S v)) 5 (20 * looks S n v + 8 * letters_in (resolved S v))
  copies_out zero f m u j y z v ks q below few lt absent low le = absurd (omega arith)
  copies_out (suc most) zero m u j y z v ks q below few lt absent low le = let l = levels is S below in absurd (omega arith)
  copies_out (suc most) (suc f) m u j y z v ks q below few lt absent low le =
      one_level (record { p = p; has = has; sh = sh; is = is; typed = typed; output = output; drawn = drawn; S = S; s = s; n = n; end = end; room = room; small = small }) f m u j y z v ks q below few absent low le
      (λ m' i x a ks' low' le' s' b' few' less absent'. labelled (copies_out most f m' x i 0 0 a ks' s' b' few' (omega arith) absent' low' le'))
      (λ m' i x y' z' a low' le' s' b' less absent'. copies_out most (suc f) m' x i y' z' a ks s' b' few (omega arith) absent' low' le')

  -- called with a value
  pub copy_works : (m : Spot p sh S) (u j : ℕ) (v : Value) → Shows sh u v → contains n (resolved S v) ≡ false → 12315 ≤ j → j ≤ end → CopiesOut p 3335 COPY_OUT_ACTS typed output drawn m.memory (u ∷ at_cell j ∷ at_cell end ∷ 0 ∷ 0 ∷ []) m.cells j end (words_of (resolved S v)) 0 (20 * looks S n v + 8 * letters_in (resolved S v))
  copy_works m u j v q absent low le =
      let r = labelled (copies_out (suc (size (resolved S v))) 3335 m u j 0 0 v [] q (on_top v) (omega arith) (omega arith) absent low le) in
      let few = r.few in
      record { count = r.count; ends = r.ends; few = omega arith }
