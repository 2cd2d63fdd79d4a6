-- The routine that prints a value: parts one after another.
use Rattle.std.proofs.Common.{◌≡◌, ℕ, suc, ◌+◌, ◌*◌, ◌<◌, ◌≤◌, Bool, true, false, List, [], ◌∷◌, ◌++◌, drop, Some, None, refl, sym, ap, ◌∙◌, subst, arith}
use Rattle.std.specs.Prelude.{◌==◌}
use Rattle.std.proofs.lemmas.Bool.{eq-eqb, ne_eqb}
use Rattle.dg_base.specs.declared.program.CoreProgram.{CoreProgram}
use Rattle.dg_meaning.specs.Values.{Label, Num, Word, Unknown, Object, Nil, Pair, Closure, Value, Var, Node, Values, NoMore, More}
use Rattle.dg_meaning.specs.Substitutions.{walk, links, resolved}
use Rattle.dg_meaning.specs.inside.Substitutions.{all_resolved}
use Rattle.dg_meaning.specs.Pieces.{first_piece, pieces, tail_pieces}
use Rattle.dg_meaning.proofs.Walks.{walked, resolved_node, resolved_unbound}
use Rattle.z_lang.specs.declared.act.Act.{Act}
use Rattle.z_lang.specs.declared.act.Act.TheVariants as acts
use Rattle.z_lang.specs.declared.act.Args.TheVariants as args
use Rattle.z_lang.specs.declared.act.Atom.TheVariants as atoms
use Rattle.z_lang.specs.declared.act.Comparison.TheVariants as comparisons
use Rattle.z_lang.specs.declared.act.Function.TheVariants as functions
use Rattle.z_lang.specs.State.{State}
use Rattle.z_lang.specs.Acts.{answer_of, computed}
use Rattle.z_lang.specs.Runs.{ActsRun as Runs, ActsOutcome as Outcome, at_label, taken, passed, done, calls, behind_label}
use Rattle.dg_rt.specs.declared.numbers.TheConstants.{WALK, LIST_KIND, PRINT_PIECE, PRINT_VALUE}
use Rattle.dg_rt.specs.declared.unify.TheConstants.{WALK_ACTS}
use Rattle.dg_rt.specs.declared.printing.TheConstants.{PRINT_PIECE_ACTS, PRINT_VALUE_ACTS}
use Rattle.dg_rt.specs.Cells.{at_cell}
use Rattle.dg_rt.specs.Areas.{heap_at, state}
use Rattle.dg_rt.specs.Shapes.{Cell, Shows}
use Rattle.dg_rt.specs.RunTime.{routine_of}
use Rattle.dg_rt.specs.Prints.{Spells}
use Rattle.dg_rt.specs.inside.Walks.{ending, Walks}
use Rattle.dg_rt.proofs.Cells.{reads_cell}
use Rattle.dg_rt.proofs.Following.{word, tested, computes}
use Rattle.dg_rt.proofs.FullSteps.{LookingThrough, seen, seen_all, AllAbsent, first_absent, others_absent, seen_more, seen_node, seen_variable, resolved_walked}
use Rattle.dg_rt.proofs.ListKind.{list_kind, Kind, kind_works}
use Rattle.dg_rt.proofs.Locals.{get_1, get_2, get_3, get_4, set_1, set_4}
use Rattle.dg_rt.proofs.PiecePrinted.{mark_prints, mark_then, piece_works}
use Rattle.dg_rt.proofs.Points.{Story, Point, at, Prints, behind, ends, prints_then, prints_behind, prints_last}
use Rattle.dg_rt.proofs.Standing.{walk_at, list_kind_at, print_piece_at, print_value_at}
use Rattle.dg_rt.proofs.Walking.{walk_works}

-- ## Pieces of values that were looked up

node_leaf : (program : CoreProgram) (lab : Label) (us vs : Values) → list_kind (Node lab vs) ≡ 0 → pieces program (Node lab us) ≡ first_piece program (Node lab vs) ∷ []
node_leaf program (Num n) us vs e = refl
node_leaf program (Word n) us vs e = refl
node_leaf program (Unknown xs) us vs e = refl
node_leaf program (Object n) us vs e = refl
node_leaf program Nil us vs e = absurd (omega (arith, e))
node_leaf program Pair us vs e = absurd (omega (arith, e))
node_leaf program (Closure c) us vs e = refl

node_tail : (program : CoreProgram) (lab : Label) (us vs : Values) → list_kind (Node lab vs) ≡ 0 → tail_pieces program (Node lab us) ≡ (124 ∷ []) ∷ first_piece program (Node lab vs) ∷ (93 ∷ []) ∷ []
node_tail program (Num n) us vs e = refl
node_tail program (Word n) us vs e = refl
node_tail program (Unknown xs) us vs e = refl
node_tail program (Object n) us vs e = refl
node_tail program Nil us vs e = absurd (omega (arith, e))
node_tail program Pair us vs e = absurd (omega (arith, e))
node_tail program (Closure c) us vs e = refl

node_list : (program : CoreProgram) (lab : Label) (us vs : Values) → 1 ≤ list_kind (Node lab vs) → pieces program (Node lab us) ≡ (91 ∷ []) ∷ tail_pieces program (Node lab us)
node_list program (Num n) us vs e = absurd (omega (arith, e))
node_list program (Word n) us vs e = absurd (omega (arith, e))
node_list program (Unknown xs) us vs e = absurd (omega (arith, e))
node_list program (Object n) us vs e = absurd (omega (arith, e))
node_list program Nil us vs e = refl
node_list program Pair us vs e = refl
node_list program (Closure c) us vs e = absurd (omega (arith, e))

ending_few : (v : Value) → ending v ≤ 4
ending_few (Var n) = omega arith
ending_few (Node f vs) = omega arith

module _ (io : LookingThrough) (story : List ℕ) (program : CoreProgram) (words objects : ℕ) (sp : Spells io.p story program words objects) where
  open io use {p, has, sh, is, typed, drawn, S, st, n}

  pub roomy : 600 ≤ p.world.layout.base
  roomy = let room = has.mapped.room in omega arith

  abbrev pub g : Story
  g = record { p = p; story = story; room = roomy; sh = sh; S = S; typed = typed; drawn = drawn }

  abbrev pub loc : ℕ → ℕ → List ℕ
  loc a b = a ∷ words ∷ objects ∷ b ∷ []

  abbrev pub now : Point g → ℕ → ℕ → State
  now q a b = at g q (loc a b)

  -- Pieces are printed from these acts on, with these in locals 1 and 4.
  abbrev pub Printed : ℕ → List Act → Point g → ℕ → ℕ → List (List ℕ) → ℕ → Type 0
  Printed f acts q a b ps most = Prints g f (4 * f) PRINT_VALUE_ACTS acts q (loc a b) ps most

  -- A value is printed, the tail of a list, and the rest of a list that was looked up.
  abbrev pub Whole : ℕ → Point g → ℕ → Value → Type 0
  Whole f q x v = Printed f PRINT_VALUE_ACTS q x 0 (pieces program (resolved S v)) (200 * (seen io v).1)

  abbrev pub Tail : ℕ → Point g → ℕ → ℕ → Value → Type 0
  Tail f q y b t = Printed f (drop 12 PRINT_VALUE_ACTS) q y b (tail_pieces program (resolved S t)) (200 * (seen io t).1)

  abbrev pub Rest : ℕ → Point g → ℕ → Label → Values → Type 0
  Rest f q u lab vs = Printed f (drop 8 PRINT_VALUE_ACTS) q u (list_kind (Node lab vs)) (tail_pieces program (Node lab (all_resolved S vs))) (24 + 200 * (seen_all io vs).1)

  -- ---- tests and reads

  kind_is : (q : Point g) (a b k : ℕ) (answer t : Bool) → (b == k) ≡ t → answer_of p (now q a b) (record { comparison = comparisons.Equal; first = atoms.Var 4; second = atoms.Num k; answer = answer }) ≡ Some t
  kind_is q a b k answer t e = tested p (now q a b) comparisons.Equal (atoms.Var 4) (atoms.Num k) answer b k t (get_4 p q.memory a words objects b typed drawn q.output) refl e

  field : (q : Point g) (base i k j x : ℕ) → Cell sh j x → j ≡ k + i → i ≤ 3 → base ≡ at_cell (heap_at + i) + 32768 → computed p.world.layout q.memory functions.Word base (49152 + k) ≡ Some x
  field q base i k j x c e le is_at =
      let room = has.mapped.room in
      let top = is.room in
      let low = c.fixed.0 in
      reads_cell p.world.layout q.memory q.cells base (49152 + k) (heap_at + j) q.holds (omega arith) (omega arith) ∙ ap word (q.stands.fixed j (omega arith) c.fixed ∙ c.is)

  -- ---- up to the test of what was looked up

  pub looked_at : (q : Point g) (x : ℕ) (v : Value) → Shows sh x v → Walks p 0 0 WALK_ACTS sh S q.memory typed q.output drawn x 0 0 0 v
  looked_at q x v s = walk_works p has sh is 0 0 q.memory typed q.output drawn 0 0 q.cells q.holds S q.stands x 0 v s

  pub kind_at : (q : Point g) (u : ℕ) (w : Value) → Shows sh u w → Kind p 0 0 q.memory typed q.output drawn u (list_kind w)
  kind_at q u w s = kind_works p has.mapped 0 0 q.memory typed q.output drawn sh is q.cells q.holds S q.stands u w s

  abbrev call_walk : Act
  call_walk = acts.Call (Some 1) (atoms.Routine WALK) (args.One (atoms.Var 1))

  abbrev call_kind : Act
  call_kind = acts.Call (Some 4) (atoms.Routine LIST_KIND) (args.One (atoms.Var 1))

  to_kind : (f : ℕ) → 2 ≤ f → (rest : List Act) (q : Point g) (x b : ℕ) (v : Value) (wk : Walks p 0 0 WALK_ACTS sh S q.memory typed q.output drawn x 0 0 0 v) (kd : Kind p 0 0 q.memory typed q.output drawn wk.word (list_kind (walk S v))) →
      (o : Outcome) (s' : State) (k : ℕ) → Runs p f (4 * f) PRINT_VALUE_ACTS rest (now q wk.word (list_kind (walk S v))) o s' k → Runs p f (4 * f) PRINT_VALUE_ACTS (call_walk ∷ call_kind ∷ rest) (now q x b) o s' (suc wk.count + (suc kd.count + k))
  to_kind f enough rest q x b v wk kd o s' k run =
      let kind = list_kind (walk S v) in
      calls {f' = 0} {w' = 0} {n = wk.count} {n' = suc kd.count + k} {xs = (x, 0, 0)} {s1 = state q.memory wk.locals' typed drawn q.output} {s2 = now q wk.word b} refl (rw (get_1 p q.memory x words objects b typed drawn q.output) refl) (walk_at p has) (omega arith) (omega arith) wk.runs (set_1 p q.memory x words objects b wk.word typed drawn q.output)
      (calls {f' = 0} {w' = 0} {n = kd.count} {n' = k} {xs = (wk.word, 0, 0)} {s1 = state q.memory kd.locals' typed drawn q.output} {s2 = now q wk.word kind} refl (rw (get_1 p q.memory wk.word words objects b typed drawn q.output) refl) (list_kind_at p has) (omega arith) (omega arith) kd.runs (set_4 p q.memory wk.word words objects b kind typed drawn q.output) run)

  -- Pieces are printed where the kind leads.
  by_kind : (f : ℕ) → 2 ≤ f → (rest acts : List Act) (q : Point g) (x b : ℕ) (v : Value) (wk : Walks p 0 0 WALK_ACTS sh S q.memory typed q.output drawn x 0 0 0 v) (kd : Kind p 0 0 q.memory typed q.output drawn wk.word (list_kind (walk S v))) (ps : List (List ℕ)) (most : ℕ) →
      ((o : Outcome) (s' : State) (k : ℕ) → Runs p f (4 * f) PRINT_VALUE_ACTS acts (now q wk.word (list_kind (walk S v))) o s' k → Runs p f (4 * f) PRINT_VALUE_ACTS rest (now q wk.word (list_kind (walk S v))) o s' (suc k)) →
      Printed f acts q wk.word (list_kind (walk S v)) ps most → Printed f (call_walk ∷ call_kind ∷ rest) q x b ps (5 * links S v + 13 + most)
  by_kind f enough rest acts q x b v wk kd ps most leads r =
      let few = wk.few in
      let few' = kd.few in
      let last = ending_few (walk S v) in
      prints_behind g q acts (loc wk.word (list_kind (walk S v))) ps (λ k. suc wk.count + (suc kd.count + suc k)) (5 * links S v + 13) most (5 * links S v + 13 + most) (λ k. (omega arith)) (omega arith)
      (λ o s' k run. to_kind f enough rest q x b v wk kd o s' (suc k) (leads o s' k run)) r

  -- ---- marks and pieces

  labelled : (f l : ℕ) (more : List Act) (q : Point g) (a b : ℕ) (ps : List (List ℕ)) (most : ℕ) → Printed f more q a b ps most → Printed f (acts.Label l ∷ more) q a b ps most
  labelled f l more q a b ps most r = prints_behind g q more (loc a b) ps (λ k. k) 0 most most (λ k. (omega arith)) (omega arith) (λ o s' k run. at_label run) r

  closing : (f : ℕ) → 2 ≤ f → (q : Point g) (a b : ℕ) → Printed f (drop 18 PRINT_VALUE_ACTS) q a b ((93 ∷ []) ∷ []) 23
  closing f enough q a b =
      mark_then g has f (4 * f) enough (omega arith) PRINT_VALUE_ACTS (drop 19 PRINT_VALUE_ACTS) q (loc a b) 93 (omega arith) (omega arith) refl [] 1 23 (omega arith)
      (ends g f (4 * f) PRINT_VALUE_ACTS (drop 20 PRINT_VALUE_ACTS) (behind g q (mark_prints g has q 93 (omega arith) (omega arith) refl)) (loc a b))

  -- ---- no list

  leaf : (f : ℕ) → 24 ≤ f → (q : Point g) (u b : ℕ) (w : Value) → Shows sh u w → list_kind w ≡ 0 → Printed (suc f) (drop 3 PRINT_VALUE_ACTS) q u b (first_piece program w ∷ []) 112
  leaf f enough q u b w s none =
      prints_last g {f' = f} {w' = 4 * f} (drop 5 PRINT_VALUE_ACTS) q (loc u b) (atoms.Routine PRINT_PIECE) (args.Three (atoms.Var 1) (atoms.Var 2) (atoms.Var 3)) (p.names.routine PRINT_PIECE) (u, words, objects) (routine_of 4 PRINT_PIECE_ACTS) (first_piece program w) 110 112 refl
      (rw (get_1 p q.memory u words objects b typed drawn q.output, get_2 p q.memory u words objects b typed drawn q.output, get_3 p q.memory u words objects b typed drawn q.output) refl) (print_piece_at p has) (omega arith) (omega arith) (omega arith)
      (piece_works g has is program words objects sp f (4 * f) enough (omega arith) q u 0 w s none)

  other_end : (f : ℕ) → 24 ≤ f → (q : Point g) (u b : ℕ) (w : Value) → Shows sh u w → list_kind w ≡ 0 → Printed (suc f) (drop 16 PRINT_VALUE_ACTS) q u b (first_piece program w ∷ (93 ∷ []) ∷ []) 134
  other_end f enough q u b w s none =
      let piece = piece_works g has is program words objects sp f (4 * f) enough (omega arith) q u 0 w s none in
      let q' = behind g q piece in
      prints_then g {f' = f} {w' = 4 * f} (drop 17 PRINT_VALUE_ACTS) q (loc u b) (atoms.Routine PRINT_PIECE) (args.Three (atoms.Var 1) (atoms.Var 2) (atoms.Var 3)) (p.names.routine PRINT_PIECE) (u, words, objects) (routine_of 4 PRINT_PIECE_ACTS) (first_piece program w ∷ []) ((93 ∷ []) ∷ []) 110 23 134 refl
      (rw (get_1 p q.memory u words objects b typed drawn q.output, get_2 p q.memory u words objects b typed drawn q.output, get_3 p q.memory u words objects b typed drawn q.output) refl) (print_piece_at p has) (omega arith) (omega arith) (omega arith)
      piece (labelled (suc f) 2 (drop 18 PRINT_VALUE_ACTS) q' u b ((93 ∷ []) ∷ []) 23 (closing (suc f) (omega arith) q' u b))

  bar : (f : ℕ) → 24 ≤ f → (q : Point g) (u b : ℕ) (w : Value) → Shows sh u w → list_kind w ≡ 0 → Printed (suc f) (drop 15 PRINT_VALUE_ACTS) q u b ((124 ∷ []) ∷ first_piece program w ∷ (93 ∷ []) ∷ []) 156
  bar f enough q u b w s none =
      mark_then g has (suc f) (4 * suc f) (omega arith) (omega arith) PRINT_VALUE_ACTS (drop 16 PRINT_VALUE_ACTS) q (loc u b) 124 (omega arith) (omega arith) refl (first_piece program w ∷ (93 ∷ []) ∷ []) 134 156 (omega arith)
      (other_end f enough (behind g q (mark_prints g has q 124 (omega arith) (omega arith) refl)) u b w s none)

  -- ---- a list

  pub nil_rest : (f : ℕ) → 2 ≤ f → (q : Point g) (u : ℕ) (vs : Values) → Rest f q u Nil vs
  unfolding behind_label
  nil_rest f enough q u vs =
      prints_behind g q (drop 18 PRINT_VALUE_ACTS) (loc u 1) ((93 ∷ []) ∷ []) (λ k. suc k) 1 23 (24 + 200 * (seen_all io vs).1) (λ k. (omega arith)) (omega arith)
      (λ o s' k run. taken (kind_is q u 1 1 true true refl) refl run) (closing f enough q u 1)

  abbrev call_value : Act
  call_value = acts.Call None (atoms.Routine PRINT_VALUE) (args.Three (atoms.Var 4) (atoms.Var 2) (atoms.Var 3))

  -- up to the tail
  to_tail : (f : ℕ) (q : Point g) (k x y : ℕ) (t : Value) → Cell sh (k + 2) y → k + 2 < 10000 → Tail f q y x t → Printed f (drop 11 PRINT_VALUE_ACTS) q (49152 + k) x (tail_pieces program (resolved S t)) (1 + 200 * (seen io t).1)
  to_tail f q k x y t c lt r =
      let u = 49152 + k in
      prints_behind g q (drop 12 PRINT_VALUE_ACTS) (loc y x) (tail_pieces program (resolved S t)) (λ i. suc i) 1 (200 * (seen io t).1) (1 + 200 * (seen io t).1) (λ i. (omega arith)) (omega arith)
      (λ o s' i run. done (computes p (now q u x) (now q y x) 1 functions.Word (atoms.Num 33442) (atoms.Var 1) 33442 u y refl (get_1 p q.memory u words objects x typed drawn q.output) (field q 33442 2 k (k + 2) y c (omega arith) (omega arith) refl) (set_1 p q.memory u words objects x y typed drawn q.output)) run) r

  pub pair_rest : (f : ℕ) (q : Point g) (k x y : ℕ) (v t : Value) → k + 2 < 10000 → Cell sh (k + 1) x → Cell sh (k + 2) y → (AllAbsent io) (More v (More t NoMore)) → (head : Whole f q x v) → Tail (suc f) (behind g q head) y x t → Rest (suc f) q (49152 + k) Pair (More v (More t NoMore))
  pair_rest f q k x y v t lt one two absent head tail =
      let u = 49152 + k in
      let hs = pieces program (resolved S v) in
      let ts = tail_pieces program (resolved S t) in
      let rest_v = More t NoMore in
      let costs = (seen_more io) v rest_v ((first_absent io) v rest_v absent) in
      let costs' = (seen_more io) t NoMore ((first_absent io) t NoMore ((others_absent io) v rest_v absent)) in
      prints_behind g q (drop 10 PRINT_VALUE_ACTS) (loc u x) (hs ++ ts) (λ i. suc (suc i)) 2 (200 * (seen io v).1 + 200 * (seen io t).1 + 2) (24 + 200 * (seen_all io (More v rest_v)).1) (λ i. (omega arith)) (omega arith)
      (λ o s' i run. passed (kind_is q u 2 1 true false refl)
      (done (computes p (now q u 2) (now q u x) 4 functions.Word (atoms.Num 33440) (atoms.Var 1) 33440 u x refl (get_1 p q.memory u words objects 2 typed drawn q.output) (field q 33440 1 k (k + 1) x one (omega arith) (omega arith) refl) (set_4 p q.memory u words objects 2 x typed drawn q.output)) run))
      (prints_then g {f' = f} {w' = 4 * f} (drop 11 PRINT_VALUE_ACTS) q (loc u x) (atoms.Routine PRINT_VALUE) (args.Three (atoms.Var 4) (atoms.Var 2) (atoms.Var 3)) (p.names.routine PRINT_VALUE) (x, words, objects) (routine_of 4 PRINT_VALUE_ACTS) hs ts (200 * (seen io v).1) (1 + 200 * (seen io t).1) (200 * (seen io v).1 + 200 * (seen io t).1 + 2) refl
      (rw (get_4 p q.memory u words objects x typed drawn q.output, get_2 p q.memory u words objects x typed drawn q.output, get_3 p q.memory u words objects x typed drawn q.output) refl) (print_value_at p has) (omega arith) (omega arith) (omega arith)
      head (to_tail (suc f) (behind g q head) k x y t two lt tail))

  -- ---- a value, and a tail

  resolved_as_leaf : (v w : Value) → walk S v ≡ w → list_kind w ≡ 0 → pieces program (resolved S v) ≡ first_piece program w ∷ []
  resolved_as_leaf v (Var z) e none = ap (pieces program) ((resolved_walked io) v (Var z) e ∙ resolved_unbound S z ((walked S st.sound v).free z e))
  resolved_as_leaf v (Node lab vs) e none = ap (pieces program) ((resolved_walked io) v (Node lab vs) e ∙ resolved_node S lab vs) ∙ node_leaf program lab (all_resolved S vs) vs none

  resolved_as_tail : (v w : Value) → walk S v ≡ w → list_kind w ≡ 0 → tail_pieces program (resolved S v) ≡ (124 ∷ []) ∷ first_piece program w ∷ (93 ∷ []) ∷ []
  resolved_as_tail v (Var z) e none = ap (tail_pieces program) ((resolved_walked io) v (Var z) e ∙ resolved_unbound S z ((walked S st.sound v).free z e))
  resolved_as_tail v (Node lab vs) e none = ap (tail_pieces program) ((resolved_walked io) v (Node lab vs) e ∙ resolved_node S lab vs) ∙ node_tail program lab (all_resolved S vs) vs none

  -- A value that was looked up has been seen with its links.
  seen_links : (v w : Value) → walk S v ≡ w → links S v + 1 ≤ (seen io v).1
  seen_links v (Var z) e = let c = (seen_variable io) v z e in omega arith
  seen_links v (Node lab vs) e = let c = (seen_node io) v lab vs e in omega arith

  pub whole_leaf : (f : ℕ) → 24 ≤ f → (q : Point g) (x : ℕ) (v : Value) → Shows sh x v → list_kind (walk S v) ≡ 0 → Whole (suc f) q x v
  whole_leaf f enough q x v s none =
      let wk = looked_at q x v s in
      let kd = kind_at q wk.word (walk S v) wk.shows in
      let costs = seen_links v (walk S v) refl in
      let ps = first_piece program (walk S v) ∷ [] in
      let r : Printed (suc f) PRINT_VALUE_ACTS q x 0 ps (5 * links S v + 13 + 112) = by_kind (suc f) (omega arith) (drop 2 PRINT_VALUE_ACTS) (drop 3 PRINT_VALUE_ACTS) q x 0 v wk kd ps 112
      (λ o s' k run. passed (kind_is q wk.word (list_kind (walk S v)) 0 false true (eq-eqb (list_kind (walk S v)) 0 none)) run)
      (leaf f enough q wk.word (list_kind (walk S v)) (walk S v) wk.shows none) in
      subst (λ (l : List (List ℕ)). Printed (suc f) PRINT_VALUE_ACTS q x 0 l (200 * (seen io v).1)) (sym (resolved_as_leaf v (walk S v) refl none))
      (prints_behind g q PRINT_VALUE_ACTS (loc x 0) ps (λ k. k) 0 (5 * links S v + 13 + 112) (200 * (seen io v).1) (λ k. (omega arith)) (omega arith) (λ o s' k run. run) r)

  pub tail_other : (f : ℕ) → 24 ≤ f → (q : Point g) (y b : ℕ) (t : Value) → Shows sh y t → list_kind (walk S t) ≡ 0 → Tail (suc f) q y b t
  tail_other f enough q y b t s none =
      let wk = looked_at q y t s in
      let kd = kind_at q wk.word (walk S t) wk.shows in
      let costs = seen_links t (walk S t) refl in
      let ps = (124 ∷ []) ∷ first_piece program (walk S t) ∷ (93 ∷ []) ∷ [] in
      let r : Printed (suc f) (drop 12 PRINT_VALUE_ACTS) q y b ps (5 * links S t + 13 + 156) = by_kind (suc f) (omega arith) (drop 14 PRINT_VALUE_ACTS) (drop 15 PRINT_VALUE_ACTS) q y b t wk kd ps 156
      (λ o s' k run. passed (kind_is q wk.word (list_kind (walk S t)) 0 false true (eq-eqb (list_kind (walk S t)) 0 none)) run)
      (bar f enough q wk.word (list_kind (walk S t)) (walk S t) wk.shows none) in
      subst (λ (l : List (List ℕ)). Printed (suc f) (drop 12 PRINT_VALUE_ACTS) q y b l (200 * (seen io t).1)) (sym (resolved_as_tail t (walk S t) refl none))
      (prints_behind g q (drop 12 PRINT_VALUE_ACTS) (loc y b) ps (λ k. k) 0 (5 * links S t + 13 + 156) (200 * (seen io t).1) (λ k. (omega arith)) (omega arith) (λ o s' k run. run) r)

  -- The rest of a list, wherever it was looked up.
  abbrev pub RestAt : ℕ → Label → Values → Type 0
  RestAt f lab vs = (q : Point g) (u : ℕ) → Shows sh u (Node lab vs) → Rest f q u lab vs

  pub whole_list : (f : ℕ) → 2 ≤ f → (q : Point g) (x : ℕ) (v : Value) (lab : Label) (vs : Values) → Shows sh x v → walk S v ≡ Node lab vs → 1 ≤ list_kind (Node lab vs) → RestAt f lab vs → Whole f q x v
  unfolding behind_label
  whole_list f enough q x v lab vs s e some rest =
      let wk = looked_at q x v s in
      let kd = kind_at q wk.word (walk S v) wk.shows in
      let costs = (seen_node io) v lab vs e in
      let us = all_resolved S vs in
      let kind : list_kind (walk S v) ≡ list_kind (Node lab vs) = ap list_kind e in
      let mark = mark_prints g has q 91 (omega arith) (omega arith) refl in
      let q' = behind g q mark in
      let ts = tail_pieces program (Node lab us) in
      let more : Printed f (drop 8 PRINT_VALUE_ACTS) q' wk.word (list_kind (walk S v)) ts (24 + 200 * (seen_all io vs).1) = subst (λ (k : ℕ). Printed f (drop 8 PRINT_VALUE_ACTS) q' wk.word k ts (24 + 200 * (seen_all io vs).1)) (sym kind) (rest q' wk.word (subst (Shows sh wk.word) e wk.shows)) in
      let is_it : pieces program (resolved S v) ≡ (91 ∷ []) ∷ ts = ap (pieces program) ((resolved_walked io) v (Node lab vs) e ∙ resolved_node S lab vs) ∙ node_list program lab us vs some in
      let r : Printed f PRINT_VALUE_ACTS q x 0 ((91 ∷ []) ∷ ts) (5 * links S v + 13 + (46 + 200 * (seen_all io vs).1)) = by_kind f enough (drop 2 PRINT_VALUE_ACTS) (drop 6 PRINT_VALUE_ACTS) q x 0 v wk kd ((91 ∷ []) ∷ ts) (46 + 200 * (seen_all io vs).1)
      (λ o s' k run. taken (kind_is q wk.word (list_kind (walk S v)) 0 false false (ne_eqb (list_kind (walk S v)) 0 (λ (z : list_kind (walk S v) ≡ 0). (omega arith)))) refl run)
      (mark_then g has f (4 * f) enough (omega arith) PRINT_VALUE_ACTS (drop 7 PRINT_VALUE_ACTS) q (loc wk.word (list_kind (walk S v))) 91 (omega arith) (omega arith) refl ts (24 + 200 * (seen_all io vs).1) (46 + 200 * (seen_all io vs).1) (omega arith)
      (labelled f 1 (drop 8 PRINT_VALUE_ACTS) q' wk.word (list_kind (walk S v)) ts (24 + 200 * (seen_all io vs).1) more)) in
      subst (λ (l : List (List ℕ)). Printed f PRINT_VALUE_ACTS q x 0 l (200 * (seen io v).1)) (sym is_it)
      (prints_behind g q PRINT_VALUE_ACTS (loc x 0) ((91 ∷ []) ∷ ts) (λ k. k) 0 (5 * links S v + 13 + (46 + 200 * (seen_all io vs).1)) (200 * (seen io v).1) (λ k. (omega arith)) (omega arith) (λ o s' k run. run) r)

  pub tail_list : (f : ℕ) → 2 ≤ f → (q : Point g) (y b : ℕ) (t : Value) (lab : Label) (vs : Values) → Shows sh y t → walk S t ≡ Node lab vs → 1 ≤ list_kind (Node lab vs) → RestAt f lab vs → Tail f q y b t
  unfolding behind_label
  tail_list f enough q y b t lab vs s e some rest =
      let wk = looked_at q y t s in
      let kd = kind_at q wk.word (walk S t) wk.shows in
      let costs = (seen_node io) t lab vs e in
      let us = all_resolved S vs in
      let kind : list_kind (walk S t) ≡ list_kind (Node lab vs) = ap list_kind e in
      let ts = tail_pieces program (Node lab us) in
      let more : Printed f (drop 8 PRINT_VALUE_ACTS) q wk.word (list_kind (walk S t)) ts (24 + 200 * (seen_all io vs).1) = subst (λ (k : ℕ). Printed f (drop 8 PRINT_VALUE_ACTS) q wk.word k ts (24 + 200 * (seen_all io vs).1)) (sym kind) (rest q wk.word (subst (Shows sh wk.word) e wk.shows)) in
      let is_it : tail_pieces program (resolved S t) ≡ ts = ap (tail_pieces program) ((resolved_walked io) t (Node lab vs) e ∙ resolved_node S lab vs) in
      let r : Printed f (drop 12 PRINT_VALUE_ACTS) q y b ts (5 * links S t + 13 + (24 + 200 * (seen_all io vs).1)) = by_kind f enough (drop 14 PRINT_VALUE_ACTS) (drop 8 PRINT_VALUE_ACTS) q y b t wk kd ts (24 + 200 * (seen_all io vs).1)
      (λ o s' k run. taken (kind_is q wk.word (list_kind (walk S t)) 0 false false (ne_eqb (list_kind (walk S t)) 0 (λ (z : list_kind (walk S t) ≡ 0). (omega arith)))) refl run) more in
      subst (λ (l : List (List ℕ)). Printed f (drop 12 PRINT_VALUE_ACTS) q y b l (200 * (seen io t).1)) (sym is_it)
      (prints_behind g q (drop 12 PRINT_VALUE_ACTS) (loc y b) ts (λ k. k) 0 (5 * links S t + 13 + (24 + 200 * (seen_all io vs).1)) (200 * (seen io t).1) (λ k. (omega arith)) (omega arith) (λ o s' k run. run) r)
