-- Acts that write terms can be assembled, however long they are.
use Rattle.std.specs.Prelude.{nat_lt, if◌then◌else◌}
use Rattle.std.proofs.Common.{◌≡◌, ℕ, zero, suc, ◌+◌, ◌<◌, ◌≤◌, List, [], ◌∷◌, ◌++◌, length, drop, Bool, true, false, refl, sym, ap, subst, arith}
use Rattle.std.specs.List.{slice_get}
use Rattle.std.proofs.lemmas.Bool.{ltb-false}
use Rattle.dg_base.specs.declared.program.CoreProgram.{CoreProgram}
use Rattle.dg_base.specs.declared.program.Term.{Term, out-Term}
use Rattle.dg_base.specs.declared.program.Term.TheOpen as term
use Rattle.dg_meaning.specs.Cells.{nodes_of, node_cells, cells}
use Rattle.z_code.specs.Open.{Counts}
use Rattle.z_lang.specs.declared.act.Atom.{Atom}
use Rattle.z_lang.specs.declared.act.Atom.TheVariants as atoms
use Rattle.z_lang.specs.Bodies.{FitsAtom}
use Rattle.dg_rt.specs.RunTime.{runtime}
use Rattle.dg_rt.proofs.Straight.{FitsStraight, AreStraight, straight_append}
use Rattle.dg_turn.specs.Terms.{two_numbers, word_act, words_acts, cell_act, captured_of, capture_acts, captures_for, closure_acts, node_acts, nodes_acts, capped, charge_acts, laying_acts, terms_acts, IsTerm, IsNode, AreNodes, AreCaptured}
use Rattle.dg_emit.specs.inside.Left.{parts_of}
use Rattle.dg_emit.proofs.Left.{nodes_next, cells_next}
use Rattle.dg_emit.proofs.Nodes.{small_or, captured_behind, first_term, other_terms, cells_first}
use Rattle.dg_fits.proofs.Terms.{some_node}

module _ (counts : Counts) (many : 1 + length runtime ≤ counts.routines) where
  word_straight : (v o : ℕ) (x : term.Term-F Term) → v < 256 → o ≤ 10003 → IsTerm x → FitsStraight counts (word_act v o x)
  word_straight v o (term.Num n) lt le is = (lt, omega arith)
  word_straight v o (term.Word n) lt le is = (lt, omega arith)
  word_straight v o (term.Object n) lt le is = (lt, omega arith)
  word_straight v o term.Nil lt le is = (lt, omega arith)
  word_straight v o (term.Var n) lt le is = (lt, omega arith, omega arith)
  word_straight v o (term.Pair head tail) lt le is = (lt, omega arith, omega arith)
  word_straight v o (term.Closure c) lt le is = (lt, omega arith, omega arith)

  words_straight : (p : CoreProgram) (v o : ℕ) (ts : List Term) → v + length ts ≤ 255 → o + cells p ts ≤ 10000 → AreNodes p (nodes_of ts) → AreStraight counts (words_acts p v o ts)
  words_straight p v o [] lt le are = tt
  words_straight p v o (t ∷ ts) lt le are =
      let c = cells_first p t ts in (
        word_straight v o (out-Term t) (omega arith) (omega arith) (first_term p t ts are),
        words_straight p (suc v) (o + cells p (t ∷ [])) ts (omega arith) (omega arith) (other_terms p t ts are),
      )

  -- ## Nodes

  cell_straight : (o : ℕ) (x : Atom) → o ≤ 10002 → FitsAtom counts x → FitsStraight counts (cell_act o x)
  cell_straight o x le is = (omega arith, omega arith, is)

  two_small : (vs : List ℕ) (i : ℕ) → AreCaptured vs → two_numbers vs i < 65536
  two_small vs i are = omega (arith, small_or vs i are, small_or vs (i + 1) are)

  captures_straight : (n : ℕ) (vs : List ℕ) → AreCaptured vs → AreStraight counts (capture_acts n vs)
  captures_straight zero vs are = tt
  captures_straight (suc n) vs are =
      ((tt, omega arith, (two_small vs 0 are, two_small vs 2 are, two_small vs 4 are)), captures_straight n (drop 6 vs) (captured_behind 6 vs are))

  closure_straight : (o c : ℕ) (vs : List ℕ) → o ≤ 10000 → c < 16384 → length vs ≤ 64 → AreCaptured vs → AreStraight counts (closure_acts o c vs)
  closure_straight o c vs le lt few are = ((tt, omega arith, (omega arith, omega arith, omega arith)), captures_straight (captures_for (length vs)) vs are)

  -- a node, with the cells of what stands in it behind its own
  node_straight : (p : CoreProgram) (o : ℕ) (x : term.Term-F Term) (xs : List Term) → o + (node_cells p x + cells p (parts_of x ++ xs)) ≤ 10000 → IsNode p x → AreStraight counts (node_acts p o x)
  node_straight p o (term.Pair head tail) xs le is =
      let c = cells_first p head (tail ∷ xs) in (
        cell_straight o (atoms.Num 0) (omega arith) (omega arith),
        (
          word_straight 52 (o + 3) (out-Term head) (omega arith) (omega arith) is.0,
          (
            cell_straight (o + 1) (atoms.Var 52) (omega arith) (omega arith),
            (
              word_straight 52 (o + 3 + cells p (head ∷ [])) (out-Term tail) (omega arith) (omega arith) is.1,
              (cell_straight (o + 2) (atoms.Var 52) (omega arith) (omega arith), tt),
            ),
          ),
        ),
      )
  node_straight p o (term.Closure c) xs le is = closure_straight o c (captured_of (slice_get p.closures c)) (omega arith) is.0 is.1 is.2
  node_straight p o (term.Num n) xs le is = tt
  node_straight p o (term.Word n) xs le is = tt
  node_straight p o (term.Object n) xs le is = tt
  node_straight p o term.Nil xs le is = tt
  node_straight p o (term.Var n) xs le is = tt

  -- by how many nodes are left
  nodes_straight : (p : CoreProgram) (k o : ℕ) (ts : List Term) → length (nodes_of ts) ≤ k → o + cells p ts ≤ 10000 → AreNodes p (nodes_of ts) → AreStraight counts (nodes_acts p o (nodes_of ts))
  nodes_straight p k o [] fewer le are = tt
  nodes_straight p zero o (t ∷ ts) fewer le are = absurd (omega (arith, some_node t ts))
  nodes_straight p (suc k) o (t ∷ ts) fewer le are =
      let next = nodes_next t ts in
      let rest = parts_of (out-Term t) ++ ts in
      let c = cells_next p t ts in
      let left : length (nodes_of rest) ≤ k = omega (arith, ap length next) in
      let those = subst (AreNodes p) next are in
      subst (λ (xs : List Term). AreStraight counts (nodes_acts p o xs)) (sym next)
      (straight_append counts (node_acts p o (out-Term t)) (nodes_acts p (o + node_cells p (out-Term t)) (nodes_of rest))
      (node_straight p o (out-Term t) ts (omega arith) those.0)
      (nodes_straight p k (o + node_cells p (out-Term t)) rest left (omega arith) those.1))

  -- ## Terms

  charge_straight : (n : ℕ) → n ≤ 10001 → AreStraight counts (charge_acts n)
  charge_straight zero le = tt
  charge_straight (suc n) le = ((tt, omega arith, omega arith), tt)

  laying_straight : (p : CoreProgram) (v : ℕ) (ts : List Term) → v + length ts ≤ 255 → AreNodes p (nodes_of ts) → AreStraight counts (laying_acts p v ts)
  laying_straight p v ts few are = by_room (nat_lt 10000 (cells p ts)) refl
    where
      by_room : (b : Bool) → nat_lt 10000 (cells p ts) ≡ b → AreStraight counts (if b then [] else nodes_acts p 0 (nodes_of ts) ++ words_acts p v 0 ts)
      by_room true e = tt
      by_room false e =
          let le = ltb-false 10000 (cells p ts) e in
          straight_append counts (nodes_acts p 0 (nodes_of ts)) (words_acts p v 0 ts) (nodes_straight p (length (nodes_of ts)) 0 ts (omega arith) (omega arith) are)
          (words_straight p v 0 ts few (omega arith) are)

  pub capped_few : (n : ℕ) → capped n ≤ 10001
  capped_few n = by_room (nat_lt 10000 n) refl
    where
      by_room : (b : Bool) → nat_lt 10000 n ≡ b → (if b then 10001 else n) ≤ 10001
      by_room true e = omega arith
      by_room false e = let le = ltb-false 10000 n e in omega arith

  pub terms_straight : (p : CoreProgram) (v : ℕ) (ts : List Term) → v + length ts ≤ 255 → AreNodes p (nodes_of ts) → AreStraight counts (terms_acts p v ts)
  terms_straight p v ts few are =
      straight_append counts (charge_acts (capped (cells p ts))) (laying_acts p v ts) (charge_straight (capped (cells p ts)) (capped_few (cells p ts)))
      (laying_straight p v ts few are)
