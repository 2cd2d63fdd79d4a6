-- Terms that are written one node behind the other.
use Rattle.std.specs.Borrow.{Bor}
use Rattle.std.proofs.Common.{◌≡◌, ◌+◌, ◌<◌, ◌≤◌, ℕ, zero, suc, List, [], ◌∷◌, ◌++◌, length, drop, get_or, refl, sym, ◌∙◌, ap, subst, arith, append_assoc, length-drop}
use Rattle.std.specs.List.{sum_by}
use Rattle.std.proofs.lemmas.List.Sums.{sum_by-append}
use Rattle.dg_base.specs.declared.program.CoreProgram.{CoreProgram}
use Rattle.dg_base.specs.declared.program.Term.{Term, out-Term}
use Rattle.dg_base.specs.declared.program.Term.TheOpen as term
use Rattle.dg_base.specs.Terms.{nodes}
use Rattle.dg_meaning.specs.Cells.{node_cells, nodes_of, cells}
use Rattle.z_lang.specs.declared.act.Act.{Act}
use Rattle.dg_turn.specs.Terms.{word_act, words_acts, node_acts, nodes_acts, capture_acts, captures_for, capped, IsTerm, IsNode, AreNodes, AreCaptured}
use Rattle.dg_turn.proofs.Terms.{capped_is}
use Rattle.dg_emit.specs.inside.Left.{parts_of, left}
use Rattle.dg_emit.specs.inside.Acts.{capture_act}
use Rattle.dg_emit.proofs.Left.{nodes_next, left_next, cells_left}

-- ## Captured variables

pub small_or : (vs : List ℕ) (i : ℕ) → AreCaptured vs → get_or vs i 0 < 128
small_or [] i are = omega arith
small_or (v ∷ vs) zero are = are.0
small_or (v ∷ vs) (suc i) are = small_or vs i are.1

pub captured_behind : (n : ℕ) (vs : List ℕ) → AreCaptured vs → AreCaptured (drop n vs)
captured_behind zero vs are = are
captured_behind (suc n) [] are = are
captured_behind (suc n) (v ∷ vs) are = captured_behind n vs are.1

capture_step : (vs : List ℕ) → 0 < length vs → capture_acts (captures_for (length vs)) vs ≡ capture_act vs ∷ capture_acts (captures_for (length (drop 6 vs))) (drop 6 vs)
capture_step vs some =
    let d = length-drop 6 vs in
    let e : captures_for (length vs) ≡ suc (captures_for (length (drop 6 vs))) = omega (arith, d) in
    ap (λ k. capture_acts k vs) e

-- Six are captured, and those behind them are left.
pub captured_next : (before acts : List Act) (vs others : List ℕ) → others ≡ drop 6 vs → 0 < length vs → acts ≡ before ++ capture_act vs ∷ [] → acts ++ capture_acts (captures_for (length others)) others ≡ before ++ capture_acts (captures_for (length vs)) vs
captured_next before acts vs others is some e =
    ap (λ (l : List ℕ). acts ++ capture_acts (captures_for (length l)) l) is
    ∙ ap (λ (l : List Act). l ++ capture_acts (captures_for (length (drop 6 vs))) (drop 6 vs)) e
    ∙ append_assoc before (capture_act vs ∷ []) (capture_acts (captures_for (length (drop 6 vs))) (drop 6 vs))
    ∙ ap (λ (l : List Act). before ++ l) (sym (capture_step vs some))

-- ## Nodes

-- One node is written, and those that are left.
pub record Next (p : CoreProgram) (o n : ℕ) (before acts : List Act) (made more : List (Bor Term)) : Type 0 where
  pub acts_are : acts ++ nodes_acts p (o + n) (nodes_of (left more)) ≡ before ++ nodes_acts p o (nodes_of (left made))
  pub room : o + n + cells p (left more) ≤ 10000
  pub nodes : AreNodes p (nodes_of (left more))

pub node_next : (p : CoreProgram) (o n : ℕ) (before acts : List Act) (made rest more : List (Bor Term)) (t : Bor Term) → made ≡ rest ++ t ∷ [] → left more ≡ parts_of (out-Term t.now) ++ left rest → n ≡ capped (node_cells p (out-Term t.now)) → acts ≡ before ++ node_acts p o (out-Term t.now) → o + cells p (left made) ≤ 10000 → AreNodes p (nodes_of (left made)) → Next p o n before acts made more
node_next p o n before acts made rest more t e is size wrote room are =
    let all : nodes_of (left made) ≡ t.now ∷ nodes_of (left more) = ap nodes_of (left_next made rest t e) ∙ nodes_next t.now (left rest) ∙ ap (λ l. t.now ∷ nodes_of l) (sym is) in
    let c = cells_left p made rest more t e is in
    let own : n ≡ node_cells p (out-Term t.now) = size ∙ capped_is _ (omega arith) in
    let those = subst (λ (l : List Term). AreNodes p l) all are in
    record {
      acts_are =
          ap (λ (l : List Act). l ++ nodes_acts p (o + n) (nodes_of (left more))) wrote
          ∙ append_assoc before (node_acts p o (out-Term t.now)) (nodes_acts p (o + n) (nodes_of (left more)))
          ∙ ap (λ (k : ℕ). before ++ (node_acts p o (out-Term t.now) ++ nodes_acts p (o + k) (nodes_of (left more)))) own
          ∙ ap (λ (l : List Term). before ++ nodes_acts p o l) (sym all);
      room = omega arith;
      nodes = those.1;
    }

-- ## Words

node_term : (p : CoreProgram) (x : term.Term-F Term) → IsNode p x → IsTerm x
node_term p (term.Pair h t) are = tt
node_term p (term.Closure c) are = tt
node_term p (term.Num n) are = are
node_term p (term.Word n) are = are
node_term p (term.Object n) are = are
node_term p (term.Var n) are = are
node_term p term.Nil are = are

pub first_term : (p : CoreProgram) (x : Term) (xs : List Term) → AreNodes p (nodes_of (x ∷ xs)) → IsTerm (out-Term x)
first_term p x xs are =
    let those = subst (λ (l : List Term). AreNodes p l) (nodes_next x xs) are in
    node_term p (out-Term x) those.0

nodes_behind : (p : CoreProgram) (xs ys : List Term) → AreNodes p (xs ++ ys) → AreNodes p ys
nodes_behind p [] ys are = are
nodes_behind p (x ∷ xs) ys are = nodes_behind p xs ys are.1

pub other_terms : (p : CoreProgram) (x : Term) (xs : List Term) → AreNodes p (nodes_of (x ∷ xs)) → AreNodes p (nodes_of xs)
other_terms p x xs are = nodes_behind p (nodes x) (nodes_of xs) are

pub cells_first : (p : CoreProgram) (x : Term) (xs : List Term) → cells p (x ∷ xs) ≡ cells p (x ∷ []) + cells p xs
cells_first p x xs =
    let f = λ (y : Term). node_cells p (out-Term y) in
    let all = sum_by-append f (nodes x) (nodes_of xs) in
    let one = sum_by-append f (nodes x) [] in
    let none : sum_by f [] ≡ 0 = refl in
    omega (arith, all, one, none)

-- The word of the first of some terms is put into a variable, and those of the others are left.
pub record Worded (p : CoreProgram) (v o n : ℕ) (before acts : List Act) (ts others : List Term) : Type 0 where
  pub acts_are : acts ++ words_acts p (v + 1) (o + n) others ≡ before ++ words_acts p v o ts
  pub room : o + n + cells p others ≤ 10000
  pub few : v + 1 + length others ≤ 255
  pub nodes : AreNodes p (nodes_of others)

pub worded : (p : CoreProgram) (v o n : ℕ) (before acts : List Act) (ts others : List Term) (x : Term) → ts ≡ x ∷ others → n ≡ cells p (x ∷ []) → acts ≡ before ++ word_act v o (out-Term x) ∷ [] → o + cells p ts ≤ 10000 → v + length ts ≤ 255 → AreNodes p (nodes_of ts) → Worded p v o n before acts ts others
worded p v o n before acts ts others x is size wrote room few are =
    let c = ap (cells p) is ∙ cells_first p x others in
    let l = ap length is in
    let one : v + 1 ≡ suc v = omega arith in
    let those = other_terms p x others (subst (λ (ys : List Term). AreNodes p (nodes_of ys)) is are) in
    record {
      acts_are =
          ap (λ (ys : List Act). ys ++ words_acts p (v + 1) (o + n) others) wrote
          ∙ append_assoc before (word_act v o (out-Term x) ∷ []) (words_acts p (v + 1) (o + n) others)
          ∙ ap (λ (k : ℕ). before ++ word_act v o (out-Term x) ∷ words_acts p (v + 1) (o + k) others) size
          ∙ ap (λ (k : ℕ). before ++ word_act v o (out-Term x) ∷ words_acts p k (o + cells p (x ∷ [])) others) one
          ∙ ap (λ (ys : List Term). before ++ words_acts p v o ys) (sym is);
      room = omega arith;
      few = omega arith;
      nodes = those;
    }
