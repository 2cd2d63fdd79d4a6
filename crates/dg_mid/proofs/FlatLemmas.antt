-- What terms without parts and pairs take, and lists of them.
use Rattle.std.proofs.Common.{◌≡◌, ℕ, zero, suc, ◌+◌, ◌*◌, [], ◌∷◌, ◌++◌, refl, sym, ap, ◌∙◌, subst, arith}
use Rattle.std.specs.List.{sum_by}
use Rattle.std.proofs.lemmas.List.Sums.{sum_by-append}
use Rattle.dg_base.specs.declared.program.Term.{Term, Pair', out-Term, roll-Term, roll-out-Term}
use Rattle.dg_base.specs.declared.program.Term.TheOpen as term
use Rattle.dg_base.specs.declared.program.Term.TheBlock.{hidden-the_row-Term-0}
use Rattle.dg_base.specs.declared.program.Term.TheVariants.{Pair as Pair-Term, rolls-Pair, outs-Pair}
use Rattle.dg_base.specs.declared.program.CoreProgram.{CoreProgram}
use Rattle.dg_base.specs.Terms.{nodes}
use Rattle.dg_meaning.specs.Cells.{node_cells, cells}
use Rattle.dg_mid.specs.Heads.{IsPlain, IsFlatPair, IsList}

plain_node : (p : CoreProgram) (o : term.Term-F Term) → IsPlain o → node_cells p o ≡ 0
plain_node p (term.Pair head tail) h = absurd h
plain_node p (term.Closure c) h = absurd h
plain_node p other h = refl

pub plain_nodes : (p : CoreProgram) (t : Term) → IsPlain (out-Term t) → sum_by (λ (x : Term). node_cells p (out-Term x)) (nodes t) ≡ 0
unfolding out-Term denote.Hole.Carrier.out
plain_nodes p (Pair' s head t tail) h = absurd h
plain_nodes p other h = omega (arith, plain_node p (out-Term other) h)

pub plain_cell : (p : CoreProgram) (t : Term) → IsPlain (out-Term t) → cells p (t ∷ []) ≡ 0
plain_cell p t h =
    let f = λ (x : Term). node_cells p (out-Term x) in
    sum_by-append f (nodes t) [] ∙ omega (arith, plain_nodes p t h)

pub nodes_are : (h t : Term) → nodes (Pair-Term h t) ≡ Pair-Term h t ∷ ((nodes h ++ []) ++ (nodes t ++ []))
unfolding hidden-the_row-Term-0 denote.Hole.Carrier.hidden
nodes_are h t = refl

pair_cells : (p : CoreProgram) (h t : Term) → node_cells p (out-Term (Pair-Term h t)) ≡ 3
unfolding out-Term denote.Hole.Carrier.out
pair_cells p h t = refl

pub cells_pair : (p : CoreProgram) (x h t : Term) → x ≡ Pair-Term h t → cells p (x ∷ []) ≡ 3 + (cells p (h ∷ []) + cells p (t ∷ []))
cells_pair p x h t is =
    let f = λ (y : Term). node_cells p (out-Term y) in
    let e : cells p (Pair-Term h t ∷ []) ≡ sum_by f (Pair-Term h t ∷ (((nodes h ++ []) ++ (nodes t ++ [])) ++ [])) = ap (λ l. sum_by f (l ++ [])) (nodes_are h t) in
    let a = sum_by-append f (nodes h ++ []) (nodes t ++ []) in
    let b = sum_by-append f ((nodes h ++ []) ++ (nodes t ++ [])) [] in
    let first = sum_by-append f (Pair-Term h t ∷ []) (((nodes h ++ []) ++ (nodes t ++ [])) ++ []) in
    let top : sum_by f (Pair-Term h t ∷ []) ≡ 0 + f (Pair-Term h t) = refl in
    let head : cells p (h ∷ []) ≡ sum_by f (nodes h ++ []) = refl in
    let tail : cells p (t ∷ []) ≡ sum_by f (nodes t ++ []) = refl in
    let none : sum_by f [] ≡ 0 = refl in
    omega (arith, ap (λ (y : Term). cells p (y ∷ [])) is, e, a, b, first, top, head, tail, none, pair_cells p h t)

pub top_is : (t h tl : Term) → t ≡ Pair-Term h tl → out-Term t ≡ term.Pair h tl
top_is t h tl is = ap out-Term is ∙ outs-Pair h tl

pub pair_is : (t h tl : Term) → out-Term t ≡ term.Pair h tl → t ≡ Pair-Term h tl
pair_is t h tl e = sym (roll-out-Term t) ∙ ap roll-Term e ∙ rolls-Pair h tl

pub list_on : (n : ℕ) (t h tl : Term) → t ≡ Pair-Term h tl → IsPlain (out-Term h) → IsList n tl → IsList (suc n) t
list_on n t h tl is plain rest = subst (IsFlatPair (IsList n)) (sym (top_is t h tl is)) (plain, rest)

-- what a flat term takes in each program
list_top : (p : CoreProgram) (n : ℕ) (t : Term) (o : term.Term-F Term) → out-Term t ≡ o → ((tl : Term) → IsList n tl → cells p (tl ∷ []) ≡ 3 * n) → IsFlatPair (IsList n) o → cells p (t ∷ []) ≡ 3 * suc n
list_top p n t (term.Pair h tl) e more f = omega (arith, cells_pair p t h tl (pair_is t h tl e), plain_cell p h f.0, more tl f.1)
list_top p n t o e more f = absurd f

pub list_takes : (p : CoreProgram) (n : ℕ) (t : Term) → IsList n t → cells p (t ∷ []) ≡ 3 * n
list_takes p zero t f = plain_cell p t f
list_takes p (suc n) t f = list_top p n t (out-Term t) refl (λ tl g. list_takes p n tl g) f
