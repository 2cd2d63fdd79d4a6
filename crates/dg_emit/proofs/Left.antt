-- Terms that are left to look at, and what stands in them.
use Rattle.std.specs.Borrow.{Bor}
use Rattle.std.proofs.Common.{◌≡◌, ◌+◌, ◌≤◌, ℕ, List, [], ◌∷◌, ◌++◌, length, map, reverse, refl, sym, ◌∙◌, ap, subst, arith, append-nil}
use Rattle.std.specs.List.{sum_by}
use Rattle.std.proofs.lemmas.List.{reverse-append, map-append}
use Rattle.std.proofs.lemmas.Grind.{flat_map-append}
use Rattle.std.proofs.lemmas.List.Sums.{sum_by-cons}
use Rattle.dg_base.specs.declared.program.CoreProgram.{CoreProgram}
use Rattle.dg_base.specs.declared.program.Term.{Term, Pair', out-Term}
use Rattle.dg_base.specs.declared.program.Term.TheOpen as term
use Rattle.dg_base.specs.declared.program.Term.TheVariants.{Pair as Pair-Term}
use Rattle.dg_base.specs.Terms.{nodes}
use Rattle.dg_mid.proofs.FlatLemmas.{nodes_are, pair_is}
use Rattle.dg_meaning.specs.Cells.{node_cells, nodes_of, cells}
use Rattle.dg_turn.specs.Terms.{capped}
use Rattle.dg_emit.specs.inside.Left.{parts_of, left}

abbrev HasNone : term.Term-F Term → Type 0
HasNone (term.Pair head tail) = ⊥
HasNone other = Unit {0}

leaf_nodes : (x : Term) → HasNone (out-Term x) → nodes x ≡ x ∷ []
unfolding out-Term denote.Hole.Carrier.out
leaf_nodes (Pair' s head t tail) h = absurd h
leaf_nodes other h = refl

node_next : (x : Term) (y : term.Term-F Term) → out-Term x ≡ y → nodes x ≡ x ∷ nodes_of (parts_of y)
node_next x (term.Pair h t) e =
    ap nodes (pair_is x h t e) ∙ nodes_are h t ∙ ap (λ (l : List Term). Pair-Term h t ∷ (l ++ (nodes t ++ []))) (append-nil (nodes h))
    ∙ ap (λ (p : Term). p ∷ (nodes h ++ (nodes t ++ []))) (sym (pair_is x h t e))
node_next x (term.Num n) e = leaf_nodes x (subst HasNone (sym e) tt)
node_next x (term.Word n) e = leaf_nodes x (subst HasNone (sym e) tt)
node_next x (term.Object n) e = leaf_nodes x (subst HasNone (sym e) tt)
node_next x term.Nil e = leaf_nodes x (subst HasNone (sym e) tt)
node_next x (term.Var n) e = leaf_nodes x (subst HasNone (sym e) tt)
node_next x (term.Closure n) e = leaf_nodes x (subst HasNone (sym e) tt)

-- The first node of some terms, and those behind it.
pub nodes_next : (x : Term) (xs : List Term) → nodes_of (x ∷ xs) ≡ x ∷ nodes_of (parts_of (out-Term x) ++ xs)
nodes_next x xs =
    ap (λ (l : List Term). l ++ nodes_of xs) (node_next x (out-Term x) refl)
    ∙ ap (λ (l : List Term). x ∷ l) (sym (flat_map-append nodes (parts_of (out-Term x)) xs))

-- The cells of the first, and of those behind it.
pub cells_next : (p : CoreProgram) (x : Term) (xs : List Term) → cells p (x ∷ xs) ≡ node_cells p (out-Term x) + cells p (parts_of (out-Term x) ++ xs)
cells_next p x xs =
    ap (λ l. sum_by (λ (y : Term). node_cells p (out-Term y)) l) (nodes_next x xs)
    ∙ sum_by-cons (λ (y : Term). node_cells p (out-Term y)) x (nodes_of (parts_of (out-Term x) ++ xs))

-- What was put last comes first.
pub left_next : (made rest : List (Bor Term)) (t : Bor Term) → made ≡ rest ++ t ∷ [] → left made ≡ t.now ∷ left rest
left_next made rest t e =
    ap left e ∙ ap reverse (map-append (λ (b : Bor Term). b.now) rest (t ∷ [])) ∙ reverse-append (map (λ (b : Bor Term). b.now) rest) (t.now ∷ [])

pub capped_sum : (a b : ℕ) → capped (capped a + b) ≡ capped (a + b)
capped_sum a b = grind arith

-- One term is looked at, and what stands in it comes next.
pub fewer_left : (made rest more : List (Bor Term)) (t : Bor Term) → made ≡ rest ++ t ∷ [] → left more ≡ parts_of (out-Term t.now) ++ left rest → length (nodes_of (left made)) ≡ 1 + length (nodes_of (left more))
fewer_left made rest more t e is =
    let a = ap (λ l. length (nodes_of l)) (left_next made rest t e) ∙ ap length (nodes_next t.now (left rest)) in
    let b = ap (λ l. length (nodes_of l)) is in
    omega (arith, a, b)

pub cells_left : (p : CoreProgram) (made rest more : List (Bor Term)) (t : Bor Term) → made ≡ rest ++ t ∷ [] → left more ≡ parts_of (out-Term t.now) ++ left rest → cells p (left made) ≡ node_cells p (out-Term t.now) + cells p (left more)
cells_left p made rest more t e is =
    ap (cells p) (left_next made rest t e) ∙ cells_next p t.now (left rest)
    ∙ ap (λ l. node_cells p (out-Term t.now) + cells p l) (sym is)

pub capped_both : (count own behind all : ℕ) → all ≡ own + behind → capped (capped (count + capped own) + behind) ≡ capped (count + all)
capped_both count own behind all e = grind (arith, e)

pub capped_few : (n : ℕ) → capped n ≤ 10001
capped_few n = grind arith
