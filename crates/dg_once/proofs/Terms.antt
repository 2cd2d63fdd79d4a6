-- Of each closure that stands in values there is one term at most.
use Rattle.std.proofs.Common.{◌≡◌, ◌+◌, ◌≤◌, ℕ, List, [], ◌∷◌, ◌++◌, Option, Some, None, refl, ap, arith}
use Rattle.std.specs.Prelude.{slice_get}
use Rattle.dg_base.specs.Terms.{nodes}
use Rattle.dg_base.specs.Tree as tree
use Rattle.dg_base.specs.Tree.{Parts, Value, Values}
use Rattle.dg_base.specs.declared.program.Term.{Term, out-Term}
use Rattle.dg_base.specs.declared.program.Term.TheVariants as term
use Rattle.dg_base.specs.declared.program.Term.TheOpen as top
use Rattle.dg_core.specs.Bodies.{in_value, in_values, in_parts}
use Rattle.dg_core.specs.Goals.{Scope, past, in_16_bits, number_in, closure_of, term_of, listed, terms_of, arg}
use Rattle.dg_core.proofs.BodyLemmas.{many, many_join}
use Rattle.dg_core.proofs.TermLemmas.{nodes_are}
use Rattle.dg_fits.specs.Once.{in_node, in_nodes, in_term, in_terms}

pub nodes_append : (xs ys : List Term) → in_nodes (xs ++ ys) ≡ in_nodes xs + in_nodes ys
nodes_append [] ys = omega arith
nodes_append (x ∷ xs) ys = omega (arith, nodes_append xs ys)

pub leaf_counts : (x : Term) (layer : top.Term-F Term) → nodes x ≡ x ∷ [] → out-Term x ≡ layer → in_term x ≡ in_node layer
leaf_counts x layer alone is = omega (arith, ap in_nodes alone, ap in_node is)

pub nil_none : in_term term.Nil ≡ 0
nil_none = leaf_counts term.Nil top.Nil refl term.outs-Nil

pub pair_counts : (h t : Term) → in_term (term.Pair h t) ≡ in_term h + in_term t
pair_counts h t =
    omega (
      arith,
      ap in_nodes (nodes_are h t),
      ap in_node (term.outs-Pair h t),
      nodes_append (nodes h ++ []) (nodes t ++ []),
      nodes_append (nodes h) [],
      nodes_append (nodes t) [],
    )

closure_few : (o : Option ℕ) → in_term (closure_of o) ≤ 1
closure_few None = omega (arith, nil_none)
closure_few (Some k) = omega (arith, leaf_counts (term.Closure (in_16_bits k)) (top.Closure (in_16_bits k)) refl (term.outs-Closure _))

mutual
  pub term_few : (s : Scope) (v : Value) → in_term (term_of s v) ≤ many (in_value v)
  term_few s (tree.num n) = omega (arith, leaf_counts (term.Num n) (top.Num n) refl (term.outs-Num n))
  term_few s (tree.dict_word w) = omega (arith, leaf_counts (term.Word (number_in s.names.words w)) (top.Word (number_in s.names.words w)) refl (term.outs-Word _))
  term_few s (tree.object_name n) =
      omega (arith, leaf_counts (term.Object (number_in s.names.objects n)) (top.Object (number_in s.names.objects n)) refl (term.outs-Object _))
  term_few s (tree.variable n) = omega (arith, leaf_counts (term.Var (number_in s.variables n)) (top.Var (number_in s.variables n)) refl (term.outs-Var _))
  term_few s (tree.plain_list vs) = omega (arith, list_few s vs term.Nil, nil_none)
  term_few s (tree.tailed_list vs v) =
      let behind = past s (in_values vs) in
      omega (arith, list_few s vs (term_of behind v), term_few behind v, many_join (in_values vs) (in_value v))
  term_few s (tree.closure b) = closure_few (slice_get s.closures s.before)
  term_few s v = omega (arith, nil_none)

  list_few : (s : Scope) (vs : Values) (tail : Term) → in_term (listed s vs tail) ≤ many (in_values vs) + in_term tail
  list_few s tree.no_values tail = omega arith
  list_few s (tree.value v vs) tail =
      let behind = past s (in_value v) in
      omega (arith, pair_counts (term_of s v) (listed behind vs tail), term_few s v, list_few behind vs tail, many_join (in_value v) (in_values vs))

pub parts_few : (s : Scope) (ps : Parts) → in_terms (terms_of s ps) ≤ many (in_parts ps)
parts_few s tree.no_parts = omega arith
parts_few s (tree.part (tree.part_word n) ps) = parts_few s ps
parts_few s (tree.part (tree.part_value v) ps) = omega (arith, term_few s v, parts_few (past s (in_value v)) ps, many_join (in_value v) (in_parts ps))

-- three terms of a query, each in its place
pub three_few : (ts : List Term) → in_term (arg ts 0) + in_term (arg ts 1) + in_term (arg ts 2) ≤ in_terms ts
three_few [] = omega (arith, nil_none)
three_few (a ∷ []) = omega (arith, nil_none)
three_few (a ∷ b ∷ []) = omega (arith, nil_none)
three_few (a ∷ b ∷ c ∷ ts) = omega arith
