-- The terms of a tree that is given are sound.
use Rattle.std.proofs.Common.{◌≡◌, ◌<◌, ◌≤◌, ℕ, zero, suc, List, [], ◌∷◌, ◌++◌, Bool, Option, Some, None, length, position, refl, sym, ◌∙◌, ap, subst, arith}
use Rattle.std.specs.Prelude.{slice_get}
use Rattle.std.specs.List.{All, Contains}
use Rattle.std.specs.Str.{bytes_eq}
use Rattle.std.proofs.lemmas.List.Elements.{All-nil, All-cons, All-append, All-head, All-tail}
use Rattle.std.proofs.lemmas.List.Quantifiers.{position-Some}
use Rattle.dg_base.specs.Heads.{name_of}
use Rattle.dg_base.specs.Mentions.{Thing, query, variable, of_value, of_values, of_parts}
use Rattle.dg_base.specs.Sound.{IsNodeOf, IsTermOf, FitsHeads, FitsPlace}
use Rattle.dg_base.specs.Terms.{nodes}
use Rattle.dg_base.specs.Tree as tree
use Rattle.dg_base.specs.Tree.{Parts, Value, Values}
use Rattle.dg_base.specs.declared.mentions.Role.TheVariants as role
use Rattle.dg_base.specs.declared.program.CoreProgram.{CoreProgram as Core}
use Rattle.dg_base.specs.declared.program.Term.{Term, out-Term}
use Rattle.dg_base.specs.declared.program.Term.TheVariants as term
use Rattle.dg_base.specs.declared.program.Term.TheBlock.{hidden-the_row-Term-0}
use Rattle.dg_base.specs.declared.program.Term.TheOpen as top
use Rattle.dg_names.specs.Among.{IsAmong}
use Rattle.dg_core.specs.Given.{IsFit}
use Rattle.dg_core.specs.Bodies.{Closed, in_value, in_values}
use Rattle.dg_core.specs.Goals.{Scope, past, place_number, in_16_bits, number_in, closure_of, term_of, listed, terms_of, arg}
use Rattle.dg_core.proofs.AskLemmas.{place_if, small, HasPlaces}
use Rattle.dg_core.proofs.HoldLemmas.{Hold, front, back}

-- the number of a name among names is that of a place
pub number_below : (n : List ℕ) (ms : List (List ℕ)) → Contains ms n → length ms ≤ 65535 → number_in ms n < length ms
number_below n ms there few =
    let place = place_if n ms (position (bytes_eq n) ms) refl there in
    let found = position-Some (bytes_eq n) ms place.0 n place.1 in
    let number : number_in ms n ≡ place.0 = ap (λ (o : Option ℕ). in_16_bits (place_number o)) place.1 ∙ small place.0 (omega (arith, found.0, few)) in
    subst (λ (k : ℕ). k < length ms) (sym number) found.0

-- what the names of a scope stand for is in the program, and its variables are among so many
pub record IsGround (program : Core) (vars : ℕ) (s : Scope) : Type 0 where
  pub words : (w : List ℕ) → Contains s.names.words w → number_in s.names.words w < length program.words
  pub objects : (n : List ℕ) → Contains s.names.objects n → number_in s.names.objects n < length program.objects
  pub variables : (n : List ℕ) → Contains s.variables n → number_in s.variables n < vars
  pub preds : (t : Scope) (ps : Parts) → Contains s.names.preds (name_of ps) → FitsHeads (length (terms_of t ps)) (slice_get program.preds (number_in s.names.preds (name_of ps)))
  pub named : (t : Scope) (ps : Parts) → Contains s.names.preds (name_of ps) → HasPlaces (length (terms_of t ps)) (slice_get program.preds (number_in s.names.preds (name_of ps)))
  pub places : (t : Scope) (ps : Parts) → Contains s.places (name_of ps) → FitsPlace (length (terms_of t ps)) (slice_get program.places (number_in s.places (name_of ps)))
  pub parents : FitsPlace 2 (slice_get program.places 0)
  pub closures : (k c : ℕ) → slice_get s.closures k ≡ Some c → IsTermOf program vars (term.Closure (in_16_bits c))

-- so is what they stand for behind some closures
pub ground_past : (p : Core) (vars : ℕ) (s : Scope) (cs : Closed) → IsGround p vars s → IsGround p vars (past s cs)
ground_past p vars s cs g = record {
  words = g.words;
  objects = g.objects;
  variables = g.variables;
  preds = g.preds;
  named = g.named;
  places = g.places;
  parents = g.parents;
  closures = g.closures;
}

-- one thing is among the names, and a variable among those of the scope
abbrev pub IsKnown : Scope → Thing → Type 0
IsKnown s (variable n) = Contains s.variables n
IsKnown s (query (role.Changed set) ps) = Contains s.places (name_of ps)
IsKnown s t = IsAmong s.names t × IsFit t

-- ---- terms

abbrev IsNode : Core → ℕ → Term → Type 0
IsNode p vars x = IsNodeOf p vars (out-Term x)

pub leaf_sound : (p : Core) (vars : ℕ) (x : Term) (layer : top.Term-F Term) → nodes x ≡ x ∷ [] → out-Term x ≡ layer → IsNodeOf p vars layer → IsTermOf p vars x
leaf_sound p vars x layer alone is h =
    subst (All (IsNode p vars)) (sym alone) (All-cons (IsNode p vars) x [] (subst (IsNodeOf p vars) (sym is) h) (All-nil (IsNode p vars)))

pub nil_sound : (p : Core) (vars : ℕ) → IsTermOf p vars term.Nil
nil_sound p vars = leaf_sound p vars term.Nil top.Nil refl term.outs-Nil tt

pub nodes_are : (h t : Term) → nodes (term.Pair h t) ≡ term.Pair h t ∷ ((nodes h ++ []) ++ (nodes t ++ []))
unfolding hidden-the_row-Term-0 denote.Hole.Carrier.hidden
nodes_are h t = refl

and_nothing : (p : Core) (vars : ℕ) (xs : List Term) → All (IsNode p vars) xs → All (IsNode p vars) (xs ++ [])
and_nothing p vars xs h = All-append (IsNode p vars) xs [] h (All-nil (IsNode p vars))

pair_sound : (p : Core) (vars : ℕ) (h t : Term) → IsTermOf p vars h → IsTermOf p vars t → IsTermOf p vars (term.Pair h t)
pair_sound p vars h t a b =
    subst (All (IsNode p vars)) (sym (nodes_are h t))
    (All-cons (IsNode p vars) (term.Pair h t) ((nodes h ++ []) ++ (nodes t ++ [])) (subst (IsNodeOf p vars) (sym (term.outs-Pair h t)) tt)
    (All-append (IsNode p vars) (nodes h ++ []) (nodes t ++ []) (and_nothing p vars (nodes h) a) (and_nothing p vars (nodes t) b)))

closure_sound : (p : Core) (vars : ℕ) (s : Scope) (k : ℕ) (o : Option ℕ) → slice_get s.closures k ≡ o → IsGround p vars s → IsTermOf p vars (closure_of o)
closure_sound p vars s k None e g = nil_sound p vars
closure_sound p vars s k (Some c) e g = g.closures k c e

mutual
  pub term_sound : (p : Core) (vars : ℕ) (s : Scope) (t : Bool) (v : Value) → IsGround p vars s → Hold (IsKnown s) (of_value t v) → IsTermOf p vars (term_of s v)
  term_sound p vars s t (tree.num n) g h = leaf_sound p vars (term.Num n) (top.Num n) refl (term.outs-Num n) h.0.0
  term_sound p vars s t (tree.dict_word n) g h = leaf_sound p vars (term.Word _) (top.Word (number_in s.names.words n)) refl (term.outs-Word _) (g.words n h.0.0)
  term_sound p vars s t (tree.object_name n) g h = leaf_sound p vars (term.Object _) (top.Object (number_in s.names.objects n)) refl (term.outs-Object _) (g.objects n h.0.0)
  term_sound p vars s t (tree.variable n) g h = leaf_sound p vars (term.Var _) (top.Var (number_in s.variables n)) refl (term.outs-Var _) (g.variables n h.0)
  term_sound p vars s t (tree.plain_list vs) g h = list_sound p vars s t vs term.Nil g h.1 (nil_sound p vars)
  term_sound p vars s t (tree.tailed_list vs v) g h =
      let behind = past s (in_values vs) in
      list_sound p vars s t vs (term_of behind v) g (front (IsKnown s) (of_values t vs) (of_value t v) h.1) (term_sound p vars behind t v (ground_past p vars s (in_values vs) g) (back (IsKnown s) (of_values t vs) (of_value t v) h.1))
  term_sound p vars s t (tree.closure b) g h = closure_sound p vars s s.before (slice_get s.closures s.before) refl g
  term_sound p vars s t v g h = nil_sound p vars

  list_sound : (p : Core) (vars : ℕ) (s : Scope) (t : Bool) (vs : Values) (tail : Term) → IsGround p vars s → Hold (IsKnown s) (of_values t vs) → IsTermOf p vars tail → IsTermOf p vars (listed s vs tail)
  list_sound p vars s t tree.no_values tail g h k = k
  list_sound p vars s t (tree.value v vs) tail g h k =
      let behind = past s (in_value v) in
      pair_sound p vars (term_of s v) (listed behind vs tail) (term_sound p vars s t v g (front (IsKnown s) (of_value t v) (of_values t vs) h))
      (list_sound p vars behind t vs tail (ground_past p vars s (in_value v) g) (back (IsKnown s) (of_value t v) (of_values t vs) h) k)

pub parts_sound : (p : Core) (vars : ℕ) (s : Scope) (t : Bool) (ps : Parts) → IsGround p vars s → Hold (IsKnown s) (of_parts t ps) → All (IsTermOf p vars) (terms_of s ps)
parts_sound p vars s t tree.no_parts g h = All-nil (IsTermOf p vars)
parts_sound p vars s t (tree.part (tree.part_word n) ps) g h = parts_sound p vars s t ps g h
parts_sound p vars s t (tree.part (tree.part_value v) ps) g h =
    let behind = past s (in_value v) in
    All-cons (IsTermOf p vars) (term_of s v) (terms_of behind ps) (term_sound p vars s t v g (front (IsKnown s) (of_value t v) (of_parts t ps) h))
    (parts_sound p vars behind t ps (ground_past p vars s (in_value v) g) (back (IsKnown s) (of_value t v) (of_parts t ps) h))

-- each value of a query, or the empty list
pub arg_sound : (p : Core) (vars : ℕ) (ts : List Term) (k : ℕ) → All (IsTermOf p vars) ts → IsTermOf p vars (arg ts k)
arg_sound p vars [] k h = nil_sound p vars
arg_sound p vars (t ∷ ts) zero h = All-head (IsTermOf p vars) t ts h
arg_sound p vars (t ∷ ts) (suc k) h = arg_sound p vars ts k (All-tail (IsTermOf p vars) t ts h)
