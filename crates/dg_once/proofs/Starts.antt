-- No closure stands in what places start with.
use Rattle.std.proofs.Common.{◌≡◌, ◌+◌, ℕ, zero, suc, List, [], ◌∷◌, ◌++◌, Bool, true, false, Option, Some, None, Result, Ok, Err, map, position, refl, ◌∙◌, ap, arith}
use Rattle.std.specs.Prelude.{slice_get, if◌then◌else◌}
use Rattle.std.specs.Str.{bytes_eq}
use Rattle.dg_base.specs.Heads.{name_of}
use Rattle.dg_base.specs.Tree as tree
use Rattle.dg_base.specs.Tree.{Parts, Values, Item}
use Rattle.dg_base.specs.declared.program.CoreProgram.{CoreProgram as Core}
use Rattle.dg_base.specs.declared.program.PlaceKind.{PlaceKind}
use Rattle.dg_base.specs.declared.program.Term.{Term}
use Rattle.dg_base.specs.declared.program.Term.TheVariants as term
use Rattle.dg_base.specs.declared.program.Term.TheOpen as top
use Rattle.dg_base.specs.declared.refusal.Kind.{Kind}
use Rattle.dg_base.specs.declared.refusal.Kind.TheVariants.{BadInitial}
use Rattle.dg_meaning.specs.Initial.{Initial, TooLong, Unset, IsSet, HasValue, Other}
use Rattle.dg_meaning.specs.Values.{Num, Word, Object, Value, Node}
use Rattle.dg_names.specs.Named.{Named}
use Rattle.dg_core.specs.Bodies.{in_value, in_values}
use Rattle.dg_core.specs.Core.{outer_scope, initial_core}
use Rattle.dg_core.specs.Given.{is_unset}
use Rattle.dg_core.specs.Goals.{Scope, past, number_in, closure_of, term_of, listed}
use Rattle.dg_core.specs.Places.{is_among, declarations, declared_names, kind_of, head_values}
use Rattle.dg_fits.specs.Once.{in_term, in_starts, in_places}
use Rattle.dg_lower.specs.Lowered.{or_nothing, core_place}
use Rattle.dg_lower.specs.Outcome.{outcome_of}
use Rattle.dg_lower.specs.Starts.{Starts, value_start, or_else, head_start, declared_start, allows, known_term, start_by, question, and_starts, starts_from, asked_of, searched, place_starts}
use Rattle.dg_once.proofs.Terms.{leaf_counts, nil_none, pair_counts}

-- ## Declarations

-- where a scope has no closures
mutual
  term_none : (s : Scope) (v : tree.Value) → s.closures ≡ [] → in_term (term_of s v) ≡ 0
  term_none s (tree.num n) e = leaf_counts (term.Num n) (top.Num n) refl (term.outs-Num n)
  term_none s (tree.dict_word w) e = leaf_counts (term.Word (number_in s.names.words w)) (top.Word (number_in s.names.words w)) refl (term.outs-Word _)
  term_none s (tree.object_name n) e = leaf_counts (term.Object (number_in s.names.objects n)) (top.Object (number_in s.names.objects n)) refl (term.outs-Object _)
  term_none s (tree.variable n) e = leaf_counts (term.Var (number_in s.variables n)) (top.Var (number_in s.variables n)) refl (term.outs-Var _)
  term_none s (tree.plain_list vs) e = list_none s vs term.Nil e nil_none
  term_none s (tree.tailed_list vs v) e = let behind = past s (in_values vs) in list_none s vs (term_of behind v) e (term_none behind v e)
  term_none s (tree.closure b) e = ap (λ (ks : List ℕ). in_term (closure_of (slice_get ks s.before))) e ∙ nil_none
  term_none s v e = nil_none

  list_none : (s : Scope) (vs : Values) (tail : Term) → s.closures ≡ [] → in_term tail ≡ 0 → in_term (listed s vs tail) ≡ 0
  list_none s tree.no_values tail e none = none
  list_none s (tree.value v vs) tail e none =
      let behind = past s (in_value v) in
      omega (arith, pair_counts (term_of s v) (listed behind vs tail), term_none s v e, list_none behind vs tail e none)

value_none : (s : Scope) (vs : List tree.Value) → s.closures ≡ [] → in_starts (value_start s vs) ≡ 0
value_none s [] e = refl
value_none s (v ∷ vs) e = by_test (is_unset v)
  where
    by_test : (b : Bool) → in_starts (if b then [] else (0, term_of s v) ∷ []) ≡ 0
    by_test true = refl
    by_test false = omega (arith, term_none s v e)

head_none : (s : Scope) (name : List ℕ) (ps : Parts) → s.closures ≡ [] → in_starts (head_start s name ps) ≡ 0
head_none s name ps e = by_test (bytes_eq (name_of ps) name)
  where
    by_test : (b : Bool) → in_starts (if b then value_start s (head_values ps) else []) ≡ 0
    by_test true = value_none s (head_values ps) e
    by_test false = refl

either_none : (xs ys : List (ℕ × Term)) → in_starts xs ≡ 0 → in_starts ys ≡ 0 → in_starts (or_else xs ys) ≡ 0
either_none [] ys h k = k
either_none (x ∷ xs) ys h k = h

declared_none : (s : Scope) (name : List ℕ) (heads : List Parts) → s.closures ≡ [] → in_starts (declared_start s name heads) ≡ 0
declared_none s name [] e = refl
declared_none s name (ps ∷ heads) e = either_none (head_start s name ps) (declared_start s name heads) (head_none s name ps e) (declared_none s name heads e)

-- ## Searches

known_none : (v : Value) → in_term (known_term v) ≡ 0
known_none (Node (Num n) parts) = leaf_counts (term.Num n) (top.Num n) refl (term.outs-Num n)
known_none (Node (Word w) parts) = leaf_counts (term.Word w) (top.Word w) refl (term.outs-Word w)
known_none (Node (Object o) parts) = leaf_counts (term.Object o) (top.Object o) refl (term.outs-Object o)
known_none v = nil_none

starts_append : (xs ys : Starts) → in_starts (xs ++ ys) ≡ in_starts xs + in_starts ys
starts_append [] ys = omega arith
starts_append (x ∷ xs) ys = omega (arith, starts_append xs ys)

-- where something starts, no closure does
abbrev HasNone : Result Starts Kind → Type 0
HasNone (Ok starts) = in_starts starts ≡ 0
HasNone (Err kind) = Unit {0}

one_none : (p : Core) (kind : PlaceKind) (o : ℕ) (x : Initial) → HasNone (start_by p kind o x)
one_none p kind o TooLong = tt
one_none p kind o Unset = refl
one_none p kind o IsSet = omega (arith, nil_none)
one_none p kind o (HasValue v) = by_test (allows p kind v)
  where
    by_test : (b : Bool) → HasNone (if b then Ok ((o, known_term v) ∷ []) else Err BadInitial)
    by_test true = omega (arith, known_none v)
    by_test false = tt
one_none p kind o Other = tt

both_none : (a b : Result Starts Kind) → HasNone a → HasNone b → HasNone (and_starts a b)
both_none (Err kind) b h k = tt
both_none (Ok xs) (Err kind) h k = tt
both_none (Ok xs) (Ok ys) h k = omega (arith, starts_append xs ys, h, k)

objects_none : (p : Core) (kind : PlaceKind) (pred o n : ℕ) → HasNone (starts_from p kind pred o n)
objects_none p kind pred o zero = refl
objects_none p kind pred o (suc n) =
    both_none (start_by p kind o (outcome_of p (question kind pred o))) (starts_from p kind pred (o + 1) n)
    (one_none p kind o (outcome_of p (question kind pred o))) (objects_none p kind pred (o + 1) n)

searched_none : (p : Core) (kind : PlaceKind) (o : Option ℕ) → HasNone (searched p kind o)
searched_none p kind None = refl
searched_none p kind (Some pred) = objects_none p kind pred 0 (asked_of p kind)

-- ## Places

or_nothing_none : (r : Result Starts Kind) → HasNone r → in_starts (or_nothing r) ≡ 0
or_nothing_none (Ok starts) h = h
or_nothing_none (Err kind) h = refl

place_none : (names : Named) (items : List Item) (name : List ℕ) → in_starts (or_nothing (place_starts names items name)) ≡ 0
place_none names items name = or_nothing_none (place_starts names items name) (by_test (is_among name (declared_names items)))
  where
    by_test : (b : Bool) → HasNone (if b then Ok (declared_start (outer_scope names items) name (declarations items))
        else searched (initial_core names items) (kind_of (declared_names items) name) (position (bytes_eq name) names.preds))
    by_test true = declared_none (outer_scope names items) name (declarations items) refl
    by_test false = searched_none (initial_core names items) (kind_of (declared_names items) name) (position (bytes_eq name) names.preds)

pub places_none : (names : Named) (items : List Item) (ns : List (List ℕ)) → in_places (map (core_place names items) ns) ≡ 0
places_none names items [] = refl
places_none names items (n ∷ ns) = omega (arith, place_none names items n, places_none names items ns)
