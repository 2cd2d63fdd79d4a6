-- Values left to be looked at, and the parts of declarations.
use Rattle.std.proofs.Common.{◌≡◌, ◌&&◌, ◌+◌, ◌-◌, ◌<◌, ◌≤◌, ℕ, List, [], ◌∷◌, ◌++◌, Bool, true, false, not, Option, Some, None, length, drop, take, map, get_or, nat_eq, Bor, refl, sym, ◌∙◌, ap, subst, arith, length-drop}
use Rattle.std.specs.Option.{is_some, option_map}
use Rattle.std.specs.Prelude.{Result, Ok, Err, IfOk}
use Rattle.std.specs.declared.alloc.AllocError.{AllocError}
use Rattle.std.proofs.lemmas.List.{take_all}
use Rattle.dg_base.specs.Tree as tree
use Rattle.dg_base.specs.Tree.{Values, Parts, parts_of, values_of}
use Rattle.dg_base.specs.TreeView.{part_view, value_view, head_view}
use Rattle.dg_base.specs.declared.tree.Head.{Head}
use Rattle.dg_base.specs.declared.tree.Part.{Part}
use Rattle.dg_base.specs.declared.tree.Value.{Value}
use Rattle.dg_reader.specs.Heads.{is_constant, are_constants, query_in, declared_query}
use Rattle.dg_reader.specs.inside.Sizes.{is_atom, elements_of, all_constant, work, value_size, values_size}

-- ---- values left to be looked at

swapped : (a b c : Bool) → (a && (b && c)) ≡ (b && (a && c))
swapped true b c = refl
swapped false true c = refl
swapped false false c = refl

pub all_constant_push : (ls : List (Bor (List Value))) (l : Bor (List Value)) → all_constant (ls ++ l ∷ []) ≡ (are_constants (values_of (map value_view l.now)) && all_constant ls)
all_constant_push [] l = refl
all_constant_push (k ∷ ls) l =
    ap (λ (b : Bool). are_constants (values_of (map value_view k.now)) && b) (all_constant_push ls l)
    ∙ swapped (are_constants (values_of (map value_view k.now))) (are_constants (values_of (map value_view l.now))) (all_constant ls)

pub work_push : (ls : List (Bor (List Value))) (l : Bor (List Value)) → work (ls ++ l ∷ []) ≡ (1 + values_size (values_of (map value_view l.now))) + work ls
work_push [] l = refl
work_push (k ∷ ls) l = omega (arith, work_push ls l)

-- a number, a word or an object
pub atom_constant : (v : tree.Value) → is_atom v ≡ true → is_constant v ≡ true
atom_constant (tree.num n) e = refl
atom_constant (tree.dict_word w) e = refl
atom_constant (tree.object_name w) e = refl
atom_constant v e = absurd (cc)

-- a list without a tail
pub list_constant : (v : tree.Value) (vs : Values) → Some vs ≡ elements_of v → is_constant v ≡ are_constants vs
list_constant (tree.plain_list us) vs e = let same : us ≡ vs = cc in ap are_constants same
list_constant v vs e = absurd (cc)

pub list_size : (v : tree.Value) (vs : Values) → Some vs ≡ elements_of v → value_size v ≡ 2 + values_size vs
list_size (tree.plain_list us) vs e = let same : us ≡ vs = cc in ap (λ (x : Values). 2 + values_size x) same
list_size v vs e = absurd (cc)

-- any other value
pub other_constant : (v : tree.Value) → is_atom v ≡ false → None ≡ elements_of v → is_constant v ≡ false
other_constant (tree.num n) a e = absurd (cc)
other_constant (tree.dict_word w) a e = absurd (cc)
other_constant (tree.object_name w) a e = absurd (cc)
other_constant (tree.plain_list us) a e = absurd (cc)
other_constant v a e = refl

-- the first of some values, and the others
others : (vs : List Value) → take (length vs - 1) (drop 1 vs) ≡ drop 1 vs
others vs = take_all _ _ (omega (arith, length-drop 1 vs))

first_constant : (vs : List Value) (d : Value) → 0 < length vs → are_constants (values_of (map value_view vs)) ≡ (is_constant (value_view (get_or vs 0 d)) && are_constants (values_of (map value_view (drop 1 vs))))
first_constant [] d lt = absurd (omega arith)
first_constant (v ∷ vs) d lt = refl

first_size : (vs : List Value) (d : Value) → 0 < length vs → values_size (values_of (map value_view vs)) ≡ value_size (value_view (get_or vs 0 d)) + values_size (values_of (map value_view (drop 1 vs)))
first_size [] d lt = absurd (omega arith)
first_size (v ∷ vs) d lt = refl

pub first_put : (vs : List Value) (v : Value) (ls : List (Bor (List Value))) (l : Bor (List Value)) → 0 < length vs → v ≡ get_or vs 0 v → l.now ≡ take (length vs - 1) (drop 1 vs) → (is_constant (value_view v) && all_constant (ls ++ l ∷ [])) ≡ (are_constants (values_of (map value_view vs)) && all_constant ls)
first_put vs v ls l lt is rest =
    ap (λ (b : Bool). is_constant (value_view v) && b) (all_constant_push ls l)
    ∙ joined (is_constant (value_view v)) (are_constants (values_of (map value_view l.now))) (all_constant ls)
    ∙ ap (λ (b : Bool). b && all_constant ls)
    (ap (λ (x : List Value). is_constant (value_view v) && are_constants (values_of (map value_view x))) (rest ∙ others vs)
    ∙ ap (λ (x : Value). is_constant (value_view x) && are_constants (values_of (map value_view (drop 1 vs)))) is
    ∙ sym (first_constant vs v lt))
  where
    joined : (a b c : Bool) → (a && (b && c)) ≡ ((a && b) && c)
    joined true b c = refl
    joined false b c = refl

pub first_less : (vs : List Value) (v : Value) (ls : List (Bor (List Value))) (l : Bor (List Value)) → 0 < length vs → v ≡ get_or vs 0 v → l.now ≡ take (length vs - 1) (drop 1 vs) → value_size (value_view v) + work (ls ++ l ∷ []) ≡ 1 + (values_size (values_of (map value_view vs)) + work ls)
first_less vs v ls l lt is rest =
    let size = first_size vs v lt in
    let first = ap (λ (x : Value). value_size (value_view x)) is in
    let back = ap (λ (x : List Value). values_size (values_of (map value_view x))) (rest ∙ others vs) in
    omega (arith, size, first, back, work_push ls l)

pub some_left : (vs : List Value) (b : Bool) → b ≡ nat_eq (length vs) 0 → b ≡ false → 0 < length vs
some_left [] b e f = absurd (let no : true ≡ false = sym e ∙ f in cc)
some_left (v ∷ vs) b e f = omega arith

pub less_on : (result : Result Bool AllocError) (new before after : ℕ) → before ≡ 1 + after → IfOk result (λ fits. fits ≡ true → new + 1 ≤ before) → IfOk result (λ fits. fits ≡ true → new ≤ after)
less_on (Ok fits) new before after e h = λ yes. let at : new + 1 ≤ before = h yes in omega (arith, e)
less_on (Err fault) new before after e h = tt

pub no_fit : (fits b d : Bool) → fits ≡ false → (fits && b) ≡ d → false ≡ d
no_fit true b d e h = absurd (cc)
no_fit false b d e h = h

pub fit : (fits b d : Bool) → fits ≡ true → (fits && b) ≡ d → b ≡ d
fit true b d e h = h
fit false b d e h = absurd (cc)

-- ---- declarations

three_parts : (ps : List Part) (d : Part) → length ps ≡ 3 → declared_query (parts_of (map part_view ps)) ≡ query_in (part_view (get_or ps 2 d))
three_parts [] d e = absurd (omega arith)
three_parts (a ∷ []) d e = absurd (omega arith)
three_parts (a ∷ b ∷ []) d e = absurd (omega arith)
three_parts (a ∷ b ∷ c ∷ []) d e = refl
three_parts (a ∷ b ∷ c ∷ x ∷ ps) d e = absurd (omega arith)

pub not_three : (ps : List Part) → (length ps ≡ 3 → ⊥) → None ≡ declared_query (parts_of (map part_view ps))
not_three [] e = refl
not_three (a ∷ []) e = refl
not_three (a ∷ b ∷ []) e = refl
not_three (a ∷ b ∷ c ∷ []) e = absurd (e refl)
not_three (a ∷ b ∷ c ∷ x ∷ ps) e = refl

-- what is declared stands last
pub declared_last : (ps : List Part) (p : Part) → is_some (declared_query (parts_of (map part_view (ps ++ p ∷ [])))) ≡ true → declared_query (parts_of (map part_view (ps ++ p ∷ []))) ≡ query_in (part_view p)
declared_last [] p e = absurd (cc)
declared_last (a ∷ []) p e = absurd (cc)
declared_last (a ∷ b ∷ []) p e = refl
declared_last (a ∷ b ∷ c ∷ []) p e = absurd (cc)
declared_last (a ∷ b ∷ c ∷ x ∷ ps) p e = absurd (cc)

pub declared_some : (ps : List Part) (last : List Part) (p : Part) → ps ≡ last ++ p ∷ [] → is_some (declared_query (parts_of (map part_view ps))) ≡ true → declared_query (parts_of (map part_view ps)) ≡ query_in (part_view p)
declared_some ps last p e some = ap (λ (l : List Part). declared_query (parts_of (map part_view l))) e ∙ declared_last last p (subst (λ (l : List Part). is_some (declared_query (parts_of (map part_view l))) ≡ true) e some)

pub some_declared : (ps l : List Part) (o : Option (Bor Head)) (none : Bool) → l ≡ ps → option_map (λ (h : Bor Head). head_view h.now) o ≡ declared_query (parts_of (map part_view l)) → is_some o ≡ not none → none ≡ false → is_some (declared_query (parts_of (map part_view ps))) ≡ true
some_declared ps l o none same e some isnt =
    ap (λ (x : List Part). is_some (declared_query (parts_of (map part_view x)))) (sym same) ∙ ap is_some (sym e) ∙ mapped o ∙ some ∙ ap not isnt
  where
    mapped : (x : Option (Bor Head)) → is_some (option_map (λ (h : Bor Head). head_view h.now) x) ≡ is_some x
    mapped None = refl
    mapped (Some h) = refl

pub none_declared : (o q : Option Parts) → o ≡ q → None ≡ q → is_some o ≡ true → ⊥
none_declared o q e n some = let no : is_some o ≡ false = ap is_some (e ∙ sym n) in let clash : true ≡ false = sym some ∙ no in cc
