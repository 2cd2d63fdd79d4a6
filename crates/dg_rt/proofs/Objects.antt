-- What a value is as an object, and what it is as a value of one.
use Rattle.std.proofs.Common.{◌≡◌, ℕ, ◌+◌, ◌<◌, ◌≤◌, true, false, List, ◌∷◌, None, refl, sym, ap, ◌∙◌, arith}
use Rattle.dg_base.specs.declared.program.PlaceKind.{PlaceKind}
use Rattle.dg_base.specs.declared.program.PlaceKind.TheVariants.{ObjectVar, Parent}
use Rattle.dg_meaning.specs.Values.{Label, Num, Word, Unknown, Object, Nil, Pair, Closure, Value, Var, Node, Values, NoMore}
use Rattle.dg_meaning.specs.Substitutions.{Substitution, walk, resolved}
use Rattle.dg_meaning.specs.inside.Substitutions.{IsSubstitution, all_resolved}
use Rattle.dg_meaning.specs.Facts.{Fact, is_simple, is_object, takes}
use Rattle.dg_meaning.specs.Changes.{object_change}
use Rattle.dg_meaning.proofs.Walks.{resolved_unbound, resolved_node, walked}
use Rattle.dg_rt.specs.Shapes.{Shape, Shows, number, dict, object, nil, variable, boxed, pair_in, closure_in, word_in}
use Rattle.dg_rt.specs.Operands.{no_value, object_word, simple_word}
use Rattle.dg_rt.specs.Changes.{set_of}

-- ## Resolved values

pub resolved_to : (S : Substitution) → IsSubstitution S → (v : Value) (f : Label) (parts : Values) → walk S v ≡ Node f parts → resolved S v ≡ Node f (all_resolved S parts)
resolved_to S s v f parts e = sym (walked S s v).same ∙ ap (resolved S) e ∙ resolved_node S f parts

pub resolved_free : (S : Substitution) → IsSubstitution S → (v : Value) (x : ℕ) → walk S v ≡ Var x → resolved S v ≡ Var x
resolved_free S s v x e = sym (walked S s v).same ∙ ap (resolved S) e ∙ resolved_unbound S x ((walked S s v).free x e)

-- ## Objects

-- What is no object.
abbrev pub NoObject : Label → Type 0
NoObject (Object n) = ⊥
NoObject f = Unit {0}

-- What is told of a value that was looked up, where there are so many objects: an object that is there, one that isn't, an unbound variable, or
-- something else; and what it is resolved.
pub data Told (n : ℕ) : Value → Value → ℕ → Type 0 where
  is_there : (o : ℕ) (parts others : Values) → o < n → Told n (Node (Object o) parts) (Node (Object o) others) o
  is_past : (o : ℕ) (parts others : Values) → n ≤ o → Told n (Node (Object o) parts) (Node (Object o) others) no_value
  is_free : (x : ℕ) → Told n (Var x) (Var x) no_value
  is_other : (f : Label) (parts others : Values) → NoObject f → Told n (Node f parts) (Node f others) no_value

pub told_other : (n : ℕ) (S : Substitution) → IsSubstitution S → (v : Value) (f : Label) (parts : Values) → NoObject f → walk S v ≡ Node f parts → Told n (walk S v) (resolved S v) no_value
told_other n S s v f parts none e = rw (e, resolved_to S s v f parts e) (is_other f parts (all_resolved S parts) none)

-- Nothing is changed of what is no object.
module _ (n : ℕ) (kind : PlaceKind) (place : ℕ) (values : List Value) where
  pub set_other : (f : Label) (parts : Values) → NoObject f → object_change n kind place true (Node f parts ∷ values) ≡ None
  set_other (Num k) parts none = refl
  set_other (Word k) parts none = refl
  set_other (Unknown spelling) parts none = refl
  set_other (Object k) parts none = absurd none
  set_other Nil parts none = refl
  set_other Pair parts none = refl
  set_other (Closure k) parts none = refl

  pub clear_other : (f : Label) (parts : Values) → NoObject f → object_change n kind place false (Node f parts ∷ values) ≡ None
  clear_other (Num k) parts none = refl
  clear_other (Word k) parts none = refl
  clear_other (Unknown spelling) parts none = refl
  clear_other (Object k) parts none = absurd none
  clear_other Nil parts none = refl
  clear_other Pair parts none = refl
  clear_other (Closure k) parts none = refl

pub nothing_other : (facts : List Fact) (place : ℕ) (f : Label) (parts : Values) → NoObject f → set_of facts place (Node f parts) ≡ None
nothing_other facts place (Num k) parts none = refl
nothing_other facts place (Word k) parts none = refl
nothing_other facts place (Unknown spelling) parts none = refl
nothing_other facts place (Object k) parts none = absurd none
nothing_other facts place Nil parts none = refl
nothing_other facts place Pair parts none = refl
nothing_other facts place (Closure k) parts none = refl

-- ## Values of an object

-- What is told of a value: a word that stands for it in every heap, where it is a simple value; or no value.
pub data Valued : Value → ℕ → Type 0 where
  is_value : {v : Value} (x : ℕ) → x < 32768 → takes ObjectVar v ≡ true → ((sh : Shape) → Shows sh x v) → Valued v x
  is_none : {v : Value} → takes ObjectVar v ≡ false → Valued v no_value

-- The number of an object; or no value.
pub data Parented : Value → ℕ → Type 0 where
  is_parent : {v : Value} (o : ℕ) → o < 4096 → takes Parent v ≡ true → ((sh : Shape) → Shows sh (24576 + o) v) → Parented v o
  no_parent : {v : Value} → takes Parent v ≡ false → Parented v no_value

module _ (sh : Shape) (S : Substitution) (s : IsSubstitution S) (v : Value) where
  simply : (f : Label) (x : ℕ) → x < 32768 → is_simple (Node f NoMore) ≡ true → ((sh' : Shape) → Shows sh' x (Node f NoMore)) → walk S v ≡ Node f NoMore → Valued (resolved S v) x
  simply f x lt simple shows e = rw (resolved_to S s v f NoMore e) (is_value x lt simple shows)

  not_simply : (f : Label) (parts : Values) → is_simple (Node f (all_resolved S parts)) ≡ false → walk S v ≡ Node f parts → Valued (resolved S v) no_value
  not_simply f parts none e = rw (resolved_to S s v f parts e) (is_none none)

  simple_by : (w : ℕ) (u : Value) → Shows sh w u → walk S v ≡ u → Valued (resolved S v) (simple_word u)
  simple_by w u (number n lt) e = simply (Num n) n (omega arith) refl (λ sh'. number n lt) e
  simple_by w u (dict n lt) e = simply (Word n) (16384 + n) (omega arith) refl (λ sh'. dict n lt) e
  simple_by w u (object n lt) e = simply (Object n) (24576 + n) (omega arith) refl (λ sh'. object n lt) e
  simple_by w u nil e = simply Nil 28672 (omega arith) refl (λ sh'. nil) e
  simple_by w u (variable n lt) e = rw (resolved_free S s v n e) (is_none refl)
  simple_by w u (boxed k header lt box cell (pair_in _ a b one two head tail)) e = not_simply Pair _ refl e
  simple_by w u (boxed k header lt box cell (closure_in _ place small told few count all)) e = not_simply (Closure place) _ refl e
  simple_by w u (boxed k header lt box cell (word_in _ all printed)) e = not_simply (Unknown _) _ refl e

  pub simple_told : (w : ℕ) → Shows sh w (walk S v) → Valued (resolved S v) (simple_word (walk S v))
  simple_told w shows = simple_by w (walk S v) shows refl

  parented : (o : ℕ) → o < 4096 → walk S v ≡ Node (Object o) NoMore → Parented (resolved S v) o
  parented o lt e = rw (resolved_to S s v (Object o) NoMore e) (is_parent o lt refl (λ sh'. object o lt))

  not_parented : (f : Label) (parts : Values) → is_object (Node f (all_resolved S parts)) ≡ false → walk S v ≡ Node f parts → Parented (resolved S v) no_value
  not_parented f parts none e = rw (resolved_to S s v f parts e) (no_parent none)

  parent_by : (w : ℕ) (u : Value) → Shows sh w u → walk S v ≡ u → Parented (resolved S v) (object_word u)
  parent_by w u (number n lt) e = not_parented (Num n) NoMore refl e
  parent_by w u (dict n lt) e = not_parented (Word n) NoMore refl e
  parent_by w u (object n lt) e = parented n lt e
  parent_by w u nil e = not_parented Nil NoMore refl e
  parent_by w u (variable n lt) e = rw (resolved_free S s v n e) (no_parent refl)
  parent_by w u (boxed k header lt box cell (pair_in _ a b one two head tail)) e = not_parented Pair _ refl e
  parent_by w u (boxed k header lt box cell (closure_in _ place small told few count all)) e = not_parented (Closure place) _ refl e
  parent_by w u (boxed k header lt box cell (word_in _ all printed)) e = not_parented (Unknown _) _ refl e

  pub parent_told : (w : ℕ) → Shows sh w (walk S v) → Parented (resolved S v) (object_word (walk S v))
  parent_told w shows = parent_by w (walk S v) shows refl
