-- The routine that prints a value does so.
use Rattle.std.proofs.Common.{◌≡◌, ℕ, zero, suc, ◌+◌, ◌<◌, ◌≤◌, List, [], ◌∷◌, length, refl, sym, ap, ◌∙◌, subst, arith}
use Rattle.dg_base.specs.declared.program.CoreProgram.{CoreProgram}
use Rattle.dg_meaning.specs.Values.{Label, Num, Word, Unknown, Object, Nil, Pair, Closure, Value, Var, Node, Values, NoMore, More, pair}
use Rattle.dg_meaning.specs.Substitutions.{walk, resolved, contains}
use Rattle.dg_meaning.specs.Unify.{size}
use Rattle.dg_rt.specs.Shapes.{Shows, number, dict, object, nil, boxed, pair_in, closure_in, word_in}
use Rattle.dg_rt.specs.Prints.{Spells, PrintWorks}
use Rattle.dg_rt.specs.inside.Depth.{Below, on_top, under}
use Rattle.dg_rt.proofs.Depth.{below_smaller, below_walk, parts_smaller, levels}
use Rattle.dg_rt.proofs.FullSteps.{LookingThrough, Absent, AllAbsent, first_absent, others_absent, resolved_walked, resolved_as}
use Rattle.dg_rt.proofs.ListKind.{list_kind}
use Rattle.dg_rt.proofs.Points.{Point, behind}
use Rattle.dg_rt.proofs.PrintSteps.{g, Whole, Tail, Rest, RestAt, nil_rest, pair_rest, whole_leaf, tail_other, whole_list, tail_list}

-- A value that was looked up is a list or none.
by_list : {A : Type 0} (w : Value) → (list_kind w ≡ 0 → A) → ((lab : Label) (vs : Values) → w ≡ Node lab vs → 1 ≤ list_kind (Node lab vs) → A) → A
by_list (Var z) other list = other refl
by_list (Node (Num n) vs) other list = other refl
by_list (Node (Word n) vs) other list = other refl
by_list (Node (Unknown xs) vs) other list = other refl
by_list (Node (Object n) vs) other list = other refl
by_list (Node Nil vs) other list = list Nil vs refl (omega arith)
by_list (Node Pair vs) other list = list Pair vs refl (omega arith)
by_list (Node (Closure c) vs) other list = other refl

module _ (io : LookingThrough) (story : List ℕ) (program : CoreProgram) (words objects : ℕ) (sp : Spells io.p story program words objects) where
  open io use {p, has, sh, is, S, st, n}

  abbrev pt : Type 0
  pt = Point (g io story program words objects sp)

  -- runs for heads, and for tails
  abbrev Heads : ℕ → Value → Type 0
  Heads f w = (q : pt) (x : ℕ) (a : Value) (ks : List ℕ) → Shows sh x a → Below sh S ks a → 3360 ≤ f + length ks → size (resolved S a) < size (resolved S w) → (Absent io) a → Whole io story program words objects sp f q x a

  abbrev Tails : ℕ → List ℕ → Value → Type 0
  Tails f ks w = (q : pt) (y b : ℕ) (a : Value) → Shows sh y a → Below sh S ks a → size (resolved S a) < size (resolved S w) → (Absent io) a → Tail io story program words objects sp f q y b a

  -- the rest of a list that was looked up
  rest : {u : ℕ} (f : ℕ) (q : pt) (lab : Label) (vs : Values) (ks : List ℕ) → Shows sh u (Node lab vs) → Below sh S ks (Node lab vs) → 3360 ≤ suc f + length ks → 24 ≤ f → (AllAbsent io) vs → 1 ≤ list_kind (Node lab vs) → Heads f (Node lab vs) → Tails (suc f) ks (Node lab vs) → Rest io story program words objects sp (suc f) q u lab vs
  rest f q lab vs ks (number m lt) below few enough absent some heads tails = absurd (omega (arith, some))
  rest f q lab vs ks (dict m lt) below few enough absent some heads tails = absurd (omega (arith, some))
  rest f q lab vs ks (object m lt) below few enough absent some heads tails = absurd (omega (arith, some))
  rest f q lab vs ks nil below few enough absent some heads tails = nil_rest io story program words objects sp (suc f) (omega arith) q 28672 vs
  rest f q lab vs ks (boxed k header lt box cell (pair_in {h = v} {t = t} _ x y one two sv su)) below few enough absent some heads tails =
      let less' = parts_smaller S Pair (More v (More t NoMore)) in
      let absent_v = (first_absent io) v (More t NoMore) absent in
      let absent_t = (first_absent io) t NoMore ((others_absent io) v (More t NoMore) absent) in
      let head = heads q x v (k ∷ ks) sv (under ks v k (pair v t) lt box less'.0 below) (omega arith) (less'.0 []) absent_v in
      pair_rest io story program words objects sp f q k x y v t lt one two absent head
      (tails (behind (g io story program words objects sp) q head) y x t su (below_smaller t less'.1.0 below) (less'.1.0 []) absent_t)
  rest f q lab vs ks (boxed k header lt box cell (closure_in _ place small told few' count all)) below few enough absent some heads tails = absurd (omega (arith, some))
  rest f q lab vs ks (boxed k header lt box cell (word_in _ fine all)) below few enough absent some heads tails = absurd (omega (arith, some))

  -- the rest of a list to which a value was walked
  rest_of : (f : ℕ) (v : Value) (lab : Label) (vs : Values) (ks : List ℕ) → walk S v ≡ Node lab vs → Below sh S ks v → 3360 ≤ suc f + length ks → 24 ≤ f → (Absent io) v → 1 ≤ list_kind (Node lab vs) → Heads f v → Tails (suc f) ks v → RestAt io story program words objects sp (suc f) lab vs
  rest_of f v lab vs ks e below few enough absent some heads tails q u s =
      let whole : Below sh S ks (Node lab vs) = subst (Below sh S ks) e (below_walk S st.sound below) in
      let same : size (resolved S v) ≡ size (resolved S (Node lab vs)) = ap size ((resolved_walked io) v (Node lab vs) e) in
      let is_it = ap (contains n) ((resolved_as io) v lab vs e) in
      let absent' : (AllAbsent io) vs = sym is_it ∙ absent in
      rest f q lab vs ks s whole few enough absent' some (λ q' x a ks' sa ba few' less' free'. heads q' x a ks' sa ba few' (omega arith) free') (λ q' z b a sa ba less' free'. tails q' z b a sa ba (omega arith) free')

  whole : (f : ℕ) (q : pt) (x : ℕ) (v : Value) (ks : List ℕ) → Shows sh x v → Below sh S ks v → 3360 ≤ suc f + length ks → 24 ≤ f → (Absent io) v → Heads f v → Tails (suc f) ks v → Whole io story program words objects sp (suc f) q x v
  whole f q x v ks s below few enough absent heads tails =
      by_list (walk S v) (λ none. whole_leaf io story program words objects sp f enough q x v s none)
      (λ lab vs e some. whole_list io story program words objects sp (suc f) (omega arith) q x v lab vs s e some (rest_of f v lab vs ks e below few enough absent some heads tails))

  tail : (f : ℕ) (q : pt) (y b : ℕ) (v : Value) (ks : List ℕ) → Shows sh y v → Below sh S ks v → 3360 ≤ suc f + length ks → 24 ≤ f → (Absent io) v → Heads f v → Tails (suc f) ks v → Tail io story program words objects sp (suc f) q y b v
  tail f q y b v ks s below few enough absent heads tails =
      by_list (walk S v) (λ none. tail_other io story program words objects sp f enough q y b v s none)
      (λ lab vs e some. tail_list io story program words objects sp (suc f) (omega arith) q y b v lab vs s e some (rest_of f v lab vs ks e below few enough absent some heads tails))

  -- Values of so few nodes are printed, and tails.
  record All (most : ℕ) : Type 0 where
    wholes : (f : ℕ) (q : pt) (x : ℕ) (v : Value) (ks : List ℕ) → Shows sh x v → Below sh S ks v → 3360 ≤ f + length ks → size (resolved S v) < most → (Absent io) v → Whole io story program words objects sp f q x v
    tails : (f : ℕ) (q : pt) (y b : ℕ) (v : Value) (ks : List ℕ) → Shows sh y v → Below sh S ks v → 3360 ≤ f + length ks → size (resolved S v) < most → (Absent io) v → Tail io story program words objects sp f q y b v

  -- The frames of the deepest level are enough for a piece.
  next_wholes : (most : ℕ) → All most → (f : ℕ) (q : pt) (x : ℕ) (v : Value) (ks : List ℕ) → Shows sh x v → Below sh S ks v → 3360 ≤ f + length ks → size (resolved S v) < suc most → (Absent io) v → Whole io story program words objects sp f q x v
  next_wholes most all zero q x v ks s below few lt absent = let l = levels is S below in absurd (omega arith)
  next_wholes most all (suc f) q x v ks s below few lt absent =
      let deep = levels is S below in
      whole f q x v ks s below few (omega arith) absent
      (λ q' x' a ks' sa ba few' less' free'. all.wholes f q' x' a ks' sa ba few' (omega arith) free')
      (λ q' y b a sa ba less' free'. all.tails (suc f) q' y b a ks sa ba few (omega arith) free')

  next_tails : (most : ℕ) → All most → (f : ℕ) (q : pt) (y b : ℕ) (v : Value) (ks : List ℕ) → Shows sh y v → Below sh S ks v → 3360 ≤ f + length ks → size (resolved S v) < suc most → (Absent io) v → Tail io story program words objects sp f q y b v
  next_tails most all zero q y b v ks s below few lt absent = let l = levels is S below in absurd (omega arith)
  next_tails most all (suc f) q y b v ks s below few lt absent =
      let deep = levels is S below in
      tail f q y b v ks s below few (omega arith) absent
      (λ q' x' a ks' sa ba few' less' free'. all.wholes f q' x' a ks' sa ba few' (omega arith) free')
      (λ q' y' b' a sa ba less' free'. all.tails (suc f) q' y' b' a ks sa ba few (omega arith) free')

  all_printed : (most : ℕ) → All most
  all_printed zero = record {
    wholes = λ f q x v ks s below few lt absent. absurd (omega (arith, lt));
    tails = λ f q y b v ks s below few lt absent. absurd (omega (arith, lt));
  }
  all_printed (suc most) = let all = all_printed most in record { wholes = next_wholes most all; tails = next_tails most all }

pub print_works : PrintWorks
print_works p has story program words objects sp memory typed output drawn sh is cells h kept S st x v s n absent m meets =
    let io : LookingThrough = record { p = p; has = has; sh = sh; is = is; memory = memory; typed = typed; output = output; drawn = drawn; cells = cells; h = h; S = S; st = st; n = n } in
    let q : Point (g io story program words objects sp) = record { memory = memory; cells = cells; holds = h; kept = kept; stands = st; met = m; meets = meets; output = output } in
    (all_printed io story program words objects sp (suc (size (resolved S v)))).wholes 3360 q x v [] s (on_top v) (omega arith) (omega arith) absent
