-- What queries of objects cost is paid for.
use Rattle.std.proofs.Common.{◌≡◌, ℕ, zero, suc, ◌+◌, ◌≤◌, Bool, true, List, [], ◌∷◌, length, map, Option, Some, None, refl, ap, arith}
use Rattle.std.specs.List.{slice_get}
use Rattle.dg_base.specs.declared.program.PlaceKind.{PlaceKind}
use Rattle.dg_base.specs.declared.program.PlaceKind.TheVariants.{Flag, ObjectFlag, ObjectVar, Parent, Global}
use Rattle.dg_base.specs.declared.program.Term.{Term}
use Rattle.dg_meaning.specs.Cells.{nodes_of, cells as cells_of}
use Rattle.dg_meaning.specs.Changes.{found}
use Rattle.dg_meaning.specs.Copies.{copy_from}
use Rattle.dg_meaning.specs.Facts.{kinds_of}
use Rattle.dg_meaning.specs.Letters.{compared, compared_in}
use Rattle.dg_meaning.specs.Moves.{unifying, looked_up, reads_if_set, ask_object, finds_if_set, begun}
use Rattle.dg_meaning.specs.Path.{Registers}
use Rattle.dg_meaning.specs.Substitutions.{Substitution, walk}
use Rattle.dg_meaning.specs.Unify.{Unified}
use Rattle.dg_meaning.proofs.UnifyLaws.{solve_nothing}
use Rattle.dg_meaning.specs.Values.{Num, Word, Unknown, Object, Nil, Pair, Closure, Value, Var, Node, leaf}
use Rattle.dg_meaning.specs.World.{Print, World, worked}
use Rattle.dg_mid.specs.declared.code.Op.{Op}
use Rattle.dg_mid.specs.declared.code.Op.TheVariants as op
use Rattle.dg_mid.specs.Actions.{registers_of, world_of, asked_at}
use Rattle.dg_mid.specs.State.{Find, Tries, Mid, Runs, Resumes}
use Rattle.dg_mid.specs.Step.{Setting, more, trying}
use Rattle.dg_mid.specs.Units.{units_of, act_work, effect_work}
use Rattle.dg_rt.specs.Changes.{SetIn, set_of}
use Rattle.dg_rt.specs.Unifies.{price}
use Rattle.dg_turn.specs.Terms.{AreNodes}
use Rattle.dg_turn.specs.Tries.{Sought, sought_by, sought_at}
use Rattle.dg_turn.specs.Operating.{term_value}
use Rattle.dg_turn.specs.Paid.{paid}
use Rattle.dg_turn.specs.World.{HasValues, value_equation}
use Rattle.dg_turn.specs.Seeking.{first_walked, find_most, tried_in, try_equations, try_most, TriesArePaid}
use Rattle.dg_turn.proofs.Paid.{all_few}
use Rattle.dg_turn.proofs.PaidWorld.{answer_work, pays, asked_so}

-- ## Queries

module _ (g : Setting) (ps : List Print) (m : Mid) (a : Term) (others : List Term) where
  abbrev now : Mid
  now = more (cells_of g.game.program (a ∷ others)) m

  abbrev first : Value
  first = term_value g.game.program m a

  abbrev given : List Value
  given = map (term_value g.game.program m) others

  abbrev looked : World
  looked = worked (looked_up (registers_of now) first) (world_of ps now)

  read_work : (us : List Value) (r : Registers) (s : Option Value) (w : World) → w.meters.work ≤ act_work (reads_if_set us r s w)
  read_work us r None w = omega arith
  read_work [] r (Some v) w = omega arith
  read_work (c ∷ us) r (Some v) w = omega arith

  object_work : (place : Option ℕ) (u v : Value) (us : List Value) (r : Registers) (w : World) → w.meters.work ≤ effect_work (ask_object g.game place u v us true [] r w)
  object_work place (Var x) v us r w = omega arith
  object_work place (Node (Num i) vs) v us r w = omega arith
  object_work place (Node (Word i) vs) v us r w = omega arith
  object_work place (Node (Unknown spelling) vs) v us r w = omega arith
  object_work place (Node (Object o) vs) v us r w = read_work us r (found w.facts place o) w
  object_work place (Node Nil vs) v us r w = omega arith
  object_work place (Node Pair vs) v us r w = omega arith
  object_work place (Node (Closure c) vs) v us r w = omega arith

  -- what a query of objects comes to, where its place speaks of them
  abbrev Asked : Option ℕ → Type 0
  Asked place = effect_work (asked_at g.game ps place (first ∷ given) now) ≡ effect_work (ask_object g.game place (walk m.state.subst first) first given true [] (registers_of now) looked)

  by_kind : (s : Sought) (q : ℕ) (k : Option PlaceKind) → slice_get (kinds_of g.game.program) q ≡ k → sought_by q k ≡ Some s → Asked (Some q)
  by_kind s q None is e = absurd (cc)
  by_kind s q (Some Flag) is e = absurd (cc)
  by_kind s q (Some ObjectFlag) is e = rw is refl
  by_kind s q (Some ObjectVar) is e = rw is refl
  by_kind s q (Some Parent) is e = rw is refl
  by_kind s q (Some Global) is e = absurd (cc)

  asked_is : (s : Sought) (place : Option ℕ) → sought_at g.game.program place ≡ Some s → Asked place
  asked_is s None e = refl
  asked_is s (Some q) e = by_kind s q (slice_get (kinds_of g.game.program) q) refl e

  find_paid : (s : Sought) (place : Option ℕ) (many : Bool) (next : ℕ) (ops : List Op) → m.ops ≡ op.Find place (a ∷ others) many next ∷ ops → sought_at g.game.program place ≡ Some s → AreNodes g.game.program (nodes_of (a ∷ others)) → find_most g.game.program a others m ≤ paid g ps (Runs m)
  find_paid s place many next ops e is nodes =
      let k = ap (λ (l : List Op). units_of g ps l m) e in
      let few = all_few g.game.program (nodes_of (a ∷ others)) nodes in
      let q = asked_is s place is in
      let w = object_work place (walk m.state.subst first) first given (registers_of now) looked in
      omega arith

answer_paid : (g : Setting) (ps : List Print) (m : Mid) (place : ℕ) (a c : Term) (many : Bool) (next : ℕ) (ops : List Op) (word : ℕ) (v : Value) → m.ops ≡ op.Find (Some place) (a ∷ c ∷ []) many next ∷ ops → (kind : PlaceKind) → slice_get (kinds_of g.game.program) place ≡ Some kind → HasValues kind → AreNodes g.game.program (nodes_of (a ∷ c ∷ [])) → set_of m.lasting.facts place (first_walked g.game.program a m) ≡ Some v → SetIn word (Some v) →
    find_most g.game.program a (c ∷ []) m + price m.state.subst (value_equation g.game.program c v m) ≤ paid g ps (Runs m)
answer_paid g ps m place a c many next ops word v e kind is has nodes there stands =
    let few = all_few g.game.program (nodes_of (a ∷ c ∷ [])) nodes in
    let now' = more (cells_of g.game.program (a ∷ c ∷ [])) m in
    let va = term_value g.game.program m a in
    let vc = term_value g.game.program m c in
    let w = answer_work g ps m place word v stands (walk m.state.subst va) va vc (registers_of now') (worked (looked_up (registers_of now') va) (world_of ps now')) there in
    pays g ps m place a (c ∷ []) many next ops e (find_most g.game.program a (c ∷ []) m + price m.state.subst (value_equation g.game.program c v m)) (asked_so g ps m place kind a c many next ops e is has nodes) (omega arith)

-- ## Objects that are tried

no_letters : (n : ℕ) (S : Substitution) → compared_in n S [] ≡ 0
no_letters zero S = refl
no_letters (suc n) S = refl

none_compared : (S : Substitution) → compared S [] ≡ 0
unfolding compared
none_compared S = no_letters _ S

module _ (g : Setting) (ps : List Print) (m : Mid) (f : Find) (o : ℕ) where
  facts_same : (os : List ℕ) (set : Option Value) → found m.lasting.facts f.place o ≡ set → found (trying g f os m).lasting.facts f.place o ≡ set
  facts_same [] set e = e
  facts_same (q ∷ qs) set e = e

  subst_same : (os : List ℕ) → (trying g f os m).state.subst ≡ m.state.subst
  subst_same [] = refl
  subst_same (q ∷ qs) = refl

  inside_same : (os : List ℕ) → (tried_in f os m).state.subst ≡ m.state.subst
  inside_same [] = refl
  inside_same (q ∷ qs) = refl

  finds_work : (xs : List Value) (v : Value) (r : Registers) (w : World) → (2 ≤ length xs → (i : ℕ) → copy_from i v ≡ v) → w.meters.work + unifying r.bound (try_equations xs o v) ≤ act_work (finds_if_set xs o r (Some v) w)
  finds_work [] v r w same = let n = none_compared r.bound in let q = ap (λ (u : Unified). u.count) (solve_nothing r.bound) in omega arith
  finds_work (a ∷ []) v r w same = omega arith
  finds_work (a ∷ b ∷ xs) v r w same = let e = same (omega arith) r.next_var in let q = ap (λ (x : Value). unifying r.bound ((a, leaf (Object o)) ∷ (b, x) ∷ [])) e in omega arith

  tries_paid : (os : List ℕ) (v : Value) → found m.lasting.facts f.place o ≡ Some v → (2 ≤ length f.args → (i : ℕ) → copy_from i v ≡ v) → try_most f o v (tried_in f os m) ≤ paid g ps (Resumes (Tries f (o ∷ os)) m)
  tries_paid os v there same =
      let M = trying g f os m in
      let w = begun (registers_of M) 1 (world_of ps M) in
      let a = finds_work f.args v (registers_of M) w same in
      let b = ap (λ (s : Option Value). act_work (finds_if_set f.args o (registers_of M) s w)) (facts_same os (Some v) there) in
      let c = ap (λ (S : Substitution). unifying S (try_equations f.args o v)) (subst_same os) in
      let d = ap (λ (S : Substitution). price S (try_equations f.args o v)) (inside_same os) in
      omega arith

pub tries_are_paid : TriesArePaid
tries_are_paid = record {
  find = λ g ps m place s a others many next ops e is nodes. find_paid g ps m a others s place many next ops e is nodes;
  answer = λ g ps m place a c many next ops word v e valued nodes there stands. answer_paid g ps m place a c many next ops word v e valued.kind valued.is valued.has nodes there stands;
  tries = λ g ps m f o os v there same. tries_paid g ps m f o os v there same;
  fails = λ g ps m f o os. omega arith;
}
