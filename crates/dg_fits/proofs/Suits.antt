-- Code of a program that isn't refused fits.
use Rattle.std.specs.Prelude.{nat_lt, replicate, ◌&&◌}
use Rattle.std.proofs.lemmas.List.{length-replicate}
use Rattle.std.proofs.Common.{◌≡◌, ℕ, zero, suc, ◌+◌, ◌*◌, ◌<◌, ◌≤◌, inl, inr, List, [], ◌∷◌, ◌++◌, length, map, Option, Some, None, Bool, true, false, refl, sym, ◌∙◌, ap, subst, arith, length-append}
use Rattle.std.specs.List.{All, slice_get}
use Rattle.std.proofs.Math.Dec.{eqb}
use Rattle.std.proofs.lemmas.Bool.{ltb-true, lt-ltb, eqb-true, eq-eqb, and_parts}
use Rattle.std.proofs.lemmas.Option.{slice_get_within}
use Rattle.std.proofs.lemmas.List.Elements.{All-nil, All-head, All-tail}
use Rattle.std.proofs.lemmas.List.Sums.{sum_by-cons}
use Rattle.dg_base.specs.declared.program.ClosureBody.{ClosureBody}
use Rattle.dg_base.specs.declared.program.CoreProgram.{CoreProgram}
use Rattle.dg_base.specs.declared.program.Goal.{Goal, out-Goal}
use Rattle.dg_base.specs.declared.program.Goal.TheOpen as form
use Rattle.dg_base.specs.declared.program.Place.{Place}
use Rattle.dg_base.specs.declared.program.PlaceKind.{PlaceKind}
use Rattle.dg_base.specs.declared.program.PlaceKind.TheVariants.{Flag, ObjectFlag, ObjectVar, Parent, Global}
use Rattle.dg_base.specs.declared.program.Pred.{Pred}
use Rattle.dg_base.specs.declared.program.Rule.{Rule}
use Rattle.dg_base.specs.declared.program.Term.{Term, out-Term}
use Rattle.dg_base.specs.declared.program.Term.TheOpen as term
use Rattle.dg_base.specs.Goals.{all_goals_of, terms_held, option_terms}
use Rattle.dg_base.specs.Sound.{IsSound, FitsProgram, IsNodeOf, IsTermOf, IsGoalOf, IsRuleOf, IsClosureOf, IsPredOf, FirstIsParent, FitsPlace, terms_of_kind, Captures, closure_vars}
use Rattle.dg_base.specs.Terms.{nodes}
use Rattle.dg_meaning.specs.Cells.{nodes_of, captured_count}
use Rattle.dg_meaning.specs.Facts.{kinds_of}
use Rattle.dg_meaning.specs.Few.{HeadsAreFew, AllHoldFew, HoldsFew}
use Rattle.dg_meaning.specs.Moves.{rules_of}
use Rattle.dg_meaning.specs.Selection.{label_at}
use Rattle.dg_meaning.specs.Values.{Label}
use Rattle.dg_mid.specs.declared.code.Action.TheVariants as action
use Rattle.dg_mid.specs.declared.code.Op.{Op}
use Rattle.dg_mid.specs.declared.code.Op.TheVariants as op
use Rattle.dg_mid.specs.declared.code.Block.{Block}
use Rattle.dg_mid.specs.declared.code.RuleCode.{RuleCode}
use Rattle.dg_mid.specs.declared.code.Code.{Code}
use Rattle.dg_mid.specs.Code.{ops_of, block_at, codes_of, rules_at, label_of, first_label}
use Rattle.dg_mid.specs.Codes.{RuleStands, RulesStand}
use Rattle.dg_mid.specs.Passing.{Tests, GoalPasses, GoalsPass, RulesPass, PredsPass, ClosuresPass, ProgramPasses, OpPasses, OpsPass}
use Rattle.dg_mid.proofs.Passing.{code_passes}
use Rattle.dg_turn.specs.Rules.{one_if_key, keyed}
use Rattle.dg_turn.specs.Tries.{AnyObject, Flagged, Valued, sought_by}
use Rattle.dg_turn.specs.Told.{count_told, told_count, KeyFits}
use Rattle.dg_turn.specs.Terms.{captured_of, IsTerm, IsNode, AreNodes, AreCaptured}
use Rattle.dg_turn.specs.World.{place_words, place_bytes, all_words, all_bytes}
use Rattle.dg_emit.specs.inside.Left.{parts_of}
use Rattle.dg_emit.specs.Code.{parameters_of, TermsFit, OpFits, OpsFit, BlocksFit, RulesFit, PredsFit}
use Rattle.dg_emit.specs.World.{WorldFits, ChangeFits, FlagFits}
use Rattle.dg_emit.specs.Finds.{QueryFits}
use Rattle.dg_emit.proofs.Left.{nodes_next}
use Rattle.dg_emit.proofs.Nodes.{first_term, other_terms}
use Rattle.dg_fits.specs.Sizes.{place_size, places_size, words_size, terms_size, rules_size, preds_size}
use Rattle.dg_fits.specs.Laws.{IsSized, CodeSuits}
use Rattle.dg_fits.proofs.Names.{name_ok, name_passes, name_is}
use Rattle.dg_fits.proofs.Terms.{some_node, captured_are}
use Rattle.dg_fits.proofs.Counting.{closures_many}
use Rattle.dg_fits.proofs.Selects.{selects_count}
use Rattle.dg_fits.proofs.SitesFew.{sites_counted}

both : {a b : Bool} → a ≡ true → b ≡ true → (a && b) ≡ true
both {b = b} e f = ap (λ (x : Bool). x && b) e ∙ f

-- ## Tests

-- captured variables are those of a story
abbrev are_small : List ℕ → Bool
are_small [] = true
are_small (v ∷ vs) = nat_lt v 128 && are_small vs

-- so is a node by itself
abbrev node_ok : CoreProgram → term.Term-F Term → Bool
node_ok p (term.Num n) = nat_lt n 16384
node_ok p (term.Word n) = nat_lt n 8192
node_ok p (term.Object n) = nat_lt n 4096
node_ok p (term.Var n) = nat_lt n 16001
node_ok p (term.Closure c) = let vs = captured_of (slice_get p.closures c) in nat_lt c 16384 && (nat_lt (length vs) 65 && (are_small vs && nat_lt (told_count p c) 256))
node_ok p other = true

abbrev nodes_ok : CoreProgram → List Term → Bool
nodes_ok p [] = true
nodes_ok p (x ∷ xs) = node_ok p (out-Term x) && nodes_ok p xs

-- so are terms, no more than 12
abbrev pub terms_ok : CoreProgram → List Term → Bool
terms_ok p ts = nat_lt (length ts) 13 && nodes_ok p (nodes_of ts)

-- so is a change or a query of a place of a kind with so many terms, and a query of a flag
abbrev change_ok : Option PlaceKind → ℕ → Bool
change_ok None n = false
change_ok (Some kind) n = eqb n (terms_of_kind kind)

abbrev flag_ok : Option PlaceKind → Bool
flag_ok (Some Flag) = true
flag_ok o = false

-- so is a goal
abbrev goal_ok : CoreProgram → form.Goal-F Goal → Bool
goal_ok p (form.Text name) = name_ok name
goal_ok p form.Forever = false
goal_ok p (form.Now place args sets) = terms_ok p args && change_ok (slice_get (kinds_of p) place) (length args)
goal_ok p (form.Select site mode lists) = nat_lt (length lists) 501
goal_ok p (form.Holds place [] many) = flag_ok (slice_get (kinds_of p) place)
goal_ok p (form.Holds place (t ∷ ts) many) = terms_ok p (t ∷ ts) && change_ok (slice_get (kinds_of p) place) (length (t ∷ ts))
goal_ok p layer = terms_ok p (terms_held layer)

abbrev pub tests : CoreProgram → Tests
tests p = record { goal = goal_ok p; head = λ vars head. nat_lt vars 66 && terms_ok p head; gathers = true }

-- ## What passes fits

small_are : (vs : List ℕ) → are_small vs ≡ true → AreCaptured vs
small_are [] e = tt
small_are (v ∷ vs) e = let h = and_parts (nat_lt v 128) (are_small vs) e in (ltb-true v 128 h.0, small_are vs h.1)

leaf_is : (p : CoreProgram) (x : term.Term-F Term) → node_ok p x ≡ true → IsTerm x
leaf_is p (term.Num n) e = ltb-true n 16384 e
leaf_is p (term.Word n) e = ltb-true n 8192 e
leaf_is p (term.Object n) e = ltb-true n 4096 e
leaf_is p (term.Var n) e = let lt = ltb-true n 16001 e in omega arith
leaf_is p (term.Pair head tail) e = tt
leaf_is p (term.Closure c) e = tt
leaf_is p term.Nil e = tt

node_is : (p : CoreProgram) (x : term.Term-F Term) (xs : List Term) → node_ok p x ≡ true → AreNodes p (nodes_of (parts_of x ++ xs)) → IsNode p x
node_is p (term.Pair head tail) xs e are = (first_term p head (tail ∷ xs) are, first_term p tail xs (other_terms p head (tail ∷ xs) are))
node_is p (term.Closure c) xs e are =
    let vs = captured_of (slice_get p.closures c) in
    let h = and_parts (nat_lt c 16384) (nat_lt (length vs) 65 && (are_small vs && nat_lt (told_count p c) 256)) e in
    let k = and_parts (nat_lt (length vs) 65) (are_small vs && nat_lt (told_count p c) 256) h.1 in
    let l = and_parts (are_small vs) (nat_lt (told_count p c) 256) k.1 in
    let few = ltb-true (length vs) 65 k.0 in
    (ltb-true c 16384 h.0, omega arith, small_are vs l.0, ltb-true (told_count p c) 256 l.1)
node_is p (term.Num n) xs e are = leaf_is p (term.Num n) e
node_is p (term.Word n) xs e are = leaf_is p (term.Word n) e
node_is p (term.Object n) xs e are = leaf_is p (term.Object n) e
node_is p (term.Var n) xs e are = leaf_is p (term.Var n) e
node_is p term.Nil xs e are = tt

-- by how many nodes are left
are_nodes : (p : CoreProgram) (k : ℕ) (ts : List Term) → length (nodes_of ts) ≤ k → nodes_ok p (nodes_of ts) ≡ true → AreNodes p (nodes_of ts)
are_nodes p k [] le e = tt
are_nodes p zero (t ∷ ts) le e = absurd (omega (arith, some_node t ts))
are_nodes p (suc k) (t ∷ ts) le e =
    let next = nodes_next t ts in
    let rest = parts_of (out-Term t) ++ ts in
    let fewer : length (nodes_of rest) ≤ k = omega (arith, ap length next) in
    let h = and_parts (node_ok p (out-Term t)) (nodes_ok p (nodes_of rest)) (ap (nodes_ok p) (sym next) ∙ e) in
    let behind = are_nodes p k rest fewer h.1 in
    subst (AreNodes p) (sym next) (node_is p (out-Term t) ts h.0 behind, behind)

terms_fit : (p : CoreProgram) (ts : List Term) → terms_ok p ts ≡ true → TermsFit p ts
terms_fit p ts e =
    let h = and_parts (nat_lt (length ts) 13) (nodes_ok p (nodes_of ts)) e in
    let few = ltb-true (length ts) 13 h.0 in
    (omega arith, are_nodes p (length (nodes_of ts)) ts (omega arith) h.1)

change_is : (p : CoreProgram) → WorldFits p → (place n : ℕ) (o : Option PlaceKind) → slice_get (kinds_of p) place ≡ o → change_ok o n ≡ true → ChangeFits p place n
change_is p world place n None is e = absurd (cc)
change_is p world place n (Some Flag) is e = record { kind = Flag; kind_is = is; fits = eqb-true n 0 e; world = world }
change_is p world place n (Some ObjectFlag) is e = record { kind = ObjectFlag; kind_is = is; fits = eqb-true n 1 e; world = world }
change_is p world place n (Some ObjectVar) is e = record { kind = ObjectVar; kind_is = is; fits = eqb-true n 2 e; world = world }
change_is p world place n (Some Parent) is e = record { kind = Parent; kind_is = is; fits = eqb-true n 2 e; world = world }
change_is p world place n (Some Global) is e = record { kind = Global; kind_is = is; fits = eqb-true n 1 e; world = world }

flag_is : (p : CoreProgram) → WorldFits p → (place : ℕ) (o : Option PlaceKind) → slice_get (kinds_of p) place ≡ o → flag_ok o ≡ true → FlagFits p place
flag_is p world place None is e = absurd (cc)
flag_is p world place (Some Flag) is e = record { kind_is = is; world = world }
flag_is p world place (Some kind) is e = absurd (cc)

query_is : (p : CoreProgram) → WorldFits p → (place n : ℕ) (o : Option PlaceKind) → slice_get (kinds_of p) place ≡ o → 1 ≤ n → change_ok o n ≡ true → QueryFits p (Some place) n
query_is p world place n None is some e = absurd (cc)
query_is p world place n (Some Flag) is some e = let none = eqb-true n 0 e in absurd (omega arith)
query_is p world place n (Some ObjectFlag) is some e =
    inl (record { sought = Flagged place; sought_is = ap (sought_by place) is; fits = eqb-true n 1 e; world = world })
query_is p world place n (Some ObjectVar) is some e =
    inl (record { sought = Valued place; sought_is = ap (sought_by place) is; fits = eqb-true n 2 e; world = world })
query_is p world place n (Some Parent) is some e =
    inl (record { sought = Valued place; sought_is = ap (sought_by place) is; fits = eqb-true n 2 e; world = world })
query_is p world place n (Some Global) is some e = inr (record { at = place; place_is = refl; kind_is = is; fits = eqb-true n 1 e })

op_fits : (p : CoreProgram) → WorldFits p → (x : Op) → OpPasses (tests p) x → OpFits p x
op_fits p world (op.Do (action.Text text)) e = name_is text e
op_fits p world (op.Do (action.GapN a)) e = terms_fit p (a ∷ []) e
op_fits p world (op.Do (action.Test kind a)) e = terms_fit p (a ∷ []) e
op_fits p world (op.Do (action.Compare f a b)) e = terms_fit p (a ∷ b ∷ []) e
op_fits p world (op.Do (action.Arith f a b c)) e = terms_fit p (a ∷ b ∷ c ∷ []) e
op_fits p world (op.Do (action.Random a b c)) e = terms_fit p (a ∷ b ∷ c ∷ []) e
op_fits p world (op.Do (action.Equal a b)) e = terms_fit p (a ∷ b ∷ []) e
op_fits p world (op.Do (action.Print a)) e = terms_fit p (a ∷ []) e
op_fits p world (op.Do (action.Input a)) e = terms_fit p (a ∷ []) e
op_fits p world (op.Do (action.SplitWord a b)) e = terms_fit p (a ∷ b ∷ []) e
op_fits p world (op.Do (action.JoinWords a b)) e = terms_fit p (a ∷ b ∷ []) e
op_fits p world (op.Collect a b alt) e = terms_fit p (a ∷ b ∷ []) e
op_fits p world (op.Do (action.Now place args sets)) e =
    let h = and_parts (terms_ok p args) (change_ok (slice_get (kinds_of p) place) (length args)) e in
    (terms_fit p args h.0, change_is p world place (length args) (slice_get (kinds_of p) place) refl h.1)
op_fits p world (op.Find (Some place) [] many next) e = flag_is p world place (slice_get (kinds_of p) place) refl e
op_fits p world (op.Find None [] many next) e = let no : false ≡ true = e in absurd (cc no)
op_fits p world (op.Find None (t ∷ []) many next) e = (terms_fit p (t ∷ []) e, world, inl (record { sought = AnyObject; sought_is = refl; fits = refl; world = world }))
op_fits p world (op.Find None (t ∷ u ∷ ts) many next) e = let no : false ≡ true = e in absurd (cc no)
op_fits p world (op.Find (Some place) (t ∷ ts) many next) e =
    let h = and_parts (terms_ok p (t ∷ ts)) (change_ok (slice_get (kinds_of p) place) (length (t ∷ ts))) e in
    (terms_fit p (t ∷ ts) h.0, world, query_is p world place (length (t ∷ ts)) (slice_get (kinds_of p) place) refl (omega arith) h.1)
op_fits p world (op.Select site mode blocks next) e =
    let few = ltb-true (length (replicate {A = List Goal} (length blocks) [])) 501 e in
    let long = length-replicate {A = List Goal} (length blocks) [] in
    record { few = omega arith; world = world }
op_fits p world (op.Ask pred terms many next) e = terms_fit p terms e
op_fits p world (op.LastAsk pred terms many) e = terms_fit p terms e
op_fits p world (op.Query a b many next) e = terms_fit p (a ∷ option_terms b) e
op_fits p world (op.LastQuery a b many) e = terms_fit p (a ∷ option_terms b) e
op_fits p world (op.Enter vars head) e = terms_fit p head (and_parts (nat_lt vars 66) (terms_ok p head) e).1
op_fits p world x e = tt

ops_fit : (p : CoreProgram) → WorldFits p → (ops : List Op) → OpsPass (tests p) ops → OpsFit p ops
ops_fit p world [] e = tt
ops_fit p world (x ∷ ops) e = (op_fits p world x e.0, ops_fit p world ops e.1)

blocks_fit : (p : CoreProgram) → WorldFits p → (blocks : List Block) → ((b : ℕ) → OpsPass (tests p) (ops_of (slice_get blocks b))) → BlocksFit p blocks
blocks_fit p world [] h = tt
blocks_fit p world (block ∷ blocks) h = (ops_fit p world block.ops (h 0), blocks_fit p world blocks (λ b. h (suc b)))

-- ## What a sound program passes

change_right : (n : ℕ) (kind : PlaceKind) → n ≡ terms_of_kind kind → change_ok (Some kind) n ≡ true
change_right n Flag e = eq-eqb n 0 e
change_right n ObjectFlag e = eq-eqb n 1 e
change_right n ObjectVar e = eq-eqb n 2 e
change_right n Parent e = eq-eqb n 2 e
change_right n Global e = eq-eqb n 1 e

kind_right : (places : List Place) (i n : ℕ) → FitsPlace n (slice_get places i) → change_ok (slice_get (map (λ (place : Place). place.kind) places) i) n ≡ true
kind_right [] i n h = absurd h
kind_right (place ∷ places) zero n h = change_right n place.kind h
kind_right (place ∷ places) (suc i) n h = kind_right places i n h

flag_by : (kind : PlaceKind) → 0 ≡ terms_of_kind kind → flag_ok (Some kind) ≡ true
flag_by Flag e = refl
flag_by ObjectFlag e = absurd (cc)
flag_by ObjectVar e = absurd (cc)
flag_by Parent e = absurd (cc)
flag_by Global e = absurd (cc)

flag_right : (places : List Place) (i : ℕ) → FitsPlace 0 (slice_get places i) → flag_ok (slice_get (map (λ (place : Place). place.kind) places) i) ≡ true
flag_right [] i h = absurd h
flag_right (place ∷ places) zero h = flag_by place.kind h
flag_right (place ∷ places) (suc i) h = flag_right places i h

captured_few : (p : CoreProgram) (cs : List ClosureBody) → All (IsClosureOf p) cs → (c : ℕ) → captured_count (slice_get cs c) ≤ 64
captured_few p [] all c = omega arith
captured_few p (closure ∷ cs) all zero = let h = All-head (IsClosureOf p) closure cs all in omega (arith, h.few, h.parameter)
captured_few p (closure ∷ cs) all (suc c) = captured_few p cs (All-tail (IsClosureOf p) closure cs all) c

below_small : (vars : ℕ) (vs : List ℕ) → vars ≤ 65 → All (λ v. v < vars) vs → are_small vs ≡ true
below_small vars [] few all = refl
below_small vars (v ∷ vs) few all =
    let lt = All-head (λ v. v < vars) v vs all in
    both (lt-ltb v 128 (omega arith)) (below_small vars vs few (All-tail (λ v. v < vars) v vs all))

module _ (p : CoreProgram) (words : length p.words ≤ 8191) (objects : length p.objects ≤ 4095) (closures : length p.closures ≤ 16383) (captured : (c : ℕ) → captured_count (slice_get p.closures c) ≤ 64) where
  closure_ok : (vars c : ℕ) (o : Option ClosureBody) → slice_get p.closures c ≡ o → vars ≤ 65 → Captures vars o → node_ok p (term.Closure c) ≡ true
  closure_ok vars c None is few h = absurd h
  closure_ok vars c (Some closure) is few h =
      let within = slice_get_within p.closures c closure is in
      let vs = captured_of (slice_get p.closures c) in
      let same : vs ≡ closure.captured = ap captured_of is in
      let many : told_count p c ≡ length closure.captured = ap count_told is in
      both (lt-ltb c 16384 (omega arith)) (both (lt-ltb (length vs) 65 (omega (arith, captured c, captured_are (slice_get p.closures c)))) (both (ap are_small same ∙ below_small vars closure.captured few h) (lt-ltb (told_count p c) 256 (omega (arith, many, captured c, captured_are (slice_get p.closures c), ap length same)))))

  node_passes : (vars : ℕ) (x : term.Term-F Term) → vars ≤ 65 → IsNodeOf p vars x → node_ok p x ≡ true
  node_passes vars (term.Num n) few h = lt-ltb n 16384 (omega arith)
  node_passes vars (term.Word n) few h = lt-ltb n 8192 (omega arith)
  node_passes vars (term.Object n) few h = lt-ltb n 4096 (omega arith)
  node_passes vars (term.Var n) few h = lt-ltb n 16001 (omega arith)
  node_passes vars (term.Closure c) few h = closure_ok vars c (slice_get p.closures c) refl few h
  node_passes vars (term.Pair head tail) few h = refl
  node_passes vars term.Nil few h = refl

  nodes_pass : (vars : ℕ) (xs ys : List Term) → vars ≤ 65 → All (λ (node : Term). IsNodeOf p vars (out-Term node)) xs → nodes_ok p ys ≡ true → nodes_ok p (xs ++ ys) ≡ true
  nodes_pass vars [] ys few all e = e
  nodes_pass vars (x ∷ xs) ys few all e =
      let q = λ (node : Term). IsNodeOf p vars (out-Term node) in
      both (node_passes vars (out-Term x) few (All-head q x xs all)) (nodes_pass vars xs ys few (All-tail q x xs all) e)

  terms_pass : (vars : ℕ) (ts : List Term) → vars ≤ 65 → All (IsTermOf p vars) ts → nodes_ok p (nodes_of ts) ≡ true
  terms_pass vars [] few all = refl
  terms_pass vars (t ∷ ts) few all =
      nodes_pass vars (nodes t) (nodes_of ts) few (All-head (IsTermOf p vars) t ts all) (terms_pass vars ts few (All-tail (IsTermOf p vars) t ts all))

  all_pass : (vars : ℕ) (ts : List Term) → vars ≤ 65 → length ts ≤ 12 → All (IsTermOf p vars) ts → terms_ok p ts ≡ true
  all_pass vars ts few short all = both (lt-ltb (length ts) 13 (omega arith)) (terms_pass vars ts few all)

  layer_passes : (layer : form.Goal-F Goal) → FitsProgram p layer → terms_ok p (terms_held layer) ≡ true → GoalPasses (tests p) layer
  layer_passes (form.Text name) fits e = name_passes name fits
  layer_passes (form.Now place args sets) fits e = both e (kind_right p.places place (length args) fits)
  layer_passes (form.Holds place [] many) fits e = flag_right p.places place fits
  layer_passes (form.Holds place (t ∷ ts) many) fits e = both e (kind_right p.places place (length (t ∷ ts)) fits)
  layer_passes (form.Select site mode lists) fits e = let few = fits.2 in lt-ltb (length (replicate {A = List Goal} (length lists) [])) 501 (omega (arith, length-replicate {A = List Goal} (length lists) []))
  layer_passes (form.Either lists) fits e = tt
  layer_passes (form.Once goals) fits e = tt
  layer_passes (form.Not goals) fits e = tt
  layer_passes (form.If a b c) fits e = tt
  layer_passes (form.Exhaust goals) fits e = tt
  layer_passes (form.Stoppable goals) fits e = tt
  layer_passes form.Forever fits e = tt
  layer_passes (form.Collect a goals b) fits e = (e, refl)
  layer_passes (form.Accumulate a goals b) fits e = (e, refl)
  layer_passes layer fits e = e

  goals_pass : (vars : ℕ) (gs : List Goal) → vars ≤ 65 → All (IsGoalOf p vars) gs → All (HoldsFew 12) gs → GoalsPass (tests p) gs
  goals_pass vars [] few all short = tt
  goals_pass vars (g ∷ gs) few all short =
      let h = All-head (IsGoalOf p vars) g gs all in
      let s = All-head (HoldsFew 12) g gs short in
      (layer_passes (out-Goal g) h.fits (all_pass vars (terms_held (out-Goal g)) few s h.terms), goals_pass vars gs few (All-tail (IsGoalOf p vars) g gs all) (All-tail (HoldsFew 12) g gs short))

  abbrev HeadFew : Rule → Type 0
  HeadFew rule = length rule.head ≤ 12

  abbrev BodyFew : Rule → Type 0
  BodyFew rule = All (HoldsFew 12) (all_goals_of rule.body)

  head_passes : (rule : Rule) → IsRuleOf p rule → HeadFew rule → terms_ok p rule.head ≡ true
  head_passes rule h short = all_pass rule.vars rule.head h.few short h.head

  rules_pass : (rs : List Rule) → All (IsRuleOf p) rs → All HeadFew rs → All BodyFew rs → RulesPass (tests p) rs
  rules_pass [] all heads bodies = tt
  rules_pass (rule ∷ rs) all heads bodies =
      let h = All-head (IsRuleOf p) rule rs all in (
        both (lt-ltb rule.vars 66 (omega (arith, h.few))) (head_passes rule h (All-head HeadFew rule rs heads)),
        goals_pass rule.vars (all_goals_of rule.body) h.few h.body (All-head BodyFew rule rs bodies),
        rules_pass rs (All-tail (IsRuleOf p) rule rs all) (All-tail HeadFew rule rs heads) (All-tail BodyFew rule rs bodies),
      )

  abbrev HeadsFew : Pred → Type 0
  HeadsFew pred = All HeadFew pred.rules

  abbrev BodiesFew : Pred → Type 0
  BodiesFew pred = All BodyFew pred.rules

  preds_pass : (ps : List Pred) → All (IsPredOf p) ps → All HeadsFew ps → All BodiesFew ps → PredsPass (tests p) ps
  preds_pass [] all heads bodies = tt
  preds_pass (pred ∷ ps) all heads bodies = (
    rules_pass pred.rules (All-head (IsPredOf p) pred ps all).rules (All-head HeadsFew pred ps heads) (All-head BodiesFew pred ps bodies),
    preds_pass ps (All-tail (IsPredOf p) pred ps all) (All-tail HeadsFew pred ps heads) (All-tail BodiesFew pred ps bodies),
  )

  abbrev ClosureFew : ClosureBody → Type 0
  ClosureFew closure = All (HoldsFew 12) (all_goals_of closure.body)

  closures_pass : (cs : List ClosureBody) → All (IsClosureOf p) cs → All ClosureFew cs → ClosuresPass (tests p) cs
  closures_pass [] all few = tt
  closures_pass (c ∷ cs) all few =
      let h = All-head (IsClosureOf p) c cs all in (
        goals_pass (closure_vars c) (all_goals_of c.body) h.few h.body (All-head ClosureFew c cs few),
        closures_pass cs (All-tail (IsClosureOf p) c cs all) (All-tail ClosureFew c cs few),
      )

  program_passes : IsSound p → HeadsAreFew 12 p → AllHoldFew 12 p → ProgramPasses (tests p) p
  program_passes sound heads goals =
      record { entry = refl; preds = preds_pass p.preds sound.preds heads goals.preds; closures = closures_pass p.closures sound.closures goals.closures }

  -- ## Keys

  key_at : (x : term.Term-F Term) → node_ok p x ≡ true → KeyFits (label_at x)
  key_at (term.Num n) e = ltb-true n 16384 e
  key_at (term.Word n) e = ltb-true n 8192 e
  key_at (term.Object n) e = ltb-true n 4096 e
  key_at (term.Closure c) e =
      let vs = captured_of (slice_get p.closures c) in ltb-true c 16384 (and_parts (nat_lt c 16384) (nat_lt (length vs) 65 && (are_small vs && nat_lt (told_count p c) 256)) e).0
  key_at (term.Var n) e = tt
  key_at (term.Pair head tail) e = tt
  key_at term.Nil e = tt

  first_fits : (head : List Term) → terms_ok p head ≡ true → KeyFits (first_label head)
  first_fits [] e = tt
  first_fits (t ∷ ts) e =
      let h = and_parts (nat_lt (length (t ∷ ts)) 13) (nodes_ok p (nodes_of (t ∷ ts))) e in
      let rest = parts_of (out-Term t) ++ ts in
      key_at (out-Term t) (and_parts (node_ok p (out-Term t)) (nodes_ok p (nodes_of rest)) (ap (nodes_ok p) (sym (nodes_next t ts)) ∙ h.1)).0

  rule_fits : (code : Code) (c : RuleCode) (rule : Rule) → RuleStands code c rule → IsRuleOf p rule → HeadFew rule → KeyFits (label_of c.key) × (parameters_of (block_at code c.block) ≤ 12)
  rule_fits code c rule stands h short = (
    subst KeyFits (sym stands.key_is) (first_fits rule.head (head_passes rule h short)),
    subst (λ (n : ℕ). n ≤ 12) (sym (ap parameters_of stands.block)) short,
  )

  rules_fit : (code : Code) (cs : List RuleCode) (rs : List Rule) → RulesStand code cs rs → All (IsRuleOf p) rs → All HeadFew rs → RulesFit code cs
  rules_fit code [] rs stand all heads = tt
  rules_fit code (c ∷ cs) [] stand all heads = absurd stand
  rules_fit code (c ∷ cs) (rule ∷ rs) stand all heads =
      let one = rule_fits code c rule stand.0 (All-head (IsRuleOf p) rule rs all) (All-head HeadFew rule rs heads) in
      (one.0, one.1, rules_fit code cs rs stand.1 (All-tail (IsRuleOf p) rule rs all) (All-tail HeadFew rule rs heads))

  preds_fit : (code : Code) (cs : List (List RuleCode)) (ps : List Pred) → ((n : ℕ) → RulesStand code (codes_of (slice_get cs n)) (rules_of (slice_get ps n))) →
      All (IsPredOf p) ps → All HeadsFew ps → PredsFit code cs
  preds_fit code [] ps stand all heads = tt
  preds_fit code (c ∷ cs) [] stand all heads =
      (rules_fit code c [] (stand 0) (All-nil (IsRuleOf p)) (All-nil HeadFew), preds_fit code cs [] (λ n. stand (suc n)) all heads)
  preds_fit code (c ∷ cs) (pred ∷ ps) stand all heads = (
    rules_fit code c pred.rules (stand 0) (All-head (IsPredOf p) pred ps all).rules (All-head HeadsFew pred ps heads),
    preds_fit code cs ps (λ n. stand (suc n)) (All-tail (IsPredOf p) pred ps all) (All-tail HeadsFew pred ps heads),
  )

-- ## Rules that have a key

one_few : (key : Option Label) → one_if_key key ≤ 1
one_few None = omega arith
one_few (Some f) = omega arith

first_counted : (head : List Term) → 100 * one_if_key (first_label head) ≤ terms_size head
first_counted [] = omega arith
first_counted (t ∷ ts) =
    let some : 1 ≤ length (nodes t) = omega (arith, some_node t [], length-append (nodes t) []) in
    omega (arith, one_few (label_at (out-Term t)))

keyed_counted : (code : Code) (cs : List RuleCode) (rs : List Rule) → RulesStand code cs rs → 200 * keyed cs ≤ rules_size rs
keyed_counted code [] rs stand = omega arith
keyed_counted code (c ∷ cs) [] stand = absurd stand
keyed_counted code (c ∷ cs) (rule ∷ rs) stand =
    let same = ap one_if_key (stand.0).key_is in
    omega (arith, same, one_few (first_label rule.head), first_counted rule.head, keyed_counted code cs rs stand.1)

rules_within : (ps : List Pred) (n : ℕ) → rules_size (rules_of (slice_get ps n)) ≤ preds_size ps
rules_within [] n = omega arith
rules_within (pred ∷ ps) zero = omega arith
rules_within (pred ∷ ps) (suc n) = omega (arith, rules_within ps n)

-- ## How many there are

pub words_many : (words : List (List ℕ)) → 3 * length words ≤ words_size words
words_many [] = omega arith
words_many (word ∷ words) = omega (arith, words_many words)

pub objects_many : (objects : ℕ) (places : List Place) → FirstIsParent places → 2 * objects ≤ places_size objects places
objects_many objects [] h = absurd h
objects_many objects (place ∷ places) h = let e = ap (place_size objects) h.0 in omega arith

-- the words and bytes of the world are what it counts
pub world_counted : (objects : ℕ) (places : List Place) → let kinds = map (λ (place : Place). place.kind) places in 2 * all_words objects kinds + all_bytes objects kinds ≡ places_size objects places
world_counted objects [] = refl
world_counted objects (place ∷ places) =
    let kinds = map (λ (q : Place). q.kind) places in
    omega (arith, place_counted place.kind, world_counted objects places, sum_by-cons (place_words objects) place.kind kinds, sum_by-cons (place_bytes objects) place.kind kinds)
  where
    place_counted : (kind : PlaceKind) → 2 * place_words objects kind + place_bytes objects kind ≡ place_size objects kind
    place_counted Flag = refl
    place_counted ObjectFlag = omega arith
    place_counted ObjectVar = omega arith
    place_counted Parent = omega arith
    place_counted Global = refl

pub captured_all : (program : CoreProgram) → IsSound program → (c : ℕ) → captured_count (slice_get program.closures c) ≤ 64
captured_all program sound = captured_few program program.closures sound.closures

-- the numbers of a program, where it isn't refused
record AreFew (p : CoreProgram) : Type 0 where
  words : length p.words ≤ 8191
  objects : length p.objects ≤ 4095

are_few : (p : CoreProgram) (code : Code) → IsSized p code → AreFew p
are_few p code sized = record {
  words = omega (arith, words_many p.words, sized.words);
  objects = omega (arith, objects_many (length p.objects) p.places sized.sound.parent, sized.world);
}

pub world_is : (p : CoreProgram) (code : Code) → IsSized p code → WorldFits p
world_is p code sized = record {
  few = omega (arith, (are_few p code sized).objects);
  room = omega (arith, world_counted (length p.objects) p.places, sized.world);
}

pub objects_few : (p : CoreProgram) (code : Code) → IsSized p code → length p.objects ≤ 4096
objects_few p code sized = let few = (are_few p code sized).objects in omega arith

pub objects_least : (p : CoreProgram) (code : Code) → IsSized p code → length p.objects ≤ 4000
objects_least p code sized = omega (arith, objects_many (length p.objects) p.places sized.sound.parent, sized.world)

closures_least : (p : CoreProgram) (code : Code) → IsSized p code → length p.closures ≤ 4400
closures_least p code sized = omega (arith, selects_count p sized.sound, sized.size)

pub passes_all : (p : CoreProgram) (code : Code) → IsSized p code → (b : ℕ) → OpsPass (tests p) (block_at code b)
passes_all p code sized =
    let few = are_few p code sized in
    code_passes (tests p) p code sized.light (program_passes p few.words few.objects (let few = closures_least p code sized in omega arith) (captured_all p sized.sound) sized.sound sized.heads sized.goals)

pub suits : (p : CoreProgram) (code : Code) → IsSized p code → CodeSuits p code
suits p code sized =
    let captured = captured_all p sized.sound in
    let few = are_few p code sized in
    record {
      fits = (
        blocks_fit p (world_is p code sized) code.blocks (passes_all p code sized),
        preds_fit p few.words few.objects (let few = closures_least p code sized in omega arith) captured code code.preds p.preds sized.codes.rules sized.sound.preds sized.heads,
        omega (arith, closures_many p code sized.codes, closures_least p code sized),
        (objects_few p code sized, sized.sound.objects),
      );
      keyed_few = λ pred.
          omega (arith, keyed_counted code (rules_at code pred) (rules_of (slice_get p.preds pred)) (sized.codes.rules pred), rules_within p.preds pred, sized.size);
      sites_few = sites_counted p code sized.light;
    }
