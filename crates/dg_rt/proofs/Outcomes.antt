-- Routines that change what is set of an object, by what is told of a first argument.
use Rattle.std.proofs.Common.{◌≡◌, ℕ, suc, ◌+◌, ◌*◌, ◌<◌, ◌≤◌, Bool, true, false, List, [], ◌∷◌, Option, Some, None, refl, sym, subst, arith}
use Rattle.std.specs.Prelude.{is_some}
use Rattle.std.proofs.lemmas.Bool.{lt-ltb, le-ltb}
use Rattle.dg_base.specs.declared.program.PlaceKind.{PlaceKind}
use Rattle.dg_meaning.specs.Values.{Label, Object, Value, Var, Node, Values}
use Rattle.dg_meaning.specs.Substitutions.{Substitution, walk, links, resolved}
use Rattle.dg_meaning.specs.Facts.{Alteration, Clears, ClearsAll}
use Rattle.dg_meaning.specs.Changes.{object_set, object_change}
use Rattle.z_lang.specs.declared.act.Act.{Act}
use Rattle.z_lang.specs.declared.act.Act.TheVariants as acts
use Rattle.z_lang.specs.declared.act.Args.TheVariants as args
use Rattle.z_lang.specs.declared.act.Atom.TheVariants as atoms
use Rattle.z_lang.specs.declared.act.Comparison.TheVariants as comparisons
use Rattle.z_lang.specs.State.{State, Program}
use Rattle.z_lang.specs.Acts.{answer_of}
use Rattle.z_lang.specs.Runs.{ActsRun as Runs, ActsOutcome as Outcome, Returns, taken, passed, calls, returns, behind_label}
use Rattle.dg_rt.specs.declared.numbers.TheConstants.{WALK, THERE, FAIL}
use Rattle.dg_rt.specs.Cells.{compared, Holds}
use Rattle.dg_rt.specs.Areas.{state}
use Rattle.dg_rt.specs.Shapes.{Shape, IsShape, Shows, Stands}
use Rattle.dg_rt.specs.RunTime.{HasRunTime}
use Rattle.dg_rt.specs.Operands.{no_value}
use Rattle.dg_rt.specs.Conditions.{next_if}
use Rattle.dg_rt.specs.Changes.{cleared}
use Rattle.dg_rt.specs.inside.Walks.{ending}
use Rattle.dg_rt.proofs.Following.{tested, register}
use Rattle.dg_rt.proofs.Locals.{not_less_by, high_is_less, reference, get_2, get_4, set_2, set_4}
use Rattle.dg_rt.proofs.Objects.{Told, is_there, is_past, is_free, is_other, set_other, clear_other}
use Rattle.dg_rt.proofs.Showing.{variable_word, node_word}
use Rattle.dg_rt.proofs.Standing.{walk_at}
use Rattle.dg_rt.proofs.There.{told_first}
use Rattle.dg_rt.proofs.Walking.{walk_works}

ending_few : (v : Value) → ending v ≤ 4
ending_few (Var x) = omega arith
ending_few (Node g parts) = omega arith

module _ (p : Program) (has : HasRunTime p) (f w : ℕ) (some : 3 ≤ f) (enough : 16 ≤ w) (memory typed output : List ℕ) (drawn next a n : ℕ) (cells : ℕ → ℕ) (Good : List ℕ → (ℕ → ℕ) → Option Alteration → Type 0) where
  abbrev pub at : ℕ → ℕ → State
  at b d = state memory (a ∷ b ∷ next ∷ d ∷ []) typed drawn output

  -- Acts lead from a state to where something is changed, or nothing.
  pub record Ends (body more : List Act) (start : State) (change : Option Alteration) (most : ℕ) : Type 0 where
    pub memory' : List ℕ
    pub cells' : ℕ → ℕ
    pub good : Good memory' cells' change
    pub locals' : List ℕ
    pub count : ℕ
    pub few : count ≤ most
    pub runs : Runs p f w body more start (Returns (next_if p (is_some change) next)) (state memory' locals' typed drawn output) count

  pub within : {body more : List Act} {s : State} {change : Option Alteration} (most all : ℕ) → most ≤ all → Ends body more s change most → Ends body more s change all
  within most all le e = let few = e.few in record { memory' = e.memory'; cells' = e.cells'; good = e.good; locals' = e.locals'; count = e.count; few = omega arith; runs = e.runs }

  -- one act more in front
  pub stepped : {body rest front : List Act} {s0 s1 : State} {change : Option Alteration} {most : ℕ} → Ends body rest s1 change most → ((o : Outcome) (s' : State) (k : ℕ) → Runs p f w body rest s1 o s' k → Runs p f w body front s0 o s' (suc k)) → Ends body front s0 change (suc most)
  stepped {change = change} e step =
      let few = e.few in
      record { memory' = e.memory'; cells' = e.cells'; good = e.good; locals' = e.locals'; count = suc e.count; few = omega arith; runs = step (Returns (next_if p (is_some change) next)) _ e.count e.runs }

  -- some acts in front, with a call among them
  pub called : {body rest front : List Act} {s0 s1 : State} {change : Option Alteration} {most : ℕ} (c all : ℕ) → c + most ≤ all → Ends body rest s1 change most → ((o : Outcome) (s' : State) (k : ℕ) → Runs p f w body rest s1 o s' k → Runs p f w body front s0 o s' (c + k)) → Ends body front s0 change all
  called {change = change} c all le e step =
      let few = e.few in
      record { memory' = e.memory'; cells' = e.cells'; good = e.good; locals' = e.locals'; count = c + e.count; few = omega arith; runs = step (Returns (next_if p (is_some change) next)) _ e.count e.runs }

  abbrev pub failing : List Act
  failing = acts.Return (atoms.Routine FAIL) ∷ []

  pub failed : (body more : List Act) (b d : ℕ) → Good memory cells None → Ends body (acts.Return (atoms.Routine FAIL) ∷ more) (at b d) None 1
  failed body more b d same = record { memory' = memory; cells' = cells; good = same; locals' = a ∷ b ∷ next ∷ d ∷ []; count = 1; few = omega arith; runs = returns refl }

  -- tests of the second local and the fourth
  pub second_less : (b d : ℕ) (t : Bool) → compared comparisons.Less b 0 ≡ t → answer_of p (at b d) (record { comparison = comparisons.Less; first = atoms.Var 2; second = atoms.Num 0; answer = true }) ≡ Some t
  second_less b d t e = tested p (at b d) comparisons.Less (atoms.Var 2) (atoms.Num 0) true b 0 t (get_2 p memory a b next d typed drawn output) refl e

  pub fourth_less : (b d x : ℕ) (t answer : Bool) → compared comparisons.Less d x ≡ t → answer_of p (at b d) (record { comparison = comparisons.Less; first = atoms.Var 4; second = atoms.Num x; answer = answer }) ≡ Some t
  fourth_less b d x t answer e = tested p (at b d) comparisons.Less (atoms.Var 4) (atoms.Num x) answer d x t (get_4 p memory a b next d typed drawn output) refl e

  pub nothing_less : compared comparisons.Less 65535 0 ≡ true
  nothing_less = high_is_less 65535 0 (omega arith) (omega arith) (omega arith)

  pub object_not_less : (o : ℕ) → o < n → n ≤ 4096 → compared comparisons.Less o 0 ≡ false
  object_not_less o lt small = not_less_by o 0 (omega arith) (omega arith) (omega arith)

  module _ (small : n ≤ 4096) (sh : Shape) (S : Substitution) (v : Value) (is : IsShape sh) (h : Holds p.world.layout memory cells) (st : Stands sh cells S) (s : Shows sh (cells 16) v) (same : Good memory cells None) where
    -- ## Setting

    abbrev second_test : List Act → List Act
    second_test rest = acts.When (record { comparison = comparisons.Less; first = atoms.Var 2; second = atoms.Num 0; answer = true }) 0 ∷ rest

    module _ (kind : PlaceKind) (place : ℕ) (values : List Value) (body rest : List Act) (label : behind_label 0 body ≡ Some failing) (most : ℕ) (one : (o : ℕ) → o < n → Ends body rest (at o 0) (object_set kind place o values) most) where
      abbrev set_change : Value → Option Alteration
      set_change rv = object_change n kind place true (rv ∷ values)

      none_set : (rv : Value) → set_change rv ≡ None → Ends body (second_test rest) (at no_value 0) (set_change rv) (suc (suc most))
      none_set rv e = rw e (within 2 (suc (suc most)) (omega arith) (stepped (failed body [] no_value 0 same) (λ o s' k r. taken (second_less 65535 0 true nothing_less) label r)))

      set_told : (wv rv : Value) (b : ℕ) → Told n wv rv b → Ends body (second_test rest) (at b 0) (set_change rv) (suc (suc most))
      set_told wv rv b (is_there o parts others lt) = rw (lt-ltb o n lt) (within (suc most) (suc (suc most)) (omega arith) (stepped (one o lt) (λ r s' k go. passed (second_less o 0 false (object_not_less o lt small)) go)))
      set_told wv rv b (is_past o parts others le) = none_set (Node (Object o) others) (rw (le-ltb o n le) refl)
      set_told wv rv b (is_free x) = none_set (Var x) refl
      set_told wv rv b (is_other g parts others none) = none_set (Node g others) (set_other n kind place values g others none)

      -- The first argument is told of, and what is set of it becomes a value.
      pub setting : Ends body (acts.Call (Some 2) (atoms.Routine THERE) (args.Two (atoms.Var 32) (atoms.Var 2)) ∷ second_test rest) (at n 0) (set_change (resolved S v)) (5 * links S v + 16 + most)
      setting =
          let t = told_first p has f w some enough body (second_test rest) memory (a ∷ n ∷ next ∷ 0 ∷ []) typed output drawn sh is cells h S st 2 n small (λ y. a ∷ y ∷ next ∷ 0 ∷ []) (λ y. set_2 p memory a n next 0 y typed drawn output) (get_2 p memory a n next 0 typed drawn output) v s in
          let few = t.few in
          called t.count (5 * links S v + 16 + most) (omega arith) (set_told (walk S v) (resolved S v) t.answer t.told) t.runs

    -- ## Clearing

    abbrev fourth_test : List Act → List Act
    fourth_test rest =
        acts.When (record { comparison = comparisons.Less; first = atoms.Var 4; second = atoms.Num 0; answer = false }) 0
        ∷ acts.Call (Some 4) (atoms.Routine WALK) (args.One (atoms.Var 32))
        ∷ acts.When (record { comparison = comparisons.Less; first = atoms.Var 4; second = atoms.Num 49152; answer = false }) 1 ∷ rest

    module _ (kind : PlaceKind) (place : ℕ) (values : List Value) (body rest here : List Act) (label_0 : behind_label 0 body ≡ Some here) (label_1 : behind_label 1 body ≡ Some failing) (most per : ℕ) (one : (o : ℕ) → o < n → Ends body here (at n o) (Some (Clears place o)) most) (each : (d : ℕ) → Ends body rest (at n d) (Some (ClearsAll place)) (most + per * n)) where
      abbrev clear_change : Value → Option Alteration
      clear_change rv = object_change n kind place false (rv ∷ values)

      abbrev last_test : List Act
      last_test = acts.When (record { comparison = comparisons.Less; first = atoms.Var 4; second = atoms.Num 49152; answer = false }) 1 ∷ rest

      -- a value that is no object that is there is looked up
      looked : (change : Option Alteration) (c : ℕ) → ((d : ℕ) → Shows sh d (walk S v) → Ends body last_test (at n d) change c) → Ends body (fourth_test rest) (at n no_value) change (5 * links S v + 7 + c)
      looked change c go =
          let r = walk_works p has sh is 0 0 memory typed output drawn 0 0 cells h S st (cells 16) 0 v s in
          let high = has.mapped.room in
          let few = r.few in
          let ends = ending_few (walk S v) in
          within (suc (5 * links S v + 6 + c)) (5 * links S v + 7 + c) (omega arith)
          (stepped
          (called (suc r.count) (5 * links S v + 6 + c) (omega arith) (go r.word r.shows)
          (λ o s' k go_on. calls {f' = 0} {w' = 0} {n = r.count} {n' = k} {xs = (cells 16, 0, 0)} {s1 = state memory r.locals' typed drawn output} {s2 = at n r.word} refl (rw (register p (at n no_value) cells 32 h (omega arith) (omega arith) (omega arith)) refl) (walk_at p has) (omega arith) (omega arith) r.runs (set_4 p memory a n next no_value r.word typed drawn output) go_on))
          (λ o s' k go_on. passed (fourth_less n no_value 0 true false nothing_less) go_on))

      abbrev beside : Option Alteration → ℕ
      beside change = 5 * links S v + 10 + most + per * cleared n change

      none_cleared : (g : Label) (parts : Values) (rv : Value) → walk S v ≡ Node g parts → clear_change rv ≡ None → Ends body (fourth_test rest) (at n no_value) (clear_change rv) (beside (clear_change rv))
      none_cleared g parts rv is_node e = rw e (within (5 * links S v + 7 + 2) (beside None) (omega arith) (looked None 2 (λ d shows.
          let node = node_word (subst (Shows sh d) is_node shows) in
          stepped (failed body [] n d same) (λ o s' k r. taken (fourth_less n d 49152 false false node) label_1 r))))

      all_cleared : (x : ℕ) → walk S v ≡ Var x → Ends body (fourth_test rest) (at n no_value) (Some (ClearsAll place)) (beside (Some (ClearsAll place)))
      all_cleared x free = within (5 * links S v + 7 + suc (most + per * n)) (beside (Some (ClearsAll place))) (omega arith) (looked (Some (ClearsAll place)) (suc (most + per * n)) (λ d shows.
          let var = variable_word (subst (Shows sh d) free shows) in
          let low = is.within x var.old in
          let less : compared comparisons.Less d 49152 ≡ true = subst (λ (i : ℕ). compared comparisons.Less i 49152 ≡ true) (sym var.is) (reference (sh.place x) (omega arith)) in
          stepped (each d) (λ o s' k r. passed (fourth_less n d 49152 true false less) r)))

      clear_told : (wv rv : Value) (b : ℕ) → walk S v ≡ wv → Told n wv rv b → Ends body (fourth_test rest) (at n b) (clear_change rv) (beside (clear_change rv))
      clear_told wv rv b e (is_there o parts others lt) = rw (lt-ltb o n lt) (within (suc most) (beside (Some (Clears place o))) (omega arith) (stepped (one o lt) (λ r s' k go. taken (fourth_less n o 0 false false (object_not_less o lt small)) label_0 go)))
      clear_told wv rv b e (is_past o parts others le) = none_cleared (Object o) parts (Node (Object o) others) e (rw (le-ltb o n le) refl)
      clear_told wv rv b e (is_free x) = all_cleared x e
      clear_told wv rv b e (is_other g parts others none) = none_cleared g parts (Node g others) e (clear_other n kind place values g others none)

      -- The first argument is told of, and what is set of it is cleared, or what is set of each object.
      pub clearing : Ends body (acts.Call (Some 4) (atoms.Routine THERE) (args.Two (atoms.Var 32) (atoms.Var 2)) ∷ fourth_test rest) (at n 0) (clear_change (resolved S v)) (10 * links S v + 24 + most + per * cleared n (clear_change (resolved S v)))
      clearing =
          let t = told_first p has f w some enough body (fourth_test rest) memory (a ∷ n ∷ next ∷ 0 ∷ []) typed output drawn sh is cells h S st 4 n small (λ y. a ∷ n ∷ next ∷ y ∷ []) (λ y. set_4 p memory a n next 0 y typed drawn output) (get_2 p memory a n next 0 typed drawn output) v s in
          let few = t.few in
          called t.count (10 * links S v + 24 + most + per * cleared n (clear_change (resolved S v))) (omega arith) (clear_told (walk S v) (resolved S v) t.answer refl t.told) t.runs
