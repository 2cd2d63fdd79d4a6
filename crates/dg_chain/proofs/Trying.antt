-- Queries of objects lead on, answered at once or by trying objects one by one.
use Rattle.std.proofs.Common.{◌≡◌, ℕ, suc, ◌+◌, ◌≤◌, Bool, true, false, List, [], ◌∷◌, length, map, Option, Some, None, inl, inr, refl, sym, ap, ◌∙◌, subst, arith}
use Rattle.std.specs.Prelude.{is_some}
use Rattle.std.specs.List.{slice_get}
use Rattle.std.proofs.lemmas.Bool.{cases_lt}
use Rattle.dg_base.specs.declared.program.PlaceKind.{PlaceKind}
use Rattle.dg_base.specs.declared.program.PlaceKind.TheVariants.{Flag, ObjectFlag, ObjectVar, Parent, Global}
use Rattle.dg_base.specs.declared.program.CoreProgram.{CoreProgram}
use Rattle.dg_base.specs.declared.program.Term.{Term, out-Term, Pair'}
use Rattle.dg_base.specs.declared.program.Term as written
use Rattle.dg_base.specs.declared.run.Ending.TheVariants as ending
use Rattle.dg_meaning.specs.Cells.{cells}
use Rattle.dg_meaning.specs.Changes.{found}
use Rattle.dg_meaning.specs.Copies.{vars_in, copy_from, copy_cells}
use Rattle.dg_meaning.specs.Facts.{Fact, value_at, is_object, kinds_of}
use Rattle.dg_meaning.specs.Letters.{copied}
use Rattle.dg_meaning.specs.Moves.{numbers, looked_up, reads_if_set, ask_object, finds_if_set, begun, behind_copy, copy_of}
use Rattle.dg_meaning.specs.Path.{Registers, Act, Unifies as UnifiesNow, Effect}
use Rattle.dg_meaning.specs.Selection.{label_at}
use Rattle.dg_meaning.specs.Substitutions.{Substitution, walk}
use Rattle.dg_meaning.specs.Unify.{Unified, solve}
use Rattle.dg_meaning.specs.Values.{Label, Num, Word, Unknown, Object, Nil, Pair, Closure, Value, Var, Node, Values, NoMore, leaf, value_of}
use Rattle.dg_meaning.specs.World.{Print, World, worked}
use Rattle.dg_meaning.proofs.LookUps.{walk_node}
use Rattle.dg_unify.specs.Store.{State}
use Rattle.dg_mid.specs.declared.code.Code.{Code}
use Rattle.dg_mid.specs.declared.code.Op.{Op}
use Rattle.dg_mid.specs.declared.code.Op.TheVariants as op
use Rattle.dg_mid.specs.Actions.{registers_of, world_of, asked_at, found_at, lasting_in}
use Rattle.dg_mid.specs.Code.{block_at, first_label}
use Rattle.dg_mid.specs.Seeking.{begins_commit, LeavesFirst}
use Rattle.dg_mid.specs.State.{Find, Tries, Mid, Status, Runs, Resumes, Fails, vars_of, place_of, inner_for}
use Rattle.dg_mid.specs.Step.{Setting, charged, done, unified, if_agreed, if_passed, bound, more, passed, within, seeks, trying, trying_cells, tries, trail_more}
use Rattle.z_model.specs.Run.{ZState}
use Rattle.dg_rt.specs.declared.numbers.TheConstants.{FAIL}
use Rattle.dg_rt.specs.Changes.{SetIn, TableIn, set_of}
use Rattle.dg_rt.specs.Closings.{closing_most}
use Rattle.dg_rt.specs.Shapes.{Shape, Shows, number, dict, object, nil, variable, boxed}
use Rattle.dg_rt.specs.Unifies.{price}
use Rattle.dg_turn.specs.Told.{Telling}
use Rattle.dg_turn.specs.Tries.{Sought, AnyObject, Flagged, Valued, sought_by, sought_at, sought_terms, ObjectsFrom, AreLeft}
use Rattle.dg_turn.specs.Paid.{paid}
use Rattle.dg_turn.specs.Plays.{Playing, Outside, Comes as ComesTo}
use Rattle.dg_turn.specs.Operating.{term_value, InFront}
use Rattle.dg_turn.specs.World.{FactsIn, HasValues, value_equation, value_unified}
use Rattle.dg_turn.specs.Seeking.{find_routine, IsValued, HasSought, sought_of, first_walked, find_most, ComesSeeking, FindingValue, TriesAt, tried_in, try_equations, try_unified, try_most, Trying, GoesOnTried}
use Rattle.dg_turn.proofs.PaidTries.{tries_are_paid}
use Rattle.dg_turn.proofs.PaidWorld.{set_copied}
use Rattle.dg_turn.proofs.Rows.{length_map}
use Rattle.dg_turn.proofs.SeekTurn.{seek_turns}
use Rattle.dg_turn.proofs.TryTurn.{try_turns, none_tried_turns, sought_here}
use Rattle.dg_chain.specs.Always.{Always}
use Rattle.dg_chain.specs.Routines.{FindsObjects, OpAt, OpsAt, BlocksAt}
use Rattle.dg_chain.specs.Stands.{Printed, Stands}
use Rattle.dg_chain.specs.Steps.{Comes, step_cost}
use Rattle.dg_chain.specs.Whole.{OpLeads, story_setting}
use Rattle.dg_chain.proofs.Landing.{Leads, leads_meant, charged_means, unified_means, led_lands}
use Rattle.dg_chain.proofs.Leading.{Lead, alike, led_runs, led_fails, finishes, charged_leads, unified_leads, at_op, silently, a_unit}
use Rattle.dg_chain.proofs.Operating.{deciding_leads, unifies_now}
use Rattle.dg_chain.proofs.Points.{units_never_none}
use Rattle.dg_chain.proofs.Unifying.{agreed_leads}

-- ## Values that are set of objects

-- A value of a table has other variables and takes other cells.
record IsSimple (v : Value) : Type 0 where
  copied_is : (i : ℕ) → copy_from i v ≡ v
  no_vars : vars_in v ≡ 0
  no_cells : copy_cells v ≡ 0

simple_in : (sh : Shape) → sh.vars ≡ 0 → ((k : ℕ) → sh.box k ≡ None) → (x : ℕ) (v : Value) → Shows sh x v → ((i : ℕ) → copy_from i v ≡ v) → IsSimple v
simple_in sh none boxes x v (number k lt) same = record { copied_is = same; no_vars = refl; no_cells = refl }
simple_in sh none boxes x v (dict k lt) same = record { copied_is = same; no_vars = refl; no_cells = refl }
simple_in sh none boxes x v (object k lt) same = record { copied_is = same; no_vars = refl; no_cells = refl }
simple_in sh none boxes x v nil same = record { copied_is = same; no_vars = refl; no_cells = refl }
simple_in sh none boxes x v (variable k lt) same = absurd (omega arith)
simple_in sh none boxes x v (boxed k header lt box cell filled) same = let e = boxes k in absurd (cc)

simple_set : (x : ℕ) (v : Value) → SetIn x (Some v) → IsSimple v
simple_set x v is = let sh : Shape = record { top = 0; vars = 0; place = λ k. 0; fixed = λ k. 0; box = λ k. None; captures = λ k. 0 } in simple_in sh refl (λ k. refl) x v (is sh) (λ i. set_copied x i v is)

-- the word of what is set of an object
record WordOf (v : Value) : Type 0 where
  word : ℕ
  is : SetIn word (Some v)

table_word : (cells' : ℕ → ℕ) (t n : ℕ) (facts : List Fact) (place o : ℕ) (v : Value) → TableIn cells' t n facts place → value_at facts place o ≡ Some v → WordOf v
table_word cells' t n facts place o v h e = elim (cases_lt o n) [
  | inl lt ↦ record { word = cells' (t + o); is = subst (SetIn (cells' (t + o))) e (h.each o lt) }
  | inr le ↦ absurd (let none = h.few o le in cc)
]

module _ (t : Telling) (out : Outside) (facts : List Fact) (facts_out : FactsIn t.program facts out.words) (place : ℕ) where
  word_by : (kind : PlaceKind) → slice_get (kinds_of t.program) place ≡ Some kind → HasValues kind → (o : ℕ) (v : Value) → value_at facts place o ≡ Some v → WordOf v
  word_by Flag is has o v e = absurd has
  word_by ObjectFlag is has o v e = absurd has
  word_by ObjectVar is has o v e = table_word out.words _ _ facts place o v (facts_out.each place ObjectVar is) e
  word_by Parent is has o v e = table_word out.words _ _ facts place o v (facts_out.each place Parent is) e
  word_by Global is has o v e = absurd has

  set_word : IsValued t.program place → (u v : Value) → set_of facts place u ≡ Some v → WordOf v
  set_word valued (Var x) v e = absurd (cc)
  set_word valued (Node (Num n) vs) v e = absurd (cc)
  set_word valued (Node (Word n) vs) v e = absurd (cc)
  set_word valued (Node (Unknown s) vs) v e = absurd (cc)
  set_word valued (Node (Object o) vs) v e = word_by valued.kind valued.is valued.has o v e
  set_word valued (Node Nil vs) v e = absurd (cc)
  set_word valued (Node Pair vs) v e = absurd (cc)
  set_word valued (Node (Closure c) vs) v e = absurd (cc)

-- Code that leaves an inner construct first.
record CommitsFirst (ops : List Op) : Type 0 where
  rest : List Op
  is : ops ≡ op.Commit ∷ rest

commit_first : (ops : List Op) → begins_commit ops ≡ true → CommitsFirst ops
commit_first [] e = absurd (cc)
commit_first (op.Commit ∷ ops) e = record { rest = ops; is = refl }
commit_first (x ∷ ops) e = absurd (cc)

no_objects : {A : Type 0} (xs : List A) → length xs ≡ 0 → xs ≡ []
no_objects [] e = refl
no_objects (x ∷ xs) e = absurd (omega arith)

-- Making a copy of it changes nothing.
no_copy : (v : Value) → IsSimple v → (r : Registers) → behind_copy v r ≡ r
no_copy v k r =
    let a = k.no_vars in
    let b = k.no_cells in
    let e1 : r.next_var + vars_in v ≡ r.next_var = omega arith in
    let e2 : r.heap + copy_cells v ≡ r.heap = omega arith in
    ap (λ (i : ℕ). record r { next_var = i; heap = r.heap + copy_cells v }) e1 ∙ ap (λ (i : ℕ). record r { heap = i }) e2

unifies_simple : (v : Value) → IsSimple v → (r : Registers) (c : Value) (w : World) → UnifiesNow (behind_copy v r) ((c, copy_of v r) ∷ []) w ≡ UnifiesNow r ((c, v) ∷ []) w
unifies_simple v k r c w = ap (λ (q : Registers). UnifiesNow q ((c, copy_of v r) ∷ []) w) (no_copy v k r) ∙ ap (λ (x : Value). UnifiesNow r ((c, x) ∷ []) w) (k.copied_is r.next_var)

both_simple : (v : Value) → IsSimple v → (r : Registers) (a b : Value) (o : ℕ) (w : World) → UnifiesNow (behind_copy v r) ((a, leaf (Object o)) ∷ (b, copy_of v r) ∷ []) w ≡ UnifiesNow r ((a, leaf (Object o)) ∷ (b, v) ∷ []) w
both_simple v k r a b o w = ap (λ (q : Registers). UnifiesNow q ((a, leaf (Object o)) ∷ (b, copy_of v r) ∷ []) w) (no_copy v k r) ∙ ap (λ (x : Value). UnifiesNow r ((a, leaf (Object o)) ∷ (b, x) ∷ []) w) (k.copied_is r.next_var)

-- Only a variable is unbound.
never_open : (S : Substitution) (f : Label) (vs : Values) (x : ℕ) → walk S (Node f vs) ≡ Var x → ⊥
never_open S f vs x is = let e = sym (walk_node S f vs) ∙ is in cc

begins_open : (S : Substitution) (program : CoreProgram) (env : List Value) (a : Term) (x : ℕ) → walk S (value_of program env a) ≡ Var x → label_at (out-Term a) ≡ None
unfolding out-Term denote.Hole.Carrier.out
begins_open S program env (written.Var n) x is = refl
begins_open S program env (written.Num n) x is = absurd (never_open S (Num n) NoMore x is)
begins_open S program env (written.Word n) x is = absurd (never_open S (Word n) NoMore x is)
begins_open S program env (written.Object n) x is = absurd (never_open S (Object n) NoMore x is)
begins_open S program env written.Nil x is = absurd (never_open S Nil NoMore x is)
begins_open S program env (Pair' s head t tail) x is = absurd (never_open S Pair _ x is)
begins_open S program env (written.Closure c) x is = absurd (never_open S (Closure c) _ x is)

none_sought : (s : Sought) → 0 ≡ sought_terms s → ⊥
none_sought AnyObject e = omega arith
none_sought (Flagged q) e = omega arith
none_sought (Valued q) e = omega arith

-- ## What is asked

all_left : {A : Type 0} (k : ℕ) (xs : List A) (n : ℕ) → n ≡ k + length xs → ObjectsFrom n k (numbers k xs)
all_left k [] n e = omega arith
all_left k (x ∷ xs) n e = (refl, all_left (suc k) xs n (omega arith))

first_left : {A : Type 0} (xs : List A) → AreLeft (length xs) 0 (numbers 0 xs)
first_left [] = refl
first_left (x ∷ xs) = (refl, all_left 1 xs (suc (length xs)) (omega arith))

module _ (t : Telling) (plays : Playing t) (code : Code) (dice : List ℕ) where
  abbrev set : Setting
  set = story_setting t code dice

  -- ## A query

  module _ (place : Option ℕ) (a : Term) (others : List Term) (many : Bool) (next : ℕ) (ps : List Print) (m : Mid) (rest : List Op) (z : ZState) (e : m.ops ≡ op.Find place (a ∷ others) many next ∷ rest) (s : Stands t code ps (Runs m) z) (o : FindsObjects (λ y. OpsAt t code y rest) t s.at.x place (a ∷ others) many next) where
    abbrev ts : List Term
    ts = a ∷ others

    abbrev n : ℕ
    n = cells t.program ts

    abbrev m' : Mid
    m' = more n (record m { ops = rest })

    abbrev va : Value
    va = term_value t.program m a

    abbrev given : List Value
    given = map (term_value t.program m) others

    abbrev f : Find
    f = record { place = place; args = va ∷ given; many = many; next = next }

    abbrev w : World
    w = worked (looked_up (registers_of m') va) (world_of [] m')

    abbrev cost : ℕ
    cost = paid set ps (Runs m)

    abbrev behind : ℕ
    behind = o.writes.goes.behind

    abbrev asked : Value → Effect
    asked u = ask_object set.game place u va given true [] (registers_of m') w

    asked_by : (q : ℕ) (k : Option PlaceKind) → place ≡ Some q → slice_get (kinds_of t.program) q ≡ k → sought_by q k ≡ Some o.sought → asked_at set.game [] (Some q) (va ∷ given) m' ≡ asked (walk m.state.subst va)
    asked_by q None e' is is' = absurd (cc)
    asked_by q (Some Flag) e' is is' = absurd (cc)
    asked_by q (Some ObjectFlag) e' is is' = rw (is, e') refl
    asked_by q (Some ObjectVar) e' is is' = rw (is, e') refl
    asked_by q (Some Parent) e' is is' = rw (is, e') refl
    asked_by q (Some Global) e' is is' = absurd (cc)

    asked_is : (p : Option ℕ) → place ≡ p → asked_at set.game [] p (va ∷ given) m' ≡ asked (walk m.state.subst va)
    asked_is None e' = rw e' refl
    asked_is (Some q) e' = asked_by q (slice_get (kinds_of t.program) q) e' refl (ap (sought_at t.program) (sym e') ∙ o.sought_is)

    here : InFront t s.printed.out (find_routine t.program o.sought ts behind o.tries) ts m z
    here = record { x = s.at.x; rep = s.at.rep; there = o.writes.goes.is; nodes = o.writes.nodes }

    has : HasSought t.program o.sought
    has = (sought_here t.program o.sought place o.sought_is).has

    fits : find_most t.program a others m ≤ cost
    fits = tries_are_paid.find set ps m place o.sought a others many next rest e o.sought_is o.writes.nodes

    -- ---- all objects in turn

    seeking_comes : first_label ts ≡ None → ComesSeeking t s.printed.out o.tries (map (term_value t.program m) ts) (more n m) (find_most t.program a others m) z → Comes t.p.world (Stands t code) 1 ps (Resumes (Tries f (numbers 0 t.program.objects)) m') cost z
    unfolding alike
    seeking_comes first k =
        let few = k.few in
        let low = fits in
        let objects = t.program.objects in
        record {
          there = k.there;
          stands = record {
            printed = s.printed;
            at = record {
              x = t.p.names.routine o.tries;
              rep = alike t s.printed.out (t.p.names.routine o.tries) (more n m) m' k.there refl k.rep;
              tries = record {
                sought = o.sought;
                sought_is = o.sought_is;
                count = length_map t.program (vars_of m.frames) ts ∙ o.fits;
                next = o.block;
                next_is = o.block_is;
                is = o.tries_is first;
                args_are = k.args_are;
                objects_are = subst (λ (i : ℕ). AreLeft (length objects) i (numbers 0 objects)) (sym k.key_is) (first_left objects);
              };
            };
          };
          count = k.count;
          some = k.some;
          few = omega arith;
          leads = k.leads;
        }

    seeking_leads : (x : ℕ) → walk m.state.subst va ≡ Var x → Lead t code dice 1 ps (charged set n (record m { ops = rest }) (seeks set f (asked (Var x)) m')) cost z
    seeking_leads x is =
        let k = seek_turns.all t plays o.world s.printed.out o.sought a others behind o.tries x m.lasting.facts m z has o.fits s.printed.lasts.facts is here in
        let unit = a_unit t code dice ps m in
        charged_leads t code dice 1 (omega arith) ps s.printed n (record m { ops = rest }) (Resumes (Tries f (numbers 0 t.program.objects)) m') cost z s.at.rep.mid.state.few
        (λ room. seeking_comes (begins_open m.state.subst t.program (vars_of m.frames) a x is) (k.seeks room))
        (λ over. finishes t code dice 1 (omega arith) ps s.printed ending.HeapLimit (10 + closing_most) cost z (λ q. (cc)) (omega arith) (k.meets over))

  -- ---- an object, or another value

  not_sought : (facts : List Fact) (s : Sought) (v : Value) → is_object v ≡ false → set_of facts 0 v ≡ None → ((q : ℕ) → set_of facts q v ≡ None) → sought_of facts s v ≡ None
  not_sought facts AnyObject v other first e = rw other refl
  not_sought facts (Flagged q) v other first e = e q
  not_sought facts (Valued q) v other first e = e q

  object_by : (facts : List Fact) (s : Sought) (ob : ℕ) (vs : Values) (q : ℕ) (k : Option PlaceKind) → sought_by q k ≡ Some s → sought_of facts s (Node (Object ob) vs) ≡ found facts (Some q) ob
  object_by facts s ob vs q None e = absurd (cc)
  object_by facts s ob vs q (Some Flag) e = absurd (cc)
  object_by facts s ob vs q (Some ObjectFlag) e = let is : Flagged q ≡ s = cc in subst (λ (x : Sought). sought_of facts x (Node (Object ob) vs) ≡ found facts (Some q) ob) is refl
  object_by facts s ob vs q (Some ObjectVar) e = let is : Valued q ≡ s = cc in subst (λ (x : Sought). sought_of facts x (Node (Object ob) vs) ≡ found facts (Some q) ob) is refl
  object_by facts s ob vs q (Some Parent) e = let is : Valued q ≡ s = cc in subst (λ (x : Sought). sought_of facts x (Node (Object ob) vs) ≡ found facts (Some q) ob) is refl
  object_by facts s ob vs q (Some Global) e = absurd (cc)

  -- of an object it is what is found
  object_sought : (facts : List Fact) (s : Sought) (place : Option ℕ) (ob : ℕ) (vs : Values) → sought_at t.program place ≡ Some s → sought_of facts s (Node (Object ob) vs) ≡ found facts place ob
  object_sought facts s None ob vs e = let is : AnyObject ≡ s = cc in subst (λ (x : Sought). sought_of facts x (Node (Object ob) vs) ≡ found facts None ob) is refl
  object_sought facts s (Some q) ob vs e = object_by facts s ob vs q (slice_get (kinds_of t.program) q) e

  -- one term
  module _ (place : Option ℕ) (a : Term) (many : Bool) (next : ℕ) (ps : List Print) (m : Mid) (rest : List Op) (z : ZState) (e : m.ops ≡ op.Find place (a ∷ []) many next ∷ rest) (s : Stands t code ps (Runs m) z) (o : FindsObjects (λ y. OpsAt t code y rest) t s.at.x place (a ∷ []) many next) where
    abbrev n1 : ℕ
    n1 = cells t.program (a ∷ [])

    abbrev m1 : Mid
    m1 = more n1 (record m { ops = rest })

    abbrev f1 : Find
    f1 = record { place = place; args = term_value t.program m a ∷ []; many = many; next = next }

    abbrev w1 : World
    w1 = worked (looked_up (registers_of m1) (term_value t.program m a)) (world_of [] m1)

    abbrev asked1 : Value → Effect
    asked1 u = ask_object set.game place u (term_value t.program m a) [] true [] (registers_of m1) w1

    tests : (x : Option Value) → done set (reads_if_set [] (registers_of m1) x w1) m1 ≡ if_passed (is_some x) m1
    tests None = refl
    tests (Some v) = refl

    abbrev facts : List Fact
    facts = m.lasting.facts

    no_object : (u : Value) → is_object u ≡ false → ((q : ℕ) → set_of facts q u ≡ None) → Fails m1 ≡ if_passed (is_some (sought_of facts o.sought u)) m1
    no_object u other none = sym (ap (λ (x : Option Value). if_passed (is_some x) m1) (not_sought facts o.sought u other (none 0) none))

    seeks_one : (l : Label) (vs : Values) → seeks set f1 (asked1 (Node l vs)) m1 ≡ if_passed (is_some (sought_of facts o.sought (Node l vs))) m1
    seeks_one (Num i) vs = no_object (Node (Num i) vs) refl (λ q. refl)
    seeks_one (Word i) vs = no_object (Node (Word i) vs) refl (λ q. refl)
    seeks_one (Unknown spelling) vs = no_object (Node (Unknown spelling) vs) refl (λ q. refl)
    seeks_one (Object ob) vs = tests (found facts place ob) ∙ ap (λ (x : Option Value). if_passed (is_some x) m1) (sym (object_sought facts o.sought place ob vs o.sought_is))
    seeks_one Nil vs = no_object (Node Nil vs) refl (λ q. refl)
    seeks_one Pair vs = no_object (Node Pair vs) refl (λ q. refl)
    seeks_one (Closure c) vs = no_object (Node (Closure c) vs) refl (λ q. refl)

    one_leads : (l : Label) (vs : Values) → walk m.state.subst (term_value t.program m a) ≡ Node l vs → Lead t code dice 1 ps (charged set n1 (record m { ops = rest }) (seeks set f1 (asked1 (Node l vs)) m1)) (paid set ps (Runs m)) z
    one_leads l vs is =
        let d = seek_turns.one t plays o.world s.printed.out o.sought a o.writes.goes.behind o.tries l vs facts m z (has place a [] many next ps m rest z e s o) (sym o.fits) s.printed.lasts.facts is (here place a [] many next ps m rest z e s o) in
        let b = is_some (sought_of facts o.sought (first_walked t.program a m)) in
        let same : if_passed b m1 ≡ seeks set f1 (asked1 (Node l vs)) m1 = ap (λ (u : Value). if_passed (is_some (sought_of facts o.sought u)) m1) is ∙ sym (seeks_one l vs) in
        subst (λ (k : Status). Lead t code dice 1 ps (charged set n1 (record m { ops = rest }) k) (paid set ps (Runs m)) z) same
        (deciding_leads t plays code dice ps m rest z s (a ∷ []) o.writes.goes.behind b (find_most t.program a [] m) o.writes.goes.next (fits place a [] many next ps m rest z e s o) d)

  -- two terms
  module _ (place q0 : ℕ) (a c : Term) (many : Bool) (next : ℕ) (ps : List Print) (m : Mid) (rest : List Op) (z : ZState) (e : m.ops ≡ op.Find (Some place) (a ∷ c ∷ []) many next ∷ rest) (s : Stands t code ps (Runs m) z) (o : FindsObjects (λ y. OpsAt t code y rest) t s.at.x (Some place) (a ∷ c ∷ []) many next) (is_valued : o.sought ≡ Valued q0) where
    abbrev n2 : ℕ
    n2 = cells t.program (a ∷ c ∷ [])

    abbrev m2 : Mid
    m2 = more n2 (record m { ops = rest })

    abbrev va2 : Value
    va2 = term_value t.program m a

    abbrev vc2 : Value
    vc2 = term_value t.program m c

    abbrev f2 : Find
    f2 = record { place = Some place; args = va2 ∷ vc2 ∷ []; many = many; next = next }

    abbrev r2 : Registers
    r2 = registers_of m2

    abbrev w2 : World
    w2 = worked (looked_up r2 va2) (world_of [] m2)

    abbrev asked2 : Value → Effect
    asked2 u = ask_object set.game (Some place) u va2 (vc2 ∷ []) true [] r2 w2

    abbrev facts2 : List Fact
    facts2 = m.lasting.facts

    abbrev cost2 : ℕ
    cost2 = paid set ps (Runs m)

    same_place : place ≡ q0
    same_place = by_kind (slice_get (kinds_of t.program) place) (o.sought_is ∙ ap Some is_valued)
      where
        by_kind : (k : Option PlaceKind) → sought_by place k ≡ Some (Valued q0) → place ≡ q0
        by_kind None i = absurd (cc)
        by_kind (Some Flag) i = absurd (cc)
        by_kind (Some ObjectFlag) i = absurd (cc)
        by_kind (Some ObjectVar) i = cc
        by_kind (Some Parent) i = cc
        by_kind (Some Global) i = absurd (cc)

    valued : IsValued t.program place
    valued = subst (IsValued t.program) (sym same_place) (subst (HasSought t.program) is_valued (has (Some place) a (c ∷ []) many next ps m rest z e s o))

    here2 : InFront t s.printed.out (find_routine t.program (Valued place) (a ∷ c ∷ []) o.writes.goes.behind o.tries) (a ∷ c ∷ []) m z
    here2 = subst (λ (x : Sought). InFront t s.printed.out (find_routine t.program x (a ∷ c ∷ []) o.writes.goes.behind o.tries) (a ∷ c ∷ []) m z) (is_valued ∙ ap Valued (sym same_place)) (here (Some place) a (c ∷ []) many next ps m rest z e s o)

    seeks_two : (l : Label) (vs : Values) → seeks set f2 (asked2 (Node l vs)) m2 ≡ done set (reads_if_set (vc2 ∷ []) r2 (set_of facts2 place (Node l vs)) w2) m2
    seeks_two (Num i) vs = refl
    seeks_two (Word i) vs = refl
    seeks_two (Unknown spelling) vs = refl
    seeks_two (Object ob) vs = refl
    seeks_two Nil vs = refl
    seeks_two Pair vs = refl
    seeks_two (Closure c) vs = refl

    -- what is set is read and unified
    read_now : (v : Value) → IsSimple v → done set (reads_if_set (vc2 ∷ []) r2 (Some v) w2) m2 ≡ unified set (value_unified t.program c v m) m2 (Runs (bound (value_unified t.program c v m) m2))
    read_now v k =
        let world = worked (copied v) w2 in
        ap (λ (act : Act). done set act m2) (unifies_simple v k r2 vc2 world) ∙ unifies_now t plays code dice ((vc2, v) ∷ []) world m2

    read_leads : (l : Label) (vs : Values) → walk m.state.subst va2 ≡ Node l vs → m.state.heap + n2 ≤ 10000 → (x : Option Value) → set_of facts2 place (first_walked t.program a m) ≡ x → FindingValue t s.printed.out a c o.writes.goes.behind (set_of facts2 place (first_walked t.program a m)) m z → Lead t code dice 1 ps (done set (reads_if_set (vc2 ∷ []) r2 x w2) m2) cost2 z
    read_leads l vs is room None set_is k = led_fails t code dice 1 (omega arith) ps s.printed (more n2 m) m2 (find_most t.program a (c ∷ []) m) cost2 z refl (fits (Some place) a (c ∷ []) many next ps m rest z e s o) (k.fails room set_is)
    read_leads l vs is room (Some v) set_is k =
        let u = value_unified t.program c v m in
        let word = set_word t s.printed.out facts2 s.printed.lasts.facts place valued (first_walked t.program a m) v set_is in
        let most = find_most t.program a (c ∷ []) m + price m.state.subst (value_equation t.program c v m) in
        let le : most ≤ cost2 = tries_are_paid.answer set ps m place a c many next rest word.word v e valued o.writes.nodes set_is word.is in
        let unit = a_unit t code dice ps m in
        subst (λ (k' : Status). Lead t code dice 1 ps k' cost2 z) (sym (read_now v (simple_set word.word v word.is)))
        (unified_leads t code dice 1 (omega arith) ps s.printed u m2 (Runs (bound u m2)) cost2 z
        (λ few. agreed_leads t plays code dice ps s.printed o.writes.goes.behind u.agrees (bound u (more n2 m)) (bound u m2) (bound u m2) most cost2 z refl refl o.writes.goes.next le (k.unifies v room set_is few))
        (λ over. finishes t code dice 1 (omega arith) ps s.printed ending.TrailLimit (most + closing_most) cost2 z (λ q. (cc)) (omega arith) (k.meets_trail v room set_is over)))

    two_leads : (l : Label) (vs : Values) → walk m.state.subst va2 ≡ Node l vs → Lead t code dice 1 ps (charged set n2 (record m { ops = rest }) (seeks set f2 (asked2 (Node l vs)) m2)) cost2 z
    two_leads l vs is =
        let k = seek_turns.value t plays o.world s.printed.out place a c o.writes.goes.behind o.tries l vs facts2 m z valued s.printed.lasts.facts is here2 in
        let x = set_of facts2 place (first_walked t.program a m) in
        let unit = a_unit t code dice ps m in
        let same : done set (reads_if_set (vc2 ∷ []) r2 x w2) m2 ≡ seeks set f2 (asked2 (Node l vs)) m2 = ap (λ (u : Value). done set (reads_if_set (vc2 ∷ []) r2 (set_of facts2 place u) w2) m2) is ∙ sym (seeks_two l vs) in
        subst (λ (k' : Status). Lead t code dice 1 ps (charged set n2 (record m { ops = rest }) k') cost2 z) same
        (charged_leads t code dice 1 (omega arith) ps s.printed n2 (record m { ops = rest }) (done set (reads_if_set (vc2 ∷ []) r2 x w2) m2) cost2 z s.at.rep.mid.state.few
        (λ room. read_leads l vs is room x refl k)
        (λ over. finishes t code dice 1 (omega arith) ps s.printed ending.HeapLimit (10 + closing_most) cost2 z (λ q. (cc)) (omega arith) (k.meets_heap over)))

  -- ---- all

  module _ (ps : List Print) (m : Mid) (rest : List Op) (z : ZState) (s : Stands t code ps (Runs m) z) where
    node_leads : (place : Option ℕ) (a : Term) (others : List Term) (many : Bool) (next : ℕ) (e : m.ops ≡ op.Find place (a ∷ others) many next ∷ rest) (o : FindsObjects (λ y. OpsAt t code y rest) t s.at.x place (a ∷ others) many next) (x : Sought) → o.sought ≡ x → (l : Label) (vs : Values) → walk m.state.subst (term_value t.program m a) ≡ Node l vs →
        Lead t code dice 1 ps (charged set (cells t.program (a ∷ others)) (record m { ops = rest }) (seeks set (f place a others many next ps m rest z e s o) (asked place a others many next ps m rest z e s o (Node l vs)) (m' place a others many next ps m rest z e s o))) (paid set ps (Runs m)) z
    node_leads place a [] many next e o x i l vs is = one_leads place a many next ps m rest z e s o l vs is
    node_leads None a (c ∷ others) many next e o x i l vs is = absurd (let same : AnyObject ≡ o.sought = (let q = o.sought_is in cc) in let count = ap sought_terms same in let fit = o.fits in omega arith)
    node_leads (Some place) a (c ∷ []) many next e o AnyObject i l vs is = absurd (let count = ap sought_terms i in let fit = o.fits in omega arith)
    node_leads (Some place) a (c ∷ []) many next e o (Flagged q) i l vs is = absurd (let count = ap sought_terms i in let fit = o.fits in omega arith)
    node_leads (Some place) a (c ∷ []) many next e o (Valued q) i l vs is = two_leads place q a c many next ps m rest z e s o i l vs is
    node_leads (Some place) a (c ∷ d ∷ others) many next e o AnyObject i l vs is = absurd (let count = ap sought_terms i in let fit = o.fits in omega arith)
    node_leads (Some place) a (c ∷ d ∷ others) many next e o (Flagged q) i l vs is = absurd (let count = ap sought_terms i in let fit = o.fits in omega arith)
    node_leads (Some place) a (c ∷ d ∷ others) many next e o (Valued q) i l vs is = absurd (let count = ap sought_terms i in let fit = o.fits in omega arith)

    by_first : (place : Option ℕ) (a : Term) (others : List Term) (many : Bool) (next : ℕ) (e : m.ops ≡ op.Find place (a ∷ others) many next ∷ rest) (o : FindsObjects (λ y. OpsAt t code y rest) t s.at.x place (a ∷ others) many next) (u : Value) → walk m.state.subst (term_value t.program m a) ≡ u →
        Lead t code dice 1 ps (charged set (cells t.program (a ∷ others)) (record m { ops = rest }) (seeks set (f place a others many next ps m rest z e s o) (asked place a others many next ps m rest z e s o u) (m' place a others many next ps m rest z e s o))) (paid set ps (Runs m)) z
    by_first place a others many next e o (Var x) is = seeking_leads place a others many next ps m rest z e s o x is
    by_first place a others many next e o (Node l vs) is = node_leads place a others many next e o o.sought refl l vs is

  pub find_leads : (place : Option ℕ) (ts : List Term) (many : Bool) (next : ℕ) → ((behind_is : ℕ → Type 0) (y : ℕ) → OpAt behind_is t code y (op.Find place ts many next) → FindsObjects behind_is t y place ts many next) → OpLeads t code dice (op.Find place ts many next)
  find_leads place [] many next told ps m rest z e always s =
      let x = op.Find place [] many next in
      let o = told (λ y. OpsAt t code y rest) s.at.x (at_op t code dice ps m rest z x e s) in
      absurd (let fit = o.fits in none_sought o.sought fit)
  find_leads place (a ∷ others) many next told ps m rest z e always s =
      let x = op.Find place (a ∷ others) many next in
      let o = told (λ y. OpsAt t code y rest) s.at.x (at_op t code dice ps m rest z x e s) in
      let u = walk m.state.subst (term_value t.program m a) in
      let f' = f place a others many next ps m rest z e s o in
      let m2 = m' place a others many next ps m rest z e s o in
      silently t code dice ps m rest z x e _ (paid set ps (Runs m)) refl
      (subst (λ (k : Effect). Lead t code dice 1 ps (charged set (cells t.program (a ∷ others)) (record m { ops = rest }) (seeks set f' k m2)) (paid set ps (Runs m)) z) (sym (asked_is place a others many next ps m rest z e s o place refl))
      (by_first ps m rest z s place a others many next e o u refl))

  -- ## Objects that are tried

  module _ (blocks : BlocksAt t code) (ps : List Print) (m : Mid) (p : Printed t ps m.lasting) (f : Find) (z : ZState) where
    -- the machine at the block, and what is done there
    abbrev inside_block : List ℕ → Mid
    inside_block os = trying set f os m

    abbrev act : List ℕ → ℕ → Option Value → Act
    act os o x = finds_if_set f.args o (registers_of (inside_block os)) x (begun (registers_of (inside_block os)) 1 (world_of [] (inside_block os)))

    abbrev try_cost : List ℕ → ℕ → ℕ
    try_cost os o = paid set ps (Resumes (Tries f (o ∷ os)) m)

    -- What an act comes to: equations are unified, in a world in which the same lasts.
    record DoneAs (os : List ℕ) (o : ℕ) (v : Value) (xs : List Value) : Type 0 where
      world : World
      lasts : lasting_in world (inside_block os) ≡ inside_block os
      is : finds_if_set xs o (registers_of (inside_block os)) (Some v) (begun (registers_of (inside_block os)) 1 (world_of [] (inside_block os))) ≡ UnifiesNow (registers_of (inside_block os)) (try_equations xs o v) world

    act_is : (os : List ℕ) (o : ℕ) → found_at [] f o (inside_block os) ≡ act os o (found m.lasting.facts f.place o)
    act_is [] o = refl
    act_is (q ∷ qs) o = refl

    -- where nothing is set
    none_leads : (os : List ℕ) (o : ℕ) → ComesTo t p.out (t.p.names.routine FAIL) (tried_in f os m) 120 z → Leads t code dice 0 ps (done set (act os o None) (inside_block os)) (try_cost os o) z
    none_leads [] o k = leads_meant t code dice 0 ps (done set (act [] o None) (inside_block [])) (try_cost [] o) z (led_fails t code dice 0 (omega arith) ps p m (lasting_in (begun (registers_of (inside_block [])) 1 (world_of [] (inside_block []))) (inside_block [])) 120 (try_cost [] o) z refl (tries_are_paid.fails set ps m f o []) k)
    none_leads (q ∷ qs) o k = leads_meant t code dice 0 ps (done set (act (q ∷ qs) o None) (inside_block (q ∷ qs))) (try_cost (q ∷ qs) o) z (led_fails t code dice 0 (omega arith) ps p (tried_in f (q ∷ qs) m) (lasting_in (begun (registers_of (inside_block (q ∷ qs))) 1 (world_of [] (inside_block (q ∷ qs)))) (inside_block (q ∷ qs))) 120 (try_cost (q ∷ qs) o) z refl (tries_are_paid.fails set ps m f o (q ∷ qs)) k)

    -- it is unified
    unifies_as : (os : List ℕ) (o : ℕ) (v : Value) (xs : List Value) → f.args ≡ xs → 1 ≤ length xs → (2 ≤ length xs → IsSimple v) → DoneAs os o v xs
    unifies_as os o v [] is some simple = absurd (omega arith)
    unifies_as os o v (a ∷ []) is some simple = record { world = begun (registers_of (inside_block os)) 1 (world_of [] (inside_block os)); lasts = refl; is = refl }
    unifies_as os o v (a ∷ b ∷ xs) is some simple = record { world = worked (copied v) (begun (registers_of (inside_block os)) 1 (world_of [] (inside_block os))); lasts = refl; is = both_simple v (simple (omega arith)) (registers_of (inside_block os)) a b o (worked (copied v) (begun (registers_of (inside_block os)) 1 (world_of [] (inside_block os)))) }

    -- the state inside is that of the machine that memory stands for
    state_is : (os : List ℕ) → (inside_block os).state ≡ (tried_in f os m).state
    state_is [] = refl
    state_is (q ∷ qs) = refl

    abbrev u : List ℕ → ℕ → Value → Unified
    u os o v = try_unified f o v (tried_in f os m)

    -- where it clashes
    clash_leads : (os : List ℕ) (o : ℕ) (v : Value) → try_most f o v (tried_in f os m) ≤ try_cost os o → ComesTo t p.out (t.p.names.routine FAIL) (bound (u os o v) (tried_in f os m)) (try_most f o v (tried_in f os m)) z → Leads t code dice 0 ps (Fails (bound (u os o v) (inside_block os))) (try_cost os o) z
    clash_leads [] o v le k = leads_meant t code dice 0 ps (Fails (bound (u [] o v) (inside_block []))) (try_cost [] o) z (led_fails t code dice 0 (omega arith) ps p (bound (u [] o v) m) (bound (u [] o v) (inside_block [])) (try_most f o v m) (try_cost [] o) z refl le k)
    clash_leads (q ∷ qs) o v le k = leads_meant t code dice 0 ps (Fails (bound (u (q ∷ qs) o v) (inside_block (q ∷ qs)))) (try_cost (q ∷ qs) o) z (led_fails t code dice 0 (omega arith) ps p (bound (u (q ∷ qs) o v) (tried_in f (q ∷ qs) m)) (bound (u (q ∷ qs) o v) (inside_block (q ∷ qs))) (try_most f o v (tried_in f (q ∷ qs) m)) (try_cost (q ∷ qs) o) z refl le k)

    -- where it agrees
    agree_leads : (os : List ℕ) (o : ℕ) (v : Value) (many : Bool) → f.many ≡ many → LeavesFirst code many f.next → try_most f o v (tried_in f os m) ≤ try_cost os o → GoesOnTried t p.out (t.at_block f.next) many os (place_of m) (bound (u os o v) (tried_in f os m)) (try_most f o v (tried_in f os m)) z → Leads t code dice 0 ps (Runs (bound (u os o v) (inside_block os))) (try_cost os o) z
    agree_leads [] o v true e leaves le k = leads_meant t code dice 0 ps (Runs (bound (u [] o v) (inside_block []))) (try_cost [] o) z (led_runs t code dice 0 (omega arith) ps p (t.at_block f.next) (bound (u [] o v) m) (bound (u [] o v) (inside_block [])) (try_most f o v m) (try_cost [] o) z (ap (λ (b : Bool). record (bound (u [] o v) (passed m)) { ops = block_at code f.next; inner = inner_for b (place_of m) m.inner }) e) (blocks.each f.next) le k)
    agree_leads (q ∷ qs) o v true e leaves le k = leads_meant t code dice 0 ps (Runs (bound (u (q ∷ qs) o v) (inside_block (q ∷ qs)))) (try_cost (q ∷ qs) o) z (led_runs t code dice 0 (omega arith) ps p (t.at_block f.next) (bound (u (q ∷ qs) o v) (tried_in f (q ∷ qs) m)) (bound (u (q ∷ qs) o v) (inside_block (q ∷ qs))) (try_most f o v (tried_in f (q ∷ qs) m)) (try_cost (q ∷ qs) o) z (ap (λ (b : Bool). record (bound (u (q ∷ qs) o v) (tried_in f (q ∷ qs) m)) { ops = block_at code f.next; inner = inner_for b (place_of m) m.inner }) e) (blocks.each f.next) le k)
    agree_leads [] o v false e leaves le k =
        let b = commit_first (block_at code f.next) leaves in
        led_lands t code dice 0 (omega arith) ps p (t.at_block f.next) (within (place_of m) (bound (u [] o v) m)) (bound (u [] o v) (inside_block [])) b.rest (try_most f o v m) (try_cost [] o) z (ap (λ (b' : Bool). record (bound (u [] o v) (passed m)) { ops = block_at code f.next; inner = inner_for b' (place_of m) m.inner }) e) b.is (blocks.each f.next) le k
    agree_leads (q ∷ qs) o v false e leaves le k = leads_meant t code dice 0 ps (Runs (bound (u (q ∷ qs) o v) (inside_block (q ∷ qs)))) (try_cost (q ∷ qs) o) z (led_runs t code dice 0 (omega arith) ps p (t.at_block f.next) (within (place_of m) (bound (u (q ∷ qs) o v) (tried_in f (q ∷ qs) m))) (bound (u (q ∷ qs) o v) (inside_block (q ∷ qs))) (try_most f o v (tried_in f (q ∷ qs) m)) (try_cost (q ∷ qs) o) z (ap (λ (b : Bool). record (bound (u (q ∷ qs) o v) (tried_in f (q ∷ qs) m)) { ops = block_at code f.next; inner = inner_for b (place_of m) m.inner }) e) (blocks.each f.next) le k)

    answer_leads : (os : List ℕ) (o : ℕ) (v : Value) → LeavesFirst code f.many f.next → found m.lasting.facts f.place o ≡ Some v → m.state.heap + trying_cells f os ≤ 10000 → try_most f o v (tried_in f os m) ≤ try_cost os o → Trying t p.out f o os (found m.lasting.facts f.place o) m z → trail_more (tried_in f os m).state (u os o v) ≤ 2000 → (b : Bool) → (u os o v).agrees ≡ b → Leads t code dice 0 ps (if_agreed b (bound (u os o v) (inside_block os)) (Runs (bound (u os o v) (inside_block os)))) (try_cost os o) z
    answer_leads os o v leaves there room le k fit true agree_is = agree_leads os o v f.many refl leaves le (k.agrees v room there fit agree_is)
    answer_leads os o v leaves there room le k fit false agree_is = clash_leads os o v le (k.clashes v room there fit agree_is)

    some_leads : (os : List ℕ) (o : ℕ) (v : Value) → LeavesFirst code f.many f.next → found m.lasting.facts f.place o ≡ Some v → m.state.heap + trying_cells f os ≤ 10000 → 1 ≤ length f.args → (2 ≤ length f.args → IsSimple v) → Trying t p.out f o os (found m.lasting.facts f.place o) m z → Leads t code dice 0 ps (done set (act os o (Some v)) (inside_block os)) (try_cost os o) z
    some_leads os o v leaves there room some simple k =
        let d = unifies_as os o v f.args refl some simple in
        let le : try_most f o v (tried_in f os m) ≤ try_cost os o = tries_are_paid.tries set ps m f o os v there (λ two. (simple two).copied_is) in
        let M = inside_block os in
        let unit = units_never_none set ps (Resumes (Tries f (o ∷ os)) m) (λ q. q) in
        let now : done set (act os o (Some v)) M ≡ unified set (solve M.state.subst (try_equations f.args o v)) M (Runs (bound (solve M.state.subst (try_equations f.args o v)) M)) =
        ap (λ (a : Act). done set a M) d.is ∙ unifies_now t plays code dice (try_equations f.args o v) d.world M
        ∙ ap (λ (k' : Mid). unified set (solve M.state.subst (try_equations f.args o v)) k' (Runs (bound (solve M.state.subst (try_equations f.args o v)) k'))) d.lasts in
        let same : solve M.state.subst (try_equations f.args o v) ≡ u os o v = ap (λ (s : State). solve s.subst (try_equations f.args o v)) (state_is os) in
        let trail : trail_more M.state (u os o v) ≡ trail_more (tried_in f os m).state (u os o v) = ap (λ (s : State). trail_more s (u os o v)) (state_is os) in
        let goes : Leads t code dice 0 ps (unified set (u os o v) M (Runs (bound (u os o v) M))) (try_cost os o) z =
        unified_means t code dice 0 ps (u os o v) M (Runs (bound (u os o v) M)) (try_cost os o) z
        (λ few. answer_leads os o v leaves there room le k (omega arith) (u os o v).agrees refl)
        (λ over. finishes t code dice 0 (omega arith) ps p ending.TrailLimit (try_most f o v (tried_in f os m) + closing_most) (try_cost os o) z (λ q. (cc)) (omega arith) (k.meets_trail v room there (omega arith))) in
        subst (λ (n : Status). Leads t code dice 0 ps n (try_cost os o) z) (sym now) (subst (λ (w : Unified). Leads t code dice 0 ps (unified set w M (Runs (bound w M))) (try_cost os o) z) (sym same) goes)

    -- the value of an object, where two are matched
    simple_found : (s : Sought) → sought_at t.program f.place ≡ Some s → length f.args ≡ sought_terms s → (o : ℕ) (v : Value) → found m.lasting.facts f.place o ≡ Some v → 2 ≤ length f.args → IsSimple v
    simple_found AnyObject e count o v there two = absurd (omega arith)
    simple_found (Flagged q) e count o v there two = absurd (omega arith)
    simple_found (Valued q) e count o v there two =
        let here = sought_here t.program (Valued q) f.place e in
        let w = word_by t p.out m.lasting.facts p.lasts.facts q here.has.kind here.has.is here.has.has o v (object_sought m.lasting.facts (Valued q) f.place o NoMore e ∙ there) in
        simple_set w.word v w.is

    some_args : (s : Sought) → 1 ≤ sought_terms s
    some_args AnyObject = omega arith
    some_args (Flagged q) = omega arith
    some_args (Valued q) = omega arith

    object_leads : (o : ℕ) (os : List ℕ) → LeavesFirst code f.many f.next → TriesAt t p.out f (o ∷ os) m z → (x : Option Value) → found m.lasting.facts f.place o ≡ x → m.state.heap + trying_cells f os ≤ 10000 → Leads t code dice 0 ps (done set (act os o x) (inside_block os)) (try_cost os o) z
    object_leads o os leaves at None there room = none_leads os o ((try_turns t plays blocks.world p.out f o os m.lasting.facts m z p.lasts.facts at).fails room there)
    object_leads o os leaves at (Some v) there room =
        let d = at.tries in
        let some = some_args d.sought in
        let count = d.count in
        some_leads os o v leaves there room (omega arith) (λ two. simple_found d.sought d.sought_is d.count o v there two) (try_turns t plays blocks.world p.out f o os m.lasting.facts m z p.lasts.facts at)

    tries_by : (objects : List ℕ) → LeavesFirst code f.many f.next → TriesAt t p.out f objects m z → Leads t code dice 0 ps (tries set f objects m) (step_cost set ps (Resumes (Tries f objects) m)) z
    tries_by [] leaves at =
        let unit = units_never_none set ps (Resumes (Tries f []) m) (λ q. q) in
        leads_meant t code dice 0 ps (Fails m) (step_cost set ps (Resumes (Tries f []) m)) z (led_fails t code dice 0 (omega arith) ps p m m 3 (step_cost set ps (Resumes (Tries f []) m)) z refl (omega arith) (none_tried_turns t plays p.out f m z (no_objects t.program.objects at.tries.objects_are) at))
    tries_by (o ∷ os) leaves at =
        let M = inside_block os in
        let k = try_turns t plays blocks.world p.out f o os m.lasting.facts m z p.lasts.facts at in
        let unit = units_never_none set ps (Resumes (Tries f (o ∷ os)) m) (λ q. q) in
        charged_means t code dice 0 ps (trying_cells f os) m (done set (found_at [] f o M) M) (try_cost os o) z at.rep.mid.state.few
        (λ room. subst (λ (a : Act). Leads t code dice 0 ps (done set a M) (try_cost os o) z) (sym (act_is os o)) (object_leads o os leaves at (found m.lasting.facts f.place o) refl room))
        (λ over. finishes t code dice 0 (omega arith) ps p ending.HeapLimit (20 + closing_most) (try_cost os o) z (λ q. (cc)) (omega arith) (k.meets_heap over))

module _ (t : Telling) (plays : Playing t) (code : Code) (blocks : BlocksAt t code) (dice : List ℕ) where
  pub tries_means : (ps : List Print) (m : Mid) (p : Printed t ps m.lasting) (f : Find) (objects : List ℕ) (z : ZState) → Always code (Resumes (Tries f objects) m) → TriesAt t p.out f objects m z → Leads t code dice 0 ps (tries (story_setting t code dice) f objects m) (step_cost (story_setting t code dice) ps (Resumes (Tries f objects) m)) z
  tries_means ps m p f objects z always at = tries_by t plays code dice blocks ps m p f z objects always.leaves at
