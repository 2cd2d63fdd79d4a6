-- What is built gets no lighter, and what weighs too much is refused as too many.
use Rattle.std.proofs.Common.{◌≡◌, ◌≤◌, ◌<◌, inl, inr, ◌+◌, ◌-◌, ℕ, List, [], ◌∷◌, ◌++◌, Bool, true, false, Option, Some, None, length, map, refl, ◌∙◌, ap, subst, arith}
use Rattle.std.specs.Prelude.{sum_by, IfSome, IfNone}
use Rattle.std.specs.List.{list_any}
use Rattle.std.proofs.lemmas.Bool.{or_parts}
use Rattle.std.proofs.lemmas.List.{length-append}
use Rattle.std.proofs.lemmas.List.Sums.{sum_by-cons, sum_by-append, sum_by_push, sum_by-take-drop}
use Rattle.dg_base.specs.Tree as tree
use Rattle.dg_base.specs.Tree.{Part, Parts, Value, Values, Stmt, Stmts, Body, Arms, Changes, parts_of, values_of, stmts_of, branches_of, arms_of, changes_of}
use Rattle.dg_base.specs.Mentions.{Mentions, join, things, weight_of, of_value, of_values, of_nested, of_parts, of_stmt, of_stmts, of_body, of_branches, of_arms, of_changes}
use Rattle.dg_base.proofs.MentionLemmas.{things_join, weight_append}
use Rattle.dg_plain.specs.Building.{Built, front, behind, init, last_or, no_stmt, closing, list_of_values, list_of_parts, list_of_stmts, list_of_branches, list_of_arms, list_of_changes}
use Rattle.dg_plain.specs.declared.work.Asking.TheVariants as asking
use Rattle.dg_plain.specs.declared.work.Close.{Close}
use Rattle.dg_plain.specs.declared.work.Close.TheVariants as close
use Rattle.dg_plain.specs.declared.work.Wrap.TheVariants as wrap
use Rattle.dg_base.specs.TreeView.{part_view, value_view, stmt_view, arm_view, body_view, change_view, branches_view}
use Rattle.dg_put.specs.Put.{one_change, changes_in, put_value, put_values, put_parts, put_stmt, put_stmts, put_body, put_arms, put_changes}
use Rattle.dg_put.specs.inside.Putting.{Around, after_body, after_changes, after_parts, bare, does, is_now, numbered, run}
use Rattle.dg_put.specs.declared.place.Place.{Place as CodePlace}
use Rattle.dg_put.specs.declared.work.Work.{Work}
use Rattle.dg_put.specs.declared.work.Work.TheVariants as work
use Rattle.dg_put.proofs.BuiltLemmas.{parts_again, changes_again}
use Rattle.dg_put.specs.inside.Weights.{IsPast, HasManyHeads, changes_load, load, load_of, value_load, parts_load, part_load, stmt_load, stmts_load, body_load, arm_load, change_load, heavy, gain}

-- ---- mentions

pub join_load : (a b : Mentions) → load_of (join a b) ≡ load_of a + load_of b
join_load a b = ap (weight_of load) (things_join a b) ∙ weight_append load (things a) (things b)

closure_load : (t : Bool) (b : Body) → load_of (of_value t (tree.closure b)) ≡ load_of (of_branches t b) + 1
closure_load t b = omega (arith, weight_append load (things (of_branches t b)) [])

-- a value, a body and a value that are gathered
gathered_twice : (t : Bool) (v : Value) (b : Body) (into : Value) → load_of (of_value t v) ≡ value_load v → load_of (of_branches t b) ≡ body_load b → load_of (of_value t into) ≡ value_load into → load_of (join (of_value t v) (join (of_body t b) (of_value t into))) ≡ load_of (join (of_value false v) (join (of_body false b) (of_value false into)))
gathered_twice t v b into e d f =
    omega (
      arith,
      e,
      d,
      f,
      join_load (of_value t v) (join (of_body t b) (of_value t into)),
      join_load (of_body t b) (of_value t into),
      join_load (of_value false v) (join (of_body false b) (of_value false into)),
      join_load (of_body false b) (of_value false into),
    )

mutual
  -- it weighs the same at one place as at two
  twice_value : (t : Bool) (v : Value) → load_of (of_value t v) ≡ value_load v
  twice_value t (tree.num n) = refl
  twice_value t (tree.dict_word w) = refl
  twice_value t (tree.object_name n) = refl
  twice_value t tree.current_topic = refl
  twice_value t tree.anonymous = refl
  twice_value t (tree.variable n) = refl
  twice_value t (tree.plain_list vs) = omega (arith, twice_values t vs)
  twice_value t (tree.tailed_list vs v) = omega (arith, twice_values t vs, twice_value t v, join_load (of_values t vs) (of_value t v), join_load (of_values false vs) (of_value false v))
  twice_value t (tree.closure b) = omega (arith, twice_branches t b, closure_load t b, closure_load false b)
  twice_value t (tree.nested ps) = omega (arith, twice_nested t ps, twice_nested false ps)
  twice_value t (tree.word_choice ws) = refl

  twice_values : (t : Bool) (vs : Values) → load_of (of_values t vs) ≡ load_of (of_values false vs)
  twice_values t tree.no_values = refl
  twice_values t (tree.value v vs) = omega (arith, twice_value t v, twice_values t vs, join_load (of_value t v) (of_values t vs), join_load (of_value false v) (of_values false vs))

  twice_nested : (t : Bool) (ps : Parts) → load_of (of_nested t ps) ≡ parts_load ps
  twice_nested t tree.no_parts = refl
  twice_nested t (tree.part (tree.part_word w) ps) = twice_nested t ps
  twice_nested t (tree.part (tree.part_value v) ps) = omega (arith, twice_value true v, twice_parts t ps, join_load (of_value true v) (of_parts t ps), join_load (of_value false v) (of_parts false ps))

  twice_parts : (t : Bool) (ps : Parts) → load_of (of_parts t ps) ≡ parts_load ps
  twice_parts t tree.no_parts = refl
  twice_parts t (tree.part (tree.part_word w) ps) = twice_parts t ps
  twice_parts t (tree.part (tree.part_value v) ps) = omega (arith, twice_value t v, twice_parts t ps, join_load (of_value t v) (of_parts t ps), join_load (of_value false v) (of_parts false ps))

  twice_stmt : (t : Bool) (x : Stmt) → load_of (of_stmt t x) ≡ stmt_load x
  twice_stmt t (tree.text w) = refl
  twice_stmt t (tree.print v) = omega (arith, twice_value t v)
  twice_stmt t (tree.ask ps) = omega (arith, twice_parts t ps)
  twice_stmt t (tree.ask_all ps) = omega (arith, twice_parts t ps)
  twice_stmt t (tree.ask_not ps) = omega (arith, twice_parts t ps)
  twice_stmt t (tree.group b) = omega (arith, twice_branches t b)
  twice_stmt t (tree.not_group b) = omega (arith, twice_branches t b)
  twice_stmt t (tree.now cs) = omega (arith, twice_changes t cs)
  twice_stmt t (tree.choice arms) = omega (arith, twice_arms t arms)
  twice_stmt t (tree.choice_else arms b) = omega (arith, twice_arms t arms, twice_branches t b, join_load (of_arms t arms) (of_body t b), join_load (of_arms false arms) (of_body false b))
  twice_stmt t (tree.exhaust x) = omega (arith, twice_stmt t x)
  twice_stmt t (tree.stoppable x) = omega (arith, twice_stmt t x)
  twice_stmt t (tree.collect v b into) = omega (arith, gathered_twice t v b into (twice_value t v) (twice_branches t b) (twice_value t into))
  twice_stmt t (tree.accumulate v b into) = omega (arith, gathered_twice t v b into (twice_value t v) (twice_branches t b) (twice_value t into))
  twice_stmt t (tree.select mode b) = omega (arith, twice_branches t b)
  twice_stmt t (tree.first_answer b) = omega (arith, twice_branches t b)

  twice_stmts : (t : Bool) (ss : Stmts) → load_of (of_stmts t ss) ≡ stmts_load ss
  twice_stmts t tree.no_stmts = refl
  twice_stmts t (tree.stmt x ss) = omega (arith, twice_stmt t x, twice_stmts t ss, join_load (of_stmt t x) (of_stmts t ss), join_load (of_stmt false x) (of_stmts false ss))

  twice_branches : (t : Bool) (b : Body) → load_of (of_branches t b) ≡ body_load b
  twice_branches t tree.no_branches = refl
  twice_branches t (tree.branch ss b) = omega (arith, twice_stmts t ss, twice_branches t b, join_load (of_stmts t ss) (of_branches t b), join_load (of_stmts false ss) (of_branches false b))

  twice_arms : (t : Bool) (arms : Arms) → load_of (of_arms t arms) ≡ load_of (of_arms false arms)
  twice_arms t tree.no_arms = refl
  twice_arms t (tree.arm c b arms) =
      omega (
        arith,
        twice_branches t c,
        twice_branches t b,
        twice_arms t arms,
        join_load (of_body t c) (join (of_body t b) (of_arms t arms)),
        join_load (of_body t b) (of_arms t arms),
        join_load (of_body false c) (join (of_body false b) (of_arms false arms)),
        join_load (of_body false b) (of_arms false arms),
      )

  twice_changes : (t : Bool) (cs : Changes) → load_of (of_changes t cs) ≡ load_of (of_changes false cs)
  twice_changes t tree.no_changes = refl
  twice_changes t (tree.change ps set cs) = omega (arith, twice_parts t ps, twice_changes t cs, join_load (of_parts t ps) (of_changes t cs), join_load (of_parts false ps) (of_changes false cs))

-- ---- lists

values_load : (vs : List Value) → load_of (of_values false (values_of vs)) ≡ sum_by value_load vs
values_load [] = refl
values_load (v ∷ vs) = omega (arith, values_load vs, sum_by-cons value_load v vs, join_load (of_value false v) (of_values false (values_of vs)))

all_parts_load : (ps : List Part) → parts_load (parts_of ps) ≡ sum_by part_load ps
all_parts_load [] = refl
all_parts_load (tree.part_word w ∷ ps) = omega (arith, all_parts_load ps, sum_by-cons part_load (tree.part_word w) ps)
all_parts_load (tree.part_value v ∷ ps) = omega (arith, all_parts_load ps, sum_by-cons part_load (tree.part_value v) ps, join_load (of_value false v) (of_parts false (parts_of ps)))

all_stmts_load : (ss : List Stmt) → stmts_load (stmts_of ss) ≡ sum_by stmt_load ss
all_stmts_load [] = refl
all_stmts_load (x ∷ ss) = omega (arith, all_stmts_load ss, sum_by-cons stmt_load x ss, join_load (of_stmt false x) (of_stmts false (stmts_of ss)))

all_branches_load : (bs : List Stmts) → body_load (branches_of bs) ≡ sum_by stmts_load bs
all_branches_load [] = refl
all_branches_load (ss ∷ bs) = omega (arith, all_branches_load bs, sum_by-cons stmts_load ss bs, join_load (of_stmts false ss) (of_branches false (branches_of bs)))

all_arms_load : (arms : List (Body × Body)) → load_of (of_arms false (arms_of arms)) ≡ sum_by arm_load arms
all_arms_load [] = refl
all_arms_load (a ∷ arms) =
    omega (
      arith,
      all_arms_load arms,
      sum_by-cons arm_load a arms,
      join_load (of_body false a.0) (join (of_body false a.1) (of_arms false (arms_of arms))),
      join_load (of_body false a.1) (of_arms false (arms_of arms)),
    )

all_changes_load : (cs : List (Parts × Bool)) → load_of (of_changes false (changes_of cs)) ≡ sum_by change_load cs
all_changes_load [] = refl
all_changes_load (c ∷ cs) = omega (arith, all_changes_load cs, sum_by-cons change_load c cs, join_load (of_parts false c.0) (of_changes false (changes_of cs)))

-- ---- the ends of lists

-- the last so many of one list are made one of another
taken : {X Y : Type 0} (f : X → ℕ) (g : Y → ℕ) (k : ℕ) (xs : List X) (ys : List Y) (y : Y) (n : ℕ) → g y ≡ sum_by f (behind k xs) + n → sum_by f xs + sum_by g ys + n ≡ sum_by f (front k xs) + sum_by g (ys ++ y ∷ [])
taken f g k xs ys y n e = omega (arith, e, sum_by-take-drop f xs (length xs - k), sum_by_push g ys y)

-- the last one weighs all that it leaves behind
ended : {X : Type 0} (f : X → ℕ) (d : X) (xs : List X) → sum_by f xs ≤ sum_by f (init xs) + f (last_or d xs)
ended f d [] = omega arith
ended f d (x ∷ []) = omega arith
ended f d (x ∷ y ∷ xs) = omega (arith, ended f x (y ∷ xs), sum_by-cons f x (y ∷ xs), sum_by-cons f x (init (y ∷ xs)))

more : {X : Type 0} (f : X → ℕ) (xs ys : List X) → sum_by f xs ≤ sum_by f (xs ++ ys)
more f xs ys = omega (arith, sum_by-append f xs ys)

-- ---- a construct that is closed

-- the last one of a list is made one of another
moved : {X Y : Type 0} (f : X → ℕ) (g : Y → ℕ) (d : X) (xs : List X) (ys : List Y) (y : Y) (n : ℕ) → g y ≡ f (last_or d xs) + n → sum_by f xs + sum_by g ys + n ≤ sum_by f (init xs) + sum_by g (ys ++ y ∷ [])
moved f g d xs ys y n e = omega (arith, e, ended f d xs, sum_by_push g ys y)

-- what is added where a value, a body and a value are gathered
gathered : (v : Value) (b : Body) (into : Value) → load_of (join (of_value false v) (join (of_body false b) (of_value false into))) ≡ value_load v + body_load b + value_load into
gathered v b into = omega (arith, join_load (of_value false v) (join (of_body false b) (of_value false into)), join_load (of_body false b) (of_value false into))

gathers : (values : List Value) (bodies : List Body) (stmts : List Stmt) (x : Stmt) → stmt_load x ≡ value_load (last_or tree.current_topic (init values)) + body_load (last_or tree.no_branches bodies) + value_load (last_or tree.current_topic values) + 1 → sum_by value_load values + sum_by body_load bodies + sum_by stmt_load stmts + 1 ≤ sum_by value_load (init (init values)) + sum_by body_load (init bodies) + sum_by stmt_load (stmts ++ x ∷ [])
gathers values bodies stmts x e =
    omega (arith, e, ended value_load tree.current_topic values, ended value_load tree.current_topic (init values), ended body_load tree.no_branches bodies, sum_by_push stmt_load stmts x)

list_closed : (k : ℕ) (vs : List Value) → sum_by value_load vs + 1 ≤ sum_by value_load (front k vs ++ tree.plain_list (values_of (behind k vs)) ∷ [])
list_closed k vs =
    omega (arith, values_load (behind k vs), sum_by-take-drop value_load vs (length vs - k), sum_by_push value_load (front k vs) (tree.plain_list (values_of (behind k vs))))

tailed_closed : (k : ℕ) (vs : List Value) → sum_by value_load vs + 1 ≤ sum_by value_load (front k (init vs) ++ tree.tailed_list (values_of (behind k (init vs))) (last_or tree.current_topic vs) ∷ [])
tailed_closed k vs =
    let last = last_or tree.current_topic vs in
    let inner = values_of (behind k (init vs)) in
    omega (
      arith,
      values_load (behind k (init vs)),
      sum_by-take-drop value_load (init vs) (length (init vs) - k),
      join_load (of_values false inner) (of_value false last),
      ended value_load tree.current_topic vs,
      sum_by_push value_load (front k (init vs)) (tree.tailed_list inner last),
    )

else_closed : (k : ℕ) (arms : List (Body × Body)) (bodies : List Body) (stmts : List Stmt) → let x = tree.choice_else (arms_of (behind k arms)) (last_or tree.no_branches bodies) in sum_by arm_load arms + sum_by body_load bodies + sum_by stmt_load stmts + 1 ≤ sum_by arm_load (front k arms) + sum_by body_load (init bodies) + sum_by stmt_load (stmts ++ x ∷ [])
else_closed k arms bodies stmts =
    let last = last_or tree.no_branches bodies in
    let inner = arms_of (behind k arms) in
    omega (
      arith,
      all_arms_load (behind k arms),
      sum_by-take-drop arm_load arms (length arms - k),
      join_load (of_arms false inner) (of_body false last),
      ended body_load tree.no_branches bodies,
      sum_by_push stmt_load stmts (tree.choice_else inner last),
    )

arm_closed : (bodies : List Body) (arms : List (Body × Body)) → let a : Body × Body = (last_or tree.no_branches (init bodies), last_or tree.no_branches bodies) in sum_by body_load bodies + sum_by arm_load arms ≤ sum_by body_load (init (init bodies)) + sum_by arm_load (arms ++ a ∷ [])
arm_closed bodies arms =
    omega (
      arith,
      ended body_load tree.no_branches bodies,
      ended body_load tree.no_branches (init bodies),
      sum_by_push arm_load arms (last_or tree.no_branches (init bodies), last_or tree.no_branches bodies),
    )

-- what is closed weighs so much more
pub closed_gains : (k : Close) (s : Built) → heavy s + gain k ≤ heavy (closing bare k s)
closed_gains (close.List k) s = omega (arith, list_closed k s.values)
closed_gains (close.Tailed k) s = omega (arith, tailed_closed k s.values)
closed_gains close.Closure s = omega (arith, moved body_load value_load tree.no_branches s.bodies s.values (tree.closure (last_or tree.no_branches s.bodies)) 1 (closure_load false (last_or tree.no_branches s.bodies)))
closed_gains (close.Nested k) s =
    let ps = parts_of (behind k s.parts) in
    omega (arith, taken part_load value_load k s.parts s.values (tree.nested ps) 2 (omega (arith, twice_nested false ps, all_parts_load (behind k s.parts))))
closed_gains (close.Put k n) s =
    let ps = parts_of (behind k s.parts) in
    omega (arith, taken part_load stmt_load k s.parts s.puts (tree.ask_all ps) 52 (omega (arith, all_parts_load (behind k s.parts))))
closed_gains close.Part s = omega (arith, moved value_load part_load tree.current_topic s.values s.parts (tree.part_value (last_or tree.current_topic s.values)) 0 (omega arith))
closed_gains close.Print s = omega (arith, moved value_load stmt_load tree.current_topic s.values s.stmts (tree.print (last_or tree.current_topic s.values)) 1 (omega arith))
closed_gains (close.Query asking.One k) s = omega (arith, taken part_load stmt_load k s.parts s.stmts (tree.ask (parts_of (behind k s.parts))) 52 (omega (arith, all_parts_load (behind k s.parts))))
closed_gains (close.Query asking.All k) s = omega (arith, taken part_load stmt_load k s.parts s.stmts (tree.ask_all (parts_of (behind k s.parts))) 52 (omega (arith, all_parts_load (behind k s.parts))))
closed_gains (close.Query asking.Not k) s = omega (arith, taken part_load stmt_load k s.parts s.stmts (tree.ask_not (parts_of (behind k s.parts))) 52 (omega (arith, all_parts_load (behind k s.parts))))
closed_gains (close.Wrapped wrap.Group) s = omega (arith, moved body_load stmt_load tree.no_branches s.bodies s.stmts (tree.group (last_or tree.no_branches s.bodies)) 1 (omega arith))
closed_gains (close.Wrapped wrap.NotGroup) s = omega (arith, moved body_load stmt_load tree.no_branches s.bodies s.stmts (tree.not_group (last_or tree.no_branches s.bodies)) 1 (omega arith))
closed_gains (close.Wrapped wrap.First) s = omega (arith, moved body_load stmt_load tree.no_branches s.bodies s.stmts (tree.first_answer (last_or tree.no_branches s.bodies)) 1 (omega arith))
closed_gains (close.Now k) s = omega (arith, taken change_load stmt_load k s.changes s.stmts (tree.now (changes_of (behind k s.changes))) 1 (omega (arith, all_changes_load (behind k s.changes))))
closed_gains (close.If k) s = omega (arith, taken arm_load stmt_load k s.arms s.stmts (tree.choice (arms_of (behind k s.arms))) 1 (omega (arith, all_arms_load (behind k s.arms))))
closed_gains (close.IfElse k) s = omega (arith, else_closed k s.arms s.bodies s.stmts)
closed_gains close.Exhaust s =
    let last = last_or no_stmt s.stmts in
    omega (arith, ended stmt_load no_stmt s.stmts, sum_by_push stmt_load (init s.stmts) (tree.exhaust last))
closed_gains close.Stoppable s =
    let last = last_or no_stmt s.stmts in
    omega (arith, ended stmt_load no_stmt s.stmts, sum_by_push stmt_load (init s.stmts) (tree.stoppable last))
closed_gains close.Collect s =
    let v = last_or tree.current_topic (init s.values) in
    let b = last_or tree.no_branches s.bodies in
    let into = last_or tree.current_topic s.values in
    omega (arith, gathers s.values s.bodies s.stmts (tree.collect v b into) (omega (arith, gathered v b into)))
closed_gains close.Accumulate s =
    let v = last_or tree.current_topic (init s.values) in
    let b = last_or tree.no_branches s.bodies in
    let into = last_or tree.current_topic s.values in
    omega (arith, gathers s.values s.bodies s.stmts (tree.accumulate v b into) (omega (arith, gathered v b into)))
closed_gains (close.Select mode k) s = omega (arith, taken stmts_load stmt_load k s.branches s.stmts (tree.select mode (branches_of (behind k s.branches))) 1 (omega (arith, all_branches_load (behind k s.branches))))
closed_gains (close.Branch k) s = omega (arith, taken stmt_load stmts_load k s.stmts s.branches (stmts_of (behind k s.stmts)) 0 (omega (arith, all_stmts_load (behind k s.stmts))))
closed_gains (close.Body k) s = omega (arith, taken stmts_load body_load k s.branches s.bodies (branches_of (behind k s.branches)) 0 (omega (arith, all_branches_load (behind k s.branches))))
closed_gains close.Arm s = omega (arith, arm_closed s.bodies s.arms)
closed_gains (close.Change set k) s = omega (arith, taken part_load change_load k s.parts s.changes (parts_of (behind k s.parts), set) 1 (omega (arith, all_parts_load (behind k s.parts))))

-- ---- what is built

-- a value weighs something
pub value_weighs : (v : Value) → 1 ≤ value_load v
value_weighs (tree.num n) = omega arith
value_weighs (tree.dict_word w) = omega arith
value_weighs (tree.object_name n) = omega arith
value_weighs tree.current_topic = omega arith
value_weighs tree.anonymous = omega arith
value_weighs (tree.variable n) = omega arith
value_weighs (tree.plain_list vs) = omega arith
value_weighs (tree.tailed_list vs v) = omega arith
value_weighs (tree.closure b) = omega arith
value_weighs (tree.nested ps) = omega arith
value_weighs (tree.word_choice ws) = omega arith

pub value_gains : (s : Built) (v : Value) → heavy s + 1 ≤ heavy (record s { values = s.values ++ v ∷ [] })
value_gains s v = omega (arith, sum_by_push value_load s.values v, value_weighs v)

pub word_gains : (s : Built) (w : List ℕ) → heavy s ≤ heavy (record s { parts = s.parts ++ tree.part_word w ∷ [] })
word_gains s w = omega (arith, more part_load s.parts (tree.part_word w ∷ []))

pub text_gains : (s : Built) (w : List ℕ) → heavy s + 1 ≤ heavy (record s { stmts = s.stmts ++ tree.text w ∷ [] })
text_gains s w = omega (arith, sum_by_push stmt_load s.stmts (tree.text w))

-- no step makes what is built lighter
does_gain : (at : CodePlace → Around) (w : Work) (s : Built) → heavy s ≤ heavy (does at w s)
does_gain at (work.Value p v) s = let a = at p.now in omega (arith, more value_load s.values ((put_value a.at a.place s.at (value_view v.now)).0 ∷ []))
does_gain at (work.Values p vs) s = let a = at p.now in omega (arith, more value_load s.values (list_of_values (put_values a.at a.place s.at (values_of (map value_view vs.now))).0))
does_gain at (work.Parts p ps) s = let a = at p.now in omega (arith, more part_load s.parts (list_of_parts (put_parts a.at a.place s.at (parts_of (map part_view ps.now))).0))
does_gain at (work.Stmt p x) s = let a = at p.now in omega (arith, more stmt_load s.stmts ((put_stmt a.at a.place s.at (stmt_view x.now)).0 ∷ []))
does_gain at (work.Stmts p ss) s = let a = at p.now in omega (arith, more stmt_load s.stmts (list_of_stmts (put_stmts a.at a.place s.at (stmts_of (map stmt_view ss.now))).0))
does_gain at (work.Branches p bs) s = let a = at p.now in omega (arith, more stmts_load s.branches (list_of_branches (put_body a.at a.place s.at (branches_view (map (map stmt_view) bs.now))).0))
does_gain at (work.Body p b) s = let a = at p.now in omega (arith, more body_load s.bodies ((put_body a.at a.place s.at (body_view b.now)).0 ∷ []))
does_gain at (work.Arms p arms) s = let a = at p.now in omega (arith, more arm_load s.arms (list_of_arms (put_arms a.at a.place s.at (arms_of (map arm_view arms.now))).0))
does_gain at (work.Change p set ps) s = let a = at p.now in omega (arith, more change_load s.changes (list_of_changes (put_changes a.at a.place s.at (one_change set (parts_of (map part_view ps.now)))).0))
does_gain at (work.Changes p cs) s = let a = at p.now in omega (arith, more change_load s.changes (list_of_changes (put_changes a.at a.place s.at (changes_of (map change_view cs.now))).0))
does_gain at (work.Queries p set ss) s = let a = at p.now in omega (arith, more change_load s.changes (list_of_changes (put_changes a.at a.place s.at (changes_in set (stmts_of (map stmt_view ss.now)))).0))
does_gain at (work.Now height) s = omega (arith, closed_gains (close.Now (length s.changes - height)) s)
does_gain at (work.Close k) s = omega (arith, closed_gains k s)

pub run_gains : (at : CodePlace → Around) (ws : List Work) (s : Built) → heavy s ≤ heavy (run at ws s)
run_gains at [] s = omega arith
run_gains at (w ∷ ws) s = omega (arith, run_gains at ws s, does_gain at w (run at ws s))

-- ---- what one part comes to

pub some_holds : {A : Type 0} (P : A → Type 0) (o : Option A) (x : A) → o ≡ Some x → IfSome o P → P x
some_holds P o x e h = subst (λ (m : Option _). IfSome m P) e h

pub none_holds : {A : Type 0} (T : Type 0) (o : Option A) → o ≡ None → IfNone o T → T
none_holds T o e h = subst (λ (m : Option _). IfNone m T) e h

pub body_heavy : (a : Around) (n : ℕ) (b : Body) → heavy (after_body a b (numbered n)) ≡ body_load (put_body a.at a.place n b).0
body_heavy a n b = omega arith

pub parts_heavy : (a : Around) (n : ℕ) (ps : Parts) → heavy (after_parts a ps (numbered n)) ≡ parts_load (put_parts a.at a.place n ps).0
parts_heavy a n ps =
    let new = (put_parts a.at a.place n ps).0 in
    omega (arith, all_parts_load (list_of_parts new), ap parts_load (parts_again new))

pub changes_heavy : (a : Around) (n : ℕ) (cs : Changes) → heavy (after_changes a cs (numbered n)) ≡ changes_load (put_changes a.at a.place n cs).0
changes_heavy a n cs =
    let new = (put_changes a.at a.place n cs).0 in
    omega (arith, all_changes_load (list_of_changes new), ap changes_load (changes_again new))

-- ---- heads

-- where no changes go into a statement, there are as many behind a step at least
does_keep : (at : CodePlace → Around) (w : Work) (s : Built) → is_now w ≡ false → length s.changes ≤ length (does at w s).changes
does_keep at (work.Value p v) s e = omega arith
does_keep at (work.Values p vs) s e = omega arith
does_keep at (work.Parts p ps) s e = omega arith
does_keep at (work.Stmt p x) s e = omega arith
does_keep at (work.Stmts p ss) s e = omega arith
does_keep at (work.Branches p bs) s e = omega arith
does_keep at (work.Body p b) s e = omega arith
does_keep at (work.Arms p arms) s e = omega arith
does_keep at (work.Change p set ps) s e = let a = at p.now in omega (arith, length-append s.changes (list_of_changes (put_changes a.at a.place s.at (one_change set (parts_of (map part_view ps.now)))).0))
does_keep at (work.Changes p cs) s e = let a = at p.now in omega (arith, length-append s.changes (list_of_changes (put_changes a.at a.place s.at (changes_of (map change_view cs.now))).0))
does_keep at (work.Queries p set ss) s e = let a = at p.now in omega (arith, length-append s.changes (list_of_changes (put_changes a.at a.place s.at (changes_in set (stmts_of (map stmt_view ss.now)))).0))
does_keep at (work.Now height) s e = cc
does_keep at (work.Close (close.Now k)) s e = cc
does_keep at (work.Close (close.Change set k)) s e = omega (arith, length-append s.changes ((parts_of (behind k s.parts), set) ∷ []))
does_keep at (work.Close (close.List k)) s e = omega arith
does_keep at (work.Close (close.Tailed k)) s e = omega arith
does_keep at (work.Close close.Closure) s e = omega arith
does_keep at (work.Close (close.Nested k)) s e = omega arith
does_keep at (work.Close (close.Put k n)) s e = omega arith
does_keep at (work.Close close.Part) s e = omega arith
does_keep at (work.Close close.Print) s e = omega arith
does_keep at (work.Close (close.Query q k)) s e = omega arith
does_keep at (work.Close (close.Wrapped w)) s e = omega arith
does_keep at (work.Close (close.If k)) s e = omega arith
does_keep at (work.Close (close.IfElse k)) s e = omega arith
does_keep at (work.Close close.Exhaust) s e = omega arith
does_keep at (work.Close close.Stoppable) s e = omega arith
does_keep at (work.Close close.Collect) s e = omega arith
does_keep at (work.Close close.Accumulate) s e = omega arith
does_keep at (work.Close (close.Select mode k)) s e = omega arith
does_keep at (work.Close (close.Branch k)) s e = omega arith
does_keep at (work.Close (close.Body k)) s e = omega arith
does_keep at (work.Close close.Arm) s e = omega arith

run_keeps : (at : CodePlace → Around) (ws : List Work) (s : Built) → list_any is_now ws ≡ false → length s.changes ≤ length (run at ws s).changes
run_keeps at [] s e = omega arith
run_keeps at (w ∷ ws) s e =
    let both = or_parts (is_now w) (list_any is_now ws) e in
    omega (arith, run_keeps at ws s both.1, does_keep at w (run at ws s) both.0)

-- what is too much already is too much in the end
pub past_by_weight : (at : CodePlace → Around) (ws : List Work) (s : Built) → 2500000 < heavy s → IsPast (run at ws s)
past_by_weight at ws s h = inl (omega (arith, h, run_gains at ws s))

pub past_by_heads : (at : CodePlace → Around) (ws : List Work) (s : Built) → 16000 < length s.changes → list_any is_now ws ≡ false → IsPast (run at ws s)
past_by_heads at ws s h e = inr (omega (arith, h, run_keeps at ws s e))

pub body_past : (a : Around) (n : ℕ) (b : Body) → IsPast (after_body a b (numbered n)) → 2500000 < body_load (put_body a.at a.place n b).0
body_past a n b (inl h) = omega (arith, h, body_heavy a n b)
body_past a n b (inr h) = absurd (omega (arith, h))

pub parts_past : (a : Around) (n : ℕ) (ps : Parts) → IsPast (after_parts a ps (numbered n)) → 2500000 < parts_load (put_parts a.at a.place n ps).0
parts_past a n ps (inl h) = omega (arith, h, parts_heavy a n ps)
parts_past a n ps (inr h) = absurd (omega (arith, h))

pub changes_past : (a : Around) (n : ℕ) (cs : Changes) → IsPast (after_changes a cs (numbered n)) → HasManyHeads (put_changes a.at a.place n cs).0
changes_past a n cs (inl h) = inl (omega (arith, h, changes_heavy a n cs))
changes_past a n cs (inr h) = inr (omega (arith, h))
