-- What each part of a body comes to makes the same goals.
use Rattle.std.proofs.Common.{◌≡◌, ◌+◌, ◌*◌, ◌-◌, ◌<◌, ◌≤◌, ℕ, List, [], ◌∷◌, ◌++◌, false, Option, Some, None, Bor, length, map, get_or, take, drop, reverse, refl, sym, ◌∙◌, ap, subst, arith, append_assoc}
use Rattle.std.proofs.Math.Seq.{take-length}
use Rattle.std.specs.Option.{option_map}
use Rattle.std.specs.Prelude.{Result, Ok, Err, OnOk, IfOk}
use Rattle.std.proofs.lemmas.List.{append-nil}
use Rattle.dg_base.specs.Mentions as mentions
use Rattle.dg_base.specs.Mentions.{of_stmt, of_stmts, of_body, of_branches, of_arms}
use Rattle.dg_base.specs.Tree as tree
use Rattle.dg_base.specs.Tree.{stmts_of, arms_of}
use Rattle.dg_base.specs.TreeView.{value_view, stmt_view, body_view, arm_view, branches_view, choice_view}
use Rattle.dg_base.specs.Walk.{stmt_size, stmts_size, branches_size, arms_size}
use Rattle.dg_base.specs.declared.program.Goal.{Goal}
use Rattle.dg_base.specs.declared.program.Goal.TheVariants as goal
use Rattle.dg_base.specs.declared.program.Mode.{Mode}
use Rattle.dg_base.specs.declared.tree.Arm.{Arm}
use Rattle.dg_base.specs.declared.tree.Body.{Body}
use Rattle.dg_base.specs.declared.tree.Stmt
use Rattle.dg_base.specs.declared.tree.Stmt.{Stmt}
use Rattle.dg_base.specs.declared.tree.Value.{Value}
use Rattle.dg_base.proofs.Views.{body_seen, choice_seen, choice_else_seen}
use Rattle.dg_base.specs.declared.program.Term.{Term}
use Rattle.dg_core.specs.Bodies.{Closed, no_closure, joined_closures, direct, in_value, in_stmt, in_stmts, in_branches, in_arms}
use Rattle.dg_core.specs.Goals.{Scope, at, past, count_selects, unit, term_of, stmt_goals, goals_of, lists, arm_goals}
use Rattle.dg_core.proofs.BodyLemmas.{past_none, past_past, found_past, found_join, found_none, join_none, join_join}
use Rattle.dg_core.specs.inside.Making.{Made, here, added, held, in_other, with_more, with_goals, otherwise, selects_otherwise, other_weight, goal_behind, goals_behind, goal_weight, goals_weight, Takes, ComesTo}
use Rattle.dg_core.specs.declared.goals.Close.{Close}
use Rattle.dg_core.specs.declared.goals.GoalWork.{GoalWork}
use Rattle.dg_core.proofs.MakingLemmas.{takes, comes, push_two, push_four, reverse_push}
use Rattle.dg_core.proofs.SelectLemmas.{selects_join, gathering_counted}

pub on_ok : {A E : Type 0} {P Q : Type 0} (r : Result A E) → (P → Q) → OnOk r P → OnOk r Q
on_ok (Ok a) f h = f h
on_ok (Err e) f h = h

pub none_of : {A : Type 0} (xs : List A) → length xs < 1 → xs ≡ []
none_of [] h = refl
none_of (x ∷ xs) h = absurd (omega (arith, h))

pub parted : {A : Type 0} (xs : List A) (x : A) → 1 ≤ length xs → x ≡ get_or xs 0 x → xs ≡ x ∷ take (length xs - 1) (drop 1 xs)
parted [] x some is = absurd (omega arith)
parted (y ∷ ys) x some is =
    let rest : length (y ∷ ys) - 1 ≡ length ys = omega arith in
    ap (λ h. h ∷ ys) (sym is) ∙ ap (λ l. x ∷ l) (sym (ap (λ (k : ℕ). take k ys) rest ∙ take-length ys))

pub one_of : {A : Type 0} (xs : List A) (x y : A) → 1 ≤ length xs → length xs < 2 → x ≡ get_or xs 0 x → y ≡ x → xs ≡ y ∷ []
one_of [] x y some few is same = absurd (omega (arith, some))
one_of (z ∷ []) x y some few is same = ap (λ a. a ∷ []) (sym (same ∙ is))
one_of (z ∷ w ∷ xs) x y some few is same = absurd (omega (arith, few))

pub nothing_put : {A : Type 0} (xs : List A) → xs ≡ xs ++ []
nothing_put xs = sym (append-nil xs)

more_none : {A : Type 0} (xss : List (List A)) → with_more [] xss ≡ xss
more_none [] = refl
more_none (xs ∷ xss) = ap (λ l. l ∷ xss) (append-nil xs)

more_more : {A : Type 0} (a b : List A) (xss : List (List A)) → with_more b (with_more a xss) ≡ with_more (a ++ b) xss
more_more a b [] = refl
more_more a b (xs ∷ xss) = ap (λ l. l ∷ xss) (append_assoc xs a b)

abbrev make : List (List Goal) → List (List (List Goal)) → List Term → ℕ → List tree.Body → Made
make g l v k f = record { goals = g; lists = l; values = v; sites = k; found = f }

same_made : (g g' : List (List Goal)) (l l' : List (List (List Goal))) (v : List Term) (k k' : ℕ) (f f' : List tree.Body) → g ≡ g' → l ≡ l' → k ≡ k' → f ≡ f' → make g l v k f ≡ make g' l' v k' f'
same_made g g' l l' v k k' f f' a b c d =
    ap (λ (x : List (List Goal)). make x l v k f) a
    ∙ ap (λ (x : List (List (List Goal))). make g' x v k f) b
    ∙ ap (λ (x : ℕ). make g' l' v x f) c
    ∙ ap (λ (x : List tree.Body). make g' l' v k' x) d

-- no goals make nothing
no_goals : (k : ℕ) (m : Made) → k ≡ 0 → m ≡ with_goals [] k no_closure m
no_goals k m e = sym (same_made _ _ _ _ _ _ _ _ _ (more_none m.goals) refl (omega (arith, e)) (sym (found_none m.found)))

-- the scope behind what else was found
here_past : (s : Scope) (m : Made) (cs : Closed) → at s (length (m.found ++ direct cs)) ≡ past (here s m) cs
here_past s m cs = found_past s m.found cs

-- ---- statements in a row

abbrev rowed : Scope → Made → tree.Stmts → Made
rowed s m all = with_goals (goals_of (here s m) m.sites all) (count_selects (of_stmts false all)) (in_stmts all) m

pub stmts_none : (s : Scope) (m : Made) (ss : Bor (List Stmt)) → ss.now ≡ [] → m ≡ goal_behind s (GoalWork.Stmts ss) m
stmts_none s m ss e = no_goals 0 m refl ∙ ap (λ (l : List Stmt). rowed s m (stmts_of (map stmt_view l))) (sym e)

pub stmts_make : (s : Scope) (m : Made) (ss : Bor (List Stmt)) (x : Bor Stmt) (others : Bor (List Stmt)) → ss.now ≡ x.now ∷ others.now → goals_behind s (GoalWork.Stmts others ∷ GoalWork.Stmt x ∷ []) m ≡ goal_behind s (GoalWork.Stmts ss) m
stmts_make s m ss x others e =
    let rest = stmts_of (map stmt_view others.now) in
    let y = stmt_view x.now in
    let k = count_selects (of_stmt false y) in
    same_made _ _ _ _ _ _ _ _ _
    (more_more (stmt_goals (here s m) m.sites y) (goals_of (at s (length (m.found ++ direct (in_stmt y)))) (m.sites + k) rest) m.goals
    ∙ ap (λ (t : Scope). with_more (stmt_goals (here s m) m.sites y ++ goals_of t (m.sites + k) rest) m.goals) (here_past s m (in_stmt y)))
    refl (omega (arith, selects_join (of_stmt false y) (of_stmts false rest))) (found_join m.found (in_stmt y) (in_stmts rest))
    ∙ ap (λ (l : List Stmt). rowed s m (stmts_of (map stmt_view l))) (sym e)

pub stmts_weigh : (ss : Bor (List Stmt)) (x : Bor Stmt) (others : Bor (List Stmt)) → ss.now ≡ x.now ∷ others.now → goals_weight (GoalWork.Stmts others ∷ GoalWork.Stmt x ∷ []) < goal_weight (GoalWork.Stmts ss)
stmts_weigh ss x others e = let is = ap (λ (l : List Stmt). stmts_size (stmts_of (map stmt_view l))) e in omega (arith, is)

pub stmts_weigh_none : (ss : Bor (List Stmt)) → ss.now ≡ [] → goals_weight [] < goal_weight (GoalWork.Stmts ss)
stmts_weigh_none ss e = let is = ap (λ (l : List Stmt). stmts_size (stmts_of (map stmt_view l))) e in omega (arith, is)

-- ---- branches

abbrev branched : Scope → Made → tree.Body → Made
branched s m all = make m.goals (with_more (lists (here s m) m.sites all) m.lists) m.values (m.sites + count_selects (of_branches false all)) (m.found ++ direct (in_branches all))

pub branches_none : (s : Scope) (m : Made) (bs : Bor (List (List Stmt))) → bs.now ≡ [] → m ≡ goal_behind s (GoalWork.Branches bs) m
branches_none s m bs e =
    sym (same_made _ _ _ _ _ _ _ _ _ refl (more_none m.lists) (omega arith) (sym (found_none m.found)))
    ∙ ap (λ (l : List (List Stmt)). branched s m (branches_view (map (map stmt_view) l))) (sym e)

pub branches_weigh_none : (bs : Bor (List (List Stmt))) → bs.now ≡ [] → goals_weight [] < goal_weight (GoalWork.Branches bs)
branches_weigh_none bs e = let is = ap (λ (l : List (List Stmt)). branches_size (branches_view (map (map stmt_view) l))) e in omega (arith, is)

pub branches_make : (s : Scope) (m : Made) (bs : Bor (List (List Stmt))) (first : List Stmt) (b : Bor (List Stmt)) (others : Bor (List (List Stmt))) → bs.now ≡ first ∷ others.now → b.now ≡ first → goals_behind s (GoalWork.Branches others ∷ GoalWork.Branch ∷ GoalWork.Stmts b ∷ GoalWork.Begin ∷ []) m ≡ goal_behind s (GoalWork.Branches bs) m
branches_make s m bs first b others e same =
    let row = stmts_of (map stmt_view b.now) in
    let rest = branches_view (map (map stmt_view) others.now) in
    let k = count_selects (of_stmts false row) in
    let first_list = goals_of (here s m) m.sites row in
    same_made _ _ _ _ _ _ _ _ _ refl
    (more_more (first_list ∷ []) (lists (at s (length (m.found ++ direct (in_stmts row)))) (m.sites + k) rest) m.lists
    ∙ ap (λ (t : Scope). with_more (first_list ∷ lists t (m.sites + k) rest) m.lists) (here_past s m (in_stmts row)))
    (omega (arith, selects_join (of_stmts false row) (of_branches false rest))) (found_join m.found (in_stmts row) (in_branches rest))
    ∙ ap (λ (l : List (List Stmt)). branched s m (branches_view (map (map stmt_view) l))) (ap (λ (ss : List Stmt). ss ∷ others.now) same ∙ sym e)

pub branches_weigh : (bs : Bor (List (List Stmt))) (first : List Stmt) (b : Bor (List Stmt)) (others : Bor (List (List Stmt))) → bs.now ≡ first ∷ others.now → b.now ≡ first → goals_weight (GoalWork.Branches others ∷ GoalWork.Branch ∷ GoalWork.Stmts b ∷ GoalWork.Begin ∷ []) < goal_weight (GoalWork.Branches bs)
branches_weigh bs first b others e same =
    let is = ap (λ (l : List (List Stmt)). branches_size (branches_view (map (map stmt_view) l))) (e ∙ ap (λ (ss : List Stmt). ss ∷ others.now) (sym same)) in
    omega (arith, is)

-- ---- a body

abbrev bodied : Scope → Made → tree.Body → Made
bodied s m b = with_goals (unit (lists (here s m) m.sites b)) (count_selects (of_body false b)) (in_branches b) m

body_is : (b : Bor Body) (bs : List (List Stmt)) → b.now.branches ≡ bs → body_view b.now ≡ branches_view (map (map stmt_view) bs)
body_is b bs e = body_seen b.now ∙ ap (λ (l : List (List Stmt)). branches_view (map (map stmt_view) l)) e

pub body_none : (s : Scope) (m : Made) (b : Bor Body) → b.now.branches ≡ [] → m ≡ goal_behind s (GoalWork.Body b) m
body_none s m b e = no_goals 0 m refl ∙ ap (bodied s m) (sym (body_is b [] e))

pub body_weighs_none : (b : Bor Body) → goals_weight [] < goal_weight (GoalWork.Body b)
body_weighs_none b = omega arith

pub body_one : (s : Scope) (m : Made) (b : Bor Body) (ss : Bor (List Stmt)) → b.now.branches ≡ ss.now ∷ [] → goals_behind s (GoalWork.Stmts ss ∷ []) m ≡ goal_behind s (GoalWork.Body b) m
body_one s m b ss e =
    let row = stmts_of (map stmt_view ss.now) in
    same_made _ _ _ _ _ _ _ _ _ refl refl (omega (arith, selects_join (of_stmts false row) (of_branches false tree.no_branches)))
    (ap (λ (c : Closed). m.found ++ direct c) (sym (join_none (in_stmts row))))
    ∙ ap (bodied s m) (sym (body_is b (ss.now ∷ []) e))

pub body_weighs_one : (b : Bor Body) (ss : Bor (List Stmt)) → b.now.branches ≡ ss.now ∷ [] → goals_weight (GoalWork.Stmts ss ∷ []) < goal_weight (GoalWork.Body b)
body_weighs_one b ss e = let is = ap branches_size (body_is b (ss.now ∷ []) e) in omega (arith, is)

many_lists : (s : Scope) (n : ℕ) (bs : List (List Stmt)) → 2 ≤ length bs → goal.Either (lists s n (branches_view (map (map stmt_view) bs))) ∷ [] ≡ unit (lists s n (branches_view (map (map stmt_view) bs)))
many_lists s n [] many = absurd (omega (arith, many))
many_lists s n (b ∷ []) many = absurd (omega (arith, many))
many_lists s n (a ∷ b ∷ bs) many = refl

pub body_many : (s : Scope) (m : Made) (b : Bor Body) (bs : Bor (List (List Stmt))) → b.now.branches ≡ bs.now → 2 ≤ length bs.now → goals_behind s (GoalWork.End Close.Either ∷ GoalWork.Branches bs ∷ GoalWork.BeginLists ∷ []) m ≡ goal_behind s (GoalWork.Body b) m
body_many s m b bs e many =
    same_made _ _ _ _ _ _ _ _ _ (ap (λ (l : List Goal). with_more l m.goals) (many_lists (here s m) m.sites bs.now many)) refl refl refl
    ∙ ap (bodied s m) (sym (body_is b bs.now e))

pub body_weighs_many : (b : Bor Body) (bs : Bor (List (List Stmt))) → b.now.branches ≡ bs.now → goals_weight (GoalWork.End Close.Either ∷ GoalWork.Branches bs ∷ GoalWork.BeginLists ∷ []) < goal_weight (GoalWork.Body b)
body_weighs_many b bs e = let is = ap branches_size (body_is b bs.now e) in omega (arith, is)

-- ---- conditions

abbrev armed : Scope → Made → Option Body → tree.Arms → Made
armed s m other all =
    let behind = m.sites + count_selects (of_arms false all) in
    make (with_more (arm_goals (here s m) m.sites all (otherwise (past (here s m) (in_arms all)) behind other)) m.goals) m.lists m.values (behind + selects_otherwise other) (m.found ++ direct (joined_closures (in_arms all) (in_other other)))

pub arms_none : (s : Scope) (m : Made) (arms : Bor (List Arm)) (other : Bor (Option Body)) → arms.now ≡ [] → other.now ≡ None → m ≡ goal_behind s (GoalWork.Arms arms other) m
arms_none s m arms other e f =
    sym (same_made _ _ _ _ _ _ _ _ _ (more_none m.goals) refl (omega arith) (sym (found_none m.found)))
    ∙ ap (λ (o : Option Body). armed s m o tree.no_arms) (sym f)
    ∙ ap (λ (l : List Arm). armed s m other.now (arms_of (map arm_view l))) (sym e)

arms_weight_none : (arms : Bor (List Arm)) → arms.now ≡ [] → arms_size (arms_of (map arm_view arms.now)) ≡ 1
arms_weight_none arms e = ap (λ (l : List Arm). arms_size (arms_of (map arm_view l))) e

pub arms_weigh_none : (arms : Bor (List Arm)) (other : Bor (Option Body)) → arms.now ≡ [] → other.now ≡ None → goals_weight [] < goal_weight (GoalWork.Arms arms other)
arms_weigh_none arms other e f = omega (arith, arms_weight_none arms e, ap other_weight f)

pub arms_other : (s : Scope) (m : Made) (arms : Bor (List Arm)) (other : Bor (Option Body)) (b : Bor Body) → arms.now ≡ [] → other.now ≡ Some b.now → goals_behind s (GoalWork.Body b ∷ []) m ≡ goal_behind s (GoalWork.Arms arms other) m
arms_other s m arms other b e f =
    let zero_more : m.sites ≡ m.sites + 0 = omega arith in
    same_made _ _ _ _ _ _ _ _ _
    (ap (λ (k : ℕ). with_more (unit (lists (here s m) k (body_view b.now))) m.goals) zero_more
    ∙ ap (λ (t : Scope). with_more (unit (lists t (m.sites + 0) (body_view b.now))) m.goals) (past_none s (length m.found)))
    refl (omega arith) refl
    ∙ ap (λ (o : Option Body). armed s m o tree.no_arms) (sym f)
    ∙ ap (λ (l : List Arm). armed s m other.now (arms_of (map arm_view l))) (sym e)

pub arms_weigh_other : (arms : Bor (List Arm)) (other : Bor (Option Body)) (b : Bor Body) → arms.now ≡ [] → other.now ≡ Some b.now → goals_weight (GoalWork.Body b ∷ []) < goal_weight (GoalWork.Arms arms other)
arms_weigh_other arms other b e f = omega (arith, arms_weight_none arms e, ap other_weight f)

abbrev put_of : Bor (List Arm) → Bor (Option Body) → Bor Body → Bor Body → List GoalWork
put_of others other c b = GoalWork.End Close.If ∷ GoalWork.Arms others other ∷ GoalWork.Begin ∷ GoalWork.Body b ∷ GoalWork.Begin ∷ GoalWork.Body c ∷ GoalWork.Begin ∷ []

arms_are : (arms : Bor (List Arm)) (a : Arm) (c b : Bor Body) (others : Bor (List Arm)) → arms.now ≡ a ∷ others.now → arm_view a ≡ (body_view c.now, body_view b.now) → arms_of (map arm_view arms.now) ≡ tree.arm (body_view c.now) (body_view b.now) (arms_of (map arm_view others.now))
arms_are arms a c b others e seen = ap arms_of (ap (map arm_view) e ∙ ap (λ (x : tree.Body × tree.Body). x ∷ map arm_view others.now) seen)

pub arms_make : (s : Scope) (m : Made) (arms : Bor (List Arm)) (other : Bor (Option Body)) (a : Arm) (c b : Bor Body) (others : Bor (List Arm)) → arms.now ≡ a ∷ others.now → arm_view a ≡ (body_view c.now, body_view b.now) → goals_behind s (put_of others other c b) m ≡ goal_behind s (GoalWork.Arms arms other) m
arms_make s m arms other a c b others e seen =
    let rest = arms_of (map arm_view others.now) in
    let test = body_view c.now in
    let next = body_view b.now in
    let i = m.sites + count_selects (of_body false test) in
    let j = i + count_selects (of_body false next) in
    let all = tree.arm test next rest in
    let one = selects_join (of_body false test) (mentions.join (of_body false next) (of_arms false rest)) in
    let two = selects_join (of_body false next) (of_arms false rest) in
    let ends : j + count_selects (of_arms false rest) ≡ m.sites + count_selects (of_arms false all) = omega (arith, one, two) in
    let found = m.found ++ direct (in_branches test) in
    let p = past (here s m) (in_branches test) in
    let q = past p (in_branches next) in
    let made : Scope → Scope → Scope → ℕ → List (List Goal) = λ x y z k. with_more (goal.If (unit (lists (here s m) m.sites test)) (unit (lists x i next)) (arm_goals y j rest (otherwise z k other.now)) ∷ []) m.goals in
    let behind = j + count_selects (of_arms false rest) in
    let far = at s (length (found ++ direct (in_branches next))) in
    same_made _ _ _ _ _ _ _ _ _
    (ap (λ (x : Scope). made x far (past far (in_arms rest)) behind) (here_past s m (in_branches test))
    ∙ ap (λ (y : Scope). made p y (past y (in_arms rest)) behind) (found_past s found (in_branches next) ∙ ap (λ (x : Scope). past x (in_branches next)) (here_past s m (in_branches test)))
    ∙ ap (λ (z : Scope). made p q z behind) (past_past p (in_branches next) (in_arms rest) ∙ past_past (here s m) (in_branches test) (joined_closures (in_branches next) (in_arms rest)))
    ∙ ap (λ (k : ℕ). made p q (past (here s m) (in_arms all)) k) ends)
    refl (ap (λ (k : ℕ). k + selects_otherwise other.now) ends)
    (ap (λ (l : List tree.Body). l ++ direct (joined_closures (in_arms rest) (in_other other.now))) (found_join m.found (in_branches test) (in_branches next))
    ∙ found_join m.found (joined_closures (in_branches test) (in_branches next)) (joined_closures (in_arms rest) (in_other other.now))
    ∙ ap (λ (x : Closed). m.found ++ direct x) (sym (join_join (joined_closures (in_branches test) (in_branches next)) (in_arms rest) (in_other other.now)) ∙ ap (λ (x : Closed). joined_closures x (in_other other.now)) (join_join (in_branches test) (in_branches next) (in_arms rest))))
    ∙ ap (armed s m other.now) (sym (arms_are arms a c b others e seen))

pub arms_weigh : (arms : Bor (List Arm)) (other : Bor (Option Body)) (a : Arm) (c b : Bor Body) (others : Bor (List Arm)) → arms.now ≡ a ∷ others.now → arm_view a ≡ (body_view c.now, body_view b.now) → goals_weight (put_of others other c b) < goal_weight (GoalWork.Arms arms other)
arms_weigh arms other a c b others e seen = let is = ap arms_size (arms_are arms a c b others e seen) in omega (arith, is)

-- ---- statements that hold others

-- what is made behind a statement
abbrev pub stated : Scope → tree.Stmt → Made → Made
stated s y m = with_goals (stmt_goals (here s m) m.sites y) (count_selects (of_stmt false y)) (in_stmt y) m

-- a statement by what it is
pub stmt_is : (s : Scope) (x : Bor Stmt) (y : tree.Stmt) (old new ws : List GoalWork) (before after : Made) → stmt_view x.now ≡ y → new ≡ old ++ ws → goals_behind s ws after ≡ stated s y before → goals_weight ws < 3 * stmt_size y → Takes s (GoalWork.Stmt x) old new before after
stmt_is s x y old new ws before after is e h k =
    takes s old new ws (GoalWork.Stmt x) before after e
    (h ∙ ap (λ (z : tree.Stmt). stated s z before) (sym is))
    (let size = ap stmt_size is in omega (arith, k, size))

-- a statement that makes goals at once
pub stmt_adds : (s : Scope) (x : Bor Stmt) (y : tree.Stmt) (old : List GoalWork) (before after : Made) (gs : List Goal) → stmt_view x.now ≡ y → after ≡ added gs (in_stmt y) before → gs ≡ stmt_goals (here s before) before.sites y → count_selects (of_stmt false y) ≡ 0 → 0 < stmt_size y → Takes s (GoalWork.Stmt x) old old before after
stmt_adds s x y old before after gs is e same none some =
    stmt_is s x y old old [] before after is (nothing_put old)
    (e ∙ same_made _ _ _ _ _ _ _ _ _ (ap (λ (l : List Goal). with_more l before.goals) same) refl (omega (arith, none)) refl)
    (omega (arith, some))

-- goals without closures
pub kept_added : (m after : Made) (gs : List Goal) → after ≡ record m { goals = with_more gs m.goals } → after ≡ added gs no_closure m
kept_added m after gs e = e ∙ ap (λ (l : List tree.Body). record m { goals = with_more gs m.goals; found = l }) (found_none m.found)

-- a statement with goals of which something is made
abbrev gathering : tree.Value → Body → tree.Value → Closed
gathering v b into = joined_closures (in_value v) (joined_closures (in_branches (body_view b)) (in_value into))

gathered_found : (m : Made) (v : tree.Value) (b : Body) (into : tree.Value) → ((m.found ++ direct (in_value v)) ++ direct (in_branches (body_view b))) ++ direct (in_value into) ≡ m.found ++ direct (gathering v b into)
gathered_found m v b into =
    ap (λ (l : List tree.Body). l ++ direct (in_value into)) (found_join m.found (in_value v) (in_branches (body_view b)))
    ∙ found_join m.found (joined_closures (in_value v) (in_branches (body_view b))) (in_value into)
    ∙ ap (λ (c : Closed). m.found ++ direct c) (join_join (in_value v) (in_branches (body_view b)) (in_value into))

-- the scopes of the goals and of the last value
gathered_made : (f : Term → List Goal → Term → Goal) (s : Scope) (m : Made) (v : tree.Value) (b : Body) (into : tree.Value) →
    (let found = m.found ++ direct (in_value v) in f (term_of (here s m) v) (unit (lists (at s (length found)) m.sites (body_view b))) (term_of (at s (length (found ++ direct (in_branches (body_view b))))) into))
    ≡ (let within = past (here s m) (in_value v) in f (term_of (here s m) v) (unit (lists within m.sites (body_view b))) (term_of (past within (in_branches (body_view b))) into))
gathered_made f s m v b into =
    let found = m.found ++ direct (in_value v) in
    let body = body_view b in
    let made : Scope → Scope → Goal = λ x y. f (term_of (here s m) v) (unit (lists x m.sites body)) (term_of y into) in
    ap (λ (y : Scope). made (at s (length found)) y) (found_past s found (in_branches body))
    ∙ ap (λ (x : Scope). made x (past x (in_branches body))) (here_past s m (in_value v))

pub collect_makes : (s : Scope) (m after : Made) (v : tree.Value) (b : Bor Body) (into : Bor Value) → after ≡ held s v m → goals_behind s (GoalWork.End (Close.Collect into) ∷ GoalWork.Body b ∷ GoalWork.Begin ∷ []) after ≡ stated s (tree.collect v (body_view b.now) (value_view into.now)) m
collect_makes s m after v b into e =
    ap (goals_behind s (GoalWork.End (Close.Collect into) ∷ GoalWork.Body b ∷ GoalWork.Begin ∷ [])) e
    ∙ same_made _ _ _ _ _ _ _ _ _ (ap (λ (g : Goal). with_more (g ∷ []) m.goals) (gathered_made goal.Collect s m v b.now (value_view into.now))) refl (omega (arith, gathering_counted v (body_view b.now) (value_view into.now))) (gathered_found m v b.now (value_view into.now))

pub accumulate_makes : (s : Scope) (m after : Made) (v : tree.Value) (b : Bor Body) (into : Bor Value) → after ≡ held s v m → goals_behind s (GoalWork.End (Close.Accumulate into) ∷ GoalWork.Body b ∷ GoalWork.Begin ∷ []) after ≡ stated s (tree.accumulate v (body_view b.now) (value_view into.now)) m
accumulate_makes s m after v b into e =
    ap (goals_behind s (GoalWork.End (Close.Accumulate into) ∷ GoalWork.Body b ∷ GoalWork.Begin ∷ [])) e
    ∙ same_made _ _ _ _ _ _ _ _ _ (ap (λ (g : Goal). with_more (g ∷ []) m.goals) (gathered_made goal.Accumulate s m v b.now (value_view into.now))) refl (omega (arith, gathering_counted v (body_view b.now) (value_view into.now))) (gathered_found m v b.now (value_view into.now))

pub select_makes : (s : Scope) (m after : Made) (site : ℕ) (mode : Mode) (bs : Bor (List (List Stmt))) → after ≡ record m { sites = m.sites + 1 } → site ≡ m.sites → goals_behind s (GoalWork.End (Close.Select site mode) ∷ GoalWork.Branches bs ∷ GoalWork.BeginLists ∷ []) after ≡ stated s (tree.select mode (branches_view (map (map stmt_view) bs.now))) m
select_makes s m after site mode bs e is =
    ap (goals_behind s (GoalWork.End (Close.Select site mode) ∷ GoalWork.Branches bs ∷ GoalWork.BeginLists ∷ [])) e
    ∙ same_made _ _ _ _ _ _ _ _ _ (ap (λ (k : ℕ). with_more (goal.Select k mode (lists (here s m) (m.sites + 1) (branches_view (map (map stmt_view) bs.now))) ∷ []) m.goals) is) refl (omega arith) refl

pub choice_is : (x : Stmt) (arms : List Arm) (other : Option Body) → x ≡ Stmt.If arms other → stmt_view x ≡ choice_view (map arm_view arms) (option_map body_view other)
choice_is x arms None e = ap stmt_view e ∙ choice_seen arms
choice_is x arms (Some b) e = ap stmt_view e ∙ choice_else_seen arms b

pub choice_makes : (s : Scope) (m : Made) (arms : Bor (List Arm)) (other : Bor (Option Body)) (o : Option Body) → other.now ≡ o → goals_behind s (GoalWork.Arms arms other ∷ []) m ≡ stated s (choice_view (map arm_view arms.now) (option_map body_view o)) m
choice_makes s m arms other None e =
    let all = arms_of (map arm_view arms.now) in
    ap (λ (x : Option Body). armed s m x all) e
    ∙ same_made _ _ _ _ _ _ _ _ _ refl refl (omega arith) (ap (λ (c : Closed). m.found ++ direct c) (join_none (in_arms all)))
choice_makes s m arms other (Some b) e =
    ap (λ (x : Option Body). armed s m x (arms_of (map arm_view arms.now))) e
    ∙ same_made _ _ _ _ _ _ _ _ _ refl refl (omega (arith, selects_join (of_arms false (arms_of (map arm_view arms.now))) (of_body false (body_view b)))) refl

pub choice_weighs : (arms : Bor (List Arm)) (other : Bor (Option Body)) (o : Option Body) → other.now ≡ o → goals_weight (GoalWork.Arms arms other ∷ []) < 3 * stmt_size (choice_view (map arm_view arms.now) (option_map body_view o))
choice_weighs arms other None e = omega (arith, ap other_weight e)
choice_weighs arms other (Some b) e = omega (arith, ap other_weight e)

-- a part that is looked at, by what it is
pub takes_is : (s : Scope) (w v : GoalWork) (old new : List GoalWork) (before after : Made) → w ≡ v → Takes s v old new before after → Takes s w old new before after
takes_is s w v old new before after is h = subst (λ (x : GoalWork). Takes s x old new before after) (sym is) h

pub takes_apart : (s : Scope) (w v : GoalWork) (old new : List GoalWork) (m : Made) → w ≡ v → ComesTo v old new → Takes s w old new m m
takes_apart s w v old new m is h = takes_is s w v old new m m is (record { behind = h.behind s m; weight = h.weight })

pub takes_now : (s : Scope) (w v : GoalWork) (old : List GoalWork) (before after : Made) → w ≡ v → after ≡ goal_behind s v before → 0 < goal_weight v → Takes s w old old before after
takes_now s w v old before after is e some = takes_is s w v old old before after is (takes s old old [] v before after (nothing_put old) e some)

-- a list that begins
pub begun : {A : Type 0} (old new : List (List A)) → new ≡ old ++ [] ∷ [] → reverse new ≡ [] ∷ reverse old
begun old new e = ap reverse e ∙ reverse_push old []

-- ---- what is put in the place of a part

pub stmts_come : (old a new : List GoalWork) (ss : Bor (List Stmt)) (x : Bor Stmt) (others : Bor (List Stmt)) → a ≡ old ++ GoalWork.Stmts others ∷ [] → new ≡ a ++ GoalWork.Stmt x ∷ [] → ss.now ≡ x.now ∷ others.now → ComesTo (GoalWork.Stmts ss) old new
stmts_come old a new ss x others e f is =
    comes old new (GoalWork.Stmts others ∷ GoalWork.Stmt x ∷ []) (GoalWork.Stmts ss) (push_two old a new (GoalWork.Stmts others) (GoalWork.Stmt x) e f) (λ s m. stmts_make s m ss x others is) (stmts_weigh ss x others is)

pub branches_come : (old a b c new : List GoalWork) (bs : Bor (List (List Stmt))) (first : List Stmt) (ss : Bor (List Stmt)) (others : Bor (List (List Stmt))) → a ≡ old ++ GoalWork.Branches others ∷ [] → b ≡ a ++ GoalWork.Branch ∷ [] → c ≡ b ++ GoalWork.Stmts ss ∷ [] → new ≡ c ++ GoalWork.Begin ∷ [] → bs.now ≡ first ∷ others.now → ss.now ≡ first → ComesTo (GoalWork.Branches bs) old new
branches_come old a b c new bs first ss others e f g h is same =
    comes old new (GoalWork.Branches others ∷ GoalWork.Branch ∷ GoalWork.Stmts ss ∷ GoalWork.Begin ∷ []) (GoalWork.Branches bs)
    (push_four old a b c new (GoalWork.Branches others) GoalWork.Branch (GoalWork.Stmts ss) GoalWork.Begin e f g h)
    (λ s m. branches_make s m bs first ss others is same) (branches_weigh bs first ss others is same)

pub body_comes_one : (old new : List GoalWork) (b : Bor Body) (ss : Bor (List Stmt)) → new ≡ old ++ GoalWork.Stmts ss ∷ [] → b.now.branches ≡ ss.now ∷ [] → ComesTo (GoalWork.Body b) old new
body_comes_one old new b ss e is = comes old new (GoalWork.Stmts ss ∷ []) (GoalWork.Body b) e (λ s m. body_one s m b ss is) (body_weighs_one b ss is)

pub body_comes_many : (old new : List GoalWork) (b : Bor Body) (bs : Bor (List (List Stmt))) → new ≡ old ++ GoalWork.End Close.Either ∷ GoalWork.Branches bs ∷ GoalWork.BeginLists ∷ [] → b.now.branches ≡ bs.now → 2 ≤ length bs.now → ComesTo (GoalWork.Body b) old new
body_comes_many old new b bs e is many = comes old new (GoalWork.End Close.Either ∷ GoalWork.Branches bs ∷ GoalWork.BeginLists ∷ []) (GoalWork.Body b) e (λ s m. body_many s m b bs is many) (body_weighs_many b bs is)

pub arms_come_other : (old new : List GoalWork) (arms : Bor (List Arm)) (other : Bor (Option Body)) (b : Bor Body) → new ≡ old ++ GoalWork.Body b ∷ [] → arms.now ≡ [] → other.now ≡ Some b.now → ComesTo (GoalWork.Arms arms other) old new
arms_come_other old new arms other b e none is = comes old new (GoalWork.Body b ∷ []) (GoalWork.Arms arms other) e (λ s m. arms_other s m arms other b none is) (arms_weigh_other arms other b none is)

pub arms_come : (old new : List GoalWork) (arms : Bor (List Arm)) (other rest : Bor (Option Body)) (a : Arm) (c b : Bor Body) (others : Bor (List Arm)) → new ≡ old ++ GoalWork.End Close.If ∷ GoalWork.Arms others rest ∷ GoalWork.Begin ∷ GoalWork.Body b ∷ GoalWork.Begin ∷ GoalWork.Body c ∷ GoalWork.Begin ∷ [] → rest.now ≡ other.now → arms.now ≡ a ∷ others.now → arm_view a ≡ (body_view c.now, body_view b.now) → ComesTo (GoalWork.Arms arms other) old new
arms_come old new arms other rest a c b others e same is seen =
    comes old new (put_of others rest c b) (GoalWork.Arms arms other) e
    (λ s m. arms_make s m arms rest a c b others is seen ∙ ap (λ (o : Option Body). armed s m o (arms_of (map arm_view arms.now))) same)
    (let weight = ap other_weight same in let less = arms_weigh arms rest a c b others is seen in omega (arith, weight, less))

-- a statement with one part in it
pub stmt_puts : (s : Scope) (x : Bor Stmt) (y : tree.Stmt) (old new : List GoalWork) (before after : Made) (w : GoalWork) → new ≡ old ++ w ∷ [] → stmt_view x.now ≡ y → goal_behind s w after ≡ stated s y before → goal_weight w < 3 * stmt_size y → Takes s (GoalWork.Stmt x) old new before after
stmt_puts s x y old new before after w e is h k = stmt_is s x y old new (w ∷ []) before after is e h (omega (arith, k))

pub collect_taken : (s : Scope) (x : Bor Stmt) (old new : List GoalWork) (m after : Made) (v : tree.Value) (b : Bor Body) (into : Bor Value) → after ≡ held s v m → new ≡ old ++ GoalWork.End (Close.Collect into) ∷ GoalWork.Body b ∷ GoalWork.Begin ∷ [] → stmt_view x.now ≡ tree.collect v (body_view b.now) (value_view into.now) → Takes s (GoalWork.Stmt x) old new m after
collect_taken s x old new m after v b into kept e is = stmt_is s x (tree.collect v (body_view b.now) (value_view into.now)) old new (GoalWork.End (Close.Collect into) ∷ GoalWork.Body b ∷ GoalWork.Begin ∷ []) m after is e (collect_makes s m after v b into kept) (omega arith)

pub accumulate_taken : (s : Scope) (x : Bor Stmt) (old new : List GoalWork) (m after : Made) (v : tree.Value) (b : Bor Body) (into : Bor Value) → after ≡ held s v m → new ≡ old ++ GoalWork.End (Close.Accumulate into) ∷ GoalWork.Body b ∷ GoalWork.Begin ∷ [] → stmt_view x.now ≡ tree.accumulate v (body_view b.now) (value_view into.now) → Takes s (GoalWork.Stmt x) old new m after
accumulate_taken s x old new m after v b into kept e is = stmt_is s x (tree.accumulate v (body_view b.now) (value_view into.now)) old new (GoalWork.End (Close.Accumulate into) ∷ GoalWork.Body b ∷ GoalWork.Begin ∷ []) m after is e (accumulate_makes s m after v b into kept) (omega arith)

pub choice_taken : (s : Scope) (x : Bor Stmt) (old new : List GoalWork) (m : Made) (arms : List Arm) (o : Option Body) (lent : Bor (List Arm)) (other : Bor (Option Body)) → new ≡ old ++ GoalWork.Arms lent other ∷ [] → x.now ≡ Stmt.If arms o → lent.now ≡ arms → other.now ≡ o → Takes s (GoalWork.Stmt x) old new m m
choice_taken s x old new m arms o lent other e is same rest =
    stmt_is s x (choice_view (map arm_view lent.now) (option_map body_view o)) old new (GoalWork.Arms lent other ∷ []) m m
    (choice_is x.now arms o is ∙ ap (λ (l : List Arm). choice_view (map arm_view l) (option_map body_view o)) (sym same)) e (choice_makes s m lent other o rest) (choice_weighs lent other o rest)

pub if_ok : {A E : Type 0} {P Q : A → Type 0} (r : Result A E) → ((x : A) → P x → Q x) → IfOk r P → IfOk r Q
if_ok (Ok a) f h = f a h
if_ok (Err e) f h = h
