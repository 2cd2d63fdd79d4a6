-- What each step comes to where access rules are put in.
use Rattle.std.proofs.Common.{◌≡◌, ◌+◌, ◌-◌, ℕ, zero, suc, List, [], ◌∷◌, ◌++◌, Bool, true, false, Option, Some, None, length, refl, sym, ◌∙◌, ap, append_assoc, arith}
use Rattle.std.specs.Prelude.{if◌then◌else◌}
use Rattle.std.proofs.lemmas.List.{length-append}
use Rattle.dg_base.specs.Tree as tree
use Rattle.dg_base.specs.Tree.{Part, Parts, Value, Values, Stmt, Stmts, Body, Arms, Changes, parts_of, values_of, stmts_of, branches_of, arms_of, changes_of}
use Rattle.dg_base.specs.declared.program.Mode.{Mode}
use Rattle.dg_plain.specs.Building.{Built, no_stmt, closing, asked, wrapped, list_of_values, list_of_parts, list_of_stmts, list_of_branches, list_of_arms, list_of_changes}
use Rattle.dg_plain.specs.declared.work.Asking.{Asking}
use Rattle.dg_plain.specs.declared.work.Asking.TheVariants as asking
use Rattle.dg_plain.specs.declared.work.Close.TheVariants as close
use Rattle.dg_plain.specs.declared.work.Wrap.{Wrap}
use Rattle.dg_plain.specs.declared.work.Wrap.TheVariants as wrap
use Rattle.dg_plain.proofs.BuildLemmas.{front_at, behind_at, init_push, last_push}
use Rattle.dg_put.specs.Put.{Access, Argument, Spot, Level, level, put_query, rule_for, given_by, moved_from, within, change_access, made, put_change, changes_behind, one_change, changes_in, list_queries, put_value, put_values, put_parts, put_stmt, put_stmts, put_body, put_arms, put_changes}
use Rattle.dg_put.specs.inside.Putting.{Around, closed_around, copied_around, after_value, after_values, after_parts, after_stmt, after_stmts, after_branches, after_body, after_arms, after_changes, bare, wrap_of, does, run}
use Rattle.dg_put.specs.declared.place.Place.{Place as CodePlace}
use Rattle.dg_put.specs.declared.work.Work.{Work}

-- ---- what is left

pub run_append : (at : CodePlace → Around) (ws vs : List Work) (s : Built) → run at (ws ++ vs) s ≡ run at ws (run at vs s)
run_append at [] vs s = refl
run_append at (w ∷ ws) vs s = ap (does at w) (run_append at ws vs s)

-- what was put off comes to this
pub off : (at : CodePlace → Around) (old new vs : List Work) (s t : Built) → new ≡ old ++ vs → run at vs s ≡ t → run at new s ≡ run at old t
off at old new vs s t e h = ap (λ (ws : List Work). run at ws s) e ∙ run_append at old vs s ∙ ap (run at old) h

-- ---- lists as trees

values_again : (vs : Values) → values_of (list_of_values vs) ≡ vs
values_again tree.no_values = refl
values_again (tree.value v vs) = ap (tree.value v) (values_again vs)

pub parts_again : (ps : Parts) → parts_of (list_of_parts ps) ≡ ps
parts_again tree.no_parts = refl
parts_again (tree.part p ps) = ap (tree.part p) (parts_again ps)

stmts_again : (ss : Stmts) → stmts_of (list_of_stmts ss) ≡ ss
stmts_again tree.no_stmts = refl
stmts_again (tree.stmt s ss) = ap (tree.stmt s) (stmts_again ss)

branches_again : (b : Body) → branches_of (list_of_branches b) ≡ b
branches_again tree.no_branches = refl
branches_again (tree.branch ss b) = ap (tree.branch ss) (branches_again b)

arms_again : (arms : Arms) → arms_of (list_of_arms arms) ≡ arms
arms_again tree.no_arms = refl
arms_again (tree.arm a b arms) = ap (tree.arm a b) (arms_again arms)

pub changes_again : (cs : Changes) → changes_of (list_of_changes cs) ≡ cs
changes_again tree.no_changes = refl
changes_again (tree.change ps set cs) = ap (tree.change ps set) (changes_again cs)

pub values_count : (l : Level) (p : Spot) (n : ℕ) (vs : List Value) → length (list_of_values (put_values l p n (values_of vs)).0) ≡ length vs
values_count l p n [] = refl
values_count l p n (v ∷ vs) = omega (arith, values_count l p (put_value l p n v).1 vs)

pub parts_count : (l : Level) (p : Spot) (n : ℕ) (ps : List Part) → length (list_of_parts (put_parts l p n (parts_of ps)).0) ≡ length ps
parts_count l p n [] = refl
parts_count l p n (tree.part_word w ∷ ps) = omega (arith, parts_count l p n ps)
parts_count l p n (tree.part_value v ∷ ps) = omega (arith, parts_count l p (put_value l p n v).1 ps)

pub stmts_count : (l : Level) (p : Spot) (n : ℕ) (ss : List Stmt) → length (list_of_stmts (put_stmts l p n (stmts_of ss)).0) ≡ length ss
stmts_count l p n [] = refl
stmts_count l p n (s ∷ ss) = omega (arith, stmts_count l p (put_stmt l p n s).1 ss)

pub branches_count : (l : Level) (p : Spot) (n : ℕ) (bs : List Stmts) → length (list_of_branches (put_body l p n (branches_of bs)).0) ≡ length bs
branches_count l p n [] = refl
branches_count l p n (ss ∷ bs) = omega (arith, branches_count l p (put_stmts l p n ss).1 bs)

pub arms_count : (l : Level) (p : Spot) (n : ℕ) (arms : List (Body × Body)) → length (list_of_arms (put_arms l p n (arms_of arms)).0) ≡ length arms
arms_count l p n [] = refl
arms_count l p n (a ∷ arms) = omega (arith, arms_count l p (put_body l p (put_body l p n a.0).1 a.1).1 arms)

-- ---- values

pub list_built : (a : Around) (vs : Values) (k : ℕ) (s : Built) → k ≡ length (list_of_values (put_values a.at a.place s.at vs).0) → closing bare (close.List k) (after_values a vs s) ≡ after_value a (tree.plain_list vs) s
list_built a vs k s e =
    let r = (put_values a.at a.place s.at vs).0 in
    rw (front_at s.values (list_of_values r) k e) (rw (behind_at s.values (list_of_values r) k e) (rw (values_again r) refl))

pub tailed_built : (a : Around) (vs : Values) (v : Value) (k : ℕ) (s : Built) → k ≡ length (list_of_values (put_values a.at a.place s.at vs).0) → closing bare (close.Tailed k) (after_value a v (after_values a vs s)) ≡ after_value a (tree.tailed_list vs v) s
tailed_built a vs v k s e =
    let r = put_values a.at a.place s.at vs in
    let l = list_of_values r.0 in
    let p = (put_value a.at a.place r.1 v).0 in
    rw (init_push (s.values ++ l) p) (rw (last_push tree.current_topic (s.values ++ l) p) (rw (front_at s.values l k e) (rw (behind_at s.values l k e) (rw (values_again r.0) refl))))

chosen : {T : Type 0} (m : Bool) (x y : T) → m ≡ true → (if m then x else y) ≡ x
chosen true x y e = refl
chosen false x y e = cc

other : {T : Type 0} (m : Bool) (x y : T) → m ≡ false → (if m then x else y) ≡ y
other true x y e = cc
other false x y e = refl

-- a closure, of a body and the number behind it
abbrev with_closure : Built → Body × ℕ → Built
with_closure s r = record s { at = r.1; values = s.values ++ tree.closure r.0 ∷ [] }

pub closed_built : (a : Around) (b : Body) (s : Built) → a.place.moved ≡ false → closing bare close.Closure (after_body (closed_around a) b s) ≡ after_value a (tree.closure b) s
closed_built a b s e =
    let r = put_body a.at (closed_around a).place s.at b in
    let c = put_body a.at (copied_around a s.at).place (s.at + 1) b in
    rw (init_push s.bodies r.0) (rw (last_push tree.no_branches s.bodies r.0) (sym (ap (with_closure s) (other a.place.moved c r e))))

pub copied_built : (a : Around) (b : Body) (s : Built) → a.place.moved ≡ true → closing bare close.Closure (after_body (copied_around a s.at) b (record s { at = s.at + 1 })) ≡ after_value a (tree.closure b) s
copied_built a b s e =
    let r = put_body a.at (closed_around a).place s.at b in
    let c = put_body a.at (copied_around a s.at).place (s.at + 1) b in
    rw (init_push s.bodies c.0) (rw (last_push tree.no_branches s.bodies c.0) (sym (ap (with_closure s) (chosen a.place.moved c r e))))

pub nested_built : (a : Around) (ps : Parts) (k : ℕ) (s : Built) → k ≡ length (list_of_parts (put_parts a.at a.place s.at ps).0) → closing bare (close.Nested k) (after_parts a ps s) ≡ after_value a (tree.nested ps) s
nested_built a ps k s e =
    let r = (put_parts a.at a.place s.at ps).0 in
    rw (front_at s.parts (list_of_parts r) k e) (rw (behind_at s.parts (list_of_parts r) k e) (rw (parts_again r) refl))

pub values_built : (a : Around) (v : Value) (vs : Values) (s : Built) → after_values a vs (after_value a v s) ≡ after_values a (tree.value v vs) s
values_built a v vs s =
    let r = put_value a.at a.place s.at v in
    rw (append_assoc s.values (r.0 ∷ []) (list_of_values (put_values a.at a.place r.1 vs).0)) refl

pub word_built : (a : Around) (w : List ℕ) (ps : Parts) (s : Built) → after_parts a ps (record s { parts = s.parts ++ tree.part_word w ∷ [] }) ≡ after_parts a (tree.part (tree.part_word w) ps) s
word_built a w ps s = rw (append_assoc s.parts (tree.part_word w ∷ []) (list_of_parts (put_parts a.at a.place s.at ps).0)) refl

pub part_built : (a : Around) (v : Value) (ps : Parts) (s : Built) → after_parts a ps (closing bare close.Part (after_value a v s)) ≡ after_parts a (tree.part (tree.part_value v) ps) s
part_built a v ps s =
    let r = put_value a.at a.place s.at v in
    rw (init_push s.values r.0) (rw (last_push tree.current_topic s.values r.0) (rw (append_assoc s.parts (tree.part_value r.0 ∷ []) (list_of_parts (put_parts a.at a.place r.1 ps).0)) refl))

-- ---- queries

pub asked_built : (a : Around) (q : Asking) (ps : Parts) (k : ℕ) (s : Built) → rule_for a.at.rules ps ≡ None → k ≡ length (list_of_parts (put_parts a.at a.place s.at ps).0) → closing bare (close.Query q k) (after_parts a ps s) ≡ after_stmt a (asked q ps) s
asked_built a asking.One ps k s none e = let r = (put_parts a.at a.place s.at ps).0 in rw none (rw (front_at s.parts (list_of_parts r) k e) (rw (behind_at s.parts (list_of_parts r) k e) (rw (parts_again r) refl)))
asked_built a asking.All ps k s none e = let r = (put_parts a.at a.place s.at ps).0 in rw none (rw (front_at s.parts (list_of_parts r) k e) (rw (behind_at s.parts (list_of_parts r) k e) (rw (parts_again r) refl)))
asked_built a asking.Not ps k s none e = let r = (put_parts a.at a.place s.at ps).0 in rw none (rw (front_at s.parts (list_of_parts r) k e) (rw (behind_at s.parts (list_of_parts r) k e) (rw (parts_again r) refl)))

-- in the body of an access rule, so deep
abbrev pub inside : Around → Level → Access → Parts → ℕ → Around
inside a l r ps n = record { at = l; place = within (given_by a.at (moved_from a.place) r.head ps) n }

query_used : (h l : Level) (n : ℕ) (f : Body → Stmt) (m : Option Access) (r : Access) (g : Access → List (List ℕ × Argument)) (o : Stmt × ℕ) → m ≡ Some r → h.inner ≡ put_body l → put_query h n f m g o ≡ made f (put_body l (within (g r) n) (n + 1) r.body)
query_used h l n f m r g o e d = ap (λ (x : Option Access). put_query h n f x g o) e ∙ ap (λ (i : Spot → ℕ → Body → Body × ℕ). made f (i (within (g r) n) (n + 1) r.body)) d

-- a statement, and the number behind it
abbrev with_stmt : Built → Stmt × ℕ → Built
with_stmt s r = record s { at = r.1; stmts = s.stmts ++ r.0 ∷ [] }

pub used_built : (a : Around) (l : Level) (q : Asking) (r : Access) (ps : Parts) (s : Built) → rule_for a.at.rules ps ≡ Some r → a.at.inner ≡ put_body l → closing bare (close.Wrapped (wrap_of q)) (after_body (inside a l r ps s.at) r.body (record s { at = s.at + 1 })) ≡ after_stmt a (asked q ps) s
used_built a l asking.One r ps s e inner =
    let x = (put_body l (inside a l r ps s.at).place (s.at + 1) r.body).0 in
    rw (init_push s.bodies x) (rw (last_push tree.no_branches s.bodies x)
    (sym (ap (with_stmt s) (query_used a.at l s.at tree.first_answer (rule_for a.at.rules ps) r (λ t. given_by a.at (moved_from a.place) t.head ps) (made tree.ask (put_parts a.at a.place s.at ps)) e inner))))
used_built a l asking.All r ps s e inner =
    let x = (put_body l (inside a l r ps s.at).place (s.at + 1) r.body).0 in
    rw (init_push s.bodies x) (rw (last_push tree.no_branches s.bodies x)
    (sym (ap (with_stmt s) (query_used a.at l s.at tree.group (rule_for a.at.rules ps) r (λ t. given_by a.at (moved_from a.place) t.head ps) (made tree.ask_all (put_parts a.at a.place s.at ps)) e inner))))
used_built a l asking.Not r ps s e inner =
    let x = (put_body l (inside a l r ps s.at).place (s.at + 1) r.body).0 in
    rw (init_push s.bodies x) (rw (last_push tree.no_branches s.bodies x)
    (sym (ap (with_stmt s) (query_used a.at l s.at tree.not_group (rule_for a.at.rules ps) r (λ t. given_by a.at (moved_from a.place) t.head ps) (made tree.ask_not (put_parts a.at a.place s.at ps)) e inner))))

-- ---- changes

nothing_behind : (cs : Changes) → changes_behind cs tree.no_changes ≡ cs
nothing_behind tree.no_changes = refl
nothing_behind (tree.change ps set cs) = ap (tree.change ps set) (nothing_behind cs)

changes_listed : (cs ds : Changes) → list_of_changes (changes_behind cs ds) ≡ list_of_changes cs ++ list_of_changes ds
changes_listed tree.no_changes ds = refl
changes_listed (tree.change ps set cs) ds = ap (λ (l : List (Parts × Bool)). (ps, set) ∷ l) (changes_listed cs ds)

pub change_built : (a : Around) (set : Bool) (ps : Parts) (k : ℕ) (s : Built) → change_access set (rule_for a.at.rules ps) ≡ None → k ≡ length (list_of_parts (put_parts a.at a.place s.at ps).0) → closing bare (close.Change set k) (after_parts a ps s) ≡ after_changes a (one_change set ps) s
change_built a set ps k s none e = let r = (put_parts a.at a.place s.at ps).0 in rw none (rw (front_at s.parts (list_of_parts r) k e) (rw (behind_at s.parts (list_of_parts r) k e) (rw (parts_again r) refl)))

change_used : (h l : Level) (n : ℕ) (set : Bool) (m : Option Access) (r : Access) (g : Access → List (List ℕ × Argument)) (o : Changes × ℕ) → m ≡ Some r → h.inner_changes ≡ put_changes l → put_change h n set m g o ≡ put_changes l (within (g r) n) (n + 1) (changes_in set (list_queries r.body))
change_used h l n set m r g o e d = ap (λ (x : Option Access). put_change h n set x g o) e ∙ ap (λ (i : Spot → ℕ → Changes → Changes × ℕ). i (within (g r) n) (n + 1) (changes_in set (list_queries r.body))) d

-- changes, and the number behind them
abbrev with_changes : Built → Changes × ℕ → Built
with_changes s r = record s { at = r.1; changes = s.changes ++ list_of_changes r.0 }

pub changed_built : (a : Around) (l : Level) (set : Bool) (r : Access) (ps : Parts) (s : Built) → change_access set (rule_for a.at.rules ps) ≡ Some r → a.at.inner_changes ≡ put_changes l → after_changes (inside a l r ps s.at) (changes_in set (list_queries r.body)) (record s { at = s.at + 1 }) ≡ after_changes a (one_change set ps) s
changed_built a l set r ps s e inner =
    let x = put_changes l (inside a l r ps s.at).place (s.at + 1) (changes_in set (list_queries r.body)) in
    ap (λ (cs : Changes). with_changes s (cs, x.1)) (sym (nothing_behind x.0))
    ∙ sym (ap (λ (z : Changes × ℕ). with_changes s (changes_behind z.0 tree.no_changes, z.1)) (change_used a.at l s.at set (change_access set (rule_for a.at.rules ps)) r (λ t. given_by a.at (moved_from a.place) t.head ps) (made (one_change set) (put_parts a.at a.place s.at ps)) e inner))

pub changes_built : (a : Around) (set : Bool) (ps : Parts) (cs : Changes) (s : Built) → after_changes a cs (after_changes a (one_change set ps) s) ≡ after_changes a (tree.change ps set cs) s
changes_built a set ps cs s =
    let x = put_change a.at s.at set (change_access set (rule_for a.at.rules ps)) (λ r. given_by a.at (moved_from a.place) r.head ps) (made (one_change set) (put_parts a.at a.place s.at ps)) in
    let y = put_changes a.at a.place x.1 cs in
    rw (nothing_behind x.0) (rw (append_assoc s.changes (list_of_changes x.0) (list_of_changes y.0)) (rw (changes_listed x.0 y.0) refl))

added : (xs ys : List (Parts × Bool)) (h : ℕ) → h ≡ length xs → length (xs ++ ys) - h ≡ length ys
added xs ys h e = omega (arith, length-append xs ys)

pub now_built : (a : Around) (cs : Changes) (h : ℕ) (s : Built) → h ≡ length s.changes → closing bare (close.Now (length (after_changes a cs s).changes - h)) (after_changes a cs s) ≡ after_stmt a (tree.now cs) s
now_built a cs h s e =
    let r = (put_changes a.at a.place s.at cs).0 in
    let l = list_of_changes r in
    rw (front_at s.changes l _ (added s.changes l h e)) (rw (behind_at s.changes l _ (added s.changes l h e)) (rw (changes_again r) refl))

-- ---- statements

pub print_built : (a : Around) (v : Value) (s : Built) → closing bare close.Print (after_value a v s) ≡ after_stmt a (tree.print v) s
print_built a v s = let r = (put_value a.at a.place s.at v).0 in rw (init_push s.values r) (rw (last_push tree.current_topic s.values r) refl)

pub wrapped_built : (a : Around) (w : Wrap) (b : Body) (s : Built) → closing bare (close.Wrapped w) (after_body a b s) ≡ after_stmt a (wrapped w b) s
wrapped_built a wrap.Group b s = let r = (put_body a.at a.place s.at b).0 in rw (init_push s.bodies r) (rw (last_push tree.no_branches s.bodies r) refl)
wrapped_built a wrap.NotGroup b s = let r = (put_body a.at a.place s.at b).0 in rw (init_push s.bodies r) (rw (last_push tree.no_branches s.bodies r) refl)
wrapped_built a wrap.First b s = let r = (put_body a.at a.place s.at b).0 in rw (init_push s.bodies r) (rw (last_push tree.no_branches s.bodies r) refl)

pub if_built : (a : Around) (arms : Arms) (k : ℕ) (s : Built) → k ≡ length (list_of_arms (put_arms a.at a.place s.at arms).0) → closing bare (close.If k) (after_arms a arms s) ≡ after_stmt a (tree.choice arms) s
if_built a arms k s e = let r = (put_arms a.at a.place s.at arms).0 in rw (front_at s.arms (list_of_arms r) k e) (rw (behind_at s.arms (list_of_arms r) k e) (rw (arms_again r) refl))

pub else_built : (a : Around) (arms : Arms) (b : Body) (k : ℕ) (s : Built) → k ≡ length (list_of_arms (put_arms a.at a.place s.at arms).0) → closing bare (close.IfElse k) (after_body a b (after_arms a arms s)) ≡ after_stmt a (tree.choice_else arms b) s
else_built a arms b k s e =
    let r = put_arms a.at a.place s.at arms in
    let l = list_of_arms r.0 in
    let x = (put_body a.at a.place r.1 b).0 in
    rw (front_at s.arms l k e) (rw (behind_at s.arms l k e) (rw (arms_again r.0) (rw (init_push s.bodies x) (rw (last_push tree.no_branches s.bodies x) refl))))

pub exhaust_built : (a : Around) (x : Stmt) (s : Built) → closing bare close.Exhaust (after_stmt a x s) ≡ after_stmt a (tree.exhaust x) s
exhaust_built a x s = let r = (put_stmt a.at a.place s.at x).0 in rw (init_push s.stmts r) (rw (last_push no_stmt s.stmts r) refl)

pub stoppable_built : (a : Around) (x : Stmt) (s : Built) → closing bare close.Stoppable (after_stmt a x s) ≡ after_stmt a (tree.stoppable x) s
stoppable_built a x s = let r = (put_stmt a.at a.place s.at x).0 in rw (init_push s.stmts r) (rw (last_push no_stmt s.stmts r) refl)

pub collect_built : (a : Around) (v : Value) (b : Body) (into : Value) (s : Built) → closing bare close.Collect (after_value a into (after_body a b (after_value a v s))) ≡ after_stmt a (tree.collect v b into) s
collect_built a v b into s =
    let p = put_value a.at a.place s.at v in
    let q = put_body a.at a.place p.1 b in
    let r = put_value a.at a.place q.1 into in
    rw (init_push (s.values ++ p.0 ∷ []) r.0) (rw (last_push tree.current_topic (s.values ++ p.0 ∷ []) r.0) (rw (init_push s.values p.0) (rw (last_push tree.current_topic s.values p.0) (rw (init_push s.bodies q.0) (rw (last_push tree.no_branches s.bodies q.0) refl)))))

pub accumulate_built : (a : Around) (v : Value) (b : Body) (into : Value) (s : Built) → closing bare close.Accumulate (after_value a into (after_body a b (after_value a v s))) ≡ after_stmt a (tree.accumulate v b into) s
accumulate_built a v b into s =
    let p = put_value a.at a.place s.at v in
    let q = put_body a.at a.place p.1 b in
    let r = put_value a.at a.place q.1 into in
    rw (init_push (s.values ++ p.0 ∷ []) r.0) (rw (last_push tree.current_topic (s.values ++ p.0 ∷ []) r.0) (rw (init_push s.values p.0) (rw (last_push tree.current_topic s.values p.0) (rw (init_push s.bodies q.0) (rw (last_push tree.no_branches s.bodies q.0) refl)))))

pub select_built : (a : Around) (mode : Mode) (b : Body) (k : ℕ) (s : Built) → k ≡ length (list_of_branches (put_body a.at a.place s.at b).0) → closing bare (close.Select mode k) (after_branches a b s) ≡ after_stmt a (tree.select mode b) s
select_built a mode b k s e = let r = (put_body a.at a.place s.at b).0 in rw (front_at s.branches (list_of_branches r) k e) (rw (behind_at s.branches (list_of_branches r) k e) (rw (branches_again r) refl))

pub body_built : (a : Around) (b : Body) (k : ℕ) (s : Built) → k ≡ length (list_of_branches (put_body a.at a.place s.at b).0) → closing bare (close.Body k) (after_branches a b s) ≡ after_body a b s
body_built a b k s e = let r = (put_body a.at a.place s.at b).0 in rw (front_at s.branches (list_of_branches r) k e) (rw (behind_at s.branches (list_of_branches r) k e) (rw (branches_again r) refl))

pub stmts_built : (a : Around) (x : Stmt) (ss : Stmts) (s : Built) → after_stmts a ss (after_stmt a x s) ≡ after_stmts a (tree.stmt x ss) s
stmts_built a x ss s =
    let r = put_stmt a.at a.place s.at x in
    rw (append_assoc s.stmts (r.0 ∷ []) (list_of_stmts (put_stmts a.at a.place r.1 ss).0)) refl

pub branch_built : (a : Around) (ss : Stmts) (b : Body) (k : ℕ) (s : Built) → k ≡ length (list_of_stmts (put_stmts a.at a.place s.at ss).0) → after_branches a b (closing bare (close.Branch k) (after_stmts a ss s)) ≡ after_branches a (tree.branch ss b) s
branch_built a ss b k s e =
    let r = put_stmts a.at a.place s.at ss in
    let l = list_of_stmts r.0 in
    rw (front_at s.stmts l k e) (rw (behind_at s.stmts l k e) (rw (stmts_again r.0) (rw (append_assoc s.branches (r.0 ∷ []) (list_of_branches (put_body a.at a.place r.1 b).0)) refl)))

pub arm_built : (a : Around) (c b : Body) (arms : Arms) (s : Built) → after_arms a arms (closing bare close.Arm (after_body a b (after_body a c s))) ≡ after_arms a (tree.arm c b arms) s
arm_built a c b arms s =
    let p = put_body a.at a.place s.at c in
    let q = put_body a.at a.place p.1 b in
    rw (init_push (s.bodies ++ p.0 ∷ []) q.0) (rw (last_push tree.no_branches (s.bodies ++ p.0 ∷ []) q.0) (rw (init_push s.bodies p.0) (rw (last_push tree.no_branches s.bodies p.0)
    (rw (append_assoc s.arms ((p.0, q.0) ∷ []) (list_of_arms (put_arms a.at a.place q.1 arms).0)) refl))))

-- ---- so deep

pub inner_is : (rules : List Access) (mark depth : ℕ) (ps : Parts) (r : Access) → rule_for (level rules mark depth).rules ps ≡ Some r → (level rules mark depth).inner ≡ put_body (level rules mark (depth - 1))
inner_is rules mark zero ps r e = cc
inner_is rules mark (suc depth) ps r e = ap (λ (d : ℕ). put_body (level rules mark d)) (pred depth)
  where
    pred : (d : ℕ) → d ≡ suc d - 1
    pred d = omega arith

pub inner_changes_is : (rules : List Access) (mark depth : ℕ) (ps : Parts) (r : Access) → rule_for (level rules mark depth).rules ps ≡ Some r → (level rules mark depth).inner_changes ≡ put_changes (level rules mark (depth - 1))
inner_changes_is rules mark zero ps r e = cc
inner_changes_is rules mark (suc depth) ps r e = ap (λ (d : ℕ). put_changes (level rules mark d)) (pred depth)
  where
    pred : (d : ℕ) → d ≡ suc d - 1
    pred d = omega arith
