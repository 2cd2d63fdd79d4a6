-- What is built where access rules are put in, and what each step comes to. The proofs alone rest on it.
use Rattle.std.specs.Prelude.{◌≡◌, ℕ, ◌-◌, List, [], ◌∷◌, ◌++◌, Bool, true, false, Option, Some, None, length, map, if◌then◌else◌}
use Rattle.std.specs.Borrow.{Bor}
use Rattle.std.specs.Str.{bytes_eq}
use Rattle.dg_base.specs.Tree as tree
use Rattle.dg_base.specs.Tree.{Part, Parts, Value, Values, Stmt, Stmts, Body, Arms, Changes, parts_of, values_of, stmts_of, arms_of, changes_of}
use Rattle.dg_base.specs.TreeView.{part_view, value_view, stmt_view, arm_view, body_view, change_view, branches_view}
use Rattle.dg_base.specs.declared.tree.Part.{Part as CodePart}
use Rattle.dg_base.specs.declared.tree.Value.{Value as CodeValue}
use Rattle.dg_plain.specs.Plain.{Setting}
use Rattle.dg_plain.specs.Building.{Built, built_view, closing, unbuilt, list_of_values, list_of_parts, list_of_stmts, list_of_branches, list_of_arms, list_of_changes}
use Rattle.dg_plain.specs.declared.work.Asking.{Asking}
use Rattle.dg_plain.specs.declared.work.Asking.TheVariants as asking
use Rattle.dg_plain.specs.declared.work.Close.TheVariants as close
use Rattle.dg_plain.specs.declared.work.Wrap.{Wrap}
use Rattle.dg_plain.specs.declared.work.Wrap.TheVariants as wrap
use Rattle.dg_plain.specs.declared.built.Built.{Built as CodeBuilt}
use Rattle.dg_put.specs.Put.{Access, Spot, Level, level, given_by, moved_from, within, in_closure, in_copy, parameter_of, one_change, put_value, put_values, put_parts, put_stmt, put_stmts, put_body, put_arms, put_changes, changes_in}
use Rattle.dg_put.specs.declared.access.Access.{Access as CodeAccess}
use Rattle.dg_put.specs.declared.place.Outer.{Outer, fold-Outer}
use Rattle.dg_put.specs.declared.place.Outer.TheOpen.{Outer-F, Place-F}
use Rattle.dg_put.specs.declared.place.Place.{Place as CodePlace}
use Rattle.dg_put.specs.declared.place.Uses.{Uses}
use Rattle.dg_put.specs.declared.work.Work.{Work}
use Rattle.dg_put.specs.declared.work.Work.TheVariants as work

-- ---- places

abbrev pub access_view : CodeAccess → Access
access_view r = record { name = r.name.now; head = parts_of (map part_view r.head.now); body = body_view r.body.now }

-- Where something stands, and what can be put in there.
pub record Around : Type 0 where
  pub at : Level
  pub place : Spot

-- The arguments that were given by the place outside.
abbrev pub given_from : Option Around → List CodePart → List CodePart → List (List ℕ × (ℕ → Value × ℕ))
given_from None params args = []
given_from (Some o) params args = given_by o.at o.place (parts_of (map part_view params)) (parts_of (map part_view args))

-- Names, as plain data.
abbrev pub names_seen : List (Bor (List ℕ)) → List (List ℕ)
names_seen names = map (λ (w : Bor (List ℕ)). w.now) names

-- A place, with what is outside of it being plain data already.
abbrev pub place_step : List Access → ℕ → Place-F (Option Around) Around → Around
place_step rules mark p = record {
  at = level rules mark p.depth;
  place = record {
    given = given_from p.outer p.params.now p.args.now;
    use_number = p.use_number;
    copy_number = p.copy_number;
    names = names_seen p.names.now;
    moved = p.moved;
    closed = p.closed;
  };
}

abbrev pub outer_step : Outer-F (Option Around) Around → Option Around
outer_step Outer-F.Item = None
outer_step (Outer-F.Within p) = Some p.now

-- What stands outside.
abbrev pub outer_view : List Access → ℕ → Outer → Option Around
outer_view rules mark = fold-Outer (Option Around) Around outer_step (place_step rules mark)

abbrev pub around_in : List Access → ℕ → CodePlace → Around
around_in rules mark p = place_step rules mark (record {
  outer = outer_view rules mark p.outer;
  params = p.params;
  args = p.args;
  depth = p.depth;
  use_number = p.use_number;
  copy_number = p.copy_number;
  names = p.names;
  moved = p.moved;
  closed = p.closed;
})

-- What a place stands for.
abbrev pub around : Uses → CodePlace → Around
around u p = around_in (map access_view u.rules.all.now) u.mark p

-- At a place outside of access rules, with so many of them one in the other.
abbrev pub standing_in : Uses → ℕ → Spot → Around
standing_in u depth p = record { at = level (map access_view u.rules.all.now) u.mark depth; place = p }

abbrev pub closed_around : Around → Around
closed_around a = record a { place = in_closure a.place }

abbrev pub copied_around : Around → ℕ → Around
copied_around a n = record a { place = in_copy a.place n }

-- In the body of an access rule that is put in for a query of these parts, of this number.
abbrev pub within_around : Uses → CodePlace → Access → Parts → ℕ → Around
within_around u p r ps n = record {
  at = level (map access_view u.rules.all.now) u.mark (p.depth - 1);
  place = within (given_by (around u p).at (moved_from (around u p).place) r.head ps) n;
}

-- An argument, with where it stands.
abbrev pub argument_given : List Access → ℕ → Bor CodePlace × Bor CodeValue → ℕ → Value × ℕ
argument_given rules mark given n = let a = around_in rules mark given.0.now in put_value a.at a.place n (value_view given.1.now)

-- A query as a change.
abbrev pub change_seen : Bor (List CodePart) × Bool → Parts × Bool
change_seen c = (parts_of (map part_view c.0.now), c.1)

-- The value of a part.
abbrev pub value_in : Part → Option Value
value_in (tree.part_word w) = None
value_in (tree.part_value v) = Some v

abbrev pub argument_or : Option (List ℕ) → Option Value → List ℕ → Option Value → Option Value
argument_or (Some n) (Some v) w rest = if bytes_eq n w then Some v else rest
argument_or (Some n) None w rest = rest
argument_or None v w rest = rest

-- The argument of a parameter.
abbrev pub argument_in : List Part → List Part → List ℕ → Option Value
argument_in [] qs w = None
argument_in (h ∷ hs) [] w = None
argument_in (h ∷ hs) (q ∷ qs) w = argument_or (parameter_of h) (value_in q) w (argument_in hs qs w)

-- ---- a part of the tree that is looked at

abbrev pub after_value : Around → Value → Built → Built
after_value a v s = let r = put_value a.at a.place s.at v in record s { at = r.1; values = s.values ++ r.0 ∷ [] }

abbrev pub after_values : Around → Values → Built → Built
after_values a vs s = let r = put_values a.at a.place s.at vs in record s { at = r.1; values = s.values ++ list_of_values r.0 }

abbrev pub after_parts : Around → Parts → Built → Built
after_parts a ps s = let r = put_parts a.at a.place s.at ps in record s { at = r.1; parts = s.parts ++ list_of_parts r.0 }

abbrev pub after_stmt : Around → Stmt → Built → Built
after_stmt a x s = let r = put_stmt a.at a.place s.at x in record s { at = r.1; stmts = s.stmts ++ r.0 ∷ [] }

abbrev pub after_stmts : Around → Stmts → Built → Built
after_stmts a ss s = let r = put_stmts a.at a.place s.at ss in record s { at = r.1; stmts = s.stmts ++ list_of_stmts r.0 }

abbrev pub after_branches : Around → Body → Built → Built
after_branches a b s = let r = put_body a.at a.place s.at b in record s { at = r.1; branches = s.branches ++ list_of_branches r.0 }

abbrev pub after_body : Around → Body → Built → Built
after_body a b s = let r = put_body a.at a.place s.at b in record s { at = r.1; bodies = s.bodies ++ r.0 ∷ [] }

abbrev pub after_arms : Around → Arms → Built → Built
after_arms a arms s = let r = put_arms a.at a.place s.at arms in record s { at = r.1; arms = s.arms ++ list_of_arms r.0 }

abbrev pub after_changes : Around → Changes → Built → Built
after_changes a cs s = let r = put_changes a.at a.place s.at cs in record s { at = r.1; changes = s.changes ++ list_of_changes r.0 }

-- A query of this kind, where it is replaced by the body of its access rule.
abbrev pub wrap_of : Asking → Wrap
wrap_of asking.One = wrap.First
wrap_of asking.All = wrap.Group
wrap_of asking.Not = wrap.NotGroup

-- ---- all that is left

-- A query stays one value where it stands as one.
abbrev pub bare : Setting
bare = record { topic = None; number = 0; declares = Bool.true }

-- What a step comes to.
abbrev pub does : (CodePlace → Around) → Work → Built → Built
does at (work.Value p v) s = after_value (at p.now) (value_view v.now) s
does at (work.Values p vs) s = after_values (at p.now) (values_of (map value_view vs.now)) s
does at (work.Parts p ps) s = after_parts (at p.now) (parts_of (map part_view ps.now)) s
does at (work.Stmt p x) s = after_stmt (at p.now) (stmt_view x.now) s
does at (work.Stmts p ss) s = after_stmts (at p.now) (stmts_of (map stmt_view ss.now)) s
does at (work.Branches p bs) s = after_branches (at p.now) (branches_view (map (map stmt_view) bs.now)) s
does at (work.Body p b) s = after_body (at p.now) (body_view b.now) s
does at (work.Arms p arms) s = after_arms (at p.now) (arms_of (map arm_view arms.now)) s
does at (work.Change p set ps) s = after_changes (at p.now) (one_change set (parts_of (map part_view ps.now))) s
does at (work.Changes p cs) s = after_changes (at p.now) (changes_of (map change_view cs.now)) s
does at (work.Queries p set ss) s = after_changes (at p.now) (changes_in set (stmts_of (map stmt_view ss.now))) s
does at (work.Now height) s = closing bare (close.Now (length s.changes - height)) s
does at (work.Close k) s = closing bare k s

-- What all that is left comes to, the last of it being done first.
abbrev pub run : (CodePlace → Around) → List Work → Built → Built
run at [] s = s
run at (w ∷ ws) s = does at w (run at ws s)

-- The changes that are built go into a statement.
abbrev pub is_now : Work → Bool
is_now (work.Now height) = true
is_now (work.Close (close.Now k)) = true
is_now w = false

-- Something was put off at a place: what is left comes to the same as it and what was left.
abbrev pub IsPutOff : CodePlace → (Around → Built → Built) → List Work → List Work → Type 0
IsPutOff p f old new = (at : CodePlace → Around) (s : Built) → run at new s ≡ run at old (f (at p) s)

-- A step was taken, or put off: what is left comes to the same as before.
abbrev pub IsStep : (CodePlace → Around) → (Built → Built) → List Work → List Work → CodeBuilt → CodeBuilt → Type 0
IsStep at f old new before after = run at new (built_view after) ≡ run at old (f (built_view before))

-- Nothing yet, the next new name having this number.
abbrev pub numbered : ℕ → Built
numbered n = record unbuilt { at = n }
