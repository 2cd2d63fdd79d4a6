-- What goals lead to that are quiet by a closed set, or query predicates whose rules have quiet bodies.
use Rattle.std.proofs.Common.{◌≡◌, ℕ, inl, inr, List, [], ◌∷◌, ◌++◌, Option, Some, None, Bool, true, false, refl, sym, ◌∙◌, ◌⊎◌, map}
use Rattle.std.specs.Prelude.{◌&&◌, ◌+◌, slice_get}
use Rattle.std.proofs.lemmas.Bool.{and_parts, or_cases}
use Rattle.dg_base.specs.declared.program.Goal.{Goal, Goal-F, out-Goal}
use Rattle.dg_base.specs.declared.program.Goal.TheOpen.{Equal, Ask, Either, Once, Not, If, Just, Fail, Exhaust, Arith, Compare, Test, IsObject}
use Rattle.dg_base.specs.declared.program.Pred.{Pred}
use Rattle.dg_base.specs.declared.program.Rule.{Rule}
use Rattle.dg_meaning.specs.Values.{Object, Value, Var, Node, value_of}
use Rattle.dg_meaning.specs.Substitutions.{walk}
use Rattle.dg_meaning.specs.Changes.{found}
use Rattle.dg_meaning.specs.Numbers.{of_numbers, calculated}
use Rattle.dg_meaning.specs.World.{Game, World, Asked, noted, worked}
use Rattle.dg_meaning.specs.Path.{Step, Answers, Cut, Refuse, Back, Registers, Path, Branch}
use Rattle.dg_meaning.specs.Moves.{path_of, goals_at, enter_if, rule_steps, entered, match, matched, entering, is_excluded, call_cells, unless_excluded, list_branches, first_alone, vars_of, rule_branch, rule_branches, rules_of, numbers, object_branches, gives_number, reads_if_set, ask, ask_object, first_looks, looked_up, test_looks, effect}
use Rattle.dg_meaning.specs.Sets.{is_in_set}
use Rattle.dg_meaning.specs.Quiet.{is_quiet_form, are_quiet, have_quiet_bodies, IsQuietBy}
use Rattle.dg_quiet.specs.inside.Left.{all_quiet, inside_quiet}
use Rattle.dg_quiet.specs.inside.Unchanged.{has_quiet_rules, is_quiet_query, ask_quietly}
use Rattle.dg_quiet.proofs.AsksLemmas.{quiet_layer, quiet_first, and_true}
use Rattle.dg_quiet.proofs.Still.{IsSense, AreStill, BranchStill, AllStill, ActStill, EffectStill}

-- a goal is quiet, or such a query
abbrev pub MayAsk : Game → List Bool → Goal → Type 0
MayAsk g set x = (quiet_layer set (out-Goal x) ≡ true) ⊎ (is_quiet_query g.program set (out-Goal x) ≡ true)

-- the predicates of a closed set have quiet rules
pub set_has_quiet_rules : (g : Game) (changing : ℕ → Bool) (set : List Bool) → IsQuietBy g.program.preds changing set → (pred : ℕ) → is_in_set set pred ≡ true → has_quiet_rules g.program set pred ≡ true
set_has_quiet_rules g changing set closed pred h = here (slice_get g.program.preds pred) refl
  where
    here : (o : Option Pred) → slice_get g.program.preds pred ≡ o → have_quiet_bodies set (rules_of o) ≡ true
    here None e = refl
    here (Some p) e = (closed pred p e h).1

module _ (g : Game) (set : List Bool) (rules : (pred : ℕ) → is_in_set set pred ≡ true → has_quiet_rules g.program set pred ≡ true) (Same : World → World → Type 0) (sense : IsSense Same) (May : Goal → Type 0) (may : (x : Goal) → quiet_layer set (out-Goal x) ≡ true → May x) where
  goals_still : (env : List Value) (t : ℕ) (gs : List Goal) (steps : List Step) → are_quiet set gs ≡ true → AreStill May steps → AreStill May (goals_at env t gs ++ steps)
  goals_still env t [] steps q h = h
  goals_still env t (x ∷ gs) steps q h =
      let parts = and_parts (quiet_layer set (out-Goal x)) (are_quiet set gs) (sym (quiet_first set x gs) ∙ q) in
      (may x parts.0, goals_still env t gs steps parts.1 h)

  -- ## Branches

  if_still : (b : Bool) (path : Path) (work : ℕ) → AreStill May path.steps → BranchStill May (enter_if b path work)
  if_still true path work h = h
  if_still false path work h = tt

  unless_still : (b : Bool) (r : Registers) (work : ℕ) (x : Branch) → BranchStill May x → BranchStill May (unless_excluded b r work x)
  unless_still true r work x h = tt
  unless_still false r work x h = h

  first_still : (many : Bool) (t : ℕ) (steps : List Step) → AreStill May steps → AreStill May (first_alone many t steps)
  first_still true t steps h = h
  first_still false t steps h = h

  module _ (env : List Value) (t : ℕ) (steps : List Step) (r : Registers) (h : AreStill May steps) where
    rule_still : (pred : ℕ) (args : List Value) (many : Bool) (heap : ℕ) (rule : Rule) → are_quiet set rule.body ≡ true → BranchStill May (rule_branch g pred args many steps r heap rule)
    rule_still pred args many heap rule q =
        let u = match g args rule r in
        let work = entering g args rule r in
        let path = path_of (rule_steps pred many (vars_of rule r) r.next_tag rule steps) (matched u r (entered g heap rule r)) in
        let body = goals_still (vars_of rule r) r.next_tag rule.body (Answers pred ∷ first_alone many r.next_tag steps) q (first_still many r.next_tag steps h) in
        unless_still (is_excluded args r rule) r work (enter_if u.agrees path work) (if_still u.agrees path work body)

    rules_still : (pred : ℕ) (args : List Value) (many : Bool) (rs : List Rule) → have_quiet_bodies set rs ≡ true → AllStill May (rule_branches g pred args many steps r rs)
    rules_still pred args many [] q = tt
    rules_still pred args many (rule ∷ rs) q =
        let parts = and_parts (are_quiet set rule.body) (have_quiet_bodies set rs) q in
        (rule_still pred args many (call_cells args r rs) rule parts.0, rules_still pred args many rs parts.1)

    lists_still : (lists : List (List Goal)) → all_quiet set lists ≡ true → AllStill May (list_branches env t steps r lists)
    lists_still [] q = tt
    lists_still (gs ∷ lists) q = let parts = and_parts (are_quiet set gs) (all_quiet set lists) q in (goals_still env t gs steps parts.0 h, lists_still lists parts.1)

    objects_still : (args : List Value) (many : Bool) (os : List ℕ) → AllStill May (object_branches None args many steps r os)
    objects_still args many [] = tt
    objects_still args many (o ∷ os) = (first_still many r.next_tag steps h, objects_still args many os)

    -- ## Effects

    set_still : (v : Option Value) (w u : World) → Same w u → ActStill Same May w (reads_if_set [] r v u)
    set_still None w u s = s
    set_still (Some v) w u s = s

    object_still : (u v : Value) (many : Bool) (w w' : World) → Same w w' → EffectStill Same May w (ask_object g None u v [] many steps r w')
    object_still (Var x) v many w w' s = (tt, s, objects_still (v ∷ []) many (numbers 0 g.program.objects))
    object_still (Node (Object o) vs) v many w w' s = set_still (found w'.facts None o) w w' s
    object_still u v many w w' s = s

    number_still : (n : Option ℕ) (into : Value) (w u : World) → Same w u → ActStill Same May w (gives_number n into r u)
    number_still None into w u s = s
    number_still (Some n) into w u s = s

    ask_still : (pred : ℕ) (args : List Value) (many : Bool) (w : World) → has_quiet_rules g.program set pred ≡ true → EffectStill Same May w (ask g pred args many steps r w)
    ask_still pred args many w q =
        let v = worked (first_looks r args) w in
        (tt, sense.on w v (noted (Asked pred) v) (sense.works (first_looks r args) w) (sense.tells (Asked pred) v tt), rules_still pred args many (rules_of (slice_get g.program.preds pred)) q)

    form_still : (x : Goal-F Goal) (w : World) → is_quiet_form set x ≡ true → inside_quiet set x ≡ true → EffectStill Same May w (effect g x env t steps r w)
    form_still (Equal a b) w f q = sense.here w
    form_still (Ask pred args many) w f q = ask_still pred (map (value_of g.program env) args) many w (rules pred f)
    form_still (Either lists) w f q = (tt, sense.here w, lists_still lists q)
    form_still (Once gs) w f q = (tt, sense.here w, (goals_still env t gs (Cut r.next_tag ∷ steps) q h, tt))
    form_still (Not gs) w f q = (tt, sense.here w, (goals_still env t gs (Refuse r.next_tag ∷ []) q tt, (h, tt)))
    form_still (If test first other) w f q =
        let parts = and_parts (are_quiet set test) (are_quiet set first && are_quiet set other) q in
        let ways = and_parts (are_quiet set first) (are_quiet set other) parts.1 in
        (tt, sense.here w, (goals_still env t test (Cut r.next_tag ∷ (goals_at env t first ++ steps)) parts.0 (goals_still env t first steps ways.0 h), (goals_still env t other steps ways.1 h, tt)))
    form_still Just w f q = (sense.here w, h)
    form_still Fail w f q = sense.here w
    form_still (Exhaust gs) w f q = (tt, sense.here w, (goals_still env t gs (Back ∷ []) q tt, (h, tt)))
    form_still (Arith op a b c) w f q =
        let v = value_of g.program env a in
        let u = value_of g.program env b in
        number_still (of_numbers (calculated op) (walk r.bound v) (walk r.bound u)) (value_of g.program env c) w _ (sense.works (looked_up r v + looked_up r u) w)
    form_still (Compare op a b) w f q = sense.works (looked_up r (value_of g.program env a) + looked_up r (value_of g.program env b)) w
    form_still (Test kind a) w f q = sense.works (test_looks kind (value_of g.program env a) r) w
    form_still (IsObject a many) w f q =
        let v = value_of g.program env a in object_still (walk r.bound v) v many w (worked (looked_up r v) w) (sense.works (looked_up r v) w)
    form_still _ w f q = absurd (cc (f))

    query_still : (x : Goal-F Goal) (w : World) → is_quiet_query g.program set x ≡ true → EffectStill Same May w (effect g x env t steps r w)
    query_still (Ask pred args many) w q = ask_still pred (map (value_of g.program env) args) many w q
    query_still _ w q = absurd (cc (q))

    pub asked_still : (x : Goal) (w : World) → MayAsk g set x → EffectStill Same May w (effect g (out-Goal x) env t steps r w)
    asked_still x w (inl q) =
        let parts = and_parts (is_quiet_form set (out-Goal x)) (inside_quiet set (out-Goal x)) q in form_still (out-Goal x) w parts.0 parts.1
    asked_still x w (inr q) = query_still (out-Goal x) w q

-- ## The start

-- a goal that may stand at the start may be asked
starts : (g : Game) (set : List Bool) (x : Goal) → (are_quiet set (x ∷ []) ≡ true) ⊎ (is_quiet_query g.program set (out-Goal x) ≡ true) → MayAsk g set x
starts g set x (inl q) = inl (sym (quiet_first set x [] ∙ and_true (quiet_layer set (out-Goal x))) ∙ q)
starts g set x (inr q) = inr q

pub all_start : (g : Game) (set : List Bool) (May : Goal → Type 0) → ((x : Goal) → MayAsk g set x → May x) → (env : List Value) (t : ℕ) (gs : List Goal) → ask_quietly g.program set gs ≡ true → AreStill May (goals_at env t gs)
all_start g set May may env t [] q = tt
all_start g set May may env t (x ∷ gs) q =
    let parts = and_parts _ (ask_quietly g.program set gs) q in
    (may x (starts g set x (or_cases (are_quiet set (x ∷ [])) (is_quiet_query g.program set (out-Goal x)) parts.0)), all_start g set May may env t gs parts.1)
