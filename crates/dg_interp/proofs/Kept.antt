-- A choice is kept where it stays, and where a run stands behind its first branch.
use Rattle.std.proofs.Common.{◌≡◌, ℕ, ◌+◌, ◌-◌, ◌≤◌, List, [], ◌∷◌, Bool, true, false, refl, sym, ap, ◌∙◌, subst, arith, take}
use Rattle.std.specs.Prelude.{if◌then◌else◌}
use Rattle.std.specs.List.{All}
use Rattle.dg_meaning.specs.World.{Game, World}
use Rattle.dg_meaning.specs.Transcript.{Run}
use Rattle.dg_base.specs.declared.program.Rule.{Rule}
use Rattle.dg_base.specs.declared.program.Goal.{Goal}
use Rattle.dg_meaning.specs.Path.{Step, Registers, Path, Branch, ChoiceKind, Plain, Rules as RulesOf}
use Rattle.dg_meaning.specs.Moves.{enter_if, match, is_excluded, unless_excluded, rule_branches, list_branches, choice_cells}
use Rattle.dg_meaning.specs.inside.Keeps.{Tried, open_at}
use Rattle.dg_meaning.specs.Values.{Value}
use Rattle.dg_meaning.specs.inside.Context.{Way, Live, stays, pushed}
use Rattle.dg_unify.specs.Store.{Saved, Holds}
use Rattle.dg_unify.specs.Laws.{saves_drops}
use Rattle.dg_unify.specs.Listed.{fields_of}
use Rattle.dg_unify.specs.declared.bindings.Ref.{Ref}
use Rattle.dg_unify.specs.declared.list.ListBindings.{ListBindings}
use Rattle.dg_choices.specs.declared.frames.Env.{Env}
use Rattle.dg_choices.specs.declared.frames.Frame.{Frame}
use Rattle.dg_choices.specs.declared.frames.Left.{Left}
use Rattle.dg_choices.specs.declared.frames.Left.TheVariants.{Rules, Lists, Ways, Way as OneWay, Behind, TakeOut, Things}
use Rattle.dg_choices.specs.declared.frames.Choice.{Choice}
use Rattle.dg_interp.specs.inside.Frames.{values_in, steps_behind, kind_of, branches_of, AreChoices, AreFrames, IsLeft, StandOn, GoBackTo, IsOrdinary, IsNoted, cut_if, lives_of, ways_of, left_in, all_left, has_some, stays_with, cells_if}
use Rattle.dg_unify.specs.inside.Engines.{Agrees}
use Rattle.dg_interp.specs.inside.Engine.{KeepsPlaces, kept_if}
use Rattle.dg_interp.proofs.Links.{stand_raise, no_part, plain_cut, plain_way}
use Rattle.dg_meaning.specs.Facts.{kinds_of}
use Rattle.dg_lasting.specs.Finding.{counted}
use Rattle.dg_meaning.specs.inside.Finding.{may_find}
use Rattle.dg_interp.proofs.Trials.{counted_some, trials_stay, trials_open}

pub kept_places : (b : Bool) (s : ListBindings) (m : Saved) (ms : List Saved) → KeepsPlaces s (m ∷ ms) → KeepsPlaces s (kept_if b m ms)
kept_places false s m ms h = saves_drops true (fields_of s) m ms h
kept_places true s m ms h = h

pub kept_stand : (b : Bool) (fs : List Frame) (h m t : ℕ) (o : Choice) (os : List Choice) → o.height ≤ h → o.refs ≤ m → o.tag ≤ t → IsLeft o.height o.refs o.left → b ≡ stays_with o.left → IsOrdinary o.left → AreFrames o.height o.refs fs → StandOn fs o.height o.refs o.tag os → StandOn fs h m t (kept_if b o os)
kept_stand false fs h m t o os le le' le'' left stays plain are s = stand_raise fs o.height h o.refs m o.tag t os le le' le'' s
kept_stand true fs h m t o os le le' le'' left stays plain are s = (le, le', le'', (left, sym stays, subst (IsNoted o.tag) (sym (plain_cut o.left (no_part o.left plain))) tt), are, s)

pub kept_back : (b : Bool) (refs : List Ref) (heap trail : ℕ) (o : Choice) (os : List Choice) (m : Saved) (ms : List Saved) → m.mark ≡ o.place → All (Holds m.store) (take o.refs refs) → m.store.heap_limit ≡ heap → m.store.trail_limit ≡ trail → GoBackTo refs heap trail os ms → GoBackTo refs heap trail (kept_if b o os) (kept_if b m ms)
kept_back false refs heap trail o os m ms place hold limit limit' h = h
kept_back true refs heap trail o os m ms place hold limit limit' h = (place, hold, limit, limit', h)

pub back_limits : (refs : List Ref) (h t h' t' : ℕ) (os : List Choice) (ms : List Saved) → h ≡ h' → t ≡ t' → GoBackTo refs h t os ms → GoBackTo refs h' t' os ms
back_limits refs h t h' t' os ms e e' b = subst (λ x. GoBackTo refs h' x os ms) e' (subst (λ x. GoBackTo refs x t os ms) e b)

lists_stay : (env : List Value) (tag : ℕ) (steps : _) (r : Registers) (lists : _) → stays Plain (list_branches env tag steps r lists) ≡ has_some lists
lists_stay env tag steps r [] = refl
lists_stay env tag steps r (x ∷ lists) = refl

pub branches_stay : (g : Game) (values : Env → List Value) (fs : List Frame) (height : ℕ) (left : Left) (r : Registers) → stays (kind_of left) (branches_of g values fs height left r) ≡ stays_with left
branches_stay g values fs height (Rules query args rules) r = refl
branches_stay g values fs height (Lists env tag lists) r = lists_stay (values env) tag _ r lists.now
branches_stay g values fs height (Ways first other) r = refl
branches_stay g values fs height (OneWay frame) r = refl
branches_stay g values fs height (Behind frame cut) r = refl
branches_stay g values fs height (TakeOut whole into frame) r = refl
branches_stay g values fs height (Things trial args) r = trials_stay (may_find (kinds_of g.program) trial.place) trial.place (values args) trial.many (steps_behind values fs height) r (counted trial.from (trial.end - trial.from)) ∙ counted_some trial.from trial.end

rule_open : (excluded agrees : Bool) (r : Registers) (path : Path) (work h : ℕ) (bs : List Branch) → open_at (unless_excluded excluded r work (enter_if agrees path work) ∷ bs) h ≡ h
rule_open true agrees r path work h bs = refl
rule_open false true r path work h bs = refl
rule_open false false r path work h bs = refl

pub rules_open : (g : Game) (pred : ℕ) (args : List Value) (many : Bool) (steps : List Step) (r : Registers) (rules : List Rule) (h : ℕ) → open_at (rule_branches g pred args many steps r rules) h ≡ h
rules_open g pred args many steps r [] h = refl
rules_open g pred args many steps r (rule ∷ rules) h = rule_open (is_excluded args r rule) (match g args rule r).agrees r _ _ h _

lists_open : (env : List Value) (tag : ℕ) (steps : List Step) (r : Registers) (lists : List (List Goal)) (h : ℕ) → open_at (list_branches env tag steps r lists) h ≡ h
lists_open env tag steps r [] h = refl
lists_open env tag steps r (x ∷ lists) h = refl

-- none of the branches takes a gathering out
pub branches_open : (g : Game) (values : Env → List Value) (fs : List Frame) (height : ℕ) (left : Left) (r : Registers) (h : ℕ) → IsOrdinary left → open_at (branches_of g values fs height left r) h ≡ h
branches_open g values fs height (Rules query args rules) r h o = rules_open g query.pred (values args) query.many (steps_behind values fs height) r rules.now h
branches_open g values fs height (Lists env tag lists) r h o = lists_open (values env) tag (steps_behind values fs height) r lists.now h
branches_open g values fs height (Ways first other) r h o = refl
branches_open g values fs height (OneWay frame) r h o = refl
branches_open g values fs height (Behind frame cut) r h o = absurd o
branches_open g values fs height (TakeOut whole into frame) r h o = absurd o
branches_open g values fs height (Things trial args) r h o = trials_open (may_find (kinds_of g.program) trial.place) trial.place (values args) trial.many (steps_behind values fs height) r (counted trial.from (trial.end - trial.from)) h

-- a choice goes on inside as many gatherings as are open, but for one that it takes out, which is left without branches
pub tried_inside : (g : Game) (values : Env → List Value) (fs : List Frame) (height : ℕ) (left : Left) (r : Registers) (t h k : ℕ) (ways : List Way) (lives : List Live) (n : ℕ) (w : World) (run : Run) → open_at (branches_of g values fs height left r) h ≡ k →
    Tried g (kind_of left) t h ways lives (branches_of g values fs height left r) n w run → Tried g (kind_of left) t k ways lives (branches_of g values fs height left r) n w run
tried_inside g values fs height (Rules query args rules) r t h k ways lives n w run e =
    subst (λ i. Tried g (RulesOf query.pred) t i ways lives (branches_of g values fs height (Rules query args rules) r) n w run) (sym (rules_open g query.pred (values args) query.many (steps_behind values fs height) r rules.now h) ∙ e)
tried_inside g values fs height (Lists env tag lists) r t h k ways lives n w run e =
    subst (λ i. Tried g Plain t i ways lives (branches_of g values fs height (Lists env tag lists) r) n w run) (sym (lists_open (values env) tag (steps_behind values fs height) r lists.now h) ∙ e)
tried_inside g values fs height (Ways first other) r t h k ways lives n w run e = subst (λ i. Tried g Plain t i ways lives (branches_of g values fs height (Ways first other) r) n w run) e
tried_inside g values fs height (OneWay frame) r t h k ways lives n w run e = subst (λ i. Tried g Plain t i ways lives (branches_of g values fs height (OneWay frame) r) n w run) e
tried_inside g values fs height (Behind frame cut) r t h k ways lives n w run e = subst (λ i. Tried g Plain t i ways lives (branches_of g values fs height (Behind frame cut) r) n w run) e
tried_inside g values fs height (TakeOut whole into frame) r t h k ways lives n w run e = λ x. x
tried_inside g values fs height (Things trial args) r t h k ways lives n w run e =
    subst (λ i. Tried g Plain t i ways lives (branches_of g values fs height (Things trial args) r) n w run) (sym (branches_open g values fs height (Things trial args) r h tt) ∙ e)

pub kept_choices : (g : Game) (refs : List Ref) (fs : List Frame) (o : Choice) (os : List Choice) (height : ℕ) → (m : Saved) (ms : List Saved) (es : List Live) (r : Registers) (k : ChoiceKind) (ways : List Way) (bs : List Branch) (b : Bool) → open_at bs height ≡ o.gathered → bs ≡ branches_of g (values_in m.store refs) fs o.height o.left r → k ≡ kind_of o.left → r.next_tag ≡ o.tag → r.stoppable ≡ o.stoppable → ways ≡ ways_of os es →
    Agrees m.store r → All (Holds m.store) (take o.refs refs) → m.mark ≡ o.place → AreChoices g refs fs os ms es → AreChoices g refs fs (kept_if b o os) (kept_if b m ms) (kept_if b (record { kind = k; tag = r.next_tag; others = bs; height = height; ways_on = ways }) es)
kept_choices g refs fs o os height m ms es r k ways bs false opened are kind tag part on agrees hold place h = h
kept_choices g refs fs o os height m ms es r k ways bs true opened are kind tag part on agrees hold place h = (record { registers = r; agrees = agrees; hold = hold; place = place; tag_at = tag; stop = part; kind = kind; tag = tag; others = are; height = opened; ways_on = on }, h)

-- what the meaning keeps of the choices
pub kept_lives : (b : Bool) (o : Choice) (os : List Choice) (c : Live) (es cs : List Live) → b ≡ stays c.kind c.others → IsOrdinary o.left → cs ≡ lives_of os es → pushed c cs ≡ lives_of (kept_if b o os) (kept_if b c es)
kept_lives b o os c es cs h plain are = ap (λ x. if x then c ∷ cs else cs) (sym h) ∙ with b where
  with : (x : Bool) → (if x then c ∷ cs else cs) ≡ lives_of (kept_if x o os) (kept_if x c es)
  with false = are
  with true = ap (λ l. c ∷ l) are ∙ ap (λ k. cut_if k (c ∷ lives_of os es)) (sym (plain_cut o.left (no_part o.left plain)))

pub kept_ways : (b : Bool) (o : Choice) (os : List Choice) (c : Live) (es : List Live) → IsOrdinary o.left → ways_of os es ≡ ways_of (kept_if b o os) (kept_if b c es)
kept_ways false o os c es plain = refl
kept_ways true o os c es plain = sym (plain_way o.left c (ways_of os es) (no_part o.left plain))

pub kept_count : (b : Bool) (o : Choice) (os : List Choice) → all_left (kept_if b o os) ≤ 1 + left_in o.left + all_left os
kept_count false o os = omega arith
kept_count true o os = omega arith

pub cells_same : {A : Type 0} (xs : List A) → choice_cells 0 xs ≡ cells_if (has_some xs)
cells_same [] = refl
cells_same (x ∷ xs) = refl
