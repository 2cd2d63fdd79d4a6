-- What goals and branches do to the world: it only grows, and its gatherings stay, but for those that a goal opens.
use Rattle.std.proofs.Common.{◌≡◌, ℕ, ◌++◌, ◌+◌, arith, subst, List, [], ◌∷◌, Option, Some, None, Bool, refl, ap, ◌∙◌, length, map}
use Rattle.std.specs.Prelude.{slice_get}
use Rattle.std.specs.List.{sum_by}
use Rattle.dg_base.specs.declared.program.Goal.{Goal, Goal-F}
use Rattle.dg_base.specs.declared.program.Goal.TheOpen.{Text, Print as Print-Form, Gap, GapN, Ask, Holds, Now, Query, Collect, Accumulate, Select, Arith, Compare, Random, Test, IsObject, Input, SplitWord, JoinWords}
use Rattle.dg_base.specs.declared.program.GapKind.TheVariants.{Line}
use Rattle.dg_base.specs.declared.program.ClosureBody.{ClosureBody}
use Rattle.dg_base.specs.declared.program.PlaceKind.{PlaceKind}
use Rattle.dg_base.specs.declared.program.PlaceKind.TheVariants.{Flag, Global}
use Rattle.dg_base.specs.Goals.{option_terms}
use Rattle.dg_meaning.specs.Values.{Num, Object, Closure, Value, Var, Node, Values, value_of}
use Rattle.dg_meaning.specs.Substitutions.{walk, resolved}
use Rattle.dg_meaning.specs.Unify.{size}
use Rattle.dg_meaning.specs.Letters.{copied}
use Rattle.dg_meaning.specs.Numbers.{total}
use Rattle.dg_meaning.specs.Words.{behind_first}
use Rattle.dg_meaning.specs.Facts.{Alteration, value_at, kinds_of}
use Rattle.dg_meaning.specs.Changes.{found, change_of, changed, changing}
use Rattle.dg_meaning.specs.inside.OneAnswer.{passes}
use Rattle.dg_meaning.specs.World.{Game, World, Gathering, Event, Prints, Answered, Retried, HasFailed, Print, Piece, GapOf, SpacesOf, Asked, noted, worked, gathered_at, dropped}
use Rattle.dg_meaning.specs.Pieces.{pieces}
use Rattle.dg_meaning.specs.Path.{Step, Registers, Whole, AsList, AsSum, Branch, Enter, Clash, TakeOut, Finds, Gathers, Act, Goes, Tests, Unifies, Ends, Fails, Stops, Effect, Acts, Offers}
use Rattle.dg_meaning.specs.Moves.{printed, all_printed, begun, spaces, gives_number, reads, reads_if_set, finds, finds_if_set, takes_out, beginning, ask_object, ask_objects, ask_place, change_place, changes, change_looks, ask_body, ask_closure, selects, throws, splits, joins, takes_line, looked_up, first_looks, whole_looks, effect}
use Rattle.dg_meaning.specs.inside.OneRun.{Grows}
use Rattle.dg_meaning.specs.inside.Context.{tags_of}
use Rattle.dg_meaning.proofs.OneRun.{grows_same, grows_on, noted_grows, worked_grows, begun_grows, printed_grows, gathering_grows, changed_grows, selected_grows, drew_grows, line_grows, dropped_grows}

-- ## Worlds

-- no answer was told
abbrev pub SameAnswers : World → World → Type 0
SameAnswers w v = (q : ℕ) → passes q v.events ≡ passes q w.events

pub record Stays (w v : World) : Type 0 where
  pub grows : Grows w v
  pub gathered : v.gathered ≡ w.gathered
  pub answers : SameAnswers w v

pub passes_append : (q : ℕ) (xs ys : List Event) → passes q (xs ++ ys) ≡ passes q xs + passes q ys
passes_append q [] ys = omega arith
passes_append q (Prints e ∷ xs) ys = passes_append q xs ys
passes_append q (Asked p ∷ xs) ys = passes_append q xs ys
passes_append q (Answered p ∷ xs) ys = omega (arith, passes_append q xs ys)
passes_append q (Retried p ∷ xs) ys = passes_append q xs ys
passes_append q (HasFailed p ∷ xs) ys = passes_append q xs ys

pub same_answers : (w : World) → SameAnswers w w
same_answers w q = refl

pub answers_on : (w v u : World) → SameAnswers w v → SameAnswers v u → SameAnswers w u
answers_on w v u a b q = b q ∙ a q

stays_same : (w : World) → Stays w w
stays_same w = record { grows = grows_same w; gathered = refl; answers = same_answers w }

pub stays_on : (w v u : World) → Stays w v → Stays v u → Stays w u
stays_on w v u a b = record { grows = grows_on w v u a.grows b.grows; gathered = b.gathered ∙ a.gathered; answers = answers_on w v u a.answers b.answers }

pub stays_worked : (n : ℕ) (w : World) → Stays w (worked n w)
stays_worked n w = record { grows = worked_grows n w; gathered = refl; answers = same_answers w }

pub stays_begun : (r : Registers) (n : ℕ) (w : World) → Stays w (begun r n w)
stays_begun r n w = record { grows = begun_grows r n w; gathered = refl; answers = same_answers w }

stays_printed : (e : Print) (w : World) → Stays w (printed e w)
stays_printed e w = record { grows = printed_grows e w; gathered = refl; answers = λ q. omega (arith, passes_append q w.events (Prints e ∷ [])) }

stays_all_printed : (pieces : List (List ℕ)) (w : World) → Stays w (all_printed pieces w)
stays_all_printed [] w = stays_same w
stays_all_printed (piece ∷ pieces) w = stays_on w (printed (Piece piece) w) _ (stays_printed (Piece piece) w) (stays_all_printed pieces (printed (Piece piece) w))

-- ## Acts and effects

-- the world in which something is done at once
abbrev pub world_in : Act → World
world_in (Goes steps w) = w
world_in (Tests passed w) = w
world_in (Unifies made es w) = w
world_in (Ends e w) = w
world_in (Fails w) = w
world_in (Stops w) = w

-- the world in which a goal has its effect
abbrev pub world_for : Effect → World
world_for (Acts a) = world_in a
world_for (Offers k bs w) = w

-- so it stays, where it isn't a choice that gathers; such a choice has branches, and opens its gathering
abbrev pub EffectStays : ℕ → World → Effect → Type 0
EffectStays t w (Acts a) = Stays w (world_in a)
EffectStays t w (Offers Gathers [] v) = ⊥
EffectStays t w (Offers Gathers (b ∷ bs) v) = Grows w v × (tags_of v.gathered ≡ t ∷ tags_of w.gathered) × SameAnswers w v
EffectStays t w (Offers k bs v) = Stays w v

-- behind something that stays as well
effect_on : (t : ℕ) (w v : World) → Stays w v → (e : Effect) → EffectStays t v e → EffectStays t w e
effect_on t w v s (Acts a) h = stays_on w v (world_in a) s h
effect_on t w v s (Offers Gathers [] u) h = absurd h
effect_on t w v s (Offers Gathers (b ∷ bs) u) h = (grows_on w v u s.grows h.0, h.1 ∙ ap (λ (l : List Gathering). t ∷ tags_of l) s.gathered, answers_on w v u s.answers h.2)
effect_on t w v s (Offers k bs u) h = stays_on w v u s h

-- ## Values that are made

spaces_stays : (v : Value) (steps : List Step) (w : World) → Stays w (world_in (spaces v steps w))
spaces_stays (Node (Num n) vs) steps w = stays_printed (SpacesOf n) w
spaces_stays v steps w = stays_same w

pub number_stays : (n : Option ℕ) (into : Value) (r : Registers) (w : World) → Stays w (world_in (gives_number n into r w))
number_stays None into r w = stays_same w
number_stays (Some n) into r w = stays_same w

throws_stays : (n : Option ℕ) (into : Value) (r : Registers) (w : World) → Stays w (world_in (throws n into r w))
throws_stays None into r w = stays_same w
throws_stays (Some n) into r w = record { grows = drew_grows 1 w; gathered = refl; answers = same_answers w }

reads_stays : (args : List Value) (r : Registers) (v : Value) (w : World) → Stays w (world_in (reads args r v w))
reads_stays [] r v w = stays_same w
reads_stays (arg ∷ args) r v w = stays_worked (copied v) w

set_stays : (args : List Value) (r : Registers) (v : Option Value) (w : World) → Stays w (world_in (reads_if_set args r v w))
set_stays args r None w = stays_same w
set_stays args r (Some v) w = reads_stays args r v w

finds_stays : (args : List Value) (o : ℕ) (r : Registers) (v : Value) (w : World) → Stays w (world_in (finds args o r v w))
finds_stays [] o r v w = stays_same w
finds_stays (a ∷ []) o r v w = stays_same w
finds_stays (a ∷ b ∷ args) o r v w = stays_worked (copied v) w

finds_set_stays : (args : List Value) (o : ℕ) (r : Registers) (v : Option Value) (w : World) → Stays w (world_in (finds_if_set args o r v w))
finds_set_stays args o r None w = stays_same w
finds_set_stays args o r (Some v) w = finds_stays args o r v w

takes_out_stays : (whole : Whole) (into : Value) (vs : List Value) (r : Registers) (w : World) → Stays w (world_in (takes_out whole into vs r w))
takes_out_stays AsList into vs r w = stays_begun r (sum_by (λ v. size v + copied v) vs) w
takes_out_stays AsSum into vs r w = stays_on w (begun r (length vs) w) _ (stays_begun r (length vs) w) (number_stays (total vs) into r (begun r (length vs) w))

changes_stays : (g : Game) (kind : PlaceKind) (a : Option Alteration) (steps : List Step) (w : World) → Stays w (world_in (changes g kind a steps w))
changes_stays g kind None steps w = stays_same w
changes_stays g kind (Some a) steps w = stays_on w (changed g.program a w) _ (record { grows = changed_grows g.program a w; gathered = refl; answers = same_answers w }) (stays_worked (changing g.program kind a w.facts) (changed g.program a w))

place_stays : (g : Game) (place : ℕ) (kind : Option PlaceKind) (args : List Value) (sets : Bool) (steps : List Step) (r : Registers) (w : World) → Stays w (world_in (change_place g place kind args sets steps r w))
place_stays g place None args sets steps r w = stays_same w
place_stays g place (Some kind) args sets steps r w =
    stays_on w (worked (change_looks kind r args) w) _ (stays_worked (change_looks kind r args) w)
    (changes_stays g kind (change_of (length g.program.objects) kind place sets (map (resolved r.bound) args)) steps (worked (change_looks kind r args) w))

splits_stays : (g : Game) (letters : Option (List ℕ)) (into : Value) (r : Registers) (w : World) → Stays w (world_in (splits g letters into r w))
splits_stays g None into r w = stays_same w
splits_stays g (Some letters) into r w = stays_worked _ w

joins_stays : (g : Game) (letters : Option (List ℕ)) (into : Value) (r : Registers) (w : World) → Stays w (world_in (joins g letters into r w))
joins_stays g None into r w = stays_same w
joins_stays g (Some letters) into r w = stays_worked _ w

line_stays : (g : Game) (w : World) (typed : List ℕ) → w.typed ≡ typed → (into : Value) (r : Registers) → Stays w (world_in (takes_line g typed into r w))
line_stays g w [] e into r = stays_same w
line_stays g w (b ∷ bytes) e into r =
    let u = record w { typed = behind_first (b ∷ bytes) } in
    let grown : Grows w u = subst (λ (l : List ℕ). Grows w (record w { typed = behind_first l })) e (line_grows w) in
    stays_on w u _ (record { grows = grown; gathered = refl; answers = same_answers w }) (stays_on u (printed (GapOf Line) u) _ (stays_printed (GapOf Line) u) (stays_worked _ (printed (GapOf Line) u)))

-- ## Queries

object_stays : (t : ℕ) (g : Game) (place : Option ℕ) (u v : Value) (args : List Value) (many : Bool) (steps : List Step) (r : Registers) (w : World) → EffectStays t w (ask_object g place u v args many steps r w)
object_stays t g place (Var x) v args many steps r w = stays_same w
object_stays t g place (Node (Object o) vs) v args many steps r w = set_stays args r (found w.facts place o) w
object_stays t g place u v args many steps r w = stays_same w

objects_stay : (t : ℕ) (g : Game) (place : Option ℕ) (args : List Value) (many : Bool) (steps : List Step) (r : Registers) (w : World) → EffectStays t w (ask_objects g place args many steps r w)
objects_stay t g place [] many steps r w = stays_same w
objects_stay t g place (v ∷ args) many steps r w =
    effect_on t w (worked (looked_up r v) w) (stays_worked (looked_up r v) w) (ask_object g place (walk r.bound v) v args many steps r (worked (looked_up r v) w))
    (object_stays t g place (walk r.bound v) v args many steps r (worked (looked_up r v) w))

asked_stays : (t : ℕ) (g : Game) (place : ℕ) (kind : Option PlaceKind) (args : List Value) (many : Bool) (steps : List Step) (r : Registers) (w : World) → EffectStays t w (ask_place g place kind args many steps r w)
asked_stays t g place None args many steps r w = stays_same w
asked_stays t g place (Some Flag) args many steps r w = stays_same w
asked_stays t g place (Some Global) args many steps r w = set_stays args r (value_at w.facts place 0) w
asked_stays t g place (Some kind) args many steps r w = objects_stay t g (Some place) args many steps r w

body_stays : (t : ℕ) (g : Game) (parts : Values) (closure : Option ClosureBody) (args : List Value) (many : Bool) (steps : List Step) (r : Registers) (w : World) → EffectStays t w (ask_body g parts closure args many steps r w)
body_stays t g parts None args many steps r w = stays_same w
body_stays t g parts (Some closure) args many steps r w = stays_same w

closure_stays : (t : ℕ) (g : Game) (v : Value) (args : List Value) (many : Bool) (steps : List Step) (r : Registers) (w : World) → EffectStays t w (ask_closure g v args many steps r w)
closure_stays t g (Node (Closure place) parts) args many steps r w = body_stays t g parts (slice_get g.program.closures place) args many steps r w
closure_stays t g v args many steps r w = stays_same w

-- ## A goal

pub effect_stays : (g : Game) (x : Goal-F Goal) (env : List Value) (t : ℕ) (steps : List Step) (r : Registers) (w : World) → EffectStays r.next_tag w (effect g x env t steps r w)
effect_stays g (Text name) env t steps r w = stays_printed _ w
effect_stays g (Print-Form a) env t steps r w =
    let v = value_of g.program env a in
    let u = worked (whole_looks r v) w in
    stays_on w u _ (stays_worked (whole_looks r v) w) (stays_all_printed (pieces g.program (resolved r.bound v)) u)
effect_stays g (Gap kind) env t steps r w = stays_printed _ w
effect_stays g (GapN a) env t steps r w = let v = value_of g.program env a in let u = worked (looked_up r v) w in stays_on w u _ (stays_worked _ w) (spaces_stays (walk r.bound v) steps u)
effect_stays g (Test kind a) env t steps r w = stays_worked _ w
effect_stays g (Ask pred args many) env t steps r w =
    let v = worked (first_looks r (map (value_of g.program env) args)) w in
    stays_on w v (noted (Asked pred) v) (stays_worked _ w) (record { grows = noted_grows (Asked pred) v; gathered = refl; answers = λ q. omega (arith, passes_append q v.events (Asked pred ∷ [])) })
effect_stays g (Holds place args many) env t steps r w = asked_stays r.next_tag g place (slice_get (kinds_of g.program) place) (map (value_of g.program env) args) many steps r w
effect_stays g (IsObject a many) env t steps r w = objects_stay r.next_tag g None (value_of g.program env a ∷ []) many steps r w
effect_stays g (Now place args sets) env t steps r w = place_stays g place (slice_get (kinds_of g.program) place) (map (value_of g.program env) args) sets steps r w
effect_stays g (Query a b many) env t steps r w =
    let v = value_of g.program env a in
    let args = map (value_of g.program env) (option_terms b) in
    let u = worked (looked_up r v) w in
    effect_on r.next_tag w u (stays_worked (looked_up r v) w) (ask_closure g (walk r.bound v) args many steps r u) (closure_stays r.next_tag g (walk r.bound v) args many steps r u)
effect_stays g (Select site mode lists) env t steps r w = record { grows = selected_grows site (selects g site mode (length lists) w) w; gathered = refl; answers = same_answers w }
effect_stays g (Collect term goals into) env t steps r w = (gathering_grows _ w, refl, same_answers w)
effect_stays g (Accumulate term goals into) env t steps r w = (gathering_grows _ w, refl, same_answers w)
effect_stays g (Arith op a b c) env t steps r w = stays_on w (worked _ w) _ (stays_worked _ w) (number_stays _ _ r (worked _ w))
effect_stays g (Compare op a b) env t steps r w = stays_worked _ w
effect_stays g (Random a b c) env t steps r w = stays_on w (worked _ w) _ (stays_worked _ w) (throws_stays _ _ r (worked _ w))
effect_stays g (SplitWord a b) env t steps r w = stays_on w (worked _ w) _ (stays_worked _ w) (splits_stays g _ _ r (worked _ w))
effect_stays g (JoinWords a b) env t steps r w = stays_on w (worked _ w) _ (stays_worked _ w) (joins_stays g _ _ r (worked _ w))
effect_stays g (Input a) env t steps r w = line_stays g w w.typed refl (value_of g.program env a) r
effect_stays g _ env t steps r w = stays_same w

-- ## The beginning of a branch

-- the world in which a branch begins: what it takes out is dropped
abbrev pub world_before : Branch → World → World
world_before (TakeOut t whole into path) w = dropped t w
world_before b w = w

pub beginning_stays : (b : Branch) (w : World) → Stays (world_before b w) (world_in (beginning b w))
beginning_stays (Enter path work) w = stays_begun path.registers work w
beginning_stays (Clash r work) w = stays_begun r work w
beginning_stays (TakeOut t whole into path) w = takes_out_stays whole into (gathered_at t w.gathered) path.registers (dropped t w)
beginning_stays (Finds place o args path) w =
    stays_on w (begun path.registers 1 w) _ (stays_begun path.registers 1 w) (finds_set_stays args o path.registers (found w.facts place o) (begun path.registers 1 w))

pub before_grows : (b : Branch) (w : World) → Grows w (world_before b w)
before_grows (TakeOut t whole into path) w = dropped_grows t w
before_grows (Enter path work) w = grows_same w
before_grows (Clash r work) w = grows_same w
before_grows (Finds place o args path) w = grows_same w

pub before_answers : (b : Branch) (w : World) → SameAnswers w (world_before b w)
before_answers (TakeOut t whole into path) w = same_answers w
before_answers (Enter path work) w = same_answers w
before_answers (Clash r work) w = same_answers w
before_answers (Finds place o args path) w = same_answers w
