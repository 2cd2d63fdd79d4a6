-- What lasts, behind instructions.
use Rattle.std.proofs.Common.{◌≡◌, ℕ, zero, suc, ◌+◌, ◌-◌, List, [], ◌∷◌, Option, Some, None, Bool, true, false, refl, sym, ap, ◌∙◌, subst, length, nat_lt, map}
use Rattle.std.specs.List.{zip}
use Rattle.std.specs.Prelude.{if◌then◌else◌}
use Rattle.dg_base.specs.Goals.{option_terms}
use Rattle.dg_base.specs.declared.run.Limits.{Limits}
use Rattle.dg_base.specs.declared.run.Ending.{Ending}
use Rattle.dg_base.specs.declared.run.Ending.TheVariants as ending
use Rattle.dg_meaning.specs.Values.{Value, Num, Node, value_of}
use Rattle.dg_meaning.specs.Cells.{cells}
use Rattle.dg_meaning.specs.Numbers.{of_numbers, calculated}
use Rattle.dg_meaning.specs.Substitutions.{walk, resolved}
use Rattle.dg_meaning.specs.Moves.{gives_number, splits, joins, looked_up, whole_looks, spaces, printed, all_printed}
use Rattle.dg_meaning.specs.Path.{Registers, Act, Goes, Tests, Unifies, Ends, Fails as FailsNow, Stops, Effect, Acts, Offers}
use Rattle.dg_meaning.specs.Unify.{Equations, Unified, solve}
use Rattle.dg_meaning.specs.World.{Game, World, Gathering, Piece, worked}
use Rattle.dg_lasting.specs.Lasting.{Closes}
use Rattle.dg_lasting.specs.declared.lasting.Lasting.{Lasting}
use Rattle.dg_unify.specs.Store.{Store}
use Rattle.dg_unify.specs.declared.bindings.Ref.{Ref}
use Rattle.dg_mid.specs.declared.code.Op.{Op}
use Rattle.dg_mid.specs.declared.code.Op.TheVariants as op
use Rattle.dg_mid.specs.declared.code.Action.{Action}
use Rattle.dg_mid.specs.declared.code.Action.TheVariants as action
use Rattle.dg_mid.specs.declared.code.Code.{Code}
use Rattle.dg_mid.specs.declared.code.RuleCode.{RuleCode}
use Rattle.dg_mid.specs.Code.{block_at, rules_at, selected}
use Rattle.dg_mid.specs.Reads.{lasting_of}
use Rattle.dg_meaning.specs.Pieces.{pieces}
use Rattle.dg_meaning.specs.Words.{letters_in_word, joined_letters}
use Rattle.dg_mid.specs.Actions.{terms_of, act_at, asked_at, found_at, registers_of, world_of, world_by, lasting_in}
use Rattle.dg_mid.specs.State.{Lasting as LastingOf, Mid, Frame as FrameOf, Place, Call as CallOf, Target, ToPred, ToBody, Find as FindOf, Way as WayOf, Goes as GoesOf, Calls as CallsOf, Tries as TriesOf, Choice as ChoiceOf, vars_of}
use Rattle.dg_mid.specs.State.{Status, Runs as RunsOf, Enters as EntersOf, Resumes as ResumesOf, Fails as FailsOf, Ended as EndedOf}
use Rattle.dg_mid.specs.Step.{Setting, setting, more, charged, bound, unified, if_agreed, if_passed, made_in, done, begins, enters, asks, calls, call_of, asks_last, last, queries, queries_last, asked_by, values}
use Rattle.dg_mid.specs.Step.{does, commits, refuses, leaves, returns, returned, entered, resumed, goes_on, goes_back, back_at, passed, inside, parameter, body_equations, body_frame, new_frame, first_of, seeks, trying, trying_cells, tries}
use Rattle.dg_machine.specs.declared.now.Way.{Way}
use Rattle.dg_machine.specs.declared.now.Way.TheVariants.{Goes, Takes, Calls, Tries}
use Rattle.dg_machine.specs.declared.memory.Memory.{Memory}
use Rattle.dg_machine.specs.Built.{ActionBuilt, OpBuilt, IsQuietOp}
use Rattle.dg_machine.specs.Layout.{WayAt, WentBack}
use Rattle.dg_machine.specs.Standing.{Around, HasLasting}
use Rattle.dg_mid.proofs.Asked.{ActKeeps, EffectKeeps, asked_keeps, found_keeps, trying_keeps, trying_gathered}

-- this lasts in a machine, with these gatherings, and so in a status
abbrev pub Same : LastingOf → List Gathering → Mid → Type 0
Same o gs m = (m.lasting ≡ o) × (m.gathered ≡ gs)

abbrev pub Has : LastingOf → List Gathering → Status → Type 0
Has o gs (RunsOf m) = Same o gs m
Has o gs (EntersOf c m) = Same o gs m
Has o gs (ResumesOf on m) = Same o gs m
Has o gs (FailsOf m) = Same o gs m
Has o gs (EndedOf e) = Unit {0}

-- an instruction leaves what lasts
abbrev pub DrawsNone : Op → Type 0
DrawsNone (op.Do (action.Random a b c)) = ⊥
DrawsNone (op.Do (action.Now place xs sets)) = ⊥
DrawsNone (op.Do (action.Input a)) = ⊥
DrawsNone (op.Do action.Stop) = ⊥
DrawsNone (op.Select site mode blocks behind) = ⊥
DrawsNone (op.Collect term into alt) = ⊥
DrawsNone (op.Keep term) = ⊥
DrawsNone x = Unit {0}

pub quiet_draws : (x : Op) → IsQuietOp x → DrawsNone x
quiet_draws (op.Do (action.Random a b c)) q = absurd q
quiet_draws (op.Do (action.Now place xs sets)) q = absurd q
quiet_draws (op.Do (action.Input a)) q = absurd q
quiet_draws (op.Do action.Stop) q = absurd q
quiet_draws (op.Do a) q = tt
quiet_draws (op.Select site mode blocks behind) q = absurd q
quiet_draws (op.Collect term into alt) q = absurd q
quiet_draws (op.Keep term) q = absurd q
quiet_draws x q = tt

-- an act stops no part
abbrev StopsNone : Act → Type 0
StopsNone (Stops w) = ⊥
StopsNone act = Unit {0}

-- ## What leads where

-- a choice takes no gathering out
abbrev pub LeavesGathered : Way → Type 0
LeavesGathered (Takes b) = ⊥
LeavesGathered way = Unit {0}

module _ (o : LastingOf) (gs : List Gathering) (g : Setting) where
  has_if : (b : Bool) (e : Ending) (s : Status) → Has o gs s → Has o gs (if b then EndedOf e else s)
  has_if true e s h = tt
  has_if false e s h = h

  pub has_charged : (n : ℕ) (m : Mid) (s : Status) → Has o gs s → Has o gs (charged g n m s)
  has_charged zero m s h = h
  has_charged (suc n) m s h = has_if (nat_lt g.limits.heap (m.state.heap + suc n)) ending.HeapLimit s h

  has_agreed : (b : Bool) (m : Mid) (s : Status) → Same o gs m → Has o gs s → Has o gs (if_agreed b m s)
  has_agreed true m s e h = h
  has_agreed false m s e h = e

  has_unified : (u : Unified) (m : Mid) (s : Status) → Same o gs m → Has o gs s → Has o gs (unified g u m s)
  has_unified u m s e h = has_if _ ending.TrailLimit (if_agreed u.agrees (bound u m) s) (has_agreed u.agrees (bound u m) s e h)

  pub has_unifies : (made : Registers) (es : Equations) (w : World) (m : Mid) → lasting_of w ≡ o → m.gathered ≡ gs → Has o gs (done g (Unifies made es w) m)
  has_unifies made es w m e k =
      let m' = made_in made (lasting_in w m) in
      let u = solve made.bound es in
      has_charged (made.heap - m.state.heap) m (unified g u m' (RunsOf (bound u m'))) (has_unified u m' (RunsOf (bound u m')) (e, k) (e, k))

  has_passed : (b : Bool) (m : Mid) → Same o gs m → Has o gs (if_passed b m)
  has_passed true m e = e
  has_passed false m e = e

  has_done : (act : Act) (m : Mid) → lasting_of (world_by act) ≡ o → Same o gs m → StopsNone act → Has o gs (done g act m)
  has_done (Goes [] w) m e h none = has_if _ ending.KeepLimit (RunsOf (lasting_in w m)) (e, h.1)
  has_done (Goes (s ∷ steps) w) m e h none = h
  has_done (Tests passed w) m e h none = has_passed passed (lasting_in w m) (e, h.1)
  has_done (Unifies made es w) m e h none = has_unifies made es w m e h.1
  has_done (Ends x w) m e h none = tt
  has_done (FailsNow w) m e h none = (e, h.1)
  has_done (Stops w) m e h none = absurd none

  -- ## Queries

  has_enters : (c : CallOf) (r : RuleCode) (rules : List RuleCode) (m : Mid) → Same o gs m → Has o gs (enters g c r rules m)
  has_enters c r [] m e = e
  has_enters c r (q ∷ qs) m e = has_charged (10 + length c.args) m _ e

  has_begins : (c : CallOf) (rules : List RuleCode) (m : Mid) → Same o gs m → Has o gs (begins g c rules m)
  has_begins c [] m e = e
  has_begins c (r ∷ rs) m e = has_enters c r (selected (first_of m.state.subst c) rs) m e

  has_calls : (t : Target) (c : CallOf) (m : Mid) → Same o gs m → Has o gs (calls g t c m)
  has_calls (ToPred pred) c m e = has_begins c (selected (first_of m.state.subst c) (rules_at g.code pred)) m e
  has_calls (ToBody body captured) c m e =
      let n = 6 + body.own + cells g.game.program (parameter captured c.args) in
      let m' = record (passed m) { ops = block_at g.code body.block; state = record m.state { vars = m.state.vars + body.own; heap = m.state.heap + n } } in
      let u = solve m.state.subst (body_equations g captured body.own c.args m.state.vars) in
      let s = RunsOf (record (bound u m') { frames = body_frame captured body.own c m ∷ m.frames; inner = [] }) in
      has_charged n m (unified g u m' s) (has_unified u m' s e e)

  has_asks_last : (t : Target) (vs : List Value) (many all : Bool) (f : FrameOf) (fs : List FrameOf) (m : Mid) → Same o gs m → Has o gs (asks_last g t vs many all f fs m)
  has_asks_last t vs many true f fs m e = has_calls t (call_of vs many f.next m) (record m { frames = fs; inner = f.inner }) e
  has_asks_last t vs many false f fs m e = has_calls t (call_of vs many 0 m) (record m { inner = [] }) e

  has_last : (t : Target) (vs : List Value) (many : Bool) (fs : List FrameOf) (m : Mid) → Same o gs m → Has o gs (last g t vs many fs m)
  has_last t vs many [] m e = has_calls t (call_of vs many 0 m) (record m { inner = [] }) e
  has_last t vs many (f ∷ fs) m e = has_asks_last t vs many f.many f fs m e

  has_queries : (t : Option Target) (vs : List Value) (many : Bool) (next : ℕ) (m : Mid) → Same o gs m → Has o gs (queries g t vs many next m)
  has_queries None vs many next m e = e
  has_queries (Some t) vs many next m e = has_calls t (call_of vs many next m) m e

  has_queries_last : (t : Option Target) (vs : List Value) (many : Bool) (m : Mid) → Same o gs m → Has o gs (queries_last g t vs many m)
  has_queries_last None vs many m e = e
  has_queries_last (Some t) vs many m e = has_last t vs many m.frames m e

  has_kept : (act : Act) (m : Mid) → ActKeeps o act → Same o gs m → Has o gs (done g act m)
  has_kept (Goes [] w) m e h = has_if _ ending.KeepLimit (RunsOf (lasting_in w m)) (e, h.1)
  has_kept (Goes (s ∷ steps) w) m e h = h
  has_kept (Tests passed w) m e h = has_passed passed (lasting_in w m) (e, h.1)
  has_kept (Unifies made es w) m e h = has_unifies made es w m e h.1
  has_kept (Ends x w) m e h = tt
  has_kept (FailsNow w) m e h = (e, h.1)
  has_kept (Stops w) m e h = absurd e

  has_seeks : (f : FindOf) (x : Effect) (m : Mid) → EffectKeeps o x → Same o gs m → Has o gs (seeks g f x m)
  has_seeks f (Acts act) m k e = has_kept act m k e
  has_seeks f (Offers k' bs w) m k e = e

  has_tries : (f : FindOf) (objects : List ℕ) (m : Mid) → Same o gs m → Has o gs (tries g f objects m)
  has_tries f [] m e = e
  has_tries f (i ∷ objects) m e =
      let m' = trying g f objects m in
      let same : m'.lasting ≡ o = trying_keeps g f objects m ∙ e.0 in
      has_charged (trying_cells f objects) m (done g (found_at [] f i m') m') (has_kept (found_at [] f i m') m' (subst (λ x. ActKeeps x (found_at [] f i m')) same (found_keeps f i m')) (same, trying_gathered g f objects m ∙ e.1))

  -- ## Instructions that take no goal

  has_commits : (ps : List Place) (m : Mid) → Same o gs m → Has o gs (commits ps m)
  has_commits [] m e = e
  has_commits (p ∷ ps) m e = e

  has_refuses : (ps : List Place) (m : Mid) → Same o gs m → Has o gs (refuses ps m)
  has_refuses [] m e = e
  has_refuses (p ∷ ps) m e = e

  has_leaves : (ps : List Place) (m : Mid) → Same o gs m → Has o gs (leaves ps m)
  has_leaves [] m e = e
  has_leaves (p ∷ ps) m e = e

  has_returned : (all : Bool) (f : FrameOf) (fs : List FrameOf) (m : Mid) → Same o gs m → Same o gs (returned g all f fs m)
  has_returned true f fs m e = e
  has_returned false f fs m e = e

  has_returns : (fs : List FrameOf) (m : Mid) → Same o gs m → Has o gs (returns g fs m)
  has_returns [] m e = e
  has_returns (f ∷ fs) m e = has_returned f.many f fs m e

  has_entered : (c : CallOf) (xs : List Op) (m : Mid) → Same o gs m → Has o gs (entered g c xs m)
  has_entered c (op.Enter vars head ∷ xs) m0 e =
      let m = record m0 { ops = xs } in
      let n = 6 + vars + cells g.game.program head in
      let f = new_frame c vars m in
      let m' = record m { state = record m.state { vars = m.state.vars + vars; heap = m.state.heap + n } } in
      let u = solve m.state.subst (zip c.args (map (value_of g.game.program f.vars) head)) in
      let s = RunsOf (record (bound u m') { frames = f ∷ m.frames; inner = [] }) in
      has_charged n m (unified g u m' s) (has_unified u m' s e e)
  has_entered c xs m e = e

  has_resumed : (xs : List Op) (m : Mid) → Same o gs m → Has o gs (resumed g xs m)
  has_resumed (op.Retry alt ∷ xs) m e = has_charged 10 m (RunsOf (inside (GoesOf alt) 0 (record m { ops = xs }))) e
  has_resumed xs m e = e

  has_goes_on : (s : Store) (refs : List Ref) (way : Way) (on : WayOf) (m : Mid) → LeavesGathered way → WayAt g.code s refs way on → Same o gs m → Has o gs (goes_on g on m)
  has_goes_on s refs (Goes b) (GoesOf b') m plain h e = has_resumed (block_at g.code b') m e
  has_goes_on s refs (Calls k pred left) (CallsOf c rules) m plain h e = has_begins c rules m e
  has_goes_on s refs (Tries k from end) (TriesOf f objects) m plain h e = has_tries f objects m e
  has_goes_on s refs (Takes b) on m plain h e = absurd plain
  has_goes_on s refs way on m plain h e = absurd h

-- ## Instructions

same_spaces : (v : Value) (w : World) → lasting_of (world_by (spaces v [] w)) ≡ lasting_of w
same_spaces (Node (Num n) vs) w = refl
same_spaces v w = refl

same_number : (n : Option ℕ) (v : Value) (r : Registers) (w : World) → lasting_of (world_by (gives_number n v r w)) ≡ lasting_of w
same_number None v r w = refl
same_number (Some n) v r w = refl

pub all_lasting : (ps : List (List ℕ)) (w : World) → lasting_of (all_printed ps w) ≡ lasting_of w
all_lasting [] w = refl
all_lasting (p ∷ ps) w = all_lasting ps (printed (Piece p) w)

same_splits : (g : Game) (o : Option (List ℕ)) (v : Value) (r : Registers) (w : World) → lasting_of (world_by (splits g o v r w)) ≡ lasting_of w
same_splits g None v r w = refl
same_splits g (Some letters) v r w = refl

same_joins : (g : Game) (o : Option (List ℕ)) (v : Value) (r : Registers) (w : World) → lasting_of (world_by (joins g o v r w)) ≡ lasting_of w
same_joins g None v r w = refl
same_joins g (Some letters) v r w = refl

-- an action that draws no dice word leaves what lasts
same_act : (g : Game) (a : Action) (m : Mid) → ActionBuilt a → DrawsNone (op.Do a) → lasting_of (world_by (act_at g [] a m)) ≡ m.lasting
same_act g (action.Text name) m b d = refl
same_act g (action.Gap kind) m b d = refl
same_act g (action.GapN a) m b d = let v = value_of g.program (vars_of m.frames) a in same_spaces (walk m.state.subst v) (worked (looked_up (registers_of m) v) (world_of [] m))
same_act g (action.Print a) m b d = let v = value_of g.program (vars_of m.frames) a in all_lasting (pieces g.program (resolved m.state.subst v)) (worked (whole_looks (registers_of m) v) (world_of [] m))
same_act g (action.Equal x y) m b d = refl
same_act g (action.Test kind x) m b d = refl
same_act g (action.Arith f x y z) m b d =
    let v = value_of g.program (vars_of m.frames) x in
    let u = value_of g.program (vars_of m.frames) y in
    same_number (of_numbers (calculated f) (walk m.state.subst v) (walk m.state.subst u)) (value_of g.program (vars_of m.frames) z) (registers_of m) (worked (looked_up (registers_of m) v + looked_up (registers_of m) u) (world_of [] m))
same_act g (action.Compare f x y) m b d = refl
same_act g (action.SplitWord x y) m b d =
    let v = value_of g.program (vars_of m.frames) x in
    same_splits g (letters_in_word g.program.words (walk m.state.subst v)) (value_of g.program (vars_of m.frames) y) (registers_of m) (worked (looked_up (registers_of m) v) (world_of [] m))
same_act g (action.JoinWords x y) m b d =
    let v = value_of g.program (vars_of m.frames) x in
    same_joins g (joined_letters g.program.words (resolved m.state.subst v)) (value_of g.program (vars_of m.frames) y) (registers_of m) (worked (whole_looks (registers_of m) v) (world_of [] m))
same_act g action.Just m b d = refl
same_act g action.Fail m b d = refl
same_act g action.Quit m b d = refl
same_act g (action.Input x) m b d = absurd d
same_act g action.Stop m b d = absurd d
same_act g (action.Random x y z) m b d = absurd d
same_act g (action.Now place xs sets) m b d = absurd d

spaces_stop : (v : Value) (w : World) → StopsNone (spaces v [] w)
spaces_stop (Node (Num n) vs) w = tt
spaces_stop v w = tt

number_stops : (n : Option ℕ) (v : Value) (r : Registers) (w : World) → StopsNone (gives_number n v r w)
number_stops None v r w = tt
number_stops (Some n) v r w = tt

splits_stop : (g : Game) (o : Option (List ℕ)) (v : Value) (r : Registers) (w : World) → StopsNone (splits g o v r w)
splits_stop g None v r w = tt
splits_stop g (Some letters) v r w = tt

joins_stop : (g : Game) (o : Option (List ℕ)) (v : Value) (r : Registers) (w : World) → StopsNone (joins g o v r w)
joins_stop g None v r w = tt
joins_stop g (Some letters) v r w = tt

-- nor does it stop a part
stops_none : (g : Game) (a : Action) (m : Mid) → ActionBuilt a → DrawsNone (op.Do a) → StopsNone (act_at g [] a m)
stops_none g (action.Text name) m b d = tt
stops_none g (action.Gap kind) m b d = tt
stops_none g (action.GapN a) m b d = let v = value_of g.program (vars_of m.frames) a in spaces_stop (walk m.state.subst v) (worked (looked_up (registers_of m) v) (world_of [] m))
stops_none g (action.Print a) m b d = tt
stops_none g (action.Equal x y) m b d = tt
stops_none g (action.Test kind x) m b d = tt
stops_none g (action.Arith f x y z) m b d =
    let v = value_of g.program (vars_of m.frames) x in
    let u = value_of g.program (vars_of m.frames) y in
    number_stops (of_numbers (calculated f) (walk m.state.subst v) (walk m.state.subst u)) (value_of g.program (vars_of m.frames) z) (registers_of m) (worked (looked_up (registers_of m) v + looked_up (registers_of m) u) (world_of [] m))
stops_none g (action.Compare f x y) m b d = tt
stops_none g (action.SplitWord x y) m b d =
    let v = value_of g.program (vars_of m.frames) x in
    splits_stop g (letters_in_word g.program.words (walk m.state.subst v)) (value_of g.program (vars_of m.frames) y) (registers_of m) (worked (looked_up (registers_of m) v) (world_of [] m))
stops_none g (action.JoinWords x y) m b d =
    let v = value_of g.program (vars_of m.frames) x in
    joins_stop g (joined_letters g.program.words (resolved m.state.subst v)) (value_of g.program (vars_of m.frames) y) (registers_of m) (worked (whole_looks (registers_of m) v) (world_of [] m))
stops_none g action.Just m b d = tt
stops_none g action.Fail m b d = tt
stops_none g action.Quit m b d = tt
stops_none g (action.Input x) m b d = absurd d
stops_none g action.Stop m b d = absurd d
stops_none g (action.Random x y z) m b d = absurd d
stops_none g (action.Now place xs sets) m b d = absurd d

pub has_does : (g : Setting) (x : Op) (m : Mid) → OpBuilt x → DrawsNone x → Has m.lasting m.gathered (does g x m)
has_does g (op.Do a) m b d =
    let n = cells g.game.program (terms_of a) in
    has_charged m.lasting m.gathered g n m (done g (act_at g.game [] a (more n m)) (more n m)) (has_done m.lasting m.gathered g (act_at g.game [] a (more n m)) (more n m) (same_act g.game a (more n m) b d) (refl, refl) (stops_none g.game a (more n m) b d))
has_does g (op.Ask pred terms many next) m b d =
    let n = cells g.game.program terms in
    has_charged m.lasting m.gathered g n m (asks g pred (call_of (values g m terms) many next (more n m)) (more n m)) (has_calls m.lasting m.gathered g (ToPred pred) (call_of (values g m terms) many next (more n m)) (more n m) (refl, refl))
has_does g (op.LastAsk pred terms many) m b d =
    let n = cells g.game.program terms in
    has_charged m.lasting m.gathered g n m (last g (ToPred pred) (values g m terms) many m.frames (more n m)) (has_last m.lasting m.gathered g (ToPred pred) (values g m terms) many m.frames (more n m) (refl, refl))
has_does g (op.Query a t many next) m b d =
    let n = cells g.game.program (a ∷ option_terms t) in
    has_charged m.lasting m.gathered g n m (queries g (asked_by g a m) (values g m (option_terms t)) many next (more n m)) (has_queries m.lasting m.gathered g (asked_by g a m) (values g m (option_terms t)) many next (more n m) (refl, refl))
has_does g (op.LastQuery a t many) m b d =
    let n = cells g.game.program (a ∷ option_terms t) in
    has_charged m.lasting m.gathered g n m (queries_last g (asked_by g a m) (values g m (option_terms t)) many (more n m)) (has_queries_last m.lasting m.gathered g (asked_by g a m) (values g m (option_terms t)) many (more n m) (refl, refl))
has_does g (op.Find place terms many next) m b d =
    let n = cells g.game.program terms in
    let f : FindOf = record { place = place; args = values g m terms; many = many; next = next } in
    let x = asked_at g.game [] place f.args (more n m) in
    has_charged m.lasting m.gathered g n m (seeks g f x (more n m)) (has_seeks m.lasting m.gathered g f x (more n m) (asked_keeps g.game true [] (registers_of (more n m)) place f.args (world_of [] (more n m))) (refl, refl))
has_does g op.Take m b d = (refl, refl)
has_does g (op.Branch alt) m b d = has_charged m.lasting m.gathered g 10 m _ (refl, refl)
has_does g (op.Select site mode blocks behind) m b d = absurd d
has_does g (op.Collect term into alt) m b d = absurd d
has_does g (op.Keep term) m b d = absurd d
has_does g op.Once m b d = has_charged m.lasting m.gathered g 10 m _ (refl, refl)
has_does g (op.Try alt) m b d = has_charged m.lasting m.gathered g 10 m _ (refl, refl)
has_does g (op.Shield alt) m b d = has_charged m.lasting m.gathered g 10 m _ (refl, refl)
has_does g (op.Retry alt) m b d = (refl, refl)
has_does g (op.TakeOut whole into) m b d = (refl, refl)
has_does g op.Commit m b d = has_commits m.lasting m.gathered g m.inner m (refl, refl)
has_does g op.Refuse m b d = has_refuses m.lasting m.gathered g m.inner m (refl, refl)
has_does g op.Leave m b d = has_leaves m.lasting m.gathered g m.inner m (refl, refl)
has_does g op.Back m b d = (refl, refl)
has_does g op.Return m b d = has_returns m.lasting m.gathered g m.frames m (refl, refl)
has_does g (op.Goto block) m b d = (refl, refl)
has_does g (op.Enter vars head) m b d = (refl, refl)
has_does g op.Done m b d = tt

-- ## What stands for what

module _ (out : Lasting) (g : Game) (l : Limits) where
  around : (m n : Mid) → Same m.lasting m.gathered n → Around out g l m → Around out g l n
  around m n same w = subst (λ o. Around out g l (record n { lasting = o })) (sym same.0) (subst (λ gs. Around out g l (record m { gathered = gs })) (sym same.1) w)

  -- what lasts stands for what a status has in which the same lasts as in a machine
  pub has_lasting : (m : Mid) (s : Status) → Has m.lasting m.gathered s → Around out g l m → HasLasting out g l s
  has_lasting m (RunsOf n) e w = around m n e w
  has_lasting m (EntersOf c n) e w = around m n e w
  has_lasting m (ResumesOf on n) e w = around m n e w
  has_lasting m (FailsOf n) e w = around m n e w
  has_lasting m (EndedOf y) e w = tt

  -- an instruction, the entering of a rule and a choice that goes on leave it
  pub run_lasting : (code : Code) (x : Op) (m : Mid) → OpBuilt x → DrawsNone x → Around out g l m → HasLasting out g l (does (setting g code l) x m)
  run_lasting code x m built draws w = has_lasting m (does (setting g code l) x m) (has_does (setting g code l) x m built draws) w

  pub enter_lasting : (code : Code) (c : CallOf) (m : Mid) → Around out g l m → HasLasting out g l (entered (setting g code l) c m.ops m)
  enter_lasting code c m w = has_lasting m (entered (setting g code l) c m.ops m) (has_entered m.lasting m.gathered (setting g code l) c m.ops m (refl, refl)) w

  pub resume_lasting : (code : Code) (s : Store) (refs : List Ref) (way : Way) (on : WayOf) (m : Mid) → LeavesGathered way → WayAt code s refs way on → Around out g l m → HasLasting out g l (goes_on (setting g code l) on m)
  resume_lasting code s refs way on m plain h w = has_lasting m (goes_on (setting g code l) on m) (has_goes_on m.lasting m.gathered (setting g code l) s refs way on m plain h (refl, refl)) w

-- ## Gatherings that are dropped

-- going back to a choice drops what was gathered inside it
pub closed_back : (code : Code) (g : Game) (l : Limits) (way : Way) (new : Memory) (out out' : Lasting) (m : Mid) (cs : List ChoiceOf) → WentBack code l (Some way) new m cs → Closes new.gathered out out' → Around out g l m → HasLasting out' g l (goes_back cs m)
closed_back code g l way new out out' m [] h closes w = absurd h
closed_back code g l way new out out' m (c ∷ cs) h closes w = (
  closes.stands g (world_of [] m) (world_of [] (back_at c cs m)) w.0 (record { count = length m.gathered - c.height; is = refl }) h.1.1,
  ap (λ (o : Lasting). o.world.area.keep) closes.is ∙ w.1,
  ap (λ (o : Lasting). o.gathered.aux) closes.is ∙ w.2,
)

pub ended_back : (code : Code) (g : Game) (l : Limits) (new : Memory) (out : Lasting) (m : Mid) (cs : List ChoiceOf) → WentBack code l None new m cs → HasLasting out g l (goes_back cs m)
ended_back code g l new out m [] h = tt
ended_back code g l new out m (c ∷ cs) h = absurd h
