-- A predicate is asked.
use Rattle.std.proofs.Common.{◌≡◌, ℕ, suc, ◌+◌, ◌<◌, ◌≤◌, List, [], ◌∷◌, ◌++◌, Bool, true, false, refl, sym, ap, ◌∙◌, subst, arith, length}
use Rattle.std.specs.Prelude.{slice_get}
use Rattle.dg_base.specs.declared.program.Goal.{Goal, Goal-F}
use Rattle.dg_base.specs.declared.program.Goal.TheVariants as goal
use Rattle.dg_base.specs.declared.program.Goal.TheVariants.{outs-Ask}
use Rattle.dg_base.specs.declared.program.Goal.TheOpen as form
use Rattle.dg_base.specs.declared.program.Term.{Term}
use Rattle.dg_base.specs.declared.program.Rule.{Rule}
use Rattle.dg_base.specs.declared.run.Limits.{Limits}
use Rattle.dg_base.specs.declared.run.Ending.TheVariants as ending
use Rattle.dg_meaning.specs.Values.{Value}
use Rattle.dg_meaning.specs.Substitutions.{links}
use Rattle.dg_meaning.specs.inside.Substitutions.{IsSubstitution}
use Rattle.dg_meaning.specs.World.{Game, World, Print, Asked, noted, worked}
use Rattle.dg_meaning.specs.Cells.{cells}
use Rattle.dg_meaning.specs.Path.{Step, Do, Answers, Registers, Rules}
use Rattle.dg_meaning.specs.Moves.{first_alone, first_looks, choice, exhausted, rules_of, rule_branches}
use Rattle.dg_meaning.specs.Transcript.{Run}
use Rattle.dg_meaning.specs.inside.Context.{Way as WayOn, Live}
use Rattle.dg_meaning.specs.inside.Keeps.{After}
use Rattle.dg_mid.specs.declared.code.Op.{Op}
use Rattle.dg_mid.specs.declared.code.Op.TheVariants as op
use Rattle.dg_mid.specs.declared.code.RuleCode.{RuleCode}
use Rattle.dg_mid.specs.declared.code.Code.{Code}
use Rattle.dg_mid.specs.Code.{block_at, rules_at, selected}
use Rattle.dg_mid.specs.State.{Place, Frame, Call, Target, ToPred, Mid, vars_of, cut_of}
use Rattle.dg_mid.specs.Actions.{registers_of}
use Rattle.dg_mid.specs.Units.{asking}
use Rattle.dg_mid.specs.Step.{Setting, setting, does, more, first_of, begins, asks, calls, asks_last, last, values, call_of}
use Rattle.dg_mid.specs.Codes.{End, Stands, Returns, returns, RulesStand, Codes}
use Rattle.dg_mid.specs.Reads.{silents, Behind, Layer, Reads, Mirrors, Comes, GathersAt}
use Rattle.dg_mid.proofs.Here.{Here, steps_of, nothing_more}
use Rattle.dg_mid.proofs.Taking.{behind, taken_in, comes, taken_grows, charge, heap_full, Met}
use Rattle.dg_mid.proofs.Backs.{exhausted_tells}
use Rattle.dg_mid.proofs.Calls.{rules_begin}

-- ## A query

module _ (g : Game) (code : Code) (limits : Limits) (call : Call) (pred : ℕ) (answered : List ℕ) (after : List Step) (q : Registers) (sub : IsSubstitution q.bound) (m : Mid) (ps : List Print) (lives : List Live) (ways : List WayOn) (n : ℕ) (run : Run)
    (reads : Reads g code (block_at code call.next) m.frames m.inner after) (cut : call.cut.tag ≡ q.next_tag) where
  abbrev set : Setting
  set = setting g code limits

  -- the rules of a predicate
  rules_asked : {least : ℕ} → (codes : List RuleCode) (rules : List Rule) (w : World) → RulesStand code codes rules → Mirrors g code m ps q lives ways w →
      After g lives ways n (choice (Rules pred) q.next_tag (rule_branches g pred call.args call.many (silents answered after) q rules) w) run → least ≤ w.meters.work → Comes least ps set (begins set call (selected (first_of q.bound call) codes) m) g n run
  rules_asked {least = least} [] [] w stand i a le =
      let told = exhausted_tells (Rules pred) w in
      record { world = exhausted (Rules pred) w; at = record { lives = lives; choices = i.choices_are; gathered = told.gathered ∙ i.gathered_is; lasting = told.lasting ∙ i.lasting_is; printed = told.printed ∙ i.printed_is; failed = a }; worked = omega (arith, le, told.work) }
  rules_asked {least = least} [] (rule ∷ rules) w stand i a le = absurd stand
  rules_asked {least = least} (c ∷ cs) [] w stand i a le = absurd stand
  rules_asked {least = least} (c ∷ cs) (rule ∷ rules) w stand i a le =
      rules_begin g code limits call pred answered after q sub m ps lives ways n run (length w.gathered) reads cut (ap length i.gathered_is) (c ∷ cs) rule rules w stand i a le

  pub asks_on : {least : ℕ} → RulesStand code (rules_at code pred) (rules_of (slice_get g.program.preds pred)) → (w : World) → Mirrors g code m ps q lives ways w →
      After g lives ways n (choice (Rules pred) q.next_tag (rule_branches g pred call.args call.many (silents answered after) q (rules_of (slice_get g.program.preds pred))) w) run → least ≤ w.meters.work → Comes least ps set (asks set pred call m) g n run
  asks_on {least = least} stand w i a le =
      subst (λ S. Comes least ps set (begins set call (selected (first_of S call) (rules_at code pred)) m) g n run) i.agrees.bound (rules_asked (rules_at code pred) (rules_of (slice_get g.program.preds pred)) w stand i a le)

-- ## The last query of a rule

silents_twice : (ps qs : List ℕ) (steps : List Step) → silents ps (silents qs steps) ≡ silents (ps ++ qs) steps
silents_twice [] qs steps = refl
silents_twice (p ∷ ps) qs steps = ap (λ l. Answers p ∷ l) (silents_twice ps qs steps)

module _ (code : Code) (the : Setting) (t : Target) (args : List Value) (many : Bool) (m : Mid) (ps : List Print) (steps : List Step) (g : Game) (n : ℕ) (run : Run) where
  -- it comes from where the call goes on at a block with some frames
  abbrev GoesOn : ℕ → Type 0
  GoesOn least = (next : ℕ) (frames : List Frame) (inner : List Place) (answered : List ℕ) (after : List Step) → steps ≡ silents answered after → Reads g code (block_at code next) frames inner after →
      Comes least ps the (calls the t (call_of args many next m) (record m { frames = frames; inner = inner })) g n run

  last_on : {least : ℕ} → GoesOn least → Reads g code (block_at code 0) m.frames [] steps → (b : Bool) (fr : Frame) (fs : List Frame) (noted answered : List ℕ) (after : List Step) → Layer (Behind g code fs) g code (block_at code fr.next) (vars_of fs) (cut_of fs).tag fr.inner after →
      steps ≡ silents noted (first_alone b fr.cut.tag (silents answered after)) → Comes least ps the (asks_last the t args many b fr fs m) g n run
  last_on goes again true fr fs noted answered after layer e = goes fr.next fs fr.inner (noted ++ answered) after (e ∙ silents_twice noted answered after) layer
  last_on goes again false fr fs noted answered after layer e = goes 0 m.frames [] [] steps refl again

  pub last_from : {least : ℕ} → GoesOn least → Reads g code (block_at code 0) m.frames [] steps → (frames : List Frame) → Behind g code frames steps → Comes least ps the (last the t args many frames m) g n run
  last_from goes again [] below = goes 0 m.frames [] [] steps refl again
  last_from goes again (fr ∷ fs) below = last_on goes again fr.many fr fs below.noted below.answered below.after below.layer below.is

-- ## The goal

-- the same is looked at under the same bindings
looks_same : (r r' : Registers) (vs : List Value) → r.bound ≡ r'.bound → first_looks r vs ≡ first_looks r' vs
looks_same r r' [] e = refl
looks_same r r' (v ∷ vs) e = ap (λ S. 1 + links S v) e

module _ (code : Code) (limits : Limits) (m : Mid) (ps : List Print) (ops : List Op) (g : Game) (n : ℕ) (w : World) (run : Run) (codes : Codes g.program code) (pred : ℕ) (terms : List Term) (many : Bool) (steps : List Step)
    (h : Here code m ps (Do (goal.Ask pred terms many) (vars_of m.frames) (cut_of m.frames).tag ∷ steps) g (suc n) w run) where
  abbrev the : Setting
  the = setting g code limits

  abbrev k : ℕ
  k = cells g.program terms

  abbrev m' : Mid
  m' = record m { ops = ops }

  abbrev x : Goal
  x = goal.Ask pred terms many

  abbrev f : Goal-F Goal
  f = form.Ask pred terms many

  abbrev q : Registers
  q = behind code m ps steps g n w run x f (outs-Ask pred terms many) h

  abbrev v : World
  v = taken_in code m ps steps g n w run x f (outs-Ask pred terms many) h

  abbrev args : List Value
  args = values the m terms

  -- the query goes on at a block with these frames
  goes_asked : {least : ℕ} → (next : ℕ) (frames : List Frame) (inner : List Place) (answered : List ℕ) (after : List Step) → steps ≡ silents answered after → Reads g code (block_at code next) frames inner after →
      least ≤ w.meters.work + (1 + asking the terms m') → Comes least ps the (asks the pred (call_of args many next (more k m')) (record (more k m') { frames = frames; inner = inner })) g n run
  goes_asked {least = least} next frames inner answered after e reads le =
      let i = h.mirrors in
      let asked = noted (Asked pred) (worked (first_looks q args) v) in
      asks_on g code limits (call_of args many next (more k m')) pred answered after q h.stands.inner.bound.sound (record (more k m') { frames = frames; inner = inner }) ps h.lives h.ways n run
      reads (sym i.tag) (codes.rules pred) asked
      (record {
        agrees = record { bound = i.agrees.bound; vars = i.agrees.vars; heap = omega (arith, i.agrees.heap); trail = i.agrees.trail; since = i.agrees.since };
        tag = i.tag;
        choices_are = i.choices_are;
        below = i.below;
        stops_are = i.stops_are;
        stop_is = i.stop_is;
        gathered_is = i.gathered_is;
        lasting_is = i.lasting_is;
        printed_is = nothing_more (Asked pred) (worked (first_looks q args) v) ps refl i.printed_is;
      })
      (subst (λ l. After g h.lives h.ways n (choice (Rules pred) q.next_tag (rule_branches g pred args many l q (rules_of (slice_get g.program.preds pred))) asked) run) e
      (comes code m ps steps g n w run x f (outs-Ask pred terms many) h)) (omega (arith, le, looks_same q (registers_of m') args i.agrees.bound))

  full : the.limits.heap < m.state.heap + k → Met the ending.HeapLimit ps g n run
  full = heap_full the m' ps k v g n run h.mirrors.printed_is (omega (arith, h.mirrors.agrees.heap)) (taken_grows code m ps steps g n w run x f (outs-Ask pred terms many) h)

  pub ask : {least : ℕ} → (next : ℕ) (goals : List Goal) (end : End) (rest : List Step) → Stands code (block_at code next) goals end → Behind g code m.frames rest → GathersAt g end (vars_of m.frames) m.inner → steps ≡ steps_of m goals end rest → least ≤ w.meters.work + (1 + asking the terms m') → Comes least ps the (does the (op.Ask pred terms many next) m') g n run
  ask {least = least} next goals end rest s below valued e le =
      charge the [] k m' _ g n run full
      (goes_asked next m.frames m.inner [] steps refl (record { goals = goals; end = end; rest = rest; stands = s; below = below; gathers = valued; is = e }) le)

  -- where a rule's last query goes on that still has to cut
  answers_then : Behind g code m.frames steps → Reads g code (block_at code 0) m.frames [] steps
  answers_then below = subst (λ l. Reads g code l m.frames [] steps) (sym codes.answers) (record { goals = []; end = Returns; rest = steps; stands = returns []; below = below; gathers = tt; is = refl })

  pub last_ask : {least : ℕ} → Behind g code m.frames steps → least ≤ w.meters.work + (1 + asking the terms m') → Comes least ps the (does the (op.LastAsk pred terms many) m') g n run
  last_ask {least = least} below le = charge the [] k m' _ g n run full (last_from code the (ToPred pred) args many (more k m') ps steps g n run (λ next frames inner answered after e reads. goes_asked next frames inner answered after e reads le) (answers_then below) m.frames below)
