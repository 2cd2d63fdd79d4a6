-- A change of the world leads on.
use Rattle.std.proofs.Common.{◌≡◌, ◌≢◌, ℕ, suc, ◌+◌, ◌≤◌, List, [], ◌∷◌, length, map, Bool, Option, Some, None, refl, sym, ap, ◌∙◌, subst, arith}
use Rattle.std.specs.Prelude.{nat_lt, max}
use Rattle.std.specs.List.{slice_get}
use Rattle.std.proofs.lemmas.Bool.{cond-false, le-ltb}
use Rattle.dg_base.specs.declared.program.PlaceKind.{PlaceKind}
use Rattle.dg_base.specs.declared.program.PlaceKind.TheVariants.{Flag, ObjectFlag, ObjectVar, Parent, Global}
use Rattle.dg_base.specs.declared.program.Term.{Term}
use Rattle.dg_base.specs.declared.run.Ending.TheVariants as ending
use Rattle.dg_base.specs.Sound.{terms_of_kind}
use Rattle.dg_meaning.specs.Cells.{cells}
use Rattle.dg_meaning.specs.Changes.{changing, changed}
use Rattle.dg_meaning.specs.Facts.{Fact, Alteration, value_at, altered, size_of, kept_at, kept_from, kept_size, kinds_of}
use Rattle.dg_meaning.specs.Moves.{change_looks, changes, change_place}
use Rattle.dg_meaning.specs.Substitutions.{resolved}
use Rattle.dg_meaning.specs.Path.{Act}
use Rattle.dg_meaning.specs.World.{Print, Event, World, worked, prints}
use Rattle.dg_mid.specs.declared.code.Action.TheVariants as action
use Rattle.dg_mid.specs.declared.code.Code.{Code}
use Rattle.dg_mid.specs.declared.code.Op.{Op}
use Rattle.dg_mid.specs.declared.code.Op.TheVariants as op
use Rattle.dg_mid.specs.Actions.{act_at, registers_of, world_of, lasting_in, said_by}
use Rattle.dg_mid.specs.State.{Lasting, Mid, Status, Runs}
use Rattle.dg_mid.specs.Step.{Setting, more, charged, done}
use Rattle.z_model.specs.Run.{ZState}
use Rattle.dg_rt.specs.Changes.{facts_behind}
use Rattle.dg_rt.specs.Closings.{closing_most}
use Rattle.dg_turn.specs.Told.{Telling}
use Rattle.dg_turn.specs.Plays.{Playing}
use Rattle.dg_turn.specs.Paid.{paid}
use Rattle.dg_turn.specs.Operating.{term_value, InFront}
use Rattle.dg_turn.specs.World.{HasWorld, Outer, Changes, now_routine, change_in, now_most}
use Rattle.dg_turn.proofs.NowKinds.{now_turns}
use Rattle.dg_turn.proofs.PaidGlobals.{globals_are_paid}
use Rattle.dg_turn.proofs.PaidWorld.{world_is_paid}
use Rattle.dg_turn.proofs.Places.{stays_elsewhere, change_at}
use Rattle.dg_chain.specs.Routines.{Writes, ChangesPlace, OpsAt}
use Rattle.dg_chain.specs.Stands.{Printed, Stands}
use Rattle.dg_chain.specs.Whole.{OpLeads, story_setting}
use Rattle.dg_chain.proofs.GlobalChanging.{global_led}
use Rattle.dg_chain.proofs.Lasting.{lasts_changed}
use Rattle.dg_chain.proofs.Leading.{Lead, led_runs, led_fails, finishes, charged_leads, at_op, silently, a_unit}

-- ## What is kept

kept_here : (place : ℕ) (kind : PlaceKind) (facts facts' : List Fact) → (kind ≡ Global → value_at facts' place 0 ≡ value_at facts place 0) → kept_at facts' place kind ≡ kept_at facts place kind
kept_here place Flag facts facts' same = refl
kept_here place ObjectFlag facts facts' same = refl
kept_here place ObjectVar facts facts' same = refl
kept_here place Parent facts facts' same = refl
kept_here place Global facts facts' same = ap size_of (same refl)

-- Global variables that stay take what they took.
kept_same : (n : ℕ) (kinds : List PlaceKind) (facts facts' : List Fact) → ((i : ℕ) → slice_get kinds i ≡ Some Global → value_at facts' (n + i) 0 ≡ value_at facts (n + i) 0) → kept_from n kinds facts' ≡ kept_from n kinds facts
kept_same n [] facts facts' same = refl
kept_same n (kind ∷ kinds) facts facts' same =
    let here : n + 0 ≡ n = omega arith in
    let first = kept_here n kind facts facts' (λ e. subst (λ (k : ℕ). value_at facts' k 0 ≡ value_at facts k 0) here (same 0 (ap (λ (k : PlaceKind). Some k) e))) in
    let rest = kept_same (n + 1) kinds facts facts' (λ i e. subst (λ (k : ℕ). value_at facts' k 0 ≡ value_at facts k 0) (let q : n + suc i ≡ n + 1 + i = omega arith in q) (same (suc i) e)) in
    omega arith

-- So they do where a place changes that is none.
pub kept_elsewhere : (kinds : List PlaceKind) (place : ℕ) (kind : PlaceKind) (facts facts' : List Fact) → slice_get kinds place ≡ Some kind → kind ≢ Global → ((q : ℕ) → q ≢ place → value_at facts' q 0 ≡ value_at facts q 0) → kept_size kinds facts' ≡ kept_size kinds facts
kept_elsewhere kinds place kind facts facts' is none same = kept_same 0 kinds facts facts' (λ i e. same (0 + i) (λ (q : 0 + i ≡ place). none (let r : i ≡ place = omega arith in let found : Some kind ≡ Some Global = sym is ∙ ap (slice_get kinds) (sym r) ∙ e in cc)))

-- ## What is outside

-- What was printed stays where other facts are set.
abbrev pub changed_printed : {t : Telling} {l : Lasting} (ps : List Print) (w : Printed t ps l) (facts : List Fact) → Outer t.program facts w.out.words → kept_size (kinds_of t.program) facts ≤ 500 → Printed t ps (record l { facts = facts })
changed_printed {t} {l} ps w facts outer few = record {
  out = record w.out { words = outer.words' };
  written = w.written;
  meets = record {
    last = outer.others 28 (λ le. absurd (omega arith)) ∙ w.meets.last;
    lines = outer.others 30 (λ le. absurd (omega arith)) ∙ w.meets.lines;
    spaces = outer.others 31 (λ le. absurd (omega arith)) ∙ w.meets.spaces;
    asked = outer.others 32 (λ le. absurd (omega arith)) ∙ w.meets.asked;
    upper = outer.others 33 (λ le. absurd (omega arith)) ∙ w.meets.upper;
  };
  lasts = lasts_changed t l w.out facts outer few w.lasts;
}

module _ (t : Telling) (plays : Playing t) (code : Code) (dice : List ℕ) where
  abbrev set : Setting
  set = story_setting t code dice

  -- nothing is printed
  nothing_said : (kind : PlaceKind) (change : Option Alteration) (w : World) → w.events ≡ [] → said_by (changes set.game kind change [] w) ≡ []
  nothing_said kind None w none = ap (λ (l : List Event). prints l) none
  nothing_said kind (Some a) w none = ap (λ (l : List Event). prints l) none

  module _ (place : ℕ) (ts : List Term) (sets : Bool) (ps : List Print) (m : Mid) (rest : List Op) (z : ZState) (s : Stands t code ps (Runs m) z) (o : ChangesPlace (λ y. OpsAt t code y rest) t s.at.x place ts sets) where
    abbrev n : ℕ
    n = cells t.program ts

    abbrev m' : Mid
    m' = more n (record m { ops = rest })

    abbrev cost : ℕ
    cost = paid set ps (Runs m)

    abbrev w : World
    w = worked (change_looks o.kind (registers_of m') (map (term_value t.program m) ts)) (world_of [] m')

    abbrev facts_with : Option Alteration → List Fact
    facts_with change = facts_behind change m.lasting.facts

    abbrev most : ℕ
    most = now_most t.program o.kind place ts sets m

    behind_led : (change : Option Alteration) → kept_size (kinds_of t.program) (facts_with change) ≤ 500 → most ≤ cost → Changes t s.printed.out o.writes.goes.behind change m.lasting.facts (more n m) most z → Lead t code dice 1 ps (done set (changes set.game o.kind change [] w) m') cost z
    behind_led None few fits k =
        led_fails t code dice 1 (omega arith) ps (changed_printed ps s.printed m.lasting.facts k.outer few) (more n m) (lasting_in w m') most cost z refl fits k.comes
    behind_led (Some a) few fits k =
        let facts = altered a m.lasting.facts in
        let w' = worked (changing t.program o.kind a m.lasting.facts) (changed t.program a w) in
        let within : kept_size (kinds_of t.program) facts ≤ 500 = few in
        let lead : Lead t code dice 1 ps (Runs (lasting_in w' m')) cost z =
        led_runs t code dice 1 (omega arith) ps (changed_printed ps s.printed facts k.outer few) (t.p.names.routine o.writes.goes.behind) (more n m) (lasting_in w' m') most cost z refl o.writes.goes.next fits k.comes in
        subst (λ (next : Status). Lead t code dice 1 ps next cost z)
        (sym (cond-false (nat_lt 500 (max 0 (kept_size (kinds_of t.program) facts))) _ (Runs (lasting_in w' m')) (le-ltb 500 (max 0 (kept_size (kinds_of t.program) facts)) (omega arith)))) lead

    few_behind : o.kind ≢ Global → kept_size (kinds_of t.program) (facts_with (change_in t.program o.kind place ts sets m)) ≤ 500
    few_behind other =
        let change = change_in t.program o.kind place ts sets m in
        let same = kept_elsewhere (kinds_of t.program) place o.kind m.lasting.facts (facts_with change) o.kind_is other
        (λ q ne. stays_elsewhere m.lasting.facts place q 0 change (change_at place (length t.program.objects) o.kind sets (map (resolved m.state.subst) (map (term_value t.program m) ts))) ne) in
        let few = s.printed.lasts.keeps in
        omega arith

    here : InFront t s.printed.out (now_routine t.program o.kind place ts sets o.writes.goes.behind) ts m z
    here = record { x = s.at.x; rep = s.at.rep; there = o.writes.goes.is; nodes = o.writes.nodes }

    now_led : o.kind ≢ Global → most ≤ cost → Lead t code dice 1 ps (charged set n (record m { ops = rest }) (done set (changes set.game o.kind (change_in t.program o.kind place ts sets m) [] w) m')) cost z
    now_led other fits =
        let k = now_turns t plays o.world s.printed.out o.kind place ts sets o.writes.goes.behind m.lasting.facts m z o.kind_is other o.fits s.printed.lasts.facts here in
        let unit = a_unit t code dice ps m in
        let change = change_in t.program o.kind place ts sets m in
        charged_leads t code dice 1 (omega arith) ps s.printed n (record m { ops = rest }) (done set (changes set.game o.kind change [] w) m') cost z s.at.rep.mid.state.few
        (λ room. behind_led change (few_behind other) fits (k.changes room))
        (λ over. finishes t code dice 1 (omega arith) ps s.printed ending.HeapLimit (10 + closing_most) cost z (λ q. (cc)) (omega arith) (k.meets over))

  -- of each kind
  module _ (place : ℕ) (sets : Bool) (ps : List Print) (m : Mid) (rest : List Op) (z : ZState) (s : Stands t code ps (Runs m) z) where
    abbrev Led : PlaceKind → List Term → Type 0
    Led kind ts =
        let m' = more (cells t.program ts) (record m { ops = rest }) in
        Lead t code dice 1 ps (charged set (cells t.program ts) (record m { ops = rest }) (done set (changes set.game kind (change_in t.program kind place ts sets m) [] (worked (change_looks kind (registers_of m') (map (term_value t.program m) ts)) (world_of [] m'))) m')) (paid set ps (Runs m)) z

    plain_led : (ts : List Term) (o : ChangesPlace (λ y. OpsAt t code y rest) t s.at.x place ts sets) → o.kind ≢ Global → m.ops ≡ op.Do (action.Now place ts sets) ∷ rest → Led o.kind ts
    plain_led ts o other e = now_led place ts sets ps m rest z s o other (world_is_paid.now set ps m place o.kind ts sets rest e o.kind_is other o.writes.nodes)

    led_by : (kind : PlaceKind) (ts : List Term) → slice_get (kinds_of t.program) place ≡ Some kind → length ts ≡ terms_of_kind kind → HasWorld t → Writes (λ y. OpsAt t code y rest) t s.at.x ts (now_routine t.program kind place ts sets) → m.ops ≡ op.Do (action.Now place ts sets) ∷ rest → Led kind ts
    led_by Flag ts is fits world writes e = plain_led ts (record { kind = Flag; kind_is = is; fits = fits; world = world; writes = writes }) (λ (q : Flag ≡ Global). cc) e
    led_by ObjectFlag ts is fits world writes e = plain_led ts (record { kind = ObjectFlag; kind_is = is; fits = fits; world = world; writes = writes }) (λ (q : ObjectFlag ≡ Global). cc) e
    led_by ObjectVar ts is fits world writes e = plain_led ts (record { kind = ObjectVar; kind_is = is; fits = fits; world = world; writes = writes }) (λ (q : ObjectVar ≡ Global). cc) e
    led_by Parent ts is fits world writes e = plain_led ts (record { kind = Parent; kind_is = is; fits = fits; world = world; writes = writes }) (λ (q : Parent ≡ Global). cc) e
    led_by Global [] is fits world writes e = absurd (omega arith)
    led_by Global (a ∷ []) is fits world writes e = global_led t plays code dice place a sets ps m rest z s is world writes (globals_are_paid.now set ps m place a sets rest e is writes.nodes)
    led_by Global (a ∷ b ∷ ts) is fits world writes e = absurd (omega arith)

  pub now_leads : (place : ℕ) (ts : List Term) (sets : Bool) → OpLeads t code dice (op.Do (action.Now place ts sets))
  now_leads place ts sets ps m rest z e always s =
      let x = op.Do (action.Now place ts sets) in
      let o : ChangesPlace (λ y. OpsAt t code y rest) t s.at.x place ts sets = at_op t code dice ps m rest z x e s in
      let m' = more (cells t.program ts) (record m { ops = rest }) in
      let at : (k : Option PlaceKind) → Act = λ (k : Option PlaceKind). change_place set.game place k (map (term_value t.program m) ts) sets [] (registers_of m') (world_of [] m') in
      let is : act_at set.game [] (action.Now place ts sets) m' ≡ at (Some o.kind) = ap at o.kind_is in
      let change = change_in t.program o.kind place ts sets m in
      silently t code dice ps m rest z x e _ (paid set ps (Runs m)) (ap said_by is ∙ nothing_said o.kind change (w place ts sets ps m rest z s o) refl)
      (subst (λ (act : Act). Lead t code dice 1 ps (charged set (cells t.program ts) (record m { ops = rest }) (done set act m')) (paid set ps (Runs m)) z) (sym is) (led_by place sets ps m rest z s o.kind ts o.kind_is o.fits o.world o.writes e))
