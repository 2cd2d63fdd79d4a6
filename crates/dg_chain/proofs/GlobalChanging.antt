-- A change of a global variable leads on.
use Rattle.std.proofs.Common.{◌≡◌, ℕ, ◌+◌, ◌<◌, ◌≤◌, ⊎_elim, List, [], ◌∷◌, map, Bool, Option, Some, None, refl, sym, ◌∙◌, subst, arith}
use Rattle.std.specs.Prelude.{nat_lt, max}
use Rattle.std.specs.List.{slice_get}
use Rattle.std.proofs.lemmas.Bool.{cases_lt, cond-false, cond-true, le-ltb, lt-ltb}
use Rattle.dg_base.specs.declared.program.PlaceKind.TheVariants.{Global}
use Rattle.dg_base.specs.declared.program.Term.{Term}
use Rattle.dg_base.specs.declared.run.Ending.TheVariants as ending
use Rattle.dg_meaning.specs.Cells.{cells}
use Rattle.dg_meaning.specs.Changes.{changing, changed}
use Rattle.dg_meaning.specs.Facts.{Fact, Alteration, altered, kept_size, kinds_of}
use Rattle.dg_meaning.specs.Moves.{change_looks, changes}
use Rattle.dg_meaning.specs.World.{Print, World, worked}
use Rattle.dg_mid.specs.declared.code.Code.{Code}
use Rattle.dg_mid.specs.declared.code.Op.{Op}
use Rattle.dg_mid.specs.Actions.{registers_of, world_of, lasting_in}
use Rattle.dg_mid.specs.State.{Lasting, Mid, Status, Runs, Ended}
use Rattle.dg_mid.specs.Step.{Setting, more, charged, done}
use Rattle.z_model.specs.Run.{ZState}
use Rattle.dg_rt.specs.Changes.{facts_behind}
use Rattle.dg_rt.specs.Closings.{closing_most}
use Rattle.dg_turn.specs.Told.{Telling}
use Rattle.dg_turn.specs.Plays.{Playing, Closes}
use Rattle.dg_turn.specs.Paid.{paid}
use Rattle.dg_turn.specs.Operating.{term_value, InFront}
use Rattle.dg_turn.specs.World.{HasWorld, now_routine, change_in}
use Rattle.dg_turn.specs.Globals.{kept_behind, global_most, KeptOuter, Keeps}
use Rattle.dg_turn.proofs.GlobalTurn.{global_turns}
use Rattle.dg_chain.specs.Routines.{Writes, OpsAt}
use Rattle.dg_turn.proofs.Sites.{sites_same}
use Rattle.dg_chain.specs.Stands.{Printed, Stands}
use Rattle.dg_chain.specs.Whole.{story_setting}
use Rattle.dg_chain.proofs.Leading.{Lead, led_runs, led_fails, finishes, charged_leads, a_unit}

-- What was printed stays where another value is kept.
abbrev kept_printed : {t : Telling} {l : Lasting} (ps : List Print) (w : Printed t ps l) (facts : List Fact) → KeptOuter t.program facts w.out.words → kept_size (kinds_of t.program) facts ≤ 500 → Printed t ps (record l { facts = facts })
kept_printed {t} {l} ps w facts outer few = record {
  out = record w.out { words = outer.words' };
  written = w.written;
  meets = record {
    last = outer.others 28 (λ le. absurd (omega arith)) (λ le. absurd (omega arith)) ∙ w.meets.last;
    lines = outer.others 30 (λ le. absurd (omega arith)) (λ le. absurd (omega arith)) ∙ w.meets.lines;
    spaces = outer.others 31 (λ le. absurd (omega arith)) (λ le. absurd (omega arith)) ∙ w.meets.spaces;
    asked = outer.others 32 (λ le. absurd (omega arith)) (λ le. absurd (omega arith)) ∙ w.meets.asked;
    upper = outer.others 33 (λ le. absurd (omega arith)) (λ le. absurd (omega arith)) ∙ w.meets.upper;
  };
  lasts = record {
    drawn = w.lasts.drawn;
    typed = w.lasts.typed;
    facts = outer.facts_in;
    keeps = few;
    sites = sites_same t l.sites w.out.words outer.words' (λ k le. outer.others k (λ lo. (omega arith)) (λ lo. le)) w.lasts.sites;
  };
}

module _ (t : Telling) (plays : Playing t) (code : Code) (dice : List ℕ) where
  abbrev set : Setting
  set = story_setting t code dice

  module _ (place : ℕ) (a : Term) (sets : Bool) (ps : List Print) (m : Mid) (rest : List Op) (z : ZState) (s : Stands t code ps (Runs m) z) (is : slice_get (kinds_of t.program) place ≡ Some Global) (world : HasWorld t) (o : Writes (λ y. OpsAt t code y rest) t s.at.x (a ∷ []) (now_routine t.program Global place (a ∷ []) sets)) where
    abbrev n : ℕ
    n = cells t.program (a ∷ [])

    abbrev m' : Mid
    m' = more n (record m { ops = rest })

    abbrev cost : ℕ
    cost = paid set ps (Runs m)

    abbrev w : World
    w = worked (change_looks Global (registers_of m') (map (term_value t.program m) (a ∷ []))) (world_of [] m')

    abbrev size_with : Option Alteration → ℕ
    size_with change = kept_size (kinds_of t.program) (facts_behind change m.lasting.facts)

    abbrev Led : Option Alteration → Type 0
    Led change = Lead t code dice 1 ps (done set (changes set.game Global change [] w) m') cost z

    -- there is room for what is kept then
    behind_led : (change : Option Alteration) (most : ℕ) → size_with change ≤ 500 → most ≤ cost → Keeps t s.printed.out o.goes.behind change (facts_behind change m.lasting.facts) (more n m) most z → Led change
    behind_led None most few fits k = led_fails t code dice 1 (omega arith) ps (kept_printed ps s.printed m.lasting.facts k.outer few) (more n m) (lasting_in w m') most cost z refl fits k.comes
    behind_led (Some c) most few fits k =
        let facts = altered c m.lasting.facts in
        let w' = worked (changing t.program Global c m.lasting.facts) (changed t.program c w) in
        let within : kept_size (kinds_of t.program) facts ≤ 500 = few in
        let lead : Lead t code dice 1 ps (Runs (lasting_in w' m')) cost z =
        led_runs t code dice 1 (omega arith) ps (kept_printed ps s.printed facts k.outer few) (t.p.names.routine o.goes.behind) (more n m) (lasting_in w' m') most cost z refl o.goes.next fits k.comes in
        subst (λ (next : Status). Lead t code dice 1 ps next cost z)
        (sym (cond-false (nat_lt 500 (max 0 (kept_size (kinds_of t.program) facts))) (Ended ending.KeepLimit) (Runs (lasting_in w' m')) (le-ltb 500 (max 0 (kept_size (kinds_of t.program) facts)) (omega arith)))) lead

    -- there is none
    over_led : (change : Option Alteration) (most : ℕ) → 500 < size_with change → most ≤ cost → Closes t s.printed.out ending.KeepLimit (most + closing_most) z → Led change
    over_led None most over fits k = let few = s.printed.lasts.keeps in absurd (omega arith)
    over_led (Some c) most over fits k =
        let facts = altered c m.lasting.facts in
        let w' = worked (changing t.program Global c m.lasting.facts) (changed t.program c w) in
        let much : 500 < kept_size (kinds_of t.program) facts = over in
        subst (λ (next : Status). Lead t code dice 1 ps next cost z)
        (sym (cond-true (nat_lt 500 (max 0 (kept_size (kinds_of t.program) facts))) (Ended ending.KeepLimit) (Runs (lasting_in w' m')) (lt-ltb 500 (max 0 (kept_size (kinds_of t.program) facts)) (omega arith))))
        (finishes t code dice 1 (omega arith) ps s.printed ending.KeepLimit (most + closing_most) cost z (λ q. (cc)) (omega arith) k)

    abbrev change : Option Alteration
    change = change_in t.program Global place (a ∷ []) sets m

    abbrev most : ℕ
    most = global_most t.program a (kept_behind t.program change m.lasting.facts) m

    here : InFront t s.printed.out (now_routine t.program Global place (a ∷ []) sets o.goes.behind) (a ∷ []) m z
    here = record { x = s.at.x; rep = s.at.rep; there = o.goes.is; nodes = o.nodes }

    pub global_led : most ≤ cost → Lead t code dice 1 ps (charged set n (record m { ops = rest }) (done set (changes set.game Global change [] w) m')) cost z
    global_led fits =
        let k = global_turns t plays world s.printed.out place a sets o.goes.behind m.lasting.facts m z is s.printed.lasts.facts here in
        let unit = a_unit t code dice ps m in
        charged_leads t code dice 1 (omega arith) ps s.printed n (record m { ops = rest }) (done set (changes set.game Global change [] w) m') cost z s.at.rep.mid.state.few
        (λ room. ⊎_elim (λ over. over_led change most over fits (k.meets_keep room over)) (λ few. behind_led change most few fits (k.changes room few)) (cases_lt 500 (size_with change)))
        (λ over. finishes t code dice 1 (omega arith) ps s.printed ending.HeapLimit (10 + closing_most) cost z (λ q. (cc)) (omega arith) (k.meets_heap over))
