-- How turns lead from a status to the next.
use Rattle.std.proofs.Common.{◌≡◌, ◌≢◌, ℕ, zero, suc, ◌+◌, ◌<◌, ◌≤◌, List, [], ◌∷◌, ◌++◌, length, ⊎_elim, refl, sym, ap, ◌∙◌, subst, arith, nat_lt}
use Rattle.std.proofs.lemmas.Bool.{cases_lt, cond-false, cond-true, le-ltb, lt-ltb}
use Rattle.dg_base.specs.declared.run.Ending.{Ending}
use Rattle.dg_base.specs.declared.run.Ending.TheVariants as ending
use Rattle.dg_meaning.specs.Unify.{Unified}
use Rattle.dg_meaning.specs.World.{Print}
use Rattle.dg_meaning.specs.Transcript.{line_of, closed_text}
use Rattle.dg_mid.specs.declared.code.Code.{Code}
use Rattle.dg_mid.specs.declared.code.Op.{Op}
use Rattle.dg_mid.specs.declared.code.RuleCode.{RuleCode}
use Rattle.dg_mid.specs.Code.{selected}
use Rattle.dg_mid.specs.State.{Call, Calls, Lasting, Mid, Status, Runs, Enters, Resumes, Fails, Ended}
use Rattle.dg_mid.specs.Step.{Setting, more, charged, bound, unified, if_agreed, trail_more, passed, inside, at_rule, enters, begins, first_of, step, said_in, said_to, said, followed}
use Rattle.dg_mid.specs.Units.{units}
use Rattle.z_model.specs.declared.end.ZEnd.{ZEnd}
use Rattle.z_model.specs.declared.end.ZEnd.TheVariants as ends
use Rattle.z_model.specs.Run.{ZGiven, ZState, ZRun, zrun}
use Rattle.z_lang.specs.Leads.{Leads, Ends}
use Rattle.z_lang.proofs.Stretches.{leads_then, ends_then}
use Rattle.dg_rt.specs.declared.numbers.TheConstants.{FAIL}
use Rattle.dg_rt.specs.Areas.{last_reg}
use Rattle.dg_rt.specs.Closings.{closing, closing_most}
use Rattle.dg_turn.specs.Told.{Telling}
use Rattle.dg_turn.specs.Plays.{Outside, Represented, Comes as ComesTo, Closes}
use Rattle.dg_turn.specs.Rules.{EntersAt, BegunTo, behind_first}
use Rattle.dg_turn.proofs.Staying.{mid_alike}
use Rattle.dg_turn.specs.Lies.{MidIn}
use Rattle.dg_chain.specs.Steps.{Comes, Over, Next, end_of, written_with}
use Rattle.dg_chain.specs.Routines.{OpAt, OpsAt, BlocksAt}
use Rattle.dg_chain.specs.Stands.{Printed, Stands}
use Rattle.dg_chain.specs.Whole.{story_setting}
use Rattle.dg_chain.proofs.Points.{units_never_none}
use Rattle.dg_chain.proofs.Printed.{closed_is, as_lasts}

-- ## Machines with the same parts

-- Machines whose parts that memory has words for are the same, and this lasts of the second.
abbrev pub Alike : Lasting → Mid → Mid → Type 0
Alike l m m' = m' ≡ record m { ops = m'.ops; next_tag = m'.next_tag; lasting = l }

-- So they are where what they have beside is the same.
alike_by : {l : Lasting} (m m' : Mid) → m' ≡ record m { ops = m'.ops; next_tag = m'.next_tag; lasting = m'.lasting } → m'.lasting ≡ l → Alike l m m'
alike_by m m' h e = h ∙ ap (λ (q : Lasting). record m { ops = m'.ops; next_tag = m'.next_tag; lasting = q }) e

-- No cells more are none.
pub more_none : (m : Mid) → more 0 m ≡ m
more_none m = let q : m.state.heap + 0 ≡ m.state.heap = omega arith in ap (λ (n : ℕ). record m { state = record m.state { heap = n } }) q

unfoldable pub alike : (t : Telling) (out : Outside) (x : ℕ) {l : Lasting} (m m' : Mid) (z : ZState) → Alike l m m' → Represented t out x m z → Represented t out x m' z
alike t out x {l} m m' z e r = record {
  memory = r.memory;
  is = r.is;
  kept = r.kept;
  cells = r.cells;
  holds = r.holds;
  next_is = r.next_is;
  sh = r.sh;
  trail = r.trail;
  mid = subst (MidIn t out.words r.sh r.cells r.trail) (sym e) (mid_alike t r.sh r.cells r.trail m m'.ops m'.next_tag l r.mid);
}

-- ## Ends

written_is : (ps : List Print) (e : Ending) → e ≢ ending.InputEnded → written_with ps e ≡ closed_text ps (line_of e)
written_is ps ending.Done other = refl
written_is ps ending.Quit other = refl
written_is ps ending.Failed other = refl
written_is ps ending.Stopped other = refl
written_is ps ending.InputEnded other = absurd (other refl)
written_is ps ending.StepLimit other = refl
written_is ps ending.HeapLimit other = refl
written_is ps ending.TrailLimit other = refl
written_is ps ending.AuxLimit other = refl
written_is ps ending.KeepLimit other = refl

end_is : (e : Ending) → e ≢ ending.InputEnded → end_of e ≡ ends.Quit
end_is ending.Done other = refl
end_is ending.Quit other = refl
end_is ending.Failed other = refl
end_is ending.Stopped other = refl
end_is ending.InputEnded other = absurd (other refl)
end_is ending.StepLimit other = refl
end_is ending.HeapLimit other = refl
end_is ending.TrailLimit other = refl
end_is ending.AuxLimit other = refl
end_is ending.KeepLimit other = refl

-- no run ends with no instruction
never_at_once : (w : ZGiven) (z last : ZState) → Ends w 0 z (record { end = ends.Quit; state = last }) → ⊥
unfolding zrun
never_at_once w z last e = let q : ends.StepLimit ≡ ends.Quit = ap (λ (r : ZRun). r.end) (e.by 0) in cc

ends_some : (w : ZGiven) (n : ℕ) (z last : ZState) → Ends w n z (record { end = ends.Quit; state = last }) → 1 ≤ n
ends_some w zero z last e = absurd (never_at_once w z last e)
ends_some w (suc n) z last e = omega arith

module _ (t : Telling) (code : Code) (dice : List ℕ) where
  abbrev pub set : Setting
  set = story_setting t code dice

  -- What a step comes to.
  abbrev pub Lead : ℕ → List Print → Status → ℕ → ZState → Type 0
  Lead least ps now most z = Next t.p.world (Stands t code) least ps now most z

  -- ## Behind a stretch

  comes_then : (least : ℕ) (ps : List Print) (now : Status) (a most all : ℕ) (z there : ZState) → a + most ≤ all → Leads t.p.world a z there → Comes t.p.world (Stands t code) least ps now most there → Comes t.p.world (Stands t code) least ps now all z
  comes_then least ps now a most all z there le leads k =
      let few = k.few in
      let some = k.some in
      record { there = k.there; stands = k.stands; count = a + k.count; some = omega arith; few = omega arith; leads = leads_then t.p.world a k.count z there k.there leads k.leads }

  pub leading_then : (least : ℕ) (ps : List Print) (now : Status) (a most all : ℕ) (z there : ZState) → a + most ≤ all → Leads t.p.world a z there → Lead least ps now most there → Lead least ps now all z
  leading_then least ps (Ended e) a most all z there le leads k =
      let few = k.few in
      let some = k.some in
      record { last = k.last; output = k.output; count = a + k.count; some = omega arith; few = omega arith; ends = ends_then t.p.world a k.count z there _ leads k.ends }
  leading_then least ps (Runs m) a most all z there le leads k = comes_then least ps (Runs m) a most all z there le leads k
  leading_then least ps (Enters call m) a most all z there le leads k = comes_then least ps (Enters call m) a most all z there le leads k
  leading_then least ps (Resumes way m) a most all z there le leads k = comes_then least ps (Resumes way m) a most all z there le leads k
  leading_then least ps (Fails m) a most all z there le leads k = comes_then least ps (Fails m) a most all z there le leads k

  -- ## Limits

  pub charged_on : (n : ℕ) (m : Mid) (next : Status) → m.state.heap + n ≤ 10000 → charged set n m next ≡ next
  charged_on zero m next le = refl
  charged_on (suc n) m next le = cond-false (nat_lt 10000 (m.state.heap + suc n)) (Ended ending.HeapLimit) next (le-ltb 10000 (m.state.heap + suc n) le)

  pub charged_off : (n : ℕ) (m : Mid) (next : Status) → m.state.heap ≤ 10000 → 10000 < m.state.heap + n → charged set n m next ≡ Ended ending.HeapLimit
  charged_off zero m next fits lt = absurd (omega arith)
  charged_off (suc n) m next fits lt = cond-true (nat_lt 10000 (m.state.heap + suc n)) (Ended ending.HeapLimit) next (lt-ltb 10000 (m.state.heap + suc n) lt)

  pub unified_on : (u : Unified) (m : Mid) (next : Status) → trail_more m.state u ≤ 2000 → unified set u m next ≡ if_agreed u.agrees (bound u m) next
  unified_on u m next le = cond-false (nat_lt 2000 (trail_more m.state u)) (Ended ending.TrailLimit) (if_agreed u.agrees (bound u m) next) (le-ltb 2000 (trail_more m.state u) le)

  pub unified_off : (u : Unified) (m : Mid) (next : Status) → 2000 < trail_more m.state u → unified set u m next ≡ Ended ending.TrailLimit
  unified_off u m next lt = cond-true (nat_lt 2000 (trail_more m.state u)) (Ended ending.TrailLimit) (if_agreed u.agrees (bound u m) next) (lt-ltb 2000 (trail_more m.state u) lt)

  -- ## Where a turn leads

  module _ (least : ℕ) (low : least ≤ 1) (ps : List Print) {l : Lasting} (w : Printed t ps l) where
    pub led_runs : (next : ℕ) (m m' : Mid) (most all : ℕ) (z : ZState) → Alike l m m' → OpsAt t code next m'.ops → most ≤ all → ComesTo t w.out next m most z → Comes t.p.world (Stands t code) least ps (Runs m') all z
    led_runs next m m' most all z h ops le c =
        let few = c.few in
        let some = c.some in
        record {
          there = c.there;
          stands = record { printed = as_lasts w m'.lasting (ap (λ (k : Mid). k.lasting) h); at = record { x = next; rep = alike t w.out next m m' c.there h c.rep; ops_are = ops } };
          count = c.count;
          some = omega arith;
          few = omega arith;
          leads = c.leads;
        }

    -- the frames and inner constructs of what fails don't matter
    pub led_fails : (m m' : Mid) (most all : ℕ) (z : ZState) → Alike l m (record m' { frames = m.frames; inner = m.inner }) → most ≤ all → ComesTo t w.out (t.p.names.routine FAIL) m most z → Comes t.p.world (Stands t code) least ps (Fails m') all z
    led_fails m m' most all z h le c =
        let few = c.few in
        let some = c.some in
        record {
          there = c.there;
          stands = record { printed = as_lasts w m'.lasting (ap (λ (k : Mid). k.lasting) h); at = record { frames = m.frames; inner = m.inner; rep = alike t w.out (t.p.names.routine FAIL) m (record m' { frames = m.frames; inner = m.inner }) c.there h c.rep } };
          count = c.count;
          some = omega arith;
          few = omega arith;
          leads = c.leads;
        }

    pub led_enters : (next : ℕ) (call : Call) (m m' : Mid) (most all : ℕ) (z : ZState) → Alike l m m' → OpsAt t code next m'.ops → most ≤ all → EntersAt t w.out next call m most z → Comes t.p.world (Stands t code) least ps (Enters call m') all z
    unfolding alike
    led_enters next call m m' most all z h ops le c =
        let few = c.few in
        let some = c.some in
        record {
          there = c.there;
          stands = record { printed = as_lasts w m'.lasting (ap (λ (k : Mid). k.lasting) h); at = record { x = next; rep = alike t w.out next m m' c.there h c.rep; ops_are = ops; call_is = c.call_is } };
          count = c.count;
          some = omega arith;
          few = omega arith;
          leads = c.leads;
        }

    pub finishes : (e : Ending) (most all : ℕ) (z : ZState) → e ≢ ending.InputEnded → most ≤ all + 20 → Closes t w.out e most z → Over t.p.world least ps e (all + 20) z
    finishes e most all z other le k =
        let few = k.few in
        let some = ends_some t.p.world k.count z k.at_end k.ends in
        record {
          last = k.at_end;
          output = k.written ∙ ap (λ (o : List ℕ). o ++ closing (w.out.words last_reg) e) w.written ∙ sym (written_is ps e other ∙ closed_is ps w e);
          count = k.count;
          some = omega arith;
          few = omega arith;
          ends = subst (λ (x : ZEnd). Ends t.p.world k.count z (record { end = x; state = k.at_end })) (sym (end_is e other)) k.ends;
        }

    -- Cells are taken and it goes on so, or the limit is met.
    pub charged_leads : (n : ℕ) (m : Mid) (next : Status) (most : ℕ) (z : ZState) → m.state.heap ≤ 10000 → (m.state.heap + n ≤ 10000 → Lead least ps next most z) → (10000 < m.state.heap + n → Over t.p.world least ps ending.HeapLimit (most + 20) z) → Lead least ps (charged set n m next) most z
    charged_leads n m next most z fits room over =
        ⊎_elim (λ lt. subst (λ (s : Status). Lead least ps s most z) (sym (charged_off n m next fits lt)) (over lt))
        (λ le. subst (λ (s : Status). Lead least ps s most z) (sym (charged_on n m next le)) (room le)) (cases_lt 10000 (m.state.heap + n))

    -- Ten cells are taken and it goes on there, or the limit is met.
    pub ten_leads : (next : ℕ) (m m1 m2 : Mid) (most all : ℕ) (z : ZState) → m.state.heap ≤ 10000 → Alike l m1 m2 → OpsAt t code next m2.ops → most + 10 ≤ all → (m.state.heap + 10 ≤ 10000 → ComesTo t w.out next m1 most z) → (10000 < m.state.heap + 10 → Closes t w.out ending.HeapLimit (10 + closing_most) z) → Lead least ps (charged set 10 m (Runs m2)) all z
    ten_leads next m m1 m2 most all z fits h ops le room over =
        charged_leads 10 m (Runs m2) all z fits (λ q. led_runs next m1 m2 most all z h ops (omega arith) (room q)) (λ q. finishes ending.HeapLimit (10 + closing_most) all z (λ e. (cc)) (omega arith) (over q))

    -- What a unification binds fits the trail and it goes on so, or the limit is met.
    pub unified_leads : (u : Unified) (m : Mid) (next : Status) (most : ℕ) (z : ZState) → (trail_more m.state u ≤ 2000 → Lead least ps (if_agreed u.agrees (bound u m) next) most z) → (2000 < trail_more m.state u → Over t.p.world least ps ending.TrailLimit (most + 20) z) → Lead least ps (unified set u m next) most z
    unified_leads u m next most z room over =
        ⊎_elim (λ lt. subst (λ (s : Status). Lead least ps s most z) (sym (unified_off u m next lt)) (over lt))
        (λ le. subst (λ (s : Status). Lead least ps s most z) (sym (unified_on u m next le)) (room le)) (cases_lt 2000 (trail_more m.state u))

    -- ## Rules

    module _ (blocks : BlocksAt t code) (call : Call) (m : Mid) (o : List Op) (few : m.state.heap ≤ 10000) (lasts : m.lasting ≡ l) where
      abbrev m' : Mid
      m' = record m { ops = o }

      -- A rule is entered, with these others left.
      enters_leads : (r : RuleCode) (rs others : List RuleCode) (most all : ℕ) (z : ZState) → most ≤ all → BegunTo t w.out call (r ∷ rs) others m most z → Lead least ps (enters set call r others m') all z
      enters_leads r rs [] most all z le k = led_enters (t.at_block r.block) call m (passed (at_rule set r m')) most all z (alike_by m (passed (at_rule set r m')) refl lasts) (blocks.each r.block) le k
      enters_leads r rs (q ∷ qs) most all z le k =
          let way = Calls call (q ∷ qs) in
          let n = length call.args in
          charged_leads (10 + n) m' (Enters call (inside way n (at_rule set r m'))) all z few
          (λ room. led_enters (t.at_block r.block) call (inside way n m) (inside way n (at_rule set r m')) most all z (alike_by (inside way n m) (inside way n (at_rule set r m')) refl lasts) (blocks.each r.block) le (k.opens room))
          (λ over. finishes ending.HeapLimit (most + closing_most) all z (λ e. (cc)) (omega arith) (k.meets over))

      -- Some rules are looked at, none of which was found before.
      pub begun_leads : (found : List RuleCode) (most all : ℕ) (z : ZState) → most ≤ all → BegunTo t w.out call found (behind_first (first_of m.state.subst call) found) m most z → Lead least ps (begins set call found m') all z
      begun_leads [] most all z le k = led_fails m m' most all z (alike_by m m' refl lasts) le k
      begun_leads (r ∷ rs) most all z le k = enters_leads r rs (selected (first_of m.state.subst call) rs) most all z le k

  -- ## Nothing is printed

  pub quiet : (ps : List Print) (m : Mid) (x : Op) (rest : List Op) → m.ops ≡ x ∷ rest → said_in set m (x ∷ rest) ≡ [] → followed ps (said set (Runs m)) ≡ ps
  quiet ps m x rest e none = ap (λ (l : List Op). followed ps (said_to (said_in set m l) (step set (Runs m)))) e ∙ ap (λ (l : List Print). followed ps (said_to l (step set (Runs m)))) none

  -- What stands in front of an instruction, and what it leads to where it prints nothing.
  module _ (ps : List Print) (m : Mid) (rest : List Op) (z : ZState) (x : Op) (e : m.ops ≡ x ∷ rest) where
    pub at_op : (s : Stands t code ps (Runs m) z) → OpAt (λ y. OpsAt t code y rest) t code s.at.x x
    at_op s = subst (OpsAt t code s.at.x) e s.at.ops_are

    pub silently : (now : Status) (most : ℕ) → said_in set m (x ∷ rest) ≡ [] → Lead 1 ps now most z → Lead 1 (followed ps (said set (Runs m))) now most z
    silently now most none h = subst (λ (l : List Print). Lead 1 l now most z) (sym (quiet ps m x rest e none)) h

  pub a_unit : (ps : List Print) (m : Mid) → 1 ≤ units set ps (Runs m)
  a_unit ps m = units_never_none set ps (Runs m) (λ o. o)
