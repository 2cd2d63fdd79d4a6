-- Gatherings that are opened, and values that are gathered, lead on.
use Rattle.std.proofs.Common.{◌≡◌, ℕ, ◌+◌, ◌<◌, ◌≤◌, ⊎_elim, List, [], ◌∷◌, Option, Some, None, refl, sym, ap, ◌∙◌, subst, arith, nat_lt}
use Rattle.std.proofs.lemmas.Bool.{cases_lt, cond-false, cond-true, le-ltb, lt-ltb}
use Rattle.dg_base.specs.declared.program.Term.{Term}
use Rattle.dg_base.specs.declared.run.Ending.TheVariants as ending
use Rattle.dg_meaning.specs.Cells.{cells}
use Rattle.dg_meaning.specs.Substitutions.{resolved}
use Rattle.dg_meaning.specs.Values.{Value}
use Rattle.dg_meaning.specs.World.{Print, Gathering, gathered_size}
use Rattle.dg_mid.specs.declared.code.Code.{Code}
use Rattle.dg_mid.specs.declared.code.Op.{Op}
use Rattle.dg_mid.specs.declared.code.Op.TheVariants as op
use Rattle.dg_mid.specs.State.{Place, Mid, Status, Runs, Fails, Ended}
use Rattle.dg_mid.specs.Step.{Setting, more, charged, gathering, gathers, newest_with, keeps, keeps_value}
use Rattle.z_model.specs.Run.{ZState}
use Rattle.dg_rt.specs.declared.numbers.TheConstants.{KEEP_VALUE}
use Rattle.dg_rt.specs.Closings.{closing_most}
use Rattle.dg_rt.specs.Gatherings.{keep_most}
use Rattle.dg_turn.specs.Told.{Telling}
use Rattle.dg_turn.specs.Plays.{Playing, Represented}
use Rattle.dg_turn.specs.Paid.{paid}
use Rattle.dg_turn.specs.Terms.{written_in}
use Rattle.dg_turn.specs.Operating.{term_value}
use Rattle.dg_turn.specs.Gatherings.{gathered_by, collected}
use Rattle.dg_turn.proofs.CollectTurn.{collect_turns}
use Rattle.dg_turn.proofs.KeepTurn.{keep_turns}
use Rattle.dg_turn.proofs.PaidGathering.{gatherings_are_paid}
use Rattle.dg_chain.specs.Routines.{Collects, OpsAt}
use Rattle.dg_chain.specs.Steps.{Over}
use Rattle.dg_chain.specs.Stands.{Stands}
use Rattle.dg_chain.specs.Whole.{OpLeads, story_setting}
use Rattle.dg_chain.proofs.Leading.{Lead, led_runs, led_fails, finishes, charged_leads, at_op, silently, a_unit}

module _ (t : Telling) (plays : Playing t) (code : Code) (dice : List ℕ) where
  abbrev set : Setting
  set = story_setting t code dice

  abbrev cost : List Print → Mid → ℕ
  cost ps m = paid set ps (Runs m)

  -- ## The limit

  gathers_on : (gs : List Gathering) (next : Status) → gathered_size gs ≤ 2000 → gathers set gs next ≡ next
  gathers_on gs next le = cond-false (nat_lt 2000 (gathered_size gs)) (Ended ending.AuxLimit) next (le-ltb 2000 (gathered_size gs) le)

  gathers_off : (gs : List Gathering) (next : Status) → 2000 < gathered_size gs → gathers set gs next ≡ Ended ending.AuxLimit
  gathers_off gs next lt = cond-true (nat_lt 2000 (gathered_size gs)) (Ended ending.AuxLimit) next (lt-ltb 2000 (gathered_size gs) lt)

  -- These gatherings are open and it goes on so, or the limit is met.
  gathers_lead : (ps : List Print) (gs : List Gathering) (next : Status) (most : ℕ) (z : ZState) → (gathered_size gs ≤ 2000 → Lead t code dice 1 ps next most z) → (2000 < gathered_size gs → Over t.p.world 1 ps ending.AuxLimit (most + 20) z) → Lead t code dice 1 ps (gathers set gs next) most z
  gathers_lead ps gs next most z room over =
      ⊎_elim (λ lt. subst (λ (s : Status). Lead t code dice 1 ps s most z) (sym (gathers_off gs next lt)) (over lt))
      (λ le. subst (λ (s : Status). Lead t code dice 1 ps s most z) (sym (gathers_on gs next le)) (room le)) (cases_lt 2000 (gathered_size gs))

  -- ## Opening

  pub collect_leads : (a b : Term) (alt : ℕ) → OpLeads t code dice (op.Collect a b alt)
  collect_leads a b alt ps m rest z e always s =
      let out = s.printed.out in
      let x = op.Collect a b alt in
      let ts = a ∷ b ∷ [] in
      let n = cells t.program ts in
      let o : Collects (λ y. OpsAt t code y rest) t s.at.x a b alt = at_op t code dice ps m rest z x e s in
      let m1 = record m { ops = rest } in
      let m2 = gathering (term_value t.program m a) (term_value t.program m b) alt (more n m1) in
      let c = collect_turns t plays out a b alt o.alt o.goes.behind m z o.alt_is (record { x = s.at.x; rep = s.at.rep; there = o.goes.is; nodes = o.nodes }) in
      let fits = gatherings_are_paid.collect set ps m a b alt rest e o.nodes in
      let unit = a_unit t code dice ps m in
      let few = s.at.rep.mid.state.few in
      silently t code dice ps m rest z x e _ (cost ps m) refl
      (charged_leads t code dice 1 (omega arith) ps s.printed n m1 (charged set 10 (more n m1) (gathers set m2.gathered (Runs m2))) (cost ps m) z few
      (λ room. charged_leads t code dice 1 (omega arith) ps s.printed 10 (more n m1) (gathers set m2.gathered (Runs m2)) (cost ps m) z room
      (λ low. gathers_lead ps m2.gathered (Runs m2) (cost ps m) z
      (λ le. led_runs t code dice 1 (omega arith) ps s.printed (t.p.names.routine o.goes.behind) (collected t.program a b alt m) m2 (written_in t.program ts + 60) (cost ps m) z refl o.goes.next fits (c.collects low le))
      (λ lt. finishes t code dice 1 (omega arith) ps s.printed ending.AuxLimit (written_in t.program ts + 40 + closing_most) (cost ps m) z (λ q. (cc)) (omega arith) (c.meets_aux low lt)))
      (λ over. finishes t code dice 1 (omega arith) ps s.printed ending.HeapLimit (written_in t.program ts + 40 + closing_most) (cost ps m) z (λ q. (cc)) (omega arith) (c.meets_heap room over)))
      (λ over. finishes t code dice 1 (omega arith) ps s.printed ending.HeapLimit (10 + closing_most) (cost ps m) z (λ q. (cc)) (omega arith) (c.meets_terms over)))

  -- ## A value

  module _ (a : Term) (ps : List Print) (m : Mid) (rest : List Op) (z : ZState) (e : m.ops ≡ op.Keep a ∷ rest) (s : Stands t code ps (Runs m) z) (r : Represented t s.printed.out (t.p.names.routine KEEP_VALUE) m z) where
    abbrev m1 : Mid
    m1 = record m { ops = rest }

    -- nothing gathers
    fails_now : (m2 : Mid) → m2 ≡ record m { ops = m2.ops; next_tag = m2.next_tag; lasting = m.lasting; frames = m2.frames; inner = m2.inner } → gathered_by m.inner ≡ None → Lead t code dice 1 ps (Fails m2) (cost ps m) z
    fails_now m2 h i =
        let unit = a_unit t code dice ps m in
        led_fails t code dice 1 (omega arith) ps s.printed m m2 10 (cost ps m) z (ap (λ (k : Mid). record k { frames = m.frames; inner = m.inner }) h) (omega arith) (keep_turns.nothing t plays s.printed.out m z i r)

    module _ (places : List Place) (v : Value) (i : gathered_by m.inner ≡ Some v) where
      abbrev m2 : Mid
      m2 = record m { ops = rest; inner = places }

      abbrev rv : Value
      rv = resolved m.state.subst v

      abbrev next_with : List Gathering → Status
      next_with gs = gathers set gs (Fails (record m { ops = rest; inner = places; gathered = gs }))

      value_by : (gs : List Gathering) → m.gathered ≡ gs → Lead t code dice 1 ps (next_with (newest_with rv m.gathered)) (cost ps m) z
      value_by [] here =
          let unit = a_unit t code dice ps m in
          let same : newest_with rv m.gathered ≡ m.gathered = ap (newest_with rv) here ∙ sym here in
          let none = ap gathered_size here in
          subst (λ (gs : List Gathering). Lead t code dice 1 ps (next_with gs) (cost ps m) z) (sym same)
          (gathers_lead ps m.gathered (Fails m2) (cost ps m) z
          (λ le. led_fails t code dice 1 (omega arith) ps s.printed m m2 10 (cost ps m) z refl (omega arith) (keep_turns.unopened t plays s.printed.out m z here r))
          (λ lt. absurd (omega arith)))
      value_by (x ∷ xs) here =
          let gs = newest_with rv m.gathered in
          let fits = gatherings_are_paid.keep set ps m a v rest e i in
          let most = keep_most m.state.subst m.state.vars v in
          gathers_lead ps gs (Fails (record m { ops = rest; inner = places; gathered = gs })) (cost ps m) z
          (λ le. led_fails t code dice 1 (omega arith) ps s.printed (record m { gathered = gs }) (record m { ops = rest; inner = places; gathered = gs }) (most + 2) (cost ps m) z refl fits (keep_turns.keeps t plays s.printed.out m v x xs z i here r le))
          (λ lt. finishes t code dice 1 (omega arith) ps s.printed ending.AuxLimit (most + closing_most + 2) (cost ps m) z (λ q. (cc)) (omega arith) (keep_turns.meets t plays s.printed.out m v x xs z i here r lt))

    keeps_value_by : (places : List Place) (o : Option Value) → gathered_by m.inner ≡ o → Lead t code dice 1 ps (keeps_value set o (record m { ops = rest; inner = places })) (cost ps m) z
    keeps_value_by places None i = fails_now (record m { ops = rest; inner = places }) refl i
    keeps_value_by places (Some v) i = value_by places v i m.gathered refl

    keeps_by : (inner : List Place) → m.inner ≡ inner → Lead t code dice 1 ps (keeps set inner m1) (cost ps m) z
    keeps_by [] i = fails_now m1 refl (ap gathered_by i)
    keeps_by (p ∷ places) i = keeps_value_by places p.gathers (ap gathered_by i)

  pub keep_leads : (a : Term) → OpLeads t code dice (op.Keep a)
  keep_leads a ps m rest z e always s =
      let x_is : s.at.x ≡ t.p.names.routine KEEP_VALUE = at_op t code dice ps m rest z (op.Keep a) e s in
      let r : Represented t s.printed.out (t.p.names.routine KEEP_VALUE) m z = subst (λ (y : ℕ). Represented t s.printed.out y m z) x_is s.at.rep in
      silently t code dice ps m rest z (op.Keep a) e _ (cost ps m) refl (keeps_by a ps m rest z e s r m.inner refl)
