-- Failures, and choices that go on, lead on.
use Rattle.std.proofs.Common.{◌≡◌, ℕ, ◌+◌, ◌*◌, ◌≤◌, List, [], ◌∷◌, length, refl, subst, arith}
use Rattle.dg_base.specs.declared.run.Ending.TheVariants as ending
use Rattle.dg_meaning.specs.World.{Print}
use Rattle.dg_mid.specs.declared.code.Code.{Code}
use Rattle.dg_mid.specs.declared.code.Op.{Op}
use Rattle.dg_mid.specs.declared.code.Op.TheVariants as op
use Rattle.dg_mid.specs.declared.code.RuleCode.{RuleCode}
use Rattle.dg_mid.specs.Code.{block_at, selected}
use Rattle.dg_mid.specs.State.{Call, Way, Goes, Takes, Calls, Tries, Choice, Mid, Resumes, Fails}
use Rattle.dg_mid.specs.Step.{Setting, first_of, passed, inside, back_at, resumed, begins, goes_on, goes_back}
use Rattle.dg_mid.specs.Units.{undone}
use Rattle.dg_mid.specs.Calls.{WayFits, ChoicesFit}
use Rattle.z_model.specs.Run.{ZState}
use Rattle.z_lang.proofs.Stretches.{leads_none}
use Rattle.dg_turn.specs.Told.{Telling}
use Rattle.dg_turn.specs.Plays.{Playing, Represented}
use Rattle.dg_turn.specs.Choices.{branch_routine, OpensAt}
use Rattle.dg_turn.specs.Rules.{keyed}
use Rattle.dg_turn.proofs.Beginning.{begin_turns}
use Rattle.dg_turn.proofs.BranchTurn.{branch_turns}
use Rattle.dg_turn.proofs.FailTurn.{fail_turns, back_turns, fail_ends}
use Rattle.dg_turn.proofs.Paid.{turns_are_paid}
use Rattle.dg_turn.proofs.TriedBack.{back_trying_turns}
use Rattle.dg_chain.specs.Always.{Always}
use Rattle.dg_chain.specs.Steps.{Comes, step_cost}
use Rattle.dg_chain.specs.Routines.{Opens, OpsAt, BlocksAt}
use Rattle.dg_chain.specs.Stands.{Printed, LooksOn, ResumesAt, FailsIn, Stands}
use Rattle.dg_chain.specs.Whole.{story_setting}
use Rattle.dg_chain.proofs.Points.{units_never_none}
use Rattle.dg_chain.proofs.TakingOut.{takes_lead}
use Rattle.dg_chain.proofs.Landing.{Leads, leads_meant}
use Rattle.dg_chain.proofs.Trying.{tries_means}
use Rattle.dg_chain.proofs.Leading.{Lead, alike, ten_leads, finishes, begun_leads}

module _ (t : Telling) (plays : Playing t) (code : Code) (blocks : BlocksAt t code) (dice : List ℕ) where
  abbrev set : Setting
  set = story_setting t code dice

  -- ## Going on

  resumed_leads : (ps : List Print) (m : Mid) (w : Printed t ps m.lasting) (b : ℕ) (z : ZState) → Represented t w.out (t.at_block b) m z → (ops : List Op) → block_at code b ≡ ops → Lead t code dice 0 ps (resumed set ops m) (step_cost set ps (Resumes (Goes b) m)) z
  resumed_leads ps m w b z h (op.Retry alt ∷ ops) e =
      let o : Opens (λ y. OpsAt t code y ops) t (t.at_block b) branch_routine alt = subst (OpsAt t code (t.at_block b)) e (blocks.each b) in
      let at : OpensAt t w.out branch_routine alt o.goes.behind m z = record { x = t.at_block b; alt = o.alt; rep = h; there = o.goes.is; alt_is = o.alt_is } in
      let m' = record m { ops = ops } in
      let unit = units_never_none set ps (Resumes (Goes b) m) (λ q. q) in
      ten_leads t code dice 0 (omega arith) ps w (t.p.names.routine o.goes.behind) m' (inside (Goes alt) 0 m) (inside (Goes alt) 0 m') 30 (step_cost set ps (Resumes (Goes b) m)) z h.mid.state.few refl o.goes.next (omega arith)
      (λ room. branch_turns.branches t plays w.out alt o.goes.behind m z at room) (λ over. branch_turns.branch_meets t plays w.out alt o.goes.behind m z at over)
  resumed_leads ps m w b z h ops e = record {
    there = z;
    stands = record { printed = w; at = record { x = t.at_block b; rep = alike t w.out (t.at_block b) m (passed (record m { ops = ops })) z refl h; ops_are = subst (OpsAt t code (t.at_block b)) e (blocks.each b) } };
    count = 0;
    some = omega arith;
    few = omega arith;
    leads = leads_none t.p.world z;
  }

  -- further rules are looked at
  looks_lead : (ps : List Print) (m : Mid) (w : Printed t ps m.lasting) (call : Call) (rules : List RuleCode) (z : ZState) → Always code (Resumes (Calls call rules) m) → LooksOn t w.out call rules m z → Lead t code dice 0 ps (begins set call rules m) (step_cost set ps (Resumes (Calls call rules) m)) z
  looks_lead ps m w call rules z always l =
      let cost = step_cost set ps (Resumes (Calls call rules) m) in
      let b = begin_turns t plays blocks.some w.out rules l.number call l.key m z l.rules_are l.key_is always.cuts.0 l.looks in
      subst (λ (found : List RuleCode). Lead t code dice 0 ps (begins set call found m) cost z) always.begins
      (begun_leads t code dice 0 (omega arith) ps w blocks call m m.ops l.looks.rep.mid.state.few refl (selected (first_of m.state.subst call) rules) (4 * keyed rules + 70) cost z (turns_are_paid.begin set ps m call rules always.stands) b)

  resumes_by : (ps : List Print) (m : Mid) (w : Printed t ps m.lasting) (way : Way) (z : ZState) → Always code (Resumes way m) → ResumesAt t w.out way m z → Leads t code dice 0 ps (goes_on set way m) (step_cost set ps (Resumes way m)) z
  resumes_by ps m w (Goes b) z always h = leads_meant t code dice 0 ps _ _ z (resumed_leads ps m w b z h (block_at code b) refl)
  resumes_by ps m w (Takes b into) z always h = leads_meant t code dice 0 ps _ _ z (takes_lead t plays code blocks dice ps m w b into z always.begins h)
  resumes_by ps m w (Calls call rules) z always h = leads_meant t code dice 0 ps _ _ z (looks_lead ps m w call rules z always h)
  resumes_by ps m w (Tries f objects) z always h = tries_means t plays code blocks dice ps m w f objects z always h

  pub resumes_lead : (ps : List Print) (way : Way) (m : Mid) (z : ZState) → Always code (Resumes way m) → Stands t code ps (Resumes way m) z → Leads t code dice 0 ps (goes_on set way m) (step_cost set ps (Resumes way m)) z
  resumes_lead ps way m z always s = resumes_by ps m s.printed way z always s.at

  -- ## Going back

  module _ (ps : List Print) (m : Mid) (w : Printed t ps m.lasting) (z : ZState) (always : Always code (Fails m)) (h : FailsIn t w.out m z) where
    -- the machine as it lies in memory
    abbrev m0 : Mid
    m0 = record m { frames = h.frames; inner = h.inner }

    abbrev cost : ℕ
    cost = step_cost set ps (Fails m)

    -- what is undone doesn't depend on frames
    undone_same : (cs : List Choice) → undone cs m0 ≡ undone cs m
    undone_same [] = refl
    undone_same (c ∷ cs) = refl

    back_leads : (c : Choice) (cs : List Choice) (way : Way) → m.choices ≡ c ∷ cs → c.way ≡ way → Comes t.p.world (Stands t code) 1 ps (Resumes way (back_at c cs m)) cost z
    back_leads c cs (Goes b) e i =
        let k = back_turns.goes t plays w.out m0 c cs b z e i always.ordered h.rep in
        let few = k.few in
        let paid_for = turns_are_paid.fail set ps m in
        let undo = undone_same m.choices in
        record { there = k.there; stands = record { printed = w; at = k.rep }; count = k.count; some = k.some; few = omega arith; leads = k.leads }
    back_leads c cs (Takes b into) e i =
        let k = back_turns.takes t plays w.out m0 c cs b into z e i always.ordered h.rep in
        let few = k.comes.few in
        let paid_for = turns_are_paid.fail set ps m in
        let undo = undone_same m.choices in
        record { there = k.comes.there; stands = record { printed = w; at = record { rep = k.comes.rep; into_is = k.into_is; fewer = k.fewer } }; count = k.comes.count; some = k.comes.some; few = omega arith; leads = k.comes.leads }
    back_leads c cs (Calls call rules) e i =
        let fit : ChoicesFit 12 code (c ∷ cs) = subst (ChoicesFit 12 code) e always.fits in
        let short : length call.args ≤ 12 = (subst (WayFits 12 code) i fit.0).0 in
        let k = fail_turns t plays w.out m0 c cs call rules z e i always.ordered short h.rep in
        let few = k.few in
        let paid_for = turns_are_paid.fail set ps m in
        let undo = undone_same m.choices in
        record {
          there = k.there;
          stands = record { printed = w; at = record { number = k.number; key = k.key; rules_are = k.rules_are; key_is = k.key_is; looks = k.looks } };
          count = k.count;
          some = k.some;
          few = omega arith;
          leads = k.leads;
        }
    back_leads c cs (Tries f objects) e i =
        let k = back_trying_turns t plays w.out m0 c cs f objects z e i always.ordered h.rep in
        let few = k.few in
        let paid_for = turns_are_paid.fail set ps m in
        let undo = undone_same m.choices in
        record { there = k.there; stands = record { printed = w; at = k.at }; count = k.count; some = k.some; few = omega arith; leads = k.leads }

    fails_by : (cs : List Choice) → m.choices ≡ cs → Lead t code dice 1 ps (goes_back cs m) cost z
    fails_by [] e =
        let unit = units_never_none set ps (Fails m) (λ q. q) in
        finishes t code dice 1 (omega arith) ps w ending.Failed 30 cost z (λ q. (cc)) (omega arith) (fail_ends t plays w.out m0 z e h.rep)
    fails_by (c ∷ cs) e = back_leads c cs c.way e refl

  pub fails_lead : (ps : List Print) (m : Mid) (z : ZState) → Always code (Fails m) → Stands t code ps (Fails m) z → Lead t code dice 1 ps (goes_back m.choices m) (step_cost set ps (Fails m)) z
  fails_lead ps m z always s = fails_by ps m s.printed z always s.at m.choices refl
