-- Words that are split and joined lead on.
use Rattle.std.proofs.Common.{◌≡◌, ℕ, ◌+◌, ◌-◌, ◌≤◌, List, [], ◌∷◌, length, Option, Some, None, refl, sym, ap, ◌∙◌, subst, arith}
use Rattle.dg_base.specs.declared.program.Term.{Term}
use Rattle.dg_base.specs.declared.run.Ending.TheVariants as ending
use Rattle.dg_meaning.specs.Cells.{cells}
use Rattle.dg_meaning.specs.Copies.{copy_cells}
use Rattle.dg_meaning.specs.Moves.{gives, splits, joins, spelled, looked_up, whole_looks}
use Rattle.dg_meaning.specs.Path.{Registers}
use Rattle.dg_meaning.specs.Unify.{Unified}
use Rattle.dg_meaning.specs.Values.{Value}
use Rattle.dg_meaning.specs.Words.{spelled_value}
use Rattle.dg_meaning.specs.World.{World, Print, worked}
use Rattle.dg_mid.specs.declared.code.Action.TheVariants as action
use Rattle.dg_mid.specs.declared.code.Code.{Code}
use Rattle.dg_mid.specs.declared.code.Op.{Op}
use Rattle.dg_mid.specs.declared.code.Op.TheVariants as op
use Rattle.dg_mid.specs.Actions.{registers_of, said_by, world_of, lasting_in}
use Rattle.dg_mid.specs.State.{Mid, Status, Runs}
use Rattle.dg_mid.specs.Step.{Setting, bound, charged, unified, if_agreed, done, more, trail_more}
use Rattle.z_model.specs.Run.{ZState}
use Rattle.dg_rt.specs.Closings.{closing_most}
use Rattle.dg_turn.specs.Told.{Telling}
use Rattle.dg_turn.specs.Plays.{Playing}
use Rattle.dg_turn.specs.Paid.{paid}
use Rattle.dg_turn.specs.Operating.{term_value}
use Rattle.dg_turn.specs.Wording.{split_routine, join_routine, spelled_by, split_letters, apart, split_most, join_letters, join_most, wording_most, worded_most, word_paid, ComesLined, Wording}
use Rattle.dg_turn.specs.World.{value_unified}
use Rattle.dg_turn.proofs.Places.{facts_apart}
use Rattle.dg_turn.proofs.Sites.{sites_same}
use Rattle.dg_turn.proofs.WordTurns.{split_turns, join_turns}
use Rattle.dg_turn.proofs.PaidWording.{words_are_paid}
use Rattle.dg_chain.specs.Routines.{Words, OpsAt}
use Rattle.dg_chain.specs.Stands.{Printed, Stands}
use Rattle.dg_chain.specs.Whole.{OpLeads, story_setting}
use Rattle.dg_chain.proofs.Leading.{Lead, led_fails, finishes, charged_leads, unified_leads, at_op, silently, a_unit}
use Rattle.dg_chain.proofs.Unifying.{agreed_leads}

module _ (t : Telling) (plays : Playing t) (code : Code) (dice : List ℕ) where
  abbrev set : Setting
  set = story_setting t code dice

  -- nothing is printed
  none_split : (letters : Option (List ℕ)) (into : Value) (r : Registers) (n : ℕ) (m : Mid) → said_by (splits set.game letters into r (worked n (world_of [] m))) ≡ []
  none_split None into r n m = refl
  none_split (Some l) into r n m = refl

  none_joined : (letters : Option (List ℕ)) (into : Value) (r : Registers) (n : ℕ) (m : Mid) → said_by (joins set.game letters into r (worked n (world_of [] m))) ≡ []
  none_joined None into r n m = refl
  none_joined (Some l) into r n m = refl

  module _ (a b : Term) (ps : List Print) (m : Mid) (rest : List Op) (z : ZState) (s : Stands t code ps (Runs m) z) (behind : ℕ) (ops : OpsAt t code (t.p.names.routine behind) rest) (looks making : ℕ) where
    abbrev ts : List Term
    ts = a ∷ b ∷ []

    abbrev n : ℕ
    n = cells t.program ts

    abbrev m' : Mid
    m' = more n (record m { ops = rest })

    abbrev r : Registers
    r = registers_of m'

    abbrev cost : ℕ
    cost = paid set ps (Runs m)

    abbrev into : Value
    into = term_value t.program m b

    abbrev looked : World
    looked = worked looks (world_of [] m')

    -- what is outside behind it
    abbrev lined : {next most : ℕ} {m2 : Mid} → ComesLined t s.printed.out next m2 most z → Printed t ps m.lasting
    lined q = record {
      out = record s.printed.out { words = q.words' };
      written = s.printed.written;
      meets = record {
        last = q.others 28 (λ y. absurd (omega arith)) ∙ s.printed.meets.last;
        lines = q.others 30 (λ y. absurd (omega arith)) ∙ s.printed.meets.lines;
        spaces = q.others 31 (λ y. absurd (omega arith)) ∙ s.printed.meets.spaces;
        asked = q.others 32 (λ y. absurd (omega arith)) ∙ s.printed.meets.asked;
        upper = q.others 33 (λ y. absurd (omega arith)) ∙ s.printed.meets.upper;
      };
      lasts = record {
        drawn = s.printed.lasts.drawn;
        typed = s.printed.lasts.typed;
        facts = facts_apart t.program m.lasting.facts s.printed.out.words q.words' (λ k le far. q.others k far) s.printed.lasts.facts;
        keeps = s.printed.lasts.keeps;
        sites = sites_same t m.lasting.sites s.printed.out.words q.words' (λ k le. q.others k (λ y. (omega arith))) s.printed.lasts.sites;
      };
    }

    -- where none is made it fails
    fails_leads : (k : Wording t s.printed.out a b behind None making m z) → wording_most t.program a b making ≤ cost → m.state.heap + n ≤ 10000 → Lead t code dice 1 ps (done set (splits set.game None into r looked) m') cost z
    fails_leads k fits room = let q = k.fails room refl in led_fails t code dice 1 (omega arith) ps (lined q) (more n m) m' (wording_most t.program a b making) cost z refl fits q.comes

    -- a value is given
    module _ (v : Value) (letters : ℕ) (k : Wording t s.printed.out a b behind (Some v) making m z) (fits : worded_most t.program a b v making m ≤ cost) where
      abbrev c : ℕ
      c = copy_cells v

      abbrev u : Unified
      u = value_unified t.program b v m

      abbrev w1 : World
      w1 = spelled set.game letters v looked

      abbrev m2 : Mid
      m2 = more c (lasting_in w1 m')

      abbrev most : ℕ
      most = worded_most t.program a b v making m

      now_is : done set (gives into v r w1) m' ≡ charged set c m' (unified set u m2 (Runs (bound u m2)))
      now_is =
          let heap = m'.state.heap in
          let less : heap + c - heap ≡ c = omega arith in
          let with_cells : ℕ → Mid = λ (d : ℕ). record (lasting_in w1 m') { state = record m'.state { heap = heap + d } } in
          ap (λ (d : ℕ). charged set d m' (unified set u (with_cells d) (Runs (bound u (with_cells d))))) less

      agreed : m.state.heap + n + c ≤ 10000 → trail_more m.state u ≤ 2000 → Lead t code dice 1 ps (if_agreed u.agrees (bound u m2) (Runs (bound u m2))) cost z
      agreed room few =
          let q = k.unifies v room refl few in
          agreed_leads t plays code dice ps (lined q) behind u.agrees (bound u (more c (more n m))) (bound u m2) (bound u m2) most cost z refl refl ops fits q.comes

      given_leads : m.state.heap + n ≤ 10000 → Lead t code dice 1 ps (done set (gives into v r w1) m') cost z
      given_leads room =
          let few : m'.state.heap ≤ 10000 = room in
          let unit = a_unit t code dice ps m in
          subst (λ (next : Status). Lead t code dice 1 ps next cost z) (sym now_is)
          (charged_leads t code dice 1 (omega arith) ps s.printed c m' (unified set u m2 (Runs (bound u m2))) cost z few
          (λ more_room. unified_leads t code dice 1 (omega arith) ps s.printed u m2 (Runs (bound u m2)) cost z
          (λ few_bound. agreed more_room few_bound)
          (λ over. finishes t code dice 1 (omega arith) ps s.printed ending.TrailLimit (most + closing_most) cost z (λ q. (cc)) (let f = fits in omega arith) (k.meets_trail v more_room refl over)))
          (λ over. finishes t code dice 1 (omega arith) ps s.printed ending.HeapLimit (most + closing_most) cost z (λ q. (cc)) (let f = fits in omega arith) (k.meets_value v room refl over)))

    -- by the letters, if there are any
    split_by : (letters : Option (List ℕ)) → Wording t s.printed.out a b behind (spelled_by (apart t.program) letters) making m z → word_paid t.program a b (spelled_by (apart t.program) letters) making m ≤ cost → m.state.heap + n ≤ 10000 → Lead t code dice 1 ps (done set (splits set.game letters into r looked) m') cost z
    split_by None k fits room = fails_leads k fits room
    split_by (Some l) k fits room = given_leads (apart t.program l) (length l) k fits room

    joined_by : (letters : Option (List ℕ)) → Wording t s.printed.out a b behind (spelled_by (spelled_value t.program.words) letters) making m z → word_paid t.program a b (spelled_by (spelled_value t.program.words) letters) making m ≤ cost → m.state.heap + n ≤ 10000 → Lead t code dice 1 ps (done set (joins set.game letters into r looked) m') cost z
    joined_by None k fits room = fails_leads k fits room
    joined_by (Some l) k fits room = given_leads (spelled_value t.program.words l) (length l) k fits room

  pub split_leads : (a b : Term) → OpLeads t code dice (op.Do (action.SplitWord a b))
  split_leads a b ps m rest z e always s =
      let x = op.Do (action.SplitWord a b) in
      let o : Words (λ y. OpsAt t code y rest) t s.at.x a b (split_routine t.program a b) = at_op t code dice ps m rest z x e s in
      let k = split_turns t plays o.tables s.printed.out a b o.writes.goes.behind m z (record { x = s.at.x; rep = s.at.rep; there = o.writes.goes.is; nodes = o.writes.nodes }) in
      let n = cells t.program (a ∷ b ∷ []) in
      let m' = more n (record m { ops = rest }) in
      let r = registers_of m' in
      let v = term_value t.program m a in
      let letters = split_letters t.program a m in
      let looks = looked_up r v in
      let cost = paid set ps (Runs m) in
      let unit = a_unit t code dice ps m in
      silently t code dice ps m rest z x e _ cost (none_split letters (term_value t.program m b) r looks m')
      (charged_leads t code dice 1 (omega arith) ps s.printed n (record m { ops = rest }) (done set (splits set.game letters (term_value t.program m b) r (worked looks (world_of [] m'))) m') cost z s.at.rep.mid.state.few
      (λ room. split_by a b ps m rest z s o.writes.goes.behind o.writes.goes.next looks (split_most t.program a m) letters k (words_are_paid.split set ps m a b rest e o.writes.nodes) room)
      (λ over. finishes t code dice 1 (omega arith) ps s.printed ending.HeapLimit (10 + closing_most) cost z (λ q. (cc)) (omega arith) (k.meets_heap over)))

  pub join_leads : (a b : Term) → OpLeads t code dice (op.Do (action.JoinWords a b))
  join_leads a b ps m rest z e always s =
      let x = op.Do (action.JoinWords a b) in
      let o : Words (λ y. OpsAt t code y rest) t s.at.x a b (join_routine t.program a b) = at_op t code dice ps m rest z x e s in
      let k = join_turns t plays o.tables s.printed.out a b o.writes.goes.behind m z (record { x = s.at.x; rep = s.at.rep; there = o.writes.goes.is; nodes = o.writes.nodes }) in
      let n = cells t.program (a ∷ b ∷ []) in
      let m' = more n (record m { ops = rest }) in
      let r = registers_of m' in
      let v = term_value t.program m a in
      let letters = join_letters t.program a m in
      let looks = whole_looks r v in
      let cost = paid set ps (Runs m) in
      let unit = a_unit t code dice ps m in
      silently t code dice ps m rest z x e _ cost (none_joined letters (term_value t.program m b) r looks m')
      (charged_leads t code dice 1 (omega arith) ps s.printed n (record m { ops = rest }) (done set (joins set.game letters (term_value t.program m b) r (worked looks (world_of [] m'))) m') cost z s.at.rep.mid.state.few
      (λ room. joined_by a b ps m rest z s o.writes.goes.behind o.writes.goes.next looks (join_most t.program a m) letters k (words_are_paid.join set ps m a b rest e o.writes.nodes) room)
      (λ over. finishes t code dice 1 (omega arith) ps s.printed ending.HeapLimit (10 + closing_most) cost z (λ q. (cc)) (omega arith) (k.meets_heap over)))
