-- Tests, comparisons, arithmetic and throws lead on.
use Rattle.std.proofs.Common.{◌≡◌, ℕ, ◌+◌, ◌-◌, ◌%◌, ◌≤◌, Bool, true, false, List, [], ◌∷◌, length, Option, Some, None, refl, sym, ap, ◌∙◌, subst, arith}
use Rattle.std.specs.Prelude.{slice_index}
use Rattle.dg_base.specs.declared.program.ArithOp.{ArithOp}
use Rattle.dg_base.specs.declared.program.CompareOp.{CompareOp}
use Rattle.dg_base.specs.declared.program.Term.{Term}
use Rattle.dg_base.specs.declared.program.TestKind.{TestKind}
use Rattle.dg_base.specs.declared.run.Ending.TheVariants as ending
use Rattle.dg_meaning.specs.Cells.{cells}
use Rattle.dg_meaning.specs.Choosing.{die}
use Rattle.dg_meaning.specs.Moves.{looked_up, gives_number, throws}
use Rattle.dg_meaning.specs.Numbers.{calculated, thrown}
use Rattle.dg_meaning.specs.Path.{Registers, Unifies as UnifiesNow}
use Rattle.dg_meaning.specs.TypeTests.{passes}
use Rattle.dg_meaning.specs.Unify.{Equations, solve}
use Rattle.dg_meaning.specs.Values.{Num, Value, leaf}
use Rattle.dg_meaning.specs.World.{Print, World, worked, drew}
use Rattle.dg_mid.specs.declared.code.Action.TheVariants as action
use Rattle.dg_mid.specs.declared.code.Code.{Code}
use Rattle.dg_mid.specs.declared.code.Op.{Op}
use Rattle.dg_mid.specs.declared.code.Op.TheVariants as op
use Rattle.dg_mid.specs.Actions.{registers_of, world_of, lasting_in, said_by}
use Rattle.dg_mid.specs.State.{Lasting, Mid, Status, Runs}
use Rattle.dg_mid.specs.Step.{Setting, more, bound, charged, unified, if_passed, done}
use Rattle.z_model.specs.Run.{ZState, word_at, next_drawn}
use Rattle.z_lang.specs.declared.act.Routine.{Routine}
use Rattle.dg_rt.specs.Arithmetic.{drawn_behind}
use Rattle.dg_rt.specs.Closings.{closing_most}
use Rattle.dg_turn.specs.Told.{Telling}
use Rattle.dg_turn.specs.Plays.{Playing, Comes as ComesTo}
use Rattle.dg_turn.specs.Paid.{paid}
use Rattle.dg_turn.specs.Turns.{agreed_next}
use Rattle.dg_turn.specs.Operating.{term_value, test_routine, compare_routine, arith_routine, random_routine, InFront, Deciding, test_most, terms_in_order, compare_most, made_of, number_unified, making_most, giving_most, making_paid, Making}
use Rattle.dg_turn.proofs.DecidingTurn.{test_turns, compare_turns}
use Rattle.dg_turn.proofs.MakingTurn.{arith_turns, random_turns}
use Rattle.dg_turn.proofs.PaidOperating.{operations_are_paid}
use Rattle.dg_chain.specs.Routines.{Writes, OpsAt}
use Rattle.dg_chain.specs.Stands.{Printed, Stands}
use Rattle.dg_chain.specs.Whole.{OpLeads, story_setting}
use Rattle.dg_chain.proofs.Leading.{Lead, Alike, led_runs, led_fails, finishes, charged_leads, unified_leads, at_op, silently, a_unit}
use Rattle.dg_chain.proofs.Unifying.{agreed_leads}
use Rattle.dg_chain.proofs.Lasting.{lasts_drawn}

module _ (t : Telling) (plays : Playing t) (code : Code) (dice : List ℕ) where
  abbrev set : Setting
  set = story_setting t code dice

  -- in front of a routine that writes terms
  in_front : (ps : List Print) (m : Mid) (z : ZState) (rest : List Op) (ts : List Term) (routine : ℕ → Routine) (s : Stands t code ps (Runs m) z) → (o : Writes (λ y. OpsAt t code y rest) t s.at.x ts routine) → InFront t s.printed.out (routine o.goes.behind) ts m z
  in_front ps m z rest ts routine s o = record { x = s.at.x; rep = s.at.rep; there = o.goes.is; nodes = o.nodes }

  -- ## Tests

  -- It goes on where a test is passed, and else it fails.
  pub passed_leads : (ps : List Print) {l : Lasting} (w : Printed t ps l) (behind : ℕ) (b : Bool) (m m' : Mid) (most all : ℕ) (z : ZState) → Alike l m m' → OpsAt t code (t.p.names.routine behind) m'.ops → most ≤ all → ComesTo t w.out (agreed_next t.p behind b) m most z →
      Lead t code dice 1 ps (if_passed b m') all z
  passed_leads ps w behind true m m' most all z h ops le k = led_runs t code dice 1 (omega arith) ps w (t.p.names.routine behind) m m' most all z h ops le k
  passed_leads ps w behind false m m' most all z h ops le k = led_fails t code dice 1 (omega arith) ps w m m' most all z (ap (λ (k : Mid). record k { frames = m.frames; inner = m.inner }) h) le k

  pub deciding_leads : (ps : List Print) (m : Mid) (rest : List Op) (z : ZState) (s : Stands t code ps (Runs m) z) (ts : List Term) (behind : ℕ) (passed : Bool) (most : ℕ) → OpsAt t code (t.p.names.routine behind) rest → most ≤ paid set ps (Runs m) → Deciding t s.printed.out ts behind passed most m z →
      let m' = more (cells t.program ts) (record m { ops = rest }) in
      Lead t code dice 1 ps (charged set (cells t.program ts) (record m { ops = rest }) (if_passed passed m')) (paid set ps (Runs m)) z
  deciding_leads ps m rest z s ts behind passed most ops le d =
      let n = cells t.program ts in
      let m' = more n (record m { ops = rest }) in
      let cost = paid set ps (Runs m) in
      let unit = a_unit t code dice ps m in
      charged_leads t code dice 1 (omega arith) ps s.printed n (record m { ops = rest }) (if_passed passed m') cost z s.at.rep.mid.state.few
      (λ room. passed_leads ps s.printed behind passed (more n m) m' most cost z refl ops le (d.decides room))
      (λ over. finishes t code dice 1 (omega arith) ps s.printed ending.HeapLimit (10 + closing_most) cost z (λ q. (cc)) (omega arith) (d.meets over))

  pub test_leads : (kind : TestKind) (a : Term) → OpLeads t code dice (op.Do (action.Test kind a))
  test_leads kind a ps m rest z e always s =
      let x = op.Do (action.Test kind a) in
      let routine = test_routine t.program kind a in
      let o : Writes (λ y. OpsAt t code y rest) t s.at.x (a ∷ []) routine = at_op t code dice ps m rest z x e s in
      let d = test_turns t plays s.printed.out kind a o.goes.behind m z (in_front ps m z rest (a ∷ []) routine s o) in
      silently t code dice ps m rest z x e _ (paid set ps (Runs m)) refl
      (deciding_leads ps m rest z s (a ∷ []) o.goes.behind (passes m.state.subst kind (term_value t.program m a)) (test_most t.program kind a m) o.goes.next (operations_are_paid.test set ps m kind a rest e o.nodes) d)

  pub compare_leads : (f : CompareOp) (a b : Term) → OpLeads t code dice (op.Do (action.Compare f a b))
  compare_leads f a b ps m rest z e always s =
      let x = op.Do (action.Compare f a b) in
      let routine = compare_routine t.program f a b in
      let o : Writes (λ y. OpsAt t code y rest) t s.at.x (a ∷ b ∷ []) routine = at_op t code dice ps m rest z x e s in
      let d = compare_turns t plays s.printed.out f a b o.goes.behind m z (in_front ps m z rest (a ∷ b ∷ []) routine s o) in
      silently t code dice ps m rest z x e _ (paid set ps (Runs m)) refl
      (deciding_leads ps m rest z s (a ∷ b ∷ []) o.goes.behind (terms_in_order t.program f a b m) (compare_most t.program a b m) o.goes.next (operations_are_paid.compare set ps m f a b rest e o.nodes) d)

  -- ## Numbers that are made

  -- an equation takes no further cells, in a world in which something lasts
  pub unifies_now : (es : Equations) (w : World) (m : Mid) → done set (UnifiesNow (registers_of m) es w) m ≡ unified set (solve m.state.subst es) (lasting_in w m) (Runs (bound (solve m.state.subst es) (lasting_in w m)))
  unifies_now es w m =
      let u = solve m.state.subst es in
      let none : m.state.heap - m.state.heap ≡ 0 = omega arith in
      let same_heap : m.state.heap + (m.state.heap - m.state.heap) ≡ m.state.heap = omega arith in
      let with_heap : ℕ → Mid = λ (h : ℕ). record (lasting_in w m) { state = record m.state { heap = h } } in
      ap (λ (h : ℕ). charged set (m.state.heap - m.state.heap) m (unified set u (with_heap h) (Runs (bound u (with_heap h))))) same_heap
      ∙ ap (λ (n : ℕ). charged set n m (unified set u (lasting_in w m) (Runs (bound u (lasting_in w m))))) none

  -- nothing is printed
  nothing_said : (made : Option ℕ) (into : Value) (r : Registers) (n : ℕ) (m : Mid) → said_by (gives_number made into r (worked n (world_of [] m))) ≡ []
  nothing_said None into r n m = refl
  nothing_said (Some i) into r n m = refl

  module _ (a b c : Term) (ps : List Print) (m : Mid) (rest : List Op) (z : ZState) (s : Stands t code ps (Runs m) z) (behind : ℕ) (ops : OpsAt t code (t.p.names.routine behind) rest) where
    abbrev ts : List Term
    ts = a ∷ b ∷ c ∷ []

    abbrev n : ℕ
    n = cells t.program ts

    abbrev m' : Mid
    m' = more n (record m { ops = rest })

    abbrev cost : ℕ
    cost = paid set ps (Runs m)

    abbrev into : Value
    into = term_value t.program m c

    abbrev looked : World
    looked = worked (looked_up (registers_of m') (term_value t.program m a) + looked_up (registers_of m') (term_value t.program m b)) (world_of [] m')

    made_leads : (made : Option ℕ) → making_paid t.program a b c made m ≤ cost → (room : m.state.heap + n ≤ 10000) → Making t s.printed.out s.printed.out a b c behind made m z → Lead t code dice 1 ps (done set (gives_number made into (registers_of m') looked) m') cost z
    made_leads None fits room k = led_fails t code dice 1 (omega arith) ps s.printed (more n m) m' (making_most t.program a b c m) cost z refl fits (k.fails room refl)
    made_leads (Some i) fits room k =
        let u = number_unified t.program c i m in
        let most = giving_most t.program a b c i m in
        let unit = a_unit t code dice ps m in
        let now = unifies_now ((into, leaf (Num i)) ∷ []) looked m' in
        subst (λ (next : Status). Lead t code dice 1 ps next cost z) (sym now)
        (unified_leads t code dice 1 (omega arith) ps s.printed u m' (Runs (bound u m')) cost z
        (λ few. agreed_leads t plays code dice ps s.printed behind u.agrees (bound u (more n m)) (bound u m') (bound u m') most cost z refl refl ops fits (k.unifies i room refl few))
        (λ over. finishes t code dice 1 (omega arith) ps s.printed ending.TrailLimit (most + closing_most) cost z (λ q. (cc)) (omega arith) (k.meets_trail i room refl over)))

    -- ---- a throw

    -- what is outside behind it
    abbrev behind_throw : Printed t ps (lasting_in (drew 1 looked) m').lasting
    behind_throw = record {
      out = record s.printed.out { drawn = next_drawn t.p.world s.printed.out.drawn };
      written = s.printed.written;
      meets = s.printed.meets;
      lasts = lasts_drawn t m.lasting s.printed.out s.printed.lasts;
    }

    thrown_leads : (made : Option ℕ) → making_paid t.program a b c made m ≤ cost → (room : m.state.heap + n ≤ 10000) → Making t s.printed.out (record s.printed.out { drawn = drawn_behind t.p s.printed.out.drawn made }) a b c behind made m z → Lead t code dice 1 ps (done set (throws made into (registers_of m') looked) m') cost z
    thrown_leads None fits room k = led_fails t code dice 1 (omega arith) ps s.printed (more n m) m' (making_most t.program a b c m) cost z refl fits (k.fails room refl)
    thrown_leads (Some i) fits room k =
        let u = number_unified t.program c i m in
        let most = giving_most t.program a b c i m in
        let unit = a_unit t code dice ps m in
        let m2 = lasting_in (drew 1 looked) m' in
        let now = unifies_now ((into, leaf (Num i)) ∷ []) (drew 1 looked) m' in
        subst (λ (next : Status). Lead t code dice 1 ps next cost z) (sym now)
        (unified_leads t code dice 1 (omega arith) ps s.printed u m2 (Runs (bound u m2)) cost z
        (λ few. agreed_leads t plays code dice ps behind_throw behind u.agrees (bound u (more n m)) (bound u m2) (bound u m2) most cost z refl refl ops fits (k.unifies i room refl few))
        (λ over. finishes t code dice 1 (omega arith) ps s.printed ending.TrailLimit (most + closing_most) cost z (λ q. (cc)) (omega arith) (k.meets_trail i room refl over)))

  pub arith_leads : (f : ArithOp) (a b c : Term) → OpLeads t code dice (op.Do (action.Arith f a b c))
  arith_leads f a b c ps m rest z e always s =
      let x = op.Do (action.Arith f a b c) in
      let ts = a ∷ b ∷ c ∷ [] in
      let n = cells t.program ts in
      let routine = arith_routine t.program f a b c in
      let o : Writes (λ y. OpsAt t code y rest) t s.at.x ts routine = at_op t code dice ps m rest z x e s in
      let k = arith_turns t plays s.printed.out f a b c o.goes.behind m z (in_front ps m z rest ts routine s o) in
      let made = made_of t.program (calculated f) a b m in
      let m' = more n (record m { ops = rest }) in
      let r = registers_of m' in
      let looks = looked_up r (term_value t.program m a) + looked_up r (term_value t.program m b) in
      let cost = paid set ps (Runs m) in
      let unit = a_unit t code dice ps m in
      silently t code dice ps m rest z x e _ cost (nothing_said made (term_value t.program m c) r looks m')
      (charged_leads t code dice 1 (omega arith) ps s.printed n (record m { ops = rest }) (done set (gives_number made (term_value t.program m c) r (worked looks (world_of [] m'))) m') cost z s.at.rep.mid.state.few
      (λ room. made_leads a b c ps m rest z s o.goes.behind o.goes.next made (operations_are_paid.arith set ps m f a b c rest e o.nodes) room k)
      (λ over. finishes t code dice 1 (omega arith) ps s.printed ending.HeapLimit (10 + closing_most) cost z (λ q. (cc)) (omega arith) (k.meets_heap over)))

  -- ## Dice

  nothing_thrown : (made : Option ℕ) (to : Value) (r : Registers) (n : ℕ) (m : Mid) → said_by (throws made to r (worked n (world_of [] m))) ≡ []
  nothing_thrown None to r n m = refl
  nothing_thrown (Some i) to r n m = refl

  -- The player's dice are the game's.
  module _ (same : t.p.world.dice ≡ dice) where
    word_is : (drawn n : ℕ) → drawn ≡ n % length t.p.world.dice → word_at t.p.world drawn ≡ die dice n
    word_is drawn n is = ap (slice_index t.p.world.dice) is ∙ ap (λ (l : List ℕ). slice_index l (n % length l)) same

    pub random_leads : (a b c : Term) → OpLeads t code dice (op.Do (action.Random a b c))
    random_leads a b c ps m rest z e always s =
        let x = op.Do (action.Random a b c) in
        let ts = a ∷ b ∷ c ∷ [] in
        let n = cells t.program ts in
        let routine = random_routine t.program a b c in
        let out = s.printed.out in
        let o : Writes (λ y. OpsAt t code y rest) t s.at.x ts routine = at_op t code dice ps m rest z x e s in
        let word = word_is out.drawn m.lasting.dice s.printed.lasts.drawn in
        let k = subst (λ (i : ℕ). Making t out (record out { drawn = drawn_behind t.p out.drawn (made_of t.program (thrown i) a b m) }) a b c o.goes.behind (made_of t.program (thrown i) a b m) m z) word
        (random_turns t plays out a b c o.goes.behind m z (in_front ps m z rest ts routine s o)) in
        let made = made_of t.program (thrown (die dice m.lasting.dice)) a b m in
        let m' = more n (record m { ops = rest }) in
        let r = registers_of m' in
        let looks = looked_up r (term_value t.program m a) + looked_up r (term_value t.program m b) in
        let cost = paid set ps (Runs m) in
        let unit = a_unit t code dice ps m in
        silently t code dice ps m rest z x e _ cost (nothing_thrown made (term_value t.program m c) r looks m')
        (charged_leads t code dice 1 (omega arith) ps s.printed n (record m { ops = rest }) (done set (throws made (term_value t.program m c) r (worked looks (world_of [] m'))) m') cost z s.at.rep.mid.state.few
        (λ room. thrown_leads a b c ps m rest z s o.goes.behind o.goes.next made (operations_are_paid.random set ps m a b c rest e o.nodes) room k)
        (λ over. finishes t code dice 1 (omega arith) ps s.printed ending.HeapLimit (10 + closing_most) cost z (λ q. (cc)) (omega arith) (k.meets_heap over)))
