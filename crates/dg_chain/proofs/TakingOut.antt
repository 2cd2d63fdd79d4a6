-- Gatherings that are taken out lead on.
use Rattle.std.proofs.Common.{◌≡◌, ℕ, ◌+◌, ◌-◌, ◌≤◌, Bool, true, false, List, [], ◌∷◌, length, Option, Some, None, refl, sym, ap, ◌∙◌, subst, arith}
use Rattle.std.specs.List.{sum_by}
use Rattle.dg_base.specs.declared.program.Term.{Term}
use Rattle.dg_base.specs.declared.run.Ending.TheVariants as ending
use Rattle.dg_meaning.specs.Copies.{list_of, copy_cells}
use Rattle.dg_meaning.specs.Letters.{copied}
use Rattle.dg_meaning.specs.Moves.{behind_copy, copy_of, gives_number, begun}
use Rattle.dg_meaning.specs.Numbers.{total}
use Rattle.dg_meaning.specs.Path.{Registers, Unifies as UnifiesNow}
use Rattle.dg_meaning.specs.Unify.{Equations, size, solve}
use Rattle.dg_meaning.specs.Values.{Num, Value, leaf}
use Rattle.dg_meaning.specs.World.{Print, World, Gathering}
use Rattle.dg_mid.specs.declared.code.Code.{Code}
use Rattle.dg_mid.specs.declared.code.Gathered.{Gathered}
use Rattle.dg_mid.specs.declared.code.Gathered.TheVariants as gathered
use Rattle.dg_mid.specs.declared.code.Op.{Op}
use Rattle.dg_mid.specs.declared.code.Op.TheVariants as op
use Rattle.dg_mid.specs.Actions.{registers_of, world_of, lasting_in}
use Rattle.dg_mid.specs.Code.{block_at}
use Rattle.dg_mid.specs.State.{Takes, Lasting, Mid, Status, Runs, Resumes}
use Rattle.dg_mid.specs.Step.{Setting, charged, bound, unified, if_agreed, passed, done, takes_newest, takes}
use Rattle.z_model.specs.Run.{ZState}
use Rattle.dg_rt.specs.Closings.{closing_most}
use Rattle.dg_rt.specs.Gatherings.{list_most}
use Rattle.dg_turn.specs.Told.{Telling}
use Rattle.dg_turn.specs.Plays.{Playing, Comes as ComesTo}
use Rattle.dg_turn.specs.Turns.{agreed_next}
use Rattle.dg_turn.specs.Gatherings.{TakesHere, with_copy, list_unified, taking_most, sum_unified, adding_most, summing_most}
use Rattle.dg_turn.proofs.ListTurn.{take_turns}
use Rattle.dg_turn.proofs.PaidGathering.{gatherings_are_paid}
use Rattle.dg_chain.specs.Always.{TakesFirst}
use Rattle.dg_chain.specs.Routines.{TakesGathering, OpsAt, BlocksAt}
use Rattle.dg_chain.specs.Stands.{Printed, TakesOut}
use Rattle.dg_chain.specs.Steps.{step_cost}
use Rattle.dg_chain.specs.Whole.{story_setting}
use Rattle.dg_chain.proofs.Points.{units_never_none}
use Rattle.dg_chain.proofs.Leading.{Lead, Alike, led_runs, led_fails, finishes, charged_leads, unified_leads}

module _ (t : Telling) (plays : Playing t) (code : Code) (blocks : BlocksAt t code) (dice : List ℕ) where
  abbrev set : Setting
  set = story_setting t code dice

  -- Where values agree it goes on, and else it fails.
  agreed_leads : (ps : List Print) {l : Lasting} (w : Printed t ps l) (behind : ℕ) (b : Bool) (m m' m2 : Mid) (most all : ℕ) (z : ZState) → Alike l m m' → Alike l m (record m2 { frames = m.frames; inner = m.inner }) → OpsAt t code (t.p.names.routine behind) m'.ops → most ≤ all → ComesTo t w.out (agreed_next t.p behind b) m most z →
      Lead t code dice 0 ps (if_agreed b m2 (Runs m')) all z
  agreed_leads ps w behind true m m' m2 most all z h f ops le k = led_runs t code dice 0 (omega arith) ps w (t.p.names.routine behind) m m' most all z h ops le k
  agreed_leads ps w behind false m m' m2 most all z h f ops le k = led_fails t code dice 0 (omega arith) ps w m m2 most all z f le k

  -- an equation takes so many cells, in a world in which something lasts, behind what it makes
  unifies_now : (v : Value) (es : Equations) (w : World) (m : Mid) → done set (UnifiesNow (behind_copy v (registers_of m)) es w) m ≡ charged set (copy_cells v) m (unified set (solve m.state.subst es) (with_copy v (lasting_in w m)) (Runs (bound (solve m.state.subst es) (with_copy v (lasting_in w m)))))
  unifies_now v es w m =
      let u = solve m.state.subst es in
      let c : m.state.heap + copy_cells v - m.state.heap ≡ copy_cells v = omega arith in
      let with_heap : ℕ → Mid = λ (h : ℕ). record (with_copy v (lasting_in w m)) { state = record (with_copy v m).state { heap = m.state.heap + h } } in
      ap (λ (h : ℕ). charged set h m (unified set u (with_heap h) (Runs (bound u (with_heap h))))) c

  -- a number takes none
  number_now : (es : Equations) (w : World) (m : Mid) → done set (UnifiesNow (registers_of m) es w) m ≡ unified set (solve m.state.subst es) (lasting_in w m) (Runs (bound (solve m.state.subst es) (lasting_in w m)))
  number_now es w m =
      let u = solve m.state.subst es in
      let none : m.state.heap - m.state.heap ≡ 0 = omega arith in
      let same_heap : m.state.heap + (m.state.heap - m.state.heap) ≡ m.state.heap = omega arith in
      let with_heap : ℕ → Mid = λ (h : ℕ). record (lasting_in w m) { state = record m.state { heap = h } } in
      ap (λ (h : ℕ). charged set (m.state.heap - m.state.heap) m (unified set u (with_heap h) (Runs (bound u (with_heap h))))) same_heap
      ∙ ap (λ (n : ℕ). charged set n m (unified set u (lasting_in w m) (Runs (bound u (lasting_in w m))))) none

  module _ (ps : List Print) (m : Mid) (w : Printed t ps m.lasting) (b : ℕ) (into : Value) (z : ZState) (h : TakesOut t w.out b into m z) where
    abbrev cost : ℕ
    cost = step_cost set ps (Resumes (Takes b into) m)

    unit_many : 800 ≤ cost
    unit_many = let u = units_never_none set ps (Resumes (Takes b into) m) (λ q. q) in omega arith

    module _ (whole : Gathered) (rest : List Op) (o : TakesGathering (λ y. OpsAt t code y rest) t (t.at_block b) whole) where
      here : TakesHere t w.out whole o.goes.behind into m z
      here = record { x = t.at_block b; rep = h.rep; there = o.goes.is; into_is = h.into_is; fewer = h.fewer }

    module _ (x : Gathering) (xs : List Gathering) (rest : List Op) (open_is : m.gathered ≡ x ∷ xs) where
      abbrev m1 : Mid
      m1 = passed (record m { ops = rest; gathered = xs })

      abbrev gone : Mid
      gone = record m { gathered = xs }

      abbrev r : Registers
      r = registers_of m1

      -- ## As a sum

      abbrev summing : World
      summing = begun r (length x.values) (world_of [] m1)

      sum_by_total : (term : Term) → block_at code b ≡ op.TakeOut gathered.Sum term ∷ rest → (o : TakesGathering (λ y. OpsAt t code y rest) t (t.at_block b) gathered.Sum) → (made : Option ℕ) → total x.values ≡ made → Lead t code dice 0 ps (done set (gives_number made into r summing) m1) cost z
      sum_by_total term e o None is =
          let k = take_turns.sum t plays w.out o.goes.behind into x xs m z open_is (here gathered.Sum rest o) in
          led_fails t code dice 0 (omega arith) ps w gone (lasting_in summing m1) (adding_most x.values) cost z refl (gatherings_are_paid.no_sum set ps m b into term rest x xs e open_is is) (k.fails is)
      sum_by_total term e o (Some n) is =
          let k = take_turns.sum t plays w.out o.goes.behind into x xs m z open_is (here gathered.Sum rest o) in
          let u = sum_unified into n m in
          let m2 = lasting_in summing m1 in
          let most = summing_most into x.values n m in
          let fits = gatherings_are_paid.sum set ps m b into term rest x xs n e open_is is in
          subst (λ (next : Status). Lead t code dice 0 ps next cost z) (sym (number_now ((into, leaf (Num n)) ∷ []) summing m1))
          (unified_leads t code dice 0 (omega arith) ps w u m2 (Runs (bound u m2)) cost z
          (λ few. agreed_leads ps w o.goes.behind u.agrees (bound u gone) (bound u m2) (bound u m2) most cost z refl refl o.goes.next fits (k.sums n is few))
          (λ over. finishes t code dice 0 (omega arith) ps w ending.TrailLimit (most + closing_most) cost z (λ q. (cc)) (omega arith) (k.meets_trail n is over)))

      -- ## As a list

      abbrev listing : World
      listing = begun r (sum_by (λ v. size v + copied v) x.values) (world_of [] m1)

      list_leads : (term : Term) → block_at code b ≡ op.TakeOut gathered.List term ∷ rest → (o : TakesGathering (λ y. OpsAt t code y rest) t (t.at_block b) gathered.List) → Lead t code dice 0 ps (done set (UnifiesNow (behind_copy (list_of x.values) r) ((into, copy_of (list_of x.values) r) ∷ []) listing) m1) cost z
      list_leads term e o =
          let k = take_turns.list t plays o.told w.out o.goes.behind into x xs m z open_is (here gathered.List rest o) in
          let v = list_of x.values in
          let u = list_unified into x.values m in
          let m2 = with_copy v (lasting_in listing m1) in
          let most = taking_most into x.values m in
          let fits = gatherings_are_paid.list set ps m b into term rest x xs e open_is in
          let few = h.rep.mid.state.few in
          subst (λ (next : Status). Lead t code dice 0 ps next cost z) (sym (unifies_now v ((into, copy_of v r) ∷ []) listing m1))
          (charged_leads t code dice 0 (omega arith) ps w (copy_cells v) m1 (unified set u m2 (Runs (bound u m2))) cost z few
          (λ room. unified_leads t code dice 0 (omega arith) ps w u m2 (Runs (bound u m2)) cost z
          (λ less. agreed_leads ps w o.goes.behind u.agrees (bound u (with_copy v gone)) (bound u m2) (bound u m2) most cost z refl refl o.goes.next fits (k.lists room less))
          (λ over. finishes t code dice 0 (omega arith) ps w ending.TrailLimit (most + closing_most) cost z (λ q. (cc)) (omega arith) (k.meets_trail room over)))
          (λ over. finishes t code dice 0 (omega arith) ps w ending.HeapLimit (list_most x.values + closing_most + 4) cost z (λ q. (cc)) (omega arith) (k.meets_heap over)))

    -- the newest gathering, as a whole
    newest_by : (whole : Gathered) (rest : List Op) (term : Term) → block_at code b ≡ op.TakeOut whole term ∷ rest → (o : TakesGathering (λ y. OpsAt t code y rest) t (t.at_block b) whole) → (gs : List Gathering) → m.gathered ≡ gs → Lead t code dice 0 ps (takes_newest set whole into gs (record m { ops = rest })) cost z
    newest_by whole rest term e o [] none =
        let u = unit_many in
        led_fails t code dice 0 (omega arith) ps w m (record m { ops = rest }) 40 cost z refl (omega arith) (take_turns.unopened t plays w.out whole o.goes.behind into m z none (here whole rest o))
    newest_by gathered.Sum rest term e o (x ∷ xs) open_is = sum_by_total x xs rest open_is term e o (total x.values) refl
    newest_by gathered.List rest term e o (x ∷ xs) open_is = list_leads x xs rest open_is term e o

    takes_by : TakesFirst (block_at code b) → Lead t code dice 0 ps (takes set into (block_at code b) m) cost z
    takes_by k =
        let o : TakesGathering (λ y. OpsAt t code y k.rest) t (t.at_block b) k.whole = subst (OpsAt t code (t.at_block b)) k.is (blocks.each b) in
        subst (λ (l : List Op). Lead t code dice 0 ps (takes set into l m) cost z) (sym k.is) (newest_by k.whole k.rest k.into k.is o m.gathered refl)

  pub takes_lead : (ps : List Print) (m : Mid) (w : Printed t ps m.lasting) (b : ℕ) (into : Value) (z : ZState) → TakesFirst (block_at code b) → TakesOut t w.out b into m z → Lead t code dice 0 ps (takes set into (block_at code b) m) (step_cost set ps (Resumes (Takes b into) m)) z
  takes_lead ps m w b into z first h = takes_by ps m w b into z h first
