-- Goals one after another.
use Rattle.std.proofs.Common.{◌≡◌, ℕ, suc, ◌+◌, ◌-◌, ◌≤◌, List, ◌∷◌, ◌++◌, append_assoc, true, false, inl, inr, refl, sym, ap, ◌∙◌, subst, arith}
use Rattle.std.specs.Borrow.{Bor}
use Rattle.dg_base.specs.declared.run.Limits.{Limits}
use Rattle.dg_base.specs.declared.run.Ending.{Ending}
use Rattle.dg_base.specs.declared.run.Ending.TheVariants.{StepLimit}
use Rattle.dg_base.specs.declared.run.Fault.{Fault}
use Rattle.dg_base.specs.declared.run.Fault.TheVariants.{Read, Write}
use Rattle.dg_base.specs.Streams.{SourceView}
use Rattle.dg_base.specs.Written.{SinkView}
use Rattle.dg_base.proofs.CausesLemmas.{rose_earlier}
use Rattle.dg_meaning.proofs.Engines.{some_left}
use Rattle.dg_meaning.specs.World.{Game}
use Rattle.dg_mid.specs.declared.code.Op.{Op}
use Rattle.dg_mid.specs.declared.code.Op.TheVariants as op
use Rattle.dg_mid.specs.declared.code.Action.TheVariants as action
use Rattle.dg_mid.specs.declared.code.Code.{Code}
use Rattle.dg_mid.specs.Heights.{StatusOrdered}
use Rattle.dg_mid.specs.State.{Mid, Status, Runs as RunsOf, Ended as EndedOf}
use Rattle.dg_mid.specs.Step.{Setting, setting, step, runs, takes_goal, at_goal}
use Rattle.dg_mid.specs.Left.{left_behind}
use Rattle.dg_mid.specs.Runs.{after, left_after}
use Rattle.dg_mid.proofs.Heights.{all_ordered}
use Rattle.dg_spacing.specs.declared.spacer.Spacer.{Spacer}
use Rattle.dg_machine.specs.declared.now.Now.{Now}
use Rattle.dg_machine.specs.declared.now.Now.TheVariants.{Runs, Enters, Resumes, Leaves, Misses, Fails, Ended}
use Rattle.dg_machine.specs.declared.memory.Memory.{Memory}
use Rattle.dg_machine.specs.Built.{OpsBuilt, IsBuilt, IsQuietOp}
use Rattle.dg_machine.specs.Layout.{HasRoom, Holds, Roomy}
use Rattle.dg_machine.specs.Standing.{Stands, HasLasting, DoesOp}
use Rattle.dg_lasting.specs.declared.lasting.Lasting.{Lasting}
use Rattle.dg_machine.specs.declared.tables.Tables.{Tables}
use Rattle.dg_machine.specs.Tables.{IsOf}
use Rattle.dg_machine.specs.inside.Running.{rests, IsQuick, HasText, DoesMarks, ReadsGoal, Settles, Takes, IsAt, IsLost, IsUnread, IsSomewhere, IsSomewhereWith, IsSomewhereLeft, IsSomewhereAt, IsSomewhereStill, HasEnded, Finishes, IsLostWithin, IsUnreadWithin, BreaksGoal, BreaksTurn, BreaksRun}
use Rattle.dg_machine.specs.inside.Reading.{IsEnd, LeftBehind, ReadsNone}
use Rattle.dg_machine.proofs.Opens.{roomy}
use Rattle.dg_machine.proofs.Goals.{quiet_done}
use Rattle.dg_machine.proofs.Lasting.{quiet_draws, run_lasting}
use Rattle.dg_machine.proofs.Readings.{gave_nothing, gave_on, goes_unread, none_first, some_behind, left_still}
use Rattle.dg_machine.proofs.Runs.{goal_at, one_mark, typed_at, took_goal, lost_goal, unread_goal}

-- memory has room where the machine is at a goal of some run
pub room_at : (tb : Tables) (code : Code) (r : Memory) (ops : Bor (List Op)) → IsSomewhere tb code r (Runs ops) → HasRoom r
room_at tb code r ops s = (goal_at code s.game s.limits s.typed r ops (after (setting s.game code s.limits) s.typed s.steps).now s.stands).held.0.room

-- and its code is built
pub built_at : (tb : Tables) (code : Code) (r : Memory) (ops : Bor (List Op)) → IsSomewhere tb code r (Runs ops) → OpsBuilt ops.now
built_at tb code r ops s = (goal_at code s.game s.limits s.typed r ops (after (setting s.game code s.limits) s.typed s.steps).now s.stands).code_is.1

-- and it stands for some machine
pub held_at : (tb : Tables) (code : Code) (r : Memory) (ops : Bor (List Op)) → IsSomewhere tb code r (Runs ops) → (l : Limits) × (m : Mid) × Holds code l r m
held_at tb code r ops s = let at = goal_at code s.game s.limits s.typed r ops (after (setting s.game code s.limits) s.typed s.steps).now s.stands in (s.limits, at.mid, at.held)

-- a quick step enters a rule, or code is at hand
pub not_quick : (now : Now) → IsQuick now → ((ops : Bor (List Op)) → now ≡ Enters ops → ⊥) → ((ops : Bor (List Op)) → now ≡ Runs ops → ⊥) → ⊥
not_quick (Runs ops) quick e r = r ops refl
not_quick (Enters ops) quick e r = e ops refl
not_quick now quick e r = quick

quiet_unread : (x : Op) → IsQuietOp x → ReadsNone x
quiet_unread (op.Do (action.Input t)) quiet = quiet
quiet_unread x quiet = tt

-- an instruction that prints nothing, and leaves what lasts, reads nothing
pub quiet_reads : (tb : Tables) (code : Code) (old new : Memory) (out : Lasting) (all : List Op) (x : Op) (rest : List Op) (next : Now) (s : Spacer) (k : SinkView) (i : SourceView) → all ≡ x ∷ rest → IsQuietOp x → DoesOp tb code old x rest new next → ReadsGoal tb code old out all new out next s s k k i i
quiet_reads tb code old new out all x rest next s k i split quiet does =
    goes_unread tb code old out all new out next s s k k i (none_first all x rest split (quiet_unread x quiet))
    (λ g is_of l m o e at h w. quiet_done tb code g is_of l m old new next all x rest split at h s k out o w quiet does)

-- and the machine is somewhere behind it
pub quiet_somewhere : (tb : Tables) (code : Code) (old new : Memory) (out : Lasting) (ops : Bor (List Op)) (x : Op) (rest : List Op) (next : Now) → ops.now ≡ x ∷ rest → IsQuietOp x → DoesOp tb code old x rest new next → IsSomewhereWith tb code old out (Runs ops) → IsSomewhereWith tb code new out next
quiet_somewhere tb code old new out ops x rest next split quiet does found =
    let h = found.somewhere in
    let set = setting h.game code h.limits in
    let at = goal_at code h.game h.limits h.typed old ops (after set h.typed h.steps).now h.stands in
    let m = at.mid in
    let ordered : StatusOrdered (RunsOf m) = subst StatusOrdered at.is (all_ordered set h.typed h.steps) in
    let w : HasLasting out h.game h.limits (RunsOf m) = subst (HasLasting out h.game h.limits) at.is found.lasting in
    let first : m.ops ≡ x ∷ rest = at.code_is.0 ∙ split in
    let built : OpsBuilt (x ∷ rest) = subst OpsBuilt split at.code_is.1 in
    let stands = does h.game h.tabled h.limits (record m { ops = rest }) ordered built.0 (refl, built.1) at.held in
    let lasting = run_lasting out h.game h.limits code x (record m { ops = rest }) built.0 (quiet_draws x quiet) w in
    record {
      somewhere = record { game = h.game; tabled = h.tabled; limits = h.limits; typed = h.typed; steps = suc h.steps; stands = subst (λ y. Stands code h.limits new next (step set y)) (sym at.is) (subst (λ xs. Stands code h.limits new next (runs set xs m)) (sym first) stands) };
      lasting = subst (λ y. HasLasting out h.game h.limits (step set y)) (sym at.is) (subst (λ xs. HasLasting out h.game h.limits (runs set xs m)) (sym first) lasting);
    }

-- behind a goal it is somewhere still
pub somewhere_behind : (tb : Tables) (code : Code) (old new : Memory) (out out' : Lasting) (ops : Bor (List Op)) (next : Now) (s s' : Spacer) (k k' : SinkView) (i i' : SourceView) (rest : List ℕ) → at_goal ops.now ≡ true → (does : ReadsGoal tb code old out ops.now new out' next s s' k k' i i') → LeftBehind does.gave.ended i' rest →
    IsSomewhereAt tb code old out (Runs ops) i → IsSomewhereLeft tb code new out' next rest
somewhere_behind tb code old new out out' ops next s s' k k' i i' rest e does left before =
    let here = before (does.gave.taken ++ rest) (does.gave.left rest left) in
    let found = here.found in
    let h = found.somewhere in
    let set = setting h.game code h.limits in
    let at = goal_at code h.game h.limits h.typed old ops (after set h.typed h.steps).now h.stands in
    let ordered : StatusOrdered (RunsOf at.mid) = subst StatusOrdered at.is (all_ordered set h.typed h.steps) in
    let bytes = typed_at code h.game h.limits h.typed h.steps at.mid at.is in
    let both = does.does rest left h.game h.tabled h.limits at.mid ordered e at.code_is at.held (subst (HasLasting out h.game h.limits) at.is found.lasting) (bytes ∙ here.left_is) in
    let done = both.0 in
    record {
      found = record {
        somewhere = record { game = h.game; tabled = h.tabled; limits = h.limits; typed = h.typed; steps = suc h.steps; stands = subst (λ x. Stands code h.limits new next (step set x)) (sym at.is) done.stands };
        lasting = subst (λ x. HasLasting out' h.game h.limits (step set x)) (sym at.is) done.lasting;
      };
      left_is = ap (λ x. left_behind set x (left_after set h.typed h.steps)) at.is ∙ ap (left_behind set (RunsOf at.mid)) (sym bytes) ∙ both.1;
    }

-- some machine is there
pub somewhere_first : (tb : Tables) (code : Code) (r : Memory) (out : Lasting) (now : Now) (i : SourceView) → IsSomewhereAt tb code r out now i → IsSomewhereWith tb code r out now
somewhere_first tb code r out now i h = let rest = some_left i.left in (h rest.0 rest.1).found

-- and behind a step that takes none
pub somewhere_marked : (tb : Tables) (code : Code) → IsBuilt code → (r new : Memory) (out out' : Lasting) (now next : Now) → rests now ≡ false → DoesMarks tb code r out now new out' next → IsSomewhereWith tb code r out now → IsSomewhereWith tb code new out' next
somewhere_marked tb code built r new out out' now next e does found =
    let h = found.somewhere in
    let done = one_mark code h.game h.limits h.typed built tb h.tabled r new out out' now next h.steps e does h.stands found.lasting in
    record { somewhere = record { game = h.game; tabled = h.tabled; limits = h.limits; typed = h.typed; steps = suc h.steps; stands = done.stands }; lasting = done.lasting }

-- and behind steps that take no goal
pub somewhere_settled : (tb : Tables) (code : Code) (old new : Memory) (out out' : Lasting) (before now : Now) → Settles tb code old out before new out' now → IsSomewhereWith tb code old out before → IsSomewhereWith tb code new out' now
somewhere_settled tb code old new out out' before now settles found =
    let h = found.somewhere in
    let x = settles h.game h.tabled h.limits h.typed h.steps h.stands found.lasting in
    record { somewhere = record { game = h.game; tabled = h.tabled; limits = h.limits; typed = h.typed; steps = x.further; stands = x.stands }; lasting = x.lasting }

-- and where bytes are left
pub left_settled : (tb : Tables) (code : Code) (old new : Memory) (out out' : Lasting) (before now : Now) (rest : List ℕ) → Settles tb code old out before new out' now → IsSomewhereLeft tb code old out before rest → IsSomewhereLeft tb code new out' now rest
unfolding somewhere_settled
left_settled tb code old new out out' before now rest settles h =
    let x = h.found.somewhere in
    record { found = somewhere_settled tb code old new out out' before now settles h.found; left_is = (settles x.game x.tabled x.limits x.typed x.steps x.stands h.found.lasting).left ∙ h.left_is }

module _ (code : Code) (g : Game) (l : Limits) (typed : List ℕ) where
  abbrev set : Setting
  set = setting g code l

  pub settled_at : (tb : Tables) → IsOf g.program tb → (old new : Memory) (out out' : Lasting) (before now : Now) (goals : ℕ) (s : Spacer) (start k : SinkView) (left : List ℕ) → Settles tb code old out before new out' now → IsAt code g l typed old out before goals s start k left → IsAt code g l typed new out' now goals s start k left
  settled_at tb is_of old new out out' before now goals s start k left settles h =
      let x = settles g is_of l typed h.steps h.stands h.lasting in
      record { steps = x.further; stands = x.stands; lasting = x.lasting; goals_is = x.goals ∙ h.goals_is; text = subst (HasText s start k) (sym x.prints) h.text; left_is = x.left ∙ h.left_is }

  -- the run has ended
  ended_in : (r : Memory) (e : Ending) (goals left : ℕ) (s : Spacer) (start k : SinkView) (rest : List ℕ) (steps : ℕ) (x : Status) → (after set typed steps).now ≡ x → (after set typed steps).goals ≡ goals → HasText s start k (after set typed steps).prints → left_after set typed steps ≡ rest → Stands code l r (Ended e) x →
      HasEnded code g l typed goals e left r s start k rest
  ended_in r e goals left s start k rest steps (EndedOf e') is goals_is text left_is h = record { steps = steps; ends = inl (is ∙ ap EndedOf h.0); goals_is = goals_is; text = text; left_is = left_is; roomy = h.1 }
  ended_in r e goals left s start k rest steps x is goals_is text left_is h = absurd h

  -- no budget is left at a goal
  limited_at : (r : Memory) (out : Lasting) (now : Now) (goals left : ℕ) (s : Spacer) (start k : SinkView) (rest : List ℕ) → rests now ≡ true → ((e : Ending) → now ≡ Ended e → ⊥) → left ≡ 0 → IsAt code g l typed r out now goals s start k rest → HasEnded code g l typed goals StepLimit left r s start k rest
  limited_at r out (Runs ops) goals left s start k rest e other none h =
      let at = goal_at code g l typed r ops (after set typed h.steps).now h.stands in
      record { steps = h.steps; ends = inr (refl, none, ap takes_goal at.is ∙ ap at_goal at.code_is.0 ∙ e); goals_is = h.goals_is; text = h.text; left_is = h.left_is; roomy = roomy code l at.mid r at.held }
  limited_at r out (Ended x) goals left s start k rest e other none h = absurd (other x refl)
  limited_at r out (Enters ops) goals left s start k rest e other none h = absurd (cc)
  limited_at r out Resumes goals left s start k rest e other none h = absurd (cc)
  limited_at r out (Leaves height ops) goals left s start k rest e other none h = absurd (cc)
  limited_at r out Misses goals left s start k rest e other none h = absurd (cc)
  limited_at r out Fails goals left s start k rest e other none h = absurd (cc)

  no_more : (r : Memory) (out : Lasting) (now : Now) (n : ℕ) (s : Spacer) (start k : SinkView) (rest : List ℕ) → IsAt code g l typed r out now (n + 0) s start k rest → IsAt code g l typed r out now n s start k rest
  no_more r out now n s start k rest h = let none : n + 0 ≡ n = omega arith in subst (λ m. IsAt code g l typed r out now m s start k rest) none h

  -- the same of a machine that is told to be so
  finished : (r : Memory) (out : Lasting) (now : Now) (e : Ending) (n left : ℕ) (s : Spacer) (start k : SinkView) (rest : List ℕ) → now ≡ Ended e → IsAt code g l typed r out now (n + 0) s start k rest → HasEnded code g l typed n e left r s start k rest
  finished r out now e n left s start k rest is h =
      let at = subst (λ x. IsAt code g l typed r out x n s start k rest) is (no_more r out now n s start k rest h) in
      ended_in r e n left s start k rest at.steps (after set typed at.steps).now refl at.goals_is at.text at.left_is at.stands

  -- the output was lost at the next goal, within the budget
  lost : (r new : Memory) (out : Lasting) (now : Now) (ops : Bor (List Op)) (n budget : ℕ) (s : Spacer) (start k k' : SinkView) (left rest : List ℕ) → ((l : Limits) (m : Mid) → Holds code l r m → Roomy l new) → now ≡ Runs ops → suc n ≤ budget → (IsAt code g l typed r out (Runs ops) n s start k left → IsLost code g l typed n start k' rest) → IsAt code g l typed r out now (n + 0) s start k left →
      IsLostWithin code g l typed budget new start k' rest
  lost r new out now ops n budget s start k k' left rest room is le loses h =
      let here = subst (λ x. IsAt code g l typed r out x n s start k left) is (no_more r out now n s start k left h) in
      let at = goal_at code g l typed r ops (after set typed here.steps).now here.stands in
      record { goals = n; within = omega (arith, le); lost = loses here; roomy = room l at.mid at.held }

  -- or the input
  not_read : (r new : Memory) (out : Lasting) (now : Now) (ops : Bor (List Op)) (n budget : ℕ) (s s' : Spacer) (start k k' : SinkView) (left : List ℕ) → ((l : Limits) (m : Mid) → Holds code l r m → Roomy l new) → now ≡ Runs ops → suc n ≤ budget → (IsAt code g l typed r out (Runs ops) n s start k left → IsUnread code g l typed n s' start k' left) → IsAt code g l typed r out now (n + 0) s start k left →
      IsUnreadWithin code g l typed budget new s' start k' left
  not_read r new out now ops n budget s s' start k k' left room is le fails h =
      let here = subst (λ x. IsAt code g l typed r out x n s start k left) is (no_more r out now n s start k left h) in
      let at = goal_at code g l typed r ops (after set typed here.steps).now here.stands in
      record { goals = n; within = omega (arith, le); unread = fails here; roomy = room l at.mid at.held }

-- ## One goal

module _ (tb : Tables) (code : Code) (old mid new : Memory) (out out' behind : Lasting) (ops : Bor (List Op)) (next now : Now) (s s' : Spacer) (k k' : SinkView) (i i' : SourceView) (e : at_goal ops.now ≡ true) (does : ReadsGoal tb code old out ops.now mid out' next s s' k k' i i') (settles : Settles tb code mid out' next new behind now) (stays : IsEnd next → IsEnd now) where
  pub turn_takes : Takes tb code 1 old out (Runs ops) s k i new behind now s' k' i'
  turn_takes = record {
    gave = record { taken = does.gave.taken; ended = does.gave.ended; over = λ x. stays (does.gave.over x); left = does.gave.left; told = does.gave.told; later = does.gave.later };
    takes = λ rest h g is_of l typed goals start at. took_goal code g l typed tb is_of old mid new out out' behind ops next now s s' k k' i i' goals start rest e does settles h at;
  }

  pub turn_still : IsSomewhereAt tb code old out (Runs ops) i → IsSomewhereStill tb code new behind now i'
  turn_still before goes rest h =
      let left = left_still does.gave.ended i' rest (λ x. goes (stays (does.gave.over x))) h in
      left_settled tb code mid new out' behind next now rest settles (somewhere_behind tb code old mid out out' ops next s s' k k' i i' rest e does left before)

-- or a fault
pub turn_breaks : (fault : Fault) (tb : Tables) (code : Code) (old : Memory) (out : Lasting) (ops : Bor (List Op)) (s s' : Spacer) (k k' : SinkView) (i i' : SourceView) → at_goal ops.now ≡ true → BreaksGoal fault tb code old ops.now s s' k k' i i' → BreaksTurn fault tb code old out (Runs ops) s k i s' k' i'
turn_breaks Read tb code old out ops s s' k k' i i' e loses = record {
  failed = loses.failed;
  unread = λ g is_of l typed goals start left at. unread_goal code g l typed tb is_of old out ops s s' k k' i i' goals start left loses at;
}
turn_breaks Write tb code old out ops s s' k k' i i' e loses = record {
  taken = loses.taken;
  left = loses.left;
  later = loses.later;
  loses = λ rest h g is_of l typed goals start at. lost_goal code g l typed tb is_of old out ops s k k' i i' goals start rest e loses h at;
}

-- ## From a start

module _ (tb : Tables) (code : Code) (old : Memory) (out : Lasting) (before : Now) (s : Spacer) (k : SinkView) (i : SourceView) where
  -- the first steps take no goal
  pub takes_none : (n : ℕ) (new : Memory) (out' : Lasting) (now : Now) → ((x : ℕ) → n + x ≡ x) → Settles tb code old out before new out' now → Takes tb code n old out before s k i new out' now s k i
  unfolding gave_nothing
  takes_none n new out' now none settles = record {
    gave = gave_nothing i now;
    takes = λ rest h g is_of l typed goals start at. subst (λ x. IsAt code g l typed new out' now x s start k rest) (sym (none goals)) (settled_at code g l typed tb is_of old new out out' before now goals s start k rest settles at);
  }

  -- so many goals more
  pub takes_on : (n m n' : ℕ) (mid new : Memory) (out1 out2 : Lasting) (now next : Now) (ops : Bor (List Op)) (s1 s2 : Spacer) (k1 k2 : SinkView) (i1 i2 : SourceView) → now ≡ Runs ops → ((x : ℕ) → m + (n + x) ≡ n' + x) → Takes tb code n old out before s k i mid out1 now s1 k1 i1 → Takes tb code m mid out1 (Runs ops) s1 k1 i1 new out2 next s2 k2 i2 →
      Takes tb code n' old out before s k i new out2 next s2 k2 i2
  unfolding gave_on
  takes_on n m n' mid new out1 out2 now next ops s1 s2 k1 k2 i1 i2 is one first second =
      let goes : IsEnd now → ⊥ = λ end. subst IsEnd is end in
      record {
        gave = gave_on i i1 i2 now next goes first.gave second.gave;
        takes = λ rest h g is_of l typed goals start at.
            let bytes = second.gave.taken ++ rest in
            let left = left_still first.gave.ended i1 bytes (λ e. goes (first.gave.over e)) (second.gave.left rest h) in
            let start_at = subst (λ x. IsAt code g l typed old out before goals s start k x) (append_assoc first.gave.taken second.gave.taken rest) at in
            let mid_at = subst (λ x. IsAt code g l typed mid out1 x (n + goals) s1 start k1 bytes) is (first.takes bytes left g is_of l typed goals start start_at) in
            subst (λ x. IsAt code g l typed new out2 next x s2 start k2 rest) (one goals) (second.takes rest h g is_of l typed (n + goals) start mid_at);
      }

  module _ (n : ℕ) (mid : Memory) (out1 : Lasting) (now : Now) (s1 : Spacer) (k1 : SinkView) (i1 : SourceView) (took : Takes tb code n old out before s k i mid out1 now s1 k1 i1) where
    -- the run has ended there
    pub finishes : (budget left : ℕ) (e : Ending) → now ≡ Ended e → n ≡ budget - left → left ≤ budget → Finishes tb code old out before budget s k i e left mid s1 k1 i1
    finishes budget left e is same le =
        let rest = some_behind took.gave.ended i1 in
        record {
          typed = took.gave.taken ++ rest.0;
          is_typed = took.gave.left rest.0 rest.1;
          rest = rest.0;
          is_rest = took.gave.told rest.0 rest.1;
          later = took.gave.later;
          within = le;
          ends = λ g is_of l typed start at. subst (λ x. HasEnded code g l typed x e left mid s1 start k1 rest.0) same (finished code g l typed mid out1 now e n left s1 start k1 rest.0 is (took.takes rest.0 rest.1 g is_of l typed 0 start at));
        }

    -- or its budget
    pub limits : (budget left : ℕ) → rests now ≡ true → ((e : Ending) → now ≡ Ended e → ⊥) → left ≡ 0 → n ≡ budget - left → left ≤ budget → Finishes tb code old out before budget s k i StepLimit left mid s1 k1 i1
    limits budget left e other none same le =
        let rest = some_behind took.gave.ended i1 in
        record {
          typed = took.gave.taken ++ rest.0;
          is_typed = took.gave.left rest.0 rest.1;
          rest = rest.0;
          is_rest = took.gave.told rest.0 rest.1;
          later = took.gave.later;
          within = le;
          ends = λ g is_of l typed start at. subst (λ x. HasEnded code g l typed x StepLimit left mid s1 start k1 rest.0) same (limited_at code g l typed mid out1 now n left s1 start k1 rest.0 e other none (no_more code g l typed mid out1 now n s1 start k1 rest.0 (took.takes rest.0 rest.1 g is_of l typed 0 start at)));
        }

    -- or it met a fault at the next goal
    pub breaks : (fault : Fault) (budget : ℕ) (new : Memory) (ops : Bor (List Op)) (s2 : Spacer) (k2 : SinkView) (i2 : SourceView) → now ≡ Runs ops → suc n ≤ budget → ((l : Limits) (m : Mid) → Holds code l mid m → Roomy l new) → BreaksTurn fault tb code mid out1 (Runs ops) s1 k1 i1 s2 k2 i2 → BreaksRun fault tb code old out before budget s k i new s2 k2 i2
    breaks Read budget new ops s2 k2 i2 is le room fails =
        let rest = some_left i2.left in
        let f = fails.failed in
        let bytes = f.taken ++ rest.0 in
        let left = left_still took.gave.ended i1 bytes (λ e. subst IsEnd is (took.gave.over e)) (f.left rest.0 rest.1) in
        record {
          typed = took.gave.taken ++ bytes;
          is_typed = took.gave.left bytes left;
          taken = f.taken;
          rest = rest.0;
          is_rest = rest.1;
          short = f.short rest.0 rest.1;
          later = let x = took.gave.later in let y = f.later in omega (arith, x, y);
          rose = rose_earlier i.faults i1.faults i2.faults took.gave.later f.rose;
          fails = λ g is_of l typed start at. not_read code g l typed mid new out1 now ops n budget s1 s2 start k1 k2 bytes room is le (fails.unread g is_of l typed n start bytes) (took.takes bytes left g is_of l typed 0 start at);
        }
    breaks Write budget new ops s2 k2 i2 is le room fails =
        let rest = some_left i2.left in
        let bytes = fails.taken ++ rest.0 in
        let left = left_still took.gave.ended i1 bytes (λ e. subst IsEnd is (took.gave.over e)) (fails.left rest.0 rest.1) in
        record {
          typed = took.gave.taken ++ bytes;
          is_typed = took.gave.left bytes left;
          rest = rest.0;
          is_rest = rest.1;
          later = let x = took.gave.later in let y = fails.later in omega (arith, x, y);
          loses = λ g is_of l typed start at. lost code g l typed mid new out1 now ops n budget s1 start k1 k2 bytes rest.0 room is le (fails.loses rest.0 rest.1 g is_of l typed n start) (took.takes bytes left g is_of l typed 0 start at);
        }

pub end_rests : (now : Now) → IsEnd now → rests now ≡ true
end_rests (Ended e) h = refl
end_rests now h = absurd h

pub rests_else : (now : Now) → rests now ≡ true → ((ops : Bor (List Op)) → now ≡ Runs ops → ⊥) → ((e : Ending) → now ≡ Ended e → ⊥) → ⊥
rests_else (Runs ops) e r x = r ops refl
rests_else (Ended y) e r x = x y refl
rests_else (Enters ops) e r x = absurd (cc)
rests_else Resumes e r x = absurd (cc)
rests_else (Leaves height ops) e r x = absurd (cc)
rests_else Misses e r x = absurd (cc)
rests_else Fails e r x = absurd (cc)
