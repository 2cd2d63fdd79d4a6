-- Whole runs of a machine.
use Rattle.std.proofs.Common.{◌≡◌, ℕ, suc, ◌+◌, ◌<◌, ◌≤◌, ◌-◌, List, ◌++◌, length, Option, Some, None, true, false, refl, sym, ap, ◌∙◌, subst, arith, inl, inr}
use Rattle.dg_base.specs.declared.run.Limits.{Limits}
use Rattle.dg_base.specs.declared.run.Ending.{Ending}
use Rattle.dg_base.specs.declared.run.Ending.TheVariants.{StepLimit}
use Rattle.dg_base.specs.declared.run.Outcome.{Outcome}
use Rattle.dg_base.specs.Streams.{SourceView}
use Rattle.dg_base.specs.Written.{SinkView, Wrote, BrokeOff}
use Rattle.dg_base.proofs.WrittenLemmas.{wrote_on, broke_first, broke_later}
use Rattle.dg_meaning.specs.World.{Game, World, Print, prints}
use Rattle.dg_meaning.specs.Render.{render, render_from, nothing_met, met_from}
use Rattle.dg_texts.proofs.Texts.{render_append}
use Rattle.dg_meaning.specs.Words.{behind_first}
use Rattle.std.specs.Prelude.{if◌then◌else◌, ◌⊎◌}
use Rattle.dg_meaning.specs.Transcript.{Run, run, text_of, line_of, input_fault_line, ending_line, closed_text}
use Rattle.dg_meaning.specs.Shows.{IsLeft, MayBegin, Shows, ShowsInputFault, HasGiven}
use Rattle.dg_meaning.specs.inside.OneRun.{Grows}
use Rattle.dg_base.specs.Begins.{EndsWith}
use Rattle.dg_meaning.proofs.Keeps.{stands_happened}
use Rattle.dg_meaning.proofs.Dropping.{prints_append}
use Rattle.std.specs.Borrow.{Bor}
use Rattle.dg_mid.specs.declared.code.Op.{Op}
use Rattle.dg_mid.specs.declared.code.Code.{Code}
use Rattle.dg_mid.specs.Heights.{StatusOrdered}
use Rattle.dg_mid.specs.State.{Mid, Status, Runs as RunsOf, Enters as EntersOf, Resumes as ResumesOf, Fails as FailsOf}
use Rattle.dg_mid.specs.Step.{Setting, setting, step, said, followed, takes_goal, at_goal}
use Rattle.dg_mid.specs.Codes.{Codes}
use Rattle.dg_mid.specs.Units.{one_if}
use Rattle.dg_mid.specs.Potential.{IsOver}
use Rattle.dg_mid.specs.Reads.{At, RunsAt}
use Rattle.dg_mid.specs.Left.{reads, left_behind}
use Rattle.dg_mid.specs.Runs.{after, left_after}
use Rattle.dg_mid.proofs.Whole.{is_at}
use Rattle.dg_mid.proofs.Shown.{shows_all, shows_faults, until_left}
use Rattle.dg_mid.proofs.Lasting.{Leads}
use Rattle.dg_mid.proofs.Typed.{typed_stays, left_at, stops_there}
use Rattle.dg_mid.proofs.Heights.{all_ordered}
use Rattle.dg_spacing.specs.declared.spacer.Spacer.{Spacer}
use Rattle.dg_spacing.specs.Spacer.{StandsFor}
use Rattle.dg_machine.specs.declared.now.Now.{Now}
use Rattle.dg_machine.specs.declared.now.Now.TheVariants.{Runs, Enters, Resumes, Leaves, Misses, Fails, Ended}
use Rattle.dg_machine.specs.declared.memory.Memory.{Memory}
use Rattle.dg_machine.specs.Layout.{Holds}
use Rattle.dg_machine.specs.Measure.{left_of}
use Rattle.dg_machine.specs.Standing.{CodeIs, Stands, HasLasting}
use Rattle.dg_lasting.specs.declared.lasting.Lasting.{Lasting}
use Rattle.dg_mid.proofs.Seeks.{all_seek}
use Rattle.dg_machine.specs.Built.{IsBuilt}
use Rattle.dg_machine.specs.declared.tables.Tables.{Tables}
use Rattle.dg_machine.specs.Tables.{IsOf}
use Rattle.dg_machine.specs.inside.Running.{rests, MarkDone, DoesMarks, ReadsGoal, LosesText, LosesLine, BreaksAt, HasText, HasSettled, Settles, IsAt, IsLost, IsUnread, EndsSo, HasEnded, IsLostWithin, IsUnreadWithin}
use Rattle.dg_machine.specs.inside.Reading.{LeftBehind}
use Rattle.dg_machine.proofs.Readings.{mark_leaves}
use Rattle.dg_meaning.specs.Engines.{left_told, HasShown, HasLostInput}
use Rattle.dg_machine.specs.Program.{HasLostText, up_to_goal, to_the_end, up_to_fault}
use Rattle.dg_base.specs.Causes.{Rose}

-- what was printed up to here is the beginning of the whole text
prints_begin : (w : World) (x : Run) (ps : List Print) → Grows w x.world → prints w.events ≡ ps → (text : List ℕ) × (text_of x.world.events ≡ render ps ++ text)
prints_begin w x ps grows is =
    let b = grows.events in
    (render_from (met_from nothing_met (prints w.events)) (prints b.behind), ap text_of b.is ∙ ap render (prints_append w.events b.behind) ∙ render_append (prints w.events) (prints b.behind) ∙ ap (λ l. render l ++ render_from (met_from nothing_met (prints w.events)) (prints b.behind)) is)

-- ## Steps that take no goal

-- where the machine needs a step before its next goal, that takes none, and the run isn't over
pub record IsMark (s : Status) : Type 0 where
  pub no_goal : takes_goal s ≡ false
  pub goes_on : IsOver s → ⊥

pub at_mark : (code : Code) (l : Limits) (r : Memory) (now : Now) (s : Status) → rests now ≡ false → Stands code l r now s → IsMark s
at_mark code l r (Runs ops) (RunsOf m) e h = record { no_goal = ap at_goal h.0.0 ∙ e; goes_on = λ o. o }
at_mark code l r (Enters ops) (EntersOf c m) e h = record { no_goal = refl; goes_on = λ o. o }
at_mark code l r Resumes (ResumesOf on m) e h = record { no_goal = refl; goes_on = λ o. o }
at_mark code l r (Leaves height ops) (RunsOf m) e h = record { no_goal = ap at_goal h.0.0; goes_on = λ o. o }
at_mark code l r Misses (FailsOf m) e h = record { no_goal = refl; goes_on = λ o. o }
at_mark code l r Fails (FailsOf m) e h = record { no_goal = refl; goes_on = λ o. o }
at_mark code l r (Ended x) s e h = absurd (cc)
at_mark code l r now s e h = absurd h

module _ (code : Code) (g : Game) (l : Limits) (typed : List ℕ) where
  abbrev set : Setting
  set = setting g code l

  pub settled_nowhere : (r : Memory) (out : Lasting) (now : Now) (steps : ℕ) → Stands code l r now (after set typed steps).now → HasLasting out g l (after set typed steps).now → HasSettled code g l typed steps r out now
  settled_nowhere r out now steps h w = record { further = steps; stands = h; lasting = w; goals = refl; prints = refl; left = refl }

  -- one more step
  pub one_mark : IsBuilt code → (tb : Tables) → IsOf g.program tb → (r new : Memory) (out out' : Lasting) (now next : Now) (steps : ℕ) → rests now ≡ false → DoesMarks tb code r out now new out' next → Stands code l r now (after set typed steps).now → HasLasting out g l (after set typed steps).now → MarkDone code g l r now new out' next (after set typed steps).now
  one_mark built tb is_of r new out out' now next steps e does h w = does g is_of l (after set typed steps).now (all_ordered set typed steps) (all_seek set built.leave typed steps) (at_mark code l r now (after set typed steps).now e h).no_goal h w

  pub settled_on : IsBuilt code → (tb : Tables) → IsOf g.program tb → (mid new : Memory) (out out' : Lasting) (now next : Now) (steps : ℕ) → rests now ≡ false → DoesMarks tb code mid out now new out' next → HasSettled code g l typed steps mid out now → HasSettled code g l typed steps new out' next
  settled_on built tb is_of mid new out out' now next steps e does h =
      let done = one_mark built tb is_of mid new out out' now next h.further e does h.stands h.lasting in
      let mark = at_mark code l mid now (after set typed h.further).now e h.stands in
      record {
        further = suc h.further;
        stands = done.stands;
        lasting = done.lasting;
        goals = ap (λ b. one_if b + (after set typed h.further).goals) mark.no_goal ∙ (let same : 0 + (after set typed h.further).goals ≡ (after set typed h.further).goals = omega arith in same) ∙ h.goals;
        prints = ap (followed (after set typed h.further).prints) done.quiet ∙ h.prints;
        left = mark_leaves set (after set typed h.further).now (left_after set typed h.further) mark.no_goal ∙ h.left;
      }

  pub mark_falls : IsBuilt code → (tb : Tables) → IsOf g.program tb → (r new : Memory) (out out' : Lasting) (now next : Now) (steps : ℕ) → rests now ≡ false → DoesMarks tb code r out now new out' next → Stands code l r now (after set typed steps).now → HasLasting out g l (after set typed steps).now → left_of new next < left_of r now
  mark_falls built tb is_of r new out out' now next steps e does h w = (one_mark built tb is_of r new out out' now next steps e does h w).falls (at_mark code l r now (after set typed steps).now e h).goes_on

  -- ## Goals

  -- the status of a machine that is at a goal
  pub record AtGoal (r : Memory) (ops : List Op) (s : Status) : Type 0 where
    pub mid : Mid
    pub is : s ≡ RunsOf mid
    pub code_is : CodeIs ops mid
    pub held : Holds code l r mid

  pub goal_at : (r : Memory) (ops : Bor (List Op)) (s : Status) → Stands code l r (Runs ops) s → AtGoal r ops.now s
  goal_at r ops (RunsOf m) h = record { mid = m; is = refl; code_is = h.0; held = h.1 }
  goal_at r ops s h = absurd h

  -- the typed bytes of a machine that is at a goal
  pub typed_at : (steps : ℕ) (m : Mid) → (after set typed steps).now ≡ RunsOf m → m.lasting.typed ≡ left_after set typed steps
  typed_at steps m is = subst (Leads (λ o. o.typed ≡ left_after set typed steps) (λ e. Unit {0})) is (typed_stays set typed steps)

  -- the next goal was taken, and steps behind it
  pub took_goal : (tb : Tables) → IsOf g.program tb → (old mid new : Memory) (out out' behind : Lasting) (ops : Bor (List Op)) (next now : Now) (s s' : Spacer) (k k' : SinkView) (i i' : SourceView) (goals : ℕ) (start : SinkView) (rest : List ℕ) → at_goal ops.now ≡ true →
      (does : ReadsGoal tb code old out ops.now mid out' next s s' k k' i i') → Settles tb code mid out' next new behind now → LeftBehind does.gave.ended i' rest → IsAt code g l typed old out (Runs ops) goals s start k (does.gave.taken ++ rest) → IsAt code g l typed new behind now (1 + goals) s' start k' rest
  took_goal tb is_of old mid new out out' behind ops next now s s' k k' i i' goals start rest e does settles left h =
      let at = goal_at old ops (after set typed h.steps).now h.stands in
      let ordered : StatusOrdered (RunsOf at.mid) = subst StatusOrdered at.is (all_ordered set typed h.steps) in
      let bytes = typed_at h.steps at.mid at.is in
      let both = does.does rest left g is_of l at.mid ordered e at.code_is at.held (subst (HasLasting out g l) at.is h.lasting) (bytes ∙ h.left_is) in
      let done = both.0 in
      let behind_it : left_after set typed (suc h.steps) ≡ rest = ap (λ x. left_behind set x (left_after set typed h.steps)) at.is ∙ ap (left_behind set (RunsOf at.mid)) (sym bytes) ∙ both.1 in
      let stands : Stands code l mid next (after set typed (suc h.steps)).now = subst (λ x. Stands code l mid next (step set x)) (sym at.is) done.stands in
      let settled = settles g is_of l typed (suc h.steps) stands (subst (λ x. HasLasting out' g l (step set x)) (sym at.is) done.lasting) in
      let taken : takes_goal (after set typed h.steps).now ≡ true = ap takes_goal at.is ∙ ap at_goal at.code_is.0 ∙ e in
      let one : (after set typed (suc h.steps)).goals ≡ 1 + goals = ap (λ b. one_if b + (after set typed h.steps).goals) taken ∙ ap (λ n. 1 + n) h.goals_is in
      let text : HasText s' start k' (after set typed (suc h.steps)).prints = subst (λ x. HasText s' start k' (followed (after set typed h.steps).prints (said set x))) (sym at.is) (done.writes start (after set typed h.steps).prints h.text) in
      record {
        steps = settled.further;
        stands = settled.stands;
        lasting = settled.lasting;
        goals_is = settled.goals ∙ one;
        text = subst (HasText s' start k') (sym settled.prints) text;
        left_is = settled.left ∙ behind_it;
      }

  -- the output was lost at the next goal
  pub lost_goal : (tb : Tables) → IsOf g.program tb → (old : Memory) (out : Lasting) (ops : Bor (List Op)) (s : Spacer) (k k' : SinkView) (i i' : SourceView) (goals : ℕ) (start : SinkView) (rest : List ℕ) → at_goal ops.now ≡ true →
      (loses : LosesText tb code old ops.now s k k' i i') → IsLeft i'.left rest → IsAt code g l typed old out (Runs ops) goals s start k (loses.taken ++ rest) → IsLost code g l typed goals start k' rest
  lost_goal tb is_of old out ops s k k' i i' goals start rest e loses is h =
      let at = goal_at old ops (after set typed h.steps).now h.stands in
      let bytes = typed_at h.steps at.mid at.is in
      let ps = (after set typed h.steps).prints in
      let both = loses.loses rest is g is_of l at.mid at.code_is at.held (bytes ∙ h.left_is) start ps h.text in
      let broke : BreaksAt code g l typed h.steps start k' ⊎ BreaksAt code g l typed (suc h.steps) start k' = elim both.0 [
        | inl lost ↦ inr (record { mid = lost.behind; is = ap (step set) at.is ∙ lost.goes; broke = subst (λ x. BrokeOff start k' (render (followed ps (said set x)))) (sym at.is) lost.broke })
        | inr broke ↦ inl (record { mid = at.mid; is = at.is; broke = broke })
      ] in
      record {
        steps = h.steps;
        takes = ap takes_goal at.is ∙ ap at_goal at.code_is.0 ∙ e;
        goals_is = h.goals_is;
        broke = broke;
        left_is = ap (λ x. left_behind set x (left_after set typed h.steps)) at.is ∙ ap (left_behind set (RunsOf at.mid)) (sym bytes) ∙ both.1;
      }

  -- the input was lost there
  pub unread_goal : (tb : Tables) → IsOf g.program tb → (old : Memory) (out : Lasting) (ops : Bor (List Op)) (s s' : Spacer) (k k' : SinkView) (i i' : SourceView) (goals : ℕ) (start : SinkView) (left : List ℕ) → LosesLine tb code old ops.now s s' k k' i i' → IsAt code g l typed old out (Runs ops) goals s start k left → IsUnread code g l typed goals s' start k' left
  unread_goal tb is_of old out ops s s' k k' i i' goals start left loses h =
      let at = goal_at old ops (after set typed h.steps).now h.stands in
      record {
        steps = h.steps;
        reading = ap (reads set) at.is ∙ loses.reading g is_of l at.mid at.code_is at.held;
        goals_is = h.goals_is;
        text = loses.text start (after set typed h.steps).prints h.text;
        left_is = h.left_is;
      }

-- ## From the start to the closing

-- what a source tells of what is left
pub shows_told : (g : Game) (typed : List ℕ) (l : Limits) (bytes : List ℕ) (outcome : Outcome) (left : List ℕ) (told : Option (List ℕ)) → IsLeft told left → Shows g typed l bytes outcome (Some left) → Shows g typed l bytes outcome told
shows_told g typed l bytes outcome left told is (inl h) = inl (record { begins = h.begins; text = h.text; ending = h.ending; goals = h.goals; left_is = subst (IsLeft told) h.left_is is })
shows_told g typed l bytes outcome left told is (inr h) = inr (record {
  begins = h.begins;
  area = h.area;
  ending = h.ending;
  goals = h.goals;
  passed = h.passed;
  part = h.part;
  text = h.text;
  until = h.until;
  since = h.since;
  none_before_the_first = h.none_before_the_first;
  input = record { rest = h.input.rest; left_is = subst (IsLeft told) h.input.left_is is; since = h.input.since; until = h.input.until };
  covers = h.covers;
})

module _ (code : Code) (g : Game) (l : Limits) (codes : Codes g.program code) (typed : List ℕ) where
  abbrev the_set : Setting
  the_set = setting g code l

  -- how a run has ended, by its closing line
  ended_shows : MayBegin g l → (e : Ending) (left steps : ℕ) → EndsSo e left (after the_set typed steps).now → (after the_set typed steps).goals ≡ l.steps - left → left ≤ l.steps →
      Shows g typed l (closed_text (after the_set typed steps).prints (line_of e)) (record { ending = e; goals = l.steps - left }) (Some (left_after the_set typed steps))
  ended_shows begins e left steps (inl is) goals le =
      subst (λ n. Shows g typed l (closed_text (after the_set typed steps).prints (line_of e)) (record { ending = e; goals = n }) (Some (left_after the_set typed steps))) goals ((shows_all g code l codes typed begins).ends steps e is (omega (arith, goals)))
  ended_shows begins e left steps (inr limited) goals le =
      let none = limited.1 in
      let all : l.steps - left ≡ l.steps = omega (arith, none) in
      let rest = Some (left_after the_set typed steps) in
      subst (λ x. Shows g typed l (closed_text (after the_set typed steps).prints (line_of x)) (record { ending = x; goals = l.steps - left }) rest) (sym limited.0)
      (subst (λ n. Shows g typed l (closed_text (after the_set typed steps).prints (line_of StepLimit)) (record { ending = StepLimit; goals = n }) rest) (sym all) ((shows_all g code l codes typed begins).limited steps (goals ∙ all) limited.2))

  pub shown : MayBegin g l → (e : Ending) (left : ℕ) (r : Memory) (s : Spacer) (start k k' : SinkView) (rest : List ℕ) (told : Option (List ℕ)) → IsLeft told rest → HasEnded code g l typed (l.steps - left) e left r s start k rest → left ≤ l.steps → ((ps : List Print) → StandsFor s ps → Wrote k k' (ending_line ps (line_of e))) → HasShown g typed l (record { ending = e; goals = l.steps - left }) told start k'
  shown begins e left r s start k k' rest told is h le close =
      let ps = (after the_set typed h.steps).prints in
      record {
        bytes = closed_text ps (line_of e);
        shows = shows_told g typed l _ _ (left_after the_set typed h.steps) told (subst (IsLeft told) (sym h.left_is) is) (ended_shows begins e left h.steps h.ends h.goals_is le);
        wrote = wrote_on start k k' (render ps) (ending_line ps (line_of e)) h.text.wrote (close ps h.text.stands);
      }

  pub closing_lost : MayBegin g l → (e : Ending) (left : ℕ) (r : Memory) (s : Spacer) (start k k' : SinkView) (i i' : SourceView) (rest : List ℕ) → IsLeft (left_told i i') rest → HasEnded code g l typed (l.steps - left) e left r s start k rest → left ≤ l.steps → ((ps : List Print) → StandsFor s ps → BrokeOff k k' (ending_line ps (line_of e))) → HasLostText g typed l i i' start k'
  closing_lost begins e left r s start k k' i i' rest is h le close =
      let ps = (after the_set typed h.steps).prints in
      record {
        bytes = closed_text ps (line_of e);
        writing = to_the_end (record { ending = e; goals = l.steps - left }) (shows_told g typed l _ _ (left_after the_set typed h.steps) (left_told i i') (subst (IsLeft (left_told i i')) (sym h.left_is) is) (ended_shows begins e left h.steps h.ends h.goals_is le));
        broke = broke_later start k k' (render ps) (ending_line ps (line_of e)) h.text.wrote (close ps h.text.stands);
      }

  -- the input was lost
  fault_shows : (r : Memory) (s : Spacer) (start k : SinkView) (taken rest : List ℕ) (h : IsUnreadWithin code g l typed l.steps r s start k (taken ++ rest)) → length (behind_first (taken ++ rest)) ≤ length rest → ShowsInputFault g typed l (closed_text (after the_set typed h.unread.steps).prints input_fault_line) (Some rest)
  fault_shows r s start k taken rest h short =
      let x = h.unread in
      let next : left_after the_set typed (suc x.steps) ≡ behind_first (taken ++ rest) = ap (λ b. if b then behind_first (left_after the_set typed x.steps) else left_after the_set typed x.steps) x.reading ∙ ap behind_first x.left_is in
      shows_faults g code l codes typed x.steps rest x.reading (omega (arith, x.goals_is, h.within)) (record { taken = taken; is = x.left_is }) (subst (λ l. length l ≤ length rest) (sym next) short)

  fault_told : (bytes rest : List ℕ) (told : Option (List ℕ)) → IsLeft told rest → ShowsInputFault g typed l bytes (Some rest) → ShowsInputFault g typed l bytes told
  fault_told bytes rest told is h = record { goals = h.goals; below = h.below; text = h.text; given = h.given; is_given = given_told told is h.is_given; goes_on = h.goes_on; no_more = h.no_more; reads = h.reads }
    where
      given_told : (told : Option (List ℕ)) → IsLeft told rest → HasGiven typed (Some rest) h.given → HasGiven typed told h.given
      given_told None is given = tt
      given_told (Some xs) is given = ap (λ l. h.given + length l) is ∙ given

  pub input_lost : (r : Memory) (s : Spacer) (start k k' : SinkView) (taken rest : List ℕ) (told : Option (List ℕ)) → IsLeft told rest → IsUnreadWithin code g l typed l.steps r s start k (taken ++ rest) → length (behind_first (taken ++ rest)) ≤ length rest → ((ps : List Print) → StandsFor s ps → Wrote k k' (ending_line ps input_fault_line)) → HasLostInput g typed l told start k'
  input_lost r s start k k' taken rest told is h short close =
      let ps = (after the_set typed h.unread.steps).prints in
      record {
        bytes = closed_text ps input_fault_line;
        shows = fault_told (closed_text ps input_fault_line) rest told is (fault_shows r s start k taken rest h short);
        wrote = wrote_on start k k' (render ps) (ending_line ps input_fault_line) h.unread.text.wrote (close ps h.unread.text.stands);
      }

  pub fault_lost : (r : Memory) (s : Spacer) (start k k' : SinkView) (i i' : SourceView) (taken rest : List ℕ) → Rose i.faults i'.faults → IsLeft (left_told i i') rest → IsUnreadWithin code g l typed l.steps r s start k (taken ++ rest) → length (behind_first (taken ++ rest)) ≤ length rest → ((ps : List Print) → StandsFor s ps → BrokeOff k k' (ending_line ps input_fault_line)) → HasLostText g typed l i i' start k'
  fault_lost r s start k k' i i' taken rest rose is h short close =
      let ps = (after the_set typed h.unread.steps).prints in
      record {
        bytes = closed_text ps input_fault_line;
        writing = up_to_fault rose (fault_told (closed_text ps input_fault_line) rest (left_told i i') is (fault_shows r s start k taken rest h short));
        broke = broke_later start k k' (render ps) (ending_line ps input_fault_line) h.unread.text.wrote (close ps h.unread.text.stands);
      }

  -- the text up to a goal begins with that of what was printed where the code went on
  part_broke : (steps more goals : ℕ) (start k : SinkView) → (after the_set typed steps).goals + more ≡ goals → BreaksAt code g l typed steps start k → BrokeOff start k (text_of (run g typed goals).world.events)
  part_broke steps more goals start k all x =
      let ps = (after the_set typed steps).prints in
      let c = (is_at g code l codes typed steps).comes more in
      let at : RunsAt code x.mid ps g more c.world (run g typed goals) = subst (λ n. RunsAt code x.mid ps g more c.world (run g typed n)) all (subst (λ now. At the_set now ps g more c.world (run g typed ((after the_set typed steps).goals + more))) x.is c.at) in
      let begins = prints_begin c.world (run g typed goals) ps (stands_happened g at.lives at.ways _ more c.world (run g typed goals) at.stands) at.mirrors.printed_is in
      subst (BrokeOff start k) (sym begins.1) (broke_first start k (render ps) begins.0 x.broke)

  pub text_lost : MayBegin g l → (r : Memory) (start k : SinkView) (i i' : SourceView) (rest : List ℕ) → IsLeft (left_told i i') rest → IsLostWithin code g l typed l.steps r start k rest → HasLostText g typed l i i' start k
  text_lost begins r start k i i' rest is h =
      let x = h.lost in
      let one : (after the_set typed (suc x.steps)).goals ≡ suc h.goals = ap (λ b. one_if b + (after the_set typed x.steps).goals) x.takes ∙ omega (arith, x.goals_is) in
      let first : (after the_set typed (suc x.steps)).goals - 1 ≡ h.goals = omega (arith, one) in
      let last : (after the_set typed (suc x.steps)).goals ≡ h.goals + 1 = omega (arith, one) in
      let before : (after the_set typed x.steps).goals + 1 ≡ h.goals + 1 = omega (arith, x.goals_is) in
      let behind : (after the_set typed (suc x.steps)).goals + 0 ≡ h.goals + 1 = omega (arith, one) in
      let stops = stops_there g code l codes typed (after the_set typed x.steps) (left_after the_set typed x.steps) x.takes (is_at g code l codes typed x.steps) (left_at g code l codes typed x.steps).left in
      record {
        bytes = text_of (run g typed (h.goals + 1)).world.events;
        writing = up_to_goal
            (record {
              begins = begins;
              goals = h.goals;
              below = h.within;
              goes_on = subst (λ n. (run g typed n).ending ≡ StepLimit) x.goals_is (ap (λ (y : Run). y.ending) stops.is);
              text = refl;
              input =
                  record {
                    rest = rest;
                    left_is = is;
                    since = subst (λ n. EndsWith (run g typed n).world.typed rest) first (subst (EndsWith (run g typed ((after the_set typed (suc x.steps)).goals - 1)).world.typed) x.left_is (left_at g code l codes typed (suc x.steps)).since);
                    until = subst (λ n. EndsWith rest (run g typed n).world.typed) last (subst (λ (xs : List ℕ). EndsWith xs (run g typed (after the_set typed (suc x.steps)).goals).world.typed) x.left_is (until_left g code l codes typed (suc x.steps)));
                  };
            });
        broke = elim x.broke [
          | inl here ↦ part_broke x.steps 1 (h.goals + 1) start k before here
          | inr there ↦ part_broke (suc x.steps) 0 (h.goals + 1) start k behind there
        ];
      }
