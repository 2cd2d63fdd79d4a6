-- From the start of a run to its closing.
use Rattle.std.proofs.Common.{◌≡◌, ℕ, suc, ◌-◌, ◌<◌, ◌≤◌, inl, inr, List, [], ◌∷◌, ◌++◌, Bool, true, false, Option, Some, None, refl, sym, ap, ◌∙◌, subst, arith, length, length-append}
use Rattle.std.proofs.lemmas.List.{append-nil, append_cancel_left}
use Rattle.std.specs.List.{flat_map}
use Rattle.std.specs.Prelude.{Result, Ok, Err, IfOk, IfErr, ◌+◌, ◌⊎◌}
use Rattle.dg_base.specs.declared.run.Ending.TheVariants.{InputEnded, HeapLimit, TrailLimit, AuxLimit, KeepLimit}
use Rattle.dg_meaning.specs.inside.OneRun.{Grows}
use Rattle.dg_base.specs.Begins.{Begins, EndsWith}
use Rattle.dg_meaning.specs.Peaks.{Area, Heap, Trail, Aux, Keep, limit_of, limit_ending, peak}
use Rattle.dg_meaning.proofs.Engines.{as_told, some_left, for_given, nothing_taken, start_shows, start_forgets}
use Rattle.dg_meaning.proofs.Limits.{limit_covers}
use Rattle.dg_base.specs.declared.program.CoreProgram.{CoreProgram}
use Rattle.dg_base.specs.declared.run.Ending.{Ending}
use Rattle.dg_base.specs.Causes.{Rose}
use Rattle.dg_base.specs.declared.run.RunFault.{RunFault}
use Rattle.dg_base.specs.declared.run.RunFault.TheVariants.{Read, Write, OutOfMemory}
use Rattle.dg_base.specs.declared.run.Limits.{Limits}
use Rattle.dg_base.specs.declared.run.Outcome.{Outcome}
use Rattle.dg_meaning.specs.World.{Game, World, Event, Print, prints}
use Rattle.dg_meaning.specs.Render.{nothing_met}
use Rattle.dg_meaning.specs.Trace.{Entry, entries, closing_entries}
use Rattle.dg_meaning.specs.Transcript.{Run, run, start_world, line_of, no_memory_line, input_fault_line}
use Rattle.dg_meaning.specs.Shows.{IsLeft, HasGiven, taken_by, LeftBetween, ShowsLimitBy, ShowsNoMemoryBy, ShowsInputFaultBy, ShowsBy, in_part, whole, without_memory, without_input}
use Rattle.dg_meaning.proofs.Search.{run_within}
use Rattle.dg_spacing.specs.declared.spacer.Spacer.{Spacer}
use Rattle.dg_interp.specs.declared.engine.Engine.{Engine}
use Rattle.dg_spacing.specs.Spacer.{StandsFor}
use Rattle.dg_lasting.specs.declared.lack.Lack.{Lack}
use Rattle.dg_lasting.specs.declared.lack.Lack.TheVariants as lack
use Rattle.dg_lasting.specs.Lasting.{LacksAtStart}
use Rattle.dg_interp.specs.inside.Engine.{limit_in, Starts}
use Rattle.dg_base.specs.Streams.{SourceView}
use Rattle.dg_interp.specs.inside.Running.{limit_of as ending_of_lack, Gave, LeftBehind, Awaits, Stretch, HasText, Reaches, HasEnded, MeetsLimit, IsNoFurther, Ended, HasPart, IsLimited, TakesMore, LosesInput, LosesOutput, Broken}
use Rattle.dg_meaning.specs.Engines.{game, left_told}
use Rattle.dg_meaning.specs.inside.Engines.{ForTyped}
use Rattle.dg_watch.specs.Told.{Told, Saw, took, told_events, told_closing, all_told}
use Rattle.dg_watch.specs.declared.watch.CallEvent.TheVariants.{Printed}
use Rattle.dg_watch.specs.Watching.{Watching, Given, Lost}
use Rattle.dg_watch.specs.Seen.{in_form, HasSeen, HasSeenInput, HasSeenMemory, HasSeenPart}
use Rattle.dg_watch.proofs.Telling.{given_nothing, given_on, lost_later}
use Rattle.dg_watch.proofs.Events.{all_told_on}

-- ## Typed bytes

rest_of : (ended : Bool) (to : SourceView) → (rest : List ℕ) × LeftBehind ended to rest
rest_of true to = ([], refl)
rest_of false to = some_left to.left

-- ## Entries

-- the entries of what happened, and of a closing with this line
abbrev pub seen_of : List Event → List ℕ → List Entry
seen_of events line = entries nothing_met events ++ closing_entries events (Some line)

module _ {P : Type 0} (v : Watching P) (s : Spacer) (a b c : P) (events : List Event) (line : List ℕ) (text : HasText v s a b events) where
  closing_told : all_told (seen_of events line) ≡ told_events events ++ told_closing (prints events) line
  closing_told = all_told_on (entries nothing_met events) (closing_entries events (Some line))

  given_closed : ((es : List Print) → StandsFor s es → Given v b c (told_closing es line)) → Given v a c (all_told (seen_of events line))
  given_closed close = subst (Given v a c) (sym closing_told) (given_on v a b c (told_events events) (told_closing (prints events) line) text.given (close (prints events) text.stands))

  lost_closed : ((es : List Print) → StandsFor s es → Lost v b c (told_closing es line)) → Lost v a c (all_told (seen_of events line))
  lost_closed close = subst (Lost v a c) (sym closing_told) (lost_later v a b c (told_events events) (told_closing (prints events) line) text.given (close (prints events) text.stands))

module _ {P : Type 0} (v : Watching P) (program : CoreProgram) (limits : Limits) (e : Engine) (dice : List ℕ) (starts : Starts program limits dice e) (s s' : Spacer) (k k' : P) (i i' : SourceView) (new : StandsFor s []) where
  abbrev g : Game
  g = game program dice

  no_text : HasText v s k k []
  no_text = record { stands = new; given = given_nothing v k }

  -- bytes that the source gave, and what it has left
  for_taken : (Q : List ℕ → Type 0) (taken : List ℕ) (ended : Bool) → Gave i i' ended taken → ((typed : List ℕ) → Awaits i' ended taken (start_world g typed) → Q typed) → ForTyped i.left Q
  for_taken Q taken ended gave f =
      let x = rest_of ended i' in
      for_given i.left (taken ++ x.0) Q (gave.left x.0 x.1) (f (taken ++ x.0) (record { rest = x.0; left = x.1; typed = refl }))

  module _ (typed : List ℕ) where
    abbrev r : Run
    r = run g typed limits.steps

    reached : (Q : World → Run → P → Type 0) (h : Reaches v e s k i i' Q) → Awaits i' h.ended h.taken (start_world g typed) → Q (start_world g typed) r k
    reached Q h a = subst (λ n. Q (start_world g typed) (run g typed n) k) starts.left (h.reaches g (start_world g typed) (run g typed e.left) k a (starts.stands g e.left typed refl refl) no_text)

    -- ## A limit

    module _ (area : Area) (left : ℕ) (m : MeetsLimit v area left e s s' k k' i i') (same : limit_in area e ≡ limit_of area limits) (a : Awaits i' false m.taken (start_world g typed)) where
      abbrev whole_run : Run
      whole_run = run g typed (suc m.goals)

      abbrev outcome : Outcome
      outcome = record { ending = limit_ending area; goals = limits.steps - left }

      reached_to : Stretch m.added m.taken (start_world g typed) (λ u. Grows u whole_run.world)
      reached_to = m.until g (start_world g typed) whole_run a (starts.stands g (suc m.goals) typed refl refl)

      no_further : IsNoFurther m.added a.rest (start_world g typed) (run g typed m.goals)
      no_further = m.since g (start_world g typed) (run g typed m.goals) a (starts.stands g m.goals typed refl refl)

      until : Begins m.added whole_run.world.events
      until = let t = reached_to in subst (λ l. Begins l whole_run.world.events) t.events_are t.holds.events

      passed_limit : limit_of area limits < peak area g typed (suc m.goals)
      passed_limit = subst (λ n. n < peak area g typed (suc m.goals)) same (m.passed g (start_world g typed) whole_run a (starts.stands g (suc m.goals) typed refl refl))

      taken_goals : limits.steps - left ≡ suc m.goals
      taken_goals = omega (arith, m.left_is, starts.left)

      since_before : Begins (run g typed (suc m.goals - 1)).world.events m.added
      since_before = let one : suc m.goals - 1 ≡ m.goals = omega arith in subst (λ n. Begins (run g typed n).world.events m.added) (sym one) no_further.events

      left_between : (told : Option (List ℕ)) → IsLeft told a.rest → LeftBetween g typed (limits.steps - left - 1) (limits.steps - left) told
      left_between told is =
          let one : suc m.goals - 1 ≡ m.goals = omega arith in
          let same : a.rest ≡ reached_to.world.typed = append_cancel_left m.taken a.rest reached_to.world.typed (sym a.typed ∙ reached_to.typed) in
          subst (λ n. LeftBetween g typed (n - 1) n told) (sym taken_goals)
          (record {
            rest = a.rest;
            left_is = is;
            since = subst (λ n. EndsWith (run g typed n).world.typed a.rest) (sym one) no_further.typed;
            until = subst (λ l. EndsWith l whole_run.world.typed) (sym same) reached_to.holds.typed;
          })

      abbrev limit_seen : List Entry
      limit_seen = seen_of m.added (line_of (limit_ending area))

      limit_shows : (told : Option (List ℕ)) → IsLeft told a.rest → (write : Entry → List ℕ) → ShowsLimitBy (in_form write) g typed limits (flat_map write limit_seen) outcome told
      limit_shows told is write = record {
        begins = λ some. starts.begins;
        area = area;
        ending = refl;
        goals = omega arith;
        passed = subst (λ n. limit_of area limits < peak area g typed n) (sym taken_goals) passed_limit;
        part = m.added;
        text = refl;
        until = subst (λ n. Begins m.added (run g typed n).world.events) (sym taken_goals) until;
        since = subst (λ n. Begins (run g typed (n - 1)).world.events m.added) (sym taken_goals) since_before;
        none_before_the_first = λ none. absurd (omega (arith, none, taken_goals));
        input = left_between told is;
        covers = λ n le within. limit_covers g typed limits area (suc m.goals) m.added passed_limit since_before n within;
      }

      text_is : HasText v s' k k' m.added
      text_is = m.writes k [] no_text

      limit_shown : (k'' : P) → ((es : List Print) → StandsFor s' es → Given v k' k'' (told_closing es (line_of (limit_ending area)))) → HasSeen v g typed limits outcome (left_told i i') k k''
      limit_shown k'' close = record {
        seen = limit_seen;
        shows = λ write. inr (limit_shows (left_told i i') (as_told i i' a.rest a.left) write);
        given = given_closed v s' k k' k'' m.added (line_of (limit_ending area)) text_is close;
      }

      limit_lost : (k'' : P) → ((es : List Print) → StandsFor s' es → Lost v k' k'' (told_closing es (line_of (limit_ending area)))) → HasSeenPart v g typed limits (left_told i i') k k''
      limit_lost k'' close = record {
        seen = limit_seen;
        may_write = λ write. whole outcome (inr (limit_shows (left_told i i') (as_told i i' a.rest a.left) write));
        lost = lost_closed v s' k k' k'' m.added (line_of (limit_ending area)) text_is close;
      }

    -- ## The whole run

    module _ (ending : Ending) (left : ℕ) (h : Reaches v e s k i i' (HasEnded v ending left s' k' (left_told i i'))) (a : Awaits i' h.ended h.taken (start_world g typed)) where
      abbrev x : HasEnded v ending left s' k' (left_told i i') (start_world g typed) r k
      x = reached (HasEnded v ending left s' k' (left_told i i')) h a

      run_left : left ≤ limits.steps
      run_left = let same : r.left ≡ left = ap (λ (y : Run). y.left) x.is in omega (arith, run_within g typed limits.steps)

      abbrev run_seen : List Entry
      run_seen = seen_of x.world.events (line_of ending)

      run_shows : (write : Entry → List ℕ) → ShowsBy (in_form write) g typed limits (flat_map write run_seen) (record { ending = ending; goals = limits.steps - left }) (left_told i i')
      run_shows write =
          let within = run_left in
          let same : r.left ≡ left = ap (λ (y : Run). y.left) x.is in
          inl (record {
            begins = starts.begins;
            text = ap (λ (y : Run). in_form write y.world.events (Some (line_of y.ending))) (sym x.is);
            ending = sym (ap (λ (y : Run). y.ending) x.is);
            goals = omega (arith, same, within);
            left_is = subst (IsLeft (left_told i i')) (sym (ap (λ (y : Run). y.world.typed) x.is)) x.typed;
          })

      run_shown : (k'' : P) → ((es : _) → StandsFor s' es → Given v k' k'' (told_closing es (line_of ending))) → HasSeen v g typed limits (record { ending = ending; goals = limits.steps - left }) (left_told i i') k k''
      run_shown k'' close = record { seen = run_seen; shows = run_shows; given = given_closed v s' k k' k'' x.world.events (line_of ending) x.text close }

      run_lost : (k'' : P) → ((es : _) → StandsFor s' es → Lost v k' k'' (told_closing es (line_of ending))) → HasSeenPart v g typed limits (left_told i i') k k''
      run_lost k'' close = record {
        seen = run_seen;
        may_write = λ write. whole (record { ending = ending; goals = limits.steps - left }) (run_shows write);
        lost = lost_closed v s' k k' k'' x.world.events (line_of ending) x.text close;
      }

    shows_part : (told : Option (List ℕ)) (x : HasPart v s' k' i'.left (start_world g typed) r k) → IsLeft told x.rest → (write : Entry → List ℕ) → ShowsNoMemoryBy (in_form write) g typed limits (flat_map write (seen_of x.part no_memory_line)) told
    shows_part told x left write = record {
      part = x.part;
      text = refl;
      until = x.until;
      input =
          record {
            rest = x.rest;
            left_is = left;
            since = subst (λ (w : World). EndsWith w.typed x.rest) (sym (nothing_taken g typed)) x.taken;
            until = x.typed;
          };
    }

  -- a limit, for bytes that the source gave
  met : (area : Area) (left : ℕ) (Q : List ℕ → Type 0) (m : MeetsLimit v area left e s s' k k' i i') → ((typed : List ℕ) → Awaits i' false m.taken (start_world g typed) → Q typed) → ForTyped i.left Q
  met area left Q m = for_taken Q m.taken false m.gave

  came : (R : World → Run → P → Type 0) (Q : List ℕ → Type 0) (h : Reaches v e s k i i' R) → ((typed : List ℕ) → Awaits i' h.ended h.taken (start_world g typed) → Q typed) → ForTyped i.left Q
  came R Q h = for_taken Q h.taken h.ended h.gave

  -- what holds for some typed bytes, of which it doesn't speak
  for_none : (told : Option (List ℕ)) (Q : Type 0) → ForTyped told (λ typed. Q) → Q
  for_none None Q h = h.1
  for_none (Some typed) Q h = h

  meets_within : (area : Area) (left : ℕ) → MeetsLimit v area left e s s' k k' i i' → left ≤ limits.steps
  meets_within area left m = omega (arith, m.left_is, starts.left)

  pub left_within : (ending : Ending) (left : ℕ) → Ended v ending left e s s' k k' i i' → left ≤ limits.steps
  left_within HeapLimit left m = meets_within Heap left m
  left_within TrailLimit left m = meets_within Trail left m
  left_within AuxLimit left m = meets_within Aux left m
  left_within KeepLimit left m = meets_within Keep left m
  left_within ending left h = for_none i.left (left ≤ limits.steps) (came (HasEnded v ending left s' k' (left_told i i')) (λ typed. left ≤ limits.steps) h (λ typed a. run_left typed ending left h a))

  pub ended_later : (ending : Ending) (left : ℕ) → Ended v ending left e s s' k k' i i' → i.faults ≤ i'.faults
  ended_later HeapLimit left m = m.gave.later
  ended_later TrailLimit left m = m.gave.later
  ended_later AuxLimit left m = m.gave.later
  ended_later KeepLimit left m = m.gave.later
  ended_later ending left h = h.gave.later

  -- what is shown with this ending
  abbrev pub ShownSo : Ending → ℕ → P → List ℕ → Type 0
  ShownSo ending left k'' typed = HasSeen v g typed limits (record { ending = ending; goals = limits.steps - left }) (left_told i i') k k''

  pub has_shown : (k'' : P) (ending : Ending) (left : ℕ) → Ended v ending left e s s' k k' i i' → ((es : List Print) → StandsFor s' es → Given v k' k'' (told_closing es (line_of ending))) → ForTyped i.left (ShownSo ending left k'')
  has_shown k'' HeapLimit left m close = met Heap left (ShownSo HeapLimit left k'') m (λ typed a. limit_shown typed Heap left m (starts.limits_are Heap) a k'' close)
  has_shown k'' TrailLimit left m close = met Trail left (ShownSo TrailLimit left k'') m (λ typed a. limit_shown typed Trail left m (starts.limits_are Trail) a k'' close)
  has_shown k'' AuxLimit left m close = met Aux left (ShownSo AuxLimit left k'') m (λ typed a. limit_shown typed Aux left m (starts.limits_are Aux) a k'' close)
  has_shown k'' KeepLimit left m close = met Keep left (ShownSo KeepLimit left k'') m (λ typed a. limit_shown typed Keep left m (starts.limits_are Keep) a k'' close)
  has_shown k'' ending left h close = came (HasEnded v ending left s' k' (left_told i i')) (ShownSo ending left k'') h (λ typed a. run_shown typed ending left h a k'' close)

  -- what is lost
  abbrev pub LostSo : P → List ℕ → Type 0
  LostSo k'' typed = HasSeenPart v g typed limits (left_told i i') k k''

  pub closing_lost : (k'' : P) (ending : Ending) (left : ℕ) → Ended v ending left e s s' k k' i i' → ((es : List Print) → StandsFor s' es → Lost v k' k'' (told_closing es (line_of ending))) → ForTyped i.left (LostSo k'')
  closing_lost k'' HeapLimit left m close = met Heap left (LostSo k'') m (λ typed a. limit_lost typed Heap left m (starts.limits_are Heap) a k'' close)
  closing_lost k'' TrailLimit left m close = met Trail left (LostSo k'') m (λ typed a. limit_lost typed Trail left m (starts.limits_are Trail) a k'' close)
  closing_lost k'' AuxLimit left m close = met Aux left (LostSo k'') m (λ typed a. limit_lost typed Aux left m (starts.limits_are Aux) a k'' close)
  closing_lost k'' KeepLimit left m close = met Keep left (LostSo k'') m (λ typed a. limit_lost typed Keep left m (starts.limits_are Keep) a k'' close)
  closing_lost k'' ending left h close = came (HasEnded v ending left s' k' (left_told i i')) (LostSo k'') h (λ typed a. run_lost typed ending left h a k'' close)

  pub text_lost : LosesOutput v e s k k' i i' → ForTyped i.left (LostSo k')
  text_lost h =
      for_taken (LostSo k') h.taken false h.gave
      (λ typed a.
      let one : suc h.goals - 1 ≡ h.goals = omega arith in
      let events = (run g typed (suc h.goals)).world.events in
      record {
        seen = entries nothing_met events;
        may_write = λ write. in_part
            (record {
              goals = suc h.goals;
              within = omega (arith, h.below, starts.left);
              text = ap (flat_map write) (sym (append-nil (entries nothing_met events)));
              input =
                  record {
                    rest = a.rest;
                    left_is = as_told i i' a.rest a.left;
                    since = subst (λ n. EndsWith (run g typed n).world.typed a.rest) (sym one) (h.since g (start_world g typed) (run g typed h.goals) a (starts.stands g h.goals typed refl refl));
                    until = h.until g (start_world g typed) (run g typed (suc h.goals)) a (starts.stands g (suc h.goals) typed refl refl);
                  };
            });
        lost = h.breaks g (start_world g typed) (run g typed (suc h.goals)) k a (starts.stands g (suc h.goals) typed refl refl) no_text;
      })

  pub broken_later : (fault : RunFault) → Broken v fault e s s' k k' i i' → i.faults ≤ i'.faults
  broken_later Read h = h.gave.later
  broken_later Write h = h.gave.later
  broken_later OutOfMemory h = h.gave.later

  pub broken_rose : (fault : RunFault) → fault ≡ Read → Broken v fault e s s' k k' i i' → Rose i.faults i'.faults
  broken_rose Read is h = h.rose
  broken_rose Write is h = absurd (cc is)
  broken_rose OutOfMemory is h = absurd (cc is)

  -- ## The input failed

  module _ (h : LosesInput v e s s' k k' i i') (typed : List ℕ) (a : Awaits i' false (h.taken ++ h.more) (start_world g typed)) where
    stretch : Stretch h.added h.taken (start_world g typed) (λ u. IsLimited u (run g typed h.goals))
    stretch = h.stops g (start_world g typed) (run g typed h.goals) a (starts.stands g h.goals typed refl refl)

    more_taken : TakesMore (length h.taken) (length h.more) (start_world g typed) (run g typed (h.goals + 1))
    more_taken =
        let one : suc h.goals ≡ h.goals + 1 = omega arith in
        subst (λ n. TakesMore (length h.taken) (length h.more) (start_world g typed) (run g typed n)) one (h.reads g (start_world g typed) (run g typed (suc h.goals)) a (starts.stands g (suc h.goals) typed refl refl))

    taken_before : taken_by g typed h.goals ≡ length h.taken
    taken_before = omega (arith, ap length stretch.typed ∙ length-append h.taken stretch.world.typed, ap length stretch.holds.typed)

    has_given : (left : Option (List ℕ)) → IsLeft left a.rest → HasGiven typed left (length (h.taken ++ h.more))
    has_given None is = tt
    has_given (Some left) is = omega (arith, ap length a.typed ∙ length-append (h.taken ++ h.more) a.rest, ap length is)

    reads_more : TakesMore (length h.taken) (length h.more) (start_world g typed) (run g typed (h.goals + 1)) → ((run g typed (h.goals + 1)).ending ≡ InputEnded) ⊎ ((length (h.taken ++ h.more) ≤ taken_by g typed (h.goals + 1)) × (taken_by g typed h.goals < taken_by g typed (h.goals + 1)))
    reads_more (inl over) = inl over
    reads_more (inr more) = inr (omega (arith, more.0, length-append h.taken h.more), omega (arith, more.1, taken_before))

    abbrev events : List Event
    events = (run g typed h.goals).world.events

    input_shows : (told : Option (List ℕ)) → IsLeft told a.rest → (write : Entry → List ℕ) → ShowsInputFaultBy (in_form write) g typed limits (flat_map write (seen_of events input_fault_line)) told
    input_shows told is write = record {
      goals = h.goals;
      below = omega (arith, h.below, starts.left);
      text = refl;
      given = length (h.taken ++ h.more);
      is_given = has_given told is;
      goes_on = stretch.holds.ending;
      no_more = omega (arith, taken_before, length-append h.taken h.more);
      reads = reads_more more_taken;
    }

    input_text : HasText v s' k k' events
    input_text = subst (HasText v s' k k') (sym (stretch.holds.events ∙ stretch.events_are)) (h.writes k [] no_text)

  pub input_shown : (k'' : P) → LosesInput v e s s' k k' i i' → ((es : _) → StandsFor s' es → Given v k' k'' (told_closing es input_fault_line)) → ForTyped i.left (λ typed. HasSeenInput v g typed limits i'.left k k'')
  input_shown k'' h close =
      for_taken (λ typed. HasSeenInput v g typed limits i'.left k k'') (h.taken ++ h.more) false h.gave
      (λ typed a.
      let events = (run g typed h.goals).world.events in
      record {
        seen = seen_of events input_fault_line;
        shows = λ write. input_shows h typed a i'.left a.left write;
        given = given_closed v s' k k' k'' events input_fault_line (input_text h typed a) close;
      })

  pub input_closing_lost : (k'' : P) → LosesInput v e s s' k k' i i' → ((es : _) → StandsFor s' es → Lost v k' k'' (told_closing es input_fault_line)) → ForTyped i.left (LostSo k'')
  input_closing_lost k'' h close =
      for_taken (LostSo k'') (h.taken ++ h.more) false h.gave
      (λ typed a.
      let events = (run g typed h.goals).world.events in
      record {
        seen = seen_of events input_fault_line;
        may_write = λ write. without_input (input_shows h typed a (left_told i i') (as_told i i' a.rest a.left) write);
        lost = lost_closed v s' k k' k'' events input_fault_line (input_text h typed a) close;
      })

  pub memory_shown : (k'' : P) → Reaches v e s k i i' (HasPart v s' k' i'.left) → ((es : _) → StandsFor s' es → Given v k' k'' (told_closing es no_memory_line)) → ForTyped i.left (λ typed. HasSeenMemory v g typed limits i'.left k k'')
  memory_shown k'' h close =
      came (HasPart v s' k' i'.left) (λ typed. HasSeenMemory v g typed limits i'.left k k'') h
      (λ typed a.
      let x = reached typed (HasPart v s' k' i'.left) h a in
      record {
        seen = seen_of x.part no_memory_line;
        shows = λ write. shows_part typed i'.left x x.left write;
        given = given_closed v s' k k' k'' x.part no_memory_line x.text close;
      })

  pub memory_closing_lost : (k'' : P) → Reaches v e s k i i' (HasPart v s' k' i'.left) → ((es : _) → StandsFor s' es → Lost v k' k'' (told_closing es no_memory_line)) → ForTyped i.left (LostSo k'')
  memory_closing_lost k'' h close =
      came (HasPart v s' k' i'.left) (LostSo k'') h
      (λ typed a.
      let x = reached typed (HasPart v s' k' i'.left) h a in
      record {
        seen = seen_of x.part no_memory_line;
        may_write = λ write. without_memory (shows_part typed (left_told i i') x (as_told i i' x.rest x.left) write);
        lost = lost_closed v s' k k' k'' x.part no_memory_line x.text close;
      })

-- ## What is lacking at the start

module _ {P : Type 0} (v : Watching P) (program : CoreProgram) (limits : Limits) (dice typed : List ℕ) (k k' : P) where
  abbrev the_game : Game
  the_game = game program dice

  -- the closing of a run in which nothing happened
  abbrev pub closing_alone : List ℕ → List Told
  closing_alone line = took line ++ Saw Printed ∷ []

  given_alone : (line : List ℕ) → Given v k k' (closing_alone line) → Given v k k' (all_told (seen_of [] line))
  given_alone line h = subst (Given v k k') (sym (append-nil (closing_alone line))) h

  lost_alone : (line : List ℕ) → Lost v k k' (closing_alone line) → Lost v k k' (all_told (seen_of [] line))
  lost_alone line h = subst (Lost v k k') (sym (append-nil (closing_alone line))) h

  module _ (told : Option (List ℕ)) (is : IsLeft told typed) where
    keep_shows : LacksAtStart program limits.keep lack.Keep → (write : Entry → List ℕ) → ShowsLimitBy (in_form write) the_game typed limits (flat_map write (seen_of [] (line_of KeepLimit))) (record { ending = KeepLimit; goals = 0 }) told
    keep_shows over write =
        let s = start_shows program limits dice typed told is over in
        record {
          begins = s.begins;
          area = s.area;
          ending = s.ending;
          goals = s.goals;
          passed = s.passed;
          part = s.part;
          text = ap (λ part. in_form write part (Some (line_of KeepLimit))) (sym (s.none_before_the_first refl));
          until = s.until;
          since = s.since;
          none_before_the_first = s.none_before_the_first;
          input = s.input;
          covers = s.covers;
        }

    memory_shows : (write : Entry → List ℕ) → ShowsNoMemoryBy (in_form write) the_game typed limits (flat_map write (seen_of [] no_memory_line)) told
    memory_shows write = record {
      part = [];
      text = refl;
      until = record { behind = (run the_game typed limits.steps).world.events; is = refl };
      input = (start_forgets program limits dice typed told is).input;
    }

    pub start_shown : (l : Lack) (ending : Ending) → LacksAtStart program limits.keep l → Ok ending ≡ ending_of_lack l → Given v k k' (closing_alone (line_of ending)) → HasSeen v the_game typed limits (record { ending = ending; goals = 0 }) told k k'
    start_shown lack.Keep ending over e close =
        let same : KeepLimit ≡ ending = cc in
        subst (λ x. HasSeen v the_game typed limits (record { ending = x; goals = 0 }) told k k') same
        (record { seen = seen_of [] (line_of KeepLimit); shows = λ write. inr (keep_shows over write); given = given_alone (line_of KeepLimit) (subst (λ x. Given v k k' (closing_alone (line_of x))) (sym same) close) })
    start_shown lack.OutOfMemory ending over e close = absurd (cc)
    start_shown lack.Heap ending over e close = absurd over
    start_shown lack.Trail ending over e close = absurd over
    start_shown lack.Aux ending over e close = absurd over

    pub start_lost : (l : Lack) (ending : Ending) → LacksAtStart program limits.keep l → Ok ending ≡ ending_of_lack l → Lost v k k' (closing_alone (line_of ending)) → HasSeenPart v the_game typed limits told k k'
    start_lost lack.Keep ending over e close =
        let same : KeepLimit ≡ ending = cc in
        record {
          seen = seen_of [] (line_of KeepLimit);
          may_write = λ write. whole (record { ending = KeepLimit; goals = 0 }) (inr (keep_shows over write));
          lost = lost_alone (line_of KeepLimit) (subst (λ x. Lost v k k' (closing_alone (line_of x))) (sym same) close);
        }
    start_lost lack.OutOfMemory ending over e close = absurd (cc)
    start_lost lack.Heap ending over e close = absurd over
    start_lost lack.Trail ending over e close = absurd over
    start_lost lack.Aux ending over e close = absurd over

    pub start_memory : Given v k k' (closing_alone no_memory_line) → HasSeenMemory v the_game typed limits told k k'
    start_memory close = record { seen = seen_of [] no_memory_line; shows = memory_shows; given = given_alone no_memory_line close }

    pub start_memory_lost : Lost v k k' (closing_alone no_memory_line) → HasSeenPart v the_game typed limits told k k'
    start_memory_lost close = record { seen = seen_of [] no_memory_line; may_write = λ write. without_memory (memory_shows write); lost = lost_alone no_memory_line close }

pub if_ok_map : {A E : Type 0} (r : Result A E) (P Q : A → Type 0) → ((x : A) → P x → Q x) → IfOk r P → IfOk r Q
if_ok_map (Ok x) P Q f h = f x h
if_ok_map (Err e) P Q f h = h

pub if_err_map : {A E : Type 0} (r : Result A E) (P Q : E → Type 0) → ((x : E) → P x → Q x) → IfErr r P → IfErr r Q
if_err_map (Ok x) P Q f h = h
if_err_map (Err e) P Q f h = f e h

pub for_map : (told : Option (List ℕ)) (Q R : List ℕ → Type 0) → ((typed : List ℕ) → Q typed → R typed) → ForTyped told Q → ForTyped told R
for_map None Q R f h = (h.0, f h.0 h.1)
for_map (Some typed) Q R f h = f typed h
