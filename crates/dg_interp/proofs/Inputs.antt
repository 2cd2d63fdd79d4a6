-- What a goal that reads a line comes to.
use Rattle.std.proofs.Common.{◌≡◌, ◌≢◌, inl, inr, ℕ, suc, ◌+◌, ◌<◌, ◌≤◌, List, [], ◌∷◌, ◌++◌, Bool, true, false, cond, eqb, Option, Some, None, refl, sym, ap, ◌∙◌, subst, arith, length, length-append, Ok, Err}
use Rattle.std.specs.Prelude.{Result, IfOk, IfErr, encode_utf8_all}
use Rattle.std.specs.Io.KnownBytes.{IsAtEnd, Keeps}
use Rattle.std.proofs.lemmas.List.{append-nil, append_cancel_left}
use Rattle.dg_base.specs.Causes.{Rose}
use Rattle.dg_base.specs.Streams.{SourceView}
use Rattle.dg_watch.specs.Watching.{Watching, Given, Lost}
use Rattle.dg_base.specs.declared.program.Goal.TheVariants.{Input}
use Rattle.dg_base.specs.declared.program.GapKind.TheVariants.{Line}
use Rattle.dg_base.specs.declared.program.Term.{Term}
use Rattle.dg_base.specs.declared.run.Ending.{Ending}
use Rattle.dg_base.specs.declared.run.Ending.TheVariants.{Failed, InputEnded, HeapLimit, TrailLimit}
use Rattle.dg_base.specs.declared.run.RunFault.{RunFault}
use Rattle.dg_base.specs.declared.run.RunFault.TheVariants.{Read, Write, OutOfMemory}
use Rattle.dg_meaning.specs.Letters.{copied}
use Rattle.dg_meaning.specs.Values.{Value}
use Rattle.dg_meaning.specs.Words.{behind_line, behind_first, first_line, letters_of, line_value, reading}
use Rattle.dg_base.specs.Units.{units_of}
use Rattle.dg_meaning.specs.World.{Game, World, Event, Prints, GapOf, worked}
use Rattle.dg_meaning.specs.Path.{Failing, End}
use Rattle.dg_meaning.specs.Moves.{printed, move_of, takes_line}
use Rattle.dg_meaning.specs.inside.OneRun.{Grows}
use Rattle.dg_meaning.specs.Peaks.{Area, Heap, Trail, greatest, limit_ending}
use Rattle.dg_meaning.proofs.Keeps.{stands_happened}
use Rattle.dg_watch.specs.declared.watch.CallEvent.{CallEvent}
use Rattle.dg_meaning.specs.inside.Keeps.{Finished, Went}
use Rattle.dg_meaning.specs.Shows.{IsLeft}
use Rattle.dg_meaning.specs.Transcript.{Run, start_world}
use Rattle.dg_unify.specs.Store.{told}
use Rattle.dg_unify.specs.declared.bindings.Ref.{Ref}
use Rattle.dg_unify.specs.declared.bindings.Full.{Full}
use Rattle.dg_unify.specs.declared.bindings.Full.TheVariants as full
use Rattle.dg_spacing.specs.declared.spacer.Spacer.{Spacer}
use Rattle.dg_words.specs.Lines.{Took, IsOver}
use Rattle.dg_words.specs.Letters.{IsLine}
use Rattle.dg_words.proofs.LineLemmas.{left_shorter}
use Rattle.dg_interp.specs.declared.engine.Engine.{Engine}
use Rattle.dg_lasting.specs.Lacks.{as_stored}
use Rattle.dg_interp.specs.inside.Engine.{store_in, steps_of, limit_in, StandsAt, Taken, Forgets, Then, Tells, events_of, WentOn, HasEndedSo, Branches, FullAt, PassesLimit, SameLimits}
use Rattle.dg_meaning.specs.Engines.{game, told_behind, left_told}
use Rattle.dg_meaning.proofs.Engines.{as_told}
use Rattle.dg_interp.specs.inside.Running.{HasText, Gave, Awaits, Stretch, Reaches, HasEnded, MeetsLimit, Ended, HasPart, IsLimited, TakesMore, LosesInput, LosesOutput, Broken, GoalDone, DoesGoal, TellsSo, ComesTo, over}
use Rattle.dg_interp.specs.inside.Showing.{calls_told, ShowsAll, BreaksSo}
use Rattle.dg_texts.specs.Spelling.{IsShort, SpellsSome}
use Rattle.dg_interp.specs.inside.Wording.{words_in, MakesAt, TakesLineAt, AwaitsInput}
use Rattle.dg_interp.proofs.Places.{inside_in, limits_at, same_limits, telling_limits, just_finished, adds_nothing}
use Rattle.dg_interp.proofs.Runs.{same_on, stretched, stretch_map, writes_nothing, writes_shown, text_shown, calls_shown, calls_lost, shows_on, loses_later, quiet_told, forgets_ready, forgets_stands, forgets_limits, forgets_left, finished_so, finished_here, finished_later, ended_at, limited_at, no_more, breaks_here}
use Rattle.dg_interp.proofs.Rounds.{then_called}
use Rattle.dg_interp.proofs.Wordings.{made_grows, made_later}
use Rattle.dg_texts.proofs.TypedLetters.{line_short}

-- how much is taken of the bytes that were given and those behind them
takes_all : (more rest typed behind left taken line : ℕ) → behind ≤ rest → typed ≡ more + rest → behind ≡ taken + left → behind < line → line ≡ more + rest → (0 + more + left ≤ typed) × (0 + left < typed)
takes_all more rest typed behind left taken line most whole split fewer all = (omega (arith, most, whole, split), omega (arith, fewer, all, whole, split))

-- a line that was read is short
pub short_line : (spelling : List ℕ) (old new : Option (List ℕ)) → Took old new (IsLine spelling) → SpellsSome IsShort spelling
short_line spelling old new took = by_left new (λ rest is. took.holds rest is) where
  from_line : (typed rest : List ℕ) → IsLine spelling typed rest → SpellsSome IsShort spelling
  from_line typed rest line = record { letters = letters_of (first_line typed); hold = line_short (first_line typed); is = line.spelled }

  by_left : (told : Option (List ℕ)) → ((rest : List ℕ) → IsLeft told rest → IsLine spelling (took.taken ++ rest) rest) → SpellsSome IsShort spelling
  by_left None f = from_line (took.taken ++ []) [] (f [] tt)
  by_left (Some rest) f = from_line (took.taken ++ rest) rest (f rest refl)

-- ## A goal that is taken and waits for a line

module _ {P : Type 0} (v : Watching P) (term : Term) (into : Ref) (old mid here : Engine) (some : 0 < length old.here.goals.now) (taken : Taken (Input term) old mid) (waits : AwaitsInput term into mid here) where
  left_is : old.left ≡ suc here.left
  left_is = taken.left ∙ ap suc (sym waits.left)

  limits_here : SameLimits old here
  limits_here = same_on old mid here (same_limits taken.limits) (same_limits waits.limits)

  -- the value of the line in front of some bytes
  abbrev pub value_in : World → Value
  value_in w = line_value (words_in here) (first_line w.typed)

  comes_here : (g : Game) (n : ℕ) (w : World) (run : Run) → StandsAt old g (suc n) w run → Then [] w (λ u. TakesLineAt into here g n u run)
  comes_here g n w run st = waits.leads g n w run (taken.takes g n w run st)

  -- where bytes are left, the line in front of them is taken, and its value is to be unified
  module _ (g : Game) (n : ℕ) (w : World) (run : Run) (u : World) (at : TakesLineAt into here g n u run) where
    abbrev behind : List ℕ → World
    behind typed = worked (reading (words_in here) (length (units_of (first_line typed))) + copied (line_value (words_in here) (first_line typed))) (printed (GapOf Line) (record u { typed = behind_first typed }))

    line_taken : (typed : List ℕ) → u.typed ≡ typed → typed ≢ [] → MakesAt (line_value (words_in here) (first_line typed)) into here g n (behind typed) run
    line_taken [] is some = absurd (some refl)
    line_taken (b ∷ bytes) is some = record {
      at = record { inside = inside_in _ at.at.inside.world at.at.inside.peak at.at.inside; ways = at.at.ways; ways_are = at.at.ways_are; registers = at.at.registers; agrees = at.at.agrees; tag = at.at.tag; stop = at.at.stop };
      went = subst (λ l. Went g at.at.inside.lives at.at.ways n (move_of (steps_of here) at.at.registers (takes_line (game here.program.now []) l (told (store_in here.store) into) at.at.registers u)) run) is at.went;
    }

    none_taken : u.typed ≡ [] → Finished n u (End InputEnded) run
    none_taken is = subst (λ l. Went g at.at.inside.lives at.at.ways n (move_of (steps_of here) at.at.registers (takes_line (game here.program.now []) l (told (store_in here.store) into) at.at.registers u)) run) is at.went

  -- ## No byte is left

  pub input_ends : (s : Spacer) (k : P) (i i' : SourceView) → IsOver i.left i'.left → i.faults ≤ i'.faults → Reaches v old s k i i' (HasEnded v InputEnded here.left s k (left_told i i'))
  input_ends s k i i' over later = record {
    taken = [];
    ended = true;
    gave = record { left = λ rest none. at_end i.left over.0 rest none; later = later };
    reaches = λ g w run start a st text.
        let t = comes_here g here.left w run (subst (λ n. StandsAt old g n w run) left_is st) in
        let none : w.typed ≡ [] = a.typed ∙ a.left in
        finished_here v (End InputEnded) InputEnded here.left here.left s k (left_told i i') w run start (told_none i.left i'.left over.0 over.1 w.typed none) text refl refl
        (record { world = t.world; adds = t.adds; holds = none_taken g here.left w run t.world t.holds (t.adds.typed ∙ none) });
  }
    where
      at_end : (told : Option (List ℕ)) → IsAtEnd told → (rest : List ℕ) → rest ≡ [] → IsLeft told rest
      at_end None h rest none = tt
      at_end (Some xs) h rest none = h ∙ sym none

      told_none : (old new : Option (List ℕ)) → IsAtEnd old → Keeps old new → (typed : List ℕ) → typed ≡ [] → IsLeft (told_behind old new) typed
      told_none None new h k typed none = tt
      told_none (Some xs) None h k typed none = absurd k
      told_none (Some xs) (Some ys) h k typed none = k ∙ h ∙ sym none

  -- ## The source failed

  shorter : (n : ℕ) (typed : List ℕ) → typed ≢ [] → length (behind_line (suc n) typed) < length typed
  shorter n [] some = absurd (some refl)
  shorter n (b ∷ typed) some = by_test (eqb b 10) where
    by_test : (t : Bool) → length (cond t typed (behind_line n typed)) < length (b ∷ typed)
    by_test true = omega arith
    by_test false = omega (arith, left_shorter n typed)

  pub input_fails : (s : Spacer) (k : P) (i i' : SourceView) → Took i.left i'.left (λ typed rest. length (behind_first typed) ≤ length rest) → i.faults ≤ i'.faults → Rose i.faults i'.faults → LosesInput v old s s k k i i'
  input_fails s k i i' took later rose = record {
    goals = 0;
    below = omega (arith, left_is);
    added = [];
    taken = [];
    more = took.taken;
    gave = record { left = took.gave; later = later };
    rose = rose;
    stops = λ g w run a st.
        let f = limited_at old g w run some st in
        stretched [] w (λ u. IsLimited u run)
        (record {
          world = w;
          adds = adds_nothing w;
          holds = record { ending = ap (λ (r : Run). r.ending) f.is; events = ap (λ (r : Run). r.world.events) f.is ∙ ap (λ (u : World). u.events) f.drops.is; typed = ap (λ (r : Run). r.world.typed) f.is ∙ ap (λ (u : World). u.typed) f.drops.is };
        });
    reads = λ g w run a st.
        let t = comes_here g 0 w run st in
        by_bytes g w run a.rest a.left t.world (t.adds.typed ∙ a.typed) t.holds (took.taken ++ a.rest) refl (ap length a.typed ∙ length-append took.taken a.rest);
    writes = writes_nothing v s k;
  }
    where
      by_bytes : (g : Game) (w : World) (run : Run) (rest : List ℕ) → IsLeft i'.left rest → (u : World) → u.typed ≡ took.taken ++ rest → TakesLineAt into here g 0 u run → (typed : List ℕ) → typed ≡ took.taken ++ rest → length w.typed ≡ length took.taken + length rest → TakesMore 0 (length took.taken) w run
      by_bytes g w run rest left u e at [] is count = inl (let f = none_taken g 0 w run u at (e ∙ sym is) in ap (λ (r : Run). r.ending) f.is)
      by_bytes g w run rest left u e at (b ∷ bytes) is count =
          let m = line_taken g 0 w run u at (b ∷ bytes) (e ∙ sym is) (λ none. cc none) in
          let grows = (made_grows (line_value (words_in here) (first_line (b ∷ bytes))) into here g 0 (behind g 0 w run u at (b ∷ bytes)) run m).typed in
          let fewer = shorter 65535 (b ∷ bytes) (λ none. cc none) in
          let most : length (behind_first (b ∷ bytes)) ≤ length rest = subst (λ l. length (behind_first l) ≤ length rest) (sym is) (took.holds rest left) in
          let whole = ap length is ∙ length-append took.taken rest in
          let ends = ap length grows.is ∙ length-append grows.taken run.world.typed in
          inr (takes_all (length took.taken) (length rest) (length w.typed) (length (behind_first (b ∷ bytes))) (length run.world.typed) (length grows.taken) (length (b ∷ bytes)) most count ends fewer whole)

  -- ## A line is read

  module _ (s s' : Spacer) (k k' : P) (i i' : SourceView) (spelling : List ℕ) (took : Took i.left i'.left (IsLine spelling)) (later : i.faults ≤ i'.faults) where
    abbrev es : List Event
    es = Prints (GapOf Line) ∷ []

    abbrev bytes : List ℕ
    bytes = took.taken

    gave : Gave i i' false bytes
    gave = record { left = took.gave; later = later }

    pub line_spelled : (w : World) → Awaits i' false bytes w → spelling ≡ encode_utf8_all (letters_of (first_line w.typed))
    line_spelled w a = subst (λ l. spelling ≡ encode_utf8_all (letters_of (first_line l))) (sym a.typed) (took.holds a.rest a.left).spelled

    comes : (g : Game) (n : ℕ) (w : World) (run : Run) → Awaits i' false bytes w → StandsAt old g (suc n) w run → Stretch es bytes w (λ u. MakesAt (value_in w) into here g n u run)
    comes g n w run a st =
        let t = comes_here g n w run st in
        let line : IsLine spelling w.typed a.rest = subst (λ l. IsLine spelling l a.rest) (sym a.typed) (took.holds a.rest a.left) in
        let at = line_taken g n w run t.world t.holds w.typed t.adds.typed line.some in
        record {
          world = behind g n w run t.world t.holds w.typed;
          events_are = ap (λ l. l ++ es) t.adds.events_are;
          typed = a.typed ∙ ap (λ l. bytes ++ l) (sym line.behind);
          holds = at;
        }

    happened : (g : Game) (n : ℕ) (w u : World) (run : Run) → MakesAt (value_in w) into here g n u run → Grows u run.world
    happened g n w u run m = made_later (value_in w) into here g n u run m

    comes_later : (g : Game) (n : ℕ) (w : World) (run : Run) → Awaits i' false bytes w → StandsAt old g (suc n) w run → Stretch es bytes w (λ u. Grows u run.world)
    comes_later g n w run a st = stretch_map es bytes w (λ u. MakesAt (value_in w) into here g n u run) (λ u. Grows u run.world) (λ u m. happened g n w u run m) (comes g n w run a st)

    -- it failed at the gap, or memory ran out
    pub gap_breaks : (fault : RunFault) → BreaksSo v fault es s s' k k' → Broken v fault old s s' k k' i i'
    gap_breaks fault h = breaks_here v old s s' k k' i i' es bytes here.left some left_is gave comes_later fault h

    -- ## The gap was printed

    module _ (quiet : here.told.items ≡ []) (shown : ShowsAll v es s s' k k') where
      text_here : (w u : World) (start : P) → u.events ≡ w.events ++ es → HasText v s start k w.events → HasText v s' start k' u.events
      text_here w u start more text = subst (HasText v s' start k') (sym more) (text_shown v s s' start k k' w.events es text shown)

      comes_at : (g : Game) (w : World) (run : Run) → Awaits i' false bytes w → StandsAt old g old.left w run → Stretch es bytes w (λ u. MakesAt (value_in w) into here g here.left u run)
      comes_at g w run a st = comes g here.left w run a (subst (λ n. StandsAt old g n w run) left_is st)

      -- a world that the source may stand for
      a_world : (w : World) × Awaits i' false bytes w
      a_world = by_left i'.left (λ rest is. is) where
        by_left : (told : Option (List ℕ)) → ((rest : List ℕ) → IsLeft told rest → IsLeft i'.left rest) → (w : World) × Awaits i' false bytes w
        by_left None f = (start_world (game old.program.now []) (bytes ++ []), record { rest = []; left = f [] tt; typed = refl })
        by_left (Some rest) f = (start_world (game old.program.now []) (bytes ++ rest), record { rest = rest; left = f rest refl; typed = refl })

      -- memory ran out behind the gap
      line_lost : Reaches v old s k i i' (HasPart v s' k' i'.left)
      line_lost = breaks_here v old s s' k k' i i' es bytes here.left some left_is gave comes_later OutOfMemory (record { front = es; rest = []; is = sym (append-nil es); shown = shown })

      line_limit : (area : Area) (left : ℕ) → here.left ≡ left → ((w : World) → Awaits i' false bytes w → PassesLimit area (MakesAt (value_in w) into here) (limit_in area here)) → MeetsLimit v area left old s s' k k' i i'
      line_limit area left same passes = record {
        goals = 0;
        left_is = omega (arith, left_is, same);
        added = es;
        taken = bytes;
        gave = gave;
        passed = λ g w run a st. let t = comes g 0 w run a st in subst (λ n. n < greatest area run.world.meters) (limits_at old here limits_here area) (passes w a g 0 t.world run t.holds);
        until = λ g w run a st. comes_later g 0 w run a st;
        since = λ g w run a st. no_more old es i' bytes g w run a some st;
        writes = writes_shown v s s' k k' es shown;
      }

      -- calls are told behind the line
      module _ (new e : Engine) (k'' : P) where
        abbrev cs : List CallEvent
        cs = new.told.items

        abbrev both : List Event
        both = es ++ events_of cs

        told_by : (Q : World → Type 0) (u : World) (h : Tells here new) → Then (events_of h.calls) u Q → Then (events_of cs) u Q
        told_by Q u h t = subst (λ l. Then (events_of l) u Q) (sym (quiet_told here new h quiet)) t

        both_lost : ((g : Game) (n : ℕ) (w : World) (run : Run) → Awaits i' false bytes w → (u : World) → MakesAt (value_in w) into here g n u run → Then (events_of cs) u (λ x. Grows x run.world)) → Lost v k' k'' (calls_told cs) → LosesOutput v old s k k'' i i'
        both_lost grows lost =
            breaks_here v old s s' k k'' i i' both bytes here.left some left_is gave
            (λ g n w run a st. then_called es bytes cs w (λ u. MakesAt (value_in w) into here g n u run) (λ u. Grows u run.world) (comes g n w run a st) (grows g n w run a))
            Write (loses_later v es (events_of cs) s s' k k' k'' shown (calls_lost v cs s' k' k'' lost))

        module _ (went : (w : World) → Awaits i' false bytes w → WentOn (MakesAt (value_in w) into here) here new) where
          went_to : (g : Game) (n : ℕ) (w : World) (run : Run) → Awaits i' false bytes w → (u : World) → MakesAt (value_in w) into here g n u run → Then (events_of cs) u (λ x. StandsAt new g n x run)
          went_to g n w run a u m = told_by (λ x. StandsAt new g n x run) u (went w a).limits ((went w a).leads g n u run m)

          line_done : Forgets new e → Given v k' k'' (calls_told cs) → GoalDone v old e s s' k k'' i i'
          line_done forgets given =
              let first = went a_world.0 a_world.1 in
              record {
                ready = forgets_ready new e forgets first.ready;
                limits = same_on old new e (same_on old here new limits_here (telling_limits first.limits)) (forgets_limits new e forgets);
                left = left_is ∙ ap suc (sym (forgets_left new e forgets ∙ first.left));
                added = both;
                taken = bytes;
                gave = gave;
                leads = λ g n w run a st.
                    then_called es bytes cs w (λ u. MakesAt (value_in w) into here g n u run) (λ u. StandsAt e g n u run) (comes g n w run a st)
                    (λ u m. let t = went_to g n w run a u m in record { world = t.world; adds = t.adds; holds = forgets_stands new e forgets g n t.world run t.holds });
                writes = writes_shown v s s' k k'' both (shows_on v es (events_of cs) s s' s' k k' k'' shown (calls_shown v cs s' k' k'' given));
                silent = forgets.told;
              }

          line_done_lost : Lost v k' k'' (calls_told cs) → LosesOutput v old s k k'' i i'
          line_done_lost lost =
              both_lost
              (λ g n w run a u m.
              let t = went_to g n w run a u m in
              record { world = t.world; adds = t.adds; holds = stands_happened g t.holds.at.inside.lives t.holds.at.ways _ n t.world run t.holds.stands })
              lost

        module _ (failed : (w : World) → Awaits i' false bytes w → HasEndedSo (MakesAt (value_in w) into here) Failing here new) where
          failed_so : (g : Game) (n : ℕ) (w : World) (run : Run) → Awaits i' false bytes w → (u : World) → MakesAt (value_in w) into here g n u run → Then (events_of cs) u (λ x. Finished n x Failing run)
          failed_so g n w run a u m = told_by (λ x. Finished n x Failing run) u (failed w a).limits (just_finished ((failed w a).ends g n u run m))

          line_failed : Forgets new e → Given v k' k'' (calls_told cs) → Reaches v old s k i i' (HasEnded v Failed e.left s' k'' (left_told i i'))
          line_failed forgets given = record {
            taken = bytes;
            ended = false;
            gave = gave;
            reaches = λ g w run start a st text.
                let t = comes_at g w run a st in
                let left = subst (IsLeft i'.left) (append_cancel_left bytes a.rest t.world.typed (sym a.typed ∙ t.typed)) a.left in
                let x = finished_so v Failing Failed here.left e.left s' k' k'' (left_told i i') t.world run start (as_told i i' t.world.typed left) (text_here w t.world start t.events_are text) (sym (forgets_left new e forgets ∙ (failed w a).left)) refl cs given (failed_so g here.left w run a t.world t.holds) in
                record { world = x.world; typed = x.typed; is = x.is; text = x.text };
          }

          line_failed_lost : Lost v k' k'' (calls_told cs) → LosesOutput v old s k k'' i i'
          line_failed_lost lost =
              both_lost
              (λ g n w run a u m. let t = failed_so g n w run a u m in record { world = t.world; adds = t.adds; holds = finished_later n t.world Failing run t.holds })
              lost

        module _ (left : new.left ≡ here.left) (result : Result (Option Ending) RunFault) (s'' : Spacer) (same : s'' ≡ s') where
          went_does : ((w : World) → Awaits i' false bytes w → WentOn (MakesAt (value_in w) into here) here new) → (q : Result (Option Ending) RunFault) → TellsSo v None new e k' k'' q → IfOk q (λ ending. DoesGoal v ending old e s s' k k'' i i')
          went_does went (Ok o) t = subst (λ o. DoesGoal v o old e s s' k k'' i i') (sym t.is) (line_done went t.forgets t.given)
          went_does went (Err fault) t = tt

          went_breaks : ((w : World) → Awaits i' false bytes w → WentOn (MakesAt (value_in w) into here) here new) → (q : Result (Option Ending) RunFault) → TellsSo v None new e k' k'' q → IfErr q (λ fault. Broken v fault old s s' k k'' i i')
          went_breaks went (Ok o) t = tt
          went_breaks went (Err Write) t = line_done_lost went t
          went_breaks went (Err Read) t = absurd t
          went_breaks went (Err OutOfMemory) t = absurd t

          failed_does : ((w : World) → Awaits i' false bytes w → HasEndedSo (MakesAt (value_in w) into here) Failing here new) → (q : Result (Option Ending) RunFault) → TellsSo v (Some Failed) new e k' k'' q → IfOk q (λ ending. DoesGoal v ending old e s s' k k'' i i')
          failed_does failed (Ok o) t = subst (λ o. DoesGoal v o old e s s' k k'' i i') (sym t.is) (line_failed failed t.forgets t.given)
          failed_does failed (Err fault) t = tt

          failed_breaks : ((w : World) → Awaits i' false bytes w → HasEndedSo (MakesAt (value_in w) into here) Failing here new) → (q : Result (Option Ending) RunFault) → TellsSo v (Some Failed) new e k' k'' q → IfErr q (λ fault. Broken v fault old s s' k k'' i i')
          failed_breaks failed (Ok o) t = tt
          failed_breaks failed (Err Write) t = line_failed_lost failed t
          failed_breaks failed (Err Read) t = absurd t
          failed_breaks failed (Err OutOfMemory) t = absurd t

          limit_does : (area : Area) → ((w : World) → Awaits i' false bytes w → PassesLimit area (MakesAt (value_in w) into here) (limit_in area here)) → e ≡ new → k'' ≡ k' → Ended v (limit_ending area) e.left old s s' k k'' i i'
          limit_does area passes same shown_same =
              subst (λ p. Ended v (limit_ending area) e.left old s s' k p i i') (sym shown_same)
              (ended_at v area e.left old s s' k k' i i' (line_limit area e.left (sym (ap (λ (y : Engine). y.left) same ∙ left)) passes))

          does_at : IfOk result (λ ending. DoesGoal v ending old e s s' k k'' i i') → IfOk result (λ ending. DoesGoal v ending old e s s'' k k'' i i')
          does_at h = subst (λ z. IfOk result (λ ending. DoesGoal v ending old e s z k k'' i i')) (sym same) h

          breaks_at : IfErr result (λ fault. Broken v fault old s s' k k'' i i') → IfErr result (λ fault. Broken v fault old s s'' k k'' i i')
          breaks_at h = subst (λ z. IfErr result (λ fault. Broken v fault old s z k k'' i i')) (sym same) h

          -- what it lacked, at what this comes to
          ok_as : (q : Result (Option Ending) RunFault) → result ≡ q → IfOk q (λ ending. DoesGoal v ending old e s s' k k'' i i') → IfOk result (λ ending. DoesGoal v ending old e s s'' k k'' i i')
          ok_as q is h = does_at (subst (λ q. IfOk q (λ ending. DoesGoal v ending old e s s' k k'' i i')) (sym is) h)

          err_as : (q : Result (Option Ending) RunFault) → result ≡ q → IfErr q (λ fault. Broken v fault old s s' k k'' i i') → IfErr result (λ fault. Broken v fault old s s'' k k'' i i')
          err_as q is h = breaks_at (subst (λ q. IfErr q (λ fault. Broken v fault old s s' k k'' i i')) (sym is) h)

          pub line_does : (r : Result Bool Full) → ComesTo v (as_stored r) new e k' k'' result → ((w : World) → Awaits i' false bytes w → IfOk r (λ found. Branches (MakesAt (value_in w) into here) found here new)) → ((w : World) → Awaits i' false bytes w → IfErr r (λ e. FullAt (MakesAt (value_in w) into here) (store_in here.store) e)) → IfOk result (λ ending. DoesGoal v ending old e s s'' k k'' i i')
          line_does (Ok true) t ok err = does_at (went_does ok result t)
          line_does (Ok false) t ok err = does_at (failed_does ok result t)
          line_does (Err full.Heap) t ok err = ok_as (Ok (Some HeapLimit)) t.is (limit_does Heap err t.engine t.shown)
          line_does (Err full.Trail) t ok err = ok_as (Ok (Some TrailLimit)) t.is (limit_does Trail err t.engine t.shown)
          line_does (Err full.OutOfMemory) t ok err = ok_as (Err OutOfMemory) t.is tt

          pub line_breaks : (r : Result Bool Full) → ComesTo v (as_stored r) new e k' k'' result → ((w : World) → Awaits i' false bytes w → IfOk r (λ found. Branches (MakesAt (value_in w) into here) found here new)) → IfErr result (λ fault. Broken v fault old s s'' k k'' i i')
          line_breaks (Ok true) t ok = breaks_at (went_breaks ok result t)
          line_breaks (Ok false) t ok = breaks_at (failed_breaks ok result t)
          line_breaks (Err full.Heap) t ok = err_as (Ok (Some HeapLimit)) t.is tt
          line_breaks (Err full.Trail) t ok = err_as (Ok (Some TrailLimit)) t.is tt
          line_breaks (Err full.OutOfMemory) t ok = err_as (Err OutOfMemory) t.is (subst (λ p. Reaches v old s k i i' (HasPart v s' p i'.left)) (sym t.shown) line_lost)
