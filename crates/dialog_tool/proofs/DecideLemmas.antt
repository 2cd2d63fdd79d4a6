-- Which statuses come where: each command has its own answers.
use Rattle.std.proofs.Common.{◌≡◌, ◌⊎◌, inl, inr, ℕ, List, Option, Some, None, Result, Ok, Err, refl, sym, ◌∙◌, ap, subst, ◌<◌, ◌≤◌, length, arith}
use Rattle.dg_base.specs.declared.program.CoreProgram.{CoreProgram as Core}
use Rattle.dg_base.specs.declared.refusal.Refusal.{Refusal}
use Rattle.dg_base.specs.declared.run.Ending.{Ending}
use Rattle.dg_base.specs.declared.run.Ending.TheVariants.{Done, Quit, Failed, Stopped, InputEnded, StepLimit, HeapLimit, TrailLimit, AuxLimit, KeepLimit}
use Rattle.dg_base.specs.declared.run.RunFault.{RunFault}
use Rattle.dg_base.specs.declared.run.RunFault.TheVariants as fault
use Rattle.dg_story.specs.Refusals as build
use Rattle.dg_story.specs.declared.refusal.BuildRefusal.{BuildRefusal}
use Rattle.z_list.specs.Reads.{IsListing, IsBadAt}
use Rattle.z_model.specs.Run.{ZRun}
use Rattle.z_model.specs.Story.{story_refusal, story_run}
use Rattle.z_model.specs.declared.story.StoryRefusal.{StoryRefusal}
use Rattle.dialog_tool.specs.Command.{debug, play, run, build, singles, make, list, join, trace, Command, Task}
use Rattle.dialog_tool.specs.layer.Statuses.{source_named, Comes, Decides}
use Rattle.dialog_tool.specs.Call.{Call, Outside, IsAsTold, file_at, dice_for}
use Rattle.dialog_tool.specs.Lines.{Says, said, unsaid}
use Rattle.dialog_tool.specs.Running.{run_of_story}
use Rattle.dg_compile.specs.Source.{Compiles}
use Rattle.dialog_tool.specs.Promise.{Answers, Prints, Reads, lost, refused, program, Runs, ran, input_lost, out_lost, RunsProgram, status_of_fault, TracesProgram, has_traced, has_lost, EndsStory, status_of_end, Lists, Makes, reports, overflows, Loads, lost_story, no_story, story, Builds, no_story_of, plays, HasNone, ListsAny, none_to_list, one_to_list, IsUnjoined, lost_listing, no_listing, long_listing, IsStored, held, not_held, no_room_for_it, Stores, Joins, Does, ComesTo, no_memory, does, stores, joins, status_of}

-- a source has one answer
abbrev IsOne : Type 0
IsOne = (source : List ℕ) (x y : Result Core Refusal) → Compiles source x → Compiles source y → x ≡ y

-- ## What is told is one

as_told : {A : Type 0} (told : Option A) (a b : A) → told ≡ Some a → IsAsTold told b → a ≡ b
as_told None a b e h = cc
as_told (Some x) a b e h = let same : x ≡ a = cc in sym same ∙ h

-- what is printed at once comes with its status
printed : (c : Call) (status : ℕ) (text : List ℕ) (result : ℕ) → Prints c status text result → Comes status result
printed c status text result p = here p.says
  where
    here : Says status text c.out c.out_after result → Comes status result
    here (said e w) = inl e
    here (unsaid e b) = inr (inl e)

five : (c : Call) (text : List ℕ) (result : ℕ) → Prints c 5 text result → result ≡ 5
five c text result p = here p.says
  where
    here : Says 5 text c.out c.out_after result → result ≡ 5
    here (said e w) = e
    here (unsaid e b) = e

early : {status result : ℕ} → result ≡ 5 → Comes status result
early e = inr (inl e)

late : (c : Call) (text : List ℕ) (result : ℕ) → Prints c 6 text result → (result ≡ 5) ⊎ (result ≡ 6)
late c text result p = here p.says
  where
    here : Says 6 text c.out c.out_after result → (result ≡ 5) ⊎ (result ≡ 6)
    here (said e w) = inr e
    here (unsaid e b) = inl e

-- ## Sources

no_program : {A : Type 0} → IsOne → (source : List ℕ) (p : Core) (r : Refusal) → Compiles source (Ok p) → Compiles source (Err r) → A
no_program one source p r h k = let no = one source (Ok p) (Err r) h k in cc

-- where it is refused
read_badly : IsOne → (c : Call) (o : Outside) (name : List ℕ) (P : Core → Type 0) (result : ℕ) (r : Refusal) → Compiles (file_at o name) (Err r) → Reads c o name P result → Comes 1 result
read_badly one c o name P result r h (lost l p) = early (five c _ result p)
read_badly one c o name P result r h (refused q k p) = printed c 1 _ result p
read_badly one c o name P result r h (program q k d) = no_program one (file_at o name) q r k h

-- where it is a program
read_well : IsOne → (c : Call) (o : Outside) (name : List ℕ) (P : Core → Type 0) (result : ℕ) (q : Core) → Compiles (file_at o name) (Ok q) → Reads c o name P result → (result ≡ 5) ⊎ P q
read_well one c o name P result q h (lost l p) = inl (five c _ result p)
read_well one c o name P result q h (refused r k p) = no_program one (file_at o name) q r h k
read_well one c o name P result q h (program r k d) = let is = one (file_at o name) (Ok r) (Ok q) k h in inr (subst P (let same : r ≡ q = cc in same) d)

refused_as : IsOne → (c : Call) (o : Outside) (name : List ℕ) (r : Refusal) (result : ℕ) → Compiles (file_at o name) (Err r) → (command : Option Command) → source_named command ≡ Some name → Does c o command result → Comes 1 result
refused_as one c o name r result h None e d = cc
refused_as one c o name r result h (Some (debug t)) e d = read_badly one c o t.name _ result r (subst (λ (n : List ℕ). Compiles (file_at o n) (Err r)) (let same : name ≡ t.name = cc in same) h) d
refused_as one c o name r result h (Some (play t)) e d = cc
refused_as one c o name r result h (Some (run t)) e d = read_badly one c o t.name _ result r (subst (λ (n : List ℕ). Compiles (file_at o n) (Err r)) (let same : name ≡ t.name = cc in same) h) d
refused_as one c o name r result h (Some (build n to)) e d = read_badly one c o n _ result r (subst (λ (m : List ℕ). Compiles (file_at o m) (Err r)) (let same : name ≡ n = cc in same) h) d
refused_as one c o name r result h (Some (singles n)) e d = read_badly one c o n _ result r (subst (λ (m : List ℕ). Compiles (file_at o m) (Err r)) (let same : name ≡ n = cc in same) h) d
refused_as one c o name r result h (Some (make n)) e d = cc
refused_as one c o name r result h (Some (list n)) e d = read_badly one c o n _ result r (subst (λ (m : List ℕ). Compiles (file_at o m) (Err r)) (let same : name ≡ n = cc in same) h) d
refused_as one c o name r result h (Some (join n to)) e d = cc
refused_as one c o name r result h (Some (trace t)) e d = read_badly one c o t.name _ result r (subst (λ (n : List ℕ). Compiles (file_at o n) (Err r)) (let same : name ≡ t.name = cc in same) h) d

-- ## Runs

status_ends : (e : Ending) → (status_of e ≡ 0) ⊎ (status_of e ≡ 3)
status_ends Done = inl refl
status_ends Quit = inl refl
status_ends Failed = inl refl
status_ends Stopped = inl refl
status_ends InputEnded = inl refl
status_ends StepLimit = inr refl
status_ends HeapLimit = inr refl
status_ends TrailLimit = inr refl
status_ends AuxLimit = inr refl
status_ends KeepLimit = inr refl

ended : {result : ℕ} (e : Ending) → result ≡ status_of e → (result ≡ 0) ⊎ Comes 3 result
ended {result = result} e is = which (status_ends e)
  where
    which : (status_of e ≡ 0) ⊎ (status_of e ≡ 3) → (result ≡ 0) ⊎ Comes 3 result
    which (inl zero) = inl (is ∙ zero)
    which (inr three) = inr (inl (is ∙ three))

run_ended : (c : Call) (o : Outside) (t : Task) (p : Core) (result : ℕ) → (result ≡ 5) ⊎ RunsProgram c o t p result → (result ≡ 0) ⊎ Comes 3 result
run_ended c o t p result (inl e) = inr (early e)
run_ended c o t p result (inr (ran text rest e wrote left)) = ended e.0.ending e.1
run_ended c o t p result (inr (input_lost e rose n rest h wrote left)) = inr (early e)
run_ended c o t p result (inr (out_lost e rose status written text rest h broke left)) = inr (early e)

-- a fault's status
lost_at : (result : ℕ) (fault : RunFault) → result ≡ status_of_fault fault → (result ≡ 5) ⊎ (result ≡ 6)
lost_at result fault.Read e = inl e
lost_at result fault.Write e = inl e
lost_at result fault.OutOfMemory e = inr e

trace_ended : (c : Call) (o : Outside) (t : Task) (p : Core) (result : ℕ) → (result ≡ 5) ⊎ TracesProgram c o t p result → (result ≡ 0) ⊎ Comes 3 result
trace_ended c o t p result (inl e) = inr (early e)
trace_ended c o t p result (inr (has_traced outcome e h)) = ended outcome.ending e
trace_ended c o t p result (inr (has_lost fault e rose h)) = inr (inr (lost_at result fault e))

listed : (c : Call) (p : Core) (result : ℕ) → (result ≡ 5) ⊎ Lists c p result → Comes 0 result
listed c p result (inl e) = early e
listed c p result (inr l) = printed c 0 _ result l.prints

-- ## What is made

made_so : (c : Call) (n status result : ℕ) (text : List ℕ) → Prints c status text result → Makes c.dice n status text → (result ≡ 0) ⊎ Comes 3 result
made_so c n status result text p (reports r k output outcome left shows e d) = here (printed c status text result p)
  where
    here : Comes status result → (result ≡ 0) ⊎ Comes 3 result
    here (inl s) = ended outcome.ending (s ∙ e)
    here (inr other) = inr (inr other)
made_so c n status result text p (overflows r k output outcome left shows long e d) = inr (subst (λ (s : ℕ). Comes s result) e (printed c status text result p))

-- ## Stories

no_story_there : (c : Call) (o : Outside) (t : Task) (result : ℕ) (r : StoryRefusal) → story_refusal (file_at o t.name) ≡ Some r → Loads c o t result → Comes 4 result
no_story_there c o t result r h (lost_story l p) = early (five c _ result p)
no_story_there c o t result r h (no_story q k p) = printed c 4 _ result p
no_story_there c o t result r h (story k p) = let no = sym h ∙ k in cc

story_ended : (c : Call) (r : ℕ → ZRun) (most result : ℕ) → Runs c (run_of_story r) most (EndsStory (r most)) result → Comes (status_of_end (r most).end) result
story_ended c r most result (ran text rest e wrote left) = inl e.0
story_ended c r most result (input_lost e rose n rest h wrote left) = early e
story_ended c r most result (out_lost e rose status written text rest h broke left) = early e

played_so : (c : Call) (o : Outside) (t : Task) (result : ℕ) → story_refusal (file_at o t.name) ≡ None → Loads c o t result → Comes (status_of_end (story_run (file_at o t.name) o.typed (dice_for c t) t.steps).end) result
played_so c o t result h (lost_story l p) = early (five c _ result p)
played_so c o t result h (no_story q k p) = let no = sym h ∙ k in cc
played_so c o t result h (story k d) = story_ended c (story_run (file_at o t.name) o.typed (dice_for c t)) t.steps result d.0

not_both : {A : Type 0} (p : Core) (r : BuildRefusal) → build.build_refusal p ≡ None → build.build_refusal p ≡ Some r → A
not_both p r h k = let no = sym h ∙ k in cc

no_story_to_run : (c : Call) (o : Outside) (t : Task) (p : Core) (result : ℕ) (r : BuildRefusal) → build.build_refusal p ≡ Some r → (result ≡ 5) ⊎ Builds c o t p result → Comes 7 result
no_story_to_run c o t p result r h (inl e) = early e
no_story_to_run c o t p result r h (inr (no_story_of q k q')) = printed c 7 _ result q'
no_story_to_run c o t p result r h (inr (plays bytes s d)) = not_both p r s.fits h

no_story_to_store : (c : Call) (name : List ℕ) (p : Core) (result : ℕ) → (result ≡ 5) ⊎ HasNone c name p result → Comes 7 result
no_story_to_store c name p result (inl e) = early e
no_story_to_store c name p result (inr n) = printed c 7 _ result n.prints

a_story_to_store : (c : Call) (name : List ℕ) (p : Core) (result : ℕ) → build.build_refusal p ≡ None → (result ≡ 5) ⊎ HasNone c name p result → Comes 0 result
a_story_to_store c name p result h (inl e) = early e
a_story_to_store c name p result h (inr n) = not_both p n.refusal h n.refused

stored : (c : Call) (to bytes : List ℕ) (result : ℕ) → IsStored c to bytes result → Comes 0 result
stored c to bytes result (held e w s i) = inl e
stored c to bytes result (not_held rose sure p) = early (five c _ result p)
stored c to bytes result (no_room_for_it p) = inr (late c _ result p)

-- ## Listings

a_story_to_list : (c : Call) (name : List ℕ) (p : Core) (result : ℕ) → build.build_refusal p ≡ None → (result ≡ 5) ⊎ ListsAny c name p result → Comes 0 result
a_story_to_list c name p result h (inl e) = early e
a_story_to_list c name p result h (inr (none_to_list n)) = not_both p n.refusal h n.refused
a_story_to_list c name p result h (inr (one_to_list l)) = printed c 0 _ result l.prints

no_story_to_list : (c : Call) (name : List ℕ) (p : Core) (result : ℕ) (r : BuildRefusal) → build.build_refusal p ≡ Some r → (result ≡ 5) ⊎ ListsAny c name p result → Comes 7 result
no_story_to_list c name p result r h (inl e) = early e
no_story_to_list c name p result r h (inr (none_to_list n)) = printed c 7 _ result n.prints
no_story_to_list c name p result r h (inr (one_to_list l)) = not_both p r l.story.fits h

unjoined : (c : Call) (o : Outside) (name : List ℕ) (result : ℕ) → IsUnjoined c o name result → Comes 4 result
unjoined c o name result (lost_listing l p) = early (five c _ result p)
unjoined c o name result (no_listing line bad short p) = printed c 4 _ result p
unjoined c o name result (long_listing long p) = printed c 4 _ result p

unjoined_lost : (c : Call) (o : Outside) (name bytes : List ℕ) (result : ℕ) → IsListing (file_at o name) bytes → length (file_at o name) ≤ 33554432 → IsUnjoined c o name result → Comes 0 result
unjoined_lost c o name bytes result is short (lost_listing l p) = early (five c _ result p)
unjoined_lost c o name bytes result is short (no_listing line bad few p) = absurd (bad.none bytes is)
unjoined_lost c o name bytes result is short (long_listing long p) = absurd (omega (arith, short, long))

-- ## By the words

-- what a call of these words comes to
by_command : (c : Call) (o : Outside) (result : ℕ) (command : Option Command) (C : Type 0) → c.command ≡ command → ((result ≡ 5) ⊎ (result ≡ 6) → C) → (Does c o command result → C)
    → ((name to : List ℕ) → command ≡ Some (build name to) → Stores c o name to result → C) → ((name to : List ℕ) → command ≡ Some (join name to) → Joins c o name to result → C)
    → ComesTo c o result → C
by_command c o result command C e short does_so stores_so joins_so (no_memory kept p) = short (late c _ result p)
by_command c o result command C e short does_so stores_so joins_so (does kept d) = does_so (subst (λ (x : Option Command). Does c o x result) e d)
by_command c o result command C e short does_so stores_so joins_so (stores name to words s) = stores_so name to (sym e ∙ words) s
by_command c o result command C e short does_so stores_so joins_so (joins name to words s) = joins_so name to (sym e ∙ words) s

here_it_is : (told : Option (List ℕ → Option (List ℕ))) (p o : Outside) → told ≡ Some o.contents → IsAsTold told p.contents → o.contents ≡ p.contents
here_it_is told p o e h = as_told told o.contents p.contents e h

abbrev outside : (List ℕ → Option (List ℕ)) → List ℕ → Outside
outside contents typed = record { contents = contents; typed = typed }

outside_is : (p o : Outside) → o.contents ≡ p.contents → o.typed ≡ p.typed → o ≡ p
outside_is p o h k = ap (λ (contents : List ℕ → Option (List ℕ)). outside contents o.typed) h ∙ ap (outside p.contents) k

pub decided : (c : Call) (result : ℕ) → IsOne → Answers c result → Decides c result
decided c result one a =
    let by : (command : Option Command) (C : Type 0) → c.command ≡ command → ((result ≡ 5) ⊎ (result ≡ 6) → C) → (Does c a.outside command result → C) → ((name to : List ℕ) → command ≡ Some (build name to) → Stores c a.outside name to result → C) →
    ((name to : List ℕ) → command ≡ Some (join name to) → Joins c a.outside name to result → C) → C =
    λ command C e short d s j. by_command c a.outside result command C e short d s j a.answer in
    let found : (o : Outside) → c.shelf.contents ≡ Some o.contents → (name : List ℕ) (P : List ℕ → Type 0) → P (file_at o name) → P (file_at a.outside name) =
    λ o told name P h. subst (λ (contents : List ℕ → Option (List ℕ)). P (file_at (outside contents o.typed) name)) (here_it_is c.shelf.contents a.outside o told a.found.contents) h in
    record {
      no_command = λ none. by None _ none inr (λ d. printed c 2 _ result d.0) (λ name to e s. cc) (λ name to e s. cc);
      refuses = λ o told name words r h.
          by c.command _ refl inr (refused_as one c a.outside name r result (found o told name (λ l. Compiles l (Err r)) h) c.command words) (λ n to e s. stored_anyway o told name words r h n to e s) (λ n to e s. let named = sym words ∙ ap source_named e in cc);
      runs = λ o told t words p h.
          by (Some (debug t)) _ words (λ s. inr (inr s)) (λ d. run_ended c a.outside t p result (read_well one c a.outside t.name _ result p (found o told t.name (λ l. Compiles l (Ok p)) h) d)) (λ name to e s. cc) (λ name to e s. cc);
      traces = λ o told t words p h.
          by (Some (trace t)) _ words (λ s. inr (inr s)) (λ d. trace_ended c a.outside t p result (read_well one c a.outside t.name _ result p (found o told t.name (λ l. Compiles l (Ok p)) h) d)) (λ name to e s. cc) (λ name to e s. cc);
      lists = λ o told name words p h.
          by (Some (singles name)) _ words inr (λ d. listed c p result (read_well one c a.outside name _ result p (found o told name (λ l. Compiles l (Ok p)) h) d)) (λ n to e s. cc) (λ n to e s. cc);
      makes = λ n words. by (Some (make n)) _ words (λ s. inr (inr s)) (λ d. made_so c n d.status result d.text d.prints d.makes) (λ name to e s. cc) (λ name to e s. cc);
      builds = λ o told name to words p h fits.
          by (Some (build name to)) _ words inr (λ d. a_story_to_store c name p result fits (read_well one c a.outside name _ result p (found o told name (λ l. Compiles l (Ok p)) h) d)) (λ n m e s. stored c m s.bytes result s.keeps) (λ n m e s. cc);
      builds_none = λ o told name to words p h r none.
          by (Some (build name to)) _ words inr (λ d. no_story_to_store c name p result (read_well one c a.outside name _ result p (found o told name (λ l. Compiles l (Ok p)) h) d))
          (λ n m e s. not_stored p r none n (found o told n (λ l. Compiles l (Ok p)) (subst (λ (l : List ℕ). Compiles (file_at o l) (Ok p)) (let same : name ≡ n = cc in same) h)) m s) (λ n m e s. cc);
      runs_none = λ o told t words p h r none.
          by (Some (run t)) _ words inr (λ d. no_story_to_run c a.outside t p result r none (read_well one c a.outside t.name _ result p (found o told t.name (λ l. Compiles l (Ok p)) h) d)) (λ name to e s. cc) (λ name to e s. cc);
      lists_story = λ o told name words p h fits.
          by (Some (list name)) _ words inr (λ d. a_story_to_list c name p result fits (read_well one c a.outside name _ result p (found o told name (λ l. Compiles l (Ok p)) h) d)) (λ n to e s. cc) (λ n to e s. cc);
      lists_none = λ o told name words p h r none.
          by (Some (list name)) _ words inr (λ d. no_story_to_list c name p result r none (read_well one c a.outside name _ result p (found o told name (λ l. Compiles l (Ok p)) h) d)) (λ n to e s. cc) (λ n to e s. cc);
      joins = λ o told name to words bytes is short.
          by (Some (join name to)) _ words inr (unjoined_lost c a.outside name bytes result (found o told name (λ l. IsListing l bytes) is) (found o told name (λ l. length l ≤ 33554432) short))
          (λ n m e s. cc) (λ n m e s. stored c m s.bytes result s.keeps);
      joins_badly = λ o told name to words line bad.
          by (Some (join name to)) _ words inr (unjoined c a.outside name result) (λ n m e s. cc)
          (λ n m e s. let same : name ≡ n = cc in absurd ((subst (λ (l : List ℕ). IsBadAt (file_at a.outside l) line) same (found o told name (λ l. IsBadAt l line) bad)).none s.bytes s.listing));
      joins_too_long = λ o told name to words long.
          by (Some (join name to)) _ words inr (unjoined c a.outside name result) (λ n m e s. cc)
          (λ n m e s. let same : name ≡ n = cc in absurd (omega (arith, s.short, subst (λ (l : List ℕ). 33554432 < length (file_at a.outside l)) same (found o told name (λ l. 33554432 < length l) long))));
      no_story = λ o told t words r h. by (Some (play t)) _ words inr (no_story_there c a.outside t result r (found o told t.name (λ l. story_refusal l ≡ Some r) h)) (λ name to e s. cc) (λ name to e s. cc);
      plays = λ o told typed t words h.
          let same = outside_is a.outside o (here_it_is c.shelf.contents a.outside o told a.found.contents) (as_told c.input.left o.typed a.outside.typed typed a.found.typed) in
          by (Some (play t)) _ words inr (λ d. subst (λ (p : Outside). Comes (status_of_end (story_run (file_at p t.name) p.typed (dice_for c t) t.steps).end) result) (sym same)
          (played_so c a.outside t result (subst (λ (p : Outside). story_refusal (file_at p t.name) ≡ None) same h) d)) (λ name to e s. cc) (λ name to e s. cc);
    }
  where
    stored_anyway : (o : Outside) → c.shelf.contents ≡ Some o.contents → (name : List ℕ) → source_named c.command ≡ Some name → (r : Refusal) → Compiles (file_at o name) (Err r)
        → (n to : List ℕ) → c.command ≡ Some (build n to) → Stores c a.outside n to result → Comes 1 result
    stored_anyway o told name words r h n to e s =
        let same : name ≡ n = (let named = sym words ∙ ap source_named e in cc) in
        no_program one (file_at a.outside n) s.program r s.compiles
        (subst (λ (contents : List ℕ → Option (List ℕ)). Compiles (file_at (outside contents o.typed) n) (Err r)) (here_it_is c.shelf.contents a.outside o told a.found.contents)
        (subst (λ (l : List ℕ). Compiles (file_at o l) (Err r)) same h))

    not_stored : (p : Core) (r : BuildRefusal) → build.build_refusal p ≡ Some r → (n : List ℕ) → Compiles (file_at a.outside n) (Ok p) → (m : List ℕ) → Stores c a.outside n m result → Comes 7 result
    not_stored p r none n h m s =
        let is = one (file_at a.outside n) (Ok s.program) (Ok p) s.compiles h in
        not_both p r (subst (λ (q : Core). build.build_refusal q ≡ None) (let same : s.program ≡ p = cc in same) s.story.fits) none
