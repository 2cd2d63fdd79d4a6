-- From what the parts of a call did to its answer.
use Rattle.std.proofs.Common.{◌≡◌, ◌<◌, ℕ, zero, suc, List, [], ◌∷◌, length, Bool, true, Option, Some, None, Ok, Err, IsTrue, refl, sym, ap, subst, arith}
use Rattle.std.specs.Prelude.{IsSome, nat_lt}
use Rattle.std.proofs.lemmas.Bool.Decides.{nat_tests}
use Rattle.dg_base.specs.Causes.{Rose}
use Rattle.dg_base.specs.Shelves.{Told, ShelfView, held, WhereTold, KeepsAll}
use Rattle.dg_base.specs.declared.program.CoreProgram.{CoreProgram as Core}
use Rattle.dg_base.specs.Written.{SinkView}
use Rattle.dg_base.specs.declared.refusal.Refusal.{Refusal}
use Rattle.dg_base.specs.declared.refusal.Kind.TheVariants.{SourceTooLong}
use Rattle.dg_meaning.specs.Transcript.{no_memory_line}
use Rattle.dg_single.specs.Singles.{AreSingles}
use Rattle.dg_meaning.specs.inside.Engines.{ForTyped}
use Rattle.dg_machine.specs.Program.{IsUntouched}
use Rattle.z_model.specs.Story.{story_refusal}
use Rattle.z_model.specs.declared.story.StoryRefusal.{StoryRefusal}
use Rattle.z_model.specs.declared.story.StoryRefusal.TheVariants.{BadLength}
use Rattle.dialog_tool.specs.Command.{Command, debug, play, run, build, singles, make, list, join, trace, Task}
use Rattle.dialog_tool.specs.layer.Statuses.{source_named}
use Rattle.dialog_tool.specs.Call.{Call, Outside, Finds, IsAsTold}
use Rattle.dialog_tool.specs.inside.Calls.{IsFetched}
use Rattle.dialog_tool.specs.Lines.{Says, usage_line, refusal_line, story_line, file_fault_line}
use Rattle.dialog_tool.specs.Report.{report}
use Rattle.dg_compile.specs.Source.{Compiles, refusal_at}
use Rattle.dialog_tool.specs.Promise
use Rattle.dialog_tool.specs.Promise.{Keeps, Prints, Reads, RunsProgram, Does, ComesTo, lost, refused, program, lost_story, no_story, no_memory, does}
use Rattle.dialog_tool.proofs.Never.{never}

-- ## What is told

-- contents as they are told, of which this holds
pub some_contents : (told : Told) (P : (List ℕ → Option (List ℕ)) → Type 0) (any : List ℕ → Option (List ℕ)) → P any → WhereTold told P → (contents : List ℕ → Option (List ℕ)) × IsAsTold told contents × P contents
some_contents None P any p h = (any, tt, p)
some_contents (Some contents) P any p h = (contents, refl, h)

-- bytes as they are told, of which this holds
pub some_typed : (left : Option (List ℕ)) (P : List ℕ → Type 0) → ForTyped left P → (typed : List ℕ) × IsAsTold left typed × P typed
some_typed None P h = (h.0, tt, h.1)
some_typed (Some typed) P h = (typed, refl, h)

-- bytes as they are told
pub any_typed : (left : Option (List ℕ)) → (typed : List ℕ) × IsAsTold left typed × (IsSome left → left ≡ Some typed)
any_typed None = ([], tt, λ no. never no)
any_typed (Some typed) = (typed, refl, λ is. refl)

-- ## Answers

-- what a call comes to, whatever is found
pub answers : (c : Call) (o : Outside) (result : ℕ) → Finds c o → ComesTo c o result → Promise.Answers c result
answers c o result found a = record { outside = o; found = found; answer = a }

-- what it does, by its words
pub by_words : (c : Call) (o : Outside) (result : ℕ) (command : Option Command) → c.command ≡ command → Keeps c → Does c o command result → ComesTo c o result
by_words c o result command e kept d = does kept (subst (λ (x : Option Command). Does c o x result) (sym e) d)

pub prints : (c : Call) (status : ℕ) (text : List ℕ) (result : ℕ) → c.input_after ≡ c.input → Says status text c.out c.out_after result → Prints c status text result
prints c status text result same says = record { says = says; input_stays = same }

-- ## The file of a name

-- what is found where a file is told
pub record HasFile (c : Call) (name file : List ℕ) : Type 0 where
  pub contents : List ℕ → Option (List ℕ)
  pub told : IsAsTold c.shelf.contents contents
  pub kept : KeepsAll c.shelf.contents c.shelf_after.contents
  pub is : file ≡ held (contents name)

abbrev pub outside : (List ℕ → Option (List ℕ)) → List ℕ → Outside
outside contents typed = record { contents = contents; typed = typed }

-- the outside of a call that finds a file, for bytes as they are told
abbrev pub outside_of : (c : Call) (name file : List ℕ) → HasFile c name file → Outside
outside_of c name file h = outside h.contents (any_typed c.input.left).0

pub found_file : (c : Call) (name file : List ℕ) (h : HasFile c name file) → Finds c (outside_of c name file h)
found_file c name file h = record { contents = h.told; typed = (any_typed c.input.left).1 }

-- a shelf that gave a file, or one that is longer than so much
pub file_here : (c : Call) (name file : List ℕ) → IsFetched c.shelf c.shelf_after name file → HasFile c name file
file_here c name file h =
    let some = some_contents c.shelf.contents (λ told. file ≡ held (told name)) (λ any. Some file) refl h.told in
    record { contents = some.0; told = some.1; kept = h.kept; is = some.2 }

zeros : ℕ → List ℕ
zeros zero = []
zeros (suc n) = 0 ∷ zeros n

zeros_many : (n : ℕ) → length (zeros n) ≡ n
unfolding zeros
zeros_many zero = refl
zeros_many (suc n) = ap suc (zeros_many n)

pub long_here : (c : Call) (name : List ℕ) (most : ℕ) → KeepsAll c.shelf.contents c.shelf_after.contents → WhereTold c.shelf.contents (λ told. most < length (held (told name))) → (file : List ℕ) × (most < length file) × HasFile c name file
long_here c name most kept h =
    let long : most < length (zeros (suc most)) = omega (arith, zeros_many (suc most)) in
    let some = some_contents c.shelf.contents (λ told. most < length (held (told name))) (λ any. Some (zeros (suc most))) long h in
    (held (some.0 name), some.2, record { contents = some.0; told = some.1; kept = kept; is = refl })

-- a shelf that gave nothing
pub nothing_here : (c : Call) → (o : Outside) × Finds c o
nothing_here c =
    let some = any_contents c.shelf.contents in
    (outside some.0 (any_typed c.input.left).0, record { contents = some.1; typed = (any_typed c.input.left).1 })
  where
    any_contents : (told : Told) → (contents : List ℕ → Option (List ℕ)) × IsAsTold told contents
    any_contents None = (λ name. None, tt)
    any_contents (Some contents) = (contents, refl)

-- ## Sources

-- a source that the words name is read first
pub reading : (c : Call) (o : Outside) (result : ℕ) (command : Option Command) (name : List ℕ) → source_named command ≡ Some name → ((P : Core → Type 0) → Reads c o name P result) → Does c o command result
reading c o result None name e r = cc
reading c o result (Some (debug t)) name e r = subst (λ (n : List ℕ). Reads c o n (λ p. RunsProgram c o t p result) result) (let same : name ≡ t.name = cc in same) (r (λ p. RunsProgram c o t p result))
reading c o result (Some (play t)) name e r = cc
reading c o result (Some (run t)) name e r = subst (λ (n : List ℕ). Reads c o n (λ p. Promise.Builds c o t p result) result) (let same : name ≡ t.name = cc in same) (r (λ p. Promise.Builds c o t p result))
reading c o result (Some (build n to)) name e r = subst (λ (m : List ℕ). Reads c o m (λ p. Promise.HasNone c n p result) result) (let same : name ≡ n = cc in same) (r (λ p. Promise.HasNone c n p result))
reading c o result (Some (singles n)) name e r = subst (λ (m : List ℕ). Reads c o m (λ p. Promise.Lists c p result) result) (let same : name ≡ n = cc in same) (r (λ p. Promise.Lists c p result))
reading c o result (Some (make n)) name e r = cc
reading c o result (Some (list n)) name e r = subst (λ (m : List ℕ). Reads c o m (λ p. Promise.ListsAny c n p result) result) (let same : name ≡ n = cc in same) (r (λ p. Promise.ListsAny c n p result))
reading c o result (Some (join n to)) name e r = cc
reading c o result (Some (trace t)) name e r = subst (λ (n : List ℕ). Reads c o n (λ p. Promise.TracesProgram c o t p result) result) (let same : name ≡ t.name = cc in same) (r (λ p. Promise.TracesProgram c o t p result))

-- the shelf failed at the source
pub source_lost : (c : Call) (name : List ℕ) (result : ℕ) → source_named c.command ≡ Some name → Keeps c → Rose c.shelf.faults c.shelf_after.faults
    → (IsTrue c.shelf.sure → WhereTold c.shelf.contents (λ contents. IsSome (contents name) → ⊥)) → c.input_after ≡ c.input → Says 5 (file_fault_line name) c.out c.out_after result → Promise.Answers c result
source_lost c name result words kept rose missing same says =
    let n = nothing_here c in
    answers c n.0 result n.1 (does kept (reading c n.0 result c.command name words (λ P. lost (record { rose = rose; missing = missing }) (prints c 5 (file_fault_line name) result same says))))

-- the source is refused
pub source_refused : (c : Call) (name file : List ℕ) (result : ℕ) (r : Refusal) → source_named c.command ≡ Some name → IsFetched c.shelf c.shelf_after name file → Compiles file (Err r) → c.input_after ≡ c.input
    → Says 1 (refusal_line name r) c.out c.out_after result → Promise.Answers c result
source_refused c name file result r words f is same says =
    let h = file_here c name file f in
    let o = outside_of c name file h in
    let why = subst (λ (l : List ℕ). Compiles l (Err r)) h.is is in
    answers c o result (found_file c name file h) (does h.kept (reading c o result c.command name words (λ P. refused r why (prints c 1 (refusal_line name r) result same says))))

-- the source is too long
pub source_long : ((source : List ℕ) → 1048576 < length source → Compiles source (Err (refusal_at SourceTooLong 1))) → (c : Call) (name : List ℕ) (result : ℕ) (r : Refusal) → source_named c.command ≡ Some name → Keeps c → WhereTold c.shelf.contents (λ told. 1048576 < length (held (told name)))
    → r ≡ refusal_at SourceTooLong 1 → c.input_after ≡ c.input → Says 1 (refusal_line name r) c.out c.out_after result → Promise.Answers c result
source_long law c name result r words kept more e same says =
    let long = long_here c name 1048576 kept more in
    let o = outside_of c name long.0 long.2 in
    let why = subst (λ (l : List ℕ). Compiles l (Err r)) long.2.is (rw e (law long.0 long.1)) in
    answers c o result (found_file c name long.0 long.2) (does kept (reading c o result c.command name words (λ P. refused r why (prints c 1 (refusal_line name r) result same says))))

-- ## A source's run

-- what is done with a program, on typed bytes as they are told
pub with_program : (c : Call) (command : Command) (name file : List ℕ) (result : ℕ) (p : Core) (P : Outside → Core → Type 0) → c.command ≡ Some command → IsFetched c.shelf c.shelf_after name file → Compiles file (Ok p)
    → ((o : Outside) → Reads c o name (P o) result → Does c o (Some command) result)
    → (typed : List ℕ) → IsAsTold c.input.left typed → ((contents : List ℕ → Option (List ℕ)) → P (outside contents typed) p) → Promise.Answers c result
with_program c command name file result p P words f is reads typed told d =
    let h = file_here c name file f in
    let o = outside h.contents typed in
    answers c o result (record { contents = h.told; typed = told })
    (by_words c o result (Some command) words h.kept (reads o (program p (subst (λ (l : List ℕ). Compiles l (Ok p)) h.is is) (d h.contents))))

-- a program was run, on typed bytes as they are told
pub run_comes : (c : Call) (t : Task) (file : List ℕ) (result : ℕ) (p : Core) (P : List ℕ → Type 0) → c.command ≡ Some (debug t) → IsFetched c.shelf c.shelf_after t.name file → Compiles file (Ok p)
    → ((typed : List ℕ) (contents : List ℕ → Option (List ℕ)) → P typed → RunsProgram c (outside contents typed) t p result) → ForTyped c.input.left P → Promise.Answers c result
run_comes c t file result p P words f is runs h =
    let s = some_typed c.input.left P h in
    with_program c (debug t) t.name file result p (λ o q. RunsProgram c o t q result) words f is (λ o d. d) s.0 s.1 (λ contents. runs s.0 contents s.2)

-- ## The report on a source

pub says_report : (c : Call) (name file : List ℕ) (result : ℕ) → c.command ≡ Some (singles name) → IsFetched c.shelf c.shelf_after name file → (p : Core) → Compiles file (Ok p) → (set : List Bool) → AreSingles p.preds set
    → c.input_after ≡ c.input → Says 0 (report p set) c.out c.out_after result → Promise.Answers c result
says_report c name file result words f p is set single same says =
    let any = any_typed c.input.left in
    with_program c (singles name) name file result p (λ o q. Promise.Lists c q result) words f is (λ o d. d) any.0 any.1
    (λ contents. record { set = set; single = single; prints = prints c 0 (report p set) result same says })

-- ## Where nothing runs

pub keeps_same : (told : Told) → KeepsAll told told
keeps_same None = tt
keeps_same (Some contents) = λ name. refl

keeps_if : (c : Call) → c.shelf_after ≡ c.shelf → Keeps c
keeps_if c same = subst (λ (s : ShelfView). KeepsAll c.shelf.contents s.contents) (sym same) (keeps_same c.shelf.contents)

-- the words are no command
pub no_words : (c : Call) (result : ℕ) → c.command ≡ None → c.shelf_after ≡ c.shelf → c.input_after ≡ c.input → Says 2 usage_line c.out c.out_after result → Promise.Answers c result
no_words c result none shelf input says =
    let n = nothing_here c in
    answers c n.0 result n.1 (by_words c n.0 result None none (keeps_if c shelf) (prints c 2 usage_line result input says, shelf))

-- no memory was found
pub no_room : (c : Call) (result : ℕ) → Keeps c → c.input_after ≡ c.input → Says 6 no_memory_line c.out c.out_after result → Promise.Answers c result
no_room c result kept same says = let n = nothing_here c in answers c n.0 result n.1 (no_memory kept (prints c 6 no_memory_line result same says))

-- no memory was found for a run
pub no_room_to_run : (c : Call) (name file : List ℕ) (mid : SinkView) (result : ℕ) → IsFetched c.shelf c.shelf_after name file → IsUntouched c.input c.input_after c.out mid → Says 6 no_memory_line mid c.out_after result → Promise.Answers c result
no_room_to_run c name file mid result f untouched says = no_room c result f.kept untouched.source (subst (λ (k : SinkView). Says 6 no_memory_line k c.out_after result) untouched.sink says)

-- no memory was found for the words
pub no_room_first : (c : Call) (result : ℕ) → c.shelf_after ≡ c.shelf → c.input_after ≡ c.input → Says 6 no_memory_line c.out c.out_after result → Promise.Answers c result
no_room_first c result shelf same says = no_room c result (keeps_if c shelf) same says

-- ## Files that are no stories

-- the shelf failed at the story
pub story_lost : (c : Call) (t : Task) (result : ℕ) → c.command ≡ Some (play t) → Keeps c → Rose c.shelf.faults c.shelf_after.faults
    → (IsTrue c.shelf.sure → WhereTold c.shelf.contents (λ contents. IsSome (contents t.name) → ⊥)) → c.input_after ≡ c.input → Says 5 (file_fault_line t.name) c.out c.out_after result → Promise.Answers c result
story_lost c t result words kept rose missing same says =
    let n = nothing_here c in
    answers c n.0 result n.1 (by_words c n.0 result (Some (play t)) words kept (lost_story (record { rose = rose; missing = missing }) (prints c 5 (file_fault_line t.name) result same says)))

-- the file is no story
pub story_refused : (c : Call) (t : Task) (file : List ℕ) (result : ℕ) (r : StoryRefusal) → c.command ≡ Some (play t) → IsFetched c.shelf c.shelf_after t.name file → story_refusal file ≡ Some r → c.input_after ≡ c.input
    → Says 4 (story_line t.name r) c.out c.out_after result → Promise.Answers c result
story_refused c t file result r words f is same says =
    let h = file_here c t.name file f in
    let o = outside_of c t.name file h in
    answers c o result (found_file c t.name file h) (by_words c o result (Some (play t)) words h.kept (no_story r (subst (λ (l : List ℕ). story_refusal l ≡ Some r) h.is is) (prints c 4 (story_line t.name r) result same says)))

pub long_story : (file : List ℕ) → 524288 < length file → story_refusal file ≡ Some BadLength
unfolding story_refusal
long_story file more = let test : nat_lt 524288 (length file) ≡ true = grind (arith, nat_tests) in rw test refl

-- the file is too long for a story
pub story_long : (c : Call) (t : Task) (result : ℕ) → c.command ≡ Some (play t) → Keeps c → WhereTold c.shelf.contents (λ told. 524288 < length (held (told t.name)))
    → c.input_after ≡ c.input → Says 4 (story_line t.name BadLength) c.out c.out_after result → Promise.Answers c result
story_long c t result words kept more same says =
    let long = long_here c t.name 524288 kept more in
    let o = outside_of c t.name long.0 long.2 in
    answers c o result (found_file c t.name long.0 long.2)
    (by_words c o result (Some (play t)) words kept (no_story BadLength (subst (λ (l : List ℕ). story_refusal l ≡ Some BadLength) long.2.is (long_story long.0 long.1)) (prints c 4 (story_line t.name BadLength) result same says)))
