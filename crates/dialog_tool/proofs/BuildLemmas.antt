-- From what building a program came to, to the answer of the call.
use Rattle.std.proofs.Common.{◌≡◌, ◌<◌, ◌≤◌, ℕ, List, Option, Some, None, Ok, IsTrue, refl, sym, ◌∙◌, subst, arith}
use Rattle.std.specs.Prelude.{◌≢◌}
use Rattle.dg_base.specs.Causes.{Rose}
use Rattle.dg_base.specs.Shelves.{Told, ShelfView, WhereTold, KeepsAll, KeepsOthers}
use Rattle.dg_base.specs.declared.program.CoreProgram.{CoreProgram as Core}
use Rattle.dg_story.specs.Refusals as story
use Rattle.dialog_tool.specs.Promise
use Rattle.dialog_tool.specs.Promise.{Reads, HasStory, HasNone, Builds, no_story_of, plays, IsStored, stores}
use Rattle.dialog_tool.specs.inside.Building.{HasNoStory, none, no_room}
use Rattle.dialog_tool.specs.Call.{Call, Outside}
use Rattle.dialog_tool.specs.inside.Calls.{IsFetched, HasPlayed}
use Rattle.dialog_tool.specs.Command.{Command, Task, build, run}
use Rattle.dg_compile.specs.Source.{Compiles}
use Rattle.dialog_tool.proofs.AnswerLemmas.{any_typed, answers, prints, file_here, outside_of, found_file, with_program, no_room as no_memory_left}

-- ## The shelf

-- what keeps all and then all but one name keeps all but that one
pub keeps_through : (name : List ℕ) (old mid new : Told) → KeepsAll old mid → KeepsOthers name mid new → KeepsOthers name old new
keeps_through name None mid new k o = tt
keeps_through name (Some old) None new k o = absurd k
keeps_through name (Some old) (Some mid) None k o = absurd o
keeps_through name (Some old) (Some mid) (Some new) k o = λ other apart. o other apart ∙ k other

-- what rose later rose
pub later_rose : {before mid after : ℕ} → before ≤ mid → Rose mid after → Rose before after
later_rose h r = omega (arith, h, r)

-- a story was handed to the shelf
pub handed : (c : Call) (name to file : List ℕ) (result : ℕ) (p : Core) (bytes : List ℕ) (before : ShelfView) → c.command ≡ Some (build name to) → IsFetched c.shelf before name file → Compiles file (Ok p) → HasStory p bytes
    → KeepsOthers to before.contents c.shelf_after.contents → IsStored c to bytes result → Promise.Answers c result
handed c name to file result p bytes before words f is has others stored =
    let h = file_here (record c { shelf_after = before }) name file f in
    let any = any_typed c.input.left in
    let o : Outside = record { contents = h.contents; typed = any.0 } in
    answers c o result (record { contents = h.told; typed = any.1 })
    (stores name to words (record {
      program = p;
      compiles = subst (λ (l : List ℕ). Compiles l (Ok p)) h.is is;
      bytes = bytes;
      story = has;
      keeps = stored;
      others = keeps_through to c.shelf.contents before.contents c.shelf_after.contents f.kept others;
    }))

-- ## No story

pub none_to_store : (c : Call) (name to file : List ℕ) (result : ℕ) (p : Core) → c.command ≡ Some (build name to) → IsFetched c.shelf c.shelf_after name file → Compiles file (Ok p) → c.input_after ≡ c.input
    → HasNoStory p name c.out c.out_after result → Promise.Answers c result
none_to_store c name to file result p words f is same (none r e says) =
    let any = any_typed c.input.left in
    with_program c (build name to) name file result p (λ o q. HasNone c name q result) words f is (λ o d. d) any.0 any.1
    (λ contents. record { refusal = r; refused = e; prints = prints c 7 _ result same says })
none_to_store c name to file result p words f is same (no_room says) = no_memory_left c result f.kept same says

pub none_to_run : (c : Call) (t : Task) (file : List ℕ) (result : ℕ) (p : Core) → c.command ≡ Some (run t) → IsFetched c.shelf c.shelf_after t.name file → Compiles file (Ok p) → c.input_after ≡ c.input
    → HasNoStory p t.name c.out c.out_after result → Promise.Answers c result
none_to_run c t file result p words f is same (none r e says) =
    let any = any_typed c.input.left in
    with_program c (run t) t.name file result p (λ o q. Builds c o t q result) words f is (λ o d. d) any.0 any.1
    (λ contents. no_story_of r e (prints c 7 _ result same says))
none_to_run c t file result p words f is same (no_room says) = no_memory_left c result f.kept same says

-- ## A story

-- the story of a program was played
pub built_plays : (c : Call) (t : Task) (file : List ℕ) (result : ℕ) (p : Core) (bytes : List ℕ) → c.command ≡ Some (run t) → IsFetched c.shelf c.shelf_after t.name file → Compiles file (Ok p) → HasStory p bytes
    → HasPlayed c t bytes result → Promise.Answers c result
built_plays c t file result p bytes words f is has played =
    with_program c (run t) t.name file result p (λ o q. Builds c o t q result) words f is (λ o d. d) played.typed played.told
    (λ contents. plays bytes has (played.plays contents))
