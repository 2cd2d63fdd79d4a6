-- From what listing a story and reading a listing came to, to the answer of the call.
use Rattle.std.proofs.Common.{◌≡◌, ◌<◌, ◌≤◌, ⊎_elim, ℕ, List, length, Option, Some, None, Ok, IsTrue, refl, sym, ◌∙◌, subst}
use Rattle.std.proofs.lemmas.Bool.{cases_lt}
use Rattle.std.specs.Prelude.{IsSome}
use Rattle.dg_base.specs.Causes.{Rose}
use Rattle.dg_base.specs.Shelves.{ShelfView, held, WhereTold, KeepsOthers}
use Rattle.dg_base.specs.declared.program.CoreProgram.{CoreProgram as Core}
use Rattle.z_list.specs.declared.mark.Mark.{Mark}
use Rattle.z_list.specs.Reads.{IsListing, IsBadAt}
use Rattle.z_list.specs.Texts.{listed}
use Rattle.z_model.specs.Story.{story_refusal}
use Rattle.z_model.specs.declared.story.StoryRefusal.TheVariants.{BadLength}
use Rattle.dialog_tool.specs.Promise
use Rattle.dialog_tool.specs.Promise.{Keeps, HasStory, AreItsMarks, ListsAny, none_to_list, one_to_list, lost_listing, no_listing, long_listing, IsStored, joins}
use Rattle.dialog_tool.specs.inside.Building.{HasNoStory, none, no_room}
use Rattle.dialog_tool.specs.Call.{Call, Outside}
use Rattle.dialog_tool.specs.inside.Calls.{IsFetched}
use Rattle.dialog_tool.specs.Command.{list, join}
use Rattle.dialog_tool.specs.Lines.{Says, listing_line, file_fault_line}
use Rattle.dg_compile.specs.Source.{Compiles}
use Rattle.dialog_tool.proofs.AnswerLemmas.{long_story, any_typed, answers, by_words, prints, file_here, long_here, nothing_here, outside_of, found_file, with_program, no_room as no_memory_left}
use Rattle.dialog_tool.proofs.BuildLemmas.{keeps_through}

-- ## Stories

-- what the player takes isn't too long for a listing
pub taken_short : (bytes : List ℕ) → story_refusal bytes ≡ None → length bytes ≤ 524288
taken_short bytes h = ⊎_elim (λ more. absurd (not_taken (long_story bytes more) h)) (λ le. le) (cases_lt 524288 (length bytes))
  where
    not_taken : story_refusal bytes ≡ Some BadLength → story_refusal bytes ≡ None → ⊥
    not_taken e n = let no = sym e ∙ n in cc

-- a program has no story
pub none_listed : (c : Call) (name file : List ℕ) (result : ℕ) (p : Core) → c.command ≡ Some (list name) → IsFetched c.shelf c.shelf_after name file → Compiles file (Ok p) → c.input_after ≡ c.input
    → HasNoStory p name c.out c.out_after result → Promise.Answers c result
none_listed c name file result p words f is same (none r e says) =
    let any = any_typed c.input.left in
    with_program c (list name) name file result p (λ o q. ListsAny c name q result) words f is (λ o d. d) any.0 any.1
    (λ contents. none_to_list (record { refusal = r; refused = e; prints = prints c 7 _ result same says }))
none_listed c name file result p words f is same (no_room says) = no_memory_left c result f.kept same says

-- its story is listed
pub story_listed : (c : Call) (name file : List ℕ) (result : ℕ) (p : Core) (bytes : List ℕ) (marks : List Mark) → c.command ≡ Some (list name) → IsFetched c.shelf c.shelf_after name file → Compiles file (Ok p)
    → HasStory p bytes → AreItsMarks p bytes marks → c.input_after ≡ c.input → Says 0 (listed bytes marks) c.out c.out_after result → Promise.Answers c result
story_listed c name file result p bytes marks words f is has are same says =
    let any = any_typed c.input.left in
    with_program c (list name) name file result p (λ o q. ListsAny c name q result) words f is (λ o d. d) any.0 any.1
    (λ contents. one_to_list (record { bytes = bytes; marks = marks; story = has; are = are; prints = prints c 0 _ result same says }))

-- ## Listings

-- the shelf failed at the listing
pub listing_lost : (c : Call) (name to : List ℕ) (result : ℕ) → c.command ≡ Some (join name to) → Keeps c → Rose c.shelf.faults c.shelf_after.faults
    → (IsTrue c.shelf.sure → WhereTold c.shelf.contents (λ contents. IsSome (contents name) → ⊥)) → c.input_after ≡ c.input → Says 5 (file_fault_line name) c.out c.out_after result → Promise.Answers c result
listing_lost c name to result words kept rose missing same says =
    let n = nothing_here c in
    answers c n.0 result n.1 (by_words c n.0 result (Some (join name to)) words kept (lost_listing (record { rose = rose; missing = missing }) (prints c 5 (file_fault_line name) result same says)))

-- the file is too long for one
pub listing_long : (c : Call) (name to : List ℕ) (result : ℕ) → c.command ≡ Some (join name to) → Keeps c → WhereTold c.shelf.contents (λ told. 33554432 < length (held (told name)))
    → c.input_after ≡ c.input → Says 4 (listing_line name 1) c.out c.out_after result → Promise.Answers c result
listing_long c name to result words kept more same says =
    let long = long_here c name 33554432 kept more in
    let o = outside_of c name long.0 long.2 in
    answers c o result (found_file c name long.0 long.2)
    (by_words c o result (Some (join name to)) words kept (long_listing (subst (λ (l : List ℕ). 33554432 < length l) long.2.is long.1) (prints c 4 (listing_line name 1) result same says)))

-- the file is none
pub listing_bad : (c : Call) (name to file : List ℕ) (result line : ℕ) → c.command ≡ Some (join name to) → IsFetched c.shelf c.shelf_after name file → length file ≤ 33554432 → IsBadAt file line
    → c.input_after ≡ c.input → Says 4 (listing_line name line) c.out c.out_after result → Promise.Answers c result
listing_bad c name to file result line words f short bad same says =
    let h = file_here c name file f in
    let o = outside_of c name file h in
    answers c o result (found_file c name file h)
    (by_words c o result (Some (join name to)) words h.kept
    (no_listing line (subst (λ (l : List ℕ). IsBadAt l line) h.is bad) (subst (λ (l : List ℕ). length l ≤ 33554432) h.is short) (prints c 4 (listing_line name line) result same says)))

-- its story was handed to the shelf
pub joined : (c : Call) (name to file : List ℕ) (result : ℕ) (bytes : List ℕ) (before : ShelfView) → c.command ≡ Some (join name to) → IsFetched c.shelf before name file → length file ≤ 33554432 → IsListing file bytes
    → KeepsOthers to before.contents c.shelf_after.contents → IsStored c to bytes result → Promise.Answers c result
joined c name to file result bytes before words f short is others stored =
    let h = file_here (record c { shelf_after = before }) name file f in
    let any = any_typed c.input.left in
    let o : Outside = record { contents = h.contents; typed = any.0 } in
    answers c o result (record { contents = h.told; typed = any.1 })
    (joins name to words (record {
      bytes = bytes;
      listing = subst (λ (l : List ℕ). IsListing l bytes) h.is is;
      short = subst (λ (l : List ℕ). length l ≤ 33554432) h.is short;
      keeps = stored;
      others = keeps_through to c.shelf.contents before.contents c.shelf_after.contents f.kept others;
    }))
