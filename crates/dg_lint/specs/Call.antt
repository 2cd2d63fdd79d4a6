-- A call of the program, and what it comes to: hold it against docs/LINT.md, "Statuses".
use Rattle.std.specs.Prelude.{◌≡◌, ◌≢◌, ℕ, ◌&&◌, List, [], ◌∷◌, ◌++◌, Bool, true, false, not, Option, Some, None, Ok, Err, map}
use Rattle.std.specs.Prelude.{IsTrue, IsSome, codes, nat_eq, string_bytes, String, if◌then◌else◌}
use Rattle.std.specs.declared.alloc.Global.{Global}
use Rattle.dg_base.specs.Causes.{Rose}
use Rattle.dg_base.specs.Refusals.{text_of_kind}
use Rattle.dg_base.specs.Shelves.{ShelfView, held, WhereTold, KeepsAll}
use Rattle.dg_base.specs.Tree.{Item}
use Rattle.dg_base.specs.Written.{SinkView, Wrote, BrokeOff}
use Rattle.dg_base.specs.declared.program.CoreProgram.{CoreProgram as Core}
use Rattle.dg_base.specs.declared.refusal.Refusal.{Refusal}
use Rattle.dg_compile.specs.Source.{Reads, Becomes, Compiles}
use Rattle.dg_meaning.specs.Transcript.{no_memory_line}
use Rattle.dg_lint.specs.Lines.{lint_lines, place_of}

-- The bytes of each word.
abbrev pub texts : List (String Global) → List (List ℕ)
texts words = map string_bytes words

-- A file's name isn't empty and doesn't begin with two dashes.
abbrev pub is_file_name : List ℕ → Bool
is_file_name [] = false
is_file_name (c ∷ []) = true
is_file_name (c ∷ d ∷ cs) = not (nat_eq c 45 && nat_eq d 45)

-- The file that the words name, where they are one word that names one.
abbrev pub file_of : List (List ℕ) → Option (List ℕ)
file_of [] = None
file_of (name ∷ []) = if is_file_name name then Some name else None
file_of (name ∷ other ∷ others) = None

-- The file that is named, and what the shelf and the output tell before the call and behind it.
pub record Call : Type 0 where
  pub file : Option (List ℕ)
  pub shelf : ShelfView
  pub shelf_after : ShelfView
  pub out : SinkView
  pub out_after : SinkView

-- ---- what is printed

abbrev pub usage_line : List ℕ
usage_line = codes "usage: dialog-lint FILE\n"

-- FILE:LINE: TEXT
abbrev pub refusal_line : List ℕ → Refusal → List ℕ
refusal_line name r = place_of name r.line ++ (text_of_kind r.kind ++ codes "\n")

-- FILE: file fault
abbrev pub file_fault_line : List ℕ → List ℕ
file_fault_line name = name ++ codes ": file fault\n"

-- Out took a text, and the result is this status; or out failed within the text, and the result is 5.
pub data Says (status : ℕ) (text : List ℕ) (old new : SinkView) (result : ℕ) : Type 0 where
  said : result ≡ status → Wrote old new text → Says status text old new result
  unsaid : result ≡ 5 → BrokeOff old new text → Says status text old new result

-- ---- sources

-- These are the lines of a source that isn't refused.
pub record HasLines (name source text : List ℕ) : Type 0 where
  pub items : List Item
  pub read : Reads source (Ok items)
  pub program : Core
  pub becomes : Becomes items (Ok program)
  pub lines : text ≡ lint_lines name items

-- Lines are written, at 3; where there are none, nothing is, at 0.
pub data Tells (text : List ℕ) (old new : SinkView) (result : ℕ) : Type 0 where
  clean : text ≡ [] → result ≡ 0 → new ≡ old → Tells text old new result
  slips : text ≢ [] → Says 3 text old new result → Tells text old new result

-- A source is refused, at 1, or its lines are told, or no memory was found, at 6.
pub data Lints (name source : List ℕ) (old new : SinkView) (result : ℕ) : Type 0 where
  refused : (r : Refusal) → Compiles source (Err r) → Says 1 (refusal_line name r) old new result → Lints name source old new result
  lines : (text : List ℕ) → HasLines name source text → Tells text old new result → Lints name source old new result
  no_memory : Says 6 no_memory_line old new result → Lints name source old new result

-- ---- the call

-- The file under this name holds this source, as far as the shelf tells.
abbrev pub IsIn : ShelfView → List ℕ → List ℕ → Type 0
IsIn shelf name source = WhereTold shelf.contents (λ contents. source ≡ held (contents name))

-- The shelf failed at the file, at 5; one that is sure fails only where it has no such file.
pub record IsLost (name : List ℕ) (shelf shelf_after : ShelfView) (old new : SinkView) (result : ℕ) : Type 0 where
  pub rose : Rose shelf.faults shelf_after.faults
  pub missing : IsTrue shelf.sure → WhereTold shelf.contents (λ contents. IsSome (contents name) → ⊥)
  pub says : Says 5 (file_fault_line name) old new result

-- A file is lost, or found and its source linted, or no memory was found for it, at 6.
pub data Opens (name : List ℕ) (shelf shelf_after : ShelfView) (old new : SinkView) (result : ℕ) : Type 0 where
  lost : IsLost name shelf shelf_after old new result → Opens name shelf shelf_after old new result
  found : (source : List ℕ) → IsIn shelf name source → Lints name source old new result → Opens name shelf shelf_after old new result
  no_room : Says 6 no_memory_line old new result → Opens name shelf shelf_after old new result

-- What a call comes to: other words than one file's name are answered by the usage line, at 2; else the file is opened.
abbrev pub ComesTo : Call → Option (List ℕ) → ℕ → Type 0
ComesTo c None result = Says 2 usage_line c.out c.out_after result × (c.shelf_after ≡ c.shelf)
ComesTo c (Some name) result = Opens name c.shelf c.shelf_after c.out c.out_after result × KeepsAll c.shelf.contents c.shelf_after.contents

-- What the program promises of a call.
abbrev pub Answers : Call → ℕ → Type 0
Answers c result = ComesTo c c.file result
