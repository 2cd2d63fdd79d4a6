-- From the parts of a call to what it comes to.
use Rattle.std.proofs.Common.{◌≡◌, ◌<◌, ℕ, zero, suc, List, [], ◌∷◌, length, Some, None, Result, Ok, Err, refl, sym, ◌∙◌, ap, subst, arith}
use Rattle.std.specs.Prelude.{IfOk, IfErr}
use Rattle.dg_base.specs.Faults.{IsFault}
use Rattle.dg_base.specs.Shelves.{Told, ShelfView, held, WhereTold}
use Rattle.dg_base.specs.Tree.{Item}
use Rattle.dg_base.specs.Written.{SinkView}
use Rattle.dg_base.specs.declared.program.CoreProgram.{CoreProgram as Core}
use Rattle.dg_base.specs.declared.refusal.ReadFault.{ReadFault}
use Rattle.dg_base.specs.declared.refusal.ReadFault.TheVariants as fault
use Rattle.dg_base.specs.declared.refusal.Refusal.{Refusal}
use Rattle.dg_base.specs.declared.refusal.Kind.TheVariants.{SourceTooLong}
use Rattle.dg_compile.specs.Source.{Reads, Becomes, Compiles, Meets, refusal_at}
use Rattle.dg_lint.specs.Call.{Says, HasLines, Opens, refused, found, refusal_line}
use Rattle.dg_lint.specs.Lines.{lint_lines}

-- a source that holds this, as far as it is told
some_source : (told : Told) (name : List ℕ) (P : List ℕ → Type 0) (any : List ℕ) → P any → WhereTold told (λ contents. P (held (contents name))) → (source : List ℕ) × WhereTold told (λ contents. source ≡ held (contents name)) × P source
some_source None name P any p h = (any, tt, p)
some_source (Some contents) name P any p h = (held (contents name), refl, h)

zeros : ℕ → List ℕ
zeros zero = []
zeros (suc n) = 0 ∷ zeros n

zeros_many : (n : ℕ) → length (zeros n) ≡ n
unfolding zeros
zeros_many zero = refl
zeros_many (suc n) = ap suc (zeros_many n)

-- a file that is too long holds a source that is refused
pub long_found : ((source : List ℕ) → 1048576 < length source → Compiles source (Err (refusal_at SourceTooLong 1))) → (name : List ℕ) (shelf shelf_after : ShelfView) (old new : SinkView) (result : ℕ) (r : Refusal) → WhereTold shelf.contents (λ contents. 1048576 < length (held (contents name)))
    → r ≡ refusal_at SourceTooLong 1 → Says 1 (refusal_line name r) old new result → Opens name shelf shelf_after old new result
long_found law name shelf shelf_after old new result r more e says =
    let long : 1048576 < length (zeros (suc 1048576)) = omega (arith, zeros_many (suc 1048576)) in
    let some = some_source shelf.contents name (λ source. 1048576 < length source) (zeros (suc 1048576)) long more in
    found some.0 some.1 (refused r (subst (λ (x : Refusal). Compiles some.0 (Err x)) (sym e) (law some.0 some.2)) says)

-- why a tree is no program is why its source isn't
pub source_refused : ((source : List ℕ) (items : List Item) (answer : Result Core Refusal) → Reads source (Ok items) → Becomes items answer → Compiles source answer) → (source : List ℕ) (items : List Item) (f : ReadFault) → Reads source (Ok items)
    → IsFault (λ r. Becomes items (Err r)) f → IsFault (λ r. Compiles source (Err r)) f
source_refused law source items (fault.Refused r) h k = law source items (Err r) h k
source_refused law source items fault.OutOfMemory h k = tt

pub unread_refused : ((source : List ℕ) (r : Refusal) → Reads source (Err r) → Compiles source (Err r)) → (source : List ℕ) (f : ReadFault) → IsFault (λ r. Reads source (Err r)) f → IsFault (λ r. Compiles source (Err r)) f
unread_refused law source (fault.Refused r) h = law source r h
unread_refused law source fault.OutOfMemory h = tt

pub all_refused : ((source : List ℕ) (items : List Item) (answer : Result Core Refusal) → Reads source (Ok items) → Becomes items answer → Compiles source answer) → {A : Type 0} (source : List ℕ) (items : List Item) (answer : Result A ReadFault) → Reads source (Ok items)
    → IfErr answer (IsFault (λ r. Becomes items (Err r))) → IfErr answer (IsFault (λ r. Compiles source (Err r)))
all_refused law source items (Ok a) h k = tt
all_refused law source items (Err f) h k = source_refused law source items f h k

-- what a tree becomes, where it is answered
pub became : (items : List Item) (f : ReadFault) → Meets (Becomes items) (Err f) → IsFault (λ r. Becomes items (Err r)) f
became items (fault.Refused r) h = h
became items fault.OutOfMemory h = tt

-- lines of a tree that became a program
pub has_lines : {A : Type 0} (name source text : List ℕ) (items : List Item) (of : A → List ℕ) (answer : Result A ReadFault) → Reads source (Ok items) → text ≡ lint_lines name items
    → IfOk answer (λ same. (p : Core) × Becomes items (Ok p) × (of same ≡ text)) → IfOk answer (λ same. HasLines name source (of same))
has_lines name source text items of (Ok same) read e h = record { items = items; read = read; program = h.0; becomes = h.1; lines = h.2 ∙ e }
has_lines name source text items of (Err f) read e h = tt
