use Rattle.std.proofs.Common.{◌≡◌, List, ℕ, Option, Some, subst}
use Rattle.dg_base.specs.Shelves.{KeepsAll}
use Rattle.dg_lint.specs.Call.{Call, Opens, ComesTo, Answers}
use Rattle.dg_lint.proofs.call.lint_words.Goals as goal

opened : (c : Call) (name : List ℕ) (result : ℕ) → Some name ≡ c.file → Opens name c.shelf c.shelf_after c.out c.out_after result → KeepsAll c.shelf.contents c.shelf_after.contents → Answers c result
opened c name result e opens keeps = subst (λ (f : Option (List ℕ)). ComesTo c f result) e (opens, keeps)

pub returns-in-Some : goal.returns-in-Some
returns-in-Some g c = record { answers = opened _ c.in-Some.name.now _ c.in-Some.ensures c.lint_file.ensures.opens c.lint_file.ensures.keeps }
