-- The report on the predicates of a program: hold it against man/dialog.1, `singles`, and docs/LANGUAGE.md, "Search".
use Rattle.std.specs.Prelude.{ℕ, List, [], ◌++◌, Bool, true, false, ◌&&◌, codes, zip, flat_map, if◌then◌else◌}
use Rattle.dg_base.specs.declared.program.CoreProgram.{CoreProgram as Core}
use Rattle.dg_base.specs.declared.program.Pred.{Pred}
use Rattle.dg_base.specs.Goals.{has_rule}

-- the word for a predicate that is single, and for another
abbrev pub answers_word : Bool → List ℕ
answers_word true = codes "single "
answers_word false = codes "many "

-- a predicate is listed where it stands in the source and has a rule in the core program
abbrev pub is_listed : Pred → Bool
is_listed pred = pred.from_source && has_rule pred.rules

-- its line, if it is listed: the word and its name
abbrev pub report_line : Pred × Bool → List ℕ
report_line p = if is_listed p.0 then answers_word p.1 ++ (p.0.name ++ codes "\n") else []

-- The report: the lines of the predicates in order, with whether each is single.
abbrev pub report : Core → List Bool → List ℕ
report program set = flat_map report_line (zip program.preds set)
