-- How the lines of a routine become acts: an `if` and a loop test the opposite, and go to labels of their own.
use Rattle.std.specs.Prelude.{ℕ, ◌+◌, List, [], ◌∷◌, ◌++◌, Option, Some, None, Bool, true, false, not}
use Rattle.z_lang.specs.declared.act.Test.{Test}
use Rattle.z_lang.specs.declared.act.Act.{Act}
use Rattle.z_lang.specs.declared.act.Act.TheVariants as acts
use Rattle.z_lang.specs.declared.lines.Line.{Line}
use Rattle.z_lang.specs.declared.lines.Line.TheVariants as lines
use Rattle.z_lang.specs.declared.lines.Open.{Open}
use Rattle.z_lang.specs.declared.lines.Open.TheVariants as opens

-- the labels of constructs begin here
abbrev pub first_label : ℕ
first_label = 32768

abbrev pub opposite : Test → Test
opposite t = record t { answer = not t.answer }

-- An `else` and an end belong to the innermost construct.
abbrev pub closes : Line → Bool
closes (lines.Do act) = false
closes (lines.If t) = false
closes lines.Else = true
closes (lines.While t) = false
closes lines.End = true

-- the acts of an `else`, and those of an end
abbrev pub else_acts : Option Open → List Act
else_acts None = []
else_acts (Some (opens.Branch next end)) = acts.Goto end ∷ acts.Label next ∷ []
else_acts (Some (opens.Other end)) = []
else_acts (Some (opens.Loop start end)) = []

abbrev pub end_acts : Option Open → List Act
end_acts None = []
end_acts (Some (opens.Branch next end)) = acts.Label next ∷ []
end_acts (Some (opens.Other end)) = acts.Label end ∷ []
end_acts (Some (opens.Loop start end)) = acts.Goto start ∷ acts.Label end ∷ []

-- the acts of a line, by the construct that it belongs to and the next label
abbrev pub line_acts : Option Open → ℕ → Line → List Act
line_acts top n (lines.Do act) = act ∷ []
line_acts top n (lines.If t) = acts.When (opposite t) n ∷ []
line_acts top n lines.Else = else_acts top
line_acts top n (lines.While t) = acts.Label n ∷ acts.When (opposite t) (n + 1) ∷ []
line_acts top n lines.End = end_acts top

abbrev pub else_open : Option Open → Option Open
else_open None = None
else_open (Some (opens.Branch next end)) = Some (opens.Other end)
else_open (Some (opens.Other end)) = None
else_open (Some (opens.Loop start end)) = None

-- the construct that is open behind a line, if it opens one
abbrev pub opened : Option Open → ℕ → Line → Option Open
opened top n (lines.Do act) = None
opened top n (lines.If t) = Some (opens.Branch n (n + 1))
opened top n lines.Else = else_open top
opened top n (lines.While t) = Some (opens.Loop n (n + 1))
opened top n lines.End = None

abbrev pub next_label : ℕ → Line → ℕ
next_label n (lines.Do act) = n
next_label n (lines.If t) = n + 2
next_label n lines.Else = n
next_label n (lines.While t) = n + 2
next_label n lines.End = n

-- the innermost construct, if the line belongs to one, and the constructs around it
abbrev pub top_of : Bool → List Open → Option Open
top_of false opens = None
top_of true [] = None
top_of true (open_ ∷ opens) = Some open_

abbrev pub around : Bool → List Open → List Open
around false opens = opens
around true [] = []
around true (open_ ∷ opens) = opens

abbrev pub with_open : Option Open → List Open → List Open
with_open None opens = opens
with_open (Some open_) opens = open_ ∷ opens

-- the acts of lines, by the next label and the constructs that are open, the innermost first
abbrev pub flattened : ℕ → List Open → List Line → List Act
flattened n opens [] = []
flattened n opens (line ∷ more) =
    let top = top_of (closes line) opens in
    line_acts top n line ++ flattened (next_label n line) (with_open (opened top n line) (around (closes line) opens)) more
