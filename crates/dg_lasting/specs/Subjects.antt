-- What stands for an object. Hold it against docs/LANGUAGE.md, "The world".
use Rattle.std.specs.Prelude.{◌≡◌, ℕ, Bool, true, false}
use Rattle.dg_meaning.specs.Values.{Object, Value, Var, Node, leaf}
use Rattle.dg_lasting.specs.declared.subject.Subject.{Subject}
use Rattle.dg_lasting.specs.declared.subject.Subject.TheVariants.{Open, Thing, Other}

-- An unbound variable or an object.
abbrev pub may_name : Value → Bool
may_name (Var n) = true
may_name (Node (Object o) vs) = true
may_name v = false

-- What a value that is looked up stands for.
abbrev pub IsSubject : Value → Subject → Type 0
IsSubject w Open = (n : ℕ) × (w ≡ Var n)
IsSubject w (Thing o) = w ≡ leaf (Object o)
IsSubject w Other = may_name w ≡ false
