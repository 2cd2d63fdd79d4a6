-- What comes of values that are made for others. Hold it against docs/LANGUAGE.md, "Typed lines and words", and "Built-in queries" on splitting and
-- joining words.
use Rattle.std.specs.Prelude.{◌≡◌, List, [], ◌∷◌, Some}
use Rattle.dg_base.specs.declared.run.Limits.{Limits}
use Rattle.dg_meaning.specs.Values.{Value}
use Rattle.dg_meaning.specs.Moves.{gives, splits, joins, looked_up, whole_looks}
use Rattle.dg_meaning.specs.Substitutions.{walk, resolved}
use Rattle.dg_meaning.specs.inside.Unify.{unify}
use Rattle.dg_meaning.specs.Words.{letters_in_word, joined_letters}
use Rattle.dg_meaning.specs.World.{Game, World, worked}
use Rattle.dg_arena.specs.Held.{meaning_of}
use Rattle.dg_unify.specs.declared.bindings.Ref.{Ref}
use Rattle.dg_mid.specs.declared.code.Code.{Code}
use Rattle.dg_mid.specs.declared.code.Op.{Op}
use Rattle.dg_mid.specs.Actions.{registers_of, world_of}
use Rattle.dg_mid.specs.State.{Mid, Runs as RunsOf}
use Rattle.dg_mid.specs.Step.{setting, bound, done, unified}
use Rattle.dg_machine.specs.declared.memory.Memory.{Memory}
use Rattle.dg_machine.specs.declared.now.Now.{Now}
use Rattle.dg_machine.specs.declared.tables.Tables.{Tables}
use Rattle.dg_machine.specs.Layout.{Holds}
use Rattle.dg_machine.specs.Refs.{RefsAt}
use Rattle.dg_machine.specs.Standing.{CodeIs, Stands}
use Rattle.dg_machine.specs.Tables.{IsOf}

-- The values of two Refs are unified.
abbrev pub UnifiesMade : Code → Memory → Ref → Ref → List Op → Memory → Now → Type 0
UnifiesMade code old into made rest new after = (g : Game) (l : Limits) (m : Mid) (u v : Value) → CodeIs rest m → Holds code l old m →
    (meaning_of old.arena).value into ≡ Some u → (meaning_of old.arena).value made ≡ Some v →
    Stands code l new after (unified (setting g code l) (unify m.state.subst u v) m (RunsOf (bound (unify m.state.subst u v) m)))

-- A value is made, which takes its cells, and unified with that of a Ref; what lasts may become as in any world.
abbrev pub Gives : Code → Value → Memory → Ref → List Op → Memory → Now → Type 0
Gives code v old into rest new after = (g : Game) (l : Limits) (m : Mid) (u : Value) (w : World) → CodeIs rest m → Holds code l old m →
    (meaning_of old.arena).value into ≡ Some u → Stands code l new after (done (setting g code l) (gives u v (registers_of m) w) m)

-- The first argument is split into letters, and the second unified with their list.
abbrev pub SplitsArgs : Tables → Code → Memory → List Op → Memory → Now → Type 0
SplitsArgs t code old rest new after = (g : Game) → IsOf g.program t → (l : Limits) (m : Mid) (u v : Value) → CodeIs rest m → Holds code l old m →
    RefsAt (meaning_of old.arena) old.args.items (u ∷ v ∷ []) → Stands code l new after (done (setting g code l)
    (splits g (letters_in_word g.program.words (walk m.state.subst u)) v (registers_of m) (worked (looked_up (registers_of m) u) (world_of [] m))) m)

-- The words of the first argument are joined, and the second unified with the word that they make.
abbrev pub JoinsArgs : Tables → Code → Memory → List Op → Memory → Now → Type 0
JoinsArgs t code old rest new after = (g : Game) → IsOf g.program t → (l : Limits) (m : Mid) (u v : Value) → CodeIs rest m → Holds code l old m →
    RefsAt (meaning_of old.arena) old.args.items (u ∷ v ∷ []) → Stands code l new after (done (setting g code l)
    (joins g (joined_letters g.program.words (resolved m.state.subst u)) v (registers_of m) (worked (whole_looks (registers_of m) u) (world_of [] m))) m)
