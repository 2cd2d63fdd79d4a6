-- What stands open in the reader, as the machine's stack. The proofs alone rest on it.
use Rattle.std.specs.Prelude.{◌≡◌, Option, Some, None, Result, Ok, Err}
use Rattle.dg_base.specs.TreeView.{value_view}
use Rattle.dg_reader.specs.Grammar as grammar
use Rattle.dg_reader.specs.inside.Machine as machine
use Rattle.dg_open.specs.inside.Standing as standing
use Rattle.dg_open.specs.inside.Views.{frame_view, wrapper_view}
use Rattle.dg_reader.specs.declared.ends.Opening.{Opening}
use Rattle.dg_reader.specs.declared.ends.Opening.TheVariants as opening
use Rattle.dg_reader.specs.declared.halts.Stop.{Stop}
use Rattle.dg_reader.specs.declared.halts.Stop.TheVariants.{Unexpected, OutOfMemory}
use Rattle.dg_reader.specs.declared.keyword.Bare.{Bare}
use Rattle.dg_reader.specs.declared.keyword.Bare.TheVariants as bare
use Rattle.dg_reader.specs.declared.keyword.Keyword.{Keyword}
use Rattle.dg_reader.specs.declared.keyword.Keyword.TheVariants as keyword

abbrev pub bare_view : Bare → grammar.Bare
bare_view bare.Now = grammar.now_word
bare_view bare.If = grammar.if_word
bare_view bare.Then = grammar.then_word
bare_view bare.Elseif = grammar.elseif_word
bare_view bare.Else = grammar.else_word
bare_view bare.Endif = grammar.endif_word
bare_view bare.Or = grammar.or_word
bare_view bare.Exhaust = grammar.exhaust_word
bare_view bare.Stoppable = grammar.stoppable_word
bare_view bare.Select = grammar.select_word
bare_view (bare.End mode) = grammar.end_word mode

abbrev pub keyword_view : Keyword → grammar.Keyword
keyword_view (keyword.Bare b) = grammar.bare (bare_view b)
keyword_view (keyword.Collect v) = grammar.collect_word (value_view v)
keyword_view (keyword.Accumulate v) = grammar.accumulate_word (value_view v)
keyword_view (keyword.Into v) = grammar.into_word (value_view v)

abbrev pub opening_view : Opening → machine.Opening
opening_view (opening.Begins f) = machine.begins (frame_view f)
opening_view (opening.Waits w) = machine.waits (wrapper_view w)
opening_view (opening.Ends k) = machine.ends (keyword_view k)

-- The step was taken, or the token can't stand there, unless memory ran out.
abbrev pub Moves : {T : Type 0} → Option standing.Stack → Result T Stop → standing.Stack → Type 0
Moves next (Ok x) new = next ≡ Some new
Moves next (Err Unexpected) new = next ≡ None
Moves next (Err OutOfMemory) new = Unit {0}
