-- What is left of a trace without its calls shows the run as its lines do.
use Rattle.std.proofs.Common.{◌≡◌, ℕ, List, Option, Some, inl, inr, ap, ◌∙◌}
use Rattle.dg_base.specs.Sound.{IsSound}
use Rattle.dg_meaning.specs.World.{Game, Event}
use Rattle.dg_meaning.specs.Shows.{plain}
use Rattle.dg_meaning.specs.Transcript.{run, line_of, input_fault_line, no_memory_line}
use Rattle.dg_meaning.specs.Trace.{erased, names_of}
use Rattle.dg_meaning.proofs.Trace.{erases}
use Rattle.dg_trace.specs.Traced.{traced}
use Rattle.dg_trace.specs.inside.Erased.{ErasesToText, ErasesWithoutInput, ErasesWithoutMemory}
use Rattle.dg_trace.proofs.Naming.{sound_names}

erased_is : (g : Game) (lines : List ℕ) (events : List Event) (line : Option (List ℕ)) → IsSound g.program → lines ≡ traced g events line → erased lines ≡ plain events line
erased_is g lines events line sound text = ap erased text ∙ erases (names_of g.program) (sound_names g.program sound) events line

pub to_text : ErasesToText
to_text g typed limits lines outcome left sound (inl h) = inl (record {
  begins = h.begins;
  text = erased_is g lines (run g typed limits.steps).world.events (Some (line_of (run g typed limits.steps).ending)) sound h.text;
  ending = h.ending;
  goals = h.goals;
  left_is = h.left_is;
})
to_text g typed limits lines outcome left sound (inr h) = inr (record {
  begins = h.begins;
  area = h.area;
  ending = h.ending;
  goals = h.goals;
  passed = h.passed;
  part = h.part;
  text = erased_is g lines h.part (Some (line_of outcome.ending)) sound h.text;
  until = h.until;
  since = h.since;
  none_before_the_first = h.none_before_the_first;
  input = h.input;
  covers = h.covers;
})

pub without_input : ErasesWithoutInput
without_input g typed limits lines left sound h = record {
  goals = h.goals;
  below = h.below;
  text = erased_is g lines (run g typed h.goals).world.events (Some input_fault_line) sound h.text;
  given = h.given;
  is_given = h.is_given;
  goes_on = h.goes_on;
  no_more = h.no_more;
  reads = h.reads;
}

pub without_memory : ErasesWithoutMemory
without_memory g typed limits lines left sound h = record {
  part = h.part;
  text = erased_is g lines h.part (Some no_memory_line) sound h.text;
  until = h.until;
  input = h.input;
}
