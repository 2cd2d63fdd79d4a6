-- What a command of the code says, and the words of its options.
use Rattle.std.specs.Prelude.{◌<◌, length, IfSome}
use Rattle.std.specs.Option.{option_map}
use Rattle.dialog_tool.specs.Command as spec
use Rattle.dialog_tool.specs.declared.command.Command.{Command}
use Rattle.dialog_tool.specs.declared.command.Command.TheVariants.{Debug, Play, Run, Build, Singles, Make, List, Join, Trace}
use Rattle.dialog_tool.specs.declared.command.Task.{Task}
use Rattle.dialog_tool.specs.declared.options.Values.{Values}

abbrev pub task_view : Task → spec.Task
task_view t = record { name = t.name.now; steps = t.steps; heap = t.heap; trail = t.trail; dice = option_map (λ d. d.items) t.dice }

abbrev pub command_view : Command → spec.Command
command_view (Debug task) = spec.debug (task_view task)
command_view (Play task) = spec.play (task_view task)
command_view (Run task) = spec.run (task_view task)
command_view (Build name to) = spec.build name.now to.now
command_view (Singles name) = spec.singles name.now
command_view (Make n) = spec.make n
command_view (List name) = spec.list name.now
command_view (Join name to) = spec.join name.now to.now
command_view (Trace task) = spec.trace (task_view task)

abbrev pub values_view : Values → spec.OptionWords
values_view g = record {
  steps = option_map (λ w. w.now) g.steps;
  heap = option_map (λ w. w.now) g.heap;
  trail = option_map (λ w. w.now) g.trail;
  dice = option_map (λ w. w.now) g.dice;
}

-- Dice of its own aren't empty.
abbrev pub HasDice : Task → Type 0
HasDice task = IfSome task.dice (λ d. 0 < length d.items)

abbrev pub CommandHasDice : Command → Type 0
CommandHasDice (Debug task) = HasDice task
CommandHasDice (Play task) = HasDice task
CommandHasDice (Run task) = HasDice task
CommandHasDice (Build name to) = Unit {0}
CommandHasDice (Singles name) = Unit {0}
CommandHasDice (Make n) = Unit {0}
CommandHasDice (List name) = Unit {0}
CommandHasDice (Join name to) = Unit {0}
CommandHasDice (Trace task) = HasDice task
