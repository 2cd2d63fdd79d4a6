-- The bytes of a story with their rights (Z-Machine Standard 1.1, section 1.1).
use Rattle.z_model.specs.Memory.{Memory, guarded}
use Rattle.z_memory.specs.declared.memory.Story.{Story}
use Rattle.z_memory.specs.Rights.{based}

abbrev pub story_memory : Story → Memory
story_memory s = guarded (based s.base) s.bytes.items
