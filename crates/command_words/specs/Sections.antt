-- The lines of each section of a demo, for one number.
use Rattle.std.specs.Prelude.{ℕ, List}
use Rattle.command_words.specs.Demo.{key_made, key_used, key_tested, key_deleted}
use Rattle.command_words.specs.declared.demo_lines.Section.{Section}
use Rattle.command_words.specs.declared.demo_lines.Section.TheVariants.{Made, Used, Tested, Deleted}

abbrev pub section_lines : Section → ℕ → List (List ℕ)
section_lines Made i = key_made i
section_lines Used i = key_used i
section_lines Tested i = key_tested i
section_lines Deleted i = key_deleted i
