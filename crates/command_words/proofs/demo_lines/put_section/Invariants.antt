use Rattle.std.proofs.Common.{◌≡◌, ◌++◌}
use Rattle.command_words.specs.Demo.{joined, for_each}
use Rattle.command_words.specs.Sections.{section_lines}
use Rattle.command_words.proofs.demo_lines.put_section.Given as goal

abbrev pub invariant-loop-i : goal.invariant-loop-i
invariant-loop-i l = l.text.items ≡ l.fn.text.items ++ joined (for_each (section_lines l.section) l.i)
