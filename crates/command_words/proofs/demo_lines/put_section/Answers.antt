-- The lines of one number go behind those of the numbers before it.
use Rattle.std.proofs.Common.{◌++◌, ◌∙◌, ap, sym, append-nil}
use Rattle.command_words.specs.Sections.{section_lines}
use Rattle.command_words.proofs.DemoLemmas.{joined-nil, section_more}
use Rattle.command_words.proofs.demo_lines.put_section.Goals as goal

pub loop-i-init : goal.loop-i-init
loop-i-init c = sym (append-nil c.args.text.now.items) ∙ ap (λ x. c.args.text.now.items ++ x) (sym joined-nil)

pub loop-i-preserved : goal.loop-i-preserved
loop-i-preserved c =
    section_more (section_lines c.args.section) c.loop-i.i c.args.text.now.items c.loop-i.text.items c.put_numbered.new.text.items
    c.loop-i.invariant c.in_ok-put_numbered.ensures
